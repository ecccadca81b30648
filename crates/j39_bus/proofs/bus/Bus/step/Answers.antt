use Rattle.std.proofs.Common.{◌≡◌, ◌∙◌, subst, ap, Some, None}
use Rattle.j39_world.specs.Run.{cause_of}
use Rattle.j39_bus.specs.inside.Network.{IsRefusal}
use Rattle.j39_bus.proofs.Acting.{allowed_by}
use Rattle.j39_bus.proofs.Standing.{own_refusal, step_done, step_refused}
use Rattle.j39_bus.proofs.bus.Bus.step.Goals as goal

pub returns-in-Some-clause-refused : goal.returns-in-Some-clause-refused
returns-in-Some-clause-refused g c =
    let net = c.self.inside.network in
    let own = own_refusal net c.args.step.now c.in-Some.error c.in-Some.ensures in
    step_refused net c.args.self.now c.self.view_is c.args.step.now (cause_of c.in-Some.error)
    (subst (IsRefusal net c.args.step.now) own c.in-Some.ensures)

pub returns-in-Some-clause-memory : goal.returns-in-Some-clause-memory
returns-in-Some-clause-memory g c = λ e.
    let never : Some c.in-Some.error ≡ None = own_refusal c.self.inside.network c.args.step.now c.in-Some.error c.in-Some.ensures ∙ ap cause_of e in
    absurd (cc never)

pub returns-in_default-act-clause-refused : goal.returns-in_default-act-clause-refused
returns-in_default-act-clause-refused g c =
    let net = c.self.inside.network in
    step_refused net c.args.self.now c.self.view_is c.args.step.now None (subst (IsRefusal net c.args.step.now) c.in_default.is c.refusal.ensures)

pub act-requires-clause-allowed : goal.act-requires-clause-allowed
act-requires-clause-allowed g c = allowed_by c.self.inside.network c.args.step.now _ c.in_default.is c.refusal.ensures

pub returns-clause-ok : goal.returns-clause-ok
returns-clause-ok g c =
    let net = c.self.inside.network in
    step_done net c.args.self.now c.self.view_is c.args.step.now c.act.new.self c.act.ensures.plan
    (allowed_by net c.args.step.now _ c.in_default.is c.refusal.ensures) c.in-Ok.ensures.steps
