use Rattle.std.proofs.Common.{sym, subst, ◌∙◌}
use Rattle.j39_audit.specs.BegunBroadcasts.{ended_with}
use Rattle.j39_audit.specs.declared.pauses.Ending.{Ending}
use Rattle.j39_audit.specs.inside.Recalling.{RecallsBroadcasts, settings_of}
use Rattle.j39_audit.proofs.Keeping.{kept_less}
use Rattle.j39_audit.proofs.broadcasts.BegunBroadcasts.end.Goals as goal

pub returns-in-OfUnit : goal.returns-in-OfUnit
returns-in-OfUnit c = λ b recalls.
    let new = record c.args.self.now { begun = c.forget_at.new.kept } in
    let forgot = c.forget_at.ensures in
    subst (λ (e : Ending). RecallsBroadcasts (settings_of c.args.basis.now) new (ended_with e b)) (sym c.in-OfUnit.is)
    (record {
      size = forgot.size ∙ recalls.size;
      begun = kept_less c.in-OfUnit.unit forgot.others forgot.size forgot.here recalls.begun;
      counted = recalls.counted;
    })

pub returns-in-OfAll : goal.returns-in-OfAll
returns-in-OfAll c = λ b recalls.
    subst (λ (e : Ending). RecallsBroadcasts (settings_of c.args.basis.now) c.forget_all.new.self (ended_with e b)) (sym c.in-OfAll.is)
    (c.forget_all.ensures b recalls)
