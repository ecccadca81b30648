use Rattle.std.proofs.Common.{Bool, Option, ℕ, cond, ap, is_some, sym, ◌∙◌, arith}
use Rattle.j39_load.specs.AskedFlows.{asked_every}
use Rattle.j39_load.proofs.Askers.{one_more}
use Rattle.j39_load.proofs.loads.answers.askers_of.Goals.{then-is_some, else-is_some}
use Rattle.j39_load.proofs.loads.answers.askers_of.Goals as goal

pub loop-request-preserved : goal.loop-request-preserved
loop-request-preserved c =
    let (so_far, few) = c.loop-request.invariant in
    let flow = c.args.flow.now in
    let more = one_more (asked_every c.args.flow.now) c.args.requests.now c.loop-request.request-index c.request-item.result c.loop-request-test.true in
    let asked = ap (λ (o : Option ℕ). is_some o) (ap (asked_every flow) (sym c.request-item.is) ∙ sym c.asked_every.ensures) ∙ sym c.is_some.ensures in
    let one_if : Bool → ℕ = λ b. cond b 1 0 in
    elim c.if-is_some.branch [
      | then-is_some w ↦
          let counts = ap one_if (asked ∙ w.if-is_some.true) in
          (omega (arith, so_far, more, counts, w.askers-is), omega (arith, w.askers-is, few))
      | else-is_some w ↦
          let counts = ap one_if (asked ∙ w.if-is_some.false) in
          (omega (arith, so_far, more, counts, w.askers-is), omega (arith, w.askers-is, few))
    ]
