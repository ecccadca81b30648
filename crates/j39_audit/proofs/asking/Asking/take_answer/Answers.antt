use Rattle.std.proofs.Common.{◌≡◌, ℕ, Option, sym, ap, subst, ◌∙◌}
use Rattle.j39_follow.specs.Who.{unit_of_name}
use Rattle.j39_audit.specs.Asking.{answered}
use Rattle.j39_audit.specs.inside.Recalling.{RecallsAsking, settings_of}
use Rattle.j39_audit.proofs.asking.Asking.take_answer.Goals as goal

pub returns-then-is_claim : goal.returns-then-is_claim
returns-then-is_claim c = λ a recalls.
    let s = settings_of c.args.basis.now in
    let new = c.take_claim.new.self in
    let name = c.to_bits.ensures.value ∙ c.carried_name.ensures in
    let who : c.unit_named-claimant.result ≡ _ = c.unit_named-claimant.ensures ∙ ap (unit_of_name s.plan) name in
    rw (sym c.is_claim.ensures ∙ c.if-is_claim.true) (subst (λ (u : Option ℕ). RecallsAsking s new (answered u a)) who (c.take_claim.ensures a recalls))
