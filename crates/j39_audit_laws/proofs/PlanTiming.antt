-- What is known of a plan's bus, where its times count the claims of a live one.
use Rattle.std.proofs.Common.{◌≡◌, Option, Some, None, refl}
use Rattle.std.specs.Option.{option_map}
use Rattle.std.proofs.lemmas.Option.{none-some, same_Some}
use Rattle.j39_network.specs.declared.plan.Plan.{Plan}
use Rattle.j39_network.specs.declared.plan.timing.Timing.{Timing}
use Rattle.j39_load.specs.BusTimes.{timing_of, with_claims}

pub planned_timing : (plan : Plan) (timing : Timing) → timing_of plan ≡ Some timing
    → (t : Timing) × (plan.timing ≡ Some t) × (with_claims plan t ≡ timing)
unfolding timing_of
planned_timing plan timing is = go plan.timing refl is
  where
    go : (o : Option Timing) → plan.timing ≡ o → option_map (with_claims plan) o ≡ Some timing
        → (t : Timing) × (plan.timing ≡ Some t) × (with_claims plan t ≡ timing)
    go None at none = absurd (none-some timing none)
    go (Some t) at some = (t, at, same_Some (with_claims plan t) timing some)
