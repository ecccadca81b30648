-- That what is asked of a bus in the plan's own words can be met in a vehicle that lacks a unit, to which others go on sending.
use Rattle.std.specs.Prelude.{◌≡◌, ℕ, Bool, cond}
use Rattle.j39_network.specs.declared.plan.Plan.{Plan}
use Rattle.j39_network.specs.declared.plan.timing.Timing.{Timing}
use Rattle.j39_load.specs.KeepsPlan.{KeptBus}
use Rattle.j39_load.specs.SentFrames.{Single, TakesPart}

-- a bus on which so many frames of two flows are sent, in this order, and none that the unit takes part in
pub record CanBeKeptWithout (plan : Plan) (timing : Timing) (u f g : ℕ) (first : ℕ → Bool) (n : ℕ) : Type 0 where
  pub bus : KeptBus plan timing
  pub frames : bus.s.count ≡ n
  pub of_flows : (p : ℕ) → bus.sent.source p ≡ cond (first p) (Single f) (Single g)
  pub unsent : (p : ℕ) → TakesPart plan (bus.sent.source p) u → ⊥
