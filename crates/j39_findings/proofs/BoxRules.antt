-- What is found of units alone is found of their boxes.
use Rattle.std.proofs.Common.{◌≡◌, ℕ, refl}
use Rattle.std.specs.FinSet.{FinSet}
use Rattle.std.specs.Ordering.{nat_cmp}
use Rattle.j39_network.specs.declared.plan.unit_plan.UnitPlan.{UnitPlan}
use Rattle.j39_findings.specs.Found.{have_same_fixed_address, needs_pool_address, prefers_kept, have_silent_address, is_silent_in_pool}
use Rattle.j39_network.specs.VehiclePlans.{IsBoxOf}
use Rattle.j39_network.proofs.VehicleUnits.{box_chooses}

-- ---- a unit and its box

module _ (u b : UnitPlan) (box : IsBoxOf u b) where
  pub box_needs : (kept : FinSet nat_cmp) → needs_pool_address kept b ≡ needs_pool_address kept u
  box_needs kept = rw (box_chooses u b box, box.address) refl

  pub box_prefers : (kept : FinSet nat_cmp) → prefers_kept kept b ≡ prefers_kept kept u
  box_prefers kept = rw (box_chooses u b box, box.address) refl

  pub box_silent : (kept : FinSet nat_cmp) (strangers : ℕ) → is_silent_in_pool kept strangers b ≡ is_silent_in_pool kept strangers u
  box_silent kept strangers = rw (box.address, box.claims) refl

pub boxes_fixed : (u b v c : UnitPlan) → IsBoxOf u b → IsBoxOf v c → have_same_fixed_address b c ≡ have_same_fixed_address u v
boxes_fixed u b v c one other =
    rw (box_chooses u b one, box_chooses v c other, one.address, other.address, one.claims, other.claims) refl

pub boxes_silent : (u b v c : UnitPlan) → IsBoxOf u b → IsBoxOf v c → have_silent_address b c ≡ have_silent_address u v
boxes_silent u b v c one other = rw (one.address, other.address, one.claims, other.claims) refl
