-- A unit that is switched on.
use Rattle.std.proofs.Common.{◌≡◌, ℕ, ◌<◌, List, length, get_or, set, sym, ap, ◌∙◌, Option}
use Rattle.j39_claim.specs.declared.item.Say.{Say}
use Rattle.j39_claim.specs.declared.item.Say.TheVariants.{Claim}
use Rattle.j39_claim.specs.ClaimRule.{PlannedUnit, said_by, started}
use Rattle.j39_claim.specs.ClaimerValue.{ClaimerValue}
use Rattle.j39_network.specs.PlannedUnits.{unit_at}
use Rattle.j39_world.specs.Sent.{Sent}
use Rattle.j39_world.specs.Transfers.{Wire}
use Rattle.j39_world.specs.World.{World, Undelivered, changed}
use Rattle.j39_world.specs.ClaimSteps.{answer_items, send_to_others, switched_on, without_lists_to}
use Rattle.j39_bus.specs.Stations.{absent_unit, station_at}
use Rattle.j39_bus.specs.inside.Network.{planned_units}
use Rattle.j39_bus.proofs.Worlds.{any_default, planned_units-set, unit_at-planned_units, world, world_set}

module _ (cs : List ClaimerValue) (u : ℕ) (inside : u < length cs) (old new : ClaimerValue) (at : old ≡ get_or cs u old)
    (starts : new ≡ record old { state = started old.planned }) where
  same_planned_unit : new.planned ≡ (get_or cs u absent_unit).planned
  same_planned_unit = ap (λ (c : ClaimerValue). c.planned) (starts) ∙ ap (λ (c : ClaimerValue). c.planned) (at ∙ any_default cs u old absent_unit inside)

  pub planned_units_on : planned_units (set cs u new) ≡ planned_units cs
  planned_units_on = planned_units-set cs u new same_planned_unit

  pub on_planned_unit : new.planned ≡ (get_or cs u absent_unit).planned
  on_planned_unit = same_planned_unit

  pub switched : (b : World) (claims left : Undelivered) (fs : List Sent) → left ≡ without_lists_to u claims → (wire : Wire)
      → wire ≡ without_lists_to u b.wire → (says : Option Say) → says ≡ said_by old.planned (Claim old.planned.preferred)
      → (after : World) → after ≡ send_to_others (planned_units (set cs u new)) (record (world b (set cs u new) left fs) { wire = wire }) u (answer_items says)
      → after ≡ switched_on (planned_units cs) (world b cs claims fs) u
  switched b claims left fs left_is wire wire_is says said after after_is =
      let planned : old.planned ≡ unit_at (planned_units cs) u = ap (λ (c : ClaimerValue). c.planned) (at ∙ any_default cs u old absent_unit inside)
      ∙ sym (unit_at-planned_units cs u) in
      let state : new.state ≡ started (unit_at (planned_units cs) u) = ap (λ (c : ClaimerValue). c.state) starts ∙ ap started planned in
      let says_is : says ≡ said_by (unit_at (planned_units cs) u) (Claim (unit_at (planned_units cs) u).preferred) =
      said ∙ ap (λ (c : PlannedUnit). said_by c (Claim c.preferred)) planned in
      let before : world b (set cs u new) left fs ≡ record b
      { stations = changed (station_at cs) u (started (unit_at (planned_units cs) u)); claims = without_lists_to u claims; frames = fs } =
      (λ i. world b (set cs u new) (left_is i) fs) ∙ world_set b cs (without_lists_to u claims) fs u new inside
      ∙ (λ i. record b { stations = changed (station_at cs) u (state i); claims = without_lists_to u claims; frames = fs }) in
      after_is ∙ (λ i. send_to_others (planned_units_on i) (record (before i) { wire = wire_is i }) u (answer_items (says_is i)))
