-- A delivery leads from the world of a network to another.
use Rattle.std.proofs.Common.{◌≡◌, ℕ, ◌<◌, List, ◌∷◌, drop, length, get_or, refl, sym, ap, ◌∙◌, subst, Option}
use Rattle.j39_claim.specs.declared.item.Say.{Say}
use Rattle.j39_claim.specs.declared.item.Item.{Item}
use Rattle.j39_claim.specs.ClaimRule.{PlannedUnit, Reacts}
use Rattle.j39_claim.specs.ClaimerValue.{ClaimerValue}
use Rattle.j39_network.specs.PlannedUnits.{unit_at}
use Rattle.j39_world.specs.Sent.{Sent}
use Rattle.j39_world.specs.World.{World, Undelivered, changed_pair}
use Rattle.j39_world.specs.ClaimSteps.{send_to_others, answer_items, GivenFrom}
use Rattle.j39_bus.specs.Stations.{absent_unit, station_at}
use Rattle.j39_bus.specs.inside.Network.{planned_units, HasAnswered}
use Rattle.j39_bus.proofs.Worlds.{unit_at-planned_units, planned_units-set, world, world_set}

pub planned_units_heard : (cs : List ClaimerValue) (v name : ℕ) (item : Item) (says : Option Say) (new : List ClaimerValue)
    → HasAnswered cs v name item says new
    → planned_units new ≡ planned_units cs
planned_units_heard cs v name item says new (s, is, answers) = (λ i. planned_units (is i))
    ∙ planned_units-set cs v (record (get_or cs v absent_unit) { state = s }) refl

pub delivered : (b : World) (cs : List ClaimerValue) (claims left : Undelivered) (fs : List Sent) (u v : ℕ) → v < length cs
    → (item : Item) → claims u v ≡ item ∷ drop 1 (claims u v) → left ≡ changed_pair claims u v (drop 1 (claims u v))
    → (name : ℕ) → name ≡ (get_or cs u absent_unit).planned.name
    → (says : Option Say) (new : List ClaimerValue) → HasAnswered cs v name item says new
    → (after : World) → after ≡ send_to_others (planned_units new) (world b new left fs) v (answer_items says)
    → GivenFrom (planned_units cs) (world b cs claims fs) u v (claims u v) after
delivered b cs claims left fs u v in_v item is_oldest left_is name name_is says new (s, is, answers) after after_is =
    subst (λ (l : List Item). GivenFrom (planned_units cs) (world b cs claims fs) u v l after) (sym is_oldest) (
      says,
      s,
      subst (λ (n : ℕ). Reacts (unit_at (planned_units cs) v) (station_at cs v) n item says s)
          (name_is ∙ sym (ap (λ (c : PlannedUnit). c.name) (unit_at-planned_units cs u)))
          (subst (λ (c : PlannedUnit). Reacts c (station_at cs v) name item says s) (sym (unit_at-planned_units cs v)) answers),
      after_is
          ∙ (λ i. send_to_others (planned_units_heard cs v name item says new (s, is, answers) i)
          (((λ j. world b (is j) (left_is j) fs) ∙ world_set b cs (changed_pair claims u v (drop 1 (claims u v))) fs v
          (record (get_or cs v absent_unit) { state = s }) in_v) i) v (answer_items says)),
    )
