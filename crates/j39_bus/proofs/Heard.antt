-- A unit of a list that has heard an item.
use Rattle.std.proofs.Common.{◌≡◌, ℕ, ◌<◌, List, length, get_or, set, refl, sym, ap, ◌∙◌, subst, Option, Some, None, true, false, cond}
use Rattle.std.proofs.Math.Seq.{set-get_or}
use Rattle.std.specs.Bool.{MatchBool}
use Rattle.j39_claim.specs.declared.item.Say.{Say}
use Rattle.j39_claim.specs.declared.item.Item.{Item}
use Rattle.j39_claim.specs.declared.item.Item.TheVariants.{AddressClaimed, Request}
use Rattle.j39_claim.specs.ClaimRule.{ClaimState, PlannedUnit, Reacts, said_by, say_of, claim_of}
use Rattle.j39_claim.specs.ClaimerValue.{ClaimerValue}
use Rattle.j39_network.specs.PlannedUnits.{unit_at}
use Rattle.j39_bus.specs.Stations.{absent_unit, station_at}
use Rattle.j39_bus.specs.inside.Network.{HasAnswered, planned_units}
use Rattle.j39_bus.proofs.Worlds.{any_default, unit_at-planned_units}

-- by what the unit itself does at what it hears
pub stated : (cs : List ClaimerValue) (v : ℕ) → v < length cs → (old new : ClaimerValue) → old ≡ get_or cs v old → (after : ClaimState)
    → new ≡ record old { state = after }
    → (name : ℕ) (item : Item) (say : Say) (number : ℕ) (says : Option Say) → item ≡ AddressClaimed say → say_of number ≡ say
    → Reacts old.planned old.state name (AddressClaimed (say_of number)) says new.state → HasAnswered cs v name item says (set cs v new)
stated cs v inside old new at after left name item say number says is same rule =
    let old_is : old ≡ get_or cs v absent_unit = at ∙ any_default cs v old absent_unit inside in (
      new.state,
      (λ i. set cs v (record { planned = (left i).planned; state = new.state })) ∙ (λ i. set cs v (record (old_is i) { state = new.state })),
      subst (λ (it : Item). Reacts (get_or cs v absent_unit).planned (station_at cs v) name it says new.state) (sym is)
          (subst (λ (c : ClaimerValue). Reacts c.planned c.state name (AddressClaimed say) says new.state) old_is
          (subst (λ (s : Say). Reacts old.planned old.state name (AddressClaimed s) says new.state) same rule)),
    )

-- at a request, a unit that claims says what it holds
asked : (c : PlannedUnit) (s : ClaimState) (name : ℕ) (says : Option Say) → says ≡ said_by c (claim_of s.address) → Reacts c s name Request says s
asked c s name says is =
    elim (c.claims)
    as (λ b. says ≡ cond b (Some (claim_of s.address)) None
    → MatchBool b ((says ≡ Some (claim_of s.address)) × (s ≡ s)) ((says ≡ None) × (s ≡ s))) [
      | true ↦ λ said. (said, refl)
      | false ↦ λ said. (said, refl)
    ] is

-- at a request
pub requested : (cs : List ClaimerValue) (v : ℕ) → v < length cs → (old : ClaimerValue) → old ≡ get_or cs v old → (name : ℕ) (item : Item) (says : Option Say)
    → item ≡ Request → says ≡ said_by old.planned (claim_of old.state.address)
    → HasAnswered cs v name item says cs
requested cs v inside old at name item says is said =
    let old_is : old ≡ get_or cs v absent_unit = at ∙ any_default cs v old absent_unit inside in (
      station_at cs v,
      sym (set-get_or cs v absent_unit),
      subst (λ (it : Item). Reacts (get_or cs v absent_unit).planned (station_at cs v) name it says (station_at cs v)) (sym is)
          (asked (get_or cs v absent_unit).planned (station_at cs v) name says
          (said ∙ ap (λ (c : ClaimerValue). said_by c.planned (claim_of c.state.address)) old_is)),
    )

-- what the unit at a place answers to a request
pub answer_at : (cs : List ClaimerValue) (u : ℕ) (old : ClaimerValue) (says : Option Say) → u < length cs → old ≡ get_or cs u old
    → says ≡ said_by old.planned (claim_of old.state.address)
    → says ≡ said_by (unit_at (planned_units cs) u) (claim_of (station_at cs u).address)
answer_at cs u old says inside at said =
    let old_is : old ≡ get_or cs u absent_unit = at ∙ any_default cs u old absent_unit inside in
    said ∙ ap (λ (c : ClaimerValue). said_by c.planned (claim_of c.state.address)) old_is
    ∙ ap (λ (p : PlannedUnit). said_by p (claim_of (station_at cs u).address)) (sym (unit_at-planned_units cs u))
