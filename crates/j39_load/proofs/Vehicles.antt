-- The plan of each vehicle asks the same of its bus as the plan, where no two units may be one.
use Rattle.std.proofs.Common.{◌≡◌, ◌≢◌, ℕ, zero, suc, ◌<◌, Bool, true, false, List, [], ◌∷◌, Option, Some, None, if◌then◌else◌, ◌==◌, ◌&&◌, ◌^◌, ◌++◌}
use Rattle.std.proofs.Common.{refl, sym, ◌+◌, ◌≤◌, ◌∙◌, ap, cond, max, subst, inl, inr, arith}
use denote.Struct.Props.{props}
use mathlib.Core.HLevel.{is_prop→PathP}
use Rattle.std.specs.Bool.{MatchBool}
use Rattle.std.specs.List.{AllZip, slice_get}
use Rattle.std.specs.Option.{option_map, option_map_or}
use Rattle.std.proofs.lemmas.Bool.{cases_Bool, eqb-true, eq-eqb}
use Rattle.std.proofs.lemmas.Option.{none-some, same_Some}
use Rattle.std.proofs.lemmas.List.Sums.{sum_by-cons}
use Rattle.std.proofs.lemmas.Slice.Zip.{AllZip-long}
use Rattle.j39_network.specs.Kinds.{AreDistinctUnits}
use Rattle.j39_network.specs.VehiclePlans.{IsBoxOf, IsVehicleOf}
use Rattle.j39_network.specs.declared.plan.Plan.{Plan}
use Rattle.j39_network.specs.declared.plan.flow_plan.FlowPlan.{FlowPlan}
use Rattle.j39_network.specs.declared.plan.need_plan.NeedPlan.{NeedPlan}
use Rattle.j39_network.specs.declared.plan.request_plan.RequestPlan.{RequestPlan}
use Rattle.j39_network.specs.declared.plan.timing.Timing.{Timing}
use Rattle.j39_network.specs.declared.plan.unit_plan.UnitPlan.{UnitPlan}
use Rattle.j39_network.proofs.VehicleUnits.{AreBoth, both_at, box_chooses, ordered, unit_of}
use Rattle.j39_load.specs.declared.waits.delay.Delay.{Delay}
use Rattle.j39_load.specs.declared.findings.load_finding.LoadFinding.{LoadFinding}
use Rattle.j39_load.specs.Ages.{old_needs}
use Rattle.j39_load.specs.Asked.{Asked, asked_of, total_load}
use Rattle.j39_load.specs.Delays.{AreFlowDelays}
use Rattle.j39_load.specs.BusTimes.{timing_of, with_claims}
use Rattle.j39_load.specs.LiveClaims.{claiming, claims_stated, last_claim, unplanned_end, unplanned_of}
use Rattle.j39_load.specs.LoadFindings.{AreLoadFindings, AsksOfBus, all_findings, flows_asked_too_often, load_findings}
use Rattle.j39_findings.specs.Standing.{DecidesWhoStays}
use Rattle.j39_load.specs.VehicleLoads.{AreLoadsAlike, StandAlike}
use Rattle.j39_load.proofs.OneLoad.{AreSeenAlike, asked_alike, stated_once}
use Rattle.j39_load.specs.inside.FewClaims.{few_unplanned}
use Rattle.j39_network.specs.PlannedUnits.{units_of}
use Rattle.j39_network.specs.Staying.{StaysBeside}
use Rattle.j39_network.proofs.StayingBoxes.{stay_alike}

-- what is reported of a unit is reported of the box at its place, which is known by its NAME
stated_by : List UnitPlan → List UnitPlan → (UnitPlan → Bool) → UnitPlan → Bool
stated_by [] boxes stays x = false
stated_by (unit ∷ units) [] stays x = false
stated_by (unit ∷ units) (box ∷ boxes) stays x = if box.name == x.name then stays unit else stated_by units boxes stays x

abbrev HaveOwnNames : List UnitPlan → Type 0
HaveOwnNames boxes = (i j : ℕ) (b c : UnitPlan) → i < j → slice_get boxes i ≡ Some b → slice_get boxes j ≡ Some c → b.name ≢ c.name

stated_at : (stays : UnitPlan → Bool) (units boxes : List UnitPlan) → HaveOwnNames boxes → (k : ℕ) (unit box : UnitPlan)
    → slice_get units k ≡ Some unit → slice_get boxes k ≡ Some box → stated_by units boxes stays box ≡ stays unit
unfolding stated_by
stated_at stays [] boxes own k unit box at_unit at_box = absurd (none-some _ at_unit)
stated_at stays (x ∷ units) [] own k unit box at_unit at_box = absurd (none-some _ at_box)
stated_at stays (x ∷ units) (y ∷ boxes) own zero unit box at_unit at_box =
    let same : y ≡ box = same_Some _ _ at_box in
    ap (λ (z : UnitPlan). if y.name == z.name then stays x else stated_by units boxes stays z) (sym same)
    ∙ ap (λ b. if b then stays x else stated_by units boxes stays y) (eq-eqb y.name y.name refl) ∙ ap stays (same_Some _ _ at_unit)
stated_at stays (x ∷ units) (y ∷ boxes) own (suc k) unit box at_unit at_box = elim (cases_Bool (y.name == box.name)) [
  | inl same ↦ absurd (own zero (suc k) y box (omega arith) refl at_box (eqb-true y.name box.name same))
  | inr other ↦
      ap (λ b. if b then stays x else stated_by units boxes stays box) other
      ∙ stated_at stays units boxes (λ i j b c below first second. own (suc i) (suc j) b c (omega (arith, below)) first second) k unit box at_unit at_box
]

-- as many boxes claim as units
as_many_claim : (units boxes : List UnitPlan) → AllZip IsBoxOf units boxes → claiming boxes ≡ claiming units
as_many_claim [] [] are = refl
as_many_claim [] (box ∷ boxes) are = absurd are
as_many_claim (unit ∷ units) [] are = absurd are
as_many_claim (unit ∷ units) (box ∷ boxes) are =
    sum_by-cons (λ (x : UnitPlan). cond x.claims 1 0) box boxes
    ∙ (ap (λ (b : Bool). cond b 1 0 + claiming boxes) are.0.claims ∙ ap (λ (n : ℕ). cond unit.claims 1 0 + n) (as_many_claim units boxes are.1))
    ∙ sym (sum_by-cons (λ (x : UnitPlan). cond x.claims 1 0) unit units)

module _ (plan vehicle : Plan) (is : IsVehicleOf plan vehicle) (apart : AreDistinctUnits plan) where
  -- of its bus the same is known
  pub timing_alike : timing_of vehicle ≡ timing_of plan
  unfolding timing_of
  timing_alike =
      ap (option_map (with_claims vehicle)) is.timing ∙ ap (λ (f : Timing → Timing). option_map f plan.timing) same
    where
      as_many : claims_stated vehicle ≡ claims_stated plan
      as_many =
          let units = as_many_claim plan.units.items vehicle.units.items is.boxes in
          let strangers = is.strangers in
          omega (arith, units, strangers)

      unplanned : (timing : Timing) → unplanned_of vehicle timing ≡ unplanned_of plan timing
      unplanned timing =
          ap (λ (b : Bool). if b then max timing.unplanned (claims_stated vehicle) else timing.unplanned) is.live
          ∙ ap (λ (n : ℕ). if plan.live then max timing.unplanned n else timing.unplanned) as_many

      same : with_claims vehicle ≡ with_claims plan
      same = λ i timing. record timing {
        unplanned = unplanned timing i;
        unplanned_range = is_prop→PathP (λ k. unplanned timing k ≤ 1000) (λ k. hlevel props) (few_unplanned vehicle timing) (few_unplanned plan timing) i;
      }

  -- and what isn't planned may have the same identifiers
  ends_alike : unplanned_end vehicle ≡ unplanned_end plan
  ends_alike =
      ap (λ (b : Bool). end_of b vehicle.timing) is.live ∙ ap (end_of plan.live) is.timing
    where
      end_of : Bool → Option Timing → ℕ
      end_of live timing = if live && option_map_or (λ (t : Timing). t.unplanned == 0) timing false then last_claim + 1 else 2 ^ 29

  abbrev units : List UnitPlan
  units = plan.units.items

  abbrev boxes : List UnitPlan
  boxes = vehicle.units.items

  own_names : HaveOwnNames boxes
  own_names i j b c below first second =
      let (u, at_u, one) = unit_of plan vehicle is apart i b first in
      let (v, at_v, other) = unit_of plan vehicle is apart j c second in
      let alike = ordered plan vehicle is apart i j u v b c at_u at_v one other (λ same. absurd (omega (arith, below, same))) in
      alike.apart

  -- a statement and one that holds where it does
  stated_over : (stated : Bool) (S R : Type 0) → (S → R) → (R → S) → MatchBool stated S (¬ S) → MatchBool stated R (¬ R)
  stated_over true S R there back is = there is
  stated_over false S R there back is = λ holds. is (back holds)

  beside : (u : ℕ) → StaysBeside plan.strangers (units_of plan) u → StaysBeside vehicle.strangers (units_of vehicle) u
  beside u stays =
      subst (λ n. StaysBeside n (units_of vehicle) u) (sym is.strangers) (((stay_alike plan vehicle is apart).beside u).0 stays)

  alone : (u : ℕ) → StaysBeside vehicle.strangers (units_of vehicle) u → StaysBeside plan.strangers (units_of plan) u
  alone u stays =
      ((stay_alike plan vehicle is apart).beside u).1 (subst (λ n. StaysBeside n (units_of vehicle) u) is.strangers stays)

  stand_alike : (stays : UnitPlan → Bool) → DecidesWhoStays plan stays → StandAlike plan vehicle stays
  stand_alike stays states = record {
    stated = stated_by units boxes stays;
    states = λ u box at_box.
        let (unit, at_unit, of_box) = unit_of plan vehicle is apart u box at_box in
        subst (λ b. MatchBool b (StaysBeside vehicle.strangers (units_of vehicle) u) (¬ StaysBeside vehicle.strangers (units_of vehicle) u))
        (sym (stated_at stays units boxes own_names u unit box at_unit at_box))
        (stated_over (stays unit) _ _ (beside u) (alone u) (states u unit at_unit));
    same = λ u unit box at_unit at_box. stated_at stays units boxes own_names u unit box at_unit at_box;
  }

  module _ (stays stated : UnitPlan → Bool) (states : DecidesWhoStays plan stays) (report : DecidesWhoStays vehicle stated) where
    seen : (v : ℕ) → AreBoth (AreSeenAlike stays stated) (slice_get units v) (slice_get boxes v)
    seen v = go (slice_get units v) (slice_get boxes v) refl refl (both_at IsBoxOf units boxes is.boxes v) where
      go : (o p : Option UnitPlan) → slice_get units v ≡ o → slice_get boxes v ≡ p → AreBoth IsBoxOf o p → AreBoth (AreSeenAlike stays stated) o p
      go None None at_unit at_box both = tt
      go None (Some box) at_unit at_box both = absurd both
      go (Some unit) None at_unit at_box both = absurd both
      go (Some unit) (Some box) at_unit at_box both = record {
        address = both.address;
        choice = box_chooses unit box both;
        window = both.window;
        queue = both.queue;
        standing = stated_once (stated box) (stays unit) _ (report v box at_box) (stated_over (stays unit) _ _ (beside v) (alone v) (states v unit at_unit));
      }

    same_asked : (timing : Timing) → asked_of timing plan stays ≡ asked_of timing vehicle stated
    same_asked timing =
        asked_alike plan vehicle timing stays stated seen (AllZip-long IsBoxOf units boxes is.boxes) is.groups is.flows is.requests ends_alike

  -- what is wrong with the same
  pub same_findings : (timing : Timing) (load : ℕ) (delays : List (Option Delay))
      → all_findings plan timing load delays ≡ all_findings vehicle timing load delays
  same_findings timing load delays =
      ap (λ (requests : List RequestPlan). found requests plan.flows.items plan.needs.items) (sym is.requests)
      ∙ ap (λ (flows : List FlowPlan). found vehicle.requests.items flows plan.needs.items) (sym is.flows)
      ∙ ap (λ (needs : List NeedPlan). found vehicle.requests.items vehicle.flows.items needs) (sym is.needs)
    where
      found : List RequestPlan → List FlowPlan → List NeedPlan → List LoadFinding
      found requests flows needs = load_findings timing load delays ++ (old_needs timing requests flows delays needs ++ flows_asked_too_often requests flows)

  pub asks_alike : (timing : Timing) (stays : UnitPlan → Bool) (delays : List (Option Delay)) → AsksOfBus plan timing stays delays
      → (stated : UnitPlan → Bool) → DecidesWhoStays vehicle stated → AsksOfBus vehicle timing stated delays
  asks_alike timing stays delays asks stated states = record {
    standing = states;
    waits = subst (λ (asked : Asked). AreFlowDelays timing asked delays) (same_asked stays stated asks.standing states timing) asks.waits;
  }

  findings_alike : (timing : Option Timing) (findings : List LoadFinding) → AreLoadFindings plan timing findings → AreLoadFindings vehicle timing findings
  findings_alike None findings are = are
  findings_alike (Some timing) findings (stays, delays, asks, are) =
      let there = stand_alike stays asks.standing in
      let asked = same_asked stays there.stated asks.standing there.states timing in (
        there.stated,
        delays,
        asks_alike timing stays delays asks there.stated there.states,
        are ∙ same_findings timing (total_load timing (asked_of timing plan stays)) delays
            ∙ ap (λ (a : Asked). all_findings vehicle timing (total_load timing a) delays) asked,
      )

  pub loads_alike : AreLoadsAlike plan vehicle
  loads_alike = record {
    standing = stand_alike;
    asked = λ timing stays stated states report. same_asked stays stated states report timing;
    timing = timing_alike;
    findings = λ findings are. subst (λ (timing : Option Timing). AreLoadFindings vehicle timing findings) (sym timing_alike)
        (findings_alike (timing_of plan) findings are);
  }
