-- A part asks no more of its bus.
use Rattle.std.proofs.Common.{◌≡◌, ℕ, ◌<◌, ◌≤◌, Bool, true, List, length, map, Option, Some, None, refl, sym, subst, arith}
use Rattle.std.specs.List.{slice_get}
use Rattle.std.specs.Option.{option_map_or}
use Rattle.std.proofs.lemmas.Bool.{lt-ltb}
use Rattle.std.proofs.lemmas.List.{length-map}
use Rattle.j39_findings.specs.Standing.{DecidesWhoStays}
use Rattle.j39_network.specs.declared.plan.Plan.{Plan}
use Rattle.j39_network.specs.declared.plan.timing.Timing.{Timing}
use Rattle.j39_network.specs.declared.plan.unit_plan.UnitPlan.{UnitPlan}
use Rattle.j39_load.specs.declared.frames.flow_frames.FlowFrames.{FlowFrames}
use Rattle.j39_load.specs.declared.loads.flow_load.FlowLoad.{FlowLoad}
use Rattle.j39_load.specs.declared.loads.request_load.RequestLoad.{RequestLoad}
use Rattle.j39_load.specs.declared.loads.unit_load.UnitLoad.{UnitLoad}
use Rattle.j39_load.specs.Asked.{asked_of, frames_asked, frames_of_flow, total_load}
use Rattle.j39_load.specs.FlowLoads.{load_of_flow}
use Rattle.j39_load.specs.Twins.{may_precede}
use Rattle.j39_part_laws.specs.PartLoads.{AskNoMore, AskNoMoreThan, counting, HasGoodNumbers, WaitNoLongerThan}
use Rattle.j39_part_laws.proofs.Busier.{same_asked}
use Rattle.j39_part_laws.specs.PlanParts.{AreSome, IsPartAt, Places}
use Rattle.j39_part_laws.proofs.AllFrames.{flows_some, frames_place, frames_some, requests_some, units_some}
use Rattle.j39_part_laws.proofs.FlowLoads.{FramesAlike, LoadsAlike}
use Rattle.j39_part_laws.proofs.Frames.{AreFramesWhere, waits_there}
use Rattle.j39_part_laws.proofs.PlanFrames.{AreTwinNumbers, one_twin}
use Rattle.j39_part_laws.proofs.Shares.{sum-no-more}
use Rattle.j39_part_laws.proofs.Sublists.{sub_of_some}
use Rattle.j39_part_laws.proofs.UnitLoads.{RequestsAlike, UnitsAlike}

where_counted : (at : Places) (Counts : FlowFrames → Type 0) (x y : Option FlowFrames) → FramesAlike at x y
    → AreFramesWhere at.unit (AreTwinNumbers at) Counts x y
where_counted at Counts None y alike = tt
where_counted at Counts (Some x) None alike = absurd alike
where_counted at Counts (Some x) (Some y) alike = (alike.0, λ counts. alike.1)

pub some_counted : (at : Places) (Counts : FlowFrames → Type 0) (place : ℕ → ℕ) (all others : List (Option FlowFrames))
    → AreSome place (FramesAlike at) all others → AreSome place (AreFramesWhere at.unit (AreTwinNumbers at) Counts) all others
some_counted at Counts place all others are = record {
  rises = are.rises;
  each = λ i x its. let there = are.each i x its in
      record { value = there.value; value_is = there.value_is; meets = where_counted at Counts x there.value there.meets };
}

module _ (at : Places) (timing : Timing) (unplanned : ℕ) (range : unplanned ≤ 1000) (busier : timing.unplanned ≤ unplanned)
    (all others : List (Option FlowFrames)) (place : ℕ → ℕ) (are : AreSome place (FramesAlike at) all others) where
  wait_no_longer : (i : ℕ) (own : FlowFrames) (there : Option FlowFrames) → slice_get all i ≡ Some (Some own) → slice_get others (place i) ≡ Some there
      → FramesAlike at (Some own) there → WaitNoLongerThan timing (counting timing unplanned range) all others i (place i) own
  wait_no_longer i own None its stands alike = absurd alike
  wait_no_longer i own (Some there) its stands alike =
      let waits = waits_there at.unit (AreTwinNumbers at) (one_twin at) timing unplanned range busier own there alike.0 (λ y. may_precede there y ≡ true)
      (λ y goes. goes) all others place (some_counted at (λ y. may_precede there y ≡ true) place all others are) i own there its stands alike.0 refl refl refl
      alike.1 in
      record { there = there; stands = stands; needs = waits.needs; least = waits.least }

  pub waits : (i : ℕ) (own : FlowFrames) → slice_get all i ≡ Some (Some own) → WaitNoLongerThan timing (counting timing unplanned range) all others i
      (place i) own
  waits i own its = let there = are.each i (Some own) its in wait_no_longer i own there.value its there.value_is there.meets

-- ---- loads

flow_bits : (at : Places) (l k : Option FlowLoad) → LoadsAlike at l k
    → option_map_or (λ (f : FlowLoad). f.bits_per_second) l 0 ≤ option_map_or (λ (f : FlowLoad). f.bits_per_second) k 0
flow_bits at None k alike = omega arith
flow_bits at (Some l) None alike = absurd alike
flow_bits at (Some l) (Some k) alike = let same = alike.bits in omega (arith, same)

unit_bits : (at : Places) (l k : Option UnitLoad) → UnitsAlike at l k
    → option_map_or (λ (f : UnitLoad). f.bits_per_second) l 0 ≤ option_map_or (λ (f : UnitLoad). f.bits_per_second) k 0
unit_bits at None k alike = omega arith
unit_bits at (Some l) None alike = absurd alike
unit_bits at (Some l) (Some k) alike = alike.bits

request_bits : (at : Places) (l k : Option RequestLoad) → RequestsAlike at l k
    → option_map_or (λ (f : RequestLoad). f.bits_per_second) l 0 ≤ option_map_or (λ (f : RequestLoad). f.bits_per_second) k 0
request_bits at None k alike = omega arith
request_bits at (Some l) None alike = absurd alike
request_bits at (Some l) (Some k) alike = let same = alike.2 in omega (arith, same)

module _ (at : Places) (part whole : Plan) (is : IsPartAt at part whole) (good : HasGoodNumbers whole) (timing : Timing) (stays reported : UnitPlan → Bool)
    (decides : DecidesWhoStays whole stays) (reports_who : DecidesWhoStays part reported) where
  load_no_more : total_load timing (asked_of timing part reported) ≤ total_load timing (asked_of timing whole stays)
  load_no_more =
      let flows = sum-no-more (LoadsAlike at) _ _ (flow_bits at) _ _
      (sub_of_some at.flow (LoadsAlike at) _ _ (flows_some at part whole is good stays reported decides reports_who timing)) in
      let units = sum-no-more (UnitsAlike at) _ _ (unit_bits at) _ _
      (sub_of_some at.unit (UnitsAlike at) _ _ (units_some at part whole is good stays reported decides reports_who timing)) in
      let requests = sum-no-more (RequestsAlike at) _ _ (request_bits at) _ _
      (sub_of_some at.request (RequestsAlike at) _ _ (requests_some at part whole is good stays reported decides reports_who timing)) in
      omega (arith, flows, units, requests)

  pub flow_place : (f : ℕ) → f < length part.flows.items → frames_place at part whole is good stays reported decides reports_who timing f ≡ at.flow f
  flow_place f below =
      let loads = length-map part.flows.items (load_of_flow timing part reported) in
      let frames = length-map (map (load_of_flow timing part reported) part.flows.items) frames_of_flow in
      rw (lt-ltb f (length (map frames_of_flow (map (load_of_flow timing part reported) part.flows.items))) (omega (arith, below, loads, frames))) refl

  pub ask_no_more : (unplanned : ℕ) (range : unplanned ≤ 1000) → timing.unplanned ≤ unplanned
      → AskNoMore at part whole timing (counting timing unplanned range) reported stays
  ask_no_more unplanned range busier =
      let are = frames_some at part whole is good stays reported decides reports_who timing in
      subst (AskNoMoreThan at (length part.flows.items) timing (counting timing unplanned range) (asked_of timing part reported))
      (sym (same_asked timing unplanned range whole stays))
      (record {
        place = frames_place at part whole is good stays reported decides reports_who timing;
        rises = are.rises;
        of_flow = flow_place;
        waits = waits at timing unplanned range busier (frames_asked (asked_of timing part reported)) (frames_asked (asked_of timing whole stays))
            (frames_place at part whole is good stays reported decides reports_who timing) are;
        load = load_no_more;
      })
