-- Each variant has a plan, its places in the file, and findings.
use Rattle.std.proofs.Common.{◌^◌, ◌<◌, ◌≤◌, ℕ, Bool, List, [], ◌∷◌, length, refl, arith, inl, inr}
use Rattle.std.specs.Global.{Global, Vec}
use Rattle.std.specs.List.{AllZip, filter, filter_map, range_with_len}
use Rattle.std.proofs.lemmas.Bool.{cases_Bool}
use Rattle.std.proofs.lemmas.List.FromFn.{length-range_with_len}
use denote.RawPtr.{null_ptr}
use Rattle.j39_load.specs.BusTimes.{timing_of}
use Rattle.j39_network.specs.declared.plan.Plan.{Plan}
use Rattle.j39_network.specs.declared.plan.flow_plan.FlowPlan.{FlowPlan}
use Rattle.j39_network.specs.declared.plan.group_plan.GroupPlan.{GroupPlan}
use Rattle.j39_network.specs.declared.plan.need_plan.NeedPlan.{NeedPlan}
use Rattle.j39_network.specs.declared.plan.request_plan.RequestPlan.{RequestPlan}
use Rattle.j39_network.specs.declared.plan.unit_plan.UnitPlan.{UnitPlan}
use Rattle.j39_part_laws.proofs.LoadsExist.{some_load_findings}
use Rattle.j39_variants.specs.VariantPlans.{IsCopyOfGroup, IsCopyOfMeaning, IsVariantPlan, flags, group_places, moved_flow, moved_need}
use Rattle.j39_variants.specs.VariantPlans.{moved_request, picked, unit_places}
use Rattle.j39_variants.specs.declared.line.ProductLine.{ProductLine}
use Rattle.j39_variants.proofs.Derived.{few_groups, few_moved, few_units, flows_inside, groups_of_needs, labels_of_groups, labels_of_units, requests_inside}
use Rattle.j39_variants.proofs.Derived.{senders_of_needs, signals_of_needs, units_of_needs}
use Rattle.j39_variants.proofs.Places.{picked_count}
use Rattle.j39_line_findings.specs.LineFound.{AreVariantFindings}
use Rattle.j39_line_findings.specs.MissedNeeds.{is_group_there, is_unit_there}
use Rattle.j39_line_findings.specs.There.{IsPresent, is_flow_there, is_need_there, is_request_there, places_of_those}
use Rattle.j39_line_findings.specs.declared.line_finding.LineFinding.{LineFinding}
use Rattle.j39_line_findings.specs.declared.there.Present.{Present}

-- ---- lists in memory

abbrev in_memory : {X : Type 0} → Global → (xs : List X) → length xs < 2 ^ 63 → Vec X
in_memory alloc xs small = record { ptr = null_ptr; len = length xs; cap = length xs; alloc = alloc; items = xs; ok = (refl, omega arith); small = small }

-- a list that is no longer than one that is in memory is in its place
abbrev in_place : {X : Type 0} (old : Vec X) (xs : List X) → length xs ≤ length old.items → Vec X
in_place old xs few = let fits = old.ok in record old { items = xs; len = length xs; ok = (refl, omega (arith, fits.0, fits.1, few)) }

-- ---- the plan

all_copied : {X : Type 0} (Copies : X → X → Type 0) → ((x : X) → Copies x x) → (xs : List X) → AllZip Copies xs xs
all_copied Copies copied [] = tt
all_copied Copies copied (x ∷ xs) = (copied x, all_copied Copies copied xs)

group_copied : (g : GroupPlan) → IsCopyOfGroup g g
group_copied g = record {
  label = refl;
  pgn = refl;
  priority = refl;
  length = refl;
  private = refl;
  most = refl;
  every = refl;
  when = refl;
  signals = refl;
  meanings = all_copied IsCopyOfMeaning (λ m. record { spn = refl; values = refl }) g.meanings.items;
  texts = refl;
}

few_passing : {X : Type 0} (p : X → Bool) (xs : List X) → length (filter p xs) ≤ length xs
few_passing p [] = omega arith
few_passing p (x ∷ xs) =
    let rest = few_passing p xs in
    elim (cases_Bool (p x)) [
      | inl passes ↦ rw passes (omega (arith, rest))
      | inr fails ↦ rw fails (omega (arith, rest))
    ]

few_places : (test : ℕ → Bool) (count : ℕ) → length (places_of_those test count) ≤ count
few_places test count =
    let passing = few_passing test (range_with_len 0 count) in
    let all = length-range_with_len 0 count in
    omega (arith, passing, all)

module _ (line : ProductLine) (v : List ℕ) where
  abbrev units : List UnitPlan
  units = picked (flags v line.lists.units.items) line.plan.units.items

  abbrev groups : List GroupPlan
  groups = picked (flags v line.lists.groups.items) line.plan.groups.items

  abbrev flows : List FlowPlan
  flows = filter_map (moved_flow (unit_places line v) (group_places line v)) (picked (flags v line.lists.flows.items) line.plan.flows.items)

  abbrev needs : List NeedPlan
  needs = filter_map (moved_need (unit_places line v) (group_places line v)) (picked (flags v line.lists.needs.items) line.plan.needs.items)

  abbrev requests : List RequestPlan
  requests = filter_map (moved_request (unit_places line v) (group_places line v)) (picked (flags v line.lists.requests.items) line.plan.requests.items)

  are_groups : AllZip IsCopyOfGroup groups groups
  are_groups = all_copied IsCopyOfGroup group_copied groups

  few_of_units : length units ≤ length line.plan.units.items
  few_of_units = picked_count (flags v line.lists.units.items) line.plan.units.items

  few_of_groups : length groups ≤ length line.plan.groups.items
  few_of_groups = picked_count (flags v line.lists.groups.items) line.plan.groups.items

  few_of_flows : length flows ≤ length line.plan.flows.items
  few_of_flows = few_moved line v (moved_flow (unit_places line v) (group_places line v)) (flags v line.lists.flows.items) line.plan.flows.items flows
      (length line.plan.flows.items) refl (omega arith)

  few_of_needs : length needs ≤ length line.plan.needs.items
  few_of_needs = few_moved line v (moved_need (unit_places line v) (group_places line v)) (flags v line.lists.needs.items) line.plan.needs.items needs
      (length line.plan.needs.items) refl (omega arith)

  few_of_requests : length requests ≤ length line.plan.requests.items
  few_of_requests = few_moved line v (moved_request (unit_places line v) (group_places line v)) (flags v line.lists.requests.items)
      line.plan.requests.items requests (length line.plan.requests.items) refl (omega arith)

  plan_there : Plan
  plan_there =
      let flows_there = flows_inside line v units groups refl are_groups flows refl in
      let requests_there = requests_inside line v units groups refl are_groups requests refl in
      record line.plan {
        units = in_place line.plan.units units few_of_units;
        groups = in_place line.plan.groups groups few_of_groups;
        flows = in_place line.plan.flows flows few_of_flows;
        needs = in_place line.plan.needs needs few_of_needs;
        requests = in_place line.plan.requests requests few_of_requests;
        unit_count = few_units line v units refl;
        group_count = few_groups line v groups are_groups;
        flow_count = (let all = line.plan.flow_count in let few = few_of_flows in omega (arith, all, few));
        need_count = (let all = line.plan.need_count in let few = few_of_needs in omega (arith, all, few));
        request_count = (let all = line.plan.request_count in let few = few_of_requests in omega (arith, all, few));
        unit_labels = labels_of_units line v units refl;
        group_labels = labels_of_groups line v groups are_groups;
        flow_groups = flows_there.groups;
        flow_senders = flows_there.senders;
        flow_receivers = flows_there.receivers;
        need_units = units_of_needs line v units groups refl are_groups needs refl;
        need_groups = groups_of_needs line v units groups refl are_groups needs refl;
        need_signals = signals_of_needs line v units groups refl are_groups needs refl;
        need_senders = senders_of_needs line v units groups refl are_groups needs refl;
        request_groups = requests_there.groups;
        request_senders = requests_there.senders;
        request_receivers = requests_there.receivers;
      }

  is_plan_there : IsVariantPlan line v plan_there
  unfolding plan_there
  is_plan_there = record {
    has_keep_free = refl;
    has_strangers = refl;
    has_live = refl;
    has_timing = refl;
    has_units = refl;
    has_groups = are_groups;
    has_flows = refl;
    has_needs = refl;
    has_requests = refl;
  }

  pub some_plan : (plan : Plan) × IsVariantPlan line v plan
  some_plan = (plan_there, is_plan_there)

  -- ---- its places in the file

  placed : (test : ℕ → Bool) (count : ℕ) → count ≤ 4096 → length (places_of_those test count) < 2 ^ 63
  placed test count few = let places = few_places test count in omega (arith, places, few)

  abbrev places_there : (test : ℕ → Bool) (count : ℕ) → count ≤ 4096 → Vec ℕ
  places_there test count few = in_memory line.plan.units.alloc (places_of_those test count) (placed test count few)

  pub some_there : (there : Present) × IsPresent line v there
  some_there = (
    record {
      units = places_there (is_unit_there line v) (length line.plan.units.items) (let few = line.plan.unit_count in omega (arith, few));
      groups = places_there (is_group_there line v) (length line.plan.groups.items) (let few = line.plan.group_count in omega (arith, few));
      flows = places_there (is_flow_there line v) (length line.plan.flows.items) (let few = line.plan.flow_count in omega (arith, few));
      needs = places_there (is_need_there line v) (length line.plan.needs.items) line.plan.need_count;
      requests = places_there (is_request_there line v) (length line.plan.requests.items) (let few = line.plan.request_count in omega (arith, few));
    },
    record { has_units = refl; has_groups = refl; has_flows = refl; has_needs = refl; has_requests = refl },
  )

  -- ---- its findings

  pub some_findings : (findings : List LineFinding) × AreVariantFindings line v findings
  some_findings =
      let there = some_there in
      let plan = some_plan in
      let load = some_load_findings plan.0 (timing_of plan.0) in
      (_, record { there = there.0; is_there = there.1; plan = plan.0; is_plan = plan.1; others = load.0; are_others = load.1; are_all = refl })
