-- What the plan of a variant names is there.
use Rattle.std.proofs.Common.{◌≡◌, ◌≢◌, ℕ, ◌<◌, ◌≤◌, Bool, List, Option, Some, All, AllPairs, length, arith, sym, ◌∙◌, ap, subst}
use Rattle.std.specs.List.{AllZip, filter_map}
use Rattle.std.specs.Option.{option_map_or}
use Rattle.std.proofs.lemmas.List.{length-map}
use Rattle.j39_id.specs.Limits.{unit_limit}
use Rattle.j39_network.specs.PlanLimits.{flow_limit, group_limit, need_limit, request_limit}
use Rattle.j39_network.specs.declared.plan.unit_plan.UnitPlan.{UnitPlan}
use Rattle.j39_network.specs.declared.plan.flow_plan.FlowPlan.{FlowPlan}
use Rattle.j39_network.specs.declared.plan.group_plan.GroupPlan.{GroupPlan}
use Rattle.j39_network.specs.declared.plan.need_plan.NeedPlan.{NeedPlan}
use Rattle.j39_network.specs.declared.plan.request_plan.RequestPlan.{RequestPlan}
use Rattle.j39_network.specs.declared.plan.to.To.{To}
use Rattle.j39_network.specs.declared.plan.to.To.TheVariants.{One}
use Rattle.j39_network.specs.NeedPlaces.{signal_count}
use Rattle.j39_variants.specs.declared.line.ProductLine.{ProductLine}
use Rattle.j39_variants.specs.VariantPlans.{IsCopyOfGroup, flags, group_places, moved_flow, moved_from, moved_need, moved_request, moved_receivers, picked}
use Rattle.j39_variants.specs.VariantPlans.{place_at, unit_places}
use Rattle.j39_variants.proofs.Places.{SentParts, copied_count, copied_labels, copied_signals, flow_parts, from_place, mapped_all, mapped_count, need_parts}
use Rattle.j39_variants.proofs.Places.{picked_all, picked_count}
use Rattle.j39_variants.proofs.Places.{picked_pairs, place_below, place_same, request_parts, to_place}

-- the places are below a number
abbrev pub AreBelow : List (Option ℕ) → ℕ → Type 0
AreBelow places n = (i p : ℕ) → place_at places i ≡ Some p → p < n

-- the groups, senders and receivers of flows or requests are there
pub record SentInside {X : Type 0} (group sender : X → ℕ) (to : X → To) (n m : ℕ) (xs : List X) : Type 0 where
  pub groups : All (λ x. group x < m) xs
  pub senders : All (λ x. sender x < n) xs
  pub receivers : All (λ x. (r : ℕ) → to x ≡ One r → r < n) xs

module _ (us gs : List (Option ℕ)) (n m : ℕ) (units : AreBelow us n) (groups : AreBelow gs m) where
  pub sent_inside : {X : Type 0} (group sender : X → ℕ) (to : X → To) (moved : X → Option X)
      → ((x y : X) → moved x ≡ Some y
      → SentParts (place_at gs (group x)) (place_at us (sender x)) (moved_receivers us (to x)) (group y) (sender y) (to y))
      → (xs : List X) → SentInside group sender to n m (filter_map moved xs)
  sent_inside group sender to moved parts xs = record {
    groups = mapped_all (λ _. Unit {0}) (λ x. group x < m) moved (λ x y _ is. groups (group x) (group y) (parts x y is).group) xs (λ k d below. tt);
    senders = mapped_all (λ _. Unit {0}) (λ x. sender x < n) moved (λ x y _ is. units (sender x) (sender y) (parts x y is).sender) xs (λ k d below. tt);
    receivers =
        mapped_all (λ _. Unit {0}) (λ x. (r : ℕ) → to x ≡ One r → r < n) moved
        (λ x y _ is r at. let place = to_place us (to x) r (rw at at (parts x y is).receivers) in units place.0 r place.1) xs (λ k d below. tt);
  }

  pub need_units : (ds : List NeedPlan) → All (λ d. d.unit < n) (filter_map (moved_need us gs) ds)
  need_units ds =
      mapped_all (λ _. Unit {0}) (λ d. d.unit < n) (moved_need us gs)
      (λ d y _ is. units d.unit y.unit (need_parts d (place_at us d.unit) (place_at gs d.group) (moved_from us d.from) y is).unit) ds (λ k x below. tt)

  pub need_groups : (ds : List NeedPlan) → All (λ d. d.group < m) (filter_map (moved_need us gs) ds)
  need_groups ds =
      mapped_all (λ _. Unit {0}) (λ d. d.group < m) (moved_need us gs)
      (λ d y _ is. groups d.group y.group (need_parts d (place_at us d.unit) (place_at gs d.group) (moved_from us d.from) y is).group) ds (λ k x below. tt)

  pub need_senders : (ds : List NeedPlan) → All (λ d. (u : ℕ) → d.from ≡ Some u → u < n) (filter_map (moved_need us gs) ds)
  need_senders ds =
      mapped_all (λ _. Unit {0}) (λ d. (u : ℕ) → d.from ≡ Some u → u < n) (moved_need us gs)
      (λ d y _ is u sender.
      let parts = need_parts d (place_at us d.unit) (place_at gs d.group) (moved_from us d.from) y is in
      let at = from_place us d.from u (rw sender at parts.sender) in
      units at.0 u at.1) ds (λ k x below. tt)

  -- a signal of a group is one of the group where it is now
  pub need_signals : (old new : List GroupPlan) → ((i p : ℕ) → place_at gs i ≡ Some p → signal_count new p ≡ signal_count old i)
      → (ds : List NeedPlan) → All (λ d. (s : ℕ) → d.signal ≡ Some s → s < signal_count old d.group) ds
      → All (λ d. (s : ℕ) → d.signal ≡ Some s → s < signal_count new d.group) (filter_map (moved_need us gs) ds)
  need_signals old new same ds all =
      mapped_all (λ d. (s : ℕ) → d.signal ≡ Some s → s < signal_count old d.group) (λ d. (s : ℕ) → d.signal ≡ Some s → s < signal_count new d.group)
      (moved_need us gs)
      (λ d y had is s signal.
      let parts = need_parts d (place_at us d.unit) (place_at gs d.group) (moved_from us d.from) y is in
      let P : ℕ → Type 0 = λ count. s < count in
      subst P (sym (same d.group y.group parts.group)) (had s (sym parts.signal ∙ signal))) ds all

-- ---- the plan of a variant of a line

module _ (line : ProductLine) (variant : List ℕ) where
  units_flagged : length (flags variant line.lists.units.items) ≡ length line.plan.units.items
  units_flagged = rw length-map line.unit_lists

  groups_flagged : length (flags variant line.lists.groups.items) ≡ length line.plan.groups.items
  groups_flagged = rw length-map line.group_lists

  -- those that are there
  abbrev pub AreUnits : List UnitPlan → Type 0
  AreUnits us = us ≡ picked (flags variant line.lists.units.items) line.plan.units.items

  abbrev pub AreGroups : List GroupPlan → Type 0
  AreGroups gs = AllZip IsCopyOfGroup (picked (flags variant line.lists.groups.items) line.plan.groups.items) gs

  abbrev pub AreFlows : List FlowPlan → Type 0
  AreFlows fs = fs ≡ filter_map (moved_flow (unit_places line variant) (group_places line variant))
      (picked (flags variant line.lists.flows.items) line.plan.flows.items)

  abbrev pub AreNeeds : List NeedPlan → Type 0
  AreNeeds ds = ds ≡ filter_map (moved_need (unit_places line variant) (group_places line variant))
      (picked (flags variant line.lists.needs.items) line.plan.needs.items)

  abbrev pub AreRequests : List RequestPlan → Type 0
  AreRequests rs = rs ≡ filter_map (moved_request (unit_places line variant) (group_places line variant))
      (picked (flags variant line.lists.requests.items) line.plan.requests.items)

  pub units_below : (us : List UnitPlan) → AreUnits us → AreBelow (unit_places line variant) (length us)
  units_below us is i p at =
      rw is (place_below (flags variant line.lists.units.items) line.plan.units.items i p units_flagged at)

  pub groups_below : (gs : List GroupPlan) → AreGroups gs → AreBelow (group_places line variant) (length gs)
  groups_below gs copied i p at =
      let below = place_below (flags variant line.lists.groups.items) line.plan.groups.items i p groups_flagged at in
      let same : length gs ≡ length (picked (flags variant line.lists.groups.items) line.plan.groups.items) = copied_count _ gs copied in
      omega (arith, below, same)

  pub few_units : (us : List UnitPlan) → AreUnits us → length us ≤ unit_limit
  few_units us is =
      let few = picked_count (flags variant line.lists.units.items) line.plan.units.items in
      let all = line.plan.unit_count in
      let e : length us ≡ length (picked (flags variant line.lists.units.items) line.plan.units.items) = ap length is in
      omega (arith, few, all, e)

  pub few_groups : (gs : List GroupPlan) → AreGroups gs → length gs ≤ group_limit
  few_groups gs copied =
      let few = picked_count (flags variant line.lists.groups.items) line.plan.groups.items in
      let all = line.plan.group_count in
      let e : length gs ≡ length (picked (flags variant line.lists.groups.items) line.plan.groups.items) = copied_count _ gs copied in
      omega (arith, few, all, e)

  pub few_moved : {X Y : Type 0} (f : X → Option Y) (bs : List Bool) (xs : List X) (ys : List Y) (most : ℕ) → ys ≡ filter_map f (picked bs xs)
      → length xs ≤ most → length ys ≤ most
  few_moved f bs xs ys most is within =
      let few = picked_count bs xs in
      let fewer = mapped_count f (picked bs xs) in
      let e : length ys ≡ length (filter_map f (picked bs xs)) = ap length is in
      omega (arith, few, fewer, e, within)

  pub labels_of_units : (us : List UnitPlan) → AreUnits us → AllPairs (λ u w. u.label.bytes ≢ w.label.bytes) us
  labels_of_units us is =
      rw is (picked_pairs (λ u w. u.label.bytes ≢ w.label.bytes) (flags variant line.lists.units.items) line.plan.units.items line.plan.unit_labels)

  pub labels_of_groups : (gs : List GroupPlan) → AreGroups gs → AllPairs (λ g h. g.label.bytes ≢ h.label.bytes) gs
  labels_of_groups gs copied =
      copied_labels (picked (flags variant line.lists.groups.items) line.plan.groups.items) gs copied
      (picked_pairs (λ g h. g.label.bytes ≢ h.label.bytes) (flags variant line.lists.groups.items) line.plan.groups.items line.plan.group_labels)

  pub signals_stay : (gs : List GroupPlan) → AreGroups gs → (i p : ℕ) → place_at (group_places line variant) i ≡ Some p
      → signal_count gs p ≡ signal_count line.plan.groups.items i
  signals_stay gs copied i p at =
      copied_signals (picked (flags variant line.lists.groups.items) line.plan.groups.items) gs p copied
      ∙ ap (λ (found : Option GroupPlan). option_map_or (λ (g : GroupPlan). length g.signals.items) found 0)
      (place_same (flags variant line.lists.groups.items) line.plan.groups.items i p groups_flagged at)

  module _ (us : List UnitPlan) (gs : List GroupPlan) (are_units : AreUnits us) (are_groups : AreGroups gs) where
    us_below : AreBelow (unit_places line variant) (length us)
    us_below = units_below us are_units

    gs_below : AreBelow (group_places line variant) (length gs)
    gs_below = groups_below gs are_groups

    pub flows_inside : (fs : List FlowPlan) → AreFlows fs → SentInside (λ f. f.group) (λ f. f.sender) (λ f. f.to) (length us) (length gs) fs
    flows_inside fs is =
        rw is (sent_inside (unit_places line variant) (group_places line variant) (length us) (length gs) us_below gs_below (λ f. f.group) (λ f. f.sender)
        (λ f. f.to)
        (moved_flow (unit_places line variant) (group_places line variant)) (λ f y is. flow_parts f _ _ _ y is) _)

    pub requests_inside : (rs : List RequestPlan) → AreRequests rs
        → SentInside (λ r. r.group) (λ r. r.sender) (λ r. r.to) (length us) (length gs) rs
    requests_inside rs is =
        rw is (sent_inside (unit_places line variant) (group_places line variant) (length us) (length gs) us_below gs_below (λ r. r.group) (λ r. r.sender)
        (λ r. r.to)
        (moved_request (unit_places line variant) (group_places line variant)) (λ r y is. request_parts r _ _ _ y is) _)

    pub units_of_needs : (ds : List NeedPlan) → AreNeeds ds → All (λ d. d.unit < length us) ds
    units_of_needs ds is = rw is (need_units (unit_places line variant) (group_places line variant) (length us) (length gs) us_below gs_below _)

    pub groups_of_needs : (ds : List NeedPlan) → AreNeeds ds → All (λ d. d.group < length gs) ds
    groups_of_needs ds is = rw is (need_groups (unit_places line variant) (group_places line variant) (length us) (length gs) us_below gs_below _)

    pub senders_of_needs : (ds : List NeedPlan) → AreNeeds ds → All (λ d. (u : ℕ) → d.from ≡ Some u → u < length us) ds
    senders_of_needs ds is = rw is (need_senders (unit_places line variant) (group_places line variant) (length us) (length gs) us_below gs_below _)

    pub signals_of_needs : (ds : List NeedPlan) → AreNeeds ds → All (λ d. (s : ℕ) → d.signal ≡ Some s → s < signal_count gs d.group) ds
    signals_of_needs ds is =
        rw is
        (need_signals (unit_places line variant) (group_places line variant) (length us) (length gs) us_below gs_below line.plan.groups.items gs
        (signals_stay gs are_groups) _
        (picked_all (λ d. (s : ℕ) → d.signal ≡ Some s → s < signal_count line.plan.groups.items d.group) (flags variant line.lists.needs.items)
        line.plan.needs.items line.plan.need_signals))
