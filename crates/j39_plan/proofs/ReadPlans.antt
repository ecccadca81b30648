-- What is true of the units, the groups and the flows of a plan that was read.
use Rattle.std.proofs.Common.{◌≡◌, ◌≢◌, ℕ, ◌<◌, Bool, true, false, if◌then◌else◌, List}
use Rattle.std.proofs.Common.{[], length, map, Option, Some, None, option_map, All, AllPairs, codes}
use Rattle.std.proofs.lemmas.List.{length-map}
use Rattle.std.proofs.lemmas.List.Quantifiers.{position-Some}
use Rattle.std.specs.Option.{option_and_then}
use Rattle.std.specs.Str.{bytes_eq}
use Rattle.toml.specs.Data.{Data, Items}
use Rattle.j39_network.specs.declared.plan.to.To.{To}
use Rattle.j39_network.specs.declared.plan.to.To.TheVariants.{All as ToAll, One}
use Rattle.j39_network.specs.declared.plan.unit_plan.UnitPlan.{UnitPlan}
use Rattle.j39_network.specs.declared.plan.group_plan.GroupPlan.{GroupPlan}
use Rattle.j39_plan.specs.declared.reading.version.Version.{Version}
use Rattle.j39_plan.specs.declared.reading.place.Table.TheVariants as at
use Rattle.j39_plan.specs.declared.reading.text_kind.TextKind.TheVariants as texts
use Rattle.j39_toml.specs.InOrder.{each_faults, Each, labels_of}
use Rattle.j39_plan.specs.declared.reading.place.Table.{Table}
use Rattle.j39_plan.specs.declared.reading.text_kind.TextKind.{TextKind}
use Rattle.j39_plan.specs.TextKinds.{takes}
use Rattle.j39_plan.specs.PlanErrors.{PlanFault}
use Rattle.j39_plan.specs.LabelsSeen.{label_in, repeated_faults}
use Rattle.j39_plan.specs.UnitTables.{IsUnitOf, unit_label_in, unit_faults}
use Rattle.j39_plan.specs.GroupTables.{IsGroupOf, group_faults}
use Rattle.j39_network.specs.declared.plan.flow_plan.FlowPlan.{FlowPlan}
use Rattle.j39_plan.specs.FlowTables.{place_of, receivers, IsFlowOf}
use Rattle.j39_plan.proofs.NoFaults.{none_right, All-from_Each, fresh_label, labels_apart, labels_stated}

-- elements that have labels of a kind, at which is looked behind all else, have labels that are apart
each_apart : {T : Type 0} (Is : Data → T → Type 0) (faults : ℕ → List (List ℕ) → Data → List PlanFault) (label_of : Data → List ℕ)
    (label_bytes : T → List ℕ) (at : ℕ → Table) (kind : TextKind) (same : (d : Data) (x : T) → Is d x → label_bytes x ≡ label_of d)
    (fits : (x : T) → takes kind (label_bytes x) ≡ true)
    (last : (i : ℕ) (seen : List (List ℕ)) (d : Data) → faults i seen d ≡ [] → repeated_faults (at i) kind seen (label_of d) ≡ [])
    → (ds : Items) (xs : List T) → Each Is ds xs → each_faults faults label_of 0 [] ds ≡ [] → AllPairs (λ x y. label_bytes x ≢ label_bytes y) xs
each_apart Is faults label_of label_bytes at kind same fits last =
    labels_apart Is faults label_of label_bytes same
    (λ i seen d x is none. fresh_label (at i) kind seen (label_of d) (rw (← same d x is) (fits x)) (last i seen d none))

pub units_apart : (version : Version) (ds : Items) (xs : List UnitPlan) → Each (IsUnitOf version) ds xs
    → each_faults (unit_faults version) unit_label_in 0 [] ds ≡ [] → AllPairs (λ u w. u.label.bytes ≢ w.label.bytes) xs
unfolding unit_faults
units_apart version = each_apart (IsUnitOf version) (unit_faults version) unit_label_in (λ u. u.label.bytes) at.Unit texts.UnitLabel
    (λ d u is. is.has_label) (λ u. u.label_form) (λ i seen d none. none_right _ _ none)

pub groups_apart : (version : Version) (ds : Items) (xs : List GroupPlan) → Each (IsGroupOf version) ds xs
    → each_faults (group_faults version) label_in 0 [] ds ≡ [] → AllPairs (λ g h. g.label.bytes ≢ h.label.bytes) xs
unfolding group_faults
groups_apart version = each_apart (IsGroupOf version) (group_faults version) label_in (λ g. g.label.bytes) at.Group texts.Label
    (λ d g is. is.has_label) (λ g. g.label_form) (λ i seen d none. none_right _ _ none)

place_below : (labels : List (List ℕ)) (label : List ℕ) (p : ℕ) → place_of labels label ≡ Some p → p < length labels
unfolding place_of
place_below labels label p found = (position-Some (λ l. bytes_eq l label) labels p [] found).0

-- a place that a text names is in range
pub placed : (labels : List (List ℕ)) (text : Option (List ℕ)) (p : ℕ) → option_and_then (place_of labels) text ≡ Some p → p < length labels
placed labels None p found = cc
placed labels (Some label) p found = place_below labels label p found

-- places of such items that texts of elements name are in range
pub all_placed : {T X : Type 0} (Is : Data → T → Type 0) (label_bytes : X → List ℕ) (xs : List X) (place : T → ℕ)
    (named : (d : Data) (t : T) → Is d t → (text : Option (List ℕ)) × (option_and_then (place_of (map label_bytes xs)) text ≡ Some (place t)))
    → (ds : Items) (ts : List T) → Each Is ds ts → All (λ t. place t < length xs) ts
all_placed Is label_bytes xs place named = All-from_Each Is (λ t. place t < length xs)
    (λ d t is. rw length-map at (placed (map label_bytes xs) (named d t is).0 (place t) (named d t is).1))

one_of : (is_all : Bool) (place : Option ℕ) (r : ℕ) → (if is_all then Some ToAll else option_map One place) ≡ Some (One r) → place ≡ Some r
one_of true place r found = cc
one_of false None r found = cc
one_of false (Some p) r found = cc

receiver_below : (units : List (List ℕ)) (word : List ℕ) (r : ℕ) → receivers units word ≡ Some (One r) → r < length units
unfolding receivers
receiver_below units word r found = place_below units word r (one_of (bytes_eq word (codes "all")) (place_of units word) r found)

-- a receiver that a text names is in range
pub received : (units : List (List ℕ)) (text : Option (List ℕ)) (to : To) (r : ℕ) → option_and_then (receivers units) text ≡ Some to → to ≡ One r
    → r < length units
received units None to r found is = cc
received units (Some word) to r found is = receiver_below units word r (rw is at found)

-- the labels of units and of groups
abbrev pub unit_texts : List UnitPlan → List (List ℕ)
unit_texts = map (λ u. u.label.bytes)

abbrev pub group_texts : List GroupPlan → List (List ℕ)
group_texts = map (λ g. g.label.bytes)

-- those of units and of groups that were read are those of the file
pub unit_texts_stated : (version : Version) (ds : Items) (us : List UnitPlan) → Each (IsUnitOf version) ds us → unit_texts us ≡ labels_of unit_label_in ds
unit_texts_stated version = labels_stated (IsUnitOf version) unit_label_in (λ u. u.label.bytes) (λ d u is. is.has_label)

pub group_texts_stated : (version : Version) (ds : Items) (gs : List GroupPlan) → Each (IsGroupOf version) ds gs → group_texts gs ≡ labels_of label_in ds
group_texts_stated version = labels_stated (IsGroupOf version) label_in (λ g. g.label.bytes) (λ d g is. is.has_label)

-- what a table reports is a flow between these units of one of these groups
abbrev pub IsBetween : Version → List GroupPlan → List UnitPlan → Data → FlowPlan → Type 0
IsBetween version gs us = IsFlowOf version (group_texts gs) (unit_texts us)

pub flow_receivers : (version : Version) (gs : List GroupPlan) (us : List UnitPlan) (ds : Items) (fs : List FlowPlan) → Each (IsBetween version gs us) ds fs
    → All (λ f. (r : ℕ) → f.to ≡ One r → r < length us) fs
flow_receivers version gs us = All-from_Each (IsBetween version gs us) (λ f. (r : ℕ) → f.to ≡ One r → r < length us)
    (λ d f is r one. rw length-map at (received (unit_texts us) _ f.to r is.has_receivers one))
