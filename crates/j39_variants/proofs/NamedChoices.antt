-- Labels and what they name, among choices and among the labels of these.
use Rattle.std.proofs.Common.{◌≡◌, ℕ, ◌==◌, Bool, List, [], ◌∷◌, ◌++◌, map, not, length, Option, Some, None, option_map, option_and_then, refl, ap, ◌∙◌, sym}
use Rattle.std.specs.Prelude.{position, if◌then◌else◌}
use Rattle.std.specs.List.{list_any, prefix_len, slice_get}
use Rattle.std.specs.Option.{option_map_or}
use Rattle.std.proofs.lemmas.List.{length-map}
use Rattle.std.proofs.lemmas.Option.{slice_get-map}
use Rattle.toml.specs.Data.{Items, no_items, item}
use Rattle.j39_toml.specs.declared.cause.Cause.TheVariants.{Range}
use Rattle.j39_toml.specs.InOrder.{Each}
use Rattle.j39_toml.specs.TableFaults.{fault}
use Rattle.j39_plan.specs.declared.reading.key.Key.{Key}
use Rattle.j39_plan.specs.declared.reading.place.Table.{Table}
use Rattle.j39_plan.specs.FlowTables.{place_of}
use Rattle.j39_plan.specs.LabelsSeen.{is_label_among}
use Rattle.j39_variants.specs.declared.line.Choice.{Choice}
use Rattle.j39_variants.specs.declared.reading.lists.NamedAlternative.{NamedAlternative}
use Rattle.j39_variants.specs.ChoiceTables.{choice_labels}
use Rattle.j39_variants.specs.ListTables.{IsNamed, IsNamedBy, NamesAlternative, is_misplaced, label_text_in, misplaced_faults, named_in, place_in, size_of}
use Rattle.std.proofs.lemmas.Option.{none-some, same_Some}
use Rattle.j39_variants.specs.declared.line.Alternative.{Alternative}
use Rattle.j39_variants.specs.NeverTables.{choices_named, others, alternatives_left}

pub any_view : (cs : List Choice) (label : List ℕ)
    → list_any (λ labels. is_label_among labels label) (map choice_labels cs) ≡ list_any (λ c. is_label_among (choice_labels c) label) cs
any_view [] label = refl
any_view (c ∷ cs) label = rw (any_view cs label)

prefix_view : (p : List (List ℕ) → Bool) (cs : List Choice)
    → prefix_len (λ (x : List (List ℕ)). not (p x)) (map choice_labels cs) ≡ prefix_len (λ (c : Choice). not (p (choice_labels c))) cs
prefix_view p [] = refl
prefix_view p (c ∷ cs) = rw (prefix_view p cs)

position_view : (p : List (List ℕ) → Bool) (cs : List Choice) → position p (map choice_labels cs) ≡ position (λ c. p (choice_labels c)) cs
position_view p cs = rw (prefix_view p cs, length-map) refl

labels_at : (found : Option Choice) (label : List ℕ)
    → option_and_then (λ labels. place_of labels label) (option_map choice_labels found) ≡ option_and_then (λ c. place_of (choice_labels c) label) found
labels_at None label = refl
labels_at (Some c) label = refl

place_view : (cs : List Choice) (label : List ℕ) (i : ℕ)
    → place_in (map choice_labels cs) label i ≡ option_map (λ p. (i, p)) (option_and_then (λ c. place_of (choice_labels c) label) (slice_get cs i))
place_view cs label i = ap (option_map (λ p. (i, p))) (ap (option_and_then (λ labels. place_of labels label)) (slice_get-map choice_labels cs i) ∙ labels_at
    (slice_get cs i) label)

at_place : (cs : List Choice) (label : List ℕ) (found : Option ℕ)
    → option_and_then (place_in (map choice_labels cs) label) found
    ≡ option_and_then (λ i. option_map (λ p. (i, p)) (option_and_then (λ c. place_of (choice_labels c) label) (slice_get cs i))) found
at_place cs label None = refl
at_place cs label (Some i) = place_view cs label i

pub named_view : (cs : List Choice) (label : List ℕ)
    → named_in (map choice_labels cs) label
    ≡ option_and_then (λ i. option_map (λ p. (i, p)) (option_and_then (λ c. place_of (choice_labels c) label) (slice_get cs i)))
    (position (λ c. is_label_among (choice_labels c) label) cs)
unfolding named_in
named_view cs label =
    at_place cs label (position (λ labels. is_label_among labels label) (map choice_labels cs))
    ∙ ap (option_and_then (λ i. option_map (λ p. (i, p)) (option_and_then (λ c. place_of (choice_labels c) label) (slice_get cs i))))
    (position_view (λ labels. is_label_among labels label) cs)

size_at : (found : Option Choice)
    → option_map_or (λ (labels : List (List ℕ)). length labels) (option_map choice_labels found) 0
    ≡ option_map_or (λ (c : Choice). length c.alternatives.items) found 0
size_at None = refl
size_at (Some c) = rw length-map

pub size_of_view : (cs : List Choice) (i : ℕ)
    → size_of (map choice_labels cs) i ≡ option_map_or (λ (c : Choice). length c.alternatives.items) (slice_get cs i) 0
size_of_view cs i = ap (λ found. option_map_or (λ (labels : List (List ℕ)). length labels) found 0) (slice_get-map choice_labels cs i) ∙ size_at
    (slice_get cs i)

-- the alternatives of what a list names
pub names : (choices : List (List (List ℕ))) (ds : Items) (list : List NamedAlternative) → Each (IsNamedBy choices) ds list
    → Each (NamesAlternative choices) ds (map (λ n. n.at) list)
unfolding Each
names choices no_items [] each = tt
names choices no_items (n ∷ list) each = absurd each
names choices (item d ds) [] each = absurd each
names choices (item d ds) (n ∷ list) each = (each.0.has_place, names choices ds list each.1)

-- and their choices
pub choices_are : (choices : List (List (List ℕ))) (ds : Items) (list : List NamedAlternative) → Each (IsNamedBy choices) ds list
    → map (λ n. n.at.choice) list ≡ choices_named choices ds
unfolding Each choices_named
choices_are choices no_items [] each = refl
choices_are choices no_items (n ∷ list) each = absurd each
choices_are choices (item d ds) [] each = absurd each
choices_are choices (item d ds) (n ∷ list) each = rw (each.0.has_place, choices_are choices ds list each.1)

-- whether a label that names an alternative can't be named in a list is reported by its choice
pub misplaced_named : (at : Table) (k : Key) (choices : List (List (List ℕ))) (others : List ℕ) (seen : List (List ℕ)) (label : List ℕ)
    (n : NamedAlternative) → IsNamed choices label n
    → misplaced_faults at k choices (Some others) seen label ≡ (if is_misplaced choices others seen n.at.choice then fault Range at (Some k) ∷ [] else [])
misplaced_named at k choices others seen label n named = rw (named.has_place) refl

pub choices_view : (others : List NamedAlternative) (c : ℕ)
    → list_any (λ (d : ℕ). d == c) (map (λ n. n.at.choice) others) ≡ list_any (λ n. n.at.choice == c) others
choices_view [] c = refl
choices_view (n ∷ others) c = rw (choices_view others c)

-- the alternatives that the first of some leaves
pub others_first : (choices : List (List (List ℕ))) (but : List Alternative) (b : Alternative) → slice_get but 0 ≡ Some b
    → others choices but ≡ alternatives_left choices but b.choice
unfolding others
others_first choices [] b is = absurd (none-some b is)
others_first choices (a ∷ but) b is = ap (λ (x : Alternative). alternatives_left choices (a ∷ but) x.choice) (same_Some a b is)
