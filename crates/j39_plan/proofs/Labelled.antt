-- Labels among the labels of items.
use Rattle.std.proofs.Common.{◌≡◌, ℕ, List, [], ◌∷◌, ◌++◌, ◌||◌, map, refl, sym, not}
use Rattle.std.proofs.Math.Bool.{or_assoc}
use Rattle.std.proofs.lemmas.List.{length-map}
use Rattle.std.specs.List.{list_any, prefix_len}
use Rattle.std.specs.Prelude.{position}
use Rattle.std.specs.Str.{bytes_eq}
use Rattle.j39_plan.specs.LabelsSeen.{is_label_among}
use Rattle.j39_plan.specs.FlowTables.{place_of}

pub is_taken_view : {T : Type 0} (label_bytes : T → List ℕ) (xs : List T) (label : List ℕ)
    → is_label_among (map label_bytes xs) label ≡ list_any (λ x. bytes_eq (label_bytes x) label) xs
is_taken_view label_bytes [] label = refl
is_taken_view label_bytes (x ∷ xs) label = rw (is_taken_view label_bytes xs label)

pub is_among_both : (xs ys : List (List ℕ)) (label : List ℕ) → is_label_among (xs ++ ys) label ≡ (is_label_among xs label || is_label_among ys label)
is_among_both [] ys label = refl
is_among_both (x ∷ xs) ys label = rw (is_among_both xs ys label) (sym (or_assoc (bytes_eq x label) (is_label_among xs label) (is_label_among ys label)))

prefix_view : {T : Type 0} (label_bytes : T → List ℕ) (xs : List T) (label : List ℕ)
    → prefix_len (λ (l : List ℕ). not (bytes_eq l label)) (map label_bytes xs) ≡ prefix_len (λ (x : T). not (bytes_eq (label_bytes x) label)) xs
prefix_view label_bytes [] label = refl
prefix_view label_bytes (x ∷ xs) label = rw (prefix_view label_bytes xs label)

pub place_of_view : {T : Type 0} (label_bytes : T → List ℕ) (xs : List T) (label : List ℕ)
    → place_of (map label_bytes xs) label ≡ position (λ x. bytes_eq (label_bytes x) label) xs
unfolding place_of
place_of_view label_bytes xs label = rw (prefix_view label_bytes xs label, length-map) refl
