-- The elements of an array of tables: their faults, what they report, their labels, and where room is asked for among them.
use Rattle.std.specs.Prelude.{◌≡◌, ◌⊎◌, ℕ, suc, List, [], ◌∷◌, ◌++◌, unwrap_or}
use Rattle.toml.specs.Data.{Data, Items, no_items, item, Members, no_members, as_table}

-- the members of a table, and none of another value
abbrev pub inside : Data → Members
inside d = unwrap_or (as_table d) no_members

-- the faults of the elements from the i-th on, behind the labels of those before
unfoldable pub each_faults : {L F : Type 0} → (ℕ → List L → Data → List F) → (Data → L) → ℕ → List L → Items → List F
each_faults faults label i seen no_items = []
each_faults faults label i seen (item d ds) = faults i seen d ++ each_faults faults label (suc i) (seen ++ label d ∷ []) ds

-- the values are those of the elements, in order
unfoldable pub Each : {T : Type 0} → (Data → T → Type 0) → Items → List T → Type 0
Each Is no_items [] = Unit {0}
Each Is (item d ds) (x ∷ xs) = Is d x × Each Is ds xs
Each Is _ _ = ⊥

-- the labels of the elements
unfoldable pub labels_of : {L : Type 0} → (Data → L) → Items → List L
labels_of label no_items = []
labels_of label (item d ds) = label d ∷ labels_of label ds

-- a reader of an element that asks for no room
abbrev pub NeverGrows : {L : Type 0} → ℕ → List L → Data → Type 0
NeverGrows i seen d = ⊥

-- room is asked for among elements: behind the first, which has no fault, or in reading it
abbrev pub EachGrows : {L F : Type 0} → (ℕ → List L → Data → List F) → (ℕ → List L → Data → Type 0) → Items → Type 0
EachGrows faults Grows no_items = ⊥
EachGrows faults Grows (item d ds) = Grows 0 [] d ⊎ (faults 0 [] d ≡ [])
