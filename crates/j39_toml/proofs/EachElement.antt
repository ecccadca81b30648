-- The loop over the elements of an array.
use Rattle.std.proofs.Common.{◌≡◌, ℕ, ◌+◌, List, [], ◌∷◌, ◌++◌, ◌⊎◌, map, length}
use Rattle.std.proofs.Common.{Some, inl, inr, refl, subst, ap, ◌∙◌, append_assoc, add-one}
use Rattle.std.proofs.lemmas.List.{append-nil, length_push, map_push}
use Rattle.toml.specs.Data.{Data, Items, no_items, item}
use Rattle.j39_toml.specs.InOrder.{Each, EachGrows, each_faults, labels_of}
use Rattle.j39_toml.specs.Outcome.{first}
use Rattle.j39_toml.proofs.FirstFaults.{first-append}

-- How elements are read: the faults of the i-th behind those with some labels, its label, the label of what it reports, where room is
-- asked for in reading it, and what it reports.
pub record Reading (T L F : Type 0) : Type 1 where
  pub faults : ℕ → List L → Data → List F
  pub data_label : Data → L
  pub label : T → L
  pub Grows : ℕ → List L → Data → Type 0
  pub Describes : Data → T → Type 0

-- What was read so far is what the elements but the last ones report, and the faults of all are those of the last ones.
pub record IsRead {T L F : Type 0} (r : Reading T L F) (i : ℕ) (so_far : List T) (left all : Items) : Type 0 where
  pub same_faults : each_faults r.faults r.data_label 0 [] all ≡ each_faults r.faults r.data_label i (map r.label so_far) left
  pub stated : (ys : List T) → Each r.Describes left ys → Each r.Describes all (so_far ++ ys)
  pub labels : map r.label so_far ++ labels_of r.data_label left ≡ labels_of r.data_label all
  pub count : length so_far ≡ i
  pub begun : ((i ≡ 0) × (so_far ≡ []) × (left ≡ all)) ⊎ EachGrows r.faults r.Grows all

-- room is asked for behind an element without a fault
grows_behind : {T L F : Type 0} (r : Reading T L F) (i : ℕ) (so_far : List T) (d : Data) (left all : Items)
    → IsRead r i so_far (item d left) all → r.faults i (map r.label so_far) d ≡ [] → EachGrows r.faults r.Grows all
grows_behind r i so_far d left all read none = elim read.begun [
  | inl (at, nothing, same) ↦ subst (EachGrows r.faults r.Grows) same (inr (rw (at, nothing) at none))
  | inr grows ↦ grows
]

-- room is asked for in reading an element
pub grows_inside : {T L F : Type 0} (r : Reading T L F) (i : ℕ) (so_far : List T) (d : Data) (left all : Items)
    → IsRead r i so_far (item d left) all → r.Grows i (map r.label so_far) d → EachGrows r.faults r.Grows all
grows_inside r i so_far d left all read grows = elim read.begun [
  | inl (at, nothing, same) ↦ subst (EachGrows r.faults r.Grows) same (inl (rw (at, nothing) at grows))
  | inr more ↦ more
]

pub goes_on : {T L F : Type 0} (r : Reading T L F) (i : ℕ) (so_far : List T) (d : Data) (left all : Items) (x : T)
    → IsRead r i so_far (item d left) all → r.faults i (map r.label so_far) d ≡ [] → r.Describes d x → r.label x ≡ r.data_label d
    → IsRead r (i + 1) (so_far ++ x ∷ []) left all
unfolding each_faults Each labels_of
goes_on r i so_far d left all x read none states same = record {
  same_faults = rw (map_push r.label so_far x, same, add-one) (read.same_faults ∙ rw none refl);
  stated = λ ys each. rw (append_assoc so_far (x ∷ []) ys) (read.stated (x ∷ ys) (states, each));
  labels = rw (map_push r.label so_far x, same, append_assoc (map r.label so_far) (r.data_label d ∷ []) (labels_of r.data_label left)) read.labels;
  count = length_push so_far x ∙ ap (λ n. n + 1) read.count;
  begun = inr (grows_behind r i so_far d left all read none);
}

pub stops_at : {T L F : Type 0} (r : Reading T L F) (i : ℕ) (so_far : List T) (d : Data) (left all : Items) (f : F)
    → IsRead r i so_far (item d left) all → first (r.faults i (map r.label so_far) d) ≡ Some f
    → first (each_faults r.faults r.data_label 0 [] all) ≡ Some f
unfolding each_faults
stops_at r i so_far d left all f read here = rw (read.same_faults) (first-append _ _ f here)

pub ends : {T L F : Type 0} (r : Reading T L F) (i : ℕ) (so_far : List T) (all : Items)
    → IsRead r i so_far no_items all → (each_faults r.faults r.data_label 0 [] all ≡ []) × Each r.Describes all so_far
unfolding each_faults Each
ends r i so_far all read = (read.same_faults, subst (Each r.Describes all) (append-nil so_far) (read.stated [] tt))

pub labels_stated : {T L F : Type 0} (r : Reading T L F) (i : ℕ) (so_far : List T) (all : Items)
    → IsRead r i so_far no_items all → map r.label so_far ≡ labels_of r.data_label all
unfolding labels_of
labels_stated r i so_far all read = subst (λ ls. ls ≡ labels_of r.data_label all) (append-nil (map r.label so_far)) read.labels
