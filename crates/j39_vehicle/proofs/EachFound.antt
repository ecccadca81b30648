-- The loop over the tables of a kind.
use Rattle.std.proofs.Common.{◌≡◌, ℕ, ◌+◌, List, [], ◌∷◌, ◌++◌, ◌⊎◌, length}
use Rattle.std.proofs.Common.{Some, inl, inr, refl, subst, ap, ◌∙◌, append_assoc, add-one}
use Rattle.std.proofs.lemmas.List.{append-nil, length_push}
use Rattle.std.specs.List.{AllZip}
use Rattle.j39_vehicle.specs.VehicleErrors.{VehicleFault}
use Rattle.j39_toml.specs.Outcome.{first}
use Rattle.j39_vehicle.specs.Resolved.{each_found, FoundGrows}
use Rattle.j39_toml.proofs.FirstFaults.{first-append}

-- How a table is resolved: the faults of the i-th, where room is asked for, and what it stands for.
pub record Resolving (S T : Type 0) : Type 1 where
  pub faults : ℕ → S → List VehicleFault
  pub Grows : ℕ → S → Type 0
  pub StandsFor : S → T → Type 0

-- What was found so far is what the tables but the last ones stand for, and the faults of all are those of the last ones.
pub record AreFound {S T : Type 0} (r : Resolving S T) (i : ℕ) (so_far : List T) (left all : List S) : Type 0 where
  pub same_faults : each_found r.faults 0 all ≡ each_found r.faults i left
  pub stand : (ys : List T) → AllZip r.StandsFor left ys → AllZip r.StandsFor all (so_far ++ ys)
  pub count : length so_far ≡ i
  pub begun : ((i ≡ 0) × (so_far ≡ []) × (left ≡ all)) ⊎ FoundGrows r.faults r.Grows all

grows_behind : {S T : Type 0} (r : Resolving S T) (i : ℕ) (so_far : List T) (x : S) (left all : List S)
    → AreFound r i so_far (x ∷ left) all → r.faults i x ≡ [] → FoundGrows r.faults r.Grows all
grows_behind r i so_far x left all found none = elim found.begun [
  | inl (at, nothing, same) ↦ subst (FoundGrows r.faults r.Grows) same (inr (rw at at none))
  | inr grows ↦ grows
]

pub grows_inside : {S T : Type 0} (r : Resolving S T) (i : ℕ) (so_far : List T) (x : S) (left all : List S)
    → AreFound r i so_far (x ∷ left) all → r.Grows i x → FoundGrows r.faults r.Grows all
grows_inside r i so_far x left all found grows = elim found.begun [
  | inl (at, nothing, same) ↦ subst (FoundGrows r.faults r.Grows) same (inl (rw at at grows))
  | inr more ↦ more
]

pub goes_on : {S T : Type 0} (r : Resolving S T) (i : ℕ) (so_far : List T) (x : S) (left all : List S) (y : T)
    → AreFound r i so_far (x ∷ left) all → r.faults i x ≡ [] → r.StandsFor x y → AreFound r (i + 1) (so_far ++ y ∷ []) left all
unfolding each_found
goes_on r i so_far x left all y found none stands = record {
  same_faults = rw add-one (found.same_faults ∙ rw none refl);
  stand = λ ys each. rw (append_assoc so_far (y ∷ []) ys) (found.stand (y ∷ ys) (stands, each));
  count = length_push so_far y ∙ ap (λ n. n + 1) found.count;
  begun = inr (grows_behind r i so_far x left all found none);
}

pub stops_at : {S T : Type 0} (r : Resolving S T) (i : ℕ) (so_far : List T) (x : S) (left all : List S) (f : VehicleFault)
    → AreFound r i so_far (x ∷ left) all → first (r.faults i x) ≡ Some f → first (each_found r.faults 0 all) ≡ Some f
unfolding each_found
stops_at r i so_far x left all f found here = rw (found.same_faults) (first-append _ _ f here)

pub ends : {S T : Type 0} (r : Resolving S T) (i : ℕ) (so_far : List T) (all : List S)
    → AreFound r i so_far [] all → (each_found r.faults 0 all ≡ []) × AllZip r.StandsFor all so_far
unfolding each_found
ends r i so_far all found = (found.same_faults, subst (AllZip r.StandsFor all) (append-nil so_far) (found.stand [] tt))
