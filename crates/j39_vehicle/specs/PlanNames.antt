-- The names of the files that have the plans of a vehicle's buses.
use Rattle.std.specs.Prelude.{◌≡◌, ◌≢◌, ◌⊎◌, ℕ, ◌<◌, List, [], ◌∷◌, ◌++◌, length, get_or, slice_index, take}

abbrev pub slash : ℕ
slash = 47

abbrev pub LacksSlash : List ℕ → Type 0
LacksSlash name = (i : ℕ) → i < length name → get_or name i 0 ≢ slash

-- the last `/` of a name stands at this place
abbrev pub IsLastSlash : List ℕ → ℕ → Type 0
IsLastSlash name k = (k < length name) × (get_or name k 0 ≡ slash) × ((i : ℕ) → k < i → i < length name → get_or name i 0 ≢ slash)

-- a name up to its last `/`: nothing, where it has none
abbrev pub IsFolderOf : List ℕ → List ℕ → Type 0
IsFolderOf name folder = (LacksSlash name × (folder ≡ [])) ⊎ ((k : ℕ) × IsLastSlash name k × (folder ≡ take k name ++ slash ∷ []))

-- a plan whose name doesn't begin with `/` stands in the folder of the vehicle file
pub record IsPlanFile (vehicle plan name : List ℕ) : Type 0 where
  pub absolute : slice_index plan 0 ≡ slash → name ≡ plan
  pub beside : slice_index plan 0 ≢ slash → (folder : List ℕ) × IsFolderOf vehicle folder × (name ≡ folder ++ plan)
