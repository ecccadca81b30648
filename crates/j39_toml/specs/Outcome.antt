-- What a reader answers, by the faults of what it reads.
use Rattle.std.specs.Prelude.{◌≡◌, List, [], ◌∷◌, Option, Some, None, Result, Ok, Err}
use Rattle.j39_toml.specs.declared.file_error.FileError.{FileError}
use Rattle.j39_toml.specs.declared.file_error.FileError.TheVariants as errors

abbrev pub first : {F : Type 0} → List F → Option F
first [] = None
first (f ∷ fs) = Some f

-- the first fault, or want of memory where room may have been asked for before it
abbrev pub FailsGrowing : {F : Type 0} → Type 0 → FileError F → List F → Type 0
FailsGrowing MayGrow errors.Text faults = ⊥
FailsGrowing MayGrow (errors.Fault f) faults = first faults ≡ Some f
FailsGrowing MayGrow errors.Memory faults = MayGrow

-- such a value, where there is no fault, or else the first fault, or want of memory where room may have been asked for
abbrev pub GivesGrowing : {X F : Type 0} → Type 0 → Result X (FileError F) → List F → (X → Type 0) → Type 0
GivesGrowing MayGrow (Ok x) faults Is = (faults ≡ []) × Is x
GivesGrowing MayGrow (Err e) faults Is = FailsGrowing MayGrow e faults

-- such a value, where there is no fault, or else the first fault: nothing is asked of memory
abbrev pub Gives : {X F : Type 0} → Result X (FileError F) → List F → (X → Type 0) → Type 0
Gives = GivesGrowing ⊥
