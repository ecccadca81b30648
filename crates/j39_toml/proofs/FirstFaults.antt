-- The first fault of faults that follow one another.
use Rattle.std.proofs.Common.{◌≡◌, List, [], ◌∷◌, ◌++◌, Result, Some, Err}
use Rattle.j39_toml.specs.declared.file_error.FileError.{FileError}
use Rattle.j39_toml.specs.declared.file_error.FileError.TheVariants as errors
use Rattle.j39_toml.specs.Outcome.{first, FailsGrowing, Gives}

pub first-append : {F : Type 0} (xs ys : List F) (f : F) → first xs ≡ Some f → first (xs ++ ys) ≡ Some f
first-append [] ys f e = cc
first-append (x ∷ xs) ys f e = e

pub ruleset faults_after = (first-append)

-- A reader passes on the refusal of a part, where the part's first fault is the first of the whole.
pub fails_on : {F : Type 0} (Inner Outer : Type 0) (e : FileError F) (part whole : List F) → (Inner → Outer)
    → ((f : F) → first part ≡ Some f → first whole ≡ Some f)
    → FailsGrowing Inner e part → FailsGrowing Outer e whole
fails_on Inner Outer errors.Text part whole grows leads fails = fails
fails_on Inner Outer (errors.Fault f) part whole grows leads fails = leads f fails
fails_on Inner Outer errors.Memory part whole grows leads fails = grows fails

-- What a reader refuses it refuses behind parts without a fault, and before others.
pub fails_behind : {F : Type 0} (Grows : Type 0) (e : FileError F) (xs ys : List F) → xs ≡ [] → FailsGrowing Grows e ys
    → FailsGrowing Grows e (xs ++ ys)
fails_behind Grows e xs ys none fails = rw none fails

pub fails_before : {F : Type 0} (Grows : Type 0) (e : FileError F) (xs ys : List F) → FailsGrowing Grows e xs
    → FailsGrowing Grows e (xs ++ ys)
fails_before Grows errors.Text xs ys fails = fails
fails_before Grows (errors.Fault f) xs ys fails = first-append xs ys f fails
fails_before Grows errors.Memory xs ys fails = fails

-- What a part refuses the whole refuses, where their faults are the same.
pub refused_alike : {F : Type 0} (X : Type 0) (given : Result X (FileError F)) (e : FileError F) (faults : List F) (Is : X → Type 0)
    → given ≡ Err e → FailsGrowing ⊥ e faults → Gives given faults Is
refused_alike X given e faults Is same fails = rw (same) fails
