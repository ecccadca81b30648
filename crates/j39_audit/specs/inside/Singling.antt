-- The only place of a list at which a test passes, as a loop over the list reports it.
use Rattle.std.specs.Prelude.{◌≡◌, ◌≤◌, ◌&&◌, ℕ, Bool, true, false, List, [], ◌∷◌, count_by, length, take, Option, Some, None}
use Rattle.std.specs.Option.{option_or}
use Rattle.std.specs.List.{list_any}
use Rattle.j39_audit.specs.Below.{each_below}
use Rattle.j39_audit.specs.Counting.{Noted}
use Rattle.j39_audit.specs.SentMessages.{SentMessage, deviates, first_group, flow_group, marked, noted_at, without_flow}
use Rattle.j39_audit.specs.Settings.{Settings}
use Rattle.j39_audit.specs.declared.mark.Mark.{Mark}
use Rattle.j39_audit.specs.declared.mark.Word.{Word}
use Rattle.j39_audit.specs.declared.mark.Word.TheVariants.{Priority}
use Rattle.j39_audit.specs.declared.messages.Test.TheVariants.{Fitting, Selected, Any}
use Rattle.j39_audit.specs.declared.only_place.Meant.{Meant}
use Rattle.j39_audit.specs.declared.only_place.OnlyPlace.{OnlyPlace}
use Rattle.j39_audit.specs.declared.only_place.OnlyPlace.TheVariants.{Nowhere, At, Several}

abbrev pub is_somewhere : OnlyPlace → Bool
is_somewhere Nowhere = false
is_somewhere (At i) = true
is_somewhere Several = true

abbrev pub IsCountOf : OnlyPlace → ℕ → Type 0
IsCountOf Nowhere n = n ≡ 0
IsCountOf (At i) n = n ≡ 1
IsCountOf Several n = 2 ≤ n

-- a word noted at each place that passes, where they aren't several
abbrev pub AreMarksOf : ℕ → Word → OnlyPlace → List Noted → Type 0
AreMarksOf line word Nowhere noted = noted ≡ []
AreMarksOf line word (At i) noted = noted ≡ noted_at line word i 0 ∷ []
AreMarksOf line word Several noted = Unit {0}

-- of the first n places none passes, this one alone, or several do
pub record IsOnlyPlace {X : Type 0} (test : X → Bool) (all : List X) (n : ℕ) (only : OnlyPlace) : Type 0 where
  pub some_pass : list_any test (take n all) ≡ is_somewhere only
  pub count : IsCountOf only (count_by test (take n all))
  pub marks : (line : ℕ) (word : Word) → AreMarksOf line word only (each_below (marked line word test all) n)

-- so it is of those for which a message may be meant, and of these those whose receivers may be at its destination
pub record AreMeant {X : Type 0} (meant near : X → Bool) (all : List X) (n : ℕ) (m : Meant) : Type 0 where
  pub all_is : IsOnlyPlace meant all n m.all
  pub near_is : IsOnlyPlace (λ (x : X). meant x && near x) all n m.near

abbrev pub AreAllMeant : {X : Type 0} → (X → Bool) → (X → Bool) → List X → Meant → Type 0
AreAllMeant {X} meant near all m = AreMeant meant near all (length all) m

-- with one more place
abbrev pub another_place : ℕ → OnlyPlace → OnlyPlace
another_place n Nowhere = At n
another_place n (At i) = Several
another_place n Several = Several

abbrev pub only_more : Bool → ℕ → OnlyPlace → OnlyPlace
only_more true n only = another_place n only
only_more false n only = only

abbrev pub meant_more : Bool → Bool → ℕ → Meant → Meant
meant_more meant near n m = record { all = only_more meant n m.all; near = only_more near n m.near }

-- of the nearest
abbrev pub nearest_of : OnlyPlace → OnlyPlace → OnlyPlace
nearest_of all Nowhere = all
nearest_of all (At i) = At i
nearest_of all Several = Several

abbrev pub nearest_place : Meant → OnlyPlace
nearest_place m = nearest_of m.all m.near

-- ---- a message that isn't of a flow

-- it has another priority than the first flow that may bring it, at this place, or none may
abbrev pub without_priority : Settings → SentMessage → Option ℕ → Option Mark
without_priority s m (Some f) = deviates m.unit Priority (flow_group s f)
without_priority s m None = without_flow s m (first_group s m Fitting) (option_or (first_group s m Selected) (first_group s m Any))
