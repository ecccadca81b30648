-- What a reader of lines keeps between them, and how far it read an input.
use Rattle.std.specs.Prelude.{◌≡◌, ◌⊎◌, ℕ, Bool, true, false, List, [], ◌++◌}
use Rattle.std.specs.Io.KnownBytes.{Appends, Consumes, IsAtEnd}
use Rattle.j39_id.specs.Lines.{Line, lines}
use Rattle.j39_stream.specs.Streams.{AppendsPart, HasFailed, KeepsLimits, PassesLimits, SinkState, SourceState}
use Rattle.j39_stream.specs.declared.fault.Fault.{Fault}
use Rattle.j39_stream.specs.declared.fault.Fault.TheVariants.{Device, TooLong}
use Rattle.j39_stream.specs.declared.limits.Limits.{Limits}
use Rattle.j39_stream.specs.declared.verdict.Verdict.{Verdict}
use Rattle.j39_stream.specs.declared.verdict.Verdict.TheVariants.{Done}

-- these are the lines of the input, or, where the reader stopped, some first ones of them
abbrev pub HasLines : Bool → List Line → List ℕ → Type 0
HasLines true ls input = lines input ≡ ls
HasLines false ls input = (rest : List Line) × (lines input ≡ ls ++ rest)

-- what is a text of an input by the one is one by the other
abbrev pub AreTextsOf : (List ℕ → List ℕ → Verdict → Type 0) → (List ℕ → List ℕ → Verdict → Type 0) → Type 0
AreTextsOf IsText IsOther = (input text : List ℕ) (verdict : Verdict) → IsText input text verdict → IsOther input text verdict

-- these lines were read, and of what is to be written of them this much was written; a text of an input with these lines begins with it,
-- and with what is to be written next, and is Done where the reader goes on
pub record IsSoFar (HasRead : List Line → List ℕ → Type 0) (IsText : List ℕ → List ℕ → Verdict → Type 0) (goes : Bool) (text : List ℕ)
    (ls : List Line) (written : List ℕ) : Type 0 where
  pub read : HasRead ls written
  pub begins : (input : List ℕ) → HasLines goes ls input → (end : List ℕ) × (verdict : Verdict) × IsText input (written ++ (text ++ end)) verdict
      × (goes ≡ true → verdict ≡ Done)

-- an input was read, to its end or to where the reader stopped, and of what is to be written this much was written
pub record HasReadInput (HasRead : List Line → List ℕ → Type 0) (IsText : List ℕ → List ℕ → Verdict → Type 0) (goes : Bool) (text : List ℕ)
    (most : Limits) (old new : SourceState) (start ended : SinkState) : Type 0 where
  pub input : List ℕ
  pub ls : List Line
  pub written : List ℕ
  pub consumed : Consumes old.left new.left input
  pub end : goes ≡ true → IsAtEnd new.left
  pub limits : KeepsLimits most old new
  pub so_far : IsSoFar HasRead IsText goes text ls written
  pub of_all : (more : List ℕ) → (IsAtEnd new.left → more ≡ []) → HasLines goes ls (input ++ more)
  pub taken : Appends start.taken ended.taken written
  pub calm : (new.failures ≡ old.failures) × (ended.failures ≡ start.failures)

-- the reading was cut off by this fault: what was written is a part of a text for an input that begins like this one
pub record IsCutOff (IsText : List ℕ → List ℕ → Verdict → Type 0) (most : Limits) (old new : SourceState) (start ended : SinkState)
    (fault : Fault) : Type 0 where
  pub input : List ℕ
  pub rest : List ℕ
  pub text : List ℕ
  pub verdict : Verdict
  pub consumed : Consumes old.left new.left (input ++ rest)
  pub is_text : IsText input text verdict
  pub part : AppendsPart start.taken ended.taken text
  pub long : fault ≡ TooLong → PassesLimits most old new
  pub device : fault ≡ Device → HasFailed old.failures new.failures ⊎ HasFailed start.failures ended.failures
