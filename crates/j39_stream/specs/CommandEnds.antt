-- How a command ends that reads a source and writes a text to a sink: what each command promises of both.
-- Of the sink clauses see its value too: where nothing was written, it is the sink that it was.
use Rattle.std.specs.Prelude.{◌≡◌, ◌≢◌, ◌⊎◌, ◌++◌, List, ℕ, Result, Err, IfOk, OnOk, OnErr, IsErrOf}
use Rattle.std.specs.Io.KnownBytes.{Appends, Consumes, IsAtEnd}
use Rattle.j39_stream.specs.Intakes.{EndsWithItsPiece}
use Rattle.j39_stream.specs.Streams.{AppendsPart, HasFailed, KeepsLimits, PassesLimits, SinkState, SourceState}
use Rattle.j39_stream.specs.declared.fault.Fault.{Fault}
use Rattle.j39_stream.specs.declared.fault.Fault.TheVariants.{Memory, Device, TooLong}
use Rattle.j39_stream.specs.declared.limits.Limits.{Limits}
use Rattle.j39_stream.specs.declared.verdict.Verdict.{Verdict}
use Rattle.j39_stream.specs.declared.verdict.Verdict.TheVariants.{Done}

-- a text that some answer has
abbrev pub IsOfAny : {V : Type 0} → (List ℕ → List ℕ → V → Type 0) → List ℕ → List ℕ → Type 0
IsOfAny {V} IsText input text = (answer : V) × IsText input text answer

-- a text is made, and put whole: written is the text that is defined, and after a device fault a prefix of one that is
pub record PutsText {V W : Type 0} (IsText : List ℕ → V → Type 0) (state : W → SinkState) (start ended : W) (result : Result V Fault) : Type 0 where
  pub written : IfOk result (λ answer. (text : List ℕ) × IsText text answer × Appends (state start).taken (state ended).taken text)
  pub memory : IsErrOf result Memory → ended ≡ start
  pub device : IsErrOf result Device → HasFailed (state start).failures (state ended).failures
  pub calm : OnOk result ((state ended).failures ≡ (state start).failures)
  pub cut : IsErrOf result Device → (text : List ℕ) × (answer : V) × IsText text answer × AppendsPart (state start).taken (state ended).taken text
  pub fits : result ≢ Err TooLong

-- a command that reads its input to the end before it writes: the text that is defined for the input, with the answer; what
-- each fault comes of; and that nothing was written before a fault but, where a call failed, a part of a text for the input
pub record AnswersWhole {V W : Type 0} (IsText : List ℕ → List ℕ → V → Type 0) (IsPart : List ℕ → List ℕ → Type 0) (most : Limits)
    (old new : SourceState) (state : W → SinkState) (start ended : W) (result : Result V Fault) : Type 0 where
  pub written : IfOk result (λ answer. (input : List ℕ) × (text : List ℕ) × Consumes old.left new.left input × IsAtEnd new.left
      × IsText input text answer × Appends (state start).taken (state ended).taken text)
  pub memory : IsErrOf result Memory → ended ≡ start
  pub limits : OnOk result (KeepsLimits most old new)
  pub long : IsErrOf result TooLong → (ended ≡ start) × PassesLimits most old new
  pub device : IsErrOf result Device → HasFailed old.failures new.failures ⊎ HasFailed (state start).failures (state ended).failures
  pub calm : OnOk result ((new.failures ≡ old.failures) × ((state ended).failures ≡ (state start).failures))
  pub cut : IsErrOf result Device → (ended ≡ start) ⊎ ((input : List ℕ) × (text : List ℕ) × Consumes old.left new.left input × IsAtEnd new.left
      × IsPart input text × AppendsPart (state start).taken (state ended).taken text)

-- a command that writes while it reads: the text that is defined for what was read, with the verdict, all of the input
-- where it is done, and nothing behind the piece with which the text ends; what each fault comes of; and that what was
-- written before one is a part of a text for an input that begins like this one
pub record AnswersInPieces {W : Type 0} (IsText : List ℕ → List ℕ → Verdict → Type 0) (most : Limits) (old new : SourceState)
    (state : W → SinkState) (start ended : W) (result : Result Verdict Fault) : Type 0 where
  pub written : IfOk result (λ verdict. (input : List ℕ) × (text : List ℕ) × Consumes old.left new.left input
      × (verdict ≡ Done → IsAtEnd new.left) × IsText input text verdict × Appends (state start).taken (state ended).taken text)
  pub pieces : OnOk result (EndsWithItsPiece IsText old.left new.left)
  pub limits : OnOk result (KeepsLimits most old new)
  pub long : IsErrOf result TooLong → PassesLimits most old new
  pub device : IsErrOf result Device → HasFailed old.failures new.failures ⊎ HasFailed (state start).failures (state ended).failures
  pub calm : OnOk result ((new.failures ≡ old.failures) × ((state ended).failures ≡ (state start).failures))
  pub cut : OnErr result ((ended ≡ start) ⊎ ((input : List ℕ) × (rest : List ℕ) × (text : List ℕ) × (verdict : Verdict)
      × Consumes old.left new.left (input ++ rest) × IsText input text verdict × AppendsPart (state start).taken (state ended).taken text))
