-- How a command ends, by how the calls end that it makes.
use Rattle.std.proofs.Common.{◌≡◌, List, ℕ, [], Result, Ok, Err, inl, inr, refl, arith}
use Rattle.std.specs.Prelude.{IsErr, IsErrOf}
use Rattle.std.specs.Io.KnownBytes.{Appends, Consumes, IsAtEnd}
use Rattle.j39_stream.specs.CommandEnds.{AnswersInPieces, AnswersWhole, PutsText}
use Rattle.j39_stream.specs.Streams.{AppendsPart, HasFailed, KeepsLimits, PassesLimits, SinkState, SourceState}
use Rattle.j39_stream.specs.declared.fault.Fault.{Fault}
use Rattle.j39_stream.specs.declared.fault.Fault.TheVariants.{Memory, Device, TooLong}
use Rattle.j39_stream.specs.declared.limits.Limits.{Limits}
use Rattle.j39_stream.specs.declared.verdict.Verdict.{Verdict}
use Rattle.j39_stream.specs.declared.verdict.Verdict.TheVariants.{Done}
use Rattle.j39_stream.proofs.Parts.{none_read}

module _ {V W : Type 0} {IsText : List ℕ → List ℕ → V → Type 0} {IsPart : List ℕ → List ℕ → Type 0} {most : Limits} {old new : SourceState}
    {state : W → SinkState} where
  -- the input couldn't be read
  pub not_read : {start : W} (r : Result V Fault) → IsErr r → (IsErrOf r TooLong → PassesLimits most old new)
      → (IsErrOf r Device → HasFailed old.failures new.failures) → AnswersWhole IsText IsPart most old new state start start r
  not_read (Ok answer) fails long device = cc fails
  not_read (Err fault) fails long device = record {
    written = tt;
    memory = λ _. refl;
    limits = tt;
    long = λ e. (refl, long e);
    device = λ e. inl (device e);
    calm = tt;
    cut = λ _. inl refl;
  }

  -- what was read is answered
  pub answered : {start ended : W} (input text : List ℕ) (answer : V) → Consumes old.left new.left input → IsAtEnd new.left → KeepsLimits most old new
      → IsText input text answer → Appends (state start).taken (state ended).taken text
      → (new.failures ≡ old.failures) × ((state ended).failures ≡ (state start).failures)
      → AnswersWhole IsText IsPart most old new state start ended (Ok answer)
  answered input text answer read end keeps is put calm = record {
    written = (input, text, read, end, is, put);
    memory = λ e. cc e;
    limits = keeps;
    long = λ e. cc e;
    device = λ e. cc e;
    calm = calm;
    cut = λ e. cc e;
  }

-- the text of an input that was read is put
module _ {V W : Type 0} {IsText : List ℕ → List ℕ → V → Type 0} {IsPart : List ℕ → List ℕ → Type 0} {P : List ℕ → V → Type 0} {most : Limits}
    {old new : SourceState} {state : W → SinkState} {start ended : W} (input : List ℕ)
    (says : (text : List ℕ) (answer : V) → P text answer → IsText input text answer × IsPart input text) where
  pub read_and_put : (r : Result V Fault) → Consumes old.left new.left input → IsAtEnd new.left → KeepsLimits most old new
      → new.failures ≡ old.failures → PutsText P state start ended r → AnswersWhole IsText IsPart most old new state start ended r
  read_and_put (Ok answer) read end keeps calm puts =
      let (text, is, put) = puts.written in
      answered input text answer read end keeps (says text answer is).0 put (calm, puts.calm)
  read_and_put (Err Memory) read end keeps calm puts = record {
    written = tt;
    memory = puts.memory;
    limits = tt;
    long = λ e. cc e;
    device = λ e. cc e;
    calm = tt;
    cut = λ e. cc e;
  }
  read_and_put (Err Device) read end keeps calm puts =
      let (text, answer, is, part) = puts.cut refl in
      record {
        written = tt;
        memory = λ e. cc e;
        limits = tt;
        long = λ e. cc e;
        device = λ e. inr (puts.device e);
        calm = tt;
        cut = λ e. inr (input, text, read, end, (says text answer is).1, part);
      }
  read_and_put (Err TooLong) read end keeps calm puts = absurd (puts.fits refl)

-- ---- a text that is put

module _ {V W : Type 0} {IsText : List ℕ → V → Type 0} {state : W → SinkState} where
  -- there is none for want of memory
  pub none_put : {start : W} (r : Result V Fault) → IsErrOf r Memory → PutsText IsText state start start r
  none_put r wants = rw wants record {
    written = tt;
    memory = λ _. refl;
    device = λ e. cc e;
    calm = tt;
    cut = λ e. cc e;
    fits = λ e. cc e;
  }

  -- all of it was taken
  pub all_put : {start ended : W} (text : List ℕ) (answer : V) → IsText text answer → Appends (state start).taken (state ended).taken text
      → (state ended).failures ≡ (state start).failures → PutsText IsText state start ended (Ok answer)
  all_put text answer is put calm = record {
    written = (text, is, put);
    memory = λ e. cc e;
    device = λ e. cc e;
    calm = calm;
    cut = λ e. cc e;
    fits = λ e. cc e;
  }

  -- a part of it was
  pub part_put : {start ended : W} (text : List ℕ) (answer : V) → IsText text answer → AppendsPart (state start).taken (state ended).taken text
      → (r : Result V Fault) → IsErrOf r Device → HasFailed (state start).failures (state ended).failures → PutsText IsText state start ended r
  part_put text answer is part r ends failed = rw ends record {
    written = tt;
    memory = λ e. cc e;
    device = λ _. failed;
    calm = tt;
    cut = λ _. (text, answer, is, part);
    fits = λ e. cc e;
  }

-- ---- a command that writes while it reads

module _ {W : Type 0} {IsText : List ℕ → List ℕ → Verdict → Type 0} {most : Limits} {state : W → SinkState} where
  -- nothing was read or written
  pub not_begun : {old : SourceState} {start : W} (r : Result Verdict Fault) → IsErrOf r Memory
      → AnswersInPieces IsText most old old state start start r
  not_begun r wants = rw wants record {
    written = tt;
    pieces = tt;
    limits = tt;
    long = λ e. cc e;
    device = λ e. cc e;
    calm = tt;
    cut = inl refl;
  }

  -- a text is put, and nothing is read
  pub put_unread : {P : List ℕ → Verdict → Type 0} {old : SourceState} {start ended : W} (r : Result Verdict Fault)
      → ((text : List ℕ) (verdict : Verdict) → P text verdict → IsText [] text verdict × (verdict ≡ Done → IsAtEnd old.left))
      → PutsText P state start ended r → AnswersInPieces IsText most old old state start ended r
  put_unread {old = old} (Ok verdict) says puts =
      let (text, is, put) = puts.written in
      let said = says text verdict is in
      record {
        written = ([], text, none_read old.left, said.1, said.0, put);
        pieces = inl (none_read old.left);
        limits = ([], none_read old.left, omega arith, (0, omega arith, omega arith));
        long = λ e. cc e;
        device = λ e. cc e;
        calm = (refl, puts.calm);
        cut = tt;
      }
  put_unread (Err Memory) says puts = record {
    written = tt;
    pieces = tt;
    limits = tt;
    long = λ e. cc e;
    device = λ e. cc e;
    calm = tt;
    cut = inl (puts.memory refl);
  }
  put_unread {old = old} (Err Device) says puts =
      let (text, verdict, is, part) = puts.cut refl in
      record {
        written = tt;
        pieces = tt;
        limits = tt;
        long = λ e. cc e;
        device = λ e. inr (puts.device refl);
        calm = tt;
        cut = inr ([], [], text, verdict, none_read old.left, (says text verdict is).0, part);
      }
  put_unread (Err TooLong) says puts = absurd (puts.fits refl)

  -- what a text is of is said in other words
  pub said_of : {P : List ℕ → List ℕ → Verdict → Type 0} {old new : SourceState} {start ended : W} (r : Result Verdict Fault)
      → ((input text : List ℕ) (verdict : Verdict) → P input text verdict → IsText input text verdict)
      → AnswersInPieces P most old new state start ended r → AnswersInPieces IsText most old new state start ended r
  said_of (Ok verdict) says answers =
      let (input, text, read, end, is, put) = answers.written in
      record {
        written = (input, text, read, end, says input text verdict is, put);
        pieces = elim answers.pieces [
          | inl none ↦ inl none
          | inr (front, begun, piece, done, all, within, is_front, is_done) ↦
              inr (front, begun, piece, done, all, within, is_front, says front done Done is_done)
        ];
        limits = answers.limits;
        long = answers.long;
        device = answers.device;
        calm = answers.calm;
        cut = tt;
      }
  said_of (Err fault) says answers = record {
    written = tt;
    pieces = tt;
    limits = tt;
    long = answers.long;
    device = answers.device;
    calm = tt;
    cut = elim answers.cut [
      | inl same ↦ inl same
      | inr (input, rest, text, verdict, read, is, part) ↦ inr (input, rest, text, verdict, read, says input text verdict is, part)
    ];
  }
