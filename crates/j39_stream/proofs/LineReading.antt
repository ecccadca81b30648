-- An input that is read line after line, by whatever reads its lines.
use Rattle.std.proofs.Common.{◌≡◌, ◌⊎◌, ◌≤◌, ℕ, Bool, true, false, List, [], ◌++◌, length, Option, Some, None, Result, Ok, Err, IfErr, inr, refl, sym, ap, ◌∙◌}
use Rattle.std.proofs.Common.{subst, append_assoc}
use Rattle.std.specs.Prelude.{IsErr, IsErrOf}
use Rattle.std.proofs.KnownBytes.{Appends-trans}
use Rattle.std.proofs.lemmas.List.{append-nil}
use Rattle.std.specs.Io.KnownBytes.{Appends, Consumes, IsAtEnd}
use Rattle.j39_id.specs.Lines.{Line, Pending, answer_to_end, at_start, behind_all, cutter_line, lines, yields, yielded, yielded_at_end}
use Rattle.j39_id.specs.declared.cut.Cut.{Cut}
use Rattle.j39_id.specs.declared.cut.Cut.TheVariants as cuts
use Rattle.j39_id.proofs.CutLines.{yields_lines, yielded-append}
use Rattle.j39_stream.specs.CommandEnds.{AnswersInPieces}
use Rattle.j39_stream.specs.Intakes.{Counts, EndsWithItsPiece, HasRead, piece_bytes}
use Rattle.j39_stream.specs.LineReading.{AreTextsOf, HasLines, HasReadInput, IsCutOff, IsSoFar}
use Rattle.j39_stream.specs.Streams.{AppendsPart, HasFailed, KeepsLimits, PassesLimits, SinkState, SourceState}
use Rattle.j39_stream.specs.declared.fault.Fault.{Fault}
use Rattle.j39_stream.specs.declared.fault.Fault.TheVariants.{Device, Memory, TooLong}
use Rattle.j39_stream.specs.declared.limits.Limits.{Limits}
use Rattle.j39_stream.specs.declared.verdict.Verdict.{Verdict}
use Rattle.j39_stream.specs.declared.verdict.Verdict.TheVariants.{Done}
use Rattle.j39_stream.proofs.Parts.{front_of, none_taken, part_after}
use Rattle.j39_stream.proofs.PieceSteps.{line_behind, yielded_behind}

-- ---- lines after lines

-- what is reported of a part of a piece is read behind what is reported of the piece before it
pub read_part : {First Old New : List Line → List ℕ → Type 0} {FirstText OldText NewText : List ℕ → List ℕ → Verdict → Type 0} {f o n : Bool}
    {first old new : List ℕ} (p q : Pending)
    (used part : List ℕ) (cut : Cut) (line : List ℕ) → q ≡ behind_all p used → yielded q part ≡ yields cut line
    → ((before : List Line) (written : List ℕ) → IsSoFar First FirstText f first before written → IsSoFar Old OldText o old (before ++ yielded p used) written)
    → ((before : List Line) (written : List ℕ) → Old before written → IsSoFar New NewText n new (before ++ yields cut line) written)
    → (before : List Line) (written : List ℕ) → IsSoFar First FirstText f first before written
    → IsSoFar New NewText n new (before ++ yielded p (used ++ part)) written
read_part {New = New} {NewText = NewText} {n = n} {new = new} p q used part cut line at is so_far step before written start =
    subst (λ (all : List Line). IsSoFar New NewText n new all written) (line_behind p q used part (yields cut line) before at is)
    (step (before ++ yielded p used) written (so_far before written start).read)

-- what is reported of a piece is reported of the input behind what was seen before it
pub more_seen : {Read : List Line → List ℕ → Type 0} {IsText : List ℕ → List ℕ → Verdict → Type 0} {goes : Bool} {text : List ℕ}
    (seen part : List ℕ) (p : Pending)
    (written : List ℕ) → p ≡ behind_all at_start seen → IsSoFar Read IsText goes text (yielded at_start seen ++ yielded p part) written
    → IsSoFar Read IsText goes text (yielded at_start (seen ++ part)) written
more_seen {Read} {IsText} {goes} {text} seen part p written at before =
    subst (λ (all : List Line). IsSoFar Read IsText goes text all written) (yielded_behind at_start p seen part at) before

reports_given : (cut : Cut) (p : Pending) → yields cut (cutter_line cut p) ≡ yields cut p.held
reports_given cuts.More p = refl
reports_given cuts.Line p = refl
reports_given cuts.Long p = refl

-- what a cutter yields at the end
yields_end : (cut : Cut) (p : Pending) (line : List ℕ) → cut ≡ answer_to_end p → line ≡ cutter_line cut p → yields cut line ≡ yielded_at_end p
yields_end cut p line answered gave = ap (yields cut) gave ∙ reports_given cut p ∙ ap (λ (k : Cut). yields k p.held) answered

-- with it all lines are reported
all_yielded : (input : List ℕ) (cut : Cut) (p : Pending) (line : List ℕ) → p ≡ behind_all at_start input → cut ≡ answer_to_end p → line ≡ cutter_line cut p
    → yielded at_start input ++ yields cut line ≡ lines input
all_yielded input cut p line at answered gave =
    ap (λ (l : List Line). yielded at_start input ++ l) (yields_end cut p line answered gave)
    ∙ ap (λ (r : Pending). yielded at_start input ++ yielded_at_end r) at ∙ yields_lines input

-- what was read behind which these lines stand, whatever comes after it
pub lines_from : (seen tail : List ℕ) → (rest : List Line) × (lines (seen ++ tail) ≡ yielded at_start seen ++ rest)
lines_from seen tail =
    let end : List Line = yielded_at_end (behind_all at_start (seen ++ tail)) in (
      yielded (behind_all at_start seen) tail ++ end,
      sym (yields_lines (seen ++ tail)) ∙ ap (λ (l : List Line). l ++ end) (yielded-append at_start seen tail)
          ∙ append_assoc (yielded at_start seen) (yielded (behind_all at_start seen) tail) end,
    )

-- where all lines are reported it makes no difference whether the reader stopped
all_lines : (goes : Bool) (yielded : List Line) (input : List ℕ) → lines input ≡ yielded → HasLines goes yielded input
all_lines true yielded input is = is
all_lines false yielded input is = ([], is ∙ sym (append-nil yielded))

-- ---- how it ends

module _ {Read : List Line → List ℕ → Type 0} {IsText : List ℕ → List ℕ → Verdict → Type 0} {goes : Bool} {text : List ℕ} {most : Limits}
    {old new : SourceState} {yielded_to ended : SinkState} where
  -- at the end of the input, with its last line
  pub read_to_end : (input written : List ℕ) (cut : Cut) (p : Pending) (line : List ℕ) → p ≡ behind_all at_start input → cut ≡ answer_to_end p
      → line ≡ cutter_line cut p → IsSoFar Read IsText goes text (yielded at_start input ++ yields cut line) written → Consumes old.left new.left input
      → IsAtEnd new.left → KeepsLimits most old new → Appends yielded_to.taken ended.taken written
      → (new.failures ≡ old.failures) × (ended.failures ≡ yielded_to.failures)
      → HasReadInput Read IsText goes text most old new yielded_to ended
  read_to_end input written cut p line at answered gave so consumed end keeps taken calm =
      let all = all_yielded input cut p line at answered gave in
      record {
        input = input;
        ls = lines input;
        written = written;
        consumed = consumed;
        end = λ _. end;
        limits = keeps;
        so_far = subst (λ (ls : List Line). IsSoFar Read IsText goes text ls written) all so;
        of_all = λ more none.
            all_lines goes (lines input) (input ++ more) (ap lines (ap (λ (t : List ℕ). input ++ t) (none end) ∙ append-nil input));
        taken = taken;
        calm = calm;
      }

  -- where the reader stopped
  pub read_to_stop : (counts : Counts) (input written : List ℕ) → goes ≡ false → IsSoFar Read IsText goes text (yielded at_start input) written
      → HasRead most old new counts input → counts.calls ≤ most.calls → Appends yielded_to.taken ended.taken written
      → (new.failures ≡ old.failures) × (ended.failures ≡ yielded_to.failures)
      → HasReadInput Read IsText goes text most old new yielded_to ended
  read_to_stop counts input written stopped so read calls taken calm = record {
    input = input;
    ls = yielded at_start input;
    written = written;
    consumed = read.consumed;
    end = λ going. cc (stopped, going);
    limits = (input, read.consumed, read.within, (counts.calls, calls, read.pulls_are));
    so_far = so;
    of_all = λ more none. subst (λ (g : Bool). HasLines g (yielded at_start input) (input ++ more)) (sym stopped) (lines_from input more);
    taken = taken;
    calm = calm;
  }

module _ {X : Type 0} {IsText Whole : List ℕ → List ℕ → Verdict → Type 0} (most : Limits) (old new : SourceState) (yielded_to ended : SinkState)
    (says : AreTextsOf IsText Whole) where
  -- it is cut off by a fault: what was written, and some first bytes of what was to be written next
  pub cut_short : {Read : List Line → List ℕ → Type 0} {goes : Bool} (r : Result X Fault) → (IsErrOf r TooLong → PassesLimits most old new)
      → (IsErrOf r Device → HasFailed old.failures new.failures ⊎ HasFailed yielded_to.failures ended.failures)
      → (seen more text written next back : List ℕ) (middle : Option (List ℕ)) → IsSoFar Read IsText goes text (yielded at_start seen) written
      → Consumes old.left new.left (seen ++ more) → text ≡ next ++ back → Appends yielded_to.taken middle written
      → AppendsPart middle ended.taken next
      → IfErr r (IsCutOff Whole most old new yielded_to ended)
  cut_short (Ok x) long device seen more text written next back middle so consumed splits first second = tt
  cut_short {goes = goes} (Err fault) long device seen more text written next back middle so consumed splits first second =
      let front = front_of seen in
      let (end, verdict, is_text, _) = so.begins front.0 (all_lines goes (yielded at_start seen) front.0 front.3) in
      let whole : List ℕ = written ++ (text ++ end) in
      let row : whole ≡ written ++ (next ++ (back ++ end)) =
      ap (λ (t : List ℕ). written ++ t) (ap (λ (t : List ℕ). t ++ end) splits ∙ append_assoc next back end) in
      let all : seen ++ more ≡ front.0 ++ (front.1 ++ more) = ap (λ (t : List ℕ). t ++ more) front.2 ∙ append_assoc front.0 front.1 more in
      record {
        input = front.0;
        rest = front.1 ++ more;
        text = whole;
        verdict = verdict;
        consumed = subst (Consumes old.left new.left) all consumed;
        is_text = says front.0 whole verdict is_text;
        part = part_after yielded_to.taken middle ended.taken written next (back ++ end) whole row first second;
        long = λ is. long (ap Err is);
        device = λ is. device (ap Err is);
      }

-- a piece is read behind lines at which the reader goes on
pub one_piece : {Read : List Line → List ℕ → Type 0} {IsText Whole : List ℕ → List ℕ → Verdict → Type 0} {goes : Bool} {next : List ℕ}
    (says : AreTextsOf IsText Whole) (old new : Option (List ℕ)) (seen piece written : List ℕ) → goes ≡ true
    → IsSoFar Read IsText goes next (yielded at_start seen) written → Consumes old new (seen ++ piece) → length piece ≤ piece_bytes
    → EndsWithItsPiece Whole old new
one_piece {Whole = Whole} {goes = goes} {next = next} says old new seen piece written going so read within =
    let front = front_of seen in
    let (end, verdict, is_text, done) = so.begins front.0 (all_lines goes (yielded at_start seen) front.0 front.3) in
    let text : List ℕ = written ++ (next ++ end) in
    inr (
      front.0,
      front.1,
      piece,
      text,
      subst (λ (t : List ℕ). Consumes old new (t ++ piece)) front.2 read,
      within,
      front.3 ∙ ap (yielded at_start) front.2,
      subst (Whole front.0 text) (done going) (says front.0 text verdict is_text),
    )

-- ---- the whole command

module _ {W : Type 0} {IsText : List ℕ → List ℕ → Verdict → Type 0} {most : Limits} {old new : SourceState} (state : W → SinkState) (yielded_to ended : W) where
  -- it was cut off
  pub cut_answers : (r : Result Verdict Fault) → IsErr r → IfErr r (IsCutOff IsText most old new (state yielded_to) (state ended))
      → AnswersInPieces IsText most old new state yielded_to ended r
  cut_answers (Ok verdict) fails cut = cc fails
  cut_answers (Err fault) fails cut = record {
    written = tt;
    pieces = tt;
    limits = tt;
    long = λ e. cut.long (cc e);
    device = λ e. cut.device (cc e);
    calm = tt;
    cut = inr (cut.input, cut.rest, cut.text, cut.verdict, cut.consumed, cut.is_text, cut.part);
  }

-- the input was read, to its end or to where the reader stopped
module _ {Read : List Line → List ℕ → Type 0} {IsText Last : List ℕ → List ℕ → Verdict → Type 0} {goes : Bool} {text : List ℕ} {most : Limits}
    {old new : SourceState} {x y : SinkState} (says : AreTextsOf Last IsText) (h : HasReadInput Read Last goes text most old new x y) where
  all_of_it : HasLines goes h.ls h.input
  all_of_it = subst (HasLines goes h.ls) (append-nil h.input) (h.of_all [] (λ _. refl))

  covers : (left : Option (List ℕ)) (all : List ℕ) → Consumes (Some all) left h.input
      → ((more : List ℕ) → (IsAtEnd left → more ≡ []) → HasLines goes h.ls (h.input ++ more)) → HasLines goes h.ls all
  covers None all consumed of = absurd consumed
  covers (Some rest) all consumed of = subst (HasLines goes h.ls) (sym consumed) (of rest (λ none. none))

  -- what stands at the end is not made
  pub not_closed : {W : Type 0} (state : W → SinkState) (yielded_to middle : W) → x ≡ state yielded_to → y ≡ state middle
      → (r : Result Verdict Fault) → IsErrOf r Memory → AnswersInPieces IsText most old new state yielded_to middle r
  not_closed state yielded_to middle at here r fails =
      let (end, verdict, is_text, _) = h.so_far.begins h.input all_of_it in
      rw fails record {
        written = tt;
        pieces = tt;
        limits = tt;
        long = λ e. cc e;
        device = λ e. cc e;
        calm = tt;
        cut = inr (
          h.input,
          [],
          h.written ++ (text ++ end),
          verdict,
          subst (Consumes old.left new.left) (sym (append-nil h.input)) h.consumed,
          says h.input (h.written ++ (text ++ end)) verdict is_text,
          part_after (state yielded_to).taken (state middle).taken (state middle).taken h.written [] (text ++ end) (h.written ++ (text ++ end)) refl
              (subst (λ (s : SinkState). Appends s.taken (state middle).taken h.written) at
              (subst (λ (s : SinkState). Appends x.taken s.taken h.written) here h.taken))
              (0, none_taken (state middle).taken),
        );
      }

  -- it is made, with the verdict
  module _ (closing : List ℕ) (verdict : Verdict)
      (closes : (input : List ℕ) (ls : List Line) (written : List ℕ) → Read ls written → HasLines goes ls input → Last input (written ++ closing) verdict)
    where
      of_text : (input : List ℕ) → HasLines goes h.ls input → IsText input (h.written ++ closing) verdict
      of_text input all = says input (h.written ++ closing) verdict (closes input h.ls h.written h.so_far.read all)

      -- but not all put
      pub not_put : {W : Type 0} (state : W → SinkState) (yielded_to ended : W) → x ≡ state yielded_to → (r : Result Verdict Fault) → IsErrOf r Device
          → HasFailed y.failures (state ended).failures → AppendsPart y.taken (state ended).taken closing
          → AnswersInPieces IsText most old new state yielded_to ended r
      not_put state yielded_to ended at r fails failed part =
          rw fails record {
            written = tt;
            pieces = tt;
            limits = tt;
            long = λ e. cc e;
            calm = tt;
            device = λ _. inr (subst (λ (n : ℕ). HasFailed n (state ended).failures) (h.calm.1 ∙ ap (λ (s : SinkState). s.failures) at) failed);
            cut = inr (
              h.input,
              [],
              h.written ++ closing,
              verdict,
              subst (Consumes old.left new.left) (sym (append-nil h.input)) h.consumed,
              of_text h.input all_of_it,
              part_after (state yielded_to).taken y.taken (state ended).taken h.written closing [] (h.written ++ closing)
                  (ap (λ (t : List ℕ). h.written ++ t) (sym (append-nil closing)))
                  (subst (λ (s : SinkState). Appends s.taken y.taken h.written) at h.taken) part,
            );
          }

      -- and put: the text is whole
      pub all_written : {W : Type 0} (state : W → SinkState) (yielded_to ended : W) → x ≡ state yielded_to → (verdict ≡ Done → goes ≡ true)
          → EndsWithItsPiece IsText old.left new.left → Appends y.taken (state ended).taken closing → (state ended).failures ≡ y.failures
          → AnswersInPieces IsText most old new state yielded_to ended (Ok verdict)
      all_written state yielded_to ended at done pieces put calm = record {
        written = (
          h.input,
          h.written ++ closing,
          h.consumed,
          (λ is. h.end (done is)),
          of_text h.input all_of_it,
          subst (λ (s : SinkState). Appends s.taken (state ended).taken (h.written ++ closing)) at
              (Appends-trans x.taken y.taken (state ended).taken h.written closing h.taken put),
        );
        pieces = pieces;
        limits = h.limits;
        long = λ e. cc e;
        device = λ e. cc e;
        calm = (h.calm.0, calm ∙ h.calm.1 ∙ ap (λ (s : SinkState). s.failures) at);
        cut = tt;
      }

      -- of all that was left
      pub whole_text : (z : SinkState) → Appends y.taken z.taken closing → (all : List ℕ) → old.left ≡ Some all
          → (whole : List ℕ) × IsText all whole verdict × Appends x.taken z.taken whole
      whole_text z put all known = (
        h.written ++ closing,
        of_text all (covers new.left all (subst (λ (o : Option (List ℕ)). Consumes o new.left h.input) known h.consumed) h.of_all),
        Appends-trans x.taken y.taken z.taken h.written closing h.taken put,
      )
