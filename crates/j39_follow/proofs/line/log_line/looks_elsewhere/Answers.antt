use Rattle.std.proofs.Common.{sym, subst, ◌∙◌}
use Rattle.std.proofs.lemmas.Bool.{false≢true}
use Rattle.j39_follow.specs.LogLines.{IsTime}
use Rattle.j39_follow.proofs.Lines.FirstWords.{not_all_blank, one_first_word}
use Rattle.j39_follow.proofs.line.log_line.looks_elsewhere.Goals as goal

pub returns-in_default : goal.returns-in_default
returns-in_default c = (λ e. absurd (false≢true e), λ looks. absurd (not_all_blank c.args.part.now looks.time looks.timed.0 c.in_default.ensures.none))

pub returns-then-not-is_time : goal.returns-then-not-is_time
returns-then-not-is_time c = (
  λ e. absurd (false≢true e),
  λ looks.
      let same = one_first_word c.args.part.now looks.time c.in-Some.word.now looks.timed.0 c.in-Some.ensures.found in
      absurd (false≢true (sym c.if-not-is_time.true ∙ c.is_time.ensures.1 (subst IsTime same looks.timed.1))),
)

pub returns-then-has_word : goal.returns-then-has_word
returns-then-has_word c = (λ e. absurd (false≢true e), λ looks. absurd (looks.other (c.has_word.ensures.0 c.if-has_word.true)))

pub returns : goal.returns
returns c = (
  λ e. record {
    time = c.in-Some.word.now;
    timed = (c.in-Some.ensures.found, c.is_time.ensures.0 c.if-not-is_time.false);
    other = λ has. false≢true (sym c.if-has_word.false ∙ c.has_word.ensures.1 has);
    marked = c.is_marked_last.ensures.0 e;
  },
  λ looks. c.is_marked_last.ensures.1 looks.marked,
)
