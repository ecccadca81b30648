use Rattle.std.proofs.Common.{inr, refl, sym, subst, ◌∙◌}
use Rattle.std.proofs.lemmas.Bool.{false≢true}
use Rattle.j39_follow.specs.LogLines.{IsTime}
use Rattle.j39_follow.proofs.Lines.FirstWords.{not_all_blank, one_first_word}
use Rattle.j39_follow.proofs.line.log_line.first_time.Goals as goal

pub returns-in_default : goal.returns-in_default
returns-in_default c = inr (λ word b. not_all_blank c.args.line.now word b.0 c.in_default.ensures.none, refl)

pub returns-else-is_time : goal.returns-else-is_time
returns-else-is_time c = inr (
  λ word b.
      let same = one_first_word c.args.line.now word c.in-Some.word.now b.0 c.in-Some.ensures.found in
      false≢true (sym c.if-is_time.false ∙ c.is_time.ensures.1 (subst IsTime same b.1)),
  refl,
)
