use Rattle.std.proofs.Common.{subst, sym, ◌∙◌}
use Rattle.std.specs.List.{All}
use Rattle.std.proofs.lemmas.Bool.{false≢true}
use Rattle.j39_follow.specs.LogLines.{IsOfTime}
use Rattle.j39_follow.proofs.Lines.Times.{enclosed_of, middle_of, time_of}
use Rattle.j39_follow.proofs.line.words.is_time.Goals as goal

pub returns-then-not-is_enclosed : goal.returns-then-not-is_enclosed
returns-then-not-is_enclosed c = (
  λ e. absurd (false≢true e),
  λ t. absurd (false≢true (sym c.if-not-is_enclosed.true ∙ c.is_enclosed.ensures.1 (enclosed_of c.args.word.now t))),
)

pub returns : goal.returns
returns c = (
  λ e. time_of c.args.word.now (c.is_enclosed.ensures.0 c.if-not-is_enclosed.false) (c.are_of_time.ensures.0 e),
  λ t. c.are_of_time.ensures.1 (subst (All IsOfTime) (sym (middle_of c.args.word.now t)) t.sort),
)
