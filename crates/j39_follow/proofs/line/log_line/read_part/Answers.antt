use Rattle.std.proofs.Common.{List, ℕ, inl, inr, refl, sym, subst, ◌∙◌}
use Rattle.std.specs.List.{AllPass}
use Rattle.j39_id.proofs.LineLaws.{not_blank}
use Rattle.j39_id.specs.FrameLine.{is_separator}
use Rattle.j39_follow.proofs.Lines.Splitting.{one_split}
use Rattle.j39_follow.proofs.line.log_line.read_part.Goals as goal

pub returns-in_default : goal.returns-in_default
returns-in_default c = inr (λ front e. c.in_default.ensures.none e.last.front e.word (e.last, refl) e.direction, refl)

pub returns-in-Some-split_last : goal.returns-in-Some-split_last
returns-in-Some-split_last c =
    let front : List ℕ = c.in-Some.front.now in
    let found = c.in-Some.ensures.found in
    inl (record {
      word = found.0;
      last = found.1.0;
      direction = found.2;
      front_is = found.1.1;
      worded = λ blank. not_blank front _ c.in-Some-split_last.ensures.found.0 blank;
    })

pub returns-in-None : goal.returns-in-None
returns-in-None c = inr (
  λ front e.
      let found = c.in-Some.ensures.found in
      let same = one_split c.args.line.now e.last.front e.word c.in-Some.front.now found.0 (e.last, refl) found.1 in
      e.worded (subst (AllPass is_separator) (sym same.0 ∙ e.front_is) c.in-None.ensures.none),
  refl,
)
