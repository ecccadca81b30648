use Rattle.std.proofs.Common.{◌==◌, ℕ, inl, inr, refl, sym, subst, ◌∙◌, arith, length, eqb-true}
use Rattle.std.proofs.lemmas.Bool.{cases_Bool, eqb-false, false≢true}
use Rattle.j39_follow.specs.inside.Splitting.{IsWordAt}
use Rattle.j39_follow.proofs.Lines.WordPlaces.{has_word_at, word_place}
use Rattle.j39_follow.proofs.line.words.has_word.Goals as goal

pub returns-then-is_word_at : goal.returns-then-is_word_at
returns-then-is_word_at c = (
  λ e.
      let test = c.loop-place-test.true in
      has_word_at c.args.line.now c.loop-place.place c.args.word.now (omega (arith, test)) (c.is_word_at.ensures.0 c.if-is_word_at.true),
  λ h. refl,
)

pub loop-place-preserved : goal.loop-place-preserved
loop-place-preserved c = λ k less at. elim (cases_Bool (k == c.loop-place.place)) [
  | inl same ↦
      let is = eqb-true k c.loop-place.place same in
      false≢true (sym c.if-is_word_at.false
      ∙ c.is_word_at.ensures.1 (subst (λ (i : ℕ). IsWordAt c.args.line.now i c.args.word.now) is at))
  | inr other ↦
      let apart = eqb-false k c.loop-place.place other in
      c.loop-place.invariant k (omega (arith, less, apart)) at
]

pub returns : goal.returns
returns c = (
  λ e. absurd (false≢true e),
  λ h.
      let at = word_place c.args.line.now c.args.word.now h in
      let test = c.loop-place-test.false in
      absurd (c.loop-place.invariant (length h.front) (omega (arith, at.0, test)) at.1),
)
