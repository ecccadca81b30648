use Rattle.std.proofs.Common.{◌≡◌, ◌==◌, not, ℕ, List, true, refl, sym, subst, ◌∙◌}
use Rattle.std.specs.List.{list_all}
use Rattle.j39_id.proofs.LineLaws.{not_blank}
use Rattle.j39_follow.proofs.Lines.Splitting.{one_split}
use Rattle.j39_follow.proofs.line.words.is_marked_last.Goals as goal

pub returns-in-Some : goal.returns-in-Some
returns-in-Some c = (
  λ e. λ word last.
      let same = one_split c.args.line.now c.in-Some.front.now c.in-Some._word.now last.front word c.in-Some.ensures.found (last, refl) in
      subst (λ (f : List ℕ). list_all (λ b. not (b == 35)) f ≡ true) same.0 (sym c.are_unmarked.ensures ∙ e),
  λ marked.
      let found = c.in-Some.ensures.found in
      c.are_unmarked.ensures ∙ subst (λ (f : List ℕ). list_all (λ b. not (b == 35)) f ≡ true) found.1 (marked c.in-Some._word.now found.0),
)

pub returns-in-None : goal.returns-in-None
returns-in-None c = (λ e. λ word last. absurd (not_blank c.args.line.now word last c.in-None.ensures.none), λ marked. refl)
