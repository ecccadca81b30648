use Rattle.std.proofs.Common.{◌≡◌, List, [], ◌∷◌, false, inr, length, refl, sym, ap, subst, ◌∙◌, arith}
use Rattle.std.proofs.lemmas.Bool.{eq-eqb, eqb-true, true≢false}
use Rattle.j39_line_findings.specs.declared.full.LineNevers.TheVariants.{LeftOut}
use Rattle.j39_line_check.specs.LookedVariants.{AreFullVariants, HasTimes, IsLookingWith, has_bad_number}
use Rattle.j39_line_check.proofs.looking.look_without_nevers.Goals as goal

none_left : {X : Type 0} (xs : List X) → length xs ≡ 0 → xs ≡ []
none_left [] is = refl
none_left (x ∷ xs) is = absurd (omega (arith, is))

pub returns-then-is_empty-clause-looking : goal.returns-then-is_empty-clause-looking
returns-then-is_empty-clause-looking c many =
    let found : AreFullVariants c.args.line.now LeftOut c.in-Few.found = subst
    (IsLookingWith c.args.line.now LeftOut) c.in-Few.is c.in_ok-found.ensures.looking in
    let reported = c.in-Few.found.reported in
    let none = eqb-true reported.len 0 (sym c.is_empty.ensures ∙ c.if-is_empty.true) in
    let good : has_bad_number c.args.line.now.plan ≡ false = sym c.in_ok-bad.ensures ∙ c.if-bad.false in
    inr ((many.0, many.1), found, none_left reported.items (sym reported.ok.0 ∙ none), good)

pub returns-else-is_empty-clause-looking : goal.returns-else-is_empty-clause-looking
returns-else-is_empty-clause-looking c many =
    let found : AreFullVariants c.args.line.now LeftOut c.in-Few.found = subst
    (IsLookingWith c.args.line.now LeftOut) c.in-Few.is c.in_ok-found.ensures.looking in
    let reported = c.in-Few.found.reported in (
      many,
      inr (inr (
        c.in-Few.found,
        found,
        λ none.
            let empty : reported.len ≡ 0 = reported.ok.0 ∙ ap length none in
            absurd (true≢false (sym (eq-eqb reported.len 0 empty) ∙ sym c.is_empty.ensures ∙ c.if-is_empty.false)),
      )),
    )

pub returns-then-is_empty-clause-times : goal.returns-then-is_empty-clause-times
returns-then-is_empty-clause-times c timed = subst (HasTimes c.args.line.now) c.in-Few.is (c.in_ok-found.ensures.times timed)
