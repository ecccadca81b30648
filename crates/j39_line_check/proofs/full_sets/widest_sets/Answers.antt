use Rattle.std.proofs.Common.{◌≡◌, ◌∷◌, [], List, false, if◌then◌else◌, is_some, map, not, true, sym, ap, subst, ◌∙◌}
use Rattle.j39_variants.specs.declared.line.Alternative.{Alternative}
use Rattle.j39_line_check.specs.SetVariants.{AreWidest, with_each_choice}
use Rattle.j39_line_check.proofs.Widest.{none_widest}
use Rattle.j39_line_check.proofs.full_sets.widest_sets.Goals as goal

pub returns-then-is_none : goal.returns-then-is_none
returns-then-is_none c =
    let kept : List (List Alternative) = map (λ s. s.items) c.add_set.new.kept.items in
    let untimed : is_some c.args.line.now.plan.timing ≡ false = c.is_none.ensures ∙ ap not c.if-is_none.true in
    let first : AreWidest (with_each_choice c.args.line.now.choices.items (c.args.full.now.all.items ∷ [])) kept =
    rw (c.deref.ensures.value, c.deref-2.ensures.value) at (c.in_ok-add_set.ensures [] (rw c.new-kept.ensures.items (none_widest c.deref.result.now))) in
    subst (λ timed. AreWidest (with_each_choice c.args.line.now.choices.items (c.args.full.now.all.items
    ∷ (if timed then map (λ s. s.items) c.args.full.now.of_needs.items else []))) kept) (sym untimed) first

pub returns : goal.returns
returns c =
    let kept : List (List Alternative) = map (λ s. s.items) c.add_sets.new.kept.items in
    let timed : is_some c.args.line.now.plan.timing ≡ true = c.is_none.ensures ∙ ap not c.if-is_none.false in
    let first : AreWidest (with_each_choice c.args.line.now.choices.items (c.args.full.now.all.items ∷ [])) (map (λ s. s.items) c.add_set.new.kept.items) =
    rw (c.deref.ensures.value, c.deref-2.ensures.value) at (c.in_ok-add_set.ensures [] (rw c.new-kept.ensures.items (none_widest c.deref.result.now))) in
    let choices = c.args.line.now.choices.items in
    let all : List (List Alternative) = c.args.full.now.all.items ∷ [] in
    let before : AreWidest (with_each_choice c.deref-3.result.now all) (map (λ s. s.items) c.add_set.new.kept.items) =
    subst (λ cs. AreWidest (with_each_choice cs all) (map (λ s. s.items) c.add_set.new.kept.items)) (sym c.deref-3.ensures.value) first in
    let needs : List (List Alternative) = map (λ s. s.items) c.args.full.now.of_needs.items in
    let second : AreWidest (with_each_choice choices (c.args.full.now.all.items ∷ needs)) kept =
    subst (λ cs. AreWidest (with_each_choice cs (c.args.full.now.all.items ∷ needs)) kept) c.deref-3.ensures.value
    (subst (λ lists. AreWidest (with_each_choice c.deref-3.result.now (c.args.full.now.all.items ∷ map (λ s. s.items) lists)) kept) c.deref-4.ensures.value
    (c.in_ok-add_sets.ensures all before)) in
    subst (λ b. AreWidest (with_each_choice c.args.line.now.choices.items (c.args.full.now.all.items
    ∷ (if b then map (λ s. s.items) c.args.full.now.of_needs.items else []))) kept) (sym timed) second
