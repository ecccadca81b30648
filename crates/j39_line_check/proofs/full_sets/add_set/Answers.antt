use Rattle.std.proofs.Common.{◌≡◌, ◌∷◌, ◌++◌, [], filter, map, not, sym, ap, subst, ◌∙◌, rules}
use Rattle.std.proofs.lemmas.List.{map-append}
use Rattle.j39_line_check.specs.SetVariants.{AreWidest, is_set_inside, with_each_choice}
use Rattle.j39_line_check.proofs.Widest.{add_inside, add_lacking, add_outside}
use Rattle.j39_line_check.proofs.full_sets.add_set.Goals.{then-not-has_each_choice-via-then-not-has_each_choice}
use Rattle.j39_line_check.proofs.full_sets.add_set.Goals.{then-not-has_each_choice-via-else-not-has_each_choice+then-is_inside_any}
use Rattle.j39_line_check.proofs.full_sets.add_set.Goals as goal

pub returns-then-not-has_each_choice : goal.returns-then-not-has_each_choice
returns-then-not-has_each_choice c sets is = elim c.then-not-has_each_choice.branch [
  | then-not-has_each_choice-via-then-not-has_each_choice w ↦
      add_lacking c.args.choices.now sets c.args.set.now (map (λ s. s.items) c.args.kept.now.items)
      (sym c.has_each_choice.ensures ∙ w.if-not-has_each_choice.true) is
  | then-not-has_each_choice-via-else-not-has_each_choice+then-is_inside_any w ↦
      add_inside c.args.choices.now sets c.args.set.now (λ s. s.items) c.args.kept.now.items
      (sym c.has_each_choice.ensures ∙ w.if-not-has_each_choice.false)
      (rw w.deref.ensures.value at (sym w.is_inside_any.ensures ∙ w.if-is_inside_any.true)) is
]

pub returns : goal.returns
returns c sets is =
    let copied : c.in_ok-to_vec.field-0.items ≡ c.args.set.now = search rules in
    let kept : map (λ s. s.items) c.push.new.self.items
    ≡ map (λ s. s.items) (filter (λ s. not (is_set_inside s.items c.args.set.now)) c.args.kept.now.items) ++ c.args.set.now ∷ [] =
    ap (map (λ s. s.items)) (c.in_ok-push.ensures.items)
    ∙ map-append (λ s. s.items) c.leave_out_inside.new.kept.items (c.in_ok-to_vec.field-0 ∷ [])
    ∙ (rw (c.leave_out_inside.ensures, copied) (search rules)) in
    subst (AreWidest (with_each_choice c.args.choices.now (sets ++ c.args.set.now ∷ []))) (sym kept)
    (add_outside c.args.choices.now sets c.args.set.now (λ s. s.items) c.args.kept.now.items
    (sym c.has_each_choice.ensures ∙ c.if-not-has_each_choice.false)
    (rw c.deref.ensures.value at (sym c.is_inside_any.ensures ∙ c.if-is_inside_any.false)) is)
