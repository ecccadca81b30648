use Rattle.std.proofs.Common.{◌++◌, map, take, sym, subst}
use Rattle.std.proofs.lemmas.List.{append-nil, take_all}
use Rattle.j39_line_check.specs.SetVariants.{AreWidest, with_each_choice}
use Rattle.j39_line_check.proofs.Filters.{one_more_behind}
use Rattle.j39_line_check.proofs.full_sets.add_sets.Goals as goal

pub loop-set-init : goal.loop-set-init
loop-set-init c before is =
    subst (λ sets. AreWidest (with_each_choice c.args.choices.now sets) (map (λ s. s.items) c.args.kept.now.items)) (sym (append-nil before)) is

pub loop-set-preserved : goal.loop-set-preserved
loop-set-preserved c before is =
    subst (λ sets. AreWidest (with_each_choice c.args.choices.now sets) (map (λ s. s.items) c.add_set.new.kept.items))
    (one_more_behind (λ s. s.items) before c.args.sets.now c.loop-set.set-index c.set-item.result c.deref.result.now c.loop-set-test.true c.set-item.is
    c.deref.ensures.value)
    (c.in_ok-add_set.ensures (before ++ map (λ s. s.items) (take c.loop-set.set-index c.args.sets.now)) (c.loop-set.invariant before is))

pub returns : goal.returns
returns c before is =
    subst (λ xs. AreWidest (with_each_choice c.args.choices.now (before ++ map (λ s. s.items) xs)) (map (λ s. s.items) c.loop-set.kept.items))
    (take_all c.loop-set.set-index c.args.sets.now c.loop-set-test.false) (c.loop-set.invariant before is)
