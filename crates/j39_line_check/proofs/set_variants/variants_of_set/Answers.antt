use Rattle.std.proofs.Common.{◌≡◌, ◌-◌, ◌^◌, ap, length, map, min, sym, ◌∙◌, arith}
use Rattle.std.specs.List.{range_with_len}
use Rattle.j39_line_check.specs.SetVariants.{count_of_choice, product_of}
use Rattle.j39_line_check.proofs.Counts.{min_times, product_more}
use Rattle.j39_line_check.proofs.set_variants.variants_of_set.Goals as goal

pub loop-choice-preserved : goal.loop-choice-preserved
loop-choice-preserved c =
    let f = count_of_choice c.args.choices.now c.args.set.now in
    let i = c.loop-choice.choice in
    rw (c.saturating_mul-count.ensures, c.loop-choice.invariant, c.count_of_choice.ensures)
    (min_times (product_of (map f (range_with_len 0 i))) (f i) (2 ^ 64 - 1) ∙ ap (λ n. min n (2 ^ 64 - 1)) (sym (product_more f i)))

pub returns : goal.returns
returns c =
    let all : c.loop-choice.choice ≡ length c.args.choices.now = omega (arith, c.loop-choice-test.false, c.loop-choice.auto.choice-end) in
    c.loop-choice.invariant ∙ ap (λ n. min (product_of (map (count_of_choice c.args.choices.now c.args.set.now) (range_with_len 0 n))) (2 ^ 64 - 1)) all
