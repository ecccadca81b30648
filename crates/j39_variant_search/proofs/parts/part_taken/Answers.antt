use Rattle.std.proofs.Common.{◌≡◌, arith}
use Rattle.j39_variant_search.specs.inside.BoxParts.{flags_at, flags_with, is_taken_at}
use Rattle.j39_variant_search.specs.VariantSearch.{box_flags}
use Rattle.j39_variant_search.proofs.Pieces.{flags_read, part_more}
use Rattle.j39_variant_search.proofs.parts.part_taken.Goals as goal

pub loop-choice-preserved : goal.loop-choice-preserved
loop-choice-preserved c =
    let here : flags_at (box_flags c.args.within.now) c.loop-choice.choice ≡ c.index-within-choice.result.items =
    flags_read c.args.within.now c.loop-choice.choice c.index-within-choice.result (omega arith) c.index-within-choice.is in
    let these : c.in_ok-flags_taken.field-0.items ≡ flags_with (is_taken_at c.args.taken.now c.loop-choice.choice) c.index-within-choice.result.items =
    rw c.deref.ensures.value at c.in_ok-flags_taken.ensures in
    rw c.in_ok-push.ensures.items
    (part_more c.loop-choice.choice (is_taken_at c.args.taken.now) (box_flags c.args.within.now) c.loop-choice.part.items c.index-within-choice.result.items
    c.in_ok-flags_taken.field-0 here these c.loop-choice.invariant)
