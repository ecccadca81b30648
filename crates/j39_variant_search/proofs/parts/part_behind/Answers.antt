use Rattle.std.proofs.Common.{◌≡◌, arith}
use Rattle.j39_variant_search.specs.inside.BoxParts.{flags_at, flags_with, is_behind}
use Rattle.j39_variant_search.specs.VariantSearch.{box_flags}
use Rattle.j39_variant_search.proofs.Pieces.{flags_read, part_more}
use Rattle.j39_variant_search.proofs.parts.part_behind.Goals as goal

pub loop-choice-preserved : goal.loop-choice-preserved
loop-choice-preserved c =
    let here : flags_at (box_flags c.args.within.now) c.loop-choice.choice ≡ c.index-within-choice.result.items =
    flags_read c.args.within.now c.loop-choice.choice c.index-within-choice.result (omega arith) c.index-within-choice.is in
    let these : c.in_ok-flags_behind.field-0.items ≡ flags_with (is_behind
    (box_flags c.args.hole.now) c.args.first c.loop-choice.choice) c.index-within-choice.result.items =
    rw (c.deref.ensures.value, c.flags_at.ensures) at c.in_ok-flags_behind.ensures in
    rw c.in_ok-push.ensures.items
    (part_more c.loop-choice.choice (is_behind (box_flags c.args.hole.now) c.args.first) (box_flags c.args.within.now) c.loop-choice.part.items
    c.index-within-choice.result.items c.in_ok-flags_behind.field-0 here these c.loop-choice.invariant)
