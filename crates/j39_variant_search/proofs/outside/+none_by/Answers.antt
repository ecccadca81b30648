use Rattle.std.proofs.Common.{◌≡◌, ◌<◌, true, false, length, arith, rules, sym, ap, ◌∙◌}
use Rattle.std.specs.Prelude.{slice_index}
use Rattle.std.proofs.lemmas.List.{get_or_read, length-map}
use Rattle.j39_variant_search.specs.VariantSearch.{box_flags}
use Rattle.j39_variant_search.specs.inside.BoxParts.{hole_at, is_behind, is_met}
use Rattle.j39_variant_search.specs.inside.NearHoles.{HasOutside, IsNoneBy, is_by_leaving, in_either}
use Rattle.j39_variant_search.proofs.Counts.{box_count}
use Rattle.j39_variant_search.proofs.Leaving.{none_met, one_met, part_back, part_less, to_near}
use Rattle.j39_variant_search.proofs.NoneBy.{none_by_all, none_by_empty, none_by_part, none_to_kept, none_to_left, none_to_start}
use Rattle.j39_variant_search.proofs.outside.+none_by.Goals as goal
use Rattle.j39_variant_search.proofs.outside.+none_by.Goals.{then-is_left_at+in_ok-part+in_ok-more+in-Some+else-not-is_by_leaving+in_ok-by-2, else-is_left_at}

pub returns-then-is_empty_box : goal.returns-then-is_empty_box
returns-then-is_empty_box t c =
    rw c.in_ok-empty_choices.ensures
    (none_by_empty c.args.whole.now c.args.within.now c.args.holes.now c.args.near.now (sym c.is_empty_box.ensures ∙ c.if-is_empty_box.true))

pub returns-then-is_empty : goal.returns-then-is_empty
returns-then-is_empty t c =
    let nothing : length c.in_ok-met.met.items ≡ 0 = search rules in
    none_met c.args.within.now c.args.holes.now c.args.near.now c.in_ok-met.met.items c.in_ok-met.ensures nothing
    (sym c.is_empty_box.ensures ∙ c.if-is_empty_box.false)

pub loop-choice-init : goal.loop-choice-init
loop-choice-init t c = rw c.in_ok-by.ensures (none_to_start c.args.whole.now c.args.within.now c.hole_at-hole.result.now c.args.holes.now c.in_ok-met.met.items)

pub none_by-requires : goal.none_by-requires
none_by-requires t c =
    let below : c.nearest.result < length c.in_ok-met.met.items = rw c.deref.ensures.value at c.nearest.ensures in
    let hole : c.hole_at-hole.result.now ≡ hole_at c.args.holes.now (slice_index c.in_ok-met.met.items c.nearest.result) =
    c.hole_at-hole.ensures ∙ ap (hole_at c.args.holes.now) (get_or_read c.in_ok-met.met.items _ _ below c.index.ensures 0) in
    let meets : is_met c.args.within.now c.hole_at-hole.result.now ≡ true =
    ap (is_met c.args.within.now) hole
    ∙ one_met c.args.within.now c.args.holes.now c.args.near.now c.in_ok-met.met.items c.in_ok-met.ensures c.nearest.result below in
    let less : box_count (box_flags c.in_ok-part.part.items) < box_count (box_flags c.args.within.now) =
    part_less c.args.within.now c.hole_at-hole.result.now meets c.loop-choice.choice c.in_ok-part.part.items (omega arith) c.in_ok-part.ensures in
    let fewer : box_count (box_flags c.deref-then-is_left_at.result.now) < box_count
    (box_flags c.args.within.now) = rw c.deref-then-is_left_at.ensures.value less in
    let n = length-map c.args.within.now (λ choice. choice.items) in
    let m = length-map c.in_ok-part.part.items (λ choice. choice.items) in
    let e = c.in_ok-part.ensures.of_each in
    let whole = c.requires in
    let same : length c.args.whole.now ≡ length c.in_ok-part.part.items = omega (arith, n, m, e, whole) in
    let long : length c.args.whole.now ≡ length c.deref-then-is_left_at.result.now = same ∙ ap length (sym c.deref-then-is_left_at.ensures.value) in
    (omega (arith, fewer, c.decreases), long)

pub returns-in_default : goal.returns-in_default
returns-in_default t c =
    let some : HasOutside c.in_ok-part.part.items c.args.holes.now c.in_ok-met.met.items =
    rw (c.deref-then-is_left_at.ensures.value, c.deref-then-is_left_at-2.ensures.value, c.in_default.is) at c.in_ok-more.ensures in
    let (v, out) = some in (
      v,
      to_near c.args.within.now c.args.holes.now c.args.near.now c.in_ok-met.met.items c.in_ok-met.ensures v
          (part_back (is_behind (box_flags c.hole_at-hole.result.now) c.loop-choice.choice) c.args.within.now c.in_ok-part.part.items c.args.holes.now
          c.in_ok-met.met.items v c.in_ok-part.ensures out),
    )

pub returns-then-not-is_by_leaving : goal.returns-then-not-is_by_leaving
returns-then-not-is_by_leaving t c =
    let none : IsNoneBy c.args.whole.now c.in_ok-part.part.items c.args.holes.now c.in_ok-met.met.items c.in-Some.more.items =
    rw (c.deref-then-is_left_at.ensures.value, c.deref-then-is_left_at-2.ensures.value, c.in-Some.is) at c.in_ok-more.ensures in
    let answer : c.is_by_leaving.result ≡ false = search rules in
    let other : is_by_leaving c.in-Some.more.items c.args.within.now c.hole_at-hole.result.now c.loop-choice.choice ≡ false =
    rw c.deref-then-is_left_at-3.ensures.value at (sym c.is_by_leaving.ensures ∙ answer) in
    none_by_part c.args.whole.now c.args.within.now c.hole_at-hole.result.now c.args.holes.now c.in_ok-met.met.items c.args.near.now c.in-Some.more.items c.loop-choice.choice
    c.in_ok-part.part.items c.in_ok-met.ensures c.in_ok-part.ensures none (sym c.is_left_at.ensures ∙ c.if-is_left_at.true) other

pub loop-choice-preserved : goal.loop-choice-preserved
loop-choice-preserved t c =
    elim c.if-is_left_at.branch [
      | then-is_left_at+in_ok-part+in_ok-more+in-Some+else-not-is_by_leaving+in_ok-by-2 w ↦
          let none : IsNoneBy c.args.whole.now w.in_ok-part.part.items c.args.holes.now c.in_ok-met.met.items w.in-Some.more.items =
          rw (w.deref-then-is_left_at.ensures.value, w.deref-then-is_left_at-2.ensures.value, w.in-Some.is) at w.in_ok-more.ensures in
          let both : c.if-is_left_at.by.items ≡ in_either (length c.args.within.now) c.loop-choice.by.items w.in-Some.more.items =
          ap (λ v. v.items) w.by-is ∙ rw (w.deref-then-is_left_at-4.ensures.value, w.deref-then-is_left_at-5.ensures.value) at w.in_ok-by-2.ensures in
          rw both
          (none_to_left c.args.whole.now c.args.within.now c.hole_at-hole.result.now c.args.holes.now c.in_ok-met.met.items c.loop-choice.by.items w.in-Some.more.items
          c.loop-choice.choice w.in_ok-part.part.items w.in_ok-part.ensures none c.loop-choice.invariant)
      | else-is_left_at w ↦
          let same : c.if-is_left_at.by.items ≡ c.loop-choice.by.items = ap (λ v. v.items) w.by-is in
          rw same
          (none_to_kept c.args.whole.now c.args.within.now c.hole_at-hole.result.now c.args.holes.now c.in_ok-met.met.items c.loop-choice.by.items c.loop-choice.choice c.requires
          (omega arith) (sym c.is_left_at.ensures ∙ w.if-is_left_at.false) c.loop-choice.invariant)
    ]

pub returns : goal.returns
returns t c =
    let below : c.nearest.result < length c.in_ok-met.met.items = rw c.deref.ensures.value at c.nearest.ensures in
    let hole : c.hole_at-hole.result.now ≡ hole_at c.args.holes.now (slice_index c.in_ok-met.met.items c.nearest.result) =
    c.hole_at-hole.ensures ∙ ap (hole_at c.args.holes.now) (get_or_read c.in_ok-met.met.items _ _ below c.index.ensures 0) in
    let meets : is_met c.args.within.now c.hole_at-hole.result.now ≡ true =
    ap (is_met c.args.within.now) hole
    ∙ one_met c.args.within.now c.args.holes.now c.args.near.now c.in_ok-met.met.items c.in_ok-met.ensures c.nearest.result below in
    none_by_all c.args.whole.now c.args.within.now c.hole_at-hole.result.now c.args.holes.now c.in_ok-met.met.items c.args.near.now c.loop-choice.by.items c.nearest.result
    c.loop-choice.choice c.in_ok-met.ensures c.requires meets below hole (omega arith) c.loop-choice.invariant
