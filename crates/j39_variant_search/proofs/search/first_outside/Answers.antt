use Rattle.std.proofs.Common.{◌≡◌, ◌≤◌, false, length, rules}
use Rattle.j39_variant_search.specs.inside.NearHoles.{HasNoneOutside, HasOutside, IsNextPlace}
use Rattle.j39_variant_search.proofs.Beginning.{first_more, first_none, first_outside_of, none_outside}
use Rattle.j39_variant_search.proofs.search.first_outside.Goals as goal

pub returns-then-not-branch : goal.returns-then-not-branch
returns-then-not-branch c =
    let stopped : c.in_ok-has_outside.field-0 ≡ false = search rules in
    let none : HasNoneOutside c.args.within.now c.args.holes.now c.in_ok-near.near.items =
    rw (c.deref.ensures.value, stopped) at c.in_ok-has_outside.ensures in
    none_outside c.args.within.now c.args.holes.now c.in_ok-near.near.items c.in_ok-near.ensures none

pub loop-alloc-init : goal.loop-alloc-init
loop-alloc-init c =
    let some : HasOutside c.args.within.now c.args.holes.now c.in_ok-near.near.items =
    rw (c.deref.ensures.value, c.if-not-branch.false) at c.in_ok-has_outside.ensures in
    rw c.new-taken.ensures.items (first_none c.args.within.now c.args.holes.now c.in_ok-near.near.items some)

pub loop-alloc-preserved : goal.loop-alloc-preserved
loop-alloc-preserved c =
    let next : IsNextPlace c.args.within.now c.args.holes.now c.in_ok-near.near.items c.loop-alloc.taken.items c.in-Some.place =
    rw (c.deref-in-loop-alloc.ensures.value, c.deref-in-loop-alloc-2.ensures.value, c.in-Some.is) at c.in_ok-place.ensures in
    rw c.in_ok-push-in-Some.ensures.items
    (first_more c.args.within.now c.args.holes.now c.in_ok-near.near.items c.loop-alloc.taken.items c.in-Some.place (search rules) c.loop-alloc.invariant next)

pub returns : goal.returns
returns c =
    let whole : length c.args.within.now ≤ length c.loop-alloc.taken.items = search rules in
    first_outside_of c.args.within.now c.args.holes.now c.in_ok-near.near.items c.in_ok-near.ensures c.loop-alloc.taken.items whole c.loop-alloc.invariant
