use Rattle.std.proofs.Common.{ℕ, ◌<◌, ◌≤◌, List, ◌++◌, ◌∷◌, [], length, arith, ap, below_more}
use Rattle.std.proofs.lemmas.List.{length-append}
use Rattle.j39_variant_search.specs.inside.BoxParts.{IsBoxPart, is_taken_at}
use Rattle.j39_variant_search.specs.inside.NearHoles.{HasNoneOutside, HasOutside, NoneBegins}
use Rattle.j39_variant_search.specs.VariantSearch.{box_flags}
use Rattle.j39_variant_search.proofs.Beginning.{none_next, none_taken, one_taken}
use Rattle.j39_variant_search.proofs.search.next_place.Goals as goal

few : {A : Type 0} (taken : List ℕ) (p : ℕ) (within : List A) → length taken < length within → length (taken ++ p ∷ []) ≤ length within
few taken p within less = let n = length-append taken (p ∷ []) in omega (arith, n, less)

pub returns-then-branch : goal.returns-then-branch
returns-then-branch c =
    let part : IsBoxPart (is_taken_at (c.args.taken.now ++ c.loop-place.place ∷ [])) (box_flags c.args.within.now) (box_flags c.in_ok-part.part.items) =
    rw (c.deref.ensures.value, c.in_ok-longer.ensures) at c.in_ok-part.ensures in
    let some : HasOutside c.in_ok-part.part.items c.args.holes.now c.args.near.now =
    rw (c.deref-in-loop-place.ensures.value, c.if-branch.true) at c.in_ok-has_outside.ensures in
    record {
      one = one_taken c.args.within.now c.in_ok-part.part.items c.args.holes.now c.args.near.now (c.args.taken.now ++ c.loop-place.place ∷ [])
          (few c.args.taken.now c.loop-place.place c.args.within.now c.requires) part some;
      none = c.loop-place.invariant;
    }

pub loop-place-preserved : goal.loop-place-preserved
loop-place-preserved c =
    let part : IsBoxPart (is_taken_at (c.args.taken.now ++ c.loop-place.place ∷ [])) (box_flags c.args.within.now) (box_flags c.in_ok-part.part.items) =
    rw (c.deref.ensures.value, c.in_ok-longer.ensures) at c.in_ok-part.ensures in
    let none : HasNoneOutside c.in_ok-part.part.items c.args.holes.now c.args.near.now =
    rw (c.deref-in-loop-place.ensures.value, c.if-branch.false) at c.in_ok-has_outside.ensures in
    below_more (λ p. NoneBegins c.args.within.now c.args.holes.now c.args.near.now (c.args.taken.now ++ p ∷ [])) c.loop-place.place c.loop-place.invariant
    (none_taken c.args.within.now c.in_ok-part.part.items c.args.holes.now c.args.near.now (c.args.taken.now ++ c.loop-place.place ∷ [])
    (few c.args.taken.now c.loop-place.place c.args.within.now c.requires) part none)

pub returns : goal.returns
returns c =
    none_next c.args.within.now c.args.holes.now c.args.near.now c.args.taken.now c.requires
    (λ place below. c.loop-place.invariant place (let end = ap length c.flags_at-place-end.ensures in omega (arith, end, below)))
