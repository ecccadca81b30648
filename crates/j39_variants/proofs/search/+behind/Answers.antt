use Rattle.std.proofs.Common.{◌≡◌, ◌++◌, ◌∷◌, [], ℕ, ◌<◌, List, true, length, arith, rules, sym, ◌∙◌, below_more, refl, subst}
use Rattle.j39_variants.specs.Variants.{IsFirstBehind, NoneTakes, is_possible, takes_all}
use Rattle.j39_variants.proofs.Searching.{first_longer, first_taken, found_taking, none_allowed, none_behind, none_possible, none_taken}
use Rattle.j39_variants.proofs.search.+behind.Goals as goal
use Rattle.j39_variants.proofs.search.+behind.Goals.{then-is_allowed+in_ok-longer+in_ok-found+in_default, else-is_allowed}

pub returns-then-not-is_possible : goal.returns-then-not-is_possible
returns-then-not-is_possible t c =
    none_possible c.args.line.now c.args.wanted.now c.args.taken.now (rw c.deref.ensures.value at (sym c.is_possible.ensures ∙ c.if-not-is_possible.true))

pub returns-then-takes_all : goal.returns-then-takes_all
returns-then-takes_all t c =
    let same : c.in_ok-to_vec.field-0.items ≡ c.args.taken.now = search rules in
    let all : length c.args.taken.now ≡ length c.args.line.now.choices.items = omega arith in
    let possible : is_possible c.args.line.now.nevers.items c.args.taken.now ≡ true =
    rw c.deref.ensures.value at (sym c.is_possible.ensures ∙ c.if-not-is_possible.false) in
    let these : takes_all c.args.taken.now c.args.wanted.now ≡ true = sym c.takes_all.ensures ∙ c.if-takes_all.true in
    rw same
    (first_taken c.args.line.now c.args.wanted.now c.args.taken.now all
    (found_taking c.args.line.now c.args.wanted.now c.args.taken.now c.requires.fits all possible these))

pub returns-in-Some : goal.returns-in-Some
returns-in-Some t c =
    let longer : c.deref-then-is_allowed.result.now ≡ c.args.taken.now ++ c.loop-place.place ∷ [] =
    c.deref-then-is_allowed.ensures.value ∙ c.in_ok-longer.ensures in
    let few : length c.args.taken.now < length c.args.line.now.choices.items = omega arith in
    let found : IsFirstBehind c.args.line.now c.args.wanted.now c.deref-then-is_allowed.result.now c.in-Some.found.items =
    rw c.in-Some.is at c.in_ok-found.ensures in
    first_longer c.args.line.now c.args.wanted.now c.args.taken.now c.deref-then-is_allowed.result.now c.in-Some.found.items c.loop-place.place longer few
    c.loop-place.invariant found

pub loop-place-preserved : goal.loop-place-preserved
loop-place-preserved t c =
    elim c.if-is_allowed.branch [
      | then-is_allowed+in_ok-longer+in_ok-found+in_default w ↦
          let longer : w.deref-then-is_allowed.result.now ≡ c.args.taken.now ++ c.loop-place.place ∷ [] =
          w.deref-then-is_allowed.ensures.value ∙ w.in_ok-longer.ensures in
          let P : List ℕ → Type 0 = λ xs. NoneTakes c.args.line.now c.args.wanted.now xs in
          let none : P w.deref-then-is_allowed.result.now = rw w.in_default.is at w.in_ok-found.ensures in
          below_more _ _ c.loop-place.invariant (subst P longer none)
      | else-is_allowed w ↦
          below_more _ _ c.loop-place.invariant
          (none_allowed c.args.line.now c.args.wanted.now c.args.taken.now c.loop-place.place (sym c.is_allowed.ensures ∙ w.if-is_allowed.false))
    ]

pub returns : goal.returns
returns t c =
    none_behind c.args.line.now c.args.wanted.now c.args.taken.now (omega arith)
    (λ p below. c.loop-place.invariant p (let end = c.size_at-place-end.ensures in omega (arith, end, below)))
