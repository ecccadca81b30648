-- The orders by which findings are reported, and by which one witness is better than another.
use Rattle.std.proofs.Common.{◌≡◌, ℕ, ◌<◌, ◌≤◌, ◌⊎◌, ◌==◌, Bool, true, false, ◌&&◌, ◌||◌, not, inl, inr, nat_lt, refl, sym, ap, ◌∙◌, arith}
use Rattle.std.proofs.lemmas.Bool.{cases_Bool, cases_eq, cases_lt, cases_order, eq-eqb, eqb-true, false≢true, le-ltb, lt-ltb, ltb-true, ne_eqb}
use Rattle.j39_line_findings.specs.Best.{amount_in, is_better, is_earlier_witness}
use Rattle.j39_line_findings.specs.Boxes.{are_one_answer}
use Rattle.j39_line_findings.specs.InFile.{is_below, rank_by}
use Rattle.j39_line_findings.specs.declared.rank.Rank.{Rank}
use Rattle.j39_line_findings.specs.declared.witnessed.Witnessed.{Witnessed}

-- by these numbers, then by what is behind
abbrev by : ℕ → ℕ → Bool → Bool
by a b rest = nat_lt a b || ((a == b) && rest)

split : (a b : ℕ) (rest : Bool) → by a b rest ≡ true → (a < b) ⊎ ((a ≡ b) × (rest ≡ true))
split a b rest is = elim (cases_order a b) [
  | inr (inl less) ↦ inl less
  | inl same ↦ inr (same, (let less : nat_lt a b ≡ false = le-ltb a b (omega (arith, same)) in rw (less, eq-eqb a b same) at is))
  | inr (inr more) ↦
      let less : nat_lt a b ≡ false = le-ltb a b (omega (arith, more)) in
      let other : (a == b) ≡ false = ne_eqb a b (λ same. omega (arith, more, same)) in
      absurd (false≢true (rw (less, other) at is))
]

less_so : (a b : ℕ) (rest : Bool) → a < b → by a b rest ≡ true
less_so a b rest less = rw (lt-ltb a b less) refl

same_so : (a b : ℕ) (rest : Bool) → a ≡ b → rest ≡ true → by a b rest ≡ true
same_so a b rest same is = let none : nat_lt a b ≡ false = le-ltb a b (omega (arith, same)) in rw (none, eq-eqb a b same) is

through : (a b c : ℕ) (r s t : Bool) → (r ≡ true → s ≡ true → t ≡ true) → by a b r ≡ true → by b c s ≡ true → by a c t ≡ true
through a b c r s t rest one other = elim (split a b r one) [
  | inl less ↦ elim (split b c s other) [
    | inl more ↦ less_so a c t (omega (arith, less, more))
    | inr (same, is) ↦ less_so a c t (omega (arith, less, same))
  ]
  | inr (same, is) ↦ elim (split b c s other) [
    | inl more ↦ less_so a c t (omega (arith, same, more))
    | inr (also, too) ↦ same_so a c t (same ∙ also) (rest is too)
  ]
]

itself : (a : ℕ) (r : Bool) → by a a r ≡ true → r ≡ true
itself a r is = elim (split a a r is) [
  | inl less ↦ absurd (omega (arith, less))
  | inr (same, rest) ↦ rest
]

-- neither is below the other
neither : (a b : ℕ) (r s : Bool) → by a b r ≡ false → by b a s ≡ false → (a ≡ b) × (r ≡ false) × (s ≡ false)
neither a b r s one other = elim (cases_order a b) [
  | inr (inl less) ↦ absurd (false≢true (sym one ∙ less_so a b r less))
  | inl same ↦
      let first : nat_lt a b ≡ false = le-ltb a b (omega (arith, same)) in
      let second : nat_lt b a ≡ false = le-ltb b a (omega (arith, same)) in
      (same, rw (first, eq-eqb a b same) at one, rw (second, eq-eqb b a (sym same)) at other)
  | inr (inr more) ↦ absurd (false≢true (sym other ∙ less_so b a s more))
]

less_through : (a b c : ℕ) → nat_lt a b ≡ true → nat_lt b c ≡ true → nat_lt a c ≡ true
less_through a b c one other = lt-ltb a c (let x = ltb-true a b one in let y = ltb-true b c other in omega (arith, x, y))

not_less : (a b : ℕ) → nat_lt a b ≡ false → b ≤ a
not_less a b is = elim (cases_lt a b) [
  | inl less ↦ absurd (false≢true (sym is ∙ lt-ltb a b less))
  | inr more ↦ more
]

-- ---- ranks

pub below_through : (a b c : Rank) → is_below a b ≡ true → is_below b c ≡ true → is_below a c ≡ true
below_through a b c = through a.number b.number c.number _ _ _
    (through a.first b.first c.first _ _ _ (through a.second b.second c.second _ _ _ (less_through a.third b.third c.third)))

pub none_below_itself : (a : Rank) → is_below a a ≡ true → ⊥
none_below_itself a is =
    let less = ltb-true a.third a.third (itself a.second _ (itself a.first _ (itself a.number _ is))) in omega (arith, less)

pub one_rank : (a b : Rank) → is_below a b ≡ false → is_below b a ≡ false → a ≡ b
one_rank a b one other =
    let n = neither a.number b.number _ _ one other in
    let i = neither a.first b.first _ _ n.1 n.2 in
    let j = neither a.second b.second _ _ i.1 i.2 in
    let least = not_less a.third b.third j.1 in
    let most = not_less b.third a.third j.2 in
    let k : a.third ≡ b.third = omega (arith, least, most) in
    let same : rank_by a.number a.first a.second a.third ≡ rank_by b.number b.first b.second b.third = rw (n.0, i.0, j.0, k) refl in
    same

-- ---- witnesses

abbrev early : Bool → Bool → ℕ → ℕ → Bool
early b c v w = (b && not c) || (are_one_answer b c && nat_lt v w)

early_through : (b c d : Bool) (v w x : ℕ) → early b c v w ≡ true → early c d w x ≡ true → early b d v x ≡ true
early_through true true true v w x one other = less_through v w x one other
early_through true true false v w x one other = refl
early_through true false true v w x one other = absurd (false≢true other)
early_through true false false v w x one other = refl
early_through false true true v w x one other = absurd (false≢true one)
early_through false true false v w x one other = absurd (false≢true one)
early_through false false true v w x one other = absurd (false≢true other)
early_through false false false v w x one other = less_through v w x one other

none_early : (b : Bool) (v : ℕ) → early b b v v ≡ true → ⊥
none_early true v is = let less = ltb-true v v is in omega (arith, less)
none_early false v is = let less = ltb-true v v is in omega (arith, less)

more_through : (a b c : ℕ) (r s t : Bool) → (r ≡ true → s ≡ true → t ≡ true) → (nat_lt b a || ((a == b) && r)) ≡ true
    → (nat_lt c b || ((b == c) && s)) ≡ true → (nat_lt c a || ((a == c) && t)) ≡ true
more_through a b c r s t rest one other = elim (more_split a b r one) [
  | inl less ↦ elim (more_split b c s other) [
    | inl more ↦ rw (lt-ltb c a (omega (arith, less, more))) refl
    | inr (same, is) ↦ rw (lt-ltb c a (omega (arith, less, same))) refl
  ]
  | inr (same, is) ↦ elim (more_split b c s other) [
    | inl more ↦ rw (lt-ltb c a (omega (arith, same, more))) refl
    | inr (also, too) ↦
        let none : nat_lt c a ≡ false = le-ltb c a (omega (arith, same, also)) in
        rw (none, eq-eqb a c (same ∙ also)) (rest is too)
  ]
]
  where
    more_split : (a b : ℕ) (r : Bool) → (nat_lt b a || ((a == b) && r)) ≡ true → (b < a) ⊎ ((a ≡ b) × (r ≡ true))
    more_split a b r is = elim (cases_order a b) [
      | inr (inl less) ↦
          let none : nat_lt b a ≡ false = le-ltb b a (omega (arith, less)) in
          let other : (a == b) ≡ false = ne_eqb a b (λ same. omega (arith, less, same)) in
          absurd (false≢true (rw (none, other) at is))
      | inl same ↦ inr (same, (let none : nat_lt b a ≡ false = le-ltb b a (omega (arith, same)) in rw (none, eq-eqb a b same) at is))
      | inr (inr more) ↦ inl more
    ]

pub better_through : (w x y : Witnessed) → is_better w x ≡ true → is_better x y ≡ true → is_better w y ≡ true
better_through w x y =
    more_through (amount_in w) (amount_in x) (amount_in y) _ _ _ (early_through w.counted x.counted y.counted w.variant x.variant y.variant)

pub none_better_itself : (w : Witnessed) → is_better w w ≡ false
none_better_itself w = elim (cases_Bool (is_better w w)) [
  | inl is ↦
      let none : nat_lt (amount_in w) (amount_in w) ≡ false = le-ltb (amount_in w) (amount_in w) (omega arith) in
      absurd (none_early w.counted w.variant (rw (none, eq-eqb (amount_in w) (amount_in w) refl) at is))
  | inr not_so ↦ not_so
]
