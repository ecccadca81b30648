-- Each variant is covered by a full one.
use Rattle.std.specs.declared.alloc.Global.{Global}
use Rattle.std.proofs.Common.{◌≡◌, ◌≢◌, ◌⊎◌, ℕ, zero, suc, ◌<◌, ◌≤◌, Bool, true, false, not, ◌&&◌, ◌||◌, ◌==◌, nat_lt, List, [], ◌∷◌, Option, Some, None, Vec}
use Rattle.std.proofs.Common.{refl, sym, ◌∙◌, ap, subst, inl, inr, arith}
use Rattle.std.proofs.lemmas.Bool.{and_from, and_parts, cases_Bool, cases_eq, cases_lt, eq-eqb, eqb-true, false≢true, lt-ltb, ltb-true, or_cases, or_left}
use Rattle.std.proofs.lemmas.Bool.{or_right, true≢false}
use Rattle.j39_variants.specs.declared.line.Alternative.{Alternative}
use Rattle.j39_variants.specs.declared.line.ProductLine.{ProductLine}
use Rattle.j39_line_findings.specs.Boxes.{is_one_alternative, admits}
use Rattle.j39_line_findings.specs.FullVariants.{agree_on_need, alternative_at, do_keep, does_leave, does_need_admit, is_covered, is_covered_for}
use Rattle.j39_line_laws.proofs.Agreeing.{agree-refl, agree-trans}
use Rattle.j39_line_laws.proofs.VariantBoxes.{keep_flows, keep_groups, keep_nevers, keep_requests, keep_units}

apart : (p q : ℕ) → q ≢ p → (p < q) ⊎ (q < p)
apart p q differ = elim (cases_lt p q) [
  | inl less ↦ inl less
  | inr from ↦ elim (cases_lt q p) [
    | inl below ↦ inr below
    | inr above ↦ absurd (differ (omega (arith, from, above)))
  ]
]

-- ---- covering is a preorder

keep_one : (b : Bool) → (not b || b) ≡ true
keep_one true = refl
keep_one false = refl

keep_on : (a b c : Bool) → (not a || b) ≡ true → (not b || c) ≡ true → (not a || c) ≡ true
keep_on true true c one two = two
keep_on true false c one two = absurd (false≢true one)
keep_on false b c one two = refl

keep-refl : (lists : List (Vec Alternative Global)) (a : Alternative) → do_keep lists a a ≡ true
keep-refl [] a = refl
keep-refl (l ∷ ls) a = and_from (not (admits l.items a) || admits l.items a) (do_keep ls a a) (keep_one (admits l.items a)) (keep-refl ls a)

keep-trans : (lists : List (Vec Alternative Global)) (a b c : Alternative) → do_keep lists a b ≡ true → do_keep lists b c ≡ true → do_keep lists a c ≡ true
keep-trans [] a b c one two = refl
keep-trans (l ∷ ls) a b c one two =
    let (first, rest) = and_parts (not (admits l.items a) || admits l.items b) (do_keep ls a b) one in
    let (second, more) = and_parts (not (admits l.items b) || admits l.items c) (do_keep ls b c) two in
    and_from (not (admits l.items a) || admits l.items c) (do_keep ls a c) (keep_on (admits l.items a) (admits l.items b) (admits l.items c) first second)
    (keep-trans ls a b c rest more)

module _ (line : ProductLine) where
  covers_from : (a b : Alternative) → do_keep line.lists.units.items a b ≡ true → do_keep line.lists.groups.items a b ≡ true
      → do_keep line.lists.flows.items a b ≡ true → do_keep line.lists.requests.items a b ≡ true → do_keep line.nevers.items b a ≡ true
      → is_covered line a b ≡ true
  covers_from a b units groups flows requests nevers =
      and_from (do_keep line.lists.units.items a b) _ units (and_from (do_keep line.lists.groups.items a b) _ groups
      (and_from (do_keep line.lists.flows.items a b) _ flows (and_from (do_keep line.lists.requests.items a b)
      (do_keep line.nevers.items b a) requests nevers)))

  covered-refl : (a : Alternative) → is_covered line a a ≡ true
  covered-refl a = covers_from a a (keep-refl line.lists.units.items a) (keep-refl line.lists.groups.items a) (keep-refl line.lists.flows.items a)
      (keep-refl line.lists.requests.items a) (keep-refl line.nevers.items a)

  covered-trans : (a b c : Alternative) → is_covered line a b ≡ true → is_covered line b c ≡ true → is_covered line a c ≡ true
  covered-trans a b c one two = covers_from a c
      (keep-trans line.lists.units.items a b c (keep_units line a b one) (keep_units line b c two))
      (keep-trans line.lists.groups.items a b c (keep_groups line a b one) (keep_groups line b c two))
      (keep-trans line.lists.flows.items a b c (keep_flows line a b one) (keep_flows line b c two))
      (keep-trans line.lists.requests.items a b c (keep_requests line a b one) (keep_requests line b c two))
      (keep-trans line.nevers.items c b a (keep_nevers line b c two) (keep_nevers line a b one))

-- ---- so is covering for a need

module _ (line : ProductLine) (alternatives : List Alternative) where
  covered_for-refl : (need : Option ℕ) (a : Alternative) → is_covered_for line alternatives need a a ≡ true
  covered_for-refl None a = covered-refl line a
  covered_for-refl (Some d) a = and_from (is_covered line a a) (agree_on_need line alternatives d a a) (covered-refl line a) (agree-refl line alternatives d a)

  covered_for-trans : (need : Option ℕ) (a b c : Alternative) → is_covered_for line alternatives need a b ≡ true
      → is_covered_for line alternatives need b c ≡ true
      → is_covered_for line alternatives need a c ≡ true
  covered_for-trans None a b c one two = covered-trans line a b c one two
  covered_for-trans (Some d) a b c one two =
      let (first, agree) = and_parts (is_covered line a b) (agree_on_need line alternatives d a b) one in
      let (second, also) = and_parts (is_covered line b c) (agree_on_need line alternatives d b c) two in
      and_from (is_covered line a c) (agree_on_need line alternatives d a c) (covered-trans line a b c first second)
      (agree-trans line alternatives d a b c agree also)

  pub covered_of : (need : Option ℕ) (a b : Alternative) → is_covered_for line alternatives need a b ≡ true → is_covered line a b ≡ true
  covered_of None a b covers = covers
  covered_of (Some d) a b covers = (and_parts (is_covered line a b) (agree_on_need line alternatives d a b) covers).0

  -- ---- which alternative of a choice stands in the way of which

  module _ (need : Option ℕ) (c : ℕ) where
    abbrev pub covers : ℕ → ℕ → Bool
    covers p q = is_covered_for line alternatives need (alternative_at c p) (alternative_at c q)

    -- the second covers the first, and is another one that isn't covered by it, or stands before it
    abbrev pub IsBetter : ℕ → ℕ → Type 0
    IsBetter p q = (covers p q ≡ true) × (q ≢ p) × (covers q p ≡ true → q < p)

    abbrev pub leaves : ℕ → ℕ → Bool
    leaves p q = does_leave line alternatives need (alternative_at c p) (alternative_at c q)

    abbrev others_leave : ℕ → ℕ → Bool
    others_leave p q = is_one_alternative (alternative_at c q) (alternative_at c p) || (not (covers p q) || (covers q p && nat_lt p q))

    one_choice : (p q : ℕ) → leaves p q ≡ others_leave p q
    one_choice p q = ap (λ b. not b || others_leave p q) (eq-eqb c c refl)

    better_or_not : (p q : ℕ) → IsBetter p q ⊎ (leaves p q ≡ true)
    better_or_not p q = elim (cases_eq q p) [
      | inl same ↦ inr (one_choice p q ∙ or_left (is_one_alternative (alternative_at c q) (alternative_at c p)) (not (covers p q) || (covers q p && nat_lt p q))
          (and_from (c == c) (q == p) (eq-eqb c c refl) (eq-eqb q p same)))
      | inr other ↦ elim (cases_Bool (covers p q)) [
        | inr none ↦ inr (one_choice p q ∙ or_right (is_one_alternative (alternative_at c q) (alternative_at c p))
            (not (covers p q) || (covers q p && nat_lt p q))
            (or_left (not (covers p q)) (covers q p && nat_lt p q) (ap not none)))
        | inl covered ↦ elim (cases_Bool (covers q p && nat_lt p q)) [
          | inl behind ↦ inr (one_choice p q ∙ or_right (is_one_alternative (alternative_at c q) (alternative_at c p))
              (not (covers p q) || (covers q p && nat_lt p q))
              (or_right (not (covers p q)) (covers q p && nat_lt p q) behind))
          | inr stands ↦ inl (covered, other, λ back. before other back stands)
        ]
      ]
    ]
      where
        before : q ≢ p → covers q p ≡ true → (covers q p && nat_lt p q) ≡ false → q < p
        before other back stands = elim (apart p q other) [
          | inr less ↦ less
          | inl behind ↦ absurd (true≢false (sym (and_from (covers q p) (nat_lt p q) back (lt-ltb p q behind)) ∙ stands))
        ]

    pub none_better : (p q : ℕ) → (¬ IsBetter p q) → leaves p q ≡ true
    none_better p q none = elim (better_or_not p q) [
      | inl better ↦ absurd (none better)
      | inr leaves_it ↦ leaves_it
    ]

    better-trans : (p q r : ℕ) → IsBetter p q → IsBetter q r → IsBetter p r
    better-trans p q r (covered, differ, before) (also, other, behind) = (
      covered_for-trans need (alternative_at c p) (alternative_at c q)
          (alternative_at c r) covered also,
      ne,
      less,
    )
      where
        ne : r ≢ p
        ne same =
            let first = before (subst (λ k. covers q k ≡ true) same also) in
            let second = behind (subst (λ k. covers k q ≡ true) (sym same) covered) in
            absurd (omega (arith, first, second, same))

        less : covers r p ≡ true → r < p
        less back =
            let first = before (covered_for-trans need (alternative_at c q) (alternative_at c r) (alternative_at c p) also back) in
            let second = behind (covered_for-trans need (alternative_at c r) (alternative_at c p) (alternative_at c q) back covered) in
            omega (arith, first, second)

    -- of so many alternatives one that covers the first, and than which none of them is better
    -- (of those of the box of the need)
    abbrev pub is_admitted : ℕ → Bool
    is_admitted p = does_need_admit line need (alternative_at c p)

    pub record IsBest (n total p m : ℕ) : Type 0 where
      pub inside : m < total
      pub admitted : is_admitted m ≡ true
      pub covering : covers p m ≡ true
      pub best : (r : ℕ) → r < n → is_admitted r ≡ true → ¬ IsBetter m r

    not_both : (k r : ℕ) → IsBetter k r → leaves k r ≡ true → ⊥
    not_both k r (covered, differ, before) leaves_it =
        elim (or_cases (is_one_alternative (alternative_at c r) (alternative_at c k)) (not (covers k r) || (covers r k && nat_lt k r))
        (sym (one_choice k r) ∙ leaves_it)) [
          | inl one ↦ differ (eqb-true r k (and_parts (c == c) (r == k) one).1)
          | inr others ↦ elim (or_cases (not (covers k r)) (covers r k && nat_lt k r) others) [
            | inl none ↦ false≢true (sym (ap not covered) ∙ none)
            | inr behind ↦
                let (back, later) = and_parts (covers r k) (nat_lt k r) behind in
                let less = before back in
                let more = ltb-true k r later in
                omega (arith, less, more)
          ]
        ]

    pub best_of : (total p : ℕ) → p < total → is_admitted p ≡ true → (n : ℕ) → n ≤ total → (m : ℕ) × IsBest n total p m
    best_of total p within lets zero few = (
      p,
      record { inside = within; admitted = lets; covering = covered_for-refl need (alternative_at c p); best = λ r below let_r better. omega (arith, below) },
    )
    best_of total p within lets (suc n) few = go (best_of total p within lets n (omega (arith, few)))
      where
        -- the next one isn't in the box, or leaves the best one
        stays : (m : ℕ) → IsBest n total p m → (is_admitted n ≡ true → ¬ IsBetter m n) → IsBest (suc n) total p m
        stays m is none = record {
          inside = is.inside;
          admitted = is.admitted;
          covering = is.covering;
          best = λ r below let_r more. elim (cases_lt r n) [
            | inl less ↦ is.best r less let_r more
            | inr from ↦
                let same : r ≡ n = omega (arith, below, from) in
                none (subst (λ k. is_admitted k ≡ true) same let_r) (subst (IsBetter m) same more)
          ];
        }

        go : (m : ℕ) × IsBest n total p m → (m : ℕ) × IsBest (suc n) total p m
        go (m, is) = elim (cases_Bool (is_admitted n)) [
          | inr out ↦ (m, stays m is (λ let_n. absurd (true≢false (sym let_n ∙ out))))
          | inl let_n ↦ elim (better_or_not m n) [
            | inr leaves_it ↦ (m, stays m is (λ lets_it better. not_both m n better leaves_it))
            | inl better ↦ (
              n,
              record {
                inside = omega (arith, few);
                admitted = let_n;
                covering = covered_for-trans need (alternative_at c p) (alternative_at c m) (alternative_at c n) is.covering better.0;
                best = λ r below let_r more. elim (cases_lt r n) [
                  | inl less ↦ is.best r less let_r (better-trans m n r better more)
                  | inr from ↦ more.1 (omega (arith, below, from))
                ];
              },
            )
          ]
        ]
