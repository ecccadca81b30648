-- Where units stand, by a table of holders.
use Rattle.std.proofs.Common.{◌≡◌, ◌⊎◌, ◌<◌, ◌≤◌, ◌+◌, ℕ, zero, suc, true, false, List, [], ◌∷◌, ◌++◌, length, codes, Option, Some, None, inl, inr, refl}
use Rattle.std.proofs.Common.{sym, ap, subst, ◌∙◌, arith}
use Rattle.std.specs.List.{slice_get}
use Rattle.std.proofs.lemmas.Bool.{cases_Bool, cases_order, true≢false}
use Rattle.std.proofs.lemmas.Option.{slice_get_within, none-some, same_Some}
use Rattle.j39_id.specs.declared.frame.Frame.{Frame}
use Rattle.j39_network.specs.declared.plan.Plan.{Plan}
use Rattle.j39_network.specs.declared.plan.unit_plan.UnitPlan.{UnitPlan}
use Rattle.j39_text.specs.Texts.{field}
use Rattle.j39_follow.specs.FollowText.{AreUnitLines, HoldsForUnit, IsUnitLine, StandsAt, unit_end_line}
use Rattle.j39_follow.specs.Who.{IsUnitHeard, is_name_of}
use Rattle.j39_follow.specs.declared.address.holders.Holders.{Holders}
use Rattle.j39_follow.specs.inside.Recounting.{HasNameAt, IsHeldByUnit, IsLatestBelow, Recounts, claimed_at, is_marked}
use Rattle.j39_follow.proofs.Addresses.Recounts.{claim_reports}
use Rattle.j39_follow.proofs.Addresses.Likeliest.{below_next}

module _ (plan : Plan) (holders : Holders) (u : ℕ) (unit : UnitPlan) where
  -- ---- the address that was claimed last, address after address

  pub not_next : (best : Option ℕ) (k : ℕ) → ¬ IsHeldByUnit plan holders u unit k → IsLatestBelow plan holders u unit k best
      → IsLatestBelow plan holders u unit (k + 1) best
  not_next None k not of = λ other less held. elim (below_next other k less) [
    | inl same ↦ not (subst (IsHeldByUnit plan holders u unit) same held)
    | inr earlier ↦ of other earlier held
  ]
  not_next (Some a) k not of = (
    of.0,
    λ other less held. elim (below_next other k less) [
      | inl same ↦ absurd (not (subst (IsHeldByUnit plan holders u unit) same held))
      | inr earlier ↦ of.1 other earlier held
    ],
  )

  pub earlier_next : (best : Option ℕ) (k a : ℕ) → best ≡ Some a → claimed_at holders k ≤ claimed_at holders a
      → IsLatestBelow plan holders u unit k best → IsLatestBelow plan holders u unit (k + 1) best
  earlier_next None k a e later of = absurd (none-some a e)
  earlier_next (Some b) k a e later of = (
    of.0,
    λ other less held. elim (below_next other k less) [
      | inl same ↦
          let one : b ≡ a = same_Some b a e in
          subst (λ (i : ℕ). claimed_at holders i ≤ claimed_at holders b) (sym same)
          (subst (λ (i : ℕ). claimed_at holders k ≤ claimed_at holders i) (sym one) later)
      | inr earlier ↦ of.1 other earlier held
    ],
  )

  latest_of : (best : Option ℕ) (k : ℕ) → ((a : ℕ) → best ≡ Some a → claimed_at holders a ≤ claimed_at holders k)
      → IsLatestBelow plan holders u unit k best → (other : ℕ) → other < k → IsHeldByUnit plan holders u unit other
      → claimed_at holders other ≤ claimed_at holders k
  latest_of None k later of other less held = absurd (of other less held)
  latest_of (Some a) k later of other less held =
      let first = of.1 other less held in
      let second = later a refl in
      omega (arith, first, second)

  pub later_next : (best : Option ℕ) (k : ℕ) → IsHeldByUnit plan holders u unit k
      → ((a : ℕ) → best ≡ Some a → claimed_at holders a ≤ claimed_at holders k) → IsLatestBelow plan holders u unit k best
      → IsLatestBelow plan holders u unit (k + 1) (Some k)
  later_next best k here later of = (
    here,
    λ other less held. elim (below_next other k less) [
      | inl same ↦ (let one : claimed_at holders other ≡ claimed_at holders k = ap (claimed_at holders) same in omega (arith, one))
      | inr earlier ↦ latest_of best k later of other earlier held
    ],
  )

  -- ---- what a table reports of a unit

  module _ (frames : List Frame) (of : Recounts plan holders frames) where
    pub is_held : (a : ℕ) → HoldsForUnit plan frames u unit a → IsHeldByUnit plan holders u unit a
    is_held a h = record { name = h.name; named = of.holds a h.name h.holds; name_of = h.name_of }

    pub stands_at : (many a : ℕ) → ((b n : ℕ) → HasNameAt holders b n → b < many) → IsLatestBelow plan holders u unit many (Some a)
        → StandsAt plan frames u unit a
    stands_at many a within latest = record {
      there = record { name = latest.0.name; name_of = latest.0.name_of; holds = of.held a latest.0.name latest.0.named };
      last = λ other h.
          let held = is_held other h in
          let first = latest.1 other (within other held.name held.named) held in
          let second = of.since other h.name h.holds in
          let third = of.since a latest.0.name (of.held a latest.0.name latest.0.named) in
          omega (arith, first, second, third);
    }

    pub stands_nowhere : (many : ℕ) → ((b n : ℕ) → HasNameAt holders b n → b < many) → IsLatestBelow plan holders u unit many None
        → (a : ℕ) → ¬ HoldsForUnit plan frames u unit a
    stands_nowhere many within none a h =
        let held = is_held a h in
        none a (within a held.name held.named) held

    -- ---- its line

    pub line_there : (many a : ℕ) → ((b n : ℕ) → HasNameAt holders b n → b < many) → IsLatestBelow plan holders u unit many (Some a)
        → IsUnitLine plan frames u unit (unit_end_line unit (field (codes " address ") a))
    line_there many a within latest = inl (a, stands_at many a within latest, refl)

    pub line_nowhere : (many : ℕ) → ((b n : ℕ) → HasNameAt holders b n → b < many) → IsLatestBelow plan holders u unit many None
        → slice_get plan.units.items u ≡ Some unit → is_marked holders u ≡ true → IsUnitLine plan frames u unit (unit_end_line unit (codes " none"))
    line_nowhere many within none at marked = inr (inl (of.heard u unit at marked, stands_nowhere many within none, refl))

    pub line_unclaimed : slice_get plan.units.items u ≡ Some unit → is_marked holders u ≡ false
        → IsUnitLine plan frames u unit (unit_end_line unit (codes " unclaimed"))
    line_unclaimed at unmarked = inr (inr (of.unheard u unit at unmarked, refl))

  -- ---- there is one

  held_or_not : (a : ℕ) (o : Option (Option ℕ)) → slice_get holders.names a ≡ o → (IsHeldByUnit plan holders u unit a) ⊎ (¬ IsHeldByUnit plan holders u unit a)
  held_or_not a None is = inr (λ held. none-some (Some held.name) (sym is ∙ held.named))
  held_or_not a (Some None) is = inr (λ held. none-some held.name (same_Some None (Some held.name) (sym is ∙ held.named)))
  held_or_not a (Some (Some n)) is = elim (cases_Bool (is_name_of plan u unit n)) [
    | inl its ↦ inl (record { name = n; named = is; name_of = its })
    | inr other ↦ inr (λ held.
        let same : n ≡ held.name = same_Some n held.name (same_Some (Some n) (Some held.name) (sym is ∙ held.named)) in
        true≢false (sym held.name_of ∙ sym (ap (is_name_of plan u unit) same) ∙ other))
  ]

  order_of : (a b : ℕ) → (a ≤ b) ⊎ (b ≤ a)
  order_of a b = elim (cases_order a b) [
    | inl same ↦ inl (omega (arith, same))
    | inr (inl below) ↦ inl (omega (arith, below))
    | inr (inr above) ↦ inr (omega (arith, above))
  ]

  with_next : (k : ℕ) (best : Option ℕ) → IsHeldByUnit plan holders u unit k → IsLatestBelow plan holders u unit k best
      → (next : Option ℕ) × IsLatestBelow plan holders u unit (k + 1) next
  with_next k None here of = (Some k, later_next None k here (λ a e. absurd (none-some a e)) of)
  with_next k (Some a) here of = elim (order_of (claimed_at holders a) (claimed_at holders k)) [
    | inl later ↦ (
      Some k,
      later_next (Some a) k here
          (λ b e. subst (λ (i : ℕ). claimed_at holders i ≤ claimed_at holders k) (same_Some a b e) later) of,
    )
    | inr earlier ↦ (Some a, earlier_next (Some a) k a refl earlier of)
  ]

  pub latest_below : (many : ℕ) → (best : Option ℕ) × IsLatestBelow plan holders u unit many best
  latest_below zero = (None, λ other less. absurd (omega (arith, less)))
  latest_below (suc k) =
      let before = latest_below k in
      let one : k + 1 ≡ suc k = omega arith in
      subst (λ (many : ℕ). (best : Option ℕ) × IsLatestBelow plan holders u unit many best) one
      (elim (held_or_not k (slice_get holders.names k) refl) [
        | inl held ↦ with_next k before.0 held before.1
        | inr not ↦ (before.0, not_next before.0 k not before.1)
      ])

-- ---- one line

same_spot : {A : Type 0} (b c : List A) (x y : A) (t s : List A) → length b ≡ length c → b ++ x ∷ t ≡ c ++ y ∷ s → x ≡ y
same_spot [] [] x y t s size e = cc
same_spot [] (z ∷ c) x y t s size e = absurd (omega (arith, size))
same_spot (z ∷ b) [] x y t s size e = absurd (omega (arith, size))
same_spot (z ∷ b) (w ∷ c) x y t s size e = same_spot b c x y t s (omega (arith, size)) (cc)

one_place : (plan : Plan) (frames : List Frame) (u : ℕ) (unit : UnitPlan) (a b : ℕ) → StandsAt plan frames u unit a → StandsAt plan frames u unit b → a ≡ b
one_place plan frames u unit a b s t =
    let first = s.last b t.there in
    let second = t.last a s.there in
    let h = s.there.holds in
    let k = t.there.holds in
    let size : length h.before ≡ length k.before = omega (arith, first, second) in
    let claim = same_spot h.before k.before h.claim k.claim h.behind k.behind size (sym h.row ∙ k.row) in
    sym h.claims.source_is ∙ ap (λ (f : Frame). f.ident.sa) claim ∙ k.claims.source_is

-- whose NAME holds an address was reported of
holder_is_reported : (plan : Plan) (frames : List Frame) (u : ℕ) (unit : UnitPlan) (address : ℕ) → HoldsForUnit plan frames u unit address
    → IsUnitHeard plan frames u unit
holder_is_reported plan frames u unit address there =
    let h = there.holds in
    record {
      name = there.name;
      name_of = there.name_of;
      heard = record {
        before = h.before;
        frame = h.claim;
        behind = h.behind;
        row = h.row;
        says = claim_reports h.claim there.name address h.claims;
      };
    }

one_unit_line : (plan : Plan) (frames : List Frame) (u : ℕ) (unit : UnitPlan) (t s : List ℕ) → IsUnitLine plan frames u unit t
    → IsUnitLine plan frames u unit s → t ≡ s
one_unit_line plan frames u unit t s (inl a) (inl b) =
    a.2 ∙ ap (λ (n : ℕ). unit_end_line unit (field (codes " address ") n)) (one_place plan frames u unit a.0 b.0 a.1 b.1) ∙ sym b.2
one_unit_line plan frames u unit t s (inl a) (inr (inl b)) = absurd (b.1 a.0 a.1.there)
one_unit_line plan frames u unit t s (inl a) (inr (inr b)) = absurd (b.0 (holder_is_reported plan frames u unit a.0 a.1.there))
one_unit_line plan frames u unit t s (inr (inl a)) (inl b) = absurd (a.1 b.0 b.1.there)
one_unit_line plan frames u unit t s (inr (inl a)) (inr (inl b)) = a.2 ∙ sym b.2
one_unit_line plan frames u unit t s (inr (inl a)) (inr (inr b)) = absurd (b.0 a.0)
one_unit_line plan frames u unit t s (inr (inr a)) (inl b) = absurd (a.0 (holder_is_reported plan frames u unit b.0 b.1.there))
one_unit_line plan frames u unit t s (inr (inr a)) (inr (inl b)) = absurd (a.0 b.0)
one_unit_line plan frames u unit t s (inr (inr a)) (inr (inr b)) = a.1 ∙ sym b.1

pub one_unit_lines : (plan : Plan) (frames : List Frame) (u : ℕ) (units : List UnitPlan) (t s : List ℕ) → AreUnitLines plan frames u units t
    → AreUnitLines plan frames u units s → t ≡ s
one_unit_lines plan frames u [] t s a b = a ∙ sym b
one_unit_lines plan frames u (unit ∷ units) t s a b =
    a.4 ∙ ap (λ (x : List ℕ). x ++ a.1) (one_unit_line plan frames u unit a.0 b.0 a.2 b.2)
    ∙ ap (λ (x : List ℕ). b.0 ++ x) (one_unit_lines plan frames (u + 1) units a.1 b.1 a.3 b.3) ∙ sym b.4

-- ---- all units have lines

within_names : (holders : Holders) (b n : ℕ) → HasNameAt holders b n → b < length holders.names
within_names holders b n named = slice_get_within holders.names b (Some n) named

line_by : (plan : Plan) (holders : Holders) (frames : List Frame) (u : ℕ) (unit : UnitPlan) (best : Option ℕ) → Recounts plan holders frames
    → slice_get plan.units.items u ≡ Some unit → IsLatestBelow plan holders u unit (length holders.names) best
    → (text : List ℕ) × IsUnitLine plan frames u unit text
line_by plan holders frames u unit (Some a) of at latest =
    (_, line_there plan holders u unit frames of (length holders.names) a (within_names holders) latest)
line_by plan holders frames u unit None of at none = elim (cases_Bool (is_marked holders u)) [
  | inl marked ↦ (_, line_nowhere plan holders u unit frames of (length holders.names) (within_names holders) none at marked)
  | inr unmarked ↦ (_, line_unclaimed plan holders u unit frames of at unmarked)
]

a_unit_line : (plan : Plan) (holders : Holders) (frames : List Frame) (u : ℕ) (unit : UnitPlan) → Recounts plan holders frames
    → slice_get plan.units.items u ≡ Some unit → (text : List ℕ) × IsUnitLine plan frames u unit text
a_unit_line plan holders frames u unit of at =
    let best = latest_below plan holders u unit (length holders.names) in
    line_by plan holders frames u unit best.0 of at best.1

unit_lines_from : (plan : Plan) (frames : List Frame) (k : ℕ) (units : List UnitPlan)
    → ((u : ℕ) (unit : UnitPlan) → slice_get units u ≡ Some unit → (text : List ℕ) × IsUnitLine plan frames (k + u) unit text)
    → (text : List ℕ) × AreUnitLines plan frames k units text
unit_lines_from plan frames k [] each = ([], refl)
unit_lines_from plan frames k (unit ∷ units) each =
    let start : k + 0 ≡ k = omega arith in
    let first = subst (λ (u : ℕ). (text : List ℕ) × IsUnitLine plan frames u unit text) start (each 0 unit refl) in
    let rest = unit_lines_from plan frames (k + 1) units (λ u other at.
    let on : k + suc u ≡ k + 1 + u = omega arith in
    subst (λ (v : ℕ). (text : List ℕ) × IsUnitLine plan frames v other text) on (each (suc u) other at)) in
    (first.0 ++ rest.0, (first.0, rest.0, first.1, rest.1, refl))

pub unit_lines : (plan : Plan) (holders : Holders) (frames : List Frame) → Recounts plan holders frames
    → (text : List ℕ) × AreUnitLines plan frames 0 plan.units.items text
unit_lines plan holders frames of =
    unit_lines_from plan frames 0 plan.units.items (λ u unit at.
    let same : u ≡ 0 + u = omega arith in
    subst (λ (v : ℕ). (text : List ℕ) × IsUnitLine plan frames v unit text) same (a_unit_line plan holders frames u unit of at))
