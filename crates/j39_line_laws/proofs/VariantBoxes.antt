-- Who is in a box is in it with covering alternatives too.
use Rattle.std.specs.declared.alloc.Global.{Global}
use Rattle.std.proofs.Common.{◌≡◌, ℕ, Bool, true, false, not, ◌&&◌, ◌||◌, ◌==◌, List, [], ◌∷◌, Some, Vec, refl, sym, ◌∙◌, ap, inl, inr}
use Rattle.std.specs.List.{list_any, slice_get}
use Rattle.std.specs.Option.{option_map_or}
use Rattle.std.proofs.lemmas.Bool.{and_from, and_parts, eq-eqb, eqb-true, false≢true, or_cases, or_right}
use Rattle.j39_variants.specs.declared.line.Alternative.{Alternative}
use Rattle.j39_variants.specs.declared.line.ProductLine.{ProductLine}
use Rattle.j39_variants.specs.VariantPlans.{flags}
use Rattle.j39_variants.specs.Variants.{is_in, takes_alternative}
use Rattle.j39_line_findings.specs.Boxes.{is_one_alternative, admits}
use Rattle.j39_line_findings.specs.FullVariants.{alternative_at, do_keep, is_covered}
use Rattle.j39_line_findings.proofs.Shown.{place_taken}
use Rattle.j39_line_findings.proofs.Tests.{all_at, any_at, at_all, at_any}

-- ---- a box

leads : (a b : Bool) → (not a || b) ≡ true → a ≡ true → b ≡ true
leads true b both is = both
leads false b both is = absurd (false≢true is)

-- where the box has the one alternative it has the other
abbrev Keeps : List Alternative → List ℕ → List ℕ → Type 0
Keeps list v w = (c p : ℕ) → slice_get v c ≡ Some p
    → (q : ℕ) × (slice_get w c ≡ Some q) × (admits list (alternative_at c p) ≡ true → admits list (alternative_at c q) ≡ true)

module _ (list : List Alternative) (v w : List ℕ) (keeps : Keeps list v w) where
  abbrev takes_one : List ℕ → Alternative → Alternative → Bool
  takes_one x a b = (b.choice == a.choice) && takes_alternative x b

  -- one that is named and taken has one of its choice that is named and taken by the other
  other_taken : (a b : Alternative) (j : ℕ) → slice_get list j ≡ Some b → takes_one v a b ≡ true → list_any (takes_one w a) list ≡ true
  other_taken a b j at_b both =
      let (of_choice, takes) = and_parts (b.choice == a.choice) (takes_alternative v b) both in
      let choice : b.choice ≡ a.choice = eqb-true b.choice a.choice of_choice in
      let (q, at_q, kept) = keeps b.choice b.place (place_taken v b takes) in
      let there = kept (or_right (not (list_any (λ d. d.choice == b.choice) list)) (list_any (λ d. is_one_alternative d (alternative_at b.choice b.place)) list)
      (at_any (λ d. is_one_alternative d (alternative_at b.choice b.place)) list j b at_b
      (and_from (b.choice == b.choice) (b.place == b.place) (eq-eqb b.choice b.choice refl) (eq-eqb b.place b.place refl)))) in
      let named : list_any (λ d. d.choice == b.choice) list ≡ true = at_any (λ d. d.choice == b.choice) list j b at_b (eq-eqb b.choice b.choice refl) in
      elim (or_cases (not (list_any (λ d. d.choice == b.choice) list)) (list_any (λ d. is_one_alternative d (alternative_at b.choice q)) list) there) [
        | inl none ↦ absurd (false≢true (sym (ap not named) ∙ none))
        | inr some ↦
            let its = any_at (λ d. is_one_alternative d (alternative_at b.choice q)) list some in
            let d = its.value in
            let (one_choice, one_place) = and_parts (d.choice == b.choice) (d.place == q) its.passes in
            let same_choice : d.choice ≡ b.choice = eqb-true d.choice b.choice one_choice in
            let same_place : d.place ≡ q = eqb-true d.place q one_place in
            let taken : takes_alternative w d ≡ true =
            ap (λ o. option_map_or (λ place. place == d.place) o false) (ap (slice_get w) same_choice ∙ at_q) ∙ eq-eqb q d.place (sym same_place) in
            at_any (takes_one w a) list its.i d its.value_is
            (and_from (d.choice == a.choice) (takes_alternative w d) (eq-eqb d.choice a.choice (same_choice ∙ choice)) taken)
      ]

  pub in_box : is_in v list ≡ true → is_in w list ≡ true
  in_box inside = at_all (λ a. list_any (takes_one w a) list) list (λ i a at_a.
      let its = any_at (takes_one v a) list (all_at (λ b. list_any (takes_one v b) list) list inside i a at_a) in
      other_taken a its.value its.i its.value_is its.passes)

-- ---- all boxes

-- each of the first flags is no other one, where it is set
abbrev pub AreFewer : List Bool → List Bool → Type 0
AreFewer [] [] = Unit {0}
AreFewer [] (c ∷ cs) = ⊥
AreFewer (b ∷ bs) [] = ⊥
AreFewer (b ∷ bs) (c ∷ cs) = (b ≡ true → c ≡ true) × AreFewer bs cs

abbrev pub KeepAll : List (Vec Alternative Global) → List ℕ → List ℕ → Type 0
KeepAll lists v w = (c p : ℕ) → slice_get v c ≡ Some p
    → (q : ℕ) × (slice_get w c ≡ Some q) × (do_keep lists (alternative_at c p) (alternative_at c q) ≡ true)

first_keeps : (list : Vec Alternative Global) (lists : List (Vec Alternative Global)) (v w : List ℕ) → KeepAll (list ∷ lists) v w → Keeps list.items v w
first_keeps list lists v w all c p at =
    let (q, at_q, kept) = all c p at in (
      q,
      at_q,
      leads (admits list.items (alternative_at c p)) (admits list.items (alternative_at c q))
          (and_parts (not (admits list.items (alternative_at c p)) || admits list.items (alternative_at c q))
          (do_keep lists (alternative_at c p) (alternative_at c q)) kept).0,
    )

others_keep : (list : Vec Alternative Global) (lists : List (Vec Alternative Global)) (v w : List ℕ) → KeepAll (list ∷ lists) v w → KeepAll lists v w
others_keep list lists v w all c p at =
    let (q, at_q, kept) = all c p at in (
      q,
      at_q,
      (and_parts (not (admits list.items (alternative_at c p)) || admits list.items (alternative_at c q))
          (do_keep lists (alternative_at c p) (alternative_at c q)) kept).1,
    )

pub fewer : (lists : List (Vec Alternative Global)) (v w : List ℕ) → KeepAll lists v w → AreFewer (flags v lists) (flags w lists)
fewer [] v w all = tt
fewer (list ∷ lists) v w all = (in_box list.items v w (first_keeps list lists v w all), fewer lists v w (others_keep list lists v w all))

-- ---- what a variant that is covered keeps

module _ (line : ProductLine) (a b : Alternative) (covers : is_covered line a b ≡ true) where
  abbrev keep_others : Bool
  keep_others = do_keep line.lists.requests.items a b && do_keep line.nevers.items b a

  pub keep_units : do_keep line.lists.units.items a b ≡ true
  keep_units = (and_parts (do_keep line.lists.units.items a b)
      (do_keep line.lists.groups.items a b && (do_keep line.lists.flows.items a b && keep_others)) covers).0

  behind_units : (do_keep line.lists.groups.items a b && (do_keep line.lists.flows.items a b && keep_others)) ≡ true
  behind_units = (and_parts (do_keep line.lists.units.items a b)
      (do_keep line.lists.groups.items a b && (do_keep line.lists.flows.items a b && keep_others)) covers).1

  pub keep_groups : do_keep line.lists.groups.items a b ≡ true
  keep_groups = (and_parts (do_keep line.lists.groups.items a b) (do_keep line.lists.flows.items a b && keep_others) behind_units).0

  behind_groups : (do_keep line.lists.flows.items a b && keep_others) ≡ true
  behind_groups = (and_parts (do_keep line.lists.groups.items a b) (do_keep line.lists.flows.items a b && keep_others) behind_units).1

  pub keep_flows : do_keep line.lists.flows.items a b ≡ true
  keep_flows = (and_parts (do_keep line.lists.flows.items a b) keep_others behind_groups).0

  behind_flows : keep_others ≡ true
  behind_flows = (and_parts (do_keep line.lists.flows.items a b) keep_others behind_groups).1

  pub keep_requests : do_keep line.lists.requests.items a b ≡ true
  keep_requests = (and_parts (do_keep line.lists.requests.items a b) (do_keep line.nevers.items b a) behind_flows).0

  pub keep_nevers : do_keep line.nevers.items b a ≡ true
  keep_nevers = (and_parts (do_keep line.lists.requests.items a b) (do_keep line.nevers.items b a) behind_flows).1
