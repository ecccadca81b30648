-- Who takes what is reported takes the same as the witness of each choice that is reported.
use Rattle.std.proofs.Common.{◌≡◌, ℕ, zero, suc, ◌+◌, ◌<◌, ◌==◌, Bool, true, false, if◌then◌else◌, List, [], ◌∷◌, length, map, Contains, Some, refl, sym, ◌∙◌}
use Rattle.std.proofs.Common.{ap, subst, inl, inr, arith}
use Rattle.std.specs.List.{slice_get}
use Rattle.std.specs.Option.{option_map_or}
use Rattle.std.proofs.lemmas.Bool.{cases_Bool, cases_lt, eq-eqb}
use Rattle.std.proofs.lemmas.Option.{none-some, same_Some, slice_get-get_or, slice_get_past}
use Rattle.j39_part_laws.proofs.LoadFindings.{line_reported, reported_at}
use Rattle.j39_part_laws.proofs.Places.{value_at}
use Rattle.j39_variants.specs.declared.line.Alternative.{Alternative}
use Rattle.j39_variants.specs.VariantPlans.{flag_at}
use Rattle.j39_variants.specs.Variants.{takes_all, takes_alternative}
use Rattle.j39_variants.specs.declared.line.Choice.{Choice}
use Rattle.j39_line_findings.specs.FullVariants.{alternative_at}
use Rattle.j39_line_findings.proofs.Shown.{place_taken}
use Rattle.j39_line_findings.proofs.Tests.{all_at, at_all}
use Rattle.j39_line_laws.proofs.FullCovers.{contains_at}
use Rattle.j39_line_check.proofs.KeptConditions.{Agree}
use Rattle.j39_line_check.specs.ReportedConditions.{reported_by, reported_of_choice}

-- two lists of one value at each place are one
pub same_places : (v w : List ℕ) → ((c : ℕ) → slice_get v c ≡ slice_get w c) → v ≡ w
same_places [] [] each = refl
same_places [] (q ∷ w) each = absurd (none-some q (each 0))
same_places (p ∷ v) [] each = absurd (none-some p (sym (each 0)))
same_places (p ∷ v) (q ∷ w) each = ap (λ x. x ∷ v) (same_Some p q (each 0)) ∙ ap (λ l. q ∷ l) (same_places v w (λ c. each (suc c)))

module _ (choices : List Bool) (w : List ℕ) where
  abbrev one : ℕ → ℕ → List Alternative
  one = reported_of_choice choices

  first_one : (c k : ℕ) → flag_at choices c ≡ true → Contains (one c k) (alternative_at c k)
  first_one c k is = subst (λ b. Contains (if b then alternative_at c k ∷ [] else []) (alternative_at c k)) (sym is) (0, omega arith, refl)

  reported_among : (c k : ℕ) → slice_get w c ≡ Some k → flag_at choices c ≡ true → Contains (reported_by choices w) (alternative_at c k)
  reported_among c k at is =
      let same : c ≡ 0 + c = omega arith in
      line_reported one 0 w c k (alternative_at c k) at (subst (λ n. Contains (one n k) (alternative_at c k)) same (first_one c k is))

  -- who takes what is reported takes the same as the witness there
  pub agreed : (v : List ℕ) → length v ≡ length w → takes_all v (reported_by choices w) ≡ true → Agree choices w v
  agreed v long takes c is = elim (cases_lt c (length w)) [
    | inr past ↦ slice_get_past v c (omega (arith, past, long)) ∙ sym (slice_get_past w c past)
    | inl within ↦
        let (k, at) = value_at w c within in
        let (i, below, reported_i) = reported_among c k at is in
        place_taken v (alternative_at c k) (all_at (takes_alternative v) (reported_by choices w) takes i (alternative_at c k)
        (slice_get-get_or (reported_by choices w) i (alternative_at c k) below ∙ ap Some reported_i)) ∙ sym at
  ]

  -- the witness takes what is reported of it
  takes_own : (c k : ℕ) (a : Alternative) → slice_get w c ≡ Some k → Contains (one c k) a → takes_alternative w a ≡ true
  takes_own c k a at among = elim (cases_Bool (flag_at choices c)) [
    | inl is ↦ of_one (subst (λ b. Contains (if b then alternative_at c k ∷ [] else []) a) is among)
    | inr not_reported ↦ of_none (subst (λ b. Contains (if b then alternative_at c k ∷ [] else []) a) not_reported among)
  ]
    where
      of_one : Contains (alternative_at c k ∷ []) a → takes_alternative w a ≡ true
      of_one (zero, below, is) = subst (λ x. takes_alternative w x ≡ true) is (ap (λ o. option_map_or (λ place. place == k) o false) at ∙ eq-eqb k k refl)
      of_one (suc i, below, is) = absurd (omega (arith, below))

      of_none : Contains (if false then alternative_at c k ∷ [] else []) a → takes_alternative w a ≡ true
      of_none (i, below, is) = absurd (omega (arith, below))

  pub own_taken : takes_all w (reported_by choices w) ≡ true
  own_taken = at_all (takes_alternative w) (reported_by choices w) (λ i a at_a.
      let its = reported_at one 0 w a (contains_at (reported_by choices w) i a at_a) in
      let same : 0 + its.k ≡ its.k = omega arith in
      takes_own its.k its.value a its.value_is (subst (λ n. Contains (one n its.value) a) same its.reported))

-- where all choices are reported, the witness alone takes what is reported
all_reported : (choices : List Choice) (c : ℕ) → c < length choices → flag_at (map (λ choice. true) choices) c ≡ true
all_reported [] c below = absurd (omega (arith, below))
all_reported (x ∷ xs) zero below = refl
all_reported (x ∷ xs) (suc c) below = all_reported xs c (omega (arith, below))

pub all_agreed : (choices : List Choice) (w v : List ℕ) → length w ≡ length choices → length v ≡ length choices
    → Agree (map (λ choice. true) choices) w v → v ≡ w
all_agreed choices w v long_w long_v agree = same_places v w (λ c. elim (cases_lt c (length choices)) [
  | inl within ↦ agree c (all_reported choices c within)
  | inr past ↦ slice_get_past v c (omega (arith, past, long_v)) ∙ sym (slice_get_past w c (omega (arith, past, long_w)))
])
