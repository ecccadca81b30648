-- Which times are no worse than others.
use Rattle.std.proofs.Common.{◌≡◌, ◌⊎◌, ℕ, ◌<◌, ◌≤◌, Bool, true, false, ◌&&◌, ◌||◌, ◌==◌, nat_lt, if◌then◌else◌, is_some, Option, Some, None, refl, sym, ◌∙◌}
use Rattle.std.proofs.Common.{ap, subst, inl, inr, arith}
use Rattle.std.proofs.lemmas.Bool.{cases_lt, eq-eqb, eqb-true, le-ltb, lt-ltb, true≢false}
use Rattle.j39_load.specs.LoadFindings.{time_of_each}
use Rattle.j39_load.specs.declared.waits.delay.Delay.{Delay}
use Rattle.j39_load.specs.declared.waits.delay.Delay.TheVariants.{Beyond, Late, Long, Whole, Within}
use Rattle.j39_load.specs.declared.waits.whole_time.WholeTime.{WholeTime}
use Rattle.j39_part_laws.specs.PartDelays.{IsNoLater, IsWholeNoLater}
use Rattle.j39_line_bounds.specs.LineTimes.{badness_known, delay_badness, flow_badness, is_less_bad, of_degree, time_reported}
use Rattle.j39_line_bounds.specs.declared.times.FlowTime.TheVariants as flow

-- ---- the order

ltb-no : (a b : ℕ) → nat_lt a b ≡ false → b ≤ a
ltb-no a b none = elim (cases_lt a b) [
  | inl less ↦ absurd (true≢false (sym (lt-ltb a b less) ∙ none))
  | inr from ↦ from
]

-- the first two numbers, a degree and a time, are at least as bad as the others
abbrev pub IsAsBad : ℕ → ℕ → ℕ → ℕ → Type 0
IsAsBad x m y n = (y < x) ⊎ ((y ≡ x) × (n ≤ m))

pub as_bad : (x m y n : ℕ) → is_less_bad (of_degree x m) (of_degree y n) ≡ false → IsAsBad x m y n
as_bad x m y n is = elim (cases_lt y x) [
  | inl above ↦ inl above
  | inr from ↦ by (x == y) (nat_lt x y) (nat_lt m n) refl refl refl is from
]
  where
    by : (q p r : Bool) → (x == y) ≡ q → nat_lt x y ≡ p → nat_lt m n ≡ r → (p || (q && r)) ≡ false → x ≤ y → IsAsBad x m y n
    by q true r is_q is_p is_r none from = absurd (true≢false none)
    by true false true is_q is_p is_r none from = absurd (true≢false none)
    by true false false is_q is_p is_r none from = inr (sym (eqb-true x y is_q), ltb-no m n is_r)
    by false false r is_q is_p is_r none from =
        let back = ltb-no x y is_p in
        absurd (true≢false (sym (eq-eqb x y (omega (arith, back, from))) ∙ is_q))

pub not_less_bad : (x m y n : ℕ) → IsAsBad x m y n → is_less_bad (of_degree x m) (of_degree y n) ≡ false
not_less_bad x m y n (inl above) =
    ap (λ p. p || ((x == y) && nat_lt m n)) (le-ltb x y (omega (arith, above))) ∙ ap (λ q. q && nat_lt m n) (differ (x == y) refl)
  where
    differ : (q : Bool) → (x == y) ≡ q → (x == y) ≡ false
    differ true is_q = let same = eqb-true x y is_q in absurd (omega (arith, same, above))
    differ false is_q = is_q
not_less_bad x m y n (inr (same, no_more)) =
    ap (λ p. p || ((x == y) && nat_lt m n)) (le-ltb x y (omega (arith, same))) ∙ ap (λ r. (x == y) && r) (le-ltb m n no_more) ∙ none (x == y)
  where
    none : (q : Bool) → (q && false) ≡ false
    none true = refl
    none false = refl

pub no_worse_through : (x l y m z n : ℕ) → is_less_bad (of_degree x l) (of_degree y m) ≡ false → is_less_bad (of_degree y m) (of_degree z n) ≡ false
    → is_less_bad (of_degree x l) (of_degree z n) ≡ false
no_worse_through x l y m z n one two = not_less_bad x l z n (through (as_bad x l y m one) (as_bad y m z n two))
  where
    through : IsAsBad x l y m → IsAsBad y m z n → IsAsBad x l z n
    through (inl above) (inl more) = inl (omega (arith, above, more))
    through (inl above) (inr (same, time)) = inl (omega (arith, above, same))
    through (inr (same, time)) (inl more) = inl (omega (arith, same, more))
    through (inr (same, time)) (inr (also, less)) = inr (also ∙ same, omega (arith, time, less))

-- nothing is less bad than what isn't there
pub nothing_less : (x m : ℕ) → is_less_bad (of_degree x m) (of_degree 0 0) ≡ false
nothing_less x m = not_less_bad x m 0 0 (elim (cases_lt 0 x) [
  | inl above ↦ inl above
  | inr from ↦ inr (omega (arith, from), omega arith)
])

-- ---- times that are known

pub known_no_worse : (a b : Option ℕ) → ((n : ℕ) → b ≡ Some n → (m : ℕ) × (a ≡ Some m) × (m ≤ n)) → is_less_bad (badness_known b) (badness_known a) ≡ false
known_no_worse a None less = not_less_bad 3 0 (badness_known a).degree (badness_known a).time (go a)
  where
    go : (o : Option ℕ) → IsAsBad 3 0 (badness_known o).degree (badness_known o).time
    go None = inr (refl, omega arith)
    go (Some n) = inl (omega arith)
known_no_worse a (Some n) less =
    let (m, is_m, fewer) = less n refl in
    not_less_bad 1 n (badness_known a).degree (badness_known a).time
    (subst (λ o. IsAsBad 1 n (badness_known o).degree (badness_known o).time) (sym is_m) (inr (refl, fewer)))

reported_known : (v w : WholeTime) → IsWholeNoLater v w → (n : ℕ) → time_reported w ≡ Some n → (m : ℕ) × (time_reported v ≡ Some m) × (m ≤ n)
reported_known v w no_later n reported = go (is_some w.limit) refl reported
  where
    each : (b : Bool) → w.each ≡ b → (if b then w.bits else None) ≡ Some n → (m : ℕ) × (time_of_each v ≡ Some m) × (m ≤ n)
    each true is_b known =
        let (m, is_m, less) = no_later.bits n known in
        (m, ap (λ b. if b then v.bits else None) (no_later.each is_b) ∙ is_m, less)
    each false is_b none = cc

    limit : is_some v.limit ≡ is_some w.limit
    limit = ap is_some no_later.limit

    go : (b : Bool) → is_some w.limit ≡ b → (if b then time_of_each w else w.bits) ≡ Some n → (m : ℕ) × (time_reported v ≡ Some m) × (m ≤ n)
    go true is_b known =
        let (m, is_m, less) = each w.each refl known in
        (m, ap (λ b. if b then time_of_each v else v.bits) (limit ∙ is_b) ∙ is_m, less)
    go false is_b known =
        let (m, is_m, less) = no_later.bits n known in
        (m, ap (λ b. if b then time_of_each v else v.bits) (limit ∙ is_b) ∙ is_m, less)

-- ---- delays

late_worst : (d : Delay) → IsAsBad 3 0 (delay_badness d).degree (delay_badness d).time
late_worst Late = inr (refl, omega arith)
late_worst (Within n) = inl (omega arith)
late_worst (Beyond n) = inl (omega arith)
late_worst (Long n) = inl (omega arith)
late_worst (Whole w) = go (time_reported w)
  where
    go : (o : Option ℕ) → IsAsBad 3 0 (badness_known o).degree (badness_known o).time
    go None = inr (refl, omega arith)
    go (Some n) = inl (omega arith)

abbrev IsFlowAsBad : ℕ → ℕ → Option Delay → Type 0
IsFlowAsBad x m o = IsAsBad x m (flow_badness (flow.Reported o)).degree (flow_badness (flow.Reported o)).time

as_flow_bad : (d e : Option Delay) → IsNoLater d e → IsFlowAsBad (flow_badness (flow.Reported e)).degree (flow_badness (flow.Reported e)).time d
as_flow_bad d None is = subst (IsFlowAsBad 1 0) (sym is) (inr (refl, omega arith))
as_flow_bad d (Some Late) (x, is) = subst (IsFlowAsBad 3 0) (sym is) (late_worst x)
as_flow_bad d (Some (Within b)) (a, is, less) = subst (IsFlowAsBad 1 b) (sym is) (inr (refl, less))
as_flow_bad d (Some (Beyond b)) (a, inl is, less) = subst (IsFlowAsBad 2 b) (sym is) (inl (omega arith))
as_flow_bad d (Some (Beyond b)) (a, inr is, less) = subst (IsFlowAsBad 2 b) (sym is) (inr (refl, less))
as_flow_bad d (Some (Long n)) is = subst (IsFlowAsBad 1 n) (sym is) (inr (refl, omega arith))
as_flow_bad d (Some (Whole w)) (v, is, no_later) =
    subst (IsFlowAsBad (badness_known (time_reported w)).degree (badness_known (time_reported w)).time) (sym is)
    (as_bad (badness_known (time_reported w)).degree (badness_known (time_reported w)).time (badness_known (time_reported v)).degree
    (badness_known (time_reported v)).time
    (known_no_worse (time_reported v) (time_reported w) (reported_known v w no_later)))

pub flow_no_worse : (d e : Option Delay) → IsNoLater d e → is_less_bad (flow_badness (flow.Reported e)) (flow_badness (flow.Reported d)) ≡ false
flow_no_worse d e is =
    not_less_bad (flow_badness (flow.Reported e)).degree (flow_badness (flow.Reported e)).time (flow_badness (flow.Reported d)).degree
    (flow_badness (flow.Reported d)).time
    (as_flow_bad d e is)
