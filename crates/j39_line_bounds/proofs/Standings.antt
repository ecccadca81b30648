-- What is reported of units, with one variant more.
use Rattle.std.proofs.Common.{◌≡◌, ℕ, zero, suc, ◌+◌, ◌<◌, List, [], ◌∷◌, ◌++◌, Bool, true, false, Option, Some, None, inl, inr, get_or, length, map, take}
use Rattle.std.proofs.Common.{refl, sym, ap, ◌∙◌, arith, subst}
use Rattle.std.specs.Bool.{MatchBool}
use Rattle.std.specs.Prelude.{if◌then◌else◌}
use Rattle.std.specs.List.{range_with_len, slice_get}
use Rattle.std.proofs.lemmas.List.{length-map, map-append, take_more}
use Rattle.std.proofs.lemmas.List.FromFn.{get_or-map-range_with_len, length-map-range_with_len}
use Rattle.j39_findings.specs.Standing.{DecidesWhoStays}
use Rattle.j39_network.specs.PlannedUnits.{units_of}
use Rattle.j39_network.specs.Staying.{StaysBeside}
use Rattle.j39_network.specs.declared.plan.Plan.{Plan}
use Rattle.j39_network.specs.declared.plan.unit_plan.UnitPlan.{UnitPlan}
use Rattle.j39_variants.specs.VariantPlans.{IsVariantPlan}
use Rattle.j39_variants.specs.declared.line.ProductLine.{ProductLine}
use Rattle.j39_line_findings.specs.AllVariants.{IsOneOf}
use Rattle.j39_line_findings.proofs.OneOf.{one_cases, one_left, one_right}
use Rattle.j39_line_findings.proofs.Tests.{value_inside}
use Rattle.j39_line_findings.specs.MissedNeeds.{is_unit_there}
use Rattle.j39_line_bounds.specs.LineStandings.{AreStandingsAmong, HasOneStanding, HasPlace, HasLineUnit, IsLineStanding, IsStandingAmong, LacksUnit, MayMoveIn}
use Rattle.j39_line_bounds.specs.LineStandings.{StandingsAreExact, StaysIn}
use Rattle.j39_line_bounds.specs.declared.standing.LineStanding.{LineStanding}
use Rattle.j39_line_bounds.specs.declared.standing.LineStanding.TheVariants.{NoVariant, Stays, MayMove}
use Rattle.j39_line_bounds.specs.inside.StandingSteps.{standing_at, standing_with, stays_in_variant, with_variant}
use Rattle.j39_line_bounds.proofs.UnitPlaces.{is_lacking, is_there, not_both, same_strangers, same_unit, same_units}

-- ---- what is here

abbrev Here : ProductLine → List ℕ → ℕ → Option Bool → Type 0
Here line v u None = LacksUnit line v u
Here line v u (Some true) = HasLineUnit line v u × StaysIn line v u
Here line v u (Some false) = MayMoveIn line v u

module _ (line : ProductLine) (v : List ℕ) (plan : Plan) (stays : UnitPlan → Bool) (is : IsVariantPlan line v plan) (decides : DecidesWhoStays plan stays)
    (u : ℕ)
    (unit : UnitPlan) (at : slice_get line.plan.units.items u ≡ Some unit) where
  decided : (p : ℕ) → HasPlace line v u p
      → MatchBool (stays unit) (StaysBeside plan.strangers (units_of plan) p) (¬ StaysBeside plan.strangers (units_of plan) p)
  decided p has = decides p unit (same_unit line v u plan p is has ∙ at)

  stays_there : stays unit ≡ true → StaysIn line v u
  stays_there reported other p of_other has =
      let here : StaysBeside plan.strangers (units_of plan) p =
      subst (λ b. MatchBool b (StaysBeside plan.strangers (units_of plan) p) (¬ StaysBeside plan.strangers (units_of plan) p)) reported (decided p has) in
      let strangers = same_strangers line v plan other is of_other in
      let units = same_units line v plan other is of_other in
      subst (λ n. StaysBeside n (units_of other) p) strangers (subst (λ us. StaysBeside plan.strangers us p) units here)

  moves_there : stays unit ≡ false → HasLineUnit line v u → MayMoveIn line v u
  moves_there may has = record {
    place = has.0;
    has_place = has.1;
    plan = plan;
    is_plan = is;
    moves =
        subst (λ b. MatchBool b (StaysBeside plan.strangers (units_of plan) has.0) (¬ StaysBeside plan.strangers (units_of plan) has.0)) may
        (decided has.0 has.1);
  }

  here_of : (there reported : Bool) → is_unit_there line v u ≡ there → stays unit ≡ reported → Here line v u (if there then Some reported else None)
  here_of false reported there_is reported_is = is_lacking line v u there_is
  here_of true true there_is reported_is = (is_there line v u there_is, stays_there reported_is)
  here_of true false there_is reported_is = moves_there reported_is (is_there line v u there_is)

  pub what_is_here : Here line v u (stays_in_variant line v stays u)
  what_is_here =
      let is_this : stays_in_variant line v stays u ≡ (if is_unit_there line v u then Some (stays unit) else None) = rw at refl in
      subst (Here line v u) (sym is_this) (here_of (is_unit_there line v u) (stays unit) refl refl)

-- ---- one variant more

module _ (line : ProductLine) (vs : List (List ℕ)) (v : List ℕ) where
  more : (w : List ℕ) → IsOneOf vs w → IsOneOf (vs ++ v ∷ []) w
  more w these = one_left vs (v ∷ []) w these

  last : IsOneOf (vs ++ v ∷ []) v
  last = one_right vs (v ∷ []) v (inl refl)

  each_more : (P : List ℕ → Type 0) → ((w : List ℕ) → IsOneOf vs w → P w) → P v → (w : List ℕ) → IsOneOf (vs ++ v ∷ []) w → P w
  each_more P so_far here w these = elim (one_cases vs (v ∷ []) w these) [
    | inl old ↦ so_far w old
    | inr (inl same) ↦ subst P same here
    | inr (inr none) ↦ absurd none
  ]

  module _ (u : ℕ) where
    lacks_stays : LacksUnit line v u → StaysIn line v u
    lacks_stays lacks plan p is has = not_both line v u (StaysBeside plan.strangers (units_of plan) p) lacks p has

    none_stays : ((w : List ℕ) → IsOneOf vs w → LacksUnit line w u) → (w : List ℕ) → IsOneOf vs w → StaysIn line w u
    none_stays none w these plan p is has = not_both line w u (StaysBeside plan.strangers (units_of plan) p) (none w these) p has

    pub one_more : (s : LineStanding) (h : Option Bool) → IsStandingAmong (IsOneOf vs) line u s → Here line v u h
        → IsStandingAmong (IsOneOf (vs ++ v ∷ [])) line u (with_variant s h)
    one_more NoVariant None so_far here = each_more (λ w. LacksUnit line w u) so_far here
    one_more Stays None so_far here = (
      (so_far.0.0, more so_far.0.0 so_far.0.1, so_far.0.2),
      each_more (λ w. StaysIn line w u) so_far.1 (lacks_stays here),
    )
    one_more MayMove None so_far here = (so_far.0, more so_far.0 so_far.1, so_far.2)
    one_more NoVariant (Some true) so_far here = (
      (v, last, here.0),
      each_more (λ w. StaysIn line w u) (none_stays so_far) here.1,
    )
    one_more Stays (Some true) so_far here = (
      (so_far.0.0, more so_far.0.0 so_far.0.1, so_far.0.2),
      each_more (λ w. StaysIn line w u) so_far.1 here.1,
    )
    one_more MayMove (Some true) so_far here = (so_far.0, more so_far.0 so_far.1, so_far.2)
    one_more NoVariant (Some false) so_far here = (v, last, here)
    one_more Stays (Some false) so_far here = (v, last, here)
    one_more MayMove (Some false) so_far here = (so_far.0, more so_far.0 so_far.1, so_far.2)

-- of each unit
pub all_more : (line : ProductLine) (vs : List (List ℕ)) (v : List ℕ) (plan : Plan) (stays : UnitPlan → Bool) (so_far : List LineStanding)
    → IsVariantPlan line v plan → DecidesWhoStays plan stays → AreStandingsAmong (IsOneOf vs) line so_far
    → AreStandingsAmong (IsOneOf (vs ++ v ∷ [])) line (map (standing_with line v stays so_far) (range_with_len 0 (length so_far)))
all_more line vs v plan stays so_far is decides are =
    let with_it = standing_with line v stays so_far in
    let n = length so_far in
    let count : length (map with_it (range_with_len 0 n)) ≡ length so_far = length-map-range_with_len with_it 0 n in
    let units = are.count in record {
      count = count ∙ units;
      each = λ u below.
          let inside : u < length so_far = subst (λ m. u < m) count below in
          let in_file : u < length line.plan.units.items = subst (λ m. u < m) units inside in
          let first : 0 + u ≡ u = omega arith in
          let reported : get_or (map with_it (range_with_len 0 n)) u NoVariant ≡ with_it u = get_or-map-range_with_len with_it 0 n u u NoVariant inside first in
          let unit = value_inside line.plan.units.items u in_file in
          subst (IsStandingAmong (IsOneOf (vs ++ v ∷ [])) line u) (sym reported)
          (one_more line vs v u (standing_at so_far u) (stays_in_variant line v stays u) (are.each u inside)
          (what_is_here line v plan stays is decides u unit.0 unit.1));
    }

-- ---- no variant yet

reported_nothing : {X : Type 0} (xs : List X) (u : ℕ) → get_or (map (λ _. NoVariant) xs) u NoVariant ≡ NoVariant
reported_nothing [] u = refl
reported_nothing (x ∷ xs) zero = refl
reported_nothing (x ∷ xs) (suc u) = reported_nothing xs u

pub none_yet : (line : ProductLine) → AreStandingsAmong (IsOneOf []) line (map (λ _. NoVariant) line.plan.units.items)
none_yet line = record {
  count = length-map line.plan.units.items (λ _. NoVariant);
  each = λ u below. subst (IsStandingAmong (IsOneOf []) line u) (sym (reported_nothing line.plan.units.items u)) (λ v these. absurd these);
}

-- the next one of them
pub next_one : {V : Type 0} (line : ProductLine) (f : V → List ℕ) (vs : List V) (k : ℕ) (d : V) (v : List ℕ) (old new : List LineStanding) → k < length vs
    → d ≡ get_or vs k d → v ≡ f d → AreStandingsAmong (IsOneOf (map f (take k vs))) line old
    → ((ws : List (List ℕ)) → AreStandingsAmong (IsOneOf ws) line old → AreStandingsAmong (IsOneOf (ws ++ v ∷ [])) line new)
    → AreStandingsAmong (IsOneOf (map f (take (k + 1) vs))) line new
next_one line f vs k d v old new below is same so_far add =
    let longer : map f (take (k + 1) vs) ≡ map f (take k vs) ++ f (get_or vs k d) ∷ [] =
    ap (map f) (take_more vs k d below) ∙ map-append f (take k vs) (get_or vs k d ∷ []) in
    let here : v ≡ f (get_or vs k d) = same ∙ ap f is in
    let all : map f (take (k + 1) vs) ≡ map f (take k vs) ++ v ∷ [] = longer ∙ ap (λ w. map f (take k vs) ++ w ∷ []) (sym here) in
    subst (λ ws. AreStandingsAmong (IsOneOf ws) line new) (sym all) (add (map f (take k vs)) so_far)

-- ---- laws

module _ (line : ProductLine) (u : ℕ) where
  pub one_standing : HasOneStanding line u
  one_standing NoVariant NoVariant is other = refl
  one_standing Stays Stays is other = refl
  one_standing MayMove MayMove is other = refl
  one_standing NoVariant Stays is other =
      not_both line other.0.0 u (NoVariant ≡ Stays) (is other.0.0 other.0.1) other.0.2.0 other.0.2.1
  one_standing Stays NoVariant is other = not_both line is.0.0 u (Stays ≡ NoVariant) (other is.0.0 is.0.1) is.0.2.0 is.0.2.1
  one_standing NoVariant MayMove is other =
      not_both line other.0 u (NoVariant ≡ MayMove) (is other.0 other.1) other.2.place other.2.has_place
  one_standing MayMove NoVariant is other = not_both line is.0 u (MayMove ≡ NoVariant) (other is.0 is.1) is.2.place is.2.has_place
  one_standing Stays MayMove is other =
      absurd (other.2.moves (is.1 other.0 other.1 other.2.plan other.2.place other.2.is_plan other.2.has_place))
  one_standing MayMove Stays is other = absurd (is.2.moves (other.1 is.0 is.1 is.2.plan is.2.place is.2.is_plan is.2.has_place))

pub exact : StandingsAreExact
exact line standings are = record {
  sound = λ u below reported. subst (IsLineStanding line u) reported (are.each u below);
  complete = λ u below stays. one_standing line u (get_or standings u NoVariant) Stays (are.each u below) stays;
}
