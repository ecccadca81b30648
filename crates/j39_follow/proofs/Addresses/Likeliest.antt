-- The likeliest unit, once one unit more was looked at.
use Rattle.std.proofs.Common.{◌≡◌, ◌==◌, ◌+◌, ◌<◌, ◌≤◌, ◌⊎◌, ℕ, List, Option, Some}
use Rattle.std.proofs.Common.{None, inl, inr, refl, sym, ap, subst, ◌∙◌, arith, eqb-true, length}
use Rattle.std.specs.List.{slice_get}
use Rattle.std.proofs.lemmas.Bool.{cases_Bool, eqb-false}
use Rattle.std.proofs.lemmas.Option.{slice_get_within, none-some, same_Some}
use Rattle.j39_id.specs.declared.frame.Frame.{Frame}
use Rattle.j39_network.specs.declared.plan.Plan.{Plan}
use Rattle.j39_network.specs.declared.plan.unit_plan.UnitPlan.{UnitPlan}
use Rattle.j39_search.specs.ListPlaces.{ValueAt}
use Rattle.j39_follow.specs.Who.{IsLikeliest, MayHold}
use Rattle.j39_follow.specs.inside.Likeliest.{IsBelowBest, IsBestOf, IsNotBelow}

-- a place below the next is this one or an earlier
pub below_next : (v i : ℕ) → v < i + 1 → (v ≡ i) ⊎ (v < i)
below_next v i less = elim (cases_Bool (v == i)) [
  | inl same ↦ inl (eqb-true v i same)
  | inr other ↦ (let differ = eqb-false v i other in inr (omega (arith, less, differ)))
]

here : (plan : Plan) (i v : ℕ) (unit other : UnitPlan) → slice_get plan.units.items i ≡ Some unit → v ≡ i
    → slice_get plan.units.items v ≡ Some other → unit ≡ other
here plan i v unit other at same there =
    same_Some unit other (sym at ∙ ap (λ (j : ℕ). slice_get plan.units.items j) (sym same) ∙ there)

holds_here : (plan : Plan) (i v : ℕ) (frames : List Frame) (address : ℕ) (unit other : UnitPlan) → slice_get plan.units.items i ≡ Some unit → v ≡ i
    → slice_get plan.units.items v ≡ Some other → MayHold plan frames address v other → MayHold plan frames address i unit
holds_here plan i v frames address unit other at same there may =
    subst (λ (j : ℕ). MayHold plan frames address j unit) same
    (subst (MayHold plan frames address v) (sym (here plan i v unit other at same there)) may)

-- it can't hold the address
pub passed : (plan : Plan) (i : ℕ) (frames : List Frame) (address : ℕ) (unit : UnitPlan) (best : Option ℕ)
    → slice_get plan.units.items i ≡ Some unit
    → ¬ MayHold plan frames address i unit → IsBestOf plan i frames address best → IsBestOf plan (i + 1) frames address best
passed plan i frames address unit None at not_it of = λ v other less there may. elim (below_next v i less) [
  | inl same ↦ not_it (holds_here plan i v frames address unit other at same there may)
  | inr earlier ↦ of v other earlier there may
]
passed plan i frames address unit (Some u) at not_it of = (
  omega (arith, of.0),
  record {
    unit = of.1.unit;
    unit_is = of.1.unit_is;
    may = of.1.may;
    least = λ v other less there may. elim (below_next v i less) [
      | inl same ↦ absurd (not_it (holds_here plan i v frames address unit other at same there may))
      | inr earlier ↦ of.1.least v other earlier there may
    ];
    first = of.1.first;
  },
)

-- it isn't before the best
pub behind : (plan : Plan) (i : ℕ) (frames : List Frame) (address : ℕ) (unit : UnitPlan) (best : Option ℕ)
    → slice_get plan.units.items i ≡ Some unit
    → IsNotBelow plan unit.name best → IsBestOf plan i frames address best → IsBestOf plan (i + 1) frames address best
behind plan i frames address unit None at not_below of = absurd (none-some not_below.place not_below.best_is)
behind plan i frames address unit (Some u) at not_below of = (
  omega (arith, of.0),
  record {
    unit = of.1.unit;
    unit_is = of.1.unit_is;
    may = of.1.may;
    least = λ v other less there may. elim (below_next v i less) [
      | inl same ↦
          let best_at : slice_get plan.units.items not_below.place ≡ Some of.1.unit =
          ap (λ (j : ℕ). slice_get plan.units.items j) (sym (same_Some u not_below.place not_below.best_is)) ∙ of.1.unit_is in
          subst (λ (w : UnitPlan). of.1.unit.name ≤ w.name) (here plan i v unit other at same there) (not_below.above of.1.unit best_at)
      | inr earlier ↦ of.1.least v other earlier there may
    ];
    first = of.1.first;
  },
)

-- it is the best
least_of_earlier : (plan : Plan) (i : ℕ) (frames : List Frame) (address : ℕ) (unit : UnitPlan) (best : Option ℕ)
    → IsBelowBest plan unit.name best
    → IsBestOf plan i frames address best → (v : ℕ) (other : UnitPlan) → v < i → slice_get plan.units.items v ≡ Some other
    → MayHold plan frames address v other → unit.name < other.name
least_of_earlier plan i frames address unit None below of v other less there may = absurd (of v other less there may)
least_of_earlier plan i frames address unit (Some u) below of v other less there may =
    let first = below u of.1.unit refl of.1.unit_is in
    let second = of.1.least v other less there may in
    omega (arith, first, second)

pub better : (plan : Plan) (i : ℕ) (frames : List Frame) (address : ℕ) (unit : UnitPlan) (best : Option ℕ)
    → slice_get plan.units.items i ≡ Some unit
    → MayHold plan frames address i unit → IsBelowBest plan unit.name best → IsBestOf plan i frames address best
    → IsBestOf plan (i + 1) frames address (Some i)
better plan i frames address unit best at may below of = (
  omega arith,
  record {
    unit = unit;
    unit_is = at;
    may = may;
    least = λ v other less there holds. elim (below_next v i less) [
      | inl same ↦
          let one : unit.name ≡ other.name = ap (λ (w : UnitPlan). w.name) (here plan i v unit other at same there) in
          omega (arith, one)
      | inr earlier ↦
          let under = least_of_earlier plan i frames address unit best below of v other earlier there holds in
          omega (arith, under)
    ];
    first = least_of_earlier plan i frames address unit best below of;
  },
)

-- ---- of all units

pub likeliest_of : (plan : Plan) (frames : List Frame) (address u : ℕ) → IsBestOf plan (length plan.units.items) frames address (Some u)
    → IsLikeliest plan frames address u
likeliest_of plan frames address u of = record {
  unit = of.1.unit;
  unit_is = of.1.unit_is;
  may = of.1.may;
  least = λ v other there may. of.1.least v other (slice_get_within plan.units.items v other there) there may;
  first = λ v other there may less. of.1.first v other less there may;
}

pub none_likely : (plan : Plan) (frames : List Frame) (address : ℕ) → IsBestOf plan (length plan.units.items) frames address None
    → (u : ℕ) → ¬ ValueAt (MayHold plan frames address u) plan.units.items u
none_likely plan frames address of u at = of u at.value (slice_get_within plan.units.items u at.value at.value_is) at.value_is at.meets
