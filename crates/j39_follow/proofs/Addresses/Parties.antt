-- Who stands behind an address: one party, which a table of holders reports.
use Rattle.std.proofs.Common.{◌≡◌, ◌<◌, ◌≤◌, ℕ, List, Some, None, inl, inr, refl, sym, ap, ◌∙◌, arith}
use Rattle.std.specs.List.{slice_get}
use Rattle.std.proofs.lemmas.Bool.{cases_Bool, cases_order}
use Rattle.std.proofs.lemmas.Option.{none-some, same_Some}
use Rattle.j39_id.specs.declared.frame.Frame.{Frame}
use Rattle.j39_search.specs.ListPlaces.{ValueAt}
use Rattle.j39_network.specs.declared.plan.Plan.{Plan}
use Rattle.j39_network.specs.declared.plan.unit_plan.UnitPlan.{UnitPlan}
use Rattle.j39_follow.specs.Holders.{IsHolder}
use Rattle.j39_follow.specs.Who.{IsLikeliest, IsWho, MayHold, unit_of_name}
use Rattle.j39_follow.specs.declared.address.holders.Holders.{Holders}
use Rattle.j39_follow.specs.declared.address.who.Who.{Who}
use Rattle.j39_follow.specs.declared.address.who.Who.TheVariants.{Holder, Stranger, Likely, LikelyStranger, Unknown}
use Rattle.j39_follow.specs.inside.Recounting.{Recounts, is_marked}
use Rattle.j39_follow.proofs.Addresses.HolderLaws.{same_name}

-- ---- one party

-- neither of two likeliest units is before the other
not_before : (plan : Plan) (frames : List Frame) (address u v : ℕ) → IsLikeliest plan frames address u → IsLikeliest plan frames address v
    → u < v → ⊥
not_before plan frames address u v first second before =
    let less : second.unit.name < first.unit.name = second.first u first.unit first.unit_is first.may before in
    let most : first.unit.name ≤ second.unit.name = first.least v second.unit second.unit_is second.may in
    absurd (omega (arith, less, most))

one_likeliest : (plan : Plan) (frames : List Frame) (address u v : ℕ) → IsLikeliest plan frames address u → IsLikeliest plan frames address v → u ≡ v
one_likeliest plan frames address u v first second = elim (cases_order u v) [
  | inl same ↦ same
  | inr (inl below) ↦ absurd (not_before plan frames address u v first second below)
  | inr (inr above) ↦ absurd (not_before plan frames address v u second first above)
]

-- a likeliest unit may hold the address
likely_there : (plan : Plan) (frames : List Frame) (address u : ℕ) → IsLikeliest plan frames address u
    → ValueAt (MayHold plan frames address u) plan.units.items u
likely_there plan frames address u l = record { value = l.unit; value_is = l.unit_is; meets = l.may }

pub one_who : (plan : Plan) (frames : List Frame) (address : ℕ) (a b : Who) → IsWho plan frames address a → IsWho plan frames address b → a ≡ b
one_who plan frames address (Holder u) (Holder v) x y =
    let named = same_name frames address x.0 y.0 x.1 y.1 in
    ap Holder (same_Some u v (sym x.2 ∙ ap (unit_of_name plan) named ∙ y.2))
one_who plan frames address (Holder u) (Stranger m) x y =
    let named = same_name frames address x.0 m x.1 y.0 in
    absurd (none-some u (sym y.1 ∙ sym (ap (unit_of_name plan) named) ∙ x.2))
one_who plan frames address (Holder u) (Likely v) x y = absurd (y.0 x.0 x.1)
one_who plan frames address (Holder u) (LikelyStranger m) x y = absurd y
one_who plan frames address (Holder u) Unknown x y = absurd (y.0 x.0 x.1)
one_who plan frames address (Stranger n) (Holder v) x y =
    let named = same_name frames address n y.0 x.0 y.1 in
    absurd (none-some v (sym x.1 ∙ ap (unit_of_name plan) named ∙ y.2))
one_who plan frames address (Stranger n) (Stranger m) x y = ap Stranger (same_name frames address n m x.0 y.0)
one_who plan frames address (Stranger n) (Likely v) x y = absurd (y.0 n x.0)
one_who plan frames address (Stranger n) (LikelyStranger m) x y = absurd y
one_who plan frames address (Stranger n) Unknown x y = absurd (y.0 n x.0)
one_who plan frames address (Likely u) (Holder v) x y = absurd (x.0 y.0 y.1)
one_who plan frames address (Likely u) (Stranger m) x y = absurd (x.0 m y.0)
one_who plan frames address (Likely u) (Likely v) x y = ap Likely (one_likeliest plan frames address u v x.1 y.1)
one_who plan frames address (Likely u) (LikelyStranger m) x y = absurd y
one_who plan frames address (LikelyStranger n) b x y = absurd x
one_who plan frames address (Likely u) Unknown x y = absurd (y.1 u (likely_there plan frames address u x.1))
one_who plan frames address Unknown (Holder v) x y = absurd (x.0 y.0 y.1)
one_who plan frames address Unknown (Stranger m) x y = absurd (x.0 m y.0)
one_who plan frames address Unknown (Likely v) x y = absurd (x.1 v (likely_there plan frames address v y.1))
one_who plan frames address Unknown (LikelyStranger m) x y = absurd y
one_who plan frames address Unknown Unknown x y = refl

-- ---- frames of which one table reports

may_as_well : (plan : Plan) (h : Holders) (frames others : List Frame) (address u : ℕ) (unit : UnitPlan) → Recounts plan h frames
    → Recounts plan h others → slice_get plan.units.items u ≡ Some unit → MayHold plan frames address u unit → MayHold plan others address u unit
may_as_well plan h frames others address u unit of too at may = elim (cases_Bool (is_marked h u)) [
  | inl marked ↦ absurd (may.unheard (of.heard u unit at marked))
  | inr unmarked ↦ record { prefers = may.prefers; unheard = too.unheard u unit at unmarked }
]

none_as_well : (plan : Plan) (h : Holders) (frames others : List Frame) (address : ℕ) → Recounts plan h frames → Recounts plan h others
    → IsHolder frames address None → IsHolder others address None
none_as_well plan h frames others address of too none = λ name holds. none name (of.held address name (too.holds address name holds))

pub who_as_well : (plan : Plan) (h : Holders) (frames others : List Frame) (address : ℕ) (who : Who) → Recounts plan h frames
    → Recounts plan h others → IsWho plan frames address who → IsWho plan others address who
who_as_well plan h frames others address (Holder u) of too is = (is.0, too.held address is.0 (of.holds address is.0 is.1), is.2)
who_as_well plan h frames others address (Stranger n) of too is = (too.held address n (of.holds address n is.0), is.1)
who_as_well plan h frames others address (Likely u) of too is = (
  none_as_well plan h frames others address of too is.0,
  record {
    unit = is.1.unit;
    unit_is = is.1.unit_is;
    may = may_as_well plan h frames others address u is.1.unit of too is.1.unit_is is.1.may;
    least = λ v other at may. is.1.least v other at (may_as_well plan h others frames address v other too of at may);
    first = λ v other at may less. is.1.first v other at (may_as_well plan h others frames address v other too of at may) less;
  },
)
who_as_well plan h frames others address (LikelyStranger n) of too is = absurd is
who_as_well plan h frames others address Unknown of too is = (
  none_as_well plan h frames others address of too is.0,
  λ u may. is.1 u (record {
    value = may.value;
    value_is = may.value_is;
    meets = may_as_well plan h others frames address u may.value too of may.value_is may.meets;
  }),
)
