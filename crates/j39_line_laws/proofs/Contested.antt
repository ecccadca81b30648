-- An end of a flow at an address to which nothing moves is contested where another unit is planned there.
use Rattle.std.proofs.Common.{◌≡◌, ◌≢◌, ℕ, ◌==◌, Bool, true, false, not, ◌&&◌, List, length, Option, Some, None, refl, sym, ◌∙◌, ap, inl, inr}
use Rattle.std.specs.List.{list_any, range_with_len, slice_get}
use Rattle.std.specs.Option.{option_map_or}
use Rattle.std.proofs.lemmas.Bool.{and_from, and_parts, cases_Bool, eq-eqb, eqb-true, false≢true, not-true, not_from_false, true≢false}
use Rattle.std.proofs.lemmas.Option.{slice_get_within}
use Rattle.j39_id.specs.Addresses.{in_pool}
use Rattle.j39_findings.proofs.WhoStays.{placed, planned_at}
use Rattle.j39_findings.specs.Findings.{IsAloneInPlan}
use Rattle.j39_network.specs.PlannedUnits.{unit_at, units_of}
use Rattle.j39_network.specs.declared.plan.Plan.{Plan}
use Rattle.j39_network.specs.declared.plan.unit_plan.UnitPlan.{UnitPlan}
use Rattle.j39_line_findings.proofs.Tests.{any_at}
use Rattle.j39_line_laws.proofs.Tests.{range_none}

-- another unit is planned at the address of the one at a place
pub record IsBeside (units : List UnitPlan) (u : ℕ) (unit : UnitPlan) : Type 0 where
  pub place : ℕ
  pub other : UnitPlan
  pub other_is : slice_get units place ≡ Some other
  pub differs : u ≢ place
  pub address : other.address ≡ unit.address

module _ (plan : Plan) (u : ℕ) (unit : UnitPlan) (at : slice_get plan.units.items u ≡ Some unit) where
  abbrev is_there : ℕ → Bool
  is_there w = option_map_or (λ other. other.address == unit.address) (slice_get plan.units.items w) false

  abbrev is_beside : ℕ → Bool
  is_beside w = not (u == w) && is_there w

  abbrev count : ℕ
  count = length plan.units.items

  its_address : (unit_at (units_of plan) u).preferred ≡ unit.address
  its_address = ap (λ p. p.preferred) (planned_at plan.keep_free plan.units.items u unit at).1

  found_beside : list_any is_beside (range_with_len 0 count) ≡ true → IsBeside plan.units.items u unit
  found_beside some =
      let its = any_at is_beside (range_with_len 0 count) some in
      let (differs, there) = and_parts (not (u == its.value)) (is_there its.value) its.passes in
      go its.value (slice_get plan.units.items its.value) refl (not-true (u == its.value) differs) there
    where
      go : (w : ℕ) (o : Option UnitPlan) → slice_get plan.units.items w ≡ o → (u == w) ≡ false
          → option_map_or (λ other. other.address == unit.address) o false ≡ true → IsBeside plan.units.items u unit
      go w None is_o differs none = absurd (false≢true none)
      go w (Some other) is_o differs same = record {
        place = w;
        other = other;
        other_is = is_o;
        differs = λ equal. true≢false (sym (eq-eqb u w equal) ∙ differs);
        address = eqb-true other.address unit.address same;
      }

  -- of no other one it is alone there, where nothing moves to its address
  alone_there : in_pool unit.address ≡ false → list_any is_beside (range_with_len 0 count) ≡ false → IsAloneInPlan plan u
  alone_there outside none = (
    record {
      inside = (planned_at plan.keep_free plan.units.items u unit at).0;
      planned = λ w inside differs same.
          let (other, at_w, is_w) = placed plan.keep_free plan.units.items w inside in
          let below = slice_get_within plan.units.items w other at_w in
          let fails = range_none is_beside count none w below in
          let there : is_there w ≡ true = ap (λ o. option_map_or (λ (x : UnitPlan). x.address == unit.address) o false) at_w
          ∙ eq-eqb other.address unit.address (sym (ap (λ p. p.preferred) is_w) ∙ same ∙ its_address) in
          let apart : not (u == w) ≡ true = not_from_false (u == w) (elim (cases_Bool (u == w)) [
            | inl equal ↦ absurd (differs (eqb-true u w equal))
            | inr other ↦ other
          ]) in
          true≢false (sym (and_from (not (u == w)) (is_there w) apart there) ∙ fails);
      unreached = inl pool;
    },
    inr pool,
  )
    where
      pool : in_pool (unit_at (units_of plan) u).preferred ≡ false
      pool = ap in_pool its_address ∙ outside

  pub beside_or_alone : in_pool unit.address ≡ false → ¬ IsAloneInPlan plan u → IsBeside plan.units.items u unit
  beside_or_alone outside not_alone = elim (cases_Bool (list_any is_beside (range_with_len 0 count))) [
    | inl some ↦ found_beside some
    | inr none ↦ absurd (not_alone (alone_there outside none))
  ]

  -- with another one it isn't
  pub not_alone : IsBeside plan.units.items u unit → ¬ IsAloneInPlan plan u
  not_alone beside (alone, unreached) =
      let (inside, is_w) = planned_at plan.keep_free plan.units.items beside.place beside.other beside.other_is in
      alone.planned beside.place inside beside.differs (ap (λ p. p.preferred) is_w ∙ beside.address ∙ sym its_address)
