-- What two boxes have of their units: which of their NAMEs is the smaller, and whether one may choose another address.
use Rattle.std.proofs.Common.{◌≡◌, ◌≢◌, ℕ, ◌/◌, ◌%◌, ◌^◌, ◌<◌, Bool, true, false, nat_lt, nat_eq, Some, sym, ◌∙◌, ap, inl, inr, arith}
use Rattle.std.specs.List.{slice_get}
use Rattle.std.proofs.Math.Nat.{div-div-eq-div-mul}
use Rattle.std.proofs.Math.Pow.{shr_mono}
use Rattle.std.proofs.lemmas.Bool.{cases_Bool, cases_lt, false≢true}
use Rattle.std.proofs.lemmas.Bool.Decides.{Decides-ltb}
use Rattle.j39_id.specs.Name.{is_arbitrary}
use Rattle.j39_network.specs.Kinds.{kind_of_name, MayBeOne, AreDistinctUnits}
use Rattle.j39_network.specs.VehiclePlans.{IsBoxOf}
use Rattle.j39_network.specs.declared.plan.Plan.{Plan}
use Rattle.j39_network.specs.declared.plan.unit_plan.UnitPlan.{UnitPlan}

pub names_apart : (u v : UnitPlan) → ¬ MayBeOne u v → u.name ≢ v.name
names_apart u v apart same = apart (ap kind_of_name same, inl same)

turned : (u v : UnitPlan) → MayBeOne v u → MayBeOne u v
turned u v (kinds, inl same) = (sym kinds, inl (sym same))
turned u v (kinds, inr (inl any)) = (sym kinds, inr (inr any))
turned u v (kinds, inr (inr any)) = (sym kinds, inr (inl any))

-- units at two places of a plan in which all are distinguished
pub apart_at : (plan : Plan) → AreDistinctUnits plan → (i j : ℕ) (u v : UnitPlan) → slice_get plan.units.items i ≡ Some u
    → slice_get plan.units.items j ≡ Some v → i ≢ j → ¬ MayBeOne u v
apart_at plan apart i j u v first second other one = elim (cases_lt i j) [
  | inl below ↦ apart i j (record { first = u; second = v; below = below; first_is = first; second_is = second; related = one })
  | inr least ↦ elim (cases_lt j i) [
    | inl below ↦ apart j i (record { first = v; second = u; below = below; first_is = second; second_is = first; related = turned v u one })
    | inr most ↦ other (omega (arith, least, most))
  ]
]

-- the bit by which a unit may choose is of the kind
pub same_choice : (m n : ℕ) → kind_of_name m ≡ kind_of_name n → is_arbitrary m ≡ is_arbitrary n
same_choice m n same =
    let choice : ℕ → Bool = λ k. nat_eq (k % 2) 1 in
    ap choice (sym (div-div-eq-div-mul m (2 ^ 21) (2 ^ 42)) ∙ ap (λ k. k / 2 ^ 42) same ∙ div-div-eq-div-mul n (2 ^ 21) (2 ^ 42))

kinds_ordered : (m n : ℕ) → kind_of_name m < kind_of_name n → m < n
kinds_ordered m n less = elim (cases_lt m n) [ inl is ↦ is | inr above ↦ let h = shr_mono 21 above in absurd (omega (arith, less, h)) ]

less_reported : (m n : ℕ) → m < n → nat_lt m n ≡ true
less_reported m n less = (Decides-ltb m n).1 less

above_reported : (m n : ℕ) → n < m → nat_lt m n ≡ false
above_reported m n less = elim (cases_Bool (nat_lt m n)) [
  | inl below ↦ let h = (Decides-ltb m n).0 below in absurd (omega (arith, h, less))
  | inr is ↦ is
]

-- a box of a unit that has a number has its NAME
own_name : (u b : UnitPlan) → IsBoxOf u b → u.any_identity ≡ false → u.name ≡ b.name
own_name u b box numbered = elim box.name.1 [ inl same ↦ same | inr any ↦ absurd (false≢true (sym numbered ∙ any)) ]

-- two units that can't be one are ordered by their kinds, or by numbers that both have, and so are their boxes
pub record AreOrderedAlike (u v b c : UnitPlan) : Type 0 where
  pub order : nat_lt b.name c.name ≡ nat_lt u.name v.name
  pub apart : b.name ≢ c.name

numbered : (u v : UnitPlan) → ¬ MayBeOne u v → kind_of_name u.name ≡ kind_of_name v.name → (u.any_identity ≡ false) × (v.any_identity ≡ false)
numbered u v apart kinds = (
  elim (cases_Bool u.any_identity) [ inl any ↦ absurd (apart (kinds, inr (inl any))) | inr none ↦ none ],
  elim (cases_Bool v.any_identity) [ inl any ↦ absurd (apart (kinds, inr (inr any))) | inr none ↦ none ],
)

pub same_order : (u v b c : UnitPlan) → ¬ MayBeOne u v → IsBoxOf u b → IsBoxOf v c → AreOrderedAlike u v b c
same_order u v b c apart first second = elim (cases_lt (kind_of_name u.name) (kind_of_name v.name)) [
  | inl below ↦
      let boxes : kind_of_name b.name < kind_of_name c.name = omega (arith, below, first.name.0, second.name.0) in
      let less = kinds_ordered b.name c.name boxes in
      record {
        order = less_reported _ _ less ∙ sym (less_reported _ _ (kinds_ordered u.name v.name below));
        apart = λ same. absurd (omega (arith, less, same));
      }
  | inr least ↦ elim (cases_lt (kind_of_name v.name) (kind_of_name u.name)) [
    | inl below ↦
        let boxes : kind_of_name c.name < kind_of_name b.name = omega (arith, below, first.name.0, second.name.0) in
        let less = kinds_ordered c.name b.name boxes in
        record {
          order = above_reported _ _ less ∙ sym (above_reported _ _ (kinds_ordered v.name u.name below));
          apart = λ same. absurd (omega (arith, less, same));
        }
    | inr most ↦
        let have = numbered u v apart (omega (arith, least, most)) in
        let one = own_name u b first have.0 in
        let other = own_name v c second have.1 in
        record {
          order = sym (ap (λ n. nat_lt n c.name) one) ∙ sym (ap (λ n. nat_lt u.name n) other);
          apart = λ same. names_apart u v apart (one ∙ same ∙ sym other);
        }
  ]
]
