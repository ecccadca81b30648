-- What a part asks of its bus is some of what the whole asks.
use Rattle.std.proofs.Common.{◌≡◌, ℕ, ◌+◌, ◌*◌, ◌^◌, ◌%◌, ◌<◌, ◌≤◌, max, min, Bool, true, false, not, if◌then◌else◌}
use Rattle.std.proofs.Common.{List, length, Option, Some, None, option_map, refl, sym, ◌∙◌, ap, subst, inl, inr, arith}
use Rattle.std.specs.Bool.{MatchBool}
use Rattle.std.specs.List.{slice_get}
use Rattle.std.specs.Option.{option_map_or}
use Rattle.std.proofs.lemmas.Bool.{and_from, and_parts, cases_Bool, false≢true}
use Rattle.std.proofs.lemmas.Option.{none-some, same_Some, slice_get_within}
use Rattle.j39_id.specs.Ident.{identifier_of}
use Rattle.j39_id.specs.Name.{is_arbitrary}
use Rattle.j39_id.specs.Pgn.{is_pdu2, pf_of}
use Rattle.j39_findings.specs.Standing.{DecidesWhoStays}
use Rattle.j39_network.specs.PlannedUnits.{units_of}
use Rattle.j39_network.specs.Staying.{StaysBeside}
use Rattle.j39_network.specs.declared.plan.Plan.{Plan}
use Rattle.j39_network.specs.declared.plan.to.To.{To}
use Rattle.j39_network.specs.declared.plan.to.To.TheVariants.{All as ToAllUnits, One}
use Rattle.j39_network.specs.declared.plan.unit_plan.UnitPlan.{UnitPlan}
use Rattle.j39_load.specs.Loads.{any_unit, destination_at, greatest_address, is_any, least_address, may_move, of_unit}
use Rattle.j39_load.proofs.Different.{states}
use Rattle.j39_part_laws.specs.PlanParts.{IsPartAt, Places, to_in}
use Rattle.j39_part_laws.proofs.Places.{same_there, value_at}
use Rattle.j39_part_laws.proofs.Staying.{stay_there}

-- of two groups alike the one with the smaller addresses has the smaller identifier
pub ident-mono : (priority pgn d e s t : ℕ) → d ≤ e → s ≤ t → identifier_of priority pgn d s ≤ identifier_of priority pgn e t
ident-mono priority pgn d e s t destination source =
    elim (is_pdu2 pgn)
    as (λ b. priority * 2 ^ 26 + pgn * 2 ^ 8 + (if b then 0 else d * 2 ^ 8) + s ≤ priority * 2 ^ 26 + pgn * 2 ^ 8 + (if b then 0 else e * 2 ^ 8) + t) [
      | true ↦ omega arith
      | false ↦ omega arith
    ]

-- the flow is of units at places below a number
pub record IsAmong (count : ℕ) (to : To) (sender : ℕ) : Type 0 where
  pub sender_in : sender < count
  pub receiver_in : (v : ℕ) → to ≡ One v → v < count

module _ (at : Places) where
  -- ---- numbers that twins have

  -- the group can be sent, and both are of one flow
  pub record AreTwinNumbers (m n : ℕ) : Type 0 where
    pub priority : ℕ
    pub pgn : ℕ
    pub to : To
    pub sender : ℕ
    pub page : pgn < 131072
    pub low : pf_of pgn < 240 → pgn % 256 ≡ 0
    pub among : IsAmong 128 to sender
    pub first : m ≡ identifier_of priority pgn (destination_at (λ u. u) to) sender
    pub second : n ≡ identifier_of priority pgn (destination_at (λ u. u) (to_in at to)) (at.unit sender)

  few_to : (to : To) → ((v : ℕ) → to ≡ One v → v < 128) → destination_at (λ u. u) to < 256
  few_to ToAllUnits known = omega arith
  few_to (One v) known = let few = known v refl in omega (arith, few)

  one_to : (to other : To) → ((v : ℕ) → to ≡ One v → v < 128) → ((v : ℕ) → other ≡ One v → v < 128)
      → destination_at (λ u. u) to ≡ destination_at (λ u. u) other → to ≡ other
  one_to ToAllUnits ToAllUnits known few same = refl
  one_to ToAllUnits (One v) known few same = absurd (let low = few v refl in omega (arith, low, same))
  one_to (One v) ToAllUnits known few same = absurd (let low = known v refl in omega (arith, low, same))
  one_to (One u) (One v) known few same = ap One same

  same_ident : (p q n m d e s t : ℕ) → p ≡ q → n ≡ m → s ≡ t → (is_pdu2 n ≡ false → d ≡ e) → identifier_of p n d s ≡ identifier_of q m e t
  same_ident p q n m d e s t priority number source destination =
      ap (λ k. identifier_of k n d s) priority ∙ ap (λ k. identifier_of q n d k) source ∙ by (is_pdu2 n) refl ∙ ap (λ k. identifier_of q k e t) number
    where
      by : (b : Bool) → is_pdu2 n ≡ b → q * 2 ^ 26 + n * 2 ^ 8 + (if b then 0 else d * 2 ^ 8) + t ≡ q * 2 ^ 26 + n * 2 ^ 8 + (if b then 0 else e * 2 ^ 8) + t
      by true is = refl
      by false is = ap (λ k. q * 2 ^ 26 + n * 2 ^ 8 + k * 2 ^ 8 + t) (destination is)

  pub one_twin : (m n o : ℕ) → AreTwinNumbers m n → AreTwinNumbers m o → n ≡ o
  one_twin m n o one other =
      let s = one.among.sender_in in
      let t = other.among.sender_in in
      let reported = states one.priority other.priority one.pgn other.pgn (destination_at (λ u. u) one.to)
      (destination_at (λ u. u) other.to) one.sender other.sender
      one.page other.page (few_to one.to one.among.receiver_in) (few_to other.to other.among.receiver_in) (omega (arith, s))
      (omega (arith, t)) one.low other.low
      (sym one.first ∙ other.first) in
      one.second
      ∙ same_ident one.priority other.priority one.pgn other.pgn _ _ _ _ reported.0 reported.1 (ap at.unit reported.2)
      (λ pdu1. ap (λ to. destination_at (λ u. u) (to_in at to)) (one_to one.to other.to one.among.receiver_in other.among.receiver_in (reported.3 pdu1)))
      ∙ sym other.second

  module _ (part whole : Plan) (is : IsPartAt at part whole) (stays reported : UnitPlan → Bool) (decides : DecidesWhoStays whole stays)
      (reports_who : DecidesWhoStays part reported) where
    -- ---- units

    abbrev us : List UnitPlan
    us = part.units.items

    abbrev ws : List UnitPlan
    ws = whole.units.items

    pub unit_at_place : (u : ℕ) → u < length us → (unit : UnitPlan) × (slice_get us u ≡ Some unit)
    unit_at_place u within = value_at us u within

    pub there_too : (u : ℕ) (unit : UnitPlan) → slice_get us u ≡ Some unit → slice_get ws (at.unit u) ≡ Some unit
    there_too u unit here = same_there at.unit us ws is.units u unit here

    -- one that may move in the part may move in the whole
    still_moves : (u : ℕ) (unit : UnitPlan) → slice_get us u ≡ Some unit → may_move reported unit ≡ true → may_move stays unit ≡ true
    still_moves u unit here moves =
        let parts = and_parts (is_arbitrary unit.name) (not (reported unit)) moves in
        and_from (is_arbitrary unit.name) (not (stays unit)) parts.0 (elim (cases_Bool (stays unit)) [
          | inr leaves ↦ ap not leaves
          | inl settled ↦
              let there : StaysBeside whole.strangers (units_of whole) (at.unit u) =
              subst (λ b. MatchBool b (StaysBeside whole.strangers (units_of whole) (at.unit u))
              (¬ StaysBeside whole.strangers (units_of whole) (at.unit u))) settled
              (decides (at.unit u) unit (there_too u unit here)) in
              let stays_here = (stay_there at part whole is).beside u (slice_get_within us u unit here) there in
              absurd (not_reported (reported unit) refl parts.1 stays_here)
        ])
      where
        not_reported : (b : Bool) → reported unit ≡ b → not (reported unit) ≡ true → StaysBeside part.strangers (units_of part) u → ⊥
        not_reported true it moves stays_here = false≢true (sym (ap not it) ∙ moves)
        not_reported false it moves stays_here =
            subst (λ b. MatchBool b (StaysBeside part.strangers (units_of part) u) (¬ StaysBeside part.strangers (units_of part) u)) it
            (reports_who u unit here) stays_here

    least_of_unit : (u : ℕ) (unit : UnitPlan) → slice_get us u ≡ Some unit → least_address stays unit ≤ least_address reported unit
    least_of_unit u unit here = elim (cases_Bool (may_move reported unit)) [
      | inl moves ↦ rw (moves, still_moves u unit here moves) (omega arith)
      | inr settled ↦ rw (settled) (either (may_move stays unit))
    ]
      where
        either : (b : Bool) → (if b then min unit.address 128 else unit.address) ≤ unit.address
        either true = omega arith
        either false = omega arith

    greatest_of_unit : (u : ℕ) (unit : UnitPlan) → slice_get us u ≡ Some unit → greatest_address reported unit ≤ greatest_address stays unit
    greatest_of_unit u unit here = elim (cases_Bool (may_move reported unit)) [
      | inl moves ↦ rw (moves, still_moves u unit here moves) (omega arith)
      | inr settled ↦ rw (settled) (either (may_move stays unit))
    ]
      where
        either : (b : Bool) → unit.address ≤ (if b then max unit.address 247 else unit.address)
        either true = omega arith
        either false = omega arith

    pub least_in : (u : ℕ) → u < length us → of_unit ws (least_address stays) (at.unit u) ≤ of_unit us (least_address reported) u
    least_in u within =
        let (unit, here) = unit_at_place u within in
        rw (here, there_too u unit here) (least_of_unit u unit here)

    pub greatest_in : (u : ℕ) → u < length us → of_unit us (greatest_address reported) u ≤ of_unit ws (greatest_address stays) (at.unit u)
    greatest_in u within =
        let (unit, here) = unit_at_place u within in
        rw (here, there_too u unit here) (greatest_of_unit u unit here)

    pub any_in : (u : ℕ) → u < length us → any_unit ws (at.unit u) ≡ option_map at.unit (any_unit us u)
    any_in u within =
        let (unit, here) = unit_at_place u within in
        rw (here, there_too u unit here) (either (is_any unit.queue))
      where
        either : (b : Bool) → (if b then Some (at.unit u) else None) ≡ option_map at.unit (if b then Some u else None)
        either true = refl
        either false = refl

    pub any_few : (u : ℕ) → u < length us → (v : ℕ) → any_unit us u ≡ Some v → at.unit v < 128
    any_few u within v its =
        let (unit, here) = unit_at_place u within in
        let inside = slice_get_within ws (at.unit u) unit (there_too u unit here) in
        let few = whole.unit_count in
        let same : u ≡ v = either (option_map_or (λ w. is_any w.queue) (slice_get us u) false) its in
        subst (λ k. at.unit k < 128) same (omega (arith, inside, few))
      where
        either : (b : Bool) → (if b then Some u else None) ≡ Some v → u ≡ v
        either true is_it = same_Some u v is_it
        either false is_it = absurd (none-some v is_it)

    least_to : (to : To) → ((v : ℕ) → to ≡ One v → v < length us)
        → destination_at (of_unit ws (least_address stays)) (to_in at to) ≤ destination_at (of_unit us (least_address reported)) to
    least_to ToAllUnits known = omega arith
    least_to (One v) known = least_in v (known v refl)

    greatest_to : (to : To) → ((v : ℕ) → to ≡ One v → v < length us)
        → destination_at (of_unit us (greatest_address reported)) to ≤ destination_at (of_unit ws (greatest_address stays)) (to_in at to)
    greatest_to ToAllUnits known = omega arith
    greatest_to (One v) known = greatest_in v (known v refl)

    -- from a unit to another one or to all
    pub least_ident_in : (priority pgn u : ℕ) (to : To) → IsAmong (length us) to u
        → identifier_of priority pgn (destination_at (of_unit ws (least_address stays)) (to_in at to)) (of_unit ws (least_address stays) (at.unit u))
        ≤ identifier_of priority pgn (destination_at (of_unit us (least_address reported)) to) (of_unit us (least_address reported) u)
    least_ident_in priority pgn u to among =
        ident-mono priority pgn _ _ _ _ (least_to to among.receiver_in) (least_in u among.sender_in)

    pub greatest_ident_in : (priority pgn u : ℕ) (to : To) → IsAmong (length us) to u
        → identifier_of priority pgn (destination_at (of_unit us (greatest_address reported)) to) (of_unit us (greatest_address reported) u)
        ≤ identifier_of priority pgn (destination_at (of_unit ws (greatest_address stays)) (to_in at to)) (of_unit ws (greatest_address stays) (at.unit u))
    greatest_ident_in priority pgn u to among =
        ident-mono priority pgn _ _ _ _ (greatest_to to among.receiver_in) (greatest_in u among.sender_in)
