-- A greater address of either end makes a greater identifier, and units hold addresses between the least and the greatest.
use Rattle.std.proofs.Common.{◌≡◌, ℕ, ◌+◌, ◌*◌, ◌^◌, ◌<◌, ◌≤◌, Bool, true, false, not, if◌then◌else◌, leb, length, List, inl, inr, Some}
use Rattle.std.proofs.Common.{refl, sym, ap, subst, ◌∙◌, arith, min, max}
use Rattle.std.proofs.lemmas.Bool.{and_from, and_parts, cases_Bool, leb-true}
use Rattle.std.proofs.lemmas.List.{length-map}
use Rattle.std.specs.Bool.{MatchBool}
use Rattle.j39_id.specs.Addresses.{global_address, in_pool}
use Rattle.j39_id.specs.Ident.{identifier_of}
use Rattle.j39_id.specs.Name.{is_arbitrary}
use Rattle.j39_id.specs.Pgn.{is_pdu2}
use Rattle.std.specs.List.{slice_get}
use Rattle.j39_id.specs.Services.{claim_priority, data_transfer, request as request_group}
use Rattle.j39_network.specs.declared.plan.Plan.{Plan}
use Rattle.j39_network.specs.declared.plan.flow_plan.FlowPlan.{FlowPlan}
use Rattle.j39_network.specs.declared.plan.group_plan.GroupPlan.{GroupPlan}
use Rattle.j39_network.specs.declared.plan.request_plan.RequestPlan.{RequestPlan}
use Rattle.j39_network.specs.declared.plan.timing.Timing.{Timing}
use Rattle.j39_network.specs.declared.plan.to.To.{To}
use Rattle.j39_network.specs.declared.plan.to.To.TheVariants.{All as ToAll, One}
use Rattle.j39_network.specs.declared.plan.unit_plan.UnitPlan.{UnitPlan}
use Rattle.j39_load.specs.Loads.{destination_at, greatest_address, least_address, may_move, of_unit}
use Rattle.j39_search.proofs.Members.{all_at}
use Rattle.j39_load.specs.Ranks.{AreHeldByPlan, AreUnitsPlanned, LieBetween, RequestLiesBetween}
use Rattle.j39_findings.specs.Standing.{DecidesWhoStays}
use Rattle.j39_findings.proofs.WhoStays.{placed}
use Rattle.j39_claim.specs.ClaimRule.{PlannedUnit}
use Rattle.j39_network.specs.PlannedUnits.{planned_unit, unit_at, units_of}
use Rattle.j39_network.specs.Staying.{StaysBeside}

-- of two groups alike the one with the smaller addresses has the smaller identifier
identifier-mono : (priority pgn d e s t : ℕ) → d ≤ e → s ≤ t → identifier_of priority pgn d s ≤ identifier_of priority pgn e t
identifier-mono priority pgn d e s t destination source =
    elim (is_pdu2 pgn)
    as (λ b. priority * 2 ^ 26 + pgn * 2 ^ 8 + (if b then 0 else d * 2 ^ 8) + s ≤ priority * 2 ^ 26 + pgn * 2 ^ 8 + (if b then 0 else e * 2 ^ 8) + t) [
      | true ↦ omega arith
      | false ↦ omega arith
    ]

module _ (plan : Plan) (stays : UnitPlan → Bool) (states : DecidesWhoStays plan stays) (held : ℕ → ℕ) (by_plan : AreHeldByPlan plan held) where
  abbrev units : List UnitPlan
  units = plan.units.items

  -- a unit's planned address lies between its ends
  planned_between : (unit : UnitPlan) (a : ℕ) → a ≡ unit.address → (least_address stays unit ≤ a) × (a ≤ greatest_address stays unit)
  planned_between unit a planned =
      elim (may_move stays unit)
      as (λ b. ((if b then min unit.address 128 else unit.address) ≤ a) × (a ≤ (if b then max unit.address 247 else unit.address))) [
        | true ↦ (omega (arith, planned), omega (arith, planned))
        | false ↦ (omega (arith, planned), omega (arith, planned))
      ]

  -- each address of the pool does where it may move
  pool_between : (unit : UnitPlan) (a : ℕ) → may_move stays unit ≡ true → in_pool a ≡ true
      → (least_address stays unit ≤ a) × (a ≤ greatest_address stays unit)
  pool_between unit a moves inside =
      let two = and_parts (leb 128 a) (leb a 247) inside in
      let low : 128 ≤ a = leb-true 128 a two.0 in
      let high : a ≤ 247 = leb-true a 247 two.1 in
      rw (moves) (omega (arith, low, high), omega (arith, low, high))

  moves_where_stated : (unit : UnitPlan) (S : Type 0) → MatchBool (stays unit) S (¬ S) → is_arbitrary unit.name ≡ true → ¬ S → may_move stays unit ≡ true
  moves_where_stated unit S it arbitrary leaves = elim (cases_Bool (stays unit)) [
    | inl one ↦ absurd (leaves (subst (λ b. MatchBool b S (¬ S)) one it))
    | inr other ↦ and_from (is_arbitrary unit.name) (not (stays unit)) arbitrary (ap not other)
  ]

  unit_between : (u : ℕ) → u < length units
      → (of_unit units (least_address stays) u ≤ held u) × (held u ≤ of_unit units (greatest_address stays) u)
  unit_between u below =
      let (unit, at, its) = placed plan.keep_free units u (omega (arith, below, length-map units (planned_unit plan.keep_free))) in
      let preferred : (unit_at (units_of plan) u).preferred ≡ unit.address = ap (λ (c : PlannedUnit). c.preferred) its in
      let name : is_arbitrary (unit_at (units_of plan) u).name ≡ is_arbitrary unit.name = ap (λ (c : PlannedUnit). is_arbitrary c.name) its in
      rw (at) (elim (by_plan u below) [
        | inl planned ↦ planned_between unit (held u) (planned ∙ preferred)
        | inr moved ↦ pool_between unit (held u) (moves_where_stated unit (StaysBeside plan.strangers (units_of plan) u) (states u unit at)
            (sym name ∙ moved.1) moved.2) moved.0
      ])

  destination_between : (to : To) → ((v : ℕ) → to ≡ One v → v < length units)
      → (destination_at (of_unit units (least_address stays)) to ≤ destination_at held to)
      × (destination_at held to ≤ destination_at (of_unit units (greatest_address stays)) to)
  destination_between ToAll known = (omega arith, omega arith)
  destination_between (One v) known = unit_between v (known v refl)

  -- from a unit to another one, or to all
  module _ (u : ℕ) (to : To) (sender : u < length units) (receiver : (v : ℕ) → to ≡ One v → v < length units) where
    pub between : (priority pgn : ℕ)
        → (identifier_of priority pgn (destination_at (of_unit units (least_address stays)) to) (of_unit units (least_address stays) u)
        ≤ identifier_of priority pgn (destination_at held to) (held u))
        × (identifier_of priority pgn (destination_at held to) (held u)
        ≤ identifier_of priority pgn (destination_at (of_unit units (greatest_address stays)) to) (of_unit units (greatest_address stays) u))
    between priority pgn =
        let source = unit_between u sender in
        let destination = destination_between to receiver in (
          identifier-mono priority pgn _ _ _ _ destination.0 source.0,
          identifier-mono priority pgn _ _ _ _ destination.1 source.1,
        )

  module _ (flow : FlowPlan) (known : AreUnitsPlanned plan flow) where
    -- to all
    broadcast_between : (priority pgn : ℕ)
        → (identifier_of priority pgn global_address (of_unit units (least_address stays) flow.sender) ≤ identifier_of priority pgn global_address
        (held flow.sender))
        × (identifier_of priority pgn global_address (held flow.sender) ≤ identifier_of priority pgn global_address
        (of_unit units (greatest_address stays) flow.sender))
    broadcast_between priority pgn =
        let source = unit_between flow.sender known.sender in (
          identifier-mono priority pgn global_address global_address _ _ (omega arith) source.0,
          identifier-mono priority pgn global_address global_address _ _ (omega arith) source.1,
        )

    pub lie_between : (timing : Timing) (group : GroupPlan) → LieBetween plan timing stays held group flow
    lie_between timing group =
        let own = between flow.sender flow.to known.sender known.receiver group.priority group.pgn in
        let packets = between flow.sender flow.to known.sender known.receiver timing.transport_priority data_transfer in
        record {
          least = own.0;
          greatest = own.1;
          least_packet = packets.0;
          greatest_packet = packets.1;
          least_broadcast = λ pgn. (broadcast_between timing.transport_priority pgn).0;
          greatest_broadcast = λ pgn. (broadcast_between timing.transport_priority pgn).1;
        }

  pub request_between : (r : ℕ) (request : RequestPlan) → slice_get plan.requests.items r ≡ Some request
      → RequestLiesBetween plan stays held request
  request_between r request at =
      let sender = all_at (λ (d : RequestPlan). d.sender < length units) plan.requests.items plan.request_senders r request at in
      let receiver = all_at (λ (d : RequestPlan). (v : ℕ) → d.to ≡ One v → v < length units) plan.requests.items plan.request_receivers r request at in
      let own = between request.sender request.to sender receiver claim_priority request_group in
      record { least = own.0; greatest = own.1 }
