-- What holds of all frames that a plan asks for: none is longer than the longest, answers have larger identifiers than packets, and units that keep
-- no order are those of the plan.
use Rattle.std.proofs.Common.{◌≡◌, ℕ, ◌+◌, ◌*◌, ◌^◌, ◌<◌, ◌≤◌, Bool, true, false, not, ◌||◌, eqb, if◌then◌else◌, List, length, get_or, unwrap_or, min, max, All}
use Rattle.std.proofs.Common.{Option, Some, None, IfSome, is_some, refl, sym, ap, ◌∙◌, subst, inl, inr, arith}
use Rattle.std.proofs.lemmas.Bool.{eqb-true, false≢true, leb-true, or_cases}
use Rattle.std.proofs.lemmas.Option.{slice_get_within}
use Rattle.std.specs.List.{slice_get}
use Rattle.std.specs.Option.{option_map_or}
use Rattle.j39_id.specs.Ident.{identifier_of}
use Rattle.j39_id.specs.Limits.{frame_bytes, unit_limit}
use Rattle.j39_id.specs.Pgn.{is_pdu2}
use Rattle.j39_id.specs.Services.{connection_management, data_transfer}
use Rattle.j39_network.specs.declared.plan.Plan.{Plan}
use Rattle.j39_network.specs.declared.plan.flow_plan.FlowPlan.{FlowPlan}
use Rattle.j39_network.specs.declared.plan.group_plan.GroupPlan.{GroupPlan}
use Rattle.j39_network.specs.declared.plan.pace.Pace.{Pace}
use Rattle.j39_network.specs.declared.plan.queue.Queue.{Queue}
use Rattle.j39_network.specs.declared.plan.queue.Queue.TheVariants.{Any, Priority}
use Rattle.j39_network.specs.declared.plan.request_plan.RequestPlan.{RequestPlan}
use Rattle.j39_network.specs.declared.plan.timing.Timing.{Timing}
use Rattle.j39_network.specs.declared.plan.to.To.{To}
use Rattle.j39_network.specs.declared.plan.to.To.TheVariants.{All as ToAllUnits, One}
use Rattle.j39_network.specs.declared.plan.unit_plan.UnitPlan.{UnitPlan}
use Rattle.j39_load.specs.declared.frames.broadcast.Broadcast.{Broadcast}
use Rattle.j39_load.specs.declared.frames.flow_frames.FlowFrames.{FlowFrames}
use Rattle.j39_load.specs.AnyQueues.{are_of_unit, keep_order}
use Rattle.j39_load.specs.Asked.{asked_of, frames_asked, wanting}
use Rattle.j39_load.specs.Broadcasts.{broadcast_frames}
use Rattle.j39_load.specs.Loads.{any_unit, broadcast_of, destination_at, greatest_address, is_always_short, is_any, least_address, may_move, most_bytes}
use Rattle.j39_load.specs.Loads.{of_unit, packet_frames, single_frames}
use Rattle.j39_load.specs.RequestLoads.{request_load}
use Rattle.j39_timing.specs.FrameBits.{longest_frame}
use Rattle.j39_load.specs.PlannedFrames.{AreAllOrdered, no_frames, planned_at}
use Rattle.j39_load.specs.AnswerStreams.{broadcast_for, frames_for}
use Rattle.j39_load.proofs.EachFrames.{each_fits}
use Rattle.j39_load.proofs.StreamsBefore.{get_or_inside}

pub record IsSent (frames : FlowFrames) : Type 0 where
  pub short : frames.stream.bits ≤ 160
  pub rises : is_some frames.any_receiver ≡ true → frames.least_ident < frames.last_ident
  pub placed : (u : ℕ) → are_of_unit frames u ≡ true → u < unit_limit

-- ---- places of units

place_below : (units : List UnitPlan) (u v : ℕ) (unit : Option UnitPlan) → slice_get units u ≡ unit
    → option_map_or (λ (x : ℕ). eqb x v) (if option_map_or (λ (x : UnitPlan). is_any x.queue) unit false then Some u else None) false ≡ true
    → v < length units
place_below units u v None at is = absurd (false≢true is)
place_below units u v (Some unit) at is = by_queue unit.queue is
  where
    by_queue : (queue : Queue) → option_map_or (λ (x : ℕ). eqb x v) (if is_any queue then Some u else None) false ≡ true → v < length units
    by_queue Priority is = absurd (false≢true is)
    by_queue Any is =
        let same : u ≡ v = eqb-true u v is in
        let inside : u < length units = slice_get_within units u unit at in
        omega (arith, same, inside)

-- one of the places that may be reported is this one
end_below : (units : List UnitPlan) (u v : ℕ) → option_map_or (λ (x : ℕ). eqb x v) (any_unit units u) false ≡ true → v < length units
end_below units u v is = place_below units u v (slice_get units u) refl is

one_end : (units : List UnitPlan) (u v : ℕ) → (option_map_or (λ (x : ℕ). eqb x v) (any_unit units u) false || false) ≡ true → v < length units
one_end units u v is = elim (or_cases (option_map_or (λ (x : ℕ). eqb x v) (any_unit units u) false) false is) [
  | inl its ↦ end_below units u v its
  | inr none ↦ absurd (false≢true none)
]

two_ends : (units : List UnitPlan) (u w v : ℕ)
    → (option_map_or (λ (x : ℕ). eqb x v) (any_unit units u) false || option_map_or (λ (x : ℕ). eqb x v) (any_unit units w) false) ≡ true
    → v < length units
two_ends units u w v is =
    elim (or_cases (option_map_or (λ (x : ℕ). eqb x v) (any_unit units u) false) (option_map_or (λ (x : ℕ). eqb x v) (any_unit units w) false) is) [
      | inl its ↦ end_below units u v its
      | inr its ↦ end_below units w v its
    ]

-- ---- identifiers

module _ (stays : UnitPlan → Bool) (units : List UnitPlan) where
  least_few : (unit : UnitPlan) → least_address stays unit ≤ 255
  least_few unit =
      let few = unit.address_range in
      elim (may_move stays unit) as (λ b. (if b then min unit.address 128 else unit.address) ≤ 255) [
        | true ↦ omega (arith, few)
        | false ↦ omega (arith, few)
      ]

  read_few : (unit : Option UnitPlan) → option_map_or (least_address stays) unit 0 ≤ 255
  read_few None = omega arith
  read_few (Some unit) = least_few unit

  source_few : (v : ℕ) → of_unit units (least_address stays) v ≤ 255
  source_few v = read_few (slice_get units v)

  destination_few : (to : To) → destination_at (of_unit units (least_address stays)) to ≤ 255
  destination_few ToAllUnits = omega arith
  destination_few (One v) = source_few v

packet_below : (priority d s e t : ℕ) → d ≤ 255 → s ≤ 255 → identifier_of priority data_transfer d s < identifier_of priority connection_management e t
packet_below priority d s e t destination source = go (is_pdu2 data_transfer) (is_pdu2 connection_management)
  where
    go : (a b : Bool) → priority * 2 ^ 26 + data_transfer * 2 ^ 8 + (if a then 0 else d * 2 ^ 8) + s
        < priority * 2 ^ 26 + connection_management * 2 ^ 8 + (if b then 0 else e * 2 ^ 8) + t
    go true true = omega (arith, destination, source)
    go true false = omega (arith, destination, source)
    go false true = omega (arith, destination, source)
    go false false = omega (arith, destination, source)

-- ---- all frames

short_bytes : (group : GroupPlan) → longest_frame (most_bytes group) ≤ 160
short_bytes group = go (is_always_short group) refl
  where
    go : (short : Bool) → is_always_short group ≡ short → longest_frame (if short then group.most else frame_bytes) ≤ 160
    go true is = let few : group.most ≤ 8 = leb-true group.most 8 is in omega (arith, few)
    go false is = omega arith

module _ (timing : Timing) (plan : Plan) (stays : UnitPlan → Bool) where
  abbrev units : List UnitPlan
  units = plan.units.items

  placed : (v : ℕ) → v < length units → v < unit_limit
  placed v below = let few = plan.unit_count in omega (arith, below, few)

  single : (flow : FlowPlan) (pace : Pace) (group : GroupPlan) (askers : ℕ)
      → IsSent (frames_for timing pace askers (single_frames timing units stays flow pace group))
  single flow pace group askers = record {
    short = short_bytes group;
    rises = λ is. absurd (false≢true is);
    placed = λ v is. placed v (one_end units flow.sender v is);
  }

  session : (flow : FlowPlan) (v : ℕ) (pace : Pace) (packets askers : ℕ)
      → IsSent (frames_for timing pace askers (packet_frames timing units stays flow v pace packets))
  session flow v pace packets askers = record {
    short = omega arith;
    rises = λ is.
        let held : ℕ → ℕ = of_unit units (greatest_address stays) in
        let less = packet_below timing.transport_priority (destination_at (of_unit units (least_address stays)) flow.to)
        (of_unit units (least_address stays) flow.sender) (held v) (held flow.sender) (destination_few stays units flow.to)
        (source_few stays units flow.sender) in
        below_max _ _ _ less;
    placed = λ w is. placed w (two_ends units flow.sender v w is);
  }
    where
      below_max : (a b c : ℕ) → a < b → a < max b c
      below_max a b c less = omega (arith, less)

  broadcast : (pgn u gaps place : ℕ) → IsSent (broadcast_frames timing units stays pgn u gaps place)
  broadcast pgn u gaps place = record {
    short = omega arith;
    rises = λ is. absurd (false≢true is);
    placed = λ v is. placed v (one_end units u v is);
  }

  wants : (broadcast : Broadcast) → IsSent (wanting broadcast)
  wants broadcast = record {
    short = omega arith;
    rises = λ is. absurd (false≢true is);
    placed = λ v is. absurd (false≢true is);
  }

  asking : (request : RequestPlan) (period : ℕ) → IsSent (request_load timing units stays request period).frames
  asking request period = record {
    short = omega arith;
    rises = λ is. absurd (false≢true is);
    placed = λ v is. placed v (one_end units request.sender v is);
  }

  pub all_sent : All (λ (frames : Option FlowFrames). IfSome frames IsSent) (frames_asked (asked_of timing plan stays))
  all_sent = each_fits timing plan stays IsSent single session broadcast
      (λ flow pace group askers. wants (broadcast_for timing pace askers (broadcast_of timing flow pace group))) asking

-- ---- plans whose units all keep order

module _ (timing : Timing) (plan : Plan) (stays : UnitPlan → Bool)
    (ordered : (u : ℕ) (unit : UnitPlan) → slice_get plan.units.items u ≡ Some unit → unit.queue ≡ Priority) where
  never : (u : ℕ) (unit : Option UnitPlan) → slice_get plan.units.items u ≡ unit
      → option_map_or (λ (x : UnitPlan). is_any x.queue) unit false ≡ false
  never u None at = refl
  never u (Some unit) at = ap is_any (ordered u unit at)

  none : (u : ℕ) → any_unit plan.units.items u ≡ None
  none u = ap (λ (b : Bool). if b then Some u else None) (never u (slice_get plan.units.items u) refl)

  one_none : (u : ℕ) → not (is_some (any_unit plan.units.items u) || false) ≡ true
  one_none u = ap (λ (o : Option ℕ). not (is_some o || false)) (none u)

  two_none : (u v : ℕ) → not (is_some (any_unit plan.units.items u) || is_some (any_unit plan.units.items v)) ≡ true
  two_none u v =
      ap (λ (o : Option ℕ). not (is_some o || is_some (any_unit plan.units.items v))) (none u)
      ∙ ap (λ (o : Option ℕ). not (false || is_some o)) (none v)

  all_ordered : All (λ (frames : Option FlowFrames). IfSome frames (λ (f : FlowFrames). keep_order f ≡ true)) (frames_asked (asked_of timing plan stays))
  all_ordered = each_fits timing plan stays (λ (f : FlowFrames). keep_order f ≡ true) (λ flow pace group askers. one_none flow.sender)
      (λ flow v pace packets askers. two_none flow.sender v) (λ pgn u gaps place. one_none u) (λ flow pace group askers. refl)
      (λ request period. one_none request.sender)

  pub in_order : AreAllOrdered (frames_asked (asked_of timing plan stays))
  in_order j = go (get_or (frames_asked (asked_of timing plan stays)) j None) refl
    where
      go : (o : Option FlowFrames) → get_or (frames_asked (asked_of timing plan stays)) j None ≡ o
          → keep_order (planned_at (frames_asked (asked_of timing plan stays)) j) ≡ true
      go None at = ap (λ (o : Option FlowFrames). keep_order (unwrap_or o no_frames)) at
      go (Some x) at =
          let here : planned_at (frames_asked (asked_of timing plan stays)) j ≡ x = ap (λ (o : Option FlowFrames). unwrap_or o no_frames) at in
          let its : keep_order x ≡ true = subst (λ (o : Option FlowFrames). IfSome o (λ (f : FlowFrames). keep_order f ≡ true)) at
          (all_ordered j None (get_or_inside (frames_asked (asked_of timing plan stays)) j x at)) in
          subst (λ (f : FlowFrames). keep_order f ≡ true) (sym here) its
