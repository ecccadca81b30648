-- What a unit needs arrives.
use Rattle.std.proofs.Common.{◌≡◌, ◌≢◌, ℕ, zero, suc, ◌+◌, ◌<◌, ◌≤◌, ◌⊎◌, ℤ, Bool, true, false, cond, ◌||◌, eqb, List, [], ◌∷◌, ◌++◌, length, get_or, All}
use Rattle.std.proofs.Common.{Some, option_map, refl, sym, ap, ◌∙◌, subst, inl, inr, arith}
use Rattle.std.proofs.lemmas.Bool.{cases_eq, eq-eqb, ne_eqb}
use Rattle.std.proofs.lemmas.Option.{get_or_from_slice_get, same_Some, slice_get-map, slice_get_within}
use Rattle.std.specs.List.{HoldsAt, filter, range_with_len, slice_get}
use Rattle.j39_signal.specs.Bits.{all_ones, raw_of}
use Rattle.j39_signal.specs.Laid.{Chain, Write, last_payload}
use Rattle.j39_signal.specs.declared.signal_parts.SignalParts.{SignalParts}
use Rattle.j39_signal.specs.Places.{WidthFits}
use Rattle.j39_signal.specs.State.{IsRawOf, state_of}
use Rattle.j39_signal.proofs.Writes.{keeps_writes, ones_read, value_read}
use Rattle.j39_signal.specs.declared.state.State.TheVariants.{Value}
use Rattle.j39_findings.specs.Findings.{Clean}
use Rattle.j39_network.specs.Records.{signals_in}
use Rattle.j39_network.specs.SoundSignals.{IsBlankOf, ReadsBack, ReadsLastGiven, unset_state}
use Rattle.j39_findings.proofs.CleanLaws.{lays_out_each}
use Rattle.j39_findings.proofs.LastWrites.{reads_last}
use Rattle.j39_network.specs.declared.plan.Plan.{Plan}
use Rattle.j39_network.specs.declared.plan.group_plan.GroupPlan.{GroupPlan}
use Rattle.j39_network.specs.declared.plan.to.To.{To}
use Rattle.j39_network.specs.declared.plan.to.To.TheVariants.{All as ToAll, One}
use Rattle.j39_network.specs.declared.steps.Step.{Step}
use Rattle.j39_tp.specs.declared.sending.outcome.Outcome.{Outcome}
use Rattle.j39_tp.specs.declared.sending.outcome.Outcome.TheVariants.{Acked, Sent}
use Rattle.j39_world.specs.Arriving.{HasArrived}
use Rattle.j39_world.specs.Flows.{flow_of, flows_of}
use Rattle.j39_world.specs.Needed.{Delivered, IsDelivered, ReportsNeeded, LastWrite, NeededMessage, ReadsAsWritten, bytes_of}
use Rattle.j39_world.specs.Run.{Run, count_of, is_on}
use Rattle.j39_world.specs.SentArriving.{HasArrivedAlone, NeededAlone}
use Rattle.j39_world.specs.Sound.{reported}
use Rattle.j39_world.specs.TransferSteps.{outgoing, targets_of}
use Rattle.j39_world.specs.Transfers.{is_among}
use Rattle.j39_world.specs.World.{World, Stations, all_off, is_other_on}
use Rattle.j39_world.specs.declared.flow.Flow.{Flow}
use Rattle.j39_run_laws.proofs.Reports.SenderSteps.{among_one}
use Rattle.j39_run_laws.proofs.Transfers.Arriving.{arrives_unanswered}
use Rattle.j39_run_laws.proofs.Transfers.ArrivingAnswered.{arrives_answered}
use Rattle.j39_run_laws.proofs.Transfers.SentArriving.{arrives_alone}

-- ---- among the receivers

among_behind : (here : Bool) (v x : ℕ) (rest : List ℕ) → is_among rest v ≡ true → is_among (cond here (x ∷ rest) rest) v ≡ true
among_behind false v x rest among = among
among_behind true v x rest among = either (eqb v x) among
  where
    either : (b : Bool) → is_among rest v ≡ true → (b || is_among rest v) ≡ true
    either true h = refl
    either false h = h

-- a number of a range that passes is among those that do
among_passing : (test : ℕ → Bool) (v a n : ℕ) → a ≤ v → v < a + n → test v ≡ true → is_among (filter test (range_with_len a n)) v ≡ true
among_passing test v a zero low high passes = absurd (omega arith)
among_passing test v a (suc n) low high passes = elim (cases_eq v a) [
  | inl same ↦ rw (sym same, passes, eq-eqb v v refl) refl
  | inr other ↦ among_behind (test a) v a (filter test (range_with_len (a + 1) n)) (among_passing test v (a + 1) n (omega arith) (omega arith) passes)
]

-- a unit that is on and another than the sender is among the receivers, where the message goes to it or to all
among_targets : (count : ℕ) (stations : Stations) (u v : ℕ) (to : To) → v < count → v ≢ u → (stations v).on ≡ true → (to ≡ ToAll) ⊎ (to ≡ One v)
    → is_among (targets_of count stations u to) v ≡ true
among_targets count stations u v ToAll below other on reaches =
    among_passing (is_other_on stations u) v 0 count (omega arith) (omega arith) (rw (on, ne_eqb v u other) refl)
among_targets count stations u v (One r) below other on (inl all) = cc
among_targets count stations u v (One r) below other on (inr one) =
    let same : r ≡ v = cc in
    rw (same, eq-eqb v v refl) refl

-- ---- what is read

read_back : (s : SignalParts) → WidthFits s → ReadsBack s
read_back s fits = record { values = value_read s; given_up = ones_read s fits }

-- writes into a message of a clean plan read back
reads_last_given : (plan : Plan) → Clean plan
    → All (λ g. (start : List ℕ) → IsBlankOf g start → ReadsLastGiven start (signals_in g (length start))) plan.groups.items
reads_last_given plan clean g d less start of =
    let laid = lays_out_each plan clean g d less (length start) of.length in
    reads_last start _ (keeps_writes start _ laid) (λ s e in_message. read_back _ (laid.widths s e in_message))

-- the signals of a message of some group of the plan
reads_at : (plan : Plan) → Clean plan → (m : NeededMessage plan) → ReadsLastGiven m.start (signals_in m.group (length m.start))
reads_at plan clean m =
    let here : get_or plan.groups.items m.flow.group m.group ≡ m.group = get_or_from_slice_get plan.groups.items m.flow.group m.group m.group m.of in
    let less = slice_get_within plan.groups.items m.flow.group m.group m.of in
    let all : (start : List ℕ) → IsBlankOf m.group start → ReadsLastGiven start (signals_in m.group (length start)) =
    subst (λ (g : GroupPlan). (start : List ℕ) → IsBlankOf g start → ReadsLastGiven start (signals_in g (length start))) here
    (reads_last_given plan clean m.flow.group m.group less) in
    all m.start m.blank

-- the signal of a write, read behind these writes, has the value that this one gave it, or is unset where it gave it up
abbrev ReadsBehind : List SignalParts → List ℕ → Write → List Write → Type 0
ReadsBehind signals start x writes = HoldsAt
    (λ s. ((value : ℤ) → IsRawOf s value x.raw → state_of s (raw_of (last_payload start writes) s) ≡ Value value)
    × (x.raw ≡ all_ones s → state_of s (raw_of (last_payload start writes) s) ≡ unset_state s)) signals x.place

pub is_read : (plan : Plan) → Clean plan → (m : NeededMessage plan) (x : LastWrite m) → ReadsAsWritten m x x.write.place
is_read plan clean m x =
    let chain : Chain (signals_in m.group (length m.start)) m.start (x.earlier ++ x.write ∷ x.later) = rw x.among at m.chain in
    let read = reads_at plan clean m in
    let behind : ReadsBehind (signals_in m.group (length m.start)) m.start x.write (x.earlier ++ x.write ∷ x.later) =
    λ d. (λ value. read.given x.earlier x.later x.write chain x.last value d, read.given_up x.earlier x.later x.write chain x.last d) in
    subst (ReadsBehind (signals_in m.group (length m.start)) m.start x.write) (sym x.among) behind

-- ---- what is reported

module _ (plan : Plan) (m : NeededMessage plan) where
  -- the flow of the message, as worlds have it
  flow_here : (flow : Flow) → slice_get (flows_of plan) m.place ≡ Some flow → flow ≡ flow_of plan.groups.items m.flow
  flow_here flow planned =
      same_Some _ _ (sym planned ∙ slice_get-map (flow_of plan.groups.items) plan.flows.items m.place ∙ ap (option_map (flow_of plan.groups.items)) m.its)

  unit_below : m.need.unit < count_of plan
  unit_below =
      let here : get_or plan.needs.items m.need_place m.need ≡ m.need = get_or_from_slice_get plan.needs.items m.need_place m.need m.need m.needed in
      rw here at (plan.need_units m.need_place m.need (slice_get_within plan.needs.items m.need_place m.need m.needed))

  among : (w : World) → is_on w.stations m.need.unit ≡ true → is_among (targets_of (count_of plan) w.stations m.flow.sender m.flow.to) m.need.unit ≡ true
  among w on = among_targets (count_of plan) w.stations m.flow.sender m.need.unit m.flow.to unit_below (λ same. m.meets.other (sym same)) on m.meets.reaches

  -- the need's unit is among the receivers
  among_of : (w : World) (flow : Flow) → is_on w.stations m.need.unit ≡ true → flow ≡ flow_of plan.groups.items m.flow
      → is_among (targets_of (count_of plan) w.stations flow.sender flow.to) m.need.unit ≡ true
  among_of w flow on same = subst (λ (f : Flow). is_among (targets_of (count_of plan) w.stations f.sender f.to) m.need.unit ≡ true) (sym same) (among w on)

  from_arrival : (w after : World) (flow : Flow) (meant : List ℕ) (outcome : Outcome) → is_among meant m.need.unit ≡ true
      → flow ≡ flow_of plan.groups.items m.flow
      → HasArrived w after flow.sender (outgoing (count_of plan) w.stations m.place flow (bytes_of m)) meant outcome
      → reported after.reports m.need.unit m.flow.sender
      ≡ reported w.reports m.need.unit m.flow.sender ++ record { flow = m.place; bytes = bytes_of m } ∷ []
  from_arrival w after flow meant outcome here same has =
      let arrived : HasArrived w after m.flow.sender (outgoing (count_of plan) w.stations m.place (flow_of plan.groups.items m.flow)
      (bytes_of m)) meant outcome =
      subst (λ (f : Flow). HasArrived w after f.sender (outgoing (count_of plan) w.stations m.place f (bytes_of m)) meant outcome) same has in
      arrived.reports m.need.unit here

  from_delivery : (steps : List Step) (w after : World) → Run plan all_off steps w → is_on w.stations m.need.unit ≡ true → IsDelivered plan m w after
      → reported after.reports m.need.unit m.flow.sender
      ≡ reported w.reports m.need.unit m.flow.sender ++ record { flow = m.place; bytes = bytes_of m } ∷ []
  from_delivery steps w after run on (inl (flow, more, planned, unanswered, allowed, sparing, through)) =
      let same : flow ≡ flow_of plan.groups.items m.flow = flow_here flow planned in
      let itself : is_among (m.need.unit ∷ []) m.need.unit ≡ true =
      (let e : eqb m.need.unit m.need.unit ≡ true = eq-eqb m.need.unit m.need.unit refl in rw e refl) in
      from_arrival w after flow (m.need.unit ∷ []) Sent itself same
      (arrives_unanswered plan steps w run m.place flow (bytes_of m) (m.need.unit ∷ []) more after planned unanswered allowed
      (λ v is. subst (λ k. is_among (targets_of (count_of plan) w.stations flow.sender flow.to) k ≡ true) (sym (among_one m.need.unit v is))
      (among_of w flow on same)) sparing through)
  from_delivery steps w after run on (inr (a, alone, place, bytes, last)) =
      let p = a.passage in
      let has : HasArrived w p.after p.flow.sender (outgoing (count_of plan) w.stations p.place p.flow p.bytes) (p.receiver ∷ []) Acked =
      arrives_answered plan steps w run a alone in
      let planned : slice_get (flows_of plan) m.place ≡ Some p.flow = subst (λ (k : ℕ). slice_get (flows_of plan) k ≡ Some p.flow) place p.planned in
      let there = subst (λ (x : World). HasArrived w x p.flow.sender (outgoing (count_of plan) w.stations p.place p.flow p.bytes) (p.receiver ∷ []) Acked)
      last has in
      let placed = subst (λ (k : ℕ). HasArrived w after p.flow.sender (outgoing (count_of plan) w.stations k p.flow p.bytes) (p.receiver ∷ []) Acked)
      place there in
      let here : is_among (p.receiver ∷ []) m.need.unit ≡ true =
      subst (λ (to : To). is_among (targets_of (count_of plan) w.stations p.flow.sender to) m.need.unit ≡ true) a.one
      (among_of w p.flow on (flow_here p.flow planned)) in
      from_arrival w after p.flow (p.receiver ∷ []) Acked here (flow_here p.flow planned)
      (subst (λ (bs : List ℕ). HasArrived w after p.flow.sender (outgoing (count_of plan) w.stations m.place p.flow bs) (p.receiver ∷ []) Acked)
      bytes placed)

pub is_reported : (plan : Plan) (steps : List Step) (w : World) → Clean plan → Run plan all_off steps w → (d : Delivered plan w) → ReportsNeeded plan w d
is_reported plan steps w clean run d = from_delivery plan d.message steps w d.after run d.on d.through

-- and so is one that is sent in a frame alone
pub is_reported_alone : (plan : Plan) (steps : List Step) (w : World) → Run plan all_off steps w → (n : NeededAlone plan w)
    → HasArrivedAlone w n.frame.passage.after n.message.flow.sender n.message.need.unit (record { flow = n.message.place; bytes = bytes_of n.message })
is_reported_alone plan steps w run n =
    let m = n.message in
    let p = n.frame.passage in
    let has : HasArrivedAlone w p.after p.flow.sender p.receiver (record { flow = p.place; bytes = p.bytes }) =
    arrives_alone plan steps w run n.frame in
    let planned : slice_get (flows_of plan) m.place ≡ Some p.flow =
    subst (λ (k : ℕ). slice_get (flows_of plan) k ≡ Some p.flow) n.place p.planned in
    let by : p.flow.sender ≡ m.flow.sender = ap (λ (f : Flow). f.sender) (flow_here plan m p.flow planned) in
    let unit = subst (λ (k : ℕ). HasArrivedAlone w p.after p.flow.sender k (record { flow = p.place; bytes = p.bytes })) n.receiver has in
    let from = subst (λ (k : ℕ). HasArrivedAlone w p.after k m.need.unit (record { flow = p.place; bytes = p.bytes })) by unit in
    let placed = subst (λ (k : ℕ). HasArrivedAlone w p.after m.flow.sender m.need.unit (record { flow = k; bytes = p.bytes })) n.place from in
    subst (λ (bs : List ℕ). HasArrivedAlone w p.after m.flow.sender m.need.unit (record { flow = m.place; bytes = bs })) n.bytes placed
