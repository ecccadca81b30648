-- On a bus that keeps to a plan with whose load nothing is wrong each long message to all that has a deadline is whole within it.
use Rattle.std.proofs.Common.{◌≡◌, ℕ, zero, suc, ◌+◌, ◌-◌, ◌<◌, ◌≤◌, Bool, true, false, ◌&&◌, eqb, leb, if◌then◌else◌, List, [], get_or, length}
use Rattle.std.proofs.Common.{Option, Some, None, refl, sym, ap, ◌∙◌, subst, arith, inl, inr, option_map}
use Rattle.std.proofs.lemmas.Bool.{and_parts, cases_lt, eqb-true, leb-true, ne_eqb}
use Rattle.std.proofs.lemmas.Option.{none-some, same_Some}
use Rattle.std.specs.List.{slice_get}
use Rattle.j39_findings.specs.Findings.{Clean}
use Rattle.j39_network.specs.declared.plan.Plan.{Plan}
use Rattle.j39_network.specs.declared.plan.flow_plan.FlowPlan.{FlowPlan}
use Rattle.j39_network.specs.declared.plan.pace.Pace.{Pace}
use Rattle.j39_network.specs.declared.plan.timing.Timing.{Timing}
use Rattle.j39_network.specs.declared.plan.unit_plan.UnitPlan.{UnitPlan}
use Rattle.j39_load.specs.declared.frames.broadcast.Broadcast.{Broadcast}
use Rattle.j39_load.specs.declared.frames.messages.Messages.TheVariants.{ToAll}
use Rattle.j39_load.specs.declared.loads.flow_load.FlowLoad.{FlowLoad}
use Rattle.j39_load.specs.declared.waits.delay.Delay.{Delay}
use Rattle.j39_load.specs.declared.waits.turn.Turn.{Turn}
use Rattle.j39_load.specs.declared.waits.whole_time.WholeTime.{WholeTime}
use Rattle.j39_load.specs.AnswerStreams.{answered_within, askers_of, late_for}
use Rattle.j39_load.specs.AnyQueues.{Buffering, IsBuffering}
use Rattle.j39_load.specs.Asked.{Asked, asked_of, frames_asked, total_load}
use Rattle.j39_load.specs.AskedFlows.{asking_periods, is_answering}
use Rattle.j39_load.specs.Delays.{IsTurn, keeps_pace, keeps_up, whole_time}
use Rattle.j39_load.specs.KeepsAnswers.{AnswerRequests, Answered}
use Rattle.j39_load.specs.KeepsBroadcasts.{IsMessageToAll, KeepsTurns}
use Rattle.j39_load.specs.KeepsPlan.{KeepsQueues, KeepsToPlan}
use Rattle.j39_load.specs.KeptDeadlines.{AreEachInTime, AreSentWhole, TakeTurns, whole_from}
use Rattle.j39_load.specs.LiveClaims.{unplanned_end}
use Rattle.j39_load.specs.LoadFindings.{AreLoadFindings, AsksOfBus, further_findings, load_findings}
use Rattle.j39_load.specs.Loads.{bits_at_least, bits_at_most, bits_inside}
use Rattle.j39_load.specs.SentFrames.{Broadcasts, FrameSources, Held, IsWithinUnitMs}
use Rattle.j39_load.proofs.KeepingAnswers.{asked_where_some, moments_apart, numbers_differ, some_askers, unasked_where_none}
use Rattle.j39_load.proofs.Milliseconds.{before_bits, behind_bits, in_ms, within_bits}
use Rattle.j39_load.proofs.PlacedFrames.{at_place, its_broadcast, load, to_all_units}
use Rattle.j39_load.proofs.StreamsBefore.{none_of_two}
use Rattle.j39_load.proofs.WholeMessages.{deadlines_kept}
use Rattle.j39_load.proofs.MessagesInTurn.{HasTurn, flow_ends, has_turn}
use Rattle.j39_timing.specs.AnyOrder.{Controllers, IsLegalInAnyOrder}
use Rattle.j39_timing.specs.TimedFrames.{Schedule}

-- a time that each message keeps: a turn that is over within the period, where nobody asks for them; and where one request does, within what is left of it
record KeepsUp (timing : Timing) (asked : Asked) (buffering : Buffering) (broadcast : Broadcast) (bits : ℕ) : Type 0 where
  pub turn : Turn
  pub is : IsTurn timing asked buffering broadcast.sender (Some turn)
  pub sum : broadcast.jitter + turn.time ≡ bits
  pub up : keeps_up broadcast turn ≡ true

keeps_up_by : (timing : Timing) (asked : Asked) (buffering : Buffering) (broadcast : Broadcast) (whole : WholeTime) (bits : ℕ) (turn : Option Turn)
    → IsTurn timing asked buffering broadcast.sender turn → whole ≡ whole_time broadcast turn → whole.bits ≡ Some bits → whole.each ≡ true
    → KeepsUp timing asked buffering broadcast bits
keeps_up_by timing asked buffering broadcast whole bits None is same stated each =
    absurd (none-some bits (sym (ap (λ (w : WholeTime). w.bits) same) ∙ stated))
keeps_up_by timing asked buffering broadcast whole bits (Some turn) is same stated each = record {
  turn = turn;
  is = is;
  sum = same_Some (broadcast.jitter + turn.time) bits (sym (ap (λ (w : WholeTime). w.bits) same) ∙ stated);
  up = sym (ap (λ (w : WholeTime). w.each) same) ∙ each;
}

unasked_inside : (broadcast : Broadcast) (turn : Turn) → broadcast.askers ≡ 0 → keeps_up broadcast turn ≡ true → turn.time ≤ broadcast.apart
unasked_inside broadcast turn none up =
    let pace : keeps_pace broadcast turn ≡ true =
    ap (λ (n : ℕ). if eqb n 0 then keeps_pace broadcast turn else (eqb n 1 && leb (turn.time + broadcast.late) broadcast.apart)) (sym none) ∙ up in
    leb-true turn.time broadcast.apart (and_parts (leb turn.time broadcast.apart) _ pace).0

asked_inside : (broadcast : Broadcast) (turn : Turn) (k : ℕ) → broadcast.askers ≡ suc k → keeps_up broadcast turn ≡ true
    → (broadcast.askers ≡ 1) × (turn.time + broadcast.late ≤ broadcast.apart)
asked_inside broadcast turn k some up =
    let never : eqb (suc k) 0 ≡ false = ne_eqb (suc k) 0 (λ same. omega (arith, same)) in
    let both : eqb (suc k) 1 && leb (turn.time + broadcast.late) broadcast.apart ≡ true =
    ap (λ (b : Bool). if b then keeps_pace broadcast turn else (eqb (suc k) 1 && leb (turn.time + broadcast.late) broadcast.apart)) (sym never)
    ∙ (ap (λ (n : ℕ). if eqb n 0 then keeps_pace broadcast turn else (eqb n 1 && leb (turn.time + broadcast.late) broadcast.apart)) (sym some) ∙ up) in
    let two = and_parts (eqb (suc k) 1) (leb (turn.time + broadcast.late) broadcast.apart) both in (
      some ∙ eqb-true (suc k) 1 two.0,
      leb-true (turn.time + broadcast.late) broadcast.apart two.1,
    )

-- ---- messages of a flow that comes only as an answer

-- where one request asks for it two are wanted a period apart, but for the time that a unit has to answer
module _ (plan : Plan) (timing : Timing) (flow : FlowPlan) (count : ℕ) (of_flow : ℕ → ℕ) (f : ℕ) (wanted : ℕ → ℕ) (pace : Pace) (paced : flow.pace ≡ Some pace)
    (answers : ℕ → Answered)
    (kept : AnswerRequests plan timing flow (λ m. (m < count) × (of_flow m ≡ f)) (λ m n. Unit {0}) (λ m. answered_within pace) wanted answers)
    (is_asked : is_answering plan.requests.items flow ≡ true) (single : length (asking_periods plan.requests.items flow) ≡ 1)
    (in_order : (l m : ℕ) → l < m → m < count → of_flow l ≡ f → of_flow m ≡ f → wanted l ≤ wanted m) where
  abbrev Is : ℕ → Type 0
  Is m = (m < count) × (of_flow m ≡ f)

  abbrev late : ℕ
  late = bits_at_most timing (answered_within pace)

  abbrev period : ℕ
  period = bits_at_least timing pace.period

  far : (l m : ℕ) → Is l → Is m → (answers l).number < (answers m).number → wanted l + period ≤ wanted m + late
  far l m is_l is_m less =
      let apart = moments_apart plan timing flow Is (λ a b. Unit {0})
      (λ a. answered_within pace) wanted answers kept pace paced is_asked single l m is_l is_m less in
      let soon = within_bits timing (answered_within pace) (answers l).moment (wanted l) (kept.in_time l is_l) in
      let first = kept.moment_first m is_m in
      omega (arith, apart, soon, first)

  wanted_apart : (l m : ℕ) → l < m → m < count → of_flow l ≡ f → of_flow m ≡ f → wanted l + (period - late) ≤ wanted m
  wanted_apart l m less below of_l of_m =
      let is_l : Is l = (omega (arith, less, below), of_l) in
      let order = in_order l m less below of_l of_m in
      elim (cases_lt (answers l).number (answers m).number) [
        | inl before ↦ let apart = far l m is_l (below, of_m) before in omega (arith, apart, order)
        | inr from ↦ elim (cases_lt (answers m).number (answers l).number) [
          | inl behind ↦ let apart = far m l (below, of_m) is_l behind in omega (arith, apart, order)
          | inr back ↦ absurd (
              let same = numbers_differ plan timing flow Is (λ a b. Unit {0})
              (λ a. answered_within pace) wanted answers kept pace paced is_asked single l m is_l
              (below, of_m) tt (omega (arith, from, back)) in
              omega (arith, same, less))
        ]
      ]

-- ---- a message of a bus that keeps to a plan

module _ (plan : Plan) (timing : Timing) (clean : Clean plan) (stays : UnitPlan → Bool) (delays : List (Option Delay))
    (asks : AsksOfBus plan timing stays delays)
    (s : Schedule) (controllers : Controllers) (planned : ℕ → Bool) (sent : FrameSources) (held : Held) (legal : IsLegalInAnyOrder s controllers)
    (keeps : KeepsToPlan plan timing s planned sent held) (queues : KeepsQueues plan timing s controllers planned sent)
    (turns : KeepsTurns s planned sent held) (sends : AreSentWhole timing s planned sent)
    (takes : TakeTurns sent.broadcasts (whole_from timing s planned sent sends))
    (u m : ℕ) (below : m < sent.broadcasts.count u) where
  abbrev b : Broadcasts
  b = sent.broadcasts

  abbrev its_message : (n : ℕ) → n < b.count u → IsMessageToAll plan timing b u n
  its_message = keeps.broadcasts.messages u

  abbrev one : IsMessageToAll plan timing b u m
  one = its_message m below

  abbrev its : Broadcast
  its = its_broadcast plan timing stays b u m one

  flow_at : (n : ℕ) (inside : n < b.count u) → b.flow u n ≡ b.flow u m → (its_message n inside).flow ≡ one.flow
  flow_at n inside its_flow = same_Some _ _ (sym (its_message n inside).its ∙ (ap (slice_get plan.flows.items) its_flow ∙ one.its))

  pace_at : (n : ℕ) (inside : n < b.count u) → b.flow u n ≡ b.flow u m → (its_message n inside).pace ≡ one.pace
  pace_at n inside its_flow =
      same_Some _ _ (sym (its_message n inside).paced ∙ (ap (λ (x : FlowPlan). x.pace) (flow_at n inside its_flow) ∙ one.paced))

  abbrev jitter : ℕ
  jitter = bits_at_most timing one.pace.jitter

  late_at : (n : ℕ) (inside : n < b.count u) → b.flow u n ≡ b.flow u m → b.wanted u n ≤ b.release u n + jitter
  late_at n inside its_flow = within_bits timing one.pace.jitter (b.release u n) (b.wanted u n)
      (subst (λ (x : Pace). IsWithinUnitMs timing x.jitter (b.release u n) (b.wanted u n)) (pace_at n inside its_flow) (its_message n inside).jitter_at_most)

  module _ (buffering : Buffering) (is_buffering : IsBuffering timing (unplanned_end plan) (frames_asked (asked_of timing plan stays)) buffering) (turn : Turn)
      (has : HasTurn timing (asked_of timing plan stays) buffering u turn) (up : keeps_up its turn ≡ true)
      (seen : b.release u m + (jitter + turn.time) < s.now) where
    abbrev InTime : Type 0
    InTime = whole_from timing s planned sent sends u m ≤ b.release u m + (jitter + turn.time)

    by_askers : (k : ℕ) → askers_of plan.requests.items one.flow ≡ k → InTime
    by_askers zero none =
        flow_ends plan timing clean stays delays asks s controllers planned sent held legal keeps queues turns sends u buffering is_buffering turn has takes
        (b.flow u m) jitter (bits_at_least timing one.pace.period) (b.release u) (unasked_inside its turn none up) late_at
        (λ l n first inside its_flow other_flow.
        let other = its_message l (omega (arith, first, inside)) in
        behind_bits timing one.pace.period (b.release u l) (b.release u n)
        (keeps.broadcasts.apart u l n one.pace.period (first, inside, its_flow ∙ sym other_flow)
        (record {
          flow = other.flow;
          its = other.its;
          pace = other.pace;
          paced = other.paced;
          is = ap (λ (x : Pace). x.period) (pace_at l (omega (arith, first, inside)) its_flow);
          unasked = unasked_where_none plan.requests.items other.flow
              (ap (askers_of plan.requests.items) (flow_at l (omega (arith, first, inside)) its_flow) ∙ none);
        })))
        (suc m) m (omega arith) below refl seen
    by_askers (suc k) some =
        let (single, inside_period) = asked_inside its turn k some up in
        let late : its.late ≡ bits_at_most timing (answered_within one.pace) = ap (late_for timing one.pace) some in
        let is_asked = asked_where_some plan.requests.items one.flow one.pace k one.paced some in
        let size : length (asking_periods plan.requests.items one.flow) ≡ 1 = sym (some_askers plan.requests.items one.flow is_asked) ∙ single in
        let kept = keeps.answers.messages u (b.flow u m) (record { flow = one.flow; its = one.its; pace = one.pace; paced = one.paced; answers = is_asked }) in
        let wanted_now = late_at m below refl in
        let ended : whole_from timing s planned sent sends u m ≤ b.wanted u m + (0 + turn.time) =
        flow_ends plan timing clean stays delays asks s controllers planned sent held legal keeps queues turns sends u buffering is_buffering turn has takes
        (b.flow u m) 0 (bits_at_least timing one.pace.period - bits_at_most timing (answered_within one.pace)) (b.wanted u)
        (omega (arith, inside_period, late)) (λ n inside its_flow. omega arith)
        (wanted_apart plan timing one.flow (b.count u) (b.flow u) (b.flow u m) (b.wanted u) one.pace one.paced (keeps.answers.of_message u) kept is_asked size
        (λ l n less inside its_flow other_flow.
        let waits = keeps.broadcasts.one_waits u l n (less, inside, its_flow ∙ sym other_flow) in
        let first = (its_message l (omega (arith, less, inside))).wanted_first in
        omega (arith, waits, first)))
        (suc m) m (omega arith) below refl (omega (arith, wanted_now, seen)) in
        omega (arith, ended, wanted_now)

    in_time : InTime
    in_time = by_askers (askers_of plan.requests.items one.flow) refl

-- ---- plans

module _ (plan : Plan) (timing : Timing) (clean : Clean plan) (stays : UnitPlan → Bool) (delays : List (Option Delay))
    (asks : AsksOfBus plan timing stays delays)
    (none : load_findings timing (total_load timing (asked_of timing plan stays)) delays ≡ []) where
  each_in_time : AreEachInTime plan timing
  each_in_time s controllers planned sent held legal keeps queues turns sends takes u m flow pace limit below flow_is paced written seen =
      let b = sent.broadcasts in
      let one = keeps.broadcasts.messages u m below in
      let same_flow : one.flow ≡ flow = same_Some _ _ (sym one.its ∙ flow_is) in
      let same_pace : one.pace ≡ pace = same_Some _ _ (sym one.paced ∙ (ap (λ (x : FlowPlan). x.pace) same_flow ∙ paced)) in
      let deadline : (its_broadcast plan timing stays b u m one).deadline ≡ Some (bits_inside timing limit) =
      ap (option_map (bits_inside timing)) (ap (λ (x : Pace). x.deadline) same_pace ∙ written) in
      let its_load : FlowLoad = load plan timing stays (b.flow u m) one.flow one.pace one.group one.its one.paced one.of in
      let at = at_place plan timing stays (b.flow u m) one.flow one.pace one.group one.its one.paced one.of in
      let long = to_all_units plan timing stays b u m one in
      let (whole, bits, stated, each, within, is) = deadlines_kept plan timing stays delays asks none (b.flow u m) (bits_inside timing limit) its_load
      (its_broadcast plan timing stays b u m one) at long deadline in
      let same_load : is.load ≡ its_load = same_Some _ _ (same_Some _ _ (sym is.its ∙ at)) in
      let same_broadcast : is.broadcast ≡ its_broadcast plan timing stays b u m one =
      same_to_all is.broadcast (its_broadcast plan timing stays b u m one) (sym is.long ∙ (ap (λ (l : FlowLoad). l.messages) same_load ∙ long)) in
      let up = subst (λ (x : Broadcast). KeepsUp timing (asked_of timing plan stays) is.buffering x bits) same_broadcast
      (keeps_up_by timing (asked_of timing plan stays) is.buffering is.broadcast whole bits is.time.0 is.time.1 is.time.2 is.stated each) in
      let turn_is : IsTurn timing (asked_of timing plan stays) is.buffering u (Some up.turn) =
      subst (λ (v : ℕ). IsTurn timing (asked_of timing plan stays) is.buffering v (Some up.turn)) one.from up.is in
      let has = has_turn timing (asked_of timing plan stays) is.buffering u up.turn (get_or (asked_of timing plan stays).units u None) refl turn_is in
      let release_seen = before_bits timing limit (b.release u m) s.now seen in
      let sum = up.sum in
      let ended = in_time plan timing clean stays delays asks s controllers planned sent held legal keeps queues turns sends takes u m below is.buffering is.is
      up.turn has up.up (omega (arith, release_seen, sum, within)) in
      in_ms timing limit (b.release u m) (whole_from timing s planned sent sends u m) (omega (arith, ended, sum, within))
    where
      same_to_all : (x y : Broadcast) → ToAll x ≡ ToAll y → x ≡ y
      same_to_all x y same = cc

pub kept_deadlines : (plan : Plan) (timing : Timing) → Clean plan → AreLoadFindings plan (Some timing) [] → AreEachInTime plan timing
kept_deadlines plan timing clean (stays, delays, asks, none) = each_in_time plan timing clean stays delays asks
    (none_of_two (load_findings timing (total_load timing (asked_of timing plan stays)) delays)
    (further_findings plan timing delays) (sym none)).0
