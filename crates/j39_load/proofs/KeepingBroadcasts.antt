-- On a bus that keeps to a plan in the plan's own words each unit queues no more frames of long messages to all than its flows want.
use Rattle.std.proofs.Common.{◌≡◌, ℕ, zero, suc, ◌+◌, ◌*◌, ◌<◌, ◌≤◌, ◌⊎◌, max, Bool, true, false, ◌&&◌, eqb, leb, ltb, cond, List, [], ◌∷◌, length, get_or, map}
use Rattle.std.proofs.Common.{All}
use Rattle.std.proofs.Common.{Option, Some, None, IfSome}
use Rattle.std.proofs.Common.{refl, sym, ap, ◌∙◌, subst, inl, inr, arith}
use Rattle.std.proofs.lemmas.Bool.{and_parts, cases_Bool, cases_lt, eq-eqb, eqb-true}
use Rattle.std.proofs.lemmas.List.{get_or-map, get_or_append_left, get_or_past, length-map}
use Rattle.std.proofs.lemmas.List.Elements.{All-append, All-head, All-map, All-tail}
use Rattle.std.proofs.lemmas.Option.{none-some, same_Some, slice_get_within}
use Rattle.std.specs.Int.{div_ceil}
use Rattle.std.specs.List.{cons_option, slice_get}
use Rattle.std.specs.Option.{option_and_then}
use Rattle.j39_id.specs.Limits.{unit_limit}
use Rattle.j39_network.specs.declared.plan.Plan.{Plan}
use Rattle.j39_network.specs.declared.plan.flow_plan.FlowPlan.{FlowPlan}
use Rattle.j39_network.specs.declared.plan.pace.Pace.{Pace}
use Rattle.j39_network.specs.declared.plan.timing.Timing.{Timing}
use Rattle.j39_network.specs.declared.plan.unit_plan.UnitPlan.{UnitPlan}
use Rattle.j39_load.specs.declared.frames.broadcast.Broadcast.{Broadcast}
use Rattle.j39_load.specs.declared.frames.flow_frames.FlowFrames.{FlowFrames}
use Rattle.j39_load.specs.Asked.{frames_asked, own_frames, wanting}
use Rattle.j39_load.specs.Damage.{damage_frames, damage_streams, first_of_all}
use Rattle.j39_load.specs.declared.frames.broadcast.BroadcastPart.TheVariants.{Announcements, Packets}
use Rattle.j39_load.specs.Demands.{announcements_demand, demand_by, demands_of, most_packets, packets_demand, want_of, wanted_by, wanted_from, wants_of}
use Rattle.j39_load.specs.Loads.{bits_at_least, bits_at_most}
use Rattle.j39_load.specs.AnswerStreams.{answered_within, askers_of, late_for}
use Rattle.j39_load.specs.AskedFlows.{asking_periods, is_answering}
use Rattle.j39_load.specs.AskingTimes.{bit_parts, ms_parts, requesters_each}
use Rattle.j39_load.specs.KeepsAnswers.{AnswerRequests, IsAnswering, IsFrameOfFlow, IsOfFlow, KeepsAnswers, answered_in}
use Rattle.j39_load.specs.KeepsBroadcasts.{IsMessageToAll, KeepsBroadcasts}
use Rattle.j39_load.specs.KeepsPlan.{source_place, source_turn}
use Rattle.j39_load.specs.SentFrames.{Broadcasts, FrameSources, Held, IsFrameOf, Source, Single, First, InSession, Asking, Announcing, Carrying}
use Rattle.j39_load.proofs.AskedPlaces.{flow_read}
use Rattle.j39_load.proofs.EachFrames.{each_fits}
use Rattle.j39_load.proofs.KnownFrames.{IsAskedBy, IsPaced}
use Rattle.j39_load.proofs.AnswerTimes.{period_in_parts}
use Rattle.j39_load.proofs.KeepingAnswers.{answered, are_answers, asked_where_some, narrowed, no_oftener, some_askers, some_bit, unasked_where_none}
use Rattle.j39_load.proofs.KeepingSources.{HasPace, of_announcements, of_packets, one_source}
use Rattle.j39_load.proofs.Milliseconds.{behind_bits, some_bits, within_bits}
use Rattle.j39_load.proofs.PlacedFrames.{all, asked, at_place, its_broadcast, load, to_all_units, traffic, unit_planned}
use Rattle.j39_load.proofs.StreamsBefore.{get_or_inside}
use Rattle.j39_load.proofs.WantedPlaces.{announcements_wanted, at_spot, most_at_spot, one_spot, packets_wanted, spot}
use Rattle.j39_timing.specs.FrameStreams.{Origins}
use Rattle.j39_timing.specs.Messages.{IsOf}
use Rattle.j39_timing.specs.TimedFrames.{Schedule}
use Rattle.j39_timing.specs.Sums.{total}
use Rattle.j39_timing.specs.Traffic.{AreAsWanted, queuings_in, releases_in}
use Rattle.j39_timing.specs.Waits.{Demand, askers_want, demand_of, frames_of_want, frames_wanted, of_sender}
use Rattle.j39_timing.specs.declared.stream.Stream.{Stream}
use Rattle.j39_timing.specs.declared.stream.WantedBy.{WantedBy}
use Rattle.j39_timing.specs.declared.stream.WantedBy.TheVariants.{Sender}
use Rattle.j39_timing.specs.declared.wants.Want.{Want}
use Rattle.j39_timing.specs.WantedMessages.{AreAnnouncements, AreFramesOfMessages, AreReleasedApart, AreWantedInTurn, HasLongest, HavePeriods, UnitMessages}
use Rattle.j39_timing.specs.WantedMessages.{nothing}
use Rattle.j39_timing.specs.WantedMessages.{WantNoMore, want_at, wanted_in}
use Rattle.j39_timing.proofs.Answering.{frames_answer, messages_answer}
use Rattle.j39_timing.proofs.AskedFrames.{announcements_asked, apart_want_no_more, packets_asked}
use Rattle.j39_timing.proofs.Demands.{no_demand, spaced_unwanted}

-- ---- messages of a unit are wanted after a period only

pub record IsTimed (timing : Timing) (b : Broadcast) : Type 0 where
  pub apart : b.apart ≡ bits_at_least timing b.period
  pub period : 1 ≤ b.period

module _ (timing : Timing) where
  abbrev WantsTimed : FlowFrames → Type 0
  WantsTimed x = IfSome x.want (IsTimed timing)

  all_timed : (plan : Plan) (stays : UnitPlan → Bool) → All (λ (o : Option FlowFrames). IfSome o WantsTimed) (all plan timing stays)
  all_timed plan stays = All-append (λ (o : Option FlowFrames). IfSome o WantsTimed) (frames_asked (asked plan timing stays)) (damage_frames timing)
      (each_fits timing plan stays WantsTimed (λ flow pace group askers. tt) (λ flow v pace packets askers. tt) (λ pgn u gaps place. tt)
      (λ flow pace group askers. record { apart = refl; period = pace.period_positive }) (λ request period. tt))
      (All-map (λ (o : Option FlowFrames). IfSome o WantsTimed) first_of_all (damage_streams timing) (λ k d below. tt))

  wants_timed : (u : ℕ) (xs : List (Option FlowFrames)) → All (λ (o : Option FlowFrames). IfSome o WantsTimed) xs → (k : ℕ) (d : Broadcast)
      → k < length (wants_of xs u)
      → IsTimed timing (get_or (wants_of xs u) k d)
  wants_timed u [] each k d below = absurd (omega (arith, below))
  wants_timed u (x ∷ xs) each k d below = go (wanted_by u x) (of_one x (All-head (λ (o : Option FlowFrames). IfSome o WantsTimed) x xs each))
      (wants_timed u xs (All-tail (λ (o : Option FlowFrames). IfSome o WantsTimed) x xs each)) k below
    where
      by_sender : (b : Broadcast) (is : Bool) → IsTimed timing b → IfSome (cond is (Some b) None) (IsTimed timing)
      by_sender b true timed = timed
      by_sender b false timed = tt

      of_want : (want : Option Broadcast) → IfSome want (IsTimed timing) → IfSome (wanted_from u want) (IsTimed timing)
      of_want None timed = tt
      of_want (Some b) timed = by_sender b (eqb b.sender u) timed

      of_one : (o : Option FlowFrames) → IfSome o WantsTimed → IfSome (wanted_by u o) (IsTimed timing)
      of_one None timed = tt
      of_one (Some frames) timed = of_want frames.want timed

      go : (o : Option Broadcast) → IfSome o (IsTimed timing)
          → ((k : ℕ) (d : Broadcast) → k < length (wants_of xs u) → IsTimed timing (get_or (wants_of xs u) k d))
          → (k : ℕ) → k < length (cons_option o (wants_of xs u)) → IsTimed timing (get_or (cons_option o (wants_of xs u)) k d)
      go None timed rest k below = rest k d below
      go (Some b) timed rest zero below = timed
      go (Some b) timed rest (suc k) below = rest k d (omega (arith, below))

  -- what is wanted of a unit in a plan
  pub each_timed : (plan : Plan) (stays : UnitPlan → Bool) (u : ℕ) → All (IsTimed timing) (wants_of (all plan timing stays) u)
  each_timed plan stays u k d below = wants_timed u (all plan timing stays) (all_timed plan stays) k d below

-- where something is counted something counts
one_counts : (n : ℕ) (counts : ℕ → Bool) → 0 < total n (λ p. cond (counts p) 1 0) → (p : ℕ) × (p < n) × (counts p ≡ true)
unfolding total
one_counts zero counts some = absurd (omega (arith, some))
one_counts (suc n) counts some = elim (cases_Bool (counts n)) [
  | inl is ↦ (n, omega arith, is)
  | inr isnt ↦
      let rest : 0 < total n (λ p. cond (counts p) 1 0) + 0 = subst (λ (x : Bool). 0 < total n (λ p. cond (counts p) 1 0) + cond x 1 0) isnt some in
      let before : 0 < total n (λ p. cond (counts p) 1 0) = omega (arith, rest) in
      let (p, below, is) = one_counts n counts before in (p, omega (arith, below), is)
]

-- what a frame is of a unit's messages
abbrev pub message_of : Source → ℕ
message_of (Single f) = 0
message_of (First f) = 0
message_of (InSession f part) = 0
message_of (Asking r) = 0
message_of (Announcing u m) = m
message_of (Carrying u m k) = m

abbrev number_of : Source → ℕ
number_of (Single f) = 0
number_of (First f) = 0
number_of (InSession f part) = 0
number_of (Asking r) = 0
number_of (Announcing u m) = 0
number_of (Carrying u m k) = k

-- a frame of a schedule is one of another one, with its place and release, and is queued with it
pub record IsCopy (plan : Plan) (s : Schedule) (planned : ℕ → Bool) (sent : FrameSources) (w : Schedule) (of : Origins) (p : ℕ) : Type 0 where
  pub below : p < s.count
  pub is : planned p ≡ true
  pub place : of.source p ≡ source_place plan (sent.source p)
  pub since : of.since p ≡ sent.release p
  pub queued : w.queued p ≡ s.queued p

module _ (plan : Plan) (timing : Timing) (stays : UnitPlan → Bool) (s : Schedule) (planned : ℕ → Bool) (sent : FrameSources) (held : Held)
    (frames : (p : ℕ) → p < s.count → planned p ≡ true → IsFrameOf plan timing s held sent.broadcasts (sent.source p) (sent.release p) p)
    (keeps : KeepsBroadcasts plan timing s planned sent) (answers : KeepsAnswers plan timing s planned sent) where
  abbrev b : Broadcasts
  b = sent.broadcasts

  abbrev whole : List (Option FlowFrames)
  whole = all plan timing stays

  -- ---- what is wanted

  -- of each message of a unit's flows
  abbrev pub demand : ℕ → (Broadcast → Want) → ℕ → Demand
  demand u want under_way = record { under_way = under_way; wants = map want (wants_of whole u) }

  module _ (u m : ℕ) (below : m < b.count u) where
    abbrev one : IsMessageToAll plan timing b u m
    one = keeps.messages u m below

    abbrev pub its : Broadcast
    its = its_broadcast plan timing stays b u m one

    wanted : wanted_by u (get_or whole (b.flow u m) None) ≡ Some its
    wanted =
        let first : get_or (frames_asked (asked plan timing stays)) (b.flow u m) None ≡ Some (wanting its) =
        flow_read (asked plan timing stays).flows (asked plan timing stays).units (asked plan timing stays).requests (b.flow u m)
        (load plan timing stays (b.flow u m) one.flow one.pace one.group one.its one.paced one.of) (wanting its)
        (at_place plan timing stays (b.flow u m) one.flow one.pace one.group one.its one.paced one.of)
        (ap own_frames (to_all_units plan timing stays b u m one)) in
        let there : get_or whole (b.flow u m) None ≡ Some (wanting its) =
        get_or_append_left (frames_asked (asked plan timing stays)) (damage_frames timing) None (b.flow u m)
        (get_or_inside (frames_asked (asked plan timing stays)) (b.flow u m) (wanting its) first) ∙ first in
        let sender : wanted_by u (Some (wanting its)) ≡ Some its = rw (eq-eqb one.flow.sender u one.from) refl in
        ap (wanted_by u) there ∙ sender

    place_wanted : (spot u whole (b.flow u m) < length (wants_of whole u)) × (get_or (wants_of whole u) (spot u whole (b.flow u m)) its ≡ its)
    place_wanted = at_spot u whole (b.flow u m) its its wanted

    want_is : (want : Broadcast → Want) (under_way : ℕ) → want_at (demand u want under_way) (spot u whole (b.flow u m)) ≡ want its
    want_is want under_way =
        get_or-map want (wants_of whole u) (spot u whole (b.flow u m)) its nothing place_wanted.0
        ∙ ap want place_wanted.1

    few_packets : b.packets u m ≤ its.packets
    few_packets = let longest = one.longest in omega (arith, longest)

  abbrev unit_messages : ℕ → UnitMessages
  unit_messages u = record {
    count = b.count u;
    flow = λ m. spot u whole (b.flow u m);
    release = b.release u;
    wanted = b.wanted u;
    announced = b.announced u;
    message = λ p. message_of (sent.source p);
    place = λ p. number_of (sent.source p);
  }

  -- one that wants nothing
  abbrev blank : Broadcast
  blank = record { sender = 0; packets = 0; least_packets = 0; has_short = false; period = 0; apart = 1; jitter = 0; late = 0; askers = 0; deadline = None }

  -- whatever frames are wanted of a message, it is wanted when its flow wants it
  module _ (u : ℕ) (want : Broadcast → Want) (under_way : ℕ) (its_period : (broadcast : Broadcast) → (want broadcast).period ≡ broadcast.apart)
      (its_jitter : (broadcast : Broadcast) → (want broadcast).jitter ≡ broadcast.late)
      (its_more : (broadcast : Broadcast) → max 1 broadcast.askers ≤ (want broadcast).more) where
    abbrev bs : List Broadcast
    bs = wants_of whole u

    periods : HavePeriods (demand u want under_way)
    periods f = elim (cases_lt f (length bs)) [
      | inl below ↦
          let its = each_timed timing plan stays u f blank below in
          let apart = its.apart in
          let some = some_bits timing (get_or bs f blank).period its.period in
          let is = ap (λ (w : Want). w.period) (get_or-map want bs f blank nothing below) in
          let period = its_period (get_or bs f blank) in
          omega (arith, apart, some, is, period)
      | inr past ↦
          let size = length-map bs want in
          let is = ap (λ (w : Want). w.period) (get_or_past (map want bs) f nothing (omega (arith, past, size))) in
          omega (arith, is)
    ]

    some_more : (f : ℕ) → 1 ≤ (want_at (demand u want under_way) f).more
    some_more f = elim (cases_lt f (length bs)) [
      | inl below ↦
          let is = ap (λ (w : Want). w.more) (get_or-map want bs f blank nothing below) in
          let more = its_more (get_or bs f blank) in
          omega (arith, is, more)
      | inr past ↦
          let size = length-map bs want in
          let is = ap (λ (w : Want). w.more) (get_or_past (map want bs) f nothing (omega (arith, past, size))) in
          omega (arith, is)
    ]

    -- how many requests ask for a message's flow
    abbrev askers_at : (m : ℕ) → m < b.count u → ℕ
    askers_at m below = askers_of plan.requests.items (one u m below).flow

    -- two messages of one place are of one flow
    one_flow : (m n : ℕ) (in_m : m < b.count u) (in_n : n < b.count u) → spot u whole (b.flow u m) ≡ spot u whole (b.flow u n) → b.flow u m ≡ b.flow u n
    one_flow m n in_m in_n same = one_spot u whole (b.flow u m) (b.flow u n) (its u m in_m) (its u n in_n) (wanted u m in_m) (wanted u n in_n) same

    same_flow : (m n : ℕ) (in_m : m < b.count u) (in_n : n < b.count u) → b.flow u m ≡ b.flow u n → (one u m in_m).flow ≡ (one u n in_n).flow
    same_flow m n in_m in_n same = same_Some _ _ (sym (one u m in_m).its ∙ (ap (slice_get plan.flows.items) same ∙ (one u n in_n).its))

    -- of a flow for which nobody asks
    released : (f l : ℕ) (in_l : l < b.count u) → spot u whole (b.flow u l) ≡ f → askers_at l in_l ≡ 0
        → AreReleasedApart (demand u want under_way) (unit_messages u) f
    released f l in_l its_f none = record {
      apart = λ m n pair at.
          let (less, below, same) = pair in
          let first : m < b.count u = omega (arith, less, below) in
          let flow : b.flow u m ≡ b.flow u n = one_flow m n first below same in
          let second = one u n below in
          let far = keeps.apart u m n second.pace.period (less, below, flow) (record {
            flow = second.flow;
            its = ap (slice_get plan.flows.items) flow ∙ second.its;
            pace = second.pace;
            paced = second.paced;
            is = refl;
            unasked = unasked_where_none plan.requests.items second.flow (unasked n below at);
          }) in
          let bits = behind_bits timing second.pace.period (b.release u m) (b.release u n) far in
          let period = ap (λ (w : Want). w.period) (ap (want_at (demand u want under_way)) (sym at) ∙ want_is u n below want under_way) in
          let same = its_period (its u n below) in
          omega (arith, bits, period, same);
      release_first = λ m below at. (one u m below).release_first;
      jitter_at_most = λ m below at.
          let bits = within_bits timing (one u m below).pace.jitter (b.release u m) (b.wanted u m) (one u m below).jitter_at_most in
          let late = ap (λ (w : Want). w.jitter) (ap (want_at (demand u want under_way)) (sym at) ∙ want_is u m below want under_way) in
          let same = its_jitter (its u m below) in
          let jitter = ap (late_for timing (one u m below).pace) (unasked m below at) in
          omega (arith, bits, late, same, jitter);
    }
      where
        unasked : (m : ℕ) (below : m < b.count u) → spot u whole (b.flow u m) ≡ f → askers_at m below ≡ 0
        unasked m below at = ap (askers_of plan.requests.items) (same_flow m l below in_l (one_flow m l below in_l (at ∙ sym its_f))) ∙ none

    -- and of one that comes only as an answer
    module _ (f l : ℕ) (in_l : l < b.count u) (its_f : spot u whole (b.flow u l) ≡ f) (k : ℕ) (some : askers_at l in_l ≡ suc k) where
      abbrev first : IsMessageToAll plan timing b u l
      first = one u l in_l

      is_asked : is_answering plan.requests.items first.flow ≡ true
      is_asked = asked_where_some plan.requests.items first.flow first.pace k first.paced some

      abbrev answering : IsAnswering plan (b.flow u l)
      answering = record { flow = first.flow; its = first.its; pace = first.pace; paced = first.paced; answers = is_asked }

      abbrev Is : ℕ → Type 0
      Is m = (m < b.count u) × (spot u whole (b.flow u m) ≡ f)

      kept : AnswerRequests plan timing first.flow Is (λ m n. Unit {0}) (λ m. answered_within first.pace) (b.wanted u) (answers.of_message u)
      kept = narrowed plan timing first.flow (λ m. (m < b.count u) × (b.flow u m ≡ b.flow u l)) Is (λ m n. Unit {0}) (λ m. answered_within first.pace)
          (b.wanted u) (b.wanted u) (answers.of_message u) (λ m is. (is.0, one_flow m l is.0 in_l (is.1 ∙ sym its_f))) (λ m is. refl)
          (answers.messages u (b.flow u l) answering)

      want_here : want_at (demand u want under_way) f ≡ want (its u l in_l)
      want_here = ap (want_at (demand u want under_way)) (sym its_f) ∙ want_is u l in_l want under_way

      abbrev late : ℕ
      late = (want_at (demand u want under_way) f).jitter

      late_is : late ≡ bits_at_most timing (answered_within first.pace)
      late_is = ap (λ (w : Want). w.jitter) want_here ∙ (its_jitter (its u l in_l) ∙ ap (late_for timing first.pace) some)

      want_no_more : WantNoMore (demand u want under_way) (unit_messages u) f
      want_no_more =
          let period : (want_at (demand u want under_way) f).period ≡ bits_at_least timing first.pace.period =
          ap (λ (w : Want). w.period) want_here ∙ its_period (its u l in_l) in
          let positive = some_bits timing first.pace.period first.pace.period_positive in
          let paced = period_in_parts timing first.pace.period in
          let more = ap (λ (w : Want). w.more) want_here in
          let few = its_more (its u l in_l) in
          let size = some_askers plan.requests.items first.flow is_asked in
          messages_answer (demand u want under_way) (unit_messages u) f (ms_parts timing first.pace.period)
          (requesters_each timing (asking_periods plan.requests.items first.flow))
          (answered plan timing first.flow Is (λ m n. Unit {0}) (λ m. answered_within first.pace) (b.wanted u) (answers.of_message u) kept (λ m. 0))
          (some_bit timing)
          (no_oftener plan timing first.flow Is (λ m n. Unit {0}) (λ m. answered_within first.pace) (b.wanted u)
          (answers.of_message u) kept first.pace first.paced
          is_asked l (in_l, its_f))
          (omega (arith, period, positive))
          (subst (λ (x : ℕ). x * bit_parts timing ≤ ms_parts timing first.pace.period) (sym period) paced)
          (omega (arith, more, few)) (omega (arith, more, few, size))
          (are_answers plan timing first.flow Is (λ m n. Unit {0}) (λ m. answered_within first.pace) (b.wanted u) (answers.of_message u) kept (λ m. 0) late 1
          (λ m is.
          let bits = within_bits timing (answered_within first.pace) (answers.of_message u m).moment (b.wanted u m) (kept.in_time m is) in
          let same = late_is in
          omega (arith, bits, same))
          (λ m is. omega arith) (λ m n is_m is_n same. tt))

    -- of each
    few_wanted : (f : ℕ) → WantNoMore (demand u want under_way) (unit_messages u) f
    few_wanted f t span = elim (cases_lt 0 (wanted_in (unit_messages u) f t span)) [
      | inr none ↦ let some = some_more f in omega (arith, none, some)
      | inl some ↦
          let (l, in_l, counted) = one_counts (b.count u) (λ m. eqb (spot u whole (b.flow u m)) f
          && (leb t (b.wanted u m) && ltb (b.wanted u m) (t + span))) some in
          let its_f = eqb-true (spot u whole (b.flow u l)) f
          (and_parts (eqb (spot u whole (b.flow u l)) f) (leb t (b.wanted u l) && ltb (b.wanted u l) (t + span)) counted).0 in
          by_askers l in_l its_f (askers_at l in_l) refl
    ]
      where
        by_askers : (l : ℕ) (in_l : l < b.count u) → spot u whole (b.flow u l) ≡ f → (k : ℕ) → askers_at l in_l ≡ k
            → wanted_in (unit_messages u) f t span + 1 ≤ div_ceil (span + (want_at (demand u want under_way) f).jitter)
            (want_at (demand u want under_way) f).period
            + (want_at (demand u want under_way) f).more
        by_askers l in_l its_f zero none =
            apart_want_no_more (demand u want under_way) (unit_messages u) f (released f l in_l its_f none) periods (some_more f) t span
        by_askers l in_l its_f (suc k) some = want_no_more f l in_l its_f k some t span

    in_turn : AreWantedInTurn (demand u want under_way) (unit_messages u)
    in_turn = record {
      flows = λ m below. let (inside, is) = place_wanted u m below in let size = length-map bs want in omega (arith, inside, size);
      few = few_wanted;
      wanted_first = λ m below. (one u m below).wanted_first;
      one_waits = λ m n pair.
          let (less, below, same) = pair in
          let first : m < b.count u = omega (arith, less, below) in
          let flow : b.flow u m ≡ b.flow u n =
          one_spot u whole (b.flow u m) (b.flow u n) (its u m first) (its u n below) (wanted u m first) (wanted u n below) same in
          keeps.one_waits u m n (less, below, flow);
    }

  longest : (u : ℕ) → HasLongest (demand_by Packets (wants_of whole u))
  longest u f = elim (cases_lt f (length (wants_of whole u))) [
    | inl below ↦
        let most = most_at_spot u (wants_of whole u) f blank below in
        let is = ap (λ (w : Want). w.frames) (get_or-map (want_of Packets) (wants_of whole u) f blank nothing below) in
        omega (arith, most, is)
    | inr past ↦
        let size = length-map (wants_of whole u) (want_of Packets) in
        let is = ap (λ (w : Want). w.frames) (get_or_past (map (want_of Packets) (wants_of whole u)) f nothing (omega (arith, past, size))) in
        omega (arith, is)
  ]

  -- ---- frames of a schedule in which these are

  module _ (w : Schedule) (plans : ℕ → Bool) (of : Origins)
      (copies : (p : ℕ) → p < w.count → plans p ≡ true
      → ((traffic plan timing stays).stream (of.source p)).wanted ≡ None ⊎ IsCopy plan s planned sent w of p) where
    -- one of a unit's packets
    record IsPacket (u p : ℕ) : Type 0 where
      pub copy : IsCopy plan s planned sent w of p
      pub message : ℕ
      pub number : ℕ
      pub source : sent.source p ≡ Carrying u message number
      pub known : message < b.count u
      pub few : number < b.packets u message
      pub queued : s.queued p ≡ of.since p

    pub record IsAnnouncement (u p : ℕ) : Type 0 where
      pub copy : IsCopy plan s planned sent w of p
      pub message : ℕ
      pub source : sent.source p ≡ Announcing u message
      pub known : message < b.count u
      pub queued : s.queued p ≡ of.since p

    wanted_none : (j : ℕ) (k : WantedBy) → ((traffic plan timing stays).stream j).wanted ≡ Some k → ((traffic plan timing stays).stream j).wanted ≡ None → ⊥
    wanted_none j k some none = none-some k (sym none ∙ some)

    packet : (u m k p : ℕ) → m < b.count u → ((traffic plan timing stays).stream (source_place plan (Carrying u m k))).wanted ≡ Some (Sender (packets_demand u))
        → IsOf w plans of (source_place plan (Carrying u m k)) p → IsPacket u p
    packet u m k p below some (in_p, is, place) = elim (copies p in_p is) [
      | inl none ↦ absurd (wanted_none (source_place plan (Carrying u m k)) (Sender (packets_demand u)) some
          (subst (λ (j : ℕ). ((traffic plan timing stays).stream j).wanted ≡ None) place none))
      | inr copy ↦
          let (n, j, source) = of_packets plan timing stays s held b keeps.messages (sent.source p) u m k (sent.release p) p (frames p copy.below copy.is) below
          (sym copy.place ∙ place) in
          let frame = subst (λ (x : Source). IsFrameOf plan timing s held b x (sent.release p) p) source (frames p copy.below copy.is) in
          record {
            copy = copy;
            message = n;
            number = j;
            source = source;
            known = frame.0.known;
            few = frame.1;
            queued = frame.0.at_once ∙ sym copy.since;
          }
    ]

    announcement : (u m p : ℕ) → m < b.count u
        → ((traffic plan timing stays).stream (source_place plan (Announcing u m))).wanted ≡ Some (Sender (announcements_demand u))
        → IsOf w plans of (source_place plan (Announcing u m)) p → IsAnnouncement u p
    announcement u m p below some (in_p, is, place) = elim (copies p in_p is) [
      | inl none ↦ absurd (wanted_none (source_place plan (Announcing u m)) (Sender (announcements_demand u)) some
          (subst (λ (j : ℕ). ((traffic plan timing stays).stream j).wanted ≡ None) place none))
      | inr copy ↦
          let (n, source) = of_announcements plan timing stays s held b keeps.messages (sent.source p) u m (sent.release p) p
          (frames p copy.below copy.is) below
          (sym copy.place ∙ place) in
          let frame = subst (λ (x : Source). IsFrameOf plan timing s held b x (sent.release p) p) source (frames p copy.below copy.is) in
          record { copy = copy; message = n; source = source; known = frame.known; queued = frame.at_once ∙ sym copy.since }
    ]

    packets_most : (u m k : ℕ) → m < b.count u → ((traffic plan timing stays).stream (source_place plan (Carrying u m k))).wanted ≡ Some
        (Sender (packets_demand u))
        → (t span : ℕ) → releases_in w plans of (source_place plan (Carrying u m k)) t span ≤ frames_wanted span (demand_by Packets (wants_of whole u))
    packets_most u m k below some t span =
        packets_asked w plans of (source_place plan (Carrying u m k)) (demand_by Packets (wants_of whole u)) (unit_messages u)
        (in_turn u (want_of Packets) most (λ x. refl) (λ x. refl) (λ x. omega arith)) are t span (longest u)
      where
        most : ℕ
        most = most_packets (wants_of whole u)

        are : AreFramesOfMessages w plans of (source_place plan (Carrying u m k)) (demand_by Packets (wants_of whole u)) (unit_messages u)
        are = record {
          known = λ p its. let x = packet u m k p below some its in
              subst (λ (y : Source). message_of y < b.count u) (sym x.source) x.known;
          behind = λ p its. let x = packet u m k p below some its in
              let first = keeps.behind p u x.message x.number x.copy.below x.copy.is x.source in
              let queued = x.queued in
              subst (λ (y : Source). b.announced u (message_of y) ≤ of.since p) (sym x.source) (omega (arith, first, queued));
          in_turn = λ p n its less last. let x = packet u m k p below some its in
              let before = keeps.before p u x.message x.number n x.copy.below x.copy.is x.source
              (subst (λ (y : Source). message_of y < n) x.source less) last in
              let queued = x.queued in
              omega (arith, before, queued);
          apart = λ p q its other message number.
              let x = packet u m k p below some its in
              let y = packet u m k q below some other in
              let messages : y.message ≡ x.message = sym (ap message_of y.source) ∙ (sym message ∙ ap message_of x.source) in
              let numbers : y.number ≡ x.number = sym (ap number_of y.source) ∙ (sym number ∙ ap number_of x.source) in
              keeps.carried p q u x.message x.number x.copy.below y.copy.below x.copy.is y.copy.is x.source
              (y.source ∙ (ap (λ (n : ℕ). Carrying u n y.number) messages ∙ ap (λ (n : ℕ). Carrying u x.message n) numbers));
          places = λ p its. let x = packet u m k p below some its in
              let frames = ap (λ (want : Want). want.frames) (want_is u x.message x.known (want_of Packets) most) in
              let few = x.few in
              let fewer = few_packets u x.message x.known in
              subst (λ (y : Source). number_of y < (want_at (demand_by Packets (wants_of whole u)) (spot u whole (b.flow u (message_of y)))).frames)
              (sym x.source)
              (omega (arith, frames, few, fewer));
        }

    -- of those announcements that count
    module _ (u m : ℕ) (want : Broadcast → Want) (its_period : (broadcast : Broadcast) → (want broadcast).period ≡ broadcast.apart)
        (its_jitter : (broadcast : Broadcast) → (want broadcast).jitter ≡ broadcast.late)
        (its_more : (broadcast : Broadcast) → max 1 broadcast.askers ≤ (want broadcast).more)
        (below : m < b.count u)
        (some : ((traffic plan timing stays).stream (source_place plan (Announcing u m))).wanted ≡ Some (Sender (announcements_demand u)))
        (one_wanted : (p : ℕ) (x : IsAnnouncement u p) → IsOf w plans of (source_place plan (Announcing u m)) p
        → 1 ≤ (want (its u x.message x.known)).frames) where
      pub announced_most : (t span : ℕ) → releases_in w plans of (source_place plan (Announcing u m)) t span ≤ frames_wanted span (demand u want 0)
      announced_most t span =
          announcements_asked w plans of (source_place plan (Announcing u m)) (demand u want 0) (unit_messages u)
          (in_turn u want 0 its_period its_jitter its_more) are t span at_once
        where
          announced_at : (p : ℕ) → IsOf w plans of (source_place plan (Announcing u m)) p → of.since p ≡ b.announced u (message_of (sent.source p))
          announced_at p its =
              let x = announcement u m p below some its in
              let first = keeps.announced p u x.message x.copy.below x.copy.is x.source in
              sym x.queued ∙ (first ∙ ap (λ (y : Source). b.announced u (message_of y)) (sym x.source))

          at_once : AreAnnouncements w plans of (source_place plan (Announcing u m)) (unit_messages u)
          at_once p its = announced_at p its

          are : AreFramesOfMessages w plans of (source_place plan (Announcing u m)) (demand u want 0) (unit_messages u)
          are = record {
            known = λ p its. let x = announcement u m p below some its in
                subst (λ (y : Source). message_of y < b.count u) (sym x.source) x.known;
            behind = λ p its. let at = announced_at p its in omega (arith, at);
            in_turn = λ p n its less last.
                let x = announcement u m p below some its in
                let at = announced_at p its in
                let message : message_of (sent.source p) ≡ x.message = ap message_of x.source in
                let gap = behind_bits timing (b.packets u x.message * timing.broadcast_gap) (b.announced u x.message) (b.announced u n)
                (keeps.in_turn u x.message n (subst (λ (y : ℕ). y < n) message less) last) in
                let there = ap (b.announced u) message in
                omega (arith, at, gap, there);
            apart = λ p q its other message number.
                let x = announcement u m p below some its in
                let y = announcement u m q below some other in
                let messages : y.message ≡ x.message = sym (ap message_of y.source) ∙ (sym message ∙ ap message_of x.source) in
                keeps.once p q u x.message x.copy.below y.copy.below x.copy.is y.copy.is x.source (y.source ∙ ap (λ (n : ℕ). Announcing u n) messages);
            places = λ p its. let x = announcement u m p below some its in
                let frames = ap (λ (x : Want). x.frames) (want_is u x.message x.known want 0) in
                let wanted_one = one_wanted p x its in
                subst (λ (y : Source). number_of y < (want_at (demand u want 0) (spot u whole (b.flow u (message_of y)))).frames) (sym x.source)
                (omega (arith, frames, wanted_one));
          }

    announcements_most : (u m : ℕ) → m < b.count u
        → ((traffic plan timing stays).stream (source_place plan (Announcing u m))).wanted ≡ Some (Sender (announcements_demand u))
        → (t span : ℕ) → releases_in w plans of (source_place plan (Announcing u m)) t span ≤ frames_wanted span (demand_by Announcements (wants_of whole u))
    announcements_most u m below some = announced_most u m (want_of Announcements) (λ x. refl) (λ x. refl) (λ x. omega arith) below some (λ p x is. omega arith)

    -- ---- all streams

    module _ (stated : (p : ℕ) → p < s.count → planned p ≡ true
        → IsPaced plan timing stays (sent.source p) ((traffic plan timing stays).stream (source_place plan (sent.source p)))) where
      abbrev stream : ℕ → Stream
      stream = (traffic plan timing stays).stream

      demand_none : (j : ℕ) (x : Demand) → (stream j).wanted ≡ None → demand_of (demands_of whole) (stream j) ≡ Some x → ⊥
      demand_none j x none is = none-some x (sym (no_demand (demands_of whole) (stream j) none) ∙ is)

      demand_stated : (j place : ℕ) (x y : Demand) → (stream j).wanted ≡ Some (Sender place) → slice_get (demands_of whole) place ≡ Some y
          → demand_of (demands_of whole) (stream j) ≡ Some x → y ≡ x
      demand_stated j place x y some at is = same_Some y x (sym at ∙ (sym (ap (option_and_then (of_sender (demands_of whole))) some) ∙ is))

      unit_few : (u m : ℕ) → m < b.count u → u < unit_limit
      unit_few u m below =
          let inside = unit_planned plan timing stays b u m (keeps.messages u m below) in
          let few = plan.unit_count in
          omega (arith, inside, few)

      of_source : (x : Source) (release p : ℕ) → IsFrameOf plan timing s held b x release p → IsPaced plan timing stays x (stream (source_place plan x))
          → (t span : ℕ) (demand : Demand) → demand_of (demands_of whole) (stream (source_place plan x)) ≡ Some demand
          → releases_in w plans of (source_place plan x) t span ≤ frames_wanted span demand
      of_source (Single f) release p frame paced t span demand is = absurd (none-some demand (sym (paced.unwanted (demands_of whole)) ∙ is))
      of_source (First f) release p frame paced t span demand is = absurd (none-some demand (sym (paced.unwanted (demands_of whole)) ∙ is))
      of_source (InSession f part) release p frame paced t span demand is = absurd (none-some demand (sym (paced.unwanted (demands_of whole)) ∙ is))
      of_source (Asking r) release p frame paced t span demand is = absurd (none-some demand (sym (paced.unwanted (demands_of whole)) ∙ is))
      of_source (Announcing u m) release p frame paced t span demand is =
          let some : (stream (source_place plan (Announcing u m))).wanted ≡ Some (Sender (announcements_demand u)) = ap (λ (x : Stream). x.wanted) paced in
          subst (λ (x : Demand). releases_in w plans of (source_place plan (Announcing u m)) t span ≤ frames_wanted span x)
          (demand_stated (source_place plan (Announcing u m)) (announcements_demand u) demand (demand_by Announcements (wants_of whole u)) some
          (announcements_wanted u whole (unit_few u m frame.known)) is)
          (announcements_most u m frame.known some t span)
      of_source (Carrying u m k) release p frame paced t span demand is =
          let some : (stream (source_place plan (Carrying u m k))).wanted ≡ Some (Sender (packets_demand u)) = ap (λ (x : Stream). x.wanted) paced in
          subst (λ (x : Demand). releases_in w plans of (source_place plan (Carrying u m k)) t span ≤ frames_wanted span x)
          (demand_stated (source_place plan (Carrying u m k)) (packets_demand u) demand (demand_by Packets (wants_of whole u)) some
          (packets_wanted u whole (unit_few u m frame.0.known)) is)
          (packets_most u m k frame.0.known some t span)

      -- ---- what comes only as an answer

      -- who asks for it
      asked_by : (x : Source) (stream_of : Stream) → IsPaced plan timing stays x stream_of → (want : Want) → askers_want stream_of ≡ Some want
          → IsAskedBy plan timing stays x stream_of want
      asked_by (Single f) stream_of paced want is = paced.asked want is
      asked_by (First f) stream_of paced want is = paced.asked want is
      asked_by (InSession f part) stream_of paced want is = paced.asked want is
      asked_by (Asking r) stream_of paced want is = paced.asked want is
      asked_by (Announcing u m) stream_of paced want is = absurd (none-some want (sym (ap askers_want paced) ∙ is))
      asked_by (Carrying u m k) stream_of paced want is = absurd (none-some want (sym (ap askers_want paced) ∙ is))

      flow_paced : (f : ℕ) (x : Source) → IsOfFlow f x → HasPace plan timing stays x
      flow_paced f (Single g) is = tt
      flow_paced f (First g) is = tt
      flow_paced f (InSession g part) is = tt
      flow_paced f (Asking r) is = absurd is
      flow_paced f (Announcing u m) is = absurd is
      flow_paced f (Carrying u m k) is = absurd is

      flow_place : (f : ℕ) (x : Source) → IsOfFlow f x → (source_place plan x ≡ f) ⊎ (source_place plan x ≡ length plan.flows.items + f)
      flow_place f (Single g) is = inl is
      flow_place f (First g) is = inr (ap (λ (k : ℕ). length plan.flows.items + k) is)
      flow_place f (InSession g part) is = inl is
      flow_place f (Asking r) is = absurd is
      flow_place f (Announcing u m) is = absurd is
      flow_place f (Carrying u m k) is = absurd is

      one_place : (f g : ℕ) (x y : Source) → IsOfFlow f x → IsOfFlow g y → f < length plan.flows.items → g < length plan.flows.items
          → source_place plan x ≡ source_place plan y → f ≡ g
      one_place f g x y of_f of_g in_f in_g same = elim (flow_place f x of_f) [
        | inl at_f ↦ elim (flow_place g y of_g) [
          | inl at_g ↦ omega (arith, at_f, at_g, same)
          | inr at_g ↦ omega (arith, at_f, at_g, same, in_f)
        ]
        | inr at_f ↦ elim (flow_place g y of_g) [
          | inl at_g ↦ omega (arith, at_f, at_g, same, in_g)
          | inr at_g ↦ omega (arith, at_f, at_g, same)
        ]
      ]

      module _ (j : ℕ) (want : Want) (is_wanted : askers_want (stream j) ≡ Some want) where
        -- each of its frames is one of them
        record IsAsked (q : ℕ) : Type 0 where
          pub copy : IsCopy plan s planned sent w of q
          pub there : source_place plan (sent.source q) ≡ j
          pub by : IsAskedBy plan timing stays (sent.source q) (stream j) want

        is_asked_for : (q : ℕ) → IsCopy plan s planned sent w of q → source_place plan (sent.source q) ≡ j → IsAsked q
        is_asked_for q copy there = record {
          copy = copy;
          there = there;
          by = subst (λ (k : ℕ). IsAskedBy plan timing stays (sent.source q) (stream k) want) there
              (asked_by (sent.source q) (stream (source_place plan (sent.source q))) (stated q copy.below copy.is) want
              (subst (λ (k : ℕ). askers_want (stream k) ≡ Some want) (sym there) is_wanted));
        }

        each_asked : (q : ℕ) → IsOf w plans of j q → IsAsked q
        each_asked q (in_q, is, place) = elim (copies q in_q is) [
          | inl none ↦ absurd (none-some want (sym (spaced_unwanted (stream j) (subst (λ (k : ℕ). (stream k).wanted ≡ None) place none)) ∙ is_wanted))
          | inr copy ↦ is_asked_for q copy (sym copy.place ∙ place)
        ]

        -- as one of them is
        module _ (p : ℕ) (x : IsAsked p) where
          abbrev flow : FlowPlan
          flow = x.by.answering.flow

          abbrev pace : Pace
          pace = x.by.answering.pace

          abbrev AreAlike : ℕ → ℕ → Type 0
          AreAlike m n = sent.source m ≡ sent.source n

          abbrev within : ℕ → ℕ
          within m = answered_in pace (sent.source m)

          of_its_flow : (q : ℕ) → IsOf w plans of j q → IsFrameOfFlow s planned sent x.by.place q
          of_its_flow q is =
              let y = each_asked q is in
              let in_x = slice_get_within plan.flows.items x.by.place x.by.answering.flow x.by.answering.its in
              let in_y = slice_get_within plan.flows.items y.by.place y.by.answering.flow y.by.answering.its in
              let one : y.by.place ≡ x.by.place =
              one_place y.by.place x.by.place (sent.source q) (sent.source p) y.by.of_flow x.by.of_flow in_y in_x (y.there ∙ sym x.there) in
              (y.copy.below, y.copy.is, subst (λ (f : ℕ). IsOfFlow f (sent.source q)) one y.by.of_flow)

          its_answers : AnswerRequests plan timing flow (IsOf w plans of j) AreAlike within w.queued answers.of_frame
          its_answers = narrowed plan timing flow (IsFrameOfFlow s planned sent x.by.place)
              (IsOf w plans of j) AreAlike within s.queued w.queued answers.of_frame
              of_its_flow (λ q is. (each_asked q is).copy.queued) (answers.frames x.by.place x.by.answering)

          abbrev turn_at : ℕ → ℕ
          turn_at q = source_turn plan (sent.source q)

          late_at_most : (q : ℕ) → IsOf w plans of j q → w.queued q ≤ (answers.of_frame q).moment + ((stream j).jitter + want.jitter)
          late_at_most q is =
              let y = each_asked q is in
              let bits = y.by.late (answers.of_frame q).moment (s.queued q)
              ((answers.frames y.by.place y.by.answering).in_time q (y.copy.below, y.copy.is, y.by.of_flow)) in
              let queued = y.copy.queued in
              omega (arith, bits, queued)

          alike : (m n : ℕ) → IsOf w plans of j m → IsOf w plans of j n → turn_at m ≡ turn_at n → sent.source m ≡ sent.source n
          alike m n is_m is_n turn =
              let y = each_asked m is_m in
              let z = each_asked n is_n in
              one_source plan timing stays s held b keeps.messages (sent.source m) (sent.source n) (sent.release m) (sent.release n) m n
              (flow_paced y.by.place (sent.source m) y.by.of_flow) (frames m y.copy.below y.copy.is) (frames n z.copy.below z.copy.is)
              (y.there ∙ sym z.there) turn

          answered_most : IsOf w plans of j p → (t span : ℕ) → queuings_in w plans of j t span ≤ frames_of_want (span + (stream j).jitter) want
          answered_most is =
              let period = x.by.period in
              let positive = some_bits timing pace.period pace.period_positive in
              frames_answer w plans of j (stream j).jitter (ms_parts timing pace.period) want (requesters_each timing (asking_periods plan.requests.items flow))
              (answered plan timing flow (IsOf w plans of j) AreAlike within w.queued answers.of_frame its_answers turn_at)
              (some_bit timing)
              (no_oftener plan timing flow
              (IsOf w plans of j) AreAlike within w.queued answers.of_frame its_answers pace x.by.answering.paced x.by.answering.answers p is)
              (omega (arith, period, positive))
              (subst (λ (y : ℕ). y * bit_parts timing ≤ ms_parts timing pace.period) (sym period) (period_in_parts timing pace.period))
              x.by.askers
              (are_answers plan timing flow (IsOf w plans of j) AreAlike within w.queued answers.of_frame its_answers turn_at
              ((stream j).jitter + want.jitter) want.frames
              late_at_most (λ q its. (each_asked q its).by.turn) alike)

      -- one of the frames that count
      module _ (j : ℕ) (inside : ℕ → Bool) (some : 0 < total w.count (λ p. cond (plans p && (eqb (of.source p) j && inside p)) 1 0)) where
        its_copy : ((stream j).wanted ≡ None) ⊎ ((p : ℕ) × IsCopy plan s planned sent w of p × (source_place plan (sent.source p) ≡ j) × IsOf w plans of j p)
        its_copy =
            let (p, in_p, counted) = one_counts w.count (λ p. plans p && (eqb (of.source p) j && inside p)) some in
            let parts = and_parts (plans p) (eqb (of.source p) j && inside p) counted in
            let place : of.source p ≡ j = eqb-true (of.source p) j (and_parts (eqb (of.source p) j) (inside p) parts.1).0 in
            elim (copies p in_p parts.0) [
              | inl none ↦ inl (subst (λ (k : ℕ). (stream k).wanted ≡ None) place none)
              | inr copy ↦ inr (p, copy, sym copy.place ∙ place, (in_p, parts.0, place))
            ]

      pub as_wanted : AreAsWanted w plans of (traffic plan timing stays).demands (traffic plan timing stays).stream
      as_wanted = record {
        by_sender = λ j t span demand is. elim (cases_lt 0 (releases_in w plans of j t span)) [
          | inr none ↦ omega (arith, none)
          | inl some ↦ elim (its_copy j (λ p. leb t (of.since p) && ltb (of.since p) (t + span)) some) [
            | inl none ↦ absurd (demand_none j demand none is)
            | inr it ↦
                let (p, copy, there, _) = it in
                subst (λ (k : ℕ). releases_in w plans of k t span ≤ frames_wanted span demand) there
                (of_source (sent.source p) (sent.release p) p (frames p copy.below copy.is) (stated p copy.below copy.is) t span demand
                (subst (λ (k : ℕ). demand_of (demands_of whole) (stream k) ≡ Some demand) (sym there) is))
          ]
        ];
        by_askers = λ j t span want is. elim (cases_lt 0 (queuings_in w plans of j t span)) [
          | inr none ↦ omega (arith, none)
          | inl some ↦ elim (its_copy j (λ p. leb t (w.queued p) && ltb (w.queued p) (t + span)) some) [
            | inl none ↦ absurd (none-some want (sym (spaced_unwanted (stream j) none) ∙ is))
            | inr it ↦
                let (p, copy, there, its) = it in
                answered_most j want is p (is_asked_for j want is p copy there) its t span
          ]
        ];
      }
