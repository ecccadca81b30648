-- The long messages to all of a unit, which it sends one at a time: each is whole within a turn of the unit, where each of its flows takes turns.
use Rattle.std.proofs.Common.{◌≡◌, ◌≢◌, ℕ, zero, suc, ◌+◌, ◌-◌, ◌*◌, ◌<◌, ◌≤◌, ◌⊎◌, Bool, leb, List, [], ◌∷◌, All, length, get_or, sum_by}
use Rattle.std.proofs.Common.{Option, Some, None, refl, sym, ap, ◌∙◌, subst, inl, inr, arith}
use Rattle.std.proofs.Math.Nat.{mul-le-mul_left}
use Rattle.std.proofs.lemmas.Bool.{cases_eq, cases_lt}
use Rattle.std.proofs.lemmas.List.{length-map}
use Rattle.std.proofs.lemmas.List.Elements.{All-cons}
use Rattle.std.proofs.lemmas.List.Sums.{sum_by-cons}
use Rattle.std.proofs.lemmas.Option.{cond_some, none-some, same_Some, slice_get_within}
use Rattle.std.specs.Option.{option_map_or}
use Rattle.j39_findings.specs.Findings.{Clean}
use Rattle.j39_network.specs.declared.plan.Plan.{Plan}
use Rattle.j39_network.specs.declared.plan.timing.Timing.{Timing}
use Rattle.j39_network.specs.declared.plan.unit_plan.UnitPlan.{UnitPlan}
use Rattle.j39_load.specs.declared.frames.broadcast.Broadcast.{Broadcast}
use Rattle.j39_load.specs.declared.loads.unit_load.UnitLoad.{UnitLoad}
use Rattle.j39_load.specs.declared.waits.delay.Delay.{Delay}
use Rattle.j39_load.specs.declared.waits.turn.Turn.{Turn}
use Rattle.j39_load.specs.AnyQueues.{Buffering, IsBuffering}
use Rattle.j39_load.specs.Asked.{Asked, asked_of, frames_asked}
use Rattle.j39_load.specs.Broadcasts.{broadcast_by, broadcasts_by}
use Rattle.j39_load.specs.Delays.{IsTurnBy, IsWaitIn, announcements_place, known_turn, longest_pause, packet_time, packets_place, flow_turn}
use Rattle.j39_load.specs.Delays.{turn_time}
use Rattle.j39_load.specs.KeepsBroadcasts.{KeepsTurns}
use Rattle.j39_load.specs.KeepsPlan.{KeepsQueues, KeepsToPlan, origins_of, source_place}
use Rattle.j39_load.specs.KeptDeadlines.{AreSentWhole, TakeTurns, whole_from}
use Rattle.j39_load.specs.LoadFindings.{AsksOfBus}
use Rattle.j39_load.specs.Loads.{bits_at_most}
use Rattle.j39_load.specs.FlowLoads.{load_of_flow}
use Rattle.j39_load.specs.SentFrames.{Announcing, Broadcasts, Carrying, FrameSources, Held, IsToAllBy}
use Rattle.j39_timing.specs.Waits.{IsSpaced, askers_want}
use Rattle.j39_load.proofs.BoundedFlows.{sent_in_any_order}
use Rattle.j39_load.proofs.KeepingTurns.{broadcasts_in_any_order}
use Rattle.j39_load.proofs.Milliseconds.{within_bits}
use Rattle.j39_load.proofs.OnceEach.{each_once, picked_sum, value_of}
use Rattle.j39_load.proofs.PlacedFrames.{at_place, is_by, its_broadcast, load, same_units, unit_asks, unit_read}
use Rattle.j39_load.proofs.PositivePeriods.{all_paced}
use Rattle.j39_load.proofs.Sending.{all_sent}
use Rattle.j39_load.proofs.WholeMessages.{announcements_read, packets_read}
use Rattle.j39_timing.specs.AnyOrder.{Controllers, IsLegalInAnyOrder}
use Rattle.j39_timing.specs.FrameStreams.{Origins}
use Rattle.j39_timing.specs.Messages.{AreSentInTurn, AreSentWithin, FollowInTurn, IsBroadcast, IsOf, LongMessage, all_whole_at, frame_end, packets_end}
use Rattle.j39_timing.specs.Messages.{time_of_message, time_of_messages, whole_at}
use Rattle.j39_timing.specs.Sums.{total}
use Rattle.j39_timing.specs.TimedFrames.{Schedule}
use Rattle.j39_timing.proofs.Messages.{messages_whole}

-- ---- the turn of a unit

-- both waits of the unit's frames, and its turn by them
pub record HasTurn (timing : Timing) (asked : Asked) (buffering : Buffering) (u : ℕ) (turn : Turn) : Type 0 where
  pub load : UnitLoad
  pub at : get_or asked.units u None ≡ Some load
  pub announced : ℕ
  pub sent : ℕ
  pub first : IsWaitIn timing buffering (announcements_place asked u) load.announcements (Some announced)
  pub rest : IsWaitIn timing buffering (packets_place asked u) load.packets (Some sent)
  pub is : flow_turn timing load announced sent ≡ turn

module _ (timing : Timing) (asked : Asked) (buffering : Buffering) (u : ℕ) (turn : Turn) where
  pub has_turn : (load : Option UnitLoad) → get_or asked.units u None ≡ load → IsTurnBy timing asked buffering u load (Some turn)
      → HasTurn timing asked buffering u turn
  has_turn None at is = absurd (none-some turn (sym is))
  has_turn (Some load) at (announced, sent, first, rest, stated) = by_waits announced sent first rest stated
    where
      by_waits : (announced sent : Option ℕ) → IsWaitIn timing buffering (announcements_place asked u) load.announcements announced
          → IsWaitIn timing buffering (packets_place asked u) load.packets sent → Some turn ≡ known_turn timing load announced sent
          → HasTurn timing asked buffering u turn
      by_waits None sent first rest stated = absurd (none-some turn (sym stated))
      by_waits (Some a) None first rest stated = absurd (none-some turn (sym stated))
      by_waits (Some a) (Some p) first rest stated = record {
        load = load;
        at = at;
        announced = a;
        sent = p;
        first = first;
        rest = rest;
        is = (cond_some (leb (packet_time timing load p) (longest_pause timing)) (flow_turn timing load a p) turn (sym stated)).1;
      }

-- the first of some messages that isn't over by some bit
first_open : (ends : ℕ → ℕ) (by n : ℕ) → (j : ℕ) × ((i : ℕ) → i < j → ends i ≤ by) × ((j ≡ n) ⊎ ((j < n) × (by < ends j)))
first_open ends by zero = (0, (λ i below. absurd (omega (arith, below))), inl refl)
first_open ends by (suc n) =
    let (j, over, last) = first_open ends by n in
    elim last [
      | inr (inside, left_open) ↦ (j, over, inr (omega (arith, inside), left_open))
      | inl same ↦ elim (cases_lt by (ends n)) [
        | inl left_open ↦ (n, (λ i below. over i (omega (arith, below, same))), inr (omega arith, left_open))
        | inr ended ↦ (
          suc n,
          (λ i below. elim (cases_eq i n) [
            | inl here ↦ subst (λ (k : ℕ). ends k ≤ by) (sym here) ended
            | inr other ↦ over i (omega (arith, below, same, other))
          ]),
          inl refl,
        )
      ]
    ]

-- ---- the messages of a unit, on a bus

module _ (plan : Plan) (timing : Timing) (clean : Clean plan) (stays : UnitPlan → Bool) (delays : List (Option Delay))
    (asks : AsksOfBus plan timing stays delays)
    (s : Schedule) (controllers : Controllers) (planned : ℕ → Bool) (sent : FrameSources) (held : Held) (legal : IsLegalInAnyOrder s controllers)
    (keeps : KeepsToPlan plan timing s planned sent held) (queues : KeepsQueues plan timing s controllers planned sent)
    (turns : KeepsTurns s planned sent held) (sends : AreSentWhole timing s planned sent) (u : ℕ) where
  abbrev asked : Asked
  asked = asked_of timing plan stays

  abbrev b : Broadcasts
  b = sent.broadcasts

  abbrev of : Origins
  of = origins_of plan sent

  abbrev ends : ℕ → ℕ
  ends m = whole_from timing s planned sent sends u m

  abbrev count : ℕ
  count = b.count u

  -- a message's last packet
  abbrev last : ℕ → ℕ
  last m = b.packets u m - 1

  last_below : (m : ℕ) → m < count → (1 ≤ last m) × (last m < b.packets u m) × (suc (last m) ≡ b.packets u m)
  last_below m below = let two = (keeps.broadcasts.messages u m below).two in (omega (arith, two), omega (arith, two), omega (arith, two))

  -- a message has ended where a later one is announced
  ended_first : (l m : ℕ) → l < m → m < count → ends l ≤ b.announced u m
  ended_first l m before below =
      let in_l : l < count = omega (arith, before, below) in
      let k = last l in
      let p = sends.packet u l k in
      let q = sends.announcement u m in
      let (in_p, is_p, of_p) = sends.carries u l k in_l (last_below l in_l).1 in
      let (in_q, is_q, of_q) = sends.announces u m below in
      let announced : s.queued q ≡ b.announced u m = keeps.broadcasts.announced q u m in_q is_q of_q in
      let early : s.queued p ≤ b.announced u m = keeps.broadcasts.before p u l k m in_p is_p of_p before below in
      let starts = legal.queued_first q in_q in
      let some = legal.positive q in_q in
      elim (turns.one_by_one p q u in_p in_q (apart p q l m k of_p of_q) is_p is_q (by_carrying p l k of_p) (by_announcing q m of_q)) [
        | inl behind ↦ omega (arith, behind, announced)
        | inr before_it ↦ absurd (omega (arith, before_it, early, announced, starts, some))
      ]
    where
      apart : (p q l m k : ℕ) → sent.source p ≡ Carrying u l k → sent.source q ≡ Announcing u m → p ≢ q
      apart p q l m k one other same = let clash : Carrying u l k ≡ Announcing u m = sym one ∙ (ap sent.source same ∙ other) in cc

      by_carrying : (p l k : ℕ) → sent.source p ≡ Carrying u l k → IsToAllBy u (sent.source p)
      by_carrying p l k one = subst (IsToAllBy u) (sym one) refl

      by_announcing : (q m : ℕ) → sent.source q ≡ Announcing u m → IsToAllBy u (sent.source q)
      by_announcing q m one = subst (IsToAllBy u) (sym one) refl

  -- and is announced before it ends
  announced_first : (m : ℕ) → m < count → b.announced u m ≤ ends m
  announced_first m below =
      let (in_p, is_p, of_p) = sends.carries u m (last m) below (last_below m below).1 in
      let behind = keeps.broadcasts.behind (sends.packet u m (last m)) u m (last m) in_p is_p of_p in
      let starts = legal.queued_first (sends.packet u m (last m)) in_p in
      omega (arith, behind, starts)

  in_order : (l m : ℕ) → l ≤ m → m < count → ends l ≤ ends m
  in_order l m before below = elim (cases_eq l m) [
    | inl same ↦ let e = ap ends same in omega (arith, e)
    | inr other ↦
        let first = ended_first l m (omega (arith, before, other)) below in
        let next = announced_first m below in
        omega (arith, first, next)
  ]

  -- ---- one message

  -- its packets from one on, so many
  packets_from : ℕ → ℕ → ℕ → List ℕ
  packets_from m k zero = []
  packets_from m k (suc n) = sends.packet u m k ∷ packets_from m (suc k) n

  packets_count : (m k n : ℕ) → length (packets_from m k n) ≡ n
  unfolding packets_from
  packets_count m k zero = refl
  packets_count m k (suc n) = let rest = packets_count m (suc k) n in omega (arith, rest)

  abbrev message : ℕ → LongMessage
  message m = record { announcement = sends.announcement u m; packets = packets_from m 0 (b.packets u m) }

  follow : (m k n p : ℕ) → m < count → k + n ≤ b.packets u m → (0 < n
      → s.queued (sends.packet u m k) ≤ frame_end s p + bits_at_most timing timing.broadcast_gap_most)
      → FollowInTurn s (bits_at_most timing timing.broadcast_gap_most) p (packets_from m k n)
  unfolding packets_from FollowInTurn
  follow m k zero p below inside soon = tt
  follow m k (suc n) p below inside soon = (
    soon (omega arith),
    follow m (suc k) n (sends.packet u m k) below (omega (arith, inside)) (λ some.
        within_bits timing timing.broadcast_gap_most (frame_end s (sends.packet u m k)) (s.queued (sends.packet u m (suc k)))
        (sends.next_gap u m k below (omega (arith, inside, some)))),
  )

  last_ends : (m k n p : ℕ) → packets_end s p (packets_from m k (suc n)) ≡ frame_end s (sends.packet u m (k + n))
  unfolding packets_from packets_end
  last_ends m k zero p = ap (λ (i : ℕ). frame_end s (sends.packet u m i)) (omega arith)
  last_ends m k (suc n) p =
      last_ends m (suc k) n (sends.packet u m k) ∙ ap (λ (i : ℕ). frame_end s (sends.packet u m i)) (omega arith)

  whole_is : (m : ℕ) → m < count → whole_at s (message m) ≡ ends m
  whole_is m below =
      ap (λ (n : ℕ). packets_end s (sends.announcement u m) (packets_from m 0 n)) (sym (last_below m below).2)
      ∙ last_ends m 0 (last m) (sends.announcement u m) ∙ ap (λ (i : ℕ). frame_end s (sends.packet u m i)) (omega arith)

  -- where its frames stand among all
  announcements_at : (m : ℕ) → source_place plan (Announcing u m) ≡ announcements_place asked u
  announcements_at m =
      let stated = same_units plan timing stays in
      let flows = length-map plan.flows.items (load_of_flow timing plan stays) in
      omega (arith, stated, flows)

  packets_at : (m k : ℕ) → source_place plan (Carrying u m k) ≡ packets_place asked u
  packets_at m k = let flows = length-map plan.flows.items (load_of_flow timing plan stays) in omega (arith, flows)

  all_packets : (m k n : ℕ) → m < count → k + n ≤ b.packets u m → All (IsOf s planned of (packets_place asked u)) (packets_from m k n)
  unfolding packets_from
  all_packets m k zero below inside = λ j d least. absurd (omega (arith, least))
  all_packets m k (suc n) below inside =
      let (in_p, is_p, of_p) = sends.carries u m k below (omega (arith, inside)) in
      All-cons (IsOf s planned of (packets_place asked u)) (sends.packet u m k) (packets_from m (suc k) n)
      (in_p, is_p, ap (source_place plan) of_p ∙ packets_at m k) (all_packets m (suc k) n below (omega (arith, inside)))

  is_broadcast : (m : ℕ) → m < count → IsBroadcast s planned of (announcements_place asked u) (packets_place asked u) (message m)
  is_broadcast m below =
      let (in_q, is_q, of_q) = sends.announces u m below in
      ((in_q, is_q, ap (source_place plan) of_q ∙ announcements_at m), all_packets m 0 (b.packets u m) below (omega arith))

  -- ---- in turn

  module _ (buffering : Buffering) (is_buffering : IsBuffering timing asked.unplanned_end (frames_asked asked) buffering) (turn : Turn)
      (has : HasTurn timing asked buffering u turn) where
    abbrev first_time : ℕ
    first_time = has.announced + has.load.announcements.stream.bits

    abbrev packet_bits : ℕ
    packet_bits = has.sent + has.load.packets.stream.bits

    abbrev time : ℕ → ℕ
    time m = time_of_message first_time (bits_at_most timing timing.broadcast_gap_most) packet_bits (b.packets u m)

    -- what the unit asks is what is reported of it
    asks_of : (m : ℕ) (below : m < count) → has.load ≡ unit_asks plan timing stays b u m (keeps.broadcasts.messages u m below)
    asks_of m below = same_Some _ _ (sym has.at ∙ unit_read plan timing stays b u m (keeps.broadcasts.messages u m below))

    sent_first : (m : ℕ) → m < count → AreSentWithin s planned of (announcements_place asked u) has.load.announcements.stream has.announced
    sent_first m below =
        let come = (broadcasts_in_any_order plan timing stays clean asks.standing s controllers planned sent held u m below legal keeps queues turns).0 in
        let single : (has.load.announcements.twin_ident ≡ None) × IsSpaced has.load.announcements.stream =
        (ap (λ (l : UnitLoad). l.announcements.twin_ident) (asks_of m below), ap (λ (l : UnitLoad). askers_want l.announcements.stream) (asks_of m below)) in
        sent_in_any_order timing asked.unplanned_end (frames_asked asked) (all_paced timing plan stays) (all_sent timing plan stays) buffering is_buffering
        (announcements_place asked u)
        has.load.announcements (announcements_read asked u has.load has.at) has.announced s controllers planned of legal come single has.first

    sent_rest : (m : ℕ) → m < count → AreSentWithin s planned of (packets_place asked u) has.load.packets.stream has.sent
    sent_rest m below =
        let come = (broadcasts_in_any_order plan timing stays clean asks.standing s controllers planned sent held u m below legal keeps queues turns).1 in
        let single : (has.load.packets.twin_ident ≡ None) × IsSpaced has.load.packets.stream =
        (ap (λ (l : UnitLoad). l.packets.twin_ident) (asks_of m below), ap (λ (l : UnitLoad). askers_want l.packets.stream) (asks_of m below)) in
        sent_in_any_order timing asked.unplanned_end (frames_asked asked) (all_paced timing plan stays) (all_sent timing plan stays) buffering is_buffering
        (packets_place asked u)
        has.load.packets (packets_read asked u has.load has.at) has.sent s controllers planned of legal come single has.rest

    -- a message that is announced by some bit
    message_ends : (m by : ℕ) → m < count → b.announced u m ≤ by → by + time m < s.now → ends m ≤ by + time m
    unfolding AreSentInTurn all_whole_at
    message_ends m by below soon seen =
        let (in_q, is_q, of_q) = sends.announces u m below in
        let announced : s.queued (sends.announcement u m) ≡ b.announced u m = keeps.broadcasts.announced (sends.announcement u m) u m in_q is_q of_q in
        let queued : s.queued (sends.announcement u m) ≤ by = omega (arith, announced, soon) in
        let follows = follow m 0 (b.packets u m) (sends.announcement u m) below (omega arith)
        (λ some. within_bits timing timing.broadcast_gap_most (frame_end s (sends.announcement u m)) (s.queued (sends.packet u m 0))
        (sends.first_gap u m below)) in
        let sum = sum_by-cons (λ (x : LongMessage). time_of_message first_time (bits_at_most timing timing.broadcast_gap_most) packet_bits (length x.packets))
        (message m) [] in
        let counted = ap (time_of_message first_time (bits_at_most timing timing.broadcast_gap_most) packet_bits) (packets_count m 0 (b.packets u m)) in
        let size : time_of_messages first_time (bits_at_most timing timing.broadcast_gap_most) packet_bits (message m ∷ []) ≡ time m =
        omega (arith, sum, counted) in
        let whole = messages_whole s planned of (announcements_place asked u) (packets_place asked u)
        (bits_at_most timing timing.broadcast_gap_most) has.announced
        has.sent has.load.announcements.stream has.load.packets.stream (sent_first m below) (sent_rest m below) (message m ∷ []) by (queued, follows, tt)
        (All-cons (IsBroadcast s planned of (announcements_place asked u) (packets_place asked u)) (message m) [] (is_broadcast m below)
        (λ j d least. absurd (omega (arith, least))))
        (subst (λ (n : ℕ). by + n < s.now) (sym size) seen) in
        subst (λ (n : ℕ). n ≤ by + time m) (whole_is m below) (subst (λ (n : ℕ). whole_at s (message m) ≤ by + n) size whole)

    -- and those that are announced at the end of the one before it, one after the other
    chain_ends : (j n by : ℕ) → j + n < count → b.announced u j ≤ by → ((i : ℕ) → j ≤ i → i < j + n → b.announced u (suc i) ≤ ends i)
        → by + total (suc n) (λ i. time (j + i)) < s.now → ends (j + n) ≤ by + total (suc n) (λ i. time (j + i))
    unfolding total
    chain_ends j zero by below soon next seen =
        let same : j ≡ j + 0 = omega arith in
        let one = message_ends (j + 0) by below (subst (λ (k : ℕ). b.announced u k ≤ by) same soon) (omega (arith, seen)) in
        omega (arith, one)
    chain_ends j (suc n) by below soon next seen =
        let before : ends (j + n) ≤ by + total (suc n) (λ i. time (j + i)) =
        chain_ends j n by (omega (arith, below)) soon (λ i from up. next i from (omega (arith, up))) (omega (arith, seen)) in
        let behind : b.announced u (suc (j + n)) ≤ ends (j + n) = next (j + n) (omega arith) (omega arith) in
        let here : suc (j + n) ≡ j + suc n = omega arith in
        let announced : b.announced u (j + suc n) ≤ by + total (suc n) (λ i. time (j + i)) =
        subst (λ (k : ℕ). b.announced u k ≤ by + total (suc n) (λ i. time (j + i))) here (omega (arith, behind, before)) in
        let one = message_ends (j + suc n) (by + total (suc n) (λ i. time (j + i))) below announced (omega (arith, seen)) in
        omega (arith, one)

    -- of flows none of which is twice among them they take no longer than a turn
    abbrev value : Broadcast → ℕ
    value x = first_time + x.packets * (bits_at_most timing timing.broadcast_gap_most + packet_bits)

    value_sum : (xs : List Broadcast) → sum_by value xs
        ≡ length xs * first_time + sum_by (λ (x : Broadcast). x.packets) xs * (bits_at_most timing timing.broadcast_gap_most + packet_bits)
    value_sum [] = omega arith
    value_sum (x ∷ xs) =
        let rest = value_sum xs in
        let all = sum_by-cons (λ (y : Broadcast). y.packets) x xs in
        let one = sum_by-cons value x xs in
        rw (all, one) (omega (arith, rest))

    at_flow : (m : ℕ) → m < count → b.flow u m < length asked.flows
    at_flow m below =
        let one = keeps.broadcasts.messages u m below in
        slice_get_within asked.flows (b.flow u m) _ (at_place plan timing stays (b.flow u m) one.flow one.pace one.group one.its one.paced one.of)

    within_value : (m : ℕ) → m < count → time m ≤ value_of (broadcast_by u) value (get_or asked.flows (b.flow u m) None)
    within_value m below =
        let one = keeps.broadcasts.messages u m below in
        let few : b.packets u m ≤ (its_broadcast plan timing stays b u m one).packets = let longest = one.longest in omega (arith, longest) in
        let more = mul-le-mul_left (bits_at_most timing timing.broadcast_gap_most + packet_bits) few in
        subst (λ (o : Option Broadcast). time m ≤ option_map_or value o 0) (sym (is_by plan timing stays b u m one)) (omega (arith, more))

    turn_most : (j n m : ℕ) → j + n ≡ m → m < count → ((k l : ℕ) → j ≤ k → k < l → l ≤ m → b.flow u k ≢ b.flow u l)
        → total (suc n) (λ i. time (j + i)) ≤ turn.time
    turn_most j n m last_is below apart =
        let taken = each_once (suc n) (λ i. b.flow u (j + i)) (λ i. time (j + i)) (length asked.flows)
        (λ f. value_of (broadcast_by u) value (get_or asked.flows f None))
        (λ i in_n. at_flow (j + i) (omega (arith, in_n, last_is, below))) (λ i in_n. within_value (j + i) (omega (arith, in_n, last_is, below)))
        (λ i k in_i in_k same. elim (cases_lt i k) [
          | inl less ↦ absurd (apart (j + i) (j + k) (omega arith) (omega (arith, less)) (omega (arith, in_k, last_is)) same)
          | inr more ↦ elim (cases_lt k i) [
            | inl less ↦ absurd (apart (j + k) (j + i) (omega arith) (omega (arith, less)) (omega (arith, in_i, last_is)) (sym same))
            | inr least ↦ omega (arith, more, least)
          ]
        ]) in
        let picked = picked_sum (broadcast_by u) value asked.flows None in
        let summed = value_sum (broadcasts_by u asked.flows) in
        let asks_it = asks_of m below in
        let flows : has.load.flows ≡ length (broadcasts_by u asked.flows) = ap (λ (l : UnitLoad). l.flows) asks_it in
        let packets : has.load.all_packets ≡ sum_by (λ (x : Broadcast). x.packets) (broadcasts_by u asked.flows) = ap
        (λ (l : UnitLoad). l.all_packets) asks_it in
        let its : turn_time timing has.load has.announced has.sent ≡ turn.time = ap (λ (t : Turn). t.time) has.is in
        let same : turn_time timing has.load has.announced has.sent ≡ sum_by value (broadcasts_by u asked.flows) =
        ap (λ (n : ℕ). n * first_time + has.load.all_packets * packet_time timing has.load has.sent) flows
        ∙ (ap (λ (n : ℕ). length (broadcasts_by u asked.flows) * first_time + n * packet_time timing has.load has.sent) packets ∙ sym summed) in
        omega (arith, taken, picked, same, its)

    -- ---- a flow of it

    module _ (takes : TakeTurns b (whole_from timing s planned sent sends)) (f late apart : ℕ) (origin : ℕ → ℕ) (short : turn.time ≤ apart)
        (wanted : (m : ℕ) → m < count → b.flow u m ≡ f → b.wanted u m ≤ origin m + late)
        (spaced : (l m : ℕ) → l < m → m < count → b.flow u l ≡ f → b.flow u m ≡ f → origin l + apart ≤ origin m) where
      -- a message of it, where those before it are over when it is wanted at last
      module _ (m : ℕ) (below : m < count) (its : b.flow u m ≡ f) (seen : origin m + (late + turn.time) < s.now)
          (earlier : (i : ℕ) → i < m → b.flow u i ≡ f → ends i ≤ origin m + late) where
        abbrev by : ℕ
        by = origin m + late

        module _ (j : ℕ) (inside : j ≤ m) (over : (i : ℕ) → i < j → ends i ≤ by) (goes_on : by < ends j) where
          open_from : (i : ℕ) → j ≤ i → i ≤ m → by < ends i
          open_from i from up = let later = in_order j i from (omega (arith, up, below)) in omega (arith, later, goes_on)

          soon : b.announced u j ≤ by
          soon = takes.at_once u j m by inside below (wanted m below its) over

          next : (i : ℕ) → j ≤ i → i < m → b.announced u (suc i) ≤ ends i
          next i from up =
              let left_open = open_from i from (omega (arith, up)) in
              let is_wanted = wanted m below its in
              takes.at_once u (suc i) m (ends i) (omega (arith, up)) below (omega (arith, is_wanted, left_open))
              (λ l before. in_order l i (omega (arith, before)) (omega (arith, up, below)))

          other_flows : (k l : ℕ) → j ≤ k → k < l → l ≤ m → b.flow u k ≢ b.flow u l
          other_flows k l from before up same =
              let left_open = open_from k from (omega (arith, before, up)) in
              elim (cases_eq l m) [
                | inl last_one ↦
                    let ended = earlier k (omega (arith, before, last_one)) (same ∙ (ap (b.flow u) last_one ∙ its)) in
                    absurd (omega (arith, ended, left_open))
                | inr middle ↦ elim (takes.once u k l m before (omega (arith, up, middle)) below same) [
                  | inl ended ↦ let is_wanted = wanted m below its in absurd (omega (arith, ended, is_wanted, left_open))
                  | inr (i, first, its_flow, ended) ↦
                      let over_by = earlier i first (its_flow ∙ its) in
                      absurd (omega (arith, ended, over_by, left_open))
                ]
              ]

          of_open : ends m ≤ origin m + (late + turn.time)
          of_open =
              let far : j + (m - j) ≡ m = omega (arith, inside) in
              let most = turn_most j (m - j) m far below other_flows in
              let chained = chain_ends j (m - j) by (omega (arith, far, below)) soon (λ i from up. next i from (omega (arith, up, far)))
              (omega (arith, most, seen)) in
              let same : ends (j + (m - j)) ≡ ends m = ap ends far in
              omega (arith, chained, most, same)

        one_ends : ends m ≤ origin m + (late + turn.time)
        one_ends =
            let (j, over, left_open) = first_open ends (origin m + late) (suc m) in
            elim left_open [
              | inl all ↦ let ended = over m (omega (arith, all)) in omega (arith, ended)
              | inr (inside, goes_on) ↦ of_open j (omega (arith, inside)) over goes_on
            ]

      -- each message of it is whole in time
      pub flow_ends : (n m : ℕ) → m < n → m < count → b.flow u m ≡ f → origin m + (late + turn.time) < s.now → ends m ≤ origin m + (late + turn.time)
      flow_ends zero m fuel below its seen = absurd (omega (arith, fuel))
      flow_ends (suc n) m fuel below its seen = one_ends m below its seen (λ i before its_flow.
          let behind = spaced i m before below its_flow its in
          let ended = flow_ends n i (omega (arith, before, fuel)) (omega (arith, before, below)) its_flow (omega (arith, behind, seen)) in
          omega (arith, ended, behind, short))
