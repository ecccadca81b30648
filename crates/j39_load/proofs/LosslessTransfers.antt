-- How many frames a long message of which nothing is lost takes.
use Rattle.std.proofs.Common.{◌≡◌, ◌≢◌, ℕ, zero, suc, ◌+◌, ◌-◌, ◌*◌, ◌==◌, ◌<◌, ◌≤◌, ◌&&◌, false, not, min, inl, inr, List, [], ◌∷◌, ◌++◌}
use Rattle.std.proofs.Common.{length, take}
use Rattle.std.proofs.Common.{Option, Some, None, refl, sym, ap, ◌∙◌, subst, arith}
use Rattle.std.proofs.Math.Nat.{mul-le-mul_right}
use Rattle.std.proofs.lemmas.Bool.{cases_eq, cases_lt, cond-true, cond-false, eq-eqb, ne_eqb, and_from, le-leb, lt-leb, lt-ltb, le-ltb, not_from_true}
use Rattle.std.proofs.lemmas.Grind.{div_ceil_times}
use Rattle.std.proofs.lemmas.List.{take_all}
use Rattle.std.specs.Int.{div_ceil}
use Rattle.std.specs.Option.{option_map_or}
use Rattle.std.specs.Prelude.{Bool, map, nat_le, nat_lt}
use Rattle.j39_tp.proofs.Honest.{next_part}
use Rattle.j39_tp.specs.Chunks.{IsSize, MessageParts, packets_of, chunk}
use Rattle.j39_tp.specs.Receiver.{Receiving, bytes_at, completed, going_on, grant, grown, opened, takes_data, takes_next}
use Rattle.j39_tp.specs.Sender.{after_packet, announced, announcement, granted, packet_next, stage_hears}
use Rattle.j39_tp.specs.declared.packet.Packet.{Packet}
use Rattle.j39_tp.specs.declared.packet.Packet.TheVariants.{Cts, EndAck, Dt}
use Rattle.j39_tp.specs.declared.receiving.heard.Heard.{Heard}
use Rattle.j39_tp.specs.declared.receiving.heard.Heard.TheVariants as heards
use Rattle.j39_tp.specs.declared.receiving.manner.Manner.{Manner}
use Rattle.j39_tp.specs.declared.receiving.manner.Manner.TheVariants.{Answering, Listening}
use Rattle.j39_tp.specs.declared.receiving.progress.Progress.{Progress}
use Rattle.j39_tp.specs.declared.receiving.progress.Progress.TheVariants.{Open, Complete}
use Rattle.j39_tp.specs.declared.receiving.reception.ReceptionKind.{ReceptionKind}
use Rattle.j39_tp.specs.declared.receiving.reception.ReceptionKind.TheVariants.{Broadcast, Directed}
use Rattle.j39_tp.specs.declared.receiving.reception.Reception.{Reception}
use Rattle.j39_tp.specs.declared.sending.dest.Dest.{Dest}
use Rattle.j39_tp.specs.declared.sending.dest.Dest.TheVariants.{All, One}
use Rattle.j39_tp.specs.declared.sending.outcome.Outcome.{Outcome}
use Rattle.j39_tp.specs.declared.sending.outcome.Outcome.TheVariants.{Sent, Acked}
use Rattle.j39_tp.specs.declared.sending.reaction.Reaction.{Reaction}
use Rattle.j39_tp.specs.declared.sending.reaction.Reaction.TheVariants as reactions
use Rattle.j39_tp.specs.declared.sending.stage.Stage.{Stage}
use Rattle.j39_tp.specs.declared.sending.stage.Stage.TheVariants.{Sending, Waiting, Resting}
use Rattle.j39_network.specs.declared.plan.flow_plan.FlowPlan.{FlowPlan}
use Rattle.j39_network.specs.declared.plan.group_plan.GroupPlan.{GroupPlan}
use Rattle.j39_network.specs.declared.plan.pace.Pace.{Pace}
use Rattle.j39_network.specs.declared.plan.timing.Timing.{Timing}
use Rattle.j39_network.specs.declared.plan.to.To.{To}
use Rattle.j39_network.specs.declared.plan.to.To.TheVariants as tos
use Rattle.j39_network.specs.declared.plan.unit_plan.UnitPlan.{UnitPlan}
use Rattle.j39_world.specs.Flows.{dest_of}
use Rattle.j39_world.specs.TransferSteps.{receiver_replies, sender_replies}
use Rattle.j39_load.specs.declared.frames.messages.Messages.{Messages}
use Rattle.j39_load.specs.Loads.{frames_to_all, frames_to_one, is_always_short, long_messages, of_unit}
use Rattle.j39_load.specs.LosslessTransfers.{Sides, Frame, FromSender, FromReceiver, after_hearing, replies, data_sent, Exchange, Transfer}
use Rattle.j39_load.specs.LosslessTransfers.{IsTransferred, IsReceiverOf, TakesFrames, TakeFramesReported, frames_stated}

-- ---- from where the two stand they can go on in one way

one_exchange : (s : Sides) (due frames others : List Frame) (end other : Sides) → Exchange s due frames end → Exchange s due others other
    → (frames ≡ others) × (end ≡ other)
one_exchange s [] [] [] end other a b = (refl, a.1 ∙ sym b.1)
one_exchange s [] [] (g ∷ others) end other a b = absurd (let none = a.0 in let some = b.1 in cc (none, some))
one_exchange s [] (f ∷ frames) [] end other a b = absurd (let some = a.1 in let none = b.0 in cc (none, some))
one_exchange s [] (f ∷ frames) (g ∷ others) end other a b =
    let same : g ≡ f = (let p = a.1 in let q = b.1 in let x = a.2 in let y = b.2 in cc (p, q, x, y)) in
    let rest = one_exchange (after_hearing (data_sent s) f) (replies s f) frames others end other a.3
    (subst (λ (x : Frame). Exchange (after_hearing (data_sent s) x) (replies s x) others other) same b.3) in
    ((let e = rest.0 in cc (same, e)), rest.1)
one_exchange s (due ∷ rest) [] others end other a b = absurd a
one_exchange s (due ∷ rest) (f ∷ frames) [] end other a b = absurd b
one_exchange s (due ∷ rest) (f ∷ frames) (g ∷ others) end other a b =
    let same : g ≡ f = b.0 ∙ sym a.0 in
    let more = one_exchange (after_hearing s f) (rest ++ replies s f) frames others end other a.1
    (subst (λ (x : Frame). Exchange (after_hearing s x) (rest ++ replies s x) others other) same b.1) in
    ((let e = more.0 in cc (same, e)), more.1)

-- ---- rounded up

one_more_times : (a b w : ℕ) → a < b → a * w + w ≤ b * w
one_more_times a b w less =
    let most : suc a * w ≤ b * w = mul-le-mul_right w (let e : suc a ≤ b = omega (arith, less) in e) in
    omega (arith, most)

-- no other number of times w covers a with less than w to spare
one_ceil : (a w c : ℕ) → 0 < w → a ≤ c * w → c * w < a + w → c ≡ div_ceil a w
one_ceil a w c some above below =
    let low : a ≤ div_ceil a w * w = (div_ceil_times a w some).0 in
    let high : div_ceil a w * w < a + w = (div_ceil_times a w some).1 in
    elim (cases_lt c (div_ceil a w)) [
      | inl less ↦ absurd (let most = one_more_times c (div_ceil a w) w less in omega (arith, most, above, high))
      | inr le ↦ elim (cases_lt (div_ceil a w) c) [
        | inl less ↦ absurd (let most = one_more_times (div_ceil a w) c w less in omega (arith, most, below, low))
        | inr ge ↦ omega (arith, le, ge)
      ]
    ]

none_left : (w : ℕ) → 0 < w → div_ceil 0 w ≡ 0
none_left w some = sym (one_ceil 0 w 0 some (omega arith) (omega (arith, some)))

-- as many for what is left behind the next w
one_less : (a w : ℕ) → 0 < a → 0 < w → div_ceil a w ≡ 1 + div_ceil (a - min w a) w
one_less a w more some = elim (cases_lt w a) [
  | inl less ↦
      let rest : a - min w a ≡ a - w = omega (arith, less) in
      let times = div_ceil_times (a - w) w some in
      let low : a - w ≤ div_ceil (a - w) w * w = times.0 in
      let high : div_ceil (a - w) w * w < a - w + w = times.1 in
      let above : a ≤ (1 + div_ceil (a - w) w) * w = omega (arith, low, less) in
      let below : (1 + div_ceil (a - w) w) * w < a + w = omega (arith, high, less) in
      sym (one_ceil a w (1 + div_ceil (a - w) w) some above below) ∙ ap (λ k. 1 + div_ceil k w) (sym rest)
  | inr le ↦
      let rest : a - min w a ≡ 0 = omega (arith, le) in
      sym (one_ceil a w 1 some (omega (arith, le)) (omega (arith, more))) ∙ ap (λ k. 1 + k) (sym (none_left w some) ∙ ap (λ k. div_ceil k w) (sym rest))
]

-- ---- one frame more

-- it comes to an end so, with so many frames
record Ends (message : MessageParts) (outcome : Outcome) (s : Sides) (due : List Frame) (count : ℕ) : Type 0 where
  frames : List Frame
  end : Sides
  goes : Exchange s due frames end
  count_is : length frames ≡ count
  arrived : IsTransferred message outcome end

module _ (message : MessageParts) (outcome : Outcome) where
  nothing_left : (s : Sides) → packet_next s.sender ≡ None → IsTransferred message outcome s → Ends message outcome s [] 0
  nothing_left s none arrived = record { frames = []; end = s; goes = (none, refl); count_is = refl; arrived = arrived }

  -- the sender's next data packet
  one_data : (s new : Sides) (p : Packet) (due : List Frame) (count total : ℕ)
      → packet_next s.sender ≡ Some p → after_hearing (data_sent s) (FromSender p) ≡ new → replies s (FromSender p) ≡ due
      → total ≡ suc count → Ends message outcome new due count → Ends message outcome s [] total
  one_data s new p due count total next then answered more ends = record {
    frames = FromSender p ∷ ends.frames;
    end = ends.end;
    goes = (
      p,
      next,
      refl,
      subst (λ (t : Sides). Exchange t (replies s (FromSender p)) ends.frames ends.end) (sym then)
          (subst (λ (fs : List Frame). Exchange new fs ends.frames ends.end) (sym answered) ends.goes),
    );
    count_is = ap (λ n. suc n) ends.count_is ∙ sym more;
    arrived = ends.arrived;
  }

  -- a frame that is due
  one_due : (s new : Sides) (frame : Frame) (due : List Frame) (count total : ℕ) → after_hearing s frame ≡ new → replies s frame ≡ due
      → total ≡ suc count → Ends message outcome new due count → Ends message outcome s (frame ∷ []) total
  one_due s new frame due count total then answered more ends = record {
    frames = frame ∷ ends.frames;
    end = ends.end;
    goes = (
      refl,
      subst (λ (t : Sides). Exchange t (replies s frame) ends.frames ends.end) (sym then)
          (subst (λ (fs : List Frame). Exchange new fs ends.frames ends.end) (sym answered) ends.goes),
    );
    count_is = ap (λ n. suc n) ends.count_is ∙ sym more;
    arrived = ends.arrived;
  }

-- ---- the bytes of a packet

next_chunk : (bytes : List ℕ) (h : ℕ) → take (length bytes) (take (7 * h) bytes ++ chunk bytes (h + 1)) ≡ take (7 * (h + 1)) bytes
next_chunk bytes h =
    let before : 7 * (h + 1 - 1) ≡ 7 * h = omega arith in
    let here : 7 * h + 7 ≡ 7 * (h + 1) = omega arith in
    rw (before, ← here) (next_part bytes (7 * h))

-- ---- where the two stand

module _ (message : MessageParts) (long : IsSize (length message.bytes)) where
  abbrev size : ℕ
  size = length message.bytes

  abbrev packets : ℕ
  packets = packets_of size

  -- the receiver holds so many packets
  abbrev at : Dest → Stage → Manner → Progress → ℕ → Sides
  at dest stage manner progress held = record {
    sender = Some (record { message = message; dest = dest; stage = stage });
    receiver = record { manner = manner; progress = progress; bytes = take (7 * held) message.bytes };
  }

  abbrev session : ReceptionKind → ℕ → ℕ → Reception
  session kind held granted = record { kind = kind; pgn = message.pgn; size = size; limit = 255; held = held; granted = granted; asked = 0 }

  abbrev next_data : ℕ → Packet
  next_data h = Dt (h + 1) (chunk message.bytes (h + 1))

  -- the sender sends its next data packet, and the receiver takes it
  one_taken : (outcome : Outcome) (dest : Dest) (stage : Stage) (manner : Manner) (kind : ReceptionKind) (h granted last : ℕ)
      (progress : Progress) (stated : Heard) (count total : ℕ)
      → takes_data manner (session kind h granted) (h + 1) ≡ (progress, stated) → ((bytes : List ℕ) → bytes_at progress bytes ≡ bytes)
      → after_packet dest (Sending (h + 1) last) ≡ stage → total ≡ suc count
      → Ends message outcome (at dest stage manner progress (h + 1)) (map FromReceiver (receiver_replies stated)) count
      → Ends message outcome (at dest (Sending (h + 1) last) manner (Open (session kind h granted)) h) [] total
  one_taken outcome dest stage manner kind h granted last progress stated count total takes kept after more ends =
      let s : Sides = at dest (Sending (h + 1) last) manner (Open (session kind h granted)) h in
      let held : List ℕ = grown (Open (session kind h granted)) (next_data h) (take (7 * h) message.bytes) in
      let grows : held ≡ take (7 * (h + 1)) message.bytes = cond-true (h + 1 == h + 1) _ _ (eq-eqb (h + 1) (h + 1) refl) ∙ next_chunk message.bytes h in
      let then : Stage → Progress → List ℕ → Sides = λ x y bytes. record {
        sender = Some (record { message = message; dest = dest; stage = x });
        receiver = record { manner = manner; progress = y; bytes = bytes };
      } in
      let heard : after_hearing (data_sent s) (FromSender (next_data h)) ≡ at dest stage manner progress (h + 1) =
      ap (λ (x : Progress × Heard). then (after_packet dest (Sending (h + 1) last)) x.0 (bytes_at x.0 held)) takes
      ∙ (ap (λ (bytes : List ℕ). then (after_packet dest (Sending (h + 1) last)) progress bytes) (kept held ∙ grows)
      ∙ ap (λ (x : Stage). then x progress (take (7 * (h + 1)) message.bytes)) after) in
      one_data message outcome s (at dest stage manner progress (h + 1)) (next_data h) (map FromReceiver (receiver_replies stated)) count total refl heard
      (ap (λ (x : Progress × Heard). map FromReceiver (receiver_replies x.1)) takes) more ends

  module _ (manner : Manner) (kind : ReceptionKind) (h granted : ℕ) where
    takes_first : takes_data manner (session kind h granted) (h + 1) ≡ takes_next manner (session kind h granted)
    takes_first = cond-true (h + 1 == h + 1) _ _ (eq-eqb (h + 1) (h + 1) refl)

    takes_last : h + 1 ≡ packets → takes_data manner (session kind h granted) (h + 1) ≡ (Complete message.pgn, completed manner kind (session kind h granted))
    takes_last last = takes_first ∙ cond-true (h + 1 == packets) _ _ (eq-eqb (h + 1) packets last)

    takes_granted : h + 1 ≢ packets → h + 1 ≡ granted
        → takes_data manner (session kind h granted) (h + 1) ≡ going_on manner kind (session kind (h + 1) granted)
    takes_granted other last = takes_first ∙ (cond-false (h + 1 == packets) _ _ (ne_eqb (h + 1) packets other)
        ∙ cond-true (h + 1 == granted) _ _ (eq-eqb (h + 1) granted last))

    takes_more : h + 1 ≢ packets → h + 1 ≢ granted
        → takes_data manner (session kind h granted) (h + 1) ≡ (Open (session kind (h + 1) granted), heards.Nothing)
    takes_more other more = takes_first ∙ (cond-false (h + 1 == packets) _ _ (ne_eqb (h + 1) packets other)
        ∙ cond-false (h + 1 == granted) _ _ (ne_eqb (h + 1) granted more))

  sends_more : (dest : Dest) (next last : ℕ) → next < last → after_packet dest (Sending next last) ≡ Sending (next + 1) last
  sends_more dest next last less = cond-true (nat_lt next last) _ _ (lt-ltb next last less)

  -- ---- to all

  broadcast_stated : (manner : Manner) (r : Reception) → completed manner Broadcast r ≡ heards.Complete
  broadcast_stated (Answering window) r = refl
  broadcast_stated Listening r = refl

  broadcast_goes_on : (manner : Manner) (r : Reception) → going_on manner Broadcast r ≡ (Open r, heards.Nothing)
  broadcast_goes_on (Answering window) r = refl
  broadcast_goes_on Listening r = refl

  whole : (h : ℕ) → h ≡ packets → take (7 * h) message.bytes ≡ message.bytes
  whole h is = take_all (7 * h) message.bytes (omega (arith, is))

  broadcasting : (manner : Manner) (left h : ℕ) → h + suc left ≡ packets
      → Ends message Sent (at All (Sending (h + 1) packets) manner (Open (session Broadcast h 0)) h) [] (suc left)
  broadcasting manner zero h is =
      let last : h + 1 ≡ packets = omega (arith, is) in
      one_taken Sent All (Resting Sent) manner Broadcast h 0 packets (Complete message.pgn) heards.Complete 0 1
      (takes_last manner Broadcast h 0 last ∙ ap (λ (x : Heard). (Complete message.pgn, x)) (broadcast_stated manner (session Broadcast h 0)))
      (λ bytes. refl) (cond-false (nat_lt (h + 1) packets) _ _ (le-ltb (h + 1) packets (omega (arith, last)))) refl
      (nothing_left message Sent (at All (Resting Sent) manner (Complete message.pgn) (h + 1)) refl
      (record { rests = refl; complete = refl; bytes = whole (h + 1) last }))
  broadcasting manner (suc left) h is =
      let less : h + 1 < packets = omega (arith, is) in
      one_taken Sent All (Sending (h + 1 + 1) packets) manner Broadcast h 0 packets (Open (session Broadcast (h + 1) 0)) heards.Nothing
      (suc left) (suc (suc left))
      (takes_more manner Broadcast h 0 (λ e. omega (arith, e, less)) (λ e. omega (arith, e)))
      (λ bytes. refl) (sends_more All (h + 1) packets less) refl
      (broadcasting manner left (h + 1) (omega (arith, is)))

  -- ---- to one

  module _ (window : ℕ) (some : 0 < window) where
    abbrev answering : Manner
    answering = Answering window

    abbrev grants : ℕ → ℕ
    grants h = grant window (session Directed h 0)

    few : packets ≤ 255
    few = (let most = long.within in omega (arith, most))

    -- the receiver answers, and the sender hears it
    one_heard : (stage : Stage) (reaction : Reaction) (progress : Progress) (h : ℕ) (p : Packet) (count total : ℕ)
        → stage_hears One message.pgn size Waiting p ≡ (stage, reaction) → sender_replies reaction ≡ [] → total ≡ suc count
        → Ends message Acked (at One stage answering progress h) [] count
        → Ends message Acked (at One Waiting answering progress h) (FromReceiver p ∷ []) total
    one_heard stage reaction progress h p count total hears nothing more ends =
        one_due message Acked (at One Waiting answering progress h) (at One stage answering progress h) (FromReceiver p) [] count total
        (ap (λ (x : Stage × Reaction). at One x.0 answering progress h) hears)
        (ap (λ (x : Stage × Reaction). map FromSender (sender_replies x.1)) hears ∙ ap (λ (ps : List Packet). map FromSender ps) nothing) more ends

    cleared_to : (h count : ℕ) → 0 < count → h + count ≤ packets
        → stage_hears One message.pgn size Waiting (Cts count (h + 1) message.pgn) ≡ (Sending (h + 1) (h + count), reactions.Go)
    cleared_to h count more most =
        cond-true (message.pgn == message.pgn) _ _ (eq-eqb message.pgn message.pgn refl)
        ∙ (cond-false (count == 0) _ _ (ne_eqb count 0 (λ none. omega (arith, none, more)))
        ∙ (cond-false (not (nat_le 1 (h + 1) && nat_le (h + 1) packets)) _ _
        (not_from_true _ (and_from _ _ (le-leb 1 (h + 1) (omega arith)) (le-leb (h + 1) packets (omega (arith, more, most)))))
        ∙ ap (λ k. (Sending (h + 1) k, reactions.Go)) (let e : min packets (h + 1 + count - 1) ≡ h + count = omega (arith, more, most) in e)))

    acknowledged : stage_hears One message.pgn size Waiting (EndAck size message.pgn) ≡ (Resting Acked, reactions.Ended)
    acknowledged = cond-true (message.pgn == message.pgn && size == size) _ _
        (and_from _ _ (eq-eqb message.pgn message.pgn refl) (eq-eqb size size refl))

    -- frames of a message of which so many packets are left, while the receiver is up to this one
    abbrev frames_left : ℕ → ℕ → ℕ
    frames_left left granted = left + div_ceil (packets - granted) window + 1

    -- the receiver has granted packets
    clearing : (left h : ℕ) → h + suc left ≡ packets
        → ((g : ℕ) → h < g → g ≤ packets
        → Ends message Acked (at One (Sending (h + 1) g) answering (Open (session Directed h g)) h) [] (frames_left (suc left) g))
        → Ends message Acked (at One Waiting answering (Open (session Directed h (h + grants h))) h) (FromReceiver (Cts (grants h) (h + 1) message.pgn) ∷ [])
        (frames_left (suc left) h)
    clearing left h is goes =
        let g : ℕ = h + grants h in
        let more : 0 < grants h = omega (arith, is, some) in
        let most : g ≤ packets = omega (arith, is) in
        let rest : packets - h - min window (packets - h) ≡ packets - g = omega (arith, is, few) in
        let counts : div_ceil (packets - h) window ≡ 1 + div_ceil (packets - g) window =
        one_less (packets - h) window (omega (arith, is)) some ∙ ap (λ k. 1 + div_ceil k window) rest in
        one_heard (Sending (h + 1) g) reactions.Go (Open (session Directed h g)) h (Cts (grants h) (h + 1) message.pgn) (frames_left (suc left) g) _
        (cleared_to h (grants h) more most) refl (omega (arith, counts)) (goes g (omega (arith, more)) most)

    sending : (left h g : ℕ) → h + suc left ≡ packets → h < g → g ≤ packets
        → Ends message Acked (at One (Sending (h + 1) g) answering (Open (session Directed h g)) h) [] (frames_left (suc left) g)
    sending zero h g is less most =
        let last : h + 1 ≡ packets = omega (arith, is) in
        let none : div_ceil (packets - g) window ≡ 0 =
        ap (λ k. div_ceil k window) (let e : packets - g ≡ 0 = omega (arith, last, less) in e) ∙ none_left window some in
        one_taken Acked One Waiting answering Directed h g g (Complete message.pgn) (heards.CompleteReply (EndAck size message.pgn)) 1 _
        (takes_last answering Directed h g last) (λ bytes. refl)
        (cond-false (nat_lt (h + 1) g) _ _ (le-ltb (h + 1) g (omega (arith, last, most)))) (omega (arith, none))
        (one_heard (Resting Acked) reactions.Ended (Complete message.pgn) (h + 1) (EndAck size message.pgn) 0 1 acknowledged refl refl
        (nothing_left message Acked (at One (Resting Acked) answering (Complete message.pgn) (h + 1)) refl
        (record { rests = refl; complete = refl; bytes = whole (h + 1) last })))
    sending (suc left) h g is less most =
        let other : h + 1 ≢ packets = λ e. omega (arith, e, is) in
        elim (cases_eq (h + 1) g) [
          | inl last ↦
              let same : div_ceil (packets - g) window ≡ div_ceil (packets - (h + 1)) window = ap (λ k. div_ceil (packets - k) window) (sym last) in
              one_taken Acked One Waiting answering Directed h g g (Open (session Directed (h + 1) (h + 1 + grants (h + 1))))
              (heards.Reply (Cts (grants (h + 1)) (h + 1 + 1) message.pgn)) (frames_left (suc left) (h + 1)) _
              (takes_granted answering Directed h g other last) (λ bytes. refl)
              (cond-false (nat_lt (h + 1) g) _ _ (le-ltb (h + 1) g (omega (arith, last)))) (omega (arith, same))
              (clearing left (h + 1) (omega (arith, is)) (λ k behind within. sending left (h + 1) k (omega (arith, is)) behind within))
          | inr more ↦
              let before : h + 1 < g = omega (arith, more, less) in
              one_taken Acked One (Sending (h + 1 + 1) g) answering Directed h g g (Open (session Directed (h + 1) g)) heards.Nothing
              (frames_left (suc left) g) _
              (takes_more answering Directed h g other more) (λ bytes. refl) (sends_more One (h + 1) g before) (omega arith)
              (sending left (h + 1) g (omega (arith, is)) before most)
        ]

-- ---- from the announcement on

takes_frames : (message : MessageParts) (to : To) (receiver : Receiving) (count : ℕ) (outcome : Outcome)
    → Ends message outcome (record { sender = Some (announced message (dest_of to)); receiver = receiver })
    (FromSender (announcement (dest_of to) message.pgn (length message.bytes)) ∷ []) count
    → TakesFrames message to receiver count outcome
takes_frames message to receiver count outcome ends =
    let start : Sides = record { sender = Some (announced message (dest_of to)); receiver = receiver } in
    let due : List Frame = FromSender (announcement (dest_of to) message.pgn (length message.bytes)) ∷ [] in
    record {
      can_be_sent = (ends.frames, ends.end, ends.goes);
      count_is = λ frames end goes. ap length (one_exchange start due frames ends.frames end ends.end goes ends.goes).0 ∙ ends.count_is;
      arrives = λ frames end goes.
          subst (IsTransferred message outcome) (sym (one_exchange start due frames ends.frames end ends.end goes ends.goes).1) ends.arrived;
    }

pub to_one : (units : List UnitPlan) (v : ℕ) (message : MessageParts) (receiver : Receiving) → IsSize (length message.bytes)
    → IsReceiverOf units (tos.One v) receiver → TakesFrames message (tos.One v) receiver (frames_to_one units (packets_of (length message.bytes)) v) Acked
to_one units v message receiver long (unit, planned, manner) =
    let window : ℕ = unit.window in
    let some : 0 < window = unit.window_positive in
    let n : ℕ = packets_of (length message.bytes) in
    let all_left : 0 + suc (n - 1) ≡ n = (let above = long.above in omega (arith, above)) in
    let start : Manner → Sides = λ m. record {
      sender = Some (announced message One);
      receiver = record { manner = m; progress = receiver.progress; bytes = receiver.bytes };
    } in
    let frame : Frame = FromSender (announcement One message.pgn (length message.bytes)) in
    let counts : div_ceil (n - 0) window ≡ div_ceil n window = ap (λ k. div_ceil k window) (let e : n - 0 ≡ n = omega arith in e) in
    let ends : Ends message Acked (start (Answering window)) (frame ∷ []) (2 + n + div_ceil n window) =
    one_due message Acked (start (Answering window)) _ frame _ _ _ refl refl
    (omega (arith, counts, all_left))
    (clearing message long window some (n - 1) 0 all_left (λ g. sending message long window some (n - 1) 0 g all_left)) in
    let counted : 2 + n + div_ceil n window ≡ frames_to_one units n v =
    ap (λ (found : Option UnitPlan). 2 + n + div_ceil n (option_map_or (λ (u : UnitPlan). u.window) found 0)) (sym planned) in
    subst (λ k. TakesFrames message (tos.One v) receiver k Acked) counted
    (takes_frames message (tos.One v) receiver (2 + n + div_ceil n window) Acked
    (subst (λ (m : Manner). Ends message Acked (start m) (frame ∷ []) (2 + n + div_ceil n window)) (sym manner) ends))

pub to_all : (message : MessageParts) (receiver : Receiving) → IsSize (length message.bytes)
    → TakesFrames message tos.All receiver (frames_to_all (packets_of (length message.bytes))) Sent
to_all message receiver long =
    let n : ℕ = packets_of (length message.bytes) in
    let all_left : 0 + suc (n - 1) ≡ n = (let above = long.above in omega (arith, above)) in
    let start : Sides = record { sender = Some (announced message All); receiver = receiver } in
    let r : Reception = opened Broadcast message.pgn (length message.bytes) 255 in
    let goes_on : going_on receiver.manner Broadcast r ≡ (Open r, heards.Nothing) = broadcast_goes_on message long receiver.manner r in
    let then : Progress × Heard → Sides = λ x. record {
      sender = Some (announced message All);
      receiver = record { manner = receiver.manner; progress = x.0; bytes = bytes_at x.0 [] };
    } in
    takes_frames message tos.All receiver (1 + n) Sent
    (one_due message Sent start (then (Open r, heards.Nothing)) (FromSender (announcement All message.pgn (length message.bytes))) [] (suc (n - 1)) _
    (ap then goes_on) (ap (λ (x : Progress × Heard). map FromReceiver (receiver_replies x.1)) goes_on)
    (omega (arith, all_left))
    (broadcasting message long receiver.manner (n - 1) 0 all_left))

-- ---- of a flow

fewer : (a b w : ℕ) → 0 < w → a ≤ b → div_ceil a w ≤ div_ceil b w
fewer a b w some le =
    let below : div_ceil a w * w < a + w = (div_ceil_times a w some).1 in
    let above : b ≤ div_ceil b w * w = (div_ceil_times b w some).0 in
    elim (cases_lt (div_ceil b w) (div_ceil a w)) [
      | inl less ↦ absurd (let most = one_more_times (div_ceil b w) (div_ceil a w) w less in omega (arith, most, below, above, le))
      | inr no_less ↦ no_less
    ]

yielded_to : (timing : Timing) (units : List UnitPlan) (stays : UnitPlan → Bool) (flow : FlowPlan) (pace : Pace) (group : GroupPlan) (to : To)
    → (message : MessageParts) (receiver : Receiving) (frames : List Frame) (end : Sides) → IsSize (length message.bytes) → length message.bytes ≤ group.most
    → IsReceiverOf units to receiver → Transfer message to receiver frames end
    → length frames ≤ frames_stated (long_messages timing units stays flow pace group to)
yielded_to timing units stays flow pace group tos.All message receiver frames end long most is goes =
    let count : length frames ≡ frames_to_all (packets_of (length message.bytes)) = (to_all message receiver long).count_is frames end goes in
    omega (arith, count, most)
yielded_to timing units stays flow pace group (tos.One v) message receiver frames end long most is goes =
    let count : length frames ≡ frames_to_one units (packets_of (length message.bytes)) v =
    (to_one units v message receiver long is).count_is frames end goes in
    let window : ℕ = of_unit units (λ (unit : UnitPlan). unit.window) v in
    let some : 0 < window =
    subst (λ (found : Option UnitPlan). 0 < option_map_or (λ (unit : UnitPlan). unit.window) found 0) (sym is.1) is.0.window_positive in
    let packets : packets_of (length message.bytes) ≤ packets_of group.most = omega (arith, most) in
    let grants = fewer (packets_of (length message.bytes)) (packets_of group.most) window some packets in
    omega (arith, count, packets, grants)

pub stated : (timing : Timing) (units : List UnitPlan) (stays : UnitPlan → Bool) (flow : FlowPlan) (pace : Pace) (group : GroupPlan)
    → TakeFramesReported timing units stays flow pace group
stated timing units stays flow pace group message receiver frames end long most is goes =
    let not_short : is_always_short group ≡ false = lt-leb group.most 8 (let above = long.above in omega (arith, above, most)) in
    subst (λ (m : Messages). length frames ≤ frames_stated m) (sym (cond-false (is_always_short group) _ _ not_short))
    (yielded_to timing units stays flow pace group flow.to message receiver frames end long most is goes)
