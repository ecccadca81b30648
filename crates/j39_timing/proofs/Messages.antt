-- Messages that are sent in turn, of frames that are in time, are whole in time.
use Rattle.std.proofs.Common.{◌≡◌, ℕ, ◌+◌, ◌*◌, ◌<◌, ◌≤◌, Bool, List, [], ◌∷◌, All, length, arith}
use Rattle.std.proofs.lemmas.List.Elements.{All-head, All-tail}
use Rattle.std.proofs.lemmas.List.Sums.{sum_by-cons}
use Rattle.j39_timing.specs.declared.stream.Stream.{Stream}
use Rattle.j39_timing.specs.TimedFrames.{Schedule}
use Rattle.j39_timing.specs.FrameStreams.{Origins}
use Rattle.j39_timing.specs.Messages.{LongMessage, AreSentInTurn, AreSentWithin, FollowInTurn, IsBroadcast, IsOf, all_whole_at, frame_end, packets_end}
use Rattle.j39_timing.specs.Messages.{time_of_message, time_of_messages, whole_at}

module _ (s : Schedule) (planned : ℕ → Bool) (of : Origins) (a d gap wait_a wait_d : ℕ) (stream_a stream_d : Stream)
    (first : AreSentWithin s planned of a stream_a wait_a) (rest : AreSentWithin s planned of d stream_d wait_d) where
  abbrev time_a : ℕ
  time_a = wait_a + stream_a.bits

  abbrev time_d : ℕ
  time_d = wait_d + stream_d.bits

  -- packets behind a frame that is over by some bit
  packets_whole : (p by : ℕ) (qs : List ℕ) → frame_end s p ≤ by → FollowInTurn s gap p qs → All (IsOf s planned of d) qs
      → by + length qs * (gap + time_d) < s.now → packets_end s p qs ≤ by + length qs * (gap + time_d)
  unfolding FollowInTurn packets_end
  packets_whole p by [] over follow known seen = omega arith
  packets_whole p by (q ∷ qs) over follow known seen =
      let (in_q, is_q, of_q) = All-head (IsOf s planned of d) q qs known in
      let size : length (q ∷ qs) * (gap + time_d) ≡ (gap + time_d) + length qs * (gap + time_d) = omega arith in
      let queued : s.queued q ≤ by + gap = let soon = follow.0 in omega (arith, soon, over) in
      let sent : frame_end s q ≤ s.queued q + time_d = rest q in_q is_q of_q (omega (arith, queued, seen, size)) in
      let behind : packets_end s q qs ≤ (by + (gap + time_d)) + length qs * (gap + time_d) =
      packets_whole q (by + (gap + time_d)) qs (omega (arith, sent, queued)) follow.1 (All-tail (IsOf s planned of d) q qs known)
      (omega (arith, seen, size)) in
      omega (arith, behind, size)

  -- a message whose announcement is queued by some bit
  message_whole : (m : LongMessage) (by : ℕ) → s.queued m.announcement ≤ by → FollowInTurn s gap m.announcement m.packets
      → IsBroadcast s planned of a d m → by + time_of_message time_a gap time_d (length m.packets) < s.now
      → whole_at s m ≤ by + time_of_message time_a gap time_d (length m.packets)
  message_whole m by soon follow known seen =
      let (in_m, is_m, of_m) = known.0 in
      let sent : frame_end s m.announcement ≤ s.queued m.announcement + time_a = first m.announcement in_m is_m of_m (omega (arith, soon, seen)) in
      let whole : packets_end s m.announcement m.packets ≤ (by + time_a) + length m.packets * (gap + time_d) =
      packets_whole m.announcement (by + time_a) m.packets (omega (arith, sent, soon)) follow known.1 (omega (arith, seen)) in
      omega (arith, whole)

  pub messages_whole : (ms : List LongMessage) (by : ℕ) → AreSentInTurn s gap by ms → All (IsBroadcast s planned of a d) ms
      → by + time_of_messages time_a gap time_d ms < s.now → all_whole_at s by ms ≤ by + time_of_messages time_a gap time_d ms
  unfolding AreSentInTurn all_whole_at
  messages_whole [] by sent known seen = omega arith
  messages_whole (m ∷ ms) by sent known seen =
      let all = sum_by-cons (λ (x : LongMessage). time_of_message time_a gap time_d (length x.packets)) m ms in
      let one : whole_at s m ≤ by + time_of_message time_a gap time_d (length m.packets) =
      message_whole m by sent.0 sent.1 (All-head (IsBroadcast s planned of a d) m ms known) (omega (arith, seen, all)) in
      let others : all_whole_at s (whole_at s m) ms ≤ whole_at s m + time_of_messages time_a gap time_d ms =
      messages_whole ms (whole_at s m) sent.2 (All-tail (IsBroadcast s planned of a d) m ms known) (omega (arith, seen, all, one)) in
      omega (arith, others, one, all)
