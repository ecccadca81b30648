-- Who sends the packets of a broadcast in turn is not reported as silent, and what is noted of others.
use Rattle.std.proofs.Common.{◌≡◌, ℕ, zero, suc, ◌+◌, ◌-◌, ◌*◌, ◌<◌, ◌≤◌, ◌==◌, ◌++◌, Bool, true, cond, List, Option, Some, None, refl, sym, ap, ◌∙◌, arith}
use Rattle.std.proofs.Common.{inl, inr, append_assoc, eq-eqb}
use Rattle.std.proofs.lemmas.Bool.{cases_Bool, cases_lt, le-ltb, lt-ltb, ne_eqb}
use Rattle.std.proofs.Math.Nat.{mul-le-mul_left}
use Rattle.std.proofs.lemmas.List.{append-nil}
use Rattle.j39_network.specs.declared.plan.timing.Timing.{Timing}
use Rattle.j39_timing.specs.Errors.{Damaged, IsBusWithErrors}
use Rattle.j39_timing.specs.Messages.{frame_end}
use Rattle.j39_timing.specs.TimedFrames.{Schedule}
use Rattle.j39_audit.specs.Below.{each_below}
use Rattle.j39_audit.specs.BegunBroadcasts.{BegunBroadcasts, late_by, late_noted}
use Rattle.j39_audit.specs.Counting.{Noted}
use Rattle.j39_audit.specs.UnitTimes.{longest_us}
use Rattle.j39_audit.specs.Near.{excess}
use Rattle.j39_audit.specs.declared.broadcasts.BegunBroadcast.{BegunBroadcast}
use Rattle.j39_audit.proofs.Below.{each_more, each_none}
use Rattle.j39_audit_laws.specs.InTurn.{IsInTurn, NotesTheLate, late_behind, with_next, with_packets}
use Rattle.j39_audit_laws.specs.LogBounds.{IsMarkedBound, IsTimedBound, Lines}
use Rattle.j39_audit_laws.specs.MarkRecords.{AreFew, KeepsTime}
use Rattle.j39_audit_laws.proofs.OnBus.{at_most, rises}
use Rattle.j39_audit_laws.proofs.OnLogs.{marked}

-- ---- on a bus

-- the clock of the plan may differ more, so that more time is left
longest_least : (t : Timing) (ms : ℕ) → 1001 * ms ≤ longest_us t ms
longest_least t ms =
    let d = t.drift in
    let more : 1001 * ms * 1000000 ≤ 1001 * ms * (1000000 + d) = mul-le-mul_left (1001 * ms) (omega arith) in
    omega (arith, more)

no_excess : (idle : Option ℕ) (upper : ℕ) → ((x : ℕ) → idle ≡ Some x → x ≤ upper) → excess idle upper ≡ None
unfolding excess
no_excess None upper below = refl
no_excess (Some x) upper below = rw (le-ltb upper x (below x refl)) refl

none_late : (t : Timing) (idle : Option ℕ) (one : BegunBroadcast) → excess idle (one.moment + longest_us t t.broadcast_gap_most) ≡ None
    → late_by t idle one ≡ None
none_late t idle one none = elim (cases_Bool (one.left == 0)) [
  | inl last ↦ rw last refl
  | inr more ↦ rw more none
]

module _ (s : Schedule) (d : Damaged) (log : Lines) (fast : log.us ≤ 8) (keeps : KeepsTime log.us log.clock) (bus : IsBusWithErrors s d)
    (short : (q : ℕ) → q < s.count → s.bits q ≤ 160) (seldom : AreFew d log.few) where
  queued_by : (ms g p : ℕ) → IsInTurn s log.us ms g p → log.clock (s.queued p) ≤ log.clock (frame_end s g) + 1001 * (1000 * ms)
  queued_by ms g p turn = elim (cases_lt (s.queued p) (frame_end s g)) [
    | inl before ↦ let rising = rises log.us log.clock keeps (s.queued p) (frame_end s g) (omega (arith, before)) in omega (arith, rising)
    | inr behind ↦ at_most log.us log.clock keeps (frame_end s g) (s.queued p) (1000 * ms) behind turn.within
  ]

  in_time : (ms g p moment x : ℕ) → IsTimedBound s log g moment → IsInTurn s log.us ms g p → IsMarkedBound s log 0 p x → x ≤ moment + 1001 * ms
  in_time ms g p moment x timed turn mark =
      let bound = marked s d log fast keeps bus short seldom 0 0 (λ k. true) s.queued (λ k. 0) (λ k. record { lower = None; upper = 0 })
      (λ q in_q is. omega arith) (λ q in_q is. omega arith) p x mark p turn.known refl (omega arith) in
      let since = queued_by ms g p turn in
      let at = timed.at.1 in
      let is = timed.is in
      omega (arith, bound, since, at, is)

pub sends_in_turn : (s : Schedule) (d : Damaged) (log : Lines) (t : Timing) (one : BegunBroadcast) (g p : ℕ) (idle : Option ℕ)
    → log.us ≤ 8 → KeepsTime log.us log.clock → IsBusWithErrors s d → ((q : ℕ) → q < s.count → s.bits q ≤ 160) → AreFew d log.few
    → IsTimedBound s log g one.moment → IsInTurn s log.us t.broadcast_gap_most g p → ((x : ℕ) → idle ≡ Some x → IsMarkedBound s log 0 p x)
    → late_by t idle one ≡ None
sends_in_turn s d log t one g p idle fast keeps bus short seldom timed turn mark =
    none_late t idle one (no_excess idle (one.moment + longest_us t t.broadcast_gap_most) (λ x is.
    let least = longest_least t t.broadcast_gap_most in
    let soon = in_time s d log fast keeps bus short seldom t.broadcast_gap_most g p one.moment x timed turn (mark x is) in
    omega (arith, least, soon)))

-- ---- what is noted

module _ (t : Timing) (u count : ℕ) (moments lines : ℕ → ℕ) (idles : ℕ → Option ℕ) (b : BegunBroadcasts) where
  there : (n : ℕ) → (with_packets t u count moments lines idles n b).begun u ≡ Some (record { left = count - n; moment = moments n; line = lines n })
  unfolding with_packets
  there zero =
      let left : ℕ → Option BegunBroadcast = λ k. Some (record { left = k; moment = moments 0; line = lines 0 }) in
      let same : count ≡ count - 0 = omega arith in
      ap (λ (i : Bool). cond i (left count) (b.begun u)) (eq-eqb u u refl) ∙ ap left same
  there (suc n) =
      let before = with_packets t u count moments lines idles n b in
      let left : ℕ → Option BegunBroadcast = λ k. Some (record { left = k; moment = moments (suc n); line = lines (suc n) }) in
      let same : count - n - 1 ≡ count - suc n = omega arith in
      ap (λ (o : Option BegunBroadcast). (with_next t u (idles (suc n)) (moments (suc n)) (lines (suc n)) o before).begun u) (there n)
      ∙ ap (λ (i : Bool). cond i (left (count - n - 1)) (before.begun u)) (eq-eqb u u refl) ∙ ap left same

  late_here : (n : ℕ) → late_noted u (lines n) (late_by t (idles (suc n)) (record { left = count - n; moment = moments n; line = lines n }))
      ≡ late_behind t u count moments lines idles n
  late_here n =
      elim (cases_lt n count) [
        | inl more ↦ rw (ne_eqb (count - n) 0 (omega (arith, more)), lt-ltb n count more) refl
        | inr last ↦ rw (eq-eqb (count - n) 0 (omega (arith, last)), le-ltb n count last) refl
      ]

  noted : (n : ℕ) → (with_packets t u count moments lines idles n b).late ≡ b.late ++ each_below (late_behind t u count moments lines idles) n
  unfolding with_packets
  noted zero = sym (append-nil b.late) ∙ ap (λ (l : List Noted). b.late ++ l) (sym (each_none (late_behind t u count moments lines idles)))
  noted (suc n) =
      let before = with_packets t u count moments lines idles n b in
      let more = late_behind t u count moments lines idles in
      let one : BegunBroadcast = record { left = count - n; moment = moments n; line = lines n } in
      let next : suc n ≡ n + 1 = omega arith in
      let whole : each_below more (suc n) ≡ each_below more n ++ more n = ap (λ (k : ℕ). each_below more k) next ∙ each_more more n in
      ap (λ (o : Option BegunBroadcast). (with_next t u (idles (suc n)) (moments (suc n)) (lines (suc n)) o before).late) (there n)
      ∙ ap (λ (l : List Noted). l ++ late_noted u one.line (late_by t (idles (suc n)) one)) (noted n)
      ∙ ap (λ (l : List Noted). (b.late ++ each_below more n) ++ l) (late_here n)
      ∙ append_assoc b.late (each_below more n) (more n) ∙ ap (λ (l : List Noted). b.late ++ l) (sym whole)

pub notes_the_late : NotesTheLate
notes_the_late t u count moments lines idles n b = noted t u count moments lines idles b n
