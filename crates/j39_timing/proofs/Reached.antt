-- Frames that are all queued at once and go one behind the other: who waits, waits for all of those before it.
use Rattle.std.proofs.Common.{◌≡◌, ℕ, ◌+◌, ◌*◌, ◌-◌, ◌/◌, ◌%◌, ◌<◌, ◌≤◌, Bool, true, false, not, ◌&&◌, cond, ltb, leb, None, [], refl, arith, inl, inr}
use Rattle.std.proofs.Math.Nat.{div-add-mod, mod-lt}
use Rattle.std.proofs.lemmas.Bool.{and_parts, both_ways, cases_Bool, cases_lt, lt-ltb, ltb-true}
use Rattle.j39_timing.specs.TimedFrames.{Schedule, IsLegal, IsOnBusAt, Waits}
use Rattle.j39_timing.specs.FrameStreams.{KeepsStream, Origins}
use Rattle.j39_timing.specs.Traffic.{Others, Traffic, is_other_queued, others_queued}
use Rattle.j39_timing.specs.declared.stream.Stream.{Stream}
use Rattle.j39_timing.proofs.Sums.{total-none}

-- so many frames of 160 bits, with these identifiers
abbrev pub in_turn : ℕ → (ℕ → ℕ) → Schedule
in_turn count ident = record { count = count; queued = λ p. 0; start = λ p. p * 160; bits = λ p. 160; ident = ident; now = 1000 }

abbrev pub single_frames : ℕ → Stream
single_frames j = record { frames = 1; period = 1000; bits = 160; jitter = 0; wanted = None }

-- streams of such frames, all of one identifier each
abbrev pub single_streams : ℕ → (ℕ → ℕ) → (ℕ → ℕ → Bool) → Traffic
single_streams count ident are_twins =
    record { count = count; stream = single_frames; demands = []; least = ident; greatest = ident; are_twins = are_twins }

abbrev pub of_sources : (ℕ → ℕ) → Origins
of_sources source = record { source = source; turn = λ p. 0; since = λ p. 0 }

pub never_idle : (count : ℕ) (ident : ℕ → ℕ) (p t : ℕ) → p < count → Waits (in_turn count ident) p t
    → (q : ℕ) × (q < count) × IsOnBusAt (in_turn count ident) q t
never_idle count ident p t in_p (after, until) =
    let is : 160 * (t / 160) + t % 160 ≡ t = div-add-mod t 160 in
    let rest : t % 160 < 160 = mod-lt t (omega arith) in
    (t / 160, omega (arith, is, until, in_p), (omega (arith, is), omega (arith, is, rest)))

pub in_turn_legal : (count : ℕ) (ident : ℕ → ℕ)
    → ((p q : ℕ) → p < count → q < count → Waits (in_turn count ident) p (q * 160) → ident q ≤ ident p) → IsLegal (in_turn count ident)
in_turn_legal count ident in_order = record {
  positive = λ p _. omega arith;
  queued_first = λ p _. omega arith;
  alone = λ p q t in_p in_q early on_p on_q. omega arith;
  never_idle = λ p t in_p early waits. never_idle count ident p t in_p waits;
  in_order = λ p q in_p in_q early waits. in_order p q in_p in_q waits;
}

pub keeps_single : (count streams : ℕ) (ident source : ℕ → ℕ) (p : ℕ) → source p < streams
    → KeepsStream (in_turn count ident) streams single_frames (of_sources source) p
keeps_single count streams ident source p known = record {
  known = known;
  bits_at_most = omega arith;
  turns = omega arith;
  release_first = omega arith;
  jitter_at_most = omega arith;
}

-- ---- the first frame isn't planned, and all behind it have a smaller identifier

abbrev pub no_others : Others
no_others = record { least = 1; count = 0 }

abbrev pub but_the_first : ℕ → Bool
but_the_first p = ltb 0 p

pub unplanned_first : (p : ℕ) → not (but_the_first p) ≡ true → p ≤ 0
unplanned_first p is = elim (cases_lt 0 p) [
  | inl some ↦ absurd (both_ways (not (but_the_first p)) (let planned = lt-ltb 0 p some in rw (planned) refl) is)
  | inr none ↦ none
]

pub none_before : (count p from to : ℕ) → others_queued (in_turn count (λ p. 1 - p)) but_the_first (1 - p) from to ≡ 0
none_before count p from to = total-none count (λ q. cond (is_other_queued (in_turn count (λ p. 1 - p)) but_the_first (1 - p) from to q) 1 0) (λ q in_q.
    elim (cases_Bool (is_other_queued (in_turn count (λ p. 1 - p)) but_the_first (1 - p) from to q)) [
      | inr fails ↦ rw (fails) refl
      | inl other ↦
          let one = and_parts (not (but_the_first q)) (ltb (1 - q) (1 - p) && (leb 0 to && ltb from (q * 160))) other in
          let less : 1 - q < 1 - p = ltb-true (1 - q) (1 - p) (and_parts (ltb (1 - q) (1 - p)) (leb 0 to && ltb from (q * 160)) one.1).0 in
          let none = unplanned_first q one.0 in
          absurd (omega (arith, less, none))
    ])

pub others_above : (p : ℕ) → but_the_first p ≡ false → 1 ≤ 1 - p
others_above p isnt = elim (cases_lt 0 p) [
  | inl some ↦ absurd (both_ways (but_the_first p) isnt (lt-ltb 0 p some))
  | inr none ↦ omega (arith, none)
]
