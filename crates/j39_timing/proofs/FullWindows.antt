-- A frame that waits longer than there is room for sees more on the bus than the streams can queue: in windows of a wait and one bit more,
-- from where the bus is busy on.
use Rattle.std.proofs.Common.{◌≡◌, ℕ, zero, suc, ◌+◌, ◌*◌, ◌-◌, ◌/◌, ◌<◌, ◌≤◌, Bool, true, false, cond, ◌&&◌, eqb, ltb, leb, List, Option, None, Some, refl}
use Rattle.std.proofs.Common.{sym, subst, arith, inl, inr}
use Rattle.std.proofs.Math.Nat.{mul-le-mul_left, div-mul-le_self, lt-div-mul-add}
use Rattle.std.specs.Int.{div_ceil}
use Rattle.std.proofs.lemmas.Bool.{and_parts, and_from, both_ways, cases_lt, cases_Bool, le-leb, lt-ltb, leb-true, ltb-true, eqb-true}
use Rattle.std.proofs.lemmas.Grind.{div_ceil_times}
use Rattle.j39_timing.specs.Sums.{total}
use Rattle.j39_timing.specs.TimedFrames.{Schedule, demand}
use Rattle.j39_timing.specs.declared.stream.Stream.{Stream}
use Rattle.j39_timing.specs.FrameStreams.{Origins, AreOfStreams}
use Rattle.j39_timing.specs.Traffic.{AreAsWanted, queuings_in, releases_in}
use Rattle.j39_timing.specs.Waits.{Demand, IsSpaced, asked_share, askers_want, demand_of, frames_of_want, frames_wanted, lesser_share, share, wanted_share}
use Rattle.j39_timing.specs.declared.wants.Want.{Want}
use Rattle.j39_timing.proofs.StreamSums.{all_streams, inside as in_window, inside_from, inside_parts, is_of, of_stream, queued_in}
use Rattle.j39_timing.proofs.Sums.{total-le, total-less, total-none, total-times, total-two}
use Rattle.j39_timing.proofs.WaitingWindow.{IsBusyWith, going_demand, is_within, others_going}

-- what is queued in two windows is what is queued in each
demand-split : (s : Schedule) (c t a b : ℕ) → demand s c t (a + b) ≤ demand s c t a + demand s c (t + a) b
demand-split s c t a b =
    total-two s.count (λ p. cond (ltb (s.ident p) c && (leb t (s.queued p) && ltb (s.queued p) (t + (a + b)))) (s.bits p) 0)
    (λ p. cond (ltb (s.ident p) c && (leb t (s.queued p) && ltb (s.queued p) (t + a))) (s.bits p) 0)
    (λ p. cond (ltb (s.ident p) c && (leb (t + a) (s.queued p) && ltb (s.queued p) ((t + a) + b))) (s.bits p) 0) (λ p in_p.
    elim (cases_Bool (ltb (s.ident p) c && (leb t (s.queued p) && ltb (s.queued p) (t + (a + b))))) [
      | inr fails ↦ rw (fails) (omega arith)
      | inl is ↦
          let one = and_parts (ltb (s.ident p) c) (leb t (s.queued p) && ltb (s.queued p) (t + (a + b))) is in
          let two = and_parts (leb t (s.queued p)) (ltb (s.queued p) (t + (a + b))) one.1 in
          let low : t ≤ s.queued p = leb-true t (s.queued p) two.0 in
          let high : s.queued p < t + (a + b) = ltb-true (s.queued p) (t + (a + b)) two.1 in
          elim (cases_lt (s.queued p) (t + a)) [
            | inl first ↦
                let here : (ltb (s.ident p) c && (leb t (s.queued p) && ltb (s.queued p) (t + a))) ≡ true =
                and_from (ltb (s.ident p) c) (leb t (s.queued p) && ltb (s.queued p) (t + a)) one.0
                (and_from (leb t (s.queued p)) (ltb (s.queued p) (t + a)) two.0 (lt-ltb (s.queued p) (t + a) first)) in
                rw (is, here) (omega arith)
            | inr second ↦
                let there : (ltb (s.ident p) c && (leb (t + a) (s.queued p) && ltb (s.queued p) ((t + a) + b))) ≡ true =
                and_from (ltb (s.ident p) c) (leb (t + a) (s.queued p) && ltb (s.queued p) ((t + a) + b)) one.0
                (and_from (leb (t + a) (s.queued p)) (ltb (s.queued p) ((t + a) + b)) (le-leb (t + a) (s.queued p) second)
                (lt-ltb (s.queued p) ((t + a) + b) (omega arith))) in
                rw (is, there) (omega arith)
          ]
    ])

-- k windows have k times as much at most
demand-windows : (s : Schedule) (c span most : ℕ) → ((t : ℕ) → demand s c t span ≤ most) → (k t : ℕ) → demand s c t (k * span) ≤ k * most
demand-windows s c span most each zero t =
    let none : demand s c t (0 * span) ≡ 0 =
    total-none s.count (λ p. cond (ltb (s.ident p) c && (leb t (s.queued p) && ltb (s.queued p) (t + 0 * span))) (s.bits p) 0) (λ p in_p.
    elim (cases_Bool (ltb (s.ident p) c && (leb t (s.queued p) && ltb (s.queued p) (t + 0 * span)))) [
      | inr fails ↦ rw (fails) refl
      | inl is ↦
          let one = and_parts (ltb (s.ident p) c) (leb t (s.queued p) && ltb (s.queued p) (t + 0 * span)) is in
          let two = and_parts (leb t (s.queued p)) (ltb (s.queued p) (t + 0 * span)) one.1 in
          let low : t ≤ s.queued p = leb-true t (s.queued p) two.0 in
          let high : s.queued p < t + 0 * span = ltb-true (s.queued p) (t + 0 * span) two.1 in
          absurd (omega arith)
    ]) in
    omega arith
demand-windows s c span most each (suc k) t =
    let first : demand s c t span ≤ most = each t in
    let rest : demand s c (t + span) (k * span) ≤ k * most = demand-windows s c span most each k (t + span) in
    let parts : demand s c t (span + k * span) ≤ demand s c t span + demand s c (t + span) (k * span) = demand-split s c t span (k * span) in
    let same : suc k * span ≡ span + k * span = omega arith in
    subst (λ n. demand s c t n ≤ suc k * most) (sym same) (omega arith)

-- one of the values counts
pub total-one : (n : ℕ) (f : ℕ → ℕ) (u d : ℕ) → u < n → d ≤ f u → d ≤ total n f
total-one n f u d in_u is =
    let more : total n (λ i. 0) + d ≤ total n f = total-less n (λ i. 0) f u d in_u (omega arith) (λ i inside. omega arith) in
    omega arith

-- k + 1 windows of a wait and one bit more can't be full of what there is room for in k + 1 waits, the frame itself left out once
too_many : (k longest wait count bits shares planned others : ℕ) → suc k * (wait + 1) ≤ longest + (planned + others)
    → planned + bits ≤ suc k * shares → others ≤ longest * count → longest * (1 + count) + shares ≤ wait + bits → bits ≤ longest → ⊥
too_many k longest wait count bits shares planned others has most times demand_fits small =
    let all : suc k * (longest * (1 + count) + shares) ≤ suc k * (wait + bits) = mul-le-mul_left (suc k) demand_fits in
    let each : k * bits ≤ k * (longest * (1 + count)) = mul-le-mul_left k (omega arith) in
    omega arith

-- what the streams that may go can queue in a wait and the bit behind
abbrev pub shares_of : ℕ → (ℕ → Stream) → List Demand → (ℕ → Bool) → ℕ → ℕ
shares_of count stream demands may wait = total count (λ j. cond (may j) (lesser_share demands (wait + 1) (stream j)) 0)

module _ (s : Schedule) (count : ℕ) (stream : ℕ → Stream) (demands : List Demand) (planned : ℕ → Bool) (of : Origins)
    (known : AreOfStreams s (λ p. planned p ≡ true) count stream of) (as_wanted : AreAsWanted s planned of demands stream) (positive : (j : ℕ) → j < count → 0 < (stream j).period)
    (may with_it : ℕ → Bool) (goes : (p : ℕ) → p < s.count → planned p ≡ true → with_it p ≡ true → may (of.source p) ≡ true) (wait : ℕ) where
  -- the schedule in which only the planned frames that go have a smaller identifier than 1, each as long as its stream says
  abbrev going_only : Schedule
  going_only = record {
    count = s.count;
    queued = s.queued;
    start = s.start;
    bits = λ p. (stream (of.source p)).bits;
    ident = λ p. cond (planned p && with_it p) 0 1;
    now = s.now;
  }

  its_parts : (p : ℕ) → cond (planned p && with_it p) 0 1 < 1 → (planned p ≡ true) × (with_it p ≡ true)
  its_parts p less = elim (cases_Bool (planned p && with_it p)) [
    | inl is ↦ and_parts (planned p) (with_it p) is
    | inr isnt ↦ absurd (let none : 1 < 1 = subst (λ (b : Bool). cond b 0 1 < 1) isnt less in omega arith)
  ]

  abbrev before : ℕ → Stream
  before j = record {
    frames = cond (may j) (stream j).frames 0;
    period = (stream j).period;
    bits = (stream j).bits;
    jitter = (stream j).jitter;
    wanted = (stream j).wanted;
  }

  abbrev slots : ℕ → ℕ
  slots j = div_ceil (wait + 1 + (stream j).jitter) (stream j).period

  of_streams : AreOfStreams going_only (λ p. going_only.ident p < 1) count before of
  of_streams = record {
    keeps = λ p in_p less.
        let (is, with_p) = its_parts p less in
        let keeps = known.keeps p in_p is in
        record {
          known = keeps.known;
          bits_at_most = omega arith;
          turns = subst (λ (b : Bool). of.turn p < cond b (stream (of.source p)).frames 0) (sym (goes p in_p is with_p)) keeps.turns;
          release_first = keeps.release_first;
          jitter_at_most = keeps.jitter_at_most;
        };
    spaced = λ p q in_p in_q differ less_p less_q same turn paced.
        known.spaced p q in_p in_q differ (its_parts p less_p).0 (its_parts q less_q).0 same turn paced;
  }

  abbrev shares : ℕ
  shares = shares_of count stream demands may wait

  -- what a stream queues in such a window
  abbrev queued : ℕ → ℕ → ℕ
  queued t j = queued_in going_only 1 count before of of_streams t (wait + 1) j

  -- is no more than its pace allows
  at_pace : (t j : ℕ) → j < count → IsSpaced (stream j) → queued t j ≤ cond (may j) (share (wait + 1) (stream j)) 0
  at_pace t j below paced =
      let cover : wait + 1 + (stream j).jitter ≤ slots j * (stream j).period =
      (div_ceil_times (wait + 1 + (stream j).jitter) (stream j).period (positive j below)).0 in
      let most : queued t j ≤ (before j).frames * (slots j * (before j).bits) =
      of_stream going_only 1 count before of of_streams j (slots j) t (wait + 1) paced cover in
      let same : (before j).frames * (slots j * (before j).bits) ≤ cond (may j) (share (wait + 1) (stream j)) 0 =
      elim (may j) as (λ e. cond e (stream j).frames 0 * (slots j * (stream j).bits) ≤ cond e (share (wait + 1) (stream j)) 0) [
        | true ↦ omega arith
        | false ↦ omega arith
      ] in
      omega (arith, most, same)

  -- nor than is wanted
  at_demand : (t j : ℕ) (wanted : Demand) → demand_of demands (stream j) ≡ Some wanted
      → queued t j ≤ frames_wanted (wait + 1 + (stream j).jitter) wanted * (stream j).bits
  at_demand t j wanted its =
      let few : releases_in s planned of j (t - (stream j).jitter) (wait + 1 + (stream j).jitter) ≤ frames_wanted (wait + 1 + (stream j).jitter) wanted =
      as_wanted.by_sender j (t - (stream j).jitter) (wait + 1 + (stream j).jitter) wanted its in
      let each : queued t j ≤ (stream j).bits * releases_in s planned of j (t - (stream j).jitter) (wait + 1 + (stream j).jitter) =
      total-times s.count (λ p. is_of going_only 1 count before of of_streams j p && in_window t (wait + 1) (s.queued p))
      (λ p. planned p && (eqb (of.source p) j && (leb (t - (stream j).jitter) (of.since p) && ltb (of.since p) (t - (stream j).jitter + (wait + 1 + (stream j).jitter)))))
      (λ p. (stream (of.source p)).bits) (stream j).bits (λ p in_p is.
      let one = and_parts (is_of going_only 1 count before of of_streams j p) (in_window t (wait + 1) (s.queued p)) is in
      let two = and_parts (ltb (going_only.ident p) 1) (eqb (of.source p) j) one.0 in
      let (of_plan, _) = its_parts p (ltb-true (going_only.ident p) 1 two.0) in
      let at : of.source p ≡ j = eqb-true (of.source p) j two.1 in
      let (low, high) = inside_parts t (wait + 1) (s.queued p) one.1 in
      let keeps = known.keeps p in_p of_plan in
      let first : of.since p ≤ s.queued p = keeps.release_first in
      let last : s.queued p ≤ of.since p + (stream j).jitter = subst (λ i. s.queued p ≤ of.since p + (stream i).jitter) at keeps.jitter_at_most in (
        and_from (planned p) (eqb (of.source p) j && (leb (t - (stream j).jitter) (of.since p) && ltb (of.since p) (t - (stream j).jitter + (wait + 1 + (stream j).jitter))))
            of_plan (and_from (eqb (of.source p) j) (leb (t - (stream j).jitter) (of.since p) && ltb (of.since p) (t - (stream j).jitter + (wait + 1 + (stream j).jitter))) two.1
            (inside_from (t - (stream j).jitter) (wait + 1 + (stream j).jitter) (of.since p) (omega (arith, low, last)) (omega (arith, high, first)))),
        subst (λ i. (stream i).bits ≤ (stream j).bits) (sym at) (omega arith),
      )) in
      let most : (stream j).bits * releases_in s planned of j (t - (stream j).jitter) (wait + 1 + (stream j).jitter)
      ≤ (stream j).bits * frames_wanted (wait + 1 + (stream j).jitter) wanted = mul-le-mul_left (stream j).bits few in
      let turned : (stream j).bits * frames_wanted (wait + 1 + (stream j).jitter) wanted ≡ frames_wanted (wait + 1 + (stream j).jitter) wanted * (stream j).bits =
      grind arith in
      omega (arith, each, most, turned)

  -- nor than others ask for
  at_asked : (t j : ℕ) (want : Want) → askers_want (stream j) ≡ Some want → queued t j ≤ asked_share (wait + 1) (stream j) want
  at_asked t j want its =
      let few : queuings_in s planned of j t (wait + 1) ≤ frames_of_want (wait + 1 + (stream j).jitter) want = as_wanted.by_askers j t (wait + 1) want its in
      let each : queued t j ≤ (stream j).bits * queuings_in s planned of j t (wait + 1) =
      total-times s.count (λ p. is_of going_only 1 count before of of_streams j p && in_window t (wait + 1) (s.queued p))
      (λ p. planned p && (eqb (of.source p) j && in_window t (wait + 1) (s.queued p)))
      (λ p. (stream (of.source p)).bits) (stream j).bits (λ p in_p is.
      let one = and_parts (is_of going_only 1 count before of of_streams j p) (in_window t (wait + 1) (s.queued p)) is in
      let two = and_parts (ltb (going_only.ident p) 1) (eqb (of.source p) j) one.0 in
      let (of_plan, _) = its_parts p (ltb-true (going_only.ident p) 1 two.0) in (
        and_from (planned p) (eqb (of.source p) j && in_window t (wait + 1) (s.queued p)) of_plan
            (and_from (eqb (of.source p) j) (in_window t (wait + 1) (s.queued p)) two.1 one.1),
        subst (λ i. (stream i).bits ≤ (stream j).bits) (sym (eqb-true (of.source p) j two.1)) (omega arith),
      )) in
      let most : (stream j).bits * queuings_in s planned of j t (wait + 1) ≤ (stream j).bits * frames_of_want (wait + 1 + (stream j).jitter) want =
      mul-le-mul_left (stream j).bits few in
      let turned : (stream j).bits * frames_of_want (wait + 1 + (stream j).jitter) want ≡ asked_share (wait + 1) (stream j) want = grind arith in
      omega (arith, each, most, turned)

  -- of one that may not go there is nothing
  at_none : (t j : ℕ) → may j ≡ false → queued t j ≡ 0
  at_none t j cannot =
      total-none s.count (λ p. cond (is_of going_only 1 count before of of_streams j p && in_window t (wait + 1) (s.queued p)) ((stream (of.source p)).bits) 0)
      (λ p in_p.
      elim (cases_Bool (is_of going_only 1 count before of of_streams j p && in_window t (wait + 1) (s.queued p))) [
        | inr fails ↦ rw (fails) refl
        | inl is ↦
            let one = and_parts (is_of going_only 1 count before of of_streams j p) (in_window t (wait + 1) (s.queued p)) is in
            let two = and_parts (ltb (going_only.ident p) 1) (eqb (of.source p) j) one.0 in
            let (of_plan, with_p) = its_parts p (ltb-true (going_only.ident p) 1 two.0) in
            absurd (both_ways (may j) cannot (subst (λ i. may i ≡ true) (eqb-true (of.source p) j two.1) (goes p in_p of_plan with_p)))
      ])

  at_lesser : (t j : ℕ) → j < count → queued t j ≤ cond (may j) (lesser_share demands (wait + 1) (stream j)) 0
  at_lesser t j below = elim (cases_Bool (may j)) [
    | inr cannot ↦ let none = at_none t j cannot in rw (cannot) (omega (arith, none))
    | inl can ↦ rw (can) (go (askers_want (stream j)) (demand_of demands (stream j))
        (λ spaced. subst (λ (e : Bool). queued t j ≤ cond e (share (wait + 1) (stream j)) 0) can (at_pace t j below spaced))
        (λ wanted is. at_demand t j wanted is) (λ want is. at_asked t j want is))
  ]
    where
      go : (asked : Option Want) (wanted : Option Demand) → (asked ≡ None → queued t j ≤ share (wait + 1) (stream j))
          → ((d : Demand) → wanted ≡ Some d → queued t j ≤ frames_wanted (wait + 1 + (stream j).jitter) d * (stream j).bits)
          → ((w : Want) → asked ≡ Some w → queued t j ≤ asked_share (wait + 1) (stream j) w)
          → queued t j ≤ wanted_share (wait + 1) (stream j) asked wanted
      go (Some w) wanted paced by asked = asked w refl
      go None None paced by asked = paced refl
      go None (Some d) paced by asked = let few = by d refl in let most = paced refl in omega (arith, most, few)

  window : (t : ℕ) → demand going_only 1 t (wait + 1) ≤ shares
  window t = all_streams going_only 1 count before of of_streams t (wait + 1) (λ j. cond (may j) (lesser_share demands (wait + 1) (stream j)) 0) (at_lesser t)

  -- a frame that counts in a window
  counts_in : (t span p : ℕ) → planned p ≡ true → with_it p ≡ true → is_within s t span p ≡ true
      → (ltb (cond (planned p && with_it p) 0 1) 1 && is_within s t span p) ≡ true
  counts_in t span p is with_p inside =
      let both = and_from (planned p) (with_it p) is with_p in
      and_from (ltb (cond (planned p && with_it p) 0 1) 1) (is_within s t span p) (rw (both) refl) inside

  -- the bits of frames in a window that go are no more than the streams can queue
  pub window_most : (passes : ℕ → Bool) (t : ℕ)
      → ((p : ℕ) → p < s.count → passes p ≡ true → (planned p ≡ true) × (with_it p ≡ true) × (is_within s t (wait + 1) p ≡ true))
      → total s.count (λ p. cond (passes p) (s.bits p) 0) ≤ shares_of count stream demands may wait
  window_most passes t parts =
      let most = window t in
      let all : total s.count (λ p. cond (passes p) (s.bits p) 0) ≤ demand going_only 1 t (wait + 1) =
      total-le s.count (λ p. cond (passes p) (s.bits p) 0)
      (λ p. cond (ltb (cond (planned p && with_it p) 0 1) 1 && is_within s t (wait + 1) p) ((stream (of.source p)).bits) 0) (λ p in_p.
      elim (cases_Bool (passes p)) [
        | inr fails ↦ rw (fails) (omega arith)
        | inl is ↦
            let (of_plan, with_p, inside) = parts p in_p is in
            let there = counts_in t (wait + 1) p of_plan with_p inside in
            let bits : s.bits p ≤ (stream (of.source p)).bits = (known.keeps p in_p of_plan).bits_at_most in
            rw (is, there) bits
      ]) in
      omega (arith, all, most)

  -- ---- one frame, which goes too, and those that go before it

  module _ (longest others own x : ℕ) (in_x : x < s.count) (is_planned : planned x ≡ true) (x_with : with_it x ≡ true)
      (x_bits : (stream (of.source x)).bits ≡ own) (small : own ≤ longest) (shortest : 1 ≤ s.bits x) (short : s.bits x ≤ longest)
      (demand_fits : longest * (1 + others) + shares_of count stream demands may wait ≤ wait + own) where
    -- it has room itself
    pub some_wait : 1 ≤ wait
    some_wait =
        let inside : is_within s (s.queued x) (wait + 1) x ≡ true =
        and_from (leb (s.queued x) (s.queued x)) (ltb (s.queued x) (s.queued x + (wait + 1))) (le-leb (s.queued x) (s.queued x) (omega arith))
        (lt-ltb (s.queued x) (s.queued x + (wait + 1)) (omega arith)) in
        let its = counts_in (s.queued x) (wait + 1) x is_planned x_with inside in
        let one : own ≤ demand going_only 1 (s.queued x) (wait + 1) =
        total-one s.count
        (λ p. cond (ltb (cond (planned p && with_it p) 0 1) 1 && is_within s (s.queued x) (wait + 1) p) ((stream (of.source p)).bits) 0)
        x own in_x (rw (its) (let same = x_bits in omega (arith, same))) in
        let all = window (s.queued x) in
        omega (arith, one, all, demand_fits, shortest, short)

    module _ (first : ℕ → Bool) (itself : first x ≡ false) (first_with : (p : ℕ) → planned p ≡ true → first p ≡ true → with_it p ≡ true)
        (begin : ℕ) (early : begin ≤ s.queued x) where
      -- how many windows end before the one in which it is queued
      abbrev k : ℕ
      k = (s.queued x - begin) / (wait + 1)

      before_it : k * (wait + 1) ≤ s.queued x - begin
      before_it = div-mul-le_self (s.queued x - begin) (wait + 1)

      no_more : s.queued x - begin < k * (wait + 1) + (wait + 1)
      no_more = lt-div-mul-add (omega arith)

      windows : begin + suc k * (wait + 1) ≤ s.queued x + (wait + 1)
      windows = let low = before_it in omega arith

      inside : is_within s begin (suc k * (wait + 1)) x ≡ true
      inside =
          let high = no_more in
          and_from (leb begin (s.queued x)) (ltb (s.queued x) (begin + suc k * (wait + 1))) (le-leb begin (s.queued x) early)
          (lt-ltb (s.queued x) (begin + suc k * (wait + 1)) (omega arith))

      all_planned : going_demand s planned first begin (suc k * (wait + 1)) + own ≤ suc k * shares
      all_planned =
          let theirs : demand going_only 1 begin (suc k * (wait + 1)) ≤ suc k * shares =
          demand-windows going_only 1 (wait + 1) shares window (suc k) begin in
          let less : going_demand s planned first begin (suc k * (wait + 1)) + own ≤ demand going_only 1 begin (suc k * (wait + 1)) =
          total-less s.count (λ p. cond (planned p && (first p && is_within s begin (suc k * (wait + 1)) p)) (s.bits p) 0)
          (λ p. cond (ltb (cond (planned p && with_it p) 0 1) 1 && is_within s begin (suc k * (wait + 1)) p) ((stream (of.source p)).bits) 0)
          x own in_x
          (let none : (planned x && (first x && is_within s begin (suc k * (wait + 1)) x)) ≡ false = rw (is_planned, itself) refl in
          let its = counts_in begin (suc k * (wait + 1)) x is_planned x_with inside in
          rw (none, its) (let same = x_bits in omega (arith, same)))
          (λ p in_p.
          elim (cases_Bool (planned p && (first p && is_within s begin (suc k * (wait + 1)) p))) [
            | inr fails ↦ rw (fails) (omega arith)
            | inl is ↦
                let one = and_parts (planned p) (first p && is_within s begin (suc k * (wait + 1)) p) is in
                let two = and_parts (first p) (is_within s begin (suc k * (wait + 1)) p) one.1 in
                let there = counts_in begin (suc k * (wait + 1)) p one.0 (first_with p one.0 two.0) two.1 in
                let bits : s.bits p ≤ (stream (of.source p)).bits = (known.keeps p in_p one.0).bits_at_most in
                rw (is, there) bits
          ]) in
          omega (arith, theirs, less)

      -- so the windows can't be full
      pub too_full : IsBusyWith s planned first longest x wait begin → others_going s planned first begin (s.queued x + wait) ≤ others → ⊥
      too_full is_busy fewer =
          too_many k longest wait others own shares (going_demand s planned first begin (suc k * (wait + 1)))
          (longest * others_going s planned first begin (s.queued x + wait)) (is_busy.busy (suc k * (wait + 1)) windows) all_planned
          (mul-le-mul_left longest fewer) demand_fits small
