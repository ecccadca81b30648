-- Frames that are queued in a long time on a bus that keeps to a plan, by what they are of.
use Rattle.std.proofs.Common.{◌≡◌, ℕ, ◌+◌, ◌*◌, ◌<◌, ◌≤◌, Bool, true, false, not, cond, ◌&&◌, eqb, leb, ltb}
use Rattle.std.proofs.Common.{List, None, Option, Some}
use Rattle.std.proofs.Common.{refl, sym, subst, inl, inr, arith}
use Rattle.std.proofs.lemmas.Bool.{and_from, and_parts, both_ways, cases_lt, eqb-true, false≢true, le-leb, lt-ltb, ltb-true}
use Rattle.j39_findings.specs.Findings.{Clean}
use Rattle.j39_findings.specs.Standing.{DecidesWhoStays}
use Rattle.j39_network.specs.declared.plan.Plan.{Plan}
use Rattle.j39_network.specs.declared.plan.timing.Timing.{Timing}
use Rattle.j39_network.specs.declared.plan.unit_plan.UnitPlan.{UnitPlan}
use Rattle.j39_load.specs.declared.frames.flow_frames.FlowFrames.{FlowFrames}
use Rattle.j39_load.specs.Asked.{frames_asked}
use Rattle.j39_load.specs.Demands.{demands_of}
use Rattle.j39_load.specs.KeepsPlan.{KeepsToPlan, origins_of, source_place}
use Rattle.j39_load.specs.Loads.{bits_of_ms, bits_per_ms}
use Rattle.j39_load.specs.LongRuns.{counts_in_load, is_counted, is_queued_within, seconds}
use Rattle.j39_load.specs.Clocks.{bit_time}
use Rattle.j39_load.specs.SentFrames.{Broadcasts, FrameSources, Held, IsFrameOf, Source, Single, First, InSession, Asking, Announcing, Carrying}
use Rattle.j39_load.proofs.QueueGroupFrames.{positive as positive_at}
use Rattle.j39_load.proofs.KeepingPlan.{as_wanted, of_streams}
use Rattle.j39_load.proofs.LongRuns.Rates.{IsRate, asked_rate, stream_rate}
use Rattle.j39_load.proofs.LongRuns.Streams.{later_want, more_bits, more_wanted, one_stream}
use Rattle.j39_load.proofs.Milliseconds.{window_bits}
use Rattle.j39_load.proofs.PlacedFrames.{all, asked}
use Rattle.j39_load.proofs.PlacedFrames.{traffic}
use Rattle.j39_load.proofs.PositivePeriods.{all_paced}
use Rattle.j39_load.proofs.Sending.{all_sent}
use Rattle.j39_timing.specs.Sums.{total}
use Rattle.j39_timing.specs.TimedFrames.{Schedule}
use Rattle.j39_timing.specs.Waits.{Demand, asked_share, askers_want, demand_of, lesser_share, share, wanted_share}
use Rattle.j39_timing.specs.declared.wants.Want.{Want}
use Rattle.j39_timing.specs.declared.stream.Stream.{Stream}
use Rattle.j39_timing.proofs.AskedFrames.{found}
use Rattle.j39_timing.proofs.Demands.{lesser-most}
use Rattle.j39_timing.proofs.WaitingWindow.{is_within}

-- ---- kinds of sources

abbrev pub kind : Source → ℕ
kind (Single f) = 0
kind (InSession f part) = 0
kind (Asking r) = 1
kind (Announcing u m) = 2
kind (Carrying u m k) = 3
kind (First f) = 4

pub kind_below : (x : Source) → is_counted x ≡ true → kind x < 4
kind_below (Single f) counts = omega arith
kind_below (First f) counts = absurd (false≢true counts)
kind_below (InSession f part) counts = omega arith
kind_below (Asking r) counts = omega arith
kind_below (Announcing u m) counts = omega arith
kind_below (Carrying u m k) counts = omega arith

-- the place of a source among those of its kind
abbrev pub index : Source → ℕ
index (Single f) = f
index (First f) = f
index (InSession f part) = f
index (Asking r) = r
index (Announcing u m) = u
index (Carrying u m k) = u

pub isnt : (x : Bool) → not x ≡ true → x ≡ false
isnt false is = refl
isnt true is = absurd (both_ways false refl is)

-- what is more of a stream, whatever the time is: also where others ask for its messages
abbrev pub more_of_stream : Stream → Option Want → ℕ
more_of_stream its None = more_bits (its.frames * its.bits) its.jitter its.period
more_of_stream its (Some want) = more_wanted (later_want its.jitter want) its.bits

-- what is asked for are messages of it
abbrev pub IsAskedAlike : Stream → Type 0
IsAskedAlike its = (want : Want) → askers_want its ≡ Some want → (want.frames ≡ its.frames) × (want.period ≡ its.period)

module _ (plan : Plan) (timing : Timing) (stays : UnitPlan → Bool) where
  abbrev pub whole : List (Option FlowFrames)
  whole = all plan timing stays

  abbrev stream : ℕ → Stream
  stream = (traffic plan timing stays).stream

  abbrev pub more_at : ℕ → ℕ
  more_at j = more_of_stream (stream j) (askers_want (stream j))

module _ (plan : Plan) (timing : Timing) (stays : UnitPlan → Bool) (states : DecidesWhoStays plan stays) (clean : Clean plan) (s : Schedule)
    (queued_first : (p : ℕ) → p < s.count → s.queued p ≤ s.start p) (planned : ℕ → Bool) (sent : FrameSources) (held : Held)
    (keeps : KeepsToPlan plan timing s planned sent held) (from wait n : ℕ) (span : wait + 1 ≡ bits_of_ms timing (seconds n)) (agree : timing.drift ≡ 0) where
  abbrev b : Broadcasts
  b = sent.broadcasts

  abbrev place : ℕ → ℕ
  place p = source_place plan (sent.source p)

  abbrev streams : ℕ → Stream
  streams = (traffic plan timing stays).stream

  abbrev demands : List Demand
  demands = demands_of (whole plan timing stays)

  -- ---- frames that count

  abbrev pub passes : ℕ → Bool
  passes p = counts_in_load planned sent p && is_queued_within timing (seconds n) s from p

  abbrev pub of_kind : ℕ → ℕ → Bool
  of_kind k p = passes p && eqb (kind (sent.source p)) k

  abbrev pub of_index : ℕ → ℕ → ℕ → Bool
  of_index k i p = of_kind k p && eqb (index (sent.source p)) i

  -- the bits of one flow, one request, or of one unit's packets or announcements
  abbrev pub bits_at : ℕ → ℕ → ℕ
  bits_at k i = total s.count (λ p. cond (of_index k i p) (s.bits p) 0)

  window : (p : ℕ) → is_queued_within timing (seconds n) s from p ≡ true → (from ≤ s.queued p) × (s.queued p < from + (wait + 1))
  window p is =
      let two = and_parts (not (ltb (s.queued p) from)) (ltb (s.queued p * bit_time timing.bitrate) (from * bit_time timing.bitrate + 1000 * seconds n)) is in
      let low : from ≤ s.queued p = elim (cases_lt (s.queued p) from) [
        | inl less ↦ absurd (both_ways (ltb (s.queued p) from) (isnt (ltb (s.queued p) from) two.0) (lt-ltb (s.queued p) from less))
        | inr not_less ↦ not_less
      ] in
      let high : s.queued p < from + seconds n * bits_per_ms timing.bitrate =
      window_bits timing.bitrate (seconds n) from (s.queued p)
      (ltb-true (s.queued p * bit_time timing.bitrate) (from * bit_time timing.bitrate + 1000 * seconds n) two.1) in
      (low, omega (arith, high, span))

  pub record Counts (k i p : ℕ) : Type 0 where
    pub is : planned p ≡ true
    pub its_kind : kind (sent.source p) ≡ k
    pub its_index : index (sent.source p) ≡ i
    pub inside : is_within s from (wait + 1) p ≡ true

  pub parts : (k i p : ℕ) → of_index k i p ≡ true → Counts k i p
  parts k i p counts =
      let one = and_parts (of_kind k p) (eqb (index (sent.source p)) i) counts in
      let two = and_parts (passes p) (eqb (kind (sent.source p)) k) one.0 in
      let three = and_parts (counts_in_load planned sent p) (is_queued_within timing (seconds n) s from p) two.0 in
      let (low, high) = window p three.1 in
      record {
        is = (and_parts (planned p) (is_counted (sent.source p)) three.0).0;
        its_kind = eqb-true (kind (sent.source p)) k two.1;
        its_index = eqb-true (index (sent.source p)) i one.1;
        inside = and_from (leb from (s.queued p)) (ltb (s.queued p) (from + (wait + 1))) (le-leb from (s.queued p) low)
            (lt-ltb (s.queued p) (from + (wait + 1)) high);
      }

  -- where some frame counts, it does
  abbrev pub HasOne : ℕ → ℕ → Type 0
  HasOne k i = (p : ℕ) × (p < s.count) × Counts k i p

  pub some_counts : (k i : ℕ) → 0 < bits_at k i → HasOne k i
  some_counts k i some = let (p, in_p, is) = found s.count (of_index k i) s.bits some in (p, in_p, parts k i p is)

  -- ---- one stream

  positive : (j : ℕ) → j < (traffic plan timing stays).count → 0 < (streams j).period
  positive j below = positive_at timing 0 (frames_asked (asked plan timing stays)) (all_paced timing plan stays) (all_sent timing plan stays) j below

  -- frames at one place
  pub at_lesser : (k i j : ℕ) → ((p : ℕ) → p < s.count → Counts k i p → place p ≡ j) → bits_at k i ≤ lesser_share demands (wait + 1) (streams j)
  at_lesser k i j same = one_stream s (traffic plan timing stays).count streams demands planned (origins_of plan sent)
      (of_streams plan timing stays states clean s queued_first planned sent held keeps)
      (as_wanted plan timing stays states clean s queued_first planned sent held keeps)
      positive j wait from (of_index k i) (λ p in_p counts. let x = parts k i p counts in (x.is, same p in_p x, x.inside))

  pub at_rate : (k i j rate : ℕ) → ((p : ℕ) → p < s.count → Counts k i p → place p ≡ j) → 0 < (streams j).period → IsAskedAlike (streams j)
      → IsRate timing ((streams j).frames * (streams j).bits) (streams j).period rate → bits_at k i ≤ n * rate + more_at plan timing stays j
  at_rate k i j rate same some alike is =
      let most = at_lesser k i j same in
      let all = by_askers (askers_want (streams j)) refl in
      omega (arith, most, all)
    where
      by_askers : (asked : Option Want) → askers_want (streams j) ≡ asked
          → wanted_share (wait + 1) (streams j) asked (demand_of demands (streams j)) ≤ n * rate + more_of_stream (streams j) asked
      by_askers None none =
          let lesser_most = lesser-most (wait + 1) (streams j) (demand_of demands (streams j)) in
          let all : share (wait + 1) (streams j) ≤ n * rate + more_of_stream (streams j) None =
          subst (λ (x : ℕ). share x (streams j) ≤ n * rate + more_of_stream (streams j) None) (sym span)
          (stream_rate timing (streams j) n rate some is) in
          omega (arith, lesser_most, all)
      by_askers (Some want) asked =
          let (frames, period) = alike want asked in
          subst (λ (x : ℕ). asked_share x (streams j) want ≤ n * rate + more_of_stream (streams j) (Some want)) (sym span)
          (asked_rate timing (streams j) want n rate (omega (arith, some, period))
          (subst (λ (x : ℕ). IsRate timing (x * (streams j).bits) want.period rate) (sym frames)
          (subst (λ (x : ℕ). IsRate timing ((streams j).frames * (streams j).bits) x rate) (sym period) is)))

  pub frame_of : (p : ℕ) → p < s.count → planned p ≡ true → (x : Source) → sent.source p ≡ x → IsFrameOf plan timing s held b x (sent.release p) p
  frame_of p in_p is x at = subst (λ (y : Source). IsFrameOf plan timing s held b y (sent.release p) p) at (keeps.frames p in_p is)
