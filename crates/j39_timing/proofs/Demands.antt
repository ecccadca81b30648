-- Where less may be wanted of streams than their pace allows.
use Rattle.std.proofs.Common.{◌≡◌, ℕ, ◌+◌, ◌-◌, ◌<◌, ◌≤◌, Bool, true, cond, ◌&&◌, eqb, leb, ltb, List, Option, None, Some, sym, ap, subst, ◌∙◌, arith, inl, inr}
use Rattle.std.specs.Option.{option_and_then}
use Rattle.std.proofs.lemmas.Bool.{and_parts, and_from, cases_Bool, eqb-true, le-leb, leb-true, lt-ltb, ltb-true}
use Rattle.std.proofs.lemmas.Option.{none-some}
use Rattle.j39_timing.specs.AnyOrder.{later_by}
use Rattle.j39_timing.specs.FrameStreams.{Origins}
use Rattle.j39_timing.specs.TimedFrames.{Schedule}
use Rattle.j39_timing.specs.Sums.{total}
use Rattle.j39_timing.specs.Traffic.{AreAsWanted, queuings_in, releases_in}
use Rattle.j39_timing.specs.Waits.{Demand, IsSpaced, demand_of, frames_of_want, frames_wanted, lesser, lesser_share, of_askers, of_sender, share}
use Rattle.j39_timing.specs.declared.stream.Stream.{Stream}
use Rattle.j39_timing.proofs.Sums.{total-le}

-- where nothing is reported of what is wanted
pub spaced_unwanted : (stream : Stream) → stream.wanted ≡ None → IsSpaced stream
spaced_unwanted stream none = ap (option_and_then of_askers) none

pub no_demand : (demands : List Demand) (stream : Stream) → stream.wanted ≡ None → demand_of demands stream ≡ None
no_demand demands stream none = ap (option_and_then (of_sender demands)) none

pub nothing_wanted : (s : Schedule) (planned : ℕ → Bool) (of : Origins) (demands : List Demand) (stream : ℕ → Stream)
    → ((j : ℕ) → (stream j).wanted ≡ None) → AreAsWanted s planned of demands stream
nothing_wanted s planned of demands stream none = record {
  by_sender = λ j t span demand is. absurd (none-some demand (sym (no_demand demands (stream j) (none j)) ∙ is));
  by_askers = λ j t span want is. absurd (none-some want (sym (spaced_unwanted (stream j) (none j)) ∙ is));
}

-- the lesser is no more than the pace allows
pub lesser-most : (span : ℕ) (stream : Stream) (wanted : Option Demand) → lesser span stream wanted ≤ share span stream
lesser-most span stream None = omega arith
lesser-most span stream (Some demand) = omega arith

pub spaced-most : (demands : List Demand) (span : ℕ) (stream : Stream) → IsSpaced stream → lesser_share demands span stream ≤ share span stream
spaced-most demands span stream spaced = rw (spaced) (lesser-most span stream (demand_of demands stream))

-- where frames are queued as much later as their streams then say
module _ (s then : Schedule) (planned : ℕ → Bool) (of : Origins) (demands : List Demand) (stream : ℕ → Stream) (more : ℕ → ℕ)
    (not_before : (p : ℕ) → p < s.count → planned p ≡ true → s.queued p ≤ then.queued p)
    (later : (p : ℕ) → p < s.count → planned p ≡ true → then.queued p ≤ s.queued p + more (of.source p)) (same : then.count ≡ s.count)
    (known : AreAsWanted s planned of demands stream) where
  queued_before : (j t span : ℕ) → queuings_in then planned of j t span ≤ queuings_in s planned of j (t - more j) (span + more j)
  queued_before j t span =
      subst (λ n. total n (λ p. cond (planned p && (eqb (of.source p) j && (leb t (then.queued p) && ltb (then.queued p) (t + span)))) 1 0)
      ≤ queuings_in s planned of j (t - more j) (span + more j)) (sym same)
      (total-le s.count (λ p. cond (planned p && (eqb (of.source p) j && (leb t (then.queued p) && ltb (then.queued p) (t + span)))) 1 0)
      (λ p. cond (planned p && (eqb (of.source p) j && (leb (t - more j) (s.queued p) && ltb (s.queued p) (t - more j + (span + more j))))) 1 0) (λ p in_p.
      elim (cases_Bool (planned p && (eqb (of.source p) j && (leb t (then.queued p) && ltb (then.queued p) (t + span))))) [
        | inr fails ↦ rw (fails) (omega arith)
        | inl is ↦
            let one = and_parts (planned p) (eqb (of.source p) j && (leb t (then.queued p) && ltb (then.queued p) (t + span))) is in
            let two = and_parts (eqb (of.source p) j) (leb t (then.queued p) && ltb (then.queued p) (t + span)) one.1 in
            let three = and_parts (leb t (then.queued p)) (ltb (then.queued p) (t + span)) two.1 in
            let from : t ≤ then.queued p = leb-true t (then.queued p) three.0 in
            let to : then.queued p < t + span = ltb-true (then.queued p) (t + span) three.1 in
            let first = not_before p in_p one.0 in
            let last : then.queued p ≤ s.queued p + more j = subst (λ k. then.queued p ≤ s.queued p + more k) (eqb-true (of.source p) j two.0) (later p in_p one.0) in
            let there : (planned p && (eqb (of.source p) j && (leb (t - more j) (s.queued p) && ltb (s.queued p) (t - more j + (span + more j))))) ≡ true =
            and_from (planned p) (eqb (of.source p) j && (leb (t - more j) (s.queued p) && ltb (s.queued p) (t - more j + (span + more j)))) one.0
            (and_from (eqb (of.source p) j) (leb (t - more j) (s.queued p) && ltb (s.queued p) (t - more j + (span + more j))) two.0
            (and_from (leb (t - more j) (s.queued p)) (ltb (s.queued p) (t - more j + (span + more j))) (le-leb (t - more j) (s.queued p) (omega (arith, from, last)))
            (lt-ltb (s.queued p) (t - more j + (span + more j)) (omega (arith, first, to))))) in
            rw (is, there) (omega arith)
      ]))

  pub wanted_later : AreAsWanted then planned of demands (λ j. later_by (more j) (stream j))
  wanted_later = record {
    by_sender = by_sender;
    by_askers = λ j t span want is.
        let before = queued_before j t span in
        let few : queuings_in s planned of j (t - more j) (span + more j) ≤ frames_of_want (span + more j + (stream j).jitter) want =
        known.by_askers j (t - more j) (span + more j) want is in
        let late : span + more j + (stream j).jitter ≡ span + ((stream j).jitter + more j) = omega arith in
        let all = ap (λ n. frames_of_want n want) late in
        omega (arith, before, few, all);
  }
    where
      by_sender : (j t span : ℕ) (demand : Demand) → demand_of demands (stream j) ≡ Some demand → releases_in then planned of j t span ≤ frames_wanted span demand
      by_sender j t span demand is = subst (λ n. total n (λ p. cond (planned p && (eqb (of.source p) j && (leb t (of.since p) && ltb (of.since p) (t + span)))) 1 0) ≤ frames_wanted span demand) (sym same) (known.by_sender j t span demand is)
