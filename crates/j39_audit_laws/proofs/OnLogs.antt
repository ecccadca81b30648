-- Who keeps its own stream is not reported by the idle bits of a log.
use Rattle.std.proofs.Common.{ℕ, ◌+◌, ◌-◌, ◌<◌, ◌≤◌, Bool, subst, sym}
use Rattle.j39_timing.specs.Errors.{Damaged, IsBusWithErrors}
use Rattle.j39_timing.specs.TimedFrames.{Schedule}
use Rattle.j39_audit.specs.declared.window.Window.{Window}
use Rattle.j39_audit_laws.specs.KeptStreams.{StreamsAreNotNear, StreamsAreNotSilent}
use Rattle.j39_audit_laws.specs.LogBounds.{AreOfLog, IsMarkedBound, Lines}
use Rattle.j39_audit_laws.specs.MarkRecords.{AreFew, KeepsTime, longest_reach}
use Rattle.j39_audit_laws.specs.StreamRecords.{AreBounds, AreReleasedFirst, HaveJitter, IsBoundFrom, IsOneAtATime}
use Rattle.j39_audit_laws.proofs.Idle.{mark_with_errors}
use Rattle.j39_audit_laws.proofs.OnBus.{bound_by_mark, kept_coming, kept_periods, timed_before}

module _ (s : Schedule) (d : Damaged) (log : Lines) (fast : log.us ≤ 8) (keeps : KeepsTime log.us log.clock) (bus : IsBusWithErrors s d)
    (short : (p : ℕ) → p < s.count → s.bits p ≤ 160) (seldom : AreFew d log.few) where
  one_at_a_time : IsOneAtATime s
  one_at_a_time = record { positive = bus.positive; queued_first = bus.queued_first; alone = bus.alone }

  module _ (jitter n : ℕ) (is_message : ℕ → Bool) (release frame : ℕ → ℕ) (windows : ℕ → Window) (first : AreReleasedFirst s is_message release)
      (late : HaveJitter s log.us jitter is_message release) where
    pub marked : (of x : ℕ) → IsMarkedBound s log jitter of x → IsBoundFrom s log.clock is_message release of x
    marked of x bound =
        let next = bound.shows.next in
        let right = mark_with_errors s d log.us log.few log.within bound.bytes log.clock bound.one bound.next bound.before bound.time fast keeps bus short seldom
        bound.shows in
        subst (λ (k : ℕ). IsBoundFrom s log.clock is_message release of k) (sym bound.is)
        (bound_by_mark s log.us jitter log.clock is_message release bound.next of (bound.time - (longest_reach log.us bound.bytes log.few + log.within))
        one_at_a_time keeps first late next.known next.ended bound.by right)

    bounds : AreOfLog s log jitter n frame windows → AreBounds s log.clock is_message release n frame windows
    bounds stated = record {
      upper = λ k inside. timed_before s log (frame k) (windows k).upper (stated.upper k inside);
      lower = λ k x inside is. marked (frame k) x (stated.lower k x inside is);
    }

pub not_near : StreamsAreNotNear
not_near s d log period jitter n is_message release frame windows fast keeps bus short seldom first late apart lines stated =
    kept_periods s log.us period n log.clock is_message release frame windows (one_at_a_time s d log fast keeps bus short seldom) keeps first apart lines
    (bounds s d log fast keeps bus short seldom jitter n is_message release frame windows first late stated)

pub not_silent : StreamsAreNotSilent
not_silent s d log bits_of_ms pause jitter from to n is_message release frame windows fast parts keeps bus short seldom first late comes order lines stated begun
    j inside lower of all bound =
    kept_coming s log.us bits_of_ms pause from to n log.clock is_message release frame windows (one_at_a_time s d log fast keeps bus short seldom) parts keeps
    first comes order lines (bounds s d log fast keeps bus short seldom jitter n is_message release frame windows first late stated) begun j inside lower
    (λ x is.
    let (marked_by, until) = bound x is in
    record {
      of = of;
      is = marked s d log fast keeps bus short seldom jitter n is_message release frame windows first late of x marked_by;
      all_before = all;
      until = until;
    })
