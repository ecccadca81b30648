-- Who is sent in time is not reported by the response times of a plan.
use Rattle.std.proofs.Common.{◌≡◌, ℕ, ◌+◌, ◌-◌, ◌*◌, ◌≤◌, Bool, arith, inl, inr}
use Rattle.std.proofs.lemmas.Bool.{cases_lt}
use Rattle.j39_timing.specs.Messages.{frame_end}
use Rattle.j39_timing.specs.TimedFrames.{Schedule}
use Rattle.j39_audit.specs.Responses.{us_at_logger}
use Rattle.j39_audit.specs.declared.window.Window.{Window}
use Rattle.j39_audit_laws.specs.KeptStreams.{SentInTimeAreNotNear, SentInTimeAreNotSilent}
use Rattle.j39_audit_laws.specs.LogBounds.{AreOfLoad, IsEndBound, Lines}
use Rattle.j39_audit_laws.specs.MarkRecords.{KeepsTime}
use Rattle.j39_audit_laws.specs.StreamRecords.{AreBounds, AreMessagesInTime, IsBoundFrom}
use Rattle.j39_audit_laws.proofs.OnBus.{kept_coming, kept_periods, rises, timed_before}

module _ (s : Schedule) (log : Lines) (bits n : ℕ) (is_message : ℕ → Bool) (release frame : ℕ → ℕ) (windows : ℕ → Window)
    (keeps : KeepsTime log.us log.clock) (sent : AreMessagesInTime s bits is_message release) where
  abbrev slack : ℕ
  slack = us_at_logger (bits * log.us)

  pub ends : (of x : ℕ) → IsEndBound s log slack of x → IsBoundFrom s log.clock is_message release of x
  ends of x bound p in_p message later =
      let ended = bound.ended in
      let in_time : frame_end s of ≤ release p + bits = elim (cases_lt (release p + bits) s.now) [
        | inl before ↦ let within = sent p in_p message before in omega (arith, within, later)
        | inr now ↦ omega (arith, now, ended)
      ] in
      let rise = rises log.us log.clock keeps (frame_end s of) (release p + bits) in_time in
      let quick = (keeps (release p) (release p + bits) (omega arith)).1 in
      let span : release p + bits - release p ≡ bits = omega arith in
      let long : log.us * (release p + bits - release p) ≡ bits * log.us = rw span (omega arith) in
      let at = bound.at.0 in
      let is = bound.is in
      omega (arith, rise, quick, long, at, is)

  pub load_bounds : AreOfLoad s log slack n frame windows → AreBounds s log.clock is_message release n frame windows
  load_bounds stated = record {
    upper = λ k inside. timed_before s log (frame k) (windows k).upper (stated.upper k inside);
    lower = λ k x inside is. ends (frame k) x (stated.lower k x inside is);
  }

pub in_time_not_near : SentInTimeAreNotNear
in_time_not_near s log period bits n is_message release frame windows keeps one first sent apart lines stated =
    kept_periods s log.us period n log.clock is_message release frame windows one keeps first apart lines
    (load_bounds s log bits n is_message release frame windows keeps sent stated)

pub in_time_not_silent : SentInTimeAreNotSilent
in_time_not_silent s log bits_of_ms pause bits from to n is_message release frame windows parts keeps one first sent comes order lines stated begun
    j inside lower of all bound =
    kept_coming s log.us bits_of_ms pause from to n log.clock is_message release frame windows one parts keeps first comes order lines
    (load_bounds s log bits n is_message release frame windows keeps sent stated) begun j inside lower
    (λ x is.
    let (ended, until) = bound x is in
    record {
      of = of;
      is = ends s log bits n is_message release frame windows keeps sent of x ended;
      all_before = all;
      until = until;
    })
