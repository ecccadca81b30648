-- A log's messages of a flow since times began anew, with their bounds, line by line: none is reported as too near.
use Rattle.std.proofs.Common.{◌≡◌, ◌⊎◌, ℕ, zero, suc, ◌+◌, ◌-◌, ◌<◌, ◌≤◌, ◌==◌, List, [], Bool, true, false, cond, nat_lt}
use Rattle.std.proofs.Common.{inl, inr, refl, sym, ap, ◌∙◌, subst, arith, Option, Some, None}
use Rattle.std.proofs.lemmas.Bool.{cases_lt, cond-false, cond-true, eq-eqb, ne_eqb}
use Rattle.j39_id.specs.Lines.{Line}
use Rattle.j39_network.specs.declared.plan.timing.Timing.{Timing}
use Rattle.j39_timing.specs.TimedFrames.{Schedule}
use Rattle.j39_audit.specs.Moments.{Moments, moment_window}
use Rattle.j39_audit.specs.Near.{candidate, earliest, earliest_next, excess, is_later_than, is_too_near}
use Rattle.j39_audit.specs.Settings.{Settings}
use Rattle.j39_audit.specs.declared.window.Window.{Window}
use Rattle.j39_audit_laws.specs.KeptLogs.{IsLogOfBus}
use Rattle.j39_audit_laws.specs.PauseLines.{FrameLine}
use Rattle.j39_audit_laws.specs.StreamRecords.{AreLines}
use Rattle.j39_audit_laws.proofs.Hits.{hits}
use Rattle.j39_audit_laws.proofs.NearFrames as frames

-- ---- one message more

-- bounds at place j, and the same ones before it
abbrev pub with_window : ℕ → Window → (ℕ → Window) → ℕ → Window
with_window j window windows k = cond (k == j) window (windows k)

abbrev pub with_line : ℕ → ℕ → (ℕ → ℕ) → ℕ → ℕ
with_line j line lines k = cond (k == j) line (lines k)

pub same_below : (step j : ℕ) (window : Window) (windows : ℕ → Window) (i : ℕ) → i ≤ j
    → earliest step (with_window j window windows) i ≡ earliest step windows i
unfolding earliest
same_below step j window windows zero least = refl
same_below step j window windows (suc i) least =
    let before = same_below step j window windows i (omega (arith, least)) in
    let here : with_window j window windows i ≡ windows i = cond-false (i == j) window (windows i) (ne_eqb i j (λ e. absurd (omega (arith, e, least)))) in
    ap (λ (o : Option ℕ). earliest_next step o (with_window j window windows i)) before ∙ ap (earliest_next step (earliest step windows i)) here

pub one_more : (step j : ℕ) (window : Window) (windows : ℕ → Window)
    → earliest step (with_window j window windows) (suc j) ≡ earliest_next step (earliest step windows j) window
unfolding earliest
one_more step j window windows =
    let here : with_window j window windows j ≡ window = cond-true (j == j) window (windows j) (eq-eqb j j refl) in
    ap (λ (o : Option ℕ). earliest_next step o (with_window j window windows j)) (same_below step j window windows j (omega arith))
    ∙ ap (earliest_next step (earliest step windows j)) here

-- what isn't reported has no excess
pub none_over : (o : Option ℕ) (upper : ℕ) → is_later_than o upper ≡ false → excess o upper ≡ None
unfolding is_later_than excess
none_over None upper is = refl
none_over (Some e) upper is = cond-false (nat_lt upper e) (Some (e - upper)) None is

-- ---- the messages so far

module _ (s : Settings) (log : List Line) (place : ℕ → ℕ) (is_message : ℕ → Bool) (IsUpper IsLower : ℕ → ℕ → Type 0) where
  -- since times began anew last these were the flow's messages, at these lines and within these bounds
  pub record AreItsMessages (number count : ℕ) (line : ℕ → ℕ) (windows : ℕ → Window) : Type 0 where
    pub rising : (k l : ℕ) → k < l → l < count → line k < line l
    pub below : (k : ℕ) → k < count → line k ≤ number
    pub there : (k : ℕ) → k < count → FrameLine s log (line k)
    pub message : (k : ℕ) → k < count → is_message (place (line k)) ≡ true
    pub upper : (k : ℕ) → k < count → IsUpper (place (line k)) (windows k).upper
    pub lower : (k x : ℕ) → k < count → (windows k).lower ≡ Some x → IsLower (place (line k)) x

  no_messages : (number : ℕ) (line : ℕ → ℕ) (windows : ℕ → Window) → AreItsMessages number 0 line windows
  no_messages number line windows = record {
    rising = λ k l less inside. absurd (omega (arith, inside));
    below = λ k inside. absurd (omega (arith, inside));
    there = λ k inside. absurd (omega (arith, inside));
    message = λ k inside. absurd (omega (arith, inside));
    upper = λ k inside. absurd (omega (arith, inside));
    lower = λ k x inside is. absurd (omega (arith, inside));
  }

  later_on : (number count : ℕ) (line : ℕ → ℕ) (windows : ℕ → Window) → AreItsMessages number count line windows
      → AreItsMessages (number + 1) count line windows
  later_on number count line windows are = record {
    rising = are.rising;
    below = λ k inside. (let least = are.below k inside in omega (arith, least));
    there = are.there;
    message = are.message;
    upper = are.upper;
    lower = are.lower;
  }

  pub as_lines : (bus : Schedule) (clock : ℕ → ℕ) → IsLogOfBus s log bus clock place → (number count : ℕ) (line : ℕ → ℕ) (windows : ℕ → Window)
      → AreItsMessages number count line windows → AreLines bus is_message count (λ k. place (line k))
  as_lines bus clock is_log number count line windows are = record {
    message = are.message;
    known = λ k inside. is_log.known (line k) (are.there k inside);
    ended = λ k inside. is_log.ended (line k) (are.there k inside);
    in_turn = λ k i less inside. is_log.in_turn (line k) (line i) (are.there k (omega (arith, less, inside))) (are.there i inside) (are.rising k i less inside);
  }

  -- with one more, at the next line
  module _ (number count : ℕ) (line : ℕ → ℕ) (windows : ℕ → Window) (are : AreItsMessages number count line windows) (l : FrameLine s log (number + 1))
      (its : is_message (place (number + 1)) ≡ true) (window : Window) (upper_is : IsUpper (place (number + 1)) window.upper)
      (lower_is : (x : ℕ) → window.lower ≡ Some x → IsLower (place (number + 1)) x) where
    abbrev pub lines : ℕ → ℕ
    lines = with_line count (number + 1) line

    abbrev pub bounds : ℕ → Window
    bounds = with_window count window windows

    line_here : lines count ≡ number + 1
    line_here = cond-true (count == count) (number + 1) (line count) (eq-eqb count count refl)

    line_before : (k : ℕ) → k < count → lines k ≡ line k
    line_before k less = cond-false (k == count) (number + 1) (line k) (ne_eqb k count (λ e. absurd (omega (arith, e, less))))

    pub window_here : bounds count ≡ window
    window_here = cond-true (count == count) window (windows count) (eq-eqb count count refl)

    window_before : (k : ℕ) → k < count → bounds k ≡ windows k
    window_before k less = cond-false (k == count) window (windows k) (ne_eqb k count (λ e. absurd (omega (arith, e, less))))

    last_of : (k : ℕ) → k < suc count → (k < count) ⊎ (k ≡ count)
    last_of k inside = elim (cases_lt k count) [ inl below ↦ inl below | inr above ↦ inr (omega (arith, inside, above)) ]

    pub with_one : AreItsMessages (number + 1) (suc count) lines bounds
    with_one = record {
      rising = λ k i less inside. elim (last_of i inside) [
        | inl below ↦
            let a = line_before k (omega (arith, less, below)) in
            let c = line_before i below in
            let rises = are.rising k i less below in
            omega (arith, a, c, rises)
        | inr same ↦
            let a = line_before k (omega (arith, less, same)) in
            let c : lines i ≡ number + 1 = ap lines same ∙ line_here in
            let least = are.below k (omega (arith, less, same)) in
            omega (arith, a, c, least)
      ];
      below = λ k inside. elim (last_of k inside) [
        | inl below ↦ (let a = line_before k below in let least = are.below k below in omega (arith, a, least))
        | inr same ↦ (let c : lines k ≡ number + 1 = ap lines same ∙ line_here in omega (arith, c))
      ];
      there = λ k inside. elim (last_of k inside) [
        | inl below ↦ subst (FrameLine s log) (sym (line_before k below)) (are.there k below)
        | inr same ↦ subst (FrameLine s log) (sym (ap lines same ∙ line_here)) l
      ];
      message = λ k inside. elim (last_of k inside) [
        | inl below ↦ ap (λ (i : ℕ). is_message (place i)) (line_before k below) ∙ are.message k below
        | inr same ↦ ap (λ (i : ℕ). is_message (place i)) (ap lines same ∙ line_here) ∙ its
      ];
      upper = λ k inside. elim (last_of k inside) [
        | inl below ↦
            subst (λ (i : ℕ). IsUpper (place i) (bounds k).upper) (sym (line_before k below))
            (subst (λ (x : Window). IsUpper (place (line k)) x.upper) (sym (window_before k below)) (are.upper k below))
        | inr same ↦
            subst (λ (i : ℕ). IsUpper (place i) (bounds k).upper) (sym (ap lines same ∙ line_here))
            (subst (λ (x : Window). IsUpper (place (number + 1)) x.upper) (sym (ap bounds same ∙ window_here)) upper_is)
      ];
      lower = λ k x inside is. elim (last_of k inside) [
        | inl below ↦
            subst (λ (i : ℕ). IsLower (place i) x) (sym (line_before k below))
            (are.lower k x below (sym (ap (λ (y : Window). y.lower) (window_before k below)) ∙ is))
        | inr same ↦
            subst (λ (i : ℕ). IsLower (place i) x) (sym (ap lines same ∙ line_here))
            (lower_is x (sym (ap (λ (y : Window). y.lower) (ap bounds same ∙ window_here)) ∙ is))
      ];
    }

  -- ---- none is reported

  module _ (b : Settings) (timing : Timing) (timed : b.plan.timing ≡ Some timing) (n step : ℕ)
      (none_near : (number count : ℕ) (line : ℕ → ℕ) (windows : ℕ → Window) → AreItsMessages number count line windows
      → (j : ℕ) → j < count → is_too_near step windows j ≡ false) where
    pub record IsSoFar (number : ℕ) (m : Moments) : Type 0 where
      pub none : hits (frames.mark b timing timed n) m.untimely ≡ []
      pub count : ℕ
      pub line : ℕ → ℕ
      pub windows : ℕ → Window
      pub is : m.earliest (frames.key b timing timed n) ≡ earliest step windows count
      pub messages : AreItsMessages number count line windows

    pub same_so_far : (number : ℕ) (m new : Moments) → new.earliest (frames.key b timing timed n) ≡ m.earliest (frames.key b timing timed n)
        → hits (frames.mark b timing timed n) new.untimely ≡ hits (frames.mark b timing timed n) m.untimely → IsSoFar number m → IsSoFar (number + 1) new
    same_so_far number m new same noted is = record {
      none = noted ∙ is.none;
      count = is.count;
      line = is.line;
      windows = is.windows;
      is = same ∙ is.is;
      messages = later_on number is.count is.line is.windows is.messages;
    }

    -- where times begin anew there was none
    record IsBegun (number : ℕ) (m : Moments) (begun : Option ℕ) : Type 0 where
      none : hits (frames.mark b timing timed n) m.untimely ≡ []
      count : ℕ
      line : ℕ → ℕ
      windows : ℕ → Window
      is : begun ≡ earliest step windows count
      messages : AreItsMessages number count line windows

    begun_so_far : (number : ℕ) (m : Moments) (anew : Bool) → IsSoFar number m
        → IsBegun number m (cond anew None (m.earliest (frames.key b timing timed n)))
    unfolding earliest
    begun_so_far number m true is = record {
      none = is.none;
      count = 0;
      line = is.line;
      windows = is.windows;
      is = refl;
      messages = no_messages number is.line is.windows;
    }
    begun_so_far number m false is = record {
      none = is.none;
      count = is.count;
      line = is.line;
      windows = is.windows;
      is = is.is;
      messages = is.messages;
    }

    pub first_so_far : (m : Moments) → m.untimely ≡ [] → m.earliest (frames.key b timing timed n) ≡ None → IsSoFar 0 m
    unfolding earliest
    first_so_far m quiet none = record {
      none = ap (hits (frames.mark b timing timed n)) quiet;
      count = 0;
      line = λ k. 0;
      windows = λ k. record { lower = None; upper = 0 };
      is = none;
      messages = no_messages 0 (λ k. 0) (λ k. record { lower = None; upper = 0 });
    }

    module _ (number : ℕ) (m : Moments) (is : IsSoFar number m) (there : frames.FrameThere) where
      pub by_other : (new : Moments) → frames.IsOtherFrame b timing timed n there m new → IsSoFar (number + 1) new
      by_other new other =
          let start = begun_so_far number m there.anew is in
          record {
            none = other.noted ∙ start.none;
            count = start.count;
            line = start.line;
            windows = start.windows;
            is = other.earliest ∙ start.is;
            messages = later_on number start.count start.line start.windows start.messages;
          }

      pub by_message : (time : ℕ) (new : Moments) (near : frames.IsNearFrame b timing timed n there time m new)
          → near.stream.step ≡ step → FrameLine s log (number + 1) → is_message (place (number + 1)) ≡ true
          → IsUpper (place (number + 1)) (moment_window b near.stream.slack time new.since).upper
          → ((x : ℕ) → (moment_window b near.stream.slack time new.since).lower ≡ Some x → IsLower (place (number + 1)) x) → IsSoFar (number + 1) new
      by_message time new near step_is l its upper lower =
          let start = begun_so_far number m there.anew is in
          let window : Window = moment_window b near.stream.slack time new.since in
          let windows : ℕ → Window = with_window start.count window start.windows in
          let messages : AreItsMessages (number + 1) (suc start.count) (with_line start.count (number + 1) start.line) windows =
          with_one number start.count start.line start.windows start.messages l its window upper lower in
          let here : windows start.count ≡ window = window_here number start.count start.line start.windows start.messages l its window upper lower in
          let unstated = none_near (number + 1) (suc start.count) (with_line start.count (number + 1) start.line) windows messages start.count (omega arith) in
          let at : is_later_than (candidate near.stream.step (frames.begun b timing timed n there m) window) window.upper ≡ false =
          ap (λ (k : ℕ). is_later_than (candidate k (frames.begun b timing timed n there m) window) window.upper) step_is
          ∙ ap (λ (o : Option ℕ). is_later_than (candidate step o window) window.upper)
          (start.is ∙ sym (same_below step start.count window start.windows start.count (omega arith)))
          ∙ ap (λ (x : Window). is_later_than (candidate step (earliest step windows start.count) x) x.upper) (sym here) ∙ unstated in
          record {
            none = near.noted (none_over _ window.upper at) ∙ start.none;
            count = suc start.count;
            line = with_line start.count (number + 1) start.line;
            windows = windows;
            is = near.earliest ∙ ap (λ (k : ℕ). earliest_next k (frames.begun b timing timed n there m) window) step_is
                ∙ ap (λ (o : Option ℕ). earliest_next step o window) start.is ∙ sym (one_more step start.count window start.windows);
            messages = messages;
          }
