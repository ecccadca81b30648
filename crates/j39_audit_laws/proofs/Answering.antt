-- A unit that is asked for claims is reported as deaf exactly where it doesn't claim.
use Rattle.std.proofs.Common.{◌≡◌, ℕ, zero, suc, ◌+◌, ◌*◌, ◌<◌, ◌≤◌, ◌⊎◌, Bool, true, false, cond, Option, Some, None, refl, sym, ap, subst, ◌∙◌, arith, inl}
use Rattle.std.proofs.Common.{inr}
use Rattle.std.specs.Prelude.{nat_lt}
use Rattle.std.specs.Option.{option_or}
use Rattle.std.proofs.lemmas.Bool.{cases_Bool, cases_eq, cases_lt, ltb-true, true≢false}
use Rattle.j39_network.specs.declared.plan.timing.Timing.{Timing}
use Rattle.j39_timing.specs.Errors.{Damaged, IsBusWithErrors}
use Rattle.j39_timing.specs.Messages.{frame_end}
use Rattle.j39_timing.specs.TimedFrames.{Schedule}
use Rattle.j39_audit.specs.Asking.{is_overdue, longest_answer_ms}
use Rattle.j39_audit.specs.UnitTimes.{longest_us}
use Rattle.j39_audit.specs.declared.asking.ClaimRequest.{ClaimRequest}
use Rattle.j39_audit_laws.specs.Answering.{AnswersInTime, AnswersRequests, AreLinesOfUnit, EndsBetween, IsAnswerWithin, IsDeafAt, IsStillAsked, UnitLines}
use Rattle.j39_audit_laws.specs.Answering.{is_late, is_reported_deaf, request_at, request_before, request_kept, request_next}
use Rattle.j39_audit_laws.specs.LogBounds.{IsMarkedBound, IsTimedBound, Lines}
use Rattle.j39_audit_laws.specs.MarkRecords.{AreFew, KeepsTime}
use Rattle.j39_audit_laws.proofs.OnBus.{at_most}
use Rattle.j39_audit_laws.proofs.OnLogs.{marked}

-- ---- one line

abbrev is_there : Option ClaimRequest → Bool
is_there None = false
is_there (Some r) = true

none_not_some : (r : ClaimRequest) → None ≡ Some r → ⊥
none_not_some r e = true≢false (sym (ap is_there e))

some_late : (t : Timing) (o : Option ClaimRequest) (sign : Option (Option ℕ)) → is_late t o sign ≡ true
    → (r : ClaimRequest) × (idle : Option ℕ) × (o ≡ Some r) × (sign ≡ Some idle) × (is_overdue t r idle ≡ true)
some_late t None sign is = absurd (true≢false (sym is))
some_late t (Some r) None is = absurd (true≢false (sym is))
some_late t (Some r) (Some idle) is = (r, idle, refl, refl, is)

late_some : (t : Timing) (o : Option ClaimRequest) (sign : Option (Option ℕ)) (r : ClaimRequest) (idle : Option ℕ) → o ≡ Some r → sign ≡ Some idle
    → is_overdue t r idle ≡ true → is_late t o sign ≡ true
late_some t o sign r idle asked signed overdue =
    ap (λ (x : Option ClaimRequest). is_late t x sign) asked ∙ ap (λ (x : Option (Option ℕ)). is_late t (Some r) x) signed ∙ overdue

-- what is kept is what was asked, and wasn't late
kept_from : (t : Timing) (o : Option ClaimRequest) (sign : Option (Option ℕ)) (r : ClaimRequest) → request_kept t o sign ≡ Some r
    → (o ≡ Some r) × (is_late t o sign ≡ false)
kept_from t o sign r is = elim (cases_Bool (is_late t o sign)) [
  | inl late ↦ absurd (none_not_some r (sym (ap (λ (b : Bool). cond b None o) late) ∙ is))
  | inr not ↦ (sym (ap (λ (b : Bool). cond b None o) not) ∙ is, not)
]

kept_by : (t : Timing) (o : Option ClaimRequest) (sign : Option (Option ℕ)) (r : ClaimRequest) → o ≡ Some r → is_late t o sign ≡ false
    → request_kept t o sign ≡ Some r
kept_by t o sign r is not = ap (λ (b : Bool). cond b None o) not ∙ is

-- where it was asked just here, or before
next_from : (forgets : Bool) (asks before : Option ClaimRequest) (r : ClaimRequest) → request_next forgets asks before ≡ Some r
    → ((asks ≡ Some r) × ((forgets ≡ true) ⊎ (before ≡ None))) ⊎ ((forgets ≡ false) × (before ≡ Some r))
next_from true asks before r is = inl (is, inl refl)
next_from false asks None r is = inl (is, inr refl)
next_from false asks (Some b) r is = inr (refl, is)

next_new : (forgets : Bool) (asks before : Option ClaimRequest) (r : ClaimRequest) → asks ≡ Some r → (forgets ≡ true) ⊎ (before ≡ None)
    → request_next forgets asks before ≡ Some r
next_new true asks before r is new = is
next_new false asks None r is new = is
next_new false asks (Some b) r is (inl e) = absurd (true≢false (sym e))
next_new false asks (Some b) r is (inr e) = absurd (none_not_some b (sym e))

next_old : (forgets : Bool) (asks before : Option ClaimRequest) (r : ClaimRequest) → forgets ≡ false → before ≡ Some r
    → request_next forgets asks before ≡ Some r
next_old forgets asks before r not is =
    ap (λ (b : Bool). request_next b asks before) not ∙ ap (λ (o : Option ClaimRequest). option_or o asks) is

-- ---- lines behind one another

module _ (t : Timing) (l : UnitLines) where
  before_none : request_before t l 0 ≡ None
  unfolding request_before
  before_none = refl

  before_more : (n : ℕ) → request_before t l (suc n) ≡ request_kept t (request_at t l n) (l.signs n)
  unfolding request_before
  before_more n = refl

  here : (n : ℕ) (r : ClaimRequest) → l.asks n ≡ Some r → (l.forgets n ≡ true) ⊎ (request_before t l n ≡ None) → IsStillAsked t l n r
  here n r asks new = record {
    first = n;
    before = omega arith;
    asks = asks;
    new = new;
    kept = λ m less most. absurd (omega (arith, less, most));
    unstated = λ m least less. absurd (omega (arith, least, less));
  }

  longer : (n : ℕ) (r : ClaimRequest) → IsStillAsked t l n r → l.forgets (suc n) ≡ false → is_reported_deaf t l n ≡ false → IsStillAsked t l (suc n) r
  longer n r was kept unstated = record {
    first = was.first;
    before = let b = was.before in omega (arith, b);
    asks = was.asks;
    new = was.new;
    kept = λ m less most. elim (cases_eq m (suc n)) [
      | inl same ↦ ap l.forgets same ∙ kept
      | inr other ↦ was.kept m less (omega (arith, most, other))
    ];
    unstated = λ m least less. elim (cases_eq m n) [
      | inl same ↦ ap (λ (k : ℕ). is_reported_deaf t l k) same ∙ unstated
      | inr other ↦ was.unstated m least (omega (arith, less, other))
    ];
  }

  unanswered : (n : ℕ) (r : ClaimRequest) → request_at t l n ≡ Some r → IsStillAsked t l n r
  unanswered zero r is = elim (next_from (l.forgets 0) (l.asks 0) (request_before t l 0) r is) [
    | inl new ↦ here 0 r new.0 new.1
    | inr old ↦ absurd (none_not_some r (sym before_none ∙ old.1))
  ]
  unanswered (suc n) r is = elim (next_from (l.forgets (suc n)) (l.asks (suc n)) (request_before t l (suc n)) r is) [
    | inl new ↦ here (suc n) r new.0 new.1
    | inr old ↦
        let kept = kept_from t (request_at t l n) (l.signs n) r (sym (before_more n) ∙ old.1) in
        longer n r (unanswered n r kept.0) old.0 kept.1
  ]

  new_there : (n : ℕ) (r : ClaimRequest) (is : IsStillAsked t l n r) → is.first ≡ n → request_at t l n ≡ Some r
  new_there n r is same =
      subst (λ (k : ℕ). request_at t l k ≡ Some r) same
      (next_new (l.forgets is.first) (l.asks is.first) (request_before t l is.first) r is.asks is.new)

  asked_still : (n : ℕ) (r : ClaimRequest) → IsStillAsked t l n r → request_at t l n ≡ Some r
  asked_still zero r is = let b = is.before in new_there 0 r is (omega (arith, b))
  asked_still (suc n) r is = elim (cases_eq is.first (suc n)) [
    | inl same ↦ new_there (suc n) r is same
    | inr other ↦
        let b = is.before in
        let less : is.first ≤ n = omega (arith, b, other) in
        let was : IsStillAsked t l n r = record {
          first = is.first;
          before = less;
          asks = is.asks;
          new = is.new;
          kept = λ m low high. is.kept m low (omega (arith, high));
          unstated = λ m low high. is.unstated m low (omega (arith, high));
        } in
        next_old (l.forgets (suc n)) (l.asks (suc n)) (request_before t l (suc n)) r (is.kept (suc n) (omega (arith, less)) (omega arith))
        (before_more n ∙ kept_by t (request_at t l n) (l.signs n) r (asked_still n r was) (is.unstated n less (omega arith)))
  ]

  pub deaf_is : (n : ℕ) → is_reported_deaf t l n ≡ true → IsDeafAt t l n
  deaf_is n is =
      let (r, idle, asked, sign, overdue) = some_late t (request_at t l n) (l.signs n) is in
      record { request = r; unanswered = unanswered n r asked; idle = idle; sign = sign; overdue = overdue }

  pub is_deaf : (n : ℕ) → IsDeafAt t l n → is_reported_deaf t l n ≡ true
  is_deaf n is = late_some t (request_at t l n) (l.signs n) is.request is.idle (asked_still n is.request is.unanswered) is.sign is.overdue

  not_deaf : (n : ℕ) → AnswersInTime t l n → is_reported_deaf t l n ≡ false
  not_deaf n answers = elim (cases_Bool (is_reported_deaf t l n)) [
    | inr not ↦ not
    | inl stated ↦
        let is = deaf_is n stated in
        let u = is.unanswered in
        let (m, less, most, forgets) = answers u.first is.request is.idle u.before u.asks is.sign is.overdue in
        absurd (true≢false (sym forgets ∙ u.kept m less most))
  ]

-- ---- on a bus

-- the clock of the plan may differ more, so that more time is left
overdue_by : (t : Timing) (moment idle : ℕ) → nat_lt (moment + longest_us t longest_answer_ms) idle ≡ true → moment + 1001 * longest_answer_ms < idle
overdue_by t moment idle is =
    let long : 1001 * longest_answer_ms ≤ longest_us t longest_answer_ms = omega arith in
    let late = ltb-true (moment + longest_us t longest_answer_ms) idle is in
    omega (arith, long, late)

module _ (s : Schedule) (d : Damaged) (log : Lines) (fast : log.us ≤ 8) (keeps : KeepsTime log.us log.clock) (bus : IsBusWithErrors s d)
    (short : (q : ℕ) → q < s.count → s.bits q ≤ 160) (seldom : AreFew d log.few) where
  -- an answer ends before each frame from a mark on that is later than it had to be queued
  between : (ms g p of moment idle : ℕ) → IsTimedBound s log g moment → IsAnswerWithin s log.us ms g p → IsMarkedBound s log 0 of idle
      → moment + 1001 * ms < idle → EndsBetween s g p of
  between ms g p of moment idle timed answer mark late =
      let bits = bus.positive p answer.known in
      let queued = bus.queued_first p answer.known in
      let behind = answer.behind in (
        omega (arith, bits, queued, behind),
        elim (cases_lt (frame_end s p) (frame_end s of)) [
          | inl less ↦ less
          | inr later ↦
              let bound = marked s d log fast keeps bus short seldom 0 0 (λ k. true) s.queued (λ k. 0) (λ k. record { lower = None; upper = 0 })
              (λ q in_q is. omega arith) (λ q in_q is. omega arith) of idle mark p answer.known refl (omega (arith, later)) in
              let since = at_most log.us log.clock keeps (frame_end s g) (s.queued p) (1000 * ms) behind answer.within in
              let at = timed.at.1 in
              let is = timed.is in
              absurd (omega (arith, bound, since, at, is, late))
        ],
      )

  module _ (t : Timing) (l : UnitLines) (n : ℕ) (is_claim : ℕ → Bool) (frame : ℕ → ℕ) (lines : AreLinesOfUnit s log l n is_claim frame)
      (answers : AnswersRequests s log.us longest_answer_ms l n is_claim frame) where
    answered : (k : ℕ) (r : ClaimRequest) (idle : Option ℕ) → k ≤ n → l.asks k ≡ Some r → l.signs n ≡ Some idle → is_overdue t r idle ≡ true
        → (m : ℕ) × (k < m) × (m ≤ n) × (l.forgets m ≡ true)
    answered k r None less asks sign overdue = absurd (true≢false (sym overdue))
    answered k r (Some idle) less asks sign overdue =
        let (p, known, claims, when) = answers k r less asks in
        elim when [
          | inl within ↦ lines.claim p k known claims less
              (between longest_answer_ms (frame k) p (frame n) r.moment idle (lines.request k r less asks) within (lines.mark idle sign)
              (overdue_by t r.moment idle overdue))
          | inr before ↦ lines.claim p k known claims less before
        ]

pub who_answers : (s : Schedule) (d : Damaged) (log : Lines) (t : Timing) (l : UnitLines) (n : ℕ) (is_claim : ℕ → Bool) (frame : ℕ → ℕ)
    → log.us ≤ 8 → KeepsTime log.us log.clock → IsBusWithErrors s d → ((q : ℕ) → q < s.count → s.bits q ≤ 160) → AreFew d log.few
    → AreLinesOfUnit s log l n is_claim frame → AnswersRequests s log.us longest_answer_ms l n is_claim frame → is_reported_deaf t l n ≡ false
who_answers s d log t l n is_claim frame fast keeps bus short seldom lines answers =
    not_deaf t l n (answered s d log fast keeps bus short seldom t l n is_claim frame lines answers)
