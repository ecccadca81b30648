-- What the lines of a log report of a unit that is asked for claims.
use Rattle.std.specs.Prelude.{◌≡◌, ℕ, zero, suc, ◌+◌, ◌*◌, ◌<◌, ◌≤◌, ◌⊎◌, ◌||◌, ◌&&◌, ◌++◌, Bool, true, false, if◌then◌else◌, List, [], ◌∷◌, Option, Some, None}
use Rattle.std.specs.Option.{option_or}
use Rattle.j39_id.specs.declared.frame.Frame.{Frame}
use Rattle.j39_network.specs.declared.plan.timing.Timing.{Timing}
use Rattle.j39_audit.specs.Asking.{Asking, asking_behind, is_asked_to_claim, is_overdue}
use Rattle.j39_audit.specs.Claiming.{Knowledge, is_at}
use Rattle.j39_audit.specs.Counting.{Noted}
use Rattle.j39_audit.specs.Looking.{claimant, is_claim}
use Rattle.j39_audit.specs.Moments.{long_before}
use Rattle.j39_audit.specs.SentMessages.{noted_at}
use Rattle.j39_audit.specs.Settings.{Settings, logger_error}
use Rattle.j39_audit.specs.declared.asking.ClaimRequest.{ClaimRequest}
use Rattle.j39_audit.specs.declared.mark.Word.TheVariants.{Deaf}
use Rattle.j39_audit_laws.specs.LogBounds.{IsMarkedBound, IsTimedBound, Lines}
use Rattle.j39_timing.specs.Messages.{frame_end}
use Rattle.j39_timing.specs.TimedFrames.{Schedule}

-- at which lines a request to a unit says no more, by which lines it is asked, and at which ones a frame counts for it, with the idle mark there
pub record UnitLines : Type 0 where
  pub forgets : ℕ → Bool
  pub asks : ℕ → Option ClaimRequest
  pub signs : ℕ → Option (Option ℕ)

-- ---- one line

-- by the request before the line
abbrev pub request_next : Bool → Option ClaimRequest → Option ClaimRequest → Option ClaimRequest
request_next forgets asks before = option_or (if forgets then None else before) asks

abbrev pub is_late : Timing → Option ClaimRequest → Option (Option ℕ) → Bool
is_late t None sign = false
is_late t (Some r) None = false
is_late t (Some r) (Some idle) = is_overdue t r idle

abbrev pub request_kept : Timing → Option ClaimRequest → Option (Option ℕ) → Option ClaimRequest
request_kept t request sign = if is_late t request sign then None else request

-- ---- a frame of a log

-- a gap ends or times begin anew, or the unit claims
abbrev pub forgets_at : Settings → Bool → Bool → Frame → ℕ → Bool
forgets_at s gap anew f u = (anew || gap) || (is_claim f && is_at (claimant s f).unit u)

abbrev pub asks_at : Settings → Knowledge → Option ℕ → Frame → ℕ → ℕ → Option ClaimRequest
asks_at s k None f line u = None
asks_at s k (Some time) f line u = if is_asked_to_claim s k f u then Some (record { moment = time + long_before + logger_error s; line = line }) else None

abbrev pub sign_at : Option ℕ → Option ℕ → ℕ → Option (Option ℕ)
sign_at unit idle u = if is_at unit u then Some idle else None

-- of each unit the request behind a frame is by that before it as one line has it
abbrev pub KeepsRequests : Type 0
KeepsRequests = (s : Settings) (t : Timing) (k : Knowledge) (gap anew : Bool) (time : Option ℕ) (f : Frame) (line : ℕ) (unit idle : Option ℕ)
    (a : Asking) (u : ℕ) → s.plan.timing ≡ Some t → (asking_behind s k gap anew time f line unit idle a).asked u
    ≡ request_kept t (request_next (forgets_at s gap anew f u) (asks_at s k time f line u) (a.asked u)) (sign_at unit idle u)

-- and of the unit for which it counts, if it does, it is noted, at the line of the request, where this is late; and nothing else is
abbrev pub deaf_there : ℕ → Bool → Option ClaimRequest → List Noted
deaf_there u true (Some r) = noted_at r.line Deaf u 0 ∷ []
deaf_there u _ _ = []

abbrev pub deaf_of : Timing → Option ℕ → Option ℕ → (ℕ → Option ClaimRequest) → List Noted
deaf_of t None idle request = []
deaf_of t (Some u) idle request = deaf_there u (is_late t (request u) (Some idle)) (request u)

abbrev pub NotesTheDeaf : Type 0
NotesTheDeaf = (s : Settings) (t : Timing) (k : Knowledge) (gap anew : Bool) (time : Option ℕ) (f : Frame) (line : ℕ) (unit idle : Option ℕ)
    (a : Asking) → s.plan.timing ≡ Some t → (asking_behind s k gap anew time f line unit idle a).deaf
    ≡ a.deaf ++ deaf_of t unit idle (λ u. request_next (forgets_at s gap anew f u) (asks_at s k time f line u) (a.asked u))

-- ---- lines behind one another

unfoldable pub request_before : Timing → UnitLines → ℕ → Option ClaimRequest
request_before t l zero = None
request_before t l (suc n) = request_kept t (request_next (l.forgets n) (l.asks n) (request_before t l n)) (l.signs n)

abbrev pub request_at : Timing → UnitLines → ℕ → Option ClaimRequest
request_at t l n = request_next (l.forgets n) (l.asks n) (request_before t l n)

-- the unit is reported as deaf at line n
abbrev pub is_reported_deaf : Timing → UnitLines → ℕ → Bool
is_reported_deaf t l n = is_late t (request_at t l n) (l.signs n)

-- the request is the first one behind what was answered, forgotten or reported before, and nothing of this came since
pub record IsStillAsked (t : Timing) (l : UnitLines) (n : ℕ) (request : ClaimRequest) : Type 0 where
  pub first : ℕ
  pub before : first ≤ n
  pub asks : l.asks first ≡ Some request
  pub new : (l.forgets first ≡ true) ⊎ (request_before t l first ≡ None)
  pub kept : (m : ℕ) → first < m → m ≤ n → l.forgets m ≡ false
  pub unstated : (m : ℕ) → first ≤ m → m < n → is_reported_deaf t l m ≡ false

-- and the bus was idle at line n, which is of the unit, when its claim had to be ready
pub record IsDeafAt (t : Timing) (l : UnitLines) (n : ℕ) : Type 0 where
  pub request : ClaimRequest
  pub unanswered : IsStillAsked t l n request
  pub idle : Option ℕ
  pub sign : l.signs n ≡ Some idle
  pub overdue : is_overdue t request idle ≡ true

-- ---- who answers

-- behind each request that is overdue at a line of the unit there is one up to there by which it says no more
abbrev pub AnswersInTime : Timing → UnitLines → ℕ → Type 0
AnswersInTime t l n = (i : ℕ) (request : ClaimRequest) (idle : Option ℕ) → i ≤ n → l.asks i ≡ Some request → l.signs n ≡ Some idle
    → is_overdue t request idle ≡ true → (m : ℕ) × (i < m) × (m ≤ n) × (l.forgets m ≡ true)

-- a claim p is queued behind the end of a frame g, and at most so many milliseconds behind it
pub record IsAnswerWithin (s : Schedule) (us ms g p : ℕ) : Type 0 where
  pub known : p < s.count
  pub behind : frame_end s g ≤ s.queued p
  pub within : s.queued p * us ≤ frame_end s g * us + 1000 * ms

-- it ends behind a frame g, and before another one
abbrev pub EndsBetween : Schedule → ℕ → ℕ → ℕ → Type 0
EndsBetween s g p of = (frame_end s g < frame_end s p) × (frame_end s p < frame_end s of)

-- the first lines up to n of a log report of a unit what its bus carried: line k that of frame k of these
pub record AreLinesOfUnit (s : Schedule) (log : Lines) (l : UnitLines) (n : ℕ) (is_claim : ℕ → Bool) (frame : ℕ → ℕ) : Type 0 where
  -- by when a request ended is reported by its line
  pub request : (k : ℕ) (r : ClaimRequest) → k ≤ n → l.asks k ≡ Some r → IsTimedBound s log (frame k) r.moment
  -- that the bus was idle by two lines that show it, no later than line n
  pub mark : (idle : ℕ) → l.signs n ≡ Some (Some idle) → IsMarkedBound s log 0 (frame n) idle
  -- a claim of the unit that ends between a line and line n has a line between, or one is bad there
  pub claim : (p k : ℕ) → p < s.count → is_claim p ≡ true → k ≤ n → EndsBetween s (frame k) p (frame n)
      → (m : ℕ) × (k < m) × (m ≤ n) × (l.forgets m ≡ true)

-- behind each request up to line n it claims: within so many milliseconds, or, where it was off, before its frame of line n
abbrev pub AnswersRequests : Schedule → ℕ → ℕ → UnitLines → ℕ → (ℕ → Bool) → (ℕ → ℕ) → Type 0
AnswersRequests s us ms l n is_claim frame = (k : ℕ) (r : ClaimRequest) → k ≤ n → l.asks k ≡ Some r
    → (p : ℕ) × (p < s.count) × (is_claim p ≡ true) × (IsAnswerWithin s us ms (frame k) p ⊎ EndsBetween s (frame k) p (frame n))
