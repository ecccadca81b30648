-- What is kept of who is asked for claims, and noted, at a frame.
use Rattle.std.proofs.Common.{◌≡◌, ◌≢◌, ◌||◌, ◌&&◌, ◌++◌, ℕ, Bool, true, false, cond, List, Option, Some, None, refl, sym, ap, ◌∙◌, inl, inr, eq-eqb}
use Rattle.std.specs.Option.{option_or}
use Rattle.std.proofs.lemmas.Bool.{cases_Bool, cases_eq, ne_eqb}
use Rattle.std.proofs.lemmas.List.{append-nil}
use Rattle.j39_id.specs.declared.frame.Frame.{Frame}
use Rattle.j39_network.specs.declared.plan.timing.Timing.{Timing}
use Rattle.j39_audit.specs.Asking.{Asking, answered, answered_at, asked_at, asked_before, asked_behind, asking_behind, deaf_if_overdue, is_overdue, with_deaf}
use Rattle.j39_audit.specs.Asking.{with_sign_of}
use Rattle.j39_audit.specs.Claiming.{Knowledge, is_at}
use Rattle.j39_audit.specs.Counting.{Noted}
use Rattle.j39_audit.specs.Looking.{claimant, is_claim}
use Rattle.j39_audit.specs.Settings.{Settings}
use Rattle.j39_audit.specs.declared.asking.ClaimRequest.{ClaimRequest}
use Rattle.j39_audit_laws.specs.Answering.{KeepsRequests, NotesTheDeaf, asks_at, deaf_of, deaf_there, forgets_at, is_late, request_kept, request_next, sign_at}

-- ---- where a request says no more

none_either : (test : Bool) (o : Option ClaimRequest) → o ≡ None → cond test None o ≡ None
none_either true o none = refl
none_either false o none = none

forgot_before : (anew broken : Bool) (a : Asking) (u : ℕ) → (asked_before anew broken a).asked u ≡ cond (anew || broken) None (a.asked u)
forgot_before true broken a u = refl
forgot_before false true a u = refl
forgot_before false false a u = refl

forgot_answered : (claims : Bool) (unit : Option ℕ) (a : Asking) (u : ℕ)
    → (cond claims (answered unit a) a).asked u ≡ cond (claims && is_at unit u) None (a.asked u)
forgot_answered true None a u = refl
forgot_answered true (Some v) a u = refl
forgot_answered false unit a u = refl

either : (x y : Bool) (o : Option ClaimRequest) → cond y None (cond x None o) ≡ cond (x || y) None o
either true y o = none_either y None refl
either false y o = refl

-- ---- a request

as_it_is : (o : Option ClaimRequest) → o ≡ option_or o None
as_it_is None = refl
as_it_is (Some r) = refl

asked_next : (s : Settings) (k : Knowledge) (f : Frame) (time : Option ℕ) (line : ℕ) (a : Asking) (u : ℕ)
    → (asked_at s k f time line a).asked u ≡ option_or (a.asked u) (asks_at s k time f line u)
asked_next s k f None line a u = as_it_is (a.asked u)
asked_next s k f (Some time) line a u = refl

behind : (s : Settings) (k : Knowledge) (broken anew : Bool) (time : Option ℕ) (f : Frame) (line : ℕ) (a : Asking) (u : ℕ)
    → (asked_behind s k broken anew time f line a).asked u ≡ request_next (forgets_at s broken anew f u) (asks_at s k time f line u) (a.asked u)
behind s k broken anew time f line a u =
    asked_next s k f time line (answered_at s f (asked_before anew broken a)) u
    ∙ ap (λ (o : Option ClaimRequest). option_or o (asks_at s k time f line u))
    (forgot_answered (is_claim f) (claimant s f).unit (asked_before anew broken a) u
    ∙ ap (λ (o : Option ClaimRequest). cond (is_claim f && is_at (claimant s f).unit u) None o) (forgot_before anew broken a u)
    ∙ either (anew || broken) (is_claim f && is_at (claimant s f).unit u) (a.asked u))

-- ---- a frame of a unit

sign_here : (t : Timing) (idle : Option ℕ) (a : Asking) (u : ℕ) (o : Option ClaimRequest) → a.asked u ≡ o
    → (deaf_if_overdue t idle u o a).asked u ≡ request_kept t o (Some idle)
sign_here t idle a u None is = is
sign_here t idle a u (Some r) is =
    let next : Bool → Option ClaimRequest = λ b. (cond b (with_deaf u r a) a).asked u in
    elim (cases_Bool (is_overdue t r idle)) [
      | inl late ↦ ap next late ∙ ap (λ (b : Bool). cond b None (a.asked u)) (eq-eqb u u refl) ∙ sym (ap (λ (b : Bool). cond b None (Some r)) late)
      | inr not ↦ ap next not ∙ is ∙ sym (ap (λ (b : Bool). cond b None (Some r)) not)
    ]

sign_other : (t : Timing) (idle : Option ℕ) (a : Asking) (u v : ℕ) (o : Option ClaimRequest) → v ≢ u → (deaf_if_overdue t idle v o a).asked u ≡ a.asked u
sign_other t idle a u v None other = refl
sign_other t idle a u v (Some r) other =
    let next : Bool → Option ClaimRequest = λ b. (cond b (with_deaf v r a) a).asked u in
    elim (cases_Bool (is_overdue t r idle)) [
      | inl late ↦ ap next late ∙ ap (λ (b : Bool). cond b None (a.asked u)) (ne_eqb v u other)
      | inr not ↦ ap next not
    ]

no_sign : (t : Timing) (o : Option ClaimRequest) → o ≡ request_kept t o None
no_sign t None = refl
no_sign t (Some r) = refl

signed : (t : Timing) (unit idle : Option ℕ) (a : Asking) (u : ℕ)
    → (with_sign_of (Some t) unit idle a).asked u ≡ request_kept t (a.asked u) (sign_at unit idle u)
signed t None idle a u = no_sign t (a.asked u)
signed t (Some v) idle a u =
    let kept : Bool → Option ClaimRequest = λ b. request_kept t (a.asked u) (cond b (Some idle) None) in
    elim (cases_eq v u) [
      | inl same ↦ ap (λ (w : ℕ). (deaf_if_overdue t idle w (a.asked w) a).asked u) same ∙ sign_here t idle a u (a.asked u) refl
          ∙ sym (ap kept (eq-eqb v u same))
      | inr other ↦ sign_other t idle a u v (a.asked v) other ∙ no_sign t (a.asked u) ∙ sym (ap kept (ne_eqb v u other))
    ]

pub keeps_requests : KeepsRequests
unfolding asking_behind
keeps_requests s t k broken anew time f line unit idle a u timing =
    let b = asked_behind s k broken anew time f line a in
    ap (λ (o : Option Timing). (with_sign_of o unit idle b).asked u) timing ∙ signed t unit idle b u
    ∙ ap (λ (o : Option ClaimRequest). request_kept t o (sign_at unit idle u)) (behind s k broken anew time f line a u)

-- ---- what is noted

noted_here : (t : Timing) (idle : Option ℕ) (a : Asking) (u : ℕ) (o : Option ClaimRequest)
    → (deaf_if_overdue t idle u o a).deaf ≡ a.deaf ++ deaf_there u (is_late t o (Some idle)) o
noted_here t idle a u None = sym (append-nil a.deaf)
noted_here t idle a u (Some r) =
    let next : Bool → List Noted = λ b. (cond b (with_deaf u r a) a).deaf in
    let there : Bool → List Noted = λ b. a.deaf ++ deaf_there u b (Some r) in
    elim (cases_Bool (is_overdue t r idle)) [
      | inl late ↦ ap next late ∙ sym (ap there late)
      | inr not ↦ ap next not ∙ sym (append-nil a.deaf) ∙ sym (ap there not)
    ]

noted_before : (anew broken : Bool) (a : Asking) → (asked_before anew broken a).deaf ≡ a.deaf
noted_before true broken a = refl
noted_before false true a = refl
noted_before false false a = refl

noted_answered : (claims : Bool) (unit : Option ℕ) (a : Asking) → (cond claims (answered unit a) a).deaf ≡ a.deaf
noted_answered true None a = refl
noted_answered true (Some v) a = refl
noted_answered false unit a = refl

noted_at_request : (s : Settings) (k : Knowledge) (f : Frame) (time : Option ℕ) (line : ℕ) (a : Asking) → (asked_at s k f time line a).deaf ≡ a.deaf
noted_at_request s k f None line a = refl
noted_at_request s k f (Some time) line a = refl

noted_by : (t : Timing) (unit idle : Option ℕ) (a : Asking) → (with_sign_of (Some t) unit idle a).deaf ≡ a.deaf ++ deaf_of t unit idle a.asked
noted_by t None idle a = sym (append-nil a.deaf)
noted_by t (Some u) idle a = noted_here t idle a u (a.asked u)

pub notes_the_deaf : NotesTheDeaf
unfolding asking_behind
notes_the_deaf s t k broken anew time f line unit idle a timing =
    let b = asked_behind s k broken anew time f line a in
    let next : ℕ → Option ClaimRequest = λ u. request_next (forgets_at s broken anew f u) (asks_at s k time f line u) (a.asked u) in
    let table : b.asked ≡ next = λ i u. behind s k broken anew time f line a u i in
    ap (λ (o : Option Timing). (with_sign_of o unit idle b).deaf) timing ∙ noted_by t unit idle b
    ∙ ap (λ (asked : ℕ → Option ClaimRequest). b.deaf ++ deaf_of t unit idle asked) table
    ∙ ap (λ (l : List Noted). l ++ deaf_of t unit idle next)
    (noted_at_request s k f time line (answered_at s f (asked_before anew broken a)) ∙ noted_answered (is_claim f) (claimant s f).unit
    (asked_before anew broken a)
    ∙ noted_before anew broken a)
