-- The sessions of two addresses, frame after frame.
use Rattle.std.proofs.Common.{◌≡◌, ◌==◌, ◌&&◌, ℕ, Bool, true, false, cond, List, [], ◌∷◌, ◌++◌, Option, Some, refl, sym, ap, ◌∙◌, subst, eq-eqb, eqb-true}
use Rattle.j39_id.specs.declared.frame.Frame.{Frame}
use Rattle.j39_id.specs.declared.ident.Ident.{Ident}
use Rattle.j39_sessions.specs.SessionFrames.{role_of}
use Rattle.j39_sessions.specs.SessionLaws.{AnnouncesNothing, OfEach, IsCts, CarriesNumber, IsRts, GoesFromTo, sessions_after}
use Rattle.j39_sessions.specs.Sessions.{AllSessions, pair_with, fault_at, fault_of, goes_back, is_of_session, pair_behind, receiver_by, sender_by, sessions_behind}
use Rattle.j39_sessions.specs.Sessions.{with_session}
use Rattle.j39_sessions.specs.declared.pair_sessions.PairSessions.{PairSessions}
use Rattle.j39_sessions.specs.declared.role.Clearance.{Clearance}
use Rattle.j39_sessions.specs.declared.role.Role.{Role}
use Rattle.j39_sessions.specs.declared.role.Role.TheVariants.{Begins, Breaks, Clears, Acknowledges, Carries, Nothing}
use Rattle.j39_sessions.specs.declared.session.LoggedSession.{LoggedSession}
use Rattle.j39_sessions.proofs.Recalled.{first_holds, second_holds}

-- ---- of which session a frame is

pub ends_of : (i : Ident) (r : Role) (from to : ℕ) → is_of_session i r from to ≡ true → (from ≡ sender_by i r) × (to ≡ receiver_by i r)
ends_of i r from to e =
    let x = sender_by i r in
    let y = receiver_by i r in
    (eqb-true from x (first_holds (from == x) (to == y) e), eqb-true to y (second_holds (from == x) (to == y) e))

pub is_of_ends : (i : Ident) (r : Role) (from to : ℕ) → from ≡ sender_by i r → to ≡ receiver_by i r → is_of_session i r from to ≡ true
is_of_ends i r from to one two =
    let x = sender_by i r in
    let y = receiver_by i r in
    ap (λ (b : Bool). b && (to == y)) (eq-eqb from x one) ∙ eq-eqb to y two

-- a frame of a kind that goes from the sender
pub forward_way : (from to : ℕ) (f : Frame) (r : Role) → goes_back r ≡ false → is_of_session f.ident r from to ≡ true → GoesFromTo from to f
forward_way from to f r forth e =
    let ends = ends_of f.ident r from to e in
    record {
      source_is = sym (ends.0 ∙ ap (λ (b : Bool). cond b f.ident.ps f.ident.sa) forth);
      to_is = sym (ends.1 ∙ ap (λ (b : Bool). cond b f.ident.sa f.ident.ps) forth);
    }

pub backward_way : (from to : ℕ) (f : Frame) (r : Role) → goes_back r ≡ true → is_of_session f.ident r from to ≡ true → GoesFromTo to from f
backward_way from to f r back e =
    let ends = ends_of f.ident r from to e in
    record {
      source_is = sym (ends.1 ∙ ap (λ (b : Bool). cond b f.ident.sa f.ident.ps) back);
      to_is = sym (ends.0 ∙ ap (λ (b : Bool). cond b f.ident.ps f.ident.sa) back);
    }

pub forward_ends : (from to : ℕ) (f : Frame) (r : Role) → goes_back r ≡ false → GoesFromTo from to f → (sender_by f.ident r ≡ from) × (receiver_by f.ident r ≡ to)
forward_ends from to f r forth way =
    (ap (λ (b : Bool). cond b f.ident.ps f.ident.sa) forth ∙ way.source_is, ap (λ (b : Bool). cond b f.ident.sa f.ident.ps) forth ∙ way.to_is)

pub backward_ends : (from to : ℕ) (f : Frame) (r : Role) → goes_back r ≡ true → GoesFromTo to from f → (sender_by f.ident r ≡ from) × (receiver_by f.ident r ≡ to)
backward_ends from to f r back way =
    (ap (λ (b : Bool). cond b f.ident.ps f.ident.sa) back ∙ way.to_is, ap (λ (b : Bool). cond b f.ident.sa f.ident.ps) back ∙ way.source_is)

-- ---- one frame

-- those of two addresses are known, and this holds of them
pub record Found (P : PairSessions → Type 0) (known : Option PairSessions) : Type 0 where
  pub pair : PairSessions
  pub is : known ≡ Some pair
  pub holds : P pair

some_of : (b : Bool) (p q : PairSessions) → cond b (Some p) (Some q) ≡ Some (cond b p q)
some_of true p q = refl
some_of false p q = refl

-- what a frame leaves, unless it announces
goes_on : (r : Role) (b : Bool) (p : PairSessions) → (b ≡ true → ¬ (r ≡ Breaks)) → (b ≡ true → (s : LoggedSession) → ¬ (r ≡ Begins s))
    → cond b (pair_behind r (Some p)) (Some p) ≡ Some (cond b (pair_with r p) p)
goes_on (Begins s) true p one two = absurd (two refl s refl)
goes_on (Begins s) false p one two = refl
goes_on Breaks true p one two = absurd (one refl refl)
goes_on Breaks false p one two = refl
goes_on (Clears c) b p one two = some_of b (pair_with (Clears c) p) p
goes_on (Acknowledges c) b p one two = some_of b (pair_with (Acknowledges c) p) p
goes_on (Carries k) b p one two = some_of b (pair_with (Carries k) p) p
goes_on Nothing b p one two = some_of b (pair_with Nothing p) p

breaks_way : (from to : ℕ) (f : Frame) → AnnouncesNothing from to f → (r : Role) → role_of f ≡ r → is_of_session f.ident r from to ≡ true → ¬ (r ≡ Breaks)
breaks_way from to f none Breaks is e = λ _. (none (forward_way from to f Breaks refl e)).0 is
breaks_way from to f none (Begins s) is e = λ h. cc
breaks_way from to f none (Clears c) is e = λ h. cc
breaks_way from to f none (Acknowledges c) is e = λ h. cc
breaks_way from to f none (Carries k) is e = λ h. cc
breaks_way from to f none Nothing is e = λ h. cc

begins_way : (from to : ℕ) (f : Frame) → AnnouncesNothing from to f → (r : Role) → role_of f ≡ r → is_of_session f.ident r from to ≡ true
    → (s : LoggedSession) → ¬ (r ≡ Begins s)
begins_way from to f none (Begins t) is e = λ s h. (none (forward_way from to f (Begins t) refl e)).1 t is
begins_way from to f none Breaks is e = λ s h. cc
begins_way from to f none (Clears c) is e = λ s h. cc
begins_way from to f none (Acknowledges c) is e = λ s h. cc
begins_way from to f none (Carries k) is e = λ s h. cc
begins_way from to f none Nothing is e = λ s h. cc

-- what a frame of theirs leaves holds too
abbrev pub Keeps : (P : PairSessions → Type 0) → ℕ → ℕ → Frame → Type 0
Keeps P from to f = (p : PairSessions) → P p → is_of_session f.ident (role_of f) from to ≡ true → P (pair_with (role_of f) p)

kept_if : (P : PairSessions → Type 0) (b : Bool) (p q : PairSessions) → P p → (b ≡ true → P q) → P (cond b q p)
kept_if P true p q old new = new refl
kept_if P false p q old new = old

pub step : (P : PairSessions → Type 0) (from to : ℕ) (f : Frame) (s : AllSessions) → AnnouncesNothing from to f → Keeps P from to f
    → Found P (s from to) → Found P (sessions_behind f s from to)
unfolding sessions_behind
step P from to f s none keeps found =
    let r = role_of f in
    let b = is_of_session f.ident r from to in
    record {
      pair = cond b (pair_with r found.pair) found.pair;
      is = ap (λ (o : Option PairSessions). cond b (pair_behind r o) o) found.is
          ∙ goes_on r b found.pair (breaks_way from to f none r refl) (begins_way from to f none r refl);
      holds = kept_if P b found.pair (pair_with r found.pair) found.holds (keeps found.pair found.holds);
    }

-- ---- frames

pub steps : (P : PairSessions → Type 0) (from to : ℕ) (fs : List Frame) (s : AllSessions) → OfEach (AnnouncesNothing from to) fs → OfEach (Keeps P from to) fs
    → Found P (s from to) → Found P (sessions_after fs s from to)
unfolding sessions_after
steps P from to [] s none keeps found = found
steps P from to (f ∷ fs) s none keeps found = steps P from to fs (sessions_behind f s) none.1 keeps.1 (step P from to f s none.0 keeps.0 found)

pub after-append : (fs gs : List Frame) (s : AllSessions) → sessions_after (fs ++ gs) s ≡ sessions_after gs (sessions_after fs s)
unfolding sessions_after
after-append [] gs s = refl
after-append (f ∷ fs) gs s = after-append fs gs (sessions_behind f s)

pub after-one : (f : Frame) (fs : List Frame) (s : AllSessions) → sessions_after (f ∷ fs) s ≡ sessions_after fs (sessions_behind f s)
unfolding sessions_after
after-one f fs s = refl

pub each_of : (P Q : Frame → Type 0) → ((f : Frame) → P f → Q f) → (fs : List Frame) → OfEach P fs → OfEach Q fs
each_of P Q leads [] all = tt
each_of P Q leads (f ∷ fs) all = (leads f all.0, each_of P Q leads fs all.1)

pub each_here : (P : Frame → Type 0) → ((f : Frame) → P f) → (fs : List Frame) → OfEach P fs
each_here P holds [] = tt
each_here P holds (f ∷ fs) = (holds f, each_here P holds fs)

pub each_first : (P : Frame → Type 0) (fs gs : List Frame) → OfEach P (fs ++ gs) → OfEach P fs
each_first P [] gs all = tt
each_first P (f ∷ fs) gs all = (all.0, each_first P fs gs all.1)

pub each_second : (P : Frame → Type 0) (fs gs : List Frame) → OfEach P (fs ++ gs) → OfEach P gs
each_second P [] gs all = all
each_second P (f ∷ fs) gs all = each_second P fs gs all.1

-- ---- an RTS

begun_here : (r : Role) (b : Bool) (s : LoggedSession) (known : Option PairSessions) → r ≡ Begins s → b ≡ true
    → cond b (pair_behind r known) known ≡ Some (with_session s known)
begun_here r b s known is e = ap (λ (t : Bool). cond t (pair_behind r known) known) e ∙ ap (λ (q : Role). pair_behind q known) is

pub begun_by : (from to : ℕ) (f : Frame) (session_opened : LoggedSession) (s : AllSessions) → IsRts from to session_opened f
    → sessions_behind f s from to ≡ Some (with_session session_opened (s from to))
unfolding sessions_behind
begun_by from to f session_opened s rts =
    let forth : goes_back (role_of f) ≡ false = ap goes_back rts.1 in
    let ends = forward_ends from to f (role_of f) forth rts.0 in
    begun_here (role_of f) (is_of_session f.ident (role_of f) from to) session_opened (s from to) rts.1
    (is_of_ends f.ident (role_of f) from to (sym ends.0) (sym ends.1))

pub found_rts : (P : PairSessions → Type 0) (from to : ℕ) (f : Frame) (session_opened : LoggedSession) (s : AllSessions) → IsRts from to session_opened f
    → P (with_session session_opened (s from to)) → Found P (sessions_behind f s from to)
found_rts P from to f session_opened s rts holds = record { pair = with_session session_opened (s from to); is = begun_by from to f session_opened s rts; holds = holds }

-- ---- a CTS

pub found_cts : (P Q : PairSessions → Type 0) (from to : ℕ) (f : Frame) (c : Clearance) (s : AllSessions) → IsCts from to c f
    → ((p : PairSessions) → P p → Q (pair_with (Clears c) p)) → Found P (s from to) → Found Q (sessions_behind f s from to)
unfolding sessions_behind
found_cts P Q from to f c s cts leads found =
    let r : Role = Clears c in
    let ends = backward_ends from to f r refl cts.0 in
    let there : is_of_session f.ident r from to ≡ true = is_of_ends f.ident r from to (sym ends.0) (sym ends.1) in
    record {
      pair = pair_with r found.pair;
      is = subst (λ (q : Role). cond (is_of_session f.ident q from to) (pair_behind q (s from to)) (s from to) ≡ Some (pair_with r found.pair)) (sym cts.1)
          (ap (λ (b : Bool). cond b (pair_behind r (s from to)) (s from to)) there ∙ ap (pair_behind r) found.is);
      holds = leads found.pair found.holds;
    }

-- ---- a packet

pub found_packet : (P Q : PairSessions → Type 0) (from to : ℕ) (f : Frame) (k : ℕ) (s : AllSessions) → CarriesNumber from to k f
    → ((p : PairSessions) → P p → Q (pair_with (Carries k) p)) → Found P (s from to) → Found Q (sessions_behind f s from to)
unfolding sessions_behind
found_packet P Q from to f k s packet leads found =
    let r : Role = Carries k in
    let ends = forward_ends from to f r refl packet.0 in
    let there : is_of_session f.ident r from to ≡ true = is_of_ends f.ident r from to (sym ends.0) (sym ends.1) in
    record {
      pair = pair_with r found.pair;
      is = subst (λ (q : Role). cond (is_of_session f.ident q from to) (pair_behind q (s from to)) (s from to) ≡ Some (pair_with r found.pair)) (sym packet.1)
          (ap (λ (b : Bool). cond b (pair_behind r (s from to)) (s from to)) there ∙ ap (pair_behind r) found.is);
      holds = leads found.pair found.holds;
    }

-- ---- what is told

pub told_here : (from to : ℕ) (f : Frame) (r : Role) (s : AllSessions) (p : PairSessions) → role_of f ≡ r → sender_by f.ident r ≡ from
    → receiver_by f.ident r ≡ to
    → s from to ≡ Some p → fault_at f s ≡ fault_of r (Some p)
unfolding fault_at
told_here from to f r s p is one two known =
    subst (λ (q : Role). fault_of q (s (sender_by f.ident q) (receiver_by f.ident q)) ≡ fault_of r (Some p)) (sym is)
    (ap (λ (a : ℕ). fault_of r (s a (receiver_by f.ident r))) one ∙ ap (λ (a : ℕ). fault_of r (s from a)) two ∙ ap (fault_of r) known)
