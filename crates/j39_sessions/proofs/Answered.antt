-- What is told of answers of a receiver, behind a CTS that is right by the last RTS alone.
use Rattle.std.proofs.Common.{◌≡◌, zero, suc, ◌+◌, ◌-◌, ◌<◌, ◌≤◌, ◌==◌, ◌&&◌, ◌||◌, ℕ, Bool, true, false, cond, not, List, [], ◌∷◌, ◌++◌, replicate, take, drop}
use Rattle.std.proofs.Common.{get_or, Option, Some, None, refl, sym, ap, ◌∙◌, subst, arith, eq-eqb}
use Rattle.std.proofs.lemmas.Bool.{false≢true}
use Rattle.std.proofs.lemmas.List.{get_or-replicate, get_or-set_other}
use Rattle.std.proofs.Common.{max, nat_le}
use Rattle.std.specs.List.{list_all}
use Rattle.j39_id.specs.declared.frame.Frame.{Frame}
use Rattle.j39_sessions.specs.SessionFrames.{numbers, role_of}
use Rattle.j39_sessions.specs.SessionLaws.{OfEach, IsCts, CarriesNumber, IsReceipt, IsTakenUp, IsntByTheOneBefore, sessions_after}
use Rattle.j39_sessions.specs.Sessions.{AllSessions, pair_with, with_cleared, fault_at, fault_if, fault_in, goes_back, has_come, is_acknowledged, is_cleared}
use Rattle.j39_sessions.specs.Sessions.{is_it_acknowledged, is_it_cleared, last_cleared, sessions_behind, stays, with_clearance, with_receipt, with_session}
use Rattle.j39_sessions.specs.declared.fault.SessionFault.{SessionFault}
use Rattle.j39_sessions.specs.declared.fault.SessionFault.TheVariants.{Grant, Acknowledged}
use Rattle.j39_sessions.specs.declared.pair_sessions.Before.{Before}
use Rattle.j39_sessions.specs.declared.pair_sessions.Before.TheVariants.{Nothing as NoneBefore, Known}
use Rattle.j39_sessions.specs.declared.pair_sessions.PairSessions.{PairSessions}
use Rattle.j39_sessions.specs.declared.role.Clearance.{Clearance}
use Rattle.j39_sessions.specs.declared.role.Receipt.{Receipt}
use Rattle.j39_sessions.specs.declared.role.Role.{Role}
use Rattle.j39_sessions.specs.declared.role.Role.TheVariants.{Begins, Breaks, Clears, Acknowledges, Carries, Nothing}
use Rattle.j39_sessions.specs.declared.session.LoggedSession.{LoggedSession}
use Rattle.j39_sessions.proofs.Fresh.{begins_fresh}
use Rattle.j39_sessions.proofs.Recalled.{first_holds}
use Rattle.j39_sessions.proofs.Steps.{Found, Keeps, after-append, backward_ends, each_first, each_here, each_of, each_second, forward_way, found_cts, found_rts}
use Rattle.j39_sessions.proofs.Steps.{steps, told_here}
use Rattle.j39_sessions.proofs.Told.{IsLike, both_false, both_true, cleared_alike, like_behind, like_it, like_more, newest_behind_receipt, newest_of_begun}

-- ---- the session before the newest one

-- a frame leaves it as it is, or there is none any more
data IsLeft (old : Before) : Before → Type 0 where
  as_it_is : IsLeft old old
  gone : IsLeft old NoneBefore

left_if : (b : Bool) (old : Before) → IsLeft old (cond b NoneBefore old)
left_if true old = gone
left_if false old = as_it_is

left_receipt : (r : Receipt) (p : PairSessions) → IsLeft p.before (with_receipt r p).before
left_receipt r p = elim (is_acknowledged r p.newest || not (is_it_acknowledged r p.before)) as
    (λ b. IsLeft p.before (cond b (record p { is_over = true }) (record p { before = NoneBefore })).before)
    [ true ↦ as_it_is | false ↦ gone ]

left_behind : (r : Role) (p : PairSessions) → IsLeft p.before (pair_with r p).before
left_behind (Clears c) p = elim (c.group == p.newest.group) as (λ b. IsLeft p.before (cond b (with_clearance c p) p).before)
    [ true ↦ left_if (is_cleared c p.newest && not (stays c p.before)) p.before | false ↦ as_it_is ]
left_behind (Acknowledges r) p = elim (r.group == p.newest.group) as (λ b. IsLeft p.before (cond b (with_receipt r p) p).before)
    [ true ↦ left_receipt r p | false ↦ as_it_is ]
left_behind (Carries k) p = as_it_is
left_behind (Begins s) p = as_it_is
left_behind Breaks p = as_it_is
left_behind Nothing p = as_it_is

stays_left : (c : Clearance) (old new : Before) → IsLeft old new → stays c old ≡ false → stays c new ≡ false
stays_left c old _ as_it_is e = e
stays_left c old _ gone e = refl

none_left : (old new : Before) → IsLeft old new → old ≡ NoneBefore → new ≡ NoneBefore
none_left old _ as_it_is e = e
none_left old _ gone e = refl

-- ---- up to the CTS, and behind it

record IsOpen (session_opened : LoggedSession) (c : Clearance) (p : PairSessions) : Type 0 where
  pub like : IsLike session_opened p.newest
  pub isnt : stays c p.before ≡ false

record IsAlone (session_opened : LoggedSession) (p : PairSessions) : Type 0 where
  pub like : IsLike session_opened p.newest
  pub alone : p.before ≡ NoneBefore

open_kept : (session_opened : LoggedSession) (c : Clearance) (from to : ℕ) (f : Frame) → Keeps (IsOpen session_opened c) from to f
open_kept session_opened c from to f = λ p old e. record {
  like = like_more session_opened p.newest (pair_with (role_of f) p).newest old.like (like_behind (role_of f) p);
  isnt = stays_left c p.before (pair_with (role_of f) p).before (left_behind (role_of f) p) old.isnt;
}

alone_kept : (session_opened : LoggedSession) (from to : ℕ) (f : Frame) → Keeps (IsAlone session_opened) from to f
alone_kept session_opened from to f = λ p old e. record {
  like = like_more session_opened p.newest (pair_with (role_of f) p).newest old.like (like_behind (role_of f) p);
  alone = none_left p.before (pair_with (role_of f) p).before (left_behind (role_of f) p) old.alone;
}

known_isnt : (session_opened : LoggedSession) (c : Clearance) (known : Option PairSessions) → ((p : PairSessions) → known ≡ Some p → is_cleared c p.newest ≡ false)
    → stays c (with_session session_opened known).before ≡ false
known_isnt session_opened c None isnt = refl
known_isnt session_opened c (Some p) isnt = elim p.is_over as (λ b. stays c (cond b NoneBefore (Known p.newest)) ≡ false) [ true ↦ refl | false ↦ isnt p refl ]

begins_open : (from to : ℕ) (s : AllSessions) (session_opened : LoggedSession) (c : Clearance) → IsntByTheOneBefore from to s c
    → IsOpen session_opened c (with_session session_opened (s from to))
begins_open from to s session_opened c isnt = record {
  like = subst (IsLike session_opened) (sym (newest_of_begun session_opened (s from to))) (like_it session_opened);
  isnt = known_isnt session_opened c (s from to) isnt;
}

alone_if : (old : Before) (g a b : Bool) (p q : PairSessions) → g ≡ true → a ≡ true → b ≡ false → p.before ≡ cond (a && not b) NoneBefore old
    → (cond g p q).before ≡ NoneBefore
alone_if old g a b p q ge ae be is =
    ap (λ (t : Bool). (cond t p q).before) ge ∙ is ∙ ap (λ (t : Bool). cond (t && not b) NoneBefore old) ae ∙ ap (λ (t : Bool). cond (not t) NoneBefore old) be

ends_alone : (session_opened : LoggedSession) (c : Clearance) → is_cleared c session_opened ≡ true → (p : PairSessions) → IsOpen session_opened c p → IsAlone session_opened (pair_with (Clears c) p)
ends_alone session_opened c right p is =
    let by_newest : is_cleared c p.newest ≡ true = cleared_alike c session_opened p.newest is.like ∙ right in
    let group : (c.group == p.newest.group) ≡ true = first_holds (c.group == p.newest.group) _ by_newest in
    record {
      like = like_more session_opened p.newest (pair_with (Clears c) p).newest is.like (like_behind (Clears c) p);
      alone = alone_if p.before (c.group == p.newest.group) (is_cleared c p.newest) (stays c p.before) (with_clearance c p) p group by_newest is.isnt refl;
    }

-- this holds from the CTS on, beside what else is kept
both_kept : (P Q : PairSessions → Type 0) (from to : ℕ) (f : Frame) → Keeps P from to f → Keeps Q from to f → Keeps (λ p. P p × Q p) from to f
both_kept P Q from to f one two = λ p old e. (one p old.0 e, two p old.1 e)

taken : (Q : PairSessions → Type 0) (from to : ℕ) (s : AllSessions) (rts : Frame) (session_opened : LoggedSession) (first : List Frame) (cts : Frame) (c : Clearance)
    (later : List Frame)
    → IsTakenUp from to s rts session_opened first cts c later
    → Q (with_session session_opened (s from to)) → OfEach (Keeps Q from to) first → ((p : PairSessions) → Q p → Q (pair_with (Clears c) p)) → OfEach (Keeps Q from to) later
    → Found (λ p. IsAlone session_opened p × Q p) (sessions_after (rts ∷ first ++ cts ∷ later) s from to)
unfolding sessions_after
taken Q from to s rts session_opened first cts c later is start up_to over behind_it =
    let P : PairSessions → Type 0 = λ p. IsOpen session_opened c p × Q p in
    let R : PairSessions → Type 0 = λ p. IsAlone session_opened p × Q p in
    let s1 = sessions_after first (sessions_behind rts s) in
    let one = steps P from to first (sessions_behind rts s) is.none_first
    (each_of (Keeps Q from to) (Keeps P from to) (λ f keeps. both_kept (IsOpen session_opened c) Q from to f (open_kept session_opened c from to f) keeps) first up_to)
    (found_rts P from to rts session_opened s is.rts_is (begins_open from to s session_opened c is.isnt_before, start)) in
    let two = found_cts P R from to cts c s1 is.cts_is (λ p both. (ends_alone session_opened c is.is_right p both.0, over p both.1)) one in
    let three = steps R from to later (sessions_behind cts s1) is.none_later
    (each_of (Keeps Q from to) (Keeps R from to) (λ f keeps. both_kept (IsAlone session_opened) Q from to f (alone_kept session_opened from to f) keeps) later behind_it) two in
    subst (λ (t : AllSessions). Found R (t from to)) (sym (after-append (rts ∷ first) (cts ∷ later) s)) three

-- ---- a CTS that isn't right

right_by_none : (a b : Bool) → a ≡ false → b ≡ false → not (a || b) ≡ true
right_by_none a b e f = ap (λ (t : Bool). not (t || b)) e ∙ ap not f

told_if : (b : Bool) (fault : SessionFault) → b ≡ true → fault_if b fault ≡ Some fault
told_if b fault e = ap (λ (t : Bool). fault_if t fault) e

wrong_clearance : (session_opened : LoggedSession) (w : Clearance) (p : PairSessions) → IsAlone session_opened p → w.group ≡ session_opened.group → is_cleared w session_opened ≡ false
    → fault_in (Clears w) p ≡ Some Grant
wrong_clearance session_opened w p is same wrong =
    told_if ((w.group == p.newest.group) && not (is_cleared w p.newest || is_it_cleared w p.before)) Grant
    (both_true (w.group == p.newest.group) (not (is_cleared w p.newest || is_it_cleared w p.before)) (eq-eqb w.group p.newest.group (same ∙ sym is.like.group))
    (right_by_none (is_cleared w p.newest) (is_it_cleared w p.before) (cleared_alike w session_opened p.newest is.like ∙ wrong) (ap (is_it_cleared w) is.alone)))

pub wrong_grants_told : (from to : ℕ) (s : AllSessions) (rts : Frame) (session_opened : LoggedSession) (first : List Frame) (cts : Frame) (c : Clearance) (later : List Frame)
    (wrong : Frame) (w : Clearance)
    → IsTakenUp from to s rts session_opened first cts c later → IsCts from to w wrong → w.group ≡ session_opened.group → is_cleared w session_opened ≡ false
    → fault_at wrong (sessions_after (rts ∷ first ++ cts ∷ later) s) ≡ Some Grant
wrong_grants_told from to s rts session_opened first cts c later wrong w is wrong_is same isnt =
    let any : PairSessions → Type 0 = λ p. Unit {0} in
    let all : (fs : List Frame) → OfEach (Keeps any from to) fs = λ fs. each_here (Keeps any from to) (λ f p old e. tt) fs in
    let found = taken any from to s rts session_opened first cts c later is tt (all first) (λ p old. tt) (all later) in
    let ends = backward_ends from to wrong (Clears w) refl wrong_is.0 in
    told_here from to wrong (Clears w) (sessions_after (rts ∷ first ++ cts ∷ later) s) found.pair wrong_is.1 ends.0 ends.1 found.is
    ∙ wrong_clearance session_opened w found.pair found.holds.0 same isnt

-- ---- an acknowledgement before a packet was sent

-- this number is one that a packet may have, and wasn't sent
IsMissing : ℕ → PairSessions → Type 0
IsMissing k p = get_or p.newest.sent k true ≡ false

missing_newest : (k : ℕ) (p q : PairSessions) → q.newest ≡ p.newest → IsMissing k p → IsMissing k q
unfolding IsMissing
missing_newest k p q e is = ap (λ (t : LoggedSession). get_or t.sent k true) e ∙ is

pub sent_of_cleared : (c : Clearance) (s : LoggedSession) → (with_cleared c s).sent ≡ s.sent
sent_of_cleared c s = elim (nat_le 1 c.first) as (λ b. (cond b (record s { greatest = max s.greatest (last_cleared c s.count) }) s).sent
    ≡ s.sent) [ true ↦ refl | false ↦ refl ]

missing_cleared : (k : ℕ) (c : Clearance) (p : PairSessions) → IsMissing k p → IsMissing k (pair_with (Clears c) p)
unfolding IsMissing
missing_cleared k c p is =
    (elim (c.group == p.newest.group) as (λ b. get_or (cond b (with_clearance c p) p).newest.sent k true ≡ get_or p.newest.sent k true)
    [ true ↦ ap (λ (xs : List Bool). get_or xs k true) (sent_of_cleared c p.newest) | false ↦ refl ]) ∙ is

missing_behind : (k : ℕ) (r : Role) (p : PairSessions) → (¬ (r ≡ Carries k)) → IsMissing k p → IsMissing k (pair_with r p)
unfolding IsMissing
missing_behind k (Clears c) p other is = missing_cleared k c p is
missing_behind k (Acknowledges r) p other is = missing_newest k p (pair_with (Acknowledges r) p) (newest_behind_receipt r p) is
missing_behind k (Carries n) p other is = get_or-set_other p.newest.sent n k true true (λ e. other (ap Carries (sym e))) ∙ is
missing_behind k (Begins s) p other is = is
missing_behind k Breaks p other is = is
missing_behind k Nothing p other is = is

missing_kept : (k : ℕ) (from to : ℕ) (f : Frame) → (¬ CarriesNumber from to k f) → Keeps (IsMissing k) from to f
missing_kept k from to f isnt = λ p old e. missing_behind k (role_of f) p
    (λ is. isnt (forward_way from to f (role_of f) (ap goes_back is) e, is)) old

not_all : (xs : List Bool) (n m : ℕ) → m < n → get_or xs m true ≡ false → list_all (λ (b : Bool). b) (take n xs) ≡ false
not_all [] n m lt e = absurd (false≢true (sym e))
not_all (x ∷ xs) zero m lt e = absurd (omega arith)
not_all (x ∷ xs) (suc n) zero lt e = ap (λ (b : Bool). b && list_all (λ (b : Bool). b) (take n xs)) e
not_all (x ∷ xs) (suc n) (suc m) lt e = both_false x (list_all (λ (b : Bool). b) (take n xs)) (not_all xs n m (omega arith) e)

behind_first : (xs : List Bool) (count k : ℕ) → 1 ≤ k → k ≤ count → get_or xs k true ≡ false → list_all (λ (b : Bool). b) (take (count + 1 - 1) (drop 1 xs))
    ≡ false
behind_first [] count k least most e = absurd (false≢true (sym e))
behind_first (x ∷ xs) count zero least most e = absurd (omega arith)
behind_first (x ∷ xs) count (suc k) least most e = not_all xs (count + 1 - 1) k (omega arith) e

hasnt_come : (k : ℕ) (p : PairSessions) → 1 ≤ k → k ≤ p.newest.count → IsMissing k p → has_come p.newest ≡ false
unfolding IsMissing
hasnt_come k p least most is = behind_first p.newest.sent p.newest.count k least most is

isnt_acknowledged : (r : Receipt) (s : LoggedSession) → has_come s ≡ false → is_acknowledged r s ≡ false
isnt_acknowledged r s is =
    both_false (r.group == s.group) (r.size == s.size && (r.count == s.count && has_come s))
    (both_false (r.size == s.size) (r.count == s.count && has_come s) (both_false (r.count == s.count) (has_come s) is))

begins_missing : (k : ℕ) (session_opened : LoggedSession) (known : Option PairSessions) → k < numbers → session_opened.sent ≡ replicate numbers false
    → IsMissing k (with_session session_opened known)
unfolding IsMissing
begins_missing k session_opened known lt fresh =
    ap (λ (t : LoggedSession). get_or t.sent k true) (newest_of_begun session_opened known) ∙ ap
    (λ (xs : List Bool). get_or xs k true) fresh ∙ get_or-replicate numbers k false true lt

early_receipt : (session_opened : LoggedSession) (r : Receipt) (p : PairSessions) → IsAlone session_opened p → r.group ≡ session_opened.group → has_come p.newest ≡ false
    → fault_in (Acknowledges r) p ≡ Some Acknowledged
early_receipt session_opened r p is same early =
    told_if ((r.group == p.newest.group) && not (is_acknowledged r p.newest || is_it_acknowledged r p.before)) Acknowledged
    (both_true (r.group == p.newest.group) (not (is_acknowledged r p.newest || is_it_acknowledged r p.before))
    (eq-eqb r.group p.newest.group (same ∙ sym is.like.group))
    (right_by_none (is_acknowledged r p.newest) (is_it_acknowledged r p.before) (isnt_acknowledged r p.newest early) (ap (is_it_acknowledged r) is.alone)))

pub early_receipts_told : (from to : ℕ) (s : AllSessions) (rts : Frame) (session_opened : LoggedSession) (first : List Frame) (cts : Frame) (c : Clearance)
    (later : List Frame)
    (receipt : Frame) (r : Receipt) (missing : ℕ)
    → IsTakenUp from to s rts session_opened first cts c later → 1 ≤ missing → missing ≤ session_opened.count → OfEach (λ f. ¬ CarriesNumber from to missing f) (first ++ cts ∷ later)
    → IsReceipt from to r receipt → r.group ≡ session_opened.group
    → fault_at receipt (sessions_after (rts ∷ first ++ cts ∷ later) s) ≡ Some Acknowledged
early_receipts_told from to s rts session_opened first cts c later receipt r missing is least most none receipt_is same =
    let isnt : Frame → Type 0 = λ f. ¬ CarriesNumber from to missing f in
    let Q = IsMissing missing in
    let fresh = begins_fresh rts session_opened is.rts_is.1 in
    let few = fresh.count in
    let keeps : (f : Frame) → isnt f → Keeps Q from to f = λ f no_packet. missing_kept missing from to f no_packet in
    let found = taken Q from to s rts session_opened first cts c later is
    (begins_missing missing session_opened (s from to) (omega arith) fresh.sent)
    (each_of isnt (Keeps Q from to) keeps first (each_first isnt first (cts ∷ later) none))
    (λ p old. missing_cleared missing c p old)
    (each_of isnt (Keeps Q from to) keeps later (each_second isnt first (cts ∷ later) none).1) in
    let count = found.holds.0.like.count in
    let ends = backward_ends from to receipt (Acknowledges r) refl receipt_is.0 in
    told_here from to receipt (Acknowledges r) (sessions_after (rts ∷ first ++ cts ∷ later) s) found.pair receipt_is.1 ends.0 ends.1 found.is
    ∙ early_receipt session_opened r found.pair found.holds.0 same (hasnt_come missing found.pair least (omega arith) found.holds.1)
