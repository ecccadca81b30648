-- What isn't told: answers that are right by the last RTS, and announcements that are right.
use Rattle.std.proofs.Common.{◌≡◌, ◌≢◌, zero, suc, ◌+◌, ◌-◌, ◌<◌, ◌≤◌, ◌==◌, ◌&&◌, ◌||◌, ℕ, Bool, true, false, cond, not, List, [], ◌∷◌, ◌++◌, length}
use Rattle.std.proofs.Common.{replicate, take, drop, get_or, set, Option, Some, None, ◌⊎◌, inl, inr, refl, sym, ap, ◌∙◌, subst, arith, eq-eqb, eqb-true}
use Rattle.std.proofs.lemmas.Bool.{cases_Bool, false≢true}
use Rattle.std.proofs.lemmas.List.{get_or-set_other, get_or-set_same, length-replicate, length-set}
use Rattle.std.specs.Prelude.{nat_lt, slice_index}
use Rattle.std.specs.List.{list_all}
use Rattle.j39_id.specs.Addresses.{is_address}
use Rattle.j39_id.specs.Ident.{pgn_of}
use Rattle.j39_id.specs.Services.{connection_management, data_transfer}
use Rattle.j39_id.specs.declared.frame.Frame.{Frame}
use Rattle.j39_tp.specs.Packets.{end_control, rts_control}
use Rattle.j39_sessions.specs.SessionFrames.{announcement_role, announces, announces_rightly, begins_with, clearance_in, clears, data_role, is_right}
use Rattle.j39_sessions.specs.SessionFrames.{is_whole_control, management_role, numbers, session_opened, receipt_of, role_of}
use Rattle.j39_sessions.specs.SessionLaws.{AnnouncesNothing, AnyOf, OfEach, IsCts, CarriesNumber, IsReceipt, IsRts, GoesFromTo, sessions_after}
use Rattle.j39_sessions.specs.Sessions.{AllSessions, pair_with, fault_at, fault_if, fault_in, fault_of, goes_back, has_come, is_acknowledged, is_cleared}
use Rattle.j39_sessions.specs.Sessions.{is_it_acknowledged, is_it_cleared, is_permitted, is_wrong_clearance, is_wrong_receipt, receiver_by, sender_by}
use Rattle.j39_sessions.specs.Sessions.{sessions_behind, with_clearance, with_session}
use Rattle.j39_sessions.specs.declared.fault.SessionFault.{SessionFault}
use Rattle.j39_sessions.specs.declared.fault.SessionFault.TheVariants.{Announcement, Grant, Packet, Acknowledged}
use Rattle.j39_sessions.specs.declared.pair_sessions.PairSessions.{PairSessions}
use Rattle.j39_sessions.specs.declared.role.Clearance.{Clearance}
use Rattle.j39_sessions.specs.declared.role.Receipt.{Receipt}
use Rattle.j39_sessions.specs.declared.role.Role.{Role}
use Rattle.j39_sessions.specs.declared.role.Role.TheVariants.{Begins, Breaks, Clears, Acknowledges, Carries, Nothing}
use Rattle.j39_sessions.specs.declared.session.LoggedSession.{LoggedSession}
use Rattle.j39_sessions.proofs.Answered.{sent_of_cleared}
use Rattle.j39_sessions.proofs.Fresh.{begins_fresh, right_of}
use Rattle.j39_sessions.proofs.Steps.{Found, Keeps, backward_ends, each_here, found_packet, found_rts, step, steps, told_here}
use Rattle.j39_sessions.proofs.Told.{IsLike, both_false, both_true, cleared_alike, like_behind, like_it, like_kept, like_more, newest_behind_receipt}
use Rattle.j39_sessions.proofs.Told.{newest_of_begun}

-- ---- announcements

no_fault : (b : Bool) (x y : SessionFault) → fault_if b x ≡ Some y → (¬ (x ≡ y)) → ⊥
no_fault true x y e differ = differ cc
no_fault false x y e differ = cc

only_breaks : (r : Role) (known : Option PairSessions) → fault_of r known ≡ Some Announcement → r ≡ Breaks
only_breaks Breaks known e = refl
only_breaks (Begins s) None e = absurd cc
only_breaks (Begins s) (Some p) e = absurd cc
only_breaks (Clears c) None e = absurd cc
only_breaks (Clears c) (Some p) e = absurd (no_fault (is_wrong_clearance c p) Grant Announcement e (λ h. cc))
only_breaks (Acknowledges r) None e = absurd cc
only_breaks (Acknowledges r) (Some p) e = absurd (no_fault (is_wrong_receipt r p) Acknowledged Announcement e (λ h. cc))
only_breaks (Carries k) None e = absurd cc
only_breaks (Carries k) (Some p) e = absurd (no_fault (not (is_permitted k p.newest)) Packet Announcement e (λ h. cc))
only_breaks Nothing None e = absurd cc
only_breaks Nothing (Some p) e = absurd cc

left_false : (a b : Bool) → (a || b) ≡ false → a ≡ false
left_false true b e = e
left_false false b e = refl

right_false : (a b : Bool) → (a || b) ≡ false → b ≡ false
right_false true b e = absurd (false≢true (sym e))
right_false false b e = e

breaks_if : (f : Frame) → announces_rightly f ≡ false → role_of f ≡ Breaks
unfolding role_of
breaks_if f wrong =
    let i = f.ident in
    let bytes = f.payload.items in
    let managed : Bool = pgn_of i == connection_management in
    let rest : Bool = not (announces bytes) || is_right i bytes in
    let one : managed ≡ true = right_of managed (left_false (not managed) rest wrong) in
    let two : rest ≡ false = right_false (not managed) rest wrong in
    let three : announces bytes ≡ true = right_of (announces bytes) (left_false (not (announces bytes)) (is_right i bytes) two) in
    let four : is_right i bytes ≡ false = right_false (not (announces bytes)) (is_right i bytes) two in
    let data_there : Role = cond (pgn_of i == data_transfer) (data_role bytes) Nothing in
    let answer : Role = cond (clears bytes) (Clears (clearance_in bytes))
    (cond (is_whole_control end_control bytes) (Acknowledges (receipt_of bytes)) Nothing) in
    let opening : Role = cond (begins_with rts_control bytes && is_address i.sa) (Begins (session_opened bytes)) Nothing in
    ap (λ (b : Bool). cond b (management_role i bytes) data_there) one
    ∙ ap (λ (b : Bool). cond b (announcement_role i bytes) answer) three
    ∙ ap (λ (b : Bool). cond (not b) Breaks opening) four

pub wrong_announcement_told : (f : Frame) (s : AllSessions) → announces_rightly f ≡ false → fault_at f s ≡ Some Announcement
unfolding fault_at
wrong_announcement_told f s wrong = ap (λ (r : Role). fault_of r (s (sender_by f.ident r) (receiver_by f.ident r))) (breaks_if f wrong)

breaks_by : (b : Bool) (x y : Role) → cond b x y ≡ Breaks → (b ≡ true → x ≡ Breaks → ⊥) → (b ≡ false → y ≡ Breaks → ⊥) → ⊥
breaks_by true x y e one two = one refl e
breaks_by false x y e one two = two refl e

from_not : (b : Bool) → not b ≡ true → b ≡ false
from_not true e = absurd (false≢true e)
from_not false e = refl

isnt_right : (managed announced right : Bool) → managed ≡ true → announced ≡ true → right ≡ false → (not managed || (not announced || right)) ≡ false
isnt_right managed announced right e f g =
    ap (λ (b : Bool). not b || (not announced || right)) e ∙ ap (λ (b : Bool). not b || right) f ∙ g

doesnt_break : (f : Frame) → announces_rightly f ≡ true → ¬ (role_of f ≡ Breaks)
unfolding role_of
doesnt_break f rightly = λ e.
    let i = f.ident in
    let bytes = f.payload.items in
    let managed : Bool = pgn_of i == connection_management in
    let data_there : Role = cond (pgn_of i == data_transfer) (data_role bytes) Nothing in
    let last : Role = cond (is_whole_control end_control bytes) (Acknowledges (receipt_of bytes)) Nothing in
    let answer : Role = cond (clears bytes) (Clears (clearance_in bytes)) last in
    let opening : Role = cond (begins_with rts_control bytes && is_address i.sa) (Begins (session_opened bytes)) Nothing in
    breaks_by managed (management_role i bytes) data_there e
    (λ one g. breaks_by (announces bytes) (announcement_role i bytes) answer g
    (λ two h. breaks_by (not (is_right i bytes)) Breaks opening h
    (λ three _. false≢true (sym (isnt_right managed (announces bytes) (is_right i bytes) one two (from_not (is_right i bytes) three)) ∙ rightly))
    (λ _ k. breaks_by (begins_with rts_control bytes && is_address i.sa) (Begins (session_opened bytes)) Nothing k (λ _ m. cc) (λ _ m. cc)))
    (λ _ h. breaks_by (clears bytes) (Clears (clearance_in bytes)) last h (λ _ m. cc)
    (λ _ k. breaks_by (is_whole_control end_control bytes) (Acknowledges (receipt_of bytes)) Nothing k (λ _ m. cc) (λ _ m. cc))))
    (λ _ g. breaks_by (pgn_of i == data_transfer) (data_role bytes) Nothing g
    (λ _ h. breaks_by (nat_lt 0 (length bytes)) (Carries (slice_index bytes 0)) Nothing h (λ _ m. cc) (λ _ m. cc)) (λ _ m. cc))

pub right_announcement_isnt : (f : Frame) (s : AllSessions) → announces_rightly f ≡ true → fault_at f s ≢ Some Announcement
unfolding fault_at
right_announcement_isnt f s rightly = λ e.
    doesnt_break f rightly (only_breaks (role_of f) (s (sender_by f.ident (role_of f)) (receiver_by f.ident (role_of f))) e)

-- ---- answers that are right by the last RTS

no_wrong : (g a b : Bool) (fault : SessionFault) → a ≡ true → fault_if (g && not (a || b)) fault ≡ None
no_wrong g a b fault e =
    ap (λ (t : Bool). fault_if (g && not (t || b)) fault) e ∙ ap (λ (t : Bool). fault_if t fault) (both_false g false refl)

starts_like : (from to : ℕ) (rts : Frame) (session_opened : LoggedSession) (s : AllSessions) → IsRts from to session_opened rts
    → Found (λ p. IsLike session_opened p.newest) (sessions_behind rts s from to)
starts_like from to rts session_opened s is = found_rts (λ p. IsLike session_opened p.newest) from to rts session_opened s is
    (subst (IsLike session_opened) (sym (newest_of_begun session_opened (s from to))) (like_it session_opened))

pub right_grant_isnt : (s : AllSessions) (from to : ℕ) (rts : Frame) (session_opened : LoggedSession) (since : List Frame) (cts : Frame) (c : Clearance)
    → IsRts from to session_opened rts → OfEach (AnnouncesNothing from to) since → IsCts from to c cts → is_cleared c session_opened ≡ true
    → fault_at cts (sessions_after (rts ∷ since) s) ≡ None
unfolding sessions_after
right_grant_isnt s from to rts session_opened since cts c rts_is none cts_is right =
    let P : PairSessions → Type 0 = λ p. IsLike session_opened p.newest in
    let found = steps P from to since (sessions_behind rts s) none (each_here (Keeps P from to) (like_kept session_opened from to) since)
    (starts_like from to rts session_opened s rts_is) in
    let p = found.pair in
    let ends = backward_ends from to cts (Clears c) refl cts_is.0 in
    told_here from to cts (Clears c) (sessions_after since (sessions_behind rts s)) p cts_is.1 ends.0 ends.1 found.is
    ∙ no_wrong (c.group == p.newest.group) (is_cleared c p.newest) (is_it_cleared c p.before) Grant (cleared_alike c session_opened p.newest found.holds ∙ right)

-- ---- packets that were sent

record IsHeld (session_opened : LoggedSession) (p : PairSessions) : Type 0 where
  pub like : IsLike session_opened p.newest
  pub room : length p.newest.sent ≡ numbers

room_behind : (r : Role) (p : PairSessions) → length (pair_with r p).newest.sent ≡ length p.newest.sent
room_behind (Clears c) p = elim (c.group == p.newest.group) as (λ b. length (cond b (with_clearance c p) p).newest.sent ≡ length p.newest.sent)
    [ true ↦ ap (λ (xs : List Bool). length xs) (sent_of_cleared c p.newest) | false ↦ refl ]
room_behind (Acknowledges r) p = ap (λ (s : LoggedSession). length s.sent) (newest_behind_receipt r p)
room_behind (Carries k) p = length-set p.newest.sent k true
room_behind (Begins s) p = refl
room_behind Breaks p = refl
room_behind Nothing p = refl

held_kept : (session_opened : LoggedSession) (from to : ℕ) (f : Frame) → Keeps (IsHeld session_opened) from to f
held_kept session_opened from to f = λ p old e. record {
  like = like_kept session_opened from to f p old.like e;
  room = room_behind (role_of f) p ∙ old.room;
}

-- a packet of this number was sent, behind which the session is held
record IsSent (session_opened : LoggedSession) (k : ℕ) (p : PairSessions) : Type 0 where
  pub held : IsHeld session_opened p
  pub sent : get_or p.newest.sent k false ≡ true

sent_set : (xs : List Bool) (n k : ℕ) → k < length xs → get_or xs k false ≡ true → get_or (set xs n true) k false ≡ true
sent_set xs n k room is =
    (elim (cases_Bool (k == n)) as (λ _. get_or (set xs n true) k false ≡ true) [
      | inl e ↦ subst (λ (m : ℕ). get_or (set xs m true) k false ≡ true) (eqb-true k n e) (get_or-set_same xs k true false room)
      | inr e ↦ get_or-set_other xs n k true false (λ s. false≢true (sym e ∙ eq-eqb k n s)) ∙ is
    ])

sent_behind : (k : ℕ) (r : Role) (p : PairSessions) → k < length p.newest.sent → get_or p.newest.sent k false ≡ true
    → get_or (pair_with r p).newest.sent k false ≡ true
sent_behind k (Clears c) p room is =
    (elim (c.group == p.newest.group) as (λ b. get_or (cond b (with_clearance c p) p).newest.sent k false ≡ get_or p.newest.sent k false)
    [ true ↦ ap (λ (xs : List Bool). get_or xs k false) (sent_of_cleared c p.newest) | false ↦ refl ]) ∙ is
sent_behind k (Acknowledges r) p room is = ap (λ (s : LoggedSession). get_or s.sent k false) (newest_behind_receipt r p) ∙ is
sent_behind k (Carries n) p room is = sent_set p.newest.sent n k room is
sent_behind k (Begins s) p room is = is
sent_behind k Breaks p room is = is
sent_behind k Nothing p room is = is

sent_kept : (session_opened : LoggedSession) (k : ℕ) → k < numbers → (from to : ℕ) (f : Frame) → Keeps (IsSent session_opened k) from to f
sent_kept session_opened k few from to f = λ p old e.
    let room = old.held.room in
    record {
      held = held_kept session_opened from to f p old.held e;
      sent = sent_behind k (role_of f) p (omega arith) old.sent;
    }

becomes_sent : (session_opened : LoggedSession) (k : ℕ) → k < numbers → (p : PairSessions) → IsHeld session_opened p → IsSent session_opened k (pair_with (Carries k) p)
becomes_sent session_opened k few p old =
    let room = old.room in
    record {
      held = record {
        like = like_more session_opened p.newest (pair_with (Carries k) p).newest old.like (like_behind (Carries k) p);
        room = room_behind (Carries k) p ∙ old.room;
      };
      sent = get_or-set_same p.newest.sent k true false (omega arith);
    }

some_sent : (session_opened : LoggedSession) (k : ℕ) → k < numbers → (from to : ℕ) (fs : List Frame) (s : AllSessions) → OfEach (AnnouncesNothing from to) fs
    → AnyOf (CarriesNumber from to k) fs → Found (IsHeld session_opened) (s from to) → Found (IsSent session_opened k) (sessions_after fs s from to)
unfolding sessions_after
some_sent session_opened k few from to [] s none any found = absurd any
some_sent session_opened k few from to (f ∷ fs) s none (inl is) found =
    steps (IsSent session_opened k) from to fs (sessions_behind f s) none.1 (each_here (Keeps (IsSent session_opened k) from to) (sent_kept session_opened k few from to) fs)
    (found_packet (IsHeld session_opened) (IsSent session_opened k) from to f k s is (becomes_sent session_opened k few) found)
some_sent session_opened k few from to (f ∷ fs) s none (inr rest) found =
    some_sent session_opened k few from to fs (sessions_behind f s) none.1 rest (step (IsHeld session_opened) from to f s none.0 (held_kept session_opened from to f) found)

-- ---- acknowledgements of all of them

all_here : (xs : List Bool) (n : ℕ) → ((m : ℕ) → m < n → get_or xs m false ≡ true) → list_all (λ (b : Bool). b) (take n xs) ≡ true
all_here [] zero here = refl
all_here [] (suc n) here = refl
all_here (x ∷ xs) zero here = refl
all_here (x ∷ xs) (suc n) here =
    both_true x (list_all (λ (b : Bool). b) (take n xs)) (here 0 (omega arith)) (all_here xs n (λ m lt. here (suc m) (omega arith)))

all_behind_first : (xs : List Bool) (count : ℕ) → ((k : ℕ) → 1 ≤ k → k ≤ count → get_or xs k false ≡ true)
    → list_all (λ (b : Bool). b) (take (count + 1 - 1) (drop 1 xs)) ≡ true
all_behind_first [] count here = all_here [] (count + 1 - 1) (λ m lt. here (suc m) (omega arith) (omega arith))
all_behind_first (x ∷ xs) count here = all_here xs (count + 1 - 1) (λ m lt. here (suc m) (omega arith) (omega arith))

same_pair : (P : PairSessions → Type 0) (known : Option PairSessions) (p : PairSessions) → known ≡ Some p → Found P known → P p
same_pair P known p is found =
    let there = found.is in
    let same : found.pair ≡ p = cc in
    subst P same found.holds

pub right_receipt_isnt : (s : AllSessions) (from to : ℕ) (rts : Frame) (session_opened : LoggedSession) (since : List Frame) (receipt : Frame) (r : Receipt)
    → IsRts from to session_opened rts → OfEach (AnnouncesNothing from to) since → IsReceipt from to r receipt
    → r.group ≡ session_opened.group → r.size ≡ session_opened.size → r.count ≡ session_opened.count
    → ((k : ℕ) → 1 ≤ k → k ≤ session_opened.count → AnyOf (CarriesNumber from to k) since)
    → fault_at receipt (sessions_after (rts ∷ since) s) ≡ None
unfolding sessions_after
right_receipt_isnt s from to rts session_opened since receipt r rts_is none receipt_is group size count sent =
    let fresh = begins_fresh rts session_opened rts_is.1 in
    let few = fresh.count in
    let s1 = sessions_behind rts s in
    let end = sessions_after since s1 in
    let start : Found (IsHeld session_opened) (s1 from to) = found_rts (IsHeld session_opened) from to rts session_opened s rts_is (record {
      like = subst (IsLike session_opened) (sym (newest_of_begun session_opened (s from to))) (like_it session_opened);
      room = ap (λ (t : LoggedSession). length t.sent) (newest_of_begun session_opened (s from to)) ∙ ap
          (λ (xs : List Bool). length xs) fresh.sent ∙ length-replicate numbers false;
    }) in
    let found = steps (IsHeld session_opened) from to since s1 none (each_here (Keeps (IsHeld session_opened) from to) (held_kept session_opened from to) since) start in
    let p = found.pair in
    let like = found.holds.like in
    let counted = like.count in
    let here : (k : ℕ) → 1 ≤ k → k ≤ p.newest.count → get_or p.newest.sent k false ≡ true = λ k least most.
    (same_pair (IsSent session_opened k) (end from to) p found.is
    (some_sent session_opened k (omega arith) from to since s1 none (sent k least (omega arith)) start)).sent in
    let come : has_come p.newest ≡ true = all_behind_first p.newest.sent p.newest.count here in
    let is : is_acknowledged r p.newest ≡ true =
    both_true (r.group == p.newest.group) ((r.size == p.newest.size) && ((r.count == p.newest.count) && has_come p.newest))
    (eq-eqb r.group p.newest.group (group ∙ sym like.group))
    (both_true (r.size == p.newest.size) ((r.count == p.newest.count) && has_come p.newest) (eq-eqb r.size p.newest.size (size ∙ sym like.size))
    (both_true (r.count == p.newest.count) (has_come p.newest) (eq-eqb r.count p.newest.count (count ∙ sym like.count)) come)) in
    let ends = backward_ends from to receipt (Acknowledges r) refl receipt_is.0 in
    told_here from to receipt (Acknowledges r) end p receipt_is.1 ends.0 ends.1 found.is
    ∙ no_wrong (r.group == p.newest.group) (is_acknowledged r p.newest) (is_it_acknowledged r p.before) Acknowledged is
