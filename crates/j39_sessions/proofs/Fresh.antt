-- A session as an RTS begins it.
use Rattle.std.proofs.Common.{◌≡◌, ◌<◌, ◌≤◌, ◌==◌, ◌&&◌, ℕ, Bool, true, false, cond, not, List, replicate, refl, sym, subst, arith, eqb-true}
use Rattle.std.proofs.lemmas.Bool.{leb-true}
use Rattle.std.specs.Prelude.{nat_le, nat_lt, length, slice_index}
use Rattle.j39_id.specs.Addresses.{is_address}
use Rattle.j39_id.specs.Ident.{pgn_of}
use Rattle.j39_id.specs.Services.{connection_management, data_transfer}
use Rattle.j39_id.specs.declared.frame.Frame.{Frame}
use Rattle.j39_id.specs.declared.ident.Ident.{Ident}
use Rattle.j39_tp.specs.Chunks.{packets_of}
use Rattle.j39_tp.specs.Packets.{end_control, is_size, rts_control, size_in}
use Rattle.j39_sessions.specs.SessionFrames.{announcement_role, announces, begins_with, clearance_in, clears, data_role, states_size, goes_rightly, has_size}
use Rattle.j39_sessions.specs.SessionFrames.{is_right, is_whole_control, management_role, numbers, session_opened, receipt_of, role_of}
use Rattle.j39_sessions.specs.declared.role.Role.{Role}
use Rattle.j39_sessions.specs.declared.role.Role.TheVariants.{Begins, Breaks, Clears, Acknowledges, Carries, Nothing}
use Rattle.j39_sessions.specs.declared.session.LoggedSession.{LoggedSession}
use Rattle.j39_sessions.proofs.Recalled.{first_holds, second_holds}

-- no CTS has cleared a packet of it, none was sent, and it has no more than a byte can number
pub record IsFresh (s : LoggedSession) : Type 0 where
  pub greatest : s.greatest ≡ 0
  pub sent : s.sent ≡ replicate numbers false
  pub count : s.count < 256

by_cases : (b : Bool) (x y : Role) (s : LoggedSession) → cond b x y ≡ Begins s → (b ≡ true → x ≡ Begins s → IsFresh s) → (b ≡ false → y ≡ Begins s → IsFresh s)
    → IsFresh s
by_cases true x y s e one two = one refl e
by_cases false x y s e one two = two refl e

few_packets : (size : ℕ) → is_size size ≡ true → packets_of size < 256
few_packets size e =
    let small : size ≤ 1785 = leb-true size 1785 (second_holds (nat_lt 8 size) (nat_le size 1785) e) in
    omega arith

fresh_opened : (i : Ident) (bytes : List ℕ) (s : LoggedSession) → is_right i bytes ≡ true → Begins (session_opened bytes) ≡ Begins s → IsFresh s
fresh_opened i bytes s right e =
    let same : session_opened bytes ≡ s = cc in
    let gives : states_size bytes ≡ true = first_holds (states_size bytes) (goes_rightly i bytes) right in
    let has : has_size bytes ≡ true = second_holds (length bytes == 8) (has_size bytes) gives in
    let size : is_size (size_in bytes) ≡ true = first_holds (is_size (size_in bytes)) (slice_index bytes 3 == packets_of (size_in bytes)) has in
    let count : slice_index bytes 3 ≡ packets_of (size_in bytes) =
    eqb-true (slice_index bytes 3) (packets_of (size_in bytes)) (second_holds (is_size (size_in bytes))
    (slice_index bytes 3 == packets_of (size_in bytes)) has) in
    subst IsFresh same (record { greatest = refl; sent = refl; count = subst (λ n. n < 256) (sym count) (few_packets (size_in bytes) size) })

pub right_of : (b : Bool) → not b ≡ false → b ≡ true
right_of true e = refl
right_of false e = sym e

fresh_announced : (i : Ident) (bytes : List ℕ) (s : LoggedSession) → announcement_role i bytes ≡ Begins s → IsFresh s
fresh_announced i bytes s e =
    by_cases (not (is_right i bytes)) Breaks (cond (begins_with rts_control bytes && is_address i.sa) (Begins (session_opened bytes)) Nothing) s e
    (λ _ no. absurd cc)
    (λ right f. by_cases (begins_with rts_control bytes && is_address i.sa) (Begins (session_opened bytes)) Nothing s f
    (λ _ is. fresh_opened i bytes s (right_of (is_right i bytes) right) is)
    (λ _ no. absurd cc))

fresh_managed : (i : Ident) (bytes : List ℕ) (s : LoggedSession) → management_role i bytes ≡ Begins s → IsFresh s
fresh_managed i bytes s e =
    let answer : Role = cond (is_whole_control end_control bytes) (Acknowledges (receipt_of bytes)) Nothing in
    by_cases (announces bytes) (announcement_role i bytes) (cond (clears bytes) (Clears (clearance_in bytes)) answer) s e
    (λ _ is. fresh_announced i bytes s is)
    (λ _ f. by_cases (clears bytes) (Clears (clearance_in bytes)) answer s f
    (λ _ no. absurd cc)
    (λ _ g. by_cases (is_whole_control end_control bytes) (Acknowledges (receipt_of bytes)) Nothing s g (λ _ no. absurd cc) (λ _ no. absurd cc)))

fresh_data : (bytes : List ℕ) (s : LoggedSession) → data_role bytes ≡ Begins s → IsFresh s
fresh_data bytes s e = by_cases (nat_lt 0 (length bytes)) (Carries (slice_index bytes 0)) Nothing s e (λ _ no. absurd cc) (λ _ no. absurd cc)

pub begins_fresh : (f : Frame) (s : LoggedSession) → role_of f ≡ Begins s → IsFresh s
unfolding role_of
begins_fresh f s e =
    let bytes = f.payload.items in
    by_cases (pgn_of f.ident == connection_management) (management_role f.ident bytes) (cond (pgn_of f.ident == data_transfer) (data_role bytes) Nothing) s e
    (λ _ is. fresh_managed f.ident bytes s is)
    (λ _ g. by_cases (pgn_of f.ident == data_transfer) (data_role bytes) Nothing s g (λ _ is. fresh_data bytes s is) (λ _ no. absurd cc))
