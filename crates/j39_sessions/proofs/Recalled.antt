-- What is kept of pairs of addresses, behind a frame.
use Rattle.std.proofs.Common.{◌≡◌, ◌≢◌, ◌<◌, ◌==◌, ◌&&◌, ℕ, Bool, true, false, cond, refl, sym, ap, ◌∙◌, subst, arith, eq-eqb, eqb-true}
use Rattle.std.proofs.lemmas.Bool.{and_from, false≢true}
use Rattle.j39_id.specs.declared.frame.Frame.{Frame}
use Rattle.j39_id.specs.declared.ident.Ident.{Ident}
use Rattle.j39_sessions.specs.KeptSessions.{KeepsSessions, kept_at, key_of_pair}
use Rattle.j39_sessions.specs.SessionFrames.{role_of}
use Rattle.j39_sessions.specs.Sessions.{AllSessions, fault_at, fault_of, goes_back, is_of_session, pair_behind, receiver_by, sender_by, sessions_behind}
use Rattle.j39_sessions.specs.declared.role.Role.{Role}
use Rattle.j39_sessions.specs.declared.sessions.Sessions.{Sessions}

-- ---- tests

pub first_holds : (a b : Bool) → (a && b) ≡ true → a ≡ true
first_holds true b e = refl
first_holds false b e = e

pub second_holds : (a b : Bool) → (a && b) ≡ true → b ≡ true
second_holds true b e = e
second_holds false b e = absurd (false≢true e)

-- ---- keys

-- the ends of a session lie below 256, as the parts of the identifier do
pub sender_fits : (i : Ident) (role : Role) → i.sa < 256 → i.ps < 256 → sender_by i role < 256
sender_fits i role a b = elim (goes_back role) as (λ back. cond back i.ps i.sa < 256) [ true ↦ b | false ↦ a ]

pub receiver_fits : (i : Ident) (role : Role) → i.sa < 256 → i.ps < 256 → receiver_by i role < 256
receiver_fits i role a b = elim (goes_back role) as (λ back. cond back i.sa i.ps < 256) [ true ↦ a | false ↦ b ]

same_sender : (a b c d : ℕ) → b < 256 → d < 256 → key_of_pair a b ≡ key_of_pair c d → a ≡ c
same_sender a b c d lb ld e = omega arith

same_receiver : (a b c d : ℕ) → b < 256 → d < 256 → key_of_pair a b ≡ key_of_pair c d → b ≡ d
same_receiver a b c d lb ld e = omega arith

-- ---- a frame

at_pair : (old new : Sessions) (i : Ident) (role : Role) (s : AllSessions) (key : ℕ) (from to : ℕ) → receiver_by i role < 256 → to < 256
    → key ≡ key_of_pair (sender_by i role) (receiver_by i role)
    → kept_at new key ≡ pair_behind role (kept_at old key)
    → ((other : ℕ) → other ≢ key → kept_at new other ≡ kept_at old other)
    → kept_at old (key_of_pair from to) ≡ s from to
    → (b : Bool) → is_of_session i role from to ≡ b
    → kept_at new (key_of_pair from to) ≡ cond b (pair_behind role (s from to)) (s from to)
at_pair old new i role s key from to fits lt is here others was true e =
    let x = sender_by i role in
    let y = receiver_by i role in
    let one : from ≡ x = eqb-true from x (first_holds (from == x) (to == y) e) in
    let two : to ≡ y = eqb-true to y (second_holds (from == x) (to == y) e) in
    let same : key_of_pair from to ≡ key = omega arith in
    ap (kept_at new) same ∙ here ∙ ap (λ k. pair_behind role (kept_at old k)) (sym same) ∙ ap (pair_behind role) was
at_pair old new i role s key from to fits lt is here others was false e =
    let x = sender_by i role in
    let y = receiver_by i role in
    others (key_of_pair from to) (λ same.
    let keys : key_of_pair from to ≡ key_of_pair x y = same ∙ is in
    let one : from ≡ x = same_sender from to x y lt fits keys in
    let two : to ≡ y = same_receiver from to x y lt fits keys in
    false≢true (sym e ∙ and_from (from == x) (to == y) (eq-eqb from x one) (eq-eqb to y two)))
    ∙ was

pub recalled_behind : (old new : Sessions) (f : Frame) (role : Role) (key : ℕ) → f.ident.sa < 256 → f.ident.ps < 256
    → role ≡ role_of f
    → key ≡ key_of_pair (sender_by f.ident role) (receiver_by f.ident role)
    → kept_at new key ≡ pair_behind role (kept_at old key)
    → ((other : ℕ) → other ≢ key → kept_at new other ≡ kept_at old other)
    → (s : AllSessions) → KeepsSessions old s → KeepsSessions new (sessions_behind f s)
unfolding KeepsSessions sessions_behind
recalled_behind old new f role key fa fp is keyed here others s recalls = λ from to lf lt.
    subst (λ (r : Role). kept_at new (key_of_pair from to) ≡ cond (is_of_session f.ident r from to) (pair_behind r (s from to)) (s from to)) is
    (at_pair old new f.ident role s key from to (receiver_fits f.ident role fa fp) lt keyed here others (recalls from to lf lt)
    (is_of_session f.ident role from to) refl)

pub fault_recalled : (old : Sessions) (f : Frame) (role : Role) (key : ℕ) → f.ident.sa < 256 → f.ident.ps < 256
    → role ≡ role_of f
    → key ≡ key_of_pair (sender_by f.ident role) (receiver_by f.ident role)
    → (s : AllSessions) → KeepsSessions old s → fault_of role (kept_at old key) ≡ fault_at f s
unfolding KeepsSessions fault_at
fault_recalled old f role key fa fp is keyed s recalls =
    subst (λ (r : Role). fault_of role (kept_at old key) ≡ fault_of r (s (sender_by f.ident r) (receiver_by f.ident r))) is
    (ap (fault_of role) (ap (kept_at old) keyed
    ∙ recalls (sender_by f.ident role) (receiver_by f.ident role) (sender_fits f.ident role fa fp) (receiver_fits f.ident role fa fp)))
