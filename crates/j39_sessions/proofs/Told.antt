-- What is told of sessions, by the frames behind an RTS.
use Rattle.std.proofs.Common.{◌≡◌, zero, suc, ◌<◌, ◌≤◌, ◌==◌, ◌&&◌, ◌||◌, ℕ, Bool, true, false, cond, nat_le, max, not, List, ◌∷◌, ◌++◌, Option, Some, None}
use Rattle.std.proofs.Common.{refl, sym, ap, ◌∙◌, subst, arith, eq-eqb, eqb-true}
use Rattle.std.proofs.lemmas.Bool.{le-leb, lt-leb, leb-true}
use Rattle.j39_id.specs.declared.frame.Frame.{Frame}
use Rattle.j39_sessions.specs.SessionFrames.{role_of}
use Rattle.j39_sessions.specs.SessionLaws.{AnnouncesNothing, ClearsBelow, OfEach, IsCts, CarriesNumber, IsRts, sessions_after}
use Rattle.j39_sessions.specs.Sessions.{AllSessions, pair_with, with_cleared, fault_at, fault_if, goes_back, is_acknowledged, is_cleared, is_it_acknowledged}
use Rattle.j39_sessions.specs.Sessions.{is_permitted, last_cleared, sessions_behind, stays, with_clearance, with_receipt, with_session}
use Rattle.j39_sessions.specs.declared.fault.SessionFault.TheVariants.{Packet}
use Rattle.j39_sessions.specs.declared.pair_sessions.Before.TheVariants.{Nothing as NoneBefore}
use Rattle.j39_sessions.specs.declared.pair_sessions.PairSessions.{PairSessions}
use Rattle.j39_sessions.specs.declared.role.Clearance.{Clearance}
use Rattle.j39_sessions.specs.declared.role.Receipt.{Receipt}
use Rattle.j39_sessions.specs.declared.role.Role.{Role}
use Rattle.j39_sessions.specs.declared.role.Role.TheVariants.{Begins, Breaks, Clears, Acknowledges, Carries, Nothing}
use Rattle.j39_sessions.specs.declared.session.LoggedSession.{LoggedSession}
use Rattle.j39_sessions.proofs.Fresh.{begins_fresh}
use Rattle.j39_sessions.proofs.Steps.{Keeps, after-append, backward_way, each_here, each_of, forward_ends, found_cts, found_rts, steps, told_here}

pub both_false : (a b : Bool) → b ≡ false → (a && b) ≡ false
both_false true b e = e
both_false false b e = refl

pub both_true : (a b : Bool) → a ≡ true → b ≡ true → (a && b) ≡ true
both_true a b e f = ap (λ (x : Bool). x && b) e ∙ f

-- ---- a session as its RTS has it

pub record IsLike (session_opened : LoggedSession) (s : LoggedSession) : Type 0 where
  pub group : s.group ≡ session_opened.group
  pub size : s.size ≡ session_opened.size
  pub count : s.count ≡ session_opened.count
  pub limit : s.limit ≡ session_opened.limit

pub like_it : (s : LoggedSession) → IsLike s s
like_it s = record { group = refl; size = refl; count = refl; limit = refl }

pub like_more : (o s t : LoggedSession) → IsLike o s → IsLike s t → IsLike o t
like_more o s t a b = record { group = b.group ∙ a.group; size = b.size ∙ a.size; count = b.count ∙ a.count; limit = b.limit ∙ a.limit }

like_cleared : (c : Clearance) (s : LoggedSession) → IsLike s (with_cleared c s)
like_cleared c s = elim (nat_le 1 c.first) as (λ b. IsLike s (cond b (record s { greatest = max s.greatest (last_cleared c s.count) }) s))
    [ true ↦ record { group = refl; size = refl; count = refl; limit = refl } | false ↦ like_it s ]

pub like_behind : (r : Role) (p : PairSessions) → IsLike p.newest (pair_with r p).newest
like_behind (Clears c) p = elim (c.group == p.newest.group) as (λ b. IsLike p.newest (cond b (with_clearance c p) p).newest)
    [ true ↦ like_cleared c p.newest | false ↦ like_it p.newest ]
like_behind (Acknowledges r) p = elim (r.group == p.newest.group) as (λ b. IsLike p.newest (cond b (with_receipt r p) p).newest) [
  | true ↦ elim (is_acknowledged r p.newest || not (is_it_acknowledged r p.before)) as
      (λ b. IsLike p.newest (cond b (record p { is_over = true }) (record p { before = NoneBefore })).newest)
      [ true ↦ like_it p.newest | false ↦ like_it p.newest ]
  | false ↦ like_it p.newest
]
like_behind (Carries k) p = record { group = refl; size = refl; count = refl; limit = refl }
like_behind (Begins s) p = like_it p.newest
like_behind Breaks p = like_it p.newest
like_behind Nothing p = like_it p.newest

-- it is right by a session just where it is by its RTS
pub cleared_alike : (c : Clearance) (o s : LoggedSession) → IsLike o s → is_cleared c s ≡ is_cleared c o
cleared_alike c o s like = rw (like.group, like.count, like.limit) refl

pub newest_of_begun : (o : LoggedSession) (known : Option PairSessions) → (with_session o known).newest ≡ o
newest_of_begun o None = refl
newest_of_begun o (Some p) = refl

-- ---- the greatest number that a CTS cleared

same_greatest : (r : Receipt) (p : PairSessions) → (with_receipt r p).newest ≡ p.newest
same_greatest r p = elim (is_acknowledged r p.newest || not (is_it_acknowledged r p.before)) as
    (λ b. (cond b (record p { is_over = true }) (record p { before = NoneBefore })).newest ≡ p.newest)
    [ true ↦ refl | false ↦ refl ]

pub newest_behind_receipt : (r : Receipt) (p : PairSessions) → (pair_with (Acknowledges r) p).newest ≡ p.newest
newest_behind_receipt r p = elim (r.group == p.newest.group) as (λ b. (cond b (with_receipt r p) p).newest ≡ p.newest)
    [ true ↦ same_greatest r p | false ↦ refl ]

below_cleared : (c : Clearance) (s : LoggedSession) (k : ℕ) → s.greatest < k → (1 ≤ c.first → last_cleared c s.count < k) → (with_cleared c s).greatest < k
below_cleared c s k old new =
    let go : (b : Bool) → nat_le 1 c.first ≡ b → (cond b (record s { greatest = max s.greatest (last_cleared c s.count) }) s).greatest < k =
    λ b e. elim b as (λ b. nat_le 1 c.first ≡ b → (cond b (record s { greatest = max s.greatest (last_cleared c s.count) }) s).greatest < k)
    [ true ↦ λ e. let n = new (leb-true 1 c.first e) in omega arith | false ↦ λ e. old ] e in
    go (nat_le 1 c.first) refl

below_behind : (r : Role) (p : PairSessions) (k : ℕ) → p.newest.greatest < k
    → ((c : Clearance) → r ≡ Clears c → c.group ≡ p.newest.group → 1 ≤ c.first → last_cleared c p.newest.count < k) → (pair_with r p).newest.greatest < k
below_behind (Clears c) p k old new =
    let go : (b : Bool) → (c.group == p.newest.group) ≡ b → (cond b (with_clearance c p) p).newest.greatest < k =
    λ b e. elim b as (λ b. (c.group == p.newest.group) ≡ b → (cond b (with_clearance c p) p).newest.greatest < k)
    [ true ↦ λ e. below_cleared c p.newest k old (new c refl (eqb-true c.group p.newest.group e)) | false ↦ λ e. old ] e in
    go (c.group == p.newest.group) refl
below_behind (Acknowledges r) p k old new = subst (λ (s : LoggedSession). s.greatest < k) (sym (newest_behind_receipt r p)) old
below_behind (Carries n) p k old new = old
below_behind (Begins s) p k old new = old
below_behind Breaks p k old new = old
below_behind Nothing p k old new = old

grows_cleared : (c : Clearance) (s : LoggedSession) → s.greatest ≤ (with_cleared c s).greatest
grows_cleared c s = elim (nat_le 1 c.first) as (λ b. s.greatest ≤ (cond b (record s { greatest = max s.greatest (last_cleared c s.count) }) s).greatest)
    [ true ↦ omega arith | false ↦ omega arith ]

grows_behind : (r : Role) (p : PairSessions) → p.newest.greatest ≤ (pair_with r p).newest.greatest
grows_behind (Clears c) p = elim (c.group == p.newest.group) as (λ b. p.newest.greatest ≤ (cond b (with_clearance c p) p).newest.greatest)
    [ true ↦ grows_cleared c p.newest | false ↦ omega arith ]
grows_behind (Acknowledges r) p = subst (λ (s : LoggedSession). p.newest.greatest ≤ s.greatest) (sym (newest_behind_receipt r p)) (omega arith)
grows_behind (Carries n) p = omega arith
grows_behind (Begins s) p = omega arith
grows_behind Breaks p = omega arith
grows_behind Nothing p = omega arith

-- ---- packets that no CTS cleared

record IsBelow (session_opened : LoggedSession) (k : ℕ) (p : PairSessions) : Type 0 where
  pub like : IsLike session_opened p.newest
  pub below : p.newest.greatest < k

below_kept : (from to : ℕ) (session_opened : LoggedSession) (k : ℕ) (f : Frame) → ClearsBelow from to session_opened k f → Keeps (IsBelow session_opened k) from to f
below_kept from to session_opened k f below = λ p old e. record {
  like = like_more session_opened p.newest (pair_with (role_of f) p).newest old.like (like_behind (role_of f) p);
  below = below_behind (role_of f) p k old.below (λ c is same least.
      let back : goes_back (role_of f) ≡ true = ap goes_back is in
      subst (λ n. last_cleared c n < k) (sym old.like.count)
      (below c (backward_way from to f (role_of f) back e, is) (same ∙ old.like.group) least));
}

at_permitted : (b : Bool) → b ≡ false → fault_if (not b) Packet ≡ Some Packet
at_permitted b e = ap (λ (b : Bool). fault_if (not b) Packet) e

told_packet : (from to : ℕ) (packet : Frame) (k : ℕ) (s : AllSessions) (q : PairSessions) → CarriesNumber from to k packet → s from to ≡ Some q
    → is_permitted k q.newest ≡ false → fault_at packet s ≡ Some Packet
told_packet from to packet k s q is known denied =
    let ends = forward_ends from to packet (Carries k) refl is.0 in
    told_here from to packet (Carries k) s q is.1 ends.0 ends.1 known ∙ at_permitted (is_permitted k q.newest) denied

not_above : (k : ℕ) (s : LoggedSession) → s.greatest < k → is_permitted k s ≡ false
not_above k s below = both_false (nat_le 1 k) (nat_le k s.greatest) (lt-leb k s.greatest below)

pub uncleared_told : (s : AllSessions) (from to : ℕ) (rts : Frame) (session_opened : LoggedSession) (since : List Frame) (packet : Frame) (k : ℕ)
    → IsRts from to session_opened rts → OfEach (AnnouncesNothing from to) since → OfEach (ClearsBelow from to session_opened k) since → CarriesNumber from to k packet
    → fault_at packet (sessions_after (rts ∷ since) s) ≡ Some Packet
unfolding sessions_after
uncleared_told s from to rts session_opened since packet zero rts_is none below packet_is =
    let any : PairSessions → Type 0 = λ p. Unit {0} in
    let found = steps any from to since (sessions_behind rts s) none (each_here (Keeps any from to) (λ f p old e. tt) since)
    (found_rts any from to rts session_opened s rts_is tt) in
    told_packet from to packet zero (sessions_after since (sessions_behind rts s)) found.pair packet_is found.is refl
uncleared_told s from to rts session_opened since packet (suc k) rts_is none below packet_is =
    let P = IsBelow session_opened (suc k) in
    let fresh = begins_fresh rts session_opened rts_is.1 in
    let new = newest_of_begun session_opened (s from to) in
    let first : P (with_session session_opened (s from to)) = record {
      like = subst (IsLike session_opened) (sym new) (like_it session_opened);
      below = subst (λ (t : LoggedSession). t.greatest < suc k) (sym new) (let g = fresh.greatest in omega arith);
    } in
    let found = steps P from to since (sessions_behind rts s) none
    (each_of (ClearsBelow from to session_opened (suc k)) (Keeps P from to) (λ f b. below_kept from to session_opened (suc k) f b) since below)
    (found_rts P from to rts session_opened s rts_is first) in
    told_packet from to packet (suc k) (sessions_after since (sessions_behind rts s)) found.pair packet_is found.is
    (not_above (suc k) found.pair.newest found.holds.below)

-- ---- packets that a CTS cleared

record IsReached (n : ℕ) (p : PairSessions) : Type 0 where
  pub reached : n ≤ p.newest.greatest

reached_kept : (n : ℕ) (from to : ℕ) (f : Frame) → Keeps (IsReached n) from to f
reached_kept n from to f = λ p old e. let g = grows_behind (role_of f) p in let o = old.reached in record { reached = omega arith }

pub like_kept : (session_opened : LoggedSession) (from to : ℕ) (f : Frame) → Keeps (λ p. IsLike session_opened p.newest) from to f
like_kept session_opened from to f = λ p old e. like_more session_opened p.newest (pair_with (role_of f) p).newest old (like_behind (role_of f) p)

reaches : (c : Clearance) (p : PairSessions) → c.group ≡ p.newest.group → 1 ≤ c.first → last_cleared c p.newest.count ≤ (pair_with (Clears c) p).newest.greatest
reaches c p same least =
    let at : (b d : Bool) → b ≡ true → d ≡ true
    → last_cleared c p.newest.count ≤ (cond b (record p {
      newest = cond d (record p.newest { greatest = max p.newest.greatest (last_cleared c p.newest.count) }) p.newest;
      before = cond (is_cleared c p.newest && not (stays c p.before)) NoneBefore p.before;
    }) p).newest.greatest =
    λ b d e f. subst (λ (b : Bool). last_cleared c p.newest.count ≤ (cond b (record p {
      newest = cond d (record p.newest { greatest = max p.newest.greatest (last_cleared c p.newest.count) }) p.newest;
      before = cond (is_cleared c p.newest && not (stays c p.before)) NoneBefore p.before;
    }) p).newest.greatest) (sym e)
    (subst (λ (d : Bool). last_cleared c p.newest.count ≤ (cond d
    (record p.newest { greatest = max p.newest.greatest (last_cleared c p.newest.count) }) p.newest).greatest) (sym f) (omega arith)) in
    at (c.group == p.newest.group) (nat_le 1 c.first) (eq-eqb c.group p.newest.group same) (le-leb 1 c.first least)

told_none : (from to : ℕ) (packet : Frame) (k : ℕ) (s : AllSessions) (q : PairSessions) → CarriesNumber from to k packet → s from to ≡ Some q
    → is_permitted k q.newest ≡ true → fault_at packet s ≡ None
told_none from to packet k s q is known allowed =
    let ends = forward_ends from to packet (Carries k) refl is.0 in
    told_here from to packet (Carries k) s q is.1 ends.0 ends.1 known ∙ ap (λ (b : Bool). fault_if (not b) Packet) allowed

pub cleared_arent : (s : AllSessions) (from to : ℕ) (rts : Frame) (session_opened : LoggedSession) (first : List Frame) (cts : Frame) (c : Clearance) (later : List Frame)
    (packet : Frame) (k : ℕ)
    → IsRts from to session_opened rts → OfEach (AnnouncesNothing from to) first → IsCts from to c cts → c.group ≡ session_opened.group → 1 ≤ c.first
    → OfEach (AnnouncesNothing from to) later → CarriesNumber from to k packet → 1 ≤ k → k ≤ last_cleared c session_opened.count
    → fault_at packet (sessions_after (rts ∷ first ++ cts ∷ later) s) ≡ None
unfolding sessions_after
cleared_arent s from to rts session_opened first cts c later packet k rts_is none_first cts_is same least none_later packet_is positive within =
    let P : PairSessions → Type 0 = λ p. IsLike session_opened p.newest in
    let n = last_cleared c session_opened.count in
    let s1 = sessions_after first (sessions_behind rts s) in
    let s2 = sessions_after later (sessions_behind cts s1) in
    let start : P (with_session session_opened (s from to)) = subst (IsLike session_opened) (sym (newest_of_begun session_opened (s from to))) (like_it session_opened) in
    let up_to = steps P from to first (sessions_behind rts s) none_first (each_here (Keeps P from to) (like_kept session_opened from to) first)
    (found_rts P from to rts session_opened s rts_is start) in
    let behind_cts = found_cts P (IsReached n) from to cts c s1 cts_is
    (λ p like. record {
      reached = subst (λ (m : ℕ). last_cleared c m ≤ (pair_with (Clears c) p).newest.greatest) like.count
          (reaches c p (same ∙ sym like.group) least);
    }) up_to in
    let found = steps (IsReached n) from to later (sessions_behind cts s1) none_later
    (each_here (Keeps (IsReached n) from to) (reached_kept n from to) later) behind_cts in
    let enough = found.holds.reached in
    let there : k ≤ found.pair.newest.greatest = omega arith in
    subst (λ (t : AllSessions). fault_at packet t ≡ None) (sym (after-append (rts ∷ first) (cts ∷ later) s))
    (told_none from to packet k s2 found.pair packet_is found.is
    (both_true (nat_le 1 k) (nat_le k found.pair.newest.greatest) (le-leb 1 k positive) (le-leb k found.pair.newest.greatest there)))
