-- What a pair heard, packet after packet, and what its listener is then.
use Rattle.std.proofs.Common.{◌≡◌, ℕ, zero, suc, ◌<◌, ◌≤◌, Bool, true, false, if◌then◌else◌, List, [], ◌∷◌, ◌++◌, length, All, Option}
use Rattle.std.proofs.Common.{Some, None, refl, sym, ap, ◌∙◌, subst, arith, append_assoc, add-one, eq-eqb, ◌==◌, ◌&&◌}
use Rattle.std.specs.List.{slice_get}
use Rattle.std.proofs.lemmas.List.{append-nil, length_push}
use Rattle.std.proofs.lemmas.List.Elements.{All-head, All-tail, All-append, All-cons}
use Rattle.std.proofs.lemmas.Option.{slice_get_within, get_or_from_slice_get}
use Rattle.std.proofs.lemmas.Bool.{or_left}
use Rattle.j39_id.specs.declared.frame.Frame.{Frame}
use Rattle.j39_id.specs.declared.ident.Ident.{Ident}
use Rattle.j39_tp.specs.Carried.{listened, AreInRange}
use Rattle.j39_tp.specs.Packets.{InRange}
use Rattle.j39_tp.specs.Receiver.{Receiving, receives}
use Rattle.j39_tp.specs.declared.packet.Packet.{Packet}
use Rattle.j39_log.specs.PairListeners.{AreAllInRange, HaveHeard, IsInRange, ListenerRow, after_all, listener_of_pair}
use Rattle.j39_log.specs.LogPairs.{Seen, heard, heard_of, is_abort, is_heard_by}
use Rattle.j39_tp.proofs.Gathering.{last_stands}

-- ---- one more packet

slice_get_front : (h t : List Packet) (q : ℕ) → q < length h → slice_get (h ++ t) q ≡ slice_get h q
slice_get_front [] t q less = absurd (omega arith)
slice_get_front (p ∷ h) t zero less = refl
slice_get_front (p ∷ h) t (suc q) less = slice_get_front h t q (omega arith)

pub listened_front : (h t : List Packet) (q : ℕ) → q ≤ length h → listened (h ++ t) q ≡ listened h q
listened_front h t zero within = refl
listened_front h t (suc q) within =
    let before : listened (h ++ t) q ≡ listened h q = listened_front h t q (omega arith) in
    let here : slice_get (h ++ t) q ≡ slice_get h q = slice_get_front h t q (omega arith) in
    rw (before, here) refl

-- what a listener that heard all of the list is once it hears one more
pub after_more : (h : List Packet) (p : Packet) → listened (h ++ p ∷ []) (suc (length h)) ≡ receives (after_all h) p
after_more h p =
    let before : listened (h ++ p ∷ []) (length h) ≡ listened h (length h) = listened_front h (p ∷ []) (length h) (omega arith) in
    let here : slice_get (h ++ p ∷ []) (length h) ≡ Some p = last_stands h p in
    rw (before, here) refl

after_all_more : (h : List Packet) (p : Packet) → after_all (h ++ p ∷ []) ≡ receives (after_all h) p
after_all_more h p =
    let count : length (h ++ p ∷ []) ≡ suc (length h) = length_push h p ∙ add-one (length h) in
    ap (listened (h ++ p ∷ [])) count ∙ after_more h p

-- ---- one more frame

pub heard_more : (s d : ℕ) (seen : List Seen) (x : Seen) → heard s d (seen ++ x ∷ []) ≡ heard s d seen ++ heard_of s d x.frame.ident x.packet
unfolding heard
heard_more s d [] x = append-nil (heard_of s d x.frame.ident x.packet)
heard_more s d (y ∷ seen) x =
    ap (λ (t : List Packet). heard_of s d y.frame.ident y.packet ++ t) (heard_more s d seen x)
    ∙ sym (append_assoc (heard_of s d y.frame.ident y.packet) (heard s d seen) (heard_of s d x.frame.ident x.packet))

pub one_turn : (b : Bool) (r : Receiving) (h : List Packet) (p : Packet) → r ≡ after_all h
    → (if b then receives r p else r) ≡ after_all (h ++ (if b then p ∷ [] else []))
one_turn true r h p e = ap (λ (s : Receiving). receives s p) e ∙ sym (after_all_more h p)
one_turn false r h p e = e ∙ sym (ap after_all (append-nil h))

-- a packet that reaches the listeners of the pairs that hear it
pub turned : (old new : List ListenerRow) (seen : List Seen) (f : Frame) (p : Packet)
    → ((s d : ℕ) → s < 256 → d < 256
    → listener_of_pair new s d ≡ (if is_heard_by s d f.ident p then receives (listener_of_pair old s d) p else listener_of_pair old s d))
    → HaveHeard old seen → HaveHeard new (seen ++ record { frame = f; packet = Some p } ∷ [])
turned old new seen f p turn have s d ls ld =
    turn s d ls ld ∙ one_turn (is_heard_by s d f.ident p) (listener_of_pair old s d) (heard s d seen) p (have s d ls ld)
    ∙ sym (ap after_all (heard_more s d seen (record { frame = f; packet = Some p })))

-- a frame that no pair hears
pub unheard : (rows : List ListenerRow) (seen : List Seen) (f : Frame)
    → HaveHeard rows seen → HaveHeard rows (seen ++ record { frame = f; packet = None } ∷ [])
unheard rows seen f have s d ls ld =
    have s d ls ld ∙ sym (ap after_all (heard_more s d seen (record { frame = f; packet = None }) ∙ append-nil (heard s d seen)))

-- before the first frame
pub nothing_heard : (rows : List ListenerRow) → rows ≡ [] → HaveHeard rows []
unfolding heard
nothing_heard rows empty s d ls ld = ap (λ (t : List ListenerRow). listener_of_pair t s d) empty

-- ---- ranges

none_in_range : All InRange []
none_in_range = λ k d less. absurd (omega arith)

if_in_range : (b : Bool) (p : Packet) → InRange p → All InRange (if b then p ∷ [] else [])
if_in_range true p fits = All-cons InRange p [] fits none_in_range
if_in_range false p fits = none_in_range

of_in_range : (s d : ℕ) (i : Ident) (packet : Option Packet) → IsInRange packet → All InRange (heard_of s d i packet)
of_in_range s d i (Some p) fits = if_in_range (is_heard_by s d i p) p fits
of_in_range s d i None fits = none_in_range

pub heard_in_range : (s d : ℕ) (seen : List Seen) → AreAllInRange seen → All InRange (heard s d seen)
unfolding heard
heard_in_range s d [] all = none_in_range
heard_in_range s d (x ∷ seen) all =
    All-append InRange (heard_of s d x.frame.ident x.packet) (heard s d seen)
    (of_in_range s d x.frame.ident x.packet (All-head (λ (y : Seen). IsInRange y.packet) x seen all))
    (heard_in_range s d seen (All-tail (λ (y : Seen). IsInRange y.packet) x seen all))

pub in_range : (h : List Packet) → All InRange h → AreInRange h
in_range h all j p here =
    subst InRange (get_or_from_slice_get h j p p here) (all j p (slice_get_within h j p here))

-- ---- the pair of a packet's own addresses

itself : (s t : ℕ) → (s == s && t == t) ≡ true
itself s t =
    let one = eq-eqb s s refl in
    let two = eq-eqb t t refl in
    rw (one, two) refl

if_true : (b : Bool) (x y : Receiving) → b ≡ true → (if b then x else y) ≡ x
if_true true x y e = refl
if_true false x y e = cc

pub heard_itself : (old new : List ListenerRow) (i : Ident) (p : Packet)
    → ((s d : ℕ) → s < 256 → d < 256
    → listener_of_pair new s d ≡ (if is_heard_by s d i p then receives (listener_of_pair old s d) p else listener_of_pair old s d))
    → listener_of_pair new i.sa i.ps ≡ receives (listener_of_pair old i.sa i.ps) p
heard_itself old new i p turn =
    turn i.sa i.ps i.sa_range i.ps_range
    ∙ if_true (is_heard_by i.sa i.ps i p) (receives (listener_of_pair old i.sa i.ps) p) (listener_of_pair old i.sa i.ps)
    (or_left (i.sa == i.sa && i.ps == i.ps) (is_abort p && (i.ps == i.sa && i.sa == i.ps)) (itself i.sa i.ps))
