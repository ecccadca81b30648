-- A listener completes only what the list carries.
use Rattle.std.proofs.Common.{◌≡◌, true, ℕ, zero, suc, ◌<◌, List, [], ◌∷◌, ◌++◌, length, take, drop, Option, Some, None, refl, sym, ap, ◌∙◌, subst, arith}
use Rattle.std.specs.Prelude.{slice_get}
use Rattle.std.proofs.lemmas.List.{take-append-drop, length-take-le}
use Rattle.std.proofs.lemmas.Option.{slice_get_within}
use Rattle.j39_tp.specs.Receiver.{Receiving, hears, is_complete, receives, message_of}
use Rattle.j39_tp.specs.Carried.{Carried, receives_any, listened, CompletesAt, AreInRange}
use Rattle.j39_tp.specs.Gathered.{Gathers}
use Rattle.j39_tp.specs.declared.receiving.heard.Heard.TheVariants as heard
use Rattle.j39_tp.specs.declared.receiving.manner.Manner.{Manner}
use Rattle.j39_tp.specs.declared.receiving.manner.Manner.TheVariants.{Listening}
use Rattle.j39_tp.specs.declared.packet.Packet.{Packet}
use Rattle.j39_tp.specs.declared.receiving.progress.Progress.{Progress}
use Rattle.j39_tp.specs.declared.receiving.progress.Progress.TheVariants.{Complete}
use Rattle.j39_tp.proofs.Carrying.{carried_is_completed}
use Rattle.j39_tp.proofs.Gathering.{carried_on, hears_gathers, completes_carried}
use Rattle.j39_tp.proofs.Hearing.{listens}

-- ---- the packets before a place are what a listener heard there

one_more_heard : (h : List Packet) (q : ℕ) (p : Packet) → slice_get h q ≡ Some p → take (suc q) h ≡ take q h ++ p ∷ []
one_more_heard [] q p e = absurd (cc e)
one_more_heard (x ∷ h) zero p e = let same : x ≡ p = cc e in ap (λ (y : Packet). y ∷ []) same
one_more_heard (x ∷ h) (suc q) p e = ap (λ (front : List Packet). x ∷ front) (one_more_heard h q p e)

none_more_heard : (h : List Packet) (q : ℕ) → slice_get h q ≡ None → take (suc q) h ≡ take q h
none_more_heard [] zero e = refl
none_more_heard [] (suc q) e = refl
none_more_heard (x ∷ h) zero e = absurd (cc e)
none_more_heard (x ∷ h) (suc q) e = ap (λ (front : List Packet). x ∷ front) (none_more_heard h q e)

-- what a listener has of them
abbrev pub GathersAt : List Packet → ℕ → Receiving → Type 0
GathersAt h q s = Gathers (take q h) s.progress s.bytes

next_gathered : (h : List Packet) (q : ℕ) → AreInRange h → GathersAt h q (listened h q) → (o : Option Packet) → slice_get h q ≡ o
    → GathersAt h (suc q) (receives_any (listened h q) o)
next_gathered h q range g None e =
    subst (λ (front : List Packet). Gathers front (listened h q).progress (listened h q).bytes) (sym (none_more_heard h q e)) g
next_gathered h q range g (Some p) e =
    let s = listened h q in
    subst (λ (front : List Packet). Gathers front (receives s p).progress (receives s p).bytes) (sym (one_more_heard h q p e))
    (hears_gathers (take q h) s p (range q p e) g)

all_gathered : (h : List Packet) → AreInRange h → (q : ℕ) → GathersAt h q (listened h q)
all_gathered h range zero = tt
all_gathered h range (suc q) = next_gathered h q range (all_gathered h range q) (slice_get h q) refl

-- ---- what it completes is carried

-- what is carried at the end of the packets before a place is carried there in the whole list
carried_whole : (h : List Packet) (q pgn : ℕ) (message : List ℕ) (p : Packet) → slice_get h q ≡ Some p
    → Carried (take q h ++ p ∷ []) (length (take q h)) pgn message → Carried h q pgn message
carried_whole h q pgn message p e c =
    let within : q < length h = slice_get_within h q p e in
    let here : length (take q h) ≡ q = length-take-le q h (omega arith) in
    let there : Carried (take q h ++ p ∷ []) q pgn message = subst (λ (at : ℕ). Carried (take q h ++ p ∷ []) at pgn message) here c in
    let front : Carried (take (suc q) h) q pgn message = subst (λ (heard : List Packet). Carried heard q pgn message) (sym (one_more_heard h q p e)) there in
    let size : length (take (suc q) h) ≡ suc q = length-take-le (suc q) h (omega arith) in
    let whole : Carried (take (suc q) h ++ drop (suc q) h) q pgn message =
    carried_on (take (suc q) h) (drop (suc q) h) q pgn message (omega arith) front in
    subst (λ (all : List Packet). Carried all q pgn message) (take-append-drop (suc q) h) whole

same_pgn : (a b : ℕ) → Complete a ≡ Complete b → a ≡ b
same_pgn a b e = cc e

stated_complete : (m : Manner) (pr : Progress) (p : Packet) → m ≡ Listening → (hears Listening pr p).1 ≡ heard.Complete → is_complete (hears m pr p).1 ≡ true
stated_complete m pr p listens stated = rw (listens, stated) refl

-- the message of a receiver that holds one
held_message : (s : Receiving) (pgn : ℕ) (message : List ℕ) → s.progress ≡ Complete pgn → s.bytes ≡ message → message_of s.progress s.bytes ≡ message
held_message s pgn message complete bytes = rw (complete, bytes) refl

pub completed_is_carried : (h : List Packet) (place pgn : ℕ) (message : List ℕ) → AreInRange h → CompletesAt h place pgn message → Carried h place pgn message
completed_is_carried h place pgn message range c =
    let s = listened h place in
    let after : receives_any s (slice_get h place) ≡ receives s c.packet = ap (receives_any s) c.stands in
    let holds = completes_carried (take place h) s c.packet (all_gathered h range place)
    (stated_complete s.manner s.progress c.packet (listens h place) c.stated) in
    let complete : (receives s c.packet).progress ≡ Complete pgn = ap (λ (t : Receiving). t.progress) (sym after) ∙ c.pgn_is in
    let bytes : (receives s c.packet).bytes ≡ message = ap (λ (t : Receiving). t.bytes) (sym after) ∙ c.bytes_are in
    let same : holds.pgn ≡ pgn = same_pgn holds.pgn pgn (sym holds.complete ∙ complete) in
    carried_whole h place pgn message c.packet c.stands
    (rw same at (rw (held_message (receives s c.packet) pgn message complete bytes) at holds.carried))

-- ---- a place carries one message

pub one_pgn : (h : List Packet) (place pgn other : ℕ) (message words : List ℕ) → Carried h place pgn message → Carried h place other words → pgn ≡ other
one_pgn h place pgn other message words c d =
    same_pgn pgn other (sym (carried_is_completed h place pgn message c).pgn_is ∙ (carried_is_completed h place other words d).pgn_is)

pub one_message : (h : List Packet) (place pgn other : ℕ) (message words : List ℕ) → Carried h place pgn message → Carried h place other words → message ≡ words
one_message h place pgn other message words c d =
    sym (carried_is_completed h place pgn message c).bytes_are ∙ (carried_is_completed h place other words d).bytes_are
