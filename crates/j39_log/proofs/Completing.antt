-- When a listener completes a message, and what it holds then.
use Rattle.std.proofs.Common.{◌≡◌, ℕ, suc, ◌+◌, ◌==◌, ◌&&◌, nat_le, Bool, if◌then◌else◌, true, false, List, [], ◌∷◌, ◌++◌, length, All, Some}
use Rattle.std.proofs.Common.{None, inl, inr, refl, sym, ap, ◌∙◌, arith}
use Rattle.std.proofs.lemmas.Bool.{cases_Bool}
use Rattle.std.proofs.lemmas.List.Elements.{All-push}
use Rattle.std.proofs.lemmas.Option.{none-some, same_Some}
use Rattle.j39_tp.specs.Packets.{InRange}
use Rattle.j39_tp.specs.Carried.{listened, CompletesAt, Carried, AreInRange}
use Rattle.j39_tp.specs.Chunks.{packets_of}
use Rattle.j39_tp.specs.Receiver.{Receiving, receives, hears, is_complete, is_directed, pgn_at, takes_later}
use Rattle.j39_tp.specs.declared.receiving.heard.Heard.{Heard}
use Rattle.j39_tp.specs.declared.receiving.heard.Heard.TheVariants as heard
use Rattle.j39_tp.specs.declared.receiving.manner.Manner.TheVariants.{Listening}
use Rattle.j39_tp.specs.declared.packet.Packet.{Packet}
use Rattle.j39_tp.specs.declared.packet.Packet.TheVariants.{Rts, Cts, EndAck, Bam, Abort, Dt}
use Rattle.j39_tp.specs.declared.receiving.progress.Progress.{Progress}
use Rattle.j39_tp.specs.declared.receiving.progress.Progress.TheVariants.{Open, Closed, Complete}
use Rattle.j39_tp.specs.declared.receiving.reception.ReceptionKind.{ReceptionKind}
use Rattle.j39_tp.specs.declared.receiving.reception.ReceptionKind.TheVariants.{Broadcast, Directed}
use Rattle.j39_tp.specs.declared.receiving.reception.Reception.{Reception}
use Rattle.j39_log.specs.PairListeners.{after_all, completed_group, completes}
use Rattle.j39_log.specs.ReadText.{CarriesNone}
use Rattle.j39_tp.proofs.Gathering.{last_received, stated_last, last_stands}
use Rattle.j39_log.proofs.PairLists.{listened_front, after_more, in_range}
use Rattle.j39_tp.proofs.Hearing.{listens}

-- ---- a listener replies nothing

abbrev Replies : Heard → Type 0
Replies (heard.Reply p) = Unit {0}
Replies (heard.CompleteReply p) = Unit {0}
Replies _ = ⊥

neither : (b : Bool) (x y : Progress × Heard) → (Replies x.1 → ⊥) → (Replies y.1 → ⊥) → Replies (if b then x else y).1 → ⊥
neither true x y first second = first
neither false x y first second = second

later_silent : (k : ReceptionKind) (r : Reception) (number : ℕ) → Replies (takes_later Listening k r number).1 → ⊥
later_silent Broadcast r number replies = replies
later_silent Directed r number replies = replies

silent : (pr : Progress) (p : Packet) → Replies (hears Listening pr p).1 → ⊥
silent pr (Bam size pgn) replies = replies
silent pr (Rts size limit pgn) replies = replies
silent (Open r) (Dt number chunk) replies =
    neither (number == r.held + 1) _ _
    (neither (r.held + 1 == packets_of r.size) _ _ (λ x. x) (neither (r.held + 1 == r.granted) _ _ (λ x. x) (λ x. x)))
    (neither (nat_le number r.held) _ _ (λ x. x) (later_silent r.kind r number)) replies
silent (Open r) (Abort reason pgn) replies = neither (is_directed r.kind && pgn == r.pgn) _ _ (λ x. x) (λ x. x) replies
silent Closed (Dt number chunk) replies = replies
silent Closed (Abort reason pgn) replies = replies
silent (Complete group) (Dt number chunk) replies = replies
silent (Complete group) (Abort reason pgn) replies = replies
silent pr (Cts count first pgn) replies = replies
silent pr (EndAck size pgn) replies = replies

reported_alone : (h : Heard) → (Replies h → ⊥) → is_complete h ≡ true → h ≡ heard.Complete
reported_alone heard.Complete none e = refl
reported_alone heard.Nothing none e = cc
reported_alone (heard.Reply p) none e = cc
reported_alone (heard.CompleteReply p) none e = absurd (none tt)
reported_alone heard.Closed none e = cc

-- ---- places of a list

-- what a packet completes at the end of the list that it stands in
reported_there : (h : List Packet) (p : Packet) → completes (after_all h) p ≡ is_complete (hears Listening (listened (h ++ p ∷ []) (length h)).progress p).1
reported_there h p =
    let manner = listens h (length h) in
    let front = listened_front h (p ∷ []) (length h) (omega arith) in
    rw (front, manner) refl

abbrev CompletedAreCarried : Type 0
CompletedAreCarried = (h : List Packet) (place group : ℕ) (message : List ℕ) → AreInRange h → CompletesAt h place group message → Carried h place group message

abbrev CarriedAreCompleted : Type 0
CarriedAreCompleted = (h : List Packet) (place group : ℕ) (message : List ℕ) → Carried h place group message → CompletesAt h place group message

-- a message that the listener of a list completes is carried by it
pub carried_there : CompletedAreCarried → (h : List Packet) (p : Packet) (s after : Receiving) (group : ℕ) (message : List ℕ) → s ≡ after_all h
    → after ≡ receives s p
    → All InRange h → InRange p → completes s p ≡ true → after.progress ≡ Complete group → after.bytes ≡ message
    → Carried (h ++ p ∷ []) (length h) group message
carried_there law h p s after group message heard_all heard_one all fits stated progress bytes =
    let reported_all : completes (after_all h) p ≡ true = ap (λ (r : Receiving). completes r p) (sym heard_all) ∙ stated in
    let here : listened (h ++ p ∷ []) (suc (length h)) ≡ after = after_more h p ∙ sym (heard_one ∙ ap (λ (r : Receiving). receives r p) heard_all) in
    law (h ++ p ∷ []) (length h) group message (in_range (h ++ p ∷ []) (All-push InRange h p all fits)) (record {
      packet = p;
      stands = last_stands h p;
      stated = reported_alone _ (silent (listened (h ++ p ∷ []) (length h)).progress p) (sym (reported_there h p) ∙ reported_all);
      pgn_is = ap (λ (r : Receiving). r.progress) here ∙ progress;
      bytes_are = ap (λ (r : Receiving). r.bytes) here ∙ bytes;
    })

-- where it completes none, the list carries none
pub uncarried_there : CarriedAreCompleted → (h : List Packet) (p : Packet) (s : Receiving) → s ≡ after_all h → completes s p ≡ false
    → CarriesNone (h ++ p ∷ []) (length h)
uncarried_there law h p s heard_all unstated group message carried =
    let complete = law (h ++ p ∷ []) (length h) group message carried in
    let same : complete.packet ≡ p = same_Some complete.packet p (sym complete.stands ∙ last_stands h p) in
    let stated : is_complete (hears Listening (listened (h ++ p ∷ []) (length h)).progress p).1 ≡ true =
    ap (λ (q : Packet). is_complete (hears Listening (listened (h ++ p ∷ []) (length h)).progress q).1) (sym same) ∙ ap is_complete complete.stated in
    let reported_all : completes (after_all h) p ≡ true = reported_there h p ∙ stated in
    let unreported_all : completes (after_all h) p ≡ false = ap (λ (r : Receiving). completes r p) (sym heard_all) ∙ unstated in
    cc (reported_all, unreported_all)

-- ---- the group of a message

-- a packet that completes a message of a group
pub completed_there : (s : Receiving) (p : Packet) (group : ℕ) → completed_group s p ≡ Some group
    → (completes s p ≡ true) × ((receives s p).progress ≡ Complete group)
completed_there s p group e = elim (cases_Bool (completes s p)) [
  | inl stated ↦
      let l = stated_last s.manner p s.progress stated in
      let after = last_received s p l.reception l.chunk l.open_is l.packet_is l.last in
      let found : Some l.reception.pgn ≡ Some group =
      sym (ap pgn_at after.0) ∙ sym (ap (λ (b : Bool). if b then pgn_at (receives s p).progress else None) stated) ∙ e in
      (stated, after.0 ∙ ap Complete (same_Some l.reception.pgn group found))
  | inr unstated ↦
      let none : None ≡ Some group = sym (ap (λ (b : Bool). if b then pgn_at (receives s p).progress else None) unstated) ∙ e in
      absurd (none-some group none)
]

-- and one that completes none
pub uncompleted : (s : Receiving) (p : Packet) → completed_group s p ≡ None → completes s p ≡ false
uncompleted s p e = elim (cases_Bool (completes s p)) [
  | inl stated ↦
      let l = stated_last s.manner p s.progress stated in
      let after = last_received s p l.reception l.chunk l.open_is l.packet_is l.last in
      let found : Some l.reception.pgn ≡ None =
      sym (ap pgn_at after.0) ∙ sym (ap (λ (b : Bool). if b then pgn_at (receives s p).progress else None) stated) ∙ e in
      absurd (none-some l.reception.pgn (sym found))
  | inr unstated ↦ unstated
]
