-- What is reported was begun, and what was put reads back.
use Rattle.std.proofs.Common.{◌≡◌, ℕ, List, [], ◌∷◌, ◌++◌, length, get_or, subst, ap, inl, inr, Some}
use Rattle.std.specs.List.{HoldsAt, slice_get}
use Rattle.std.proofs.lemmas.List.Elements.{All-get_or}
use Rattle.std.proofs.lemmas.Option.{get_or_from_slice_get, slice_get_within}
use Rattle.j39_network.specs.Records.{signals_in}
use Rattle.j39_network.specs.SoundSignals.{IsBlankOf, ReadsLastGiven, SoundSignals}
use Rattle.j39_network.specs.declared.plan.Plan.{Plan}
use Rattle.j39_network.specs.declared.plan.group_plan.GroupPlan.{GroupPlan}
use Rattle.j39_signal.specs.declared.signal_parts.SignalParts.{SignalParts}
use Rattle.j39_world.specs.Sound.{AreReportsSound, IsSubsequence, reported}
use Rattle.j39_world.specs.Transfers.{Begun}
use Rattle.j39_world.specs.World.{World}
use Rattle.j39_vehicle_laws.specs.HandedOn.{HasMessage, Among, Gateway, IsFaithful, IsFromOrigin, Forwarded, forwarded_bytes, ReadsAsBefore, Link, AreLinks}
use Rattle.j39_vehicle_laws.specs.HandedOn.{last_link, carried_over, IsFromFirst}

-- what is one of a part is one of the whole
pub among_whole : (m : Begun) (xs ys : List Begun) → IsSubsequence xs ys → (earlier later : List Begun) → xs ≡ earlier ++ m ∷ later → Among ys m
among_whole m [] ys part [] later at = absurd cc
among_whole m [] ys part (e ∷ earlier) later at = absurd cc
among_whole m (x ∷ xs) [] part earlier later at = absurd part
among_whole m (x ∷ xs) (y ∷ ys) (inr behind) earlier later at =
    let there = among_whole m (x ∷ xs) ys behind earlier later at in
    record { earlier = y ∷ there.earlier; later = there.later; at = ap (λ zs. y ∷ zs) there.at }
among_whole m (x ∷ xs) (y ∷ ys) (inl (same, rest)) [] later at = record { earlier = []; later = ys; at = cc }
among_whole m (x ∷ xs) (y ∷ ys) (inl (same, rest)) (e ∷ earlier) later at =
    let there = among_whole m xs ys rest earlier later cc in
    record { earlier = y ∷ there.earlier; later = there.later; at = ap (λ zs. y ∷ zs) there.at }

pub from_origin : (g : Gateway) (carried : ℕ → List ℕ → List ℕ) (from to : World) → AreReportsSound from → AreReportsSound to
    → IsFaithful g carried from to → IsFromOrigin g carried from to
from_origin g carried from to sound there faithful hearer bytes message =
    let begun = among_whole _ (reported to.reports hearer g.sends) (to.begun g.sends hearer)
    (there.begun hearer g.sends) message.earlier message.later message.at in
    let heard = faithful hearer bytes begun in
    among_whole _ (reported from.reports g.hears g.sender) (from.begun g.sender g.hears) (sound.begun g.hears g.sender) heard.earlier heard.later heard.at

-- what was begun on the bus where a gateway sends, by it, carries what was begun for it
begun_before : (l : Link) (from : World) → AreReportsSound from → IsFaithful l.gateway l.carried from l.world → (sender flow hearer : ℕ) (bytes : List ℕ)
    → sender ≡ l.gateway.sends → flow ≡ l.gateway.output → HasMessage (l.world.begun sender hearer) flow bytes
    → HasMessage (from.begun l.gateway.sender l.gateway.hears) l.gateway.input (l.carried hearer bytes)
begun_before l from sound faithful sender flow hearer bytes same alike message =
    let its : HasMessage (l.world.begun l.gateway.sends hearer) l.gateway.output bytes =
    subst (λ f. HasMessage (l.world.begun l.gateway.sends hearer) f bytes) alike (subst (λ u. HasMessage (l.world.begun u hearer) flow bytes) same message) in
    let heard = faithful hearer bytes its in
    among_whole _ (reported from.reports l.gateway.hears l.gateway.sender) (from.begun l.gateway.sender l.gateway.hears)
    (sound.begun l.gateway.hears l.gateway.sender) heard.earlier heard.later heard.at

pub from_first : (from : World) (l : Link) (ls : List Link) → AreReportsSound from → AreLinks from l ls → IsFromFirst from l ls
unfolding AreLinks last_link carried_over
from_first from l [] sound way hearer bytes message = from_origin l.gateway l.carried from l.world sound way.0 way.1 hearer bytes message
from_first from l (n ∷ ns) sound way hearer bytes message =
    let (there, faithful, same, alike, rest) = way in
    let begun = from_first l.world n ns there rest hearer bytes message in
    begun_before l from sound faithful n.gateway.sender n.gateway.input n.gateway.hears (carried_over n ns hearer bytes) same alike begun

pub reads_as_before : (plan : Plan) → SoundSignals plan → (place : ℕ) (group : GroupPlan) → slice_get plan.groups.items place ≡ Some group
    → (s : SignalParts) (before : List ℕ) (m : Forwarded group s before)
    → HoldsAt (λ t. ReadsAsBefore s before t (forwarded_bytes m)) (signals_in group (length m.start)) m.write.place
reads_as_before plan sound place group its s before m t =
    let inside = slice_get_within plan.groups.items place group its in
    let at : get_or plan.groups.items place group ≡ group = get_or_from_slice_get plan.groups.items place group group its in
    let all : (start : List ℕ) → IsBlankOf group start → ReadsLastGiven start (signals_in group (length start)) =
    subst (λ g. (start : List ℕ) → IsBlankOf g start → ReadsLastGiven start (signals_in g (length start))) at
    (All-get_or (λ g. (start : List ℕ) → IsBlankOf g start → ReadsLastGiven start
    (signals_in g (length start))) plan.groups.items place group inside sound.last_given) in
    let reads = all m.start m.blank in
    elim (m.put t) [
      | inl (a, b, value, raw, same) ↦ inl (a, b, value, reads.given m.earlier m.later m.write m.chain m.last b t raw, same)
      | inr ones ↦ inr (reads.given_up m.earlier m.later m.write m.chain m.last t ones)
    ]
