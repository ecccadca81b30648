-- What a unit of a world answers to a packet, and which packet acknowledges its message.
use Rattle.std.proofs.Common.{◌≡◌, ℕ, ◌⊎◌, inl, inr, Bool, true, false, if◌then◌else◌, length, refl, Option, Some, None}
use Rattle.std.specs.Prelude.{IfSome}
use Rattle.std.specs.List.{AllByRecursion}
use Rattle.std.proofs.lemmas.Bool.{cond_both}
use Rattle.j39_tp.specs.Receiver.{is_open_at}
use Rattle.j39_tp.specs.declared.packet.Packet.{Packet}
use Rattle.j39_tp.specs.declared.receiving.heard.Heard.{Heard}
use Rattle.j39_tp.specs.declared.receiving.heard.Heard.TheVariants as heard
use Rattle.j39_tp.specs.declared.receiving.progress.Progress.{Progress}
use Rattle.j39_tp.specs.declared.receiving.progress.Progress.TheVariants.{Closed, Open, Complete}
use Rattle.j39_tp.specs.declared.sending.dest.Dest.TheVariants.{One}
use Rattle.j39_tp.specs.declared.sending.outcome.Outcome.TheVariants.{Acked}
use Rattle.j39_tp.specs.declared.sending.reaction.Reaction.{Reaction}
use Rattle.j39_tp.specs.declared.sending.reaction.Reaction.TheVariants as reaction
use Rattle.j39_tp.specs.declared.sending.stage.Stage.{Stage}
use Rattle.j39_tp.specs.declared.sending.stage.Stage.TheVariants.{Resting}
use Rattle.j39_tp.proofs.Answering.{IsAside, IsAnswer, HoldsNothing, ReportsMessage, RepliesAside, Acknowledges, IsAckedBy, sender_aside, sender_acked}
use Rattle.j39_network.specs.declared.plan.to.To.{To}
use Rattle.j39_network.specs.declared.plan.to.To.TheVariants as tos
use Rattle.j39_world.specs.Flows.{dest_of}
use Rattle.j39_world.specs.Transfers.{Outgoing, is_among, closed_if_complete}
use Rattle.j39_world.specs.TransferSteps.{outgoing_hears, reaction_of, receiver_replies, sender_replies, packets_in}

-- ---- a receiver

-- a world's receiver holds no message, so it is open where its session is
pub stays_closed : (pr : Progress) → is_open_at pr ≡ false → is_open_at (closed_if_complete pr) ≡ false
stays_closed Closed closed = closed
stays_closed (Open r) closed = closed
stays_closed (Complete pgn) closed = refl

-- what it replies
pub replies_aside : (h : Heard) → HoldsNothing h → AllByRecursion IsAside (receiver_replies h)
replies_aside heard.Complete stated = absurd stated
replies_aside (heard.CompleteReply p) stated = absurd stated
replies_aside (heard.Reply p) stated = (stated, tt)
replies_aside heard.Nothing stated = tt
replies_aside heard.Closed stated = tt

pub replies_answer : (h : Heard) → ReportsMessage h → AllByRecursion IsAnswer (receiver_replies h)
replies_answer heard.Complete stated = tt
replies_answer (heard.CompleteReply p) stated = (stated, tt)
replies_answer (heard.Reply p) stated = absurd stated
replies_answer heard.Nothing stated = absurd stated
replies_answer heard.Closed stated = absurd stated

pub packets_aside : (o : Option Packet) → IfSome o IsAside → AllByRecursion IsAside (packets_in o)
packets_aside None aside = tt
packets_aside (Some p) aside = (aside, tt)

-- ---- a sender

replies_of : (r : Reaction) → RepliesAside r → AllByRecursion IsAside (sender_replies r)
replies_of reaction.Nothing aside = tt
replies_of reaction.Go aside = tt
replies_of reaction.Ended aside = tt
replies_of (reaction.Reply p) aside = (aside, tt)

session_aside : (s : Outgoing) (u : ℕ) (p : Packet) → RepliesAside (outgoing_hears s u p).1
session_aside s u p =
    cond_both (is_among s.targets u) _ _ (λ (x : Stage × Reaction). RepliesAside x.1)
    (λ _. sender_aside (dest_of s.to) s.pgn (length s.bytes) s.stage p) (λ _. tt)

pub reaction_aside : (o : Option Outgoing) (u : ℕ) (p : Packet) → AllByRecursion IsAside (sender_replies (reaction_of o u p))
reaction_aside None u p = tt
reaction_aside (Some s) u p = replies_of (outgoing_hears s u p).1 (session_aside s u p)

-- one of its receivers acknowledges the message by the packet
pub record IsAckedOf (s : Outgoing) (u : ℕ) (p : Packet) : Type 0 where
  pub acknowledges : Acknowledges p
  pub among : is_among s.targets u ≡ true
  pub directed : dest_of s.to ≡ One

if_acked : (s : Outgoing) (u : ℕ) (p : Packet) (x : Stage × Reaction) → IsAckedBy (dest_of s.to) s.stage p x → (b : Bool) → is_among s.targets u ≡ b
    → (if b then x else (s.stage, reaction.Nothing)).0 ≡ Resting Acked
    → (s.stage ≡ Resting Acked) ⊎ IsAckedOf s u p
if_acked s u p x by true among e =
    elim (by e) [ inl was ↦ inl was | inr now ↦ inr (record { acknowledges = now.0; among = among; directed = now.1 }) ]
if_acked s u p x by false among e = inl e

pub session_acked : (s : Outgoing) (u : ℕ) (p : Packet) → (outgoing_hears s u p).0 ≡ Resting Acked
    → (s.stage ≡ Resting Acked) ⊎ IsAckedOf s u p
session_acked s u p e = if_acked s u p _ (sender_acked (dest_of s.to) s.pgn (length s.bytes) s.stage p) (is_among s.targets u) refl e

pub directed_to : (to : To) → dest_of to ≡ One → (v : ℕ) × (to ≡ tos.One v)
directed_to tos.All e = absurd (cc e)
directed_to (tos.One v) e = (v, refl)
