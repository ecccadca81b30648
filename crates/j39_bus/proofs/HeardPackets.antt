-- What a receiver and a sender do with a packet that is taken.
use Rattle.std.proofs.Common.{◌≡◌, ℕ, ◌≤◌, true, false, eqb, List, [], refl, sym, ap, ◌∙◌, Option, Some, None, length}
use Rattle.std.proofs.lemmas.Bool.{cond_both, eqb-true, true≢false}
use Rattle.std.specs.Prelude.{IfSome}
use Rattle.j39_tp.specs.Gathered.{Gathers}
use Rattle.j39_tp.specs.Receiver.{is_complete, size_announced}
use Rattle.j39_tp.specs.declared.receiving.heard.Heard.{Heard}
use Rattle.j39_tp.specs.declared.receiving.heard.Heard.TheVariants as heards
use Rattle.j39_tp.specs.declared.packet.Packet.{Packet}
use Rattle.j39_tp.specs.declared.receiving.progress.Progress.{Progress}
use Rattle.j39_tp.specs.declared.receiving.progress.Progress.TheVariants.{Closed, Open, Complete}
use Rattle.j39_bus.specs.inside.Receivers.{left_at}
use Rattle.j39_world.specs.Transfers.{Outgoing, Reported, closed_if_complete}
use Rattle.j39_world.specs.TransferSteps.{Reports, ReportsOne, flow_in, session_after}
use Rattle.j39_world.specs.World.{World, changed}

-- ---- what is left of a receiver

pub left_progress : (g : Progress) (bytes : List ℕ) → (left_at g bytes).progress ≡ closed_if_complete g
left_progress Closed bytes = refl
left_progress (Open r) bytes = refl
left_progress (Complete pgn) bytes = refl

pub left_gathers : (h : List Packet) (g : Progress) (bytes : List ℕ) → Gathers h g bytes → Gathers h (left_at g bytes).progress (left_at g bytes).bytes
left_gathers h Closed bytes is = tt
left_gathers h (Open r) bytes is = is
left_gathers h (Complete pgn) bytes is = tt

-- ---- a message is complete

-- the room that was made is enough
pub room_enough : (x : Heard) (bytes : List ℕ) (capacity : ℕ) → is_complete x ≡ true → IfSome (size_announced x bytes) (λ n. n ≤ capacity)
    → length bytes ≤ capacity
room_enough heards.Nothing bytes capacity is room = absurd (true≢false (sym is))
room_enough (heards.Reply q) bytes capacity is room = absurd (true≢false (sym is))
room_enough heards.Complete bytes capacity is room = room
room_enough (heards.CompleteReply q) bytes capacity is room = room
room_enough heards.Closed bytes capacity is room = absurd (true≢false (sym is))

-- ---- what is reported

pub no_report : (w : World) (u v : ℕ) (p : Packet) (x : Heard) → is_complete x ≡ false → Reports w u v p x []
no_report w u v p heards.Nothing is = refl
no_report w u v p (heards.Reply q) is = refl
no_report w u v p heards.Complete is = absurd (true≢false is)
no_report w u v p (heards.CompleteReply q) is = absurd (true≢false is)
no_report w u v p heards.Closed is = refl

pub one_report : (w : World) (u v : ℕ) (p : Packet) (x : Heard) (reports : List Reported) → is_complete x ≡ true → ReportsOne w u v p reports
    → Reports w u v p x reports
one_report w u v p heards.Nothing reports is one = absurd (true≢false (sym is))
one_report w u v p (heards.Reply q) reports is one = absurd (true≢false (sym is))
one_report w u v p heards.Complete reports is one = one
one_report w u v p (heards.CompleteReply q) reports is one = one
one_report w u v p heards.Closed reports is one = absurd (true≢false (sym is))

-- a session keeps its flow
pub flow_kept : (w : World) (u v : ℕ) (p : Packet) → flow_in (changed w.sessions v (session_after (w.sessions v) u p) u) ≡ flow_in (w.sessions u)
flow_kept w u v p = cond_both (eqb u v) (session_after (w.sessions v) u p) (w.sessions u) (λ o. flow_in o ≡ flow_in (w.sessions u))
    (λ same. kept (w.sessions v) ∙ ap (λ k. flow_in (w.sessions k)) (sym (eqb-true u v same))) (λ _. refl)
  where
    kept : (o : Option Outgoing) → flow_in (session_after o u p) ≡ flow_in o
    kept None = refl
    kept (Some s) = refl
