-- Who answers a packet sends or hears a message of the two alone.
use Rattle.std.proofs.Common.{◌≡◌, ◌⊎◌, ℕ, true, inl, inr, refl, sym, subst, List, [], ◌∷◌, ◌++◌, Option, Some, None}
use Rattle.std.specs.Prelude.{map}
use Rattle.std.specs.List.{AllByRecursion}
use Rattle.j39_tp.specs.Receiver as receiver
use Rattle.j39_tp.specs.declared.packet.Packet.{Packet}
use Rattle.j39_tp.specs.declared.packet.Packet.TheVariants.{Rts, Cts, EndAck, Bam, Abort, Dt}
use Rattle.j39_tp.specs.declared.receiving.heard.Heard.{Heard}
use Rattle.j39_tp.specs.declared.receiving.manner.Manner.TheVariants.{Answering}
use Rattle.j39_tp.specs.declared.receiving.progress.Progress.{Progress}
use Rattle.j39_tp.specs.declared.receiving.progress.Progress.TheVariants.{Closed, Open, Complete}
use Rattle.j39_tp.specs.declared.receiving.reception.ReceptionKind.{ReceptionKind}
use Rattle.j39_tp.specs.declared.receiving.reception.ReceptionKind.TheVariants.{Broadcast, Directed}
use Rattle.j39_tp.specs.declared.receiving.reception.Reception.{Reception}
use Rattle.j39_tp.proofs.Answering.{IsAside}
use Rattle.j39_network.specs.declared.plan.Plan.{Plan}
use Rattle.j39_network.specs.declared.plan.to.To.TheVariants.{One}
use Rattle.j39_world.specs.declared.wired.Wired.{Wired}
use Rattle.j39_world.specs.declared.wired.Wired.TheVariants as wired
use Rattle.j39_world.specs.Flows.{window_at}
use Rattle.j39_world.specs.Transfers.{Outgoing, is_among}
use Rattle.j39_world.specs.TransferSteps.{hearing, packets_in, reaction_of, receiver_replies, sender_replies}
use Rattle.j39_world.specs.World.{World}
use Rattle.j39_run_laws.proofs.Reports.Hearings.{reaction_aside}
use Rattle.j39_run_laws.proofs.Runs.ReceiverRows.{hears_by}
use Rattle.j39_run_laws.proofs.Transfers.Named.{IsKeptNamed, IsNamed}
use Rattle.j39_run_laws.proofs.Transfers.Naming.{IsOpenFor, IsRtsOf, IsTo, SaysTo, says_replies}

-- ---- a receiver

-- it is open for a message to it alone, or hears that one is announced
abbrev IsAnswering : Progress → Packet → Type 0
IsAnswering pr p = (pgn : ℕ) × (IsOpenFor pr pgn ⊎ IsRtsOf p pgn)

abbrev RepliesNone : Progress × Heard → Type 0
RepliesNone x = receiver_replies x.1 ≡ []

-- an answer to a packet, or where nothing comes in time
answering : (window : ℕ) (pr : Progress) (p : Packet) → RepliesNone (receiver.hears (Answering window) pr p) ⊎ IsAnswering pr p
answering window pr p = hears_by window pr p (λ x. RepliesNone x ⊎ IsAnswering pr p) (record {
  passed = inl refl;
  announced_to_all = λ size pgn is. inl refl;
  announced_to_one = λ size limit pgn is. inr (pgn, inr (subst (λ (q : Packet). IsRtsOf q pgn) (sym is) refl));
  taken = λ r at more. inl refl;
  granted = λ r at kind more. answers r at kind;
  completed = λ r at. completes r at r.kind refl;
  asked = λ r at kind. answers r at kind;
  gave_up = λ r at kind. answers r at kind;
  closed = λ r at. inl refl;
})
  where
    answers : {X : Type 0} (r : Reception) → pr ≡ Open r → r.kind ≡ Directed → X ⊎ IsAnswering pr p
    answers r at kind = inr (r.pgn, inl (subst (λ (x : Progress). IsOpenFor x r.pgn) (sym at) (kind, refl)))

    completes : (r : Reception) → pr ≡ Open r → (kind : ReceptionKind) → r.kind ≡ kind
        → (receiver_replies (receiver.completed (Answering window) kind r) ≡ []) ⊎ IsAnswering pr p
    completes r at Broadcast is = inl refl
    completes r at Directed is = answers r at is

late_answering : (window : ℕ) (pr : Progress)
    → (packets_in (receiver.timed_out (Answering window) pr).1 ≡ []) ⊎ ((pgn : ℕ) × IsOpenFor pr pgn)
late_answering window (Open r) = of r.kind refl
  where
    of : (kind : ReceptionKind) → r.kind ≡ kind
        → (packets_in (receiver.times_out (Answering window) kind r).1 ≡ []) ⊎ ((pgn : ℕ) × IsOpenFor (Open r) pgn)
    of Broadcast e = inl refl
    of Directed e = inr (r.pgn, (e, refl))
late_answering window Closed = inl refl
late_answering window (Complete done) = inl refl

-- ---- in a world of a run

-- the unit sends a message to that one alone, which is on still
abbrev pub GoesOnTo : World → ℕ → ℕ → Type 0
GoesOnTo w u v = (s : Outgoing) × (w.sessions u ≡ Some s) × (s.to ≡ One v) × (is_among s.targets v ≡ true)

module _ (plan : Plan) (w : World) (kept : IsKeptNamed plan w) where
  to_one : (o : Option Outgoing) (u v pgn : ℕ) → w.sessions u ≡ o → IsTo o v pgn → GoesOnTo w u v
  to_one None u v pgn is never = absurd never
  to_one (Some s) u v pgn is to = (s, is, to.0, to.2)

  rts_to : (u v : ℕ) (p : Packet) → IsNamed w.sessions u v (wired.Packet p) → (pgn : ℕ) → IsRtsOf p pgn → IsTo (w.sessions u) v pgn
  rts_to u v (Rts size limit named) head pgn is = subst (IsTo (w.sessions u) v) is head
  rts_to u v (Cts count first named) head pgn is = absurd is
  rts_to u v (EndAck size named) head pgn is = absurd is
  rts_to u v (Bam size named) head pgn is = absurd is
  rts_to u v (Abort reason named) head pgn is = absurd is
  rts_to u v (Dt number seven) head pgn is = absurd is

  -- a receiver answers the sender of a message to it alone
  receiver_answers : (windows : List ℕ) (u v : ℕ) (p : Packet) → IsNamed w.sessions u v (wired.Packet p)
      → (receiver_replies (hearing windows w u v p).1 ≡ []) ⊎ GoesOnTo w u v
  receiver_answers windows u v p head = elim (answering (window_at windows v) (w.receivers v u) p) [
    | inl none ↦ inl none
    | inr (pgn, inl opened) ↦ inr (to_one (w.sessions u) u v pgn refl (kept.named.receivers v u pgn opened))
    | inr (pgn, inr announced) ↦ inr (to_one (w.sessions u) u v pgn refl (rts_to u v p head pgn announced))
  ]

  pub late_answers : (windows : List ℕ) (u v : ℕ)
      → (packets_in (receiver.timed_out (Answering (window_at windows v)) (w.receivers v u)).1 ≡ []) ⊎ GoesOnTo w u v
  late_answers windows u v = elim (late_answering (window_at windows v) (w.receivers v u)) [
    | inl none ↦ inl none
    | inr (pgn, opened) ↦ inr (to_one (w.sessions u) u v pgn refl (kept.named.receivers v u pgn opened))
  ]

  -- a sender answers the receiver of its message to it alone
  aside_to : (v u : ℕ) (p : Packet) → IsAside p → SaysTo (w.sessions v) u (wired.Packet p) → GoesOnTo w v u
  aside_to v u (Rts size limit pgn) aside says = absurd aside
  aside_to v u (Cts count first pgn) aside says = absurd says
  aside_to v u (EndAck size pgn) aside says = absurd aside
  aside_to v u (Bam size pgn) aside says = absurd aside
  aside_to v u (Abort reason pgn) aside says = to_one (w.sessions v) v u pgn refl says
  aside_to v u (Dt number seven) aside says = absurd aside

  some_aside : (v u : ℕ) (ps : List Packet) → AllByRecursion IsAside ps → AllByRecursion (SaysTo (w.sessions v) u) (map wired.Packet ps)
      → (ps ≡ []) ⊎ GoesOnTo w v u
  some_aside v u [] asides says = inl refl
  some_aside v u (p ∷ ps) asides says = inr (aside_to v u p asides.0 says.0)

  sender_answers : (u v : ℕ) (p : Packet) → (sender_replies (reaction_of (w.sessions v) u p) ≡ []) ⊎ GoesOnTo w v u
  sender_answers u v p =
      some_aside v u (sender_replies (reaction_of (w.sessions v) u p)) (reaction_aside (w.sessions v) u p)
      (says_replies plan v (w.sessions v) (kept.kept.transfers.order.planned v) u p)

  -- who takes a packet answers none, or one of the two sends a message to the other alone
  pub takers_answer : (windows : List ℕ) (u v : ℕ) (p : Packet) (rest : List Wired) → w.wire u v ≡ wired.Packet p ∷ rest
      → (receiver_replies (hearing windows w u v p).1 ++ sender_replies (reaction_of (w.sessions v) u p) ≡ [])
      ⊎ (GoesOnTo w u v ⊎ GoesOnTo w v u)
  takers_answer windows u v p rest is =
      elim (receiver_answers windows u v p (subst (AllByRecursion (IsNamed w.sessions u v)) is (kept.named.wire u v)).0) [
        | inr sends ↦ inr (inl sends)
        | inl none ↦ elim (sender_answers u v p) [
          | inr sends ↦ inr (inr sends)
          | inl also ↦ inl (rw (none, also) refl)
        ]
      ]
