-- A message of several frames to one unit, between the two: what of it and of what answers it is on the wire, how far its sender is and how
-- far its receiver.
use Rattle.std.proofs.Common.{◌≡◌, ℕ, zero, suc, ◌+◌, ◌<◌, ◌≤◌, ◌⊎◌, inl, inr, false, ◌||◌, List, [], ◌∷◌, ◌++◌, length, refl, sym, ap, ◌∙◌, subst, arith, Some}
use Rattle.std.specs.Prelude.{nat_lt}
use Rattle.std.proofs.lemmas.Bool.{cond_both, ltb-true, ltb-false, true≢false}
use Rattle.j39_tp.specs.Chunks.{chunk}
use Rattle.j39_tp.specs.Receiver.{is_open_at}
use Rattle.j39_tp.specs.Sender as sender
use Rattle.j39_tp.specs.declared.packet.Packet.{Packet}
use Rattle.j39_tp.specs.declared.packet.Packet.TheVariants.{Rts, Cts, EndAck, Dt}
use Rattle.j39_tp.specs.declared.receiving.progress.Progress.{Progress}
use Rattle.j39_tp.specs.declared.receiving.progress.Progress.TheVariants.{Open}
use Rattle.j39_tp.specs.declared.receiving.reception.ReceptionKind.TheVariants.{Directed}
use Rattle.j39_tp.specs.declared.receiving.reception.Reception.{Reception}
use Rattle.j39_tp.specs.declared.sending.dest.Dest.TheVariants as dests
use Rattle.j39_tp.specs.declared.sending.outcome.Outcome.TheVariants.{Acked}
use Rattle.j39_tp.specs.declared.sending.stage.Stage.{Stage}
use Rattle.j39_tp.specs.declared.sending.stage.Stage.TheVariants.{Sending, Waiting, Resting}
use Rattle.j39_world.specs.declared.wired.Wired.{Wired}
use Rattle.j39_world.specs.declared.wired.Wired.TheVariants as wired
use Rattle.j39_world.specs.Resting.{is_alone, is_of_sender, is_of_receiver}
use Rattle.j39_world.specs.Transfers.{Outgoing, Begun, closed_if_complete}
use Rattle.j39_run_laws.proofs.Reports.Exchanges.{begun_of}
use Rattle.j39_run_laws.proofs.Reports.Hearings.{stays_closed}
use Rattle.j39_run_laws.proofs.Transfers.Beside.{packets_from, packets_more}
use Rattle.j39_run_laws.proofs.Transfers.Flights.{packet_count}

-- ---- how far it is

module _ (o : Outgoing) (before : List Begun) where
  abbrev announcing : Wired
  announcing = wired.Packet (Rts (length o.bytes) 255 o.pgn)

  -- its receiver takes it, and has granted packets that it lacks
  pub record IsReceived (r : Reception) : Type 0 where
    pub kind : r.kind ≡ Directed
    pub pgn : r.pgn ≡ o.pgn
    pub size : r.size ≡ length o.bytes
    pub less : r.held < r.granted
    pub most : r.granted ≤ packet_count o

  -- its announcement is to be taken
  pub record IsAnnounced (stage : Stage) (coming answering : List Wired) (pr : Progress) (reports : List Begun) : Type 0 where
    pub waits : stage ≡ Waiting
    pub wire : coming ≡ announcing ∷ []
    pub answers : answering ≡ []
    pub closed : is_open_at pr ≡ false
    pub same : reports ≡ before

  -- a CTS for the packets that are granted is to be taken
  pub record IsCleared (stage : Stage) (coming answering : List Wired) (pr : Progress) (reports : List Begun) : Type 0 where
    pub reception : Reception
    pub opened : pr ≡ Open reception
    pub received : IsReceived reception
    pub waits : stage ≡ Waiting
    pub wire : coming ≡ []
    pub count : ℕ
    pub granted : reception.granted ≡ reception.held + count
    pub answers : answering ≡ wired.Packet (Cts count (reception.held + 1) o.pgn) ∷ []
    pub same : reports ≡ before

  -- packets are to be sent up to the last that was granted, or all were
  abbrev pub IsUpTo : Stage → ℕ → ℕ → Type 0
  IsUpTo stage sent granted = ((sent < granted) × (stage ≡ Sending (suc sent) granted)) ⊎ ((sent ≡ granted) × (stage ≡ Waiting))

  -- so many packets are to be taken
  pub record IsSent (stage : Stage) (coming answering : List Wired) (pr : Progress) (reports : List Begun) : Type 0 where
    pub reception : Reception
    pub opened : pr ≡ Open reception
    pub received : IsReceived reception
    pub count : ℕ
    pub sends : IsUpTo stage (reception.held + count) reception.granted
    pub wire : coming ≡ packets_from o.bytes (suc reception.held) count
    pub answers : answering ≡ []
    pub same : reports ≡ before

  -- its EndOfMsgACK is to be taken
  pub record IsReported (stage : Stage) (coming answering : List Wired) (pr : Progress) (reports : List Begun) : Type 0 where
    pub waits : stage ≡ Waiting
    pub wire : coming ≡ []
    pub answers : answering ≡ wired.Packet (EndAck (length o.bytes) o.pgn) ∷ []
    pub closed : is_open_at pr ≡ false
    pub one : reports ≡ before ++ begun_of o ∷ []

  -- it has arrived
  pub record IsAtEnd (stage : Stage) (coming answering : List Wired) (pr : Progress) (reports : List Begun) : Type 0 where
    pub rests : stage ≡ Resting Acked
    pub wire : coming ≡ []
    pub answers : answering ≡ []
    pub closed : is_open_at pr ≡ false
    pub one : reports ≡ before ++ begun_of o ∷ []

  abbrev pub IsAt : Stage → List Wired → List Wired → Progress → List Begun → Type 0
  IsAt stage coming answering pr reports =
      IsAnnounced stage coming answering pr reports
      ⊎ (IsCleared stage coming answering pr reports
      ⊎ (IsSent stage coming answering pr reports
      ⊎ (IsReported stage coming answering pr reports ⊎ IsAtEnd stage coming answering pr reports)))

  -- ---- the sender sends a packet

  waiting_sends : (bytes : List ℕ) (stage : Stage) (p : Packet) → stage ≡ Waiting → sender.data_next bytes stage ≡ Some p → ⊥
  waiting_sends bytes (Sending next last) p waits is = cc waits
  waiting_sends bytes Waiting p waits is = cc is
  waiting_sends bytes (Resting outcome) p waits is = cc waits

  resting_sends : (bytes : List ℕ) (stage : Stage) (p : Packet) → stage ≡ Resting Acked → sender.data_next bytes stage ≡ Some p → ⊥
  resting_sends bytes (Sending next last) p rests is = cc rests
  resting_sends bytes Waiting p rests is = cc rests
  resting_sends bytes (Resting outcome) p rests is = cc is

  sent_up_to : (sent granted : ℕ) → sent < granted → IsUpTo (sender.after_packet dests.One (Sending (suc sent) granted)) (suc sent) granted
  sent_up_to sent granted less =
      cond_both (nat_lt (suc sent) granted) (Sending (suc sent + 1) granted) Waiting (λ (x : Stage). IsUpTo x (suc sent) granted)
      (λ more. inl (ltb-true (suc sent) granted more, ap (λ k. Sending k granted) (let e : suc sent + 1 ≡ suc (suc sent) = omega arith in e)))
      (λ done. inr ((let most : granted ≤ suc sent = ltb-false (suc sent) granted done in omega (arith, most, less)), refl))

  pub emitted : (stage : Stage) (coming answering : List Wired) (pr : Progress) (reports : List Begun) (p : Packet) → sender.data_next o.bytes stage ≡ Some p
      → IsAt stage coming answering pr reports → IsAt (sender.after_packet dests.One stage) (coming ++ wired.Packet p ∷ []) answering pr reports
  emitted stage coming answering pr reports p is (inl a) = absurd (waiting_sends o.bytes stage p a.waits is)
  emitted stage coming answering pr reports p is (inr (inl c)) = absurd (waiting_sends o.bytes stage p c.waits is)
  emitted stage coming answering pr reports p is (inr (inr (inr (inl r)))) = absurd (waiting_sends o.bytes stage p r.waits is)
  emitted stage coming answering pr reports p is (inr (inr (inr (inr e)))) = absurd (resting_sends o.bytes stage p e.rests is)
  emitted stage coming answering pr reports p is (inr (inr (inl s))) = elim (s.sends) [
    | inr (all, waits) ↦ absurd (waiting_sends o.bytes stage p waits is)
    | inl (less, at) ↦
        let r : Reception = s.reception in
        let next : ℕ = suc (r.held + s.count) in
        let sends : sender.data_next o.bytes (Sending next r.granted) ≡ Some p = subst (λ (x : Stage). sender.data_next o.bytes x ≡ Some p) at is in
        let same : Dt next (chunk o.bytes next) ≡ p = cc sends in
        inr (inr (inl (record {
          reception = r;
          opened = s.opened;
          received = s.received;
          count = suc s.count;
          sends = subst (λ (x : Stage). IsUpTo (sender.after_packet dests.One x) (r.held + suc s.count) r.granted) (sym at)
              (subst (λ k. IsUpTo (sender.after_packet dests.One (Sending next r.granted)) k r.granted)
              (let e : suc (r.held + s.count) ≡ r.held + suc s.count = omega arith in e) (sent_up_to (r.held + s.count) r.granted less));
          wire =
              ap (λ (zs : List Wired). zs ++ wired.Packet p ∷ []) s.wire
              ∙ (ap (λ (q : Packet). packets_from o.bytes (suc r.held) s.count ++ wired.Packet q ∷ []) (sym same)
              ∙ packets_more o.bytes (suc r.held) s.count next (omega arith));
          answers = s.answers;
          same = s.same;
        })))
  ]

  -- ---- which items are its own

  -- what of it is coming isn't of a receiver, and what answers it isn't of a sender
  pub coming_sent : (item : Wired) (stage : Stage) (coming answering : List Wired) (pr : Progress) (reports : List Begun)
      → IsAt stage (item ∷ coming) answering pr reports → (is_alone item || is_of_receiver item) ≡ false
  coming_sent item stage coming answering pr reports (inl a) =
      (let wire = a.wire in let is : item ≡ announcing = cc wire in ap (λ (x : Wired). is_alone x || is_of_receiver x) is)
  coming_sent item stage coming answering pr reports (inr (inl c)) = absurd (let wire = c.wire in cc wire)
  coming_sent item stage coming answering pr reports (inr (inr (inr (inl r)))) = absurd (let wire = r.wire in cc wire)
  coming_sent item stage coming answering pr reports (inr (inr (inr (inr e)))) = absurd (let wire = e.wire in cc wire)
  coming_sent item stage coming answering pr reports (inr (inr (inl s))) = sent s.count s.wire
    where
      sent : (left : ℕ) → item ∷ coming ≡ packets_from o.bytes (suc s.reception.held) left → (is_alone item || is_of_receiver item) ≡ false
      sent zero wire = absurd (cc wire)
      sent (suc left) wire =
          let number : ℕ = suc s.reception.held in
          let is : item ≡ wired.Packet (Dt number (chunk o.bytes number)) = cc wire in
          ap (λ (x : Wired). is_alone x || is_of_receiver x) is

  pub answering_received : (item : Wired) (stage : Stage) (coming answering : List Wired) (pr : Progress) (reports : List Begun)
      → IsAt stage coming (item ∷ answering) pr reports → (is_alone item || is_of_sender item) ≡ false
  answering_received item stage coming answering pr reports (inl a) = absurd (let answers = a.answers in cc answers)
  answering_received item stage coming answering pr reports (inr (inr (inl s))) = absurd (let answers = s.answers in cc answers)
  answering_received item stage coming answering pr reports (inr (inr (inr (inr e)))) = absurd (let answers = e.answers in cc answers)
  answering_received item stage coming answering pr reports (inr (inl c)) =
      (let answers = c.answers in
      let is : item ≡ wired.Packet (Cts c.count (c.reception.held + 1) o.pgn) = cc answers in
      ap (λ (x : Wired). is_alone x || is_of_sender x) is)
  answering_received item stage coming answering pr reports (inr (inr (inr (inl r)))) =
      (let answers = r.answers in let is : item ≡ wired.Packet (EndAck (length o.bytes) o.pgn) = cc answers
      in ap (λ (x : Wired). is_alone x || is_of_sender x) is)

  -- nothing of it is one frame
  pub no_short : (bytes : List ℕ) (stage : Stage) (coming answering : List Wired) (pr : Progress) (reports : List Begun)
      → IsAt stage (wired.Short bytes ∷ coming) answering pr reports → ⊥
  no_short bytes stage coming answering pr reports (inl a) = (let wire = a.wire in cc wire)
  no_short bytes stage coming answering pr reports (inr (inl c)) = (let wire = c.wire in cc wire)
  no_short bytes stage coming answering pr reports (inr (inr (inr (inl r)))) = (let wire = r.wire in cc wire)
  no_short bytes stage coming answering pr reports (inr (inr (inr (inr e)))) = (let wire = e.wire in cc wire)
  no_short bytes stage coming answering pr reports (inr (inr (inl s))) = none s.count s.wire
    where
      none : (left : ℕ) → wired.Short bytes ∷ coming ≡ packets_from o.bytes (suc s.reception.held) left → ⊥
      none zero wire = cc wire
      none (suc left) wire = cc wire

  pub no_short_answer : (bytes : List ℕ) (stage : Stage) (coming answering : List Wired) (pr : Progress) (reports : List Begun)
      → IsAt stage coming (wired.Short bytes ∷ answering) pr reports → ⊥
  no_short_answer bytes stage coming answering pr reports at = true≢false (answering_received (wired.Short bytes) stage coming answering pr reports at)

  -- ---- a world's receiver

  -- it holds no message that is complete
  pub closes_at : (stage : Stage) (coming answering : List Wired) (pr : Progress) (reports : List Begun) → IsAt stage coming answering pr reports
      → IsAt stage coming answering (closed_if_complete pr) reports
  closes_at stage coming answering pr reports (inl a) =
      inl (record { waits = a.waits; wire = a.wire; answers = a.answers; closed = stays_closed pr a.closed; same = a.same })
  closes_at stage coming answering pr reports (inr (inr (inr (inl r)))) =
      inr (inr (inr (inl (record { waits = r.waits; wire = r.wire; answers = r.answers; closed = stays_closed pr r.closed; one = r.one }))))
  closes_at stage coming answering pr reports (inr (inr (inr (inr e)))) =
      inr (inr (inr (inr (record { rests = e.rests; wire = e.wire; answers = e.answers; closed = stays_closed pr e.closed; one = e.one }))))
  closes_at stage coming answering pr reports (inr (inl c)) =
      subst (λ (x : Progress). IsAt stage coming answering x reports) (sym (ap closed_if_complete c.opened ∙ sym c.opened)) (inr (inl c))
  closes_at stage coming answering pr reports (inr (inr (inl s))) =
      subst (λ (x : Progress). IsAt stage coming answering x reports) (sym (ap closed_if_complete s.opened ∙ sym s.opened)) (inr (inr (inl s)))

  -- ---- nothing is left

  pub over : (stage : Stage) (pr : Progress) (reports : List Begun) → IsAt stage [] [] pr reports
      → ((next last : ℕ) → stage ≡ Sending next last → ⊥) → (stage ≡ Resting Acked) × (reports ≡ before ++ begun_of o ∷ [])
  over stage pr reports (inl a) through = absurd (let wire = a.wire in cc wire)
  over stage pr reports (inr (inl c)) through = absurd (let answers = c.answers in cc answers)
  over stage pr reports (inr (inr (inr (inl r)))) through = absurd (let answers = r.answers in cc answers)
  over stage pr reports (inr (inr (inr (inr e)))) through = (e.rests, e.one)
  over stage pr reports (inr (inr (inl s))) through = elim (s.sends) [
    | inl more ↦ absurd (through (suc (s.reception.held + s.count)) s.reception.granted more.1)
    | inr all ↦ absurd (none s.count all.0 s.wire)
  ]
    where
      none : (left : ℕ) → s.reception.held + left ≡ s.reception.granted → [] ≡ packets_from o.bytes (suc s.reception.held) left → ⊥
      none zero all wire = (let less = s.received.less in omega (arith, less, all))
      none (suc left) all wire = cc wire
