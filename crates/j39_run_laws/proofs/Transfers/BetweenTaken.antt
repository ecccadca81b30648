-- A message of several frames to one unit, between the two, as its receiver takes a packet or its sender an answer.
use Rattle.std.proofs.Common.{◌≡◌, ◌≢◌, ℕ, zero, suc, ◌+◌, ◌-◌, ◌==◌, ◌<◌, ◌≤◌, ◌⊎◌, inl, inr, ◌&&◌, true, false, min, List, [], ◌∷◌, ◌++◌, length, refl, sym}
use Rattle.std.proofs.Common.{ap, ◌∙◌, subst, arith, append-nil}
use Rattle.std.specs.Prelude.{map, nat_le}
use Rattle.std.proofs.lemmas.Bool.{cases_Bool, cond_both, cond-true, cond-false, eq-eqb, ne_eqb, eqb-true, eqb-false, and_from, and_right, le-leb}
use Rattle.j39_tp.specs.Chunks.{packets_of, chunk}
use Rattle.j39_tp.specs.Receiver as receiver
use Rattle.j39_tp.specs.Receiver.{is_open_at}
use Rattle.j39_tp.specs.Sender as sender
use Rattle.j39_tp.specs.declared.packet.Packet.{Packet}
use Rattle.j39_tp.specs.declared.packet.Packet.TheVariants.{Rts, Cts, EndAck, Bam, Abort, Dt}
use Rattle.j39_tp.specs.declared.receiving.heard.Heard.{Heard}
use Rattle.j39_tp.specs.declared.receiving.heard.Heard.TheVariants as heards
use Rattle.j39_tp.specs.declared.receiving.manner.Manner.TheVariants.{Answering}
use Rattle.j39_tp.specs.declared.receiving.progress.Progress.{Progress}
use Rattle.j39_tp.specs.declared.receiving.progress.Progress.TheVariants.{Closed, Open, Complete}
use Rattle.j39_tp.specs.declared.receiving.reception.ReceptionKind.{ReceptionKind}
use Rattle.j39_tp.specs.declared.receiving.reception.ReceptionKind.TheVariants.{Directed}
use Rattle.j39_tp.specs.declared.receiving.reception.Reception.{Reception}
use Rattle.j39_tp.specs.declared.sending.dest.Dest.TheVariants as dests
use Rattle.j39_tp.specs.declared.sending.outcome.Outcome.TheVariants.{Acked}
use Rattle.j39_tp.specs.declared.sending.reaction.Reaction.{Reaction}
use Rattle.j39_tp.specs.declared.sending.reaction.Reaction.TheVariants as reactions
use Rattle.j39_tp.specs.declared.sending.stage.Stage.{Stage}
use Rattle.j39_tp.specs.declared.sending.stage.Stage.TheVariants.{Sending, Waiting, Resting}
use Rattle.j39_tp.proofs.Answering.{HoldsNothing, ReportsMessage}
use Rattle.j39_world.specs.declared.wired.Wired.{Wired}
use Rattle.j39_world.specs.declared.wired.Wired.TheVariants as wired
use Rattle.j39_world.specs.Transfers.{Outgoing, Begun, closed_if_complete}
use Rattle.j39_world.specs.TransferSteps.{receiver_replies, sender_replies}
use Rattle.j39_run_laws.proofs.Reports.Exchanges.{begun_of}
use Rattle.j39_run_laws.proofs.Transfers.Beside.{IsBesideForth, IsBesideBack, packets_from}
use Rattle.j39_run_laws.proofs.Transfers.Between.{IsReceived, IsUpTo, IsAt}
use Rattle.j39_run_laws.proofs.Transfers.Flights.{packet_count}

module _ (o : Outgoing) (before : List Begun) where
  -- ---- the receiver takes what is of it

  limit_some : (limit : ℕ) → 0 < receiver.limit_of limit
  limit_some limit = cond_both (limit == 0) 255 limit (λ k. 0 < k) (λ _. omega arith) (λ other. (let n = eqb-false limit 0 other in omega (arith, n)))

  grant_some : (window : ℕ) (r : Reception) → 0 < window → r.held < packets_of r.size → 0 < receiver.grant window r
  grant_some window r some less = let limit = limit_some r.limit in omega (arith, some, less, limit)

  grant_most : (window : ℕ) (r : Reception) → r.held < packets_of r.size → r.held + receiver.grant window r ≤ packets_of r.size
  grant_most window r less = omega (arith, less)

  -- it grants the next packets
  granted_received : (window : ℕ) (r : Reception) → 0 < window → r.kind ≡ Directed → r.pgn ≡ o.pgn → r.size ≡ length o.bytes
      → r.held < packets_of r.size → IsReceived o before (receiver.granted_to window r)
  granted_received window r some kind pgn size less = record {
    kind = kind;
    pgn = pgn;
    size = size;
    less = (let more = grant_some window r some less in omega (arith, more));
    most = (let count : packets_of r.size ≡ packet_count o = ap packets_of size in let most = grant_most window r less in omega (arith, most, count));
  }

  -- what it is then, and what is to be taken of its answers: nothing is reported, or the message is
  abbrev pub HearsOwn : Stage → List Wired → List Wired → Progress × Heard → List Begun → Type 0
  HearsOwn stage coming answering x reports =
      (HoldsNothing x.1 × IsAt o before stage coming (answering ++ map wired.Packet (receiver_replies x.1)) (closed_if_complete x.0) reports)
      ⊎ (ReportsMessage x.1
      × ((more : List Begun) → more ≡ reports ++ begun_of o ∷ []
      → IsAt o before stage coming (answering ++ map wired.Packet (receiver_replies x.1)) (closed_if_complete x.0) more))

  -- the packet after those that are held: it is the last one, or the last that was granted, or another one
  next_directed : (window : ℕ) (r : Reception) (number : ℕ) → r.kind ≡ Directed → number ≡ suc r.held
      → ((receiver.takes_data (Answering window) r number ≡ (Complete r.pgn, heards.CompleteReply (EndAck r.size r.pgn))) × (suc r.held ≡ packets_of r.size))
      ⊎ (((receiver.takes_data (Answering window) r number
      ≡ (Open (receiver.granted_to window (receiver.one_more_held r)), heards.Reply (receiver.clear_packet window (receiver.one_more_held r))))
      × (suc r.held ≢ packets_of r.size) × (suc r.held ≡ r.granted))
      ⊎ ((receiver.takes_data (Answering window) r number ≡ (Open (receiver.one_more_held r), heards.Nothing)) × (suc r.held ≢ r.granted)))
  next_directed window r number kind is =
      let first : (number == r.held + 1) ≡ true = eq-eqb number (r.held + 1) (omega (arith, is)) in
      let next : receiver.takes_data (Answering window) r number ≡ receiver.takes_next (Answering window) r = cond-true (number == r.held + 1) _ _ first in
      elim (cases_Bool (r.held + 1 == packets_of r.size)) [
        | inl last ↦ inl (
          next ∙ (cond-true (r.held + 1 == packets_of r.size) _ _ last ∙ ap
              (λ (k : ReceptionKind). (Complete r.pgn, receiver.completed (Answering window) k r)) kind),
          (let e = eqb-true (r.held + 1) (packets_of r.size) last in omega (arith, e)),
        )
        | inr more ↦ inr (elim (cases_Bool (r.held + 1 == r.granted)) [
          | inl granted ↦ inl (
            next ∙ (cond-false (r.held + 1 == packets_of r.size) _ _ more ∙ (cond-true (r.held + 1 == r.granted) _ _ granted
                ∙ ap (λ (k : ReceptionKind). receiver.going_on (Answering window) k (receiver.one_more_held r)) kind)),
            (λ e. eqb-false (r.held + 1) (packets_of r.size) more (omega (arith, e))),
            (let e = eqb-true (r.held + 1) r.granted granted in omega (arith, e)),
          )
          | inr before_it ↦ inr (
            next ∙ (cond-false (r.held + 1 == packets_of r.size) _ _ more ∙ cond-false (r.held + 1 == r.granted) _ _ before_it),
            (λ e. eqb-false (r.held + 1) r.granted before_it (omega (arith, e))),
          )
        ])
      ]

  -- its announcement
  announced_heard : (window : ℕ) → 0 < window → 0 < packet_count o → (stage : Stage) (answering : List Wired) (pr : Progress) (reports : List Begun)
      → stage ≡ Waiting → answering ≡ [] → reports ≡ before
      → HearsOwn stage [] answering (receiver.hears (Answering window) pr (Rts (length o.bytes) 255 o.pgn)) reports
  announced_heard window some long stage answering pr reports waits none same =
      let r : Reception = receiver.opened Directed o.pgn (length o.bytes) 255 in
      inl (
        tt,
        inr (inl (record {
          reception = receiver.granted_to window r;
          opened = refl;
          received = granted_received window r some refl refl refl long;
          waits = waits;
          wire = refl;
          count = receiver.grant window r;
          granted = refl;
          answers = ap (λ (zs : List Wired). zs ++ wired.Packet (receiver.clear_packet window r) ∷ []) none;
          same = same;
        })),
      )

  -- its next packet
  module _ (window : ℕ) (some : 0 < window) (stage : Stage) (answering : List Wired) (pr : Progress) (reports : List Begun)
      (r : Reception) (opened : pr ≡ Open r) (received : IsReceived o before r) (left : ℕ) (sends : IsUpTo o before stage (r.held + suc left) r.granted)
      (none : answering ≡ []) (same : reports ≡ before) where
    abbrev next_coming : List Wired
    next_coming = packets_from o.bytes (suc (suc r.held)) left

    abbrev HearsNext : Progress × Heard → Type 0
    HearsNext x = HearsOwn stage next_coming answering x reports

    up_to : r.held + suc left ≤ r.granted
    up_to = elim sends [ inl more ↦ (let less = more.0 in omega (arith, less)) | inr all ↦ (let e = all.0 in omega (arith, e)) ]

    count : packets_of r.size ≡ packet_count o
    count = ap packets_of received.size

    -- where it is the last that was granted, none is behind it
    none_left : suc r.held ≡ r.granted → (left ≡ 0) × (stage ≡ Waiting)
    none_left last = (
      omega (arith, last, up_to),
      elim sends [ inl more ↦ absurd (let less = more.0 in omega (arith, less, last)) | inr all ↦ all.1 ],
    )

    none_coming : left ≡ 0 → next_coming ≡ []
    none_coming is = ap (packets_from o.bytes (suc (suc r.held))) is

    last_heard : suc r.held ≡ packets_of r.size → HearsNext (Complete r.pgn, heards.CompleteReply (EndAck r.size r.pgn))
    last_heard last =
        let at : suc r.held ≡ r.granted = (let most = received.most in omega (arith, last, most, count, up_to)) in
        let over = none_left at in
        let acknowledges : EndAck r.size r.pgn ≡ EndAck (length o.bytes) o.pgn = λ i. EndAck (received.size i) (received.pgn i) in
        inr (
          tt,
          λ more one. inr (inr (inr (inl (record {
            waits = over.1;
            wire = none_coming over.0;
            answers = ap (λ (zs : List Wired). zs ++ wired.Packet (EndAck r.size r.pgn) ∷ []) none ∙ ap (λ (q : Packet). wired.Packet q ∷ []) acknowledges;
            closed = refl;
            one = one ∙ ap (λ (xs : List Begun). xs ++ begun_of o ∷ []) same;
          })))),
        )

    granted_heard : suc r.held ≢ packets_of r.size → suc r.held ≡ r.granted
        → HearsNext (Open (receiver.granted_to window (receiver.one_more_held r)), heards.Reply (receiver.clear_packet window (receiver.one_more_held r)))
    granted_heard other last =
        let over = none_left last in
        let then : Reception = receiver.one_more_held r in
        let less : then.held < packets_of then.size = (let most = received.most in let under = received.less in omega (arith, other, most, under, count)) in
        let clears : receiver.clear_packet window then ≡ Cts (receiver.grant window then) (then.held + 1) o.pgn =
        ap (λ k. Cts (receiver.grant window then) (then.held + 1) k) received.pgn in
        inl (
          tt,
          inr (inl (record {
            reception = receiver.granted_to window then;
            opened = refl;
            received = granted_received window then some received.kind received.pgn received.size less;
            waits = over.1;
            wire = none_coming over.0;
            count = receiver.grant window then;
            granted = refl;
            answers = ap (λ (zs : List Wired). zs ++ wired.Packet (receiver.clear_packet window then) ∷ []) none
                ∙ ap (λ (q : Packet). wired.Packet q ∷ []) clears;
            same = same;
          })),
        )

    more_heard : suc r.held ≢ r.granted → HearsNext (Open (receiver.one_more_held r), heards.Nothing)
    more_heard other =
        let under = received.less in
        inl (
          tt,
          inr (inr (inl (record {
            reception = receiver.one_more_held r;
            opened = refl;
            received = record { kind = received.kind; pgn = received.pgn; size = received.size; less = omega (arith, under, other); most = received.most };
            count = left;
            sends = subst (λ k. IsUpTo o before stage k r.granted) (let e : r.held + suc left ≡ (r.held + 1) + left = omega arith in e) sends;
            wire = ap (λ k. packets_from o.bytes k left) (let e : suc (suc r.held) ≡ suc (r.held + 1) = omega arith in e);
            answers = append-nil answering ∙ none;
            same = same;
          }))),
        )

    pub data_heard : (number : ℕ) (seven : List ℕ) → number ≡ suc r.held → HearsNext (receiver.hears (Answering window) pr (Dt number seven))
    data_heard number seven is =
        let opens : receiver.hears (Answering window) pr (Dt number seven) ≡ receiver.takes_data (Answering window) r number =
        ap (λ (x : Progress). receiver.hears (Answering window) x (Dt number seven)) opened in
        elim (next_directed window r number received.kind is) [
          | inl (heard, last) ↦ subst HearsNext (sym (opens ∙ heard)) (last_heard last)
          | inr (inl (heard, other, granted)) ↦ subst HearsNext (sym (opens ∙ heard)) (granted_heard other granted)
          | inr (inr (heard, other)) ↦ subst HearsNext (sym (opens ∙ heard)) (more_heard other)
        ]

  -- the oldest that is coming, as it is taken
  pub own_heard : (window : ℕ) → 0 < window → 0 < packet_count o → (stage : Stage) (p : Packet) (coming answering : List Wired) (pr : Progress)
      (reports : List Begun) → IsAt o before stage (wired.Packet p ∷ coming) answering pr reports
      → HearsOwn stage coming answering (receiver.hears (Answering window) pr p) reports
  own_heard window some long stage p coming answering pr reports (inl a) =
      let wire = a.wire in
      let is : p ≡ Rts (length o.bytes) 255 o.pgn = cc wire in
      let none : coming ≡ [] = cc wire in
      subst (λ (q : Packet). HearsOwn stage coming answering (receiver.hears (Answering window) pr q) reports) (sym is)
      (subst (λ (zs : List Wired). HearsOwn stage zs answering (receiver.hears (Answering window) pr (Rts (length o.bytes) 255 o.pgn)) reports) (sym none)
      (announced_heard window some long stage answering pr reports a.waits a.answers a.same))
  own_heard window some long stage p coming answering pr reports (inr (inl c)) = absurd (let wire = c.wire in cc wire)
  own_heard window some long stage p coming answering pr reports (inr (inr (inr (inl r)))) = absurd (let wire = r.wire in cc wire)
  own_heard window some long stage p coming answering pr reports (inr (inr (inr (inr e)))) = absurd (let wire = e.wire in cc wire)
  own_heard window some long stage p coming answering pr reports (inr (inr (inl s))) = taken s.count s.sends s.wire
    where
      taken : (left : ℕ) → IsUpTo o before stage (s.reception.held + left) s.reception.granted
          → wired.Packet p ∷ coming ≡ packets_from o.bytes (suc s.reception.held) left
          → HearsOwn stage coming answering (receiver.hears (Answering window) pr p) reports
      taken zero sends wire = absurd (cc wire)
      taken (suc left) sends wire =
          let number : ℕ = suc s.reception.held in
          let is : p ≡ Dt number (chunk o.bytes number) = cc wire in
          let rest : coming ≡ packets_from o.bytes (suc number) left = cc wire in
          subst (λ (q : Packet). HearsOwn stage coming answering (receiver.hears (Answering window) pr q) reports) (sym is)
          (subst (λ (zs : List Wired). HearsOwn stage zs answering (receiver.hears (Answering window) pr (Dt number (chunk o.bytes number))) reports) (sym rest)
          (data_heard window some stage answering pr reports s.reception s.opened s.received left sends s.answers s.same number (chunk o.bytes number) refl))

  -- ---- the receiver takes what is beside it

  passed_closed : (window : ℕ) (pr : Progress) (p : Packet) → is_open_at pr ≡ false → IsBesideForth o.pgn (wired.Packet p)
      → receiver.hears (Answering window) pr p ≡ (pr, heards.Nothing)
  passed_closed window pr (Rts size limit pgn) closed is = absurd is
  passed_closed window pr (Bam size pgn) closed is = absurd is
  passed_closed window pr (Dt number seven) closed is = absurd is
  passed_closed window pr (Cts amount start pgn) closed is = refl
  passed_closed window pr (EndAck size pgn) closed is = refl
  passed_closed window (Open r) (Abort reason pgn) closed is = absurd (cc closed)
  passed_closed window Closed (Abort reason pgn) closed is = refl
  passed_closed window (Complete done) (Abort reason pgn) closed is = refl

  passed_open : (window : ℕ) (r : Reception) (p : Packet) → r.pgn ≡ o.pgn → IsBesideForth o.pgn (wired.Packet p)
      → receiver.hears (Answering window) (Open r) p ≡ (Open r, heards.Nothing)
  passed_open window r (Rts size limit pgn) own is = absurd is
  passed_open window r (Bam size pgn) own is = absurd is
  passed_open window r (Dt number seven) own is = absurd is
  passed_open window r (Cts amount start pgn) own is = refl
  passed_open window r (EndAck size pgn) own is = refl
  passed_open window r (Abort reason pgn) own is =
      cond-false (receiver.is_directed r.kind && pgn == r.pgn) _ _
      (and_right (receiver.is_directed r.kind) (pgn == r.pgn) (ne_eqb pgn r.pgn (λ e. is (e ∙ own))))

  passed_at : (window : ℕ) (pr : Progress) (r : Reception) (p : Packet) → pr ≡ Open r → r.pgn ≡ o.pgn → IsBesideForth o.pgn (wired.Packet p)
      → receiver.hears (Answering window) pr p ≡ (pr, heards.Nothing)
  passed_at window pr r p opened own is =
      subst (λ (x : Progress). receiver.hears (Answering window) x p ≡ (x, heards.Nothing)) (sym opened) (passed_open window r p own is)

  pub beside_heard : (window : ℕ) (stage : Stage) (coming answering : List Wired) (pr : Progress) (reports : List Begun)
      → IsAt o before stage coming answering pr reports → (p : Packet) → IsBesideForth o.pgn (wired.Packet p)
      → receiver.hears (Answering window) pr p ≡ (pr, heards.Nothing)
  beside_heard window stage coming answering pr reports (inl a) p is = passed_closed window pr p a.closed is
  beside_heard window stage coming answering pr reports (inr (inl c)) p is = passed_at window pr c.reception p c.opened c.received.pgn is
  beside_heard window stage coming answering pr reports (inr (inr (inl s))) p is = passed_at window pr s.reception p s.opened s.received.pgn is
  beside_heard window stage coming answering pr reports (inr (inr (inr (inl r)))) p is = passed_closed window pr p r.closed is
  beside_heard window stage coming answering pr reports (inr (inr (inr (inr e)))) p is = passed_closed window pr p e.closed is

  -- ---- the sender takes an answer

  cts_heard : (size count start last : ℕ) → 0 < count → 0 < start → start + count ≡ suc last → last ≤ packets_of size
      → sender.stage_hears dests.One o.pgn size Waiting (Cts count start o.pgn) ≡ (Sending start last, reactions.Go)
  cts_heard size count start last some positive is most =
      let own : (o.pgn == o.pgn) ≡ true = eq-eqb o.pgn o.pgn refl in
      let grants : (count == 0) ≡ false = ne_eqb count 0 (λ e. omega (arith, e, some)) in
      let inside : (nat_le 1 start && nat_le start (packets_of size)) ≡ true =
      and_from (nat_le 1 start) (nat_le start (packets_of size)) (le-leb 1 start (omega (arith, positive)))
      (le-leb start (packets_of size) (omega (arith, some, is, most))) in
      let to_last : min (packets_of size) (start + count - 1) ≡ last = omega (arith, is, most) in
      rw (own, grants, inside) (ap (λ k. (Sending start k, reactions.Go)) to_last)

  -- the oldest answer, as it is taken
  pub own_answered : (stage : Stage) (p : Packet) (coming answering : List Wired) (pr : Progress) (reports : List Begun)
      → IsAt o before stage coming (wired.Packet p ∷ answering) pr reports
      → IsAt o before (sender.stage_hears dests.One o.pgn (length o.bytes) stage p).0 coming answering pr reports
      × (sender_replies (sender.stage_hears dests.One o.pgn (length o.bytes) stage p).1 ≡ [])
  own_answered stage p coming answering pr reports (inl a) = absurd (let answers = a.answers in cc answers)
  own_answered stage p coming answering pr reports (inr (inr (inl s))) = absurd (let answers = s.answers in cc answers)
  own_answered stage p coming answering pr reports (inr (inr (inr (inr e)))) = absurd (let answers = e.answers in cc answers)
  own_answered stage p coming answering pr reports (inr (inl c)) =
      let answers = c.answers in
      let r : Reception = c.reception in
      let less = c.received.less in
      let granted = c.granted in
      let is : p ≡ Cts c.count (r.held + 1) o.pgn = cc answers in
      let none : answering ≡ [] = cc answers in
      let heard : sender.stage_hears dests.One o.pgn (length o.bytes) stage p ≡ (Sending (r.held + 1) r.granted, reactions.Go) =
      (λ i. sender.stage_hears dests.One o.pgn (length o.bytes) (c.waits i) (is i))
      ∙ cts_heard (length o.bytes) c.count (r.held + 1) r.granted (omega (arith, less, granted)) (omega arith) (omega (arith, granted)) c.received.most in
      subst (λ (x : Stage × Reaction). IsAt o before x.0 coming answering pr reports × (sender_replies x.1 ≡ [])) (sym heard) (
        inr (inr (inl (record {
          reception = r;
          opened = c.opened;
          received = c.received;
          count = 0;
          sends = inl (omega (arith, less), ap (λ k. Sending k r.granted) (let e : r.held + 1 ≡ suc (r.held + 0) = omega arith in e));
          wire = c.wire;
          answers = none;
          same = c.same;
        }))),
        refl,
      )
  own_answered stage p coming answering pr reports (inr (inr (inr (inl r)))) =
      let answers = r.answers in
      let is : p ≡ EndAck (length o.bytes) o.pgn = cc answers in
      let none : answering ≡ [] = cc answers in
      let own : (o.pgn == o.pgn) ≡ true = eq-eqb o.pgn o.pgn refl in
      let all : (length o.bytes == length o.bytes) ≡ true = eq-eqb (length o.bytes) (length o.bytes) refl in
      let ends : sender.stage_hears dests.One o.pgn (length o.bytes) Waiting (EndAck (length o.bytes) o.pgn) ≡ (Resting Acked, reactions.Ended) =
      rw (own, all) refl in
      let heard : sender.stage_hears dests.One o.pgn (length o.bytes) stage p ≡ (Resting Acked, reactions.Ended) =
      (λ i. sender.stage_hears dests.One o.pgn (length o.bytes) (r.waits i) (is i)) ∙ ends in
      subst (λ (x : Stage × Reaction). IsAt o before x.0 coming answering pr reports × (sender_replies x.1 ≡ [])) (sym heard) (
        inr (inr (inr (inr (record { rests = refl; wire = r.wire; answers = none; closed = r.closed; one = r.one })))),
        refl,
      )

  -- what is no answer to it
  pub beside_answered : (size : ℕ) (stage : Stage) (p : Packet) → IsBesideBack o.pgn (wired.Packet p)
      → sender.stage_hears dests.One o.pgn size stage p ≡ (stage, reactions.Nothing)
  beside_answered size stage (Rts announced limit pgn) is = refl
  beside_answered size stage (Bam announced pgn) is = refl
  beside_answered size stage (Dt number seven) is = refl
  beside_answered size stage (Cts amount start pgn) is = absurd is
  beside_answered size stage (EndAck received pgn) is = absurd is
  beside_answered size stage (Abort reason pgn) is = cond-false (pgn == o.pgn) _ _ (ne_eqb pgn o.pgn is)
