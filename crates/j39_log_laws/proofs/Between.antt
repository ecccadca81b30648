-- Each frame that a step sends of a message goes from the holder of its source to the holder of its destination.
use Rattle.std.proofs.Common.{◌≡◌, ◌⊎◌, ℕ, ◌<◌, ◌==◌, true, false, List, [], ◌∷◌, ◌++◌, length, map, Option, Some, None}
use Rattle.std.proofs.Common.{inl, inr, refl, sym, ap, subst, ◌∙◌, arith, append_assoc}
use Rattle.std.specs.Bool.{MatchBool}
use Rattle.std.specs.List.{AllByRecursion, slice_get}
use Rattle.std.specs.Option.{is_some}
use Rattle.std.proofs.lemmas.Bool.{cases_Bool, cond_both, eq-eqb, not-false, or_left, or_right, true≢false}
use Rattle.std.proofs.lemmas.List.{append-nil, append_cancel_left}
use Rattle.j39_id.specs.Addresses.{global_address}
use Rattle.j39_id.specs.Ident.{identifier_of, pgn_of}
use Rattle.j39_id.specs.Pgn.{is_pdu2}
use Rattle.j39_id.specs.declared.frame.Frame.{Frame}
use Rattle.j39_tp.specs.Sender as sender
use Rattle.j39_tp.specs.Receiver as receiver
use Rattle.j39_tp.specs.declared.packet.Packet.{Packet}
use Rattle.j39_tp.specs.declared.packet.Packet.TheVariants.{Rts, Cts, EndAck, Bam, Abort, Dt}
use Rattle.j39_tp.specs.declared.receiving.manner.Manner.TheVariants.{Answering}
use Rattle.j39_claim.specs.declared.item.Item.{Item}
use Rattle.j39_claim.specs.declared.item.Item.TheVariants.{AddressClaimed}
use Rattle.j39_claim.specs.declared.item.Say.{Say}
use Rattle.j39_claim.specs.ClaimRule.{ClaimState, claim_of, said_by, started}
use Rattle.j39_network.specs.declared.plan.Plan.{Plan}
use Rattle.j39_network.specs.declared.plan.to.To.{To}
use Rattle.j39_network.specs.declared.plan.to.To.TheVariants.{All, One}
use Rattle.j39_network.specs.declared.steps.Step.{Step}
use Rattle.j39_network.specs.declared.steps.Step.TheVariants.{Up, Down, Give, Ask, Begin, Send, Emit, Take, Lose, LateSender, LateReceiver, Rest}
use Rattle.j39_world.specs.declared.flow.Flow.{Flow}
use Rattle.j39_world.specs.declared.step_error.StepError.{StepError}
use Rattle.j39_world.specs.declared.wired.Wired.{Wired}
use Rattle.j39_world.specs.declared.wired.Wired.TheVariants as wired
use Rattle.j39_world.specs.ClaimSteps.{GivenFrom, answer_items, asking_items, first_items}
use Rattle.j39_world.specs.Flows.{FlowGoes, dest_of, flows_of, is_short, window_at, windows_of}
use Rattle.j39_world.specs.Opening.{AreNamesDistinct}
use Rattle.j39_network.specs.PlannedUnits.{unit_at, units_of}
use Rattle.j39_log_laws.specs.KeepsEnds.{KeepsEnds}
use Rattle.j39_world.specs.Run.{StepsTo, begin_refusal, send_refusal, count_of, refusal}
use Rattle.j39_world.specs.Sent.{Sent, frame_of, sent_of, source_of}
use Rattle.j39_world.specs.SentTransfers.{address_of, destination_of, group_of, packet_frame, short_frame}
use Rattle.j39_world.specs.SoundPlan.{Always}
use Rattle.j39_tp.specs.declared.sending.outcome.Outcome.{Outcome}
use Rattle.j39_tp.specs.declared.sending.stage.Stage.{Stage}
use Rattle.j39_tp.specs.declared.sending.stage.Stage.TheVariants.{Resting}
use Rattle.j39_run_laws.proofs.Transfers.Naming.{HasEndedWithout}
use Rattle.j39_world.specs.Transfers.{Outgoing, is_among}
use Rattle.j39_world.specs.TransferSteps.{BeginsAt, SendsAt, LostFrom, TakenFrom, first_frame, hearing, packets_in, reaction_of, receiver_replies}
use Rattle.j39_world.specs.TransferSteps.{sender_replies}
use Rattle.j39_world.specs.World.{World, changed}
use Rattle.j39_run_laws.proofs.Runs.Changed.{changed_here}
use Rattle.j39_run_laws.proofs.Runs.Conditions.{is_unit, none_refuses, units_known}
use Rattle.j39_run_laws.proofs.Runs.Elements.{all_map}
use Rattle.j39_run_laws.proofs.Runs.Units.{in_units}
use Rattle.j39_run_laws.proofs.Addresses.CleanUnits.{names_in_range}
use Rattle.j39_follow.specs.Holders.{HoldsByFrames}
use Rattle.j39_log_laws.specs.Between.{GoesToHolder, IsKnownAt, IsOfStep, IsSentBehind, IsSentBy, IsTransport, MessagesGoBetweenHolders, SendsTo}
use Rattle.j39_log_laws.specs.Between.{reports_of_addresses}
use Rattle.j39_log_laws.specs.HolderReports.{HaveOwnNumbers}
use Rattle.j39_log_laws.proofs.Ends.{HasEnds, IsEnd, IsFor, all_ends, begun_ends, sent_ends}
use Rattle.j39_log_laws.proofs.Identifiers.{IsOther, carries_none, sent_as}
use Rattle.j39_log_laws.proofs.Logs.{IsItemInRange, HoldsNothing, silent_keep, split, reports_addresses, holds_nothing}
use Rattle.j39_log_laws.proofs.Replies.{GoesOnTo, late_answers, takers_answer}
use Rattle.j39_log_laws.proofs.Standing.{preferred_below, said_held, source_below, turned_any}
use Rattle.j39_log_laws.proofs.HolderReports.{AreReported, all_stated, asking_below, first_below, flow_other, packet_group}
use Rattle.j39_log_laws.proofs.UnitNames.{named}

-- ---- lists

all_parts : {X : Type 0} (P : X → Type 0) (xs : List X) (y : X) (ys : List X) → AllByRecursion P (xs ++ y ∷ ys) → AllByRecursion P xs × P y
all_parts P [] y ys all = (tt, all.0)
all_parts P (x ∷ xs) y ys all = let more = all_parts P xs y ys all.1 in ((all.0, more.0), more.1)

all_last : {X : Type 0} (P : X → Type 0) (xs : List X) (y : X) → AllByRecursion P xs → P y → AllByRecursion P (xs ++ y ∷ [])
all_last P [] y all last = (last, tt)
all_last P (x ∷ xs) y all last = (all.0, all_last P xs y all.1 last)

-- ---- frames of messages

pub record IsMessageFrame (IsGroup : ℕ → Type 0) (destination source : ℕ) (x : Sent) : Type 0 where
  pub priority : ℕ
  pub pgn : ℕ
  pub group : IsGroup pgn
  pub other : IsOther pgn
  pub number : x.identifier ≡ identifier_of priority pgn destination source

pub transports : (p : Packet) → IsTransport (group_of p)
transports (Rts size limit pgn) = inl refl
transports (Cts count first pgn) = inl refl
transports (EndAck size pgn) = inl refl
transports (Bam size pgn) = inl refl
transports (Abort reason pgn) = inl refl
transports (Dt number chunk) = inr refl

packet_is : (d s : ℕ) (p : Packet) → IsMessageFrame IsTransport d s (packet_frame d s p)
packet_is d s p = record { priority = 7; pgn = group_of p; group = transports p; other = packet_group p; number = refl }

packets_are : (d s : ℕ) (ps : List Packet) → AllByRecursion (IsMessageFrame IsTransport d s) (map (packet_frame d s) ps)
packets_are d s [] = tt
packets_are d s (p ∷ ps) = (packet_is d s p, packets_are d s ps)

-- the first frame of a flow's message
abbrev IsFirst : Flow → ℕ → Type 0
IsFirst flow pgn = (pgn ≡ flow.pgn) ⊎ IsTransport pgn

short_is : (d s : ℕ) (flow : Flow) (bytes : List ℕ) → IsOther flow.pgn → IsMessageFrame (IsFirst flow) d s (short_frame d s flow bytes)
short_is d s flow bytes other = record { priority = flow.priority; pgn = flow.pgn; group = inl refl; other = other; number = refl }

announcement_is : (d s : ℕ) (flow : Flow) (p : Packet) → IsMessageFrame (IsFirst flow) d s (packet_frame d s p)
announcement_is d s flow p = record { priority = 7; pgn = group_of p; group = inr (transports p); other = packet_group p; number = refl }

module _ (IsGroup : ℕ → Type 0) (d s : ℕ) (less_d : d < 256) (less_s : s < 256) where
  silent_message : (f : Frame) → IsMessageFrame IsGroup d s (sent_of f) → HoldsNothing f
  silent_message f m = holds_nothing f (carries_none f m.priority m.pgn d s m.other less_d less_s m.number)

  silent_messages : (fs : List Frame) → AllByRecursion (IsMessageFrame IsGroup d s) (map sent_of fs) → AllByRecursion HoldsNothing fs
  silent_messages [] all = tt
  silent_messages (f ∷ fs) all = (silent_message f all.0, silent_messages fs all.1)

-- ---- in a world of a run

module _ (plan : Plan) (distinct : AreNamesDistinct (units_of plan)) (own : HaveOwnNumbers plan) (w : World) (stated : AreReported plan w)
    (ends : HasEnds plan w) where
  abbrev name : ℕ → ℕ
  name u = (unit_at (units_of plan) u).name

  below : (u : ℕ) → address_of w.stations u < 256
  below u = source_below (w.stations u) (stated.standing.1 u)

  destination_below : (to : To) → destination_of w.stations to < 256
  destination_below All = omega arith
  destination_below (One v) = below v

  -- by all frames up to one of a message
  is_at : (u : ℕ) → IsEnd w u → (log : List Frame) (f : Frame) (earlier : List Sent) → map sent_of log ≡ w.frames ++ earlier
      → ((more : List Frame) → map sent_of more ≡ earlier → AllByRecursion HoldsNothing (more ++ f ∷ []))
      → IsKnownAt plan w (log ++ f ∷ []) u (address_of w.stations u)
  is_at u is_end log f earlier e silent =
      let (on, (a, address)) = is_end.holding in
      let s = split sent_of log w.frames earlier e in
      let same : a ≡ address_of w.stations u = sym (ap source_of address) in
      let row : s.0 ++ (s.1 ++ f ∷ []) ≡ log ++ f ∷ [] =
      sym (append_assoc s.0 s.1 (f ∷ [])) ∙ ap (λ (l : List Frame). l ++ f ∷ []) (sym s.2) in
      let holds : (unit_at (units_of plan) u).claims ≡ true → HoldsByFrames s.0 (name u) a =
      λ claims. elim (stated.are_reported s.0 s.3 u a claims on address) [
        | inl is ↦ is
        | inr (v, claim) ↦ absurd (is_end.unclaimed v a address claim)
      ] in
      let then : (unit_at (units_of plan) u).claims ≡ true → HoldsByFrames (log ++ f ∷ []) (name u) a =
      λ claims. subst (λ (l : List Frame). HoldsByFrames l (name u) a) row (silent_keep s.0 (s.1 ++ f ∷ []) (name u) a (silent s.1 s.4) (holds claims)) in
      subst (IsKnownAt plan w (log ++ f ∷ []) u) same (record {
        on = on;
        holds = address;
        stated = λ claims. (name u, then claims, named plan distinct u (stated.standing.0 u on));
      })

  between : (IsGroup : ℕ → Type 0) (u : ℕ) (to : To) → IsEnd w u → IsFor w to
      → (log : List Frame) (f : Frame) (earlier later : List Sent) → map sent_of log ≡ w.frames ++ earlier
      → AllByRecursion (IsMessageFrame IsGroup (destination_of w.stations to) (address_of w.stations u)) (earlier ++ sent_of f ∷ later)
      → IsGroup (pgn_of f.ident) × IsKnownAt plan w (log ++ f ∷ []) u f.ident.sa × GoesToHolder plan w (log ++ f ∷ []) to f.ident
  between IsGroup u to holding for log f earlier later e all =
      let d : ℕ = destination_of w.stations to in
      let s : ℕ = address_of w.stations u in
      let parts = all_parts (IsMessageFrame IsGroup d s) earlier (sent_of f) later all in
      let m = parts.1 in
      let i = sent_as f.ident m.priority m.pgn d s m.other (destination_below to) (below u) m.number in
      let silent : (more : List Frame) → map sent_of more ≡ earlier → AllByRecursion HoldsNothing (more ++ f ∷ []) =
      λ more is. all_last HoldsNothing more f
      (silent_messages IsGroup d s (destination_below to) (below u) more (subst (AllByRecursion (IsMessageFrame IsGroup d s)) (sym is) parts.0))
      (silent_message IsGroup d s (destination_below to) (below u) f m) in
      let source : IsKnownAt plan w (log ++ f ∷ []) u f.ident.sa =
      subst (IsKnownAt plan w (log ++ f ∷ []) u) (sym i.source_is) (is_at u holding log f earlier e silent) in
      (subst IsGroup (sym i.group_is) m.group, source, goes m.pgn i.undirected to for i.directed silent)
    where
      goes : (pgn : ℕ) → (is_pdu2 pgn ≡ true → is_pdu2 (pgn_of f.ident) ≡ true) → (x : To) → IsFor w x
          → (is_pdu2 pgn ≡ false → f.ident.ps ≡ destination_of w.stations x)
          → ((more : List Frame) → map sent_of more ≡ earlier → AllByRecursion HoldsNothing (more ++ f ∷ []))
          → GoesToHolder plan w (log ++ f ∷ []) x f.ident
      goes pgn undirected All held directed silent = elim (cases_Bool (is_pdu2 pgn)) [
        | inl two ↦ or_left (is_pdu2 (pgn_of f.ident)) (f.ident.ps == global_address) (undirected two)
        | inr one ↦ or_right (is_pdu2 (pgn_of f.ident)) (f.ident.ps == global_address) (eq-eqb f.ident.ps global_address (directed one))
      ]
      goes pgn undirected (One v) held directed silent = (
        address_of w.stations v,
        is_at v held log f earlier e silent,
        elim (cases_Bool (is_pdu2 pgn)) [ inl two ↦ inl (undirected two) | inr one ↦ inr (directed one) ],
      )

  -- ---- what a step sends

  -- each frame of these has it, where a step sends these
  module _ (after : World) (log : List Frame) (f : Frame) (sent : IsSentBehind w after log f) (added : List Sent)
      (is : after.frames ≡ w.frames ++ added) where
    parts_are : sent.earlier ++ sent_of f ∷ sent.later ≡ added
    parts_are = append_cancel_left w.frames (sent.earlier ++ sent_of f ∷ sent.later) added (sym sent.sent ∙ is)

    all_of : (P : Sent → Type 0) → AllByRecursion P added → AllByRecursion P (sent.earlier ++ sent_of f ∷ sent.later)
    all_of P all = subst (AllByRecursion P) (sym parts_are) all

    none_sent : added ≡ [] → ⊥
    none_sent none =
        (all_parts (λ (x : Sent). ⊥) sent.earlier (sent_of f) sent.later (all_of (λ (x : Sent). ⊥) (subst (AllByRecursion (λ (x : Sent). ⊥)) (sym none) tt))).1

    -- a message's
    goes_between : (IsGroup : ℕ → Type 0) (u : ℕ) (to : To) → IsEnd w u → IsFor w to
        → AllByRecursion (IsMessageFrame IsGroup (destination_of w.stations to) (address_of w.stations u)) added
        → IsGroup (pgn_of f.ident) × IsKnownAt plan w (log ++ f ∷ []) u f.ident.sa × GoesToHolder plan w (log ++ f ∷ []) to f.ident
    goes_between IsGroup u to holding for all =
        between IsGroup u to holding for log f sent.earlier sent.later sent.log_is
        (all_of (IsMessageFrame IsGroup (destination_of w.stations to) (address_of w.stations u)) all)

  -- a unit's that reports of addresses
  module _ (u : ℕ) (unit : is_unit plan u ≡ true) (held : Option ℕ) (source : source_of held < 256) (items : List Item)
      (range : AllByRecursion IsItemInRange items) where
    abbrev ReportsOf : Sent → Type 0
    ReportsOf x = (g : Frame) → sent_of g ≡ x → reports_of_addresses g ≡ true

    all_report : AllByRecursion ReportsOf (map (frame_of (name u) held) items)
    all_report = all_map (frame_of (name u) held) IsItemInRange ReportsOf
        (λ item less g e. reports_addresses (name u) (names_in_range plan u (in_units plan u unit)) held source g item less e) items range

    are_reported : (after : World) (log : List Frame) (f : Frame) → IsSentBehind w after log f
        → after.frames ≡ w.frames ++ map (frame_of (name u) held) items → reports_of_addresses f ≡ true
    are_reported after log f sent is =
        (all_parts ReportsOf sent.earlier (sent_of f) sent.later
        (all_of after log f sent (map (frame_of (name u) held) items) is ReportsOf all_report)).1 f refl

  -- ---- each step

  abbrev Goes : Step → World → Type 0
  Goes step after = (log : List Frame) (f : Frame) → IsSentBehind w after log f → reports_of_addresses f ≡ false
      → (u : ℕ) × (to : To) × IsSentBy plan w step u to × IsOfStep plan step f.ident × IsKnownAt plan w (log ++ f ∷ []) u f.ident.sa
      × GoesToHolder plan w (log ++ f ∷ []) to f.ident

  same_frames : (step : Step) (after : World) → after.frames ≡ w.frames → Goes step after
  same_frames step after is log f sent other = absurd (none_sent after log f sent [] (is ∙ sym (append-nil w.frames)) refl)

  -- who is at the other end of a message to one
  both_hold : (u v : ℕ) → GoesOnTo w u v → IsEnd w u × IsEnd w v
  both_hold u v (s, is, to, among) = (ends.sender u s is, ends.receiver u v s is to (λ _. among))

  of_one : (u v : ℕ) → GoesOnTo w u v → SendsTo plan w u (One v)
  of_one u v (s, is, same, among) = (s, is, subst (FlowGoes plan s.flow u) same (ends.flow u s is))

  of_session : (u : ℕ) (s : Outgoing) → w.sessions u ≡ Some s → SendsTo plan w u s.to
  of_session u s is = (s, is, ends.flow u s is)

  up : (u : ℕ) → refusal plan w (Up u) ≡ None → (after : World) → StepsTo plan w (Up u) after → Goes (Up u) after
  up u allowed after e log f sent other =
      let (known, more) = none_refuses plan w (Up u) allowed in
      let unit = not-false _ known in
      let now = changed w.stations u (started (unit_at (units_of plan) u)) in
      let less = preferred_below plan u unit in
      let source : source_of (now u).address < 256 =
      subst (λ (c : ClaimState). source_of c.address < 256) (sym (changed_here w.stations u (started (unit_at (units_of plan) u)))) (omega (arith, less)) in
      absurd (true≢false (sym (are_reported u unit (now u).address source (first_items (unit_at (units_of plan) u))
      (first_below (unit_at (units_of plan) u) less) after log f sent
      (ap (λ (x : World). x.frames) e)) ∙ other))

  item_below : (o : Option ℕ) → ((a : ℕ) → o ≡ Some a → a < 254) → IsItemInRange (AddressClaimed (claim_of o))
  item_below None less = tt
  item_below (Some a) less = less a refl

  ask : (u : ℕ) → refusal plan w (Ask u) ≡ None → (after : World) → StepsTo plan w (Ask u) after → Goes (Ask u) after
  ask u allowed after e log f sent other =
      let (known, more) = none_refuses plan w (Ask u) allowed in
      let held = (w.stations u).address in
      absurd (true≢false (sym (are_reported u (not-false _ known) held (below u) (asking_items (said_by (unit_at (units_of plan) u) (claim_of held)))
      (asking_below (unit_at (units_of plan) u) (claim_of held) (item_below held (stated.standing.1 u))) after log f sent
      (ap (λ (x : World). x.frames) e)) ∙ other))

  give : (u v : ℕ) → is_unit plan v ≡ true → (list : List Item) (after : World) → GivenFrom (units_of plan) w u v list after → Goes (Give u v) after
  give u v unit [] after never log f sent other = absurd never
  give u v unit (item ∷ rest) after (says, s, reacts, e) log f sent other =
      let now = changed w.stations v s in
      let holds = turned_any (unit_at (units_of plan) v) (w.stations v) (name u) item says s reacts (stated.standing.1 v) in
      let source : source_of (now v).address < 256 =
      subst (λ (c : ClaimState). source_of c.address < 256) (sym (changed_here w.stations v s)) (source_below s holds) in
      let range : AllByRecursion IsItemInRange (answer_items says) =
      elim (said_held (unit_at (units_of plan) v) (w.stations v) (name u) item says s reacts) [
        | inl silent ↦ subst (λ (o : Option Say). AllByRecursion IsItemInRange (answer_items o)) (sym silent) tt
        | inr said ↦ subst (λ (o : Option Say). AllByRecursion IsItemInRange (answer_items o)) (sym said) (item_below s.address holds, tt)
      ] in
      absurd (true≢false (sym (are_reported v unit (now v).address source (answer_items says) range after log f sent (ap (λ (x : World). x.frames) e)) ∙ other))

  begin : (k : ℕ) (bytes : List ℕ) (o : Option Flow) → slice_get (flows_of plan) k ≡ o → begin_refusal plan.live (count_of plan) w o bytes ≡ None
      → (after : World) → BeginsAt (count_of plan) w k o bytes after → (log : List Frame) (f : Frame) → IsSentBehind w after log f
      → (flow : Flow) × (o ≡ Some flow) × IsFirst flow (pgn_of f.ident) × IsKnownAt plan w (log ++ f ∷ []) flow.sender f.ident.sa
      × GoesToHolder plan w (log ++ f ∷ []) flow.to f.ident
  begin k bytes None is allowed after never log f sent = absurd never
  begin k bytes (Some flow) is allowed after e log f sent =
      let d : ℕ = destination_of w.stations flow.to in
      let s : ℕ = address_of w.stations flow.sender in
      let other = flow_other plan own k flow is in
      let hold = begun_ends plan w ends k flow bytes is allowed in
      let of : IsMessageFrame (IsFirst flow) d s (first_frame w.stations flow bytes) =
      cond_both (is_short (length bytes)) (short_frame d s flow bytes) (packet_frame d s (sender.announcement (dest_of flow.to) flow.pgn (length bytes)))
      (IsMessageFrame (IsFirst flow) d s) (λ _. short_is d s flow bytes other) (λ _. announcement_is d s flow _) in
      let goes = goes_between after log f sent (first_frame w.stations flow bytes ∷ []) (ap (λ (x : World). x.frames) e) (IsFirst flow)
      flow.sender flow.to hold.0 hold.1 (of, tt) in
      (flow, refl, goes.0, goes.1, goes.2)

  -- a frame is sent alone
  send : (k : ℕ) (bytes : List ℕ) (o : Option Flow) → slice_get (flows_of plan) k ≡ o → send_refusal plan.live (count_of plan) w o bytes ≡ None
      → (after : World) → SendsAt (count_of plan) w k o bytes after → (log : List Frame) (f : Frame) → IsSentBehind w after log f
      → (flow : Flow) × (o ≡ Some flow) × (pgn_of f.ident ≡ flow.pgn) × IsKnownAt plan w (log ++ f ∷ []) flow.sender f.ident.sa
      × GoesToHolder plan w (log ++ f ∷ []) flow.to f.ident
  send k bytes None is allowed after never log f sent = absurd never
  send k bytes (Some flow) is allowed after e log f sent =
      let d : ℕ = destination_of w.stations flow.to in
      let s : ℕ = address_of w.stations flow.sender in
      let other = flow_other plan own k flow is in
      let hold = sent_ends plan w ends k flow bytes is allowed in
      let IsGroup : ℕ → Type 0 = λ pgn. pgn ≡ flow.pgn in
      let of : IsMessageFrame IsGroup d s (short_frame d s flow bytes) =
      record { priority = flow.priority; pgn = flow.pgn; group = refl; other = other; number = refl } in
      let goes = goes_between after log f sent (short_frame d s flow bytes ∷ []) (ap (λ (x : World). x.frames) e) IsGroup
      flow.sender flow.to hold.0 hold.1 (of, tt) in
      (flow, refl, goes.0, goes.1, goes.2)

  -- a sender goes on
  goes_on : (u : ℕ) (s : Outgoing) (p : Packet) → w.sessions u ≡ Some s → ((outcome : Outcome) → s.stage ≡ Resting outcome → ⊥) → (after : World)
      → after.frames ≡ w.frames ++ packet_frame (destination_of w.stations s.to) (address_of w.stations u) p ∷ []
      → (log : List Frame) (f : Frame) → IsSentBehind w after log f
      → IsTransport (pgn_of f.ident) × IsKnownAt plan w (log ++ f ∷ []) u f.ident.sa × GoesToHolder plan w (log ++ f ∷ []) s.to f.ident
  goes_on u s p is going after frames log f sent =
      goes_between after log f sent (packet_frame (destination_of w.stations s.to) (address_of w.stations u) p ∷ []) frames IsTransport
      u s.to (ends.sender u s is) (for_whom s.to refl) (packet_is _ _ p, tt)
    where
      -- one that goes on goes to its one unit still
      for_whom : (to : To) → s.to ≡ to → IsFor w to
      for_whom All e = tt
      for_whom (One v) e = elim (cases_Bool (is_among s.targets v)) [
        | inl among ↦ ends.receiver u v s is e (λ _. among)
        | inr none ↦
            let rests = subst HasEndedWithout is (ends.kept.named.ended u) v e none in absurd (going rests.0 rests.1)
      ]

  -- v answers u
  answers_go : (u v : ℕ) → IsEnd w u × IsEnd w v → (ps : List Packet) (after : World)
      → after.frames ≡ w.frames ++ map (packet_frame (address_of w.stations u) (address_of w.stations v)) ps
      → (log : List Frame) (f : Frame) → IsSentBehind w after log f
      → IsTransport (pgn_of f.ident) × IsKnownAt plan w (log ++ f ∷ []) v f.ident.sa × GoesToHolder plan w (log ++ f ∷ []) (One u) f.ident
  answers_go u v hold ps after frames log f sent =
      goes_between after log f sent (map (packet_frame (address_of w.stations u) (address_of w.stations v)) ps) frames IsTransport
      v (One u) hold.1 hold.0 (packets_are _ _ ps)

  take : (u v : ℕ) (list : List Wired) → w.wire u v ≡ list → (after : World) → TakenFrom (windows_of plan) w u v list after → Goes (Take u v) after
  take u v [] is after never log f sent other = absurd never
  take u v (wired.Short bytes ∷ rest) is after e log f sent other =
      same_frames (Take u v) after (ap (λ (x : World). x.frames) e) log f sent other
  take u v (wired.Alone k bytes ∷ rest) is after e log f sent other =
      same_frames (Take u v) after (ap (λ (x : World). x.frames) e) log f sent other
  take u v (wired.Packet p ∷ rest) is after (reports, reported, e) log f sent other =
      let ps : List Packet = receiver_replies (hearing (windows_of plan) w u v p).1 ++ sender_replies (reaction_of (w.sessions v) u p) in
      let frames : after.frames ≡ w.frames ++ map (packet_frame (address_of w.stations u) (address_of w.stations v)) ps =
      ap (λ (x : World). x.frames) e in
      elim (takers_answer plan w ends.kept (windows_of plan) u v p rest is) [
        | inl none ↦ absurd (none_sent after log f sent _ frames
            (ap (map (packet_frame (address_of w.stations u) (address_of w.stations v))) none))
        | inr (inl sends) ↦
            let goes = answers_go u v (both_hold u v sends) ps after frames log f sent in
            (v, One u, (refl, refl, inl (of_one u v sends)), goes.0, goes.1, goes.2)
        | inr (inr sends) ↦
            let b = both_hold v u sends in
            let goes = answers_go u v (b.1, b.0) ps after frames log f sent in
            (v, One u, (refl, refl, inr (of_one v u sends)), goes.0, goes.1, goes.2)
      ]

  late_receiver : (u v : ℕ) (after : World) → StepsTo plan w (LateReceiver u v) after → Goes (LateReceiver u v) after
  late_receiver u v after e log f sent other =
      let ps : List Packet = packets_in (receiver.timed_out (Answering (window_at (windows_of plan) v)) (w.receivers v u)).1 in
      let frames : after.frames ≡ w.frames ++ map (packet_frame (address_of w.stations u) (address_of w.stations v)) ps =
      ap (λ (x : World). x.frames) e in
      elim (late_answers plan w ends.kept (windows_of plan) u v) [
        | inl none ↦ absurd (none_sent after log f sent _ frames
            (ap (map (packet_frame (address_of w.stations u) (address_of w.stations v))) none))
        | inr sends ↦
            let goes = answers_go u v (both_hold u v sends) ps after frames log f sent in
            (v, One u, (refl, refl, of_one u v sends), goes.0, goes.1, goes.2)
      ]

  lose : (u v : ℕ) (list : List Wired) (after : World) → LostFrom w u v list after → Goes (Lose u v) after
  lose u v [] after never = absurd never
  lose u v (item ∷ rest) after e = same_frames (Lose u v) after (ap (λ (x : World). x.frames) e)

  pub step_goes : (step : Step) → refusal plan w step ≡ None → (after : World) → StepsTo plan w step after → Goes step after
  step_goes (Up u) allowed after e = up u allowed after e
  step_goes (Down u) allowed after e = same_frames (Down u) after (ap (λ (x : World). x.frames) e)
  step_goes (Give u v) allowed after leads =
      let (known, more) = none_refuses plan w (Give u v) allowed in
      give u v (units_known plan u v known).1 (w.claims u v) after leads
  step_goes (Ask u) allowed after e = ask u allowed after e
  step_goes (Begin k bytes) allowed after leads = λ log f sent other.
      let (flow, is, group, source, goes) = begin k bytes.items (slice_get (flows_of plan) k) refl allowed after leads log f sent in
      (flow.sender, flow.to, (flow, is, refl, refl), elim group [ inl its ↦ inl (flow, is, its) | inr transport ↦ inr transport ], source, goes)
  step_goes (Send k bytes) allowed after leads = λ log f sent other.
      let (flow, is, number, source, goes) = send k bytes.items (slice_get (flows_of plan) k) refl allowed after leads log f sent in
      (flow.sender, flow.to, (flow, is, refl, refl), (flow, is, number), source, goes)
  step_goes (Emit u) allowed after (s, p, session, next, e) = λ log f sent other.
      let goes = goes_on u s p session (λ outcome rests. cc (subst (λ (st : Stage). sender.data_next s.bytes st ≡ Some p) rests next))
      after (ap (λ (x : World). x.frames) e) log f sent in
      (u, s.to, (refl, of_session u s session), goes.0, goes.1, goes.2)
  step_goes (Take u v) allowed after leads = take u v (w.wire u v) refl after leads
  step_goes (Lose u v) allowed after leads = lose u v (w.wire u v) after leads
  step_goes (LateSender u) allowed after (s, p, session, packet, e) = λ log f sent other.
      let goes = goes_on u s p session (λ outcome rests. cc (subst (λ (st : Stage). sender.timeout_packet s.pgn st ≡ Some p) rests packet))
      after (ap (λ (x : World). x.frames) e) log f sent in
      (u, s.to, (refl, of_session u s session), goes.0, goes.1, goes.2)
  step_goes (LateReceiver u v) allowed after e = late_receiver u v after e
  step_goes (Rest u) allowed after e = same_frames (Rest u) after (ap (λ (x : World). x.frames) e)

  goes_between_holders : MessagesGoBetweenHolders plan w
  goes_between_holders step after log f follows =
      elim (refusal plan w step)
      as (λ (o : Option StepError). refusal plan w step ≡ o → MatchBool (is_some o) (after ≡ w) (StepsTo plan w step after)
      → IsSentBehind w after log f → reports_of_addresses f ≡ false
      → (u : ℕ) × (to : To) × IsSentBy plan w step u to × IsOfStep plan step f.ident × IsKnownAt plan w (log ++ f ∷ []) u f.ident.sa
      × GoesToHolder plan w (log ++ f ∷ []) to f.ident) [
        | Some e ↦ λ _ same. same_frames step after (ap (λ (x : World). x.frames) same) log f
        | None ↦ λ allowed leads. step_goes step allowed after leads log f
      ] refl follows

pub messages_go : (plan : Plan) → KeepsEnds plan → AreNamesDistinct (units_of plan) → HaveOwnNumbers plan → Always plan (MessagesGoBetweenHolders plan)
messages_go plan keeps distinct own steps w run =
    goes_between_holders plan distinct own w (all_stated plan distinct own steps w run) (all_ends plan keeps steps w run)
