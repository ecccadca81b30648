-- What each step of a run sends: what a unit reports of its address, or frames of messages.
use Rattle.std.proofs.Common.{◌≡◌, ◌≢◌, ◌⊎◌, ℕ, ◌<◌, ◌++◌, ◌∷◌, [], List, Bool, true, false, length, map}
use Rattle.std.proofs.Common.{inl, inr, refl, sym, ap, ◌∙◌, subst, arith, Option, Some, None}
use Rattle.std.specs.List.{AllByRecursion, slice_get}
use Rattle.std.proofs.lemmas.Bool.{MatchBool-at_false, MatchBool-at_true, and_parts, cases_Bool, cases_eq, cond_both, not-false, true≢false}
use Rattle.std.proofs.lemmas.List.{append-nil}
use Rattle.std.proofs.lemmas.Option.{none-some, same_Some}
use Rattle.std.specs.Prelude.{IfSome}
use Rattle.j39_claim.specs.declared.item.Item.{Item}
use Rattle.j39_claim.specs.declared.item.Item.TheVariants.{AddressClaimed, Request}
use Rattle.j39_claim.specs.declared.item.Say.{Say}
use Rattle.j39_claim.specs.ClaimRule.{ClaimState, PlannedUnit, claim_of, off, said_by, started}
use Rattle.j39_network.specs.PlannedUnits.{unit_at, units_of}
use Rattle.j39_network.specs.declared.plan.Plan.{Plan}
use Rattle.j39_network.specs.declared.plan.to.To.{To}
use Rattle.j39_network.specs.declared.plan.to.To.TheVariants.{All, One}
use Rattle.j39_network.specs.declared.steps.Step.{Step}
use Rattle.j39_network.specs.declared.steps.Step.TheVariants.{Up, Down, Give, Ask, Begin, Send, Emit, Take, Lose, LateSender, LateReceiver, Rest}
use Rattle.j39_id.specs.Addresses.{global_address}
use Rattle.j39_signal.specs.Selectors.{is_selected}
use Rattle.j39_tp.proofs.Answering.{IsAside, IsNoAnnouncement, RepliesAside, ReportsMessage, HoldsNothing, aside_answer, answers_announce_nothing, hears_stated}
use Rattle.j39_tp.proofs.Answering.{sender_aside, timed_out_aside}
use Rattle.j39_tp.specs.Chunks.{chunk}
use Rattle.j39_tp.specs.Reasons.{timeout}
use Rattle.j39_tp.specs.Receiver as receiver
use Rattle.j39_tp.specs.Sender as sender
use Rattle.j39_tp.specs.declared.packet.Packet.{Packet}
use Rattle.j39_tp.specs.declared.packet.Packet.TheVariants.{Abort, Dt}
use Rattle.j39_tp.specs.declared.receiving.heard.Heard.{Heard}
use Rattle.j39_tp.specs.declared.receiving.heard.Heard.TheVariants as heards
use Rattle.j39_tp.specs.declared.receiving.manner.Manner.TheVariants.{Answering}
use Rattle.j39_tp.specs.declared.sending.reaction.Reaction.{Reaction}
use Rattle.j39_tp.specs.declared.sending.reaction.Reaction.TheVariants as reactions
use Rattle.j39_tp.specs.declared.sending.stage.Stage.{Stage}
use Rattle.j39_tp.specs.declared.sending.stage.Stage.TheVariants.{Sending, Waiting, Resting}
use Rattle.j39_world.proofs.Refusals.{none_hold}
use Rattle.j39_world.specs.Transfers.{Outgoing, is_among}
use Rattle.j39_log_laws.proofs.Ends.{IsForHolding, IsHolding, begin_ends}
use Rattle.j39_world.specs.declared.flow.Flow.{Flow}
use Rattle.j39_world.specs.declared.wired.Wired.{Wired}
use Rattle.j39_world.specs.declared.wired.Wired.TheVariants as wired
use Rattle.j39_world.specs.ClaimSteps.{GivenFrom, answer_items, asked, asking_items, first_items, switched_on}
use Rattle.j39_world.specs.Flows.{dest_of, flows_of, has_length, is_short, window_at, windows_of}
use Rattle.j39_world.specs.Run.{StepsTo, at_ends, begin_refusal, begin_refusals, count_of, has_address, is_on, refusal, send_refusal, send_refusals}
use Rattle.j39_world.specs.Sent.{Sent, frame_of, source_of}
use Rattle.j39_world.specs.SentTransfers.{address_of, destination_of, packet_frame, short_frame}
use Rattle.j39_world.specs.SwitchingOff.{switched_off}
use Rattle.j39_world.specs.TransferSteps.{BeginsAt, LostFrom, SendsAt, TakenFrom, first_frame, hearing, packets_in, reaction_of, receiver_replies}
use Rattle.j39_world.specs.TransferSteps.{sender_replies}
use Rattle.j39_world.specs.World.{Stations, World, changed}
use Rattle.j39_run_laws.proofs.Addresses.Notes.{reacts_on}
use Rattle.j39_run_laws.proofs.Runs.Changed.{changed_elsewhere, changed_here}
use Rattle.j39_run_laws.proofs.Runs.ClaimInvariants.{asking_said, asking_silent, first_said, first_silent}
use Rattle.j39_run_laws.proofs.Runs.Conditions.{is_unit, none_refuses, units_known}
use Rattle.j39_log_laws.proofs.Standing.{AreStanding, source_below, turn}

-- ---- what a unit reports of its address

abbrev pub name_at : Plan → ℕ → ℕ
name_at plan u = (unit_at (units_of plan) u).name

abbrev pub claims_at : Plan → ℕ → Bool
claims_at plan u = (unit_at (units_of plan) u).claims

-- what it holds is claimed by this frame
abbrev pub claim_frame : Plan → World → ℕ → Sent
claim_frame plan w u = frame_of (name_at plan u) (w.stations u).address (AddressClaimed (claim_of (w.stations u).address))

abbrev pub request_frame : Plan → World → ℕ → Sent
request_frame plan w u = frame_of (name_at plan u) (w.stations u).address Request

-- the unit at this place is on, and has sent nothing, and never claims or holds what it held; or its claim; or a request and its claim
pub record IsReporting (plan : Plan) (w new : World) (added : List Sent) : Type 0 where
  pub unit : ℕ
  pub known : is_unit plan unit ≡ true
  pub on : (new.stations unit).on ≡ true
  pub others : (x : ℕ) → x ≢ unit → new.stations x ≡ w.stations x
  pub said : ((added ≡ []) × ((claims_at plan unit ≡ false)
      ⊎ (((w.stations unit).on ≡ true) × ((new.stations unit).address ≡ (w.stations unit).address))))
      ⊎ ((claims_at plan unit ≡ true) × ((added ≡ claim_frame plan new unit ∷ [])
      ⊎ ((added ≡ request_frame plan new unit ∷ claim_frame plan new unit ∷ []) × (new.stations ≡ w.stations))))

-- ---- frames of messages

-- these are on and hold this address; all are at the global one
abbrev pub IsHeldBy : World → To → ℕ → Type 0
IsHeldBy w All d = d ≡ global_address
IsHeldBy w (One v) d = ((w.stations v).on ≡ true) × ((w.stations v).address ≡ Some d)

-- the bytes are a message of the planned flow at this place, between these addresses
pub record IsMessageOf (plan : Plan) (w : World) (d s k : ℕ) (flow : Flow) (bytes : List ℕ) : Type 0 where
  pub flow_is : slice_get (flows_of plan) k ≡ Some flow
  pub on : (w.stations flow.sender).on ≡ true
  pub held : (w.stations flow.sender).address ≡ Some s
  pub goes : IsHeldBy w flow.to d
  pub allowed : has_length flow (length bytes) ≡ true
  pub selected : is_selected flow.when bytes ≡ true

-- a transport packet that announces nothing; or a message of a planned flow, or its announcement
abbrev pub IsOfMessages : Plan → World → Sent → Type 0
IsOfMessages plan w x = (d : ℕ) × (s : ℕ) × (d < 256) × (s < 256) × (((p : Packet) × IsNoAnnouncement p × (x ≡ packet_frame d s p))
    ⊎ ((k : ℕ) × (flow : Flow) × (bytes : List ℕ) × IsMessageOf plan w d s k flow bytes
    × ((x ≡ short_frame d s flow bytes) ⊎ (x ≡ packet_frame d s (sender.announcement (dest_of flow.to) flow.pgn (length bytes))))))

-- a unit that is on is what it was
pub record IsSending (plan : Plan) (w new : World) (added : List Sent) : Type 0 where
  pub stations : (x : ℕ) → (new.stations x).on ≡ true → new.stations x ≡ w.stations x
  pub frames : AllByRecursion (IsOfMessages plan w) added

abbrev pub IsOneStep : Plan → World → World → Type 0
IsOneStep plan w new =
    (added : List Sent) × (new.frames ≡ w.frames ++ added) × (IsReporting plan w new added ⊎ IsSending plan w new added)

-- ---- each step

module _ (plan : Plan) (w : World) (standing : AreStanding plan w.stations w.claims) where
  abbrev planned : ℕ → PlannedUnit
  planned u = unit_at (units_of plan) u

  below : (u : ℕ) → address_of w.stations u < 256
  below u = source_below (w.stations u) (standing.1 u)

  below_to : (to : To) → destination_of w.stations to < 256
  below_to All = omega arith
  below_to (One v) = below v

  -- none is sent
  quiet : (new : World) → new.frames ≡ w.frames → ((x : ℕ) → (new.stations x).on ≡ true → new.stations x ≡ w.stations x) → IsOneStep plan w new
  quiet new frames stations = ([], frames ∙ sym (append-nil w.frames), inr (record { stations = stations; frames = tt }))

  up : (u : ℕ) → is_unit plan u ≡ true → IsOneStep plan w (switched_on (units_of plan) w u)
  up u known =
      let new : World = switched_on (units_of plan) w u in
      let now : Stations = changed w.stations u (started (planned u)) in
      let here : now u ≡ started (planned u) = changed_here w.stations u (started (planned u)) in
      let held : (now u).address ≡ Some (planned u).preferred = ap (λ (s : ClaimState). s.address) here in
      let frame : Item → Sent = frame_of (name_at plan u) (now u).address in (
        map frame (first_items (planned u)),
        refl,
        inl (record {
          unit = u;
          known = known;
          on = ap (λ (s : ClaimState). s.on) here;
          others = λ x other. changed_elsewhere w.stations u (started (planned u)) x other;
          said = elim (cases_Bool (claims_at plan u)) [
            | inl claims ↦
                inr (
                  claims,
                  inl (ap (map frame) (first_said (planned u) claims)
                      ∙ ap (λ (o : Option ℕ). frame (AddressClaimed (claim_of o)) ∷ []) (sym held)),
                )
            | inr silent ↦ inl (ap (map frame) (first_silent (planned u) silent), inl silent)
          ];
        }),
      )

  ask : (u : ℕ) → is_unit plan u ≡ true → (w.stations u).on ≡ true → IsOneStep plan w (asked (units_of plan) w u)
  ask u known on =
      let held : Option ℕ = (w.stations u).address in
      let frame : Item → Sent = frame_of (name_at plan u) held in (
        map frame (asking_items (said_by (planned u) (claim_of held))),
        refl,
        inl (record {
          unit = u;
          known = known;
          on = on;
          others = λ x other. refl;
          said = elim (cases_Bool (claims_at plan u)) [
            | inl claims ↦ inr (claims, inr (ap (map frame) (asking_said (planned u) (claim_of held) claims), refl))
            | inr silent ↦ inl (ap (map frame) (asking_silent (planned u) (claim_of held) silent), inl silent)
          ];
        }),
      )

  give : (u v : ℕ) → is_unit plan v ≡ true → (w.stations v).on ≡ true → (list : List Item) (new : World) → GivenFrom (units_of plan) w u v list new
      → IsOneStep plan w new
  give u v known on [] new never = absurd never
  give u v known on (item ∷ rest) new (says, s, reacts, e) =
      let now : Stations = changed w.stations v s in
      let here : now v ≡ s = changed_here w.stations v s in
      let held : (now v).address ≡ s.address = ap (λ (c : ClaimState). c.address) here in
      let frame : Item → Sent = frame_of (name_at plan v) (now v).address in
      subst (IsOneStep plan w) (sym e) (
        map frame (answer_items says),
        refl,
        inl (record {
          unit = v;
          known = known;
          on = ap (λ (c : ClaimState). c.on) here ∙ reacts_on (planned v) (w.stations v) (name_at plan u) item says s reacts ∙ on;
          others = λ x other. changed_elsewhere w.stations v s x other;
          said = elim (cases_Bool (claims_at plan v)) [
            | inl claims ↦ elim (turn (planned v) (w.stations v) (name_at plan u) item says s (MatchBool-at_true _ _ claims reacts)) [
              | inl silent ↦ inl (ap (λ (o : Option Say). map frame (answer_items o)) silent.0, inr (on, held ∙ silent.1))
              | inr said ↦
                  inr (
                    claims,
                    inl (ap (λ (o : Option Say). map frame (answer_items o)) said.0
                        ∙ ap (λ (o : Option ℕ). frame (AddressClaimed (claim_of o)) ∷ []) (sym held)),
                  )
            ]
            | inr silent ↦
                let nothing = MatchBool-at_false _ _ silent reacts in
                inl (ap (λ (o : Option Say). map frame (answer_items o)) nothing.0, inl silent)
          ];
        }),
      )

  packets : (d s : ℕ) → d < 256 → s < 256 → (ps : List Packet) → AllByRecursion IsNoAnnouncement ps
      → AllByRecursion (IsOfMessages plan w) (map (packet_frame d s) ps)
  packets d s less_d less_s [] plain = tt
  packets d s less_d less_s (p ∷ ps) plain = ((d, s, less_d, less_s, inl (p, plain.0, refl)), packets d s less_d less_s ps plain.1)

  -- answers announce nothing
  both_plain : (ps qs : List Packet) → AllByRecursion IsNoAnnouncement ps → AllByRecursion IsNoAnnouncement qs → AllByRecursion IsNoAnnouncement (ps ++ qs)
  both_plain [] qs a b = b
  both_plain (p ∷ ps) qs a b = (a.0, both_plain ps qs a.1 b)

  aside_plain : (p : Packet) → IsAside p → IsNoAnnouncement p
  aside_plain p aside = answers_announce_nothing p (aside_answer p aside)

  quiet_plain : (h : Heard) → HoldsNothing h → AllByRecursion IsNoAnnouncement (receiver_replies h)
  quiet_plain heards.Nothing quiet = tt
  quiet_plain heards.Closed quiet = tt
  quiet_plain heards.Complete never = absurd never
  quiet_plain (heards.Reply p) quiet = (aside_plain p quiet, tt)
  quiet_plain (heards.CompleteReply p) never = absurd never

  reported_plain : (h : Heard) → ReportsMessage h → AllByRecursion IsNoAnnouncement (receiver_replies h)
  reported_plain heards.Nothing never = absurd never
  reported_plain heards.Closed never = absurd never
  reported_plain heards.Complete stated = tt
  reported_plain (heards.Reply p) never = absurd never
  reported_plain (heards.CompleteReply p) stated = (answers_announce_nothing p stated, tt)

  heard_plain : (u v : ℕ) (p : Packet) → AllByRecursion IsNoAnnouncement (receiver_replies (hearing (windows_of plan) w u v p).1)
  heard_plain u v p = elim (hears_stated (window_at (windows_of plan) v) (w.receivers v u) p) [
    | inl quiet_one ↦ quiet_plain (hearing (windows_of plan) w u v p).1 quiet_one
    | inr stated ↦ reported_plain (hearing (windows_of plan) w u v p).1 stated.0
  ]

  reply_plain : (r : Reaction) → RepliesAside r → AllByRecursion IsNoAnnouncement (sender_replies r)
  reply_plain reactions.Nothing aside = tt
  reply_plain reactions.Go aside = tt
  reply_plain reactions.Ended aside = tt
  reply_plain (reactions.Reply p) aside = (aside_plain p aside, tt)

  reacts_plain : (o : Option Outgoing) (u : ℕ) (p : Packet) → AllByRecursion IsNoAnnouncement (sender_replies (reaction_of o u p))
  reacts_plain None u p = tt
  reacts_plain (Some s) u p =
      cond_both (is_among s.targets u) (sender.stage_hears (dest_of s.to) s.pgn (length s.bytes) s.stage p) (s.stage, reactions.Nothing)
      (λ (x : Stage × Reaction). AllByRecursion IsNoAnnouncement (sender_replies x.1))
      (λ _. reply_plain (sender.stage_hears (dest_of s.to) s.pgn (length s.bytes) s.stage p).1 (sender_aside (dest_of s.to) s.pgn (length s.bytes) s.stage p))
      (λ _. tt)

  late_plain : (o : Option Packet) → IfSome o IsAside → AllByRecursion IsNoAnnouncement (packets_in o)
  late_plain None is = tt
  late_plain (Some p) aside = (aside_plain p aside, tt)

  emitted_plain : (bytes : List ℕ) (stage : Stage) (p : Packet) → sender.data_next bytes stage ≡ Some p → IsNoAnnouncement p
  emitted_plain bytes (Sending next last) p e = subst IsNoAnnouncement (same_Some (Dt next (chunk bytes next)) p e) tt
  emitted_plain bytes Waiting p e = absurd (none-some p e)
  emitted_plain bytes (Resting outcome) p e = absurd (none-some p e)

  given_up_plain : (pgn : ℕ) (stage : Stage) (p : Packet) → sender.timeout_packet pgn stage ≡ Some p → IsNoAnnouncement p
  given_up_plain pgn Waiting p e = subst IsNoAnnouncement (same_Some (Abort timeout pgn) p e) tt
  given_up_plain pgn (Sending next last) p e = absurd (none-some p e)
  given_up_plain pgn (Resting outcome) p e = absurd (none-some p e)

  -- frames are sent, and no station changes
  sends : (new : World) (added : List Sent) → new.frames ≡ w.frames ++ added → new.stations ≡ w.stations → AllByRecursion (IsOfMessages plan w) added
      → IsOneStep plan w new
  sends new added frames stations all =
      (added, frames, inr (record { stations = λ x _. ap (λ (f : Stations). f x) stations; frames = all }))

  -- a message that is allowed is between those that hold its addresses
  holds_at : (u : ℕ) → IsHolding w.stations u → ((w.stations u).on ≡ true) × ((w.stations u).address ≡ Some (address_of w.stations u))
  holds_at u (on, (a, address)) = (on, address ∙ ap Some (sym (ap source_of address)))

  goes_to : (to : To) → IsForHolding w.stations to → IsHeldBy w to (destination_of w.stations to)
  goes_to All for = refl
  goes_to (One v) for = holds_at v for

  of_flow : (k : ℕ) (flow : Flow) (bytes : List ℕ) → slice_get (flows_of plan) k ≡ Some flow → at_ends (is_on w.stations) flow.sender flow.to ≡ true
      → at_ends (has_address w.stations) flow.sender flow.to ≡ true → has_length flow (length bytes) ≡ true → is_selected flow.when bytes ≡ true
      → IsMessageOf plan w (destination_of w.stations flow.to) (address_of w.stations flow.sender) k flow bytes
  of_flow k flow bytes is on address long taken =
      let ends = begin_ends w.stations flow.sender flow.to on address in
      let held = holds_at flow.sender ends.0 in
      record { flow_is = is; on = held.0; held = held.1; goes = goes_to flow.to ends.1; allowed = long; selected = taken }

  begin : (k : ℕ) (bytes : List ℕ) (o : Option Flow) → slice_get (flows_of plan) k ≡ o → begin_refusal plan.live (count_of plan) w o bytes ≡ None
      → (new : World) → BeginsAt (count_of plan) w k o bytes new → IsOneStep plan w new
  begin k bytes None is allowed new never = absurd never
  begin k bytes (Some flow) is allowed new e =
      let (sendable, (on, (heard, (address, (free, (long, (taken, rest))))))) = none_hold
      (begin_refusals plan.live (count_of plan) w (Some flow) bytes) allowed in
      let of = of_flow k flow bytes is (not-false _ on) (not-false _ address) (not-false _ long) (not-false _ taken) in
      let d : ℕ = destination_of w.stations flow.to in
      let s : ℕ = address_of w.stations flow.sender in
      let p : Packet = sender.announcement (dest_of flow.to) flow.pgn (length bytes) in
      sends new (first_frame w.stations flow bytes ∷ []) (ap (λ (x : World). x.frames) e) (ap (λ (x : World). x.stations) e) (
        cond_both (is_short (length bytes)) (short_frame d s flow bytes) (packet_frame d s p) (IsOfMessages plan w)
            (λ _. (d, s, below_to flow.to, below flow.sender, inr (k, flow, bytes, of, inl refl)))
            (λ _. (d, s, below_to flow.to, below flow.sender, inr (k, flow, bytes, of, inr refl))),
        tt,
      )

  send : (k : ℕ) (bytes : List ℕ) (o : Option Flow) → slice_get (flows_of plan) k ≡ o → send_refusal plan.live (count_of plan) w o bytes ≡ None
      → (new : World) → SendsAt (count_of plan) w k o bytes new → IsOneStep plan w new
  send k bytes None is allowed new never = absurd never
  send k bytes (Some flow) is allowed new e =
      let (sendable, (on, (heard, (address, (free, (long, (taken, rest))))))) = none_hold
      (send_refusals plan.live (count_of plan) w (Some flow) bytes) allowed in
      let lengths = and_parts (has_length flow (length bytes)) (is_short (length bytes)) (not-false _ long) in
      let of = of_flow k flow bytes is (not-false _ on) (not-false _ address) lengths.0 (not-false _ taken) in
      let d : ℕ = destination_of w.stations flow.to in
      let s : ℕ = address_of w.stations flow.sender in
      sends new (short_frame d s flow bytes ∷ []) (ap (λ (x : World). x.frames) e) (ap (λ (x : World). x.stations) e)
      ((d, s, below_to flow.to, below flow.sender, inr (k, flow, bytes, of, inl refl)), tt)

  same_stations : (new : World) → new.stations ≡ w.stations → (x : ℕ) → (new.stations x).on ≡ true → new.stations x ≡ w.stations x
  same_stations new stations x on = ap (λ (f : Stations). f x) stations

  take : (u v : ℕ) (list : List Wired) (new : World) → TakenFrom (windows_of plan) w u v list new → IsOneStep plan w new
  take u v [] new never = absurd never
  take u v (wired.Short bytes ∷ rest) new e =
      quiet new (ap (λ (x : World). x.frames) e) (same_stations new (ap (λ (x : World). x.stations) e))
  take u v (wired.Alone k bytes ∷ rest) new e =
      quiet new (ap (λ (x : World). x.frames) e) (same_stations new (ap (λ (x : World). x.stations) e))
  take u v (wired.Packet p ∷ rest) new (reports, reported, e) =
      let answers : List Packet = receiver_replies (hearing (windows_of plan) w u v p).1 in
      let replies : List Packet = sender_replies (reaction_of (w.sessions v) u p) in
      sends new (map (packet_frame (address_of w.stations u) (address_of w.stations v)) (answers ++ replies)) (ap (λ (x : World). x.frames) e)
      (ap (λ (x : World). x.stations) e)
      (packets (address_of w.stations u) (address_of w.stations v) (below u) (below v) (answers ++ replies)
      (both_plain answers replies (heard_plain u v p) (reacts_plain (w.sessions v) u p)))

  lose : (u v : ℕ) (list : List Wired) (new : World) → LostFrom w u v list new → IsOneStep plan w new
  lose u v [] new never = absurd never
  lose u v (item ∷ rest) new e = quiet new (ap (λ (x : World). x.frames) e) (same_stations new (ap (λ (x : World). x.stations) e))

  down : (u : ℕ) → IsOneStep plan w (switched_off w u)
  down u = quiet (switched_off w u) refl (λ x on. elim (cases_eq x u) [
    | inr other ↦ changed_elsewhere w.stations u off x other
    | inl same ↦
        let here : (changed w.stations u off x).on ≡ false =
        ap (λ (k : ℕ). (changed w.stations u off k).on) same ∙ ap (λ (s : ClaimState). s.on) (changed_here w.stations u off) in
        absurd (true≢false (sym on ∙ here))
  ])

  pub one_step : (step : Step) → refusal plan w step ≡ None → (new : World) → StepsTo plan w step new → IsOneStep plan w new
  one_step (Up u) allowed new e =
      let (known, more) = none_refuses plan w (Up u) allowed in
      subst (IsOneStep plan w) (sym e) (up u (not-false _ known))
  one_step (Down u) allowed new e = subst (IsOneStep plan w) (sym e) (down u)
  one_step (Give u v) allowed new leads =
      let (known, (on, more)) = none_refuses plan w (Give u v) allowed in
      give u v (units_known plan u v known).1 (not-false _ on) (w.claims u v) new leads
  one_step (Ask u) allowed new e =
      let (known, (on, more)) = none_refuses plan w (Ask u) allowed in
      subst (IsOneStep plan w) (sym e) (ask u (not-false _ known) (not-false _ on))
  one_step (Begin k bytes) allowed new leads = begin k bytes.items (slice_get (flows_of plan) k) refl allowed new leads
  one_step (Send k bytes) allowed new leads = send k bytes.items (slice_get (flows_of plan) k) refl allowed new leads
  one_step (Emit u) allowed new (s, p, session, next, e) =
      sends new (packet_frame (destination_of w.stations s.to) (address_of w.stations u) p ∷ []) (ap (λ (x : World). x.frames) e)
      (ap (λ (x : World). x.stations) e)
      ((destination_of w.stations s.to, address_of w.stations u, below_to s.to, below u, inl (p, emitted_plain s.bytes s.stage p next, refl)), tt)
  one_step (Take u v) allowed new leads = take u v (w.wire u v) new leads
  one_step (Lose u v) allowed new leads = lose u v (w.wire u v) new leads
  one_step (LateSender u) allowed new (s, p, session, packet, e) =
      sends new (packet_frame (destination_of w.stations s.to) (address_of w.stations u) p ∷ []) (ap (λ (x : World). x.frames) e)
      (ap (λ (x : World). x.stations) e)
      ((destination_of w.stations s.to, address_of w.stations u, below_to s.to, below u, inl (p, given_up_plain s.pgn s.stage p packet, refl)), tt)
  one_step (LateReceiver u v) allowed new e =
      let late : Option Packet = (receiver.timed_out (Answering (window_at (windows_of plan) v)) (w.receivers v u)).1 in
      sends new (map (packet_frame (address_of w.stations u) (address_of w.stations v)) (packets_in late)) (ap (λ (x : World). x.frames) e)
      (ap (λ (x : World). x.stations) e)
      (packets (address_of w.stations u) (address_of w.stations v) (below u) (below v) (packets_in late)
      (late_plain late (timed_out_aside (window_at (windows_of plan) v) (w.receivers v u))))
  one_step (Rest u) allowed new e = quiet new (ap (λ (x : World). x.frames) e) (same_stations new (ap (λ (x : World). x.stations) e))
