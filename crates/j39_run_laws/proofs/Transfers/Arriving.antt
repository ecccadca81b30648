-- In each world of a run a message that no receiver answers, and that is begun there, arrives where nothing of it is lost.
use Rattle.std.proofs.Common.{◌≡◌, ℕ, suc, ◌<◌, ◌⊎◌, inl, inr, true, false, ◌&&◌, eqb, List, [], ◌∷◌, ◌++◌, length, refl, sym, ap, ◌∙◌, subst, arith}
use Rattle.std.proofs.Common.{Option, Some, None}
use Rattle.std.specs.Bool.{MatchBool}
use Rattle.std.specs.Prelude.{slice_get}
use Rattle.std.specs.Option.{is_some}
use Rattle.std.proofs.lemmas.Bool.{and_from, cases_Bool, cond-true, cond-false, eq-eqb, leb-false, true≢false}
use Rattle.j39_tp.specs.Chunks.{packets_of}
use Rattle.j39_tp.specs.Sender as sender
use Rattle.j39_tp.specs.declared.sending.outcome.Outcome.TheVariants.{Sent}
use Rattle.j39_tp.specs.declared.sending.stage.Stage.{Stage}
use Rattle.j39_tp.specs.declared.sending.stage.Stage.TheVariants.{Sending, Waiting, Resting}
use Rattle.j39_network.specs.declared.plan.Plan.{Plan}
use Rattle.j39_network.specs.declared.plan.to.To.{To}
use Rattle.j39_network.specs.declared.plan.to.To.TheVariants as tos
use Rattle.j39_network.specs.declared.steps.Step.{Step}
use Rattle.j39_network.specs.declared.steps.Step.TheVariants.{Up, Down, Give, Ask, Begin, Send, Emit, Take, Lose, LateSender, LateReceiver, Rest}
use Rattle.j39_world.proofs.Refusals.{none_hold}
use Rattle.j39_world.specs.declared.flow.Flow.{Flow}
use Rattle.j39_world.specs.declared.step_error.StepError.{StepError}
use Rattle.j39_world.specs.declared.wired.Wired.{Wired}
use Rattle.j39_world.specs.declared.wired.Wired.TheVariants as wired
use Rattle.j39_world.specs.Arriving.{IsUnanswered, Spares, RunSparing, IsThrough, HasArrived, ArrivesUnanswered}
use Rattle.j39_claim.specs.declared.item.Item.{Item}
use Rattle.j39_world.specs.ClaimSteps.{GivenFrom, asked, heard_and_answered, switched_on}
use Rattle.j39_network.specs.PlannedUnits.{units_of}
use Rattle.j39_world.specs.Flows.{flows_of, windows_of, dest_of}
use Rattle.j39_world.specs.Run.{count_of, begin_refusal, begin_refusals, refusal, StepsTo, Follows}
use Rattle.j39_world.specs.Sound.{reported}
use Rattle.j39_world.specs.SoundPlan.{Always}
use Rattle.j39_world.specs.Transfers.{Outgoing, Begun, is_among}
use Rattle.j39_world.specs.TransferSteps.{outgoing, first_item, begins}
use Rattle.j39_world.specs.World.{World}
use Rattle.j39_run_laws.proofs.Reports.Exchanges.{pair_of, message_to, IsIdle, Exchange}
use Rattle.j39_run_laws.proofs.Reports.SenderSteps.{no_session}
use Rattle.j39_run_laws.proofs.Runs.Changed.{changed_here}
use Rattle.j39_run_laws.proofs.Runs.Conditions.{none_refuses, not_refused}
use Rattle.j39_run_laws.proofs.Transfers.AccountedSteps.{IsKept, all_kept, keeps, begin_kept, wire_same}
use Rattle.j39_run_laws.proofs.Transfers.Coming as coming
use Rattle.j39_run_laws.proofs.Transfers.Coming.{at_stage, IsComing}
use Rattle.j39_run_laws.proofs.Transfers.ComingTaken as taken
use Rattle.j39_run_laws.proofs.Transfers.Ending.{item_ready, emit_allowed}
use Rattle.j39_run_laws.proofs.Transfers.Flights.{is_whole, packet_count, item_count, IsItem, InFlight, flight_begun, HasSent, HasTaken, IsUnderWay}
use Rattle.j39_run_laws.proofs.Transfers.Flights.{all_reported}

module _ (plan : Plan) (u : ℕ) (o : Outgoing) (meant : List ℕ) (before : ℕ → List Begun) (unanswered : (o.to ≡ tos.All) ⊎ (is_whole o ≡ true)) where
  abbrev Coming : World → Type 0
  Coming w = IsComing plan u o meant before unanswered w

  -- ---- steps that spare it

  module _ (w : World) (kept : IsKept plan w) (c : Coming w) where
    -- a unit is switched on, or hears what another one sent
    up_keeps : (x : ℕ) → (w.stations x).on ≡ false → Coming (switched_on (units_of plan) w x)
    up_keeps x off_is = coming.stated_keeps plan u o meant before unanswered w kept.transfers kept.accounted c (switched_on (units_of plan) w x) refl
        (wire_same plan w kept.transfers kept.accounted x off_is) refl refl

    give_keeps : (x y : ℕ) (list : List Item) (new : World) → GivenFrom (units_of plan) w x y list new → Coming new
    give_keeps x y [] new never = absurd never
    give_keeps x y (item ∷ rest) new (says, s, reacts, e) = subst Coming (sym e)
        (coming.stated_keeps plan u o meant before unanswered w kept.transfers kept.accounted c (heard_and_answered (units_of plan) w x y rest says s)
        refl refl refl refl)

    step_keeps : (step : Step) → Spares plan w u meant step → refusal plan w step ≡ None → (new : World) → StepsTo plan w step new → Coming new
    step_keeps (Up v) spares allowed new e =
        let (known, (off_is, more)) = none_refuses plan w (Up v) allowed in
        subst Coming (sym e) (up_keeps v off_is)
    step_keeps (Down v) spares allowed new e =
        let apart = spares allowed in
        subst Coming (sym e) (coming.off_keeps plan u o meant before unanswered w kept.transfers kept.accounted c v apart.0 apart.1)
    step_keeps (Ask v) spares allowed new e =
        subst Coming (sym e)
        (coming.stated_keeps plan u o meant before unanswered w kept.transfers kept.accounted c (asked (units_of plan) w v) refl refl refl refl)
    step_keeps (Give x y) spares allowed new leads = give_keeps x y (w.claims x y) new leads
    step_keeps (Begin f bytes) spares allowed new leads =
        coming.begin_keeps plan u o meant before unanswered w kept.transfers kept.accounted c f (slice_get (flows_of plan) f) bytes.items allowed new leads
    step_keeps (Send f bytes) spares allowed new leads =
        coming.send_keeps plan u o meant before unanswered w kept.transfers kept.accounted c f (slice_get (flows_of plan) f) bytes.items new leads
    step_keeps (Emit s) spares allowed new leads = coming.emit_keeps plan u o meant before unanswered w kept.transfers kept.accounted c s new leads
    step_keeps (Take x y) spares allowed new leads =
        taken.take_keeps plan u o meant before unanswered w kept.transfers c (windows_of plan) x y (w.wire x y) refl new leads
    step_keeps (Lose x y) spares allowed new leads = taken.lose_keeps plan u o meant before unanswered w kept.transfers c x y spares (w.wire x y) refl new leads
    step_keeps (LateSender s) spares allowed new leads = coming.late_keeps plan u o meant before unanswered w kept.transfers kept.accounted c s new leads
    step_keeps (LateReceiver x y) spares allowed new e =
        subst Coming (sym e) (taken.late_receiver_keeps plan u o meant before unanswered w kept.transfers c (windows_of plan) x y spares)
    step_keeps (Rest s) spares allowed new e = subst Coming (sym e)
        (coming.rest_keeps plan u o meant before unanswered w kept.transfers kept.accounted c s spares)

    -- a world that follows, by a step that is refused or not
    next_keeps : (step : Step) → Spares plan w u meant step → (new : World) → Follows plan w step new → IsKept plan new × Coming new
    next_keeps step spares new =
        elim (refusal plan w step)
        as (λ (x : Option StepError). refusal plan w step ≡ x → MatchBool (is_some x) (new ≡ w) (StepsTo plan w step new) → IsKept plan new × Coming new) [
          | Some e ↦ λ _ same. (subst (IsKept plan) (sym same) kept, subst Coming (sym same) c)
          | None ↦ λ allowed leads. (keeps plan w kept step allowed new leads, step_keeps step spares allowed new leads)
        ] refl

  run_keeps : (steps : List Step) (w new : World) → IsKept plan w → Coming w → RunSparing plan u meant w steps new → IsKept plan new × Coming new
  run_keeps [] w new kept c same = (subst (IsKept plan) (sym same) kept, subst Coming (sym same) c)
  run_keeps (step ∷ steps) w new kept c (spares, (mid, follows, more)) =
      let next = next_keeps w kept c step spares mid follows in
      run_keeps steps mid new next.0 next.1 more

  -- ---- nothing is left of it

  module _ (w : World) (kept : IsKept plan w) (c : Coming w) (through : IsThrough plan w u meant) where
    rests : (stage : Stage) → c.stage ≡ stage → stage ≡ Resting Sent
    rests (Sending next last) is =
        let session : w.sessions u ≡ Some (at_stage plan u o meant before unanswered c.targets (Sending next last)) =
        c.session ∙ ap (λ (st : Stage). Some (at_stage plan u o meant before unanswered c.targets st)) is in
        absurd (through.sent (emit_allowed plan w kept u (at_stage plan u o meant before unanswered c.targets (Sending next last)) session next last refl))
    rests Waiting is = absurd (subst (λ (st : Stage). HasSent o st c.sent) is c.sends)
    rests (Resting outcome) is =
        let sends : HasSent o (Resting outcome) c.sent = subst (λ (st : Stage). HasSent o st c.sent) is c.sends in ap Resting sends.0

    rests_sent : c.stage ≡ Resting Sent
    rests_sent = rests c.stage refl

    nothing_left : (v : ℕ) → is_among meant v ≡ true → (list : List Wired) → w.wire u v ≡ list → (taken : ℕ) → InFlight o list taken c.sent → taken ≡ c.sent
    nothing_left v among [] is taken flight = flight
    nothing_left v among (item ∷ rest) is taken flight =
        absurd (through.taken v among (not_refused plan w (Take u v) (item_ready plan w kept u v (record { item = item; rest = rest; is = is }))))

    reported_once : (v : ℕ) → is_among meant v ≡ true → reported w.reports v u ≡ before v ++ record { flow = o.flow; bytes = o.bytes } ∷ []
    reported_once v among =
        let way = c.ways v among in
        let all : way.taken ≡ c.sent = nothing_left v among (w.wire u v) refl way.taken way.flight in
        all_reported o c.stage c.sent (w.receivers v u) (reported w.reports v u) (before v) c.sends rests_sent
        (subst (λ k. HasTaken o (w.receivers v u) k (reported w.reports v u) (before v)) all way.receiver)

-- ---- it is begun

module _ (plan : Plan) (w : World) (kept : IsKept plan w) (f : ℕ) (flow : Flow) (bytes : List ℕ) (unanswered : IsUnanswered flow bytes)
    (allowed : begin_refusal plan.live (count_of plan) w (Some flow) bytes ≡ None) where
  abbrev message : Outgoing
  message = outgoing (count_of plan) w.stations f flow bytes

  abbrev begun : World
  begun = begins (count_of plan) w f flow bytes

  abbrev earlier : ℕ → List Begun
  earlier v = reported w.reports v flow.sender

  idle : w.sessions flow.sender ≡ None
  idle =
      let (sendable, (on, (stated, (addressed, (free, rest))))) = none_hold (begin_refusals plan.live (count_of plan) w (Some flow) bytes) allowed in
      no_session (w.sessions flow.sender) free

  to_all : is_whole message ≡ false → flow.to ≡ tos.All
  to_all long = elim unanswered [ inl all ↦ all | inr whole ↦ absurd (true≢false (sym whole ∙ long)) ]

  sent_whole : is_whole message ≡ true → HasSent message message.stage 1 × IsItem message 0 (first_item flow bytes)
  sent_whole whole =
      let stage : message.stage ≡ Resting Sent = cond-true (is_whole message) (Resting Sent) (sender.begun (dest_of flow.to) (length bytes)) whole in
      let count : item_count message ≡ 1 = cond-true (is_whole message) 1 (suc (packet_count message)) whole in (
        subst (λ (st : Stage). HasSent message st 1) (sym stage) (refl, sym count),
        inl (whole, cond-true (is_whole message) (wired.Short bytes) (wired.Packet (sender.announcement (dest_of flow.to) flow.pgn (length bytes))) whole),
      )

  sent_long : is_whole message ≡ false → HasSent message message.stage 1 × IsItem message 0 (first_item flow bytes)
  sent_long long =
      let above : 8 < length bytes = leb-false (length bytes) 8 long in
      let stage : message.stage ≡ sender.begun (dest_of flow.to) (length bytes) =
      cond-false (is_whole message) (Resting Sent) (sender.begun (dest_of flow.to) (length bytes)) long in
      let all : sender.begun (dest_of flow.to) (length bytes) ≡ Sending 1 (packets_of (length bytes)) =
      ap (λ (to : To). sender.begun (dest_of to) (length bytes)) (to_all long) in
      let item = cond-false (is_whole message) (wired.Short bytes) (wired.Packet (sender.announcement (dest_of flow.to) flow.pgn (length bytes))) long in (
        subst (λ (st : Stage). HasSent message st 1) (sym (stage ∙ all)) (long, refl, refl, omega arith, omega (arith, above)),
        inr (long, item ∙ ap (λ (to : To). wired.Packet (sender.announcement (dest_of to) flow.pgn (length bytes))) (to_all long)),
      )

  sent_first : HasSent message message.stage 1 × IsItem message 0 (first_item flow bytes)
  sent_first = elim (cases_Bool (is_whole message)) [ inl whole ↦ sent_whole whole | inr long ↦ sent_long long ]

  way_begun : (v : ℕ) → is_among message.targets v ≡ true
      → IsUnderWay message 1 (begun.wire flow.sender v) (begun.receivers v flow.sender) (reported begun.reports v flow.sender) (earlier v)
  way_begun v among =
      let old : IsIdle (pair_of w flow.sender v) =
      subst (λ (x : Option Outgoing). Exchange (message_to x v) (pair_of w flow.sender v)) idle (kept.transfers.exchanges flow.sender v) in
      let list : begun.wire flow.sender v ≡ w.wire flow.sender v ++ first_item flow bytes ∷ [] =
      cond-true (eqb flow.sender flow.sender && is_among message.targets v) (w.wire flow.sender v ++ first_item flow bytes ∷ []) (w.wire flow.sender v)
      (and_from (eqb flow.sender flow.sender) (is_among message.targets v) (eq-eqb flow.sender flow.sender refl) among) in
      record {
        taken = 0;
        flight = subst (λ (xs : List Wired). InFlight message xs 0 1) (sym list)
            (flight_begun message (w.wire flow.sender v) (first_item flow bytes) old.wire sent_first.1);
        receiver = inl (record { none = refl; closed = old.closed; same = refl });
      }

  -- of its receivers these are meant
  module _ (meant : List ℕ) (some : (v : ℕ) → is_among meant v ≡ true → is_among message.targets v ≡ true) where
    begun_comes : IsComing plan flow.sender message meant earlier unanswered begun
    begun_comes = record {
      targets = message.targets;
      stage = message.stage;
      sent = 1;
      session = changed_here w.sessions flow.sender (Some message);
      still = some;
      sends = sent_first.0;
      ways = λ v among. way_begun v (some v among);
    }

    begun_kept : IsKept plan begun
    begun_kept = begin_kept plan w kept f flow bytes allowed

    has_arrived : (steps : List Step) (after : World) → RunSparing plan flow.sender meant begun steps after
        → IsThrough plan after flow.sender meant → HasArrived w after flow.sender message meant Sent
    has_arrived steps after run through =
        let (here, c) = run_keeps plan flow.sender message meant earlier unanswered steps begun after begun_kept begun_comes run in
        record {
          rests = (
            at_stage plan flow.sender message meant earlier unanswered c.targets c.stage,
            c.session,
            rests_sent plan flow.sender message meant earlier unanswered after here c through,
          );
          reports = reported_once plan flow.sender message meant earlier unanswered after here c through;
        }

pub arrives_unanswered : (plan : Plan) → Always plan (ArrivesUnanswered plan)
arrives_unanswered plan before w run f flow bytes meant steps after is unanswered allowed some more through =
    has_arrived plan w (all_kept plan before w run) f flow bytes unanswered allowed meant some steps after more through
