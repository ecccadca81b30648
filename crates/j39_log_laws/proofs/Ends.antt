-- Who sends a message is on and holds an address of which no claim is undelivered to it, and so does the unit that it is for alone, until the
-- sender rests; in a plan that isn't live, and in one without findings whose flows have ends that are alone.
use Rattle.std.proofs.Common.{◌≡◌, ◌≢◌, ℕ, true, false, not, ◌&&◌, arith, inl, inr, refl, sym, ap, ◌∙◌, subst, List, [], ◌∷◌, Option, Some, None}
use Rattle.std.specs.Bool.{MatchBool}
use Rattle.std.specs.Option.{is_some}
use Rattle.std.specs.Prelude.{slice_get}
use Rattle.std.proofs.lemmas.Bool.{and_parts, cases_Bool, not-false, true≢false}
use Rattle.std.proofs.lemmas.Option.{same_Some}
use Rattle.std.specs.List.{Contains}
use Rattle.j39_tp.specs.Sender as sender
use Rattle.j39_tp.specs.declared.packet.Packet.{Packet}
use Rattle.j39_network.specs.declared.plan.Plan.{Plan}
use Rattle.j39_network.specs.declared.plan.to.To.{To}
use Rattle.j39_network.specs.declared.plan.to.To.TheVariants.{All, One}
use Rattle.j39_network.specs.declared.steps.Step.{Step}
use Rattle.j39_network.specs.declared.steps.Step.TheVariants.{Up, Down, Give, Ask, Begin, Send, Emit, Take, Lose, LateSender, LateReceiver, Rest}
use Rattle.j39_claim.specs.declared.item.Item.{Item}
use Rattle.j39_claim.specs.declared.item.Item.TheVariants.{AddressClaimed}
use Rattle.j39_claim.specs.declared.item.Say.TheVariants.{Claim}
use Rattle.j39_findings.specs.Findings.{Clean}
use Rattle.j39_claim.specs.ClaimRule.{off, started}
use Rattle.j39_world.proofs.Refusals.{none_hold}
use Rattle.j39_world.specs.declared.flow.Flow.{Flow}
use Rattle.j39_world.specs.declared.step_error.StepError.{StepError}
use Rattle.j39_world.specs.declared.wired.Wired.{Wired}
use Rattle.j39_world.specs.declared.wired.Wired.TheVariants as wired
use Rattle.j39_world.specs.ClaimSteps.{GivenFrom}
use Rattle.j39_world.specs.Flows.{FlowGoes, dest_of, flows_of, windows_of}
use Rattle.j39_network.specs.PlannedUnits.{unit_at, units_of}
use Rattle.j39_world.specs.Run.{Follows, StepsTo, at_ends, begin_refusal, begin_refusals, send_refusal, send_refusals, count_of, has_address}
use Rattle.j39_world.specs.Run.{is_nothing_undelivered, is_on, refusal, Run}
use Rattle.j39_world.specs.LiveEnds.{AreEndsAlone, StandsAlone}
use Rattle.j39_log_laws.specs.KeepsEnds.{KeepsEnds}
use Rattle.j39_network.specs.Staying.{IsAloneThere}
use Rattle.j39_world.specs.SwitchingOff.{session_without}
use Rattle.j39_world.specs.SoundPlan.{Always, IsSending}
use Rattle.j39_world.specs.Transfers.{Outgoing, is_among}
use Rattle.j39_world.specs.TransferSteps.{BeginsAt, SendsAt, LostFrom, TakenFrom, outgoing, session_after}
use Rattle.j39_world.specs.World.{Stations, World, changed, all_off}
use Rattle.j39_run_laws.proofs.Reports.Orderly.{DeliveredBefore, delivered_at}
use Rattle.j39_run_laws.proofs.Runs.Always.{always_with}
use Rattle.j39_run_laws.proofs.Runs.SwitchedOff.{sessions_each}
use Rattle.j39_run_laws.proofs.Addresses.CleanEnds.{clean_ends_alone}
use Rattle.j39_run_laws.proofs.Transfers.LiveEnds.{ends_undisturbed, stays_undisturbed, undisturbed_on}
use Rattle.j39_run_laws.proofs.Transfers.OfFlows.{IsOfFlow, all_of_flows}
use Rattle.j39_run_laws.proofs.Runs.Changed.{changed_each}
use Rattle.j39_run_laws.proofs.Transfers.AccountedSteps.{IsOfClaims, claims_refused}
use Rattle.j39_run_laws.proofs.Transfers.Named.{IsKeptNamed, all_named}
use Rattle.j39_log_laws.specs.Between.{EndsKeepAddresses, IsAnEnd}

-- the unit is on and holds an address
abbrev pub IsHolding : Stations → ℕ → Type 0
IsHolding stations u = ((stations u).on ≡ true) × ((a : ℕ) × ((stations u).address ≡ Some a))

-- whoever it is for alone is so
abbrev pub IsForHolding : Stations → To → Type 0
IsForHolding stations All = Unit {0}
IsForHolding stations (One v) = IsHolding stations v

abbrev AreEndsHolding : Stations → ℕ → Option Outgoing → Type 0
AreEndsHolding stations u None = Unit {0}
AreEndsHolding stations u (Some s) = IsHolding stations u × IsForHolding stations s.to

-- and no claim of that address is undelivered to it
pub record IsEnd (w : World) (u : ℕ) : Type 0 where
  pub holding : IsHolding w.stations u
  pub unclaimed : (v a : ℕ) → (w.stations u).address ≡ Some a → ¬ Contains (w.claims v u) (AddressClaimed (Claim a))

abbrev pub IsFor : World → To → Type 0
IsFor w All = Unit {0}
IsFor w (One v) = IsEnd w v

pub record HasEnds (plan : Plan) (w : World) : Type 0 where
  pub kept : IsKeptNamed plan w
  -- of each message, while it is sent
  pub sender : (u : ℕ) (s : Outgoing) → w.sessions u ≡ Some s → IsEnd w u
  pub receiver : (u v : ℕ) (s : Outgoing) → w.sessions u ≡ Some s → s.to ≡ One v → (plan.live ≡ true → is_among s.targets v ≡ true) → IsEnd w v
  pub flow : (u : ℕ) (s : Outgoing) → w.sessions u ≡ Some s → FlowGoes plan s.flow u s.to
  -- and of each flow by which a message can be begun, or a frame sent alone
  pub can_send : (f : ℕ) (flow : Flow) → slice_get (flows_of plan) f ≡ Some flow → at_ends (is_on w.stations) flow.sender flow.to ≡ true
      → at_ends (has_address w.stations) flow.sender flow.to ≡ true
      → (not plan.live && not (is_nothing_undelivered (count_of plan) w.claims)) ≡ false → IsEnd w flow.sender × IsFor w flow.to

-- ---- a message is begun

address_there : (o : Option ℕ) → is_some o ≡ true → (a : ℕ) × (o ≡ Some a)
address_there None has = absurd (cc has)
address_there (Some a) has = (a, refl)

pub holding : (stations : Stations) (u : ℕ) → is_on stations u ≡ true → has_address stations u ≡ true → IsHolding stations u
holding stations u on has = (on, address_there (stations u).address has)

pub begin_ends : (stations : Stations) (u : ℕ) (to : To) → at_ends (is_on stations) u to ≡ true → at_ends (has_address stations) u to ≡ true
    → IsHolding stations u × IsForHolding stations to
begin_ends stations u All on has = (holding stations u on has, tt)
begin_ends stations u (One v) on has =
    let both_on = and_parts (is_on stations u) (is_on stations v) on in
    let both_has = and_parts (has_address stations u) (has_address stations v) has in
    (holding stations u both_on.0 both_has.0, holding stations v both_on.1 both_has.1)

-- ---- a plan that isn't live

after_heard : (stations : Stations) (v u : ℕ) (p : Packet) (o : Option Outgoing) → AreEndsHolding stations v o → AreEndsHolding stations v (session_after o u p)
after_heard stations v u p None ends = ends
after_heard stations v u p (Some s) ends = ends

module _ (plan : Plan) (quiet : plan.live ≡ false) where
  module _ (w : World) (kept : IsKeptNamed plan w) (old : (u : ℕ) → AreEndsHolding w.stations u (w.sessions u)) where
    -- while a message is sent no unit is switched, and none reports or hears of addresses
    claims_keep : (step : Step) → IsOfClaims step → refusal plan w step ≡ None → (now : Stations) (u : ℕ) (o : Option Outgoing) → w.sessions u ≡ o
        → AreEndsHolding now u o
    claims_keep step of allowed now u None is = tt
    claims_keep step of allowed now u (Some s) is = absurd (claims_refused plan w kept.kept quiet u s is step of allowed)

    session_changed : (u : ℕ) (o : Option Outgoing) → AreEndsHolding w.stations u o → (x : ℕ) → AreEndsHolding w.stations x (changed w.sessions u o x)
    session_changed u o ends = changed_each (AreEndsHolding w.stations) w.sessions u o ends old

    abbrev EndsAfter : World → Type 0
    EndsAfter new = (u : ℕ) → AreEndsHolding new.stations u (new.sessions u)

    gives : (u v : ℕ) → refusal plan w (Give u v) ≡ None → (list : List Item) (new : World) → GivenFrom (units_of plan) w u v list new → EndsAfter new
    gives u v allowed [] new never = absurd never
    gives u v allowed (item ∷ rest) new (says, s, answers, e) =
        subst EndsAfter (sym e) (λ x. claims_keep (Give u v) tt allowed (changed w.stations v s) x (w.sessions x) refl)

    begins_at : (f : ℕ) (o : Option Flow) (bytes : List ℕ) → begin_refusal plan.live (count_of plan) w o bytes ≡ None
        → (new : World) → BeginsAt (count_of plan) w f o bytes new → EndsAfter new
    begins_at f None bytes allowed new never = absurd never
    begins_at f (Some flow) bytes allowed new e =
        let (sendable, (on, (stated, (addressed, (free, rest))))) = none_hold (begin_refusals plan.live (count_of plan) w (Some flow) bytes) allowed in
        subst EndsAfter (sym e)
        (session_changed flow.sender (Some (outgoing (count_of plan) w.stations f flow bytes))
        (begin_ends w.stations flow.sender flow.to (not-false _ on) (not-false _ addressed)))

    sends_at : (f : ℕ) (o : Option Flow) (bytes : List ℕ) (new : World) → SendsAt (count_of plan) w f o bytes new → EndsAfter new
    sends_at f None bytes new never = absurd never
    sends_at f (Some flow) bytes new e = subst EndsAfter (sym e) old

    taken : (u v : ℕ) (list : List Wired) (new : World) → TakenFrom (windows_of plan) w u v list new → EndsAfter new
    taken u v [] new never = absurd never
    taken u v (wired.Short bytes ∷ rest) new e = subst EndsAfter (sym e) old
    taken u v (wired.Packet p ∷ rest) new (reports, reported, e) =
        subst EndsAfter (sym e) (session_changed v (session_after (w.sessions v) u p) (after_heard w.stations v u p (w.sessions v) (old v)))
    taken u v (wired.Alone f bytes ∷ rest) new e = subst EndsAfter (sym e) old

    lost : (u v : ℕ) (list : List Wired) (new : World) → LostFrom w u v list new → EndsAfter new
    lost u v [] new never = absurd never
    lost u v (item ∷ rest) new e = subst EndsAfter (sym e) old

    ends_of : (u : ℕ) (s : Outgoing) → w.sessions u ≡ Some s → AreEndsHolding w.stations u (Some s)
    ends_of u s is = subst (AreEndsHolding w.stations u) is (old u)

    step_ends : (step : Step) → refusal plan w step ≡ None → (new : World) → StepsTo plan w step new → EndsAfter new
    step_ends (Up u) allowed new e = subst EndsAfter (sym e)
        (λ x. claims_keep (Up u) tt allowed (changed w.stations u (started (unit_at (units_of plan) u))) x (w.sessions x) refl)
    step_ends (Down u) allowed new e = subst EndsAfter (sym e) (sessions_each u (AreEndsHolding (changed w.stations u off)) w.sessions tt
        (λ x _. gone x (w.sessions x) refl))
      where
        gone : (x : ℕ) (o : Option Outgoing) → w.sessions x ≡ o → AreEndsHolding (changed w.stations u off) x (session_without u o)
        gone x None is = tt
        gone x (Some s) is = absurd (claims_refused plan w kept.kept quiet x s is (Down u) tt allowed)
    step_ends (Give u v) allowed new leads = gives u v allowed (w.claims u v) new leads
    step_ends (Ask u) allowed new e = subst EndsAfter (sym e) (λ x. claims_keep (Ask u) tt allowed w.stations x (w.sessions x) refl)
    step_ends (Begin f bytes) allowed new leads = begins_at f (slice_get (flows_of plan) f) bytes.items allowed new leads
    step_ends (Send f bytes) allowed new leads = sends_at f (slice_get (flows_of plan) f) bytes.items new leads
    step_ends (Emit u) allowed new (s, p, session, next, e) =
        subst EndsAfter (sym e) (session_changed u (Some (record s { stage = sender.after_packet (dest_of s.to) s.stage })) (ends_of u s session))
    step_ends (Take u v) allowed new leads = taken u v (w.wire u v) new leads
    step_ends (Lose u v) allowed new leads = lost u v (w.wire u v) new leads
    step_ends (LateSender u) allowed new (s, p, session, packet, e) =
        subst EndsAfter (sym e) (session_changed u (Some (record s { stage = sender.after_timeout s.stage })) (ends_of u s session))
    step_ends (LateReceiver u v) allowed new e = subst EndsAfter (sym e) old
    step_ends (Rest u) allowed new e = subst EndsAfter (sym e) (session_changed u None tt)

  all_hold : Always plan (λ w. (u : ℕ) → AreEndsHolding w.stations u (w.sessions u))
  all_hold = always_with plan (IsKeptNamed plan) (λ w. (u : ℕ) → AreEndsHolding w.stations u (w.sessions u)) (all_named plan)
      (λ w kept old step allowed new leads. step_ends w kept old step allowed new leads) (λ u. tt)

  module _ (steps : List Step) (w : World) (run : Run plan all_off steps w) where
    -- where nothing is undelivered who holds an address is an end
    is_end : ((s t : ℕ) → w.claims s t ≡ []) → (u : ℕ) → IsHolding w.stations u → IsEnd w u
    is_end heard u holding =
        record {
          holding = holding;
          unclaimed = λ v a is claim. nothing_there a
              (subst (λ (xs : List Item). Contains xs (AddressClaimed (Claim a))) (heard v u) claim);
        }
      where
        nothing_there : (a : ℕ) → Contains [] (AddressClaimed (Claim a)) → ⊥
        nothing_there a (k, inside, at) = absurd (omega (arith, inside))

    is_for : ((s t : ℕ) → w.claims s t ≡ []) → (to : To) → IsForHolding w.stations to → IsFor w to
    is_for heard All holding = tt
    is_for heard (One v) holding = is_end heard v holding

    at_session : (u : ℕ) (s : Outgoing) → w.sessions u ≡ Some s → AreEndsHolding w.stations u (Some s)
    at_session u s is = subst (AreEndsHolding w.stations u) is (all_hold steps w run u)

    heard_while : (u : ℕ) (s : Outgoing) → w.sessions u ≡ Some s → (x y : ℕ) → w.claims x y ≡ []
    heard_while u s is = subst (DeliveredBefore w.claims) is ((all_named plan steps w run).kept.transfers.order.delivered quiet u)

    quiet_ends : HasEnds plan w
    quiet_ends = record {
      kept = all_named plan steps w run;
      sender = λ u s is. is_end (heard_while u s is) u (at_session u s is).0;
      receiver = λ u v s is one _. is_end (heard_while u s is) v (subst (IsForHolding w.stations) one (at_session u s is).1);
      flow = λ u s is. subst (IsOfFlow plan u) is ((all_of_flows plan steps w run).sessions u);
      can_send = λ f flow planned on addressed stated.
          let order = (all_named plan steps w run).kept.transfers.order in
          let heard = delivered_at plan w.stations w.claims w.sessions order stated quiet in
          let hold = begin_ends w.stations flow.sender flow.to on addressed in
          (is_end heard flow.sender hold.0, is_for heard flow.to hold.1);
    }

-- ---- a plan without findings whose flows have ends that are alone

module _ (plan : Plan) (clean : Clean plan) (alone : AreEndsAlone plan) (steps : List Step) (w : World) (run : Run plan all_off steps w) where
  undisturbed_end : (u : ℕ) → StandsAlone plan w u → IsEnd w u
  undisturbed_end u is = record {
    holding = (is.on, ((unit_at (units_of plan) u).preferred, is.held));
    unclaimed = λ v a at claim. is.unclaimed v
        (subst (λ k. Contains (w.claims v u) (AddressClaimed (Claim k))) (same_Some a (unit_at (units_of plan) u).preferred (sym at ∙ is.held)) claim);
  }

  ends_on : (f : ℕ) (flow : Flow) → slice_get (flows_of plan) f ≡ Some flow → (to : To) → flow.to ≡ to → at_ends (is_on w.stations) flow.sender to ≡ true
      → IsEnd w flow.sender × IsFor w to
  ends_on f flow planned All is on = (undisturbed_end flow.sender (undisturbed_on plan clean steps w run flow.sender (alone f flow planned).0 on), tt)
  ends_on f flow planned (One v) is on =
      let both_on = and_parts (is_on w.stations flow.sender) (is_on w.stations v) on in (
        undisturbed_end flow.sender (undisturbed_on plan clean steps w run flow.sender (alone f flow planned).0 both_on.0),
        undisturbed_end v (undisturbed_on plan clean steps w run v ((alone f flow planned).1 v is) both_on.1),
      )

  alone_ends : plan.live ≡ true → HasEnds plan w
  alone_ends live =
      let ends = ends_undisturbed plan clean steps w run alone in
      record {
        kept = all_named plan steps w run;
        sender = λ u s is. undisturbed_end u (ends.sender u s is);
        receiver = λ u v s is one among. undisturbed_end v (ends.receiver u v s is one (among live));
        flow = λ u s is. subst (IsOfFlow plan u) is ((all_of_flows plan steps w run).sessions u);
        can_send = λ f flow planned on addressed stated. ends_on f flow planned flow.to refl on;
      }

  -- an end is alone, so that it stays what it is
  alone_end : (u : ℕ) → IsAnEnd w u → IsAloneThere plan.keep_free (units_of plan) u × ((w.stations u).on ≡ true)
  alone_end u (inl (s, is)) =
      let (flow, planned, by, to) = subst (IsOfFlow plan u) is ((all_of_flows plan steps w run).sessions u) in
      (subst (IsAloneThere plan.keep_free (units_of plan)) by (alone s.flow flow planned).0, ((ends_undisturbed plan clean steps w run alone).sender u s is).on)
  alone_end u (inr (x, s, is, one, among)) =
      let (flow, planned, by, to) = subst (IsOfFlow plan x) is ((all_of_flows plan steps w run).sessions x) in
      ((alone s.flow flow planned).1 u (to ∙ one), ((ends_undisturbed plan clean steps w run alone).receiver x u s is one among).on)

  end_stays : (u : ℕ) → IsAnEnd w u → (step : Step) (after : World) → step ≢ Down u → Follows plan w step after
      → ((after.stations u).on ≡ true) × ((after.stations u).address ≡ (w.stations u).address)
  end_stays u is step after other follows =
      let (there, on) = alone_end u is in
      let now = undisturbed_on plan clean steps w run u there on in
      let then = stays_undisturbed plan clean steps w run u there on step after other follows in
      (then.on, then.held ∙ sym now.held)

-- ---- in each world

pub all_ends : (plan : Plan) → KeepsEnds plan → Always plan (HasEnds plan)
all_ends plan (inl quiet) steps w run = quiet_ends plan quiet steps w run
all_ends plan (inr clean) steps w run = elim (cases_Bool plan.live) [
  | inl live ↦ alone_ends plan clean (clean_ends_alone plan clean live) steps w run live
  | inr quiet ↦ quiet_ends plan quiet steps w run
]

-- a Begin that isn't refused
pub begun_ends : (plan : Plan) (w : World) → HasEnds plan w → (f : ℕ) (flow : Flow) (bytes : List ℕ) → slice_get (flows_of plan) f ≡ Some flow
    → begin_refusal plan.live (count_of plan) w (Some flow) bytes ≡ None → IsEnd w flow.sender × IsFor w flow.to
begun_ends plan w ends f flow bytes planned allowed =
    let (sendable, (on, (stated, (addressed, (free, rest))))) = none_hold (begin_refusals plan.live (count_of plan) w (Some flow) bytes) allowed in
    ends.can_send f flow planned (not-false _ on) (not-false _ addressed) stated

-- a Send that isn't
pub sent_ends : (plan : Plan) (w : World) → HasEnds plan w → (f : ℕ) (flow : Flow) (bytes : List ℕ) → slice_get (flows_of plan) f ≡ Some flow
    → send_refusal plan.live (count_of plan) w (Some flow) bytes ≡ None → IsEnd w flow.sender × IsFor w flow.to
sent_ends plan w ends f flow bytes planned allowed =
    let (sendable, (on, (stated, (addressed, (free, rest))))) = none_hold (send_refusals plan.live (count_of plan) w (Some flow) bytes) allowed in
    ends.can_send f flow planned (not-false _ on) (not-false _ addressed) stated

-- ---- what this says of a world

module _ (plan : Plan) (w : World) (inv : HasEnds plan w) where
  same_stations : plan.live ≡ false → IsSending w → (step : Step) → refusal plan w step ≡ None → (after : World) → StepsTo plan w step after
      → after.stations ≡ w.stations
  same_stations quiet sends (Up u) allowed after e = absurd (claims_refused plan w inv.kept.kept quiet sends.0 sends.1 sends.2 (Up u) tt allowed)
  same_stations quiet sends (Down u) allowed after e = absurd (claims_refused plan w inv.kept.kept quiet sends.0 sends.1 sends.2 (Down u) tt allowed)
  same_stations quiet sends (Give u v) allowed after e = absurd (claims_refused plan w inv.kept.kept quiet sends.0 sends.1 sends.2 (Give u v) tt allowed)
  same_stations quiet sends (Ask u) allowed after e = absurd (claims_refused plan w inv.kept.kept quiet sends.0 sends.1 sends.2 (Ask u) tt allowed)
  same_stations quiet sends (Begin f bytes) allowed after leads = begun (slice_get (flows_of plan) f) leads
    where
      begun : (o : Option Flow) → BeginsAt (count_of plan) w f o bytes.items after → after.stations ≡ w.stations
      begun None never = absurd never
      begun (Some flow) e = ap (λ (x : World). x.stations) e
  same_stations quiet sends (Send f bytes) allowed after leads = sent (slice_get (flows_of plan) f) leads
    where
      sent : (o : Option Flow) → SendsAt (count_of plan) w f o bytes.items after → after.stations ≡ w.stations
      sent None never = absurd never
      sent (Some flow) e = ap (λ (x : World). x.stations) e
  same_stations quiet sends (Emit u) allowed after (s, p, session, next, e) = ap (λ (x : World). x.stations) e
  same_stations quiet sends (Take u v) allowed after leads = took (w.wire u v) leads
    where
      took : (list : List Wired) → TakenFrom (windows_of plan) w u v list after → after.stations ≡ w.stations
      took [] never = absurd never
      took (wired.Short bytes ∷ rest) e = ap (λ (x : World). x.stations) e
      took (wired.Packet p ∷ rest) (reports, reported, e) = ap (λ (x : World). x.stations) e
      took (wired.Alone f bytes ∷ rest) e = ap (λ (x : World). x.stations) e
  same_stations quiet sends (Lose u v) allowed after leads = gone (w.wire u v) leads
    where
      gone : (list : List Wired) → LostFrom w u v list after → after.stations ≡ w.stations
      gone [] never = absurd never
      gone (item ∷ rest) e = ap (λ (x : World). x.stations) e
  same_stations quiet sends (LateSender u) allowed after (s, p, session, packet, e) = ap (λ (x : World). x.stations) e
  same_stations quiet sends (LateReceiver u v) allowed after e = ap (λ (x : World). x.stations) e
  same_stations quiet sends (Rest u) allowed after e = ap (λ (x : World). x.stations) e

  keep_addresses : (plan.live ≡ true → (u : ℕ) → IsAnEnd w u → (step : Step) (after : World) → step ≢ Down u → Follows plan w step after
      → ((after.stations u).on ≡ true) × ((after.stations u).address ≡ (w.stations u).address)) → EndsKeepAddresses plan w
  keep_addresses stays = record {
    stays = stays;
    sender = λ u s is. (inv.sender u s is).holding;
    receiver = λ u v s is one among. (inv.receiver u v s is one among).holding;
    flow = inv.flow;
    still = λ quiet sends step after.
        elim (refusal plan w step)
        as (λ (o : Option StepError). refusal plan w step ≡ o → MatchBool (is_some o) (after ≡ w) (StepsTo plan w step after)
        → after.stations ≡ w.stations) [
          | Some e ↦ λ _ same. ap (λ (x : World). x.stations) same
          | None ↦ λ allowed leads. same_stations quiet sends step allowed after leads
        ] refl;
  }

pub ends_keep_addresses : (plan : Plan) → KeepsEnds plan → Always plan (EndsKeepAddresses plan)
ends_keep_addresses plan keeps steps w run = keep_addresses plan w (all_ends plan keeps steps w run) (λ live. of_live live keeps)
  where
    of_live : plan.live ≡ true → KeepsEnds plan → (u : ℕ) → IsAnEnd w u → (step : Step) (after : World) → step ≢ Down u → Follows plan w step after
        → ((after.stations u).on ≡ true) × ((after.stations u).address ≡ (w.stations u).address)
    of_live live (inl quiet) = absurd (true≢false (sym live ∙ quiet))
    of_live live (inr clean) = end_stays plan clean (clean_ends_alone plan clean live) steps w run
