-- Where no message is open a unit that is switched off only stops.
use Rattle.std.proofs.Common.{◌≡◌, ℕ, Bool, true, false, cond, not, ◌&&◌, eqb, List, [], ◌∷◌, refl, sym, ap, ◌∙◌, subst, Option, None}
use Rattle.std.proofs.lemmas.Bool.{cond_both}
use Rattle.std.specs.Prelude.{slice_get}
use Rattle.j39_claim.specs.declared.item.Item.{Item}
use Rattle.j39_network.specs.declared.plan.Plan.{Plan}
use Rattle.j39_network.specs.declared.steps.Step.{Step}
use Rattle.j39_network.specs.declared.steps.Step.TheVariants.{Up, Down, Give, Ask, Begin, Send, Emit, Take, Lose, LateSender, LateReceiver, Rest}
use Rattle.j39_tp.specs.Receiver.{is_open_at, timed_out}
use Rattle.j39_tp.specs.declared.receiving.manner.Manner.TheVariants.{Answering}
use Rattle.j39_tp.specs.declared.receiving.progress.Progress.{Progress}
use Rattle.j39_tp.specs.declared.receiving.progress.Progress.TheVariants.{Closed, Open, Complete}
use Rattle.j39_world.specs.ClaimSteps.{GivenFrom, without_lists_to}
use Rattle.j39_world.specs.Flows.{flows_of, window_at, windows_of}
use Rattle.j39_network.specs.PlannedUnits.{units_of}
use Rattle.j39_world.specs.Run.{StepsTo, count_of, is_a_transfer_open, refusal, Run}
use Rattle.j39_world.specs.SoundPlan.{Always}
use Rattle.j39_world.specs.SwitchingOff.{is_either, session_without, sessions_without, stopped, switched_off, without_lists_of, without_receivers_of}
use Rattle.j39_world.specs.TransferSteps.{TakenFrom, hearing}
use Rattle.j39_world.specs.Transfers.{Outgoing, Receivers, closed_if_complete}
use Rattle.j39_world.specs.World.{World, all_off, changed_pair}
use Rattle.j39_world.specs.declared.wired.Wired.{Wired}
use Rattle.j39_world.specs.declared.wired.Wired.TheVariants as wired
use Rattle.j39_run_laws.proofs.Reports.Exchanges.{Exchange, Message, message_to, pair_of}
use Rattle.j39_run_laws.proofs.Reports.SoundReports.{none_open}
use Rattle.j39_run_laws.proofs.Runs.Always.{always}
use Rattle.j39_run_laws.proofs.Runs.Changed.{pair_each}
use Rattle.j39_run_laws.proofs.Runs.Conditions.{none_refuses}
use Rattle.j39_run_laws.proofs.Runs.LeavingSteps.{begin_leaves, lose_leaves, send_leaves}
use Rattle.j39_run_laws.proofs.Transfers.AccountedSteps.{IsKept, all_kept, none_lies}

-- ---- no receiver stays with a whole message

abbrev IsLeft : Progress → Type 0
IsLeft progress = closed_if_complete progress ≡ progress

abbrev AreLeft : World → Type 0
AreLeft w = (v u : ℕ) → IsLeft (w.receivers v u)

left_once : (progress : Progress) → IsLeft (closed_if_complete progress)
left_once Closed = refl
left_once (Open r) = refl
left_once (Complete pgn) = refl

module _ (plan : Plan) (w : World) (old : AreLeft w) where
  -- the receivers are those that they were
  same : (new : World) → new.receivers ≡ w.receivers → AreLeft new
  same new is = subst (λ (r : Receivers). (v u : ℕ) → IsLeft (r v u)) (sym is) old

  -- one is what is left of another
  one : (v u : ℕ) (progress : Progress) → (s t : ℕ) → IsLeft (changed_pair w.receivers v u (closed_if_complete progress) s t)
  one v u progress = pair_each (λ _ _ (p : Progress). IsLeft p) w.receivers v u (closed_if_complete progress) (left_once progress) old

  given : (u v : ℕ) (items : List Item) (new : World) → GivenFrom (units_of plan) w u v items new → AreLeft new
  given u v [] new never = absurd never
  given u v (item ∷ rest) new (says, s, reacts, e) = same new (ap (λ (x : World). x.receivers) e)

  taken : (u v : ℕ) (items : List Wired) (new : World) → TakenFrom (windows_of plan) w u v items new → AreLeft new
  taken u v [] new never = absurd never
  taken u v (wired.Short bytes ∷ rest) new e = same new (ap (λ (x : World). x.receivers) e)
  taken u v (wired.Packet p ∷ rest) new (reports, stated, e) = subst AreLeft (sym e) (one v u (hearing (windows_of plan) w u v p).0)
  taken u v (wired.Alone f bytes ∷ rest) new e = same new (ap (λ (x : World). x.receivers) e)

  left_by : (step : Step) (new : World) → StepsTo plan w step new → AreLeft new
  left_by (Up u) new e = same new (ap (λ (x : World). x.receivers) e)
  left_by (Down u) new e =
      subst AreLeft (sym e) (λ v s. cond_both (is_either u v s) Closed (w.receivers v s) IsLeft (λ _. refl) (λ _. old v s))
  left_by (Give u v) new leads = given u v (w.claims u v) new leads
  left_by (Ask u) new e = same new (ap (λ (x : World). x.receivers) e)
  left_by (Begin f bytes) new leads =
      same new (begin_leaves (λ x. x.receivers) w new (count_of plan) f (slice_get (flows_of plan) f) bytes.items (λ _. refl) leads)
  left_by (Send f bytes) new leads =
      same new (send_leaves (λ x. x.receivers) w new (count_of plan) f (slice_get (flows_of plan) f) bytes.items (λ _. refl) leads)
  left_by (Emit u) new (s, p, session, packet, e) = same new (ap (λ (x : World). x.receivers) e)
  left_by (Take u v) new leads = taken u v (w.wire u v) new leads
  left_by (Lose u v) new leads = same new (lose_leaves (λ x. x.receivers) w new u v (w.wire u v) (λ _. refl) leads)
  left_by (LateSender u) new (s, p, session, packet, e) = same new (ap (λ (x : World). x.receivers) e)
  left_by (LateReceiver u v) new e =
      subst AreLeft (sym e) (one v u (timed_out (Answering (window_at (windows_of plan) v)) (w.receivers v u)).0)
  left_by (Rest u) new e = same new (ap (λ (x : World). x.receivers) e)

all_left : (plan : Plan) → Always plan AreLeft
all_left plan = always plan AreLeft (λ v u. refl) (λ w old step allowed new leads. left_by plan w old step new leads)

-- ---- so where no message is sent they are closed

closed_is : (progress : Progress) → IsLeft progress → is_open_at progress ≡ false → progress ≡ Closed
closed_is Closed left closed = refl
closed_is (Open r) left closed = absurd (cc closed)
closed_is (Complete pgn) left closed = sym left

none_to : (o : Option Outgoing) (t : ℕ) → o ≡ None → message_to o t ≡ None
none_to o t is = ap (λ (x : Option Outgoing). message_to x t) is

same_either : {X : Type 0} (b : Bool) (none x : X) → x ≡ none → cond b none x ≡ x
same_either true none x is = sym is
same_either false none x is = refl

pub only_stops : (plan : Plan) (steps : List Step) (w : World) → plan.live ≡ false → Run plan all_off steps w → (u : ℕ) → refusal plan w (Down u) ≡ None
    → switched_off w u ≡ stopped w u
only_stops plan steps w quiet run u allowed = λ i. record (stopped w u) {
  sessions = λ s. sessions_same s i;
  wire = λ s t. wire_same s t i;
  receivers = λ v s. receivers_same v s i;
}
  where
    kept : IsKept plan w
    kept = all_kept plan steps w run

    idle : (not plan.live && is_a_transfer_open (count_of plan) w) ≡ false
    idle = (none_refuses plan w (Down u) allowed).1.1.0

    none : (s : ℕ) → w.sessions s ≡ None
    none = none_open plan w kept.transfers idle quiet

    sessions_same : (s : ℕ) → sessions_without u w.sessions s ≡ w.sessions s
    sessions_same s = (λ i. cond (eqb s u) None (session_without u (none s i))) ∙ same_either (eqb s u) None None refl ∙ sym (none s)

    lies : (s t : ℕ) → w.wire s t ≡ []
    lies = none_lies plan w kept.transfers kept.accounted idle quiet

    wire_same : (s t : ℕ) → without_lists_of u w.wire s t ≡ without_lists_to u w.wire s t
    wire_same s t = same_either (is_either u s t) [] (w.wire s t) (lies s t) ∙ sym (same_either (eqb t u) [] (w.wire s t) (lies s t))

    receivers_same : (v s : ℕ) → without_receivers_of u w.receivers v s ≡ w.receivers v s
    receivers_same v s = same_either (is_either u v s) Closed (w.receivers v s) (closed_is (w.receivers v s) (all_left plan steps w run v s) (closed v s))
      where
        closed : (v s : ℕ) → is_open_at (w.receivers v s) ≡ false
        closed v s = (subst (λ (m : Option Message). Exchange m (pair_of w s v)) (none_to (w.sessions s) v (none s)) (kept.transfers.exchanges s v)).closed
