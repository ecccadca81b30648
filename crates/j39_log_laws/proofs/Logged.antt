-- In the log of each world of a run, units of the plan stand behind the addresses of each frame of a message.
use Rattle.std.proofs.Common.{◌≡◌, ◌⊎◌, ℕ, List, [], ◌∷◌, ◌++◌, map, Option, Some, None, inl, inr, refl, sym, ap, subst, ◌∙◌}
use Rattle.std.specs.List.{slice_get}
use Rattle.std.proofs.lemmas.List.{append-nil, map-append}
use Rattle.j39_id.specs.declared.frame.Frame.{Frame}
use Rattle.j39_id.specs.declared.ident.Ident.{Ident}
use Rattle.j39_claim.specs.declared.item.Item.{Item}
use Rattle.j39_network.specs.declared.plan.Plan.{Plan}
use Rattle.j39_network.specs.declared.plan.to.To.{To}
use Rattle.j39_network.specs.declared.plan.to.To.TheVariants.{All, One}
use Rattle.j39_network.specs.declared.steps.Step.{Step}
use Rattle.j39_network.specs.declared.steps.Step.TheVariants.{Up, Down, Give, Ask, Begin, Send, Emit, Take, Lose, LateSender, LateReceiver, Rest}
use Rattle.j39_world.specs.declared.flow.Flow.{Flow}
use Rattle.j39_world.specs.declared.wired.Wired.{Wired}
use Rattle.j39_world.specs.declared.wired.Wired.TheVariants as wired
use Rattle.j39_world.specs.ClaimSteps.{GivenFrom}
use Rattle.j39_world.specs.Flows.{FlowGoes, flows_of, windows_of}
use Rattle.j39_world.specs.Opening.{AreNamesDistinct}
use Rattle.j39_network.specs.PlannedUnits.{units_of}
use Rattle.j39_log_laws.specs.KeepsEnds.{KeepsEnds}
use Rattle.j39_world.specs.Run.{StepsTo, count_of, refusal}
use Rattle.j39_world.specs.Sent.{Sent, sent_of}
use Rattle.j39_world.specs.SoundPlan.{Always}
use Rattle.j39_world.specs.TransferSteps.{BeginsAt, SendsAt, LostFrom, TakenFrom}
use Rattle.j39_world.specs.World.{World, all_off}
use Rattle.j39_run_laws.proofs.Runs.Always.{always_with}
use Rattle.j39_log_laws.specs.Between.{AreJoined, ComesTo, EachGoesBetweenUnits, GoesToHolder, IsOfStep, IsSentBehind, IsSentBy, StandsBehind}
use Rattle.j39_log_laws.specs.HolderReports.{HaveOwnNumbers}
use Rattle.j39_log_laws.proofs.Between.{step_goes}
use Rattle.j39_log_laws.proofs.Ends.{HasEnds, all_ends}
use Rattle.j39_log_laws.proofs.Logs.{split}
use Rattle.j39_log_laws.proofs.HolderReports.{AreReported, all_stated}

-- ---- where a frame of a log stands

-- among those of the first list, or behind them among those of the second
pub place : (xs ys : List Sent) (before : List Frame) (f : Frame) (behind : List Frame) → map sent_of (before ++ f ∷ behind) ≡ xs ++ ys
    → ((front : List Frame) × (map sent_of (before ++ f ∷ front) ≡ xs))
    ⊎ ((earlier : List Sent) × (later : List Sent) × (map sent_of before ≡ xs ++ earlier) × (ys ≡ earlier ++ sent_of f ∷ later))
place [] ys before f behind e = inr (map sent_of before, map sent_of behind, refl, sym e ∙ map-append sent_of before (f ∷ behind))
place (x ∷ xs) ys [] f behind e =
    let head : sent_of f ≡ x = cc in
    let tail : map sent_of behind ≡ xs ++ ys = cc in
    let s = split sent_of behind xs ys tail in
    inl (s.0, rw (head, s.3) refl)
place (x ∷ xs) ys (g ∷ before) f behind e =
    let head : sent_of g ≡ x = cc in
    let tail : map sent_of (before ++ f ∷ behind) ≡ xs ++ ys = cc in
    elim (place xs ys before f behind tail) [
      | inl (front, is) ↦ inl (front, rw (head, is) refl)
      | inr (earlier, later, is, at) ↦ inr (earlier, later, rw (head, is) refl, at)
    ]

-- ---- a step takes back no frame

abbrev Grows : World → World → Type 0
Grows w new = (added : List Sent) × (new.frames ≡ w.frames ++ added)

stays : (w new : World) → new.frames ≡ w.frames → Grows w new
stays w new is = ([], is ∙ sym (append-nil w.frames))

module _ (plan : Plan) (w : World) where
  given_grows : (u v : ℕ) (list : List Item) (new : World) → GivenFrom (units_of plan) w u v list new → Grows w new
  given_grows u v [] new never = absurd never
  given_grows u v (item ∷ rest) new (says, s, answers, e) = (_, ap (λ (x : World). x.frames) e)

  begun_grows : (k : ℕ) (o : Option Flow) (bytes : List ℕ) (new : World) → BeginsAt (count_of plan) w k o bytes new → Grows w new
  begun_grows k None bytes new never = absurd never
  begun_grows k (Some flow) bytes new e = (_, ap (λ (x : World). x.frames) e)

  sent_grows : (k : ℕ) (o : Option Flow) (bytes : List ℕ) (new : World) → SendsAt (count_of plan) w k o bytes new → Grows w new
  sent_grows k None bytes new never = absurd never
  sent_grows k (Some flow) bytes new e = (_, ap (λ (x : World). x.frames) e)

  taken_grows : (u v : ℕ) (list : List Wired) (new : World) → TakenFrom (windows_of plan) w u v list new → Grows w new
  taken_grows u v [] new never = absurd never
  taken_grows u v (wired.Short bytes ∷ rest) new e = stays w new (ap (λ (x : World). x.frames) e)
  taken_grows u v (wired.Packet p ∷ rest) new (reports, reported, e) = (_, ap (λ (x : World). x.frames) e)
  taken_grows u v (wired.Alone f bytes ∷ rest) new e = stays w new (ap (λ (x : World). x.frames) e)

  lost_grows : (u v : ℕ) (list : List Wired) (new : World) → LostFrom w u v list new → Grows w new
  lost_grows u v [] new never = absurd never
  lost_grows u v (item ∷ rest) new e = stays w new (ap (λ (x : World). x.frames) e)

  grows : (step : Step) (new : World) → StepsTo plan w step new → Grows w new
  grows (Up u) new e = (_, ap (λ (x : World). x.frames) e)
  grows (Down u) new e = stays w new (ap (λ (x : World). x.frames) e)
  grows (Give u v) new leads = given_grows u v (w.claims u v) new leads
  grows (Ask u) new e = (_, ap (λ (x : World). x.frames) e)
  grows (Begin k bytes) new leads = begun_grows k (slice_get (flows_of plan) k) bytes.items new leads
  grows (Send k bytes) new leads = sent_grows k (slice_get (flows_of plan) k) bytes.items new leads
  grows (Emit u) new (s, p, session, next, e) = (_, ap (λ (x : World). x.frames) e)
  grows (Take u v) new leads = taken_grows u v (w.wire u v) new leads
  grows (Lose u v) new leads = lost_grows u v (w.wire u v) new leads
  grows (LateSender u) new (s, p, session, packet, e) = (_, ap (λ (x : World). x.frames) e)
  grows (LateReceiver u v) new e = (_, ap (λ (x : World). x.frames) e)
  grows (Rest u) new e = stays w new (ap (λ (x : World). x.frames) e)

-- ---- each frame

comes_to : (plan : Plan) (w : World) (log : List Frame) (to : To) (i : Ident) → GoesToHolder plan w log to i → ComesTo plan log to i
comes_to plan w log All i goes = goes
comes_to plan w log (One v) i (a, at, inl two) = inl two
comes_to plan w log (One v) i (a, at, inr same) = inr (subst (λ (k : ℕ). StandsBehind plan log v k) (sym same) at.stated)

-- whoever sends by a step, a flow joins it with those that this is for
joins : (plan : Plan) (w : World) (step : Step) (u : ℕ) (to : To) (i : Ident) → IsSentBy plan w step u to → IsOfStep plan step i → AreJoined plan u to i
joins plan w (Up x) u to i never group = absurd never
joins plan w (Down x) u to i never group = absurd never
joins plan w (Give x y) u to i never group = absurd never
joins plan w (Ask x) u to i never group = absurd never
joins plan w (Begin f bytes) u to i flow group = inl (f, flow, group)
joins plan w (Send f bytes) u to i flow group = inl (f, flow, inl group)
joins plan w (Emit x) u to i (same, (s, session, flow)) group = inl (s.flow, subst (λ (k : ℕ). FlowGoes plan s.flow k to) same flow, inr group)
joins plan w (LateSender x) u to i (same, (s, session, flow)) group = inl (s.flow, subst (λ (k : ℕ). FlowGoes plan s.flow k to) same flow, inr group)
joins plan w (Take x y) u to i (same, is, inl (s, session, flow)) group =
    inr (s.flow, x, sym is, subst (λ (k : ℕ). FlowGoes plan s.flow x (One k)) same flow, group)
joins plan w (Take x y) u to i (same, is, inr (s, session, flow)) group =
    inl (s.flow, subst (λ (t : To). FlowGoes plan s.flow u t) is (subst (λ (k : ℕ). FlowGoes plan s.flow k (One x)) same flow), inr group)
joins plan w (LateReceiver x y) u to i (same, is, (s, session, flow)) group =
    inr (s.flow, x, sym is, subst (λ (k : ℕ). FlowGoes plan s.flow x (One k)) same flow, group)
joins plan w (Lose x y) u to i never group = absurd never
joins plan w (Rest x) u to i never group = absurd never

-- by a step from a world of which this is known
logged_keep : (plan : Plan) → AreNamesDistinct (units_of plan) → HaveOwnNumbers plan → (w : World) → AreReported plan w × HasEnds plan w
    → EachGoesBetweenUnits plan w → (step : Step) → refusal plan w step ≡ None → (new : World) → StepsTo plan w step new → EachGoesBetweenUnits plan new
logged_keep plan distinct own w known each step allowed new leads before f behind e other =
    let (added, is) = grows plan w step new leads in
    elim (place w.frames added before f behind (e ∙ is)) [
      | inl (front, here) ↦ each before f front here other
      | inr (earlier, later, log_is, at) ↦
          let sent : IsSentBehind w new before f =
          record { earlier = earlier; later = later; log_is = log_is; sent = is ∙ ap (λ (x : List Sent). w.frames ++ x) at } in
          let (u, to, by, group, source, goes) =
          step_goes plan distinct own w known.0 known.1 step allowed new leads before f sent other in
          record {
            sender = u;
            to = to;
            joined = joins plan w step u to f.ident by group;
            comes = source.stated;
            goes = comes_to plan w (before ++ f ∷ []) to f.ident goes;
          }
    ]

pub each_goes : (plan : Plan) → KeepsEnds plan → AreNamesDistinct (units_of plan) → HaveOwnNumbers plan → Always plan (EachGoesBetweenUnits plan)
each_goes plan keeps distinct own =
    always_with plan (λ w. AreReported plan w × HasEnds plan w) (EachGoesBetweenUnits plan)
    (λ steps w run. (all_stated plan distinct own steps w run, all_ends plan keeps steps w run)) (logged_keep plan distinct own) none_at_first
  where
    none_at_first : EachGoesBetweenUnits plan all_off
    none_at_first [] f behind e other = absurd (cc e)
    none_at_first (g ∷ before) f behind e other = absurd (cc e)
