-- In each world of a run the steps of transfers come to an end, and until then one of them runs through.
use Rattle.std.proofs.Common.{◌≡◌, ℕ, zero, suc, ◌+◌, ◌<◌, ◌≤◌, inl, inr, Bool, true, false, not, ◌&&◌, ltb, List, [], ◌∷◌, length, refl, sym, ap, ◌∙◌, subst}
use Rattle.std.proofs.Common.{arith, Option, Some, None}
use Rattle.std.specs.List.{All, AllByRecursion, list_all, range_with_len}
use Rattle.std.specs.Option.{is_some}
use Rattle.std.proofs.lemmas.Bool.{and_cases, lt-ltb, not-false, not_from_true, or_from, cases_Bool, true≢false}
use Rattle.std.proofs.lemmas.List.Elements.{All-head, All-tail}
use Rattle.j39_tp.specs.Receiver.{is_open_at}
use Rattle.j39_tp.specs.declared.sending.outcome.Outcome.{Outcome}
use Rattle.j39_tp.specs.declared.sending.stage.Stage.{Stage}
use Rattle.j39_tp.specs.declared.sending.stage.Stage.TheVariants.{Sending, Waiting, Resting}
use Rattle.j39_network.specs.declared.plan.Plan.{Plan}
use Rattle.j39_network.specs.declared.steps.Step.{Step}
use Rattle.j39_network.specs.declared.steps.Step.TheVariants.{Emit, Lose, LateSender, LateReceiver, Rest}
use Rattle.j39_world.specs.declared.wired.Wired.{Wired}
use Rattle.j39_world.specs.Ending.{IsOfTransfers, TransfersEnd}
use Rattle.j39_world.specs.Resting.{is_of_sender, is_of_receiver, is_over_with, can_rest}
use Rattle.j39_world.specs.Run.{count_of, either, is_on, is_off, is_empty, can_emit, is_waiting, refusal, RunsThrough}
use Rattle.j39_world.specs.SoundPlan.{Always}
use Rattle.j39_world.specs.Transfers.{Outgoing, outcome_in}
use Rattle.j39_world.specs.World.{World}
use Rattle.j39_run_laws.proofs.Reports.Orderly.{PlannedAt}
use Rattle.j39_run_laws.proofs.Runs.Conditions.{is_unit, NoneHoldOf, none_unknown, not_refused}
use Rattle.j39_run_laws.proofs.Transfers.Accounted.{SendsTo, IsAccounted, IsSettledFor, AreEndsOn}
use Rattle.j39_run_laws.proofs.Transfers.AccountedSteps.{IsKept, all_kept, lies_on, sent_unit, sent_where_open}
use Rattle.j39_run_laws.proofs.Transfers.FitSteps.{IsWorldFit, steps_fit, worlds_fit}
use Rattle.j39_run_laws.proofs.Transfers.Leading.{leads_on}
use Rattle.j39_run_laws.proofs.Transfers.Lowering.{left_of, lowers}

-- ---- no more steps than are left

all_less : (plan : Plan) (steps : List Step) (w after : World) → IsWorldFit w → All IsOfTransfers steps → RunsThrough plan w steps after
    → length steps ≤ left_of (count_of plan) w
all_less plan [] w after fit all through = omega arith
all_less plan (step ∷ steps) w after fit all (mid, allowed, leads, more) =
    let less = lowers plan w fit step (All-head IsOfTransfers step steps all) allowed mid leads in
    let next : IsWorldFit mid = steps_fit plan w fit step allowed mid leads in
    omega (arith, all_less plan steps mid after next (All-tail IsOfTransfers step steps all) more)

-- ---- what a test fails of

not_all : (test : ℕ → Bool) (a n : ℕ) → list_all test (range_with_len a n) ≡ false → (x : ℕ) × (test x ≡ false)
not_all test a zero none = absurd (cc none)
not_all test a (suc n) none = elim (and_cases (test a) (list_all test (range_with_len (a + 1) n)) none) [
  | inl here ↦ (a, here)
  | inr there ↦ not_all test (a + 1) n there
]

-- a list of which not all pass has a first element
pub record IsSome (items : List Wired) : Type 0 where
  pub item : Wired
  pub rest : List Wired
  pub is : items ≡ item ∷ rest

some_item : (test : Wired → Bool) (items : List Wired) → list_all test items ≡ false → IsSome items
some_item test [] none = absurd (cc none)
some_item test (item ∷ rest) none = record { item = item; rest = rest; is = refl }

-- ---- one step more

-- a step of transfers that is not refused
abbrev CanGoOn : Plan → World → Type 0
CanGoOn plan w = (step : Step) × IsOfTransfers step × (refusal plan w step ≡ None)

module _ (plan : Plan) (w : World) (kept : IsKept plan w) where
  -- both are units, and on
  abbrev AreReady : ℕ → ℕ → Type 0
  AreReady s t = (is_unit plan s ≡ true) × (is_unit plan t ≡ true) × (is_on w.stations s ≡ true) × (is_on w.stations t ≡ true)

  sender_ready : (s : ℕ) (o : Option Outgoing) (t : ℕ) → PlannedAt plan s o → AreEndsOn w.stations s o → SendsTo o t
      → (is_unit plan s ≡ true) × (is_on w.stations s ≡ true) × (is_on w.stations t ≡ true)
  sender_ready s None t planned on sends = absurd sends
  sender_ready s (Some o) t planned on sends = (planned.unit, on.0, on.1 t sends)

  ready : (s t : ℕ) → SendsTo (w.sessions s) t → AreReady s t
  ready s t sends =
      let (unit, on, on_too) = sender_ready s (w.sessions s) t (kept.transfers.order.planned s) (kept.accounted.ends s) sends in
      (unit, sent_unit plan w kept.transfers kept.accounted s t sends, on, on_too)

  accounted_ready : (s t : ℕ) (item : Wired) → IsAccounted w.sessions s t item → IsSettledFor plan.live w.stations w.claims s t item → AreReady s t
  accounted_ready s t item accounted settled =
      let on = lies_on plan w kept.transfers kept.accounted s t item accounted settled in
      (kept.transfers.order.units s on.0, kept.transfers.order.units t on.1, on.0, on.1)

  none_off : (s t : ℕ) → AreReady s t → either (is_off w.stations) s t ≡ false
  none_off s t r = or_from (is_off w.stations s) (is_off w.stations t) (not_from_true (is_on w.stations s) r.2) (not_from_true (is_on w.stations t) r.3)

  -- what is undelivered can be taken or lost
  pub item_ready : (s t : ℕ) → IsSome (w.wire s t) → NoneHoldOf plan w (Lose s t)
  item_ready s t some =
      let r = accounted_ready s t some.item (subst (AllByRecursion (IsAccounted w.sessions s t)) some.is (kept.accounted.wire s t)).0
      (subst (AllByRecursion (IsSettledFor plan.live w.stations w.claims s t)) some.is (kept.accounted.alone s t)).0 in
      let long : 0 < length (w.wire s t) = (let e : length (w.wire s t) ≡ length (some.item ∷ some.rest) = ap length some.is in omega (arith, e)) in
      let full : is_empty (w.wire s t) ≡ false = not_from_true (ltb 0 (length (w.wire s t))) (lt-ltb 0 (length (w.wire s t)) long) in
      (none_unknown plan s t r.0 r.1, (none_off s t r, (full, tt)))

  can_lose : (s t : ℕ) → IsSome (w.wire s t) → CanGoOn plan w
  can_lose s t some = (Lose s t, tt, not_refused plan w (Lose s t) (item_ready s t some))

  can_time_out : (u t : ℕ) → is_open_at (w.receivers t u) ≡ true → CanGoOn plan w
  can_time_out u t is =
      let r = ready u t (sent_where_open plan w kept.transfers kept.accounted u t is) in
      (LateReceiver u t, tt, not_refused plan w (LateReceiver u t) (none_unknown plan u t r.0 r.1, (none_off u t r, (not_from_true _ is, tt))))

  not_over : (u t : ℕ) → is_over_with w u t ≡ false → CanGoOn plan w
  not_over u t none =
      let rest : Bool = list_all (λ item. not (is_of_sender item)) (w.wire u t) && list_all (λ item. not (is_of_receiver item)) (w.wire t u) in
      elim (and_cases (not (is_open_at (w.receivers t u))) rest none) [
        | inl hears ↦ can_time_out u t (not-false (is_open_at (w.receivers t u)) hears)
        | inr some ↦ elim (and_cases (list_all (λ item. not (is_of_sender item)) (w.wire u t))
            (list_all (λ item. not (is_of_receiver item)) (w.wire t u)) some) [
              | inl sent ↦ can_lose u t (some_item (λ item. not (is_of_sender item)) (w.wire u t) sent)
              | inr answered ↦ can_lose t u (some_item (λ item. not (is_of_receiver item)) (w.wire t u) answered)
            ]
      ]

  module _ (u : ℕ) (o : Outgoing) (is : w.sessions u ≡ Some o) where
    unit : is_unit plan u ≡ true
    unit = (let planned : PlannedAt plan u (Some o) = subst (PlannedAt plan u) is (kept.transfers.order.planned u) in planned.unit)

    on : is_on w.stations u ≡ true
    on = (let ends : AreEndsOn w.stations u (Some o) = subst (AreEndsOn w.stations u) is (kept.accounted.ends u) in ends.0)

    pub emit_allowed : (next last : ℕ) → o.stage ≡ Sending next last → refusal plan w (Emit u) ≡ None
    emit_allowed next last stage =
        let can : can_emit (w.sessions u) ≡ true = rw (is, stage) refl in
        not_refused plan w (Emit u) (not_from_true _ unit, (not_from_true _ on, (not_from_true _ can, tt)))

    can_give_up : o.stage ≡ Waiting → CanGoOn plan w
    can_give_up stage =
        let waits : is_waiting (w.sessions u) ≡ true = rw (is, stage) refl in
        (LateSender u, tt, not_refused plan w (LateSender u) (not_from_true _ unit, (not_from_true _ on, (not_from_true _ waits, tt))))

    rest_or_more : (outcome : Outcome) → o.stage ≡ Resting outcome → CanGoOn plan w
    rest_or_more outcome stage =
        let ended : is_some (outcome_in (w.sessions u)) ≡ true = rw (is, stage) refl in
        elim (cases_Bool (can_rest (count_of plan) w u)) [
          | inl can ↦ (Rest u, tt, not_refused plan w (Rest u) (not_from_true _ unit, (not_from_true _ on, (not_from_true _ can, tt))))
          | inr cannot ↦ elim (and_cases (is_some (outcome_in (w.sessions u))) (list_all (is_over_with w u) (range_with_len 0 (count_of plan))) cannot) [
            | inl never ↦ absurd (true≢false (sym ended ∙ never))
            | inr left ↦ let (t, none) = not_all (is_over_with w u) 0 (count_of plan) left in not_over u t none
          ]
        ]

    by_stage : (stage : Stage) → o.stage ≡ stage → CanGoOn plan w
    by_stage (Sending next last) stage = (Emit u, tt, emit_allowed next last stage)
    by_stage Waiting stage = can_give_up stage
    by_stage (Resting outcome) stage = rest_or_more outcome stage

    can_go_on : CanGoOn plan w
    can_go_on = by_stage o.stage refl

pub transfers_end : (plan : Plan) → Always plan (TransfersEnd plan)
transfers_end plan steps w run =
    let fit : IsWorldFit w = worlds_fit plan steps w run in
    record {
      bound = left_of (count_of plan) w;
      bounded = λ more after all through. all_less plan more w after fit all through;
      goes_on = λ u o is.
          let (step, of, allowed) = can_go_on plan w (all_kept plan steps w run) u o is in
          let (after, leads) = leads_on plan w fit step allowed in
          (step, of, (after, (after, allowed, leads, refl)));
    }
