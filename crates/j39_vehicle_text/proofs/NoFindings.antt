-- Where no finding is counted, there is none.
use Rattle.std.proofs.Common.{◌≡◌, ℕ, zero, suc, ◌+◌, Bool, true, List, [], ◌∷◌, ◌++◌, length, Some, refl, sym, ap, ◌∙◌, subst, arith}
use Rattle.std.specs.List.{AllByRecursion, slice_get}
use Rattle.j39_findings.specs.Found.{found}
use Rattle.j39_load.specs.BusTimes.{timing_of}
use Rattle.j39_load.specs.LoadFindings.{AreLoadFindings}
use Rattle.j39_load.specs.declared.findings.load_finding.LoadFinding.{LoadFinding}
use Rattle.j39_answer.specs.PlanAnswers.{are_of_times}
use Rattle.j39_vehicle.specs.declared.vehicle.Vehicle.{Vehicle}
use Rattle.j39_vehicle.specs.declared.vehicle.bus_plan.BusPlan.{BusPlan}
use Rattle.j39_vehicle_findings.specs.FoundPaths.{path_findings, queue_findings, vehicle_findings}
use Rattle.j39_vehicle_text.specs.CertifiedVehicle.{HasCalmPlan, HasNoFindings}
use Rattle.j39_vehicle_text.specs.VehicleBlocks.{AreBlocks, IsBlock, all_are_of_times, count_of_plans}
use Rattle.j39_vehicle_text.specs.VehicleText.{IsFoundBeyond, count_beyond}
use Rattle.j39_vehicle_text.specs.declared.beyond_plans.BeyondPlans.{BeyondPlans}

pub none_at_all : (v : Vehicle) (loops : List Bool) → path_findings loops v ≡ [] → queue_findings v ≡ [] → vehicle_findings loops v ≡ []
unfolding vehicle_findings
none_at_all v loops paths queues = ap (λ xs. xs ++ queue_findings v) paths ∙ queues

empty : {X : Type 0} (xs : List X) → length xs ≡ 0 → xs ≡ []
empty [] none = refl
empty (x ∷ xs) none = absurd (omega (arith, none))

block_calm : (bus : BusPlan) (others : List LoadFinding) (text : List ℕ) → IsBlock bus others text → length (found bus.plan) + length others ≡ 0
    → HasCalmPlan bus
block_calm bus others text block none =
    let nothing : found bus.plan ≡ [] = empty (found bus.plan) (omega (arith, none)) in
    let calm : others ≡ [] = empty others (omega (arith, none)) in
    (nothing, subst (AreLoadFindings bus.plan (timing_of bus.plan)) calm block.wrong)

-- where no plan has a finding, each plan is calm
pub plans_calm : (buses : List BusPlan) (others : List (List LoadFinding)) (text : List ℕ) → AreBlocks buses others text
    → count_of_plans buses others ≡ 0 → AllByRecursion HasCalmPlan buses
plans_calm [] others text are none = tt
plans_calm (bus ∷ buses) [] text are none = absurd are
plans_calm (bus ∷ buses) (o ∷ others) text are none =
    let (block, more, is, rest, text_is) = are in
    (block_calm bus o block is (omega (arith, none)), plans_calm buses others more rest (omega (arith, none)))

all_at : {X : Type 0} (P : X → Type 0) (xs : List X) → AllByRecursion P xs → (i : ℕ) (x : X) → slice_get xs i ≡ Some x → P x
all_at P [] all i x is = cc is
all_at P (y ∷ ys) all zero x is =
    let same : y ≡ x = cc is in
    subst P same all.0
all_at P (y ∷ ys) all (suc i) x is = all_at P ys all.1 i x is

timed_of : (bus : BusPlan) (others : List LoadFinding) → length (found bus.plan) + length others ≡ 0 → are_of_times (found bus.plan) others ≡ true
timed_of bus others none =
    let nothing : found bus.plan ≡ [] = empty (found bus.plan) (omega (arith, none)) in
    let calm : others ≡ [] = empty others (omega (arith, none)) in
    rw (nothing, calm) refl

-- and times are reported
pub plans_timed : (buses : List BusPlan) (others : List (List LoadFinding)) → count_of_plans buses others ≡ 0 → all_are_of_times buses others ≡ true
plans_timed [] others none = refl
plans_timed (bus ∷ buses) [] none = refl
plans_timed (bus ∷ buses) (o ∷ others) none =
    rw (timed_of bus o (omega (arith, none)), plans_timed buses others (omega (arith, none))) refl

-- so nothing is found in the vehicle
pub nothing_found : (v : Vehicle) (others : List (List LoadFinding)) (blocks lines : List ℕ) (beyond : BeyondPlans) → AreBlocks v.buses.items others blocks
    → IsFoundBeyond v (all_are_of_times v.buses.items others) lines beyond → count_of_plans v.buses.items others + count_beyond beyond ≡ 0 → HasNoFindings v
nothing_found v others blocks lines beyond are is none =
    let timed = plans_timed v.buses.items others (omega (arith, none)) in
    let here : IsFoundBeyond v true lines beyond = rw timed at is in
    let ((loops, loops_are, paths_are), (delays, delays_are, lines_are, times_are, queues_are)) = here in
    record {
      plans = all_at HasCalmPlan v.buses.items (plans_calm v.buses.items others blocks are (omega (arith, none)));
      loops = loops;
      loops_are = loops_are;
      paths = sym paths_are ∙ empty beyond.paths.items (omega (arith, none));
      delays = delays;
      delays_are = delays_are;
      times = sym times_are ∙ empty beyond.times.items (omega (arith, none));
      queues = sym queues_are ∙ empty beyond.queues.items (omega (arith, none));
    }
