-- What is written behind a finding is read as the run that shows its conflict.
use Rattle.std.proofs.Common.{◌≡◌, ◌≢◌, ℕ, List, [], ◌∷◌, map, Option, Some, None, refl}
use Rattle.std.proofs.lemmas.List.Elements.{All-cons, All-nil}
use Rattle.std.proofs.lemmas.Option.{slice_get_within}
use Rattle.std.specs.List.{All}
use Rattle.std.specs.Option.{option_map_or}
use Rattle.std.specs.Prelude.{unwrap_or}
use Rattle.j39_network.specs.declared.plan.Plan.{Plan}
use Rattle.j39_findings.specs.declared.checking.finding.Finding.{Finding}
use Rattle.j39_network.specs.declared.steps.Step.{Step}
use Rattle.j39_network.specs.declared.steps.Step.TheVariants.{Up, Give}
use Rattle.j39_findings.specs.ConflictRuns.{IsConflictRun, conflict_run, conflict_steps}
use Rattle.j39_findings.proofs.ConflictLaws.{runs_are_exact}
use Rattle.j39_run_laws.proofs.Conflicts.ConflictShown.{leaves_without_address}
use Rattle.j39_schedule.specs.Schedule.{read_as, readings_of}
use Rattle.j39_schedule.specs.StepLines.{IsStepOf, IsUnit, step_lines}
use Rattle.j39_schedule.proofs.WrittenSteps.{steps_read_back}
use Rattle.j39_plan_text.specs.FindingLines.{RunShowsConflict, ShowsConflict, run_lines}

steps_of_units : (plan : Plan) (u v : ℕ) → IsUnit plan u → IsUnit plan v → All (IsStepOf plan) (conflict_steps u v)
steps_of_units plan u v first second =
    All-cons (IsStepOf plan) (Up u) (Up v ∷ Give v u ∷ Give u v ∷ []) first
    (All-cons (IsStepOf plan) (Up v) (Give v u ∷ Give u v ∷ []) second
    (All-cons (IsStepOf plan) (Give v u) (Give u v ∷ []) (second, first)
    (All-cons (IsStepOf plan) (Give u v) [] (first, second) (All-nil (IsStepOf plan)))))

-- the run that shows a conflict is one of the plan's units
steps_of_run : (plan : Plan) (finding : Finding) (steps : List Step) → IsConflictRun plan finding steps → All (IsStepOf plan) steps
steps_of_run plan finding steps run =
    let order = run.order in
    let of = steps_of_units plan run.larger run.smaller (slice_get_within plan.units.items run.larger order.one order.one_is)
    (slice_get_within plan.units.items run.smaller order.other order.other_is) in
    rw run.steps_are of

reads : (plan : Plan) (finding : Finding) (run : Option (List Step)) → conflict_run plan finding ≡ run
    → readings_of plan (option_map_or (step_lines plan) run []) ≡ map (λ step. read_as (Some step)) (unwrap_or run [])
unfolding step_lines
reads plan finding None is = steps_read_back plan [] (All-nil (IsStepOf plan))
reads plan finding (Some steps) is = steps_read_back plan steps (steps_of_run plan finding steps ((runs_are_exact plan finding).sound steps is))

pub run_reads_back : (plan : Plan) (finding : Finding)
    → readings_of plan (run_lines plan finding) ≡ map (λ step. read_as (Some step)) (unwrap_or (conflict_run plan finding) [])
unfolding run_lines
run_reads_back plan finding = reads plan finding (conflict_run plan finding) refl

shown : (plan : Plan) (finding : Finding) (run : Option (List Step)) → conflict_run plan finding ≡ run → conflict_run plan finding ≢ None
    → (steps : List Step) × ShowsConflict plan finding steps
shown plan finding None is some = absurd (some is)
shown plan finding (Some steps) is some =
    let run = (runs_are_exact plan finding).sound steps is in
    let reads = run_reads_back plan finding in (
      steps,
      record {
        lines_are = rw is at reads;
        run = run;
        shows = leaves_without_address plan finding steps run;
      },
    )

pub run_shows_conflict : RunShowsConflict
run_shows_conflict plan finding states = shown plan finding (conflict_run plan finding) refl ((runs_are_exact plan finding).complete states)
