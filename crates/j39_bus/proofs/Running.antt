-- A bus runs a list of steps.
use Rattle.std.proofs.Common.{◌≡◌, ℕ, suc, true, ◌+◌, ◌<◌, ◌≤◌, List, ◌++◌, length, get_or, take, drop, sym, ap, ◌∙◌, subst, arith, None}
use Rattle.std.proofs.lemmas.List.{take_more, take_all, take-append-drop, length-take-le}
use Rattle.std.proofs.Math.Seq.{drop-cons}
use Rattle.j39_network.specs.declared.plan.Plan.{Plan}
use Rattle.j39_network.specs.declared.steps.Step.{Step}
use Rattle.j39_world.specs.declared.step_error.StepError.{StepError}
use Rattle.j39_world.specs.declared.step_error.StepError.TheVariants.{Memory}
use Rattle.j39_world.specs.World.{World}
use Rattle.j39_world.specs.Run.{cause_of, refusal, takes_memory, StepsTo, RunsThrough}
use Rattle.j39_bus.specs.BusState.{BusState}
use Rattle.j39_bus.specs.Stands.{Stands, IsRefusedAt}
use Rattle.j39_bus.proofs.Standing.{runs_more}

-- the bus has come this far with these steps
abbrev pub HasRun : BusState → List Step → BusState → Type 0
HasRun old steps new = (plan : Plan) (w : World) → Stands old plan w → (after : World) × RunsThrough plan w steps after × Stands new plan after

module _ (old mid new : BusState) (steps : List Step) (place : ℕ) (d : Step) (inside : place < length steps) (ran : HasRun old (take place steps) mid) where
  pub run_more : ((plan : Plan) (w : World) → Stands mid plan w
      → (refusal plan w (get_or steps place d) ≡ None) × ((after : World) × StepsTo plan w (get_or steps place d) after × Stands new plan after))
      → HasRun old (take (place + 1) steps) new
  run_more done = λ plan w s.
      let (before, runs, s') = ran plan w s in
      let (allowed, (after, leads, s'')) = done plan before s' in (
        after,
        subst (λ (l : List Step). RunsThrough plan w l after) (sym (take_more steps place d inside))
            (runs_more plan w (take place steps) before (get_or steps place d) after runs allowed leads),
        s'',
      )

  pub run_refused : new ≡ mid → (e : StepError) → ((plan : Plan) (w : World) → Stands mid plan w → refusal plan w (get_or steps place d) ≡ cause_of e)
      → (e ≡ Memory → takes_memory (get_or steps place d) ≡ true) → IsRefusedAt old new steps place e
  run_refused same e refuses memory = record {
    done = take place steps;
    step = get_or steps place d;
    rest = drop (suc place) steps;
    parts = sym (ap (λ (l : List Step). take place steps ++ l) (sym (drop-cons steps place d inside)) ∙ take-append-drop place steps);
    count = length-take-le place steps (omega arith);
    ran = λ plan w s.
        let (before, runs, s') = ran plan w s in
        (before, runs, subst (λ (b : BusState). Stands b plan before) (sym same) s', refuses plan before s');
    memory = memory;
  }

-- all of them
pub run_all : (old new : BusState) (steps : List Step) (place : ℕ) → length steps ≤ place → HasRun old (take place steps) new → HasRun old steps new
run_all old new steps place past ran = subst (λ (l : List Step). HasRun old l new) (take_all place steps past) ran
