-- From where a message of several frames to one unit was begun some run spares it, and all of it is taken.
use Rattle.std.proofs.Common.{◌≡◌, ◌≢◌, ℕ, List, [], ◌∷◌, refl, arith, Option, Some, None}
use Rattle.std.specs.List.{All}
use Rattle.std.proofs.lemmas.List.Elements.{All-nil, All-cons}
use Rattle.j39_network.specs.declared.plan.Plan.{Plan}
use Rattle.j39_network.specs.declared.steps.Step.{Step}
use Rattle.j39_network.specs.declared.steps.Step.TheVariants.{Emit, Take}
use Rattle.j39_world.specs.declared.step_error.StepError.{StepError}
use Rattle.j39_world.specs.Arriving.{SparesBetween, SparingRun, IsThroughBetween, BeginsOther, CanArriveAnswered}
use Rattle.j39_world.specs.Ending.{IsOfTransfers}
use Rattle.j39_world.specs.Run.{Follows, count_of, refusal}
use Rattle.j39_world.specs.SoundPlan.{Always}
use Rattle.j39_world.specs.TransferSteps.{begins}
use Rattle.j39_world.specs.World.{World}
use Rattle.j39_run_laws.proofs.Transfers.ByLowering.{passage_of, reaches}
use Rattle.j39_run_laws.proofs.Transfers.FitSteps.{IsWorldFit, begin_fits, worlds_fit}
use Rattle.j39_run_laws.proofs.Transfers.Lowering.{left_of}

module _ (plan : Plan) (u v pgn : ℕ) where
  -- a run from here
  record Comes (w : World) : Type 0 where
    steps : List Step
    after : World
    runs : SparingRun plan u v w steps after
    through : IsThroughBetween plan after u v
    others : All (BeginsOther plan v u pgn) steps

  -- a step that spares it, and begins no other message of the receiver
  abbrev MayCome : World → Step → Type 0
  MayCome w step = SparesBetween plan w u v step × BeginsOther plan v u pgn step

  -- a step that goes on with it and isn't refused
  abbrev GoesOn : World → Type 0
  GoesOn w = (step : Step) → IsOfTransfers step → MayCome w step → refusal plan w step ≡ None → Comes w

  -- there is one, or all was sent and taken
  by_step : (w : World) → GoesOn w → Comes w
  by_step w goes =
      if_refused (Emit u) (goes (Emit u) tt (tt, tt))
      (λ sent. if_refused (Take u v) (goes (Take u v) tt (tt, tt))
      (λ taken. if_refused (Take v u) (goes (Take v u) tt (tt, tt))
      (λ answered. record {
        steps = [];
        after = w;
        runs = refl;
        through = record { sent = sent; taken = taken; answered = answered };
        others = All-nil (BeginsOther plan v u pgn);
      })))
    where
      if_refused : (step : Step) → (refusal plan w step ≡ None → Comes w) → (refusal plan w step ≢ None → Comes w) → Comes w
      if_refused step allowed refused =
          elim (refusal plan w step) as (λ (x : Option StepError). refusal plan w step ≡ x → Comes w) [
            | None ↦ λ none. allowed none
            | Some e ↦ λ some. refused (λ none. cc (some, none))
          ] refl

  further : (w : World) (step : Step) → MayCome w step → (mid : World) → Follows plan w step mid → Comes mid → Comes w
  further w step (spares, other) mid follows more = record {
    steps = step ∷ more.steps;
    after = more.after;
    runs = (spares, (mid, follows, more.runs));
    through = more.through;
    others = All-cons (BeginsOther plan v u pgn) step more.steps other more.others;
  }

  comes : (w : World) → IsWorldFit w → Comes w
  comes w fit = reaches plan Comes MayCome by_step further (left_of (count_of plan) w) w fit (omega arith)

pub can_arrive : (plan : Plan) → Always plan (CanArriveAnswered plan)
can_arrive plan before w run f flow v bytes planned one several allowed other =
    let begun : World = begins (count_of plan) w f flow bytes in
    let fit : IsWorldFit begun = begin_fits plan w (worlds_fit plan before w run) f bytes (Some flow) planned allowed begun refl in
    let run_on : Comes plan flow.sender v flow.pgn begun = comes plan flow.sender v flow.pgn begun fit in (
      record {
        passage = passage_of plan f flow bytes v run_on.steps run_on.after planned;
        one = one;
        several = several;
        allowed = allowed;
        runs = run_on.runs;
        through = run_on.through;
      },
      refl,
      refl,
      record { first = other; since = run_on.others },
    )
