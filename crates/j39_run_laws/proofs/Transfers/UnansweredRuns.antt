-- From where a message that no receiver answers was begun some run spares it, and all of it is taken.
use Rattle.std.proofs.Common.{◌≡◌, ◌≢◌, ℕ, true, eqb, List, [], ◌∷◌, inl, inr, refl, sym, subst, arith, Option, Some, None}
use Rattle.std.proofs.lemmas.Bool.{eqb-true, or_cases}
use Rattle.j39_network.specs.declared.plan.Plan.{Plan}
use Rattle.j39_network.specs.declared.steps.Step.{Step}
use Rattle.j39_network.specs.declared.steps.Step.TheVariants.{Emit, Take}
use Rattle.j39_world.specs.declared.step_error.StepError.{StepError}
use Rattle.j39_world.specs.Arriving.{CanArriveUnanswered, IsThrough, RunSparing, Spares}
use Rattle.j39_world.specs.Ending.{IsOfTransfers}
use Rattle.j39_world.specs.Run.{Follows, count_of, refusal}
use Rattle.j39_world.specs.SoundPlan.{Always}
use Rattle.j39_world.specs.Transfers.{is_among}
use Rattle.j39_world.specs.TransferSteps.{begins, outgoing}
use Rattle.j39_world.specs.World.{World}
use Rattle.j39_run_laws.proofs.Transfers.ByLowering.{reaches}
use Rattle.j39_run_laws.proofs.Transfers.FitSteps.{IsWorldFit, begin_fits, worlds_fit}
use Rattle.j39_run_laws.proofs.Transfers.Lowering.{left_of}

module _ (plan : Plan) (u : ℕ) (targets : List ℕ) where
  -- a run from here
  record Comes (w : World) : Type 0 where
    steps : List Step
    after : World
    runs : RunSparing plan u targets w steps after
    through : IsThrough plan after u targets

  -- a step that goes on with it and isn't refused
  abbrev GoesOn : World → Type 0
  GoesOn w = (step : Step) → IsOfTransfers step → Spares plan w u targets step → refusal plan w step ≡ None → Comes w

  -- some of these can take more of u, or none
  by_taking : (w : World) (list : List ℕ) → GoesOn w → (((v : ℕ) → is_among list v ≡ true → refusal plan w (Take u v) ≢ None) → Comes w) → Comes w
  by_taking w [] goes through = through (λ v none. absurd (cc none))
  by_taking w (x ∷ list) goes through =
      elim (refusal plan w (Take u x)) as (λ (r : Option StepError). refusal plan w (Take u x) ≡ r → Comes w) [
        | None ↦ λ none. goes (Take u x) tt tt none
        | Some e ↦ λ some. by_taking w list goes (λ rest. through (λ v among.
            elim (or_cases (eqb v x) (is_among list v) among) [
              | inl is ↦ subst (λ (k : ℕ). refusal plan w (Take u k) ≢ None) (sym (eqb-true v x is)) (λ none. cc (some, none))
              | inr later ↦ rest v later
            ]))
      ] refl

  -- there is a step that goes on, or all was sent and taken
  by_step : (w : World) → GoesOn w → Comes w
  by_step w goes =
      elim (refusal plan w (Emit u)) as (λ (r : Option StepError). refusal plan w (Emit u) ≡ r → Comes w) [
        | None ↦ λ none. goes (Emit u) tt tt none
        | Some e ↦ λ some. by_taking w targets goes (λ taken. record {
          steps = [];
          after = w;
          runs = refl;
          through = record { sent = λ none. cc (some, none); taken = taken };
        })
      ] refl

  further : (w : World) (step : Step) → Spares plan w u targets step → (mid : World) → Follows plan w step mid → Comes mid → Comes w
  further w step spares mid follows more = record {
    steps = step ∷ more.steps;
    after = more.after;
    runs = (spares, (mid, follows, more.runs));
    through = more.through;
  }

  comes : (w : World) → IsWorldFit w → Comes w
  comes w fit = reaches plan Comes (λ v step. Spares plan v u targets step) by_step further (left_of (count_of plan) w) w fit (omega arith)

pub can_arrive_unanswered : (plan : Plan) → Always plan (CanArriveUnanswered plan)
can_arrive_unanswered plan before w run f flow bytes planned unanswered allowed =
    let begun : World = begins (count_of plan) w f flow bytes in
    let targets : List ℕ = (outgoing (count_of plan) w.stations f flow bytes).targets in
    let fit : IsWorldFit begun = begin_fits plan w (worlds_fit plan before w run) f bytes (Some flow) planned allowed begun refl in
    let run_on : Comes plan flow.sender targets begun = comes plan flow.sender targets begun fit in
    (run_on.steps, run_on.after, run_on.runs, run_on.through)
