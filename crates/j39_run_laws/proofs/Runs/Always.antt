-- What holds in every world of every run.
use Rattle.std.proofs.Common.{◌≡◌, List, [], ◌∷◌, ◌++◌, refl, sym, subst, Option, Some, None}
use Rattle.std.specs.Bool.{MatchBool}
use Rattle.std.specs.Option.{is_some}
use Rattle.j39_network.specs.declared.plan.Plan.{Plan}
use Rattle.j39_network.specs.declared.steps.Step.{Step}
use Rattle.j39_world.specs.declared.step_error.StepError.{StepError}
use Rattle.j39_world.specs.World.{World, all_off}
use Rattle.j39_world.specs.Run.{refusal, StepsTo, Follows, Run, RunsThrough}
use Rattle.j39_world.specs.SoundPlan.{Always}

-- each step that is not refused keeps it
abbrev pub IsPreserved : Plan → (World → Type 0) → Type 0
IsPreserved plan Holds = (w : World) → Holds w → (step : Step) → refusal plan w step ≡ None → (new : World) → StepsTo plan w step new → Holds new

module _ (plan : Plan) (Holds : World → Type 0) (keeps : IsPreserved plan Holds) where
  holds_next : (w : World) → Holds w → (step : Step) (new : World) → Follows plan w step new → Holds new
  holds_next w here step new =
      elim (refusal plan w step)
      as (λ (o : Option StepError). refusal plan w step ≡ o → MatchBool (is_some o) (new ≡ w) (StepsTo plan w step new) → Holds new) [
        | Some e ↦ λ _ same. subst Holds (sym same) here
        | None ↦ λ allowed leads. keeps w here step allowed new leads
      ] refl

  holds_behind : (steps : List Step) (w new : World) → Holds w → Run plan w steps new → Holds new
  holds_behind [] w new here same = subst Holds (sym same) here
  holds_behind (step ∷ steps) w new here (mid, follows, more) = holds_behind steps mid new (holds_next w here step mid follows) more

-- what the first world has and each step keeps
pub always : (plan : Plan) (Holds : World → Type 0) → Holds all_off → IsPreserved plan Holds → Always plan Holds
always plan Holds at_first keeps steps w run = holds_behind plan Holds keeps steps all_off w at_first run

-- ---- what is known in each world of a run

-- a run, and a step behind it
pub one_more : (plan : Plan) (w mid new : World) (steps : List Step) (step : Step) → Run plan w steps mid → Follows plan mid step new
    → Run plan w (steps ++ step ∷ []) new
one_more plan w mid new [] step same follows = (new, subst (λ (x : World). Follows plan x step new) same follows, refl)
one_more plan w mid new (first ∷ steps) step (next, leads, more) follows = (next, leads, one_more plan next mid new steps step more follows)

-- what the first world has, and each step keeps that leads on from a world of a run
module _ (plan : Plan) (Known Holds : World → Type 0) (known : Always plan Known)
    (keeps : (w : World) → Known w → Holds w → (step : Step) → refusal plan w step ≡ None → (new : World) → StepsTo plan w step new → Holds new) where
  next_with : (w : World) → Known w → Holds w → (step : Step) (new : World) → Follows plan w step new → Holds new
  next_with w is here step new =
      elim (refusal plan w step)
      as (λ (o : Option StepError). refusal plan w step ≡ o → MatchBool (is_some o) (new ≡ w) (StepsTo plan w step new) → Holds new) [
        | Some e ↦ λ _ same. subst Holds (sym same) here
        | None ↦ λ allowed leads. keeps w is here step allowed new leads
      ] refl

  after_with : (before more : List Step) (mid w : World) → Run plan all_off before mid → Holds mid → Run plan mid more w → Holds w
  after_with before [] mid w past here same = subst Holds (sym same) here
  after_with before (step ∷ more) mid w past here (next, follows, rest) =
      after_with (before ++ step ∷ []) more next w (one_more plan all_off mid next before step past follows)
      (next_with mid (known before mid past) here step next follows) rest

  pub always_with : Holds all_off → Always plan Holds
  always_with at_first steps w run = after_with [] steps all_off w refl at_first run

-- ---- steps that are not refused

module _ (plan : Plan) (w : World) (step : Step) (allowed : refusal plan w step ≡ None) (new : World) where
  pub follows_to_leads : Follows plan w step new → StepsTo plan w step new
  follows_to_leads follows = subst (λ (o : Option StepError). MatchBool (is_some o) (new ≡ w) (StepsTo plan w step new)) allowed follows

  pub leads_to_follows : StepsTo plan w step new → Follows plan w step new
  leads_to_follows leads = subst (λ (o : Option StepError). MatchBool (is_some o) (new ≡ w) (StepsTo plan w step new)) (sym allowed) leads

-- a run without a refusal
pub through : (plan : Plan) (w : World) (steps : List Step) (after : World) → RunsThrough plan w steps after → Run plan w steps after
through plan w [] after is = is
through plan w (step ∷ steps) after (mid, allowed, leads, more) =
    (mid, leads_to_follows plan w step allowed mid leads, through plan mid steps after more)
