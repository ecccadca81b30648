-- Plans without requests.
use Rattle.std.specs.Prelude.{◌≡◌, ℕ, []}
use Rattle.j39_findings.specs.Findings.{Holds}
use Rattle.j39_network.specs.declared.plan.Plan.{Plan}
use Rattle.j39_findings.specs.declared.checking.finding.Finding.TheVariants.{RequestUnanswered, RequestUnheard, AnswerAstray, RequestRepeated}

-- of a plan without requests F21, F22, F23 and F25 say nothing
pub record AreRequestsUnfound (plan : Plan) : Type 0 where
  pub unanswered : (r : ℕ) → ¬ Holds plan (RequestUnanswered r)
  pub unheard : (r : ℕ) → ¬ Holds plan (RequestUnheard r)
  pub astray : (r : ℕ) → ¬ Holds plan (AnswerAstray r)
  pub repeated : (r s : ℕ) → ¬ Holds plan (RequestRepeated r s)

abbrev pub IsWithoutRequests : Plan → Type 0
IsWithoutRequests plan = plan.requests.items ≡ [] → AreRequestsUnfound plan
