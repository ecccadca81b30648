use Rattle.std.proofs.Common.{◌≡◌, ℕ, [], ap, sym, ◌∙◌}
use Rattle.std.specs.List.{slice_get}
use Rattle.std.proofs.lemmas.Option.{none-some}
use Rattle.j39_network.specs.declared.plan.Plan.{Plan}
use Rattle.j39_findings.specs.declared.checking.finding.Finding.TheVariants.{TextOutside}
use Rattle.j39_findings.specs.Findings.{Holds}
use Rattle.j39_network.specs.TextPlaces.{HasNoTexts}
use Rattle.j39_search.proofs.Members.{all_at}
use Rattle.j39_findings.proofs.laws.texts.plans_without_texts.Goals as goal

none_outside : (plan : Plan) → HasNoTexts plan → (g t : ℕ) → ¬ Holds plan (TextOutside g t)
none_outside plan none g t v =
    let here = all_at (λ group. group.texts.items ≡ []) plan.groups.items none g v.value v.value_is in
    none-some _ (ap (λ texts. slice_get texts t) (sym here) ∙ v.meets.value_is)

pub returns : goal.returns
returns c = none_outside
