-- Where a need is too old, something is known of the bus.
use Rattle.std.proofs.Common.{◌≡◌, ℕ, List, true, Option, Some, None, is_some, option_map, refl, sym, ap, subst, ◌∙◌}
use Rattle.std.specs.List.{Contains}
use Rattle.j39_load.specs.BusTimes.{timing_of, with_claims}
use Rattle.j39_load.specs.LoadFindings.{AreLoadFindings}
use Rattle.j39_load.specs.declared.findings.load_finding.LoadFinding.{LoadFinding}
use Rattle.j39_load.specs.declared.findings.load_finding.LoadFinding.TheVariants.{NeedTooOld}
use Rattle.j39_network.specs.declared.plan.Plan.{Plan}
use Rattle.j39_network.specs.declared.plan.timing.Timing.{Timing}
use Rattle.j39_variants.specs.declared.line.ProductLine.{ProductLine}
use Rattle.j39_line_findings.specs.LineFound.{AreVariantFindings, IsFound}
use Rattle.j39_line_findings.specs.declared.line_finding.LineFinding.{LineFinding}
use Rattle.j39_line_findings.specs.declared.line_finding.LineFinding.TheVariants.{OfLoad}
use Rattle.j39_line_laws.proofs.OldNeeds.{old_in_plan}
use Rattle.j39_line_check.proofs.ReportedInOrder.{none_in}

timed_plan : (plan : Plan) (others : List LoadFinding) (x : LoadFinding) → AreLoadFindings plan (timing_of plan) others → Contains others x
    → is_some plan.timing ≡ true
unfolding timing_of
timed_plan plan others x are found = go plan.timing are
  where
    go : (o : Option Timing) → AreLoadFindings plan (option_map (with_claims plan) o) others → is_some o ≡ true
    go None none = absurd (none_in x (subst (λ l. Contains l x) none found))
    go (Some timing) known = refl

pub is_timed : (line : ProductLine) (v : List ℕ) (findings : List LineFinding) (d : ℕ) → AreVariantFindings line v findings
    → IsFound findings (OfLoad (NeedTooOld d)) → is_some line.plan.timing ≡ true
is_timed line v findings d are found =
    let old = old_in_plan line v findings are d found in
    ap is_some (sym are.is_plan.has_timing) ∙ timed_plan are.plan are.others (NeedTooOld old.0) are.are_others old.1
