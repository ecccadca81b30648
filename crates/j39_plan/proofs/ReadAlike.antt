-- Trees that are read alike.
use Rattle.std.proofs.Common.{◌≡◌, ◌↔◌, Some, Result, Ok, Err, refl, sym, subst, ◌∙◌}
use Rattle.std.proofs.lemmas.Option.{same_Some, none-some}
use Rattle.toml.specs.Data.{Members}
use Rattle.j39_network.specs.declared.plan.Plan.{Plan}
use Rattle.j39_plan.specs.PlanErrors.{PlanError}
use Rattle.j39_toml.specs.declared.file_error.FileError.TheVariants as errors
use Rattle.j39_toml.specs.Outcome.{first}
use Rattle.j39_plan.specs.PlanFaults.{faults}
use Rattle.j39_plan.specs.Described.{DescribesPlan, Described, Reads}
use Rattle.j39_plan.specs.Versions.{ReadAlike}
use Rattle.j39_plan.proofs.Absent.{Alike, alike_none}

reads_as : (s t : Members) (stated : (p : Plan) → DescribesPlan s p → DescribesPlan t p) → Alike (faults s) (faults t)
    → (answer : Result Plan PlanError) → Reads answer (Some s) → Reads answer (Some t)
reads_as s t stated alike (Ok p) (u, is, described) =
    let here : Described s p = subst (λ (x : Members). Described x p) (sym (same_Some _ _ is)) described in
    (t, refl, (alike_none (faults s) (faults t) alike here.0, stated p here.1))
reads_as s t stated alike (Err errors.Text) is = absurd (none-some _ (sym is))
reads_as s t stated alike (Err (errors.Fault f)) (u, is, found) =
    let here : first (faults s) ≡ Some f = subst (λ (x : Members). first (faults x) ≡ Some f) (sym (same_Some _ _ is)) found in
    (t, refl, sym alike ∙ here)
reads_as s t stated alike (Err errors.Memory) is = tt

-- trees of which the first faults are one, and which report the same plans, are read alike
pub reads_alike : (s t : Members) (stated : (p : Plan) → DescribesPlan s p ↔ DescribesPlan t p) → Alike (faults s) (faults t) → ReadAlike s t
reads_alike s t stated alike = λ answer.
    (reads_as s t (λ p. (stated p).0) alike answer, reads_as t s (λ p. (stated p).1) (sym alike) answer)
