-- For a plan and a log an audit writes one text.
use Rattle.std.specs.Prelude.{◌≡◌, ℕ, Bool, List, Option}
use Rattle.j39_network.specs.declared.plan.Plan.{Plan}
use Rattle.j39_stream.specs.declared.verdict.Verdict.{Verdict}
use Rattle.j39_audit.specs.AuditText.{IsAudit}

abbrev pub AuditHasOneText : Type 0
AuditHasOneText = (plan : Plan) (part : Bool) (stamps : ℕ) (quiet : Option ℕ) (log text other : List ℕ) (verdict outcome : Verdict)
    → IsAudit plan part stamps quiet log text verdict → IsAudit plan part stamps quiet log other outcome → (text ≡ other) × (verdict ≡ outcome)
