-- What is written for a plan and a log that is audited by it.
use Rattle.std.specs.Prelude.{◌≡◌, ◌⊎◌, ℕ, ◌==◌, ◌||◌, nat_le, Bool, true, false, List, Option}
use Rattle.std.specs.List.{list_any}
use Rattle.j39_findings.specs.Findings.{finding_number}
use Rattle.j39_findings.specs.Found.{found}
use Rattle.j39_findings.specs.declared.checking.finding.Finding.{Finding}
use Rattle.j39_network.specs.declared.plan.Plan.{Plan}
use Rattle.j39_plan_text.specs.CheckText.{IsReport}
use Rattle.j39_stream.specs.declared.verdict.Verdict.{Verdict}
use Rattle.j39_audit.specs.AuditText.{IsAudit}
use Rattle.j39_app.specs.Known.{AreOf}

-- a finding of this number hinders an audit: addresses or identifiers aren't what they should be. These are F1 to F12, F24, and F26 to F28
abbrev pub is_hindering : ℕ → Bool
is_hindering number = nat_le number 12 || (number == 24 || nat_le 26 number)

abbrev pub hinders : Finding → Bool
hinders finding = is_hindering (finding_number finding)

-- no log can be audited by the plan
abbrev pub is_hindered : Plan → Bool
is_hindered plan = list_any hinders (found plan)

-- what the check command writes of a plan by which no log can be audited, else what the audit finds in the whole log
abbrev pub IsAuditOf : Bool → ℕ → Option ℕ → Plan → Option (List ℕ) → List ℕ → Verdict → Type 0
IsAuditOf part stamps quiet plan known text verdict =
    ((is_hindered plan ≡ true) × IsReport plan text verdict)
    ⊎ ((is_hindered plan ≡ false) × ((log : List ℕ) × AreOf known log × IsAudit plan part stamps quiet log text verdict))
