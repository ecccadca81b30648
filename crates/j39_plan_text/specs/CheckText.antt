-- What the check command writes for a plan.
use Rattle.std.specs.Prelude.{◌≡◌, ℕ, ◌+◌, List, [], ◌∷◌, ◌++◌, codes, length}
use Rattle.j39_network.specs.declared.plan.Plan.{Plan}
use Rattle.j39_variants.specs.declared.line.ProductLine.{ProductLine}
use Rattle.j39_findings.specs.declared.checking.finding.Finding.{Finding}
use Rattle.j39_findings.specs.Findings.{Clean}
use Rattle.j39_findings.specs.Found.{found}
use Rattle.j39_load.specs.BusTimes.{timing_of}
use Rattle.j39_load.specs.declared.findings.load_finding.LoadFinding.{LoadFinding}
use Rattle.j39_load.specs.LoadFindings.{AreLoadFindings}
use Rattle.j39_plan_text.specs.Certified.{IsCertified}
use Rattle.j39_plan_text.specs.FindingLines.{finding_lines}
use Rattle.j39_plan_text.specs.LoadLines.{load_finding_lines}
use Rattle.j39_plan_text.specs.PlanText.{Describes, IsRefusedText}
use Rattle.j39_text.specs.Texts.{field}
use Rattle.j39_stream.specs.declared.verdict.Verdict.{Verdict}
use Rattle.j39_stream.specs.declared.verdict.Verdict.TheVariants.{Done, Findings, Refused, Unreadable}

-- how large a plan is in which nothing is wrong
unfoldable pub ok_line : Plan → List ℕ
ok_line plan =
    field (codes "ok ") (length plan.units.items) ++ (field (codes " units ") (length plan.groups.items)
    ++ (field (codes " groups ") (length plan.flows.items) ++ codes " flows\n"))

-- a line for each finding, in the order of their numbers: those on what is asked of the bus are 16 to 18, 20 and 31
unfoldable pub listed_text : Plan → List Finding → List LoadFinding → List ℕ
listed_text plan findings others = finding_lines 1 16 plan findings
    ++ (load_finding_lines 16 19 others
    ++ (finding_lines 19 20 plan findings
    ++ (load_finding_lines 20 21 others
    ++ (finding_lines 21 29 plan findings ++ load_finding_lines 31 32 others))))

-- and how many they are
unfoldable pub findings_text : Plan → List Finding → List LoadFinding → List ℕ
findings_text plan findings others = listed_text plan findings others ++ (field (codes "findings ") (length findings + length others) ++ 10 ∷ [])

-- what is written for a plan, with the verdict: one in which nothing is wrong is sound, and its frames
-- are in time
abbrev pub IsReport : Plan → List ℕ → Verdict → Type 0
IsReport plan text Done = Clean plan × AreLoadFindings plan (timing_of plan) [] × IsCertified plan × (text ≡ ok_line plan)
IsReport plan text Findings = (others : List LoadFinding) × AreLoadFindings plan (timing_of plan) others
    × ¬ ((found plan ≡ []) × (others ≡ [])) × (text ≡ findings_text plan (found plan) others)
IsReport plan text Refused = ⊥
IsReport plan text Unreadable = ⊥

-- ---- laws

-- a plan has one report
abbrev pub HasOneReport : Plan → Type 0
HasOneReport plan = (text other : List ℕ) (verdict another : Verdict)
    → IsReport plan text verdict → IsReport plan other another → (text ≡ other) × (verdict ≡ another)

-- a file that is refused has one line
abbrev pub HasOneRefusal : List ℕ → Type 0
HasOneRefusal bytes = (text other : List ℕ) → IsRefusedText bytes text → IsRefusedText bytes other → text ≡ other

-- a file that describes a line of vehicles isn't refused
abbrev pub IsNotRefused : List ℕ → Type 0
IsNotRefused bytes = (line : ProductLine) (text : List ℕ) → Describes bytes line → ¬ IsRefusedText bytes text
