-- What the load command writes for a plan.
use Rattle.std.specs.Prelude.{◌≡◌, ℕ, ◌+◌, ◌==◌, not, ◌||◌, if◌then◌else◌, Bool, List, [], ◌∷◌, ◌++◌, codes, count_by, length, Option, Some, None}
use Rattle.std.specs.Bool.{MatchBool}
use Rattle.std.specs.List.{list_all}
use Rattle.j39_findings.specs.declared.checking.finding.Finding.{Finding}
use Rattle.j39_network.specs.declared.plan.Plan.{Plan}
use Rattle.j39_network.specs.declared.plan.timing.Timing.{Timing}
use Rattle.j39_network.specs.declared.plan.unit_plan.UnitPlan.{UnitPlan}
use Rattle.j39_findings.specs.Findings.{finding_number}
use Rattle.j39_findings.specs.Found.{found}
use Rattle.j39_load.specs.BusTimes.{timing_of}
use Rattle.j39_load.specs.declared.waits.delay.Delay.{Delay}
use Rattle.j39_load.specs.declared.findings.load_finding.LoadFinding.{LoadFinding}
use Rattle.j39_load.specs.Asked.{asked_of, total_load}
use Rattle.j39_load.specs.LoadFindings.{AsksOfBus, all_findings, load_finding_number}
use Rattle.j39_plan_text.specs.CheckText.{IsReport}
use Rattle.j39_plan_text.specs.FindingLines.{finding_lines, is_between}
use Rattle.j39_plan_text.specs.LoadLines.{load_finding_lines, loads_text}
use Rattle.j39_stream.specs.declared.verdict.Verdict.{Verdict}
use Rattle.j39_stream.specs.declared.verdict.Verdict.TheVariants.{Done, Findings, Refused}
use Rattle.j39_text.specs.Texts.{field}

-- where a finding of this number is, addresses or identifiers aren't what they should be, and no times are reported
abbrev pub hides_times : ℕ → Bool
hides_times number = is_between 1 6 number || (is_between 9 13 number || is_between 26 29 number)

-- none of these does
abbrev pub shows_times : List Finding → Bool
shows_times findings = list_all (λ finding. not (hides_times (finding_number finding))) findings

-- those of which the lines of the load don't report: of a bus that is too full, of late flows and of old needs they do
abbrev pub is_unshown : LoadFinding → Bool
is_unshown finding = is_between 16 17 (load_finding_number finding) || is_between 31 32 (load_finding_number finding)

-- how many findings are written behind the lines of the load
abbrev pub unshown_count : List Finding → List LoadFinding → ℕ
unshown_count findings others = length findings + count_by is_unshown others

-- a line for each of these findings, as check writes them
unfoldable pub unshown_found : Plan → List Finding → List LoadFinding → List ℕ
unshown_found plan findings others = finding_lines 1 16 plan findings
    ++ (load_finding_lines 16 17 others
    ++ (finding_lines 19 20 plan findings
    ++ (finding_lines 21 29 plan findings ++ load_finding_lines 31 32 others)))

-- and how many they are
unfoldable pub unshown_lines : Plan → List Finding → List LoadFinding → List ℕ
unshown_lines plan findings others = unshown_found plan findings others ++ (field (codes "findings ") (unshown_count findings others) ++ 10 ∷ [])

-- where there are any
unfoldable pub unshown_text : Plan → List Finding → List LoadFinding → List ℕ
unshown_text plan findings others =
    if unshown_count findings others == 0 then [] else unshown_lines plan findings others

-- whether anything is found
abbrev pub load_verdict : List Finding → List LoadFinding → Verdict
load_verdict findings others = if length findings + length others == 0 then Done else Findings

-- what is written for a plan of which this is asked of its bus, with the verdict: the loads, and behind them the findings of which they don't
-- report; or what check writes, where no times are reported
abbrev pub WritesLoads : Plan → Timing → (UnitPlan → Bool) → List (Option Delay) → List ℕ → Verdict → Type 0
WritesLoads plan timing stays delays text verdict =
    let asked = asked_of timing plan stays in
    let others = all_findings plan timing (total_load timing asked) delays in
    MatchBool (shows_times (found plan))
    ((text ≡ loads_text plan timing asked delays ++ unshown_text plan (found plan) others) × (verdict ≡ load_verdict (found plan) others))
    (IsReport plan text verdict)

-- what is written for a plan, with the verdict
abbrev pub IsLoadReport : Plan → Option Timing → List ℕ → Verdict → Type 0
IsLoadReport plan None text verdict = (text ≡ codes "refused plan NoTiming\n") × (verdict ≡ Refused)
IsLoadReport plan (Some timing) text verdict = (stays : UnitPlan → Bool) × (delays : List (Option Delay))
    × AsksOfBus plan timing stays delays × WritesLoads plan timing stays delays text verdict

-- ---- laws

-- a plan has one report of its load
abbrev pub HasOneLoadReport : Plan → Type 0
HasOneLoadReport plan = (text other : List ℕ) (verdict another : Verdict)
    → IsLoadReport plan (timing_of plan) text verdict → IsLoadReport plan (timing_of plan) other another → (text ≡ other) × (verdict ≡ another)
