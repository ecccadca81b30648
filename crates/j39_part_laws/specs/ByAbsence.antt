-- What is found of the load of a part, and which findings come by taking away.
use Rattle.std.specs.Prelude.{◌≡◌, ℕ, ◌<◌, ◌≤◌, Bool, true, false, List, length, Contains}
use Rattle.j39_findings.specs.Findings.{Holds}
use Rattle.j39_findings.specs.declared.checking.finding.Finding.{Finding}
use Rattle.j39_findings.specs.declared.checking.finding.Finding.TheVariants.{PrivateUnsent, NeedUnmet, RequestUnanswered, RequestUnheard, AnswerAstray}
use Rattle.j39_network.specs.declared.plan.Plan.{Plan}
use Rattle.j39_load.specs.BusTimes.{timing_of}
use Rattle.j39_load.specs.LoadFindings.{AreLoadFindings}
use Rattle.j39_load.specs.declared.findings.load_finding.LoadFinding.{LoadFinding}
use Rattle.j39_load.specs.declared.findings.load_finding.LoadFinding.TheVariants.{NoPeriod, Overload, LateFlow, NeedTooOld, AskedTooOften}
use Rattle.j39_part_laws.specs.PlanParts.{Places}

-- ---- on the load

-- what a finding on the load of the part says of these, which are found of the load of the whole, at its places there: of too high a load with one
-- at least as high; of what is too old nothing, since a younger flow may be away
abbrev pub IsFoundThere : Places → Plan → List LoadFinding → LoadFinding → Type 0
IsFoundThere at part there (NoPeriod f) = (f < length part.flows.items) × Contains there (NoPeriod (at.flow f))
IsFoundThere at part there (Overload n) = (m : ℕ) × (n ≤ m) × Contains there (Overload m)
IsFoundThere at part there (LateFlow f) = (f < length part.flows.items) × Contains there (LateFlow (at.flow f))
IsFoundThere at part there (NeedTooOld d) = Unit {0}
IsFoundThere at part there (AskedTooOften f) = (f < length part.flows.items) × Contains there (AskedTooOften (at.flow f))

-- so it is with all that is found of the load of either
abbrev pub AreFoundThere : Places → Plan → Plan → Type 0
AreFoundThere at part whole = (here there : List LoadFinding) → AreLoadFindings part (timing_of part) here → AreLoadFindings whole (timing_of whole) there
    → (finding : LoadFinding) → Contains here finding → IsFoundThere at part there finding

-- ---- by taking away

-- it can be found of a part, and not of the whole: what brings something isn't there
abbrev pub comes_by_absence : Finding → Bool
comes_by_absence (PrivateUnsent g) = true
comes_by_absence (NeedUnmet n) = true
comes_by_absence (RequestUnanswered r) = true
comes_by_absence (RequestUnheard r) = true
comes_by_absence (AnswerAstray r) = true
comes_by_absence _ = false

abbrev pub load_comes_by_absence : LoadFinding → Bool
load_comes_by_absence (NeedTooOld d) = true
load_comes_by_absence _ = false

-- nothing else is found of a plan, and of its load, of which these are all findings
pub record OnlyAbsenceIsFound (plan : Plan) (load : List LoadFinding) : Type 0 where
  pub plans : (finding : Finding) → Holds plan finding → comes_by_absence finding ≡ true
  pub loads : (finding : LoadFinding) → Contains load finding → load_comes_by_absence finding ≡ true

-- where that is so of the whole, it is of the part
abbrev pub OnlyAbsenceStays : Plan → Plan → Type 0
OnlyAbsenceStays part whole = (here there : List LoadFinding) → AreLoadFindings part (timing_of part) here → AreLoadFindings whole (timing_of whole) there
    → OnlyAbsenceIsFound whole there → OnlyAbsenceIsFound part here
