-- The text that the vehicle command writes of a vehicle.
use Rattle.std.specs.Prelude.{◌≡◌, ◌⊎◌, ℕ, ◌+◌, ◌==◌, if◌then◌else◌, Bool, List, [], ◌∷◌, ◌++◌, codes, length, Some}
use Rattle.std.specs.Bool.{MatchBool}
use Rattle.j39_load.specs.declared.findings.load_finding.LoadFinding.{LoadFinding}
use Rattle.j39_stream.specs.declared.verdict.Verdict.{Verdict}
use Rattle.j39_stream.specs.declared.verdict.Verdict.TheVariants.{Done, Findings, Unreadable}
use Rattle.j39_text.specs.Texts.{field}
use Rattle.j39_toml.specs.Outcome.{first}
use Rattle.j39_vehicle.specs.Resolved.{StandsForFile, found_faults}
use Rattle.j39_vehicle.specs.declared.file.VehicleFile.{VehicleFile}
use Rattle.j39_vehicle.specs.VehicleErrors.{VehicleFault, VehicleError}
use Rattle.j39_vehicle.specs.declared.vehicle.Vehicle.{Vehicle}
use Rattle.j39_vehicle.specs.declared.vehicle.bus_plan.BusPlan.{BusPlan}
use Rattle.j39_vehicle_findings.specs.FoundPaths.{path_findings, queue_findings}
use Rattle.j39_vehicle_findings.specs.Loops.{DecidesLoops}
use Rattle.j39_vehicle_findings.specs.declared.finding.VehicleFinding.{VehicleFinding}
use Rattle.j39_vehicle_times.specs.BusDelays.{AreDelays}
use Rattle.j39_vehicle_times.specs.FoundTimes.{time_findings}
use Rattle.j39_vehicle_times.specs.declared.bus_delays.Delays.{Delays}
use Rattle.j39_vehicle_text.specs.CertifiedVehicle.{IsCertifiedVehicle}
use Rattle.j39_vehicle_text.specs.ForwardLines.{forward_lines}
use Rattle.j39_vehicle_text.specs.NeedLines.{vehicle_need_lines}
use Rattle.j39_vehicle_text.specs.VehicleBlocks.{AreBlocks, all_are_of_times, count_of_plans}
use Rattle.j39_vehicle_text.specs.VehicleFileText.{IsVehicleRefusal, vehicle_fault_line}
use Rattle.j39_vehicle_text.specs.declared.beyond_plans.BeyondPlans.{BeyondPlans}
use Rattle.j39_vehicle_text.specs.VehicleFindingLines.{time_finding_lines, vehicle_finding_lines}

-- ---- what is reported beyond the plans

-- the lines of forwards and needs, and what is wrong with times and queues
abbrev pub ShowsTimes : Vehicle → List ℕ → BeyondPlans → Type 0
ShowsTimes v lines found = (delays : Delays) × AreDelays v delays × (lines ≡ forward_lines v delays ++ vehicle_need_lines v delays)
    × (found.times.items ≡ time_findings v delays) × (found.queues.items ≡ queue_findings v)

abbrev pub ShowsNoTimes : List ℕ → BeyondPlans → Type 0
ShowsNoTimes lines found = (lines ≡ []) × (found.times.items ≡ []) × (found.queues.items ≡ [])

-- what is wrong with forwards and needs
abbrev pub ArePathsFound : Vehicle → List VehicleFinding → Type 0
ArePathsFound v paths = (loops : List Bool) × DecidesLoops v loops × (paths ≡ path_findings loops v)

-- and with times and queues
abbrev pub AreAllFound : Vehicle → Delays → BeyondPlans → Type 0
AreAllFound v delays found =
    ArePathsFound v found.paths.items × (found.times.items ≡ time_findings v delays) × (found.queues.items ≡ queue_findings v)

-- forwards and needs are looked at in any vehicle; times and queues where no plan has a finding but of times
abbrev pub IsFoundBeyond : Vehicle → Bool → List ℕ → BeyondPlans → Type 0
IsFoundBeyond v timed lines found = ArePathsFound v found.paths.items × MatchBool timed (ShowsTimes v lines found) (ShowsNoTimes lines found)

abbrev pub count_beyond : BeyondPlans → ℕ
count_beyond found = length found.paths.items + length found.times.items + length found.queues.items

-- ---- the text

-- a line for each finding, by number and places
unfoldable pub beyond_lines : Vehicle → BeyondPlans → List ℕ
beyond_lines v found = vehicle_finding_lines v found.paths.items
    ++ (time_finding_lines found.times.items ++ vehicle_finding_lines v found.queues.items)

-- how large a vehicle is in which nothing is wrong
unfoldable pub vehicle_ok_line : Vehicle → List ℕ
vehicle_ok_line v = field (codes "ok ") (length v.buses.items) ++ (field (codes " buses ") (length v.gateways.items)
    ++ (field (codes " gateways ") (length v.forwards.items) ++ (field (codes " forwards ") (length v.needs.items) ++ codes " needs\n")))

-- the last line, by how many findings there are, those of the plans among them
unfoldable pub end_line : Vehicle → ℕ → List ℕ
end_line v count = if count == 0 then vehicle_ok_line v else field (codes "findings ") count ++ 10 ∷ []

abbrev pub end_verdict : ℕ → Verdict
end_verdict count = if count == 0 then Done else Findings

-- what is written of a vehicle, with the verdict: what is reported of the plan of each bus, the lines of forwards and needs, all that is wrong
-- beyond the plans, and how many findings there are
pub record IsVehicleReport (v : Vehicle) (text : List ℕ) (verdict : Verdict) : Type 0 where
  pub others : List (List LoadFinding)
  pub blocks : List ℕ
  pub blocks_are : AreBlocks v.buses.items others blocks
  pub lines : List ℕ
  pub beyond : BeyondPlans
  pub beyond_is : IsFoundBeyond v (all_are_of_times v.buses.items others) lines beyond
  pub count : ℕ
  pub count_is : count ≡ count_of_plans v.buses.items others + count_beyond beyond
  pub certified : count ≡ 0 → IsCertifiedVehicle v
  pub text_is : text ≡ blocks ++ (lines ++ (beyond_lines v beyond ++ end_line v count))
  pub verdict_is : verdict ≡ end_verdict count

-- ---- with the plans of its buses

-- the line of a refusal
abbrev pub RefusesWith : VehicleError → List ℕ → Verdict → Type 0
RefusesWith error text verdict = IsVehicleRefusal error text × (verdict ≡ Unreadable)

-- the file describes a vehicle with these buses, and this is written of it; or it names what isn't there
abbrev pub IsVehicleText : VehicleFile → List BusPlan → List ℕ → Verdict → Type 0
IsVehicleText file buses text verdict =
    ((v : Vehicle) × (found_faults buses file ≡ []) × StandsForFile buses file v × IsVehicleReport v text verdict)
    ⊎ ((fault : VehicleFault) × (first (found_faults buses file) ≡ Some fault) × (text ≡ vehicle_fault_line fault) × (verdict ≡ Unreadable))
