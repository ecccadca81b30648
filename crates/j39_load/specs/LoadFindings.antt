-- What is wrong with what the flows of a plan ask of its bus, in the order in which it is reported: flows without a period, a load above the
-- bitrate, flows that aren't shown to be in time, needs for what isn't shown to be young enough, and flows that are asked for too often.
use Rattle.std.specs.Prelude.{◌≡◌, ℕ, ◌<◌, Bool, false, not, nat_lt, if◌then◌else◌, List, [], ◌∷◌, ◌++◌, Option, Some, None}
use Rattle.std.specs.Option.{option_map_or}
use Rattle.j39_network.specs.declared.plan.Plan.{Plan}
use Rattle.j39_network.specs.declared.plan.flow_plan.FlowPlan.{FlowPlan}
use Rattle.j39_network.specs.declared.plan.request_plan.RequestPlan.{RequestPlan}
use Rattle.j39_network.specs.declared.plan.timing.Timing.{Timing}
use Rattle.j39_network.specs.declared.plan.unit_plan.UnitPlan.{UnitPlan}
use Rattle.j39_load.specs.declared.waits.delay.Delay.{Delay}
use Rattle.j39_load.specs.declared.waits.delay.Delay.TheVariants.{Beyond, Late, Whole}
use Rattle.j39_load.specs.declared.findings.load_finding.LoadFinding.{LoadFinding}
use Rattle.j39_load.specs.declared.findings.load_finding.LoadFinding.TheVariants.{NoPeriod, Overload, LateFlow, NeedTooOld, AskedTooOften}
use Rattle.j39_load.specs.declared.waits.whole_time.WholeTime.{WholeTime}
use Rattle.j39_load.specs.Ages.{is_in_limit, old_needs}
use Rattle.j39_load.specs.AskedFlows.{is_asked_too_often}
use Rattle.j39_load.specs.Asked.{asked_of, total_load}
use Rattle.j39_load.specs.Damage.{load_of_damage}
use Rattle.j39_load.specs.Delays.{AreFlowDelays}
use Rattle.j39_load.specs.Loads.{bits_of_second}
use Rattle.j39_load.specs.LineLists.{lines_of_each}
use Rattle.j39_findings.specs.Standing.{DecidesWhoStays}

-- the number under which a finding is known
abbrev pub load_finding_number : LoadFinding → ℕ
load_finding_number (NoPeriod flow) = 16
load_finding_number (Overload bits) = 17
load_finding_number (LateFlow flow) = 18
load_finding_number (NeedTooOld need) = 20
load_finding_number (AskedTooOften flow) = 31

-- the flow at a place has no period, and so no delay is reported of it
abbrev pub without_period : ℕ → Option Delay → List LoadFinding
without_period flow None = NoPeriod flow ∷ []
without_period flow (Some delay) = []

-- the time of long messages to all, where each of them keeps it
abbrev pub time_of_each : WholeTime → Option ℕ
time_of_each whole = if whole.each then whole.bits else None

-- the deadline of long messages to all is written, and not each of them is shown to be whole within it
abbrev pub is_whole_late : WholeTime → Bool
is_whole_late whole = option_map_or (λ limit. not (is_in_limit limit (time_of_each whole))) whole.limit false

-- no wait of the flow at a place is within its limit; or its long messages to all aren't shown to be whole within a
-- deadline that is written
abbrev pub lateness : ℕ → Option Delay → List LoadFinding
lateness flow (Some Late) = LateFlow flow ∷ []
lateness flow (Some (Beyond bits)) = LateFlow flow ∷ []
lateness flow (Some (Whole whole)) = if is_whole_late whole then LateFlow flow ∷ [] else []
lateness flow _ = []

-- the load is more than the bus carries in a second
abbrev pub overload : Timing → ℕ → List LoadFinding
overload timing load = if nat_lt (bits_of_second timing.bitrate) load then Overload load ∷ [] else []

abbrev pub load_findings : Timing → ℕ → List (Option Delay) → List LoadFinding
load_findings timing load delays = lines_of_each without_period 0 delays ++ (overload timing load ++ lines_of_each lateness 0 delays)

-- what comes of damaged frames alone is more than the bus carries
abbrev pub IsFullOfDamage : Option Timing → Type 0
IsFullOfDamage None = ⊥
IsFullOfDamage (Some timing) = bits_of_second timing.bitrate < load_of_damage timing

-- the flow at a place is asked for too often
abbrev pub too_often : List RequestPlan → ℕ → FlowPlan → List LoadFinding
too_often requests flow planned = if is_asked_too_often requests planned then AskedTooOften flow ∷ [] else []

abbrev pub flows_asked_too_often : List RequestPlan → List FlowPlan → List LoadFinding
flows_asked_too_often requests flows = lines_of_each (too_often requests) 0 flows

-- what is wrong with the ages of what units need, and with how often flows are asked for
abbrev pub further_findings : Plan → Timing → List (Option Delay) → List LoadFinding
further_findings plan timing delays =
    old_needs timing plan.requests.items plan.flows.items delays plan.needs.items ++ flows_asked_too_often plan.requests.items plan.flows.items

-- with these
abbrev pub all_findings : Plan → Timing → ℕ → List (Option Delay) → List LoadFinding
all_findings plan timing load delays = load_findings timing load delays ++ further_findings plan timing delays

-- what a plan asks of a bus: what each flow does, by who stays, and how long its frames wait
pub record AsksOfBus (plan : Plan) (timing : Timing) (stays : UnitPlan → Bool) (delays : List (Option Delay)) : Type 0 where
  pub standing : DecidesWhoStays plan stays
  pub waits : AreFlowDelays timing (asked_of timing plan stays) delays

-- this is what is wrong: nothing where nothing is known of the bus
abbrev pub AreLoadFindings : Plan → Option Timing → List LoadFinding → Type 0
AreLoadFindings plan None findings = findings ≡ []
AreLoadFindings plan (Some timing) findings = (stays : UnitPlan → Bool) × (delays : List (Option Delay))
    × AsksOfBus plan timing stays delays × (findings ≡ all_findings plan timing (total_load timing (asked_of timing plan stays)) delays)
