-- What is looked for at each flow.
use Rattle.std.specs.Prelude.{ℕ, List, Option}
use Rattle.j39_load.specs.declared.waits.delay.Delay.{Delay}
use Rattle.j39_load.specs.declared.findings.load_finding.LoadFinding.{LoadFinding}
use Rattle.j39_load.specs.declared.findings.faults.FlowFault.{FlowFault}
use Rattle.j39_load.specs.declared.findings.faults.FlowFault.TheVariants.{WithoutPeriod, Lateness}
use Rattle.j39_load.specs.LoadFindings.{lateness, without_period}

abbrev pub found_at : FlowFault → ℕ → Option Delay → List LoadFinding
found_at WithoutPeriod = without_period
found_at Lateness = lateness
