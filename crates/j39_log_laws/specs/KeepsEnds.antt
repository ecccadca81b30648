-- Plans whose messages go on between units that hold their addresses.
use Rattle.std.specs.Prelude.{◌≡◌, ◌⊎◌, false}
use Rattle.j39_findings.specs.Findings.{Clean}
use Rattle.j39_network.specs.declared.plan.Plan.{Plan}

-- messages of the plan go on between units that hold their addresses: it isn't live, or it has no findings, so that each end is alone
abbrev pub KeepsEnds : Plan → Type 0
KeepsEnds plan = (plan.live ≡ false) ⊎ Clean plan
