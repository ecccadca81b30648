use Rattle.std.proofs.Common.{refl, sym, ◌∙◌}
use Rattle.j39_plan.specs.declared.reading.version.Version.TheVariants.{First, Second, Third, Fourth}
use Rattle.j39_plan.specs.FlowTables.{SecondFlowRules}
use Rattle.j39_plan.specs.GroupTables.{OlderGroupRules, OlderLengths}
use Rattle.j39_plan.specs.PlanFaults.{OlderArrays, OlderBus}
use Rattle.j39_plan.specs.SignalTables.{is_code, SecondSignalRules, ThirdSignalRules}
use Rattle.j39_plan.specs.UnitTables.{OlderUnitRules}
use Rattle.j39_plan.proofs.OlderVersions.{older_know}
use Rattle.j39_plan.proofs.laws.older_versions_know_what_they_knew.Goals as goal

pub returns-clause-known : goal.returns-clause-known
returns-clause-known c = older_know

groups : OlderGroupRules
groups First ms older = refl
groups Second ms older = refl
groups Third ms older = cc
groups Fourth ms older = cc

pub returns-clause-groups : goal.returns-clause-groups
returns-clause-groups c = groups

lengths : OlderLengths
lengths First ms g older stated = (stated.has_most ∙ sym stated.has_length, stated.has_every)
lengths Second ms g older stated = (stated.has_most ∙ sym stated.has_length, stated.has_every)
lengths Third ms g older stated = cc
lengths Fourth ms g older stated = cc

pub returns-clause-lengths : goal.returns-clause-lengths
returns-clause-lengths c = lengths

second : SecondSignalRules
unfolding is_code
second First records ms older = refl
second Second records ms older = refl
second Third records ms older = cc
second Fourth records ms older = cc

third : ThirdSignalRules
third records ms = refl

pub returns-clause-signals : goal.returns-clause-signals
returns-clause-signals c = record { second = second; third = third }

flow_keys : SecondFlowRules
flow_keys First ms older = refl
flow_keys Second ms older = refl
flow_keys Third ms older = cc
flow_keys Fourth ms older = cc

pub returns-clause-flows : goal.returns-clause-flows
returns-clause-flows c = record { second = flow_keys; third = λ ms. refl }

units : OlderUnitRules
units First older = refl
units Second older = refl
units Third older = refl
units Fourth older = cc

pub returns-clause-units : goal.returns-clause-units
returns-clause-units c = units

arrays : OlderArrays
arrays First older = refl
arrays Second older = refl
arrays Third older = refl
arrays Fourth older = cc

pub returns-clause-arrays : goal.returns-clause-arrays
returns-clause-arrays c = arrays

bus : OlderBus
bus First tree older = (refl, refl)
bus Second tree older = (refl, refl)
bus Third tree older = (refl, refl)
bus Fourth tree older = cc

pub returns-clause-bus : goal.returns-clause-bus
returns-clause-bus c = bus
