-- No room is asked for of an empty tree: the version is missing in it.
use Rattle.std.proofs.Common.{◌≢◌, []}
use Rattle.toml.specs.Data.{no_members}
use Rattle.j39_toml.specs.Rules.{number_of}
use Rattle.j39_toml.specs.TableFaults.{unknown_faults, key_faults}
use Rattle.j39_plan.specs.PlanFaults.{top_faults, version_of}
use Rattle.j39_plan.specs.Growing.{PlanGrows}

empty_faults : top_faults no_members ≢ []
unfolding unknown_faults key_faults version_of number_of
empty_faults none = cc

pub never_grows : ¬ PlanGrows no_members
never_grows grows = empty_faults grows.0
