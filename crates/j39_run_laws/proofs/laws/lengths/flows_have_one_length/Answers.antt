use Rattle.j39_run_laws.proofs.Lengths.{one_length_each}
use Rattle.j39_run_laws.proofs.laws.lengths.flows_have_one_length.Goals as goal

pub returns : goal.returns
returns c = one_length_each
