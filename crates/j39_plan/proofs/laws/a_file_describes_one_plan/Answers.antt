use Rattle.j39_toml.specs.FileTrees.{tree_of}
use Rattle.j39_plan.proofs.OneAnswer.{one_answer}
use Rattle.j39_plan.proofs.laws.a_file_describes_one_plan.Goals as goal

pub returns : goal.returns
returns c = λ bytes. one_answer (tree_of bytes)
