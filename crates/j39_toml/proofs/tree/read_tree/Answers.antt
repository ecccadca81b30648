use Rattle.std.proofs.lemmas.Str.{is_utf8-from_IsUtf8}
use Rattle.j39_toml.proofs.TreesRead.{tree_of_utf8, no_tree}
use Rattle.std.proofs.Common.{◌∙◌}
use Rattle.j39_toml.proofs.tree.read_tree.Goals as goal

pub returns-in-Err : goal.returns-in-Err
returns-in-Err g c = no_tree _ c.in-Err.ensures.cases.0

pub returns-in-Ok-table_from_str : goal.returns-in-Ok-table_from_str
returns-in-Ok-table_from_str g c =
    tree_of_utf8 _ c.in-Ok.ensures.cases.1 ∙ rw c.in-Ok.ensures.cases.0 at c.in-Ok-table_from_str.ensures.ok

pub returns-then-is_memory : goal.returns-then-is_memory
returns-then-is_memory g c = (
  is_utf8-from_IsUtf8 c.args.bytes.now c.in-Ok.ensures.cases.1,
  rw c.in-Ok.ensures.cases.0 at (c.in-Err-table_from_str.ensures.memory (c.is_memory.ensures.0 c.if-is_memory.true)),
)
