use Rattle.j39_toml.proofs.TreesRead.{room_asked}
use Rattle.j39_variants.specs.DescribedLines.{DescribesProductLine, LineGrows, product_line_faults}
use Rattle.j39_variants.proofs.Lines.{line_never_grows}
use Rattle.j39_variants.proofs.reading.read_product_line.Goals as goal

pub returns-clause-memory : goal.returns-clause-memory
returns-clause-memory c =
    room_asked product_line_faults DescribesProductLine LineGrows _ c.args.bytes.now _ line_never_grows c.in_ok-members.ensures c.read_members.ensures
