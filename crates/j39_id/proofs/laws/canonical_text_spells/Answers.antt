use Rattle.j39_id.specs.Ident.{bits}
use Rattle.std.proofs.Common.{arith}
use Rattle.j39_id.proofs.LineLaws.{canon_spells}
use Rattle.j39_id.proofs.laws.canonical_text_spells.Goals as goal

pub returns : goal.returns
returns c =
    canon_spells (bits c.args.frame.now.ident) c.args.frame.now.payload.items (omega arith)
    (rw c.as_slice.ensures.value at c.as_slice.ensures.fits) (rw c.as_slice.ensures.value at c.known_bytes.ensures)
