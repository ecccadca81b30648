use Rattle.std.proofs.Common.{List, ℕ, sym, ap, ◌∙◌, arith}
use Rattle.j39_signal.specs.Bits.{bit}
use Rattle.j39_signal.proofs.Windows.{bit-to_le_bytes, bit_moved, written_bytes}
use Rattle.j39_signal.proofs.bits.set_window.Goals as goal

pub returns-clause-inside : goal.returns-clause-inside
returns-clause-inside c j h =
    sym (bit_moved c.to_le_bytes-bytes.result _ c.args.first c.args.count j
    (written_bytes c.args.payload.now c.to_le_bytes-bytes.result _ c.args.first c.args.count _ (omega arith) (rw c.to_le_bytes-bytes.ensures c.requires.count)
    c.requires.inside c.copy_from_slice.ensures.after) h)
    ∙ ap (λ (bytes : List ℕ). bit bytes j) c.to_le_bytes-bytes.ensures ∙ bit-to_le_bytes c.args.number j (omega arith)
