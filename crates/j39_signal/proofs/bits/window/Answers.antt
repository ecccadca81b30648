use Rattle.std.proofs.Common.{ℕ, ◌+◌, ◌-◌, ◌*◌, ap, ◌∙◌, arith, rules}
use Rattle.j39_signal.specs.Bits.{bit}
use Rattle.j39_signal.proofs.Windows.{window_bits, part_bytes, bit_at-shr}
use Rattle.j39_signal.proofs.bits.window.Goals as goal

pub returns-then-payload-lt8 : goal.returns-then-payload-lt8
returns-then-payload-lt8 c j h =
    window_bits c.padded.result c.args.payload.now c.args.first c.args.count _ j (search rules) (search rules)
    c.from_le_bytes.ensures c.requires.count
    (part_bytes c.padded.result c.args.payload.now c.args.first c.args.count _ (omega arith) c.requires.inside c.padded.ensures) h

pub returns : goal.returns
returns c j h =
    let at : ℕ = c.min-at.result in
    let shift : ℕ = 8 * (c.args.first - at) in
    bit_at-shr _ shift j
    ∙ window_bits c.eight_bytes.result c.args.payload.now at 8 _ (shift + j) (search rules) (search rules)
    c.from_le_bytes-2.ensures (omega arith) c.eight_bytes.ensures (omega arith)
    ∙ ap (bit c.args.payload.now) (omega arith)
