use Rattle.std.proofs.Common.{◌+◌, ◌%◌, sym, ap, ◌∙◌, arith}
use Rattle.std.proofs.lemmas.Nat.{and_mask}
use Rattle.j39_signal.specs.Bits.{bit}
use Rattle.j39_signal.proofs.Numbers.{number_at-from}
use Rattle.j39_signal.proofs.bits.bits_of.Goals as goal

pub returns-clause-value : goal.returns-clause-value
returns-clause-value c =
    rw (c.mask.ensures, and_mask)
    (sym (number_at-from c.args.payload.now c.args.start c.window-window.result (c.args.start % 8) c.args.width
    (λ j h. ap (bit c.args.payload.now) (omega arith) ∙ sym (c.window-window.ensures (c.args.start % 8 + j) (omega arith)))))
