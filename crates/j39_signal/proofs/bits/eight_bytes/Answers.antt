use Rattle.std.proofs.Common.{ℕ, List, get_or, ap, arith}
use Rattle.j39_signal.proofs.Windows.{part_bytes}
use Rattle.j39_signal.proofs.bits.eight_bytes.Goals as goal

pub returns : goal.returns
returns c =
    part_bytes c.copy_from_slice.new.self c.args.payload.now c.args.at 8 _ (omega arith) c.requires
    (λ i _. ap (λ (bytes : List ℕ). get_or bytes i 0) c.copy_from_slice.ensures.after)
