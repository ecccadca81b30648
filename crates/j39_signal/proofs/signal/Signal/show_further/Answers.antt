use Rattle.std.proofs.Common.{ℕ, List, ap, ◌∙◌}
use Rattle.std.proofs.lemmas.List.{take_rest}
use Rattle.j39_signal.specs.Bits.{raw_of}
use Rattle.j39_signal.specs.State.{shown_of}
use Rattle.j39_signal.proofs.Further.{raw_of_further}
use Rattle.j39_signal.proofs.signal.Signal.show_further.Goals as goal

pub returns : goal.returns
returns c =
    let s = c.args.self.now in
    c.show.ensures ∙ ap (λ (bytes : List ℕ). shown_of s (raw_of bytes s)) (take_rest c.args.payload.now c.args.bytes)
    ∙ ap (shown_of s) (raw_of_further c.args.payload.now c.args.bytes s)
