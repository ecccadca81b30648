use Rattle.std.proofs.Common.{◌≡◌, drop}
use Rattle.std.specs.List.{find}
use Rattle.std.specs.Str.{bytes_eq}
use Rattle.j39_schedule.proofs.order_word.beside.Given as goal

-- what is found among those that are left is what is found
abbrev pub invariant-loop-named : goal.invariant-loop-named
invariant-loop-named l = find (λ w. bytes_eq w.0.now l.text) (drop l.named-index l.words) ≡ find (λ w. bytes_eq w.0.now l.text) l.words
