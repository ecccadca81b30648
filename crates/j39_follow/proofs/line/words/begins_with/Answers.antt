use Rattle.std.proofs.Common.{ℕ, List, length, ap, arith}
use Rattle.std.proofs.lemmas.List.{length-take}
use Rattle.j39_follow.proofs.line.words.begins_with.Goals as goal

pub returns-then-line-size-clause-not : goal.returns-then-line-size-clause-not
returns-then-line-size-clause-not c = λ no same.
    let word : List ℕ = c.args.word.now in
    let line : List ℕ = c.args.line.now in
    let size = length-take (length word) line in
    let all = ap (length {A = ℕ}) same in
    let test = c.if-line-size.true in
    absurd (omega (arith, size, all, test))
