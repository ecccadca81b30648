use Rattle.std.proofs.Common.{List, ℕ, arith}
use Rattle.std.proofs.lemmas.List.{take_rest}
use Rattle.j39_follow.proofs.Lines.FirstWords.{first_word_at}
use Rattle.j39_follow.proofs.line.words.first_word.Goals as goal

pub returns-clause-found : goal.returns-clause-found
returns-clause-found c =
    let line : List ℕ = c.args.line.now in
    let start = c.blank_start-start.result in
    let many = c.word_length.result in
    let begins = c.blank_start-start.ensures in
    let within = begins.within in
    let differs = c.if-start-line.false in
    let word = rw take_rest at c.word_length.ensures in
    rw take_rest
    (first_word_at line start many (omega (arith, within, differs)) begins.blank (begins.ends (omega (arith, within, differs)))
    word.within word.word word.parted)
