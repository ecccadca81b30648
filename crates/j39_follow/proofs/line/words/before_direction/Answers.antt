use Rattle.std.proofs.Common.{◌<◌, ℕ, List, sym, ◌∙◌, arith}
use Rattle.std.proofs.lemmas.Bool.{false≢true}
use Rattle.j39_follow.proofs.Lines.Splitting.{alone, direction_at, direction_letter}
use Rattle.j39_follow.proofs.line.words.before_direction.Goals as goal

pub returns-then-stop-eq0-clause-none : goal.returns-then-stop-eq0-clause-none
returns-then-stop-eq0-clause-none c = λ front word s is.
    let end = c.words_end-stop.ensures in
    let at = direction_at c.args.line.now front word c.words_end-stop.result s is end.within end.blank end.ends in
    let some = at.some in
    absurd (omega (arith, some, c.if-stop-eq0.true))

pub returns-then-not-is_direction-clause-none : goal.returns-then-not-is_direction-clause-none
returns-then-not-is_direction-clause-none c = λ front word s is.
    let end = c.words_end-stop.ensures in
    let at = direction_at c.args.line.now front word c.words_end-stop.result s is end.within end.blank end.ends in
    false≢true (sym c.if-not-is_direction.true ∙ c.is_direction.ensures.1 at.letter)

pub returns-then-not-is_parted-clause-none : goal.returns-then-not-is_parted-clause-none
returns-then-not-is_parted-clause-none c = λ front word s is.
    let end = c.words_end-stop.ensures in
    let at = direction_at c.args.line.now front word c.words_end-stop.result s is end.within end.blank end.ends in
    false≢true (sym c.if-not-is_parted.true ∙ c.is_parted.ensures.1 at.parted)

pub returns-clause-found : goal.returns-clause-found
returns-clause-found c =
    let line : List ℕ = c.args.line.now in
    let stop = c.words_end-stop.result in
    let end = c.words_end-stop.ensures in
    let some : 0 < stop = omega (arith, c.if-stop-eq0.false) in
    let s = alone line stop some end.within end.blank (end.ends some) (c.is_parted.ensures.0 c.if-not-is_parted.false) in
    (_, (s.0, s.1), direction_letter line stop some end.within (c.is_direction.ensures.0 c.if-not-is_direction.false))
