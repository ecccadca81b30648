use Rattle.std.proofs.Common.{◌≡◌, List, ℕ, true, sym, subst}
use Rattle.std.specs.Char.{is_ascii_digit}
use Rattle.std.specs.List.{list_all}
use Rattle.j39_follow.proofs.Lines.TimeNumbers.{few_of, six_digits}
use Rattle.j39_follow.proofs.line.moment.microseconds.Goals as goal

pub number_of-seconds-requires-clause-digits : goal.number_of-seconds-requires-clause-digits
number_of-seconds-requires-clause-digits c = (few_of c.args.whole.now c.requires.whole).0

pub number_of-seconds-requires-clause-few : goal.number_of-seconds-requires-clause-few
number_of-seconds-requires-clause-few c = (few_of c.args.whole.now c.requires.whole).1

pub number_of-rest-requires-clause-digits : goal.number_of-rest-requires-clause-digits
number_of-rest-requires-clause-digits c =
    subst (λ (ds : List ℕ). list_all is_ascii_digit ds ≡ true) (sym c.six_decimals-six.ensures) (six_digits c.args.decimals.now c.requires.decimals)
