use Rattle.std.proofs.lemmas.List.Sums.{AllPass-from_list_all, list_all-from_AllPass}
use Rattle.hex.specs.Hex.{is_hex_digit}
use Rattle.j39_id.proofs.Digits.{same_test}
use Rattle.j39_id.proofs.reading.is_short.Goals as goal

pub returns-then-digits-eq3 : goal.returns-then-digits-eq3
returns-then-digits-eq3 c =
    rw c.if-digits-eq3.true
    (same_test _ _
    (λ passed. list_all-from_AllPass is_hex_digit c.args.digits.now (c.are_digits.ensures.0 passed))
    (λ all. c.are_digits.ensures.1 (AllPass-from_list_all is_hex_digit c.args.digits.now all)))
