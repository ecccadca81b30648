use Rattle.std.proofs.Common.{sym, ◌∙◌, take, drop, ◌+◌}
use Rattle.std.proofs.lemmas.List.{take_rest}
use Rattle.j39_id.proofs.Digits.{split_at_hash}
use Rattle.j39_id.proofs.reading.read_word.Goals as goal

pub returns-clause-found : goal.returns-clause-found
returns-clause-found c = record {
  digits = take c.in-Some.hash c.args.word.now;
  rest = drop (c.in-Some.hash + 1) c.args.word.now;
  parts = split_at_hash c.args.word.now c.in-Some.hash (sym c.first_hash.ensures ∙ c.in-Some.is);
  identifier = c.in-Some-read_ident.ensures.found;
  room = rw take_rest at c.if-rest.false;
  bytes = rw take_rest at c.in-Some-read_payload.ensures.found;
}
