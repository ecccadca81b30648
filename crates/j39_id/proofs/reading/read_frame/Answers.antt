use Rattle.std.proofs.Common.{Ok, ap}
use Rattle.std.proofs.lemmas.List.{take_rest}
use Rattle.j39_id.proofs.LineEnd.{end_spells}
use Rattle.j39_id.proofs.LineLaws.{one_spelled, only_reading}
use Rattle.j39_id.proofs.reading.read_frame.Goals as goal

pub returns-clause-found : goal.returns-clause-found
returns-clause-found c =
    end_spells c.args.line.now c.in-Some.start _ _ c.in-Some.ensures c.in-Some-read_ident.ensures.found
    (rw take_rest at c.in-Some-read_payload.ensures.found)

pub returns-clause-only : goal.returns-clause-only
returns-clause-only c = λ f x.
    let spelled = end_spells c.args.line.now c.in-Some.start _ _ c.in-Some.ensures c.in-Some-read_ident.ensures.found
    (rw take_rest at c.in-Some-read_payload.ensures.found) in
    ap Ok (one_spelled c.args.line.now (record { ident = c.in-Some-read_ident.ident; payload = c.in-Some-read_payload.payload }) f spelled x)

pub returns-2-clause-only : goal.returns-2-clause-only
returns-2-clause-only c = only_reading c.args.line.now c.read_last_word.result c.read_last_word.ensures.found c.read_last_word.ensures.refused
