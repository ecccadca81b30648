use Rattle.std.proofs.Common.{rules, [], length, sym, subst}
use Rattle.j39_network.specs.declared.plan.Plan.{Plan}
use Rattle.j39_stream.proofs.Answering.{not_begun, said_of}
use Rattle.j39_run.specs.inside.Doing.{HasRun}
use Rattle.j39_run.proofs.Runs.{so_far}
use Rattle.j39_run.proofs.Texts.{bus_text, refused_answers, refused_whole, whole_of}
use Rattle.j39_run.proofs.run.run_text.Goals as goal

pub returns-in_err-units-clause-answers : goal.returns-in_err-units-clause-answers
returns-in_err-units-clause-answers g c = not_begun _ (search rules)

pub read_lines-requires-clause-begins : goal.read_lines-requires-clause-begins
read_lines-requires-clause-begins g c =
    so_far c.in_ok-units.units c.new-running.result [] []
    (subst (λ (p : Plan). HasRun p c.new-running.result [] []) (sym c.in_ok-units.ensures) (c.new-running.ensures.begun c.args.plan.now c.in-Ok.ensures.stands))

pub returns-in-Ok-clause-answers : goal.returns-in-Ok-clause-answers
returns-in-Ok-clause-answers g c =
    said_of c.read_lines.result (bus_text c.args.plan.now (length c.args.choosers.items) c.in-Ok.ensures.ok c.in_ok-units.units c.in_ok-units.ensures)
    c.read_lines.ensures.answers

pub returns-in-Ok-clause-whole : goal.returns-in-Ok-clause-whole
returns-in-Ok-clause-whole g c =
    whole_of (bus_text c.args.plan.now (length c.args.choosers.items) c.in-Ok.ensures.ok c.in_ok-units.units c.in_ok-units.ensures)
    (g.S.Source.state c.args.source.now).left (g.W.Sink.state c.args.sink.now).taken (g.W.Sink.state c.read_lines.new.sink).taken c.read_lines.result
    c.read_lines.ensures.whole

pub returns-clause-answers : goal.returns-clause-answers
returns-clause-answers g c =
    refused_answers c.args.plan.now (length c.args.choosers.items) c.in-Err.error c.in-Err.ensures.refused c.refuse.result c.refuse.ensures

pub returns-clause-whole : goal.returns-clause-whole
returns-clause-whole g c =
    refused_whole c.args.plan.now (length c.args.choosers.items) c.in-Err.error c.in-Err.ensures.refused
    (g.S.Source.state c.args.source.now).left c.refuse.result c.refuse.ensures
