use Rattle.std.proofs.lemmas.Option.{IfSome_then}
use Rattle.j39_id.proofs.LineLaws.{not_blank}
use Rattle.j39_follow.proofs.Lines.Interfaces.{if_none_then, named_before, unnamed_before}
use Rattle.j39_follow.proofs.line.log_line.interface.Goals as goal

pub returns-in-Ok-clause-named : goal.returns-in-Ok-clause-named
returns-in-Ok-clause-named c =
    let front = c.before_frame.result.now in
    IfSome_then c.interface_in.result c.interface_in.ensures.named
    (λ interface is. named_before c.args.part.now front c.before_frame.ensures.0 interface.now c.before_frame.ensures.1 is)

pub returns-in-Ok-clause-none : goal.returns-in-Ok-clause-none
returns-in-Ok-clause-none c =
    if_none_then c.interface_in.result
    (λ none. unnamed_before c.args.part.now c.before_frame.result.now c.before_frame.ensures.0 c.before_frame.ensures.1 none)
    c.interface_in.ensures.none

pub returns-in-Some-clause-named : goal.returns-in-Some-clause-named
returns-in-Some-clause-named c =
    IfSome_then c.interface_in-in-Some.result c.interface_in-in-Some.ensures.named
    (λ interface is. named_before c.args.part.now c.in-Some.front.now c.in-Some._word.now interface.now c.in-Some.ensures.found is)

pub returns-in-Some-clause-none : goal.returns-in-Some-clause-none
returns-in-Some-clause-none c =
    if_none_then c.interface_in-in-Some.result
    (λ none. unnamed_before c.args.part.now c.in-Some.front.now c.in-Some._word.now c.in-Some.ensures.found none)
    c.interface_in-in-Some.ensures.none

pub returns-in-None-clause-none : goal.returns-in-None-clause-none
returns-in-None-clause-none c = λ interface is. not_blank c.args.part.now is.word is.last c.in-None.ensures.none
