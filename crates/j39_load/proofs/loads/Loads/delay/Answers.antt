use Rattle.std.proofs.Common.{Some, sym, ap, ◌∙◌}
use Rattle.std.proofs.lemmas.Option.{slice_get-get_or}
use Rattle.j39_load.specs.AskedLoads.{asked_in}
use Rattle.j39_load.specs.inside.BufferingDelays.{buffering_of}
use Rattle.j39_load.proofs.TurnTimes.{delay_by}
use Rattle.j39_load.proofs.loads.Loads.delay.Goals as goal

pub returns-in_ok-delay_of-in-Some : goal.returns-in_ok-delay_of-in-Some
returns-in_ok-delay_of-in-Some c =
    let self = c.args.self.now in
    let load = c.in-Some.load in
    let delay = c.in_ok-delay_of-in-Some.field-0 in (
      buffering_of c.args.buffering_delays.now,
      c.requires.is,
      (
        load,
        slice_get-get_or self.flows.items c.args.flow c.index.result.now c.requires.place ∙ ap Some (sym c.index.ensures ∙ c.in-Some.is),
        delay_by self.timing (asked_in self) (buffering_of c.args.buffering_delays.now) c.args.turns.now c.requires.turns c.args.flow
            load.messages load.limit delay c.in_ok-delay_of-in-Some.ensures,
      ),
    )

pub returns-in-None : goal.returns-in-None
returns-in-None c = (
  buffering_of c.args.buffering_delays.now,
  c.requires.is,
  slice_get-get_or c.args.self.now.flows.items c.args.flow c.index.result.now c.requires.place ∙ ap Some (sym c.index.ensures ∙ c.in-None.is),
)
