use Rattle.std.proofs.Common.{◌≡◌, map, take}
use Rattle.std.specs.Prelude.{All}
use Rattle.j39_audit.specs.Responses.{response}
use Rattle.j39_audit.specs.inside.ResponseTimes.{IsResponse}
use Rattle.j39_audit.proofs.by_load.responses_by.Given as goal

abbrev pub invariant-loop-delay : goal.invariant-loop-delay
invariant-loop-delay l = record {
  values : l.responses.items ≡ map (response l.timing) (take l.delay-index l.delays);
  few : All IsResponse l.responses.items;
}
