use Rattle.std.proofs.Common.{ap, sym, ◌∙◌, Some, None}
use Rattle.j39_bus.specs.BusState.{session_at}
use Rattle.j39_bus.proofs.ChangedSessions.{session_set}
use Rattle.j39_bus.proofs.Worlds.{any_default}
use Rattle.j39_world.specs.TransferSteps.{session_after}
use Rattle.j39_world.specs.World.{changed}
use Rattle.j39_bus.proofs.sessions.hear.Goals as goal

pub returns-in-Some-clause-session : goal.returns-in-Some-clause-session
returns-in-Some-clause-session c =
    let list = c.args.sessions.now.items in
    let at = sym c.in-Some.is ∙ c.index_mut.ensures.value ∙ any_default list c.args.unit c.index_mut.result.now None c.requires in
    session_set list c.args.unit (Some c.hear.new.self) c.requires
    ∙ ap (changed (session_at list) c.args.unit) (ap Some c.hear.ensures.after ∙ ap (λ o. session_after o c.args.from c.args.packet.now) at)
