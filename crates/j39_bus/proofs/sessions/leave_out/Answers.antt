use Rattle.std.proofs.Common.{ap, sym, ◌∙◌, Some, None}
use Rattle.j39_bus.specs.BusState.{session_at}
use Rattle.j39_bus.proofs.ChangedSessions.{session_set}
use Rattle.j39_bus.proofs.Worlds.{any_default}
use Rattle.j39_world.specs.SwitchingOff.{session_without}
use Rattle.j39_world.specs.World.{changed}
use Rattle.j39_bus.proofs.sessions.leave_out.Goals as goal

pub returns-in-Some-clause-session : goal.returns-in-Some-clause-session
returns-in-Some-clause-session c =
    let list = c.args.sessions.now.items in
    let at = sym c.in-Some.is ∙ c.index_mut.ensures.value ∙ any_default list c.args.sender c.index_mut.result.now None c.requires in
    session_set list c.args.sender (Some c.leave_out.new.self) c.requires
    ∙ ap (changed (session_at list) c.args.sender) (ap Some c.leave_out.ensures ∙ ap (session_without c.args.unit) at)
