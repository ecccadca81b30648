-- What is sent of a message.
use Rattle.std.specs.Prelude.{◌≡◌, ℕ, List}
use Rattle.j39_network.specs.declared.plan.to.To.{To}
use Rattle.j39_tp.specs.declared.sending.outcome.Outcome.TheVariants.{Sent}
use Rattle.j39_tp.specs.declared.sending.stage.Stage.{Stage}
use Rattle.j39_tp.specs.declared.sending.stage.Stage.TheVariants.{Resting}
use Rattle.j39_bus.specs.declared.session.Content.{Content}
use Rattle.j39_bus.specs.declared.session.Content.TheVariants.{Short, Long}
use Rattle.j39_world.specs.Flows.{dest_of}

-- its group, its bytes, and how far it is: a message of one frame has ended
abbrev pub group_in : Content → ℕ
group_in (Short group bytes) = group
group_in (Long t) = t.message.pgn

abbrev pub bytes_in : Content → List ℕ
bytes_in (Short group bytes) = bytes
bytes_in (Long t) = t.message.bytes

abbrev pub stage_in : Content → Stage
stage_in (Short group bytes) = Resting Sent
stage_in (Long t) = t.stage

-- a transfer is to all, or to one, as its message is
abbrev pub GoesTo : To → Content → Type 0
GoesTo to (Short group bytes) = Unit {0}
GoesTo to (Long t) = t.dest ≡ dest_of to
