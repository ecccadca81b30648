use Rattle.std.proofs.Common.{◌<◌, ◌≤◌, All, length, get_or, take, sym, subst, arith}
use Rattle.std.proofs.lemmas.List.{take_all, take_more}
use Rattle.std.proofs.lemmas.List.Elements.{All-push}
use Rattle.j39_network.specs.PlannedGroups.{IsSendable}
use Rattle.j39_bus.proofs.Opened.{got}
use Rattle.j39_bus.proofs.opening.try_groups.Goals as goal
use Rattle.j39_bus.proofs.opening.try_groups.Goals.{in-Ok, in-Err-Memory}

pub returns-in-Err-Refused-clause-refused : goal.returns-in-Err-Refused-clause-refused
returns-in-Err-Refused-clause-refused c =
    let inside : c.loop-place.place < length c.args.groups.now = omega arith in (
      c.loop-place.invariant,
      record {
        value = c.index-groups-place.result;
        value_is = got c.args.groups.now c.loop-place.place c.index-groups-place.result inside c.index-groups-place.is;
        meets = rw c.in-Err-Refused.field-0-is at c.in-Err-Refused.ensures.refused;
      },
    )

pub loop-place-preserved : goal.loop-place-preserved
loop-place-preserved c =
    let inside : c.loop-place.place < length c.args.groups.now = omega arith in
    let sendable : IsSendable c.index-groups-place.result =
    elim c.match-layout_of.branch [
      | in-Ok w ↦ w.in-Ok.ensures.sendable
      | in-Err-Memory w ↦ rw w.in-Err-Memory.field-0-is at w.in-Err-Memory.ensures.refused
    ] in
    subst (All IsSendable) (sym (take_more c.args.groups.now c.loop-place.place c.index-groups-place.result inside))
    (All-push IsSendable (take c.loop-place.place c.args.groups.now)
    (get_or c.args.groups.now c.loop-place.place c.index-groups-place.result) c.loop-place.invariant (subst IsSendable c.index-groups-place.is sendable))

pub returns-then-memory-clause-ok : goal.returns-then-memory-clause-ok
returns-then-memory-clause-ok c =
    let past : length c.args.groups.now ≤ c.loop-place.place = omega arith in
    subst (All IsSendable) (take_all c.loop-place.place c.args.groups.now past) c.loop-place.invariant

pub returns-else-memory-clause-refused : goal.returns-else-memory-clause-refused
returns-else-memory-clause-refused c =
    let past : length c.args.groups.now ≤ c.loop-place.place = omega arith in
    subst (All IsSendable) (take_all c.loop-place.place c.args.groups.now past) c.loop-place.invariant
