use Rattle.std.proofs.Common.{◌≡◌, ◌∷◌, [], ◌++◌, List, All, Some, get_or, map, take, sym, ap, subst, ◌∙◌}
use Rattle.std.proofs.lemmas.List.{map_more, take_all}
use Rattle.std.proofs.lemmas.List.Elements.{All-more}
use Rattle.std.proofs.lemmas.Option.{slice_get-get_or}
use Rattle.j39_signal.specs.LayoutParts.{LayoutParts}
use Rattle.j39_network.specs.declared.plan.group_plan.GroupPlan.{GroupPlan}
use Rattle.j39_network.specs.PlannedGroups.{IsSendable, layout_of}
use Rattle.j39_log.proofs.catalog.layouts_of.Goals as goal

pub returns-in-Err-Refused-clause-refused : goal.returns-in-Err-Refused-clause-refused
returns-in-Err-Refused-clause-refused c = (
  c.loop-place.invariant.1,
  record {
    value = c.index-groups-place.result;
    value_is = slice_get-get_or c.args.groups.now c.loop-place.place c.index-groups-place.result c.loop-place-test.true ∙ ap Some (sym c.index-groups-place.is);
    meets = rw c.in-Err-Refused.field-0-is at c.in-Err-Refused.ensures.refused;
  },
)

pub loop-place-preserved : goal.loop-place-preserved
loop-place-preserved c =
    let groups = c.args.groups.now in
    let i = c.loop-place.place in
    let group : GroupPlan = c.index-groups-place.result in
    let laid : c.in-Ok.layout ≡ layout_of (get_or groups i group) = c.in-Ok.ensures.layout ∙ ap layout_of c.index-groups-place.is in (
      c.in-Ok-push.ensures.items ∙ ap (λ (t : List LayoutParts). t ++ c.in-Ok.layout ∷ []) c.loop-place.invariant.0
          ∙ ap (λ (l : LayoutParts). map layout_of (take i groups) ++ l ∷ []) laid ∙ sym (map_more layout_of groups i group c.loop-place-test.true),
      All-more IsSendable groups i group c.loop-place-test.true c.loop-place.invariant.1 (subst IsSendable c.index-groups-place.is c.in-Ok.ensures.sendable),
    )

pub returns-clause-layouts : goal.returns-clause-layouts
returns-clause-layouts c =
    c.loop-place.invariant.0 ∙ ap (map layout_of) (take_all c.loop-place.place c.args.groups.now c.loop-place-test.false)

pub returns-clause-readable : goal.returns-clause-readable
returns-clause-readable c =
    subst (All IsSendable) (take_all c.loop-place.place c.args.groups.now c.loop-place-test.false) c.loop-place.invariant.1
