use Rattle.std.proofs.Common.{◌≡◌, ℕ, ◌≤◌, ◌++◌, List, length, sym, ap, subst, ◌∙◌}
use Rattle.std.proofs.lemmas.Option.{get_or_from_slice_get, slice_get_within}
use Rattle.std.proofs.lemmas.Result.{IfOk-weaker}
use Rattle.j39_signal.specs.LayoutParts.{LayoutParts}
use Rattle.j39_network.specs.PlannedGroups.{layout_of}
use Rattle.j39_network.specs.declared.plan.group_plan.GroupPlan.{GroupPlan}
use Rattle.j39_log.specs.inside.ValueLines.{value_lines_of}
use Rattle.j39_log.specs.NamedReports.{named_reading_lines}
use Rattle.j39_log.proofs.FoundGroups.{lines_there, named_there, of_group}
use Rattle.j39_log.proofs.NamedLists.{has_tables}
use Rattle.j39_log.proofs.readings.write_group_readings.Goals as goal

pub write_readings-requires-clause-signals : goal.write_readings-requires-clause-signals
write_readings-requires-clause-signals c =
    ap (λ (l : LayoutParts). l.signals)
    (of_group layout_of c.args.groups.now.groups.items c.args.place c.group.result.now c.layout.result.now c.group.ensures c.layout.ensures)

pub write_readings-requires-clause-lines : goal.write_readings-requires-clause-lines
write_readings-requires-clause-lines c =
    of_group value_lines_of c.args.groups.now.groups.items c.args.place c.group.result.now c.lines.result.now c.group.ensures c.lines.ensures

pub write_readings-requires-clause-bytes : goal.write_readings-requires-clause-bytes
write_readings-requires-clause-bytes c =
    let groups = c.args.groups.now.groups.items in
    let planned = c.requires in
    let group = c.group.result.now in
    let same : group ≡ planned.value =
    sym (c.group.ensures group) ∙ get_or_from_slice_get groups c.args.place planned.value group planned.value_is in
    let long : c.layout.result.now.length ≡ planned.value.length =
    ap (λ (l : LayoutParts). l.length) (of_group layout_of groups c.args.place group c.layout.result.now c.group.ensures c.layout.ensures)
    ∙ ap (λ (g : GroupPlan). g.length) same in
    subst (λ (n : ℕ). n ≤ length c.args.bytes.now) (sym long) planned.meets

pub write_readings-requires-clause-names : goal.write_readings-requires-clause-names
write_readings-requires-clause-names c =
    let plan = c.args.groups.now in
    let group = c.group.result.now in
    has_tables plan group c.names.result (named_there plan c.args.place group c.names.result c.group.ensures c.names.ensures)

pub returns : goal.returns
returns c =
    let planned = c.requires in
    let group = c.group.result.now in
    let same : group ≡ planned.value =
    sym (c.group.ensures group) ∙ get_or_from_slice_get c.args.groups.now.groups.items c.args.place planned.value group planned.value_is in
    let plan = c.args.groups.now in
    let bytes = c.args.bytes.now in
    let less = slice_get_within plan.groups.items c.args.place planned.value planned.value_is in
    let lines = lines_there plan c.args.place group c.names.result bytes less c.group.ensures c.names.ensures in
    IfOk-weaker c.write_readings.result _ _
    (λ _ written. record {
      value = planned.value;
      value_is = planned.value_is;
      meets = written ∙ ap (λ (t : List ℕ). c.args.text.now ++ t) (lines ∙ ap (λ (g : GroupPlan). named_reading_lines plan g bytes) same);
    })
    c.write_readings.ensures
