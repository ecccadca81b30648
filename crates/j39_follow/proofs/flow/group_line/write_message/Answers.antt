use Rattle.std.proofs.Common.{◌≡◌, ◌++◌, [], ℕ, List, Option, Some, None, refl, ap, sym, subst, ◌∙◌, append_assoc, nat_le}
use Rattle.std.proofs.lemmas.List.{append-nil}
use Rattle.std.proofs.lemmas.Bool.{and_parts, leb-true}
use Rattle.std.proofs.lemmas.Option.{get_or_from_slice_get, slice_get_within}
use Rattle.j39_network.specs.declared.plan.group_plan.GroupPlan.{GroupPlan}
use Rattle.j39_log.specs.NamedReports.{named_reading_lines}
use Rattle.j39_log.specs.ReportHeads.{report_head}
use Rattle.j39_log.proofs.FoundGroups.{of_group}
use Rattle.j39_follow.specs.Fits.{IsSentGroup, fitting_flow}
use Rattle.j39_follow.specs.FollowReports.{message_line}
use Rattle.j39_follow.specs.declared.message.Sort.TheVariants.{Grouped}
use Rattle.j39_follow.specs.inside.Reporting.{front_of, arrived_message}
use Rattle.j39_follow.proofs.flow.group_line.write_message.Goals as goal

pub write_group_readings-requires : goal.write_group_readings-requires
write_group_readings-requires c =
    let m = arrived_message c.args.message in
    let found = subst (IsSentGroup c.args.groups.now m.pgn _ c.sending_of-sent.result) c.in-Some.is c.group_of.ensures in
    let group : GroupPlan = found.0.value in
    record {
      value = group;
      value_is = found.0.value_is;
      meets = leb-true group.length _ (and_parts (nat_le group.length _) (nat_le _ group.most) found.0.meets.length).0;
    }

pub write_group_line-requires : goal.write_group_line-requires
write_group_line-requires c =
    of_group report_head c.args.groups.now.groups.items c.in-Some.group c.group.result.now c.head.result.now c.group.ensures c.head.ensures

pub returns : goal.returns
returns c = λ log shows.
    let plan = c.args.groups.now in
    let front = front_of c.args.stamp in
    let m = arrived_message c.args.message in
    let sent = c.sending_of-sent.result in
    let flow = c.flow_of-flow.result in
    let fits : flow ≡ fitting_flow plan c.in-Some.group sent = c.flow_of-flow.ensures in
    let line = (rw c.plan.ensures at c.in_ok-write_group_line.ensures) log shows in
    let reads = c.in_ok-write_group_readings.ensures in
    let group : GroupPlan = reads.value in
    let there = c.group.result.now in
    let same : there ≡ group =
    sym (c.group.ensures there) ∙ get_or_from_slice_get plan.groups.items c.in-Some.group group there reads.value_is in
    let head : List ℕ = message_line group front line.0 flow m in
    let body : List ℕ = named_reading_lines plan group m.bytes in (
      head ++ body,
      (
        sent,
        Some c.in-Some.group,
        c.sending_of-sent.ensures plan log shows,
        subst (IsSentGroup plan m.pgn _ sent) c.in-Some.is c.group_of.ensures,
        (
          ap (Grouped c.in-Some.group) fits,
          line.0,
          line.1,
          record {
            value = group;
            value_is = reads.value_is;
            meets = ap (λ (o : Option ℕ). message_line group front line.0 o m ++ body) fits;
          },
        ),
      ),
      reads.meets
          ∙ ap (λ (t : List ℕ). t ++ body) (line.2 ∙ ap (λ (g : GroupPlan). c.args.text.now ++ message_line g front line.0 flow m) same)
          ∙ append_assoc c.args.text.now head body,
    )

pub group-requires : goal.group-requires
group-requires c =
    let m = arrived_message c.args.message in
    let found = subst (IsSentGroup c.args.groups.now m.pgn _ c.sending_of-sent.result) c.in-Some.is c.group_of.ensures in
    slice_get_within c.args.groups.now.groups.items c.in-Some.group found.0.value found.0.value_is

pub head-requires : goal.head-requires
head-requires c =
    let m = arrived_message c.args.message in
    let found = subst (IsSentGroup c.args.groups.now m.pgn _ c.sending_of-sent.result) c.in-Some.is c.group_of.ensures in
    slice_get_within c.args.groups.now.groups.items c.in-Some.group found.0.value found.0.value_is

pub returns-in_default : goal.returns-in_default
returns-in_default c = λ log shows.
    let m = arrived_message c.args.message in (
      [],
      (
        c.sending_of-sent.result,
        None,
        c.sending_of-sent.ensures c.args.groups.now log shows,
        subst (IsSentGroup c.args.groups.now m.pgn _ c.sending_of-sent.result) c.in_default.is c.group_of.ensures,
        (refl, refl),
      ),
      sym (append-nil c.args.text.now),
    )
