use Rattle.std.proofs.Common.{◌++◌, ℕ, List, refl, sym, ap, ◌∙◌, append_assoc}
use Rattle.std.proofs.lemmas.Option.{get_or_from_slice_get}
use Rattle.std.proofs.lemmas.Result.{IfOk-weaker}
use Rattle.j39_log.specs.LogReports.{group_line}
use Rattle.j39_log.specs.NamedReports.{named_reading_lines, named_report}
use Rattle.j39_log.specs.ReportHeads.{behind_head, report_head}
use Rattle.j39_log.proofs.FoundGroups.{planned_group_at}
use Rattle.j39_log.proofs.ReportHeads.{head_and_rest}
use Rattle.j39_log.proofs.address_report.write_group.Goals as goal

pub write_group_readings-requires : goal.write_group_readings-requires
write_group_readings-requires c = planned_group_at c.args.groups.now c.requires.0 c.args.bytes.now c.args.place c.requires.1

pub returns : goal.returns
unfolding named_report
returns c =
    let plan = c.args.groups.now in
    let i = c.args.ident in
    let bytes : List ℕ = c.args.bytes.now in
    let old : List ℕ = c.args.text.now in
    IfOk-weaker c.write_group_readings.result _ _
    (λ _ read.
    let group = read.value in
    let lines : List ℕ = named_reading_lines plan group bytes in
    let head = sym (c.head.ensures group) ∙ ap report_head (get_or_from_slice_get plan.groups.items c.args.place group group read.value_is) in (
      named_report plan group i bytes,
      record { value = group; value_is = read.value_is; meets = refl },
      read.meets ∙ ap (λ (t : List ℕ). t ++ lines) (c.in_ok-write_group_line.ensures
          ∙ ap (λ (t : List ℕ). old ++ t) (ap (λ (h : List ℕ). h ++ behind_head i bytes) head ∙ head_and_rest group i bytes))
          ∙ append_assoc old (group_line group i bytes) lines,
    ))
    c.write_group_readings.ensures
