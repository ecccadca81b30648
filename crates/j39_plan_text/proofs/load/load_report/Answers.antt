use Rattle.std.proofs.Common.{◌≡◌, false, true, sym, ap, subst, ◌∙◌}
use Rattle.j39_answer.proofs.Answered.{known_bus}
use Rattle.j39_answer.specs.PlanAnswers.{IsBusAnswer}
use Rattle.j39_load.specs.BusTimes.{timing_of}
use Rattle.j39_plan_text.specs.LoadText.{shows_times}
use Rattle.j39_plan_text.proofs.LoadReports.{as_checked, loads_reported, not_timed}
use Rattle.j39_plan_text.proofs.load.load_report.Goals as goal

pub returns-in_default : goal.returns-in_default
returns-in_default c =
    not_timed c.args.plan.now c.in_ok-answer.answer c.in_ok-answer.ensures c.in_default.is c.word.new.self
    (rw c.new-text.ensures at c.in_ok-word.ensures)

pub write_loads-requires : goal.write_loads-requires
write_loads-requires c =
    let plan = c.args.plan.now in
    let bus = known_bus plan (timing_of plan) c.in-Some.load (subst (IsBusAnswer plan (timing_of plan)) c.in-Some.is c.in_ok-answer.ensures.bus) in
    rw c.as_slice.ensures.value bus.count

pub returns-then-shows_times : goal.returns-then-shows_times
returns-then-shows_times c =
    let plan = c.args.plan.now in
    let known = c.in_ok-answer.answer in
    let load = c.in-Some.load in
    let bus = known_bus plan (timing_of plan) load (subst (IsBusAnswer plan (timing_of plan)) c.in-Some.is c.in_ok-answer.ensures.bus) in
    let shown : shows_times known.findings.items ≡ true =
    ap shows_times (sym c.as_slice-findings.ensures.value) ∙ (sym c.shows_times.ensures ∙ c.if-shows_times.true) in
    loads_reported plan load.loads.timing bus.timed load bus.is_load known.findings.items c.in_ok-answer.ensures.listed c.write_unshown.new.text
    c.verdict_of.result shown
    (rw (
      c.in_ok-write_loads.ensures,
      c.new-text.ensures,
      c.as_slice-findings.ensures.value,
      c.as_slice-others.ensures.value,
      c.as_slice.ensures.value,
    ) at c.in_ok-write_unshown.ensures)
    (rw (c.as_slice-findings.ensures.value, c.as_slice-others.ensures.value) at c.verdict_of.ensures)

pub returns : goal.returns
returns c =
    let plan = c.args.plan.now in
    let known = c.in_ok-answer.answer in
    let load = c.in-Some.load in
    let bus = known_bus plan (timing_of plan) load (subst (IsBusAnswer plan (timing_of plan)) c.in-Some.is c.in_ok-answer.ensures.bus) in
    let hidden : shows_times known.findings.items ≡ false =
    ap shows_times (sym c.as_slice-findings.ensures.value) ∙ (sym c.shows_times.ensures ∙ c.if-shows_times.false) in
    as_checked plan load.loads.timing bus.timed load bus.is_load known.findings.items c.in_ok-answer.ensures.listed c.write_findings.new.text hidden
    (rw (c.new-text.ensures, c.as_slice-findings.ensures.value, c.as_slice-others.ensures.value) at c.in_ok-write_findings.ensures)
