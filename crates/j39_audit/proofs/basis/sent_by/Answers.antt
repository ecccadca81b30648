use Rattle.std.proofs.Common.{◌==◌, ◌&&◌, ◌||◌, ℕ, Bool, false, List, slice_index_or, take, sym, ap, ◌∙◌, arith}
use Rattle.std.specs.List.{list_any}
use Rattle.std.proofs.lemmas.List.{take_all}
use Rattle.std.proofs.lemmas.List.Folds.{list_any_more}
use Rattle.j39_network.specs.declared.plan.flow_plan.FlowPlan.{FlowPlan}
use Rattle.j39_audit.proofs.Sending.{sent_more}
use Rattle.j39_audit.proofs.basis.sent_by.Goals as goal

pub loop-place-init : goal.loop-place-init
loop-place-init c =
    let count = c.len.ensures in
    let size = c.in_ok-row.ensures.size in
    record { size = omega (arith, count, size); each = c.in_ok-row.ensures.none }

pub loop-place-preserved : goal.loop-place-preserved
loop-place-preserved c =
    let flows : List FlowPlan = c.args.plan.now.flows.items in
    let flow : FlowPlan = c.index.result.now in
    let unit = c.args.unit in
    let before = c.loop-place.invariant in
    let reported = c.note_sent.ensures in
    let count = c.len-place-end.ensures in
    let test = c.loop-place-test.true in
    let is_of : ℕ → FlowPlan → Bool = λ g f. f.group == g && f.sender == unit in
    record {
      size = reported.size ∙ before.size;
      each = λ g. sent_more (λ n. slice_index_or c.loop-place.row.items n false) (λ n. slice_index_or c.note_sent.new.row.items n false) flow unit
          reported.others reported.other reported.here g
          ∙ ap (λ (was : Bool). was || (flow.group == g && flow.sender == unit)) (before.each g)
          ∙ ap (λ (f : FlowPlan). list_any (is_of g) (take c.loop-place.place flows) || is_of g f) c.index.ensures
          ∙ sym (list_any_more (is_of g) flows c.loop-place.place flow (omega (arith, count, test)));
    }

pub returns : goal.returns
returns c = λ g.
    let flows : List FlowPlan = c.args.plan.now.flows.items in
    let count = c.len-place-end.ensures in
    let test = c.loop-place-test.false in
    c.loop-place.invariant.each g
    ∙ ap (list_any (λ (f : FlowPlan). f.group == g && f.sender == c.args.unit)) (take_all c.loop-place.place flows (omega (arith, count, test)))
