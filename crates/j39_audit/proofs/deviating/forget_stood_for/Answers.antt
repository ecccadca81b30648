use Rattle.std.proofs.Common.{◌≡◌, ◌==◌, ◌&&◌, Bool, None, Option, cond, false, slice_index_or, sym, ap, ◌∙◌, arith, inl, inr}
use Rattle.std.specs.Option.{option_map_or}
use Rattle.std.proofs.lemmas.Bool.{cases_lt}
use Rattle.std.proofs.lemmas.Option.{slice_get_past}
use Rattle.j39_audit.specs.Pauses.{have_one_number, is_stood_for}
use Rattle.j39_network.specs.declared.plan.flow_plan.FlowPlan.{FlowPlan}
use Rattle.j39_audit.proofs.deviating.forget_stood_for.Goals as goal

pub returns : goal.returns
unfolding is_stood_for
returns c =
    let plan = c.args.basis.now.plan.now in
    let before = c.loop-place.invariant in
    let done = c.loop-place-test.false in
    let count = c.len-place-end.ensures in
    record {
      size = before.size;
      each = λ n. elim (cases_lt n c.loop-place.place) [
        | inl less ↦ before.before n less
        | inr past ↦
            let none = slice_get_past plan.flows.items n (omega (arith, past, done, count)) in
            let not : is_stood_for plan c.args.unit c.args.group n ≡ false =
            ap (λ (o : Option FlowPlan). option_map_or (λ (flow : FlowPlan). flow.sender == c.args.unit
            && have_one_number plan c.args.group flow.group) o false) none in
            before.behind n past ∙ sym (ap (λ (b : Bool). cond b None (slice_index_or c.args.newest.now.items n None)) not)
      ];
    }
