use Rattle.std.proofs.Common.{◌≡◌, [], List, map, refl, sym, inl, inr, ap}
use Rattle.std.proofs.lemmas.Result.{err_from_is_err_and}
use Rattle.toml.specs.View.{table_view}
use Rattle.j39_toml.proofs.FirstFaults.{fails_on, first-append}
use Rattle.j39_plan.proofs.NoFaults.{none_left}
use Rattle.j39_variants.specs.ChoiceTables.{choice_labels}
use Rattle.j39_variants.proofs.Lines.{never_fails, same_count, tables_are}
use Rattle.j39_variants.proofs.reading.read_members.Goals as goal

pub returns-in_err-plan : goal.returns-in_err-plan
returns-in_err-plan c =
    let p = err_from_is_err_and c.from_residual.result c.from_residual.ensures.1 in
    rw (p.1, p.2) (fails_on _ _ c.in_err-plan.field-0.0 _ _ (λ grows. inl grows) (λ f is. first-append _ _ f is) c.in_err-plan.ensures)

pub returns-in_err-top : goal.returns-in_err-top
returns-in_err-top c = absurd (never_fails c.in_err-top.field-0.0 _ (none_left _ _ c.in_ok-plan.ensures.0) c.in_err-top.ensures.gives)

pub returns-in_err-choices : goal.returns-in_err-choices
returns-in_err-choices c =
    let p = err_from_is_err_and c.from_residual-in_err-choices.result c.from_residual-in_err-choices.ensures.1 in
    rw (p.1, p.2, c.in_ok-plan.ensures.0)
    (fails_on _ _ c.in_err-choices.field-0.0 _ _ (λ grows. inr refl) (λ f is. first-append _ _ f is) c.in_err-choices.ensures.gives)

pub returns-in_err-nevers : goal.returns-in_err-nevers
returns-in_err-nevers c =
    let p = err_from_is_err_and c.from_residual-in_err-nevers.result c.from_residual-in_err-nevers.ensures.1 in
    let fails = rw (c.deref.ensures.value, c.in_ok-choices.ensures.labels) at c.in_err-nevers.ensures in
    rw (p.1, p.2, c.in_ok-plan.ensures.0, c.in_ok-choices.ensures.gives.0)
    (fails_on _ _ c.in_err-nevers.field-0.0 _ _ (λ grows. inr refl) (λ f is. first-append _ _ f is) fails)

pub returns-in_err-lists : goal.returns-in_err-lists
returns-in_err-lists c =
    let p = err_from_is_err_and c.from_residual-in_err-lists.result c.from_residual-in_err-lists.ensures.1 in
    let none = rw (c.deref.ensures.value, c.in_ok-choices.ensures.labels) at c.in_ok-nevers.ensures.0 in
    let fails = rw (c.deref-2.ensures.value, c.in_ok-choices.ensures.labels, tables_are _ _ c.in_ok-top.ensures.gives.1) at c.in_err-lists.ensures in
    rw (p.1, p.2, c.in_ok-plan.ensures.0, c.in_ok-choices.ensures.gives.0, none)
    (fails_on _ _ c.in_err-lists.field-0.0 _ _ (λ grows. inr refl) (λ f is. is) fails)

pub returns : goal.returns
returns c =
    let nevers = rw (c.deref.ensures.value, c.in_ok-choices.ensures.labels) at c.in_ok-nevers.ensures in
    let lists = rw (c.deref-2.ensures.value, c.in_ok-choices.ensures.labels, tables_are _ _ c.in_ok-top.ensures.gives.1) at c.in_ok-lists.ensures in (
      rw (c.in_ok-plan.ensures.0, c.in_ok-choices.ensures.gives.0, nevers.0) lists.0,
      record { has_plan = c.in_ok-plan.ensures.1; has_choices = c.in_ok-choices.ensures.gives.1; has_nevers = nevers.1; has_lists = lists.1 },
    )

pub invariant_of-result : goal.invariant_of-result
invariant_of-result c =
    let top = c.in_ok-top.ensures.gives.1 in
    let plan = c.in_ok-plan.ensures.1 in
    let lists = c.in_ok-lists.ensures.1 in
    record {
      unit_lists = same_count _ _ _ _ _ _ lists.has_units plan.has_units top.has_units;
      group_lists = same_count _ _ _ _ _ _ lists.has_groups plan.has_groups top.has_groups;
      flow_lists = same_count _ _ _ _ _ _ lists.has_flows plan.has_flows top.has_flows;
      need_lists = same_count _ _ _ _ _ _ lists.has_needs plan.has_needs top.has_needs;
      request_lists = same_count _ _ _ _ _ _ lists.has_requests plan.has_requests top.has_requests;
    }
