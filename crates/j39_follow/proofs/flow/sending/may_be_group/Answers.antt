use Rattle.std.proofs.Common.{◌≡◌, ◌≢◌, ◌⊎◌, ℕ, List, length, Option, Some, None, true, false, inl, inr, refl, sym, ap, ◌∙◌}
use Rattle.std.specs.List.{slice_get}
use Rattle.std.specs.Option.{is_some}
use Rattle.std.proofs.lemmas.Option.{get_or_from_slice_get, slice_get-get_or}
use Rattle.std.proofs.lemmas.Bool.{false≢true}
use Rattle.j39_network.specs.declared.plan.group_plan.GroupPlan.{GroupPlan}
use Rattle.j39_signal.specs.Selectors.{is_selected}
use Rattle.j39_network.specs.declared.plan.Plan.{Plan}
use Rattle.j39_follow.specs.Fits.{MayBeGroup, fitting_flow, may_have_bytes}
use Rattle.j39_follow.specs.declared.flow.sending.Sending.{Sending}
use Rattle.j39_follow.proofs.flow.sending.may_be_group.Goals as goal

some_or_none : (o : Option ℕ) → is_some o ≡ true → o ≢ None
some_or_none None e d = cc
some_or_none (Some x) e d = cc

none_or_some : (o : Option ℕ) → o ≢ None → is_some o ≡ true
none_or_some None e = absurd (e refl)
none_or_some (Some x) e = refl

planned_as : (plan : Plan) (pgn : ℕ) (bytes : List ℕ) (sent : Sending) (place : ℕ) (group : GroupPlan) → slice_get plan.groups.items place ≡ Some group
    → group.pgn ≡ pgn → may_have_bytes group (length bytes) ≡ true → is_selected group.when bytes ≡ true
    → (group.private ≡ false) ⊎ (fitting_flow plan place sent ≢ None) → MayBeGroup plan pgn bytes sent place
planned_as plan pgn bytes sent place group at number has selected own = record {
  value = group;
  value_is = at;
  meets = record { number = number; length = has; selected = selected; own = own };
}

pub returns-then-not-is_selected : goal.returns-then-not-is_selected
returns-then-not-is_selected c = (
  λ e. absurd (false≢true e),
  λ may.
      let same : c.group-group.result.now ≡ may.value =
      sym (c.group-group.ensures c.group-group.result.now)
      ∙ get_or_from_slice_get c.args.groups.now.groups.items c.args.place may.value c.group-group.result.now may.value_is in
      absurd (false≢true (sym c.if-not-is_selected.true ∙ c.is_selected.ensures
      ∙ ap (λ (g : GroupPlan). is_selected g.when c.args.bytes.now) same ∙ may.meets.selected)),
)

pub returns-then-not-group : goal.returns-then-not-group
returns-then-not-group c = (
  λ e. planned_as c.args.groups.now c.args.pgn c.args.bytes.now c.args.sent c.args.place c.group-group.result.now
      (slice_get-get_or c.args.groups.now.groups.items c.args.place c.group-group.result.now c.requires ∙ ap Some
      (c.group-group.ensures c.group-group.result.now))
      c.if-group-pgn.false (sym c.has_length.ensures ∙ c.if-not-has_length.false) (sym c.is_selected.ensures ∙ c.if-not-is_selected.false)
      (inl c.if-not-group.true),
  λ may. refl,
)

pub returns : goal.returns
returns c = (
  λ e. planned_as c.args.groups.now c.args.pgn c.args.bytes.now c.args.sent c.args.place c.group-group.result.now
      (slice_get-get_or c.args.groups.now.groups.items c.args.place c.group-group.result.now c.requires ∙ ap Some
      (c.group-group.ensures c.group-group.result.now))
      c.if-group-pgn.false (sym c.has_length.ensures ∙ c.if-not-has_length.false) (sym c.is_selected.ensures ∙ c.if-not-is_selected.false)
      (inr (some_or_none (fitting_flow c.args.groups.now c.args.place c.args.sent) (ap is_some (sym c.flow_of.ensures) ∙ sym c.is_some.ensures ∙ e))),
  λ may. elim may.meets.own [
    | inl shared ↦
        let same : c.group-group.result.now ≡ may.value =
        sym (c.group-group.ensures c.group-group.result.now)
        ∙ get_or_from_slice_get c.args.groups.now.groups.items c.args.place may.value c.group-group.result.now may.value_is in
        absurd (false≢true (sym shared ∙ sym (ap (λ (g : GroupPlan). g.private) same) ∙ c.if-not-group.false))
    | inr flow ↦ c.is_some.ensures ∙ ap is_some c.flow_of.ensures ∙ none_or_some (fitting_flow c.args.groups.now c.args.place c.args.sent) flow
  ],
)
