use Rattle.std.proofs.Common.{◌==◌, ℕ, inl, inr, subst, sym, ◌∙◌, arith, eqb-true}
use Rattle.std.proofs.lemmas.Bool.{cases_Bool, cases_lt, eqb-false, false≢true}
use Rattle.j39_follow.specs.Fits.{MayBeGroup}
use Rattle.j39_follow.proofs.Flows.Numbered.{not_outside}
use Rattle.j39_follow.proofs.flow.sending.group_in.Goals as goal

pub returns-then-may_be_group : goal.returns-then-may_be_group
returns-then-may_be_group c = (c.may_be_group.ensures.0 c.if-may_be_group.true, c.loop-place.invariant)

pub loop-place-init : goal.loop-place-init
loop-place-init c = λ earlier less. not_outside c.args.groups.now c.args.pgn c.args.bytes.now c.args.sent c.args.span c.requires earlier (inl less)

pub loop-place-preserved : goal.loop-place-preserved
loop-place-preserved c = λ earlier less may. elim (cases_Bool (earlier == c.loop-place.place)) [
  | inl same ↦
      let is = eqb-true earlier c.loop-place.place same in
      false≢true (sym c.if-may_be_group.false
      ∙ c.may_be_group.ensures.1 (subst (λ (i : ℕ). MayBeGroup c.args.groups.now c.args.pgn c.args.bytes.now c.args.sent i) is may))
  | inr other ↦
      let apart = eqb-false earlier c.loop-place.place other in
      c.loop-place.invariant earlier (omega (arith, less, apart)) may
]

pub returns : goal.returns
returns c = λ place may. elim (cases_lt place c.loop-place.place) [
  | inl before ↦ c.loop-place.invariant place before may
  | inr behind ↦
      let test = c.loop-place-test.false in
      not_outside c.args.groups.now c.args.pgn c.args.bytes.now c.args.sent c.args.span c.requires place (inr (omega (arith, behind, test))) may
]
