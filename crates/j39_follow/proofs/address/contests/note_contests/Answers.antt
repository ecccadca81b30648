use Rattle.std.proofs.Common.{◌≡◌, ◌==◌, ℕ, Bool, if◌then◌else◌, refl, sym, ap, subst, ◌∙◌, inl, inr, eqb-true}
use Rattle.std.proofs.lemmas.Bool.{cases_Bool, eqb-false, false≢true}
use Rattle.j39_follow.specs.Contests.{IsContentionBehind, Timed, likely_named}
use Rattle.j39_follow.specs.declared.address.contest.Contention.{Contention}
use Rattle.j39_follow.specs.inside.Contesting.{contention_at}
use Rattle.j39_follow.proofs.Addresses.Contending.{left_behind}
use Rattle.j39_follow.proofs.address.contests.note_contests.Goals as goal

pub returns-then-not-claims_address : goal.returns-then-not-claims_address
returns-then-not-claims_address c = λ log a less knows of.
    let plan = c.args.plan.now in
    let f = c.args.frame.now in
    let x : Timed = record { frame = f; time = c.args.time } in
    let old : Contention = contention_at c.args.table.now a in
    let named = of.party ∙ ap (likely_named plan) (sym c.requires.name) in
    subst (IsContentionBehind plan log old x a) (sym (c.leave_contests.ensures a less))
    (left_behind plan log old x a c.args.claimant.party named c.requires.either
    (λ name claims. false≢true (sym (sym c.claims_address.ensures ∙ c.if-not-claims_address.true) ∙ claims.claim)))

pub returns : goal.returns
returns c = λ log a less knows of.
    let plan = c.args.plan.now in
    let f = c.args.frame.now in
    let x : Timed = record { frame = f; time = c.args.time } in
    let sa = f.ident.sa in
    let old : Contention = contention_at c.args.table.now a in
    let named = of.party ∙ ap (likely_named plan) (sym c.requires.name) in
    let put = c.put_contention.ensures a less in
    elim (cases_Bool (sa == a)) [
      | inl same ↦
          let is : sa ≡ a = eqb-true sa a same in
          let new : contention_at c.put_contention.new.table a ≡ c.contention_behind-new.result =
          put ∙ ap (λ (b : Bool). if b then c.contention_behind-new.result else contention_at c.leave_contests.new.table a) same in
          let behind = c.contention_behind-new.ensures log x knows (record {
            claims = record {
              claim = sym c.claims_address.ensures ∙ c.if-not-claims_address.false;
              name_is = c.requires.name;
              source_is = refl;
            };
            claimant = of;
            time = refl;
          }) in
          subst (IsContentionBehind plan log old x a) (sym new)
          (subst (λ (i : ℕ). IsContentionBehind plan log (contention_at c.args.table.now i) x i c.contention_behind-new.result) is
          (subst (λ (i : ℕ). IsContentionBehind plan log (contention_at c.args.table.now i) x sa c.contention_behind-new.result) c.from.ensures
          behind))
      | inr other ↦
          let rest : contention_at c.put_contention.new.table a ≡ contention_at c.leave_contests.new.table a =
          put ∙ ap (λ (b : Bool). if b then c.contention_behind-new.result else contention_at c.leave_contests.new.table a) other in
          subst (IsContentionBehind plan log old x a) (sym (rest ∙ c.leave_contests.ensures a less))
          (left_behind plan log old x a c.args.claimant.party named c.requires.either
          (λ name claims. eqb-false sa a other claims.source_is))
    ]
