use Rattle.std.proofs.Common.{rules, ◌≡◌, ◌<◌, ◌==◌, ℕ, Bool, if◌then◌else◌, length, sym, ap, subst, ◌∙◌, inl, inr, arith, eqb-true}
use Rattle.std.specs.Prelude.{slice_set}
use Rattle.std.proofs.lemmas.Bool.{cases_Bool, eqb-false}
use Rattle.j39_follow.specs.Contests.{nothing_contended}
use Rattle.j39_follow.specs.inside.Contesting.{contention_at}
use Rattle.j39_follow.proofs.Addresses.Tables.{set_here, set_there}
use Rattle.j39_follow.proofs.address.contests.put_contention.Goals as goal

pub returns : goal.returns
returns c = λ a less.
    let table = c.args.table.now in
    let k = c.args.address in
    let new = c.args.new in
    let size : length table ≡ 256 = search rules in
    let range : k < 256 = search rules in
    subst (λ (i : ℕ). contention_at (slice_set table i new) a ≡ (if k == a then new else contention_at table a)) (sym c.from.ensures)
    (elim (cases_Bool (k == a)) [
      | inl same ↦
          subst (λ (i : ℕ). contention_at (slice_set table k new) i ≡ new) (eqb-true k a same)
          (set_here table k new nothing_contended (omega (arith, size, range)))
          ∙ sym (ap (λ (b : Bool). if b then new else contention_at table a) same)
      | inr other ↦
          set_there table k a new nothing_contended (eqb-false k a other)
          ∙ sym (ap (λ (b : Bool). if b then new else contention_at table a) other)
    ])
