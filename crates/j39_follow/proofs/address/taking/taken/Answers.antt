use Rattle.std.proofs.Common.{rules, ◌≡◌, ◌⊎◌, ◌<◌, ◌==◌, ℕ, List, length, sym, subst, ◌∙◌, inl, inr, arith, eqb-true}
use Rattle.std.specs.Prelude.{slice_set}
use Rattle.std.proofs.lemmas.Bool.{cases_Bool, eqb-false}
use Rattle.std.proofs.lemmas.List.{length-set}
use Rattle.j39_follow.specs.declared.address.who.Who.{Who}
use Rattle.j39_follow.specs.declared.address.who.Who.TheVariants.{Holder}
use Rattle.j39_follow.specs.inside.Contesting.{defender_at, taken_party}
use Rattle.j39_follow.specs.inside.Recounting.{party_at}
use Rattle.j39_follow.proofs.Addresses.Tables.{set_here, set_there}
use Rattle.j39_follow.proofs.address.taking.taken.Goals as goal

-- where this is set for a place, the place has it
put_here : (all : List Who) (k a : ℕ) (w : Who) (t : ℕ → Who) → k ≡ a → a < length all → w ≡ t a → party_at (slice_set all k w) a ≡ t a
put_here all k a w t there room is =
    subst (λ (i : ℕ). party_at (slice_set all i w) a ≡ w) (sym there) (set_here all a w (Holder 0) room) ∙ is

-- and where it is set for another place too
put_kept : (all : List Who) (k x a : ℕ) (w : Who) (t : ℕ → Who) → k ≡ x → x < length all → w ≡ t x → party_at all a ≡ t a
    → party_at (slice_set all k w) a ≡ t a
put_kept all k x a w t there room is before = elim (cases_Bool (x == a)) [
  | inl same ↦
      let one : x ≡ a = eqb-true x a same in
      subst (λ (i : ℕ). party_at (slice_set all k w) i ≡ t i) one (put_here all k x w t there room is)
  | inr other ↦
      let apart = eqb-false x a other in
      set_there all k a w (Holder 0) (λ e. apart (sym there ∙ e)) ∙ before
]

-- so where a place has it, or had it before
put : (all : List Who) (k x a : ℕ) (w : Who) (t : ℕ → Who) → k ≡ x → x < length all → w ≡ t x → (a ≡ x) ⊎ (party_at all a ≡ t a)
    → party_at (slice_set all k w) a ≡ t a
put all k x a w t there room is (inl same) = subst (λ (i : ℕ). party_at (slice_set all k w) i ≡ t i) (sym same) (put_here all k x w t there room is)
put all k x a w t there room is (inr before) = put_kept all k x a w t there room is before

pub returns-clause-taken : goal.returns-clause-taken
returns-clause-taken c = λ a one.
    let all : List Who = c.args.parties.now.all in
    let i = c.args.ident in
    let asker = c.args.asker in
    let t : ℕ → Who = λ x. taken_party (party_at all x) (defender_at c.args.contests.now x c.args.time) in
    let first : List Who = slice_set all c.from.result c.taken_at-third.result in
    let second : List Who = slice_set first c.from-2.result c.taken_at-source.result in
    let size : length all ≡ 256 = search rules in
    let range : asker < 256 = search rules in
    let size_first = length-set all c.from.result c.taken_at-third.result in
    let size_second = length-set first c.from-2.result c.taken_at-source.result in
    let sa = i.sa_range in
    let ps = i.ps_range in
    let put_first : a ≡ asker → party_at first a ≡ t a =
    λ is. put all c.from.result asker a c.taken_at-third.result t c.from.ensures (omega (arith, size, range)) c.taken_at-third.ensures (inl is) in
    let put_second : (a ≡ i.sa) ⊎ (party_at first a ≡ t a) → party_at second a ≡ t a =
    put first c.from-2.result i.sa a c.taken_at-source.result t c.from-2.ensures (omega (arith, size, size_first, sa)) c.taken_at-source.ensures in
    put second c.from-3.result i.ps a c.taken_at-receiver.result t c.from-3.ensures (omega (arith, size, size_first, size_second, ps))
    c.taken_at-receiver.ensures
    (elim one [
      | inl source ↦ inr (put_second (inl source))
      | inr (inl receiver) ↦ inl receiver
      | inr (inr third) ↦ inr (put_second (inr (put_first third)))
    ])
