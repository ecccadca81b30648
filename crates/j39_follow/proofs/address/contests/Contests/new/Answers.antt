use Rattle.std.proofs.Common.{◌≡◌, [], List, refl, sym, ap, subst, ◌∙◌}
use Rattle.std.proofs.lemmas.List.{get_or-replicate}
use Rattle.j39_follow.specs.Contests.{IsContention, nothing_contended}
use Rattle.j39_follow.specs.declared.address.contest.Contention.{Contention}
use Rattle.j39_follow.specs.inside.Contesting.{contention_at}
use Rattle.j39_follow.proofs.Addresses.Claimed.{none_known}
use Rattle.j39_follow.proofs.address.contests.Contests.new.Goals as goal

pub returns : goal.returns
returns c = λ plan. record {
  contentions = λ a less.
      let table : contention_at c.in_ok-new.field-0.value a ≡ nothing_contended =
      ap (λ (t : List Contention). contention_at t a) c.in_ok-new.ensures.ok
      ∙ get_or-replicate 256 a c.new.result nothing_contended less ∙ c.new.ensures in
      subst (IsContention plan [] a) (sym table) refl;
  claimants = none_known plan c.new-3.result c.new-3.ensures;
}
