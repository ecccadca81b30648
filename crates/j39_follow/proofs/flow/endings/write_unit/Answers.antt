use Rattle.std.proofs.Common.{rules, ◌≡◌, ◌<◌, ℕ, length, Some, sym, subst, ◌∙◌}
use Rattle.std.proofs.lemmas.Option.{slice_get_within}
use Rattle.std.proofs.lemmas.Result.{IfOk-weaker}
use Rattle.j39_follow.specs.declared.address.holders.Holders.{Holders}
use Rattle.j39_follow.specs.inside.Recounting.{HasNameAt, IsLatestBelow}
use Rattle.j39_follow.proofs.Addresses.Standing.{line_nowhere, line_there, line_unclaimed}
use Rattle.j39_follow.proofs.flow.endings.write_unit.Goals as goal

within : (holders : Holders) → length holders.names ≡ 254 → (b n : ℕ) → HasNameAt holders b n → b < 254
within holders size b n named = subst (λ (k : ℕ). b < k) size (slice_get_within holders.names b (Some n) named)

pub returns-in-Some : goal.returns-in-Some
returns-in-Some c =
    let stands = subst (IsLatestBelow c.args.plan.now c.args.holders.now c.args.place c.args.unit.now 254) c.in-Some.is c.address.ensures in
    IfOk-weaker c.write_standing.result _ _
    (λ _ written. λ frames of. (
      _,
      line_there c.args.plan.now c.args.holders.now c.args.place c.args.unit.now frames of 254 c.in-Some.address
          (within c.args.holders.now (search rules)) stands,
      written,
    ))
    c.write_standing.ensures

pub returns-then-was_heard : goal.returns-then-was_heard
returns-then-was_heard c =
    let holders = c.args.holders.now in
    let none = subst (IsLatestBelow c.args.plan.now holders c.args.place c.args.unit.now 254) c.in_default.is c.address.ensures in
    let heard = sym c.was_heard.ensures ∙ c.if-was_heard.true in
    IfOk-weaker c.write_nowhere.result _ _
    (λ _ written. λ frames of.
    (_, line_nowhere c.args.plan.now holders c.args.place c.args.unit.now frames of 254 (within holders (search rules)) none c.requires.there heard, written))
    c.write_nowhere.ensures

pub returns-else-was_heard : goal.returns-else-was_heard
returns-else-was_heard c =
    IfOk-weaker c.write_nowhere-else-was_heard.result _ _
    (λ _ written. λ frames of. (
      _,
      line_unclaimed c.args.plan.now c.args.holders.now c.args.place c.args.unit.now frames of c.requires.there
          (sym c.was_heard.ensures ∙ c.if-was_heard.false),
      written,
    ))
    c.write_nowhere-else-was_heard.ensures
