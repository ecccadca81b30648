use Rattle.std.proofs.Common.{◌≡◌, false, get_or, true, sym, ap, ◌∙◌}
use Rattle.std.proofs.lemmas.List.{drop_all}
use Rattle.j39_line_findings.specs.FullVariants.{alternative_at}
use Rattle.j39_line_check.specs.SetVariants.{set_has, takes_from}
use Rattle.j39_line_check.proofs.Sets.{takes_next}
use Rattle.j39_line_check.proofs.set_variants.takes_alone.Goals as goal

pub returns-then-not-names : goal.returns-then-not-names
returns-then-not-names c =
    let i = c.loop-choice.choice in
    let none : set_has c.args.set.now (alternative_at i (get_or c.args.variant.now i 0)) ≡ false = sym c.names.ensures ∙ c.if-not-names.true in
    sym (rw none at (takes_next c.args.set.now c.args.variant.now i 0 c.loop-choice-test.true)) ∙ c.loop-choice.invariant

pub loop-choice-preserved : goal.loop-choice-preserved
loop-choice-preserved c =
    let i = c.loop-choice.choice in
    let here : set_has c.args.set.now (alternative_at i (get_or c.args.variant.now i 0)) ≡ true = sym c.names.ensures ∙ c.if-not-names.false in
    sym (rw here at (takes_next c.args.set.now c.args.variant.now i 0 c.loop-choice-test.true)) ∙ c.loop-choice.invariant

pub returns : goal.returns
returns c =
    sym (ap (takes_from c.args.set.now c.loop-choice.choice) (drop_all c.loop-choice.choice c.args.variant.now c.loop-choice-test.false))
    ∙ c.loop-choice.invariant
