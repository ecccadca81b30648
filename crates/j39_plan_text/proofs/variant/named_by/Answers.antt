use Rattle.std.proofs.Common.{arith, string_bytes, sym}
use Rattle.j39_plan_text.specs.VariantText.{NamesOf}
use Rattle.j39_plan_text.proofs.Wanted.{named_more}
use Rattle.j39_plan_text.proofs.variant.named_by.Goals as goal

pub loop-label-preserved : goal.loop-label-preserved
loop-label-preserved c =
    let here : NamesOf c.args.choices.now (string_bytes c.label-item.result) c.in-Some.alternative = rw c.as_str.ensures.value at (sym c.in-Some.ensures) in
    rw c.in_ok-push-in-Some.ensures.items
    (named_more string_bytes c.args.choices.now c.args.labels.now c.loop-label.label-index c.label-item.result c.loop-label.wanted.items
    c.in-Some.alternative (omega arith) c.label-item.is c.loop-label.invariant here)
