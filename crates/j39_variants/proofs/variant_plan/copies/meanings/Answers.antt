use Rattle.std.proofs.Common.{◌≡◌, ◌++◌, ◌∷◌, [], ◌+◌, take, get_or, arith, subst}
use Rattle.std.proofs.lemmas.List.{take_more}
use Rattle.std.proofs.lemmas.List.Elements.{AllZip-push}
use Rattle.j39_network.specs.declared.plan.meaning.Meaning.{Meaning}
use Rattle.j39_variants.specs.VariantPlans.{IsCopyOfMeaning}
use Rattle.j39_variants.proofs.variant_plan.copies.meanings.Goals as goal

pub loop-stated-preserved : goal.loop-stated-preserved
loop-stated-preserved c =
    let ms = c.args.meanings.now in
    let i = c.loop-stated.stated-index in
    let m = c.stated-item.result in
    let P : Meaning → Type 0 = λ x. IsCopyOfMeaning x c.in_ok-meaning.field-0 in
    let here : IsCopyOfMeaning (get_or ms i m) c.in_ok-meaning.field-0 = subst P c.stated-item.is c.in_ok-meaning.ensures in
    rw (c.in_ok-push.ensures.items, take_more ms i m (omega arith))
    (AllZip-push IsCopyOfMeaning (take i ms) c.loop-stated.copies.items (get_or ms i m) c.in_ok-meaning.field-0 c.loop-stated.invariant here)
