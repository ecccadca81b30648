use Rattle.std.proofs.Common.{◌∷◌, ◌++◌, [], sym, subst}
use Rattle.j39_follow.specs.declared.address.holders.Holders.{Holders}
use Rattle.j39_follow.specs.inside.Recounting.{Recounts}
use Rattle.j39_follow.proofs.address.directory.Directory.hear.Goals as goal

pub returns : goal.returns
returns c = λ frames many of.
    let plan = c.args.plan.now in
    let before = subst (λ (h : Holders). Recounts plan h frames) (sym c.deref_mut.ensures.value) of.recounts in
    let heard = c.hear.ensures frames many before in
    let read = subst (λ (h : Holders). Recounts plan h (frames ++ c.args.frame.now ∷ [])) (sym c.deref.ensures) heard in
    record { recounts = heard; parties = c.parties_of-all.ensures _ read; names = c.kept_names-names.ensures }
