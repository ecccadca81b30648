use Rattle.std.proofs.Common.{◌≡◌, List, ℕ, filter, map, sym, ap, subst, ◌∙◌}
use Rattle.j39_variants.specs.Variants.{is_possible}
use Rattle.j39_line_findings.specs.FullVariants.{line_with}
use Rattle.j39_line_check.specs.FullSets.{AreLookedAt}
use Rattle.j39_line_check.specs.SetVariants.{AreVariantsOfSets}
use Rattle.j39_line_check.proofs.Filters.{kept_values}
use Rattle.j39_line_check.proofs.VariantsLookedAt.{are_looked_at}
use Rattle.j39_line_check.proofs.full_sets.looked_at.Goals as goal

pub returns : goal.returns
returns c full widest =
    let line = line_with c.args.nevers c.args.line.now in
    let vs : List (List ℕ) = map (λ v. v.items) c.in_ok-variants.variants.items in
    let are : AreVariantsOfSets c.args.line.now.choices.items (map (λ s. s.items) c.args.sets.now) vs =
    rw c.deref.ensures.value at c.in_ok-variants.ensures in
    let kept : map (λ v. v.items) c.keep_built.new.variants.items ≡ filter (is_possible line.nevers.items) vs =
    ap (map (λ v. v.items)) c.keep_built.ensures ∙ kept_values (λ v. v.items) (is_possible line.nevers.items) c.in_ok-variants.variants.items in
    subst (AreLookedAt line full) (sym kept) (are_looked_at line full (map (λ s. s.items) c.args.sets.now) vs are widest)
