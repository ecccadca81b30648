use Rattle.std.proofs.Common.{◌≡◌, ◌∷◌, [], List, ℕ, map, sym, ap, subst, ◌∙◌}
use Rattle.std.proofs.lemmas.List.{drop_all}
use Rattle.j39_variants.specs.declared.line.Alternative.{Alternative}
use Rattle.j39_line_findings.specs.AllVariants.{longer}
use Rattle.j39_line_check.specs.SetVariants.{AreVariantsOfSets}
use Rattle.j39_line_check.proofs.Enumerated.{are_begun, begun, begun_behind, keep, kept_of_sets, next_begun}
use Rattle.j39_line_check.proofs.set_variants.variants_of_sets.Goals as goal

pub loop-choice-init : goal.loop-choice-init
loop-choice-init c =
    let sets : List (List Alternative) = map (λ s. s.items) c.args.sets.now in
    let one : map (λ v. v.items) c.push.new.self.items ≡ [] ∷ [] =
    rw (c.in_ok-push.ensures.items, c.new-all.ensures.items) (ap (λ (v : List ℕ). v ∷ []) c.new.ensures.items) in
    let kept : map (λ v. v.items) c.keep_begun.new.taken.items ≡ keep sets ([] ∷ []) =
    ap (map (λ v. v.items)) c.keep_begun.ensures ∙ kept_of_sets (λ v. v.items) (λ s. s.items) c.args.sets.now c.push.new.self.items ∙ ap (keep sets) one in
    ap (λ (vs : List (List ℕ)). begun_behind sets vs c.args.choices.now) kept

pub loop-choice-preserved : goal.loop-choice-preserved
loop-choice-preserved c =
    let sets : List (List Alternative) = map (λ s. s.items) c.args.sets.now in
    let vs : List (List ℕ) = map (λ v. v.items) c.loop-choice.all.items in
    let more : map (λ v. v.items) c.in_ok-all.all.items ≡ longer c.len.result vs = rw c.deref.ensures.value at c.in_ok-all.ensures in
    let kept : map (λ v. v.items) c.keep_begun-in-loop-choice.new.taken.items ≡ keep sets (longer c.len.result vs) =
    ap (map (λ v. v.items)) c.keep_begun-in-loop-choice.ensures ∙ kept_of_sets (λ v. v.items) (λ s. s.items) c.args.sets.now c.in_ok-all.all.items ∙ ap
    (keep sets) more in
    next_begun sets c.args.choices.now c.loop-choice.choice-index c.choice-item.result vs
    (map (λ v. v.items) c.keep_begun-in-loop-choice.new.taken.items) c.loop-choice-test.true c.choice-item.is
    (kept ∙ ap (λ n. keep sets (longer n vs)) (c.len.ensures ∙ c.choice-item.result.alternatives.ok.0))
    ∙ c.loop-choice.invariant

pub returns : goal.returns
returns c =
    let sets : List (List Alternative) = map (λ s. s.items) c.args.sets.now in
    let vs : List (List ℕ) = map (λ v. v.items) c.loop-choice.all.items in
    let all : vs ≡ begun sets c.args.choices.now =
    sym (ap (begun_behind sets vs) (drop_all c.loop-choice.choice-index c.args.choices.now c.loop-choice-test.false)) ∙ c.loop-choice.invariant in
    subst (AreVariantsOfSets c.args.choices.now sets) (sym all) (are_begun sets c.args.choices.now)
