use Rattle.std.proofs.Common.{◌≡◌, ℕ, ◌<◌, List, Vec, Global, [], length, get_or, sym, ap, ◌∙◌, Some, arith}
use Rattle.std.proofs.lemmas.List.Quantifiers.{position-Some}
use Rattle.std.proofs.lemmas.List.{get_or_default}
use Rattle.std.specs.Prelude.{position}
use Rattle.j39_schedule.specs.inside.Checksums.{checksum, is_unit_named}
use Rattle.j39_schedule.proofs.UnitIndexes.{found_first, found_none, list_at}
use Rattle.j39_schedule.proofs.unit_index.UnitIndex.find.Goals as goal

pub returns-in_err-at : goal.returns-in_err-at
returns-in_err-at c =
    let rows = c.self.inside.lists.items in
    let is_k = c.from.ensures ∙ c.checksum.ensures in
    let within : c.from.result < length rows = omega (arith, c.self.invariant) in
    let here = list_at (λ (l : Vec ℕ Global). l.items) rows c.args.self.now c.self.view_is c.from.result within c.index-places.result.now
    c.index-places.ensures in
    let test : ℕ → _ = λ u. is_unit_named c.args.plan.now u c.args.label.now in
    c.from_residual.ensures ∙ sym (found_none c.args.plan.now c.args.self.now c.requires c.args.label.now
    (ap (λ k. position test (get_or c.args.self.now k [])) (sym is_k) ∙ ap (position test) (here ∙ sym c.as_slice.ensures.value) ∙ sym c.in_err-at.ensures))

pub returns : goal.returns
returns c =
    let rows = c.self.inside.lists.items in
    let is_k = c.from.ensures ∙ c.checksum.ensures in
    let within : c.from.result < length rows = omega (arith, c.self.invariant) in
    let here = list_at (λ (l : Vec ℕ Global). l.items) rows c.args.self.now c.self.view_is c.from.result within c.index-places.result.now
    c.index-places.ensures in
    let test : ℕ → _ = λ u. is_unit_named c.args.plan.now u c.args.label.now in
    let found = found_first c.args.plan.now c.args.self.now c.args.label.now c.in_ok-at.at
    (ap (λ k. position test (get_or c.args.self.now k [])) (sym is_k) ∙ ap (position test) (here ∙ sym c.as_slice.ensures.value) ∙ sym c.in_ok-at.ensures) in
    let list = c.index-places.result.now.items in
    let in_list = (position-Some test list c.in_ok-at.at 0 (ap (position test) (sym c.as_slice.ensures.value) ∙ sym c.in_ok-at.ensures)).0 in
    let place = c.index.ensures ∙ get_or_default list c.in_ok-at.at _ 0 in_list
    ∙ ap (λ l. get_or l c.in_ok-at.at 0) (sym here ∙ ap (λ k. get_or c.args.self.now k []) is_k) in
    ap Some place ∙ sym found
