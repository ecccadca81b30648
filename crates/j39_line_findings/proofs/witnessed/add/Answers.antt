use Rattle.std.proofs.Common.{◌≡◌, ◌∷◌, ◌++◌, [], List, ℕ, ◌<◌, length, get_or, take, true, false, sym, subst, ◌∙◌}
use Rattle.std.proofs.lemmas.List.{get_or_default}
use Rattle.j39_line_findings.specs.Best.{AreBest, IsWitnessAmong, is_better, rank_in}
use Rattle.j39_line_findings.specs.InFile.{is_below}
use Rattle.j39_line_findings.specs.declared.rank.Rank.{Rank}
use Rattle.j39_line_findings.specs.declared.witnessed.Witnessed.{Witnessed}
use Rattle.j39_line_findings.proofs.Ranking.{one_rank}
use Rattle.j39_line_findings.proofs.Witnesses.{insert_at, keep_at, replace_at}
use Rattle.j39_line_findings.proofs.witnessed.add.Goals as goal

pub returns-then-is_next : goal.returns-then-is_next
returns-then-is_next c all best =
    let before : (w : Witnessed) → IsWitnessAmong (take c.place_of-place.result c.args.reported.now.items) w
    → is_below (rank_in w) (rank_in c.args.new) ≡ true =
    rw (c.deref.ensures.value, c.rank.ensures) at c.place_of-place.ensures.before in
    let next : c.place_of-place.result < length c.args.reported.now.items
    → is_below (rank_in c.args.new) (rank_in (get_or c.args.reported.now.items c.place_of-place.result c.args.new)) ≡ true =
    rw (c.deref-2.ensures.value, c.rank-2.ensures) at (c.is_next.ensures.free c.args.new c.if-is_next.true) in
    subst (λ xs. AreBest (all ++ c.args.new ∷ []) xs) (sym c.in_ok-put.ensures)
    (insert_at all c.args.reported.now.items c.place_of-place.result c.args.new best before next)

-- one of its rank is reported at the place
reported_there : (reported one two : List Witnessed) (p : ℕ) (n : Witnessed) (r s : Rank) → one ≡ reported → two ≡ reported → r ≡ rank_in n → s ≡ rank_in n
    → (p < length one → is_below (rank_in (get_or one p n)) r ≡ false) → p < length two → is_below s (rank_in (get_or two p n)) ≡ false
    → (p < length reported) × (rank_in (get_or reported p n) ≡ rank_in n)
reported_there reported one two p n r s is_one is_two is_r is_s behind less taken =
    let inside : p < length reported = rw is_two at less in
    let first : is_below (rank_in (get_or reported p n)) (rank_in n) ≡ false = (rw (is_one, is_r) at behind) inside in
    let second : is_below (rank_in n) (rank_in (get_or reported p n)) ≡ false = rw (is_two, is_s) at taken in (inside, one_rank _ _ first second)

pub returns-then-is_better : goal.returns-then-is_better
returns-then-is_better c all best =
    let (
      less,
      same,
    ) = reported_there c.args.reported.now.items _ _ c.place_of-place.result c.args.new _ _ c.deref.ensures.value c.deref-2.ensures.value c.rank.ensures
    c.rank-2.ensures (c.place_of-place.ensures.behind c.args.new) (c.is_next.ensures.inside c.if-is_next.false)
    (c.is_next.ensures.taken c.args.new c.if-is_next.false) in
    let at = c.index.ensures ∙ get_or_default c.args.reported.now.items c.place_of-place.result c.index.result.now c.args.new less in
    let better = subst (λ w. is_better c.args.new w ≡ true) at (sym c.is_better.ensures ∙ c.if-is_better.true) in
    subst (λ xs. AreBest (all ++ c.args.new ∷ []) xs) (sym c.replace.ensures)
    (replace_at all c.args.reported.now.items c.place_of-place.result c.args.new best less same better)

pub returns-else-is_better : goal.returns-else-is_better
returns-else-is_better c all best =
    let (
      less,
      same,
    ) = reported_there c.args.reported.now.items _ _ c.place_of-place.result c.args.new _ _ c.deref.ensures.value c.deref-2.ensures.value c.rank.ensures
    c.rank-2.ensures (c.place_of-place.ensures.behind c.args.new) (c.is_next.ensures.inside c.if-is_next.false)
    (c.is_next.ensures.taken c.args.new c.if-is_next.false) in
    let at = c.index.ensures ∙ get_or_default c.args.reported.now.items c.place_of-place.result c.index.result.now c.args.new less in
    let worse = subst (λ w. is_better c.args.new w ≡ false) at (sym c.is_better.ensures ∙ c.if-is_better.false) in
    keep_at all c.args.reported.now.items c.place_of-place.result c.args.new best less same worse
