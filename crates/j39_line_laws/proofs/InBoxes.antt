-- A variant is in the box of what is there by each of its alternatives, and by another variant that is.
use Rattle.std.proofs.Common.{◌≡◌, ℕ, ◌<◌, true, ◌&&◌, ◌==◌, List, refl, subst, arith}
use Rattle.std.proofs.lemmas.Bool.{and_from, eq-eqb}
use Rattle.std.proofs.lemmas.Option.{get_or_from_slice_get, slice_get_within}
use Rattle.j39_variants.specs.declared.line.ProductLine.{ProductLine}
use Rattle.j39_variants.specs.Variants.{IsVariant}
use Rattle.j39_line_findings.specs.Boxes.{do_overlap, is_choice_in_all, part_admits}
use Rattle.j39_line_findings.specs.Conditions.{is_part_there}
use Rattle.j39_line_findings.specs.FullVariants.{alternative_at, alternatives_of}
use Rattle.j39_line_findings.specs.declared.part.LinePart.{LinePart}
use Rattle.j39_line_findings.proofs.Shown.{Passes, part_shown}
use Rattle.j39_line_findings.proofs.Tests.{at_all, at_any}
use Rattle.j39_part_laws.proofs.Places.{value_at}
use Rattle.j39_line_laws.proofs.FullCovers.{among, is_of_choice, size}

module _ (line : ProductLine) where
  -- the box of what is there has each alternative that the variant takes
  pub part_lets : (v : List ℕ) → IsVariant line.choices.items v → (part : LinePart) → is_part_there line v part ≡ true
      → Passes (λ a. part_admits line a part) v
  part_lets v is part there = (part_shown line v is part).passes_so there

  -- what is there in one variant is in another one, each of whose alternatives its box has
  pub part_by : (v w : List ℕ) → IsVariant line.choices.items v → IsVariant line.choices.items w → (part : LinePart) → Passes (λ a. part_admits line a part) w
      → is_part_there line v part ≡ true → is_part_there line w part ≡ true
  part_by v w is_v is_w part each there = (part_shown line w is_w part).there_so ((part_shown line v is_v part).known_so there) each

  -- ---- boxes in all of which one variant is meet

  pub meet_by : (v : List ℕ) → IsVariant line.choices.items v → (p q r : LinePart)
      → Passes (λ a. part_admits line a p) v → Passes (λ a. part_admits line a q) v → Passes (λ a. part_admits line a r) v
      → do_overlap line (alternatives_of line) p q r ≡ true
  meet_by v is p q r in_p in_q in_r =
      at_all (λ a. is_choice_in_all line (alternatives_of line) p q r a.choice) (alternatives_of line) (λ i a at_a.
      let (below, inside) = is_of_choice line i a at_a in
      let long = is.of_each in
      let (k, at_k) = value_at v a.choice (omega (arith, below, long)) in
      let fits = is.fits a.choice (slice_get_within v a.choice k at_k) in
      let same = get_or_from_slice_get v a.choice k 0 at_k in
      let (j, at_j) = among line a.choice k below (subst (λ n. n < size line a.choice) same fits) in
      let b = alternative_at a.choice k in
      at_any (λ x. (x.choice == a.choice) && (part_admits line x p && (part_admits line x q && part_admits line x r))) (alternatives_of line) j b at_j
      (and_from (b.choice == a.choice) _ (eq-eqb a.choice a.choice refl)
      (and_from (part_admits line b p) _ (in_p a.choice k at_k) (and_from (part_admits line b q) _ (in_q a.choice k at_k) (in_r a.choice k at_k)))))
