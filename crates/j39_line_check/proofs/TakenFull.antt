-- Full variants take full alternatives alone, and are looked at.
use Rattle.std.proofs.Common.{◌≡◌, ℕ, zero, suc, ◌+◌, ◌==◌, List, [], ◌∷◌, true, false, ◌&&◌, Option, Vec, Some, None, inl, inr, if◌then◌else◌, is_some, map}
use Rattle.std.proofs.Common.{option_map, refl, sym, ap, subst, ◌∙◌, arith}
use Rattle.std.specs.List.{Contains, list_any, slice_get}
use Rattle.std.specs.Option.{option_map_or}
use Rattle.std.proofs.lemmas.Bool.{and_parts, cases_Bool, eq-eqb, false≢true}
use Rattle.std.proofs.lemmas.Option.{same_Some, slice_get-map}
use Rattle.std.specs.declared.alloc.Global.{Global}
use Rattle.j39_load.specs.LineLists.{lines_of_each}
use Rattle.j39_network.specs.declared.plan.need_plan.NeedPlan.{NeedPlan}
use Rattle.j39_variants.specs.Variants.{IsVariant, is_possible}
use Rattle.j39_variants.specs.declared.line.Alternative.{Alternative}
use Rattle.j39_variants.specs.declared.line.ProductLine.{ProductLine}
use Rattle.j39_line_findings.specs.Boxes.{is_one_alternative}
use Rattle.j39_line_findings.specs.FullVariants.{AreFullAlternatives, alternative_at, alternatives_of, full_alternatives, full_of_need}
use Rattle.j39_line_findings.specs.PossibleVariants.{IsPossible}
use Rattle.j39_line_findings.specs.declared.full.FullAlternatives.{FullAlternatives}
use Rattle.j39_line_laws.specs.Covering.{IsFullFor}
use Rattle.j39_line_laws.specs.FoundOfFull.{IsPossibleFull}
use Rattle.j39_line_laws.specs.OldNeeds.{AsksForAge, IsPossibleFullFor}
use Rattle.j39_line_check.specs.CountedFindings.{takes_full_of_need}
use Rattle.j39_line_check.specs.FullSets.{IsFullSomehow, full_sets, need_sets}
use Rattle.j39_line_check.specs.SetVariants.{IsSetAmong, set_has, takes_alone, takes_from}
use Rattle.j39_line_check.proofs.Sets.{taken_one}
use Rattle.j39_line_check.proofs.ReportedInOrder.{cases_in, none_in}

has_it : (set : List Alternative) (a : Alternative) → Contains set a → set_has set a ≡ true
has_it [] a at = absurd (none_in a at)
has_it (b ∷ set) a at = elim (cases_in b a set at) [
  | inl here ↦
      let own : is_one_alternative b a ≡ true =
      rw here (let c : (b.choice == b.choice) ≡ true = eq-eqb b.choice b.choice refl in let p : (b.place == b.place) ≡ true = eq-eqb b.place b.place refl
      in rw (c, p) refl) in
      rw own refl
  | inr later ↦ elim (cases_Bool (is_one_alternative b a)) [
    | inl same ↦ rw same refl
    | inr other ↦ rw other (has_it set a later)
  ]
]

takes_each : (set : List Alternative) (c : ℕ) (v : List ℕ) → ((i p : ℕ) → slice_get v i ≡ Some p → Contains set (alternative_at (c + i) p))
    → takes_from set c v ≡ true
takes_each set c [] each = refl
takes_each set c (p ∷ v) each =
    let here : set_has set (alternative_at c p) ≡ true =
    has_it set (alternative_at c p) (subst (λ n. Contains set (alternative_at n p)) (omega arith) (each 0 p refl)) in
    let rest : takes_from set (c + 1) v ≡ true =
    takes_each set (c + 1) v (λ i q at. subst (λ n. Contains set (alternative_at n q)) (omega arith) (each (suc i) q at)) in
    rw (here, rest) refl

module _ (line : ProductLine) (full : FullAlternatives) (are_full : AreFullAlternatives line full) where
  pub full_taken : (w : List ℕ) → IsFullFor line None w → takes_alone full.all.items w ≡ true
  full_taken w is = subst (λ set. takes_alone set w ≡ true) (sym are_full.has_all)
      (takes_each (full_alternatives line (alternatives_of line) None) 0 w
      (λ i p at. subst (λ n. Contains (full_alternatives line (alternatives_of line) None) (alternative_at n p)) (omega arith) (is.each i p at)))

  pub looked_at_full : (w : List ℕ) → IsPossible line w → takes_alone full.all.items w ≡ true → IsFullSomehow line full w
  looked_at_full w possible takes = record {
    is_variant = possible.is_variant;
    possible = possible.possible;
    is_full = taken_one (full_sets line full) full.all.items w (inl refl) takes;
  }

  -- ---- of a need

  set_at : (report : ℕ → NeedPlan → List Alternative) (place d : ℕ) (needs : List NeedPlan) (need : NeedPlan) → slice_get needs d ≡ Some need
      → slice_get (lines_of_each (λ k n. report k n ∷ []) place needs) d ≡ Some (report (place + d) need)
  unfolding lines_of_each
  set_at report place d [] need at = absurd (cc at)
  set_at report place zero (n ∷ needs) need at =
      ap (λ (k : ℕ). Some (report k n)) (omega arith) ∙ ap (λ (o : Option NeedPlan). option_map (λ m. report (place + 0) m) o) at
  set_at report place (suc d) (n ∷ needs) need at = set_at report (place + 1) d needs need at ∙ ap (λ (k : ℕ). Some (report k need)) (omega arith)

  set_of_need : (d : ℕ) (need : NeedPlan) → slice_get line.plan.needs.items d ≡ Some need → is_some need.within ≡ true
      → option_map (λ l. l.items) (slice_get full.of_needs.items d) ≡ Some (full_alternatives line (alternatives_of line) (Some d))
  set_of_need d need at asks =
      let own : full_of_need line (alternatives_of line) d need ≡ full_alternatives line (alternatives_of line) (Some d) = rw asks refl in
      sym (slice_get-map (λ l. l.items) full.of_needs.items d)
      ∙ ap (λ (sets : List (List Alternative)). slice_get sets d) are_full.has_needs
      ∙ set_at (full_of_need line (alternatives_of line)) 0 d line.plan.needs.items need at
      ∙ ap (λ (k : ℕ). Some (full_of_need line (alternatives_of line) k need)) (omega arith) ∙ ap Some own

  takes_by : (set : List Alternative) (w : List ℕ) (o : Option (Vec Alternative Global)) → option_map (λ l. l.items) o ≡ Some set
      → is_some line.plan.timing ≡ true → takes_alone set w ≡ true → option_map_or (λ s. is_some line.plan.timing && takes_alone s.items w) o false ≡ true
  takes_by set w None is timed takes = absurd (cc is)
  takes_by set w (Some s) is timed takes = let one : s.items ≡ set = same_Some s.items set is in rw (timed, one) takes

  pub need_taken : (d : ℕ) → AsksForAge line d → is_some line.plan.timing ≡ true → (w : List ℕ) → IsFullFor line (Some d) w
      → takes_full_of_need line full w d ≡ true
  need_taken d (need, at, asks) timed w is =
      let set : List Alternative = full_alternatives line (alternatives_of line) (Some d) in
      takes_by set w (slice_get full.of_needs.items d) (set_of_need d need at asks) timed
      (takes_each set 0 w (λ i p at_i. subst (λ n. Contains set (alternative_at n p)) (omega arith) (is.each i p at_i)))

  among_at : (sets : List (List Alternative)) (d : ℕ) (set : List Alternative) → slice_get sets d ≡ Some set → IsSetAmong sets set
  among_at [] d set at = absurd (cc at)
  among_at (s ∷ sets) zero set at = inl (same_Some s set at)
  among_at (s ∷ sets) (suc d) set at = inr (among_at sets d set at)

  taken_by : (w : List ℕ) (d : ℕ) (o : Option (Vec Alternative Global)) → slice_get full.of_needs.items d ≡ o
      → option_map_or (λ s. is_some line.plan.timing && takes_alone s.items w) o false ≡ true
      → (set : List Alternative) × IsSetAmong (need_sets line full) set × (takes_alone set w ≡ true)
  taken_by w d None at is = absurd (false≢true is)
  taken_by w d (Some s) at is =
      let parts = and_parts (is_some line.plan.timing) (takes_alone s.items w) is in
      let among : IsSetAmong (map (λ l. l.items) full.of_needs.items) s.items =
      among_at (map (λ l. l.items) full.of_needs.items) d s.items
      (slice_get-map (λ l. l.items) full.of_needs.items d ∙ ap (option_map (λ l. l.items)) at) in
      (s.items, rw parts.0 among, parts.1)

  pub looked_at_need : (w : List ℕ) → IsPossible line w → (d : ℕ) → takes_full_of_need line full w d ≡ true → IsFullSomehow line full w
  looked_at_need w possible d is =
      let set = taken_by w d (slice_get full.of_needs.items d) refl is in record {
        is_variant = possible.is_variant;
        possible = possible.possible;
        is_full = taken_one (full_sets line full) set.0 w (inr set.1) set.2;
      }
