-- Of each choice a full alternative that covers the one taken makes a full variant.
use Rattle.std.proofs.Common.{◌≡◌, ◌⊎◌, ℕ, zero, suc, ◌+◌, ◌<◌, ◌≤◌, Bool, true, false, not, ◌&&◌, ◌==◌, cond, List, [], ◌∷◌, length, map, filter, slice_index}
use Rattle.std.proofs.Common.{Contains, Option, Some, None, refl, sym, ◌∙◌, ap, subst, inl, inr, arith}
use Rattle.std.specs.List.{list_any, range_with_len, slice_get}
use Rattle.std.specs.Option.{option_map_or}
use Rattle.std.proofs.lemmas.Bool.{and_from, cases_Bool, cases_eq, cases_lt, eq-eqb, false≢true, ne_eqb, or_left}
use Rattle.std.proofs.lemmas.Option.{get_or_from_slice_get, same_Some, slice_get-get_or, slice_get_within}
use Rattle.j39_variants.specs.declared.line.Alternative.{Alternative}
use Rattle.j39_variants.specs.declared.line.Choice.{Choice}
use Rattle.j39_variants.specs.declared.line.ProductLine.{ProductLine}
use Rattle.j39_variants.specs.Variants.{is_in, IsVariant, size_at, takes_alternative}
use Rattle.j39_line_findings.specs.FullVariants.{alternative_at, alternatives_of, alternatives_of_choice, compared, does_leave, does_need_admit}
use Rattle.j39_line_findings.specs.FullVariants.{full_alternatives, is_full_among}
use Rattle.j39_part_laws.proofs.LoadFindings.{line_reported, reported_at}
use Rattle.j39_part_laws.proofs.Places.{no_value, value_at}
use Rattle.j39_line_laws.specs.Covering.{HasFullCover, HasFullCoverFor, IsCoveredFor, IsInBoxOf, TakesFullAlone}
use Rattle.j39_line_findings.proofs.Tests.{at_all, at_any}
use Rattle.j39_line_laws.proofs.Full.{best_of, IsBest, none_better}

-- ---- lists

pub contains_at : {X : Type 0} (xs : List X) (i : ℕ) (x : X) → slice_get xs i ≡ Some x → Contains xs x
contains_at xs i x at = (i, slice_get_within xs i x at, get_or_from_slice_get xs i x x at)

at_contained : {X : Type 0} (xs : List X) (x : X) → Contains xs x → (i : ℕ) × (slice_get xs i ≡ Some x)
at_contained xs x (i, below, is) = (i, slice_get-get_or xs i x below ∙ ap Some is)

of_range : (f : ℕ → Alternative) (a n : ℕ) (x : Alternative) → Contains (map f (range_with_len a n)) x → (k : ℕ) × (k < n) × (f (a + k) ≡ x)
of_range f a zero x (k, below, is) = absurd (omega (arith, below))
of_range f a (suc n) x (zero, below, is) = (0, omega arith, ap f (let e : a + 0 ≡ a = omega arith in e) ∙ is)
of_range f a (suc n) x (suc k, below, is) =
    let (j, less, made) = of_range f (a + 1) n x (k, omega (arith, below), is) in
    (suc j, omega (arith, less), ap f (let e : a + suc j ≡ a + 1 + j = omega arith in e) ∙ made)

in_range : (f : ℕ → Alternative) (a n k : ℕ) → k < n → Contains (map f (range_with_len a n)) (f (a + k))
in_range f a zero k below = absurd (omega (arith, below))
in_range f a (suc n) zero below = (0, omega arith, ap f (let e : a ≡ a + 0 = omega arith in e))
in_range f a (suc n) (suc k) below =
    let (j, less, is) = in_range f (a + 1) n k (omega (arith, below)) in
    let same : a + 1 + k ≡ a + suc k = omega arith in
    subst (λ m. Contains (map f (range_with_len a (suc n))) (f m)) same (suc j, omega (arith, less), is)

-- what stands among those that pass a test
of_filter : {X : Type 0} (f : X → Bool) (xs : List X) (i : ℕ) (x : X) → slice_get (filter f xs) i ≡ Some x → (j : ℕ) × (slice_get xs j ≡ Some x) × (f x ≡ true)
of_filter f [] i x at = absurd (no_value i x at)
of_filter {X = X} f (y ∷ ys) i x at = by (f y) refl i at (λ k found. of_filter f ys k x found)
  where
    by : (b : Bool) → f y ≡ b → (k : ℕ) → slice_get (cond b (y ∷ filter f ys) (filter f ys)) k ≡ Some x
        → ((n : ℕ) → slice_get (filter f ys) n ≡ Some x → (j : ℕ) × (slice_get ys j ≡ Some x) × (f x ≡ true)) → (j : ℕ) × (slice_get (y ∷ ys) j ≡ Some x)
        × (f x ≡ true)
    by true is_b zero found rest = (0, found, ap f (sym (same_Some y x found)) ∙ is_b)
    by true is_b (suc k) found rest = let (j, is, passes) = rest k found in (suc j, is, passes)
    by false is_b k found rest = let (j, is, passes) = rest k found in (suc j, is, passes)

-- what passes a test stands among those that do
in_filter : {X : Type 0} (f : X → Bool) (xs : List X) (i : ℕ) (x : X) → slice_get xs i ≡ Some x → f x ≡ true → (j : ℕ) × (slice_get (filter f xs) j ≡ Some x)
in_filter f [] i x at passes = absurd (no_value i x at)
in_filter {X = X} f (y ∷ ys) zero x at passes =
    (0, ap (λ b. slice_get (cond b (y ∷ filter f ys) (filter f ys)) 0) (ap f (same_Some y x at) ∙ passes) ∙ at)
in_filter {X = X} f (y ∷ ys) (suc i) x at passes = by (f y) (in_filter f ys i x at passes)
  where
    by : (b : Bool) → (j : ℕ) × (slice_get (filter f ys) j ≡ Some x) → (j : ℕ) × (slice_get (cond b (y ∷ filter f ys) (filter f ys)) j ≡ Some x)
    by true (j, is) = (suc j, is)
    by false (j, is) = (j, is)

module _ (line : ProductLine) where
  abbrev pub choices : List Choice
  choices = line.choices.items

  abbrev pub alternatives : List Alternative
  alternatives = alternatives_of line

  abbrev pub size : ℕ → ℕ
  size c = size_at choices c

  -- ---- the alternatives of a line

  size_is : (c : ℕ) (choice : Choice) → slice_get choices c ≡ Some choice → size c ≡ length choice.alternatives.items
  size_is c choice at = ap (λ o. option_map_or (λ (x : Choice). length x.alternatives.items) o 0) at

  pub is_of_choice : (i : ℕ) (a : Alternative) → slice_get alternatives i ≡ Some a → (a.choice < length choices) × (a.place < size a.choice)
  is_of_choice i a at =
      let its = reported_at alternatives_of_choice 0 choices a (contains_at alternatives i a at) in
      let (q, below, made) = of_range (alternative_at (0 + its.k)) 0 (length its.value.alternatives.items) a its.reported in
      let choice : a.choice ≡ its.k = sym (ap (λ (x : Alternative). x.choice) made) ∙ (let e : 0 + its.k ≡ its.k = omega arith in e) in
      let place : a.place ≡ q = sym (ap (λ (x : Alternative). x.place) made) ∙ (let e : 0 + q ≡ q = omega arith in e) in
      let inside = slice_get_within choices its.k its.value its.value_is in
      let many = size_is its.k its.value its.value_is in
      let size_same : size a.choice ≡ size its.k = ap size choice in
      (omega (arith, choice, inside), omega (arith, place, below, many, size_same))

  pub among : (c m : ℕ) → c < length choices → m < size c → (i : ℕ) × (slice_get alternatives i ≡ Some (alternative_at c m))
  among c m below inside = go (value_at choices c below)
    where
      go : (choice : Choice) × (slice_get choices c ≡ Some choice) → (i : ℕ) × (slice_get alternatives i ≡ Some (alternative_at c m))
      go (choice, at) =
          let many = size_is c choice at in
          let reported = in_range (alternative_at (0 + c)) 0 (length choice.alternatives.items) m (omega (arith, inside, many)) in
          let same : alternative_at (0 + c) (0 + m) ≡ alternative_at c m =
          ap (λ k. alternative_at k (0 + m)) (let e : 0 + c ≡ c = omega arith in e) ∙ ap (alternative_at c) (let e : 0 + m ≡ m = omega arith in e) in
          at_contained alternatives (alternative_at c m)
          (line_reported alternatives_of_choice 0 choices c choice (alternative_at c m) at
          (subst (Contains (alternatives_of_choice (0 + c) choice)) same reported))

  -- ---- of each alternative of the box of the need a full one

  module _ (need : Option ℕ) where
    abbrev lets : ℕ → ℕ → Bool
    lets c p = does_need_admit line need (alternative_at c p)

    abbrev IsBestOf : ℕ → ℕ → ℕ → Type 0
    IsBestOf c p m = IsBest line alternatives need c (size c) (size c) p m

    abbrev chosen : (c p : ℕ) → (p < size c) ⊎ (size c ≤ p) → (lets c p ≡ true) ⊎ (lets c p ≡ false) → ℕ
    chosen c p (inl within) (inl admitted) = (best_of line alternatives need c (size c) p within admitted (size c) (omega arith)).0
    chosen c p (inl within) (inr out) = p
    chosen c p (inr from) o = p

    abbrev full_place : ℕ → ℕ → ℕ
    full_place c p = chosen c p (cases_lt p (size c)) (cases_Bool (lets c p))

    full_best : (c p : ℕ) → p < size c → lets c p ≡ true → IsBestOf c p (full_place c p)
    full_best c p within let_p = go (cases_lt p (size c)) (cases_Bool (lets c p))
      where
        go : (o : (p < size c) ⊎ (size c ≤ p)) (e : (lets c p ≡ true) ⊎ (lets c p ≡ false)) → IsBestOf c p (chosen c p o e)
        go (inl inside) (inl admitted) = (best_of line alternatives need c (size c) p inside admitted (size c) (omega arith)).1
        go (inl inside) (inr out) = absurd (false≢true (sym out ∙ let_p))
        go (inr from) e = absurd (omega (arith, within, from))

    abbrev build : ℕ → List ℕ → List ℕ
    build c [] = []
    build c (p ∷ v) = full_place c p ∷ build (c + 1) v

    length-build : (c : ℕ) (v : List ℕ) → length (build c v) ≡ length v
    length-build c [] = refl
    length-build c (p ∷ v) = ap suc (length-build (c + 1) v)

    build_at : (c : ℕ) (v : List ℕ) (k p : ℕ) → slice_get v k ≡ Some p → slice_get (build c v) k ≡ Some (full_place (c + k) p)
    build_at c [] k p at = absurd (no_value k p at)
    build_at c (x ∷ v) zero p at = ap (λ n. Some (full_place c n)) (same_Some x p at) ∙ ap (λ n. Some (full_place n p)) (let e : c ≡ c + 0 = omega arith in e)
    build_at c (x ∷ v) (suc k) p at = build_at (c + 1) v k p at ∙ ap (λ n. Some (full_place n p)) (let e : c + 1 + k ≡ c + suc k = omega arith in e)

    -- ---- the variant that takes these

    module _ (v : List ℕ) (is : IsVariant choices v) (in_need : IsInBoxOf line need v) where
      abbrev w : List ℕ
      w = build 0 v

      taken : (c p : ℕ) → slice_get v c ≡ Some p → slice_get w c ≡ Some (full_place c p)
      taken c p at = build_at 0 v c p at ∙ ap (λ n. Some (full_place n p)) (let e : 0 + c ≡ c = omega arith in e)

      within : (c p : ℕ) → slice_get v c ≡ Some p → p < size c
      within c p at =
          let below = is.fits c (slice_get_within v c p at) in
          let same = get_or_from_slice_get v c p 0 at in
          omega (arith, below, same)

      best_taken : (c p : ℕ) → slice_get v c ≡ Some p → IsBestOf c p (full_place c p)
      best_taken c p at = full_best c p (within c p at) (in_need c p at)

      -- of each place that is taken, the one that covers it
      taken_of : (c q : ℕ) → slice_get w c ≡ Some q → (p : ℕ) × (slice_get v c ≡ Some p) × (q ≡ full_place c p)
      taken_of c q at =
          let below = slice_get_within w c q at in
          let long = length-build 0 v in
          let (p, at_p) = value_at v c (omega (arith, below, long)) in
          (p, at_p, same_Some q (full_place c p) (sym at ∙ taken c p at_p))

      is_variant : IsVariant choices w
      is_variant = record { fits = fits; of_each = length-build 0 v ∙ is.of_each }
        where
          fits : (c : ℕ) → c < length w → slice_index w c < size c
          fits c below =
              let long = length-build 0 v in
              let (p, at) = value_at v c (omega (arith, below, long)) in
              let inside = (best_taken c p at).inside in
              let same = get_or_from_slice_get w c (full_place c p) 0 (taken c p at) in
              omega (arith, inside, same)

      covered : IsCoveredFor line need v w
      covered c p at = (full_place c p, taken c p at, (best_taken c p at).covering)

      in_box_too : IsInBoxOf line need w
      in_box_too c q at =
          let (p, at_p, same) = taken_of c q at in
          subst (λ k. lets c k ≡ true) (sym same) (best_taken c p at_p).admitted

      abbrev these : List Alternative
      these = compared line alternatives need

      -- each other alternative leaves the one that is taken
      left_by : (c p : ℕ) → slice_get v c ≡ Some p → (d : Alternative) → d.place < size d.choice → does_need_admit line need d ≡ true
          → does_leave line alternatives need (alternative_at c (full_place c p)) d ≡ true
      left_by c p at d inside let_d = elim (cases_eq d.choice c) [
        | inr other ↦ or_left (not (d.choice == c)) _ (ap not (ne_eqb d.choice c other))
        | inl same ↦
            let best = best_taken c p at in
            let sizes = ap size same in
            subst (λ k. does_leave line alternatives need (alternative_at c (full_place c p)) (alternative_at k d.place) ≡ true) (sym same)
            (none_better line alternatives need c (full_place c p) d.place
            (best.best d.place (omega (arith, inside, sizes)) (subst (λ k. lets k d.place ≡ true) same let_d)))
      ]

      full_at : (c p : ℕ) → slice_get v c ≡ Some p → (j : ℕ) × (slice_get (full_alternatives line alternatives need) j ≡ Some
          (alternative_at c (full_place c p)))
      full_at c p at =
          let m = full_place c p in
          let b = alternative_at c m in
          let best = best_taken c p at in
          let below = slice_get_within v c p at in
          let long = is.of_each in
          let (i, at_i) = among c m (omega (arith, below, long)) best.inside in
          let (j, at_j) = in_filter (does_need_admit line need) alternatives i b at_i best.admitted in
          let full : is_full_among line alternatives need these b ≡ true =
          at_all (does_leave line alternatives need b) these (λ n d at_d.
          let (l, at_l, let_d) = of_filter (does_need_admit line need) alternatives n d at_d in
          let (in_choices, inside) = is_of_choice l d at_l in
          left_by c p at d inside let_d) in
          in_filter (is_full_among line alternatives need these) these j b at_j full

      is_full : is_in w (full_alternatives line alternatives need) ≡ true
      is_full = at_all (λ a. list_any (λ b. (b.choice == a.choice) && takes_alternative w b) (full_alternatives line alternatives need))
          (full_alternatives line alternatives need)
          (λ i a at_a.
          let (j, at_j, passes) = of_filter (is_full_among line alternatives need these) these i a at_a in
          let (k, at_k, admitted) = of_filter (does_need_admit line need) alternatives j a at_j in
          let (below, inside) = is_of_choice k a at_k in
          let long = is.of_each in
          let (p, at_p) = value_at v a.choice (omega (arith, below, long)) in
          named a p at_p)
        where
          named : (a : Alternative) (p : ℕ) → slice_get v a.choice ≡ Some p
              → list_any (λ b. (b.choice == a.choice) && takes_alternative w b) (full_alternatives line alternatives need) ≡ true
          named a p at_p =
              let m = full_place a.choice p in
              let b = alternative_at a.choice m in
              let (j, at_j) = full_at a.choice p at_p in
              let takes : takes_alternative w b ≡ true =
              ap (λ o. option_map_or (λ place. place == m) o false) (taken a.choice p at_p) ∙ eq-eqb m m refl in
              at_any (λ x. (x.choice == a.choice) && takes_alternative w x) (full_alternatives line alternatives need) j b at_j
              (and_from (a.choice == a.choice) (takes_alternative w b) (eq-eqb a.choice a.choice refl) takes)

      takes_full : TakesFullAlone line need w
      takes_full c q at =
          let (p, at_p, same) = taken_of c q at in
          let (j, at_j) = full_at c p at_p in
          let b = alternative_at c (full_place c p) in
          subst (λ k. Contains (full_alternatives line alternatives need) (alternative_at c k)) (sym same)
          (contains_at (full_alternatives line alternatives need) j b at_j)

      has_full : HasFullCoverFor line need v
      has_full = (w, is_variant, record { in_box = is_full; each = takes_full }, covered, in_box_too)

pub has_full_cover_for : (line : ProductLine) (need : Option ℕ) (v : List ℕ) → IsVariant line.choices.items v → IsInBoxOf line need v
    → HasFullCoverFor line need v
has_full_cover_for line need v is in_need = has_full line need v is in_need

pub has_full_cover : (line : ProductLine) (v : List ℕ) → IsVariant line.choices.items v → HasFullCover line v
has_full_cover line v is =
    let (w, is_variant, full, covered, in_box) = has_full_cover_for line None v is (λ c p at. refl) in
    (w, is_variant, full.in_box, covered)
