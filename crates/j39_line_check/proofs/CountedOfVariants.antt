-- What is reported of full variants is exactly what is looked for in them.
use Rattle.std.proofs.Common.{◌≡◌, ℕ, zero, suc, ◌+◌, ◌<◌, ◌≤◌, ◌⊎◌, List, [], ◌∷◌, ◌++◌, true, false, filter, get_or, inl, inr, length, map, nat_lt, refl, sym}
use Rattle.std.proofs.Common.{ap, subst, take, ◌∙◌, arith, append_assoc, Some}
use Rattle.std.specs.List.{AllZip, slice_get}
use Rattle.std.proofs.lemmas.Bool.{cases_Bool, cases_lt, cases_order, eq-eqb, false≢true, le-ltb, lt-ltb, true≢false}
use Rattle.std.proofs.lemmas.List.{append-nil, length-map, length-take-le, map-append, take_more}
use Rattle.std.proofs.lemmas.Option.{none-some, same_Some}
use Rattle.j39_variants.specs.Variants.{IsEarlier}
use Rattle.j39_variants.specs.declared.line.ProductLine.{ProductLine}
use Rattle.j39_line_findings.specs.AllVariants.{IsOneOf}
use Rattle.j39_line_findings.specs.Best.{AreBest, IsWitnessAmong, amount_in, is_better}
use Rattle.j39_line_findings.specs.LineFound.{AreVariantFindings, IsFound}
use Rattle.j39_line_findings.specs.declared.full.FullAlternatives.{FullAlternatives}
use Rattle.j39_line_findings.specs.declared.line_finding.LineFinding.{LineFinding}
use Rattle.j39_line_findings.specs.declared.witnessed.Witnessed.{Witnessed}
use Rattle.j39_line_findings.proofs.OneOf.{one_cases, one_left, one_right}
use Rattle.j39_line_check.specs.CountedFindings.{AreCountedFindings, AreCountedIn, all_counted, counted_at, counted_of, is_looked_for}
use Rattle.j39_line_check.specs.SetVariants.{AreEarliestFirst}
use Rattle.j39_line_check.proofs.Filters.{last_kept, last_left, one_more}

-- ---- order

never_both : (v w : List ℕ) → IsEarlier v w → IsEarlier w v → ⊥
never_both [] w one other = one
never_both (p ∷ v) [] one other = one
never_both (p ∷ v) (q ∷ w) (inl less) (inl more) = absurd (omega (arith, less, more))
never_both (p ∷ v) (q ∷ w) (inl less) (inr (same, more)) = absurd (omega (arith, less, same))
never_both (p ∷ v) (q ∷ w) (inr (same, less)) (inl more) = absurd (omega (arith, same, more))
never_both (p ∷ v) (q ∷ w) (inr (same, less)) (inr (also, more)) = never_both v w less more

one_at : (vs : List (List ℕ)) (i : ℕ) (v : List ℕ) → slice_get vs i ≡ Some v → IsOneOf vs v
one_at [] i v is = absurd (none-some v is)
one_at (x ∷ vs) zero v is = inl (same_Some x v is)
one_at (x ∷ vs) (suc i) v is = inr (one_at vs i v is)

place_of : (vs : List (List ℕ)) (v : List ℕ) → IsOneOf vs v → (i : ℕ) × (slice_get vs i ≡ Some v)
place_of [] v at = absurd at
place_of (x ∷ vs) v (inl same) = (zero, ap Some same)
place_of (x ∷ vs) v (inr more) = let rest = place_of vs v more in (suc rest.0, rest.1)

-- none is earlier than one at a place no further behind
none_earlier : (vs : List (List ℕ)) (i j : ℕ) (v u : List ℕ) → AreEarliestFirst vs → slice_get vs i ≡ Some v → slice_get vs j ≡ Some u → j ≤ i
    → IsEarlier v u → ⊥
none_earlier [] i j v u order one other most = absurd (none-some v one)
none_earlier (x ∷ vs) zero zero v u order one other most =
    let same : v ≡ u = sym (same_Some x v one) ∙ same_Some x u other in
    λ is. never_both v u is (subst (λ w. IsEarlier w v) same (subst (IsEarlier v) (sym same) is))
none_earlier (x ∷ vs) zero (suc j) v u order one other most = absurd (omega (arith, most))
none_earlier (x ∷ vs) (suc i) zero v u order one other most =
    let first : x ≡ u = same_Some x u other in
    λ is. never_both v u is (subst (λ w. IsEarlier w v) first (order.0 v (one_at vs i v one)))
none_earlier (x ∷ vs) (suc i) (suc j) v u order one other most = none_earlier vs i j v u order.1 one other (omega (arith, most))

-- ---- what is counted

-- the variant at a place, with what is looked for there
record Listed (line : ProductLine) (full : FullAlternatives) (k : ℕ) (vs : List (List ℕ)) (w : Witnessed) : Type 0 where
  i : ℕ
  v : List ℕ
  fs : List LineFinding
  place : w.variant ≡ k + i
  at : slice_get vs i ≡ Some v
  are : AreVariantFindings line v fs
  one : IsFound fs w.finding
  looked : is_looked_for line full v w.finding ≡ true
  so : w.counted ≡ true

-- that of one variant
record Mapped (line : ProductLine) (full : FullAlternatives) (k : ℕ) (v : List ℕ) (fs : List LineFinding) (w : Witnessed) : Type 0 where
  one : IsFound fs w.finding
  place : w.variant ≡ k
  looked : is_looked_for line full v w.finding ≡ true
  so : w.counted ≡ true

module _ (line : ProductLine) (full : FullAlternatives) where
  mapped : (k : ℕ) (v : List ℕ) (fs : List LineFinding) (w : Witnessed) → IsWitnessAmong (counted_of line full k v fs) w → Mapped line full k v fs w
  mapped k v [] w at = absurd at
  mapped k v (f ∷ fs) w at = elim (cases_Bool (is_looked_for line full v f)) [
    | inl here ↦ elim (let is : IsWitnessAmong (counted_at k f ∷ counted_of line full k v fs) w = rw here at at in is) [
      | inl same ↦ record {
        one = inl (ap (λ (x : Witnessed). x.finding) same);
        place = sym (ap (λ (x : Witnessed). x.variant) same);
        looked = subst (λ (x : Witnessed). is_looked_for line full v x.finding ≡ true) same here;
        so = sym (ap (λ (x : Witnessed). x.counted) same);
      }
      | inr more ↦ let r = mapped k v fs w more in record { one = inr r.one; place = r.place; looked = r.looked; so = r.so }
    ]
    | inr none ↦ let r = mapped k v fs w (rw none at at) in record { one = inr r.one; place = r.place; looked = r.looked; so = r.so }
  ]

  maps : (k : ℕ) (v : List ℕ) (fs : List LineFinding) (f : LineFinding) → IsFound fs f → is_looked_for line full v f ≡ true
      → IsWitnessAmong (counted_of line full k v fs) (counted_at k f)
  maps k v [] f at is = absurd at
  maps k v (g ∷ fs) f at is = elim (cases_Bool (is_looked_for line full v g)) [
    | inl here ↦ rw here (elim at [
      | inl same ↦ inl (ap (counted_at k) same)
      | inr more ↦ inr (maps k v fs f more is)
    ])
    | inr none ↦ rw none (elim at [
      | inl same ↦ absurd (false≢true (sym none ∙ ap (is_looked_for line full v) same ∙ is))
      | inr more ↦ maps k v fs f more is
    ])
  ]

  came_from : (k : ℕ) (vs : List (List ℕ)) (each : List (List LineFinding)) → AllZip (AreVariantFindings line) vs each → (w : Witnessed)
      → IsWitnessAmong (all_counted line full k vs each) w → Listed line full k vs w
  came_from k [] [] zip w at = absurd at
  came_from k [] (fs ∷ each) zip w at = absurd zip
  came_from k (v ∷ vs) [] zip w at = absurd zip
  came_from k (v ∷ vs) (fs ∷ each) zip w at =
      elim (one_cases (counted_of line full k v fs) (all_counted line full (k + 1) vs each) w at) [
        | inl here ↦
            let m = mapped k v fs w here in
            let same = m.place in
            record { i = 0; v = v; fs = fs; place = omega (arith, same); at = refl; are = zip.0; one = m.one; looked = m.looked; so = m.so }
        | inr more ↦
            let r = came_from (k + 1) vs each zip.1 w more in
            let same = r.place in
            record { i = suc r.i; v = r.v; fs = r.fs; place = omega (arith, same); at = r.at; are = r.are; one = r.one; looked = r.looked; so = r.so }
      ]

  goes_to : (k n : ℕ) (vs : List (List ℕ)) (each : List (List LineFinding)) → AllZip (AreVariantFindings line) vs each → (i : ℕ) (v : List ℕ)
      → slice_get vs i ≡ Some v → n ≡ k + i → (fs : List LineFinding) × AreVariantFindings line v fs
      × ((f : LineFinding) → IsFound fs f → is_looked_for line full v f ≡ true → IsWitnessAmong (all_counted line full k vs each) (counted_at n f))
  goes_to k n [] each zip i v at is = absurd (none-some v at)
  goes_to k n (x ∷ vs) [] zip i v at is = absurd zip
  goes_to k n (x ∷ vs) (fs ∷ each) zip zero v at is =
      let same : x ≡ v = same_Some x v at in
      let here : k ≡ n = omega (arith, is) in (
        fs,
        subst (λ y. AreVariantFindings line y fs) same zip.0,
        λ f one looked.
            one_left (counted_of line full k x fs) (all_counted line full (k + 1) vs each) (counted_at n f)
            (subst (λ m. IsWitnessAmong (counted_of line full k x fs) (counted_at m f)) here
            (maps k x fs f one (subst (λ y. is_looked_for line full y f ≡ true) (sym same) looked))),
      )
  goes_to k n (x ∷ vs) (fs ∷ each) zip (suc i) v at is =
      let r = goes_to (k + 1) n vs each zip.1 i v at (omega (arith, is)) in (
        r.0,
        r.1,
        λ f one looked.
            one_right (counted_of line full k x fs) (all_counted line full (k + 1) vs each) (counted_at n f) (r.2 f one looked),
      )

-- none is better: it has no greater number, and of one number it stands no further ahead
not_before : (w x : Witnessed) → x.counted ≡ true → w.counted ≡ true → is_better x w ≡ false
    → (amount_in x < amount_in w) ⊎ ((amount_in x ≡ amount_in w) × (w.variant ≤ x.variant))
not_before w x one other is = elim (cases_order (amount_in x) (amount_in w)) [
  | inr (inl less) ↦ inl less
  | inl same ↦
      let none : nat_lt (amount_in w) (amount_in x) ≡ false = le-ltb (amount_in w) (amount_in x) (omega (arith, same)) in
      let late : nat_lt x.variant w.variant ≡ false = rw (none, eq-eqb (amount_in x) (amount_in w) same, one, other) at is in
      inr (
        same,
        elim (cases_lt x.variant w.variant) [
          | inl less ↦ absurd (true≢false (sym (lt-ltb x.variant w.variant less) ∙ late))
          | inr most ↦ most
        ],
      )
  | inr (inr more) ↦ absurd (true≢false (rw (lt-ltb (amount_in w) (amount_in x) more) at is))
]

pub in_plain_words : (line : ProductLine) (full : FullAlternatives) (vs : List (List ℕ)) (reported : List Witnessed) → AreEarliestFirst vs
    → AreCountedIn line full vs reported → AreCountedFindings line full vs reported
in_plain_words line full vs reported order is = record {
  sound = λ w at.
      let r = came_from line full 0 vs is.each is.are_each w (is.best.sound w at) in
      let here : r.i ≡ w.variant = let same = r.place in omega (arith, same) in
      record {
        variant = r.v;
        at = subst (λ k. slice_get vs k ≡ Some r.v) here r.at;
        findings = r.fs;
        are_findings = r.are;
        one = r.one;
        looked_for = r.looked;
      };
  complete = λ v at.
      let p = place_of vs v at in
      let r = goes_to line full 0 p.0 vs is.each is.are_each p.0 v p.1 (omega arith) in (
        r.0,
        r.1,
        λ f one looked.
            let x = counted_at p.0 f in
            let known = r.2 f one looked in
            let found = is.best.complete x known in
            let w = found.0 in
            let l = came_from line full 0 vs is.each is.are_each w (is.best.sound w found.1) in
            let here : l.i ≡ w.variant = let same = l.place in omega (arith, same) in
            record {
              witness = w;
              is_reported = found.1;
              has_rank = found.2;
              variant = l.v;
              at = subst (λ k. slice_get vs k ≡ Some l.v) here l.at;
              as_good = elim (not_before w x refl l.so (is.best.best w x found.1 known (sym found.2))) [
                | inl less ↦ inl less
                | inr (same, most) ↦ inr (same, none_earlier vs p.0 l.i v l.v order p.1 l.at (subst (λ k. k ≤ p.0) (sym here) most))
              ];
            },
      );
  in_order = is.best.in_order;
}

-- ---- in turn

zipped : {X Y : Type 0} (P : X → Y → Type 0) (xs : List X) (ys : List Y) (x : X) (y : Y) → AllZip P xs ys → P x y → AllZip P (xs ++ x ∷ []) (ys ++ y ∷ [])
zipped P [] [] x y all one = (one, tt)
zipped P [] (b ∷ ys) x y all one = absurd all
zipped P (a ∷ xs) [] x y all one = absurd all
zipped P (a ∷ xs) (b ∷ ys) x y all one = (all.0, zipped P xs ys x y all.1 one)

module _ (line : ProductLine) (full : FullAlternatives) where
  listed : (k m : ℕ) (vs : List (List ℕ)) (each : List (List LineFinding)) (v : List ℕ) (fs : List LineFinding) → AllZip (AreVariantFindings line) vs each
      → m ≡ k + length vs
      → all_counted line full k (vs ++ v ∷ []) (each ++ fs ∷ []) ≡ all_counted line full k vs each ++ counted_of line full m v fs
  listed k m [] [] v fs all at =
      let here : m ≡ k = omega (arith, at) in
      append-nil (counted_of line full k v fs) ∙ ap (λ n. counted_of line full n v fs) (sym here)
  listed k m [] (b ∷ each) v fs all at = absurd all
  listed k m (a ∷ vs) [] v fs all at = absurd all
  listed k m (a ∷ vs) (b ∷ each) v fs all at =
      ap (λ (ws : List Witnessed). counted_of line full k a b ++ ws) (listed (k + 1) m vs each v fs all.1 (omega (arith, at)))
      ∙ sym (append_assoc (counted_of line full k a b) (all_counted line full (k + 1) vs each) (counted_of line full m v fs))

  abbrev Adds : ℕ → List ℕ → List Witnessed → List Witnessed → Type 0
  Adds k v old new = (all : List Witnessed) → AreBest all old
      → (fs : List LineFinding) × AreVariantFindings line v fs × AreBest (all ++ counted_of line full k v fs) new

  one_more_counted : (vs : List (List ℕ)) (v : List ℕ) (k : ℕ) (old new : List Witnessed) → k ≡ length vs → AreCountedIn line full vs old
      → Adds k v old new → AreCountedIn line full (vs ++ v ∷ []) new
  one_more_counted vs v k old new at so_far add =
      let more = add (all_counted line full 0 vs so_far.each) so_far.best in record {
        each = so_far.each ++ more.0 ∷ [];
        are_each = zipped (AreVariantFindings line) vs so_far.each v more.0 so_far.are_each more.1;
        best =
            subst (λ ws. AreBest ws new) (sym (listed 0 k vs so_far.each v more.0 so_far.are_each (omega (arith, at)))) more.2;
      }

  pub next_counted : {V : Type 0} (f : V → List ℕ) (vs : List V) (k : ℕ) (d : V) (v : List ℕ) (old new : List Witnessed) → k < length vs
      → d ≡ get_or vs k d → v ≡ f d → AreCountedIn line full (map f (take k vs)) old → Adds k v old new → AreCountedIn line full (map f (take (k + 1) vs)) new
  next_counted f vs k d v old new below is same so_far add =
      let taken : length (take k vs) ≡ k = length-take-le k vs (omega (arith, below)) in
      let count : k ≡ length (map f (take k vs)) = rw length-map (sym taken) in
      subst (λ ws. AreCountedIn line full ws new) (sym (one_more f vs k d v below is same))
      (one_more_counted (map f (take k vs)) v k old new count so_far add)

  pub none_counted : AreCountedIn line full [] []
  none_counted = record {
    each = [];
    are_each = tt;
    best = record {
      sound = λ w at. at;
      best = λ w x at. absurd at;
      complete = λ x at. absurd at;
      in_order = tt;
    };
  }

  -- one more finding, which is looked for or isn't
  pub counted_next : (all : List Witnessed) (k : ℕ) (v : List ℕ) (fs : List LineFinding) (i : ℕ) (d : LineFinding) → i < length fs
      → is_looked_for line full v (get_or fs i d) ≡ true
      → (all ++ counted_of line full k v (take i fs)) ++ counted_at k (get_or fs i d) ∷ [] ≡ all ++ counted_of line full k v (take (i + 1) fs)
  counted_next all k v fs i d below is =
      let test = is_looked_for line full v in
      let f = get_or fs i d in
      let more : counted_of line full k v (take (i + 1) fs) ≡ counted_of line full k v (take i fs) ++ counted_at k f ∷ [] =
      ap (counted_of line full k v) (take_more fs i d below)
      ∙ ap (map (counted_at k)) (last_kept test (take i fs) f is)
      ∙ map-append (counted_at k) (filter test (take i fs)) (f ∷ []) in
      append_assoc all (counted_of line full k v (take i fs)) (counted_at k f ∷ []) ∙ ap (λ (ws : List Witnessed). all ++ ws) (sym more)

  pub counted_past : (all : List Witnessed) (k : ℕ) (v : List ℕ) (fs : List LineFinding) (i : ℕ) (d : LineFinding) → i < length fs
      → is_looked_for line full v (get_or fs i d) ≡ false
      → all ++ counted_of line full k v (take i fs) ≡ all ++ counted_of line full k v (take (i + 1) fs)
  counted_past all k v fs i d below is =
      let test = is_looked_for line full v in
      ap (λ gs. all ++ map (counted_at k) gs) (sym (ap (filter test) (take_more fs i d below) ∙ last_left test (take i fs) (get_or fs i d) is))
