-- Notes in rising order of NAME: what a search finds among them, and what an edit at that place makes of the map.
use Rattle.std.proofs.Common.{◌≡◌, ◌≢◌, ℕ, zero, suc, ◌-◌, ◌<◌, ◌≤◌, Bool, true, false, cond, not}
use Rattle.std.proofs.Common.{◌&&◌, ◌||◌, T, eqb, ltb, List, [], ◌∷◌, length, set, Option, Some, None, Result, Ok}
use Rattle.std.proofs.Common.{Err, IfOk, IfErr, is_ok, is_some, refl, sym, ap, ◌∙◌, subst, arith, inl, inr}
use Rattle.std.proofs.Math.ListN.{length-set}
use Rattle.std.specs.List.{insert, remove, refill}
use Rattle.std.specs.List.Sorted.{IsSearchInRange, IsBinarySearchResult, IsNonDecreasingBy}
use Rattle.std.specs.Ordering.{nat_cmp, eq_by_cmp, is_lt, ordering_index}
use Rattle.std.specs.Cmp.{nat_cmp_total, nat_cmp_is, unsigned_tied}
use Rattle.std.specs.declared.cmp.Ordering.{Ordering}
use Rattle.std.specs.declared.cmp.Ordering.TheVariants.{Less, Equal, Greater}
use Rattle.std.specs.FinMap as map
use Rattle.std.specs.FinMap.{FinMap, find, put, is_sorted, nat_cmp-IsAntisymmetric}
use Rattle.std.specs.FinMap.Entries.{by_order, below_all, where_key, is_sorted-put, is_sorted-where_key, find-where_key}
use Rattle.std.proofs.lemmas.Bool.{and_parts, eq-eqb, eqb-true, ne_eqb, cases_eq}
use Rattle.std.proofs.lemmas.Bool.Decides.{nat_tests}
use Rattle.std.proofs.lemmas.Cmp.{ranked}
use Rattle.std.proofs.lemmas.List.Sorted.{IsNonDecreasingBy-from_default}
use Rattle.j39_claim.specs.ClaimerValue.{can_note}
use Rattle.j39_claim.specs.inside.Noting.{Pairs, name_at, IsAt, IsGapFor}

-- tests as facts
pub holds : (b : Bool) → T b → b ≡ true
holds true h = refl
holds false h = absurd h

pub fact : (b : Bool) → b ≡ true → T b
fact b e = subst T (sym e) tt

pub head_part : (x : ℕ) (es rest : Pairs) → T (below_all nat_cmp x es && is_sorted nat_cmp rest) → T (below_all nat_cmp x es)
head_part x es rest h = fact _ (and_parts (below_all nat_cmp x es) (is_sorted nat_cmp rest) (holds _ h)).0

pub tail_part : (x : ℕ) (es rest : Pairs) → T (below_all nat_cmp x es && is_sorted nat_cmp rest) → T (is_sorted nat_cmp rest)
tail_part x es rest h = fact _ (and_parts (below_all nat_cmp x es) (is_sorted nat_cmp rest) (holds _ h)).1

less : (x y : ℕ) → T (is_lt (nat_cmp x y)) → x < y
less x y h = ranked x y Less (is_less (nat_cmp x y) h)
  where
    is_less : (o : Ordering) → T (is_lt o) → Less ≡ o
    is_less Less h = refl
    is_less Equal h = absurd h
    is_less Greater h = absurd h

below_at : (x : ℕ) (es : Pairs) → T (below_all nat_cmp x es) → (j : ℕ) → j < length es → x < name_at es j
below_at x [] h j inside = absurd (omega arith)
below_at x (e ∷ es) h zero inside = less x e.0 (fact _ (and_parts (is_lt (nat_cmp x e.0)) (below_all nat_cmp x es) (holds _ h)).0)
below_at x (e ∷ es) h (suc j) inside = below_at x es (fact _ (and_parts (is_lt (nat_cmp x e.0)) (below_all nat_cmp x es) (holds _ h)).1) j (omega arith)

rises : (es : Pairs) → T (is_sorted nat_cmp es) → (i j : ℕ) → i < j → j < length es → name_at es i < name_at es j
rises [] h i j before inside = absurd (omega arith)
rises (e ∷ es) h zero zero before inside = absurd (omega arith)
rises (e ∷ es) h zero (suc j) before inside = below_at e.0 es (head_part e.0 es es h) j (omega arith)
rises (e ∷ es) h (suc i) zero before inside = absurd (omega arith)
rises (e ∷ es) h (suc i) (suc j) before inside = rises es (tail_part e.0 es es h) i j (omega arith) (omega arith)

-- a binary search by NAME ends at the NAME, or where it belongs
pub record Searched (es : Pairs) (n : ℕ) (r : Result ℕ ℕ) : Type 0 where
  pub found : IfOk r (IsAt es n)
  pub absent : IfErr r (IsGapFor es n)

pub searched : (es : Pairs) (n : ℕ) (r : Result ℕ ℕ) → T (is_sorted nat_cmp es) → IsSearchInRange r (length es)
    → IsBinarySearchResult (λ pair. nat_cmp pair.0 n) es r → Searched es n r
searched es n (Ok i) sorted in_range equal = record { found = record { in_range = in_range; is_name = ranked _ n _ (sym (equal (0, 0))) }; absent = tt }
searched es n (Err i) sorted in_range parted =
    let rise : IsNonDecreasingBy (λ pair. ordering_index (nat_cmp pair.0 n)) es =
    IsNonDecreasingBy-from_default (λ pair. ordering_index (nat_cmp pair.0 n)) es (0, 0) (λ i j le inside.
    let names_rise : name_at es i ≤ name_at es j = grind (arith, rises es sorted i j, λ (same : i ≡ j). ap (name_at es) same) in
    grind (arith, nat_tests)) in
    record {
      found = tt;
      absent = record {
        in_range = in_range;
        smaller_before = λ j lt. ranked _ n _ (sym ((parted rise).0 j (0, 0) (omega arith) lt));
        greater_after = λ j le lt. ranked _ n _ (sym ((parted rise).1 j (0, 0) le lt));
      };
    }

-- a write at the place of a NAME and an insertion where it belongs put it into its place in the order
set_is_put : (es : Pairs) (n a i : ℕ) → T (is_sorted nat_cmp es) → IsAt es n i → set es i (n, a) ≡ put nat_cmp n a es
set_is_put [] n a i sorted at = absurd (omega (arith, at.in_range))
set_is_put (e ∷ es) n a zero sorted at =
    (λ i. (sym at.is_name i, a) ∷ es)
    ∙ ap (λ o. by_order o ((n, a) ∷ e ∷ es) ((e.0, a) ∷ es) (e ∷ put nat_cmp n a es)) (nat_cmp_is n e.0 Equal (sym at.is_name))
set_is_put (e ∷ es) n a (suc i) sorted at =
    let smaller : e.0 < n = omega (arith, rises (e ∷ es) sorted 0 (suc i) (omega arith) at.in_range, at.is_name) in
    ap (λ l. e ∷ l) (set_is_put es n a i (tail_part e.0 es es sorted) (record { in_range = omega (arith, at.in_range); is_name = at.is_name }))
    ∙ ap (λ o. by_order o ((n, a) ∷ e ∷ es) ((e.0, a) ∷ es) (e ∷ put nat_cmp n a es)) (nat_cmp_is n e.0 Greater smaller)

insert_is_put : (es : Pairs) (n a i : ℕ) → IsGapFor es n i → insert es i (n, a) ≡ put nat_cmp n a es
insert_is_put [] n a zero gap = refl
insert_is_put [] n a (suc i) gap = absurd (omega (arith, gap.in_range))
insert_is_put (e ∷ es) n a zero gap =
    let before = gap.greater_after 0 (omega arith) (omega arith) in
    ap (λ o. by_order o ((n, a) ∷ e ∷ es) ((e.0, a) ∷ es) (e ∷ put nat_cmp n a es)) (nat_cmp_is n e.0 Less before)
insert_is_put (e ∷ es) n a (suc i) gap =
    ap (λ l. e ∷ l) (insert_is_put es n a i (record {
      in_range = omega (arith, gap.in_range);
      smaller_before = λ j before. gap.smaller_before (suc j) (omega arith);
      greater_after = λ j after inside. gap.greater_after (suc j) (omega arith) (omega arith);
    }))
    ∙ ap (λ o. by_order o ((n, a) ∷ e ∷ es) ((e.0, a) ∷ es) (e ∷ put nat_cmp n a es)) (nat_cmp_is n e.0 Greater (gap.smaller_before 0 (omega arith)))

-- the notes of all other NAMEs
abbrev others : ℕ → Pairs → Pairs
others n es = where_key nat_cmp (λ x. not (eq_by_cmp nat_cmp n x)) es

not_tied : (n x : ℕ) → n ≢ x → not (eq_by_cmp nat_cmp n x) ≡ true
not_tied n x apart = ap not (unsigned_tied n x ∙ ne_eqb n x apart)

all_others : (n : ℕ) (es : Pairs) → ((j : ℕ) → j < length es → n ≢ name_at es j) → others n es ≡ es
all_others n [] apart = refl
all_others n (e ∷ es) apart =
    ap (λ b. cond b (e ∷ others n es) (others n es)) (not_tied n e.0 (apart 0 (omega arith)))
    ∙ ap (λ l. e ∷ l) (all_others n es (λ j inside. apart (suc j) (omega arith)))

remove_is_others : (es : Pairs) (n i : ℕ) → T (is_sorted nat_cmp es) → IsAt es n i → remove es i ≡ others n es
remove_is_others [] n i sorted at = absurd (omega (arith, at.in_range))
remove_is_others (e ∷ es) n zero sorted at =
    let above : (j : ℕ) → j < length es → n ≢ name_at es j =
    λ j inside same. omega (arith, below_at e.0 es (head_part e.0 es es sorted) j inside, at.is_name) in
    let tied : eq_by_cmp nat_cmp n e.0 ≡ true = unsigned_tied n e.0 ∙ eq-eqb n e.0 (sym at.is_name) in
    sym (ap (λ b. cond (not b) (e ∷ others n es) (others n es)) tied ∙ all_others n es above)
remove_is_others (e ∷ es) n (suc i) sorted at =
    let apart : n ≢ e.0 = λ same. omega (arith, rises (e ∷ es) sorted 0 (suc i) (omega arith) at.in_range, at.is_name) in
    ap (λ l. e ∷ l) (remove_is_others es n i (tail_part e.0 es es sorted) (record { in_range = omega (arith, at.in_range); is_name = at.is_name }))
    ∙ sym (ap (λ b. cond b (e ∷ others n es) (others n es)) (not_tied n e.0 apart))

-- the map of notes in order
abbrev pub map_of : Pairs → FinMap nat_cmp ℕ
map_of es = map.from_sorted es

pub record Became (es : Pairs) (m : FinMap nat_cmp ℕ) : Type 0 where
  pub rising : T (is_sorted nat_cmp es)
  pub map : map_of es ≡ m

put_became : (es : Pairs) (n a : ℕ) → T (is_sorted nat_cmp es) → Became (put nat_cmp n a es) (map.insert (map_of es) n a)
put_became es n a sorted =
    let still = is_sorted-put nat_cmp nat_cmp_total n a es sorted in
    record {
      rising = still;
      map = map.same_entries_map _ _ (map.entries-from_sorted nat_cmp (put nat_cmp n a es) still
          ∙ ap (put nat_cmp n a) (sym (map.entries-from_sorted nat_cmp es sorted)) ∙ sym (map.entries-insert nat_cmp_total (map_of es) n a));
    }

others_became : (es : Pairs) (n : ℕ) → T (is_sorted nat_cmp es) → Became (others n es) (map.remove (map_of es) n)
others_became es n sorted =
    let still = is_sorted-where_key nat_cmp (λ x. not (eq_by_cmp nat_cmp n x)) es sorted in
    record {
      rising = still;
      map = map.same_map nat_cmp_total nat_cmp-IsAntisymmetric _ _ (λ q.
          map.get-from_sorted nat_cmp (others n es) q still
          ∙ find-where_key nat_cmp (λ x. not (eq_by_cmp nat_cmp n x)) q
          (λ x tie. ap (λ y. not (eq_by_cmp nat_cmp n y)) (sym (nat_cmp-IsAntisymmetric q x tie))) es
          ∙ flip (eq_by_cmp nat_cmp n q) (eq_by_cmp nat_cmp q n) (find nat_cmp q es) (unsigned_tied n q ∙ either n q ∙ sym (unsigned_tied q n))
          ∙ ap (cond (eq_by_cmp nat_cmp q n) None) (sym (map.get-from_sorted nat_cmp es q sorted))
          ∙ sym (map.get-remove nat_cmp_total (map_of es) n q));
    }
  where
    flip : (b c : Bool) (o : Option ℕ) → b ≡ c → cond (not b) o None ≡ cond c None o
    flip true c o e = ap (λ d. cond d None o) e
    flip false c o e = ap (λ d. cond d None o) e

    either : (x y : ℕ) → eqb x y ≡ eqb y x
    either x y = elim (cases_eq x y) [
      | inl same ↦ rw (eq-eqb x y same, eq-eqb y x (sym same))
      | inr apart ↦ rw (ne_eqb x y apart, ne_eqb y x (λ e. apart (sym e)))
    ]

pub note_set : (es : Pairs) (n a i : ℕ) → T (is_sorted nat_cmp es) → IsAt es n i → Became (set es i (n, a)) (map.insert (map_of es) n a)
note_set es n a i sorted at = subst (λ l. Became l (map.insert (map_of es) n a)) (sym (set_is_put es n a i sorted at)) (put_became es n a sorted)

pub note_inserted : (es : Pairs) (n a i : ℕ) → T (is_sorted nat_cmp es) → IsGapFor es n i → Became (insert es i (n, a)) (map.insert (map_of es) n a)
note_inserted es n a i sorted gap = subst (λ l. Became l (map.insert (map_of es) n a)) (sym (insert_is_put es n a i gap)) (put_became es n a sorted)

pub note_removed : (es : Pairs) (n i : ℕ) → T (is_sorted nat_cmp es) → IsAt es n i → Became (remove es i) (map.remove (map_of es) n)
note_removed es n i sorted at = subst (λ l. Became l (map.remove (map_of es) n)) (sym (remove_is_others es n i sorted at)) (others_became es n sorted)

-- a NAME that has a gap is not noted, and one that stands somewhere is
find_gap : (es : Pairs) (n i : ℕ) → IsGapFor es n i → find nat_cmp n es ≡ None
find_gap [] n i gap = refl
find_gap (e ∷ es) n i gap =
    ap (λ b. cond b (Some e.1) (find nat_cmp n es)) (unsigned_tied n e.0 ∙ ne_eqb n e.0 (λ same. apart i gap same))
    ∙ find_gap es n (i - 1) (record {
      in_range = omega (arith, gap.in_range);
      smaller_before = λ j before. gap.smaller_before (suc j) (omega arith);
      greater_after = λ j after inside. gap.greater_after (suc j) (omega arith) (omega arith);
    })
  where
    apart : (i : ℕ) → IsGapFor (e ∷ es) n i → n ≢ e.0
    apart zero gap same = omega (arith, gap.greater_after 0 (omega arith) (omega arith))
    apart (suc i) gap same = omega (arith, gap.smaller_before 0 (omega arith))

find_at : (es : Pairs) (n i : ℕ) → IsAt es n i → is_some (find nat_cmp n es) ≡ true
find_at [] n i at = absurd (omega (arith, at.in_range))
find_at (e ∷ es) n zero at = ap (λ b. is_some (cond b (Some e.1) (find nat_cmp n es))) (unsigned_tied n e.0 ∙ eq-eqb n e.0 (sym at.is_name))
find_at (e ∷ es) n (suc i) at = elim (eq_by_cmp nat_cmp n e.0) as (λ b. is_some (cond b (Some e.1) (find nat_cmp n es)) ≡ true) [
  | true ↦ refl
  | false ↦ find_at es n i (record { in_range = omega (arith, at.in_range); is_name = at.is_name })
]

pub is_noted : (es : Pairs) (n : ℕ) (r : Result ℕ ℕ) → T (is_sorted nat_cmp es) → IfOk r (IsAt es n) → IfErr r (IsGapFor es n)
    → is_some (map.get (map_of es) n) ≡ is_ok r
is_noted es n (Ok i) sorted at none = ap is_some (map.get-from_sorted nat_cmp es n sorted) ∙ find_at es n i at
is_noted es n (Err i) sorted none gap = ap is_some (map.get-from_sorted nat_cmp es n sorted ∙ find_gap es n i gap)

pub len_notes : (es : Pairs) → T (is_sorted nat_cmp es) → map.len (map_of es) ≡ length es
len_notes es sorted = map.len-entries (map_of es) ∙ ap length (map.entries-from_sorted nat_cmp es sorted)

pub no_notes : map_of [] ≡ map.empty
no_notes = map.empty_of_len (map_of []) (len_notes [] tt)

-- there is room for a note
pub room : (es xs : Pairs) (n : ℕ) (m : FinMap nat_cmp ℕ) (r : Result ℕ ℕ) → xs ≡ es → map_of es ≡ m → T (is_sorted nat_cmp es)
    → IfOk r (IsAt xs n) → IfErr r (IsGapFor xs n)
    → can_note m n ≡ (is_ok r || ltb (length es) 128)
room es xs n m r same is sorted at gap =
    let noted = is_noted es n r sorted (subst (λ l. IfOk r (IsAt l n)) same at) (subst (λ l. IfErr r (IsGapFor l n)) same gap) in
    ap (λ k. can_note k n) (sym is) ∙ (λ i. noted i || ltb (len_notes es sorted i) 128)

-- a NAME that is not noted can be taken out
pub remove_absent : (es : Pairs) (n i : ℕ) → T (is_sorted nat_cmp es) → IsGapFor es n i → map_of es ≡ map.remove (map_of es) n
remove_absent es n i sorted gap =
    map.same_map nat_cmp_total nat_cmp-IsAntisymmetric _ _
    (λ q. sym (map.get-remove nat_cmp_total (map_of es) n q ∙ by q (eq_by_cmp nat_cmp q n) refl))
  where
    by : (q : ℕ) (b : Bool) → eq_by_cmp nat_cmp q n ≡ b → cond b None (map.get (map_of es) q) ≡ map.get (map_of es) q
    by q true tied = sym (ap (map.get (map_of es)) (eqb-true q n (sym (unsigned_tied q n) ∙ tied))
        ∙ map.get-from_sorted nat_cmp es n sorted ∙ find_gap es n i gap)
    by q false apart = refl

-- what a write through the slice leaves
refilled : {X : Type 0} (xs ws : List X) → length ws ≡ length xs → refill (length xs) xs ws ≡ ws
refilled [] [] e = refl
refilled [] (w ∷ ws) e = absurd (omega arith)
refilled (x ∷ xs) [] e = absurd (omega arith)
refilled (x ∷ xs) (w ∷ ws) e = ap (λ zs. w ∷ zs) (refilled xs ws (omega arith))

pub refilled_set : (es xs : Pairs) (i : ℕ) (e : ℕ × ℕ) → xs ≡ es → refill (length es) es (set xs i e) ≡ set es i e
refilled_set es xs i e same = ap (λ l. refill (length es) es (set l i e)) same ∙ refilled es (set es i e) (length-set es i e)
