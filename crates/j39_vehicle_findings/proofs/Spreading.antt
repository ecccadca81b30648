-- A search for all places of a graph that are reached from one.
use Rattle.std.proofs.Common.{◌≡◌, ℕ, zero, suc, ◌+◌, ◌<◌, ◌⊎◌, List, [], ◌∷◌, ◌++◌, Bool, true, false, not, cond, All, Contains, Decides, length, get_or, set}
use Rattle.std.proofs.Common.{take, replicate, refl, sym, ap, ◌∙◌, subst, inl, inr, arith}
use Rattle.std.specs.List.{count_by, slice_index_or, sum_by}
use Rattle.std.proofs.lemmas.Bool.{false≢true, cases_eq}
use Rattle.std.proofs.lemmas.List.{append-nil, get_or-set_same, get_or-set_other, length-set, nil_from_length, take_more}
use Rattle.std.proofs.lemmas.List.Elements.{Contains-append_cases, Contains-append_left, Contains-append_right, Contains-get_or}
use Rattle.std.proofs.lemmas.List.Sums.{sum_by-set}
use Rattle.std.proofs.Math.ListN.{get_or-eq_default}
use Rattle.std.proofs.Common.{append_assoc, length-append}
use Rattle.j39_vehicle_findings.specs.inside.Spreading.{IsReached, IsSpread, IsOneStep, IsWayTo, ReachesOne, Rows, Spreads, StayInside, further, straight}
use Rattle.j39_vehicle_findings.specs.PathTables.{row_at}

contains_one : (k m : ℕ) → Contains (k ∷ []) m → m ≡ k
contains_one k m (zero, less, is) = sym is
contains_one k m (suc i, less, is) = absurd (omega arith)

one_contains : (m : ℕ) → Contains (m ∷ []) m
one_contains m = (0, omega arith, refl)

-- ---- the places to which one leads

pub none_spread : (reached : List Bool) (waiting : List ℕ) → Spreads [] reached waiting reached waiting
none_spread reached waiting = record {
  count = refl;
  kept = λ m h. h;
  sound = λ m h. inl h;
  all = λ m (k, less, is). absurd (omega arith);
  more = [];
  waits = sym (append-nil waiting);
  stated = λ m h. inl h;
  those = λ m (k, less, is). absurd (omega arith);
  left = omega arith;
}

skip_spread : (places : List ℕ) (next : ℕ) (old new : List Bool) (waiting waiting_then : List ℕ) → Spreads places old waiting new waiting_then
    → IsReached new next → Spreads (places ++ next ∷ []) old waiting new waiting_then
skip_spread places next old new waiting waiting_then s reached = record {
  count = s.count;
  kept = s.kept;
  sound = λ m h. elim (s.sound m h) [ inl was ↦ inl was | inr there ↦ inr (Contains-append_left places (next ∷ []) m there) ];
  all = λ m h. elim (Contains-append_cases places (next ∷ []) m h) [
    | inl before ↦ s.all m before
    | inr now ↦ subst (λ n. IsReached new n) (sym (contains_one next m now)) reached
  ];
  more = s.more;
  waits = s.waits;
  stated = s.stated;
  those = s.those;
  left = s.left;
}

fewer_left : (xs : List Bool) (i : ℕ) → i < length xs → slice_index_or xs i false ≡ false → count_by not (set xs i true) + 1 ≡ count_by not xs
fewer_left xs i less is =
    let f : Bool → ℕ = λ b. cond (not b) 1 0 in
    let one : f (get_or xs i false) ≡ 1 = ap f is in
    let sums : sum_by f (set xs i true) + f (get_or xs i false) ≡ sum_by f xs + f true = sum_by-set f xs i true false less in
    omega (arith, one, sums)

set_kept : (xs : List Bool) (i m : ℕ) → i < length xs → IsReached xs m → IsReached (set xs i true) m
set_kept xs i m less h = elim (cases_eq m i) [
  | inl same ↦ subst (λ n. slice_index_or (set xs i true) n false ≡ true) (sym same) (get_or-set_same xs i true false less)
  | inr other ↦ get_or-set_other xs i m true false other ∙ h
]

set_parts : (xs : List Bool) (i m : ℕ) → IsReached (set xs i true) m → IsReached xs m ⊎ (m ≡ i)
set_parts xs i m h = elim (cases_eq m i) [ inl same ↦ inr same | inr other ↦ inl (sym (get_or-set_other xs i m true false other) ∙ h) ]

take_spread : (places : List ℕ) (next : ℕ) (old new : List Bool) (waiting waiting_then : List ℕ) → Spreads places old waiting new waiting_then
    → next < length new → slice_index_or new next false ≡ false
    → Spreads (places ++ next ∷ []) old waiting (set new next true) (waiting_then ++ next ∷ [])
take_spread places next old new waiting waiting_then s less is = record {
  count = length-set new next true ∙ s.count;
  kept = λ m h. set_kept new next m less (s.kept m h);
  sound = λ m h. elim (set_parts new next m h) [
    | inl before ↦ elim (s.sound m before) [ inl was ↦ inl was | inr there ↦ inr (Contains-append_left places (next ∷ []) m there) ]
    | inr same ↦ inr (Contains-append_right places (next ∷ []) m (subst (λ n. Contains (next ∷ []) n) (sym same) (one_contains next)))
  ];
  all = λ m h. elim (Contains-append_cases places (next ∷ []) m h) [
    | inl before ↦ set_kept new next m less (s.all m before)
    | inr now ↦
        subst (λ n. slice_index_or (set new next true) n false ≡ true) (sym (contains_one next m now)) (get_or-set_same new next true false less)
  ];
  more = s.more ++ next ∷ [];
  waits = ap (λ ws. ws ++ next ∷ []) s.waits ∙ append_assoc waiting s.more (next ∷ []);
  stated = λ m h. elim (set_parts new next m h) [
    | inl before ↦ elim (s.stated m before) [
      | inl was ↦ inl was
      | inr waits ↦ inr (Contains-append_left s.more (next ∷ []) m waits)
    ]
    | inr same ↦ inr (Contains-append_right s.more (next ∷ []) m (subst (λ n. Contains (next ∷ []) n) (sym same) (one_contains next)))
  ];
  those = λ m h. elim (Contains-append_cases s.more (next ∷ []) m h) [
    | inl before ↦ set_kept new next m less (s.those m before)
    | inr now ↦
        subst (λ n. slice_index_or (set new next true) n false ≡ true) (sym (contains_one next m now)) (get_or-set_same new next true false less)
  ];
  left =
      let fewer : count_by not (set new next true) + 1 ≡ count_by not new = fewer_left new next less is in
      let longer : length (s.more ++ next ∷ []) ≡ length s.more + 1 = length-append s.more (next ∷ []) in
      let left = s.left in
      omega (arith, fewer, longer, left);
}

pub one_more_spread : (places : List ℕ) (next : ℕ) (old mid new : List Bool) (waiting waiting_mid waiting_then : List ℕ)
    → Spreads places old waiting mid waiting_mid → next < length mid → ReachesOne next mid waiting_mid new waiting_then
    → Spreads (places ++ next ∷ []) old waiting new waiting_then
one_more_spread places next old mid new waiting waiting_mid waiting_then s less (inl (fresh, set_is, waits_is)) =
    let taken = take_spread places next old mid waiting waiting_mid s less fresh in
    subst (λ xs. Spreads (places ++ next ∷ []) old waiting xs waiting_then) (sym set_is)
    (subst (λ ws. Spreads (places ++ next ∷ []) old waiting (set mid next true) ws) (sym waits_is) taken)
one_more_spread places next old mid new waiting waiting_mid waiting_then s less (inr (reached, same, waits_same)) =
    let skipped = skip_spread places next old mid waiting waiting_mid s reached in
    subst (λ xs. Spreads (places ++ next ∷ []) old waiting xs waiting_then) (sym same)
    (subst (λ ws. Spreads (places ++ next ∷ []) old waiting mid ws) (sym waits_same) skipped)

pub next_of_all : (places : List ℕ) (i d : ℕ) (old mid new : List Bool) (waiting waiting_mid waiting_then : List ℕ)
    → Spreads (take i places) old waiting mid waiting_mid → i < length places → get_or places i d < length mid
    → ReachesOne (get_or places i d) mid waiting_mid new waiting_then → Spreads (take (i + 1) places) old waiting new waiting_then
next_of_all places i d old mid new waiting waiting_mid waiting_then s less inside one =
    subst (λ ps. Spreads ps old waiting new waiting_then) (sym (take_more places i d less))
    (one_more_spread (take i places) (get_or places i d) old mid new waiting waiting_mid waiting_then s inside one)

-- ---- all to which the start leads

none_reached : (n m : ℕ) → ¬ IsReached (replicate n false) m
none_reached zero m h = absurd (false≢true (sym (get_or-eq_default [] false {n = m} (omega arith)) ∙ h))
none_reached (suc n) zero h = absurd (false≢true h)
none_reached (suc n) (suc m) h = none_reached n m h

pub first_spread : (rows : Rows) (start : ℕ) (old new : List Bool) (waiting : List ℕ) → old ≡ replicate (length rows) false
    → length old ≡ length rows → Spreads (row_at rows start) old [] new waiting → IsSpread rows start new waiting
first_spread rows start old new waiting empty count s =
    let none : (m : ℕ) → ¬ IsReached old m =
    λ m h. none_reached (length rows) m (subst (λ xs. slice_index_or xs m false ≡ true) empty h) in
    let same : waiting ≡ s.more = s.waits in
    record {
      count = s.count ∙ count;
      sound = λ m h. elim (s.sound m h) [ inl was ↦ absurd (none m was) | inr there ↦ straight m there ];
      first = s.all;
      closed = λ k h. elim (s.stated k h) [
        | inl was ↦ absurd (none k was)
        | inr waits ↦ inl (subst (λ ws. Contains ws k) (sym same) waits)
      ];
      those = λ m h. s.those m (subst (λ ws. Contains ws m) same h);
    }

pub next_spread : (rows : Rows) (start place : ℕ) (old new : List Bool) (waiting front waiting_then : List ℕ) → IsSpread rows start old waiting
    → waiting ≡ front ++ place ∷ [] → Spreads (row_at rows place) old front new waiting_then → IsSpread rows start new waiting_then
next_spread rows start place old new waiting front waiting_then i is s =
    let in_place : Contains waiting place = subst (λ ws. Contains ws place) (sym is) (Contains-append_right front (place ∷ []) place (one_contains place)) in
    let came = i.sound place (i.those place in_place) in
    let waits_then : (m : ℕ) → Contains (front ++ s.more) m → Contains waiting_then m = λ m h. subst (λ ws. Contains ws m) (sym s.waits) h in
    record {
      count = s.count ∙ i.count;
      sound = λ m h. elim (s.sound m h) [ inl was ↦ i.sound m was | inr there ↦ further place m came there ];
      first = λ m f. s.kept m (i.first m f);
      closed = λ k h. elim (s.stated k h) [
        | inl was ↦ elim (i.closed k was) [
          | inl waits ↦ elim (Contains-append_cases front (place ∷ []) k (subst (λ ws. Contains ws k) is waits)) [
            | inl before ↦ inl (waits_then k (Contains-append_left front s.more k before))
            | inr now ↦
                let same = contains_one place k now in
                inr (λ m f. s.all m (subst (λ n. IsOneStep rows n m) same f))
          ]
          | inr all ↦ inr (λ m f. s.kept m (all m f))
        ]
        | inr waits ↦ inl (waits_then k (Contains-append_right front s.more k waits))
      ];
      those = λ m h. elim (Contains-append_cases front s.more m (subst (λ ws. Contains ws m) s.waits h)) [
        | inl before ↦
            s.kept m (i.those m (subst (λ ws. Contains ws m) (sym is) (Contains-append_left front (place ∷ []) m before)))
        | inr now ↦ s.those m now
      ];
    }

all_reached : (rows : Rows) (start : ℕ) (reached : List Bool) → IsSpread rows start reached [] → {m : ℕ} → IsWayTo rows start m → IsReached reached m
all_reached rows start reached i (straight m f) = i.first m f
all_reached rows start reached i (further k m before f) =
    elim (i.closed k (all_reached rows start reached i before)) [ inl (n, less, is) ↦ absurd (omega arith) | inr all ↦ all m f ]

pub none_waits : (rows : Rows) (start : ℕ) (reached : List Bool) (waiting : List ℕ) → length waiting ≡ 0 → IsSpread rows start reached waiting
    → IsSpread rows start reached []
none_waits rows start reached waiting none i = subst (λ ws. IsSpread rows start reached ws) (nil_from_length waiting none) i

pub spread_states : (rows : Rows) (start : ℕ) (reached : List Bool) (flag : Bool) → flag ≡ slice_index_or reached start false
    → IsSpread rows start reached [] → Decides flag (IsWayTo rows start start)
spread_states rows start reached flag is i = (λ e. i.sound start (sym is ∙ e), λ h. is ∙ all_reached rows start reached i h)

-- the row of a place stays inside of what is marked
pub row_inside : (rows : Rows) (place k : ℕ) → StayInside rows → k ≡ length rows → All (λ m. m < k) (row_at rows place)
row_inside rows place k inside same = λ i d less. rw same (inside place _ (Contains-get_or (row_at rows place) i d less))
