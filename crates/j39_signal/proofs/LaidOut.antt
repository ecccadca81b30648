-- Signals that lay out a payload have no fault, and one more signal has a place or the first fault.
use Rattle.std.proofs.Common.{◌≡◌, ◌≢◌, ℕ, ◌+◌, ◌<◌, ◌≤◌, Bool, true, false, List, [], ◌∷◌, ◌++◌, length, get_or, take, drop, Option, Some, None}
use Rattle.std.proofs.Common.{append_assoc, length-append, inl, inr, refl, sym, ap, ◌∙◌, subst, arith}
use Rattle.std.specs.List.{All, AllPairs, position_or_len}
use Rattle.std.proofs.lemmas.Bool.{cases_Bool, le-leb, le-ltb}
use Rattle.std.proofs.lemmas.List.{drop_more, take_more, get_or_append_left}
use Rattle.std.proofs.lemmas.List.Elements.{All-push}
use Rattle.std.proofs.lemmas.List.Quantifiers.{all_pairs_push}
use Rattle.std.proofs.lemmas.List.Sums.{position_or_len_is}
use Rattle.std.proofs.Math.Seq.{get_or-append_seam}
use Rattle.j39_id.specs.FirstFault.{first_fault}
use Rattle.j39_id.specs.Limits.{message_bytes}
use Rattle.j39_signal.specs.declared.signal_parts.SignalParts.{SignalParts}
use Rattle.j39_signal.specs.Places.{WidthFits, IsInside, SharesBit, LaysOut, shares_bit}
use Rattle.j39_signal.specs.Refusals.{HasLayoutFault, faults_behind, first_sharer, layout_faults, placement_faults}
use Rattle.j39_signal.specs.declared.layout_error.LayoutError.{LayoutError}
use Rattle.j39_signal.specs.declared.layout_error.LayoutError.TheVariants.{Length, Width, Outside, Overlap, Memory}
use Rattle.j39_signal.proofs.Sharing.{shared_by_true}

-- ---- the first of several faults

none_first : {E : Type 0} (xs ys : List (E × Bool)) → first_fault xs ≡ None → first_fault (xs ++ ys) ≡ first_fault ys
none_first [] ys none = refl
none_first ((e, true) ∷ xs) ys none = cc none
none_first ((e, false) ∷ xs) ys none = none_first xs ys none

some_first : {E : Type 0} (xs ys : List (E × Bool)) (e : E) → first_fault xs ≡ Some e → first_fault (xs ++ ys) ≡ Some e
some_first [] ys e some = cc some
some_first ((d, true) ∷ xs) ys e some = some
some_first ((d, false) ∷ xs) ys e some = some_first xs ys e some

-- a length in range is no fault
in_range : (bytes : ℕ) (signals : List SignalParts) → 1 ≤ bytes → bytes ≤ message_bytes
    → first_fault (layout_faults bytes signals) ≡ first_fault (faults_behind bytes [] signals)
in_range bytes signals some most =
    let low = le-ltb bytes 1 some in
    let high = le-ltb message_bytes bytes most in
    rw (low, high) refl

-- ---- one more signal

front : (signals : List SignalParts) (i : ℕ) (s : SignalParts) → i < length signals → s ≡ get_or signals i s → take (i + 1) signals ≡ take i signals ++ s ∷ []
front signals i s h is = take_more signals i s h ∙ ap (λ x. take i signals ++ x ∷ []) (sym is)

pub laid_out_more : (bytes : ℕ) (signals : List SignalParts) (i : ℕ) (s : SignalParts) → i < length signals → s ≡ get_or signals i s
    → LaysOut bytes (take i signals) → WidthFits s × IsInside bytes s × All (λ t. ¬ SharesBit t s) (take i signals)
    → LaysOut bytes (take (i + 1) signals)
laid_out_more bytes signals i s h is laid fits =
    subst (LaysOut bytes) (sym (front signals i s h is)) (record {
      some_bytes = laid.some_bytes;
      most_bytes = laid.most_bytes;
      widths = All-push WidthFits (take i signals) s laid.widths fits.0;
      inside = All-push (IsInside bytes) (take i signals) s laid.inside fits.1;
      apart = all_pairs_push (λ s t. ¬ SharesBit s t) (take i signals) s laid.apart fits.2;
    })

-- the faults from a signal on are its own and those behind it
faults_from : (bytes : ℕ) (signals : List SignalParts) (i : ℕ) (s : SignalParts) → i < length signals → s ≡ get_or signals i s
    → faults_behind bytes (take i signals) (drop i signals)
    ≡ placement_faults bytes (take i signals) s ++ faults_behind bytes (take (i + 1) signals) (drop (i + 1) signals)
faults_from bytes signals i s h is =
    let here : drop i signals ≡ s ∷ drop (i + 1) signals = drop_more signals i s h ∙ ap (λ x. x ∷ drop (i + 1) signals) (sym is) in
    ap (faults_behind bytes (take i signals)) here
    ∙ sym (ap (λ (before : List SignalParts). placement_faults bytes (take i signals) s ++ faults_behind bytes before (drop (i + 1) signals))
    (front signals i s h is))

-- a signal without a fault is passed over
pub fault_behind : (bytes : ℕ) (signals : List SignalParts) (i : ℕ) (s : SignalParts) (first : Option LayoutError) → i < length signals → s ≡ get_or signals i s
    → first ≡ first_fault (faults_behind bytes (take i signals) (drop i signals)) → first_fault (placement_faults bytes (take i signals) s) ≡ None
    → first ≡ first_fault (faults_behind bytes (take (i + 1) signals) (drop (i + 1) signals))
fault_behind bytes signals i s first h is before none =
    before ∙ ap first_fault (faults_from bytes signals i s h is)
    ∙ none_first (placement_faults bytes (take i signals) s) (faults_behind bytes (take (i + 1) signals) (drop (i + 1) signals)) none

-- the first fault is the layout's
as_fault : (bytes : ℕ) (signals : List SignalParts) (fault : LayoutError) → fault ≢ Memory → first_fault (layout_faults bytes signals) ≡ Some fault
    → HasLayoutFault bytes signals fault
as_fault bytes signals Length other is = is
as_fault bytes signals (Width i) other is = is
as_fault bytes signals (Outside i) other is = is
as_fault bytes signals (Overlap j i) other is = is
as_fault bytes signals Memory other is = absurd (other refl)

pub fault_at : (bytes : ℕ) (signals : List SignalParts) (i : ℕ) (s : SignalParts) (fault : LayoutError) → i < length signals → s ≡ get_or signals i s
    → LaysOut bytes (take i signals) → first_fault (faults_behind bytes [] signals) ≡ first_fault (faults_behind bytes (take i signals) (drop i signals))
    → fault ≢ Memory → first_fault (placement_faults bytes (take i signals) s) ≡ Some fault → HasLayoutFault bytes signals fault
fault_at bytes signals i s fault h is laid before other found =
    as_fault bytes signals fault other
    (in_range bytes signals laid.some_bytes laid.most_bytes ∙ before ∙ ap first_fault (faults_from bytes signals i s h is)
    ∙ some_first (placement_faults bytes (take i signals) s) (faults_behind bytes (take (i + 1) signals) (drop (i + 1) signals)) fault found)

-- ---- signals that lay out a payload have no fault

apart_by_test : (s t : SignalParts) → ¬ SharesBit s t → shares_bit s t ≡ false
apart_by_test s t apart =
    elim (cases_Bool (shares_bit s t)) [
      | inl shares ↦ absurd (apart (shared_by_true s t shares))
      | inr other ↦ other
    ]

no_sharer : (s : SignalParts) (before : List SignalParts) → ((k : ℕ) → k < length before → shares_bit (get_or before k s) s ≡ false)
    → first_sharer s before ≡ None
no_sharer s before apart =
    let place = position_or_len_is (λ t. shares_bit t s) before (length before) s (omega arith) apart (λ h. absurd (omega arith)) in
    let test = le-ltb (position_or_len (λ t. shares_bit t s) before) (length before) (omega (arith, place)) in
    rw test refl

faultless : (bytes : ℕ) (before rest : List SignalParts) → All WidthFits (before ++ rest) → All (IsInside bytes) (before ++ rest)
    → AllPairs (λ s t. ¬ SharesBit s t) (before ++ rest) → first_fault (faults_behind bytes before rest) ≡ None
faultless bytes before [] widths inside apart = refl
faultless bytes before (s ∷ rest) widths inside apart =
    let n : ℕ = length before in
    let all : List SignalParts = before ++ s ∷ rest in
    let less : n < length all = omega (arith, length-append before (s ∷ rest)) in
    let here : get_or all n s ≡ s = get_or-append_seam before s rest s in
    let fits : WidthFits s = subst WidthFits here (widths n s less) in
    let ends : IsInside bytes s = subst (IsInside bytes) here (inside n s less) in
    let within = le-leb _ _ ends in
    let none : first_sharer s before ≡ None =
    no_sharer s before (λ k below.
    let left : get_or all k s ≡ get_or before k s = get_or_append_left before (s ∷ rest) s k below in
    apart_by_test (get_or before k s) s
    (subst (λ (t : SignalParts). ¬ SharesBit (get_or before k s) t) here
    (subst (λ (t : SignalParts). ¬ SharesBit t (get_or all n s)) left (apart k n s below less)))) in
    let free : first_fault (placement_faults bytes before s) ≡ None = rw (fits, within, none) refl in
    let whole : (before ++ s ∷ []) ++ rest ≡ all = append_assoc before (s ∷ []) rest in
    none_first (placement_faults bytes before s) (faults_behind bytes (before ++ s ∷ []) rest) free
    ∙ faultless bytes (before ++ s ∷ []) rest (subst (All WidthFits) (sym whole) widths) (subst (All (IsInside bytes)) (sym whole) inside)
    (subst (AllPairs (λ s t. ¬ SharesBit s t)) (sym whole) apart)

none_holds : (bytes : ℕ) (signals : List SignalParts) → LaysOut bytes signals → first_fault (layout_faults bytes signals) ≡ None
none_holds bytes signals laid = in_range bytes signals laid.some_bytes laid.most_bytes ∙ faultless bytes [] signals laid.widths laid.inside laid.apart

pub no_fault : (bytes : ℕ) (signals : List SignalParts) (fault : LayoutError) → fault ≢ Memory → LaysOut bytes signals → HasLayoutFault bytes signals fault → ⊥
no_fault bytes signals Length other laid has = cc (sym has ∙ none_holds bytes signals laid)
no_fault bytes signals (Width i) other laid has = cc (sym has ∙ none_holds bytes signals laid)
no_fault bytes signals (Outside i) other laid has = cc (sym has ∙ none_holds bytes signals laid)
no_fault bytes signals (Overlap j i) other laid has = cc (sym has ∙ none_holds bytes signals laid)
no_fault bytes signals Memory other laid has = other refl
