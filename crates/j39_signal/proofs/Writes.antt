-- A payload that is written keeps its other signals.
use Rattle.std.proofs.Common.{◌≡◌, ◌≢◌, ℕ, ℤ, zero, suc, ◌+◌, ◌-◌, ◌*◌, ◌^◌, ◌<◌, ◌≤◌, ◌==◌, ◌||◌, true, false, None, List, [], ◌∷◌, length}
use Rattle.std.proofs.Common.{slice_index, slice_index_or, slice_set, map, sym, refl, ap, ◌∙◌, inl, inr, arith}
use Rattle.std.specs.Prelude.{nat_lt, IsTrue}
use Rattle.std.specs.List.{AllPairs}
use Rattle.std.proofs.lemmas.Bool.{cases_order, or_cases, eqb-true, lt-ltb, le-ltb}
use Rattle.std.proofs.lemmas.Nat.{pow_pos}
use Rattle.std.proofs.lemmas.Nat.Bits.{bit_at_ones}
use Rattle.std.proofs.lemmas.List.{get_or-set_same, get_or-set_other, get_or-map, length-set, length-map}
use Rattle.j39_signal.specs.Bits.{bit, number_at, raw_of, all_ones, Put}
use Rattle.j39_signal.specs.Laid.{Laid, IsBlank, Write, IsWrittenFrom, Chain, last_payload, last_raws, given_up}
use Rattle.j39_signal.specs.declared.signal_parts.SignalParts.{SignalParts}
use Rattle.j39_signal.specs.Places.{IsInside, LaysOut, SharesBit, width_fits}
use Rattle.j39_signal.specs.State.{Ranges, ranges_of, state_in, state_of, value_of, IsRawOf}
use Rattle.j39_signal.specs.declared.kind.Kind.{Kind}
use Rattle.j39_signal.specs.declared.kind.Kind.TheVariants.{Measured, Discrete, Raw, States, Signed, Dtc}
use Rattle.j39_signal.specs.declared.state.State.TheVariants.{Value, Absent}
use Rattle.j39_signal.proofs.Numbers.{number_at-same}

-- ---- a write

-- the number of bits that are the same is the same
number_at-cong : (d e : List ℕ) (start k : ℕ) → ((j : ℕ) → j < k → bit e (start + j) ≡ bit d (start + j)) → number_at e start k ≡ number_at d start k
unfolding number_at
number_at-cong d e start zero same = refl
number_at-cong d e start (suc k) same =
    let below : number_at e start k ≡ number_at d start k = number_at-cong d e start k (λ j h. same j (omega arith)) in
    let here : bit e (start + k) ≡ bit d (start + k) = same k (omega arith) in
    ap (λ (n : ℕ). n + 2 ^ k * bit e (start + k)) below ∙ ap (λ (b : ℕ). number_at d start k + 2 ^ k * b) here

-- a write of one signal leaves another
other_kept : (s t : SignalParts) (raw : ℕ) (d e : List ℕ) → ¬ SharesBit s t → Put s raw d e → raw_of e t ≡ raw_of d t
other_kept s t raw d e apart put =
    number_at-cong d e t.start t.bits (λ j h. put.others (t.start + j) (λ covers. apart (t.start + j, covers, (omega arith, omega arith))))

-- signals at two places share no bit
apart_at : (signals : List SignalParts) (i j : ℕ) (d : SignalParts) → AllPairs (λ s t. ¬ SharesBit s t) signals
    → i < length signals → j < length signals → i ≢ j → ¬ SharesBit (slice_index_or signals i d) (slice_index_or signals j d)
apart_at signals i j d apart hi hj differ =
    elim (cases_order i j) [
      | inl same ↦ absurd (differ same)
      | inr other ↦
          elim other [
            | inl less ↦ apart i j d less hj
            | inr more ↦ λ shared. apart j i d more hi (shared.0, shared.2, shared.1)
          ]
    ]

-- some signal, where there is one
some_signal : (signals : List SignalParts) (i : ℕ) → i < length signals → SignalParts
some_signal [] i h = absurd (omega arith)
some_signal (s ∷ ss) i h = s

-- what a payload holds after a write
held_after : (start : List ℕ) (signals : List SignalParts) (raws : List ℕ) (old : List ℕ) (w : Write) → AllPairs (λ s t. ¬ SharesBit s t) signals
    → Laid start signals raws old → IsWrittenFrom signals old w → (i : ℕ) → i < length signals → (d : SignalParts)
    → raw_of w.payload (slice_index_or signals i d) ≡ slice_index (slice_set raws w.place w.raw) i
held_after start signals raws old w apart laid follows i h d =
    let counted = laid.counted in
    let place = follows.0 in
    let put = (follows.1 d).1 in
    elim (cases_order i w.place) [
      | inl same ↦
          ap (λ (k : ℕ). raw_of w.payload (slice_index_or signals k d)) same ∙ put.written
          ∙ sym (ap (λ (k : ℕ). slice_index (slice_set raws w.place w.raw) k) same ∙ get_or-set_same raws w.place w.raw 0 (omega arith))
      | inr other ↦
          let differ : i ≢ w.place = λ e. elim other [ inl less ↦ absurd (omega (arith, less, e)) | inr more ↦ absurd (omega (arith, more, e)) ] in
          other_kept (slice_index_or signals w.place d) (slice_index_or signals i d) w.raw old w.payload
          (apart_at signals w.place i d apart place h (λ e. differ (sym e))) put
          ∙ laid.held i h d
          ∙ sym (get_or-set_other raws w.place i w.raw 0 differ)
    ]

-- a payload is still laid out after a write
laid_after : (start : List ℕ) (signals : List SignalParts) (raws : List ℕ) (old : List ℕ) (w : Write) → AllPairs (λ s t. ¬ SharesBit s t) signals
    → Laid start signals raws old → IsWrittenFrom signals old w → Laid start signals (slice_set raws w.place w.raw) w.payload
laid_after start signals raws old w apart laid follows =
    let s : SignalParts = some_signal signals w.place follows.0 in
    let put = (follows.1 s).1 in
    record {
      same_length = put.same_length ∙ laid.same_length;
      counted = length-set raws w.place w.raw ∙ laid.counted;
      held = held_after start signals raws old w apart laid follows;
      free = λ j h none. put.others j (none w.place s follows.0) ∙ laid.free j h none;
    }

-- and after each write of a chain
pub laid_along : (start : List ℕ) (signals : List SignalParts) (raws : List ℕ) (payload : List ℕ) (writes : List Write)
    → AllPairs (λ s t. ¬ SharesBit s t) signals → Laid start signals raws payload → Chain signals payload writes
    → Laid start signals (last_raws raws writes) (last_payload payload writes)
laid_along start signals raws payload [] apart laid chain = laid
laid_along start signals raws payload (w ∷ ws) apart laid chain =
    laid_along start signals (slice_set raws w.place w.raw) w.payload ws apart (laid_after start signals raws payload w apart laid chain.0) chain.1

-- ---- the first payload

-- it holds its own raw numbers
first_laid : (start : List ℕ) (signals : List SignalParts) → Laid start signals (map (raw_of start) signals) start
first_laid start signals = record {
  same_length = refl;
  counted = length-map signals (raw_of start);
  held = λ i h d. sym (get_or-map (raw_of start) signals i d 0 h);
  free = λ j h none. refl;
}

pub keeps_writes : (start : List ℕ) (signals : List SignalParts) → LaysOut (length start) signals → (writes : List Write)
    → Chain signals start writes
    → Laid start signals (last_raws (map (raw_of start) signals) writes) (last_payload start writes)
keeps_writes start signals out writes chain =
    laid_along start signals (map (raw_of start) signals) start writes out.apart (first_laid start signals) chain

-- ---- a blank payload

ones_number : (payload : List ℕ) (start k : ℕ) → start + k ≤ 8 * length payload → ((j : ℕ) → j < 8 * length payload → bit payload j ≡ 1)
    → number_at payload start k ≡ 2 ^ k - 1
ones_number payload start k inside ones =
    number_at-same payload start (2 ^ k - 1) k (omega (arith, pow_pos k))
    (λ j h. ones (start + j) (omega arith) ∙ sym (bit_at_ones k j h))

pub blank_ones : (payload : List ℕ) (s : SignalParts) → IsBlank None payload → IsInside (length payload) s → raw_of payload s ≡ all_ones s
blank_ones payload s blank inside = ones_number payload s.start s.bits inside (λ j h. blank.others j h (λ none. none))

-- ---- what is read

value_in : (ranges : Ranges) (value : ℤ) (raw : ℕ) → raw < ranges.values → state_in ranges value raw ≡ Value value
value_in ranges value raw h = let below : nat_lt raw ranges.values ≡ true = lt-ltb raw ranges.values h in rw below refl

pub value_read : (s : SignalParts) (value : ℤ) (raw : ℕ) → IsRawOf s value raw → state_of s raw ≡ Value value
value_read s value raw h = value_in (ranges_of s.kind s.bits) (value_of s raw) raw h.0 ∙ ap Value h.1

absent_in : (ranges : Ranges) (value : ℤ) (raw : ℕ) → ranges.values ≤ raw → ranges.specific ≤ raw → ranges.reserved ≤ raw → ranges.faults ≤ raw
    → state_in ranges value raw ≡ Absent
absent_in ranges value raw a b c d =
    let past_values : nat_lt raw ranges.values ≡ false = le-ltb raw ranges.values a in
    let past_specific : nat_lt raw ranges.specific ≡ false = le-ltb raw ranges.specific b in
    let past_reserved : nat_lt raw ranges.reserved ≡ false = le-ltb raw ranges.reserved c in
    let past_faults : nat_lt raw ranges.faults ≡ false = le-ltb raw ranges.faults d in
    rw (past_values, past_specific, past_reserved, past_faults) refl

-- all ones of each width that a kind can have
ones_in : (kind : Kind) (start bits : ℕ) (value : ℤ) → width_fits kind start bits ≡ true
    → state_in (ranges_of kind bits) value (2 ^ bits - 1) ≡ given_up kind value
ones_in Measured start bits value fits =
    elim (or_cases (bits == 8) (bits == 16 || bits == 32) fits) [
      | inl e ↦ let k : bits ≡ 8 = eqb-true bits 8 e in rw k refl
      | inr o ↦
          elim (or_cases (bits == 16) (bits == 32) o) [
            | inl e ↦ let k : bits ≡ 16 = eqb-true bits 16 e in rw k refl
            | inr e ↦ let k : bits ≡ 32 = eqb-true bits 32 e in rw k refl
          ]
    ]
ones_in Discrete start bits value fits = let k : bits ≡ 2 = eqb-true bits 2 fits in rw k refl
ones_in Raw start bits value fits = value_in (ranges_of Raw bits) value (2 ^ bits - 1) (omega (arith, pow_pos bits))
ones_in States start bits value fits = absent_in (ranges_of States bits) value (2 ^ bits - 1) (omega arith) (omega arith) (omega arith) (omega arith)
ones_in Signed start bits value fits = value_in (ranges_of Signed bits) value (2 ^ bits - 1) (omega (arith, pow_pos bits))
ones_in Dtc start bits value fits = absent_in (ranges_of Dtc bits) value (2 ^ bits - 1) (omega arith) (omega arith) (omega arith) (omega arith)

pub ones_read : (s : SignalParts) → IsTrue (width_fits s.kind s.start s.bits) → state_of s (all_ones s) ≡ given_up s.kind (value_of s (all_ones s))
ones_read s fits = ones_in s.kind s.start s.bits (value_of s (all_ones s)) fits
