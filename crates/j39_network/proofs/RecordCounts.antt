-- How many records a message has.
use Rattle.std.proofs.Common.{Some, ◌≡◌, ◌≢◌, ℕ, ◌+◌, ◌-◌, ◌*◌, ◌/◌, ◌<◌, ◌≤◌, max, Bool, true, false, not, ◌&&◌, ◌==◌, nat_lt, if◌then◌else◌, List, [], ◌∷◌}
use Rattle.std.proofs.Common.{◌++◌, map, All, None, Option, refl, sym, ap, subst, ◌∙◌, inl, inr, arith}
use Rattle.std.specs.List.{filter}
use Rattle.std.specs.Option.{option_map_or}
use Rattle.std.proofs.Math.Nat.{le-div_iff_mul-le, mul_comm}
use Rattle.std.proofs.lemmas.Bool.{cases_Bool, eqb-false, false≢true, le-ltb, ltb-false, ne_eqb}
use Rattle.std.proofs.lemmas.List.{append-nil}
use Rattle.std.proofs.lemmas.List.Elements.{All-cons, All-head, All-nil, All-tail, All-weaker}
use Rattle.j39_signal.specs.Parts.{HasRanges}
use Rattle.j39_signal.specs.declared.signal_parts.SignalParts.{SignalParts}
use Rattle.j39_signal.specs.Places.{IsInside, end_of, further, is_there}
use Rattle.j39_network.specs.declared.plan.group_plan.GroupPlan.{GroupPlan}
use Rattle.j39_network.specs.Records.{single_signals, repeated_signals, record_signals, records_signals, last_end, first_bytes, count_inside, record_count}
use Rattle.j39_network.specs.Records.{signals_in, RecordsAreCounted}

-- ---- where a record ends

inside_with : (bytes n : ℕ) (b : Bool) (s : SignalParts) (rest : ℕ) (others : List SignalParts)
    → (rest + 8 * n ≤ 8 * bytes → All (IsInside bytes) (map (further n) others))
    → max (if b then end_of s else 0) rest + 8 * n ≤ 8 * bytes
    → All (IsInside bytes) (map (further n) (if b then s ∷ others else others))
inside_with bytes n true s rest others behind less =
    All-cons (IsInside bytes) (further n s) (map (further n) others) (omega (arith, less)) (behind (omega (arith, less)))
inside_with bytes n false s rest others behind less = behind (omega (arith, less))

-- signals whose last end is inside end inside
inside_from : (bytes n : ℕ) (signals : List SignalParts) → last_end signals + 8 * n ≤ 8 * bytes → All (IsInside bytes) (record_signals n signals)
unfolding last_end
inside_from bytes n [] less = All-nil (IsInside bytes)
inside_from bytes n (s ∷ rest) less = inside_with bytes n s.repeated s (last_end rest) (repeated_signals rest) (inside_from bytes n rest) less

end_with : (bytes n : ℕ) (b : Bool) (s : SignalParts) (rest : ℕ) (others : List SignalParts)
    → (All (IsInside bytes) (map (further n) others) → rest + 8 * n ≤ 8 * bytes)
    → All (IsInside bytes) (map (further n) (if b then s ∷ others else others))
    → max (if b then end_of s else 0) rest + 8 * n ≤ 8 * bytes
end_with bytes n true s rest others behind all =
    let here = All-head (IsInside bytes) (further n s) (map (further n) others) all in
    let later = behind (All-tail (IsInside bytes) (further n s) (map (further n) others) all) in
    omega (arith, here, later)
end_with bytes n false s rest others behind all = let later = behind all in omega (arith, later)

end_from : (bytes n : ℕ) (signals : List SignalParts) → 8 * n ≤ 8 * bytes → All (IsInside bytes) (record_signals n signals)
    → last_end signals + 8 * n ≤ 8 * bytes
unfolding last_end
end_from bytes n [] room all = omega (arith, room)
end_from bytes n (s ∷ rest) room all = end_with bytes n s.repeated s (last_end rest) (repeated_signals rest) (end_from bytes n rest room) all

-- a record with signals takes some room
room_for : (bytes n : ℕ) (others : List SignalParts) → others ≢ [] → All (IsInside bytes) (map (further n) others) → 8 * n ≤ 8 * bytes
room_for bytes n [] some all = absurd (some refl)
room_for bytes n (s ∷ others) some all =
    let here = All-head (IsInside bytes) (further n s) (map (further n) others) all in
    omega (arith, here)

positive_with : (b : Bool) (s : SignalParts) (rest : ℕ) (others : List SignalParts) → 1 ≤ s.bits → (others ≢ [] → 1 ≤ rest)
    → (if b then s ∷ others else others) ≢ [] → 1 ≤ max (if b then end_of s else 0) rest
positive_with true s rest others wide behind some = omega (arith, wide)
positive_with false s rest others wide behind some = let later = behind some in omega (arith, later)

positive_from : (signals : List SignalParts) → All HasRanges signals → repeated_signals signals ≢ [] → 1 ≤ last_end signals
unfolding last_end
positive_from [] ranges some = absurd (some refl)
positive_from (s ∷ rest) ranges some =
    let range = All-head HasRanges s rest ranges in
    positive_with s.repeated s (last_end rest) (repeated_signals rest) range.some_bits (positive_from rest (All-tail HasRanges s rest ranges)) some

some_with : (b : Bool) (s : SignalParts) (rest : ℕ) (others : List SignalParts) → (1 ≤ rest → others ≢ [])
    → 1 ≤ max (if b then end_of s else 0) rest → (if b then s ∷ others else others) ≢ []
some_with true s rest others behind some = λ none. cc
some_with false s rest others behind some = behind (omega (arith, some))

some_from : (signals : List SignalParts) → 1 ≤ last_end signals → repeated_signals signals ≢ []
unfolding last_end
some_from [] some = absurd (omega arith)
some_from (s ∷ rest) some = some_with s.repeated s (last_end rest) (repeated_signals rest) (some_from rest) some

-- ---- how many there are

counted_from : (every first bytes behind : ℕ) → 1 ≤ every → behind < count_inside every first bytes → (1 ≤ first) × (first + every * behind ≤ bytes)
counted_from every first bytes behind some less =
    elim (cases_Bool (first == 0)) [
      | inl none ↦ let no : behind < 0 = rw none at less in absurd (omega (arith, no))
      | inr other ↦ elim (cases_Bool (nat_lt bytes first)) [
        | inl short ↦ let no : behind < 0 = rw (other, short) at less in absurd (omega (arith, no))
        | inr long ↦
            let inside : behind < (bytes - first) / every + 1 = rw (other, long) at less in
            let fits : behind * every ≤ bytes - first = (le-div_iff_mul-le some).0 (omega (arith, inside)) in
            let order : behind * every ≡ every * behind = mul_comm behind every in
            let room : first ≤ bytes = ltb-false bytes first long in
            let none : first ≡ 0 → ⊥ = eqb-false first 0 other in
            (omega (arith, none), omega (arith, fits, order, room))
      ]
    ]

counted_of : (every first bytes behind : ℕ) → 1 ≤ every → 1 ≤ first → first + every * behind ≤ bytes → behind < count_inside every first bytes
counted_of every first bytes behind some positive fits =
    let order : behind * every ≡ every * behind = mul_comm behind every in
    let inside : behind ≤ (bytes - first) / every = (le-div_iff_mul-le some).1 (omega (arith, fits, order)) in
    let less : behind < (bytes - first) / every + 1 = omega (arith, inside) in
    rw (ne_eqb first 0 (λ none. omega (arith, none, positive)), le-ltb bytes first (omega (arith, fits))) less

-- a record of a message stands inside it
pub record_stands : (group : GroupPlan) (every bytes behind : ℕ) → group.every ≡ Some every → behind < record_count group bytes → every * behind ≤ bytes
record_stands group every bytes behind is less =
    let signals = group.signals.items in
    let count = ap (λ (o : Option ℕ). option_map_or (λ n. count_inside n (first_bytes signals) bytes) o 0) is in
    let inside = counted_from every (first_bytes signals) bytes behind (group.every_positive every is) (subst (λ n. behind < n) count less) in
    omega (arith, inside.1)

pub records_counted : RecordsAreCounted
records_counted group every bytes behind is =
    let signals = group.signals.items in
    let some = group.every_positive every is in
    let count : record_count group bytes ≡ count_inside every (first_bytes signals) bytes =
    ap (λ (o : Option ℕ). option_map_or (λ n. count_inside n (first_bytes signals) bytes) o 0) is in (
      λ less.
          let inside = counted_from every (first_bytes signals) bytes behind some (subst (λ n. behind < n) count less) in
          let positive : 1 ≤ last_end signals = omega (arith, inside.0) in
          let fits : last_end signals + 8 * (every * behind) ≤ 8 * bytes = omega (arith, inside.1) in
          (some_from signals positive, inside_from bytes (every * behind) signals fits),
      λ both.
          let positive = positive_from signals group.signal_ranges both.0 in
          let fits = end_from bytes (every * behind) signals (room_for bytes (every * behind) (repeated_signals signals) both.0 both.1) both.1 in
          let first : 1 ≤ first_bytes signals = omega (arith, positive) in
          let whole : first_bytes signals + every * behind ≤ bytes = omega (arith, fits) in
          subst (λ n. behind < n) (sym count) (counted_of every (first_bytes signals) bytes behind some first whole),
    )

-- a longer message has each record that a shorter one has
pub longer_has : (group : GroupPlan) (every bytes most behind : ℕ) → group.every ≡ Some every → bytes ≤ most → behind < record_count group bytes
    → behind < record_count group most
longer_has group every bytes most behind is longer less =
    let here = (records_counted group every bytes behind is).0 less in
    (records_counted group every most behind is).1
    (here.0, All-weaker (IsInside bytes) (IsInside most) (λ s ends. omega (arith, ends, longer)) (record_signals (every * behind) group.signals.items) here.1)

-- ---- plans without records

single_with : (b c : Bool) (s : SignalParts) (xs ys : List SignalParts) → b ≡ false → xs ≡ ys
    → (if not b && c then s ∷ xs else xs) ≡ (if c then s ∷ ys else ys)
single_with true c s xs ys once same = absurd (false≢true (sym once))
single_with false c s xs ys once same = ap (λ (others : List SignalParts). if c then s ∷ others else others) same

all_single : (bytes : ℕ) (signals : List SignalParts) → All (λ s. s.repeated ≡ false) signals
    → single_signals bytes signals ≡ filter (is_there bytes) signals
all_single bytes [] none = refl
all_single bytes (s ∷ rest) none =
    let once = All-head (λ t. t.repeated ≡ false) s rest none in
    single_with s.repeated (is_there bytes s) s (single_signals bytes rest) (filter (is_there bytes) rest) once
    (all_single bytes rest (All-tail (λ t. t.repeated ≡ false) s rest none))

-- a message of a group without records has those of its signals that aren't repeated
pub singles_alone : (group : GroupPlan) → group.every ≡ None → (bytes : ℕ) → signals_in group bytes ≡ single_signals bytes group.signals.items
singles_alone group is bytes =
    let signals = group.signals.items in
    ap (λ (o : Option ℕ). single_signals bytes signals ++ option_map_or (λ every. records_signals every (record_count group bytes) signals) o []) is
    ∙ append-nil (single_signals bytes signals)

pub signals_alone : (group : GroupPlan) → group.every ≡ None → (bytes : ℕ) → signals_in group bytes ≡ filter (is_there bytes) group.signals.items
signals_alone group is bytes = singles_alone group is bytes ∙ all_single bytes group.signals.items (group.every_needed is)
