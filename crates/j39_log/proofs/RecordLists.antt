-- The lines of records, one after another.
use Rattle.std.proofs.Common.{◌≡◌, ℕ, Some, suc, ◌+◌, ◌*◌, ◌<◌, Bool, true, false, if◌then◌else◌, List, [], ◌∷◌, ◌++◌, map, zero, All, length, drop, get_or}
use Rattle.std.proofs.Common.{refl}
use Rattle.std.proofs.Common.{sym, ap, subst, ◌∙◌, append_assoc, arith}
use Rattle.std.specs.List.{HoldsAt}
use Rattle.std.proofs.lemmas.Bool.{false≢true}
use Rattle.std.proofs.lemmas.Option.{get_or_from_slice_get, slice_get_read}
use Rattle.std.proofs.lemmas.List.Elements.{All-head, All-tail}
use Rattle.std.proofs.lemmas.List.{append-nil, drop_more}
use Rattle.j39_signal.specs.Bits.{raw_of}
use Rattle.j39_signal.specs.declared.signal_parts.SignalParts.{SignalParts}
use Rattle.j39_signal.specs.Places.{IsInside, further}
use Rattle.j39_signal.specs.State.{state_of}
use Rattle.j39_network.specs.Records.{record_count, record_signals, repeated_signals}
use Rattle.j39_network.specs.declared.plan.group_plan.GroupPlan.{GroupPlan}
use Rattle.j39_network.proofs.RecordCounts.{records_counted}
use Rattle.j39_log.specs.LogReports.{of_records, record_line, record_lines, signal_state_text}

-- each record that is counted lies inside the message
pub record_inside : (group : GroupPlan) (every bytes count place : ℕ) → group.every ≡ Some every → count ≡ record_count group bytes → place < count
    → All (IsInside bytes) (record_signals (every * place) group.signals.items)
record_inside group every bytes count place is counted less = ((records_counted group every bytes place is).0 (omega (arith, counted, less))).1

one_with : (b : Bool) (place behind : ℕ) (s : SignalParts) (bytes : List ℕ) → b ≡ true
    → record_lines place (map (further behind) (if b then s ∷ [] else [])) bytes ≡ record_line place s (state_of s (raw_of bytes (further behind s)))
unfolding record_lines record_line signal_state_text
one_with true place behind s bytes is = append-nil (record_line place (further behind s) (state_of (further behind s) (raw_of bytes (further behind s))))
one_with false place behind s bytes is = absurd (false≢true is)

none_with : (b : Bool) (place behind : ℕ) (s : SignalParts) (bytes : List ℕ) → b ≡ false
    → record_lines place (map (further behind) (if b then s ∷ [] else [])) bytes ≡ []
unfolding record_lines
none_with true place behind s bytes is = absurd (false≢true (sym is))
none_with false place behind s bytes is = refl

-- what is written for a signal of a record, if it is repeated
pub one_signal : (place behind : ℕ) (s : SignalParts) (bytes : List ℕ) → s.repeated ≡ true
    → record_lines place (record_signals behind (s ∷ [])) bytes ≡ record_line place s (state_of s (raw_of bytes (further behind s)))
one_signal place behind s bytes is = one_with s.repeated place behind s bytes is

pub no_signal : (place behind : ℕ) (s : SignalParts) (bytes : List ℕ) → s.repeated ≡ false → record_lines place (record_signals behind (s ∷ [])) bytes ≡ []
no_signal place behind s bytes is = none_with s.repeated place behind s bytes is

with_first : (b : Bool) (place behind : ℕ) (s : SignalParts) (rest : List SignalParts) (bytes : List ℕ)
    → record_lines place (map (further behind) (if b then s ∷ rest else rest)) bytes
    ≡ record_lines place (map (further behind) (if b then s ∷ [] else [])) bytes ++ record_lines place (map (further behind) rest) bytes
unfolding record_lines
with_first true place behind s rest bytes =
    ap (λ (line : List ℕ). line ++ record_lines place (map (further behind) rest) bytes)
    (sym (append-nil (record_line place (further behind s) (state_of (further behind s) (raw_of bytes (further behind s))))))
with_first false place behind s rest bytes = refl

-- the lines of a record from a signal on are those of this one and of the signals behind it
record_from : (place behind : ℕ) (signals : List SignalParts) (bytes : List ℕ) (i : ℕ) (s : SignalParts) → i < length signals → s ≡ get_or signals i s
    → record_lines place (record_signals behind (drop i signals)) bytes
    ≡ record_lines place (record_signals behind (s ∷ [])) bytes ++ record_lines place (record_signals behind (drop (i + 1) signals)) bytes
record_from place behind signals bytes i s less is =
    ap (λ (xs : List SignalParts). record_lines place (record_signals behind xs) bytes)
    (drop_more signals i s less ∙ ap (λ (t : SignalParts). t ∷ drop (i + 1) signals) (sym is))
    ∙ with_first s.repeated place behind s (repeated_signals (drop (i + 1) signals)) bytes

-- one more signal of a record is written
pub one_more_signal : (place behind : ℕ) (signals : List SignalParts) (bytes old new all : List ℕ) (i : ℕ) (s : SignalParts) → i < length signals
    → s ≡ get_or signals i s → new ≡ old ++ record_lines place (record_signals behind (s ∷ [])) bytes
    → old ++ record_lines place (record_signals behind (drop i signals)) bytes ≡ all
    → new ++ record_lines place (record_signals behind (drop (i + 1) signals)) bytes ≡ all
one_more_signal place behind signals bytes old new all i s less here written before =
    let rest : List ℕ = record_lines place (record_signals behind (drop (i + 1) signals)) bytes in
    ap (λ (t : List ℕ). t ++ rest) written ∙ append_assoc old (record_lines place (record_signals behind (s ∷ [])) bytes) rest
    ∙ sym (ap (λ (t : List ℕ). old ++ t) (record_from place behind signals bytes i s less here)) ∙ before

-- one more record is written
pub one_more_record : (lines : ℕ → List ℕ) (old text new : List ℕ) (n : ℕ) → text ≡ old ++ of_records lines n → new ≡ text ++ lines n
    → new ≡ old ++ of_records lines (n + 1)
unfolding of_records
one_more_record lines old text new n before written =
    let next : suc n ≡ n + 1 = omega arith in
    written ∙ ap (λ (t : List ℕ). t ++ lines n) before ∙ append_assoc old (of_records lines n) (lines n) ∙ ap (λ (m : ℕ). old ++ of_records lines m) next

-- what all signals of a record meet, each one that is repeated meets

head_of : (P : SignalParts → Type 0) (n : ℕ) (b : Bool) (s : SignalParts) (rest : List SignalParts) → b ≡ true
    → All P (map (further n) (if b then s ∷ rest else rest)) → P (further n s)
head_of P n true s rest is all = All-head P (further n s) (map (further n) rest) all
head_of P n false s rest is all = absurd (false≢true is)

tail_of : (P : SignalParts → Type 0) (n : ℕ) (b : Bool) (s : SignalParts) (rest : List SignalParts)
    → All P (map (further n) (if b then s ∷ rest else rest)) → All P (map (further n) rest)
tail_of P n true s rest all = All-tail P (further n s) (map (further n) rest) all
tail_of P n false s rest all = all

at_record : (P : SignalParts → Type 0) (n : ℕ) (signals : List SignalParts) (i : ℕ) (s : SignalParts) → i < length signals → s ≡ get_or signals i s
    → All P (record_signals n signals) → s.repeated ≡ true → P (further n s)
at_record P n [] i s less is all repeated = absurd (omega arith)
at_record P n (x ∷ rest) zero s less is all repeated =
    let first : x.repeated ≡ true = ap (λ (t : SignalParts). t.repeated) (sym is) ∙ repeated in
    subst (λ (t : SignalParts). P (further n t)) (sym is) (head_of P n x.repeated x (repeated_signals rest) first all)
at_record P n (x ∷ rest) (suc i) s less is all repeated =
    at_record P n rest i s (omega (arith, less)) is (tail_of P n x.repeated x (repeated_signals rest) all) repeated

-- the signal that is found at a place of a group stands at that of its layout
pub stands_at : (laid signals : List SignalParts) (i : ℕ) (s : SignalParts) → laid ≡ signals → i < length signals → s ≡ get_or signals i s
    → HoldsAt (λ (t : SignalParts). t ≡ s) laid i
stands_at laid signals i s same less is = λ d.
    ap (λ (xs : List SignalParts). get_or xs i d) same
    ∙ get_or_from_slice_get signals i s d (slice_get_read signals (length signals) i s refl less is)

-- and if it is repeated it lies inside the message in each record
pub inside_at : (n behind : ℕ) (laid signals : List SignalParts) (i : ℕ) (s : SignalParts) → laid ≡ signals → i < length signals → s ≡ get_or signals i s
    → All (IsInside n) (record_signals behind signals) → s.repeated ≡ true → HoldsAt (λ (t : SignalParts). IsInside n (further behind t)) laid i
inside_at n behind laid signals i s same less is all repeated = λ d.
    subst (λ (t : SignalParts). IsInside n (further behind t)) (sym (stands_at laid signals i s same less is d))
    (at_record (IsInside n) behind signals i s less is all repeated)
