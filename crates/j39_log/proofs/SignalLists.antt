-- The lines of signals that aren't repeated and are there, one after another.
use Rattle.std.proofs.Common.{◌≡◌, ℕ, ◌+◌, ◌<◌, Bool, true, false, if◌then◌else◌, List, [], ◌∷◌, ◌++◌, length, drop, get_or, refl, ap, ◌∙◌, append_assoc}
use Rattle.std.proofs.lemmas.List.{drop_more}
use Rattle.j39_signal.specs.Bits.{raw_of}
use Rattle.j39_signal.specs.declared.signal_parts.SignalParts.{SignalParts}
use Rattle.j39_signal.specs.State.{state_of}
use Rattle.j39_network.specs.Records.{single_signals, stands_once}
use Rattle.j39_log.specs.LogReports.{signal_line, signal_lines}

abbrev read_line : List ℕ → SignalParts → List ℕ
read_line bytes s = signal_line s (state_of s (raw_of bytes s))

-- what is written for a signal, which stands once in the message or doesn't
abbrev pub lines_of : Bool → List ℕ → List ℕ
lines_of stands line = if stands then line else []

with_first : (b : Bool) (s : SignalParts) (rest : List SignalParts) (bytes : List ℕ)
    → signal_lines (if b then s ∷ rest else rest) bytes ≡ lines_of b (read_line bytes s) ++ signal_lines rest bytes
unfolding signal_lines
with_first true s rest bytes = refl
with_first false s rest bytes = refl

-- the lines from a signal on are its own and those of the signals behind it
lines_from : (n : ℕ) (signals : List SignalParts) (bytes : List ℕ) (i : ℕ) (d : SignalParts) → i < length signals
    → signal_lines (single_signals n (drop i signals)) bytes
    ≡ lines_of (stands_once n (get_or signals i d)) (read_line bytes (get_or signals i d)) ++ signal_lines (single_signals n (drop (i + 1) signals)) bytes
lines_from n signals bytes i d more =
    ap (λ (xs : List SignalParts). signal_lines (single_signals n xs) bytes) (drop_more signals i d more)
    ∙ with_first (stands_once n (get_or signals i d)) (get_or signals i d) (single_signals n (drop (i + 1) signals)) bytes

-- one more signal is written
pub one_more_line : (signals : List SignalParts) (bytes old new all : List ℕ) (i : ℕ) (s : SignalParts) → i < length signals
    → s ≡ get_or signals i s → new ≡ old ++ lines_of (stands_once (length bytes) s) (read_line bytes s)
    → old ++ signal_lines (single_signals (length bytes) (drop i signals)) bytes ≡ all
    → new ++ signal_lines (single_signals (length bytes) (drop (i + 1) signals)) bytes ≡ all
one_more_line signals bytes old new all i s less here written before =
    let n : ℕ = length bytes in
    let next : signal_lines (single_signals n (drop i signals)) bytes
    ≡ lines_of (stands_once n s) (read_line bytes s) ++ signal_lines (single_signals n (drop (i + 1) signals)) bytes =
    rw (← here) at (lines_from n signals bytes i s less) in
    rw (written, append_assoc) (rw next at before)
