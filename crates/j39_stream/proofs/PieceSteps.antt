-- A piece of an input, line after line: what is used of it, and what is left.
use Rattle.std.proofs.Common.{◌≡◌, ◌+◌, ◌-◌, ◌≤◌, List, ℕ, [], ◌++◌, length, Bor, Option, Some, None, take, drop, sym, ap, ◌∙◌, arith, append_assoc}
use Rattle.std.specs.Prelude.{unwrap_or}
use Rattle.std.specs.Option.{option_copied}
use Rattle.std.proofs.lemmas.List.{length-append, length-drop, length-take-le, take-append-drop, take_rest}
use Rattle.j39_id.specs.Lines.{Line, Pending, behind_all, yielded}
use Rattle.j39_id.proofs.CutLines.{behind_all-append, yielded-append}
use Rattle.j39_stream.specs.Intakes.{Counts, HasRead, no_counts}
use Rattle.j39_stream.specs.Streams.{SourceState}
use Rattle.j39_stream.specs.declared.limits.Limits.{Limits}
use Rattle.j39_stream.proofs.Parts.{none_read}

-- where nothing is counted nothing was read
pub nothing_counted : (most : Limits) (state : SourceState) (counts : Counts) → counts ≡ no_counts most → HasRead most state state counts []
nothing_counted most state counts none =
    let bytes = ap (λ (c : Counts). c.bytes) none in
    let calls = ap (λ (c : Counts). c.calls) none in
    record {
      limits_are = ap (λ (c : Counts). c.limits) none;
      consumed = none_read state.left;
      bytes_are = bytes;
      within = omega arith;
      calls_gave = omega (arith, calls);
      pulls_are = omega (arith, calls);
    }

-- the line that is read: that which the cutter gives, or the one that it holds
pub line_read : (whole : Option (Bor (List ℕ))) (line given : Bor (List ℕ)) (held : List ℕ) → line.now ≡ held → given ≡ unwrap_or whole line
    → unwrap_or (option_copied whole) held ≡ given.now
line_read None line given held is gave = sym is ∙ sym (ap (λ (l : Bor (List ℕ)). l.now) gave)
line_read (Some w) line given held is gave = sym (ap (λ (l : Bor (List ℕ)). l.now) gave)

-- n bytes more are used
pub length_used : (used rest : List ℕ) (n : ℕ) → n ≤ length rest → length (used ++ take n rest) ≡ length used + n
length_used used rest n within = length-append used (take n rest) ∙ ap (λ (m : ℕ). length used + m) (length-take-le n rest within)

pub length_left : (rest : List ℕ) (n : ℕ) → length (take (length rest - n) (drop n rest)) ≡ length rest - n
length_left rest n = ap length (take_rest rest n) ∙ length-drop n rest

pub parts_of_piece : (piece used rest : List ℕ) (n : ℕ) → piece ≡ used ++ rest → piece ≡ (used ++ take n rest) ++ take (length rest - n) (drop n rest)
parts_of_piece piece used rest n parts =
    parts ∙ ap (λ (t : List ℕ). used ++ t) (sym (take-append-drop n rest)) ∙ sym (append_assoc used (take n rest) (drop n rest))
    ∙ ap (λ (t : List ℕ). (used ++ take n rest) ++ t) (sym (take_rest rest n))

-- the line that a cutter is in behind a part and what was before it
pub pending_behind : (p q r : Pending) (used part : List ℕ) → q ≡ behind_all p used → r ≡ behind_all q part → r ≡ behind_all p (used ++ part)
pending_behind p q r used part before is = is ∙ ap (λ (o : Pending). behind_all o part) before ∙ sym (behind_all-append p used part)

-- what it yields of both
pub yielded_behind : (p q : Pending) (used part : List ℕ) → q ≡ behind_all p used → yielded p used ++ yielded q part ≡ yielded p (used ++ part)
yielded_behind p q used part before = ap (λ (o : Pending). yielded p used ++ yielded o part) before ∙ sym (yielded-append p used part)

-- and of a part of which it yields one line at most, behind lines that were there
pub line_behind : (p q : Pending) (used part : List ℕ) (one : List Line) (first : List Line) → q ≡ behind_all p used → yielded q part ≡ one
    → (first ++ yielded p used) ++ one ≡ first ++ yielded p (used ++ part)
line_behind p q used part one first before is =
    append_assoc first (yielded p used) one
    ∙ ap (λ (u : List Line). first ++ u) (ap (λ (u : List Line). yielded p used ++ u) (sym is) ∙ yielded_behind p q used part before)
