-- The interface of a line, by what stands before its last word.
use Rattle.std.proofs.Common.{ℕ, List, Option, Some, None, refl, sym, subst}
use Rattle.std.specs.Prelude.{IfNone}
use Rattle.j39_id.specs.FrameLine.{IsLastWord, SplitsLast}
use Rattle.j39_follow.specs.LogLines.{IsInterface, IsTime}
use Rattle.j39_follow.proofs.Lines.Splitting.{one_split}

pub if_none_then : {A P Q : Type 0} (r : Option A) → (P → Q) → IfNone r P → IfNone r Q
if_none_then None then p = then p
if_none_then (Some x) then p = tt

pub named_before : (part front word interface : List ℕ) → SplitsLast part front word → IsLastWord front interface × ¬ IsTime interface
    → IsInterface part interface
named_before part front word interface s is = record {
  word = word;
  last = s.0;
  before = subst (λ (f : List ℕ). IsLastWord f interface) (sym s.1) is.0;
  other = is.1;
}

pub unnamed_before : (part front word : List ℕ) → SplitsLast part front word
    → ((interface : List ℕ) → IsLastWord front interface → IsTime interface) → (interface : List ℕ) → ¬ IsInterface part interface
unnamed_before part front word s none interface is =
    let same = one_split part is.last.front is.word front word (is.last, refl) s in
    is.other (none interface (subst (λ (f : List ℕ). IsLastWord f interface) same.0 is.before))
