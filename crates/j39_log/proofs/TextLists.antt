-- The lines of texts, one after another.
use Rattle.std.proofs.Common.{◌≡◌, ℕ, ◌+◌, ◌<◌, List, ◌++◌, length, drop, get_or, refl}
use Rattle.std.proofs.lemmas.List.{drop_more}
use Rattle.j39_network.specs.declared.plan.text_plan.TextPlan.{TextPlan}
use Rattle.j39_log.specs.TextLines.{text_line, text_lines}

-- the lines from a text on are its own and those of the texts behind it
pub lines_from : (texts : List TextPlan) (bytes : List ℕ) (i : ℕ) (d : TextPlan) → i < length texts
    → text_lines (drop i texts) bytes ≡ text_line (get_or texts i d) bytes ++ text_lines (drop (i + 1) texts) bytes
unfolding text_lines
lines_from texts bytes i d more = let next = drop_more texts i d more in rw next refl
