-- The lines of the texts of a group.
use Rattle.std.specs.Prelude.{ℕ, ◌-◌, List, [], ◌∷◌, ◌++◌, take, drop, Option, Some, None, codes}
use Rattle.j39_network.specs.declared.plan.text_plan.TextPlan.{TextPlan}
use Rattle.j39_text.specs.Quotations.{quotation}

-- so many of the bytes, or all of them
abbrev pub bytes_up_to : Option ℕ → List ℕ → List ℕ
bytes_up_to None bytes = bytes
bytes_up_to (Some count) bytes = take count bytes

-- the bytes of a text, those of them that came
unfoldable pub text_bytes : TextPlan → List ℕ → List ℕ
text_bytes t bytes = bytes_up_to t.bytes (drop (t.byte - 1) bytes)

unfoldable pub text_line : TextPlan → List ℕ → List ℕ
text_line t bytes = codes "  " ++ (t.label.bytes ++ (codes " text " ++ (quotation (text_bytes t bytes) ++ 10 ∷ [])))

-- each text in these bytes
unfoldable pub text_lines : List TextPlan → List ℕ → List ℕ
text_lines [] bytes = []
text_lines (t ∷ rest) bytes = text_line t bytes ++ text_lines rest bytes
