-- The first line of a report in two parts: one that all reports of a group have, and the rest.
use Rattle.std.specs.Prelude.{ℕ, ◌++◌, ◌∷◌, [], List, codes, decimal}
use Rattle.hex.specs.Hex.{encode_upper}
use Rattle.j39_id.specs.declared.ident.Ident.{Ident}
use Rattle.j39_network.specs.declared.plan.group_plan.GroupPlan.{GroupPlan}
use Rattle.j39_text.specs.FrameText.{destination_text}

-- up to the address that it comes from
abbrev pub report_head : GroupPlan → List ℕ
report_head group = codes "group " ++ (group.label.bytes ++ codes " from ")

-- that address, to whom it went, and its bytes
unfoldable pub behind_head : Ident → List ℕ → List ℕ
behind_head i bytes = decimal i.sa ++ (codes " to " ++ (destination_text i ++ (codes " bytes " ++ (encode_upper bytes ++ 10 ∷ []))))
