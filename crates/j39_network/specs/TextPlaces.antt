-- Where the texts of a group lie, in bytes counted from 1.
use Rattle.std.specs.Prelude.{◌≡◌, ℕ, ◌+◌, ◌-◌, [], All}
use Rattle.std.specs.Option.{option_map_or}
use Rattle.j39_network.specs.declared.plan.Plan.{Plan}
use Rattle.j39_network.specs.declared.plan.text_plan.TextPlan.{TextPlan}

-- the last byte of a text; of one that goes to the end of the message its first
abbrev pub last_byte : TextPlan → ℕ
last_byte text = option_map_or (λ count. text.byte + count - 1) text.bytes text.byte

abbrev pub HasNoTexts : Plan → Type 0
HasNoTexts plan = All (λ group. group.texts.items ≡ []) plan.groups.items
