-- What a plan without the keys of version 3 makes of a log: the groups and the texts of values that versions 1 and 2 have.
use Rattle.std.specs.Prelude.{◌≡◌, ℕ, ◌⊎◌, ◌==◌, ◌&&◌, ℤ, Bool, false, List, [], ◌++◌, length, All, None, codes}
use Rattle.std.specs.Fmt.{signed_decimal}
use Rattle.std.specs.List.{position}
use Rattle.j39_id.specs.declared.ident.Ident.{Ident}
use Rattle.j39_signal.specs.declared.signal_parts.SignalParts.{SignalParts}
use Rattle.j39_signal.specs.declared.kind.Kind.{Kind}
use Rattle.j39_signal.specs.declared.kind.Kind.TheVariants.{Measured, Discrete, Raw}
use Rattle.j39_signal.specs.declared.state.State.TheVariants.{Value}
use Rattle.j39_network.specs.Lengths.{HasOneLengthEach}
use Rattle.j39_network.specs.PrivateGroups.{HasNoPrivate}
use Rattle.j39_network.specs.PlannedGroups.{HasNoSelectors}
use Rattle.j39_network.specs.declared.plan.Plan.{Plan}
use Rattle.j39_network.specs.declared.plan.group_plan.GroupPlan.{GroupPlan}
use Rattle.j39_log.specs.LogFrames.{planned}
use Rattle.j39_log.specs.LogReports.{group_line, group_report, signal_lines, signal_state_text, signal_unit_text}
use Rattle.j39_text.specs.Texts.{field_text}

-- the group has this number and so many bytes
abbrev pub has_number_and_length : ℕ → ℕ → GroupPlan → Bool
has_number_and_length pgn bytes group = group.pgn == pgn && group.length == bytes

-- where no group is private or distinguished by its data and each has one length, that of a frame or message is the first of its number and length
abbrev pub GroupsAreFoundByNumber : Type 0
GroupsAreFoundByNumber = (plan : Plan) (pgn : ℕ) (bytes : List ℕ) → HasNoPrivate plan → HasNoSelectors plan → HasOneLengthEach plan
    → planned plan pgn bytes ≡ position (has_number_and_length pgn (length bytes)) plan.groups.items

abbrev pub IsOlderKind : Kind → Type 0
IsOlderKind kind = (kind ≡ Measured) ⊎ (kind ≡ Discrete) ⊎ (kind ≡ Raw)

-- a value of an older kind that isn't divided is shown as a whole number, with its unit
abbrev pub ValuesAreShownWhole : Type 0
ValuesAreShownWhole = (s : SignalParts) (v : ℤ) → IsOlderKind s.kind → s.per ≡ 1
    → signal_state_text s (Value v) ≡ field_text (codes " value ") (signed_decimal v) ++ signal_unit_text s.unit.bytes

-- a group without records, texts and optional signals is reported by its signals alone
abbrev pub SignalsAlone : Type 0
SignalsAlone =
    (group : GroupPlan) (i : Ident) (bytes : List ℕ) → group.every ≡ None → group.texts.items ≡ [] → All (λ s. s.optional ≡ false) group.signals.items
    → group_report group i bytes ≡ group_line group i bytes ++ signal_lines group.signals.items bytes
