-- The words that a refusal is named by.
use Rattle.std.specs.Prelude.{ℕ, List, codes}
use Rattle.j39_toml.specs.declared.cause.Cause.{Cause}
use Rattle.j39_toml.specs.declared.cause.Cause.TheVariants as cause

-- how a cause is named
abbrev pub cause_word : Cause → List ℕ
cause_word cause.UnknownKey = codes "UnknownKey"
cause_word cause.Missing = codes "Missing"
cause_word cause.WrongType = codes "WrongType"
cause_word cause.Range = codes "Range"
cause_word cause.TooMany = codes "TooMany"
cause_word cause.Repeated = codes "Repeated"
cause_word cause.UnknownLabel = codes "UnknownLabel"
