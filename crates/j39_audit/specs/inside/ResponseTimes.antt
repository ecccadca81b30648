-- How long response times are at most.
use Rattle.std.specs.Prelude.{ℕ, ◌<◌, ◌^◌, IfSome, Option}

-- a sum of some of them fits
abbrev pub IsResponse : Option ℕ → Type 0
IsResponse response = IfSome response (λ us. us < 2 ^ 41)
