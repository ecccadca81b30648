use Rattle.std.proofs.Common.{arith, map, min, ◌≡◌, ◌+◌, ◌*◌, ◌-◌, ◌^◌, ap, ℕ, ◌∙◌}
use Rattle.std.specs.Int.{div_ceil}
use Rattle.j39_timing.specs.Waits.{as_demand}
use Rattle.j39_timing.proofs.LeastShares.{allowed, never}
use Rattle.j39_timing.proofs.waiting.first_allowed.Goals as goal

pub returns-then-parts-ge4294967296 : goal.returns-then-parts-ge4294967296
returns-then-parts-ge4294967296 c =
    never (map as_demand c.args.all.now) c.args.blocking c.args.wait c.args.streams.now c.stretch_of_all-stretch.result c.stretch_of_all-stretch.ensures.below
    c.if-parts-ge4294967296.true

pub returns : goal.returns
returns c =
    let parts : ℕ = c.stretch_of_all-stretch.result.line.part in
    let bits : ℕ = c.from-2.result * 2 ^ 32 + c.from-3.result in
    let bits_are : bits ≡ (c.args.blocking + c.stretch_of_all-stretch.result.line.known) * 2 ^ 32 + parts =
    omega (arith, c.from.ensures, c.from-2.ensures, c.from-3.ensures) in
    let first : c.min.result ≡ min (div_ceil bits (2 ^ 32 - parts)) c.stretch_of_all-stretch.result.until =
    c.min.ensures ∙ ap (λ (n : ℕ). min n c.stretch_of_all-stretch.result.until) (c.div_ceil-allowed.ensures ∙ ap (λ (n : ℕ). div_ceil bits n) c.from-4.ensures) in
    rw first (allowed (map as_demand c.args.all.now) c.args.blocking c.args.wait c.args.streams.now c.stretch_of_all-stretch.result c.stretch_of_all-stretch.ensures.below
    bits (omega (arith, c.if-parts-ge4294967296.false)) bits_are)
