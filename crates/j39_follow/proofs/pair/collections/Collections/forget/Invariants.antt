use Rattle.std.proofs.Common.{◌≡◌, ◌<◌, ◌==◌, ◌&&◌, ◌||◌, ℕ, None, nat_lt, if◌then◌else◌}
use Rattle.j39_follow.specs.inside.Collecting.{collected_between}
use Rattle.j39_follow.proofs.pair.collections.Collections.forget.Given as goal

abbrev pub invariant-loop-other : goal.invariant-loop-other
invariant-loop-other l = (s d : ℕ) → s < 256 → d < 256 → collected_between l.self s d
    ≡ (if (l.address == s && nat_lt d l.other) || (l.address == d && nat_lt s l.other) then None
    else collected_between l.fn.self s d)
