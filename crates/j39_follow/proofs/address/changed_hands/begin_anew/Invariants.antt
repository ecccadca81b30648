use Rattle.std.proofs.Common.{◌≡◌, ◌<◌, ℕ, None, if◌then◌else◌}
use Rattle.j39_tp.specs.Receiver.{fresh}
use Rattle.j39_tp.specs.declared.receiving.manner.Manner.TheVariants.{Listening}
use Rattle.j39_follow.proofs.Addresses.ChangedHands.{is_changed_below}
use Rattle.j39_follow.specs.inside.Hearing.{kept_between, listener_between}
use Rattle.j39_follow.proofs.address.changed_hands.begin_anew.Given as goal

abbrev pub invariant-loop-address : goal.invariant-loop-address
invariant-loop-address l = (s d : ℕ) → s < 256 → d < 256
    → (listener_between l.pairs s d ≡ (if is_changed_below l.old l.new l.replaced l.address s d then fresh Listening else listener_between l.fn.pairs s d))
    × (kept_between l.pairs s d ≡ (if is_changed_below l.old l.new l.replaced l.address s d then None else kept_between l.fn.pairs s d))
