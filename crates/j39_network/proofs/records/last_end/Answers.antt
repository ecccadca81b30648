use Rattle.std.proofs.Common.{◌≡◌, ℕ, ◌+◌, ◌<◌, max, List, length, get_or, drop, refl, ◌≤◌, arith}
use Rattle.std.proofs.lemmas.List.{drop_all, drop_more}
use Rattle.j39_signal.specs.declared.signal_parts.SignalParts.{SignalParts}
use Rattle.j39_network.specs.Records.{last_end, repeated_end}
use Rattle.j39_network.proofs.records.last_end.Goals as goal

end_more : (signals : List SignalParts) (i : ℕ) (s : SignalParts) → i < length signals → s ≡ get_or signals i s
    → last_end (drop i signals) ≡ max (repeated_end s) (last_end (drop (i + 1) signals))
unfolding last_end
end_more signals i s less is = let next = drop_more signals i s less in rw (next, ← is) refl

end_all : (signals : List SignalParts) (i : ℕ) → length signals ≤ i → last_end (drop i signals) ≡ 0
unfolding last_end
end_all signals i over = let done = drop_all i signals over in rw done refl

pub loop-signal-preserved : goal.loop-signal-preserved
loop-signal-preserved c =
    let s = c.signal-item.result in
    let next = end_more c.args.signals.now c.loop-signal.signal-index s c.loop-signal-test.true c.signal-item.is in
    (omega (arith, next, c.loop-signal.invariant.0, c.repeated_end.ensures.value), omega (arith, c.loop-signal.invariant.1, c.repeated_end.ensures.most))

pub returns-clause-value : goal.returns-clause-value
returns-clause-value c =
    let done = end_all c.args.signals.now c.loop-signal.signal-index c.loop-signal-test.false in
    omega (arith, done, c.loop-signal.invariant.0)
