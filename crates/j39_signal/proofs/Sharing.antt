-- Two signals share a bit exactly where the later of their starts is below the earlier of their ends.
use Rattle.std.proofs.Common.{◌≡◌, true, max, ◌↔◌, arith}
use Rattle.std.specs.Prelude.{IsTrue}
use Rattle.j39_signal.specs.declared.signal_parts.SignalParts.{SignalParts}
use Rattle.j39_signal.specs.Places.{SharesBit, shares_bit}
use Rattle.std.proofs.lemmas.Bool.{ltb-true, lt-ltb}

pub shared_by_true : (s t : SignalParts) → shares_bit s t ≡ true → SharesBit s t
shared_by_true s t test =
    let below = ltb-true _ _ test in
    (max s.start t.start, (omega arith, omega arith), (omega arith, omega arith))

true_by_shared : (s t : SignalParts) → SharesBit s t → shares_bit s t ≡ true
true_by_shared s t (j, of_s, of_t) = lt-ltb _ _ (omega arith)

pub shared_by_test : (s t : SignalParts) → IsTrue (shares_bit s t) ↔ SharesBit s t
shared_by_test s t = (shared_by_true s t, true_by_shared s t)
