use Rattle.std.proofs.Common.{◌≡◌, [], drop, take}
use Rattle.j39_id.specs.FirstFault.{first_fault}
use Rattle.j39_signal.specs.Places.{LaysOut}
use Rattle.j39_signal.specs.Refusals.{faults_behind}
use Rattle.j39_signal.proofs.layout.Layout.new.Given as goal

abbrev pub invariant-loop-i : goal.invariant-loop-i
invariant-loop-i l =
    LaysOut l.length (take l.i l.signals)
    × (first_fault (faults_behind l.length [] l.signals) ≡ first_fault (faults_behind l.length (take l.i l.signals) (drop l.i l.signals)))
