-- Values arrive over gateways that pass them on: where a signal reads a value at the origin, it reads it where the way ends, too.
use Rattle.std.specs.Prelude.{◌≡◌, ℕ, ℤ, true, Some}
use Rattle.j39_signal.specs.declared.signal_parts.SignalParts.{SignalParts}
use Rattle.j39_signal.specs.declared.state.State.TheVariants.{Value}
use Rattle.j39_vehicle.specs.declared.vehicle.Vehicle.{Vehicle}
use Rattle.j39_vehicle.specs.declared.vehicle.forward.Forward.{Forward}
use Rattle.j39_vehicle_findings.specs.Traces.{goes_on, next_forward}
use Rattle.j39_vehicle_findings.specs.declared.point.Point.{Point}
use Rattle.j39_vehicle_times.specs.Times.{forward_at}
use Rattle.j39_vehicle_laws.specs.Carrying.{AreAllExact, signal_at}
use Rattle.j39_vehicle_laws.specs.Faithful.{PassesValues}
use Rattle.j39_vehicle_laws.specs.HandedOn.{AreOneValue}
use Rattle.j39_vehicle_laws.specs.Reading.{reading}
use Rattle.j39_vehicle_laws.specs.Seen.{SeenBuses}
use Rattle.j39_vehicle_laws.specs.YoungValues.{IsBroughtFrom, IsOnTheWay}

-- each gateway on the way to the point passes values on, of each message that one of its own carries
abbrev pub PassValuesOn : Vehicle → SeenBuses → Point → Type 0
PassValuesOn v seen p = (q x : Point) (n : ℕ) (forward : Forward) (frame carried : ℕ) → IsOnTheWay v p q → next_forward v q ≡ Some n
    → forward_at v n ≡ Some forward → goes_on v q n ≡ Some x → (seen q.at.bus).carries n frame carried ≡ true
    → PassesValues v forward ((seen x.at.bus).bytes carried) ((seen q.at.bus).bytes frame)

-- where the signal at the origin reads a value in the frame that is brought, that of the point reads it in the frame that brings it
abbrev pub Arrives : (v : Vehicle) (seen : SeenBuses) (p : Point) (frame born : ℕ) → IsBroughtFrom v seen p frame born → Type 0
Arrives v seen p frame born brought = (s t : SignalParts) (a : ℤ) → signal_at v brought.origin ≡ Some s → signal_at v p ≡ Some t
    → reading s ((seen brought.origin.at.bus).bytes brought.first) ≡ Value a
    → (b : ℤ) × (reading t ((seen p.at.bus).bytes frame) ≡ Value b) × AreOneValue s a t b

-- so it is of all that is brought, where all on the way is copied or exact
abbrev pub DoValuesArrive : Vehicle → Type 0
DoValuesArrive v = (seen : SeenBuses) (p : Point) (frame born : ℕ) (brought : IsBroughtFrom v seen p frame born) → PassValuesOn v seen p → AreAllExact v p
    → Arrives v seen p frame born brought
