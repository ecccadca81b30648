-- How old a value is where it is received.
use Rattle.std.proofs.Common.{ℕ, ◌-◌, ◌*◌, ◌≤◌, length, subst, arith}
use Rattle.std.specs.Int.{div_ceil}
use Rattle.j39_vehicle.specs.declared.vehicle.Vehicle.{Vehicle}
use Rattle.j39_vehicle_times.specs.declared.bus_delays.Delays.{Delays}
use Rattle.j39_vehicle_times.specs.Times.{behind_at, old, interval, interval_us, sum_known}
use Rattle.j39_vehicle_times.proofs.DecidingTimes.{map_some}
use Rattle.j39_vehicle_laws.specs.YoungValues.{AreAgesBounds, itself}
use Rattle.j39_vehicle_laws.proofs.Behind.{is_behind}
use Rattle.j39_vehicle_laws.proofs.Brought.{reads_as_brought}
use Rattle.j39_vehicle_laws.proofs.Old.{old_at_most}
use Rattle.j39_vehicle_laws.proofs.Order.{in_order}
use Rattle.j39_vehicle_laws.proofs.Parts.{sum_some}
use Rattle.j39_vehicle_laws.proofs.TrueTimes.{in_us}
use Rattle.j39_vehicle_laws.specs.Seen.{of_us}
use Rattle.j39_vehicle_laws.proofs.Interval.{keeps_on}

pub brought_young : (v : Vehicle) (delays : Delays) → AreAgesBounds v delays
brought_young v delays none stated seen p most from t known room is has pauses =
    let (old_p, rest, of_old, of_rest, sum) = sum_some (old v delays p) (sum_known (interval_us v p.at) (behind_at v delays p.at)) most known in
    let (pause, time, of_pause, of_time, more) = sum_some (interval_us v p.at) (behind_at v delays p.at) rest of_rest in
    let (ns, ns_is, made) = map_some (λ (ns : ℕ). div_ceil ns 1000) (interval v p.at) pause of_pause in
    let enough : 1000 * ns ≤ of_us pause = subst (λ (us : ℕ). 1000 * ns ≤ of_us us) made (in_us ns) in
    let keeps = keeps_on v delays stated seen t is p has from pauses p itself (length v.forwards.items) ns ns_is (length v.forwards.items) time of_time in
    let ends = is_behind v delays stated seen t is (length v.forwards.items) p.at (has p itself) time of_time in
    let (q, its, before, near) = keeps (t - of_us time) (omega arith) (omega arith) in
    let begun = ends.begun q its (omega arith) in
    let ended = ends.ended q begun in
    record {
      frame = q;
      begun = begun;
      ended = omega arith;
      newest = λ r it later over.
          let order = in_order v delays seen t is p.at time ends q r its it later in
          let (born, says, so, past, whence) = old_at_most v delays none stated seen t is p has from pauses (length v.forwards.items) p old_p itself of_old
          (length v.forwards.items) time of_time r it over (omega arith) in
          record {
            born = born;
            says = says;
            past = omega arith;
            young = omega arith;
            from = whence;
            unaltered = reads_as_brought v none seen p r whence.origin whence.first whence.brings;
          };
    }
