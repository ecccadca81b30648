use Rattle.j39_timing.proofs.AnyPrefixes.{own_ordered_until}
use Rattle.j39_timing.proofs.Buffering.{own_ordered_in_time}
use Rattle.j39_timing.proofs.PlannedTraffic.{own_in_time}
use Rattle.j39_timing.proofs.Prefixes.{own_begun_until}
use Rattle.j39_timing.proofs.laws.answers_are_in_time.Goals as goal

pub returns : goal.returns
returns c = record {
  in_time = own_in_time;
  beside = λ s controllers traffic others longest planned of legal i wait known positive ordered waits have small own_fits.
      own_ordered_in_time s controllers legal traffic others longest planned of i wait known positive ordered waits have small own_fits;
  until = own_begun_until;
  beside_until = own_ordered_until;
}
