use Rattle.j39_timing.proofs.Buffering.{legal_after_buffering, ordered_as_ready, ordered_behind, ordered_in_time}
use Rattle.j39_timing.proofs.laws.frames_beside_any_order_are_in_time.Goals as goal

pub returns : goal.returns
returns c = record {
  legal = legal_after_buffering;
  ready = ordered_as_ready;
  in_time = λ s controllers traffic others longest planned of legal i wait known positive ordered waits have demand_fits single fits.
      ordered_in_time s controllers legal traffic others longest planned of i wait known positive ordered waits have demand_fits single fits;
  sent = λ s controllers traffic others longest planned of legal i wait known positive ordered waits have demand_fits alone behind steady.
      ordered_behind s controllers legal traffic others longest planned of i wait known positive ordered waits have demand_fits alone behind steady;
}
