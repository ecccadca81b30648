use Rattle.j39_vehicle_laws.proofs.PlainForwards.{copies_have_records, inputs_are_named, shared_queues_keep_order, signals_mean_the_same, sources_are_one}
use Rattle.j39_vehicle_laws.proofs.forwards_are_as_named.Goals as goal

pub returns : goal.returns
returns c = record {
  inputs = inputs_are_named;
  records = copies_have_records;
  meanings = signals_mean_the_same;
  sources = sources_are_one;
  queues = shared_queues_keep_order;
}
