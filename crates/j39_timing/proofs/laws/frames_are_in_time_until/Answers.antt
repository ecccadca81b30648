use Rattle.j39_timing.proofs.AnyPrefixes.{queue_group_begun_until, ordered_begun_until}
use Rattle.j39_timing.proofs.Prefixes.{begun_until}
use Rattle.j39_timing.proofs.laws.frames_are_in_time_until.Goals as goal

pub returns : goal.returns
returns c = record { until = begun_until; queue_group = queue_group_begun_until; beside = ordered_begun_until }
