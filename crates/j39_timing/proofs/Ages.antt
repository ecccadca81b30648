-- A frame that is queued often enough and sent in time is never old where it is received.
use Rattle.std.proofs.Common.{ℕ, ◌+◌, ◌-◌, ◌<◌, Bool, arith}
use Rattle.j39_timing.specs.TimedFrames.{Schedule}
use Rattle.j39_timing.specs.FrameStreams.{Origins}
use Rattle.j39_timing.specs.Traffic.{IsStreamInTime, delay_of}
use Rattle.j39_timing.specs.declared.stream.Stream.{Stream}
use Rattle.j39_timing.specs.FreshFrames.{KeepsComing, IsFresh}

pub fresh : (s : Schedule) (planned : ℕ → Bool) (of : Origins) (i : ℕ) (stream : Stream) (wait pause from to : ℕ) → IsStreamInTime s planned of i stream wait
    → KeepsComing s planned of i pause from to → to + (stream.jitter + wait) < s.now
    → IsFresh s planned of i (pause + delay_of stream wait) (from + delay_of stream wait) (to + delay_of stream wait)
fresh s planned of i stream wait pause from to in_time coming seen t low high =
    let (p, in_p, is, source, before, near) = coming (t - delay_of stream wait) (omega arith) (omega arith) in
    let (begun, ended) = in_time p in_p is source (omega arith) in
    (p, in_p, is, source, omega arith, omega arith)
