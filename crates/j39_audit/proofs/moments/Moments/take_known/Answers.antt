use Rattle.std.proofs.Common.{ℕ, Option, length, subst}
use Rattle.j39_audit.specs.Moments.{Moments, listed_pauses_ended, with_counted, with_deviating, with_ending, with_moment, with_stream}
use Rattle.j39_audit.specs.MessageStreams.{sighted_stream}
use Rattle.j39_audit.specs.declared.streams.MessageStream.{MessageStream}
use Rattle.j39_audit.specs.inside.Recalling.{RecallsMoments, settings_of}
use Rattle.j39_audit.proofs.moments.Moments.take_known.Goals as goal

pub returns-clause-moments : goal.returns-clause-moments
returns-clause-moments c = λ m recalls.
    let s = settings_of c.args.basis.now in
    let t = c.args.timing in
    let seen = c.args.seen in
    let w = seen.sighting in
    let new = c.take_counted.new.self in
    let ended : ℕ → Moments = λ n. with_deviating s w.deviating w.unit (listed_pauses_ended s t seen.unclear.now (length seen.unclear.now)
    (with_ending s t seen.ending (with_moment s t c.args.gap n c.args.time m))) in
    let next : Option MessageStream → ℕ → Moments = λ o n. with_counted s w.unit c.args.line (with_stream s c.args.time c.args.line w.besides o (ended n)) in
    subst (λ (n : ℕ). RecallsMoments new (next (sighted_stream s t c.args.frame.now w.flow w.request) n)) c.len.ensures.value
    (subst (λ (o : Option MessageStream). RecallsMoments new (next o c.len.result)) c.sighted_stream-stream.ensures.value
    (c.take_counted.ensures.moments _ (c.in_ok-take_stream.ensures.moments (ended c.len.result)
    (c.end_deviating.ensures.moments _ (c.in_ok-end_pauses.ensures.moments _ (c.take_time.ensures.moments m recalls))))))
