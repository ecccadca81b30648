use Rattle.std.proofs.Common.{◌≡◌, ℕ, List, take, arith, ap, ◌∙◌}
use Rattle.std.proofs.KnownBytes.{Consumes-trans}
use Rattle.j39_stream.proofs.StreamSteps.{kept_limits, nothing_more, passed_limit}
use Rattle.j39_stream.specs.Intakes.{Counts}
use Rattle.j39_stream.specs.declared.limits.Limits.{Limits}
use Rattle.j39_stream.proofs.intake.Intake.pull.Goals as goal

pub returns-then-self-count-clause-long : goal.returns-then-self-count-clause-long
returns-then-self-count-clause-long g c _ limits first text read =
    let limit = ap (λ (l : Limits). l.bytes) read.limits_are in
    let now = ap (λ (counts : Counts). counts.limits.bytes) c.self.view_is in
    passed_limit limits first (g.S.Source.state c.args.source.now) (g.S.Source.state c.pull.new.self) text c.pull.new.buffer c.self.inside.bytes c.in-Ok.count
    (omega (arith, c.pull.auto.buffer, c.in-Ok.ensures.count))
    (ap (λ (counts : Counts). counts.bytes) c.self.view_is ∙ read.bytes_are)
    (omega (arith, c.if-self-count.true, limit, now)) read.consumed c.in-Ok.ensures.bytes.0

pub returns-then-self-count-clause-kept : goal.returns-then-self-count-clause-kept
returns-then-self-count-clause-kept g c first text read =
    let bytes : List ℕ = take c.in-Ok.count c.pull.new.buffer in
    (bytes, Consumes-trans _ _ _ text bytes read c.in-Ok.ensures.bytes.0)

pub returns-clause-last : goal.returns-clause-last
returns-clause-last g c limits first text read none =
    let whole = nothing_more _ _ _ text c.pull.new.buffer c.in-Ok.count (omega (arith, none)) read.consumed c.in-Ok.ensures.bytes.0 in
    let same : c.self.inside.calls ≡ c.args.self.now.calls = ap (λ (counts : Counts). counts.calls) c.self.view_is in
    let most = c.self.invariant.1 in
    let within = ap (λ (l : Limits). l.calls) read.limits_are in
    let kept = ap (λ (counts : Counts). counts.limits.calls) c.self.view_is in
    let other = c.if-self.false in (
      whole,
      kept_limits limits first (g.S.Source.state c.pull.new.self) text _ _ whole read.within
          (omega (arith, most, other, within, kept)) read.pulls_are c.in-Ok.ensures.pulls,
    )

pub returns-clause-kept : goal.returns-clause-kept
returns-clause-kept g c first text read =
    let bytes : List ℕ = take c.in-Ok.count c.pull.new.buffer in
    (bytes, Consumes-trans _ _ _ text bytes read c.in-Ok.ensures.bytes.0)
