use Rattle.std.proofs.Common.{◌≡◌, ◌<◌, ◌++◌, ℕ, List, take, sym, ◌∙◌, subst, arith, rules}
use Rattle.std.specs.Prelude.{IsErrOf}
use Rattle.j39_stream.specs.Intakes.{HasRead}
use Rattle.j39_stream.specs.declared.fault.Fault.TheVariants.{TooLong}
use Rattle.j39_stream.specs.Streams.{plan_limits}
use Rattle.j39_stream.proofs.loading.read_whole.Goals as goal

pub returns-in_err-count-clause-long : goal.returns-in_err-count-clause-long
returns-in_err-count-clause-long g c err =
    let long : IsErrOf c.pull.result TooLong = search rules in
    c.pull.ensures.long long plan_limits _ c.loop-input.input.items c.loop-input.invariant.0

pub returns-then-count-eq0-clause-limits : goal.returns-then-count-eq0-clause-limits
returns-then-count-eq0-clause-limits g c =
    (c.in_ok-count.ensures.last plan_limits (g.S.Source.state c.args.source.now) c.loop-input.input.items
    c.loop-input.invariant.0 c.if-count-eq0.true).1

pub loop-input-preserved : goal.loop-input-preserved
loop-input-preserved g c =
    let some : 0 < c.in_ok-count.count = omega arith in
    let text : List ℕ = c.loop-input.input.items ++ take c.in_ok-count.count c.pull.new.piece in
    let read = c.in_ok-count.ensures.more plan_limits (g.S.Source.state c.args.source.now) c.loop-input.input.items
    c.loop-input.invariant.0 some in
    let kept : c.extend_from_slice.new.self.items ≡ text = search rules in (
      subst (λ (bytes : List ℕ). HasRead plan_limits (g.S.Source.state c.args.source.now) (g.S.Source.state c.pull.new.source) c.pull.new.self bytes)
          (sym kept) read,
      c.in_ok-count.ensures.calm (λ e. cc e) ∙ c.loop-input.invariant.1,
    )
