use Rattle.std.proofs.Common.{◌++◌, suc, ◌+◌, ◌≡◌, ℕ, [], ◌∷◌, List, get_or, take, None, sym, ap, ◌∙◌, append_assoc, arith}
use Rattle.std.proofs.Math.Seq.{take-suc}
use Rattle.std.proofs.lemmas.List.Elements.{filter_map-append}
use Rattle.std.specs.List.{cons_option, filter_map}
use Rattle.j39_load.specs.AnyQueues.{stream_with}
use Rattle.j39_load.specs.Damage.{damage_streams}
use Rattle.j39_timing.specs.declared.stream.Stream.{Stream}
use Rattle.j39_load.proofs.queues.queue_groups.streams_with.Goals as goal

pub loop-sent-preserved : goal.loop-sent-preserved
loop-sent-preserved c =
    let report = stream_with c.args.leasts.now c.args.own.now c.args.level in
    let damage = damage_streams c.args.timing in
    let all = c.args.all.now in
    let k = c.loop-sent.sent-index in
    let next : k + 1 ≡ suc k = omega arith in
    let more = ap (λ (n : ℕ). filter_map report (take n all)) next ∙ ap (filter_map report) (take-suc all k None c.loop-sent-test.true)
    ∙ filter_map-append report (take k all) (get_or all k None ∷ []) in
    record {
      streams = c.in_ok-add_with.ensures.streams
          ∙ ap (λ (xs : List Stream). xs ++ cons_option (report (get_or all k None)) []) c.loop-sent.invariant.streams
          ∙ append_assoc damage (filter_map report (take k all)) (cons_option (report (get_or all k None)) [])
          ∙ ap (λ (xs : List Stream). damage ++ xs) (sym more);
      few = omega (arith, c.loop-sent.invariant.few, c.in_ok-add_with.ensures.few);
      fit = c.in_ok-add_with.ensures.fit;
    }
