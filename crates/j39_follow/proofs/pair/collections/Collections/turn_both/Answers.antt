use Rattle.j39_log.proofs.Outcomes.{both_ok}
use Rattle.j39_follow.proofs.Pairs.Ways.{led_at_both, led_at_one}
use Rattle.j39_follow.proofs.pair.collections.Collections.turn_both.Goals as goal

pub returns-then-back-there : goal.returns-then-back-there
returns-then-back-there c =
    led_at_one c.args.self.now c.turn.new.self c.args.packet.now c.args.there c.args.back c.if-back-there.true
    c.in_ok-turn.ensures.one c.in_ok-turn.ensures.others

pub returns : goal.returns
returns c =
    both_ok c.turn-2.result _ _ _ c.turn-2.ensures.one c.turn-2.ensures.others
    (λ second rest. led_at_both c.args.self.now c.turn.new.self c.turn-2.new.self c.args.packet.now c.args.there c.args.back c.if-back-there.false
    c.in_ok-turn.ensures.one c.in_ok-turn.ensures.others second rest)
