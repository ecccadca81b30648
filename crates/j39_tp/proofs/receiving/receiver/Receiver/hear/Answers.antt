use Rattle.std.proofs.Common.{refl, ap, ◌∙◌}
use Rattle.j39_tp.proofs.Holding.{still_standing, both_hold, first_holds, second_holds, same_receiving}
use Rattle.j39_tp.specs.declared.receiving.heard.Heard.{Heard}
use Rattle.j39_tp.specs.declared.receiving.progress.Progress.{Progress}
use Rattle.j39_tp.proofs.receiving.receiver.Receiver.hear.Goals as goal

pub invariant_of-self : goal.invariant_of-self
invariant_of-self c =
    let old = c.self.inside in
    let stands = still_standing old.manner old.progress c.args.packet.now old.bytes.items
    (first_holds _ _ c.self.invariant) (second_holds _ _ c.self.invariant) c.known_ranges.ensures in
    rw (c.settle.ensures, c.hold.ensures) (both_hold _ _ c.hear-progress.ensures.within (rw c.hear-progress.ensures.result stands))

pub returns-clause-after : goal.returns-clause-after
returns-clause-after c =
    let progress = ap (λ (r : Progress × Heard). r.0) c.hear-progress.ensures.result in
    rw (← c.self.view_is)
    (same_receiving c.self.inside.manner _ _ _ _ progress (c.settle.ensures ∙ rw (c.hold.ensures, c.hear-progress.ensures.result) refl))
