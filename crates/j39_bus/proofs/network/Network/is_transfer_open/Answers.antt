use Rattle.std.proofs.Common.{ap, is_some, length, not, sym, ◌||◌, ◌∙◌}
use Rattle.std.specs.List.{list_any}
use Rattle.j39_bus.proofs.FlowRefused.{settled_by}
use Rattle.j39_bus.proofs.Rested.{open_by}
use Rattle.j39_bus.proofs.network.Network.is_transfer_open.Goals as goal

pub returns : goal.returns
returns c =
    let net = c.args.self.now in
    let empty = c.is_empty-is_untaken.result in
    let none = settled_by (length net.claimers.items) net.wire.lists c.requires.traffic.table empty c.is_empty-is_untaken.ensures in
    let any = c.is_any_open-is_sending.ensures ∙ ap (list_any (λ t. is_some t)) c.as_slice.ensures.value in
    c.is_either.ensures ∙ (ap (λ b. b || not empty) any ∙ sym (open_by net c.requires.traffic.sessions.count empty none))
