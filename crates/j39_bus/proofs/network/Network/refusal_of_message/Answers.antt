use Rattle.std.proofs.Common.{length, ap, ◌∙◌}
use Rattle.std.specs.Option.{is_some}
use Rattle.j39_id.specs.FirstFault.{first_fault}
use Rattle.j39_bus.specs.BusState.{session_at}
use Rattle.j39_bus.specs.inside.Network.{flow_refusals, world_in}
use Rattle.j39_bus.proofs.network.Network.refusal_of_message.Goals as goal

pub returns : goal.returns
returns c = λ h.
    let net = c.args.self.now in
    let busy = c.is_open-is_busy.ensures ∙ ap (λ s. is_some (session_at s c.args.flow.now.sender)) c.as_slice.ensures.value in
    c.refusal_of_flow.ensures h ∙ (λ i. first_fault
    (flow_refusals net.live (length net.claimers.items) (world_in h net) c.args.flow.now c.args.bytes.now (busy i) (c.fits.ensures i)))
