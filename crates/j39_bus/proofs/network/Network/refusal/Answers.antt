use Rattle.std.proofs.Common.{◌<◌, ◌≤◌, length, sym, ap, ◌∙◌, arith, Some}
use Rattle.std.proofs.lemmas.Bool.{ltb-false}
use Rattle.j39_bus.proofs.Acting.{refusal_as}
use Rattle.j39_bus.proofs.FlowRefused.{refused_begun, refused_by_flow, refused_past_flows, refused_alone}
use Rattle.j39_bus.proofs.network.Network.refusal.Goals as goal

pub returns-in-Some : goal.returns-in-Some
returns-in-Some c =
    let net = c.args.self.now in
    let inside : c.in-Begin.place < length c.deref.result.now = omega (arith, c.in-Some.ensures.lookup.3.0) in
    refusal_as _ _ _ _ c.in-Begin.is (record {
      is = refused_by_flow net c.in-Begin.place c.deref.result.now c.deref.ensures.value (refused_begun net c.in-Begin.bytes.items) c.in-Some.flow.now inside
          c.in-Some.ensures.lookup.1 _ (λ h. c.refusal_of_message.ensures h ∙ ap
          (λ b. refused_begun net b h (Some c.in-Some.flow.now)) c.as_slice.ensures.value);
    })

pub returns-in-None : goal.returns-in-None
returns-in-None c =
    let past : length c.deref.result.now ≤ c.in-Begin.place = omega (arith, ltb-false _ _ (sym c.in-None.ensures.lookup.0)) in
    refusal_as _ _ _ _ c.in-Begin.is (record {
      is = refused_past_flows c.args.self.now c.in-Begin.place c.deref.result.now c.deref.ensures.value
          (refused_begun c.args.self.now c.in-Begin.bytes.items) past;
    })

pub returns-in-Some-get : goal.returns-in-Some-get
returns-in-Some-get c =
    let net = c.args.self.now in
    let inside : c.in-Send.place < length c.deref-in-Send.result.now = omega (arith, c.in-Some-get.ensures.lookup.3.0) in
    refusal_as _ _ _ _ c.in-Send.is (record {
      is = refused_by_flow net c.in-Send.place c.deref-in-Send.result.now c.deref-in-Send.ensures.value
          (refused_alone net c.in-Send.bytes.items) c.in-Some-get.flow.now
          inside c.in-Some-get.ensures.lookup.1 _
          (λ h. c.refusal_of_frame.ensures h ∙ ap (λ b. refused_alone net b h (Some c.in-Some-get.flow.now)) c.as_slice-in-Some-get.ensures.value);
    })

pub returns-in-None-get : goal.returns-in-None-get
returns-in-None-get c =
    let past : length c.deref-in-Send.result.now ≤ c.in-Send.place = omega (arith, ltb-false _ _ (sym c.in-None-get.ensures.lookup.0)) in
    refusal_as _ _ _ _ c.in-Send.is (record {
      is = refused_past_flows c.args.self.now c.in-Send.place c.deref-in-Send.result.now c.deref-in-Send.ensures.value
          (refused_alone c.args.self.now c.in-Send.bytes.items) past;
    })

pub returns-in-Lose : goal.returns-in-Lose
returns-in-Lose c = refusal_as _ _ _ _ c.in-Lose.is (record { is = c.refusal_of_take-in-Lose.ensures.is })
