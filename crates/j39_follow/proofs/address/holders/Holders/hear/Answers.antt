use Rattle.std.proofs.Common.{Some, None, sym, refl, ◌∙◌}
use Rattle.j39_follow.specs.inside.Recounting.{ClaimsAt}
use Rattle.j39_follow.proofs.Addresses.Recounts.{moved, nothing_reported, silent, reported_cannot}
use Rattle.j39_follow.proofs.address.holders.Holders.hear.Goals as goal

pub returns-then-claims_address : goal.returns-then-claims_address
returns-then-claims_address c = λ frames many of.
    let f = c.args.frame.now in
    let claims : ClaimsAt f c.to_bits.result (Some f.ident.sa) = record {
      claim = sym c.claims_address.ensures ∙ c.if-claims_address.true;
      name_is = sym (c.to_bits.ensures.value ∙ c.carried_name.ensures);
      source_is = refl;
    } in
    moved c.args.plan.now c.args.self.now c.note.new.self frames f c.to_bits.result (Some f.ident.sa) c.args.count of claims many c.note.ensures

pub returns-then-cannot_claim : goal.returns-then-cannot_claim
returns-then-cannot_claim c = λ frames many of.
    let f = c.args.frame.now in
    let name = c.to_bits-then-cannot_claim.result in
    let cannot = reported_cannot f name (sym c.claims_address.ensures ∙ c.if-claims_address.false)
    (sym c.cannot_claim.ensures ∙ c.if-cannot_claim.true) (sym (c.to_bits-then-cannot_claim.ensures.value ∙ c.carried_name-then-cannot_claim.ensures)) in
    moved c.args.plan.now c.args.self.now c.note-then-cannot_claim.new.self frames f name None c.args.count of cannot many c.note-then-cannot_claim.ensures

pub returns-else-cannot_claim : goal.returns-else-cannot_claim
returns-else-cannot_claim c = λ frames many of.
    nothing_reported c.args.plan.now c.args.self.now frames c.args.frame.now
    (silent c.args.frame.now (sym c.claims_address.ensures ∙ c.if-claims_address.false)
    (sym c.cannot_claim.ensures ∙ c.if-cannot_claim.false)) of
