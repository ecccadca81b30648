use Rattle.j39_bus.proofs.Heard.{stated, requested}
use Rattle.j39_bus.proofs.hearing.hear.Goals as goal

pub returns-in-AddressClaimed : goal.returns-in-AddressClaimed
returns-in-AddressClaimed g c = record {
  rule = stated c.args.claimers.now.items c.args.unit c.requires.inside c.index_mut.result.now c.hear_claim.new.self c.index_mut.ensures.value _
      c.hear_claim.ensures.left
      c.args.name c.args.item.now c.in-AddressClaimed.say c.number_of.result c.hear_claim.result c.in-AddressClaimed.is c.number_of.ensures.says c.hear_claim.ensures.rule;
}

pub returns-in-Request : goal.returns-in-Request
returns-in-Request g c = record {
  rule = requested c.args.claimers.now.items c.args.unit c.requires.inside c.index.result.now c.index.ensures c.args.name c.args.item.now
      c.hear_request.result c.in-Request.is c.hear_request.ensures;
}
