use Rattle.std.proofs.Common.{◌≡◌, ◌∙◌, ℕ, Option, ap, subst}
use Rattle.j39_id.specs.FrameMeaning.{name_in}
use Rattle.j39_follow.specs.Who.{unit_of_name}
use Rattle.j39_audit.specs.Claiming.{Knowledge, knowledge, with_claim}
use Rattle.j39_audit.specs.Looking.{claim_noted}
use Rattle.j39_audit.specs.inside.Recalling.{KnowsClaims, Notes, settings_of}
use Rattle.j39_audit.proofs.Knowing.{known_knowledge}
use Rattle.j39_audit.proofs.frame_marks.take_claim.Goals as goal

pub returns : goal.returns
returns c = λ claims knows.
    let s = settings_of c.args.basis.now in
    let f = c.args.frame.now in
    let name : c.to_bits-name.result ≡ name_in f = c.to_bits-name.ensures.value ∙ c.carried_name.ensures in
    let who : c.unit_named-claimant.result ≡ unit_of_name s.plan (name_in f) = c.unit_named-claimant.ensures ∙ ap (unit_of_name s.plan) name in
    let heard = subst (λ (n : ℕ). KnowsClaims s c.hear.new.self (with_claim
    (record { unit = c.unit_named-claimant.result; source = f.ident.sa; name = n }) claims)) name
    (c.hear.ensures claims knows) in
    let noted = subst (λ (k : Knowledge). Notes c.args.tally.now c.note_claim.new.tally (claim_noted s k f c.args.line c.unit_named-claimant.result))
    (known_knowledge s c.args.known.now claims knows) c.in_ok-note_claim.ensures in (
      rw c.requires (subst (λ (u : Option ℕ). KnowsClaims s c.hear.new.self
          (with_claim (record { unit = u; source = f.ident.sa; name = name_in f }) claims)) who heard),
      rw c.requires (subst (λ (u : Option ℕ). Notes c.args.tally.now c.note_claim.new.tally (claim_noted s (knowledge s claims) f c.args.line u)) who noted),
    )
