use Rattle.std.proofs.Common.{◌++◌, ℕ, List, codes, ap, ◌∙◌, append_assoc}
use Rattle.std.proofs.lemmas.Result.{IfOk-weaker}
use Rattle.j39_follow.proofs.address.party_text.write_way.Goals as goal

pub returns : goal.returns
returns c =
    IfOk-weaker c.write_parties.result _ _
    (λ _ written. λ log shows.
    let one = written log shows in (
      codes " from " ++ one.0,
      one.1,
      one.2 ∙ ap (λ (t : List ℕ). t ++ one.0) c.in_ok-word.ensures ∙ append_assoc c.args.text.now (codes " from ") one.0,
    ))
    c.write_parties.ensures
