use Rattle.j39_follow.proofs.Addresses.Tables.{empty_recounts, unmarked}
use Rattle.j39_follow.proofs.address.holders.Holders.new.Goals as goal

pub returns : goal.returns
returns c = λ plan. empty_recounts plan _ c.no_names.ensures (unmarked 128)
