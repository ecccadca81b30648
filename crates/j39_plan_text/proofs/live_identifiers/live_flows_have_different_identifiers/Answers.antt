use Rattle.j39_plan_text.proofs.LiveIdentifiers.{identifiers_differ}
use Rattle.j39_plan_text.proofs.live_identifiers.live_flows_have_different_identifiers.Goals as goal

pub returns : goal.returns
returns c = λ plan steps w clean live run f h flow other group second apart is its same.
    identifiers_differ plan clean live steps w run f h flow other group second is its apart same
