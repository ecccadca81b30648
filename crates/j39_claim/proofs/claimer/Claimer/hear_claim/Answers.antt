use Rattle.std.proofs.Common.{rules, ◌≡◌, ◌<◌, Some, true}
use Rattle.std.specs.FinMap.{insert}
use Rattle.j39_claim.specs.ClaimRule.{ClaimState, say_of}
use Rattle.j39_claim.specs.ExactAnswer.{Pick, taken_for, said_after, state_after}
use Rattle.j39_claim.proofs.Hearing.{heard, same_move}
use Rattle.j39_claim.proofs.claimer.Claimer.hear_claim.Goals as goal
use Rattle.j39_claim.proofs.claimer.Claimer.hear_claim.Goals.{then-yields, else-yields}

pub returns-clause-rule : goal.returns-clause-rule
returns-clause-rule g c =
    let picks : Pick = (goal.Choose-dyn g c.args.chooser.now).pick c.args.chooser.now.1 in
    let new : ClaimState = record { on = c.if-yields.self-inside.started; address = c.if-yields.self-inside.address; notes = c.if-yields.self-inside.notes } in
    let said : Some c.claim_of.result ≡ said_after picks c.args.self.now.planned c.args.self.now.state c.args.name (say_of c.args.address) = search rules in
    let left : new ≡ state_after picks c.args.self.now.planned c.args.self.now.state c.args.name (say_of c.args.address) = search rules in
    let inside : c.args.address < 254 = search rules in
    let claims : c.args.self.now.planned.claims ≡ true = search rules in
    heard picks c.args.self.now.planned c.args.self.now.state c.args.name c.args.address (Some c.claim_of.result) new inside claims said left
    (λ smaller. elim c.if-yields.branch [
      | then-yields w ↦
          let taken = taken_for c.args.self.now.planned (insert c.args.self.now.state.notes c.args.name c.args.address) in
          same_move picks _ _ _ _ _ taken w.moved_to-self-inside.ensures.free (λ i. (c.self.view_is i).planned.name)
          c.in-Some.ensures.value (search rules)
      | else-yields w ↦ search rules
    ])
