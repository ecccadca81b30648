use Rattle.std.proofs.Common.{rules, ◌≡◌, ◌∷◌, ◌++◌, [], length, refl, sym, subst, ◌∙◌}
use Rattle.j39_follow.specs.declared.message.Sort.{Sort}
use Rattle.j39_follow.specs.declared.flow.tally.Tally.{Tally}
use Rattle.j39_follow.specs.inside.Tallies.{IsTally}
use Rattle.j39_follow.proofs.Flows.Tallied.{other_counted}
use Rattle.j39_follow.proofs.flow.tally.Tally.count.Goals as goal

pub returns-in-Some : goal.returns-in-Some
returns-in-Some c = λ sent few of.
    let old = c.args.self.now in
    let new : Tally = record { flows = old.flows; groups = old.groups; others = c.add_one-in-Some.new.counts } in
    let room : length old.others ≡ 256 = search rules in
    subst (λ (s : Sort). IsTally c.args.groups.now new (sent ++ s ∷ [])) (sym c.in-Other.is)
    (other_counted c.args.groups.now old new sent c.in-Other.pgn c.in-Some.first few (sym c.first_in.ensures ∙ c.in-Some.is) room refl refl
    c.add_one-in-Some.ensures of)
