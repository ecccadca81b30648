use Rattle.std.proofs.Common.{◌≡◌, Some, None, ap, sym, ◌∙◌}
use Rattle.j39_claim.specs.AddressSets.{is_free, lowest_free, free_above, first_of_two}
use Rattle.j39_claim.specs.inside.AddressWords.{is_above}
use Rattle.j39_claim.proofs.PoolBits.{free_above_is}
use Rattle.j39_claim.proofs.address_set.AddressSet.next_free.Goals as goal

pub returns-in-Some : goal.returns-in-Some
returns-in-Some c =
    let free = is_free c.args.self.now in
    let above : free_above c.args.before c.args.self.now ≡ Some c.in-Some.number =
    free_above_is c.args.before c.args.self.now
    ∙ sym (c.least.ensures (is_above c.args.before free) (c.above.ensures free c.free_pool.ensures)) ∙ c.in-Some.is in
    sym (ap (λ o. first_of_two o (lowest_free c.args.self.now)) above)

pub returns-in-None : goal.returns-in-None
returns-in-None c =
    let free = is_free c.args.self.now in
    let above : free_above c.args.before c.args.self.now ≡ None =
    free_above_is c.args.before c.args.self.now
    ∙ sym (c.least.ensures (is_above c.args.before free) (c.above.ensures free c.free_pool.ensures)) ∙ c.in-None.is in
    c.lowest_free.ensures ∙ sym (ap (λ o. first_of_two o (lowest_free c.args.self.now)) above)
