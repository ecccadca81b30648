use Rattle.std.proofs.Common.{◌≡◌, ◌<◌, ◌≤◌, below_more, false, true, not, ◌&&◌, length, is_some, refl, sym, ap, ◌∙◌, arith}
use Rattle.std.proofs.lemmas.Bool.{and_right}
use Rattle.std.specs.List.{list_all, range_with_len}
use Rattle.j39_bus.specs.BusState.{nowhere, session_at}
use Rattle.j39_bus.specs.inside.Network.{world_in}
use Rattle.j39_world.specs.Resting.{is_over_with}
use Rattle.j39_world.specs.Transfers.{outcome_in}
use Rattle.j39_bus.proofs.Rested.{all_below, not_below}
use Rattle.j39_bus.proofs.network.Network.can_rest.Goals as goal

pub returns-then-not-is_over_with : goal.returns-then-not-is_over_with
returns-then-not-is_over_with c =
    let net = c.args.self.now in
    let n = length net.claimers.items in
    let test = is_over_with (world_in nowhere net) c.args.unit in
    let inside : c.loop-other.other < n = omega (arith, c.len-other-end.ensures, net.claimers.ok.0) in
    let over : test c.loop-other.other ≡ false = sym (c.is_over_with.ensures) ∙ c.if-not-is_over_with.true in
    sym (ap (λ b. is_some (outcome_in (session_at net.sessions.items c.args.unit)) && b) (not_below test n c.loop-other.other inside over)
    ∙ and_right (is_some (outcome_in (session_at net.sessions.items c.args.unit))) false refl)

pub loop-other-preserved : goal.loop-other-preserved
loop-other-preserved c = below_more _ _ (c.loop-other.invariant) (sym (c.is_over_with.ensures) ∙ c.if-not-is_over_with.false)

pub returns : goal.returns
returns c =
    let net = c.args.self.now in
    let n = length net.claimers.items in
    let past : n ≤ c.loop-other.other = omega (arith, c.len-other-end.ensures, net.claimers.ok.0) in
    let over : list_all (is_over_with (world_in nowhere net) c.args.unit) (range_with_len 0 n) ≡ true =
    all_below (is_over_with (world_in nowhere net) c.args.unit) n
    (λ k inside. c.loop-other.invariant k (omega arith)) in
    let ended : is_some (outcome_in (session_at net.sessions.items c.args.unit)) ≡ true =
    ap is_some (sym (c.outcome.ensures ∙ ap (λ ts. outcome_in (session_at ts c.args.unit)) c.as_slice.ensures.value)) ∙ c.is_none.ensures
    ∙ ap not c.if-is_none.false in
    sym (rw (ended, over) refl)
