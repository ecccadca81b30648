use Rattle.std.proofs.Common.{◌≡◌, ℕ, List, sym, subst, ◌∙◌}
use Rattle.std.proofs.lemmas.Result.{on_ok_weaker}
use Rattle.j39_id.specs.FrameMeaning.{name_in}
use Rattle.j39_follow.specs.Contests.{IsContentionBehind, Timed, frames_of}
use Rattle.j39_follow.specs.declared.address.claimants.Claimant.{Claimant}
use Rattle.j39_follow.specs.declared.address.contest.Contention.{Contention}
use Rattle.j39_follow.specs.inside.Contesting.{AreClaimants, IsClaimant, claimed_place, contention_at}
use Rattle.j39_follow.specs.inside.Recounting.{ClaimsAt}
use Rattle.j39_follow.proofs.Addresses.Claimed.{known_more, reported_place}
use Rattle.j39_follow.proofs.Addresses.Contested.{eight}
use Rattle.j39_follow.proofs.Addresses.Contending.{contention_on}
use Rattle.j39_follow.proofs.Addresses.Knowing.{timed_more}
use Rattle.j39_follow.proofs.address.contests.Contests.hear.Goals as goal

pub carried_name-requires : goal.carried_name-requires
carried_name-requires c = eight c.args.frame.now c.requires

pub note_contests-requires-clause-name : goal.note_contests-requires-clause-name
note_contests-requires-clause-name c = sym (c.to_bits-name.ensures.value ∙ c.carried_name.ensures)

pub returns : goal.returns
returns c = on_ok_weaker c.note.result (λ put. λ log knows of.
    let plan = c.args.plan.now in
    let f = c.args.frame.now in
    let x : Timed = record { frame = f; time = c.args.time } in
    let old = c.args.self.now in
    let name = c.to_bits-name.result in
    let name_is : name ≡ name_in f = c.to_bits-name.ensures.value ∙ c.carried_name.ensures in
    let known = subst (IsClaimant plan (frames_of log) name) (sym c.claimant-claimant.ensures) (of.claimants name) in
    let stated : Claimant = record { party = c.claimant-claimant.result.party; address = c.claimed.result } in
    record {
      contentions = λ a less.
          contention_on plan log a (contention_at old.table.value a) (contention_at c.note_contests.new.table a) x (of.contentions a less)
          (subst (λ (t : List Contention). IsContentionBehind plan log (contention_at t a) x a (contention_at c.note_contests.new.table a))
          c.deref_mut.ensures.value (c.note_contests.ensures log a less knows known));
      claimants = subst (AreClaimants plan c.note.new.self) (sym (timed_more log x))
          (known_more plan old.claimants c.note.new.self (frames_of log) f name (claimed_place f) stated
          (subst (λ (n : ℕ). ClaimsAt f n (claimed_place f)) (sym name_is) (reported_place f c.requires)) known.party c.claimed.ensures put of.claimants);
    }) c.note.ensures
