-- The contest that a claim begins.
use Rattle.std.proofs.Common.{◌≡◌, ◌<◌, ℕ, ◌||◌, not, nat_lt, Bool, true, false, if◌then◌else◌, List, Option, Some, None, is_some, inl, inr, refl, sym, ap}
use Rattle.std.proofs.Common.{subst, ◌∙◌}
use Rattle.std.proofs.lemmas.Bool.{cases_Bool, or_cases, lt-ltb, ltb-true, false≢true, not-true, or_left, or_parts}
use Rattle.std.proofs.lemmas.Option.{none-some}
use Rattle.j39_id.specs.Addresses.{in_pool}
use Rattle.j39_id.specs.FrameMeaning.{cannot_claim, claims_address, name_in}
use Rattle.j39_network.specs.declared.plan.Plan.{Plan}
use Rattle.j39_follow.specs.Contests.{Begins, BeginsNone, Defends, IsContestBehind, IsHeldSince, IsTakenBehind, Opposes, Runs, Takes, Timed, frames_of}
use Rattle.j39_follow.specs.Contests.{likely_named}
use Rattle.j39_follow.specs.Holders.{HoldsByFrames, IsHolder}
use Rattle.j39_follow.specs.Who.{IsSameParty}
use Rattle.j39_follow.specs.declared.address.claim.Claim.{Claim}
use Rattle.j39_follow.specs.declared.address.contest.Contention.{Contention}
use Rattle.j39_follow.specs.declared.address.contest.Contest.{Contest}
use Rattle.j39_follow.specs.inside.Contesting.{IsBegun, IsClaimAt, IsGuess, IsMet, contest_with, is_defended, is_place, remaining_of, running_of, smaller_of}
use Rattle.j39_follow.specs.inside.Contesting.{opponent_of, since_of}
use Rattle.j39_follow.specs.inside.Hearing.{is_same_party}
use Rattle.j39_follow.proofs.Addresses.Contending.{defended_so, left_so, one_guess, one_met, place_some, run_so, some_place, run_then, undefended}
use Rattle.j39_follow.proofs.Addresses.Heard.{party_again, party_same}
use Rattle.j39_follow.proofs.Addresses.HolderLaws.{same_name}

not_so : (b : Bool) → b ≡ false → not b ≡ true
not_so true e = cc
not_so false e = refl

not_below : (n m : ℕ) → nat_lt n m ≡ false → n < m → ⊥
not_below n m e less = false≢true (sym e ∙ lt-ltb n m less)

module _ (plan : Plan) (before : List Timed) (x : Timed) (k : Claim) (at : IsClaimAt plan before x k) where
  -- ---- whom it meets

  pub met_holder : (old : Contention) (holder : ℕ) → HoldsByFrames (frames_of before) holder k.address
      → IsMet plan before old x k (opponent_of holder k.name (is_defended old.contest old.since k))
  met_holder old holder holds = elim (cases_Bool (nat_lt holder k.name || not (is_defended old.contest old.since k))) [
    | inl meets ↦
        subst (λ (b : Bool). IsMet plan before old x k (if b then Some holder else None)) (sym meets)
        (inl (
          holds,
          elim (or_cases (nat_lt holder k.name) (not (is_defended old.contest old.since k)) meets) [
            | inl less ↦ inl (ltb-true holder k.name less)
            | inr against ↦ inr (undefended plan before x old k at (Some holder) holds (not-true (is_defended old.contest old.since k) against))
          ],
        ))
    | inr not_met ↦
        let parts = or_parts (nat_lt holder k.name) (not (is_defended old.contest old.since k)) not_met in
        subst (λ (b : Bool). IsMet plan before old x k (if b then Some holder else None)) (sym not_met)
        (λ m meets. elim meets [
          | inl there ↦
              let same : m ≡ holder = same_name (frames_of before) k.address m holder there.0 holds in
              elim there.1 [
                | inl less ↦ not_below holder k.name parts.0 (subst (λ (n : ℕ). n < k.name) same less)
                | inr against ↦
                    elim (cases_Bool (is_defended old.contest old.since k)) [
                      | inl defends ↦ against (defended_so plan before x old k at (Some holder) holds defends)
                      | inr without ↦ false≢true (sym parts.1 ∙ not_so (is_defended old.contest old.since k) without)
                    ]
              ]
          | inr guess ↦ guess.0.0 holder holds
        ])
  ]

  pub met_guess : (old : Contention) (guess : Option ℕ) → IsHolder (frames_of before) k.address None → IsGuess plan (frames_of before) k.address guess
      → IsMet plan before old x k (smaller_of guess k.name)
  met_guess old None none guess = λ m meets. elim meets [
    | inl there ↦ none m there.0
    | inr other ↦ guess m other.0
  ]
  met_guess old (Some g) none guess = elim (cases_Bool (nat_lt g k.name)) [
    | inl less ↦
        subst (λ (b : Bool). IsMet plan before old x k (if b then Some g else None)) (sym less) (inr (guess, ltb-true g k.name less))
    | inr more ↦
        subst (λ (b : Bool). IsMet plan before old x k (if b then Some g else None)) (sym more)
        (λ m meets. elim meets [
          | inl there ↦ none m there.0
          | inr other ↦
              let same : m ≡ g = one_guess plan (frames_of before) k.address m g other.0 guess in
              not_below g k.name more (subst (λ (n : ℕ). n < k.name) same other.1)
        ])
  ]

  -- ---- what it begins

  -- each contest that begins at the address is of this claim
  claimant_is : (old : Contention) (c : Contest) (b : Begins plan before old x k.address c) → b.claimant ≡ k.name
  claimant_is old c b = sym b.claims.name_is ∙ at.claims.name_is

  meets_so : (old : Contention) (c : Contest) (b : Begins plan before old x k.address c)
      → Opposes plan (frames_of before) old x.time k.address k.name b.opponent
  meets_so old c b = subst (λ (n : ℕ). Opposes plan (frames_of before) old x.time k.address n b.opponent) (claimant_is old c b) b.opposes

  pub none_timed : (old : Contention) → k.time ≡ None → BeginsNone plan before old x k.address
  none_timed old none c b = none-some c.since (sym none ∙ at.time ∙ b.since)

  pub none_pooled : (old : Contention) → in_pool k.address ≡ false → BeginsNone plan before old x k.address
  none_pooled old outside c b = false≢true (sym outside ∙ b.pool)

  some_is : (o : Option Contest) (c : Contest) → o ≡ Some c → is_some o ≡ true
  some_is None c e = absurd (none-some c e)
  some_is (Some d) c e = refl

  is_none : (o : Option Contest) → is_some o ≡ false → (c : Contest) → o ≡ Some c → ⊥
  is_none o none c e = false≢true (sym none ∙ some_is o c e)

  some_there : (o : Option Contest) → is_some o ≡ true → (c : Contest) × (o ≡ Some c)
  some_there None e = absurd (false≢true e)
  some_there (Some c) e = (c, refl)

  pub none_free : (old : Contention) → is_some (running_of old.contest k.time) ≡ true → BeginsNone plan before old x k.address
  none_free old runs c b =
      let there = some_there (running_of old.contest k.time) runs in
      b.free there.0 (subst (λ (t : Option ℕ). Runs old.contest t there.0) at.time (run_so old.contest k.time there.0 there.1))

  pub none_met : (old : Contention) → IsMet plan before old x k None → BeginsNone plan before old x k.address
  none_met old none c b = none b.opponent (meets_so old c b)

  pub begun_with : (old : Contention) (since opponent : ℕ) → k.time ≡ Some since → in_pool k.address ≡ true
      → is_some (running_of old.contest k.time) ≡ false → IsMet plan before old x k (Some opponent)
      → IsBegun plan before old x k.address (contest_with plan old.taken k opponent since)
  begun_with old since opponent timed pool over met = elim (cases_Bool (is_same_party (likely_named plan opponent) k.claimant.party)) [
    | inl same ↦
        let one = subst (IsSameParty (likely_named plan opponent)) at.claimant.party (party_same (likely_named plan opponent) k.claimant.party same) in
        subst (IsBegun plan before old x k.address)
        (sym (ap (λ (b : Bool). if b then None else Some (record {
          defender = likely_named plan opponent;
          since = since;
          taken = if nat_lt k.name opponent then old.taken else None;
        })) same))
        (λ c b.
        let there : b.opponent ≡ opponent = one_met plan (frames_of before) old x.time k.address k.name b.opponent opponent (meets_so old c b) met in
        b.another (subst (λ (n : ℕ). IsSameParty (likely_named plan b.opponent) (likely_named plan n)) (sym (claimant_is old c b))
        (subst (λ (n : ℕ). IsSameParty (likely_named plan n) (likely_named plan k.name)) (sym there) one)))
    | inr other ↦
        subst (IsBegun plan before old x k.address)
        (sym (ap (λ (b : Bool). if b then None else Some (record {
          defender = likely_named plan opponent;
          since = since;
          taken = if nat_lt k.name opponent then old.taken else None;
        })) other))
        (record {
          claimant = k.name;
          opponent = opponent;
          pool = pool;
          claims = at.claims;
          since = sym at.time ∙ timed;
          free = λ d runs.
              is_none (running_of old.contest k.time) over d
              (run_then old.contest k.time d (subst (λ (t : Option ℕ). Runs old.contest t d) (sym at.time) runs));
          opposes = met;
          another = λ one.
              false≢true (sym other
              ∙ party_again (likely_named plan opponent) k.claimant.party (subst (IsSameParty (likely_named plan opponent)) (sym at.claimant.party) one));
          defender = refl;
          taken = refl;
        })
  ]

  -- ---- what is known of the address behind it

  stated_of : (claims_address x.frame || cannot_claim x.frame) ≡ true
  stated_of = or_left (claims_address x.frame) (cannot_claim x.frame) at.claims.claim

  party_is : k.claimant.party ≡ likely_named plan (name_in x.frame)
  party_is = at.claimant.party ∙ ap (likely_named plan) (sym at.claims.name_is)

  pub contest_begun : (old : Contention) (c : Contest) → IsBegun plan before old x k.address (Some c) → IsContestBehind plan before old x k.address (Some c)
  contest_begun old c begun = inl begun

  pub contest_kept : (old : Contention) → IsBegun plan before old x k.address None
      → IsContestBehind plan before old x k.address (remaining_of k.claimant.party old.contest)
  contest_kept old none = left_so plan before old x k.address none old.contest k.claimant.party refl party_is stated_of

  pub taken_held : (old : Contention) → HoldsByFrames (frames_of before) k.name k.address → IsTakenBehind plan before old x k.address old.taken
  taken_held old holds =
      inr (inr ((λ takes. takes.1 (subst (λ (n : ℕ). HoldsByFrames (frames_of before) n k.address) (sym at.claims.name_is) holds)), refl))

  pub held_so : (holder : Option ℕ) → IsHolder (frames_of before) k.address holder → is_place holder k.name ≡ true
      → HoldsByFrames (frames_of before) k.name k.address
  held_so holder holds same = subst (IsHolder (frames_of before) k.address) (place_some holder k.name same) holds

  pub not_held : (holder : Option ℕ) → IsHolder (frames_of before) k.address holder → is_place holder k.name ≡ false
      → ¬ HoldsByFrames (frames_of before) k.name k.address
  not_held None none other holds = none k.name holds
  not_held (Some h) there other holds =
      false≢true (sym other ∙ some_place (Some h) k.name (ap Some (same_name (frames_of before) k.address h k.name there holds)))

  takes_so : ¬ HoldsByFrames (frames_of before) k.name k.address → Takes (frames_of before) x.frame k.address
  takes_so out = (
    record { claim = at.claims.claim; name_is = refl; source_is = at.claims.source_is },
    λ holds. out (subst (λ (n : ℕ). HoldsByFrames (frames_of before) n k.address) at.claims.name_is holds),
  )

  pub taken_defended : (old : Contention) (holder : Option ℕ) → IsHolder (frames_of before) k.address holder
      → ¬ HoldsByFrames (frames_of before) k.name k.address
      → is_defended old.contest (since_of holder old.since) k ≡ true → IsTakenBehind plan before old x k.address None
  taken_defended old holder holds out defends =
      inl (
        takes_so out,
        subst (Defends plan (frames_of before) old x.time k.address) (sym at.claims.name_is)
            (defended_so plan before x old k at holder holds defends),
        refl,
      )

  pub taken_anew : (old : Contention) (holder : Option ℕ) → IsHolder (frames_of before) k.address holder → ¬ HoldsByFrames (frames_of before) k.name k.address
      → is_defended old.contest (since_of holder old.since) k ≡ false → IsTakenBehind plan before old x k.address k.time
  taken_anew old holder holds out against =
      inr (inl (
        takes_so out,
        (λ d. undefended plan before x old k at holder holds against
            (subst (Defends plan (frames_of before) old x.time k.address) at.claims.name_is d)),
        at.time,
      ))

  pub since_held : (old : Contention) → HoldsByFrames (frames_of before) k.name k.address → IsHeldSince before old x k.address old.since
  since_held old holds =
      inr ((λ takes. takes.1 (subst (λ (n : ℕ). HoldsByFrames (frames_of before) n k.address) (sym at.claims.name_is) holds)), refl)

  pub since_anew : (old : Contention) → ¬ HoldsByFrames (frames_of before) k.name k.address → IsHeldSince before old x k.address k.time
  since_anew old out = inl (takes_so out, at.time)
