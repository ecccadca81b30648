-- Where a contest comes from that is kept: from a claim among the lines.
use Rattle.std.proofs.Common.{◌≡◌, ◌⊎◌, ℕ, List, [], ◌∷◌, ◌++◌, Some, inl, inr, refl, sym, ap, subst, ◌∙◌}
use Rattle.std.proofs.lemmas.List.{append_assoc}
use Rattle.std.proofs.lemmas.Option.{none-some}
use Rattle.j39_network.specs.declared.plan.Plan.{Plan}
use Rattle.j39_follow.specs.ContestOrigins.{ContestsAreShort, IsOpposed}
use Rattle.j39_follow.specs.Contests.{Begins, IsContentionBehind, IsContestBehind, IsContested, IsGuessed, IsNow, Leads, Timed, frames_of, nothing_contended}
use Rattle.j39_follow.specs.Holders.{HoldsByFrames}
use Rattle.j39_follow.specs.declared.address.contest.Contention.{Contention}
use Rattle.j39_follow.specs.declared.address.contest.Contest.{Contest}
use Rattle.j39_follow.specs.declared.address.who.Who.{Who}

-- a line of the log begins the contest
record IsBegun (plan : Plan) (log : List Timed) (address : ℕ) (c : Contest) : Type 0 where
  pub before : List Timed
  pub old : Contention
  pub line : Timed
  pub behind : List Timed
  pub row : log ≡ before ++ line ∷ behind
  pub begins : Begins plan before old line address c

-- behind a line a contest is kept that it begins, or that was kept before
kept_from : (plan : Plan) (before : List Timed) (old new : Contention) (x : Timed) (address : ℕ) (c : Contest)
    → IsContentionBehind plan before old x address new → new.contest ≡ Some c → Begins plan before old x address c ⊎ (old.contest ≡ Some c)
kept_from plan before old new x address c is kept =
    elim (subst (IsContestBehind plan before old x address) kept is.contest) [
      | inl begins ↦ inl begins
      | inr (none, was, goes_on) ↦ inr was
    ]

-- so a contest that is kept behind all lines is one that one of them begins, or that was kept before them
begun_or_kept : (plan : Plan) (address : ℕ) (before : List Timed) (old : Contention) (rest : List Timed) (new : Contention) (c : Contest)
    → Leads plan address before old rest new → new.contest ≡ Some c → IsBegun plan (before ++ rest) address c ⊎ (old.contest ≡ Some c)
begun_or_kept plan address before old [] new c leads kept = inr (ap (λ (g : Contention). g.contest) (sym leads) ∙ kept)
begun_or_kept plan address before old (x ∷ rest) new c (next, behind, leads) kept =
    elim (begun_or_kept plan address (before ++ x ∷ []) next rest new c leads kept) [
      | inl begun ↦ inl (subst (λ (log : List Timed). IsBegun plan log address c) (append_assoc before (x ∷ []) rest) begun)
      | inr next_kept ↦ elim (kept_from plan before old next x address c behind next_kept) [
        | inl begins ↦ inl (record { before = before; old = old; line = x; behind = rest; row = refl; begins = begins })
        | inr was ↦ inr was
      ]
    ]

-- its opponent held the address, or is the unit that would claim it first
opponent_held : (plan : Plan) (before : List Timed) (old : Contention) (x : Timed) (address : ℕ) (c : Contest) (b : Begins plan before old x address c)
    → HoldsByFrames (frames_of before) b.opponent address ⊎ IsGuessed plan (frames_of before) address b.opponent
opponent_held plan before old x address c b = elim b.opposes [
  | inl (holds, others) ↦ inl holds
  | inr (guessed, smaller) ↦ inr guessed
]

opposed_by : (plan : Plan) (log : List Timed) (address : ℕ) (c : Contest) (is : IsContested plan log address c) (who : Who) → who ≡ c.defender
    → IsBegun plan log address c → IsOpposed plan log address who
opposed_by plan log address c is who same b = record {
  before = b.before;
  line = b.line;
  behind = b.behind;
  row = b.row;
  claimant = b.begins.claimant;
  claims = b.begins.claims;
  pool = b.begins.pool;
  opponent = b.begins.opponent;
  held = opponent_held plan b.before b.old b.line address c b.begins;
  who_is = same ∙ b.begins.defender;
  another = b.begins.another;
  since = c.since;
  since_is = b.begins.since;
  now = is.runs.now;
  now_is = subst (IsNow log) is.runs.now_is is.time_is;
  begun = is.runs.begun;
  lasts = is.runs.lasts;
}

pub contests_are_short : ContestsAreShort
contests_are_short plan log address who (inl (c, is, same)) =
    elim (begun_or_kept plan address [] nothing_contended log is.contention c is.contention_is is.runs.kept_is) [
      | inl begun ↦ inr (opposed_by plan log address c is who same begun)
      | inr kept ↦ absurd (none-some c kept)
    ]
contests_are_short plan log address who (inr (none, stands)) = inl stands
