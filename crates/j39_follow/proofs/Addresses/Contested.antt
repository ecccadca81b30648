-- Who is taken to be behind an address within a contest.
use Rattle.std.proofs.Common.{◌≡◌, ◌+◌, ◌≤◌, ℕ, ◌==◌, ◌&&◌, ◌||◌, nat_le, Bool, true, false, if◌then◌else◌}
use Rattle.std.proofs.Common.{List, [], ◌∷◌, ◌++◌, length, Option, Some, None, is_some, inl, inr, refl, sym, ap, subst, ◌∙◌, eqb-true}
use Rattle.std.proofs.lemmas.Bool.{and_parts, cases_Bool, or_cases, le-leb, leb-true, ltb-true, false≢true, and_from}
use Rattle.std.proofs.lemmas.List.{same_from_push}
use Rattle.std.proofs.lemmas.Option.{none-some, same_Some}
use Rattle.j39_id.specs.Addresses.{is_address, null_address}
use Rattle.j39_id.specs.FrameMeaning.{cannot_claim, carries_name, claims_address}
use Rattle.j39_id.specs.Ident.{pgn_of}
use Rattle.j39_id.specs.Services.{address_claimed}
use Rattle.j39_id.specs.declared.frame.Frame.{Frame}
use Rattle.j39_network.specs.declared.plan.Plan.{Plan}
use Rattle.j39_network.specs.declared.plan.unit_plan.UnitPlan.{UnitPlan}
use Rattle.j39_follow.specs.Contests.{IsContention, IsContested, IsGuessed, IsHeard, IsNow, IsTaken, Timed, claim_wait, frames_of}
use Rattle.j39_follow.specs.Holders.{IsHolder}
use Rattle.j39_follow.specs.Who.{IsLikeliest, IsWho}
use Rattle.j39_follow.specs.declared.address.contest.Contention.{Contention}
use Rattle.j39_follow.specs.declared.address.contest.Contest.{Contest}
use Rattle.j39_follow.specs.declared.address.contests.Contests.{Contests}
use Rattle.j39_follow.specs.declared.address.who.Who.{Who}
use Rattle.j39_follow.specs.declared.address.who.Who.TheVariants.{Holder, Stranger, Likely, LikelyStranger, Unknown}
use Rattle.j39_follow.specs.inside.Contesting.{AreClaimants, AreContests, IsDefender, IsGuess, IsLikelyName, IsNameAt, contention_at, defender_in, is_heard}
use Rattle.j39_follow.specs.inside.Contesting.{is_lasting, taken_party}
use Rattle.j39_follow.proofs.Addresses.Claimed.{known_still}
use Rattle.j39_follow.proofs.Addresses.Contending.{contention_on, one_contention, runs_at, silent_behind}
use Rattle.j39_follow.proofs.Addresses.Knowing.{timed_more}
use Rattle.j39_follow.proofs.Addresses.Parties.{one_who}
use Rattle.j39_follow.proofs.Addresses.Recounts.{HoldsNothing}

-- ---- within a contest

pub one_now : (log : List Timed) (s t : Option ℕ) → IsNow log s → IsNow log t → s ≡ t
one_now log s t p q =
    let same = same_from_push p.0 q.0 p.1 q.1 (sym p.2 ∙ q.2) in
    sym p.3 ∙ ap (λ (x : Timed). x.time) same.1 ∙ q.3

heard_so : (taken : Option ℕ) (now : ℕ) → is_heard taken now ≡ true → IsHeard taken now
heard_so None now e since is = absurd (none-some since is)
heard_so (Some t) now e since is = subst (λ (s : ℕ). s + claim_wait ≤ now) (same_Some t since is) (leb-true (t + claim_wait) now e)

heard_then : (taken : Option ℕ) (now : ℕ) → IsHeard taken now → is_heard taken now ≡ true
heard_then None now h = refl
heard_then (Some t) now h = le-leb (t + claim_wait) now (h t refl)

one_contested : (plan : Plan) (log : List Timed) (a : ℕ) (c d : Contest) → IsContested plan log a c → IsContested plan log a d → c ≡ d
one_contested plan log a c d p q =
    let same = one_contention plan log a p.contention q.contention p.contention_is q.contention_is in
    same_Some c d (sym p.runs.kept_is ∙ ap (λ (g : Contention). g.contest) same ∙ q.runs.kept_is)

module _ (plan : Plan) (log : List Timed) (a : ℕ) (g : Contention) (time : Option ℕ) (of : IsContention plan log a g) (timed : IsNow log time) where
  -- the contest that goes on is the one that is kept, at this time
  kept_then : (c : Contest) (is : IsContested plan log a c) → (g.contest ≡ Some c) × (time ≡ Some is.runs.now)
  kept_then c is = (
    ap (λ (h : Contention). h.contest) (sym (one_contention plan log a is.contention g is.contention_is of)) ∙ is.runs.kept_is,
    one_now log time is.time timed is.time_is ∙ is.runs.now_is,
  )

  goes_on : (c : Contest) (now : ℕ) → g.contest ≡ Some c → time ≡ Some now → is_lasting c now ≡ true → is_heard c.taken now ≡ true
      → IsContested plan log a c
  goes_on c now kept at runs heard =
      let parts = and_parts (nat_le c.since now) _ runs in record {
        contention = g;
        contention_is = of;
        time = time;
        time_is = timed;
        runs = record { kept_is = kept; now = now; now_is = at; begun = leb-true c.since now parts.0; lasts = ltb-true now (c.since + claim_wait) parts.1 };
        heard = heard_so c.taken now heard;
      }

  defends_of : (o : Option Contest) (t : Option ℕ) → g.contest ≡ o → time ≡ t → IsDefender plan log a (defender_in o t)
  defends_of None t kept at = λ c is. none-some c (sym kept ∙ (kept_then c is).0)
  defends_of (Some c) None kept at = λ d is. none-some is.runs.now (sym at ∙ (kept_then d is).1)
  defends_of (Some c) (Some now) kept at = elim (cases_Bool (is_lasting c now && is_heard c.taken now)) [
    | inl within ↦
        let parts = and_parts (is_lasting c now) (is_heard c.taken now) within in
        subst (λ (b : Bool). IsDefender plan log a (if b then Some c.defender else None)) (sym within)
        (c, goes_on c now kept at parts.0 parts.1, refl)
    | inr without ↦
        subst (λ (b : Bool). IsDefender plan log a (if b then Some c.defender else None)) (sym without)
        (λ d is.
        let there = kept_then d is in
        let same : d ≡ c = same_Some d c (sym there.0 ∙ kept) in
        let now_is : is.runs.now ≡ now = same_Some is.runs.now now (sym there.1 ∙ at) in
        let runs : is_lasting c now ≡ true =
        subst (λ (e : Contest). is_lasting e now ≡ true) same
        (subst (λ (n : ℕ). is_lasting d n ≡ true) now_is (runs_at d is.runs.now is.runs.begun is.runs.lasts)) in
        let heard : is_heard c.taken now ≡ true =
        subst (λ (e : Contest). is_heard e.taken now ≡ true) same
        (subst (λ (n : ℕ). is_heard d.taken n ≡ true) now_is (heard_then d.taken is.runs.now is.heard)) in
        false≢true (sym without ∙ and_from (is_lasting c now) (is_heard c.taken now) runs heard))
  ]

pub defends : (plan : Plan) (log : List Timed) (a : ℕ) (g : Contention) (time : Option ℕ) → IsContention plan log a g → IsNow log time
    → IsDefender plan log a (defender_in g.contest time)
defends plan log a g time of timed = defends_of plan log a g time of timed g.contest time refl refl

-- where none is kept none goes on
pub none_goes_on : (o : Option Contest) (time : Option ℕ) → is_some o ≡ false → defender_in o time ≡ None
none_goes_on None time e = refl
none_goes_on (Some c) time e = cc

pub taken_so : (plan : Plan) (log : List Timed) (a : ℕ) (who : Who) (o : Option Who) → IsWho plan (frames_of log) a who → IsDefender plan log a o
    → IsTaken plan log a (taken_party who o)
taken_so plan log a who (Some defender) is contested = inl (contested.0, contested.1, sym contested.2)
taken_so plan log a who None is none = inr (none, is)

pub one_taken : (plan : Plan) (log : List Timed) (a : ℕ) (v w : Who) → IsTaken plan log a v → IsTaken plan log a w → v ≡ w
one_taken plan log a v w (inl p) (inl q) =
    p.2 ∙ ap (λ (c : Contest). c.defender) (one_contested plan log a p.0 q.0 p.1 q.1) ∙ sym q.2
one_taken plan log a v w (inl p) (inr q) = absurd (q.0 p.0 p.1)
one_taken plan log a v w (inr p) (inl q) = absurd (p.0 q.0 q.1)
one_taken plan log a v w (inr p) (inr q) = one_who plan (frames_of log) a v w p.1 q.1

-- ---- a line that reports of no address

pub contests_on : (plan : Plan) (contests : Contests) (log : List Timed) (x : Timed) → HoldsNothing x.frame → AreContests plan contests log
    → AreContests plan contests (log ++ x ∷ [])
contests_on plan contests log x silent of = record {
  contentions = λ a less.
      let old : Contention = contention_at contests.table.value a in
      contention_on plan log a old old x (of.contentions a less) (silent_behind plan log old x a silent);
  claimants = subst (AreClaimants plan contests.claimants) (sym (timed_more log x))
      (known_still plan contests.claimants (frames_of log) x.frame silent of.claimants);
}

-- ---- the NAME that is guessed at an address

named_there : (plan : Plan) (frames : List Frame) (a u : ℕ) (o : Option ℕ) → IsHolder frames a None → IsLikeliest plan frames a u → IsNameAt plan u o
    → IsGuess plan frames a o
named_there plan frames a u (Some n) none l at =
    let same : l.unit ≡ at.0 = same_Some l.unit at.0 (sym l.unit_is ∙ at.1) in
    (none, u, l, ap (λ (unit : UnitPlan). unit.name) same ∙ at.2)
named_there plan frames a u None none l at = absurd (none-some l.unit (sym at ∙ l.unit_is))

-- where the address is held none is
pub held_unguessed : (plan : Plan) (frames : List Frame) (a holder : ℕ) → IsHolder frames a (Some holder) → (name : ℕ) → ¬ IsGuessed plan frames a name
held_unguessed plan frames a holder holds name guess = guess.0 holder holds

pub guessed_so : (plan : Plan) (frames : List Frame) (a : ℕ) (who : Who) (o : Option ℕ) → IsWho plan frames a who → IsLikelyName plan who o
    → IsGuess plan frames a o
guessed_so plan frames a (Holder u) o is at = subst (IsGuess plan frames a) (sym at) (held_unguessed plan frames a is.0 is.1)
guessed_so plan frames a (Stranger n) o is at = subst (IsGuess plan frames a) (sym at) (held_unguessed plan frames a n is.0)
guessed_so plan frames a (Likely u) o is at = named_there plan frames a u o is.0 is.1 at
guessed_so plan frames a (LikelyStranger n) o is at = absurd is
guessed_so plan frames a Unknown o is at =
    subst (IsGuess plan frames a) (sym at)
    (λ n guess. is.1 guess.1 (record { value = guess.2.unit; value_is = guess.2.unit_is; meets = guess.2.may }))

-- what reports of a NAME has eight bytes
pub eight : (f : Frame) → (claims_address f || cannot_claim f) ≡ true → length f.payload.items ≡ 8
eight f stated =
    let carries : carries_name f ≡ true = elim (or_cases (claims_address f) (cannot_claim f) stated) [
      | inl claims ↦ (and_parts (carries_name f) (is_address f.ident.sa) claims).0
      | inr cannot ↦ (and_parts (carries_name f) (f.ident.sa == null_address) cannot).0
    ] in
    let rest = (and_parts (f.ident.edp == 0) (pgn_of f.ident == address_claimed && length f.payload.items == 8) carries).1 in
    eqb-true (length f.payload.items) 8 (and_parts (pgn_of f.ident == address_claimed) (length f.payload.items == 8) rest).1
