-- What is known of the contests for an address, once one line more was read.
use Rattle.std.proofs.Common.{◌≡◌, ◌+◌, ◌<◌, ◌≤◌, ℕ, ◌&&◌, ◌||◌, nat_le, nat_lt, Bool, true, false, if◌then◌else◌}
use Rattle.std.proofs.Common.{List, [], ◌∷◌, ◌++◌, Option, Some, None, inl, inr, refl, sym, ap, subst, ◌∙◌, arith, append_assoc, eqb-true, eq-eqb}
use Rattle.std.proofs.lemmas.Bool.{and_parts, cases_Bool, or_cases, le-leb, leb-true, lt-ltb, ltb-true, false≢true, and_from, or_left, or_right}
use Rattle.std.proofs.lemmas.List.{append-nil}
use Rattle.std.proofs.lemmas.Option.{none-some, same_Some}
use Rattle.j39_id.specs.FrameMeaning.{cannot_claim, claims_address, name_in}
use Rattle.j39_id.specs.declared.frame.Frame.{Frame}
use Rattle.j39_network.specs.declared.plan.Plan.{Plan}
use Rattle.j39_follow.specs.Contests.{Begins, BeginsNone, Defends, EndsContest, IsContention, IsContentionBehind, IsContestBehind, IsGuessed, IsTakenBehind}
use Rattle.j39_follow.specs.Contests.{IsHeldSince, IsSoon, Leads, Opposes, Runs, Timed, claim_wait, frames_of, likely_named, nothing_contended}
use Rattle.j39_follow.specs.Holders.{Claims, HoldsByFrames, IsHolder}
use Rattle.j39_follow.specs.Who.{IsLikeliest, IsSameParty}
use Rattle.j39_follow.specs.declared.address.claim.Claim.{Claim}
use Rattle.j39_follow.specs.declared.address.contest.Contention.{Contention}
use Rattle.j39_follow.specs.declared.address.contest.Contest.{Contest}
use Rattle.j39_follow.specs.declared.address.who.Who.{Who}
use Rattle.j39_follow.specs.inside.Contesting.{IsClaimAt, defends_in, is_defended, is_place, is_lasting, is_soon, remaining_at, remaining_of, running_of}
use Rattle.j39_follow.specs.inside.Contesting.{since_of}
use Rattle.j39_follow.specs.inside.Hearing.{is_same_party}
use Rattle.j39_follow.proofs.Addresses.Heard.{party_again, party_same}
use Rattle.j39_follow.proofs.Addresses.HolderLaws.{same_name}
use Rattle.j39_follow.proofs.Addresses.Recounts.{HoldsNothing, claim_reports}

-- ---- a contest that runs

pub run_so : (kept : Option Contest) (time : Option ℕ) (c : Contest) → running_of kept time ≡ Some c → Runs kept time c
run_so None time c e = absurd (none-some c e)
run_so (Some d) None c e = absurd (none-some c e)
run_so (Some d) (Some now) c e = elim (cases_Bool (is_lasting d now)) [
  | inl runs ↦
      let parts = and_parts (nat_le d.since now) (nat_lt now (d.since + claim_wait)) runs in
      let same : d ≡ c = same_Some d c (sym (ap (λ (b : Bool). if b then Some d else None) runs) ∙ e) in
      subst (Runs (Some d) (Some now)) same (record {
        kept_is = refl;
        now = now;
        now_is = refl;
        begun = leb-true d.since now parts.0;
        lasts = ltb-true now (d.since + claim_wait) parts.1;
      })
  | inr over ↦ absurd (none-some c (sym (ap (λ (b : Bool). if b then Some d else None) over) ∙ e))
]

pub runs_at : (c : Contest) (now : ℕ) → c.since ≤ now → now < c.since + claim_wait → is_lasting c now ≡ true
runs_at c now begun lasts =
    and_from (nat_le c.since now) (nat_lt now (c.since + claim_wait)) (le-leb c.since now begun) (lt-ltb now (c.since + claim_wait) lasts)

pub run_then : (kept : Option Contest) (time : Option ℕ) (c : Contest) → Runs kept time c → running_of kept time ≡ Some c
run_then kept time c r =
    ap (λ (k : Option Contest). running_of k time) r.kept_is
    ∙ ap (λ (t : Option ℕ). running_of (Some c) t) r.now_is
    ∙ ap (λ (b : Bool). if b then Some c else None) (runs_at c r.now r.begun r.lasts)

-- ---- who defends an address

pub place_some : (o : Option ℕ) (a : ℕ) → is_place o a ≡ true → o ≡ Some a
place_some None a e = absurd (false≢true e)
place_some (Some b) a e = ap Some (eqb-true b a e)

pub some_place : (o : Option ℕ) (a : ℕ) → o ≡ Some a → is_place o a ≡ true
some_place None a e = absurd (none-some a e)
some_place (Some b) a e = eq-eqb b a (same_Some b a e)

defended_in : (o : Option Contest) (party : Who) → defends_in o party ≡ true → (c : Contest) × (o ≡ Some c) × IsSameParty c.defender party
defended_in None party e = absurd (false≢true e)
defended_in (Some c) party e = (c, refl, party_same c.defender party e)

in_defence : (o : Option Contest) (c : Contest) (party : Who) → o ≡ Some c → IsSameParty c.defender party → defends_in o party ≡ true
in_defence o c party is same = ap (λ (k : Option Contest). defends_in k party) is ∙ party_again c.defender party same

soon_so : (since time : Option ℕ) → is_soon since time ≡ true → IsSoon since time
soon_so None time e = λ first now is at. absurd (none-some first is)
soon_so (Some first) None e = λ other now is at. absurd (none-some now at)
soon_so (Some first) (Some now) e = λ other later is at.
    let same = same_Some first other is in
    let here = same_Some now later at in
    let within = leb-true now (first + claim_wait) e in
    omega (arith, same, here, within)

soon_then : (since time : Option ℕ) → IsSoon since time → is_soon since time ≡ true
soon_then None time soon = refl
soon_then (Some first) None soon = refl
soon_then (Some first) (Some now) soon = le-leb now (first + claim_wait) (soon first now refl refl)

-- the NAME that holds an address does so since so short a time, if one holds it
held_soon : (frames : List Frame) (address : ℕ) (holder since time : Option ℕ) → IsHolder frames address holder → is_soon (since_of holder since) time ≡ true
    → (name : ℕ) → HoldsByFrames frames name address → IsSoon since time
held_soon frames address None since time none e name holds = absurd (none name holds)
held_soon frames address (Some holder) since time there e name holds = soon_so since time e

soon_held : (frames : List Frame) (address : ℕ) (holder since time : Option ℕ) → IsHolder frames address holder
    → ((name : ℕ) → HoldsByFrames frames name address → IsSoon since time) → is_soon (since_of holder since) time ≡ true
soon_held frames address None since time none soon = refl
soon_held frames address (Some holder) since time there soon = soon_then since time (soon holder there)

module _ (plan : Plan) (before : List Timed) (x : Timed) (old : Contention) (k : Claim) (at : IsClaimAt plan before x k) (holder : Option ℕ)
    (holds : IsHolder (frames_of before) k.address holder) where
  abbrev again : Bool
  again = is_place k.claimant.address k.address && is_soon (since_of holder old.since) k.time

  pub defended_so : is_defended old.contest (since_of holder old.since) k ≡ true → Defends plan (frames_of before) old x.time k.address k.name
  defended_so e = elim (or_cases again (defends_in (running_of old.contest k.time) k.claimant.party) e) [
    | inl last ↦
        let parts = and_parts (is_place k.claimant.address k.address) (is_soon (since_of holder old.since) k.time) last in
        inl (
          at.claimant.claimed k.address (place_some k.claimant.address k.address parts.0),
          held_soon (frames_of before) k.address holder old.since x.time holds
              (subst (λ (t : Option ℕ). is_soon (since_of holder old.since) t ≡ true) at.time parts.1),
        )
    | inr defends ↦
        let runs = defended_in (running_of old.contest k.time) k.claimant.party defends in
        inr (
          runs.0,
          subst (λ (t : Option ℕ). Runs old.contest t runs.0) at.time (run_so old.contest k.time runs.0 runs.1),
          subst (IsSameParty runs.0.defender) at.claimant.party runs.2,
        )
  ]

  pub defended_then : Defends plan (frames_of before) old x.time k.address k.name → is_defended old.contest (since_of holder old.since) k ≡ true
  defended_then (inl last) =
      or_left again (defends_in (running_of old.contest k.time) k.claimant.party)
      (and_from (is_place k.claimant.address k.address) (is_soon (since_of holder old.since) k.time)
      (some_place k.claimant.address k.address (at.claimant.claims k.address last.0))
      (subst (λ (t : Option ℕ). is_soon (since_of holder old.since) t ≡ true) (sym at.time)
      (soon_held (frames_of before) k.address holder old.since x.time holds last.1)))
  defended_then (inr runs) =
      or_right again (defends_in (running_of old.contest k.time) k.claimant.party)
      (in_defence (running_of old.contest k.time) runs.0 k.claimant.party
      (run_then old.contest k.time runs.0 (subst (λ (t : Option ℕ). Runs old.contest t runs.0) (sym at.time) runs.1))
      (subst (IsSameParty runs.0.defender) (sym at.claimant.party) runs.2))

  pub undefended : is_defended old.contest (since_of holder old.since) k ≡ false → ¬ Defends plan (frames_of before) old x.time k.address k.name
  undefended e d = false≢true (sym e ∙ defended_then d)

-- ---- whom a claim meets

-- a likeliest unit has the smallest of the NAMEs
same_likeliest : (plan : Plan) (frames : List Frame) (a u v : ℕ) (l : IsLikeliest plan frames a u) (k : IsLikeliest plan frames a v)
    → l.unit.name ≡ k.unit.name
same_likeliest plan frames a u v l k =
    let one : l.unit.name ≤ k.unit.name = l.least v k.unit k.unit_is k.may in
    let two : k.unit.name ≤ l.unit.name = k.least u l.unit l.unit_is l.may in
    omega (arith, one, two)

pub one_guess : (plan : Plan) (frames : List Frame) (a n m : ℕ) → IsGuessed plan frames a n → IsGuessed plan frames a m → n ≡ m
one_guess plan frames a n m x y = sym x.3 ∙ same_likeliest plan frames a x.1 y.1 x.2 y.2 ∙ y.3

pub one_met : (plan : Plan) (frames : List Frame) (old : Contention) (time : Option ℕ) (a claimant n m : ℕ)
    → Opposes plan frames old time a claimant n → Opposes plan frames old time a claimant m → n ≡ m
one_met plan frames old time a claimant n m (inl x) (inl y) = same_name frames a n m x.0 y.0
one_met plan frames old time a claimant n m (inl x) (inr y) = absurd (y.0.0 n x.0)
one_met plan frames old time a claimant n m (inr x) (inl y) = absurd (x.0.0 m y.0)
one_met plan frames old time a claimant n m (inr x) (inr y) = one_guess plan frames a n m x.0 y.0

-- ---- one contention

same_contest : (c d : Contest) → c.defender ≡ d.defender → c.since ≡ d.since → c.taken ≡ d.taken → c ≡ d
same_contest c d first second third =
    let one : c ≡ record c { defender = d.defender } = ap (λ (w : Who). record c { defender = w }) first in
    let two : record c { defender = d.defender } ≡ record d { taken = c.taken } =
    ap (λ (n : ℕ). record { defender = d.defender; since = n; taken = c.taken }) second in
    one ∙ two ∙ ap (λ (o : Option ℕ). record d { taken = o }) third

one_begun : (plan : Plan) (before : List Timed) (old : Contention) (x : Timed) (a : ℕ) (c d : Contest) → Begins plan before old x a c
    → Begins plan before old x a d → c ≡ d
one_begun plan before old x a c d p q =
    let claimant : p.claimant ≡ q.claimant = sym p.claims.name_is ∙ q.claims.name_is in
    let met : p.opponent ≡ q.opponent = one_met plan (frames_of before) old x.time a q.claimant p.opponent q.opponent
    (subst (λ (n : ℕ). Opposes plan (frames_of before) old x.time a n p.opponent) claimant p.opposes) q.opposes in
    same_contest c d
    (p.defender ∙ ap (likely_named plan) met ∙ sym q.defender)
    (same_Some c.since d.since (sym p.since ∙ q.since))
    (p.taken
    ∙ ap (λ (n : ℕ). if nat_lt n p.opponent then old.taken else None) claimant
    ∙ ap (λ (n : ℕ). if nat_lt q.claimant n then old.taken else None) met
    ∙ sym q.taken)

one_contest_behind : (plan : Plan) (before : List Timed) (old : Contention) (x : Timed) (a : ℕ) (c d : Option Contest)
    → IsContestBehind plan before old x a c → IsContestBehind plan before old x a d → c ≡ d
one_contest_behind plan before old x a (Some c) (Some d) (inl p) (inl q) = ap Some (one_begun plan before old x a c d p q)
one_contest_behind plan before old x a (Some c) (Some d) (inl p) (inr q) = absurd (q.0 c p)
one_contest_behind plan before old x a (Some c) (Some d) (inr p) (inl q) = absurd (p.0 d q)
one_contest_behind plan before old x a (Some c) (Some d) (inr p) (inr q) = sym p.1 ∙ q.1
one_contest_behind plan before old x a (Some c) None (inl p) q = absurd (q.0 c p)
one_contest_behind plan before old x a (Some c) None (inr p) q = absurd (p.2 (q.1 c p.1))
one_contest_behind plan before old x a None (Some d) p (inl q) = absurd (p.0 d q)
one_contest_behind plan before old x a None (Some d) p (inr q) = absurd (q.2 (p.1 d q.1))
one_contest_behind plan before old x a None None p q = refl

one_taken_behind : (plan : Plan) (before : List Timed) (old : Contention) (x : Timed) (a : ℕ) (t u : Option ℕ)
    → IsTakenBehind plan before old x a t → IsTakenBehind plan before old x a u → t ≡ u
one_taken_behind plan before old x a t u (inl p) (inl q) = p.2 ∙ sym q.2
one_taken_behind plan before old x a t u (inl p) (inr (inl q)) = absurd (q.1 p.1)
one_taken_behind plan before old x a t u (inl p) (inr (inr q)) = absurd (q.0 p.0)
one_taken_behind plan before old x a t u (inr (inl p)) (inl q) = absurd (p.1 q.1)
one_taken_behind plan before old x a t u (inr (inl p)) (inr (inl q)) = p.2 ∙ sym q.2
one_taken_behind plan before old x a t u (inr (inl p)) (inr (inr q)) = absurd (q.0 p.0)
one_taken_behind plan before old x a t u (inr (inr p)) (inl q) = absurd (p.0 q.0)
one_taken_behind plan before old x a t u (inr (inr p)) (inr (inl q)) = absurd (p.0 q.0)
one_taken_behind plan before old x a t u (inr (inr p)) (inr (inr q)) = p.1 ∙ sym q.1

one_held_since : (before : List Timed) (old : Contention) (x : Timed) (a : ℕ) (t u : Option ℕ) → IsHeldSince before old x a t → IsHeldSince before old x a u
    → t ≡ u
one_held_since before old x a t u (inl p) (inl q) = p.1 ∙ sym q.1
one_held_since before old x a t u (inl p) (inr q) = absurd (q.0 p.0)
one_held_since before old x a t u (inr p) (inl q) = absurd (p.0 q.0)
one_held_since before old x a t u (inr p) (inr q) = p.1 ∙ sym q.1

same_contention : (g h : Contention) → g.since ≡ h.since → g.taken ≡ h.taken → g.contest ≡ h.contest → g ≡ h
same_contention g h first second third =
    let one : g ≡ record g { since = h.since } = ap (λ (t : Option ℕ). record g { since = t }) first in
    let two : record g { since = h.since } ≡ record h { contest = g.contest } =
    ap (λ (t : Option ℕ). record { since = h.since; taken = t; contest = g.contest }) second in
    one ∙ two ∙ ap (λ (c : Option Contest). record h { contest = c }) third

one_behind : (plan : Plan) (before : List Timed) (old : Contention) (x : Timed) (a : ℕ) (g h : Contention)
    → IsContentionBehind plan before old x a g → IsContentionBehind plan before old x a h → g ≡ h
one_behind plan before old x a g h p q =
    same_contention g h (one_held_since before old x a g.since h.since p.since q.since) (one_taken_behind plan before old x a g.taken h.taken p.taken q.taken)
    (one_contest_behind plan before old x a g.contest h.contest p.contest q.contest)

one_led : (plan : Plan) (a : ℕ) (before : List Timed) (old : Contention) (rest : List Timed) (g h : Contention)
    → Leads plan a before old rest g → Leads plan a before old rest h → g ≡ h
one_led plan a before old [] g h p q = p ∙ sym q
one_led plan a before old (x ∷ rest) g h p q =
    let same = one_behind plan before old x a p.0 q.0 p.1 q.1 in
    one_led plan a (before ++ x ∷ []) q.0 rest g h
    (subst (λ (next : Contention). Leads plan a (before ++ x ∷ []) next rest g) same p.2) q.2

pub one_contention : (plan : Plan) (log : List Timed) (a : ℕ) (g h : Contention) → IsContention plan log a g → IsContention plan log a h → g ≡ h
one_contention plan log a g h p q = one_led plan a [] nothing_contended log g h p q

-- ---- one line more

leads_on : (plan : Plan) (a : ℕ) (before : List Timed) (old : Contention) (rest : List Timed) (middle new : Contention) (x : Timed)
    → Leads plan a before old rest middle → IsContentionBehind plan (before ++ rest) middle x a new → Leads plan a before old (rest ++ x ∷ []) new
leads_on plan a before old [] middle new x led behind = (
  new,
  subst (λ (g : Contention). IsContentionBehind plan before g x a new) led
      (subst (λ (t : List Timed). IsContentionBehind plan t middle x a new) (append-nil before) behind),
  refl,
)
leads_on plan a before old (y ∷ rest) middle new x led behind = (
  led.0,
  led.1,
  leads_on plan a (before ++ y ∷ []) led.0 rest middle new x led.2
      (subst (λ (t : List Timed). IsContentionBehind plan t middle x a new) (sym (append_assoc before (y ∷ []) rest)) behind),
)

pub contention_on : (plan : Plan) (log : List Timed) (a : ℕ) (old new : Contention) (x : Timed) → IsContention plan log a old
    → IsContentionBehind plan log old x a new → IsContention plan (log ++ x ∷ []) a new
contention_on plan log a old new x of behind = leads_on plan a [] nothing_contended log old new x of behind

-- what is left where no contest begins
module _ (plan : Plan) (before : List Timed) (old : Contention) (x : Timed) (a : ℕ) (none : BeginsNone plan before old x a) where
  kept_none : old.contest ≡ None → IsContestBehind plan before old x a None
  kept_none is = (none, λ c some. absurd (none-some c (sym is ∙ some)))

  pub kept_so : (o : Option Contest) → old.contest ≡ o → ((c : Contest) → ¬ EndsContest plan x.frame c) → IsContestBehind plan before old x a o
  kept_so None is stays = kept_none is
  kept_so (Some c) is stays = inr (none, is, stays c)

  pub left_so : (o : Option Contest) (party : Who) → old.contest ≡ o → party ≡ likely_named plan (name_in x.frame)
      → (claims_address x.frame || cannot_claim x.frame) ≡ true → IsContestBehind plan before old x a (remaining_of party o)
  left_so None party is named stated = kept_none is
  left_so (Some c) party is named stated = elim (cases_Bool (is_same_party party c.defender)) [
    | inl same ↦
        let ends : EndsContest plan x.frame c = (
          name_in x.frame,
          record { either = stated; name_is = refl },
          subst (λ (w : Who). IsSameParty w c.defender) named (party_same party c.defender same),
        ) in
        subst (λ (b : Bool). IsContestBehind plan before old x a (if b then None else Some c)) (sym same) (
          none,
          λ d some. subst (EndsContest plan x.frame) (same_Some c d (sym is ∙ some)) ends,
        )
    | inr other ↦
        subst (λ (b : Bool). IsContestBehind plan before old x a (if b then None else Some c)) (sym other)
        (inr (
          none,
          is,
          λ ends. false≢true (sym other
              ∙ party_again party c.defender
              (subst (λ (w : Who). IsSameParty w c.defender) (sym (named ∙ ap (likely_named plan) ends.1.name_is)) ends.2)),
        ))
  ]

-- at a line that claims another address, or none
pub begins_none : (plan : Plan) (before : List Timed) (old : Contention) (x : Timed) (a : ℕ) → ((name : ℕ) → ¬ Claims x.frame name a)
    → BeginsNone plan before old x a
begins_none plan before old x a none c begins = none begins.claimant begins.claims

pub silent_behind : (plan : Plan) (before : List Timed) (old : Contention) (x : Timed) (a : ℕ) → HoldsNothing x.frame
    → IsContentionBehind plan before old x a old
silent_behind plan before old x a silent = record {
  since = inr ((λ takes. silent (name_in x.frame) (claim_reports x.frame (name_in x.frame) a takes.0)), refl);
  taken = inr (inr ((λ takes. silent (name_in x.frame) (claim_reports x.frame (name_in x.frame) a takes.0)), refl));
  contest = kept_so plan before old x a (λ c begins. silent begins.claimant (claim_reports x.frame begins.claimant a begins.claims)) old.contest refl
      (λ c ends. silent ends.0 ends.1);
}

-- one that reports of this NAME and doesn't claim the address
pub left_behind : (plan : Plan) (before : List Timed) (old : Contention) (x : Timed) (a : ℕ) (party : Who) → party ≡ likely_named plan (name_in x.frame)
    → (claims_address x.frame || cannot_claim x.frame) ≡ true → ((name : ℕ) → ¬ Claims x.frame name a)
    → IsContentionBehind plan before old x a (remaining_at party old)
left_behind plan before old x a party named stated none = record {
  since = inr ((λ takes. none (name_in x.frame) takes.0), refl);
  taken = inr (inr ((λ takes. none (name_in x.frame) takes.0), refl));
  contest = left_so plan before old x a (begins_none plan before old x a none) old.contest party refl named stated;
}
