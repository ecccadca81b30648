-- Two plans that report alike of the NAMEs of a log take the same parties to be behind its addresses.
use Rattle.std.proofs.Common.{◌≡◌, ◌≢◌, ◌⊎◌, ℕ, ◌<◌, ◌≤◌, nat_lt, Bool, if◌then◌else◌, List, [], ◌∷◌, ◌++◌, Option, Some, None, inl, inr}
use Rattle.std.proofs.Common.{refl, sym, ap, subst, ◌∙◌, arith, append_assoc}
use Rattle.std.specs.List.{slice_get}
use Rattle.std.specs.Option.{option_map_or}
use Rattle.std.proofs.lemmas.Bool.{cases_eq, cases_lt}
use Rattle.std.proofs.lemmas.Bool.Decides.{Decides-ltb}
use Rattle.std.proofs.lemmas.List.{map-append}
use Rattle.std.proofs.lemmas.Option.{same_Some}
use Rattle.j39_id.specs.FrameMeaning.{name_in}
use Rattle.j39_id.specs.declared.frame.Frame.{Frame}
use Rattle.j39_network.specs.declared.plan.Plan.{Plan}
use Rattle.j39_network.specs.declared.plan.unit_plan.UnitPlan.{UnitPlan}
use Rattle.j39_follow.specs.Contests.{Begins, Defends, EndsContest, IsContestBehind, IsContested, IsTaken, IsTakenBehind, Leads, Opposes, Timed, frames_of}
use Rattle.j39_follow.specs.Contests.{likely_named, nothing_contended}
use Rattle.j39_follow.specs.Holders.{Claims, HoldsByFrames, ClaimsOrCannot}
use Rattle.j39_follow.specs.Who.{ChangesHands, IsLikeliest, IsSameParty, IsUnitHeard, IsWho, MayHold, unit_of_name}
use Rattle.j39_follow.specs.declared.address.contest.Contention.{Contention}
use Rattle.j39_follow.specs.declared.address.contest.Contest.{Contest}
use Rattle.j39_follow.specs.declared.address.who.Who.{Who}
use Rattle.j39_follow.specs.declared.address.who.Who.TheVariants.{Holder, Likely, LikelyStranger, Stranger, Unknown}
use Rattle.j39_follow.proofs.Vehicles.Units.{AreAt, ReportAlike, above_reported, flip, turned}
use Rattle.j39_follow.proofs.Addresses.Recounts.{claim_reports}

-- each NAME of which the frames report meets G
abbrev pub ReportAll : (ℕ → Type 0) → List Frame → Type 0
ReportAll G frames = (before : List Frame) (f : Frame) (behind : List Frame) → frames ≡ before ++ f ∷ behind → (name : ℕ) → ClaimsOrCannot f name → G name

pub report_front : (G : ℕ → Type 0) (a b : List Frame) → ReportAll G (a ++ b) → ReportAll G a
report_front G a b all before f behind is =
    all before f (behind ++ b) (ap (λ (t : List Frame). t ++ b) is ∙ append_assoc before (f ∷ behind) b)

pub holder_meets : (G : ℕ → Type 0) (frames : List Frame) (name address : ℕ) → ReportAll G frames → HoldsByFrames frames name address → G name
holder_meets G frames name address all h = all h.before h.claim h.behind h.row name (claim_reports h.claim name address h.claims)

-- ---- units

pub unit_stated : (G : ℕ → Type 0) (p q : Plan) → ReportAlike G p q → (frames : List Frame) → ReportAll G frames → (u : ℕ) (a b : UnitPlan)
    → AreAt p q u a b → IsUnitHeard p frames u a → IsUnitHeard q frames u b
unit_stated G p q same frames all u a b at t = record {
  name = t.name;
  name_of = sym (same.names u a b at t.name (all t.heard.before t.heard.frame t.heard.behind t.heard.row t.name t.heard.says)) ∙ t.name_of;
  heard = t.heard;
}

pub unit_unreported : (G : ℕ → Type 0) (p q : Plan) → ReportAlike G p q → (frames : List Frame) → ReportAll G frames → (u : ℕ) (a b : UnitPlan)
    → AreAt p q u a b → ¬ IsUnitHeard p frames u a → ¬ IsUnitHeard q frames u b
unit_unreported G p q same frames all u a b at none stated =
    none (unit_stated G q p (flip G p q same) frames all u b a (turned q p u b a at) stated)

may_hold : (G : ℕ → Type 0) (p q : Plan) → ReportAlike G p q → (frames : List Frame) → ReportAll G frames → (address u : ℕ) (a b : UnitPlan)
    → AreAt p q u a b → MayHold p frames address u a → MayHold q frames address u b
may_hold G p q same frames all address u a b at m = record {
  prefers = sym (same.address u a b at) ∙ m.prefers;
  unheard = unit_unreported G p q same frames all u a b at m.unheard;
}

least_kept : (a b c d : ℕ) → nat_lt c a ≡ nat_lt d b → a ≤ c → b ≤ d
least_kept a b c d e least = elim (cases_lt d b) [
  | inl below ↦ let less = (Decides-ltb c a).0 (e ∙ (Decides-ltb d b).1 below) in absurd (omega (arith, less, least))
  | inr is ↦ is
]

less_kept : (a b c d : ℕ) → nat_lt a c ≡ nat_lt b d → a < c → b < d
less_kept a b c d e less = (Decides-ltb b d).0 (sym e ∙ (Decides-ltb a c).1 less)

likeliest : (G : ℕ → Type 0) (p q : Plan) → ReportAlike G p q → (frames : List Frame) → ReportAll G frames → (address u : ℕ)
    → IsLikeliest p frames address u → IsLikeliest q frames address u
likeliest G p q same frames all address u l = record {
  unit = there.0;
  unit_is = there.1.second;
  may = may_hold G p q same frames all address u l.unit there.0 there.1 l.may;
  least = λ v other at may.
      let found = same.back v other at in
      let back = may_hold G q p (flip G p q same) frames all address v other found.0 (turned q p v other found.0 found.1) may in
      elim (cases_eq u v) [
        | inl one ↦
            let here : slice_get q.units.items u ≡ Some other = ap (slice_get q.units.items) one ∙ at in
            let same_unit : there.0 ≡ other = same_Some _ _ (sym there.1.second ∙ here) in
            let names = ap (λ (x : UnitPlan). x.name) same_unit in
            omega (arith, names)
        | inr differ ↦
            least_kept l.unit.name there.0.name found.0.name other.name
            (same.order v u found.0 other l.unit there.0 found.1 there.1 (λ e. differ (sym e)))
            (l.least v found.0 found.1.first back)
      ];
  first = λ v other at may below.
      let found = same.back v other at in
      let back = may_hold G q p (flip G p q same) frames all address v other found.0 (turned q p v other found.0 found.1) may in
      less_kept l.unit.name there.0.name found.0.name other.name
      (same.order u v l.unit there.0 found.0 other there.1 found.1 (λ e. absurd (omega (arith, e, below))))
      (l.first v found.0 found.1.first back below);
} where
  there : (b : UnitPlan) × AreAt p q u l.unit b
  there = same.there u l.unit l.unit_is

-- ---- who

pub same_who : (G : ℕ → Type 0) (p q : Plan) → ReportAlike G p q → (frames : List Frame) → ReportAll G frames → (address : ℕ) (w : Who)
    → IsWho p frames address w → IsWho q frames address w
same_who G p q same frames all address (Holder u) is =
    (is.0, is.1, sym (same.unit is.0 (holder_meets G frames is.0 address all is.1)) ∙ is.2)
same_who G p q same frames all address (Stranger name) is =
    (is.0, sym (same.unit name (holder_meets G frames name address all is.0)) ∙ is.1)
same_who G p q same frames all address (Likely u) is = (is.0, likeliest G p q same frames all address u is.1)
same_who G p q same frames all address (LikelyStranger name) is = absurd is
same_who G p q same frames all address Unknown is = (
  is.0,
  λ u v. is.1 u (
      let found = same.back u v.value v.value_is in
      record {
        value = found.0;
        value_is = found.1.first;
        meets = may_hold G q p (flip G p q same) frames all address u v.value found.0 (turned q p u v.value found.0 found.1) v.meets;
      }
      ),
)

pub same_hands : (G : ℕ → Type 0) (p q : Plan) → ReportAlike G p q → (before : List Frame) (f : Frame) → ReportAll G (before ++ f ∷ []) → (address : ℕ)
    → ChangesHands p before f address → ChangesHands q before f address
same_hands G p q same before f all address c = record {
  old = c.old;
  new = c.new;
  old_is = same_who G p q same before (report_front G before (f ∷ []) all) address c.old c.old_is;
  new_is = same_who G p q same (before ++ f ∷ []) all address c.new c.new_is;
  another = c.another;
}

-- ---- contests

pub same_named : (G : ℕ → Type 0) (p q : Plan) → ReportAlike G p q → (name : ℕ) → G name → likely_named p name ≡ likely_named q name
same_named G p q same name g = ap (λ (o : Option ℕ). option_map_or Likely o (LikelyStranger name)) (same.unit name g)

defends : (G : ℕ → Type 0) (p q : Plan) → ReportAlike G p q → (frames : List Frame) (old : Contention) (time : Option ℕ) (address name : ℕ) → G name
    → Defends p frames old time address name → Defends q frames old time address name
defends G p q same frames old time address name g (inl last) = inl last
defends G p q same frames old time address name g (inr runs) =
    inr (runs.0, runs.1, subst (λ (w : Who). IsSameParty runs.0.defender w) (same_named G p q same name g) runs.2)

undefended : (G : ℕ → Type 0) (p q : Plan) → ReportAlike G p q → (frames : List Frame) (old : Contention) (time : Option ℕ) (address name : ℕ) → G name
    → ¬ Defends p frames old time address name → ¬ Defends q frames old time address name
undefended G p q same frames old time address name g none is = none (defends G q p (flip G p q same) frames old time address name g is)

-- the NAME of a unit that is guessed, in both plans
own_party : (p : Plan) (name u : ℕ) → unit_of_name p name ≡ Some u → likely_named p name ≡ Likely u
own_party p name u e = ap (λ (o : Option ℕ). option_map_or Likely o (LikelyStranger name)) e

same_party : (w : Who) → IsSameParty w w
same_party w = record { unit = refl; stranger = refl }

module _ (G : ℕ → Type 0) (p q : Plan) (same : ReportAlike G p q) (before : List Timed) (x : Timed)
    (all : ReportAll G (frames_of before ++ x.frame ∷ [])) (old : Contention) (address : ℕ) where
  abbrev frames : List Frame
  frames = frames_of before

  earlier : ReportAll G frames
  earlier = report_front G frames (x.frame ∷ []) all

  reported_here : (name : ℕ) → ClaimsOrCannot x.frame name → G name
  reported_here name t = all frames x.frame [] refl name t

  claimed_here : (name : ℕ) → Claims x.frame name address → G name
  claimed_here name c = reported_here name (claim_reports x.frame name address c)

  begins : (c : Contest) → Begins p before old x address c → Begins q before old x address c
  begins c b = go b.opposes where
    g : G b.claimant
    g = claimed_here b.claimant b.claims

    another : (opponent : ℕ) → likely_named p b.opponent ≡ likely_named q opponent
        → ¬ IsSameParty (likely_named q opponent) (likely_named q b.claimant)
    another opponent e is =
        let turned_back = subst (λ (w : Who). IsSameParty w (likely_named q b.claimant)) (sym e) is in
        b.another (subst (λ (w : Who). IsSameParty (likely_named p b.opponent) w) (sym (same_named G p q same b.claimant g)) turned_back)

    go : Opposes p frames old x.time address b.claimant b.opponent → Begins q before old x address c
    go (inl held) =
        let parties = same_named G p q same b.opponent (holder_meets G frames b.opponent address earlier held.0) in
        let cause : (b.opponent < b.claimant) ⊎ (¬ Defends q frames old x.time address b.claimant) = elim held.1 [
          | inl smaller ↦ inl smaller
          | inr none ↦ inr (undefended G p q same frames old x.time address b.claimant g none)
        ] in
        record {
          claimant = b.claimant;
          opponent = b.opponent;
          pool = b.pool;
          claims = b.claims;
          since = b.since;
          free = b.free;
          opposes = inl (held.0, cause);
          another = another b.opponent parties;
          defender = b.defender ∙ parties;
          taken = b.taken;
        }
    go (inr (guessed, less)) =
        let u = guessed.1 in
        let l = guessed.2 in
        let there = same.there u l.unit l.unit_is in
        let new = likeliest G p q same frames earlier address u l in
        let at : AreAt p q u l.unit new.unit = record { first = l.unit_is; second = new.unit_is } in
        let mine : likely_named p b.opponent ≡ Likely u =
        ap (likely_named p) (sym guessed.3) ∙ own_party p l.unit.name u (same.own u l.unit new.unit at) in
        let parties : likely_named p b.opponent ≡ likely_named q new.unit.name =
        mine ∙ sym (own_party q new.unit.name u (same.own_back u l.unit new.unit at)) in
        let other : unit_of_name p b.claimant ≢ Some u =
        λ e. b.another (subst (λ (w : Who). IsSameParty (likely_named p b.opponent) w) (mine ∙ sym (own_party p b.claimant u e))
        (same_party (likely_named p b.opponent))) in
        let below : l.unit.name < b.claimant = subst (λ (n : ℕ). n < b.claimant) (sym guessed.3) less in
        let boxed : new.unit.name < b.claimant = less_kept l.unit.name new.unit.name b.claimant b.claimant
        (same.against u l.unit new.unit at b.claimant g other) below in
        let kept : (if nat_lt b.claimant b.opponent then old.taken else None) ≡ (if nat_lt b.claimant new.unit.name then old.taken else None) =
        ap (λ (t : Bool). if t then old.taken else None) (above_reported b.claimant b.opponent less ∙ sym (above_reported b.claimant new.unit.name boxed)) in
        record {
          claimant = b.claimant;
          opponent = new.unit.name;
          pool = b.pool;
          claims = b.claims;
          since = b.since;
          free = b.free;
          opposes = inr ((guessed.0, u, new, refl), boxed);
          another = another new.unit.name parties;
          defender = b.defender ∙ parties;
          taken = b.taken ∙ kept;
        }

  ends : (c : Contest) → EndsContest p x.frame c → EndsContest q x.frame c
  ends c e = (e.0, e.1, subst (λ (w : Who). IsSameParty w c.defender) (same_named G p q same e.0 (reported_here e.0 e.1)) e.2)

  taken_behind : (taken : Option ℕ) → IsTakenBehind p before old x address taken → IsTakenBehind q before old x address taken
  taken_behind taken (inl t) =
      inl (t.0, defends G p q same frames old x.time address (name_in x.frame) (claimed_here (name_in x.frame) t.0.0) t.1, t.2)
  taken_behind taken (inr (inl t)) =
      inr (inl (t.0, undefended G p q same frames old x.time address (name_in x.frame) (claimed_here (name_in x.frame) t.0.0) t.1, t.2))
  taken_behind taken (inr (inr t)) = inr (inr t)

contest_behind : (G : ℕ → Type 0) (p q : Plan) → ReportAlike G p q → (before : List Timed) (x : Timed) → ReportAll G (frames_of before ++ x.frame ∷ [])
    → (old : Contention) (address : ℕ) (c : Option Contest) → IsContestBehind p before old x address c → IsContestBehind q before old x address c
contest_behind G p q same before x all old address (Some c) (inl b) = inl (begins G p q same before x all old address c b)
contest_behind G p q same before x all old address (Some c) (inr kept) = inr (
  λ d b. kept.0 d (begins G q p (flip G p q same) before x all old address d b),
  kept.1,
  λ e. kept.2 (ends G q p (flip G p q same) before x all old address c e),
)
contest_behind G p q same before x all old address None none = (
  λ d b. none.0 d (begins G q p (flip G p q same) before x all old address d b),
  λ c e. ends G p q same before x all old address c (none.1 c e),
)

-- ---- a log

frames_more : (before : List Timed) (x : Timed) → frames_of (before ++ x ∷ []) ≡ frames_of before ++ x.frame ∷ []
frames_more before x = map-append (λ (t : Timed). t.frame) before (x ∷ [])

leads : (G : ℕ → Type 0) (p q : Plan) → ReportAlike G p q → (address : ℕ) (before : List Timed) (old : Contention) (rest : List Timed) (new : Contention)
    → ReportAll G (frames_of (before ++ rest)) → Leads p address before old rest new → Leads q address before old rest new
leads G p q same address before old [] new all is = is
leads G p q same address before old (x ∷ rest) new all is =
    let parted = append_assoc before (x ∷ []) rest in
    let further : ReportAll G (frames_of ((before ++ x ∷ []) ++ rest)) = subst (λ (t : List Timed). ReportAll G (frames_of t)) (sym parted) all in
    let line : ReportAll G (frames_of (before ++ x ∷ [])) = report_front G (frames_of (before ++ x ∷ [])) (frames_of rest)
    (subst (ReportAll G) (map-append (λ (t : Timed). t.frame) (before ++ x ∷ []) rest) further) in
    let here : ReportAll G (frames_of before ++ x.frame ∷ []) = subst (ReportAll G) (frames_more before x) line in (
      is.0,
      record {
        since = is.1.since;
        taken = taken_behind G p q same before x here old address is.0.taken is.1.taken;
        contest = contest_behind G p q same before x here old address is.0.contest is.1.contest;
      },
      leads G p q same address (before ++ x ∷ []) is.0 rest new further is.2,
    )

contested : (G : ℕ → Type 0) (p q : Plan) → ReportAlike G p q → (log : List Timed) → ReportAll G (frames_of log) → (address : ℕ) (c : Contest)
    → IsContested p log address c → IsContested q log address c
contested G p q same log all address c is = record {
  contention = is.contention;
  contention_is = leads G p q same address [] nothing_contended log is.contention all is.contention_is;
  time = is.time;
  time_is = is.time_is;
  runs = is.runs;
  heard = is.heard;
}

pub same_taken : (G : ℕ → Type 0) (p q : Plan) → ReportAlike G p q → (log : List Timed) → ReportAll G (frames_of log) → (address : ℕ) (w : Who)
    → IsTaken p log address w → IsTaken q log address w
same_taken G p q same log all address w (inl is) = inl (is.0, contested G p q same log all address is.0 is.1, is.2)
same_taken G p q same log all address w (inr is) = inr (
  λ c held. is.0 c (contested G q p (flip G p q same) log all address c held),
  same_who G p q same (frames_of log) all address w is.1,
)
