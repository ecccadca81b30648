-- What is known of NAMEs, once one frame more was sent.
use Rattle.std.proofs.Common.{◌≡◌, ◌⊎◌, ◌==◌, ◌||◌, ℕ, Bool, true, if◌then◌else◌, List, [], ◌∷◌, ◌++◌, Option, Some, None, All, inl, inr, refl, sym, ap, subst}
use Rattle.std.proofs.Common.{◌∙◌, append_assoc, eqb-true}
use Rattle.std.proofs.lemmas.Bool.{cases_Bool, eqb-false}
use Rattle.std.proofs.lemmas.List.Elements.{All-nil, All-push}
use Rattle.std.specs.Option.{unwrap_or}
use Rattle.std.proofs.lemmas.Option.{none-some}
use Rattle.j39_id.specs.FrameMeaning.{cannot_claim, claims_address, name_in}
use Rattle.j39_id.specs.declared.frame.Frame.{Frame}
use Rattle.j39_network.specs.declared.plan.Plan.{Plan}
use Rattle.j39_follow.specs.Contests.{ClaimedLast, likely_named}
use Rattle.j39_follow.specs.Holders.{Claims, ClaimsOrCannot}
use Rattle.j39_follow.specs.declared.address.claimants.Claimant.{Claimant}
use Rattle.j39_follow.specs.declared.address.claimants.Claimants.{Claimants}
use Rattle.j39_follow.specs.inside.Contesting.{AreClaimants, IsClaimant, claimant_in, claimed_place, known_in}
use Rattle.j39_follow.specs.inside.Recounting.{ClaimsAt}
use Rattle.j39_follow.proofs.Addresses.Holding.{all_front, one_more, no_row}
use Rattle.j39_follow.proofs.Addresses.Recounts.{HoldsNothing, claim_new, claim_reports, new_claim, place_reports, reported_cannot}

-- ---- what was reported of a NAME last

claimed_new : (frames : List Frame) (f : Frame) (name a : ℕ) → Claims f name a → ClaimedLast (frames ++ f ∷ []) name a
claimed_new frames f name a claims = record {
  before = frames;
  claim = f;
  behind = [];
  row = refl;
  claims = claims;
  unheard = All-nil (λ (g : Frame). ¬ ClaimsOrCannot g name);
}

claimed_on : (frames : List Frame) (f : Frame) (name a : ℕ) → ClaimedLast frames name a → ¬ ClaimsOrCannot f name → ClaimedLast (frames ++ f ∷ []) name a
claimed_on frames f name a c stays = record {
  before = c.before;
  claim = c.claim;
  behind = c.behind ++ f ∷ [];
  row = ap (λ (t : List Frame). t ++ f ∷ []) c.row ∙ append_assoc c.before (c.claim ∷ c.behind) (f ∷ []);
  claims = c.claims;
  unheard = All-push (λ (g : Frame). ¬ ClaimsOrCannot g name) c.behind f c.unheard stays;
}

claimed_by : (frames : List Frame) (f : Frame) (name a : ℕ) → ClaimedLast (frames ++ f ∷ []) name a
    → Claims f name a ⊎ (ClaimedLast frames name a × ¬ ClaimsOrCannot f name)
claimed_by frames f name a c = elim (one_more frames f c.before c.claim c.behind c.row) [
  | inl last ↦ inl (subst (λ (g : Frame). Claims g name a) last.0 c.claims)
  | inr earlier ↦
      let kept = all_front (λ (g : Frame). ¬ ClaimsOrCannot g name) earlier.0 f
      (subst (All (λ (g : Frame). ¬ ClaimsOrCannot g name)) earlier.1 c.unheard) in
      inr (
        record { before = c.before; claim = c.claim; behind = earlier.0; row = earlier.2; claims = c.claims; unheard = kept.0 },
        kept.1,
      )
]

-- ---- what is known of NAMEs

pub none_known : (plan : Plan) (claimants : Claimants) → ((name : ℕ) → known_in claimants name ≡ None) → AreClaimants plan claimants []
none_known plan claimants none name =
    let is = ap (λ (o : Option Claimant). unwrap_or o (record { party = likely_named plan name; address = None })) (none name) in
    subst (IsClaimant plan [] name) (sym is) (record {
      party = refl;
      claimed = λ a e. absurd (none-some a e);
      claims = λ a c. absurd (no_row c.before c.claim c.behind c.row);
    })

-- a NAME of which the frame doesn't report
known_on : (plan : Plan) (frames : List Frame) (f : Frame) (name : ℕ) (k : Claimant) → ¬ ClaimsOrCannot f name → IsClaimant plan frames name k
    → IsClaimant plan (frames ++ f ∷ []) name k
known_on plan frames f name k silent of = record {
  party = of.party;
  claimed = λ a e. claimed_on frames f name a (of.claimed a e) silent;
  claims = λ a c. elim (claimed_by frames f name a c) [
    | inl claim ↦ absurd (silent (claim_reports f name a claim))
    | inr kept ↦ of.claims a kept.0
  ];
}

pub known_still : (plan : Plan) (claimants : Claimants) (frames : List Frame) (f : Frame) → HoldsNothing f → AreClaimants plan claimants frames
    → AreClaimants plan claimants (frames ++ f ∷ [])
known_still plan claimants frames f silent of name =
    known_on plan frames f name (claimant_in plan claimants name) (silent name) (of name)

-- the NAME of which it reports
known_new : (plan : Plan) (frames : List Frame) (f : Frame) (name : ℕ) (place : Option ℕ) (k : Claimant) → ClaimsAt f name place
    → k.party ≡ likely_named plan name → k.address ≡ place → IsClaimant plan (frames ++ f ∷ []) name k
known_new plan frames f name place k states party address = record {
  party = party;
  claimed = λ a e. claimed_new frames f name a (new_claim f name place name a states (sym address ∙ e, refl));
  claims = λ a c. elim (claimed_by frames f name a c) [
    | inl claim ↦ address ∙ (claim_new f name place name a states claim).0
    | inr kept ↦ absurd (kept.1 (place_reports f name place states))
  ];
}

pub known_more : (plan : Plan) (old new : Claimants) (frames : List Frame) (f : Frame) (name : ℕ) (place : Option ℕ) (k : Claimant)
    → ClaimsAt f name place → k.party ≡ likely_named plan name → k.address ≡ place
    → ((n : ℕ) → known_in new n ≡ (if name == n then Some k else known_in old n)) → AreClaimants plan old frames
    → AreClaimants plan new (frames ++ f ∷ [])
known_more plan old new frames f name place k states party address put of n = elim (cases_Bool (name == n)) [
  | inl same ↦
      let is : name ≡ n = eqb-true name n same in
      let found : known_in new n ≡ Some k = put n ∙ ap (λ (b : Bool). if b then Some k else known_in old n) same in
      let view = ap (λ (o : Option Claimant). unwrap_or o (record { party = likely_named plan n; address = None })) found in
      subst (IsClaimant plan (frames ++ f ∷ []) n) (sym view)
      (subst (λ (m : ℕ). IsClaimant plan (frames ++ f ∷ []) m k) is (known_new plan frames f name place k states party address))
  | inr other ↦
      let found : known_in new n ≡ known_in old n = put n ∙ ap (λ (b : Bool). if b then Some k else known_in old n) other in
      let view = ap (λ (o : Option Claimant). unwrap_or o (record { party = likely_named plan n; address = None })) found in
      let silent : ¬ ClaimsOrCannot f n = λ t. eqb-false name n other (sym (place_reports f name place states).name_is ∙ t.name_is) in
      subst (IsClaimant plan (frames ++ f ∷ []) n) (sym view) (known_on plan frames f n (claimant_in plan old n) silent (of n))
]

-- what a frame reports that claims an address or reports that a NAME can't
pub reported_place : (f : Frame) → (claims_address f || cannot_claim f) ≡ true → ClaimsAt f (name_in f) (claimed_place f)
reported_place f stated = elim (cases_Bool (claims_address f)) [
  | inl claims ↦
      subst (λ (b : Bool). ClaimsAt f (name_in f) (if b then Some f.ident.sa else None)) (sym claims)
      (record { claim = claims; name_is = refl; source_is = refl })
  | inr none ↦
      subst (λ (b : Bool). ClaimsAt f (name_in f) (if b then Some f.ident.sa else None)) (sym none)
      (reported_cannot f (name_in f) none (sym (ap (λ (b : Bool). b || cannot_claim f) none) ∙ stated) refl)
]
