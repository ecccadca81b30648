-- A table of holders, once one frame more was sent.
use Rattle.std.proofs.Common.{◌≡◌, ◌≢◌, ◌⊎◌, if◌then◌else◌, ℕ, All, length, Bool, true, false, List, [], ◌∷◌}
use Rattle.std.proofs.Common.{◌++◌, Option, Some, None, inl, inr, refl, sym, ap, subst, ◌∙◌}
use Rattle.std.proofs.lemmas.Option.{same_Some}
use Rattle.std.proofs.lemmas.Bool.{true≢false, or_from, or_left, or_right}
use Rattle.j39_id.specs.declared.frame.Frame.{Frame}
use Rattle.j39_id.specs.FrameMeaning.{cannot_claim, claims_address, name_in}
use Rattle.j39_follow.specs.Holders.{Claims, HoldsByFrames, TakesFrom, ClaimsOrCannot}
use Rattle.j39_follow.specs.Who.{IsUnitHeard, is_name_of}
use Rattle.j39_follow.specs.declared.address.holders.Holders.{Holders}
use Rattle.j39_network.specs.declared.plan.Plan.{Plan}
use Rattle.j39_network.specs.declared.plan.unit_plan.UnitPlan.{UnitPlan}
use Rattle.j39_follow.specs.inside.Recounting.{IsMoved, IsNew, Recounts, ClaimsAt, is_marked}
use Rattle.j39_follow.proofs.Addresses.Holding.{all_front, held_by, holds_new, holds_on, one_more, stated_by, reported_new, reported_on}

-- a claim reports of the NAME
pub claim_reports : (f : Frame) (name address : ℕ) → Claims f name address → ClaimsOrCannot f name
claim_reports f name address c = record { either = or_left (claims_address f) (cannot_claim f) c.claim; name_is = c.name_is }

pub place_reports : (f : Frame) (name : ℕ) (place : Option ℕ) → ClaimsAt f name place → ClaimsOrCannot f name
place_reports f name (Some a) t = claim_reports f name a t
place_reports f name None t = t.0

-- a frame claims what it reports alone
pub claim_new : (f : Frame) (name : ℕ) (place : Option ℕ) (n a : ℕ) → ClaimsAt f name place → Claims f n a → IsNew place name a n
claim_new f name (Some b) n a t c = (ap Some (sym t.source_is ∙ c.source_is), sym c.name_is ∙ t.name_is)
claim_new f name None n a t c = absurd (t.1 n a c)

pub new_claim : (f : Frame) (name : ℕ) (place : Option ℕ) (n a : ℕ) → ClaimsAt f name place → IsNew place name a n → Claims f n a
new_claim f name (Some b) n a t is = rw (is.1, sym (same_Some b a is.0)) t
new_claim f name None n a t is = absurd (let e = is.0 in cc)

-- what it takes from others
pub takes : (f : Frame) (name : ℕ) (place : Option ℕ) (n a : ℕ) → ClaimsAt f name place → n ≢ name → place ≢ Some a → ¬ TakesFrom n a f
takes f name place n a t other elsewhere (inl states) = other (sym states.name_is ∙ (place_reports f name place t).name_is)
takes f name place n a t other elsewhere (inr claim) = elsewhere (claim_new f name place claim.0 a t claim.1).0

reported_after : (b : Bool) (x : Bool) (A B : Type 0) → (b ≡ true → A) → (x ≡ true → A) → (if b then true else x) ≡ true → A
reported_after true x A B first second e = first refl
reported_after false x A B first second e = second e

unreported_after : (b : Bool) (x : Bool) → (if b then true else x) ≡ false → (b ≡ false) × (x ≡ false)
unreported_after true x e = cc
unreported_after false x e = (refl, e)

-- what was reported of a unit stays reported
unit_reported_on : (plan : Plan) (frames : List Frame) (f : Frame) (u : ℕ) (unit : UnitPlan) → IsUnitHeard plan frames u unit
    → IsUnitHeard plan (frames ++ f ∷ []) u unit
unit_reported_on plan frames f u unit stated = record { name = stated.name; name_of = stated.name_of; heard = reported_on frames f stated.name stated.heard }

-- a claim by which an address is held is the last frame, or one before it, with as many frames before it
pub claimed_by : (frames : List Frame) (f : Frame) (n a : ℕ) (h : HoldsByFrames (frames ++ f ∷ []) n a)
    → (Claims f n a × (length h.before ≡ length frames))
    ⊎ ((k : HoldsByFrames frames n a) × (length h.before ≡ length k.before) × ¬ TakesFrom n a f)
claimed_by frames f n a h = elim (one_more frames f h.before h.claim h.behind h.row) [
  | inl last ↦ inl (subst (λ (g : Frame). Claims g n a) last.0 h.claims, ap (λ (t : List Frame). length t) last.1)
  | inr earlier ↦
      let kept = all_front (λ (g : Frame). ¬ TakesFrom n a g) earlier.0 f
      (subst (All (λ (g : Frame). ¬ TakesFrom n a g)) earlier.1 h.kept) in
      inr (
        record { before = h.before; claim = h.claim; behind = earlier.0; row = earlier.2; claims = h.claims; kept = kept.0 },
        refl,
        kept.1,
      )
]

pub moved : (plan : Plan) (old new : Holders) (frames : List Frame) (f : Frame) (name : ℕ) (place : Option ℕ) (count : ℕ) → Recounts plan old frames
    → ClaimsAt f name place → length frames ≡ count
    → IsMoved plan old new name place count → Recounts plan new (frames ++ f ∷ [])
moved plan old new frames f name place count of t many m = record {
  held = λ a n at. elim (m.held a n at) [
    | inl is ↦ holds_new frames f n a (new_claim f name place n a t is)
    | inr stays ↦ holds_on frames f n a (of.held a n stays.2) (takes f name place n a t stays.0 stays.1)
  ];
  holds = λ a n h. m.holds a n (elim (held_by frames f n a h) [
    | inl claim ↦ inl (claim_new f name place n a t claim)
    | inr kept ↦ inr (
      (λ e. kept.1 (inl (subst (ClaimsOrCannot f) (sym e) (place_reports f name place t)))),
      (λ e. kept.1 (inr (name, new_claim f name place name a t (e, refl)))),
      of.holds a n kept.0,
    )
  ]);
  heard = λ u unit at yes.
      reported_after (is_name_of plan u unit name) (is_marked old u) (IsUnitHeard plan (frames ++ f ∷ []) u unit) ⊥
      (λ same. record { name = name; name_of = same; heard = reported_new frames f name (place_reports f name place t) })
      (λ before. unit_reported_on plan frames f u unit (of.heard u unit at before))
      (sym (m.marked u unit at) ∙ yes);
  unheard = λ u unit at no stated.
      let both = unreported_after (is_name_of plan u unit name) (is_marked old u) (sym (m.marked u unit at) ∙ no) in
      elim (stated_by frames f stated.name stated.heard) [
        | inl states ↦
            let same : stated.name ≡ name = sym states.name_is ∙ (place_reports f name place t).name_is in
            true≢false (sym (subst (λ (n : ℕ). is_name_of plan u unit n ≡ true) same stated.name_of) ∙ both.0)
        | inr earlier ↦ of.unheard u unit at both.1 (record { name = stated.name; name_of = stated.name_of; heard = earlier })
      ];
  since = λ a n h. elim (claimed_by frames f n a h) [
    | inl last ↦ m.claimed.here a (claim_new f name place n a t last.0).0 ∙ sym many ∙ sym last.1
    | inr earlier ↦
        m.claimed.there a (λ e. earlier.2 (inr (name, new_claim f name place name a t (e, refl)))) ∙ of.since a n earlier.0 ∙ sym earlier.1
  ];
}

-- ---- a frame that reports of no NAME changes nothing

abbrev pub HoldsNothing : Frame → Type 0
HoldsNothing f = (name : ℕ) → ¬ ClaimsOrCannot f name

takes_nothing : (f : Frame) (n a : ℕ) → HoldsNothing f → ¬ TakesFrom n a f
takes_nothing f n a silent (inl states) = silent n states
takes_nothing f n a silent (inr claim) = silent claim.0 (claim_reports f claim.0 a claim.1)

pub held_before : (frames : List Frame) (f : Frame) (n a : ℕ) → HoldsNothing f → HoldsByFrames (frames ++ f ∷ []) n a → HoldsByFrames frames n a
held_before frames f n a silent h = elim (held_by frames f n a h) [
  | inl claim ↦ absurd (silent n (claim_reports f n a claim))
  | inr kept ↦ kept.0
]

pub nothing_reported : (plan : Plan) (holders : Holders) (frames : List Frame) (f : Frame) → HoldsNothing f → Recounts plan holders frames
    → Recounts plan holders (frames ++ f ∷ [])
nothing_reported plan holders frames f silent of = record {
  held = λ a n at. holds_on frames f n a (of.held a n at) (takes_nothing f n a silent);
  holds = λ a n h. of.holds a n (held_before frames f n a silent h);
  heard = λ u unit at yes. unit_reported_on plan frames f u unit (of.heard u unit at yes);
  unheard = λ u unit at no stated. elim (stated_by frames f stated.name stated.heard) [
    | inl states ↦ silent stated.name states
    | inr earlier ↦ of.unheard u unit at no (record { name = stated.name; name_of = stated.name_of; heard = earlier })
  ];
  since = λ a n h. elim (claimed_by frames f n a h) [
    | inl last ↦ absurd (silent n (claim_reports f n a last.0))
    | inr earlier ↦ of.since a n earlier.0 ∙ sym earlier.1
  ];
}

-- ---- what a frame reports

-- one that claims no address, and isn't of a unit that can't
pub silent : (f : Frame) → claims_address f ≡ false → cannot_claim f ≡ false → (name : ℕ) → ¬ ClaimsOrCannot f name
silent f claims cannot name states =
    true≢false (sym states.either ∙ or_from (claims_address f) (cannot_claim f) claims cannot)

pub reported_cannot : (f : Frame) (name : ℕ) → claims_address f ≡ false → cannot_claim f ≡ true → name_in f ≡ name → ClaimsAt f name None
reported_cannot f name claims cannot is = (
  record { either = or_right (claims_address f) (cannot_claim f) cannot; name_is = is },
  λ other address c. true≢false (sym c.claim ∙ claims),
)
