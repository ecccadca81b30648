-- Who holds an address once one frame more was sent.
use Rattle.std.proofs.Common.{◌≡◌, ◌⊎◌, ℕ, List, [], ◌∷◌, ◌++◌, All, inl, inr, refl, sym, ap, subst, ◌∙◌, append_assoc}
use Rattle.std.proofs.lemmas.List.{same_from_push}
use Rattle.std.proofs.lemmas.List.Elements.{All-nil, All-cons, All-head, All-tail, All-push}
use Rattle.j39_id.specs.declared.frame.Frame.{Frame}
use Rattle.j39_follow.specs.Holders.{Claims, HoldsByFrames, IsNameHeard, TakesFrom, ClaimsOrCannot}

-- an empty list has no place
pub no_row : {A : Type 0} (front : List A) (x : A) (back : List A) → [] ≡ front ++ x ∷ back → ⊥
no_row [] x back e = cc
no_row (y ∷ front) x back e = cc

-- a list is empty or has a last element
pub ending : {A : Type 0} (xs : List A) → (xs ≡ []) ⊎ ((front : List A) × (last : A) × (xs ≡ front ++ last ∷ []))
ending [] = inl refl
ending {A} (x ∷ xs) = elim (ending xs) [
  | inl empty ↦ inr ([], x, ap (λ (t : List A). x ∷ t) empty)
  | inr more ↦ inr (x ∷ more.0, more.1, ap (λ (t : List A). x ∷ t) more.2)
]

pub all_front : {A : Type 0} (P : A → Type 0) (xs : List A) (y : A) → All P (xs ++ y ∷ []) → All P xs × P y
all_front P [] y all = (All-nil P, All-head P y [] all)
all_front P (x ∷ xs) y all =
    let rest = all_front P xs y (All-tail P x (xs ++ y ∷ []) all) in
    (All-cons P x xs (All-head P x (xs ++ y ∷ []) all) rest.0, rest.1)

-- a place of the list with one more element is the last, or one before it
pub one_more : {A : Type 0} (xs : List A) (y : A) (before : List A) (x : A) (behind : List A) → xs ++ y ∷ [] ≡ before ++ x ∷ behind
    → ((x ≡ y) × (before ≡ xs) × (behind ≡ [])) ⊎ ((front : List A) × (behind ≡ front ++ y ∷ []) × (xs ≡ before ++ x ∷ front))
one_more {A} xs y before x behind row = elim (ending behind) [
  | inl empty ↦
      let same = same_from_push xs before y x (row ∙ ap (λ (t : List A). before ++ x ∷ t) empty) in
      inl (sym same.1, sym same.0, empty)
  | inr more ↦
      let split : xs ++ y ∷ [] ≡ (before ++ x ∷ more.0) ++ more.1 ∷ [] =
      row ∙ ap (λ (t : List A). before ++ x ∷ t) more.2 ∙ sym (append_assoc before (x ∷ more.0) (more.1 ∷ [])) in
      let same = same_from_push xs (before ++ x ∷ more.0) y more.1 split in
      inr (more.0, more.2 ∙ ap (λ (z : A). more.0 ++ z ∷ []) (sym same.1), same.0)
]

-- ---- holders

pub holds_new : (frames : List Frame) (f : Frame) (name address : ℕ) → Claims f name address → HoldsByFrames (frames ++ f ∷ []) name address
holds_new frames f name address claims = record {
  before = frames;
  claim = f;
  behind = [];
  row = refl;
  claims = claims;
  kept = All-nil (λ (g : Frame). ¬ TakesFrom name address g);
}

pub holds_on : (frames : List Frame) (f : Frame) (name address : ℕ) → HoldsByFrames frames name address → ¬ TakesFrom name address f
    → HoldsByFrames (frames ++ f ∷ []) name address
holds_on frames f name address h stays = record {
  before = h.before;
  claim = h.claim;
  behind = h.behind ++ f ∷ [];
  row = ap (λ (t : List Frame). t ++ f ∷ []) h.row ∙ append_assoc h.before (h.claim ∷ h.behind) (f ∷ []);
  claims = h.claims;
  kept = All-push (λ (g : Frame). ¬ TakesFrom name address g) h.behind f h.kept stays;
}

pub held_by : (frames : List Frame) (f : Frame) (name address : ℕ) → HoldsByFrames (frames ++ f ∷ []) name address
    → Claims f name address ⊎ (HoldsByFrames frames name address × ¬ TakesFrom name address f)
held_by frames f name address h = elim (one_more frames f h.before h.claim h.behind h.row) [
  | inl last ↦ inl (subst (λ (g : Frame). Claims g name address) last.0 h.claims)
  | inr earlier ↦
      let kept = all_front (λ (g : Frame). ¬ TakesFrom name address g) earlier.0 f
      (subst (All (λ (g : Frame). ¬ TakesFrom name address g)) earlier.1 h.kept) in
      inr (
        record { before = h.before; claim = h.claim; behind = earlier.0; row = earlier.2; claims = h.claims; kept = kept.0 },
        kept.1,
      )
]

-- ---- NAMEs of which something was reported

pub reported_new : (frames : List Frame) (f : Frame) (name : ℕ) → ClaimsOrCannot f name → IsNameHeard (frames ++ f ∷ []) name
reported_new frames f name states = record { before = frames; frame = f; behind = []; row = refl; says = states }

pub reported_on : (frames : List Frame) (f : Frame) (name : ℕ) → IsNameHeard frames name → IsNameHeard (frames ++ f ∷ []) name
reported_on frames f name stated = record {
  before = stated.before;
  frame = stated.frame;
  behind = stated.behind ++ f ∷ [];
  row = ap (λ (t : List Frame). t ++ f ∷ []) stated.row ∙ append_assoc stated.before (stated.frame ∷ stated.behind) (f ∷ []);
  says = stated.says;
}

pub stated_by : (frames : List Frame) (f : Frame) (name : ℕ) → IsNameHeard (frames ++ f ∷ []) name → ClaimsOrCannot f name ⊎ IsNameHeard frames name
stated_by frames f name stated = elim (one_more frames f stated.before stated.frame stated.behind stated.row) [
  | inl last ↦ inl (subst (λ (g : Frame). ClaimsOrCannot g name) last.0 stated.says)
  | inr earlier ↦
      inr (record { before = stated.before; frame = stated.frame; behind = earlier.0; row = earlier.2; says = stated.says })
]
