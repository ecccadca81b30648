-- An address has one holder, and a NAME one address.
use Rattle.std.proofs.Common.{◌≡◌, ◌⊎◌, ℕ, List, [], ◌∷◌, ◌++◌, Some, None, inl, inr, refl, sym, ap, subst, ◌∙◌, arith}
use Rattle.std.specs.List.{Contains}
use Rattle.std.proofs.lemmas.List.Elements.{All-contains, Contains-append_right}
use Rattle.j39_id.specs.declared.frame.Frame.{Frame}
use Rattle.j39_id.specs.FrameMeaning.{name_in}
use Rattle.j39_follow.specs.Holders.{HoldsByFrames, HoldsOneAddress, HasOneHolder, TakesFrom}
use Rattle.j39_follow.proofs.Addresses.Recounts.{claim_reports}

tails : {A : Type 0} (x y : A) (xs ys : List A) → x ∷ xs ≡ y ∷ ys → xs ≡ ys
tails x y xs ys e = cc

heads : {A : Type 0} (x y : A) (xs ys : List A) → x ∷ xs ≡ y ∷ ys → x ≡ y
heads x y xs ys e = cc

first_there : {A : Type 0} (x : A) (xs : List A) → Contains (x ∷ xs) x
first_there x xs = (0, omega arith, refl)

-- of two places of a list one is the other, or one stands behind the other
two_places : {A : Type 0} (b : List A) (x : A) (t c : List A) (y : A) (u : List A) → b ++ x ∷ t ≡ c ++ y ∷ u
    → (x ≡ y) ⊎ (Contains t y ⊎ Contains u x)
two_places [] x t [] y u e = inl (heads x y t u e)
two_places {A} [] x t (z ∷ c) y u e =
    let rest : t ≡ c ++ y ∷ u = tails x z t (c ++ y ∷ u) e in
    inr (inl (subst (λ (l : List A). Contains l y) (sym rest) (Contains-append_right c (y ∷ u) y (first_there y u))))
two_places {A} (z ∷ b) x t [] y u e =
    let rest : b ++ x ∷ t ≡ u = tails z y (b ++ x ∷ t) u e in
    inr (inr (subst (λ (l : List A). Contains l x) rest (Contains-append_right b (x ∷ t) x (first_there x t))))
two_places (z ∷ b) x t (w ∷ c) y u e = two_places b x t c y u (tails z w (b ++ x ∷ t) (c ++ y ∷ u) e)

pub same_name : (frames : List Frame) (a n m : ℕ) → HoldsByFrames frames n a → HoldsByFrames frames m a → n ≡ m
same_name frames a n m h k = elim (two_places h.before h.claim h.behind k.before k.claim k.behind (sym h.row ∙ k.row)) [
  | inl same ↦ sym h.claims.name_is ∙ ap name_in same ∙ k.claims.name_is
  | inr (inl later) ↦ absurd (All-contains (λ (f : Frame). ¬ TakesFrom n a f) h.behind k.claim h.kept later (inr (m, k.claims)))
  | inr (inr later) ↦ absurd (All-contains (λ (f : Frame). ¬ TakesFrom m a f) k.behind h.claim k.kept later (inr (n, h.claims)))
]

pub one_holder : HasOneHolder
one_holder frames a (Some n) (Some m) h k = ap Some (same_name frames a n m h k)
one_holder frames a (Some n) None h k = absurd (k n h)
one_holder frames a None (Some m) h k = absurd (h m k)
one_holder frames a None None h k = refl

pub one_address : HoldsOneAddress
one_address frames n a b h k = elim (two_places h.before h.claim h.behind k.before k.claim k.behind (sym h.row ∙ k.row)) [
  | inl same ↦ sym h.claims.source_is ∙ ap (λ (f : Frame). f.ident.sa) same ∙ k.claims.source_is
  | inr (inl later) ↦
      absurd (All-contains (λ (f : Frame). ¬ TakesFrom n a f) h.behind k.claim h.kept later (inl (claim_reports k.claim n b k.claims)))
  | inr (inr later) ↦
      absurd (All-contains (λ (f : Frame). ¬ TakesFrom n b f) k.behind h.claim k.kept later (inl (claim_reports h.claim n a h.claims)))
]
