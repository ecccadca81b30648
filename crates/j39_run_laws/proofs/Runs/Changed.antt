-- Functions of units that were changed at a place or at a pair: what they are here, and elsewhere.
use Rattle.std.proofs.Common.{◌≡◌, ◌≢◌, ℕ, false, ◌&&◌, eqb, refl, sym, subst, inl, inr}
use Rattle.std.proofs.lemmas.Bool.{cases_eq, eq-eqb, ne_eqb, cond-true, cond-false, and_from, and_left, and_right}
use Rattle.j39_world.specs.World.{changed, changed_pair}

-- ---- a place

-- what holds here, and elsewhere, holds of each place
pub here_or_elsewhere : (P : ℕ → Type 0) (u : ℕ) → P u → ((x : ℕ) → x ≢ u → P x) → (x : ℕ) → P x
here_or_elsewhere P u here elsewhere x = elim (cases_eq x u) [
  | inl same ↦ subst P (sym same) here
  | inr other ↦ elsewhere x other
]

pub changed_here : {X : Type 0} (f : ℕ → X) (u : ℕ) (new : X) → changed f u new u ≡ new
changed_here f u new = cond-true (eqb u u) new (f u) (eq-eqb u u refl)

pub changed_elsewhere : {X : Type 0} (f : ℕ → X) (u : ℕ) (new : X) (x : ℕ) → x ≢ u → changed f u new x ≡ f x
changed_elsewhere f u new x other = cond-false (eqb x u) new (f x) (ne_eqb x u other)

-- what holds of each place after one has changed
pub changed_each : {X : Type 0} (P : ℕ → X → Type 0) (f : ℕ → X) (u : ℕ) (new : X) → P u new → ((x : ℕ) → P x (f x)) → (x : ℕ) → P x (changed f u new x)
changed_each P f u new here old =
    here_or_elsewhere (λ x. P x (changed f u new x)) u (subst (P u) (sym (changed_here f u new)) here)
    (λ x other. subst (P x) (sym (changed_elsewhere f u new x other)) (old x))

-- ---- a pair

abbrev pub IsElsewhere : ℕ → ℕ → ℕ → ℕ → Type 0
IsElsewhere u v s t = s ≡ u → t ≡ v → ⊥

pub pair_here_or_elsewhere : (P : ℕ → ℕ → Type 0) (u v : ℕ) → P u v → ((s t : ℕ) → IsElsewhere u v s t → P s t) → (s t : ℕ) → P s t
pair_here_or_elsewhere P u v here elsewhere =
    here_or_elsewhere (λ s. (t : ℕ) → P s t) u
    (here_or_elsewhere (P u) v here (λ t other. elsewhere u t (λ _ same. other same)))
    (λ s other t. elsewhere s t (λ same _. other same))

pub not_here : (u v s t : ℕ) → IsElsewhere u v s t → (eqb s u && eqb t v) ≡ false
not_here u v s t elsewhere = elim (cases_eq s u) [
  | inr other ↦ and_left (eqb s u) (eqb t v) (ne_eqb s u other)
  | inl same ↦ and_right (eqb s u) (eqb t v) (ne_eqb t v (elsewhere same))
]

pub pair_here : {X : Type 0} (f : ℕ → ℕ → X) (u v : ℕ) (new : X) → changed_pair f u v new u v ≡ new
pair_here f u v new = cond-true (eqb u u && eqb v v) new (f u v) (and_from (eqb u u) (eqb v v) (eq-eqb u u refl) (eq-eqb v v refl))

pub pair_elsewhere : {X : Type 0} (f : ℕ → ℕ → X) (u v : ℕ) (new : X) (s t : ℕ) → IsElsewhere u v s t → changed_pair f u v new s t ≡ f s t
pair_elsewhere f u v new s t elsewhere = cond-false (eqb s u && eqb t v) new (f s t) (not_here u v s t elsewhere)

-- what holds of each pair after one has changed
pub pair_each : {X : Type 0} (P : ℕ → ℕ → X → Type 0) (f : ℕ → ℕ → X) (u v : ℕ) (new : X)
    → P u v new → ((s t : ℕ) → P s t (f s t)) → (s t : ℕ) → P s t (changed_pair f u v new s t)
pair_each P f u v new here old =
    pair_here_or_elsewhere (λ s t. P s t (changed_pair f u v new s t)) u v (subst (P u v) (sym (pair_here f u v new)) here)
    (λ s t elsewhere. subst (P s t) (sym (pair_elsewhere f u v new s t elsewhere)) (old s t))
