-- Sums over units, and over pairs of units, of which one place or one row has changed.
use Rattle.std.proofs.Common.{◌≡◌, ◌≢◌, ℕ, zero, suc, ◌+◌, ◌*◌, ◌<◌, ◌≤◌, refl, sym, ap, subst, arith, inl, inr}
use Rattle.std.proofs.lemmas.Bool.{cases_eq}
use Rattle.j39_world.specs.World.{changed, changed_pair}
use Rattle.j39_run_laws.proofs.Runs.Changed.{IsElsewhere, changed_here, changed_elsewhere, pair_here, pair_elsewhere}
use Rattle.j39_run_laws.proofs.Settling.Totals.{total, total-rise}

total_same : (n : ℕ) (f g : ℕ → ℕ) → ((i : ℕ) → i < n → f i ≡ g i) → total n f ≡ total n g
unfolding total
total_same zero f g same = refl
total_same (suc n) f g same =
    let before : total n f ≡ total n g = total_same n f g (λ i inside. same i (omega arith)) in
    let last : f n ≡ g n = same n (omega arith) in
    omega arith

-- where one value has changed alone
total_at : (n : ℕ) (f g : ℕ → ℕ) (u : ℕ) → u < n → ((i : ℕ) → i ≢ u → f i ≡ g i) → total n f + g u ≡ total n g + f u
unfolding total
total_at zero f g u in_u same = absurd (omega arith)
total_at (suc n) f g u in_u same = elim (cases_eq u n) [
  | inl at_u ↦
      let before : total n f ≡ total n g = total_same n f g (λ i inside. same i (λ e. absurd (omega arith))) in
      let here : g u ≡ g n = ap g at_u in
      let there : f u ≡ f n = ap f at_u in
      omega arith
  | inr not_u ↦
      let before : total n f + g u ≡ total n g + f u = total_at n f g u (omega arith) same in
      let last : f n ≡ g n = same n (λ e. not_u (sym e)) in
      omega arith
]

pub total_changed : {X : Type 0} (weigh : X → ℕ) (n : ℕ) (f : ℕ → X) (u : ℕ) (new : X) → u < n
    → total n (λ i. weigh (changed f u new i)) + weigh (f u) ≡ total n (λ i. weigh (f i)) + weigh new
total_changed weigh n f u new in_u =
    let e = total_at n (λ i. weigh (changed f u new i)) (λ i. weigh (f i)) u in_u (λ i other. ap weigh (changed_elsewhere f u new i other)) in
    subst (λ x. total n (λ i. weigh (changed f u new i)) + weigh (f u) ≡ total n (λ i. weigh (f i)) + weigh x) (changed_here f u new) e

-- ---- over pairs

abbrev pub pairs : ℕ → (ℕ → ℕ → ℕ) → ℕ
pairs n f = total n (λ s. total n (f s))

pub pairs_changed : {X : Type 0} (weigh : X → ℕ) (n : ℕ) (f : ℕ → ℕ → X) (u v : ℕ) (new : X) → u < n → v < n
    → pairs n (λ s t. weigh (changed_pair f u v new s t)) + weigh (f u v) ≡ pairs n (λ s t. weigh (f s t)) + weigh new
pairs_changed weigh n f u v new in_u in_v =
    let more : ℕ → ℕ → ℕ = λ s t. weigh (changed_pair f u v new s t) in
    let old : ℕ → ℕ → ℕ = λ s t. weigh (f s t) in
    let apart : (s t : ℕ) → IsElsewhere u v s t → more s t ≡ old s t = λ s t elsewhere. ap weigh (pair_elsewhere f u v new s t elsewhere) in
    let rows : pairs n more + total n (old u) ≡ pairs n old + total n (more u) =
    total_at n (λ s. total n (more s)) (λ s. total n (old s)) u in_u
    (λ s other. total_same n (more s) (old s) (λ t inside. apart s t (λ same _. other same))) in
    let row : total n (more u) + old u v ≡ total n (old u) + more u v =
    total_at n (more u) (old u) v in_v (λ t other. apart u t (λ _ same. other same)) in
    let here : more u v ≡ weigh new = ap weigh (pair_here f u v new) in
    omega (arith, rows, row, here)

-- where one row rises by so much at each place
pub pairs_row : (n : ℕ) (more old : ℕ → ℕ → ℕ) (u e : ℕ) → u < n → ((s t : ℕ) → s ≢ u → more s t ≡ old s t)
    → ((t : ℕ) → more u t ≤ old u t + e) → pairs n more ≤ pairs n old + n * e
pairs_row n more old u e in_u same rise =
    let rows : pairs n more + total n (old u) ≡ pairs n old + total n (more u) =
    total_at n (λ s. total n (more s)) (λ s. total n (old s)) u in_u (λ s other. total_same n (more s) (old s) (λ t _. same s t other)) in
    let row : total n (more u) ≤ total n (old u) + n * e = total-rise n (more u) (old u) e (λ t _. rise t) in
    omega (arith, rows, row)
