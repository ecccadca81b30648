-- Picking goes on.
use Rattle.std.proofs.Common.{◌≡◌, ℕ, zero, suc, ◌+◌, ◌<◌, List, [], ◌∷◌, ◌++◌, Bool, true, false, cond, Option, Some, None, map, length, get_or, drop, take}
use Rattle.std.proofs.Common.{refl, sym, ap, subst, ◌∙◌, arith, add-one, append_assoc}
use Rattle.std.specs.List.{AllZip}
use Rattle.j39_network.specs.declared.plan.group_plan.GroupPlan.{GroupPlan}
use Rattle.j39_variants.specs.VariantPlans.{IsCopyOfGroup, flag_at, picked, places}

pub picked_nothing : {X : Type 0} (bs : List Bool) (xs : List X) → xs ≡ [] → picked bs xs ≡ []
picked_nothing [] xs e = refl
picked_nothing (b ∷ bs) [] e = refl
picked_nothing (b ∷ bs) (x ∷ xs) e = cc

pub picked_step : {X : Type 0} (bs : List Bool) (xs : List X) (i : ℕ) (d : X) → i < length xs
    → picked (drop i bs) (drop i xs)
    ≡ cond (flag_at bs i) (get_or xs i d ∷ picked (drop (suc i) bs) (drop (suc i) xs)) (picked (drop (suc i) bs) (drop (suc i) xs))
picked_step bs [] i d below = absurd (omega arith)
picked_step [] (x ∷ xs) zero d below = refl
picked_step [] (x ∷ xs) (suc i) d below = refl
picked_step (true ∷ bs) (x ∷ xs) zero d below = refl
picked_step (false ∷ bs) (x ∷ xs) zero d below = refl
picked_step (b ∷ bs) (x ∷ xs) (suc i) d below = picked_step bs xs i d (omega arith)

-- one more is picked
pub picks : {X : Type 0} (bs : List Bool) (xs done all : List X) (i : ℕ) (d : X) → i < length xs → flag_at bs i ≡ true
    → done ++ picked (drop i bs) (drop i xs) ≡ all → (done ++ get_or xs i d ∷ []) ++ picked (drop (i + 1) bs) (drop (i + 1) xs) ≡ all
picks bs xs done all i d below flag so_far =
    let step = rw flag at (picked_step bs xs i d below) in
    rw (append_assoc done (get_or xs i d ∷ []) (picked (drop (i + 1) bs) (drop (i + 1) xs)), add-one, ← step) so_far

-- or passed over
pub passes : {X : Type 0} (bs : List Bool) (xs done all : List X) (i : ℕ) (d : X) → i < length xs → flag_at bs i ≡ false
    → done ++ picked (drop i bs) (drop i xs) ≡ all → done ++ picked (drop (i + 1) bs) (drop (i + 1) xs) ≡ all
passes bs xs done all i d below flag so_far =
    let step = rw flag at (picked_step bs xs i d below) in
    rw (add-one, ← step) so_far

-- the same of groups that are copied
abbrev pub Copied : List Bool → List GroupPlan → ℕ → List GroupPlan → Type 0
Copied bs gs i done = (more : List GroupPlan) → AllZip IsCopyOfGroup (picked (drop i bs) (drop i gs)) more → AllZip IsCopyOfGroup (picked bs gs) (done ++ more)

pub copies_one : (bs : List Bool) (gs done : List GroupPlan) (i : ℕ) (g h : GroupPlan) → i < length gs → flag_at bs i ≡ true → g ≡ get_or gs i g
    → IsCopyOfGroup g h → Copied bs gs i done → Copied bs gs (i + 1) (done ++ h ∷ [])
copies_one bs gs done i g h below flag is copy so_far more copied =
    let step = rw flag at (picked_step bs gs i g below) in
    let next : drop (suc i) bs ≡ drop (i + 1) bs = rw add-one refl in
    let P : List GroupPlan → Type 0 = λ xs. AllZip IsCopyOfGroup xs (h ∷ more) in
    let Q : List GroupPlan → Type 0 = λ xs. AllZip IsCopyOfGroup (picked bs gs) xs in
    let here : IsCopyOfGroup (get_or gs i g) h = subst (λ x. IsCopyOfGroup x h) is copy in
    subst Q (sym (append_assoc done (h ∷ []) more)) (so_far (h ∷ more) (subst P (sym step) (here, rw add-one at copied)))

pub copies_none : (bs : List Bool) (gs done : List GroupPlan) (i : ℕ) (g : GroupPlan) → i < length gs → flag_at bs i ≡ false
    → Copied bs gs i done → Copied bs gs (i + 1) done
copies_none bs gs done i g below flag so_far more copied =
    let step = rw flag at (picked_step bs gs i g below) in
    let P : List GroupPlan → Type 0 = λ xs. AllZip IsCopyOfGroup xs more in
    so_far more (subst P (sym step) (rw add-one at copied))

-- ---- places

places_step : (bs : List Bool) (n i : ℕ) → i < length bs
    → places n (drop i bs) ≡ cond (flag_at bs i) (Some n ∷ places (n + 1) (drop (suc i) bs)) (None ∷ places n (drop (suc i) bs))
places_step [] n i below = absurd (omega arith)
places_step (true ∷ bs) n zero below = refl
places_step (false ∷ bs) n zero below = refl
places_step (b ∷ bs) n (suc i) below = places_step bs n i (omega arith)

pub places_some : (bs : List Bool) (done all : List (Option ℕ)) (n i : ℕ) → i < length bs → flag_at bs i ≡ true
    → done ++ places n (drop i bs) ≡ all → (done ++ Some n ∷ []) ++ places (n + 1) (drop (i + 1) bs) ≡ all
places_some bs done all n i below flag so_far =
    let step = rw flag at (places_step bs n i below) in
    rw (append_assoc done (Some n ∷ []) (places (n + 1) (drop (i + 1) bs)), add-one i, ← step) so_far

pub places_none : (bs : List Bool) (done all : List (Option ℕ)) (n i : ℕ) → i < length bs → flag_at bs i ≡ false
    → done ++ places n (drop i bs) ≡ all → (done ++ None ∷ []) ++ places n (drop (i + 1) bs) ≡ all
places_none bs done all n i below flag so_far =
    let step = rw flag at (places_step bs n i below) in
    rw (append_assoc done (None ∷ []) (places n (drop (i + 1) bs)), add-one i, ← step) so_far
