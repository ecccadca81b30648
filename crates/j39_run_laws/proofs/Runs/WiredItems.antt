-- What holds of each item that lies between two units holds of each once lists change.
use Rattle.std.proofs.Common.{◌≡◌, ℕ, true, ◌&&◌, eqb, List, [], ◌∷◌, ◌++◌, sym, subst}
use Rattle.std.specs.List.{AllByRecursion}
use Rattle.std.proofs.lemmas.Bool.{and_parts, cond_both, eqb-true}
use Rattle.j39_world.specs.declared.wired.Wired.{Wired}
use Rattle.j39_world.specs.ClaimSteps.{without_lists_to}
use Rattle.j39_world.specs.Transfers.{Wire, added, is_among}
use Rattle.j39_world.specs.World.{changed_pair}
use Rattle.j39_run_laws.proofs.Runs.Changed.{pair_each}
use Rattle.j39_run_laws.proofs.Runs.Elements.{all-append}

module _ (Is : ℕ → ℕ → Wired → Type 0) where
  abbrev pub AreAll : Wire → Type 0
  AreAll wire = (s t : ℕ) → AllByRecursion (Is s t) (wire s t)

  module _ (wire : Wire) (old : AreAll wire) where
    -- what is for a unit is dropped
    pub all_dropped : (u : ℕ) → AreAll (without_lists_to u wire)
    all_dropped u s t = cond_both (eqb t u) [] (wire s t) (AllByRecursion (Is s t)) (λ _. tt) (λ _. old s t)

    -- the oldest that is between two units is taken or lost
    pub all_less : (u v : ℕ) (item : Wired) (rest : List Wired) → wire u v ≡ item ∷ rest → AreAll (changed_pair wire u v rest)
    all_less u v item rest is =
        pair_each (λ s t (xs : List Wired). AllByRecursion (Is s t) xs) wire u v rest (subst (AllByRecursion (Is u v)) is (old u v)).1 old

    -- a unit answers another
    pub all_more : (v u : ℕ) (items : List Wired) → AllByRecursion (Is v u) items → AreAll (changed_pair wire v u (wire v u ++ items))
    all_more v u items all =
        pair_each (λ s t (xs : List Wired). AllByRecursion (Is s t) xs) wire v u (wire v u ++ items) (all-append (Is v u) (wire v u) items (old v u) all) old

    -- a unit sends an item to each of these
    pub all_added : (u : ℕ) (targets : List ℕ) (item : Wired) → ((t : ℕ) → is_among targets t ≡ true → Is u t item) → AreAll (added wire u targets item)
    all_added u targets item is s t =
        cond_both (eqb s u && is_among targets t) (wire s t ++ item ∷ []) (wire s t) (AllByRecursion (Is s t))
        (λ both. let parts = and_parts (eqb s u) (is_among targets t) both in
        all-append (Is s t) (wire s t) (item ∷ []) (old s t) (subst (λ k. Is k t item) (sym (eqb-true s u parts.0)) (is t parts.1), tt))
        (λ _. old s t)
