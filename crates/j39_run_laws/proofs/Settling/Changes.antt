-- How often what a unit is known to say of itself changes, on the way from what was noted of it to what it holds.
use Rattle.std.proofs.Common.{◌≡◌, ◌≢◌, ℕ, ◌+◌, ◌≤◌, true, false, cond, eqb, List, [], ◌∷◌, ◌++◌, refl, sym, ap, subst, arith, inl, inr, Option, Some, None}
use Rattle.std.proofs.lemmas.Bool.{cases_eq, eq-eqb, ne_eqb}
use Rattle.j39_claim.specs.declared.item.Say.{Say}
use Rattle.j39_claim.specs.declared.item.Item.{Item}
use Rattle.j39_claim.specs.declared.item.Item.TheVariants.{AddressClaimed, Request}
use Rattle.j39_world.specs.Sent.{claimed_by}

-- 0 where two are the same, else 1
abbrev pub differ : Option ℕ → Option ℕ → ℕ
differ None None = 0
differ None (Some b) = 1
differ (Some a) None = 1
differ (Some a) (Some b) = cond (eqb a b) 0 1

pub differ-same : (o : Option ℕ) → differ o o ≡ 0
differ-same None = refl
differ-same (Some a) = let e : eqb a a ≡ true = eq-eqb a a refl in rw e

pub differ-other : (o : Option ℕ) (a : ℕ) → o ≢ Some a → differ o (Some a) ≡ 1
differ-other None a other = refl
differ-other (Some b) a other = let e : eqb b a ≡ false = ne_eqb b a (λ s. other (ap Some s)) in rw e

pub differ-most : (o p : Option ℕ) → differ o p ≤ 1
differ-most None None = omega arith
differ-most None (Some b) = omega arith
differ-most (Some a) None = omega arith
differ-most (Some a) (Some b) = elim (eqb a b) as (λ e. cond e 0 1 ≤ 1) [ true ↦ omega arith | false ↦ omega arith ]

-- what differs from a third differs from the second, or that from the third
pub differ-through : (o p q : Option ℕ) → differ o q ≤ differ o p + differ p q
differ-through None None None = omega arith
differ-through None None (Some c) = omega arith
differ-through None (Some b) None = omega arith
differ-through None (Some b) (Some c) = omega arith
differ-through (Some a) None None = omega arith
differ-through (Some a) None (Some c) = omega (arith, differ-most (Some a) (Some c))
differ-through (Some a) (Some b) None = omega arith
differ-through (Some a) (Some b) (Some c) =
    elim (cases_eq a b) [
      | inl same ↦ subst (λ k. differ (Some a) (Some c) ≤ differ (Some a) (Some k) + differ (Some k) (Some c)) same (omega arith)
      | inr other ↦ let e : eqb a b ≡ false = ne_eqb a b other in rw e (omega (arith, differ-most (Some a) (Some c)))
    ]

-- how often neighbours differ: what was noted, what is said in turn, and what is held
abbrev pub changes : Option ℕ → List Item → Option ℕ → ℕ
changes noted [] held = differ noted held
changes noted (AddressClaimed say ∷ items) held = differ noted (claimed_by say) + changes (claimed_by say) items held
changes noted (Request ∷ items) held = changes noted items held

-- a move adds one change at most
pub changes-moved : (items : List Item) (noted held new : Option ℕ) → changes noted items new ≤ changes noted items held + differ held new
changes-moved [] noted held new = differ-through noted held new
changes-moved (AddressClaimed say ∷ items) noted held new = omega (arith, changes-moved items (claimed_by say) held new)
changes-moved (Request ∷ items) noted held new = changes-moved items noted held new

-- also where it hears
pub changes-stated : (items : List Item) (noted held new : Option ℕ) (say : Say) → claimed_by say ≡ new
    → changes noted (items ++ AddressClaimed say ∷ []) new ≤ changes noted items held + differ held new
changes-stated [] noted held new say is =
    let none : differ (claimed_by say) new ≡ 0 = subst (λ o. differ (claimed_by say) o ≡ 0) is (differ-same (claimed_by say)) in
    let through : differ noted (claimed_by say) ≤ differ noted held + differ held new =
    subst (λ o. differ noted o ≤ differ noted held + differ held new) (sym is) (differ-through noted held new) in
    omega arith
changes-stated (AddressClaimed other ∷ items) noted held new say is = omega (arith, changes-stated items (claimed_by other) held new say is)
changes-stated (Request ∷ items) noted held new say is = changes-stated items noted held new say is

-- what was noted of it otherwise adds one change at most
pub changes-noted : (items : List Item) (noted other held : Option ℕ) → changes noted items held ≤ differ noted other + changes other items held
changes-noted [] noted other held = differ-through noted other held
changes-noted (AddressClaimed say ∷ items) noted other held = omega (arith, differ-through noted other (claimed_by say))
changes-noted (Request ∷ items) noted other held = changes-noted items noted other held
