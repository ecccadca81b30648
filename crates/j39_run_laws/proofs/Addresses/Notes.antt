-- What a unit has noted after it heard a claim, and what it does, case by case.
use Rattle.std.proofs.Common.{◌≡◌, ◌≢◌, ℕ, ◌<◌, ◌≤◌, true, false, cond, ◌⊎◌, inl, inr, eqb, ltb, refl, sym, ap, ◌∙◌, Option, Some, None}
use Rattle.std.proofs.lemmas.Bool.{eqb-true, eqb-false, eq-eqb, ne_eqb, ltb-true, ltb-false, cond-true, cond-false, true≢false}
use Rattle.std.specs.Bool.{MatchBool}
use Rattle.std.specs.Ordering.{nat_cmp}
use Rattle.std.specs.Cmp.{nat_cmp_total, unsigned_tied}
use Rattle.std.specs.FinMap.{FinMap, get, insert, remove, get-insert, get-remove}
use Rattle.j39_claim.specs.declared.item.Say.{Say}
use Rattle.j39_claim.specs.declared.item.Say.TheVariants.{Claim, Cannot}
use Rattle.j39_claim.specs.declared.item.Item.{Item}
use Rattle.j39_claim.specs.declared.item.Item.TheVariants.{AddressClaimed, Request}
use Rattle.j39_claim.specs.ClaimRule.{PlannedUnit, ClaimState, Answers, Moves, GivesUp, Reacts, holds_address}

module _ (notes : FinMap nat_cmp ℕ) (n : ℕ) where
  inserted_at : (a m : ℕ) → get (insert notes n a) m ≡ cond (eqb m n) (Some a) (get notes m)
  inserted_at a m = get-insert nat_cmp_total notes n a m ∙ ap (λ b. cond b (Some a) (get notes m)) (unsigned_tied m n)

  removed_at : (m : ℕ) → get (remove notes n) m ≡ cond (eqb m n) None (get notes m)
  removed_at m = get-remove nat_cmp_total notes n m ∙ ap (λ b. cond b None (get notes m)) (unsigned_tied m n)

  pub inserted_here : (a : ℕ) → get (insert notes n a) n ≡ Some a
  inserted_here a = inserted_at a n ∙ cond-true (eqb n n) (Some a) (get notes n) (eq-eqb n n refl)

  pub inserted_elsewhere : (a m : ℕ) → m ≢ n → get (insert notes n a) m ≡ get notes m
  inserted_elsewhere a m other = inserted_at a m ∙ cond-false (eqb m n) (Some a) (get notes m) (ne_eqb m n other)

  pub removed_here : get (remove notes n) n ≡ None
  removed_here = removed_at n ∙ cond-true (eqb n n) None (get notes n) (eq-eqb n n refl)

  pub removed_elsewhere : (m : ℕ) → m ≢ n → get (remove notes n) m ≡ get notes m
  removed_elsewhere m other = removed_at m ∙ cond-false (eqb m n) None (get notes m) (ne_eqb m n other)

-- ---- a claim of an address is heard

-- a is noted for n
abbrev pub noted : ClaimState → ℕ → ℕ → ClaimState
noted s n a = record s { notes = insert s.notes n a }

holds_address-true : (o : Option ℕ) (a : ℕ) → holds_address o a ≡ true → o ≡ Some a
holds_address-true None a h = absurd (true≢false (sym h))
holds_address-true (Some b) a h = ap Some (eqb-true b a h)

holds_address-false : (o : Option ℕ) (a : ℕ) → holds_address o a ≡ false → o ≢ Some a
holds_address-false None a h e = absurd (cc)
holds_address-false (Some b) a h e = eqb-false b a h (cc)

module _ (c : PlannedUnit) (s : ClaimState) (n a : ℕ) (says : Option Say) (new : ClaimState) where
  abbrev pub IsLost : Type 0
  IsLost = Moves c (noted s n a) says new ⊎ GivesUp c (noted s n a) says new

  abbrev pub IsDefended : Type 0
  IsDefended = (says ≡ Some (Claim a)) × (new ≡ noted s n a)

  abbrev pub IsIgnored : Type 0
  IsIgnored = (says ≡ None) × (new ≡ noted s n a)

  -- the unit holds it and loses it to a smaller NAME, or defends it, or doesn't hold it
  pub claim_cases : (R : Type 0) → (s.address ≡ Some a → n < c.name → IsLost → R) → (s.address ≡ Some a → c.name ≤ n → IsDefended → R)
      → (s.address ≢ Some a → IsIgnored → R) → Answers c s n (AddressClaimed (Claim a)) says new → R
  claim_cases R loses defends ignores answers =
      elim (holds_address s.address a) as (λ e. holds_address s.address a ≡ e → MatchBool e (MatchBool (ltb n c.name) IsLost IsDefended) IsIgnored → R) [
        | true ↦ λ holds. elim (ltb n c.name) as (λ e. ltb n c.name ≡ e → MatchBool e IsLost IsDefended → R) [
          | true ↦ λ smaller. loses (holds_address-true s.address a holds) (ltb-true n c.name smaller)
          | false ↦ λ not_smaller. defends (holds_address-true s.address a holds) (ltb-false n c.name not_smaller)
        ] refl
        | false ↦ λ not_held. ignores (holds_address-false s.address a not_held)
      ] refl answers

-- ---- whatever a unit hears, it is on as it was

answers_on : (c : PlannedUnit) (s : ClaimState) (n : ℕ) (item : Item) (says : Option Say) (new : ClaimState) → Answers c s n item says new → new.on ≡ s.on
answers_on c s n (AddressClaimed (Claim a)) says new answers = claim_cases c s n a says new (new.on ≡ s.on)
    (λ held smaller lost. elim lost [
      | inl moves ↦ ap (λ (x : ClaimState). x.on) moves.4
      | inr gives_up ↦ ap (λ (x : ClaimState). x.on) gives_up.2
    ])
    (λ held least defends. ap (λ (x : ClaimState). x.on) defends.1)
    (λ other ignores. ap (λ (x : ClaimState). x.on) ignores.1) answers
answers_on c s n (AddressClaimed Cannot) says new answers = ap (λ (x : ClaimState). x.on) answers.1
answers_on c s n Request says new answers = ap (λ (x : ClaimState). x.on) answers.1

pub reacts_on : (c : PlannedUnit) (s : ClaimState) (n : ℕ) (item : Item) (says : Option Say) (new : ClaimState) → Reacts c s n item says new → new.on ≡ s.on
reacts_on c s n item says new reacts =
    elim c.claims as (λ b. MatchBool b (Answers c s n item says new) ((says ≡ None) × (new ≡ s)) → new.on ≡ s.on) [
      | true ↦ answers_on c s n item says new
      | false ↦ λ nothing. ap (λ (x : ClaimState). x.on) nothing.1
    ] reacts
