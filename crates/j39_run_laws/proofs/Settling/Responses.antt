-- What a unit says to an item and what it then is, as far as it matters to how claims die down.
use Rattle.std.proofs.Common.{◌≡◌, ◌≢◌, ℕ, ◌<◌, ◌⊎◌, inl, inr, refl, sym, ap, ◌∙◌, subst, arith, Option, Some, None}
use Rattle.std.proofs.lemmas.Bool.{cases_eq}
use Rattle.std.specs.Ordering.{nat_cmp}
use Rattle.std.specs.FinMap.{FinMap, get, insert, remove}
use Rattle.j39_claim.specs.declared.item.Say.{Say}
use Rattle.j39_claim.specs.declared.item.Say.TheVariants.{Claim, Cannot}
use Rattle.j39_claim.specs.declared.item.Item.{Item}
use Rattle.j39_claim.specs.declared.item.Item.TheVariants.{AddressClaimed, Request}
use Rattle.j39_claim.specs.ClaimRule.{PlannedUnit, ClaimState, Answers, claim_of}
use Rattle.j39_world.specs.Sent.{claimed_by}
use Rattle.j39_run_laws.proofs.Addresses.Notes.{inserted_here, inserted_elsewhere, removed_here, removed_elsewhere, noted, IsLost, claim_cases}

-- a unit of this NAME doesn't hold what it noted for a smaller one
pub record IsUnclashed (name : ℕ) (s : ClaimState) : Type 0 where
  pub unnoted : (m a : ℕ) → m < name → s.address ≡ Some a → get s.notes m ≢ Some a

-- what was heard of n is noted
abbrev pub IsNotedOf : FinMap nat_cmp ℕ → FinMap nat_cmp ℕ → ℕ → Item → Type 0
IsNotedOf notes new n (AddressClaimed say) = get new n ≡ claimed_by say
IsNotedOf notes new n Request = get new n ≡ get notes n

-- it says what it holds, as before, to a request or to a larger NAME
pub record Repeats (c : PlannedUnit) (s : ClaimState) (n : ℕ) (item : Item) (says : Option Say) (new : ClaimState) : Type 0 where
  pub say : Say
  pub said : says ≡ Some say
  pub holds : claimed_by say ≡ new.address
  pub address : new.address ≡ s.address
  pub cause : (item ≡ Request) ⊎ ((c.name < n) × (heard : Say) × (item ≡ AddressClaimed heard))

-- it loses its address to a smaller NAME, of which it had not noted that address, and says what it then holds
pub record Loses (c : PlannedUnit) (s : ClaimState) (n : ℕ) (item : Item) (says : Option Say) (new : ClaimState) : Type 0 where
  pub say : Say
  pub said : says ≡ Some say
  pub holds : claimed_by say ≡ new.address
  pub smaller : n < c.name
  pub lost : ℕ
  pub cause : item ≡ AddressClaimed (Claim lost)
  pub unnoted : get s.notes n ≢ Some lost

abbrev pub SaysNothing : ClaimState → Option Say → ClaimState → Type 0
SaysNothing s says new = (says ≡ None) × (new.address ≡ s.address)

pub record Response (c : PlannedUnit) (s : ClaimState) (n : ℕ) (item : Item) (says : Option Say) (new : ClaimState) : Type 0 where
  pub on : new.on ≡ s.on
  pub unclashed : IsUnclashed c.name new
  pub noted : IsNotedOf s.notes new.notes n item
  pub others : (m : ℕ) → m ≢ n → get new.notes m ≡ get s.notes m
  pub outcome : SaysNothing s says new ⊎ (Repeats c s n item says new ⊎ Loses c s n item says new)

-- ---- what a unit is that has noted a claim of an address

pub says_held : (o : Option ℕ) → claimed_by (claim_of o) ≡ o
says_held None = refl
says_held (Some a) = refl

module _ (c : PlannedUnit) (s : ClaimState) (unclashed : IsUnclashed c.name s) (n : ℕ) (other : n ≢ c.name) where
  -- one that it doesn't hold
  unclashed_after : (a : ℕ) → s.address ≢ Some a → IsUnclashed c.name (noted s n a)
  unclashed_after a not_held = record {
    unnoted = λ m b smaller held is. elim (cases_eq m n) [
      | inl same ↦
          let found : Some a ≡ Some b = sym (inserted_here s.notes n a) ∙ ap (get (insert s.notes n a)) (sym same) ∙ is in
          not_held (held ∙ sym found)
      | inr apart ↦ unclashed.unnoted m b smaller held (sym (inserted_elsewhere s.notes n a m apart) ∙ is)
    ];
  }

  -- one of a larger NAME
  unclashed_still : (a : ℕ) → c.name < n → IsUnclashed c.name (noted s n a)
  unclashed_still a larger = record {
    unnoted = λ m b smaller held is.
        let apart : m ≢ n = omega arith in
        unclashed.unnoted m b smaller held (sym (inserted_elsewhere s.notes n a m apart) ∙ is);
  }

  -- what it then is, where it has noted a
  response_with : (a : ℕ) (says : Option Say) (new is : ClaimState) → new ≡ is → is.on ≡ s.on → is.notes ≡ insert s.notes n a → IsUnclashed c.name is
      → SaysNothing s says is ⊎ (Repeats c s n (AddressClaimed (Claim a)) says is ⊎ Loses c s n (AddressClaimed (Claim a)) says is)
      → Response c s n (AddressClaimed (Claim a)) says new
  response_with a says new is same on notes clear outcome = subst (Response c s n (AddressClaimed (Claim a)) says) (sym same) (record {
    on = on;
    unclashed = clear;
    noted = ap (λ x. get x n) notes ∙ inserted_here s.notes n a;
    others = λ m apart. ap (λ x. get x m) notes ∙ inserted_elsewhere s.notes n a m apart;
    outcome = outcome;
  })

  -- it says what it then holds
  lost_to : (a : ℕ) (says : Option Say) (new : ClaimState) (say : Say) → s.address ≡ Some a → n < c.name → says ≡ Some say → claimed_by say ≡ new.address
      → Loses c s n (AddressClaimed (Claim a)) says new
  lost_to a says new say held smaller said holds =
      record { say = say; said = said; holds = holds; smaller = smaller; lost = a; cause = refl; unnoted = unclashed.unnoted n a smaller held }

  loses : (a : ℕ) (says : Option Say) (new : ClaimState) → s.address ≡ Some a → n < c.name → IsLost c s n a says new
      → Response c s n (AddressClaimed (Claim a)) says new
  loses a says new held smaller (inl (b, arbitrary, free, said, is)) =
      response_with a says new (record (noted s n a) { address = Some b }) is refl refl
      (record { unnoted = λ m x below holds found. free.unnoted m (found ∙ sym holds) })
      (inr (inr (lost_to a says (record (noted s n a) { address = Some b }) (Claim b) held smaller said refl)))
  loses a says new held smaller (inr (none, said, is)) =
      response_with a says new (record (noted s n a) { address = None }) is refl refl
      (record { unnoted = λ m x below holds found. absurd (cc) })
      (inr (inr (lost_to a says (record (noted s n a) { address = None }) Cannot held smaller said refl)))

  claimed : (a : ℕ) (says : Option Say) (new : ClaimState) → Answers c s n (AddressClaimed (Claim a)) says new
      → Response c s n (AddressClaimed (Claim a)) says new
  claimed a says new =
      claim_cases c s n a says new (Response c s n (AddressClaimed (Claim a)) says new)
      (loses a says new)
      (λ held least (said, is).
      let larger : c.name < n = omega arith in
      response_with a says new (noted s n a) is refl refl (unclashed_still a larger)
      (inr (inl (record { say = Claim a; said = said; holds = sym held; address = refl; cause = inr (larger, Claim a, refl) }))))
      (λ not_held (said, is). response_with a says new (noted s n a) is refl refl (unclashed_after a not_held) (inl (said, refl)))

  pub response : (item : Item) (says : Option Say) (new : ClaimState) → Answers c s n item says new → Response c s n item says new
  response (AddressClaimed (Claim a)) says new answers = claimed a says new answers
  response (AddressClaimed Cannot) says new answers = subst (Response c s n (AddressClaimed Cannot) says) (sym answers.1) (record {
    on = refl;
    unclashed = record {
      unnoted = λ m b smaller held is. elim (cases_eq m n) [
        | inl same ↦ let gone : None ≡ Some b = sym (removed_here s.notes n) ∙ ap (get (remove s.notes n)) (sym same) ∙ is in absurd (cc)
        | inr apart ↦ unclashed.unnoted m b smaller held (sym (removed_elsewhere s.notes n m apart) ∙ is)
      ];
    };
    noted = removed_here s.notes n;
    others = removed_elsewhere s.notes n;
    outcome = inl (answers.0, refl);
  })
  response Request says new answers = subst (Response c s n Request says) (sym answers.1) (record {
    on = refl;
    unclashed = unclashed;
    noted = refl;
    others = λ m apart. refl;
    outcome = inr (inl (record { say = claim_of s.address; said = answers.0; holds = says_held s.address; address = refl; cause = inl refl }));
  })
