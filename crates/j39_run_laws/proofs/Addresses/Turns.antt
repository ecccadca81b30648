-- What a unit says to an item, and what it is then.
use Rattle.std.proofs.Common.{◌≡◌, ◌≢◌, ℕ, ◌<◌, ◌/◌, ◌%◌, ◌^◌, true, false, ◌⊎◌, inl, inr, List, length, refl, sym, ap, ◌∙◌, subst}
use Rattle.std.proofs.Common.{arith, ◌&&◌, Bool, Option, Some, None}
use Rattle.std.proofs.lemmas.Bool.{cases_Bool, cases_eq, cases_order, eqb-false, ne_eqb, or_left, or_right, true≢false}
use Rattle.std.specs.Ordering.{nat_cmp}
use Rattle.std.specs.FinMap.{FinMap, get, insert}
use Rattle.std.specs.FinSet.{contains}
use Rattle.j39_id.specs.Name.{is_arbitrary}
use Rattle.j39_id.specs.Addresses.{in_pool}
use Rattle.j39_claim.specs.declared.item.Say.{Say}
use Rattle.j39_claim.specs.declared.item.Say.TheVariants.{Claim, Cannot}
use Rattle.j39_claim.specs.declared.item.Item.{Item}
use Rattle.j39_claim.specs.declared.item.Item.TheVariants.{AddressClaimed, Request}
use Rattle.j39_claim.specs.AddressSets.{is_free}
use Rattle.j39_claim.specs.ClaimRule.{PlannedUnit, ClaimState, Answers, IsFree, claim_of}
use Rattle.j39_network.specs.PlannedUnits.{unit_at}
use Rattle.j39_run_laws.proofs.Addresses.CleanUnits.{IsClean, AreFixedApart, needs_pool}
use Rattle.j39_run_laws.proofs.Addresses.AddressInvariant.{IsOwn, IsSaid, IsHeld, AllNoted}
use Rattle.j39_run_laws.proofs.Addresses.FreeAddress.{one_left}
use Rattle.j39_run_laws.proofs.Addresses.Notes.{inserted_here, inserted_elsewhere, noted, IsLost, claim_cases}
use Rattle.j39_run_laws.proofs.Runs.Units.{names_differ}

-- either it says nothing and holds what it held, which the item doesn't claim, or it claims what it holds now
abbrev pub IsQuietTurn : ClaimState → Item → Option Say → ClaimState → Type 0
IsQuietTurn s item says new = (says ≡ None) × (new.address ≡ s.address) × ((a : ℕ) → s.address ≡ Some a → item ≢ AddressClaimed (Claim a))

abbrev pub IsClaimTurn : PlannedUnit → Option Say → ClaimState → Type 0
IsClaimTurn p says new = (b : ℕ) × (says ≡ Some (Claim b)) × (new.address ≡ Some b) × IsOwn p b

pub record Turn (units : List PlannedUnit) (v : ℕ) (s : ClaimState) (item : Item) (says : Option Say) (new : ClaimState) : Type 0 where
  pub on : new.on ≡ s.on
  pub notes : AllNoted units v new.notes
  pub outcome : IsQuietTurn s item says new ⊎ IsClaimTurn (unit_at units v) says new

noted_more : (units : List PlannedUnit) (u v a : ℕ) (notes : FinMap nat_cmp ℕ) → u < length units → u ≢ v → IsOwn (unit_at units u) a
    → AllNoted units v notes → AllNoted units v (insert notes (unit_at units u).name a)
noted_more units u v a notes inside other own old n b is =
    let m : ℕ = (unit_at units u).name in
    elim (cases_eq n m) [
      | inl same ↦
          let e : Some a ≡ Some b = sym (inserted_here notes m a) ∙ ap (get (insert notes m a)) (sym same) ∙ is in
          let same_address : a ≡ b = cc in
          record { place = u; inside = inside; other = other; name = sym same; own = subst (IsOwn (unit_at units u)) same_address own }
      | inr apart ↦ old n b (sym (inserted_elsewhere notes m a n apart) ∙ is)
    ]

-- fixed units at two places differ in address
pub addresses_differ : (units : List PlannedUnit) → AreFixedApart units → (u v : ℕ) → u < length units → v < length units → u ≢ v
    → is_arbitrary (unit_at units u).name ≡ false → is_arbitrary (unit_at units v).name ≡ false
    → (unit_at units u).preferred ≢ (unit_at units v).preferred
addresses_differ units apart u v in_u in_v other fixed_u fixed_v same =
    elim (cases_order u v) [
      | inl is ↦ other is
      | inr (inl below) ↦ apart u v below in_v fixed_u fixed_v same
      | inr (inr above) ↦ apart v u above in_u fixed_v fixed_u (sym same)
    ]

-- a unit has no note of itself
pub no_own : (units : List PlannedUnit) → IsClean units → (v : ℕ) → v < length units → (notes : FinMap nat_cmp ℕ) → AllNoted units v notes
    → get notes (unit_at units v).name ≡ None
no_own units clean v in_v notes all =
    elim (get notes (unit_at units v).name) as (λ o. get notes (unit_at units v).name ≡ o → o ≡ None) [
      | None ↦ λ _. refl
      | Some a ↦ λ is. let known = all (unit_at units v).name a is in
          absurd (names_differ units clean.names known.place v known.inside in_v known.other known.name)
    ] refl

-- a unit that may need the pool finds a free address in it
pub free_left : (units : List PlannedUnit) → IsClean units → (v : ℕ) → v < length units → is_arbitrary (unit_at units v).name ≡ true
    → (s : ClaimState) → AllNoted units v s.notes → (b : ℕ) × IsFree (unit_at units v) s b
free_left units clean v in_v arbitrary s all =
    let p : PlannedUnit = unit_at units v in
    let needed : needs_pool p ≡ true = or_left (is_arbitrary p.name) (in_pool p.preferred && is_free p.kept p.preferred) arbitrary in
    let (b, ok, free, left) = one_left clean.kept_free s.notes units v clean.room in_v needed (no_own units clean v in_v s.notes all) in
    let unkept : (u : ℕ) → u < length units → contains (unit_at units u).kept b ≡ false =
    λ u inside. ap (λ k. contains k b) (clean.kept u inside) ∙ free in (
      b,
      record {
        pool = ok;
        unnoted = λ n is.
            let known = all n b is in
            left known.place known.inside (needs (unit_at units known.place) b known.own ok (unkept known.place known.inside))
            (ap (λ m. get s.notes m) known.name ∙ is);
        unkept = unkept v in_v;
      },
    )
  where
    needs : (p : PlannedUnit) (b : ℕ) → IsOwn p b → in_pool b ≡ true → contains p.kept b ≡ false → needs_pool p ≡ true
    needs p b own ok free =
        let has : Bool = in_pool p.preferred && is_free p.kept p.preferred in
        elim (cases_Bool (is_arbitrary p.name)) [
          | inl arbitrary ↦ or_left (is_arbitrary p.name) has arbitrary
          | inr fixed ↦ or_right (is_arbitrary p.name) has (ap (λ a. in_pool a && is_free p.kept a) (sym (own.fixed fixed)) ∙ rw (ok, free) refl)
        ]

-- what is below a fixed NAME is fixed
pub fixed_below : (m n : ℕ) → m < n → n < 2 ^ 64 → is_arbitrary n ≡ false → is_arbitrary m ≡ false
fixed_below m n below range fixed = ne_eqb (m / 2 ^ 63 % 2) 1 (λ one. eqb-false (n / 2 ^ 63 % 2) 1 fixed (omega arith))

-- no other unit ever holds the address of one that doesn't claim
pub alone_there : (units : List PlannedUnit) → IsClean units → (v : ℕ) → v < length units → (unit_at units v).claims ≡ false
    → (u a : ℕ) → u < length units → u ≢ v → IsOwn (unit_at units u) a → a ≢ (unit_at units v).preferred
alone_there units clean v in_v silent u a in_u other own same = elim (own.planned) [
  | inl planned ↦ clean.silent_apart v u in_v in_u other silent (sym planned ∙ same)
  | inr pool ↦
      let there : in_pool (unit_at units v).preferred ≡ true = ap in_pool (sym same) ∙ pool in
      let kept : contains (unit_at units v).kept (unit_at units v).preferred ≡ true = clean.silent_kept v in_v silent there in
      elim (cases_Bool (is_arbitrary (unit_at units u).name)) [
        | inl arbitrary ↦
            let one : contains (unit_at units v).kept (unit_at units v).preferred ≡ contains (unit_at units u).kept a =
            ap (λ k. contains k (unit_at units v).preferred) (clean.kept v in_v ∙ sym (clean.kept u in_u)) ∙ ap (contains (unit_at units u).kept) (sym same) in
            true≢false (sym kept ∙ one ∙ own.unkept arbitrary)
        | inr fixed ↦ clean.silent_apart v u in_v in_u other silent (sym (own.fixed fixed) ∙ same)
      ]
]

module _ (units : List PlannedUnit) (clean : IsClean units) (u v : ℕ) (in_u : u < length units) (in_v : v < length units) (other : u ≢ v) (s : ClaimState)
    (held : IsHeld (unit_at units v) s.address) (all : AllNoted units v s.notes) where
  -- what it then is, where it has noted a
  turn_with : (a : ℕ) → IsOwn (unit_at units u) a → (says : Option Say) (new : ClaimState) → new.on ≡ s.on
      → new.notes ≡ insert s.notes (unit_at units u).name a
      → IsQuietTurn s (AddressClaimed (Claim a)) says new ⊎ IsClaimTurn (unit_at units v) says new → Turn units v s (AddressClaimed (Claim a)) says new
  turn_with a own says new on notes outcome = record {
    on = on;
    notes = subst (AllNoted units v) (sym notes) (noted_more units u v a s.notes in_u other own all);
    outcome = outcome;
  }

  -- what it holds is its own
  own_held : (a : ℕ) → s.address ≡ Some a → IsOwn (unit_at units v) a
  own_held a has =
      let (b, holds, own_b) = held in
      let same : a ≡ b = cc in
      subst (IsOwn (unit_at units v)) (sym same) own_b

  module _ (claims : (unit_at units v).claims ≡ true) where
    -- to lose an address is to find another, for a unit that claims
    loses : (a : ℕ) → IsOwn (unit_at units u) a → (says : Option Say) (new : ClaimState) → s.address ≡ Some a
        → (unit_at units u).name < (unit_at units v).name → IsLost (unit_at units v) s (unit_at units u).name a says new
        → Turn units v s (AddressClaimed (Claim a)) says new
    loses a own says new has below (inl (b, arbitrary, free, said, is)) =
        turn_with a own says new (ap (λ t. t.on) is) (ap (λ t. t.notes) is)
        (inr (
          b,
          said,
          ap (λ t. t.address) is,
          record {
            fixed = λ fixed. absurd
                (true≢false (sym arbitrary ∙ fixed));
            unkept = λ _. free.unkept;
            planned = inr free.pool;
            silent = λ silent. absurd
                (true≢false (sym claims ∙ silent));
          },
        ))
    loses a own says new has below (inr (none, said, is)) =
        let n : ℕ = (unit_at units u).name in
        absurd (elim (cases_Bool (is_arbitrary (unit_at units v).name)) [
          | inl arbitrary ↦
              let (b, free) = free_left units clean v in_v arbitrary (noted s n a) (noted_more units u v a s.notes in_u other own all) in
              none arbitrary b free
          | inr fixed ↦
              let fixed_u = fixed_below n (unit_at units v).name below (clean.range v in_v) fixed in
              addresses_differ units clean.fixed u v in_u in_v other fixed_u fixed (sym (own.fixed fixed_u) ∙ (own_held a has).fixed fixed)
        ])

    claimed : (a : ℕ) → IsOwn (unit_at units u) a → (says : Option Say) (new : ClaimState)
        → Answers (unit_at units v) s (unit_at units u).name (AddressClaimed (Claim a)) says new → Turn units v s (AddressClaimed (Claim a)) says new
    claimed a own says new =
        claim_cases (unit_at units v) s (unit_at units u).name a says new (Turn units v s (AddressClaimed (Claim a)) says new)
        (loses a own says new)
        (λ has _ (said, is).
        turn_with a own says new (ap (λ t. t.on) is) (ap (λ t. t.notes) is) (inr (a, said, ap (λ t. t.address) is ∙ has, own_held a has)))
        (λ not_held (said, is).
        turn_with a own says new (ap (λ t. t.on) is) (ap (λ t. t.notes) is)
        (inl (said, ap (λ t. t.address) is, λ b has same. let e : b ≡ a = sym (cc) in not_held (has ∙ ap Some e))))

    pub turn : (item : Item) → IsSaid (unit_at units u) item → (says : Option Say) (new : ClaimState)
        → Answers (unit_at units v) s (unit_at units u).name item says new → Turn units v s item says new
    turn (AddressClaimed (Claim a)) own says new answers = claimed a own says new answers
    turn (AddressClaimed Cannot) never says new answers = absurd never
    turn Request _ says new answers =
        let (b, holds, own_b) = held in
        record {
          on = ap (λ t. t.on) answers.1;
          notes = subst (λ (t : ClaimState). AllNoted units v t.notes) (sym answers.1) all;
          outcome = inr (b, answers.0 ∙ ap (λ o. Some (claim_of o)) holds, ap (λ t. t.address) answers.1 ∙ holds, own_b);
        }

  -- one that doesn't claim does nothing, and never holds what it hears claimed
  pub passes_over : (unit_at units v).claims ≡ false → (item : Item) → IsSaid (unit_at units u) item → Turn units v s item None s
  passes_over silent item said = record {
    on = refl;
    notes = all;
    outcome = inl (
      refl,
      refl,
      λ a has is.
          let own : IsOwn (unit_at units u) a = subst (IsSaid (unit_at units u)) is said in
          alone_there units clean v in_v silent u a in_u other own ((own_held a has).silent silent),
    );
  }
