-- The steps of units that claim addresses keep the address invariant.
use Rattle.std.proofs.Common.{◌≡◌, ◌≢◌, ℕ, ◌<◌, zero, suc, true, ◌&&◌, inl, inr, eqb, List, [], ◌∷◌, length, refl, sym, ap, ◌∙◌, subst, arith, Option, Some}
use Rattle.std.proofs.lemmas.Bool.{cases_eq, eqb-true, ne_eqb, cond_both, cond-false, and_parts, and_right, true≢false}
use Rattle.std.specs.Ordering.{nat_cmp}
use Rattle.std.specs.FinMap.{get-empty}
use Rattle.std.specs.List.{Contains, AllByRecursion}
use Rattle.j39_claim.specs.declared.item.Say.{Say}
use Rattle.j39_claim.specs.declared.item.Say.TheVariants.{Claim}
use Rattle.j39_claim.specs.declared.item.Item.{Item}
use Rattle.j39_claim.specs.declared.item.Item.TheVariants.{AddressClaimed, Request}
use Rattle.j39_claim.specs.ClaimRule.{PlannedUnit, ClaimState, claim_of, off, started}
use Rattle.j39_network.specs.PlannedUnits.{unit_at}
use Rattle.j39_world.specs.World.{Stations, Undelivered, changed, changed_pair}
use Rattle.j39_world.specs.Sound.{IsClaimUndelivered}
use Rattle.j39_world.specs.ClaimSteps.{sent_to_others, without_lists_to, answer_items}
use Rattle.j39_run_laws.proofs.Addresses.AddressInvariant.{AddressInvariant, IsOwn, IsSaid, IsHeld, AllNoted}
use Rattle.j39_run_laws.proofs.Addresses.SentToOthers.{AllSaid, still, stated, said_more, said_without, said_rest, not_itself}
use Rattle.j39_run_laws.proofs.Addresses.Turns.{Turn}
use Rattle.j39_run_laws.proofs.Runs.Changed.{changed_here, changed_elsewhere, changed_each}

-- it is on and holds the address
pub record IsHolding (s : ClaimState) (a : ℕ) : Type 0 where
  pub on : s.on ≡ true
  pub address : s.address ≡ Some a

-- two that are on hold one address
pub record IsClash (f : Stations) (x y a : ℕ) : Type 0 where
  pub apart : x ≢ y
  pub one : IsHolding (f x) a
  pub other : IsHolding (f y) a

-- after one state has changed they are that one and another, or two others
clash_cases : (R : ℕ → ℕ → ℕ → Type 0) (swap : (x y a : ℕ) → R x y a → R y x a) (f : Stations) (v : ℕ) (new : ClaimState)
    → ((x a : ℕ) → x ≢ v → IsHolding (f x) a → new.address ≡ Some a → R v x a)
    → ((x y a : ℕ) → x ≢ v → y ≢ v → IsClash f x y a → R x y a)
    → (x y a : ℕ) → IsClash (changed f v new) x y a → R x y a
clash_cases R swap f v new one two x y a c =
    elim (cases_eq x v) [
      | inl same ↦
          let y_other : y ≢ v = λ e. c.apart (same ∙ sym e) in
          let at_x : IsHolding new a = here x same c.one in
          subst (λ k. R k y a) (sym same) (one y a y_other (there y y_other c.other) at_x.address)
      | inr x_other ↦
          elim (cases_eq y v) [
            | inl same ↦
                let at_y : IsHolding new a = here y same c.other in
                subst (λ k. R x k a) (sym same) (swap v x a (one x a x_other (there x x_other c.one) at_y.address))
            | inr y_other ↦
                two x y a x_other y_other (record { apart = c.apart; one = there x x_other c.one; other = there y y_other c.other })
          ]
    ]
  where
    here : (k : ℕ) → k ≡ v → IsHolding (changed f v new k) a → IsHolding new a
    here k same = subst (λ (s : ClaimState). IsHolding s a) (ap (changed f v new) same ∙ changed_here f v new)

    there : (k : ℕ) → k ≢ v → IsHolding (changed f v new k) a → IsHolding (f k) a
    there k other = subst (λ (s : ClaimState). IsHolding s a) (changed_elsewhere f v new k other)

swapped : (claims : Undelivered) (x y a : ℕ) → IsClaimUndelivered claims x y a → IsClaimUndelivered claims y x a
swapped claims x y a (inl p) = inr p
swapped claims x y a (inr p) = inl p

in_one : (a b : ℕ) → a ≡ b → Contains (AddressClaimed (Claim a) ∷ []) (AddressClaimed (Claim b))
in_one a b same = (0, omega arith, ap (λ k. AddressClaimed (Claim k)) same)

in_rest : (x y : Item) (xs : List Item) → Contains (x ∷ xs) y → x ≢ y → Contains xs y
in_rest x y xs (zero, inside, is) other = absurd (other is)
in_rest x y xs (suc k, inside, is) other = (k, omega arith, is)

-- what was to be sent of two is to be sent still, where no list between them lost a claim
stated_still : (stations : Stations) (claims : Undelivered) (u : ℕ) (items : List Item) (x y a : ℕ)
    → IsClaimUndelivered claims x y a → IsClaimUndelivered (sent_to_others stations claims u items) x y a
stated_still stations claims u items x y a (inl p) = inl (still stations claims u items x y (AddressClaimed (Claim a)) p)
stated_still stations claims u items x y a (inr p) = inr (still stations claims u items y x (AddressClaimed (Claim a)) p)

-- what was undelivered to u is gone, and nothing between two others
without_still : (claims : Undelivered) (u x y a : ℕ) → x ≢ u → y ≢ u → IsClaimUndelivered claims x y a → IsClaimUndelivered (without_lists_to u claims) x y a
without_still claims u x y a x_other y_other to_send =
    let to_x : without_lists_to u claims y x ≡ claims y x = cond-false (eqb x u) [] (claims y x) (ne_eqb x u x_other) in
    let to_y : without_lists_to u claims x y ≡ claims x y = cond-false (eqb y u) [] (claims x y) (ne_eqb y u y_other) in
    rw (to_x, to_y) to_send

module _ (units : List PlannedUnit) (stations : Stations) (claims : Undelivered) (inv : AddressInvariant units stations claims) where
  clash_stated : (x y a : ℕ) → IsClash stations x y a → IsClaimUndelivered claims x y a
  clash_stated x y a c = inv.apart x y a c.apart c.one.on c.other.on c.one.address c.other.address

  module _ (u : ℕ) where
    abbrev without : Undelivered
    without = without_lists_to u claims

    without_said : AllSaid (λ k. IsSaid (unit_at units k)) without
    without_said = said_without (λ k. IsSaid (unit_at units k)) claims u inv.said

    without_itself : (s : ℕ) → without s s ≡ []
    without_itself s = cond_both (eqb s u) [] (claims s s) (λ xs. xs ≡ []) (λ _. refl) (λ _. inv.itself s)

    -- u is switched on, and sends these to the others, of which none holds its address unless it is to hear so
    on_keeps : u < length units → IsOwn (unit_at units u) (unit_at units u).preferred → (items : List Item)
        → AllByRecursion (IsSaid (unit_at units u)) items
        → let new : Stations = changed stations u (started (unit_at units u)) in
        ((z b : ℕ) → z ≢ u → IsHolding (stations z) b → (started (unit_at units u)).address ≡ Some b
        → IsClaimUndelivered (sent_to_others new without u items) u z b)
        → AddressInvariant units new (sent_to_others new without u items)
    on_keeps in_u own items said stated_other =
        let p : PlannedUnit = unit_at units u in
        let now : Stations = changed stations u (started p) in
        let after : Undelivered = sent_to_others now without u items in
        record {
          inside = changed_each (λ x s. s.on ≡ true → x < length units) stations u (started p) (λ _. in_u) inv.inside;
          holds = changed_each (λ x s. s.on ≡ true → IsHeld (unit_at units x) s.address) stations u (started p)
              (λ _. (p.preferred, refl, own)) inv.holds;
          apart = λ x y a other on_x on_y address_x address_y.
              clash_cases (IsClaimUndelivered after) (swapped after) stations u (started p) stated_other
              (λ z t b z_other t_other c.
              stated_still now without u items z t b (without_still claims u z t b z_other t_other (clash_stated z t b c)))
              x y a (record { apart = other; one = record { on = on_x; address = address_x }; other = record { on = on_y; address = address_y } });
          said = said_more now without u items (λ k. IsSaid (unit_at units k)) without_said said;
          itself = not_itself now without u items without_itself;
          notes = changed_each (λ x s. AllNoted units x s.notes) stations u (started p)
              (λ n a is. absurd (let e = sym (get-empty {X = ℕ} nat_cmp n) ∙ is in cc)) inv.notes;
        }

    pub up_keeps : u < length units → IsOwn (unit_at units u) (unit_at units u).preferred
        → let new : Stations = changed stations u (started (unit_at units u)) in
        AddressInvariant units new (sent_to_others new without u (AddressClaimed (Claim (unit_at units u).preferred) ∷ []))
    up_keeps in_u own =
        let p : PlannedUnit = unit_at units u in
        let items : List Item = AddressClaimed (Claim p.preferred) ∷ [] in
        let now : Stations = changed stations u (started p) in
        on_keeps in_u own items (own, tt) (λ z b z_other holding has.
        let same : p.preferred ≡ b = cc in
        let on : (now z).on ≡ true = ap (λ s. s.on) (changed_elsewhere stations u (started p) z z_other) ∙ holding.on in
        inl (stated now without u items z (AddressClaimed (Claim b)) on z_other (in_one p.preferred b same)))

    -- it says nothing, where no other one ever holds its address
    pub up_silently : u < length units → IsOwn (unit_at units u) (unit_at units u).preferred
        → ((z a : ℕ) → z < length units → z ≢ u → IsOwn (unit_at units z) a → a ≢ (unit_at units u).preferred)
        → let new : Stations = changed stations u (started (unit_at units u)) in
        AddressInvariant units new (sent_to_others new without u [])
    up_silently in_u own alone = on_keeps in_u own [] tt (λ z b z_other holding has.
        let (a, is, own_z) = inv.holds z holding.on in
        let e : Some a ≡ Some (unit_at units u).preferred = sym is ∙ holding.address ∙ sym has in
        absurd (alone z a (inv.inside z holding.on) z_other own_z (cc)))

    pub down_keeps : AddressInvariant units (changed stations u off) without
    down_keeps = record {
      inside = changed_each (λ x s. s.on ≡ true → x < length units) stations u off (λ on. absurd (true≢false (sym on))) inv.inside;
      holds = changed_each (λ x s. s.on ≡ true → IsHeld (unit_at units x) s.address) stations u off
          (λ on. absurd (true≢false (sym on))) inv.holds;
      apart = λ x y a other on_x on_y address_x address_y.
          clash_cases (IsClaimUndelivered without) (swapped without) stations u off (λ z b z_other holding has. absurd (cc))
          (λ z t b z_other t_other c. without_still claims u z t b z_other t_other (clash_stated z t b c))
          x y a (record { apart = other; one = record { on = on_x; address = address_x }; other = record { on = on_y; address = address_y } });
      said = without_said;
      itself = without_itself;
      notes = changed_each (λ x s. AllNoted units x s.notes) stations u off
          (λ n a is. absurd (let e = sym (get-empty {X = ℕ} nat_cmp n) ∙ is in cc)) inv.notes;
    }

    pub ask_keeps : (stations u).on ≡ true
        → AddressInvariant units stations (sent_to_others stations claims u (Request ∷ AddressClaimed (claim_of (stations u).address) ∷ []))
    ask_keeps on =
        let items : List Item = Request ∷ AddressClaimed (claim_of (stations u).address) ∷ [] in
        let (b, has, own) = inv.holds u on in
        record {
          inside = inv.inside;
          holds = inv.holds;
          apart = λ x y a other on_x on_y address_x address_y.
              stated_still stations claims u items x y a (inv.apart x y a other on_x on_y address_x address_y);
          said = said_more stations claims u items (λ k. IsSaid (unit_at units k)) inv.said (tt, (rw has own, tt));
          itself = not_itself stations claims u items inv.itself;
          notes = inv.notes;
        }

  module _ (u v : ℕ) (apart : u ≢ v) (on_v : (stations v).on ≡ true) (item : Item) (rest : List Item) (list : claims u v ≡ item ∷ rest)
      (says : Option Say) (new : ClaimState) (t : Turn units v (stations v) item says new) where
    now : Stations
    now = changed stations v new

    mid : Undelivered
    mid = changed_pair claims u v rest

    after : Undelivered
    after = sent_to_others now mid v (answer_items says)

    -- no other unit's lists lose anything
    other_list : (x y : ℕ) → y ≢ v → mid x y ≡ claims x y
    unfolding mid
    other_list x y y_other = cond-false (eqb x u && eqb y v) rest (claims x y) (and_right (eqb x u) (eqb y v) (ne_eqb y v y_other))

    -- what v has still to hear of another unit is in the list after this item
    kept_list : (x a : ℕ) → item ≢ AddressClaimed (Claim a) → Contains (claims x v) (AddressClaimed (Claim a)) → Contains (mid x v) (AddressClaimed (Claim a))
    unfolding mid
    kept_list x a unlike had =
        cond_both (eqb x u && eqb v v) rest (claims x v) (λ xs. Contains xs (AddressClaimed (Claim a)))
        (λ both. let same : x ≡ u = eqb-true x u (and_parts (eqb x u) (eqb v v) both).0 in
        in_rest item (AddressClaimed (Claim a)) rest (subst (λ xs. Contains xs (AddressClaimed (Claim a))) (ap (λ k. claims k v) same ∙ list) had) unlike)
        (λ _. had)

    all_said : AllSaid (λ k. IsSaid (unit_at units k)) mid
    unfolding mid
    all_said = said_rest (λ k. IsSaid (unit_at units k)) claims u v item rest list inv.said

    no_list_itself : (x : ℕ) → mid x x ≡ []
    unfolding mid
    no_list_itself x =
        cond_both (eqb x u && eqb x v) rest (claims x x) (λ xs. xs ≡ [])
        (λ both. let same = and_parts (eqb x u) (eqb x v) both in absurd (apart (sym (eqb-true x u same.0) ∙ eqb-true x v same.1)))
        (λ _. inv.itself x)

    -- what v says, it may say
    said_by_v : AllByRecursion (IsSaid (unit_at units v)) (answer_items says)
    said_by_v =
        elim (t.outcome) [
          | inl quiet ↦ rw quiet.0 tt
          | inr claims ↦ rw claims.1 (claims.3, tt)
        ]

    -- whoever holds what v holds now is to hear so, or v has still to hear it
    stated_by_v : (z b : ℕ) → z ≢ v → IsHolding (stations z) b → new.address ≡ Some b → IsClaimUndelivered after v z b
    unfolding after now
    stated_by_v z b z_other holding at_v =
        let items : List Item = answer_items says in
        elim (t.outcome) [
          | inl quiet ↦
              let was : (stations v).address ≡ Some b = sym quiet.1 ∙ at_v in
              elim (inv.apart v z b (λ e. z_other (sym e)) on_v holding.on was holding.address) [
                | inl to_z ↦ inl (still (changed stations v new) mid v items v z (AddressClaimed (Claim b)) (rw (other_list v z z_other) to_z))
                | inr to_v ↦ inr (still (changed stations v new) mid v items z v (AddressClaimed (Claim b)) (kept_list z b (quiet.2 b was) to_v))
              ]
          | inr claims ↦
              let same : claims.0 ≡ b = let e = sym claims.2 ∙ at_v in cc in
              let on : (changed stations v new z).on ≡ true = ap (λ s. s.on) (changed_elsewhere stations v new z z_other) ∙ holding.on in
              inl (stated (changed stations v new) mid v items z (AddressClaimed (Claim b)) on z_other (rw claims.1 (in_one claims.0 b same)))
        ]

    pub give_keeps : AddressInvariant units (changed stations v new)
        (sent_to_others (changed stations v new) (changed_pair claims u v rest) v (answer_items says))
    unfolding now mid after
    give_keeps =
        let items : List Item = answer_items says in
        record {
          inside = changed_each (λ x s. s.on ≡ true → x < length units) stations v new (λ _. inv.inside v on_v) inv.inside;
          holds = changed_each (λ x s. s.on ≡ true → IsHeld (unit_at units x) s.address) stations v new
              (λ on. elim (t.outcome) [
                | inl quiet ↦ rw quiet.1 (inv.holds v on_v)
                | inr claims ↦ (claims.0, claims.2, claims.3)
              ]) inv.holds;
          apart = λ x y a other on_x on_y address_x address_y.
              clash_cases (IsClaimUndelivered after) (swapped after) stations v new stated_by_v
              (λ y z b y_other z_other c.
              stated_still (changed stations v new) mid v items y z b (rw (other_list y z z_other, other_list z y y_other) (clash_stated y z b c)))
              x y a (record { apart = other; one = record { on = on_x; address = address_x }; other = record { on = on_y; address = address_y } });
          said = said_more (changed stations v new) mid v items (λ k. IsSaid (unit_at units k)) all_said said_by_v;
          itself = not_itself (changed stations v new) mid v items no_list_itself;
          notes = changed_each (λ x s. AllNoted units x s.notes) stations v new t.notes inv.notes;
        }
