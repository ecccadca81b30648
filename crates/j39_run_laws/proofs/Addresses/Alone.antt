-- A unit that is alone at its planned address: it holds it, and no other unit does.
use Rattle.std.proofs.Common.{◌≡◌, ◌≢◌, ℕ, ◌<◌, inl, inr, arith, true, false, sym, ap, ◌∙◌, subst, Some}
use Rattle.std.proofs.lemmas.Bool.{true≢false, cases_Bool}
use Rattle.std.specs.FinSet.{contains}
use Rattle.std.specs.List.{Contains}
use Rattle.j39_claim.specs.declared.item.Say.TheVariants.{Claim}
use Rattle.j39_claim.specs.declared.item.Item.TheVariants.{AddressClaimed}
use Rattle.j39_id.specs.Name.{is_arbitrary}
use Rattle.j39_findings.specs.Findings.{Clean}
use Rattle.j39_network.specs.declared.plan.Plan.{Plan}
use Rattle.j39_network.specs.PlannedUnits.{units_of, unit_at}
use Rattle.j39_world.specs.SoundPlan.{Always}
use Rattle.j39_network.specs.Staying.{EachOther, IsAloneThere, IsFirstThere}
use Rattle.j39_world.specs.HeldAddresses.{HoldsAlone, HoldsPlanned}
use Rattle.j39_run_laws.proofs.Addresses.CleanUnits.{clean_units, unkept}
use Rattle.j39_run_laws.proofs.Addresses.SoundAddresses.{addresses_sound, kept_free, kept_unclaimed}
use Rattle.j39_run_laws.proofs.Addresses.Staying.{claimed, stay, stand}

module _ (plan : Plan) (clean : Clean plan) (u : ℕ) (alone : IsAloneThere plan.keep_free (units_of plan) u) where
  another : (v : ℕ) → (unit_at (units_of plan) v).name < (unit_at (units_of plan) u).name → u ≢ v
  another v smaller same =
      let below : (unit_at (units_of plan) v).name < (unit_at (units_of plan) v).name =
      subst (λ k. (unit_at (units_of plan) v).name < (unit_at (units_of plan) k).name) same smaller in
      omega arith

  first : IsFirstThere (units_of plan) u
  first v in_v smaller = alone.planned v in_v (another v smaller)

  -- it isn't kept free of a unit that may choose
  fixed : contains plan.keep_free (unit_at (units_of plan) u).preferred ≡ true → is_arbitrary (unit_at (units_of plan) u).name ≡ false
  fixed kept = elim (cases_Bool (is_arbitrary (unit_at (units_of plan) u).name)) [
    | inl arbitrary ↦
        let free : contains plan.keep_free (unit_at (units_of plan) u).preferred ≡ false =
        unkept plan clean u alone.inside arbitrary in
        absurd (true≢false (sym kept ∙ free))
    | inr is_fixed ↦ is_fixed
  ]

  pub held : Always plan (λ w. HoldsPlanned (units_of plan) w u)
  held steps w run on = elim (alone.unreached) [
    | inl outside ↦ stay plan steps w run u (record { first = first; unmoved = inl outside }) on
    | inr (inl kept) ↦
        let (a, is, own) = (addresses_sound plan (clean_units plan clean) steps w run).holds u on in
        is ∙ ap Some (own (fixed kept))
    | inr (inr each) ↦
        stay plan steps w run u (record {
          first = first;
          unmoved = inr (λ v in_v smaller arbitrary. (each v in_v (another v smaller) arbitrary).first);
        }) on
  ]

  pub unshared : Always plan (λ w. EachOther (units_of plan) u (λ v. (w.stations v).on ≡ true
      → (w.stations v).address ≢ Some (unit_at (units_of plan) u).preferred))
  unshared steps w run v in_v other on is =
      elim (stand plan steps w run v (unit_at (units_of plan) u).preferred on is) [
        | inl planned ↦ alone.planned v in_v other (sym planned)
        | inr (pool, arbitrary, leaves) ↦ elim (alone.unreached) [
          | inl outside ↦ true≢false (sym pool ∙ outside)
          | inr (inl kept) ↦
              true≢false (sym kept ∙ kept_free plan (clean_units plan clean) steps w run v (unit_at (units_of plan) u).preferred on arbitrary is)
          | inr (inr each) ↦ leaves (each v in_v other arbitrary)
        ]
      ]

  -- nor does any claim it
  pub unclaimed : Always plan (λ w. EachOther (units_of plan) u (λ v. ¬ Contains (w.claims v u) (AddressClaimed (Claim (unit_at (units_of plan) u).preferred))))
  unclaimed steps w run v in_v other claim =
      elim (claimed plan steps w run v u (unit_at (units_of plan) u).preferred claim) [
        | inl planned ↦ alone.planned v in_v other (sym planned)
        | inr (pool, arbitrary, leaves) ↦ elim (alone.unreached) [
          | inl outside ↦ true≢false (sym pool ∙ outside)
          | inr (inl kept) ↦
              true≢false (sym kept ∙ kept_unclaimed plan (clean_units plan clean) steps w run v u (unit_at (units_of plan) u).preferred claim arbitrary)
          | inr (inr each) ↦ leaves (each v in_v other arbitrary)
        ]
      ]

pub undisturbed : (plan : Plan) → Clean plan → Always plan (λ w. (u : ℕ) → IsAloneThere plan.keep_free (units_of plan) u → HoldsAlone (units_of plan) w u)
undisturbed plan clean steps w run u alone =
    record { held = held plan clean u alone steps w run; alone = unshared plan clean u alone steps w run }
