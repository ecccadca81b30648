-- Where no claim is undelivered, what a unit has noted of another one that is on is the address that this one holds.
use Rattle.std.proofs.Common.{◌≡◌, ◌≢◌, ℕ, true, false, not, ◌&&◌, eqb, List, [], ◌∷◌, ◌++◌, inl, inr, refl, sym, ap, ◌∙◌, subst, Option, Some, None}
use Rattle.std.proofs.lemmas.Bool.{cases_eq, eq-eqb, ne_eqb, cond-true, cond-false, cond_both, and_from, true≢false}
use Rattle.std.specs.List.{Contains}
use Rattle.std.specs.Ordering.{nat_cmp}
use Rattle.std.specs.FinMap.{get, get-empty}
use Rattle.std.proofs.Common.{arith, suc}
use Rattle.j39_claim.specs.declared.item.Say.{Say}
use Rattle.j39_claim.specs.declared.item.Say.TheVariants.{Claim, Cannot}
use Rattle.j39_claim.specs.declared.item.Item.{Item}
use Rattle.j39_claim.specs.declared.item.Item.TheVariants.{AddressClaimed, Request}
use Rattle.j39_claim.specs.ClaimRule.{PlannedUnit, ClaimState, Answers, claim_of, off, started}
use Rattle.j39_network.specs.declared.plan.Plan.{Plan}
use Rattle.j39_network.specs.PlannedUnits.{units_of, unit_at}
use Rattle.j39_world.specs.ClaimSteps.{sent_to_others, without_lists_to, answer_items}
use Rattle.j39_world.specs.Opening.{AreNamesDistinct}
use Rattle.j39_world.specs.Sent.{claimed_by}
use Rattle.j39_world.specs.Sound.{AreNotesRight, IsQuiet}
use Rattle.j39_world.specs.SoundPlan.{Always}
use Rattle.j39_world.specs.World.{Stations, Undelivered, all_off, changed, changed_pair, is_other_on}
use Rattle.j39_run_laws.proofs.Runs.Always.{always}
use Rattle.j39_run_laws.proofs.Runs.Changed.{changed_here, changed_elsewhere, pair_here, pair_here_or_elsewhere, pair_elsewhere}
use Rattle.j39_run_laws.proofs.Runs.ClaimInvariants.{IsKeptByClaimSteps, claims_at, stations_given, claims_given, claim_steps_keep}
use Rattle.j39_run_laws.proofs.Runs.Conditions.{is_unit}
use Rattle.j39_run_laws.proofs.Runs.Units.{AreUnitsOn, in_units, names_differ}
use Rattle.j39_run_laws.proofs.Settling.Deliveries.{AreDeliverable, apart, responds, claim_steps, deliverable}
use Rattle.j39_run_laws.proofs.Settling.Responses.{Response, IsNotedOf, says_held}
use Rattle.j39_run_laws.proofs.Settling.Silences.{AreSilent, at_first, given, passed_over, switched, stated}

-- the last that is said: by what is undelivered, else by what was noted
abbrev last_said : Option ℕ → List Item → Option ℕ
last_said noted [] = noted
last_said noted (AddressClaimed say ∷ items) = last_said (claimed_by say) items
last_said noted (Request ∷ items) = last_said noted items

last_of_both : (noted : Option ℕ) (xs ys : List Item) → last_said noted (xs ++ ys) ≡ last_said (last_said noted xs) ys
last_of_both noted [] ys = refl
last_of_both noted (AddressClaimed say ∷ xs) ys = last_of_both (claimed_by say) xs ys
last_of_both noted (Request ∷ xs) ys = last_of_both noted xs ys

-- where y is going to know of x an address, it is the one that x holds
abbrev RowAt : Plan → Stations → Undelivered → ℕ → ℕ → Type 0
RowAt plan f c x y = x ≢ y → (f x).on ≡ true → (f y).on ≡ true → (a : ℕ)
    → last_said (get (f y).notes (unit_at (units_of plan) x).name) (c x y) ≡ Some a → (f x).address ≡ Some a

record AreKnown (plan : Plan) (stations : Stations) (claims : Undelivered) : Type 0 where
  old : AreDeliverable plan stations claims
  silent : AreSilent plan stations claims
  row : (x y : ℕ) → RowAt plan stations claims x y

-- nothing is ever known of a unit that doesn't claim
silent_row : (plan : Plan) (f : Stations) (c : Undelivered) → AreSilent plan f c → AreUnitsOn plan f → (x : ℕ) → claims_at plan x ≡ false
    → (y : ℕ) → RowAt plan f c x y
silent_row plan f c silent units x is_silent y apart on_x on_y a is =
    let name : ℕ = (unit_at (units_of plan) x).name in
    let none : last_said (get (f y).notes name) (c x y) ≡ None =
    ap (last_said (get (f y).notes name)) (silent.unsent x y is_silent) ∙ silent.unnoted x y (in_units plan x (units x on_x)) is_silent in
    let never : None ≡ Some a = sym none ∙ is in absurd (cc)

-- what is said last by what is undelivered is said last, whatever was noted
said_anyway : (items : List Item) (a : ℕ) (noted : Option ℕ) → last_said None items ≡ Some a → last_said noted items ≡ Some a
said_anyway [] a noted is = absurd (cc is)
said_anyway (AddressClaimed say ∷ items) a noted is = is
said_anyway (Request ∷ items) a noted is = said_anyway items a noted is

-- v sends what it holds, and all others stay as they were
stated_rows : (plan : Plan) (f : Stations) (mid : Undelivered) (v : ℕ) (items : List Item)
    → ((noted : Option ℕ) → last_said noted items ≡ (f v).address)
    → ((x y : ℕ) → x ≢ v → RowAt plan f mid x y)
    → (x y : ℕ) → RowAt plan f (sent_to_others f mid v items) x y
stated_rows plan f mid v items states rows x y apart on_x on_y a is =
    let noted : Option ℕ = get (f y).notes (unit_at (units_of plan) x).name in
    elim (cases_eq x v) [
      | inl same ↦
          let y_other : y ≢ v = λ e. apart (same ∙ sym e) in
          let hears : is_other_on f v y ≡ true = and_from (f y).on (not (eqb y v)) on_y (ap not (ne_eqb y v y_other)) in
          let list : sent_to_others f mid v items x y ≡ mid x y ++ items =
          cond-true (eqb x v && is_other_on f v y) (mid x y ++ items) (mid x y) (and_from (eqb x v) (is_other_on f v y) (eq-eqb x v same) hears) in
          ap (λ k. (f k).address) same ∙ sym (states (last_said noted (mid x y))) ∙ sym (last_of_both noted (mid x y) items)
          ∙ sym (ap (last_said noted) list) ∙ is
      | inr other ↦
          let list : sent_to_others f mid v items x y ≡ mid x y =
          cond-false (eqb x v && is_other_on f v y) (mid x y ++ items) (mid x y) (ap (λ b. b && is_other_on f v y) (ne_eqb x v other)) in
          rows x y other apart on_x on_y a (sym (ap (last_said noted) list) ∙ is)
    ]

-- v sends nothing
unsent_rows : (plan : Plan) (f : Stations) (mid : Undelivered) (v : ℕ) → ((x y : ℕ) → RowAt plan f mid x y)
    → (x y : ℕ) → RowAt plan f (sent_to_others f mid v []) x y
unsent_rows plan f mid v rows x y apart on_x on_y a is =
    let noted : Option ℕ = get (f y).notes (unit_at (units_of plan) x).name in
    let same : last_said noted (sent_to_others f mid v [] x y) ≡ last_said noted (mid x y) =
    cond_both (eqb x v && is_other_on f v y) (mid x y ++ []) (mid x y) (λ xs. last_said noted xs ≡ last_said noted (mid x y))
    (λ _. last_of_both noted (mid x y) []) (λ _. refl) in
    rows x y apart on_x on_y a (sym same ∙ is)

no_note : (n a : ℕ) → get (off.notes) n ≡ Some a → ⊥
no_note n a is = let e = sym (get-empty {X = ℕ} nat_cmp n) ∙ is in cc

module _ (plan : Plan) (distinct : AreNamesDistinct (units_of plan)) (stations : Stations) (claims : Undelivered) (inv : AreKnown plan stations claims) where
  -- without what was undelivered to u, which is new there and has no notes
  fresh_rows : (u : ℕ) (new : ClaimState) → ((n a : ℕ) → get new.notes n ≡ Some a → ⊥)
      → (x y : ℕ) → x ≢ u → RowAt plan (changed stations u new) (without_lists_to u claims) x y
  fresh_rows u new none x y x_other apart on_x on_y a is =
      let at_x : changed stations u new x ≡ stations x = changed_elsewhere stations u new x x_other in
      elim (cases_eq y u) [
        | inl same ↦
            let at_y : changed stations u new y ≡ new = ap (changed stations u new) same ∙ changed_here stations u new in
            let list : without_lists_to u claims x y ≡ [] = cond-true (eqb y u) [] (claims x y) (eq-eqb y u same) in
            absurd (none (unit_at (units_of plan) x).name a
            (sym (ap (λ (s : ClaimState). get s.notes (unit_at (units_of plan) x).name) at_y)
            ∙ sym (ap (last_said (get (changed stations u new y).notes (unit_at (units_of plan) x).name)) list) ∙ is))
        | inr other ↦
            let at_y : changed stations u new y ≡ stations y = changed_elsewhere stations u new y other in
            let list : without_lists_to u claims x y ≡ claims x y = cond-false (eqb y u) [] (claims x y) (ne_eqb y u other) in
            ap (λ (s : ClaimState). s.address) at_x
            ∙ inv.row x y apart (sym (ap (λ (s : ClaimState). s.on) at_x) ∙ on_x) (sym (ap (λ (s : ClaimState). s.on) at_y) ∙ on_y) a
            (ap (λ (s : ClaimState). last_said (get s.notes (unit_at (units_of plan) x).name) (claims x y)) (sym at_y)
            ∙ sym (ap (last_said (get (changed stations u new y).notes (unit_at (units_of plan) x).name)) list) ∙ is)
      ]

  up_keeps : (u : ℕ) → is_unit plan u ≡ true → claims_at plan u ≡ true → let new : Stations = changed stations u (started (unit_at (units_of plan) u)) in
      AreKnown plan new (sent_to_others new (without_lists_to u claims) u (AddressClaimed (Claim (unit_at (units_of plan) u).preferred) ∷ []))
  up_keeps u unit claiming =
      let p : PlannedUnit = unit_at (units_of plan) u in
      record {
        old = (claim_steps plan distinct).switched_on stations claims inv.old u unit claiming;
        silent = stated plan (changed stations u (started p)) (without_lists_to u claims)
            (switched plan stations claims inv.silent u (started p) (λ n. get-empty nat_cmp n)) u (AddressClaimed (Claim p.preferred) ∷ []) claiming;
        row = stated_rows plan (changed stations u (started p)) (without_lists_to u claims) u (AddressClaimed (Claim p.preferred) ∷ [])
            (λ noted. sym (ap (λ (s : ClaimState). s.address) (changed_here stations u (started p))))
            (fresh_rows u (started p) no_note);
      }

  -- u says nothing
  up_silently : (u : ℕ) → is_unit plan u ≡ true → claims_at plan u ≡ false
      → AreKnown plan (changed stations u (started (unit_at (units_of plan) u))) (without_lists_to u claims)
  up_silently u unit is_silent =
      let new : ClaimState = started (unit_at (units_of plan) u) in
      let old = (claim_steps plan distinct).switched_on_silently stations claims inv.old u unit is_silent in
      let silent = switched plan stations claims inv.silent u new (λ n. get-empty nat_cmp n) in
      record {
        old = old;
        silent = silent;
        row = λ x y. elim (cases_eq x u) [
          | inl same ↦ silent_row plan (changed stations u new) (without_lists_to u claims) silent old.units x (ap (claims_at plan) same ∙ is_silent) y
          | inr other ↦ fresh_rows u new no_note x y other
        ];
      }

  down_keeps : (u : ℕ) → AreKnown plan (changed stations u off) (without_lists_to u claims)
  down_keeps u = record {
    old = (claim_steps plan distinct).switched_off stations claims inv.old u;
    silent = switched plan stations claims inv.silent u off (λ n. get-empty nat_cmp n);
    row = λ x y apart on_x. elim (cases_eq x u) [
      | inl same ↦
          let at_x : changed stations u off x ≡ off = ap (changed stations u off) same ∙ changed_here stations u off in
          absurd (true≢false (sym on_x ∙ ap (λ (s : ClaimState). s.on) at_x))
      | inr other ↦ fresh_rows u off no_note x y other apart on_x
    ];
  }

  ask_keeps : (u : ℕ) → is_unit plan u ≡ true → claims_at plan u ≡ true → (stations u).on ≡ true
      → AreKnown plan stations (sent_to_others stations claims u (Request ∷ AddressClaimed (claim_of (stations u).address) ∷ []))
  ask_keeps u unit claiming on = record {
    old = (claim_steps plan distinct).asked stations claims inv.old u unit claiming on;
    silent = stated plan stations claims inv.silent u (Request ∷ AddressClaimed (claim_of (stations u).address) ∷ []) claiming;
    row = stated_rows plan stations claims u (Request ∷ AddressClaimed (claim_of (stations u).address) ∷ [])
        (λ noted. says_held (stations u).address) (λ x y _. inv.row x y);
  }

  -- v does nothing about what it hears
  pass_over : (u v : ℕ) → is_unit plan u ≡ true → is_unit plan v ≡ true → (stations v).on ≡ true → claims_at plan v ≡ false
      → (item : Item) (rest : List Item) → claims u v ≡ item ∷ rest → AreKnown plan stations (changed_pair claims u v rest)
  pass_over u v unit_u unit_v on_v is_silent item rest list = record {
    old = (claim_steps plan distinct).passed_over stations claims inv.old u v unit_u unit_v on_v is_silent item rest list;
    silent = passed_over plan stations claims inv.silent u v item rest list;
    row = pair_here_or_elsewhere (λ x y. RowAt plan stations (changed_pair claims u v rest) x y) u v
        (λ apart on_x on_y a is.
        let name : ℕ = (unit_at (units_of plan) u).name in
        let none : get (stations v).notes name ≡ None = inv.silent.unnoting v name is_silent in
        let left : last_said None rest ≡ Some a =
        ap (λ o. last_said o rest) (sym none) ∙ ap (last_said (get (stations v).notes name)) (sym (pair_here claims u v rest)) ∙ is in
        inv.row u v apart on_x on_y a (ap (last_said (get (stations v).notes name)) list ∙ heard_anyway (get (stations v).notes name) item rest a left))
        (λ x y elsewhere apart on_x on_y a is.
        inv.row x y apart on_x on_y a (ap (last_said (get (stations y).notes (unit_at (units_of plan) x).name))
        (sym (pair_elsewhere claims u v rest x y elsewhere)) ∙ is));
  }
    where
      heard_anyway : (noted : Option ℕ) (i : Item) (items : List Item) (a : ℕ) → last_said None items ≡ Some a → last_said noted (i ∷ items) ≡ Some a
      heard_anyway noted (AddressClaimed say) items a is = said_anyway items a (claimed_by say) is
      heard_anyway noted Request items a is = said_anyway items a noted is

  module _ (u v : ℕ) (unit_u : is_unit plan u ≡ true) (unit_v : is_unit plan v ≡ true) (on_v : (stations v).on ≡ true) (claiming : claims_at plan v ≡ true)
      (item : Item) (rest : List Item) (list : claims u v ≡ item ∷ rest) (says : Option Say) (new : ClaimState)
      (answers : Answers (unit_at (units_of plan) v) (stations v) (unit_at (units_of plan) u).name item says new) where
    r : Response (unit_at (units_of plan) v) (stations v) (unit_at (units_of plan) u).name item says new
    r = responds plan distinct stations claims inv.old u v unit_u unit_v on_v item rest list says new answers

    heard_last : (i : Item) → IsNotedOf (stations v).notes new.notes (unit_at (units_of plan) u).name i
        → last_said (get (stations v).notes (unit_at (units_of plan) u).name) (i ∷ rest) ≡ last_said (get new.notes (unit_at (units_of plan) u).name) rest
    heard_last (AddressClaimed say) noted = ap (λ o. last_said o rest) (sym noted)
    heard_last Request noted = ap (λ o. last_said o rest) (sym noted)

    -- what v is going to know of another is the same
    known_by_v : (x : ℕ) → x ≢ v → (stations x).on ≡ true
        → last_said (get (stations v).notes (unit_at (units_of plan) x).name) (claims x v)
        ≡ last_said (get new.notes (unit_at (units_of plan) x).name) (changed_pair claims u v rest x v)
    known_by_v x x_other on_x = elim (cases_eq x u) [
      | inl same ↦
          subst (λ k. last_said (get (stations v).notes (unit_at (units_of plan) k).name) (claims k v)
          ≡ last_said (get new.notes (unit_at (units_of plan) k).name) (changed_pair claims u v rest k v)) (sym same)
          (ap (last_said (get (stations v).notes (unit_at (units_of plan) u).name)) list ∙ heard_last item r.noted
          ∙ sym (ap (last_said (get new.notes (unit_at (units_of plan) u).name)) (pair_here claims u v rest)))
      | inr other ↦
          let names = names_differ (units_of plan) distinct x u (in_units plan x (inv.old.units x on_x)) (in_units plan u unit_u) other in
          ap (λ o. last_said o (claims x v)) (sym (r.others (unit_at (units_of plan) x).name names))
          ∙ sym (ap (last_said (get new.notes (unit_at (units_of plan) x).name)) (pair_elsewhere claims u v rest x v (λ e _. other e)))
    ]

    mid_rows : (x y : ℕ) → x ≢ v → RowAt plan (changed stations v new) (changed_pair claims u v rest) x y
    mid_rows x y x_other apart on_x on_y a is =
        let at_x : changed stations v new x ≡ stations x = changed_elsewhere stations v new x x_other in
        let was_on : (stations x).on ≡ true = sym (ap (λ (s : ClaimState). s.on) at_x) ∙ on_x in
        elim (cases_eq y v) [
          | inl same ↦
              let moved : last_said (get (changed stations v new v).notes (unit_at (units_of plan) x).name) (changed_pair claims u v rest x v) ≡ Some a =
              subst (λ k. last_said (get (changed stations v new k).notes (unit_at (units_of plan) x).name) (changed_pair claims u v rest x k)
              ≡ Some a) same is in
              ap (λ (s : ClaimState). s.address) at_x
              ∙ inv.row x v x_other was_on on_v a
              (known_by_v x x_other was_on
              ∙ ap (λ (s : ClaimState). last_said (get s.notes (unit_at (units_of plan) x).name) (changed_pair claims u v rest x v))
              (sym (changed_here stations v new))
              ∙ moved)
          | inr other ↦
              let at_y : changed stations v new y ≡ stations y = changed_elsewhere stations v new y other in
              let lists : changed_pair claims u v rest x y ≡ claims x y = pair_elsewhere claims u v rest x y (λ _ e. other e) in
              ap (λ (s : ClaimState). s.address) at_x
              ∙ inv.row x y apart was_on (sym (ap (λ (s : ClaimState). s.on) at_y) ∙ on_y) a
              (ap (λ (s : ClaimState). last_said (get s.notes (unit_at (units_of plan) x).name) (claims x y)) (sym at_y)
              ∙ sym (ap (last_said (get (changed stations v new y).notes (unit_at (units_of plan) x).name)) lists) ∙ is)
        ]

    -- where v holds what it held
    still_rows : new.address ≡ (stations v).address → (x y : ℕ) → RowAt plan (changed stations v new) (changed_pair claims u v rest) x y
    still_rows still x y = elim (cases_eq x v) [
      | inr other ↦ mid_rows x y other
      | inl same ↦ subst (λ k. RowAt plan (changed stations v new) (changed_pair claims u v rest) k y) (sym same)
          (λ apart on_x on_y a is.
          let y_other : y ≢ v = λ e. apart (sym e) in
          let at_y : changed stations v new y ≡ stations y = changed_elsewhere stations v new y y_other in
          let lists : changed_pair claims u v rest v y ≡ claims v y = pair_elsewhere claims u v rest v y (λ _ e. y_other e) in
          ap (λ (s : ClaimState). s.address) (changed_here stations v new) ∙ still
          ∙ inv.row v y apart on_v (sym (ap (λ (s : ClaimState). s.on) at_y) ∙ on_y) a
          (ap (λ (s : ClaimState). last_said (get s.notes (unit_at (units_of plan) v).name) (claims v y)) (sym at_y)
          ∙ sym (ap (last_said (get (changed stations v new y).notes (unit_at (units_of plan) v).name)) lists) ∙ is))
    ]

    stated_say : (say : Say) → says ≡ Some say → claimed_by say ≡ new.address
        → (x y : ℕ) → RowAt plan (changed stations v new) (sent_to_others (changed stations v new) (changed_pair claims u v rest) v (answer_items says)) x y
    stated_say say said holds =
        subst (λ o. (x y : ℕ) → RowAt plan (changed stations v new)
        (sent_to_others (changed stations v new) (changed_pair claims u v rest) v (answer_items o)) x y)
        (sym said)
        (stated_rows plan (changed stations v new) (changed_pair claims u v rest) v (AddressClaimed say ∷ [])
        (λ noted. holds ∙ sym (ap (λ (s : ClaimState). s.address) (changed_here stations v new))) mid_rows)

    give_keeps : AreKnown plan (stations_given stations v new) (claims_given stations claims u v rest says new)
    give_keeps = record {
      old = (claim_steps plan distinct).given stations claims inv.old u v unit_u unit_v on_v claiming item rest list says new answers;
      silent = given plan stations claims inv.silent u v item rest list distinct unit_u claiming says new r;
      row = elim (r.outcome) [
        | inl silent ↦
            subst (λ o. (x y : ℕ) → RowAt plan (changed stations v new)
            (sent_to_others (changed stations v new) (changed_pair claims u v rest) v (answer_items o)) x y)
            (sym silent.0) (unsent_rows plan (changed stations v new) (changed_pair claims u v rest) v (still_rows silent.1))
        | inr (inl repeats) ↦ stated_say repeats.say repeats.said repeats.holds
        | inr (inr loses) ↦ stated_say loses.say loses.said loses.holds
      ];
    }

known_steps : (plan : Plan) → AreNamesDistinct (units_of plan) → IsKeptByClaimSteps plan (AreKnown plan)
known_steps plan distinct = record {
  switched_on = up_keeps plan distinct;
  switched_on_silently = up_silently plan distinct;
  switched_off = down_keeps plan distinct;
  asked = ask_keeps plan distinct;
  given = give_keeps plan distinct;
  passed_over = pass_over plan distinct;
}

known : (plan : Plan) → AreNamesDistinct (units_of plan) → Always plan (λ w. AreKnown plan w.stations w.claims)
known plan distinct = always plan (λ w. AreKnown plan w.stations w.claims)
    (record {
      old = deliverable plan distinct [] all_off refl;
      silent = at_first plan;
      row = λ x y apart on_x. absurd (true≢false (sym on_x));
    })
    (claim_steps_keep plan (AreKnown plan) (known_steps plan distinct))

-- where nothing is claimed, what was noted is said last
quiet_last : (noted : Option ℕ) (items : List Item) → ((a : ℕ) → ¬ Contains items (AddressClaimed (Claim a))) → ¬ Contains items (AddressClaimed Cannot)
    → last_said noted items ≡ noted
quiet_last noted [] claim cannot = refl
quiet_last noted (AddressClaimed (Claim a) ∷ items) claim cannot = absurd (claim a (0, omega arith, refl))
quiet_last noted (AddressClaimed Cannot ∷ items) claim cannot = absurd (cannot (0, omega arith, refl))
quiet_last noted (Request ∷ items) claim cannot =
    quiet_last noted items (λ a (k, inside, is). claim a (suc k, omega arith, is)) (λ (k, inside, is). cannot (suc k, omega arith, is))

pub quiet_notes : (plan : Plan) → AreNamesDistinct (units_of plan) → Always plan (λ w. IsQuiet w.claims → AreNotesRight plan w)
quiet_notes plan distinct steps w run quiet u v a other on_u on_v is =
    (known plan distinct steps w run).row u v other on_u on_v a
    (quiet_last (get (w.stations v).notes (unit_at (units_of plan) u).name) (w.claims u v) (quiet u v).0 (quiet u v).1 ∙ is)
