-- The steps that show a conflict leave the unit with the larger NAME without an address.
use Rattle.std.proofs.Common.{◌≡◌, ◌≢◌, ℕ, zero, suc, ◌+◌, ◌<◌, Bool, true, false, cond, not, ◌&&◌, ◌==◌, eqb, ltb, inl, inr, List, [], ◌∷◌, ◌++◌, length}
use Rattle.std.proofs.Common.{refl, sym, ap, ◌∙◌, subst, arith, Option, Some, None}
use Rattle.std.proofs.lemmas.Bool.{MatchBool-at_true, cases_eq, and_from, and_left, and_right, cond_both, cond-true, cond-false, eq-eqb, ne_eqb}
use Rattle.std.proofs.lemmas.Bool.{lt-ltb, not_from_true, true≢false}
use Rattle.std.specs.List.{list_all, range_with_len, slice_get}
use Rattle.std.specs.Option.{is_some}
use Rattle.j39_id.specs.Name.{is_arbitrary}
use Rattle.j39_claim.specs.declared.item.Say.{Say}
use Rattle.j39_claim.specs.declared.item.Say.TheVariants.{Claim, Cannot}
use Rattle.j39_claim.specs.declared.item.Item.{Item}
use Rattle.j39_claim.specs.declared.item.Item.TheVariants.{AddressClaimed}
use Rattle.j39_claim.specs.ClaimRule.{PlannedUnit, ClaimState, Answers, holds_address, started}
use Rattle.j39_network.specs.UnitAddresses.{IsFixed}
use Rattle.j39_findings.specs.ConflictRuns.{IsConflictRun, conflict_steps}
use Rattle.j39_findings.specs.declared.checking.finding.Finding.TheVariants.{SameFixedAddress}
use Rattle.j39_network.specs.declared.plan.Plan.{Plan}
use Rattle.j39_network.specs.declared.plan.unit_plan.UnitPlan.{UnitPlan}
use Rattle.j39_findings.specs.declared.checking.finding.Finding.{Finding}
use Rattle.j39_network.specs.declared.steps.Step.{Step}
use Rattle.j39_network.specs.declared.steps.Step.TheVariants.{Up, Give}
use Rattle.j39_world.specs.declared.wired.Wired.{Wired}
use Rattle.j39_network.specs.PlannedUnits.{units_of, unit_at}
use Rattle.j39_world.specs.ClaimSteps.{GivenFrom, switched_on, heard_and_answered, sent_to_others, without_lists_to, answer_items, first_items}
use Rattle.j39_world.specs.Conflict.{IsLeftWithoutAddress, LeavesWithoutAddress}
use Rattle.j39_world.specs.Run.{count_of, is_a_transfer_open, is_on, is_none_sending, is_nothing_undelivered, is_no_transfer_open, refusal, Run, RunsThrough}
use Rattle.j39_world.specs.World.{World, Stations, Undelivered, all_off, changed, changed_pair, is_other_on}
use Rattle.j39_run_laws.proofs.Addresses.CleanUnits.{stands}
use Rattle.j39_run_laws.proofs.Certified.{quiet_where_empty}
use Rattle.j39_run_laws.proofs.Settling.SettlingRuns.{reacted}
use Rattle.j39_run_laws.proofs.Runs.ClaimInvariants.{first_said}
use Rattle.j39_run_laws.proofs.Runs.Changed.{IsElsewhere, changed_here, changed_elsewhere, pair_here_or_elsewhere, pair_here, pair_elsewhere}
use Rattle.j39_run_laws.proofs.Runs.Always.{follows_to_leads, leads_to_follows}
use Rattle.j39_run_laws.proofs.Runs.Conditions.{is_unit, none_unknown, not_refused}

-- ---- who hears, where few are on

module _ (stations : Stations) (claims : Undelivered) (u : ℕ) (items : List Item) where
  not_reported : (s t : ℕ) → is_other_on stations u t ≡ false → sent_to_others stations claims u items s t ≡ claims s t
  not_reported s t deaf = cond-false (eqb s u && is_other_on stations u t) (claims s t ++ items) (claims s t)
      (and_right (eqb s u) (is_other_on stations u t) deaf)

  is_deaf : (t : ℕ) → (t ≢ u → (stations t).on ≡ false) → is_other_on stations u t ≡ false
  is_deaf t off = elim (cases_eq t u) [
    | inl same ↦ let e : eqb t u ≡ true = eq-eqb t u same in and_right (stations t).on (not (eqb t u)) (rw e refl)
    | inr other ↦ and_left (stations t).on (not (eqb t u)) (off other)
  ]

  -- where it alone is on, nobody hears
  nobody_stated : ((t : ℕ) → t ≢ u → (stations t).on ≡ false) → (s t : ℕ) → sent_to_others stations claims u items s t ≡ claims s t
  nobody_stated off s t = not_reported s t (is_deaf t (off t))

  module _ (v : ℕ) (apart : v ≢ u) (off : (t : ℕ) → t ≢ u → t ≢ v → (stations t).on ≡ false) where
    -- where one other is on, this one hears
    one_stated : (stations v).on ≡ true → sent_to_others stations claims u items u v ≡ claims u v ++ items
    one_stated on =
        let here : (eqb u u && is_other_on stations u v) ≡ true =
        and_from (eqb u u) (is_other_on stations u v) (eq-eqb u u refl) (and_from (stations v).on (not (eqb v u)) on (ap not (ne_eqb v u apart))) in
        cond-true (eqb u u && is_other_on stations u v) (claims u v ++ items) (claims u v) here

    no_other_stated : (s t : ℕ) → IsElsewhere u v s t → sent_to_others stations claims u items s t ≡ claims s t
    no_other_stated s t elsewhere = elim (cases_eq s u) [
      | inr other ↦ cond-false (eqb s u && is_other_on stations u t) (claims s t ++ items) (claims s t)
          (and_left (eqb s u) (is_other_on stations u t) (ne_eqb s u other))
      | inl same ↦ not_reported s t (is_deaf t (λ not_u. off t not_u (elsewhere same)))
    ]

-- ---- a unit that loses its address and may not move

module _ (c : PlannedUnit) (n : ℕ) (fixed : is_arbitrary c.name ≡ false) (smaller : n < c.name) where
  pub record Yields (says : Option Say) (new : ClaimState) : Type 0 where
    pub says_so : says ≡ Some Cannot
    pub on : new.on ≡ true
    pub without : new.address ≡ None

  yields : (a : ℕ) → c.preferred ≡ a → (says : Option Say) (new : ClaimState) → Answers c (started c) n (AddressClaimed (Claim a)) says new → Yields says new
  yields a same says new answers =
      let held : holds_address (started c).address a ≡ true = eq-eqb c.preferred a same in
      let less : ltb n c.name ≡ true = lt-ltb n c.name smaller in
      elim (MatchBool-at_true _ _ less (MatchBool-at_true _ _ held answers)) [
        | inl moves ↦ absurd (true≢false (sym moves.1 ∙ fixed))
        | inr gives_up ↦ record { says_so = gives_up.1; on = ap (λ (s : ClaimState). s.on) gives_up.2; without = ap (λ (s : ClaimState). s.address) gives_up.2 }
      ]

-- ---- steps that are not refused

all_pass : (test : ℕ → Bool) (a n : ℕ) → ((x : ℕ) → test x ≡ true) → list_all test (range_with_len a n) ≡ true
all_pass test a zero pass = refl
all_pass test a (suc n) pass = and_from (test a) (list_all test (range_with_len (a + 1) n)) (pass a) (all_pass test (a + 1) n pass)

none_open : (count : ℕ) (w : World) → ((u : ℕ) → w.sessions u ≡ None) → ((u v : ℕ) → w.wire u v ≡ []) → is_no_transfer_open count w ≡ true
none_open count w none empty =
    let nothing_of : ℕ → Bool = λ u. list_all (λ v. length (w.wire u v) == 0) (range_with_len 0 count) in
    and_from (is_none_sending count w) (is_nothing_undelivered count w.wire)
    (all_pass (λ u. not (is_some (w.sessions u))) 0 count (λ u. ap (λ o. not (is_some o)) (none u)))
    (all_pass nothing_of 0 count (λ u. all_pass (λ v. length (w.wire u v) == 0) 0 count (λ v. ap (λ (xs : List Wired). length xs == 0) (empty u v))))

-- ---- the four steps

module _ (plan : Plan) (l s : ℕ) (unit_l : is_unit plan l ≡ true) (unit_s : is_unit plan s ≡ true)
    (fixed : is_arbitrary (unit_at (units_of plan) l).name ≡ false)
    (same : (unit_at (units_of plan) l).preferred ≡ (unit_at (units_of plan) s).preferred)
    (smaller : (unit_at (units_of plan) s).name < (unit_at (units_of plan) l).name)
    (claims_l : (unit_at (units_of plan) l).claims ≡ true) (claims_s : (unit_at (units_of plan) s).claims ≡ true) where
  -- the unit of the larger NAME, and that of the smaller one
  abbrev loser : PlannedUnit
  loser = unit_at (units_of plan) l

  abbrev winner : PlannedUnit
  winner = unit_at (units_of plan) s

  apart : l ≢ s
  apart e =
      let names : loser.name ≡ winner.name = ap (λ k. (unit_at (units_of plan) k).name) e in absurd (omega arith)

  pub record IsOneOn (w : World) : Type 0 where
    pub silent : (u : ℕ) → w.sessions u ≡ None
    pub untaken : (x y : ℕ) → w.wire x y ≡ []
    pub one : w.stations l ≡ started loser
    pub off : (t : ℕ) → t ≢ l → (w.stations t).on ≡ false
    pub stated : (x y : ℕ) → w.claims x y ≡ []

  pub record AreTwoOn (item : Item) (from to : ℕ) (w : World) : Type 0 where
    pub silent : (u : ℕ) → w.sessions u ≡ None
    pub on_l : (w.stations l).on ≡ true
    pub on_s : (w.stations s).on ≡ true
    pub off : (t : ℕ) → t ≢ l → t ≢ s → (w.stations t).on ≡ false
    pub list : w.claims from to ≡ item ∷ []
    pub stated : (x y : ℕ) → IsElsewhere from to x y → w.claims x y ≡ []

  nothing : {X : Type 0} (b : Bool) (xs : List X) → xs ≡ [] → cond b [] xs ≡ []
  nothing true xs is = refl
  nothing false xs is = is

  up_l : refusal plan all_off (Up l) ≡ None
  up_l = not_refused plan all_off (Up l) (
    not_from_true _ unit_l,
    (
      refl,
      (
        and_right (not plan.live) (is_a_transfer_open (count_of plan) all_off) (not_from_true _ (none_open (count_of plan) all_off (λ u. refl) (λ u v. refl))),
        tt,
      ),
    ),
  )

  one_on : IsOneOn (switched_on (units_of plan) all_off l)
  one_on =
      let new : Stations = changed all_off.stations l (started loser) in
      let off : (t : ℕ) → t ≢ l → (new t).on ≡ false =
      λ t other. ap (λ (x : ClaimState). x.on) (changed_elsewhere all_off.stations l (started loser) t other) in
      record {
        silent = λ u. refl;
        untaken = λ x y. nothing (eqb y l) [] refl;
        one = changed_here all_off.stations l (started loser);
        off = off;
        stated = λ x y. nobody_stated new (without_lists_to l all_off.claims) l (first_items loser) off x y
            ∙ nothing (eqb y l) [] refl;
      }

  up_s : (w : World) → IsOneOn w → refusal plan w (Up s) ≡ None
  up_s w is = not_refused plan w (Up s) (
    not_from_true _ unit_s,
    (
      is.off s (λ e. apart (sym e)),
      (and_right (not plan.live) (is_a_transfer_open (count_of plan) w) (not_from_true _ (none_open (count_of plan) w is.silent is.untaken)), tt),
    ),
  )

  still_one : (w : World) → IsOneOn w → (switched_on (units_of plan) w s).stations l ≡ started loser
  still_one w is = changed_elsewhere w.stations s (started winner) l apart ∙ is.one

  two_on : (w : World) → IsOneOn w → AreTwoOn (AddressClaimed (Claim winner.preferred)) s l (switched_on (units_of plan) w s)
  two_on w is =
      let new : Stations = changed w.stations s (started winner) in
      let mid : Undelivered = without_lists_to s w.claims in
      let items : List Item = first_items winner in
      let at_l : new l ≡ started loser = changed_elsewhere w.stations s (started winner) l apart ∙ is.one in
      let on_l : (new l).on ≡ true = ap (λ (x : ClaimState). x.on) at_l in
      let off : (t : ℕ) → t ≢ s → t ≢ l → (new t).on ≡ false =
      λ t not_s not_l. ap (λ (x : ClaimState). x.on) (changed_elsewhere w.stations s (started winner) t not_s) ∙ is.off t not_l in
      record {
        silent = is.silent;
        on_l = on_l;
        on_s = ap (λ (x : ClaimState). x.on) (changed_here w.stations s (started winner));
        off = λ t not_l not_s. off t not_s not_l;
        list =
            one_stated new mid s items l apart off on_l ∙ ap (λ (xs : List Item). xs ++ items)
            (nothing (eqb l s) (w.claims s l) (is.stated s l)) ∙ first_said winner claims_s;
        stated = λ x y elsewhere. no_other_stated new mid s items l apart off x y elsewhere ∙ nothing (eqb y s) (w.claims x y) (is.stated x y);
      }

  gives : (w : World) (item : Item) (from to : ℕ) → AreTwoOn item from to w → is_unit plan from ≡ true → is_unit plan to ≡ true → is_on w.stations to ≡ true
      → refusal plan w (Give from to) ≡ None
  gives w item from to is unit_from unit_to on_to =
      let some : ltb 0 (length (w.claims from to)) ≡ true = lt-ltb 0 (length (w.claims from to)) (rw is.list (omega arith)) in
      not_refused plan w (Give from to) (none_unknown plan from to unit_from unit_to, (not_from_true _ on_to, (not_from_true _ some, tt)))

  -- after the oldest item was heard nothing is undelivered
  heard_all : (claims : Undelivered) (from to : ℕ) → ((x y : ℕ) → IsElsewhere from to x y → claims x y ≡ []) → (x y : ℕ)
      → changed_pair claims from to [] x y ≡ []
  heard_all claims from to stated =
      pair_here_or_elsewhere (λ x y. changed_pair claims from to [] x y ≡ []) from to (pair_here claims from to [])
      (λ x y elsewhere. pair_elsewhere claims from to [] x y elsewhere ∙ stated x y elsewhere)

  both_none : (xs ys : List Item) → xs ≡ [] → ys ≡ [] → xs ++ ys ≡ []
  both_none xs ys a b = rw (a, b)

  -- the larger NAME yields
  pub record IsYielding (w : World) : Type 0 where
    pub two : AreTwoOn (AddressClaimed Cannot) l s w
    pub without : (w.stations l).address ≡ None

  yielding : (w : World) → AreTwoOn (AddressClaimed (Claim winner.preferred)) s l w → w.stations l ≡ started loser
      → (new : World) → GivenFrom (units_of plan) w s l (w.claims s l) new → IsYielding new
  yielding w is one new leads =
      let (says, st, reacts, e) = subst (λ (xs : List Item). GivenFrom (units_of plan) w s l xs new) is.list leads in
      let answers = MatchBool-at_true _ _ claims_l reacts in
      let item : Item = AddressClaimed (Claim winner.preferred) in
      let y : Yields loser winner.name fixed smaller says st =
      yields loser winner.name fixed smaller winner.preferred same says st
      (subst (λ (x : ClaimState). Answers loser x winner.name item says st) one answers) in
      let now : Stations = changed w.stations l st in
      let mid : Undelivered = changed_pair w.claims s l [] in
      let none : (x y : ℕ) → mid x y ≡ [] = heard_all w.claims s l is.stated in
      let not_l : s ≢ l = λ e'. apart (sym e') in
      let at_l : now l ≡ st = changed_here w.stations l st in
      let on_s : (now s).on ≡ true = ap (λ (x : ClaimState). x.on) (changed_elsewhere w.stations l st s not_l) ∙ is.on_s in
      let off : (t : ℕ) → t ≢ l → t ≢ s → (now t).on ≡ false =
      λ t other_l other_s. ap (λ (x : ClaimState). x.on) (changed_elsewhere w.stations l st t other_l) ∙ is.off t other_l other_s in
      let stated : List Item = answer_items says in
      let says_it : stated ≡ AddressClaimed Cannot ∷ [] = ap answer_items y.says_so in
      subst IsYielding (sym e) (record {
        two = record {
          silent = is.silent;
          on_l = ap (λ (x : ClaimState). x.on) at_l ∙ y.on;
          on_s = on_s;
          off = off;
          list = one_stated now mid l stated s not_l off on_s ∙ ap (λ (xs : List Item). xs ++ stated) (none l s) ∙ says_it;
          stated = λ x y elsewhere. no_other_stated now mid l stated s not_l off x y elsewhere ∙ none x y;
        };
        without = ap (λ (x : ClaimState). x.address) at_l ∙ y.without;
      })

  left : (w : World) → IsYielding w → (new : World) → GivenFrom (units_of plan) w l s (w.claims l s) new → IsLeftWithoutAddress l new
  left w is new leads =
      let (says, st, reacts, e) = subst (λ (xs : List Item). GivenFrom (units_of plan) w l s xs new) is.two.list leads in
      let answers = MatchBool-at_true _ _ claims_s reacts in
      let mid : Undelivered = changed_pair w.claims l s [] in
      let none : (x y : ℕ) → mid x y ≡ [] = heard_all w.claims l s is.two.stated in
      let silent : answer_items says ≡ [] = ap answer_items answers.0 in
      let at_l : changed w.stations s st l ≡ w.stations l = changed_elsewhere w.stations s st l apart in
      subst (IsLeftWithoutAddress l) (sym e) (record {
        quiet = quiet_where_empty (sent_to_others (changed w.stations s st) mid s (answer_items says))
            (λ x y. cond_both (eqb x s && is_other_on (changed w.stations s st) s y) (mid x y ++ answer_items says) (mid x y) (λ xs. xs ≡ [])
            (λ _. both_none (mid x y) (answer_items says) (none x y) silent) (λ _. none x y));
        on = ap (λ (x : ClaimState). x.on) at_l ∙ is.two.on_l;
        without = ap (λ (x : ClaimState). x.address) at_l ∙ is.without;
      })

  -- ---- the run

  give_s : (w : World) → AreTwoOn (AddressClaimed (Claim winner.preferred)) s l w → refusal plan w (Give s l) ≡ None
  give_s w is = gives w (AddressClaimed (Claim winner.preferred)) s l is unit_s unit_l is.on_l

  give_l : (w : World) → IsYielding w → refusal plan w (Give l s) ≡ None
  give_l w is = gives w (AddressClaimed Cannot) l s is.two unit_l unit_s is.two.on_s

  possible : (w : World) × Run plan all_off (conflict_steps l s) w
  possible =
      let w1 : World = switched_on (units_of plan) all_off l in
      let w2 : World = switched_on (units_of plan) w1 s in
      let is2 = two_on w1 one_on in
      let claim : Item = AddressClaimed (Claim winner.preferred) in
      let (says3, st3, answers3) = reacted loser (w2.stations l) winner.name claim in
      let w3 : World = heard_and_answered (units_of plan) w2 s l [] says3 st3 in
      let leads3 : GivenFrom (units_of plan) w2 s l (w2.claims s l) w3 =
      subst (λ (xs : List Item). GivenFrom (units_of plan) w2 s l xs w3) (sym is2.list) (says3, st3, answers3, refl) in
      let is3 = yielding w2 is2 (still_one w1 one_on) w3 leads3 in
      let (says4, st4, answers4) = reacted winner (w3.stations s) loser.name (AddressClaimed Cannot) in
      let w4 : World = heard_and_answered (units_of plan) w3 l s [] says4 st4 in
      let leads4 : GivenFrom (units_of plan) w3 l s (w3.claims l s) w4 =
      subst (λ (xs : List Item). GivenFrom (units_of plan) w3 l s xs w4) (sym is3.two.list) (says4, st4, answers4, refl) in (
        w4,
        (
          w1,
          leads_to_follows plan all_off (Up l) up_l w1 refl,
          (
            w2,
            leads_to_follows plan w1 (Up s) (up_s w1 one_on) w2 refl,
            (w3, leads_to_follows plan w2 (Give s l) (give_s w2 is2) w3 leads3, (w4, leads_to_follows plan w3 (Give l s) (give_l w3 is3) w4 leads4, refl)),
          ),
        ),
      )

  shown : (w : World) → Run plan all_off (conflict_steps l s) w → RunsThrough plan all_off (conflict_steps l s) w × IsLeftWithoutAddress l w
  shown w (m1, f1, (m2, f2, (m3, f3, (m4, f4, e)))) =
      let l1 : m1 ≡ switched_on (units_of plan) all_off l = follows_to_leads plan all_off (Up l) up_l m1 f1 in
      let is1 : IsOneOn m1 = subst IsOneOn (sym l1) one_on in
      let l2 : m2 ≡ switched_on (units_of plan) m1 s = follows_to_leads plan m1 (Up s) (up_s m1 is1) m2 f2 in
      let is2 : AreTwoOn (AddressClaimed (Claim winner.preferred)) s l m2 =
      subst (AreTwoOn (AddressClaimed (Claim winner.preferred)) s l) (sym l2) (two_on m1 is1) in
      let one2 : m2.stations l ≡ started loser = ap (λ (x : World). x.stations l) l2 ∙ still_one m1 is1 in
      let l3 = follows_to_leads plan m2 (Give s l) (give_s m2 is2) m3 f3 in
      let is3 : IsYielding m3 = yielding m2 is2 one2 m3 l3 in
      let l4 = follows_to_leads plan m3 (Give l s) (give_l m3 is3) m4 f4 in
      ((m1, up_l, l1, (m2, up_s m1 is1, l2, (m3, give_s m2 is2, l3, (m4, give_l m3 is3, l4, e)))), subst (IsLeftWithoutAddress l) (sym e) (left m3 is3 m4 l4))

-- ---- the units that a finding names

-- of two units that are in conflict, at these places in one order or the other
pub record AreFixedAlike (plan : Plan) (l s : ℕ) : Type 0 where
  pub one : UnitPlan
  pub other : UnitPlan
  pub one_is : slice_get plan.units.items l ≡ Some one
  pub other_is : slice_get plan.units.items s ≡ Some other
  pub fixed : IsFixed one
  pub address : one.address ≡ other.address
  pub claims_one : one.claims ≡ true
  pub claims_other : other.claims ≡ true

at_places : (plan : Plan) (l s i j : ℕ) (one other : UnitPlan) → i ≡ l → j ≡ s → slice_get plan.units.items i ≡ Some one
    → slice_get plan.units.items j ≡ Some other → IsFixed one → one.address ≡ other.address → one.claims ≡ true → other.claims ≡ true → AreFixedAlike plan l s
at_places plan l s i j one other at_l at_s one_is other_is fixed address claims_one claims_other = record {
  one = one;
  other = other;
  one_is = ap (λ k. slice_get plan.units.items k) (sym at_l) ∙ one_is;
  other_is = ap (λ k. slice_get plan.units.items k) (sym at_s) ∙ other_is;
  fixed = fixed;
  address = address;
  claims_one = claims_one;
  claims_other = claims_other;
}

alike : (plan : Plan) (finding : Finding) (steps : List Step) (c : IsConflictRun plan finding steps) → AreFixedAlike plan c.larger c.smaller
alike plan finding steps c =
    let (i, j, is, pair) = c.states in
    let (fixed_i, fixed_j, address, claims_i, claims_j) = pair.related.0 in
    elim (c.both) [
      | inl turned ↦
          let e : SameFixedAddress i j ≡ SameFixedAddress c.larger c.smaller = sym is ∙ turned in
          at_places plan c.larger c.smaller i j pair.first pair.second (cc e) (cc e) pair.first_is pair.second_is fixed_i address claims_i claims_j
      | inr turned ↦
          let e : SameFixedAddress i j ≡ SameFixedAddress c.smaller c.larger = sym is ∙ turned in
          at_places plan c.larger c.smaller j i pair.second pair.first (cc e) (cc e) pair.second_is pair.first_is fixed_j (sym address) claims_j claims_i
    ]

pub leaves_without_address : (plan : Plan) (finding : Finding) (steps : List Step) (c : IsConflictRun plan finding steps)
    → LeavesWithoutAddress plan steps c.larger
leaves_without_address plan finding steps c =
    let a = alike plan finding steps c in
    let (in_l, at_l) = stands plan.keep_free plan.units.items c.larger a.one a.one_is in
    let (in_s, at_s) = stands plan.keep_free plan.units.items c.smaller a.other a.other_is in
    let unit_l : is_unit plan c.larger ≡ true = lt-ltb c.larger (count_of plan) in_l in
    let unit_s : is_unit plan c.smaller ≡ true = lt-ltb c.smaller (count_of plan) in_s in
    let fixed : is_arbitrary (unit_at (units_of plan) c.larger).name ≡ false =
    ap (λ (x : PlannedUnit). is_arbitrary x.name) at_l ∙ a.fixed in
    let same : (unit_at (units_of plan) c.larger).preferred ≡ (unit_at (units_of plan) c.smaller).preferred =
    ap (λ (x : PlannedUnit). x.preferred) at_l ∙ a.address ∙ sym (ap (λ (x : PlannedUnit). x.preferred) at_s) in
    let claims_l : (unit_at (units_of plan) c.larger).claims ≡ true = ap (λ (x : PlannedUnit). x.claims) at_l ∙ a.claims_one in
    let claims_s : (unit_at (units_of plan) c.smaller).claims ≡ true = ap (λ (x : PlannedUnit). x.claims) at_s ∙ a.claims_other in
    let one_same : c.order.one ≡ a.one = let e : Some c.order.one ≡ Some a.one = sym c.order.one_is ∙ a.one_is in cc in
    let other_same : c.order.other ≡ a.other = let e : Some c.order.other ≡ Some a.other = sym c.order.other_is ∙ a.other_is in cc in
    let above : c.order.other.name < c.order.one.name = c.order.above in
    let smaller : (unit_at (units_of plan) c.smaller).name < (unit_at (units_of plan) c.larger).name =
    omega (
      arith,
      above,
      ap (λ (x : PlannedUnit). x.name) at_l,
      ap (λ (x : PlannedUnit). x.name) at_s,
      ap (λ (x : UnitPlan). x.name) one_same,
      ap (λ (x : UnitPlan). x.name) other_same,
    ) in
    subst (λ (xs : List Step). LeavesWithoutAddress plan xs c.larger) (sym c.steps_are) (record {
      possible = possible plan c.larger c.smaller unit_l unit_s fixed same smaller claims_l claims_s;
      shown = shown plan c.larger c.smaller unit_l unit_s fixed same smaller claims_l claims_s;
    })
