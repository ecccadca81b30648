-- Each Give lowers the measure of what is undelivered.
use Rattle.std.proofs.Common.{◌≡◌, ◌≢◌, ℕ, ◌+◌, ◌*◌, ◌<◌, ◌≤◌, true, false, not, ◌&&◌, eqb, inl, inr, List, ◌∷◌, ◌++◌, length, refl, sym, ap, ◌∙◌}
use Rattle.std.proofs.Common.{subst, arith, Option, Some}
use Rattle.std.proofs.lemmas.Bool.{cases_eq, eq-eqb, ne_eqb, cond_both, cond-false, and_right}
use Rattle.std.proofs.Math.Nat.{mul-le-mul_left}
use Rattle.std.specs.FinMap.{get}
use Rattle.j39_claim.specs.declared.item.Say.{Say}
use Rattle.j39_claim.specs.declared.item.Item.{Item}
use Rattle.j39_claim.specs.declared.item.Item.TheVariants.{AddressClaimed, Request}
use Rattle.j39_claim.specs.ClaimRule.{PlannedUnit, ClaimState}
use Rattle.j39_network.specs.PlannedUnits.{unit_at}
use Rattle.j39_world.specs.World.{Stations, Undelivered, changed, changed_pair, is_other_on}
use Rattle.j39_world.specs.ClaimSteps.{sent_to_others, answer_items}
use Rattle.j39_run_laws.proofs.Settling.Totals.{total, total-rise, total-two, total-le, total-less}
use Rattle.j39_world.specs.Sent.{claimed_by}
use Rattle.j39_run_laws.proofs.Settling.Changes.{changes, changes-noted, differ, differ-same, differ-other, differ-most}
use Rattle.j39_run_laws.proofs.Settling.Responses.{Response, SaysNothing, Repeats, Loses}
use Rattle.j39_run_laws.proofs.Runs.Changed.{IsElsewhere, changed_here, changed_elsewhere, pair_here, pair_elsewhere}
use Rattle.j39_run_laws.proofs.Settling.Measure.{heft, load, hefts, Says, relief, load_moved, load_stated, load_heard, name_at, request_weight, say_weight}
use Rattle.j39_run_laws.proofs.Settling.Measure.{rest_weight, change_weight, load_between, measure, answers_below_request, answers_below_say, say_some}
use Rattle.j39_run_laws.proofs.Settling.Measure.{request_some, change_below, change_above, change_none}

-- a list weighs the same where its parts are the same
load_same : (change request say : ℕ) (noted noted' : Option ℕ) (items items' : List Item) (held held' : Option ℕ) → noted ≡ noted' → items ≡ items'
    → held ≡ held'
    → load change request say noted items held ≤ load change request say noted' items' held'
load_same change request say noted noted' items items' held held' a b c = rw (a, b, c) (omega arith)

-- where nothing is sent to the unit itself
load_itself : (change request say : ℕ) (noted noted' : Option ℕ) (items items' : List Item) (held held' : Option ℕ) → change ≡ 0 → items ≡ items'
    → load change request say noted items held ≤ load change request say noted' items' held'
load_itself change request say noted noted' items items' held held' none b = rw (none, b) (omega arith)

-- what one unit's move adds to all lists is less than what it took from one
less_by_move : (n request rest say answers change : ℕ) → change ≡ request * (1 + n * rest) → n * answers < request
    → n * (request * rest + answers) < change * 1 + say
less_by_move n request rest say answers change is fewer = rw is (omega arith)

-- whatever a list loses with an item, it is something
relief_some : (change request say : ℕ) (noted : Option ℕ) (item : Item) → 0 < say → 0 < request → 0 < relief change request say noted item
relief_some change request say noted (AddressClaimed said) some_say some_request = omega arith
relief_some change request say noted Request some_say some_request = some_request

at_most_once : (change times most : ℕ) → times ≤ 1 → change ≤ most → change * times ≤ most
at_most_once change times most once less = let more : change * times ≤ change * 1 = mul-le-mul_left change once in omega arith

lower_by : (now was lost adds after before : ℕ) → after ≡ now → before ≡ was → now + lost ≤ was + adds → adds < lost → after < before
lower_by now was lost adds after before a b sum less = omega arith

-- what a list loses with its oldest item, where this is heard and not noted
load_passed : (change request say : ℕ) (noted : Option ℕ) (item : Item) (items : List Item) (held : Option ℕ)
    → load change request say noted items held + heft request say item ≤ load change request say noted (item ∷ items) held
load_passed change request say noted (AddressClaimed said) items held =
    let times : change * changes noted items held ≤ change * (differ noted (claimed_by said) + changes (claimed_by said) items held) =
    mul-le-mul_left change (changes-noted items noted (claimed_by said) held) in
    omega arith
load_passed change request say noted Request items held = omega arith

heft_some : (request say : ℕ) (item : Item) → 0 < say → 0 < request → 0 < heft request say item
heft_some request say (AddressClaimed said) some_say some_request = some_say
heft_some request say Request some_say some_request = some_request

-- what a unit hears that does nothing about it is gone
pub passed_lowers : (units : List PlannedUnit) (stations : Stations) (claims : Undelivered) (u v : ℕ) → u < length units → v < length units
    → (item : Item) (rest : List Item) → claims u v ≡ item ∷ rest
    → measure units stations (changed_pair claims u v rest) < measure units stations claims
unfolding measure
passed_lowers units stations claims u v in_u in_v item rest list =
    let n : ℕ = length units in
    let left : Undelivered = changed_pair claims u v rest in
    let between : ℕ → ℕ → ℕ = load_between units stations claims in
    let between' : ℕ → ℕ → ℕ = load_between units stations (changed_pair claims u v rest) in
    let c : ℕ = change_weight units u v in
    let q : ℕ = request_weight units in
    let w : ℕ = say_weight units u in
    let noted : Option ℕ = get (stations v).notes (name_at units u) in
    let lost : ℕ = heft q w item in
    let here : load_between units stations (changed_pair claims u v rest) u v + heft q w item ≤ load_between units stations claims u v =
    rw (pair_here claims u v rest, list) (load_passed c q w noted item rest (stations u).address) in
    let elsewhere : (s t : ℕ) → IsElsewhere u v s t
    → load_between units stations (changed_pair claims u v rest) s t ≤ load_between units stations claims s t =
    λ s t other. rw (pair_elsewhere claims u v rest s t other) (omega arith) in
    let of_u = total-less n (between' u) (between u) v lost in_v here (λ t in_t other. elsewhere u t (λ _ e. other e)) in
    let all = total-less n (λ s. total n (between' s)) (λ s. total n (between s)) u lost in_u of_u
    (λ s in_s other. total-le n (between' s) (between s) (λ t in_t. elsewhere s t (λ e _. other e))) in
    let some : 0 < heft q w item = heft_some q w item (say_some units u) (request_some units) in
    omega (arith, all, some)

module _ (units : List PlannedUnit) (stations : Stations) (claims : Undelivered) (u v : ℕ) (in_u : u < length units) (in_v : v < length units) (apart : u ≢ v)
    (distinct : (i : ℕ) → i < length units → i ≢ u → name_at units i ≢ name_at units u)
    (item : Item) (rest : List Item) (list : claims u v ≡ item ∷ rest) (says : Option Say) (new : ClaimState)
    (r : Response (unit_at units v) (stations v) (name_at units u) item says new) where
  after : Stations
  after = changed stations v new

  mid : Undelivered
  mid = changed_pair claims u v rest

  stated : Undelivered
  stated = sent_to_others (changed stations v new) (changed_pair claims u v rest) v (answer_items says)

  stated_other : (s t : ℕ) → s ≢ v → stated s t ≡ mid s t
  unfolding stated mid
  stated_other s t other =
      let e : eqb s v ≡ false = ne_eqb s v other in
      rw e refl

  mid_other : (s t : ℕ) → IsElsewhere u v s t → mid s t ≡ claims s t
  unfolding mid
  mid_other s t elsewhere = pair_elsewhere claims u v rest s t elsewhere

  -- ---- each list

  between : ℕ → ℕ → ℕ
  between = load_between units stations claims

  between' : ℕ → ℕ → ℕ
  between' = load_between units after stated

  address_other : (s : ℕ) → s ≢ v → (after s).address ≡ (stations s).address
  unfolding after
  address_other s other = ap (λ (x : ClaimState). x.address) (changed_elsewhere stations v new s other)

  -- what is noted of another than u
  noted_other : (s t : ℕ) → s < length units → IsElsewhere u v s t → get (after t).notes (name_at units s) ≡ get (stations t).notes (name_at units s)
  unfolding after
  noted_other s t in_s elsewhere = elim (cases_eq t v) [
    | inl same ↦
        let now : changed stations v new t ≡ new = ap (changed stations v new) same ∙ changed_here stations v new in
        let was : stations v ≡ stations t = ap stations (sym same) in
        ap (λ (x : ClaimState). get x.notes (name_at units s)) now ∙ r.others (name_at units s) (distinct s in_s (λ e. elsewhere e same))
        ∙ ap (λ (x : ClaimState). get x.notes (name_at units s)) was
    | inr other ↦ ap (λ (x : ClaimState). get x.notes (name_at units s)) (changed_elsewhere stations v new t other)
  ]

  -- lists of others weigh what they weighed
  others : (s t : ℕ) → s < length units → s ≢ v → IsElsewhere u v s t → between' s t ≤ between s t
  unfolding between between'
  others s t in_s other elsewhere =
      load_same (change_weight units s t) (request_weight units) (say_weight units s)
      (get (after t).notes (name_at units s)) (get (stations t).notes (name_at units s))
      (stated s t) (claims s t) (after s).address (stations s).address
      (noted_other s t in_s elsewhere) (stated_other s t other ∙ mid_other s t elsewhere) (address_other s other)

  lost : ℕ
  lost = relief (change_weight units u v) (request_weight units) (say_weight units u) (get (stations v).notes (name_at units u)) item

  -- the list to the unit that hears is relieved
  heard : between' u v + lost ≤ between u v
  unfolding between between' lost after stated mid
  heard =
      let c : ℕ = change_weight units u v in
      let q : ℕ = request_weight units in
      let w : ℕ = say_weight units u in
      let n : ℕ = name_at units u in
      let now = load_same c q w (get (changed stations v new v).notes n) (get new.notes n) (stated u v) rest (changed stations v new u).address
      (stations u).address
      (ap (λ (x : ClaimState). get x.notes n) (changed_here stations v new)) (stated_other u v apart ∙ pair_here claims u v rest) (address_other u apart) in
      let less = load_heard c q w (stations v).notes new.notes n item rest (stations u).address r.noted in
      let was = load_same c q w (get (stations v).notes n) (get (stations v).notes n) (item ∷ rest) (claims u v) (stations u).address
      (stations u).address refl (sym list) refl in
      omega (arith, now, less, was)

  stated_itself : stated v v ≡ claims v v
  unfolding stated
  stated_itself =
      let e : eqb v v ≡ true = eq-eqb v v refl in
      let silent : (eqb v v && is_other_on (changed stations v new) v v) ≡ false =
      and_right (eqb v v) (is_other_on (changed stations v new) v v) (and_right (changed stations v new v).on (not (eqb v v)) (rw e refl)) in
      cond-false (eqb v v && is_other_on (changed stations v new) v v) (changed_pair claims u v rest v v ++ answer_items says)
      (changed_pair claims u v rest v v) silent
      ∙ pair_elsewhere claims u v rest v v (λ e' _. apart (sym e'))

  -- what the unit that hears says adds to a list from it
  module _ (rise answers : ℕ) (rises : (t : ℕ) → t < length units → change_weight units v t * differ (stations v).address new.address ≤ rise)
      (answered : hefts (request_weight units) (say_weight units v) (answer_items says) ≤ answers) (holds : Says says (stations v).address new.address) where
    answered_itself : between' v v ≤ between v v + (rise + answers)
    unfolding between between'
    answered_itself =
        omega (
          arith,
          load_itself (change_weight units v v) (request_weight units) (say_weight units v) (get (after v).notes (name_at units v))
              (get (stations v).notes (name_at units v))
              (stated v v) (claims v v) (after v).address (stations v).address (change_none units v) stated_itself,
        )

    answered_other : (t : ℕ) → t < length units → t ≢ v → between' v t ≤ between v t + (rise + answers)
    unfolding between between' after stated
    answered_other t in_t other =
        let c : ℕ = change_weight units v t in
        let q : ℕ = request_weight units in
        let w : ℕ = say_weight units v in
        let n : ℕ = name_at units v in
        let noted : Option ℕ = get (stations t).notes n in
        let held : Option ℕ = (stations v).address in
        let same_note : get (changed stations v new t).notes n ≡ noted = ap (λ (x : ClaimState). get x.notes n) (changed_elsewhere stations v new t other) in
        let same_list : changed_pair claims u v rest v t ≡ claims v t = pair_elsewhere claims u v rest v t (λ e _. apart (sym e)) in
        let now : (changed stations v new v).address ≡ new.address = ap (λ (x : ClaimState). x.address) (changed_here stations v new) in
        let more : c * differ held new.address ≤ rise = rises t in_t in
        cond_both (eqb v v && is_other_on (changed stations v new) v t) (changed_pair claims u v rest v t ++ answer_items says)
        (changed_pair claims u v rest v t)
        (λ (xs : List Item). load c q w (get (changed stations v new t).notes n) xs (changed stations v new v).address
        ≤ load c q w noted (claims v t) held + (rise + answers))
        (λ _.
        let to = load_same c q w (get (changed stations v new t).notes n) noted (changed_pair claims u v rest v t ++ answer_items says)
        (claims v t ++ answer_items says) (changed stations v new v).address new.address
        same_note (ap (λ (xs : List Item). xs ++ answer_items says) same_list) now in
        omega (arith, to, load_stated c q w noted (claims v t) held new.address says holds))
        (λ _.
        let to = load_same c q w (get (changed stations v new t).notes n) noted (changed_pair claims u v rest v t) (claims v t)
        (changed stations v new v).address new.address same_note same_list now in
        omega (arith, to, load_moved c q w noted (claims v t) held new.address))

    answered_one : (t : ℕ) → t < length units → between' v t ≤ between v t + (rise + answers)
    answered_one t in_t = elim (cases_eq t v) [
      | inl same ↦ subst (λ k. between' v k ≤ between v k + (rise + answers)) (sym same) answered_itself
      | inr other ↦ answered_other t in_t other
    ]

    all_lists : total (length units) (λ s. total (length units) (between' s)) + lost
        ≤ total (length units) (λ s. total (length units) (between s)) + length units * (rise + answers)
    all_lists =
        total-two (length units) (λ s. total (length units) (between' s)) (λ s. total (length units) (between s)) u v lost
        (length units * (rise + answers)) in_u in_v apart
        (total-less (length units) (between' u) (between u) v lost in_v heard (λ t in_t other. others u t in_u apart (λ _ e. other e)))
        (total-rise (length units) (between' v) (between v) (rise + answers) answered_one)
        (λ s in_s not_u not_v. total-le (length units) (between' s) (between s) (λ t in_t. others s t in_s not_v (λ e _. not_u e)))

  -- ---- what is said weighs less than what was heard

  stated_measure : measure units (changed stations v new) (sent_to_others (changed stations v new) (changed_pair claims u v rest) v (answer_items says))
      ≡ total (length units) (λ s. total (length units) (between' s))
  unfolding measure between' after stated
  stated_measure = refl

  measure_was : measure units stations claims ≡ total (length units) (λ s. total (length units) (between s))
  unfolding measure between
  measure_was = refl

  IsLowered : Type 0
  IsLowered = measure units (changed stations v new)
      (sent_to_others (changed stations v new) (changed_pair claims u v rest) v (answer_items says)) < measure units stations claims

  unmoved : new.address ≡ (stations v).address → (t : ℕ) → t < length units → change_weight units v t * differ (stations v).address new.address ≤ 0
  unmoved same t in_t = let d : differ (stations v).address new.address ≡ 0 = rw same (differ-same (stations v).address) in rw d (omega arith)

  answer_weight : (say : Say) → says ≡ Some say → hefts (request_weight units) (say_weight units v) (answer_items says) ≤ say_weight units v
  answer_weight say is = rw is (omega arith)

  says_held : (say : Say) → says ≡ Some say → claimed_by say ≡ new.address → Says says (stations v).address new.address
  says_held say is holds = rw is holds

  by_silence : SaysNothing (stations v) says new → IsLowered
  unfolding IsLowered lost
  by_silence (none, same) =
      let quiet : hefts (request_weight units) (say_weight units v) (answer_items says) ≤ 0 = rw none (omega arith) in
      let holds : Says says (stations v).address new.address = rw none same in
      let some : 0 < relief (change_weight units u v) (request_weight units) (say_weight units u) (get (stations v).notes (name_at units u)) item =
      relief_some (change_weight units u v) (request_weight units) (say_weight units u) (get (stations v).notes (name_at units u)) item (say_some units u)
      (request_some units) in
      omega (arith, all_lists 0 0 (unmoved same) quiet holds, stated_measure, measure_was)

  by_repeating : Repeats (unit_at units v) (stations v) (name_at units u) item says new → IsLowered
  unfolding IsLowered lost
  by_repeating t =
      let n : ℕ = length units in
      let heavier : n * say_weight units v < relief (change_weight units u v) (request_weight units) (say_weight units u)
      (get (stations v).notes (name_at units u)) item =
      elim (t.cause) [
        | inl request ↦ rw request (answers_below_request units v in_v)
        | inr stated_one ↦ let (smaller, heard_one, is) = stated_one in rw is (omega (arith, answers_below_say units u v smaller))
      ] in
      omega (
        arith,
        all_lists 0 (say_weight units v) (unmoved t.address) (answer_weight t.say t.said)
            (says_held t.say t.said t.holds),
        stated_measure,
        measure_was,
      )

  by_moving : Loses (unit_at units v) (stations v) (name_at units u) item says new → IsLowered
  unfolding IsLowered lost
  by_moving t =
      let n : ℕ = length units in
      let q : ℕ = request_weight units in
      let rises : (x : ℕ) → x < n → change_weight units v x * differ (stations v).address new.address ≤ q * rest_weight units v =
      λ x in_x. at_most_once (change_weight units v x) (differ (stations v).address new.address) (q * rest_weight units v)
      (differ-most (stations v).address new.address) (change_below units v x in_x) in
      let taken : relief (change_weight units u v) q (say_weight units u) (get (stations v).notes (name_at units u)) item
      ≡ change_weight units u v * 1 + say_weight units u =
      rw (t.cause, differ-other (get (stations v).notes (name_at units u)) t.lost t.unnoted) refl in
      let less : n * (q * rest_weight units v + say_weight units v) < change_weight units u v * 1 + say_weight units u =
      less_by_move n q (rest_weight units v) (say_weight units u) (say_weight units v) (change_weight units u v) (change_above units u v t.smaller)
      (answers_below_request units v in_v) in
      let sum = all_lists (q * rest_weight units v) (say_weight units v) rises (answer_weight t.say t.said) (says_held t.say t.said t.holds) in
      lower_by (total n (λ s. total n (between' s))) (total n (λ s. total n (between s))) _ _ _ _ stated_measure measure_was sum
      (subst (λ k. n * (q * rest_weight units v + say_weight units v) < k) (sym taken) less)

  pub lowered : measure units (changed stations v new)
      (sent_to_others (changed stations v new) (changed_pair claims u v rest) v (answer_items says)) < measure units stations claims
  unfolding IsLowered
  lowered = elim (r.outcome) [
    | inl silent ↦ by_silence silent
    | inr (inl repeats) ↦ by_repeating repeats
    | inr (inr loses) ↦ by_moving loses
  ]
