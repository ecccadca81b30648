-- A measure of what is undelivered that each Give lowers.
use Rattle.std.proofs.Common.{◌≡◌, ℕ, ◌+◌, ◌*◌, ◌-◌, ◌<◌, ◌≤◌, true, false, cond, ltb, List, [], ◌∷◌, ◌++◌, length, append-nil, arith, Option, Some, None}
use Rattle.std.proofs.lemmas.Bool.{cond_both, lt-ltb, le-ltb, ltb-true}
use Rattle.std.proofs.Math.Nat.{mul-le-mul_left}
use Rattle.std.specs.FinMap.{FinMap, get}
use Rattle.std.specs.Ordering.{nat_cmp}
use Rattle.j39_claim.specs.declared.item.Say.{Say}
use Rattle.j39_claim.specs.declared.item.Item.{Item}
use Rattle.j39_claim.specs.declared.item.Item.TheVariants.{AddressClaimed, Request}
use Rattle.j39_claim.specs.ClaimRule.{PlannedUnit}
use Rattle.j39_network.specs.PlannedUnits.{unit_at}
use Rattle.j39_world.specs.World.{Stations, Undelivered}
use Rattle.j39_world.specs.ClaimSteps.{answer_items}
use Rattle.j39_run_laws.proofs.Settling.Totals.{total, part-le, weight, below, weight-is, weight-le, weight-below}
use Rattle.j39_world.specs.Sent.{claimed_by}
use Rattle.j39_run_laws.proofs.Settling.Changes.{differ, changes, changes-moved, changes-stated}
use Rattle.j39_run_laws.proofs.Settling.Responses.{IsNotedOf}

-- what an item weighs, where a request weighs so much, and what its sender says of itself so much
abbrev pub heft : ℕ → ℕ → Item → ℕ
heft request say Request = request
heft request say (AddressClaimed _) = say

abbrev pub hefts : ℕ → ℕ → List Item → ℕ
hefts request say [] = 0
hefts request say (item ∷ items) = heft request say item + hefts request say items

hefts-append : (request say : ℕ) (items more : List Item) → hefts request say (items ++ more) ≡ hefts request say items + hefts request say more
hefts-append request say [] more = omega arith
hefts-append request say (item ∷ items) more = omega (arith, hefts-append request say items more)

-- what a list weighs from one unit to another, of which that has noted this, and which holds that: each change so much
abbrev pub load : ℕ → ℕ → ℕ → Option ℕ → List Item → Option ℕ → ℕ
load change request say noted items held = change * changes noted items held + hefts request say items

-- the sender holds another address
pub load_moved : (change request say : ℕ) (noted : Option ℕ) (items : List Item) (held new : Option ℕ)
    → load change request say noted items new ≤ load change request say noted items held + change * differ held new
load_moved change request say noted items held new =
    let times : change * changes noted items new ≤ change * (changes noted items held + differ held new) =
    mul-le-mul_left change (changes-moved items noted held new) in
    omega arith

-- what it says is what it then holds
abbrev pub Says : Option Say → Option ℕ → Option ℕ → Type 0
Says None held new = new ≡ held
Says (Some say) held new = claimed_by say ≡ new

-- and says so
pub load_stated : (change request say : ℕ) (noted : Option ℕ) (items : List Item) (held new : Option ℕ) (says : Option Say) → Says says held new
    → load change request say noted (items ++ answer_items says) new
    ≤ load change request say noted items held + (change * differ held new + hefts request say (answer_items says))
load_stated change request say noted items held new None is =
    let nothing : items ++ [] ≡ items = append-nil items in
    rw nothing (omega (arith, load_moved change request say noted items held new))
load_stated change request say noted items held new (Some said) is =
    let more : changes noted (items ++ AddressClaimed said ∷ []) new
    ≤ changes noted items held + differ held new = changes-stated items noted held new said is in
    let times : change * changes noted (items ++ AddressClaimed said ∷ []) new
    ≤ change * (changes noted items held + differ held new) = mul-le-mul_left change more in
    let heavier : hefts request say (items ++ AddressClaimed said ∷ []) ≡ hefts request say items + hefts request say (AddressClaimed said ∷ []) =
    hefts-append request say items (AddressClaimed said ∷ []) in
    omega arith

-- what the list loses with its oldest item
abbrev pub relief : ℕ → ℕ → ℕ → Option ℕ → Item → ℕ
relief change request say noted (AddressClaimed said) = change * differ noted (claimed_by said) + say
relief change request say noted Request = request

pub load_heard : (change request say : ℕ) (notes after : FinMap nat_cmp ℕ) (n : ℕ) (item : Item) (items : List Item) (held : Option ℕ)
    → IsNotedOf notes after n item
    → load change request say (get after n) items held + relief change request say (get notes n) item
    ≤ load change request say (get notes n) (item ∷ items) held
load_heard change request say notes after n (AddressClaimed said) items held is =
    rw is (omega arith)
load_heard change request say notes after n Request items held is = rw is (omega arith)

-- ---- the measure

abbrev pub name_at : List PlannedUnit → ℕ → ℕ
name_at units u = (unit_at units u).name

-- no NAME is above this
unfoldable pub top : List PlannedUnit → ℕ
top units = total (length units) (name_at units)

-- what a unit says of itself weighs more than all that units of smaller NAMEs say to it
abbrev pub say_weight : List PlannedUnit → ℕ → ℕ
say_weight units u = weight (length units) (name_at units u)

-- a request weighs more than all answers to it
unfoldable pub request_weight : List PlannedUnit → ℕ
request_weight units = 1 + length units * weight (length units) (top units)

-- what is below a unit by this: of each unit of a larger NAME
abbrev pub rest_weight : List PlannedUnit → ℕ → ℕ
rest_weight units v = below (length units) (top units - name_at units v)

-- a change of what a unit says to one of a larger NAME weighs more than all that this one's move can add
abbrev pub change_weight : List PlannedUnit → ℕ → ℕ → ℕ
change_weight units s t = cond (ltb (name_at units s) (name_at units t)) (request_weight units * weight (length units) (top units - name_at units t)) 0

abbrev pub load_between : List PlannedUnit → Stations → Undelivered → ℕ → ℕ → ℕ
load_between units stations claims s t =
    load (change_weight units s t) (request_weight units) (say_weight units s) (get (stations t).notes (name_at units s)) (claims s t) (stations s).address

unfoldable pub measure : List PlannedUnit → Stations → Undelivered → ℕ
measure units stations claims = total (length units) (λ s. total (length units) (load_between units stations claims s))

module _ (units : List PlannedUnit) where
  pub name_top : (u : ℕ) → u < length units → name_at units u ≤ top units
  unfolding top
  name_top u inside = part-le (length units) (name_at units) u inside

  -- all answers to a request weigh less
  pub answers_below_request : (v : ℕ) → v < length units → length units * say_weight units v < request_weight units
  unfolding request_weight
  answers_below_request v inside =
      let least : say_weight units v ≤ weight (length units) (top units) = weight-le (length units) (name_at units v) (top units) (name_top v inside) in
      let times : length units * say_weight units v ≤ length units * weight (length units) (top units) = mul-le-mul_left (length units) least in
      omega arith

  -- all answers of a smaller NAME weigh less than what it answers
  pub answers_below_say : (u v : ℕ) → name_at units v < name_at units u → length units * say_weight units v < say_weight units u
  answers_below_say u v smaller =
      let least : say_weight units v ≤ below (length units) (name_at units u) = weight-below (length units) (name_at units v) (name_at units u) smaller in
      let times : length units * say_weight units v ≤ length units * below (length units) (name_at units u) = mul-le-mul_left (length units) least in
      omega (arith, weight-is (length units) (name_at units u))

  pub say_some : (u : ℕ) → 0 < say_weight units u
  say_some u = omega (arith, weight-is (length units) (name_at units u))

  pub request_some : 0 < request_weight units
  unfolding request_weight
  request_some = omega arith

  -- what changes add to one list that a unit sends
  pub change_below : (v t : ℕ) → t < length units → change_weight units v t ≤ request_weight units * rest_weight units v
  change_below v t inside =
      cond_both (ltb (name_at units v) (name_at units t)) (request_weight units * weight (length units) (top units - name_at units t)) 0
      (λ x. x ≤ request_weight units * rest_weight units v)
      (λ smaller.
      let less : name_at units v < name_at units t = ltb-true (name_at units v) (name_at units t) smaller in
      let most : name_at units t ≤ top units = name_top t inside in
      mul-le-mul_left (request_weight units) (weight-below (length units) (top units - name_at units t) (top units - name_at units v) (omega arith)))
      (λ _. omega arith)

  pub change_above : (u v : ℕ) → name_at units u < name_at units v → change_weight units u v ≡ request_weight units * (1 + length units * rest_weight units v)
  change_above u v smaller =
      let is : ltb (name_at units u) (name_at units v) ≡ true = lt-ltb (name_at units u) (name_at units v) smaller in
      rw (is, weight-is (length units) (top units - name_at units v))

  pub change_none : (v : ℕ) → change_weight units v v ≡ 0
  change_none v = let is : ltb (name_at units v) (name_at units v) ≡ false = le-ltb (name_at units v) (name_at units v) (omega arith) in rw is
