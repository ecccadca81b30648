-- The blocks of buses, one after another.
use Rattle.std.proofs.Common.{◌≡◌, ℕ, ◌+◌, ◌*◌, ◌≤◌, ◌<◌, ◌^◌, Bool, true, false, ◌&&◌, List, [], ◌∷◌, ◌++◌, length, drop, get_or}
use Rattle.std.proofs.Common.{refl, sym, ap, ◌∙◌, subst, arith, append_assoc}
use Rattle.std.proofs.lemmas.List.{append-nil, drop_more, length-append}
use Rattle.j39_findings.specs.Found.{found}
use Rattle.j39_findings.specs.declared.checking.finding.Finding.{Finding}
use Rattle.j39_load.specs.declared.findings.load_finding.LoadFinding.{LoadFinding}
use Rattle.j39_answer.specs.PlanAnswers.{IsPlanAnswer, are_of_times, load_findings_in}
use Rattle.j39_answer.specs.declared.plan_answer.PlanAnswer.{PlanAnswer}
use Rattle.j39_vehicle.specs.declared.vehicle.bus_plan.BusPlan.{BusPlan}
use Rattle.j39_vehicle_text.specs.VehicleBlocks.{AreBlocks, IsBlock, all_are_of_times, count_of_plans}

abbrev pub count_of : BusPlan → List LoadFinding → ℕ
count_of bus others = length (found bus.plan) + length others

-- one block more
push : (buses : List BusPlan) (all : List (List LoadFinding)) (text : List ℕ) (bus : BusPlan) (others : List LoadFinding) (block : List ℕ)
    → AreBlocks buses all text → IsBlock bus others block → AreBlocks (buses ++ bus ∷ []) (all ++ others ∷ []) (text ++ block)
push [] [] text bus others block are is = (block, [], is, refl, rw are (sym (append-nil block)))
push [] (o ∷ all) text bus others block are is = absurd are
push (b ∷ buses) [] text bus others block are is = absurd are
push (b ∷ buses) (o ∷ all) text bus others block are is =
    let (first, more, first_is, rest, text_is) = are in (
      first,
      more ++ block,
      first_is,
      push buses all more bus others block rest is,
      ap (λ (t : List ℕ). t ++ block) text_is ∙ append_assoc first more block,
    )

counted : (buses : List BusPlan) (all : List (List LoadFinding)) (text : List ℕ) (bus : BusPlan) (others : List LoadFinding) → AreBlocks buses all text
    → count_of_plans (buses ++ bus ∷ []) (all ++ others ∷ []) ≡ count_of_plans buses all + count_of bus others
counted [] [] text bus others are = omega arith
counted [] (o ∷ all) text bus others are = absurd are
counted (b ∷ buses) [] text bus others are = absurd are
counted (b ∷ buses) (o ∷ all) text bus others are =
    let (first, more, first_is, rest, text_is) = are in
    let behind = counted buses all more bus others rest in
    omega (arith, behind)

and_true : (a : Bool) → (a && true) ≡ (true && a)
and_true true = refl
and_true false = refl

and_assoc : (a b c : Bool) → (a && (b && c)) ≡ ((a && b) && c)
and_assoc true b c = refl
and_assoc false b c = refl

timed : (buses : List BusPlan) (all : List (List LoadFinding)) (text : List ℕ) (bus : BusPlan) (others : List LoadFinding) → AreBlocks buses all text
    → all_are_of_times (buses ++ bus ∷ []) (all ++ others ∷ []) ≡ (all_are_of_times buses all && are_of_times (found bus.plan) others)
timed [] [] text bus others are = and_true (are_of_times (found bus.plan) others)
timed [] (o ∷ all) text bus others are = absurd are
timed (b ∷ buses) [] text bus others are = absurd are
timed (b ∷ buses) (o ∷ all) text bus others are =
    let (first, more, first_is, rest, text_is) = are in
    ap (λ (t : Bool). are_of_times (found b.plan) o && t) (timed buses all more bus others rest)
    ∙ and_assoc (are_of_times (found b.plan) o) (all_are_of_times buses all) (are_of_times (found bus.plan) others)

-- the bus that is looked at
pub next_bus : (buses : List BusPlan) (i : ℕ) (bus : BusPlan) → bus ≡ get_or buses i bus → i < length buses → drop i buses ≡ bus ∷ drop (i + 1) buses
next_bus buses i bus is more = drop_more buses i bus more ∙ ap (λ b. b ∷ drop (i + 1) buses) (sym is)

-- what was written of the buses before those that are left
pub record BlocksSoFar (left all : List BusPlan) (before after : List ℕ) (count : ℕ) (times : Bool) : Type 0 where
  pub done : List BusPlan
  pub all_are : all ≡ done ++ left
  pub others : List (List LoadFinding)
  pub blocks : List ℕ
  pub blocks_are : AreBlocks done others blocks
  pub text_is : after ≡ before ++ blocks
  pub count_is : count ≡ count_of_plans done others
  pub times_is : times ≡ all_are_of_times done others
  pub few : count ≤ length done * 2 ^ 66

pub none_written : (all : List BusPlan) (text : List ℕ) → BlocksSoFar all all text text 0 true
none_written all text = record {
  done = [];
  all_are = refl;
  others = [];
  blocks = [];
  blocks_are = refl;
  text_is = sym (append-nil text);
  count_is = refl;
  times_is = refl;
  few = omega arith;
}

-- and of the next one, of whose plan this is known
module _ (bus : BusPlan) (left all : List BusPlan) (before middle after : List ℕ) (count next : ℕ) (times more : Bool) (known : PlanAnswer)
    (block : List ℕ) (so : BlocksSoFar (bus ∷ left) all before middle count times) (are : IsPlanAnswer bus.plan known)
    (is : IsBlock bus (load_findings_in known) block) (put : after ≡ middle ++ block)
    (counts : next ≡ count + (length known.findings.items + length (load_findings_in known)))
    (states : more ≡ (times && are_of_times known.findings.items (load_findings_in known))) (few : next ≤ count + 2 ^ 64) where
  next_is : next ≡ count + count_of bus (load_findings_in known)
  next_is = counts ∙ ap (λ (fs : List Finding). count + (length fs + length (load_findings_in known))) are.listed

  more_is : more ≡ (times && are_of_times (found bus.plan) (load_findings_in known))
  more_is = states ∙ ap (λ (fs : List Finding). times && are_of_times fs (load_findings_in known)) are.listed

  length_done : length (so.done ++ bus ∷ []) ≡ length so.done + 1
  length_done = length-append so.done (bus ∷ [])

  pub one_written : BlocksSoFar left all before after next more
  one_written = record {
    done = so.done ++ bus ∷ [];
    all_are = so.all_are ∙ sym (append_assoc so.done (bus ∷ []) left);
    others = so.others ++ (load_findings_in known) ∷ [];
    blocks = so.blocks ++ block;
    blocks_are = push so.done so.others so.blocks bus (load_findings_in known) block so.blocks_are is;
    text_is = put ∙ ap (λ (t : List ℕ). t ++ block) so.text_is ∙ append_assoc before so.blocks block;
    count_is = next_is ∙ ap (λ (n : ℕ). n + count_of bus (load_findings_in known)) so.count_is
        ∙ sym (counted so.done so.others so.blocks bus (load_findings_in known) so.blocks_are);
    times_is = more_is ∙ ap (λ (t : Bool). t && are_of_times (found bus.plan) (load_findings_in known)) so.times_is
        ∙ sym (timed so.done so.others so.blocks bus (load_findings_in known) so.blocks_are);
    few = omega (arith, so.few, few, length_done);
  }

-- the count so far
pub few_so_far : (left all : List BusPlan) (before after : List ℕ) (count : ℕ) (times : Bool) → BlocksSoFar left all before after count times
    → length all ≤ 16 → count ≤ 2 ^ 100
few_so_far left all before after count times so most =
    let same : length all ≡ length so.done + length left = ap length so.all_are ∙ length-append so.done left in
    omega (arith, so.few, most, same)

-- all of them
pub all_written : (all : List BusPlan) (before after : List ℕ) (count : ℕ) (times : Bool) → BlocksSoFar [] all before after count times
    → (others : List (List LoadFinding)) × (blocks : List ℕ) × AreBlocks all others blocks × (after ≡ before ++ blocks)
    × (count ≡ count_of_plans all others) × (times ≡ all_are_of_times all others)
all_written all before after count times so =
    let same : so.done ≡ all = sym (so.all_are ∙ append-nil so.done) in (
      so.others,
      so.blocks,
      subst (λ bs. AreBlocks bs so.others so.blocks) same so.blocks_are,
      so.text_is,
      so.count_is ∙ ap (λ bs. count_of_plans bs so.others) same,
      so.times_is ∙ ap (λ bs. all_are_of_times bs so.others) same,
    )

pub few_written : (all : List BusPlan) (before after : List ℕ) (count : ℕ) (times : Bool) → BlocksSoFar [] all before after count times
    → length all ≤ 16 → count ≤ 2 ^ 70
few_written all before after count times so most =
    let same : length so.done ≡ length all = ap length (sym (so.all_are ∙ append-nil so.done)) in
    omega (arith, so.few, most, same)
