-- The lines at the end of a log, one after another.
use Rattle.std.proofs.Common.{subst, ◌≡◌, ℕ, ◌+◌, ◌<◌, ◌≤◌, List, [], ◌∷◌, ◌++◌, length, drop, get_or, refl, sym, ap, ◌∙◌, append_assoc, suc, arith}
use Rattle.std.proofs.lemmas.List.{append-nil, drop_all, drop_more}
use Rattle.j39_search.specs.ListPlaces.{in_each}
use Rattle.j39_id.specs.declared.frame.Frame.{Frame}
use Rattle.j39_network.specs.declared.plan.Plan.{Plan}
use Rattle.j39_network.specs.declared.plan.flow_plan.FlowPlan.{FlowPlan}
use Rattle.j39_network.specs.declared.plan.need_plan.NeedPlan.{NeedPlan}
use Rattle.j39_network.specs.declared.plan.request_plan.RequestPlan.{RequestPlan}
use Rattle.j39_network.specs.declared.plan.unit_plan.UnitPlan.{UnitPlan}
use Rattle.j39_follow.specs.FollowText.{AreUnitLines, IsUnitLine}
use Rattle.j39_follow.specs.FollowText.{met_by, times_met}
use Rattle.j39_follow.specs.declared.message.Sort.{Sort}

lines_from : {A : Type 0} (line : ℕ → A → List ℕ) (xs : List A) (k : ℕ) (d : A) → k < length xs
    → in_each line k (drop k xs) ≡ line k (get_or xs k d) ++ in_each line (k + 1) (drop (k + 1) xs)
unfolding in_each
lines_from line xs k d more = let next = drop_more xs k d more in rw next refl

-- the line of one more of these is written
pub one_more_line : {A : Type 0} (line : ℕ → A → List ℕ) (xs : List A) (old new all : List ℕ) (k : ℕ) (x : A) → k < length xs → x ≡ get_or xs k x
    → new ≡ old ++ line k x → old ++ in_each line k (drop k xs) ≡ all → new ++ in_each line (k + 1) (drop (k + 1) xs) ≡ all
one_more_line {A} line xs old new all k x more here written before =
    let rest : List ℕ = in_each line (k + 1) (drop (k + 1) xs) in
    let next : in_each line k (drop k xs) ≡ line k x ++ rest = lines_from line xs k x more ∙ ap (λ (y : A). line k y ++ rest) (sym here) in
    ap (λ (t : List ℕ). t ++ rest) written ∙ append_assoc old (line k x) rest ∙ sym (ap (λ (t : List ℕ). old ++ t) next) ∙ before

-- the lines of all are written
pub all_lines : {A : Type 0} (line : ℕ → A → List ℕ) (xs : List A) (text all : List ℕ) (k : ℕ) → length xs ≤ k
    → text ++ in_each line k (drop k xs) ≡ all → text ≡ all
unfolding in_each
all_lines {A} line xs text all k done before =
    sym (ap (λ (ys : List A). text ++ in_each line k ys) (drop_all k xs done) ∙ append-nil text) ∙ before

-- one flow more is looked at
pub one_more_met : (requests : List RequestPlan) (sent : List Sort) (need : NeedPlan) (flows : List FlowPlan) (k : ℕ) (flow : FlowPlan) → k < length flows
    → flow ≡ get_or flows k flow
    → times_met requests sent need k (drop k flows)
    ≡ met_by requests sent need k flow + times_met requests sent need (k + 1) (drop (k + 1) flows)
unfolding times_met
one_more_met requests sent need flows k flow more here =
    let next = drop_more flows k flow more in
    let first : met_by requests sent need k (get_or flows k flow) ≡ met_by requests sent need k flow = ap (met_by requests sent need k) (sym here) in
    rw next (ap (λ (n : ℕ). n + times_met requests sent need (k + 1) (drop (k + 1) flows)) first)

pub none_met : (requests : List RequestPlan) (sent : List Sort) (need : NeedPlan) (k : ℕ) → times_met requests sent need k [] ≡ 0
unfolding times_met
none_met requests sent need k = refl

-- one unit more is written
pub one_more_unit : (plan : Plan) (frames : List Frame) (k : ℕ) (units : List UnitPlan) (unit : UnitPlan) (text piece : List ℕ)
    → AreUnitLines plan frames k units text → IsUnitLine plan frames (k + length units) unit piece
    → AreUnitLines plan frames k (units ++ unit ∷ []) (text ++ piece)
one_more_unit plan frames k [] unit text piece are is =
    let here : k + 0 ≡ k = omega arith in (
      piece,
      [],
      subst (λ (u : ℕ). IsUnitLine plan frames u unit piece) here is,
      refl,
      ap (λ (t : List ℕ). t ++ piece) are ∙ sym (append-nil piece),
    )
one_more_unit plan frames k (u ∷ units) unit text piece are is = (
  are.0,
  are.1 ++ piece,
  are.2,
  (let on : k + suc (length units) ≡ k + 1 + length units = omega arith in
      one_more_unit plan frames (k + 1) units unit are.1 piece are.3 (subst (λ (v : ℕ). IsUnitLine plan frames v unit piece) on is)),
  ap (λ (t : List ℕ). t ++ piece) are.4 ∙ append_assoc are.0 are.1 piece,
)
