-- A flow of which more is asked in a part is asked for more in the whole.
use Rattle.std.proofs.Common.{◌≡◌, ℕ, ◌+◌, ◌*◌, ◌≤◌, ◌==◌, not, Bool, true, false, if◌then◌else◌, List, [], ◌∷◌, Some, None, inl, inr, refl, sym, ap, ◌∙◌}
use Rattle.std.proofs.Common.{arith}
use Rattle.std.proofs.lemmas.Bool.{and_from, and_parts, cases_lt, cases_order, eq-eqb, eqb-false, eqb-true, lt-ltb, ltb-true, ne_eqb, not-true}
use Rattle.std.proofs.lemmas.Option.{none-some}
use Rattle.j39_network.specs.Serving.{is_reached, serves}
use Rattle.j39_network.specs.declared.plan.Plan.{Plan}
use Rattle.j39_network.specs.declared.plan.flow_plan.FlowPlan.{FlowPlan}
use Rattle.j39_network.specs.declared.plan.request_plan.RequestPlan.{RequestPlan}
use Rattle.j39_network.specs.declared.plan.to.To.{To}
use Rattle.j39_network.specs.declared.plan.to.To.TheVariants.{All, One}
use Rattle.j39_load.specs.AskedFlows.{asked_every, asked_parts, asking_periods, is_asked_too_often, is_more_than_one, whole_parts}
use Rattle.j39_load.proofs.AskedMore.{asked_more, no_greater}
use Rattle.j39_load.proofs.AskedParts.{answering_more, some_whole}
use Rattle.j39_load.proofs.AskedShares.{times_greater}
use Rattle.j39_part_laws.specs.PlanParts.{IsFlowThere, IsPartAt, IsRequestThere, IsSame, Places, to_in}
use Rattle.j39_part_laws.specs.Sublists.{IsSub}
use Rattle.j39_part_laws.proofs.Sublists.{sub_filter, sub_of_some}

-- ---- of fewer periods

-- as fractions
no_more_parts : (p : ℕ) (xs ys : List ℕ) → IsSub IsSame xs ys → asked_parts p xs * whole_parts ys ≤ asked_parts p ys * whole_parts xs
unfolding asked_parts whole_parts
no_more_parts p [] ys sub = omega arith
no_more_parts p (x ∷ xs) [] sub = absurd sub
no_more_parts p (x ∷ xs) (y ∷ ys) (inr later) =
    let rest = no_greater y _ _ (no_more_parts p (x ∷ xs) ys later) in
    omega (arith, rest)
no_more_parts p (x ∷ xs) (y ∷ ys) (inl (same, left)) =
    let rest = no_greater (x * x) _ _ (no_more_parts p xs ys left) in
    let one = ap (λ (n : ℕ). (p * whole_parts xs + x * asked_parts p xs) * (n * whole_parts ys)) (sym same) in
    let other = ap (λ (n : ℕ). (p * whole_parts ys + n * asked_parts p ys) * (x * whole_parts xs)) (sym same) in
    omega (arith, rest, one, other)

more_of_sub : (p : ℕ) (xs ys : List ℕ) → IsSub IsSame xs ys → 1 ≤ whole_parts xs → 1 ≤ whole_parts ys → is_more_than_one p xs ≡ true
    → is_more_than_one p ys ≡ true
more_of_sub p xs ys sub some whole more =
    let d : ℕ = whole_parts xs in
    let e : ℕ = whole_parts ys in
    let above = times_greater e d (asked_parts p xs) (ltb-true d (asked_parts p xs) more) in
    let no_more = no_more_parts p xs ys sub in
    elim (cases_lt e (asked_parts p ys)) [
      | inl less ↦ lt-ltb e (asked_parts p ys) less
      | inr none ↦ absurd (let below = no_greater d (asked_parts p ys) e none in omega (arith, above, no_more, below, whole))
    ]

-- ---- of a part's requests

module _ (at : Places) (part whole : Plan) (is : IsPartAt at part whole) where
  one_unit : (u v : ℕ) → at.unit u ≡ at.unit v → u ≡ v
  one_unit u v same = elim (cases_order u v) [
    | inl equal ↦ equal
    | inr (inl below) ↦ absurd (let rise = is.units.rises u v below in omega (arith, rise, same))
    | inr (inr above) ↦ absurd (let rise = is.units.rises v u above in omega (arith, rise, same))
  ]

  reached_there : (to : To) (u : ℕ) → is_reached to u ≡ true → is_reached (to_in at to) (at.unit u) ≡ true
  reached_there All u reached = refl
  reached_there (One v) u reached = eq-eqb (at.unit v) (at.unit u) (ap at.unit (eqb-true v u reached))

  serves_there : (r s : RequestPlan) (f g : FlowPlan) → IsRequestThere at r s → IsFlowThere at f g → serves r f ≡ true → serves s g ≡ true
  serves_there r s f g asked sent answers =
      let (group, rest) = and_parts (f.group == r.group) _ answers in
      let (other, ends) = and_parts (not (f.sender == r.sender)) _ rest in
      let (one, two) = and_parts (is_reached r.to f.sender) (is_reached f.to r.sender) ends in
      let apart = not-true (f.sender == r.sender) other in
      rw (asked.group, asked.sender, asked.to, sent.group, sent.sender, sent.to)
      (and_from (at.group f.group == at.group r.group) _ (eq-eqb (at.group f.group) (at.group r.group) (ap at.group (eqb-true f.group r.group group)))
      (and_from (not (at.unit f.sender == at.unit r.sender)) _
      (ap not (ne_eqb (at.unit f.sender) (at.unit r.sender) (λ same. eqb-false f.sender r.sender apart (one_unit f.sender r.sender same))))
      (and_from (is_reached (to_in at r.to) (at.unit f.sender)) (is_reached (to_in at f.to) (at.unit r.sender))
      (reached_there r.to f.sender one) (reached_there f.to r.sender two))))

  asked_there : (f g : FlowPlan) → IsFlowThere at f g → (r s : RequestPlan) → IsRequestThere at r s → (every : ℕ) → asked_every f r ≡ Some every
      → (other : ℕ) × (asked_every g s ≡ Some other) × (every ≡ other)
  asked_there f g sent r s asked every is_every = go (serves r f) refl is_every
    where
      go : (b : Bool) → serves r f ≡ b → (if b then r.period else None) ≡ Some every → (other : ℕ) × (asked_every g s ≡ Some other) × (every ≡ other)
      go false answers period = absurd (none-some every period)
      go true answers period =
          (every, rw (serves_there r s f g asked sent answers) (asked.period ∙ period), refl)

  -- how often the whole asks for the flow there
  pub periods_there : (f g : FlowPlan) → IsFlowThere at f g → IsSub IsSame (asking_periods part.requests.items f) (asking_periods whole.requests.items g)
  periods_there f g sent = sub_filter (IsRequestThere at) IsSame (asked_every f) (asked_every g) (asked_there f g sent) part.requests.items whole.requests.items
      (sub_of_some at.request (IsRequestThere at) part.requests.items whole.requests.items is.requests)

  -- what the whole asks of the flow there
  pub too_often_there : (f g : FlowPlan) → IsFlowThere at f g → is_asked_too_often part.requests.items f ≡ true
      → is_asked_too_often whole.requests.items g ≡ true
  too_often_there f g sent too_often =
      let asked = asked_more part.requests.items f too_often in
      let periods : List ℕ = asking_periods part.requests.items f in
      let more : is_more_than_one asked.pace.period periods ≡ true =
      sym (answering_more part.requests.items f asked.pace asked.answers asked.paced) ∙ too_often in
      let sub = periods_there f g sent in
      answering_more whole.requests.items g asked.pace (sent.on_request ∙ asked.answers) (sent.pace ∙ asked.paced)
      ∙ more_of_sub asked.pace.period periods (asking_periods whole.requests.items g) sub (some_whole f part.requests.items)
      (some_whole g whole.requests.items) more
