-- What is asked and answered once one event more came.
use Rattle.std.proofs.Common.{◌≡◌, ◌≢◌, ◌==◌, ◌≤◌, ◌<◌, ◌+◌, ◌-◌, ◌^◌, ℕ, Bool, true, false, not, ◌&&◌, ◌||◌, if◌then◌else◌, List, [], ◌∷◌, ◌++◌, drop, length}
use Rattle.std.proofs.Common.{inl, inr, refl, sym, ap, ◌∙◌, arith, subst, eqb-true, Some}
use Rattle.std.specs.Prelude.{cond, count_by, min, slice_set}
use Rattle.std.specs.List.{filter, slice_get, zip}
use Rattle.std.proofs.lemmas.Bool.{cases_Bool, eqb-false, false≢true, and_right}
use Rattle.std.proofs.lemmas.List.{append-nil, length-set}
use Rattle.std.proofs.lemmas.List.Elements.{filter-append}
use Rattle.std.proofs.lemmas.List.Sums.{count_by-le-length, length-filter, sum_by_push}
use Rattle.std.proofs.lemmas.Slice.Zip.{length-zip}
use Rattle.std.proofs.lemmas.Option.{same_Some}
use Rattle.j39_network.specs.PlanLimits.{request_limit}
use Rattle.j39_network.specs.declared.plan.Plan.{Plan}
use Rattle.j39_network.specs.declared.plan.request_plan.RequestPlan.{RequestPlan}
use Rattle.j39_follow.specs.LoggedRequests.{answers, asks_request as asks, concerns, refuses, times_answered, times_asked, times_refused}
use Rattle.j39_follow.specs.declared.request.event.Event.{Event}
use Rattle.j39_follow.specs.declared.request.exchange.Exchange.{Exchange}
use Rattle.j39_follow.specs.inside.Exchanging.{IsAfter, IsExchange, IsHeardBelow, ends_asking, exchange_at, nothing_asked}
use Rattle.j39_follow.proofs.Addresses.Tables.{set_here, set_there}

-- one more or none
abbrev pub one_if : Bool → ℕ
one_if b = cond b 1 0

-- how often an event of this kind stands right after a question
abbrev behind_asking : ℕ → (Event → Bool) → List Event → ℕ
behind_asking place q own = count_by (λ (t : Event × Event). asks place t.0 && q t.1) (zip own (drop 1 own))

-- ---- one event more among those that concern a request

-- the last of some events, with the one behind it
last_asks : (place : ℕ) (c : Event) (own : List Event) (e : Event)
    → (d : Event) × (zip (c ∷ (own ++ e ∷ [])) (own ++ e ∷ []) ≡ zip (c ∷ own) own ++ (d, e) ∷ []) × (asks place d ≡ ends_asking place (c ∷ own))
unfolding ends_asking
last_asks place c [] e = (c, refl, refl)
last_asks place c (d ∷ own) e =
    let rest = last_asks place d own e in
    (rest.0, ap (λ (t : List (Event × Event)). (c, d) ∷ t) rest.1, rest.2)

pushed : (place : ℕ) (q : Event → Bool) (own : List Event) (e : Event)
    → behind_asking place q (own ++ e ∷ []) ≡ behind_asking place q own + one_if (ends_asking place own && q e)
unfolding ends_asking
pushed place q [] e = refl
pushed place q (c ∷ own) e =
    let last = last_asks place c own e in
    let more : behind_asking place q ((c ∷ own) ++ e ∷ []) ≡ behind_asking place q (c ∷ own) + one_if (asks place last.0 && q e) =
    ap (count_by (λ (t : Event × Event). asks place t.0 && q t.1)) last.1
    ∙ sum_by_push (λ (t : Event × Event). cond (asks place t.0 && q t.1) 1 0) (zip (c ∷ own) own) (last.0, e) in
    more ∙ ap (λ (b : Bool). behind_asking place q (c ∷ own) + one_if (b && q e)) last.2

ends_pushed : (place : ℕ) (own : List Event) (e : Event) → ends_asking place (own ++ e ∷ []) ≡ asks place e
unfolding ends_asking
ends_pushed place [] e = refl
ends_pushed place (d ∷ []) e = refl
ends_pushed place (c ∷ (d ∷ own)) e = ends_pushed place (d ∷ own) e

-- ---- one event more, of which this says whether it concerns the request

abbrev if_it : Bool → Event → List Event
if_it b e = if b then e ∷ [] else []

own_with : (q : Event → Bool) (events : List Event) (e : Event) → filter q (events ++ e ∷ []) ≡ filter q events ++ if_it (q e) e
own_with q events e = filter-append q events (e ∷ [])

behind_more : (place : ℕ) (q : Event → Bool) (own : List Event) (e : Event) (own_too : Bool) → (q e ≡ true → own_too ≡ true)
    → behind_asking place q (own ++ if_it own_too e) ≡ behind_asking place q own + one_if (ends_asking place own && q e)
behind_more place q own e true so = pushed place q own e
behind_more place q own e false so = elim (cases_Bool (q e)) [
  | inl passes ↦ absurd (false≢true (so passes))
  | inr fails ↦
      let none : behind_asking place q own ≡ behind_asking place q own + 0 = omega arith in
      ap (behind_asking place q) (append-nil own) ∙ none
      ∙ sym (ap (λ (b : Bool). behind_asking place q own + one_if b) (and_right (ends_asking place own) (q e) fails))
]

-- a question opens, what ends it closes
opened : (asked was ended : Bool) → (asked || ended) ≡ true → asked ≡ (asked || (was && not ended))
opened true was ended e = refl
opened false was true e = sym (and_right was false refl)
opened false was false e = cc

stays_so : (asked was ended : Bool) → (asked || ended) ≡ false → was ≡ (asked || (was && not ended))
stays_so true was ended e = cc
stays_so false was true e = cc
stays_so false true false e = refl
stays_so false false false e = refl

open_more : (place : ℕ) (own : List Event) (e : Event) (own_too ended : Bool) → (asks place e || ended) ≡ own_too
    → ends_asking place (own ++ if_it own_too e) ≡ (asks place e || (ends_asking place own && not ended))
open_more place own e true ended so = ends_pushed place own e ∙ opened (asks place e) (ends_asking place own) ended so
open_more place own e false ended so =
    ap (ends_asking place) (append-nil own) ∙ stays_so (asks place e) (ends_asking place own) ended so

-- ---- what concerns a request

second_of : (a b c : Bool) → b ≡ true → (a || (b || c)) ≡ true
second_of true b c e = refl
second_of false true c e = refl
second_of false false c e = cc

third_of : (a b c : Bool) → c ≡ true → (a || (b || c)) ≡ true
third_of true b c e = refl
third_of false true c e = refl
third_of false false c e = e

-- ---- counts that end at the greatest

own_most : (q : Event → Bool) (events : List Event) → length (filter q events) ≤ length events
own_most q events =
    let same = length-filter q events in
    let most = count_by-le-length q events in
    omega (arith, same, most)

behind_most : (place : ℕ) (q : Event → Bool) (own : List Event) → behind_asking place q own ≤ length own
behind_most place q own =
    let most = count_by-le-length (λ (t : Event × Event). asks place t.0 && q t.1) (zip own (drop 1 own)) in
    let size = length-zip own (drop 1 own) in
    omega (arith, most, size)

one_more : (n old new : ℕ) (b : Bool) → n < 2 ^ 64 - 1 → old ≡ n → new ≡ (if b then min (old + 1) (2 ^ 64 - 1) else old) → new ≡ n + one_if b
one_more n old new true few was is = omega (arith, few, was, is)
one_more n old new false few was is = omega (arith, was, is)

-- ---- one event more

pub after_event : (plan : Plan) (place : ℕ) (r : RequestPlan) (e : Event) (old new : Exchange)
    → new.asked ≡ (if asks place e then min (old.asked + 1) (2 ^ 64 - 1) else old.asked)
    → new.answered ≡ (if old.is_open && answers plan r e then min (old.answered + 1) (2 ^ 64 - 1) else old.answered)
    → new.refused ≡ (if old.is_open && refuses plan r e then min (old.refused + 1) (2 ^ 64 - 1) else old.refused)
    → new.is_open ≡ (asks place e || (old.is_open && not (answers plan r e || refuses plan r e))) → IsAfter plan place r e old new
after_event plan place r e old new asked answered refused opens = λ events few was.
    let own : List Event = filter (concerns plan place r) events in
    let all : List Event = filter (concerns plan place r) (events ++ e ∷ []) in
    let cut : all ≡ own ++ if_it (concerns plan place r e) e = own_with (concerns plan place r) events e in
    let most : length own ≤ length events = own_most (concerns plan place r) events in
    let most_asked : times_asked place events ≤ length events = count_by-le-length (asks place) events in
    let most_answered : times_answered plan place r events ≤ length own = behind_most place (answers plan r) own in
    let most_refused : times_refused plan place r events ≤ length own = behind_most place (refuses plan r) own in
    let open_is = was.open_is in
    let times_more : times_asked place (events ++ e ∷ []) ≡ times_asked place events + one_if (asks place e) =
    sum_by_push (λ (x : Event). cond (asks place x) 1 0) events e in
    let answered_more : times_answered plan place r (events ++ e ∷ []) ≡ times_answered plan place r events + one_if
    (ends_asking place own && answers plan r e) =
    ap (behind_asking place (answers plan r)) cut
    ∙ behind_more place (answers plan r) own e (concerns plan place r e) (second_of (asks place e) (answers plan r e) (refuses plan r e)) in
    let refused_more : times_refused plan place r (events ++ e ∷ []) ≡ times_refused plan place r events + one_if (ends_asking place own && refuses plan r e) =
    ap (behind_asking place (refuses plan r)) cut
    ∙ behind_more place (refuses plan r) own e (concerns plan place r e) (third_of (asks place e) (answers plan r e) (refuses plan r e)) in
    record {
      asked = one_more (times_asked place events) old.asked new.asked (asks place e) (omega (arith, few, most_asked)) was.asked asked ∙ sym times_more;
      answered =
          one_more (times_answered plan place r events) old.answered new.answered (old.is_open && answers plan r e)
          (omega (arith, few, most, most_answered)) was.answered answered
          ∙ ap (λ (b : Bool). times_answered plan place r events + one_if (b && answers plan r e)) open_is ∙ sym answered_more;
      refused =
          one_more (times_refused plan place r events) old.refused new.refused (old.is_open && refuses plan r e)
          (omega (arith, few, most, most_refused)) was.refused refused
          ∙ ap (λ (b : Bool). times_refused plan place r events + one_if (b && refuses plan r e)) open_is ∙ sym refused_more;
      open_is =
          opens ∙ ap (λ (b : Bool). asks place e || (b && not (answers plan r e || refuses plan r e))) open_is
          ∙ sym (ap (ends_asking place) cut ∙ open_more place own e (concerns plan place r e) (answers plan r e || refuses plan r e) refl);
    }

-- ---- all requests

pub nothing_yet : (plan : Plan) (place : ℕ) (r : RequestPlan) → IsExchange plan place r nothing_asked []
unfolding ends_asking
nothing_yet plan place r = record { asked = refl; answered = refl; refused = refl; open_is = refl }

pub none_heard : (plan : Plan) (e : Event) (old : List Exchange) → length old ≡ request_limit → IsHeardBelow plan e old old 0
none_heard plan e old size = record {
  size = size;
  heard = λ k r less at. absurd (omega (arith, less));
  rest = λ k more. refl;
}

-- what is kept of one request more is that behind the event
pub one_heard : (plan : Plan) (e : Event) (old new : List Exchange) (k : ℕ) (r : RequestPlan) (x : Exchange) → k < request_limit
    → slice_get plan.requests.items k ≡ Some r → IsAfter plan k r e (exchange_at new k) x → IsHeardBelow plan e old new k
    → IsHeardBelow plan e old (slice_set new k x) (k + 1)
one_heard plan e old new k r x room here after before =
    let size = before.size in
    let within : k < length new = omega (arith, room, size) in
    let first : IsAfter plan k r e (exchange_at old k) (exchange_at (slice_set new k x) k) =
    subst (λ (y : Exchange). IsAfter plan k r e (exchange_at old k) y) (sym (set_here new k x nothing_asked within))
    (subst (λ (y : Exchange). IsAfter plan k r e y x) (before.rest k (omega arith)) after) in
    record {
      size = length-set new k x ∙ size;
      heard = λ j s less at. elim (cases_Bool (k == j)) [
        | inl same ↦
            let is : k ≡ j = eqb-true k j same in
            let one : r ≡ s = same_Some r s (sym here ∙ ap (slice_get plan.requests.items) is ∙ at) in
            subst (λ (i : ℕ). IsAfter plan i s e (exchange_at old i) (exchange_at (slice_set new k x) i)) is
            (subst (λ (q : RequestPlan). IsAfter plan k q e (exchange_at old k) (exchange_at (slice_set new k x) k)) one first)
        | inr other ↦
            let apart = eqb-false k j other in
            subst (λ (y : Exchange). IsAfter plan j s e (exchange_at old j) y) (sym (set_there new k j x nothing_asked apart))
            (before.heard j s (omega (arith, less, apart)) at)
      ];
      rest = λ j more.
          let apart : k ≢ j = λ is. absurd (omega (arith, more, is)) in
          set_there new k j x nothing_asked apart ∙ before.rest j (omega (arith, more));
    }
