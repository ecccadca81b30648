-- Plans without optional signals.
use Rattle.std.proofs.Common.{◌≡◌, ◌↔◌, ℕ, Bool, true, false, not, ◌&&◌, ◌||◌, List, [], ◌∷◌, All, Some, if◌then◌else◌, refl, sym, ap, subst}
use Rattle.std.specs.List.{filter, slice_get}
use Rattle.std.proofs.lemmas.Bool.{false≢true}
use Rattle.std.proofs.lemmas.List.Elements.{All-head, All-tail}
use Rattle.j39_signal.specs.declared.signal_parts.SignalParts.{SignalParts}
use Rattle.j39_signal.specs.Places.{IsInside}
use Rattle.j39_network.specs.declared.plan.Plan.{Plan}
use Rattle.j39_network.specs.declared.plan.group_plan.GroupPlan.{GroupPlan}
use Rattle.j39_findings.specs.declared.checking.finding.Finding.TheVariants.{SignalOutside}
use Rattle.j39_findings.specs.Findings.{Holds}
use Rattle.j39_search.specs.ListPlaces.{ValueAt}
use Rattle.j39_network.specs.Records.{single_signals}
use Rattle.j39_network.specs.SignalPlaces.{HasNoOptional, room_of_signal}
use Rattle.j39_findings.specs.WithoutOptional.{IsWithoutOptional}
use Rattle.j39_search.proofs.Members.{all_at}

there_with : (b o t : Bool) (s : SignalParts) (xs ys : List SignalParts) → o ≡ false → xs ≡ ys
    → (if not b && (not o || t) then s ∷ xs else xs) ≡ (if not b then s ∷ ys else ys)
there_with b true t s xs ys always same = absurd (false≢true (sym always))
there_with true false t s xs ys always same = same
there_with false false t s xs ys always same = ap (λ (others : List SignalParts). s ∷ others) same

all_there : (bytes : ℕ) (signals : List SignalParts) → All (λ s. s.optional ≡ false) signals
    → single_signals bytes signals ≡ filter (λ s. not s.repeated) signals
all_there bytes [] none = refl
all_there bytes (s ∷ rest) none =
    there_with s.repeated s.optional _ s _ _ (All-head (λ t. t.optional ≡ false) s rest none)
    (all_there bytes rest (All-tail (λ t. t.optional ≡ false) s rest none))

room_alone : (o : Bool) (length most : ℕ) → o ≡ false → (if o then most else length) ≡ length
room_alone true length most always = absurd (false≢true (sym always))
room_alone false length most always = refl

-- of a signal that isn't optional both places are one
abbrev EndsBehind : GroupPlan → SignalParts → Type 0
EndsBehind group s = ¬ IsInside group.length s

there_alone : (plan : Plan) → HasNoOptional plan → (g s : ℕ) → Holds plan (SignalOutside g s)
    ↔ ValueAt (λ group. ValueAt (EndsBehind group) group.signals.items s) plan.groups.items g
there_alone plan none g s =
    let room : (v : GroupPlan) → All (λ t. t.optional ≡ false) v.signals.items → (k : ℕ) (x : SignalParts) → slice_get v.signals.items k ≡ Some x
    → room_of_signal v.length v.most x ≡ v.length =
    λ v always k x at. room_alone x.optional v.length v.most (all_at (λ t. t.optional ≡ false) v.signals.items always k x at) in
    let none_of = all_at (λ group. All (λ t. t.optional ≡ false) group.signals.items) plan.groups.items none g in (
      λ v. record {
        value = v.value;
        value_is = v.value_is;
        meets = record {
          value = v.meets.value;
          value_is = v.meets.value_is;
          meets = subst (λ n. ¬ IsInside n v.meets.value)
              (room v.value (none_of v.value v.value_is) s v.meets.value v.meets.value_is) v.meets.meets;
        };
      },
      λ v. record {
        value = v.value;
        value_is = v.value_is;
        meets = record {
          value = v.meets.value;
          value_is = v.meets.value_is;
          meets = subst (λ n. ¬ IsInside n v.meets.value)
              (sym (room v.value (none_of v.value v.value_is) s v.meets.value v.meets.value_is)) v.meets.meets;
        };
      },
    )

pub without_optional : (plan : Plan) → HasNoOptional plan → IsWithoutOptional plan
without_optional plan none = record {
  outside = there_alone plan none;
  signals = λ g d less bytes. all_there bytes _ (none g d less);
}
