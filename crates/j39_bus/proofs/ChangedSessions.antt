-- The messages that units send, after one of them has changed.
use Rattle.std.proofs.Common.{◌≡◌, ℕ, ◌<◌, List, length, set, refl, sym, ap, ◌∙◌, subst, inl, inr, Option, Some, None, eqb, get_or-set_other, get_or-set_same}
use Rattle.std.proofs.lemmas.Bool.{cases_eq, cond-true, eq-eqb, ne_eqb}
use Rattle.std.specs.Option.{option_and_then}
use Rattle.j39_tp.specs.declared.packet.Packet.{Packet}
use Rattle.j39_tp.specs.declared.sending.stage.Stage.{Stage}
use Rattle.j39_bus.specs.BusState.{session_at}
use Rattle.j39_bus.specs.inside.KeptMessages.{AreSessions, IsSession, at_stage}
use Rattle.j39_world.specs.Transfers.{Outgoing}
use Rattle.j39_world.specs.TransferSteps.{session_after, outgoing_hears}
use Rattle.j39_world.specs.World.{changed}

pub none_some : {X : Type 0} (x : X) → None ≡ Some x → ⊥
none_some x is = cc is

pub some_is : {X : Type 0} (x y : X) → Some x ≡ Some y → x ≡ y
some_is x y is = cc

pub changed_same : {X : Type 0} (f : ℕ → X) (u : ℕ) (x : X) → changed f u x u ≡ x
changed_same f u x = cond-true (eqb u u) x (f u) (eq-eqb u u refl)

pub session_set : (list : List (Option Outgoing)) (u : ℕ) (o : Option Outgoing) → u < length list → session_at (set list u o) ≡ changed (session_at list) u o
session_set list u o inside = λ i s. at s i
  where
    at : (s : ℕ) → session_at (set list u o) s ≡ changed (session_at list) u o s
    at s = elim (cases_eq s u) [
      | inl same ↦ rw (same, eq-eqb u u refl, get_or-set_same)
      | inr other ↦ rw (ne_eqb s u other, get_or-set_other)
    ]

-- sessions stay in their form where one of them is another in its form
pub sessions_changed : (n : ℕ) (old new : List (Option Outgoing)) (u : ℕ) (o : Option Outgoing) → session_at new ≡ changed (session_at old) u o
    → ((s : Outgoing) → o ≡ Some s → IsSession n s) → length new ≡ length old → AreSessions n old → AreSessions n new
sessions_changed n old new u o is form count are = record {
  count = count ∙ are.count;
  each = λ k s at. elim (cases_eq k u) [
    | inl same ↦ form s (sym (ap (λ j. changed (session_at old) u o j) same ∙ changed_same (session_at old) u o) ∙ (λ i. sym is i k) ∙ at)
    | inr other ↦ are.each k s (sym (here k other) ∙ (λ i. sym is i k) ∙ at)
  ];
}
  where
    here : (k : ℕ) → (k ≡ u → ⊥) → changed (session_at old) u o k ≡ session_at old k
    here k other = rw (ne_eqb k u other) refl

-- at another stage it has the same form
staged : (n : ℕ) (stage : Outgoing → Stage) (o : Option Outgoing) → ((s : Outgoing) → o ≡ Some s → IsSession n s)
    → (s : Outgoing) → at_stage stage o ≡ Some s → IsSession n s
staged n stage None form s is = absurd (none_some s is)
staged n stage (Some t) form s is =
    let e : record t { stage = stage t } ≡ s = cc in
    let was : IsSession n t = form t refl in
    subst (IsSession n) e (record { to = was.to; targets = was.targets })

pub sessions_staged : (n : ℕ) (old new : List (Option Outgoing)) (u : ℕ) (stage : Outgoing → Stage)
    → session_at new ≡ changed (session_at old) u (at_stage stage (session_at old u)) → length new ≡ length old → AreSessions n old → AreSessions n new
sessions_staged n old new u stage is count are = sessions_changed n old new u _ is (staged n stage (session_at old u) (are.each u)) count are

-- what a sender hears changes its stage alone
pub after_is : (o : Option Outgoing) (v : ℕ) (p : Packet) → session_after o v p ≡ at_stage (λ s. (outgoing_hears s v p).0) o
after_is None v p = refl
after_is (Some s) v p = refl

-- there is a session where it sends something
pub session_sends : (next : Outgoing → Option Packet) (o : Option Outgoing) (p : Packet) → Some p ≡ option_and_then next o
    → (s : Outgoing) × (o ≡ Some s) × (next s ≡ Some p)
session_sends next None p is = absurd (none_some p (sym is))
session_sends next (Some s) p is = (s, refl, sym is)
