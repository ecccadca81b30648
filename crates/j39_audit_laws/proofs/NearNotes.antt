-- What is noted of the messages of a stream are those that are too near.
use Rattle.std.proofs.Common.{◌≡◌, ℕ, zero, suc, ◌-◌, ◌++◌, [], List, Bool, true, false, cond, Option, Some, None, refl, sym, ap, ◌∙◌, append_assoc}
use Rattle.std.specs.Prelude.{nat_lt}
use Rattle.std.proofs.lemmas.Bool.{eq-eqb}
use Rattle.std.proofs.lemmas.List.{append-nil}
use Rattle.j39_audit.specs.Below.{each_below}
use Rattle.j39_audit.specs.Counting.{Key, Noted, is_same_key, key_of}
use Rattle.j39_audit.specs.Moments.{Moments, near_noted, with_earliest}
use Rattle.j39_audit.specs.Near.{candidate, earliest, earliest_at, earliest_next, excess, is_later_than}
use Rattle.j39_audit_laws.specs.Stepping.{NotesTheNear, near_at, with_messages}
use Rattle.j39_audit.specs.declared.streams.MessageStream.{MessageStream}
use Rattle.j39_audit.specs.declared.window.Window.{Window}

-- a key is the same as itself
same_key : (k : Key) → is_same_key k k ≡ true
same_key k = rw (eq-eqb k.0 k.0 refl, eq-eqb k.1 k.1 refl, eq-eqb k.2 k.2 refl) refl

at_own : (k : Key) (moment : Option ℕ) (old : Key → Option ℕ) → with_earliest k moment old k ≡ moment
at_own k moment old = ap (λ (b : Bool). cond b moment (old k)) (same_key k)

-- nothing is noted exactly where a moment isn't later
later_noted : (stream : MessageStream) (line : ℕ) (moment : Option ℕ) (upper : ℕ)
    → near_noted stream line (excess moment upper) ≡ cond (is_later_than moment upper) (near_noted stream line (excess moment upper)) []
unfolding is_later_than excess
later_noted stream line None upper = refl
later_noted stream line (Some e) upper = elim (nat_lt upper e) as (λ b. near_noted stream line (cond b (Some (e - upper)) None)
    ≡ cond b (near_noted stream line (cond b (Some (e - upper)) None)) []) [
      | true ↦ refl
      | false ↦ refl
    ]

module _ (stream : MessageStream) (windows : ℕ → Window) (lines : ℕ → ℕ) (m : Moments) (none : m.earliest (key_of stream.mark) ≡ None) where
  abbrev at : Key
  at = key_of stream.mark

  kept : (n : ℕ) → (with_messages stream windows lines n m).earliest at ≡ earliest stream.step windows n
  unfolding with_messages earliest
  kept zero = none
  kept (suc n) =
      at_own at _ (with_messages stream windows lines n m).earliest
      ∙ ap (λ (e : Option ℕ). earliest_next stream.step e (windows n)) (kept n)

  noted : (n : ℕ) → (with_messages stream windows lines n m).untimely ≡ m.untimely ++ each_below (near_at stream windows lines) n
  unfolding with_messages each_below
  noted zero = sym (append-nil m.untimely)
  noted (suc n) =
      ap (λ (e : Option ℕ). (with_messages stream windows lines n m).untimely
      ++ near_noted stream (lines n) (excess (candidate stream.step e (windows n)) (windows n).upper)) (kept n)
      ∙ ap (λ (l : List Noted). (with_messages stream windows lines n m).untimely ++ l)
      (later_noted stream (lines n) (earliest_at stream.step windows n) (windows n).upper)
      ∙ ap (λ (l : List Noted). l ++ near_at stream windows lines n) (noted n)
      ∙ append_assoc m.untimely (each_below (near_at stream windows lines) n) (near_at stream windows lines n)

pub notes_the_near : NotesTheNear
notes_the_near stream windows lines n m none = noted stream windows lines m none n
