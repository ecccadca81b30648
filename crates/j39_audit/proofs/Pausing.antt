-- What is kept of pauses, with one more, and where they end.
use Rattle.std.proofs.Common.{◌≡◌, ℕ, zero, suc, ◌+◌, ◌<◌, ◌==◌, ◌++◌, List, Bool, true, false, cond, Option, Some, None, length, refl, sym, ap, ◌∙◌, add-one}
use Rattle.std.proofs.Common.{inl, inr, eq-eqb}
use Rattle.std.specs.Prelude.{is_some, slice_index_or}
use Rattle.std.proofs.lemmas.Bool.{cases_eq, cases_Bool, ne_eqb, true≢false}
use Rattle.std.proofs.lemmas.List.{append-nil}
use Rattle.j39_network.specs.declared.plan.timing.Timing.{Timing}
use Rattle.j39_audit.specs.Counting.{Key, Noted}
use Rattle.j39_audit.specs.Moments.{Moments, ends_with, listed_pauses_ended, pause_ended, pauses_ended, silence_behind, silent_noted}
use Rattle.j39_audit.specs.Settings.{Settings}
use Rattle.j39_audit.specs.declared.moments.Moments.{Moments as KeptMoments}
use Rattle.j39_audit.specs.declared.pauses.LastFrame.{LastFrame}
use Rattle.j39_audit.specs.declared.pauses.Newest.{Newest}
use Rattle.j39_audit.specs.declared.pauses.Pauses.{Pauses}
use Rattle.j39_audit.specs.declared.tally.MarkTally.{MarkTally}
use Rattle.j39_audit.specs.inside.Recalling.{AreCounted, AreNear, ArePausesNear, IsKeptAt, RecallsMoments, far_ahead, last_in_pauses, newest_in}
use Rattle.j39_audit.proofs.Keeping.{none_either, none_is}

-- ---- where none is kept

pub none_near : (old new : Pauses) → ((n : ℕ) → newest_in new n ≡ None) → ((u : ℕ) → last_in_pauses new u ≡ None)
    → length new.newest.items ≡ length old.newest.items → length new.last.items ≡ length old.last.items → ArePausesNear old → ArePausesNear new
none_near old new newest last newest_size last_size near = record {
  newest = λ n. none_is (λ x. x.moment < far_ahead) _ (newest n);
  last = λ u. none_is _ _ (last u);
  newest_size = newest_size ∙ near.newest_size;
  last_size = last_size ∙ near.last_size;
}

-- ---- what times report, where other pauses and other notes are kept

pub near_with : {kept : KeptMoments} {tally : MarkTally} {pauses : Pauses} → AreNear kept → ArePausesNear pauses
    → AreNear (record kept { untimely = tally; pauses = pauses })
near_with near pauses = record { earliest = near.earliest; since = near.since; pauses = pauses }

pub recalls_with : {kept : KeptMoments} {m : Moments} {tally : MarkTally} {untimely : List Noted} {pauses : Pauses} {newest : ℕ → Option Newest}
    {last : ℕ → Option LastFrame} → RecallsMoments kept m → AreCounted tally untimely → IsKeptAt pauses.newest.items pauses.is_open newest
    → IsKeptAt pauses.last.items pauses.is_open last
    → RecallsMoments (record kept { untimely = tally; pauses = pauses }) (record m { untimely = untimely; newest = newest; last = last })
recalls_with recalls counted newest last = record {
  before = recalls.before;
  since = recalls.since;
  earliest = recalls.earliest;
  counted = counted;
  pauses = record { newest = newest; last = last };
}

-- ---- flows, one after another

pub ended_none : (s : Settings) (t : Timing) (unit : Option ℕ) (m : Moments) → pauses_ended s t unit 0 m ≡ m
unfolding pauses_ended
ended_none s t unit m = refl

pub ended_more : (s : Settings) (t : Timing) (unit : Option ℕ) (n : ℕ) (m : Moments)
    → pauses_ended s t unit (n + 1) m ≡ cond (ends_with s unit n) (pause_ended s t n (pauses_ended s t unit n m)) (pauses_ended s t unit n m)
unfolding pauses_ended
ended_more s t unit n m = rw add-one refl

pub listed_none : (s : Settings) (t : Timing) (ns : List ℕ) (m : Moments) → listed_pauses_ended s t ns 0 m ≡ m
unfolding listed_pauses_ended
listed_none s t ns m = refl

pub listed_more : (s : Settings) (t : Timing) (ns : List ℕ) (k : ℕ) (m : Moments)
    → listed_pauses_ended s t ns (k + 1) m ≡ pause_ended s t (slice_index_or ns k 0) (listed_pauses_ended s t ns k m)
unfolding listed_pauses_ended
listed_more s t ns k m = rw add-one refl

-- ---- where no pause is open

unset : (n : ℕ) (newest : ℕ → Option Newest) → newest n ≡ None → (k : ℕ) → cond (n == k) None (newest k) ≡ newest k
unset n newest none k = elim (cases_eq n k) [
  | inl same ↦ rw (eq-eqb n k same) (sym none ∙ ap newest same)
  | inr other ↦ rw (ne_eqb n k other) refl
]

pub is_nothing : {X : Type 0} (x : Option X) → is_some x ≡ false → x ≡ None
is_nothing None none = refl
is_nothing (Some x) none = absurd (true≢false none)

-- nothing is reported of a flow of which no message is kept
pub none_open : (s : Settings) (t : Timing) (n : ℕ) (m : Moments) → m.newest n ≡ None → pause_ended s t n m ≡ m
none_open s t n m none =
    let nothing : m.untimely ++ silent_noted n (m.newest n) (silence_behind s t n (m.newest n) m.last) ≡ m.untimely =
    ap (λ (x : Option Newest). m.untimely ++ silent_noted n x (silence_behind s t n x m.last)) none ∙ append-nil m.untimely in
    λ i. record m { newest = λ k. unset n m.newest none k i; untimely = nothing i }

pub either_same : {X : Type 0} (test : Bool) (x y : X) → y ≡ x → x ≡ cond test y x
either_same true x y same = sym same
either_same false x y same = refl

pub record IsAsBefore (m e : Moments) : Type 0 where
  pub before : e.before ≡ m.before
  pub since : e.since ≡ m.since
  pub earliest : (key : Key) → e.earliest key ≡ m.earliest key
  pub untimely : e.untimely ≡ m.untimely
  pub newest : (n : ℕ) → e.newest n ≡ None

quiet : (s : Settings) (t : Timing) (m e : Moments) (n : ℕ) → IsAsBefore m e → IsAsBefore m (pause_ended s t n e)
quiet s t m e n was = record {
  before = was.before;
  since = was.since;
  earliest = was.earliest;
  untimely = ap (λ (x : Option Newest). e.untimely ++ silent_noted n x (silence_behind s t n x e.last)) (was.newest n) ∙ append-nil e.untimely ∙ was.untimely;
  newest = λ k. none_either (n == k) (e.newest k) (was.newest k);
}

pub none_ended : (s : Settings) (t : Timing) (unit : Option ℕ) (m : Moments) → ((k : ℕ) → m.newest k ≡ None) → (n : ℕ)
    → IsAsBefore m (pauses_ended s t unit n m)
unfolding pauses_ended
none_ended s t unit m none zero = record { before = refl; since = refl; earliest = λ key. refl; untimely = refl; newest = none }
none_ended s t unit m none (suc n) = elim (cases_Bool (ends_with s unit n)) [
  | inl ends ↦ rw ends (quiet s t m (pauses_ended s t unit n m) n (none_ended s t unit m none n))
  | inr not ↦ rw not (none_ended s t unit m none n)
]
