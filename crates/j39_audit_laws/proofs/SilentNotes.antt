-- What is noted of the messages of a flow with a pause, and where it ends, is where the flow is silent.
use Rattle.std.proofs.Common.{◌≡◌, ℕ, zero, suc, ◌+◌, ◌-◌, ◌<◌, ◌++◌, [], List, Bool, true, false, cond, Option, Some, None, refl, sym, ap, ◌∙◌, append_assoc}
use Rattle.std.proofs.Common.{arith}
use Rattle.std.specs.Prelude.{nat_lt}
use Rattle.std.specs.Option.{option_and_then}
use Rattle.std.proofs.lemmas.Bool.{eq-eqb, lt-ltb}
use Rattle.std.proofs.lemmas.List.{append-nil}
use Rattle.j39_audit.specs.Below.{each_below}
use Rattle.j39_audit.specs.Counting.{Noted}
use Rattle.j39_audit.specs.MessageStreams.{flow_pause}
use Rattle.j39_audit.specs.Moments.{Moments, last_of_flow, lower_bound, newest_moment, silence_behind, silent_by, silent_noted, with_newest}
use Rattle.j39_audit.specs.Silence.{lag, latest, latest_next, lies_behind}
use Rattle.j39_audit.specs.declared.pauses.LastFrame.{LastFrame}
use Rattle.j39_audit.specs.declared.pauses.Newest.{Newest}
use Rattle.j39_audit.specs.declared.streams.FlowPause.{FlowPause}
use Rattle.j39_audit.specs.declared.window.Window.{Window}
use Rattle.j39_audit_laws.specs.Pausing.{NotesTheSilent, NotesTheSilentEnd, silence_noted, silent_there, with_paused}

at_own : (n : ℕ) (one : Option Newest) (old : ℕ → Option Newest) → with_newest n one old n ≡ one
at_own n one old = ap (λ (b : Bool). cond b one (old n)) (eq-eqb n n refl)

one_less : (j : ℕ) → suc j - 1 ≡ j
one_less j = omega arith

-- nothing is noted exactly where no bound lies more than a pause behind
behind_noted : (pause n line : ℕ) (l x : Option ℕ) → silence_noted n line (lag pause l x)
    ≡ cond (lies_behind pause l x) (silence_noted n line (lag pause l x)) []
unfolding lies_behind lag
behind_noted pause n line None x = refl
behind_noted pause n line (Some l) None = refl
behind_noted pause n line (Some l) (Some x) = elim (nat_lt (l + pause) x) as (λ b. silence_noted n line (cond b (Some (x - (l + pause))) None)
    ≡ cond b (silence_noted n line (cond b (Some (x - (l + pause))) None)) []) [
      | true ↦ refl
      | false ↦ refl
    ]

-- the newest message, of this moment and line
abbrev newest_of : ℕ → ℕ → Option Newest
newest_of moment line = Some (record { moment = moment; line = line })

noted_at_line : (n moment line : ℕ) (by : Option ℕ) → silent_noted n (newest_of moment line) by ≡ silence_noted n line by
noted_at_line n moment line None = refl
noted_at_line n moment line (Some by) = refl

none_noted : (pause n line : ℕ) (x : Option ℕ) → [] ≡ cond (lies_behind pause None x) (silence_noted n line (lag pause None x)) []
unfolding lies_behind
none_noted pause n line x = refl

module _ (pause n : ℕ) (windows : ℕ → Window) (lines : ℕ → ℕ) (m : Moments) (none : m.newest n ≡ None) where
  abbrev behind : ℕ → Moments
  behind j = with_paused pause n windows lines j m

  abbrev there : ℕ → Option ℕ → List Noted
  there j lower = silent_there pause n windows lines j lower

  kept : (j : ℕ) → newest_moment ((behind j).newest n) ≡ latest pause windows j
  unfolding with_paused latest
  kept zero = ap (λ (x : Option Newest). newest_moment x) none
  kept (suc j) =
      ap (λ (x : Option Newest). newest_moment x) (at_own n _ (behind j).newest)
      ∙ ap (λ (l : Option ℕ). Some (latest_next pause l (windows j))) (kept j)

  pub newest_is : (j : ℕ) → (behind (suc j)).newest n ≡ newest_of (latest_next pause (latest pause windows j) (windows j)) (lines j)
  unfolding with_paused
  newest_is j = at_own n _ (behind j).newest ∙ ap (λ (l : Option ℕ). newest_of (latest_next pause l (windows j)) (lines j)) (kept j)

  pub last_is : (j : ℕ) → (behind j).last ≡ m.last
  unfolding with_paused
  last_is zero = refl
  last_is (suc j) = last_is j

  -- by any lower bound
  one_noted : (j : ℕ) (lower : Option ℕ) → silent_noted n ((behind j).newest n) (lag pause (newest_moment ((behind j).newest n)) lower) ≡ there j lower
  unfolding with_paused latest
  one_noted zero lower =
      ap (λ (x : Option Newest). silent_noted n x (lag pause (newest_moment x) lower)) none ∙ none_noted pause n (lines 0) lower
  one_noted (suc j) lower =
      ap (λ (x : Option Newest). silent_noted n x (lag pause (newest_moment x) lower)) (newest_is j)
      ∙ noted_at_line n (latest_next pause (latest pause windows j) (windows j)) (lines j) (lag pause (latest pause windows (suc j)) lower)
      ∙ behind_noted pause n (lines j) (latest pause windows (suc j)) lower
      ∙ ap (λ (k : ℕ). cond (lies_behind pause (latest pause windows (suc j)) lower)
      (silence_noted n (lines k) (lag pause (latest pause windows (suc j)) lower)) []) (sym (one_less j))

  pub noted : (j : ℕ) → (behind j).untimely ≡ m.untimely ++ each_below (λ k. there k (windows k).lower) j
  unfolding with_paused each_below
  noted zero = sym (append-nil m.untimely)
  noted (suc j) =
      ap (λ (l : List Noted). (behind j).untimely ++ l) (one_noted j (windows j).lower)
      ∙ ap (λ (l : List Noted). l ++ there j (windows j).lower) (noted j)
      ∙ append_assoc m.untimely (each_below (λ k. there k (windows k).lower) j) (there j (windows j).lower)

pub notes_the_silent : NotesTheSilent
notes_the_silent pause n windows lines j m none = noted pause n windows lines m none j

-- ---- where a pause ends

looked : (p : FlowPause) (newest : Newest) (last : LastFrame) → newest.line < last.line
    → silent_by p newest (Some last) ≡ lag p.pause (Some newest.moment) (lower_bound p.slack last.since)
looked p newest last less = rw (lt-ltb newest.line last.line less) refl

at_end : (pause k : ℕ) (windows : ℕ → Window) (lines : ℕ → ℕ) (i : ℕ) (lower : Option ℕ)
    → silence_noted k (lines i) (lag pause (Some (latest_next pause (latest pause windows i) (windows i))) lower)
    ≡ silent_there pause k windows lines (suc i) lower
unfolding latest
at_end pause k windows lines i lower =
    behind_noted pause k (lines i) (Some (latest_next pause (latest pause windows i) (windows i))) lower
    ∙ ap (λ (l : ℕ). cond (lies_behind pause (Some (latest_next pause (latest pause windows i) (windows i))) lower)
    (silence_noted k (lines l) (lag pause (Some (latest_next pause (latest pause windows i) (windows i))) lower)) []) (sym (one_less i))

pub notes_the_silent_end : NotesTheSilentEnd
notes_the_silent_end s t p n windows lines j m last paused none there behind_it =
    let e = with_paused p.pause n windows lines (suc j) m in
    let moment = latest_next p.pause (latest p.pause windows j) (windows j) in
    let newest : Newest = record { moment = moment; line = lines j } in
    let lower = lower_bound p.slack last.since in
    let found = newest_is p.pause n windows lines m none j in
    let by : silence_behind s t n (e.newest n) e.last ≡ lag p.pause (Some moment) lower =
    ap (λ (x : Option Newest). silence_behind s t n x e.last) found
    ∙ ap (λ (l : ℕ → Option LastFrame). option_and_then (λ (q : FlowPause). silent_by q newest (last_of_flow s l n)) (flow_pause s t n))
    (last_is p.pause n windows lines m none (suc j))
    ∙ ap (λ (o : Option FlowPause). option_and_then (λ (q : FlowPause). silent_by q newest (last_of_flow s m.last n)) o) paused
    ∙ ap (λ (l : Option LastFrame). silent_by p newest l) there ∙ looked p newest last behind_it in
    ap (λ (l : List Noted). e.untimely ++ l)
    (ap (λ (x : Option Newest). silent_noted n x (silence_behind s t n (e.newest n) e.last)) found
    ∙ ap (λ (b : Option ℕ). silent_noted n (Some newest) b) by
    ∙ noted_at_line n moment (lines j) (lag p.pause (Some moment) lower)
    ∙ at_end p.pause n windows lines j lower)
