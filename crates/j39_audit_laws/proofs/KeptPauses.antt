-- A flow that keeps its pause is not reported as silent.
use Rattle.std.proofs.Common.{◌≡◌, ◌≢◌, ℕ, suc, ◌+◌, ◌-◌, ◌*◌, ◌<◌, ◌≤◌, min, Bool, false, sym, ap, arith, inl, inr, Option, Some}
use Rattle.std.proofs.Math.Nat.{mul-le-mul_right, suc-mul}
use Rattle.std.proofs.lemmas.Bool.{cases_Bool, cases_lt}
use Rattle.j39_audit.specs.declared.window.Window.{Window}
use Rattle.j39_audit.specs.Silence.{is_silent}
use Rattle.j39_audit_laws.specs.Pausing.{ComesInTime, IsBoundAt}
use Rattle.j39_audit_laws.proofs.Silent.{reported_silent}
use Rattle.j39_audit_laws.proofs.Spread.{AllApart, spread}

-- what is found at the end of each of n pauses behind a moment, and where it stands
record Found (moment : ℕ → ℕ) (frame : ℕ → ℕ) (long i j n u m : ℕ) : Type 0 where
  message : ℕ
  not_after : moment message ≤ u + suc m * long
  not_before : suc m ≤ n → u + m * long < moment message
  place : ℕ
  behind : i < place
  ahead : place < j
  is : message ≡ frame place

module _ (moment frame : ℕ → ℕ) (long i j n u : ℕ) (found : (m : ℕ) → Found moment frame long i j n u m) where
  in_order : (k l : ℕ) → k < l → suc l ≤ n → (found k).place ≢ (found l).place
  in_order k l less inside same =
      let most = (found k).not_after in
      let least = (found l).not_before inside in
      let is_k = ap moment (found k).is in
      let is_l = ap moment (found l).is in
      let at : moment (frame (found k).place) ≡ moment (frame (found l).place) = ap (λ (p : ℕ). moment (frame p)) same in
      let later = mul-le-mul_right long less in
      omega (arith, most, least, is_k, is_l, at, later)

  places_apart : 1 ≤ n → AllApart 1 (λ m. (found m).place) (n - 1)
  places_apart some k l up_k up_l other =
      let differ : (found k).place ≢ (found l).place = elim (cases_lt k l) [
        | inl less ↦ in_order k l less (omega (arith, up_l, some))
        | inr more ↦ λ same. in_order l k (omega (arith, more, other)) (omega (arith, up_k, some)) (sym same)
      ] in
      elim (cases_lt (found k).place (found l).place) [
        | inl one ↦ inl (omega (arith, one))
        | inr two ↦ inr (omega (arith, two, differ))
      ]

  -- so many don't stand between
  too_many : i + n ≡ j → 1 ≤ n → ⊥
  too_many places some =
      let (p, up, high) = spread 1 (i + 1) (n - 1) (λ m. (found m).place) (λ k up. let low = (found k).behind in omega (arith, low)) (places_apart some) in
      let top = (found p).ahead in
      omega (arith, high, top, places, some)

module _ (is_message : ℕ → Bool) (pause from to : ℕ) (frame moment : ℕ → ℕ) (windows : ℕ → Window) (keeps : ComesInTime is_message pause moment from to)
    (j : ℕ) where
  found_at : (i n x : ℕ) → i < j → 1 ≤ n → from ≤ 1000 * (windows i).upper → 1000 * x ≤ to → (windows i).upper + n * pause < x
      → IsBoundAt is_message frame moment windows j x → (m : ℕ) → Found moment frame (1000 * pause) i j n (1000 * (windows i).upper) m
  found_at i n x before some since known gap stands m =
      let u : ℕ = 1000 * (windows i).upper in
      let whole : n * (1000 * pause) ≡ 1000 * (n * pause) = omega arith in
      let one_at_least : 1 * (1000 * pause) ≤ n * (1000 * pause) = mul-le-mul_right (1000 * pause) some in
      let one = suc-mul m (1000 * pause) in
      let t : ℕ = min (u + suc m * (1000 * pause)) (u + n * (1000 * pause)) in
      let (p, is, most, least) = keeps t (omega (arith, since)) (omega (arith, known, gap, whole)) in
      let (k, behind, ahead, same) : (k : ℕ) × (i < k) × (k < j) × (p ≡ frame k) = elim (stands i p before is) [
        | inl early ↦ absurd (omega (arith, early, least, one, one_at_least))
        | inr rest ↦ elim rest [
          | inl late ↦ absurd (omega (arith, late, most, whole, gap))
          | inr it ↦ it
        ]
      ] in
      record {
        message = p;
        not_after = omega (arith, most);
        not_before = λ inside. let less = mul-le-mul_right (1000 * pause) inside in omega (arith, least, less, one);
        place = k;
        behind = behind;
        ahead = ahead;
        is = same;
      }

  pub kept_pauses_are_not_silent : ((i : ℕ) → i < j → from ≤ 1000 * (windows i).upper) → (lower : Option ℕ)
      → ((x : ℕ) → lower ≡ Some x → (1000 * x ≤ to) × IsBoundAt is_message frame moment windows j x) → is_silent pause windows j lower ≡ false
  kept_pauses_are_not_silent since lower bound = elim (cases_Bool (is_silent pause windows j lower)) [
    | inr not ↦ not
    | inl is ↦
        let far = reported_silent pause windows j lower is in
        let before = far.before in
        let (known, stands) = bound far.bound far.is in
        absurd (too_many moment frame (1000 * pause) far.first j (j - far.first) (1000 * (windows far.first).upper)
        (found_at far.first (j - far.first) far.bound before (omega (arith, before)) (since far.first before) known far.gap stands)
        (omega (arith, before)) (omega (arith, before)))
  ]
