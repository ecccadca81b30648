-- A finding is added at its place among those that are reported.
use Rattle.std.proofs.Common.{◌≡◌, ◌≢◌, ◌⊎◌, ℕ, zero, suc, ◌+◌, ◌-◌, ◌<◌, ◌≤◌, List, [], ◌∷◌, ◌++◌, Bool, true, false, inl, inr, drop, get_or, length, take}
use Rattle.std.proofs.Common.{refl, sym, ap, subst, ◌∙◌, arith}
use Rattle.std.specs.List.{Contains, insert}
use Rattle.std.proofs.lemmas.Bool.{cases_lt, false≢true}
use Rattle.std.proofs.lemmas.List.{drop_all, take-append-drop}
use Rattle.std.proofs.lemmas.List.Elements.{Contains-append_cases, Contains-append_left, Contains-append_right}
use Rattle.std.proofs.Math.Seq.{drop-cons, take-suc}
use Rattle.j39_line_findings.specs.InFile.{is_below, rank_of}
use Rattle.j39_line_findings.specs.declared.rank.Rank.{Rank}
use Rattle.j39_line_findings.proofs.Ranking.{below_through, none_below_itself, one_rank}
use Rattle.j39_line_check.specs.LineChecks.{AreReportedInOrder}
use Rattle.j39_line_check.specs.declared.answer.ReportedFinding.{ReportedFinding}
use Rattle.j39_line_check.specs.inside.Inserted.{IsReportedWith}

abbrev rank : ReportedFinding → Rank
rank t = rank_of t.finding

abbrev Below : ReportedFinding → ReportedFinding → Type 0
Below t u = is_below (rank t) (rank u) ≡ true

-- ---- membership

pub none_in : {X : Type 0} (x : X) → ¬ Contains [] x
none_in x at = let below : at.0 < 0 = at.1 in omega (arith, below)

pub first_in : {X : Type 0} (x : X) (xs : List X) → Contains (x ∷ xs) x
first_in x xs = (0, omega arith, refl)

pub later_in : {X : Type 0} (x y : X) (xs : List X) → Contains xs y → Contains (x ∷ xs) y
later_in x y xs at = Contains-append_right (x ∷ []) xs y at

pub cases_in : {X : Type 0} (x y : X) (xs : List X) → Contains (x ∷ xs) y → (y ≡ x) ⊎ Contains xs y
cases_in x y xs at = elim (Contains-append_cases (x ∷ []) xs y at) [
  | inl here ↦ inl (only x y here)
  | inr there ↦ inr there
]
  where
    only : {X : Type 0} (x y : X) → Contains (x ∷ []) y → y ≡ x
    only x y (zero, less, is) = sym is
    only x y (suc i, less, is) = absurd (omega (arith, less))

-- ---- order

ordered_right : (xs ys : List ReportedFinding) → AreReportedInOrder (xs ++ ys) → AreReportedInOrder ys
ordered_right [] ys is = is
ordered_right (x ∷ xs) ys is = ordered_right xs ys is.1

ordered_between : (xs ys : List ReportedFinding) (t u : ReportedFinding) → AreReportedInOrder (xs ++ ys) → Contains xs t → Contains ys u → Below t u
ordered_between [] ys t u is one other = absurd (none_in t one)
ordered_between (x ∷ xs) ys t u is one other = elim (cases_in x t xs one) [
  | inl first ↦ subst (λ v. Below v u) (sym first) (is.0 u (Contains-append_right xs ys u other))
  | inr later ↦ ordered_between xs ys t u is.1 later other
]

inserted : (xs ys : List ReportedFinding) (n : ReportedFinding) → AreReportedInOrder (xs ++ ys) → ((t : ReportedFinding) → Contains xs t → Below t n)
    → ((t : ReportedFinding) → Contains ys t → Below n t) → AreReportedInOrder (xs ++ n ∷ ys)
inserted [] ys n is before behind = (behind, is)
inserted (x ∷ xs) ys n is before behind = (
  λ t at. elim (Contains-append_cases xs (n ∷ ys) t at) [
    | inl left ↦ is.0 t (Contains-append_left xs ys t left)
    | inr right ↦ elim (cases_in n t ys right) [
      | inl new ↦ subst (Below x) (sym new) (before x (first_in x xs))
      | inr old ↦ is.0 t (Contains-append_right xs ys t old)
    ]
  ],
  inserted xs ys n is.1 (λ t at. before t (later_in x t xs at)) behind,
)

-- one more from behind that doesn't come before
pub one_more_behind : (reported : List ReportedFinding) (p : ℕ) (t : ReportedFinding) (r : Rank) → 0 < p → p ≤ length reported → t ≡ get_or reported (p - 1) t
    → ((u : ReportedFinding) → Contains (drop p reported) u → is_below (rank u) r ≡ false) → is_below (rank t) r ≡ false
    → (u : ReportedFinding) → Contains (drop (p - 1) reported) u → is_below (rank u) r ≡ false
one_more_behind reported p t r some inside is behind none u at =
    let k : ℕ = p - 1 in
    let p_is : suc k ≡ p = omega (arith, some) in
    let rest : drop k reported ≡ t ∷ drop p reported =
    drop-cons reported k t (omega (arith, some, inside)) ∙ ap (λ (v : ReportedFinding). v ∷ drop (suc k) reported) (sym is) ∙ ap
    (λ (m : ℕ). t ∷ drop m reported) p_is in
    elim (cases_in t u (drop p reported) (subst (λ xs. Contains xs u) rest at)) [
      | inl here ↦ subst (λ v. is_below (rank v) r ≡ false) (sym here) none
      | inr later ↦ behind u later
    ]

-- ---- where those before come before, and those behind behind

module _ (xs ys : List ReportedFinding) (n : ReportedFinding) where
  pub reported_with : (AreReportedInOrder (xs ++ ys) → (t : ReportedFinding) → Contains xs t → Below t n)
      → (AreReportedInOrder (xs ++ ys) → (t : ReportedFinding) → Contains ys t → Below n t) → IsReportedWith (xs ++ ys) n (xs ++ n ∷ ys)
  reported_with before behind = record {
    in_order = λ is. inserted xs ys n is (before is) (behind is);
    sound = λ t at. elim (Contains-append_cases xs (n ∷ ys) t at) [
      | inl left ↦ inl (Contains-append_left xs ys t left)
      | inr right ↦ elim (cases_in n t ys right) [
        | inl new ↦ inr new
        | inr old ↦ inl (Contains-append_right xs ys t old)
      ]
    ];
    kept = λ t at. elim (Contains-append_cases xs ys t at) [
      | inl left ↦ Contains-append_left xs (n ∷ ys) t left
      | inr right ↦ Contains-append_right xs (n ∷ ys) t (later_in n t ys right)
    ];
    is_reported = λ is. (n, Contains-append_right xs (n ∷ ys) n (first_in n ys), refl);
  }

pub reported_already : (reported : List ReportedFinding) (n t : ReportedFinding) → Contains reported t → rank t ≡ rank n → IsReportedWith reported n reported
reported_already reported n t at same = record {
  in_order = λ is. is;
  sound = λ u in_it. inl in_it;
  kept = λ u in_it. in_it;
  is_reported = λ is. (t, at, same);
}

-- ---- at a place

module _ (reported : List ReportedFinding) (p : ℕ) (n : ReportedFinding) (inside : p ≤ length reported)
    (before : 0 < p → is_below (rank (get_or reported (p - 1) n)) (rank n) ≡ true)
    (behind : (t : ReportedFinding) → Contains (drop p reported) t → is_below (rank t) (rank n) ≡ false) where
  -- the last before the place comes before, so all do
  all_before : AreReportedInOrder reported → (t : ReportedFinding) → Contains (take p reported) t → Below t n
  all_before is t at = elim (cases_lt 0 p) [
    | inr none ↦
        let p_is : p ≡ 0 = omega (arith, none) in
        absurd (none_in t (subst (λ k. Contains (take k reported) t) p_is at))
    | inl some ↦
        let k : ℕ = p - 1 in
        let p_is : p ≡ suc k = omega (arith, some) in
        let below : k < length reported = omega (arith, some, inside) in
        let last : ReportedFinding = get_or reported k n in
        let front : take p reported ≡ take k reported ++ last ∷ [] = ap (λ m. take m reported) p_is ∙ take-suc reported k n below in
        let whole : reported ≡ take k reported ++ drop k reported = sym (take-append-drop k reported) in
        let rest : drop k reported ≡ last ∷ drop (suc k) reported = drop-cons reported k n below in
        let ordered : AreReportedInOrder (take k reported ++ last ∷ drop (suc k) reported) = subst AreReportedInOrder
        (whole ∙ ap (λ ys. take k reported ++ ys) rest) is in
        elim (Contains-append_cases (take k reported) (last ∷ []) t (subst (λ xs. Contains xs t) front at)) [
          | inl earlier ↦
              below_through (rank t) (rank last) (rank n)
              (ordered_between (take k reported) (last ∷ drop (suc k) reported) t last ordered earlier (first_in last (drop (suc k) reported))) (before some)
          | inr here ↦ elim (cases_in last t [] here) [
            | inl is_last ↦ subst (λ u. Below u n) (sym is_last) (before some)
            | inr none ↦ absurd (none_in t none)
          ]
        ]
  ]

  -- the one at the place comes behind, so all from there on do
  all_behind : (p < length reported → is_below (rank n) (rank (get_or reported p n)) ≡ true) → AreReportedInOrder reported → (t : ReportedFinding)
      → Contains (drop p reported) t → Below n t
  all_behind next is t at = elim (cases_lt p (length reported)) [
    | inr over ↦ absurd (none_in t (subst (λ xs. Contains xs t) (drop_all p reported over) at))
    | inl less ↦
        let e : ReportedFinding = get_or reported p n in
        let rest : drop p reported ≡ e ∷ drop (suc p) reported = drop-cons reported p n less in
        let ordered : AreReportedInOrder (e ∷ drop (suc p) reported) = subst AreReportedInOrder rest
        (ordered_right (take p reported) (drop p reported) (subst AreReportedInOrder (sym (take-append-drop p reported)) is)) in
        elim (cases_in e t (drop (suc p) reported) (subst (λ xs. Contains xs t) rest at)) [
          | inl here ↦ subst (Below n) (sym here) (next less)
          | inr later ↦ below_through (rank n) (rank e) (rank t) (next less) (ordered.0 t later)
        ]
  ]

  pub added : (p < length reported → is_below (rank n) (rank (get_or reported p n)) ≡ true) → IsReportedWith reported n (insert reported p n)
  added next =
      let whole : take p reported ++ drop p reported ≡ reported = take-append-drop p reported in
      subst (λ old. IsReportedWith old n (take p reported ++ n ∷ drop p reported)) whole
      (reported_with (take p reported) (drop p reported) n (λ is. all_before (subst AreReportedInOrder whole is))
      (λ is. all_behind next (subst AreReportedInOrder whole is)))

  pub known : p < length reported → is_below (rank n) (rank (get_or reported p n)) ≡ false → IsReportedWith reported n reported
  known less not_next =
      let e : ReportedFinding = get_or reported p n in
      let rest : drop p reported ≡ e ∷ drop (suc p) reported = drop-cons reported p n less in
      let here : Contains (drop p reported) e = subst (λ xs. Contains xs e) (sym rest) (first_in e (drop (suc p) reported)) in
      let in_reported : Contains reported e = subst (λ xs. Contains xs e) (take-append-drop p reported)
      (Contains-append_right (take p reported) (drop p reported) e here) in
      reported_already reported n e in_reported (one_rank (rank e) (rank n) (behind e here) not_next)
