-- Findings are added one after the other, each with its best witness.
use Rattle.std.proofs.Common.{◌≡◌, ℕ, zero, suc, ◌+◌, ◌<◌, ◌⊎◌, List, [], ◌∷◌, ◌++◌, true, false, inl, inr, drop, get_or, length, set, take, refl, sym, ap}
use Rattle.std.proofs.Common.{subst, ◌∙◌, arith}
use Rattle.std.proofs.lemmas.Bool.{cases_Bool, cases_lt, false≢true}
use Rattle.std.proofs.lemmas.List.{drop_all, take-append-drop, take_more}
use Rattle.std.proofs.Math.Seq.{drop-cons}
use Rattle.std.specs.List.{insert}
use Rattle.j39_line_findings.specs.Best.{AreBest, AreInOrder, IsWitnessAmong, IsReportedBefore, is_better, rank_in}
use Rattle.j39_line_findings.specs.InFile.{is_below}
use Rattle.j39_line_findings.specs.declared.rank.Rank.{Rank}
use Rattle.j39_line_findings.specs.declared.witnessed.Witnessed.{Witnessed}
use Rattle.j39_line_findings.proofs.OneOf.{one_cases, one_left, one_right}
use Rattle.j39_line_findings.proofs.Ranking.{below_through, better_through, none_below_itself, none_better_itself}

among_last : (all : List Witnessed) (n x : Witnessed) → IsWitnessAmong (all ++ n ∷ []) x → IsWitnessAmong all x ⊎ (n ≡ x)
among_last all n x is = elim (one_cases all (n ∷ []) x is) [
  | inl old ↦ inl old
  | inr (inl new) ↦ inr new
  | inr (inr none) ↦ absurd none
]

-- ---- order

ordered_right : (xs ys : List Witnessed) → AreInOrder (xs ++ ys) → AreInOrder ys
ordered_right [] ys is = is
ordered_right (x ∷ xs) ys is = ordered_right xs ys is.1

ordered_between : (xs ys : List Witnessed) (w x : Witnessed) → AreInOrder (xs ++ ys) → IsWitnessAmong xs w → IsWitnessAmong ys x → IsReportedBefore w x
ordered_between [] ys w x is one other = absurd one
ordered_between (v ∷ xs) ys w x is (inl one) other = subst (λ u. IsReportedBefore u x) one (is.0 x (one_right xs ys x other))
ordered_between (v ∷ xs) ys w x is (inr one) other = ordered_between xs ys w x is.1 one other

inserted : (xs ys : List Witnessed) (n : Witnessed) → AreInOrder (xs ++ ys) → ((w : Witnessed) → IsWitnessAmong xs w → IsReportedBefore w n)
    → ((w : Witnessed) → IsWitnessAmong ys w → IsReportedBefore n w) → AreInOrder (xs ++ n ∷ ys)
inserted [] ys n is before behind = (behind, is)
inserted (v ∷ xs) ys n is before behind = (
  λ x at. elim (one_cases xs (n ∷ ys) x at) [
    | inl left ↦ is.0 x (one_left xs ys x left)
    | inr (inl new) ↦ subst (IsReportedBefore v) new (before v (inl refl))
    | inr (inr right) ↦ is.0 x (one_right xs ys x right)
  ],
  inserted xs ys n is.1 (λ w at. before w (inr at)) behind,
)

before_by : (w d n : Witnessed) → rank_in d ≡ rank_in n → IsReportedBefore w d → IsReportedBefore w n
before_by w d n same is = subst (λ r. is_below (rank_in w) r ≡ true) same is

behind_by : (w d n : Witnessed) → rank_in d ≡ rank_in n → IsReportedBefore d w → IsReportedBefore n w
behind_by w d n same is = subst (λ r. is_below r (rank_in w) ≡ true) same is

replaced : (xs ys : List Witnessed) (d n : Witnessed) → AreInOrder (xs ++ d ∷ ys) → rank_in d ≡ rank_in n → AreInOrder (xs ++ n ∷ ys)
replaced [] ys d n is same = (λ x at. behind_by x d n same (is.0 x at), is.1)
replaced (v ∷ xs) ys d n is same = (
  λ x at. elim (one_cases xs (n ∷ ys) x at) [
    | inl left ↦ is.0 x (one_left xs (d ∷ ys) x left)
    | inr (inl new) ↦ subst (IsReportedBefore v) new (before_by v d n same (is.0 d (one_right xs (d ∷ ys) d (inl refl))))
    | inr (inr right) ↦ is.0 x (one_right xs (d ∷ ys) x (inr right))
  ],
  replaced xs ys d n is.1 same,
)

apart : (w x : Witnessed) → rank_in w ≡ rank_in x → IsReportedBefore w x → ⊥
apart w x same is = none_below_itself (rank_in x) (subst (λ r. is_below r (rank_in x) ≡ true) same is)

-- one of a rank
only : (xs ys : List Witnessed) (d w : Witnessed) → AreInOrder (xs ++ d ∷ ys) → rank_in w ≡ rank_in d → IsWitnessAmong (xs ++ d ∷ ys) w → d ≡ w
only xs ys d w is same at = elim (one_cases xs (d ∷ ys) w at) [
  | inl left ↦ absurd (apart w d same (ordered_between xs (d ∷ ys) w d is left (inl refl)))
  | inr (inl here) ↦ here
  | inr (inr right) ↦ absurd (apart d w (sym same) ((ordered_right xs (d ∷ ys) is).0 w right))
]

-- ---- one more

-- of a rank that none has
pub insert_best : (all xs ys : List Witnessed) (n : Witnessed) → AreBest all (xs ++ ys) → ((w : Witnessed) → IsWitnessAmong xs w → IsReportedBefore w n)
    → ((w : Witnessed) → IsWitnessAmong ys w → IsReportedBefore n w) → AreBest (all ++ n ∷ []) (xs ++ n ∷ ys)
insert_best all xs ys n is before behind =
    let other : (w : Witnessed) → IsWitnessAmong (xs ++ ys) w → rank_in n ≡ rank_in w → ⊥ = λ w at same. elim (one_cases xs ys w at) [
      | inl left ↦ apart w n (sym same) (before w left)
      | inr right ↦ apart n w same (behind w right)
    ] in
    let old : (w : Witnessed) → IsWitnessAmong (xs ++ n ∷ ys) w → IsWitnessAmong (xs ++ ys) w ⊎ (n ≡ w) = λ w at. elim (one_cases xs (n ∷ ys) w at) [
      | inl left ↦ inl (one_left xs ys w left)
      | inr (inl new) ↦ inr new
      | inr (inr right) ↦ inl (one_right xs ys w right)
    ] in
    let stays : (w : Witnessed) → IsWitnessAmong (xs ++ ys) w → IsWitnessAmong (xs ++ n ∷ ys) w = λ w at. elim (one_cases xs ys w at) [
      | inl left ↦ one_left xs (n ∷ ys) w left
      | inr right ↦ one_right xs (n ∷ ys) w (inr right)
    ] in
    record {
      sound = λ w at. elim (old w at) [
        | inl reported ↦ one_left all (n ∷ []) w (is.sound w reported)
        | inr new ↦ one_right all (n ∷ []) w (inl new)
      ];
      best = λ w x at is_of same. elim (old w at) [
        | inl reported ↦ elim (among_last all n x is_of) [
          | inl known ↦ is.best w x reported known same
          | inr new ↦ absurd (other w reported (ap rank_in new ∙ same))
        ]
        | inr first ↦ elim (among_last all n x is_of) [
          | inl known ↦
              let found = is.complete x known in
              absurd (other found.0 found.1 (ap rank_in first ∙ sym same ∙ sym found.2))
          | inr new ↦ subst (λ v. is_better v w ≡ false) (sym first ∙ new) (none_better_itself w)
        ]
      ];
      complete = λ x is_of. elim (among_last all n x is_of) [
        | inl known ↦ let found = is.complete x known in (found.0, stays found.0 found.1, found.2)
        | inr new ↦ (n, one_right xs (n ∷ ys) n (inl refl), ap rank_in new)
      ];
      in_order = inserted xs ys n is.in_order before behind;
    }

-- a better one
pub replace_best : (all xs ys : List Witnessed) (d n : Witnessed) → AreBest all (xs ++ d ∷ ys) → rank_in d ≡ rank_in n → is_better n d ≡ true
    → AreBest (all ++ n ∷ []) (xs ++ n ∷ ys)
replace_best all xs ys d n is rank better =
    let old : (w : Witnessed) → IsWitnessAmong (xs ++ n ∷ ys) w → (IsWitnessAmong (xs ++ d ∷ ys) w × (rank_in w ≡ rank_in n → ⊥)) ⊎ (n ≡ w) =
    λ w at. elim (one_cases xs (n ∷ ys) w at) [
      | inl left ↦
          inl
          (one_left xs (d ∷ ys) w left, λ same. apart w d (same ∙ sym rank) (ordered_between xs (d ∷ ys) w d is.in_order left (inl refl)))
      | inr (inl new) ↦ inr new
      | inr (inr right) ↦
          inl
          (one_right xs (d ∷ ys) w (inr right), λ same. apart d w (rank ∙ sym same) ((ordered_right xs (d ∷ ys) is.in_order).0 w right))
    ] in
    let beaten : (x : Witnessed) → IsWitnessAmong all x → rank_in x ≡ rank_in n → is_better x n ≡ false = λ x known same. elim (cases_Bool (is_better x n)) [
      | inl beats ↦
          let none = is.best d x (one_right xs (d ∷ ys) d (inl refl)) known (same ∙ sym rank) in
          absurd (false≢true (sym none ∙ better_through x n d beats better))
      | inr not_so ↦ not_so
    ] in
    record {
      sound = λ w at. elim (old w at) [
        | inl (reported, other) ↦ one_left all (n ∷ []) w (is.sound w reported)
        | inr new ↦ one_right all (n ∷ []) w (inl new)
      ];
      best = λ w x at is_of same. elim (old w at) [
        | inl (reported, other) ↦ elim (among_last all n x is_of) [
          | inl known ↦ is.best w x reported known same
          | inr new ↦ absurd (other (sym same ∙ sym (ap rank_in new)))
        ]
        | inr first ↦ elim (among_last all n x is_of) [
          | inl known ↦ subst (λ v. is_better x v ≡ false) first (beaten x known (same ∙ sym (ap rank_in first)))
          | inr new ↦ subst (λ v. is_better v w ≡ false) (sym first ∙ new) (none_better_itself w)
        ]
      ];
      complete = λ x is_of. elim (among_last all n x is_of) [
        | inl known ↦
            let found = is.complete x known in
            elim (one_cases xs (d ∷ ys) found.0 found.1) [
              | inl left ↦ (found.0, one_left xs (n ∷ ys) found.0 left, found.2)
              | inr (inl here) ↦ (n, one_right xs (n ∷ ys) n (inl refl), sym rank ∙ ap rank_in here ∙ found.2)
              | inr (inr right) ↦ (found.0, one_right xs (n ∷ ys) found.0 (inr right), found.2)
            ]
        | inr new ↦ (n, one_right xs (n ∷ ys) n (inl refl), ap rank_in new)
      ];
      in_order = replaced xs ys d n is.in_order rank;
    }

-- one that isn't better
pub keep_best : (all xs ys : List Witnessed) (d n : Witnessed) → AreBest all (xs ++ d ∷ ys) → rank_in d ≡ rank_in n → is_better n d ≡ false
    → AreBest (all ++ n ∷ []) (xs ++ d ∷ ys)
keep_best all xs ys d n is rank worse =
    record {
      sound = λ w at. one_left all (n ∷ []) w (is.sound w at);
      best = λ w x at is_of same. elim (among_last all n x is_of) [
        | inl known ↦ is.best w x at known same
        | inr new ↦
            let here : d ≡ w = only xs ys d w is.in_order (sym same ∙ sym (ap rank_in new) ∙ sym rank) at in
            subst (λ v. is_better x v ≡ false) here (subst (λ v. is_better v d ≡ false) new worse)
      ];
      complete = λ x is_of. elim (among_last all n x is_of) [
        | inl known ↦ is.complete x known
        | inr new ↦ (d, one_right xs (d ∷ ys) d (inl refl), rank ∙ ap rank_in new)
      ];
      in_order = is.in_order;
    }

-- ---- at a place

pub set_split : (xs : List Witnessed) (i : ℕ) (n : Witnessed) → i < length xs → set xs i n ≡ take i xs ++ n ∷ drop (suc i) xs
set_split [] i n below = absurd (omega arith)
set_split (x ∷ xs) zero n below = refl
set_split (x ∷ xs) (suc i) n below = ap (λ ys. x ∷ ys) (set_split xs i n (omega arith))

-- those behind the first one of these come behind what comes before it
pub behind_all : (xs ys : List Witnessed) (d n : Witnessed) → AreInOrder (xs ++ d ∷ ys) → IsReportedBefore n d → (w : Witnessed) → IsWitnessAmong (d ∷ ys) w
    → IsReportedBefore n w
behind_all xs ys d n is before w (inl here) = subst (IsReportedBefore n) here before
behind_all xs ys d n is before w (inr right) =
    below_through (rank_in n) (rank_in d) (rank_in w) before ((ordered_right xs (d ∷ ys) is).0 w right)

-- ---- the one that is added

module _ (all reported : List Witnessed) (p : ℕ) (n : Witnessed) (is : AreBest all reported) where
  split : p < length reported → reported ≡ take p reported ++ get_or reported p n ∷ drop (suc p) reported
  split less = sym (take-append-drop p reported) ∙ ap (λ ys. take p reported ++ ys) (drop-cons reported p n less)

  best_split : (less : p < length reported) → AreBest all (take p reported ++ get_or reported p n ∷ drop (suc p) reported)
  best_split less = subst (AreBest all) (split less) is

  pub insert_at : ((w : Witnessed) → IsWitnessAmong (take p reported) w → IsReportedBefore w n)
      → (p < length reported → IsReportedBefore n (get_or reported p n))
      → AreBest (all ++ n ∷ []) (insert reported p n)
  insert_at before next =
      let whole : AreBest all (take p reported ++ drop p reported) = subst (AreBest all) (sym (take-append-drop p reported)) is in
      insert_best all (take p reported) (drop p reported) n whole before (λ w at. elim (cases_lt p (length reported)) [
        | inl less ↦
            behind_all (take p reported) (drop (suc p) reported) (get_or reported p n) n (best_split less).in_order (next less) w
            (subst (λ ys. IsWitnessAmong ys w) (drop-cons reported p n less) at)
        | inr none ↦ absurd (subst (λ ys. IsWitnessAmong ys w) (drop_all p reported none) at)
      ])

  pub replace_at : p < length reported → rank_in (get_or reported p n) ≡ rank_in n → is_better n (get_or reported p n) ≡ true
      → AreBest (all ++ n ∷ []) (set reported p n)
  replace_at less same better =
      subst (AreBest (all ++ n ∷ [])) (sym (set_split reported p n less))
      (replace_best all (take p reported) (drop (suc p) reported) (get_or reported p n) n (best_split less) same better)

  pub keep_at : p < length reported → rank_in (get_or reported p n) ≡ rank_in n → is_better n (get_or reported p n) ≡ false → AreBest (all ++ n ∷ []) reported
  keep_at less same worse =
      subst (AreBest (all ++ n ∷ [])) (sym (split less))
      (keep_best all (take p reported) (drop (suc p) reported) (get_or reported p n) n (best_split less) same worse)

-- one more of those that come before a rank
pub one_more_before : (reported : List Witnessed) (i : ℕ) (d : Witnessed) (r : Rank) → i < length reported
    → ((w : Witnessed) → IsWitnessAmong (take i reported) w → is_below (rank_in w) r ≡ true) → is_below (rank_in (get_or reported i d)) r ≡ true
    → (w : Witnessed) → IsWitnessAmong (take (i + 1) reported) w → is_below (rank_in w) r ≡ true
one_more_before reported i d r less before here w at =
    elim (one_cases (take i reported) (get_or reported i d ∷ []) w (subst (λ xs. IsWitnessAmong xs w) (take_more reported i d less) at)) [
      | inl old ↦ before w old
      | inr (inl same) ↦ subst (λ x. is_below (rank_in x) r ≡ true) same here
      | inr (inr none) ↦ absurd none
    ]
