-- What is counted, with one mark more.
use Rattle.std.proofs.Common.{◌≡◌, ◌≢◌, ℕ, min, ◌+◌, ◌==◌, ◌&&◌, ◌++◌, ◌∷◌, [], List, Bool, true, false, cond, nat_eq, length, refl, sym, ap, ◌∙◌, arith}
use Rattle.std.proofs.Common.{eqb-true, Option, Some}
use Rattle.std.specs.Prelude.{unwrap_or}
use Rattle.std.proofs.lemmas.List.Elements.{filter-append}
use Rattle.std.proofs.lemmas.List.{append-nil, length_push}
use Rattle.std.specs.List.{filter}
use Rattle.std.proofs.lemmas.Bool.{ne_eqb}
use Rattle.std.specs.HashMap.{get}
use Rattle.j39_audit.specs.Counting.{Greatest, Key, Noted, greater, greatest_behind, is_same_key, key_of, most_times, never, reported_at, occurrences_with}
use Rattle.j39_audit.specs.Counting.{reported_more, occurrences_of}
use Rattle.j39_audit.specs.declared.tally.MarkTally.{MarkTally}
use Rattle.j39_audit.specs.inside.Recalling.{AreCounted}
use Rattle.j39_audit.specs.declared.tally.Occurrences.{Occurrences}

greatest_push : (w : Greatest) (l : List Noted) (n : Noted) → greatest_behind w (l ++ n ∷ []) ≡ greater (greatest_behind w l) n.line n.detail
unfolding greatest_behind
greatest_push w [] n = refl
greatest_push w (m ∷ l) n = greatest_push (greater w m.line m.detail) l n

reported_push : (l : List Noted) (n : Noted) → occurrences_of (l ++ n ∷ []) ≡ reported_more (occurrences_of l) n.line n.detail
unfolding greatest_behind
reported_push [] n = refl
reported_push (m ∷ l) n =
    let push = length_push l n in
    let begun : Greatest = (m.detail, m.line) in
    let more : min (length (l ++ n ∷ []) + 1) most_times ≡ min (min (length l + 1) most_times + 1) most_times = omega (arith, push) in
    let apart : min (length l + 1) most_times ≢ 0 = omega arith in
    let some : (min (length l + 1) most_times == 0) ≡ false = ne_eqb _ _ apart in
    rw some (ap (λ (k : ℕ). occurrences_with k m.line m.detail (greatest_behind begun (l ++ n ∷ []))) more
    ∙ ap (λ (g : Greatest). occurrences_with (min (min (length l + 1) most_times + 1) most_times) m.line m.detail g) (greatest_push begun l n))

-- where a table stays, what is counted does
pub counted_on : (a b : MarkTally) (noted : List Noted) → b.found ≡ a.found → AreCounted a noted → AreCounted b noted
counted_on a b noted same counted = λ key. ap (λ h. unwrap_or (get is_same_key h key) never) same ∙ counted key

abbrev is_at : Key → Noted → Bool
is_at key n = is_same_key (key_of n.mark) key

-- what is reported of a mark, with one that is another, and with one that is the same
pub reported_past : (noted : List Noted) (n : Noted) (key : Key) → is_same_key (key_of n.mark) key ≡ false
    → reported_at (noted ++ n ∷ []) key ≡ reported_at noted key
unfolding reported_at
reported_past noted n key other =
    ap occurrences_of (filter-append (is_at key) noted (n ∷ []) ∙ rw other (append-nil (filter (is_at key) noted)))

pub reported_here : (noted : List Noted) (n : Noted) (key : Key) → is_same_key (key_of n.mark) key ≡ true
    → reported_at (noted ++ n ∷ []) key ≡ reported_more (reported_at noted key) n.line n.detail
unfolding reported_at
reported_here noted n key same =
    ap occurrences_of (filter-append (is_at key) noted (n ∷ []) ∙ rw same refl) ∙ reported_push (filter (is_at key) noted) n

-- keys that are the same are equal
and_left : (a b : Bool) → (a && b) ≡ true → a ≡ true
and_left true b is = refl
and_left false b is = is

and_right : (a b : Bool) → (a && b) ≡ true → b ≡ true
and_right true b is = is
and_right false b is = cc is

pub same_keys : (a b : Key) → is_same_key a b ≡ true → a ≡ b
same_keys a b is =
    let both = and_left (nat_eq a.0 b.0 && nat_eq a.1 b.1) (nat_eq a.2 b.2) is in
    let word = eqb-true a.0 b.0 (and_left (nat_eq a.0 b.0) (nat_eq a.1 b.1) both) in
    let subject = eqb-true a.1 b.1 (and_right (nat_eq a.0 b.0) (nat_eq a.1 b.1) both) in
    let group = eqb-true a.2 b.2 (and_right (nat_eq a.0 b.0 && nat_eq a.1 b.1) (nat_eq a.2 b.2) is) in
    let key : ℕ → ℕ → ℕ → Key = λ w s g. (w, s, g) in
    ap (λ (w : ℕ). key w a.1 a.2) word ∙ ap (λ (s : ℕ). key b.0 s a.2) subject ∙ ap (λ (g : ℕ). key b.0 b.1 g) group

-- ---- a table

-- what a table has at a key, once this was put at that of a mark
pub settled : (same : Bool) (cell old : Option Occurrences) (new : Occurrences) (noted : List Noted) (n : Noted) (key : Key) → cell ≡ cond same (Some new) old
    → same ≡ is_same_key (key_of n.mark) key → new ≡ reported_more (reported_at noted (key_of n.mark)) n.line n.detail
    → unwrap_or old never ≡ reported_at noted key → unwrap_or cell never ≡ reported_at (noted ++ n ∷ []) key
settled true cell old new noted n key at is more before =
    ap (λ (o : Option Occurrences). unwrap_or o never) at ∙ more
    ∙ ap (λ (k : Key). reported_more (reported_at noted k) n.line n.detail) (same_keys (key_of n.mark) key (sym is)) ∙ sym (reported_here noted n key (sym is))
settled false cell old new noted n key at is more before =
    ap (λ (o : Option Occurrences). unwrap_or o never) at ∙ before ∙ sym (reported_past noted n key (sym is))
