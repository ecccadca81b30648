-- What a cutter yields of a text is the lines of the text.
use Rattle.std.proofs.Common.{◌≡◌, ◌≢◌, ℕ, ◌+◌, ◌==◌, ◌<◌, ◌≤◌, true, false, if◌then◌else◌, List, [], ◌∷◌, ◌++◌, length, map, count_by, take, drop, get_or}
use Rattle.std.proofs.Common.{refl, sym, ap, ◌∙◌, inl, inr, arith, add-one, eqb-true, eq-eqb, length-append}
use Rattle.std.specs.Prelude.{nat_lt}
use Rattle.std.specs.List.{All, slice_index, slice_split, onto_first}
use Rattle.std.proofs.Math.Seq.{take-suc}
use Rattle.std.proofs.lemmas.Bool.{cases_Bool, eqb-false, ne_eqb, lt-ltb, le-ltb}
use Rattle.std.proofs.lemmas.List.{append_assoc, append-nil, take_all, length-take-le}
use Rattle.std.proofs.lemmas.List.Elements.{All-head, All-tail, All-cons, All-append, All-take, All-get_or}
use Rattle.std.proofs.lemmas.List.Splits.{slice_split-cons_no, slice_split_at, slice_split_none, length-slice_split}
use Rattle.j39_id.specs.Lines.{line_limit, is_line_feed, Line, Short, Long, line_of, without_empty_end, lines, Pending, at_start, answer_to, behind, yields}
use Rattle.j39_id.specs.Lines.{yielded, behind_all, yielded_at_end}
use Rattle.j39_id.specs.declared.cut.Cut.{Cut}
use Rattle.j39_id.specs.declared.cut.Cut.TheVariants as cuts

-- no line feed is among the bytes
abbrev pub NoFeed : List ℕ → Type 0
NoFeed bytes = All (λ b. is_line_feed b ≡ false) bytes

abbrev pub inside : List ℕ → Pending
inside bytes = record { held = bytes; reported_long = false }

abbrev pub beyond : List ℕ → Pending
beyond bytes = record { held = bytes; reported_long = true }

no_feed-one : (q : List ℕ) (b : ℕ) → NoFeed q → is_line_feed b ≡ false → NoFeed (q ++ b ∷ [])
no_feed-one q b none other =
    All-append (λ c. is_line_feed c ≡ false) q (b ∷ []) none (All-cons (λ c. is_line_feed c ≡ false) b [] other (λ k d below. absurd (omega arith)))

-- ---- pieces

pub yielded-append : (p : Pending) (front back : List ℕ) → yielded p (front ++ back) ≡ yielded p front ++ yielded (behind_all p front) back
yielded-append p [] back = refl
yielded-append p (b ∷ bs) back =
    ap (λ (u : List Line). yields (answer_to p b) p.held ++ u) (yielded-append (behind p b) bs back)
    ∙ sym (append_assoc (yields (answer_to p b) p.held) (yielded (behind p b) bs) (yielded (behind_all (behind p b) bs) back))

pub behind_all-append : (p : Pending) (front back : List ℕ) → behind_all p (front ++ back) ≡ behind_all (behind_all p front) back
behind_all-append p [] back = refl
behind_all-append p (b ∷ bs) back = behind_all-append (behind p b) bs back

-- ---- the lines of a text that begins with a part of a line

some_first : (parts : List (List ℕ)) (n : ℕ) → length parts ≡ n + 1 → (q : List ℕ) × (qs : List (List ℕ)) × (parts ≡ q ∷ qs)
some_first [] n e = absurd (omega arith)
some_first (q ∷ qs) n e = (q, qs, refl)

split_some : (ys : List ℕ) → (q : List ℕ) × (qs : List (List ℕ)) × (slice_split is_line_feed ys ≡ q ∷ qs)
split_some ys = some_first (slice_split is_line_feed ys) (count_by is_line_feed ys) (length-slice_split is_line_feed ys)

split_front : (xs ys q : List ℕ) (qs : List (List ℕ)) → NoFeed xs → slice_split is_line_feed ys ≡ q ∷ qs → slice_split is_line_feed (xs ++ ys) ≡ (xs ++ q) ∷ qs
split_front [] ys q qs none e = e
split_front (x ∷ xs) ys q qs none e =
    slice_split-cons_no is_line_feed x (xs ++ ys) (All-head (λ b. is_line_feed b ≡ false) x xs none)
    ∙ ap (onto_first x) (split_front xs ys q qs (All-tail (λ b. is_line_feed b ≡ false) x xs none) e)

-- a part above the limit begins a long line
first_long : (xs q : List ℕ) (qs : List (List ℕ)) → line_limit < length xs
    → (rest : List Line) × (map line_of (without_empty_end ((xs ++ q) ∷ qs)) ≡ Long ∷ rest)
first_long xs q [] above =
    let size : length (xs ++ q) ≡ length xs + length q = length-append xs q in
    let some : nat_lt 0 (length (xs ++ q)) ≡ true = lt-ltb 0 (length (xs ++ q)) (omega arith) in
    let long : nat_lt line_limit (length (xs ++ q)) ≡ true = lt-ltb line_limit (length (xs ++ q)) (omega arith) in
    ([], rw (some, long) refl)
first_long xs q (r ∷ rs) above =
    let size : length (xs ++ q) ≡ length xs + length q = length-append xs q in
    let long : nat_lt line_limit (length (xs ++ q)) ≡ true = lt-ltb line_limit (length (xs ++ q)) (omega arith) in
    (map line_of (without_empty_end (r ∷ rs)), rw (long) refl)

long_first : (xs ys : List ℕ) → NoFeed xs → line_limit < length xs → (rest : List Line) × (lines (xs ++ ys) ≡ Long ∷ rest)
unfolding lines
long_first xs ys none above =
    let parts = split_some ys in
    let long = first_long xs parts.0 parts.1 above in
    (long.0, ap (λ (all : List (List ℕ)). map line_of (without_empty_end all)) (split_front xs ys parts.0 parts.1 none parts.2) ∙ long.1)

-- a line feed ends it
line_ended : (part : List ℕ) (parts : List (List ℕ)) (n : ℕ) → length parts ≡ n + 1 → without_empty_end (part ∷ parts) ≡ part ∷ without_empty_end parts
line_ended part [] n e = absurd (omega arith)
line_ended part (next ∷ parts) n e = refl

lines_at : (q : List ℕ) (b : ℕ) (bs : List ℕ) → NoFeed q → is_line_feed b ≡ true → lines (q ++ b ∷ bs) ≡ line_of q ∷ lines bs
unfolding lines
lines_at q b bs none feed =
    ap (λ (parts : List (List ℕ)). map line_of (without_empty_end parts)) (slice_split_at is_line_feed q b bs none feed)
    ∙ ap (map line_of) (line_ended q (slice_split is_line_feed bs) (count_by is_line_feed bs) (length-slice_split is_line_feed bs))

-- a part without a line feed is the last line, if it isn't empty
lines_none : (q : List ℕ) → NoFeed q → lines q ≡ map line_of (if nat_lt 0 (length q) then q ∷ [] else [])
unfolding lines
lines_none q none = ap (λ (parts : List (List ℕ)). map line_of (without_empty_end parts)) (slice_split_none is_line_feed q none)

short_line : (q : List ℕ) → length q ≤ line_limit → line_of q ≡ Short q
short_line q room = let fits : nat_lt line_limit (length q) ≡ false = le-ltb line_limit (length q) room in rw fits refl

long_line : (q : List ℕ) → line_limit < length q → line_of q ≡ Long
long_line q above = let long : nat_lt line_limit (length q) ≡ true = lt-ltb line_limit (length q) above in rw long refl

-- ---- what is reported from within a line

-- all that a cutter yields of a text and its end
abbrev all_yielded : Pending → List ℕ → List Line
all_yielded p text = yielded p text ++ yielded_at_end (behind_all p text)

abbrev YieldsInside : List ℕ → Type 0
YieldsInside text = (q : List ℕ) → NoFeed q → length q ≤ line_limit → all_yielded (inside q) text ≡ lines (q ++ text)

abbrev YieldsBeyond : List ℕ → Type 0
YieldsBeyond text = (h q : List ℕ) → NoFeed q → line_limit < length q → all_yielded (beyond h) text ≡ drop 1 (lines (q ++ text))

end_inside : YieldsInside []
end_inside q none room =
    elim (cases_Bool (nat_lt 0 (length q))) [
      | inl some ↦
          let all : lines (q ++ []) ≡ Short q ∷ [] = rw (append-nil) (lines_none q none ∙ rw some (ap (λ (l : Line). l ∷ []) (short_line q room))) in
          rw some (sym all)
      | inr empty ↦
          let all : lines (q ++ []) ≡ [] = rw (append-nil) (lines_none q none ∙ rw empty refl) in
          rw empty (sym all)
    ]

end_beyond : YieldsBeyond []
end_beyond h q none above =
    let some : nat_lt 0 (length q) ≡ true = lt-ltb 0 (length q) (omega arith) in
    let all : lines (q ++ []) ≡ Long ∷ [] = rw (append-nil) (lines_none q none ∙ rw some (ap (λ (l : Line). l ∷ []) (long_line q above))) in
    ap (drop 1) (sym all)

-- ---- a byte

-- a byte, and then the rest
yielded_next : (p : Pending) (b : ℕ) (bs : List ℕ) (cut : Cut) (next : Pending) → answer_to p b ≡ cut → behind p b ≡ next
    → all_yielded p (b ∷ bs) ≡ yields cut p.held ++ all_yielded next bs
yielded_next p b bs cut next a n =
    append_assoc (yields (answer_to p b) p.held) (yielded (behind p b) bs) (yielded_at_end (behind_all (behind p b) bs))
    ∙ ap (λ (c : Cut). yields c p.held ++ all_yielded (behind p b) bs) a
    ∙ ap (λ (m : Pending). yields cut p.held ++ all_yielded m bs) n

behind_feed : (p : Pending) (b : ℕ) → is_line_feed b ≡ true → behind p b ≡ at_start
behind_feed p b feed = rw feed refl

inside_feed : (q : List ℕ) (b : ℕ) → is_line_feed b ≡ true → answer_to (inside q) b ≡ cuts.Line
inside_feed q b feed = rw feed refl

inside_full : (q : List ℕ) (b : ℕ) → is_line_feed b ≡ false → length q ≡ line_limit → (answer_to (inside q) b ≡ cuts.Long) × (behind (inside q) b ≡ beyond q)
inside_full q b other is = let full : (length q == line_limit) ≡ true = eq-eqb (length q) line_limit is in (rw (other, full) refl, rw (other, full) refl)

inside_more : (q : List ℕ) (b : ℕ) → is_line_feed b ≡ false → length q ≢ line_limit
    → (answer_to (inside q) b ≡ cuts.More) × (behind (inside q) b ≡ inside (q ++ b ∷ []))
inside_more q b other below =
    let left : (length q == line_limit) ≡ false = ne_eqb (length q) line_limit below in
    (rw (other, left) refl, rw (other, left) refl)

beyond_more : (h : List ℕ) (b : ℕ) → is_line_feed b ≡ false → behind (beyond h) b ≡ beyond h
beyond_more h b other = rw other refl

next_inside : (b : ℕ) (bs : List ℕ) → YieldsInside bs → YieldsBeyond bs → YieldsInside (b ∷ bs)
next_inside b bs shorter longer q none room =
    elim (cases_Bool (is_line_feed b)) [
      | inl feed ↦
          let rest : all_yielded at_start bs ≡ lines bs = shorter [] (λ k d below. absurd (omega arith)) (omega arith) in
          yielded_next (inside q) b bs cuts.Line at_start (inside_feed q b feed) (behind_feed (inside q) b feed)
          ∙ ap (λ (u : List Line). Short q ∷ u) rest
          ∙ sym (lines_at q b bs none feed ∙ ap (λ (l : Line). l ∷ lines bs) (short_line q room))
      | inr other ↦
          let more : NoFeed (q ++ b ∷ []) = no_feed-one q b none other in
          let size : length (q ++ b ∷ []) ≡ length q + 1 = length-append q (b ∷ []) in
          let same : (q ++ b ∷ []) ++ bs ≡ q ++ b ∷ bs = append_assoc q (b ∷ []) bs in
          elim (cases_Bool (length q == line_limit)) [
            | inl full ↦
                let is : length q ≡ line_limit = eqb-true (length q) line_limit full in
                let long = long_first (q ++ b ∷ []) bs more (omega arith) in
                let rest : all_yielded (beyond q) bs ≡ long.0 = longer q (q ++ b ∷ []) more (omega arith) ∙ ap (drop 1) long.1 in
                let here = inside_full q b other is in
                yielded_next (inside q) b bs cuts.Long (beyond q) here.0 here.1 ∙ ap (λ (u : List Line). Long ∷ u) rest ∙ sym long.1 ∙ ap lines same
            | inr left ↦
                let below : length q ≢ line_limit = eqb-false (length q) line_limit left in
                let here = inside_more q b other below in
                yielded_next (inside q) b bs cuts.More (inside (q ++ b ∷ [])) here.0 here.1 ∙ shorter (q ++ b ∷ []) more (omega arith) ∙ ap lines same
          ]
    ]

next_beyond : (b : ℕ) (bs : List ℕ) → YieldsInside bs → YieldsBeyond bs → YieldsBeyond (b ∷ bs)
next_beyond b bs shorter longer h q none above =
    elim (cases_Bool (is_line_feed b)) [
      | inl feed ↦
          let rest : all_yielded at_start bs ≡ lines bs = shorter [] (λ k d below. absurd (omega arith)) (omega arith) in
          yielded_next (beyond h) b bs cuts.More at_start refl (behind_feed (beyond h) b feed) ∙ rest ∙ sym (ap (drop 1) (lines_at q b bs none feed))
      | inr other ↦
          let more : NoFeed (q ++ b ∷ []) = no_feed-one q b none other in
          let size : length (q ++ b ∷ []) ≡ length q + 1 = length-append q (b ∷ []) in
          let same : (q ++ b ∷ []) ++ bs ≡ q ++ b ∷ bs = append_assoc q (b ∷ []) bs in
          yielded_next (beyond h) b bs cuts.More (beyond h) refl (beyond_more h b other)
          ∙ longer h (q ++ b ∷ []) more (omega arith) ∙ ap (λ (t : List ℕ). drop 1 (lines t)) same
    ]

yields_both : (text : List ℕ) → YieldsInside text × YieldsBeyond text
yields_both [] = (end_inside, end_beyond)
yields_both (b ∷ bs) =
    let rest = yields_both bs in
    (next_inside b bs rest.0 rest.1, next_beyond b bs rest.0 rest.1)

pub yields_lines : (text : List ℕ) → yielded at_start text ++ yielded_at_end (behind_all at_start text) ≡ lines text
yields_lines text = (yields_both text).0 [] (λ k d below. absurd (omega arith)) (omega arith)

-- ---- what is reported of bytes without a line feed

-- a byte that ends nothing, and then the rest
quiet_next : (p : Pending) (b : ℕ) (bs : List ℕ) (next : Pending) → answer_to p b ≡ cuts.More → behind p b ≡ next
    → (yielded p (b ∷ bs) ≡ yielded next bs) × (behind_all p (b ∷ bs) ≡ behind_all next bs)
quiet_next p b bs next a n = (
  ap (λ (c : Cut). yields c p.held ++ yielded (behind p b) bs) a ∙ ap (λ (m : Pending). yielded m bs) n,
  ap (λ (m : Pending). behind_all m bs) n,
)

-- where they fit
pub yielded_inside : (q xs : List ℕ) → NoFeed xs → length q + length xs ≤ line_limit → (yielded (inside q) xs ≡ []) × (behind_all (inside q) xs ≡ inside (q ++ xs))
yielded_inside q [] none room = (refl, ap inside (sym (append-nil q)))
yielded_inside q (x ∷ xs) none room =
    let other : is_line_feed x ≡ false = All-head (λ b. is_line_feed b ≡ false) x xs none in
    let here = inside_more q x other (λ e. absurd (omega arith)) in
    let size : length (q ++ x ∷ []) ≡ length q + 1 = length-append q (x ∷ []) in
    let next = quiet_next (inside q) x xs (inside (q ++ x ∷ [])) here.0 here.1 in
    let rest = yielded_inside (q ++ x ∷ []) xs (All-tail (λ b. is_line_feed b ≡ false) x xs none) (omega arith) in
    (next.0 ∙ rest.0, next.1 ∙ rest.1 ∙ ap inside (append_assoc q (x ∷ []) xs))

-- where the line was reported as long
pub yielded_beyond : (h xs : List ℕ) → NoFeed xs → (yielded (beyond h) xs ≡ []) × (behind_all (beyond h) xs ≡ beyond h)
yielded_beyond h [] none = (refl, refl)
yielded_beyond h (x ∷ xs) none =
    let other : is_line_feed x ≡ false = All-head (λ b. is_line_feed b ≡ false) x xs none in
    let next = quiet_next (beyond h) x xs (beyond h) refl (beyond_more h x other) in
    let rest = yielded_beyond h xs (All-tail (λ b. is_line_feed b ≡ false) x xs none) in
    (next.0 ∙ rest.0, next.1 ∙ rest.1)

-- bytes that end nothing, and one more
quiet_then : (p q next : Pending) (xs : List ℕ) (b : ℕ) (cut : Cut) → yielded p xs ≡ [] → behind_all p xs ≡ q → answer_to q b ≡ cut → behind q b ≡ next
    → (yielded p (xs ++ b ∷ []) ≡ yields cut q.held) × (behind_all p (xs ++ b ∷ []) ≡ next)
quiet_then p q next xs b cut t r a n = (
  yielded-append p xs (b ∷ []) ∙ ap (λ (u : List Line). u ++ yielded (behind_all p xs) (b ∷ [])) t
      ∙ ap (λ (m : Pending). yielded m (b ∷ [])) r ∙ append-nil (yields (answer_to q b) q.held) ∙ ap (λ (c : Cut). yields c q.held) a,
  behind_all-append p xs (b ∷ []) ∙ ap (λ (m : Pending). behind m b) r ∙ n,
)

-- where they fill the line, and a byte follows
pub yielded_full : (q xs : List ℕ) (b : ℕ) → NoFeed xs → is_line_feed b ≡ false → length q + length xs ≡ line_limit
    → (yielded (inside q) (xs ++ b ∷ []) ≡ Long ∷ []) × (behind_all (inside q) (xs ++ b ∷ []) ≡ beyond (q ++ xs))
yielded_full q xs b none other full =
    let front = yielded_inside q xs none (omega arith) in
    let size : length (q ++ xs) ≡ length q + length xs = length-append q xs in
    let here = inside_full (q ++ xs) b other (omega arith) in
    quiet_then (inside q) (inside (q ++ xs)) (beyond (q ++ xs)) xs b cuts.Long front.0 front.1 here.0 here.1

-- where they are a line
pub yielded_whole : (xs : List ℕ) (b : ℕ) → NoFeed xs → is_line_feed b ≡ true → length xs ≤ line_limit
    → (yielded at_start (xs ++ b ∷ []) ≡ Short xs ∷ []) × (behind_all at_start (xs ++ b ∷ []) ≡ at_start)
yielded_whole xs b none feed room =
    let front = yielded_inside [] xs none (omega arith) in
    quiet_then at_start (inside xs) at_start xs b cuts.Line front.0 front.1 (inside_feed xs b feed) (behind_feed (inside xs) b feed)

-- ---- a part of a piece

pub part_inside : (q part : List ℕ) → NoFeed part → length q + length part ≤ line_limit
    → (yielded (inside q) (take (length part) part) ≡ []) × (behind_all (inside q) (take (length part) part) ≡ inside (q ++ part))
part_inside q part none room = rw (take_all (length part) part (omega arith)) (yielded_inside q part none room)

pub part_beyond : (h part : List ℕ) → NoFeed part
    → (yielded (beyond h) (take (length part) part) ≡ []) × (behind_all (beyond h) (take (length part) part) ≡ beyond h)
part_beyond h part none = rw (take_all (length part) part (omega arith)) (yielded_beyond h part none)

pub part_full : (q part : List ℕ) (room : ℕ) → NoFeed part → length q + room ≡ line_limit → room < length part
    → (yielded (inside q) (take (room + 1) part) ≡ Long ∷ []) × (behind_all (inside q) (take (room + 1) part) ≡ beyond (q ++ take room part))
part_full q part room none full less =
    let cut : take (room + 1) part ≡ take room part ++ get_or part room 0 ∷ [] = rw (add-one room) (take-suc part room 0 less) in
    let front : NoFeed (take room part) = All-take (λ b. is_line_feed b ≡ false) room part none in
    let next : is_line_feed (get_or part room 0) ≡ false = All-get_or (λ b. is_line_feed b ≡ false) part room 0 less none in
    let size : length (take room part) ≡ room = length-take-le room part (omega arith) in
    rw cut (yielded_full q (take room part) (get_or part room 0) front next (omega arith))

pub part_whole : (piece : List ℕ) (n : ℕ) → NoFeed (take n piece) → n < length piece → slice_index piece n ≡ 10 → n ≤ line_limit
    → (yielded at_start (take (n + 1) piece) ≡ Short (take n piece) ∷ []) × (behind_all at_start (take (n + 1) piece) ≡ at_start)
part_whole piece n none less feed room =
    let cut : take (n + 1) piece ≡ take n piece ++ get_or piece n 0 ∷ [] = rw (add-one n) (take-suc piece n 0 less) in
    let size : length (take n piece) ≡ n = length-take-le n piece (omega arith) in
    let ends : is_line_feed (get_or piece n 0) ≡ true = eq-eqb (get_or piece n 0) 10 feed in
    rw cut (yielded_whole (take n piece) (get_or piece n 0) none ends (omega arith))
