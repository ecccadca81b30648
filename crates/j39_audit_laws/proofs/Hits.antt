-- What of a list of notes is of one mark: none of another word, and of one note this or nothing.
use Rattle.std.proofs.Common.{◌≡◌, ◌⊎◌, ℕ, ◌&&◌, ◌++◌, ◌∷◌, [], List, Bool, true, false, nat_eq, zero, suc, cond}
use Rattle.std.proofs.Common.{inl, inr, refl, sym, ap, ◌∙◌, subst}
use Rattle.std.specs.Prelude.{slice_index_or}
use Rattle.std.specs.List.{AllByRecursion, filter}
use Rattle.std.proofs.lemmas.Bool.{and_from, cases_Bool, eq-eqb, false_from_ne_true, true≢false}
use Rattle.std.proofs.lemmas.List.{append-nil}
use Rattle.std.proofs.lemmas.List.Elements.{filter-append}
use Rattle.j39_audit.specs.Below.{each_below}
use Rattle.j39_audit.specs.Counting.{Key, Noted, is_same_key, key_of, word_number}
use Rattle.j39_audit.specs.Looking.{noted_if}
use Rattle.j39_audit.specs.declared.mark.Mark.{Mark}
use Rattle.j39_audit.specs.declared.mark.Word.{Word}
use Rattle.j39_audit.specs.declared.mark.Word.TheVariants.{Short, Stranger, Nobody, Address, Cannot, Layout, NoFlow, Priority, Urgent, Seen, Unclear, Asked}
use Rattle.j39_audit.specs.declared.mark.Word.TheVariants.{Counted, Unsure, Break, NearFlow, NearRequest, SilentFlow, Deaf, NearPackets, SilentPackets}
use Rattle.j39_audit.specs.declared.mark.Word.TheVariants.{NearOrLate, SilentOrLate, Answered, Answers, Besides}
use Rattle.j39_audit.specs.declared.mark.Word.TheVariants.{WrongAnnouncement, WrongGrant, WrongPacket, WrongReceipt}
use Rattle.j39_audit.proofs.Counted.{same_keys}

-- ---- notes in a list

abbrev pub In : Noted → List Noted → Type 0
In n [] = ⊥
In n (x ∷ xs) = (x ≡ n) ⊎ In n xs

pub in_left : (n : Noted) (xs ys : List Noted) → In n xs → In n (xs ++ ys)
in_left n [] ys is = absurd is
in_left n (x ∷ xs) ys (inl e) = inl e
in_left n (x ∷ xs) ys (inr is) = inr (in_left n xs ys is)

pub in_right : (n : Noted) (xs ys : List Noted) → In n ys → In n (xs ++ ys)
in_right n [] ys is = is
in_right n (x ∷ xs) ys is = inr (in_right n xs ys is)

pub in_cases : (n : Noted) (xs ys : List Noted) → In n (xs ++ ys) → In n xs ⊎ In n ys
in_cases n [] ys is = inr is
in_cases n (x ∷ xs) ys (inl e) = inl (inl e)
in_cases n (x ∷ xs) ys (inr is) = elim (in_cases n xs ys is) [ inl a ↦ inl (inr a) | inr b ↦ inr b ]

-- one that is noted where a test passes
pub in_if : (n m : Noted) (test : Bool) → In n (noted_if test m) → (test ≡ true) × (m ≡ n)
in_if n m true (inl e) = (refl, e)
in_if n m true (inr never) = absurd never
in_if n m false never = absurd never

pub if_in : (m : Noted) (test : Bool) → test ≡ true → In m (noted_if test m)
if_in m test is = subst (λ (t : Bool). In m (noted_if t m)) (sym is) (inl refl)

-- ---- words

abbrev words : List Word
words = Short ∷ Stranger ∷ Nobody ∷ Address ∷ Cannot ∷ Layout ∷ NoFlow ∷ Priority ∷ Urgent ∷ Seen ∷ Unclear ∷ Asked ∷ Counted ∷ Unsure ∷ Break ∷ NearFlow
    ∷ NearRequest ∷ SilentFlow ∷ Deaf ∷ NearPackets ∷ SilentPackets ∷ NearOrLate ∷ SilentOrLate ∷ Answered
    ∷ Answers ∷ Besides ∷ WrongAnnouncement ∷ WrongGrant ∷ WrongPacket ∷ WrongReceipt ∷ []

abbrev word_of : ℕ → Word
word_of n = slice_index_or words n Break

of_number : (w : Word) → word_of (word_number w) ≡ w
of_number Short = refl
of_number Stranger = refl
of_number Nobody = refl
of_number Address = refl
of_number Cannot = refl
of_number Layout = refl
of_number NoFlow = refl
of_number Priority = refl
of_number Urgent = refl
of_number Seen = refl
of_number Unclear = refl
of_number Asked = refl
of_number Counted = refl
of_number Unsure = refl
of_number Break = refl
of_number NearFlow = refl
of_number NearRequest = refl
of_number SilentFlow = refl
of_number Deaf = refl
of_number NearPackets = refl
of_number SilentPackets = refl
of_number NearOrLate = refl
of_number SilentOrLate = refl
of_number Answered = refl
of_number Answers = refl
of_number Besides = refl
of_number WrongAnnouncement = refl
of_number WrongGrant = refl
of_number WrongPacket = refl
of_number WrongReceipt = refl

pub same_mark : (a b : Mark) → key_of a ≡ key_of b → a ≡ b
same_mark a b e =
    let word : a.word ≡ b.word = sym (of_number a.word) ∙ ap (λ (k : Key). word_of k.0) e ∙ of_number b.word in
    let subject : a.subject ≡ b.subject = ap (λ (k : Key). k.1) e in
    let group : a.group ≡ b.group = ap (λ (k : Key). k.2) e in
    let make : Word → ℕ → ℕ → Mark = λ w s g. record { word = w; subject = s; group = g } in
    ap (λ (w : Word). make w a.subject a.group) word ∙ ap (λ (s : ℕ). make b.word s a.group) subject ∙ ap (make b.word b.subject) group

-- ---- of one mark

abbrev is_of : Mark → Noted → Bool
is_of m n = is_same_key (key_of n.mark) (key_of m)

abbrev pub hits : Mark → List Noted → List Noted
hits m noted = filter (is_of m) noted

pub marked_so : (m : Mark) (n : Noted) → is_same_key (key_of n.mark) (key_of m) ≡ true → n.mark ≡ m
marked_so m n is = same_mark n.mark m (same_keys (key_of n.mark) (key_of m) is)

marked_is : (m : Mark) (n : Noted) → n.mark ≡ m → is_of m n ≡ true
marked_is m n e =
    let k : Key = key_of m in
    ap (λ (x : Mark). is_same_key (key_of x) k) e
    ∙ and_from (nat_eq k.0 k.0 && nat_eq k.1 k.1) (nat_eq k.2 k.2)
    (and_from (nat_eq k.0 k.0) (nat_eq k.1 k.1) (eq-eqb k.0 k.0 refl) (eq-eqb k.1 k.1 refl)) (eq-eqb k.2 k.2 refl)

pub hits_both : (m : Mark) (xs ys : List Noted) → hits m (xs ++ ys) ≡ hits m xs ++ hits m ys
hits_both m xs ys = filter-append (is_of m) xs ys

-- what is of it is in the list, and what of it is in the list is one of these
pub in_hits : (m : Mark) (n : Noted) (xs : List Noted) → In n xs → n.mark ≡ m → In n (hits m xs)
in_hits m n [] is e = absurd is
in_hits m n (x ∷ xs) (inl same) e =
    let here : is_of m x ≡ true = marked_is m x (ap (λ (y : Noted). y.mark) same ∙ e) in
    subst (λ (b : Bool). In n (cond b (x ∷ hits m xs) (hits m xs))) (sym here) (inl same)
in_hits m n (x ∷ xs) (inr is) e = elim (cases_Bool (is_of m x)) [
  | inl here ↦ subst (λ (b : Bool). In n (cond b (x ∷ hits m xs) (hits m xs))) (sym here) (inr (in_hits m n xs is e))
  | inr not_here ↦ subst (λ (b : Bool). In n (cond b (x ∷ hits m xs) (hits m xs))) (sym not_here) (in_hits m n xs is e)
]

pub hit_in : (m : Mark) (n : Noted) (xs : List Noted) → In n (hits m xs) → In n xs × (n.mark ≡ m)
hit_in m n [] is = absurd is
hit_in m n (x ∷ xs) is = elim (cases_Bool (is_of m x)) [
  | inl here ↦
      elim (subst (λ (b : Bool). In n (cond b (x ∷ hits m xs) (hits m xs))) here is) [
        | inl same ↦ (inl same, sym (ap (λ (y : Noted). y.mark) same) ∙ marked_so m x here)
        | inr more ↦ (let rest = hit_in m n xs more in (inr rest.0, rest.1))
      ]
  | inr not_here ↦
      (let rest = hit_in m n xs (subst (λ (b : Bool). In n (cond b (x ∷ hits m xs) (hits m xs))) not_here is) in (inr rest.0, rest.1))
]

-- ---- none of another word

-- each of these has a word that passes
abbrev pub HaveWords : (Word → Bool) → List Noted → Type 0
HaveWords test xs = AllByRecursion (λ (n : Noted). test n.mark.word ≡ true) xs

pub words_both : (test : Word → Bool) (xs ys : List Noted) → HaveWords test xs → HaveWords test ys → HaveWords test (xs ++ ys)
words_both test [] ys a b = b
words_both test (x ∷ xs) ys a b = (a.0, words_both test xs ys a.1 b)

pub words_if : (test : Word → Bool) (n : Noted) (b : Bool) → test n.mark.word ≡ true → HaveWords test (noted_if b n)
words_if test n true is = (is, tt)
words_if test n false is = tt

pub words_below : (test : Word → Bool) (list : ℕ → List Noted) → ((i : ℕ) → HaveWords test (list i)) → (n : ℕ) → HaveWords test (each_below list n)
unfolding each_below
words_below test list each zero = tt
words_below test list each (suc n) = words_both test (each_below list n) (list n) (words_below test list each n) (each n)

pub no_hits : (m : Mark) (test : Word → Bool) → test m.word ≡ false → (xs : List Noted) → HaveWords test xs → hits m xs ≡ []
no_hits m test other [] all = refl
no_hits m test other (x ∷ xs) all =
    let apart : is_of m x ≡ false = false_from_ne_true (is_of m x)
    (λ is. true≢false (sym all.0 ∙ ap (λ (k : Mark). test k.word) (marked_so m x is) ∙ other)) in
    ap (λ (b : Bool). cond b (x ∷ hits m xs) (hits m xs)) apart ∙ no_hits m test other xs all.1

-- ---- once at most

-- there is none, or one
abbrev pub AtMostOne : List Noted → Type 0
AtMostOne xs = (xs ≡ []) ⊎ ((n : Noted) × (xs ≡ n ∷ []))

pub one_of_one : (m : Mark) (n : Noted) → AtMostOne (hits m (n ∷ []))
one_of_one m n = elim (cases_Bool (is_of m n)) [
  | inl here ↦ inr (n, ap (λ (b : Bool). cond b (n ∷ []) []) here)
  | inr other ↦ inl (ap (λ (b : Bool). cond b (n ∷ []) []) other)
]

pub one_if : (m : Mark) (n : Noted) (test : Bool) → AtMostOne (hits m (noted_if test n))
one_if m n true = one_of_one m n
one_if m n false = inl refl

-- none in front of those, or none behind these
pub one_behind : (m : Mark) (xs ys : List Noted) → hits m xs ≡ [] → AtMostOne (hits m ys) → AtMostOne (hits m (xs ++ ys))
one_behind m xs ys none one =
    subst AtMostOne (sym (hits_both m xs ys ∙ ap (λ (l : List Noted). l ++ hits m ys) none)) one

pub one_before : (m : Mark) (xs ys : List Noted) → hits m ys ≡ [] → AtMostOne (hits m xs) → AtMostOne (hits m (xs ++ ys))
one_before m xs ys none one =
    subst AtMostOne (sym (hits_both m xs ys ∙ ap (λ (l : List Noted). hits m xs ++ l) none ∙ append-nil (hits m xs))) one
