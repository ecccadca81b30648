-- Facts on the counts of failed calls and on bytes that are written in pieces.
use Rattle.std.proofs.Common.{◌≡◌, [], ℕ, ◌+◌, ◌-◌, ◌<◌, ◌≤◌, ◌^◌, List, length, take, drop, Option}
use Rattle.std.proofs.Common.{Result, Ok, Err, refl, sym, ap, ◌∙◌, inl, inr, arith, subst, ◌++◌}
use Rattle.std.proofs.lemmas.List.{append-nil, length-append, length-drop, length-take-le, take_at, drop-drop, take-append-drop}
use Rattle.std.proofs.lemmas.Bool.{cases_lt, lt-ltb, ne_eqb}
use Rattle.std.proofs.Math.Seq.{take-add}
use Rattle.std.proofs.KnownBytes.{Appends-trans, Consumes-trans}
use Rattle.std.specs.Io.KnownBytes.{Appends, Consumes}
use Rattle.j39_stream.specs.Streams.{one_more, after_calls, after_put, HasFailed, KeepsLimits, PassesLimits, SourceState}
use Rattle.j39_stream.specs.declared.limits.Limits.{Limits}
use Rattle.j39_stream.specs.declared.failed.Failed.{Failed}

one_more_failed : (n : ℕ) → HasFailed n (one_more n)
one_more_failed n = elim (cases_lt n (2 ^ 64 - 1)) [ inl below ↦ inl (omega arith) | inr top ↦ inr top ]

-- a put that said so failed
pub failed_by_error : (r : Result ℕ Failed) (e : Failed) (bytes : List ℕ) (old new : ℕ) → r ≡ Err e → new ≡ after_put r bytes old → HasFailed old new
failed_by_error r e bytes old new is h =
    let count : new ≡ one_more old = h ∙ ap (λ (q : Result ℕ Failed). after_put q bytes old) is in
    rw count (one_more_failed old)

-- a put that took none of some bytes failed
pub failed_by_none : (r : Result ℕ Failed) (bytes : List ℕ) (old new : ℕ) → r ≡ Ok 0 → 0 < length bytes → new ≡ after_put r bytes old → HasFailed old new
failed_by_none r bytes old new is some h =
    let full = lt-ltb 0 (length bytes) some in
    let took : after_put (Ok 0) bytes old ≡ one_more old = rw full refl in
    let count : new ≡ one_more old = h ∙ ap (λ (q : Result ℕ Failed). after_put q bytes old) is ∙ took in
    rw count (one_more_failed old)

-- a put that took some bytes didn't fail
pub kept_by_some : (r : Result ℕ Failed) (n : ℕ) (bytes : List ℕ) (old new : ℕ) → r ≡ Ok n → 0 < n → new ≡ after_put r bytes old → new ≡ old
kept_by_some r n bytes old new is some h =
    let other = ne_eqb n 0 (λ e. absurd (omega arith)) in
    let took : after_put (Ok n) bytes old ≡ old = rw other refl in
    h ∙ ap (λ (q : Result ℕ Failed). after_put q bytes old) is ∙ took

-- the next piece is appended
pub appended_more : (a b c : Option (List ℕ)) (bytes rest : List ℕ) (i n : ℕ) → rest ≡ drop i bytes
    → Appends a b (take i bytes) → Appends b c (take n rest) → Appends a c (take (i + n) bytes)
appended_more a b c bytes rest i n e p q =
    let q' : Appends b c (take n (drop i bytes)) = subst (λ (xs : List ℕ). Appends b c (take n xs)) e q in
    subst (Appends a c) (sym (take-add i n bytes)) (Appends-trans a b c (take i bytes) (take n (drop i bytes)) p q')

-- a piece that is copied to the front of a buffer is what the input loses
pub piece_moved : (input buffer copied : List ℕ) (at n : ℕ) → at + n ≤ length input → copied ≡ take n (drop at input)
    → drop at input ≡ take n (copied ++ drop n buffer) ++ drop (at + n) input
piece_moved input buffer copied at n fits e =
    let len : length copied ≡ n = ap length e ∙ length-take-le n (drop at input) (omega (arith, length-drop at input)) in
    let front : take n (copied ++ drop n buffer) ≡ take n (drop at input) = take_at copied (drop n buffer) n len ∙ e in
    let back : drop (at + n) input ≡ drop n (drop at input) = sym (drop-drop n at input) in
    rw (front, back) (sym (take-append-drop n (drop at input)))

-- one more call after n calls
pub calls_more : (old count n : ℕ) → count ≡ after_calls old n → one_more count ≡ after_calls old (n + 1)
calls_more old count n h = omega arith

-- ---- pieces that are read

-- a call that gave nothing read nothing more
pub nothing_more : (a b c : Option (List ℕ)) (text buffer : List ℕ) (n : ℕ) → n ≡ 0 → Consumes a b text → Consumes b c (take n buffer) → Consumes a c text
nothing_more a b c text buffer n none p q =
    let q' : Consumes b c [] = subst (λ (m : ℕ). Consumes b c (take m buffer)) none q in
    subst (Consumes a c) (append-nil text) (Consumes-trans a b c text [] p q')

-- the limits are kept where the end is reported
pub kept_limits : (limits : Limits) (a b : SourceState) (text : List ℕ) (count calls : ℕ) → Consumes a.left b.left text → length text ≤ limits.bytes
    → calls < limits.calls → count ≡ after_calls a.pulls calls → b.pulls ≡ one_more count → KeepsLimits limits a b
kept_limits limits a b text count calls p within fewer before now = (text, p, within, (calls + 1, omega arith, now ∙ calls_more a.pulls count calls before))

-- a piece that passes the limit
pub passed_limit : (limits : Limits) (a b c : SourceState) (text buffer : List ℕ) (bytes n : ℕ) → n ≤ length buffer → bytes ≡ length text
    → limits.bytes - bytes < n → Consumes a.left b.left text → Consumes b.left c.left (take n buffer) → PassesLimits limits a c
passed_limit limits a b c text buffer bytes n some are passes p q =
    let count = length-take-le n buffer some in
    let sum = length-append text (take n buffer) in
    (text ++ take n buffer, Consumes-trans a.left b.left c.left text (take n buffer) p q, inl (omega arith))
