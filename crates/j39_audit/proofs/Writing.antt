-- A text to which the lists of the places below a number were added.
use Rattle.std.proofs.Common.{◌≡◌, ℕ, ◌+◌, ◌++◌, List, sym, ap, subst, ◌∙◌, append_assoc}
use Rattle.std.proofs.lemmas.List.{append-nil}
use Rattle.j39_audit.specs.Below.{each_below, sum_below}
use Rattle.j39_audit.proofs.Below.{each_more, each_none, sum_more, sum_none}

pub text_none : (text : List ℕ) (list : ℕ → List ℕ) → text ≡ text ++ each_below list 0
text_none text list = sym (ap (λ (t : List ℕ). text ++ t) (each_none list) ∙ append-nil text)

pub text_more : (start text next : List ℕ) (list : ℕ → List ℕ) (n : ℕ) → text ≡ start ++ each_below list n → next ≡ text ++ list n
    → next ≡ start ++ each_below list (n + 1)
text_more start text next list n before here =
    here ∙ ap (λ (t : List ℕ). t ++ list n) before ∙ append_assoc start (each_below list n) (list n)
    ∙ sym (ap (λ (t : List ℕ). start ++ t) (each_more list n))

count_more : (number : ℕ → ℕ) (n count more : ℕ) → count ≡ sum_below number n → more ≡ number n → count + more ≡ sum_below number (n + 1)
count_more number n count more before here = ap (λ (k : ℕ). k + more) before ∙ ap (λ (k : ℕ). sum_below number n + k) here ∙ sym (sum_more number n)

-- with how many lines these are
pub record AreLinesWritten (start text : List ℕ) (count : ℕ) (lines : ℕ → List ℕ) (number : ℕ → ℕ) (n : ℕ) : Type 0 where
  pub text_is : text ≡ start ++ each_below lines n
  pub count_is : count ≡ sum_below number n

pub written_none : {start : List ℕ} {lines : ℕ → List ℕ} {number : ℕ → ℕ} → AreLinesWritten start start 0 lines number 0
written_none {start = start} {lines = lines} {number = number} = record { text_is = text_none start lines; count_is = sym (sum_none number) }

pub written_more : {start text next : List ℕ} {count more : ℕ} {lines : ℕ → List ℕ} {number : ℕ → ℕ} {n : ℕ} → AreLinesWritten start text count lines number n
    → next ≡ text ++ lines n → more ≡ number n → AreLinesWritten start next (count + more) lines number (n + 1)
written_more {start = start} {text = text} {next = next} {count = count} {more = more} {lines = lines} {number = number} {n = n} before here times = record {
  text_is = text_more start text next lines n before.text_is here;
  count_is = count_more number n count more before.count_is times;
}

-- and of all places
pub written_all : {start text : List ℕ} {count : ℕ} {lines : ℕ → List ℕ} {number : ℕ → ℕ} {n : ℕ} (all : ℕ) → n ≡ all
    → AreLinesWritten start text count lines number n → AreLinesWritten start text count lines number all
written_all {start = start} {text = text} {count = count} {lines = lines} {number = number} all end written =
    subst (λ (k : ℕ). AreLinesWritten start text count lines number k) end written
