use Rattle.std.proofs.Common.{◌≡◌, ◌⊎◌, ◌≢◌, ◌==◌, ◌&&◌, ℕ, Bool, true, false, List, Option, None, inl, inr, refl, sym, ap, subst, ◌∙◌, take, eqb-true}
use Rattle.std.specs.declared.alloc.Global.{Global}
use Rattle.std.specs.declared.vec.Vec.{Vec}
use Rattle.std.proofs.lemmas.Bool.{cases_Bool, eqb-false}
use Rattle.j39_tp.specs.Chunks.{packets_of}
use Rattle.j39_follow.specs.Received.{IsReceived}
use Rattle.j39_follow.specs.inside.Collecting.{HasBytes}
use Rattle.j39_follow.proofs.Pairs.Collecting.{not_received, other_received, received_whole}
use Rattle.j39_follow.proofs.pair.collecting.whole.Goals as goal

apart : (a b m n : ℕ) → (a == b && m == n) ≡ false → (a ≢ b) ⊎ (m ≢ n)
apart a b m n e = elim (cases_Bool (a == b)) [
  | inl same ↦ inr (eqb-false m n (sym (ap (λ (x : Bool). x && m == n) same) ∙ e))
  | inr other ↦ inl (eqb-false a b other)
]

alike : (a b m n : ℕ) → (a == b && m == n) ≡ true → (a ≡ b) × (m ≡ n)
alike a b m n e = elim (cases_Bool (a == b)) [
  | inl same ↦ (eqb-true a b same, eqb-true m n (sym (ap (λ (x : Bool). x && m == n) same) ∙ e))
  | inr other ↦ (let no : false ≡ true = sym (ap (λ (x : Bool). x && m == n) other) ∙ e in absurd cc)
]

pub returns-then-not-is_of_message : goal.returns-then-not-is_of_message
returns-then-not-is_of_message c = λ h is.
    other_received c.args.collected.now h c.args.size c.args.pgn is (apart _ _ _ _ (sym c.is_of_message.ensures ∙ c.if-not-is_of_message.true))

pub returns-in_default : goal.returns-in_default
returns-in_default c = λ h is message.
    let kept = c.args.collected.now in
    let same = alike kept.size c.args.size kept.pgn c.args.pgn (sym c.is_of_message.ensures ∙ c.if-not-is_of_message.false) in
    let lost = subst (HasBytes kept.chunks.items (packets_of kept.size)) c.in_default.is c.in_ok-bytes.ensures in
    subst (λ (n : ℕ). ¬ IsReceived h n c.args.pgn message) same.0
    (subst (λ (n : ℕ). ¬ IsReceived h kept.size n message) same.1 (not_received kept h lost.0 is lost.1 lost.2 message))

pub returns : goal.returns
returns c = λ h is.
    let kept = c.args.collected.now in
    let same = alike kept.size c.args.size kept.pgn c.args.pgn (sym c.is_of_message.ensures ∙ c.if-not-is_of_message.false) in
    let came = subst (HasBytes kept.chunks.items (packets_of kept.size)) c.in-Some.is c.in_ok-bytes.ensures in
    let count = c.from.ensures ∙ c.bytes.ensures.value ∙ sym same.0 in
    let text = c.truncate.ensures.items ∙ ap (λ (n : ℕ). take n c.in-Some.bytes.items) count ∙ ap (take kept.size) came.1 in
    subst (λ (n : ℕ). IsReceived h n c.args.pgn c.truncate.new.self.items) same.0
    (subst (λ (n : ℕ). IsReceived h kept.size n c.truncate.new.self.items) same.1
    (received_whole kept h c.truncate.new.self.items is came.0 text))
