-- Items of a message on the wire, in order, between what may be beside it.
use Rattle.std.proofs.Common.{◌≡◌, ◌≢◌, ℕ, zero, suc, ◌+◌, ◌⊎◌, ◌||◌, inl, inr, Bool, true, false, List, [], ◌∷◌, ◌++◌, refl, sym, ap, ◌∙◌, subst, arith}
use Rattle.std.proofs.lemmas.Bool.{true≢false}
use Rattle.std.specs.List.{AllByRecursion}
use Rattle.j39_tp.specs.Chunks.{chunk}
use Rattle.j39_tp.specs.declared.packet.Packet.TheVariants.{Rts, Cts, EndAck, Abort, Dt}
use Rattle.j39_world.specs.declared.wired.Wired.{Wired}
use Rattle.j39_world.specs.declared.wired.Wired.TheVariants as wired
use Rattle.j39_world.specs.Arriving.{oldest_passes}
use Rattle.j39_world.specs.Resting.{is_alone}

-- beside the message, from its sender: answers to messages of the other direction, of which no Abort names this group, and what was sent alone
abbrev pub IsBesideForth : ℕ → Wired → Type 0
IsBesideForth own (wired.Packet (Cts count start pgn)) = Unit {0}
IsBesideForth own (wired.Packet (EndAck size pgn)) = Unit {0}
IsBesideForth own (wired.Packet (Abort reason pgn)) = pgn ≢ own
IsBesideForth own (wired.Alone f bytes) = Unit {0}
IsBesideForth own _ = ⊥

-- beside the answers, from its receiver: messages of the other direction, of which no RTS and no Abort names this group
abbrev pub IsBesideBack : ℕ → Wired → Type 0
IsBesideBack own (wired.Packet (Cts count start pgn)) = ⊥
IsBesideBack own (wired.Packet (EndAck size pgn)) = ⊥
IsBesideBack own (wired.Packet (Rts size limit pgn)) = pgn ≢ own
IsBesideBack own (wired.Packet (Abort reason pgn)) = pgn ≢ own
IsBesideBack own _ = Unit {0}

-- these, in order, between such as may be beside them
abbrev pub Holds : (Wired → Type 0) → List Wired → List Wired → Type 0
Holds Beside [] own = own ≡ []
Holds Beside (x ∷ xs) own = (Beside x × Holds Beside xs own) ⊎ ((rest : List Wired) × (own ≡ x ∷ rest) × Holds Beside xs rest)

module _ (Beside : Wired → Type 0) where
  pub holds_none : (xs : List Wired) → AllByRecursion Beside xs → Holds Beside xs []
  holds_none [] all = refl
  holds_none (x ∷ xs) all = inl (all.0, holds_none xs all.1)

  pub holds_beside : (xs more own : List Wired) → AllByRecursion Beside more → Holds Beside xs own → Holds Beside (xs ++ more) own
  holds_beside [] more own all is = subst (λ (zs : List Wired). Holds Beside more zs) (sym is) (holds_none more all)
  holds_beside (x ∷ xs) more own all (inl here) = inl (here.0, holds_beside xs more own all here.1)
  holds_beside (x ∷ xs) more own all (inr here) = inr (here.0, here.1, holds_beside xs more here.0 all here.2)

  holds_all : (xs : List Wired) → Holds Beside xs xs
  holds_all [] = refl
  holds_all (x ∷ xs) = inr (xs, refl, holds_all xs)

  pub holds_own : (xs own more : List Wired) → Holds Beside xs own → Holds Beside (xs ++ more) (own ++ more)
  holds_own [] own more is = subst (λ (zs : List Wired). Holds Beside more (zs ++ more)) (sym is) (holds_all more)
  holds_own (x ∷ xs) own more (inl here) = inl (here.0, holds_own xs own more here.1)
  holds_own (x ∷ xs) own more (inr here) = inr (here.0 ++ more, ap (λ (zs : List Wired). zs ++ more) here.1, holds_own xs here.0 more here.2)

  -- the oldest, if it passes and none of these does, is gone
  pub holds_less : (passes : Wired → Bool) (xs rest own : List Wired) (item : Wired) → xs ≡ item ∷ rest → oldest_passes passes xs ≡ true
      → ((later : List Wired) → own ≡ item ∷ later → (is_alone item || passes item) ≡ false) → Holds Beside xs own → Holds Beside rest own
  holds_less passes xs rest own item is passing none holds = elim (subst (λ (zs : List Wired). Holds Beside zs own) is holds) [
    | inl beside ↦ beside.1
    | inr one ↦ absurd (true≢false (sym (subst (λ (zs : List Wired). oldest_passes passes zs ≡ true) is passing) ∙ none one.0 one.1))
  ]

-- so many data packets from one on
abbrev pub packets_from : List ℕ → ℕ → ℕ → List Wired
packets_from bytes k zero = []
packets_from bytes k (suc n) = wired.Packet (Dt k (chunk bytes k)) ∷ packets_from bytes (suc k) n

pub packets_more : (bytes : List ℕ) (k n next : ℕ) → next ≡ k + n
    → packets_from bytes k n ++ wired.Packet (Dt next (chunk bytes next)) ∷ [] ≡ packets_from bytes k (suc n)
packets_more bytes k zero next is = ap (λ j. wired.Packet (Dt j (chunk bytes j)) ∷ []) (let e : next ≡ k = omega (arith, is) in e)
packets_more bytes k (suc n) next is =
    ap (λ (zs : List Wired). wired.Packet (Dt k (chunk bytes k)) ∷ zs) (packets_more bytes (suc k) n next (omega (arith, is)))
