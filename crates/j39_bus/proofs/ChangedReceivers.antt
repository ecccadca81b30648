-- The receivers once one of them has heard something, or nothing in time.
use Rattle.std.proofs.Common.{◌≡◌, ℕ, false, ◌&&◌, eqb, List, refl, sym, ◌∙◌, subst, inl, inr}
use Rattle.std.proofs.lemmas.Bool.{and_parts, cases_Bool, eq-eqb, eqb-true}
use Rattle.j39_tp.specs.Gathered.{Gathers}
use Rattle.j39_tp.specs.Receiver.{Receiving}
use Rattle.j39_tp.specs.declared.packet.Packet.{Packet}
use Rattle.j39_bus.specs.BusState.{Holding, ReceiverTable, holding_at}
use Rattle.j39_bus.specs.Stands.{HoldTaken}
use Rattle.j39_bus.specs.inside.Receivers.{left_of}
use Rattle.j39_world.specs.Transfers.{Receivers, closed_if_complete}
use Rattle.j39_world.specs.World.{changed_pair}
use Rattle.j39_bus.proofs.HeardPackets.{left_gathers, left_progress}

pub changed_here : {X : Type 0} (f : ℕ → ℕ → X) (v u : ℕ) (x : X) → changed_pair f v u x v u ≡ x
changed_here f v u x = rw (eq-eqb v v refl, eq-eqb u u refl) refl

abbrev progresses : ReceiverTable → Receivers
progresses t v u = (holding_at t.holdings v u).progress

module _ (old new : ReceiverTable) (v u : ℕ) (r : Receiving) (is : holding_at new.holdings ≡ changed_pair (holding_at old.holdings) v u (left_of r)) where
  pub progress_changed : progresses new ≡ changed_pair (progresses old) v u (closed_if_complete r.progress)
  progress_changed = λ i x s. at x s i
    where
      at : (x s : ℕ) → progresses new x s ≡ changed_pair (progresses old) v u (closed_if_complete r.progress) x s
      at x s = (λ i. (is i x s).progress) ∙ elim (cases_Bool (eqb x v && eqb s u)) [
        | inl both ↦ rw both (left_progress r.progress r.bytes)
        | inr other ↦ rw other refl
      ]

  -- what each held, it holds, and this one what it then gathers
  pub held_changed : (taken after : ℕ → ℕ → List Packet) → ((x s : ℕ) → (eqb x v && eqb s u) ≡ false → after x s ≡ taken x s)
      → Gathers (after v u) r.progress r.bytes → HoldTaken taken old → HoldTaken after new
  held_changed taken after others here held x s = elim (cases_Bool (eqb x v && eqb s u)) [
    | inl both ↦
        let same = and_parts (eqb x v) (eqb s u) both in
        let now : holding_at new.holdings v u ≡ left_of r = (λ i. is i v u) ∙ changed_here (holding_at old.holdings) v u (left_of r) in
        rw (eqb-true x v same.0, eqb-true s u same.1)
        (subst (λ (k : Holding). Gathers (after v u) k.progress k.bytes) (sym now) (left_gathers (after v u) r.progress r.bytes here))
    | inr other ↦
        let now : holding_at new.holdings x s ≡ holding_at old.holdings x s = (λ i. is i x s) ∙ (rw other refl) in
        subst (λ (k : Holding). Gathers (after x s) k.progress k.bytes) (sym now)
        (subst (λ h. Gathers h (holding_at old.holdings x s).progress (holding_at old.holdings x s).bytes) (sym (others x s other)) (held x s))
  ]
