-- A message to one unit that goes to it no more has ended: what each step keeps of that.
use Rattle.std.proofs.Common.{◌≡◌, ℕ, true, false, eqb, List, [], ◌∷◌, length, refl, sym, ap, ◌∙◌, subst, inl, inr, Option, Some, None}
use Rattle.std.proofs.lemmas.Bool.{cases_eq, cond_both, eq-eqb, or_left, true≢false}
use Rattle.j39_tp.specs.Sender as sender
use Rattle.j39_tp.specs.declared.packet.Packet.{Packet}
use Rattle.j39_tp.specs.declared.sending.outcome.Outcome.{Outcome}
use Rattle.j39_tp.specs.declared.sending.outcome.Outcome.TheVariants.{GaveUp}
use Rattle.j39_tp.specs.declared.sending.reaction.Reaction.{Reaction}
use Rattle.j39_tp.specs.declared.sending.stage.Stage.{Stage}
use Rattle.j39_tp.specs.declared.sending.stage.Stage.TheVariants.{Sending, Waiting, Resting}
use Rattle.j39_network.specs.declared.plan.to.To.{To}
use Rattle.j39_network.specs.declared.plan.to.To.TheVariants as tos
use Rattle.j39_world.specs.declared.flow.Flow.{Flow}
use Rattle.j39_world.specs.Flows.{dest_of}
use Rattle.j39_world.specs.SwitchingOff.{session_without, stage_without}
use Rattle.j39_world.specs.Transfers.{Outgoing, is_among}
use Rattle.j39_world.specs.TransferSteps.{outgoing, session_after, targets_of}
use Rattle.j39_world.specs.World.{Stations}
use Rattle.j39_run_laws.proofs.Runs.SwitchedOff.{ended_stays, targets_same}
use Rattle.j39_run_laws.proofs.Transfers.Coming.{resting_hears}
use Rattle.j39_run_laws.proofs.Transfers.Naming.{HasEndedWithout}

among_one_here : (x : ℕ) → is_among (x ∷ []) x ≡ false → ⊥
among_one_here x none = (let e : eqb x x ≡ true = eq-eqb x x refl in true≢false (sym (or_left (eqb x x) false e) ∙ none))

pub begun_ended : (count f : ℕ) (stations : Stations) (flow : Flow) (bytes : List ℕ) → HasEndedWithout (Some (outgoing count stations f flow bytes))
begun_ended count f stations flow bytes x to none = absurd (among_one_here x
    (sym (ap (λ (t : To). is_among (targets_of count stations flow.sender t) x) to) ∙ none))

-- one that goes on hasn't
pub going_ended : (s : Outgoing) (stage : Stage) → HasEndedWithout (Some s) → ((outcome : Outcome) → s.stage ≡ Resting outcome → ⊥)
    → HasEndedWithout (Some (record s { stage = stage }))
going_ended s stage was goes x to none = let rests = was x to none in absurd (goes rests.0 rests.1)

pub heard_ended : (o : Option Outgoing) (u : ℕ) (p : Packet) → HasEndedWithout o → HasEndedWithout (session_after o u p)
heard_ended None u p was = tt
heard_ended (Some s) u p was = λ x to none.
    let (outcome, rests) = was x to none in (
      outcome,
      cond_both (is_among s.targets u) _ _ (λ (z : Stage × Reaction). z.0 ≡ Resting outcome)
          (λ _. subst (λ (st : Stage). (sender.stage_hears (dest_of s.to) s.pgn (length s.bytes) st p).0 ≡ Resting outcome) (sym rests)
          (resting_hears (dest_of s.to) s.pgn (length s.bytes) outcome p)) (λ _. rests),
    )

-- u is switched off
pub ended_left : (u : ℕ) (o : Option Outgoing) → HasEndedWithout o → HasEndedWithout (session_without u o)
ended_left u None was = tt
ended_left u (Some s) was = λ x to none. elim (cases_eq x u) [
  | inl same ↦ subst (λ (t : To). (outcome : Outcome) × (stage_without u t s.stage ≡ Resting outcome)) (sym (to ∙ ap tos.One same)) (gone s.stage)
  | inr other ↦
      let (outcome, rests) = was x to (sym (targets_same u s.targets x other) ∙ none) in
      (outcome, ap (stage_without u s.to) rests ∙ ended_stays u s.to outcome)
]
  where
    gone : (stage : Stage) → (outcome : Outcome) × (stage_without u (tos.One u) stage ≡ Resting outcome)
    gone stage = (let e : eqb u u ≡ true = eq-eqb u u refl in rw e (given_up stage))
      where
        given_up : (st : Stage) → (outcome : Outcome) × ((sender.ended GaveUp st).0 ≡ Resting outcome)
        given_up (Sending next last) = (GaveUp, refl)
        given_up Waiting = (GaveUp, refl)
        given_up (Resting was_so) = (was_so, refl)
