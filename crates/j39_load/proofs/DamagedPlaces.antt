-- What stands at a place of a bus with damaged frames that keeps to a plan: a frame as it was, a damaged attempt, or the error frame behind that.
use Rattle.std.proofs.Common.{◌≡◌, ℕ, suc, ◌+◌, ◌%◌, ◌<◌, ◌≤◌, ◌⊎◌, Bool, true, false, cond, refl, sym, ◌∙◌, subst, inl, inr, arith}
use Rattle.std.proofs.lemmas.Bool.{lt-ltb}
use Rattle.j39_network.specs.declared.plan.Plan.{Plan}
use Rattle.j39_network.specs.declared.plan.timing.ErrorRate.{ErrorRate}
use Rattle.j39_load.specs.KeepsErrors.{origins_with, planned_with}
use Rattle.j39_load.specs.KeepsPlan.{source_place, source_turn}
use Rattle.j39_load.specs.SentFrames.{FrameSources}
use Rattle.j39_load.proofs.Attempts.{attempt_few}
use Rattle.j39_timing.specs.Errors.{Damaged, IsBusWithErrors, at_place, with_errors}
use Rattle.j39_timing.specs.FrameBits.{error_frame, longest_frame}
use Rattle.j39_timing.specs.FrameStreams.{Origins}
use Rattle.j39_timing.specs.TimedFrames.{Schedule}
use Rattle.j39_timing.specs.Traffic.{IsQueuedAt}
use Rattle.j39_timing.proofs.ErrorFrames.{IsFrame as IsFrameThere, attempt_stated, error_stated, kinds as kinds_there}

-- an attempt, or the error frame behind it: how many streams behind the attempts its own stands, and its bits at most
abbrev pub shift : Bool → ℕ
shift error = cond error 1 0

abbrev pub width : Bool → ℕ
width error = cond error error_frame (longest_frame 8)

abbrev pub place : Schedule → Damaged → Bool → ℕ → ℕ
place s d true e = s.count + (d.count + e)
place s d false e = s.count + e

-- the streams of the plan are so many
module _ (plan : Plan) (s : Schedule) (d : Damaged) (planned : ℕ → Bool) (sent : FrameSources) (rate : ErrorRate) (streams : ℕ) where
  abbrev w : Schedule
  w = with_errors s d

  abbrev of : Origins
  of = origins_with plan s d rate streams sent

  abbrev is_planned : ℕ → Bool
  is_planned = planned_with s planned

  pub record IsFrame (p : ℕ) : Type 0 where
    pub frame : IsFrameThere s d p
    pub source : of.source p ≡ source_place plan (sent.source p)
    pub turn : of.turn p ≡ source_turn plan (sent.source p)
    pub since : of.since p ≡ sent.release p
    pub plans : is_planned p ≡ planned p

  pub record IsDamage (p : ℕ) : Type 0 where
    pub error : Bool
    pub attempt : ℕ
    pub below : attempt < d.count
    pub is : p ≡ place s d error attempt
    pub behind : s.count ≤ p
    pub queued : w.queued p ≡ d.begin attempt
    pub bits : w.bits p ≤ width error
    pub ident : w.ident p ≡ 0
    pub source : of.source p ≡ streams + shift error
    pub turn : of.turn p ≡ attempt % rate.count
    pub since : of.since p ≡ d.begin attempt

  pub frame_at : (p : ℕ) → IsFrameThere s d p → IsFrame p
  frame_at p is =
      let front = lt-ltb p s.count is.below in
      record { frame = is; source = rw (front) refl; turn = rw (front) refl; since = rw (front) refl; plans = rw (front) refl }

  -- what is reported there
  stated : (error : Bool) (frame attempt behind : ℕ → ℕ) (e : ℕ) → e < d.count
      → at_place s d frame attempt behind (place s d error e) ≡ cond error (behind e) (attempt e)
  stated true frame attempt behind e below = error_stated s d frame attempt behind e below
  stated false frame attempt behind e below = attempt_stated s d frame attempt behind e below

  stated_of_both : (error : Bool) (frame both : ℕ → ℕ) (e : ℕ) → e < d.count → at_place s d frame both both (place s d error e) ≡ both e
  stated_of_both true frame both e below = error_stated s d frame both both e below
  stated_of_both false frame both e below = attempt_stated s d frame both both e below

  past_frames : (error : Bool) (e : ℕ) → s.count ≤ place s d error e
  past_frames true e = omega arith
  past_frames false e = omega arith

  its_stream : (error : Bool) → cond error (suc streams) streams ≡ streams + shift error
  its_stream true = omega arith
  its_stream false = omega arith

  module _ (bus : IsBusWithErrors s d) (longest : (p : ℕ) → p < s.count → s.bits p ≤ 160) where
    few_bits : (error : Bool) (e : ℕ) → e < d.count → cond error (d.error e) (d.sent e) ≤ width error
    few_bits true e below = bus.error_at_most e below
    few_bits false e below = attempt_few s d bus longest e below

    damage_at : (error : Bool) (e : ℕ) → e < d.count → IsDamage (place s d error e)
    damage_at error e below =
        let bits = stated error s.bits d.sent d.error e below in
        let few = few_bits error e below in
        record {
          error = error;
          attempt = e;
          below = below;
          is = refl;
          behind = past_frames error e;
          queued = stated_of_both error s.queued d.begin e below;
          bits = omega (arith, bits, few);
          ident = stated_of_both error s.ident (λ e. 0) e below;
          source = stated error (λ p. source_place plan (sent.source p)) (λ e. streams) (λ e. suc streams) e below ∙ its_stream error;
          turn = stated_of_both error (λ p. source_turn plan (sent.source p)) (λ e. e % rate.count) e below;
          since = stated_of_both error sent.release d.begin e below;
        }

    pub kinds : (p : ℕ) → p < w.count → IsFrame p ⊎ IsDamage p
    kinds p below = elim (kinds_there s d p below) [
      | inl is ↦ inl (frame_at p is)
      | inr this ↦ elim this [
        | inl it ↦ inr (subst IsDamage (sym it.1.place) (damage_at false it.0 it.1.below))
        | inr it ↦ inr (subst IsDamage (sym it.1.place) (damage_at true it.0 it.1.below))
      ]
    ]

  -- a planned frame of some streams, none of which is of damage, shares no identifier with damage: it does so with a frame of these streams, or with none
  module _ (has : ℕ → Bool) (never : (p : ℕ) → IsDamage p → has (of.source p) ≡ true → ⊥)
      (above_zero : (p : ℕ) → p < s.count → planned p ≡ true → 0 < s.ident p)
      (own : (p q t : ℕ) → p < s.count → q < s.count → t < s.now → planned p ≡ true → has (source_place plan (sent.source p)) ≡ true → IsQueuedAt s p t
      → IsQueuedAt s q t → s.ident p ≡ s.ident q → (planned q ≡ true) × (has (source_place plan (sent.source q)) ≡ true)) where
    own_of_frames : (p q t : ℕ) → IsFrame p → IsFrame q → t < w.now → is_planned p ≡ true → has (of.source p) ≡ true → IsQueuedAt w p t → IsQueuedAt w q t
        → w.ident p ≡ w.ident q → (is_planned q ≡ true) × (has (of.source q) ≡ true)
    own_of_frames p q t one two seen is_p of_it at_p at_q same =
        let queued_p = one.frame.queued in
        let start_p = one.frame.start in
        let queued_q = two.frame.queued in
        let start_q = two.frame.start in
        let both = own p q t one.frame.below two.frame.below seen (sym one.plans ∙ is_p) (subst (λ (j : ℕ). has j ≡ true) one.source of_it)
        (omega (arith, at_p.0, queued_p), omega (arith, at_p.1, start_p)) (omega (arith, at_q.0, queued_q), omega (arith, at_q.1, start_q))
        (sym one.frame.ident ∙ (same ∙ two.frame.ident)) in
        (two.plans ∙ both.0, subst (λ (j : ℕ). has j ≡ true) (sym two.source) both.1)

    pub own_with : (bus : IsBusWithErrors s d) (longest : (p : ℕ) → p < s.count → s.bits p ≤ 160) (p q t : ℕ) → p < w.count → q < w.count → t < w.now
        → is_planned p ≡ true → has (of.source p) ≡ true → IsQueuedAt w p t → IsQueuedAt w q t → w.ident p ≡ w.ident q
        → (is_planned q ≡ true) × (has (of.source q) ≡ true)
    own_with bus longest p q t in_p in_q seen is_p of_it at_p at_q same = elim (kinds bus longest p in_p) [
      | inr damage ↦ absurd (never p damage of_it)
      | inl one ↦ elim (kinds bus longest q in_q) [
        | inl two ↦ own_of_frames p q t one two seen is_p of_it at_p at_q same
        | inr damage ↦ absurd (
            let some = above_zero p one.frame.below (sym one.plans ∙ is_p) in
            let first = one.frame.ident in
            let none = damage.ident in
            omega (arith, some, first, none, same))
      ]
    ]
