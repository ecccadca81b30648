-- Of the frames of a run of a plan without findings these lines aren't written.
use Rattle.std.proofs.Common.{◌≡◌, ℕ, zero, suc, ◌<◌, ◌++◌, ◌∷◌, [], List, length, map}
use Rattle.std.proofs.Common.{inl, inr, refl, sym, ap, ◌∙◌, subst, arith, append_assoc, None}
use Rattle.std.specs.Prelude.{Contains, slice_index_or}
use Rattle.std.specs.List.{AllByRecursion}
use Rattle.std.proofs.lemmas.List.Elements.{All-contains, Contains-append_right}
use Rattle.j39_id.specs.Lines.{Line}
use Rattle.j39_id.specs.declared.frame.Frame.{Frame}
use Rattle.j39_findings.specs.Findings.{Clean}
use Rattle.j39_network.specs.declared.plan.Plan.{Plan}
use Rattle.j39_world.specs.Sent.{sent_of}
use Rattle.j39_world.specs.SoundPlan.{Always}
use Rattle.j39_world.specs.World.{World}
use Rattle.j39_audit.specs.Settings.{AreMoving, Settings}
use Rattle.j39_audit.specs.declared.mark.Word.{Word}
use Rattle.j39_audit.specs.declared.mark.Word.TheVariants.{Short, Stranger, Nobody, Address, Cannot, Layout, NoFlow, Priority}
use Rattle.j39_audit_laws.specs.AuditedRuns.{ArePartsKept, AreFramesOf, AreReadAs, IsNotWritten, IsNotWrittenOf}
use Rattle.j39_audit_laws.proofs.RunAudits.{AreSound, no_address_line, no_cannot_line, no_layout_line, no_no_flow_line, no_nobody_line, no_priority_line}
use Rattle.j39_audit_laws.proofs.RunAudits.{no_short_line, no_stranger_line}
use Rattle.j39_audit_laws.proofs.RunFrames.{IsSoundFrame}
use Rattle.j39_audit_laws.proofs.RunSound.{all_sound}
use Rattle.j39_audit_laws.proofs.Sure.{each_keeps}

parted : (all : List Frame) (k : ℕ) (f : Frame) → k < length all → slice_index_or all k f ≡ f
    → (before : List Frame) × (behind : List Frame) × (all ≡ before ++ f ∷ behind)
parted [] k f less at = absurd (omega (arith, less))
parted (x ∷ all) zero f less at = ([], all, ap (λ (y : Frame). y ∷ all) at)
parted (x ∷ all) (suc k) f less at =
    let (before, behind, row) = parted all k f (omega (arith, less)) at in
    (x ∷ before, behind, ap (λ (l : List Frame). x ∷ l) row)

-- each frame of these is sound
module _ (s : Settings) (plan : Plan) (same : s.plan ≡ plan) (w : World) (frames : List Frame) (of : AreFramesOf s w frames)
    (sound : (before : List Frame) (f : Frame) (behind : List Frame) → map sent_of (before ++ f ∷ behind) ≡ w.frames → IsSoundFrame plan before f) where
  by_settings : (before : List Frame) (f : Frame) → IsSoundFrame plan before f → IsSoundFrame s.plan before f
  by_settings before f is = subst (λ (p : Plan). IsSoundFrame p before f) (sym same) is

  are_sound : AreSound s frames
  are_sound = elim of [
    | inl (front, is) ↦ inl (
      front,
      λ heard f behind row.
          by_settings (front ++ heard) f (sound (front ++ heard) f behind
          (ap (map sent_of) (append_assoc front heard (f ∷ behind) ∙ ap (λ (l : List Frame). front ++ l) (sym row)) ∙ is)),
    )
    | inr (part, (all, is, inside)) ↦ inr (
      part,
      λ heard f behind row.
          let here : Contains frames f =
          subst (λ (l : List Frame). Contains l f) (sym row) (Contains-append_right heard (f ∷ behind) f (0, omega arith, refl)) in
          let (k, less, at) = All-contains (Contains all) frames f inside here in
          let (before, behind, cut) = parted all k f less at in
          (before, by_settings before f (sound before f behind (ap (map sent_of) (sym cut) ∙ is))),
    )
  ]

module _ (plan : Plan) (clean : Clean plan) where
  never_of : (word : Word) → ((s : Settings) → AreMoving s.plan s.moving → (log : List Line) (frames : List Frame) → AreReadAs None log frames
      → AreSound s frames → IsNotWritten s log word) → Always plan (IsNotWrittenOf word plan)
  never_of word never steps w run s log frames same moving reads of =
      never s moving log frames reads (are_sound s plan same w frames of (all_sound plan clean steps w run))

  pub never_written : Always plan (λ (w : World). AllByRecursion (λ (word : Word). IsNotWrittenOf word plan w)
      (Short ∷ Stranger ∷ Nobody ∷ Address ∷ Cannot ∷ Layout ∷ NoFlow ∷ Priority ∷ []))
  never_written steps w run = (
    λ s log frames same moving reads of. no_short_line s log frames reads,
    (
      never_of Stranger no_stranger_line steps w run,
      (
        never_of Nobody no_nobody_line steps w run,
        (
          never_of Address no_address_line steps w run,
          (
            never_of Cannot no_cannot_line steps w run,
            (
              never_of Layout no_layout_line steps w run,
              (
                never_of NoFlow no_no_flow_line steps w run,
                (
                  never_of Priority no_priority_line steps w run,
                  tt,
                ),
              ),
            ),
          ),
        ),
      ),
    ),
  )

-- and each unit keeps its part
pub parts_of_runs : (plan : Plan) → Clean plan → Always plan (ArePartsKept plan)
parts_of_runs plan clean steps w run s log frames end same moving reads of read =
    each_keeps s log frames end moving reads (are_sound s plan same w frames of (all_sound plan clean steps w run)) read
