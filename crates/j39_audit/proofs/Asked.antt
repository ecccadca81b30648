-- Who is asked for claims.
use Rattle.std.proofs.Common.{◌≡◌, ◌≤◌, ◌&&◌, ℕ, Bool, true, false, cond, Option, Some, None, length, refl, sym, ap, subst}
use Rattle.std.specs.Prelude.{not}
use Rattle.std.specs.Option.{option_map_or, option_or}
use Rattle.std.proofs.lemmas.Option.{slice_get_past}
use Rattle.j39_id.specs.declared.frame.Frame.{Frame}
use Rattle.j39_network.specs.declared.plan.timing.Timing.{Timing}
use Rattle.j39_network.specs.declared.plan.unit_plan.UnitPlan.{UnitPlan}
use Rattle.j39_audit.specs.Asking.{Asking, asks_for_claims, deaf_if_overdue, is_asked_to_claim, is_overdue, with_deaf, with_sign_of}
use Rattle.j39_audit.specs.Claiming.{Knowledge}
use Rattle.j39_audit.specs.Looking.{is_claiming}
use Rattle.j39_audit.specs.Settings.{Settings}
use Rattle.j39_audit.specs.declared.asking.Asking.{Asking as KeptAsking}
use Rattle.j39_audit.specs.declared.asking.ClaimRequest.{ClaimRequest}
use Rattle.j39_audit.specs.inside.Recalling.{RecallsAsking}

-- ---- who isn't asked

both_false : (a b : Bool) → (a && (b && false)) ≡ false
both_false true true = refl
both_false true false = refl
both_false false b = refl

either_false : (a : Bool) → (a && false) ≡ false
either_false true = refl
either_false false = refl

-- one that isn't in the plan
pub never_asked : (s : Settings) (k : Knowledge) (f : Frame) (u : ℕ) → length s.plan.units.items ≤ u → is_asked_to_claim s k f u ≡ false
unfolding is_asked_to_claim
never_asked s k f u past =
    let none : is_claiming s u ≡ false = ap (λ (o : Option UnitPlan). option_map_or (λ (unit : UnitPlan). unit.claims) o false)
    (slice_get_past s.plan.units.items u past) in
    rw none (both_false (not s.part) (asks_for_claims f))

-- and none by another frame
pub not_asking : (s : Settings) (k : Knowledge) (f : Frame) (u : ℕ) → asks_for_claims f ≡ false → is_asked_to_claim s k f u ≡ false
unfolding is_asked_to_claim
not_asking s k f u none = rw none (either_false (not s.part))

pub as_before : (x : Option ClaimRequest) (b : Bool) (r : ClaimRequest) → b ≡ false → x ≡ option_or x (cond b (Some r) None)
as_before (Some x) b r none = refl
as_before None b r none = sym (ap (λ (t : Bool). cond t (Some r) None) none)

-- ---- a frame

-- of a unit that has had to answer
pub sign_reported : (s : Settings) (kept : KeptAsking) (timing : Option Timing) (t : Timing) (counted : Option ℕ) (u : ℕ) (idle : Option ℕ) (r : ClaimRequest)
    (a : Asking) → timing ≡ Some t → counted ≡ Some u → a.asked u ≡ Some r → is_overdue t r idle ≡ true → RecallsAsking s kept (with_deaf u r a)
    → RecallsAsking s kept (with_sign_of timing counted idle a)
sign_reported s kept timing t counted u idle r a timing_is counted_is asked_is overdue reported =
    subst (λ (o : Option Timing). RecallsAsking s kept (with_sign_of o counted idle a)) (sym timing_is)
    (subst (λ (o : Option ℕ). RecallsAsking s kept (with_sign_of (Some t) o idle a)) (sym counted_is)
    (subst (λ (o : Option ClaimRequest). RecallsAsking s kept (deaf_if_overdue t idle u o a)) (sym asked_is)
    (subst (λ (b : Bool). RecallsAsking s kept (cond b (with_deaf u r a) a)) (sym overdue) reported)))
