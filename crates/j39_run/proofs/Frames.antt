-- The frames that were sent only grow.
use Rattle.std.proofs.Common.{◌≡◌, ℕ, List, [], ◌∷◌, ◌++◌, length, drop, map, refl, sym, ap, ◌∙◌, append_assoc, Option, Some, None}
use Rattle.std.proofs.lemmas.List.{append-nil, drop-map, length-map}
use Rattle.std.proofs.Math.Seq.{drop-append_seam}
use Rattle.j39_id.specs.declared.frame.Frame.{Frame}
use Rattle.j39_claim.specs.declared.item.Item.{Item}
use Rattle.j39_claim.specs.ClaimRule.{PlannedUnit}
use Rattle.j39_network.specs.declared.plan.Plan.{Plan}
use Rattle.j39_network.specs.declared.steps.Step.{Step}
use Rattle.j39_network.specs.declared.steps.Step.TheVariants.{Up, Down, Give, Ask, Begin, Send, Emit, Take, Lose, LateSender, LateReceiver, Rest}
use Rattle.j39_world.specs.declared.wired.Wired.{Wired}
use Rattle.j39_world.specs.declared.wired.Wired.TheVariants as wired
use Rattle.j39_bus.specs.BusState.{BusState}
use Rattle.j39_network.specs.PlannedUnits.{units_of}
use Rattle.j39_world.specs.ClaimSteps.{GivenFrom}
use Rattle.j39_world.specs.Flows.{flows_of, windows_of}
use Rattle.j39_world.specs.declared.flow.Flow.{Flow}
use Rattle.j39_world.specs.Run.{StepsTo, count_of}
use Rattle.j39_world.specs.Sent.{Sent, sent_of}
use Rattle.j39_bus.specs.Stands.{Stands}
use Rattle.j39_world.specs.TransferSteps.{BeginsAt, SendsAt, LostFrom, TakenFrom}
use Rattle.j39_world.specs.World.{World}
use Rattle.std.specs.List.{slice_get}
use Rattle.j39_run.specs.RunText.{sent_line, sent_lines}

abbrev Grows : World → World → Type 0
Grows w after = (more : List Sent) × (after.frames ≡ w.frames ++ more)

frames_of : World → List Sent
frames_of w = w.frames

sends : (w after : World) (more : List Sent) → after.frames ≡ w.frames ++ more → Grows w after
sends w after more is = (more, is)

sends_none : (w after : World) → after.frames ≡ w.frames → Grows w after
sends_none w after is = ([], is ∙ sym (append-nil w.frames))

given_grows : (units : List PlannedUnit) (w : World) (u v : ℕ) (items : List Item) (after : World) → GivenFrom units w u v items after → Grows w after
given_grows units w u v [] after leads = absurd leads
given_grows units w u v (item ∷ rest) after (says, s, answers, is) = sends w after _ (ap (λ (x : World). x.frames) is)

begin_grows : (count : ℕ) (w : World) (f : ℕ) (flow : Option Flow) (bytes : List ℕ) (after : World) → BeginsAt count w f flow bytes after → Grows w after
begin_grows count w f None bytes after leads = absurd leads
begin_grows count w f (Some flow) bytes after is = sends w after _ (ap (λ (x : World). x.frames) is)

send_grows : (count : ℕ) (w : World) (f : ℕ) (flow : Option Flow) (bytes : List ℕ) (after : World) → SendsAt count w f flow bytes after → Grows w after
send_grows count w f None bytes after leads = absurd leads
send_grows count w f (Some flow) bytes after is = sends w after _ (ap (λ (x : World). x.frames) is)

take_grows : (windows : List ℕ) (w : World) (u v : ℕ) (items : List Wired) (after : World) → TakenFrom windows w u v items after → Grows w after
take_grows windows w u v [] after leads = absurd leads
take_grows windows w u v (wired.Short bytes ∷ rest) after is = sends_none w after (ap (λ (x : World). x.frames) is)
take_grows windows w u v (wired.Packet p ∷ rest) after (reports, yielded, is) = sends w after _ (ap (λ (x : World). x.frames) is)
take_grows windows w u v (wired.Alone f bytes ∷ rest) after is = sends_none w after (ap (λ (x : World). x.frames) is)

lose_grows : (w : World) (u v : ℕ) (items : List Wired) (after : World) → LostFrom w u v items after → Grows w after
lose_grows w u v [] after leads = absurd leads
lose_grows w u v (item ∷ rest) after is = sends_none w after (ap (λ (x : World). x.frames) is)

step_grows : (plan : Plan) (w : World) (step : Step) (after : World) → StepsTo plan w step after → Grows w after
step_grows plan w (Up u) after is = sends w after _ (ap (λ (x : World). x.frames) is)
step_grows plan w (Down u) after is = sends_none w after (ap (λ (x : World). x.frames) is)
step_grows plan w (Give u v) after leads = given_grows (units_of plan) w u v (w.claims u v) after leads
step_grows plan w (Ask u) after is = sends w after _ (ap (λ (x : World). x.frames) is)
step_grows plan w (Begin f bytes) after leads = begin_grows (count_of plan) w f (slice_get (flows_of plan) f) bytes.items after leads
step_grows plan w (Send f bytes) after leads = send_grows (count_of plan) w f (slice_get (flows_of plan) f) bytes.items after leads
step_grows plan w (Emit u) after (s, p, session, packet, is) = sends w after _ (ap (λ (x : World). x.frames) is)
step_grows plan w (Take u v) after leads = take_grows (windows_of plan) w u v (w.wire u v) after leads
step_grows plan w (Lose u v) after leads = lose_grows w u v (w.wire u v) after leads
step_grows plan w (LateSender u) after (s, p, session, late, is) = sends w after _ (ap (λ (x : World). x.frames) is)
step_grows plan w (LateReceiver u v) after is = sends w after _ (ap (λ (x : World). x.frames) is)
step_grows plan w (Rest u) after is = sends_none w after (ap (λ (x : World). x.frames) is)

-- ---- their lines

sent_lines-append : (xs ys : List Sent) → sent_lines (xs ++ ys) ≡ sent_lines xs ++ sent_lines ys
unfolding sent_lines
sent_lines-append [] ys = refl
sent_lines-append (x ∷ xs) ys = ap (λ (t : List ℕ). sent_line x ++ t) (sent_lines-append xs ys)
    ∙ sym (append_assoc (sent_line x) (sent_lines xs) (sent_lines ys))

-- the lines of the frames that a step added stand behind those of the frames before it
pub lines_grow : (plan : Plan) (old new : BusState) (w after : World) (step : Step) (before now : List Frame) (place : ℕ)
    → Stands old plan w → StepsTo plan w step after → Stands new plan after → map sent_of before ≡ old.frames → map sent_of now ≡ new.frames
    → place ≡ length before
    → sent_lines old.frames ++ sent_lines (map sent_of (drop place now)) ≡ sent_lines new.frames
lines_grow plan old new w after step before now place s leads s' had has at =
    let (more, is) = step_grows plan w step after leads in
    let grown : new.frames ≡ old.frames ++ more = sym (ap (λ (v : World). v.frames) s'.world) ∙ is
    ∙ ap (λ (f : List Sent). f ++ more) (ap (λ (v : World). v.frames) s.world) in
    let count : place ≡ length old.frames = at ∙ sym (length-map before sent_of) ∙ ap length had in
    let rest : map sent_of (drop place now) ≡ more =
    sym (drop-map sent_of place now) ∙ ap (drop place) (has ∙ grown) ∙ ap (λ (n : ℕ). drop n (old.frames ++ more)) count ∙ drop-append_seam old.frames more in
    ap (λ (f : List Sent). sent_lines old.frames ++ sent_lines f) rest ∙ sym (ap sent_lines grown ∙ sent_lines-append old.frames more)
