-- The frames of a run report of no NAME but those of its units.
use Rattle.std.proofs.Common.{◌≡◌, ◌≢◌, ℕ, suc, ◌<◌, ◌^◌, true, List, [], ◌∷◌, ◌++◌, length, map, Option, Some, None, inl, inr}
use Rattle.std.proofs.Common.{refl, sym, ap, subst, ◌∙◌, arith}
use Rattle.std.specs.Bool.{MatchBool}
use Rattle.std.specs.List.{AllByRecursion, slice_get}
use Rattle.std.specs.Option.{is_some}
use Rattle.std.proofs.lemmas.Bool.{cases_eq, cond_both, not-false}
use Rattle.j39_id.specs.Ident.{identifier_of}
use Rattle.j39_id.specs.declared.frame.Frame.{Frame}
use Rattle.j39_claim.specs.ClaimRule.{ClaimState, claim_of, said_by, started}
use Rattle.j39_claim.specs.declared.item.Item.{Item}
use Rattle.j39_claim.specs.declared.item.Item.TheVariants.{Request, AddressClaimed}
use Rattle.j39_claim.specs.declared.item.Say.{Say}
use Rattle.j39_claim.specs.declared.item.Say.TheVariants.{Cannot, Claim}
use Rattle.j39_network.specs.declared.plan.Plan.{Plan}
use Rattle.j39_network.specs.declared.plan.to.To.{To}
use Rattle.j39_network.specs.declared.plan.to.To.TheVariants.{All, One}
use Rattle.j39_network.specs.declared.steps.Step.{Step}
use Rattle.j39_network.specs.declared.steps.Step.TheVariants.{Up, Down, Give, Ask, Begin, Send, Emit, Take, Lose, LateSender, LateReceiver, Rest}
use Rattle.j39_tp.specs.Sender as sender
use Rattle.j39_tp.specs.declared.packet.Packet.{Packet}
use Rattle.j39_world.specs.declared.flow.Flow.{Flow}
use Rattle.j39_world.specs.declared.step_error.StepError.{StepError}
use Rattle.j39_world.specs.declared.wired.Wired.{Wired}
use Rattle.j39_world.specs.declared.wired.Wired.TheVariants as wired
use Rattle.j39_world.specs.ClaimSteps.{GivenFrom, answer_items, asking_items, first_items}
use Rattle.j39_world.specs.Flows.{dest_of, flows_of, is_short, windows_of}
use Rattle.j39_world.specs.Opening.{AreNamesDistinct}
use Rattle.j39_network.specs.PlannedUnits.{unit_at, units_of}
use Rattle.j39_world.specs.Run.{Follows, StepsTo, count_of, refusal}
use Rattle.j39_world.specs.Sent.{Sent, frame_of, sent_of, source_of}
use Rattle.j39_world.specs.SentTransfers.{address_of, destination_of, group_of, packet_frame, short_frame}
use Rattle.j39_world.specs.SoundPlan.{Always}
use Rattle.j39_world.specs.TransferSteps.{BeginsAt, LostFrom, SendsAt, TakenFrom, first_frame}
use Rattle.j39_world.specs.World.{World, all_off, changed}
use Rattle.j39_run_laws.proofs.Addresses.CleanUnits.{names_in_range}
use Rattle.j39_run_laws.proofs.Runs.Always.{IsPreserved, always}
use Rattle.j39_run_laws.proofs.Runs.Changed.{changed_here}
use Rattle.j39_run_laws.proofs.Runs.Conditions.{is_unit, none_refuses, units_known}
use Rattle.j39_run_laws.proofs.Runs.Elements.{all-append, all_map}
use Rattle.j39_run_laws.proofs.Runs.Units.{in_units}
use Rattle.j39_follow.specs.Holders.{ClaimsOrCannot}
use Rattle.j39_log_laws.specs.HolderReports.{HaveOwnNumbers}
use Rattle.j39_log_laws.proofs.Identifiers.{IsOther, carries_none}
use Rattle.j39_log_laws.proofs.Logs.{IsItemInRange, keeps, holds_nothing}
use Rattle.j39_log_laws.proofs.Standing.{preferred_below, said_held, source_below, turned_any}
use Rattle.j39_log_laws.proofs.HolderReports.{AreReported, all_stated, asking_below, first_below, flow_other, packet_group, reported_keep}

-- a unit of the plan has this NAME
abbrev pub IsUnitName : Plan → ℕ → Type 0
IsUnitName plan name = (u : ℕ) × (is_unit plan u ≡ true) × ((unit_at (units_of plan) u).name ≡ name)

-- a frame that is sent so reports of no other
abbrev pub ReportsUnit : Plan → Sent → Type 0
ReportsUnit plan x = (f : Frame) → sent_of f ≡ x → (name : ℕ) → ClaimsOrCannot f name → IsUnitName plan name

-- ---- what one item reports

some_place : (item : Item) → (a : ℕ) × (item ≢ AddressClaimed (Claim a))
some_place (AddressClaimed (Claim b)) = (
  suc b,
  λ e. let same : b ≡ suc b = cc in absurd (omega (arith, same)),
)
some_place (AddressClaimed Cannot) = (0, λ e. cc)
some_place Request = (0, λ e. cc)

own_name : (name : ℕ) → name < 2 ^ 64 → (held : Option ℕ) → source_of held < 256 → (f : Frame) (item : Item) → IsItemInRange item
    → sent_of f ≡ frame_of name held item → (other : ℕ) → ClaimsOrCannot f other → other ≡ name
own_name name range held source f item less e other are_reported = elim (cases_eq other name) [
  | inl same ↦ same
  | inr apart ↦
      let there = some_place item in
      absurd (keeps name range held source f item other there.0 less apart there.1 e (inl are_reported))
]

-- ---- in a world of a run

pub record AreNamed (plan : Plan) (w : World) : Type 0 where
  pub stated : AreReported plan w
  pub each : AllByRecursion (ReportsUnit plan) w.frames

module _ (plan : Plan) (distinct : AreNamesDistinct (units_of plan)) (own : HaveOwnNumbers plan) (w : World) (inv : AreNamed plan w) where
  abbrev name : ℕ → ℕ
  name u = (unit_at (units_of plan) u).name

  abbrev AllReport : List Sent → Type 0
  AllReport xs = AllByRecursion (ReportsUnit plan) xs

  below : (u : ℕ) → address_of w.stations u < 256
  below u = source_below (w.stations u) (inv.stated.standing.1 u)

  destination_below : (to : To) → destination_of w.stations to < 256
  destination_below All = omega arith
  destination_below (One v) = below v

  -- what a step adds
  grown : (new : World) (added : List Sent) → new.frames ≡ w.frames ++ added → AllReport added → AllReport new.frames
  grown new added is all = subst AllReport (sym is) (all-append (ReportsUnit plan) w.frames added inv.each all)

  stays : (new : World) → new.frames ≡ w.frames → AllReport new.frames
  stays new is = subst AllReport (sym is) inv.each

  -- ---- frames of messages report of no NAME

  silent : (priority pgn d s : ℕ) → IsOther pgn → d < 256 → s < 256 → (x : Sent) → x.identifier ≡ identifier_of priority pgn d s → ReportsUnit plan x
  silent priority pgn d s other less_d less_s x is f e named are_reported =
      absurd (holds_nothing f (carries_none f priority pgn d s other less_d less_s (ap (λ (y : Sent). y.identifier) e ∙ is)) named are_reported)

  packet_silent : (d s : ℕ) → d < 256 → s < 256 → (p : Packet) → ReportsUnit plan (packet_frame d s p)
  packet_silent d s less_d less_s p = silent 7 (group_of p) d s (packet_group p) less_d less_s (packet_frame d s p) refl

  short_silent : (d s : ℕ) → d < 256 → s < 256 → (flow : Flow) (bytes : List ℕ) → IsOther flow.pgn → ReportsUnit plan (short_frame d s flow bytes)
  short_silent d s less_d less_s flow bytes other =
      silent flow.priority flow.pgn d s other less_d less_s (short_frame d s flow bytes) refl

  packets_silent : (u v : ℕ) (ps : List Packet) → AllReport (map (packet_frame (address_of w.stations u) (address_of w.stations v)) ps)
  packets_silent u v [] = tt
  packets_silent u v (p ∷ ps) =
      (packet_silent (address_of w.stations u) (address_of w.stations v) (below u) (below v) p, packets_silent u v ps)

  -- ---- frames of claims report of the unit that sends them

  unit_frames : (u : ℕ) → is_unit plan u ≡ true → (held : Option ℕ) → source_of held < 256 → (items : List Item) → AllByRecursion IsItemInRange items
      → AllReport (map (frame_of (name u) held) items)
  unit_frames u unit held source items range =
      all_map (frame_of (name u) held) IsItemInRange (ReportsUnit plan)
      (λ item less f e other are_reported. (
        u,
        unit,
        sym (own_name (name u) (names_in_range plan u (in_units plan u unit)) held source f item less e other are_reported),
      )) items range

  item_below : (o : Option ℕ) → ((a : ℕ) → o ≡ Some a → a < 254) → IsItemInRange (AddressClaimed (claim_of o))
  item_below None less = tt
  item_below (Some a) less = less a refl

  up : (u : ℕ) → is_unit plan u ≡ true → (new : World) → StepsTo plan w (Up u) new → AllReport new.frames
  up u unit new e =
      let now = changed w.stations u (started (unit_at (units_of plan) u)) in
      let less = preferred_below plan u unit in
      let source : source_of (now u).address < 256 =
      subst (λ (c : ClaimState). source_of c.address < 256) (sym (changed_here w.stations u (started (unit_at (units_of plan) u)))) (omega (arith, less)) in
      grown new _ (ap (λ (x : World). x.frames) e)
      (unit_frames u unit (now u).address source (first_items (unit_at (units_of plan) u)) (first_below (unit_at (units_of plan) u) less))

  ask : (u : ℕ) → is_unit plan u ≡ true → (new : World) → StepsTo plan w (Ask u) new → AllReport new.frames
  ask u unit new e =
      let held = (w.stations u).address in
      grown new _ (ap (λ (x : World). x.frames) e)
      (unit_frames u unit held (below u) (asking_items (said_by (unit_at (units_of plan) u) (claim_of held)))
      (asking_below (unit_at (units_of plan) u) (claim_of held) (item_below held (inv.stated.standing.1 u))))

  give : (u v : ℕ) → is_unit plan v ≡ true → (list : List Item) (new : World) → GivenFrom (units_of plan) w u v list new → AllReport new.frames
  give u v unit [] new never = absurd never
  give u v unit (item ∷ rest) new (says, s, reacts, e) =
      let now = changed w.stations v s in
      let holds = turned_any (unit_at (units_of plan) v) (w.stations v) (name u) item says s reacts (inv.stated.standing.1 v) in
      let source : source_of (now v).address < 256 =
      subst (λ (c : ClaimState). source_of c.address < 256) (sym (changed_here w.stations v s)) (source_below s holds) in
      let range : AllByRecursion IsItemInRange (answer_items says) =
      elim (said_held (unit_at (units_of plan) v) (w.stations v) (name u) item says s reacts) [
        | inl silent ↦ subst (λ (o : Option Say). AllByRecursion IsItemInRange (answer_items o)) (sym silent) tt
        | inr said ↦ subst (λ (o : Option Say). AllByRecursion IsItemInRange (answer_items o)) (sym said) (item_below s.address holds, tt)
      ] in
      grown new _ (ap (λ (x : World). x.frames) e) (unit_frames v unit (now v).address source (answer_items says) range)

  -- ---- messages

  begin : (k : ℕ) (bytes : List ℕ) (o : Option Flow) → slice_get (flows_of plan) k ≡ o → (new : World) → BeginsAt (count_of plan) w k o bytes new
      → AllReport new.frames
  begin k bytes None is new never = absurd never
  begin k bytes (Some flow) is new e =
      let d : ℕ = destination_of w.stations flow.to in
      let s : ℕ = address_of w.stations flow.sender in
      let first : ReportsUnit plan (first_frame w.stations flow bytes) =
      cond_both (is_short (length bytes)) (short_frame d s flow bytes) (packet_frame d s (sender.announcement (dest_of flow.to) flow.pgn (length bytes)))
      (ReportsUnit plan) (λ _. short_silent d s (destination_below flow.to) (below flow.sender) flow bytes (flow_other plan own k flow is))
      (λ _. packet_silent d s (destination_below flow.to) (below flow.sender) _) in
      grown new (first_frame w.stations flow bytes ∷ []) (ap (λ (x : World). x.frames) e) (first, tt)

  send : (k : ℕ) (bytes : List ℕ) (o : Option Flow) → slice_get (flows_of plan) k ≡ o → (new : World) → SendsAt (count_of plan) w k o bytes new
      → AllReport new.frames
  send k bytes None is new never = absurd never
  send k bytes (Some flow) is new e =
      let d : ℕ = destination_of w.stations flow.to in
      let s : ℕ = address_of w.stations flow.sender in
      grown new (short_frame d s flow bytes ∷ []) (ap (λ (x : World). x.frames) e)
      (short_silent d s (destination_below flow.to) (below flow.sender) flow bytes (flow_other plan own k flow is), tt)

  take : (u v : ℕ) (list : List Wired) (new : World) → TakenFrom (windows_of plan) w u v list new → AllReport new.frames
  take u v [] new never = absurd never
  take u v (wired.Short bytes ∷ rest) new e = stays new (ap (λ (x : World). x.frames) e)
  take u v (wired.Alone k bytes ∷ rest) new e = stays new (ap (λ (x : World). x.frames) e)
  take u v (wired.Packet p ∷ rest) new (reports, reported, e) =
      grown new _ (ap (λ (x : World). x.frames) e) (packets_silent u v _)

  lose : (u v : ℕ) (list : List Wired) (new : World) → LostFrom w u v list new → AllReport new.frames
  lose u v [] new never = absurd never
  lose u v (item ∷ rest) new e = stays new (ap (λ (x : World). x.frames) e)

  step_names : (step : Step) → refusal plan w step ≡ None → (new : World) → StepsTo plan w step new → AllReport new.frames
  step_names (Up u) allowed new e = (let known = none_refuses plan w (Up u) allowed in up u (not-false _ known.0) new e)
  step_names (Down u) allowed new e = stays new (ap (λ (x : World). x.frames) e)
  step_names (Give u v) allowed new leads =
      (let known = none_refuses plan w (Give u v) allowed in give u v (units_known plan u v known.0).1 (w.claims u v) new leads)
  step_names (Ask u) allowed new e = (let known = none_refuses plan w (Ask u) allowed in ask u (not-false _ known.0) new e)
  step_names (Begin k bytes) allowed new leads = begin k bytes.items (slice_get (flows_of plan) k) refl new leads
  step_names (Send k bytes) allowed new leads = send k bytes.items (slice_get (flows_of plan) k) refl new leads
  step_names (Emit u) allowed new (s, p, session, next, e) =
      grown new _ (ap (λ (x : World). x.frames) e)
      (packet_silent (destination_of w.stations s.to) (address_of w.stations u) (destination_below s.to) (below u) p, tt)
  step_names (Take u v) allowed new leads = take u v (w.wire u v) new leads
  step_names (Lose u v) allowed new leads = lose u v (w.wire u v) new leads
  step_names (LateSender u) allowed new (s, p, session, packet, e) =
      grown new _ (ap (λ (x : World). x.frames) e)
      (packet_silent (destination_of w.stations s.to) (address_of w.stations u) (destination_below s.to) (below u) p, tt)
  step_names (LateReceiver u v) allowed new e = grown new _ (ap (λ (x : World). x.frames) e) (packets_silent u v _)
  step_names (Rest u) allowed new e = stays new (ap (λ (x : World). x.frames) e)

named_keep : (plan : Plan) → AreNamesDistinct (units_of plan) → HaveOwnNumbers plan → IsPreserved plan (AreNamed plan)
named_keep plan distinct own w inv step allowed new leads = record {
  stated = reported_keep plan distinct own w inv.stated step allowed new leads;
  each = step_names plan distinct own w inv step allowed new leads;
}

pub all_named : (plan : Plan) → AreNamesDistinct (units_of plan) → HaveOwnNumbers plan → Always plan (AreNamed plan)
all_named plan distinct own =
    always plan (AreNamed plan) (record { stated = all_stated plan distinct own [] all_off refl; each = tt }) (named_keep plan distinct own)

-- and behind one step more
pub next_named : (plan : Plan) → AreNamesDistinct (units_of plan) → HaveOwnNumbers plan → (w : World) → AreNamed plan w → (step : Step) (new : World)
    → Follows plan w step new → AreNamed plan new
next_named plan distinct own w inv step new =
    elim (refusal plan w step)
    as (λ (o : Option StepError). refusal plan w step ≡ o → MatchBool (is_some o) (new ≡ w) (StepsTo plan w step new) → AreNamed plan new) [
      | Some e ↦ λ _ same. subst (AreNamed plan) (sym same) inv
      | None ↦ λ allowed leads. named_keep plan distinct own w inv step allowed new leads
    ] refl
