-- What was done of a schedule, line after line, and the text of it.
use Rattle.std.proofs.Common.{◌≡◌, ◌↔◌, IsTrue, ℕ, ◌+◌, ◌≤◌, Bool, List, [], ◌∷◌, ◌++◌, length, map, drop, refl, sym, ap, ◌∙◌, subst, append_assoc, Option}
use Rattle.std.proofs.Common.{Some}
use Rattle.std.proofs.Common.{None, Err}
use Rattle.std.proofs.lemmas.List.{append-nil, length-append, length-map, map-append}
use Rattle.std.specs.List.{range_with_len}
use Rattle.j39_id.specs.Lines.{Line, lines}
use Rattle.j39_id.specs.declared.frame.Frame.{Frame}
use Rattle.j39_network.specs.declared.plan.Plan.{Plan}
use Rattle.j39_network.specs.declared.steps.Step.{Step}
use Rattle.j39_world.specs.declared.step_error.StepError.{StepError}
use Rattle.j39_bus.specs.BusState.{BusState, undelivered}
use Rattle.j39_network.specs.PlannedUnits.{planned_unit}
use Rattle.j39_bus.specs.Stations.{station_at}
use Rattle.j39_world.specs.Run.{StepsTo, refusal}
use Rattle.j39_world.specs.Sent.{sent_of}
use Rattle.j39_world.specs.Sound.{IsQuiet}
use Rattle.j39_bus.specs.Stands.{Stands}
use Rattle.j39_world.specs.World.{Stations, World, all_off}
use Rattle.j39_schedule.specs.Schedule.{Reading, line_order, read_as, readings_of}
use Rattle.j39_schedule.specs.declared.line_fault.LineFault.{LineFault}
use Rattle.j39_run.specs.RunText.{EndsAt, IsBusText, IsFull, RunsWithin, closing_text, end_text, most_frames, sent_lines, steps_of}
use Rattle.j39_run.specs.Views.{Shows, View, unit_state}
use Rattle.j39_run.specs.declared.halt.Halt.{Halt}
use Rattle.j39_run.specs.declared.halt.Halt.TheVariants.{End, Step as AtStep, Line as AtLine, Full}
use Rattle.j39_run.specs.inside.Doing.{HasDone, HasSentAll, HasShown}
use Rattle.j39_run.proofs.Frames.{lines_grow}
use Rattle.j39_run.proofs.Quiet.{quiet_test}

-- ---- line after line

steps-append : (os ps : List (Option Step)) → steps_of (os ++ ps) ≡ steps_of os ++ steps_of ps
steps-append [] ps = refl
steps-append (None ∷ os) ps = steps-append os ps
steps-append (Some step ∷ os) ps = ap (λ (l : List Step). step ∷ l) (steps-append os ps)

runs-append : (plan : Plan) (w : World) (done : List Step) (mid : World) (more : List Step) (after : World) → RunsWithin plan w done mid
    → RunsWithin plan mid more after → RunsWithin plan w (done ++ more) after
runs-append plan w [] mid more after ran runs = subst (λ (v : World). RunsWithin plan v more after) ran runs
runs-append plan w (s ∷ done) mid more after (next, room, may, goes, ran) runs = (next, room, may, goes, runs-append plan next done mid more after ran runs)

-- the bus has sent what its world has
sent_alike : (plan : Plan) (b : BusState) (w : World) → Stands b plan w → length w.frames ≡ length b.frames
sent_alike plan b w s = ap (λ (v : World). length v.frames) s.world

-- so there is room for a step in the one where there is in the other
room_there : (plan : Plan) (b : BusState) (w : World) → Stands b plan w → ¬ HasSentAll b → ¬ IsFull w
room_there plan b w s room full = room (subst (λ (n : ℕ). most_frames ≤ n) (sent_alike plan b w s) full)

full_there : (plan : Plan) (b : BusState) (w : World) → Stands b plan w → HasSentAll b → IsFull w
full_there plan b w s full = subst (λ (n : ℕ). most_frames ≤ n) (sym (sent_alike plan b w s)) full

pub nothing_done : (plan : Plan) (b : BusState) → Stands b plan all_off → HasDone plan b [] 0 [] []
unfolding sent_lines
nothing_done plan b s = record {
  orders = [];
  read = refl;
  count = refl;
  world = all_off;
  ran = refl;
  stands = s;
  shown = ap (λ (v : World). sent_lines v.frames) s.world;
}

-- one more line
one_more : (plan : Plan) (old new : BusState) (ls : List Line) (l : Line) (order : Option Step) (place : ℕ) (written text more : List ℕ) (after : World)
    → (h : HasDone plan old ls place written text) → line_order plan l ≡ read_as order → RunsWithin plan h.world (steps_of (order ∷ [])) after
    → Stands new plan after
    → written ++ more ≡ sent_lines new.frames → HasDone plan new (ls ++ l ∷ []) (place + 1) written more
one_more plan old new ls l order place written text more after h is runs s shown = record {
  orders = h.orders ++ order ∷ [];
  read = map-append (line_order plan) ls (l ∷ []) ∙ ap (λ (r : List Reading). r ++ line_order plan l ∷ []) h.read
      ∙ ap (λ (r : Reading). map read_as h.orders ++ r ∷ []) is
      ∙ sym (map-append read_as h.orders (order ∷ []));
  count = length-append h.orders (order ∷ []) ∙ ap (λ (n : ℕ). n + 1) h.count;
  world = after;
  ran = subst (λ (steps : List Step). RunsWithin plan all_off steps after) (sym (steps-append h.orders (order ∷ [])))
      (runs-append plan all_off (steps_of h.orders) h.world (steps_of (order ∷ [])) after h.ran runs);
  stands = s;
  shown = shown;
}

pub blank_done : (plan : Plan) (b : BusState) (ls : List Line) (l : Line) (place : ℕ) (written text : List ℕ) → HasDone plan b ls place written text
    → line_order plan l ≡ read_as None → HasDone plan b (ls ++ l ∷ []) (place + 1) written text
blank_done plan b ls l place written text h is = one_more plan b b ls l None place written text text h.world h is refl h.stands h.shown

pub step_done : (plan : Plan) (old new : BusState) (ls : List Line) (l : Line) (step : Step) (place : ℕ) (written text more : List ℕ)
    → HasDone plan old ls place written text → line_order plan l ≡ read_as (Some step) → ¬ HasSentAll old → HasShown step old new text more
    → HasDone plan new (ls ++ l ∷ []) (place + 1) written more
step_done plan old new ls l step place written text more h is room done =
    let (allowed, (after, leads, s)) = done.leads plan h.world h.stands in
    one_more plan old new ls l (Some step) place written text more after h is (after, room_there plan old h.world h.stands room, allowed, leads, refl) s
    (done.shown plan h.world h.stands written h.shown)

-- the frames that a step sends are written behind those before them
pub has_stepped : (step : Step) (old new : BusState) (text more : List ℕ) (before now : List Frame) (place : ℕ)
    → ((p : Plan) (w : World) → Stands old p w → (refusal p w step ≡ None) × ((after : World) × StepsTo p w step after × Stands new p after))
    → map sent_of before ≡ old.frames → map sent_of now ≡ new.frames → place ≡ length before → more ≡ text ++ sent_lines (map sent_of (drop place now))
    → HasShown step old new text more
has_stepped step old new text more before now place leads had has at more_is = record {
  leads = leads;
  shown = λ plan w stands written so_far.
      let (allowed, (after, goes, s)) = leads plan w stands in
      let sent : List ℕ = sent_lines (map sent_of (drop place now)) in
      ap (λ (t : List ℕ). written ++ t) more_is ∙ sym (append_assoc written text sent) ∙ ap (λ (t : List ℕ). t ++ sent) so_far
      ∙ lines_grow plan old new w after step before now place stands goes s had has at;
}

-- what was to be written is written
pub put_done : (plan : Plan) (b : BusState) (ls : List Line) (place : ℕ) (written text rest : List ℕ) → rest ≡ [] → HasDone plan b ls place written text
    → HasDone plan b ls place (written ++ text) rest
put_done plan b ls place written text rest empty h = record {
  orders = h.orders;
  read = h.read;
  count = h.count;
  world = h.world;
  ran = h.ran;
  stands = h.stands;
  shown = ap (λ (t : List ℕ). (written ++ text) ++ t) empty ∙ append-nil (written ++ text) ∙ h.shown;
}

-- ---- what is seen

pub unit_count : (b : BusState) (plan : Plan) (w : World) → Stands b plan w → length b.units ≡ length plan.units.items
unit_count b plan w s = sym (length-map b.units (λ c. c.planned)) ∙ ap length s.planned.units ∙ length-map plan.units.items (planned_unit plan.keep_free)

abbrev pub seen_of : Plan → BusState → Bool → View
seen_of plan b settled = record {
  frames = b.frames;
  units = map (λ u. unit_state (station_at b.units u)) (range_with_len 0 (length plan.units.items));
  settled = settled;
  reports = b.reports;
}

pub shown : (plan : Plan) (b : BusState) (settled : Bool) → (IsTrue settled ↔ IsQuiet (undelivered b)) → (w : World) → Stands b plan w
    → Shows plan w (seen_of plan b settled)
shown plan b settled quiet w s = record {
  frames = sym (ap (λ (v : World). v.frames) s.world);
  units = ap (λ (f : Stations). map (λ u. unit_state (f u)) (range_with_len 0 (length plan.units.items))) (sym (ap (λ (v : World). v.stations) s.world));
  settled = subst (λ c. IsTrue settled ↔ IsQuiet c) (sym (ap (λ (v : World). v.claims) s.world)) quiet;
  reports = sym (ap (λ (v : World). v.reports) s.world);
}

-- there is something to be seen
pub some_view : (plan : Plan) (b : BusState) → (view : View) × ((w : World) → Stands b plan w → Shows plan w view)
some_view plan b = let (settled, quiet) = quiet_test b in (seen_of plan b settled, shown plan b settled quiet)

-- ---- the text

module _ (plan : Plan) (b : BusState) (ls : List Line) (place : ℕ) (written text : List ℕ) (h : HasDone plan b ls place written text) (view : View)
    (shows : (w : World) → Stands b plan w → Shows plan w view) where
  written_so : (halt : Halt) → written ++ (text ++ closing_text plan view halt) ≡ end_text plan view halt
  unfolding end_text
  written_so halt =
      let frames : b.frames ≡ view.frames = sym (ap (λ (v : World). v.frames) h.stands.world) ∙ sym (shows h.world h.stands).frames in
      sym (append_assoc written text (closing_text plan view halt)) ∙ ap (λ (t : List ℕ). t ++ closing_text plan view halt) (h.shown ∙ ap sent_lines frames)

  text_at : (input : List ℕ) (halt : Halt) → EndsAt plan (readings_of plan input) h.world halt
      → IsBusText plan input halt (written ++ (text ++ closing_text plan view halt))
  text_at input halt ends = (h.world, view, ends, shows h.world h.stands, written_so halt)

  -- all lines are done
  pub end_done : (input : List ℕ) → ls ≡ lines input → IsBusText plan input End (written ++ (text ++ closing_text plan view End))
  end_done input all = text_at input End (h.orders, ap (map (line_order plan)) (sym all) ∙ h.read, h.ran)

  -- what is read where the next line is read so
  readings_at : (input : List ℕ) (l : Line) (rest : List Line) (reading : Reading) → lines input ≡ (ls ++ l ∷ []) ++ rest → line_order plan l ≡ reading
      → readings_of plan input ≡ map read_as h.orders ++ reading ∷ map (line_order plan) rest
  readings_at input l rest reading is reads =
      ap (map (line_order plan)) (is ∙ append_assoc ls (l ∷ []) rest) ∙ map-append (line_order plan) ls (l ∷ rest)
      ∙ ap (λ (r : List Reading). r ++ line_order plan l ∷ map (line_order plan) rest) h.read
      ∙ ap (λ (r : Reading). map read_as h.orders ++ r ∷ map (line_order plan) rest) reads

  -- the next line can't be read
  pub line_refused : (input : List ℕ) (l : Line) (rest : List Line) (fault : LineFault) → lines input ≡ (ls ++ l ∷ []) ++ rest → line_order plan l ≡ Err fault
      → IsBusText plan input (AtLine place fault) (written ++ (text ++ closing_text plan view (AtLine place fault)))
  line_refused input l rest fault is bad =
      text_at input (AtLine place fault) (
        h.orders,
        map (line_order plan) rest,
        readings_at input l rest (Err fault) is bad,
        h.count,
        h.ran,
      )

  -- its step is refused
  pub step_refused : (input : List ℕ) (l : Line) (rest : List Line) (step : Step) (cause : StepError) → lines input ≡ (ls ++ l ∷ []) ++ rest
      → line_order plan l ≡ read_as (Some step) → ¬ HasSentAll b
      → ((w : World) → Stands b plan w → refusal plan w step ≡ Some cause)
      → IsBusText plan input (AtStep place cause) (written ++ (text ++ closing_text plan view (AtStep place cause)))
  step_refused input l rest step cause is good room refuses =
      text_at input (AtStep place cause) (
        h.orders,
        step,
        map (line_order plan) rest,
        readings_at input l rest (read_as (Some step)) is good,
        h.count,
        h.ran,
        room_there plan b h.world h.stands room,
        refuses h.world h.stands,
      )

  -- no more frames may be sent
  pub step_too_many : (input : List ℕ) (l : Line) (rest : List Line) (step : Step) → lines input ≡ (ls ++ l ∷ []) ++ rest
      → line_order plan l ≡ read_as (Some step) → HasSentAll b
      → IsBusText plan input (Full place) (written ++ (text ++ closing_text plan view (Full place)))
  step_too_many input l rest step is good full =
      text_at input (Full place) (
        h.orders,
        step,
        map (line_order plan) rest,
        readings_at input l rest (read_as (Some step)) is good,
        h.count,
        h.ran,
        full_there plan b h.world h.stands full,
      )
