-- What is so of a group is so of it in the whole.
use Rattle.std.proofs.Common.{◌≡◌, ◌⊎◌, ℕ, ◌+◌, ◌<◌, max, nat_le, Bool, not, ◌&&◌, if◌then◌else◌, List, Option, Some, None, option_map, sym, ap, ◌∙◌, subst}
use Rattle.std.specs.List.{slice_get}
use Rattle.j39_findings.specs.Findings.{EndsOutside, HasBadPgn, HasRecordsOver, IsOutside}
use Rattle.j39_network.specs.PlannedFlows.{IsOneFrameToAll, MayBeOneFrameToAll}
use Rattle.j39_network.specs.PlannedGroups.{IsSelectorInside}
use Rattle.j39_network.specs.declared.plan.flow_plan.FlowPlan.{FlowPlan}
use Rattle.j39_network.specs.declared.plan.group_plan.GroupPlan.{GroupPlan}
use Rattle.j39_network.specs.declared.plan.pace.Pace.{Pace}
use Rattle.j39_network.specs.declared.plan.timing.Timing.{Timing}
use Rattle.j39_network.specs.declared.plan.unit_plan.UnitPlan.{UnitPlan}
use Rattle.j39_search.specs.ListPlaces.{PairAt, ValueAt}
use Rattle.j39_network.specs.SignalPlaces.{room_of_signal}
use Rattle.j39_network.specs.TextPlaces.{last_byte}
use Rattle.j39_network.specs.declared.plan.text_plan.TextPlan.{TextPlan}
use Rattle.j39_signal.specs.declared.signal_parts.SignalParts.{SignalParts}
use Rattle.j39_signal.specs.Places.{IsInside}
use Rattle.j39_load.specs.Loads.{any_unit, bits_at_least, bits_at_most, bits_inside, destination_at, flow_load, greatest_address, has_short, is_always_short}
use Rattle.j39_load.specs.Loads.{least_address, load_of_messages, long_messages, of_unit, packet_frames, single_frames, time_limit}
use Rattle.j39_load.specs.declared.frames.broadcast.Broadcast.{Broadcast}
use Rattle.j39_load.specs.declared.frames.flow_frames.FlowFrames.{FlowFrames}
use Rattle.j39_load.specs.declared.frames.messages.Messages.{Messages}
use Rattle.j39_load.specs.declared.frames.messages.Messages.TheVariants.{Short, ToAll, ToOne}
use Rattle.j39_load.specs.declared.loads.flow_load.FlowLoad.{FlowLoad}
use Rattle.j39_id.specs.Ident.{identifier_of}
use Rattle.j39_id.specs.Limits.{frame_bytes}
use Rattle.j39_network.specs.declared.plan.to.To.{To}
use Rattle.j39_network.specs.declared.plan.to.To.TheVariants.{All as ToAllUnits, One}
use Rattle.j39_signal.specs.declared.selector.Selector.{Selector}
use Rattle.j39_timing.specs.FrameBits.{longest_frame}
use Rattle.j39_tp.specs.Chunks.{packets_of}
use Rattle.j39_part_laws.specs.PlanParts.{IsGroupThere}

abbrev Ends : ℕ → ℕ → SignalParts → Type 0
Ends length most signal = ¬ IsInside (room_of_signal length most signal) signal

abbrev Lies : ℕ → ℕ → TextPlan → Type 0
Lies length most text = (length + 1 < text.byte) ⊎ (most < last_byte text)

module _ (g h : GroupPlan) (is : IsGroupThere g h) where
  pub bad_pgn : HasBadPgn g → HasBadPgn h
  bad_pgn bad = rw (is.pgn, is.private) bad

  pub width : (s : ℕ) (P : SignalParts → Type 0) → ValueAt P g.signals.items s → ValueAt P h.signals.items s
  width s P found = subst (λ signals. ValueAt P signals s) (sym is.signals) found

  pub outside : (s : ℕ) → ValueAt (EndsOutside g) g.signals.items s → ValueAt (EndsOutside h) h.signals.items s
  outside s found = subst (λ n. ValueAt (Ends n h.most) h.signals.items s) (sym is.length)
      (subst (λ n. ValueAt (Ends g.length n) h.signals.items s) (sym is.most)
      (subst (λ signals. ValueAt (EndsOutside g) signals s) (sym is.signals) found))

  pub overlap : (s t : ℕ) (R : SignalParts → SignalParts → Type 0) → PairAt R g.signals.items s t → PairAt R h.signals.items s t
  overlap s t R found = subst (λ signals. PairAt R signals s t) (sym is.signals) found

  pub records : (s t : ℕ) → HasRecordsOver g s t → HasRecordsOver h s t
  records s t found = record {
    every = found.every;
    every_is = is.every ∙ found.every_is;
    first = found.first;
    first_is = ap (λ signals. slice_get signals s) is.signals ∙ found.first_is;
    second = found.second;
    second_is = ap (λ signals. slice_get signals t) is.signals ∙ found.second_is;
    meet = rw (is.every, is.most, is.signals) found.meet;
  }

  pub text_outside : (t : ℕ) → ValueAt (IsOutside g) g.texts.items t → ValueAt (IsOutside h) h.texts.items t
  text_outside t found = subst (λ n. ValueAt (Lies n h.most) h.texts.items t) (sym is.length)
      (subst (λ n. ValueAt (Lies g.length n) h.texts.items t) (sym is.most)
      (subst (λ texts. ValueAt (IsOutside g) texts t) (sym is.texts) found))

  pub selector_outside : ¬ IsSelectorInside g → ¬ IsSelectorInside h
  selector_outside none = rw (is.length, is.when) none

  pub one_frame : IsOneFrameToAll g → IsOneFrameToAll h
  one_frame one = rw (is.pgn, is.most) one

  pub may_be_one_frame : MayBeOneFrameToAll g → MayBeOneFrameToAll h
  may_be_one_frame one = rw (is.pgn, is.length) one

  -- ---- a flow of it asks the same of the bus

  module _ (timing : Timing) (units : List UnitPlan) (stays : UnitPlan → Bool) (flow : FlowPlan) (pace : Pace) where
    abbrev ident : (UnitPlan → ℕ) → ℕ → ℕ → ℕ
    ident read priority pgn = identifier_of priority pgn (destination_at (of_unit units read) flow.to) (of_unit units read flow.sender)

    abbrev place_ident : ℕ → ℕ → ℕ
    place_ident priority pgn = identifier_of priority pgn (destination_at (λ u. u) flow.to) flow.sender

    abbrev single_by : ℕ → ℕ → ℕ → Option Selector → FlowFrames
    single_by most priority pgn when = record {
      stream = record {
        frames = 1;
        period = bits_at_least timing pace.period;
        bits = longest_frame (if nat_le most frame_bytes then most else frame_bytes);
        jitter = bits_at_most timing pace.jitter;
        wanted = None;
      };
      least_ident = ident (least_address stays) priority pgn;
      greatest_ident = ident (greatest_address stays) priority pgn;
      any_sender = any_unit units flow.sender;
      any_receiver = None;
      last_ident = ident (greatest_address stays) priority pgn;
      twin_ident = option_map (λ _. place_ident priority pgn) when;
      want = None;
    }

    same_single : single_frames timing units stays flow pace g ≡ single_frames timing units stays flow pace h
    same_single =
        ap (λ n. single_by n g.priority g.pgn g.when) (sym is.most) ∙ ap (λ n. single_by h.most n g.pgn g.when) (sym is.priority)
        ∙ ap (λ n. single_by h.most h.priority n g.when) (sym is.pgn) ∙ ap (single_by h.most h.priority h.pgn) (sym is.when)

    abbrev broadcast_by : ℕ → ℕ → Broadcast
    broadcast_by most length = record {
      sender = flow.sender;
      packets = packets_of most;
      least_packets = max 2 (packets_of length);
      has_short = nat_le length frame_bytes;
      period = pace.period;
      apart = bits_at_least timing pace.period;
      jitter = bits_at_most timing pace.jitter;
      late = bits_at_most timing pace.jitter;
      deadline = option_map (bits_inside timing) pace.deadline;
      askers = 0;
    }

    same_long : (to : To) → long_messages timing units stays flow pace g to ≡ long_messages timing units stays flow pace h to
    same_long ToAllUnits = ap (λ n. ToAll (broadcast_by n g.length)) (sym is.most) ∙ ap (λ n. ToAll (broadcast_by h.most n)) (sym is.length)
    same_long (One v) = ap (λ n. ToOne (packet_frames timing units stays flow v pace (packets_of n))) (sym is.most)

    abbrev load_by : Bool → Bool → FlowFrames → Messages → FlowLoad
    load_by short has single long = record {
      messages = if short then Short single else long;
      singles = if not short && has then Some single else None;
      limit = time_limit timing pace;
      bits_per_second = load_of_messages timing (if short then Short single else long) pace.period;
    }

    pub same_load : flow_load timing units stays flow pace g ≡ flow_load timing units stays flow pace h
    same_load =
        ap (λ n. load_by (nat_le n frame_bytes) (has_short g) (single_frames timing units stays flow pace g)
        (long_messages timing units stays flow pace g flow.to)) (sym is.most)
        ∙ ap (λ n. load_by (is_always_short h) (nat_le n frame_bytes) (single_frames timing units stays flow pace g)
        (long_messages timing units stays flow pace g flow.to)) (sym is.length)
        ∙ ap (λ x. load_by (is_always_short h) (has_short h) x (long_messages timing units stays flow pace g flow.to)) same_single
        ∙ ap (load_by (is_always_short h) (has_short h) (single_frames timing units stays flow pace h)) (same_long flow.to)
