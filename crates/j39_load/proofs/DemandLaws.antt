-- What is wanted of the broadcasts of units is the same where frames count from the end of their buffering delays, and with what comes of damage.
use Rattle.std.proofs.Common.{◌≡◌, ℕ, suc, ◌+◌, ◌<◌, length, take, get_or, max, Bool, true, cond, ◌&&◌, eqb, ltb, leb, List, [], ◌∷◌, ◌++◌, map, Option, None}
use Rattle.std.proofs.Common.{Some, option_map, refl, sym, ap, ◌∙◌, inl, inr, arith}
use Rattle.std.proofs.Math.Seq.{take-suc}
use Rattle.std.proofs.lemmas.Bool.{and_parts, cases_Bool, eqb-true}
use Rattle.std.proofs.lemmas.List.{append-nil}
use Rattle.std.proofs.lemmas.List.Elements.{filter_map-append}
use Rattle.std.proofs.lemmas.Option.{none-some}
use Rattle.std.specs.List.{cons_option, filter_map, range_with_len}
use Rattle.j39_id.specs.Limits.{unit_limit}
use Rattle.j39_network.specs.declared.plan.timing.Timing.{Timing}
use Rattle.j39_load.specs.declared.frames.broadcast.Broadcast.{Broadcast}
use Rattle.j39_load.specs.declared.frames.broadcast.BroadcastPart.{BroadcastPart}
use Rattle.j39_load.specs.declared.frames.broadcast.BroadcastPart.TheVariants.{Announcements, Packets}
use Rattle.j39_load.specs.declared.frames.flow_frames.FlowFrames.{FlowFrames}
use Rattle.j39_load.specs.AnyQueues.{buffered_for, later_frames, buffered, buffered_at}
use Rattle.j39_load.specs.Damage.{damage_frames, damage_streams, first_of_all}
use Rattle.j39_load.specs.Demands.{demand_by, demands_by, demands_of, most_packets, wanted_by, wants_of}
use Rattle.j39_load.specs.LineLists.{lines_of_each}
use Rattle.j39_timing.specs.FrameStreams.{Origins}
use Rattle.j39_timing.specs.TimedFrames.{Schedule}
use Rattle.j39_timing.specs.Traffic.{AreAsWanted, queuings_in, releases_in}
use Rattle.j39_timing.specs.Waits.{Demand, askers_want, demand_of}
use Rattle.j39_timing.specs.declared.stream.Stream.{Stream}
use Rattle.j39_timing.proofs.Demands.{no_demand, spaced_unwanted}
use Rattle.j39_timing.proofs.Sums.{total-none}
use Rattle.j39_timing.specs.Sums.{total}

-- ---- of two lists in which flows want the same

module _ (xs ys : List (Option FlowFrames)) (same : (u : ℕ) → wants_of xs u ≡ wants_of ys u) where
  each_demand : (part : BroadcastPart) (places : List ℕ)
      → map (λ u. demand_by part (wants_of xs u)) places ≡ map (λ u. demand_by part (wants_of ys u)) places
  each_demand part [] = refl
  each_demand part (u ∷ us) =
      ap (λ (bs : List Broadcast). demand_by part bs ∷ map (λ v. demand_by part (wants_of xs v)) us) (same u)
      ∙ ap (λ (ds : List Demand). demand_by part (wants_of ys u) ∷ ds) (each_demand part us)

  same_demands : demands_of xs ≡ demands_of ys
  same_demands =
      ap (λ (ds : List Demand). ds ++ demands_by Announcements xs) (each_demand Packets (range_with_len 0 unit_limit))
      ∙ ap (λ (ds : List Demand). demands_by Packets ys ++ ds) (each_demand Announcements (range_with_len 0 unit_limit))

-- ---- with what comes of damage

nothing_wanted : (u : ℕ) (streams : List Stream) → filter_map (wanted_by u) (map first_of_all streams) ≡ []
nothing_wanted u [] = refl
nothing_wanted u (stream ∷ streams) = nothing_wanted u streams

pub wants_with_damage : (u : ℕ) (timing : Timing) (asked : List (Option FlowFrames)) → wants_of (asked ++ damage_frames timing) u ≡ wants_of asked u
wants_with_damage u timing asked =
    filter_map-append (wanted_by u) asked (damage_frames timing)
    ∙ ap (λ (bs : List Broadcast). wants_of asked u ++ bs) (nothing_wanted u (damage_streams timing))
    ∙ append-nil (wants_of asked u)

pub demands_with_damage : (timing : Timing) (asked : List (Option FlowFrames)) → demands_of (asked ++ damage_frames timing) ≡ demands_of asked
demands_with_damage timing asked = same_demands (asked ++ damage_frames timing) asked (λ u. wants_with_damage u timing asked)

-- ---- where frames are buffered no longer

module _ (waits : List (Option ℕ)) (u : ℕ) where
  later_wanted : (more : ℕ) (frames : Option FlowFrames) → wanted_by u (option_map (later_frames more) frames) ≡ wanted_by u frames
  later_wanted more None = refl
  later_wanted more (Some f) = refl

  wanted_where_buffered : (place : ℕ) (all : List (Option FlowFrames))
      → filter_map (wanted_by u) (lines_of_each (buffered_at waits) place all) ≡ filter_map (wanted_by u) all
  unfolding lines_of_each
  wanted_where_buffered place [] = refl
  wanted_where_buffered place (frames ∷ all) =
      ap (λ (b : Option Broadcast). cons_option b (filter_map (wanted_by u) (lines_of_each (buffered_at waits) (place + 1) all)))
      (later_wanted (buffered_for waits place) frames)
      ∙ ap (λ (bs : List Broadcast). cons_option (wanted_by u frames) bs) (wanted_where_buffered (place + 1) all)

pub demands_where_buffered : (waits : List (Option ℕ)) (all : List (Option FlowFrames)) → demands_of (buffered waits all) ≡ demands_of all
demands_where_buffered waits all = same_demands (buffered waits all) all (λ u. wanted_where_buffered waits u 0 all)

-- ---- where no planned frame is of a stream of which less may be wanted

pub never_wanted : (s : Schedule) (planned : ℕ → Bool) (of : Origins) (demands : List Demand) (stream : ℕ → Stream)
    → ((p : ℕ) → p < s.count → planned p ≡ true → (stream (of.source p)).wanted ≡ None) → AreAsWanted s planned of demands stream
never_wanted s planned of demands stream none = record {
  by_sender = λ j t span demand its.
      let few : releases_in s planned of j t span ≡ 0 = nothing_of j (λ p. leb t (of.since p) && ltb (of.since p) (t + span)) (λ p in_p is at.
      none-some demand (sym (ap (λ (k : ℕ). demand_of demands (stream k)) (sym at) ∙ no_demand demands (stream (of.source p)) (none p in_p is)) ∙ its)) in
      omega (arith, few);
  by_askers = λ j t span want its.
      let few : queuings_in s planned of j t span ≡ 0 = nothing_of j (λ p. leb t (s.queued p) && ltb (s.queued p) (t + span)) (λ p in_p is at.
      none-some want (sym (ap (λ (k : ℕ). askers_want (stream k)) (sym at) ∙ spaced_unwanted (stream (of.source p)) (none p in_p is)) ∙ its)) in
      omega (arith, few);
}
  where
    nothing_of : (j : ℕ) (inside : ℕ → Bool) → ((p : ℕ) → p < s.count → planned p ≡ true → of.source p ≡ j → ⊥)
        → total s.count (λ p. cond (planned p && (eqb (of.source p) j && inside p)) 1 0) ≡ 0
    nothing_of j inside never = total-none s.count (λ p. cond (planned p && (eqb (of.source p) j && inside p)) 1 0) (λ p in_p.
        elim (cases_Bool (planned p && (eqb (of.source p) j && inside p))) [
          | inr fails ↦ rw (fails) refl
          | inl is ↦
              let one = and_parts (planned p) (eqb (of.source p) j && inside p) is in
              absurd (never p in_p one.0 (eqb-true (of.source p) j (and_parts (eqb (of.source p) j) (inside p) one.1).0))
        ])

-- ---- one flow after another

most_of_more : (bs : List Broadcast) (b : Broadcast) → most_packets (bs ++ b ∷ []) ≡ max b.packets (most_packets bs)
unfolding most_packets
most_of_more [] b = refl
most_of_more (x ∷ bs) b = ap (max x.packets) (most_of_more bs b) ∙ omega arith

pub none_most : most_packets [] ≡ 0
unfolding most_packets
none_most = refl

pub next_most : (bs : List Broadcast) (k : ℕ) (d : Broadcast) → k < length bs
    → most_packets (take (k + 1) bs) ≡ max (get_or bs k d).packets (most_packets (take k bs))
next_most bs k d inside =
    let next : k + 1 ≡ suc k = omega arith in
    ap (λ (n : ℕ). most_packets (take n bs)) next ∙ ap most_packets (take-suc bs k d inside) ∙ most_of_more (take k bs) (get_or bs k d)
