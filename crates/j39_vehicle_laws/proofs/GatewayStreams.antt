-- What comes over gateways, and how old it is.
use Rattle.std.proofs.Common.{List, [], ◌∷◌, ◌≡◌, ◌≢◌, ℕ, ◌+◌, ◌-◌, ◌*◌, ◌<◌, ◌≤◌, ◌⊎◌, inl, inr, arith}
use Rattle.j39_timing.specs.FreshFrames.{KeepsComing}
use Rattle.j39_timing.specs.Traffic.{IsStreamInTime, delay_of}
use Rattle.j39_vehicle_laws.proofs.Clocks.{before_in_time, bit_at, bits_in_order, in_time_order, lasts_at_most}
use Rattle.j39_vehicle_laws.specs.Gateways.{Carrier, IsClock, IsIts, KeepsReleasing, end_time, queue_time, time_of, Comes, IsYoung, HasOwnReleases, IsOldAtMost, KeepTo, HandsOn, SendsNewest}
use Rattle.j39_vehicle_laws.specs.Gateways.{IsHandedOn, AreApart, EndWithin, KeepsToStream, Coming, ComesSo, age_of, Mode, directly, at_its_beat, Hop, coming_behind}
use Rattle.j39_vehicle_laws.specs.Gateways.{IsPrompt, IsInTimeThere, AreHops, last_of, coming_at_last}
use Rattle.j39_timing.specs.declared.stream.Stream.{Stream}

-- a stream that is in time on its bus and keeps coming there, whose releases are the bus's own
pub comes_by_itself : (x : Carrier) (stream : Stream) (wait interval old from to early : ℕ) → IsClock x.clock
    → IsStreamInTime x.schedule x.planned x.of x.source stream wait → KeepTo x stream → HasOwnReleases x
    → KeepsReleasing x interval from to → to + x.clock.longest * (stream.jitter + wait) < time_of x.clock x.schedule.now
    → early + interval ≤ from → IsOldAtMost x old early to
    → Comes x old interval (x.clock.longest * delay_of stream wait) from to
comes_by_itself x stream wait interval old from to early clock in_time keeps own coming seen before young t low high =
    let (p, its, since, near) = coming t low high in
    let at : x.release p ≡ time_of x.clock (x.of.since p) = own p its in
    let until : time_of x.clock (x.of.since p + (stream.jitter + wait)) ≤ time_of x.clock (x.of.since p) + x.clock.longest * (stream.jitter + wait) =
    clock.at_most (x.of.since p) (stream.jitter + wait) in
    let soon : x.of.since p + (stream.jitter + wait) < x.schedule.now = bits_in_order x.clock clock _ _ (omega (arith, at, until, since, high, seen)) in
    let (begun, ended) = in_time p its.0 its.1 its.2 soon in
    let (small, queued) = keeps p its in
    let end : end_time x p ≤ time_of x.clock (x.of.since p) + x.clock.longest * delay_of stream wait = lasts_at_most x.clock clock _ _ _ ended in
    (p, (its, omega arith), since, near, omega (arith, at, end), young p its (omega arith) (omega arith))

-- where releases come in bits they come in time
pub comes_in_time : (x : Carrier) (pause from to : ℕ) → IsClock x.clock → HasOwnReleases x
    → KeepsComing x.schedule x.planned x.of x.source pause from to
    → KeepsReleasing x (x.clock.longest * pause) (time_of x.clock from) (time_of x.clock to)
comes_in_time x pause from to clock own coming t low high =
    let above : time_of x.clock to < time_of x.clock (to + 1) = before_in_time x.clock clock to (to + 1) (omega arith) in
    let (b, lower, floor, next) = bit_at x.clock clock from (to + 1) t low (omega (arith, high, above)) in
    let upper : b < to + 1 = bits_in_order x.clock clock b (to + 1) (omega (arith, floor, high, above)) in
    let (p, in_p, is, source, since, near) = coming b lower (omega (arith, upper)) in
    let at : x.release p ≡ time_of x.clock (x.of.since p) = own p (in_p, is, source) in
    let order : time_of x.clock (x.of.since p) ≤ time_of x.clock b = in_time_order x.clock clock (x.of.since p) b since in
    let last : time_of x.clock (b + 1) ≤ time_of x.clock (x.of.since p) + x.clock.longest * pause =
    lasts_at_most x.clock clock (x.of.since p) (b + 1) pause (omega (arith, near)) in
    (p, (in_p, is, source), omega (arith, at, order, floor), omega (arith, at, last, next))

-- and where they are as far apart in bits they are so in time
pub apart_in_time : (x : Carrier) (period : ℕ) → IsClock x.clock → HasOwnReleases x
    → ((p q : ℕ) → IsIts x p → IsIts x q → p ≢ q → (x.of.since p + period ≤ x.of.since q) ⊎ (x.of.since q + period ≤ x.of.since p))
    → AreApart x (x.clock.shortest * period)
apart_in_time x period clock own spaced p q its other differ = elim (spaced p q its other differ) [
  | inl ahead ↦ inl (later p q its other ahead)
  | inr behind ↦ inr (later q p other its behind)
] where
  later : (p q : ℕ) → IsIts x p → IsIts x q → x.of.since p + period ≤ x.of.since q → x.release p + x.clock.shortest * period ≤ x.release q
  later p q its other ahead =
      let at : x.release p ≡ time_of x.clock (x.of.since p) = own p its in
      let there : x.release q ≡ time_of x.clock (x.of.since q) = own q other in
      let least : time_of x.clock (x.of.since p) + x.clock.shortest * period ≤ time_of x.clock (x.of.since p + period) = clock.at_least (x.of.since p) period in
      let order : time_of x.clock (x.of.since p + period) ≤ time_of x.clock (x.of.since q) = in_time_order x.clock clock _ _ ahead in
      omega (arith, at, there, least, order)

-- handed on directly
pub comes_directly : (x y : Carrier) (stream : Stream) (wait within old interval behind from to : ℕ) → IsClock y.clock
    → Comes x old interval behind from to → HandsOn x y within
    → IsStreamInTime y.schedule y.planned y.of y.source stream wait → KeepTo y stream
    → ((q : ℕ) → IsIts y q → time_of y.clock (y.of.since q) ≤ y.release q)
    → to + y.clock.longest * (stream.jitter + wait) < time_of y.clock y.schedule.now
    → Comes y old interval (behind + (within + y.clock.longest * (wait + stream.bits))) from to
comes_directly x y stream wait within old interval behind from to clock coming hands in_time keeps floor seen t low high =
    let (p, its, before, near, ended, young) = coming t low high in
    let (q, (in_q, is, source), queued, release, born) = hands p its in
    let (small, late) = keeps q (in_q, is, source) in
    let at : time_of y.clock (y.of.since q) ≤ y.release q = floor q (in_q, is, source) in
    let until : time_of y.clock (y.of.since q + (stream.jitter + wait)) ≤ time_of y.clock (y.of.since q) + y.clock.longest * (stream.jitter + wait) =
    clock.at_most (y.of.since q) (stream.jitter + wait) in
    let early : y.of.since q + (stream.jitter + wait) < y.schedule.now = bits_in_order y.clock clock _ _ (omega (arith, at, until, release, before, high, seen)) in
    let (begun, over) = in_time q in_q is source early in
    let end : end_time y q ≤ queue_time y q + y.clock.longest * (wait + stream.bits) =
    lasts_at_most y.clock clock (y.schedule.queued q) (y.schedule.start q + y.schedule.bits q) (wait + stream.bits) (omega arith) in
    (q, ((in_q, is, source), omega arith), omega arith, omega arith, omega (arith, end, queued, ended, release), omega arith)

-- what comes is young
pub comes_young : (x : Carrier) (old interval behind from to : ℕ) → Comes x old interval behind from to
    → IsYoung x (old + (interval + behind)) (from + behind) (to + behind)
comes_young x old interval behind from to coming t low high =
    let (p, its, before, near, ended, young) = coming (t - behind) (omega arith) (omega arith) in
    (p, its, omega arith, omega arith)

-- and so is what is sent of it at its own beat, at its releases
pub old_at_most : (x y : Carrier) (within age from to : ℕ) → IsYoung x age from to → SendsNewest x y within
    → IsOldAtMost y (age + within) (from + within) (to + within)
old_at_most x y within age from to young sends q its low high =
    let (p, begun, ended, near) = young (y.release q - within) (omega arith) (omega arith) in
    let newer : x.born p ≤ y.born q = sends p q begun its (omega arith) in
    omega arith

-- what is handed on directly keeps to the stream that is planned for it
pub keeps_to_stream : (x y : Carrier) (within behind period late apart : ℕ) → IsClock y.clock → EndWithin x behind → IsHandedOn x y within → AreApart x apart
    → behind + within ≤ y.clock.shortest * late → y.clock.longest * period ≤ apart → KeepsToStream y period late
keeps_to_stream x y within behind period late apart clock ends handed far room often = record {
  release_first = λ q its. first q its;
  jitter_at_most = λ q its. most q its;
  spaced = λ p q its other differ. spaced p q its other differ;
} where
  first : (q : ℕ) → IsIts y q → y.of.since q ≤ y.schedule.queued q
  first q its =
      let (from, to) = ends (handed.what q) (handed.begun q its) in
      let at : y.release q ≡ x.release (handed.what q) = handed.releases q its in
      let after : end_time x (handed.what q) ≤ queue_time y q = handed.after q its in
      let low : time_of y.clock (y.of.since q) ≤ y.release q = handed.first_bit q its in
      let next : queue_time y q < time_of y.clock (y.schedule.queued q + 1) = before_in_time y.clock clock _ _ (omega arith) in
      let less : y.of.since q < y.schedule.queued q + 1 = bits_in_order y.clock clock _ _ (omega (arith, from, at, after, low, next)) in
      omega arith

  most : (q : ℕ) → IsIts y q → y.schedule.queued q ≤ y.of.since q + late
  most q its =
      let (from, to) = ends (handed.what q) (handed.begun q its) in
      let at : y.release q ≡ x.release (handed.what q) = handed.releases q its in
      let by : queue_time y q ≤ end_time x (handed.what q) + within = handed.within_time q its in
      let high : y.release q < time_of y.clock (y.of.since q + 1) = handed.last_bit q its in
      let least : time_of y.clock (y.of.since q + 1) + y.clock.shortest * late ≤ time_of y.clock (y.of.since q + 1 + late) = clock.at_least (y.of.since q + 1) late in
      let less : y.schedule.queued q < y.of.since q + 1 + late = bits_in_order y.clock clock _ _ (omega (arith, to, at, by, high, least, room)) in
      omega arith

  later : (p q : ℕ) → IsIts y p → IsIts y q → y.release p + apart ≤ y.release q → y.of.since p + period ≤ y.of.since q
  later p q its other far_on =
      let low : time_of y.clock (y.of.since p) ≤ y.release p = handed.first_bit p its in
      let high : y.release q < time_of y.clock (y.of.since q + 1) = handed.last_bit q other in
      let last : time_of y.clock (y.of.since p + period) ≤ time_of y.clock (y.of.since p) + y.clock.longest * period = clock.at_most (y.of.since p) period in
      let less : y.of.since p + period < y.of.since q + 1 = bits_in_order y.clock clock _ _ (omega (arith, low, high, last, often, far_on)) in
      omega arith

  spaced : (p q : ℕ) → IsIts y p → IsIts y q → p ≢ q → (y.of.since p + period ≤ y.of.since q) ⊎ (y.of.since q + period ≤ y.of.since p)
  spaced p q its other differ =
      let at : y.release p ≡ x.release (handed.what p) = handed.releases p its in
      let there : y.release q ≡ x.release (handed.what q) = handed.releases q other in
      elim (far (handed.what p) (handed.what q) (handed.begun p its).0 (handed.begun q other).0 (handed.different p q its other differ)) [
        | inl before ↦ inl (later p q its other (omega arith))
        | inr behind_it ↦ inr (later q p other its (omega arith))
      ]

-- one gateway
comes_behind : (x : Carrier) (c : Coming) (h : Hop) (mode : Mode) → ComesSo x c → IsInTimeThere h → IsPrompt x c h mode → ComesSo h.to (coming_behind h mode c)
comes_behind x c h directly coming there prompt =
    comes_directly x h.to h.stream h.wait h.within c.old c.interval c.behind c.from c.to there.0 coming prompt.0 there.1 there.2 prompt.1 prompt.2
comes_behind x c h (at_its_beat interval first last) coming there prompt =
    let (newest, own, keeps_releasing, seen, early, until) = prompt in
    let young = comes_young x c.old c.interval c.behind c.from c.to coming in
    let old : IsOldAtMost h.to (age_of c + h.within) (c.from + c.behind + h.within) (c.to + c.behind + h.within) =
    old_at_most x h.to h.within (age_of c) (c.from + c.behind) (c.to + c.behind) young newest in
    comes_by_itself h.to h.stream h.wait interval (age_of c + h.within) first last (c.from + c.behind + h.within) there.0 there.1 there.2 own keeps_releasing
    seen early
    (λ p its low high. old p its low (omega arith))

-- and all of a way
pub comes_over : (x : Carrier) (c : Coming) (hops : List Hop) → ComesSo x c → AreHops x c hops → ComesSo (last_of x hops) (coming_at_last c hops)
unfolding AreHops last_of coming_at_last
comes_over x c [] coming way = coming
comes_over x c (h ∷ hs) coming way = comes_over h.to (coming_behind h h.mode c) hs (comes_behind x c h h.mode coming way.0 way.1) way.2

pub young_at_last : (x : Carrier) (c : Coming) (hops : List Hop) → ComesSo x c → AreHops x c hops → let d = coming_at_last c hops in
    IsYoung (last_of x hops) (age_of d) (d.from + d.behind) (d.to + d.behind)
young_at_last x c hops coming way = let d = coming_at_last c hops in
    comes_young (last_of x hops) d.old d.interval d.behind d.from d.to (comes_over x c hops coming way)
