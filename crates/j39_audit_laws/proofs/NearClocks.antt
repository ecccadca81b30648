-- What clocks and marks of streams are that an audit by the bus goes by.
use Rattle.std.proofs.Common.{◌≡◌, ℕ, ◌+◌, ◌-◌, ◌*◌, ◌<◌, ◌≤◌}
use Rattle.std.proofs.Common.{inl, inr, refl, sym, ap, ◌∙◌, subst, arith, Option, Some, None}
use Rattle.std.proofs.lemmas.Bool.{cases_Bool, cond-false, cond-true}
use Rattle.std.proofs.lemmas.Option.{none-some, same_Some}
use Rattle.j39_id.specs.declared.frame.Frame.{Frame}
use Rattle.j39_network.specs.declared.plan.timing.Timing.{Timing}
use Rattle.j39_load.specs.Clocks.{bit_time}
use Rattle.j39_audit.specs.declared.streams.MessageStream.{MessageStream}
use Rattle.j39_network.specs.declared.plan.timing.Bitrate.{Bitrate}
use Rattle.j39_network.specs.declared.plan.timing.Bitrate.TheVariants.{Kbit125, Kbit250, Kbit500, Mbit1}
use Rattle.j39_load.specs.Clocks.{million}
use Rattle.j39_audit.specs.BegunBroadcasts.{BegunBroadcasts, is_packet_to_all, packet_of, packet_with}
use Rattle.j39_audit.specs.MessageStreams.{stream_mark}
use Rattle.j39_audit.specs.Moments.{bit_us}
use Rattle.j39_audit.specs.declared.broadcasts.BegunBroadcast.{BegunBroadcast}
use Rattle.j39_audit.specs.declared.mark.Word.TheVariants.{NearPackets}

-- ---- clocks

pub fast : (b : Bitrate) → bit_time b ≤ 8
fast Kbit125 = omega arith
fast Kbit250 = omega arith
fast Kbit500 = omega arith
fast Mbit1 = omega arith

pub same_bit : (b : Bitrate) → bit_us b ≡ bit_time b
same_bit Kbit125 = refl
same_bit Kbit250 = refl
same_bit Kbit500 = refl
same_bit Mbit1 = refl

-- a time that isn't longer by the clock of a unit isn't in whole bits
no_longer : (b : Bitrate) (ms x y : ℕ) → y * bit_time b * million < (x + 1) * bit_time b * million + 1000 * ms * million
    → y * bit_time b ≤ x * bit_time b + 1000 * ms
no_longer Kbit125 ms x y less = omega (arith, less)
no_longer Kbit250 ms x y less = omega (arith, less)
no_longer Kbit500 ms x y less = omega (arith, less)
no_longer Mbit1 ms x y less = omega (arith, less)

pub within_ms : (b : Bitrate) (drift ms x y : ℕ) → drift ≡ 0
    → y * bit_time b * (million - drift) < (x + 1) * bit_time b * (million - drift) + 1000 * ms * (million + drift)
    → y * bit_time b ≤ x * bit_time b + 1000 * ms
within_ms b drift ms x y none less =
    no_longer b ms x y (subst (λ (d : ℕ). y * bit_time b * (million - d) < (x + 1) * bit_time b * (million - d) + 1000 * ms * (million + d)) none less)

pub packet_mark : (t : Option Timing) (unit : Option ℕ) (f : Frame) (b : BegunBroadcasts) (x : MessageStream) → packet_with t unit f b ≡ Some x
    → (u : ℕ) × (x.mark ≡ stream_mark NearPackets u)
packet_mark None unit f b x e = absurd (none-some x e)
packet_mark (Some t) None f b x e = absurd (none-some x e)
packet_mark (Some t) (Some u) f b x e = of_one (b.begun u) e
  where
    of_one : (o : Option BegunBroadcast) → packet_of t u f o ≡ Some x → (v : ℕ) × (x.mark ≡ stream_mark NearPackets v)
    of_one None is = absurd (none-some x is)
    of_one (Some one) is = elim (cases_Bool (is_packet_to_all f)) [
      | inl packet ↦ (u, sym (ap (λ (y : MessageStream). y.mark) (same_Some _ x (sym (cond-true (is_packet_to_all f) _ None packet) ∙ is))))
      | inr other ↦ absurd (none-some x (sym (cond-false (is_packet_to_all f) _ None other) ∙ is))
    ]
