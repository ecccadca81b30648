-- The raw number last put for a signal, and what is read of it.
use Rattle.std.proofs.Common.{◌≡◌, ◌≢◌, ℕ, ◌<◌, List, [], ◌∷◌, ◌++◌, length, get_or, set, map, All, refl, sym, ◌∙◌, ap, arith}
use Rattle.std.proofs.lemmas.List.{get_or-map, get_or-set_other, get_or-set_same, length-map, length-set}
use Rattle.std.proofs.lemmas.List.Elements.{All-tail}
use Rattle.j39_signal.specs.Bits.{raw_of}
use Rattle.j39_signal.specs.declared.signal_parts.SignalParts.{SignalParts}
use Rattle.j39_signal.specs.Laid.{Write, Chain, last_raws, last_payload, KeepsWrites}
use Rattle.j39_signal.specs.State.{state_of}
use Rattle.j39_network.specs.SoundSignals.{LeaveAlone, ReadsBack, ReadsLastGiven}

untouched : (raws : List ℕ) (writes : List Write) (place : ℕ) → LeaveAlone writes place → get_or (last_raws raws writes) place 0 ≡ get_or raws place 0
untouched raws [] place alone = refl
untouched raws (w ∷ ws) place alone =
    let other : place ≢ w.place = λ same. alone 0 w (omega arith) (sym same) in
    untouched (set raws w.place w.raw) ws place (All-tail (λ v. v.place ≢ place) w ws alone) ∙ get_or-set_other raws w.place place w.raw 0 other

last_put : (raws : List ℕ) (before after : List Write) (w : Write) → w.place < length raws → LeaveAlone after w.place
    → get_or (last_raws raws (before ++ w ∷ after)) w.place 0 ≡ w.raw
last_put raws [] after w less alone = untouched (set raws w.place w.raw) after w.place alone ∙ get_or-set_same raws w.place w.raw 0 less
last_put raws (b ∷ before) after w less alone = last_put (set raws b.place b.raw) before after w (rw length-set less) alone

in_range : (signals : List SignalParts) (payload : List ℕ) (before after : List Write) (w : Write) → Chain signals payload (before ++ w ∷ after)
    → w.place < length signals
in_range signals payload [] after w chain = chain.0.0
in_range signals payload (b ∷ before) after w chain = in_range signals b.payload before after w chain.1

-- the raw number that a signal ends with
ends_with : (start : List ℕ) (signals : List SignalParts) → KeepsWrites start signals → (before after : List Write) (w : Write)
    → Chain signals start (before ++ w ∷ after) → LeaveAlone after w.place
    → (d : SignalParts) → raw_of (last_payload start (before ++ w ∷ after)) (get_or signals w.place d) ≡ w.raw
ends_with start signals keeps before after w chain alone d =
    let less = in_range signals start before after w chain in
    (keeps (before ++ w ∷ after) chain).held w.place less d ∙ last_put (map (raw_of start) signals) before after w (rw length-map less) alone

ends_untouched : (start : List ℕ) (signals : List SignalParts) → KeepsWrites start signals → (writes : List Write) (place : ℕ)
    → Chain signals start writes → LeaveAlone writes place → place < length signals
    → (d : SignalParts) → raw_of (last_payload start writes) (get_or signals place d) ≡ raw_of start (get_or signals place d)
ends_untouched start signals keeps writes place chain alone less d =
    (keeps writes chain).held place less d
    ∙ (untouched (map (raw_of start) signals) writes place alone ∙ get_or-map (raw_of start) signals place d 0 less)

pub reads_last : (start : List ℕ) (signals : List SignalParts) → KeepsWrites start signals → All ReadsBack signals → ReadsLastGiven start signals
reads_last start signals keeps reads = record {
  given = λ before after w chain alone value d is.
      let less = in_range signals start before after w chain in
      ap (state_of (get_or signals w.place d)) (ends_with start signals keeps before after w chain alone d) ∙ (reads w.place d less).values value w.raw is;
  given_up = λ before after w chain alone d ones.
      let less = in_range signals start before after w chain in
      ap (state_of (get_or signals w.place d)) (ends_with start signals keeps before after w chain alone d ∙ ones) ∙ (reads w.place d less).given_up;
  never_given = λ writes place chain alone less d.
      ap (state_of (get_or signals place d)) (ends_untouched start signals keeps writes place chain alone less d);
}
