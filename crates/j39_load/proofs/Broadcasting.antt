-- Broadcasts, one after another.
use Rattle.std.proofs.Common.{◌≡◌, ℕ, suc, ◌+◌, ◌<◌, ◌≤◌, List, [], ◌∷◌, ◌++◌, length, length-append, take, get_or, min, All, refl, sym, ap, ◌∙◌, arith}
use Rattle.std.proofs.Common.{false, Option, Some, None}
use Rattle.std.proofs.Math.Seq.{take-suc}
use Rattle.std.proofs.lemmas.List.{append-nil, take_more}
use Rattle.std.proofs.lemmas.List.Elements.{All-append, All-cons, filter_map-append}
use Rattle.std.specs.List.{cons_option, filter_map}
use Rattle.j39_load.specs.declared.frames.broadcast.Broadcast.{Broadcast}
use Rattle.j39_load.specs.Broadcasts.{announced_packets, least_announced, least_packets}
use Rattle.j39_load.specs.SoundLoads.{IsSoundBroadcast}

-- one of which nothing is reported
abbrev pub no_broadcast : Broadcast
no_broadcast = record
    { sender = 0; packets = 0; least_packets = 0; has_short = false; period = 0; apart = 0; jitter = 0; late = 0; askers = 0; deadline = None }

-- ---- the least count of some broadcasts

-- the least of so many of them, of which there is some
pub record IsLeastOf (least_of : List Broadcast → ℕ) (bs : List Broadcast) (k n : ℕ) : Type 0 where
  pub least : n ≡ least_of (take k bs)
  pub some : 1 ≤ n

module _ (count : Broadcast → ℕ) (least_of : List Broadcast → ℕ) (none : least_of [] ≡ 255)
    (first : (b : Broadcast) (bs : List Broadcast) → least_of (b ∷ bs) ≡ min (count b) (least_of bs)) where
  of_one_more : (bs : List Broadcast) (b : Broadcast) → least_of (bs ++ b ∷ []) ≡ min (count b) (least_of bs)
  of_one_more [] b = first b []
  of_one_more (x ∷ bs) b =
      let more = first x (bs ++ b ∷ []) in
      let rest = of_one_more bs b in
      let all = first x bs in
      omega (arith, more, rest, all)

  -- with the next one
  pub next_least : (bs : List Broadcast) (k least next : ℕ) (d : Broadcast) → k < length bs → IsLeastOf least_of bs k least
      → next ≡ min (count (get_or bs k d)) least → 1 ≤ count (get_or bs k d) → IsLeastOf least_of bs (k + 1) next
  next_least bs k least next d inside old smaller some =
      let up : k + 1 ≡ suc k = omega arith in
      let taken : least_of (take (k + 1) bs) ≡ min (count (get_or bs k d)) (least_of (take k bs)) =
      ap (λ (n : ℕ). least_of (take n bs)) up ∙ ap least_of (take-suc bs k d inside) ∙ of_one_more (take k bs) (get_or bs k d) in
      let before = old.least in
      let positive = old.some in
      record { least = omega (arith, smaller, before, taken); some = omega (arith, smaller, some, positive) }

-- of their packets
pub no_packets : least_packets [] ≡ 255
unfolding least_packets
no_packets = refl

pub first_packets : (b : Broadcast) (bs : List Broadcast) → least_packets (b ∷ bs) ≡ min b.least_packets (least_packets bs)
unfolding least_packets
first_packets b bs = refl

-- of those that are announced
pub none_announced : least_announced [] ≡ 255
unfolding least_announced
none_announced = refl

pub first_announced : (b : Broadcast) (bs : List Broadcast) → least_announced (b ∷ bs) ≡ min (announced_packets b) (least_announced bs)
unfolding least_announced
first_announced b bs = refl

-- ---- what is kept of a list, one value after another

-- of the values before a place these are kept
pub record AreKept {X : Type 0} (keep : Option X → Option Broadcast) (xs : List (Option X)) (k : ℕ) (kept : List Broadcast) : Type 0 where
  pub these : kept ≡ filter_map keep (take k xs)
  pub sound : All IsSoundBroadcast kept
  pub few : length kept ≤ k

module _ {X : Type 0} (keep : Option X → Option Broadcast) (xs : List (Option X)) (k : ℕ) (inside : k < length xs) (kept : List Broadcast)
    (old : AreKept keep xs k kept) where
  next : (o : Option Broadcast) → keep (get_or xs k None) ≡ o → filter_map keep (take (k + 1) xs) ≡ filter_map keep (take k xs) ++ cons_option o []
  next o is =
      ap (filter_map keep) (take_more xs k None inside) ∙ filter_map-append keep (take k xs) (get_or xs k None ∷ [])
      ∙ ap (λ (x : Option Broadcast). filter_map keep (take k xs) ++ cons_option x []) is

  pub one_kept : (b : Broadcast) → keep (get_or xs k None) ≡ Some b → IsSoundBroadcast b → AreKept keep xs (k + 1) (kept ++ b ∷ [])
  one_kept b is sound = record {
    these = ap (λ (bs : List Broadcast). bs ++ b ∷ []) old.these ∙ sym (next (Some b) is);
    sound = All-append IsSoundBroadcast kept (b ∷ []) old.sound (All-cons IsSoundBroadcast b [] sound (λ j d below. absurd (omega arith)));
    few = omega (arith, length-append kept (b ∷ []), old.few);
  }

  pub none_kept : keep (get_or xs k None) ≡ None → AreKept keep xs (k + 1) kept
  none_kept is = record {
    these = old.these ∙ sym (next None is ∙ append-nil (filter_map keep (take k xs)));
    sound = old.sound;
    few = omega (arith, old.few);
  }
