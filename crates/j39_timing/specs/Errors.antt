-- A bus on which frames are damaged: an error frame follows at once, and the frame takes part again (ISO 11898-1).
use Rattle.std.specs.Prelude.{◌≡◌, ℕ, ◌+◌, ◌-◌, ◌<◌, ◌≤◌, ◌⊎◌, Bool, true, false, cond, nat_lt}
use Rattle.j39_timing.specs.FrameBits.{error_frame, longest_frame}
use Rattle.j39_timing.specs.AnyOrder.{Controllers, MayArbitrate}
use Rattle.j39_timing.specs.TimedFrames.{Schedule, IsOnBusAt, Waits}

-- attempts to send frames of a schedule that were damaged
pub record Damaged : Type 0 where
  -- how many; each has a place below it
  pub count : ℕ
  -- the frame, by its place
  pub frame : ℕ → ℕ
  -- the first bit of the attempt
  pub begin : ℕ → ℕ
  -- how many bits of it were sent
  pub sent : ℕ → ℕ
  -- the bits of the error frame behind it, with what has to pass before the next frame
  pub error : ℕ → ℕ
  -- the unit went off in the attempt: it is of no frame of the schedule, and isn't made again
  pub lost : ℕ → Bool

-- bit t of the bus is one of the attempt's, or of the error frame behind it
abbrev pub IsDamagedAt : Damaged → ℕ → ℕ → Type 0
IsDamagedAt d e t = (d.begin e ≤ t) × (t < d.begin e + (d.sent e + d.error e))

-- one frame or one damaged attempt at a time, whichever goes first
pub record AreAttemptsApart (s : Schedule) (d : Damaged) : Type 0 where
  pub positive : (p : ℕ) → p < s.count → 1 ≤ s.bits p
  pub queued_first : (p : ℕ) → p < s.count → s.queued p ≤ s.start p
  pub some_sent : (e : ℕ) → e < d.count → 1 ≤ d.sent e
  pub some_error : (e : ℕ) → e < d.count → 1 ≤ d.error e
  pub alone : (p q t : ℕ) → p < s.count → q < s.count → t < s.now → IsOnBusAt s p t → IsOnBusAt s q t → p ≡ q
  pub alone_damaged : (e f t : ℕ) → e < d.count → f < d.count → t < s.now → IsDamagedAt d e t → IsDamagedAt d f t → e ≡ f
  pub none_of_both : (p e t : ℕ) → p < s.count → e < d.count → t < s.now → IsOnBusAt s p t → IsDamagedAt d e t → ⊥

-- a bus on which a frame may have been tried in vain before, whichever goes first: its start in the schedule is that of the attempt that
-- wasn't damaged
pub record IsBusWithErrors (s : Schedule) (d : Damaged) : Type 0 where
  pub positive : (p : ℕ) → p < s.count → 1 ≤ s.bits p
  pub queued_first : (p : ℕ) → p < s.count → s.queued p ≤ s.start p
  -- a damaged attempt is one of a frame that is ready, and sends no more than this; or a frame that its unit left half sent, of eight bytes at most
  pub known : (e : ℕ) → e < d.count → d.lost e ≡ false → d.frame e < s.count
  pub ready : (e : ℕ) → e < d.count → d.lost e ≡ false → s.queued (d.frame e) ≤ d.begin e
  pub some_sent : (e : ℕ) → e < d.count → 1 ≤ d.sent e
  pub sent_at_most : (e : ℕ) → e < d.count → d.lost e ≡ false → d.sent e ≤ s.bits (d.frame e)
  pub lost_at_most : (e : ℕ) → e < d.count → d.lost e ≡ true → d.sent e ≤ longest_frame 8
  -- an error frame follows
  pub some_error : (e : ℕ) → e < d.count → 1 ≤ d.error e
  pub error_at_most : (e : ℕ) → e < d.count → d.error e ≤ error_frame
  -- and behind it the frame is sent again, unless its unit is off
  pub again : (e : ℕ) → e < d.count → d.lost e ≡ false → d.begin e + (d.sent e + d.error e) ≤ s.start (d.frame e)
  -- one frame at a time, or one damaged attempt
  pub alone : (p q t : ℕ) → p < s.count → q < s.count → t < s.now → IsOnBusAt s p t → IsOnBusAt s q t → p ≡ q
  pub alone_damaged : (e f t : ℕ) → e < d.count → f < d.count → t < s.now → IsDamagedAt d e t → IsDamagedAt d f t → e ≡ f
  pub none_of_both : (p e t : ℕ) → p < s.count → e < d.count → t < s.now → IsOnBusAt s p t → IsDamagedAt d e t → ⊥
  -- while a frame waits the bus isn't idle
  pub never_idle : (p t : ℕ) → p < s.count → t < s.now → Waits s p t
      → ((q : ℕ) × (q < s.count) × IsOnBusAt s q t) ⊎ ((e : ℕ) × (e < d.count) × IsDamagedAt d e t)

-- as `IsLegal`: a frame that begins, or is tried, has no larger identifier than one that waits; of one that is left half sent it isn't asked
pub record IsLegalWithErrors (s : Schedule) (d : Damaged) : Type 0 where
  pub bus : IsBusWithErrors s d
  pub in_order : (p q : ℕ) → p < s.count → q < s.count → s.start q < s.now → Waits s p (s.start q) → s.ident q ≤ s.ident p
  pub in_order_damaged : (p e : ℕ) → p < s.count → e < d.count → d.lost e ≡ false → d.begin e < s.now → Waits s p (d.begin e)
      → s.ident (d.frame e) ≤ s.ident p

-- as `IsLegalInAnyOrder`: it has no larger identifier than one with which each unit with a waiting frame may take part
pub record IsLegalInAnyOrderWithErrors (s : Schedule) (controllers : Controllers) (d : Damaged) : Type 0 where
  pub bus : IsBusWithErrors s d
  pub in_order : (p q : ℕ) → p < s.count → q < s.count → s.start q < s.now → Waits s p (s.start q)
      → (h : ℕ) × MayArbitrate s controllers p h (s.start q) × (s.ident q ≤ s.ident h)
  pub in_order_damaged : (p e : ℕ) → p < s.count → e < d.count → d.lost e ≡ false → d.begin e < s.now → Waits s p (d.begin e)
      → (h : ℕ) × MayArbitrate s controllers p h (d.begin e) × (s.ident (d.frame e) ≤ s.ident h)

-- at the places of the frames what is reported of them; behind these of the damaged attempts; and then of the error frames
abbrev pub at_place : Schedule → Damaged → (ℕ → ℕ) → (ℕ → ℕ) → (ℕ → ℕ) → ℕ → ℕ
at_place s d frame attempt error p =
    cond (nat_lt p s.count) (frame p) (cond (nat_lt (p - s.count) d.count) (attempt (p - s.count)) (error (p - s.count - d.count)))

-- the schedule in which damaged attempts and error frames are frames too: of the least identifier, and queued where the attempt begins
abbrev pub with_errors : Schedule → Damaged → Schedule
with_errors s d = record {
  count = s.count + (d.count + d.count);
  queued = at_place s d s.queued d.begin d.begin;
  start = at_place s d s.start d.begin (λ e. d.begin e + d.sent e);
  bits = at_place s d s.bits d.sent d.error;
  ident = at_place s d s.ident (λ e. 0) (λ e. 0);
  now = s.now;
}

-- what comes of damage is of a unit by this place; the others keep theirs
abbrev pub damage_ordered : Schedule → Controllers → ℕ → Controllers
damage_ordered s controllers own = record {
  unit = λ p. cond (nat_lt p s.count) (controllers.unit p) own;
  keeps_order = controllers.keeps_order;
}
