-- Frames on a CAN bus in bit times (ISO 11898-1: arbitration by the identifier, a frame that was begun is sent to its end), and how
-- long a frame waits.
use Rattle.std.specs.Prelude.{◌≡◌, ℕ, ◌+◌, ◌<◌, ◌≤◌, ◌&&◌, cond, nat_lt, nat_le}
use Rattle.j39_timing.specs.Sums.{total}

-- what is seen of a bus before the bit `now`; a frame that hasn't begun by then starts at `now` or later
pub record Schedule : Type 0 where
  -- how many frames; each has a place below it
  pub count : ℕ
  -- from this bit on the frame is ready at its controller
  pub queued : ℕ → ℕ
  -- its first bit on the bus
  pub start : ℕ → ℕ
  -- its length, stuff bits and the intermission behind it included
  pub bits : ℕ → ℕ
  pub ident : ℕ → ℕ
  pub now : ℕ

-- bit t of the bus is one of the frame's
abbrev pub IsOnBusAt : Schedule → ℕ → ℕ → Type 0
IsOnBusAt s p t = (s.start p ≤ t) × (t < s.start p + s.bits p)

-- the frame was ready before bit t, and hasn't begun before it: the bits for which it waits are its queueing delay
abbrev pub Waits : Schedule → ℕ → ℕ → Type 0
Waits s p t = (s.queued p < t) × (t ≤ s.start p)

pub record IsLegal (s : Schedule) : Type 0 where
  pub positive : (p : ℕ) → p < s.count → 1 ≤ s.bits p
  pub queued_first : (p : ℕ) → p < s.count → s.queued p ≤ s.start p
  -- one frame at a time
  pub alone : (p q t : ℕ) → p < s.count → q < s.count → t < s.now → IsOnBusAt s p t → IsOnBusAt s q t → p ≡ q
  -- while a frame waits the bus isn't idle
  pub never_idle : (p t : ℕ) → p < s.count → t < s.now → Waits s p t → (q : ℕ) × (q < s.count) × IsOnBusAt s q t
  -- a frame that begins has no larger identifier than one that waits. One that is queued in that very bit may take part or not
  pub in_order : (p q : ℕ) → p < s.count → q < s.count → s.start q < s.now → Waits s p (s.start q) → s.ident q ≤ s.ident p

-- the bits of all frames with a smaller identifier than c that are queued in the `span` bits from t on
abbrev pub demand : Schedule → ℕ → ℕ → ℕ → ℕ
demand s c t span =
    total s.count (λ p. cond (nat_lt (s.ident p) c && (nat_le t (s.queued p) && nat_lt (s.queued p) (t + span))) (s.bits p) 0)
