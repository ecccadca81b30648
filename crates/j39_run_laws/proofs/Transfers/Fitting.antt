-- What packets have that units send, and what a receiver has of one that it takes: an announcement the size of a message, data
-- seven bytes; an open session lacks a packet, and has gathered what all packets carry.
use Rattle.std.proofs.Common.{◌≡◌, ℕ, zero, suc, ◌+◌, ◌-◌, ◌*◌, ◌==◌, ◌<◌, ◌≤◌, ◌&&◌, ◌⊎◌, inl, inr, false, List, [], ◌∷◌, ◌++◌, length, drop, refl, sym}
use Rattle.std.proofs.Common.{subst, arith, length-append, replicate, Some}
use Rattle.std.specs.Prelude.{nat_lt, slice_get}
use Rattle.std.proofs.Math.Seq.{take-nil}
use Rattle.std.proofs.lemmas.Bool.{cond_both, eqb-false}
use Rattle.std.proofs.lemmas.List.{length-take, length-replicate}
use Rattle.std.proofs.lemmas.Option.{slice_get_within}
use Rattle.j39_id.specs.Limits.{packet_bytes}
use Rattle.j39_tp.specs.Carried.{Announces, Awaits, Leaves, IsUndisturbed}
use Rattle.j39_tp.specs.Chunks.{IsSize, packets_of, part, chunk}
use Rattle.j39_tp.specs.Receiver as receiver
use Rattle.j39_tp.specs.Receiver.{Receiving, opened, is_directed}
use Rattle.j39_tp.specs.Sender as sender
use Rattle.j39_tp.specs.Gathered.{Reaches, Gathered, Gathers}
use Rattle.j39_tp.specs.declared.packet.Packet.{Packet}
use Rattle.j39_tp.specs.declared.packet.Packet.TheVariants.{Rts, Cts, EndAck, Bam, Abort, Dt}
use Rattle.j39_tp.specs.declared.receiving.heard.Heard.{Heard}
use Rattle.j39_tp.specs.declared.receiving.manner.Manner.TheVariants.{Answering}
use Rattle.j39_tp.specs.declared.receiving.progress.Progress.{Progress}
use Rattle.j39_tp.specs.declared.receiving.progress.Progress.TheVariants.{Closed, Open, Complete}
use Rattle.j39_tp.specs.declared.receiving.reception.ReceptionKind.{ReceptionKind}
use Rattle.j39_tp.specs.declared.receiving.reception.ReceptionKind.TheVariants.{Broadcast, Directed}
use Rattle.j39_tp.specs.declared.receiving.reception.Reception.{Reception}
use Rattle.j39_tp.specs.declared.sending.dest.Dest.{Dest}
use Rattle.j39_tp.specs.declared.sending.dest.Dest.TheVariants as dests
use Rattle.j39_tp.specs.declared.sending.stage.Stage.{Stage}
use Rattle.j39_tp.specs.declared.sending.stage.Stage.TheVariants.{Sending, Waiting, Resting}
use Rattle.j39_tp.proofs.Answering.{IsAnswer}
use Rattle.j39_tp.proofs.Gathering.{stands_on, last_stands, hears_gathers, times_out_gathers}
use Rattle.j39_world.specs.Transfers.{closed_if_complete}
use Rattle.j39_run_laws.proofs.Runs.ReceiverRows.{IsShort, hears_by}

-- ---- packets

abbrev pub IsFit : Packet → Type 0
IsFit (Rts size limit pgn) = IsSize size
IsFit (Bam size pgn) = IsSize size
IsFit (Dt number seven) = length seven ≡ packet_bytes
IsFit _ = Unit {0}

pub answer_fit : (p : Packet) → IsAnswer p → IsFit p
answer_fit (Rts size limit pgn) is = absurd is
answer_fit (Cts count first pgn) is = tt
answer_fit (EndAck size pgn) is = tt
answer_fit (Bam size pgn) is = absurd is
answer_fit (Abort reason pgn) is = tt
answer_fit (Dt number seven) is = absurd is

pub announcement_fit : (dest : Dest) (pgn size : ℕ) → IsSize size → IsFit (sender.announcement dest pgn size)
announcement_fit dests.All pgn size fits = fits
announcement_fit dests.One pgn size fits = fits

chunk_fit : (bytes : List ℕ) (k : ℕ) → length (chunk bytes k) ≡ packet_bytes
chunk_fit bytes k =
    let some : length (part bytes k) ≤ 7 = omega (arith, length-take 7 (drop (7 * (k - 1)) bytes)) in
    let rest : ℕ = 7 - length (part bytes k) in
    let filled : length (replicate rest 255) ≡ rest = length-replicate {A = ℕ} rest 255 in
    omega (arith, length-append (part bytes k) (replicate rest 255), filled)

pub data_fit : (bytes : List ℕ) (stage : Stage) (p : Packet) → sender.data_next bytes stage ≡ Some p → IsFit p
data_fit bytes (Sending next last) p is = let same : Dt next (chunk bytes next) ≡ p = cc is in subst IsFit same (chunk_fit bytes next)
data_fit bytes Waiting p is = absurd (cc is)
data_fit bytes (Resting outcome) p is = absurd (cc is)

pub timeout_fit : (pgn : ℕ) (stage : Stage) (p : Packet) → sender.timeout_packet pgn stage ≡ Some p → IsFit p
timeout_fit pgn Waiting p is = let same : Abort 3 pgn ≡ p = cc is in subst IsFit same tt
timeout_fit pgn (Sending next last) p is = absurd (cc is)
timeout_fit pgn (Resting outcome) p is = absurd (cc is)

-- ---- an open session lacks a packet

abbrev pub IsWithin : Progress → Type 0
IsWithin (Open r) = r.held < packets_of r.size
IsWithin _ = Unit {0}

pub asks_within : (window reason : ℕ) (r : Reception) → r.held < packets_of r.size → IsWithin (receiver.asks window reason r).0
asks_within window reason r less =
    cond_both (nat_lt r.asked receiver.ask_limit) _ _ (λ (x : Progress × Packet). IsWithin x.0) (λ _. less) (λ _. tt)

some_packets : (size : ℕ) → IsSize size → 0 < packets_of size
some_packets size fits = let above = fits.above in omega (arith, above)

pub hears_within : (window : ℕ) (pr : Progress) (p : Packet) → IsFit p → IsWithin pr → IsWithin (receiver.hears (Answering window) pr p).0
hears_within window pr p fit less = hears_by window pr p (λ x. IsWithin x.0) (record {
  passed = less;
  announced_to_all = λ size pgn is. some_packets size (subst IsFit is fit);
  announced_to_one = λ size limit pgn is. some_packets size (subst IsFit is fit);
  taken = λ r at more. one_more r at more;
  granted = λ r at kind more. one_more r at more;
  completed = λ r at. tt;
  asked = λ r at kind. subst IsWithin at less;
  gave_up = λ r at kind. tt;
  closed = λ r at. tt;
})
  where
    one_more : (r : Reception) → pr ≡ Open r → IsShort r → r.held + 1 < packets_of r.size
    one_more r at more =
        let before : r.held < packets_of r.size = subst IsWithin at less in
        let other = eqb-false (r.held + 1) (packets_of r.size) more in
        omega (arith, before, other)

times_within : (window : ℕ) (kind : ReceptionKind) (r : Reception) → r.held < packets_of r.size → IsWithin (receiver.times_out (Answering window) kind r).0
times_within window Directed r less = asks_within window 3 r less
times_within window Broadcast r less = tt

pub timed_out_within : (window : ℕ) (pr : Progress) → IsWithin pr → IsWithin (receiver.timed_out (Answering window) pr).0
timed_out_within window (Open r) less = times_within window r.kind r less
timed_out_within window Closed less = tt
timed_out_within window (Complete done) less = tt

pub closed_within : (pr : Progress) → IsWithin pr → IsWithin (closed_if_complete pr)
closed_within (Open r) less = less
closed_within Closed less = tt
closed_within (Complete done) less = tt

-- ---- what is gathered, by one more packet

module _ (h : List Packet) (p : Packet) where
  -- what stands in the longer list stood in the shorter one, or is the packet at its end
  last_or_before : (list : List Packet) (q : Packet) (j : ℕ) → slice_get (list ++ p ∷ []) j ≡ Some q → (slice_get list j ≡ Some q) ⊎ (p ≡ q)
  last_or_before [] q zero is = inr (cc is)
  last_or_before [] q (suc j) is = absurd (cc is)
  last_or_before (x ∷ list) q zero is = inl is
  last_or_before (x ∷ list) q (suc j) is = last_or_before list q j is

  before_unless : (q : Packet) (j : ℕ) → (p ≡ q → ⊥) → slice_get (h ++ p ∷ []) j ≡ Some q → slice_get h j ≡ Some q
  before_unless q j other is = elim (last_or_before h q j is) [ inl was ↦ was | inr same ↦ absurd (other same) ]

  -- it is no data packet, and leaves the session open
  module _ (data_free : (number : ℕ) (seven : List ℕ) → p ≡ Dt number seven → ⊥) where
    reaches_beside : (kind : ReceptionKind) (start k place : ℕ) (chunks : List ℕ) → Reaches h kind start k place chunks
        → Reaches (h ++ p ∷ []) kind start k place chunks
    reaches_beside kind start zero place chunks r = r
    reaches_beside kind start (suc k) place chunks r = (
      r.0,
      r.1,
      r.2,
      reaches_beside kind start k r.0 r.1 r.3,
      r.4,
      λ j number seven lo hi is. r.5 j number seven lo hi (before_unless (Dt number seven) j (data_free number seven) is),
      stands_on h (p ∷ []) place (Dt (suc k) r.2) r.6,
      r.7,
    )

    awaits_beside : (kind : ReceptionKind) (k from : ℕ) → Awaits h kind k from (length h) → Awaits (h ++ p ∷ []) kind k from (length (h ++ p ∷ []))
    awaits_beside kind k from old = λ j number seven lo hi is.
        let was = before_unless (Dt number seven) j (data_free number seven) is in
        old j number seven lo (slice_get_within h j (Dt number seven) was) was

    undisturbed_beside : (kind : ReceptionKind) (pgn from : ℕ) → Leaves kind pgn p → IsUndisturbed h kind pgn from (length h)
        → IsUndisturbed (h ++ p ∷ []) kind pgn from (length (h ++ p ∷ []))
    undisturbed_beside kind pgn from leaves old = λ j q lo hi is. elim (last_or_before h q j is) [
      | inl was ↦ old j q lo (slice_get_within h j q was) was
      | inr same ↦ subst (Leaves kind pgn) same leaves
    ]

    gathered_beside : (r : Reception) (bytes : List ℕ) → Leaves r.kind r.pgn p → Gathered h r bytes → Gathered (h ++ p ∷ []) r bytes
    gathered_beside r bytes leaves g = record {
      start = g.start;
      place = g.place;
      chunks = g.chunks;
      announcement = g.announcement;
      announced = stands_on h (p ∷ []) g.start g.announcement g.announced;
      announces = g.announces;
      fits = g.fits;
      reaches = reaches_beside r.kind g.start r.held g.place g.chunks g.reaches;
      awaits = awaits_beside r.kind (suc r.held) g.place g.awaits;
      undisturbed = undisturbed_beside r.kind r.pgn g.start leaves g.undisturbed;
      bytes_are = g.bytes_are;
    }

  -- it announces a session
  gathered_announced : (kind : ReceptionKind) (pgn size limit granted : ℕ) → Announces p kind pgn size → IsSize size
      → Gathered (h ++ p ∷ []) (record (opened kind pgn size limit) { granted = granted }) []
  gathered_announced kind pgn size limit granted announces fits =
      let ends : length (h ++ p ∷ []) ≡ length h + 1 = length-append h (p ∷ []) in
      record {
        start = length h;
        place = length h;
        chunks = [];
        announcement = p;
        announced = last_stands h p;
        announces = announces;
        fits = fits;
        reaches = (refl, refl);
        awaits = λ j number seven lo hi is. absurd (omega (arith, ends, lo, hi));
        undisturbed = λ j q lo hi is. absurd (omega (arith, ends, lo, hi));
        bytes_are = sym (take-nil size);
      }

-- what a receiver has that stands so
abbrev pub HasGathered : List Packet → Progress → Type 0
HasGathered h pr = (bytes : List ℕ) × Gathers h pr bytes

abbrev standing : ℕ → Progress → List ℕ → Receiving
standing window pr bytes = record { manner = Answering window; progress = pr; bytes = bytes }

abort_leaves : (kind : ReceptionKind) (own reason named : ℕ) → (is_directed kind && named == own) ≡ false → Leaves kind own (Abort reason named)
abort_leaves Directed own reason named other = eqb-false named own other
abort_leaves Broadcast own reason named other = tt

pub hears_gathered : (h : List Packet) (window : ℕ) (pr : Progress) (p : Packet) → IsFit p → HasGathered h pr
    → HasGathered (h ++ p ∷ []) (receiver.hears (Answering window) pr p).0
hears_gathered h window pr (Bam size pgn) fit g = ([], gathered_announced h (Bam size pgn) Broadcast pgn size 255 0 (refl, refl) fit)
hears_gathered h window pr (Rts size limit pgn) fit g = ([], gathered_announced h (Rts size limit pgn) Directed pgn size limit _ (refl, refl) fit)
hears_gathered h window pr (Dt number seven) fit g = (_, hears_gathers h (standing window pr g.0) (Dt number seven) fit g.1)
hears_gathered h window (Open r) (Cts count first pgn) fit g = (g.0, gathered_beside h (Cts count first pgn) (λ number seven e. cc e) r g.0 tt g.1)
hears_gathered h window (Open r) (EndAck size pgn) fit g = (g.0, gathered_beside h (EndAck size pgn) (λ number seven e. cc e) r g.0 tt g.1)
hears_gathered h window (Open r) (Abort reason pgn) fit g =
    cond_both (is_directed r.kind && pgn == r.pgn) _ _ (λ (x : Progress × Heard). HasGathered (h ++ Abort reason pgn ∷ []) x.0) (λ _. ([], tt))
    (λ other. (g.0, gathered_beside h (Abort reason pgn) (λ number seven e. cc e) r g.0 (abort_leaves r.kind r.pgn reason pgn other) g.1))
hears_gathered h window Closed (Cts count first pgn) fit g = ([], tt)
hears_gathered h window Closed (EndAck size pgn) fit g = ([], tt)
hears_gathered h window Closed (Abort reason pgn) fit g = ([], tt)
hears_gathered h window (Complete done) (Cts count first pgn) fit g = ([], tt)
hears_gathered h window (Complete done) (EndAck size pgn) fit g = ([], tt)
hears_gathered h window (Complete done) (Abort reason pgn) fit g = ([], tt)

pub timed_out_gathered : (h : List Packet) (window : ℕ) (pr : Progress) → HasGathered h pr
    → HasGathered h (receiver.timed_out (Answering window) pr).0
timed_out_gathered h window pr g = (_, times_out_gathers h (standing window pr g.0) g.1)

pub closed_gathered : (h : List Packet) (pr : Progress) → HasGathered h pr → HasGathered h (closed_if_complete pr)
closed_gathered h (Open r) g = g
closed_gathered h Closed g = g
closed_gathered h (Complete done) g = ([], tt)
