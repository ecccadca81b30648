-- The bytes of a packet are read as that packet, and as no other.
use Rattle.std.proofs.Common.{◌≡◌, ℕ, ◌+◌, ◌*◌, ◌/◌, ◌%◌, ◌<◌, ◌==◌, ◌&&◌, true, false, if◌then◌else◌, inl, inr, List, ◌∷◌, length, slice_index}
use Rattle.std.proofs.Common.{Some, None, Result, Ok, Err, refl, ap, sym, ◌∙◌, subst, arith}
use Rattle.std.specs.Prelude.{nat_lt, IfOk, IfErr}
use Rattle.std.proofs.lemmas.Bool.{cases_lt, lt-ltb, le-ltb, le-leb, lt-leb, eq-eqb, ne_eqb}
use Rattle.j39_id.specs.FirstFault.{first_fault}
use Rattle.j39_id.specs.Limits.{frame_bytes, message_bytes}
use Rattle.j39_id.specs.Pgn.{pgn_end, pdu2_first, pf_of, IsPgn, is_pdu2, is_pgn}
use Rattle.j39_tp.specs.Chunks.{IsSize, packets_of}
use Rattle.j39_tp.specs.Packets.{data_of, GivesSize, InRange, IsReadable, IsManagement, ManagementReads, DataReads, size_in, pgn_in}
use Rattle.j39_tp.specs.Packets.{rts_control, cts_control, end_control, bam_control, gives_size, is_control, is_size, management_faults}
use Rattle.j39_tp.specs.declared.packet.Packet.{Packet}
use Rattle.j39_tp.specs.declared.packet.Packet.TheVariants.{Rts, Cts, EndAck, Bam, Abort, Dt}
use Rattle.j39_tp.specs.declared.packet.packet_error.PacketError.{PacketError}

size_again : (n : ℕ) → n % 256 + 256 * (n / 256) ≡ n
size_again n = omega arith

pgn_again : (g : ℕ) → g % 256 + 256 * (g / 256 % 256) + 65536 * (g / 65536) ≡ g
pgn_again g = omega arith

pgn_is_kept : (g : ℕ) → IsPgn g → IsPgn (g % 256 + 256 * (g / 256 % 256) + 65536 * (g / 65536))
pgn_is_kept g h = subst (λ (n : ℕ). IsPgn n) (sym (pgn_again g)) h

pub management_reads : (p : Packet) → IsManagement p → InRange p → IsReadable p → ManagementReads (data_of p) p
management_reads (Rts size limit named) m r k = record {
  eight = refl;
  fields = (refl, record { size_is = size_again size; packets_are = refl; size_fits = r.0 }, refl, pgn_again named);
  pgn = pgn_is_kept named r.1;
}
management_reads (Cts count first named) m r k = record {
  eight = refl;
  fields = (refl, refl, refl, k, pgn_again named);
  pgn = pgn_is_kept named r;
}
management_reads (EndAck size named) m r k = record {
  eight = refl;
  fields = (refl, record { size_is = size_again size; packets_are = refl; size_fits = r.0 }, pgn_again named);
  pgn = pgn_is_kept named r.1;
}
management_reads (Bam size named) m r k = record {
  eight = refl;
  fields = (refl, record { size_is = size_again size; packets_are = refl; size_fits = r.0 }, pgn_again named);
  pgn = pgn_is_kept named r.1;
}
management_reads (Abort reason named) m r k = record {
  eight = refl;
  fields = (refl, refl, pgn_again named);
  pgn = pgn_is_kept named r;
}
management_reads (Dt number chunk) m r k = absurd m

pub data_reads : (number : ℕ) (chunk : List ℕ) → InRange (Dt number chunk) → IsReadable (Dt number chunk)
    → DataReads (data_of (Dt number chunk)) (Dt number chunk)
data_reads number chunk r k = record { eight = omega arith; fields = (refl, k) }

-- ---- no fault

size_passes : (n : ℕ) → IsSize n → is_size n ≡ true
size_passes n s = rw (lt-ltb frame_bytes n s.above, le-leb n message_bytes s.within) refl

group_passes : (n : ℕ) → IsPgn n → is_pgn n ≡ true
group_passes n g =
    let range : nat_lt n pgn_end ≡ true = lt-ltb n pgn_end g.range in
    elim (cases_lt (pf_of n) pdu2_first) [
      | inl pdu1 ↦ let low : n % 256 ≡ 0 = g.low pdu1 in
          let extended : is_pdu2 n ≡ false = lt-leb pdu2_first (pf_of n) pdu1 in
          rw (range, extended, low) refl
      | inr pdu2 ↦ let extended : is_pdu2 n ≡ true = le-leb pdu2_first (pf_of n) pdu2 in rw (range, extended) refl
    ]

numbers_pass : (count first : ℕ) → (0 < count → 0 < first) → (nat_lt 0 count && first == 0) ≡ false
numbers_pass count first some = elim (cases_lt 0 count) [
  | inl more ↦
      let above : 0 < first = some more in
      let some_sent : nat_lt 0 count ≡ true = lt-ltb 0 count more in
      let other : (first == 0) ≡ false = ne_eqb first 0 (λ e. omega (arith, above, e)) in
      rw (some_sent, other) refl
  | inr none ↦ let none_sent : nat_lt 0 count ≡ false = le-ltb 0 count none in rw none_sent refl
]

-- bytes that give a size
no_sized_fault : (bytes : List ℕ) (control size : ℕ) → length bytes ≡ 8 → slice_index bytes 0 ≡ control → is_control control ≡ true
    → gives_size control ≡ true → (control == cts_control) ≡ false → GivesSize bytes size → IsPgn (pgn_in bytes)
    → first_fault (management_faults bytes) ≡ None
no_sized_fault bytes control size eight first known sized other gives group =
    let size_is = gives.size_is in
    let packets_are = gives.packets_are in
    rw (
      eight,
      first,
      known,
      sized,
      other,
      size_is,
      packets_are,
      size_passes size gives.size_fits,
      eq-eqb (packets_of size) (packets_of size) refl,
      group_passes (pgn_in bytes) group,
    ) refl

-- bytes that are a packet have no fault
no_management_fault : (bytes : List ℕ) (p : Packet) → ManagementReads bytes p → first_fault (management_faults bytes) ≡ None
no_management_fault bytes (Rts size limit named) r = no_sized_fault bytes rts_control size r.eight r.fields.0 refl refl refl r.fields.1 r.pgn
no_management_fault bytes (EndAck size named) r = no_sized_fault bytes end_control size r.eight r.fields.0 refl refl refl r.fields.1 r.pgn
no_management_fault bytes (Bam size named) r = no_sized_fault bytes bam_control size r.eight r.fields.0 refl refl refl r.fields.1 r.pgn
no_management_fault bytes (Cts count first named) r =
    let eight = r.eight in
    let control = r.fields.0 in
    let count_is = r.fields.1 in
    let first_is = r.fields.2 in
    rw (eight, control, count_is, first_is, numbers_pass count first r.fields.3, group_passes (pgn_in bytes) r.pgn) refl
no_management_fault bytes (Abort reason named) r =
    let eight = r.eight in
    let control = r.fields.0 in
    rw (eight, control, group_passes (pgn_in bytes) r.pgn) refl
no_management_fault bytes (Dt number chunk) r = absurd r.fields

not_refused : (bytes : List ℕ) (p : Packet) (e : PacketError) → ManagementReads bytes p → first_fault (management_faults bytes) ≡ Some e → ⊥
not_refused bytes p e r fault = cc (sym (no_management_fault bytes p r) ∙ fault)

-- ---- the same bytes

-- the management packet that the bytes can be, by the first of them
packet_in : List ℕ → Packet
packet_in bytes =
    if slice_index bytes 0 == rts_control then Rts (size_in bytes) (slice_index bytes 4) (pgn_in bytes)
    else if slice_index bytes 0 == cts_control then Cts (slice_index bytes 1) (slice_index bytes 2) (pgn_in bytes)
    else if slice_index bytes 0 == end_control then EndAck (size_in bytes) (pgn_in bytes)
    else if slice_index bytes 0 == bam_control then Bam (size_in bytes) (pgn_in bytes)
    else Abort (slice_index bytes 1) (pgn_in bytes)

is_packet_in : (bytes : List ℕ) (p : Packet) → ManagementReads bytes p → p ≡ packet_in bytes
unfolding packet_in
is_packet_in bytes (Rts size limit named) r =
    let control = r.fields.0 in
    let size_is = r.fields.1.size_is in
    let limit_is = r.fields.2 in
    let named_is = r.fields.3 in
    rw (control, size_is, limit_is, named_is) refl
is_packet_in bytes (Cts count first named) r =
    let control = r.fields.0 in
    let count_is = r.fields.1 in
    let first_is = r.fields.2 in
    let named_is = r.fields.4 in
    rw (control, count_is, first_is, named_is) refl
is_packet_in bytes (EndAck size named) r =
    let control = r.fields.0 in
    let size_is = r.fields.1.size_is in
    let named_is = r.fields.2 in
    rw (control, size_is, named_is) refl
is_packet_in bytes (Bam size named) r =
    let control = r.fields.0 in
    let size_is = r.fields.1.size_is in
    let named_is = r.fields.2 in
    rw (control, size_is, named_is) refl
is_packet_in bytes (Abort reason named) r =
    let control = r.fields.0 in
    let reason_is = r.fields.1 in
    let named_is = r.fields.2 in
    rw (control, reason_is, named_is) refl
is_packet_in bytes (Dt number chunk) r = absurd r.fields

pub one_management : (bytes : List ℕ) (p q : Packet) → ManagementReads bytes p → ManagementReads bytes q → p ≡ q
one_management bytes p q a b = is_packet_in bytes p a ∙ sym (is_packet_in bytes q b)

same_data : (m n : ℕ) (c d : List ℕ) → m ∷ c ≡ n ∷ d → Dt m c ≡ Dt n d
same_data m n c d e = cc e

pub one_data : (bytes : List ℕ) (p q : Packet) → DataReads bytes p → DataReads bytes q → p ≡ q
one_data bytes (Dt m c) (Dt n d) a b = same_data m n c d (sym a.fields.0 ∙ b.fields.0)
one_data bytes (Rts size limit named) q a b = absurd a.fields
one_data bytes (Cts count first named) q a b = absurd a.fields
one_data bytes (EndAck size named) q a b = absurd a.fields
one_data bytes (Bam size named) q a b = absurd a.fields
one_data bytes (Abort reason named) q a b = absurd a.fields
one_data bytes (Dt m c) (Rts size limit named) a b = absurd b.fields
one_data bytes (Dt m c) (Cts count first named) a b = absurd b.fields
one_data bytes (Dt m c) (EndAck size named) a b = absurd b.fields
one_data bytes (Dt m c) (Bam size named) a b = absurd b.fields
one_data bytes (Dt m c) (Abort reason named) a b = absurd b.fields

-- ---- a reading

-- one that gives a packet that the bytes are, or their first fault, gives all that they are
pub only_reading : (bytes : List ℕ) (result : Result Packet PacketError) → IfOk result (ManagementReads bytes)
    → IfErr result (λ e. first_fault (management_faults bytes) ≡ Some e) → (p : Packet) → ManagementReads bytes p → result ≡ Ok p
only_reading bytes (Ok q) found refused p r = ap Ok (one_management bytes q p found r)
only_reading bytes (Err e) found refused p r = absurd (not_refused bytes p e r refused)
