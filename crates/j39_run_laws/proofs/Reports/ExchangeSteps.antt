-- What holds between a sender and a receiver, as something is sent, taken or lost.
use Rattle.std.proofs.Common.{◌≡◌, ℕ, inl, inr, true, List, [], ◌∷◌, ◌++◌, refl, sym, subst, Option, Some, None}
use Rattle.std.specs.Prelude.{map}
use Rattle.std.specs.List.{AllByRecursion}
use Rattle.j39_tp.specs.Receiver.{is_open_at}
use Rattle.j39_tp.specs.declared.packet.Packet.{Packet}
use Rattle.j39_tp.specs.declared.packet.Packet.TheVariants.{Rts, Cts, EndAck, Bam, Abort, Dt}
use Rattle.j39_tp.specs.declared.receiving.progress.Progress.{Progress}
use Rattle.j39_world.specs.declared.wired.Wired.{Wired}
use Rattle.j39_world.specs.declared.wired.Wired.TheVariants as wired
use Rattle.j39_world.specs.Transfers.{Begun}
use Rattle.j39_world.specs.Sound.{IsSubsequence}
use Rattle.j39_run_laws.proofs.Runs.Elements.{all-append, all_map, all_weaker}
use Rattle.j39_run_laws.proofs.Reports.Subsequences.{subsequence_more, subsequence_both}
use Rattle.j39_tp.proofs.Answering.{IsAside, IsAnswer, aside_answer, answers_go_on}
use Rattle.j39_run_laws.proofs.Reports.Exchanges.{Pair, Message, IsAnswering, IsUnacknowledging, Begins, ComesAfter, BeginsOnce, EndsWith, IsUnreported}
use Rattle.j39_run_laws.proofs.Reports.Exchanges.{IsAhead, Exchange}

-- ---- items

aside_unacknowledging : (p : Packet) → IsAside p → IsUnacknowledging (wired.Packet p)
aside_unacknowledging (Rts size limit pgn) is = absurd is
aside_unacknowledging (Cts count first pgn) is = tt
aside_unacknowledging (EndAck size pgn) is = absurd is
aside_unacknowledging (Bam size pgn) is = absurd is
aside_unacknowledging (Abort reason pgn) is = tt
aside_unacknowledging (Dt number seven) is = absurd is

pub asides_unacknowledging : (ps : List Packet) → AllByRecursion IsAside ps → AllByRecursion IsUnacknowledging (map wired.Packet ps)
asides_unacknowledging = all_map wired.Packet IsAside IsUnacknowledging aside_unacknowledging

pub asides_answer : (ps : List Packet) → AllByRecursion IsAside ps → AllByRecursion IsAnswer ps
asides_answer = all_weaker IsAside IsAnswer aside_answer

pub answers_answering : (ps : List Packet) → AllByRecursion IsAnswer ps → AllByRecursion IsAnswering (map wired.Packet ps)
answers_answering = all_map wired.Packet IsAnswer IsAnswering (λ p is. is)

answering_comes_after : (m : Message) (item : Wired) → IsAnswering item → ComesAfter m item
answering_comes_after m (wired.Short bytes) is = is
answering_comes_after m (wired.Packet p) is = answers_go_on m.begun.bytes p is
answering_comes_after m (wired.Alone f bytes) is = tt

begins_more : (m : Message) (xs ys : List Wired) → AllByRecursion (ComesAfter m) ys → BeginsOnce m xs → BeginsOnce m (xs ++ ys)
begins_more m [] ys more none = absurd none
begins_more m (x ∷ xs) ys more (inl here) = inl (here.0, all-append (ComesAfter m) xs ys here.1 more)
begins_more m (x ∷ xs) ys more (inr later) = inr (later.0, begins_more m xs ys more later.1)

begins_last : (m : Message) (xs : List Wired) (item : Wired) → AllByRecursion IsAnswering xs → Begins m item → BeginsOnce m (xs ++ item ∷ [])
begins_last m [] item all begins = inl (begins, tt)
begins_last m (x ∷ xs) item all begins = inr (answering_comes_after m x all.0, begins_last m xs item all.1 begins)

part_of : (m : Message) (begun reports : List Begun) → IsUnreported m begun reports → IsSubsequence reports begun
part_of m begun reports u = subst (IsSubsequence reports) (sym u.last) (subsequence_more reports u.before m.begun u.part)

pub part_with : (m : Message) (begun reports : List Begun) → IsUnreported m begun reports → IsSubsequence (reports ++ m.begun ∷ []) begun
part_with m begun reports u = subst (IsSubsequence (reports ++ m.begun ∷ [])) (sym u.last) (subsequence_both reports u.before m.begun u.part)

-- ---- what follows

pub is_part : (o : Option Message) (pair : Pair) → Exchange o pair → IsSubsequence pair.reports pair.begun
is_part None pair e = e.part
is_part (Some m) pair (inl e) = part_of m pair.begun pair.reports e.unreported
is_part (Some m) pair (inr (inl e)) = part_of m pair.begun pair.reports e.unreported
is_part (Some m) pair (inr (inr e)) = e.part

no_acknowledgement : (size pgn : ℕ) (list rest : List Wired) → list ≡ wired.Packet (EndAck size pgn) ∷ rest → AllByRecursion IsUnacknowledging list → ⊥
no_acknowledgement size pgn list rest is all = (subst (AllByRecursion IsUnacknowledging) is all).0

-- a message that is acknowledged was reported
pub acknowledged_reported : (m : Message) (pair : Pair) (size pgn : ℕ) (rest : List Wired) → Exchange (Some m) pair
    → pair.back ≡ wired.Packet (EndAck size pgn) ∷ rest → EndsWith pair.reports m.begun
acknowledged_reported m pair size pgn rest (inl e) is = absurd (no_acknowledgement size pgn pair.back rest is e.back)
acknowledged_reported m pair size pgn rest (inr (inl e)) is = absurd (no_acknowledgement size pgn pair.back rest is e.back)
acknowledged_reported m pair size pgn rest (inr (inr e)) is =
    elim (e.back) [ inl none ↦ absurd (no_acknowledgement size pgn pair.back rest is none) | inr ends ↦ ends ]

-- ---- the sender sends

pub begins_keeps : (m : Message) (pair : Pair) (item : Wired) → Begins m item → Exchange None pair
    → Exchange (Some m) (record pair { wire = pair.wire ++ item ∷ []; begun = pair.begun ++ m.begun ∷ [] })
begins_keeps m pair item begins e = inl (record {
  wire = begins_last m pair.wire item e.wire begins;
  closed = e.closed;
  back = e.back;
  unreported = record { before = pair.begun; last = refl; part = e.part };
})

pub goes_on_keeps : (m : Message) (pair : Pair) (items : List Wired) → AllByRecursion (ComesAfter m) items → Exchange (Some m) pair
    → Exchange (Some m) (record pair { wire = pair.wire ++ items })
goes_on_keeps m pair items more (inl e) =
    inl (record { wire = begins_more m pair.wire items more e.wire; closed = e.closed; back = e.back; unreported = e.unreported })
goes_on_keeps m pair items more (inr (inl e)) =
    inr (inl (record { wire = all-append (ComesAfter m) pair.wire items e.wire more; gathers = e.gathers; back = e.back; unreported = e.unreported }))
goes_on_keeps m pair items more (inr (inr e)) =
    inr (inr (record { wire = all-append (ComesAfter m) pair.wire items e.wire more; closed = e.closed; back = e.back; part = e.part }))

-- it answers what the receiver sends
pub answers_keep : (o : Option Message) (pair : Pair) (items : List Wired) → AllByRecursion IsAnswering items → Exchange o pair
    → Exchange o (record pair { wire = pair.wire ++ items })
answers_keep None pair items more e = record { wire = all-append IsAnswering pair.wire items e.wire more; closed = e.closed; back = e.back; part = e.part }
answers_keep (Some m) pair items more e = goes_on_keeps m pair items (all_weaker IsAnswering (ComesAfter m) (answering_comes_after m) items more) e

-- ---- the receiver sends

pub back_keeps : (o : Option Message) (pair : Pair) (items : List Wired) → AllByRecursion IsUnacknowledging items → Exchange o pair
    → Exchange o (record pair { back = pair.back ++ items })
back_keeps None pair items more e = record { wire = e.wire; closed = e.closed; back = all-append IsUnacknowledging pair.back items e.back more; part = e.part }
back_keeps (Some m) pair items more (inl e) =
    inl (record { wire = e.wire; closed = e.closed; back = all-append IsUnacknowledging pair.back items e.back more; unreported = e.unreported })
back_keeps (Some m) pair items more (inr (inl e)) =
    inr (inl (record { wire = e.wire; gathers = e.gathers; back = all-append IsUnacknowledging pair.back items e.back more; unreported = e.unreported }))
back_keeps (Some m) pair items more (inr (inr e)) = inr (inr (record {
  wire = e.wire;
  closed = e.closed;
  back = elim (e.back) [ inl none ↦ inl (all-append IsUnacknowledging pair.back items none more) | inr ends ↦ inr ends ];
  part = e.part;
}))

-- an open receiver hears nothing in time
pub late_keeps : (o : Option Message) (pair : Pair) (receiver : Progress) → is_open_at pair.receiver ≡ true → Exchange o pair
    → Exchange o (record pair { receiver = receiver })
late_keeps None pair receiver is e = absurd (let f = e.closed in cc (is, f))
late_keeps (Some m) pair receiver is (inl e) = absurd (let f = e.closed in cc (is, f))
late_keeps (Some m) pair receiver is (inr (inl e)) = inr (inl (record { wire = e.wire; gathers = e.gathers; back = e.back; unreported = e.unreported }))
late_keeps (Some m) pair receiver is (inr (inr e)) = absurd (let f = e.closed in cc (is, f))

-- ---- something is taken or lost

-- the sender takes an item of the receiver, or it is lost
pub back_taken_keeps : (o : Option Message) (pair : Pair) (item : Wired) (rest : List Wired) → pair.back ≡ item ∷ rest → Exchange o pair
    → Exchange o (record pair { back = rest })
back_taken_keeps None pair item rest is e =
    record { wire = e.wire; closed = e.closed; back = (subst (AllByRecursion IsUnacknowledging) is e.back).1; part = e.part }
back_taken_keeps (Some m) pair item rest is (inl e) =
    inl (record { wire = e.wire; closed = e.closed; back = (subst (AllByRecursion IsUnacknowledging) is e.back).1; unreported = e.unreported })
back_taken_keeps (Some m) pair item rest is (inr (inl e)) =
    inr (inl (record { wire = e.wire; gathers = e.gathers; back = (subst (AllByRecursion IsUnacknowledging) is e.back).1; unreported = e.unreported }))
back_taken_keeps (Some m) pair item rest is (inr (inr e)) = inr (inr (record {
  wire = e.wire;
  closed = e.closed;
  back = elim (e.back) [ inl none ↦ inl (subst (AllByRecursion IsUnacknowledging) is none).1 | inr ends ↦ inr ends ];
  part = e.part;
}))

-- an item to the receiver is lost
ahead_lost : (m : Message) (pair : Pair) (item : Wired) (rest : List Wired) → IsAhead m pair → BeginsOnce m (item ∷ rest)
    → Exchange (Some m) (record pair { wire = rest })
ahead_lost m pair item rest e (inl here) =
    inr (inr (record { wire = here.1; closed = e.closed; back = inl e.back; part = part_of m pair.begun pair.reports e.unreported }))
ahead_lost m pair item rest e (inr later) = inl (record { wire = later.1; closed = e.closed; back = e.back; unreported = e.unreported })

pub lost_keeps : (o : Option Message) (pair : Pair) (item : Wired) (rest : List Wired) → pair.wire ≡ item ∷ rest → Exchange o pair
    → Exchange o (record pair { wire = rest })
lost_keeps None pair item rest is e = record { wire = (subst (AllByRecursion IsAnswering) is e.wire).1; closed = e.closed; back = e.back; part = e.part }
lost_keeps (Some m) pair item rest is (inl e) = ahead_lost m pair item rest e (subst (BeginsOnce m) is e.wire)
lost_keeps (Some m) pair item rest is (inr (inl e)) =
    inr (inl (record { wire = (subst (AllByRecursion (ComesAfter m)) is e.wire).1; gathers = e.gathers; back = e.back; unreported = e.unreported }))
lost_keeps (Some m) pair item rest is (inr (inr e)) =
    inr (inr (record { wire = (subst (AllByRecursion (ComesAfter m)) is e.wire).1; closed = e.closed; back = e.back; part = e.part }))
