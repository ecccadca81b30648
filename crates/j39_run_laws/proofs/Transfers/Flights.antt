-- A message that no receiver answers, between its sender and a receiver: what of it is on the wire, in order, and what was taken.
use Rattle.std.proofs.Common.{◌≡◌, ◌≢◌, ℕ, zero, suc, ◌+◌, ◌==◌, ◌<◌, ◌≤◌, ◌⊎◌, inl, inr, Bool, true, false, cond, List, [], ◌∷◌, ◌++◌, length, refl, sym, ap}
use Rattle.std.proofs.Common.{◌∙◌, subst, arith}
use Rattle.std.specs.List.{AllByRecursion}
use Rattle.std.proofs.lemmas.Bool.{cases_Bool, cond-true, cond-false, eq-eqb, eqb-true, eqb-false, leb-false}
use Rattle.j39_tp.specs.Chunks.{packets_of}
use Rattle.j39_tp.specs.Receiver as receiver
use Rattle.j39_tp.specs.Receiver.{is_open_at}
use Rattle.j39_tp.specs.declared.packet.Packet.{Packet}
use Rattle.j39_tp.specs.declared.packet.Packet.TheVariants.{Rts, Cts, EndAck, Bam, Abort, Dt}
use Rattle.j39_tp.specs.declared.receiving.heard.Heard.{Heard}
use Rattle.j39_tp.specs.declared.receiving.heard.Heard.TheVariants as heards
use Rattle.j39_tp.specs.declared.receiving.manner.Manner.TheVariants.{Answering}
use Rattle.j39_tp.specs.declared.receiving.progress.Progress.{Progress}
use Rattle.j39_tp.specs.declared.receiving.progress.Progress.TheVariants.{Open, Complete}
use Rattle.j39_tp.specs.declared.receiving.reception.ReceptionKind.{ReceptionKind}
use Rattle.j39_tp.specs.declared.receiving.reception.ReceptionKind.TheVariants.{Broadcast}
use Rattle.j39_tp.specs.declared.receiving.reception.Reception.{Reception}
use Rattle.j39_tp.specs.declared.sending.outcome.Outcome.TheVariants.{Sent}
use Rattle.j39_tp.specs.declared.sending.stage.Stage.{Stage}
use Rattle.j39_tp.specs.declared.sending.stage.Stage.TheVariants.{Sending, Waiting, Resting}
use Rattle.j39_tp.proofs.Answering.{HoldsNothing, ReportsMessage, answers_announce_nothing, closed_stated}
use Rattle.j39_world.specs.declared.wired.Wired.{Wired}
use Rattle.j39_world.specs.declared.wired.Wired.TheVariants as wired
use Rattle.j39_world.specs.Flows.{is_short}
use Rattle.j39_world.specs.Transfers.{Outgoing, Begun, closed_if_complete}
use Rattle.j39_run_laws.proofs.Reports.Exchanges.{IsAnswering, begun_of}
use Rattle.j39_run_laws.proofs.Reports.Hearings.{stays_closed}

-- ---- the items of a message

abbrev pub is_whole : Outgoing → Bool
is_whole o = is_short (length o.bytes)

abbrev pub packet_count : Outgoing → ℕ
packet_count o = packets_of (length o.bytes)

-- one alone, or its announcement and its packets
abbrev pub item_count : Outgoing → ℕ
item_count o = cond (is_whole o) 1 (suc (packet_count o))

abbrev pub IsItem : Outgoing → ℕ → Wired → Type 0
IsItem o zero item =
    ((is_whole o ≡ true) × (item ≡ wired.Short o.bytes)) ⊎ ((is_whole o ≡ false) × (item ≡ wired.Packet (Bam (length o.bytes) o.pgn)))
IsItem o (suc k) item = (seven : List ℕ) × (item ≡ wired.Packet (Dt (suc k) seven))

-- from one to before another they are on the wire, in order, between answers of the other direction
abbrev pub InFlight : Outgoing → List Wired → ℕ → ℕ → Type 0
InFlight o [] a b = a ≡ b
InFlight o (x ∷ rest) a b = (IsAnswering x × InFlight o rest a b) ⊎ (IsItem o a x × InFlight o rest (suc a) b)

pub flight_most : (o : Outgoing) (xs : List Wired) (a b : ℕ) → InFlight o xs a b → a ≤ b
flight_most o [] a b is = omega (arith, is)
flight_most o (x ∷ xs) a b (inl beside) = flight_most o xs a b beside.1
flight_most o (x ∷ xs) a b (inr here) = omega (arith, flight_most o xs (suc a) b here.1)

pub flight_more : (o : Outgoing) (xs ys : List Wired) (a b : ℕ) → AllByRecursion IsAnswering ys → InFlight o xs a b → InFlight o (xs ++ ys) a b
flight_more o [] [] a b all is = is
flight_more o [] (y ∷ ys) a b all is = inl (all.0, flight_more o [] ys a b all.1 is)
flight_more o (x ∷ xs) ys a b all (inl beside) = inl (beside.0, flight_more o xs ys a b all beside.1)
flight_more o (x ∷ xs) ys a b all (inr here) = inr (here.0, flight_more o xs ys (suc a) b all here.1)

pub flight_next : (o : Outgoing) (xs : List Wired) (item : Wired) (a b : ℕ) → IsItem o b item → InFlight o xs a b → InFlight o (xs ++ item ∷ []) a (suc b)
flight_next o [] item a b next is = inr (subst (λ k. IsItem o k item) (sym is) next, ap suc is)
flight_next o (x ∷ xs) item a b next (inl beside) = inl (beside.0, flight_next o xs item a b next beside.1)
flight_next o (x ∷ xs) item a b next (inr here) = inr (here.0, flight_next o xs item (suc a) b next here.1)

pub flight_begun : (o : Outgoing) (xs : List Wired) (item : Wired) → AllByRecursion IsAnswering xs → IsItem o 0 item → InFlight o (xs ++ item ∷ []) 0 1
flight_begun o [] item all first = inr (first, refl)
flight_begun o (x ∷ xs) item all first = inl (all.0, flight_begun o xs item all.1 first)

-- a list that is longer by answers
abbrev pub Grown : List Wired → List Wired → Type 0
Grown xs ys = (more : List Wired) × AllByRecursion IsAnswering more × (ys ≡ xs ++ more)

-- ---- how far the sender is, and the receiver

-- so many items were sent
abbrev pub HasSent : Outgoing → Stage → ℕ → Type 0
HasSent o (Sending next last) sent = (is_whole o ≡ false) × (last ≡ packet_count o) × (next ≡ sent) × (1 ≤ sent) × (sent ≤ packet_count o)
HasSent o Waiting sent = ⊥
HasSent o (Resting outcome) sent = (outcome ≡ Sent) × (sent ≡ item_count o)

pub sent_most : (o : Outgoing) (stage : Stage) (sent : ℕ) → HasSent o stage sent → sent ≤ item_count o
sent_most o (Sending next last) sent (long, last_is, next_is, some, most) = rw long (omega (arith, most))
sent_most o Waiting sent never = absurd never
sent_most o (Resting outcome) sent (is, all) = omega (arith, all)

-- so many were taken: none, some, or all, and then it was reported
pub record IsUntaken (pr : Progress) (taken : ℕ) (reports before : List Begun) : Type 0 where
  pub none : taken ≡ 0
  pub closed : is_open_at pr ≡ false
  pub same : reports ≡ before

pub record IsPartly (o : Outgoing) (pr : Progress) (taken : ℕ) (reports before : List Begun) : Type 0 where
  pub reception : Reception
  pub open_is : pr ≡ Open reception
  pub kind : reception.kind ≡ Broadcast
  pub size : reception.size ≡ length o.bytes
  pub some : taken ≡ suc reception.held
  pub lacks : reception.held < packet_count o
  pub long : is_whole o ≡ false
  pub same : reports ≡ before

pub record IsWhole (o : Outgoing) (pr : Progress) (taken : ℕ) (reports before : List Begun) : Type 0 where
  pub all : taken ≡ item_count o
  pub closed : is_open_at pr ≡ false
  pub one : reports ≡ before ++ begun_of o ∷ []

abbrev pub HasTaken : Outgoing → Progress → ℕ → List Begun → List Begun → Type 0
HasTaken o pr taken reports before = IsUntaken pr taken reports before ⊎ (IsPartly o pr taken reports before ⊎ IsWhole o pr taken reports before)

pub record IsUnderWay (o : Outgoing) (sent : ℕ) (wire : List Wired) (pr : Progress) (reports before : List Begun) : Type 0 where
  pub taken : ℕ
  pub flight : InFlight o wire taken sent
  pub receiver : HasTaken o pr taken reports before

pub grown_under_way : (o : Outgoing) (sent : ℕ) (xs ys : List Wired) (pr : Progress) (reports before : List Begun) → Grown xs ys
    → IsUnderWay o sent xs pr reports before → IsUnderWay o sent ys pr reports before
grown_under_way o sent xs ys pr reports before (more, all, is) way = record {
  taken = way.taken;
  flight = subst (λ (list : List Wired). InFlight o list way.taken sent) (sym is) (flight_more o xs more way.taken sent all way.flight);
  receiver = way.receiver;
}

-- where nothing is left to send or to take, it was reported
pub all_reported : (o : Outgoing) (stage : Stage) (sent : ℕ) (pr : Progress) (reports before : List Begun) → HasSent o stage sent
    → stage ≡ Resting Sent → HasTaken o pr sent reports before → reports ≡ before ++ begun_of o ∷ []
all_reported o stage sent pr reports before sends rests (inr (inr whole)) = whole.one
all_reported o stage sent pr reports before sends rests (inl untaken) =
    let all : sent ≡ item_count o = (subst (λ (x : Stage). HasSent o x sent) rests sends).1 in
    absurd (none_of (is_whole o) (sym all ∙ untaken.none))
  where
    none_of : (b : Bool) → cond b 1 (suc (packet_count o)) ≡ 0 → ⊥
    none_of true is = omega (arith, is)
    none_of false is = omega (arith, is)
all_reported o stage sent pr reports before sends rests (inr (inl partly)) =
    let all : sent ≡ item_count o = (subst (λ (x : Stage). HasSent o x sent) rests sends).1 in
    let long : item_count o ≡ suc (packet_count o) = cond-false (is_whole o) 1 (suc (packet_count o)) partly.long in
    absurd (omega (arith, all, long, partly.some, partly.lacks))

-- ---- what a receiver hears

-- an answer changes nothing
pub answer_heard : (window : ℕ) (o : Outgoing) (pr : Progress) (taken : ℕ) (reports before : List Begun) (p : Packet) → IsAnswering (wired.Packet p)
    → HasTaken o pr taken reports before
    → HoldsNothing (receiver.hears (Answering window) pr p).1
    × HasTaken o (closed_if_complete (receiver.hears (Answering window) pr p).0) taken reports before
answer_heard window o pr taken reports before p answers (inl untaken) =
    let stated = closed_stated window pr p untaken.closed (answers_announce_nothing p answers) in
    (stated.0, inl (record { none = untaken.none; closed = stays_closed (receiver.hears (Answering window) pr p).0 stated.1; same = untaken.same }))
answer_heard window o pr taken reports before p answers (inr (inr whole)) =
    let stated = closed_stated window pr p whole.closed (answers_announce_nothing p answers) in
    (stated.0, inr (inr (record { all = whole.all; closed = stays_closed (receiver.hears (Answering window) pr p).0 stated.1; one = whole.one })))
answer_heard window o pr taken reports before p answers (inr (inl partly)) =
    let heard : receiver.hears (Answering window) pr p ≡ (Open partly.reception, heards.Nothing) =
    ap (λ (x : Progress). receiver.hears (Answering window) x p) partly.open_is ∙ passed partly.reception p partly.kind answers in
    subst (λ (x : Progress × Heard). HoldsNothing x.1 × HasTaken o (closed_if_complete x.0) taken reports before) (sym heard) (
      tt,
      inr (inl (record {
        reception = partly.reception;
        open_is = refl;
        kind = partly.kind;
        size = partly.size;
        some = partly.some;
        lacks = partly.lacks;
        long = partly.long;
        same = partly.same;
      })),
    )
  where
    passed : (r : Reception) (q : Packet) → r.kind ≡ Broadcast → IsAnswering (wired.Packet q)
        → receiver.hears (Answering window) (Open r) q ≡ (Open r, heards.Nothing)
    passed r (Rts size limit pgn) kind is = absurd is
    passed r (Cts count first pgn) kind is = refl
    passed r (EndAck size pgn) kind is = refl
    passed r (Bam size pgn) kind is = absurd is
    passed r (Abort reason pgn) kind is = rw kind refl
    passed r (Dt number seven) kind is = absurd is

-- the packet that comes next is held, or completes the message
pub next_heard : (window : ℕ) (r : Reception) (number : ℕ) → r.kind ≡ Broadcast → number ≡ suc r.held
    → ((receiver.takes_data (Answering window) r number ≡ (Open (receiver.one_more_held r), heards.Nothing)) × (suc r.held ≢ packets_of r.size))
    ⊎ ((receiver.takes_data (Answering window) r number ≡ (Complete r.pgn, heards.Complete)) × (suc r.held ≡ packets_of r.size))
next_heard window r number kind is =
    let first : (number == r.held + 1) ≡ true = eq-eqb number (r.held + 1) (omega (arith, is)) in
    let next : receiver.takes_data (Answering window) r number ≡ receiver.takes_next (Answering window) r = cond-true (number == r.held + 1) _ _ first in
    elim (cases_Bool (r.held + 1 == packets_of r.size)) [
      | inl last ↦ inr (
        next ∙ (cond-true (r.held + 1 == packets_of r.size) _ _ last ∙ ap
            (λ (k : ReceptionKind). (Complete r.pgn, receiver.completed (Answering window) k r)) kind),
        (let e = eqb-true (r.held + 1) (packets_of r.size) last in omega (arith, e)),
      )
      | inr more ↦ inl (
        next ∙ (cond-false (r.held + 1 == packets_of r.size) _ _ more ∙ held (r.held + 1 == r.granted)),
        (λ e. eqb-false (r.held + 1) (packets_of r.size) more (omega (arith, e))),
      )
    ]
  where
    going : receiver.going_on (Answering window) r.kind (receiver.one_more_held r) ≡ (Open (receiver.one_more_held r), heards.Nothing)
    going = ap (λ (k : ReceptionKind). receiver.going_on (Answering window) k (receiver.one_more_held r)) kind

    held : (b : Bool) → cond b (receiver.going_on (Answering window) r.kind (receiver.one_more_held r)) (Open (receiver.one_more_held r), heards.Nothing)
        ≡ (Open (receiver.one_more_held r), heards.Nothing)
    held true = going
    held false = refl

-- ---- the oldest item is taken

-- a message of one frame, which is then reported
pub short_heard : (o : Outgoing) (bytes : List ℕ) (rest : List Wired) (taken sent : ℕ) (pr : Progress) (reports before more : List Begun)
    → InFlight o (wired.Short bytes ∷ rest) taken sent → HasTaken o pr taken reports before → (bytes ≡ o.bytes → more ≡ reports ++ begun_of o ∷ [])
    → InFlight o rest 1 sent × HasTaken o pr 1 more before
short_heard o bytes rest taken sent pr reports before more (inl beside) has one = absurd beside.0
short_heard o bytes rest (suc k) sent pr reports before more (inr here) has one = absurd (let e = here.0.1 in cc e)
short_heard o bytes rest zero sent pr reports before more (inr (inr long, flight)) has one = absurd (let e = long.1 in cc e)
short_heard o bytes rest zero sent pr reports before more (inr (inl whole, flight)) (inl untaken) one =
    let count : item_count o ≡ 1 = cond-true (is_whole o) 1 (suc (packet_count o)) whole.0 in
    let same : bytes ≡ o.bytes = (let e = whole.1 in cc e) in (
      flight,
      inr (inr (record {
        all = sym count;
        closed = untaken.closed;
        one = one same ∙ ap (λ (xs : List Begun). xs ++ begun_of o ∷ []) untaken.same;
      })),
    )
short_heard o bytes rest zero sent pr reports before more (inr (inl whole, flight)) (inr (inl partly)) one = absurd (omega (arith, partly.some))
short_heard o bytes rest zero sent pr reports before more (inr (inl whole, flight)) (inr (inr all)) one =
    let count : item_count o ≡ 1 = cond-true (is_whole o) 1 (suc (packet_count o)) whole.0 in absurd (omega (arith, all.all, count))

-- what a receiver is once it heard a packet: nothing is reported, or the message is
pub record HearsOn (o : Outgoing) (sent : ℕ) (rest : List Wired) (x : Progress × Heard) (reports before : List Begun) : Type 0 where
  pub taken : ℕ
  pub flight : InFlight o rest taken sent
  pub stated : (HoldsNothing x.1 × HasTaken o (closed_if_complete x.0) taken reports before)
      ⊎ (ReportsMessage x.1 × ((more : List Begun) → more ≡ reports ++ begun_of o ∷ [] → HasTaken o (closed_if_complete x.0) taken more before))

-- its announcement
announced_heard : (window : ℕ) (o : Outgoing) (rest : List Wired) (sent : ℕ) (pr : Progress) (reports before : List Begun) → is_whole o ≡ false
    → InFlight o rest 1 sent → HasTaken o pr 0 reports before
    → HearsOn o sent rest (receiver.hears (Answering window) pr (Bam (length o.bytes) o.pgn)) reports before
announced_heard window o rest sent pr reports before long flight (inl untaken) = record {
  taken = 1;
  flight = flight;
  stated = inl (
    tt,
    inr (inl (record {
      reception = receiver.opened Broadcast o.pgn (length o.bytes) 255;
      open_is = refl;
      kind = refl;
      size = refl;
      some = refl;
      lacks = (let above = leb-false (length o.bytes) 8 long in omega (arith, above));
      long = long;
      same = untaken.same;
    })),
  );
}
announced_heard window o rest sent pr reports before long flight (inr (inl partly)) = absurd (omega (arith, partly.some))
announced_heard window o rest sent pr reports before long flight (inr (inr whole)) =
    let count : item_count o ≡ suc (packet_count o) = cond-false (is_whole o) 1 (suc (packet_count o)) long in absurd (omega (arith, whole.all, count))

-- its next packet
data_heard : (window : ℕ) (o : Outgoing) (rest : List Wired) (k sent : ℕ) (seven : List ℕ) (pr : Progress) (reports before : List Begun)
    → sent ≤ item_count o → InFlight o rest (suc (suc k)) sent → HasTaken o pr (suc k) reports before
    → HearsOn o sent rest (receiver.hears (Answering window) pr (Dt (suc k) seven)) reports before
data_heard window o rest k sent seven pr reports before most flight (inl untaken) = absurd (let e = untaken.none in omega (arith, e))
data_heard window o rest k sent seven pr reports before most flight (inr (inr whole)) =
    absurd (omega (arith, most, whole.all, flight_most o rest (suc (suc k)) sent flight))
data_heard window o rest k sent seven pr reports before most flight (inr (inl partly)) =
    let r : Reception = partly.reception in
    let opens : receiver.hears (Answering window) pr (Dt (suc k) seven) ≡ receiver.takes_data (Answering window) r (suc k) =
    ap (λ (x : Progress). receiver.hears (Answering window) x (Dt (suc k) seven)) partly.open_is in
    let count : packets_of r.size ≡ packet_count o = ap packets_of partly.size in
    elim (next_heard window r (suc k) partly.kind partly.some) [
      | inl (held, more) ↦ subst (λ (x : Progress × Heard). HearsOn o sent rest x reports before) (sym (opens ∙ held)) (record {
        taken = suc (suc k);
        flight = flight;
        stated = inl (
          tt,
          inr (inl (record {
            reception = receiver.one_more_held r;
            open_is = refl;
            kind = partly.kind;
            size = partly.size;
            some = (let e = partly.some in omega (arith, e));
            lacks = (let less = partly.lacks in omega (arith, less, more, count));
            long = partly.long;
            same = partly.same;
          })),
        );
      })
      | inr (done, last) ↦ subst (λ (x : Progress × Heard). HearsOn o sent rest x reports before) (sym (opens ∙ done)) (record {
        taken = suc (suc k);
        flight = flight;
        stated = inr (
          tt,
          λ all one. inr (inr (record {
            all = (let e = partly.some in
                let items : item_count o ≡ suc (packet_count o) = cond-false (is_whole o) 1 (suc (packet_count o)) partly.long in
                omega (arith, e, items, last, count));
            closed = refl;
            one = one ∙ ap (λ (xs : List Begun). xs ++ begun_of o ∷ []) partly.same;
          })),
        );
      })
    ]

pub packet_heard : (window : ℕ) (o : Outgoing) (p : Packet) (rest : List Wired) (taken sent : ℕ) (pr : Progress) (reports before : List Begun)
    → sent ≤ item_count o → InFlight o (wired.Packet p ∷ rest) taken sent → HasTaken o pr taken reports before
    → HearsOn o sent rest (receiver.hears (Answering window) pr p) reports before
packet_heard window o p rest taken sent pr reports before most (inl beside) has =
    record { taken = taken; flight = beside.1; stated = inl (answer_heard window o pr taken reports before p beside.0 has) }
packet_heard window o p rest zero sent pr reports before most (inr (inl whole, flight)) has = absurd (let e = whole.1 in cc e)
packet_heard window o p rest zero sent pr reports before most (inr (inr long, flight)) has =
    let same : p ≡ Bam (length o.bytes) o.pgn = (let e = long.1 in cc e) in
    subst (λ (q : Packet). HearsOn o sent rest (receiver.hears (Answering window) pr q) reports before) (sym same)
    (announced_heard window o rest sent pr reports before long.0 flight has)
packet_heard window o p rest (suc k) sent pr reports before most (inr here) has =
    let seven : List ℕ = here.0.0 in
    let same : p ≡ Dt (suc k) seven = (let e = here.0.1 in cc e) in
    subst (λ (q : Packet). HearsOn o sent rest (receiver.hears (Answering window) pr q) reports before) (sym same)
    (data_heard window o rest k sent seven pr reports before most here.1 has)
