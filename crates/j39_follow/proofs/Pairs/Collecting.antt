-- What is kept of the packets of a pair, packet after packet.
use Rattle.std.proofs.Common.{◌≡◌, ◌≢◌, ◌⊎◌, ℕ, zero, suc, ◌+◌, ◌-◌, ◌<◌, ◌≤◌, ◌==◌, Bool, true, false, if◌then◌else◌, List, [], ◌∷◌, ◌++◌, length, take}
use Rattle.std.proofs.Common.{Option, Some, None, inl, inr, refl, sym, ap, subst, ◌∙◌, arith, eqb-true}
use Rattle.std.specs.Option.{option_or, unwrap_or}
use Rattle.std.specs.Prelude.{is_some}
use Rattle.std.proofs.lemmas.Bool.{cases_Bool, eqb-false, false≢true, cond-false, cond-true}
use Rattle.std.proofs.lemmas.List.Elements.{All-nil}
use Rattle.j39_tp.specs.Carried.{chunks_to}
use Rattle.j39_tp.specs.Chunks.{IsSize, packets_of}
use Rattle.j39_tp.specs.declared.packet.Packet.{Packet}
use Rattle.j39_tp.specs.declared.packet.Packet.TheVariants.{Rts, Cts, EndAck, Bam, Abort, Dt}
use Rattle.j39_follow.specs.Received.{ComesInOrder, IsAnnounced, IsReceived, KeepsOpen, last_bytes, chunk_in, last_chunk}
use Rattle.j39_follow.specs.declared.pair.collected.Collected.{Collected}
use Rattle.j39_follow.specs.inside.Collecting.{CameTo, Closes, HasNoneOpen, IsCollected, IsMoreOf, IsOpened, CollectsOn, chunk_at, kept_bytes}
use Rattle.j39_follow.proofs.Pairs.InOrder.{announced_on, announced_so_far, in_order_before, in_order_below, in_order_longer, in_order_next}
use Rattle.j39_follow.proofs.Pairs.InOrder.{in_order_so_far, last_chunk_more, nothing_in_order, one_announced}

-- ---- what announces nothing

cts_starts_none : (count first number size limit pgn : ℕ) → Cts count first number ≡ Rts size limit pgn → ⊥
cts_starts_none count first number size limit pgn e = cc

all_starts_none : (whole number size limit pgn : ℕ) → Bam whole number ≡ Rts size limit pgn → ⊥
all_starts_none whole number size limit pgn e = cc

data_starts_none : (number : ℕ) (chunk : List ℕ) (size limit pgn : ℕ) → Dt number chunk ≡ Rts size limit pgn → ⊥
data_starts_none number chunk size limit pgn e = cc

cts_is_no_data : (count first number k : ℕ) (chunk : List ℕ) → Cts count first number ≡ Dt k chunk → ⊥
cts_is_no_data count first number k chunk e = cc

-- ---- what ends a message

closing_starts_none : (pgn : ℕ) (p : Packet) → Closes pgn p → (size limit number : ℕ) → p ≢ Rts size limit number
closing_starts_none pgn p (x, inl is) size limit number e = let other : Abort x pgn ≡ Rts size limit number = sym is ∙ e in cc
closing_starts_none pgn p (x, inr is) size limit number e = let other : EndAck x pgn ≡ Rts size limit number = sym is ∙ e in cc

closing_is_no_data : (pgn : ℕ) (p : Packet) → Closes pgn p → (k : ℕ) (chunk : List ℕ) → p ≢ Dt k chunk
closing_is_no_data pgn p (x, inl is) k chunk e = let other : Abort x pgn ≡ Dt k chunk = sym is ∙ e in cc
closing_is_no_data pgn p (x, inr is) k chunk e = let other : EndAck x pgn ≡ Dt k chunk = sym is ∙ e in cc

closing_is_bare : (pgn : ℕ) (p : Packet) → Closes pgn p → (k : ℕ) → chunk_in k p ≡ None
closing_is_bare pgn p (x, inl is) k = ap (chunk_in k) is
closing_is_bare pgn p (x, inr is) k = ap (chunk_in k) is

keeps_others : (pgn : ℕ) (p : Packet) → Closes pgn p → (other : ℕ) → other ≢ pgn → KeepsOpen other p
keeps_others pgn p (x, inl is) other apart = subst (KeepsOpen other) (sym is) (λ same. apart (sym same))
keeps_others pgn p (x, inr is) other apart = subst (KeepsOpen other) (sym is) (λ same. apart (sym same))

keeps_no_own : (pgn : ℕ) (p : Packet) → Closes pgn p → (number : ℕ) → KeepsOpen number p → number ≢ pgn
keeps_no_own pgn p (x, inl is) number keeps same = subst (KeepsOpen number) is keeps (sym same)
keeps_no_own pgn p (x, inr is) number keeps same = subst (KeepsOpen number) is keeps (sym same)

-- ---- nothing open

pub none_on : (h : List Packet) (p : Packet) → ((size limit pgn : ℕ) → p ≢ Rts size limit pgn) → HasNoneOpen h → HasNoneOpen (h ++ p ∷ [])
none_on h p other none = λ size pgn since a. elim (announced_so_far h p size pgn since a) [
  | inl start ↦ absurd (other size start.0 pgn start.1)
  | inr on ↦
      subst (λ (s : List Packet). ComesInOrder s (packets_of size)) (sym on.1)
      (in_order_longer on.0 (p ∷ []) (packets_of size) (none size pgn on.0 on.2))
]

-- a packet that ends what is open
pub none_behind : (c : Collected) (h : List Packet) (p : Packet) → ((size limit pgn : ℕ) → p ≢ Rts size limit pgn)
    → ((pgn : ℕ) → KeepsOpen pgn p → pgn ≢ c.pgn) → IsCollected c h → HasNoneOpen (h ++ p ∷ [])
none_behind c h p other ends is = λ size pgn since a. elim (announced_so_far h p size pgn since a) [
  | inl start ↦ absurd (other size start.0 pgn start.1)
  | inr on ↦
      let same = one_announced h size pgn c.size c.pgn on.0 is.since on.2 is.announced in
      absurd (ends pgn on.3 same.1)
]

-- an announcement to all
pub none_of_all : (h : List Packet) (size pgn : ℕ) → HasNoneOpen (h ++ Bam size pgn ∷ [])
none_of_all h size pgn = λ other number since a. elim (announced_so_far h (Bam size pgn) other number since a) [
  | inl start ↦ absurd (all_starts_none size pgn other start.0 number start.1)
  | inr on ↦ absurd on.3
]

-- ---- a message is announced

pub collected_anew : (c : Collected) (h : List Packet) (size limit pgn : ℕ) → IsSize size → IsOpened size pgn c
    → IsCollected c (h ++ Rts size limit pgn ∷ [])
collected_anew c h size limit pgn fits o =
    let above = fits.above in
    let some : 0 < packets_of size = omega (arith, above) in
    record {
      since = [];
      announced = record {
        before = h;
        limit = limit;
        row = ap (λ (n : ℕ). h ++ Rts n limit pgn ∷ []) (sym o.size_is) ∙ ap (λ (n : ℕ). h ++ Rts c.size limit n ∷ []) (sym o.pgn_is);
        stays = All-nil (KeepsOpen c.pgn);
      };
      fits = subst IsSize (sym o.size_is) fits;
      count = o.count ∙ ap (λ (n : ℕ). packets_of n + 1) (sym o.size_is);
      chunks = λ k within. o.empty k (subst (λ (n : ℕ). k ≤ packets_of n) o.size_is within);
      reached = subst (ComesInOrder []) (sym o.none_held) tt;
      further = nothing_in_order c.held;
      less = subst (λ (n : ℕ). n < packets_of c.size) (sym o.none_held) (subst (λ (n : ℕ). 0 < packets_of n) (sym o.size_is) some);
    }

-- ---- a packet that is no data

pub collected_on : (c : Collected) (h : List Packet) (p : Packet) → ((k : ℕ) → chunk_in k p ≡ None)
    → ((k : ℕ) (chunk : List ℕ) → p ≢ Dt k chunk) → KeepsOpen c.pgn p → IsCollected c h → IsCollected c (h ++ p ∷ [])
collected_on c h p bare other keeps is = record {
  since = is.since ++ p ∷ [];
  announced = announced_on h p c.size c.pgn is.since is.announced keeps;
  fits = is.fits;
  count = is.count;
  chunks = λ k within.
      is.chunks k within
      ∙ sym (last_chunk_more k is.since p ∙ ap (λ (x : Option (List ℕ)). option_or x (last_chunk k is.since)) (bare k));
  reached = in_order_longer is.since (p ∷ []) c.held is.reached;
  further = λ more. elim (in_order_so_far is.since p c.held more) [
    | inl before ↦ is.further before
    | inr next ↦ other (suc c.held) next.0 next.1
  ];
  less = is.less;
}

-- ---- data

if_or : {A : Type 0} (b : Bool) (x : A) (y : Option A) → option_or (if b then Some x else None) y ≡ (if b then Some x else y)
if_or true x y = refl
if_or false x y = refl

one_number : (a b : ℕ) (x y : List ℕ) → Dt a x ≡ Dt b y → a ≡ b
one_number a b x y e = cc

-- the packet is the next one, or as many as before are in order
pub record HoldsOn (c new : Collected) (since : List Packet) (number : ℕ) (chunk : List ℕ) : Type 0 where
  pub reached : ComesInOrder (since ++ Dt number chunk ∷ []) new.held
  pub further : ¬ ComesInOrder (since ++ Dt number chunk ∷ []) (suc new.held)
  pub within : new.held ≤ suc c.held

pub holds_on : (c new : Collected) (since : List Packet) (number : ℕ) (chunk : List ℕ) → IsMoreOf c number chunk new
    → ComesInOrder since c.held → ¬ ComesInOrder since (suc c.held) → HoldsOn c new since number chunk
holds_on c new since number chunk m reached further = elim (cases_Bool (number == c.held + 1)) [
  | inl next ↦
      let is : number ≡ c.held + 1 = eqb-true number (c.held + 1) next in
      let here : number ≡ suc c.held = omega (arith, is) in
      let held : new.held ≡ number = m.held_is ∙ cond-true (number == c.held + 1) number c.held next in
      let next_held : new.held ≡ suc c.held = held ∙ here in
      record {
        reached = subst (ComesInOrder (since ++ Dt number chunk ∷ [])) (sym next_held)
            (subst (λ (n : ℕ). ComesInOrder (since ++ Dt n chunk ∷ []) (suc c.held)) (sym here) (in_order_next since c.held chunk reached));
        further = λ more. elim (in_order_so_far since (Dt number chunk) new.held more) [
          | inl before ↦ further (in_order_before since (suc c.held) (subst (λ (n : ℕ). ComesInOrder since (suc n)) next_held before))
          | inr last ↦
              let same = one_number number (suc new.held) chunk last.0 last.1 in
              absurd (omega (arith, same, held))
        ];
        within = omega (arith, next_held);
      }
  | inr other ↦
      let held : new.held ≡ c.held = m.held_is ∙ cond-false (number == c.held + 1) number c.held other in
      record {
        reached = subst (ComesInOrder (since ++ Dt number chunk ∷ [])) (sym held) (in_order_longer since (Dt number chunk ∷ []) c.held reached);
        further = λ more. elim (in_order_so_far since (Dt number chunk) new.held more) [
          | inl before ↦ further (subst (λ (n : ℕ). ComesInOrder since (suc n)) held before)
          | inr last ↦
              let same = one_number number (suc new.held) chunk last.0 last.1 in
              let apart = eqb-false number (c.held + 1) other in
              apart (omega (arith, same, held))
        ];
        within = omega (arith, held);
      }
]

pub collected_data : (c new : Collected) (h : List Packet) (number : ℕ) (chunk : List ℕ) → IsMoreOf c number chunk new → IsCollected c h
    → new.held ≢ packets_of new.size → IsCollected new (h ++ Dt number chunk ∷ [])
collected_data c new h number chunk m is short =
    let p : Packet = Dt number chunk in
    let on = holds_on c new is.since number chunk m is.reached is.further in
    let less = is.less in
    let within = on.within in
    let sizes : packets_of new.size ≡ packets_of c.size = ap (λ (n : ℕ). packets_of n) m.size_is in
    record {
      since = is.since ++ p ∷ [];
      announced = subst (λ (n : ℕ). IsAnnounced (h ++ p ∷ []) n new.pgn (is.since ++ p ∷ [])) (sym m.size_is)
          (subst (λ (n : ℕ). IsAnnounced (h ++ p ∷ []) c.size n (is.since ++ p ∷ [])) (sym m.pgn_is)
          (announced_on h p c.size c.pgn is.since is.announced tt));
      fits = subst IsSize (sym m.size_is) is.fits;
      count = m.count ∙ is.count ∙ ap (λ (n : ℕ). n + 1) (sym sizes);
      chunks = λ k inside.
          let count = is.count in
          let there : k ≤ packets_of c.size = subst (λ (n : ℕ). k ≤ n) sizes inside in
          let room : k < length c.chunks.items = omega (arith, count, there) in
          m.kept k room
          ∙ ap (λ (y : Option (List ℕ)). if number == k then Some chunk else y) (is.chunks k there)
          ∙ sym (last_chunk_more k is.since p ∙ if_or (number == k) chunk (last_chunk k is.since));
      reached = on.reached;
      further = on.further;
      less = omega (arith, less, within, short, sizes);
    }

-- with it all came in order
pub none_left : (c new : Collected) (h : List Packet) (number : ℕ) (chunk : List ℕ) → IsMoreOf c number chunk new → IsCollected c h
    → new.held ≡ packets_of new.size → HasNoneOpen (h ++ Dt number chunk ∷ [])
none_left c new h number chunk m is whole = λ size pgn since a. elim (announced_so_far h (Dt number chunk) size pgn since a) [
  | inl start ↦ absurd (data_starts_none number chunk size start.0 pgn start.1)
  | inr on ↦
      let same = one_announced h size pgn c.size c.pgn on.0 is.since on.2 is.announced in
      let held = holds_on c new is.since number chunk m is.reached is.further in
      let all : new.held ≡ packets_of size = whole ∙ ap (λ (n : ℕ). packets_of n) (m.size_is ∙ sym same.0) in
      let row : since ≡ is.since ++ Dt number chunk ∷ [] = on.1 ∙ ap (λ (s : List Packet). s ++ Dt number chunk ∷ []) same.2 in
      subst (λ (s : List Packet). ComesInOrder s (packets_of size)) (sym row) (subst (ComesInOrder (is.since ++ Dt number chunk ∷ [])) all held.reached)
]

-- ---- a message that was received

pub same_chunks : (f g : ℕ → List ℕ) (n : ℕ) → ((k : ℕ) → k < n → f (suc k) ≡ g (suc k)) → chunks_to f n ≡ chunks_to g n
same_chunks f g zero same = refl
same_chunks f g (suc n) same =
    ap (λ (t : List ℕ). t ++ f (suc n)) (same_chunks f g n (λ k less. same k (omega (arith, less))))
    ∙ ap (λ (t : List ℕ). chunks_to g n ++ t) (same n (omega arith))

pub received_whole : (c : Collected) (h : List Packet) (bytes : List ℕ) → IsCollected c h → CameTo c.chunks.items (packets_of c.size)
    → bytes ≡ take c.size (chunks_to (kept_bytes c.chunks.items) (packets_of c.size)) → IsReceived h c.size c.pgn bytes
received_whole c h bytes is came text =
    let less = is.less in
    let kept : (k : ℕ) → k < packets_of c.size → chunk_at c.chunks.items (suc k) ≡ last_chunk (suc k) is.since =
    λ k within. is.chunks (suc k) (omega (arith, within)) in
    record {
      since = is.since;
      announced = is.announced;
      disordered = λ all. is.further (in_order_below is.since (packets_of c.size - suc c.held) (suc c.held) (packets_of c.size) (omega (arith, less)) all);
      came = λ k within. ap (λ (x : Option (List ℕ)). is_some x) (sym (kept k within)) ∙ came k within;
      bytes =
          text
          ∙ ap (take c.size) (same_chunks (kept_bytes c.chunks.items) (last_bytes is.since) (packets_of c.size)
          (λ k within. ap (λ (x : Option (List ℕ)). unwrap_or x []) (kept k within)));
    }

-- one of its packets didn't come
pub not_received : (c : Collected) (h : List Packet) (k : ℕ) → IsCollected c h → k < packets_of c.size → chunk_at c.chunks.items (suc k) ≡ None
    → (message : List ℕ) → ¬ IsReceived h c.size c.pgn message
not_received c h k is within none message r =
    let same = one_announced h c.size c.pgn c.size c.pgn r.since is.since r.announced is.announced in
    let lost : last_chunk (suc k) r.since ≡ None =
    ap (last_chunk (suc k)) same.2 ∙ sym (is.chunks (suc k) (omega (arith, within))) ∙ none in
    false≢true (sym (ap (λ (x : Option (List ℕ)). is_some x) lost) ∙ r.came k within)

-- another one is announced, or none
pub other_received : (c : Collected) (h : List Packet) (size pgn : ℕ) → IsCollected c h → (c.size ≢ size) ⊎ (c.pgn ≢ pgn)
    → (message : List ℕ) → ¬ IsReceived h size pgn message
other_received c h size pgn is apart message r =
    let same = one_announced h size pgn c.size c.pgn r.since is.since r.announced is.announced in
    elim apart [ inl sizes ↦ sizes (sym same.0) | inr numbers ↦ numbers (sym same.1) ]

pub none_received : (h : List Packet) (size pgn : ℕ) → HasNoneOpen h → (message : List ℕ) → ¬ IsReceived h size pgn message
none_received h size pgn none message r = r.disordered (none size pgn r.since r.announced)

-- ---- what packets lead to

pub leads_to_start : (old : Option Collected) (c : Collected) (size limit pgn : ℕ) → IsSize size → IsOpened size pgn c
    → CollectsOn old (Some c) (Rts size limit pgn ∷ [])
leads_to_start old c size limit pgn fits o = λ h is. collected_anew c h size limit pgn fits o

pub leads_from_all : (old : Option Collected) (size pgn : ℕ) → CollectsOn old None (Bam size pgn ∷ [])
leads_from_all old size pgn = λ h is. none_of_all h size pgn

pub leads_past_cts : (old : Option Collected) (count first pgn : ℕ) → CollectsOn old old (Cts count first pgn ∷ [])
leads_past_cts None count first pgn = λ h is. none_on h (Cts count first pgn) (cts_starts_none count first pgn) is
leads_past_cts (Some c) count first pgn = λ h is.
    collected_on c h (Cts count first pgn) (λ k. refl) (cts_is_no_data count first pgn) tt is

pub leads_past_data : (number : ℕ) (chunk : List ℕ) → CollectsOn None None (Dt number chunk ∷ [])
leads_past_data number chunk = λ h is. none_on h (Dt number chunk) (data_starts_none number chunk) is

pub leads_by_data : (c new : Collected) (number : ℕ) (chunk : List ℕ) → IsMoreOf c number chunk new → new.held ≢ packets_of new.size
    → CollectsOn (Some c) (Some new) (Dt number chunk ∷ [])
leads_by_data c new number chunk m short = λ h is. collected_data c new h number chunk m is short

pub leads_whole : (c new : Collected) (number : ℕ) (chunk : List ℕ) → IsMoreOf c number chunk new → new.held ≡ packets_of new.size
    → CollectsOn (Some c) None (Dt number chunk ∷ [])
leads_whole c new number chunk m whole = λ h is. none_left c new h number chunk m is whole

pub leads_past : (pgn : ℕ) (p : Packet) → Closes pgn p → CollectsOn None None (p ∷ [])
leads_past pgn p closes = λ h is. none_on h p (closing_starts_none pgn p closes) is

pub leads_on : (c : Collected) (pgn : ℕ) (p : Packet) → Closes pgn p → c.pgn ≢ pgn → CollectsOn (Some c) (Some c) (p ∷ [])
leads_on c pgn p closes other = λ h is.
    collected_on c h p (closing_is_bare pgn p closes) (closing_is_no_data pgn p closes) (keeps_others pgn p closes c.pgn other) is

pub leads_off : (c : Collected) (pgn : ℕ) (p : Packet) → Closes pgn p → c.pgn ≡ pgn → CollectsOn (Some c) None (p ∷ [])
leads_off c pgn p closes same = λ h is.
    none_behind c h p (closing_starts_none pgn p closes) (λ number keeps there. keeps_no_own pgn p closes number keeps (there ∙ same)) is
