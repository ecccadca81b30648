-- The packets of a pair, frame after frame.
use Rattle.std.proofs.Common.{◌≡◌, ◌≢◌, ◌<◌, ◌==◌, ◌&&◌, ◌||◌, ℕ, Bool, true, false, if◌then◌else◌, List, [], ◌∷◌, ◌++◌, Option, Some, None, inl, inr}
use Rattle.std.proofs.Common.{refl, sym, ap, subst, ◌∙◌, append_assoc, arith, eq-eqb, eqb-true}
use Rattle.std.proofs.lemmas.Bool.{cases_Bool, eqb-false, false≢true, and_from}
use Rattle.std.proofs.lemmas.List.{append-nil}
use Rattle.std.proofs.lemmas.Option.{none-some, same_Some}
use Rattle.j39_id.specs.declared.frame.Frame.{Frame}
use Rattle.j39_id.specs.declared.ident.Ident.{Ident}
use Rattle.j39_network.specs.declared.plan.Plan.{Plan}
use Rattle.j39_tp.specs.declared.packet.Packet.{Packet}
use Rattle.j39_tp.specs.declared.packet.Packet.TheVariants.{Rts, Cts, EndAck, Bam, Abort, Dt}
use Rattle.j39_log.specs.LogPairs.{Seen, is_abort}
use Rattle.j39_follow.specs.Contests.{Timed}
use Rattle.j39_follow.specs.FollowText.{IsInOrderReport, IsPacketReport}
use Rattle.j39_follow.specs.Received.{is_of_way, way_packet, way_packets}
use Rattle.j39_follow.specs.declared.message.Sort.{Sort}
use Rattle.j39_follow.specs.declared.pair.collected.Collected.{Collected}
use Rattle.j39_follow.specs.declared.pair.collections.Collections.{Collections}
use Rattle.j39_follow.specs.inside.Collecting.{HasNoneOpen, IsCollectedOf, CollectsOn, collected_between, collected_for, pair_key, receipt_in, reports_whole}
use Rattle.j39_follow.proofs.Addresses.Holding.{no_row}

pub way_more : (s d : ℕ) (seen : List Seen) (x : Seen) → way_packets s d (seen ++ x ∷ []) ≡ way_packets s d seen ++ way_packet s d x.frame.ident x.packet
unfolding way_packets
way_more s d [] x = append-nil (way_packet s d x.frame.ident x.packet)
way_more s d (y ∷ seen) x =
    ap (λ (t : List Packet). way_packet s d y.frame.ident y.packet ++ t) (way_more s d seen x)
    ∙ sym (append_assoc (way_packet s d y.frame.ident y.packet) (way_packets s d seen) (way_packet s d x.frame.ident x.packet))

pub no_way_yet : (s d : ℕ) → way_packets s d [] ≡ []
unfolding way_packets
no_way_yet s d = refl

pub nothing_open : HasNoneOpen []
nothing_open = λ size pgn since a. absurd (no_row a.before (Rts size a.limit pgn) since a.row)

-- ---- which pairs a packet is of

or_nothing : (a b : Bool) → (a || (false && b)) ≡ a
or_nothing true b = refl
or_nothing false b = refl

way_of_receipt : (s d : ℕ) (i : Ident) (p : Packet) → reports_whole p ≡ true → is_of_way s d i p ≡ (i.ps == s && i.sa == d)
way_of_receipt s d i (EndAck size pgn) e = refl
way_of_receipt s d i (Rts size limit pgn) e = absurd (false≢true e)
way_of_receipt s d i (Cts count first pgn) e = absurd (false≢true e)
way_of_receipt s d i (Bam size pgn) e = absurd (false≢true e)
way_of_receipt s d i (Abort reason pgn) e = absurd (false≢true e)
way_of_receipt s d i (Dt number chunk) e = absurd (false≢true e)

way_of_abort : (s d : ℕ) (i : Ident) (p : Packet) → is_abort p ≡ true
    → is_of_way s d i p ≡ ((i.sa == s && i.ps == d) || (i.ps == s && i.sa == d))
way_of_abort s d i (Abort reason pgn) e = refl
way_of_abort s d i (EndAck size pgn) e = absurd (false≢true e)
way_of_abort s d i (Rts size limit pgn) e = absurd (false≢true e)
way_of_abort s d i (Cts count first pgn) e = absurd (false≢true e)
way_of_abort s d i (Bam size pgn) e = absurd (false≢true e)
way_of_abort s d i (Dt number chunk) e = absurd (false≢true e)

way_of_other : (s d : ℕ) (i : Ident) (p : Packet) → reports_whole p ≡ false → is_abort p ≡ false → is_of_way s d i p ≡ (i.sa == s && i.ps == d)
way_of_other s d i (EndAck size pgn) e f = absurd (false≢true (sym e))
way_of_other s d i (Abort reason pgn) e f = absurd (false≢true (sym f))
way_of_other s d i (Rts size limit pgn) e f = or_nothing (i.sa == s && i.ps == d) (i.ps == s && i.sa == d)
way_of_other s d i (Cts count first pgn) e f = or_nothing (i.sa == s && i.ps == d) (i.ps == s && i.sa == d)
way_of_other s d i (Bam size pgn) e f = or_nothing (i.sa == s && i.ps == d) (i.ps == s && i.sa == d)
way_of_other s d i (Dt number chunk) e f = or_nothing (i.sa == s && i.ps == d) (i.ps == s && i.sa == d)

-- a pair has one number
same_key : (x y s d : ℕ) → x < 256 → y < 256 → s < 256 → d < 256 → (pair_key x y == pair_key s d) ≡ (x == s && y == d)
same_key x y s d lx ly ls ld = elim (cases_Bool (pair_key x y == pair_key s d)) [
  | inl same ↦
      let is : pair_key x y ≡ pair_key s d = eqb-true (pair_key x y) (pair_key s d) same in
      let first : x ≡ s = omega (arith, is, ly, ld) in
      let second : y ≡ d = omega (arith, is, ly, ld) in
      same ∙ sym (and_from (x == s) (y == d) (eq-eqb x s first) (eq-eqb y d second))
  | inr other ↦
      let apart = eqb-false (pair_key x y) (pair_key s d) other in
      other ∙ sym (not_both x y s d apart)
]
  where
    not_both : (x y s d : ℕ) → pair_key x y ≢ pair_key s d → (x == s && y == d) ≡ false
    not_both x y s d unlike = elim (cases_Bool (x == s)) [
      | inl one ↦ elim (cases_Bool (y == d)) [
        | inl two ↦
            let e : x ≡ s = eqb-true x s one in
            let f : y ≡ d = eqb-true y d two in
            absurd (unlike (omega (arith, e, f)))
        | inr two ↦ ap (λ (b : Bool). b && y == d) one ∙ two
      ]
      | inr one ↦ ap (λ (b : Bool). b && y == d) one
    ]

-- ---- what one packet leads to

nothing_led : (old new : Option Collected) → new ≡ old → CollectsOn old new []
nothing_led old new same = λ h is.
    subst (IsCollectedOf new) (sym (append-nil h)) (subst (λ (o : Option Collected). IsCollectedOf o h) (sym same) is)

-- at the pair of its number alone
led_at : (old new : Collections) (p : Packet) (key k : ℕ) → CollectsOn (collected_for old key) (collected_for new key) (p ∷ [])
    → ((other : ℕ) → other ≢ key → collected_for new other ≡ collected_for old other)
    → CollectsOn (collected_for old k) (collected_for new k) (if key == k then p ∷ [] else [])
led_at old new p key k one others = elim (cases_Bool (key == k)) [
  | inl same ↦
      let is : key ≡ k = eqb-true key k same in
      subst (λ (b : Bool). CollectsOn (collected_for old k) (collected_for new k) (if b then p ∷ [] else [])) (sym same)
      (subst (λ (n : ℕ). CollectsOn (collected_for old n) (collected_for new n) (p ∷ [])) is one)
  | inr other ↦
      let apart = eqb-false key k other in
      subst (λ (b : Bool). CollectsOn (collected_for old k) (collected_for new k) (if b then p ∷ [] else [])) (sym other)
      (nothing_led (collected_for old k) (collected_for new k) (others k (λ same. apart (sym same))))
]

-- at the pair of its addresses
led_between : (old new : Collections) (p : Packet) (x y s d : ℕ) → x < 256 → y < 256 → s < 256 → d < 256
    → CollectsOn (collected_for old (pair_key x y)) (collected_for new (pair_key x y)) (p ∷ [])
    → ((other : ℕ) → other ≢ pair_key x y → collected_for new other ≡ collected_for old other)
    → CollectsOn (collected_between old s d) (collected_between new s d) (if x == s && y == d then p ∷ [] else [])
led_between old new p x y s d lx ly ls ld one others =
    subst (λ (b : Bool). CollectsOn (collected_between old s d) (collected_between new s d) (if b then p ∷ [] else [])) (same_key x y s d lx ly ls ld)
    (led_at old new p (pair_key x y) (pair_key s d) one others)

pub led_by_receipt : (old new : Collections) (p : Packet) (i : Ident) → reports_whole p ≡ true
    → CollectsOn (collected_for old (pair_key i.ps i.sa)) (collected_for new (pair_key i.ps i.sa)) (p ∷ [])
    → ((other : ℕ) → other ≢ pair_key i.ps i.sa → collected_for new other ≡ collected_for old other)
    → (s d : ℕ) → s < 256 → d < 256 → CollectsOn (collected_between old s d) (collected_between new s d) (way_packet s d i (Some p))
led_by_receipt old new p i is one others = λ s d ls ld.
    subst (λ (b : Bool). CollectsOn (collected_between old s d) (collected_between new s d) (if b then p ∷ [] else [])) (sym (way_of_receipt s d i p is))
    (led_between old new p i.ps i.sa s d i.ps_range i.sa_range ls ld one others)

pub led_by_other : (old new : Collections) (p : Packet) (i : Ident) → reports_whole p ≡ false → is_abort p ≡ false
    → CollectsOn (collected_for old (pair_key i.sa i.ps)) (collected_for new (pair_key i.sa i.ps)) (p ∷ [])
    → ((other : ℕ) → other ≢ pair_key i.sa i.ps → collected_for new other ≡ collected_for old other)
    → (s d : ℕ) → s < 256 → d < 256 → CollectsOn (collected_between old s d) (collected_between new s d) (way_packet s d i (Some p))
led_by_other old new p i unsaid none one others = λ s d ls ld.
    subst (λ (b : Bool). CollectsOn (collected_between old s d) (collected_between new s d) (if b then p ∷ [] else [])) (sym (way_of_other s d i p unsaid none))
    (led_between old new p i.sa i.ps s d i.sa_range i.ps_range ls ld one others)

pub led_by_abort : (old new : Collections) (p : Packet) (i : Ident) → is_abort p ≡ true
    → ((key : ℕ) → CollectsOn (collected_for old key) (collected_for new key)
    (if pair_key i.sa i.ps == key || pair_key i.ps i.sa == key then p ∷ [] else []))
    → (s d : ℕ) → s < 256 → d < 256 → CollectsOn (collected_between old s d) (collected_between new s d) (way_packet s d i (Some p))
led_by_abort old new p i is each = λ s d ls ld.
    let key = pair_key s d in
    let same : (pair_key i.sa i.ps == pair_key s d || pair_key i.ps i.sa == pair_key s d) ≡ is_of_way s d i p =
    ap (λ (b : Bool). b || pair_key i.ps i.sa == pair_key s d) (same_key i.sa i.ps s d i.sa_range i.ps_range ls ld)
    ∙ ap (λ (b : Bool). (i.sa == s && i.ps == d) || b) (same_key i.ps i.sa s d i.ps_range i.sa_range ls ld)
    ∙ sym (way_of_abort s d i p is) in
    subst (λ (b : Bool). CollectsOn (collected_between old s d) (collected_between new s d) (if b then p ∷ [] else [])) same (each (pair_key s d))

-- at two pairs, one after the other
pub led_at_both : (old mid new : Collections) (p : Packet) (there back : ℕ) → back ≢ there
    → CollectsOn (collected_for old there) (collected_for mid there) (p ∷ [])
    → ((other : ℕ) → other ≢ there → collected_for mid other ≡ collected_for old other)
    → CollectsOn (collected_for mid back) (collected_for new back) (p ∷ [])
    → ((other : ℕ) → other ≢ back → collected_for new other ≡ collected_for mid other)
    → (key : ℕ) → CollectsOn (collected_for old key) (collected_for new key) (if there == key || back == key then p ∷ [] else [])
led_at_both old mid new p there back apart first others second rest key = elim (cases_Bool (there == key)) [
  | inl same ↦
      let is : there ≡ key = eqb-true there key same in
      let stays : collected_for new key ≡ collected_for mid key = rest key (λ e. apart (sym e ∙ sym is)) in
      subst (λ (b : Bool). CollectsOn (collected_for old key) (collected_for new key) (if b || back == key then p ∷ [] else [])) (sym same)
      (subst (λ (o : Option Collected). CollectsOn (collected_for old key) o (p ∷ [])) (sym stays)
      (subst (λ (n : ℕ). CollectsOn (collected_for old n) (collected_for mid n) (p ∷ [])) is first))
  | inr other ↦
      let unlike = eqb-false there key other in
      let was : collected_for mid key ≡ collected_for old key = others key (λ e. unlike (sym e)) in
      subst (λ (b : Bool). CollectsOn (collected_for old key) (collected_for new key) (if b || back == key then p ∷ [] else [])) (sym other)
      (subst (λ (o : Option Collected). CollectsOn o (collected_for new key) (if back == key then p ∷ [] else [])) was
      (led_at mid new p back key second rest))
]

pub led_at_one : (old new : Collections) (p : Packet) (there back : ℕ) → back ≡ there
    → CollectsOn (collected_for old there) (collected_for new there) (p ∷ [])
    → ((other : ℕ) → other ≢ there → collected_for new other ≡ collected_for old other)
    → (key : ℕ) → CollectsOn (collected_for old key) (collected_for new key) (if there == key || back == key then p ∷ [] else [])
led_at_one old new p there back same one others key =
    let twice : (there == key) ≡ (there == key || back == key) = doubled (there == key) ∙ ap (λ (n : ℕ). there == key || n == key) (sym same) in
    subst (λ (b : Bool). CollectsOn (collected_for old key) (collected_for new key) (if b then p ∷ [] else [])) twice
    (led_at old new p there key one others)
  where
    doubled : (b : Bool) → b ≡ (b || b)
    doubled true = refl
    doubled false = refl

-- ---- a packet by which no receiver says that it has a message whole

pub plain_report : (plan : Plan) (before : List Seen) (log : List Timed) (front : List ℕ) (f : Frame) (p : Packet) (sorts : List Sort) (text : List ℕ)
    → receipt_in p ≡ None → IsInOrderReport plan before log front f p sorts text → IsPacketReport plan before log front f (Some p) sorts text
plain_report plan before log front f (EndAck size pgn) sorts text none is = absurd (none-some (size, pgn) (sym none))
plain_report plan before log front f (Rts size limit pgn) sorts text none is = is
plain_report plan before log front f (Cts count first pgn) sorts text none is = is
plain_report plan before log front f (Bam size pgn) sorts text none is = is
plain_report plan before log front f (Abort reason pgn) sorts text none is = is
plain_report plan before log front f (Dt number chunk) sorts text none is = is

pub receipt_is : (p : Packet) (r : ℕ × ℕ) → receipt_in p ≡ Some r → p ≡ EndAck r.0 r.1
receipt_is (EndAck size pgn) r is = ap (λ (q : ℕ × ℕ). EndAck q.0 q.1) (same_Some (size, pgn) r is)
receipt_is (Rts size limit pgn) r is = absurd (none-some r is)
receipt_is (Cts count first pgn) r is = absurd (none-some r is)
receipt_is (Bam size pgn) r is = absurd (none-some r is)
receipt_is (Abort reason pgn) r is = absurd (none-some r is)
receipt_is (Dt number chunk) r is = absurd (none-some r is)
