-- What a pair heard since one of its addresses last changed hands, once one frame more was sent.
use Rattle.std.proofs.Common.{◌≡◌, ◌⊎◌, ◌<◌, ℕ, Bool, true, false, not, List, [], ◌∷◌, ◌++◌, All, Option, Some, None, inl, inr, refl, sym, ap, subst, ◌∙◌}
use Rattle.std.proofs.Common.{append_assoc, if◌then◌else◌, ◌||◌, eq-eqb, eqb-true}
use Rattle.std.proofs.lemmas.Bool.{cases_Bool, false≢true, not-false, and_from, and_parts, or_parts, cond-false, cond-true}
use Rattle.std.proofs.lemmas.List.{append-nil}
use Rattle.std.proofs.lemmas.List.Elements.{All-tail}
use Rattle.j39_id.specs.declared.frame.Frame.{Frame}
use Rattle.j39_network.specs.declared.plan.Plan.{Plan}
use Rattle.j39_log.specs.LogPairs.{Seen, heard, heard_of, is_heard_by}
use Rattle.j39_log.specs.PairListeners.{AreAllInRange, IsInRange, ListenerRow, after_all, listener_of_pair}
use Rattle.j39_log.proofs.PairLists.{heard_in_range, heard_more, one_turn}
use Rattle.j39_tp.specs.Packets.{InRange}
use Rattle.j39_tp.specs.Receiver.{fresh, receives}
use Rattle.j39_tp.specs.declared.receiving.manner.Manner.TheVariants.{Listening}
use Rattle.j39_tp.specs.declared.packet.Packet.{Packet}
use Rattle.j39_follow.specs.FollowText.{HeardSince, OneChangesHands, frames_seen}
use Rattle.j39_follow.specs.inside.Hearing.{AreReplaced, HaveHeardOneMore, HaveHeardSince, differs_at, is_changed, is_same_number, is_same_party}
use Rattle.j39_follow.specs.inside.Hearing.{kept_between, listener_between}
use Rattle.j39_follow.specs.inside.Collecting.{HasNoneOpen, IsCollectedOf, CollectsOn}
use Rattle.j39_follow.specs.Received.{way_packet, way_packets}
use Rattle.j39_follow.specs.declared.pair.collected.Collected.{Collected}
use Rattle.j39_follow.specs.declared.pair.heard_pairs.HeardPairs.{HeardPairs}
use Rattle.j39_follow.proofs.Pairs.Ways.{no_way_yet, nothing_open, way_more}
use Rattle.j39_follow.specs.Who.{ChangesHands, IsSameParty, stranger_of, unit_of}
use Rattle.j39_follow.specs.declared.address.who.Who.{Who}
use Rattle.j39_follow.specs.inside.Recounting.{ArePartiesOf, party_at}
use Rattle.j39_follow.proofs.Addresses.Holding.{one_more, no_row}
use Rattle.j39_follow.proofs.Addresses.Parties.{one_who}

-- before the first frame nothing was heard
nothing_since : (plan : Plan) (s d : ℕ) → (is : HeardSince plan [] s d []) × (is.since ≡ [])
unfolding heard
nothing_since plan s d = (
  record {
    before = [];
    since = [];
    row = refl;
    anew = inl refl;
    steady = λ front x back e. absurd (no_row front x back e);
    packets_are = refl;
  },
  refl,
)

-- nothing is kept where nothing was heard since
none_kept : (plan : Plan) (pairs : HeardPairs) (seen : List Seen) (s d : ℕ) (h : List Packet) (is : HeardSince plan seen s d h) → is.since ≡ []
    → kept_between pairs s d ≡ None → IsCollectedOf (kept_between pairs s d) (way_packets s d is.since)
none_kept plan pairs seen s d h is empty none =
    subst (λ (c : Option Collected). IsCollectedOf c (way_packets s d is.since)) (sym none)
    (subst HasNoneOpen (sym (ap (way_packets s d) empty ∙ no_way_yet s d)) nothing_open)

pub nothing_heard_since : (plan : Plan) (pairs : HeardPairs) → pairs.listeners.rows.items ≡ [] → ((s d : ℕ) → kept_between pairs s d ≡ None)
    → HaveHeardSince plan pairs []
nothing_heard_since plan pairs empty none s d ls ld =
    let one = nothing_since plan s d in
    record {
      packets = [];
      is = one.0;
      listener = ap (λ (rows : List ListenerRow). listener_of_pair rows s d) empty;
      kept = none_kept plan pairs [] s d [] one.0 one.1 (none s d);
    }

-- at a frame at which neither address changes hands the list goes on
goes_on : (plan : Plan) (seen : List Seen) (x : Seen) (s d : ℕ) (h : List Packet) (of : HeardSince plan seen s d h) → ¬ OneChangesHands plan seen x s d
    → (is : HeardSince plan (seen ++ x ∷ []) s d (h ++ heard_of s d x.frame.ident x.packet)) × (is.since ≡ of.since ++ x ∷ [])
goes_on plan seen x s d h of steady = (
  record {
    before = of.before;
    since = of.since ++ x ∷ [];
    row = ap (λ (t : List Seen). t ++ x ∷ []) of.row ∙ append_assoc of.before of.since (x ∷ []);
    anew = of.anew;
    steady = λ front y back e. elim (one_more of.since x front y back e) [
      | inl last ↦
          let all : of.before ++ front ≡ seen = ap (λ (t : List Seen). of.before ++ t) last.1 ∙ sym of.row in
          subst (λ (z : Seen). ¬ OneChangesHands plan (of.before ++ front) z s d) (sym last.0)
          (subst (λ (t : List Seen). ¬ OneChangesHands plan t x s d) (sym all) steady)
      | inr earlier ↦ of.steady front y earlier.0 earlier.2
    ];
    packets_are = ap (λ (t : List Packet). t ++ heard_of s d x.frame.ident x.packet) of.packets_are ∙ sym (heard_more s d of.since x);
  },
  refl,
)

-- at one at which it does it begins anew
begins_anew : (plan : Plan) (seen : List Seen) (x : Seen) (s d : ℕ) → OneChangesHands plan seen x s d
    → (is : HeardSince plan (seen ++ x ∷ []) s d []) × (is.since ≡ [])
unfolding heard
begins_anew plan seen x s d parts = (
  record {
    before = seen ++ x ∷ [];
    since = [];
    row = sym (append-nil (seen ++ x ∷ []));
    anew = inr (seen, x, refl, parts);
    steady = λ front y back e. absurd (no_row front y back e);
    packets_are = refl;
  },
  refl,
)

-- ---- ranges

all_back : {A : Type 0} (P : A → Type 0) (front back : List A) → All P (front ++ back) → All P back
all_back P [] back all = all
all_back P (x ∷ front) back all = all_back P front back (All-tail P x (front ++ back) all)

pub since_in_range : (plan : Plan) (seen : List Seen) (s d : ℕ) (h : List Packet) → HeardSince plan seen s d h → AreAllInRange seen → All InRange h
since_in_range plan seen s d h of ranges =
    subst (All InRange) (sym of.packets_are)
    (heard_in_range s d of.since (all_back (λ (y : Seen). IsInRange y.packet) of.before of.since
    (subst (All (λ (y : Seen). IsInRange y.packet)) of.row ranges)))

-- ---- change of hands

pub frames_more : (seen : List Seen) (x : Seen) → frames_seen (seen ++ x ∷ []) ≡ frames_seen seen ++ x.frame ∷ []
frames_more [] x = refl
frames_more (y ∷ seen) x = ap (λ (t : List Frame). y.frame ∷ t) (frames_more seen x)

same_number : (a b : Option ℕ) → is_same_number a b ≡ true → a ≡ b
same_number None None e = refl
same_number None (Some y) e = cc
same_number (Some x) None e = cc
same_number (Some x) (Some y) e = ap Some (eqb-true x y e)

number_itself : (a : Option ℕ) → is_same_number a a ≡ true
number_itself None = refl
number_itself (Some x) = eq-eqb x x refl

pub party_same : (a b : Who) → is_same_party a b ≡ true → IsSameParty a b
party_same a b e =
    let parts = and_parts (is_same_number (unit_of a) (unit_of b)) (is_same_number (stranger_of a) (stranger_of b)) e in
    record { unit = same_number (unit_of a) (unit_of b) parts.0; stranger = same_number (stranger_of a) (stranger_of b) parts.1 }

pub party_again : (a b : Who) → IsSameParty a b → is_same_party a b ≡ true
party_again a b same =
    and_from (is_same_number (unit_of a) (unit_of b)) (is_same_number (stranger_of a) (stranger_of b))
    (subst (λ (u : Option ℕ). is_same_number (unit_of a) u ≡ true) same.unit (number_itself (unit_of a)))
    (subst (λ (n : Option ℕ). is_same_number (stranger_of a) n ≡ true) same.stranger (number_itself (stranger_of a)))

not_true : (b : Bool) → not b ≡ true → b ≡ true → ⊥
not_true true e d = cc
not_true false e d = cc

one_of : (a b : Bool) → (a || b) ≡ true → (a ≡ true) ⊎ (b ≡ true)
one_of true b e = inl refl
one_of false b e = inr e

changes : (plan : Plan) (frames : List Frame) (f : Frame) (olds news : List Who) (replaced : Option ℕ) (a : ℕ) → ArePartiesOf plan frames olds
    → ArePartiesOf plan (frames ++ f ∷ []) news → AreReplaced frames f replaced → a < 256 → differs_at olds news replaced a ≡ true
    → ChangesHands plan frames f a
changes plan frames f olds news replaced a before after are less differs = record {
  old = party_at olds a;
  new = party_at news a;
  old_is = before a less;
  new_is = after a less;
  another = elim (one_of (not (is_same_party (party_at olds a) (party_at news a))) (is_same_number replaced (Some a)) differs) [
    | inl parties ↦
        inl (λ same. not_true (is_same_party (party_at olds a) (party_at news a)) parties (party_again (party_at olds a) (party_at news a) same))
    | inr names ↦ inr (are.one a (same_number replaced (Some a) names))
  ];
}

stays : (plan : Plan) (frames : List Frame) (f : Frame) (olds news : List Who) (replaced : Option ℕ) (a : ℕ) → ArePartiesOf plan frames olds
    → ArePartiesOf plan (frames ++ f ∷ []) news → AreReplaced frames f replaced → a < 256 → differs_at olds news replaced a ≡ false
    → ¬ ChangesHands plan frames f a
stays plan frames f olds news replaced a before after are less same ch =
    let old = one_who plan frames a ch.old (party_at olds a) ch.old_is (before a less) in
    let new = one_who plan (frames ++ f ∷ []) a ch.new (party_at news a) ch.new_is (after a less) in
    let parts = or_parts (not (is_same_party (party_at olds a) (party_at news a))) (is_same_number replaced (Some a)) same in
    elim ch.another [
      | inl parties ↦
          parties (subst (λ (w : Who). IsSameParty w ch.new) (sym old) (subst (IsSameParty (party_at olds a)) (sym new)
          (party_same (party_at olds a) (party_at news a) (not-false (is_same_party (party_at olds a) (party_at news a)) parts.0))))
      | inr names ↦
          false≢true (sym parts.1
          ∙ subst (λ (r : Option ℕ). is_same_number r (Some a) ≡ true) (sym (are.only a names)) (number_itself (Some a)))
    ]

changes_at : (plan : Plan) (seen : List Seen) (x : Seen) (olds news : List Who) (replaced : Option ℕ) (s d : ℕ)
    → ArePartiesOf plan (frames_seen seen) olds → ArePartiesOf plan (frames_seen seen ++ x.frame ∷ []) news
    → AreReplaced (frames_seen seen) x.frame replaced → s < 256 → d < 256 → is_changed olds news replaced s d ≡ true → OneChangesHands plan seen x s d
changes_at plan seen x olds news replaced s d before after are ls ld is =
    elim (one_of (differs_at olds news replaced s) (differs_at olds news replaced d) is) [
      | inl source ↦ inl (changes plan (frames_seen seen) x.frame olds news replaced s before after are ls source)
      | inr destination ↦ inr (changes plan (frames_seen seen) x.frame olds news replaced d before after are ld destination)
    ]

stays_at : (plan : Plan) (seen : List Seen) (x : Seen) (olds news : List Who) (replaced : Option ℕ) (s d : ℕ)
    → ArePartiesOf plan (frames_seen seen) olds → ArePartiesOf plan (frames_seen seen ++ x.frame ∷ []) news
    → AreReplaced (frames_seen seen) x.frame replaced → s < 256 → d < 256 → is_changed olds news replaced s d ≡ false → ¬ OneChangesHands plan seen x s d
stays_at plan seen x olds news replaced s d before after are ls ld together one =
    let same = or_parts (differs_at olds news replaced s) (differs_at olds news replaced d) together in
    elim one [
      | inl source ↦ stays plan (frames_seen seen) x.frame olds news replaced s before after are ls same.0 source
      | inr destination ↦ stays plan (frames_seen seen) x.frame olds news replaced d before after are ld same.1 destination
    ]

-- once the pairs of which an address has changed hands have begun anew
pub heard_anew : (plan : Plan) (seen : List Seen) (x : Seen) (olds news : List Who) (replaced : Option ℕ) (mid new : HeardPairs)
    → ArePartiesOf plan (frames_seen seen) olds → ArePartiesOf plan (frames_seen seen ++ x.frame ∷ []) news
    → AreReplaced (frames_seen seen) x.frame replaced
    → ((s d : ℕ) → s < 256 → d < 256
    → listener_between new s d ≡ (if is_changed olds news replaced s d then fresh Listening else listener_between mid s d))
    → ((s d : ℕ) → s < 256 → d < 256 → kept_between new s d ≡ (if is_changed olds news replaced s d then None else kept_between mid s d))
    → HaveHeardOneMore plan mid seen x → HaveHeardSince plan new (seen ++ x ∷ [])
heard_anew plan seen x olds news replaced mid new before after are changed kept more s d ls ld =
    let b = is_changed olds news replaced s d in
    elim (cases_Bool b) [
      | inl is ↦
          let one = begins_anew plan seen x s d (changes_at plan seen x olds news replaced s d before after are ls ld is) in
          record {
            packets = [];
            is = one.0;
            listener = changed s d ls ld ∙ cond-true b (fresh Listening) (listener_between mid s d) is;
            kept = none_kept plan new (seen ++ x ∷ []) s d [] one.0 one.1 (kept s d ls ld ∙ cond-true b None (kept_between mid s d) is);
          }
      | inr together ↦
          let one = more s d ls ld in
          let on = goes_on plan seen x s d one.packets one.is (stays_at plan seen x olds news replaced s d before after are ls ld together) in
          let same : kept_between new s d ≡ kept_between mid s d = kept s d ls ld ∙ cond-false b None (kept_between mid s d) together in
          let row : way_packets s d on.0.since ≡ way_packets s d one.is.since ++ way_packet s d x.frame.ident x.packet =
          ap (way_packets s d) on.1 ∙ way_more s d one.is.since x in
          record {
            packets = one.packets ++ heard_of s d x.frame.ident x.packet;
            is = on.0;
            listener = changed s d ls ld ∙ cond-false b (fresh Listening) (listener_between mid s d) together ∙ one.listener;
            kept = subst (λ (c : Option Collected). IsCollectedOf c (way_packets s d on.0.since)) (sym same)
                (subst (IsCollectedOf (kept_between mid s d)) (sym row) one.kept);
          }
    ]

same_itself : (w : Who) → is_same_party w w ≡ true
same_itself w = party_again w w (record { unit = refl; stranger = refl })

unchanged_hands : (parties : List Who) (s d : ℕ) → is_changed parties parties None s d ≡ false
unchanged_hands parties s d =
    ap (λ (b : Bool). (not b || false) || differs_at parties parties None d) (same_itself (party_at parties s))
    ∙ ap (λ (b : Bool). not b || false) (same_itself (party_at parties d))

-- where all parties stay
pub heard_on : (plan : Plan) (seen : List Seen) (x : Seen) (parties : List Who) (pairs : HeardPairs)
    → ArePartiesOf plan (frames_seen seen) parties → ArePartiesOf plan (frames_seen seen ++ x.frame ∷ []) parties
    → AreReplaced (frames_seen seen) x.frame None → HaveHeardOneMore plan pairs seen x → HaveHeardSince plan pairs (seen ++ x ∷ [])
heard_on plan seen x parties pairs before after are more =
    heard_anew plan seen x parties parties None pairs pairs before after are
    (λ s d ls ld. sym (cond-false (is_changed parties parties None s d) (fresh Listening) (listener_between pairs s d) (unchanged_hands parties s d)))
    (λ s d ls ld. sym (cond-false (is_changed parties parties None s d) None (kept_between pairs s d) (unchanged_hands parties s d))) more

-- ---- a frame

-- that no pair hears
pub unheard_more : (plan : Plan) (pairs : HeardPairs) (seen : List Seen) (f : Frame) → HaveHeardSince plan pairs seen
    → HaveHeardOneMore plan pairs seen (record { frame = f; packet = None })
unheard_more plan pairs seen f have s d ls ld =
    let one = have s d ls ld in
    record {
      packets = one.packets;
      is = one.is;
      listener = one.listener ∙ sym (ap after_all (append-nil one.packets));
      kept = subst (IsCollectedOf (kept_between pairs s d)) (sym (append-nil (way_packets s d one.is.since))) one.kept;
    }

-- of which a packet is heard
pub heard_packet : (plan : Plan) (old new : HeardPairs) (seen : List Seen) (f : Frame) (p : Packet)
    → ((s d : ℕ) → s < 256 → d < 256
    → listener_between new s d ≡ (if is_heard_by s d f.ident p then receives (listener_between old s d) p else listener_between old s d))
    → ((s d : ℕ) → s < 256 → d < 256 → CollectsOn (kept_between old s d) (kept_between new s d) (way_packet s d f.ident (Some p)))
    → HaveHeardSince plan old seen → HaveHeardOneMore plan new seen (record { frame = f; packet = Some p })
heard_packet plan old new seen f p turn leads have s d ls ld =
    let one = have s d ls ld in
    record {
      packets = one.packets;
      is = one.is;
      listener = turn s d ls ld ∙ one_turn (is_heard_by s d f.ident p) (listener_between old s d) one.packets p one.listener;
      kept = leads s d ls ld (way_packets s d one.is.since) one.kept;
    }
