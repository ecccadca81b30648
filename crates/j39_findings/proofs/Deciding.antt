-- Each test decides its statement.
use Rattle.std.proofs.Common.{◌≡◌, ℕ, zero, suc, ◌+◌, ◌*◌, ◌<◌, ◌≤◌, ◌==◌, ◌⊎◌, List, [], ◌∷◌, Bool, true, false, not, ◌&&◌, nat_lt, Option, Some}
use Rattle.std.proofs.Common.{None, Contains, Decides, refl, sym, ◌∙◌, inl, inr, subst, ◌%◌, arith}
use Rattle.std.specs.List.{slice_get, list_any}
use Rattle.std.specs.FinSet.{contains, FinSet}
use Rattle.std.proofs.lemmas.Bool.{false≢true, cases_lt}
use Rattle.std.proofs.lemmas.Bool.Decides.{Decides-eqb, Decides-and, Decides-or, Decides-not, Decides-like, Decides-ltb}
use Rattle.std.proofs.lemmas.Option.{none-some, same_Some}
use Rattle.std.proofs.lemmas.Slice.Eq.{bytes_eq-Decides}
use Rattle.std.specs.Ordering.{nat_cmp}
use Rattle.j39_id.specs.Name.{is_arbitrary}
use Rattle.j39_id.specs.Limits.{frame_bytes}
use Rattle.j39_id.specs.Pgn.{pgn_end, extended_page, pdu2_first, IsPgn, pf_of, is_pgn}
use Rattle.j39_id.specs.Proprietary.{proprietary_a, proprietary_a2, proprietary_b_first, proprietary_b_last, proprietary_b2_first, proprietary_b2_last}
use Rattle.j39_id.specs.Proprietary.{is_proprietary}
use Rattle.j39_id.specs.Services.{service_groups}
use Rattle.j39_signal.specs.declared.signal_parts.SignalParts.{SignalParts}
use Rattle.j39_signal.specs.Places.{WidthFits, IsInside, SharesBit, shares_bit}
use Rattle.j39_signal.proofs.Sharing.{shared_by_test}
use Rattle.j39_search.specs.ListPlaces.{SomeMeets, ValueAt}
use Rattle.j39_network.specs.declared.plan.unit_plan.UnitPlan.{UnitPlan}
use Rattle.j39_network.specs.declared.plan.group_plan.GroupPlan.{GroupPlan}
use Rattle.j39_network.specs.declared.plan.flow_plan.FlowPlan.{FlowPlan}
use Rattle.j39_network.specs.declared.plan.need_plan.NeedPlan.{NeedPlan}
use Rattle.j39_network.specs.declared.plan.request_plan.RequestPlan.{RequestPlan}
use Rattle.j39_network.specs.declared.plan.text_plan.TextPlan.{TextPlan}
use Rattle.j39_network.specs.TextPlaces.{last_byte}
use Rattle.j39_network.specs.declared.plan.to.To.{To}
use Rattle.j39_network.specs.declared.plan.to.To.TheVariants.{All, One}
use Rattle.j39_search.proofs.Deciding.{Decides-leb}
use Rattle.j39_findings.specs.Findings.{HaveSilentAddress, IsSilentInPool, HaveSameFixedAddress, PrefersKept, IsProprietary, IsForNoPlan, IsWronglyPrivate}
use Rattle.j39_findings.specs.Findings.{HasBadPgn, DoReceiversMeet, AreSentTogether, HaveSamePgn, IsPrivateUnsent, CannotGoToOne, GoesToItsSender}
use Rattle.j39_network.specs.PlannedFlows.{AreOneFlow}
use Rattle.j39_findings.specs.Findings.{IsOutside, IsUnmet, GoesUnanswered, GoesUnheard, IsAnsweredAstray, AskForOneNumber, AskTheSame}
use Rattle.j39_findings.specs.Found.{have_silent_address, is_silent_in_pool, have_same_fixed_address, needs_pool_address, prefers_kept, is_for_no_plan}
use Rattle.j39_findings.specs.Found.{is_wrongly_private, is_selector_outside, has_bad_pgn, sends, do_receivers_meet, sends_beside, are_sent_together}
use Rattle.j39_findings.specs.Found.{have_same_pgn, is_private_unsent, has_other_width, ends_outside, is_one_frame_to_all, may_be_one_frame_to_all, is_group_of}
use Rattle.j39_findings.specs.Found.{cannot_go_to_one, goes_to_its_sender, are_one_flow, lies_outside, is_unmet, is_served_to_one}
use Rattle.j39_findings.specs.Found.{is_served_to_all, goes_unanswered, goes_unheard, may_name_receiver, is_one_astray, is_all_astray, is_answered_astray}
use Rattle.j39_findings.specs.Found.{ask_for_one_number, ask_the_same}
use Rattle.j39_network.specs.UnitAddresses.{NeedsPoolAddress}
use Rattle.j39_network.specs.PlannedFlows.{Sends, IsOneFrameToAll, MayBeOneFrameToAll, IsToOne}
use Rattle.j39_network.specs.Serving.{Serves, IsServed, IsServedToOne, IsServedToAll, AsksOne, AsksAll, MayNameReceiver}
use Rattle.j39_network.specs.SignalPlaces.{room_of_signal}
use Rattle.j39_signal.specs.Selectors.{DifferInValue, differ_in_value, selector_end}
use Rattle.j39_signal.specs.declared.selector.Selector.{Selector}
use Rattle.std.specs.Option.{ForSome, option_map_or}
use Rattle.j39_network.specs.PlannedGroups.{IsSelectorInside}
use Rattle.j39_network.proofs.Served.{not_is, Decides-is_to_one, Decides-is_to, some_decides, to_all_decides, Decides-serves, Decides-is_served}
use Rattle.j39_network.proofs.Served.{Decides-some_meets, Decides-have_same_receiver}

-- ---- units

pub Decides-have_same_fixed_address : (u v : UnitPlan) → Decides (have_same_fixed_address u v) (HaveSameFixedAddress u v)
Decides-have_same_fixed_address u v =
    Decides-like _ (λ h. (h.0, h.1.0, h.1.1.0, h.1.1.1.0, h.1.1.1.1)) (λ h. (h.0, (h.1, (h.2, (h.3, h.4)))))
    (Decides-and _ _ (not_is (is_arbitrary u.name)) (Decides-and _ _ (not_is (is_arbitrary v.name))
    (Decides-and _ _ (Decides-eqb u.address v.address) (Decides-and _ _ (λ e. e, λ e. e) (λ e. e, λ e. e)))))

neither : (a b : Bool) → Decides (not (a && b)) ((a ≡ false) ⊎ (b ≡ false))
neither true true = (λ e. absurd (false≢true e), λ h. elim h [ inl e ↦ absurd (false≢true (sym e)) | inr e ↦ absurd (false≢true (sym e)) ])
neither true false = (λ e. inr refl, λ h. refl)
neither false b = (λ e. inl refl, λ h. refl)

pub Decides-have_silent_address : (u v : UnitPlan) → Decides (have_silent_address u v) (HaveSilentAddress u v)
Decides-have_silent_address u v = Decides-and _ _ (Decides-eqb u.address v.address) (neither u.claims v.claims)

pub Decides-is_silent_in_pool : (kept : FinSet nat_cmp) (strangers : ℕ) (u : UnitPlan)
    → Decides (is_silent_in_pool kept strangers u) (IsSilentInPool kept strangers u)
Decides-is_silent_in_pool kept strangers u =
    Decides-like _ (λ h. (h.0, h.1.0, h.1.1)) (λ h. (h.0, (h.1, h.2)))
    (Decides-and _ _ (not_is u.claims) (Decides-and _ _ (λ e. e, λ e. e)
    (Decides-or _ _ (not_is (contains kept u.address)) (Decides-ltb 0 strangers))))

pub Decides-needs_pool_address : (kept : FinSet nat_cmp) (u : UnitPlan) → Decides (needs_pool_address kept u) (NeedsPoolAddress kept u)
Decides-needs_pool_address kept u =
    Decides-or _ _ (λ e. e, λ e. e)
    (Decides-like _ (λ h. record { pool = h.0; free = h.1 }) (λ f. (f.pool, f.free)) (Decides-and _ _ (λ e. e, λ e. e) (not_is (contains kept u.address))))

pub Decides-prefers_kept : (kept : FinSet nat_cmp) (u : UnitPlan) → Decides (prefers_kept kept u) (PrefersKept kept u)
Decides-prefers_kept kept u = Decides-and _ _ (λ e. e, λ e. e) (λ e. e, λ e. e)

-- ---- groups

group_from : (n : ℕ) → (n < pgn_end) × ((pdu2_first ≤ pf_of n) ⊎ (n % 256 ≡ 0)) → IsPgn n
group_from n h = record {
  range = h.0;
  low = λ to_one. elim h.1 [ inl to_all ↦ absurd (omega arith) | inr low ↦ low ];
}

group_parts : (n : ℕ) → IsPgn n → (n < pgn_end) × ((pdu2_first ≤ pf_of n) ⊎ (n % 256 ≡ 0))
group_parts n g = (g.range, elim (cases_lt (pf_of n) pdu2_first) [ inl to_one ↦ inr (g.low to_one) | inr to_all ↦ inl to_all ])

pub Decides-is_pgn : (n : ℕ) → Decides (is_pgn n) (IsPgn n)
Decides-is_pgn n =
    Decides-like _ (group_from n) (group_parts n)
    (Decides-and _ _ (Decides-ltb n pgn_end) (Decides-or _ _ (Decides-leb pdu2_first (pf_of n)) (Decides-eqb (n % 256) 0)))

pub Decides-is_proprietary : (n : ℕ) → Decides (is_proprietary n) (IsProprietary n)
Decides-is_proprietary n =
    Decides-or _ _ (Decides-eqb n proprietary_a) (Decides-or _ _ (Decides-eqb n proprietary_a2)
    (Decides-or _ _ (Decides-and _ _ (Decides-leb proprietary_b_first n) (Decides-leb n proprietary_b_last))
    (Decides-and _ _ (Decides-leb proprietary_b2_first n) (Decides-leb n proprietary_b2_last))))

contains_from : (n x : ℕ) (xs : List ℕ) → (x ≡ n) ⊎ Contains xs n → Contains (x ∷ xs) n
contains_from n x xs (inl here) = (0, omega arith, here)
contains_from n x xs (inr (k, less, is)) = (suc k, omega arith, is)

contains_parts : (n x : ℕ) (xs : List ℕ) → Contains (x ∷ xs) n → (x ≡ n) ⊎ Contains xs n
contains_parts n x xs (zero, less, is) = inl is
contains_parts n x xs (suc k, less, is) = inr (k, omega arith, is)

Decides-list_any : (n : ℕ) (xs : List ℕ) → Decides (list_any (λ x. x == n) xs) (Contains xs n)
Decides-list_any n [] = (λ e. absurd (false≢true e), λ h. absurd (omega arith))
Decides-list_any n (x ∷ xs) = Decides-like _ (contains_from n x xs) (contains_parts n x xs) (Decides-or _ _ (Decides-eqb x n) (Decides-list_any n xs))

Decides-is_for_no_plan : (n : ℕ) → Decides (is_for_no_plan n) (IsForNoPlan n)
Decides-is_for_no_plan n =
    Decides-or _ _ (Decides-not _ (Decides-is_pgn n)) (Decides-or _ _ (Decides-leb extended_page n) (Decides-list_any n service_groups))

Decides-is_wrongly_private : (g : GroupPlan) → Decides (is_wrongly_private g) (IsWronglyPrivate g)
Decides-is_wrongly_private g =
    let own = Decides-is_proprietary g.pgn in
    Decides-or _ _ (Decides-and _ _ (not_is g.private) own) (Decides-and _ _ (λ e. e, λ e. e) (Decides-not _ own))

pub Decides-has_bad_pgn : (g : GroupPlan) → Decides (has_bad_pgn g) (HasBadPgn g)
Decides-has_bad_pgn g = Decides-or _ _ (Decides-is_for_no_plan g.pgn) (Decides-is_wrongly_private g)

-- ---- signals

pub Decides-has_other_width : (s : SignalParts) → Decides (has_other_width s) (¬ WidthFits s)
Decides-has_other_width s = Decides-not _ (λ h. h, λ h. h)

pub Decides-ends_outside : (length most : ℕ) (s : SignalParts) → Decides (ends_outside length most s) (¬ IsInside (room_of_signal length most s) s)
Decides-ends_outside length most s = Decides-not _ (Decides-leb _ _)

pub Decides-shares_bit : (s t : SignalParts) → Decides (shares_bit s t) (SharesBit s t)
Decides-shares_bit s t = shared_by_test s t

-- ---- texts

pub Decides-lies_outside : (g : GroupPlan) (t : TextPlan) → Decides (lies_outside g t) (IsOutside g t)
Decides-lies_outside g t = Decides-or _ _ (Decides-ltb (g.length + 1) t.byte) (Decides-ltb g.most (last_byte t))

-- ---- flows

one_frame_decides : (g : GroupPlan) → Decides (is_one_frame_to_all g) (IsOneFrameToAll g)
one_frame_decides g = Decides-and _ _ (Decides-leb pdu2_first (pf_of g.pgn)) (Decides-leb g.most frame_bytes)

some_frame_decides : (g : GroupPlan) → Decides (may_be_one_frame_to_all g) (MayBeOneFrameToAll g)
some_frame_decides g = Decides-and _ _ (Decides-leb pdu2_first (pf_of g.pgn)) (Decides-leb g.length frame_bytes)

group_of_decides : {test : GroupPlan → Bool} (P : GroupPlan → Type 0) → ((g : GroupPlan) → Decides (test g) (P g))
    → (gs : List GroupPlan) (i : ℕ) (o : Option GroupPlan)
    → slice_get gs i ≡ o → Decides (is_group_of test o) (ValueAt P gs i)
group_of_decides P by gs i None is = (λ e. absurd (false≢true e), λ v. absurd (none-some _ (sym is ∙ v.value_is)))
group_of_decides P by gs i (Some g) is =
    Decides-like _ (λ h. record { value = g; value_is = is; meets = h })
    (λ v. subst P (same_Some _ _ (sym v.value_is ∙ is)) v.meets) (by g)

pub Decides-cannot_go_to_one : (gs : List GroupPlan) (f : FlowPlan) → Decides (cannot_go_to_one gs f) (CannotGoToOne gs f)
Decides-cannot_go_to_one gs f =
    Decides-and _ _ (Decides-is_to_one f.to) (group_of_decides IsOneFrameToAll one_frame_decides gs f.group (slice_get gs f.group) refl)

pub Decides-goes_to_its_sender : (f : FlowPlan) → Decides (goes_to_its_sender f) (GoesToItsSender f)
Decides-goes_to_its_sender f = Decides-is_to f.to f.sender

pub Decides-are_one_flow : (f h : FlowPlan) → Decides (are_one_flow f h) (AreOneFlow f h)
Decides-are_one_flow f h =
    Decides-like _ (λ p. (p.0, p.1.0, p.1.1)) (λ p. (p.0, (p.1, p.2)))
    (Decides-and _ _ (Decides-eqb f.group h.group) (Decides-and _ _ (Decides-eqb f.sender h.sender) (Decides-have_same_receiver f.to h.to)))

-- ---- private groups

Decides-sends : (gs : List GroupPlan) (g : GroupPlan) (f : FlowPlan) → Decides (sends gs g f) (Sends gs g f)
Decides-sends gs g f =
    group_of_decides (λ sent. sent.label.bytes ≡ g.label.bytes) (λ sent. bytes_eq-Decides sent.label.bytes g.label.bytes) gs f.group (slice_get gs f.group) refl

Decides-do_receivers_meet : (g h : GroupPlan) (f k : FlowPlan) → Decides (do_receivers_meet g h f k) (DoReceiversMeet g h f k)
Decides-do_receivers_meet g h f k =
    Decides-or _ _ (to_all_decides f.to) (Decides-or _ _ (to_all_decides k.to)
    (Decides-or _ _ (Decides-have_same_receiver f.to k.to) (Decides-and _ _ (some_frame_decides g) (some_frame_decides h))))

beside_decides : (gs : List GroupPlan) (g h : GroupPlan) (f k : FlowPlan)
    → Decides (sends_beside gs g h f k) ((k.sender ≡ f.sender) × Sends gs h k × DoReceiversMeet g h f k)
beside_decides gs g h f k =
    Decides-like _ (λ p. (p.0, p.1.0, p.1.1)) (λ p. (p.0, (p.1, p.2)))
    (Decides-and _ _ (Decides-eqb k.sender f.sender) (Decides-and _ _ (Decides-sends gs h k) (Decides-do_receivers_meet g h f k)))

Decides-are_sent_together : (gs : List GroupPlan) (fs : List FlowPlan) (g h : GroupPlan)
    → Decides (are_sent_together gs fs g h) (AreSentTogether gs fs g h)
Decides-are_sent_together gs fs g h =
    some_decides (λ f. Sends gs g f × SomeMeets (λ k. (k.sender ≡ f.sender) × Sends gs h k × DoReceiversMeet g h f k) fs)
    (λ f. Decides-and _ _ (Decides-sends gs g f)
    (some_decides (λ k. (k.sender ≡ f.sender) × Sends gs h k × DoReceiversMeet g h f k) (beside_decides gs g h f) fs)) fs

pub Decides-differ_in_value : (v w : Option Selector) → Decides (differ_in_value v w) (DifferInValue v w)
Decides-differ_in_value None w = (λ e. absurd (false≢true e), λ h. absurd h)
Decides-differ_in_value (Some v) None = (λ e. absurd (false≢true e), λ h. absurd h)
Decides-differ_in_value (Some v) (Some w) =
    Decides-like _ (λ p. (p.0, p.1.0, p.1.1)) (λ p. (p.0, (p.1, p.2)))
    (Decides-and _ _ (Decides-eqb v.start w.start) (Decides-and _ _ (Decides-eqb v.bits w.bits) (Decides-not _ (Decides-eqb v.value w.value))))

pub Decides-have_same_pgn : (gs : List GroupPlan) (fs : List FlowPlan) (g h : GroupPlan) → Decides (have_same_pgn gs fs g h) (HaveSamePgn gs fs g h)
Decides-have_same_pgn gs fs g h =
    Decides-like _ (λ p. (p.0, p.1.0, p.1.1)) (λ p. (p.0, (p.1, p.2)))
    (Decides-and _ _ (Decides-eqb g.pgn h.pgn) (Decides-and _ _ (Decides-not _ (Decides-differ_in_value g.when h.when))
    (Decides-or _ _ (not_is g.private) (Decides-or _ _ (not_is h.private) (Decides-are_sent_together gs fs g h)))))

selector_inside : (n : ℕ) (w : Option Selector) → Decides (option_map_or (λ v. nat_lt n (selector_end v)) w false) (¬ ForSome w (λ v. selector_end v ≤ n))
selector_inside n None = (λ e. absurd (false≢true e), λ h. absurd (h (λ v is. absurd (none-some _ is))))
selector_inside n (Some w) =
    Decides-like _ (λ over inside. absurd (omega (arith, over, inside w refl)))
    (λ outside. elim (cases_lt n (selector_end w)) [
      | inl over ↦ over
      | inr within ↦ absurd (outside (λ v is. subst (λ u. selector_end u ≤ n) (same_Some _ _ is) within))
    ]) (Decides-ltb n (selector_end w))

pub Decides-is_selector_outside : (g : GroupPlan) → Decides (is_selector_outside g) (¬ IsSelectorInside g)
Decides-is_selector_outside g = selector_inside (8 * g.length) g.when

pub Decides-sends_some : (gs : List GroupPlan) (fs : List FlowPlan) (g : GroupPlan) → Decides (list_any (sends gs g) fs) (SomeMeets (Sends gs g) fs)
Decides-sends_some gs fs g = some_decides (Sends gs g) (Decides-sends gs g) fs

pub Decides-is_private_unsent : (gs : List GroupPlan) (fs : List FlowPlan) (g : GroupPlan) → Decides (is_private_unsent gs fs g) (IsPrivateUnsent gs fs g)
Decides-is_private_unsent gs fs g =
    Decides-and _ _ (λ e. e, λ e. e) (Decides-not _ (Decides-sends_some gs fs g))

-- ---- requests

pub Decides-is_served_to_one : (fs : List FlowPlan) (r : RequestPlan) → Decides (is_served_to_one fs r) (IsServedToOne fs r)
Decides-is_served_to_one fs r =
    some_decides (λ f. Serves r f × IsToOne f) (λ f. Decides-and _ _ (Decides-serves r f) (Decides-is_to_one f.to)) fs

pub Decides-is_served_to_all : (fs : List FlowPlan) (r : RequestPlan) → Decides (is_served_to_all fs r) (IsServedToAll fs r)
Decides-is_served_to_all fs r =
    some_decides (λ f. Serves r f × (f.to ≡ All)) (λ f. Decides-and _ _ (Decides-serves r f) (to_all_decides f.to)) fs

pub Decides-goes_unanswered : (fs : List FlowPlan) (r : RequestPlan) → Decides (goes_unanswered fs r) (GoesUnanswered fs r)
Decides-goes_unanswered fs r = Decides-and _ _ (Decides-is_to_one r.to) (Decides-not _ (Decides-is_served fs r))

pub Decides-goes_unheard : (fs : List FlowPlan) (r : RequestPlan) → Decides (goes_unheard fs r) (GoesUnheard fs r)
Decides-goes_unheard fs r = Decides-and _ _ (to_all_decides r.to) (Decides-not _ (Decides-is_served fs r))

receiver_decides : (gs : List GroupPlan) (r : RequestPlan) → Decides (may_name_receiver gs r) (MayNameReceiver gs r)
receiver_decides gs r =
    group_of_decides (λ g. ¬ IsOneFrameToAll g) (λ g. Decides-not _ (one_frame_decides g)) gs r.group (slice_get gs r.group) refl

one_astray_decides : (gs : List GroupPlan) (fs : List FlowPlan) (r : RequestPlan)
    → Decides (is_one_astray gs fs r) (AsksOne r × MayNameReceiver gs r × IsServedToAll fs r × (¬ IsServedToOne fs r))
one_astray_decides gs fs r =
    Decides-like _ (λ p. (p.0, p.1.0, p.1.1.0, p.1.1.1)) (λ p. (p.0, (p.1, (p.2, p.3))))
    (Decides-and _ _ (Decides-is_to_one r.to) (Decides-and _ _ (receiver_decides gs r)
    (Decides-and _ _ (Decides-is_served_to_all fs r) (Decides-not _ (Decides-is_served_to_one fs r)))))

all_astray_decides : (fs : List FlowPlan) (r : RequestPlan)
    → Decides (is_all_astray fs r) (AsksAll r × IsServedToOne fs r × (¬ IsServedToAll fs r))
all_astray_decides fs r =
    Decides-like _ (λ p. (p.0, p.1.0, p.1.1)) (λ p. (p.0, (p.1, p.2)))
    (Decides-and _ _ (to_all_decides r.to)
    (Decides-and _ _ (Decides-is_served_to_one fs r) (Decides-not _ (Decides-is_served_to_all fs r))))

pub Decides-is_answered_astray : (gs : List GroupPlan) (fs : List FlowPlan) (r : RequestPlan)
    → Decides (is_answered_astray gs fs r) (IsAnsweredAstray gs fs r)
Decides-is_answered_astray gs fs r = Decides-or _ _ (one_astray_decides gs fs r) (all_astray_decides fs r)

one_number_decides : (gs : List GroupPlan) (r s : RequestPlan) → Decides (ask_for_one_number gs r s) (AskForOneNumber gs r s)
one_number_decides gs r s =
    group_of_decides (λ g. ValueAt (λ h. g.pgn ≡ h.pgn) gs s.group)
    (λ g. group_of_decides (λ h. g.pgn ≡ h.pgn) (λ h. Decides-eqb g.pgn h.pgn) gs s.group (slice_get gs s.group) refl)
    gs r.group (slice_get gs r.group) refl

pub Decides-ask_the_same : (gs : List GroupPlan) (r s : RequestPlan) → Decides (ask_the_same gs r s) (AskTheSame gs r s)
Decides-ask_the_same gs r s =
    Decides-like _ (λ p. (p.0, p.1.0, p.1.1)) (λ p. (p.0, (p.1, p.2)))
    (Decides-and _ _ (one_number_decides gs r s)
    (Decides-and _ _ (Decides-eqb r.sender s.sender) (Decides-have_same_receiver r.to s.to)))

one_or_all : (to : To) → ((u : ℕ) × (to ≡ One u)) ⊎ (to ≡ All)
one_or_all All = inr refl
one_or_all (One u) = inl (u, refl)

pub asks_one_or_all : (r : RequestPlan) → AsksOne r ⊎ AsksAll r
asks_one_or_all r = one_or_all r.to

-- what is answered, and to none as here, is answered as there
pub served_to_all : (fs : List FlowPlan) (r : RequestPlan) → IsServed fs r → ¬ IsServedToOne fs r → IsServedToAll fs r
served_to_all fs r (i, v) none = elim (one_or_all v.value.to) [
  | inl one ↦ absurd (none (i, record { value = v.value; value_is = v.value_is; meets = (v.meets, one) }))
  | inr all ↦ (i, record { value = v.value; value_is = v.value_is; meets = (v.meets, all) })
]

pub served_to_one : (fs : List FlowPlan) (r : RequestPlan) → IsServed fs r → ¬ IsServedToAll fs r → IsServedToOne fs r
served_to_one fs r (i, v) none = elim (one_or_all v.value.to) [
  | inl one ↦ (i, record { value = v.value; value_is = v.value_is; meets = (v.meets, one) })
  | inr all ↦ absurd (none (i, record { value = v.value; value_is = v.value_is; meets = (v.meets, all) }))
]

-- ---- needs

pub Decides-is_unmet : (rs : List RequestPlan) (fs : List FlowPlan) (need : NeedPlan) → Decides (is_unmet rs fs need) (IsUnmet rs fs need)
Decides-is_unmet rs fs need = Decides-not _ (Decides-some_meets rs fs need)
