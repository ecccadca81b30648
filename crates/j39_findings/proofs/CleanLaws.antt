-- What 'no finding' says.
use Rattle.std.proofs.Common.{◌≡◌, ℕ, ◌+◌, ◌*◌, ◌<◌, List, All, AllPairs, get_or, length, Bool, true, false, Decides, refl, sym, ◌∙◌, ◌≤◌, if◌then◌else◌, inl}
use Rattle.std.proofs.Common.{inr, arith}
use Rattle.std.proofs.lemmas.Bool.{cases_Bool, cases_lt, false≢true}
use Rattle.std.proofs.lemmas.Bool.Decides.{not_from_Decides}
use Rattle.std.proofs.lemmas.Option.{slice_get-get_or}
use Rattle.std.specs.FinSet.{contains}
use Rattle.j39_claim.specs.AddressSets.{free_count}
use Rattle.j39_id.specs.Pgn.{IsPgn, is_pgn}
use Rattle.j39_id.specs.Proprietary.{is_proprietary}
use Rattle.j39_signal.specs.declared.signal_parts.SignalParts.{SignalParts}
use Rattle.j39_signal.specs.Places.{WidthFits, IsInside, SharesBit, LaysOut, LaysOutFrom, width_fits}
use Rattle.j39_network.specs.declared.plan.Plan.{Plan}
use Rattle.j39_network.specs.declared.plan.group_plan.GroupPlan.{GroupPlan}
use Rattle.j39_network.specs.declared.plan.unit_plan.UnitPlan.{UnitPlan}
use Rattle.j39_network.specs.declared.plan.text_plan.TextPlan.{TextPlan}
use Rattle.j39_findings.specs.declared.checking.finding.Finding.TheVariants.{SameName, SameFixedAddress, TooFewAddresses, BadPgn, SamePgn, SignalWidth}
use Rattle.j39_findings.specs.declared.checking.finding.Finding.TheVariants.{SignalOutside, SignalOverlap, FlowToOne, FlowToSelf, FlowRepeated, KeptAddress}
use Rattle.j39_findings.specs.declared.checking.finding.Finding.TheVariants.{PrivateUnsent, RecordOverlap, TextOutside, NeedUnmet, RequestUnanswered}
use Rattle.j39_findings.specs.declared.checking.finding.Finding.TheVariants.{RequestUnheard, AnswerAstray, WhenOutside, RequestRepeated, SilentAddress}
use Rattle.j39_findings.specs.declared.checking.finding.Finding.TheVariants.{SilentInPool, FlowContested}
use Rattle.j39_network.specs.Kinds.{MayBeOne}
use Rattle.j39_search.specs.ListPlaces.{ValueAt, PairAt}
use Rattle.j39_findings.specs.Findings.{EndsOutside, IsProprietary, HasBadPgn, IsOutside, Clean, GoesUnanswered, GoesUnheard, IsAnsweredAstray, AskTheSame}
use Rattle.j39_findings.specs.Findings.{IsFlowContested, IsSilentInPool}
use Rattle.j39_network.specs.PlannedGroups.{IsSelectorInside}
use Rattle.j39_network.specs.SignalPlaces.{room_of_signal}
use Rattle.j39_signal.specs.Selectors.{selector_end}
use Rattle.j39_network.specs.Serving.{IsServed}
use Rattle.j39_findings.specs.CleanParts.{CanBePlanned, LiesInside, CleanParts, IsUnreached}
use Rattle.j39_network.specs.PlannedRequests.{IsAnsweredWell}
use Rattle.j39_network.specs.Lengths.{IsLengthOf}
use Rattle.j39_network.specs.TextPlaces.{last_byte}
use Rattle.j39_network.specs.Records.{signals_in}
use Rattle.j39_findings.proofs.RecordBits.{IsApart, bits_once, laid_with_records}
use Rattle.j39_network.proofs.Boxes.{names_apart}
use Rattle.j39_findings.proofs.WhoIsAlone.{Decides-alone}
use Rattle.j39_findings.proofs.Deciding.{Decides-differ_in_value, Decides-is_pgn, Decides-is_proprietary, Decides-sends_some, Decides-is_served_to_one}
use Rattle.j39_findings.proofs.Deciding.{Decides-is_served_to_all, asks_one_or_all, served_to_one, served_to_all}
use Rattle.j39_network.proofs.Served.{Decides-some_meets, Decides-is_served}

none_at : {A : Type 0} (P : A → Type 0) (xs : List A) → ((i : ℕ) → ¬ ValueAt P xs i) → All (λ x. ¬ P x) xs
none_at P xs none = λ i d less meets. none i (record { value = get_or xs i d; value_is = slice_get-get_or xs i d less; meets = meets })

no_pair_at : {A : Type 0} (R : A → A → Type 0) (xs : List A) → ((i j : ℕ) → ¬ PairAt R xs i j) → AllPairs (λ x y. ¬ R x y) xs
no_pair_at R xs none = λ i j d below less related. none i j (record {
  first = get_or xs i d;
  second = get_or xs j d;
  below = below;
  first_is = slice_get-get_or xs i d (omega arith);
  second_is = slice_get-get_or xs j d less;
  related = related;
})

group_of : (n : ℕ) → ¬ (¬ IsPgn n) → IsPgn n
group_of n h = elim (cases_Bool (is_pgn n)) [
  | inl is ↦ (Decides-is_pgn n).0 is
  | inr other ↦ absurd (h (not_from_Decides (is_pgn n) (Decides-is_pgn n) other))
]

-- the number is a maker's own where the group is private
own_of : (g : GroupPlan) → ¬ HasBadPgn g → g.private ≡ true → IsProprietary g.pgn
own_of g h private = elim (cases_Bool (is_proprietary g.pgn)) [
  | inl is ↦ (Decides-is_proprietary g.pgn).0 is
  | inr other ↦ absurd (h (inr (inr (private, not_from_Decides (is_proprietary g.pgn) (Decides-is_proprietary g.pgn) other))))
]

private_of : (g : GroupPlan) → ¬ HasBadPgn g → IsProprietary g.pgn → g.private ≡ true
private_of g h own = elim (cases_Bool g.private) [ inl is ↦ is | inr other ↦ absurd (h (inr (inl (other, own)))) ]

planned : (g : GroupPlan) → ¬ HasBadPgn g → CanBePlanned g
planned g h = record {
  group = group_of g.pgn (λ none. h (inl (inl none)));
  page = elim (cases_lt g.pgn 131072) [ inl less ↦ less | inr more ↦ absurd (h (inl (inr (inl more)))) ];
  own = (own_of g h, private_of g h);
  not_service = λ is. h (inl (inr (inr is)));
}

by_test : (b : Bool) (P : Type 0) → Decides b P → ¬ (¬ P) → P
by_test b P decides h = elim (cases_Bool b) [ inl is ↦ decides.0 is | inr other ↦ absurd (h (not_from_Decides b decides other)) ]

fits : (s : SignalParts) → ¬ (¬ WidthFits s) → WidthFits s
fits s h = elim (cases_Bool (width_fits s.kind s.start s.bits)) [ inl is ↦ is | inr other ↦ absurd (h (λ is. absurd cc)) ]

inside : (n : ℕ) (s : SignalParts) → ¬ (¬ IsInside n s) → IsInside n s
inside n s h = elim (cases_lt (8 * n) (s.start + s.bits)) [ inl over ↦ absurd (h (λ is. omega arith)) | inr is ↦ is ]

at_group : (plan : Plan) (P : GroupPlan → Type 0) (g : ℕ) (d : GroupPlan) → g < length plan.groups.items → P (get_or plan.groups.items g d)
    → ValueAt P plan.groups.items g
at_group plan P g d less meets = record { value = get_or plan.groups.items g d; value_is = slice_get-get_or plan.groups.items g d less; meets = meets }

inside_longest : (o : Bool) (s : SignalParts) (length most : ℕ) → s.optional ≡ o → length ≤ most
    → IsInside (if o then most else length) s → IsInside most s
inside_longest true s length most is longer ends = ends
inside_longest false s length most is longer ends = omega (arith, ends, longer)

inside_shortest : (o : Bool) (s : SignalParts) (length most : ℕ) → s.optional ≡ o → s.optional ≡ false
    → IsInside (if o then most else length) s → IsInside length s
inside_shortest true s length most is always ends = absurd (false≢true (sym always ∙ is))
inside_shortest false s length most is always ends = ends

layout : (plan : Plan) → Clean plan → (g : ℕ) (d : GroupPlan) → g < length plan.groups.items
    → LaysOutFrom (get_or plan.groups.items g d).length (get_or plan.groups.items g d).most (get_or plan.groups.items g d).signals.items
layout plan clean g d less =
    let group = get_or plan.groups.items g d in
    let ends : All (λ s. IsInside (room_of_signal group.length group.most s) s) group.signals.items = λ s e in_group.
    let signal = get_or group.signals.items s e in
    inside (room_of_signal group.length group.most signal) signal
    (none_at (EndsOutside group) group.signals.items
    (λ k at. clean (SignalOutside g k) (at_group plan _ g d less at)) s e in_group) in
    record {
      longest = record {
        some_bytes = omega (arith, group.length_positive, group.most_least);
        most_bytes = group.most_range;
        widths = λ s e in_group. fits (get_or group.signals.items s e)
            (none_at (λ signal. ¬ WidthFits signal) group.signals.items
            (λ k at. clean (SignalWidth g k) (at_group plan _ g d less at)) s e in_group);
        inside = λ s e in_group.
            let signal = get_or group.signals.items s e in
            inside_longest signal.optional signal group.length group.most refl group.most_least (ends s e in_group);
        apart = no_pair_at SharesBit group.signals.items (λ s t at. clean (SignalOverlap g s t) (at_group plan _ g d less at));
      };
      some_bytes = group.length_positive;
      longer = group.most_least;
      always = λ s e in_group always.
          let signal = get_or group.signals.items s e in
          inside_shortest signal.optional signal group.length group.most refl always (ends s e in_group);
    }

selector_inside : (g : GroupPlan) → ¬ (¬ IsSelectorInside g) → IsSelectorInside g
selector_inside g h = λ w is.
    elim (cases_lt (8 * g.length) (selector_end w)) [ inl over ↦ absurd (h (λ inside. omega (arith, over, inside w is))) | inr within ↦ within ]

lies_inside : (g : GroupPlan) (t : TextPlan) → ¬ IsOutside g t → LiesInside g t
lies_inside g t h = record {
  begins = elim (cases_lt (g.length + 1) t.byte) [ inl over ↦ absurd (h (inl over)) | inr is ↦ is ];
  ends = elim (cases_lt g.most (last_byte t)) [ inl over ↦ absurd (h (inr over)) | inr is ↦ is ];
}

apart : (plan : Plan) → Clean plan → All IsApart plan.groups.items
apart plan clean g d less = record {
  singles = λ i j at. clean (SignalOverlap g i j) (at_group plan _ g d less at);
  records = λ i j at. clean (RecordOverlap g i j) (at_group plan _ g d less at);
}

-- the signals of each message lay it out, those of its records too
pub lays_out_each : (plan : Plan) → Clean plan → All (λ g. (bytes : ℕ) → IsLengthOf g bytes → LaysOut bytes (signals_in g bytes)) plan.groups.items
lays_out_each plan clean g d less bytes of =
    laid_with_records (get_or plan.groups.items g d) bytes (bits_once _ (apart plan clean g d less)) (layout plan clean g d less) of

-- each request is answered
served : (plan : Plan) → Clean plan → All (IsServed plan.flows.items) plan.requests.items
served plan clean r d less =
    let flows = plan.flows.items in
    let request = get_or plan.requests.items r d in
    by_test _ _ (Decides-is_served flows request) (λ none. elim (asks_one_or_all request) [
      | inl one ↦ none_at (GoesUnanswered flows) plan.requests.items (λ k. clean (RequestUnanswered k)) r d less (one, none)
      | inr all ↦ none_at (GoesUnheard flows) plan.requests.items (λ k. clean (RequestUnheard k)) r d less (all, none)
    ])

answered : (plan : Plan) → Clean plan → All (IsAnsweredWell plan) plan.requests.items
answered plan clean r d less =
    let groups = plan.groups.items in
    let flows = plan.flows.items in
    let request = get_or plan.requests.items r d in
    let some = served plan clean r d less in
    let well = none_at (IsAnsweredAstray groups flows) plan.requests.items (λ k. clean (AnswerAstray k)) r d less in
    record {
      to_one = λ one names. by_test _ _ (Decides-is_served_to_one flows request)
          (λ none. well (inl (one, names, served_to_all flows request some none, none)));
      to_all = λ all. by_test _ _ (Decides-is_served_to_all flows request)
          (λ none. well (inr (all, served_to_one flows request some none, none)));
    }

-- a unit that never claims is found where others may move to its address
unreached : (plan : Plan) (u : UnitPlan) → u.claims ≡ false → ¬ IsSilentInPool plan.keep_free plan.strangers u → IsUnreached plan u
unreached plan u silent none = record {
  kept = λ pool. elim (cases_Bool (contains plan.keep_free u.address)) [
    | inl kept ↦ kept
    | inr free ↦ absurd (none (silent, pool, inl free))
  ];
  known = λ pool. elim (cases_lt 0 plan.strangers) [
    | inl some ↦ absurd (none (silent, pool, inr some))
    | inr few ↦ omega (arith, few)
  ];
}

pub parts_of : (plan : Plan) → Clean plan → CleanParts plan
parts_of plan clean = record {
  are_apart = no_pair_at MayBeOne plan.units.items (λ i j. clean (SameName i j));
  names = λ i j d below less. names_apart (get_or plan.units.items i d) (get_or plan.units.items j d)
      (no_pair_at MayBeOne plan.units.items (λ k l. clean (SameName k l)) i j d below less);
  fixed_addresses = λ i j d below less first second one other same.
      no_pair_at _ plan.units.items (λ k l. clean (SameFixedAddress k l)) i j d below less (first, second, same, one, other);
  addresses = λ n are. elim (cases_lt (free_count plan.keep_free) n) [ inl more ↦ absurd (clean (TooFewAddresses n) (are, more)) | inr few ↦ few ];
  not_kept = λ i d less arbitrary. elim (cases_Bool (contains plan.keep_free (get_or plan.units.items i d).address)) [
    | inl kept ↦ absurd (none_at _ plan.units.items (λ k. clean (KeptAddress k)) i d less (arbitrary, kept))
    | inr free ↦ free
  ];
  groups = λ g d less. planned _ (none_at _ plan.groups.items (λ k. clean (BadPgn k)) g d less);
  pgns = λ g h d below less.
      let none = no_pair_at _ plan.groups.items (λ k l. clean (SamePgn k l)) g h d below less in
      record {
        first = λ shared same. by_test _ _ (Decides-differ_in_value _ _) (λ alike. none (same, alike, inl shared));
        second = λ shared same. by_test _ _ (Decides-differ_in_value _ _) (λ alike. none (same, alike, inr (inl shared)));
        apart = λ same together. by_test _ _ (Decides-differ_in_value _ _) (λ alike. none (same, alike, inr (inr together)));
      };
  layouts = layout plan clean;
  to_one = λ f d less to_one lost. none_at _ plan.flows.items (λ k. clean (FlowToOne k)) f d less (to_one, lost);
  to_self = none_at _ plan.flows.items (λ f. clean (FlowToSelf f));
  flows = no_pair_at _ plan.flows.items (λ f h. clean (FlowRepeated f h));
  sent = λ g d less private.
      by_test _ _ (Decides-sends_some plan.groups.items plan.flows.items (get_or plan.groups.items g d))
      (λ none. none_at _ plan.groups.items (λ k. clean (PrivateUnsent k)) g d less (private, none));
  records = λ g d less. bits_once _ (apart plan clean g d less);
  texts = λ g d less t e in_group.
      let group = get_or plan.groups.items g d in
      lies_inside group (get_or group.texts.items t e)
      (none_at (IsOutside group) group.texts.items (λ k at. clean (TextOutside g k) (at_group plan _ g d less at)) t e in_group);
  needs = λ n d less.
      by_test _ _ (Decides-some_meets plan.requests.items plan.flows.items (get_or plan.needs.items n d))
      (λ none. none_at _ plan.needs.items (λ k. clean (NeedUnmet k)) n d less none);
  requests = served plan clean;
  answers = answered plan clean;
  selectors = λ g d less. selector_inside (get_or plan.groups.items g d)
      (none_at (λ group. ¬ IsSelectorInside group) plan.groups.items (λ k. clean (WhenOutside k)) g d less);
  asked_once = no_pair_at (AskTheSame plan.groups.items) plan.requests.items (λ r s. clean (RequestRepeated r s));
  silent_addresses = λ i j d below less silent same.
      no_pair_at _ plan.units.items (λ k l. clean (SilentAddress k l)) i j d below less (same, silent);
  unreached = λ i d less silent. unreached plan (get_or plan.units.items i d) silent
      (none_at _ plan.units.items (λ k. clean (SilentInPool k)) i d less);
  senders_alone = λ live f d less. by_test _ _ (Decides-alone plan (get_or plan.flows.items f d).sender)
      (λ none. none_at (IsFlowContested plan) plan.flows.items (λ k. clean (FlowContested k)) f d less (live, inl none));
  receivers_alone = λ live f d less r to. by_test _ _ (Decides-alone plan r)
      (λ none. none_at (IsFlowContested plan) plan.flows.items (λ k. clean (FlowContested k)) f d less (live, inr (r, to, none)));
}
