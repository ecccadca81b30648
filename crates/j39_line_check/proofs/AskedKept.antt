-- A flow that is asked for too often in a variant is in another one that takes what is reported of it: the same requests ask for it there.
use Rattle.std.proofs.Common.{◌≡◌, ℕ, ◌+◌, suc, ◌&&◌, ◌||◌, Bool, true, false, if◌then◌else◌, List, [], ◌∷◌, ◌++◌, Contains, length, Option, Some, None}
use Rattle.std.proofs.Common.{is_some, option_map, refl, sym, ◌∙◌, ap, subst, arith}
use Rattle.std.specs.List.{cons_option, filter_map, slice_get}
use Rattle.std.specs.Option.{option_map_or, option_to_list}
use Rattle.std.proofs.lemmas.Bool.{and_from, and_parts}
use Rattle.std.proofs.lemmas.List.{length-map}
use Rattle.j39_load.specs.AskedFlows.{asked_every, asking_periods, is_asked_too_often, is_more_than_one}
use Rattle.j39_load.specs.BusTimes.{timing_of, with_claims}
use Rattle.j39_load.specs.LineLists.{lines_of_each}
use Rattle.j39_load.specs.LoadFindings.{AreLoadFindings}
use Rattle.j39_load.specs.declared.findings.load_finding.LoadFinding.{LoadFinding}
use Rattle.j39_load.specs.declared.findings.load_finding.LoadFinding.TheVariants.{NoPeriod, Overload, LateFlow, NeedTooOld, AskedTooOften}
use Rattle.j39_load.proofs.AskedMore.{asked_at, asked_exactly, asked_more}
use Rattle.j39_load.proofs.AskedParts.{answering_more}
use Rattle.j39_load.proofs.ReportedLines.{none_of}
use Rattle.j39_network.specs.Serving.{serves}
use Rattle.j39_network.specs.declared.plan.Plan.{Plan}
use Rattle.j39_network.specs.declared.plan.flow_plan.FlowPlan.{FlowPlan}
use Rattle.j39_network.specs.declared.plan.request_plan.RequestPlan.{RequestPlan}
use Rattle.j39_network.specs.declared.plan.timing.Timing.{Timing}
use Rattle.j39_variants.specs.VariantPlans.{flag_at, flags, group_places, IsVariantPlan, moved_flow, moved_receivers, moved_request, picked, place_at}
use Rattle.j39_variants.specs.VariantPlans.{unit_places}
use Rattle.j39_variants.specs.Variants.{is_in}
use Rattle.j39_variants.specs.declared.line.ProductLine.{ProductLine}
use Rattle.j39_line_findings.specs.Boxes.{part_admits}
use Rattle.j39_line_findings.specs.Conditions.{is_part_there}
use Rattle.j39_line_findings.specs.KnownParts.{do_all_admit}
use Rattle.j39_line_findings.specs.InFile.{load_finding_in_file}
use Rattle.j39_line_findings.specs.LineFound.{AreVariantFindings, IsFound}
use Rattle.j39_line_findings.specs.There.{is_flow_there, is_request_there, place_in_file}
use Rattle.j39_line_findings.specs.declared.line_finding.LineFinding.{LineFinding}
use Rattle.j39_line_findings.specs.declared.line_finding.LineFinding.TheVariants.{OfLoad}
use Rattle.j39_line_findings.specs.declared.part.LinePart.{LinePart}
use Rattle.j39_line_findings.specs.declared.part.LinePart.TheVariants.{Flow, Request}
use Rattle.j39_line_witnesses.specs.ReportedChoices.{asking_part, asking_parts, choices_of_parts, parts_of_asked}
use Rattle.j39_line_laws.proofs.Filtering.{request_test}
use Rattle.j39_line_laws.proofs.FoundOfCovering.{in_load, of_load_reported}
use Rattle.j39_line_laws.proofs.Parts.{flow_of, request_of}
use Rattle.j39_line_laws.proofs.InVariant.{are_flows}
use Rattle.j39_line_laws.proofs.PickedPlaces.{one_test}
use Rattle.j39_line_laws.proofs.TestsAgree.{serves_same}
use Rattle.j39_line_check.proofs.KeptConditions.{Agree, AreAmong, AreTwo, kept_parts, listed_all, other_two, turned}

-- ---- the requests of a variant, by their places in the file

-- the period of one, where it is there
abbrev period_where : {X : Type 0} → (ℕ → Bool) → (X → Option ℕ) → ℕ → X → List ℕ
period_where test every k x = if test k then option_to_list (every x) else []

cons_is : (o : Option ℕ) (periods : List ℕ) → cons_option o periods ≡ option_to_list o ++ periods
cons_is None periods = refl
cons_is (Some every) periods = refl

module _ {X Y : Type 0} (moved : X → Option Y) (every : X → Option ℕ) (here : Y → Option ℕ) (same : (x : X) (y : Y) → moved x ≡ Some y → here y ≡ every x)
    (test : ℕ → Bool) where
  one_in_file : (b : Bool) (x : X) (bs : List Bool) (xs : List X) (n : ℕ) (o : Option Y) → moved x ≡ o → test n ≡ (b && is_some o) → (rest : List ℕ)
      → filter_map here (filter_map moved (picked bs xs)) ≡ rest
      → filter_map here (filter_map moved (picked (b ∷ bs) (x ∷ xs))) ≡ period_where test every n x ++ rest
  one_in_file false x bs xs n o is_o is rest are =
      are ∙ sym (ap (λ t. (if t then option_to_list (every x) else []) ++ rest) is)
  one_in_file true x bs xs n None is_o is rest are =
      ap (λ p. filter_map here (cons_option p (filter_map moved (picked bs xs)))) is_o ∙ are
      ∙ sym (ap (λ t. (if t then option_to_list (every x) else []) ++ rest) is)
  one_in_file true x bs xs n (Some y) is_o is rest are =
      ap (λ p. filter_map here (cons_option p (filter_map moved (picked bs xs)))) is_o
      ∙ ap (cons_option (here y)) are ∙ ap (λ p. cons_option p rest) (same x y is_o) ∙ cons_is (every x) rest
      ∙ sym (ap (λ t. (if t then option_to_list (every x) else []) ++ rest) is)

  all_in_file : (bs : List Bool) (xs : List X) (n : ℕ) → length bs ≡ length xs
      → ((k : ℕ) (x : X) → slice_get xs k ≡ Some x → test (n + k) ≡ (flag_at bs k && is_some (moved x)))
      → filter_map here (filter_map moved (picked bs xs)) ≡ lines_of_each (period_where test every) n xs
  unfolding lines_of_each
  all_in_file [] [] n long tests = refl
  all_in_file (b ∷ bs) [] n long tests = absurd (omega (arith, long))
  all_in_file [] (x ∷ xs) n long tests = absurd (omega (arith, long))
  all_in_file (b ∷ bs) (x ∷ xs) n long tests =
      one_in_file b x bs xs n (moved x) refl (ap test (let e : n ≡ n + 0 = omega arith in e) ∙ tests 0 x refl)
      (lines_of_each (period_where test every) (n + 1) xs)
      (all_in_file bs xs (n + 1) (omega (arith, long))
      (λ k y at. ap test (let e : n + 1 + k ≡ n + suc k = omega arith in e) ∙ tests (suc k) y at))

each_alike : {X : Type 0} (report other : ℕ → X → List ℕ) (n : ℕ) (xs : List X)
    → ((k : ℕ) (x : X) → slice_get xs k ≡ Some x → report (n + k) x ≡ other (n + k) x)
    → lines_of_each report n xs ≡ lines_of_each other n xs
unfolding lines_of_each
each_alike report other n [] same = refl
each_alike report other n (x ∷ xs) same =
    ap (λ l. l ++ lines_of_each report (n + 1) xs)
    (ap (λ k. report k x) (let e : n ≡ n + 0 = omega arith in e) ∙ same 0 x refl ∙ ap (λ k. other k x) (let e : n + 0 ≡ n = omega arith in e))
    ∙ ap (λ l. other n x ++ l) (each_alike report other (n + 1) xs (λ k y at.
    ap (λ m. report m y) (let e : n + 1 + k ≡ n + suc k = omega arith in e) ∙ same (suc k) y at
    ∙ ap (λ m. other m y) (let e : n + suc k ≡ n + 1 + k = omega arith in e)))

module _ (line : ProductLine) (x : List ℕ) (plan : Plan) (is : IsVariantPlan line x plan) (flow y : FlowPlan)
    (comes : moved_flow (unit_places line x) (group_places line x) flow ≡ Some y) where
  abbrev moved_here : RequestPlan → Option RequestPlan
  moved_here = moved_request (unit_places line x) (group_places line x)

  same_period : (r q : RequestPlan) → moved_here r ≡ Some q → asked_every y q ≡ asked_every flow r
  same_period r q moved =
      let its = request_of r (place_at (group_places line x) r.group) (place_at (unit_places line x) r.sender)
      (moved_receivers (unit_places line x) r.to) q moved in
      ap (λ b. if b then q.period else None) (serves_same (flags x line.lists.units.items) (flags x line.lists.groups.items) r q flow y moved comes)
      ∙ ap (λ o. if serves r flow then o else None) (sym its.period)

  asked_here : asking_periods plan.requests.items y ≡ lines_of_each (period_where (is_request_there line x) (asked_every flow)) 0 line.plan.requests.items
  asked_here =
      ap (λ l. asking_periods l y) is.has_requests
      ∙ all_in_file moved_here (asked_every flow) (asked_every y) same_period (is_request_there line x)
      (flags x line.lists.requests.items) line.plan.requests.items 0
      (length-map line.lists.requests.items (λ list. is_in x list.items) ∙ line.request_lists)
      (λ k r at. ap (is_request_there line x) (let e : 0 + k ≡ k = omega arith in e) ∙ request_test line x k r at)

-- ---- of two variants

module _ (line : ProductLine) (w v : List ℕ) (two : AreTwo line w v) (f : ℕ) (agree : Agree (choices_of_parts line (parts_of_asked line f)) w v)
    (flow : FlowPlan) (at_f : slice_get line.plan.flows.items f ≡ Some flow) where
  -- one of the parts that count
  one_kept : (x y : List ℕ) → AreTwo line x y → Agree (choices_of_parts line (parts_of_asked line f)) x y → (part : LinePart)
      → AreAmong line (part ∷ []) (parts_of_asked line f) → is_part_there line x part ≡ true → is_part_there line y part ≡ true
  one_kept x y both same part among there = (and_parts (is_part_there line y part) true
      (kept_parts line (parts_of_asked line f) x y both same (part ∷ []) among (and_from (is_part_there line x part) true there refl))).0

  flow_kept : is_flow_there line w f ≡ true → is_flow_there line v f ≡ true
  flow_kept = one_kept w v two agree (Flow f) (λ a all. and_from (part_admits line a (Flow f)) true
      (and_parts (part_admits line a (Flow f)) (do_all_admit line (option_map_or (asking_parts line) (slice_get line.plan.flows.items f) []) a) all).0 refl)

  asking_among : (r : ℕ) (request : RequestPlan) → slice_get line.plan.requests.items r ≡ Some request → is_some (asked_every flow request) ≡ true
      → AreAmong line (Request r ∷ []) (parts_of_asked line f)
  asking_among r request at_r asks a all =
      let rest = (and_parts (part_admits line a (Flow f)) (do_all_admit line
      (option_map_or (asking_parts line) (slice_get line.plan.flows.items f) []) a) all).1 in
      let here : 0 + r ≡ r = omega arith in
      subst (λ b. do_all_admit line (if b then Request r ∷ [] else []) a ≡ true) asks
      (subst (λ n. do_all_admit line (asking_part flow n request) a ≡ true) here
      (listed_all (part_admits line a) (asking_part flow) 0 line.plan.requests.items
      (subst (λ o. do_all_admit line (option_map_or (asking_parts line) o []) a ≡ true) at_f rest) r request at_r))

  request_kept : (r : ℕ) (request : RequestPlan) → slice_get line.plan.requests.items r ≡ Some request → is_some (asked_every flow request) ≡ true
      → is_request_there line w r ≡ is_request_there line v r
  request_kept r request at_r asks = one_test (is_request_there line w r) (is_request_there line v r)
      (one_kept w v two agree (Request r) (asking_among r request at_r asks))
      (one_kept v w (other_two line w v two) (turned (choices_of_parts line (parts_of_asked line f)) w v agree) (Request r) (asking_among r request at_r asks))

  period_kept : (r : ℕ) (request : RequestPlan) → slice_get line.plan.requests.items r ≡ Some request
      → period_where (is_request_there line w) (asked_every flow) r request ≡ period_where (is_request_there line v) (asked_every flow) r request
  period_kept r request at_r = by (asked_every flow request) refl
    where
      nothing : List ℕ
      nothing = []

      none : (t : Bool) → (if t then nothing else nothing) ≡ nothing
      none true = refl
      none false = refl

      by : (o : Option ℕ) → asked_every flow request ≡ o
          → (if is_request_there line w r then option_to_list o else []) ≡ (if is_request_there line v r then option_to_list o else [])
      by None is_o = none (is_request_there line w r) ∙ sym (none (is_request_there line v r))
      by (Some every) is_o = ap (λ t. if t then every ∷ [] else []) (request_kept r request at_r (ap is_some is_o))

  same_periods : lines_of_each (period_where (is_request_there line w) (asked_every flow)) 0 line.plan.requests.items
      ≡ lines_of_each (period_where (is_request_there line v) (asked_every flow)) 0 line.plan.requests.items
  same_periods = each_alike (period_where (is_request_there line w) (asked_every flow))
      (period_where (is_request_there line v) (asked_every flow)) 0 line.plan.requests.items
      (λ k request at.
      let here : 0 + k ≡ k = omega arith in
      subst (λ n. period_where (is_request_there line w) (asked_every flow) n request ≡ period_where (is_request_there line v) (asked_every flow) n request)
      (sym here)
      (period_kept k request at))

  module _ (plan other : Plan) (is : IsVariantPlan line w plan) (also : IsVariantPlan line v other) (y z : FlowPlan)
      (comes : moved_flow (unit_places line w) (group_places line w) flow ≡ Some y)
      (goes : moved_flow (unit_places line v) (group_places line v) flow ≡ Some z) where
    pub too_often_kept : is_asked_too_often plan.requests.items y ≡ true → is_asked_too_often other.requests.items z ≡ true
    too_often_kept too_often =
        let asked = asked_more plan.requests.items y too_often in
        let of_y = flow_of flow (place_at (group_places line w) flow.group) (place_at (unit_places line w) flow.sender)
        (moved_receivers (unit_places line w) flow.to) y comes in
        let of_z = flow_of flow (place_at (group_places line v) flow.group) (place_at (unit_places line v) flow.sender)
        (moved_receivers (unit_places line v) flow.to) z goes in
        let periods : asking_periods plan.requests.items y ≡ asking_periods other.requests.items z =
        asked_here line w plan is flow y comes ∙ same_periods ∙ sym (asked_here line v other also flow z goes) in
        answering_more other.requests.items z asked.pace (sym of_z.on_request ∙ of_y.on_request ∙ asked.answers) (sym of_z.pace ∙ of_y.pace ∙ asked.paced)
        ∙ ap (is_more_than_one asked.pace.period) (sym periods)
        ∙ sym (answering_more plan.requests.items y asked.pace asked.answers asked.paced) ∙ too_often

-- ---- what is found

module _ (plan : Plan) (others : List LoadFinding) where
  found_by : (o : Option Timing) → AreLoadFindings plan (option_map (with_claims plan) o) others → (f : ℕ) → Contains others (AskedTooOften f)
      → (is_some o ≡ true) × ((flow : FlowPlan) × (slice_get plan.flows.items f ≡ Some flow) × (is_asked_too_often plan.requests.items flow ≡ true))
  found_by None none f found = absurd (none_of (AskedTooOften f) (subst (λ l. Contains l (AskedTooOften f)) none found))
  found_by (Some timing) are f found = (refl, asked_at plan (with_claims plan timing) others are f found)

  by_found : (o : Option Timing) → AreLoadFindings plan (option_map (with_claims plan) o) others → is_some o ≡ true → (f : ℕ) (flow : FlowPlan)
      → slice_get plan.flows.items f ≡ Some flow → is_asked_too_often plan.requests.items flow ≡ true → Contains others (AskedTooOften f)
  by_found None none some f flow at too_often = cc
  by_found (Some timing) are some f flow at too_often =
      (asked_exactly plan (with_claims plan timing) others are f flow at).1 (asked_more plan.requests.items flow too_often)

  module _ (are : AreLoadFindings plan (timing_of plan) others) where
    pub found_asked : (f : ℕ) → Contains others (AskedTooOften f)
        → (is_some plan.timing ≡ true) × ((flow : FlowPlan) × (slice_get plan.flows.items f ≡ Some flow) × (is_asked_too_often plan.requests.items flow ≡ true))
    unfolding timing_of
    found_asked = found_by plan.timing are

    pub asked_found : is_some plan.timing ≡ true → (f : ℕ) (flow : FlowPlan) → slice_get plan.flows.items f ≡ Some flow
        → is_asked_too_often plan.requests.items flow ≡ true → Contains others (AskedTooOften f)
    unfolding timing_of
    asked_found = by_found plan.timing are

pub asked_kept : (line : ProductLine) (w v : List ℕ) → AreTwo line w v → (f : ℕ) → Agree (choices_of_parts line (parts_of_asked line f)) w v
    → (findings : List LineFinding) → AreVariantFindings line w findings → IsFound findings (OfLoad (AskedTooOften f))
    → (others : List LineFinding) → AreVariantFindings line v others → IsFound others (OfLoad (AskedTooOften f))
asked_kept line w v two f agree findings are one others has =
    let (finding, among, is) = in_load line w findings are (AskedTooOften f) one in go finding among is
  where
    kept : (i : ℕ) → Contains are.others (AskedTooOften i) → place_in_file are.there.flows.items i ≡ f → IsFound others (OfLoad (AskedTooOften f))
    kept i among place =
        let (timed, (y, at_i, too_often)) = found_asked are.plan are.others are.are_others i among in
        let its = (are_flows line w are.plan are.is_plan are.there are.is_there).from i y at_i in
        let is_f : its.k ≡ f = sym its.place_is ∙ place in
        let at_f : slice_get line.plan.flows.items f ≡ Some its.value = ap (slice_get line.plan.flows.items) (sym is_f) ∙ its.value_is in
        let there : is_flow_there line v f ≡ true = flow_kept line w v two f agree its.value at_f
        (subst (λ k. is_flow_there line w k ≡ true) is_f its.is_there) in
        let goes = (are_flows line v has.plan has.is_plan has.there has.is_there).into f its.value at_f there in
        let too_often_there = too_often_kept line w v two f agree its.value at_f are.plan has.plan are.is_plan has.is_plan y goes.value its.comes goes.comes too_often in
        let timed_there : is_some has.plan.timing ≡ true = ap is_some (has.is_plan.has_timing ∙ sym are.is_plan.has_timing) ∙ timed in
        subst (λ n. IsFound others (OfLoad (AskedTooOften n))) goes.place_is
        (of_load_reported line v others has (AskedTooOften goes.i)
        (asked_found has.plan has.others has.are_others timed_there goes.i goes.value goes.value_is too_often_there))

    same_asked : (a b : ℕ) → AskedTooOften a ≡ AskedTooOften b → a ≡ b
    same_asked a b same = cc

    no_period : (i : ℕ) → NoPeriod i ≡ AskedTooOften f → ⊥
    no_period i same = cc

    not_late : (i : ℕ) → LateFlow i ≡ AskedTooOften f → ⊥
    not_late i same = cc

    not_old : (i : ℕ) → NeedTooOld i ≡ AskedTooOften f → ⊥
    not_old i same = cc

    go : (x : LoadFinding) → Contains are.others x → load_finding_in_file are.there x ≡ AskedTooOften f → IsFound others (OfLoad (AskedTooOften f))
    go (NoPeriod i) among is = absurd (no_period (place_in_file are.there.flows.items i) is)
    go (Overload n) among is = cc
    go (LateFlow i) among is = absurd (not_late (place_in_file are.there.flows.items i) is)
    go (NeedTooOld d) among is = absurd (not_old (place_in_file are.there.needs.items d) is)
    go (AskedTooOften i) among is = kept i among (same_asked (place_in_file are.there.flows.items i) f is)
