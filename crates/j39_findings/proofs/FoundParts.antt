-- Where a part of the list of findings has some, the whole list has; and the parts together are the list.
use Rattle.std.proofs.Common.{◌≡◌, ◌≢◌, List, [], ◌++◌, Result, Ok, Err, IsErrAnd, OnErr, IsOk, refl}
use Rattle.std.specs.declared.alloc.AllocError.{AllocError}
use Rattle.j39_search.specs.Adding.{Adds}
use Rattle.j39_search.proofs.AddingLemmas.{adds_behind, some_left, some_right}
use Rattle.j39_search.proofs.WantedMemory.{on_err}
use Rattle.j39_findings.specs.Found.{unit_findings, group_findings, signal_findings, flow_findings, kept_findings, unsent_findings, record_findings}
use Rattle.j39_findings.specs.Found.{text_findings, need_findings, request_findings, found, silent_findings, contested_findings}
use Rattle.j39_findings.specs.Findings.{Clean}
use Rattle.j39_findings.specs.declared.checking.finding.Finding.{Finding}
use Rattle.j39_network.specs.declared.plan.Plan.{Plan}
use Rattle.j39_findings.proofs.FoundLaws.{none_from_clean, rest}

-- want of memory says that something is wrong
answers_clean : {A : Type 0} (plan : Plan) (r : Result A AllocError) → OnErr r (found plan ≢ []) → Clean plan → IsOk r
answers_clean plan (Ok done) refused clean = refl
answers_clean plan (Err e) refused clean = absurd (refused (none_from_clean plan clean))

-- memory was refused where something is found, so a clean plan is always answered
abbrev pub WantsMemory : {A : Type 0} → Plan → Result A AllocError → Type 0
WantsMemory plan r = OnErr r (found plan ≢ []) × (Clean plan → IsOk r)

pub wants_memory : {A : Type 0} (plan : Plan) (Q : AllocError → Type 0) (r : Result A AllocError) → IsErrAnd r Q → found plan ≢ [] → WantsMemory plan r
wants_memory plan Q r is some =
    let refused = on_err (found plan ≢ []) Q r is some in
    (refused, answers_clean plan r refused)

pub units_some : (plan : Plan) → unit_findings plan.keep_free plan.strangers plan.units.items ≢ [] → found plan ≢ []
unfolding found
units_some plan some = some_left _ _ some

pub groups_some : (plan : Plan) → group_findings plan.groups.items plan.flows.items ≢ [] → found plan ≢ []
unfolding found
groups_some plan some = some_right _ _ (some_left _ _ some)

pub signals_some : (plan : Plan) → signal_findings plan.groups.items ≢ [] → found plan ≢ []
unfolding found
signals_some plan some = some_right _ _ (some_right _ _ (some_left _ _ some))

rest_some : (plan : Plan) → rest plan ≢ [] → found plan ≢ []
unfolding found
rest_some plan some =
    some_right (unit_findings plan.keep_free plan.strangers plan.units.items) _ (some_right (group_findings plan.groups.items plan.flows.items) _
    (some_right (signal_findings plan.groups.items) (rest plan) some))

pub flows_some : (plan : Plan) → flow_findings plan.groups.items plan.flows.items ≢ [] → found plan ≢ []
flows_some plan some = rest_some plan (some_left _ _ some)

pub kept_some : (plan : Plan) → kept_findings plan.keep_free plan.units.items ≢ [] → found plan ≢ []
kept_some plan some = rest_some plan (some_right (flow_findings plan.groups.items plan.flows.items) _ (some_left _ _ some))

pub unsent_some : (plan : Plan) → unsent_findings plan.groups.items plan.flows.items ≢ [] → found plan ≢ []
unsent_some plan some =
    rest_some plan (some_right (flow_findings plan.groups.items plan.flows.items) _
    (some_right (kept_findings plan.keep_free plan.units.items) _ (some_left _ _ some)))

pub records_some : (plan : Plan) → record_findings plan.groups.items ≢ [] → found plan ≢ []
records_some plan some =
    rest_some plan (some_right (flow_findings plan.groups.items plan.flows.items) _
    (some_right (kept_findings plan.keep_free plan.units.items) _
    (some_right (unsent_findings plan.groups.items plan.flows.items) _ (some_left _ _ some))))

pub texts_some : (plan : Plan) → text_findings plan.groups.items ≢ [] → found plan ≢ []
texts_some plan some =
    rest_some plan (some_right (flow_findings plan.groups.items plan.flows.items) _
    (some_right (kept_findings plan.keep_free plan.units.items) _
    (some_right (unsent_findings plan.groups.items plan.flows.items) _
    (some_right (record_findings plan.groups.items) _ (some_left _ _ some)))))

pub needs_some : (plan : Plan) → need_findings plan.requests.items plan.flows.items plan.needs.items ≢ [] → found plan ≢ []
needs_some plan some =
    rest_some plan (some_right (flow_findings plan.groups.items plan.flows.items) _
    (some_right (kept_findings plan.keep_free plan.units.items) _
    (some_right (unsent_findings plan.groups.items plan.flows.items) _
    (some_right (record_findings plan.groups.items) _ (some_right (text_findings plan.groups.items) _ (some_left _ _ some))))))

pub requests_some : (plan : Plan) → request_findings plan.groups.items plan.flows.items plan.requests.items ≢ [] → found plan ≢ []
requests_some plan some =
    rest_some plan (some_right (flow_findings plan.groups.items plan.flows.items) _
    (some_right (kept_findings plan.keep_free plan.units.items) _
    (some_right (unsent_findings plan.groups.items plan.flows.items) _
    (some_right (record_findings plan.groups.items) _ (some_right (text_findings plan.groups.items) _
    (some_right (need_findings plan.requests.items plan.flows.items plan.needs.items) _ (some_left _ _ some)))))))

pub silent_some : (plan : Plan) → silent_findings plan.keep_free plan.strangers plan.units.items ≢ [] → found plan ≢ []
silent_some plan some =
    rest_some plan (some_right (flow_findings plan.groups.items plan.flows.items) _
    (some_right (kept_findings plan.keep_free plan.units.items) _
    (some_right (unsent_findings plan.groups.items plan.flows.items) _
    (some_right (record_findings plan.groups.items) _ (some_right (text_findings plan.groups.items) _
    (some_right (need_findings plan.requests.items plan.flows.items plan.needs.items) _
    (some_right (request_findings plan.groups.items plan.flows.items plan.requests.items) _ (some_left _ _ some))))))))

pub contested_some : (plan : Plan) → contested_findings plan.live plan.keep_free plan.strangers plan.units.items plan.flows.items ≢ [] → found plan ≢ []
contested_some plan some =
    rest_some plan (some_right (flow_findings plan.groups.items plan.flows.items) _
    (some_right (kept_findings plan.keep_free plan.units.items) _
    (some_right (unsent_findings plan.groups.items plan.flows.items) _
    (some_right (record_findings plan.groups.items) _ (some_right (text_findings plan.groups.items) _
    (some_right (need_findings plan.requests.items plan.flows.items plan.needs.items) _
    (some_right (request_findings plan.groups.items plan.flows.items plan.requests.items) _
    (some_right (silent_findings plan.keep_free plan.strangers plan.units.items) _ some))))))))

-- the parts one after another, each added behind those before it, are the whole list
pub whole_list : {A : Type 0} (plan : Plan) (r : Result A AllocError)
    (old units groups signals flows kept unsent records texts needs requests silent new : List Finding)
    → units ≡ old ++ unit_findings plan.keep_free plan.strangers plan.units.items
    → groups ≡ units ++ group_findings plan.groups.items plan.flows.items
    → signals ≡ groups ++ signal_findings plan.groups.items
    → flows ≡ signals ++ flow_findings plan.groups.items plan.flows.items
    → kept ≡ flows ++ kept_findings plan.keep_free plan.units.items
    → unsent ≡ kept ++ unsent_findings plan.groups.items plan.flows.items
    → records ≡ unsent ++ record_findings plan.groups.items
    → texts ≡ records ++ text_findings plan.groups.items
    → needs ≡ texts ++ need_findings plan.requests.items plan.flows.items plan.needs.items
    → requests ≡ needs ++ request_findings plan.groups.items plan.flows.items plan.requests.items
    → silent ≡ requests ++ silent_findings plan.keep_free plan.strangers plan.units.items
    → Adds r silent new (contested_findings plan.live plan.keep_free plan.strangers plan.units.items plan.flows.items)
    → Adds r old new (found plan)
unfolding found
whole_list plan r old units groups signals flows kept unsent records texts needs requests silent new a b c d e f g h i j k l =
    adds_behind _ _ _ _ _ _ a (adds_behind _ _ _ _ _ _ b (adds_behind _ _ _ _ _ _ c (adds_behind _ _ _ _ _ _ d (adds_behind _ _ _ _ _ _ e
    (adds_behind _ _ _ _ _ _ f (adds_behind _ _ _ _ _ _ g (adds_behind _ _ _ _ _ _ h (adds_behind _ _ _ _ _ _ i (adds_behind _ _ _ _ _ _ j
    (adds_behind _ _ _ _ _ _ k l))))))))))
