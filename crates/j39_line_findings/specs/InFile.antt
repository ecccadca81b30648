-- Findings at their places in the file of a line of vehicles, and in which order they are reported.
use Rattle.std.specs.Prelude.{◌≡◌, ℕ, ◌==◌, List, [], ◌∷◌, ◌++◌, Bool, true, false, ◌&&◌, ◌||◌, map, nat_lt}
use Rattle.j39_findings.specs.Findings.{finding_number}
use Rattle.j39_findings.specs.declared.checking.finding.Finding.{Finding}
use Rattle.j39_findings.specs.declared.checking.finding.Finding.TheVariants.{SameName, SameFixedAddress, TooFewAddresses, BadPgn, SamePgn, SignalWidth}
use Rattle.j39_findings.specs.declared.checking.finding.Finding.TheVariants.{SignalOutside, SignalOverlap, FlowToOne, FlowToSelf, FlowRepeated, KeptAddress}
use Rattle.j39_findings.specs.declared.checking.finding.Finding.TheVariants.{PrivateUnsent, RecordOverlap, TextOutside, NeedUnmet, RequestUnanswered, RequestUnheard}
use Rattle.j39_findings.specs.declared.checking.finding.Finding.TheVariants.{AnswerAstray, WhenOutside, RequestRepeated, SilentAddress, SilentInPool, FlowContested}
use Rattle.j39_load.specs.declared.findings.load_finding.LoadFinding.TheVariants.{NoPeriod, Overload, LateFlow, NeedTooOld, AskedTooOften}
use Rattle.j39_load.specs.LoadFindings.{load_finding_number}
use Rattle.j39_load.specs.declared.findings.load_finding.LoadFinding.{LoadFinding}
use Rattle.j39_line_findings.specs.There.{place_in_file}
use Rattle.j39_line_findings.specs.declared.line_finding.LineFinding.{LineFinding}
use Rattle.j39_line_findings.specs.declared.line_finding.LineFinding.TheVariants.{OfPlan, OfLoad}
use Rattle.j39_line_findings.specs.declared.rank.Rank.{Rank}
use Rattle.j39_line_findings.specs.declared.there.Present.{Present}

-- a finding of the plan of a variant, at its places in the file; signals and texts have their places in their group
abbrev pub finding_in_file : Present → Finding → Finding
finding_in_file there (SameName u1 u2) = SameName (place_in_file there.units.items u1) (place_in_file there.units.items u2)
finding_in_file there (SameFixedAddress u1 u2) = SameFixedAddress (place_in_file there.units.items u1) (place_in_file there.units.items u2)
finding_in_file there (TooFewAddresses n) = TooFewAddresses n
finding_in_file there (BadPgn g) = BadPgn (place_in_file there.groups.items g)
finding_in_file there (SamePgn g1 g2) = SamePgn (place_in_file there.groups.items g1) (place_in_file there.groups.items g2)
finding_in_file there (SignalWidth g s) = SignalWidth (place_in_file there.groups.items g) s
finding_in_file there (SignalOutside g s) = SignalOutside (place_in_file there.groups.items g) s
finding_in_file there (SignalOverlap g1 s2 s3) = SignalOverlap (place_in_file there.groups.items g1) s2 s3
finding_in_file there (FlowToOne f) = FlowToOne (place_in_file there.flows.items f)
finding_in_file there (FlowToSelf f) = FlowToSelf (place_in_file there.flows.items f)
finding_in_file there (FlowRepeated f1 f2) = FlowRepeated (place_in_file there.flows.items f1) (place_in_file there.flows.items f2)
finding_in_file there (KeptAddress u) = KeptAddress (place_in_file there.units.items u)
finding_in_file there (PrivateUnsent g) = PrivateUnsent (place_in_file there.groups.items g)
finding_in_file there (RecordOverlap g1 s2 s3) = RecordOverlap (place_in_file there.groups.items g1) s2 s3
finding_in_file there (TextOutside g s) = TextOutside (place_in_file there.groups.items g) s
finding_in_file there (NeedUnmet d) = NeedUnmet (place_in_file there.needs.items d)
finding_in_file there (RequestUnanswered r) = RequestUnanswered (place_in_file there.requests.items r)
finding_in_file there (RequestUnheard r) = RequestUnheard (place_in_file there.requests.items r)
finding_in_file there (AnswerAstray r) = AnswerAstray (place_in_file there.requests.items r)
finding_in_file there (WhenOutside g) = WhenOutside (place_in_file there.groups.items g)
finding_in_file there (RequestRepeated r1 r2) = RequestRepeated (place_in_file there.requests.items r1) (place_in_file there.requests.items r2)
finding_in_file there (SilentAddress u1 u2) = SilentAddress (place_in_file there.units.items u1) (place_in_file there.units.items u2)
finding_in_file there (SilentInPool u) = SilentInPool (place_in_file there.units.items u)
finding_in_file there (FlowContested f) = FlowContested (place_in_file there.flows.items f)

abbrev pub load_finding_in_file : Present → LoadFinding → LoadFinding
load_finding_in_file there (NoPeriod f) = NoPeriod (place_in_file there.flows.items f)
load_finding_in_file there (Overload n) = Overload n
load_finding_in_file there (LateFlow f) = LateFlow (place_in_file there.flows.items f)
load_finding_in_file there (NeedTooOld d) = NeedTooOld (place_in_file there.needs.items d)
load_finding_in_file there (AskedTooOften f) = AskedTooOften (place_in_file there.flows.items f)

-- the findings of the plan of a variant in which this is there, and of its load, at their places in the file, and each need that is missed
abbrev pub findings_in_file : Present → List Finding → List LoadFinding → List ℕ → List LineFinding
findings_in_file there findings others missed =
    map (λ finding. OfPlan (finding_in_file there finding)) findings
    ++ (map (λ finding. OfLoad (load_finding_in_file there finding)) others ++ map (λ d. OfPlan (NeedUnmet d)) missed)

-- ---- their order

abbrev pub rank_by : ℕ → ℕ → ℕ → ℕ → Rank
rank_by n i j k = record { number = n; first = i; second = j; third = k }

-- by what a finding is reported: its number, and the places that it names
abbrev pub finding_rank : Finding → Rank
finding_rank (SameName u1 u2) = rank_by 1 u1 u2 0
finding_rank (SameFixedAddress u1 u2) = rank_by 2 u1 u2 0
finding_rank (TooFewAddresses n) = rank_by 3 0 0 0
finding_rank (BadPgn g) = rank_by 4 g 0 0
finding_rank (SamePgn g1 g2) = rank_by 5 g1 g2 0
finding_rank (SignalWidth g s) = rank_by 6 g s 0
finding_rank (SignalOutside g s) = rank_by 7 g s 0
finding_rank (SignalOverlap g1 s2 s3) = rank_by 8 g1 s2 s3
finding_rank (FlowToOne f) = rank_by 9 f 0 0
finding_rank (FlowToSelf f) = rank_by 10 f 0 0
finding_rank (FlowRepeated f1 f2) = rank_by 11 f1 f2 0
finding_rank (KeptAddress u) = rank_by 12 u 0 0
finding_rank (PrivateUnsent g) = rank_by 13 g 0 0
finding_rank (RecordOverlap g1 s2 s3) = rank_by 14 g1 s2 s3
finding_rank (TextOutside g s) = rank_by 15 g s 0
finding_rank (NeedUnmet d) = rank_by 19 d 0 0
finding_rank (RequestUnanswered r) = rank_by 21 r 0 0
finding_rank (RequestUnheard r) = rank_by 22 r 0 0
finding_rank (AnswerAstray r) = rank_by 23 r 0 0
finding_rank (WhenOutside g) = rank_by 24 g 0 0
finding_rank (RequestRepeated r1 r2) = rank_by 25 r1 r2 0
finding_rank (SilentAddress u1 u2) = rank_by 26 u1 u2 0
finding_rank (SilentInPool u) = rank_by 27 u 0 0
finding_rank (FlowContested f) = rank_by 28 f 0 0

abbrev pub load_finding_rank : LoadFinding → Rank
load_finding_rank (NoPeriod f) = rank_by 16 f 0 0
load_finding_rank (Overload n) = rank_by 17 0 0 0
load_finding_rank (LateFlow f) = rank_by 18 f 0 0
load_finding_rank (NeedTooOld d) = rank_by 20 d 0 0
load_finding_rank (AskedTooOften f) = rank_by 31 f 0 0

abbrev pub rank_of : LineFinding → Rank
rank_of (OfPlan finding) = finding_rank finding
rank_of (OfLoad finding) = load_finding_rank finding

-- by the number, then by the places
abbrev pub is_below_places : Rank → Rank → Bool
is_below_places a b = nat_lt a.first b.first || ((a.first == b.first)
    && (nat_lt a.second b.second || ((a.second == b.second) && nat_lt a.third b.third)))

abbrev pub is_below : Rank → Rank → Bool
is_below a b = nat_lt a.number b.number || ((a.number == b.number) && is_below_places a b)

-- how many addresses are needed, and how many bits the load has; nothing of another finding
abbrev pub amount_of : LineFinding → ℕ
amount_of (OfPlan (TooFewAddresses n)) = n
amount_of (OfLoad (Overload n)) = n
amount_of _ = 0
