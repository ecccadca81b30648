-- How an order ends, by how the commands end that it makes.
use Rattle.std.proofs.Common.{◌≡◌, ◌⊎◌, ◌+◌, ◌≤◌, ℕ, List, [], ◌++◌, length, Option, Some, None, Result, Ok, Err, IfOk, inl, inr, refl, sym, ap, ◌∙◌, subst}
use Rattle.std.proofs.Common.{arith, append_assoc}
use Rattle.std.specs.Prelude.{IsErrOf}
use Rattle.std.specs.Io.KnownBytes.{Appends, Consumes}
use Rattle.std.proofs.lemmas.List.{length-append}
use Rattle.j39_app.specs.Answers.{IsAnswerOfTwo, IsOfBytes, IsOfSome}
use Rattle.j39_app.specs.Faults.{Ends}
use Rattle.j39_app.specs.Known.{AreFrontOf, AreLeft, AreOf, AreOfPlan, MayBeTooLong}
use Rattle.j39_app.proofs.WholeInputs.{some_same, whole_file, whole_where}
use Rattle.j39_plan_text.specs.PlanText.{IsLineText, IsRefusedText}
use Rattle.j39_variants.specs.declared.line.ProductLine.{ProductLine}
use Rattle.j39_stream.specs.CommandEnds.{AnswersInPieces, AnswersWhole, PutsText}
use Rattle.j39_stream.specs.Streams.{HasFailed, PassesLimits, SinkState, SourceState}
use Rattle.j39_stream.specs.declared.fault.Fault.{Fault}
use Rattle.j39_stream.specs.declared.fault.Fault.TheVariants.{Memory, Device, TooLong}
use Rattle.j39_stream.specs.declared.limits.Limits.{Limits}
use Rattle.j39_stream.specs.declared.verdict.Verdict.{Verdict}
use Rattle.j39_stream.specs.declared.verdict.Verdict.TheVariants.{Done, Unreadable}
use Rattle.j39_stream.proofs.Parts.{none_taken}

-- ---- what was read of bytes that are known

no_longer : (left end : Option (List ℕ)) (bytes all : List ℕ) → left ≡ Some all → Consumes left end bytes → length bytes ≤ length all
no_longer None end bytes all is read = cc is
no_longer (Some xs) None bytes all is read = absurd read
no_longer (Some xs) (Some ys) bytes all is read =
    let same : length xs ≡ length all = ap length (some_same xs all is) in
    let parts : length xs ≡ length bytes + length ys = ap length read ∙ length-append bytes ys in
    omega (arith, same, parts)

-- what passes the limits may do so
passed : (most : Limits) (known : Option (List ℕ)) (old new : SourceState) → AreLeft known old.left → PassesLimits most old new → MayBeTooLong most known
passed most known old new opened (bytes, read, long) = λ all is.
    let within : length bytes ≤ length all = no_longer old.left new.left bytes all (opened all is) read in
    elim long [ inl more ↦ inl (omega arith) | inr calls ↦ inr (let many = calls.0 in omega arith) ]

begins : (left end : Option (List ℕ)) (front rest all : List ℕ) → left ≡ Some all → Consumes left end (front ++ rest) → (more : List ℕ) × (all ≡ front ++ more)
begins None end front rest all is read = cc is
begins (Some xs) None front rest all is read = absurd read
begins (Some xs) (Some ys) front rest all is read = (rest ++ ys, sym (some_same xs all is) ∙ read ∙ append_assoc front rest ys)

-- what was read is the front of what is known
front_read : (known left end : Option (List ℕ)) (front rest : List ℕ) → AreLeft known left → Consumes left end (front ++ rest) → AreFrontOf known front
front_read known left end front rest opened read = λ all is. begins left end front rest all (opened all is) read

-- ---- a command that is given one input

module _ {V W : Type 0} {IsText : List ℕ → V → Type 0} {IsPart : List ℕ → Type 0} {AtOnce IsTooLong IsBroken : Type 0} {state : W → SinkState} where
  -- its file can't be opened
  pub not_opened : {start : W} (r : Result V Fault) → IsErrOf r Device → IsBroken → Ends IsText IsPart AtOnce IsTooLong IsBroken state start start r
  not_opened r fails broken = rw fails record {
    written = tt;
    calm = tt;
    cut = inl refl;
    at_once = λ _ _. refl;
    long = λ e. cc e;
    device = λ _. inl broken;
  }

  -- it puts one text
  pub put_ends : {start ended : W} (says : (text : List ℕ) (answer : V) → IsText text answer → IsPart text) (r : Result V Fault)
      → PutsText IsText state start ended r → Ends IsText IsPart AtOnce IsTooLong IsBroken state start ended r
  put_ends says (Ok answer) puts = record {
    written = puts.written;
    calm = puts.calm;
    cut = tt;
    at_once = λ _ _. tt;
    long = λ e. cc e;
    device = λ e. cc e;
  }
  put_ends says (Err Memory) puts = record {
    written = tt;
    calm = tt;
    cut = inl (puts.memory refl);
    at_once = λ _ _. puts.memory refl;
    long = λ e. cc e;
    device = λ e. cc e;
  }
  put_ends says (Err Device) puts =
      let (text, answer, is, part) = puts.cut refl in
      record {
        written = tt;
        calm = tt;
        cut = inr (text, says text answer is, part);
        at_once = λ _ other. absurd (other refl);
        long = λ e. cc e;
        device = λ _. inr (puts.device refl);
      }
  put_ends says (Err TooLong) puts = absurd (puts.fits refl)

-- it reads all of it before it writes
module _ {V W : Type 0} {IsText : List ℕ → List ℕ → V → Type 0} {IsPart : List ℕ → List ℕ → Type 0} {most : Limits} {old new : SourceState}
    {state : W → SinkState} {start ended : W} {AtOnce : Type 0} (known : Option (List ℕ)) (IsPartOf : List ℕ → Type 0) (IsBroken : Type 0)
    (opened : AreLeft known old.left) (says : (bytes text : List ℕ) → AreOf known bytes → IsPart bytes text → IsPartOf text)
    (breaks : HasFailed old.failures new.failures → IsBroken) where
  pub whole_ends : (r : Result V Fault) → AnswersWhole IsText IsPart most old new state start ended r
      → Ends (IsOfBytes IsText known) IsPartOf AtOnce (MayBeTooLong most known) IsBroken state start ended r
  whole_ends (Ok answer) answers =
      let (input, text, read, end, is, put) = answers.written in
      record {
        written = (text, (input, whole_file known old.left new.left input opened read end, is), put);
        calm = answers.calm.1;
        cut = tt;
        at_once = λ _ _. tt;
        long = λ e. cc e;
        device = λ e. cc e;
      }
  whole_ends (Err Memory) answers = record {
    written = tt;
    calm = tt;
    cut = inl (answers.memory refl);
    at_once = λ _ _. answers.memory refl;
    long = λ e. cc e;
    device = λ e. cc e;
  }
  whole_ends (Err Device) answers = record {
    written = tt;
    calm = tt;
    cut = elim (answers.cut refl) [
      | inl same ↦ inl same
      | inr (input, text, read, end, is, part) ↦ inr (text, says input text (whole_file known old.left new.left input opened read end) is, part)
    ];
    at_once = λ _ other. absurd (other refl);
    long = λ e. cc e;
    device = λ _. elim (answers.device refl) [ inl of ↦ inl (breaks of) | inr to ↦ inr to ];
  }
  whole_ends (Err TooLong) answers =
      let (same, passes) = answers.long refl in
      record {
        written = tt;
        calm = tt;
        cut = inl same;
        at_once = λ _ _. same;
        long = λ _. passed most known old new opened passes;
        device = λ e. cc e;
      }

-- it writes while it reads
module _ {W : Type 0} {IsText : List ℕ → List ℕ → Verdict → Type 0} {most : Limits} {old new : SourceState} {state : W → SinkState} {start ended : W}
    (known : Option (List ℕ)) (IsTextOf : List ℕ → Verdict → Type 0) (IsPartOf : List ℕ → Type 0) (IsBroken : Type 0) (opened : AreLeft known old.left)
    (says : (input text : List ℕ) (verdict : Verdict) → AreFrontOf known input → IsText input text verdict → IsPartOf text)
    (breaks : HasFailed old.failures new.failures → IsBroken) where
  pub pieces_end : (r : Result Verdict Fault)
      → IfOk r (λ verdict. (text : List ℕ) × IsTextOf text verdict × Appends (state start).taken (state ended).taken text)
      → AnswersInPieces IsText most old new state start ended r → Ends IsTextOf IsPartOf ⊥ (MayBeTooLong most known) IsBroken state start ended r
  pieces_end (Ok verdict) written answers = record {
    written = written;
    calm = answers.calm.1;
    cut = tt;
    at_once = λ never. absurd never;
    long = λ e. cc e;
    device = λ e. cc e;
  }
  pieces_end (Err fault) written answers = record {
    written = tt;
    calm = tt;
    cut = elim answers.cut [
      | inl same ↦ inl same
      | inr (input, rest, text, verdict, read, is, part) ↦
          inr (text, says input text verdict (front_read known old.left new.left input rest opened read) is, part)
    ];
    at_once = λ never. absurd never;
    long = λ e. passed most known old new opened (answers.long e);
    device = λ e. elim (answers.device e) [ inl of ↦ inl (breaks of) | inr to ↦ inr to ];
  }

-- a log is read, to its end where this is the answer
pub log_ends : {W : Type 0} {IsText : List ℕ → List ℕ → Verdict → Type 0} {most : Limits} {old new : SourceState} {state : W → SinkState} {start ended : W}
    (known : Option (List ℕ)) (IsBroken : Type 0) → AreLeft known old.left → (HasFailed old.failures new.failures → IsBroken) → (r : Result Verdict Fault)
    → AnswersInPieces IsText most old new state start ended r
    → Ends (λ text verdict. (log : List ℕ) × (verdict ≡ Done → AreOf known log) × IsText log text verdict)
    (IsOfSome (λ text verdict. (log : List ℕ) × AreFrontOf known log × IsText log text verdict)) ⊥ (MayBeTooLong most known) IsBroken state start ended r
log_ends known IsBroken opened breaks r answers =
    pieces_end known _ _ IsBroken opened (λ input text verdict of is. (verdict, (input, of, is))) breaks r
    (whole_where _ _ known _ _ r Done opened answers.written) answers

-- ---- a part of what is done

module _ {V W : Type 0} {IsText IsOther : List ℕ → V → Type 0} {IsPart IsFront : List ℕ → Type 0}
    {AtOnce Later IsTooLong IsLonger IsBroken IsWorse : Type 0} {state : W → SinkState} {start ended : W}
    (says : (text : List ℕ) (v : V) → IsText text v → IsOther text v) (parts : (text : List ℕ) → IsPart text → IsFront text)
    (sooner : Later → AtOnce) (longs : IsTooLong → IsLonger) (breaks : IsBroken → IsWorse) where
  -- a part whose end is that of the whole
  pub ends_too : (r : Result V Fault) → Ends IsText IsPart AtOnce IsTooLong IsBroken state start ended r
      → Ends IsOther IsFront Later IsLonger IsWorse state start ended r
  ends_too (Ok v) read =
      let (text, said, put) = read.written in
      record {
        written = (text, says text v said, put);
        calm = read.calm;
        cut = tt;
        at_once = λ _ _. tt;
        long = λ e. cc e;
        device = λ e. cc e;
      }
  ends_too (Err fault) read = record {
    written = tt;
    calm = tt;
    cut = elim read.cut [ inl same ↦ inl same | inr (text, part, put) ↦ inr (text, parts text part, put) ];
    at_once = λ once. read.at_once (sooner once);
    long = λ e. longs (read.long e);
    device = λ e. elim (read.device e) [ inl broken ↦ inl (breaks broken) | inr to ↦ inr to ];
  }

module _ {V U W : Type 0} {IsText : List ℕ → V → Type 0} {IsOther : List ℕ → U → Type 0} {IsPart IsFront : List ℕ → Type 0}
    {AtOnce Later IsTooLong IsLonger IsBroken IsWorse : Type 0} {state : W → SinkState} {start ended : W} where
  -- a part that gave up
  pub fails_too : (fault : Fault) (r : Result V Fault) (s : Result U Fault) → r ≡ Err fault → IsErrOf s fault
      → ((text : List ℕ) → IsPart text → IsFront text) → (Later → AtOnce) → (IsTooLong → IsLonger) → (IsBroken → IsWorse)
      → Ends IsText IsPart AtOnce IsTooLong IsBroken state start ended r → Ends IsOther IsFront Later IsLonger IsWorse state start ended s
  fails_too fault r s is ends parts sooner longs breaks read =
      let before = rw is at read in
      rw ends record {
        written = tt;
        calm = tt;
        cut = elim before.cut [ inl same ↦ inl same | inr (text, part, put) ↦ inr (text, parts text part, put) ];
        at_once = λ once other. before.at_once (sooner once) (λ same. other (cc same));
        long = λ e. longs (before.long (cc e));
        device = λ e. elim (before.device (cc e)) [ inl broken ↦ inl (breaks broken) | inr to ↦ inr to ];
      }

  -- one that answered, where its answer is another one's
  pub answers_too : (v : V) (u : U) (r : Result V Fault) → r ≡ Ok v → ((text : List ℕ) → IsText text v → IsOther text u)
      → Ends IsText IsPart AtOnce IsTooLong IsBroken state start ended r → Ends IsOther IsFront Later IsLonger IsWorse state start ended (Ok u)
  answers_too v u r is says read =
      let before = rw is at read in
      let (text, said, put) = before.written in
      record {
        written = (text, says text said, put);
        calm = before.calm;
        cut = tt;
        at_once = λ _ _. tt;
        long = λ e. cc e;
        device = λ e. cc e;
      }

module _ {V W : Type 0} {IsText : List ℕ → V → Type 0} {IsPart : List ℕ → Type 0} {AtOnce IsTooLong IsBroken : Type 0} {state : W → SinkState} {start : W} where
  -- memory was refused before anything was written
  pub wants_memory : (r : Result V Fault) → IsErrOf r Memory → Ends IsText IsPart AtOnce IsTooLong IsBroken state start start r
  wants_memory r wants = rw wants record {
    written = tt;
    calm = tt;
    cut = inl refl;
    at_once = λ _ _. refl;
    long = λ e. cc e;
    device = λ e. cc e;
  }

  -- nothing is written
  pub says_nothing : (v : V) → IsText [] v → Ends IsText IsPart AtOnce IsTooLong IsBroken state start start (Ok v)
  says_nothing v is = record {
    written = ([], is, none_taken _);
    calm = refl;
    cut = tt;
    at_once = λ _ _. tt;
    long = λ e. cc e;
    device = λ e. cc e;
  }

-- what follows a part that wrote nothing
pub continues : {V W : Type 0} {IsText : List ℕ → V → Type 0} {IsPart : List ℕ → Type 0} {AtOnce IsTooLong IsBroken : Type 0} {state : W → SinkState}
    {start middle ended : W} {r : Result V Fault} → middle ≡ start → Ends IsText IsPart AtOnce IsTooLong IsBroken state middle ended r
    → Ends IsText IsPart AtOnce IsTooLong IsBroken state start ended r
continues {V} {W} {IsText} {IsPart} {AtOnce} {IsTooLong} {IsBroken} {state} {start} {middle} {ended} {r} same ends =
    subst (λ (w : W). Ends IsText IsPart AtOnce IsTooLong IsBroken state w ended r) same ends

-- ---- an order of two files

module _ {W : Type 0} {AtOnce FirstLong Long FirstBroken Broken : Type 0} {state : W → SinkState} {start middle : W}
    (IsTextFor IsFrontFor : ProductLine → Option (List ℕ) → List ℕ → Verdict → Type 0) (first second : Option (List ℕ))
    (plan : Result (Option ProductLine) Fault)
    (read : Ends (IsOfBytes IsLineText first) (λ text. (bytes : List ℕ) × AreOf first bytes × IsRefusedText bytes text) (Unit {0}) FirstLong FirstBroken
    state start middle plan) where
  -- the plan's can't be read
  pub no_plan : (fault : Fault) (r : Result Verdict Fault) → plan ≡ Err fault → IsErrOf r fault
      → Ends (IsAnswerOfTwo IsTextFor first second) (IsOfSome (IsAnswerOfTwo IsFrontFor first second)) AtOnce (FirstLong ⊎ (AreOfPlan first × Long))
      (FirstBroken ⊎ (AreOfPlan first × Broken)) state start middle r
  no_plan fault r is ends =
      fails_too fault plan r is ends (λ text part. (Unreadable, inl (part.0, part.1, part.2, refl))) (λ _. tt) (λ long. inl long) (λ broken. inl broken) read

  -- it describes none
  pub plan_refused : plan ≡ Ok None
      → Ends (IsAnswerOfTwo IsTextFor first second) (IsOfSome (IsAnswerOfTwo IsFrontFor first second)) AtOnce (FirstLong ⊎ (AreOfPlan first × Long))
      (FirstBroken ⊎ (AreOfPlan first × Broken)) state start middle (Ok Unreadable)
  plan_refused is = answers_too None Unreadable plan is (λ text part. inl (part.0, part.1, part.2, refl)) read

  -- the other file is read by the plan
  pub plan_known : {ended : W} (found : ProductLine) (r : Result Verdict Fault) → plan ≡ Ok (Some found) → middle ≡ start
      → Ends (IsTextFor found second) (IsOfSome (IsFrontFor found second)) AtOnce Long Broken state middle ended r
      → Ends (IsAnswerOfTwo IsTextFor first second) (IsOfSome (IsAnswerOfTwo IsFrontFor first second)) AtOnce (FirstLong ⊎ (AreOfPlan first × Long))
      (FirstBroken ⊎ (AreOfPlan first × Broken)) state start ended r
  plan_known found r is same by =
      let before = rw is at read in
      let (text, (bytes, of, described), put) = before.written in
      ends_too (λ text verdict is. inr (bytes, found, of, described.0, is)) (λ text is. (is.0, inr (bytes, found, of, described.0, is.1))) (λ now. now)
      (λ long. inr ((bytes, found, of, described.0), long)) (λ broken. inr ((bytes, found, of, described.0), broken)) r (continues same by)
