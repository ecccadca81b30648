-- What is written of steps is read as these steps.
use Rattle.std.proofs.Common.{◌≡◌, ℕ, ◌+◌, ◌<◌, ◌≤◌, List, [], ◌∷◌, ◌++◌, length, map, codes, Some, append_assoc, refl, ap, ◌∙◌, arith}
use Rattle.std.proofs.lemmas.Bool.{le-ltb}
use Rattle.std.proofs.lemmas.List.{length-append}
use Rattle.std.proofs.lemmas.List.Elements.{All-append, All-cons, All-head, All-tail}
use Rattle.std.specs.List.{All}
use Rattle.std.specs.Prelude.{decimal}
use Rattle.hex.specs.Hex.{IsBytes, encode_upper, upper_digits}
use Rattle.hex.proofs.HexLemmas.{decode_of-encode_upper, length-encode_with}
use Rattle.j39_id.specs.Limits.{message_bytes}
use Rattle.j39_id.specs.Lines.{Short, line_of, lines}
use Rattle.j39_network.specs.declared.plan.Plan.{Plan}
use Rattle.j39_network.specs.declared.steps.Step.{Step}
use Rattle.j39_network.specs.declared.steps.Step.TheVariants.{Up, Down, Give, Ask, Begin, Send, Emit, Take, Lose, LateSender, LateReceiver, Rest}
use Rattle.j39_text.specs.Labels.{unit_label, units_text}
use Rattle.j39_text.specs.Texts.{field_text, labels_text, place_field}
use Rattle.j39_schedule.specs.Schedule.{Ordered, Reading, as_ordered, begins, sends, does, line_order, order_named, read_as, readings_of}
use Rattle.j39_schedule.specs.Schedule.{with_flow, with_unit, with_units, words_of, words_order}
use Rattle.j39_schedule.specs.StepLines.{IsMessageOf, IsStepOf, IsUnit, step_line, step_lines, step_text, step_unit_text}
use Rattle.j39_schedule.proofs.BegunFlows.{bytes_word, number_is, number_word, place_is}
use Rattle.j39_schedule.proofs.Splits.{lines-append}
use Rattle.j39_schedule.proofs.TextWords.{IsVisible, IsWord, after_spaces, first_word, is_spelled, one_line, only_word, visible, visible_parted}
use Rattle.j39_schedule.proofs.UnitNames.{is_named}

-- a text that orders a step, short and on one line
record Spells (plan : Plan) (text : List ℕ) (step : Step) : Type 0 where
  order : words_order plan (words_of text) ≡ read_as (Some step)
  short : length text ≤ 8000
  visible : IsVisible text

-- ---- a word with one or two values behind it

module _ (word a : List ℕ) (first : IsWord word) (second : IsWord a) where
  two_words : words_of ((word ++ 32 ∷ []) ++ a) ≡ word ∷ a ∷ []
  two_words =
      ap words_of (append_assoc word (32 ∷ []) a) ∙ first_word word first a ∙ ap (λ (rest : List (List ℕ)). word ∷ rest) (only_word a second)

  three_words : (b : List ℕ) → IsWord b → words_of ((word ++ 32 ∷ []) ++ (a ++ 32 ∷ b)) ≡ word ∷ a ∷ b ∷ []
  three_words b third =
      ap words_of (append_assoc word (32 ∷ []) (a ++ 32 ∷ b)) ∙ first_word word first (a ++ 32 ∷ b)
      ∙ ap (λ (rest : List (List ℕ)). word ∷ rest) (first_word a second b ∙ ap (λ (rest : List (List ℕ)). a ∷ rest) (only_word b third))

visible_word : (word rest : List ℕ) → IsWord word → IsVisible rest → IsVisible ((word ++ 32 ∷ []) ++ rest)
visible_word word rest is visible_rest =
    All-append (λ c. 31 < c) (word ++ 32 ∷ []) rest (visible_parted word [] (visible word is) (λ k d below. absurd (omega arith))) visible_rest

length_word : (word rest : List ℕ) → length ((word ++ 32 ∷ []) ++ rest) ≡ length word + 1 + length rest
length_word word rest = omega (arith, length-append (word ++ 32 ∷ []) rest, length-append word (32 ∷ []))

-- ---- steps of units

-- the word begins an order for the step of a unit
abbrev BeginsUnit : Plan → List ℕ → (ℕ → Step) → Type 0
BeginsUnit plan word step = (a : List ℕ) → words_order plan (word ∷ a ∷ []) ≡ with_unit plan a step

abbrev BeginsUnits : Plan → List ℕ → (ℕ → ℕ → Step) → Type 0
BeginsUnits plan word step = (a b : List ℕ) → words_order plan (word ∷ a ∷ b ∷ []) ≡ with_units plan a b step

unit_step : (plan : Plan) (word : List ℕ) (step : ℕ → Step) (u : ℕ) → IsUnit plan u → IsWord word → length word ≤ 5
    → BeginsUnit plan word step → as_ordered (step u) ≡ does (step u) → Spells plan (step_unit_text (word ++ 32 ∷ []) plan u) (step u)
unfolding step_unit_text
unit_step plan word step u inside is few begun other =
    let unit = is_named plan u inside in
    let names = unit.names in
    record {
      order = ap (words_order plan) (two_words word (unit_label plan u) is unit.word) ∙ begun (unit_label plan u) ∙ rw (names, other) refl;
      short = omega (arith, length_word word (unit_label plan u), unit.short);
      visible = visible_word word (unit_label plan u) is (visible (unit_label plan u) unit.word);
    }

units_step : (plan : Plan) (word : List ℕ) (step : ℕ → ℕ → Step) (u v : ℕ) → IsUnit plan u × IsUnit plan v → IsWord word → length word ≤ 5
    → BeginsUnits plan word step → as_ordered (step u v) ≡ does (step u v) → Spells plan (units_text (word ++ 32 ∷ []) plan u v) (step u v)
unfolding units_text labels_text
units_step plan word step u v inside is few begun other =
    let one = is_named plan u inside.0 in
    let two = is_named plan v inside.1 in
    let first = one.names in
    let second = two.names in
    let a = unit_label plan u in
    let b = unit_label plan v in
    record {
      order = ap (words_order plan) (three_words word a is one.word b two.word) ∙ begun a b ∙ rw (first, second, other) refl;
      short = omega (arith, length_word word (a ++ 32 ∷ b), length-append a (32 ∷ b), one.short, two.short);
      visible = visible_word word (a ++ 32 ∷ b) is (visible_parted a b (visible a one.word) (visible b two.word));
    }

-- ---- the steps that begin and that send a message

-- the word begins an order of a message
abbrev BeginsMessage : Plan → List ℕ → (ℕ → List ℕ → Ordered) → Type 0
BeginsMessage plan word order = (a b : List ℕ) → words_order plan (word ∷ a ∷ b ∷ []) ≡ with_flow plan order a b

message_step : (plan : Plan) (word : List ℕ) (makes : ℕ → List ℕ → Ordered) (step : Step) (f : ℕ) (bytes : List ℕ) → IsMessageOf plan f bytes
    → IsWord word → length word ≤ 5 → BeginsMessage plan word makes → as_ordered step ≡ makes f bytes
    → Spells plan (place_field (word ++ 32 ∷ []) f ++ (codes " " ++ encode_upper bytes)) step
unfolding field_text
message_step plan word makes step f bytes (inside, some, few, are) is_word short begun is =
    let known : f < 512 = omega (arith, plan.flow_count) in
    let number = number_word (f + 1) (omega arith) in
    let digits = bytes_word bytes some are in
    let a = decimal (f + 1) in
    let b = encode_upper bytes in
    let front : List ℕ = word ++ 32 ∷ [] in
    let same : (front ++ a) ++ (32 ∷ b) ≡ front ++ (a ++ 32 ∷ b) = append_assoc front a (32 ∷ b) in
    let reads = number_is (f + 1) (omega arith) in
    let place = place_is plan f in
    let decodes = decode_of-encode_upper bytes are in
    let twice = length-encode_with upper_digits bytes in
    let order : with_flow plan makes a b ≡ read_as (Some step) = rw (reads, place, decodes, is) refl in
    let whole : Spells plan (front ++ (a ++ 32 ∷ b)) step = record {
      order = ap (words_order plan) (three_words word a is_word number.0 b digits) ∙ (begun a b ∙ order);
      short = omega (arith, short, length_word word (a ++ 32 ∷ b), length-append a (32 ∷ b), number.1, twice);
      visible = visible_word word (a ++ 32 ∷ b) is_word (visible_parted a b (visible a number.0) (visible b digits));
    } in
    rw same whole

-- ---- each step

spelled : (plan : Plan) (step : Step) → IsStepOf plan step → Spells plan (step_text plan step) step
unfolding step_text words_order order_named
spelled plan (Up u) of = unit_step plan (codes "up") Up u of (is_spelled (codes "up") refl) (omega arith) (λ a. refl) refl
spelled plan (Down u) of = unit_step plan (codes "down") Down u of (is_spelled (codes "down") refl) (omega arith) (λ a. refl) refl
spelled plan (Give u v) of = units_step plan (codes "give") Give u v of (is_spelled (codes "give") refl) (omega arith) (λ a b. refl) refl
spelled plan (Ask u) of = unit_step plan (codes "ask") Ask u of (is_spelled (codes "ask") refl) (omega arith) (λ a. refl) refl
spelled plan (Begin f bytes) of =
    message_step plan (codes "begin") begins (Begin f bytes) f bytes.items of (is_spelled (codes "begin") refl) (omega arith) (λ a b. refl) refl
spelled plan (Send f bytes) of =
    message_step plan (codes "send") sends (Send f bytes) f bytes.items of (is_spelled (codes "send") refl) (omega arith) (λ a b. refl) refl
spelled plan (Emit u) of = unit_step plan (codes "emit") Emit u of (is_spelled (codes "emit") refl) (omega arith) (λ a. refl) refl
spelled plan (Take u v) of = units_step plan (codes "take") Take u v of (is_spelled (codes "take") refl) (omega arith) (λ a b. refl) refl
spelled plan (Lose u v) of = units_step plan (codes "lose") Lose u v of (is_spelled (codes "lose") refl) (omega arith) (λ a b. refl) refl
spelled plan (LateSender u) of = unit_step plan (codes "late") LateSender u of (is_spelled (codes "late") refl) (omega arith) (λ a. refl) refl
spelled plan (LateReceiver u v) of = units_step plan (codes "late") LateReceiver u v of (is_spelled (codes "late") refl) (omega arith) (λ a b. refl) refl
spelled plan (Rest u) of = unit_step plan (codes "rest") Rest u of (is_spelled (codes "rest") refl) (omega arith) (λ a. refl) refl

pub step_reads_back : (plan : Plan) (step : Step) → IsStepOf plan step → line_order plan (Short (step_text plan step)) ≡ read_as (Some step)
unfolding line_order
step_reads_back plan step of = (spelled plan step of).order

-- ---- their lines

module _ (plan : Plan) (text : List ℕ) (step : Step) (spells : Spells plan text step) where
  -- two spaces before a line order nothing
  line_reads : line_order plan (line_of (32 ∷ 32 ∷ text)) ≡ read_as (Some step)
  unfolding line_order
  line_reads =
      let short = le-ltb 8192 (length (32 ∷ 32 ∷ text)) (omega (arith, spells.short)) in
      rw short (ap (words_order plan) (after_spaces text) ∙ spells.order)

  first_line : (more : List ℕ) → readings_of plan ((32 ∷ 32 ∷ text) ++ 10 ∷ more) ≡ read_as (Some step) ∷ readings_of plan more
  first_line more =
      let line : List ℕ = 32 ∷ 32 ∷ text in
      let spaced = All-cons (λ c. 31 < c) 32 text (omega arith) spells.visible in
      let visible : IsVisible line = All-cons (λ c. 31 < c) 32 (32 ∷ text) (omega arith) spaced in
      let alone = one_line line visible in
      let first : lines (line ++ 10 ∷ more) ≡ line_of line ∷ lines more = lines-append line more ∙ rw alone refl in
      let reads = line_reads in
      rw (first, reads) refl

pub steps_read_back : (plan : Plan) (steps : List Step) → All (IsStepOf plan) steps
    → readings_of plan (step_lines plan steps) ≡ map (λ step. read_as (Some step)) steps
unfolding step_lines step_line lines
steps_read_back plan [] of = refl
steps_read_back plan (step ∷ steps) of =
    let text = step_text plan step in
    let same : (32 ∷ 32 ∷ (text ++ 10 ∷ [])) ++ step_lines plan steps ≡ (32 ∷ 32 ∷ text) ++ 10 ∷ step_lines plan steps =
    append_assoc (32 ∷ 32 ∷ text) (10 ∷ []) (step_lines plan steps) in
    let here = first_line plan text step (spelled plan step (All-head (IsStepOf plan) step steps of)) (step_lines plan steps) in
    let rest = steps_read_back plan steps (All-tail (IsStepOf plan) step steps of) in
    ap (readings_of plan) same ∙ here ∙ ap (λ (more : List Reading). read_as (Some step) ∷ more) rest
