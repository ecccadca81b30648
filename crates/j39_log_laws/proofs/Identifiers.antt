-- What an identifier that a world sends is, and whether its frame carries a NAME.
use Rattle.std.proofs.Common.{◌≡◌, ◌≢◌, ℕ, ◌+◌, ◌*◌, ◌/◌, ◌%◌, ◌^◌, ◌<◌, ◌≤◌, ◌==◌, ◌&&◌, ◌||◌, nat_le, Bool, true, false, if◌then◌else◌, length}
use Rattle.std.proofs.Common.{inl, inr, refl, sym, ap, ◌∙◌, arith, eqb-true}
use Rattle.std.proofs.lemmas.Bool.{and_parts, cases_Bool, false_from_ne_true, lt-leb, le-leb, leb-false, leb-true, ltb-true, or_cases, true≢false}
use Rattle.j39_id.specs.Ident.{bits, identifier_of, pgn_of}
use Rattle.j39_id.specs.Pgn.{is_pdu2, is_pgn, pf_of}
use Rattle.j39_id.specs.Services.{address_claimed, is_service, request}
use Rattle.j39_id.specs.declared.frame.Frame.{Frame}
use Rattle.j39_id.specs.declared.ident.Ident.{Ident}
use Rattle.j39_id.specs.FrameMeaning.{carries_name}
use Rattle.j39_world.specs.Sent.{to_all}

-- ---- a claim

pub record IsClaimIdent (i : Ident) (source : ℕ) : Type 0 where
  pub edp : i.edp ≡ 0
  pub dp : i.dp ≡ 0
  pub pf : i.pf ≡ 238
  pub sa : i.sa ≡ source

pub claim_ident : (i : Ident) (source : ℕ) → source < 256 → bits i ≡ to_all address_claimed source → IsClaimIdent i source
claim_ident i source less e =
    let number : bits i ≡ 6 * 2 ^ 26 + 60928 * 2 ^ 8 + 255 * 2 ^ 8 + source = e in
    let a = i.priority_range in let b = i.edp_range in let c = i.dp_range in let d = i.pf_range in let f = i.ps_range in let g = i.sa_range in
    record { edp = omega arith; dp = omega arith; pf = omega arith; sa = omega arith }

pub pgn_there : (i : Ident) → i.edp ≡ 0 → i.dp ≡ 0 → i.pf ≡ 238 → pgn_of i ≡ address_claimed
pgn_there i e d p = rw (e, d, p) refl

-- ---- any other frame

-- a number that is a group's, and not that of a claim
pub record IsOther (pgn : ℕ) : Type 0 where
  pub range : pgn < 262144
  pub low : is_pdu2 pgn ≡ false → pgn % 256 ≡ 0
  pub unlike : pgn ≢ 60928

-- the group of an identifier is that of a claim only where its parts are
claim_parts : (i : Ident) → i.edp ≡ 0 → pgn_of i ≡ 60928 → (i.dp ≡ 0) × (i.pf ≡ 238)
claim_parts i e number =
    let c = i.dp_range in let d = i.pf_range in let f = i.ps_range in
    elim (cases_Bool (nat_le 240 i.pf)) [
      | inl above ↦
          let pf : 240 ≤ i.pf = leb-true 240 i.pf above in
          let sum : i.edp * 131072 + i.dp * 65536 + i.pf * 256 + i.ps ≡ 60928 =
          sym (ap (λ (x : Bool). i.edp * 131072 + i.dp * 65536 + i.pf * 256 + (if x then i.ps else 0)) above) ∙ number in
          absurd (omega (arith, pf, sum))
      | inr below ↦
          let sum : i.edp * 131072 + i.dp * 65536 + i.pf * 256 + 0 ≡ 60928 =
          sym (ap (λ (x : Bool). i.edp * 131072 + i.dp * 65536 + i.pf * 256 + (if x then i.ps else 0)) below) ∙ number in
          (omega (arith, e, sum), omega (arith, e, sum))
    ]

not_claim : (i : Ident) (priority pgn destination source : ℕ) → IsOther pgn → destination < 256 → source < 256
    → bits i ≡ identifier_of priority pgn destination source → i.edp ≡ 0 → pgn_of i ≡ 60928 → ⊥
not_claim i priority pgn destination source other d s number e group =
    let parts = claim_parts i e group in
    let dp = parts.0 in
    let pf = parts.1 in
    let ps = i.ps_range in let sa = i.sa_range in let pr = i.priority_range in
    let range = other.range in
    elim (cases_Bool (is_pdu2 pgn)) [
      | inl two ↦
          let sum : bits i ≡ priority * 2 ^ 26 + pgn * 2 ^ 8 + 0 + source =
          number ∙ ap (λ (x : Bool). priority * 2 ^ 26 + pgn * 2 ^ 8 + (if x then 0 else destination * 2 ^ 8) + source) two in
          let above : 240 ≤ pgn / 256 % 256 = leb-true 240 (pf_of pgn) two in
          omega (arith, sum, above, e, dp, pf, ps, sa, pr, range, s)
      | inr one ↦
          let sum : bits i ≡ priority * 2 ^ 26 + pgn * 2 ^ 8 + destination * 2 ^ 8 + source =
          number ∙ ap (λ (x : Bool). priority * 2 ^ 26 + pgn * 2 ^ 8 + (if x then 0 else destination * 2 ^ 8) + source) one in
          let low = other.low one in
          other.unlike (omega (arith, sum, low, e, dp, pf, ps, sa, pr, range, d, s))
    ]

pub carries_none : (f : Frame) (priority pgn destination source : ℕ) → IsOther pgn → destination < 256 → source < 256
    → bits f.ident ≡ identifier_of priority pgn destination source → carries_name f ≡ false
carries_none f priority pgn destination source other d s number =
    false_from_ne_true (carries_name f) (λ carries.
    let first = and_parts (f.ident.edp == 0) (pgn_of f.ident == address_claimed && length f.payload.items == 8) carries in
    let second = and_parts (pgn_of f.ident == address_claimed) (length f.payload.items == 8) first.1 in
    not_claim f.ident priority pgn destination source other d s number (eqb-true f.ident.edp 0 first.0)
    (eqb-true (pgn_of f.ident) 60928 second.0))

-- ---- numbers that are planned

pub planned_other : (pgn : ℕ) → is_pgn pgn ≡ true → is_service pgn ≡ false → IsOther pgn
planned_other pgn valid own =
    let parts = and_parts _ (is_pdu2 pgn || pgn % 256 == 0) valid in
    record {
      range = ltb-true pgn 262144 parts.0;
      low = λ one. elim (or_cases (is_pdu2 pgn) (pgn % 256 == 0) parts.1) [
        | inl two ↦ absurd (true≢false (sym two ∙ one))
        | inr zero ↦ eqb-true (pgn % 256) 0 zero
      ];
      unlike = λ (e : pgn ≡ 60928). true≢false (sym (ap is_service e) ∙ own);
    }

-- ---- where a frame of such a group comes from, and where it goes

pub record IsSentAs (i : Ident) (pgn destination source : ℕ) : Type 0 where
  pub source_is : i.sa ≡ source
  pub group_is : pgn_of i ≡ pgn
  -- it names no destination, or this one
  pub undirected : is_pdu2 pgn ≡ true → is_pdu2 (pgn_of i) ≡ true
  pub directed : is_pdu2 pgn ≡ false → i.ps ≡ destination

-- the number of a group, with the byte behind its format or without it
number_above : (i : Ident) → 240 ≤ i.pf → pgn_of i ≡ i.edp * 131072 + i.dp * 65536 + i.pf * 256 + i.ps
number_above i above = ap (λ (x : Bool). i.edp * 131072 + i.dp * 65536 + i.pf * 256 + (if x then i.ps else 0)) (le-leb 240 i.pf above)

number_below : (i : Ident) → i.pf < 240 → pgn_of i ≡ i.edp * 131072 + i.dp * 65536 + i.pf * 256 + 0
number_below i below = ap (λ (x : Bool). i.edp * 131072 + i.dp * 65536 + i.pf * 256 + (if x then i.ps else 0)) (lt-leb 240 i.pf below)

pdu2_of : (i : Ident) → 240 ≤ i.pf → is_pdu2 (pgn_of i) ≡ true
pdu2_of i above =
    let b = i.edp_range in let c = i.dp_range in let d = i.pf_range in let f = i.ps_range in
    let number = number_above i above in
    le-leb 240 (pf_of (pgn_of i)) (omega (arith, number, above))

pub sent_as : (i : Ident) (priority pgn destination source : ℕ) → IsOther pgn → destination < 256 → source < 256
    → bits i ≡ identifier_of priority pgn destination source → IsSentAs i pgn destination source
sent_as i priority pgn destination source other d s number =
    let a = i.priority_range in let b = i.edp_range in let c = i.dp_range in let e = i.pf_range in let f = i.ps_range in let g = i.sa_range in
    let range = other.range in
    record {
      source_is = elim (cases_Bool (is_pdu2 pgn)) [
        | inl two ↦ (let sum = of_two two in omega (arith, sum, s))
        | inr one ↦ (let sum = of_one one in omega (arith, sum, s))
      ];
      group_is = elim (cases_Bool (is_pdu2 pgn)) [
        | inl two ↦
            (let sum = of_two two in
            let above : 240 ≤ pgn / 256 % 256 = leb-true 240 (pf_of pgn) two in
            number_above i (omega (arith, sum, above, s, range)) ∙ omega (arith, sum, above, s, range))
        | inr one ↦
            (let sum = of_one one in
            let low = other.low one in
            let below : pgn / 256 % 256 < 240 = leb-false 240 (pf_of pgn) one in
            number_below i (omega (arith, sum, low, below, s, d, range)) ∙ omega (arith, sum, low, below, s, d, range))
      ];
      undirected = λ two. pdu2_of i
          (let sum = of_two two in let above : 240 ≤ pgn / 256 % 256 = leb-true 240 (pf_of pgn) two in omega (arith, sum, above, s, range));
      directed = λ one. (let sum = of_one one in let low = other.low one in omega (arith, sum, low, s, d, range));
    }
  where
    of_two : is_pdu2 pgn ≡ true → bits i ≡ priority * 2 ^ 26 + pgn * 2 ^ 8 + 0 + source
    of_two two = number ∙ ap (λ (x : Bool). priority * 2 ^ 26 + pgn * 2 ^ 8 + (if x then 0 else destination * 2 ^ 8) + source) two

    of_one : is_pdu2 pgn ≡ false → bits i ≡ priority * 2 ^ 26 + pgn * 2 ^ 8 + destination * 2 ^ 8 + source
    of_one one = number ∙ ap (λ (x : Bool). priority * 2 ^ 26 + pgn * 2 ^ 8 + (if x then 0 else destination * 2 ^ 8) + source) one

-- ---- a request

pub record IsRequestIdent (i : Ident) : Type 0 where
  pub edp : i.edp ≡ 0
  pub group : pgn_of i ≡ request

pub request_ident : (i : Ident) (source : ℕ) → source < 256 → bits i ≡ to_all request source → IsRequestIdent i
request_ident i source less e =
    let number : bits i ≡ 6 * 2 ^ 26 + 59904 * 2 ^ 8 + 255 * 2 ^ 8 + source = e in
    let a = i.priority_range in let b = i.edp_range in let c = i.dp_range in let d = i.pf_range in let f = i.ps_range in let g = i.sa_range in
    let edp : i.edp ≡ 0 = omega arith in
    let dp : i.dp ≡ 0 = omega arith in
    let pf : i.pf ≡ 234 = omega arith in
    record { edp = edp; group = rw (edp, dp, pf) refl }
