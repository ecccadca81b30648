-- What the frames of claims and requests report, one after another.
use Rattle.std.proofs.Common.{◌≡◌, ◌≢◌, ◌⊎◌, ℕ, suc, ◌<◌, ◌^◌, ◌==◌, ◌&&◌, ◌||◌, Bool, true, false, List, [], ◌∷◌, ◌++◌, length, map, Option}
use Rattle.std.proofs.Common.{inl, inr, refl, sym, ap, subst, ◌∙◌, arith, append_assoc, eq-eqb}
use Rattle.std.specs.Int.{w64, to_le_bytes, from_le_bytes}
use Rattle.std.specs.List.{AllByRecursion, Contains}
use Rattle.std.proofs.lemmas.Bool.{and_from, and_parts, cases_eq, lt-ltb, ltb-true, or_left, or_right, true≢false}
use Rattle.std.proofs.lemmas.List.{append-nil}
use Rattle.std.proofs.lemmas.Nat.{from_le_bytes-to_le_bytes_8}
use Rattle.j39_id.specs.Addresses.{is_address, null_address}
use Rattle.j39_id.specs.Ident.{pgn_of}
use Rattle.j39_id.specs.Services.{address_claimed, request}
use Rattle.j39_id.specs.declared.frame.Frame.{Frame}
use Rattle.j39_claim.specs.declared.item.Item.{Item}
use Rattle.j39_claim.specs.declared.item.Item.TheVariants.{AddressClaimed, Request}
use Rattle.j39_claim.specs.declared.item.Say.TheVariants.{Claim, Cannot}
use Rattle.j39_id.specs.FrameMeaning.{carries_name, name_in, requests_group}
use Rattle.j39_world.specs.Sent.{Sent, frame_of, sent_of, source_of}
use Rattle.j39_follow.specs.Holders.{Claims, HoldsByFrames, TakesFrom, ClaimsOrCannot}
use Rattle.j39_follow.proofs.Addresses.Holding.{holds_new, holds_on}
use Rattle.j39_log_laws.specs.Between.{reports_of_addresses}
use Rattle.j39_log_laws.proofs.Identifiers.{carries_none, claim_ident, pgn_there, request_ident}

-- ---- lists

pub split : {A B : Type 0} (f : A → B) (xs : List A) (ys zs : List B) → map f xs ≡ ys ++ zs
    → (a : List A) × (b : List A) × (xs ≡ a ++ b) × (map f a ≡ ys) × (map f b ≡ zs)
split f xs [] zs e = ([], xs, refl, refl, e)
split f [] (y ∷ ys) zs e = absurd (let never : [] ≡ y ∷ (ys ++ zs) = e in cc)
split {A} {B} f (x ∷ xs) (y ∷ ys) zs e =
    let head : f x ≡ y = cc in
    let tail : map f xs ≡ ys ++ zs = cc in
    let r = split f xs ys zs tail in
    (x ∷ r.0, r.1, ap (λ (l : List A). x ∷ l) r.2, rw (head, r.3) refl, r.4)

-- ---- frames that report of no NAME

abbrev pub HoldsNothing : Frame → Type 0
HoldsNothing f = (name : ℕ) → ¬ ClaimsOrCannot f name

both_false : (b x y : Bool) → b ≡ false → ((b && x) || (b && y)) ≡ false
both_false b x y e = rw e refl

pub holds_nothing : (f : Frame) → carries_name f ≡ false → HoldsNothing f
holds_nothing f none name are_reported =
    true≢false (sym are_reported.either ∙ both_false (carries_name f) (is_address f.ident.sa) (f.ident.sa == null_address) none)

claim_reported : (f : Frame) (name a : ℕ) → Claims f name a → ClaimsOrCannot f name
claim_reported f name a c = record { either = rw c.claim refl; name_is = c.name_is }

takes_nothing : (f : Frame) (name a : ℕ) → HoldsNothing f → ¬ TakesFrom name a f
takes_nothing f name a nothing (inl are_reported) = nothing name are_reported
takes_nothing f name a nothing (inr claim) = nothing claim.0 (claim_reported f claim.0 a claim.1)

-- they take no address
pub silent_keep : (log more : List Frame) (name a : ℕ) → AllByRecursion HoldsNothing more → HoldsByFrames log name a → HoldsByFrames (log ++ more) name a
silent_keep log [] name a all holds = subst (λ (l : List Frame). HoldsByFrames l name a) (sym (append-nil log)) holds
silent_keep log (f ∷ more) name a all holds =
    subst (λ (l : List Frame). HoldsByFrames l name a) (append_assoc log (f ∷ []) more)
    (silent_keep (log ++ f ∷ []) more name a all.1 (holds_on log f name a holds (takes_nothing f name a all.0)))

-- ---- what one item reports

-- an address that is claimed is one that a unit can hold
abbrev pub IsItemInRange : Item → Type 0
IsItemInRange (AddressClaimed (Claim a)) = a < null_address
IsItemInRange _ = Unit {0}

module _ (name : ℕ) (range : name < 2 ^ 64) (held : Option ℕ) (source : source_of held < 256) where
  carried : (f : Frame) (number : ℕ) → sent_of f ≡ record { identifier = number; payload = to_le_bytes w64 name } → name_in f ≡ name
  carried f number e = ap (λ (s : Sent). from_le_bytes w64 s.payload) e ∙ from_le_bytes-to_le_bytes_8 name range

  carries : (f : Frame) (number : ℕ) → sent_of f ≡ record { identifier = number; payload = to_le_bytes w64 name }
      → f.ident.edp ≡ 0 → pgn_of f.ident ≡ address_claimed → carries_name f ≡ true
  carries f number e edp pgn =
      let eight : length f.payload.items ≡ 8 = ap (λ (s : Sent). length s.payload) e in
      and_from (f.ident.edp == 0) (pgn_of f.ident == address_claimed && length f.payload.items == 8) (eq-eqb f.ident.edp 0 edp)
      (and_from (pgn_of f.ident == address_claimed) (length f.payload.items == 8) (eq-eqb (pgn_of f.ident) address_claimed pgn)
      (eq-eqb (length f.payload.items) 8 eight))

  pub claims_it : (f : Frame) (a : ℕ) → a < null_address → sent_of f ≡ frame_of name held (AddressClaimed (Claim a)) → Claims f name a
  claims_it f a less e =
      let i = claim_ident f.ident a (omega arith) (ap (λ (s : Sent). s.identifier) e) in
      let has = carries f _ e i.edp (pgn_there f.ident i.edp i.dp i.pf) in
      record {
        claim = and_from (carries_name f) (is_address f.ident.sa) has (lt-ltb f.ident.sa null_address (let sa = i.sa in omega (arith, sa, less)));
        name_is = carried f _ e;
        source_is = i.sa;
      }

  -- another unit keeps its address, unless it is the one that is claimed
  pub keeps : (f : Frame) (item : Item) (other a : ℕ) → IsItemInRange item → other ≢ name → item ≢ AddressClaimed (Claim a)
      → sent_of f ≡ frame_of name held item → ¬ TakesFrom other a f
  keeps f (AddressClaimed (Claim b)) other a less apart unlike e (inl are_reported) =
      apart (sym are_reported.name_is ∙ carried f _ e)
  keeps f (AddressClaimed (Claim b)) other a less apart unlike e (inr claim) =
      let here : b ≡ a = sym (claims_it f b less e).source_is ∙ claim.1.source_is in
      unlike (ap (λ (k : ℕ). AddressClaimed (Claim k)) here)
  keeps f (AddressClaimed Cannot) other a less apart unlike e (inl are_reported) = apart (sym are_reported.name_is ∙ carried f _ e)
  keeps f (AddressClaimed Cannot) other a less apart unlike e (inr claim) =
      let i = claim_ident f.ident 254 (omega arith) (ap (λ (s : Sent). s.identifier) e) in
      let sa = i.sa in
      let below = ltb-true f.ident.sa null_address (and_parts (carries_name f) (is_address f.ident.sa) claim.1.claim).1 in
      absurd (omega (arith, sa, below))
  keeps f Request other a less apart unlike e takes =
      takes_nothing f other a (holds_nothing f (carries_none f 6 59904 255 (source_of held)
      (record { range = omega arith; low = λ _. refl; unlike = λ (same : 59904 ≡ 60928). absurd (omega (arith, same)) })
      (omega arith) source (ap (λ (s : Sent). s.identifier) e))) takes

  -- ---- what several report

  same_claim : (item : Item) (a : ℕ) → (item ≡ AddressClaimed (Claim a)) ⊎ (item ≢ AddressClaimed (Claim a))
  same_claim (AddressClaimed (Claim b)) a = elim (cases_eq b a) [
    | inl same ↦ inl (ap (λ (k : ℕ). AddressClaimed (Claim k)) same)
    | inr other ↦ inr (λ e. other cc)
  ]
  same_claim (AddressClaimed Cannot) a = inr (λ e. cc)
  same_claim Request a = inr (λ e. cc)

  pub others : (log more : List Frame) (items : List Item) (other a : ℕ) → other ≢ name → AllByRecursion IsItemInRange items
      → map sent_of more ≡ map (frame_of name held) items → HoldsByFrames log other a → HoldsByFrames (log ++ more) other a
      ⊎ Contains items (AddressClaimed (Claim a))
  others log [] [] other a apart all e holds = inl (subst (λ (l : List Frame). HoldsByFrames l other a) (sym (append-nil log)) holds)
  others log [] (item ∷ items) other a apart all e holds = absurd (cc e)
  others log (f ∷ more) [] other a apart all e holds = absurd (cc e)
  others log (f ∷ more) (item ∷ items) other a apart all e holds =
      let head : sent_of f ≡ frame_of name held item = cc in
      let tail : map sent_of more ≡ map (frame_of name held) items = cc in
      elim (same_claim item a) [
        | inl same ↦ inr (0, omega arith, same)
        | inr unlike ↦
            elim (others (log ++ f ∷ []) more items other a apart all.1 tail
            (holds_on log f other a holds (keeps f item other a all.0 apart unlike head))) [
              | inl kept ↦ inl (subst (λ (l : List Frame). HoldsByFrames l other a) (append_assoc log (f ∷ []) more) kept)
              | inr (k, inside, is) ↦ inr (suc k, omega (arith, inside), is)
            ]
      ]

  -- the unit itself holds what it claims last
  pub claimed : (log more : List Frame) (a : ℕ) → a < null_address → map sent_of more ≡ frame_of name held (AddressClaimed (Claim a)) ∷ []
      → HoldsByFrames (log ++ more) name a
  claimed log [] a less e = absurd (cc e)
  claimed log (f ∷ []) a less e =
      let head : sent_of f ≡ frame_of name held (AddressClaimed (Claim a)) = cc in
      holds_new log f name a (claims_it f a less head)
  claimed log (f ∷ g ∷ more) a less e = absurd (cc e)

  pub asked : (log more : List Frame) (item : Item) (a : ℕ) → a < null_address
      → map sent_of more ≡ frame_of name held item ∷ frame_of name held (AddressClaimed (Claim a)) ∷ [] → HoldsByFrames (log ++ more) name a
  asked log [] item a less e = absurd (cc e)
  asked log (f ∷ more) item a less e =
      let tail : map sent_of more ≡ frame_of name held (AddressClaimed (Claim a)) ∷ [] = cc in
      subst (λ (l : List Frame). HoldsByFrames l name a) (append_assoc log (f ∷ []) more) (claimed (log ++ f ∷ []) more a less tail)

  -- each reports of addresses
  pub reports_addresses : (f : Frame) (item : Item) → IsItemInRange item → sent_of f ≡ frame_of name held item → reports_of_addresses f ≡ true
  reports_addresses f (AddressClaimed (Claim a)) less e =
      let i = claim_ident f.ident a (omega arith) (ap (λ (s : Sent). s.identifier) e) in
      or_left (carries_name f) (requests_group f) (carries f _ e i.edp (pgn_there f.ident i.edp i.dp i.pf))
  reports_addresses f (AddressClaimed Cannot) less e =
      let i = claim_ident f.ident 254 (omega arith) (ap (λ (s : Sent). s.identifier) e) in
      or_left (carries_name f) (requests_group f) (carries f _ e i.edp (pgn_there f.ident i.edp i.dp i.pf))
  reports_addresses f Request less e =
      let i = request_ident f.ident (source_of held) source (ap (λ (s : Sent). s.identifier) e) in
      let three : length f.payload.items ≡ 3 = ap (λ (s : Sent). length s.payload) e in
      or_right (carries_name f) (requests_group f)
      (and_from (f.ident.edp == 0) (pgn_of f.ident == request && length f.payload.items == 3) (eq-eqb f.ident.edp 0 i.edp)
      (and_from (pgn_of f.ident == request) (length f.payload.items == 3) (eq-eqb (pgn_of f.ident) request i.group)
      (eq-eqb (length f.payload.items) 3 three)))
