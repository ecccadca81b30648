-- Where the frames of a group go.
use Rattle.std.proofs.Common.{◌≡◌, nat_le, inl, inr, refl, arith}
use Rattle.std.proofs.lemmas.Bool.{cases_Bool}
use Rattle.j39_id.specs.Ident.{pgn_of}
use Rattle.j39_id.specs.Pgn.{is_pdu2, pf_of}
use Rattle.j39_id.specs.declared.ident.Ident.{Ident}

-- the PF of a frame's group is that of the frame
pf_kept : (i : Ident) → pf_of (pgn_of i) ≡ i.pf
pf_kept i =
    let pf = i.pf_range in
    let ps = i.ps_range in
    elim (cases_Bool (nat_le 240 i.pf)) [
      | inl high ↦ rw high (omega (arith, pf, ps))
      | inr low ↦ rw low (omega (arith, pf))
    ]

pub pdu2_kept : (i : Ident) → is_pdu2 (pgn_of i) ≡ nat_le 240 i.pf
pdu2_kept i = rw (pf_kept i) refl
