-- Two identifiers of one number are the same.
use Rattle.std.proofs.Common.{◌≡◌, ◌<◌, arith}
use denote.Struct.Props.{props}
use mathlib.Core.HLevel.{is_prop→PathP}
use Rattle.j39_id.specs.Ident.{bits}
use Rattle.j39_id.specs.declared.frame.Frame.{Frame}
use Rattle.j39_id.specs.declared.ident.Ident.{Ident}

pub same_bits : (i j : Ident) → bits i ≡ bits j
    → (i.priority ≡ j.priority) × (i.edp ≡ j.edp) × (i.dp ≡ j.dp) × (i.pf ≡ j.pf) × (i.ps ≡ j.ps) × (i.sa ≡ j.sa)
same_bits i j h =
    let a = i.priority_range in let b = i.edp_range in let c = i.dp_range in let d = i.pf_range in let e = i.ps_range in let f = i.sa_range in
    let a' = j.priority_range in let b' = j.edp_range in let c' = j.dp_range in let d' = j.pf_range in let e' = j.ps_range in let f' = j.sa_range in
    (omega arith, omega arith, omega arith, omega arith, omega arith, omega arith)

pub same_ident : (i j : Ident) → bits i ≡ bits j → i ≡ j
same_ident i j h =
    let s = same_bits i j h in
    λ k. record {
      priority = s.0 k;
      edp = s.1 k;
      dp = s.2 k;
      pf = s.3 k;
      ps = s.4 k;
      sa = s.5 k;
      priority_range = is_prop→PathP (λ k. s.0 k < 8) (λ k. hlevel props) i.priority_range j.priority_range k;
      edp_range = is_prop→PathP (λ k. s.1 k < 2) (λ k. hlevel props) i.edp_range j.edp_range k;
      dp_range = is_prop→PathP (λ k. s.2 k < 2) (λ k. hlevel props) i.dp_range j.dp_range k;
      pf_range = is_prop→PathP (λ k. s.3 k < 256) (λ k. hlevel props) i.pf_range j.pf_range k;
      ps_range = is_prop→PathP (λ k. s.4 k < 256) (λ k. hlevel props) i.ps_range j.ps_range k;
      sa_range = is_prop→PathP (λ k. s.5 k < 256) (λ k. hlevel props) i.sa_range j.sa_range k;
    }

pub same_frame : (f g : Frame) → bits f.ident ≡ bits g.ident → f.payload.items ≡ g.payload.items → f ≡ g
same_frame f g h p =
    let e = same_ident f.ident g.ident h in
    λ k. record { ident = e k; payload = record { items = p k } }
