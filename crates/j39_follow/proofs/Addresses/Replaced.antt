-- Addresses that another NAME comes to hold.
use Rattle.std.proofs.Common.{◌≡◌, ◌≢◌, ℕ, true, false, List, Some, None, inl, inr, refl, sym, ap, subst, ◌∙◌}
use Rattle.std.proofs.lemmas.Option.{none-some, same_Some}
use Rattle.std.proofs.lemmas.Bool.{true≢false}
use Rattle.j39_id.specs.FrameMeaning.{claims_address, name_in}
use Rattle.j39_id.specs.declared.frame.Frame.{Frame}
use Rattle.j39_follow.specs.Holders.{Claims, HoldsByFrames, IsHolder}
use Rattle.j39_follow.specs.Who.{IsReplaced}
use Rattle.j39_follow.specs.inside.Hearing.{AreReplaced}
use Rattle.j39_follow.proofs.Addresses.HolderLaws.{same_name}
use Rattle.j39_follow.proofs.Addresses.Holding.{held_by, holds_new}
use Rattle.j39_follow.proofs.Addresses.Recounts.{HoldsNothing, held_before}

-- the frame claims each such address
claimed : (frames : List Frame) (f : Frame) (a : ℕ) (r : IsReplaced frames f a) → Claims f r.new a
claimed frames f a r = elim (held_by frames f r.new a r.new_holds) [
  | inl claim ↦ claim
  | inr kept ↦ absurd (r.another (same_name frames a r.old r.new r.old_holds kept.0))
]

-- no address where no NAME held that of the frame
pub none_holds : (frames : List Frame) (f : Frame) → IsHolder frames f.ident.sa None → AreReplaced frames f None
none_holds frames f none = record {
  one = λ a e. absurd (none-some a e);
  only = λ a r.
      let claim = claimed frames f a r in
      absurd (none r.old (subst (HoldsByFrames frames r.old) (sym claim.source_is) r.old_holds));
}

-- none where the frame claims none
pub none_claims : (frames : List Frame) (f : Frame) → claims_address f ≡ false → AreReplaced frames f None
none_claims frames f without = record {
  one = λ a e. absurd (none-some a e);
  only = λ a r. let claim = claimed frames f a r in absurd (true≢false (sym claim.claim ∙ without));
}

-- none where the NAME that claims the address holds it
pub one_holds : (frames : List Frame) (f : Frame) (holder : ℕ) → claims_address f ≡ true → IsHolder frames f.ident.sa (Some holder)
    → name_in f ≡ holder → AreReplaced frames f None
one_holds frames f holder claims holds same = record {
  one = λ a e. absurd (none-some a e);
  only = λ a r.
      let claim = claimed frames f a r in
      let here = subst (HoldsByFrames frames r.old) (sym claim.source_is) r.old_holds in
      absurd (r.another (same_name frames f.ident.sa r.old holder here holds ∙ sym same ∙ claim.name_is));
}

-- else the one that it claims
pub another_holds : (frames : List Frame) (f : Frame) (holder : ℕ) → claims_address f ≡ true → IsHolder frames f.ident.sa (Some holder)
    → name_in f ≢ holder → AreReplaced frames f (Some f.ident.sa)
another_holds frames f holder claims holds other = record {
  one = λ a e.
      let here : f.ident.sa ≡ a = same_Some f.ident.sa a e in
      subst (IsReplaced frames f) here (record {
        old = holder;
        new = name_in f;
        old_holds = holds;
        new_holds = holds_new frames f (name_in f) f.ident.sa (record { claim = claims; name_is = refl; source_is = refl });
        another = λ same. other (sym same);
      });
  only = λ a r. ap Some (claimed frames f a r).source_is;
}

-- none at a frame that reports of no NAME
pub none_stated : (frames : List Frame) (f : Frame) → HoldsNothing f → AreReplaced frames f None
none_stated frames f silent = record {
  one = λ a e. absurd (none-some a e);
  only = λ a r. absurd (r.another (same_name frames a r.old r.new r.old_holds (held_before frames f r.new a silent r.new_holds)));
}
