-- What several calls note, one after another.
use Rattle.std.proofs.Common.{◌≡◌, ℕ, ◌+◌, ◌++◌, ◌∷◌, [], List, Bool, true, false, Some, cond, refl, sym, ap, ◌∙◌, subst, append_assoc}
use Rattle.std.proofs.lemmas.List.{append-nil}
use Rattle.j39_audit.specs.Counting.{Noted}
use Rattle.std.specs.List.{slice_get}
use Rattle.j39_audit.specs.Below.{each_below}
use Rattle.j39_audit.specs.SentMessages.{marked, noted_at}
use Rattle.j39_audit.specs.MessageStreams.{sighted_as, sighted_behind}
use Rattle.j39_audit.specs.Pauses.{unclear_as, unclear_behind}
use Rattle.j39_audit.specs.declared.mark.Word.{Word}
use Rattle.j39_audit.specs.declared.tally.MarkTally.{MarkTally}
use Rattle.j39_audit.specs.declared.tally.Sighting.{Sighting}
use Rattle.j39_audit.specs.inside.Recalling.{AreCounted, Notes}
use Rattle.j39_audit.proofs.Below.{each_more, each_none}

-- what is sighted by two lists
sighted_both : (w : Sighting) (xs ys : List Noted) → sighted_behind w (xs ++ ys) ≡ sighted_behind (sighted_behind w xs) ys
sighted_both w [] ys = refl
sighted_both w (n ∷ xs) ys = sighted_both (sighted_as n.mark.word n.mark.subject n.mark.group w) xs ys

-- and what is unclear
unclear_both : (ns : List ℕ) (xs ys : List Noted) → unclear_behind ns (xs ++ ys) ≡ unclear_behind (unclear_behind ns xs) ys
unclear_both ns [] ys = refl
unclear_both ns (n ∷ xs) ys = unclear_both (unclear_as n.mark.word n.mark.subject ns) xs ys

unclear_none : (ns : List ℕ) → ns ≡ unclear_behind ns []
unclear_none ns = refl

-- nothing
sighted_none : (w : Sighting) → w ≡ sighted_behind w []
sighted_none w = refl

pub notes_none : (tally : MarkTally) → Notes tally tally []
notes_none tally = record {
  counts = λ noted counted. subst (AreCounted tally) (sym (append-nil noted)) counted;
  sights = sighted_none tally.sighting;
  unclear = unclear_none tally.unclear.items;
}

-- two lists
pub notes_both : {a b c : MarkTally} {xs ys : List Noted} → Notes a b xs → Notes b c ys → Notes a c (xs ++ ys)
notes_both {a = a} {b = b} {c = c} {xs = xs} {ys = ys} first second = record {
  counts = λ noted counted. subst (AreCounted c) (append_assoc noted xs ys) (second.counts (noted ++ xs) (first.counts noted counted));
  sights = second.sights ∙ ap (λ (w : Sighting). sighted_behind w ys) first.sights ∙ sym (sighted_both a.sighting xs ys);
  unclear = second.unclear ∙ ap (λ (ns : List ℕ). unclear_behind ns ys) first.unclear ∙ sym (unclear_both a.unclear.items xs ys);
}

-- those of the places below a number: of none, with one more, and with one more of which nothing is noted
pub notes_none_below : (tally : MarkTally) (list : ℕ → List Noted) → Notes tally tally (each_below list 0)
notes_none_below tally list = subst (Notes tally tally) (sym (each_none list)) (notes_none tally)

pub notes_more : {a b c : MarkTally} (list : ℕ → List Noted) (n : ℕ) → Notes a b (each_below list n) → Notes b c (list n)
    → Notes a c (each_below list (n + 1))
notes_more {a = a} {c = c} list n before here = subst (Notes a c) (sym (each_more list n)) (notes_both before here)

-- what is noted where a test passes
pub notes_if : {a b : MarkTally} (n : Noted) (test : Bool) → test ≡ true → Notes a b (n ∷ []) → Notes a b (cond test (n ∷ []) [])
notes_if {a = a} {b = b} n test is notes = subst (λ (t : Bool). Notes a b (cond t (n ∷ []) [])) (sym is) notes

pub notes_not : (a : MarkTally) (n : Noted) (test : Bool) → test ≡ false → Notes a a (cond test (n ∷ []) [])
notes_not a n test is = subst (λ (t : Bool). Notes a a (cond t (n ∷ []) [])) (sym is) (notes_none a)

-- ---- a list of which an element passes

module _ {X : Type 0} (line : ℕ) (word : Word) (test : X → Bool) (all : List X) (n : ℕ) (x : X) (at : slice_get all n ≡ Some x) where
  pub marked_here : test x ≡ true → marked line word test all n ≡ noted_at line word n 0 ∷ []
  marked_here is = rw (at, is) refl

  pub marked_not : test x ≡ false → marked line word test all n ≡ []
  marked_not is = rw (at, is) refl
