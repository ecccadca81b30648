-- Streams that ask no more of a bus than others do, and what fits among them.
use Rattle.std.specs.Prelude.{ℕ, ◌<◌, ◌≤◌, List, Option, Some, None}
use Rattle.j39_timing.specs.Waits.{Demand, NoShorterFits, askers_want, demand_of, need}
use Rattle.j39_timing.specs.declared.stream.Stream.{Stream}
use Rattle.j39_timing.specs.declared.wants.Want.{Want}
use Rattle.j39_part_laws.specs.Sublists.{IsSub}

-- the first has no more frames, none longer, none more often, and none later
pub record IsNoMore (x y : Stream) : Type 0 where
  pub frames : x.frames ≤ y.frames
  pub bits : x.bits ≤ y.bits
  pub positive : 0 < y.period
  pub period : y.period ≤ x.period
  pub jitter : x.jitter ≤ y.jitter

pub record WantsNoMore (x y : Want) : Type 0 where
  pub frames : x.frames ≤ y.frames
  pub positive : 0 < y.period
  pub period : y.period ≤ x.period
  pub jitter : x.jitter ≤ y.jitter
  pub more : x.more ≤ y.more

pub record DemandsNoMore (d e : Demand) : Type 0 where
  pub under_way : d.under_way ≤ e.under_way
  pub wants : IsSub WantsNoMore d.wants e.wants

abbrev pub IsWantedNoMore : Option Demand → Option Demand → Type 0
IsWantedNoMore d None = Unit {0}
IsWantedNoMore None (Some e) = ⊥
IsWantedNoMore (Some d) (Some e) = DemandsNoMore d e

-- nobody asks for the messages of the first, or as many do for those of the second: where these come as they are asked for, the second wants as many in
-- each time as the first has at its pace
abbrev pub IsAskedNoMore : Stream → Option Want → Option Want → Type 0
IsAskedNoMore x None None = Unit {0}
IsAskedNoMore x None (Some w) = (x.frames ≤ w.frames) × (0 < w.period) × (w.period ≤ x.period)
IsAskedNoMore x (Some w) None = ⊥
IsAskedNoMore x (Some w) (Some z) = WantsNoMore w z

-- with what is wanted of each
pub record AsksNoMore (ds es : List Demand) (x y : Stream) : Type 0 where
  pub stream : IsNoMore x y
  pub wanted : IsWantedNoMore (demand_of ds x) (demand_of es y)
  pub asked : IsAskedNoMore x (askers_want x) (askers_want y)

-- no wait needs more room, and none that is least is longer than one that has room among the others
pub record WaitNoLonger (ds es : List Demand) (a b : ℕ) (xs ys : List Stream) : Type 0 where
  pub needs : (w : ℕ) → need ds a xs w ≤ need es b ys w
  pub least : (v w : ℕ) → NoShorterFits ds a xs v → need es b ys w ≤ w → v ≤ w

-- so it is of streams that ask no more than some of the others, behind what is blocking no longer
abbrev pub AreBounded : Type 0
AreBounded = (ds es : List Demand) (a b : ℕ) (xs ys : List Stream) → a ≤ b → IsSub (AsksNoMore ds es) xs ys → WaitNoLonger ds es a b xs ys
