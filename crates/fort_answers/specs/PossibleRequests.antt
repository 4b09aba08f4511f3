-- Inside: what each request keeps that words make: the size of a made problem is in range, for solutions how many are wanted, for a family how many rules its systems have, and how high the sides of its rules may be at most; the cap on states of solutions is at most 1,000,000. That they keep it is proved.
use Rattle.std.specs.Prelude.{ℕ, ◌≤◌, Option, Some, None}
use Rattle.fort_answers.specs.Requests.{Options, Bounds, Family, Request, Decide, Witness, Check, Sample, Solutions, Confirm, Synth}

pub record IsSampleSize (n : ℕ) : Type 0 where
  pub low : 1 ≤ n
  pub high : n ≤ 64

pub record AreBoundsInRange (options : Options) (bounds : Bounds) : Type 0 where
  pub states : options.states ≤ 1000000
  pub some : 1 ≤ bounds.most
  pub few : bounds.most ≤ 1000

pub record IsFamilyInRange (family : Family) : Type 0 where
  pub some : 1 ≤ family.count
  pub few : family.count ≤ 4
  pub flat : family.height ≤ 2

abbrev pub CanBeAsked : Request → Type 0
CanBeAsked (Decide options certificate formula) = Unit {0}
CanBeAsked (Witness options certificate formula) = Unit {0}
CanBeAsked (Check formula) = Unit {0}
CanBeAsked (Sample n) = IsSampleSize n
CanBeAsked (Solutions options bounds formula) = AreBoundsInRange options bounds
CanBeAsked (Confirm formula) = Unit {0}
CanBeAsked (Synth options family formula) = IsFamilyInRange family

-- the words ask nothing, or what can be asked
abbrev pub IsPossible : Option Request → Type 0
IsPossible None = Unit {0}
IsPossible (Some request) = CanBeAsked request
