-- To believe: the formulas that a user can write, as trees with names for variables; relations, NF, JOIN, SN and properties have the index of the rules that they are about, an expression those of its root steps.
use Rattle.std.specs.Prelude.{ℕ, List, Option}
use Rattle.fort_theory.specs.Expressions.{Expression}
use Rattle.fort_theory.specs.Contexts.{HoleNumber, HolePlace}

-- a variable's name, as bytes
abbrev pub Name : Type 0
Name = List ℕ

-- x = y, x -> y, x ->* y, x ->+ y, x ->= y, x ->! y, x ->^ y, x ->_ y, x -||-> y, x <-> y, x <->* y
pub data SurfaceRel : Type 0 where
  Eq : SurfaceRel
  Step : SurfaceRel
  Star : SurfaceRel
  Plus : SurfaceRel
  Reflexive : SurfaceRel
  Normal : SurfaceRel
  Root : SurfaceRel
  Below : SurfaceRel
  Par : SurfaceRel
  Either : SurfaceRel
  Conv : SurfaceRel

-- confluence; local confluence; strong confluence; normalisation; unique normal forms by reduction and by conversion;
-- the normal form property
pub data Property : Type 0 where
  Cr : Property
  Wcr : Property
  Scr : Property
  Wn : Property
  Unr : Property
  Unc : Property
  Nfp : Property

-- what relations speak of: a variable, or a ground term that is written out; a formula names that by its place, counted
-- from 0, among all ground terms that are written in it
pub data Argument : Type 0 where
  Var : Name → Argument
  Ground : (place : ℕ) → Argument

-- InContext: by an expression, in a context with so many holes at such places. Sn says that the argument terminates, and with
-- no argument that every ground term does; Com that the rules of index 1 and those of index 2 commute
pub data Formula : Type 0 where
  True : Formula
  False : Formula
  Related : SurfaceRel → Argument → Argument → (index : ℕ) → Formula
  InContext : Expression → HoleNumber → HolePlace → Argument → Argument → Formula
  Nf : Argument → (index : ℕ) → Formula
  Join : Argument → Argument → (index : ℕ) → Formula
  Sn : Option Argument → (index : ℕ) → Formula
  Has : Property → (index : ℕ) → Formula
  Com : Formula
  Not : Formula → Formula
  And : Formula → Formula → Formula
  Or : Formula → Formula → Formula
  Imp : Formula → Formula → Formula
  Iff : Formula → Formula → Formula
  Exists : Name → Formula → Formula
  Forall : Name → Formula → Formula
  Infinite : Name → Formula → Formula
