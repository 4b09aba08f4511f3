-- Inside: what the fields of the bits of normal forms stand for.
use Rattle.std.specs.Prelude.{◌<◌, ◌^◌, List, [], map, length}
use Rattle.fort_theory.specs.Patterns.{Pattern}
use Rattle.fort_terms.specs.PatternView.{as_pattern}
use Rattle.fort_alike.specs.Atoms.{NfKind}
use Rattle.fort_alike.specs.ListedAtoms.{ListedAtom, listed}
use Rattle.fort_alike.specs.AtomRules.{marks_of}
use Rattle.fort_alike.proofs.BitPlaces.{NoneTwice}
use Rattle.fort_label_bits.specs.NumberedView.{AreNumbersOf}
use Rattle.fort_context_closure.specs.SidePlaces.{side_at, AreSidesWithin}
use Rattle.fort_context_closure.specs.declared.normal.NormalBits.TheInside.{Inside}

abbrev pub normal_patterns : Inside → List Pattern
normal_patterns b = map as_pattern b.patterns.items

abbrev pub normal_seen : Inside → ListedAtom
normal_seen b = listed (record {
  signature = [];
  columns = 1;
  first = 0;
  second = 0;
  kind = NfKind;
  pairs = map (side_at (normal_patterns b)) b.sides.items;
}) (normal_patterns b) []

pub record IsNormalBits (b : Inside) : Type 0 where
  pub numbers : AreNumbersOf (normal_patterns b) b.lefts.items
  pub few : length b.patterns.items < 2 ^ 32
  pub within : AreSidesWithin (normal_patterns b) b.sides.items
  pub once : NoneTwice (marks_of (normal_seen b))
