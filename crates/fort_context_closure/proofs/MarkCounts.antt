-- How many marks an atom has.
use Rattle.std.specs.Prelude.{◌≡◌, ◌+◌, List, ◌++◌, map, length}
use Rattle.std.proofs.Common.{arith}
use Rattle.std.proofs.lemmas.List.{length-map, length-append}
use Rattle.fort_alike.specs.Alike.{facts_of}
use Rattle.fort_alike.specs.ListedAtoms.{Mark, OfFirst, OfSecond, OfBoth, ListedAtom}
use Rattle.fort_alike.specs.AtomRules.{marks_of}

pub length-marks_of : (a : ListedAtom) → length (marks_of a) ≡ length a.lefts + length a.rights + length (facts_of a.atom.kind)
length-marks_of a =
    let zs : List Mark = map OfBoth (facts_of a.atom.kind) in
    omega (
      arith,
      length-append (map OfFirst a.lefts) (map OfSecond a.rights ++ zs),
      length-append (map OfSecond a.rights) zs,
      length-map a.lefts OfFirst,
      length-map a.rights OfSecond,
      length-map (facts_of a.atom.kind) OfBoth,
    )
