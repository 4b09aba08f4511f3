-- To believe: a hasher is fed the place of a core formula's node, and then its parts from left to right: an index or a context before the numbers, a term or an expression after them.
use Rattle.std.specs.Prelude.{◌++◌}
use Rattle.std.specs.Hash as fed
use Rattle.fort_theory.specs.Cores.{Core, True, Leaf, Related, InContext, Normal, IsTerm, Not, Binary, Exists, Infinite}
use Rattle.fort_terms.specs.TermKeys.{tree_hash}
use Rattle.fort_relations.specs.HolesCode.{hole_number_code, hole_place_code}
use Rattle.fort_relations.specs.RexHash.{expression_hash}
use Rattle.fort_formulas.specs.CoreCode.{rel_place, connective_place}

abbrev pub core_hash : Core → fed.HashWrites
core_hash True = fed.u8 0
core_hash (Leaf (Related rel index x y)) = fed.u8 1 ++ (fed.u64 (rel_place rel) ++ (fed.u32 index ++ (fed.u32 x ++ fed.u32 y)))
core_hash (Leaf (InContext e number place x y)) =
    fed.u8 2 ++ (fed.u64 (hole_number_code number) ++ (fed.u64 (hole_place_code place) ++ (fed.u32 x ++ (fed.u32 y ++ expression_hash e))))
core_hash (Leaf (Normal index x)) = fed.u8 3 ++ (fed.u32 index ++ fed.u32 x)
core_hash (Leaf (IsTerm x t)) = fed.u8 4 ++ (fed.u32 x ++ tree_hash t)
core_hash (Not f) = fed.u8 5 ++ core_hash f
core_hash (Binary op f g) = fed.u8 (connective_place op) ++ (core_hash f ++ core_hash g)
core_hash (Exists n f) = fed.u8 9 ++ (fed.u32 n ++ core_hash f)
core_hash (Infinite n f) = fed.u8 10 ++ (fed.u32 n ++ core_hash f)
