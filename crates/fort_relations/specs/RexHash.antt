-- To believe: a hasher is fed the place of an expression's node, and then its operands from left to right, or a root step's index.
use Rattle.std.specs.Prelude.{◌++◌}
use Rattle.std.specs.Hash as fed
use Rattle.fort_theory.specs.Expressions.{Expression, RootSteps, Inverse, Union, Composition, Closure}

abbrev pub expression_hash : Expression → fed.HashWrites
expression_hash (RootSteps index) = fed.u8 0 ++ fed.u32 index
expression_hash (Inverse e) = fed.u8 1 ++ expression_hash e
expression_hash (Union a b) = fed.u8 2 ++ (expression_hash a ++ expression_hash b)
expression_hash (Composition a b) = fed.u8 3 ++ (expression_hash a ++ expression_hash b)
expression_hash (Closure e) = fed.u8 4 ++ expression_hash e
