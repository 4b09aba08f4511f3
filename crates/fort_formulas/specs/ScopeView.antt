-- Inside: a scope of the program as a list of names.
use Rattle.std.specs.Prelude.{List, ◌∷◌, reverse}
use Rattle.fort_logic.specs.Formulas as theory
use Rattle.fort_formulas.specs.declared.scope.Scope.{Scope, Free, Bound'}

-- the names, the innermost first
abbrev pub as_scope : Scope → List theory.Name
as_scope (Free names) = reverse names.now
as_scope (Bound' name at outer) = name.now ∷ as_scope outer
