use Rattle.std.proofs.Common.{◌≡◌, List, Some, length}
use Rattle.fort_grammar.specs.Forms.{Form}
use Rattle.fort_grammar.specs.Declarations.{elements_of}
use Rattle.std.specs.Prelude.{map}
use Rattle.fort_sexpr.specs.FormCode.{node_count}
use Rattle.fort_ari.specs.SideForms.{ReadsUpTo}
use Rattle.fort_ari.proofs.Rests.{IsLeftAt}
use Rattle.fort_ari.proofs.side.+side_of.Given as goal

abbrev pub decreases-side_of : goal.decreases-side_of
decreases-side_of l = node_count l.form.now.form

abbrev pub invariant-arguments : goal.invariant-arguments
invariant-arguments l =
    ((es : List Form) → elements_of l.fn.form.form ≡ Some es
    → IsLeftAt
    (λ i. ReadsUpTo l.fn.form.bytes l.signature es i (map (λ name. name.now) l.fn.names.items) (map (λ name. name.now) l.names.items) l.args.items)
    es l.rest.forms)
    × (l.rest.bytes ≡ l.fn.form.bytes)

abbrev pub decreases-arguments : goal.decreases-arguments
decreases-arguments l = length l.rest.forms
