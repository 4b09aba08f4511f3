use Rattle.std.proofs.Common.{◌≡◌, List, Some, length}
use Rattle.fort_grammar.specs.Forms.{Form}
use Rattle.fort_grammar.specs.Declarations.{elements_of}
use Rattle.fort_sexpr.specs.FormCode.{node_count}
use Rattle.fort_ari.specs.SideForms.{AreRightUpTo}
use Rattle.fort_ari.proofs.Rests.{IsLeftAt}
use Rattle.fort_ari.proofs.side.+check_side.Given as goal

abbrev pub decreases-check_side : goal.decreases-check_side
decreases-check_side l = node_count l.form.now.form

abbrev pub invariant-arguments : goal.invariant-arguments
invariant-arguments l =
    ((es : List Form) → elements_of l.fn.form.form ≡ Some es → IsLeftAt (λ i. AreRightUpTo l.fn.form.bytes l.signature es i) es l.rest.forms)
    × (l.rest.bytes ≡ l.fn.form.bytes)

abbrev pub decreases-arguments : goal.decreases-arguments
decreases-arguments l = length l.rest.forms
