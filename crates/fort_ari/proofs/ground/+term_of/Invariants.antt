use Rattle.std.proofs.Common.{◌≡◌, List, Some, length}
use Rattle.fort_grammar.specs.Forms.{Form}
use Rattle.fort_grammar.specs.Declarations.{elements_of}
use Rattle.fort_sexpr.specs.FormCode.{node_count}
use Rattle.fort_ari.specs.Grounds.{AreArguments}
use Rattle.fort_ari.proofs.Rests.{IsLeftAt}
use Rattle.fort_ari.proofs.ground.+term_of.Given as goal

abbrev pub decreases-term_of : goal.decreases-term_of
decreases-term_of l = node_count l.form.now.form

abbrev pub invariant-kids : goal.invariant-kids
invariant-kids l =
    ((es : List Form) → elements_of l.fn.form.form ≡ Some es → IsLeftAt (λ i. AreArguments l.fn.form.bytes l.signature es i l.kids.items) es l.rest.forms)
    × (l.rest.bytes ≡ l.fn.form.bytes)

abbrev pub decreases-kids : goal.decreases-kids
decreases-kids l = length l.rest.forms
