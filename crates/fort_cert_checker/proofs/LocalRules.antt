-- The rules by the labels that the program makes are those that a part is to have, and those of an expression tell what it is to tell.
use Rattle.std.specs.Prelude.{◌≡◌, ℕ, List, map, refl}
use Rattle.std.proofs.Common.{sym, ap, ◌∙◌}
use Rattle.std.proofs.lemmas.Simd.{map-map}
use Rattle.fort_theory.specs.Signatures.{Signature}
use Rattle.fort_theory.specs.Sides.{at_index}
use Rattle.fort_theory.specs.Patterns.{Pattern, Pair, PatternSystem}
use Rattle.fort_theory.specs.Expressions as expressions
use Rattle.fort_theory.specs.Contexts.{HoleNumber, HolePlace}
use Rattle.fort_theory.specs.Cores.{Rel, Leaf, Related, InContext}
use Rattle.fort_alike.specs.Atoms as kinds
use Rattle.fort_alike.specs.Atoms.{relation_atom}
use Rattle.fort_alike.specs.ExpressionAlike.{expression_atom}
use Rattle.fort_alike.specs.ListedAtoms.{ListedAtom, listed}
use Rattle.fort_alike.specs.AtomRules.{atom_rule, atom_accepts}
use Rattle.fort_alike.specs.ClosureTests.{closure_test}
use Rattle.fort_alike.proofs.LabelMeans.{IsLabelRule-expression}
use Rattle.fort_relation_exprs.specs.RexSeen.{RexSeen, states_of}
use Rattle.fort_relation_exprs.specs.RexView.{AreRexLabels}
use Rattle.fort_context_closure.specs.ClosedAtoms as closures
use Rattle.fort_context_closure.specs.ClosedAtoms.{ClosedAtom}
use Rattle.fort_context_closure.specs.PlainAtoms.{no_closure, signed, IsByPairs, IsNormalAtomOf}
use Rattle.fort_context_closure.specs.declared.atom_labels.AtomLabels.TheVariants.{Relation, Expression, Normal}
use Rattle.fort_context_closure.proofs.NormalLaws.{normal, normal-step}
use Rattle.fort_parts.specs.PartColumns.{columns_of}
use Rattle.fort_parts.proofs.PartColumnLaws.{AreColumns-columns_of}
use Rattle.fort_alike.specs.ListedClosures.{Pair as Item}
use Rattle.fort_findings.specs.declared.closure.ClosureEntry.{ClosureEntry}
use Rattle.fort_findings.specs.FindingView.{as_pair}
use Rattle.fort_certificate_theory.specs.ClosureSteps.{numbers_of}
use Rattle.fort_certificate_theory.specs.PartRules.{Local, relation_local, normal_local, IsExpressionLocal}
use Rattle.fort_certificate_theory.proofs.RuleLaws.{IsExpressionLocal-decided}
use Rattle.fort_cert_checker.specs.AtomPlans as own

abbrev normal_by : Signature → List Pair → List Pattern → Local
normal_by sig pairs lefts = record { rule = atom_rule (normal sig pairs lefts) no_closure; accepting = atom_accepts (normal sig pairs lefts) }

-- Result
pub relation_local_is : (system : PatternSystem) (rel : Rel) (index x y : ℕ) (pairs : List ClosureEntry) (items : List Item) (c : ClosedAtom)
    → IsByPairs system rel index x y pairs c → map as_pair pairs ≡ items
    → own.atom_local system (Relation c) ≡ relation_local system rel index x y c.atom.lefts c.atom.rights items
relation_local_is system rel index x y pairs items c h e =
    let sig = system.signature in
    let f = Leaf (Related rel index x y) in
    let lefts = c.atom.lefts in
    let rights = c.atom.rights in
    let here : signed sig c.atom ≡ listed (relation_atom system rel index x y (columns_of f)) lefts rights =
    ap (λ (a : kinds.Atom). signed sig (listed a lefts rights)) (h.rules.same index (columns_of f) (AreColumns-columns_of f)) in
    let numbers : closures.numbers_of c.entries ≡ numbers_of items =
    ap closures.numbers_of h.entries_are ∙ (sym (map-map (λ (i : Item). (i.p, i.q)) as_pair pairs) ∙ ap numbers_of e) in
    λ i. record { rule = atom_rule (here i) (closure_test rights lefts (numbers i)); accepting = atom_accepts (here i) }

-- Result: what the labels of an expression's atom tell
pub expression_local_is : (system : PatternSystem) (e : expressions.Expression) (number : HoleNumber) (place : HolePlace) (x y : ℕ) (l : RexSeen)
    → AreRexLabels system e number place x y l
    → IsExpressionLocal (expression_atom system e number place x y (columns_of (Leaf (InContext e number place x y)))) (own.atom_local system (Expression l))
expression_local_is system e number place x y l h =
    let f = Leaf (InContext e number place x y) in
    let over = h.over (columns_of f) (AreColumns-columns_of f) in
    IsExpressionLocal-decided (expression_atom system e number place x y (columns_of f)) (own.atom_local system (Expression l))
    (IsLabelRule-expression system.signature l.shape (states_of l) h.arguments) refl over.count over.alike over.accepted

-- Result
pub normal_local_is : (system : PatternSystem) (index : ℕ) (a : ListedAtom) → IsNormalAtomOf system index a
    → own.atom_local system (Normal a) ≡ normal_local system index a.lefts
normal_local_is system index a h =
    let sig = system.signature in
    let pairs = at_index index system.rules in
    let seen : own.atom_local system (Normal a) ≡ normal_by sig a.atom.pairs a.lefts =
    ap (λ (b : ListedAtom). own.atom_local system (Normal b)) h.same in
    seen ∙ (λ i. record {
      rule = record { signature = sig; columns = 1; step = λ f ws. normal-step sig sig a.atom.pairs pairs a.lefts h.left_sides f ws i };
      accepting = atom_accepts (normal sig pairs a.lefts);
    })
