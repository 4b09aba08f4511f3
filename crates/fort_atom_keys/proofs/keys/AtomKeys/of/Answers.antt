use Rattle.std.proofs.Common.{sym, ap, subst, ◌∙◌}
use Rattle.fort_alike.specs.Subterms.{subterms}
use Rattle.fort_context_closure.specs.declared.atom_labels.AtomLabels.{AtomLabels}
use Rattle.fort_atom_keys.specs.declared.keys.AtomKeys.{AtomKeys}
use Rattle.fort_atom_keys.specs.declared.keys.AtomKeys.TheVariants.{Marks, Whole, Term}
use Rattle.fort_atom_keys.proofs.AtomLabelKeys.{AreKeysOf, GoesByEachKey-keys, words-keys}
use Rattle.fort_atom_keys.proofs.keys.AtomKeys.of.Goals as goal

pub returns-in-Relation : goal.returns-in-Relation
returns-in-Relation c =
    let k : AtomKeys = Marks c.relation_keys.result in
    let own : AreKeysOf c.args.labels.now k = subst (λ (l : AtomLabels). AreKeysOf l k) (sym c.in-Relation.is) c.relation_keys.ensures in
    record { goes = λ sig. GoesByEachKey-keys sig c.args.labels.now k own; width = words-keys c.args.labels.now k own }

pub returns-in-Expression : goal.returns-in-Expression
returns-in-Expression c =
    let k : AtomKeys = Whole (record { width = c.width-width.result }) in
    let own : AreKeysOf c.args.labels.now k = subst (λ (l : AtomLabels). AreKeysOf l k) (sym c.in-Expression.is) c.width-width.ensures in
    record { goes = λ sig. GoesByEachKey-keys sig c.args.labels.now k own; width = words-keys c.args.labels.now k own }

pub returns-in-Normal : goal.returns-in-Normal
returns-in-Normal c =
    let k : AtomKeys = Marks c.normal_keys.result in
    let own : AreKeysOf c.args.labels.now k = subst (λ (l : AtomLabels). AreKeysOf l k) (sym c.in-Normal.is) c.normal_keys.ensures in
    record { goes = λ sig. GoesByEachKey-keys sig c.args.labels.now k own; width = words-keys c.args.labels.now k own }

pub returns-in_ok-new-in-Is : goal.returns-in_ok-new-in-Is
returns-in_ok-new-in-Is c =
    let k : AtomKeys = Term c.in_ok-new-in-Is.field-0 in
    let own : AreKeysOf c.args.labels.now k =
    subst (λ (l : AtomLabels). AreKeysOf l k) (sym c.in-Is.is) (c.in_ok-new-in-Is.ensures ∙ ap subterms c.term.ensures) in
    record { goes = λ sig. GoesByEachKey-keys sig c.args.labels.now k own; width = words-keys c.args.labels.now k own }
