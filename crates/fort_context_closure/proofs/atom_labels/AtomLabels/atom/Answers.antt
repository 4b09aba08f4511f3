use Rattle.fort_relations.specs.RelView.{as_rel}
use Rattle.std.proofs.Common.{ap}
use Rattle.fort_alike.specs.Atoms.{Atom, relation_atom}
use Rattle.fort_context_closure.proofs.MakerLaws.{relation-passed}
use Rattle.fort_context_closure.proofs.AtomLabelsLaws.{TellsAlike-relation, AcceptsTrue-relation, AcceptsRelated-relation, AcceptsMet-relation}
use Rattle.fort_context_closure.proofs.atom_labels.AtomLabels.atom.Goals as goal

pub returns-clause-columns : goal.returns-clause-columns
returns-clause-columns c columns are =
    let a = c.args in
    let made =
    relation-passed a.system.now c.signature-lawful.ensures.lawful (as_rel a.rel) a.index a.x a.y a.closure.now c.in_ok-by_pairs.field-0 c.in_ok-by_pairs.ensures c.requires.passes
    in
    ap (λ (z : Atom). z.columns) (made columns are).0.same

pub returns-clause-alike : goal.returns-clause-alike
returns-clause-alike c columns are =
    let a = c.args in
    let made =
    relation-passed a.system.now c.signature-lawful.ensures.lawful (as_rel a.rel) a.index a.x a.y a.closure.now c.in_ok-by_pairs.field-0 c.in_ok-by_pairs.ensures c.requires.passes
    columns are in
    TellsAlike-relation (relation_atom a.system.now (as_rel a.rel) a.index a.x a.y columns) c.in_ok-by_pairs.field-0 made.0 made.1

pub returns-clause-accepted : goal.returns-clause-accepted
returns-clause-accepted c columns are =
    let a = c.args in
    let made =
    relation-passed a.system.now c.signature-lawful.ensures.lawful (as_rel a.rel) a.index a.x a.y a.closure.now c.in_ok-by_pairs.field-0 c.in_ok-by_pairs.ensures c.requires.passes
    columns are in
    AcceptsTrue-relation (relation_atom a.system.now (as_rel a.rel) a.index a.x a.y columns) c.in_ok-by_pairs.field-0 made.0 made.1

pub returns-clause-related : goal.returns-clause-related
returns-clause-related c columns are =
    let a = c.args in
    let made =
    relation-passed a.system.now c.signature-lawful.ensures.lawful (as_rel a.rel) a.index a.x a.y a.closure.now c.in_ok-by_pairs.field-0 c.in_ok-by_pairs.ensures c.requires.passes
    in
    AcceptsRelated-relation a.system.now (as_rel a.rel) a.index a.x a.y columns are c.in_ok-by_pairs.field-0 made

pub returns-clause-truth : goal.returns-clause-truth
returns-clause-truth c s columns same apart are =
    let a = c.args in
    let made =
    relation-passed a.system.now c.signature-lawful.ensures.lawful (as_rel a.rel) a.index a.x a.y a.closure.now c.in_ok-by_pairs.field-0 c.in_ok-by_pairs.ensures c.requires.passes
    in
    AcceptsMet-relation s apart a.system.now same (as_rel a.rel) a.index a.x a.y columns are c.in_ok-by_pairs.field-0 made
