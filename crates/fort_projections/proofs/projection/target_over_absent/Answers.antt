use Rattle.std.proofs.Common.{List, ℕ, take, length, ap, sym, ◌∙◌, arith, subst}
use Rattle.fort_tables.specs.Entries.{entry}
use Rattle.fort_tables.specs.Tables.{IsTableEntry}
use Rattle.fort_projections.proofs.ProjectEntries.{absent_state_small}
use Rattle.fort_projections.proofs.projection.target_over_absent.Goals as goal

pub absent_states-states-requires-clause-small : goal.absent_states-states-requires-clause-small
absent_states-states-requires-clause-small g c = λ j l.
    let body = g.T.Table.table c.args.body.now in
    let r = c.requires.found in
    omega (arith, absent_state_small body r.0 c.args.rows.now.labels c.args.row.now.kids r.2 j l, c.states-states.ensures.count, c.states-states.type_inv)

pub target-requires : goal.target-requires
target-requires g c =
    let body = g.T.Table.table c.args.body.now in
    let r = c.requires.found in
    let q = sym (ap (λ (ks : List ℕ). take (length ks) c.absent_states-states.result) c.kids.ensures.states ∙ c.absent_states-states.ensures) in
    (body, r.0, r.1, subst (λ (ks : List ℕ). IsTableEntry body (entry r.0 ks)) q r.2)

pub returns : goal.returns
returns g c = λ f finds whole.
    let body = g.T.Table.table c.args.body.now in
    let q = sym (ap (λ (ks : List ℕ). take (length ks) c.absent_states-states.result) c.kids.ensures.states ∙ c.absent_states-states.ensures) in
    c.target.ensures body f finds (subst (λ (ks : List ℕ). IsTableEntry body (entry f ks)) q whole) ∙ ap (λ (ks : List ℕ). body.target (entry f ks)) (sym q)
