use Rattle.std.proofs.Common.{List, ℕ, sym, ap, subst, ◌∙◌, arith}
use Rattle.fort_tables.specs.Entries.{entry}
use Rattle.fort_tables.specs.Tables.{IsTableEntry}
use Rattle.fort_open_checker.proofs.NodeStateLaws.{states_taken}
use Rattle.fort_open_checker.proofs.nodes.state_over.Goals as goal

pub target-requires : goal.target-requires
target-requires g c =
    let same = states_taken c.loop-j.own c.args.states.now c.args.kids.now (omega (arith, c.loop-j.invariant.long, c.requires.few)) (λ j l. c.loop-j.invariant.values j (omega arith)) in
    subst (λ (ks : List ℕ). IsTableEntry (g.T.Table.table c.args.table.now) (entry c.args.symbol.now ks)) (sym same) c.requires.entry

pub returns : goal.returns
returns g c =
    let same = states_taken c.loop-j.own c.args.states.now c.args.kids.now (omega (arith, c.loop-j.invariant.long, c.requires.few)) (λ j l. c.loop-j.invariant.values j (omega arith)) in
    c.target.ensures ∙ ap (λ (ks : List ℕ). (g.T.Table.table c.args.table.now).target (entry c.args.symbol.now ks)) same
