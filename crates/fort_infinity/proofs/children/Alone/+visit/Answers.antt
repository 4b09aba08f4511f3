use Rattle.std.proofs.Common.{◌<◌, take, length, ◌∙◌, arith}
use Rattle.fort_tables.specs.Entries.{entry}
use Rattle.fort_infinity.proofs.ChildrenLaws.{lone_entry_made, noted_turn, noted_all}
use Rattle.fort_infinity.proofs.children.Alone.+visit.Goals as goal

pub target-state-requires : goal.target-state-requires
target-state-requires g t c =
    let s = c.args.self.now in
    let body = g.T.Table.table s.body.now in
    lone_entry_made body s.column s.sym.0 s.states.now s.symbol c.args.chosen c.args.j c.args.rest c.requires.pure c.requires.lone c.requires.count c.if-rest-eq0.true (omega (arith, c.requires.few)) c.requires.before

pub append-requires : goal.append-requires
append-requires g t c =
    let s = c.args.self.now in
    let body = g.T.Table.table s.body.now in
    let e = lone_entry_made body s.column s.sym.0 s.states.now s.symbol c.args.chosen c.args.j c.args.rest c.requires.pure c.requires.lone c.requires.count c.if-rest-eq0.true (omega (arith, c.requires.few)) c.requires.before in
    omega (arith, c.target-state.ensures, c.states-states.ensures.lawful.within (entry s.symbol (take c.args.j c.args.chosen)) e, c.requires.room)

pub loop-k-preserved : goal.loop-k-preserved
loop-k-preserved g t c =
    let s = c.args.self.now in
    let body = g.T.Table.table s.body.now in
    let long : c.args.j < length c.args.chosen = omega (arith, c.requires.few, c.if-rest-eq0.false) in
    record {
      size = c.visit.ensures.count ∙ c.loop-k.invariant.size;
      noted = λ q n. noted_turn body s.column s.states.now s.symbol c.args.chosen c.args.j c.args.rest c.loop-k.k-index q n _ _ _ long c.loop-k-test.true (c.in_ok-visit.ensures.noted q n) (c.loop-k.invariant.noted q n);
    }

pub returns-clause-noted : goal.returns-clause-noted
returns-clause-noted g t c = λ q n.
    let s = c.args.self.now in
    let body = g.T.Table.table s.body.now in
    c.loop-k.invariant.noted q n
    ∙ noted_all body s.column s.states.now s.symbol (take c.args.j c.args.chosen) c.args.j c.args.rest c.loop-k.k-index q n _ c.requires.pure.pure c.if-rest-eq0.false c.loop-k-test.false
