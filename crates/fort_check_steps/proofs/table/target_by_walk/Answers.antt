use Rattle.std.proofs.Common.{◌<◌, ◌≤◌, length, refl, ap, sym, ◌∙◌, arith}
use Rattle.std.proofs.lemmas.Bool.{false≢true}
use Rattle.fort_tables.specs.Entries.{entry, no_entry}
use Rattle.fort_check_steps.specs.Turned.{TurnedTable}
use Rattle.fort_check_steps.proofs.ListedWalks.{advanced, before_more, walked_target, walked_past, others_more}
use Rattle.fort_check_steps.proofs.table.target_by_walk.Goals as goal

pub targets-init : goal.targets-init
targets-init c =
    let columns = ap (λ (x : TurnedTable). x.table.columns) c.table.view_is in
    record {
      signature = c.new-entries.ensures.signature ∙ ap (λ (x : TurnedTable). x.table.signature) c.table.view_is;
      columns = c.new-entries.ensures.columns ∙ columns;
      last = c.new-entries.ensures.start ∙ ap no_entry columns;
      others = λ j less is. omega (arith, less);
    }

pub returns-then-is_entry : goal.returns-then-is_entry
returns-then-is_entry c =
    let t = c.args.table.now.table in
    let n = c.targets.place in
    let inv = c.targets.invariant in
    let lawful = c.presences-presences.ensures.lawful in
    let within : n < length t.targets = omega (arith, c.targets-test.true, c.targets.auto.place-end, ap length c.targets-targets.ensures.targets) in
    let here =
    advanced t n c.targets.entries.last c.advance-is_there.new.self.last (no_entry t.columns) c.advance-is_there.result c.targets.entries.signature c.targets.entries.columns c.presences-presences.result.now lawful (omega (arith, within, lawful.count))
    inv.signature inv.columns c.presences-presences.ensures.presences inv.last c.advance-is_there.ensures.next c.advance-is_there.ensures.none in
    let at = c.if-is_entry.ensures.0 refl in
    walked_target t n (entry c.args.sym.now c.args.kids.now) c.targets-targets.result.now lawful within c.targets-targets.ensures.targets (sym here ∙ (sym c.row.ensures ∙ at))

pub targets-preserved : goal.targets-preserved
targets-preserved c =
    let t = c.args.table.now.table in
    let n = c.targets.place in
    let e = entry c.args.sym.now c.args.kids.now in
    let inv = c.targets.invariant in
    let lawful = c.presences-presences.ensures.lawful in
    let within : n < length t.entries = omega (arith, c.targets-test.true, c.targets.auto.place-end, ap length c.targets-targets.ensures.targets, lawful.count) in
    let here =
    advanced t n c.targets.entries.last c.advance-is_there.new.self.last (no_entry t.columns) c.advance-is_there.result c.targets.entries.signature c.targets.entries.columns c.presences-presences.result.now lawful within
    inv.signature inv.columns c.presences-presences.ensures.presences inv.last c.advance-is_there.ensures.next c.advance-is_there.ensures.none in
    record {
      signature = c.advance-is_there.ensures.signature ∙ inv.signature;
      columns = c.advance-is_there.ensures.columns ∙ inv.columns;
      last = before_more t n c.advance-is_there.new.self.last here;
      others = others_more t n e inv.others (λ is. false≢true (c.if-is_entry.ensures.1 (c.row.ensures ∙ (here ∙ is))));
    }

pub unreachable-requires : goal.unreachable-requires
unreachable-requires c =
    let t = c.args.table.now.table in
    let lawful = c.targets-targets.ensures.lawful in
    let all : length t.entries ≤ c.targets.place = omega (arith, c.targets-test.false, c.targets.auto.place-end, ap length c.targets-targets.ensures.targets, lawful.count) in
    walked_past t c.targets.place (entry c.args.sym.now c.args.kids.now) lawful all c.requires c.targets.invariant.others
