use Rattle.std.proofs.Common.{◌≡◌, ◌-◌, ◌||◌, [], length, get_or, Some, ap, ◌∙◌, arith}
use Rattle.std.specs.List.{insert}
use Rattle.std.proofs.lemmas.Result.{on_ok_weaker}
use Rattle.fort_tables.specs.Tuples.{all_absent, symbol_kids, arity}
use Rattle.fort_tables.proofs.TupleLaws.{arity_from_get}
use Rattle.fort_tables.proofs.InsertSymbolLaws.{symbol_kids-alone}
use Rattle.fort_tables.specs.PureSearch.{lone_symbol, has_number}
use Rattle.fort_infinity.specs.Children.{IsLone}
use Rattle.fort_infinity.proofs.ChildrenLaws.{arity_small, under_made}
use Rattle.fort_infinity.proofs.children.note_under.Goals as goal

pub visit-requires-clause-count : goal.visit-requires-clause-count
visit-requires-clause-count g c =
    let body = g.T.Table.table c.args.body.now in
    let a = (arity_from_get c.signature-sig.result.now c.args.sym.0 c.arity-arity.result c.arity-arity.ensures).0 in
    let symbol : c.lone_symbol.result ≡ lone_symbol body c.args.column c.args.sym.0 = c.lone_symbol.ensures ∙ ap (λ n. insert (all_absent (n - 1)) c.args.column (Some c.args.sym.0)) c.columns.ensures.count in
    omega (arith, a, ap (λ s. arity s c.args.sym.0) c.signature-sig.ensures, ap (symbol_kids body.signature) symbol, symbol_kids-alone body.signature c.args.column (body.columns - 1) c.args.sym.0)

pub visit-requires-clause-few : goal.visit-requires-clause-few
visit-requires-clause-few g c =
    let sig = c.signature-sig.result.now in
    let a = (arity_from_get sig c.args.sym.0 c.arity-arity.result c.arity-arity.ensures).0 in
    omega (arith, a, arity_small sig c.args.sym.0 c.len-symbols.ensures.lawful (omega (arith, c.requires.symbol, ap length c.signature-sig.ensures)))

pub returns-clause-noted : goal.returns-clause-noted
returns-clause-noted g c =
    let body = g.T.Table.table c.args.body.now in
    let a = (arity_from_get c.signature-sig.result.now c.args.sym.0 c.arity-arity.result c.arity-arity.ensures).0 in
    let count : c.arity-arity.result ≡ arity body.signature c.args.sym.0 = omega (arith, a, ap (λ s. arity s c.args.sym.0) c.signature-sig.ensures) in
    let symbol : c.lone_symbol.result ≡ lone_symbol body c.args.column c.args.sym.0 = c.lone_symbol.ensures ∙ ap (λ n. insert (all_absent (n - 1)) c.args.column (Some c.args.sym.0)) c.columns.ensures.count in
    let lone : IsLone body c.args.column c.args.sym.0 c.lone_symbol.result = record { within = c.requires.symbol; symbol = symbol } in
    on_ok_weaker c.visit.result (λ noted q n. noted q n ∙ ap (λ z. z || has_number n (get_or c.args.children.now q [])) (under_made body c.args.column c.args.sym.0 c.arity-arity.result q n c.lone_symbol.result lone count)) c.visit.ensures.noted
