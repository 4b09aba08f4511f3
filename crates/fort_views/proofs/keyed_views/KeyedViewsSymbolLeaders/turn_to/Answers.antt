use Rattle.std.proofs.lemmas.Result.{on_ok_weaker}
use Rattle.fort_tuple_symbols.specs.Columns.{symbol_of}
use Rattle.fort_views.proofs.SymbolLaws.{lists_turned}
use Rattle.fort_views.proofs.keyed_views.KeyedViewsSymbolLeaders.turn_to.Goals as goal

pub returns-clause-turned : goal.returns-clause-turned
returns-clause-turned g c =
    on_ok_weaker c.turn.result
    (λ is sig columns until t. lists_turned (g.K.LabelKeys.view c.args.self.now.keys.now) (g.K.LabelKeys.key c.args.self.now.keys.now) c.args.rows.now.labels c.args.newest (symbol_of c.args.digits.now) c.args.wanted.now c.turn.new.self.views.views.items c.turn.new.self.places is)
    c.turn.ensures.turned
