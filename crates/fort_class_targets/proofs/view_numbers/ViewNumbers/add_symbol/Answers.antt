use Rattle.std.proofs.Common.{◌≡◌, ◌++◌, ◌∷◌, [], suc, ◌+◌, length, ap, sym, subst, ◌∙◌, refl, arith}
use Rattle.std.proofs.lemmas.Result.{on_ok_weaker}
use Rattle.fort_tables.specs.Tuples.{TupleSymbol, AreSymbols}
use Rattle.fort_target_lists.proofs.SymbolNumbers.{symbols_at}
use Rattle.fort_class_targets.proofs.NumberLaws.{places_more}
use Rattle.fort_class_targets.proofs.view_numbers.ViewNumbers.add_symbol.Goals as goal

pub add_places-requires-clause-symbols : goal.add_places-requires-clause-symbols
add_places-requires-clause-symbols g c =
    let sig = c.args.sig.now in
    let f = c.args.symbol.now in
    let placed = c.requires.placed in
    let base : length sig + 1 ≡ suc (length sig) = omega arith in
    subst (λ (k : TupleSymbol). AreSymbols sig k) (sym placed.2) (symbols_at sig (length sig + 1) (length f) placed.0 base)

pub returns : goal.returns
returns g c = on_ok_weaker c.add_places.result (λ made n placed is.
    let view = g.K.LabelKeys.view c.args.keys.now in
    let own = c.args.self.now in
    let f = c.args.symbol.now in
    let pushed = c.add_places.ensures.starts ∙ (c.in_ok-push.ensures.items ∙ ap (λ k. own.starts.items ++ k ∷ []) (c.len.ensures ∙ own.numbers.ok.0)) in
    places_more view c.args.sig.now (length f) n f c.args.views.now c.add_places.new.views own.starts.items own.numbers.items c.add_places.new.self.starts.items c.add_places.new.self.numbers.items placed refl is pushed made) c.add_places.ensures.numbers
