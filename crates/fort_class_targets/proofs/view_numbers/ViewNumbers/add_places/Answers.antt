use Rattle.std.proofs.Common.{◌≡◌, ◌++◌, ℕ, List, take, length, ap, subst, ◌∙◌, arith}
use Rattle.std.proofs.lemmas.List.{length-take-le}
use Rattle.std.proofs.lemmas.Result.{on_ok_weaker}
use Rattle.fort_tables.specs.Tuples.{TupleSymbol}
use Rattle.fort_tuple_symbols.specs.Columns.{symbol_of}
use Rattle.fort_tuple_symbols.proofs.Bounds.{symbol_again}
use Rattle.fort_entry_walk.specs.WalkPlaces.{wants}
use Rattle.fort_views.specs.SymbolViews.{MayFind, AreSights}
use Rattle.fort_class_targets.proofs.ListLaws.{wants_read}
use Rattle.fort_class_targets.proofs.NumberLaws.{may_find}
use Rattle.fort_class_targets.proofs.view_numbers.ViewNumbers.add_places.Goals as goal

pub places-requires-clause-known : goal.places-requires-clause-known
places-requires-clause-known g c =
    let view = g.K.LabelKeys.view c.args.keys.now in
    let sig = c.args.sig.now in
    let f = c.args.symbol.now in (
      sig,
      length f,
      may_find view sig f c.digits.result.now c.kid_presences-wanted.result c.kid_count-count.result c.args.views.now c.requires.known c.requires.symbols c.digits.ensures.digits c.kid_count-count.ensures.count c.if-count-eq0.false
          (omega (arith, c.kid_count-count.ensures.few)) c.kid_presences-wanted.ensures,
    )

pub returns-clause-numbers : goal.returns-clause-numbers
returns-clause-numbers g c = on_ok_weaker c.push_numbers.result (λ pushed.
    let view = g.K.LabelKeys.view c.args.keys.now in
    let sig = c.args.sig.now in
    let f = c.args.symbol.now in
    let count = c.kid_count-count.result in
    let room = c.kid_presences-wanted.result in
    let ds = c.digits.result.now in
    let find : MayFind view sig (length f) ds (take count room) c.args.views.now =
    may_find view sig f ds room count c.args.views.now c.requires.known c.requires.symbols c.digits.ensures.digits c.kid_count-count.ensures.count c.if-count-eq0.false
    (omega (arith, c.kid_count-count.ensures.few)) c.kid_presences-wanted.ensures in
    let same : symbol_of ds ≡ f = ap symbol_of c.digits.ensures.digits ∙ symbol_again f in
    let wanted : take count room ≡ wants sig f = wants_read sig f count room c.kid_count-count.ensures.count (omega (arith, c.kid_count-count.ensures.few)) c.kid_presences-wanted.ensures in
    let long : length (take count room) ≡ count = length-take-le count room (omega (arith, c.kid_count-count.ensures.few)) in
    let made = c.in_ok-places.ensures in
    let numbers : c.numbers.result.now ≡ c.in_ok-places.places = c.numbers.ensures.numbers in
    record {
      rows = made.known sig (length f) find;
      more = made.more;
      few = omega (arith, made.few, long, c.kid_count-count.ensures.few);
      added = c.in_ok-places.places;
      numbers = pushed ∙ ap (λ (ns : List ℕ). c.args.self.now.numbers.items ++ ns) numbers;
      are = subst (λ (ws : List ℕ). AreSights view f ws c.places.new.self.sights c.in_ok-places.places) wanted
          (subst (λ (k : TupleSymbol). AreSights view k (take count room) c.places.new.self.sights c.in_ok-places.places) same made.places);
    }) c.push_numbers.ensures
