use Rattle.std.proofs.Common.{◌≡◌, ◌∙◌, ℕ, List, [], map, get_or, ap, sym, subst, arith}
use Rattle.fort_classes.specs.Keys.{leaders_by}
use Rattle.fort_label_keys.specs.ViewKeys.{keys_by}
use Rattle.fort_views.specs.Views.{HaveClasses}
use Rattle.fort_views.specs.SymbolViews.{view_classes_of, leaders_at, place_states}
use Rattle.fort_views.proofs.SymbolLaws.{classes_turned}
use Rattle.fort_views.proofs.keyed_views.KeyedViews.classes.Goals as goal

pub returns : goal.returns
returns g c = λ labels newest f wanted is.
    let view = g.K.LabelKeys.view c.args.self.now.keys.now in
    let key = g.K.LabelKeys.key c.args.self.now.keys.now in
    let vs = c.args.self.now.views.views.items in
    let places = c.args.self.now.places in
    let place = c.args.place in
    let h = classes_turned view key labels newest f wanted vs places is place (omega (arith, c.requires, is.are.count)) in
    let same : get_or (map view_classes_of vs) (get_or places place 0) [] ≡ c.classes.result.now =
    sym (c.classes.ensures ∙ ap (λ (ns : List ℕ). get_or (map view_classes_of vs) (get_or ns place 0) []) c.numbers-numbers.ensures.numbers) in
    subst (λ (cs : List ℕ). HaveClasses (get_or (leaders_at vs places) place []) (leaders_by (keys_by view key) labels f place) (place_states labels newest wanted place) cs) same h
