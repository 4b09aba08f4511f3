use Rattle.std.proofs.Common.{◌≡◌, ◌∙◌, ◌<◌, ℕ, List, [], map, length, get_or, ap, sym, subst, arith}
use Rattle.fort_classes.specs.Keys.{leaders_by}
use Rattle.fort_label_keys.specs.ViewKeys.{keys_by}
use Rattle.fort_views.specs.Views.{IsClassOf}
use Rattle.fort_views.specs.SymbolViews.{view_classes_of, leaders_at, place_states}
use Rattle.fort_views.proofs.SymbolLaws.{classes_turned}
use Rattle.fort_views.proofs.keyed_views.KeyedViews.class_of.Goals as goal

pub class_of-requires-clause-rank : goal.class_of-requires-clause-rank
class_of-requires-clause-rank g c =
    let r = c.requires in
    let vs = c.args.self.now.views.views.items in
    let h = classes_turned (g.K.LabelKeys.view c.args.self.now.keys.now) (g.K.LabelKeys.key c.args.self.now.keys.now) r.0 r.1 r.2 r.3 vs c.args.self.now.places r.4 c.args.place r.5.there in
    subst (λ (ns : List ℕ). c.args.rank < length (get_or (map view_classes_of vs) (get_or ns c.args.place 0) [])) (sym c.numbers-numbers.ensures.numbers) (omega (arith, h.count, r.5.within))

pub returns : goal.returns
returns g c = λ labels newest f wanted is ranked.
    let view = g.K.LabelKeys.view c.args.self.now.keys.now in
    let key = g.K.LabelKeys.key c.args.self.now.keys.now in
    let vs = c.args.self.now.views.views.items in
    let places = c.args.self.now.places in
    let place = c.args.place in
    let leader = leaders_by (keys_by view key) labels f place (get_or (place_states labels newest wanted place) c.args.rank 0) in
    let h = classes_turned view key labels newest f wanted vs places is place ranked.there in
    let class : get_or (get_or (map view_classes_of vs) (get_or places place 0) []) c.args.rank 0 ≡ c.class_of.result =
    sym (c.class_of.ensures ∙ ap (λ (ns : List ℕ). get_or (get_or (map view_classes_of vs) (get_or ns place 0) []) c.args.rank 0) c.numbers-numbers.ensures.numbers) in
    subst (λ (k : ℕ). IsClassOf (get_or (leaders_at vs places) place []) leader k) class (h.each c.args.rank ranked.within)
