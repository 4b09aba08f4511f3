use Rattle.std.proofs.Common.{◌∙◌, ℕ, ◌+◌, ◌<◌, List, [], map, length, get_or, ap, sym, arith, subst}
use Rattle.std.proofs.lemmas.List.{length-map}
use Rattle.fort_tables.specs.Labels.{first_word}
use Rattle.fort_classes.specs.Keys.{leaders_by}
use Rattle.fort_label_keys.specs.ViewKeys.{keys_by}
use Rattle.fort_views.specs.SymbolViews.{view_leaders_of}
use Rattle.fort_views.proofs.RankLaws.{rank_there}
use Rattle.fort_views.proofs.keyed_views.KeyedViews.leader_of.Goals as goal

pub class_of-class-requires : goal.class_of-class-requires
class_of-class-requires g c =
    let r = c.requires in
    let at = r.5 in
    let there = rank_there (map first_word r.0) c.args.ranks.now (get_or r.3 c.args.place 0) c.args.state (r.1 + 1) r.6 (omega (arith, at.within, length-map r.0 first_word)) (omega (arith, at.taken)) at.presence in
    (r.0, r.1, r.2, r.3, r.4, record { there = at.there; within = there.within })

pub leaders-requires : goal.leaders-requires
leaders-requires g c =
    let r = c.requires in
    omega (arith, r.5.there, r.4.are.count, length-map c.args.self.now.places (λ n. get_or (map view_leaders_of c.args.self.now.views.views.items) n []))

pub bounds-leaders-class : goal.bounds-leaders-class
bounds-leaders-class g c =
    let r = c.requires in
    let at = r.5 in
    let there = rank_there (map first_word r.0) c.args.ranks.now (get_or r.3 c.args.place 0) c.args.state (r.1 + 1) r.6 (omega (arith, at.within, length-map r.0 first_word)) (omega (arith, at.taken)) at.presence in
    let class = c.class_of-class.ensures r.0 r.1 r.2 r.3 r.4 (record { there = at.there; within = there.within }) in
    subst (λ (xs : List ℕ). c.class_of-class.result < length xs) (sym c.leaders.ensures) class.within

pub returns : goal.returns
returns g c = λ labels newest f wanted turned at ranks.
    let want = get_or wanted c.args.place 0 in
    let there = rank_there (map first_word labels) c.args.ranks.now want c.args.state (newest + 1) ranks (omega (arith, at.within, length-map labels first_word)) (omega (arith, at.taken)) at.presence in
    let lead = leaders_by (keys_by (g.K.LabelKeys.view c.args.self.now.keys.now) (g.K.LabelKeys.key c.args.self.now.keys.now)) labels f c.args.place in
    let class = c.class_of-class.ensures labels newest f wanted turned (record { there = at.there; within = there.within }) in
    ap (λ (xs : List ℕ). get_or xs c.class_of-class.result 0) c.leaders.ensures ∙ (class.leads ∙ ap lead there.is)
