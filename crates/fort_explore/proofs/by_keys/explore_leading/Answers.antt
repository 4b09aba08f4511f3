use Rattle.std.proofs.Common.{ℕ, [], IfSome, sym, subst}
use Rattle.fort_label_keys.specs.ViewKeys.{keys_by}
use Rattle.fort_views.specs.SymbolViews.{AreViewsOf}
use Rattle.fort_explore.specs.LeadingLoops.{IsLeadingTable}
use Rattle.fort_explore.proofs.by_keys.explore_leading.Goals as goal

pub make_leading-requires-clause-known : goal.make_leading-requires-clause-known
make_leading-requires-clause-known g c =
    let views = c.new-views.result in
    let n = g.L.Labeller.column_count c.args.labeller.now in
    subst (λ k. AreViewsOf (g.K.LabelKeys.view k) (g.K.LabelKeys.key k) c.args.sig.now n [] 0 views.views) (sym c.new-views.ensures.keys)
    (subst (λ (k : ℕ). AreViewsOf (g.K.LabelKeys.view c.args.keys.now) (g.K.LabelKeys.key c.args.keys.now) c.args.sig.now k [] 0 views.views) c.columns.ensures.count (c.new-views.ensures.views []))

pub returns-clause-found : goal.returns-clause-found
returns-clause-found g c =
    let sig = c.args.sig.now in
    let n = g.L.Labeller.column_count c.args.labeller.now in
    let label = g.L.Labeller.label c.args.labeller.now in
    let found = c.make_leading.new.found in
    let labels = found.labels.labels in
    let keys = c.new-views.result.keys.now in
    let here = subst (λ m. IfSome m (λ maker. IsLeadingTable sig n label (keys_by (g.K.LabelKeys.view keys) (g.K.LabelKeys.key keys)) labels found.firsts maker c.args.cap)) c.in-Some.is c.in_ok-made.ensures.whole in
    c.in_ok-explored-in-Some.ensures.found found.firsts c.args.cap (subst (λ k. IsLeadingTable sig n label (keys_by (g.K.LabelKeys.view k) (g.K.LabelKeys.key k)) labels found.firsts c.in-Some.maker c.args.cap) c.new-views.ensures.keys here)
