use Rattle.std.proofs.Common.{◌≡◌, ℕ, ◌<◌, map, get_or}
use Rattle.fort_views.specs.SymbolViews.{AreViewsUpTo, HasSameSights, KeepsSymbols}
use Rattle.fort_views.specs.declared.view.View.{View}
use Rattle.fort_views.proofs.views.Views.take_up.Given as goal

abbrev pub invariant-loop-number : goal.invariant-loop-number
invariant-loop-number g l = record {
  known : AreViewsUpTo (g.K.LabelKeys.view l.keys) (g.K.LabelKeys.key l.keys) l.rows.labels l.until l.self.views.items;
  taken : (j : ℕ) → j < l.number-index → get_or (map (λ (v : View). v.until) l.self.views.items) (get_or l.numbers j 0) 0 ≡ l.until;
  sights : HasSameSights l.initial.self l.self;
  others : KeepsSymbols l.initial.self l.self;
}
