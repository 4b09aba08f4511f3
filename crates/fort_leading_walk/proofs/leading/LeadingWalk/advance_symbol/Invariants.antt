use Rattle.std.proofs.Common.{◌≡◌, ℕ, ◌≤◌, length}
use Rattle.fort_classes.specs.Keys.{leaders_by}
use Rattle.fort_entry_walk.specs.WalkFacts.{later_entries}
use Rattle.fort_leading_walk.specs.LeadingFacts.{IsSearching}
use Rattle.fort_leading_walk.proofs.leading.LeadingWalk.advance_symbol.Given as goal

abbrev pub invariant-symbols : goal.invariant-symbols
invariant-symbols g l = record {
  same : l.self ≡ l.initial.self;
  searching : IsSearching l.sig (leaders_by (g.L.SymbolLeaders.keys l.initial.leaders) l.rows.labels) l.presences l.initial.self.walk l.walk;
  asked : g.L.SymbolLeaders.keys l.leaders ≡ g.L.SymbolLeaders.keys l.initial.leaders;
  width : g.L.SymbolLeaders.word_count l.leaders ≡ g.L.SymbolLeaders.word_count l.initial.leaders;
  known : (until : ℕ) × g.L.SymbolLeaders.knows l.leaders l.sig (length l.initial.self.walk.digits) l.rows.labels until × (until ≤ l.walk.stage);
}

abbrev pub decreases-symbols : goal.decreases-symbols
decreases-symbols g l = length (later_entries l.sig l.presences l.walk.stage l.walk.digits)
