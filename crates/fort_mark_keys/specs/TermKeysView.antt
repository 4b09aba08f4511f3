-- To believe: the keys of a term's labels are seen as the list of its subterms.
use Rattle.std.specs.Prelude.{List, map}
use Rattle.fort_theory.specs.Trees.{Tree}
use Rattle.fort_mark_keys.specs.declared.term_keys.TermKeys.{TermKeys}

abbrev pub listed_seen : TermKeys → List Tree
listed_seen k = map (λ t. t.now) k.listed.items
