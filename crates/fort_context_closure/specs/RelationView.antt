-- Inside: what the fields of the bits of a relation stand for.
use Rattle.std.specs.Prelude.{◌≡◌, ◌<◌, ◌^◌, List, [], map, length, true, vec_items}
use Rattle.fort_theory.specs.Patterns.{Pattern}
use Rattle.fort_terms.specs.PatternView.{as_pattern}
use Rattle.fort_relations.specs.RelView.{as_rel}
use Rattle.fort_alike.specs.Atoms.{kind_for}
use Rattle.fort_alike.specs.Alike.{is_reaching}
use Rattle.fort_alike.specs.ListedAtoms.{ListedAtom, listed, AreArguments}
use Rattle.fort_alike.specs.AtomRules.{marks_of}
use Rattle.fort_alike.proofs.BitPlaces.{NoneTwice}
use Rattle.fort_label_bits.specs.NumberedView.{AreNumbersOf}
use Rattle.fort_label_bits.specs.RulePlaces.{pair_at, AreWithin}
use Rattle.fort_context_closure.specs.ClosedAtoms.{ClosedAtom, numbers_of}
use Rattle.fort_context_closure.specs.ReachRows.{IsReach, NoPatternTwice}
use Rattle.fort_label_bits.specs.RootPlaces.{IsRooted, root_of}
use Rattle.fort_context_closure.specs.RuleRootPlaces.{AreRuleRoots}
use Rattle.fort_label_bits.specs.RuleLefts.{AreUnderLefts}
use Rattle.fort_context_closure.specs.declared.relation.RelationBits.TheInside.{Inside}

abbrev pub left_patterns : Inside → List Pattern
left_patterns b = map as_pattern b.left_patterns.items

abbrev pub right_patterns : Inside → List Pattern
right_patterns b = map as_pattern b.right_patterns.items

-- the pairs are read off the places of their sides
abbrev pub listed_seen : Inside → ListedAtom
listed_seen b = listed (record {
  signature = [];
  columns = b.arguments.columns;
  first = b.arguments.first;
  second = b.arguments.second;
  kind = kind_for (as_rel b.rel);
  pairs = map (pair_at (left_patterns b) (right_patterns b)) b.rules.items;
}) (left_patterns b) (right_patterns b)

abbrev pub atom_seen : Inside → ClosedAtom
atom_seen b = record { atom = listed_seen b; entries = b.entries.items }

pub record IsRelation (b : Inside) : Type 0 where
  pub left_numbers : AreNumbersOf (left_patterns b) b.lefts.items
  pub right_numbers : AreNumbersOf (right_patterns b) b.rights.items
  pub left_few : length b.left_patterns.items < 2 ^ 32
  pub right_few : length b.right_patterns.items < 2 ^ 32
  pub within : AreWithin (left_patterns b) (right_patterns b) b.rules.items
  pub once : NoneTwice (marks_of (listed_seen b))
  pub left_once : NoPatternTwice (left_patterns b)
  pub right_once : NoPatternTwice (right_patterns b)
  pub reaching : is_reaching (kind_for (as_rel b.rel)) ≡ true
      → IsReach (length (left_patterns b)) (length (right_patterns b)) (numbers_of b.entries.items) b.reach
  pub arguments : AreArguments b.arguments.columns b.arguments.first b.arguments.second
  pub left_roots : IsRooted (map root_of b.lefts.items) b.left_roots
  pub right_roots : IsRooted (map root_of b.rights.items) b.right_roots
  pub rule_roots : AreRuleRoots b.lefts.items b.rights.items b.rules.items b.rule_roots
  pub under : AreUnderLefts b.rules.items (map vec_items b.under.items)
