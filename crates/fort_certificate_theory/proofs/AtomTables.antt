-- The table of an atom tells its truth, where the closures that were made are right.
use Rattle.std.proofs.Common.{◌≡◌, ℕ, ◌≤◌, List, [], length, Bool, true, false, ◌==◌, eq-eqb, refl, ap, sym, arith, subst}
use Rattle.fort_theory.specs.Trees.{Tree}
use Rattle.fort_theory.specs.Sides.{at_index}
use Rattle.fort_theory.specs.Signatures.{Signature, most_columns}
use Rattle.fort_theory.specs.Patterns.{Pattern, Pair, PatternSystem, IsSystem}
use Rattle.fort_theory.specs.Expressions.{Expression}
use Rattle.fort_theory.specs.Contexts.{HoleNumber, HolePlace}
use Rattle.fort_theory.specs.Cores as core
use Rattle.fort_theory.specs.Cores.{Core, Rel}
use Rattle.fort_theory.specs.PatternStructures.{pattern_structure}
use Rattle.fort_tables.specs.Tables.{Table}
use Rattle.fort_tables.specs.LabelRules.{label_of}
use Rattle.fort_alike.specs.Atoms.{kind_for, pairs_for, relation_atom, normal_atom}
use Rattle.fort_alike.specs.Alike.{is_reaching}
use Rattle.fort_alike.specs.ExpressionAlike.{expression_atom}
use Rattle.fort_alike.specs.ListedAtoms.{ListedAtom, listed, IsListedAtom}
use Rattle.fort_alike.specs.ClosureTests.{IsClosure, closure_test, ListsClosure}
use Rattle.fort_alike.specs.Subterms.{subterms}
use Rattle.fort_alike.proofs.AtomMeans.{Decides-atom_accepts}
use Rattle.fort_alike.proofs.AtomPlaces.{ArePlaces-columns}
use Rattle.fort_alike.proofs.ClosureTestLaws.{IsClosure-listed, IsClosure-unread}
use Rattle.fort_alike.proofs.RuleLaws.{IsLabelRule-atom}
use Rattle.fort_alike.proofs.SubtermLaws.{ListsSubterms-subterms}
use Rattle.fort_alike.proofs.SystemAtoms.{IsListedAtom-relation, IsListedAtom-normal}
use Rattle.fort_alike.proofs.TermLabels.{IsLabelRule-term, accepts-term}
use Rattle.fort_parts.specs.PartColumns.{columns_of}
use Rattle.fort_parts.specs.PartAnswers.{OfTable, IsAnswerTo}
use Rattle.fort_parts.proofs.PartColumnLaws.{AreColumns-columns_of, columns_of-Normal, columns_of-IsTerm}
use Rattle.fort_parts.proofs.StepTables.{IsTableOver-labels}
use Rattle.fort_parts.proofs.AtomAnswers.{TellsTruth-Atom, TellsTruth-Nf, TellsTruth-Is}
use Rattle.fort_parts.proofs.AtomResults.{IsAnswerTo-Expression_surely}
use Rattle.fort_alike.specs.ListedClosures.{Which, Star, Conv, Pair as Item, relation_of, asks}
use Rattle.fort_certificate_theory.specs.Outcomes.{StepOutcome, Fine}
use Rattle.fort_certificate_theory.specs.ClosureSteps as closures
use Rattle.fort_certificate_theory.specs.ClosureSteps.{ClosureRules, AreSidePatterns, AreClosureRules, numbers_of, AreFounded, IsClosed, IsClosureOutcome}
use Rattle.fort_certificate_theory.specs.Made.{MadeSoFar}
use Rattle.fort_certificate_theory.specs.PartRules.{Local, closure_for, relation_local, normal_local, term_local, IsRelationLocal, IsNormalLocal, IsExpressionLocal}
use Rattle.fort_certificate_theory.specs.Checked.{IsClosureJudged}
use Rattle.fort_certificate_theory.proofs.ClosureExact.{closure_exact}
use Rattle.fort_certificate_theory.proofs.CheckedLaws.{closure_rules_one}
use Rattle.fort_certificate_theory.proofs.MadeTables.{IsMadeBy, IsTableByLocal, IsTableBy-made, AcceptsExactly-by}

pub record IsRightList (c : ClosureRules) (items : List Item) : Type 0 where
  pub founded : AreFounded c items (length items)
  pub closed : IsClosed c items

right_list : (c : ClosureRules) (items : List Item) (o : StepOutcome) → IsClosureOutcome c items o → o ≡ Fine → IsRightList c items
right_list c items o (closures.IsRight founded closed) e = record { founded = founded; closed = closed }
right_list c items o (closures.NotWithin i d h l other) e = absurd cc
right_list c items o (closures.NotFounded i d h l w other) e = absurd cc
right_list c items o (closures.NotClosed p q h l m f other below) e = absurd cc

-- the closure of an index that a formula asks for is right
abbrev pub HasClosuresFor : PatternSystem → MadeSoFar → Core → Type 0
HasClosuresFor system made f = (which : Which) (index : ℕ) → asks which index f ≡ true → IsClosureJudged system which index (made.closures which index) Fine

module _ (system : PatternSystem) (is : IsSystem system) where
  -- a right closure lists what is in the closure, over the patterns in their order
  listed_exactly : (which : Which) (index : ℕ) (items : List Item) (lefts rights : List Pattern) → IsClosureJudged system which index items Fine
      → AreSidePatterns (pairs_for (relation_of which) (at_index index system.rules)) lefts rights → (atom : ListedAtom)
      → atom.atom.pairs ≡ pairs_for (relation_of which) (at_index index system.rules) → atom.lefts ≡ lefts → atom.rights ≡ rights → ListsClosure atom (numbers_of items)
  listed_exactly which index items lefts rights judged patterns atom e f g =
      let own : ClosureRules = record { pairs = atom.atom.pairs; rights = atom.rights; lefts = atom.lefts } in
      let sides : AreSidePatterns own.pairs own.lefts own.rights =
      subst (λ (ps : List Pair). AreSidePatterns ps own.lefts own.rights) (sym e)
      (subst (λ (ps : List Pattern). AreSidePatterns (pairs_for (relation_of which) (at_index index system.rules)) ps own.rights) (sym f)
      (subst (λ (ps : List Pattern). AreSidePatterns (pairs_for (relation_of which) (at_index index system.rules)) lefts ps) (sym g) patterns)) in
      let own_is : AreClosureRules system which index own = record { pairs = e; patterns = sides } in
      let same = closure_rules_one system which index judged.rules own judged.rules_are own_is in
      let r = right_list own items Fine (subst (λ (c : ClosureRules). IsClosureOutcome c items Fine) same judged.is) refl in
      λ p q l m. closure_exact own items sides r.founded r.closed p q l m

  test_itself : (n : ℕ) → (n == n) ≡ true
  test_itself n = eq-eqb n n refl

  -- of the relations that read a closure
  lists_closure : (made : MadeSoFar) (rel : Rel) (index x y : ℕ) (lefts rights : List Pattern) → AreSidePatterns (pairs_for rel (at_index index system.rules)) lefts rights
      → HasClosuresFor system made (core.Leaf (core.Related rel index x y)) → is_reaching (kind_for rel) ≡ true
      → ListsClosure (listed (relation_atom system rel index x y (columns_of (core.Leaf (core.Related rel index x y)))) lefts rights) (numbers_of (closure_for made rel index))
  lists_closure made core.Eq index x y lefts rights patterns right h = absurd cc
  lists_closure made core.Root index x y lefts rights patterns right h = absurd cc
  lists_closure made core.Below index x y lefts rights patterns right h = absurd cc
  lists_closure made core.Step index x y lefts rights patterns right h = absurd cc
  lists_closure made core.Par index x y lefts rights patterns right h = absurd cc
  lists_closure made core.Plus index x y lefts rights patterns right h =
      listed_exactly Star index (made.closures Star index) lefts rights (right Star index (test_itself index)) patterns
      (listed (relation_atom system core.Plus index x y (columns_of (core.Leaf (core.Related core.Plus index x y)))) lefts rights) refl refl refl
  lists_closure made core.Star index x y lefts rights patterns right h =
      listed_exactly Star index (made.closures Star index) lefts rights (right Star index (test_itself index)) patterns
      (listed (relation_atom system core.Star index x y (columns_of (core.Leaf (core.Related core.Star index x y)))) lefts rights) refl refl refl
  lists_closure made core.Conv index x y lefts rights patterns right h =
      listed_exactly Conv index (made.closures Conv index) lefts rights (right Conv index (test_itself index)) patterns
      (listed (relation_atom system core.Conv index x y (columns_of (core.Leaf (core.Related core.Conv index x y)))) lefts rights) refl refl refl

  abbrev pub atom_over : Rel → (index x y : ℕ) → (lefts rights : List Pattern) → ListedAtom
  atom_over rel index x y lefts rights = listed (relation_atom system rel index x y (columns_of (core.Leaf (core.Related rel index x y)))) lefts rights

  pub relation_listed : (rel : Rel) (index x y : ℕ) (lefts rights : List Pattern) → AreSidePatterns (pairs_for rel (at_index index system.rules)) lefts rights → IsListedAtom (atom_over rel index x y lefts rights)
  relation_listed rel index x y lefts rights patterns =
      IsListedAtom-relation system is index rel x y (columns_of (core.Leaf (core.Related rel index x y))) (AreColumns-columns_of (core.Leaf (core.Related rel index x y))) lefts rights patterns.left patterns.right

  pub relation_closes : (made : MadeSoFar) (rel : Rel) (index x y : ℕ) (lefts rights : List Pattern) → AreSidePatterns (pairs_for rel (at_index index system.rules)) lefts rights
      → HasClosuresFor system made (core.Leaf (core.Related rel index x y)) → IsClosure (atom_over rel index x y lefts rights) (closure_test rights lefts (numbers_of (closure_for made rel index)))
  relation_closes made rel index x y lefts rights patterns right =
      IsClosure-listed (atom_over rel index x y lefts rights) (relation_listed rel index x y lefts rights patterns) (numbers_of (closure_for made rel index))
      (lists_closure made rel index x y lefts rights patterns right)

  -- Results: the kinds of atoms
  pub relation_right : (made : MadeSoFar) (rel : Rel) (index x y : ℕ) (local : Local) (table : Table) → length (columns_of (core.Leaf (core.Related rel index x y))) ≤ most_columns
      → HasClosuresFor system made (core.Leaf (core.Related rel index x y)) → IsRelationLocal system made rel index x y local → IsMadeBy local table
      → IsAnswerTo (pattern_structure system) (core.Leaf (core.Related rel index x y)) (OfTable table)
  relation_right made rel index x y local table few right h by =
      let f = core.Leaf (core.Related rel index x y) in
      let a = atom_over rel index x y h.lefts h.rights in
      let items = closure_for made rel index in
      let test = closure_test h.rights h.lefts (numbers_of items) in
      let own = relation_local system rel index x y h.lefts h.rights items in
      let places = ArePlaces-columns rel index x y (columns_of f) (AreColumns-columns_of f) in
      let atom = relation_listed rel index x y h.lefts h.rights h.patterns in
      let closes = relation_closes made rel index x y h.lefts h.rights h.patterns right in
      let table_by : IsTableByLocal system.signature (length (columns_of f)) own table =
      IsTableBy-made own table (IsLabelRule-atom a test atom) (subst (λ (l : Local). IsMadeBy l table) h.is by) in
      record {
        over = IsTableOver-labels system.signature (columns_of f) (length (columns_of f)) table (label_of own.rule) own.accepting places.some refl table_by;
        truth = TellsTruth-Atom system table rel index x y (AcceptsExactly-by system.signature (length (columns_of f)) own table _ table_by (λ t k full. Decides-atom_accepts a test atom closes t k));
      }

  pub normal_right : (index x : ℕ) (local : Local) (table : Table) → IsNormalLocal system index local → IsMadeBy local table
      → IsAnswerTo (pattern_structure system) (core.Leaf (core.Normal index x)) (OfTable table)
  normal_right index x local table h by =
      let f = core.Leaf (core.Normal index x) in
      let a = listed (normal_atom system index) h.lefts [] in
      let test : Pattern → Pattern → Bool = λ p q. false in
      let own = normal_local system index h.lefts in
      let atom = IsListedAtom-normal system is index h.lefts h.patterns in
      let closes : IsClosure a test = IsClosure-unread a test refl in
      let one : length (columns_of f) ≡ 1 = ap length (columns_of-Normal index x) in
      let table_by : IsTableByLocal system.signature 1 own table = IsTableBy-made own table (IsLabelRule-atom a test atom) (subst (λ (l : Local). IsMadeBy l table) h.is by) in
      record {
        over = IsTableOver-labels system.signature (columns_of f) 1 table (label_of own.rule) own.accepting (omega arith) (sym one) table_by;
        truth = TellsTruth-Nf system table index x (AcceptsExactly-by system.signature 1 own table _ table_by (λ t k full. Decides-atom_accepts a test atom closes t k));
      }

  pub term_right : (x : ℕ) (term : Tree) (table : Table) → IsMadeBy (term_local system.signature term) table → IsAnswerTo (pattern_structure system) (core.Leaf (core.IsTerm x term)) (OfTable table)
  term_right x term table by =
      let f = core.Leaf (core.IsTerm x term) in
      let own = term_local system.signature term in
      let one : length (columns_of f) ≡ 1 = ap length (columns_of-IsTerm x term) in
      let table_by : IsTableByLocal system.signature 1 own table = IsTableBy-made own table (IsLabelRule-term system.signature (subterms term)) by in
      record {
        over = IsTableOver-labels system.signature (columns_of f) 1 table (label_of own.rule) own.accepting (omega arith) (sym one) table_by;
        truth = TellsTruth-Is system table x term (AcceptsExactly-by system.signature 1 own table _ table_by (λ t k full. accepts-term system.signature term (subterms term) (ListsSubterms-subterms term) t k));
      }

  pub expression_right : (e : Expression) (number : HoleNumber) (place : HolePlace) (x y : ℕ) (local : Local) (table : Table)
      → IsExpressionLocal (expression_atom system e number place x y (columns_of (core.Leaf (core.InContext e number place x y)))) local → IsMadeBy local table
      → IsAnswerTo (pattern_structure system) (core.Leaf (core.InContext e number place x y)) (OfTable table)
  expression_right e number place x y local table h by =
      let n = length (columns_of (core.Leaf (core.InContext e number place x y))) in
      let table_by : IsTableByLocal system.signature n local table =
      subst (λ (s : Signature). IsTableByLocal s n local table) h.signature
      (subst (λ (m : ℕ). IsTableByLocal local.rule.signature m local table) h.columns (IsTableBy-made local table h.rule by)) in
      IsAnswerTo-Expression_surely system (label_of local.rule) local.accepting table e number place x y (λ t k full. h.accepted t k) table_by
