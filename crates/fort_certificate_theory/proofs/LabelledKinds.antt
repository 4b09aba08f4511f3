-- The labels of each kind of part tell when tuples are alike, with reduced tables or without, where closures and the answers of operands are right.
use Rattle.std.proofs.Common.{◌≡◌, ℕ, ◌-◌, ◌<◌, ◌≤◌, [], length, Bool, true, false, refl, ap, sym, arith, subst}
use Rattle.fort_theory.specs.Trees.{Tree}
use Rattle.fort_theory.specs.Signatures.{most_columns}
use Rattle.fort_theory.specs.Patterns.{Pattern, PatternSystem, IsSystem}
use Rattle.fort_theory.specs.Expressions.{Expression}
use Rattle.fort_theory.specs.Contexts.{HoleNumber, HolePlace}
use Rattle.fort_theory.specs.Cores as core
use Rattle.fort_theory.specs.Cores.{Core, Rel, Binary}
use Rattle.fort_theory.specs.Parts.{is_free}
use Rattle.fort_tables.specs.Tables.{Table, listed_table}
use Rattle.fort_tables.specs.LabelRules.{label_of}
use Rattle.fort_alike.specs.Atoms.{normal_atom}
use Rattle.fort_alike.specs.ExpressionAlike.{expression_atom}
use Rattle.fort_alike.specs.ListedAtoms.{listed}
use Rattle.fort_alike.specs.AtomRules.{atom_rule}
use Rattle.fort_alike.specs.ClosureTests.{closure_test}
use Rattle.fort_alike.specs.Subterms.{subterms}
use Rattle.fort_alike.proofs.AtomMeans.{labels_alike}
use Rattle.fort_alike.proofs.ClosureTestLaws.{IsClosure-unread}
use Rattle.fort_alike.proofs.RuleLaws.{IsLabelRule-atom}
use Rattle.fort_alike.proofs.SubtermLaws.{ListsSubterms-subterms}
use Rattle.fort_alike.proofs.SystemAtoms.{IsListedAtom-normal}
use Rattle.fort_alike.proofs.TermLabels.{IsLabelRule-term, labels-AlikeAtTerm}
use Rattle.fort_theory.specs.Logic.{Connective}
use Rattle.fort_tables.specs.ManyLabels.{TellsMany}
use Rattle.fort_parts.specs.PartColumns.{columns_of, place_in, places_in}
use Rattle.fort_parts.specs.PartAnswers.{Answer, OfTable}
use Rattle.fort_parts.specs.RightAnswers.{IsRightBy}
use Rattle.fort_parts.proofs.PartColumnLaws.{columns_of-Normal, columns_of-IsTerm}
use Rattle.fort_parts.proofs.AtomResults.{LabelsTellAlike-Nf, LabelsTellAlike-Is}
use Rattle.fort_parts.proofs.StepAnswers.{joined_label, LabelsTell-joined, projected_label, LabelsTell-projected, many_label, LabelsTell-many}
use Rattle.fort_parts.specs.ToldParts.{ToldWith}
use Rattle.fort_parts.proofs.ToldLaws.{LabelsTell-with, LabelsTell-Leaf}
use Rattle.fort_certificate_theory.specs.ClosureSteps.{numbers_of}
use Rattle.fort_certificate_theory.specs.Made.{MadeSoFar}
use Rattle.fort_certificate_theory.specs.PartRules.{Local, closure_for, relation_local, normal_local, term_local, product_local, project_local, many_local, IsRelationLocal, IsNormalLocal, IsExpressionLocal}
use Rattle.fort_certificate_theory.proofs.AtomTables.{HasClosuresFor, atom_over, relation_listed, relation_closes, relation_right, normal_right, term_right, expression_right}
use Rattle.fort_certificate_theory.proofs.JoinedTables.{bound_many, joined_signature, product_right, project_right, many_right}
use Rattle.fort_certificate_theory.proofs.LabelledParts.{AreLabelsOf}

module _ (reduces : Bool) (system : PatternSystem) (is : IsSystem system) where
  pub labels_relation : (made : MadeSoFar) (rel : Rel) (index x y : ℕ) (local : Local) → length (columns_of (core.Leaf (core.Related rel index x y))) ≤ most_columns → HasClosuresFor system made (core.Leaf (core.Related rel index x y))
      → IsRelationLocal system made rel index x y local → AreLabelsOf reduces system (core.Leaf (core.Related rel index x y)) local
  labels_relation made rel index x y local few right h =
      let a = atom_over system is rel index x y h.lefts h.rights in
      let atom = relation_listed system is rel index x y h.lefts h.rights h.patterns in
      let test = closure_test h.rights h.lefts (numbers_of (closure_for made rel index)) in
      let own = relation_local system rel index x y h.lefts h.rights (closure_for made rel index) in
      subst (AreLabelsOf reduces system (core.Leaf (core.Related rel index x y))) (sym h.is) (record {
        law = IsLabelRule-atom a test atom;
        signature = refl;
        columns = refl;
        alike = LabelsTell-Leaf reduces system (core.Related rel index x y) (label_of own.rule)
            (labels_alike a test atom (relation_closes system is made rel index x y h.lefts h.rights h.patterns right));
        right = λ t by. relation_right system is made rel index x y own (listed_table t) few right (record { lefts = h.lefts; rights = h.rights; patterns = h.patterns; is = refl }) by;
      })

  pub labels_normal : (index x : ℕ) (local : Local) → IsNormalLocal system index local → AreLabelsOf reduces system (core.Leaf (core.Normal index x)) local
  labels_normal index x local h =
      let a = listed (normal_atom system index) h.lefts [] in
      let atom = IsListedAtom-normal system is index h.lefts h.patterns in
      let test : Pattern → Pattern → Bool = λ p q. false in
      let own = normal_local system index h.lefts in
      subst (AreLabelsOf reduces system (core.Leaf (core.Normal index x))) (sym h.is) (record {
        law = IsLabelRule-atom a test atom;
        signature = refl;
        columns = sym (ap length (columns_of-Normal index x));
        alike = LabelsTell-Leaf reduces system (core.Normal index x) (label_of own.rule)
            (LabelsTellAlike-Nf system (label_of (atom_rule a test)) index x (labels_alike a test atom (IsClosure-unread a test refl)));
        right = λ t by. normal_right system is index x own (listed_table t) (record { lefts = h.lefts; patterns = h.patterns; is = refl }) by;
      })

  pub labels_term : (x : ℕ) (term : Tree) → AreLabelsOf reduces system (core.Leaf (core.IsTerm x term)) (term_local system.signature term)
  labels_term x term = record {
    law = IsLabelRule-term system.signature (subterms term);
    signature = refl;
    columns = sym (ap length (columns_of-IsTerm x term));
    alike = LabelsTell-Leaf reduces system (core.IsTerm x term) (label_of (term_local system.signature term).rule)
        (LabelsTellAlike-Is system (label_of (term_local system.signature term).rule) x term (labels-AlikeAtTerm system.signature term (subterms term) (ListsSubterms-subterms term)));
    right = λ t by. term_right system is x term (listed_table t) by;
  }

  pub labels_expression : (e : Expression) (number : HoleNumber) (place : HolePlace) (x y : ℕ) (local : Local)
      → IsExpressionLocal (expression_atom system e number place x y (columns_of (core.Leaf (core.InContext e number place x y)))) local
      → AreLabelsOf reduces system (core.Leaf (core.InContext e number place x y)) local
  labels_expression e number place x y local h = record {
    law = h.rule;
    signature = h.signature;
    columns = h.columns;
    alike = LabelsTell-Leaf reduces system (core.InContext e number place x y) (label_of local.rule) h.alike;
    right = λ t by. expression_right system is e number place x y local (listed_table t) h by;
  }

module _ (reduces : Bool) (system : PatternSystem) where
  pub labels_joined : (op : Connective) (f g : Core) (first second : Answer) → 0 < length (columns_of (Binary op f g)) → length (columns_of (Binary op f g)) ≤ most_columns
      → IsRightBy system (ToldWith reduces system) f first → IsRightBy system (ToldWith reduces system) g second → AreLabelsOf reduces system (Binary op f g) (product_local op (Binary op f g) f g first second)
  labels_joined op f g first second some few one other =
      let h = Binary op f g in
      record {
        law = record { some = some; narrow = few; tells = λ k ws. refl };
        signature = joined_signature system op f g first second (places_in (columns_of h) (columns_of f)) (places_in (columns_of h) (columns_of g)) some one.answers.over other.answers.over;
        columns = refl;
        alike = LabelsTell-with reduces system h (joined_label system op f g first second) (LabelsTell-joined system op f g (ToldWith reduces system) first second one other);
        right = λ t by. product_right system op f g first second (product_local op h f g first second) (listed_table t) some few one.answers other.answers refl by;
      }

  pub labels_projected : (n : ℕ) (f : Core) (body : Table) → is_free n f ≡ true → 0 < length (columns_of (core.Exists n f)) → length (columns_of (core.Exists n f)) ≤ most_columns
      → IsRightBy system (ToldWith reduces system) f (OfTable body) → AreLabelsOf reduces system (core.Exists n f) (project_local body (place_in (columns_of f) n))
  labels_projected n f body among some few right =
      let count : body.columns - 1 ≡ length (columns_of (core.Exists n f)) = omega (arith, right.answers.over.columns_are, bound_many n f among) in
      record {
        law = record { some = omega (arith, some, count); narrow = omega (arith, few, count); tells = λ k ws. refl };
        signature = right.answers.over.signature;
        columns = count;
        alike = LabelsTell-with reduces system (core.Exists n f) (projected_label system n f body among) (LabelsTell-projected system n f body among (ToldWith reduces system) right);
        right = λ t by. project_right system n f body (project_local body (place_in (columns_of f) n)) (listed_table t) among some few right.answers refl by;
      }

  pub labels_counted : (n : ℕ) (f : Core) (many : ℕ → Bool) (body : Table) → is_free n f ≡ true → 0 < length (columns_of (core.Infinite n f)) → length (columns_of (core.Infinite n f)) ≤ most_columns
      → IsRightBy system (ToldWith reduces system) f (OfTable body) → TellsMany body (place_in (columns_of f) n) many → AreLabelsOf reduces system (core.Infinite n f) (many_local body (place_in (columns_of f) n) many)
  labels_counted n f many body among some few right tells =
      let count : body.columns - 1 ≡ length (columns_of (core.Infinite n f)) = omega (arith, right.answers.over.columns_are, bound_many n f among) in
      record {
        law = record { some = omega (arith, some, count); narrow = omega (arith, few, count); tells = λ k ws. refl };
        signature = right.answers.over.signature;
        columns = count;
        alike = LabelsTell-with reduces system (core.Infinite n f) (many_label system n f body many among tells) (LabelsTell-many system n f body many among tells (ToldWith reduces system) right);
        right = λ t by. many_right system n f many body (many_local body (place_in (columns_of f) n) many) (listed_table t) among some few right.answers tells refl by;
      }
