-- Labels whose states are those of a transducer that is compiled from an expression tell likeness at its atom, and its truth.
use Rattle.std.specs.Prelude.{◌≡◌, ◌↔◌, ℕ, suc, ◌+◌, ◌<◌, List, [], ◌∷◌, map, length, Contains, Decides, Bool, ◌==◌, refl}
use Rattle.std.specs.List.{position_or_len}
use Rattle.std.proofs.Common.{sym, ap, subst, ◌∙◌, arith}
use Rattle.fort_theory.specs.Patterns.{PatternSystem}
use Rattle.fort_theory.specs.Expressions.{Expression}
use Rattle.fort_theory.specs.Contexts.{HoleNumber, HolePlace}
use Rattle.fort_theory.proofs.Lists.{Contains-map}
use Rattle.fort_theory.specs.Cores.{Eq, Leaf, Related, InContext}
use Rattle.fort_theory.specs.Parts.{AreColumns}
use Rattle.fort_theory.proofs.ColumnLaws.{AreColumns-same}
use Rattle.fort_reachability.specs.CompiledNumbers.{TakenTo, IsCompiledTo}
use Rattle.fort_tables.specs.LabelRules.{label_of}
use Rattle.fort_alike.specs.ExpressionAlike.{ExpressionAtom, expression_atom, IsTrueOf, AlikeAtExpression}
use Rattle.fort_alike.specs.ListedAtoms.{AreArguments}
use Rattle.fort_alike.specs.ConditionStates.{AreConditions}
use Rattle.fort_alike.specs.ExpressionRules.{ExpressionShape, shape_of, expression_rule, expression_accepts}
use Rattle.fort_alike.specs.AutomatonMoves.{AreMovesOf}
use Rattle.fort_alike.proofs.CompiledStates.{AreConditions-moves}
use Rattle.fort_alike.proofs.LabelMeans.{labels_alike, Decides-expression_accepts}
use Rattle.fort_tree_automata.specs.NtaView.{automaton_of}
use Rattle.fort_transducers.specs.declared.agtt.Agtt.{Agtt}
use Rattle.fort_transducers.specs.AgttView.{NamesItsStates, transducer_of}
use Rattle.fort_label_bits.specs.RowBits.{bit_of}
use Rattle.fort_label_bits.specs.BitRowLists.{row_in}
use Rattle.fort_label_bits.specs.declared.rule_places.RulePlaces.{RulePlaces}
use Rattle.fort_label_bits.specs.declared.arguments.Arguments.{Arguments}
use Rattle.fort_relation_exprs.specs.CompiledAgtt.{IsCompiledAgtt}
use Rattle.fort_relation_exprs.specs.RexSeen.{RexSeen, states_of}
use Rattle.fort_relation_exprs.specs.RexInside.{place_pair, pair_place, IsOfTransducer}
use Rattle.fort_relation_exprs.specs.RexView.{TellsAlikeInContext, AcceptsInContext}

-- pairs of states, as places and back
pub pairs-again : (ps : List (ℕ × ℕ)) → map place_pair (map pair_place ps) ≡ ps
pairs-again [] = refl
pairs-again (p ∷ ps) = λ i. p ∷ pairs-again ps i

pub pair-low : (agtt : Agtt) → NamesItsStates agtt → (rules : List RulePlaces) → rules ≡ map pair_place agtt.pairs.items → (r : RulePlaces) → Contains rules r
    → (r.left < agtt.left.states) × (r.right < agtt.right.states)
pair-low agtt named rules are r k =
    let again : map place_pair rules ≡ agtt.pairs.items = ap (map place_pair) are ∙ pairs-again agtt.pairs.items in
    named.pairs r.left r.right (subst (λ (ps : List (ℕ × ℕ)). Contains ps (r.left, r.right)) again (Contains-map place_pair rules r k))

pub none-plus : (n : ℕ) → 0 + n ≡ n
none-plus n = omega arith

pub one-more : (n : ℕ) → 1 + n ≡ suc n
one-more n = omega arith

-- an atom of two variables has their columns, whatever it is
pub related_columns : (e : Expression) (number : HoleNumber) (place : HolePlace) (x y : ℕ) (columns : List ℕ) → AreColumns (Leaf (InContext e number place x y)) columns
    → AreColumns (Leaf (Related Eq 0 x y)) columns
related_columns e number place x y columns are = AreColumns-same (Leaf (Related Eq 0 x y)) (Leaf (InContext e number place x y)) columns (λ n. refl) are

module _ (system : PatternSystem) (e : Expression) (agtt : Agtt) (compiled : IsCompiledAgtt system e agtt) (number : HoleNumber) (place : HolePlace)
    (arguments : Arguments) (l : RexSeen) (of : IsOfTransducer agtt number place arguments l) where
  are : AreConditions system e (TakenTo (automaton_of agtt.left)) (TakenTo (automaton_of agtt.right)) (states_of l)
  are =
      let left_leads : ℕ → ℕ → Bool = λ p k. bit_of k (row_in l.left.leads p) in
      let right_leads : ℕ → ℕ → Bool = λ p k. bit_of (l.left.count + k) (row_in l.right.leads p) in
      let is : IsCompiledTo system e (transducer_of agtt) l.left.count l.right.count =
      subst (λ n. IsCompiledTo system e (transducer_of agtt) n l.right.count) (sym of.lefts)
      (subst (λ n. IsCompiledTo system e (transducer_of agtt) agtt.left.states n) (sym of.rights) compiled.compiled) in
      AreConditions-moves system e (transducer_of agtt) l.left.count l.right.count is l.left.moves l.right.moves left_leads right_leads l.pairs
      (subst (λ n. AreMovesOf (automaton_of agtt.left) n l.left.moves left_leads) (sym of.lefts) of.left)
      (subst (λ n. AreMovesOf (automaton_of agtt.right) n l.right.moves right_leads) (sym of.rights) of.right)
      (λ a b. subst (λ (ps : List (ℕ × ℕ)). (transducer_of agtt).HasPair a b ↔ Contains ps (a, b)) (sym of.pairs) ((λ c. c), (λ c. c)))

  module _ (x y : ℕ) (columns : List ℕ) (count : arguments.columns ≡ length columns) (first : arguments.first ≡ position_or_len (λ n. n == x) columns)
      (second : arguments.second ≡ position_or_len (λ n. n == y) columns) (are_arguments : AreArguments arguments.columns arguments.first arguments.second) where
    abbrev a : ExpressionAtom
    a = expression_atom system e number place x y columns

    shape-is : l.shape ≡ shape_of a
    shape-is = of.shape ∙ (λ i. record { columns = count i; first = first i; second = second i; number = number; place = place })

    own : AreArguments a.columns a.first a.second
    own = subst (λ n. AreArguments n a.first a.second) count
        (subst (λ n. AreArguments arguments.columns n a.second) first (subst (λ n. AreArguments arguments.columns arguments.first n) second are_arguments))

    -- Result
    pub tells_alike : TellsAlikeInContext a l
    tells_alike t u ti ui =
        subst (λ (s : ExpressionShape). (label_of (expression_rule system.signature s (states_of l)) t ≡ label_of (expression_rule system.signature s (states_of l)) u) ↔ AlikeAtExpression a t u)
        (sym shape-is)
        (labels_alike a (states_of l) (TakenTo (automaton_of agtt.left)) (TakenTo (automaton_of agtt.right)) own are t u ti ui)

    -- Result
    pub accepts_true : AcceptsInContext a l
    accepts_true t ti =
        subst (λ (s : ExpressionShape). Decides (expression_accepts s (states_of l) (label_of (expression_rule system.signature s (states_of l)) t)) (IsTrueOf a t))
        (sym shape-is)
        (Decides-expression_accepts a (states_of l) (TakenTo (automaton_of agtt.left)) (TakenTo (automaton_of agtt.right)) own are t ti)
