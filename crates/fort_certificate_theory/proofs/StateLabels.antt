-- A table as a rule of labels, by which the label of a tuple is its presence and its state; by a right table of an expression these tell when tuples are alike and of which the expression holds.
use Rattle.std.proofs.Common.{◌≡◌, ℕ, ◌<◌, List, [], ◌∷◌, map, length, get_or, Bool, true, false, None, Some, true≢false, refl, ap, sym, ◌∙◌, arith, subst, inl, inr, ⊎_elim}
use Rattle.std.specs.Prelude.{◌↔◌, Decides}
use Rattle.std.proofs.lemmas.Bool.{cases_eq}
use Rattle.std.proofs.lemmas.List.{length-map, get_or-map, ext_get_or}
use Rattle.std.proofs.lemmas.List.Kept.{AllPairs-from_increasing}
use Rattle.fort_theory.specs.Logic.{Surely}
use Rattle.fort_theory.specs.Signatures.{Signature, HasConstant}
use Rattle.fort_theory.specs.Patterns.{PatternSystem}
use Rattle.fort_theory.specs.Rewriting.{Relation}
use Rattle.fort_theory.specs.Expressions.{Expression}
use Rattle.fort_theory.specs.Contexts.{HoleNumber, HolePlace}
use Rattle.fort_theory.specs.Cores as core
use Rattle.fort_theory.specs.Cores.{Core}
use Rattle.fort_tables.specs.Tuples.{Tuple, root, kid, kids, kid_count, presence, IsTuple, IsFull}
use Rattle.fort_tables.specs.Entries.{entry}
use Rattle.fort_tables.specs.Tables.{Table, full_presence, state_of}
use Rattle.fort_tables.specs.LabelRules.{LabelRule, label_of}
use Rattle.fort_tables.proofs.TupleLaws.{tuple_induction, fold_tuple-step, length-tabulate, get_or-tabulate}
use Rattle.fort_tables.proofs.TableLaws.{presence_root, table_state}
use Rattle.fort_tables.proofs.PresenceLaws.{full_from_presence, presence_from_full}
use Rattle.fort_tables.proofs.LabelRuleLaws.{label_of-step}
use Rattle.fort_alike.specs.Atoms.{OfTwo}
use Rattle.fort_alike.specs.ExpressionAlike.{ExpressionAtom, expression_atom, IsTrueOf, AlikeAtExpression}
use Rattle.fort_alike.specs.ListedAtoms.{AreArguments}
use Rattle.fort_alike.proofs.AtomPlaces.{ArePlaces-columns}
use Rattle.fort_tables.specs.OperationTruth.{accepts}
use Rattle.fort_parts.specs.PartColumns.{columns_of}
use Rattle.fort_parts.specs.PartAnswers.{OfTable}
use Rattle.fort_parts.specs.RightAnswers.{IsRightFor}
use Rattle.fort_parts.proofs.AtomAnswers.{IsTrueOf-expression}
use Rattle.fort_parts.proofs.PartColumnLaws.{AreColumns-columns_of}
use Rattle.fort_certificate_theory.specs.PartRules.{Local, IsExpressionLocal}
use Rattle.fort_certificate_theory.proofs.LabelledParts.{assigned}

abbrev state_word : List ℕ → ℕ
state_word w = get_or w 1 0

abbrev state_rule : Table → LabelRule
state_rule table = record {
  signature = table.signature;
  columns = table.columns;
  step = λ f ws. presence f ∷ table.target (entry f (map state_word ws)) ∷ [];
}

abbrev pub state_local : Table → Local
state_local table = record { rule = state_rule table; accepting = λ w. table.accepting (state_word w) }

label-state : (table : Table) (t : Tuple) → label_of (state_rule table) t ≡ presence t ∷ state_of table t ∷ []
label-state table =
    let label = label_of (state_rule table) in
    let state = state_of table in
    tuple_induction (λ t. label t ≡ presence t ∷ state t ∷ [])
    (λ t ih.
    let count : length (kids t) ≡ kid_count t = length-tabulate (kid_count t) (kid t) in
    let labels : length (map label (kids t)) ≡ kid_count t = length-map (kids t) label ∙ count in
    let long : length (map state_word (map label (kids t))) ≡ kid_count t = length-map (map label (kids t)) state_word ∙ labels in
    let states : map state_word (map label (kids t)) ≡ map state (kids t) =
    ext_get_or 0 (map state_word (map label (kids t))) (map state (kids t)) (long ∙ (sym count ∙ sym (length-map (kids t) state)))
    (λ j l.
    let m : j < kid_count t = omega (arith, long) in
    let at : get_or (kids t) j [] ≡ kid t j = get_or-tabulate (kid_count t) (kid t) j [] m in
    get_or-map state_word (map label (kids t)) j [] 0 (omega (arith, labels))
    ∙ (ap state_word (get_or-map label (kids t) j [] [] (omega (arith, count)))
    ∙ (ap (λ u. state_word (label u)) at
    ∙ (ap state_word (ih j m)
    ∙ (ap state (sym at)
    ∙ sym (get_or-map state (kids t) j [] 0 (omega (arith, count)))))))) in
    label_of-step (state_rule table) t
    ∙ ((λ i. presence_root t i ∷ table.target (entry (root t) (states i)) ∷ [])
    ∙ ap (λ q. presence t ∷ q ∷ []) (sym (fold_tuple-step (λ f ks. table.target (entry f ks)) t))))

-- where both arguments are there, so are all columns
full_from_arguments : (R : Relation) (t : Tuple) (i j : ℕ) → AreArguments (length t) i j → OfTwo R (get_or t i None) (get_or t j None) → IsFull t
full_from_arguments R t i j (inl w) h = one t w.0 (subst (λ k. OfTwo R (get_or t k None) (get_or t j None)) w.1 h)
  where
    one : (u : Tuple) → length u ≡ 1 → OfTwo R (get_or u 0 None) (get_or t j None) → IsFull u
    one [] e k = absurd (omega arith)
    one (None ∷ []) e k = k
    one (Some x ∷ []) e k = tt
    one (x ∷ y ∷ u) e k = absurd (omega arith)
full_from_arguments R t i j (inr (inl w)) h = up t w.0 (subst (λ k. OfTwo R (get_or t 0 None) (get_or t k None)) w.2 (subst (λ k. OfTwo R (get_or t k None) (get_or t j None)) w.1 h))
  where
    up : (u : Tuple) → length u ≡ 2 → OfTwo R (get_or u 0 None) (get_or u 1 None) → IsFull u
    up [] e k = absurd (omega arith)
    up (x ∷ []) e k = absurd (omega arith)
    up (None ∷ y ∷ []) e k = absurd k
    up (Some x ∷ None ∷ []) e k = k
    up (Some x ∷ Some y ∷ []) e k = tt
    up (x ∷ y ∷ z ∷ u) e k = absurd (omega arith)
full_from_arguments R t i j (inr (inr w)) h = down t w.0 (subst (λ k. OfTwo R (get_or t 1 None) (get_or t k None)) w.2 (subst (λ k. OfTwo R (get_or t k None) (get_or t j None)) w.1 h))
  where
    down : (u : Tuple) → length u ≡ 2 → OfTwo R (get_or u 1 None) (get_or u 0 None) → IsFull u
    down [] e k = absurd (omega arith)
    down (x ∷ []) e k = absurd (omega arith)
    down (x ∷ None ∷ []) e k = absurd k
    down (None ∷ Some y ∷ []) e k = absurd k
    down (Some x ∷ Some y ∷ []) e k = tt
    down (x ∷ y ∷ z ∷ u) e k = absurd (omega arith)

module _ (system : PatternSystem) (constant : HasConstant system.signature) (e : Expression) (number : HoleNumber) (place : HolePlace) (x y : ℕ) (table : Table) where
  abbrev own : Core
  own = core.Leaf (core.InContext e number place x y)

  abbrev atom : ExpressionAtom
  atom = expression_atom system e number place x y (columns_of own)

  module _ (right : IsRightFor system own (OfTable table)) where
    at : (t : Tuple) → IsTuple system.signature (length (columns_of own)) t → IsTuple table.signature table.columns t
    at t is =
        subst (λ (s : Signature). IsTuple s table.columns t) (sym right.answers.over.signature)
        (subst (λ (n : ℕ). IsTuple system.signature n t) (sym right.answers.over.columns_are) is)

    labels_tell : (t u : Tuple) → IsTuple system.signature (length (columns_of own)) t → IsTuple system.signature (length (columns_of own)) u
        → (label_of (state_rule table) t ≡ label_of (state_rule table) u) ↔ AlikeAtExpression atom t u
    labels_tell t u l m =
        let tells = right.alike t u (at t l) (at u m) in (
          (λ h. tells.0 (ap state_word (sym (label-state table t) ∙ (h ∙ label-state table u)))),
          (λ (h : AlikeAtExpression atom t u).
              let states : state_of table t ≡ state_of table u = tells.1 h in
              label-state table t ∙ ((λ i. h.present i ∷ states i ∷ []) ∙ sym (label-state table u))),
        )

    -- a tuple of terms
    full_accepted : (t : Tuple) → IsTuple system.signature (length (columns_of own)) t → IsFull t → Decides (accepts table t) (Surely (IsTrueOf atom t))
    full_accepted t is full =
        let up = AllPairs-from_increasing (columns_of own) (AreColumns-columns_of own).ascending in
        let v = assigned system.signature (columns_of own) t constant (λ i j l m. up i j 0 l m) is.width full is.grounded in
        let d = right.answers.truth v.places v.grounded in
        let w = IsTrueOf-expression system table e number place x y v.places in
        subst (λ (u : Tuple). Decides (accepts table u) (Surely (IsTrueOf atom u))) v.is
        ((λ h not. d.0 h (λ p. not (w.1 p))), (λ p. d.1 (λ not. p (λ q. not (w.0 q)))))

    not_accepted : (b : Bool) (P : Type 0) → (b ≡ true → P) → (P → ⊥) → b ≡ false
    not_accepted true P h other = absurd (other (h refl))
    not_accepted false P h other = refl

    -- another tuple
    partial_accepted : (t : Tuple) → IsTuple system.signature (length (columns_of own)) t → (IsFull t → ⊥) → Decides (accepts table t) (Surely (IsTrueOf atom t))
    partial_accepted t is partial =
        let places = ArePlaces-columns core.Eq 1 x y (columns_of own) (AreColumns-columns_of (core.Leaf (core.Related core.Eq 1 x y))) in
        let s = table_state table right.answers.over.lawful t (at t is) in
        let arguments : AreArguments (length t) atom.first atom.second = subst (λ n. AreArguments n atom.first atom.second) (sym is.width) places.arguments in
        let refused : accepts table t ≡ false =
        not_accepted (accepts table t) (IsFull t)
        (λ h. full_from_presence t (sym s.presence_is ∙ (right.answers.over.lawful.full (state_of table t) s.within h ∙ ap full_presence (sym (at t is).width)))) partial in (
          (λ h. absurd (true≢false (sym h ∙ refused))),
          (λ p. absurd (p (λ q. partial (full_from_arguments _ t atom.first atom.second arguments q)))),
        )

    accepted : (t : Tuple) → IsTuple system.signature (length (columns_of own)) t → Decides (accepts table t) (Surely (IsTrueOf atom t))
    accepted t is =
        ⊎_elim
        (λ (h : presence t ≡ full_presence (length t)). full_accepted t is (full_from_presence t h))
        (λ other. partial_accepted t is (λ full. other (presence_from_full t full)))
        (cases_eq (presence t) (full_presence (length t)))

    -- Result
    pub IsExpressionLocal-states : IsExpressionLocal atom (state_local table)
    IsExpressionLocal-states = record {
      rule = record { some = right.answers.over.lawful.some; narrow = right.answers.over.lawful.narrow; tells = λ f ws. refl };
      signature = right.answers.over.signature;
      columns = right.answers.over.columns_are;
      alike = labels_tell;
      accepted = λ t is. subst (λ (w : List ℕ). Decides (table.accepting (state_word w)) (Surely (IsTrueOf atom t))) (sym (label-state table t)) (accepted t is);
    }
