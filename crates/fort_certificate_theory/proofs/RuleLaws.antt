-- What was made tells one answer of each formula, one value, and one rule of each part, or for an expression rules that tell the same.
use Rattle.std.proofs.Common.{◌≡◌, ℕ, zero, suc, ◌<◌, List, [], ◌∷◌, map, length, get_or, Bool, not, true≢false, ap, sym, ◌∙◌, arith, subst, inl, inr, ⊎_elim}
use Rattle.std.specs.Prelude.{◌↔◌, Contains, Decides}
use Rattle.std.proofs.lemmas.Bool.{cases_lt}
use Rattle.std.proofs.lemmas.Bool.Decides.{same_from_decides}
use Rattle.std.proofs.lemmas.List.Elements.{Contains-get_or}
use Rattle.fort_theory.specs.Signatures.{Signature}
use Rattle.fort_theory.specs.Sides.{at_index}
use Rattle.fort_theory.specs.Patterns.{Pair, PatternSystem}
use Rattle.fort_theory.specs.Cores as core
use Rattle.fort_theory.specs.Cores.{Core, Rel, Atom}
use Rattle.fort_theory.specs.EachOnce.{StandsBefore}
use Rattle.fort_theory.specs.PartLists.{AreParts}
use Rattle.fort_tables.specs.Tuples.{Tuple, IsTuple}
use Rattle.fort_tables.specs.Tables.{Table}
use Rattle.fort_tables.specs.LabelRules.{IsLabelRule, label_of}
use Rattle.fort_alike.specs.Atoms.{pairs_for}
use Rattle.fort_alike.specs.ExpressionAlike.{ExpressionAtom, expression_atom, IsTrueOf, AlikeAtExpression}
use Rattle.fort_alike.proofs.AtomTruth.{Decides-Surely}
use Rattle.fort_tables.specs.OperationTruth.{complemented}
use Rattle.fort_theory.specs.Logic.{Connective}
use Rattle.fort_tables.specs.Products.{connected}
use Rattle.fort_tables.specs.Projections.{ArePure, some_below}
use Rattle.fort_tables.specs.ManyLabels.{many_value}
use Rattle.fort_parts.specs.PartColumns.{columns_of, place_in}
use Rattle.fort_parts.specs.PartAnswers.{Answer, OfValue, OfTable}
use Rattle.fort_certificate_theory.specs.Made.{MadeSoFar, IsPartAt, IsAnswerOf, OfStep, Turned}
use Rattle.fort_certificate_theory.specs.PartRules.{Local, closure_for, relation_local, normal_local, product_local, project_local, many_local, IsRelationLocal, IsNormalLocal, IsProductLocal, IsProjectLocal, IsCounted, is_many, IsManyLocal, IsLocalOf, IsConnectedValue, IsManyValue, IsValueOf, IsAtomLocal, IsExpressionLocal}
use Rattle.fort_alike.proofs.OneInOrder.{subpatterns_one}
use Rattle.fort_certificate_theory.proofs.PureLists.{pure_one}
use Rattle.fort_certificate_theory.proofs.SameLabels.{TellTheSame, AreOneOrSame}

stands_before : {A : Type 0} (xs : List A) (j k : ℕ) (d x y : A) → j < k → k < length xs → get_or xs j d ≡ x → get_or xs k d ≡ y → StandsBefore xs x y
stands_before [] j k d x y l m p q = absurd (omega arith)
stands_before (z ∷ xs) j zero d x y l m p q = absurd (omega arith)
stands_before (z ∷ xs) zero (suc k) d x y l m p q =
    record { front = []; back = xs; split = ap (λ w. w ∷ xs) p; behind = subst (Contains xs) q (Contains-get_or xs k d (omega arith)) }
stands_before (z ∷ xs) (suc j) (suc k) d x y l m p q =
    let w = stands_before xs j k d x y (omega arith) (omega arith) p q in
    record { front = z ∷ w.front; back = w.back; split = ap (λ ys. z ∷ ys) w.split; behind = w.behind }

-- a part has one number
pub part_one : (f : Core) (parts : List Core) → AreParts f parts → (g : Core) (j k : ℕ) → IsPartAt parts j g → IsPartAt parts k g → j ≡ k
part_one f parts are g j k a b =
    ⊎_elim
    (λ (l : j < k). absurd (are.distinct g (stands_before parts j k core.True g g l b.0 a.1 b.1)))
    (λ l. ⊎_elim
    (λ (m : k < j). absurd (are.distinct g (stands_before parts k j core.True g g m a.0 b.1 a.1)))
    (λ m. omega arith)
    (cases_lt k j))
    (cases_lt j k)

pub table_same : (a b : Table) → OfTable a ≡ OfTable b → a ≡ b
table_same a b h = cc

value_same : (a b : Bool) → OfValue a ≡ OfValue b → a ≡ b
value_same a b h = cc

-- Result: by labels that accept exactly the tuples of which the expression holds
pub IsExpressionLocal-decided : (atom : ExpressionAtom) (local : Local) → IsLabelRule local.rule → local.rule.signature ≡ atom.system.signature → local.rule.columns ≡ atom.columns
    → ((t u : Tuple) → IsTuple atom.system.signature atom.columns t → IsTuple atom.system.signature atom.columns u → (label_of local.rule t ≡ label_of local.rule u) ↔ AlikeAtExpression atom t u)
    → ((t : Tuple) → IsTuple atom.system.signature atom.columns t → Decides (local.accepting (label_of local.rule t)) (IsTrueOf atom t)) → IsExpressionLocal atom local
IsExpressionLocal-decided atom local law sig columns alike accepted = record {
  rule = law;
  signature = sig;
  columns = columns;
  alike = alike;
  accepted = λ t is. Decides-Surely (local.accepting (label_of local.rule t)) (accepted t is);
}

-- two rules by which tuples are alike at one expression
expressions_same : (atom : ExpressionAtom) (a b : Local) → IsExpressionLocal atom a → IsExpressionLocal atom b → TellTheSame a b
expressions_same atom a b h k =
    let at : (t : Tuple) → IsTuple a.rule.signature a.rule.columns t → IsTuple atom.system.signature atom.columns t =
    λ t is. subst (λ (s : Signature). IsTuple s atom.columns t) h.signature (subst (λ (n : ℕ). IsTuple a.rule.signature n t) h.columns is) in
    record {
      signature = h.signature ∙ sym k.signature;
      columns = h.columns ∙ sym k.columns;
      law = h.rule;
      other_law = k.rule;
      labels = λ t u l m.
          let one = h.alike t u (at t l) (at u m) in
          let two = k.alike t u (at t l) (at u m) in
          ((λ e. two.1 (one.0 e)), (λ e. one.1 (two.0 e)));
      accepted = λ t l. same_from_decides (a.accepting (label_of a.rule t)) (b.accepting (label_of b.rule t)) (h.accepted t (at t l)) (k.accepted t (at t l));
    }

module _ (root : Core) (parts : List Core) (are : AreParts root parts) (made : MadeSoFar) where
  pub answer_one : (f : Core) (a b : Answer) → IsAnswerOf parts made f a → IsAnswerOf parts made f b → a ≡ b
  answer_one f a b (OfStep j p t e) (OfStep k q u d) = sym e ∙ (ap made.answers (part_one root parts are f j k p q) ∙ d)
  answer_one f a b (OfStep k p t e) (Turned body h r) = absurd (true≢false (sym h ∙ t))
  answer_one f a b (Turned body h r) (OfStep k p t e) = absurd (true≢false (sym h ∙ t))
  answer_one f a b (Turned {f = g} body h r) (Turned other k s) =
      ap (λ t. OfTable (complemented t)) (table_same body other (answer_one g (OfTable body) (OfTable other) r s))

  pub body_one : (f : Core) (a b : Table) → IsAnswerOf parts made f (OfTable a) → IsAnswerOf parts made f (OfTable b) → a ≡ b
  body_one f a b h k = table_same a b (answer_one f (OfTable a) (OfTable b) h k)

  truth_one : (f : Core) (a b : Bool) → IsAnswerOf parts made f (OfValue a) → IsAnswerOf parts made f (OfValue b) → a ≡ b
  truth_one f a b h k = value_same a b (answer_one f (OfValue a) (OfValue b) h k)

  -- the body and its pure states
  pub record IsOneCounted (a b : Table) (xs ys : List ℕ) : Type 0 where
    pub table : a ≡ b
    pub states : xs ≡ ys

  pub counted_one : (n : ℕ) (f : Core) (a b : Table) (xs ys : List ℕ) → IsCounted parts made n f a xs → IsCounted parts made n f b ys → IsOneCounted a b xs ys
  counted_one n f a b xs ys h k =
      let e = body_one f a b h.body_is k.body_is in
      record { table = e; states = pure_one b (place_in (columns_of f) n) xs ys (subst (λ (t : Table). ArePure t (place_in (columns_of f) n) xs) e h.pure) k.pure }

  product_one : (op : Connective) (h f g : Core) (a b : Local) → IsProductLocal parts made op h f g a → IsProductLocal parts made op h f g b → a ≡ b
  product_one op h f g a b x y =
      x.is
      ∙ (ap (λ u. product_local op h f g u x.second) (answer_one f x.first y.first x.first_is y.first_is)
      ∙ (ap (product_local op h f g y.first) (answer_one g x.second y.second x.second_is y.second_is)
      ∙ sym y.is))

  connected_one : (op : Connective) (f g : Core) (a b : Bool) → IsConnectedValue parts made op f g a → IsConnectedValue parts made op f g b → a ≡ b
  connected_one op f g a b x y =
      x.is
      ∙ (ap (λ u. connected op u x.second) (truth_one f x.first y.first x.first_is y.first_is)
      ∙ (ap (connected op y.first) (truth_one g x.second y.second x.second_is y.second_is)
      ∙ sym y.is))

  relation_one : (system : PatternSystem) (rel : Rel) (index x y : ℕ) (a b : Local) → IsRelationLocal system made rel index x y a → IsRelationLocal system made rel index x y b → a ≡ b
  relation_one system rel index x y a b h k =
      let pairs = pairs_for rel (at_index index system.rules) in
      let l = subpatterns_one (map (λ (pair : Pair). pair.0) pairs) h.lefts k.lefts h.patterns.left k.patterns.left in
      let r = subpatterns_one (map (λ (pair : Pair). pair.1) pairs) h.rights k.rights h.patterns.right k.patterns.right in
      h.is
      ∙ (ap (λ us. relation_local system rel index x y us h.rights (closure_for made rel index)) l
      ∙ (ap (λ us. relation_local system rel index x y k.lefts us (closure_for made rel index)) r
      ∙ sym k.is))

  normal_one : (system : PatternSystem) (index : ℕ) (a b : Local) → IsNormalLocal system index a → IsNormalLocal system index b → a ≡ b
  normal_one system index a b h k =
      h.is
      ∙ (ap (normal_local system index) (subpatterns_one (map (λ (pair : Pair). pair.0) (at_index index system.rules)) h.lefts k.lefts h.patterns k.patterns)
      ∙ sym k.is)

  project_one : (n : ℕ) (f : Core) (a b : Local) → IsProjectLocal parts made n f a → IsProjectLocal parts made n f b → a ≡ b
  project_one n f a b h k = h.is ∙ (ap (λ t. project_local t (place_in (columns_of f) n)) (body_one f h.body k.body h.body_is k.body_is) ∙ sym k.is)

  many_one : (i n : ℕ) (f : Core) (a b : Local) → IsManyLocal parts made i n f a → IsManyLocal parts made i n f b → a ≡ b
  many_one i n f a b h k =
      let c = place_in (columns_of f) n in
      let one = counted_one n f h.body k.body h.states k.states h.counted k.counted in
      h.is
      ∙ (ap (λ t. many_local t c (is_many h.states (made.counts i))) one.table
      ∙ (ap (λ xs. many_local k.body c (is_many xs (made.counts i))) one.states
      ∙ sym k.is))

  many_value_one : (i n : ℕ) (f : Core) (a b : Bool) → IsManyValue parts made i n f a → IsManyValue parts made i n f b → a ≡ b
  many_value_one i n f a b h k =
      let c = place_in (columns_of f) n in
      let one = counted_one n f h.body k.body h.states k.states h.counted k.counted in
      h.is
      ∙ (ap (λ t. many_value t c (is_many h.states (made.counts i))) one.table
      ∙ (ap (λ xs. many_value k.body c (is_many xs (made.counts i))) one.states
      ∙ sym k.is))

  atom_one : (system : PatternSystem) (c : Atom) (a b : Local) → IsAtomLocal system made c a → IsAtomLocal system made c b → AreOneOrSame a b
  atom_one system (core.Related rel index x y) a b h k = inl (relation_one system rel index x y a b h k)
  atom_one system (core.InContext e number place x y) a b h k =
      inr (expressions_same (expression_atom system e number place x y (columns_of (core.Leaf (core.InContext e number place x y)))) a b h k)
  atom_one system (core.Normal index x) a b h k = inl (normal_one system index a b h k)
  atom_one system (core.IsTerm x term) a b h k = inl (h ∙ sym k)

  pub local_one : (system : PatternSystem) (i : ℕ) (f : Core) (a b : Local) → IsLocalOf system parts made i f a → IsLocalOf system parts made i f b → AreOneOrSame a b
  local_one system i core.True a b h k = absurd h
  local_one system i (core.Leaf c) a b h k = atom_one system c a b h k
  local_one system i (core.Not f) a b h k = absurd h
  local_one system i (core.Binary op f g) a b h k = inl (product_one op (core.Binary op f g) f g a b h k)
  local_one system i (core.Exists n f) a b h k = inl (project_one n f a b h k)
  local_one system i (core.Infinite n f) a b h k = inl (many_one i n f a b h k)

  pub value_one : (i : ℕ) (f : Core) (a b : Bool) → IsValueOf parts made i f a → IsValueOf parts made i f b → a ≡ b
  value_one i core.True a b h k = h ∙ sym k
  value_one i (core.Leaf c) a b h k = absurd h
  value_one i (core.Not f) a b h k = h.2 ∙ (ap not (truth_one f h.0 k.0 h.1 k.1) ∙ sym k.2)
  value_one i (core.Binary op f g) a b h k = connected_one op f g a b h k
  value_one i (core.Exists n f) a b h k = h.2 ∙ (ap (λ (t : Table). some_below (length t.presences) t.accepting) (body_one f h.0 k.0 h.1 k.1) ∙ sym k.2)
  value_one i (core.Infinite n f) a b h k = many_value_one i n f a b h k
