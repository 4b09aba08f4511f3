-- The labels of a product are those of a formula of two operands, whose answers are right.
use Rattle.std.specs.Prelude.{◌≡◌, ◌<◌, ◌≤◌, ℕ, List, length, Contains, Ok, None, Bool, refl}
use Rattle.std.proofs.Common.{ap, sym, ◌∙◌, subst, arith}
use Rattle.fort_theory.specs.Signatures.{most_columns}
use Rattle.fort_theory.specs.Patterns.{PatternSystem}
use Rattle.fort_theory.specs.Cores.{Core, Binary}
use Rattle.fort_theory.specs.PatternStructures.{pattern_structure}
use Rattle.fort_tables.specs.Tables.{listed_table}
use Rattle.fort_tables.specs.LabelRules.{label_of}
use Rattle.fort_theory.specs.Logic.{Connective}
use Rattle.fort_tables.specs.Products.{Operand, IsOperand, AreOperands, signature_of, connected, product_rule, product_accepts}
use Rattle.fort_lockstep.specs.declared.dta.Dta.{Dta}
use Rattle.fort_parts.specs.PartColumns.{columns_of, places_in}
use Rattle.fort_parts.specs.PartAnswers.{Answer, OfValue, OfTable, IsAnswerTo}
use Rattle.fort_parts.specs.PartSteps.{operand_of}
use Rattle.fort_parts.proofs.PartColumnLaws.{first_within, second_within}
use Rattle.fort_parts.proofs.StepTables.{IsOperand-answer}
use Rattle.fort_parts.proofs.StepAnswers.{is_free-joined, closed-values, some-first, some-second, IsAnswerTo-values, joined_label, LabelsTell-joined, IsAnswerTo-joined}
use Rattle.fort_parts.specs.ToldParts.{ToldWith}
use Rattle.fort_parts.proofs.ToldLaws.{LabelsTell-with}
use Rattle.fort_engine.specs.declared.answer.Last.{Last}
use Rattle.fort_engine.specs.declared.answer.Last.TheVariants.{Truth, Auto}
use Rattle.fort_engine.specs.declared.answer.Decided.{Decided}
use Rattle.fort_engine.specs.declared.options.Options.{Options}
use Rattle.fort_engine.specs.AnswerView.{as_answer}
use Rattle.fort_engine.specs.Kept.{IsRight}
use Rattle.fort_engine.proofs.AnswerLaws.{IsDecision-truth}
use Rattle.fort_engine.specs.Deciding.{AreJoined, IsDecision, AreLabelsFor, IsJoining}

-- two truths

pub IsDecision-truths : (system : PatternSystem) (options : Options) (op : Connective) (h f g : Core) (first second : Last) (a b c : Bool) (d : Decided) → h ≡ Binary op f g
    → first ≡ Truth a → second ≡ Truth b → c ≡ connected op a b → d.answer ≡ Truth c → d.counts ≡ None → IsRight system options f (as_answer first)
    → IsRight system options g (as_answer second) → IsDecision system options h (Ok d)
IsDecision-truths system options op h f g first second a b c d whole is also says has none one other =
    let one_is : IsRight system options f (OfValue a) = subst (λ z. IsRight system options f (as_answer z)) is one in
    let other_is : IsRight system options g (OfValue b) = subst (λ z. IsRight system options g (as_answer z)) also other in
    let answers : IsAnswerTo (pattern_structure system) h (OfValue c) =
    subst (λ z. IsAnswerTo (pattern_structure system) z (OfValue c)) (sym whole)
    (subst (λ v. IsAnswerTo (pattern_structure system) (Binary op f g) (OfValue v)) (sym says) (IsAnswerTo-values system op f g a b one_is.answers other_is.answers)) in
    IsDecision-truth system options h d c has none answers

-- a table among the operands has a column

pub some_of_first : (system : PatternSystem) (options : Options) (op : Connective) (h f g : Core) (zs ones others : List ℕ) (first second : Last) (table : Dta)
    → AreJoined system options op h f g zs ones others (as_answer first) (as_answer second) → first ≡ Auto table → 0 < length zs
some_of_first system options op h f g zs ones others first second table j is =
    subst (λ ns. 0 < length ns) (sym (j.columns_are ∙ ap columns_of j.whole))
    (some-first system op f g (listed_table table) (subst (λ z. IsRight system options f (as_answer z)) is j.first_right).answers)

pub some_of_second : (system : PatternSystem) (options : Options) (op : Connective) (h f g : Core) (zs ones others : List ℕ) (first second : Last) (table : Dta)
    → AreJoined system options op h f g zs ones others (as_answer first) (as_answer second) → second ≡ Auto table → 0 < length zs
some_of_second system options op h f g zs ones others first second table j is =
    subst (λ ns. 0 < length ns) (sym (j.columns_are ∙ ap columns_of j.whole))
    (some-second system op f g (listed_table table) (subst (λ z. IsRight system options g (as_answer z)) is j.second_right).answers)

-- the operands' columns are among those of the whole

pub first_among : (system : PatternSystem) (options : Options) (op : Connective) (h f g : Core) (zs ones others : List ℕ) (first second : Answer)
    → AreJoined system options op h f g zs ones others first second → (n : ℕ) → Contains ones n → Contains zs n
first_among system options op h f g zs ones others first second j n c =
    subst (λ ns. Contains ns n) (sym (j.columns_are ∙ ap columns_of j.whole))
    (first_within (Binary op f g) f g (is_free-joined op f g) n (subst (λ ns. Contains ns n) j.ones_are c))

pub second_among : (system : PatternSystem) (options : Options) (op : Connective) (h f g : Core) (zs ones others : List ℕ) (first second : Answer)
    → AreJoined system options op h f g zs ones others first second → (n : ℕ) → Contains others n → Contains zs n
second_among system options op h f g zs ones others first second j n c =
    subst (λ ns. Contains ns n) (sym (j.columns_are ∙ ap columns_of j.whole))
    (second_within (Binary op f g) f g (is_free-joined op f g) n (subst (λ ns. Contains ns n) j.others_are c))

signature-joined : (system : PatternSystem) (options : Options) (op : Connective) (f g : Core) (first second : Answer) (ps qs : List ℕ) → IsRight system options f first
    → IsRight system options g second → 0 < length (columns_of (Binary op f g)) → signature_of (operand_of first ps) (operand_of second qs) ≡ system.signature
signature-joined system options op f g (OfTable table) second ps qs one other some = one.answers.over.signature
signature-joined system options op f g (OfValue a) (OfTable table) ps qs one other some = other.answers.over.signature
signature-joined system options op f g (OfValue a) (OfValue b) ps qs one other some =
    absurd (let none = ap length (closed-values system op f g a b one.answers other.answers) in omega (arith, some))

-- the operands on the columns of the whole, however they are written
module _ (system : PatternSystem) (options : Options) (op : Connective) (h f g : Core) (first : Answer) (ps : List ℕ) (second : Answer) (qs : List ℕ) (columns : ℕ)
    (join : IsJoining system options op h f g first ps second qs columns) (x y : Operand) (first_is : x ≡ operand_of first ps) (second_is : y ≡ operand_of second qs) where
  count_same : columns ≡ length (columns_of (Binary op f g))
  count_same = join.count ∙ ap (λ z. length (columns_of z)) join.whole

  first_same : x ≡ operand_of first (places_in (columns_of (Binary op f g)) (columns_of f))
  first_same = first_is ∙ ap (operand_of first) (join.first_places ∙ ap (λ z. places_in (columns_of z) (columns_of f)) join.whole)

  second_same : y ≡ operand_of second (places_in (columns_of (Binary op f g)) (columns_of g))
  second_same = second_is ∙ ap (operand_of second) (join.second_places ∙ ap (λ z. places_in (columns_of z) (columns_of g)) join.whole)

  some_joined : 0 < length (columns_of (Binary op f g))
  some_joined = subst (λ n. 0 < n) count_same join.some

  pub signature-product : signature_of x y ≡ system.signature
  signature-product =
      ap (λ z. signature_of z y) first_is
      ∙ (ap (λ z. signature_of (operand_of first ps) z) second_is ∙ signature-joined system options op f g first second ps qs join.first_right join.second_right some_joined)

  moved : (z o : Operand) → z ≡ o → IsOperand system.signature (length (columns_of (Binary op f g))) o → IsOperand (signature_of x y) columns z
  moved z o e p =
      subst (λ w. IsOperand (signature_of x y) columns w) (sym e)
      (subst (λ n. IsOperand (signature_of x y) n o) (sym count_same)
      (subst (λ s. IsOperand s (length (columns_of (Binary op f g))) o) (sym signature-product) p))

  pub AreOperands-product : AreOperands (signature_of x y) columns x y
  AreOperands-product = record {
    first_is =
        moved x _ first_same
        (IsOperand-answer system.signature (columns_of f) (columns_of (Binary op f g)) first (first_within (Binary op f g) f g (is_free-joined op f g)) join.first_right.answers.over);
    second_is =
        moved y _ second_same
        (IsOperand-answer system.signature (columns_of g) (columns_of (Binary op f g)) second (second_within (Binary op f g) f g (is_free-joined op f g)) join.second_right.answers.over);
  }

  abbrev Labels : Core → ℕ → Connective → Operand → Operand → Type 0
  Labels k n o u v = AreLabelsFor system options.reduces k n (label_of (product_rule n u v)) (product_accepts o u v)

  canonical : Labels (Binary op f g) (length (columns_of (Binary op f g))) op (operand_of first (places_in (columns_of (Binary op f g)) (columns_of f)))
      (operand_of second (places_in (columns_of (Binary op f g)) (columns_of g)))
  canonical = record {
    count = refl;
    alike = LabelsTell-with options.reduces system (Binary op f g) (joined_label system op f g first second)
        (LabelsTell-joined system op f g (ToldWith options.reduces system) first second join.first_right join.second_right);
    answers = λ table by. IsAnswerTo-joined system op f g first second table join.first_right.answers join.second_right.answers some_joined by;
  }

  pub AreLabelsFor-product : (n : ℕ) (o : Connective) → n ≡ columns → o ≡ op → AreLabelsFor system options.reduces h n (label_of (product_rule n x y)) (product_accepts o x y)
  AreLabelsFor-product n o count same =
      subst (λ k. Labels k n o x y) (sym join.whole)
      (subst (λ m. Labels (Binary op f g) m o x y) (sym (count ∙ count_same))
      (subst (λ p. Labels (Binary op f g) (length (columns_of (Binary op f g))) p x y) (sym same)
      (subst (λ u. Labels (Binary op f g) (length (columns_of (Binary op f g))) op u y) (sym first_same)
      (subst (λ v. Labels (Binary op f g) (length (columns_of (Binary op f g))) op (operand_of first (places_in (columns_of (Binary op f g)) (columns_of f))) v) (sym second_same)
      canonical))))

-- the places on the columns that are found
pub IsJoining-places : (system : PatternSystem) (options : Options) (op : Connective) (h f g : Core) (zs ones others : List ℕ) (first second : Answer) (ps qs : List ℕ) (count : ℕ)
    → AreJoined system options op h f g zs ones others first second → 0 < length zs → count ≡ length zs → ps ≡ places_in zs ones → qs ≡ places_in zs others
    → IsJoining system options op h f g first ps second qs count
IsJoining-places system options op h f g zs ones others first second ps qs count j some long one_places other_places =
    let number : count ≡ length (columns_of h) = long ∙ ap length j.columns_are in
    record {
      whole = j.whole;
      count = number;
      some = subst (λ n. 0 < n) (sym long) some;
      few = subst (λ n. n ≤ most_columns) (sym number) j.few;
      first_places = one_places ∙ (λ i. places_in (j.columns_are i) (j.ones_are i));
      second_places = other_places ∙ (λ i. places_in (j.columns_are i) (j.others_are i));
      first_right = j.first_right;
      second_right = j.second_right;
    }
