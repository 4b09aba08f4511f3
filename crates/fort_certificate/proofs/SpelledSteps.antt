-- Forms that spell the elements of steps with merges, or of nodes, are these.
use Rattle.std.proofs.Common.{◌≡◌, ℕ, List, [], ◌∷◌, map, Option, None, Some, decimal, refl}
use Rattle.std.specs.List.{AllByRecursion, AllZip}
use Rattle.fort_tables.specs.Counts.{Count, Finite, Infinite}
use Rattle.fort_grammar.specs.Forms.{Form}
use Rattle.fort_grammar.specs.Declarations.{word_of, elements_of, AreWords, IsListOfWords}
use Rattle.fort_tables.specs.Tuples.{TupleSymbol}
use Rattle.fort_tables.specs.Entries.{Entry}
use Rattle.fort_alike.specs.ListedClosures.{Why, Any, Kids, Rule, Pair}
use Rattle.fort_certificate_theory.specs.Certificates.{Step, Closure, Part, Merge, Counts, Value}
use Rattle.fort_certificate_theory.specs.CertificateForms.{IsNumberForm, IsWhyWord, AnyWord, KidsWord, RuleWord, IsPairForm, IsCountForm, FiniteForm, InfiniteForm, IsStepForm, IndexedForm, PartForm, MergeForm, CountsForm, ValueForm}
use Rattle.fort_certificate_theory.specs.CertificateText.{Element, number_element, why_word, pair_element, count_element, step_elements, IsSmall, IsSmallWhy, IsSmallPair, IsSmallCount}
use Rattle.fort_certificate_theory.proofs.Spelled.{SpellsElement, Spells}
use Rattle.fort_certificate_theory.specs.OpenCertificates.{Claim}
use Rattle.fort_certificate_theory.specs.OpenForms.{step_version, AbsentWord, SymbolWord, IsSymbolForm, IsTupleSymbolForm, IsNodeForm, IsOpenHeaderForm}
use Rattle.fort_certificate_theory.specs.OpenText.{symbol_word, node_elements, open_header_elements, IsSmallSymbol, CanNodeBeWritten}
use Rattle.fort_certificate.specs.Again.{HasSmallNumbers}

-- forms that spell elements, each as what it stands for
each_again : {A : Type 0} (bytes : List ℕ) (R : Form → A → Type 0) (element : A → Element) (Small : A → Type 0)
    → ((f : Form) (x : A) → Small x → SpellsElement bytes f (element x) → R f x) → (fs : List Form) (xs : List A) → AllByRecursion Small xs
    → AllZip (SpellsElement bytes) fs (map element xs) → AllZip R fs xs
each_again bytes R element Small one [] [] small h = tt
each_again bytes R element Small one [] (x ∷ xs) small h = absurd h
each_again bytes R element Small one (f ∷ fs) [] small h = absurd h
each_again bytes R element Small one (f ∷ fs) (x ∷ xs) small h = (one f x small.0 h.0, each_again bytes R element Small one fs xs small.1 h.1)

module _ (bytes : List ℕ) where
  number_again : (f : Form) (n : ℕ) → IsSmall n → word_of bytes f ≡ Some (decimal n) → IsNumberForm bytes f n
  number_again f n small is = record { word = decimal n; is = is; number = record { is = refl; small = small } }

  numbers_again : (fs : List Form) (ns : List ℕ) → AllByRecursion IsSmall ns → AllZip (SpellsElement bytes) fs (map number_element ns)
      → AllZip (IsNumberForm bytes) fs ns
  numbers_again fs ns small h = each_again bytes (IsNumberForm bytes) number_element IsSmall number_again fs ns small h

  why_again : (w : Why) → IsSmallWhy w → IsWhyWord (why_word w) w
  why_again Any small = AnyWord refl
  why_again Kids small = KidsWord refl
  why_again (Rule k) small = RuleWord (record { is = refl; small = small })

  pair_again : (f : Form) (p : Pair) → IsSmallPair p → IsListOfWords bytes f (decimal p.p ∷ decimal p.q ∷ why_word p.why ∷ []) → IsPairForm bytes f p
  pair_again f p small h = record {
    p_word = decimal p.p;
    q_word = decimal p.q;
    why_word = why_word p.why;
    words = h;
    p_is = record { is = refl; small = small.0 };
    q_is = record { is = refl; small = small.1 };
    why_is = why_again p.why small.2;
  }

  count_again : (f : Form) (c : Count) → IsSmallCount c → SpellsElement bytes f (count_element c) → IsCountForm bytes f c
  count_again f (Finite n) small h = FiniteForm (decimal n) h (record { is = refl; small = small })
  count_again f (Infinite n) small h = InfiniteForm (decimal n) h (record { is = refl; small = small })

  step_of_elements : (f : Form) (s : Step) (fs : List Form) → HasSmallNumbers s → elements_of f ≡ Some fs
      → AllZip (SpellsElement bytes) fs (step_elements step_version s) → IsStepForm bytes step_version f s
  step_of_elements f (Closure w i ps) [] small is h = absurd h
  step_of_elements f (Closure w i ps) (a ∷ []) small is h = absurd h.1
  step_of_elements f (Closure w i ps) (a ∷ b ∷ []) small is h = absurd h.1.1
  step_of_elements f (Closure w i ps) (a ∷ b ∷ c ∷ fs) small is h =
      IndexedForm a b c fs refl is h.0 h.1.0 (number_again c i small.0 h.1.1.0)
      (each_again bytes (IsPairForm bytes) pair_element IsSmallPair pair_again fs ps small.1 h.1.1.1)
  step_of_elements f (Part k ns) [] small is h = absurd h
  step_of_elements f (Part k ns) (a ∷ []) small is h = absurd h.1
  step_of_elements f (Part k ns) (a ∷ b ∷ fs) small is h = PartForm a b fs is h.0 (number_again b k small.0 h.1.0) (numbers_again fs ns small.1 h.1.1)
  step_of_elements f (Merge k ns) [] small is h = absurd h
  step_of_elements f (Merge k ns) (a ∷ []) small is h = absurd h.1
  step_of_elements f (Merge k ns) (a ∷ b ∷ fs) small is h =
      MergeForm a b fs refl is h.0 (number_again b k small.0 h.1.0) (numbers_again fs ns small.1 h.1.1)
  step_of_elements f (Counts k cs) [] small is h = absurd h
  step_of_elements f (Counts k cs) (a ∷ []) small is h = absurd h.1
  step_of_elements f (Counts k cs) (a ∷ b ∷ fs) small is h =
      CountsForm a b fs is h.0 (number_again b k small.0 h.1.0)
      (each_again bytes (IsCountForm bytes) count_element IsSmallCount count_again fs cs small.1 h.1.1)
  step_of_elements f (Value k v) [] small is h = absurd h
  step_of_elements f (Value k v) (a ∷ []) small is h = absurd h.1
  step_of_elements f (Value k v) (a ∷ b ∷ []) small is h = absurd h.1.1
  step_of_elements f (Value k v) (a ∷ b ∷ c ∷ []) small is h = ValueForm a b c is h.0 (number_again b k small h.1.0) h.1.1.0
  step_of_elements f (Value k v) (a ∷ b ∷ c ∷ d ∷ fs) small is h = absurd h.1.1.1

  pub step_again : (f : Form) (s : Step) → HasSmallNumbers s → Spells bytes f (step_elements step_version s) → IsStepForm bytes step_version f s
  step_again f s small h = step_of_elements f s h.elements small h.is h.each

  symbol_again : (f : Form) (g : Option ℕ) → IsSmallSymbol g → word_of bytes f ≡ Some (symbol_word g) → IsSymbolForm bytes f g
  symbol_again f None small is = record { word = symbol_word None; is = is; symbol = AbsentWord refl }
  symbol_again f (Some g) small is = record { word = decimal g; is = is; symbol = SymbolWord (record { is = refl; small = small }) }

  symbols_again : (fs : List Form) (symbol : TupleSymbol) → AllByRecursion IsSmallSymbol symbol → AreWords bytes fs (map symbol_word symbol)
      → AllZip (IsSymbolForm bytes) fs symbol
  symbols_again [] [] small h = tt
  symbols_again [] (g ∷ gs) small h = absurd h
  symbols_again (f ∷ fs) [] small h = absurd h
  symbols_again (f ∷ fs) (g ∷ gs) small h = (symbol_again f g small.0 h.0, symbols_again fs gs small.1 h.1)

  tuple_symbol_again : (f : Form) (symbol : TupleSymbol) → AllByRecursion IsSmallSymbol symbol → IsListOfWords bytes f (map symbol_word symbol)
      → IsTupleSymbolForm bytes f symbol
  tuple_symbol_again f symbol small h = record { columns = h.elements; list = h.is; are = symbols_again h.elements symbol small h.words_are }

  node_of_elements : (f : Form) (node : Entry) (fs : List Form) → CanNodeBeWritten node → elements_of f ≡ Some fs
      → AllZip (SpellsElement bytes) fs (node_elements node) → IsNodeForm bytes f node
  node_of_elements f node [] small is h = absurd h
  node_of_elements f node (a ∷ []) small is h = absurd h.1
  node_of_elements f node (a ∷ b ∷ fs) small is h = record {
    head = a;
    second = b;
    others = fs;
    list = is;
    headed = h.0;
    symbol = tuple_symbol_again b node.symbol small.0 h.1.0;
    kids = numbers_again fs node.kids small.1 h.1.1;
  }

  pub node_again : (f : Form) (node : Entry) → CanNodeBeWritten node → Spells bytes f (node_elements node) → IsNodeForm bytes f node
  node_again f node small h = node_of_elements f node h.elements small h.is h.each

  header_of_elements : (f : Form) (claim : Claim) (fs : List Form) → elements_of f ≡ Some fs
      → AllZip (SpellsElement bytes) fs (open_header_elements claim) → IsOpenHeaderForm bytes f claim
  header_of_elements f claim [] is h = absurd h
  header_of_elements f claim (a ∷ []) is h = absurd h.1
  header_of_elements f claim (a ∷ b ∷ []) is h = absurd h.1.1
  header_of_elements f claim (a ∷ b ∷ c ∷ []) is h = record { elements = a ∷ b ∷ c ∷ []; is = is; words_are = (h.0, (h.1.0, (h.1.1.0, tt))) }
  header_of_elements f claim (a ∷ b ∷ c ∷ d ∷ fs) is h = absurd h.1.1.1

  pub header_again : (f : Form) (claim : Claim) → Spells bytes f (open_header_elements claim) → IsOpenHeaderForm bytes f claim
  header_again f claim h = header_of_elements f claim h.elements h.is h.each
