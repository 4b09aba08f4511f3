-- Forms that spell a certificate's elements are that certificate.
use Rattle.std.proofs.Common.{◌≡◌, ℕ, Bool, true, false, if◌then◌else◌, List, [], ◌∷◌, ◌++◌, map, codes, drop, Some, decimal, refl, sym, subst}
use Rattle.std.specs.List.{AllByRecursion, AllZip}
use Rattle.fort_tables.specs.Counts.{Count, Finite, Infinite}
use Rattle.fort_grammar.specs.Forms.{Form}
use Rattle.fort_grammar.specs.Declarations.{word_of, elements_of, IsListOfWords}
use Rattle.fort_alike.specs.ListedClosures.{Which, Why, Any, Kids, Rule, Pair}
use Rattle.fort_certificate_theory.specs.Certificates.{Step, Closure, Part, Merge, Counts, Value, Certificate}
use Rattle.fort_certificate_theory.specs.CertificateForms.{Version, tells_index, IsVersionOf, which_word, IsNumberForm, IsWhyWord, AnyWord, KidsWord, RuleWord, IsPairForm, IsCountForm, FiniteForm, InfiniteForm, IsStepForm, ClosureForm, IndexedForm, PartForm, MergeForm, CountsForm, ValueForm, IsHeaderForm, IsCertificate}
use Rattle.fort_certificate_theory.specs.CertificateText.{Element, Word, Group, number_element, why_word, pair_element, count_element, step_elements, header_elements, IsSmall, IsSmallWhy, IsSmallPair, IsSmallCount, CanBeWritten}

-- the form is this element; a form is these elements in a list
abbrev pub SpellsElement : List ℕ → Form → Element → Type 0
SpellsElement bytes f (Word w) = word_of bytes f ≡ Some w
SpellsElement bytes f (Group ws) = IsListOfWords bytes f ws

pub record Spells (bytes : List ℕ) (f : Form) (es : List Element) : Type 0 where
  pub elements : List Form
  pub is : elements_of f ≡ Some elements
  pub each : AllZip (SpellsElement bytes) elements es

number_again : (bytes : List ℕ) (f : Form) (n : ℕ) → IsSmall n → word_of bytes f ≡ Some (decimal n) → IsNumberForm bytes f n
number_again bytes f n small is = record { word = decimal n; is = is; number = record { is = refl; small = small } }

numbers_again : (bytes : List ℕ) (fs : List Form) (ns : List ℕ) → AllByRecursion IsSmall ns → AllZip (SpellsElement bytes) fs (map number_element ns)
    → AllZip (IsNumberForm bytes) fs ns
numbers_again bytes [] [] small h = tt
numbers_again bytes [] (n ∷ ns) small h = absurd h
numbers_again bytes (f ∷ fs) [] small h = absurd h
numbers_again bytes (f ∷ fs) (n ∷ ns) small h = (number_again bytes f n small.0 h.0, numbers_again bytes fs ns small.1 h.1)

why_again : (w : Why) → IsSmallWhy w → IsWhyWord (why_word w) w
why_again Any small = AnyWord refl
why_again Kids small = KidsWord refl
why_again (Rule k) small = RuleWord (record { is = refl; small = small })

pairs_again : (bytes : List ℕ) (fs : List Form) (ps : List Pair) → AllByRecursion IsSmallPair ps → AllZip (SpellsElement bytes) fs (map pair_element ps)
    → AllZip (IsPairForm bytes) fs ps
pairs_again bytes [] [] small h = tt
pairs_again bytes [] (p ∷ ps) small h = absurd h
pairs_again bytes (f ∷ fs) [] small h = absurd h
pairs_again bytes (f ∷ fs) (p ∷ ps) small h =
    let one : IsPairForm bytes f p = record {
      p_word = decimal p.p;
      q_word = decimal p.q;
      why_word = why_word p.why;
      words = h.0;
      p_is = record { is = refl; small = small.0.0 };
      q_is = record { is = refl; small = small.0.1 };
      why_is = why_again p.why small.0.2;
    } in
    (one, pairs_again bytes fs ps small.1 h.1)

counts_again : (bytes : List ℕ) (fs : List Form) (cs : List Count) → AllByRecursion IsSmallCount cs → AllZip (SpellsElement bytes) fs (map count_element cs)
    → AllZip (IsCountForm bytes) fs cs
counts_again bytes [] [] small h = tt
counts_again bytes [] (c ∷ cs) small h = absurd h
counts_again bytes (f ∷ fs) [] small h = absurd h
counts_again bytes (f ∷ fs) (Finite n ∷ cs) small h =
    (FiniteForm (decimal n) h.0 (record { is = refl; small = small.0 }), counts_again bytes fs cs small.1 h.1)
counts_again bytes (f ∷ fs) (Infinite n ∷ cs) small h =
    (InfiniteForm (decimal n) h.0 (record { is = refl; small = small.0 }), counts_again bytes fs cs small.1 h.1)

-- a form that spells a step is read as it
closure_again : (bytes : List ℕ) (version : Version) (told : Bool) (f : Form) (which : Which) (index : ℕ) (ps : List Pair) (a b : Form) (fs : List Form)
    → tells_index version ≡ told → IsSmall index → (tells_index version ≡ false → index ≡ 1) → AllByRecursion IsSmallPair ps
    → elements_of f ≡ Some (a ∷ b ∷ fs)
    → AllZip (SpellsElement bytes) (a ∷ b ∷ fs)
    (Word (codes "closure") ∷ Word (which_word which) ∷ ((if told then (number_element index ∷ []) else []) ++ map pair_element ps))
    → IsStepForm bytes version f (Closure which index ps)
closure_again bytes version false f which index ps a b fs told small one each is h =
    subst (λ (i : ℕ). IsStepForm bytes version f (Closure which i ps)) (sym (one told))
    (ClosureForm a b fs told is h.0 h.1.0 (pairs_again bytes fs ps each h.1.1))
closure_again bytes version true f which index ps a b [] told small one each is h = absurd h.1.1
closure_again bytes version true f which index ps a b (c ∷ fs) told small one each is h =
    IndexedForm a b c fs told is h.0 h.1.0 (number_again bytes c index small h.1.1.0) (pairs_again bytes fs ps each h.1.1.1)

step_of_elements : (bytes : List ℕ) (version : Version) (f : Form) (s : Step) (fs : List Form) → CanBeWritten version s → elements_of f ≡ Some fs
    → AllZip (SpellsElement bytes) fs (step_elements version s) → IsStepForm bytes version f s
step_of_elements bytes version f (Closure w i ps) [] small is h = absurd h
step_of_elements bytes version f (Closure w i ps) (a ∷ []) small is h = absurd h.1
step_of_elements bytes version f (Closure w i ps) (a ∷ b ∷ fs) small is h =
    closure_again bytes version (tells_index version) f w i ps a b fs refl small.0.0 small.0.1 small.1 is h
step_of_elements bytes version f (Part k ns) [] small is h = absurd h
step_of_elements bytes version f (Part k ns) (a ∷ []) small is h = absurd h.1
step_of_elements bytes version f (Part k ns) (a ∷ b ∷ fs) small is h =
    PartForm a b fs is h.0 (number_again bytes b k small.0 h.1.0) (numbers_again bytes fs ns small.1 h.1.1)
step_of_elements bytes version f (Merge k ns) [] small is h = absurd h
step_of_elements bytes version f (Merge k ns) (a ∷ []) small is h = absurd h.1
step_of_elements bytes version f (Merge k ns) (a ∷ b ∷ fs) small is h =
    MergeForm a b fs small.0 is h.0 (number_again bytes b k small.1 h.1.0) (numbers_again bytes fs ns small.2 h.1.1)
step_of_elements bytes version f (Counts k cs) [] small is h = absurd h
step_of_elements bytes version f (Counts k cs) (a ∷ []) small is h = absurd h.1
step_of_elements bytes version f (Counts k cs) (a ∷ b ∷ fs) small is h =
    CountsForm a b fs is h.0 (number_again bytes b k small.0 h.1.0) (counts_again bytes fs cs small.1 h.1.1)
step_of_elements bytes version f (Value k v) [] small is h = absurd h
step_of_elements bytes version f (Value k v) (a ∷ []) small is h = absurd h.1
step_of_elements bytes version f (Value k v) (a ∷ b ∷ []) small is h = absurd h.1.1
step_of_elements bytes version f (Value k v) (a ∷ b ∷ c ∷ []) small is h = ValueForm a b c is h.0 (number_again bytes b k small h.1.0) h.1.1.0
step_of_elements bytes version f (Value k v) (a ∷ b ∷ c ∷ d ∷ fs) small is h = absurd h.1.1.1

step_again : (bytes : List ℕ) (version : Version) (f : Form) (s : Step) → CanBeWritten version s → Spells bytes f (step_elements version s)
    → IsStepForm bytes version f s
step_again bytes version f s small h = step_of_elements bytes version f s h.elements small h.is h.each

-- forms that spell steps, one by one
abbrev pub SpellSteps : List ℕ → Version → List Form → List Step → Type 0
SpellSteps bytes version fs ss = AllZip (λ f s. Spells bytes f (step_elements version s)) fs ss

steps_again : (bytes : List ℕ) (version : Version) (fs : List Form) (ss : List Step) → AllByRecursion (CanBeWritten version) ss → SpellSteps bytes version fs ss
    → AllZip (IsStepForm bytes version) fs ss
steps_again bytes version [] [] small h = tt
steps_again bytes version [] (s ∷ ss) small h = absurd h
steps_again bytes version (f ∷ fs) [] small h = absurd h
steps_again bytes version (f ∷ fs) (s ∷ ss) small h = (step_again bytes version f s small.0 h.0, steps_again bytes version fs ss small.1 h.1)

header_of_elements : (bytes : List ℕ) (version : Version) (f : Form) (v : Bool) (fs : List Form) → elements_of f ≡ Some fs
    → AllZip (SpellsElement bytes) fs (header_elements version v) → IsHeaderForm bytes version f v
header_of_elements bytes version f v [] is h = absurd h
header_of_elements bytes version f v (a ∷ []) is h = absurd h.1
header_of_elements bytes version f v (a ∷ b ∷ []) is h = absurd h.1.1
header_of_elements bytes version f v (a ∷ b ∷ c ∷ []) is h = record { elements = a ∷ b ∷ c ∷ []; is = is; words_are = (h.0, (h.1.0, (h.1.1.0, tt))) }
header_of_elements bytes version f v (a ∷ b ∷ c ∷ d ∷ fs) is h = absurd h.1.1.1

-- result: the forms of a written certificate are that certificate
pub certificate_again : (bytes : List ℕ) (number : ℕ) (version : Version) (forms : List Form) (c : Certificate) (header : Form) (others : List Form)
    → IsVersionOf number version → drop c.first forms ≡ header ∷ others → AllByRecursion (CanBeWritten version) c.steps
    → Spells bytes header (header_elements version c.verdict) → SpellSteps bytes version others c.steps → IsCertificate bytes number forms c.first c
certificate_again bytes number version forms c header others of split small h k = record {
  version = version;
  of_problem = of;
  header = header;
  others = others;
  first = refl;
  split = split;
  headed = header_of_elements bytes version header c.verdict h.elements h.is h.each;
  are_steps = steps_again bytes version others c.steps small k;
}
