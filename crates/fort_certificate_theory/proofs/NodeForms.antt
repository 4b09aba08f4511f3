-- A form is one node at most; a form that should be one is bad in one way at most, and not where it is one.
use Rattle.std.proofs.Common.{◌≡◌, ℕ, List, [], ◌∷◌, ◌++◌, length, get_or, Option, None, Some, refl, ap, sym, ◌∙◌, arith, subst}
use Rattle.std.specs.List.{AllZip}
use Rattle.fort_grammar.specs.Forms.{Form}
use Rattle.fort_grammar.specs.Declarations.{word_of, elements_of, IsHeaded}
use Rattle.fort_tables.specs.Tuples.{TupleSymbol}
use Rattle.fort_tables.specs.Entries.{Entry}
use Rattle.fort_certificate_theory.specs.Certificates.{Step}
use Rattle.fort_certificate_theory.specs.CertificateForms.{Version, IsNumberWord, IsNumberForm, IsStepForm}
use Rattle.fort_certificate_theory.specs.CertificateFaults.{CertificateFault, FaultKind, fault_of, StepHead, ClosureHead, PartHead, MergeHead, CountsHead, ValueHead, head_word, IsBadAt, NumberSlot, HereOfRest}
use Rattle.fort_certificate_theory.proofs.OneCertificate.{word_one, number_form_one}
use Rattle.fort_certificate_theory.proofs.Slots.{fits_not_bad, are_bad_same}
use Rattle.fort_certificate_theory.proofs.StepSlots.{filled, same_parts}
use Rattle.fort_certificate_theory.specs.OpenForms.{absent_word, node_word, IsSymbolWord, AbsentWord, SymbolWord, IsSymbolForm, IsTupleSymbolForm, IsNodeForm}
use Rattle.fort_certificate_theory.specs.OpenFaults.{IsBadSymbol, NoWord, NoSymbol, IsBadTupleSymbol, NoList, BadColumn, IsBadNode, NoNode, WithoutSymbol, InSymbol, InKids}
use Rattle.fort_certificate_theory.proofs.OpenWords.{symbol_word_one}
use Rattle.fort_certificate_theory.proofs.Readings.{first_bad_one, all_none_bad, all_one}

some_one : {A : Type 0} (x y : A) → Some x ≡ Some y → x ≡ y
some_one x y h = cc

none_some : {A : Type 0} (x : A) (o : Option A) → o ≡ None → o ≡ Some x → ⊥
none_some x o h k = let e : None ≡ Some x = sym h ∙ k in absurd cc

-- ---- words for columns

pub symbol_form_one : (bytes : List ℕ) (f : Form) (a b : Option ℕ) → IsSymbolForm bytes f a → IsSymbolForm bytes f b → a ≡ b
symbol_form_one bytes f a b h k =
    symbol_word_one h.word a b h.symbol (subst (λ (w : List ℕ). IsSymbolWord w b) (word_one bytes f k.word h.word k.is h.is) k.symbol)

symbol_word_not_bad : (w : List ℕ) (a : Option ℕ) → IsSymbolWord w a → (w ≡ absent_word → ⊥) → ((n : ℕ) → IsNumberWord w n → ⊥) → ⊥
symbol_word_not_bad w a (AbsentWord h) absent number = absent h
symbol_word_not_bad w a (SymbolWord {g = g} h) absent number = number g h

pub symbol_not_bad : (bytes : List ℕ) (f : Form) (a : Option ℕ) (kind : FaultKind) → IsSymbolForm bytes f a → IsBadSymbol bytes f kind → ⊥
symbol_not_bad bytes f a kind h (NoWord is) = none_some h.word (word_of bytes f) is h.is
symbol_not_bad bytes f a kind h (NoSymbol w is absent number) =
    symbol_word_not_bad w a (subst (λ (v : List ℕ). IsSymbolWord v a) (word_one bytes f h.word w h.is is) h.symbol) absent number

pub bad_symbol_one : (bytes : List ℕ) (f : Form) (j k : FaultKind) → IsBadSymbol bytes f j → IsBadSymbol bytes f k → j ≡ k
bad_symbol_one bytes f j k (NoWord a) (NoWord b) = refl
bad_symbol_one bytes f j k (NoWord a) (NoSymbol w is absent number) = absurd (none_some w (word_of bytes f) a is)
bad_symbol_one bytes f j k (NoSymbol w is absent number) (NoWord a) = absurd (none_some w (word_of bytes f) a is)
bad_symbol_one bytes f j k (NoSymbol w is absent number) (NoSymbol v at other more) = refl

-- ---- tuple symbols

module _ (bytes : List ℕ) where
  abbrev BadSymbolAt : ℕ → Form → FaultKind → Type 0
  BadSymbolAt i f kind = IsBadSymbol bytes f kind

  abbrev BadNumberAt : ℕ → Form → FaultKind → Type 0
  BadNumberAt i f kind = IsBadAt bytes f NumberSlot kind

  symbols_one : (all : List Form) (xs ys : TupleSymbol) → AllZip (IsSymbolForm bytes) all xs → AllZip (IsSymbolForm bytes) all ys → xs ≡ ys
  symbols_one all xs ys h k =
      all_one (IsSymbolForm bytes) BadSymbolAt (symbol_form_one bytes) (λ i. symbol_not_bad bytes) (λ i. bad_symbol_one bytes) all xs ys h k

  number_not_bad : (i : ℕ) (f : Form) (n : ℕ) (kind : FaultKind) → IsNumberForm bytes f n → IsBadAt bytes f NumberSlot kind → ⊥
  number_not_bad i f n kind h b = fits_not_bad bytes f NumberSlot kind (n, h) b

  bad_number_one : (i : ℕ) (f : Form) (j k : FaultKind) → IsBadAt bytes f NumberSlot j → IsBadAt bytes f NumberSlot k → j ≡ k
  bad_number_one i f j k a b =
      are_bad_same bytes [] (Some NumberSlot) (f ∷ []) j k (HereOfRest NumberSlot f [] j a) (HereOfRest NumberSlot f [] k b)

  numbers_one : (all : List Form) (xs ys : List ℕ) → AllZip (IsNumberForm bytes) all xs → AllZip (IsNumberForm bytes) all ys → xs ≡ ys
  numbers_one all xs ys h k = all_one (IsNumberForm bytes) BadNumberAt (number_form_one bytes) number_not_bad bad_number_one all xs ys h k

  elements_one : (f : Form) (fs gs : List Form) → elements_of f ≡ Some fs → elements_of f ≡ Some gs → fs ≡ gs
  elements_one f fs gs h k = some_one fs gs (sym h ∙ k)

  tuple_symbol_one : (f : Form) (a b : TupleSymbol) → IsTupleSymbolForm bytes f a → IsTupleSymbolForm bytes f b → a ≡ b
  tuple_symbol_one f a b h k =
      symbols_one h.columns a b h.are
      (subst (λ (fs : List Form). AllZip (IsSymbolForm bytes) fs b) (elements_one f k.columns h.columns k.list h.list) k.are)

  pub tuple_symbol_not_bad : (f : Form) (a : TupleSymbol) (kind : FaultKind) → IsTupleSymbolForm bytes f a → IsBadTupleSymbol bytes f kind → ⊥
  tuple_symbol_not_bad f a kind h (NoList is) = none_some h.columns (elements_of f) is h.list
  tuple_symbol_not_bad f a kind h (BadColumn before after symbol bad is each b) =
      all_none_bad (IsSymbolForm bytes) BadSymbolAt (symbol_form_one bytes) (λ i. symbol_not_bad bytes) (λ i. bad_symbol_one bytes) 0 before after
      h.columns a symbol bad kind (elements_one f h.columns (before ++ bad ∷ after) h.list is) h.are each b

  bad_tuple_symbol_one : (f : Form) (j k : FaultKind) → IsBadTupleSymbol bytes f j → IsBadTupleSymbol bytes f k → j ≡ k
  bad_tuple_symbol_one f j k (NoList a) (NoList b) = refl
  bad_tuple_symbol_one f j k (NoList a) (BadColumn before after symbol bad is each b) = absurd (none_some (before ++ bad ∷ after) (elements_of f) a is)
  bad_tuple_symbol_one f j k (BadColumn before after symbol bad is each b) (NoList a) = absurd (none_some (before ++ bad ∷ after) (elements_of f) a is)
  bad_tuple_symbol_one f j k (BadColumn before after symbol bad is each b) (BadColumn before' after' symbol' bad' is' each' b') =
      first_bad_one (IsSymbolForm bytes) BadSymbolAt (symbol_form_one bytes) (λ i. symbol_not_bad bytes) (λ i. bad_symbol_one bytes) 0 before after
      before' after' symbol symbol' bad bad' j k (elements_one f (before ++ bad ∷ after) (before' ++ bad' ∷ after') is is') each each' b b'

  -- ---- nodes

  record SameTwo (a b c d : Form) (fs gs : List Form) : Type 0 where
    head : a ≡ c
    second : b ≡ d
    others : fs ≡ gs

  same_two : (f a b c d : Form) (fs gs : List Form) → elements_of f ≡ Some (a ∷ b ∷ fs) → elements_of f ≡ Some (c ∷ d ∷ gs) → SameTwo a b c d fs gs
  same_two f a b c d fs gs h k =
      let e : a ∷ b ∷ fs ≡ c ∷ d ∷ gs = elements_one f (a ∷ b ∷ fs) (c ∷ d ∷ gs) h k in
      record { head = cc; second = cc; others = cc }

  one_or_two : (f a c d : Form) (gs : List Form) → elements_of f ≡ Some (a ∷ []) → elements_of f ≡ Some (c ∷ d ∷ gs) → ⊥
  one_or_two f a c d gs h k = let e = ap length (elements_one f (a ∷ []) (c ∷ d ∷ gs) h k) in omega arith

  headed : (f head : Form) (others : List Form) → elements_of f ≡ Some (head ∷ others) → word_of bytes head ≡ Some node_word → IsHeaded bytes node_word f
  headed f head others is word = record { first = head; others = others; is = is; head = word }

  pub node_headed : (f : Form) (node : Entry) → IsNodeForm bytes f node → IsHeaded bytes node_word f
  node_headed f node h = headed f h.head (h.second ∷ h.others) h.list h.headed

  pub node_one : (f : Form) (a b : Entry) → IsNodeForm bytes f a → IsNodeForm bytes f b → a ≡ b
  node_one f a b h k =
      let same = same_two f k.head k.second h.head h.second k.others h.others k.list h.list in
      let symbol : a.symbol ≡ b.symbol =
      tuple_symbol_one h.second a.symbol b.symbol h.symbol (subst (λ (g : Form). IsTupleSymbolForm bytes g b.symbol) same.second k.symbol) in
      let kids : a.kids ≡ b.kids =
      numbers_one h.others a.kids b.kids h.kids (subst (λ (gs : List Form). AllZip (IsNumberForm bytes) gs b.kids) same.others k.kids) in
      λ i. record { symbol = symbol i; kids = kids i }

  pub node_not_bad : (i : ℕ) (f : Form) (node : Entry) (fault : CertificateFault) → IsNodeForm bytes f node → IsBadNode bytes i f fault → ⊥
  node_not_bad i f node fault h (NoNode other) = other (node_headed f node h)
  node_not_bad i f node fault h (WithoutSymbol head is word) = one_or_two f head h.head h.second h.others is h.list
  node_not_bad i f node fault h (InSymbol head second others kind is word bad) =
      let same = same_two f head second h.head h.second others h.others is h.list in
      tuple_symbol_not_bad h.second node.symbol kind h.symbol (subst (λ (g : Form). IsBadTupleSymbol bytes g kind) same.second bad)
  node_not_bad i f node fault h (InKids head second before after symbol kids bad kind is word sym_is each b) =
      let same = same_two f h.head h.second head second h.others (before ++ bad ∷ after) h.list is in
      all_none_bad (IsNumberForm bytes) BadNumberAt (number_form_one bytes) number_not_bad bad_number_one 0 before after h.others node.kids kids bad kind
      same.others h.kids each b

  pub bad_node_one : (i : ℕ) (f : Form) (a b : CertificateFault) → IsBadNode bytes i f a → IsBadNode bytes i f b → a ≡ b
  bad_node_one i f a b (NoNode x) (NoNode y) = refl
  bad_node_one i f a b (NoNode x) (WithoutSymbol head is word) = refl
  bad_node_one i f a b (NoNode x) (InSymbol head second others kind is word bad) = absurd (x (headed f head (second ∷ others) is word))
  bad_node_one i f a b (NoNode x) (InKids head second before after symbol kids bad kind is word s each k) =
      absurd (x (headed f head (second ∷ (before ++ bad ∷ after)) is word))
  bad_node_one i f a b (WithoutSymbol head is word) (NoNode y) = refl
  bad_node_one i f a b (WithoutSymbol head is word) (WithoutSymbol head' is' word') = refl
  bad_node_one i f a b (WithoutSymbol head is word) (InSymbol head' second others kind is' word' bad) =
      absurd (one_or_two f head head' second others is is')
  bad_node_one i f a b (WithoutSymbol head is word) (InKids head' second before after symbol kids bad kind is' word' s each k) =
      absurd (one_or_two f head head' second (before ++ bad ∷ after) is is')
  bad_node_one i f a b (InSymbol head second others kind is word bad) (NoNode y) = absurd (y (headed f head (second ∷ others) is word))
  bad_node_one i f a b (InSymbol head second others kind is word bad) (WithoutSymbol head' is' word') =
      absurd (one_or_two f head' head second others is' is)
  bad_node_one i f a b (InSymbol head second others kind is word bad) (InSymbol head' second' others' kind' is' word' bad') =
      let same = same_two f head second head' second' others others' is is' in
      ap (fault_of i) (bad_tuple_symbol_one second' kind kind' (subst (λ (g : Form). IsBadTupleSymbol bytes g kind) same.second bad) bad')
  bad_node_one i f a b (InSymbol head second others kind is word bad) (InKids head' second' before after symbol kids bad' kind' is' word' s each k) =
      let same = same_two f head second head' second' others (before ++ bad' ∷ after) is is' in
      absurd (tuple_symbol_not_bad second' symbol kind s (subst (λ (g : Form). IsBadTupleSymbol bytes g kind) same.second bad))
  bad_node_one i f a b (InKids head second before after symbol kids bad kind is word s each k) (NoNode y) =
      absurd (y (headed f head (second ∷ (before ++ bad ∷ after)) is word))
  bad_node_one i f a b (InKids head second before after symbol kids bad kind is word s each k) (WithoutSymbol head' is' word') =
      absurd (one_or_two f head' head second (before ++ bad ∷ after) is' is)
  bad_node_one i f a b (InKids head second before after symbol kids bad kind is word s each k) (InSymbol head' second' others' kind' is' word' bad') =
      let same = same_two f head' second' head second others' (before ++ bad ∷ after) is' is in
      absurd (tuple_symbol_not_bad second symbol kind' s (subst (λ (g : Form). IsBadTupleSymbol bytes g kind') same.second bad'))
  bad_node_one i f a b (InKids head second before after symbol kids bad kind is word s each k)
      (InKids head' second' before' after' symbol' kids' bad' kind' is' word' s' each' k') =
      let same = same_two f head second head' second' (before ++ bad ∷ after) (before' ++ bad' ∷ after') is is' in
      ap (fault_of i) (first_bad_one (IsNumberForm bytes) BadNumberAt (number_form_one bytes) number_not_bad bad_number_one 0 before after before' after'
      kids kids' bad bad' kind kind' same.others each each' k k')

-- ---- no step is headed as a node

not_head : (h : StepHead) → head_word h ≡ node_word → ⊥
not_head ClosureHead e = let d = ap (λ w. get_or w 0 0) e in omega arith
not_head PartHead e = let d = ap (λ w. get_or w 0 0) e in omega arith
not_head MergeHead e = let d = ap (λ w. get_or w 0 0) e in omega arith
not_head CountsHead e = let d = ap (λ w. get_or w 0 0) e in omega arith
not_head ValueHead e = let d = ap (λ w. get_or w 0 0) e in omega arith

pub step_no_node : (bytes : List ℕ) (version : Version) (f : Form) (s : Step) → IsStepForm bytes version f s → IsHeaded bytes node_word f → ⊥
step_no_node bytes version f s h k =
    let x = filled bytes version f s h in
    let same = same_parts f x.head k.first x.others k.others x.is k.is in
    not_head x.which (word_one bytes k.first (head_word x.which) node_word (ap (word_of bytes) (sym same.head) ∙ x.headed) k.head)
