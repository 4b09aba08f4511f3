-- Nodes and their symbols, element by element, and what is wrong with the first that is none.
use Rattle.std.proofs.Common.{◌≡◌, ℕ, zero, suc, ◌+◌, ◌≤◌, List, [], ◌∷◌, ◌++◌, slice_get, drop, Option, None, Some, refl, ap, sym, ◌∙◌, subst, arith, append_assoc, append-nil}
use Rattle.std.specs.List.{AllZip, AllByRecursion}
use Rattle.std.proofs.lemmas.Slice.Zip.{all_zipped_more}
use Rattle.fort_grammar.specs.Forms.{Form}
use Rattle.fort_grammar.specs.Declarations.{word_of, elements_of, IsHeaded}
use Rattle.fort_tables.specs.Tuples.{TupleSymbol}
use Rattle.fort_tables.specs.Entries.{Entry, entry}
use Rattle.fort_certificate_theory.specs.CertificateForms.{IsNumberForm}
use Rattle.fort_certificate_theory.specs.CertificateFaults as grammar
use Rattle.fort_certificate_theory.specs.CertificateFaults.{FaultKind, fault_of, IsBadAt, NumberSlot, AreBad, HereOfRest, LaterOfRest}
use Rattle.fort_certificate_theory.specs.FilledSlots.{FitAll}
use Rattle.fort_certificate_theory.proofs.StepSlots.{same_parts}
use Rattle.fort_certificate_theory.specs.OpenForms.{absent_word, node_word, AbsentWord, SymbolWord, IsSymbolForm, IsTupleSymbolForm, IsNodeForm}
use Rattle.fort_certificate_theory.specs.OpenFaults.{IsBadSymbol, NoWord, NoSymbol, IsBadTupleSymbol, BadColumn, IsBadNode, WithoutSymbol, InSymbol, InKids}
use Rattle.fort_certificate_theory.proofs.NodeForms.{node_headed, node_not_bad}
use Rattle.fort_certificate.specs.Checking.{between}
use Rattle.fort_certificate.proofs.BuildLaws.{between_more}
use Rattle.fort_certificate.proofs.SmallLaws.{all_push}

-- ---- symbols of columns

module _ (bytes : List ℕ) (f : Form) where
  pub absent_form : word_of bytes f ≡ Some absent_word → IsSymbolForm bytes f None
  absent_form is = record { word = absent_word; is = is; symbol = AbsentWord refl }

  pub symbol_form : (g : ℕ) → IsNumberForm bytes f g → IsSymbolForm bytes f (Some g)
  symbol_form g h = record { word = h.word; is = h.is; symbol = SymbolWord h.number }

  pub symbol_bad : (kind : FaultKind) → (word_of bytes f ≡ Some absent_word → ⊥) → IsBadAt bytes f NumberSlot kind → IsBadSymbol bytes f kind
  symbol_bad kind other (grammar.NoWord is) = NoWord is
  symbol_bad kind other (grammar.NoNumber w is number) = NoSymbol w is (λ e. other (is ∙ ap Some e)) number

-- the symbols of the columns so far, where these forms are left
pub record AreColumnsTo (bytes : List ℕ) (f : Form) (left : List Form) (symbol : TupleSymbol) : Type 0 where
  pub before : List Form
  pub list : elements_of f ≡ Some (before ++ left)
  pub each : AllZip (IsSymbolForm bytes) before symbol

pub columns_none : (bytes : List ℕ) (f : Form) (fs : List Form) → elements_of f ≡ Some fs → AreColumnsTo bytes f fs []
columns_none bytes f fs is = record { before = []; list = is; each = tt }

module _ (bytes : List ℕ) (f : Form) (left : List Form) (symbol : TupleSymbol) (to : AreColumnsTo bytes f left symbol) where
  pub columns_more : (g : Form) (rest : List Form) (a : Option ℕ) → left ≡ g ∷ rest → IsSymbolForm bytes g a → AreColumnsTo bytes f rest (symbol ++ a ∷ [])
  columns_more g rest a e one = record {
    before = to.before ++ g ∷ [];
    list = to.list ∙ ap Some (ap (λ gs. to.before ++ gs) e ∙ sym (append_assoc to.before (g ∷ []) rest));
    each = all_zipped_more (IsSymbolForm bytes) to.before symbol g a to.each one;
  }

  pub columns_bad : (g : Form) (rest : List Form) (kind : FaultKind) → left ≡ g ∷ rest → IsBadSymbol bytes g kind → IsBadTupleSymbol bytes f kind
  columns_bad g rest kind e bad = BadColumn to.before rest symbol g (to.list ∙ ap (λ gs. Some (to.before ++ gs)) e) to.each bad

  pub columns_all : left ≡ [] → IsTupleSymbolForm bytes f symbol
  columns_all e = record {
    columns = to.before;
    list = to.list ∙ ap Some (ap (λ gs. to.before ++ gs) e ∙ append-nil to.before);
    are = to.each;
  }

-- ---- numbers of children

-- the first that is no number
record HasBadNumber (bytes : List ℕ) (fs : List Form) (kind : FaultKind) : Type 0 where
  before : List Form
  bad : Form
  after : List Form
  numbers : List ℕ
  split : fs ≡ before ++ bad ∷ after
  each : AllZip (IsNumberForm bytes) before numbers
  is : IsBadAt bytes bad NumberSlot kind

bad_number : (bytes : List ℕ) (fs : List Form) (kind : FaultKind) → AreBad bytes [] (Some NumberSlot) fs kind → HasBadNumber bytes fs kind
bad_number bytes fs kind (HereOfRest s f gs k bad) =
    record { before = []; bad = f; after = gs; numbers = []; split = refl; each = tt; is = bad }
bad_number bytes fs kind (LaterOfRest s f gs k fits bad) =
    let h = bad_number bytes gs kind bad in
    record {
      before = f ∷ h.before;
      bad = h.bad;
      after = h.after;
      numbers = fits.0 ∷ h.numbers;
      split = ap (λ xs. f ∷ xs) h.split;
      each = (fits.1, h.each);
      is = h.is;
    }

fit_numbers : (bytes : List ℕ) (fs : List Form) → FitAll bytes [] (Some NumberSlot) fs → (ns : List ℕ) × AllZip (IsNumberForm bytes) fs ns
fit_numbers bytes [] h = ([], tt)
fit_numbers bytes (f ∷ fs) h = let rest = fit_numbers bytes fs h.1 in (h.0.0 ∷ rest.0, (h.0.1, rest.1))

-- ---- nodes

module _ (bytes : List ℕ) (f head : Form) (fs behind : List Form) (list : elements_of f ≡ Some fs) (split : fs ≡ head ∷ behind)
    (headed : IsHeaded bytes node_word f) where
  is : elements_of f ≡ Some (head ∷ behind)
  is = list ∙ ap Some split

  word : word_of bytes head ≡ Some node_word
  word = ap (word_of bytes) (same_parts f head headed.first behind headed.others is headed.is).head ∙ headed.head

  pub without_symbol : behind ≡ [] → (i : ℕ) → IsBadNode bytes i f (grammar.BadForm i)
  without_symbol none i = WithoutSymbol head (is ∙ ap (λ gs. Some (head ∷ gs)) none) word

  module _ (second : Form) (others : List Form) (next : behind ≡ second ∷ others) where
    both : elements_of f ≡ Some (head ∷ second ∷ others)
    both = is ∙ ap (λ gs. Some (head ∷ gs)) next

    pub in_symbol : (kind : FaultKind) → IsBadTupleSymbol bytes second kind → (i : ℕ) → IsBadNode bytes i f (fault_of i kind)
    in_symbol kind bad i = InSymbol head second others kind both word bad

    pub in_kids : (kind : FaultKind) (symbol : TupleSymbol) → IsTupleSymbolForm bytes second symbol → AreBad bytes [] (Some NumberSlot) others kind
        → (i : ℕ) → IsBadNode bytes i f (fault_of i kind)
    in_kids kind symbol at bad i =
        let h = bad_number bytes others kind bad in
        InKids head second h.before h.after symbol h.numbers h.bad kind (both ∙ ap (λ gs. Some (head ∷ second ∷ gs)) h.split) word at h.each h.is

    pub node_of : (symbol : TupleSymbol) (ns : List ℕ) → IsTupleSymbolForm bytes second symbol → AllZip (IsNumberForm bytes) others ns
        → IsNodeForm bytes f (entry symbol ns)
    node_of symbol ns at each = record { head = head; second = second; others = others; list = both; headed = word; symbol = at; kids = each }

    pub some_node_of : (symbol : TupleSymbol) → IsTupleSymbolForm bytes second symbol → FitAll bytes [] (Some NumberSlot) others
        → (node : Entry) × IsNodeForm bytes f node
    some_node_of symbol at fit = let ns = fit_numbers bytes others fit in (entry symbol ns.0, node_of symbol ns.0 at ns.1)

-- what stands where in a node
module _ (bytes : List ℕ) (f : Form) (node : Entry) (h : IsNodeForm bytes f node) where
  pub node_elements : elements_of f ≡ None → ⊥
  node_elements none = let e : None ≡ Some (h.head ∷ h.second ∷ h.others) = sym none ∙ h.list in absurd cc

  module _ (fs : List Form) (list : elements_of f ≡ Some fs) where
    elements_same : fs ≡ h.head ∷ h.second ∷ h.others
    elements_same = let e : Some fs ≡ Some (h.head ∷ h.second ∷ h.others) = sym list ∙ h.list in cc

    pub node_head : fs ≡ [] → ⊥
    node_head none = let e : [] ≡ h.head ∷ h.second ∷ h.others = sym none ∙ elements_same in absurd cc

    module _ (head : Form) (behind : List Form) (split : fs ≡ head ∷ behind) where
      behind_same : behind ≡ h.second ∷ h.others
      behind_same = let e : head ∷ behind ≡ h.head ∷ h.second ∷ h.others = sym split ∙ elements_same in cc

      pub node_second : behind ≡ [] → ⊥
      node_second none = let e : [] ≡ h.second ∷ h.others = sym none ∙ behind_same in absurd cc

      module _ (second : Form) (others : List Form) (next : behind ≡ second ∷ others) where
        pub node_symbol : IsTupleSymbolForm bytes second node.symbol
        node_symbol =
            let e : second ∷ others ≡ h.second ∷ h.others = sym next ∙ behind_same in
            let same : h.second ≡ second = cc in
            subst (λ (g : Form). IsTupleSymbolForm bytes g node.symbol) same h.symbol

        pub node_kids : (kind : FaultKind) → AreBad bytes [] (Some NumberSlot) others kind → ⊥
        node_kids kind bad =
            node_not_bad bytes 0 f node (fault_of 0 kind) h
            (in_kids bytes f head fs behind list split (node_headed bytes f node h) second others next kind node.symbol node_symbol bad 0)

-- ---- forms from a number on

-- one of forms that all are values
pub some_at : {A : Type 0} (R : Form → A → Type 0) (all : List Form) (from i : ℕ) (f : Form) (xs : List A) → from ≤ i → slice_get all i ≡ Some f
    → AllZip R (drop from all) xs → (x : A) × R f x
some_at R [] from i f xs l here h = absurd cc
some_at R (g ∷ gs) zero i f [] l here h = absurd h
some_at R (g ∷ gs) zero zero f (x ∷ xs) l here h = let e : g ≡ f = cc in (x, subst (λ y. R y x) e h.0)
some_at R (g ∷ gs) zero (suc i) f (x ∷ xs) l here h = some_at R gs zero i f xs (omega arith) here h.1
some_at R (g ∷ gs) (suc n) zero f xs l here h = absurd (omega arith)
some_at R (g ∷ gs) (suc n) (suc i) f xs l here h = some_at R gs n i f xs (omega arith) here h

-- one more of which a fact holds
pub all_more : (P : Form → Type 0) (all : List Form) (from i : ℕ) (f : Form) → from ≤ i → slice_get all i ≡ Some f
    → AllByRecursion P (between from i all) → P f → AllByRecursion P (between from (i + 1) all)
all_more P all from i f low here h p =
    subst (AllByRecursion P) (sym (between_more all from i f low here)) (all_push P (between from i all) f h p)
