-- The lines of a written text are read as lists of the elements that they have.
use Rattle.std.proofs.Common.{◌≡◌, ℕ, suc, ◌+◌, ◌<◌, ◌≤◌, List, [], ◌∷◌, ◌++◌, map, length, Some, refl, ap, sym, ◌∙◌, subst, arith, append_assoc}
use Rattle.std.specs.List.{AllByRecursion, AllZip}
use Rattle.std.proofs.lemmas.List.{map-id}
use Rattle.fort_grammar.specs.Text.{deepest, is_blank}
use Rattle.fort_grammar.specs.Forms.{Form, Forms, NoForm, MoreForms, Word, ListForm}
use Rattle.fort_grammar.specs.Declarations.{as_list, word_of, elements_of, AreWords}
use Rattle.fort_sexpr.specs.Progress.{Level, IsReadUpTo}
use Rattle.fort_sexpr.proofs.FormLists.{joined, joined-none}
use Rattle.fort_sexpr.proofs.Steps.{read_blank, read_open, read_close}
use Rattle.fort_certificate_theory.specs.CertificateText as text
use Rattle.fort_certificate_theory.specs.CertificateText.{Element, Group, spaced, in_parentheses, element_text, line_of}
use Rattle.fort_certificate_texts.proofs.TextWords.{IsWritten, IsBreak, IsAt, at_length, at_past, at_first, at_front, text_word, word_again}
use Rattle.fort_certificate_theory.proofs.Spelled.{SpellsElement, Spells}

abbrev pub IsWrittenElement : Element → Type 0
IsWrittenElement (text.Word w) = IsWritten w
IsWrittenElement (Group ws) = AllByRecursion IsWritten ws

pub joined-one : (fs : Forms) (f : Form) (gs : Forms) → joined (joined fs (MoreForms f NoForm)) gs ≡ joined fs (MoreForms f gs)
joined-one NoForm f gs = refl
joined-one (MoreForms g fs) f gs = ap (MoreForms g) (joined-one fs f gs)

close_breaks : (rest : List ℕ) → IsBreak (41 ∷ rest)
close_breaks rest = record { ends = λ l. refl }

blank_breaks : (rest : List ℕ) → IsBreak (32 ∷ rest)
blank_breaks rest = record { ends = λ l. refl }

-- up to a place, more forms were read, each this one
record ReadTo (bytes : List ℕ) (levels : List Level) (fs : Forms) {A : Type 0} (R : Form → A → Type 0) (xs : List A) (rest : List ℕ) : Type 0 where
  forms : Forms
  place : ℕ
  read : IsReadUpTo bytes levels (joined fs forms) place
  at : IsAt bytes place [] rest
  each : AllZip R (as_list forms) xs

pub record ReadOne (bytes : List ℕ) (levels : List Level) (fs : Forms) {A : Type 0} (R : Form → A → Type 0) (x : A) (rest : List ℕ) : Type 0 where
  pub form : Form
  pub place : ℕ
  pub read : IsReadUpTo bytes levels (joined fs (MoreForms form NoForm)) place
  pub at : IsAt bytes place [] rest
  pub is : R form x

abbrev IsWordOf : List ℕ → Form → List ℕ → Type 0
IsWordOf bytes f w = word_of bytes f ≡ Some w

one_word : (bytes : List ℕ) (levels : List Level) (fs : Forms) (i : ℕ) (w rest : List ℕ) → IsReadUpTo bytes levels fs i → IsAt bytes i w rest
    → IsWritten w → IsBreak rest → ReadOne bytes levels fs (IsWordOf bytes) w rest
one_word bytes levels fs i w rest r h n b = record {
  form = Word i (i + length w);
  place = i + length w;
  read = text_word bytes levels fs i w rest r h n b;
  at = at_past bytes i w [] rest h;
  is = word_again bytes i w rest h;
}

-- a blank between elements
over_blank : (bytes : List ℕ) (levels : List Level) (fs : Forms) (i : ℕ) (w rest : List ℕ) → IsReadUpTo bytes levels fs i
    → IsAt bytes i [] (32 ∷ w ++ rest) → IsReadUpTo bytes levels fs (i + 1) × IsAt bytes (i + 1) w rest
over_blank bytes levels fs i w rest r h =
    let here : IsAt bytes i (32 ∷ []) (w ++ rest) = record { is = h.is; within = h.within } in
    let first = at_first bytes i 32 [] (w ++ rest) here in
    (read_blank bytes levels fs i r (omega (arith, at_length bytes i (32 ∷ []) (w ++ rest) here)) (ap is_blank first), at_past bytes i (32 ∷ []) w rest here)

-- elements with blanks between, before the end of a list
module _ {A : Type 0} (bytes : List ℕ) (R : Form → A → Type 0) (of : A → List ℕ) (Written : A → Type 0) (bound : ℕ)
    (one : (levels : List Level) (fs : Forms) (i : ℕ) (x : A) (rest : List ℕ) → Written x → length levels < bound → IsReadUpTo bytes levels fs i
    → IsAt bytes i (of x) rest → IsBreak rest → ReadOne bytes levels fs R x rest) where
  read_all : (levels : List Level) (fs : Forms) (i : ℕ) (xs : List A) (rest : List ℕ) → AllByRecursion Written xs → length levels < bound
      → IsReadUpTo bytes levels fs i → IsAt bytes i (spaced (map of xs)) (41 ∷ rest) → ReadTo bytes levels fs R xs (41 ∷ rest)
  read_all levels fs i [] rest n few r h = record {
    forms = NoForm;
    place = i;
    read = subst (λ (gs : Forms). IsReadUpTo bytes levels gs i) (sym (joined-none fs)) r;
    at = h;
    each = tt;
  }
  read_all levels fs i (x ∷ []) rest n few r h =
      let o = one levels fs i x (41 ∷ rest) n.0 few r h (close_breaks rest) in
      record { forms = MoreForms o.form NoForm; place = o.place; read = o.read; at = o.at; each = (o.is, tt) }
  read_all levels fs i (x ∷ y ∷ xs) rest n few r h =
      let more = spaced (map of (y ∷ xs)) in
      let front = at_front bytes i (of x) (32 ∷ more) (41 ∷ rest) h in
      let o = one levels fs i x (32 ∷ more ++ 41 ∷ rest) n.0 few r front (blank_breaks (more ++ 41 ∷ rest)) in
      let b = over_blank bytes levels (joined fs (MoreForms o.form NoForm)) o.place more (41 ∷ rest) o.read o.at in
      let later = read_all levels (joined fs (MoreForms o.form NoForm)) (o.place + 1) (y ∷ xs) rest n.1 few b.0 b.1 in
      record {
        forms = MoreForms o.form later.forms;
        place = later.place;
        read = subst (λ (gs : Forms). IsReadUpTo bytes levels gs later.place) (joined-one fs o.form later.forms) later.read;
        at = later.at;
        each = (o.is, later.each);
      }

  abbrev IsListOf : Form → List A → Type 0
  IsListOf f xs = (fs : List Form) × (elements_of f ≡ Some fs) × AllZip R fs xs

  -- a list of them
  read_list : (levels : List Level) (fs : Forms) (i : ℕ) (xs : List A) (rest : List ℕ) → AllByRecursion Written xs → bound ≤ deepest
      → suc (length levels) < bound → IsReadUpTo bytes levels fs i → IsAt bytes i (in_parentheses (map of xs)) rest
      → ReadOne bytes levels fs IsListOf xs rest
  read_list levels fs i xs rest n deep few r h =
      let inner = spaced (map of xs) in
      let open_at : IsAt bytes i (40 ∷ []) (inner ++ (41 ∷ rest)) = record { is = h.is ∙ ap (λ ys. 40 ∷ ys) (append_assoc inner (41 ∷ []) rest); within = h.within } in
      let opened = read_open bytes levels fs i r (omega (arith, at_length bytes i (40 ∷ []) (inner ++ (41 ∷ rest)) open_at)) (at_first bytes i 40 [] (inner ++ (41 ∷ rest)) open_at) (omega arith) in
      let all = read_all (record { from = i; before = fs } ∷ levels) NoForm (i + 1) xs rest n few opened (at_past bytes i (40 ∷ []) inner (41 ∷ rest) open_at) in
      let close_at : IsAt bytes all.place (41 ∷ []) rest = record { is = all.at.is; within = all.at.within } in
      let closed = read_close bytes i fs levels all.forms all.place all.read (omega (arith, at_length bytes all.place (41 ∷ []) rest close_at)) (at_first bytes all.place 41 [] rest close_at) in
      record {
        form = ListForm i (all.place + 1) all.forms;
        place = all.place + 1;
        read = closed;
        at = at_past bytes all.place (41 ∷ []) [] rest close_at;
        is = (as_list all.forms, refl, all.each);
      }

word_at : (bytes : List ℕ) (levels : List Level) (fs : Forms) (i : ℕ) (w rest : List ℕ) → IsWritten w → length levels < 3
    → IsReadUpTo bytes levels fs i → IsAt bytes i w rest → IsBreak rest → ReadOne bytes levels fs (IsWordOf bytes) w rest
word_at bytes levels fs i w rest n few r h b = one_word bytes levels fs i w rest r h n b

words_of_each : (bytes : List ℕ) (fs : List Form) (ws : List (List ℕ)) → AllZip (IsWordOf bytes) fs ws → AreWords bytes fs ws
words_of_each bytes [] [] h = tt
words_of_each bytes [] (w ∷ ws) h = absurd h
words_of_each bytes (f ∷ fs) [] h = absurd h
words_of_each bytes (f ∷ fs) (w ∷ ws) h = (h.0, words_of_each bytes fs ws h.1)

element_at : (bytes : List ℕ) (levels : List Level) (fs : Forms) (i : ℕ) (e : Element) (rest : List ℕ) → IsWrittenElement e → length levels < 2
    → IsReadUpTo bytes levels fs i → IsAt bytes i (element_text e) rest → IsBreak rest → ReadOne bytes levels fs (SpellsElement bytes) e rest
element_at bytes levels fs i (text.Word w) rest n few r h b =
    let o = one_word bytes levels fs i w rest r h n b in
    record { form = o.form; place = o.place; read = o.read; at = o.at; is = o.is }
element_at bytes levels fs i (Group ws) rest n few r h b =
    let there : IsAt bytes i (in_parentheses (map (λ w. w) ws)) rest = subst (λ (vs : List (List ℕ)). IsAt bytes i (in_parentheses vs) rest) (sym (map-id ws)) h in
    let o = read_list bytes (IsWordOf bytes) (λ w. w) IsWritten 3 (word_at bytes) levels fs i ws rest n (omega arith) (omega arith) r there in
    record { form = o.form; place = o.place; read = o.read; at = o.at; is = record { elements = o.is.0; is = o.is.1; words_are = words_of_each bytes o.is.0 ws o.is.2 } }

-- a line
pub line_at : (bytes : List ℕ) (fs : Forms) (i : ℕ) (es : List Element) (rest : List ℕ) → AllByRecursion IsWrittenElement es
    → IsReadUpTo bytes [] fs i → IsAt bytes i (line_of es) rest → ReadOne bytes [] fs (Spells bytes) es rest
line_at bytes fs i es rest n r h =
    let front = at_front bytes i (in_parentheses (map element_text es)) (10 ∷ []) rest h in
    let o = read_list bytes (SpellsElement bytes) element_text IsWrittenElement 2 (element_at bytes) [] fs i es (10 ∷ rest) n (omega arith) (omega arith) r front in
    let gs = joined fs (MoreForms o.form NoForm) in
    let feed : IsAt bytes o.place (10 ∷ []) rest = record { is = o.at.is; within = o.at.within } in
    record {
      form = o.form;
      place = o.place + 1;
      read = read_blank bytes [] gs o.place o.read (omega (arith, at_length bytes o.place (10 ∷ []) rest feed)) (ap is_blank (at_first bytes o.place 10 [] rest feed));
      at = at_past bytes o.place (10 ∷ []) [] rest feed;
      is = record { elements = o.is.0; is = o.is.1; each = o.is.2 };
    }
