-- A text with more behind it has the same forms in front: what they declare and which rules they are stays the same.
use Rattle.std.proofs.Common.{◌≡◌, ℕ, ◌-◌, ◌≤◌, List, [], ◌∷◌, ◌++◌, length, drop, take, refl, ap, sym, ◌∙◌, arith, subst}
use Rattle.std.specs.Prelude.{Some, codes}
use Rattle.std.specs.List.{AllByRecursion}
use Rattle.std.proofs.lemmas.List.{take-append-le, drop-append-le, append_assoc, length-drop}
use Rattle.fort_theory.specs.Signatures.{Signature}
use Rattle.fort_theory.specs.Sides.{System, Side, Sides}
use Rattle.fort_grammar.specs.Forms.{Form, Forms, Word, ListForm, NoForm, MoreForms, AreForms, End, Skip, AWord, AList, AreFormsOf}
use Rattle.fort_grammar.specs.Declarations.{as_list, word_of, elements_of, AreWords, IsListOfWords, IsHeaded, IsFormat, OneSystem, Several, DeclareEach, AreDeclarations}
use Rattle.fort_grammar.specs.RuleForms.{HasSides, OfFirst, OfIndex, IsVariableNamed, IsFunctionNamed, IsSide, AConstant, AVariable, AnApplication, AreSides, NoSides, MoreOf, IndexedRule, IsRule, AreRules}
use Rattle.fort_grammar.specs.ProblemForms.{BeginsOtherwise, IsProblem}

-- the words of a form end within the first n bytes
mutual
  data IsIn (n : ℕ) : Form → Type 0 where
    InWord : {from to : ℕ} → from ≤ to → to ≤ n → IsIn n (Word from to)
    InList : {from to : ℕ} {fs : Forms} → AreIn n fs → IsIn n (ListForm from to fs)

  data AreIn (n : ℕ) : Forms → Type 0 where
    InNone : AreIn n NoForm
    InMore : {f : Form} {fs : Forms} → IsIn n f → AreIn n fs → AreIn n (MoreForms f fs)

abbrev AreAllIn : ℕ → List Form → Type 0
AreAllIn n [] = Unit {0}
AreAllIn n (f ∷ fs) = IsIn n f × AreAllIn n fs

forms_in : (bytes : List ℕ) {i j : ℕ} {fs : Forms} → AreForms bytes i j fs → AreIn (length bytes) fs
forms_in bytes End = InNone
forms_in bytes (Skip s d) = forms_in bytes d
forms_in bytes (AWord w d) = InMore (InWord (omega (arith, w.some)) w.within) (forms_in bytes d)
forms_in bytes (AList l o d m c e) = InMore (InList (forms_in bytes d)) (forms_in bytes e)

list_in : (n : ℕ) (fs : Forms) → AreIn n fs → AreAllIn n (as_list fs)
list_in n NoForm InNone = tt
list_in n (MoreForms f fs) (InMore h r) = (h, list_in n fs r)

front_in : (n : ℕ) (fs gs : List Form) → AreAllIn n (fs ++ gs) → AreAllIn n fs
front_in n [] gs h = tt
front_in n (f ∷ fs) gs h = (h.0, front_in n fs gs h.1)

back_in : (n : ℕ) (fs gs : List Form) → AreAllIn n (fs ++ gs) → AreAllIn n gs
back_in n [] gs h = h
back_in n (f ∷ fs) gs h = back_in n fs gs h.1

elements_in : (n : ℕ) (f : Form) (fs : List Form) → IsIn n f → elements_of f ≡ Some fs → AreAllIn n fs
elements_in n (Word from to) fs h e = absurd cc
elements_in n (ListForm from to gs) fs (InList h) e = let same : as_list gs ≡ fs = cc in subst (AreAllIn n) same (list_in n gs h)

module _ (p t : List ℕ) where
  abbrev whole : List ℕ
  whole = p ++ t

  abbrev Inside : Form → Type 0
  Inside f = IsIn (length p) f

  abbrev AllInside : List Form → Type 0
  AllInside fs = AreAllIn (length p) fs

  same_word : (f : Form) → Inside f → word_of whole f ≡ word_of p f
  same_word (Word from to) (InWord some within) =
      let rest = length-drop from p in
      ap Some (ap (take (to - from)) (drop-append-le from p t (omega arith)) ∙ take-append-le (to - from) (drop from p) t (omega arith))
  same_word (ListForm from to fs) h = refl

  words_too : (fs : List Form) (ws : List (List ℕ)) → AllInside fs → AreWords p fs ws → AreWords whole fs ws
  words_too [] [] h a = tt
  words_too [] (w ∷ ws) h a = absurd a
  words_too (f ∷ fs) [] h a = absurd a
  words_too (f ∷ fs) (w ∷ ws) h a = (same_word f h.0 ∙ a.0, words_too fs ws h.1 a.1)

  list_too : (f : Form) (ws : List (List ℕ)) → Inside f → IsListOfWords p f ws → IsListOfWords whole f ws
  list_too f ws h l = record { elements = l.elements; is = l.is; words_are = words_too l.elements ws (elements_in (length p) f l.elements h l.is) l.words_are }

  headed_too : (word : List ℕ) (f : Form) → Inside f → IsHeaded p word f → IsHeaded whole word f
  headed_too word f h a = record {
    first = a.first;
    others = a.others;
    is = a.is;
    head = same_word a.first (elements_in (length p) f (a.first ∷ a.others) h a.is).0 ∙ a.head;
  }

  headed_before : (word : List ℕ) (f : Form) → Inside f → IsHeaded whole word f → IsHeaded p word f
  headed_before word f h a = record {
    first = a.first;
    others = a.others;
    is = a.is;
    head = sym (same_word a.first (elements_in (length p) f (a.first ∷ a.others) h a.is).0) ∙ a.head;
  }

  all_headed_too : (word : List ℕ) (fs : List Form) → AllInside fs → AllByRecursion (IsHeaded p word) fs → AllByRecursion (IsHeaded whole word) fs
  all_headed_too word [] h a = tt
  all_headed_too word (f ∷ fs) h a = (headed_too word f h.0 a.0, all_headed_too word fs h.1 a.1)

  begins_too : (word : List ℕ) (fs gs : List Form) → AllInside fs → BeginsOtherwise p word fs → BeginsOtherwise whole word gs → BeginsOtherwise whole word (fs ++ gs)
  begins_too word [] gs h b c = c
  begins_too word (f ∷ fs) gs h b c = λ a. b (headed_before word f h.0 a)

  format_too : (f : Form) (n : ℕ) → Inside f → IsFormat p f n → IsFormat whole f n
  format_too f n h (OneSystem l) = OneSystem (list_too f _ h l)
  format_too f n h (Several low high l) = Several low high (list_too f _ h l)

  declares_too : (fs : List Form) (ss : Signature) → AllInside fs → DeclareEach p fs ss → DeclareEach whole fs ss
  declares_too [] [] h d = tt
  declares_too [] (s ∷ ss) h d = absurd d
  declares_too (f ∷ fs) [] h d = absurd d
  declares_too (f ∷ fs) (s ∷ ss) h d =
      (record { words = list_too f _ h.0 d.0.words; named = d.0.named; small = d.0.small }, declares_too fs ss h.1 d.1)

  declarations_too : (fs : List Form) (sig : Signature) → AllInside fs → AreDeclarations p fs sig → AreDeclarations whole fs sig
  declarations_too fs sig h d = record { each = declares_too fs sig h d.each; distinct = d.distinct; few = d.few }

  function_too : (sig : Signature) (f : Form) (g : ℕ) → Inside f → IsFunctionNamed p sig f g → IsFunctionNamed whole sig f g
  function_too sig f g h a = record { name = a.name; word = same_word f h ∙ a.word; named = a.named; declared = a.declared }

  variable_too : (sig : Signature) (f : Form) (name : List ℕ) → Inside f → IsVariableNamed p sig f name → IsVariableNamed whole sig f name
  variable_too sig f name h a = record { word = same_word f h ∙ a.word; named = a.named; free = a.free }

  mutual
    side_too : (sig : Signature) {n : ℕ} {f : Form} {s : Side} {names : List (List ℕ)} → Inside f → IsSide p sig n f s names → IsSide whole sig n f s names
    side_too sig h (AConstant {f = f} {g = g} a arity) = AConstant (function_too sig f g h a) arity
    side_too sig h (AVariable {f = f} {name = name} a) = AVariable (variable_too sig f name h a)
    side_too sig (InList (InMore h r)) (AnApplication {head = head} {g = g} a arity d) = AnApplication (function_too sig head g h a) arity (sides_too sig r d)

    sides_too : (sig : Signature) {n : ℕ} {fs : Forms} {ss : Sides} {names : List (List ℕ)} → AreIn (length p) fs → AreSides p sig n fs ss names
        → AreSides whole sig n fs ss names
    sides_too sig h NoSides = NoSides
    sides_too sig (InMore h r) (MoreOf d e) = MoreOf (side_too sig h d) (sides_too sig r e)

  has_sides_too : (number : ℕ) (f left right : Form) {index : ℕ} → Inside f → HasSides p number f left right index → HasSides whole number f left right index
  has_sides_too number f left right h (OfFirst head is word) =
      let all = elements_in (length p) f (head ∷ left ∷ right ∷ []) h is in OfFirst head is (same_word head all.0 ∙ word)
  has_sides_too number f left right h (OfIndex head key value is word key_is value_is low high) =
      let all = elements_in (length p) f (head ∷ left ∷ right ∷ key ∷ value ∷ []) h is in
      OfIndex head key value is (same_word head all.0 ∙ word) (same_word key all.1.1.1.0 ∙ key_is) (same_word value all.1.1.1.1.0 ∙ value_is) low high

  sides_in : (number : ℕ) (f left right : Form) {index : ℕ} → Inside f → HasSides p number f left right index → Inside left × Inside right
  sides_in number f left right h (OfFirst head is word) =
      let all = elements_in (length p) f (head ∷ left ∷ right ∷ []) h is in (all.1.0, all.1.1.0)
  sides_in number f left right h (OfIndex head key value is word key_is value_is low high) =
      let all = elements_in (length p) f (head ∷ left ∷ right ∷ key ∷ value ∷ []) h is in (all.1.0, all.1.1.0)

  rule_too : (number : ℕ) (sig : Signature) (f : Form) (r : IndexedRule) → Inside f → IsRule p number sig f r → IsRule whole number sig f r
  rule_too number sig f r h a =
      let both = sides_in number f a.left a.right h a.sides in
      record {
        left = a.left;
        right = a.right;
        sides = has_sides_too number f a.left a.right h a.sides;
        left_names = a.left_names;
        right_names = a.right_names;
        left_is = side_too sig both.0 a.left_is;
        right_is = side_too sig both.1 a.right_is;
        once = a.once;
      }

  rules_too : (number : ℕ) (sig : Signature) (fs : List Form) (rs : List IndexedRule) → AllInside fs → AreRules p number sig fs rs
      → AreRules whole number sig fs rs
  rules_too number sig [] [] h a = tt
  rules_too number sig [] (r ∷ rs) h a = absurd a
  rules_too number sig (f ∷ fs) [] h a = absurd a
  rules_too number sig (f ∷ fs) (r ∷ rs) h a = (rule_too number sig f r h.0 a.0, rules_too number sig fs rs h.1 a.1)

  -- result: a problem is one with forms behind it too that are headed neither `fun` nor `rule`
  pub problem_too : (forms : Forms) (system : System) (others : List Form) → AreFormsOf p forms → IsProblem p (as_list forms) system (length (as_list forms))
      → BeginsOtherwise whole (codes "fun") others → BeginsOtherwise whole (codes "rule") others
      → IsProblem whole (as_list forms ++ others) system (length (as_list forms))
  problem_too forms system others are is no_declaration no_rule =
      let inside = subst AllInside is.parts.is (list_in (length p) forms (forms_in p are.stand)) in
      let declarations = front_in (length p) is.declarations (is.rules ++ is.behind) inside.1 in
      let behind = back_in (length p) is.declarations (is.rules ++ is.behind) inside.1 in
      let rules = front_in (length p) is.rules is.behind behind in
      record {
        first = is.first;
        declarations = is.declarations;
        rules = is.rules;
        behind = is.behind ++ others;
        parts = record {
          is = ap (λ xs. xs ++ others) is.parts.is
              ∙ ap (λ xs. is.first ∷ xs) (append_assoc is.declarations (is.rules ++ is.behind) others
              ∙ ap (λ xs. is.declarations ++ xs) (append_assoc is.rules is.behind others));
          declare = all_headed_too (codes "fun") is.declarations declarations is.parts.declare;
          declared = subst (BeginsOtherwise whole (codes "fun")) (append_assoc is.rules is.behind others)
              (begins_too (codes "fun") (is.rules ++ is.behind) others behind is.parts.declared no_declaration);
          rule = all_headed_too (codes "rule") is.rules rules is.parts.rule;
          ruled = begins_too (codes "rule") is.behind others (back_in (length p) is.rules is.behind behind) is.parts.ruled no_rule;
        };
        format = format_too is.first (length system.rules) inside.0 is.format;
        declares = declarations_too is.declarations system.signature declarations is.declares;
        constant = is.constant;
        given = is.given;
        are_rules = rules_too (length system.rules) system.signature is.rules is.given rules is.are_rules;
        sorted = is.sorted;
        few = is.few;
        next_is = is.next_is;
      }
