-- The rules of each index of an input are fewer than 2^26, and so are the different patterns within their left sides, and within their right ones: each pattern takes a byte of the text.
use Rattle.std.specs.Prelude.{◌≡◌, ℕ, suc, ◌+◌, ◌<◌, ◌≤◌, ◌^◌, ◌==◌, List, [], ◌∷◌, ◌++◌, length, map, get_or, Contains, Some, refl}
use Rattle.std.specs.List.{flat_map}
use Rattle.std.proofs.Common.{sym, ap, subst, ◌∙◌, length-append, arith, inl, inr}
use Rattle.std.proofs.lemmas.Bool.{cases_Bool}
use Rattle.std.proofs.lemmas.List.{get_or_default}
use Rattle.std.proofs.lemmas.List.Elements.{Contains-append_left, Contains-append_right, Contains-append_cases}
use Rattle.fort_theory.specs.Signatures.{Signature}
use Rattle.fort_theory.specs.Sides.{Side, Sides, System, at_index}
use Rattle.fort_theory.specs.Patterns.{Pattern, Any, Pair, pattern_of, patterns_of, pattern_pair, pattern_system}
use Rattle.fort_theory.specs.PatternOrder.{PatternBefore, subpatterns, all_subpatterns, AreSubpatternsInOrder}
use Rattle.fort_theory.proofs.ClosedPatterns.{PatternBefore-irreflexive}
use Rattle.fort_theory.proofs.IndexLaws.{at_index-map}
use Rattle.fort_theory.proofs.Members.{Contains-head, Contains-behind, Contains-cons_cases, Contains-none}
use Rattle.fort_theory.proofs.PatternOrderLaws.{Contains-flat_map_subpatterns}
use Rattle.fort_grammar.specs.Forms.{Form, Forms, Word, ListForm, NoForm, MoreForms, AreForms, AreFormsOf, End, Skip, AWord, AList}
use Rattle.fort_grammar.specs.Declarations.{as_list, elements_of}
use Rattle.fort_grammar.specs.RuleForms.{HasSides, OfFirst, OfIndex, IsSide, AreSides, AConstant, AVariable, AnApplication, NoSides, MoreOf, IndexedRule, IsRule, AreRules, rules_of}
use Rattle.fort_grammar.specs.ProblemForms.{IsProblem}
use Rattle.fort_parts.specs.DecidedCores.{AreFewRules}
use Rattle.fort_answers.specs.InputAnswer.{Tail, Behind, Nothing, ACertificate, AnOpenCertificate, NoRules, IsInput, IsCertifiedInput, IsInputWith, input_limit}
use Rattle.fort_certificate_theory.specs.Certificates.{Certificate}

-- ---- different elements of a list are no more than its elements

abbrev IsSet : {A : Type 0} → List A → Type 0
IsSet [] = Unit {0}
IsSet (x ∷ xs) = (Contains xs x → ⊥) × IsSet xs

-- the list, split at one of its elements
record SplitsAt {A : Type 0} (ys : List A) (x : A) : Type 0 where
  front : List A
  back : List A
  is : ys ≡ front ++ x ∷ back

split_at : {A : Type 0} (ys : List A) (x : A) → Contains ys x → SplitsAt ys x
split_at [] x c = absurd (Contains-none x c)
split_at (y ∷ ys) x c =
    elim (Contains-cons_cases y ys x c) [
      | inl here ↦ record { front = []; back = ys; is = ap (λ z. z ∷ ys) here }
      | inr there ↦ let s = split_at ys x there in record { front = y ∷ s.front; back = s.back; is = ap (λ zs. y ∷ zs) s.is }
    ]

fewer : {A : Type 0} (xs ys : List A) → IsSet xs → ((z : A) → Contains xs z → Contains ys z) → length xs ≤ length ys
fewer [] ys set among = omega arith
fewer {A = A} (x ∷ xs) ys set among =
    let s = split_at ys x (among x (Contains-head x xs)) in
    let others : (z : A) → Contains xs z → Contains (s.front ++ s.back) z =
    λ z c. elim (Contains-append_cases s.front (x ∷ s.back) z (subst (λ (zs : List A). Contains zs z) s.is (among z (Contains-behind x xs z c)))) [
      | inl l ↦ Contains-append_left s.front s.back z l
      | inr r ↦ elim (Contains-cons_cases x s.back z r) [
        | inl e ↦ absurd (set.0 (subst (Contains xs) (sym e) c))
        | inr b ↦ Contains-append_right s.front s.back z b
      ]
    ] in
    let rest = fewer xs (s.front ++ s.back) set.1 others in
    let whole = ap length s.is ∙ length-append s.front (x ∷ s.back) in
    let less = length-append s.front s.back in
    omega arith

-- a list in order has no pattern twice
IsSet-ordered : (ps : List Pattern) → ((i j : ℕ) → i < j → j < length ps → PatternBefore (get_or ps i Any) (get_or ps j Any)) → IsSet ps
IsSet-ordered [] ordered = tt
IsSet-ordered (p ∷ ps) ordered = (
  (λ c.
      let before : PatternBefore p (get_or ps c.0 Any) = ordered 0 (suc c.0) (omega arith) (let l : c.0 < length ps = c.1 in omega arith) in
      let same : get_or ps c.0 Any ≡ p = get_or_default ps c.0 Any p c.1 ∙ c.2 in
      PatternBefore-irreflexive p (subst (PatternBefore p) same before)),
  IsSet-ordered ps (λ i j l m. ordered (suc i) (suc j) (omega arith) (omega arith)),
)

pub few_subpatterns : (tops ps : List Pattern) → AreSubpatternsInOrder tops ps → length ps ≤ length (flat_map subpatterns tops)
few_subpatterns tops ps are =
    fewer ps (flat_map subpatterns tops) (IsSet-ordered ps are.ordered) (λ p c. (Contains-flat_map_subpatterns tops p).1 ((are.same p).0 c))

-- ---- what forms take

-- one byte at least for each word, and one for the parenthesis of each list
abbrev mutual
  room : Form → ℕ
  room (Word from to) = 1
  room (ListForm from to fs) = suc (rooms fs)

  rooms : Forms → ℕ
  rooms NoForm = 0
  rooms (MoreForms f fs) = room f + rooms fs

abbrev room_of : List Form → ℕ
room_of [] = 0
room_of (f ∷ fs) = room f + room_of fs

rooms_are : (fs : Forms) → rooms fs ≡ room_of (as_list fs)
rooms_are NoForm = refl
rooms_are (MoreForms f fs) = ap (λ n. room f + n) (rooms_are fs)

room_of-append : (fs gs : List Form) → room_of (fs ++ gs) ≡ room_of fs + room_of gs
room_of-append [] gs = omega arith
room_of-append (f ∷ fs) gs = let e = room_of-append fs gs in omega arith

some_room : (f : Form) → 1 ≤ room f
some_room (Word from to) = omega arith
some_room (ListForm from to fs) = omega arith

rooms_within : (bytes : List ℕ) (i j : ℕ) (fs : Forms) → AreForms bytes i j fs → i + rooms fs ≤ j
rooms_within bytes i j NoForm End = omega arith
rooms_within bytes i j fs (Skip skipped rest) = let r = rooms_within bytes (suc i) j fs rest in omega arith
rooms_within bytes i j (MoreForms f fs) (AWord {k = k} word rest) = let r = rooms_within bytes k j fs rest in let some : i < k = word.some in omega arith
rooms_within bytes i j (MoreForms f fs) (AList {k = k} {gs = gs} within opens inner within' closes rest) =
    let r = rooms_within bytes (suc k) j fs rest in
    let s = rooms_within bytes (suc i) k gs inner in
    omega arith

-- ---- the patterns within a side, and within the sides of one index

mutual
  side_room : (bytes : List ℕ) (signature : Signature) (n : ℕ) (f : Form) (s : Side) (names : List (List ℕ)) → IsSide bytes signature n f s names
      → length (subpatterns (pattern_of s)) ≤ room f
  side_room bytes signature n f s names (AConstant named arity) = some_room f
  side_room bytes signature n f s names (AVariable named) = some_room f
  side_room bytes signature n f s names (AnApplication {head = head} {first = first} {others = others} {ss = ss} named arity are) =
      let r = sides_room bytes signature n (MoreForms first others) ss names are in omega arith

  sides_room : (bytes : List ℕ) (signature : Signature) (n : ℕ) (fs : Forms) (ss : Sides) (names : List (List ℕ)) → AreSides bytes signature n fs ss names
      → length (all_subpatterns (patterns_of ss)) ≤ rooms fs
  sides_room bytes signature n fs ss names NoSides = omega arith
  sides_room bytes signature n fs ss names (MoreOf {f = f} {fs = gs} {s = s} {ss = rest} {names = own} {others = others} is are) =
      let a = side_room bytes signature n f s own is in
      let b = sides_room bytes signature (n + length own) gs rest others are in
      let e = length-append (subpatterns (pattern_of s)) (all_subpatterns (patterns_of rest)) in
      omega arith

elements_room : (f : Form) (elements : List Form) → elements_of f ≡ Some elements → room_of elements ≤ room f
elements_room (Word from to) elements is = absurd cc
elements_room (ListForm from to fs) elements is = let same : as_list fs ≡ elements = cc in let e = rooms_are fs ∙ ap room_of same in omega arith

sides_within : (bytes : List ℕ) (number : ℕ) (f left right : Form) (index : ℕ) → HasSides bytes number f left right index → room left + room right ≤ room f
sides_within bytes number f left right index (OfFirst head is word) = let r = elements_room f (head ∷ left ∷ right ∷ []) is in omega arith
sides_within bytes number f left right index (OfIndex head key value is word k v low high) =
    let r = elements_room f (head ∷ left ∷ right ∷ key ∷ value ∷ []) is in omega arith

left_room : (bytes : List ℕ) (number : ℕ) (signature : Signature) (f : Form) (r : IndexedRule) → IsRule bytes number signature f r
    → length (subpatterns (pattern_pair r.rule).0) ≤ room f
left_room bytes number signature f r is =
    let within = sides_within bytes number f is.left is.right r.index is.sides in
    let own = side_room bytes signature 0 is.left r.rule.left is.left_names is.left_is in
    omega arith

right_room : (bytes : List ℕ) (number : ℕ) (signature : Signature) (f : Form) (r : IndexedRule) → IsRule bytes number signature f r
    → length (subpatterns (pattern_pair r.rule).1) ≤ room f
right_room bytes number signature f r is =
    let within = sides_within bytes number f is.left is.right r.index is.sides in
    let own = side_room bytes signature (length is.left_names) is.right r.rule.right is.right_names is.right_is in
    omega arith

rules_room : (bytes : List ℕ) (number : ℕ) (signature : Signature) (pick : Pair → Pattern)
    → ((f : Form) (r : IndexedRule) → IsRule bytes number signature f r → length (subpatterns (pick (pattern_pair r.rule))) ≤ room f)
    → (index : ℕ) (fs : List Form) (rs : List IndexedRule) → AreRules bytes number signature fs rs
    → length (flat_map subpatterns (map pick (map pattern_pair (rules_of index rs)))) ≤ room_of fs
rules_room bytes number signature pick one index [] [] are = omega arith
rules_room bytes number signature pick one index [] (r ∷ rs) are = absurd are
rules_room bytes number signature pick one index (f ∷ fs) [] are = absurd are
rules_room bytes number signature pick one index (f ∷ fs) (r ∷ rs) are =
    let rest = rules_room bytes number signature pick one index fs rs are.1 in
    elim (cases_Bool (r.index == index)) [
      | inl here ↦ rw here (
          let own = one f r are.0 in
          let e = length-append (subpatterns (pick (pattern_pair r.rule))) (flat_map subpatterns (map pick (map pattern_pair (rules_of index rs)))) in
          omega arith)
      | inr other ↦ rw other (omega arith)
    ]

rules_count : (bytes : List ℕ) (number : ℕ) (signature : Signature) (index : ℕ) (fs : List Form) (rs : List IndexedRule)
    → AreRules bytes number signature fs rs → length (map pattern_pair (rules_of index rs)) ≤ length fs
rules_count bytes number signature index [] [] are = omega arith
rules_count bytes number signature index [] (r ∷ rs) are = absurd are
rules_count bytes number signature index (f ∷ fs) [] are = absurd are
rules_count bytes number signature index (f ∷ fs) (r ∷ rs) are =
    let rest = rules_count bytes number signature index fs rs are.1 in
    elim (cases_Bool (r.index == index)) [
      | inl here ↦ rw here (omega arith)
      | inr other ↦ rw other (omega arith)
    ]

-- ---- a problem in a short text

module _ (bytes : List ℕ) (forms : Forms) (are : AreFormsOf bytes forms) (system : System) (next : ℕ) (is : IsProblem bytes (as_list forms) system next)
    (short : length bytes ≤ input_limit) where
  -- the first form takes a byte, too
  rules_within : room_of is.rules < 2 ^ 26
  rules_within =
      let all = rooms_within bytes 0 (length bytes) forms are.stand in
      let parts = rooms_are forms ∙ ap room_of is.parts.is in
      let a = room_of-append is.declarations (is.rules ++ is.behind) in
      let b = room_of-append is.rules is.behind in
      let first = some_room is.first in
      omega arith

  module _ (index : ℕ) where
    abbrev own_rules : List Pair
    own_rules = map pattern_pair (rules_of index is.given)

    own_are : at_index index (pattern_system system).rules ≡ own_rules
    own_are = at_index-map pattern_pair index system.rules ∙ ap (map pattern_pair) (is.sorted index)

    few_within : (pick : Pair → Pattern)
        → ((f : Form) (r : IndexedRule) → IsRule bytes (length system.rules) system.signature f r → length (subpatterns (pick (pattern_pair r.rule))) ≤ room f)
        → (ps : List Pattern) → AreSubpatternsInOrder (map pick own_rules) ps → length ps < 2 ^ 26
    few_within pick one ps ordered =
        let few = few_subpatterns (map pick own_rules) ps ordered in
        let sum = rules_room bytes (length system.rules) system.signature pick one index is.rules is.given is.are_rules in
        let bound = rules_within in
        omega arith

    own_few : AreFewRules own_rules
    own_few = record {
      rules =
          let count = rules_count bytes (length system.rules) system.signature index is.rules is.given is.are_rules in
          let most : length is.rules ≤ 4096 = is.few in
          omega arith;
      lefts = few_within (λ (pair : Pair). pair.0) (left_room bytes (length system.rules) system.signature);
      rights = few_within (λ (pair : Pair). pair.1) (right_room bytes (length system.rules) system.signature);
    }

    pub AreFewRules-problem : AreFewRules (at_index index (pattern_system system).rules)
    AreFewRules-problem = subst AreFewRules (sym own_are) own_few

AreFewRules-input : (bytes : List ℕ) (system : System) → IsInput bytes system → (index : ℕ) → AreFewRules (at_index index (pattern_system system).rules)
AreFewRules-input bytes system is index =
    let text = is.problem in
    AreFewRules-problem bytes text.forms text.are_forms system (length (as_list text.forms)) text.problem is.short index

AreFewRules-certified : (bytes : List ℕ) (system : System) (c : Certificate) → IsCertifiedInput bytes system c
    → (index : ℕ) → AreFewRules (at_index index (pattern_system system).rules)
AreFewRules-certified bytes system c is index = AreFewRules-problem bytes is.forms is.are_forms system is.next is.problem is.short index

pub AreFewRules-with : (tail : Tail) (bytes : List ℕ) (system : System) (behind : Behind tail) → IsInputWith tail bytes system behind
    → (index : ℕ) → AreFewRules (at_index index (pattern_system system).rules)
AreFewRules-with Nothing bytes system behind is index = AreFewRules-input bytes system is index
AreFewRules-with ACertificate bytes system behind is index = AreFewRules-certified bytes system behind is index
AreFewRules-with AnOpenCertificate bytes system behind is index = AreFewRules-problem bytes is.forms is.are_forms system is.next is.problem is.short index
AreFewRules-with NoRules bytes system behind is index =
    AreFewRules-problem bytes is.forms is.are_forms system (length (as_list is.forms)) is.problem is.short index
