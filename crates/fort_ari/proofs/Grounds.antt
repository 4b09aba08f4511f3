-- Forms that are ground terms, by the elements of their lists.
use Rattle.std.proofs.Common.{◌≡◌, ℕ, zero, suc, ◌+◌, ◌-◌, ◌≤◌, List, [], ◌∷◌, ◌++◌, length, slice_get, take, drop, None, Some, refl, ap, sym, ◌∙◌, subst, arith, length-drop}
use Rattle.std.proofs.lemmas.List.{take_all}
use Rattle.fort_theory.specs.Trees.{Tree, Trees, Node, Nil, tree_count, trees}
use Rattle.fort_theory.specs.Signatures.{Signature}
use Rattle.fort_grammar.specs.Forms.{Form, Forms, Word, ListForm, NoForm, MoreForms}
use Rattle.fort_grammar.specs.Declarations.{elements_of, word_of, as_list}
use Rattle.fort_grammar.specs.GroundForms.{IsGroundForm, ABareName, AnApplication, AreGroundForms, NoGround, MoreGround}
use Rattle.fort_ari.specs.Grounds.{IsSymbolOf, AreGroundEach, AreArguments}

-- the symbol that a bare name names
pub bare_symbol : {bytes : List ℕ} {signature : Signature} {f : Form} {t : Tree} → elements_of f ≡ None → IsGroundForm bytes signature f t
    → (g : ℕ) × IsSymbolOf bytes signature f 0 g
bare_symbol e (ABareName {name = x} {g = g} word is none) = (g, record { name = x; word = word; is = is; takes = none })
bare_symbol e (AnApplication word is takes args) = absurd cc

pub bare_term : {bytes : List ℕ} {signature : Signature} {f : Form} {g : ℕ} → IsSymbolOf bytes signature f 0 g → IsGroundForm bytes signature f (Node g Nil)
bare_term s = ABareName s.word s.is s.takes

AreGroundForms-count : {bytes : List ℕ} {signature : Signature} {fs : Forms} {ts : Trees} → AreGroundForms bytes signature fs ts → length (as_list fs) ≡ tree_count ts
AreGroundForms-count NoGround = refl
AreGroundForms-count (MoreGround first rest) = let count = AreGroundForms-count rest in omega arith

AreGroundForms-at : {bytes : List ℕ} {signature : Signature} {fs : Forms} {ts : Trees} (i : ℕ) (f : Form) → AreGroundForms bytes signature fs ts
    → slice_get (as_list fs) i ≡ Some f → (t : Tree) × IsGroundForm bytes signature f t
AreGroundForms-at i f NoGround e = absurd cc
AreGroundForms-at {bytes} {signature} zero f (MoreGround {f = g} {t = t} first rest) e =
    let same : g ≡ f = cc in (t, subst (λ x. IsGroundForm bytes signature x t) same first)
AreGroundForms-at (suc i) f (MoreGround first rest) e = AreGroundForms-at i f rest e

-- a list that is a ground term: its first element is the name of a symbol of as many arguments as come behind
pub applied_symbol : {bytes : List ℕ} {signature : Signature} {f head : Form} {t : Tree} (es : List Form) → elements_of f ≡ Some es → slice_get es 0 ≡ Some head
    → IsGroundForm bytes signature f t → (g : ℕ) × IsSymbolOf bytes signature head (length es - 1) g
applied_symbol {head = head} es e first (ABareName {f = Word from to} word is none) = absurd cc
applied_symbol {head = head} es e first (ABareName {f = ListForm from to fs} word is none) = absurd cc
applied_symbol {bytes} {signature} {head = head} es e first (AnApplication {head = h} {first = x} {others = fs} {name = n} {g = g} {ts = ts} word is takes args) =
    let same : h ∷ x ∷ as_list fs ≡ es = cc in
    let here : h ≡ head = (let there : slice_get (h ∷ x ∷ as_list fs) 0 ≡ Some head = ap (λ xs. slice_get xs 0) same ∙ first in cc) in
    let count : tree_count ts ≡ length es - 1 = (let l = ap length same in omega (arith, AreGroundForms-count args)) in
    (g, record { name = n; word = ap (word_of bytes) (sym here) ∙ word; is = is; takes = takes ∙ ap Some count })

-- and each of those is a ground term
pub argument_term : {bytes : List ℕ} {signature : Signature} {f kid : Form} {t : Tree} (es : List Form) (i : ℕ) → elements_of f ≡ Some es
    → slice_get es i ≡ Some kid → 1 ≤ i → IsGroundForm bytes signature f t → (u : Tree) × IsGroundForm bytes signature kid u
argument_term es i e at low (ABareName {f = Word from to} word is none) = absurd cc
argument_term es i e at low (ABareName {f = ListForm from to fs} word is none) = absurd cc
argument_term es zero e at low (AnApplication word is takes args) = absurd (omega arith)
argument_term {kid = kid} es (suc i) e at low (AnApplication {head = h} {first = x} {others = fs} word is takes args) =
    let same : h ∷ x ∷ as_list fs ≡ es = cc in
    AreGroundForms-at i kid args (ap (λ xs. slice_get xs (suc i)) same ∙ at)

AreGroundEach-count : (bytes : List ℕ) (signature : Signature) (fs : List Form) (ts : List Tree) → AreGroundEach bytes signature fs ts → length fs ≡ tree_count (trees ts)
AreGroundEach-count bytes signature [] [] h = refl
AreGroundEach-count bytes signature [] (t ∷ ts) h = absurd h
AreGroundEach-count bytes signature (f ∷ fs) [] h = absurd h
AreGroundEach-count bytes signature (f ∷ fs) (t ∷ ts) h = let count = AreGroundEach-count bytes signature fs ts h.1 in omega arith

each_forms : (bytes : List ℕ) (signature : Signature) (fs : Forms) (ts : List Tree) → AreGroundEach bytes signature (as_list fs) ts
    → AreGroundForms bytes signature fs (trees ts)
each_forms bytes signature NoForm [] h = NoGround
each_forms bytes signature NoForm (t ∷ ts) h = absurd h
each_forms bytes signature (MoreForms f fs) [] h = absurd h
each_forms bytes signature (MoreForms f fs) (t ∷ ts) h = MoreGround h.0 (each_forms bytes signature fs ts h.1)

pub application_term : {bytes : List ℕ} {signature : Signature} {head : Form} {g : ℕ} (f : Form) (es : List Form) (ts : List Tree) → elements_of f ≡ Some es
    → 2 ≤ length es → slice_get es 0 ≡ Some head → IsSymbolOf bytes signature head (length es - 1) g → AreGroundEach bytes signature (drop 1 es) ts
    → IsGroundForm bytes signature f (Node g (trees ts))
application_term (Word from to) es ts e l first s args = absurd cc
application_term (ListForm from to NoForm) es ts e l first s args = let same : [] ≡ es = cc in absurd (let n = ap length same in omega arith)
application_term (ListForm from to (MoreForms h NoForm)) es ts e l first s args =
    let same : h ∷ [] ≡ es = cc in absurd (let n = ap length same in omega arith)
application_term {bytes} {signature} {head} {g} (ListForm from to (MoreForms h (MoreForms x fs))) es ts e l first s args =
    let same : h ∷ x ∷ as_list fs ≡ es = cc in
    let here : head ≡ h = (let there : slice_get (h ∷ x ∷ as_list fs) 0 ≡ Some head = ap (λ xs. slice_get xs 0) same ∙ first in cc) in
    let kids : AreGroundEach bytes signature (x ∷ as_list fs) ts = subst (λ xs. AreGroundEach bytes signature (drop 1 xs) ts) (sym same) args in
    let count : length es - 1 ≡ tree_count (trees ts) = (let n = ap length same in omega (arith, AreGroundEach-count bytes signature (x ∷ as_list fs) ts kids)) in
    AnApplication (ap (word_of bytes) (sym here) ∙ s.word) s.is (s.takes ∙ ap Some count) (each_forms bytes signature (MoreForms x fs) ts kids)

AreGroundEach-push : (bytes : List ℕ) (signature : Signature) (fs : List Form) (ts : List Tree) (f : Form) (t : Tree) → AreGroundEach bytes signature fs ts
    → IsGroundForm bytes signature f t → AreGroundEach bytes signature (fs ++ f ∷ []) (ts ++ t ∷ [])
AreGroundEach-push bytes signature [] [] f t h i = (i, tt)
AreGroundEach-push bytes signature [] (u ∷ ts) f t h i = absurd h
AreGroundEach-push bytes signature (g ∷ fs) [] f t h i = absurd h
AreGroundEach-push bytes signature (g ∷ fs) (u ∷ ts) f t h i = (h.0, AreGroundEach-push bytes signature fs ts f t h.1 i)

pub arguments_none : (bytes : List ℕ) (signature : Signature) (es : List Form) → AreArguments bytes signature es 1 []
arguments_none bytes signature es = record { low = omega arith; each = tt }

-- one more of the elements behind the first
pub one_more : (es : List Form) (k : ℕ) (f : Form) → slice_get es (suc k) ≡ Some f → take (suc k) (drop 1 es) ≡ take k (drop 1 es) ++ f ∷ []
one_more [] k f e = absurd cc
one_more (h ∷ es) k f e = go es k e
  where
    go : (xs : List Form) (k : ℕ) → slice_get xs k ≡ Some f → take (suc k) xs ≡ take k xs ++ f ∷ []
    go [] k e = absurd cc
    go (x ∷ xs) zero e = let same : x ≡ f = cc in ap (λ y. y ∷ []) same
    go (x ∷ xs) (suc k) e = ap (λ ys. x ∷ ys) (go xs k e)

pub arguments_more : (bytes : List ℕ) (signature : Signature) (es : List Form) (i : ℕ) (f : Form) (ts : List Tree) (t : Tree)
    → AreArguments bytes signature es i ts → slice_get es i ≡ Some f → IsGroundForm bytes signature f t
    → AreArguments bytes signature es (i + 1) (ts ++ t ∷ [])
arguments_more bytes signature es zero f ts t a e is = absurd (let l = a.low in omega arith)
arguments_more bytes signature es (suc k) f ts t a e is =
    let before : suc k - 1 ≡ k = omega arith in
    let after : suc k + 1 - 1 ≡ suc k = omega arith in
    let each : AreGroundEach bytes signature (take k (drop 1 es)) ts = subst (λ n. AreGroundEach bytes signature (take n (drop 1 es)) ts) before a.each in
    record {
      low = omega arith;
      each = subst (λ n. AreGroundEach bytes signature (take n (drop 1 es)) (ts ++ t ∷ [])) (sym after)
          (subst (λ xs. AreGroundEach bytes signature xs (ts ++ t ∷ [])) (sym (one_more es k f e)) (AreGroundEach-push bytes signature (take k (drop 1 es)) ts f t each is));
    }

pub arguments_all : (bytes : List ℕ) (signature : Signature) (es : List Form) (i : ℕ) (ts : List Tree) → AreArguments bytes signature es i ts
    → length es ≤ i → AreGroundEach bytes signature (drop 1 es) ts
arguments_all bytes signature es i ts a l =
    subst (λ xs. AreGroundEach bytes signature xs ts) (take_all (i - 1) (drop 1 es) (omega (arith, length-drop 1 es))) a.each
