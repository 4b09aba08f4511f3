-- The numbers of listed trees as the list grows; the nodes of the trees up to a place; lists of subterms.
use Rattle.std.specs.Prelude.{◌≡◌, ℕ, zero, suc, ◌+◌, ◌<◌, ◌≤◌, List, [], ◌∷◌, ◌++◌, take, map, length, Contains, None, Some, get_or, Bool, true, false, cond, Decides, if◌then◌else◌, refl}
use Rattle.std.specs.Map.{lookup}
use Rattle.std.specs.Option.{unwrap_or}
use Rattle.std.proofs.Common.{sym, ap, subst, ◌∙◌, arith, true≢false, append_assoc, append-nil, ⊎_elim}
use Rattle.std.proofs.lemmas.Bool.{cases_eq}
use Rattle.std.proofs.lemmas.List.{map-append, take_more}
use Rattle.std.proofs.lemmas.List.Elements.{Contains-append_left, Contains-push, Contains-push_cases}
use Rattle.fort_theory.specs.Trees.{Tree, trees}
use Rattle.fort_theory.proofs.Lists.{none-some, some-injective}
use Rattle.fort_theory.proofs.Members.{Contains-head, Contains-behind}
use Rattle.fort_terms.specs.TermKeys.{tree_eq}
use Rattle.fort_terms.specs.TermKeyLaws.{Decides-tree_eq}
use Rattle.fort_alike.specs.Subterms.{subterms, subterms_among}
use Rattle.fort_alike.specs.TermRule.{same_tree, one_further, number_in, numbers}
use Rattle.fort_alike.proofs.SubtermLaws.{Decides-same_tree, number_in-stands, number_in-none}
use Rattle.fort_context_closure.specs.TermNodes.{AreNumbersIn, TermNode, node_for, AreNodesOf}

pub subterms_among-push : (xs : List Tree) (x : Tree) → subterms_among (trees (xs ++ x ∷ [])) ≡ subterms_among (trees xs) ++ subterms x
subterms_among-push [] x = append-nil (subterms x)
subterms_among-push (y ∷ ys) x =
    ap (λ zs. subterms y ++ zs) (subterms_among-push ys x) ∙ sym (append_assoc (subterms y) (subterms_among (trees ys)) (subterms x))

module _ {A : Type 0} (f : A → Tree) where
  pub listed_push : (old pushed new : List A) (t : A) (rest : List Tree) → pushed ≡ old ++ t ∷ [] → map f new ≡ map f pushed ++ rest → map f new ≡ map f old ++ (f t ∷ rest)
  listed_push old pushed new t rest e h =
      h ∙ (ap (λ xs. map f xs ++ rest) e ∙ (ap (λ xs. xs ++ rest) (map-append f old (t ∷ [])) ∙ append_assoc (map f old) (f t ∷ []) rest))

  pub listed_further : (start mid new : List A) (among rest : List Tree) → map f mid ≡ map f start ++ among → map f new ≡ map f mid ++ rest → map f new ≡ map f start ++ (among ++ rest)
  listed_further start mid new among rest e h = h ∙ (ap (λ xs. xs ++ rest) e ∙ append_assoc (map f start) among rest)

  -- one more element, listed by f
  pub taken_more : (xs : List A) (i : ℕ) (x : A) → i < length xs → x ≡ get_or xs i x → map f (take (i + 1) xs) ≡ map f (take i xs) ++ f x ∷ []
  taken_more xs i x l e = ap (map f) (take_more xs i x l ∙ ap (λ (y : A). take i xs ++ y ∷ []) (sym e)) ∙ map-append f (take i xs) (x ∷ [])

pub numbers-push : (listed xs : List Tree) (x : Tree) → numbers listed (trees (xs ++ x ∷ [])) ≡ numbers listed (trees xs) ++ number_in listed x ∷ []
numbers-push listed [] x = refl
numbers-push listed (y ∷ ys) x = ap (λ ns. number_in listed y ∷ ns) (numbers-push listed ys x)

-- ---- numbers, with one more tree behind the list

kept-here : (b : Bool) (m k n : ℕ) → ((j : ℕ) → m ≡ suc j → k ≡ suc j) → (if b then 1 else one_further m) ≡ suc n → (if b then 1 else one_further k) ≡ suc n
kept-here true m k n rest h = h
kept-here false zero k n rest h = absurd (omega arith)
kept-here false (suc j) k n rest h = ap one_further (rest j refl) ∙ h

number_in-kept : (xs ys : List Tree) (v : Tree) (n : ℕ) → number_in xs v ≡ suc n → number_in (xs ++ ys) v ≡ suc n
number_in-kept [] ys v n h = absurd (omega arith)
number_in-kept (x ∷ xs) ys v n h = kept-here (same_tree x v) (number_in xs v) (number_in (xs ++ ys) v) n (number_in-kept xs ys v) h

behind-here : (b c : Bool) (m k l : ℕ) → (if b then 1 else one_further m) ≡ 0 → (m ≡ 0 → k ≡ (if c then suc l else 0)) → (if b then 1 else one_further k) ≡ (if c then suc (suc l) else 0)
behind-here true c m k l h rest = absurd (omega arith)
behind-here false true zero k l h rest = ap one_further (rest refl)
behind-here false false zero k l h rest = ap one_further (rest refl)
behind-here false c (suc m) k l h rest = absurd (omega arith)

number_in-behind : (xs : List Tree) (t v : Tree) → number_in xs v ≡ 0 → number_in (xs ++ t ∷ []) v ≡ (if same_tree t v then suc (length xs) else 0)
number_in-behind [] t v h = refl
number_in-behind (x ∷ xs) t v h =
    behind-here (same_tree x v) (same_tree t v) (number_in xs v) (number_in (xs ++ t ∷ []) v) (length xs) h (number_in-behind xs t v)

if-not : {A : Type 0} (b : Bool) {P : Type 0} (x y : A) → Decides b P → (P → ⊥) → (if b then x else y) ≡ y
if-not true x y d other = absurd (other (d.0 refl))
if-not false x y d other = refl

if-so : {A : Type 0} (b : Bool) {P : Type 0} (x y : A) → Decides b P → P → (if b then x else y) ≡ x
if-so true x y d p = refl
if-so false x y d p = absurd (true≢false (sym (d.1 p)))

number_in-same_at : (xs : List Tree) (t v : Tree) (n : ℕ) → number_in xs v ≡ n → (n ≡ 0 → t ≡ v → ⊥) → number_in (xs ++ t ∷ []) v ≡ n
number_in-same_at xs t v zero e other = number_in-behind xs t v e ∙ if-not (same_tree t v) (suc (length xs)) 0 (Decides-same_tree t v) (other refl)
number_in-same_at xs t v (suc n) e other = number_in-kept xs (t ∷ []) v n e

-- a tree that was there
pub AreNumbersIn-there : (xs : List Tree) (t : Tree) (entries : List (Tree × ℕ)) → AreNumbersIn xs entries → (number_in xs t ≡ 0 → ⊥) → AreNumbersIn (xs ++ t ∷ []) entries
AreNumbersIn-there xs t entries h there v =
    h v ∙ sym (number_in-same_at xs t v (number_in xs v) refl (λ none same. there (ap (number_in xs) same ∙ none)))

-- a new one
pub AreNumbersIn-new : (xs : List Tree) (t : Tree) (n : ℕ) (old new : List (Tree × ℕ)) → n ≡ suc (length xs) → AreNumbersIn xs old → number_in xs t ≡ 0
    → ((q : Tree) → lookup (tree_eq q) new ≡ cond (tree_eq t q) (Some n) (lookup (tree_eq q) old)) → AreNumbersIn (xs ++ t ∷ []) new
AreNumbersIn-new xs t n old new e h none updates v = ap (λ o. unwrap_or o 0) (updates v) ∙ by (tree_eq t v) (Decides-tree_eq t v)
  where
    by : (b : Bool) → Decides b (t ≡ v) → unwrap_or (cond b (Some n) (lookup (tree_eq v) old)) 0 ≡ number_in (xs ++ t ∷ []) v
    by true d =
        let absent : number_in xs v ≡ 0 = ap (number_in xs) (sym (d.0 refl)) ∙ none in
        e ∙ sym (number_in-behind xs t v absent ∙ if-so (same_tree t v) (suc (length xs)) 0 (Decides-same_tree t v) (d.0 refl))
    by false d = h v ∙ sym (number_in-same_at xs t v (number_in xs v) refl (λ _ same. true≢false (sym (d.1 same))))

-- ---- the nodes of the trees whose first places come before i

pub record AreFirstNodes (listed : List Tree) (i : ℕ) (nodes : List TermNode) : Type 0 where
  pub each : (node : TermNode) → Contains nodes node → (v : Tree) × Contains listed v × (node ≡ node_for listed v)
  pub all : (v : Tree) (k : ℕ) → number_in listed v ≡ suc k → k < i → Contains nodes (node_for listed v)

listed-within : (xs : List Tree) (k : ℕ) (v : Tree) → get_or (map Some xs) k None ≡ Some v → k < length xs
listed-within [] k v h = absurd (none-some h)
listed-within (x ∷ xs) zero v h = omega arith
listed-within (x ∷ xs) (suc k) v h = omega (arith, listed-within xs k v h)

listed-there : (xs : List Tree) (k : ℕ) (v : Tree) → get_or (map Some xs) k None ≡ Some v → Contains xs v
listed-there [] k v h = absurd (none-some h)
listed-there (x ∷ xs) zero v h = subst (λ y. Contains (x ∷ xs) y) (some-injective h) (Contains-head x xs)
listed-there (x ∷ xs) (suc k) v h = Contains-behind x xs v (listed-there xs k v h)

pub listed-at : {A : Type 0} (f : A → Tree) (xs : List A) (k : ℕ) (x : A) → k < length xs → x ≡ get_or xs k x → get_or (map Some (map f xs)) k None ≡ Some (f x)
listed-at f [] k x l e = absurd (omega arith)
listed-at f (y ∷ xs) zero x l e = ap (λ z. Some (f z)) (sym e)
listed-at f (y ∷ xs) (suc k) x l e = listed-at f xs k x (omega arith) e

module _ (listed : List Tree) (i : ℕ) (t : Tree) (nodes : List TermNode) (at : get_or (map Some listed) i None ≡ Some t) (are : AreFirstNodes listed i nodes) where
  same_there : (v : Tree) → number_in listed v ≡ suc i → v ≡ t
  same_there v h = some-injective (sym (number_in-stands listed v i h) ∙ at)

  pub AreFirstNodes-first : (node : TermNode) → node ≡ node_for listed t → AreFirstNodes listed (i + 1) (nodes ++ node ∷ [])
  AreFirstNodes-first node is = record {
    each = λ m c. ⊎_elim (λ old. are.each m old) (λ same. (t, listed-there listed i t at, sym same ∙ is)) (Contains-push_cases nodes node m c);
    all = λ v k h l. ⊎_elim
        (λ e.
        let own : v ≡ t = same_there v (h ∙ ap suc e) in
        subst (λ m. Contains (nodes ++ node ∷ []) m) (is ∙ ap (node_for listed) (sym own)) (Contains-push nodes node))
        (λ other. Contains-append_left nodes (node ∷ []) (node_for listed v) (are.all v k h (omega (arith, l, other))))
        (cases_eq k i);
  }

  pub AreFirstNodes-again : (number_in listed t ≡ suc i → ⊥) → AreFirstNodes listed (i + 1) nodes
  AreFirstNodes-again other = record {
    each = are.each;
    all = λ v k h l. ⊎_elim
        (λ e. let first : number_in listed v ≡ suc i = h ∙ ap suc e in absurd (other (ap (number_in listed) (sym (same_there v first)) ∙ first)))
        (λ apart. are.all v k h (omega (arith, l, apart)))
        (cases_eq k i);
  }

pub AreNodesOf-all : (listed : List Tree) (i : ℕ) (nodes : List TermNode) → length listed ≤ i → AreFirstNodes listed i nodes → AreNodesOf listed nodes
AreNodesOf-all listed i nodes end are = record { each = are.each; all = λ v c. by v (number_in listed v) refl c }
  where
    by : (v : Tree) (n : ℕ) → number_in listed v ≡ n → Contains listed v → Contains nodes (node_for listed v)
    by v zero h c = absurd (number_in-none listed v h c)
    by v (suc k) h c = are.all v k h (omega (arith, end, listed-within listed k v (number_in-stands listed v k h)))
