-- The texts of terms beside their names, piece by piece: the lines of a witness, and those of solutions.
use Rattle.std.specs.Prelude.{◌≡◌, ℕ, zero, suc, ◌+◌, ◌<◌, ◌≤◌, ◌⊎◌, Bool, true, false, List, [], ◌∷◌, ◌++◌, length, get_or, take, None, Some, codes, decimal, refl}
use Rattle.std.proofs.Common.{inl, inr, sym, ap, subst, ◌∙◌, arith, append-nil}
use Rattle.std.proofs.lemmas.List.{append_assoc, get_or-map, get_or_default, take_all}
use Rattle.fort_theory.specs.Trees.{Tree}
use Rattle.fort_theory.specs.Signatures.{Signature}
use Rattle.fort_logic.specs.Formulas.{Name}
use Rattle.fort_tables.specs.Entries.{Entry}
use Rattle.fort_tables.specs.TermText.{term_text}
use Rattle.fort_witness.specs.Texts.{term_at, column_text, text_at}
use Rattle.fort_answers.specs.Lines.{line}
use Rattle.fort_answers.specs.Requests.{Text}
use Rattle.fort_answers.specs.Witnesses.{binding, bindings}
use Rattle.fort_answers.specs.SolutionTerms.{count_line, solution_text, solution_lines}
use Rattle.fort_run.specs.Witnesses.{AreTermsAt, AreAllTermsAt}

-- ---- a name and its term

module _ (sig : Signature) (names : List Name) (nodes : List Entry) (node : ℕ) (ts : List Tree) (k : ℕ) (d : Tree)
    (are : AreTermsAt sig names nodes node ts) (l : k < length names) where
  -- a node has a term in each column
  pub term-there : term_at nodes node k ≡ Some (get_or ts k d)
  term-there =
      let low : k < length ts = let e = are.count in omega arith in
      ap (λ t. get_or t k None) are.terms ∙ get_or-map Some ts k d None low

  pub binding-text : (t0 t1 t2 t3 name : Text) → t1 ≡ t0 ++ name → t2 ≡ t1 ++ codes " = " → t3 ≡ t2 ++ text_at sig nodes node k
      → t3 ≡ t0 ++ binding sig name (get_or ts k d)
  binding-text t0 t1 t2 t3 name e1 e2 e3 =
      let text = term_text sig (get_or ts k d) in
      let own : text_at sig nodes node k ≡ text = ap (column_text sig) term-there in
      e3 ∙ (λ i. e2 i ++ own i)
      ∙ (ap (λ w. (w ++ codes " = ") ++ text) e1
      ∙ (ap (λ w. w ++ text) (append_assoc t0 name (codes " = "))
      ∙ (append_assoc t0 (name ++ codes " = ") text ∙ ap (λ w. t0 ++ w) (append_assoc name (codes " = ") text))))

-- ---- the lines of a witness

-- one more name and term
bindings-more : (sig : Signature) (names : List Name) (ts : List Tree) (k : ℕ) (d : Tree) → k < length names
    → length ts ≡ length names
    → bindings sig (take (suc k) names) (take (suc k) ts)
    ≡ bindings sig (take k names) (take k ts) ++ line (binding sig (get_or names k []) (get_or ts k d))
bindings-more sig [] ts k d l len = absurd (omega arith)
bindings-more sig (x ∷ xs) [] k d l len = absurd (omega arith)
bindings-more sig (x ∷ xs) (t ∷ ts) zero d l len = append-nil (line (binding sig x t))
bindings-more sig (x ∷ xs) (t ∷ ts) (suc k) d l len =
    let own = line (binding sig x t) in
    ap (λ w. own ++ w) (bindings-more sig xs ts k d (omega arith) (omega arith))
    ∙ sym (append_assoc own (bindings sig (take k xs) (take k ts)) (line (binding sig (get_or xs k []) (get_or ts k d))))

-- the line of one name is appended
pub bindings-line : (sig : Signature) (names : List Name) (ts : List Tree) (k : ℕ) (d : Tree) (first t0 t1 t2 name : Text)
    → k < length names → length ts ≡ length names → t0 ≡ first ++ bindings sig (take k names) (take k ts)
    → name ≡ get_or names k [] → t1 ≡ t0 ++ binding sig name (get_or ts k d) → t2 ≡ t1 ++ 10 ∷ []
    → t2 ≡ first ++ bindings sig (take (k + 1) names) (take (k + 1) ts)
bindings-line sig names ts k d first t0 t1 t2 name low count e0 en e1 e2 =
    let t = get_or ts k d in
    let old = bindings sig (take k names) (take k ts) in
    let own = binding sig (get_or names k []) t in
    let next : suc k ≡ k + 1 = omega arith in
    let more = bindings-more sig names ts k d low count in
    e2 ∙ ap (λ w. w ++ 10 ∷ []) (e1 ∙ (λ i. e0 i ++ binding sig (en i) t))
    ∙ (append_assoc (first ++ old) own (10 ∷ [])
    ∙ (append_assoc first old (line own)
    ∙ ap (λ w. first ++ w) (sym more ∙ ap (λ n. bindings sig (take n names) (take n ts)) next)))

-- ---- the line of a solution

-- what stands before the name of a column
abbrev pub comma : ℕ → Text
comma zero = []
comma (suc k) = codes ", "

pub comma-there : (k : ℕ) → 0 < k → comma k ≡ codes ", "
comma-there zero l = absurd (omega arith)
comma-there (suc k) l = refl

pub comma-first : (k : ℕ) → k ≤ 0 → comma k ≡ []
comma-first zero l = refl
comma-first (suc k) l = absurd (omega arith)

-- one more name and term
solution-more : (sig : Signature) (names : List Name) (ts : List Tree) (k : ℕ) (d : Tree) → k < length names
    → length ts ≡ length names
    → solution_text sig (take (suc k) names) (take (suc k) ts)
    ≡ solution_text sig (take k names) (take k ts) ++ (comma k ++ binding sig (get_or names k []) (get_or ts k d))
solution-more sig [] ts k d l len = absurd (omega arith)
solution-more sig (x ∷ xs) [] k d l len = absurd (omega arith)
solution-more sig (x ∷ xs) (t ∷ ts) zero d l len = refl
solution-more sig (x ∷ []) (t ∷ ts) (suc k) d l len = absurd (omega arith)
solution-more sig (x ∷ y ∷ xs) (t ∷ []) (suc k) d l len = absurd (omega arith)
solution-more sig (x ∷ y ∷ xs) (t ∷ u ∷ ts) (suc zero) d l len = refl
solution-more sig (x ∷ y ∷ xs) (t ∷ u ∷ ts) (suc (suc k)) d l len =
    let own = binding sig x t in
    let rest = solution_text sig (y ∷ take k xs) (u ∷ take k ts) in
    let last = codes ", " ++ binding sig (get_or xs k []) (get_or ts k d) in
    ap (λ w. own ++ (codes ", " ++ w)) (solution-more sig (y ∷ xs) (u ∷ ts) (suc k) d (omega arith) (omega arith))
    ∙ (ap (λ w. own ++ w) (sym (append_assoc (codes ", ") rest last)) ∙ sym (append_assoc own (codes ", " ++ rest) last))

-- the text of one column is appended
pub solution-column : (sig : Signature) (names : List Name) (ts : List Tree) (k : ℕ) (d : Tree) (first t0 t1 t2 name : Text)
    → k < length names → length ts ≡ length names → t0 ≡ first ++ solution_text sig (take k names) (take k ts)
    → t1 ≡ t0 ++ comma k → name ≡ get_or names k []
    → t2 ≡ t1 ++ binding sig name (get_or ts k d) → t2 ≡ first ++ solution_text sig (take (k + 1) names) (take (k + 1) ts)
solution-column sig names ts k d first t0 t1 t2 name low count e0 e1 en e2 =
    let t = get_or ts k d in
    let old = solution_text sig (take k names) (take k ts) in
    let own = binding sig (get_or names k []) t in
    let next : suc k ≡ k + 1 = omega arith in
    let more = solution-more sig names ts k d low count in
    e2 ∙ (λ i. e1 i ++ binding sig (en i) t)
    ∙ (ap (λ w. (w ++ comma k) ++ own) e0
    ∙ (append_assoc (first ++ old) (comma k) own
    ∙ (append_assoc first old (comma k ++ own)
    ∙ ap (λ w. first ++ w) (sym more ∙ ap (λ n. solution_text sig (take n names) (take n ts)) next))))

-- all columns, and the end of the line
pub solution-line : (sig : Signature) (names : List Name) (ts : List Tree) (n : ℕ) (first t0 t1 : Text)
    → n ≡ length names → length ts ≡ length names
    → t0 ≡ first ++ solution_text sig (take n names) (take n ts) → t1 ≡ t0 ++ 10 ∷ [] → t1 ≡ first ++ line (solution_text sig names ts)
solution-line sig names ts n first t0 t1 e count e0 e1 =
    let whole : solution_text sig (take n names) (take n ts) ≡ solution_text sig names ts =
    λ i. solution_text sig (take_all n names (omega arith) i) (take_all n ts (omega arith) i) in
    e1 ∙ ap (λ w. w ++ 10 ∷ []) (e0 ∙ ap (λ w. first ++ w) whole) ∙ append_assoc first (solution_text sig names ts) (10 ∷ [])

-- ---- the lines of solutions

-- the terms of one of the nodes, by names and a number that are equal to its own
pub terms-there : (sig : Signature) (names own : List Name) (nodes : List Entry) (numbers : List ℕ) (tss : List (List Tree)) (k node : ℕ)
    → AreAllTermsAt sig names nodes numbers tss → k < length numbers → own ≡ names → node ≡ get_or numbers k node
    → AreTermsAt sig own nodes node (get_or tss k [])
terms-there sig names own nodes numbers tss k node are l same is =
    let here : node ≡ get_or numbers k 0 = is ∙ get_or_default numbers k node 0 l in
    subst (λ xs. AreTermsAt sig xs nodes node (get_or tss k [])) (sym same)
    (subst (λ n. AreTermsAt sig names nodes n (get_or tss k [])) (sym here) (are.each k l))

solution_lines-more : (sig : Signature) (names : List Name) (tss : List (List Tree)) (k : ℕ) → k < length tss
    → solution_lines sig names (take (suc k) tss) ≡ solution_lines sig names (take k tss) ++ line (solution_text sig names (get_or tss k []))
solution_lines-more sig names [] k l = absurd (omega arith)
solution_lines-more sig names (ts ∷ tss) zero l = append-nil (line (solution_text sig names ts))
solution_lines-more sig names (ts ∷ tss) (suc k) l =
    let own = line (solution_text sig names ts) in
    ap (λ w. own ++ w) (solution_lines-more sig names tss k (omega arith))
    ∙ sym (append_assoc own (solution_lines sig names (take k tss)) (line (solution_text sig names (get_or tss k []))))

-- the line of one more is appended
pub solutions-line : (sig : Signature) (names : List Name) (tss : List (List Tree)) (k : ℕ) (first t0 t1 : Text) → k < length tss
    → t0 ≡ first ++ solution_lines sig names (take k tss) → t1 ≡ t0 ++ line (solution_text sig names (get_or tss k []))
    → t1 ≡ first ++ solution_lines sig names (take (k + 1) tss)
solutions-line sig names tss k first t0 t1 low e0 e1 =
    let own = line (solution_text sig names (get_or tss k [])) in
    let next : suc k ≡ k + 1 = omega arith in
    e1 ∙ ap (λ w. w ++ own) e0
    ∙ (append_assoc first (solution_lines sig names (take k tss)) own
    ∙ ap (λ w. first ++ w) (sym (solution_lines-more sig names tss k low) ∙ ap (λ n. solution_lines sig names (take n tss)) next))

-- all of them
pub solutions-all : (sig : Signature) (names : List Name) (tss : List (List Tree)) (n k : ℕ) (more : Bool) (t0 : Text)
    → n ≡ length tss → length tss ≤ k → t0 ≡ count_line n more ++ solution_lines sig names (take k tss)
    → t0 ≡ count_line (length tss) more ++ solution_lines sig names tss
solutions-all sig names tss n k more t0 e l e0 = e0 ∙ (λ i. count_line (e i) more ++ solution_lines sig names (take_all k tss l i))

-- ---- how many there are

pub count-line : (count : ℕ) (more : Bool) (t0 t1 t2 t3 : Text) → t0 ≡ codes "SOLUTIONS " → t1 ≡ t0 ++ decimal count
    → ((more ≡ true) × (t2 ≡ t1 ++ codes " AND MORE")) ⊎ ((more ≡ false) × (t2 ≡ t1)) → t3 ≡ t2 ++ 10 ∷ []
    → t3 ≡ count_line count more
count-line count more t0 t1 t2 t3 e0 e1 (inl (is, e2)) e3 =
    e3 ∙ ap (λ w. w ++ 10 ∷ []) (e2 ∙ ap (λ w. w ++ codes " AND MORE") (e1 ∙ ap (λ w. w ++ decimal count) e0)
    ∙ append_assoc (codes "SOLUTIONS ") (decimal count) (codes " AND MORE"))
    ∙ ap (count_line count) (sym is)
count-line count more t0 t1 t2 t3 e0 e1 (inr (is, e2)) e3 =
    e3 ∙ ap (λ w. w ++ 10 ∷ []) (e2 ∙ (e1 ∙ ap (λ w. w ++ decimal count) e0)) ∙ ap (count_line count) (sym is)
