-- A term in a column and the states of its children; a term made of terms that give the children's states, and its height.
use Rattle.std.proofs.Common.{◌≡◌, ℕ, zero, suc, ◌<◌, ◌≤◌, max, length, Some, get_or, ⊎_elim, refl, ap, sym, ◌∙◌, arith}
use Rattle.std.proofs.lemmas.Bool.{cases_lt}
use Rattle.std.proofs.lemmas.List.{ext_get_or}
use Rattle.std.specs.Prelude.{List}
use Rattle.std.specs.List.{insert}
use Rattle.fort_theory.specs.Trees.{Tree, Trees, Node, Nil, More, tree_count, height, heights}
use Rattle.fort_theory.specs.Signatures.{Signature, IsGround, AreGround}
use Rattle.fort_tables.specs.Tuples.{Tuple, tabulate, tree_at, root, kid, kid_count, arity}
use Rattle.fort_tables.specs.Entries.{entry}
use Rattle.fort_tables.specs.Tables.{Table, state_of}
use Rattle.fort_tables.proofs.TupleLaws.{length-tabulate, get_or-tabulate, arity_from_get, get_from_arity}
use Rattle.fort_tables.proofs.InsertLaws.{tree_at-past}
use Rattle.fort_tables.proofs.CompletedTuples.{state-insert}
use Rattle.fort_tables.proofs.GivenLaws.{IsChoice}
use Rattle.fort_tables.specs.PureStates.{CompletesTo}

tree_there : (sig : Signature) (ts : Trees) (j : ℕ) → AreGround sig ts → j < tree_count ts → (x : Tree) × (tree_at ts j ≡ Some x) × IsGround sig x
tree_there sig Nil j h l = absurd (omega arith)
tree_there sig (More t ts) zero h l = (t, refl, h.0)
tree_there sig (More t ts) (suc j) h l = tree_there sig ts j h.1 (omega arith)

pub tree_at-some : (us : Trees) (j : ℕ) (x : Tree) → tree_at us j ≡ Some x → j < tree_count us
tree_at-some Nil j x h = absurd cc
tree_at-some (More u us) zero x h = omega arith
tree_at-some (More u us) (suc j) x h = omega (arith, tree_at-some us j x h)

-- the states of the children of a term that gives q
pub record IsMadeBy (body : Table) (c : ℕ) (t : Tuple) (q g : ℕ) (us : Trees) (ks : List ℕ) : Type 0 where
  pub within : g < length body.signature
  pub many : tree_count us ≡ arity body.signature g
  pub choice : IsChoice body c t g ks
  pub child : (j : ℕ) → j < arity body.signature g → (x : Tree) × (tree_at us j ≡ Some x) × CompletesTo body c (kid t j) (get_or ks j 0) x
  pub made : body.target (entry (insert (root t) c (Some g)) ks) ≡ q

pub made_by_term : (body : Table) (c : ℕ) (t : Tuple) (q g : ℕ) (us : Trees) → CompletesTo body c t q (Node g us) → (ks : List ℕ) × IsMadeBy body c t q g us ks
made_by_term body c t q g us (h, is) =
    let sig = body.signature in
    let n = max (tree_count us) (kid_count t) in
    let f : ℕ → ℕ = λ j. state_of body (insert (kid t j) c (tree_at us j)) in
    let a = arity_from_get sig g (tree_count us) h.0 in
    let at : (j : ℕ) → j < n → get_or (tabulate n f) j 0 ≡ f j = λ j l. get_or-tabulate n f j 0 l in
    let child : (j : ℕ) → j < arity sig g → (x : Tree) × (tree_at us j ≡ Some x) × CompletesTo body c (kid t j) (get_or (tabulate n f) j 0) x = λ j l.
    let r = tree_there sig us j h.1 (omega (arith, a.0)) in
    (r.0, r.1, (r.2, sym (at j (omega (arith, a.0)) ∙ ap (λ x. state_of body (insert (kid t j) c x)) r.1))) in (
      tabulate n f,
      record {
        within = a.1;
        many = sym a.0;
        choice = record {
          count = length-tabulate n f ∙ ap (λ m. max m (kid_count t)) (sym a.0);
          given = λ j l. let r = child j l in (r.0, r.2.0, r.2.1);
          absent = λ j l m. at j (omega arith) ∙ ap (λ x. state_of body (insert (kid t j) c x)) (tree_at-past us j (omega (arith, a.0)));
        };
        child = child;
        made = sym (state-insert body c (Some (Node g us)) t) ∙ is;
      },
    )

chosen_at : (P : ℕ → Tree → Type 0) (n : ℕ) (x : Tree) (us : Trees) → P 0 x → ((j : ℕ) → j < n → (y : Tree) × (tree_at us j ≡ Some y) × P (suc j) y) → (j : ℕ) → j < suc n → (y : Tree) × (tree_at (More x us) j ≡ Some y) × P j y
chosen_at P n x us p h zero l = (x, refl, p)
chosen_at P n x us p h (suc j) l = h j (omega arith)

-- trees chosen one by one
pub chosen_trees : (sig : Signature) (P : ℕ → Tree → Type 0) (n : ℕ) → ((j : ℕ) → j < n → (x : Tree) × IsGround sig x × P j x) → (us : Trees) × (tree_count us ≡ n) × AreGround sig us × ((j : ℕ) → j < n → (x : Tree) × (tree_at us j ≡ Some x) × P j x)
chosen_trees sig P zero h = (Nil, refl, tt, λ j l. absurd (omega arith))
chosen_trees sig P (suc n) h =
    let x = h 0 (omega arith) in
    let r = chosen_trees sig (λ j. P (suc j)) n (λ j l. h (suc j) (omega arith)) in
    (More x.0 r.0, ap suc r.1, (x.1, r.2), chosen_at P n x.0 r.0 x.2 r.3)

-- a term of chosen children
pub node_made : (body : Table) (c : ℕ) (t : Tuple) (q g : ℕ) (ks : List ℕ) (us : Trees) → g < length body.signature → IsChoice body c t g ks → body.target (entry (insert (root t) c (Some g)) ks) ≡ q → tree_count us ≡ arity body.signature g → AreGround body.signature us → ((j : ℕ) → j < arity body.signature g → (x : Tree) × (tree_at us j ≡ Some x) × (state_of body (insert (kid t j) c (Some x)) ≡ get_or ks j 0)) → CompletesTo body c t q (Node g us)
node_made body c t q g ks us within choice made many ground child =
    let n = max (tree_count us) (kid_count t) in
    let f : ℕ → ℕ = λ j. state_of body (insert (kid t j) c (tree_at us j)) in
    let at : (j : ℕ) → j < n → f j ≡ get_or ks j 0 = λ j l.
    ⊎_elim
    (λ (k : j < arity body.signature g). let y = child j k in ap (λ x. state_of body (insert (kid t j) c x)) y.1 ∙ y.2)
    (λ (k : arity body.signature g ≤ j). ap (λ x. state_of body (insert (kid t j) c x)) (tree_at-past us j (omega (arith, many))) ∙ sym (choice.absent j (omega (arith, many)) k))
    (cases_lt j (arity body.signature g)) in
    let e : tabulate n f ≡ ks = ext_get_or 0 (tabulate n f) ks (length-tabulate n f ∙ (ap (λ a. max a (kid_count t)) many ∙ sym choice.count))
    (λ j l. get_or-tabulate n f j 0 (omega (arith, length-tabulate n f)) ∙ at j (omega (arith, length-tabulate n f))) in (
      (get_from_arity body.signature g within ∙ ap Some (sym many), ground),
      state-insert body c (Some (Node g us)) t ∙ (ap (λ xs. body.target (entry (insert (root t) c (Some g)) xs)) e ∙ made),
    )

-- a child's height counts
pub heights_at : (us : Trees) (j : ℕ) (x : Tree) → tree_at us j ≡ Some x → suc (height x) ≤ heights us
heights_at Nil j x h = absurd cc
heights_at (More u us) zero x h = let e : u ≡ x = cc in omega (arith, ap height e)
heights_at (More u us) (suc j) x h = omega (arith, heights_at us j x h)

pub heights_below : (us : Trees) (b : ℕ) → ((j : ℕ) (x : Tree) → tree_at us j ≡ Some x → height x ≤ b) → heights us ≤ suc b
heights_below Nil b h = omega arith
heights_below (More u us) b h = omega (arith, h 0 u refl, heights_below us b (λ j x e. h (suc j) x e))
