-- The states that the terms of one column give, by entries: exactly those that some symbol gives over a choice of states.
use Rattle.std.proofs.Common.{◌≡◌, ◌↔◌, ℕ, zero, suc, ◌<◌, ◌≤◌, max, List, length, None, Some, get_or, ⊎_elim, refl, ap, sym, ◌∙◌, arith}
use Rattle.std.proofs.lemmas.Bool.{cases_lt}
use Rattle.std.proofs.lemmas.List.{ext_get_or}
use Rattle.std.specs.List.{insert}
use Rattle.fort_theory.specs.Trees.{Tree, Trees, Node, Nil, More, tree_count}
use Rattle.fort_theory.specs.Signatures.{Signature, IsGround, AreGround}
use Rattle.fort_tables.specs.Tuples.{Tuple, tabulate, tree_at, root, kid, kid_count, arity}
use Rattle.fort_tables.specs.Entries.{entry}
use Rattle.fort_tables.specs.Tables.{Table, state_of}
use Rattle.fort_tables.proofs.TupleLaws.{length-tabulate, get_or-tabulate, arity_from_get, get_from_arity}
use Rattle.fort_tables.proofs.InsertLaws.{tree_at-past}
use Rattle.fort_tables.specs.Projections.{Gives}
use Rattle.fort_tables.proofs.CompletedTuples.{state-insert}

-- a state for each child below the symbol g in column c
pub record IsChoice (body : Table) (c : ℕ) (t : Tuple) (g : ℕ) (ks : List ℕ) : Type 0 where
  pub count : length ks ≡ max (arity body.signature g) (kid_count t)
  pub given : (j : ℕ) → j < arity body.signature g → Gives body c (kid t j) (get_or ks j 0)
  pub absent : (j : ℕ) → j < kid_count t → arity body.signature g ≤ j → get_or ks j 0 ≡ state_of body (insert (kid t j) c None)

-- some symbol in column c and some choice of the children's states give q
pub record IsMade (body : Table) (c : ℕ) (t : Tuple) (q : ℕ) : Type 0 where
  pub symbol : ℕ
  pub within : symbol < length body.signature
  pub states : List ℕ
  pub choice : IsChoice body c t symbol states
  pub made : body.target (entry (insert (root t) c (Some symbol)) states) ≡ q

tree_there : (sig : Signature) (ts : Trees) (j : ℕ) → AreGround sig ts → j < tree_count ts → (x : Tree) × (tree_at ts j ≡ Some x) × IsGround sig x
tree_there sig Nil j h l = absurd (omega arith)
tree_there sig (More t ts) zero h l = (t, refl, h.0)
tree_there sig (More t ts) (suc j) h l = tree_there sig ts j h.1 (omega arith)

pub made_from_given : (body : Table) (c : ℕ) (t : Tuple) (q : ℕ) → Gives body c t q → IsMade body c t q
made_from_given body c t q (Node g us, h, is) =
    let sig = body.signature in
    let n = max (tree_count us) (kid_count t) in
    let f : ℕ → ℕ = λ j. state_of body (insert (kid t j) c (tree_at us j)) in
    let a = arity_from_get sig g (tree_count us) h.0 in
    let at : (j : ℕ) → j < n → get_or (tabulate n f) j 0 ≡ f j = λ j l. get_or-tabulate n f j 0 l in
    record {
      symbol = g;
      within = a.1;
      states = tabulate n f;
      choice = record {
        count = length-tabulate n f ∙ ap (λ m. max m (kid_count t)) (sym a.0);
        given = λ j l.
            let r = tree_there sig us j h.1 (omega (arith, a.0)) in
            (r.0, r.2, sym (at j (omega (arith, a.0)) ∙ ap (λ x. state_of body (insert (kid t j) c x)) r.1));
        absent = λ j l m. at j (omega arith) ∙ ap (λ x. state_of body (insert (kid t j) c x)) (tree_at-past us j (omega (arith, a.0)));
      };
      made = sym (state-insert body c (Some (Node g us)) t) ∙ is;
    }

chosen_at : (P : ℕ → Tree → Type 0) (n : ℕ) (x : Tree) (us : Trees) → P 0 x → ((j : ℕ) → j < n → (y : Tree) × (tree_at us j ≡ Some y) × P (suc j) y) → (j : ℕ) → j < suc n → (y : Tree) × (tree_at (More x us) j ≡ Some y) × P j y
chosen_at P n x us p h zero l = (x, refl, p)
chosen_at P n x us p h (suc j) l = h j (omega arith)

-- trees chosen one by one
chosen_trees : (sig : Signature) (P : ℕ → Tree → Type 0) (n : ℕ) → ((j : ℕ) → j < n → (x : Tree) × IsGround sig x × P j x) → (us : Trees) × (tree_count us ≡ n) × AreGround sig us × ((j : ℕ) → j < n → (x : Tree) × (tree_at us j ≡ Some x) × P j x)
chosen_trees sig P zero h = (Nil, refl, tt, λ j l. absurd (omega arith))
chosen_trees sig P (suc n) h =
    let x = h 0 (omega arith) in
    let r = chosen_trees sig (λ j. P (suc j)) n (λ j l. h (suc j) (omega arith)) in
    (More x.0 r.0, ap suc r.1, (x.1, r.2), chosen_at P n x.0 r.0 x.2 r.3)

pub given_from_made : (body : Table) (c : ℕ) (t : Tuple) (q : ℕ) → IsMade body c t q → Gives body c t q
given_from_made body c t q m =
    let sig = body.signature in
    let g = m.symbol in
    let ks = m.states in
    let r = chosen_trees sig (λ j x. state_of body (insert (kid t j) c (Some x)) ≡ get_or ks j 0) (arity sig g) m.choice.given in
    let us = r.0 in
    let n = max (tree_count us) (kid_count t) in
    let f : ℕ → ℕ = λ j. state_of body (insert (kid t j) c (tree_at us j)) in
    let at : (j : ℕ) → j < n → f j ≡ get_or ks j 0 = λ j l.
    ⊎_elim
    (λ (k : j < arity sig g). let y = r.3 j k in ap (λ x. state_of body (insert (kid t j) c x)) y.1 ∙ y.2)
    (λ (k : arity sig g ≤ j). ap (λ x. state_of body (insert (kid t j) c x)) (tree_at-past us j (omega (arith, r.1))) ∙ sym (m.choice.absent j (omega (arith, r.1)) k))
    (cases_lt j (arity sig g)) in
    let e : tabulate n f ≡ ks = ext_get_or 0 (tabulate n f) ks (length-tabulate n f ∙ (ap (λ a. max a (kid_count t)) r.1 ∙ sym m.choice.count))
    (λ j l. get_or-tabulate n f j 0 (omega (arith, length-tabulate n f)) ∙ at j (omega (arith, length-tabulate n f))) in (
      Node g us,
      (get_from_arity sig g m.within ∙ ap Some (sym r.1), r.2),
      state-insert body c (Some (Node g us)) t ∙ (ap (λ xs. body.target (entry (insert (root t) c (Some g)) xs)) e ∙ m.made),
    )

-- Result: the states that some term in the column gives are exactly those that entries give
pub gives_exactly_made : (body : Table) (c : ℕ) (t : Tuple) (q : ℕ) → Gives body c t q ↔ IsMade body c t q
gives_exactly_made body c t q = (made_from_given body c t q, given_from_made body c t q)
