-- Marks whose rules hold tell which states finitely many terms give, and which infinitely many.
use Rattle.std.proofs.Common.{◌≡◌, ℕ, zero, suc, ◌<◌, ◌≤◌, List, [], ◌∷◌, length, true, refl, ap, sym, ◌∙◌, arith, subst, ⊎_elim}
use Rattle.std.specs.Prelude.{Contains, ◌↔◌}
use Rattle.fort_theory.specs.Logic.{HasInfinitelyMany}
use Rattle.fort_theory.specs.Trees.{Tree, Trees, Node, Nil, More, tree_count, height, heights}
use Rattle.fort_theory.specs.Signatures.{IsGround, AreGround}
use Rattle.fort_theory.proofs.Members.{Contains-head, Contains-behind, Contains-cons_cases, Contains-none}
use Rattle.fort_tables.specs.Entries.{entry}
use Rattle.fort_tables.specs.Tables.{Table, IsTable, IsReached}
use Rattle.fort_tables.specs.PureSearch.{lone_symbol}
use Rattle.fort_tables.specs.PureStates.{GivesAlone, IsPureState, IsPureChild}
use Rattle.fort_tables.specs.Heights.{HasHeightsTo, HasEveryHeight}
use Rattle.fort_tables.specs.Counts.{Count, Finite, Infinite, is_infinite, IsFiniteBelow, KeepsRule, KeepRules}
use Rattle.fort_tables.proofs.HeightLaws.{many_from_every_height, listed_from_heights, not_many_from_heights}
use Rattle.fort_tables.proofs.PureStateLaws.{lone_state, lone_states, lone_entry, lone_pure, term_of_pure, pure_symbol, pure_kid, node_given}

pub kept : (body : Table) (c : ℕ) (mark : ℕ → Count) (q : ℕ) (n : Count) → KeepRules body c mark → IsPureState body c q → mark q ≡ n → KeepsRule body c mark q n
kept body c mark q n keep pure is = subst (KeepsRule body c mark q) is (keep q pure)

mutual
  heights_tree : (body : Table) (c : ℕ) (mark : ℕ → Count) → IsTable body → c < body.columns → KeepRules body c mark → (u : Tree) → IsGround body.signature u → (r : ℕ) → mark (lone_state body c u) ≡ Finite r → height u ≤ r
  heights_tree body c mark is low keep (Node g us) ground r m =
      let q = lone_state body c (Node g us) in
      let e = entry (lone_symbol body c g) (lone_states body c us) in
      let made = lone_entry body c g us is low ground in
      let below = kept body c mark q (Finite r) keep (lone_pure body c (Node g us) is low ground) m in
      heights_trees body c mark is low keep us ground.1 r (λ k d. below k (record { entry = e; is_pure = made; child = d }))

  heights_trees : (body : Table) (c : ℕ) (mark : ℕ → Count) → IsTable body → c < body.columns → KeepRules body c mark → (us : Trees) → AreGround body.signature us → (r : ℕ) → ((k : ℕ) → Contains (lone_states body c us) k → IsFiniteBelow mark r k) → heights us ≤ r
  heights_trees body c mark is low keep Nil ground r below = omega arith
  heights_trees body c mark is low keep (More u us) ground r below =
      let x = below (lone_state body c u) (Contains-head (lone_state body c u) (lone_states body c us)) in
      let h = heights_tree body c mark is low keep u ground.0 x.0 x.1 in
      let hs = heights_trees body c mark is low keep us ground.1 r (λ k d. below k (Contains-behind (lone_state body c u) (lone_states body c us) k d)) in
      omega (arith, h, hs, x.2)

-- Result: a state marked finite has only terms of at most that height
pub heights_from_marks : (body : Table) (c : ℕ) (mark : ℕ → Count) → IsTable body → c < body.columns → KeepRules body c mark → (q r : ℕ) → mark q ≡ Finite r → HasHeightsTo (GivesAlone body c q) r
heights_from_marks body c mark is low keep q r m u given = heights_tree body c mark is low keep u given.0 r (ap mark given.1 ∙ m)

-- terms for a list of states
record Terms (body : Table) (c : ℕ) (ks : List ℕ) : Type 0 where
  trees : Trees
  ground : AreGround body.signature trees
  count : tree_count trees ≡ length ks
  states : lone_states body c trees ≡ ks

terms_for : (body : Table) (c : ℕ) (ks : List ℕ) → ((k : ℕ) → Contains ks k → (u : Tree) × GivesAlone body c k u) → Terms body c ks
terms_for body c [] h = record { trees = Nil; ground = tt; count = refl; states = refl }
terms_for body c (k ∷ ks) h =
    let x = h k (Contains-head k ks) in
    let r = terms_for body c ks (λ i d. h i (Contains-behind k ks i d)) in
    record {
      trees = More x.0 r.trees;
      ground = (x.1.0, r.ground);
      count = ap suc r.count;
      states = ap (λ j. j ∷ lone_states body c r.trees) x.1.1 ∙ ap (λ js. k ∷ js) r.states;
    }

-- one of them as high as wanted
record TallTerms (body : Table) (c : ℕ) (ks : List ℕ) (h : ℕ) : Type 0 where
  terms : Terms body c ks
  high : suc h ≤ heights terms.trees

tall_first : (body : Table) (c k : ℕ) (ks : List ℕ) (h : ℕ) (u : Tree) → GivesAlone body c k u → h ≤ height u → Terms body c ks → TallTerms body c (k ∷ ks) h
tall_first body c k ks h u given high r = record {
  terms = record {
    trees = More u r.trees;
    ground = (given.0, r.ground);
    count = ap suc r.count;
    states = ap (λ j. j ∷ lone_states body c r.trees) given.1 ∙ ap (λ js. k ∷ js) r.states;
  };
  high = omega arith;
}

tall_later : (body : Table) (c k : ℕ) (ks : List ℕ) (h : ℕ) (u : Tree) → GivesAlone body c k u → TallTerms body c ks h → TallTerms body c (k ∷ ks) h
tall_later body c k ks h u given s =
    let r = s.terms in
    record {
      terms = record {
        trees = More u r.trees;
        ground = (given.0, r.ground);
        count = ap suc r.count;
        states = ap (λ j. j ∷ lone_states body c r.trees) given.1 ∙ ap (λ js. k ∷ js) r.states;
      };
      high = omega (arith, s.high);
    }

tall_for : (body : Table) (c : ℕ) (ks : List ℕ) (p h : ℕ) → ((k : ℕ) → Contains ks k → (u : Tree) × GivesAlone body c k u) → Contains ks p → (u : Tree) → GivesAlone body c p u → h ≤ height u → TallTerms body c ks h
tall_for body c [] p h any d u given high = absurd (Contains-none p d)
tall_for body c (k ∷ ks) p h any d u given high = ⊎_elim
    (λ (e : k ≡ p). tall_first body c k ks h u (given.0, given.1 ∙ sym e) high (terms_for body c ks (λ i f. any i (Contains-behind k ks i f))))
    (λ (f : Contains ks p).
    let x = any k (Contains-head k ks) in
    tall_later body c k ks h x.0 x.1 (tall_for body c ks p h (λ i g. any i (Contains-behind k ks i g)) f u given high))
    (Contains-cons_cases k ks p d)

-- a term one higher than a child's
pub above_child : (body : Table) (c q k h : ℕ) → IsTable body → IsReached body → c < body.columns → IsPureChild body c q k → (u : Tree) → GivesAlone body c k u → h ≤ height u → (v : Tree) × GivesAlone body c q v × (suc h ≤ height v)
above_child body c q k h is reached low kid u given high =
    let e = kid.entry in
    let pure = kid.is_pure in
    let any : (i : ℕ) → Contains e.kids i → (v : Tree) × GivesAlone body c i v = λ i d. term_of_pure body c i is reached low (pure_kid body c q e low pure i d) in
    let us = tall_for body c e.kids k h any kid.child u given high in
    let g = pure_symbol body c q e low pure in
    let r = us.terms in
    (Node g.0 r.trees, node_given body c q e low pure r.trees r.ground r.states r.count g.0 g.1, us.high)

tall_to : (body : Table) (c : ℕ) (mark : ℕ → Count) → IsTable body → IsReached body → c < body.columns → KeepRules body c mark → (h q p : ℕ) → IsPureState body c q → mark q ≡ Infinite p → (u : Tree) × GivesAlone body c q u × (h ≤ height u)
tall_to body c mark is reached low keep zero q p pure m =
    let u = term_of_pure body c q is reached low pure in
    (u.0, u.1, omega arith)
tall_to body c mark is reached low keep (suc h) q p pure m =
    let y = kept body c mark q (Infinite p) keep pure m in
    let x = tall_to body c mark is reached low keep h p y.next (pure_kid body c q y.child.entry low y.child.is_pure p y.child.child) y.infinite in
    above_child body c q p h is reached low y.child x.0 x.1 x.2

-- Result: a state marked infinite has terms of every height
pub every_height_from_marks : (body : Table) (c : ℕ) (mark : ℕ → Count) → IsTable body → IsReached body → c < body.columns → KeepRules body c mark → (q p : ℕ) → IsPureState body c q → mark q ≡ Infinite p → HasEveryHeight (GivesAlone body c q)
every_height_from_marks body c mark is reached low keep q p pure m h = tall_to body c mark is reached low keep h q p pure m

-- Result: finitely many: they are in one list
pub listed_from_marks : (body : Table) (c : ℕ) (mark : ℕ → Count) → IsTable body → c < body.columns → KeepRules body c mark → (q r : ℕ) → mark q ≡ Finite r → (xs : List Tree) × ((u : Tree) → GivesAlone body c q u → Contains xs u)
listed_from_marks body c mark is low keep q r m = listed_from_heights body.signature (GivesAlone body c q) r (λ u h. h.0) (heights_from_marks body c mark is low keep q r m)

-- Result: infinitely many
pub many_from_marks : (body : Table) (c : ℕ) (mark : ℕ → Count) → IsTable body → IsReached body → c < body.columns → KeepRules body c mark → (q p : ℕ) → IsPureState body c q → mark q ≡ Infinite p → HasInfinitelyMany (GivesAlone body c q)
many_from_marks body c mark is reached low keep q p pure m = many_from_every_height (GivesAlone body c q) (every_height_from_marks body c mark is reached low keep q p pure m)

-- so not both, whatever the marks are
pub not_many_from_marks : (body : Table) (c : ℕ) (mark : ℕ → Count) → IsTable body → c < body.columns → KeepRules body c mark → (q r : ℕ) → mark q ≡ Finite r → HasInfinitelyMany (GivesAlone body c q) → ⊥
not_many_from_marks body c mark is low keep q r m = not_many_from_heights body.signature (GivesAlone body c q) r (λ u h. h.0) (heights_from_marks body c mark is low keep q r m)

-- two markings whose rules hold are of one kind at each state
pub marks_one_kind : (body : Table) (c : ℕ) (mark other : ℕ → Count) → IsTable body → IsReached body → c < body.columns → KeepRules body c mark → KeepRules body c other → (q r p : ℕ) → IsPureState body c q → mark q ≡ Finite r → other q ≡ Infinite p → ⊥
marks_one_kind body c mark other is reached low keep also q r p pure m o =
    not_many_from_marks body c mark is low keep q r m (many_from_marks body c other is reached low also q p pure o)

infinite_as : (body : Table) (c : ℕ) (mark : ℕ → Count) → IsTable body → IsReached body → c < body.columns → KeepRules body c mark → (q : ℕ) → IsPureState body c q → (n : Count) → mark q ≡ n → (is_infinite n ≡ true) ↔ HasInfinitelyMany (GivesAlone body c q)
infinite_as body c mark is reached low keep q pure (Finite r) m = ((λ e. absurd cc), (λ many. absurd (not_many_from_marks body c mark is low keep q r m many)))
infinite_as body c mark is reached low keep q pure (Infinite p) m = ((λ _. many_from_marks body c mark is reached low keep q p pure m), (λ _. refl))

-- Result: a pure state is marked infinite exactly where infinitely many terms give it
pub infinite_exactly : (body : Table) (c : ℕ) (mark : ℕ → Count) → IsTable body → IsReached body → c < body.columns → KeepRules body c mark → (q : ℕ) → IsPureState body c q → (is_infinite (mark q) ≡ true) ↔ HasInfinitelyMany (GivesAlone body c q)
infinite_exactly body c mark is reached low keep q pure = infinite_as body c mark is reached low keep q pure (mark q) refl
