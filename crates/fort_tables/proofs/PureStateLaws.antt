-- A term alone in its column: its state by its root and the states of its children, and the entries and children that these make.
use Rattle.std.proofs.Common.{◌≡◌, ℕ, ◌-◌, ◌^◌, ◌<◌, max, List, [], ◌∷◌, map, length, Some, get_or, refl, ap, sym, ◌∙◌, arith, subst}
use Rattle.std.specs.Prelude.{Contains}
use Rattle.std.specs.List.{insert}
use Rattle.std.proofs.lemmas.List.{get_or_default}
use Rattle.fort_theory.specs.Trees.{Tree, Trees, Node, Nil, More, tree_count}
use Rattle.fort_theory.specs.Signatures.{IsGround, AreGround}
use Rattle.fort_tables.specs.Tuples.{Tuple, tabulate, all_absent, root, tree_at, kid, kids, kid_count, symbol_kids, kid_presence, AreSymbols, IsTuple, arity}
use Rattle.fort_tables.specs.Entries.{Entry, entry}
use Rattle.fort_tables.specs.Tables.{Table, IsTable, IsTableEntry, IsReached, state_of}
use Rattle.fort_tables.proofs.TupleLaws.{map-tabulate, tabulate_same, IsTuple-kid, get_from_arity}
use Rattle.fort_tables.proofs.TableLaws.{entry_of, IsEntry-states, table_state}
use Rattle.fort_tables.proofs.InsertLaws.{root-insert, kid-insert, kid_count-insert, length-all_absent, AreGroundColumns-all_absent, root-all_absent, kid-all_absent, kid_count-all_absent, presence-alone, alone_from_presence}
use Rattle.fort_tables.proofs.InsertSymbolLaws.{symbol_kids-alone, kid_presence-alone, symbol_within-alone}
use Rattle.fort_tables.proofs.CompletedTuples.{IsTuple-completed, states_with, state-insert}
use Rattle.fort_tables.proofs.PureLaws.{gives_pure}
use Rattle.fort_tables.specs.PureSearch.{lone_symbol}
use Rattle.fort_tables.specs.PureStates.{GivesAlone, IsPureState, IsPureEntry, IsPureChild}

-- the other columns, all of them absent
abbrev pub no_others : Table → Tuple
no_others body = all_absent (body.columns - 1)

-- the state of a term alone in column c
abbrev pub lone_state : Table → ℕ → Tree → ℕ
lone_state body c u = state_of body (insert (no_others body) c (Some u))

abbrev pub lone_states : Table → ℕ → Trees → List ℕ
lone_states body c Nil = []
lone_states body c (More u us) = lone_state body c u ∷ lone_states body c us

lone_tabulate : (body : Table) (c : ℕ) (us : Trees) → tabulate (tree_count us) (λ j. state_of body (insert (no_others body) c (tree_at us j))) ≡ lone_states body c us
lone_tabulate body c Nil = refl
lone_tabulate body c (More u us) = ap (λ ks. lone_state body c u ∷ ks) (lone_tabulate body c us)

-- one step
pub lone_step : (body : Table) (c g : ℕ) (us : Trees) → lone_state body c (Node g us) ≡ body.target (entry (lone_symbol body c g) (lone_states body c us))
lone_step body c g us =
    let n = body.columns - 1 in
    let t = no_others body in
    let many : max (tree_count us) (kid_count t) ≡ tree_count us = omega (arith, kid_count-all_absent n) in
    let states : states_with body c (Some (Node g us)) t ≡ lone_states body c us =
    ap (λ m. tabulate m (λ j. state_of body (insert (kid t j) c (tree_at us j)))) many
    ∙ (tabulate_same (tree_count us) _ _ (λ j l. ap (λ k. state_of body (insert k c (tree_at us j))) (kid-all_absent n j))
    ∙ lone_tabulate body c us) in
    state-insert body c (Some (Node g us)) t
    ∙ (ap (λ f. body.target (entry (insert f c (Some g)) (states_with body c (Some (Node g us)) t))) (root-all_absent n)
    ∙ ap (λ ks. body.target (entry (lone_symbol body c g) ks)) states)

pub lone_tuple : (body : Table) (c : ℕ) (u : Tree) → c < body.columns → IsGround body.signature u → IsTuple body.signature body.columns (insert (no_others body) c (Some u))
lone_tuple body c u low g = IsTuple-completed body c (no_others body) u low g (length-all_absent Tree (body.columns - 1)) (AreGroundColumns-all_absent body.signature (body.columns - 1))

-- its state is a pure one
pub lone_pure : (body : Table) (c : ℕ) (u : Tree) → IsTable body → c < body.columns → IsGround body.signature u → IsPureState body c (lone_state body c u)
lone_pure body c u is low g =
    let s = table_state body is (insert (no_others body) c (Some u)) (lone_tuple body c u low g) in
    record { within = s.within; alone = s.presence_is ∙ presence-alone c (body.columns - 1) u (omega arith) }

pub pure_from_term : (body : Table) (c q : ℕ) (u : Tree) → IsTable body → c < body.columns → GivesAlone body c q u → IsPureState body c q
pure_from_term body c q u is low h = subst (IsPureState body c) h.1 (lone_pure body c u is low h.0)

-- a pure state has a term
pub term_of_pure : (body : Table) (c q : ℕ) → IsTable body → IsReached body → c < body.columns → IsPureState body c q → (u : Tree) × GivesAlone body c q u
term_of_pure body c q is reached low pure =
    let w = (gives_pure body c is reached low q).1 (pure.within, pure.alone) in
    (w.0, (w.1, w.2))

-- the root and the children's states of a term alone are a pure entry
pub lone_entry : (body : Table) (c g : ℕ) (us : Trees) → IsTable body → c < body.columns → IsGround body.signature (Node g us) → IsPureEntry body c (lone_state body c (Node g us)) (entry (lone_symbol body c g) (lone_states body c us))
lone_entry body c g us is low ground =
    let n = body.columns - 1 in
    let t = no_others body in
    let w = insert t c (Some (Node g us)) in
    let it = lone_tuple body c (Node g us) low ground in
    let e = IsEntry-states body.signature body.columns body.presences (state_of body) w it (λ j l. table_state body is (kid w j) (IsTuple-kid body.signature body.columns w j it l)) in
    let symbol : root w ≡ lone_symbol body c g = root-insert t c (Some (Node g us)) ∙ ap (λ f. insert f c (Some g)) (root-all_absent n) in
    let states : map (state_of body) (kids w) ≡ lone_states body c us =
    map-tabulate (state_of body) (kid_count w) (kid w)
    ∙ (ap (λ m. tabulate m (λ j. state_of body (kid w j))) (let k : kid_count w ≡ tree_count us = omega (arith, kid_count-insert t c (Some (Node g us)), kid_count-all_absent n) in k)
    ∙ (tabulate_same (tree_count us) _ _ (λ j l. ap (state_of body) (kid-insert t c (Some (Node g us)) j ∙ ap (λ s. insert s c (tree_at us j)) (kid-all_absent n j)))
    ∙ lone_tabulate body c us)) in
    let same : entry_of (state_of body) w ≡ entry (lone_symbol body c g) (lone_states body c us) = λ i. record { symbol = symbol i; kids = states i } in
    record {
      is_entry = subst (IsTableEntry body) same e;
      alone = presence-alone c n g (omega arith);
      gives = sym (lone_step body c g us);
    }

-- a pure entry has one symbol, in column c
pub pure_symbol : (body : Table) (c q : ℕ) (e : Entry) → c < body.columns → IsPureEntry body c q e → (g : ℕ) × (e.symbol ≡ lone_symbol body c g)
pure_symbol body c q e low h = alone_from_presence c (body.columns - 1) e.symbol (omega arith) (omega (arith, h.is_entry.symbol.width)) h.alone

-- as many children as the symbol's arity
pub pure_count : (body : Table) (c q : ℕ) (e : Entry) (g : ℕ) → IsPureEntry body c q e → e.symbol ≡ lone_symbol body c g → length e.kids ≡ arity body.signature g
pure_count body c q e g h symbol = h.is_entry.count ∙ (ap (symbol_kids body.signature) symbol ∙ symbol_kids-alone body.signature c (body.columns - 1) g)

pub pure_within : (body : Table) (c q : ℕ) (e : Entry) (g : ℕ) → IsPureEntry body c q e → e.symbol ≡ lone_symbol body c g → g < length body.signature
pure_within body c q e g h symbol = symbol_within-alone body.signature c (body.columns - 1) g (subst (AreSymbols body.signature) symbol h.is_entry.symbol.symbols)

-- each child of a pure entry is a pure state
pub pure_kid : (body : Table) (c q : ℕ) (e : Entry) → c < body.columns → IsPureEntry body c q e → (k : ℕ) → Contains e.kids k → IsPureState body c k
pure_kid body c q e low h k (j, l, at) =
    let g = pure_symbol body c q e low h in
    let is : get_or e.kids j 0 ≡ k = get_or_default e.kids j 0 k l ∙ at in
    let p : kid_presence body.signature e.symbol j ≡ 2 ^ c = ap (λ f. kid_presence body.signature f j) g.1 ∙ kid_presence-alone body.signature c (body.columns - 1) g.0 j (omega arith) (omega (arith, pure_count body c q e g.0 h g.1)) in
    record {
      within = omega (arith, h.is_entry.within j l);
      alone = ap (λ i. get_or body.presences i 0) (sym is) ∙ (h.is_entry.presence j l ∙ p);
    }

pub pure_child : (body : Table) (c q k : ℕ) → c < body.columns → IsPureChild body c q k → IsPureState body c k
pure_child body c q k low h = pure_kid body c q h.entry low h.is_pure k h.child

-- the term of a pure entry and of terms for its children
pub node_given : (body : Table) (c q : ℕ) (e : Entry) → c < body.columns → IsPureEntry body c q e → (us : Trees) → AreGround body.signature us → lone_states body c us ≡ e.kids → tree_count us ≡ length e.kids → (g : ℕ) → e.symbol ≡ lone_symbol body c g → GivesAlone body c q (Node g us)
node_given body c q e low h us ground states count g symbol =
    let same : entry (lone_symbol body c g) (lone_states body c us) ≡ e = λ i. record { symbol = sym symbol i; kids = states i } in
    let many : arity body.signature g ≡ tree_count us = sym (count ∙ pure_count body c q e g h symbol) in (
      (get_from_arity body.signature g (pure_within body c q e g h symbol) ∙ ap Some many, ground),
      lone_step body c g us ∙ (ap body.target same ∙ h.gives),
    )
