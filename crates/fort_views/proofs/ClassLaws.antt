-- A view stays right where the next state is taken up.
use Rattle.std.proofs.Common.{◌≡◌, ◌↔◌, ℕ, zero, suc, ◌+◌, ◌<◌, ◌≤◌, if◌then◌else◌, List, [], ◌∷◌, ◌++◌, map, filter, cond, length, get_or, Bool, true, false, IsTrue, true≢false, ◌==◌, refl, ap, sym, ◌∙◌, arith, subst, ⊎_elim, eq-eqb}
use Rattle.std.specs.Prelude.{Contains}
use Rattle.std.proofs.lemmas.Bool.{cases_lt}
use Rattle.std.proofs.lemmas.List.{length-map, get_or-map, get_or_push, get_or_append_left, get_or_default, length_push, map-append, append-nil}
use Rattle.std.proofs.lemmas.List.Elements.{filter-append}
use Rattle.fort_theory.proofs.Members.{Contains-filter, Contains-from_filter}
use Rattle.fort_tables.specs.Tuples.{TupleSymbol}
use Rattle.fort_tables.specs.Labels.{first_word}
use Rattle.fort_tables.proofs.EqualTests.{equal_from_test, test_from_apart}
use Rattle.fort_classes.specs.Keys.{Keys, leaders_by}
use Rattle.fort_classes.proofs.KeyLaws.{AreOfClass, by_least, by_below, by_class, by_itself}
use Rattle.fort_label_keys.specs.ViewKeys.{keys_by}
use Rattle.fort_entry_walk.specs.Walks.{states_with}
use Rattle.fort_entry_walk.proofs.InLaws.{Contains-from_In, In-from_Contains}
use Rattle.fort_entry_walk.proofs.KidMembers.{In-states, from_states}
use Rattle.fort_views.specs.Views.{leader_in, leads_in, view_states, view_leaders, IsClassOf, HaveClasses, AreClasses, IsViewOf, HasSameSight, GivesClass}
use Rattle.fort_views.specs.declared.view.View.{View}
use Rattle.fort_views.specs.ViewsStay.{word_at}
use Rattle.fort_views.proofs.StateLaws.{states_more, states_same}

-- the keys at a place that asks this
abbrev keys_in : (List ℕ → List ℕ → List ℕ) → List ℕ → Keys
keys_in key words = λ f j label. key words label

-- Result: the leader in a view is the one at each place that asks this
pub leader_in-place : (view : TupleSymbol → ℕ → List ℕ) (key : List ℕ → List ℕ → List ℕ) (labels : List (List ℕ)) (f : TupleSymbol) (j q : ℕ) → leader_in key (view f j) labels q ≡ leaders_by (keys_by view key) labels f j q
leader_in-place view key labels f j q = refl

-- one more state with its class, where leaders may have come
HaveClasses-push : (leaders more : List ℕ) (lead : ℕ → ℕ) (states classes : List ℕ) (q c : ℕ) → HaveClasses leaders lead states classes → ((k : ℕ) → k < length leaders → get_or more k 0 ≡ get_or leaders k 0) → length leaders ≤ length more → IsClassOf more (lead q) c → HaveClasses more lead (states ++ q ∷ []) (classes ++ c ∷ [])
HaveClasses-push leaders more lead states classes q c h same longer is = record {
  count = omega (arith, h.count, length_push states q, length_push classes c);
  each = λ i l. ⊎_elim
      (λ b.
      let old = h.each i b in
      let s : get_or (states ++ q ∷ []) i 0 ≡ get_or states i 0 = get_or_append_left states (q ∷ []) 0 i b in
      let t : get_or (classes ++ c ∷ []) i 0 ≡ get_or classes i 0 = get_or_append_left classes (c ∷ []) 0 i (omega (arith, h.count)) in
      record {
        within = omega (arith, t, old.within);
        leads = ap (λ k. get_or more k 0) t ∙ (same (get_or classes i 0) old.within ∙ (old.leads ∙ ap lead (sym s)));
      })
      (λ b.
      let e : length states ≡ i = omega (arith, length_push states q) in
      let s : get_or (states ++ q ∷ []) i 0 ≡ q = get_or_push states q 0 i e in
      let t : get_or (classes ++ c ∷ []) i 0 ≡ c = get_or_push classes c 0 i (h.count ∙ e) in
      record {
        within = omega (arith, t, is.within);
        leads = ap (λ k. get_or more k 0) t ∙ (is.leads ∙ ap lead (sym s));
      })
      (cases_lt i (length states));
}

module _ (key : List ℕ → List ℕ → List ℕ) (words : List ℕ) (labels : List (List ℕ)) (presence n : ℕ) where
  -- a leader before the state n, by its place among the leaders
  record IsLeaderBefore (r : ℕ) : Type 0 where
    before : r < n
    has : get_or (map first_word labels) r 0 ≡ presence
    leads : leader_in key words labels r ≡ r

  -- what stands among the leaders is one
  leader_there : (r : ℕ) → Contains (view_leaders key words labels presence n) r → IsLeaderBefore r
  leader_there r h =
      let states = view_states labels presence n in
      let p = Contains-from_filter (leads_in key words labels) states r h in
      let s = from_states (map first_word labels) presence 0 n r (In-from_Contains r states p.0) in
      record { before = omega (arith, s.1); has = s.2; leads = equal_from_test (leader_in key words labels r) r p.1 }

  -- and each leader stands among them
  leader_found : (r : ℕ) → IsLeaderBefore r → Contains (view_leaders key words labels presence n) r
  leader_found r h =
      let states = view_states labels presence n in
      Contains-filter (leads_in key words labels) states r
      (Contains-from_In r states (In-states (map first_word labels) presence 0 n r (omega arith) (omega (arith, h.before)) h.has))
      (eq-eqb (leader_in key words labels r) r h.leads)

  -- a leader with the presence and the key of a state leads it
  leads_by_key : (l : ℕ) → n < length labels → get_or (map first_word labels) n 0 ≡ presence → IsLeaderBefore l → key words (get_or labels l []) ≡ key words (get_or labels n []) → leader_in key words labels n ≡ l
  leads_by_key l within has h same =
      let keys = keys_in key words in
      let low : l < length labels = omega (arith, h.before) in
      let word : first_word (get_or labels l []) ≡ first_word (get_or labels n []) = sym (word_at labels l low) ∙ (h.has ∙ (sym has ∙ word_at labels n within)) in
      let c : AreOfClass keys [] 0 (get_or labels l []) (get_or labels n []) = record { word = word; key_is = same } in
      let r = leader_in key words labels n in
      let low' : r < length labels = omega (arith, by_below keys labels [] 0 n within) in
      let d = by_class keys labels [] 0 n within in
      let e : AreOfClass keys [] 0 (get_or labels r []) (get_or labels l []) = record { word = d.word ∙ sym word; key_is = d.key_is ∙ sym same } in
      omega (arith, by_least keys labels [] 0 l n low c, by_least keys labels [] 0 r l low' e, h.leads)

  -- a state leads where no leader before it has its key
  leads_itself : n < length labels → get_or (map first_word labels) n 0 ≡ presence → ((r : ℕ) → IsLeaderBefore r → key words (get_or labels r []) ≡ key words (get_or labels n []) → ⊥) → leader_in key words labels n ≡ n
  leads_itself within has none =
      let keys = keys_in key words in
      let r = leader_in key words labels n in
      let below : r ≤ n = by_below keys labels [] 0 n within in
      ⊎_elim
      (λ b.
      let low : r < length labels = omega arith in
      let c = by_class keys labels [] 0 n within in
      let h : IsLeaderBefore r = record { before = b; has = word_at labels r low ∙ (c.word ∙ (sym (word_at labels n within) ∙ has)); leads = by_itself keys labels [] 0 n within } in
      absurd (none r h c.key_is))
      (λ b. let s : r ≡ n = omega arith in s)
      (cases_lt r n)

  module _ (keys : List (List ℕ)) (leaders classes : List ℕ) (is : AreClasses key words labels presence n keys leaders classes) where
    -- a class has its leader's key
    key_at : (c : ℕ) → c < length leaders → get_or keys c [] ≡ key words (get_or labels (get_or leaders c 0) [])
    key_at c l = ap (λ ks. get_or ks c []) is.keys_are ∙ get_or-map (λ q. key words (get_or labels q [])) leaders c 0 [] l

    -- a class's leader was taken up
    leader_before : (c : ℕ) → c < length leaders → IsLeaderBefore (get_or leaders c 0)
    leader_before c l =
        let r = get_or leaders c 0 in
        let there : Contains leaders r = (c, l, get_or_default leaders c r 0 l) in
        leader_there r (subst (λ (xs : List ℕ). Contains xs r) is.leaders_are there)

    -- Result: a state of another presence
    pub classes_past : n < length labels → (get_or (map first_word labels) n 0 ≡ presence → ⊥) → AreClasses key words labels presence (n + 1) keys leaders classes
    classes_past within other =
        let same = sym (states_same (map first_word labels) presence n other) in
        record {
          within = omega arith;
          leaders_are = is.leaders_are ∙ ap (filter (leads_in key words labels)) same;
          keys_are = is.keys_are;
          have = subst (λ (xs : List ℕ). HaveClasses leaders (leader_in key words labels) xs classes) same is.have;
        }

    -- Result: a state whose key is there
    pub classes_old : (c : ℕ) → n < length labels → get_or (map first_word labels) n 0 ≡ presence → c < length leaders → get_or keys c [] ≡ key words (get_or labels n []) → AreClasses key words labels presence (n + 1) keys leaders (classes ++ c ∷ [])
    classes_old c within has low same =
        let states = view_states labels presence n in
        let test = leads_in key words labels in
        let before = leader_before c low in
        let lead : leader_in key words labels n ≡ get_or leaders c 0 = leads_by_key (get_or leaders c 0) within has before (sym (key_at c low) ∙ same) in
        let apart : leader_in key words labels n ≡ n → ⊥ = λ e. omega (arith, before.before) in
        let fails : test n ≡ false = test_from_apart (leader_in key words labels n) n apart in
        let more : view_states labels presence (n + 1) ≡ states ++ n ∷ [] = states_more (map first_word labels) presence n has in
        let none : filter test (n ∷ []) ≡ [] = ap (λ b. cond b (n ∷ []) []) fails in
        let left : filter test (view_states labels presence (n + 1)) ≡ filter test states = ap (filter test) more ∙ (filter-append test states (n ∷ []) ∙ (ap (λ r. filter test states ++ r) none ∙ append-nil (filter test states))) in
        record {
          within = omega arith;
          leaders_are = is.leaders_are ∙ sym left;
          keys_are = is.keys_are;
          have = subst (λ (xs : List ℕ). HaveClasses leaders (leader_in key words labels) xs (classes ++ c ∷ [])) (sym more)
              (HaveClasses-push leaders leaders (leader_in key words labels) states classes n c is.have (λ k l. refl) (omega arith) (record { within = low; leads = sym lead }));
        }

    -- Result: a state whose key is new
    pub classes_new : n < length labels → get_or (map first_word labels) n 0 ≡ presence → ((i : ℕ) → i < length keys → get_or keys i [] ≡ key words (get_or labels n []) → ⊥) → AreClasses key words labels presence (n + 1) (keys ++ key words (get_or labels n []) ∷ []) (leaders ++ n ∷ []) (classes ++ length leaders ∷ [])
    classes_new within has absent =
        let states = view_states labels presence n in
        let test = leads_in key words labels in
        let at : ℕ → List ℕ = λ q. key words (get_or labels q []) in
        let count : length keys ≡ length leaders = ap length is.keys_are ∙ length-map leaders at in
        let lead : leader_in key words labels n ≡ n = leads_itself within has (λ r h same.
        let there : Contains leaders r = subst (λ (xs : List ℕ). Contains xs r) (sym is.leaders_are) (leader_found r h) in
        let here : get_or leaders there.0 0 ≡ r = get_or_default leaders there.0 0 r there.1 ∙ there.2 in
        absurd (absent there.0 (omega (arith, there.1)) (key_at there.0 there.1 ∙ (ap at here ∙ same)))) in
        let passes : test n ≡ true = eq-eqb (leader_in key words labels n) n lead in
        let more : view_states labels presence (n + 1) ≡ states ++ n ∷ [] = states_more (map first_word labels) presence n has in
        let one : filter test (n ∷ []) ≡ n ∷ [] = ap (λ b. cond b (n ∷ []) []) passes in
        let left : filter test (view_states labels presence (n + 1)) ≡ leaders ++ n ∷ [] = ap (filter test) more ∙ (filter-append test states (n ∷ []) ∙ (ap (λ r. filter test states ++ r) one ∙ ap (λ r. r ++ n ∷ []) (sym is.leaders_are))) in
        record {
          within = omega arith;
          leaders_are = sym left;
          keys_are = ap (λ ks. ks ++ at n ∷ []) is.keys_are ∙ sym (map-append at leaders (n ∷ []));
          have = subst (λ (xs : List ℕ). HaveClasses (leaders ++ n ∷ []) (leader_in key words labels) xs (classes ++ length leaders ∷ [])) (sym more)
              (HaveClasses-push leaders (leaders ++ n ∷ []) (leader_in key words labels) states classes n (length leaders) is.have (λ k l. get_or_append_left leaders (n ∷ []) 0 k l) (omega (arith, length_push leaders n))
              (record { within = omega (arith, length_push leaders n); leads = get_or_push leaders n 0 (length leaders) refl ∙ sym lead }));
        }

-- no more states pass a test than there are
few_states : (p : ℕ → Bool) (ps : List ℕ) (want a n : ℕ) → length (filter p (states_with ps want a n)) ≤ n
few_states p ps want a zero = omega arith
few_states p ps want a (suc n) =
    let later = states_with ps want (a + 1) n in
    let few = few_states p ps want (a + 1) n in
    let one : (b : Bool) → length (cond b (a ∷ filter p later) (filter p later)) ≤ suc n = λ b. elim b as (λ b. length (cond b (a ∷ filter p later) (filter p later)) ≤ suc n) [ true ↦ omega arith | false ↦ omega arith ] in
    let both : (b : Bool) → length (filter p (if b then a ∷ later else later)) ≤ suc n = λ b. elim b as (λ b. length (filter p (if b then a ∷ later else later)) ≤ suc n) [ true ↦ one (p a) | false ↦ omega arith ] in
    both (get_or ps a 0 == want)

-- a view has no more classes than states before the one that it tells
pub few_leaders : (key : List ℕ → List ℕ → List ℕ) (words : List ℕ) (labels : List (List ℕ)) (presence n : ℕ) (keys : List (List ℕ)) (leaders classes : List ℕ) → AreClasses key words labels presence n keys leaders classes → length leaders ≤ n
few_leaders key words labels presence n keys leaders classes is = omega (arith, ap length is.leaders_are, few_states (leads_in key words labels) (map first_word labels) presence 0 n)

-- Result: a view whose next state has another presence
pub known_past : (key : List ℕ → List ℕ → List ℕ) (words : List ℕ) (labels : List (List ℕ)) (presence n : ℕ) (keys : List (List ℕ)) (leaders classes label : List ℕ) (has : Bool) → AreClasses key words labels presence n keys leaders classes → n < length labels → label ≡ get_or labels n [] → IsTrue has ↔ (first_word label ≡ presence) → has ≡ false → AreClasses key words labels presence (n + 1) keys leaders classes
known_past key words labels presence n keys leaders classes label has is within at test other =
    classes_past key words labels presence n keys leaders classes is within
    (λ e. let one : first_word label ≡ presence = ap first_word at ∙ (sym (word_at labels n within) ∙ e) in
    let there : has ≡ true = test.1 one in
    absurd (true≢false (sym there ∙ other)))

-- Result: a view with the class of its next state
pub known_after : (key : List ℕ → List ℕ → List ℕ) (labels : List (List ℕ)) (old new : View) (classes label k : List ℕ) (has : Bool) (class : ℕ) → IsViewOf key labels old → old.until < length labels → label ≡ get_or labels old.until [] → IsTrue has ↔ (first_word label ≡ old.presence) → has ≡ true
    → k ≡ key old.words.items label → GivesClass old new k old.until class → HasSameSight old new → new.classes.items ≡ old.classes.items → classes ≡ new.classes.items ++ class ∷ [] → AreClasses key new.words.items labels new.presence (old.until + 1) new.keys new.leaders.items classes
known_after key labels old new classes label k has class is within at test same key_is gives sight stay push =
    let n = old.until in
    let words = old.words.items in
    let P : List (List ℕ) → List ℕ → List ℕ → Type 0 = λ ks ls cs. AreClasses key words labels old.presence (n + 1) ks ls cs in
    let one : get_or (map first_word labels) n 0 ≡ old.presence = word_at labels n within ∙ (ap first_word (sym at) ∙ test.0 same) in
    let key_here : k ≡ key words (get_or labels n []) = key_is ∙ ap (key words) at in
    let classes_are : old.classes.items ++ class ∷ [] ≡ classes = sym (push ∙ ap (λ v. v ++ class ∷ []) stay) in
    let here : P new.keys new.leaders.items classes = ⊎_elim
    (λ o.
    let r = classes_old key words labels old.presence n old.keys old.leaders.items old.classes.items is class within one o.within (o.has ∙ key_here) in
    subst (λ cs. P new.keys new.leaders.items cs) classes_are (subst (λ ls. P new.keys ls (old.classes.items ++ class ∷ [])) (sym o.leaders) (subst (λ ks. P ks old.leaders.items (old.classes.items ++ class ∷ [])) (sym o.keys) r)))
    (λ o.
    let r = classes_new key words labels old.presence n old.keys old.leaders.items old.classes.items is within one (λ i l e. o.absent i l (e ∙ sym key_here)) in
    let ks_are : old.keys ++ key words (get_or labels n []) ∷ [] ≡ new.keys = sym (o.keys ∙ ap (λ x. old.keys ++ x ∷ []) key_here) in
    let cs_are : old.classes.items ++ length old.leaders.items ∷ [] ≡ classes = ap (λ x. old.classes.items ++ x ∷ []) (sym o.last) ∙ classes_are in
    subst (λ cs. P new.keys new.leaders.items cs) cs_are (subst (λ ls. P new.keys ls (old.classes.items ++ length old.leaders.items ∷ [])) (sym o.leaders) (subst (λ ks. P ks (old.leaders.items ++ n ∷ []) (old.classes.items ++ length old.leaders.items ∷ [])) ks_are r)))
    gives in
    subst (λ ws. AreClasses key ws labels new.presence (n + 1) new.keys new.leaders.items classes) (sym sight.words)
    (subst (λ p. AreClasses key words labels p (n + 1) new.keys new.leaders.items classes) (sym sight.presence) here)
