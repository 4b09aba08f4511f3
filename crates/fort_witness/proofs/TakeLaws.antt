-- One more node is taken: its children were, so that it is an entry over their numbers.
use Rattle.std.proofs.Common.{◌≡◌, ℕ, zero, suc, ◌+◌, ◌^◌, ◌<◌, List, [], ◌∷◌, ◌++◌, length, take, get_or, map, ap, sym, ◌∙◌, arith, subst, inl, inr, ⊎_elim, get_or-set_same, get_or-set_other}
use Rattle.std.specs.Prelude.{Contains, Some, slice_get, slice_set}
use Rattle.std.proofs.lemmas.List.{length_push, length-map, length-set, length-take-le, get_or-take, get_or-map, get_or_push, get_or_append_left, ext_get_or}
use Rattle.std.proofs.lemmas.List.Elements.{Contains-get_or, Contains-push_cases}
use Rattle.fort_theory.specs.Signatures.{Signature}
use Rattle.fort_theory.proofs.Lists.{Contains-map}
use Rattle.fort_theory.specs.EachOnce.{AreEachOnce}
use Rattle.fort_theory.proofs.EachOnceLaws.{AreEachOnce-new}
use Rattle.fort_tables.specs.Tuples.{Tuple, kids, rebuilt, presence}
use Rattle.fort_tables.specs.Entries.{Entry, IsEntry, AreNodes, node_presences, picked, tuples_of}
use Rattle.fort_tables.proofs.TupleLaws.{rebuilt-kids}
use Rattle.fort_tables.proofs.EntryLaws.{get_or-picked}
use Rattle.fort_tables.proofs.EqualTests.{if_equal, if_apart}
use Rattle.fort_tables.proofs.NodeLaws.{kids-node, root-node, presences-nodes, AreNodes-push}
use Rattle.fort_witness.specs.declared.needed.Taken.{Taken}
use Rattle.fort_witness.specs.declared.needed.Visit.{Visit}
use Rattle.fort_witness.specs.declared.needed.Visit.TheVariants.{Itself}
use Rattle.fort_witness.specs.Answers.{last_tuple, AreApart}
use Rattle.fort_witness.specs.Rounds.{over_states}
use Rattle.fort_witness.specs.Visiting.{untaken, tuple_of, tuples_ahead, untaken_in, IsNumber, IsVisiting}
use Rattle.fort_witness.proofs.NextLaws.{same_or_other}
use Rattle.fort_witness.proofs.TextLaws.{at_get}
use Rattle.fort_witness.proofs.TuplesInLaws.{children_seen}
use Rattle.fort_witness.proofs.VisitLaws.{length-tuples, kid_place, ahead_top, top_within, rest_visiting}

-- one less is untaken
untaken_set : (ns : List ℕ) (k m : ℕ) → k < length ns → get_or ns k 0 ≡ untaken → (m ≡ untaken → ⊥) → untaken_in (slice_set ns k m) + 1 ≡ untaken_in ns
untaken_set [] k m l e ne = absurd (omega arith)
untaken_set (n ∷ ns) zero m l e ne = omega (arith, if_equal {X = ℕ} n untaken 1 0 e, if_apart {X = ℕ} m untaken 1 0 ne)
untaken_set (n ∷ ns) (suc k) m l e ne = omega (arith, untaken_set ns k m (omega arith) e ne)

untaken_some : (ns : List ℕ) (k : ℕ) → k < length ns → get_or ns k 0 ≡ untaken → 0 < untaken_in ns
untaken_some [] k l e = absurd (omega arith)
untaken_some (n ∷ ns) zero l e = omega (arith, if_equal {X = ℕ} n untaken 1 0 e)
untaken_some (n ∷ ns) (suc k) l e = omega (arith, untaken_some ns k (omega arith) e)

-- there is room for its number
pub taken_few : (nodes : List Entry) (t : Taken) (vs : List Visit) (k : ℕ) → IsVisiting nodes t (vs ++ Itself k ∷ []) → get_or t.numbers.items k 0 ≡ untaken → length t.dag < length nodes
taken_few nodes t vs k h e =
    let low = top_within nodes t vs (Itself k) h in
    omega (arith, h.taking.left, untaken_some t.numbers.items k (omega (arith, h.taking.count)) e)

-- a child of the node has a number
record IsChildNumber (nodes : List Entry) (t : Taken) (i n : ℕ) : Type 0 where
  below : i < length nodes
  within : n < length (tuples_of t.dag)
  is : get_or (tuples_of t.dag) n [] ≡ tuple_of nodes i

child_number : (sig : Signature) (c : ℕ) (nodes : List Entry) (t : Taken) (vs : List Visit) (k j : ℕ) (d : Entry) → AreNodes sig c nodes → IsVisiting nodes t (vs ++ Itself k ∷ []) → j < length (get_or nodes k d).kids
    → let i = get_or (get_or nodes k d).kids j 0 in IsChildNumber nodes t i (get_or t.numbers.items i 0)
child_number sig c nodes t vs k j d are h l =
    let low = top_within nodes t vs (Itself k) h in
    let ts = tuples_of nodes in
    let ks = (get_or nodes k d).kids in
    let i = get_or ks j 0 in
    let below : i < length nodes = omega (arith, kid_place sig c nodes k j d are low l) in
    let cut : h.seen ++ tuple_of nodes k ∷ tuples_ahead nodes vs ≡ h.seen ++ tuples_ahead nodes (vs ++ Itself k ∷ []) = ap (λ (us : List Tuple). h.seen ++ us) (sym (ahead_top nodes vs (Itself k))) in
    let child : Contains (kids (tuple_of nodes k)) (tuple_of nodes i) =
    subst (λ (us : List Tuple). Contains us (tuple_of nodes i)) (sym (kids-node sig c nodes k d are low)) (Contains-map (λ q. get_or ts q []) ks i (Contains-get_or ks j 0 l)) in
    let seen : Contains h.seen (tuple_of nodes i) = children_seen (last_tuple nodes) h.seen (tuple_of nodes k) (tuples_ahead nodes vs) (cut ∙ h.whole) (tuple_of nodes i) child in
    let there = (h.taking.once.same (tuple_of nodes i)).0 seen in
    ⊎_elim
    (λ (e, none). absurd (none there))
    (λ (m, e). record { below = below; within = m; is = e })
    (h.taking.numbered i below)

-- the row over the numbers
pub taken_entry : (sig : Signature) (c : ℕ) (nodes : List Entry) (t : Taken) (vs : List Visit) (k : ℕ) (d : Entry) → AreNodes sig c nodes → IsVisiting nodes t (vs ++ Itself k ∷ []) → IsEntry sig c (node_presences t.dag) (over_states t.numbers.items (get_or nodes k d))
taken_entry sig c nodes t vs k d are h =
    let low = top_within nodes t vs (Itself k) h in
    let e = get_or nodes k d in
    let ns = t.numbers.items in
    let own = are k d low in
    let len : length (map (λ i. get_or ns i 0) e.kids) ≡ length e.kids = length-map e.kids (λ i. get_or ns i 0) in
    let at : (j : ℕ) → j < length e.kids → get_or (map (λ i. get_or ns i 0) e.kids) j 0 ≡ get_or ns (get_or e.kids j 0) 0 = λ j l. get_or-map (λ i. get_or ns i 0) e.kids j 0 0 l in
    let child : (j : ℕ) → j < length e.kids → IsChildNumber nodes t (get_or e.kids j 0) (get_or ns (get_or e.kids j 0) 0) = λ j l. child_number sig c nodes t vs k j d are h l in
    record {
      symbol = own.symbol;
      count = len ∙ own.count;
      within = λ j l. let m : j < length e.kids = omega arith in
          omega (arith, at j m, (child j m).within, length-tuples t.dag, length-map t.dag (λ (x : Entry). presence x.symbol));
      presence = λ j l. let m : j < length e.kids = omega arith in
          let i = get_or e.kids j 0 in
          let n = get_or ns i 0 in
          ap (λ p. get_or (node_presences t.dag) p 0) (at j m)
          ∙ (presence_at t.dag n (child j m).within
          ∙ (ap presence (child j m).is
          ∙ (sym (presence_at nodes i (omega (arith, length-tuples nodes, (child j m).below)))
          ∙ (front_presence nodes k i low (kid_place sig c nodes k j d are low m)
          ∙ own.presence j m))));
    }
  where
    presence_at : (es : List Entry) (i : ℕ) → i < length (tuples_of es) → get_or (node_presences es) i 0 ≡ presence (tuple_of es i)
    presence_at es i l = ap (λ (ps : List ℕ). get_or ps i 0) (sym (presences-nodes es)) ∙ get_or-map presence (tuples_of es) i [] 0 l

    front_presence : (es : List Entry) (k i : ℕ) → k < length es → i < k → get_or (node_presences es) i 0 ≡ get_or (node_presences (take k es)) i 0
    front_presence es k i l m =
        let f : Entry → ℕ = λ (x : Entry). presence x.symbol in
        get_or-map f es i d 0 (omega arith)
        ∙ (ap f (sym (get_or-take k es i d m)) ∙ sym (get_or-map f (take k es) i d 0 (omega (arith, length-take-le k es (omega arith)))))

pub taken_nodes : (sig : Signature) (c : ℕ) (nodes : List Entry) (t : Taken) (vs : List Visit) (k : ℕ) (d : Entry) → AreNodes sig c nodes → IsVisiting nodes t (vs ++ Itself k ∷ []) → AreNodes sig c (t.dag ++ over_states t.numbers.items (get_or nodes k d) ∷ [])
taken_nodes sig c nodes t vs k d are h =
    AreNodes-push sig c t.dag (over_states t.numbers.items (get_or nodes k d)) (h.taking.are sig c are) (taken_entry sig c nodes t vs k d are h)

-- its tuple is the node's
taken_tuple : (sig : Signature) (c : ℕ) (nodes : List Entry) (t : Taken) (vs : List Visit) (k : ℕ) (d : Entry) → AreNodes sig c nodes → IsVisiting nodes t (vs ++ Itself k ∷ [])
    → let row = over_states t.numbers.items (get_or nodes k d) in rebuilt row.symbol (picked (tuples_of t.dag) row.kids) ≡ tuple_of nodes k
taken_tuple sig c nodes t vs k d are h =
    let low = top_within nodes t vs (Itself k) h in
    let e = get_or nodes k d in
    let ns = t.numbers.items in
    let row = over_states ns e in
    let u = tuple_of nodes k in
    let new = picked (tuples_of t.dag) row.kids in
    let old = picked (tuples_of nodes) e.kids in
    let len : length row.kids ≡ length e.kids = length-map e.kids (λ i. get_or ns i 0) in
    let size : length new ≡ length row.kids = length-map row.kids (λ q. get_or (tuples_of t.dag) q []) in
    let before : length old ≡ length e.kids = length-map e.kids (λ q. get_or (tuples_of nodes) q []) in
    let same : new ≡ old = ext_get_or [] new old (omega arith) (λ j l. let m : j < length e.kids = omega arith in
    get_or-picked (tuples_of t.dag) row.kids j (omega arith)
    ∙ (ap (λ n. get_or (tuples_of t.dag) n []) (get_or-map (λ i. get_or ns i 0) e.kids j 0 0 m)
    ∙ ((child_number sig c nodes t vs k j d are h m).is ∙ sym (get_or-picked (tuples_of nodes) e.kids j m)))) in
    ap (rebuilt e.symbol) (same ∙ sym (kids-node sig c nodes k d are low))
    ∙ (ap (λ f. rebuilt f (kids u)) (sym (root-node sig c nodes k d are low)) ∙ rebuilt-kids u)

-- Result: the node was taken
pub taken_new : (sig : Signature) (c : ℕ) (nodes : List Entry) (t u : Taken) (vs : List Visit) (k m : ℕ) (d : Entry) → AreNodes sig c nodes → AreApart nodes → length nodes < 2 ^ 32 → IsVisiting nodes t (vs ++ Itself k ∷ []) → get_or t.numbers.items k 0 ≡ untaken
    → m ≡ length t.dag → u.dag ≡ t.dag ++ over_states t.numbers.items (get_or nodes k d) ∷ []
    → (let row = over_states t.numbers.items (get_or nodes k d) in tuples_of u.dag ≡ tuples_of t.dag ++ rebuilt row.symbol (picked (tuples_of t.dag) row.kids) ∷ [])
    → u.numbers.items ≡ slice_set t.numbers.items k m → IsVisiting nodes u vs
taken_new sig c nodes t u vs k m d are apart few h e em dag tuples numbers =
    let s = h.taking in
    let low = top_within nodes t vs (Itself k) h in
    let room = taken_few nodes t vs k h e in
    let ns = t.numbers.items in
    let row = over_states ns (get_or nodes k d) in
    let x = tuple_of nodes k in
    let ts = tuples_of t.dag in
    let inside : k < length ns = omega (arith, s.count) in
    let other : m ≡ untaken → ⊥ = λ b. omega (arith, few) in
    let grown : tuples_of u.dag ≡ ts ++ x ∷ [] = tuples ∙ ap (λ (y : Tuple). ts ++ y ∷ []) (taken_tuple sig c nodes t vs k d are h) in
    let fresh : Contains ts x → ⊥ = ⊎_elim (λ (b, none). none) (λ (l, b). absurd (omega (arith, few, length-tuples t.dag))) (s.numbered k low) in
    let at : (i : ℕ) → i < length nodes → IsNumber (ts ++ x ∷ []) (tuple_of nodes i) (get_or (slice_set ns k m) i 0) = λ i l.
    ⊎_elim
    (λ b. let value : get_or (slice_set ns k m) i 0 ≡ m = ap (λ n. get_or (slice_set ns k m) n 0) b ∙ get_or-set_same ns k m 0 inside in
    inr (omega (arith, value, length_push ts x, length-tuples t.dag), ap (λ n. get_or (ts ++ x ∷ []) n []) value ∙ (get_or_push ts x [] m (omega (arith, length-tuples t.dag)) ∙ ap (tuple_of nodes) (sym b))))
    (λ b. let value : get_or (slice_set ns k m) i 0 ≡ get_or ns i 0 = get_or-set_other ns k i m 0 b in
    ⊎_elim
    (λ (a, none). inl (value ∙ a, λ q. ⊎_elim none (λ same. b (apart i k l low (sym same))) (Contains-push_cases ts x (tuple_of nodes i) q)))
    (λ (a, same). inr (omega (arith, value, length_push ts x), ap (λ n. get_or (ts ++ x ∷ []) n []) value ∙ (get_or_append_left ts (x ∷ []) [] (get_or ns i 0) a ∙ same)))
    (s.numbered i l))
    (same_or_other i k) in
    rest_visiting nodes t u vs (Itself k) h (record {
      are = λ sig c are. subst (AreNodes sig c) (sym dag) (taken_nodes sig c nodes t vs k d are h);
      once = subst (λ (us : List Tuple). AreEachOnce (h.seen ++ x ∷ []) us) (sym grown) (AreEachOnce-new h.seen ts x s.once fresh);
      count = ap (λ (xs : List ℕ). length xs) numbers ∙ (length-set ns k m ∙ s.count);
      left = omega (arith, s.left, ap (λ (es : List Entry). length es) dag, length_push t.dag row, ap untaken_in numbers, untaken_set ns k m inside e other);
      numbered = λ i l. subst (λ (us : List Tuple). IsNumber us (tuple_of nodes i) (get_or u.numbers.items i 0)) (sym grown)
          (subst (λ (xs : List ℕ). IsNumber (ts ++ x ∷ []) (tuple_of nodes i) (get_or xs i 0)) (sym numbers) (at i l));
    })

-- the row that the code reads
pub row_within : (sig : Signature) (c : ℕ) (nodes : List Entry) (k j : ℕ) (e : Entry) → AreNodes sig c nodes → k < length nodes → slice_get nodes k ≡ Some e → j < length e.kids → get_or e.kids j 0 < k
row_within sig c nodes k j e are l at m =
    let F : Entry → Type 0 = λ x. j < length x.kids → get_or x.kids j 0 < k in
    subst F (at_get nodes k e e at) (kid_place sig c nodes k j e are l) m

pub row_is : (nodes : List Entry) (ns : List ℕ) (k : ℕ) (e row : Entry) → slice_get nodes k ≡ Some e → row ≡ over_states ns e → row ≡ over_states ns (get_or nodes k e)
row_is nodes ns k e row at is = is ∙ ap (over_states ns) (sym (at_get nodes k e e at))

pub taken_row : (sig : Signature) (c : ℕ) (nodes : List Entry) (t u : Taken) (vs : List Visit) (k m : ℕ) (e row : Entry) → AreNodes sig c nodes → AreApart nodes → length nodes < 2 ^ 32 → IsVisiting nodes t (vs ++ Itself k ∷ []) → get_or t.numbers.items k 0 ≡ untaken
    → slice_get nodes k ≡ Some e → row ≡ over_states t.numbers.items e → m ≡ length t.dag → u.dag ≡ t.dag ++ row ∷ []
    → tuples_of u.dag ≡ tuples_of t.dag ++ rebuilt row.symbol (picked (tuples_of t.dag) row.kids) ∷ [] → u.numbers.items ≡ slice_set t.numbers.items k m → IsVisiting nodes u vs
taken_row sig c nodes t u vs k m e row are apart few h b at is em dag tuples numbers =
    let same = row_is nodes t.numbers.items k e row at is in
    taken_new sig c nodes t u vs k m e are apart few h b em
    (dag ∙ ap (λ (r : Entry). t.dag ++ r ∷ []) same)
    (tuples ∙ ap (λ (r : Entry). tuples_of t.dag ++ rebuilt r.symbol (picked (tuples_of t.dag) r.kids) ∷ []) same) numbers
