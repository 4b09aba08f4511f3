-- A visit to the nodes that the last one needs: its start and end, a node that waits for its children, and one that was taken.
use Rattle.std.proofs.Common.{◌≡◌, ℕ, zero, suc, ◌+◌, ◌*◌, ◌-◌, ◌<◌, List, [], ◌∷◌, ◌++◌, append_assoc, length, length-append, take, get_or, replicate, refl, ap, sym, ◌∙◌, arith, subst, inl, ⊎_elim}
use Rattle.std.specs.Prelude.{Contains}
use Rattle.std.specs.List.{flat_map}
use Rattle.std.proofs.lemmas.Bool.{cases_lt}
use Rattle.std.proofs.lemmas.List.{append-nil, length_push, length-map, length-take-le, length-replicate, get_or_push, get_or_append_left, get_or_default, get_or-replicate}
use Rattle.std.proofs.lemmas.List.Elements.{Contains-get_or}
use Rattle.fort_theory.specs.Signatures.{Signature}
use Rattle.fort_theory.proofs.Lists.{Contains-map_from}
use Rattle.fort_theory.proofs.Members.{Contains-none, Contains-cons_cases}
use Rattle.fort_theory.specs.EachOnce.{AreEachOnce}
use Rattle.fort_theory.proofs.EachOnceLaws.{AreEachOnce-nil}
use Rattle.fort_tables.specs.Tuples.{Tuple, kids, presence}
use Rattle.fort_tables.specs.Entries.{Entry, AreNodes, no_entry, picked, tuples_of}
use Rattle.fort_tables.proofs.EntryLaws.{length-tuples_after}
use Rattle.fort_tables.proofs.EqualTests.{if_equal}
use Rattle.fort_tables.proofs.NodeLaws.{kids-node}
use Rattle.fort_tables.specs.TupleNodes.{tuples_in, AreNodesOf}
use Rattle.fort_witness.specs.declared.needed.Taken.{Taken}
use Rattle.fort_witness.specs.declared.needed.Visit.{Visit}
use Rattle.fort_witness.specs.declared.needed.Visit.TheVariants.{Whole, Itself}
use Rattle.fort_witness.specs.Answers.{last_tuple}
use Rattle.fort_witness.specs.Visiting.{untaken, tuple_of, node_of, tuples_at, tuples_ahead, work_at, work_ahead, wholes_of, untaken_in, IsTaking, IsVisiting}
use Rattle.fort_witness.proofs.TuplesInLaws.{tuples_in-step, all_in, AreEachOnce-there_all}

pub length-tuples : (nodes : List Entry) → length (tuples_of nodes) ≡ length nodes
length-tuples nodes = omega (arith, length-tuples_after [] nodes)

-- the children of a node's tuple are of nodes before it
pub kid_place : (sig : Signature) (n : ℕ) (nodes : List Entry) (k j : ℕ) (d : Entry) → AreNodes sig n nodes → k < length nodes → j < length (get_or nodes k d).kids → get_or (get_or nodes k d).kids j 0 < k
kid_place sig n nodes k j d are l m =
    omega (arith, (are k d l).within j m, length-map (take k nodes) (λ (e : Entry). presence e.symbol), length-take-le k nodes (omega arith))

children_there : (sig : Signature) (n : ℕ) (nodes : List Entry) → AreNodes sig n nodes → (x y : Tuple) → Contains (tuples_of nodes) x → Contains (kids x) y → Contains (tuples_of nodes) y
children_there sig n nodes are x y (k, l, e) c =
    let ts = tuples_of nodes in
    let d = no_entry 0 in
    let l2 : k < length nodes = omega (arith, length-tuples nodes) in
    let at : get_or ts k [] ≡ x = get_or_default ts k [] x l ∙ e in
    let ks = (get_or nodes k d).kids in
    let same : kids x ≡ picked ts ks = ap kids (sym at) ∙ kids-node sig n nodes k d are l2 in
    let p = Contains-map_from (λ q. get_or ts q []) ks y (subst (λ (us : List Tuple). Contains us y) same c) in
    let q = p.0 in
    let m : Contains ks q = p.1 in
    let low : q < k = subst (λ i. i < k) (get_or_default ks m.0 0 q m.1 ∙ m.2) (kid_place sig n nodes k m.0 d are l2 m.1) in
    subst (λ (u : Tuple). Contains ts u) p.2 (Contains-get_or ts q [] (omega (arith, length-tuples nodes)))

-- the visit on top
pub ahead_top : (nodes : List Entry) (vs : List Visit) (v : Visit) → tuples_ahead nodes (vs ++ v ∷ []) ≡ tuples_at nodes v ++ tuples_ahead nodes vs
ahead_top nodes [] v = sym (append-nil (tuples_at nodes v))
ahead_top nodes (w ∷ vs) v =
    ap (λ (us : List Tuple). us ++ tuples_at nodes w) (ahead_top nodes vs v) ∙ append_assoc (tuples_at nodes v) (tuples_ahead nodes vs) (tuples_at nodes w)

pub work_top : (nodes : List Entry) (vs : List Visit) (v : Visit) → work_ahead nodes (vs ++ v ∷ []) ≡ work_at nodes v + work_ahead nodes vs
work_top nodes [] v = omega arith
work_top nodes (w ∷ vs) v = omega (arith, work_top nodes vs v)

ahead_wholes : (nodes : List Entry) (vs : List Visit) (ks : List ℕ) → tuples_ahead nodes (vs ++ wholes_of ks) ≡ flat_map tuples_in (picked (tuples_of nodes) ks) ++ tuples_ahead nodes vs
ahead_wholes nodes vs [] = ap (tuples_ahead nodes) (append-nil vs)
ahead_wholes nodes vs (k ∷ ks) =
    let own = tuples_in (tuple_of nodes k) in
    ap (tuples_ahead nodes) (sym (append_assoc vs (wholes_of ks) (Whole k ∷ [])))
    ∙ (ahead_top nodes (vs ++ wholes_of ks) (Whole k)
    ∙ (ap (λ (us : List Tuple). own ++ us) (ahead_wholes nodes vs ks)
    ∙ sym (append_assoc own (flat_map tuples_in (picked (tuples_of nodes) ks)) (tuples_ahead nodes vs))))

work_wholes : (nodes : List Entry) (vs : List Visit) (ks : List ℕ) → work_ahead nodes (vs ++ wholes_of ks) ≡ 2 * length (flat_map tuples_in (picked (tuples_of nodes) ks)) + work_ahead nodes vs
work_wholes nodes vs [] = omega (arith, ap (work_ahead nodes) (append-nil vs))
work_wholes nodes vs (k ∷ ks) =
    let own = tuples_in (tuple_of nodes k) in
    let others = flat_map tuples_in (picked (tuples_of nodes) ks) in
    omega (arith, ap (work_ahead nodes) (sym (append_assoc vs (wholes_of ks) (Whole k ∷ []))), work_top nodes (vs ++ wholes_of ks) (Whole k), work_wholes nodes vs ks, length-append own others)

-- which nodes there are visits to
AreWithin : List Entry → List Visit → Type 0
AreWithin nodes vs = (i : ℕ) (d : Visit) → i < length vs → node_of (get_or vs i d) < length nodes

within_left : (nodes : List Entry) (vs ws : List Visit) → AreWithin nodes (vs ++ ws) → AreWithin nodes vs
unfolding AreWithin
within_left nodes vs ws h i d l = subst (λ (v : Visit). node_of v < length nodes) (get_or_append_left vs ws d i l) (h i d (omega (arith, length-append vs ws)))

within_push : (nodes : List Entry) (vs : List Visit) (v : Visit) → AreWithin nodes vs → node_of v < length nodes → AreWithin nodes (vs ++ v ∷ [])
unfolding AreWithin
within_push nodes vs v h k i d l =
    ⊎_elim
    (λ m. subst (λ (w : Visit). node_of w < length nodes) (sym (get_or_append_left vs (v ∷ []) d i m)) (h i d m))
    (λ m. subst (λ (w : Visit). node_of w < length nodes) (sym (get_or_push vs v d i (omega (arith, length_push vs v)))) k)
    (cases_lt i (length vs))

within_wholes : (nodes : List Entry) (vs : List Visit) (ks : List ℕ) → AreWithin nodes vs → ((j : ℕ) → j < length ks → get_or ks j 0 < length nodes) → AreWithin nodes (vs ++ wholes_of ks)
within_wholes nodes vs [] h m = subst (AreWithin nodes) (sym (append-nil vs)) h
within_wholes nodes vs (k ∷ ks) h m =
    subst (AreWithin nodes) (append_assoc vs (wholes_of ks) (Whole k ∷ []))
    (within_push nodes (vs ++ wholes_of ks) (Whole k) (within_wholes nodes vs ks h (λ j l. m (suc j) (omega arith))) (m 0 (omega arith)))

pub top_within : (nodes : List Entry) (t : Taken) (vs : List Visit) (v : Visit) → IsVisiting nodes t (vs ++ v ∷ []) → node_of v < length nodes
top_within nodes t vs v h =
    subst (λ (w : Visit). node_of w < length nodes) (get_or_push vs v v (length vs) refl) (h.within (length vs) v (omega (arith, length_push vs v)))

-- a top visit whose tuples are seen
pub rest_visiting : (nodes : List Entry) (t u : Taken) (vs : List Visit) (v : Visit) (h : IsVisiting nodes t (vs ++ v ∷ [])) → IsTaking nodes (h.seen ++ tuples_at nodes v) u → IsVisiting nodes u vs
unfolding AreWithin
rest_visiting nodes t u vs v h k = record {
  seen = h.seen ++ tuples_at nodes v;
  taking = k;
  whole = append_assoc h.seen (tuples_at nodes v) (tuples_ahead nodes vs) ∙ (ap (λ (us : List Tuple). h.seen ++ us) (sym (ahead_top nodes vs v)) ∙ h.whole);
  within = within_left nodes vs (v ∷ []) h.within;
}

-- a node that has a number was taken, and so were all that it needs
pub number_there : (nodes : List Entry) (seen : List Tuple) (t : Taken) (k : ℕ) → IsTaking nodes seen t → k < length nodes → (get_or t.numbers.items k 0 ≡ untaken → ⊥) → Contains (tuples_of t.dag) (tuple_of nodes k)
number_there nodes seen t k h l ne =
    ⊎_elim
    (λ (e, c). absurd (ne e))
    (λ (m, e). subst (λ (u : Tuple). Contains (tuples_of t.dag) u) e (Contains-get_or (tuples_of t.dag) (get_or t.numbers.items k 0) [] m))
    (h.numbered k l)

there_in : (sig : Signature) (n : ℕ) (nodes : List Entry) (seen : List Tuple) (t : Taken) (v : Visit) → AreNodes sig n nodes → IsTaking nodes seen t → Contains (tuples_of t.dag) (tuple_of nodes (node_of v)) → (x : Tuple) → Contains (tuples_at nodes v) x → Contains (tuples_of t.dag) x
there_in sig n nodes seen t (Whole k) are h c x d = all_in (tuples_of t.dag) (children_there sig n t.dag (h.are sig n are)) (tuple_of nodes k) c x d
there_in sig n nodes seen t (Itself k) are h c x d =
    ⊎_elim (λ e. subst (λ (u : Tuple). Contains (tuples_of t.dag) u) e c) (λ m. absurd (Contains-none x m)) (Contains-cons_cases (tuple_of nodes k) [] x d)

pub visit_taken : (sig : Signature) (n : ℕ) (nodes : List Entry) (t : Taken) (vs : List Visit) (v : Visit) → AreNodes sig n nodes → IsVisiting nodes t (vs ++ v ∷ []) → (get_or t.numbers.items (node_of v) 0 ≡ untaken → ⊥) → IsVisiting nodes t vs
visit_taken sig n nodes t vs v are h ne =
    let k = h.taking in
    let there = number_there nodes h.seen t (node_of v) k (top_within nodes t vs v h) ne in
    rest_visiting nodes t t vs v h (record {
      are = k.are;
      once = AreEachOnce-there_all h.seen (tuples_of t.dag) (tuples_at nodes v) k.once (there_in sig n nodes h.seen t v are k there);
      count = k.count;
      left = k.left;
      numbered = k.numbered;
    })

-- a node that waits for its children
pub visit_opened : (sig : Signature) (n : ℕ) (nodes : List Entry) (t : Taken) (vs : List Visit) (k : ℕ) (d : Entry) → AreNodes sig n nodes → IsVisiting nodes t (vs ++ Whole k ∷ []) → IsVisiting nodes t ((vs ++ Itself k ∷ []) ++ wholes_of (get_or nodes k d).kids)
unfolding AreWithin
visit_opened sig n nodes t vs k d are h =
    let ks = (get_or nodes k d).kids in
    let low = top_within nodes t vs (Whole k) h in
    let u = tuple_of nodes k in
    let below = flat_map tuples_in (kids u) in
    let rest = tuples_ahead nodes vs in
    let mid = vs ++ Itself k ∷ [] in
    let same : tuples_ahead nodes (mid ++ wholes_of ks) ≡ tuples_ahead nodes (vs ++ Whole k ∷ []) =
    ahead_wholes nodes mid ks
    ∙ (ap (λ (us : List Tuple). flat_map tuples_in us ++ tuples_ahead nodes mid) (sym (kids-node sig n nodes k d are low))
    ∙ (ap (λ (us : List Tuple). below ++ us) (ahead_top nodes vs (Itself k))
    ∙ (sym (append_assoc below (u ∷ []) rest)
    ∙ (ap (λ (us : List Tuple). us ++ rest) (sym (tuples_in-step u)) ∙ sym (ahead_top nodes vs (Whole k)))))) in
    record {
      seen = h.seen;
      taking = h.taking;
      whole = ap (λ (us : List Tuple). h.seen ++ us) same ∙ h.whole;
      within = within_wholes nodes mid ks (within_push nodes vs (Itself k) (within_left nodes vs (Whole k ∷ []) h.within) low)
          (λ j l. omega (arith, kid_place sig n nodes k j d are low l));
    }

pub opened_smaller : (sig : Signature) (n : ℕ) (nodes : List Entry) (vs : List Visit) (k : ℕ) (d : Entry) → AreNodes sig n nodes → k < length nodes → work_ahead nodes ((vs ++ Itself k ∷ []) ++ wholes_of (get_or nodes k d).kids) < work_ahead nodes (vs ++ Whole k ∷ [])
opened_smaller sig n nodes vs k d are low =
    let ks = (get_or nodes k d).kids in
    let u = tuple_of nodes k in
    let below = flat_map tuples_in (kids u) in
    let same : length (flat_map tuples_in (picked (tuples_of nodes) ks)) ≡ length below = ap (λ (us : List Tuple). length (flat_map tuples_in us)) (sym (kids-node sig n nodes k d are low)) in
    let whole : length (tuples_in u) ≡ length (below ++ u ∷ []) = ap (λ (us : List Tuple). length us) (tuples_in-step u) in
    omega (arith, work_wholes nodes (vs ++ Itself k ∷ []) ks, work_top nodes vs (Itself k), work_top nodes vs (Whole k), same, whole, length_push below u)

pub top_smaller : (nodes : List Entry) (vs : List Visit) (v : Visit) → work_ahead nodes vs < work_ahead nodes (vs ++ v ∷ [])
top_smaller nodes vs (Whole k) =
    let u = tuple_of nodes k in
    let below = flat_map tuples_in (kids u) in
    omega (arith, work_top nodes vs (Whole k), ap (λ (us : List Tuple). length us) (tuples_in-step u), length_push below u)
top_smaller nodes vs (Itself k) = omega (arith, work_top nodes vs (Itself k))

-- none taken
untaken_all : (n : ℕ) → untaken_in (replicate n untaken) ≡ n
untaken_all zero = refl
untaken_all (suc n) = omega (arith, if_equal {X = ℕ} untaken untaken 1 0 refl, untaken_all n)

pub visit_start : (nodes : List Entry) (t : Taken) (k : ℕ) → 0 < length nodes → t.dag ≡ [] → t.numbers.items ≡ replicate (length nodes) untaken → k ≡ length nodes - 1 → IsVisiting nodes t (Whole k ∷ [])
visit_start nodes t k some none numbers last =
    let empty : tuples_of t.dag ≡ [] = ap (λ (es : List Entry). tuples_of es) none in
    record {
      seen = [];
      taking = record {
        are = λ sig n h. subst (AreNodes sig n) (sym none) (λ j d l. absurd (omega arith));
        once = subst (λ (us : List Tuple). AreEachOnce [] us) (sym empty) AreEachOnce-nil;
        count = ap (λ (ns : List ℕ). length ns) numbers ∙ length-replicate (length nodes) untaken;
        left = omega (arith, ap (λ (es : List Entry). length es) none, ap untaken_in numbers, untaken_all (length nodes));
        numbered = λ i l. inl (
          ap (λ (ns : List ℕ). get_or ns i 0) numbers ∙ get_or-replicate (length nodes) i untaken 0 l,
          λ c. Contains-none (tuple_of nodes i) (subst (λ (us : List Tuple). Contains us (tuple_of nodes i)) empty c),
        );
      };
      whole = ap (λ i. tuples_in (tuple_of nodes i)) last;
      within = λ i d l. one i d (omega arith);
    }
  where
    one : (i : ℕ) (d : Visit) → i < 1 → node_of (get_or (Whole k ∷ []) i d) < length nodes
    one zero d l = omega arith
    one (suc i) d l = absurd (omega arith)

-- nothing is ahead
pub visit_end : (sig : Signature) (n : ℕ) (nodes : List Entry) (t : Taken) → AreNodes sig n nodes → IsVisiting nodes t [] → AreNodesOf sig n (last_tuple nodes) t.dag
visit_end sig n nodes t are h = record {
  are = h.taking.are sig n are;
  once = subst (λ (us : List Tuple). AreEachOnce us (tuples_of t.dag)) (sym (append-nil h.seen) ∙ h.whole) h.taking.once;
}
