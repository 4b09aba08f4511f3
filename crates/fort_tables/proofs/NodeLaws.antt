-- Tuples as nodes, each over earlier ones: a node's tuple has the node's symbol at its root, and earlier tuples as its children.
use Rattle.std.proofs.Common.{◌≡◌, ℕ, zero, suc, ◌+◌, ◌<◌, ◌≤◌, List, [], ◌∷◌, ◌++◌, map, length, take, get_or, refl, ap, sym, ◌∙◌, arith, subst, ⊎_elim}
use Rattle.std.proofs.lemmas.Bool.{cases_lt}
use Rattle.std.proofs.lemmas.List.{length_push, get_or_push, get_or_append_left, map-append, take-append-le, length-map, append-nil, append_assoc}
use Rattle.std.proofs.Math.Seq.{take-length}
use Rattle.fort_theory.specs.Signatures.{Signature}
use Rattle.fort_tables.specs.Tuples.{Tuple, TupleSymbol, root, kids, rebuilt, presence}
use Rattle.fort_tables.specs.Entries.{Entry, IsEntry, AreNodes, AreTuples, node_presences, picked, tuples_after, tuples_of}
use Rattle.fort_tables.proofs.TupleLaws.{root-rebuilt, kids-rebuilt}
use Rattle.fort_tables.proofs.TableLaws.{presence_root}
use Rattle.fort_tables.proofs.EntryLaws.{entry_kids, IsTuple-entry, AreTuples-push}

presence-rebuilt : (f : TupleSymbol) (us : List Tuple) → presence (rebuilt f us) ≡ presence f
presence-rebuilt f us = sym (presence_root (rebuilt f us)) ∙ ap presence (root-rebuilt f us)

-- the presences up to a node
one_more : (ts : List Tuple) (e : Entry) (ps : List ℕ) → map presence (ts ++ rebuilt e.symbol (picked ts e.kids) ∷ []) ++ ps ≡ map presence ts ++ presence e.symbol ∷ ps
one_more ts e ps =
    let t : Tuple = rebuilt e.symbol (picked ts e.kids) in
    ap (λ xs. xs ++ ps) (map-append presence ts (t ∷ []))
    ∙ (append_assoc (map presence ts) (presence t ∷ []) ps
    ∙ ap (λ n. map presence ts ++ n ∷ ps) (presence-rebuilt e.symbol (picked ts e.kids)))

presences_after : (ts : List Tuple) (es : List Entry) → map presence (tuples_after ts es) ≡ map presence ts ++ node_presences es
presences_after ts [] = sym (append-nil (map presence ts))
presences_after ts (e ∷ es) = presences_after (ts ++ rebuilt e.symbol (picked ts e.kids) ∷ []) es ∙ one_more ts e (node_presences es)

-- the presences of the tuples of nodes are the nodes'
pub presences-nodes : (es : List Entry) → map presence (tuples_of es) ≡ node_presences es
presences-nodes es = presences_after [] es

take_left : (fs : List Entry) (e : Entry) (k : ℕ) → k ≤ length fs → take k (fs ++ e ∷ []) ≡ take k fs
take_left fs e k l = take-append-le k fs (e ∷ []) l

take_whole : (fs : List Entry) (e : Entry) (k : ℕ) → length fs ≡ k → take k (fs ++ e ∷ []) ≡ fs
take_whole fs e k h = take-append-le k fs (e ∷ []) (omega arith) ∙ (ap (λ i. take i fs) (sym h) ∙ take-length fs)

-- one more node
pub AreNodes-push : (sig : Signature) (n : ℕ) (fs : List Entry) (e : Entry) → AreNodes sig n fs → IsEntry sig n (node_presences fs) e → AreNodes sig n (fs ++ e ∷ [])
AreNodes-push sig n fs e h k i d l =
    ⊎_elim
    (λ m.
    let a : take i (fs ++ e ∷ []) ≡ take i fs = take_left fs e i (omega arith) in
    let b : get_or (fs ++ e ∷ []) i d ≡ get_or fs i d = get_or_append_left fs (e ∷ []) d i m in
    subst (λ (xs : List Entry). IsEntry sig n (node_presences xs) (get_or (fs ++ e ∷ []) i d)) (sym a) (subst (IsEntry sig n (node_presences (take i fs))) (sym b) (h i d m)))
    (λ m.
    let at : length fs ≡ i = omega (arith, length_push fs e) in
    let a : take i (fs ++ e ∷ []) ≡ fs = take_whole fs e i at in
    let b : get_or (fs ++ e ∷ []) i d ≡ e = get_or_push fs e d i at in
    subst (λ (xs : List Entry). IsEntry sig n (node_presences xs) (get_or (fs ++ e ∷ []) i d)) (sym a) (subst (IsEntry sig n (node_presences fs)) (sym b) k))
    (cases_lt i (length fs))

-- entries over the tuples so far and the nodes before
AreNodesAfter : Signature → ℕ → List Tuple → List Entry → Type 0
AreNodesAfter sig n ts es = (k : ℕ) (d : Entry) → k < length es → IsEntry sig n (map presence ts ++ node_presences (take k es)) (get_or es k d)

first_after : (sig : Signature) (n : ℕ) (ts : List Tuple) (e : Entry) (es : List Entry) → AreNodesAfter sig n ts (e ∷ es) → IsEntry sig n (map presence ts) e
unfolding AreNodesAfter
first_after sig n ts e es h = subst (λ (ps : List ℕ). IsEntry sig n ps e) (append-nil (map presence ts)) (h 0 e (omega arith))

rest_after : (sig : Signature) (n : ℕ) (ts : List Tuple) (e : Entry) (es : List Entry) → AreNodesAfter sig n ts (e ∷ es) → AreNodesAfter sig n (ts ++ rebuilt e.symbol (picked ts e.kids) ∷ []) es
unfolding AreNodesAfter
rest_after sig n ts e es h k d l = subst (λ (ps : List ℕ). IsEntry sig n ps (get_or es k d)) (sym (one_more ts e (node_presences (take k es)))) (h (suc k) d (omega arith))

tuples_are : (sig : Signature) (n : ℕ) (ts : List Tuple) (es : List Entry) → AreTuples sig n ts → AreNodesAfter sig n ts es → AreTuples sig n (tuples_after ts es)
tuples_are sig n ts [] a h = a
tuples_are sig n ts (e ∷ es) a h =
    let t : Tuple = rebuilt e.symbol (picked ts e.kids) in
    tuples_are sig n (ts ++ t ∷ []) es (AreTuples-push sig n ts t a (IsTuple-entry sig n ts e a (first_after sig n ts e es h))) (rest_after sig n ts e es h)

after_none : (sig : Signature) (n : ℕ) (es : List Entry) → AreNodes sig n es → AreNodesAfter sig n [] es
unfolding AreNodesAfter
after_none sig n es h = h

-- Result: the tuples of nodes are optional tuples
pub AreTuples-nodes : (sig : Signature) (n : ℕ) (es : List Entry) → AreNodes sig n es → AreTuples sig n (tuples_of es)
AreTuples-nodes sig n es h = tuples_are sig n [] es (λ j l. absurd (omega arith)) (after_none sig n es h)

-- later tuples leave the earlier ones
earlier_stays : (ts : List Tuple) (es : List Entry) (j : ℕ) → j < length ts → get_or (tuples_after ts es) j [] ≡ get_or ts j []
earlier_stays ts [] j l = refl
earlier_stays ts (e ∷ es) j l =
    let t : Tuple = rebuilt e.symbol (picked ts e.kids) in
    earlier_stays (ts ++ t ∷ []) es j (omega (arith, length_push ts t)) ∙ get_or_append_left ts (t ∷ []) [] j l

picked_same : (ts us : List Tuple) (qs : List ℕ) → ((j : ℕ) → j < length qs → get_or us (get_or qs j 0) [] ≡ get_or ts (get_or qs j 0) []) → picked us qs ≡ picked ts qs
picked_same ts us [] h = refl
picked_same ts us (q ∷ qs) h =
    ap (λ t. t ∷ picked us qs) (h 0 (omega arith)) ∙ ap (λ vs. get_or ts q [] ∷ vs) (picked_same ts us qs (λ j l. h (suc j) (omega arith)))

-- a node's tuple, with the tuples of its numbers
record IsNodeTuple (sig : Signature) (all : List Tuple) (e : Entry) (t : Tuple) : Type 0 where
  root_is : root t ≡ e.symbol
  kids_are : kids t ≡ picked all e.kids

node_tuple : (sig : Signature) (n : ℕ) (ts : List Tuple) (es : List Entry) (k : ℕ) (d : Entry) → AreTuples sig n ts → AreNodesAfter sig n ts es → k < length es → IsNodeTuple sig (tuples_after ts es) (get_or es k d) (get_or (tuples_after ts es) (length ts + k) [])
node_tuple sig n ts [] k d a h l = absurd (omega arith)
node_tuple sig n ts (e ∷ es) zero d a h l =
    let t : Tuple = rebuilt e.symbol (picked ts e.kids) in
    let all = tuples_after (ts ++ t ∷ []) es in
    let entry = first_after sig n ts e es h in
    let at : length ts + 0 ≡ length ts = omega arith in
    let here : get_or all (length ts + 0) [] ≡ t =
    ap (λ i. get_or all i []) at ∙ (earlier_stays (ts ++ t ∷ []) es (length ts) (omega (arith, length_push ts t)) ∙ get_or_push ts t [] (length ts) refl) in
    let same : picked all e.kids ≡ picked ts e.kids = picked_same ts all e.kids
    (λ j m. let b : get_or e.kids j 0 < length ts = omega (arith, entry.within j m, length-map ts presence) in earlier_stays ts (e ∷ es) (get_or e.kids j 0) b) in
    subst (IsNodeTuple sig all e) (sym here) (record {
      root_is = root-rebuilt e.symbol (picked ts e.kids);
      kids_are = kids-rebuilt sig e.symbol (picked ts e.kids) (entry_kids sig n ts e a entry) ∙ sym same;
    })
node_tuple sig n ts (e ∷ es) (suc k) d a h l =
    let t : Tuple = rebuilt e.symbol (picked ts e.kids) in
    let at : length (ts ++ t ∷ []) + k ≡ length ts + suc k = omega (arith, length_push ts t) in
    subst (λ (i : ℕ). IsNodeTuple sig (tuples_after (ts ++ t ∷ []) es) (get_or es k d) (get_or (tuples_after (ts ++ t ∷ []) es) i [])) at
    (node_tuple sig n (ts ++ t ∷ []) es k d (AreTuples-push sig n ts t a (IsTuple-entry sig n ts e a (first_after sig n ts e es h))) (rest_after sig n ts e es h) (omega arith))

node_at : (sig : Signature) (n : ℕ) (es : List Entry) (k : ℕ) (d : Entry) → AreNodes sig n es → k < length es → IsNodeTuple sig (tuples_of es) (get_or es k d) (get_or (tuples_of es) k [])
node_at sig n es k d h l =
    let at : length (let ts : List Tuple = [] in ts) + k ≡ k = omega arith in
    subst (λ (i : ℕ). IsNodeTuple sig (tuples_of es) (get_or es k d) (get_or (tuples_of es) i [])) at (node_tuple sig n [] es k d (λ j m. absurd (omega arith)) (after_none sig n es h) l)

-- Result: the tuple of a node has the node's symbol at its root, and the tuples of the node's numbers as its children
pub root-node : (sig : Signature) (n : ℕ) (es : List Entry) (k : ℕ) (d : Entry) → AreNodes sig n es → k < length es → root (get_or (tuples_of es) k []) ≡ (get_or es k d).symbol
root-node sig n es k d h l = (node_at sig n es k d h l).root_is

pub kids-node : (sig : Signature) (n : ℕ) (es : List Entry) (k : ℕ) (d : Entry) → AreNodes sig n es → k < length es → kids (get_or (tuples_of es) k []) ≡ picked (tuples_of es) (get_or es k d).kids
kids-node sig n es k d h l = (node_at sig n es k d h l).kids_are
