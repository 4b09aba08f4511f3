-- Labels and their words that aren't zero.
use Rattle.std.proofs.Common.{◌≡◌, ℕ, zero, suc, ◌+◌, ◌-◌, ◌*◌, ◌<◌, ◌≤◌, List, [], ◌∷◌, ◌++◌, length, get_or, take, drop, set, refl, ap, sym, subst, ◌∙◌, arith, append_assoc, length-append, length-drop, length-take, ⊎_elim}
use Rattle.std.proofs.Math.ListN.{replicate, get_or-append}
use Rattle.std.proofs.Math.Seq.{drop-cons, set-append_seam, drop-append_seam, take-length, drop-length, get_or-append_seam, get_or-append_right}
use Rattle.std.proofs.lemmas.Bool.{cases_lt}
use Rattle.std.proofs.lemmas.List.{drop-append-le, take-append-le, get_or-take, get_or-drop, get_or_default, length-set, length-replicate}
use Rattle.fort_tables.specs.Tuples.{tabulate}
use Rattle.fort_tables.proofs.TupleLaws.{tabulate_same, length-tabulate}
use Rattle.fort_check_steps.specs.SparseWords.{places_from, words_of, scattered, start_of, piece, label_at, HasWords}
use Rattle.fort_check_steps.specs.SparseRowsView.{SparseLabels}
use Rattle.fort_check_steps.specs.SparseRowsInside.{AreSparse, sparse_labels}

-- the words one behind another, from the first on: what stands before them stays
pub scattered_words : (pre ws : List ℕ) (n i : ℕ) → n ≡ length ws → i ≡ length pre → scattered (pre ++ replicate n 0) (places_from i ws) (words_of ws) ≡ pre ++ ws
scattered_words pre [] zero i a b = refl
scattered_words pre [] (suc n) i a b = absurd (omega arith)
scattered_words pre (w ∷ ws) zero i a b = absurd (omega arith)
scattered_words pre (zero ∷ ws) (suc n) i a b =
    ap (λ xs. scattered xs (places_from (suc i) ws) (words_of ws)) (sym (append_assoc pre (0 ∷ []) (replicate n 0)))
    ∙ (scattered_words (pre ++ 0 ∷ []) ws n (suc i) (omega arith) (omega (arith, length-append pre (0 ∷ [])))
    ∙ append_assoc pre (0 ∷ []) ws)
scattered_words pre (suc w ∷ ws) (suc n) i a b =
    ap (λ k. scattered (set (pre ++ 0 ∷ replicate n 0) k (suc w)) (places_from (suc i) ws) (words_of ws)) b
    ∙ (ap (λ xs. scattered xs (places_from (suc i) ws) (words_of ws)) (set-append_seam pre 0 (replicate n 0) (suc w) ∙ sym (append_assoc pre (suc w ∷ []) (replicate n 0)))
    ∙ (scattered_words (pre ++ suc w ∷ []) ws n (suc i) (omega arith) (omega (arith, length-append pre (suc w ∷ [])))
    ∙ append_assoc pre (suc w ∷ []) ws))

pub scattered_label : (ws : List ℕ) (n : ℕ) → n ≡ length ws → scattered (replicate n 0) (places_from 0 ws) (words_of ws) ≡ ws
scattered_label ws n e = scattered_words [] ws n 0 e refl

length-scattered : (out ps ws : List ℕ) → length (scattered out ps ws) ≡ length out
length-scattered out [] ws = refl
length-scattered out (p ∷ ps) [] = refl
length-scattered out (p ∷ ps) (w ∷ ws) = length-scattered (set out p w) ps ws ∙ length-set out p w

-- one word more
pub places_zero : (i : ℕ) (ws : List ℕ) (w : ℕ) → w ≡ 0 → places_from i (ws ++ w ∷ []) ≡ places_from i ws
places_zero i [] zero e = refl
places_zero i [] (suc w) e = absurd (omega arith)
places_zero i (zero ∷ ws) w e = places_zero (suc i) ws w e
places_zero i (suc v ∷ ws) w e = ap (λ ps. i ∷ ps) (places_zero (suc i) ws w e)

pub words_zero : (ws : List ℕ) (w : ℕ) → w ≡ 0 → words_of (ws ++ w ∷ []) ≡ words_of ws
words_zero [] zero e = refl
words_zero [] (suc w) e = absurd (omega arith)
words_zero (zero ∷ ws) w e = words_zero ws w e
words_zero (suc v ∷ ws) w e = ap (λ us. suc v ∷ us) (words_zero ws w e)

pub places_more : (i : ℕ) (ws : List ℕ) (w k : ℕ) → (w ≡ 0 → ⊥) → k ≡ i + length ws → places_from i (ws ++ w ∷ []) ≡ places_from i ws ++ k ∷ []
places_more i [] zero k h e = absurd (h refl)
places_more i [] (suc w) k h e = let same : i ≡ k = omega arith in ap (λ p. p ∷ []) same
places_more i (zero ∷ ws) w k h e = places_more (suc i) ws w k h (omega arith)
places_more i (suc v ∷ ws) w k h e = ap (λ ps. i ∷ ps) (places_more (suc i) ws w k h (omega arith))

pub words_more : (ws : List ℕ) (w : ℕ) → (w ≡ 0 → ⊥) → words_of (ws ++ w ∷ []) ≡ words_of ws ++ w ∷ []
words_more [] zero h = absurd (h refl)
words_more [] (suc w) h = refl
words_more (zero ∷ ws) w h = words_more ws w h
words_more (suc v ∷ ws) w h = ap (λ us. suc v ∷ us) (words_more ws w h)

pub length_words : (i : ℕ) (ws : List ℕ) → length (places_from i ws) ≡ length (words_of ws)
length_words i [] = refl
length_words i (zero ∷ ws) = length_words (suc i) ws
length_words i (suc w ∷ ws) = ap suc (length_words (suc i) ws)

pub few_words : (i : ℕ) (ws : List ℕ) → length (places_from i ws) ≤ length ws
few_words i [] = omega arith
few_words i (zero ∷ ws) = omega (arith, few_words (suc i) ws)
few_words i (suc w ∷ ws) = omega (arith, few_words (suc i) ws)

pub places_low : (i : ℕ) (ws : List ℕ) (k : ℕ) → k < length (places_from i ws) → get_or (places_from i ws) k 0 < i + length ws
places_low i [] k l = absurd (omega arith)
places_low i (zero ∷ ws) k l = omega (arith, places_low (suc i) ws k l)
places_low i (suc w ∷ ws) zero l = omega arith
places_low i (suc w ∷ ws) (suc k) l = let m : k < length (places_from (suc i) ws) = omega arith in omega (arith, places_low (suc i) ws k m)

-- one turn of writing
pub scattered_turn : (out ps ws : List ℕ) (k : ℕ) → k < length ps → length ps ≡ length ws → scattered out (drop k ps) (drop k ws) ≡ scattered (set out (get_or ps k 0) (get_or ws k 0)) (drop (k + 1) ps) (drop (k + 1) ws)
scattered_turn out ps ws k l e =
    let next : suc k ≡ k + 1 = omega arith in
    (λ j. scattered out (drop-cons ps k 0 l j) (drop-cons ws k 0 (let m : k < length ws = omega arith in m) j))
    ∙ ap (λ i. scattered (set out (get_or ps k 0) (get_or ws k 0)) (drop i ps) (drop i ws)) next

pub scattered_end : (out ps ws : List ℕ) (k : ℕ) → k ≡ length ps → scattered out (drop k ps) (drop k ws) ≡ out
scattered_end out ps ws k e = ap (λ xs. scattered out xs (drop k ws)) (ap (λ i. drop i ps) e ∙ drop-length ps)

-- the words of a label in equal lists
pub same_words : {label other ps us ws vs : List ℕ} → HasWords label ps ws → label ≡ other → ps ≡ us → ws ≡ vs → HasWords other us vs
same_words h a b e = record {
  places_are = sym (ap (places_from 0) a) ∙ (h.places_are ∙ b);
  words_are = sym (ap words_of a) ∙ (h.words_are ∙ e);
}

-- labels one behind another
pub piece_kept : (from to : ℕ) (xs ys : List ℕ) → from ≤ to → to ≤ length xs → piece from to (xs ++ ys) ≡ piece from to xs
piece_kept from to xs ys a b =
    ap (λ zs. take (to - from) zs) (drop-append-le from xs ys (omega arith))
    ∙ take-append-le (to - from) (drop from xs) ys (omega (arith, length-drop from xs))

pub piece_new : (from to : ℕ) (xs ys : List ℕ) → from ≡ length xs → to ≡ length xs + length ys → piece from to (xs ++ ys) ≡ ys
piece_new from to xs ys a b =
    let n : to - from ≡ length ys = omega arith in
    (λ j. take (n j) (drop (a j) (xs ++ ys)))
    ∙ (ap (λ zs. take (length ys) zs) (drop-append_seam xs ys) ∙ take-length ys)

pub get_or-piece : (from to : ℕ) (xs : List ℕ) (k d : ℕ) → k < to - from → get_or (piece from to xs) k d ≡ get_or xs (from + k) d
get_or-piece from to xs k d l = get_or-take (to - from) (drop from xs) k d l ∙ get_or-drop from xs k d

pub length-piece : (from to : ℕ) (xs : List ℕ) → from ≤ to → to ≤ length xs → length (piece from to xs) ≡ to - from
length-piece from to xs a b = omega (arith, length-take (to - from) (drop from xs), length-drop from xs)

start_kept : (es : List ℕ) (e q : ℕ) → q ≤ length es → start_of (es ++ e ∷ []) q ≡ start_of es q
start_kept es e zero l = refl
start_kept es e (suc q) l = get_or-append es (e ∷ []) 0 q (omega arith)

tabulate_more : {A : Type 0} (n : ℕ) (f : ℕ → A) → tabulate (suc n) f ≡ tabulate n f ++ f n ∷ []
tabulate_more zero f = refl
tabulate_more (suc n) f = ap (λ xs. f 0 ∷ xs) (tabulate_more n (λ k. f (suc k)))

pub none_sparse : (w : ℕ) → AreSparse w [] [] []
none_sparse w = record {
  count = refl;
  placed = λ k l. absurd (omega arith);
  ordered = λ q l. absurd (omega arith);
  inside = λ q l. absurd (omega arith);
  last = refl;
  exact = λ q l. absurd (omega arith);
  few = omega arith;
}

piece_of_kept : (es : List ℕ) (e q : ℕ) (xs ys : List ℕ) → q < length es → start_of es q ≤ get_or es q 0 → get_or es q 0 ≤ length xs → piece (start_of (es ++ e ∷ []) q) (get_or (es ++ e ∷ []) q 0) (xs ++ ys) ≡ piece (start_of es q) (get_or es q 0) xs
piece_of_kept es e q xs ys l a b =
    let s : start_of (es ++ e ∷ []) q ≡ start_of es q = start_kept es e q (omega arith) in
    let t : get_or (es ++ e ∷ []) q 0 ≡ get_or es q 0 = get_or-append es (e ∷ []) 0 q l in
    (λ j. piece (s j) (t j) (xs ++ ys)) ∙ piece_kept (start_of es q) (get_or es q 0) xs ys a b

piece_of_new : (es : List ℕ) (e : ℕ) (xs ys : List ℕ) → start_of es (length es) ≡ length xs → e ≡ length xs + length ys → piece (start_of (es ++ e ∷ []) (length es)) (get_or (es ++ e ∷ []) (length es) 0) (xs ++ ys) ≡ ys
piece_of_new es e xs ys a b =
    let s : start_of (es ++ e ∷ []) (length es) ≡ length xs = start_kept es e (length es) (omega arith) ∙ a in
    let t : get_or (es ++ e ∷ []) (length es) 0 ≡ e = get_or-append_seam es e [] 0 in
    (λ j. piece (s j) (t j) (xs ++ ys)) ∙ piece_new (length xs) e xs ys refl b

places_kept : (w : ℕ) (es ps ws : List ℕ) (e : ℕ) (us : List ℕ) (q : ℕ) → AreSparse w es ps ws → q < length es → piece (start_of (es ++ e ∷ []) q) (get_or (es ++ e ∷ []) q 0) (ps ++ us) ≡ piece (start_of es q) (get_or es q 0) ps
places_kept w es ps ws e us q h l = piece_of_kept es e q ps us l (h.ordered q l) (h.inside q l)

words_kept : (w : ℕ) (es ps ws : List ℕ) (e : ℕ) (vs : List ℕ) (q : ℕ) → AreSparse w es ps ws → q < length es → piece (start_of (es ++ e ∷ []) q) (get_or (es ++ e ∷ []) q 0) (ws ++ vs) ≡ piece (start_of es q) (get_or es q 0) ws
words_kept w es ps ws e vs q h l = piece_of_kept es e q ws vs l (h.ordered q l) (omega (arith, h.inside q l, h.count))

label_kept : (w : ℕ) (es ps ws : List ℕ) (e : ℕ) (us vs : List ℕ) (q : ℕ) → AreSparse w es ps ws → q < length es → label_at w (es ++ e ∷ []) (ps ++ us) (ws ++ vs) q ≡ label_at w es ps ws q
label_kept w es ps ws e us vs q h l =
    let a = places_kept w es ps ws e us q h l in
    let b = words_kept w es ps ws e vs q h l in
    λ j. scattered (replicate w 0) (a j) (b j)

places_new : (w : ℕ) (es ps ws : List ℕ) (e : ℕ) (label : List ℕ) → AreSparse w es ps ws → e ≡ length ps + length (places_from 0 label) → piece (start_of (es ++ e ∷ []) (length es)) (get_or (es ++ e ∷ []) (length es) 0) (ps ++ places_from 0 label) ≡ places_from 0 label
places_new w es ps ws e label h end = piece_of_new es e ps (places_from 0 label) h.last end

words_new : (w : ℕ) (es ps ws : List ℕ) (e : ℕ) (label : List ℕ) → AreSparse w es ps ws → e ≡ length ps + length (places_from 0 label) → piece (start_of (es ++ e ∷ []) (length es)) (get_or (es ++ e ∷ []) (length es) 0) (ws ++ words_of label) ≡ words_of label
words_new w es ps ws e label h end = piece_of_new es e ws (words_of label) (h.last ∙ h.count) (omega (arith, end, h.count, length_words 0 label))

label_new : (w : ℕ) (es ps ws : List ℕ) (e : ℕ) (label : List ℕ) → AreSparse w es ps ws → length label ≡ w → e ≡ length ps + length (places_from 0 label) → label_at w (es ++ e ∷ []) (ps ++ places_from 0 label) (ws ++ words_of label) (length es) ≡ label
label_new w es ps ws e label h is end =
    let a = places_new w es ps ws e label h end in
    let b = words_new w es ps ws e label h end in
    (λ j. scattered (replicate w 0) (a j) (b j))
    ∙ scattered_label label w (sym is)

-- one label more
pub labels_more : (w : ℕ) (es ps ws : List ℕ) (e : ℕ) (label : List ℕ) → AreSparse w es ps ws → length label ≡ w → e ≡ length ps + length (places_from 0 label) → sparse_labels w (es ++ e ∷ []) (ps ++ places_from 0 label) (ws ++ words_of label) ≡ sparse_labels w es ps ws ++ label ∷ []
labels_more w es ps ws e label h is end =
    let us = ps ++ places_from 0 label in
    let vs = ws ++ words_of label in
    let fs = es ++ e ∷ [] in
    let n : length fs ≡ suc (length es) = omega (arith, length-append es (e ∷ [])) in
    let same = tabulate_same (length es) (label_at w fs us vs) (label_at w es ps ws) (λ q l. label_kept w es ps ws e (places_from 0 label) (words_of label) q h l) in
    let new = label_new w es ps ws e label h is end in
    ap (λ m. tabulate m (label_at w fs us vs)) n
    ∙ (tabulate_more (length es) (label_at w fs us vs)
    ∙ (λ j. same j ++ new j ∷ []))

pub sparse_more : (w : ℕ) (es ps ws : List ℕ) (e : ℕ) (label : List ℕ) → AreSparse w es ps ws → length label ≡ w → e ≡ length ps + length (places_from 0 label) → AreSparse w (es ++ e ∷ []) (ps ++ places_from 0 label) (ws ++ words_of label)
sparse_more w es ps ws e label h is end =
    let own = length-append ps (places_from 0 label) in
    let n = length-append es (e ∷ []) in
    let all : e ≡ length (ps ++ places_from 0 label) = omega (arith, own, end) in
    let m : length (es ++ e ∷ []) ≡ suc (length es) = omega (arith, n) in
    record {
      count = omega (arith, own, length-append ws (words_of label), h.count, length_words 0 label);
      placed = placed;
      ordered = ordered;
      inside = inside;
      last = ap (start_of (es ++ e ∷ [])) m ∙ (get_or-append_seam es e [] 0 ∙ all);
      exact = exact;
      few = few m own;
    }
  where
    placed : (k : ℕ) → k < length (ps ++ places_from 0 label) → get_or (ps ++ places_from 0 label) k 0 < w
    placed k l =
        ⊎_elim
        (λ (a : k < length ps). omega (arith, get_or-append ps (places_from 0 label) 0 k a, h.placed k a))
        (λ (a : length ps ≤ k).
        let b : k - length ps < length (places_from 0 label) = omega (arith, l, length-append ps (places_from 0 label)) in
        omega (arith, get_or-append_right ps (places_from 0 label) k 0 a, places_low 0 label (k - length ps) b, is))
        (cases_lt k (length ps))

    ordered : (q : ℕ) → q < length (es ++ e ∷ []) → start_of (es ++ e ∷ []) q ≤ get_or (es ++ e ∷ []) q 0
    ordered q l =
        ⊎_elim
        (λ (a : q < length es). omega (arith, start_kept es e q (omega arith), get_or-append es (e ∷ []) 0 q a, h.ordered q a))
        (λ (a : length es ≤ q).
        let b : q ≡ length es = omega (arith, l, length-append es (e ∷ [])) in
        omega (arith, ap (start_of (es ++ e ∷ [])) b, ap (λ i. get_or (es ++ e ∷ []) i 0) b, start_kept es e (length es) (omega arith), get_or-append_seam es e [] 0, h.last, end))
        (cases_lt q (length es))

    inside : (q : ℕ) → q < length (es ++ e ∷ []) → get_or (es ++ e ∷ []) q 0 ≤ length (ps ++ places_from 0 label)
    inside q l =
        ⊎_elim
        (λ (a : q < length es). omega (arith, get_or-append es (e ∷ []) 0 q a, h.inside q a, length-append ps (places_from 0 label)))
        (λ (a : length es ≤ q).
        let b : q ≡ length es = omega (arith, l, length-append es (e ∷ [])) in
        omega (arith, ap (λ i. get_or (es ++ e ∷ []) i 0) b, get_or-append_seam es e [] 0, length-append ps (places_from 0 label), end))
        (cases_lt q (length es))

    exact : (q : ℕ) → q < length (es ++ e ∷ []) → HasWords (label_at w (es ++ e ∷ []) (ps ++ places_from 0 label) (ws ++ words_of label) q) (piece (start_of (es ++ e ∷ []) q) (get_or (es ++ e ∷ []) q 0) (ps ++ places_from 0 label)) (piece (start_of (es ++ e ∷ []) q) (get_or (es ++ e ∷ []) q 0) (ws ++ words_of label))
    exact q l =
        let us = ps ++ places_from 0 label in
        let vs = ws ++ words_of label in
        let fs = es ++ e ∷ [] in
        let F : ℕ → Type 0 = λ i. HasWords (label_at w fs us vs i) (piece (start_of fs i) (get_or fs i 0) us) (piece (start_of fs i) (get_or fs i 0) vs) in
        let own : HasWords label (places_from 0 label) (words_of label) = record { places_are = refl; words_are = refl } in
        ⊎_elim
        (λ (a : q < length es). same_words (h.exact q a) (sym (label_kept w es ps ws e (places_from 0 label) (words_of label) q h a)) (sym (places_kept w es ps ws e (places_from 0 label) q h a)) (sym (words_kept w es ps ws e (words_of label) q h a)))
        (λ (a : length es ≤ q).
        let b : length es ≡ q = omega (arith, l, length-append es (e ∷ [])) in
        subst F b (same_words own (sym (label_new w es ps ws e label h is end)) (sym (places_new w es ps ws e label h end)) (sym (words_new w es ps ws e label h end))))
        (cases_lt q (length es))

    few : length (es ++ e ∷ []) ≡ suc (length es) → length (ps ++ places_from 0 label) ≡ length ps + length (places_from 0 label) → length (ps ++ places_from 0 label) ≤ length (es ++ e ∷ []) * w
    few m own = omega (arith, ap (λ i. i * w) m, own, h.few, few_words 0 label, is)

-- a label is the one with its words
pub label_with : (w : ℕ) (es ps ws label : List ℕ) (q : ℕ) → length label ≡ w → HasWords label (piece (start_of es q) (get_or es q 0) ps) (piece (start_of es q) (get_or es q 0) ws) → label_at w es ps ws q ≡ label
label_with w es ps ws label q is h =
    let a = sym h.places_are in
    let b = sym h.words_are in
    (λ j. scattered (replicate w 0) (a j) (b j)) ∙ scattered_label label w (sym is)

pub length-label_at : (w : ℕ) (es ps ws : List ℕ) (q : ℕ) → length (label_at w es ps ws q) ≡ w
length-label_at w es ps ws q = length-scattered (replicate w 0) (piece (start_of es q) (get_or es q 0) ps) (piece (start_of es q) (get_or es q 0) ws) ∙ length-replicate w 0

-- where its words stand
pub record IsPart (w : ℕ) (es ps ws : List ℕ) (q from to : ℕ) : Type 0 where
  pub within : q < length es
  pub first : from ≡ start_of es q
  pub end : to ≡ get_or es q 0
  pub ordered : from ≤ to
  pub inside : to ≤ length ps
  pub inside_words : to ≤ length ws

pub part_of : (w : ℕ) (es xs ps ws : List ℕ) (q from to : ℕ) → AreSparse w es ps ws → q < length es → xs ≡ es → from ≡ start_of xs q → to ≡ get_or es q to → IsPart w es ps ws q from to
part_of w es xs ps ws q from to h l same a b =
    let first : from ≡ start_of es q = a ∙ ap (λ ys. start_of ys q) same in
    let end : to ≡ get_or es q 0 = b ∙ get_or_default es q to 0 l in
    record {
      within = l;
      first = first;
      end = end;
      ordered = omega (arith, first, end, h.ordered q l);
      inside = omega (arith, end, h.inside q l);
      inside_words = omega (arith, end, h.inside q l, h.count);
    }

-- a label that is there
pub there : (w room most space : ℕ) (es ps ws : List ℕ) (l : SparseLabels) (q : ℕ) → record { width = w; room = room; most = most; space = space; labels = sparse_labels w es ps ws } ≡ l → q < length l.labels → q < length es
there w room most space es ps ws l q e h = omega (arith, length-tabulate (length es) (label_at w es ps ws), ap (λ (r : SparseLabels). length r.labels) e, h)
