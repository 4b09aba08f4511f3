use Rattle.std.proofs.Math.Seq.{take-length}
use Rattle.std.proofs.Common.{◌≡◌, ◌+◌, ◌<◌, ◌≤◌, ◌++◌, ◌∷◌, [], ℕ, List, refl, vec_capacity, take, length, get_or, vec_len, ap, sym, ◌∙◌, arith, append_assoc}
use Rattle.std.proofs.lemmas.List.{take_more, length-take-le}
use Rattle.fort_check_steps.specs.SparseWords.{places_from, words_of}
use Rattle.fort_check_steps.proofs.SparseLaws.{places_zero, places_more, words_zero, words_more}
use Rattle.fort_check_steps.proofs.sparse_rows.put_words.Goals as goal
use Rattle.fort_check_steps.proofs.sparse_rows.put_words.Goals.{then-word-ne0, else-word-ne0}

-- the words up to this one
front : (label : List ℕ) (k w : ℕ) → k < length label → w ≡ get_or label k 0 → take (k + 1) label ≡ take k label ++ w ∷ []
front label k w l e = take_more label k 0 l ∙ ap (λ v. take k label ++ v ∷ []) (sym e)

new_places : (label ps qs rs : List ℕ) (k w : ℕ) → k < length label → w ≡ get_or label k 0 → (w ≡ 0 → ⊥) → qs ≡ ps ++ places_from 0 (take k label) → rs ≡ qs ++ k ∷ [] → rs ≡ ps ++ places_from 0 (take (k + 1) label)
new_places label ps qs rs k w l e h a b =
    b ∙ (ap (λ xs. xs ++ k ∷ []) a ∙ (append_assoc ps (places_from 0 (take k label)) (k ∷ [])
    ∙ ap (λ xs. ps ++ xs) (sym (ap (places_from 0) (front label k w l e) ∙ places_more 0 (take k label) w k h (let m : k ≤ length label = omega arith in omega (arith, length-take-le k label m))))))

new_words : (label ps qs rs : List ℕ) (k w : ℕ) → k < length label → w ≡ get_or label k 0 → (w ≡ 0 → ⊥) → qs ≡ ps ++ words_of (take k label) → rs ≡ qs ++ w ∷ [] → rs ≡ ps ++ words_of (take (k + 1) label)
new_words label ps qs rs k w l e h a b =
    b ∙ (ap (λ xs. xs ++ w ∷ []) a ∙ (append_assoc ps (words_of (take k label)) (w ∷ [])
    ∙ ap (λ xs. ps ++ xs) (sym (ap words_of (front label k w l e) ∙ words_more (take k label) w h))))

same_places : (label ps qs : List ℕ) (k w : ℕ) → k < length label → w ≡ get_or label k 0 → w ≡ 0 → qs ≡ ps ++ places_from 0 (take k label) → qs ≡ ps ++ places_from 0 (take (k + 1) label)
same_places label ps qs k w l e z a = a ∙ ap (λ xs. ps ++ xs) (sym (ap (places_from 0) (front label k w l e) ∙ places_zero 0 (take k label) w z))

same_words : (label ps qs : List ℕ) (k w : ℕ) → k < length label → w ≡ get_or label k 0 → w ≡ 0 → qs ≡ ps ++ words_of (take k label) → qs ≡ ps ++ words_of (take (k + 1) label)
same_words label ps qs k w l e z a = a ∙ ap (λ xs. ps ++ xs) (sym (ap words_of (front label k w l e) ∙ words_zero (take k label) w z))

pub loop-place-preserved : goal.loop-place-preserved
loop-place-preserved c =
    let label = c.args.label.now in
    let k = c.loop-place.place in
    let i = c.loop-place.invariant in
    elim c.if-word-ne0.branch [
      | then-word-ne0 w ↦ record {
        places = ap (λ v. v.items) w.places-is ∙ new_places label c.args.places.now.items c.loop-place.places.items w.push_reserved.new.self.items k (get_or label k 0) (omega arith) refl w.if-word-ne0.true i.places w.push_reserved.ensures.items;
        words = ap (λ v. v.items) w.words-is ∙ new_words label c.args.words.now.items c.loop-place.words.items w.push_reserved-then-word-ne0.new.self.items k (get_or label k 0) (omega arith) refl w.if-word-ne0.true i.words w.push_reserved-then-word-ne0.ensures.items;
        few_places = omega (arith, ap vec_len w.places-is, w.push_reserved.ensures.len, i.few_places);
        few_words = omega (arith, ap vec_len w.words-is, w.push_reserved-then-word-ne0.ensures.len, i.few_words);
        places_room = ap vec_capacity w.places-is ∙ (w.push_reserved.ensures.capacity ∙ i.places_room);
        words_room = ap vec_capacity w.words-is ∙ (w.push_reserved-then-word-ne0.ensures.capacity ∙ i.words_room);
      }
      | else-word-ne0 w ↦ record {
        places = ap (λ v. v.items) w.places-is ∙ same_places label c.args.places.now.items c.loop-place.places.items k (get_or label k 0) (omega arith) refl w.if-word-ne0.false i.places;
        words = ap (λ v. v.items) w.words-is ∙ same_words label c.args.words.now.items c.loop-place.words.items k (get_or label k 0) (omega arith) refl w.if-word-ne0.false i.words;
        few_places = omega (arith, ap vec_len w.places-is, i.few_places);
        few_words = omega (arith, ap vec_len w.words-is, i.few_words);
        places_room = ap vec_capacity w.places-is ∙ i.places_room;
        words_room = ap vec_capacity w.words-is ∙ i.words_room;
      }
    ]

pub returns-clause-places : goal.returns-clause-places
returns-clause-places c =
    let all : c.loop-place.place ≡ length c.args.label.now = omega arith in
    c.loop-place.invariant.places ∙ ap (λ xs. c.args.places.now.items ++ places_from 0 xs) (ap (λ n. take n c.args.label.now) all ∙ take-length c.args.label.now)

pub returns-clause-words : goal.returns-clause-words
returns-clause-words c =
    let all : c.loop-place.place ≡ length c.args.label.now = omega arith in
    c.loop-place.invariant.words ∙ ap (λ xs. c.args.words.now.items ++ words_of xs) (ap (λ n. take n c.args.label.now) all ∙ take-length c.args.label.now)
