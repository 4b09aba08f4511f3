-- What the exploration knows, and how it grows.
use Rattle.std.proofs.Common.{◌≡◌, ℕ, suc, ◌<◌, ◌≤◌, List, [], ◌∷◌, ◌++◌, map, length, get_or, refl, ap, sym, ◌∙◌, arith, subst, ⊎_elim}
use Rattle.std.proofs.lemmas.Bool.{cases_lt}
use Rattle.std.proofs.lemmas.List.{length-map, get_or-map, ext_get_or, map-append, length_push, get_or_push, get_or_append_left}
use Rattle.fort_theory.specs.Signatures.{Signature}
use Rattle.fort_tables.specs.Tuples.{Tuple, rebuilt, presence}
use Rattle.fort_tables.specs.Entries.{Entry, IsEntry, tuples_of, picked, AreTuples}
use Rattle.fort_tables.proofs.EntryLaws.{tuples_after-push, length-tuples_after, entry_kids, IsTuple-entry, AreTuples-push}
use Rattle.fort_tables.proofs.FoldLaws.{GivesLabel-rebuilt}
use Rattle.fort_tables.specs.Labels.{Labelling, first_word, TellsPresence, AreApart, AreLabels, GivesLabel, HasMoreLabels}
use Rattle.fort_explore.specs.Exploring.{ListsEntries, IsLabelTarget, IsKnown, IsExplored}
use Rattle.fort_explore.proofs.StateLaws.{HasStatesByLabel, states_by_label}
use Rattle.fort_explore.proofs.CountLaws.{no_more_labels}

pub length_known : (sig : Signature) (n : ℕ) (label : Labelling) (fs : List Entry) (labels : List (List ℕ)) → IsKnown sig n label fs labels → (length labels ≡ length (tuples_of fs)) × (length labels ≡ length fs)
length_known sig n label fs labels k =
    let e : length labels ≡ length (tuples_of fs) = ap length k.are ∙ length-map (tuples_of fs) label in
    (e, omega (arith, length-tuples_after [] fs))

pub label_at : (sig : Signature) (n : ℕ) (label : Labelling) (fs : List Entry) (labels : List (List ℕ)) → IsKnown sig n label fs labels → (q : ℕ) → q < length labels → get_or labels q [] ≡ label (get_or (tuples_of fs) q [])
label_at sig n label fs labels k q l =
    ap (λ rs. get_or rs q []) k.are ∙ get_or-map label (tuples_of fs) q [] [] (omega (arith, (length_known sig n label fs labels k).0))

pub known_labels : (sig : Signature) (n : ℕ) (label : Labelling) (fs : List Entry) (labels : List (List ℕ)) → IsKnown sig n label fs labels → AreLabels sig n label labels
known_labels sig n label fs labels k q l = (get_or (tuples_of fs) q [], k.tuples q (omega (arith, (length_known sig n label fs labels k).0)), sym (label_at sig n label fs labels k q l))

-- the first words of the labels are the presences of the tuples
pub known_presences : (sig : Signature) (n : ℕ) (label : Labelling) (fs : List Entry) (labels : List (List ℕ)) → TellsPresence sig n label → IsKnown sig n label fs labels → map first_word labels ≡ map presence (tuples_of fs)
known_presences sig n label fs labels tells k =
    let len = (length_known sig n label fs labels k).0 in
    ext_get_or 0 (map first_word labels) (map presence (tuples_of fs)) (length-map labels first_word ∙ (len ∙ sym (length-map (tuples_of fs) presence)))
    (λ i l. let m : i < length labels = omega (arith, length-map labels first_word) in
    get_or-map first_word labels i [] 0 m
    ∙ (ap first_word (label_at sig n label fs labels k i m)
    ∙ (tells (get_or (tuples_of fs) i []) (k.tuples i (omega arith))
    ∙ sym (get_or-map presence (tuples_of fs) i [] 0 (omega arith)))))

-- the labels of the picked tuples are the picked labels
pub picked_labels : (sig : Signature) (n : ℕ) (label : Labelling) (fs : List Entry) (labels : List (List ℕ)) → IsKnown sig n label fs labels → (ks : List ℕ) → ((j : ℕ) → j < length ks → get_or ks j 0 < length labels) → map label (picked (tuples_of fs) ks) ≡ map (λ q. get_or labels q []) ks
picked_labels sig n label fs labels k [] h = refl
picked_labels sig n label fs labels k (q ∷ qs) h =
    let e = sym (label_at sig n label fs labels k q (h 0 (omega arith))) in
    let r = picked_labels sig n label fs labels k qs (λ j l. h (suc j) (omega arith)) in
    ap (λ w. w ∷ map label (picked (tuples_of fs) qs)) e ∙ ap (λ ws. get_or labels q [] ∷ ws) r

apart_push : (label : Labelling) (ts : List Tuple) (t : Tuple) → AreApart label ts → ((q : ℕ) → q < length ts → label (get_or ts q []) ≡ label t → ⊥) → AreApart label (ts ++ t ∷ [])
apart_push label ts t a h i j l m =
    let len = length_push ts t in
    let left : (k : ℕ) → k < length ts → get_or (ts ++ t ∷ []) k [] ≡ get_or ts k [] = λ k b. get_or_append_left ts (t ∷ []) [] k b in
    let last : (k : ℕ) → length ts ≡ k → get_or (ts ++ t ∷ []) k [] ≡ t = λ k b. get_or_push ts t [] k b in
    ⊎_elim
    (λ b. ⊎_elim
    (λ c e. a i j b c (ap label (sym (left i b)) ∙ (e ∙ ap label (left j c))))
    (λ c e. absurd (h i b (ap label (sym (left i b)) ∙ (e ∙ ap label (last j (omega arith))))))
    (cases_lt j (length ts)))
    (λ b. ⊎_elim
    (λ c e. absurd (h j c (ap label (sym (left j c)) ∙ (sym e ∙ ap label (last i (omega arith))))))
    (λ c e. omega arith)
    (cases_lt j (length ts)))
    (cases_lt i (length ts))

pub known_push : (sig : Signature) (n : ℕ) (label : Labelling) (fs : List Entry) (labels : List (List ℕ)) (e : Entry) (out : List ℕ) → TellsPresence sig n label → IsKnown sig n label fs labels → IsEntry sig n (map first_word labels) e → GivesLabel sig n label labels e out → ((q : ℕ) → q < length labels → get_or labels q [] ≡ out → ⊥) → IsKnown sig n label (fs ++ e ∷ []) (labels ++ out ∷ [])
known_push sig n label fs labels e out tells k h gives new =
    let ts = tuples_of fs in
    let len = (length_known sig n label fs labels k).0 in
    let t : Tuple = rebuilt e.symbol (picked ts e.kids) in
    let entry : IsEntry sig n (map presence ts) e = subst (λ (ps : List ℕ). IsEntry sig n ps e) (known_presences sig n label fs labels tells k) h in
    let is : label t ≡ out = GivesLabel-rebuilt sig n label labels e out gives entry.symbol (picked ts e.kids) (entry_kids sig n ts e k.tuples entry) (picked_labels sig n label fs labels k e.kids (λ j l. omega (arith, h.within j l, length-map labels first_word))) in
    let grown : tuples_of (fs ++ e ∷ []) ≡ ts ++ t ∷ [] = tuples_after-push [] fs e in
    record {
      are = ap (λ rs. rs ++ out ∷ []) k.are ∙ (ap (λ w. map label ts ++ w ∷ []) (sym is) ∙ (sym (map-append label ts (t ∷ [])) ∙ ap (map label) (sym grown)));
      tuples = subst (AreTuples sig n) (sym grown) (AreTuples-push sig n ts t k.tuples (IsTuple-entry sig n ts e k.tuples entry));
      apart = subst (AreApart label) (sym grown) (apart_push label ts t k.apart (λ q l e. new q (omega arith) (label_at sig n label fs labels k q (omega arith) ∙ (e ∙ is))));
    }

pub known_closed : (sig : Signature) (n : ℕ) (label : Labelling) (fs : List Entry) (labels : List (List ℕ)) (es : List Entry) (qs : List ℕ) → TellsPresence sig n label → IsKnown sig n label fs labels → ListsEntries sig n labels es → length qs ≡ length es → ((k : ℕ) (d : Entry) → k < length es → IsLabelTarget sig n label labels (get_or es k d) (get_or qs k 0)) → IsExplored sig n label (tuples_of fs) es qs
known_closed sig n label fs labels es qs tells k lists count targets =
    let ts = tuples_of fs in
    let len = (length_known sig n label fs labels k).0 in
    let same = known_presences sig n label fs labels tells k in
    record {
      tuples = k.tuples;
      apart = k.apart;
      total = λ e h. lists.all e (subst (λ (ps : List ℕ). IsEntry sig n ps e) (sym same) h);
      count = count;
      targets = λ i d l.
          let t = targets i d l in
          let h = lists.only i d l in
          record {
            within = omega (arith, t.within);
            gives = λ t' a r b. t.gives t' a r (b ∙ picked_labels sig n label fs labels k (get_or es i d).kids (λ j m. omega (arith, h.within j m, length-map labels first_word))) ∙ label_at sig n label fs labels k (get_or qs i 0) t.within;
          };
    }

pub known_answer : (sig : Signature) (n : ℕ) (label : Labelling) (fs : List Entry) (labels : List (List ℕ)) (es : List Entry) (qs : List ℕ) → TellsPresence sig n label → IsKnown sig n label fs labels → ListsEntries sig n labels es → length qs ≡ length es → ((k : ℕ) (d : Entry) → k < length es → IsLabelTarget sig n label labels (get_or es k d) (get_or qs k 0)) → HasStatesByLabel sig n label (length fs) es qs
known_answer sig n label fs labels es qs tells k lists count targets =
    let l = length_known sig n label fs labels k in
    subst (λ (m : ℕ). HasStatesByLabel sig n label m es qs) (sym l.0 ∙ l.1) (states_by_label sig n label (tuples_of fs) es qs tells (known_closed sig n label fs labels es qs tells k lists count targets))

pub known_few : (sig : Signature) (n : ℕ) (label : Labelling) (fs : List Entry) (labels : List (List ℕ)) (es : List Entry) (qs : List ℕ) (cap : ℕ) → TellsPresence sig n label → IsKnown sig n label fs labels → ListsEntries sig n labels es → length qs ≡ length es → ((k : ℕ) (d : Entry) → k < length es → IsLabelTarget sig n label labels (get_or es k d) (get_or qs k 0)) → length labels ≤ cap → HasMoreLabels sig n label cap → ⊥
known_few sig n label fs labels es qs cap tells k lists count targets few =
    no_more_labels sig n label (tuples_of fs) es qs cap tells (known_closed sig n label fs labels es qs tells k lists count targets) (omega (arith, (length_known sig n label fs labels k).0))
