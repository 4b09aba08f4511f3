-- An entry whose children have the numbers of their labels.
use Rattle.std.proofs.Common.{◌≡◌, ℕ, zero, suc, ◌<◌, ◌≤◌, List, [], ◌∷◌, map, take, length, get_or, refl, ap, sym, subst, ◌∙◌, arith}
use Rattle.std.proofs.lemmas.List.{length-map, length-take-le, get_or-take, get_or-map, ext_get_or}
use Rattle.fort_theory.specs.Signatures.{Signature}
use Rattle.fort_tables.specs.Tuples.{TupleSymbol, IsTupleSymbol, symbol_kids, kid_presence}
use Rattle.fort_tables.specs.Entries.{Entry}
use Rattle.fort_tables.specs.Labels.{Labelling, first_word, IsLabel, IsOverLabels}
use Rattle.fort_tables.specs.LabelRules.{LabelRule, entry_label}

abbrev pub numbers : List ℕ
numbers = 0 ∷ 1 ∷ 2 ∷ 3 ∷ 4 ∷ 5 ∷ 6 ∷ 7 ∷ []

number_at : (j : ℕ) → j < 8 → get_or numbers j 0 ≡ j
number_at zero l = refl
number_at (suc zero) l = refl
number_at (suc (suc zero)) l = refl
number_at (suc (suc (suc zero))) l = refl
number_at (suc (suc (suc (suc zero)))) l = refl
number_at (suc (suc (suc (suc (suc zero))))) l = refl
number_at (suc (suc (suc (suc (suc (suc zero)))))) l = refl
number_at (suc (suc (suc (suc (suc (suc (suc zero))))))) l = refl
number_at (suc (suc (suc (suc (suc (suc (suc (suc j)))))))) l = absurd (omega arith)

first_numbers : (n j : ℕ) → n ≤ 8 → j < n → get_or (take n numbers) j 0 ≡ j
first_numbers n j a l = get_or-take n numbers j 0 l ∙ number_at j (omega arith)

-- the labels of the children
abbrev pub kid_labels : List (List ℕ) → List ℕ → List (List ℕ)
kid_labels labels ks = map (λ q. get_or labels q []) ks

pub numbered_kids : (n : ℕ) (ws : List (List ℕ)) → n ≤ 8 → length ws ≡ n → kid_labels ws (take n numbers) ≡ ws
numbered_kids n ws a e =
    let own : length (take n numbers) ≡ n = length-take-le n numbers a in
    let count : length (kid_labels ws (take n numbers)) ≡ n = length-map (take n numbers) (λ q. get_or ws q []) ∙ own in
    ext_get_or [] (kid_labels ws (take n numbers)) ws (count ∙ sym e)
    (λ j l.
    let low : j < n = omega (arith, l, count) in
    get_or-map (λ q. get_or ws q []) (take n numbers) j 0 [] (let m : j < length (take n numbers) = omega (arith, low, own) in m)
    ∙ ap (λ q. get_or ws q []) (first_numbers n j a low))

-- the label of the numbered entry is the entry's
pub numbered_label : (r : LabelRule) (labels : List (List ℕ)) (e x : Entry) (n : ℕ) → n ≤ 8 → length e.kids ≡ n → x.symbol ≡ e.symbol → x.kids ≡ take n numbers → entry_label r (kid_labels labels e.kids) x ≡ entry_label r labels e
numbered_label r labels e x n a len f ks =
    let ws = kid_labels labels e.kids in
    (λ j. r.step (f j) (kid_labels ws (ks j)))
    ∙ ap (r.step e.symbol) (numbered_kids n ws a (length-map e.kids (λ q. get_or labels q []) ∙ len))

pub over_numbered : (sig : Signature) (columns : ℕ) (label : Labelling) (labels : List (List ℕ)) (e x : Entry) (n : ℕ) → IsOverLabels sig columns label labels e → n ≤ 8 → length e.kids ≡ n → x.symbol ≡ e.symbol → x.kids ≡ take n numbers → IsOverLabels sig columns label (kid_labels labels e.kids) x
over_numbered sig columns label labels e x n h a len f ks = record {
  entry = record {
    symbol = subst (λ (s : TupleSymbol). IsTupleSymbol sig columns s) (sym f) h.entry.symbol;
    count = as_many ∙ (sym len ∙ (h.entry.count ∙ ap (symbol_kids sig) (sym f)));
    within = λ j l. omega (arith, number j l, length-map (kid_labels labels e.kids) first_word, own, as_many, l);
    presence = λ j l.
        ap (λ q. get_or (map first_word (kid_labels labels e.kids)) q 0) (number j l)
        ∙ (presence_at j (let m : j < n = omega (arith, l, as_many) in m)
        ∙ ap (λ s. kid_presence sig s j) (sym f));
  };
  are = λ q l. let m : q < length e.kids = omega (arith, l, own, len) in
      subst (λ (w : List ℕ). IsLabel sig columns label w) (sym (label_at q m))
      (h.are (get_or e.kids q 0) (omega (arith, h.entry.within q m, length-map labels first_word)));
}
  where
    own : length (kid_labels labels e.kids) ≡ n
    own = length-map e.kids (λ q. get_or labels q []) ∙ len

    as_many : length x.kids ≡ n
    as_many = ap length ks ∙ length-take-le n numbers a

    number : (j : ℕ) → j < length x.kids → get_or x.kids j 0 ≡ j
    number j l = ap (λ xs. get_or xs j 0) ks ∙ first_numbers n j a (omega (arith, l, as_many))

    label_at : (q : ℕ) → q < length e.kids → get_or (kid_labels labels e.kids) q [] ≡ get_or labels (get_or e.kids q 0) []
    label_at q l = get_or-map (λ k. get_or labels k []) e.kids q 0 [] l

    presence_at : (j : ℕ) → j < n → get_or (map first_word (kid_labels labels e.kids)) j 0 ≡ kid_presence sig e.symbol j
    presence_at j l =
        let m : j < length e.kids = omega (arith, l, len) in
        let i : j < length (kid_labels labels e.kids) = omega (arith, l, own) in
        let there : get_or e.kids j 0 < length labels = omega (arith, h.entry.within j m, length-map labels first_word) in
        get_or-map first_word (kid_labels labels e.kids) j [] 0 i
        ∙ (ap first_word (label_at j m)
        ∙ (sym (get_or-map first_word labels (get_or e.kids j 0) [] 0 there)
        ∙ h.entry.presence j m))
