-- Labels of one width, each in four words.
use Rattle.std.proofs.Common.{◌≡◌, ℕ, zero, suc, ◌<◌, ◌≤◌, List, [], ◌∷◌, ◌++◌, map, take, length, get_or, MatchOption, Option, None, Some, Result, Ok, Err, OnOk, OnErr, refl, ap, sym, ◌∙◌, arith, subst}
use Rattle.std.proofs.lemmas.List.{length-map, get_or-map, map-append}
use Rattle.fort_explore.specs.ShortLabels.{padded}
use Rattle.fort_explore.specs.LabelsInside.{labels_in, ArePadded, AreOfWidth, AreLabelsIn}
use Rattle.fort_explore.specs.declared.labels.Storage.{Storage}
use Rattle.fort_explore.specs.declared.labels.Storage.TheVariants.{Short}

pub take_padded : (width : ℕ) (label : List ℕ) → length label ≡ width → width ≤ 4 → take width (padded label) ≡ label
take_padded zero [] e h = refl
take_padded (suc zero) (a ∷ []) e h = refl
take_padded (suc (suc zero)) (a ∷ b ∷ []) e h = refl
take_padded (suc (suc (suc zero))) (a ∷ b ∷ c ∷ []) e h = refl
take_padded (suc (suc (suc (suc zero)))) (a ∷ b ∷ c ∷ d ∷ []) e h = refl
take_padded n label e h = absurd (omega arith)

-- the k-th of the four words' labels
label_at : (width : ℕ) (wss : List (List ℕ)) (q : ℕ) → q < length wss → get_or (map (take width) wss) q [] ≡ take width (get_or wss q [])
label_at width wss q l = get_or-map (take width) wss q [] [] l

-- a label that isn't there isn't there in four words
pub padded_absent : (width : ℕ) (wss : List (List ℕ)) (label : List ℕ) → length label ≡ width → width ≤ 4
    → ((q : ℕ) → q < length (map (take width) wss) → get_or (map (take width) wss) q [] ≡ label → ⊥)
    → (q : ℕ) → q < length wss → get_or wss q [] ≡ padded label → ⊥
padded_absent width wss label len h none q l e =
    none q (omega (arith, length-map wss (take width))) (label_at width wss q l ∙ (ap (take width) e ∙ take_padded width label len h))

abbrev pub IsFoundIn : List (List ℕ) → List ℕ → Option ℕ → Type 0
IsFoundIn labels label r = MatchOption r ((q : ℕ) → q < length labels → get_or labels q [] ≡ label → ⊥) (λ q. (q < length labels) × (get_or labels q [] ≡ label))

-- what is found in four words is found
pub found_padded : (width : ℕ) (wss : List (List ℕ)) (label : List ℕ) (r : Option ℕ) → length label ≡ width → ArePadded width wss
    → IsFoundIn wss (padded label) r → IsFoundIn (map (take width) wss) label r
found_padded width wss label None len p none = λ q l e.
    let m : q < length wss = omega (arith, length-map wss (take width)) in
    none q m (p.zeros q m ∙ ap padded (sym (label_at width wss q m) ∙ e))
found_padded width wss label (Some q) len p found =
    (omega (arith, length-map wss (take width), found.0), label_at width wss q found.0 ∙ (ap (take width) found.1 ∙ take_padded width label len p.narrow))

-- no label has another width
pub other_width : (width : ℕ) (labels : List (List ℕ)) (label : List ℕ) → AreOfWidth width labels → (length label ≡ width → ⊥)
    → (q : ℕ) → q < length labels → get_or labels q [] ≡ label → ⊥
other_width width labels label w other q l e = other (ap length (sym e) ∙ w.width_is q l)

-- what holds of each list holds with one more
each_pushed : (P : List ℕ → Type 0) (xss : List (List ℕ)) (xs : List ℕ) → ((q : ℕ) → q < length xss → P (get_or xss q [])) → P xs
    → (q : ℕ) → q < length (xss ++ xs ∷ []) → P (get_or (xss ++ xs ∷ []) q [])
each_pushed P [] xs all one zero l = one
each_pushed P [] xs all one (suc q) l = absurd (omega arith)
each_pushed P (ys ∷ xss) xs all one zero l = all zero (omega arith)
each_pushed P (ys ∷ xss) xs all one (suc q) l = each_pushed P xss xs (λ k m. all (suc k) (omega arith)) one q (omega arith)

pub of_width_pushed : (width : ℕ) (labels : List (List ℕ)) (label : List ℕ) → AreOfWidth width labels → length label ≡ width → AreOfWidth width (labels ++ label ∷ [])
of_width_pushed width labels label w len = record { width_is = each_pushed (λ ws. length ws ≡ width) labels label w.width_is len }

pub padded_pushed : (width : ℕ) (wss : List (List ℕ)) (label : List ℕ) → ArePadded width wss → length label ≡ width → ArePadded width (wss ++ padded label ∷ [])
padded_pushed width wss label p len = record {
  narrow = p.narrow;
  zeros = each_pushed (λ ws. ws ≡ padded (take width ws)) wss (padded label) p.zeros (ap padded (sym (take_padded width label len p.narrow)));
}

pub labels_pushed : (width : ℕ) (wss : List (List ℕ)) (label : List ℕ) → length label ≡ width → width ≤ 4
    → map (take width) (wss ++ padded label ∷ []) ≡ map (take width) wss ++ label ∷ []
labels_pushed width wss label len h = map-append (take width) wss (padded label ∷ []) ∙ ap (λ ws. map (take width) wss ++ ws ∷ []) (take_padded width label len h)

-- labels in four words after a push
pub short_after : {A E : Type 0} (r : Result A E) (wss new : List (List ℕ)) (label ws : List ℕ) → ws ≡ padded label → AreLabelsIn (length label) (Short wss)
    → OnOk r (new ≡ wss ++ ws ∷ []) → OnErr r (new ≡ wss) → AreLabelsIn (length label) (Short new)
short_after (Ok x) wss new label ws e fit ok err =
    let n = length label in
    subst (λ (kss : List (List ℕ)). AreLabelsIn n (Short kss)) (ap (λ (ks : List ℕ). wss ++ ks ∷ []) (sym e) ∙ sym ok) (record {
      widths = subst (AreOfWidth n) (sym (labels_pushed n wss label refl fit.storage.narrow)) (of_width_pushed n (map (take n) wss) label fit.widths refl);
      storage = padded_pushed n wss label fit.storage refl;
    })
short_after (Err x) wss new label ws e fit ok err = subst (λ (kss : List (List ℕ)). AreLabelsIn (length label) (Short kss)) (sym err) fit

-- a set that takes another width has no labels yet
pub no_labels : (width other : ℕ) (labels : List (List ℕ)) → AreOfWidth width labels → ((q : ℕ) → q < length labels → length (get_or labels q []) ≡ other) → (other ≡ width → ⊥) → labels ≡ []
no_labels width other [] w h differ = refl
no_labels width other (ws ∷ labels) w h differ = absurd (differ (sym (h zero (omega arith)) ∙ w.width_is zero (omega arith)))

-- it has these labels, and takes more of this width
pub record IsReadyFor (width : ℕ) (all : List (List ℕ)) (own : ℕ) (f : Storage) : Type 0 where
  pub width_is : own ≡ width
  pub labels : labels_in width f ≡ all
