-- Lists of states read from labels one by one.
use Rattle.std.proofs.Common.{◌≡◌, ℕ, ◌<◌, ◌≤◌, List, [], map, take, length, get_or, sym, ◌∙◌, ap, arith}
use Rattle.std.proofs.lemmas.List.{length-map, get_or-map, ext_get_or, length-take-le, get_or-take}
use Rattle.std.proofs.Math.Seq.{take-length}
use Rattle.fort_target_lists.specs.LabelLists.{labels_at}

pub states_read : (f : List ℕ → ℕ) (labels : List (List ℕ)) (ks states : List ℕ) (n : ℕ) → n ≤ length states → n ≤ length ks → ((k : ℕ) → k < n → get_or states k 0 ≡ f (get_or labels (get_or ks k 0) [])) → take n states ≡ map f (take n (labels_at labels ks))
states_read f labels ks states n l m h =
    let b : length (labels_at labels ks) ≡ length ks = length-map ks (λ q. get_or labels q []) in
    let a = length-take-le n states l in
    let d = length-take-le n (labels_at labels ks) (omega (arith, b)) in
    let e = length-map (take n (labels_at labels ks)) f in
    ext_get_or 0 (take n states) (map f (take n (labels_at labels ks))) (omega (arith, a, d, e))
    (λ k p. let q : k < n = omega (arith, a) in
    get_or-take n states k 0 q ∙ (h k q ∙ sym (get_or-map f (take n (labels_at labels ks)) k [] 0 (omega (arith, d)) ∙ ap f (get_or-take n (labels_at labels ks) k [] q ∙ get_or-map (λ q. get_or labels q []) ks k 0 [] (omega arith)))))

pub states_all : (f : List ℕ → ℕ) (labels : List (List ℕ)) (ks states : List ℕ) → length ks ≤ length states → ((k : ℕ) → k < length ks → get_or states k 0 ≡ f (get_or labels (get_or ks k 0) [])) → take (length ks) states ≡ map f (labels_at labels ks)
states_all f labels ks states l h =
    let e : length ks ≡ length (labels_at labels ks) = sym (length-map ks (λ q. get_or labels q [])) in
    states_read f labels ks states (length ks) l (omega arith) h ∙ (ap (λ n. map f (take n (labels_at labels ks))) e ∙ ap (map f) (take-length (labels_at labels ks)))
