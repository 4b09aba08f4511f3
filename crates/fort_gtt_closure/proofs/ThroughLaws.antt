-- What leads through groups of entries is what the entries add for the pairs.
use Rattle.std.proofs.Common.{◌≡◌, ◌∙◌, ℕ, ◌+◌, ◌<◌, List, [], ◌∷◌, ◌++◌, map, take, length, get_or, ap, sym, subst, inl, inr}
use Rattle.std.specs.Prelude.{Contains, flat_map}
use Rattle.std.proofs.lemmas.List.{take_more, flat_map_more}
use Rattle.std.proofs.lemmas.List.Elements.{Contains-append_left, Contains-append_right, Contains-append_cases}
use Rattle.fort_theory.proofs.Members.{Contains-head, Contains-behind, Contains-cons_cases, Contains-none}
use Rattle.fort_theory.proofs.Lists.{Contains-map, Contains-map_from}
use Rattle.fort_transducers.proofs.InverseLaws.{exchanged, Contains-exchanged, Contains-from_exchanged}
use Rattle.fort_gtt_closure.specs.declared.entry.Entry.{Entry}
use Rattle.fort_gtt_closure.specs.declared.groups.Groups.{Groups}
use Rattle.fort_gtt_closure.specs.Groups.{group, through, AreByFirst}
use Rattle.fort_gtt_closure.specs.Added.{AreOnward, AreBackward}
use Rattle.fort_gtt_closure.proofs.AwakeLaws.{in_group, from_group}

Contains-flat_map_from : {X Y : Type 0} (f : X → List Y) (xs : List X) (y : Y) → Contains (flat_map f xs) y → (x : X) × Contains xs x × Contains (f x) y
Contains-flat_map_from f [] y c = absurd (Contains-none y c)
Contains-flat_map_from f (x ∷ xs) y c = elim (Contains-append_cases (f x) (flat_map f xs) y c) [
  | inl here ↦ (x, Contains-head x xs, here)
  | inr there ↦ let w = Contains-flat_map_from f xs y there in (w.0, Contains-behind x xs w.0 w.1, w.2)
]

Contains-flat_map : {X Y : Type 0} (f : X → List Y) (xs : List X) (x : X) (y : Y) → Contains xs x → Contains (f x) y → Contains (flat_map f xs) y
Contains-flat_map f [] x y c h = absurd (Contains-none x c)
Contains-flat_map f (z ∷ zs) x y c h = elim (Contains-cons_cases z zs x c) [
  | inl e ↦ Contains-append_left (f z) (flat_map f zs) y (subst (λ w. Contains (f w) y) (sym e) h)
  | inr there ↦ Contains-append_right (f z) (flat_map f zs) y (Contains-flat_map f zs x y there h)
]

module _ (count : ℕ) (links : List (ℕ × ℕ)) (g : Groups) (by : AreByFirst count links g) (pairs : List (ℕ × ℕ))
    (low : (a b : ℕ) → Contains pairs (a, b) → b < count) where
  abbrev from_pair : ℕ × ℕ → List (ℕ × ℕ)
  from_pair pair = map (λ link. (pair.0, link.1)) (group g pair.1)

  through-from : (a c : ℕ) → Contains (through g pairs) (a, c) → (b : ℕ) × Contains pairs (a, b) × Contains links (b, c)
  through-from a c h =
      let pair = Contains-flat_map_from from_pair pairs (a, c) h in
      let link = Contains-map_from (λ (l : ℕ × ℕ). (pair.0.0, l.1)) (group g pair.0.1) (a, c) pair.2 in
      let first : pair.0.0 ≡ a = ap (λ (x : ℕ × ℕ). x.0) link.2 in
      let last : link.0.1 ≡ c = ap (λ (x : ℕ × ℕ). x.1) link.2 in
      let among = from_group count links g by pair.0.1 link.0.0 link.0.1 (low pair.0.0 pair.0.1 pair.1) link.1 in (
        pair.0.1,
        subst (λ x. Contains pairs (x, pair.0.1)) first pair.1,
        subst (λ x. Contains links (pair.0.1, x)) last (subst (λ x. Contains links (x, link.0.1)) among.1 among.0),
      )

  through-of : (a b c : ℕ) → Contains pairs (a, b) → Contains links (b, c) → Contains (through g pairs) (a, c)
  through-of a b c h k =
      Contains-flat_map from_pair pairs (a, b) (a, c) h (Contains-map (λ (l : ℕ × ℕ). (a, l.1)) (group g b) (b, c) (in_group count links g by b c (low a b h) k))

pub through-more : (g : Groups) (pairs : List (ℕ × ℕ)) (i : ℕ) → i < length pairs
    → through g (take (i + 1) pairs) ≡ through g (take i pairs) ++ map (λ link. ((get_or pairs i (0, 0)).0, link.1)) (group g (get_or pairs i (0, 0)).1)
through-more g pairs i low =
    ap (through g) (take_more pairs i (0, 0) low)
    ∙ sym (flat_map_more (λ (pair : ℕ × ℕ). map (λ (link : ℕ × ℕ). (pair.0, link.1)) (group g pair.1)) [] (take i pairs) (get_or pairs i (0, 0)))

abbrev pub states_of : List Entry → List (ℕ × ℕ)
states_of es = map (λ e. (e.p, e.q)) es

pub AreOnward-through : (es : List Entry) (count : ℕ) (g : Groups) (pairs : List (ℕ × ℕ)) → AreByFirst count (states_of es) g
    → ((a b : ℕ) → Contains pairs (a, b) → b < count) → AreOnward es pairs (through g pairs)
AreOnward-through es count g pairs by low a q =
    (through-from count (states_of es) g by pairs low a q, (λ w. through-of count (states_of es) g by pairs low a w.0 q w.1 w.2))

pub AreBackward-through : (es : List Entry) (count : ℕ) (g : Groups) (pairs : List (ℕ × ℕ)) → AreByFirst count (map exchanged (states_of es)) g
    → ((a b : ℕ) → Contains pairs (a, b) → a < count) → AreBackward es pairs (through g (map exchanged pairs))
AreBackward-through es count g pairs by low b p =
    let below : (x y : ℕ) → Contains (map exchanged pairs) (x, y) → y < count = λ x y c. low y x (Contains-from_exchanged pairs x y c) in (
      (λ h.
          let w = through-from count (map exchanged (states_of es)) g by (map exchanged pairs) below b p h in
          (w.0, Contains-from_exchanged pairs b w.0 w.1, Contains-from_exchanged (states_of es) w.0 p w.2)),
      (λ w.
          through-of count (map exchanged (states_of es)) g by (map exchanged pairs) below b w.0 p (Contains-exchanged pairs w.0 b w.1)
          (Contains-exchanged (states_of es) p w.0 w.2)),
    )
