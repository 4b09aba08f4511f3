-- The moves of a side are those of the automaton; what the moves of one root add to a label, and what all do.
use Rattle.std.specs.Prelude.{◌≡◌, ◌↔◌, ◌⊎◌, ℕ, ◌+◌, ◌^◌, ◌<◌, List, [], ◌++◌, map, length, get_or, Contains, Option, None, Some, Bool, true, false, ◌&&◌, ◌||◌, refl}
use Rattle.std.specs.List.{list_any}
use Rattle.std.proofs.Common.{ap, sym, ◌∙◌, arith, subst, inl, inr}
use Rattle.std.proofs.lemmas.List.{get_or-map, get_or_default, length-map}
use Rattle.std.proofs.lemmas.List.Elements.{Contains-get_or, Contains-append_right, Contains-append_cases}
use Rattle.fort_theory.proofs.Members.{Contains-none, Contains-cons_cases, Contains-head, Contains-behind}
use Rattle.fort_alike.specs.PatternNumbers.{PatternNumber, number_inside}
use Rattle.fort_alike.proofs.Bits.{same_from_iff}
use Rattle.fort_tree_automata.specs.NtaView.{MoveParts, NamesItsStates, automaton_of, moves_of}
use Rattle.fort_tree_automata.specs.declared.nta.Nta.{Nta}
use Rattle.fort_alike.specs.AutomatonMoves.{AreMovesOf}
use Rattle.fort_label_bits.specs.RowBits.{bit_of}
use Rattle.fort_label_bits.specs.BitRowLists.{row_in}
use Rattle.fort_label_bits.specs.RootPlaces.{IsRooted, places_at, root_of}
use Rattle.fort_label_bits.specs.declared.rooted.Rooted.{Rooted}
use Rattle.fort_label_bits.proofs.RootPlaceLaws.{any_false, Decides-any, Decides-rooted, root-fits}
use Rattle.fort_relation_exprs.specs.LeadRows.{AreLeads}
use Rattle.fort_relation_exprs.specs.Sides.{IsSide, adds_at, any_moves, leads_in, leads_to, move_adds, move_roots, moves_in, no_move, numbered_move, numbered_moves, side_adds}
use Rattle.fort_relation_exprs.specs.declared.side.Side.{Side}

-- the moves of one root

and-first : (a b : Bool) → (a && b) ≡ true → a ≡ true
and-first true b h = refl
and-first false b h = h

-- a test of all that holds only where the root is this one, or any
any_rooted : {A : Type 0} (root : A → Option ℕ) (test : A → Bool) (xs : List A) (d : A) (r : Rooted) (f : ℕ) → IsRooted (map root xs) r
    → ((x : A) → test x ≡ true → (root x ≡ None) ⊎ (root x ≡ Some f))
    → (list_any (λ k. test (get_or xs k d)) (places_at r f) || list_any (λ k. test (get_or xs k d)) r.any.items) ≡ list_any test xs
any_rooted {A} root test xs d r f is fits =
    let at : ℕ → Bool = λ k. test (get_or xs k d) in
    let count : length (map root xs) ≡ length xs = length-map xs root in
    let here : (k : ℕ) → k < length (map root xs) → at k ≡ true → (get_or (map root xs) k None ≡ None) ⊎ (get_or (map root xs) k None ≡ Some f) =
    λ k l t. subst (λ (x : Option ℕ). (x ≡ None) ⊎ (x ≡ Some f)) (sym (get_or-map root xs k d None (omega (arith, l, count)))) (fits (get_or xs k d) t) in
    same_from_iff (list_any at (places_at r f) || list_any at r.any.items) (list_any test xs) (Decides-rooted (map root xs) r f at is here) (Decides-any test xs) (
      (λ w. let l = w.1 in (get_or xs w.0 d, Contains-get_or xs w.0 d (omega (arith, l, count)), w.2)),
      (λ w.
          let c : Contains xs w.0 = w.1 in
          let l = c.1 in
          (c.0, omega (arith, l, count), ap test (get_or_default xs c.0 d w.0 c.1 ∙ c.2) ∙ w.2)),
    )

pub side_rooted : (base : ℕ) (moves : List (PatternNumber × ℕ)) (leads : List (List ℕ)) (f : ℕ) (ws : List (List ℕ)) (q : ℕ) (r : Rooted) → IsRooted (move_roots moves) r
    → (list_any (adds_at base moves leads (Some f) ws q) (places_at r f) || list_any (adds_at base moves leads (Some f) ws q) r.any.items) ≡ side_adds base moves leads (Some f) ws q
side_rooted base moves leads f ws q r is =
    any_rooted (λ (m : PatternNumber × ℕ). root_of m.0) (move_adds base leads (Some f) ws q) moves no_move r f is
    (λ m t. root-fits base f m.0 ws (and-first (number_inside base m.0 (Some f) ws) _ t))

pub side_nowhere : (base : ℕ) (moves : List (PatternNumber × ℕ)) (leads : List (List ℕ)) (ws : List (List ℕ)) (q : ℕ) → side_adds base moves leads None ws q ≡ false
side_nowhere base moves leads ws q = any_false (move_adds base leads None ws q) moves (λ m. refl)

pub or-nothing : (b : Bool) → (b || false) ≡ b
or-nothing true = refl
or-nothing false = refl

-- the moves are those of the automaton

Contains-made : (ms : List MoveParts) (m : MoveParts) → Contains ms m → Contains (map numbered_move ms) (numbered_move m)
Contains-made ms m c = let l = c.1 in (c.0, omega (arith, l, length-map ms numbered_move), get_or-map numbered_move ms c.0 m (numbered_move m) c.1 ∙ ap numbered_move c.2)

Contains-from_made : (ms : List MoveParts) (y : PatternNumber × ℕ) → Contains (map numbered_move ms) y → (m : MoveParts) × Contains ms m × (numbered_move m ≡ y)
Contains-from_made ms y c =
    let none : MoveParts = (0, [], 0) in
    let l = c.1 in
    let within : c.0 < length ms = omega (arith, l, length-map ms numbered_move) in
    (get_or ms c.0 none, Contains-get_or ms c.0 none within, sym (get_or-map numbered_move ms c.0 none y within) ∙ c.2)

pub any_listed : (a : Option ℕ) (ms : List MoveParts) (q : ℕ) → (a ≡ Some q) ↔ Contains (any_moves a ++ map numbered_move ms) (None, q)
any_listed a ms q = (
  (λ e. subst (λ (b : Option ℕ). Contains (any_moves b ++ map numbered_move ms) (None, q)) (sym e) (Contains-head (None, q) (map numbered_move ms))),
  (λ c. elim (Contains-append_cases (any_moves a) (map numbered_move ms) (None, q) c) [
    | inl h ↦ its_own a h
    | inr h ↦ let m = Contains-from_made ms (None, q) h in let e = ap (λ (x : PatternNumber × ℕ). x.0) m.2 in absurd (some_none (m.0.0, m.0.1) e)
  ]),
)
  where
    some_none : (w : ℕ × List ℕ) → Some w ≡ None → ⊥
    some_none w e = cc

    its_own : (b : Option ℕ) → Contains (any_moves b) (None, q) → b ≡ Some q
    its_own None c = absurd (Contains-none (None, q) c)
    its_own (Some p) c = elim (Contains-cons_cases (None, p) [] (None, q) c) [
      | inl e ↦ ap (λ (x : PatternNumber × ℕ). Some x.1) e
      | inr h ↦ absurd (Contains-none (None, q) h)
    ]

abbrev parts_of : PatternNumber → ℕ × List ℕ
parts_of None = (0, [])
parts_of (Some w) = w

pub each_listed : (a : Option ℕ) (ms : List MoveParts) (f : ℕ) (qs : List ℕ) (q : ℕ) → Contains ms (f, qs, q) ↔ Contains (any_moves a ++ map numbered_move ms) (Some (f, qs), q)
each_listed a ms f qs q = (
  (λ c. Contains-append_right (any_moves a) (map numbered_move ms) (Some (f, qs), q) (Contains-made ms (f, qs, q) c)),
  (λ c. elim (Contains-append_cases (any_moves a) (map numbered_move ms) (Some (f, qs), q) c) [
    | inl h ↦ absurd (not_any a h)
    | inr h ↦ let m = Contains-from_made ms (Some (f, qs), q) h in subst (Contains ms) (again m.0 m.2) m.1
  ]),
)
  where
    none_some : (w : ℕ × List ℕ) → None ≡ Some w → ⊥
    none_some w e = cc

    not_any : (b : Option ℕ) → Contains (any_moves b) (Some (f, qs), q) → ⊥
    not_any None c = Contains-none (Some (f, qs), q) c
    not_any (Some p) c = elim (Contains-cons_cases (None, p) [] (Some (f, qs), q) c) [
      | inl e ↦ none_some (f, qs) (ap (λ (x : PatternNumber × ℕ). x.0) e)
      | inr h ↦ Contains-none (Some (f, qs), q) h
    ]

    again : (m : MoveParts) → numbered_move m ≡ (Some (f, qs), q) → m ≡ (f, qs, q)
    again m e = let back : PatternNumber × ℕ → MoveParts = λ x. ((parts_of x.0).0, (parts_of x.0).1, x.1) in ap back e

target_low : (nta : Nta) → NamesItsStates nta → (row : PatternNumber) (p : ℕ) → Contains (numbered_moves nta) (row, p) → p < nta.states
target_low nta named None p c = named.any p ((any_listed nta.any (moves_of nta) p).1 c)
target_low nta named (Some w) p c = named.moves w.0 w.1 p ((each_listed nta.any (moves_of nta) w.0 w.1 p).1 c) p (Contains-head p w.1)

AreMovesOf-numbered : (nta : Nta) (base width : ℕ) (rows : List (List ℕ)) → NamesItsStates nta → AreLeads nta base width rows
    → AreMovesOf (automaton_of nta) nta.states (numbered_moves nta) (λ p k. bit_of (base + k) (row_in rows p))
AreMovesOf-numbered nta base width rows named leads = record {
  any = λ q. any_listed nta.any (moves_of nta) q;
  each = λ f qs q. each_listed nta.any (moves_of nta) f qs q;
  kids_low = λ f qs q c p d. named.moves f qs q ((each_listed nta.any (moves_of nta) f qs q).1 c) p (Contains-behind q qs p d);
  led = λ row p c k l. leads.led p k (target_low nta named row p c) l;
}

-- what a side is made of
pub record IsMade (nta : Nta) (base width : ℕ) (side : Side) : Type 0 where
  pub few : nta.states < 2 ^ 32
  pub count : side.count ≡ nta.states
  pub moves : moves_in side ≡ numbered_moves nta
  pub roots : IsRooted (move_roots (moves_in side)) side.roots
  pub leads : AreLeads nta base width (leads_in side)

pub IsSide-made : (nta : Nta) (base width : ℕ) (side : Side) → NamesItsStates nta → IsMade nta base width side → IsSide base width side
IsSide-made nta base width side named made = record {
  few = omega (arith, made.few, made.count);
  rooted = made.roots;
  targets = λ m c. let l = target_low nta named m.0 m.1 (subst (λ ms. Contains ms m) made.moves c) in omega (arith, l, made.leads.many);
  widths = made.leads.widths;
  inside = λ p q b. let i = made.leads.inside p q b in (i.0, (let l = i.1 in omega (arith, l, made.count)));
}

pub AreMovesOf-made : (nta : Nta) (base width : ℕ) (side : Side) → NamesItsStates nta → moves_in side ≡ numbered_moves nta → AreLeads nta base width (leads_in side)
    → AreMovesOf (automaton_of nta) nta.states (moves_in side) (leads_to base side)
AreMovesOf-made nta base width side named moves leads =
    subst (λ ms. AreMovesOf (automaton_of nta) nta.states ms (leads_to base side)) (sym moves) (AreMovesOf-numbered nta base width (leads_in side) named leads)
