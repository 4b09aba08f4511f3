-- A row with the bits of the marks at a node is the rule's label; the bits of patterns by numbers, a root step by the row's own bits, and what is read from a label is what the atom accepts.
use Rattle.std.specs.Prelude.{◌≡◌, ℕ, suc, ◌+◌, ◌<◌, List, [], ◌∷◌, ◌++◌, map, length, get_or, Option, None, Bool, false, ◌&&◌, refl}
use Rattle.std.proofs.Common.{sym, ap, ◌∙◌, arith}
use Rattle.std.proofs.lemmas.List.{get_or_append_left, get_or-append-add, get_or-map, length-map}
use Rattle.fort_theory.specs.Patterns.{Pattern, Any, Pair}
use Rattle.fort_tables.specs.Tuples.{presence}
use Rattle.fort_tables.specs.Entries.{Entry}
use Rattle.fort_tables.specs.BitRows.{words_for}
use Rattle.fort_tables.specs.LabelRules.{entry_label}
use Rattle.fort_alike.specs.Atoms.{AtomKind}
use Rattle.fort_alike.specs.Alike.{Fact, facts_of, is_reaching}
use Rattle.fort_alike.specs.ListedAtoms.{Mark, OfFirst, OfSecond, OfBoth, ListedAtom, listed}
use Rattle.fort_alike.specs.AtomRules.{marks_of, inside, first_step, second_step, root_test, mark_step, bit_in, atom_rule, any_pair, place, accepts_by, atom_accepts}
use Rattle.fort_alike.specs.PatternNumbers.{PatternNumber, number_inside}
use Rattle.fort_alike.proofs.BitPlaces.{NoneTwice}
use Rattle.fort_alike.proofs.PatternNumberLaws.{first_bit, second_bit, fact_bit, first_row, second_row}
use Rattle.fort_alike.proofs.RuleLaws.{row_is}
use Rattle.fort_label_bits.specs.declared.rule_places.RulePlaces.{RulePlaces}
use Rattle.fort_label_bits.specs.NumberedView.{AreNumbersOf}
use Rattle.fort_label_bits.specs.RowBits.{labels_at, bit_of, HasBits, IsRow}
use Rattle.fort_label_bits.specs.RulePlaces.{pair_at, AreWithin}
use Rattle.fort_label_bits.specs.RuleLefts.{some_rule}
use Rattle.fort_label_bits.proofs.RulePlaceLaws.{some_rule-any_pair}

map-numbers : (f : PatternNumber → Bool) (g : Pattern → Bool) (listed : List Pattern) (rows : List PatternNumber) → length rows ≡ length listed
    → ((k : ℕ) → k < length listed → f (get_or rows k None) ≡ g (get_or listed k Any)) → map f rows ≡ map g listed
map-numbers f g [] [] l h = refl
map-numbers f g [] (r ∷ rows) l h = absurd (omega arith)
map-numbers f g (p ∷ listed) [] l h = absurd (omega arith)
map-numbers f g (p ∷ listed) (r ∷ rows) l h =
    ap (λ b. b ∷ map f rows) (h 0 (omega arith)) ∙ ap (λ bs. g p ∷ bs) (map-numbers f g listed rows (omega arith) (λ k m. h (suc k) (omega arith)))

module _ (a : ListedAtom) (closure : Pattern → Pattern → Bool) where
  abbrev pub node_marks : Option ℕ → Option ℕ → List (List ℕ) → Mark → Bool
  node_marks x y ws = mark_step (is_reaching a.atom.kind) (bit_in a) a.atom.pairs closure x y ws

  -- a row with these bits is the label
  pub label-is : (labels : List (List ℕ)) (e : Entry) (out : List ℕ) (bits : List Bool)
      → bits ≡ map (node_marks (get_or e.symbol a.atom.first None) (get_or e.symbol a.atom.second None) (labels_at labels e.kids)) (marks_of a)
      → length out ≡ suc (words_for (length (marks_of a))) → IsRow (presence e.symbol) bits out
      → out ≡ entry_label (atom_rule a closure) labels e
  label-is labels e out bits same l h =
      row_is out (marks_of a) (presence e.symbol) (node_marks (get_or e.symbol a.atom.first None) (get_or e.symbol a.atom.second None) (labels_at labels e.kids)) l h.words h.first_is
      (λ q m. h.bits_are q ∙ ap (λ bs. get_or bs q false) same)

  -- a root step, in the row that is written
  pub root-own : (x y : Option ℕ) (ws : List (List ℕ)) (firsts seconds : List Bool) (rules : List RulePlaces) (w : List ℕ)
      → firsts ≡ map (first_step (is_reaching a.atom.kind) (bit_in a) a.atom.pairs closure x ws) a.lefts
      → seconds ≡ map (second_step (is_reaching a.atom.kind) (bit_in a) a.atom.pairs closure y ws) a.rights
      → AreWithin a.lefts a.rights rules → a.atom.pairs ≡ map (pair_at a.lefts a.rights) rules → HasBits (firsts ++ seconds) w
      → some_rule (length a.lefts) rules w ≡ root_test (is_reaching a.atom.kind) (bit_in a) a.atom.pairs closure x y ws
  root-own x y ws firsts seconds rules w f s within are h =
      let F : Pattern → Bool = first_step (is_reaching a.atom.kind) (bit_in a) a.atom.pairs closure x ws in
      let S : Pattern → Bool = second_step (is_reaching a.atom.kind) (bit_in a) a.atom.pairs closure y ws in
      let n : length (map F a.lefts) ≡ length a.lefts = length-map a.lefts F in
      let own : HasBits (map F a.lefts ++ map S a.rights) w = λ q. h q ∙ (λ i. get_or (f i ++ s i) q false) in
      some_rule-any_pair a.lefts a.rights (λ r. F r.0 && S r.1) (length a.lefts) w rules
      (λ r c.
      let l = (within r c).0 in
      let m = (within r c).1 in
      let here : bit_of r.left w ≡ F (get_or a.lefts r.left Any) =
      own r.left ∙ (get_or_append_left (map F a.lefts) (map S a.rights) false r.left (omega (arith, l, n)) ∙ get_or-map F a.lefts r.left Any false l) in
      let there : bit_of (length a.lefts + r.right) w ≡ S (get_or a.rights r.right Any) =
      own (length a.lefts + r.right)
      ∙ (ap (λ k. get_or (map F a.lefts ++ map S a.rights) (k + r.right) false) (sym n)
      ∙ (get_or-append-add (map F a.lefts) (map S a.rights) r.right false ∙ get_or-map S a.rights r.right Any false m)) in
      λ i. here i && there i)
      ∙ ap (any_pair (λ r. F r.0 && S r.1)) (sym are)

-- by numbers
module _ (a : ListedAtom) where
  module _ (once : NoneTwice (marks_of a)) where
    pub firsts-are : (rows : List PatternNumber) (x : Option ℕ) (ws : List (List ℕ)) → AreNumbersOf a.lefts rows
        → map (λ p. number_inside 0 p x ws) rows ≡ map (inside (bit_in a) OfFirst x ws) a.lefts
    firsts-are rows x ws are =
        map-numbers (λ p. number_inside 0 p x ws) (inside (bit_in a) OfFirst x ws) a.lefts rows are.count
        (λ k l. first_row a once (get_or rows k None) (get_or a.lefts k Any) x ws (are.each k l))

    pub seconds-are : (rows : List PatternNumber) (y : Option ℕ) (ws : List (List ℕ)) → AreNumbersOf a.rights rows
        → map (λ p. number_inside (length a.lefts) p y ws) rows ≡ map (inside (bit_in a) OfSecond y ws) a.rights
    seconds-are rows y ws are =
        map-numbers (λ p. number_inside (length a.lefts) p y ws) (inside (bit_in a) OfSecond y ws) a.rights rows are.count
        (λ k l. second_row a once (get_or rows k None) (get_or a.rights k Any) y ws (are.each k l))

    -- in a label
    pub accepts-root : (rules : List RulePlaces) (w : List ℕ) → AreWithin a.lefts a.rights rules
        → some_rule (length a.lefts) rules w ≡ any_pair (λ r. bit_in a (OfFirst r.0) w && bit_in a (OfSecond r.1) w) (map (pair_at a.lefts a.rights) rules)
    accepts-root rules w within =
        some_rule-any_pair a.lefts a.rights (λ r. bit_in a (OfFirst r.0) w && bit_in a (OfSecond r.1) w) (length a.lefts) w rules
        (λ r c.
        let l = (within r c).0 in
        let m = (within r c).1 in
        let z : r.left ≡ 0 + r.left = omega arith in
        ap (λ k. bit_of k w && bit_of (length a.lefts + r.right) w) z
        ∙ (ap (λ b. b && bit_of (length a.lefts + r.right) w) (first_bit a once r.left (get_or a.lefts r.left Any) w l refl)
        ∙ ap (λ b. bit_in a (OfFirst (get_or a.lefts r.left Any)) w && b) (second_bit a once r.right (get_or a.rights r.right Any) w m refl)))

-- the bit of a fact that alone tells whether the atom holds
pub accepts-fact : (a : ListedAtom) (kind : AtomKind) (k : Fact) (w : List ℕ) (q : ℕ) → a.atom.kind ≡ kind
    → q ≡ length a.lefts + length a.rights + place (map OfBoth (facts_of kind)) (OfBoth k)
    → ((bit : Mark → Bool) (pairs : List Pair) → accepts_by bit pairs kind ≡ bit (OfBoth k)) → bit_of q w ≡ atom_accepts a w
accepts-fact a kind k w q e h by =
    ap (λ i. bit_of i w) (h ∙ ap (λ (x : AtomKind). length a.lefts + length a.rights + place (map OfBoth (facts_of x)) (OfBoth k)) (sym e))
    ∙ (fact_bit a k w ∙ (sym (by (λ m. bit_in a m w) a.atom.pairs) ∙ ap (accepts_by (λ m. bit_in a m w) a.atom.pairs) (sym e)))
