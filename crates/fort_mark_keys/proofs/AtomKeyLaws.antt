-- An atom's label goes by the child's label under the mask, at each place.
use Rattle.std.proofs.Common.{◌≡◌, ℕ, ◌<◌, [], map, length, get_or, Contains, None, Bool, true, refl, sym, ap, subst, ◌∙◌, arith, ⊎_elim}
use Rattle.std.proofs.lemmas.Bool.{cases_eq}
use Rattle.std.proofs.lemmas.List.{length-map, get_or-map}
use Rattle.fort_theory.specs.Signatures.{Signature}
use Rattle.fort_theory.specs.Patterns.{Pattern, Any, At}
use Rattle.fort_tables.specs.Tuples.{Tuple, TupleSymbol, root, kid, kids, kid_count, presence, symbol_kids, IsTuple, FitsKid}
use Rattle.fort_tables.specs.Labels.{Labelling}
use Rattle.fort_tables.specs.LabelRules.{label_of}
use Rattle.fort_tables.proofs.TupleLaws.{length-tabulate, get_or-tabulate, kid_fits, kid_count_is}
use Rattle.fort_tables.proofs.LabelRuleLaws.{label_of-step}
use Rattle.fort_classes.specs.Keys.{DifferAt, GoesByEachKey}
use Rattle.fort_alike.specs.Alike.{is_reaching}
use Rattle.fort_alike.specs.ListedAtoms.{Mark, OfFirst, OfSecond, OfBoth, ListedAtom}
use Rattle.fort_alike.specs.AtomRules.{marks_of, bit_in, is_there, mark_step, atom_rule}
use Rattle.fort_alike.proofs.Bits.{row_of-same}
use Rattle.fort_label_bits.proofs.RootPlaceLaws.{any_true}
use Rattle.fort_mark_keys.specs.MaskedWords.{masked}
use Rattle.fort_mark_keys.specs.AskedMarks.{asks, asked_mask, stands_under, HasSides}
use Rattle.fort_mark_keys.proofs.MarkLaws.{bit-same, asked-bit}
use Rattle.fort_mark_keys.proofs.StepLaws.{ReadsSame, mark-same}
use Rattle.fort_mark_keys.proofs.ThereLaws.{there-same, first-any, second-any}

-- the label of a child among those of all
pub kid-label : (label : Labelling) (t : Tuple) (j : ℕ) → j < kid_count t → get_or (map label (kids t)) j [] ≡ label (kid t j)
kid-label label t j l =
    get_or-map label (kids t) j [] [] (omega (arith, length-tabulate (kid_count t) (kid t))) ∙ ap label (get_or-tabulate (kid_count t) (kid t) j [] l)

pub count-labels : (label : Labelling) (t : Tuple) → length (map label (kids t)) ≡ kid_count t
count-labels label t = length-map (kids t) label ∙ length-tabulate (kid_count t) (kid t)

-- tuples of one root have as many children
pub count-same : (sig : Signature) (n : ℕ) (t u : Tuple) → IsTuple sig n t → IsTuple sig n u → root t ≡ root u → kid_count t ≡ kid_count u
count-same sig n t u it iu e = kid_count_is sig t it.grounded ∙ (ap (symbol_kids sig) e ∙ sym (kid_count_is sig u iu.grounded))

module _ (sig : Signature) (n : ℕ) (a : ListedAtom) (closure : Pattern → Pattern → Bool) (t u : Tuple) (place : ℕ)
    (it : IsTuple sig n t) (iu : IsTuple sig n u) (d : DifferAt (label_of (atom_rule a closure)) t u place)
    (key : masked (asked_mask a (root t) place) (label_of (atom_rule a closure) (kid t place)) ≡ masked (asked_mask a (root t) place) (label_of (atom_rule a closure) (kid u place))) where
  abbrev label : Labelling
  label = label_of (atom_rule a closure)

  -- the truths of a tuple's label
  abbrev truths : Tuple → Mark → Bool
  truths s = mark_step (is_reaching a.atom.kind) (bit_in a) a.atom.pairs closure (get_or (root s) a.atom.first None) (get_or (root s) a.atom.second None) (map label (kids s))

  at-place : (m : Mark) → asks a (root t) place m ≡ true → bit_in a m (label (kid t place)) ≡ bit_in a m (label (kid u place))
  at-place m on =
      let mask = asked_mask a (root t) place in
      let x = label_of-step (atom_rule a closure) (kid t place) in
      let y = label_of-step (atom_rule a closure) (kid u place) in
      ap (bit_in a m) x
      ∙ (asked-bit a (root t) place (presence (root (kid t place))) (presence (root (kid u place))) (truths (kid t place)) (truths (kid u place)) m
      (sym (ap (masked mask) x) ∙ (key ∙ ap (masked mask) y)) on
      ∙ sym (ap (bit_in a m) y))

  asked-same : (j : ℕ) (m : Mark) → j < kid_count t → asks a (root t) j m ≡ true → bit_in a m (label (kid t j)) ≡ bit_in a m (label (kid u j))
  asked-same j m l = ⊎_elim
      (λ e. subst (λ i. asks a (root t) i m ≡ true → bit_in a m (label (kid t i)) ≡ bit_in a m (label (kid u i))) (sym e) (at-place m))
      (λ e on. ap (bit_in a m) (d.others j l e))
      (cases_eq j place)

  column-same : (j c : ℕ) → is_there (get_or (root (kid t j)) c None) ≡ is_there (get_or (root (kid u j)) c None)
  column-same j c =
      there-same sig (root t) j (kid t j) (kid u j) c (kid_fits sig t j it.grounded)
      (subst (λ (f : TupleSymbol). FitsKid sig f j (kid u j)) (sym d.root_is) (kid_fits sig u j iu.grounded))

  any-same : (j : ℕ) (m : Mark) → truths (kid t j) m ≡ truths (kid u j) m → bit_in a m (label (kid t j)) ≡ bit_in a m (label (kid u j))
  any-same j m e =
      ap (bit_in a m) (label_of-step (atom_rule a closure) (kid t j))
      ∙ (bit-same (marks_of a) (presence (root (kid t j))) (presence (root (kid u j))) (truths (kid t j)) (truths (kid u j)) m e
      ∙ sym (ap (bit_in a m) (label_of-step (atom_rule a closure) (kid u j))))

  first-read : (j : ℕ) (q p : Pattern) → Contains a.lefts q → j < kid_count t → stands_under (get_or (root t) a.atom.first None) j p q ≡ true
      → bit_in a (OfFirst p) (label (kid t j)) ≡ bit_in a (OfFirst p) (label (kid u j))
  first-read j q Any c l s =
      any-same j (OfFirst Any)
      (first-any (bit_in a) a.atom.pairs closure (map label (kids (kid t j))) (is_reaching a.atom.kind) (get_or (root (kid t j)) a.atom.first None)
      ∙ (column-same j a.atom.first
      ∙ sym (first-any (bit_in a) a.atom.pairs closure (map label (kids (kid u j))) (is_reaching a.atom.kind) (get_or (root (kid u j)) a.atom.first None))))
  first-read j q (At g ps) c l s = asked-same j (OfFirst (At g ps)) l (any_true (stands_under (get_or (root t) a.atom.first None) j (At g ps)) a.lefts q c s)

  second-read : (j : ℕ) (q p : Pattern) → Contains a.rights q → j < kid_count t → stands_under (get_or (root t) a.atom.second None) j p q ≡ true
      → bit_in a (OfSecond p) (label (kid t j)) ≡ bit_in a (OfSecond p) (label (kid u j))
  second-read j q Any c l s =
      any-same j (OfSecond Any)
      (second-any (bit_in a) a.atom.pairs closure (map label (kids (kid t j))) (is_reaching a.atom.kind) (get_or (root (kid t j)) a.atom.second None)
      ∙ (column-same j a.atom.second
      ∙ sym (second-any (bit_in a) a.atom.pairs closure (map label (kids (kid u j))) (is_reaching a.atom.kind) (get_or (root (kid u j)) a.atom.second None))))
  second-read j q (At g ps) c l s = asked-same j (OfSecond (At g ps)) l (any_true (stands_under (get_or (root t) a.atom.second None) j (At g ps)) a.rights q c s)

  reads-same : ReadsSame a (get_or (root t) a.atom.first None) (get_or (root t) a.atom.second None) (map label (kids t)) (map label (kids u))
  reads-same =
      let count : length (map label (kids t)) ≡ kid_count t = count-labels label t in
      let same : kid_count t ≡ kid_count u = count-same sig n t u it iu d.root_is in
      let mine : (j : ℕ) (m : Mark) → j < length (map label (kids t)) → bit_in a m (label (kid t j)) ≡ bit_in a m (label (kid u j))
      → bit_in a m (get_or (map label (kids t)) j []) ≡ bit_in a m (get_or (map label (kids u)) j []) =
      λ j m l e. ap (bit_in a m) (kid-label label t j (omega arith)) ∙ (e ∙ sym (ap (bit_in a m) (kid-label label u j (omega arith)))) in
      record {
        count = count ∙ (same ∙ sym (count-labels label u));
        firsts = λ q p j c l s. mine j (OfFirst p) l (first-read j q p c (omega arith) s);
        seconds = λ q p j c l s. mine j (OfSecond p) l (second-read j q p c (omega arith) s);
        facts = λ k j l on. mine j (OfBoth k) l (asked-same j (OfBoth k) (omega arith) on);
      }

  label-same : HasSides a → label t ≡ label u
  label-same sides =
      label_of-step (atom_rule a closure) t
      ∙ (row_of-same (marks_of a) (presence (root t)) (presence (root t)) _ _ refl
      (mark-same a sides closure (get_or (root t) a.atom.first None) (get_or (root t) a.atom.second None) (map label (kids t)) (map label (kids u)) reads-same)
      ∙ (ap (λ f. (atom_rule a closure).step f (map label (kids u))) d.root_is ∙ sym (label_of-step (atom_rule a closure) u)))

-- Result: an atom's label goes by each child's label under the mask
pub GoesByEachKey-atom : (sig : Signature) (n : ℕ) (a : ListedAtom) (closure : Pattern → Pattern → Bool) → HasSides a
    → GoesByEachKey sig n (label_of (atom_rule a closure)) (λ f j w. masked (asked_mask a f j) w)
GoesByEachKey-atom sig n a closure sides t u place it iu low d key = label-same sig n a closure t u place it iu d key sides
