-- Keys that ask as an atom's labels do are keys of these, and those of its kind, arguments and patterns ask so; any label goes by whole labels.
use Rattle.std.proofs.Common.{◌≡◌, ℕ, suc, ◌<◌, List, [], ◌++◌, Bool, map, length, refl, sym, ap, subst, ◌∙◌, arith, ⊎_elim}
use Rattle.std.proofs.lemmas.Bool.{cases_eq}
use Rattle.std.proofs.lemmas.List.{ext_get_or}
use Rattle.fort_theory.specs.Signatures.{Signature}
use Rattle.fort_theory.specs.Patterns.{Pattern}
use Rattle.fort_tables.specs.Tuples.{TupleSymbol, root, kid, kids, kid_count}
use Rattle.fort_tables.specs.BitRows.{words_for}
use Rattle.fort_tables.specs.Labels.{Labelling}
use Rattle.fort_tables.specs.LabelRules.{LabelRule, label_of}
use Rattle.fort_tables.proofs.LabelRuleLaws.{label_of-step}
use Rattle.fort_classes.specs.Keys.{GoesByEachKey}
use Rattle.fort_label_keys.specs.ViewKeys.{keys_by}
use Rattle.fort_alike.specs.Atoms.{AtomKind}
use Rattle.fort_alike.specs.Alike.{facts_of}
use Rattle.fort_alike.specs.ListedAtoms.{Mark, OfFirst, OfSecond, OfBoth, ListedAtom, listed}
use Rattle.fort_alike.specs.AtomRules.{marks_of, atom_rule}
use Rattle.fort_alike.proofs.Bits.{row_of-same}
use Rattle.fort_mark_keys.specs.MaskedWords.{masked}
use Rattle.fort_mark_keys.specs.AskedMarks.{asks, asked_mask, HasSides}
use Rattle.fort_mark_keys.specs.MarkKeysView.{IsOfPatterns, AsksAs}
use Rattle.fort_mark_keys.proofs.AtomKeyLaws.{kid-label, count-labels, count-same, GoesByEachKey-atom}

-- Result: any label goes by whole labels
pub GoesByEachKey-whole : (sig : Signature) (n : ℕ) (r : LabelRule) → GoesByEachKey sig n (label_of r) (λ f j w. w)
GoesByEachKey-whole sig n r t u place it iu low d key =
    let label : Labelling = label_of r in
    let same : kid_count t ≡ kid_count u = count-same sig n t u it iu d.root_is in
    let kids-same : map label (kids t) ≡ map label (kids u) =
    ext_get_or [] (map label (kids t)) (map label (kids u)) (count-labels label t ∙ (same ∙ sym (count-labels label u)))
    (λ j l. let m : j < kid_count t = omega (arith, count-labels label t) in
    kid-label label t j m
    ∙ (⊎_elim (λ e. ap (λ i. label (kid t i)) e ∙ (key ∙ ap (λ i. label (kid u i)) (sym e))) (λ e. d.others j m e) (cases_eq j place)
    ∙ sym (kid-label label u j (omega arith)))) in
    label_of-step r t ∙ (ap (r.step (root t)) kids-same ∙ (ap (λ f. r.step f (map label (kids u))) d.root_is ∙ sym (label_of-step r u)))

-- Result: an atom's labels go by masks that are those of its labels
pub GoesByEachKey-masks : (sig : Signature) (n : ℕ) (a : ListedAtom) (closure : Pattern → Pattern → Bool) (k : ListedAtom) → HasSides a → AsksAs k a
    → GoesByEachKey sig n (label_of (atom_rule a closure)) (keys_by (asked_mask k) masked)
GoesByEachKey-masks sig n a closure k sides own =
    let same : keys_by (asked_mask k) masked ≡ (λ f j w. masked (asked_mask a f j) w) = λ i f j w. masked (own.masks f j i) w in
    subst (GoesByEachKey sig n (label_of (atom_rule a closure))) (sym same) (GoesByEachKey-atom sig n a closure sides)

-- what masks are made of
abbrev bare : (first second : ℕ) → AtomKind → (lefts rights : List Pattern) → ListedAtom
bare first second kind lefts rights = listed (record { signature = []; columns = 0; first = first; second = second; kind = kind; pairs = [] }) lefts rights

asks-bare : (a : ListedAtom) (f : TupleSymbol) (j : ℕ) (m : Mark) → asks a f j m ≡ asks (bare a.atom.first a.atom.second a.atom.kind a.lefts a.rights) f j m
asks-bare a f j (OfFirst p) = refl
asks-bare a f j (OfSecond p) = refl
asks-bare a f j (OfBoth k) = refl

mask-bare : (a : ListedAtom) (f : TupleSymbol) (j : ℕ) → asked_mask a f j ≡ asked_mask (bare a.atom.first a.atom.second a.atom.kind a.lefts a.rights) f j
mask-bare a f j =
    row_of-same (marks_of a) 0 0 (asks a f j) (asks (bare a.atom.first a.atom.second a.atom.kind a.lefts a.rights) f j) refl (λ m c. asks-bare a f j m)

-- Result: atoms of one kind with the same arguments and patterns ask the same, whatever their signatures and rules
pub AsksAs-same : (k a : ListedAtom) → k.atom.first ≡ a.atom.first → k.atom.second ≡ a.atom.second → k.atom.kind ≡ a.atom.kind → k.lefts ≡ a.lefts → k.rights ≡ a.rights
    → AsksAs k a
AsksAs-same k a first second kind lefts rights = record {
  masks = λ f j. mask-bare k f j ∙ ((λ i. asked_mask (bare (first i) (second i) (kind i) (lefts i) (rights i)) f j) ∙ sym (mask-bare a f j));
  words = λ i. suc (words_for (length (map OfFirst (lefts i) ++ (map OfSecond (rights i) ++ map OfBoth (facts_of (kind i))))));
}

-- Result: so do keys of its kind, its arguments and its patterns
pub AsksAs-patterns : (k a : ListedAtom) → IsOfPatterns a.atom.kind a.atom.first a.atom.second a.lefts a.rights k → AsksAs k a
AsksAs-patterns k a is = AsksAs-same k a is.first_is is.second_is is.kind_is is.lefts_are is.rights_are
