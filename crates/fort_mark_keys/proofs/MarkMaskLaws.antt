-- The bits that are put for patterns and facts are those of the mask.
use Rattle.std.specs.Prelude.{◌≡◌, ℕ, ◌+◌, ◌-◌, ◌*◌, ◌≤◌, List, [], ◌∷◌, ◌++◌, map, length, replicate, get_or, Option, None, Some, Bool, false, refl}
use Rattle.std.proofs.Common.{sym, ap, subst, ◌∙◌, append_assoc, arith}
use Rattle.std.proofs.lemmas.List.{length-append, length-map}
use Rattle.fort_tables.specs.Tuples.{TupleSymbol}
use Rattle.fort_theory.specs.Patterns.{Pattern}
use Rattle.fort_relations.specs.declared.relation.Rel.{Rel}
use Rattle.fort_relations.specs.declared.relation.Rel.TheVariants.{Eq, Root, Below, Step, Par, Plus, Star, Conv}
use Rattle.fort_alike.specs.Atoms.{AtomKind, EqKind, RootKind, StepKind, BelowKind, ParKind, NfKind, StarKind, PlusKind}
use Rattle.fort_alike.specs.Alike.{Fact, facts_of}
use Rattle.fort_alike.specs.ListedAtoms.{Mark, OfFirst, OfSecond, OfBoth, ListedAtom}
use Rattle.fort_alike.specs.AtomRules.{marks_of, same_roots}
use Rattle.fort_alike.proofs.RuleLaws.{row_is}
use Rattle.fort_label_bits.specs.RowBits.{HasBits, IsRow}
use Rattle.fort_label_bits.proofs.RowBitLaws.{HasBits-off}
use Rattle.fort_mark_keys.specs.AskedMarks.{asks, asks_pattern, asks_fact, asked_mask}
use Rattle.fort_mark_keys.specs.AskedFacts.{kind_seen, asked_count, are_asked}
use Rattle.fort_mark_keys.specs.MarkKeysView.{mark_words}

-- bits that are off behind the others
off-behind : (bits : List Bool) (b c : Bool) (w : List ℕ) → HasBits (bits ++ b ∷ c ∷ []) w → HasBits (bits ++ b ∷ c ∷ false ∷ []) w
off-behind bits b c w h =
    subst (λ bs. HasBits bs w) (append_assoc bits (b ∷ c ∷ []) (false ∷ [])) (HasBits-off (bits ++ b ∷ c ∷ []) w h)

-- the bits of the facts
pub HasBits-facts : (rel : Option Rel) (x y : Option ℕ) (bits : List Bool) (w : List ℕ) → HasBits (bits ++ replicate (asked_count (kind_seen rel)) (are_asked rel x y)) w
    → HasBits (bits ++ map (asks_fact x y) (facts_of (kind_seen rel))) w
HasBits-facts None x y bits w h = h
HasBits-facts (Some Eq) x y bits w h = h
HasBits-facts (Some Root) x y bits w h = h
HasBits-facts (Some Below) x y bits w h = off-behind bits (same_roots x y) (same_roots x y) w h
HasBits-facts (Some Step) x y bits w h = h
HasBits-facts (Some Par) x y bits w h = h
HasBits-facts (Some Plus) x y bits w h = h
HasBits-facts (Some Star) x y bits w h = h
HasBits-facts (Some Conv) x y bits w h = h

-- the marks of an atom, kind by kind
map-facts : (b : Mark → Bool) (facts : List Fact) → map b (map OfBoth facts) ≡ map (λ k. b (OfBoth k)) facts
map-facts b [] = refl
map-facts b (k ∷ facts) = ap (λ bs. b (OfBoth k) ∷ bs) (map-facts b facts)

map-seconds : (b : Mark → Bool) (rights : List Pattern) (facts : List Fact)
    → map b (map OfSecond rights ++ map OfBoth facts) ≡ map (λ p. b (OfSecond p)) rights ++ map (λ k. b (OfBoth k)) facts
map-seconds b [] facts = map-facts b facts
map-seconds b (p ∷ rights) facts = ap (λ bs. b (OfSecond p) ∷ bs) (map-seconds b rights facts)

map-marks : (b : Mark → Bool) (lefts rights : List Pattern) (facts : List Fact)
    → map b (map OfFirst lefts ++ (map OfSecond rights ++ map OfBoth facts))
    ≡ (map (λ p. b (OfFirst p)) lefts ++ map (λ p. b (OfSecond p)) rights) ++ map (λ k. b (OfBoth k)) facts
map-marks b [] rights facts = map-seconds b rights facts
map-marks b (p ∷ lefts) rights facts = ap (λ bs. b (OfFirst p) ∷ bs) (map-marks b lefts rights facts)

-- Result: a row with the bits of the patterns and the facts is the mask
pub mask-is : (a : ListedAtom) (f : TupleSymbol) (j : ℕ) (out : List ℕ) → length out ≡ mark_words a
    → IsRow 0 ((map (asks_pattern a.lefts (get_or f a.atom.first None) j) a.lefts ++ map (asks_pattern a.rights (get_or f a.atom.second None) j) a.rights)
    ++ map (asks_fact (get_or f a.atom.first None) (get_or f a.atom.second None)) (facts_of a.atom.kind)) out → out ≡ asked_mask a f j
mask-is a f j out l h =
    row_is out (marks_of a) 0 (asks a f j) l h.words h.first_is
    (λ q m. h.bits_are q ∙ ap (λ bs. get_or bs q false) (sym (map-marks (asks a f j) a.lefts a.rights (facts_of a.atom.kind))))

-- the same, where the roots have names
pub mask-by : (a : ListedAtom) (f : TupleSymbol) (j : ℕ) (x y : Option ℕ) (out : List ℕ) → x ≡ get_or f a.atom.first None → y ≡ get_or f a.atom.second None
    → length out ≡ mark_words a
    → IsRow 0 ((map (asks_pattern a.lefts x j) a.lefts ++ map (asks_pattern a.rights y j) a.rights) ++ map (asks_fact x y) (facts_of a.atom.kind)) out
    → out ≡ asked_mask a f j
mask-by a f j x y out first second l h =
    mask-is a f j out l
    (subst (λ bs. IsRow 0 bs out)
    (λ i. (map (asks_pattern a.lefts (first i) j) a.lefts ++ map (asks_pattern a.rights (second i) j) a.rights) ++ map (asks_fact (first i) (second i)) (facts_of a.atom.kind)) h)

-- the words of a label have room for all bits
pub count-marks : (a : ListedAtom) → length (marks_of a) ≡ length a.lefts + length a.rights + length (facts_of a.atom.kind)
count-marks a =
    omega (
      arith,
      length-append (map OfFirst a.lefts) (map OfSecond a.rights ++ map OfBoth (facts_of a.atom.kind)),
      length-append (map OfSecond a.rights) (map OfBoth (facts_of a.atom.kind)),
      length-map a.lefts OfFirst,
      length-map a.rights OfSecond,
      length-map (facts_of a.atom.kind) OfBoth,
    )

pub room-marks : (a : ListedAtom) (out : List ℕ) → length out ≡ mark_words a → length a.lefts + length a.rights + length (facts_of a.atom.kind) ≤ 64 * (length out - 1)
room-marks a out l = omega (arith, count-marks a, l)

pub asked-few : (kind : AtomKind) → (asked_count kind ≤ length (facts_of kind)) × (length (facts_of kind) ≤ 3) × (asked_count kind ≤ 2)
asked-few EqKind = (omega arith, omega arith, omega arith)
asked-few RootKind = (omega arith, omega arith, omega arith)
asked-few StepKind = (omega arith, omega arith, omega arith)
asked-few BelowKind = (omega arith, omega arith, omega arith)
asked-few ParKind = (omega arith, omega arith, omega arith)
asked-few NfKind = (omega arith, omega arith, omega arith)
asked-few StarKind = (omega arith, omega arith, omega arith)
asked-few PlusKind = (omega arith, omega arith, omega arith)
