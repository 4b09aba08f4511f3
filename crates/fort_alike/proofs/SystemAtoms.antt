-- The atom of a core formula over a system, with the patterns of its sides listed, is what the lemmas on labels ask for.
use Rattle.std.specs.Prelude.{◌≢◌, ℕ, List, [], map, All, refl}
use Rattle.std.proofs.Common.{inl}
use Rattle.std.proofs.lemmas.List.Elements.{All-nil, All-append, All-map, All-weaker}
use Rattle.fort_theory.specs.Signatures.{Signature}
use Rattle.fort_theory.specs.Sides.{at_index}
use Rattle.fort_theory.specs.Patterns.{Pattern, Pair, FitsPair, PatternSystem, IsSystem}
use Rattle.fort_theory.specs.PatternOrder.{AreSubpatternsInOrder}
use Rattle.fort_theory.proofs.IndexLaws.{All-at_index}
use Rattle.fort_theory.proofs.Members.{Contains-none}
use Rattle.fort_theory.specs.Cores.{Rel, Eq, Root, Below, Step, Par, Plus, Star, Conv, Leaf, Related}
use Rattle.fort_theory.specs.Parts as parts
use Rattle.fort_alike.specs.Atoms.{NfKind, both_ways, kind_for, pairs_for, relation_atom, normal_atom}
use Rattle.fort_alike.specs.ListedAtoms.{listed, IsListedAtom}
use Rattle.fort_alike.proofs.AtomPlaces.{ArePlaces-columns}

fits-both_ways : (sig : Signature) (pairs : List Pair) → All (FitsPair sig) pairs → All (FitsPair sig) (both_ways pairs)
fits-both_ways sig pairs h =
    All-append (FitsPair sig) pairs (map (λ (pair : Pair). (pair.1, pair.0)) pairs) h
    (All-map (FitsPair sig) (λ (pair : Pair). (pair.1, pair.0)) pairs
    (All-weaker (FitsPair sig) (λ (pair : Pair). FitsPair sig (pair.1, pair.0)) (λ pair fits. (fits.1, fits.0)) pairs h))

fits-pairs_for : (sig : Signature) (rel : Rel) (pairs : List Pair) → All (FitsPair sig) pairs → All (FitsPair sig) (pairs_for rel pairs)
fits-pairs_for sig Eq pairs h = All-nil (FitsPair sig)
fits-pairs_for sig Root pairs h = h
fits-pairs_for sig Below pairs h = h
fits-pairs_for sig Step pairs h = h
fits-pairs_for sig Par pairs h = h
fits-pairs_for sig Plus pairs h = h
fits-pairs_for sig Star pairs h = h
fits-pairs_for sig Conv pairs h = fits-both_ways sig pairs h

kind_for-other : (rel : Rel) → kind_for rel ≢ NfKind
kind_for-other Eq e = cc
kind_for-other Root e = cc
kind_for-other Below e = cc
kind_for-other Step e = cc
kind_for-other Par e = cc
kind_for-other Plus e = cc
kind_for-other Star e = cc
kind_for-other Conv e = cc

module _ (system : PatternSystem) (is : IsSystem system) (index : ℕ) where
  -- for an equation there are no pairs, and the lists are empty
  pub IsListedAtom-relation : (rel : Rel) (x y : ℕ) (columns : List ℕ) → parts.AreColumns (Leaf (Related rel index x y)) columns → (lefts rights : List Pattern)
      → AreSubpatternsInOrder (map (λ (pair : Pair). pair.0) (pairs_for rel (at_index index system.rules))) lefts
      → AreSubpatternsInOrder (map (λ (pair : Pair). pair.1) (pairs_for rel (at_index index system.rules))) rights
      → IsListedAtom (listed (relation_atom system rel index x y columns) lefts rights)
  IsListedAtom-relation rel x y columns are lefts rights left_order right_order = record {
    arguments = (ArePlaces-columns rel index x y columns are).arguments;
    single = λ e. absurd (kind_for-other rel e);
    constant = is.constant;
    fit =
        fits-pairs_for system.signature rel (at_index index system.rules)
        (All-at_index (FitsPair system.signature) index system.rules is.fits);
    left_patterns = left_order.same;
    right_patterns = λ p. ((λ c. (kind_for-other rel, (right_order.same p).0 c)), (λ w. (right_order.same p).1 w.1));
  }

  pub IsListedAtom-normal : (lefts : List Pattern) → AreSubpatternsInOrder (map (λ (pair : Pair). pair.0) (at_index index system.rules)) lefts
      → IsListedAtom (listed (normal_atom system index) lefts [])
  IsListedAtom-normal lefts left_order = record {
    arguments = inl (refl, refl, refl);
    single = λ e. refl;
    constant = is.constant;
    fit = All-at_index (FitsPair system.signature) index system.rules is.fits;
    left_patterns = left_order.same;
    right_patterns = λ p. ((λ c. absurd (Contains-none p c)), (λ w. absurd (w.0 refl)));
  }
