-- Two transducers side by side, with silent moves through the table of states that share a term, are the composition.
use Rattle.std.proofs.Common.{◌≡◌, ◌↔◌, ◌⊎◌, ℕ, ◌+◌, ◌<◌, List, [], ◌++◌, map, ap, sym, ◌∙◌, subst, arith, length, inl, inr}
use Rattle.std.specs.Prelude.{Contains}
use Rattle.std.proofs.lemmas.List.{length-map}
use Rattle.std.proofs.lemmas.List.Elements.{Contains-append_left, Contains-append_right, Contains-append_cases}
use Rattle.fort_theory.specs.Trees.{Tree}
use Rattle.fort_theory.specs.Signatures.{Signature, IsGround}
use Rattle.fort_theory.proofs.Members.{Contains-head, Contains-none}
use Rattle.fort_theory.proofs.Lists.{Contains-map, Contains-map_from}
use Rattle.fort_reachability.specs.TreeAutomata.{Automaton, Takes}
use Rattle.fort_reachability.specs.Transducers.{Transducer, Transduces, FitsTransducer}
use Rattle.fort_reachability.specs.ClosureTables.{InClosure, AllInClosure, AnyRight, AnyLeft, ByMoves, ThroughPair, SilentRight, SilentLeft, NoneIn, MoreIn}
use Rattle.fort_reachability.proofs.TakesWithin.{Takes-within}
use Rattle.fort_tree_automata.specs.declared.nta.Nta.{Nta}
use Rattle.fort_tree_automata.specs.NtaView as automata
use Rattle.fort_tree_automata.specs.NtaView.{MoveParts, as_move, moves_of, automaton_of}
use Rattle.fort_tree_automata.specs.Copies.{IsCopy}
use Rattle.fort_tree_automata.proofs.CopiesLaws.{Takes-copied, Takes-from_copy, NamesItsStates-copied}
use Rattle.fort_transducers.specs.declared.agtt.Agtt.{Agtt}
use Rattle.fort_transducers.specs.AgttView.{NamesItsStates, transducer_of}
use Rattle.fort_transducers.specs.Sizes.{SumsSizes}
use Rattle.fort_transducers.proofs.SizesLaws.{count-same, count-pairs}
use Rattle.fort_transducers.proofs.UnionLaws.{shifted_pair}
use Rattle.fort_gtt_closure.specs.declared.entry.Entry.{Entry}
use Rattle.fort_gtt_closure.specs.Reasons.{IsListed, IsNumbered}
use Rattle.fort_gtt_closure.specs.Added.{AreOnward, AreBackward}
use Rattle.fort_gtt_closure.proofs.TableLaws.{state-below}
use Rattle.fort_reachability.specs.TransducerParts.{joined, meeting, inverse_of, ComposedCrossing, ComposedPair, composed}
use Rattle.fort_reachability.specs.Compositions.{IsComposition}
use Rattle.fort_reachability.proofs.ComposedTransducers.{InClosure-turned, composed-is_composition}
use Rattle.fort_composition.specs.Across.{AreBesideAcross, AreAcross}
use Rattle.fort_composition.specs.ComposedNumbers.{IsCompositionOf, AreFew}
use Rattle.fort_composition.proofs.AcrossLaws.{count-across, states-across, Takes-across_first, Takes-across_second, FitsAutomaton-across, NamesItsStates-across}

after : {P Q R : Type 0} → P ↔ Q → Q ↔ R → P ↔ R
after h k = ((λ p. k.0 (h.0 p)), (λ r. h.1 (k.1 r)))

-- the table of two transducers whose automata have the same moves
module _ {Left Right : Type 0} (one other : Transducer Left Right)
    (left_taken : (t : Tree) (q : Left) → Takes one.left t q → Takes other.left t q) (right_taken : (t : Tree) (p : Right) → Takes one.right t p → Takes other.right t p)
    (left_moves : (f : ℕ) (qs : List Left) (q : Left) → one.left.HasMove f qs q → other.left.HasMove f qs q)
    (right_moves : (f : ℕ) (ps : List Right) (p : Right) → one.right.HasMove f ps p → other.right.HasMove f ps p)
    (left_silent : (o q : Left) → one.left.HasSilentMove o q → other.left.HasSilentMove o q) (right_silent : (o p : Right) → one.right.HasSilentMove o p → other.right.HasSilentMove o p)
    (left_any : (q : Left) → one.left.IsAny q → other.left.IsAny q) (right_any : (p : Right) → one.right.IsAny p → other.right.IsAny p)
    (pairs : (a : Left) (b : Right) → one.HasPair a b → other.HasPair a b) where
  mutual
    InClosure-within : {p : Right} {q : Left} → InClosure one p q → InClosure other p q
    InClosure-within (AnyRight {p = p} {q = q} h i) = AnyRight (right_any p h) (record { tree = i.tree; taken = left_taken i.tree q i.taken })
    InClosure-within (AnyLeft {p = p} {q = q} h i) = AnyLeft (left_any q h) (record { tree = i.tree; taken = right_taken i.tree p i.taken })
    InClosure-within (ByMoves {f = f} {ps = ps} {p = p} {qs = qs} {q = q} m n ks) = ByMoves (right_moves f ps p m) (left_moves f qs q n) (all_in-within ks)
    InClosure-within (SilentRight {o = o} {p = p} m h) = SilentRight (right_silent o p m) (InClosure-within h)
    InClosure-within (SilentLeft {o = o} {q = q} m h) = SilentLeft (left_silent o q m) (InClosure-within h)
    InClosure-within (ThroughPair {a = a} {b = b} m h k) = ThroughPair (pairs a b m) (InClosure-within h) (InClosure-within k)

    all_in-within : {ps : List Right} {qs : List Left} → AllInClosure one ps qs → AllInClosure other ps qs
    all_in-within NoneIn = NoneIn
    all_in-within (MoreIn h hs) = MoreIn (InClosure-within h) (all_in-within hs)

-- of copies of two automata, without pairs
module _ (rights lefts : Nta) (agtt : Agtt) (right : IsCopy rights agtt.right) (left : IsCopy lefts agtt.left) (pairs : agtt.pairs.items ≡ []) where
  pub InClosure-copied : (p q : ℕ) → InClosure (transducer_of agtt) p q ↔ InClosure (meeting (automaton_of rights) (automaton_of lefts)) p q
  InClosure-copied p q = (
    InClosure-within (transducer_of agtt) (meeting (automaton_of rights) (automaton_of lefts)) (λ t r h. Takes-from_copy lefts agtt.left left h)
        (λ t r h. Takes-from_copy rights agtt.right right h) (λ f qs r m. subst (λ (ms : List MoveParts). Contains ms (f, qs, r)) left.moves m)
        (λ f qs r m. subst (λ (ms : List MoveParts). Contains ms (f, qs, r)) right.moves m) (λ o r m. subst (λ (ms : List (ℕ × ℕ)). Contains ms (o, r)) left.silent m)
        (λ o r m. subst (λ (ms : List (ℕ × ℕ)). Contains ms (o, r)) right.silent m) (λ r e. sym left.any ∙ e) (λ r e. sym right.any ∙ e)
        (λ a b c. Contains-none (a, b) (subst (λ (ps : List (ℕ × ℕ)). Contains ps (a, b)) pairs c)),
    InClosure-within (meeting (automaton_of rights) (automaton_of lefts)) (transducer_of agtt) (λ t r h. Takes-copied lefts agtt.left left h)
        (λ t r h. Takes-copied rights agtt.right right h) (λ f qs r m. subst (λ (ms : List MoveParts). Contains ms (f, qs, r)) (sym left.moves) m)
        (λ f qs r m. subst (λ (ms : List MoveParts). Contains ms (f, qs, r)) (sym right.moves) m) (λ o r m. subst (λ (ms : List (ℕ × ℕ)). Contains ms (o, r)) (sym left.silent) m)
        (λ o r m. subst (λ (ms : List (ℕ × ℕ)). Contains ms (o, r)) (sym right.silent) m) (λ r e. left.any ∙ e) (λ r e. right.any ∙ e)
        (λ a b c. absurd c),
  )

pub NamesItsStates-meeting : (rights lefts : Nta) (agtt : Agtt) → IsCopy rights agtt.right → IsCopy lefts agtt.left → agtt.pairs.items ≡ []
    → automata.NamesItsStates rights → automata.NamesItsStates lefts → NamesItsStates agtt
NamesItsStates-meeting rights lefts agtt right left pairs rights_named lefts_named = record {
  left = NamesItsStates-copied lefts agtt.left left lefts_named;
  right = NamesItsStates-copied rights agtt.right right rights_named;
  pairs = λ a b c. absurd (Contains-none (a, b) (subst (λ (ps : List (ℕ × ℕ)). Contains ps (a, b)) pairs c));
}

pub IsNumbered-meeting : (first second shared : Agtt) → AreFew first second → IsCopy first.right shared.right → IsCopy second.left shared.left → shared.pairs.items ≡ []
    → IsNumbered shared
IsNumbered-meeting first second shared few right left pairs = record {
  right = let e = count-same first.right shared.right right.moves in let l = few.right_moves in omega (arith, e, l);
  left = let e = count-same second.left shared.left left.moves in let l = few.left_moves in omega (arith, e, l);
  pairs = let none : length shared.pairs.items ≡ 0 = ap length pairs in omega (arith, none);
}

-- states that are in the table are states
module _ (rights lefts : Nta) (rights_named : automata.NamesItsStates rights) (lefts_named : automata.NamesItsStates lefts) where
  below-meeting : {p q : ℕ} → InClosure (meeting (automaton_of rights) (automaton_of lefts)) p q → (p < rights.states) × (q < lefts.states)
  below-meeting (AnyRight {p = p} h i) = (rights_named.any p h, state-below lefts lefts_named i.taken)
  below-meeting (AnyLeft {q = q} h i) = (state-below rights rights_named i.taken, lefts_named.any q h)
  below-meeting (ByMoves {f = f} {ps = ps} {p = p} {qs = qs} {q = q} m n ks) = (rights_named.moves f ps p m p (Contains-head p ps), lefts_named.moves f qs q n q (Contains-head q qs))
  below-meeting (SilentRight {o = o} {p = p} m h) = ((rights_named.silent o p m).1, (below-meeting h).1)
  below-meeting (SilentLeft {o = o} {q = q} m h) = ((below-meeting h).0, (lefts_named.silent o q m).1)
  below-meeting (ThroughPair m h k) = absurd m

-- moves across that are among others
module _ {A B : Type 0} (first : Automaton A) (second : Automaton B) (Crosses Other : A → B → Type 0) (among : (a : A) (q : B) → Crosses a q → Other a q) where
  silent-among : (o q : A ⊎ B) → (joined first second Crosses).HasSilentMove o q → (joined first second Other).HasSilentMove o q
  silent-among (inl o) (inl q) m = m
  silent-among (inl o) (inr q) m = among o q m
  silent-among (inr o) (inl q) m = m
  silent-among (inr o) (inr q) m = m

  Takes-among : {t : Tree} {q : A ⊎ B} → Takes (joined first second Crosses) t q → Takes (joined first second Other) t q
  Takes-among h = Takes-within (joined first second Crosses) (joined first second Other) (λ f qs q m. m) silent-among (λ q m. m) h

-- the moves on the left; those on the right, by the same table
abbrev pub CrossLeft : Agtt → Agtt → List (ℕ × ℕ) → Type 0
CrossLeft first second moves = (a q : ℕ) → Contains moves (a, q) ↔ ComposedCrossing (transducer_of first) (transducer_of second) a q

abbrev pub CrossRight : Agtt → Agtt → List (ℕ × ℕ) → Type 0
CrossRight first second moves =
    (b p : ℕ) → Contains moves (b, p)
    ↔ ((a : ℕ) × Contains second.pairs.items (a, b) × InClosure (meeting (automaton_of first.right) (automaton_of second.left)) p a)

-- what the closure of the copies adds
module _ (first second shared : Agtt) (es : List Entry) (right : IsCopy first.right shared.right) (left : IsCopy second.left shared.left)
    (pairs : shared.pairs.items ≡ []) (table : (p q : ℕ) → IsListed es p q ↔ InClosure (transducer_of shared) p q) where
  listed : (p q : ℕ) → IsListed es p q ↔ InClosure (meeting (automaton_of first.right) (automaton_of second.left)) p q
  listed p q = after (table p q) (InClosure-copied first.right second.left shared right left pairs p q)

  pub CrossLeft-onward : (moves : List (ℕ × ℕ)) → AreOnward es first.pairs.items moves → CrossLeft first second moves
  CrossLeft-onward moves are a q =
      after (are a q) ((λ w. (w.0, w.1, (listed w.0 q).0 w.2)), (λ w. (w.0, w.1, (listed w.0 q).1 w.2)))

  pub CrossRight-backward : (moves : List (ℕ × ℕ)) → AreBackward es second.pairs.items moves → CrossRight first second moves
  CrossRight-backward moves are b p =
      after (are b p) ((λ w. (w.0, w.1, (listed p w.0).0 w.2)), (λ w. (w.0, w.1, (listed p w.0).1 w.2)))

module _ (first second : Agtt) (first_named : NamesItsStates first) (second_named : NamesItsStates second) where
  pub left_across : (moves : List (ℕ × ℕ)) → CrossLeft first second moves → AreAcross first.left second.left moves
  left_across moves cross c h =
      let w = (cross c.0 c.1).0 h in
      ((first_named.pairs c.0 w.0 w.1).0, (below-meeting first.right second.left first_named.right second_named.left w.2).1)

  pub right_across : (moves : List (ℕ × ℕ)) → CrossRight first second moves → AreAcross second.right first.right moves
  right_across moves cross c h =
      let w = (cross c.0 c.1).0 h in
      ((second_named.pairs w.0 c.0 w.1).1, (below-meeting first.right second.left first_named.right second_named.left w.2).0)

module _ (first second both : Agtt) (first_named : NamesItsStates first) (second_named : NamesItsStates second)
    (onward backward : List (ℕ × ℕ)) (cross_left : CrossLeft first second onward) (cross_right : CrossRight first second backward)
    (left : AreBesideAcross first.left second.left both.left onward) (right : AreBesideAcross second.right first.right both.right backward)
    (pairs : both.pairs.items ≡ map (shifted_pair 0 second.right.states) first.pairs.items ++ map (shifted_pair first.left.states 0) second.pairs.items) where
  abbrev T1 : Transducer ℕ ℕ
  T1 = transducer_of first

  abbrev T2 : Transducer ℕ ℕ
  T2 = transducer_of second

  module _ (signature : Signature) (fits_first : FitsTransducer signature (transducer_of first)) (fits_second : FitsTransducer signature (transducer_of second)) where
    fits_meeting : FitsTransducer signature (meeting (automaton_of first.right) (automaton_of second.left))
    fits_meeting = record { constant = fits_first.constant; left = fits_second.left; right = fits_first.right }

    left-listed : (a q : ℕ) → Contains onward (a, q) → ComposedCrossing T1 T2 a q
    left-listed a q h = (cross_left a q).0 h

    listed-left : (a q : ℕ) → ComposedCrossing T1 T2 a q → Contains onward (a, q)
    listed-left a q w = (cross_left a q).1 w

    right-listed : (b p : ℕ) → Contains backward (b, p) → ComposedCrossing (inverse_of T2) (inverse_of T1) b p
    right-listed b p h =
        let w = (cross_right b p).0 h in
        (w.0, w.1, (InClosure-turned signature (automaton_of first.right) (automaton_of second.left) fits_meeting p w.0).0 w.2)

    listed-right : (b p : ℕ) → ComposedCrossing (inverse_of T2) (inverse_of T1) b p → Contains backward (b, p)
    listed-right b p w =
        (cross_right b p).1 (w.0, w.1, (InClosure-turned signature (automaton_of first.right) (automaton_of second.left) fits_meeting p w.0).1 w.2)

    -- the numbers against the two kinds of states
    left-low : (s : Tree) (q : ℕ) → q < first.left.states → Takes (automaton_of both.left) s q ↔ Takes (composed T1 T2).left s (inl q)
    left-low s q low =
        after (Takes-across_first first.left second.left both.left onward left first_named.left second_named.left (left_across first second first_named second_named onward cross_left) s q low) (
          Takes-among (automaton_of first.left) (automaton_of second.left) (λ a r. Contains onward (a, r)) (ComposedCrossing T1 T2) left-listed,
          Takes-among (automaton_of first.left) (automaton_of second.left) (ComposedCrossing T1 T2) (λ a r. Contains onward (a, r)) listed-left,
        )

    left-high : (s : Tree) (q : ℕ) → Takes (automaton_of both.left) s (q + first.left.states) ↔ Takes (composed T1 T2).left s (inr q)
    left-high s q =
        after (Takes-across_second first.left second.left both.left onward left first_named.left second_named.left (left_across first second first_named second_named onward cross_left) s q) (
          Takes-among (automaton_of first.left) (automaton_of second.left) (λ a r. Contains onward (a, r)) (ComposedCrossing T1 T2) left-listed,
          Takes-among (automaton_of first.left) (automaton_of second.left) (ComposedCrossing T1 T2) (λ a r. Contains onward (a, r)) listed-left,
        )

    right-low : (t : Tree) (q : ℕ) → q < second.right.states → Takes (automaton_of both.right) t q ↔ Takes (composed T1 T2).right t (inl q)
    right-low t q low =
        after (Takes-across_first second.right first.right both.right backward right second_named.right first_named.right (right_across first second first_named second_named backward cross_right) t q low) (
          Takes-among (automaton_of second.right) (automaton_of first.right) (λ b r. Contains backward (b, r))
              (ComposedCrossing (inverse_of T2) (inverse_of T1)) right-listed,
          Takes-among (automaton_of second.right) (automaton_of first.right) (ComposedCrossing (inverse_of T2) (inverse_of T1))
              (λ b r. Contains backward (b, r)) listed-right,
        )

    right-high : (t : Tree) (q : ℕ) → Takes (automaton_of both.right) t (q + second.right.states) ↔ Takes (composed T1 T2).right t (inr q)
    right-high t q =
        after (Takes-across_second second.right first.right both.right backward right second_named.right first_named.right (right_across first second first_named second_named backward cross_right) t q) (
          Takes-among (automaton_of second.right) (automaton_of first.right) (λ b r. Contains backward (b, r))
              (ComposedCrossing (inverse_of T2) (inverse_of T1)) right-listed,
          Takes-among (automaton_of second.right) (automaton_of first.right) (ComposedCrossing (inverse_of T2) (inverse_of T1))
              (λ b r. Contains backward (b, r)) listed-right,
        )

    abstract_is : IsComposition signature T1 T2
    abstract_is = composed-is_composition signature T1 T2 fits_first fits_second

    -- pairs
    pair_cases : (a b : ℕ) → Contains both.pairs.items (a, b)
        → ((p : ℕ × ℕ) × Contains first.pairs.items p × (shifted_pair 0 second.right.states p ≡ (a, b)))
        ⊎ ((p : ℕ × ℕ) × Contains second.pairs.items p × (shifted_pair first.left.states 0 p ≡ (a, b)))
    pair_cases a b c =
        elim (Contains-append_cases (map (shifted_pair 0 second.right.states) first.pairs.items) (map (shifted_pair first.left.states 0) second.pairs.items) (a, b)
        (subst (λ (ps : List (ℕ × ℕ)). Contains ps (a, b)) pairs c)) [
          | inl here ↦ inl (Contains-map_from (shifted_pair 0 second.right.states) first.pairs.items (a, b) here)
          | inr there ↦ inr (Contains-map_from (shifted_pair first.left.states 0) second.pairs.items (a, b) there)
        ]

    plus_none : (k : ℕ) → k + 0 ≡ k
    plus_none k = omega arith

    pair_first : (p : ℕ × ℕ) → Contains first.pairs.items p → Contains both.pairs.items (p.0, p.1 + second.right.states)
    pair_first p c =
        subst (λ k. Contains both.pairs.items (k, p.1 + second.right.states)) (plus_none p.0)
        (subst (λ (ps : List (ℕ × ℕ)). Contains ps (shifted_pair 0 second.right.states p)) (sym pairs)
        (Contains-append_left (map (shifted_pair 0 second.right.states) first.pairs.items) (map (shifted_pair first.left.states 0) second.pairs.items)
        (shifted_pair 0 second.right.states p) (Contains-map (shifted_pair 0 second.right.states) first.pairs.items p c)))

    pair_second : (p : ℕ × ℕ) → Contains second.pairs.items p → Contains both.pairs.items (p.0 + first.left.states, p.1)
    pair_second p c =
        subst (λ k. Contains both.pairs.items (p.0 + first.left.states, k)) (plus_none p.1)
        (subst (λ (ps : List (ℕ × ℕ)). Contains ps (shifted_pair first.left.states 0 p)) (sym pairs)
        (Contains-append_right (map (shifted_pair 0 second.right.states) first.pairs.items) (map (shifted_pair first.left.states 0) second.pairs.items)
        (shifted_pair first.left.states 0 p) (Contains-map (shifted_pair first.left.states 0) second.pairs.items p c)))

    by-first : (s t : Tree) (p : ℕ × ℕ) → Contains first.pairs.items p → Takes (automaton_of both.left) s p.0 → Takes (automaton_of both.right) t (p.1 + second.right.states)
        → IsGround signature s → IsGround signature t → Transduces signature (composed T1 T2) s t
    by-first s t p c h k gs gt = record {
      left_state = inl p.0;
      right_state = inr p.1;
      paired = c;
      left_taken = (left-low s p.0 (first_named.pairs p.0 p.1 c).0).0 h;
      right_taken = (right-high t p.1).0 k;
      left_grounded = gs;
      right_grounded = gt;
    }

    by-second : (s t : Tree) (p : ℕ × ℕ) → Contains second.pairs.items p → Takes (automaton_of both.left) s (p.0 + first.left.states) → Takes (automaton_of both.right) t p.1
        → IsGround signature s → IsGround signature t → Transduces signature (composed T1 T2) s t
    by-second s t p c h k gs gt = record {
      left_state = inr p.0;
      right_state = inl p.1;
      paired = c;
      left_taken = (left-high s p.0).0 h;
      right_taken = (right-low t p.1 (second_named.pairs p.0 p.1 c).1).0 k;
      left_grounded = gs;
      right_grounded = gt;
    }

    composed-from_both : (s t : Tree) → Transduces signature (transducer_of both) s t → Transduces signature (composed T1 T2) s t
    composed-from_both s t h = elim (pair_cases h.left_state h.right_state h.paired) [
      | inl w ↦
          by-first s t w.0 w.1
          (subst (Takes (automaton_of both.left) s) (sym (ap (λ (p : ℕ × ℕ). p.0) w.2) ∙ plus_none w.0.0) h.left_taken)
          (subst (Takes (automaton_of both.right) t) (sym (ap (λ (p : ℕ × ℕ). p.1) w.2)) h.right_taken)
          h.left_grounded h.right_grounded
      | inr w ↦
          by-second s t w.0 w.1
          (subst (Takes (automaton_of both.left) s) (sym (ap (λ (p : ℕ × ℕ). p.0) w.2)) h.left_taken)
          (subst (Takes (automaton_of both.right) t) (sym (ap (λ (p : ℕ × ℕ). p.1) w.2) ∙ plus_none w.0.1) h.right_taken)
          h.left_grounded h.right_grounded
    ]

    of-pair : (s t : Tree) (a b : ℕ ⊎ ℕ) → ComposedPair T1 T2 a b → Takes (composed T1 T2).left s a → Takes (composed T1 T2).right t b
        → IsGround signature s → IsGround signature t → Transduces signature (transducer_of both) s t
    of-pair s t (inl a) (inl b) c h k gs gt = absurd c
    of-pair s t (inl a) (inr b) c h k gs gt = record {
      left_state = a;
      right_state = b + second.right.states;
      paired = pair_first (a, b) c;
      left_taken = (left-low s a (first_named.pairs a b c).0).1 h;
      right_taken = (right-high t b).1 k;
      left_grounded = gs;
      right_grounded = gt;
    }
    of-pair s t (inr a) (inl b) c h k gs gt = record {
      left_state = a + first.left.states;
      right_state = b;
      paired = pair_second (a, b) c;
      left_taken = (left-high s a).1 h;
      right_taken = (right-low t b (second_named.pairs a b c).1).1 k;
      left_grounded = gs;
      right_grounded = gt;
    }
    of-pair s t (inr a) (inr b) c h k gs gt = absurd c

    both-from_composed : (s t : Tree) → Transduces signature (composed T1 T2) s t → Transduces signature (transducer_of both) s t
    both-from_composed s t h = of-pair s t h.left_state h.right_state h.paired h.left_taken h.right_taken h.left_grounded h.right_grounded

    pub numbers-are_composition : IsCompositionOf first second both signature
    numbers-are_composition = record {
      fits = record {
        constant = fits_first.constant;
        left = FitsAutomaton-across first.left second.left both.left onward left first_named.left second_named.left (left_across first second first_named second_named onward cross_left) signature fits_first.left
            fits_second.left;
        right = FitsAutomaton-across second.right first.right both.right backward right second_named.right first_named.right (right_across first second first_named second_named backward cross_right) signature
            fits_second.right fits_first.right;
      };
      relates = λ s t. after (composed-from_both s t, both-from_composed s t) (abstract_is.relates s t);
      left_first = λ s q low. after (left-low s q low) (abstract_is.left_first s q);
      left_second = λ s grounded q. after (left-high s q) (abstract_is.left_second s grounded q);
      right_second = λ t q low. after (right-low t q low) (abstract_is.right_second t q);
      right_first = λ t grounded q. after (right-high t q) (abstract_is.right_first t grounded q);
    }

  left_states : both.left.states ≡ first.left.states + second.left.states
  left_states = states-across first.left second.left both.left onward left

  right_states : both.right.states ≡ second.right.states + first.right.states
  right_states = states-across second.right first.right both.right backward right

  pub SumsSizes-composed : SumsSizes first second both
  SumsSizes-composed = record {
    left_moves = count-across first.left second.left both.left onward left;
    right_moves =
        (let back = count-across second.right first.right both.right backward right in
        omega (arith, back));
    pairs =
        (let front = length-map first.pairs.items (shifted_pair 0 second.right.states) in
        let all : length both.pairs.items ≡ length (map (shifted_pair 0 second.right.states) first.pairs.items) + length second.pairs.items =
        ap length pairs ∙ count-pairs (map (shifted_pair 0 second.right.states) first.pairs.items) second.pairs.items (shifted_pair first.left.states 0) in
        omega (arith, front, all));
  }

  named-pairs : (a b : ℕ) → Contains both.pairs.items (a, b) → (a < both.left.states) × (b < both.right.states)
  named-pairs a b c =
      elim (Contains-append_cases (map (shifted_pair 0 second.right.states) first.pairs.items) (map (shifted_pair first.left.states 0) second.pairs.items) (a, b)
      (subst (λ (ps : List (ℕ × ℕ)). Contains ps (a, b)) pairs c)) [
        | inl here ↦
            let w = Contains-map_from (shifted_pair 0 second.right.states) first.pairs.items (a, b) here in
            let low = first_named.pairs w.0.0 w.0.1 w.1 in
            let is_left : w.0.0 + 0 ≡ a = ap (λ (p : ℕ × ℕ). p.0) w.2 in
            let is_right : w.0.1 + second.right.states ≡ b = ap (λ (p : ℕ × ℕ). p.1) w.2 in
            (omega (arith, low.0, left_states, is_left), omega (arith, low.1, right_states, is_right))
        | inr there ↦
            let w = Contains-map_from (shifted_pair first.left.states 0) second.pairs.items (a, b) there in
            let low = second_named.pairs w.0.0 w.0.1 w.1 in
            let is_left : w.0.0 + first.left.states ≡ a = ap (λ (p : ℕ × ℕ). p.0) w.2 in
            let is_right : w.0.1 + 0 ≡ b = ap (λ (p : ℕ × ℕ). p.1) w.2 in
            (omega (arith, low.0, left_states, is_left), omega (arith, low.1, right_states, is_right))
      ]

  pub NamesItsStates-composed : NamesItsStates both
  NamesItsStates-composed = record {
    left = NamesItsStates-across first.left second.left both.left onward left first_named.left second_named.left (left_across first second first_named second_named onward cross_left);
    right = NamesItsStates-across second.right first.right both.right backward right second_named.right first_named.right (right_across first second first_named second_named backward cross_right);
    pairs = named-pairs;
  }
