-- Sides by the elements of their lists.
use Rattle.std.proofs.Common.{◌≡◌, ℕ, zero, suc, ◌+◌, ◌-◌, ◌<◌, ◌≤◌, List, [], ◌∷◌, ◌++◌, length, map, slice_get, take, drop, Some, refl, ap, sym, ◌∙◌, subst, arith, append_assoc, append-nil, length-append, length-drop}
use Rattle.std.specs.List.{AllByRecursion}
use Rattle.std.proofs.lemmas.List.{length-map, take_all}
use Rattle.fort_theory.specs.Signatures.{Signature, IsName}
use Rattle.fort_theory.specs.Sides as theory
use Rattle.fort_terms.specs.declared.side.Side.{Side}
use Rattle.fort_terms.specs.SideView.{as_side, as_sides}
use Rattle.fort_grammar.specs.Forms.{Form, Forms, Word, ListForm, NoForm, MoreForms}
use Rattle.fort_grammar.specs.Declarations.{as_list, word_of, elements_of, ProblemFault}
use Rattle.fort_grammar.specs.RuleForms.{IsSide, AreSides, AConstant, AVariable, AnApplication, NoSides, MoreOf, IsFunctionNamed, IsBadSide, AreBadSides, InArguments, FirstIsBad, LaterIsBad}
use Rattle.fort_sexpr.specs.FormCode.{node_count, node_counts}
use Rattle.fort_ari.specs.Grounds.{IsSymbolOf}
use Rattle.fort_ari.specs.SideForms.{IsRightSide, IsHeadFor, AreRightUpTo, ReadsSide, AreSidesEach, NoneOfThem, OneOfThem, ReadsUpTo}
use Rattle.fort_ari.proofs.Grounds.{one_more}
use Rattle.fort_ari.proofs.Parts.{AllByRecursion-append}
use Rattle.fort_ari.proofs.SideLaws.{word_no_list, one_word, AreSides-count}
use Rattle.fort_ari.proofs.OneSide.{renumbered, AllNumberedFrom}

module _ (bytes : List ℕ) (signature : Signature) where
  right_forms : (fs : Forms) (n : ℕ) → AllByRecursion (IsRightSide bytes signature) (as_list fs)
      → (names : List (List ℕ)) × AllNumberedFrom bytes signature n fs (length (as_list fs)) names
  right_forms NoForm n h = ([], record { sides = theory.NoSide; are = NoSides; counted = refl })
  right_forms (MoreForms f fs) n h =
      let first = h.0 in
      let one = renumbered n first.is in
      let rest = right_forms fs (n + length first.names) h.1 in
      let count = rest.1.counted in
      (first.names ++ rest.0, record { sides = theory.MoreSides one.side rest.1.sides; are = MoreOf one.is rest.1.are; counted = omega arith })

  -- a list whose head is right, and whose arguments are
  pub right_application : (f : Form) (es : List Form) → elements_of f ≡ Some es → IsHeadFor bytes signature es
      → AllByRecursion (IsRightSide bytes signature) (drop 1 es) → IsRightSide bytes signature f
  right_application (Word from to) es e h all = absurd cc
  right_application (ListForm from to NoForm) es e h all = let is = h.is in absurd cc
  right_application (ListForm from to (MoreForms x NoForm)) es e h all = let is = h.is in absurd cc
  right_application (ListForm from to (MoreForms x (MoreForms y fs))) es e h all =
      let is = h.is in
      let same : es ≡ x ∷ y ∷ as_list fs = cc in
      let head : h.head ≡ x = cc in
      let behind : h.first ∷ h.others ≡ y ∷ as_list fs = cc in
      let kids = right_forms (MoreForms y fs) 0 (subst (λ xs. AllByRecursion (IsRightSide bytes signature) (drop 1 xs)) same all) in
      let r = kids.1 in
      record {
        side = theory.App h.g r.sides;
        names = kids.0;
        is = AnApplication (subst (λ z. IsFunctionNamed bytes signature z h.g) head h.named)
            (h.takes ∙ (ap (λ (xs : List Form). Some (length xs)) behind ∙ ap Some (sym r.counted))) r.are;
      }

  bad_forms : (i : ℕ) (fault : ProblemFault) (fs : Forms) (k : ℕ) (kid : Form) → AllByRecursion (IsRightSide bytes signature) (take k (as_list fs))
      → slice_get (as_list fs) k ≡ Some kid → IsBadSide bytes signature i kid fault → AreBadSides bytes signature i fs fault
  bad_forms i fault NoForm k kid h e bad = absurd cc
  bad_forms i fault (MoreForms f fs) zero kid h e bad =
      let same : f ≡ kid = cc in FirstIsBad (subst (λ z. IsBadSide bytes signature i z fault) (sym same) bad)
  bad_forms i fault (MoreForms f fs) (suc k) kid h e bad =
      let first = h.0 in LaterIsBad first.side first.names first.is (bad_forms i fault fs k kid h.1 e bad)

  -- a list whose head is right, and one of whose arguments is bad behind right ones
  pub bad_argument : (f : Form) (es : List Form) (i at : ℕ) (kid : Form) (fault : ProblemFault) → elements_of f ≡ Some es → IsHeadFor bytes signature es
      → AreRightUpTo bytes signature es at → slice_get es at ≡ Some kid → IsBadSide bytes signature i kid fault → IsBadSide bytes signature i f fault
  bad_argument (Word from to) es i at kid fault e h r k bad = absurd cc
  bad_argument (ListForm from to NoForm) es i at kid fault e h r k bad = let is = h.is in absurd cc
  bad_argument (ListForm from to (MoreForms x NoForm)) es i at kid fault e h r k bad = let is = h.is in absurd cc
  bad_argument (ListForm from to (MoreForms x (MoreForms y fs))) es i zero kid fault e h r k bad = absurd (let low = r.low in omega arith)
  bad_argument (ListForm from to (MoreForms x (MoreForms y fs))) es i (suc at) kid fault e h r k bad =
      let is = h.is in
      let same : es ≡ x ∷ y ∷ as_list fs = cc in
      let head : h.head ≡ x = cc in
      let behind : h.first ∷ h.others ≡ y ∷ as_list fs = cc in
      let before : suc at - 1 ≡ at = omega arith in
      let all : AllByRecursion (IsRightSide bytes signature) (take at (y ∷ as_list fs)) =
      subst (λ n. AllByRecursion (IsRightSide bytes signature) (take n (y ∷ as_list fs))) before
      (subst (λ xs. AllByRecursion (IsRightSide bytes signature) (take (suc at - 1) (drop 1 xs))) same r.each) in
      let here : slice_get (y ∷ as_list fs) at ≡ Some kid = ap (λ xs. slice_get xs (suc at)) (sym same) ∙ k in
      InArguments (subst (λ z. IsFunctionNamed bytes signature z h.g) head h.named) (h.takes ∙ ap (λ (xs : List Form). Some (length xs)) behind)
      (bad_forms i fault (MoreForms y fs) at kid all here bad)

  pub right_none : (es : List Form) → AreRightUpTo bytes signature es 1
  right_none es = record { low = omega arith; each = tt }

  pub right_more : (es : List Form) (i : ℕ) (f : Form) → AreRightUpTo bytes signature es i → slice_get es i ≡ Some f → IsRightSide bytes signature f
      → AreRightUpTo bytes signature es (i + 1)
  right_more es zero f a e is = absurd (let l = a.low in omega arith)
  right_more es (suc k) f a e is =
      let before : suc k - 1 ≡ k = omega arith in
      let after : suc k + 1 - 1 ≡ suc k = omega arith in
      let each = subst (λ n. AllByRecursion (IsRightSide bytes signature) (take n (drop 1 es))) before a.each in
      record {
        low = omega arith;
        each = subst (λ n. AllByRecursion (IsRightSide bytes signature) (take n (drop 1 es))) (sym after)
            (subst (AllByRecursion (IsRightSide bytes signature)) (sym (one_more es k f e))
            (AllByRecursion-append (IsRightSide bytes signature) (take k (drop 1 es)) (f ∷ []) each (is, tt)));
      }

  pub right_all : (es : List Form) (i : ℕ) → AreRightUpTo bytes signature es i → length es ≤ i → AllByRecursion (IsRightSide bytes signature) (drop 1 es)
  right_all es i a l = subst (AllByRecursion (IsRightSide bytes signature)) (take_all (i - 1) (drop 1 es) (omega (arith, length-drop 1 es))) a.each

  -- the head of a list that is a side
  pub right_head : (f : Form) (es : List Form) → elements_of f ≡ Some es → IsRightSide bytes signature f → IsHeadFor bytes signature es
  right_head f es e r = go f e r.is
    where
      go : {n : ℕ} (z : Form) {s : theory.Side} {names : List (List ℕ)} → elements_of z ≡ Some es → IsSide bytes signature n z s names → IsHeadFor bytes signature es
      go z e (AConstant named none) = absurd (word_no_list bytes z _ _ named.word e)
      go z e (AVariable named) = absurd (word_no_list bytes z _ _ named.word e)
      go z e (AnApplication {head = h} {first = x} {others = o} {g = g} {ss = ss} named takes args) = record {
        head = h;
        first = x;
        others = as_list o;
        g = g;
        is = cc;
        named = named;
        takes = takes ∙ ap Some (sym (AreSides-count args));
      }

  right_among : {n : ℕ} {fs : Forms} {ss : theory.Sides} {names : List (List ℕ)} (i : ℕ) (kid : Form) → AreSides bytes signature n fs ss names
      → slice_get (as_list fs) i ≡ Some kid → IsRightSide bytes signature kid
  right_among i kid NoSides e = absurd cc
  right_among zero kid (MoreOf {f = f} {names = names} first rest) e =
      let same : f ≡ kid = cc in
      let one = renumbered 0 first in
      subst (IsRightSide bytes signature) same (record { side = one.side; names = names; is = one.is })
  right_among (suc i) kid (MoreOf first rest) e = right_among i kid rest e

  -- and its arguments
  pub right_argument : (f : Form) (es : List Form) (i : ℕ) (kid : Form) → elements_of f ≡ Some es → IsRightSide bytes signature f → 1 ≤ i
      → slice_get es i ≡ Some kid → IsRightSide bytes signature kid
  right_argument f es zero kid e r low k = absurd (omega arith)
  right_argument f es (suc i) kid e r low k = go f e r.is
    where
      go : {n : ℕ} (z : Form) {s : theory.Side} {names : List (List ℕ)} → elements_of z ≡ Some es → IsSide bytes signature n z s names → IsRightSide bytes signature kid
      go z e (AConstant named none) = absurd (word_no_list bytes z _ _ named.word e)
      go z e (AVariable named) = absurd (word_no_list bytes z _ _ named.word e)
      go z e (AnApplication {head = h} {first = x} {others = o} named takes args) =
          let same : h ∷ x ∷ as_list o ≡ es = cc in right_among i kid args (ap (λ xs. slice_get xs (suc i)) same ∙ k)

  each_push : (n : ℕ) (fs : List Form) (ss : List Side) (names more : List (List ℕ)) (f : Form) (s : Side) → AreSidesEach bytes signature n fs ss names
      → IsSide bytes signature (n + length names) f (as_side s) more → AreSidesEach bytes signature n (fs ++ f ∷ []) (ss ++ s ∷ []) (names ++ more)
  each_push n [] [] names more f s NoneOfThem is =
      let same : n + 0 ≡ n = omega arith in
      subst (AreSidesEach bytes signature n (f ∷ []) (s ∷ [])) (append-nil more)
      (OneOfThem (subst (λ k. IsSide bytes signature k f (as_side s) more) same is) NoneOfThem)
  each_push n [] (t ∷ ss) names more f s h is = elim h [ ]
  each_push n (g ∷ fs) [] names more f s h is = elim h [ ]
  each_push n (g ∷ fs) (t ∷ ss) names more f s (OneOfThem {names = xs} {others = ys} first rest) is =
      let place : n + length (xs ++ ys) ≡ n + length xs + length ys = omega (arith, length-append xs ys) in
      let later = each_push (n + length xs) fs ss ys more f s rest (subst (λ k. IsSide bytes signature k f (as_side s) more) place is) in
      subst (AreSidesEach bytes signature n (g ∷ (fs ++ f ∷ [])) (t ∷ (ss ++ s ∷ []))) (sym (append_assoc xs ys more)) (OneOfThem first later)

  each_sides : (n : ℕ) (fs : Forms) (ss : List Side) (names : List (List ℕ)) → AreSidesEach bytes signature n (as_list fs) ss names
      → AreSides bytes signature n fs (as_sides ss) names
  each_sides n NoForm [] names NoneOfThem = NoSides
  each_sides n NoForm (s ∷ ss) names h = elim h [ ]
  each_sides n (MoreForms f fs) [] names h = elim h [ ]
  each_sides n (MoreForms f fs) (s ∷ ss) _ (OneOfThem {names = xs} {others = ys} first rest) = MoreOf first (each_sides (n + length xs) fs ss ys rest)

  mutual
    -- a side has no more variables than its form has words and lists
    pub names-node_count : {n : ℕ} {f : Form} {s : theory.Side} {names : List (List ℕ)} → IsSide bytes signature n f s names → length names ≤ node_count f
    names-node_count {f = Word from to} (AConstant named none) = omega arith
    names-node_count {f = ListForm from to fs} (AConstant named none) = omega arith
    names-node_count {f = Word from to} (AVariable named) = omega arith
    names-node_count {f = ListForm from to fs} (AVariable named) = omega arith
    names-node_count (AnApplication named takes args) = omega (arith, all_names-node_counts args)

    all_names-node_counts : {n : ℕ} {fs : Forms} {ss : theory.Sides} {names : List (List ℕ)} → AreSides bytes signature n fs ss names
        → length names ≤ node_counts fs
    all_names-node_counts NoSides = omega arith
    all_names-node_counts (MoreOf {names = xs} {others = ys} first rest) =
        omega (arith, names-node_count first, all_names-node_counts rest, length-append xs ys)

  -- with those of the elements before it
  each-node_count : (n : ℕ) (fs : Forms) (k : ℕ) (kid : Form) (ss : List Side) (names : List (List ℕ)) → AreSidesEach bytes signature n (take k (as_list fs)) ss names
      → slice_get (as_list fs) k ≡ Some kid → length names + node_count kid ≤ node_counts fs
  each-node_count n NoForm k kid ss names h e = absurd cc
  each-node_count n (MoreForms f fs) zero kid [] [] NoneOfThem e = let same : f ≡ kid = cc in let count = ap node_count same in omega arith
  each-node_count n (MoreForms f fs) zero kid ss names h e = elim h [ ]
  each-node_count n (MoreForms f fs) (suc k) kid [] names h e = elim h [ ]
  each-node_count n (MoreForms f fs) (suc k) kid (s ∷ ss) names (OneOfThem {names = xs} {others = ys} first rest) e =
      omega (arith, names-node_count first, each-node_count (n + length xs) fs k kid ss ys rest e, length-append xs ys)

  -- where there is room for the names of a side, there is for those of its next argument
  pub room_for_argument : {K : Type 0} (name : K → List ℕ) (f : Form) (es : List Form) (i most : ℕ) (kid : Form) (old new : List K) (ss : List Side)
      → elements_of f ≡ Some es → ReadsUpTo bytes signature es i (map name old) (map name new) ss → slice_get es i ≡ Some kid
      → length old + node_count f < most → length new + node_count kid < most
  room_for_argument name (Word from to) es i most kid old new ss e a k l = absurd cc
  room_for_argument name (ListForm from to NoForm) es i most kid old new ss e a k l = absurd (let same : [] ≡ es = cc in let here = ap (λ xs. slice_get xs i) same ∙ k in cc)
  room_for_argument name (ListForm from to (MoreForms x fs)) es zero most kid old new ss e a k l = absurd (let low = a.low in omega arith)
  room_for_argument name (ListForm from to (MoreForms x fs)) es (suc i) most kid old new ss e a k l =
      let same : es ≡ x ∷ as_list fs = cc in
      let before : suc i - 1 ≡ i = omega arith in
      let each : AreSidesEach bytes signature (length (map name old)) (take i (as_list fs)) ss a.names =
      subst (λ n. AreSidesEach bytes signature (length (map name old)) (take n (as_list fs)) ss a.names) before
      (subst (λ xs. AreSidesEach bytes signature (length (map name old)) (take (suc i - 1) (drop 1 xs)) ss a.names) same a.each) in
      let here : slice_get (as_list fs) i ≡ Some kid = ap (λ xs. slice_get xs (suc i)) (sym same) ∙ k in
      let count = each-node_count (length (map name old)) fs i kid ss a.names each here in
      omega (arith, count, ap length a.added, length-append (map name old) a.names, length-map old name, length-map new name)

  pub read_none : (es : List Form) (old : List (List ℕ)) → ReadsUpTo bytes signature es 1 old old []
  read_none es old = record { low = omega arith; names = []; added = sym (append-nil old); each = NoneOfThem }

  pub read_more : (es : List Form) (i : ℕ) (f : Form) (old new newer : List (List ℕ)) (ss : List Side) (s : Side) → ReadsUpTo bytes signature es i old new ss
      → slice_get es i ≡ Some f → ReadsSide bytes signature f new newer (as_side s) → ReadsUpTo bytes signature es (i + 1) old newer (ss ++ s ∷ [])
  read_more es zero f old new newer ss s a e r = absurd (let l = a.low in omega arith)
  read_more es (suc k) f old new newer ss s a e r =
      let before : suc k - 1 ≡ k = omega arith in
      let after : suc k + 1 - 1 ≡ suc k = omega arith in
      let each = subst (λ n. AreSidesEach bytes signature (length old) (take n (drop 1 es)) ss a.names) before a.each in
      let place : length new ≡ length old + length a.names = ap length a.added ∙ length-append old a.names in
      record {
        low = omega arith;
        names = a.names ++ r.names;
        added = r.added ∙ (ap (λ xs. xs ++ r.names) a.added ∙ append_assoc old a.names r.names);
        each = subst (λ n. AreSidesEach bytes signature (length old) (take n (drop 1 es)) (ss ++ s ∷ []) (a.names ++ r.names)) (sym after)
            (subst (λ fs. AreSidesEach bytes signature (length old) fs (ss ++ s ∷ []) (a.names ++ r.names)) (sym (one_more es k f e))
            (each_push (length old) (take k (drop 1 es)) ss a.names r.names f s each
            (subst (λ n. IsSide bytes signature n f (as_side s) r.names) place r.is)));
      }

  -- all arguments behind a head
  pub read_all : (f head : Form) (es : List Form) (i g : ℕ) (old new : List (List ℕ)) (ss : List Side) → elements_of f ≡ Some es
      → IsHeadFor bytes signature es → slice_get es 0 ≡ Some head → IsSymbolOf bytes signature head (length es - 1) g → ReadsUpTo bytes signature es i old new ss
      → length es ≤ i → ReadsSide bytes signature f old new (theory.App g (as_sides ss))
  read_all (Word from to) head es i g old new ss e h k s a l = absurd cc
  read_all (ListForm from to NoForm) head es i g old new ss e h k s a l = let is = h.is in absurd cc
  read_all (ListForm from to (MoreForms x NoForm)) head es i g old new ss e h k s a l = let is = h.is in absurd cc
  read_all (ListForm from to (MoreForms x (MoreForms y fs))) head es i g old new ss e h k s a l =
      let same : es ≡ x ∷ y ∷ as_list fs = cc in
      let is = h.is in
      let first : h.head ≡ x = cc in
      let here : head ≡ x = (let there : slice_get (x ∷ y ∷ as_list fs) 0 ≡ Some head = ap (λ xs. slice_get xs 0) (sym same) ∙ k in cc) in
      let each = subst (λ xs. AreSidesEach bytes signature (length old) xs ss a.names) (take_all (i - 1) (drop 1 es) (omega (arith, length-drop 1 es))) a.each in
      let kids = each_sides (length old) (MoreForms y fs) ss a.names (subst (λ xs. AreSidesEach bytes signature (length old) (drop 1 xs) ss a.names) same each) in
      let count : length es - 1 ≡ theory.side_count (as_sides ss) = (let n = ap length same in omega (arith, AreSides-count kids)) in
      let named : IsFunctionNamed bytes signature x g = record {
        name = s.name;
        word = ap (word_of bytes) (sym here) ∙ s.word;
        named = subst IsName (one_word bytes x h.named.name s.name (ap (word_of bytes) (sym first) ∙ h.named.word) (ap (word_of bytes) (sym here) ∙ s.word)) h.named.named;
        declared = s.is;
      } in
      record { names = a.names; added = a.added; is = AnApplication named (s.takes ∙ ap Some count) kids }
