-- Classes are given in their order: in a table that lists its entries, each class below a target is the target of an earlier entry over classes.
use Rattle.std.proofs.Common.{◌≡◌, ◌⊎◌, ℕ, zero, suc, ◌<◌, ◌≤◌, max, List, [], ◌∷◌, map, length, get_or, refl, ap, sym, ◌∙◌, arith, subst, inl, inr, ⊎_elim}
use Rattle.std.proofs.lemmas.Bool.{cases_lt}
use Rattle.std.proofs.lemmas.List.{length-map, get_or-map, get_or_default}
use Rattle.fort_tables.specs.Tuples.{TupleSymbol}
use Rattle.fort_tables.specs.Entries.{Entry, entry, stage, LexBefore, ComesBefore, no_entry}
use Rattle.fort_tables.specs.Tables.{Table, Listed, listed_table, IsListed, IsFirstWith, IsTableEntry}
use Rattle.fort_tables.proofs.OrderLaws.{before_irrefl, before_trans, stage_within}
use Rattle.fort_tables.proofs.NumberLaws.{listed_target, first_before_greater}
use Rattle.fort_tables.specs.Merges.{class_of, first_of, count_of, leader, led, lifted, AreNumbered, IsMerge, merged}
use Rattle.fort_tables.proofs.NumberedClasses.{has_class, first_below, first_within, first_class, class_within}
use Rattle.fort_tables.proofs.CoarsestLaws.{new_class}
use Rattle.fort_tables.proofs.MergeLaws.{IsTableEntry-lifted, presence-class, class_count}

-- lists of numbers that are nowhere greater
lex_lower : (ks ls : List ℕ) → length ks ≡ length ls → ((j : ℕ) → j < length ks → get_or ks j 0 ≤ get_or ls j 0) → (ks ≡ ls) ⊎ LexBefore ◌<◌ ks ls
lex_lower [] [] e h = inl refl
lex_lower [] (y ∷ ls) e h = absurd (omega arith)
lex_lower (x ∷ ks) [] e h = absurd (omega arith)
lex_lower (x ∷ ks) (y ∷ ls) e h = ⊎_elim
    (λ l. inr (inl l))
    (λ l. let same : x ≡ y = omega (arith, h 0 (omega arith)) in
    ⊎_elim (λ r. inl (λ i. same i ∷ r i)) (λ r. inr (inr (same, r))) (lex_lower ks ls (omega arith) (λ j m. h (suc j) (omega arith))))
    (cases_lt x y)

stage_lower : (ks ls : List ℕ) → length ks ≡ length ls → ((j : ℕ) → j < length ks → get_or ks j 0 ≤ get_or ls j 0) → stage ks ≤ stage ls
stage_lower [] [] e h = omega arith
stage_lower [] (y ∷ ls) e h = absurd (omega arith)
stage_lower (x ∷ ks) [] e h = absurd (omega arith)
stage_lower (x ∷ ks) (y ∷ ls) e h = omega (arith, h 0 (omega arith), stage_lower ks ls (omega arith) (λ j m. h (suc j) (omega arith)))

lower_before : (f : TupleSymbol) (ks ls : List ℕ) → length ks ≡ length ls → ((j : ℕ) → j < length ks → get_or ks j 0 ≤ get_or ls j 0) → (ks ≡ ls) ⊎ ComesBefore (entry f ks) (entry f ls)
lower_before f ks ls e h = ⊎_elim
    (λ s. inl s)
    (λ lex. ⊎_elim (λ l. inr (inl l)) (λ l. inr (inr (omega (arith, stage_lower ks ls e h), inr (refl, lex)))) (cases_lt (stage ks) (stage ls)))
    (lex_lower ks ls e h)

-- first states ascend
pub first_ascends : (classes : List ℕ) (c d : ℕ) → AreNumbered classes → c < d → d < count_of classes → first_of classes c < first_of classes d
first_ascends classes c d h l b =
    let at = first_within classes d h b in
    let is = first_class classes d h b in
    let own : leader classes (first_of classes d) ≡ first_of classes d = ap (first_of classes) is in
    let new = new_class classes (first_of classes d) h at own in
    let r = has_class classes h (first_of classes d) c (omega arith) (omega (arith, is, new)) in
    omega (arith, r.before, first_below classes r.state (omega (arith, r.before)), ap (first_of classes) r.class_is)

-- a stage behind a map of states
abbrev raised : (ℕ → ℕ) → ℕ → ℕ
raised F zero = zero
raised F (suc k) = suc (F k)

abbrev Ascends : (ℕ → ℕ) → ℕ → Type 0
Ascends F n = (c d : ℕ) → c < d → d < n → F c < F d

abbrev AreBelow : ℕ → List ℕ → Type 0
AreBelow n ks = (j : ℕ) → j < length ks → get_or ks j 0 < n

raised_ascends : (F : ℕ → ℕ) (n a b : ℕ) → Ascends F n → a < b → b ≤ n → raised F a < raised F b
raised_ascends F n a zero h l m = absurd (omega arith)
raised_ascends F n zero (suc b) h l m = omega arith
raised_ascends F n (suc a) (suc b) h l m = omega (arith, h a b (omega arith) (omega arith))

raised_most : (F : ℕ → ℕ) (n a b : ℕ) → Ascends F n → a ≤ n → b ≤ n → max (raised F a) (raised F b) ≡ raised F (max a b)
raised_most F n a b h l m = ⊎_elim
    (λ c. let e : max a b ≡ b = omega arith in omega (arith, raised_ascends F n a b h c m, ap (raised F) e))
    (λ c. ⊎_elim
    (λ d. let e : max a b ≡ a = omega arith in omega (arith, raised_ascends F n b a h d l, ap (raised F) e))
    (λ d. let e : max a b ≡ a = omega arith in let f : a ≡ b = omega arith in omega (arith, ap (raised F) e, ap (raised F) f))
    (cases_lt b a))
    (cases_lt a b)

stage-map : (F : ℕ → ℕ) (n : ℕ) (ks : List ℕ) → Ascends F n → AreBelow n ks → stage (map F ks) ≡ raised F (stage ks)
stage-map F n [] h b = refl
stage-map F n (x ∷ ks) h b =
    let rest : AreBelow n ks = λ j l. b (suc j) (omega arith) in
    omega (arith, stage-map F n ks h rest, raised_most F n (suc x) (stage ks) h (b 0 (omega arith)) (stage_within n ks rest))

raised_back : (F : ℕ → ℕ) (n a b : ℕ) → Ascends F n → a ≤ n → b ≤ n → raised F a < raised F b → a < b
raised_back F n a b h l m r = ⊎_elim
    (λ c. c)
    (λ c. ⊎_elim (λ d. absurd (omega (arith, raised_ascends F n b a h d l))) (λ d. let e : a ≡ b = omega arith in absurd (omega (arith, ap (raised F) e))) (cases_lt b a))
    (cases_lt a b)

raised_same : (F : ℕ → ℕ) (n a b : ℕ) → Ascends F n → a ≤ n → b ≤ n → raised F a ≡ raised F b → a ≡ b
raised_same F n a b h l m r = ⊎_elim
    (λ c. absurd (omega (arith, raised_ascends F n a b h c m)))
    (λ c. ⊎_elim (λ d. absurd (omega (arith, raised_ascends F n b a h d l))) (λ d. omega arith) (cases_lt b a))
    (cases_lt a b)

suc_less : (k l : ℕ) → suc k < suc l → k < l
suc_less k l h = omega arith

suc_same : (k l : ℕ) → suc k ≡ suc l → k ≡ l
suc_same k l h = omega arith

lex_back : (F : ℕ → ℕ) (n : ℕ) (ks ls : List ℕ) → Ascends F n → AreBelow n ks → AreBelow n ls → LexBefore ◌<◌ (map F ks) (map F ls) → LexBefore ◌<◌ ks ls
lex_back F n [] ls h a b x = absurd x
lex_back F n (k ∷ ks) [] h a b x = absurd x
lex_back F n (k ∷ ks) (l ∷ ls) h a b x = ⊎_elim
    (λ y. inl (suc_less k l (raised_back F n (suc k) (suc l) h (a 0 (omega arith)) (b 0 (omega arith)) (omega (arith, y)))))
    (λ y. inr (
      suc_same k l (raised_same F n (suc k) (suc l) h (a 0 (omega arith)) (b 0 (omega arith)) (ap suc y.0)),
      lex_back F n ks ls h (λ j m. a (suc j) (omega arith)) (λ j m. b (suc j) (omega arith)) y.1,
    ))
    x

mapped_back : (F : ℕ → ℕ) (n : ℕ) (f g : TupleSymbol) (ks ls : List ℕ) → Ascends F n → AreBelow n ks → AreBelow n ls → ComesBefore (entry f (map F ks)) (entry g (map F ls)) → ComesBefore (entry f ks) (entry g ls)
mapped_back F n f g ks ls h a b x =
    let sk = stage-map F n ks h a in
    let sl = stage-map F n ls h b in
    ⊎_elim
    (λ y. inl (raised_back F n (stage ks) (stage ls) h (stage_within n ks a) (stage_within n ls b) (omega (arith, sk, sl))))
    (λ y. inr (
      raised_same F n (stage ks) (stage ls) h (stage_within n ks a) (stage_within n ls b) (omega (arith, sk, sl, y.0)),
      ⊎_elim (λ z. inl z) (λ z. inr (z.0, lex_back F n ks ls h a b z.1)) y.1,
    ))
    x

map_classes : (classes : List ℕ) (ks : List ℕ) → map (first_of classes) (map (class_of classes) ks) ≡ map (leader classes) ks
map_classes classes [] = refl
map_classes classes (k ∷ ks) = ap (λ r. leader classes k ∷ r) (map_classes classes ks)

-- the entry over the classes of its states
abbrev pub classed : List ℕ → Entry → Entry
classed classes e = entry e.symbol (map (class_of classes) e.kids)

-- an entry over classes that comes earlier, with this class for its target
pub record IsGivenBefore (table : Table) (classes : List ℕ) (c : ℕ) (e : Entry) : Type 0 where
  pub earlier : Entry
  pub is_entry : IsTableEntry (merged table classes) earlier
  pub before : ComesBefore earlier e
  pub target : (merged table classes).target earlier ≡ c

module _ (l : Listed) (classes : List ℕ) (is : IsListed l) (m : IsMerge (listed_table l) classes) where
  IsTableEntry-classed : (e : Entry) → IsTableEntry (listed_table l) e → IsTableEntry (merged (listed_table l) classes) (classed classes e)
  IsTableEntry-classed e h =
      let count : length (classed classes e).kids ≡ length e.kids = length-map e.kids (class_of classes) in
      let at : (j : ℕ) → j < length e.kids → get_or (classed classes e).kids j 0 ≡ class_of classes (get_or e.kids j 0) = λ j k. get_or-map (class_of classes) e.kids j 0 0 k in
      record {
        symbol = h.symbol;
        count = count ∙ h.count;
        within = λ j k. let b : j < length e.kids = omega (arith, count) in
            omega (arith, at j b, class_count (listed_table l) classes is.table m, class_within classes (get_or e.kids j 0) (omega (arith, m.count, h.within j b)));
        presence = λ j k. let b : j < length e.kids = omega (arith, count) in
            let q = get_or e.kids j 0 in
            let w : q < length classes = omega (arith, m.count, h.within j b) in
            ap (λ c. get_or (merged (listed_table l) classes).presences c 0) (at j b)
            ∙ (presence-class (listed_table l) classes is.table m (class_of classes q) (class_within classes q w) ∙ (sym (m.columns q w) ∙ h.presence j b));
      }

  IsTableEntry-led : (e : Entry) → IsTableEntry (listed_table l) e → IsTableEntry (listed_table l) (led classes e)
  IsTableEntry-led e h =
      subst (λ ks. IsTableEntry (listed_table l) (entry e.symbol ks)) (map_classes classes e.kids)
      (IsTableEntry-lifted (listed_table l) classes is.table m (classed classes e) (IsTableEntry-classed e h))

  place_of : (e : Entry) → IsTableEntry (listed_table l) e → (k : ℕ) × (k < length l.entries) × (get_or l.entries k e ≡ e)
  place_of e h = is.all e h

  places_ascend : (a b : Entry) (i j : ℕ) → i < length l.entries → j < length l.entries → get_or l.entries i a ≡ a → get_or l.entries j b ≡ b → ComesBefore a b → i < j
  places_ascend a b i j li lj ea eb h = ⊎_elim
      (λ r. r)
      (λ r. ⊎_elim
      (λ s. absurd (before_irrefl a (before_trans a b a h
      (subst (λ x. ComesBefore b x) (get_or_default l.entries i b a li ∙ ea) (subst (λ x. ComesBefore x (get_or l.entries i b)) eb (is.order.order j i b s li))))))
      (λ s. let same : i ≡ j = omega arith in
      let e : a ≡ b = sym ea ∙ (get_or_default l.entries i a b li ∙ (ap (λ k. get_or l.entries k b) same ∙ eb)) in
      absurd (before_irrefl a (subst (λ x. ComesBefore a x) (sym e) h)))
      (cases_lt j i))
      (cases_lt i j)

  target_at : (e : Entry) (k : ℕ) → k < length l.entries → get_or l.entries k e ≡ e → (listed_table l).target e ≡ get_or l.targets k 0
  target_at e k b at =
      ap (listed_table l).target (sym (get_or_default l.entries k (no_entry l.columns) e b ∙ at)) ∙ listed_target l k is (omega (arith, is.count))

  -- the first entry that gives the first state of a class has only first states
  first_is_led : (s : ℕ) (e : Entry) → s < length classes → leader classes s ≡ s → IsTableEntry (listed_table l) e → IsFirstWith l.entries l.targets s e → map (leader classes) e.kids ≡ e.kids
  first_is_led s e b own h first =
      let low : (j : ℕ) → j < length (map (leader classes) e.kids) → get_or (map (leader classes) e.kids) j 0 ≤ get_or e.kids j 0 =
      λ j k. let c : j < length e.kids = omega (arith, length-map e.kids (leader classes)) in
      omega (arith, get_or-map (leader classes) e.kids j 0 0 c, first_below classes (get_or e.kids j 0) (omega (arith, m.count, h.within j c))) in
      ⊎_elim
      (λ same. same)
      (λ before.
      let led_is = IsTableEntry-led e h in
      let at = place_of (led classes e) led_is in
      let here : first.place < length l.entries = omega (arith, first.within, is.count) in
      let i = places_ascend (led classes e) e at.0 first.place at.1 here at.2 (first.is e) before in
      let small : (listed_table l).target (led classes e) < s = omega (arith, target_at (led classes e) at.0 at.1 at.2, first.before at.0 i) in
      let given : (listed_table l).target e ≡ s = target_at e first.place here (first.is e) ∙ first.target in
      let together : class_of classes ((listed_table l).target (led classes e)) ≡ class_of classes s = sym (m.whole e h) ∙ ap (class_of classes) given in
      absurd (omega (arith, small, own, ap (first_of classes) together, first_below classes ((listed_table l).target (led classes e)) (omega arith))))
      (lower_before e.symbol (map (leader classes) e.kids) e.kids (length-map e.kids (leader classes)) low)

  -- Result: each class below a target is given by an earlier entry
  pub class_given_before : (e : Entry) (c : ℕ) → IsTableEntry (merged (listed_table l) classes) e → c < (merged (listed_table l) classes).target e → IsGivenBefore (listed_table l) classes c e
  class_given_before e c h b =
      let up = IsTableEntry-lifted (listed_table l) classes is.table m e h in
      let q = (listed_table l).target (lifted classes e) in
      let wq : q < length classes = omega (arith, m.count, is.table.within (lifted classes e) up) in
      let high = class_within classes q wq in
      let s = first_of classes c in
      let ws = first_within classes c m.numbered (omega (arith, high)) in
      let class_s = first_class classes c m.numbered (omega (arith, high)) in
      let less : s < q = omega (arith, first_ascends classes c (class_of classes q) m.numbered b high, first_below classes q wq) in
      let first = is.numbered s (omega (arith, m.count)) in
      let at = place_of (lifted classes e) up in
      let here : first.1.place < length l.entries = omega (arith, first.1.within, is.count) in
      let es = first.0 in
      let es_is : IsTableEntry (listed_table l) es = subst (IsTableEntry (listed_table l)) (first.1.is es) (is.order.are first.1.place es here) in
      let low : first.1.place < at.0 = first_before_greater l.entries l.targets s at.0 es first.1 (omega (arith, target_at (lifted classes e) at.0 at.1 at.2)) in
      let before : ComesBefore es (lifted classes e) =
      subst (λ x. ComesBefore x (lifted classes e)) (get_or_default l.entries first.1.place (lifted classes e) es here ∙ first.1.is es)
      (subst (λ x. ComesBefore (get_or l.entries first.1.place (lifted classes e)) x) at.2 (is.order.order first.1.place at.0 (lifted classes e) low at.1)) in
      let led_same = first_is_led s es ws (ap (first_of classes) class_s) es_is first.1 in
      let back : lifted classes (classed classes es) ≡ es = ap (entry es.symbol) (map_classes classes es.kids ∙ led_same) in
      let given : (listed_table l).target es ≡ s = target_at es first.1.place here (first.1.is es) ∙ first.1.target in
      let es_class = IsTableEntry-classed es es_is in
      record {
        earlier = classed classes es;
        is_entry = es_class;
        before = mapped_back (first_of classes) (count_of classes) es.symbol e.symbol (map (class_of classes) es.kids) e.kids
            (λ x y k n. first_ascends classes x y m.numbered k n)
            (λ j k. omega (arith, class_count (listed_table l) classes is.table m, es_class.within j k))
            (λ j k. omega (arith, class_count (listed_table l) classes is.table m, h.within j k))
            (subst (λ x. ComesBefore x (lifted classes e)) (sym back) before);
        target = ap (λ x. class_of classes ((listed_table l).target x)) back ∙ (ap (class_of classes) given ∙ class_s);
      }
