-- The label of "the variable is this term" goes by the child's number where it is asked, at each place.
use Rattle.std.proofs.Common.{◌≡◌, ◌⊎◌, ℕ, zero, suc, ◌*◌, ◌<◌, ◌≤◌, List, [], ◌∷◌, map, length, get_or, Contains, Option, None, Some, Bool, true, false, ◌&&◌, ◌==◌, if◌then◌else◌, refl, sym, ap, subst, ◌∙◌, arith, inl, inr, ⊎_elim, true≢false}
use Rattle.std.proofs.lemmas.Bool.{cases_eq, cases_lt}
use Rattle.std.proofs.lemmas.Bool.Decides.{Decides-eqb}
use Rattle.std.proofs.lemmas.List.{length-map, get_or-map, get_or_past, ext_get_or}
use Rattle.fort_theory.specs.Signatures.{Signature}
use Rattle.fort_theory.specs.Trees.{Tree, Trees, Node}
use Rattle.fort_theory.proofs.Lists.{none-some, some-injective}
use Rattle.fort_tables.specs.Tuples.{TupleSymbol, root, kid, kids, kid_count, presence}
use Rattle.fort_tables.specs.Labels.{Labelling}
use Rattle.fort_tables.specs.LabelRules.{label_of}
use Rattle.fort_tables.specs.BitRows.{has_bit, words_for}
use Rattle.fort_tables.proofs.BitRowLaws.{has_bit-bit_row, has_bit-bit_row_past}
use Rattle.fort_tables.proofs.LabelRuleLaws.{label_of-step}
use Rattle.fort_classes.specs.Keys.{GoesByEachKey}
use Rattle.fort_alike.specs.TermRule.{number_in, numbered, put_first, all_numbered, number_over, number_at, number_word, term_rule}
use Rattle.fort_alike.proofs.SubtermLaws.{Decides-same_tree, Contains-number_in}
use Rattle.fort_label_bits.proofs.RootPlaceLaws.{any_true}
use Rattle.fort_mark_keys.specs.AskedTerms.{is_child, stands_below, asks_tree, asks_number, asked_numbers, number_seen}
use Rattle.fort_mark_keys.proofs.AtomKeyLaws.{kid-label, count-labels, count-same}

-- trees by numbers have the tree of each number in its place
record IsChildOf (found : Option Tree) (j : ℕ) (ss : Trees) : Type 0 where
  tree : Tree
  is : found ≡ Some tree
  child : is_child tree j ss ≡ true

child-first : (o : Option Tree) (r : Option Trees) (ss : Trees) → put_first o r ≡ Some ss → IsChildOf o 0 ss
child-first None r ss e = absurd (none-some e)
child-first (Some s) None ss e = absurd (none-some e)
child-first (Some s) (Some rs) ss e =
    record { tree = s; is = refl; child = ap (is_child s 0) (sym (some-injective e)) ∙ (Decides-same_tree s s).1 refl }

child-later : (found o : Option Tree) (r : Option Trees) (j : ℕ) (ss : Trees) → put_first o r ≡ Some ss → ((rs : Trees) → r ≡ Some rs → IsChildOf found j rs)
    → IsChildOf found (suc j) ss
child-later found None r j ss e h = absurd (none-some e)
child-later found (Some s) None j ss e h = absurd (none-some e)
child-later found (Some s) (Some rs) j ss e h =
    let w = h rs refl in record { tree = w.tree; is = w.is; child = ap (is_child w.tree (suc j)) (sym (some-injective e)) ∙ w.child }

child-numbered : (listed : List Tree) (ns : List ℕ) (j : ℕ) (ss : Trees) → all_numbered listed ns ≡ Some ss → j < length ns → IsChildOf (numbered listed (get_or ns j 0)) j ss
child-numbered listed [] j ss e l = absurd (omega arith)
child-numbered listed (n ∷ ns) zero ss e l = child-first (numbered listed n) (all_numbered listed ns) ss e
child-numbered listed (n ∷ ns) (suc j) ss e l =
    child-later (numbered listed (get_or ns j 0)) (numbered listed n) (all_numbered listed ns) j ss e (λ rs i. child-numbered listed ns j rs i (omega arith))

-- where a child's number isn't asked, the node has none
module _ (listed : List Tree) (f : ℕ) (ns : List ℕ) (j : ℕ) (l : j < length ns) (off : asks_number listed (Some f) j (get_or ns j 0) ≡ false) where
  unasked-node : (ss : Trees) → all_numbered listed ns ≡ Some ss → Contains listed (Node f ss) → ⊥
  unasked-node ss e c =
      let w = child-numbered listed ns j ss e l in
      let same : (f == f) ≡ true = (Decides-eqb f f).1 refl in
      let stands : stands_below (Some f) j w.tree (Node f ss) ≡ true = ap (λ b. b && is_child w.tree j ss) same ∙ w.child in
      true≢false (sym (any_true (stands_below (Some f) j w.tree) listed (Node f ss) c stands) ∙ (ap (asks_tree listed (Some f) j) (sym w.is) ∙ off))

  no-number : (ss : Trees) (k : ℕ) → all_numbered listed ns ≡ Some ss → number_in listed (Node f ss) ≡ k → number_in listed (Node f ss) ≡ 0
  no-number ss zero e is = is
  no-number ss (suc k) e is = absurd (unasked-node ss e (Contains-number_in listed (Node f ss) k is))

  no-number-over : (found : Option Trees) → all_numbered listed ns ≡ found → number_over listed f found ≡ 0
  no-number-over None e = refl
  no-number-over (Some ss) e = no-number ss (number_in listed (Node f ss)) e refl

  unasked-none : number_over listed f (all_numbered listed ns) ≡ 0
  unasked-none = no-number-over (all_numbered listed ns) refl

-- the bits tell which numbers are asked
pub past-none : (listed : List Tree) (x : Option ℕ) (j n : ℕ) → length listed < n → asks_number listed x j n ≡ false
past-none listed x j zero l = absurd (omega arith)
past-none listed x j (suc i) l = ap (asks_tree listed x j) (get_or_past (map Some listed) i None (omega (arith, length-map listed Some)))

asked-number : (listed : List Tree) (f : TupleSymbol) (j n : ℕ) → has_bit (asked_numbers listed f j) n ≡ asks_number listed (get_or f 0 None) j n
asked-number listed f j n = ⊎_elim
    (λ l. has_bit-bit_row (suc (length listed)) (asks_number listed (get_or f 0 None) j) n l)
    (λ (l : 64 * words_for (suc (length listed)) ≤ n). has_bit-bit_row_past (suc (length listed)) (asks_number listed (get_or f 0 None) j) n l
    ∙ sym (past-none listed (get_or f 0 None) j n (omega arith)))
    (cases_lt n (64 * words_for (suc (length listed))))

-- what is seen of two numbers is one: they are one, or neither is asked
abbrev AreSeenAlike : (asks : ℕ → Bool) (n m : ℕ) → Type 0
AreSeenAlike asks n m = (n ≡ m) ⊎ ((asks n ≡ false) × (asks m ≡ false))

alike-by : (asks : ℕ → Bool) (n m : ℕ) → asks 0 ≡ false → (b c : Bool) → asks n ≡ b → asks m ≡ c → (if b then n else 0) ≡ (if c then m else 0) → AreSeenAlike asks n m
alike-by asks n m none true true e k h = inl h
alike-by asks n m none true false e k h = absurd (true≢false (sym e ∙ (ap asks h ∙ none)))
alike-by asks n m none false true e k h = absurd (true≢false (sym k ∙ (ap asks (sym h) ∙ none)))
alike-by asks n m none false false e k h = inr (e, k)

module _ (listed : List Tree) (ns ms : List ℕ) (place : ℕ) (count : length ns ≡ length ms) (low : place < length ns)
    (others : (j : ℕ) → j < length ns → (j ≡ place → ⊥) → get_or ns j 0 ≡ get_or ms j 0) where
  numbers-same : get_or ns place 0 ≡ get_or ms place 0 → ns ≡ ms
  numbers-same e =
      ext_get_or 0 ns ms count
      (λ j l. ⊎_elim (λ i. ap (λ k. get_or ns k 0) i ∙ (e ∙ ap (λ k. get_or ms k 0) (sym i))) (λ i. others j l i) (cases_eq j place))

  number_at-same : (x : Option ℕ) → AreSeenAlike (asks_number listed x place) (get_or ns place 0) (get_or ms place 0) → number_at listed x ns ≡ number_at listed x ms
  number_at-same None h = refl
  number_at-same (Some f) (inl e) = ap (number_at listed (Some f)) (numbers-same e)
  number_at-same (Some f) (inr h) = unasked-none listed f ns place low h.0 ∙ sym (unasked-none listed f ms place (omega arith) h.1)

-- Result: the label goes by each child's number where it is asked
pub GoesByEachKey-term : (sig : Signature) (n : ℕ) (listed : List Tree)
    → GoesByEachKey sig n (label_of (term_rule sig listed)) (λ f j w. number_seen (asked_numbers listed f j) w)
GoesByEachKey-term sig n listed t u place it iu low d key =
    let label : Labelling = label_of (term_rule sig listed) in
    let f : TupleSymbol = root t in
    let x : Option ℕ = get_or (root t) 0 None in
    let ns : List ℕ = map number_word (map label (kids t)) in
    let ms : List ℕ = map number_word (map label (kids u)) in
    let count = count-labels label t in
    let count' = count-labels label u in
    let same : kid_count t ≡ kid_count u = count-same sig n t u it iu d.root_is in
    let len : length ns ≡ kid_count t = length-map (map label (kids t)) number_word ∙ count in
    let len' : length ms ≡ kid_count u = length-map (map label (kids u)) number_word ∙ count' in
    let own : (j : ℕ) → j < kid_count t → get_or ns j 0 ≡ number_word (label (kid t j)) =
    λ j l. get_or-map number_word (map label (kids t)) j [] 0 (omega arith) ∙ ap number_word (kid-label label t j l) in
    let own' : (j : ℕ) → j < kid_count t → get_or ms j 0 ≡ number_word (label (kid u j)) =
    λ j l. get_or-map number_word (map label (kids u)) j [] 0 (omega arith) ∙ ap number_word (kid-label label u j (omega arith)) in
    let head : (if has_bit (asked_numbers listed f place) (number_word (label (kid t place))) then number_word (label (kid t place)) else 0)
    ≡ (if has_bit (asked_numbers listed f place) (number_word (label (kid u place))) then number_word (label (kid u place)) else 0) = ap (λ ws. get_or ws 0 0) key in
    let alike : AreSeenAlike (asks_number listed x place) (number_word (label (kid t place))) (number_word (label (kid u place))) =
    alike-by (asks_number listed x place) (number_word (label (kid t place))) (number_word (label (kid u place))) refl
    (has_bit (asked_numbers listed f place) (number_word (label (kid t place)))) (has_bit (asked_numbers listed f place) (number_word (label (kid u place))))
    (sym (asked-number listed f place (number_word (label (kid t place))))) (sym (asked-number listed f place (number_word (label (kid u place))))) head in
    let here : AreSeenAlike (asks_number listed x place) (get_or ns place 0) (get_or ms place 0) =
    subst (λ k. AreSeenAlike (asks_number listed x place) k (get_or ms place 0)) (sym (own place low))
    (subst (λ k. AreSeenAlike (asks_number listed x place) (number_word (label (kid t place))) k) (sym (own' place low)) alike) in
    let number : number_at listed x ns ≡ number_at listed x ms =
    number_at-same listed ns ms place (len ∙ (same ∙ sym len')) (omega arith)
    (λ j l apart. let m : j < kid_count t = omega arith in own j m ∙ (ap number_word (d.others j m apart) ∙ sym (own' j m))) x here in
    label_of-step (term_rule sig listed) t
    ∙ (ap (λ k. presence (root t) ∷ k ∷ []) number
    ∙ (ap (λ g. (term_rule sig listed).step g (map label (kids u))) d.root_is ∙ sym (label_of-step (term_rule sig listed) u)))
