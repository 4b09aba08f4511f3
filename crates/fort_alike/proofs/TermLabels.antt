-- The labels of "the variable is this term": a label tells the presence and the number of the subterm in the column; two tuples have one label exactly where they are alike; the accepted label is the term's.
use Rattle.std.specs.Prelude.{◌≡◌, ◌↔◌, ◌⊎◌, ℕ, zero, suc, ◌<◌, List, [], ◌∷◌, map, Option, None, Some, get_or, Contains, Decides, ◌==◌, refl}
use Rattle.std.proofs.Common.{sym, ap, subst, ◌∙◌, arith, inl, inr}
use Rattle.std.proofs.lemmas.Bool.Decides.{Decides-eqb}
use Rattle.fort_theory.specs.Trees.{Tree, Trees, Node, Nil, More, tree_count}
use Rattle.fort_theory.specs.Signatures.{Signature}
use Rattle.fort_theory.proofs.Lists.{none-some, some-injective}
use Rattle.fort_tables.specs.Tuples.{Tuple, kid, kids, kid_count, presence, tree_at, tabulate, IsTuple}
use Rattle.fort_tables.specs.Labels.{first_word, HasMoreLabels}
use Rattle.fort_tables.specs.LabelRules.{label_of, IsLabelRule}
use Rattle.fort_tables.proofs.TupleLaws.{tuple_induction, IsTuple-kid, map-tabulate, tabulate_same}
use Rattle.fort_tables.proofs.LabelRuleLaws.{label_of-step}
use Rattle.fort_alike.specs.Atoms.{OfOne}
use Rattle.fort_alike.specs.AlikeAtTerm.{AlikeAtTerm}
use Rattle.fort_alike.specs.UnlikeTuples.{IsOver}
use Rattle.fort_alike.proofs.OverLabels.{HasMoreLabels-IsOver}
use Rattle.fort_alike.specs.TermRule.{ListsSubterms, number_in, number_of, numbers, numbered, put_first, all_numbered, number_over, number_at, number_word, term_rule, term_accepts}
use Rattle.fort_alike.proofs.SubtermLaws.{number_in-stands, number_in-none, number_in-zero, AllAmong, children_listed, Contains-term, Contains-number_in}

numbers-tabulate : (listed : List Tree) (ss : Trees) → tabulate (tree_count ss) (λ j. number_of listed (tree_at ss j)) ≡ numbers listed ss
numbers-tabulate listed Nil = refl
numbers-tabulate listed (More s ss) = ap (λ ns. number_of listed (Some s) ∷ ns) (numbers-tabulate listed ss)

-- the children of a listed tree are listed
abbrev pub HasChildren : List Tree → Type 0
HasChildren listed = (f : ℕ) (ss : Trees) → Contains listed (Node f ss) → AllAmong listed ss

-- from the numbers of children: the children, or one of them isn't listed
abbrev AreRight : List Tree → Trees → Option Trees → Type 0
AreRight listed ss found = (found ≡ Some ss) ⊎ ((found ≡ None) × (AllAmong listed ss → ⊥))

AreRight-More : (listed : List Tree) (s : Tree) (ss : Trees) (n : ℕ) (found : Option Trees) → number_of listed (Some s) ≡ n → AreRight listed ss found
    → AreRight listed (More s ss) (put_first (numbered listed n) found)
AreRight-More listed s ss zero found e h = inr (refl, (λ a. number_in-none listed s e a.0))
AreRight-More listed s ss (suc i) found e (inl h) = inl (ap (λ x. put_first x found) (number_in-stands listed s i e) ∙ ap (put_first (Some s)) h)
AreRight-More listed s ss (suc i) found e (inr h) =
    inr (ap (λ x. put_first x found) (number_in-stands listed s i e) ∙ ap (put_first (Some s)) h.0, (λ a. h.1 a.1))

AreRight-numbers : (listed : List Tree) (ss : Trees) → AreRight listed ss (all_numbered listed (numbers listed ss))
AreRight-numbers listed Nil = inl refl
AreRight-numbers listed (More s ss) =
    AreRight-More listed s ss (number_of listed (Some s)) (all_numbered listed (numbers listed ss)) refl (AreRight-numbers listed ss)

number_over-found : (listed : List Tree) → HasChildren listed → (f : ℕ) (ss : Trees) (found : Option Trees) → AreRight listed ss found
    → number_over listed f found ≡ number_of listed (Some (Node f ss))
number_over-found listed closed f ss found (inl h) = ap (number_over listed f) h
number_over-found listed closed f ss found (inr h) =
    ap (number_over listed f) h.0 ∙ sym (number_in-zero listed (Node f ss) (λ c. h.1 (closed f ss c)))

number_at-node : (listed : List Tree) → HasChildren listed → (f : ℕ) (ss : Trees) → number_at listed (Some f) (numbers listed ss) ≡ number_of listed (Some (Node f ss))
number_at-node listed closed f ss = number_over-found listed closed f ss (all_numbered listed (numbers listed ss)) (AreRight-numbers listed ss)

module _ (sig : Signature) (listed : List Tree) (closed : HasChildren listed) where
  abbrev pub TellsNumber : Tuple → Type 0
  TellsNumber t = label_of (term_rule sig listed) t ≡ presence t ∷ number_of listed (get_or t 0 None) ∷ []

  child_number : (f : ℕ) (ss : Trees) (j : ℕ) → TellsNumber (kid (Some (Node f ss) ∷ []) j)
      → number_word (label_of (term_rule sig listed) (kid (Some (Node f ss) ∷ []) j)) ≡ number_of listed (tree_at ss j)
  child_number f ss j h = ap number_word h

  pub child_numbers : (f : ℕ) (ss : Trees) → ((j : ℕ) → j < kid_count (Some (Node f ss) ∷ []) → TellsNumber (kid (Some (Node f ss) ∷ []) j))
      → map number_word (map (label_of (term_rule sig listed)) (kids (Some (Node f ss) ∷ []))) ≡ numbers listed ss
  child_numbers f ss h =
      let n : kid_count (Some (Node f ss) ∷ []) ≡ tree_count ss = omega arith in
      ap (map number_word) (map-tabulate (label_of (term_rule sig listed)) (kid_count (Some (Node f ss) ∷ [])) (kid (Some (Node f ss) ∷ [])))
      ∙ (map-tabulate number_word (kid_count (Some (Node f ss) ∷ [])) (λ j. label_of (term_rule sig listed) (kid (Some (Node f ss) ∷ []) j))
      ∙ (tabulate_same (kid_count (Some (Node f ss) ∷ [])) (λ j. number_word (label_of (term_rule sig listed) (kid (Some (Node f ss) ∷ []) j)))
      (λ j. number_of listed (tree_at ss j)) (λ j l. child_number f ss j (h j l))
      ∙ (ap (λ m. tabulate m (λ j. number_of listed (tree_at ss j))) n ∙ numbers-tabulate listed ss)))

  TellsNumber-step : (t : Tuple) → IsTuple sig 1 t → ((j : ℕ) → j < kid_count t → TellsNumber (kid t j)) → TellsNumber t
  TellsNumber-step [] is h = absurd (let e : 0 ≡ 1 = is.width in omega arith)
  TellsNumber-step (None ∷ []) is h = absurd is.present
  TellsNumber-step (Some (Node f ss) ∷ []) is h =
      label_of-step (term_rule sig listed) (Some (Node f ss) ∷ [])
      ∙ ap (λ n. presence (Some (Node f ss) ∷ []) ∷ n ∷ []) (ap (number_at listed (Some f)) (child_numbers f ss h) ∙ number_at-node listed closed f ss)
  TellsNumber-step (x ∷ y ∷ t) is h = absurd (omega (arith, is.width))

  -- a label is the presence and the number
  pub TellsNumber-tuple : (t : Tuple) → IsTuple sig 1 t → TellsNumber t
  TellsNumber-tuple = tuple_induction (λ t. IsTuple sig 1 t → TellsNumber t) (λ t ih is. TellsNumber-step t is (λ j l. ih j l (IsTuple-kid sig 1 t j is l)))

pub IsLabelRule-term : (sig : Signature) (listed : List Tree) → IsLabelRule (term_rule sig listed)
IsLabelRule-term sig listed = record { some = omega arith; narrow = omega arith; tells = λ f ws. refl }

-- two columns have one number exactly where they equal the same subterms
same_subterm : (listed : List Tree) (x y : Option Tree) (v : Tree) (n : ℕ) → number_of listed x ≡ n → number_of listed y ≡ n → Contains listed v → x ≡ Some v → y ≡ Some v
same_subterm listed None y v n a b c e = absurd (none-some e)
same_subterm listed (Some s) y v zero a b c e = absurd (number_in-none listed v (ap (number_of listed) (sym e) ∙ a) c)
same_subterm listed (Some s) None v (suc i) a b c e = absurd (omega arith)
same_subterm listed (Some s) (Some w) v (suc i) a b c e =
    sym (number_in-stands listed w i b) ∙ (number_in-stands listed s i a ∙ e)

abbrev EqualsSame : List Tree → Option Tree → Option Tree → Type 0
EqualsSame listed x y = (v : Tree) → Contains listed v → (x ≡ Some v) ↔ (y ≡ Some v)

EqualsSame-from_number : (listed : List Tree) (x y : Option Tree) → number_of listed x ≡ number_of listed y → EqualsSame listed x y
EqualsSame-from_number listed x y e v c = (
  (λ h. same_subterm listed x y v (number_of listed y) e refl c h),
  (λ h. same_subterm listed y x v (number_of listed x) (sym e) refl c h),
)

-- no number where the other has none
none_from_none : (listed : List Tree) (x y : Option Tree) → EqualsSame listed x y → number_of listed x ≡ 0 → number_of listed y ≡ 0
none_from_none listed x None h e = refl
none_from_none listed x (Some w) h e =
    number_in-zero listed w (λ c. number_in-none listed w (ap (number_of listed) (sym ((h w c).1 refl)) ∙ e) c)

number-from_EqualsSame_at : (listed : List Tree) (x y : Option Tree) (n : ℕ) → EqualsSame listed x y → number_of listed x ≡ n → number_of listed x ≡ number_of listed y
number-from_EqualsSame_at listed x y zero h e = e ∙ sym (none_from_none listed x y h e)
number-from_EqualsSame_at listed None y (suc i) h e = absurd (omega arith)
number-from_EqualsSame_at listed (Some v) y (suc i) h e =
    ap (number_of listed) (sym ((h v (Contains-number_in listed v i e)).0 refl))

number-from_EqualsSame : (listed : List Tree) (x y : Option Tree) → EqualsSame listed x y → number_of listed x ≡ number_of listed y
number-from_EqualsSame listed x y h = number-from_EqualsSame_at listed x y (number_of listed x) h refl

same_pair : {a b c d : ℕ} → a ≡ b → c ≡ d → a ∷ c ∷ [] ≡ b ∷ d ∷ []
same_pair {a = a} {d = d} h k = ap (λ n. a ∷ n ∷ []) k ∙ ap (λ n. n ∷ d ∷ []) h

-- the same for the terms in a column, and for the subterms of a term
module _ (sig : Signature) (term : Tree) (listed : List Tree) (lists : ListsSubterms term listed) where
  tells : (t : Tuple) → IsTuple sig 1 t → TellsNumber sig listed (children_listed term listed lists) t
  tells = TellsNumber-tuple sig listed (children_listed term listed lists)

  -- Result: two tuples have one label exactly where they are alike
  pub labels-AlikeAtTerm : (t u : Tuple) → IsTuple sig 1 t → IsTuple sig 1 u
      → (label_of (term_rule sig listed) t ≡ label_of (term_rule sig listed) u) ↔ AlikeAtTerm term t u
  labels-AlikeAtTerm t u ti ui = (
    (λ e.
        let same = sym (tells t ti) ∙ (e ∙ tells u ui) in
        record {
          present = ap first_word same;
          subterms = λ v c. EqualsSame-from_number listed (get_or t 0 None) (get_or u 0 None) (ap number_word same) v ((lists v).1 c);
        }),
    (λ h. tells t ti
        ∙ (same_pair h.present (number-from_EqualsSame listed (get_or t 0 None) (get_or u 0 None) (λ v c. h.subterms v ((lists v).0 c)))
        ∙ sym (tells u ui))),
  )

  -- the number of a column is the term's exactly where the term stands there
  term-number : (x : Option Tree) → (number_of listed x ≡ number_of listed (Some term)) ↔ OfOne (λ s. s ≡ term) x
  term-number None = (
    (λ e. number_in-none listed term (sym e) (Contains-term term listed lists)),
    (λ e. absurd e),
  )
  term-number (Some v) = (
    (λ e. some-injective (((EqualsSame-from_number listed (Some v) (Some term) e) term (Contains-term term listed lists)).1 refl)),
    (λ e. ap (number_in listed) e),
  )

  accepts-column : (x : Option Tree) → Decides (number_of listed x == number_in listed term) (OfOne (λ s. s ≡ term) x)
  accepts-column x =
      let d = Decides-eqb (number_of listed x) (number_in listed term) in
      ((λ e. (term-number x).0 (d.0 e)), (λ h. d.1 ((term-number x).1 h)))

  -- Result: a label is accepted exactly where the column is there and is the term
  pub accepts-term : (t : Tuple) → IsTuple sig 1 t
      → Decides (term_accepts listed term (label_of (term_rule sig listed) t)) (OfOne (λ s. s ≡ term) (get_or t 0 None))
  accepts-term t is =
      subst (λ w. Decides (term_accepts listed term w) (OfOne (λ s. s ≡ term) (get_or t 0 None))) (sym (tells t is)) (accepts-column (get_or t 0 None))

  -- Result: there are more labels than a cap exactly where there are more tuples, no two of them alike
  pub IsOver-term : (cap : ℕ) → HasMoreLabels sig 1 (label_of (term_rule sig listed)) cap ↔ IsOver sig 1 (AlikeAtTerm term) cap
  IsOver-term cap = HasMoreLabels-IsOver sig 1 (label_of (term_rule sig listed)) (AlikeAtTerm term) labels-AlikeAtTerm cap
