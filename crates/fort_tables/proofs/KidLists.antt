-- The entries of one tuple symbol: its members, and their order.
use Rattle.std.proofs.Common.{◌≡◌, ℕ, zero, suc, ◌+◌, ◌<◌, List, [], ◌∷◌, ◌++◌, length, get_or, Bool, true, false, ◌==◌, if◌then◌else◌, None, Some, refl, ap, sym, ◌∙◌, arith, subst, inl, inr, ⊎_elim, append_assoc, eq-eqb}
use Rattle.std.specs.Prelude.{Contains}
use Rattle.std.specs.List.{AllPairs}
use Rattle.std.proofs.lemmas.List.{append-nil}
use Rattle.fort_theory.specs.Signatures.{Signature}
use Rattle.fort_theory.proofs.Members.{Contains-none, Contains-head, Contains-cons_cases}
use Rattle.fort_tables.specs.Tuples.{TupleSymbol, IsPresent, presence, symbol_kids, kid_presence}
use Rattle.fort_tables.specs.Entries.{Entry, entry, LexBefore, StageBefore}
use Rattle.fort_tables.proofs.EqualTests.{equal_from_test, test_from_apart}
use Rattle.fort_tables.specs.Laid.{entries_from, entries_under}
use Rattle.fort_tables.proofs.OrderedLists.{AllPairs-none, AllPairs-one}
use Rattle.fort_tables.proofs.JoinedLists.{joined_has, joined_from, joined_in_order}

-- a list that is there only where a test says so
chosen_from : {A : Type 0} (b : Bool) (xs : List A) (x : A) → Contains (if b then xs else []) x → (b ≡ true) × Contains xs x
chosen_from true xs x c = (refl, c)
chosen_from false xs x c = absurd (Contains-none x c)

chosen_has : {A : Type 0} (b : Bool) (xs : List A) (x : A) → b ≡ true → Contains xs x → Contains (if b then xs else []) x
chosen_has true xs x e c = c
chosen_has false xs x e c = absurd cc

chosen_in_order : {A : Type 0} (R : A → A → Type 0) (b : Bool) (xs : List A) → AllPairs R xs → AllPairs R (if b then xs else [])
chosen_in_order R true xs h = h
chosen_in_order R false xs h = AllPairs-none R

-- states whose presences are those that w gives from j on
abbrev pub AreKidsFrom : List ℕ → (ℕ → ℕ) → ℕ → List ℕ → Type 0
AreKidsFrom ps w j [] = Unit {0}
AreKidsFrom ps w j (k ∷ ks) = (k < length ps) × (get_or ps k 0 ≡ w j) × AreKidsFrom ps w (suc j) ks

pub kids_from_index : (ps : List ℕ) (w : ℕ → ℕ) (j : ℕ) (ks : List ℕ) → ((i : ℕ) → i < length ks → get_or ks i 0 < length ps)
    → ((i : ℕ) → i < length ks → get_or ps (get_or ks i 0) 0 ≡ w (j + i)) → AreKidsFrom ps w j ks
kids_from_index ps w j [] h e = tt
kids_from_index ps w j (k ∷ ks) h e =
    let z : j + 0 ≡ j = omega arith in
    let later : AreKidsFrom ps w (suc j) ks =
    kids_from_index ps w (suc j) ks (λ i l. h (suc i) (omega arith)) (λ i l. let s : j + suc i ≡ suc j + i = omega arith in e (suc i) (omega arith) ∙ ap w s) in
    (h 0 (omega arith), e 0 (omega arith) ∙ ap w z, later)

pub kids_within : (ps : List ℕ) (w : ℕ → ℕ) (j : ℕ) (ks : List ℕ) → AreKidsFrom ps w j ks → (i : ℕ) → i < length ks → get_or ks i 0 < length ps
kids_within ps w j [] h i l = absurd (omega arith)
kids_within ps w j (k ∷ ks) h zero l = h.0
kids_within ps w j (k ∷ ks) h (suc i) l = kids_within ps w (suc j) ks h.2 i (omega arith)

pub kids_presence : (ps : List ℕ) (w : ℕ → ℕ) (j : ℕ) (ks : List ℕ) → AreKidsFrom ps w j ks → (i : ℕ) → i < length ks → get_or ps (get_or ks i 0) 0 ≡ w (j + i)
kids_presence ps w j [] h i l = absurd (omega arith)
kids_presence ps w j (k ∷ ks) h zero l = let z : j ≡ j + 0 = omega arith in h.1 ∙ ap w z
kids_presence ps w j (k ∷ ks) h (suc i) l = let z : suc j + i ≡ j + suc i = omega arith in kids_presence ps w (suc j) ks h.2 i (omega arith) ∙ ap w z

-- an entry over first child states and others
pub record IsFrom (sig : Signature) (ps : List ℕ) (f : TupleSymbol) (before : List ℕ) (j n : ℕ) (e : Entry) : Type 0 where
  pub later : List ℕ
  pub count : length later ≡ n
  pub are : AreKidsFrom ps (kid_presence sig f) j later
  pub is : entry f (before ++ later) ≡ e

-- the lists over each next child state
abbrev behind : Signature → List ℕ → TupleSymbol → List ℕ → ℕ → ℕ → ℕ → List Entry
behind sig ps f before j n k = if get_or ps k 0 == kid_presence sig f j then entries_from sig ps f (before ++ k ∷ []) (suc j) n else []

behind_from : (sig : Signature) (ps : List ℕ) (f : TupleSymbol) (before : List ℕ) (j n k : ℕ) (e : Entry) → Contains (behind sig ps f before j n k) e
    → (get_or ps k 0 ≡ kid_presence sig f j) × Contains (entries_from sig ps f (before ++ k ∷ []) (suc j) n) e
behind_from sig ps f before j n k e c =
    let r = chosen_from (get_or ps k 0 == kid_presence sig f j) (entries_from sig ps f (before ++ k ∷ []) (suc j) n) e c in
    (equal_from_test (get_or ps k 0) (kid_presence sig f j) r.0, r.1)

pub from_members : (sig : Signature) (ps : List ℕ) (f : TupleSymbol) (before : List ℕ) (j n : ℕ) (e : Entry)
    → Contains (entries_from sig ps f before j n) e → IsFrom sig ps f before j n e
from_members sig ps f before j zero e c =
    record {
      later = [];
      count = refl;
      are = tt;
      is = ap (entry f) (append-nil before) ∙ ⊎_elim (λ s. s) (λ m. absurd (Contains-none e m)) (Contains-cons_cases (entry f before) [] e c);
    }
from_members sig ps f before j (suc n) e c =
    let r = joined_from (length ps) (behind sig ps f before j n) e c in
    let s = behind_from sig ps f before j n r.0 e r.2 in
    let h = from_members sig ps f (before ++ r.0 ∷ []) (suc j) n e s.1 in
    record {
      later = r.0 ∷ h.later;
      count = ap suc h.count;
      are = (r.1, s.0, h.are);
      is = ap (entry f) (sym (append_assoc before (r.0 ∷ []) h.later)) ∙ h.is;
    }

pub from_has : (sig : Signature) (ps : List ℕ) (f : TupleSymbol) (before : List ℕ) (j : ℕ) (ks : List ℕ) → AreKidsFrom ps (kid_presence sig f) j ks
    → Contains (entries_from sig ps f before j (length ks)) (entry f (before ++ ks))
from_has sig ps f before j [] h =
    subst (λ (ls : List ℕ). Contains (entry f before ∷ []) (entry f ls)) (sym (append-nil before)) (Contains-head (entry f before) [])
from_has sig ps f before j (k ∷ ks) h =
    joined_has (length ps) (behind sig ps f before j (length ks)) k (entry f (before ++ k ∷ ks)) h.0
    (chosen_has (get_or ps k 0 == kid_presence sig f j) (entries_from sig ps f (before ++ k ∷ []) (suc j) (length ks)) (entry f (before ++ k ∷ ks))
    (eq-eqb (get_or ps k 0) (kid_presence sig f j) h.1)
    (subst (λ (ls : List ℕ). Contains (entries_from sig ps f (before ++ k ∷ []) (suc j) (length ks)) (entry f ls)) (append_assoc before (k ∷ []) ks)
    (from_has sig ps f (before ++ k ∷ []) (suc j) ks h.2)))

-- order
lex_behind : (before ks ls : List ℕ) → LexBefore ◌<◌ ks ls → LexBefore ◌<◌ (before ++ ks) (before ++ ls)
lex_behind [] ks ls h = h
lex_behind (b ∷ before) ks ls h = inr (refl, lex_behind before ks ls h)

pub from_in_order : (sig : Signature) (ps : List ℕ) (f : TupleSymbol) (before : List ℕ) (j n : ℕ) → AllPairs StageBefore (entries_from sig ps f before j n)
from_in_order sig ps f before j zero = AllPairs-one StageBefore (entry f before)
from_in_order sig ps f before j (suc n) =
    joined_in_order StageBefore (length ps) (behind sig ps f before j n)
    (λ k l.
    let ls = before ++ k ∷ [] in
    chosen_in_order StageBefore (get_or ps k 0 == kid_presence sig f j) (entries_from sig ps f ls (suc j) n) (from_in_order sig ps f ls (suc j) n))
    (λ k l x y o m c d.
    let a = from_members sig ps f (before ++ k ∷ []) (suc j) n x (behind_from sig ps f before j n k x c).1 in
    let b = from_members sig ps f (before ++ l ∷ []) (suc j) n y (behind_from sig ps f before j n l y d).1 in
    subst (λ (z : Entry). StageBefore z y) (ap (entry f) (sym (append_assoc before (k ∷ []) a.later)) ∙ a.is)
    (subst (λ (z : Entry). StageBefore (entry f (before ++ k ∷ a.later)) z) (ap (entry f) (sym (append_assoc before (l ∷ []) b.later)) ∙ b.is)
    (inr (refl, lex_behind before (k ∷ a.later) (l ∷ b.later) (inl o)))))

-- a tuple symbol is present where its presence isn't 0
pub present_from_presence : (f : TupleSymbol) → (presence f ≡ 0 → ⊥) → IsPresent f
present_from_presence [] h = h refl
present_from_presence (None ∷ f) h = present_from_presence f (λ e. h (omega arith))
present_from_presence (Some g ∷ f) h = tt

pub presence_some : (f : TupleSymbol) → IsPresent f → presence f ≡ 0 → ⊥
presence_some [] p e = p
presence_some (None ∷ f) p e = presence_some f p (omega arith)
presence_some (Some g ∷ f) p e = omega arith

pub under_absent : (sig : Signature) (ps : List ℕ) (f : TupleSymbol) → presence f ≡ 0 → entries_under sig ps f ≡ []
under_absent sig ps f e = rw (eq-eqb (presence f) 0 e) refl

pub under_present : (sig : Signature) (ps : List ℕ) (f : TupleSymbol) → IsPresent f → entries_under sig ps f ≡ entries_from sig ps f [] 0 (symbol_kids sig f)
under_present sig ps f p = rw (test_from_apart (presence f) 0 (presence_some f p)) refl
