-- A walk that lays the targets it is told of: first child states, the targets over one more of them, and all tuple symbols.
use Rattle.std.proofs.Common.{◌≡◌, ℕ, zero, suc, ◌+◌, ◌-◌, ◌^◌, ◌<◌, ◌≤◌, List, [], ◌∷◌, ◌++◌, length, get_or, true, false, ◌==◌, if◌then◌else◌, ap, sym, ◌∙◌, arith, refl, subst, ⊎_elim, eq-eqb, append_assoc, length-append}
use Rattle.std.proofs.lemmas.Bool.{cases_lt}
use Rattle.std.proofs.lemmas.List.{append-nil, get_or_append_left, get_or_push}
use Rattle.fort_theory.specs.Signatures.{Signature}
use Rattle.fort_tables.specs.Tuples.{TupleSymbol, IsTupleSymbol, symbol_kids, kid_presence}
use Rattle.fort_tables.specs.Tables.{Table}
use Rattle.fort_tables.specs.Selections.{is_present}
use Rattle.fort_tables.proofs.EqualTests.{test_from_apart}
use Rattle.fort_tables.specs.Laid.{joined_below}
use Rattle.fort_tuple_symbols.specs.SymbolNumbers.{columns_at}
use Rattle.fort_target_lists.specs.Places.{IsNumbered, AreSpots}
use Rattle.fort_target_lists.specs.Chains.{IsFirstFrom, AreChains}
use Rattle.fort_target_lists.specs.ToldTables.{IsTableOver, AreFirstKids}
use Rattle.fort_target_lists.specs.Flats.{laid, AreLaid, IsFlatOf}
use Rattle.fort_target_lists.specs.ToldWalks.{GoesOver, IsBefore, HasLaid}
use Rattle.fort_target_lists.specs.declared.flat.FlatTargets.{FlatTargets}
use Rattle.fort_target_lists.specs.declared.told_walk.ToldWalk.{ToldWalk}
use Rattle.fort_target_lists.proofs.ListingLaws.{joined_over, block_not, block_there, tuple_symbol_at, laid_none, laid_one, laid_entries}

-- no child yet, and one more
pub kids_none : (body : Table) (f : TupleSymbol) → AreFirstKids body f []
kids_none body f = record { within = λ i l. absurd (omega arith); presence = λ i l. absurd (omega arith) }

pub kids_more : (body : Table) (f : TupleSymbol) (ks : List ℕ) (j q : ℕ) → length ks ≡ j → q < length body.presences → get_or body.presences q 0 ≡ kid_presence body.signature f j
    → AreFirstKids body f ks → AreFirstKids body f (ks ++ q ∷ [])
kids_more body f ks j q e l has h =
    let more : length (ks ++ q ∷ []) ≡ suc (length ks) = omega (arith, length-append ks (q ∷ [])) in
    let front : (i : ℕ) → i < length ks → get_or (ks ++ q ∷ []) i 0 ≡ get_or ks i 0 = λ i o. get_or_append_left ks (q ∷ []) 0 i o in
    let last : (i : ℕ) → length ks ≡ i → get_or (ks ++ q ∷ []) i 0 ≡ q = λ i o. get_or_push ks q 0 i o in
    record {
      within = λ i o. ⊎_elim
          (λ (b : i < length ks). omega (arith, front i b, h.within i b))
          (λ (b : length ks ≤ i). let s : length ks ≡ i = omega (arith, more, o) in omega (arith, last i s, l))
          (cases_lt i (length ks));
      presence = λ i o. ⊎_elim
          (λ (b : i < length ks). ap (λ k. get_or body.presences k 0) (front i b) ∙ h.presence i b)
          (λ (b : length ks ≤ i).
          let s : length ks ≡ i = omega (arith, more, o) in
          ap (λ k. get_or body.presences k 0) (last i s) ∙ (has ∙ ap (kid_presence body.signature f) (sym e ∙ s)))
          (cases_lt i (length ks));
    }

-- the targets over one more child state
abbrev pub behind : Table → TupleSymbol → List ℕ → ℕ → ℕ → ℕ → List ℕ
behind body f ks j n k = if get_or body.presences k 0 == kid_presence body.signature f j then laid body f (ks ++ k ∷ []) (suc j) n else []

-- the states below q have had their turn
pub record IsToldBelow (body : Table) (f : TupleSymbol) (ks : List ℕ) (j n q : ℕ) (old new : List ℕ) : Type 0 where
  pub laid_are : new ≡ old ++ joined_below q (behind body f ks j n)
  pub high : q ≤ length body.presences
  pub has : q < length body.presences → get_or body.presences q 0 ≡ kid_presence body.signature f j

-- states of other presences have no entries
skipped : (body : Table) (f : TupleSymbol) (ks : List ℕ) (j n m q : ℕ) → m ≤ q → ((k : ℕ) → m ≤ k → k < q → get_or body.presences k 0 ≡ kid_presence body.signature f j → ⊥)
    → joined_below q (behind body f ks j n) ≡ joined_below m (behind body f ks j n)
skipped body f ks j n m q le none =
    let g = behind body f ks j n in
    let d : m + (q - m) ≡ q = omega (arith, le) in
    let over = joined_over g m (q - m) (λ k a b. block_not (get_or body.presences k 0 == kid_presence body.signature f j) (laid body f (ks ++ k ∷ []) (suc j) n)
    (test_from_apart (get_or body.presences k 0) (kid_presence body.signature f j) (none k a (omega (arith, b, d))))) in
    ap (λ z. joined_below z g) (sym d) ∙ over

pub told_first : (body : Table) (f : TupleSymbol) (ks : List ℕ) (j n w q : ℕ) (old : List ℕ) → w ≡ kid_presence body.signature f j → IsFirstFrom body.presences 0 w q
    → IsToldBelow body f ks j n q old old
told_first body f ks j n w q old e first = record {
  laid_are = sym (append-nil old) ∙ ap (λ xs. old ++ xs) (sym (skipped body f ks j n 0 q (omega arith) (λ k a b s. first.none k a b (s ∙ sym e))));
  high = first.high;
  has = λ l. first.has l ∙ e;
}

pub told_next : (body : Table) (f : TupleSymbol) (ks : List ℕ) (j n q next : ℕ) (old new more : List ℕ) → q < length body.presences → IsToldBelow body f ks j n q old new
    → IsFirstFrom body.presences (suc q) (get_or body.presences q 0) next → more ≡ new ++ laid body f (ks ++ q ∷ []) (j + 1) n → IsToldBelow body f ks j n next old more
told_next body f ks j n q next old new more l v first e =
    let g = behind body f ks j n in
    let own = laid body f (ks ++ q ∷ []) (suc j) n in
    let has = v.has l in
    let s : j + 1 ≡ suc j = omega arith in
    let here : own ≡ g q = sym (block_there (get_or body.presences q 0 == kid_presence body.signature f j) own (eq-eqb (get_or body.presences q 0) (kid_presence body.signature f j) has)) in
    let over = skipped body f ks j n (suc q) next first.low (λ k a b z. first.none k a b (z ∙ sym has)) in
    record {
      laid_are = e
          ∙ (ap (λ m. new ++ laid body f (ks ++ q ∷ []) m n) s
          ∙ (ap (λ xs. xs ++ own) v.laid_are
          ∙ (append_assoc old (joined_below q g) own
          ∙ (ap (λ xs. old ++ (joined_below q g ++ xs)) here ∙ ap (λ xs. old ++ xs) (sym over)))));
      high = first.high;
      has = λ o. first.has o ∙ has;
    }

told_turn : (body : Table) (f : TupleSymbol) (ks : List ℕ) (j rest : ℕ) → 0 < rest → joined_below (length body.presences) (behind body f ks j (rest - 1)) ≡ laid body f ks j rest
told_turn body f ks j zero l = absurd (omega arith)
told_turn body f ks j (suc n) l = let e : suc n - 1 ≡ n = omega arith in ap (λ m. joined_below (length body.presences) (behind body f ks j m)) e

pub told_last : (body : Table) (f : TupleSymbol) (ks : List ℕ) (j rest q : ℕ) (old new : List ℕ) → 0 < rest → length body.presences ≤ q → IsToldBelow body f ks j (rest - 1) q old new
    → new ≡ old ++ laid body f ks j rest
told_last body f ks j rest q old new some l v =
    let e : q ≡ length body.presences = omega (arith, l, v.high) in
    v.laid_are ∙ ap (λ xs. old ++ xs) (ap (λ k. joined_below k (behind body f ks j (rest - 1))) e ∙ told_turn body f ks j rest some)

-- one more child
pub before_next : (body : Table) (walk : ToldWalk) (f : TupleSymbol) (ks more : List ℕ) (j rest q : ℕ) → 0 < rest → more ≡ ks ++ q ∷ [] → q < length body.presences
    → get_or body.presences q 0 ≡ kid_presence body.signature f j → IsBefore body walk f ks j rest → IsBefore body walk f more (j + 1) (rest - 1)
before_next body walk f ks more j rest q some e l has h = record {
  goes = h.goes;
  symbol = h.symbol;
  kids = subst (AreFirstKids body f) (sym e) (kids_more body f ks j q h.first l has h.kids);
  first = omega (arith, ap length e, length-append ks (q ∷ []), h.first);
  count = omega (arith, h.count, some);
}

-- no child yet
pub before_first : (body : Table) (walk : ToldWalk) (f : TupleSymbol) (count : ℕ) → GoesOver body walk → IsTupleSymbol body.signature body.columns f → count ≡ symbol_kids body.signature f
    → IsBefore body walk f [] 0 count
before_first body walk f count goes is e = record { goes = goes; symbol = is; kids = kids_none body f; first = refl; count = omega (arith, e) }

-- a number's tuple symbol
number_is : (body : Table) (walk : ToldWalk) (n : ℕ) (f : TupleSymbol) → GoesOver body walk → IsNumbered walk.base walk.columns n f → f ≡ columns_at walk.base body.columns n
number_is body walk n f goes h = h.is ∙ ap (λ k. columns_at walk.base k n) goes.columns_are

pub symbol_told : (body : Table) (walk : ToldWalk) (n : ℕ) (f : TupleSymbol) → GoesOver body walk → IsNumbered walk.base walk.columns n f → is_present f ≡ true
    → IsTupleSymbol body.signature body.columns f
symbol_told body walk n f goes h present = tuple_symbol_at body walk.base n f goes.base (number_is body walk n f goes h) present

-- one more number: without a present column nothing is laid, with one the targets over its children are
pub told_absent : (body : Table) (walk : ToldWalk) (n : ℕ) (f : TupleSymbol) (starts targets new : List ℕ) → IsNumbered walk.base walk.columns n f → is_present f ≡ false → HasLaid body walk n starts targets
    → new ≡ starts ++ length targets ∷ [] → HasLaid body walk (n + 1) new targets
told_absent body walk n f starts targets new is absent h e = record {
  goes = h.goes;
  laid_are = laid_none body walk.base n f starts targets new h.goes.base (number_is body walk n f h.goes is) h.laid_are absent e;
}

pub told_present : (body : Table) (walk : ToldWalk) (n : ℕ) (f : TupleSymbol) (starts targets new more : List ℕ) (count : ℕ) → IsNumbered walk.base walk.columns n f → is_present f ≡ true
    → HasLaid body walk n starts targets → new ≡ starts ++ length targets ∷ [] → count ≡ symbol_kids body.signature f → more ≡ targets ++ laid body f [] 0 count → HasLaid body walk (n + 1) new more
told_present body walk n f starts targets new more count is present h e c m = record {
  goes = h.goes;
  laid_are = laid_one body walk.base n f starts targets new more h.goes.base (number_is body walk n f h.goes is) present h.laid_are e (m ∙ ap (λ k. targets ++ laid body f [] 0 k) c);
}

-- Result: where all targets are laid, the list is the table's
pub list_told : (body : Table) (sig : Signature) (columns : ℕ) (presences : List ℕ) (flat : FlatTargets) → IsTableOver body sig columns presences → flat.base ≡ suc (length sig)
    → flat.base ^ columns < 2 ^ 64 → AreSpots presences flat.spots.ranks.items flat.spots.alike.items
    → AreLaid body flat.base (flat.base ^ columns) flat.listing.starts.items flat.listing.targets.items → IsFlatOf body flat
list_told body sig columns presences flat over base few spots all =
    let b : flat.base ≡ suc (length body.signature) = base ∙ ap (λ n. suc n) (ap length over.signature) in
    let n : flat.base ^ columns ≡ flat.base ^ body.columns = ap (λ k. flat.base ^ k) over.columns_are in
    let own : AreSpots body.presences flat.spots.ranks.items flat.spots.alike.items =
    subst (λ (ps : List ℕ). AreSpots ps flat.spots.ranks.items flat.spots.alike.items) over.presences_are spots in
    record {
      base_is = b;
      starts_all = all.count ∙ n;
      few = omega (arith, n, few);
      spots = own;
      entries = laid_entries body flat.base (flat.base ^ columns) flat.listing.starts.items flat.listing.targets.items flat.spots.ranks.items flat.spots.alike.items b n own all;
    }

-- a walk by the chains of a table's states goes over it
pub goes_over : (body : Table) (walk : ToldWalk) (sig : Signature) (columns : ℕ) (presences : List ℕ) → IsTableOver body sig columns presences → columns ≤ 16 → walk.signature.now ≡ sig
    → walk.columns ≡ columns → walk.base ≡ suc (length sig) → AreChains columns presences walk.chains.now.firsts.items walk.chains.now.nexts.items → GoesOver body walk
goes_over body walk sig columns presences over narrow s c b chains =
    let firsts = walk.chains.now.firsts.items in
    let nexts = walk.chains.now.nexts.items in
    record {
      narrow = omega (arith, narrow, over.columns_are);
      signature = s ∙ over.signature;
      columns_are = c ∙ over.columns_are;
      base = b ∙ ap (λ n. suc n) (ap length over.signature);
      chains = subst (λ (ps : List ℕ). AreChains body.columns ps firsts nexts) over.presences_are (subst (λ (n : ℕ). AreChains n presences firsts nexts) over.columns_are chains);
    }
