-- Chains of states: one more state in front; presences are few.
use Rattle.std.proofs.Common.{◌≡◌, ℕ, suc, ◌^◌, ◌<◌, List, set, length, get_or, get_or-set_same, get_or-set_other, ap, sym, ◌∙◌, arith, ⊎_elim, subst}
use Rattle.std.proofs.lemmas.List.{length-set}
use Rattle.std.proofs.lemmas.Bool.{cases_eq}
use Rattle.fort_tables.specs.Tables.{Table, IsTable, IsReached}
use Rattle.fort_tables.proofs.PresenceLaws.{presence_bound}
use Rattle.fort_tables.proofs.TableLaws.{table_state}
use Rattle.fort_target_lists.specs.Chains.{IsFirstFrom, AreChainsFrom}

-- the presences of a table's states
pub presences_below : (t : Table) → IsTable t → IsReached t → (q : ℕ) → q < length t.presences → get_or t.presences q 0 < 2 ^ t.columns
presences_below t is reached q l =
    let r = reached q l in
    let s = table_state t is r.0 r.1 in
    omega (arith, ap (λ k. get_or t.presences k 0) (sym r.2) ∙ s.presence_is, presence_bound r.0, ap (λ n. 2 ^ n) r.1.width)

-- no state yet
pub chains_none : (columns : ℕ) (ps firsts nexts : List ℕ) → length firsts ≡ 2 ^ columns → length nexts ≡ length ps → ((w : ℕ) → w < 2 ^ columns → get_or firsts w 0 ≡ length ps) → AreChainsFrom columns (length ps) ps firsts nexts
chains_none columns ps firsts nexts size states none = record {
  size = size;
  states = states;
  first = λ w l. subst (λ (q : ℕ). IsFirstFrom ps (length ps) w q) (sym (none w l))
      (record { low = omega arith; high = omega arith; has = λ o. absurd (omega arith); none = λ k a b e. absurd (omega arith) });
  next = λ q a b. absurd (omega arith);
}

first_here : (ps : List ℕ) (q w : ℕ) → q < length ps → get_or ps q 0 ≡ w → IsFirstFrom ps q w q
first_here ps q w l e = record { low = omega arith; high = omega arith; has = λ o. e; none = λ k a b s. absurd (omega arith) }

first_behind : (ps : List ℕ) (q w f : ℕ) → (get_or ps q 0 ≡ w → ⊥) → IsFirstFrom ps (suc q) w f → IsFirstFrom ps q w f
first_behind ps q w f ne h = record {
  low = omega (arith, h.low);
  high = h.high;
  has = h.has;
  none = λ k a b e. ⊎_elim
      (λ (s : q ≡ k). ne (ap (λ i. get_or ps i 0) s ∙ e))
      (λ (s : q ≡ k → ⊥). h.none k (omega (arith, s)) b e)
      (cases_eq q k);
}

-- one more state
pub chains_more : (columns : ℕ) (ps firsts nexts : List ℕ) (q p : ℕ) → q < length ps → p ≡ get_or ps q 0 → p < 2 ^ columns → AreChainsFrom columns (suc q) ps firsts nexts
    → AreChainsFrom columns q ps (set firsts p q) (set nexts q (get_or firsts p 0))
chains_more columns ps firsts nexts q p l e m h = record {
  size = length-set firsts p q ∙ h.size;
  states = length-set nexts q (get_or firsts p 0) ∙ h.states;
  first = λ w o. ⊎_elim
      (λ (s : p ≡ w).
      let at : get_or (set firsts p q) w 0 ≡ q = ap (λ z. get_or (set firsts p q) z 0) (sym s) ∙ get_or-set_same firsts p q 0 (omega (arith, h.size)) in
      subst (λ (f : ℕ). IsFirstFrom ps q w f) (sym at) (first_here ps q w l (sym e ∙ s)))
      (λ (s : p ≡ w → ⊥).
      let ne : w ≡ p → ⊥ = λ z. s (sym z) in
      let at : get_or (set firsts p q) w 0 ≡ get_or firsts w 0 = get_or-set_other firsts p w q 0 ne in
      subst (λ (f : ℕ). IsFirstFrom ps q w f) (sym at) (first_behind ps q w (get_or firsts w 0) (λ z. s (e ∙ z)) (h.first w o)))
      (cases_eq p w);
  next = λ i a b. ⊎_elim
      (λ (s : q ≡ i).
      let at : get_or (set nexts q (get_or firsts p 0)) i 0 ≡ get_or firsts p 0 = ap (λ z. get_or (set nexts q (get_or firsts p 0)) z 0) (sym s) ∙ get_or-set_same nexts q (get_or firsts p 0) 0 (omega (arith, h.states)) in
      subst (λ (f : ℕ). IsFirstFrom ps (suc i) (get_or ps i 0) f) (sym at)
      (subst (λ (k : ℕ). IsFirstFrom ps (suc k) (get_or ps k 0) (get_or firsts p 0)) s
      (subst (λ (w : ℕ). IsFirstFrom ps (suc q) w (get_or firsts p 0)) e (h.first p m))))
      (λ (s : q ≡ i → ⊥).
      let ne : i ≡ q → ⊥ = λ z. s (sym z) in
      let at : get_or (set nexts q (get_or firsts p 0)) i 0 ≡ get_or nexts i 0 = get_or-set_other nexts q i (get_or firsts p 0) 0 ne in
      subst (λ (f : ℕ). IsFirstFrom ps (suc i) (get_or ps i 0) f) (sym at) (h.next i (omega (arith, s)) b))
      (cases_eq q i);
}
