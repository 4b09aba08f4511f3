-- The entries of a table, one after another.
use Rattle.std.proofs.Common.{◌≡◌, ℕ, ◌<◌, ◌≤◌, List, [], ◌∷◌, ◌++◌, length, get_or, ap, sym, ◌∙◌, arith, subst, inl, inr, ⊎_elim}
use Rattle.std.proofs.lemmas.Bool.{cases_lt}
use Rattle.std.proofs.lemmas.List.{length_push, get_or_push, get_or_append_left}
use Rattle.fort_theory.specs.Signatures.{Signature}
use Rattle.fort_tables.specs.Entries.{Entry, no_entry, ComesBefore, IsNextEntry, IsLastEntry}
use Rattle.fort_tables.specs.Tables.{Table, IsTableEntry}
use Rattle.fort_tables.proofs.OrderLaws.{none_before, before_trans, before_irrefl}
use Rattle.fort_witness.specs.declared.head.Head.{Head}
use Rattle.fort_witness.specs.Solving.{AreEntries, AreEntriesTo}

pub entries_none : (t : Table) (entries : List Head) (last : Entry) → length entries ≡ 0 → last ≡ no_entry t.columns
    → AreEntriesTo t entries last
entries_none t entries last e l = record {
  are = λ k d m. absurd (omega arith);
  rise = λ i j d a b. absurd (omega arith);
  upto = λ k d m. absurd (omega arith);
  all = λ x is. inr (subst (λ (y : Entry). ComesBefore y x) (sym l) (none_before t.signature t.columns t.presences x is));
}

pub entries_more : (t : Table) (old new : List Head) (last : Entry) (x : Head) → AreEntriesTo t old last
    → IsNextEntry t.signature t.columns t.presences last x.row → t.target x.row ≡ x.state → new ≡ old ++ x ∷ []
    → AreEntriesTo t new x.row
entries_more t old new last x h n target e =
    let A : List Head → Type 0 = λ xs. AreEntriesTo t xs x.row in
    let left : (k : ℕ) (d : Head) → k < length old → get_or (old ++ x ∷ []) k d ≡ get_or old k d = λ k d l. get_or_append_left old (x ∷ []) d k l in
    let last_is : (k : ℕ) (d : Head) → length old ≤ k → k < length (old ++ x ∷ []) → get_or (old ++ x ∷ []) k d ≡ x = λ k d l m. let s : length old ≡ k = omega (arith, length_push old x) in get_or_push old x d k s in
    let row : Head → Entry = λ y. y.row in
    let before : (k : ℕ) (d : Head) → k < length old → ComesBefore (get_or old k d).row x.row = λ k d l. ⊎_elim
    (λ q. subst (λ (y : Entry). ComesBefore y x.row) (sym q) n.after)
    (λ q. before_trans (get_or old k d).row last x.row q n.after)
    (h.upto k d l) in
    let one : A (old ++ x ∷ []) = record {
      are = λ k d l. ⊎_elim
          (λ m. subst (λ (y : Head). IsTableEntry t y.row × (t.target y.row ≡ y.state)) (sym (left k d m)) (h.are k d m))
          (λ m. subst (λ (y : Head). IsTableEntry t y.row × (t.target y.row ≡ y.state)) (sym (last_is k d m l)) (n.is_entry, target))
          (cases_lt k (length old));
      rise = λ i j d l m. ⊎_elim
          (λ b. subst (λ (y : Entry). ComesBefore y (get_or (old ++ x ∷ []) j d).row) (sym (ap row (left i d (omega arith)))) (subst (λ (y : Entry). ComesBefore (get_or old i d).row y) (sym (ap row (left j d b))) (h.rise i j d l b)))
          (λ b.
          let a : i < length old = omega (arith, length_push old x) in
          subst (λ (y : Entry). ComesBefore y (get_or (old ++ x ∷ []) j d).row) (sym (ap row (left i d a))) (subst (λ (y : Entry). ComesBefore (get_or old i d).row y) (sym (ap row (last_is j d b m))) (before i d a)))
          (cases_lt j (length old));
      upto = λ k d l. ⊎_elim
          (λ m. inr (subst (λ (y : Entry). ComesBefore y x.row) (sym (ap row (left k d m))) (before k d m)))
          (λ m. inl (ap row (last_is k d m l)))
          (cases_lt k (length old));
      all = λ y is. ⊎_elim
          (λ p. inl (p.0, omega (arith, p.1, length_push old x), λ d. ap row (left p.0 d p.1) ∙ p.2 d))
          (λ p. ⊎_elim
          (λ q. let at : length old < length (old ++ x ∷ []) = omega (arith, length_push old x) in inl (length old, at, λ d. ap row (last_is (length old) d (omega arith) at) ∙ q))
          (λ q. inr q)
          (n.first y is p))
          (h.all y is);
    } in
    subst A (sym e) one

pub entries_all : (t : Table) (entries : List Head) (last : Entry) → AreEntriesTo t entries last
    → IsLastEntry t.signature t.columns t.presences last → AreEntries t entries
entries_all t entries last h none = record {
  are = h.are;
  apart = λ i j d l m e. before_irrefl (get_or entries j d).row (subst (λ (y : Entry). ComesBefore y (get_or entries j d).row) e (h.rise i j d l m));
  all = λ e is. ⊎_elim (λ p. p) (λ p. absurd (none e is p)) (h.all e is);
}

pub last_at : (sig sig' : Signature) (n n' : ℕ) (ps ps' : List ℕ) (last : Entry) → sig ≡ sig' → n ≡ n' → ps ≡ ps'
    → IsLastEntry sig n ps last → IsLastEntry sig' n' ps' last
last_at sig sig' n n' ps ps' last es en ep h = subst (λ (x : Signature). IsLastEntry x n' ps' last) es (subst (λ m. IsLastEntry sig m ps' last) en (subst (λ (xs : List ℕ). IsLastEntry sig n xs last) ep h))
