-- A walk over the entries of a listed table: each is the first one behind the entry before it.
use Rattle.std.specs.Prelude.{◌≡◌, ℕ, zero, suc, ◌+◌, ◌<◌, ◌≤◌, List, length, get_or, Contains, Bool, true, false, refl}
use Rattle.std.proofs.Common.{ap, sym, subst, ◌∙◌, arith, ⊎_elim}
use Rattle.std.proofs.lemmas.Bool.{cases_lt}
use Rattle.std.proofs.lemmas.List.{get_or_default}
use Rattle.fort_theory.specs.Signatures.{Signature}
use Rattle.fort_tables.specs.Entries.{Entry, no_entry, IsEntry, ComesBefore, IsNextEntry, IsLastEntry}
use Rattle.fort_tables.specs.Tables.{Listed, IsListed, target_in}
use Rattle.fort_tables.proofs.NumberLaws.{listed_target}
use Rattle.fort_tables.proofs.OrderLaws.{before_irrefl, before_trans, none_before}

-- the entry before a place; before the first one there is none
abbrev pub entry_before : Listed → ℕ → Entry
entry_before t zero = no_entry t.columns
entry_before t (suc k) = get_or t.entries k (no_entry t.columns)

index_of : (es : List Entry) (e d : Entry) → Contains es e → (j : ℕ) × (j < length es) × (get_or es j d ≡ e)
index_of es e d (k, l, q) = (k, l, get_or_default es k d e l ∙ q)

-- the entry at a place comes behind the one before it
comes_next : (t : Listed) (n : ℕ) (d : Entry) → IsListed t → n < length t.entries → ComesBefore (entry_before t n) (get_or t.entries n d)
comes_next t zero d h l = none_before t.signature t.columns t.presences (get_or t.entries 0 d) (h.order.are 0 d l)
comes_next t (suc k) d h l =
    subst (λ (x : Entry). ComesBefore x (get_or t.entries (suc k) d)) (get_or_default t.entries k d (no_entry t.columns) (omega arith))
    (h.order.order k (suc k) d (omega arith) l)

-- no entry before a place comes behind the one before that place
none_behind : (t : Listed) (n j : ℕ) (d : Entry) → IsListed t → n ≤ length t.entries → j < n → ComesBefore (entry_before t n) (get_or t.entries j d) → ⊥
none_behind t zero j d h l o b = omega arith
none_behind t (suc k) j d h l o b =
    let own : ComesBefore (get_or t.entries k d) (get_or t.entries j d) =
    subst (λ (x : Entry). ComesBefore x (get_or t.entries j d)) (get_or_default t.entries k (no_entry t.columns) d (omega arith)) b in
    ⊎_elim
    (λ (less : j < k). before_irrefl (get_or t.entries j d) (before_trans (get_or t.entries j d) (get_or t.entries k d) (get_or t.entries j d) (h.order.order j k d less (omega arith)) own))
    (λ (more : k ≤ j).
    let same : k ≡ j = omega arith in
    before_irrefl (get_or t.entries j d) (subst (λ (i : ℕ). ComesBefore (get_or t.entries i d) (get_or t.entries j d)) same own))
    (cases_lt j k)

-- what comes first behind the entry before a place is the entry at it
next_entry : (t : Listed) (n : ℕ) (e d : Entry) → IsListed t → n < length t.entries → IsNextEntry t.signature t.columns t.presences (entry_before t n) e → e ≡ get_or t.entries n d
next_entry t n e d h l next =
    let x = get_or t.entries n d in
    ⊎_elim
    (λ (same : e ≡ x). same)
    (λ (earlier : ComesBefore e x).
    let at = index_of t.entries e d (h.all e next.is_entry) in
    absurd (⊎_elim
    (λ (less : at.0 < n). none_behind t n at.0 d h (omega arith) less (subst (λ (y : Entry). ComesBefore (entry_before t n) y) (sym at.2) next.after))
    (λ (more : n ≤ at.0).
    let own : ComesBefore (get_or t.entries at.0 d) x = subst (λ (y : Entry). ComesBefore y x) (sym at.2) earlier in
    ⊎_elim
    (λ (behind : n < at.0). before_irrefl x (before_trans x (get_or t.entries at.0 d) x (h.order.order n at.0 d behind at.1) own))
    (λ (not_behind : at.0 ≤ n).
    let same : at.0 ≡ n = omega arith in
    before_irrefl x (subst (λ (i : ℕ). ComesBefore (get_or t.entries i d) x) same own))
    (cases_lt n at.0))
    (cases_lt at.0 n)))
    (next.first x (h.order.are n d l) (comes_next t n d h l))

-- Result: a walk that stands at the entry before a place goes on to the entry at it
pub advanced : (t : Listed) (n : ℕ) (last e d : Entry) (b : Bool) (sig : Signature) (c : ℕ) (ps : List ℕ) → IsListed t → n < length t.entries → sig ≡ t.signature → c ≡ t.columns → ps ≡ t.presences
    → last ≡ entry_before t n → (b ≡ true → IsNextEntry sig c ps last e) → (b ≡ false → IsLastEntry sig c ps last) → e ≡ get_or t.entries n d
advanced t n last e d true sig c ps h l s q p is next none =
    next_entry t n e d h l
    (subst (λ (x : Entry). IsNextEntry t.signature t.columns t.presences x e) is
    (subst (λ (x : List ℕ). IsNextEntry t.signature t.columns x last e) p
    (subst (λ (x : ℕ). IsNextEntry t.signature x ps last e) q
    (subst (λ (x : Signature). IsNextEntry x c ps last e) s (next refl)))))
advanced t n last e d false sig c ps h l s q p is next none =
    let at_end =
    subst (λ (x : Entry). IsLastEntry t.signature t.columns t.presences x) is
    (subst (λ (x : List ℕ). IsLastEntry t.signature t.columns x last) p
    (subst (λ (x : ℕ). IsLastEntry t.signature x ps last) q
    (subst (λ (x : Signature). IsLastEntry x c ps last) s (none refl)))) in
    absurd (at_end (get_or t.entries n d) (h.order.are n d l) (comes_next t n d h l))

-- the entry before the next place
pub before_more : (t : Listed) (n : ℕ) (e : Entry) → e ≡ get_or t.entries n (no_entry t.columns) → e ≡ entry_before t (n + 1)
before_more t n e is = let more : suc n ≡ n + 1 = omega arith in subst (λ (i : ℕ). e ≡ entry_before t i) more is

-- the target at the place of an entry is the entry's
pub walked_target : (t : Listed) (n : ℕ) (e : Entry) (targets : List ℕ) → IsListed t → n < length t.targets → targets ≡ t.targets → get_or t.entries n (no_entry t.columns) ≡ e → get_or targets n 0 ≡ target_in t.entries t.targets e
walked_target t n e targets h l same is = ap (λ (qs : List ℕ). get_or qs n 0) same ∙ (sym (listed_target t n h l) ∙ ap (target_in t.entries t.targets) is)

-- an entry of the table is one of the list
pub walked_past : (t : Listed) (n : ℕ) (e : Entry) → IsListed t → length t.entries ≤ n → IsEntry t.signature t.columns t.presences e
    → ((j : ℕ) → j < n → get_or t.entries j (no_entry t.columns) ≡ e → ⊥) → ⊥
walked_past t n e h l is none = let at = index_of t.entries e (no_entry t.columns) (h.all e is) in none at.0 (omega (arith, at.1)) at.2

-- one more entry that is not the one sought
pub others_more : (t : Listed) (n : ℕ) (e : Entry) → ((j : ℕ) → j < n → get_or t.entries j (no_entry t.columns) ≡ e → ⊥) → (get_or t.entries n (no_entry t.columns) ≡ e → ⊥)
    → (j : ℕ) → j < n + 1 → get_or t.entries j (no_entry t.columns) ≡ e → ⊥
others_more t n e before here j less is =
    ⊎_elim
    (λ (b : j < n). before j b is)
    (λ (b : n ≤ j). let same : n ≡ j = omega arith in here (ap (λ (i : ℕ). get_or t.entries i (no_entry t.columns)) same ∙ is))
    (cases_lt j n)
