-- Entries in order up to one of them are the first ones there are; all of them are all; what a list has for them.
use Rattle.std.proofs.Common.{◌≡◌, ℕ, ◌<◌, ◌⊎◌, List, [], ◌∷◌, map, take, length, get_or, refl, ap, sym, ◌∙◌, arith, subst, inl, inr, ⊎_elim}
use Rattle.std.specs.Prelude.{Contains}
use Rattle.std.specs.List.{AllPairs}
use Rattle.std.proofs.lemmas.List.{length-map, get_or-map, get_or_default, ext_get_or}
use Rattle.std.proofs.lemmas.List.Elements.{All-contains}
use Rattle.fort_theory.specs.Signatures.{Signature}
use Rattle.fort_theory.proofs.Members.{Contains-none, Contains-head, Contains-behind, Contains-cons_cases}
use Rattle.fort_tables.specs.Entries.{Entry, no_entry, IsEntry, ComesBefore, AreInOrder, HasAllEntries}
use Rattle.fort_tables.specs.Tables.{Table, target_in, IsTableEntry}
use Rattle.fort_tables.specs.Laid.{all_entries}
use Rattle.fort_tables.proofs.AllEntries.{all_in_order, all_there, entries_unique}
use Rattle.fort_tables.proofs.EntryLaws.{target_found}
use Rattle.fort_tables.proofs.OrderLaws.{before_irrefl, before_trans, order_one}
use Rattle.fort_tables.proofs.OrderedLists.{AllPairs-head, AllPairs-tail}
use Rattle.fort_target_lists.specs.TargetLists.{IsTargetListOf, target_read}
use Rattle.fort_target_lists.proofs.LookUpLaws.{target_read_is}
use Rattle.fort_target_lists.specs.declared.target_list.TargetList.{TargetList}
use Rattle.fort_lockstep.specs.Making.{IsUpTo}
use Rattle.fort_lockstep.specs.Fronts.{whole_of, front_of, targets_in}

module _ {A : Type 0} (R : A → A → Type 0) (irrefl : (x : A) → R x x → ⊥) (trans : (x y z : A) → R x y → R y z → R x z) where
  -- an element of a strictly ordered list that is not its first one
  later : (x y z : A) (xs ys : List A) → AllPairs R (x ∷ xs) → x ≡ y → Contains xs z → Contains (y ∷ ys) z → Contains ys z
  later x y z xs ys h e c d =
      ⊎_elim
      (λ s. absurd (irrefl x (subst (R x) (sym (e ∙ s)) (All-contains (R x) xs z (AllPairs-head R x xs h) c))))
      (λ m. m)
      (Contains-cons_cases y ys z d)

  first_one : (x y : A) (xs ys : List A) → AllPairs R (x ∷ xs) → AllPairs R (y ∷ ys) → Contains (y ∷ ys) x → Contains (x ∷ xs) y ⊎ R x y → x ≡ y
  first_one x y xs ys h k c d =
      let before : R x y → x ≡ y = λ r. ⊎_elim
      (λ s. sym s)
      (λ m. absurd (irrefl x (trans x y x r (All-contains (R y) ys x (AllPairs-head R y ys k) m))))
      (Contains-cons_cases y ys x c) in
      ⊎_elim
      (λ m. ⊎_elim (λ s. s) (λ n. before (All-contains (R x) xs y (AllPairs-head R x xs h) n)) (Contains-cons_cases x xs y m))
      before
      d

  -- Result: in strict order, a list whose other elements of a second one all come later is the front of that one
  pub front_one : (xs ys : List A) → AllPairs R xs → AllPairs R ys → ((z : A) → Contains xs z → Contains ys z)
      → ((z : A) → Contains ys z → Contains xs z ⊎ ((x : A) → Contains xs x → R x z)) → xs ≡ take (length xs) ys
  front_one [] ys h k c d = refl
  front_one (x ∷ xs) [] h k c d = absurd (Contains-none x (c x (Contains-head x xs)))
  front_one (x ∷ xs) (y ∷ ys) h k c d =
      let e : x ≡ y = first_one x y xs ys h k (c x (Contains-head x xs)) (⊎_elim (λ m. inl m) (λ r. inr (r x (Contains-head x xs))) (d y (Contains-head y ys))) in
      let r : xs ≡ take (length xs) ys =
      front_one xs ys (AllPairs-tail R x xs h) (AllPairs-tail R y ys k)
      (λ z m. later x y z xs ys h e m (c z (Contains-behind x xs z m)))
      (λ z m. ⊎_elim
      (λ n. inl (later y x z ys xs k (sym e) m n))
      (λ b. inr (λ w n. b w (Contains-behind x xs w n)))
      (d z (Contains-behind y ys z m))) in
      λ j. e j ∷ r j

-- entries in order up to one of them
pub front_up_to : (sig : Signature) (n : ℕ) (ps : List ℕ) (es : List Entry) (last : Entry) → AreInOrder sig n ps es → IsUpTo sig n ps es last → es ≡ front_of sig n ps (length es)
unfolding front_of
front_up_to sig n ps es last o u =
    let all = all_in_order sig n ps in
    let whole = all_entries sig n ps in
    front_one ComesBefore before_irrefl before_trans es whole o.order all.order
    (λ z m. all_there sig n ps z (All-contains (IsEntry sig n ps) es z o.are m))
    (λ z m. ⊎_elim
    (λ c. inl c)
    (λ b. inr (λ x c.
    let at : (ComesBefore x z) = ⊎_elim
    (λ e. subst (λ (y : Entry). ComesBefore y z) (sym (sym c.2 ∙ e)) b)
    (λ a. before_trans x last z (subst (λ (y : Entry). ComesBefore y last) c.2 a) b)
    (u.before c.0 x c.1) in
    at))
    (u.all z (All-contains (IsEntry sig n ps) whole z all.are m)))

pub front_none : (sig : Signature) (n : ℕ) (ps : List ℕ) → front_of sig n ps 0 ≡ []
unfolding front_of
front_none sig n ps = refl

-- where each entry is there
pub whole_from : (sig : Signature) (n : ℕ) (ps : List ℕ) (es : List Entry) → AreInOrder sig n ps es → HasAllEntries sig n ps es → es ≡ whole_of sig n ps
unfolding whole_of
whole_from sig n ps es o h = entries_unique sig n ps es o h

-- what a table's list has for its entries
pub targets_read : (body : Table) (es : List Entry) (qs : List ℕ) (l : TargetList) → AreInOrder body.signature body.columns body.presences es → length qs ≡ length es
    → ((e : Entry) → body.target e ≡ target_in es qs e) → IsTargetListOf body l → qs ≡ targets_in l es
unfolding targets_in
targets_read body es qs l o count is h =
    ext_get_or 0 qs (map (target_read l) es) (count ∙ sym (length-map es (target_read l)))
    (λ k low.
    let d = no_entry 0 in
    let within : k < length es = omega arith in
    let e = get_or es k d in
    let own : get_or es k e ≡ e = sym (get_or_default es k d e within) in
    let there : IsTableEntry body e = o.are k d within in
    let f = target_found es qs e k within own (omega (arith, count)) in
    let same : f.place ≡ k = order_one body.signature body.columns body.presences es f.place k e o f.within within (f.is ∙ sym own) in
    sym (get_or-map (target_read l) es k d 0 within ∙ (target_read_is body l e h there ∙ (is e ∙ (f.target ∙ ap (λ i. get_or qs i 0) same)))))
