-- Targets that are held against the entries from a place on are right, where those before are, and from the first one on, where a walk made their states.
use Rattle.std.proofs.Common.{◌≡◌, ℕ, suc, ◌<◌, ◌⊎◌, List, [], ◌∷◌, ◌++◌, map, length, take, get_or, refl, ap, sym, ◌∙◌, arith, subst, inl, inr, ⊎_elim, length-append, append_assoc}
use Rattle.std.specs.Prelude.{Contains}
use Rattle.std.specs.List.{All, AllPairs}
use Rattle.std.proofs.lemmas.List.{append-nil, get_or_at, get_or_append_left, length-map, length-take}
use Rattle.std.proofs.lemmas.List.Elements.{All-contains, Contains-append_cases, Contains-append_right}
use Rattle.fort_theory.proofs.Members.{Contains-none, Contains-head, Contains-behind, Contains-cons_cases}
use Rattle.fort_tables.specs.Entries.{Entry, IsEntry, ComesBefore, IsLastEntry, AreInOrder}
use Rattle.fort_tables.specs.Labels.{first_word}
use Rattle.fort_tables.specs.LabelRules.{LabelRule, IsLabelRule}
use Rattle.fort_tables.proofs.OrderLaws.{before_irrefl, before_trans}
use Rattle.fort_tables.specs.Laid.{all_entries}
use Rattle.fort_tables.proofs.OrderedLists.{AllPairs-head, AllPairs-tail}
use Rattle.fort_tables.proofs.AllEntries.{all_in_order, all_there}
use Rattle.fort_products.specs.HeldTargets.{IsHeld, AreHeldFrom, entries_with}
use Rattle.fort_certificate_theory.specs.PartSteps.{states_before, AreRightTo, IsRightPart}
use Rattle.fort_certificate_theory.proofs.PartTables.{rows_in_order, entry_label_same}
use Rattle.fort_certificate_theory.proofs.EntryWalks.{Walked, IsNextOf, walked_old}
use Rattle.fort_check_steps.specs.Guesses.{Guessed}
use Rattle.fort_check_steps.proofs.GuessLaws.{all_before}
use Rattle.fort_check_steps.proofs.TargetLaws.{right_all}

-- what is left of a list behind its front
record IsFrontOf {A : Type 0} (xs ys : List A) : Type 0 where
  rest : List A
  is : ys ≡ xs ++ rest

-- a member of the one list that is there or comes after all of the other
abbrev IsThereOrAfter : {A : Type 0} → (A → A → Type 0) → List A → A → Type 0
IsThereOrAfter R xs z = Contains xs z ⊎ All (λ x. R x z) xs

-- of two lists in strict order, the one whose members the other has, and before all other members of that, is its front
front_of : {A : Type 0} (R : A → A → Type 0) → ((x : A) → R x x → ⊥) → ((x y z : A) → R x y → R y z → R x z) → (xs ys : List A)
    → AllPairs R xs → AllPairs R ys → ((z : A) → Contains xs z → Contains ys z) → ((z : A) → Contains ys z → IsThereOrAfter R xs z) → IsFrontOf xs ys
front_of R i t [] ys h k c d = record { rest = ys; is = refl }
front_of R i t (x ∷ xs) [] h k c d = absurd (Contains-none x (c x (Contains-head x xs)))
front_of {A} R i t (x ∷ xs) (y ∷ ys) h k c d =
    let not_before : R y x → ⊥ =
    λ b. ⊎_elim
    (λ m. ⊎_elim (λ e. i y (subst (R y) e b)) (λ n. i x (t x y x (All-contains (R x) xs y (AllPairs-head R x xs h) n) b)) (Contains-cons_cases x xs y m))
    (λ a. i x (t x y x (a 0 x (omega arith)) b))
    (d y (Contains-head y ys)) in
    let same : x ≡ y =
    ⊎_elim (λ e. sym e) (λ m. absurd (not_before (All-contains (R y) ys x (AllPairs-head R y ys k) m))) (Contains-cons_cases y ys x (c x (Contains-head x xs))) in
    let later : (z : A) → Contains xs z → Contains ys z =
    λ z m. ⊎_elim
    (λ e. absurd (i x (subst (R x) (sym (same ∙ e)) (All-contains (R x) xs z (AllPairs-head R x xs h) m))))
    (λ n. n)
    (Contains-cons_cases y ys z (c z (Contains-behind x xs z m))) in
    let earlier : (z : A) → Contains ys z → IsThereOrAfter R xs z =
    λ z m. ⊎_elim
    (λ n. ⊎_elim
    (λ e. absurd (i y (subst (R y) (sym (sym same ∙ e)) (All-contains (R y) ys z (AllPairs-head R y ys k) m))))
    (λ o. inl o)
    (Contains-cons_cases x xs z n))
    (λ a. inr (λ j w l. a (suc j) w (omega arith)))
    (d z (Contains-behind y ys z m)) in
    let r = front_of R i t xs ys (AllPairs-tail R x xs h) (AllPairs-tail R y ys k) later earlier in
    record { rest = r.rest; is = λ j. sym same j ∷ r.is j }

-- an entry of a walk doesn't come after its last one
not_after : (r : LabelRule) (qs : List ℕ) (k : ℕ) (entries : List Entry) (ws : List (List ℕ)) (last x : Entry) → Walked r qs k entries ws last → Contains entries x → ComesBefore last x → ⊥
not_after r qs k entries ws last x w c b =
    ⊎_elim
    (λ e. before_irrefl x (subst (λ (y : Entry). ComesBefore y x) (sym e ∙ c.2) b))
    (λ a. before_irrefl x (before_trans x last x (subst (λ (y : Entry). ComesBefore y last) c.2 a) b))
    (w.before c.0 x c.1)

-- each entry over these states is one of the list
entry_from : (r : LabelRule) (ws : List (List ℕ)) (x : Entry) → Contains (entries_with r ws) x → IsEntry r.signature r.columns (map first_word ws) x
entry_from r ws x c = All-contains (IsEntry r.signature r.columns (map first_word ws)) (entries_with r ws) x (all_in_order r.signature r.columns (map first_word ws)).are c

-- entries in order, behind which others come, are the first of all
first_of_all : (r : LabelRule) (entries : List Entry) (ws : List (List ℕ)) (last : Entry) → AreInOrder r.signature r.columns (map first_word ws) entries
    → ((i : ℕ) (d : Entry) → i < length entries → (get_or entries i d ≡ last) ⊎ ComesBefore (get_or entries i d) last)
    → ((x : Entry) → IsEntry r.signature r.columns (map first_word ws) x → Contains entries x ⊎ ComesBefore last x) → IsFrontOf entries (entries_with r ws)
first_of_all r entries ws last mine before behind =
    let ps = map first_word ws in
    let all : AreInOrder r.signature r.columns ps (entries_with r ws) = all_in_order r.signature r.columns ps in
    front_of ComesBefore before_irrefl before_trans entries (entries_with r ws) mine.order all.order
    (λ z c. all_there r.signature r.columns ps z (All-contains (IsEntry r.signature r.columns ps) entries z mine.are c))
    (λ z c. ⊎_elim (λ m. inl m) (λ b. inr (all_before entries last z before b)) (behind z (entry_from r ws z c)))

-- so are those of a walk
walked_front : (r : LabelRule) (qs : List ℕ) (k : ℕ) (entries : List Entry) (ws : List (List ℕ)) (last : Entry) → Walked r qs k entries ws last → IsFrontOf entries (entries_with r ws)
walked_front r qs k entries ws last w = first_of_all r entries ws last (rows_in_order r qs k entries ws w.right) w.before w.all

-- behind the last one there is none
walk_ended : (r : LabelRule) (qs : List ℕ) (k : ℕ) (entries : List Entry) (ws : List (List ℕ)) (last : Entry) → Walked r qs k entries ws last → entries_with r ws ≡ entries → IsLastEntry r.signature r.columns (map first_word ws) last
walk_ended r qs k entries ws last w is x h b =
    not_after r qs k entries ws last x w (subst (λ (es : List Entry). Contains es x) is (all_there r.signature r.columns (map first_word ws) x h)) b

-- an element comes before those behind it
before_rest : {A : Type 0} (R : A → A → Type 0) (xs : List A) (y z : A) (ys : List A) → AllPairs R (xs ++ y ∷ ys) → Contains ys z → R y z
before_rest R [] y z ys h c = All-contains (R y) ys z (AllPairs-head R y ys h) c
before_rest R (x ∷ xs) y z ys h c = before_rest R xs y z ys (AllPairs-tail R x (xs ++ y ∷ ys) h) c

-- and after those before it
front_before : {A : Type 0} (R : A → A → Type 0) (xs : List A) (y z : A) (ys : List A) → AllPairs R (xs ++ y ∷ ys) → Contains xs z → R z y
front_before R [] y z ys h c = absurd (Contains-none z c)
front_before {A} R (x ∷ xs) y z ys h c =
    ⊎_elim
    (λ e. subst (λ (w : A). R w y) e (All-contains (R x) (xs ++ y ∷ ys) y (AllPairs-head R x (xs ++ y ∷ ys) h) (Contains-append_right xs (y ∷ ys) y (Contains-head y ys))))
    (λ m. front_before R xs y z ys (AllPairs-tail R x (xs ++ y ∷ ys) h) m)
    (Contains-cons_cases x xs z c)

-- the entry behind those of a walk is the next one
next_held : (r : LabelRule) (qs : List ℕ) (k : ℕ) (entries rest : List Entry) (ws : List (List ℕ)) (last e : Entry) → Walked r qs k entries ws last → entries_with r ws ≡ entries ++ e ∷ rest → IsNextOf r ws last e
next_held r qs k entries rest ws last e w is =
    let ps = map first_word ws in
    let order : AllPairs ComesBefore (entries ++ e ∷ rest) = subst (λ (es : List Entry). AllPairs ComesBefore es) is (all_in_order r.signature r.columns ps).order in
    let there : Contains (entries ++ e ∷ rest) e = Contains-append_right entries (e ∷ rest) e (Contains-head e rest) in
    let here : IsEntry r.signature r.columns ps e = entry_from r ws e (subst (λ (es : List Entry). Contains es e) (sym is) there) in
    record {
      is_entry = here;
      after = ⊎_elim (λ c. absurd (before_irrefl e (front_before ComesBefore entries e e rest order c))) (λ b. b) (w.all e here);
      first = λ x h b.
          ⊎_elim
          (λ c. absurd (not_after r qs k entries ws last x w c b))
          (λ c. ⊎_elim (λ s. inl s) (λ m. inr (before_rest ComesBefore entries e x rest order m)) (Contains-cons_cases e rest x c))
          (Contains-append_cases entries (e ∷ rest) x (subst (λ (es : List Entry). Contains es x) is (all_there r.signature r.columns ps x h)));
    }

-- from a later place on too
held_later : (r : LabelRule) (k : ℕ) (qs : List ℕ) (ws : List (List ℕ)) → AreHeldFrom r k qs ws → AreHeldFrom r (suc k) qs ws
held_later r k qs ws h = record { count = h.count; held = λ j d l m. h.held j d (omega arith) m }

-- the entries that are left, one after the other
held_on : (r : LabelRule) (qs : List ℕ) (ws : List (List ℕ)) (rest : List Entry) (k : ℕ) (entries : List Entry) (last : Entry) → IsLabelRule r → Walked r qs k entries ws last
    → entries_with r ws ≡ entries ++ rest → AreHeldFrom r k qs ws → IsRightPart r qs (entries_with r ws) ws
held_on r qs ws [] k entries last law w is h =
    let same : entries_with r ws ≡ entries = is ∙ append-nil entries in
    let whole : k ≡ length qs = omega (arith, w.right.count, h.count, ap length same) in
    right_all r qs entries ws last law (subst (λ (n : ℕ). Walked r qs n entries ws last) whole w) (walk_ended r qs k entries ws last w same)
held_on r qs ws (e ∷ rest) k entries last law w is h =
    let low : k < length qs = omega (arith, w.right.count, h.count, ap length is, length-append entries (e ∷ rest)) in
    let at : get_or (entries_with r ws) k e ≡ e = ap (λ (es : List Entry). get_or es k e) is ∙ get_or_at entries e rest e k w.right.count in
    let held : IsHeld r ws e (get_or qs k 0) = subst (λ (x : Entry). IsHeld r ws x (get_or qs k 0)) at (h.held k e (omega arith) low) in
    held_on r qs ws rest (suc k) (entries ++ e ∷ []) e law
    (walked_old r qs k entries ws last e w (next_held r qs k entries rest ws last e w is) low held.within held.label)
    (is ∙ sym (append_assoc entries (e ∷ []) rest))
    (held_later r k qs ws h)

held_right : (r : LabelRule) (qs : List ℕ) (k : ℕ) (entries : List Entry) (ws : List (List ℕ)) (last : Entry) → IsLabelRule r → Walked r qs k entries ws last → AreHeldFrom r k qs ws → IsRightPart r qs (all_entries r.signature r.columns (map first_word ws)) ws
held_right r qs k entries ws last law w h =
    let front = walked_front r qs k entries ws last w in
    held_on r qs ws front.rest k entries last law w front.is h

-- what was guessed is right, where all targets are held
guess_walked : (r : LabelRule) (qs : List ℕ) (k : ℕ) (entries : List Entry) (ws : List (List ℕ)) (last : Entry) → Guessed r qs k entries ws last → AreHeldFrom r 0 qs ws → Walked r qs k entries ws last
guess_walked r qs k entries ws last w h =
    let front = first_of_all r entries ws last w.order w.before w.all in
    let right : AreRightTo r qs k entries ws = record {
      within = w.within;
      count = w.count;
      states = w.states;
      right = λ i d l.
          let e = get_or entries i d in
          let s = states_before qs i in
          let g = w.each i d l in
          let at : get_or (entries_with r ws) i d ≡ e = ap (λ (es : List Entry). get_or es i d) front.is ∙ get_or_append_left entries front.rest d i (omega (arith, w.count)) in
          let held : IsHeld r ws e (get_or qs i 0) = subst (λ (x : Entry). IsHeld r ws x (get_or qs i 0)) at (h.held i d (omega arith) (omega (arith, w.within))) in
          let below : (j : ℕ) → j < length e.kids → get_or e.kids j 0 < s = λ j m. omega (arith, g.due.is_entry.within j m, length-map (take s ws) first_word, length-take s ws) in
          record { due = g.due; known = g.known; label = held.label ∙ sym (entry_label_same r ws s e below) };
    } in
    record { right = right; before = w.before; all = w.all }

-- Result
pub guess_right : (r : LabelRule) (qs : List ℕ) (k : ℕ) (entries : List Entry) (ws : List (List ℕ)) (last : Entry) → IsLabelRule r → Guessed r qs k entries ws last → AreHeldFrom r 0 qs ws
    → IsRightPart r qs (all_entries r.signature r.columns (map first_word ws)) ws
guess_right r qs k entries ws last law w h =
    held_right r qs k entries ws last law (guess_walked r qs k entries ws last w h) (record { count = h.count; held = λ j d l m. h.held j d (omega arith) m })
