-- Places of slots, and which forms fit or are bad from a place on.
use Rattle.std.proofs.Common.{◌≡◌, ℕ, zero, suc, ◌+◌, ◌<◌, ◌≤◌, List, [], ◌∷◌, map, length, get_or, drop, Option, None, Some, refl, ap, sym, ◌∙◌, subst, arith}
use Rattle.std.proofs.lemmas.List.{drop_more, drop_all, nil_from_length}
use Rattle.fort_grammar.specs.Forms.{Form}
use Rattle.fort_certificate_theory.specs.CertificateFaults as grammar
use Rattle.fort_certificate_theory.specs.CertificateFaults.{Fits, IsBadAt, AreBad, Absent, Here, Later, Extra, HereOfRest, LaterOfRest}
use Rattle.fort_certificate_theory.specs.FilledSlots.{FitAll}
use Rattle.fort_certificate.specs.declared.slot.Slot.{Slot}
use Rattle.fort_certificate.specs.ReadView.{as_slot, slot_at}

pub slot_at-some : (xs : List Slot) (i : ℕ) (d : Slot) (last : Option grammar.Slot) → i < length xs → slot_at i (map as_slot xs) last ≡ Some (as_slot (get_or xs i d))
slot_at-some [] i d last l = absurd (omega arith)
slot_at-some (x ∷ xs) zero d last l = refl
slot_at-some (x ∷ xs) (suc i) d last l = slot_at-some xs i d last (omega arith)

pub slot_at-none : (xs : List Slot) (i : ℕ) (last : Option grammar.Slot) → length xs ≤ i → slot_at i (map as_slot xs) last ≡ last
slot_at-none [] i last l = refl
slot_at-none (x ∷ xs) zero last l = absurd (omega arith)
slot_at-none (x ∷ xs) (suc i) last l = slot_at-none xs i last (omega arith)

-- slots of which some are filled, where these forms are left
pub record IsPassed (bytes : List ℕ) (slots : List grammar.Slot) (last : Option grammar.Slot) (forms left : List Form) (place : ℕ) : Type 0 where
  pub bad : (kind : grammar.FaultKind) → AreBad bytes (drop place slots) last left kind → AreBad bytes slots last forms kind
  pub fit : FitAll bytes (drop place slots) last left → FitAll bytes slots last forms
  pub long : place + length left ≡ length forms

-- a slot of those that stand once, or the last one
data StandsAt (ss : List grammar.Slot) (last : Option grammar.Slot) (k : ℕ) : Type 0 where
  Once : (s : grammar.Slot) → drop k ss ≡ s ∷ drop (suc k) ss → slot_at k ss last ≡ Some s → StandsAt ss last k
  Behind : drop k ss ≡ [] → drop (suc k) ss ≡ [] → slot_at k ss last ≡ last → StandsAt ss last k

stands_at : (ss : List grammar.Slot) (last : Option grammar.Slot) (k : ℕ) → StandsAt ss last k
stands_at [] last zero = Behind refl refl refl
stands_at [] last (suc k) = Behind refl refl refl
stands_at (s ∷ ss) last zero = Once s refl refl
stands_at (s ∷ ss) last (suc k) = later (stands_at ss last k)
  where
    later : StandsAt ss last k → StandsAt (s ∷ ss) last (suc k)
    later (Once t a b) = Once t a b
    later (Behind a b c) = Behind a b c

some_one : {A : Type 0} (x y : A) → Some x ≡ Some y → x ≡ y
some_one x y h = cc

none_some : {A : Type 0} (x : A) → None ≡ Some x → ⊥
none_some x h = cc

module _ (bytes : List ℕ) (slots : List grammar.Slot) (last : Option grammar.Slot) (forms left : List Form) (place : ℕ) (f : Form) (fs : List Form)
    (passed : IsPassed bytes slots last forms left place) (next : left ≡ f ∷ fs) where
  -- no slot is left
  pub passed_extra : slot_at place slots last ≡ None → AreBad bytes slots last forms grammar.AsForm
  passed_extra none = passed.bad grammar.AsForm (by (stands_at slots last place))
    where
      by : StandsAt slots last place → AreBad bytes (drop place slots) last left grammar.AsForm
      by (Once s a b) = absurd (none_some s (sym none ∙ b))
      by (Behind a b c) =
          let is : last ≡ None = sym c ∙ none in
          rw (a, is, next) (Extra f fs)

  pub passed_bad : (s : grammar.Slot) (kind : grammar.FaultKind) → slot_at place slots last ≡ Some s → IsBadAt bytes f s kind
      → AreBad bytes slots last forms kind
  passed_bad s kind is bad = passed.bad kind (by (stands_at slots last place))
    where
      by : StandsAt slots last place → AreBad bytes (drop place slots) last left kind
      by (Once t a b) =
          let same : s ≡ t = some_one s t (sym is ∙ b) in
          rw (a, next) (Here t (drop (suc place) slots) last f fs kind (subst (λ x. IsBadAt bytes f x kind) same bad))
      by (Behind a b c) =
          let e : last ≡ Some s = sym c ∙ is in
          rw (a, e, next) (HereOfRest s f fs kind bad)

  pub passed_more : (s : grammar.Slot) → slot_at place slots last ≡ Some s → Fits bytes f s → IsPassed bytes slots last forms fs (place + 1)
  passed_more s is fits = by (stands_at slots last place)
    where
      one : place + 1 ≡ suc place
      one = omega arith

      long : (place + 1) + length fs ≡ length forms
      long = omega (arith, passed.long, ap (λ gs. length gs) next)

      by : StandsAt slots last place → IsPassed bytes slots last forms fs (place + 1)
      by (Once t a b) =
          let same : s ≡ t = some_one s t (sym is ∙ b) in
          let now : Fits bytes f t = subst (Fits bytes f) same fits in
          record {
            bad = λ kind bad. passed.bad kind
                (rw (a, next) (Later t (drop (suc place) slots) last f fs kind now
                (subst (λ n. AreBad bytes (drop n slots) last fs kind) one bad)));
            fit = λ all. passed.fit (rw (a, next) (now, subst (λ n. FitAll bytes (drop n slots) last fs) one all));
            long = long;
          }
      by (Behind a b c) =
          let e : last ≡ Some s = sym c ∙ is in
          record {
            bad = λ kind bad. passed.bad kind
                (rw (a, next) (subst (λ l. AreBad bytes [] l (f ∷ fs) kind) (sym e)
                (LaterOfRest s f fs kind fits
                (subst (λ l. AreBad bytes [] l fs kind) e
                (subst (λ ss. AreBad bytes ss last fs kind) b
                (subst (λ n. AreBad bytes (drop n slots) last fs kind) one bad))))));
            fit = λ all. passed.fit
                (rw (a, next) (subst (λ l. FitAll bytes [] l (f ∷ fs)) (sym e) (
                  fits,
                  subst (λ l. FitAll bytes [] l fs) e
                      (subst (λ ss. FitAll bytes ss last fs) b
                      (subst (λ n. FitAll bytes (drop n slots) last fs) one all)),
                )));
            long = long;
          }

fit_none : (bytes : List ℕ) (last : Option grammar.Slot) → FitAll bytes [] last []
fit_none bytes None = tt
fit_none bytes (Some s) = tt

module _ (bytes : List ℕ) (slots : List grammar.Slot) (last : Option grammar.Slot) (forms left : List Form) (place : ℕ)
    (passed : IsPassed bytes slots last forms left place) (end : length forms ≤ place) where
  none_left : left ≡ []
  none_left = nil_from_length left (omega (arith, passed.long, end))

  -- at the end a slot is missing, or none is
  pub passed_short : length forms < length slots → AreBad bytes slots last forms grammar.AsForm
  passed_short short =
      let next : drop place slots ≡ get_or slots place grammar.WhichSlot ∷ drop (place + 1) slots =
      drop_more slots place grammar.WhichSlot (omega (arith, passed.long, short)) in
      passed.bad grammar.AsForm
      (rw (next, none_left) (Absent (get_or slots place grammar.WhichSlot) (drop (place + 1) slots) last))

  pub passed_all : length slots ≤ length forms → FitAll bytes slots last forms
  passed_all few =
      let none : drop place slots ≡ [] = drop_all place slots (omega (arith, end, few)) in
      passed.fit (rw (none, none_left) (fit_none bytes last))
