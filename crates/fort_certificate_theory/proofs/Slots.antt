-- What fits into a slot isn't bad there, and what is bad there is so in one way.
use Rattle.std.proofs.Common.{◌≡◌, ℕ, List, [], ◌∷◌, Option, None, Some, codes, refl, sym, ◌∙◌, subst}
use Rattle.fort_tables.specs.Counts.{Count}
use Rattle.fort_grammar.specs.Forms.{Form}
use Rattle.fort_grammar.specs.Declarations.{word_of, IsListOfWords}
use Rattle.fort_certificate_theory.specs.CertificateForms.{IsNumberWord, IsCountForm, FiniteForm, InfiniteForm}
use Rattle.fort_certificate_theory.specs.CertificateFaults.{FaultKind, Slot, WhichSlot, NumberSlot, VerdictSlot, PairSlot, CountSlot, Fits, IsBadAt, NoWhich, NoVerdict, NoWord, NoNumber, NotThree, NoPair, NotTwo, NoCount, FiniteNumber, InfiniteNumber, AreBad, Absent, Here, Later, Extra, HereOfRest, LaterOfRest}
use Rattle.fort_certificate_theory.specs.FilledSlots.{FitAll}
use Rattle.fort_certificate_theory.proofs.OneCertificate.{word_one, list_words_one, fin_inf}

none_some : {A : Type 0} (x : A) (o : Option A) → o ≡ None → o ≡ Some x → ⊥
none_some x o h k = let e : None ≡ Some x = sym h ∙ k in absurd cc

two_first : {A : Type 0} (a b x y : A) → a ∷ b ∷ [] ≡ x ∷ y ∷ [] → a ≡ x
two_first a b x y h = cc

two_second : {A : Type 0} (a b x y : A) → a ∷ b ∷ [] ≡ x ∷ y ∷ [] → b ≡ y
two_second a b x y h = cc

-- two lists of two words
module _ (bytes : List ℕ) (f : Form) where
  firsts : (u v x y : List ℕ) → IsListOfWords bytes f (u ∷ v ∷ []) → IsListOfWords bytes f (x ∷ y ∷ []) → u ≡ x
  firsts u v x y h k = two_first u v x y (list_words_one bytes f (u ∷ v ∷ []) (x ∷ y ∷ []) h k)

  -- a number behind a word is one behind the same word
  number_behind : (u v w : List ℕ) (n : ℕ) → IsListOfWords bytes f (u ∷ w ∷ []) → IsListOfWords bytes f (u ∷ v ∷ []) → IsNumberWord w n → IsNumberWord v n
  number_behind u v w n h k is =
      subst (λ (x : List ℕ). IsNumberWord x n) (two_second u w u v (list_words_one bytes f (u ∷ w ∷ []) (u ∷ v ∷ []) h k)) is

  fin_or_inf : (v w : List ℕ) → IsListOfWords bytes f (codes "fin" ∷ v ∷ []) → IsListOfWords bytes f (codes "inf" ∷ w ∷ []) → ⊥
  fin_or_inf v w h k = fin_inf v w (list_words_one bytes f (codes "fin" ∷ v ∷ []) (codes "inf" ∷ w ∷ []) h k)

  count_fits : (c : Count) (k : FaultKind) → IsCountForm bytes f c → IsBadAt bytes f CountSlot k → ⊥
  count_fits c k (FiniteForm w h n) (NotTwo other) = other (codes "fin") w h
  count_fits c k (FiniteForm w h n) (NoCount u v l a b) = a (firsts u v (codes "fin") w l h)
  count_fits c k (FiniteForm {n = m} w h n) (FiniteNumber v l other) = other m (number_behind (codes "fin") v w m h l n)
  count_fits c k (FiniteForm w h n) (InfiniteNumber v l other) = fin_or_inf w v h l
  count_fits c k (InfiniteForm w h n) (NotTwo other) = other (codes "inf") w h
  count_fits c k (InfiniteForm w h n) (NoCount u v l a b) = b (firsts u v (codes "inf") w l h)
  count_fits c k (InfiniteForm w h n) (FiniteNumber v l other) = fin_or_inf v w l h
  count_fits c k (InfiniteForm {n = m} w h n) (InfiniteNumber v l other) = other m (number_behind (codes "inf") v w m h l n)

pub fits_not_bad : (bytes : List ℕ) (f : Form) (s : Slot) (k : FaultKind) → Fits bytes f s → IsBadAt bytes f s k → ⊥
fits_not_bad bytes f WhichSlot k h (NoWhich other) = other h
fits_not_bad bytes f VerdictSlot k h (NoVerdict other) = other h
fits_not_bad bytes f NumberSlot k h (NoWord is) = none_some h.1.word (word_of bytes f) is h.1.is
fits_not_bad bytes f NumberSlot k h (NoNumber w is other) =
    other h.0 (subst (λ (v : List ℕ). IsNumberWord v h.0) (word_one bytes f h.1.word w h.1.is is) h.1.number)
fits_not_bad bytes f PairSlot k h (NotThree other) = other h.1.p_word h.1.q_word h.1.why_word h.1.words
fits_not_bad bytes f PairSlot k h (NoPair u v w l other) = other h
fits_not_bad bytes f CountSlot k h b = count_fits bytes f h.0 k h.1 b

bad_same : (bytes : List ℕ) (f : Form) (s : Slot) (j k : FaultKind) → IsBadAt bytes f s j → IsBadAt bytes f s k → j ≡ k
bad_same bytes f s j k (NoWhich a) (NoWhich b) = refl
bad_same bytes f s j k (NoVerdict a) (NoVerdict b) = refl
bad_same bytes f s j k (NoWord a) (NoWord b) = refl
bad_same bytes f s j k (NoWord a) (NoNumber w b c) = absurd (none_some w (word_of bytes f) a b)
bad_same bytes f s j k (NoNumber w b c) (NoWord a) = absurd (none_some w (word_of bytes f) a b)
bad_same bytes f s j k (NoNumber w b c) (NoNumber v d e) = refl
bad_same bytes f s j k (NotThree a) (NotThree b) = refl
bad_same bytes f s j k (NotThree a) (NoPair u v w l b) = absurd (a u v w l)
bad_same bytes f s j k (NoPair u v w l b) (NotThree a) = absurd (a u v w l)
bad_same bytes f s j k (NoPair u v w l b) (NoPair x y z m c) = refl
bad_same bytes f s j k (NotTwo a) (NotTwo b) = refl
bad_same bytes f s j k (NotTwo a) (NoCount u v l b c) = refl
bad_same bytes f s j k (NotTwo a) (FiniteNumber v l b) = absurd (a (codes "fin") v l)
bad_same bytes f s j k (NotTwo a) (InfiniteNumber v l b) = absurd (a (codes "inf") v l)
bad_same bytes f s j k (NoCount u v l b c) (NotTwo a) = refl
bad_same bytes f s j k (NoCount u v l b c) (NoCount x y m d e) = refl
bad_same bytes f s j k (NoCount u v l b c) (FiniteNumber w m d) = absurd (b (firsts bytes f u v (codes "fin") w l m))
bad_same bytes f s j k (NoCount u v l b c) (InfiniteNumber w m d) = absurd (c (firsts bytes f u v (codes "inf") w l m))
bad_same bytes f s j k (FiniteNumber w m d) (NotTwo a) = absurd (a (codes "fin") w m)
bad_same bytes f s j k (FiniteNumber w m d) (NoCount u v l b c) = absurd (b (firsts bytes f u v (codes "fin") w l m))
bad_same bytes f s j k (FiniteNumber w m d) (FiniteNumber v l b) = refl
bad_same bytes f s j k (FiniteNumber w m d) (InfiniteNumber v l b) = refl
bad_same bytes f s j k (InfiniteNumber w m d) (NotTwo a) = absurd (a (codes "inf") w m)
bad_same bytes f s j k (InfiniteNumber w m d) (NoCount u v l b c) = absurd (c (firsts bytes f u v (codes "inf") w l m))
bad_same bytes f s j k (InfiniteNumber w m d) (FiniteNumber v l b) = refl
bad_same bytes f s j k (InfiniteNumber w m d) (InfiniteNumber v l b) = refl

pub are_bad_same : (bytes : List ℕ) (ss : List Slot) (rest : Option Slot) (fs : List Form) (j k : FaultKind) → AreBad bytes ss rest fs j
    → AreBad bytes ss rest fs k → j ≡ k
are_bad_same bytes ss rest fs j k (Absent s ts r) (Absent s' ts' r') = refl
are_bad_same bytes ss rest fs j k (Here s ts r f gs i a) (Here s' ts' r' f' gs' i' b) = bad_same bytes f s j k a b
are_bad_same bytes ss rest fs j k (Here s ts r f gs i a) (Later s' ts' r' f' gs' i' b c) = absurd (fits_not_bad bytes f s j b a)
are_bad_same bytes ss rest fs j k (Later s ts r f gs i a d) (Here s' ts' r' f' gs' i' b) = absurd (fits_not_bad bytes f s k a b)
are_bad_same bytes ss rest fs j k (Later s ts r f gs i a d) (Later s' ts' r' f' gs' i' b c) = are_bad_same bytes ts r gs j k d c
are_bad_same bytes ss rest fs j k (Extra f gs) (Extra f' gs') = refl
are_bad_same bytes ss rest fs j k (HereOfRest s f gs i a) (HereOfRest s' f' gs' i' b) = bad_same bytes f s j k a b
are_bad_same bytes ss rest fs j k (HereOfRest s f gs i a) (LaterOfRest s' f' gs' i' b c) = absurd (fits_not_bad bytes f s j b a)
are_bad_same bytes ss rest fs j k (LaterOfRest s f gs i a d) (HereOfRest s' f' gs' i' b) = absurd (fits_not_bad bytes f s k a b)
are_bad_same bytes ss rest fs j k (LaterOfRest s f gs i a d) (LaterOfRest s' f' gs' i' b c) = are_bad_same bytes [] (Some s) gs j k d c

pub all_fit_none_bad : (bytes : List ℕ) (ss : List Slot) (rest : Option Slot) (fs : List Form) (k : FaultKind) → FitAll bytes ss rest fs
    → AreBad bytes ss rest fs k → ⊥
all_fit_none_bad bytes ss rest fs k h (Absent s ts r) = h
all_fit_none_bad bytes ss rest fs k h (Here s ts r f gs i a) = fits_not_bad bytes f s k h.0 a
all_fit_none_bad bytes ss rest fs k h (Later s ts r f gs i a d) = all_fit_none_bad bytes ts r gs k h.1 d
all_fit_none_bad bytes ss rest fs k h (Extra f gs) = h
all_fit_none_bad bytes ss rest fs k h (HereOfRest s f gs i a) = fits_not_bad bytes f s k h.0 a
all_fit_none_bad bytes ss rest fs k h (LaterOfRest s f gs i a d) = all_fit_none_bad bytes [] (Some s) gs k h.1 d
