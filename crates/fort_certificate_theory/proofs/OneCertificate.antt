-- A form is at most one step, and forms are at most one certificate.
use Rattle.std.proofs.Common.{◌≡◌, ℕ, Bool, true, false, List, [], ◌∷◌, length, get_or, Some, codes, refl, ap, sym, ◌∙◌, arith, subst}
use Rattle.std.specs.List.{AllZip}
use Rattle.fort_tables.specs.Counts.{Count, Finite, Infinite}
use Rattle.fort_grammar.specs.Forms.{Form}
use Rattle.fort_grammar.specs.Declarations.{word_of, elements_of, AreWords, IsListOfWords}
use Rattle.fort_alike.specs.ListedClosures.{Which, Star, Conv, Why, Rule, Pair}
use Rattle.fort_certificate_theory.specs.Certificates.{Step, Closure, Part, Merge, Counts, Value, Certificate}
use Rattle.fort_certificate_theory.specs.CertificateForms.{Version, version_word, IsNumberWord, IsNumberForm, verdict_word, which_word, IsWhyWord, AnyWord, KidsWord, RuleWord, IsPairForm, IsCountForm, FiniteForm, InfiniteForm, IsStepForm, ClosureForm, IndexedForm, PartForm, MergeForm, CountsForm, ValueForm, IsHeaderForm, IsCertificate}
use Rattle.fort_certificate_theory.proofs.NumberWords.{number_digit, number_one, version_one}

some_one : {A : Type 0} (x y : A) → Some x ≡ Some y → x ≡ y
some_one x y h = cc

pub word_one : (bytes : List ℕ) (f : Form) (u v : List ℕ) → word_of bytes f ≡ Some u → word_of bytes f ≡ Some v → u ≡ v
word_one bytes f u v h k = some_one u v (sym h ∙ k)

words_one : (bytes : List ℕ) (fs : List Form) (us vs : List (List ℕ)) → AreWords bytes fs us → AreWords bytes fs vs → us ≡ vs
words_one bytes [] [] [] h k = refl
words_one bytes [] [] (v ∷ vs) h k = absurd k
words_one bytes [] (u ∷ us) vs h k = absurd h
words_one bytes (f ∷ fs) [] vs h k = absurd h
words_one bytes (f ∷ fs) (u ∷ us) [] h k = absurd k
words_one bytes (f ∷ fs) (u ∷ us) (v ∷ vs) h k =
    ap (λ w. w ∷ us) (word_one bytes f u v h.0 k.0) ∙ ap (λ ws. v ∷ ws) (words_one bytes fs us vs h.1 k.1)

pub list_words_one : (bytes : List ℕ) (f : Form) (us vs : List (List ℕ)) → IsListOfWords bytes f us → IsListOfWords bytes f vs → us ≡ vs
list_words_one bytes f us vs h k =
    let same : k.elements ≡ h.elements = some_one k.elements h.elements (sym k.is ∙ h.is) in
    words_one bytes h.elements us vs h.words_are (subst (λ (fs : List Form). AreWords bytes fs vs) same k.words_are)

each_one : {A : Type 0} (R : Form → A → Type 0) → ((f : Form) (x y : A) → R f x → R f y → x ≡ y) → (fs : List Form) (xs ys : List A) → AllZip R fs xs
    → AllZip R fs ys → xs ≡ ys
each_one R one [] [] [] h k = refl
each_one R one [] [] (y ∷ ys) h k = absurd k
each_one R one [] (x ∷ xs) ys h k = absurd h
each_one R one (f ∷ fs) [] ys h k = absurd h
each_one R one (f ∷ fs) (x ∷ xs) [] h k = absurd k
each_one R one (f ∷ fs) (x ∷ xs) (y ∷ ys) h k = ap (λ z. z ∷ xs) (one f x y h.0 k.0) ∙ ap (λ zs. y ∷ zs) (each_one R one fs xs ys h.1 k.1)

pub number_form_one : (bytes : List ℕ) (f : Form) (n m : ℕ) → IsNumberForm bytes f n → IsNumberForm bytes f m → n ≡ m
number_form_one bytes f n m h k =
    number_one h.word n m h.number (subst (λ (w : List ℕ). IsNumberWord w m) (word_one bytes f k.word h.word k.is h.is) k.number)

pub which_one : (a b : Which) → which_word a ≡ which_word b → a ≡ b
which_one Star Star h = refl
which_one Star Conv h = let e = ap (λ w. get_or w 0 0) h in absurd (omega arith)
which_one Conv Star h = let e = ap (λ w. get_or w 0 0) h in absurd (omega arith)
which_one Conv Conv h = refl

pub verdict_one : (a b : Bool) → verdict_word a ≡ verdict_word b → a ≡ b
verdict_one true true h = refl
verdict_one true false h = let e = ap length h in absurd (omega arith)
verdict_one false true h = let e = ap length h in absurd (omega arith)
verdict_one false false h = refl

-- words that begin with different letters, or with a digit
why_one : (w : List ℕ) (a b : Why) → IsWhyWord w a → IsWhyWord w b → a ≡ b
why_one w a b (AnyWord h) (AnyWord k) = refl
why_one w a b (AnyWord h) (KidsWord k) = let e = ap (λ v. get_or v 0 0) (sym h ∙ k) in absurd (omega arith)
why_one w a b (AnyWord h) (RuleWord {k = n} k) = let e = ap (λ v. get_or v 0 0) h in absurd (omega (arith, number_digit w n k))
why_one w a b (KidsWord h) (AnyWord k) = let e = ap (λ v. get_or v 0 0) (sym h ∙ k) in absurd (omega arith)
why_one w a b (KidsWord h) (KidsWord k) = refl
why_one w a b (KidsWord h) (RuleWord {k = n} k) = let e = ap (λ v. get_or v 0 0) h in absurd (omega (arith, number_digit w n k))
why_one w a b (RuleWord {k = n} h) (AnyWord k) = let e = ap (λ v. get_or v 0 0) k in absurd (omega (arith, number_digit w n h))
why_one w a b (RuleWord {k = n} h) (KidsWord k) = let e = ap (λ v. get_or v 0 0) k in absurd (omega (arith, number_digit w n h))
why_one w a b (RuleWord {k = n} h) (RuleWord {k = m} k) = ap Rule (number_one w n m h k)

three_one : {A : Type 0} (a b c x y z : A) → a ∷ b ∷ c ∷ [] ≡ x ∷ y ∷ z ∷ [] → (a ≡ x) × (b ≡ y) × (c ≡ z)
three_one a b c x y z h = (cc, cc, cc)

two_one : {A : Type 0} (a b x y : A) → a ∷ b ∷ [] ≡ x ∷ y ∷ [] → (a ≡ x) × (b ≡ y)
two_one a b x y h = (cc, cc)

pair_one : (bytes : List ℕ) (f : Form) (a b : Pair) → IsPairForm bytes f a → IsPairForm bytes f b → a ≡ b
pair_one bytes f a b h k =
    let e = three_one k.p_word k.q_word k.why_word h.p_word h.q_word h.why_word (list_words_one bytes f _ _ k.words h.words) in
    let p : a.p ≡ b.p = number_one h.p_word a.p b.p h.p_is (subst (λ (w : List ℕ). IsNumberWord w b.p) e.0 k.p_is) in
    let q : a.q ≡ b.q = number_one h.q_word a.q b.q h.q_is (subst (λ (w : List ℕ). IsNumberWord w b.q) e.1 k.q_is) in
    let w : a.why ≡ b.why = why_one h.why_word a.why b.why h.why_is (subst (λ (w : List ℕ). IsWhyWord w b.why) e.2 k.why_is) in
    λ i. record { p = p i; q = q i; why = w i }

pub fin_inf : (v w : List ℕ) → codes "fin" ∷ v ∷ [] ≡ codes "inf" ∷ w ∷ [] → ⊥
fin_inf v w h = let e = ap (λ u. get_or u 0 0) (two_one (codes "fin") v (codes "inf") w h).0 in omega arith

count_one : (bytes : List ℕ) (f : Form) (a b : Count) → IsCountForm bytes f a → IsCountForm bytes f b → a ≡ b
count_one bytes f a b (FiniteForm {n = n} v h x) (FiniteForm {n = m} w k y) =
    let e = two_one (codes "fin") w (codes "fin") v (list_words_one bytes f _ _ k h) in
    ap Finite (number_one v n m x (subst (λ (u : List ℕ). IsNumberWord u m) e.1 y))
count_one bytes f a b (FiniteForm v h x) (InfiniteForm w k y) = absurd (fin_inf v w (list_words_one bytes f _ _ h k))
count_one bytes f a b (InfiniteForm v h x) (FiniteForm w k y) = absurd (fin_inf w v (list_words_one bytes f _ _ k h))
count_one bytes f a b (InfiniteForm {n = n} v h x) (InfiniteForm {n = m} w k y) =
    let e = two_one (codes "inf") w (codes "inf") v (list_words_one bytes f _ _ k h) in
    ap Infinite (number_one v n m x (subst (λ (u : List ℕ). IsNumberWord u m) e.1 y))

-- the elements of a form, each by itself
record SameTwo (a b c d : Form) (fs gs : List Form) : Type 0 where
  head : a ≡ c
  second : b ≡ d
  others : fs ≡ gs

same_two : (f a b c d : Form) (fs gs : List Form) → elements_of f ≡ Some (a ∷ b ∷ fs) → elements_of f ≡ Some (c ∷ d ∷ gs) → SameTwo a b c d fs gs
same_two f a b c d fs gs h k =
    let e : a ∷ b ∷ fs ≡ c ∷ d ∷ gs = some_one (a ∷ b ∷ fs) (c ∷ d ∷ gs) (sym h ∙ k) in
    record { head = cc; second = cc; others = cc }

first_one : {A : Type 0} (a b : A) (fs gs : List A) → a ∷ fs ≡ b ∷ gs → (a ≡ b) × (fs ≡ gs)
first_one a b fs gs h = (cc, cc)

-- the head of a step
abbrev step_word : Step → List ℕ
step_word (Closure which index pairs) = codes "closure"
step_word (Part k targets) = codes "part"
step_word (Merge k classes) = codes "merge"
step_word (Counts k counts) = codes "counts"
step_word (Value k value) = codes "value"

record IsHeadOf (bytes : List ℕ) (f : Form) (word : List ℕ) : Type 0 where
  head : Form
  second : Form
  others : List Form
  is : elements_of f ≡ Some (head ∷ second ∷ others)
  headed : word_of bytes head ≡ Some word

step_head : (bytes : List ℕ) (version : Version) (f : Form) (s : Step) → IsStepForm bytes version f s → IsHeadOf bytes f (step_word s)
step_head bytes version f s (ClosureForm a b fs v is head second each) = record { head = a; second = b; others = fs; is = is; headed = head }
step_head bytes version f s (IndexedForm a b c fs v is head second third each) = record { head = a; second = b; others = c ∷ fs; is = is; headed = head }
step_head bytes version f s (PartForm a b fs is head second each) = record { head = a; second = b; others = fs; is = is; headed = head }
step_head bytes version f s (MergeForm a b fs v is head second each) = record { head = a; second = b; others = fs; is = is; headed = head }
step_head bytes version f s (CountsForm a b fs is head second each) = record { head = a; second = b; others = fs; is = is; headed = head }
step_head bytes version f s (ValueForm a b c is head second third) = record { head = a; second = b; others = c ∷ []; is = is; headed = head }

heads_one : (bytes : List ℕ) (f : Form) (u v : List ℕ) → IsHeadOf bytes f u → IsHeadOf bytes f v → u ≡ v
heads_one bytes f u v h k =
    let s = same_two f h.head h.second k.head k.second h.others k.others h.is k.is in
    word_one bytes k.head u v (ap (word_of bytes) (sym s.head) ∙ h.headed) k.headed

not_both : (b : Bool) → b ≡ false → b ≡ true → ⊥
not_both b h k = let e : false ≡ true = sym h ∙ k in absurd cc

pub step_one : (bytes : List ℕ) (version : Version) (f : Form) (s t : Step) → IsStepForm bytes version f s → IsStepForm bytes version f t → s ≡ t
step_one bytes version f s t (ClosureForm {which = w1} {pairs = ps1} a1 b1 fs1 v1 is1 head1 second1 each1)
    (ClosureForm {which = w2} {pairs = ps2} a2 b2 fs2 v2 is2 head2 second2 each2) =
    let same = same_two f a2 b2 a1 b1 fs2 fs1 is2 is1 in
    let w = which_one w1 w2 (word_one bytes b1 (which_word w1) (which_word w2) second1 (ap (word_of bytes) (sym same.second) ∙ second2)) in
    let p = each_one (IsPairForm bytes) (pair_one bytes) fs1 ps1 ps2 each1 (subst (λ (gs : List Form). AllZip (IsPairForm bytes) gs ps2) same.others each2) in
    ap (λ x. Closure x 1 ps1) w ∙ ap (Closure w2 1) p
step_one bytes version f s t (ClosureForm a1 b1 fs1 v1 is1 head1 second1 each1) (IndexedForm a2 b2 c2 fs2 v2 is2 head2 second2 third2 each2) =
    absurd (not_both _ v1 v2)
step_one bytes version f s t (IndexedForm a1 b1 c1 fs1 v1 is1 head1 second1 third1 each1) (ClosureForm a2 b2 fs2 v2 is2 head2 second2 each2) =
    absurd (not_both _ v2 v1)
step_one bytes version f s t (IndexedForm {which = w1} {index = i1} {pairs = ps1} a1 b1 c1 fs1 v1 is1 head1 second1 third1 each1)
    (IndexedForm {which = w2} {index = i2} {pairs = ps2} a2 b2 c2 fs2 v2 is2 head2 second2 third2 each2) =
    let same = same_two f a2 b2 a1 b1 (c2 ∷ fs2) (c1 ∷ fs1) is2 is1 in
    let rest = first_one c2 c1 fs2 fs1 same.others in
    let w = which_one w1 w2 (word_one bytes b1 (which_word w1) (which_word w2) second1 (ap (word_of bytes) (sym same.second) ∙ second2)) in
    let i = number_form_one bytes c1 i1 i2 third1 (subst (λ (g : Form). IsNumberForm bytes g i2) rest.0 third2) in
    let p = each_one (IsPairForm bytes) (pair_one bytes) fs1 ps1 ps2 each1 (subst (λ (gs : List Form). AllZip (IsPairForm bytes) gs ps2) rest.1 each2) in
    ap (λ x. Closure x i1 ps1) w ∙ (ap (λ x. Closure w2 x ps1) i ∙ ap (Closure w2 i2) p)
step_one bytes version f s t (PartForm {k = k1} {targets = ns1} a1 b1 fs1 is1 head1 second1 each1)
    (PartForm {k = k2} {targets = ns2} a2 b2 fs2 is2 head2 second2 each2) =
    let same = same_two f a2 b2 a1 b1 fs2 fs1 is2 is1 in
    let k = number_form_one bytes b1 k1 k2 second1 (subst (λ (g : Form). IsNumberForm bytes g k2) same.second second2) in
    let p = each_one (IsNumberForm bytes) (number_form_one bytes) fs1 ns1 ns2 each1 (subst (λ (gs : List Form). AllZip (IsNumberForm bytes) gs ns2) same.others each2) in
    ap (λ x. Part x ns1) k ∙ ap (Part k2) p
step_one bytes version f s t (MergeForm {k = k1} {classes = ns1} a1 b1 fs1 v1 is1 head1 second1 each1)
    (MergeForm {k = k2} {classes = ns2} a2 b2 fs2 v2 is2 head2 second2 each2) =
    let same = same_two f a2 b2 a1 b1 fs2 fs1 is2 is1 in
    let k = number_form_one bytes b1 k1 k2 second1 (subst (λ (g : Form). IsNumberForm bytes g k2) same.second second2) in
    let p = each_one (IsNumberForm bytes) (number_form_one bytes) fs1 ns1 ns2 each1 (subst (λ (gs : List Form). AllZip (IsNumberForm bytes) gs ns2) same.others each2) in
    ap (λ x. Merge x ns1) k ∙ ap (Merge k2) p
step_one bytes version f s t (CountsForm {k = k1} {counts = cs1} a1 b1 fs1 is1 head1 second1 each1)
    (CountsForm {k = k2} {counts = cs2} a2 b2 fs2 is2 head2 second2 each2) =
    let same = same_two f a2 b2 a1 b1 fs2 fs1 is2 is1 in
    let k = number_form_one bytes b1 k1 k2 second1 (subst (λ (g : Form). IsNumberForm bytes g k2) same.second second2) in
    let p = each_one (IsCountForm bytes) (count_one bytes) fs1 cs1 cs2 each1 (subst (λ (gs : List Form). AllZip (IsCountForm bytes) gs cs2) same.others each2) in
    ap (λ x. Counts x cs1) k ∙ ap (Counts k2) p
step_one bytes version f s t (ValueForm {k = k1} {value = v1} a1 b1 c1 is1 head1 second1 third1)
    (ValueForm {k = k2} {value = v2} a2 b2 c2 is2 head2 second2 third2) =
    let same = same_two f a2 b2 a1 b1 (c2 ∷ []) (c1 ∷ []) is2 is1 in
    let k = number_form_one bytes b1 k1 k2 second1 (subst (λ (g : Form). IsNumberForm bytes g k2) same.second second2) in
    let third = (first_one c2 c1 [] [] same.others).0 in
    let v = verdict_one v1 v2 (word_one bytes c1 (verdict_word v1) (verdict_word v2) third1 (ap (word_of bytes) (sym third) ∙ third2)) in
    ap (λ x. Value x v1) k ∙ ap (Value k2) v
step_one bytes version f s t h k =
    let same = heads_one bytes f (step_word s) (step_word t) (step_head bytes version f s h) (step_head bytes version f t k) in
    let e = ap length same in
    let d = ap (λ w. get_or w 0 0) same in
    absurd (omega arith)

record SameHeader (version other : Version) (u v : Bool) : Type 0 where
  version_same : version ≡ other
  verdict : u ≡ v

header_one : (bytes : List ℕ) (version other : Version) (f : Form) (u v : Bool) → IsHeaderForm bytes version f u → IsHeaderForm bytes other f v
    → SameHeader version other u v
header_one bytes version other f u v h k =
    let words = three_one (codes "certificate") (version_word version) (verdict_word u) (codes "certificate") (version_word other) (verdict_word v)
    (list_words_one bytes f _ _ h k) in
    record { version_same = version_one version other words.1; verdict = verdict_one u v words.2 }

-- result: forms have at most one reading as a certificate
pub certificate_one : (bytes : List ℕ) (number : ℕ) (forms : List Form) (from : ℕ) (c d : Certificate) → IsCertificate bytes number forms from c
    → IsCertificate bytes number forms from d → c ≡ d
certificate_one bytes number forms from c d h k =
    let split : k.header ∷ k.others ≡ h.header ∷ h.others = sym k.split ∙ h.split in
    let same = first_one k.header h.header k.others h.others split in
    let first : c.first ≡ d.first = h.first ∙ sym k.first in
    let heads = header_one bytes h.version k.version h.header c.verdict d.verdict h.headed
    (subst (λ (f : Form). IsHeaderForm bytes k.version f d.verdict) same.0 k.headed) in
    let verdict = heads.verdict in
    let others = subst (λ (v : Version). AllZip (IsStepForm bytes v) h.others d.steps) (sym heads.version_same)
    (subst (λ (fs : List Form). AllZip (IsStepForm bytes k.version) fs d.steps) same.1 k.are_steps) in
    let steps = each_one (IsStepForm bytes h.version) (step_one bytes h.version) h.others c.steps d.steps h.are_steps others in
    λ i. record { first = first i; verdict = verdict i; steps = steps i }
