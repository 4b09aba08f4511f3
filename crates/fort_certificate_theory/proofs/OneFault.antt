-- Forms have at most one first fault, and none where they are a certificate.
use Rattle.std.proofs.Common.{◌≡◌, ℕ, suc, ◌+◌, Bool, List, [], ◌∷◌, ◌++◌, length, codes, drop, refl, ap, sym, ◌∙◌, arith, subst}
use Rattle.std.specs.List.{AllZip}
use Rattle.fort_grammar.specs.Forms.{Form}
use Rattle.fort_grammar.specs.Declarations.{IsListOfWords}
use Rattle.fort_certificate_theory.specs.Certificates.{Step, Certificate}
use Rattle.fort_certificate_theory.specs.CertificateForms.{Version, version_word, IsVersionOf, IsNumberWord, verdict_word, IsStepForm, IsHeaderForm, IsCertificate}
use Rattle.fort_certificate_theory.specs.CertificateFaults.{CertificateFault, fault_of, StepHead, slots_of, rest_of, AreBad, IsBadStep, NoHead, BadElement, IsBadHeader, NoHeader, NoVersion, WrongVersion, WrongVerdict, IsFirstCertificateFault, WithoutHeader, InHeader, InStep}
use Rattle.fort_certificate_theory.proofs.NumberWords.{version_number, version_one}
use Rattle.fort_certificate_theory.proofs.OneCertificate.{list_words_one}
use Rattle.fort_certificate_theory.proofs.Slots.{are_bad_same, all_fit_none_bad}
use Rattle.fort_certificate_theory.proofs.StepSlots.{Filled, filled, same_parts, heads_same}

against : (bytes : List ℕ) (version : Version) (i : ℕ) (f : Form) (fault : CertificateFault) → Filled bytes version f → IsBadStep bytes version i f fault → ⊥
against bytes version i f fault x (NoHead other) = other x.which x.of_version (record { first = x.head; others = x.others; is = x.is; head = x.headed })
against bytes version i f fault x (BadElement g a fs k v is head bad) =
    let w : g ≡ x.which = heads_same bytes f a x.head fs x.others g x.which is x.is head x.headed in
    let p = (same_parts f a x.head fs x.others is x.is).others in
    all_fit_none_bad bytes (slots_of x.which version) (rest_of x.which) x.others k x.fit
    (subst (λ (y : StepHead). AreBad bytes (slots_of y version) (rest_of y) x.others k) w
    (subst (λ (gs : List Form). AreBad bytes (slots_of g version) (rest_of g) gs k) p bad))

pub step_not_bad : (bytes : List ℕ) (version : Version) (i : ℕ) (f : Form) (s : Step) (fault : CertificateFault) → IsStepForm bytes version f s
    → IsBadStep bytes version i f fault → ⊥
step_not_bad bytes version i f s fault h b = against bytes version i f fault (filled bytes version f s h) b

pub bad_step_one : (bytes : List ℕ) (version : Version) (i : ℕ) (f : Form) (a b : CertificateFault) → IsBadStep bytes version i f a
    → IsBadStep bytes version i f b → a ≡ b
bad_step_one bytes version i f a b (NoHead x) (NoHead y) = refl
bad_step_one bytes version i f a b (NoHead x) (BadElement h e fs k v is head bad) = absurd (x h v (record { first = e; others = fs; is = is; head = head }))
bad_step_one bytes version i f a b (BadElement h e fs k v is head bad) (NoHead x) = absurd (x h v (record { first = e; others = fs; is = is; head = head }))
bad_step_one bytes version i f a b (BadElement g e fs j v is head bad) (BadElement h d gs k v' is' head' bad') =
    let w : g ≡ h = heads_same bytes f e d fs gs g h is is' head head' in
    let p = (same_parts f e d fs gs is is').others in
    ap (fault_of i) (are_bad_same bytes (slots_of h version) (rest_of h) gs j k
    (subst (λ (y : StepHead). AreBad bytes (slots_of y version) (rest_of y) gs j) w
    (subst (λ (xs : List Form). AreBad bytes (slots_of g version) (rest_of g) xs j) p bad)) bad')

three_second : {A : Type 0} (a b c x y z : A) → a ∷ b ∷ c ∷ [] ≡ x ∷ y ∷ z ∷ [] → b ≡ y
three_second a b c x y z h = cc

three_third : {A : Type 0} (a b c x y z : A) → a ∷ b ∷ c ∷ [] ≡ x ∷ y ∷ z ∷ [] → c ≡ z
three_third a b c x y z h = cc

abbrev Headed : List ℕ → Form → List ℕ → List ℕ → Type 0
Headed bytes f second third = IsListOfWords bytes f (codes "certificate" ∷ second ∷ third ∷ [])

seconds : (bytes : List ℕ) (f : Form) (u v x y : List ℕ) → Headed bytes f u v → Headed bytes f x y → u ≡ x
seconds bytes f u v x y h k =
    three_second (codes "certificate") u v (codes "certificate") x y
    (list_words_one bytes f (codes "certificate" ∷ u ∷ v ∷ []) (codes "certificate" ∷ x ∷ y ∷ []) h k)

thirds : (bytes : List ℕ) (f : Form) (u v x y : List ℕ) → Headed bytes f u v → Headed bytes f x y → v ≡ y
thirds bytes f u v x y h k =
    three_third (codes "certificate") u v (codes "certificate") x y
    (list_words_one bytes f (codes "certificate" ∷ u ∷ v ∷ []) (codes "certificate" ∷ x ∷ y ∷ []) h k)

-- the version's word is a number
not_no_number : (version : Version) (w : List ℕ) → version_word version ≡ w → ((n : ℕ) → IsNumberWord w n → ⊥) → ⊥
not_no_number version w e other =
    let one = version_number version in
    other one.0 (subst (λ (x : List ℕ). IsNumberWord x one.0) e one.1)

pub header_not_bad : (bytes : List ℕ) (number : ℕ) (version : Version) (i : ℕ) (f : Form) (v : Bool) (fault : CertificateFault) → IsVersionOf number version
    → IsHeaderForm bytes version f v → IsBadHeader bytes number i f fault → ⊥
header_not_bad bytes number version i f v fault of h (NoHeader other) = other (version_word version) (verdict_word v) h
header_not_bad bytes number version i f v fault of h (NoVersion u w k other) =
    not_no_number version u (seconds bytes f (version_word version) (verdict_word v) u w h k) other
header_not_bad bytes number version i f v fault of h (WrongVersion n u w k is other) =
    other version of (seconds bytes f u w (version_word version) (verdict_word v) k h)
header_not_bad bytes number version i f v fault of h (WrongVerdict version' w of' k other) =
    other v (thirds bytes f (version_word version') w (version_word version) (verdict_word v) k h)

pub bad_header_one : (bytes : List ℕ) (number : ℕ) (i : ℕ) (f : Form) (a b : CertificateFault) → IsBadHeader bytes number i f a
    → IsBadHeader bytes number i f b → a ≡ b
bad_header_one bytes number i f a b (NoHeader x) (NoHeader y) = refl
bad_header_one bytes number i f a b (NoHeader x) (NoVersion u w k other) = absurd (x u w k)
bad_header_one bytes number i f a b (NoHeader x) (WrongVersion n u w k is other) = absurd (x u w k)
bad_header_one bytes number i f a b (NoHeader x) (WrongVerdict version w of k other) = refl
bad_header_one bytes number i f a b (NoVersion u w k other) (NoHeader x) = absurd (x u w k)
bad_header_one bytes number i f a b (NoVersion u w k other) (NoVersion x y l other') = refl
bad_header_one bytes number i f a b (NoVersion u w k other) (WrongVersion n x y l is other') =
    absurd (other n (subst (λ (z : List ℕ). IsNumberWord z n) (seconds bytes f x y u w l k) is))
bad_header_one bytes number i f a b (NoVersion u w k other) (WrongVerdict version y of l other') =
    absurd (not_no_number version u (seconds bytes f (version_word version) y u w l k) other)
bad_header_one bytes number i f a b (WrongVersion n x y l is other') (NoHeader z) = absurd (z x y l)
bad_header_one bytes number i f a b (WrongVersion n x y l is other') (NoVersion u w k other) =
    absurd (other n (subst (λ (z : List ℕ). IsNumberWord z n) (seconds bytes f x y u w l k) is))
bad_header_one bytes number i f a b (WrongVersion n x y l is other') (WrongVersion m u w k is' other) = refl
bad_header_one bytes number i f a b (WrongVersion n x y l is other') (WrongVerdict version w of k other) =
    absurd (other' version of (seconds bytes f x y (version_word version) w l k))
bad_header_one bytes number i f a b (WrongVerdict version y of l other') (NoHeader z) = refl
bad_header_one bytes number i f a b (WrongVerdict version y of l other') (NoVersion u w k other) =
    absurd (not_no_number version u (seconds bytes f (version_word version) y u w l k) other)
bad_header_one bytes number i f a b (WrongVerdict version y of l other') (WrongVersion n u w k is' other) =
    absurd (other version of (seconds bytes f u w (version_word version) y k l))
bad_header_one bytes number i f a b (WrongVerdict version y of l other') (WrongVerdict version' w of' k other) = refl

-- two readings stop at one form
stop_one : (bytes : List ℕ) (version : Version) (i : ℕ) (all before after before' after' : List Form) (ss ss' : List Step) (f f' : Form)
    (a b : CertificateFault) → all ≡ before ++ f ∷ after → all ≡ before' ++ f' ∷ after' → AllZip (IsStepForm bytes version) before ss
    → AllZip (IsStepForm bytes version) before' ss' → IsBadStep bytes version (i + length before) f a
    → IsBadStep bytes version (i + length before') f' b → a ≡ b
stop_one bytes version i all [] after [] after' ss ss' f f' a b h k x y p q =
    let e : f ∷ after ≡ f' ∷ after' = sym h ∙ k in
    let same : f ≡ f' = cc in
    bad_step_one bytes version (i + 0) f' a b (subst (λ (g : Form). IsBadStep bytes version (i + 0) g a) same p) q
stop_one bytes version i all [] after (g ∷ before') after' ss [] f f' a b h k x y p q = absurd y
stop_one bytes version i all [] after (g ∷ before') after' ss (s ∷ ss') f f' a b h k x y p q =
    let e : f ∷ after ≡ g ∷ (before' ++ f' ∷ after') = sym h ∙ k in
    let same : f ≡ g = cc in
    absurd (step_not_bad bytes version (i + 0) g s a y.0 (subst (λ (z : Form). IsBadStep bytes version (i + 0) z a) same p))
stop_one bytes version i all (g ∷ before) after [] after' [] ss' f f' a b h k x y p q = absurd x
stop_one bytes version i all (g ∷ before) after [] after' (s ∷ ss) ss' f f' a b h k x y p q =
    let e : g ∷ (before ++ f ∷ after) ≡ f' ∷ after' = sym h ∙ k in
    let same : f' ≡ g = cc in
    absurd (step_not_bad bytes version (i + 0) g s b x.0 (subst (λ (z : Form). IsBadStep bytes version (i + 0) z b) same q))
stop_one bytes version i all (g ∷ before) after (g' ∷ before') after' [] ss' f f' a b h k x y p q = absurd x
stop_one bytes version i all (g ∷ before) after (g' ∷ before') after' (s ∷ ss) [] f f' a b h k x y p q = absurd y
stop_one bytes version i all (g ∷ before) after (g' ∷ before') after' (s ∷ ss) (s' ∷ ss') f f' a b h k x y p q =
    let e : g ∷ (before ++ f ∷ after) ≡ g' ∷ (before' ++ f' ∷ after') = sym h ∙ k in
    let rest : before ++ f ∷ after ≡ before' ++ f' ∷ after' = cc in
    let m : i + suc (length before) ≡ suc i + length before = omega arith in
    let n : i + suc (length before') ≡ suc i + length before' = omega arith in
    stop_one bytes version (suc i) (before ++ f ∷ after) before after before' after' ss ss' f f' a b refl rest x.1 y.1
    (subst (λ (z : ℕ). IsBadStep bytes version z f a) m p) (subst (λ (z : ℕ). IsBadStep bytes version z f' b) n q)

stop_or_all : (bytes : List ℕ) (version : Version) (i : ℕ) (all before after : List Form) (ss ts : List Step) (f : Form) (a : CertificateFault)
    → all ≡ before ++ f ∷ after → AllZip (IsStepForm bytes version) before ss → AllZip (IsStepForm bytes version) all ts
    → IsBadStep bytes version i f a → ⊥
stop_or_all bytes version i [] [] after ss ts f a h x y p = absurd cc
stop_or_all bytes version i [] (g ∷ before) after ss ts f a h x y p = absurd cc
stop_or_all bytes version i (e ∷ all) [] after ss [] f a h x y p = absurd y
stop_or_all bytes version i (e ∷ all) [] after ss (t ∷ ts) f a h x y p =
    let same : f ≡ e = cc in
    step_not_bad bytes version i e t a y.0 (subst (λ (z : Form). IsBadStep bytes version i z a) same p)
stop_or_all bytes version i (e ∷ all) (g ∷ before) after [] ts f a h x y p = absurd x
stop_or_all bytes version i (e ∷ all) (g ∷ before) after (s ∷ ss) [] f a h x y p = absurd y
stop_or_all bytes version i (e ∷ all) (g ∷ before) after (s ∷ ss) (t ∷ ts) f a h x y p =
    let rest : all ≡ before ++ f ∷ after = cc in
    stop_or_all bytes version i all before after ss ts f a rest x.1 y.1 p

record SameFront (a b : Form) (fs gs : List Form) : Type 0 where
  header : a ≡ b
  others : fs ≡ gs

same_front : (xs : List Form) (a b : Form) (fs gs : List Form) → xs ≡ a ∷ fs → xs ≡ b ∷ gs → SameFront a b fs gs
same_front xs a b fs gs h k = let e : a ∷ fs ≡ b ∷ gs = sym h ∙ k in record { header = cc; others = cc }

none_more : (xs fs : List Form) (a : Form) → xs ≡ [] → xs ≡ a ∷ fs → ⊥
none_more xs fs a h k = let e : [] ≡ a ∷ fs = sym h ∙ k in absurd cc

-- one form is a header of one version
version_of_header : (bytes : List ℕ) (version other : Version) (f : Form) (u v : Bool) → IsHeaderForm bytes version f u → IsHeaderForm bytes other f v
    → version ≡ other
version_of_header bytes version other f u v h k =
    version_one version other (seconds bytes f (version_word version) (verdict_word u) (version_word other) (verdict_word v) h k)

-- what a fault in a step says, of the version of another header
record InStepOf (bytes : List ℕ) (version : Version) (from : ℕ) (before : List Form) (ss : List Step) (f : Form) (a : CertificateFault) : Type 0 where
  each : AllZip (IsStepForm bytes version) before ss
  bad : IsBadStep bytes version (from + 1 + length before) f a

moved : (bytes : List ℕ) (version other : Version) (from : ℕ) (header header' : Form) (u v : Bool) (before : List Form) (ss : List Step) (f : Form)
    (a : CertificateFault) → header ≡ header' → IsHeaderForm bytes version header u → IsHeaderForm bytes other header' v
    → AllZip (IsStepForm bytes version) before ss → IsBadStep bytes version (from + 1 + length before) f a → InStepOf bytes other from before ss f a
moved bytes version other from header header' u v before ss f a same h k each bad =
    let e = version_of_header bytes version other header' u v (subst (λ (g : Form). IsHeaderForm bytes version g u) same h) k in
    subst (λ (x : Version). InStepOf bytes x from before ss f a) e (record { each = each; bad = bad })

-- result: forms that are a certificate have no fault
pub certificate_not_bad : (bytes : List ℕ) (number : ℕ) (forms : List Form) (from : ℕ) (c : Certificate) (fault : CertificateFault)
    → IsCertificate bytes number forms from c → IsFirstCertificateFault bytes number forms from fault → ⊥
certificate_not_bad bytes number forms from c fault h (WithoutHeader is) = none_more (drop from forms) h.others h.header is h.split
certificate_not_bad bytes number forms from c fault h (InHeader f fs a is bad) =
    let s = same_front (drop from forms) f h.header fs h.others is h.split in
    header_not_bad bytes number h.version from h.header c.verdict a h.of_problem h.headed
    (subst (λ (g : Form). IsBadHeader bytes number from g a) s.header bad)
certificate_not_bad bytes number forms from c fault h (InStep version f v before after ss g a is of head each bad) =
    let s = same_front (drop from forms) f h.header (before ++ g ∷ after) h.others is h.split in
    let m = moved bytes version h.version from f h.header v c.verdict before ss g a s.header head h.headed each bad in
    stop_or_all bytes h.version (from + 1 + length before) h.others before after ss c.steps g a (sym s.others) m.each h.are_steps m.bad

-- result: forms have at most one first fault
pub first_fault_one : (bytes : List ℕ) (number : ℕ) (forms : List Form) (from : ℕ) (a b : CertificateFault)
    → IsFirstCertificateFault bytes number forms from a → IsFirstCertificateFault bytes number forms from b → a ≡ b
first_fault_one bytes number forms from a b (WithoutHeader h) (WithoutHeader k) = refl
first_fault_one bytes number forms from a b (WithoutHeader h) (InHeader f fs e is bad) = absurd (none_more (drop from forms) fs f h is)
first_fault_one bytes number forms from a b (WithoutHeader h) (InStep version f v before after ss g e is of head each bad) =
    absurd (none_more (drop from forms) (before ++ g ∷ after) f h is)
first_fault_one bytes number forms from a b (InHeader f fs e is bad) (WithoutHeader k) = absurd (none_more (drop from forms) fs f k is)
first_fault_one bytes number forms from a b (InHeader f fs e is bad) (InHeader g gs d is' bad') =
    let s = same_front (drop from forms) f g fs gs is is' in
    bad_header_one bytes number from g a b (subst (λ (x : Form). IsBadHeader bytes number from x a) s.header bad) bad'
first_fault_one bytes number forms from a b (InHeader f fs e is bad) (InStep version g v before after ss x d is' of head each bad') =
    let s = same_front (drop from forms) f g fs (before ++ x ∷ after) is is' in
    absurd (header_not_bad bytes number version from g v a of head (subst (λ (y : Form). IsBadHeader bytes number from y a) s.header bad))
first_fault_one bytes number forms from a b (InStep version f v before after ss x d is of head each bad) (WithoutHeader k) =
    absurd (none_more (drop from forms) (before ++ x ∷ after) f k is)
first_fault_one bytes number forms from a b (InStep version f v before after ss x d is of head each bad) (InHeader g gs e is' bad') =
    let s = same_front (drop from forms) g f gs (before ++ x ∷ after) is' is in
    absurd (header_not_bad bytes number version from f v b of head (subst (λ (y : Form). IsBadHeader bytes number from y b) s.header bad'))
first_fault_one bytes number forms from a b (InStep version f v before after ss x d is of head each bad)
    (InStep version' g u before' after' ts y e is' of' head' each' bad') =
    let s = same_front (drop from forms) f g (before ++ x ∷ after) (before' ++ y ∷ after') is is' in
    let m = moved bytes version version' from f g v u before ss x a s.header head head' each bad in
    stop_one bytes version' (from + 1) (before ++ x ∷ after) before after before' after' ss ts x y a b refl s.others m.each each' m.bad bad'
