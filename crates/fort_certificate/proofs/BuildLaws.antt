-- Elements, read one after another.
use Rattle.std.proofs.Common.{◌≡◌, ℕ, ◌+◌, ◌-◌, ◌<◌, ◌≤◌, Bool, true, false, List, [], ◌∷◌, ◌++◌, map, length, get_or, slice_get, take, drop, Some, refl, ap, sym, ◌∙◌, subst, arith, append_assoc, append-nil}
use Rattle.std.specs.List.{AllZip}
use Rattle.std.proofs.lemmas.List.{take_all, take_more, length-drop, get_or-drop}
use Rattle.std.proofs.lemmas.Option.{slice_get_within, get_or_from_slice_get}
use Rattle.std.proofs.lemmas.Slice.Zip.{all_zipped_more}
use Rattle.fort_grammar.specs.Forms.{Form}
use Rattle.fort_grammar.specs.Declarations.{word_of, elements_of, IsHeaded}
use Rattle.fort_tables.specs.Counts.{Count}
use Rattle.fort_alike.specs.ListedClosures.{Which, Pair}
use Rattle.fort_certificate_theory.specs.Certificates.{Closure, Part, Merge, Counts, Value}
use Rattle.fort_certificate_theory.specs.CertificateForms.{Version, tells_index, has_merges, which_word, verdict_word, IsNumberForm, IsPairForm, IsCountForm, IsStepForm, ClosureForm, IndexedForm, PartForm, MergeForm, CountsForm, ValueForm}
use Rattle.fort_certificate_theory.specs.CertificateFaults.{ClosureHead, PartHead, MergeHead, CountsHead, ValueHead, head_word}
use Rattle.fort_certificate_theory.proofs.StepSlots.{same_parts}
use Rattle.fort_certificate.specs.Checking.{between}

pub between_none : {A : Type 0} (from : ℕ) (xs : List A) → between from from xs ≡ []
between_none from xs = let none : from - from ≡ 0 = omega arith in rw none refl

pub between_more : {A : Type 0} (xs : List A) (from i : ℕ) (x : A) → from ≤ i → slice_get xs i ≡ Some x → between from (i + 1) xs ≡ between from i xs ++ x ∷ []
between_more xs from i x low here =
    let next : (i + 1) - from ≡ (i - from) + 1 = omega (arith, low) in
    let place : from + (i - from) ≡ i = omega (arith, low) in
    let inside : i - from < length (drop from xs) = omega (arith, low, slice_get_within xs i x here, length-drop from xs) in
    let element : get_or (drop from xs) (i - from) x ≡ x =
    get_or-drop from xs (i - from) x ∙ (ap (λ k. get_or xs k x) place ∙ get_or_from_slice_get xs i x x here) in
    ap (λ k. take k (drop from xs)) next ∙ (take_more (drop from xs) (i - from) x inside ∙ ap (λ y. between from i xs ++ y ∷ []) element)

pub between_all : {A : Type 0} (xs : List A) (from i : ℕ) → length xs ≤ i → between from i xs ≡ drop from xs
between_all xs from i end = take_all (i - from) (drop from xs) (omega (arith, end, length-drop from xs))

-- one more of forms that are values
pub each_more : {A : Type 0} (R : Form → A → Type 0) (fs : List Form) (from i : ℕ) (f : Form) (xs : List A) (x : A) → from ≤ i → slice_get fs i ≡ Some f
    → AllZip R (between from i fs) xs → R f x → AllZip R (between from (i + 1) fs) (xs ++ x ∷ [])
each_more R fs from i f xs x low here each one =
    subst (λ gs. AllZip R gs (xs ++ x ∷ [])) (sym (between_more fs from i f low here)) (all_zipped_more R (between from i fs) xs f x each one)

pub each_end : {A : Type 0} (R : Form → A → Type 0) (fs : List Form) (from i : ℕ) (xs : List A) → length fs ≤ i → AllZip R (between from i fs) xs
    → AllZip R (drop from fs) xs
each_end R fs from i xs end each = subst (λ gs. AllZip R gs xs) (between_all fs from i end) each

pub each_map : {A B : Type 0} (R : Form → B → Type 0) (view : A → B) (fs : List Form) (xs : List A) → AllZip (λ f x. R f (view x)) fs xs
    → AllZip R fs (map view xs)
each_map R view [] [] h = tt
each_map R view [] (y ∷ ys) h = absurd h
each_map R view (g ∷ gs) [] h = absurd h
each_map R view (g ∷ gs) (y ∷ ys) h = (h.0, each_map R view gs ys h.1)

-- what is read so far of forms of which these are left
pub record IsReadTo {A : Type 0} (R : Form → A → Type 0) (fs left : List Form) (xs : List A) : Type 0 where
  pub all : (ys : List A) → AllZip R left ys → AllZip R fs (xs ++ ys)

pub read_none : {A : Type 0} (R : Form → A → Type 0) (fs : List Form) (xs : List A) → xs ≡ [] → IsReadTo R fs fs xs
read_none R fs xs e = record { all = λ ys h. subst (λ zs. AllZip R fs (zs ++ ys)) (sym e) h }

pub read_more : {A : Type 0} (R : Form → A → Type 0) (fs left rest : List Form) (f : Form) (xs : List A) (x : A) → IsReadTo R fs left xs → left ≡ f ∷ rest
    → R f x → IsReadTo R fs rest (xs ++ x ∷ [])
read_more R fs left rest f xs x r e one =
    record {
      all = λ ys h. subst (AllZip R fs) (sym (append_assoc xs (x ∷ []) ys))
          (r.all (x ∷ ys) (subst (λ gs. AllZip R gs (x ∷ ys)) (sym e) (one, h)));
    }

pub read_all : {A : Type 0} (R : Form → A → Type 0) (fs left : List Form) (xs : List A) → IsReadTo R fs left xs → left ≡ [] → AllZip R fs xs
read_all R fs left xs r e = subst (AllZip R fs) (append-nil xs) (r.all [] (subst (λ gs. AllZip R gs []) (sym e) tt))

-- the elements of a step, put together
module _ (bytes : List ℕ) (f : Form) where
  headed_first : (word : List ℕ) (a : Form) (fs : List Form) → IsHeaded bytes word f → elements_of f ≡ Some (a ∷ fs) → word_of bytes a ≡ Some word
  headed_first word a fs h is = ap (word_of bytes) (same_parts f a h.first fs h.others is h.is).head ∙ h.head

  module _ (a b : Form) (fs rest : List Form) (split : fs ≡ b ∷ rest) (elements : elements_of f ≡ Some (a ∷ fs)) where
    is : elements_of f ≡ Some (a ∷ b ∷ rest)
    is = elements ∙ ap (λ gs. Some (a ∷ gs)) split

    pub part_made : (version : Version) (k : ℕ) (ns : List ℕ) → IsNumberForm bytes b k → AllZip (IsNumberForm bytes) rest ns
        → IsHeaded bytes (head_word PartHead) f → IsStepForm bytes version f (Part k ns)
    part_made version k ns n each headed = PartForm a b rest is (headed_first (head_word PartHead) a fs headed elements) n each

    pub merge_made : (version : Version) (k : ℕ) (ns : List ℕ) → has_merges version ≡ true → IsNumberForm bytes b k → AllZip (IsNumberForm bytes) rest ns
        → IsHeaded bytes (head_word MergeHead) f → IsStepForm bytes version f (Merge k ns)
    merge_made version k ns merges n each headed = MergeForm a b rest merges is (headed_first (head_word MergeHead) a fs headed elements) n each

    pub counts_made : (version : Version) (k : ℕ) (ns : List Count) → IsNumberForm bytes b k → AllZip (IsCountForm bytes) rest ns
        → IsHeaded bytes (head_word CountsHead) f → IsStepForm bytes version f (Counts k ns)
    counts_made version k ns n each headed = CountsForm a b rest is (headed_first (head_word CountsHead) a fs headed elements) n each

    pub closure_made : (version : Version) (w : Which) (ps : List Pair) → tells_index version ≡ false → word_of bytes b ≡ Some (which_word w)
        → AllZip (IsPairForm bytes) rest ps → IsHeaded bytes (head_word ClosureHead) f → IsStepForm bytes version f (Closure w 1 ps)
    closure_made version w ps one word each headed = ClosureForm a b rest one is (headed_first (head_word ClosureHead) a fs headed elements) word each

    module _ (d : Form) (last : List Form) (again : rest ≡ d ∷ last) where
      both : elements_of f ≡ Some (a ∷ b ∷ d ∷ last)
      both = is ∙ ap (λ gs. Some (a ∷ b ∷ gs)) again

      pub value_made : (version : Version) (k : ℕ) (v : Bool) → last ≡ [] → IsNumberForm bytes b k
          → word_of bytes d ≡ Some (verdict_word v) → IsHeaded bytes (head_word ValueHead) f → IsStepForm bytes version f (Value k v)
      value_made version k v none n word headed =
          ValueForm a b d (both ∙ ap (λ gs. Some (a ∷ b ∷ d ∷ gs)) none) (headed_first (head_word ValueHead) a fs headed elements) n word

      pub indexed_made : (version : Version) (w : Which) (k : ℕ) (ps : List Pair) → tells_index version ≡ true → word_of bytes b ≡ Some (which_word w)
          → IsNumberForm bytes d k → AllZip (IsPairForm bytes) last ps → IsHeaded bytes (head_word ClosureHead) f
          → IsStepForm bytes version f (Closure w k ps)
      indexed_made version w k ps several word n each headed =
          IndexedForm a b d last several both (headed_first (head_word ClosureHead) a fs headed elements) word n each
