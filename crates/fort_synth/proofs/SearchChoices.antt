-- The choices of a walk are the ascending lists of so many rules of the family, in lexicographic order.
use Rattle.std.proofs.Common.{◌≡◌, ℕ, zero, suc, ◌<◌, List, [], ◌∷◌, ◌++◌, length, get_or, refl, sym, ap, subst, ◌∙◌, inl, inr, arith}
use Rattle.std.specs.Prelude.{◌⊎◌, All, Contains}
use Rattle.std.proofs.lemmas.List.{append-nil, append_assoc}
use Rattle.std.proofs.lemmas.List.Elements.{All-from_get_or, All-nil, All-contains, Contains-get_or}
use Rattle.fort_theory.proofs.Members.{Contains-none, Contains-head, Contains-behind, Contains-cons_cases}
use Rattle.fort_answers.specs.FamilyRules.{FamilyRule, RuleBefore, Ascend}
use Rattle.fort_answers.specs.FamilySystems.{CandidateBefore}
use Rattle.fort_synth.specs.SearchAnswers.{IsPicked}
use Rattle.fort_synth.specs.SearchSteps.{EachChoice, FirstChoice}
use Rattle.fort_synth.proofs.SearchOrder.{RuleBefore-one_way, RuleBefore-irreflexive}

-- some elements of a list, in its order
abbrev IsPart : List FamilyRule → List FamilyRule → Type 0
IsPart xs [] = Unit {0}
IsPart [] (y ∷ ys) = ⊥
IsPart (x ∷ xs) (y ∷ ys) = ((x ≡ y) × IsPart xs ys) ⊎ IsPart xs (y ∷ ys)

-- ---- lists that ascend

Ascend-behind : (x : FamilyRule) (xs : List FamilyRule) → Ascend (x ∷ xs) → Ascend xs
Ascend-behind x xs a i j d low high = a (suc i) (suc j) d (omega arith) (omega arith)

head_before : (x : FamilyRule) (xs : List FamilyRule) → Ascend (x ∷ xs) → (y : FamilyRule) → Contains xs y → RuleBefore x y
head_before x xs a y c = subst (RuleBefore x) c.2 (a 0 (suc c.0) y (omega arith) (let low : c.0 < length xs = c.1 in omega arith))

Ascend-more : (x : FamilyRule) (xs : List FamilyRule) → ((y : FamilyRule) → Contains xs y → RuleBefore x y) → Ascend xs → Ascend (x ∷ xs)
Ascend-more x xs first rest zero zero d low high = absurd (omega arith)
Ascend-more x xs first rest zero (suc j) d low high = first (get_or xs j d) (Contains-get_or xs j d (omega arith))
Ascend-more x xs first rest (suc i) zero d low high = absurd (omega arith)
Ascend-more x xs first rest (suc i) (suc j) d low high = rest i j d (omega arith) (omega arith)

-- ---- parts of an ascending list are what is picked from it

Contains-part : (xs ys : List FamilyRule) → IsPart xs ys → (y : FamilyRule) → Contains ys y → Contains xs y
Contains-part xs [] part y c = absurd (Contains-none y c)
Contains-part [] (z ∷ ys) part y c = absurd part
Contains-part (x ∷ xs) (z ∷ ys) (inl here) y c =
    elim (Contains-cons_cases z ys y c) [
      | inl e ↦ subst (Contains (x ∷ xs)) (here.0 ∙ e) (Contains-head x xs)
      | inr behind ↦ Contains-behind x xs y (Contains-part xs ys here.1 y behind)
    ]
Contains-part (x ∷ xs) (z ∷ ys) (inr there) y c = Contains-behind x xs y (Contains-part xs (z ∷ ys) there y c)

Ascend-part : (xs ys : List FamilyRule) → Ascend xs → IsPart xs ys → Ascend ys
Ascend-part xs [] a part = λ i j d low high. absurd (omega arith)
Ascend-part [] (y ∷ ys) a part = absurd part
Ascend-part (x ∷ xs) (y ∷ ys) a (inl here) =
    Ascend-more y ys (λ z c. subst (λ w. RuleBefore w z) here.0 (head_before x xs a z (Contains-part xs ys here.1 z c)))
    (Ascend-part xs ys (Ascend-behind x xs a) here.1)
Ascend-part (x ∷ xs) (y ∷ ys) a (inr there) = Ascend-part xs (y ∷ ys) (Ascend-behind x xs a) there

All-from_contains : {A : Type 0} (P : A → Type 0) (xs : List A) → ((x : A) → Contains xs x → P x) → All P xs
All-from_contains P [] all = All-nil P
All-from_contains P (x ∷ xs) all = All-from_get_or P (x ∷ xs) x (λ i low. all (get_or (x ∷ xs) i x) (Contains-get_or (x ∷ xs) i x low))

IsPicked-part : (xs ys : List FamilyRule) → Ascend xs → IsPart xs ys → IsPicked xs (length ys) ys
IsPicked-part xs ys a part = record {
  among = All-from_contains (Contains xs) ys (Contains-part xs ys part);
  ascend = Ascend-part xs ys a part;
  number = refl;
}

-- what isn't the first element is behind it
not_first : (x : FamilyRule) (xs : List FamilyRule) (y : FamilyRule) → Contains (x ∷ xs) y → (x ≡ y → ⊥) → Contains xs y
not_first x xs y c other = elim (Contains-cons_cases x xs y c) [ inl e ↦ absurd (other e) | inr behind ↦ behind ]

part_from_members : (xs ys : List FamilyRule) → Ascend xs → Ascend ys → ((y : FamilyRule) → Contains ys y → Contains xs y) → IsPart xs ys
part_from_members xs [] a b among = tt
part_from_members [] (y ∷ ys) a b among = absurd (Contains-none y (among y (Contains-head y ys)))
part_from_members (x ∷ xs) (y ∷ ys) a b among =
    elim (Contains-cons_cases x xs y (among y (Contains-head y ys))) [
      | inl e ↦ inl (
        e,
        part_from_members xs ys (Ascend-behind x xs a) (Ascend-behind y ys b)
            (λ z c. not_first x xs z (among z (Contains-behind y ys z c))
            (λ same. RuleBefore-irreflexive y (subst (RuleBefore y) (sym same ∙ e) (head_before y ys b z c)))),
      )
      | inr behind ↦ inr (part_from_members xs (y ∷ ys) (Ascend-behind x xs a) b
          (λ z c. not_first x xs z (among z c)
          (λ same. elim (Contains-cons_cases y ys z c) [
            | inl e ↦ RuleBefore-irreflexive x (subst (RuleBefore x) (e ∙ sym same) (head_before x xs a y behind))
            | inr later ↦ RuleBefore-one_way x y (head_before x xs a y behind) (subst (RuleBefore y) (sym same) (head_before y ys b z later))
          ])))
    ]

part_from_picked : (xs ys : List FamilyRule) (count : ℕ) → Ascend xs → IsPicked xs count ys → IsPart xs ys
part_from_picked xs ys count a picked = part_from_members xs ys a picked.ascend (λ y c. All-contains (Contains xs) ys y picked.among c)

-- ---- what holds of each choice, and of the first

part_behind : (x : FamilyRule) (xs ys : List FamilyRule) → IsPart xs ys → IsPart (x ∷ xs) ys
part_behind x xs [] part = tt
part_behind x xs (y ∷ ys) part = inr part

each_part : (P : List FamilyRule → Type 0) (front : List FamilyRule) (k : ℕ) (xs ys : List FamilyRule) → EachChoice P front k xs → IsPart xs ys → length ys ≡ k
    → P (front ++ ys)
each_part P front zero xs [] each part count = subst P (sym (append-nil front)) each
each_part P front zero xs (y ∷ ys) each part count = absurd (omega arith)
each_part P front (suc k) xs [] each part count = absurd (omega arith)
each_part P front (suc k) [] (y ∷ ys) each part count = absurd part
each_part P front (suc k) (x ∷ xs) (y ∷ ys) each (inl here) count =
    let behind = each_part P (front ++ x ∷ []) k xs ys each.0 here.1 (omega arith) in
    subst P (append_assoc front (x ∷ []) ys ∙ ap (λ z. front ++ z ∷ ys) here.0) behind
each_part P front (suc k) (x ∷ xs) (y ∷ ys) each (inr there) count = each_part P front (suc k) xs (y ∷ ys) each.1 there count

each_from_parts : (P : List FamilyRule → Type 0) (front : List FamilyRule) (k : ℕ) (xs : List FamilyRule)
    → ((ys : List FamilyRule) → IsPart xs ys → length ys ≡ k → P (front ++ ys)) → EachChoice P front k xs
each_from_parts P front zero xs all = subst P (append-nil front) (all [] tt refl)
each_from_parts P front (suc k) [] all = tt
each_from_parts P front (suc k) (x ∷ xs) all = (
  each_from_parts P (front ++ x ∷ []) k xs (λ ys part count. subst P (sym (append_assoc front (x ∷ []) ys)) (all (x ∷ ys) (inl (refl, part)) (omega arith))),
  each_from_parts P front (suc k) xs (λ ys part count. all ys (part_behind x xs ys part) count),
)

record IsFirstPart (P Q : List FamilyRule → Type 0) (front : List FamilyRule) (k : ℕ) (xs : List FamilyRule) : Type 0 where
  found : List FamilyRule
  part : IsPart xs found
  count : length found ≡ k
  here : Q (front ++ found)
  before : (zs : List FamilyRule) → IsPart xs zs → length zs ≡ k → CandidateBefore zs found → P (front ++ zs)

-- before a part that begins with the first element, only such parts come
before_head : (P Q : List FamilyRule → Type 0) (front : List FamilyRule) (k : ℕ) (x : FamilyRule) (xs : List FamilyRule) → Ascend (x ∷ xs)
    → (r : IsFirstPart P Q (front ++ x ∷ []) k xs) → (zs : List FamilyRule) → IsPart (x ∷ xs) zs → length zs ≡ suc k → CandidateBefore zs (x ∷ r.found) → P (front ++ zs)
before_head P Q front k x xs a r [] part count earlier = absurd (omega arith)
before_head P Q front k x xs a r (z ∷ zs) (inl here) count (inl low) = absurd (RuleBefore-irreflexive z (subst (RuleBefore z) here.0 low))
before_head P Q front k x xs a r (z ∷ zs) (inl here) count (inr same) =
    subst P (append_assoc front (x ∷ []) zs ∙ ap (λ y. front ++ y ∷ zs) here.0) (r.before zs here.1 (omega arith) same.1)
before_head P Q front k x xs a r (z ∷ zs) (inr there) count (inl low) =
    absurd (RuleBefore-one_way x z (head_before x xs a z (Contains-part xs (z ∷ zs) there z (Contains-head z zs))) low)
before_head P Q front k x xs a r (z ∷ zs) (inr there) count (inr same) =
    absurd (RuleBefore-irreflexive x (subst (RuleBefore x) same.0 (head_before x xs a z (Contains-part xs (z ∷ zs) there z (Contains-head z zs)))))

-- before a part without the first element, parts with it come too
before_behind : (P Q : List FamilyRule → Type 0) (front : List FamilyRule) (k : ℕ) (x : FamilyRule) (xs : List FamilyRule) → EachChoice P (front ++ x ∷ []) k xs
    → (r : IsFirstPart P Q front (suc k) xs) → (zs : List FamilyRule) → IsPart (x ∷ xs) zs → length zs ≡ suc k → CandidateBefore zs r.found → P (front ++ zs)
before_behind P Q front k x xs each r [] part count earlier = absurd (omega arith)
before_behind P Q front k x xs each r (z ∷ zs) (inl here) count earlier =
    subst P (append_assoc front (x ∷ []) zs ∙ ap (λ y. front ++ y ∷ zs) here.0) (each_part P (front ++ x ∷ []) k xs zs each here.1 (omega arith))
before_behind P Q front k x xs each r (z ∷ zs) (inr there) count earlier = r.before (z ∷ zs) there count earlier

first_part : (P Q : List FamilyRule → Type 0) (front : List FamilyRule) (k : ℕ) (xs : List FamilyRule) → Ascend xs → FirstChoice P Q front k xs
    → IsFirstPart P Q front k xs
first_part P Q front zero xs a first = record {
  found = [];
  part = tt;
  count = refl;
  here = subst Q (sym (append-nil front)) first;
  before = λ zs part count earlier. absurd earlier;
}
first_part P Q front (suc k) [] a first = absurd first
first_part P Q front (suc k) (x ∷ xs) a (inl first) =
    let r = first_part P Q (front ++ x ∷ []) k xs (Ascend-behind x xs a) first in record {
      found = x ∷ r.found;
      part = inl (refl, r.part);
      count = (let n = r.count in omega arith);
      here = subst Q (append_assoc front (x ∷ []) r.found) r.here;
      before = before_head P Q front k x xs a r;
    }
first_part P Q front (suc k) (x ∷ xs) a (inr first) =
    let r = first_part P Q front (suc k) xs (Ascend-behind x xs a) first.1 in record {
      found = r.found;
      part = part_behind x xs r.found r.part;
      count = r.count;
      here = r.here;
      before = before_behind P Q front k x xs first.0 r;
    }

-- ---- what a walk through the whole family tells

pub each_picked : (P : List FamilyRule → Type 0) (family : List FamilyRule) (count : ℕ) → Ascend family → EachChoice P [] count family
    → (rules : List FamilyRule) → IsPicked family count rules → P rules
each_picked P family count a each rules picked = each_part P [] count family rules each (part_from_picked family rules count a picked) picked.number

pub each_from_picked : (P : List FamilyRule → Type 0) (family : List FamilyRule) (count : ℕ) → Ascend family
    → ((rules : List FamilyRule) → IsPicked family count rules → P rules) → EachChoice P [] count family
each_from_picked P family count a all =
    each_from_parts P [] count family (λ ys part number. all ys (subst (λ n. IsPicked family n ys) number (IsPicked-part family ys a part)))

pub record IsFirstPicked (P Q : List FamilyRule → Type 0) (family : List FamilyRule) (count : ℕ) : Type 0 where
  pub rules : List FamilyRule
  pub picked : IsPicked family count rules
  pub here : Q rules
  pub before : (others : List FamilyRule) → IsPicked family count others → CandidateBefore others rules → P others

pub first_picked : (P Q : List FamilyRule → Type 0) (family : List FamilyRule) (count : ℕ) → Ascend family → FirstChoice P Q [] count family
    → IsFirstPicked P Q family count
first_picked P Q family count a first =
    let r = first_part P Q [] count family a first in record {
      rules = r.found;
      picked = subst (λ n. IsPicked family n r.found) r.count (IsPicked-part family r.found a r.part);
      here = r.here;
      before = λ others picked earlier. r.before others (part_from_picked family others count a picked) picked.number earlier;
    }
