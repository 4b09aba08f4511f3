-- How many patterns of a family there are: no fewer of more items, of more arguments, of more symbols or of more height.
use Rattle.std.proofs.Common.{◌≡◌, ℕ, zero, suc, ◌+◌, ◌*◌, ◌<◌, ◌≤◌, Option, Some, None, List, [], ◌∷◌, length, ap, sym, subst, ◌∙◌, inl, inr, arith, length-append}
use Rattle.std.proofs.Math.Nat.{mul-le-mul_left, mul_comm}
use Rattle.std.proofs.lemmas.Bool.{cases_lt}
use Rattle.std.proofs.lemmas.List.{length-map}
use Rattle.fort_theory.specs.Trees.{Tree}
use Rattle.fort_theory.specs.Signatures.{Signature, arity_of}
use Rattle.fort_theory.specs.Patterns.{Pattern, Patterns, At, MorePatterns}
use Rattle.fort_synth.specs.FamilyLists.{longer_lists, argument_lists, applications_by, applications, applications_before, higher_patterns, low_patterns, ground_term, list_of, ground_terms}
use Rattle.fort_synth.proofs.FamilyListLaws.{length-all_pairs, rises}

pub length-longer_lists : (items : List Pattern) (rests : List Patterns) → length (longer_lists items rests) ≡ length items * length rests
length-longer_lists items rests = length-all_pairs (λ p ps. MorePatterns p ps) items rests

more_product : (a b c d : ℕ) → a ≤ c → b ≤ d → a * b ≤ c * d
more_product a b c d l m = omega (arith, mul-le-mul_left a m, mul-le-mul_left d l, mul_comm a d, mul_comm c d)

pub small_product : (a b most : ℕ) → a ≤ most → b ≤ most → a * b ≤ most * most
small_product a b most l m = more_product a b most most l m

argument_lists-more : (k : ℕ) (xs ys : List Pattern) → length xs ≤ length ys → length (argument_lists k xs) ≤ length (argument_lists k ys)
argument_lists-more zero xs ys l = omega arith
argument_lists-more (suc k) xs ys l =
    omega (
      arith,
      length-longer_lists xs (argument_lists k xs),
      length-longer_lists ys (argument_lists k ys),
      more_product (length xs) (length (argument_lists k xs)) (length ys) (length (argument_lists k ys)) l (argument_lists-more k xs ys l),
    )

applications_by-more : (f : ℕ) (o : Option ℕ) (xs ys : List Pattern) → length xs ≤ length ys → length (applications_by xs f o) ≤ length (applications_by ys f o)
applications_by-more f None xs ys l = omega arith
applications_by-more f (Some k) xs ys l =
    omega (arith, length-map (argument_lists k xs) (λ ps. At f ps), length-map (argument_lists k ys) (λ ps. At f ps), argument_lists-more k xs ys l)

applications_before-more : (signature : Signature) (n : ℕ) (xs ys : List Pattern) → length xs ≤ length ys
    → length (applications_before signature xs n) ≤ length (applications_before signature ys n)
applications_before-more signature zero xs ys l = omega arith
applications_before-more signature (suc n) xs ys l =
    omega (
      arith,
      length-append (applications_before signature xs n) (applications signature xs n),
      length-append (applications_before signature ys n) (applications signature ys n),
      applications_before-more signature n xs ys l,
      applications_by-more n (arity_of signature n) xs ys l,
    )

higher_patterns-more : (signature : Signature) (xs ys : List Pattern) → length xs ≤ length ys
    → length (higher_patterns signature xs) ≤ length (higher_patterns signature ys)
higher_patterns-more signature xs ys l = omega (arith, applications_before-more signature (length signature) xs ys l)

low_patterns-more : (signature : Signature) (h : ℕ) → length (low_patterns signature h) ≤ length (low_patterns signature (suc h))
low_patterns-more signature zero = higher_patterns-more signature [] (low_patterns signature zero) (omega arith)
low_patterns-more signature (suc h) =
    higher_patterns-more signature (low_patterns signature h) (low_patterns signature (suc h)) (low_patterns-more signature h)

-- ---- too many on the way are too many at the end

pub too_many_low : (signature : Signature) (j h most : ℕ) → j ≤ h → most < length (low_patterns signature j) → most < length (low_patterns signature h)
too_many_low signature j h most l many =
    omega (arith, many, rises (λ k. length (low_patterns signature k)) (low_patterns-more signature) j h l)

one_longer : (p : Pattern) (items : List Pattern) (k : ℕ) → length (argument_lists k (p ∷ items)) ≤ length (argument_lists (suc k) (p ∷ items))
one_longer p items k =
    let rests = argument_lists k (p ∷ items) in
    let some : 1 ≤ length (p ∷ items) = omega arith in
    omega (arith, length-longer_lists (p ∷ items) rests, more_product 1 (length rests) (length (p ∷ items)) (length rests) some (omega arith))

pub too_many_lists : (items : List Pattern) (j k most : ℕ) → j < k → most < length items * length (argument_lists j items)
    → most < length (argument_lists k items)
too_many_lists [] j k most l many = absurd (omega arith)
too_many_lists (p ∷ items) j k most l many =
    omega (
      arith,
      many,
      length-longer_lists (p ∷ items) (argument_lists j (p ∷ items)),
      rises (λ n. length (argument_lists n (p ∷ items))) (one_longer p items) (suc j) k (omega arith),
    )

more_symbols : (signature : Signature) (items : List Pattern) (n : ℕ) → length (applications_before signature items n) ≤ length (applications_before signature items (suc n))
more_symbols signature items n = omega (arith, length-append (applications_before signature items n) (applications signature items n))

pub length-applications : (signature : Signature) (items : List Pattern) (f k : ℕ) → arity_of signature f ≡ Some k
    → length (applications signature items f) ≡ length (argument_lists k items)
length-applications signature items f k arity =
    ap (λ o. length (applications_by items f o)) arity ∙ length-map (argument_lists k items) (λ ps. At f ps)

pub too_many_higher : (signature : Signature) (items : List Pattern) (f k count most : ℕ) → f < length signature → arity_of signature f ≡ Some k
    → count ≤ suc (length (applications_before signature items f)) → most < count + length (argument_lists k items)
    → most < length (higher_patterns signature items)
too_many_higher signature items f k count most below arity counted many =
    omega (
      arith,
      counted,
      many,
      length-append (applications_before signature items f) (applications signature items f),
      length-applications signature items f k arity,
      rises (λ n. length (applications_before signature items n)) (more_symbols signature items) (suc f) (length signature) (omega arith),
    )

-- ---- what stays from one height to the next stays

pub settled : (signature : Signature) (j : ℕ) → low_patterns signature (suc j) ≡ low_patterns signature j → (h : ℕ) → j ≤ h
    → low_patterns signature h ≡ low_patterns signature j
settled signature j same zero l = let e : 0 ≡ j = omega arith in ap (low_patterns signature) e
settled signature j same (suc h) l =
    elim (cases_lt j (suc h)) [
      | inl below ↦ ap (higher_patterns signature) (settled signature j same h (omega arith)) ∙ same
      | inr above ↦ (let e : suc h ≡ j = omega arith in ap (low_patterns signature) e)
    ]

-- ---- as the program counts

pub too_many_lists_counted : (items : List Pattern) (j k a b most : ℕ) → j < k → a ≡ length items → b ≡ length (argument_lists j items) → most < a * b
    → most < length (argument_lists k items)
too_many_lists_counted items j k a b most below first second many =
    too_many_lists items j k most below (subst (λ n. most < n) (λ i. first i * second i) many)

pub few_lists_counted : (items : List Pattern) (rests new : List Patterns) (a b most : ℕ) → new ≡ longer_lists items rests → a ≡ length items → b ≡ length rests
    → a * b ≤ most → length new ≤ most
few_lists_counted items rests new a b most is first second few =
    let e : a * b ≡ length new = (λ i. first i * second i) ∙ sym (ap length is ∙ length-longer_lists items rests) in
    subst (λ n. n ≤ most) e few

one_at_most : (o : Option Tree) → length (list_of o) ≤ 1
one_at_most None = omega arith
one_at_most (Some t) = omega arith

pub few_terms : (ps : List Pattern) → length (ground_terms ps) ≤ length ps
few_terms [] = omega arith
few_terms (p ∷ ps) =
    omega (arith, length-append (list_of (ground_term p)) (ground_terms ps), one_at_most (ground_term p), few_terms ps)
