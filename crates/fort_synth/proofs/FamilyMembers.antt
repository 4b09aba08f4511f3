-- Which patterns stand in the lists of patterns of a family.
use Rattle.std.proofs.Common.{◌≡◌, ℕ, zero, suc, ◌<◌, ◌≤◌, Option, Some, None, List, [], map, length, refl, ap, sym, subst, inl, inr, arith}
use Rattle.std.specs.Prelude.{Contains}
use Rattle.std.proofs.lemmas.Bool.{cases_lt}
use Rattle.std.proofs.lemmas.List.Elements.{Contains-append_left, Contains-append_right, Contains-append_cases}
use Rattle.fort_theory.specs.Signatures.{Signature, arity_of}
use Rattle.fort_theory.specs.Patterns.{Pattern, Patterns, Any, At, NoPattern, MorePatterns, pattern_count, FitsPattern, FitPatterns}
use Rattle.fort_theory.specs.PatternOrder.{AllAmong}
use Rattle.fort_theory.proofs.Constants.{lt-from_arity_of}
use Rattle.fort_theory.proofs.Lists.{Contains-map, Contains-map_from}
use Rattle.fort_theory.proofs.Members.{Contains-head, Contains-behind, Contains-cons_cases, Contains-none}
use Rattle.fort_answers.specs.FamilyRules.{pattern_height, pattern_heights}
use Rattle.fort_synth.specs.FamilyLists.{argument_lists, applications_by, applications, applications_before, higher_patterns, low_patterns}
use Rattle.fort_synth.proofs.FamilyListLaws.{Contains-flat_map, Contains-flat_map_from}

-- ---- lists of arguments

pub Contains-argument_lists : (items : List Pattern) (ps : Patterns) → AllAmong items ps → Contains (argument_lists (pattern_count ps) items) ps
Contains-argument_lists items NoPattern all = Contains-head NoPattern []
Contains-argument_lists items (MorePatterns p ps) all =
    Contains-flat_map (λ q. map (λ qs. MorePatterns q qs) (argument_lists (pattern_count ps) items)) items p (MorePatterns p ps) all.0
    (Contains-map (λ qs. MorePatterns p qs) (argument_lists (pattern_count ps) items) ps (Contains-argument_lists items ps all.1))

pub argument_lists-have : (k : ℕ) (items : List Pattern) (ps : Patterns) → Contains (argument_lists k items) ps → (pattern_count ps ≡ k) × AllAmong items ps
argument_lists-have zero items ps c =
    elim (Contains-cons_cases NoPattern [] ps c) [
      | inl here ↦ subst (λ qs. (pattern_count qs ≡ 0) × AllAmong items qs) here (refl, tt)
      | inr behind ↦ absurd (Contains-none ps behind)
    ]
argument_lists-have (suc k) items ps c =
    let m = Contains-flat_map_from (λ q. map (λ qs. MorePatterns q qs) (argument_lists k items)) items ps c in
    let n = Contains-map_from (λ qs. MorePatterns m.0 qs) (argument_lists k items) ps m.2 in
    let r = argument_lists-have k items n.0 n.1 in
    subst (λ qs. (pattern_count qs ≡ suc k) × AllAmong items qs) n.2 (ap suc r.0, (m.1, r.1))

-- ---- symbols with arguments

Contains-applications : (signature : Signature) (items : List Pattern) (f : ℕ) (ps : Patterns) → arity_of signature f ≡ Some (pattern_count ps) → AllAmong items ps
    → Contains (applications signature items f) (At f ps)
Contains-applications signature items f ps arity all =
    subst (λ o. Contains (applications_by items f o) (At f ps)) (sym arity)
    (Contains-map (λ qs. At f qs) (argument_lists (pattern_count ps) items) ps (Contains-argument_lists items ps all))

pub applications_by-have : (items : List Pattern) (f : ℕ) (o : Option ℕ) (p : Pattern) → Contains (applications_by items f o) p
    → (ps : Patterns) × (At f ps ≡ p) × (o ≡ Some (pattern_count ps)) × AllAmong items ps
applications_by-have items f None p c = absurd (Contains-none p c)
applications_by-have items f (Some k) p c =
    let m = Contains-map_from (λ qs. At f qs) (argument_lists k items) p c in
    let r = argument_lists-have k items m.0 m.1 in
    (m.0, m.2, ap Some (sym r.0), r.1)

Contains-applications_before : (signature : Signature) (items : List Pattern) (n f : ℕ) (ps : Patterns) → f < n → arity_of signature f ≡ Some (pattern_count ps)
    → AllAmong items ps → Contains (applications_before signature items n) (At f ps)
Contains-applications_before signature items zero f ps below arity all = absurd (omega arith)
Contains-applications_before signature items (suc n) f ps below arity all =
    let before = applications_before signature items n in
    elim (cases_lt f n) [
      | inl earlier ↦ Contains-append_left before (applications signature items n) (At f ps) (Contains-applications_before signature items n f ps earlier arity all)
      | inr later ↦
          (let e : f ≡ n = omega arith in
          Contains-append_right before (applications signature items n) (At f ps)
          (subst (λ k. Contains (applications signature items k) (At f ps)) e (Contains-applications signature items f ps arity all)))
    ]

pub applications_before-have : (signature : Signature) (items : List Pattern) (n : ℕ) (p : Pattern) → Contains (applications_before signature items n) p
    → (f : ℕ) × (f < n) × Contains (applications signature items f) p
applications_before-have signature items zero p c = absurd (Contains-none p c)
applications_before-have signature items (suc n) p c =
    elim (Contains-append_cases (applications_before signature items n) (applications signature items n) p c) [
      | inl before ↦ (let m = applications_before-have signature items n p before in (m.0, omega (arith, m.1), m.2))
      | inr here ↦ (n, omega arith, here)
    ]

Contains-higher : (signature : Signature) (items : List Pattern) (f : ℕ) (ps : Patterns) → arity_of signature f ≡ Some (pattern_count ps) → AllAmong items ps
    → Contains (higher_patterns signature items) (At f ps)
Contains-higher signature items f ps arity all =
    Contains-behind Any (applications_before signature items (length signature)) (At f ps)
    (Contains-applications_before signature items (length signature) f ps (lt-from_arity_of signature f (pattern_count ps) arity) arity all)

higher_have : (signature : Signature) (items : List Pattern) (f : ℕ) (ps : Patterns) → Contains (higher_patterns signature items) (At f ps)
    → (arity_of signature f ≡ Some (pattern_count ps)) × AllAmong items ps
higher_have signature items f ps c =
    elim (Contains-cons_cases Any (applications_before signature items (length signature)) (At f ps) c) [
      | inl here ↦ (let no : ⊥ = cc in absurd no)
      | inr behind ↦
          (let m = applications_before-have signature items (length signature) (At f ps) behind in
          let r = applications_by-have items m.0 (arity_of signature m.0) (At f ps) m.2 in
          let same = r.1 in
          let symbols : m.0 ≡ f = cc in
          let args : r.0 ≡ ps = cc in
          (subst (λ k. arity_of signature k ≡ Some (pattern_count ps)) symbols (subst (λ qs. arity_of signature m.0 ≡ Some (pattern_count qs)) args r.2), subst (λ qs. AllAmong items qs) args r.3))
    ]

-- ---- patterns by their height

none_low : (ps : Patterns) → pattern_heights ps ≤ 0 → AllAmong [] ps
none_low NoPattern low = tt
none_low (MorePatterns p ps) low = absurd (omega arith)

all_low : (signature : Signature) (h : ℕ) → ((q : Pattern) → FitsPattern signature q → pattern_height q ≤ h → Contains (low_patterns signature h) q)
    → (ps : Patterns) → FitPatterns signature ps → pattern_heights ps ≤ suc h → AllAmong (low_patterns signature h) ps
all_low signature h each NoPattern fits low = tt
all_low signature h each (MorePatterns p ps) fits low = (each p fits.0 (omega arith), all_low signature h each ps fits.1 (omega arith))

pub Contains-low : (signature : Signature) (h : ℕ) (p : Pattern) → FitsPattern signature p → pattern_height p ≤ h → Contains (low_patterns signature h) p
Contains-low signature zero Any fits low = Contains-head Any (applications_before signature [] (length signature))
Contains-low signature zero (At f ps) fits low = Contains-higher signature [] f ps fits.0 (none_low ps low)
Contains-low signature (suc h) Any fits low = Contains-head Any (applications_before signature (low_patterns signature h) (length signature))
Contains-low signature (suc h) (At f ps) fits low =
    Contains-higher signature (low_patterns signature h) f ps fits.0 (all_low signature h (λ q f l. Contains-low signature h q f l) ps fits.1 low)

among_none : (signature : Signature) (ps : Patterns) → AllAmong [] ps → FitPatterns signature ps × (pattern_heights ps ≤ 0)
among_none signature NoPattern all = (tt, omega arith)
among_none signature (MorePatterns p ps) all = absurd (Contains-none p all.0)

among_low : (signature : Signature) (h : ℕ) → ((q : Pattern) → Contains (low_patterns signature h) q → FitsPattern signature q × (pattern_height q ≤ h))
    → (ps : Patterns) → AllAmong (low_patterns signature h) ps → FitPatterns signature ps × (pattern_heights ps ≤ suc h)
among_low signature h each NoPattern all = (tt, omega arith)
among_low signature h each (MorePatterns p ps) all =
    let first = each p all.0 in
    let rest = among_low signature h each ps all.1 in
    ((first.0, rest.0), omega (arith, first.1, rest.1))

pub low_patterns-have : (signature : Signature) (h : ℕ) (p : Pattern) → Contains (low_patterns signature h) p → FitsPattern signature p × (pattern_height p ≤ h)
low_patterns-have signature zero Any c = (tt, omega arith)
low_patterns-have signature zero (At f ps) c =
    let r = higher_have signature [] f ps c in
    let s = among_none signature ps r.1 in ((r.0, s.0), s.1)
low_patterns-have signature (suc h) Any c = (tt, omega arith)
low_patterns-have signature (suc h) (At f ps) c =
    let r = higher_have signature (low_patterns signature h) f ps c in
    let s = among_low signature h (λ q d. low_patterns-have signature h q d) ps r.1 in ((r.0, s.0), s.1)
