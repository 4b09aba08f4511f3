-- The lists of patterns of a family ascend.
use Rattle.std.proofs.Common.{ℕ, zero, suc, Option, Some, None, List, [], map, length, refl, subst, inl, inr}
use Rattle.fort_theory.specs.Signatures.{Signature, arity_of}
use Rattle.fort_theory.specs.Patterns.{Pattern, Any, At, MorePatterns}
use Rattle.fort_theory.specs.PatternOrder.{PatternBefore, PatternsBefore}
use Rattle.fort_theory.proofs.Lists.{Contains-map_from}
use Rattle.fort_theory.proofs.Members.{Contains-none}
use Rattle.fort_synth.specs.FamilyLists.{argument_lists, applications_by, applications, applications_before, higher_patterns, low_patterns}
use Rattle.fort_synth.proofs.FamilyListLaws.{IsAscending, IsAscending-append, IsAscending-map, IsAscending-flat_map}
use Rattle.fort_synth.proofs.FamilyMembers.{applications_by-have, applications_before-have}

argument_lists-ascend : (k : ℕ) (items : List Pattern) → IsAscending PatternBefore items → IsAscending PatternsBefore (argument_lists k items)
argument_lists-ascend zero items asc = ((λ y c. absurd (Contains-none y c)), tt)
argument_lists-ascend (suc k) items asc =
    let rests = argument_lists k items in
    IsAscending-flat_map PatternBefore PatternsBefore (λ p. map (λ ps. MorePatterns p ps) rests) items asc
    (λ p.
    IsAscending-map PatternsBefore PatternsBefore (λ ps. MorePatterns p ps) rests (λ ps qs before. inr (refl, before))
    (argument_lists-ascend k items asc))
    (λ p q before ps qs here there.
    let m = Contains-map_from (λ rs. MorePatterns p rs) rests ps here in
    let n = Contains-map_from (λ rs. MorePatterns q rs) rests qs there in
    subst (λ rs. PatternsBefore rs qs) m.2 (subst (λ rs. PatternsBefore (MorePatterns p m.0) rs) n.2 (inl before)))

applications_by-ascend : (items : List Pattern) (f : ℕ) (o : Option ℕ) → IsAscending PatternBefore items → IsAscending PatternBefore (applications_by items f o)
applications_by-ascend items f None asc = tt
applications_by-ascend items f (Some k) asc =
    IsAscending-map PatternsBefore PatternBefore (λ ps. At f ps) (argument_lists k items) (λ ps qs before. inr (refl, before)) (argument_lists-ascend k items asc)

applications_before-ascend : (signature : Signature) (items : List Pattern) (n : ℕ) → IsAscending PatternBefore items
    → IsAscending PatternBefore (applications_before signature items n)
applications_before-ascend signature items zero asc = tt
applications_before-ascend signature items (suc n) asc =
    IsAscending-append PatternBefore (applications_before signature items n) (applications signature items n)
    (applications_before-ascend signature items n asc) (applications_by-ascend items n (arity_of signature n) asc)
    (λ p q here there.
    let m = applications_before-have signature items n p here in
    let r = applications_by-have items m.0 (arity_of signature m.0) p m.2 in
    let s = applications_by-have items n (arity_of signature n) q there in
    subst (λ x. PatternBefore x q) r.1 (subst (λ x. PatternBefore (At m.0 r.0) x) s.1 (inl m.1)))

higher_patterns-ascend : (signature : Signature) (items : List Pattern) → IsAscending PatternBefore items → IsAscending PatternBefore (higher_patterns signature items)
higher_patterns-ascend signature items asc = (
  (λ p c.
      let m = applications_before-have signature items (length signature) p c in
      let r = applications_by-have items m.0 (arity_of signature m.0) p m.2 in
      subst (λ x. PatternBefore Any x) r.1 tt),
  applications_before-ascend signature items (length signature) asc,
)

pub low_patterns-ascend : (signature : Signature) (h : ℕ) → IsAscending PatternBefore (low_patterns signature h)
low_patterns-ascend signature zero = higher_patterns-ascend signature [] tt
low_patterns-ascend signature (suc h) = higher_patterns-ascend signature (low_patterns signature h) (low_patterns-ascend signature h)
