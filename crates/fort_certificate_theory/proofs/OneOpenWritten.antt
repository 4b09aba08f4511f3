-- For a formula at most one certificate is written with reduced tables, and one with tables as they are.
use Rattle.std.proofs.Common.{◌≡◌, ℕ, zero, suc, ◌<◌, Bool, List, [], ◌∷◌, map, length, get_or, take, refl, ap, sym, ◌∙◌, arith, subst, ⊎_elim}
use Rattle.std.proofs.lemmas.List.Elements.{Contains-get_or}
use Rattle.std.proofs.lemmas.Bool.{cases_lt}
use Rattle.std.proofs.lemmas.List.{ext_get_or, length-map, get_or-map, length-take-le}
use Rattle.fort_theory.specs.Signatures.{Signature}
use Rattle.fort_theory.specs.Patterns.{PatternSystem}
use Rattle.fort_theory.specs.Cores.{Core}
use Rattle.fort_theory.specs.Parts.{postorder}
use Rattle.fort_theory.specs.PartLists.{AreParts}
use Rattle.fort_theory.specs.EachOnce.{StandsBefore}
use Rattle.fort_theory.proofs.EachOnceUnique.{AreEachOnce-unique, StandsBefore-behind}
use Rattle.fort_tables.specs.Tuples.{Tuple, root, kids, presence}
use Rattle.fort_tables.specs.Entries.{Entry, no_entry, AreNodes, picked, tuples_of}
use Rattle.fort_tables.specs.Tables.{Table}
use Rattle.fort_tables.proofs.EntryLaws.{length-tuples_after}
use Rattle.fort_tables.proofs.NodeLaws.{root-node, kids-node}
use Rattle.fort_tables.specs.LeastTuple.{Accepted}
use Rattle.fort_tables.specs.TupleNodes.{tuples_in, AreNodesOf}
use Rattle.fort_tables.proofs.LeastLaws.{least_one}
use Rattle.fort_parts.specs.PartAnswers.{OfTable}
use Rattle.fort_certificate_theory.specs.Certificates.{Step}
use Rattle.fort_certificate_theory.specs.Dues.{DueStep, dues}
use Rattle.fort_certificate_theory.specs.Made.{MadeSoFar, nothing_made, IsAnswerOf}
use Rattle.fort_certificate_theory.specs.Checked.{IsFine, AreSteps, NoSteps, MoreSteps}
use Rattle.fort_certificate_theory.specs.Written.{IsWrittenStep}
use Rattle.fort_certificate_theory.proofs.CheckedLaws.{fine_one}
use Rattle.fort_certificate_theory.proofs.RuleLaws.{body_one}
use Rattle.fort_certificate_theory.specs.OpenCertificates.{Claim, OpenCertificate}
use Rattle.fort_certificate_theory.specs.OpenWritten.{AreWrittenFor, IsWrittenClaim, LeastFound, NoneFound, IsOpenWritten}
use Rattle.fort_certificate_theory.proofs.OpenWrittenSteps.{steps_one, fine_steps}

-- ---- nodes by their tuples

-- a value that stands at two places stands before itself
pub stands_twice : {A : Type 0} (xs : List A) (i j : ℕ) (d : A) → i < j → j < length xs → StandsBefore xs (get_or xs i d) (get_or xs j d)
stands_twice [] i j d l m = absurd (omega arith)
stands_twice (x ∷ xs) zero (suc j) d l m = record { front = []; back = xs; split = refl; behind = Contains-get_or xs j d (omega arith) }
stands_twice (x ∷ xs) (suc i) zero d l m = absurd (omega arith)
stands_twice (x ∷ xs) zero zero d l m = absurd (omega arith)
stands_twice (x ∷ xs) (suc i) (suc j) d l m = StandsBefore-behind x xs (get_or xs i d) (get_or xs j d) (stands_twice xs i j d (omega arith) (omega arith))

module _ {A : Type 0} (xs : List A) (d : A) (distinct : (x : A) → StandsBefore xs x x → ⊥) where
  not_below : (i j : ℕ) → i < j → j < length xs → get_or xs i d ≡ get_or xs j d → ⊥
  not_below i j l m e = distinct (get_or xs j d) (subst (λ (x : A). StandsBefore xs x (get_or xs j d)) e (stands_twice xs i j d l m))

  place_one : (i j : ℕ) → i < length xs → j < length xs → get_or xs i d ≡ get_or xs j d → i ≡ j
  place_one i j l m e =
      ⊎_elim (λ x. absurd (not_below i j x m e)) (λ x. ⊎_elim (λ y. absurd (not_below j i y l (sym e))) (λ y. omega arith) (cases_lt j i)) (cases_lt i j)

  -- places with the same values are the same
  places_one : (ps qs : List ℕ) → ((j : ℕ) → j < length ps → get_or ps j 0 < length xs) → ((j : ℕ) → j < length qs → get_or qs j 0 < length xs)
      → map (λ q. get_or xs q d) ps ≡ map (λ q. get_or xs q d) qs → ps ≡ qs
  places_one ps qs h k e =
      let lengths : length ps ≡ length qs =
      sym (length-map ps (λ q. get_or xs q d)) ∙ (ap length e ∙ length-map qs (λ q. get_or xs q d)) in
      ext_get_or 0 ps qs lengths (λ j l.
      place_one (get_or ps j 0) (get_or qs j 0) (h j l) (k j (omega arith))
      (sym (get_or-map (λ q. get_or xs q d) ps j 0 d l)
      ∙ (ap (λ ys. get_or ys j d) e ∙ get_or-map (λ q. get_or xs q d) qs j 0 d (omega arith))))

module _ (sig : Signature) (n : ℕ) where
  kids_within : (nodes : List Entry) (k : ℕ) (d : Entry) → AreNodes sig n nodes → k < length nodes → (j : ℕ) → j < length (get_or nodes k d).kids
      → get_or (get_or nodes k d).kids j 0 < length (tuples_of nodes)
  kids_within nodes k d are l j m =
      let b = (are k d l).within j m in
      omega (arith, b, length-map (take k nodes) (λ (e : Entry). presence e.symbol), length-take-le k nodes (omega arith), length-tuples_after [] nodes)

  node_same : (nodes others : List Entry) (k : ℕ) (d : Entry) → AreNodes sig n nodes → AreNodes sig n others → tuples_of nodes ≡ tuples_of others
      → ((t : Tuple) → StandsBefore (tuples_of others) t t → ⊥) → k < length nodes → k < length others → get_or nodes k d ≡ get_or others k d
  node_same nodes others k d are too same distinct l m =
      let a = get_or nodes k d in
      let b = get_or others k d in
      let at : get_or (tuples_of nodes) k [] ≡ get_or (tuples_of others) k [] = ap (λ ts. get_or ts k []) same in
      let symbol : a.symbol ≡ b.symbol = sym (root-node sig n nodes k d are l) ∙ (ap root at ∙ root-node sig n others k d too m) in
      let kids_same : picked (tuples_of others) a.kids ≡ picked (tuples_of others) b.kids =
      ap (λ ts. picked ts a.kids) (sym same) ∙ (sym (kids-node sig n nodes k d are l) ∙ (ap kids at ∙ kids-node sig n others k d too m)) in
      let children : a.kids ≡ b.kids =
      places_one (tuples_of others) [] distinct a.kids b.kids
      (λ j c. let x = kids_within nodes k d are l j c in let y = ap length same in omega arith) (kids_within others k d too m) kids_same in
      λ i. record { symbol = symbol i; kids = children i }

  -- Result: a tuple has its nodes in one way
  pub AreNodesOf-one : (t : Tuple) (nodes others : List Entry) → AreNodesOf sig n t nodes → AreNodesOf sig n t others → nodes ≡ others
  AreNodesOf-one t nodes others h k =
      let same = AreEachOnce-unique (tuples_in t) (tuples_of nodes) (tuples_of others) h.once k.once in
      let count : length nodes ≡ length others = omega (arith, ap length same, length-tuples_after [] nodes, length-tuples_after [] others) in
      ext_get_or (no_entry 0) nodes others count
      (λ i l. node_same nodes others i (no_entry 0) h.are k.are same k.once.distinct l (omega arith))

-- ---- steps and their table

module _ (system : PatternSystem) (f : Core) (parts : List Core) (are : AreParts f parts) where
  fine_all_one : (made last end : MadeSoFar) (ds : List DueStep) (ss : List Step) → AreSteps (IsFine system parts) made ds ss last
      → AreSteps (IsFine system parts) made ds ss end → last ≡ end
  fine_all_one made last end ds ss NoSteps NoSteps = refl
  fine_all_one made last end ds ss (MoreSteps {next = x} {s = s} {ds = es} {ss = us} e h more) (MoreSteps {next = y} d k others) =
      fine_all_one y last end es us
      (subst (λ (m : MadeSoFar). AreSteps (IsFine system parts) m es us last) (fine_one system f parts are made s x y h k) more) others

record AreOneTable (ss ts : List Step) (a b : Table) : Type 0 where
  steps : ss ≡ ts
  table : a ≡ b

written_for_one : (reduces : Bool) (system : PatternSystem) (f : Core) (ss ts : List Step) (a b : Table) → AreWrittenFor reduces system f ss a
    → AreWrittenFor reduces system f ts b → AreOneTable ss ts a b
written_for_one reduces system f ss ts a b h k =
    let same = AreEachOnce-unique (postorder f) h.parts k.parts h.parts_are k.parts_are in
    let due = dues (λ i. reduces) (length system.rules) k.parts in
    let here : AreSteps (IsWrittenStep system k.parts) nothing_made due ss h.made =
    subst (λ (ps : List Core). AreSteps (IsWrittenStep system ps) nothing_made (dues (λ i. reduces) (length system.rules) ps) ss h.made) same h.written in
    let steps = steps_one system f k.parts k.parts_are nothing_made h.made k.made due ss ts (λ i table e. cc) here k.written in
    let there : AreSteps (IsWrittenStep system k.parts) nothing_made due ts h.made =
    subst (λ (us : List Step). AreSteps (IsWrittenStep system k.parts) nothing_made due us h.made) steps here in
    let made = fine_all_one system f k.parts k.parts_are nothing_made h.made k.made due ts
    (fine_steps system f k.parts k.parts_are nothing_made h.made due ts there) (fine_steps system f k.parts k.parts_are nothing_made k.made due ts k.written) in
    let answer : IsAnswerOf k.parts k.made f (OfTable a) =
    subst (λ (m : MadeSoFar). IsAnswerOf k.parts m f (OfTable a)) made
    (subst (λ (ps : List Core). IsAnswerOf ps h.made f (OfTable a)) same h.table_is) in
    record { steps = steps; table = body_one f k.parts k.parts_are k.made f a b answer k.table_is }

-- ---- the claim

record AreOneClaim (ns ms : List Entry) (a b : Claim) : Type 0 where
  nodes : ns ≡ ms
  claim : a ≡ b

claims_one : (table : Table) (ns ms : List Entry) (a b : Claim) → IsWrittenClaim table ns a → IsWrittenClaim table ms b → AreOneClaim ns ms a b
claims_one table ns ms a b (LeastFound t least are) (LeastFound u other too) =
    let same = least_one table.signature table.columns (Accepted table) t u least other in
    record {
      nodes = AreNodesOf-one table.signature table.columns u ns ms
          (subst (λ (v : Tuple). AreNodesOf table.signature table.columns v ns) same are) too;
      claim = refl;
    }
claims_one table ns ms a b (LeastFound t least are) (NoneFound none is) = absurd (none t least.tuple least.full least.holds)
claims_one table ns ms a b (NoneFound none is) (LeastFound t least are) = absurd (none t least.tuple least.full least.holds)
claims_one table ns ms a b (NoneFound none is) (NoneFound other at) = record { nodes = is ∙ sym at; claim = refl }

-- whatever the number of its first form is
pub record AreOneOpenCertificate (c d : OpenCertificate) : Type 0 where
  pub claim : c.claim ≡ d.claim
  pub steps : c.steps ≡ d.steps
  pub nodes : c.nodes ≡ d.nodes

-- Result: with reduced tables there is one, and one with tables as they are
pub IsOpenWritten-one : (reduces : Bool) (system : PatternSystem) (f : Core) (c d : OpenCertificate) → IsOpenWritten reduces system f c
    → IsOpenWritten reduces system f d → AreOneOpenCertificate c d
IsOpenWritten-one reduces system f c d h k =
    let one = written_for_one reduces system f c.steps d.steps h.table k.table h.steps_are k.steps_are in
    let claims = claims_one k.table c.nodes d.nodes c.claim d.claim
    (subst (λ (t : Table). IsWrittenClaim t c.nodes c.claim) one.table h.claim_is) k.claim_is in
    record { claim = claims.claim; steps = one.steps; nodes = claims.nodes }
