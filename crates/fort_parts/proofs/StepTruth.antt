-- Each step keeps truth: where the answers of the operands tell their truth, so does the answer that comes from them.
use Rattle.std.specs.Prelude.{◌≡◌, ℕ, ◌||◌, ◌==◌, length, Bool, true, false, not, Decides, Some, refl}
use Rattle.std.specs.List.{insert}
use Rattle.std.proofs.Common.{ap, sym, ◌∙◌, true≢false}
use Rattle.std.proofs.lemmas.Bool.{and_parts}
use Rattle.fort_theory.specs.Trees.{Tree}
use Rattle.fort_theory.specs.Signatures.{IsGround}
use Rattle.fort_theory.specs.Logic.{HasSome, Connective, Connected}
use Rattle.fort_theory.specs.Structures.{Structure}
use Rattle.fort_theory.specs.Cores as core
use Rattle.fort_theory.specs.Cores.{Core}
use Rattle.fort_theory.specs.CoreTruth.{Places, IsMetBy, with_number}
use Rattle.fort_theory.specs.Parts.{is_free}
use Rattle.fort_tables.proofs.EqualTests.{apart_from_test}
use Rattle.fort_alike.specs.AssignedTuples.{tuple_of}
use Rattle.fort_tables.specs.Products.{connected}
use Rattle.fort_tables.proofs.TruthLaws.{not_decides, connected_decides}
use Rattle.fort_tables.proofs.ManyTruth.{many_weaker}
use Rattle.fort_parts.specs.PartColumns.{columns_of, place_in, places_in}
use Rattle.fort_parts.specs.PartAnswers.{Answer, OfValue, said, AreGround, TellsTruth}
use Rattle.fort_parts.specs.PartSteps.{SaysNot, SaysBoth, SaysSome, SaysMany}
use Rattle.fort_parts.proofs.PartColumnLaws.{columns_of-bound, first_within, second_within, is_free-from_column}
use Rattle.fort_parts.proofs.AssignedColumns.{selected-tuple_of, insert-tuple_of, AreGround-with_number, AreTerms-tuple_of}

moved : (b c : Bool) (P : Type 0) → b ≡ c → Decides c P → Decides b P
moved b c P e d = ((λ h. d.0 (sym e ∙ h)), (λ p. e ∙ d.1 p))

module _ (structure : Structure) where
  pub TellsTruth-True : TellsTruth structure core.True (said (OfValue true))
  TellsTruth-True v g = ((λ e. tt), (λ p. refl))

  pub TellsTruth-Not : (f : Core) (body answer : Answer) → SaysNot structure.signature (length (columns_of f)) body answer
      → TellsTruth structure f (said body) → TellsTruth structure (core.Not f) (said answer)
  TellsTruth-Not f body answer says tells v g =
      let t = tuple_of v (columns_of f) in
      moved (said answer t) (not (said body t)) _ (says t (AreTerms-tuple_of structure.signature v (columns_of f) g))
      (not_decides (said body t) (IsMetBy structure f v) (tells v g))

  -- a formula with two operands
  both : (h f g : Core) (op : Connective) (first second answer : Answer) → ((n : ℕ) → is_free n h ≡ (is_free n f || is_free n g))
      → SaysBoth structure.signature (length (columns_of h)) op (places_in (columns_of h) (columns_of f)) first (places_in (columns_of h) (columns_of g)) second answer
      → TellsTruth structure f (said first) → TellsTruth structure g (said second) → (v : Places) → AreGround structure.signature v
      → Decides (said answer (tuple_of v (columns_of h))) (Connected op (IsMetBy structure f v) (IsMetBy structure g v))
  both h f g op first second answer tells says one other v grounded =
      let zs = columns_of h in
      let t = tuple_of v zs in
      let p = ap (said first) (selected-tuple_of v (columns_of f) zs (first_within h f g tells)) in
      let q = ap (said second) (selected-tuple_of v (columns_of g) zs (second_within h f g tells)) in
      let e : said answer t ≡ connected op (said first (tuple_of v (columns_of f))) (said second (tuple_of v (columns_of g))) =
      says t (AreTerms-tuple_of structure.signature v zs grounded) ∙ (λ i. connected op (p i) (q i)) in
      moved (said answer t) _ _ e
      (connected_decides op (said first (tuple_of v (columns_of f))) (said second (tuple_of v (columns_of g))) (IsMetBy structure f v) (IsMetBy structure g v)
      (one v grounded) (other v grounded))

  pub TellsTruth-Binary : (op : Connective) (f g : Core) (first second answer : Answer)
      → SaysBoth structure.signature (length (columns_of (core.Binary op f g))) op (places_in (columns_of (core.Binary op f g)) (columns_of f)) first
      (places_in (columns_of (core.Binary op f g)) (columns_of g)) second answer
      → TellsTruth structure f (said first) → TellsTruth structure g (said second) → TellsTruth structure (core.Binary op f g) (said answer)
  TellsTruth-Binary op f g first second answer says one other v grounded = both (core.Binary op f g) f g op first second answer (λ n. refl) says one other v grounded

  -- the binder's number is free in the body
  module _ (n : ℕ) (f : Core) (body : Answer) (among : is_free n f ≡ true) (tells : TellsTruth structure f (said body)) (v : Places)
      (grounded : AreGround structure.signature v) where
    -- the binder's number is no column of the whole
    bound_out : is_free n (core.Exists n f) ≡ true → ⊥
    bound_out e = by_test (n == n) (λ h. apart_from_test n n h refl) (and_parts (not (n == n)) (is_free n f) e).0
      where
        by_test : (b : Bool) → (b ≡ false → ⊥) → not b ≡ true → ⊥
        by_test true other e = true≢false (sym e)
        by_test false other e = other refl

    completed : (u : Tree) → insert (tuple_of v (columns_of (core.Exists n f))) (place_in (columns_of f) n) (Some u) ≡ tuple_of (with_number v n u) (columns_of f)
    completed u =
        insert-tuple_of v n u (place_in (columns_of f) n) (columns_of (core.Exists n f)) (λ m. bound_out (is_free-from_column (core.Exists n f) n m))
        ∙ ap (tuple_of (with_number v n u)) (columns_of-bound (core.Exists n f) f n (λ m. refl) among)

    body_tells : (u : Tree) → IsGround structure.signature u
        → Decides (said body (insert (tuple_of v (columns_of (core.Exists n f))) (place_in (columns_of f) n) (Some u))) (IsMetBy structure f (with_number v n u))
    body_tells u one =
        moved (said body (insert (tuple_of v (columns_of (core.Exists n f))) (place_in (columns_of f) n) (Some u))) (said body (tuple_of (with_number v n u) (columns_of f))) _
        (ap (said body) (completed u)) (tells (with_number v n u) (AreGround-with_number structure.signature v n u grounded one))

  pub TellsTruth-Exists : (n : ℕ) (f : Core) (body answer : Answer) → is_free n f ≡ true
      → SaysSome structure.signature (length (columns_of (core.Exists n f))) (place_in (columns_of f) n) body answer
      → TellsTruth structure f (said body) → TellsTruth structure (core.Exists n f) (said answer)
  TellsTruth-Exists n f body answer among says tells v grounded =
      let ys = columns_of (core.Exists n f) in
      let t = tuple_of v ys in
      let d = says t (AreTerms-tuple_of structure.signature v ys grounded) in
      some_exactly (said answer t) (λ u. IsGround structure.signature u × IsMetBy structure f (with_number v n u)) (
        (λ e. let w = d.0 e in (w.0, (w.1, (body_tells n f body among tells v grounded w.0 w.1).0 w.2))),
        (λ w. d.1 (w.0, w.1.0, (body_tells n f body among tells v grounded w.0 w.1.0).1 w.1.1)),
      )
    where
      some_exactly : (b : Bool) (P : Tree → Type 0) → Decides b ((u : Tree) × P u) → Decides b (HasSome P)
      some_exactly true P h = ((λ e none. let w = h.0 refl in none w.0 w.1), (λ some. refl))
      some_exactly false P h = ((λ e. absurd (true≢false (sym e))), (λ some. absurd (some (λ u p. true≢false (sym (h.1 (u, p)))))))

  pub TellsTruth-Infinite : (n : ℕ) (f : Core) (body answer : Answer) → is_free n f ≡ true
      → SaysMany structure.signature (length (columns_of (core.Infinite n f))) (place_in (columns_of f) n) body answer
      → TellsTruth structure f (said body) → TellsTruth structure (core.Infinite n f) (said answer)
  TellsTruth-Infinite n f body answer among says tells v grounded =
      let ys = columns_of (core.Infinite n f) in
      let d = says (tuple_of v ys) (AreTerms-tuple_of structure.signature v ys grounded) in (
        (λ e. many_weaker _ _ (λ u w. (w.0, (body_tells n f body among tells v grounded u w.0).0 w.1)) (d.0 e)),
        (λ w. d.1 (many_weaker _ _ (λ u k. (k.0, (body_tells n f body among tells v grounded u k.0).1 k.1)) w)),
      )
