-- Of one automaton beside another: the states of the first take what they took; without moves across, those of the second too; it fits where both do.
use Rattle.std.specs.Prelude.{◌≡◌, ◌↔◌, ◌⊎◌, ℕ, List, [], ◌∷◌, map, length, Some, refl}
use Rattle.std.proofs.Common.{sym, ap, subst, ◌∙◌, inl, inr}
use Rattle.std.proofs.lemmas.List.{length-map}
use Rattle.fort_theory.specs.Trees.{Tree, Trees, Node, Nil, More}
use Rattle.fort_theory.specs.Signatures.{Signature, IsGround, AreGround}
use Rattle.fort_theory.specs.Rewriting.{Relation, RewritesInParallel, AllRewriteInParallel, AtRoot, Inside, End, Both}
use Rattle.fort_reachability.specs.TreeAutomata.{Automaton, Takes, ByAny, ByMove, BySilentMove, AllTaken, NoneTaken, MoreTaken, FitsAutomaton}
use Rattle.fort_reachability.specs.TransducerParts.{NoCrossing, joined}
use Rattle.fort_reachability.specs.Compositions.{LeadsInto}
use Rattle.fort_reachability.proofs.ParallelSteps.{RewritesInParallel-refl}

first-equal : {A : Type 0} {x y : A} {xs ys : List A} → x ∷ xs ≡ y ∷ ys → x ≡ y
first-equal h = cc

rest-equal : {A : Type 0} {x y : A} {xs ys : List A} → x ∷ xs ≡ y ∷ ys → xs ≡ ys
rest-equal h = cc

none-more : {A : Type 0} {x : A} {xs : List A} → [] ≡ x ∷ xs → ⊥
none-more h = cc

more-none : {A : Type 0} {x : A} {xs : List A} → x ∷ xs ≡ [] → ⊥
more-none h = cc

module _ {A B : Type 0} (first : Automaton A) (second : Automaton B) (Crosses : A → B → Type 0) where
  -- states of the first
  mutual
    pub Takes-joined_first : {t : Tree} {q : A} → Takes first t q → Takes (joined first second Crosses) t (inl q)
    Takes-joined_first (ByAny h) = ByAny h
    Takes-joined_first (ByMove {qs = qs} m hs) = ByMove (qs, refl, m) (all_taken-joined_first hs)
    Takes-joined_first (BySilentMove {o = o} m h) = BySilentMove {o = inl o} m (Takes-joined_first h)

    all_taken-joined_first : {ts : Trees} {qs : List A} → AllTaken first ts qs → AllTaken (joined first second Crosses) ts (map inl qs)
    all_taken-joined_first NoneTaken = NoneTaken
    all_taken-joined_first (MoreTaken h hs) = MoreTaken (Takes-joined_first h) (all_taken-joined_first hs)

  abbrev TakesOfFirst : Tree → A ⊎ B → Type 0
  TakesOfFirst t (inl q) = Takes first t q
  TakesOfFirst t (inr q) = Unit {0}

  mutual
    first-from_joined : {t : Tree} {q : A ⊎ B} → Takes (joined first second Crosses) t q → TakesOfFirst t q
    first-from_joined (ByAny {q = inl q} h) = ByAny h
    first-from_joined (ByAny {q = inr q} h) = tt
    first-from_joined (ByMove {q = inl q} m hs) = ByMove m.2 (all_first-from_joined hs m.0 m.1)
    first-from_joined (ByMove {q = inr q} m hs) = tt
    first-from_joined (BySilentMove {o = inl o} {q = inl q} m h) = BySilentMove m (first-from_joined h)
    first-from_joined (BySilentMove {o = inr o} {q = inl q} m h) = absurd m
    first-from_joined (BySilentMove {q = inr q} m h) = tt

    all_first-from_joined : {ts : Trees} {qs : List (A ⊎ B)} → AllTaken (joined first second Crosses) ts qs → (ps : List A) → qs ≡ map inl ps
        → AllTaken first ts ps
    all_first-from_joined NoneTaken [] e = NoneTaken
    all_first-from_joined NoneTaken (p ∷ ps) e = absurd (none-more e)
    all_first-from_joined (MoreTaken h hs) [] e = absurd (more-none e)
    all_first-from_joined (MoreTaken {t = t} h hs) (p ∷ ps) e =
        MoreTaken (subst (TakesOfFirst t) (first-equal e) (first-from_joined h)) (all_first-from_joined hs ps (rest-equal e))

  pub Takes-joined_first_iff : (t : Tree) (q : A) → Takes (joined first second Crosses) t (inl q) ↔ Takes first t q
  Takes-joined_first_iff t q = (first-from_joined, Takes-joined_first)

  -- states of the second: what they took
  mutual
    pub Takes-joined_second : {t : Tree} {q : B} → Takes second t q → Takes (joined first second Crosses) t (inr q)
    Takes-joined_second (ByAny h) = ByAny h
    Takes-joined_second (ByMove {qs = qs} m hs) = ByMove (qs, refl, m) (all_taken-joined_second hs)
    Takes-joined_second (BySilentMove {o = o} m h) = BySilentMove {o = inr o} m (Takes-joined_second h)

    all_taken-joined_second : {ts : Trees} {qs : List B} → AllTaken second ts qs → AllTaken (joined first second Crosses) ts (map inr qs)
    all_taken-joined_second NoneTaken = NoneTaken
    all_taken-joined_second (MoreTaken h hs) = MoreTaken (Takes-joined_second h) (all_taken-joined_second hs)

  -- where both fit a signature
  pub FitsAutomaton-joined : (signature : Signature) → FitsAutomaton signature first → FitsAutomaton signature second
      → FitsAutomaton signature (joined first second Crosses)
  FitsAutomaton-joined signature fits_first fits_second f qs (inl q) m =
      fits_first f m.0 q m.2 ∙ ap Some (sym (length-map m.0 inl) ∙ ap length (sym m.1))
  FitsAutomaton-joined signature fits_first fits_second f qs (inr q) m =
      fits_second f m.0 q m.2 ∙ ap Some (sym (length-map m.0 inr) ∙ ap length (sym m.1))

-- Where a move across is a step of a relation from a term of the one state to a term of the other, a state of the second takes what leads in parallel to a term that it took.

-- the same, one by one
record AllLeadInto {B : Type 0} (root : Relation) (second : Automaton B) (ss : Trees) (qs : List B) : Type 0 where
  ends : Trees
  lead : AllRewriteInParallel root ss ends
  taken : AllTaken second ends qs

module _ {A B : Type 0} (signature : Signature) (first : Automaton A) (second : Automaton B) (Crosses : A → B → Type 0) (root : Relation)
    (step_of : (s : Tree) (a : A) (q : B) → IsGround signature s → Takes first s a → Crosses a q → (u : Tree) × root s u × Takes second u q)
    (crossing_of : (s u : Tree) (q : B) → root s u → Takes second u q → (a : A) × Takes first s a × Crosses a q) where
  abbrev LeadsOfSecond : Tree → A ⊎ B → Type 0
  LeadsOfSecond s (inl q) = Unit {0}
  LeadsOfSecond s (inr q) = LeadsInto root second s q

  lead-after_crossing : {s : Tree} {a : A} {q : B} → IsGround signature s → Takes first s a → Crosses a q → LeadsInto root second s q
  lead-after_crossing {s = s} {a = a} {q = q} grounded h c = let w = step_of s a q grounded h c in (w.0, AtRoot w.1, w.2)

  mutual
    lead-from_joined : {s : Tree} {q : A ⊎ B} → Takes (joined first second Crosses) s q → IsGround signature s → LeadsOfSecond s q
    lead-from_joined (ByAny {q = inl q} h) grounded = tt
    lead-from_joined (ByAny {t = s} {q = inr q} h) grounded = (s, RewritesInParallel-refl root s, ByAny h)
    lead-from_joined (ByMove {q = inl q} m hs) grounded = tt
    lead-from_joined (ByMove {f = f} {q = inr q} m hs) grounded =
        let k = all_lead-from_joined hs grounded.1 m.0 m.1 in (Node f k.ends, Inside k.lead, ByMove m.2 k.taken)
    lead-from_joined (BySilentMove {q = inl q} m h) grounded = tt
    lead-from_joined (BySilentMove {o = inl o} {q = inr q} m h) grounded =
        lead-after_crossing grounded (first-from_joined first second Crosses h) m
    lead-from_joined (BySilentMove {o = inr o} {q = inr q} m h) grounded =
        let w = lead-from_joined h grounded in (w.0, w.1, BySilentMove m w.2)

    all_lead-from_joined : {ss : Trees} {qs : List (A ⊎ B)} → AllTaken (joined first second Crosses) ss qs → AreGround signature ss
        → (ps : List B) → qs ≡ map inr ps → AllLeadInto root second ss ps
    all_lead-from_joined NoneTaken grounded [] e = record { ends = Nil; lead = End; taken = NoneTaken }
    all_lead-from_joined NoneTaken grounded (p ∷ ps) e = absurd (none-more e)
    all_lead-from_joined (MoreTaken h hs) grounded [] e = absurd (more-none e)
    all_lead-from_joined (MoreTaken {t = s} h hs) grounded (p ∷ ps) e =
        let k : LeadsInto root second s p = subst (LeadsOfSecond s) (first-equal e) (lead-from_joined h grounded.0) in
        let ks = all_lead-from_joined hs grounded.1 ps (rest-equal e) in
        record { ends = More k.0 ks.ends; lead = Both k.1 ks.lead; taken = MoreTaken k.2 ks.taken }

  -- at a node whose children are done
  joined-at_node : (f : ℕ) {ss ts : Trees} → ((qs : List B) → AllTaken second ts qs → AllTaken (joined first second Crosses) ss (map inr qs))
      → {q : B} → Takes second (Node f ts) q → Takes (joined first second Crosses) (Node f ss) (inr q)
  joined-at_node f children (ByAny h) = ByAny h
  joined-at_node f children (ByMove {qs = qs} m hs) = ByMove (qs, refl, m) (children _ hs)
  joined-at_node f children (BySilentMove {o = o} m h) = BySilentMove {o = inr o} m (joined-at_node f children h)

  joined-none : {qs : List B} → AllTaken second Nil qs → AllTaken (joined first second Crosses) Nil (map inr qs)
  joined-none NoneTaken = NoneTaken

  joined-more : {s t : Tree} {ss ts : Trees} → ((q : B) → Takes second t q → Takes (joined first second Crosses) s (inr q))
      → ((qs : List B) → AllTaken second ts qs → AllTaken (joined first second Crosses) ss (map inr qs))
      → {qs : List B} → AllTaken second (More t ts) qs → AllTaken (joined first second Crosses) (More s ss) (map inr qs)
  joined-more head rest (MoreTaken h hs) = MoreTaken (head _ h) (rest _ hs)

  across : {s : Tree} {q : B} → (a : A) × Takes first s a × Crosses a q → Takes (joined first second Crosses) s (inr q)
  across w = BySilentMove {o = inl w.0} w.2 (Takes-joined_first first second Crosses w.1)

  mutual
    joined-from_parallel : {s t : Tree} → RewritesInParallel root s t → (q : B) → Takes second t q → Takes (joined first second Crosses) s (inr q)
    joined-from_parallel (AtRoot {s = s} {t = t} r) q h = across (crossing_of s t q r h)
    joined-from_parallel (Inside {f = f} ks) q h = joined-at_node f (all_joined-from_parallel ks) h

    all_joined-from_parallel : {ss ts : Trees} → AllRewriteInParallel root ss ts
        → (qs : List B) → AllTaken second ts qs → AllTaken (joined first second Crosses) ss (map inr qs)
    all_joined-from_parallel End qs h = joined-none h
    all_joined-from_parallel (Both k ks) qs h = joined-more (joined-from_parallel k) (all_joined-from_parallel ks) h

  pub Takes-joined_across : (s : Tree) → IsGround signature s → (q : B) → Takes (joined first second Crosses) s (inr q) ↔ LeadsInto root second s q
  Takes-joined_across s grounded q = ((λ h. lead-from_joined h grounded), (λ w. joined-from_parallel w.1 q w.2))

module _ {A B : Type 0} (first : Automaton A) (second : Automaton B) where
  -- without moves across
  abbrev TakesOfSecond : Tree → A ⊎ B → Type 0
  TakesOfSecond t (inl q) = Unit {0}
  TakesOfSecond t (inr q) = Takes second t q

  mutual
    second-from_joined : {t : Tree} {q : A ⊎ B} → Takes (joined first second NoCrossing) t q → TakesOfSecond t q
    second-from_joined (ByAny {q = inl q} h) = tt
    second-from_joined (ByAny {q = inr q} h) = ByAny h
    second-from_joined (ByMove {q = inl q} m hs) = tt
    second-from_joined (ByMove {q = inr q} m hs) = ByMove m.2 (all_second-from_joined hs m.0 m.1)
    second-from_joined (BySilentMove {q = inl q} m h) = tt
    second-from_joined (BySilentMove {o = inl o} {q = inr q} m h) = absurd m
    second-from_joined (BySilentMove {o = inr o} {q = inr q} m h) = BySilentMove m (second-from_joined h)

    all_second-from_joined : {ts : Trees} {qs : List (A ⊎ B)} → AllTaken (joined first second NoCrossing) ts qs → (ps : List B) → qs ≡ map inr ps
        → AllTaken second ts ps
    all_second-from_joined NoneTaken [] e = NoneTaken
    all_second-from_joined NoneTaken (p ∷ ps) e = absurd (none-more e)
    all_second-from_joined (MoreTaken h hs) [] e = absurd (more-none e)
    all_second-from_joined (MoreTaken {t = t} h hs) (p ∷ ps) e =
        MoreTaken (subst (TakesOfSecond t) (first-equal e) (second-from_joined h)) (all_second-from_joined hs ps (rest-equal e))

  pub Takes-joined_second_iff : (t : Tree) (q : B) → Takes (joined first second NoCrossing) t (inr q) ↔ Takes second t q
  Takes-joined_second_iff t q = (second-from_joined, Takes-joined_second first second NoCrossing)
