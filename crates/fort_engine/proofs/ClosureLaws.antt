-- The closures that are asked for are listed one by one; a part finds there the one that it asks for.
use Rattle.std.proofs.Common.{◌≡◌, ℕ, zero, suc, ◌+◌, ◌<◌, ◌≤◌, List, [], ◌∷◌, ◌++◌, Bool, true, false, map, length, refl, ap, sym, ◌∙◌, arith, subst, append_assoc, append-nil, ⊎_elim}
use Rattle.std.specs.Prelude.{Contains, if◌then◌else◌}
use Rattle.std.specs.List.{All, list_any}
use Rattle.std.specs.Cmp.Derive.{both_true}
use Rattle.std.proofs.lemmas.Bool.{cases_lt, eq-eqb}
use Rattle.std.proofs.lemmas.List.{map-append}
use Rattle.std.proofs.lemmas.List.Folds.{list_any-from_Any}
use Rattle.std.proofs.lemmas.List.Elements.{All-push, Contains-append_left, Contains-append_right}
use Rattle.fort_theory.specs.Patterns.{PatternSystem}
use Rattle.fort_theory.specs.Sides.{IsIndexOf, at_index}
use Rattle.fort_theory.proofs.Members.{Contains-head}
use Rattle.fort_theory.specs.Cores as core
use Rattle.fort_theory.specs.Cores.{Core}
use Rattle.fort_alike.specs.ListedClosures.{Which, Star, Conv, relation_of, reads, asks}
use Rattle.fort_findings.specs.declared.closure.ClosureEntry.{ClosureEntry}
use Rattle.fort_findings.specs.FindingView.{as_which}
use Rattle.fort_context_closure.specs.ClosedAtoms.{ListsPasses}
use Rattle.fort_context_closure.proofs.ClosureReads.{ListsPasses-read}
use Rattle.fort_engine.specs.declared.closures.IndexClosure.{IndexClosure}
use Rattle.fort_engine.specs.Closures.{name_of, closure_asked, closures_asked, ListsItsPasses, AreClosuresOf, AreClosures}

pub AreClosuresOf-none : (system : PatternSystem) (cs : List IndexClosure) → cs ≡ [] → AreClosuresOf system [] cs
AreClosuresOf-none system cs e = record {
  names_are = ap (map name_of) e;
  passed = subst (All (ListsItsPasses system)) (sym e) (λ k d l. absurd (omega arith));
}

pub ListsPasses-named : (system : PatternSystem) (c : IndexClosure) (w : Which) (index : ℕ) → name_of c ≡ (w, index) → ListsItsPasses system c
    → ListsPasses (relation_of w) (at_index index system.rules) c.entries.items
ListsPasses-named system c w index e h = subst (λ (k : Which × ℕ). ListsPasses (relation_of k.0) (at_index k.1 system.rules) c.entries.items) e h

-- what is chosen by a test
chosen : {A : Type 0} (b : Bool) (x y : A) → b ≡ true → (if b then x else y) ≡ x
chosen b x y e = rw e refl

passed_over : {A : Type 0} (b : Bool) (x y : A) → b ≡ false → (if b then x else y) ≡ y
passed_over b x y e = rw e refl

-- those of n indices and one more
closures_asked-push : (parts : List Core) (n i : ℕ) → closures_asked parts (suc n) i ≡ closures_asked parts n i ++ (closure_asked parts (i + n) Star ++ closure_asked parts (i + n) Conv)
closures_asked-push parts zero i =
    let e : i ≡ i + 0 = omega arith in
    ap (λ ns. closure_asked parts i Star ++ ns) (append-nil (closure_asked parts i Conv)) ∙ ap (λ j. closure_asked parts j Star ++ closure_asked parts j Conv) e
closures_asked-push parts (suc n) i =
    let e : suc i + n ≡ i + suc n = omega arith in
    let a = closure_asked parts i Star in
    let b = closure_asked parts i Conv in
    let rest = closures_asked parts n (suc i) in
    let more = closure_asked parts (suc i + n) Star ++ closure_asked parts (suc i + n) Conv in
    ap (λ ns. a ++ (b ++ ns)) (closures_asked-push parts n (suc i))
    ∙ (ap (λ ns. a ++ ns) (sym (append_assoc b rest more))
    ∙ (sym (append_assoc a (b ++ rest) more)
    ∙ ap (λ j. (a ++ (b ++ rest)) ++ (closure_asked parts j Star ++ closure_asked parts j Conv)) e))

module _ (system : PatternSystem) (parts : List Core) where
  -- a closure that none asks for isn't there
  pub AreClosuresOf-unasked : (which : Which) (index : ℕ) (names : List (Which × ℕ)) (cs : List IndexClosure) → list_any (asks which index) parts ≡ false → AreClosuresOf system names cs
      → AreClosuresOf system (names ++ closure_asked parts index which) cs
  AreClosuresOf-unasked which index names cs none h =
      let same : names ++ closure_asked parts index which ≡ names =
      ap (λ ns. names ++ ns) (passed_over (list_any (asks which index) parts) ((which, index) ∷ []) [] none) ∙ append-nil names in
      subst (λ (ns : List (Which × ℕ)). AreClosuresOf system ns cs) (sym same) h

  pub AreClosuresOf-asked : (names : List (Which × ℕ)) (old new : List IndexClosure) (c : IndexClosure) → list_any (asks (as_which c.which) c.index) parts ≡ true → ListsItsPasses system c
      → new ≡ old ++ c ∷ [] → AreClosuresOf system names old → AreClosuresOf system (names ++ closure_asked parts c.index (as_which c.which)) new
  AreClosuresOf-asked names old new c asked passes more h = record {
    names_are = ap (map name_of) more ∙ (map-append name_of old (c ∷ [])
        ∙ (ap (λ ns. ns ++ name_of c ∷ []) h.names_are
        ∙ ap (λ ns. names ++ ns) (sym (chosen (list_any (asks (as_which c.which) c.index) parts) (name_of c ∷ []) [] asked))));
    passed = subst (All (ListsItsPasses system)) (sym more) (All-push (ListsItsPasses system) old c h.passed passes);
  }

  -- one more index
  pub AreClosuresOf-index : (n index : ℕ) (cs : List IndexClosure) → index ≡ n + 1
      → AreClosuresOf system (closures_asked parts n 1 ++ (closure_asked parts index Star ++ closure_asked parts index Conv)) cs → AreClosuresOf system (closures_asked parts (n + 1) 1) cs
  AreClosuresOf-index n index cs at h =
      let one : n + 1 ≡ suc n = omega arith in
      let here : 1 + n ≡ index = omega arith in
      let names : closures_asked parts n 1 ++ (closure_asked parts index Star ++ closure_asked parts index Conv) ≡ closures_asked parts (n + 1) 1 =
      sym (ap (λ i. closures_asked parts i 1) one ∙ (closures_asked-push parts n 1 ∙ ap (λ i. closures_asked parts n 1 ++ (closure_asked parts i Star ++ closure_asked parts i Conv)) here)) in
      subst (λ (ns : List (Which × ℕ)). AreClosuresOf system ns cs) names h

  -- a closure that is asked for is among them
  asked_member : (w : Which) (i : ℕ) → list_any (asks w i) parts ≡ true → Contains (closure_asked parts i w) (w, i)
  asked_member w i h = subst (λ (b : Bool). Contains {X = Which × ℕ} (if b then ((w, i) ∷ []) else []) (w, i)) (sym h) (Contains-head (w, i) [])

  asked_at : (w : Which) (n lo i : ℕ) → lo ≤ i → i < lo + n → list_any (asks w i) parts ≡ true → Contains (closures_asked parts n lo) (w, i)
  asked_at w zero lo i l m h = absurd (omega arith)
  asked_at w (suc n) lo i l m h =
      ⊎_elim
      (λ (before : lo < i).
      Contains-append_right (closure_asked parts lo Star) (closure_asked parts lo Conv ++ closures_asked parts n (suc lo)) (w, i)
      (Contains-append_right (closure_asked parts lo Conv) (closures_asked parts n (suc lo)) (w, i) (asked_at w n (suc lo) i (omega arith) (omega arith) h)))
      (λ (behind : i ≤ lo). let same : i ≡ lo = omega arith in here w (subst (λ (j : ℕ). Contains (closure_asked parts j w) (w, i)) same (asked_member w i h)))
      (cases_lt lo i)
    where
      here : (v : Which) → Contains (closure_asked parts lo v) (v, i)
          → Contains (closure_asked parts lo Star ++ (closure_asked parts lo Conv ++ closures_asked parts n (suc lo))) (v, i)
      here Star k = Contains-append_left (closure_asked parts lo Star) (closure_asked parts lo Conv ++ closures_asked parts n (suc lo)) (Star, i) k
      here Conv k =
          Contains-append_right (closure_asked parts lo Star) (closure_asked parts lo Conv ++ closures_asked parts n (suc lo)) (Conv, i)
          (Contains-append_left (closure_asked parts lo Conv) (closures_asked parts n (suc lo)) (Conv, i) k)

  pub closure_there : (w : Which) (rel : core.Rel) (index x y : ℕ) (cs : List IndexClosure) → reads w rel ≡ true → AreClosures system parts cs → IsIndexOf system.rules index
      → Contains parts (core.Leaf (core.Related rel index x y)) → Contains (map name_of cs) (w, index)
  closure_there w rel index x y cs read are own among =
      let asked : list_any (asks w index) parts ≡ true = list_any-from_Any (asks w index) parts (among.0, core.Leaf (core.Related rel index x y), among.1, among.2, both_true read (eq-eqb index index refl)) in
      subst (λ (ns : List (Which × ℕ)). Contains ns (w, index)) (sym are.names_are) (asked_at w (length system.rules) 1 index own.low (omega (arith, own.high)) asked)

  -- a relation finds the closure that it is told by
  pub ListsPasses-found : (w : Which) (rel : core.Rel) (index x y : ℕ) (cs : List IndexClosure) (es : List ClosureEntry) → reads w rel ≡ true
      → (All (ListsItsPasses system) cs → Contains (map name_of cs) (w, index) → ListsPasses (relation_of w) (at_index index system.rules) es)
      → AreClosures system parts cs → IsIndexOf system.rules index → Contains parts (core.Leaf (core.Related rel index x y)) → ListsPasses rel (at_index index system.rules) es
  ListsPasses-found w rel index x y cs es read found are own among =
      ListsPasses-read w rel (at_index index system.rules) es read (found are.passed (closure_there w rel index x y cs read are own among))
