-- The test whether an entry leads is right.
use Rattle.std.proofs.Common.{◌≡◌, ℕ, zero, suc, ◌+◌, ◌<◌, List, [], ◌∷◌, length, get_or, true, ◌&&◌, refl, ap, ◌∙◌, arith, subst, eq-eqb}
use Rattle.std.proofs.lemmas.Bool.{and_parts}
use Rattle.fort_tables.specs.Tuples.{TupleSymbol}
use Rattle.fort_tables.specs.Entries.{Entry}
use Rattle.fort_tables.proofs.EqualTests.{equal_from_test}
use Rattle.fort_classes.specs.Leaders.{Leaders, OpensClass, Leads}
use Rattle.fort_leading_walk.specs.LeaderStates.{opens_class, all_lead}

leads_at : (lead : Leaders) (f : TupleSymbol) (j : ℕ) (ks : List ℕ) (i : ℕ) → all_lead lead f j ks ≡ true → i < length ks → OpensClass lead f (j + i) (get_or ks i 0)
leads_at lead f j [] i h l = absurd (omega arith)
leads_at lead f j (k ∷ ks) zero h l =
    let e : j ≡ j + 0 = omega arith in
    subst (λ (x : ℕ). OpensClass lead f x k) e (let r = and_parts (opens_class lead f j k) (all_lead lead f (suc j) ks) h in equal_from_test (lead f j k) k r.0)
leads_at lead f j (k ∷ ks) (suc i) h l =
    let e : suc j + i ≡ j + suc i = omega arith in
    subst (λ (x : ℕ). OpensClass lead f x (get_or ks i 0)) e (let r = and_parts (opens_class lead f j k) (all_lead lead f (suc j) ks) h in leads_at lead f (suc j) ks i r.1 (omega arith))

all_at : (lead : Leaders) (f : TupleSymbol) (j : ℕ) (ks : List ℕ) → ((i : ℕ) → i < length ks → OpensClass lead f (j + i) (get_or ks i 0)) → all_lead lead f j ks ≡ true
all_at lead f j [] h = refl
all_at lead f j (k ∷ ks) h =
    let e : j + 0 ≡ j = omega arith in
    let here : OpensClass lead f j k = subst (λ (x : ℕ). OpensClass lead f x k) e (h 0 (omega arith)) in
    ap (λ b. b && all_lead lead f (suc j) ks) (eq-eqb (lead f j k) k here)
    ∙ all_at lead f (suc j) ks (λ i l. let s : j + suc i ≡ suc j + i = omega arith in subst (λ (x : ℕ). OpensClass lead f x (get_or ks i 0)) s (h (suc i) (omega arith)))

pub leads_from_test : (lead : Leaders) (e : Entry) → all_lead lead e.symbol 0 e.kids ≡ true → Leads lead e
leads_from_test lead e h = λ j l. let s : 0 + j ≡ j = omega arith in subst (λ (x : ℕ). OpensClass lead e.symbol x (get_or e.kids j 0)) s (leads_at lead e.symbol 0 e.kids j h l)

pub test_from_leads : (lead : Leaders) (e : Entry) → Leads lead e → all_lead lead e.symbol 0 e.kids ≡ true
test_from_leads lead e h = all_at lead e.symbol 0 e.kids (λ i l. let s : i ≡ 0 + i = omega arith in subst (λ (x : ℕ). OpensClass lead e.symbol x (get_or e.kids i 0)) s (h i l))
