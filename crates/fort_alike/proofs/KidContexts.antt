-- An atom of a relation by the root symbols and the children.
use Rattle.std.specs.Prelude.{◌≡◌, ◌≢◌, ◌↔◌, ◌⊎◌, ℕ, ◌≤◌, refl}
use Rattle.std.proofs.Common.{sym, subst, ◌∙◌, arith, inl, inr}
use Rattle.fort_theory.specs.Trees.{Tree, Trees, Node, Nil, More}
use Rattle.fort_theory.specs.Rewriting.{Relation}
use Rattle.fort_alike.proofs.Kids.{AllRelated, OneRelated, SomeRelated}
use Rattle.fort_theory.specs.Contexts.{Context, Contexts, Hole, Over, NoContext, MoreContexts, hole_count, hole_counts, Fills, AllFill, HoleNumber, OneHole, SomeHoles, AnyHoles, IsHoleNumber, HolePlace, BelowTheRoot, AnyPlace, IsAtPlace, HoldsInContext}
use Rattle.fort_theory.proofs.ContextLaws.{sum-zero, sum-one, sum-some, equal-from_Fills, all_plain, plain, hole_count-plain, hole_counts-all_plain, Fills-plain, Over-not_hole}

-- one child by one hole and the others equal; each child by any number of holes, and some child by at least one; each by any
abbrev pub KidsHold : Relation → HoleNumber → Trees → Trees → Type 0
KidsHold r OneHole ss ts = OneRelated (HoldsInContext r OneHole AnyPlace) ◌≡◌ ss ts
KidsHold r SomeHoles ss ts = AllRelated (HoldsInContext r AnyHoles AnyPlace) ss ts × SomeRelated (HoldsInContext r SomeHoles AnyPlace) ss ts
KidsHold r AnyHoles ss ts = AllRelated (HoldsInContext r AnyHoles AnyPlace) ss ts

module _ (r : Relation) where
  holds : (number : HoleNumber) (c : Context) (s t : Tree) → IsHoleNumber number (hole_count c) → Fills r c s t → HoldsInContext r number AnyPlace s t
  holds number c s t is fills = record { context = c; number_is = is; place_is = tt; fills = fills }

  -- from contexts of the children
  equal-kids : (cs : Contexts) (ss ts : Trees) → hole_counts cs ≡ 0 → AllFill r cs ss ts → AllRelated ◌≡◌ ss ts
  equal-kids NoContext Nil Nil e w = tt
  equal-kids NoContext Nil (More t ts) e w = absurd w
  equal-kids NoContext (More s ss) ts e w = absurd w
  equal-kids (MoreContexts c cs) Nil ts e w = absurd w
  equal-kids (MoreContexts c cs) (More s ss) Nil e w = absurd w
  equal-kids (MoreContexts c cs) (More s ss) (More t ts) e w =
      let z = sum-zero (hole_count c) (hole_counts cs) e in (equal-from_Fills r c s t z.0 w.0, equal-kids cs ss ts z.1 w.1)

  one-kids : (cs : Contexts) (ss ts : Trees) → hole_counts cs ≡ 1 → AllFill r cs ss ts → KidsHold r OneHole ss ts
  one-kids NoContext ss ts e w = absurd (let none : 0 ≡ 1 = e in omega arith)
  one-kids (MoreContexts c cs) Nil ts e w = absurd w
  one-kids (MoreContexts c cs) (More s ss) Nil e w = absurd w
  one-kids (MoreContexts c cs) (More s ss) (More t ts) e w = elim (sum-one (hole_count c) (hole_counts cs) e) [
    | inl z ↦ inl (holds OneHole c s t z.0 w.0, equal-kids cs ss ts z.1 w.1)
    | inr z ↦ inr (equal-from_Fills r c s t z.0 w.0, one-kids cs ss ts z.1 w.1)
  ]

  any-kids : (cs : Contexts) (ss ts : Trees) → AllFill r cs ss ts → KidsHold r AnyHoles ss ts
  any-kids NoContext Nil Nil w = tt
  any-kids NoContext Nil (More t ts) w = absurd w
  any-kids NoContext (More s ss) ts w = absurd w
  any-kids (MoreContexts c cs) Nil ts w = absurd w
  any-kids (MoreContexts c cs) (More s ss) Nil w = absurd w
  any-kids (MoreContexts c cs) (More s ss) (More t ts) w = (holds AnyHoles c s t tt w.0, any-kids cs ss ts w.1)

  some-kids : (cs : Contexts) (ss ts : Trees) → 1 ≤ hole_counts cs → AllFill r cs ss ts → SomeRelated (HoldsInContext r SomeHoles AnyPlace) ss ts
  some-kids NoContext ss ts e w = absurd (let none : 1 ≤ 0 = e in omega arith)
  some-kids (MoreContexts c cs) Nil ts e w = absurd w
  some-kids (MoreContexts c cs) (More s ss) Nil e w = absurd w
  some-kids (MoreContexts c cs) (More s ss) (More t ts) e w = elim (sum-some (hole_count c) (hole_counts cs) e) [
    | inl z ↦ inl (holds SomeHoles c s t z w.0)
    | inr z ↦ inr (some-kids cs ss ts z w.1)
  ]

  KidsHold-from_AllFill : (number : HoleNumber) (cs : Contexts) (ss ts : Trees) → IsHoleNumber number (hole_counts cs) → AllFill r cs ss ts → KidsHold r number ss ts
  KidsHold-from_AllFill OneHole cs ss ts is w = one-kids cs ss ts is w
  KidsHold-from_AllFill SomeHoles cs ss ts is w = (any-kids cs ss ts w, some-kids cs ss ts is w)
  KidsHold-from_AllFill AnyHoles cs ss ts is w = any-kids cs ss ts w

  -- and back
  record KidContexts (number : HoleNumber) (ss ts : Trees) : Type 0 where
    contexts : Contexts
    number_is : IsHoleNumber number (hole_counts contexts)
    fill : AllFill r contexts ss ts

  plain-kids : (ss ts : Trees) → AllRelated ◌≡◌ ss ts → AllFill r (all_plain ss) ss ts
  plain-kids Nil Nil h = tt
  plain-kids Nil (More t ts) h = absurd h
  plain-kids (More s ss) Nil h = absurd h
  plain-kids (More s ss) (More t ts) h = (subst (λ x. Fills r (plain s) s x) h.0 (Fills-plain r s), plain-kids ss ts h.1)

  contexts-of_one : (ss ts : Trees) → KidsHold r OneHole ss ts → KidContexts OneHole ss ts
  contexts-of_one Nil ts h = absurd h
  contexts-of_one (More s ss) Nil h = absurd h
  contexts-of_one (More s ss) (More t ts) (inl h) =
      let z = hole_counts-all_plain ss in
      let e : hole_count h.0.context ≡ 1 = h.0.number_is in
      record { contexts = MoreContexts h.0.context (all_plain ss); number_is = omega (arith, e, z); fill = (h.0.fills, plain-kids ss ts h.1) }
  contexts-of_one (More s ss) (More t ts) (inr h) =
      let w = contexts-of_one ss ts h.1 in
      let z = hole_count-plain s in
      let e : hole_counts w.contexts ≡ 1 = w.number_is in
      record {
        contexts = MoreContexts (plain s) w.contexts;
        number_is = omega (arith, e, z);
        fill = (subst (λ x. Fills r (plain s) s x) h.0 (Fills-plain r s), w.fill);
      }

  contexts-of_any : (ss ts : Trees) → KidsHold r AnyHoles ss ts → KidContexts AnyHoles ss ts
  contexts-of_any Nil Nil h = record { contexts = NoContext; number_is = tt; fill = tt }
  contexts-of_any Nil (More t ts) h = absurd h
  contexts-of_any (More s ss) Nil h = absurd h
  contexts-of_any (More s ss) (More t ts) h =
      let w = contexts-of_any ss ts h.1 in
      record { contexts = MoreContexts h.0.context w.contexts; number_is = tt; fill = (h.0.fills, w.fill) }

  contexts-of_some : (ss ts : Trees) → KidsHold r AnyHoles ss ts → SomeRelated (HoldsInContext r SomeHoles AnyPlace) ss ts → KidContexts SomeHoles ss ts
  contexts-of_some Nil ts h k = absurd k
  contexts-of_some (More s ss) Nil h k = absurd k
  contexts-of_some (More s ss) (More t ts) h (inl k) =
      let w = contexts-of_any ss ts h.1 in
      let e : 1 ≤ hole_count k.context = k.number_is in
      record { contexts = MoreContexts k.context w.contexts; number_is = omega (arith, e); fill = (k.fills, w.fill) }
  contexts-of_some (More s ss) (More t ts) h (inr k) =
      let w = contexts-of_some ss ts h.1 k in
      let e : 1 ≤ hole_counts w.contexts = w.number_is in
      record { contexts = MoreContexts h.0.context w.contexts; number_is = omega (arith, e); fill = (h.0.fills, w.fill) }

  contexts-of_kids : (number : HoleNumber) (ss ts : Trees) → KidsHold r number ss ts → KidContexts number ss ts
  contexts-of_kids OneHole ss ts h = contexts-of_one ss ts h
  contexts-of_kids SomeHoles ss ts h = contexts-of_some ss ts h.0 h.1
  contexts-of_kids AnyHoles ss ts h = contexts-of_any ss ts h

  module _ (number : HoleNumber) (f g : ℕ) (ss ts : Trees) where
    below-by_kids : (c : Context) → IsHoleNumber number (hole_count c) → c ≢ Hole → Fills r c (Node f ss) (Node g ts) → (f ≡ g) × KidsHold r number ss ts
    below-by_kids Hole is deep w = absurd (deep refl)
    below-by_kids (Over h cs) is deep w = (sym w.0 ∙ w.1, KidsHold-from_AllFill number cs ss ts is w.2)

    by-kids : (c : Context) → IsHoleNumber number (hole_count c) → Fills r c (Node f ss) (Node g ts)
        → r (Node f ss) (Node g ts) ⊎ ((f ≡ g) × KidsHold r number ss ts)
    by-kids Hole is w = inl w
    by-kids (Over h cs) is w = inr (sym w.0 ∙ w.1, KidsHold-from_AllFill number cs ss ts is w.2)

    one-hole : (n : HoleNumber) → IsHoleNumber n 1
    one-hole OneHole = refl
    one-hole SomeHoles = omega arith
    one-hole AnyHoles = tt

    over-kids : f ≡ g → KidsHold r number ss ts → (place : HolePlace) → ((cs : Contexts) → IsAtPlace place (Over f cs)) → HoldsInContext r number place (Node f ss) (Node g ts)
    over-kids e h place at =
        let w = contexts-of_kids number ss ts h in
        record { context = Over f w.contexts; number_is = w.number_is; place_is = at w.contexts; fills = (refl, e, w.fill) }

    pub anywhere-by_root : HoldsInContext r number AnyPlace (Node f ss) (Node g ts) ↔ (r (Node f ss) (Node g ts) ⊎ ((f ≡ g) × KidsHold r number ss ts))
    anywhere-by_root = (
      (λ h. by-kids h.context h.number_is h.fills),
      (λ w. elim w [
        | inl one ↦ record { context = Hole; number_is = one-hole number; place_is = tt; fills = one }
        | inr k ↦ over-kids k.0 k.1 AnyPlace (λ cs. tt)
      ]),
    )

    pub below-by_root : HoldsInContext r number BelowTheRoot (Node f ss) (Node g ts) ↔ ((f ≡ g) × KidsHold r number ss ts)
    below-by_root = (
      (λ h. below-by_kids h.context h.number_is h.place_is h.fills),
      (λ k. over-kids k.0 k.1 BelowTheRoot (λ cs. Over-not_hole)),
    )
