-- A rule with one variable in its left side and none in its right one is pushed, unless memory is wanted.
use Rattle.std.proofs.Common.{◌≡◌, ℕ, List, [], ◌∷◌, ◌++◌, Contains, refl, sym, ◌∙◌, subst}
use Rattle.fort_theory.proofs.Members.{Contains-none}
use Rattle.fort_terms.specs.RuleFaults.{IsFirstRepeated, IsFirstShared}
use Rattle.fort_terms.specs.declared.system.RuleFault.{RuleFault}
use Rattle.fort_terms.specs.declared.system.RuleFault.TheVariants.{Memory, LeftRepeats, RightRepeats, Shares}

again_in_one : (x v : ℕ) (before after : List ℕ) → x ∷ [] ≡ before ++ v ∷ after → Contains before v → ⊥
again_in_one x v [] after e again = Contains-none v again
again_in_one x v (b ∷ []) after e again = cc
again_in_one x v (b ∷ c ∷ bs) after e again = cc

again_in_none : (v : ℕ) (before after : List ℕ) → [] ≡ before ++ v ∷ after → ⊥
again_in_none v [] after e = cc
again_in_none v (b ∷ bs) after e = cc

pub only_memory : (vs ws : List ℕ) (x : ℕ) (fault : RuleFault) → vs ≡ x ∷ [] → ws ≡ []
    → ((v : ℕ) → fault ≡ LeftRepeats v → IsFirstRepeated vs v)
    → ((v : ℕ) → fault ≡ RightRepeats v → IsFirstRepeated ws v)
    → ((v : ℕ) → fault ≡ Shares v → IsFirstShared vs ws v)
    → fault ≡ Memory
only_memory vs ws x Memory one none left right shared = refl
only_memory vs ws x (LeftRepeats v) one none left right shared =
    let f = left v refl in absurd (again_in_one x v f.before f.after (sym one ∙ f.stands) f.again)
only_memory vs ws x (RightRepeats v) one none left right shared =
    let f = right v refl in absurd (again_in_none v f.before f.after (sym none ∙ f.stands))
only_memory vs ws x (Shares v) one none left right shared =
    absurd (Contains-none v (subst (λ us. Contains us v) none (shared v refl).shared))
