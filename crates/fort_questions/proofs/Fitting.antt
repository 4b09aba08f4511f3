-- The ground terms that stand in the braces of a formula's text, one after another, and what of a formula a system lacks.
use Rattle.std.proofs.Common.{◌≡◌, ℕ, ◌+◌, ◌<◌, List, [], ◌∷◌, ◌++◌, length, get_or, map, take, drop, sym, ap, subst, ◌∙◌}
use Rattle.std.proofs.lemmas.List.{take_more, drop_more, take-append-drop, length-map, map-append}
use Rattle.fort_theory.specs.Trees.{Tree}
use Rattle.fort_theory.specs.Signatures.{Signature}
use Rattle.fort_theory.specs.Sides.{System}
use Rattle.fort_theory.specs.Patterns.{PatternSystem, pattern_system, pattern_pair}
use Rattle.fort_theory.specs.RightGround.{IsRightGroundAt, HasRightGroundPairsAt}
use Rattle.fort_theory.proofs.RightGroundTargets.{IsRightGroundAt-patterns}
use Rattle.fort_logic.specs.Formulas.{Formula}
use Rattle.fort_logic.specs.Mentions.{indices, AreWithin}
use Rattle.fort_logic.specs.Terminations.{terminations, AreAll, IsFirstWithout, IsRightGroundFor, IsFirstNotRightGround}
use Rattle.fort_logic.proofs.TerminationMentions.{AreAll-same, IsFirstWithout-same}
use Rattle.fort_grammar.specs.GroundForms.{IsGroundText}
use Rattle.fort_formula_grammar.specs.FormulaText.{Ground, AreGroundsOf}
use Rattle.fort_answers.specs.FitAnswer.{IsFirstWithoutTerm, IsUnfit, NoTerm}
use Rattle.fort_answers.specs.Said.{AreTermsOf}
use Rattle.fort_formula_parser.specs.declared.parsed.Ground as made
use Rattle.fort_formula_parser.specs.ParsedView.{as_ground}
use Rattle.fort_questions.specs.declared.refusal.Refusal.{Refusal}
use Rattle.fort_questions.specs.declared.refusal.Refusal.TheVariants as refusal
use Rattle.fort_questions.specs.Refusals.{Refuses, NamesTerm}

AreTermsOf-append : (signature : Signature) (gs hs : List Ground) (ts us : List Tree) → AreTermsOf signature gs ts → AreTermsOf signature hs us
    → AreTermsOf signature (gs ++ hs) (ts ++ us)
AreTermsOf-append signature [] hs [] us p q = q
AreTermsOf-append signature [] hs (t ∷ ts) us p q = absurd p
AreTermsOf-append signature (g ∷ gs) hs [] us p q = absurd p
AreTermsOf-append signature (g ∷ gs) hs (t ∷ ts) us p q = (p.0, AreTermsOf-append signature gs hs ts us p.1 q)

-- one more
pub AreTermsOf-push : (signature : Signature) (grounds : List made.Ground) (i : ℕ) (d : made.Ground) (ts us : List Tree) (t : Tree) → i < length grounds
    → AreTermsOf signature (map as_ground (take i grounds)) ts → IsGroundText signature (get_or grounds i d).text.items t → us ≡ ts ++ t ∷ []
    → AreTermsOf signature (map as_ground (take (i + 1) grounds)) us
AreTermsOf-push signature grounds i d ts us t lt so_far is e =
    let all : map as_ground (take (i + 1) grounds) ≡ map as_ground (take i grounds) ++ as_ground (get_or grounds i d) ∷ [] =
    ap (map as_ground) (take_more grounds i d lt) ∙ map-append as_ground (take i grounds) (get_or grounds i d ∷ []) in
    subst (AreTermsOf signature (map as_ground (take (i + 1) grounds))) (sym e)
    (subst (λ gs. AreTermsOf signature gs (ts ++ t ∷ [])) (sym all)
    (AreTermsOf-append signature (map as_ground (take i grounds)) (as_ground (get_or grounds i d) ∷ []) ts (t ∷ []) so_far (is, tt)))

-- none stands in these braces
pub IsFirstWithoutTerm-at : (signature : Signature) (grounds : List made.Ground) (i : ℕ) (d : made.Ground) (ts : List Tree) → i < length grounds
    → AreTermsOf signature (map as_ground (take i grounds)) ts → ((t : Tree) → IsGroundText signature (get_or grounds i d).text.items t → ⊥)
    → IsFirstWithoutTerm signature (map as_ground grounds) (as_ground (get_or grounds i d))
IsFirstWithoutTerm-at signature grounds i d ts lt so_far none = record {
  front = map as_ground (take i grounds);
  back = map as_ground (drop (i + 1) grounds);
  terms = ts;
  split = ap (map as_ground) (sym (take-append-drop i grounds) ∙ ap (λ gs. take i grounds ++ gs) (drop_more grounds i d lt))
      ∙ map-append as_ground (take i grounds) (get_or grounds i d ∷ drop (i + 1) grounds);
  read = so_far;
  no_term = none;
}

-- the number and the signature of a system are those of the system whose pairs of patterns it has
pub number_is : (n : ℕ) (system : PatternSystem) (p : System) → n ≡ length system.rules → system ≡ pattern_system p → n ≡ length p.rules
number_is n system p e is = e ∙ (ap (λ (s : PatternSystem). length s.rules) is ∙ length-map p.rules (map pattern_pair))

pub signature_is : (s : Signature) (system : PatternSystem) (p : System) → s ≡ system.signature → system ≡ pattern_system p → s ≡ p.signature
signature_is s system p e is = e ∙ ap (λ (x : PatternSystem). x.signature) is

-- a refusal that names the first braces without a ground term is owed
pub term_refused : (text : List ℕ) (f : Formula) (p : System) (grounds : List Ground) (r : Refusal) → AreWithin (length p.rules) (indices f)
    → AreGroundsOf text grounds → Refuses (NamesTerm p.signature grounds) r → Refuses (IsUnfit text f p) r
term_refused text f p grounds refusal.Memory within are h = h
term_refused text f p grounds (refusal.Line line) within are h = NoTerm within grounds are h.braces h.first h.says

-- the rules of a system are right-ground at an index exactly where the pairs of patterns are that it has
module _ (system : PatternSystem) (p : System) (f : Formula) (is : system ≡ pattern_system p) where
  pub right_ground_of : AreAll (HasRightGroundPairsAt system) (terminations f) → IsRightGroundFor p f
  right_ground_of all =
      AreAll-same (HasRightGroundPairsAt (pattern_system p)) (IsRightGroundAt p) (λ i. ((IsRightGroundAt-patterns p i).1, (IsRightGroundAt-patterns p i).0))
      (terminations f) (subst (λ (s : PatternSystem). AreAll (HasRightGroundPairsAt s) (terminations f)) is all)

  pub not_right_ground_of : (i : ℕ) → IsFirstWithout (HasRightGroundPairsAt system) (terminations f) i → IsFirstNotRightGround p f i
  not_right_ground_of i first =
      IsFirstWithout-same (HasRightGroundPairsAt (pattern_system p)) (IsRightGroundAt p) (λ i. ((IsRightGroundAt-patterns p i).1, (IsRightGroundAt-patterns p i).0))
      (terminations f) i (subst (λ (s : PatternSystem). IsFirstWithout (HasRightGroundPairsAt s) (terminations f) i) is first)
