-- Rules that are read one by one.
use Rattle.std.proofs.Common.{◌≡◌, ℕ, suc, ◌+◌, ◌-◌, ◌<◌, ◌≤◌, List, [], ◌∷◌, ◌++◌, length, drop, map, refl, ap, sym, ◌∙◌, subst, arith, length-append}
use Rattle.std.specs.Prelude.{codes}
use Rattle.std.proofs.lemmas.List.{length-map}
use Rattle.fort_theory.specs.Signatures.{Signature, HasConstant}
use Rattle.fort_theory.specs.Sides.{Rule, System, pushed_at, empty_lists, count_all, IsIndexOf}
use Rattle.fort_theory.specs.Patterns.{Pair, PatternSystem, pattern_pair, pattern_system}
use Rattle.fort_theory.proofs.IndexLaws.{map-pushed_at, length-pushed_at, length-empty_lists, count_all-pushed_at}
use Rattle.fort_grammar.specs.Forms.{Form}
use Rattle.fort_grammar.specs.Declarations.{IsFormat, IsHeaded, ProblemFault}
use Rattle.fort_grammar.specs.RuleForms.{IndexedRule, IsRule, AreRules, IsBadRule, most_rules}
use Rattle.fort_grammar.specs.ProblemForms.{BeginsOtherwise, FallsInto, IsProblem, IsFirstProblemFault, InRule}
use Rattle.fort_ari.specs.Parts.{BeginsWithFormat}
use Rattle.fort_ari.specs.Reading.{AreDeclared, HasRulesUpTo, PushesRule, HasBothSides, IsFaultlessSoFar, AtRule}
use Rattle.fort_ari.proofs.Parts.{AllByRecursion-append, run, append_one}
use Rattle.fort_ari.proofs.RuleElements.{HasSides-low, HasSides-high}
use Rattle.fort_ari.proofs.Sorted.{sorted_more, at_index-empty, map-empty, count_all-empty, count_all-map}

AreRules-push : (bytes : List ℕ) (number : ℕ) (signature : Signature) (fs : List Form) (rs : List IndexedRule) (f : Form) (r : IndexedRule)
    → AreRules bytes number signature fs rs → IsRule bytes number signature f r → AreRules bytes number signature (fs ++ f ∷ []) (rs ++ r ∷ [])
AreRules-push bytes number signature [] [] f r h i = (i, tt)
AreRules-push bytes number signature [] (s ∷ rs) f r h i = absurd h
AreRules-push bytes number signature (g ∷ fs) [] f r h i = absurd h
AreRules-push bytes number signature (g ∷ fs) (s ∷ rs) f r h i = (h.0, AreRules-push bytes number signature fs rs f r h.1 i)

AreRules-length : (bytes : List ℕ) (number : ℕ) (signature : Signature) (fs : List Form) (rs : List IndexedRule) → AreRules bytes number signature fs rs
    → length rs ≡ length fs
AreRules-length bytes number signature [] [] h = refl
AreRules-length bytes number signature [] (s ∷ rs) h = absurd h
AreRules-length bytes number signature (g ∷ fs) [] h = absurd h
AreRules-length bytes number signature (g ∷ fs) (s ∷ rs) h = ap suc (AreRules-length bytes number signature fs rs h.1)

pub rules_none : (bytes : List ℕ) (forms : List Form) (number : ℕ) (signature : Signature) (from : ℕ) (system : PatternSystem) → system.signature ≡ signature
    → system.rules ≡ empty_lists number → HasRulesUpTo bytes forms number signature from from system
rules_none bytes forms number signature from system same none = record {
  given = [];
  up_to = record { rules = []; is = refl; count = omega arith; headed = tt; are_rules = tt; few = omega arith };
  same = same;
  lists = empty_lists number;
  pairs = none ∙ map-empty pattern_pair number;
  systems = length-empty_lists Rule number;
  sorted = at_index-empty Rule number;
  total = count_all-empty Rule number;
}

module _ (bytes : List ℕ) (forms : List Form) (number : ℕ) (signature : Signature) (from next : ℕ) (system : PatternSystem)
    (u : HasRulesUpTo bytes forms number signature from next system) where
  -- the number of systems
  pub systems_count : length system.rules ≡ number
  systems_count = ap length u.pairs ∙ length-map u.lists (map pattern_pair) ∙ u.systems

  -- so many rules so far, in all systems
  pub rule_count : count_all system.rules ≡ length u.up_to.rules
  rule_count =
      ap count_all u.pairs ∙ count_all-map pattern_pair u.lists ∙ u.total ∙ AreRules-length bytes number signature u.up_to.rules u.given u.up_to.are_rules

  pub forms_count : next - from ≡ count_all system.rules
  forms_count = let so_far = u.up_to.count in omega (arith, rule_count)

  pub forms_count-le : next - from ≤ most_rules
  forms_count-le = let few = u.up_to.few in let so_far = u.up_to.count in omega arith

pub rules_more : (bytes : List ℕ) (forms : List Form) (number : ℕ) (signature : Signature) (from next : ℕ) (old new : PatternSystem) (f : Form) → 1 ≤ number
    → HasRulesUpTo bytes forms number signature from next old → drop next forms ≡ f ∷ drop (next + 1) forms → IsHeaded bytes (codes "rule") f
    → PushesRule bytes f old new → next - from < most_rules → HasRulesUpTo bytes forms number signature from (next + 1) new
rules_more bytes forms number signature from next old new f some u e headed p few =
    let r = u.up_to in
    let rule : IsRule bytes number signature f p.given =
    subst (λ s. IsRule bytes number s f p.given) u.same
    (subst (λ n. IsRule bytes n old.signature f p.given) (systems_count bytes forms number signature from next old u) p.is_rule) in
    let here : IsIndexOf u.lists p.given.index =
    record { low = HasSides-low _ _ _ _ _ _ rule.sides; high = subst (λ n. p.given.index ≤ n) (sym u.systems) (HasSides-high _ _ _ _ _ _ some rule.sides) } in
    record {
      given = u.given ++ p.given ∷ [];
      up_to = record {
        rules = r.rules ++ f ∷ [];
        is = r.is ∙ ap (λ gs. r.rules ++ gs) e ∙ append_one r.rules [] (drop (next + 1) forms) f;
        count = let so_far = r.count in omega (arith, length-append r.rules (f ∷ []));
        headed = AllByRecursion-append (IsHeaded bytes (codes "rule")) r.rules (f ∷ []) r.headed (headed, tt);
        are_rules = AreRules-push bytes number signature r.rules u.given f p.given r.are_rules rule;
        few = let so_far = r.count in omega (arith, length-append r.rules (f ∷ []));
      };
      same = p.same ∙ u.same;
      lists = pushed_at p.given.index p.given.rule u.lists;
      pairs = p.rules ∙ ap (pushed_at p.given.index (pattern_pair p.given.rule)) u.pairs ∙ sym (map-pushed_at pattern_pair p.given.index p.given.rule u.lists);
      systems = length-pushed_at p.given.index p.given.rule u.lists ∙ u.systems;
      sorted = sorted_more u.lists u.given p.given here u.sorted;
      total = let total = u.total in omega (arith, count_all-pushed_at p.given.index p.given.rule u.lists here, length-append u.given (p.given ∷ []));
    }

pub fault_in_rule : (bytes : List ℕ) (forms : List Form) (number : ℕ) (signature : Signature) (from next : ℕ) (system : PatternSystem) (f : Form)
    (fault : ProblemFault) → BeginsWithFormat bytes forms number → AreDeclared bytes forms signature from → HasConstant signature
    → HasRulesUpTo bytes forms number signature from next system → drop next forms ≡ f ∷ drop (next + 1) forms → IsHeaded bytes (codes "rule") f
    → IsBadRule bytes (length system.rules) system.signature (next - from) next f fault → IsFirstProblemFault bytes forms fault
fault_in_rule bytes [] number signature from next system f fault format d constant u e headed bad = absurd format
fault_in_rule bytes (first ∷ others) number signature from next system f fault format d constant u e headed bad =
    let forms : List Form = first ∷ others in
    let declarations = d.up_to.declarations in
    let before = u.up_to.rules in
    let r = run bytes (codes "rule") (drop (next + 1) forms) in
    let rest : drop from forms ≡ (before ++ f ∷ r.front) ++ r.back =
    u.up_to.is ∙ ap (λ gs. before ++ gs) e ∙ ap (λ gs. before ++ f ∷ gs) r.is ∙ append_one before r.front r.back f in
    let parts : FallsInto bytes forms first declarations (before ++ f ∷ r.front) r.back = record {
      is = ap (λ gs. first ∷ gs) (d.up_to.is ∙ ap (λ gs. declarations ++ gs) rest);
      declare = d.up_to.headed;
      declared = subst (BeginsOtherwise bytes (codes "fun")) rest d.ended;
      rule = AllByRecursion-append (IsHeaded bytes (codes "rule")) before (f ∷ r.front) u.up_to.headed (headed, r.headed);
      ruled = r.otherwise;
    } in
    let place : next ≡ length declarations + length before + 1 = let a = u.up_to.count in let b = d.up_to.count in omega arith in
    let count : next - from ≡ length before = let a = u.up_to.count in omega arith in
    let bad_there : IsBadRule bytes number signature (length before) next f fault =
    subst (λ n. IsBadRule bytes number signature n next f fault) count
    (subst (λ s. IsBadRule bytes number s (next - from) next f fault) u.same
    (subst (λ n. IsBadRule bytes n system.signature (next - from) next f fault) (systems_count bytes forms number signature from next system u) bad)) in
    InRule first number declarations (before ++ f ∷ r.front) r.back before r.front f signature u.given fault parts format d.up_to.declares constant refl
    u.up_to.are_rules (subst (λ i. IsBadRule bytes number signature (length before) i f fault) place bad_there)

pub so_far_in_rule : (bytes : List ℕ) (forms : List Form) (number : ℕ) (signature : Signature) (from next : ℕ) (system : PatternSystem) (f : Form)
    → BeginsWithFormat bytes forms number → AreDeclared bytes forms signature from → HasConstant signature
    → HasRulesUpTo bytes forms number signature from next system → drop next forms ≡ f ∷ drop (next + 1) forms
    → HasBothSides bytes (length system.rules) system.signature (next - from) f → IsFaultlessSoFar bytes forms
so_far_in_rule bytes forms number signature from next system f format d constant u e both =
    let count : next - from ≡ length u.given =
    (let a = u.up_to.count in omega (arith, AreRules-length bytes number signature u.up_to.rules u.given u.up_to.are_rules)) in
    AtRule number signature from next u.given f format d constant u.up_to e
    (subst (λ n. HasBothSides bytes number signature n f) count
    (subst (λ s. HasBothSides bytes number s (next - from) f) u.same
    (subst (λ n. HasBothSides bytes n system.signature (next - from) f) (systems_count bytes forms number signature from next system u) both)))

same_system : (system : PatternSystem) (signature : Signature) (rules : List (List Pair)) → system.signature ≡ signature
    → system.rules ≡ rules → system ≡ record { signature = signature; rules = rules }
same_system system signature rules a b =
    let P : Signature → PatternSystem = λ s. record { signature = s; rules = system.rules } in
    let Q : List (List Pair) → PatternSystem = λ rs. record { signature = signature; rules = rs } in
    ap P a ∙ ap Q b

pub is_problem : (bytes : List ℕ) (forms : List Form) (number : ℕ) (signature : Signature) (from next : ℕ) (system : PatternSystem)
    → BeginsWithFormat bytes forms number → AreDeclared bytes forms signature from → HasConstant signature
    → HasRulesUpTo bytes forms number signature from next system
    → BeginsOtherwise bytes (codes "rule") (drop next forms) → (s : System) × IsProblem bytes forms s next × (system ≡ pattern_system s)
is_problem bytes [] number signature from next system format d constant u ended = absurd format
is_problem bytes (first ∷ others) number signature from next system format d constant u ended =
    let forms : List Form = first ∷ others in
    let s : System = record { signature = signature; rules = u.lists } in
    let is_it : IsProblem bytes forms s next = record {
      first = first;
      declarations = d.up_to.declarations;
      rules = u.up_to.rules;
      behind = drop next forms;
      parts = record {
        is = ap (λ gs. first ∷ gs) (d.up_to.is ∙ ap (λ gs. d.up_to.declarations ++ gs) u.up_to.is);
        declare = d.up_to.headed;
        declared = subst (BeginsOtherwise bytes (codes "fun")) u.up_to.is d.ended;
        rule = u.up_to.headed;
        ruled = ended;
      };
      format = subst (IsFormat bytes first) (sym u.systems) format;
      declares = d.up_to.declares;
      constant = constant;
      given = u.given;
      are_rules = subst (λ n. AreRules bytes n signature u.up_to.rules u.given) (sym u.systems) u.up_to.are_rules;
      sorted = u.sorted;
      few = u.up_to.few;
      next_is = let a = u.up_to.count in let b = d.up_to.count in omega arith;
    } in
    (s, is_it, same_system system signature _ u.same u.pairs)

-- the number of the next form is at most the number of forms
pub next-le : (bytes : List ℕ) (forms : List Form) (number : ℕ) (signature : Signature) (from next : ℕ) (system : PatternSystem)
    → BeginsWithFormat bytes forms number → AreDeclared bytes forms signature from → HasRulesUpTo bytes forms number signature from next system
    → next ≤ length forms
next-le bytes [] number signature from next system format d u = absurd format
next-le bytes (first ∷ others) number signature from next system format d u =
    let forms : List Form = first ∷ others in
    let declarations = d.up_to.declarations in
    let rules = u.up_to.rules in
    let whole : others ≡ declarations ++ (rules ++ drop next forms) = d.up_to.is ∙ ap (λ gs. declarations ++ gs) u.up_to.is in
    let count : length others ≡ length declarations + length (rules ++ drop next forms) =
    ap length whole ∙ length-append declarations (rules ++ drop next forms) in
    let a = u.up_to.count in
    let b = d.up_to.count in
    omega (arith, length-append rules (drop next forms))
