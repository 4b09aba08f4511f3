-- Examples: a certificate that is in order, the same with another verdict, and one with a merge; what is due; a closure that is right, and one that is open.
use Rattle.std.proofs.Common.{◌≡◌, ℕ, zero, suc, ◌<◌, ◌≤◌, List, [], ◌∷◌, length, take, get_or, Bool, true, false, None, Some, refl, ap, sym, ◌∙◌, arith, subst, inl, ⊎_elim}
use Rattle.std.specs.Prelude.{Contains}
use Rattle.fort_theory.specs.Signatures.{Signature, symbol}
use Rattle.fort_theory.specs.Patterns.{Pattern, Any, At, NoPattern, MorePatterns, PatternSystem}
use Rattle.fort_theory.specs.PatternOrder.{AreSubpatternsInOrder}
use Rattle.fort_theory.proofs.Members.{Contains-head, Contains-cons_cases, Contains-none}
use Rattle.fort_theory.specs.Cores as core
use Rattle.fort_theory.specs.Cores.{Core}
use Rattle.fort_theory.specs.PartLists.{AreParts}
use Rattle.fort_theory.proofs.EachOnceLaws.{AreEachOnce-nil, AreEachOnce-new}
use Rattle.fort_tables.specs.Tuples.{TupleSymbol}
use Rattle.fort_tables.specs.Entries.{Entry, entry, IsEntry}
use Rattle.fort_tables.specs.Tables.{Table, listed_table}
use Rattle.fort_tables.specs.Merges.{class_of, count_of, leader, led, merged, IsMerge}
use Rattle.fort_tables.specs.MergeOutcomes.{AreEntriesOf}
use Rattle.fort_tables.specs.OperationTruth.{complemented}
use Rattle.fort_parts.specs.PartAnswers.{OfValue, OfTable}
use Rattle.fort_alike.specs.ListedClosures.{Star, Conv, Why, Kids, Pair as Item}
use Rattle.fort_certificate_theory.specs.Certificates.{Step, Part, Merge, Value, Certificate}
use Rattle.fort_certificate_theory.specs.Outcomes.{Fine, Fails, Open, Verdict}
use Rattle.fort_certificate_theory.specs.ClosureSteps.{ClosureRules, IsListed, AreListed, Follows, AnyRight, AnyLeft, ByArguments, ByRule, FollowsAt, IsWithin, IsFounded, IsClosureOutcome, IsRight, NotClosed}
use Rattle.fort_certificate_theory.specs.PartSteps.{IsRightAt, IsRightPart, part_table}
use Rattle.fort_certificate_theory.specs.MergeSteps.{listed_merge}
use Rattle.fort_certificate_theory.specs.Dues.{DueStep, OfClosure, OfPart, OfMerge, OfCounts, dues, dues_of}
use Rattle.fort_certificate_theory.specs.Dues as due
use Rattle.fort_certificate_theory.specs.Made.{MadeSoFar, nothing_made, with_answer, OfStep, Turned}
use Rattle.fort_certificate_theory.specs.PartRules.{Local, normal_local}
use Rattle.fort_certificate_theory.specs.Checked.{IsFine, FinePart, FineMerge, FineValue, AreSteps, NoSteps, MoreSteps, InOrder, OtherVerdict, Rejected, HasOutcome, IsInOrder}

abbrev constants : Signature
constants = symbol (97 ∷ []) 0 ∷ []

abbrev system : PatternSystem
system = record { signature = constants; rules = [] ∷ [] }

abbrev normal : Core
normal = core.Leaf (core.Normal 1 0)

abbrev formula : Core
formula = core.Not (core.Exists 0 (core.Not normal))

abbrev parts : List Core
parts = normal ∷ core.Not normal ∷ core.Exists 0 (core.Not normal) ∷ formula ∷ []

absent : (x y : Core) (ys : List Core) → (x ≡ y → ⊥) → (Contains ys y → ⊥) → Contains (x ∷ ys) y → ⊥
absent x y ys head tail c = ⊎_elim head tail (Contains-cons_cases x ys y c)

are_parts : AreParts formula parts
are_parts =
    let a = core.Not normal in
    let b = core.Exists 0 a in
    let one = AreEachOnce-new [] [] normal AreEachOnce-nil (Contains-none normal) in
    let two = AreEachOnce-new (normal ∷ []) (normal ∷ []) a one (absent normal a [] (λ e. cc) (Contains-none a)) in
    let three = AreEachOnce-new (normal ∷ a ∷ []) (normal ∷ a ∷ []) b two (absent normal b (a ∷ []) (λ e. cc) (absent a b [] (λ e. cc) (Contains-none b))) in
    AreEachOnce-new (normal ∷ a ∷ b ∷ []) (normal ∷ a ∷ b ∷ []) formula three
    (absent normal formula (a ∷ b ∷ []) (λ e. cc) (absent a formula (b ∷ []) (λ e. cc) (absent b formula [] (λ e. cc) (Contains-none formula))))

all_due : dues (λ k. false) 1 parts ≡ (OfPart 0 ∷ due.OfValue 2 ∷ due.OfValue 3 ∷ [])
all_due = refl

abbrev local : Local
local = normal_local system 1 []

abbrev only : Entry
only = entry (Some 0 ∷ []) []

abbrev label : List ℕ
label = local.rule.step (Some 0 ∷ []) []

abbrev table : Table
table = listed_table (part_table local.rule local.accepting (only ∷ []) (0 ∷ []) (label ∷ []))

-- there is one entry
is_only : (ps : List ℕ) (f : TupleSymbol) (ks : List ℕ) → IsEntry constants 1 ps (entry f ks) → only ≡ entry f ks
is_only ps [] ks h = absurd (omega (arith, h.symbol.width))
is_only ps (None ∷ []) ks h = absurd h.symbol.present
is_only ps (Some zero ∷ []) [] h = refl
is_only ps (Some zero ∷ []) (k ∷ ks) h = absurd (let e : suc (length ks) ≡ 0 = h.count in omega arith)
is_only ps (Some (suc g) ∷ []) ks h = absurd (let l : suc g < 1 = h.symbol.symbols.0 in omega arith)
is_only ps (x ∷ y ∷ f) ks h = absurd (let e : suc (suc (length f)) ≡ 1 = h.symbol.width in omega arith)

is_entry : (ps : List ℕ) → IsEntry constants 1 ps only
is_entry ps = record {
  symbol = record { width = refl; present = tt; symbols = (omega arith, tt) };
  count = refl;
  within = λ j l. absurd (omega arith);
  presence = λ j l. absurd (omega arith);
}

right : IsRightPart local.rule (0 ∷ []) (only ∷ []) (label ∷ [])
right = record {
  right = record {
    within = omega arith;
    count = refl;
    states = refl;
    right = λ k d l.
        let first : 0 ≡ k = omega arith in
        subst (λ (i : ℕ). IsRightAt local.rule (0 ∷ []) (only ∷ []) (label ∷ []) i (get_or (only ∷ []) i d)) first (record {
          due = record {
            is_entry = is_entry [];
            missing = λ c. Contains-none only c;
            first = λ x h other. inl (is_only [] x.symbol x.kids h);
          };
          known = omega arith;
          label = refl;
        });
  };
  all = λ x h. (0, omega arith, is_only (1 ∷ []) x.symbol x.kids h);
}

no_patterns : AreSubpatternsInOrder [] []
no_patterns = record {
  same = λ p. ((λ c. absurd (Contains-none p c)), (λ w. absurd (Contains-none w.0 w.1)));
  ordered = λ i j l m. absurd (omega arith);
}

abbrev made : MadeSoFar
made = with_answer nothing_made 0 (OfTable table)

steps : AreSteps (IsFine system parts) nothing_made (dues_of (Part 0 (0 ∷ []) ∷ Value 2 false ∷ Value 3 true ∷ []) 1 parts) (Part 0 (0 ∷ []) ∷ Value 2 false ∷ Value 3 true ∷ []) (with_answer (with_answer made 2 (OfValue false)) 3 (OfValue true))
steps =
    MoreSteps refl (FinePart local (only ∷ []) (label ∷ []) (record { lefts = []; patterns = no_patterns; is = refl }) right)
    (MoreSteps refl (FineValue (complemented table, Turned table refl (OfStep 0 (omega arith, refl) refl refl), refl))
    (MoreSteps refl (FineValue (false, OfStep 2 (omega arith, refl) refl refl, refl)) NoSteps))

-- its header is form 2
abbrev certificate : Bool → Certificate
certificate verdict = record { first = 2; verdict = verdict; steps = Part 0 (0 ∷ []) ∷ Value 2 false ∷ Value 3 true ∷ [] }

pub example_in_order : IsInOrder system formula (certificate true) true
example_in_order = record { parts = parts; parts_are = are_parts; checked = InOrder (with_answer (with_answer made 2 (OfValue false)) 3 (OfValue true)) steps refl }

pub example_rejected : HasOutcome system formula (certificate false) (Rejected 2 0 Verdict)
example_rejected = record { parts = parts; parts_are = are_parts; checked = OtherVerdict (with_answer (with_answer made 2 (OfValue false)) 3 (OfValue true)) true steps refl (λ e. cc) }

-- ---- a merge behind the table, which has one state

abbrev merged_steps : List Step
merged_steps = Part 0 (0 ∷ []) ∷ Merge 0 (0 ∷ []) ∷ Value 2 false ∷ Value 3 true ∷ []

merge_due : dues_of merged_steps 1 parts ≡ (OfPart 0 ∷ OfMerge 0 ∷ due.OfValue 2 ∷ due.OfValue 3 ∷ [])
merge_due = refl

-- behind another step a merge isn't due
merge_elsewhere : dues_of (Part 0 (0 ∷ []) ∷ Value 2 false ∷ Merge 0 (0 ∷ []) ∷ Value 3 true ∷ []) 1 parts ≡ (OfPart 0 ∷ due.OfValue 2 ∷ due.OfValue 3 ∷ [])
merge_elsewhere = refl

merge : IsMerge table (0 ∷ [])
merge = record {
  count = refl;
  numbered = λ q l. let z : 0 ≡ q = omega arith in subst (λ (i : ℕ). class_of (0 ∷ []) i ≤ count_of (take i (0 ∷ []))) z (omega arith);
  columns = λ q l. let z : 0 ≡ q = omega arith in subst (λ (i : ℕ). get_or table.presences i 0 ≡ get_or table.presences (leader (0 ∷ []) i) 0) z refl;
  acceptance = λ q l. let z : 0 ≡ q = omega arith in subst (λ (i : ℕ). table.accepting i ≡ table.accepting (leader (0 ∷ []) i)) z refl;
  whole = λ e h. subst (λ (x : Entry). class_of (0 ∷ []) (table.target x) ≡ class_of (0 ∷ []) (table.target (led (0 ∷ []) x))) (is_only table.presences e.symbol e.kids h) refl;
}

entries_are : AreEntriesOf (merged table (0 ∷ [])) (only ∷ [])
entries_are = record {
  order = record {
    are = λ k d l.
        let z : 0 ≡ k = omega arith in
        subst (λ (i : ℕ). IsEntry constants 1 (merged table (0 ∷ [])).presences (get_or (only ∷ []) i d)) z (is_entry (merged table (0 ∷ [])).presences);
    order = λ i j d l m. absurd (omega arith);
  };
  all = λ x h. (0, omega arith, is_only (merged table (0 ∷ [])).presences x.symbol x.kids h);
}

abbrev left : Table
left = listed_table (listed_merge table (0 ∷ []) (only ∷ []))

abbrev made_merged : MadeSoFar
made_merged = with_answer (with_answer (with_answer made 0 (OfTable left)) 2 (OfValue false)) 3 (OfValue true)

steps_merged : AreSteps (IsFine system parts) nothing_made (dues_of merged_steps 1 parts) merged_steps made_merged
steps_merged =
    MoreSteps refl (FinePart local (only ∷ []) (label ∷ []) (record { lefts = []; patterns = no_patterns; is = refl }) right)
    (MoreSteps refl (FineMerge table (only ∷ []) refl merge entries_are)
    (MoreSteps refl (FineValue (complemented left, Turned left refl (OfStep 0 (omega arith, refl) refl refl), refl))
    (MoreSteps refl (FineValue (false, OfStep 2 (omega arith, refl) refl refl, refl)) NoSteps)))

pub example_merged : IsInOrder system formula (record { first = 2; verdict = true; steps = merged_steps }) true
example_merged = record { parts = parts; parts_are = are_parts; checked = InOrder made_merged steps_merged refl }

-- ---- what is due

-- "from each term infinitely many are reached"
abbrev reached : Core
reached = core.Leaf (core.Related core.Star 1 0 1)

abbrev many_parts : List Core
many_parts =
    reached
    ∷ core.Infinite 1 reached
    ∷ core.Not (core.Infinite 1 reached)
    ∷ core.Exists 0 (core.Not (core.Infinite 1 reached))
    ∷ core.Not (core.Exists 0 (core.Not (core.Infinite 1 reached)))
    ∷ []

many_due : dues (λ k. false) 1 many_parts ≡ (OfClosure Star 1 ∷ OfPart 0 ∷ OfCounts 1 ∷ OfPart 1 ∷ due.OfValue 3 ∷ due.OfValue 4 ∷ [])
many_due = refl

-- of two indices, each with a conversion, one with a strict reduction
two_due : dues (λ k. false) 2 (core.Leaf (core.Related core.Conv 1 0 1) ∷ core.Leaf (core.Related core.Conv 2 0 1) ∷ core.Leaf (core.Related core.Plus 2 0 1) ∷ [])
    ≡ (OfClosure Conv 1 ∷ OfClosure Star 2 ∷ OfClosure Conv 2 ∷ OfPart 0 ∷ OfPart 1 ∷ OfPart 2 ∷ [])
two_due = refl

-- ---- a closure: a constant, and the rule from it to the term over it

abbrev constant : Pattern
constant = At 0 NoPattern

abbrev over : Pattern
over = At 1 (MorePatterns constant NoPattern)

abbrev rules : ClosureRules
rules = record { pairs = (constant, over) ∷ []; rights = constant ∷ over ∷ []; lefts = constant ∷ [] }

abbrev item : Item
item = record { p = 0; q = 0; why = Kids }

-- without items the first pair is open
example_open : IsClosureOutcome rules [] (Fails 0 Open)
example_open =
    NotClosed 0 0 (record { count = omega arith; within = λ i d l. absurd (omega arith); founded = λ i d l. absurd (omega arith) }) (omega arith) (omega arith)
    (Kids, ByArguments tt) (λ c. Contains-none (0, 0) c) (λ p q l m n f. absurd (omega arith))

-- the term over the constant isn't listed, and so doesn't reach the constant
not_listed : (x y : Pattern) → AreListed rules (item ∷ []) x y → x ≡ constant
not_listed x y h =
    ⊎_elim
    (λ e. let p : 0 ≡ h.p = ap (λ (z : ℕ × ℕ). z.0) e in sym h.right.1 ∙ ap (λ i. get_or rules.rights i Any) (sym p))
    (λ n. absurd (Contains-none (h.p, h.q) n))
    (Contains-cons_cases (0, 0) [] (h.p, h.q) h.listed)

over_apart : (why : Why) (x y : Pattern) → x ≡ over → y ≡ constant → Follows rules (item ∷ []) why x y → ⊥
over_apart why x y a b AnyRight = cc
over_apart why x y a b AnyLeft = cc
over_apart why x y a b (ByArguments h) = cc
over_apart why x y a b (ByRule pair l e s t) = let z : over ≡ constant = sym a ∙ not_listed x pair.0 s in cc

-- with one item, of the constant and itself, it is right
example_closure : IsClosureOutcome rules (item ∷ []) Fine
example_closure =
    IsRight (record {
      count = omega arith;
      within = λ i d l.
          let z : 0 ≡ i = omega arith in
          subst (λ (j : ℕ). IsWithin rules (get_or (item ∷ []) j d)) z (record { right = omega arith; left = omega arith; rule = tt });
      founded = λ i d l.
          let z : 0 ≡ i = omega arith in
          subst (λ (j : ℕ). IsFounded rules (take j (item ∷ [])) (get_or (item ∷ []) j d)) z (ByArguments tt);
    }) closed
  where
    closed : (p q : ℕ) → p < 2 → q < 1 → FollowsAt rules (item ∷ []) p q → IsListed (item ∷ []) p q
    closed zero zero l m f = Contains-head (0, 0) []
    closed zero (suc q) l m f = absurd (omega arith)
    closed (suc zero) zero l m f = absurd (over_apart f.0 over constant refl refl f.1)
    closed (suc zero) (suc q) l m f = absurd (omega arith)
    closed (suc (suc p)) q l m f = absurd (omega arith)
