-- Which answers are right: by a formula's labels, of atoms, of a complement, of a projection, of "infinitely many".
use Rattle.std.specs.Prelude.{◌≡◌, ◌<◌, ℕ, ◌-◌, List, length, Contains, Bool, true, Option, None, Some, is_some, IfSome, Ok}
use Rattle.std.specs.declared.alloc.Global.{Global}
use Rattle.std.specs.declared.vec.Vec.{Vec}
use Rattle.std.proofs.Common.{not, refl, ap, sym, ◌∙◌, subst, arith, true≢false}
use Rattle.fort_theory.specs.Trees.{Tree}
use Rattle.fort_theory.specs.Signatures.{Signature}
use Rattle.fort_theory.specs.Patterns.{PatternSystem}
use Rattle.fort_theory.proofs.Members.{Contains-none}
use Rattle.fort_theory.specs.Expressions.{Expression}
use Rattle.fort_theory.specs.Contexts.{HoleNumber, HolePlace}
use Rattle.fort_theory.specs.Cores as core
use Rattle.fort_theory.specs.Parts.{is_free, AreColumns}
use Rattle.fort_theory.specs.PatternStructures.{pattern_structure}
use Rattle.fort_tables.specs.Tables.{Table, IsListed, listed_table}
use Rattle.fort_tables.specs.Labels.{Labelling, HasMoreLabels, IsTableOf}
use Rattle.fort_tables.specs.LabelRules.{label_of, IsTableBy}
use Rattle.fort_alike.specs.Atoms.{relation_atom, normal_atom}
use Rattle.fort_alike.specs.ExpressionAlike.{expression_atom}
use Rattle.fort_tables.specs.Projections.{some_below, project_rule, project_accepts}
use Rattle.fort_tables.specs.OperationTruth.{complemented}
use Rattle.fort_tables.specs.ManyLabels.{TellsMany, many_rule, many_accepts, many_value}
use Rattle.fort_context_closure.specs.declared.atom_labels.AtomLabels.{AtomLabels}
use Rattle.fort_context_closure.specs.AtomLabelsView.{column_count, rule_by, label_by, accepted_by, TellsAlike, AcceptsTrue, TellsAlikeAtTerm, AcceptsTerm, TellsAlikeAtExpression, AcceptsExpression}
use Rattle.fort_context_closure.specs.SignedAtoms.{columns_by}
use Rattle.fort_lockstep.specs.declared.dta.Dta.{Dta}
use Rattle.fort_explore.specs.declared.table.Explored.{Explored}
use Rattle.fort_explore.specs.ListedTargets.{AreListedTargets}
use Rattle.fort_parts.specs.PartColumns.{columns_of, place_in}
use Rattle.fort_parts.specs.PartAnswers.{OfValue, OfTable, IsAnswerTo}
use Rattle.fort_parts.specs.RightAnswers.{IsRightBy}
use Rattle.fort_parts.proofs.PartColumnLaws.{AreColumns-columns_of, columns_of-Normal, columns_of-IsTerm, column-from_free}
use Rattle.fort_parts.proofs.StepAnswers.{IsRightBy-value, IsRightBy-labels, IsOverBy-closed, IsOverBy-few, place_bound, count_bound, LabelsTell-projected, IsAnswerTo-projected, IsAnswerTo-closed, LabelsTell-many, IsAnswerTo-many, IsAnswerTo-many_closed}
use Rattle.fort_parts.proofs.AtomResults.{IsAnswerTo-Atom, IsAnswerTo-Expression, IsAnswerTo-Nf, IsAnswerTo-Is, LabelsTellAlike-Nf, LabelsTellAlike-Is}
use Rattle.fort_parts.specs.ReducedParts.{AlikeWith}
use Rattle.fort_parts.specs.ToldParts.{ToldWith}
use Rattle.fort_parts.proofs.ToldLaws.{LabelsTell-with, LabelsTell-Leaf, IsOverBy-told, IsRightBy-Not-value, IsRightBy-Not-table, IsOverBy-Not, IsOverBy-Not-told}
use Rattle.fort_engine.specs.declared.answer.Last.{Last}
use Rattle.fort_engine.specs.declared.answer.Last.TheVariants.{Truth, Auto}
use Rattle.fort_engine.specs.declared.answer.Decided.{Decided}
use Rattle.fort_engine.specs.declared.options.Options.{Options}
use Rattle.fort_engine.specs.AnswerView.{as_answer}
use Rattle.fort_engine.specs.Kept.{IsRight, IsOverCap, IsKeptOverCap}
use Rattle.fort_engine.specs.Deciding.{IsDecision, AreLabelsFor}
use Rattle.fort_engine.specs.Found.{IsDecidedBy, IsKeptAs, IsAnswerMade}

listed_targets : (own : Option (Vec ℕ Global)) (ts : List ℕ) → is_some own ≡ true → IfSome own (λ l. l.items ≡ ts) → (list : Vec ℕ Global) × (own ≡ Some list) × (list.items ≡ ts)
listed_targets None ts there all = absurd (true≢false (sym there))
listed_targets (Some list) ts there all = (list, refl, all)

-- a truth
pub IsDecision-truth : (system : PatternSystem) (options : Options) (f : core.Core) (d : Decided) (b : Bool) → d.answer ≡ Truth b → d.counts ≡ None
    → IsAnswerTo (pattern_structure system) f (OfValue b) → IsDecision system options f (Ok d)
IsDecision-truth system options f d b is none answers = record {
  ok = subst (λ a. IsRight system options f (as_answer a)) (sym is) (IsRightBy-value system (ToldWith options.reduces system) f b answers);
  plain = none;
  made = λ _. subst (IsAnswerMade system options f d) (sym is) tt;
  within = IsOverBy-closed system (AlikeWith options.reduces system) f options.cap answers.over;
  kept_within = IsOverBy-closed system (ToldWith options.reduces system) f options.cap answers.over;
  over = tt;
}

-- a table by the formula's labels is right as it is made
made_right : (system : PatternSystem) (reduces : Bool) (f : core.Core) (columns : ℕ) (label : Labelling) (accepting : List ℕ → Bool) (sig : Signature) (table : Table) → sig ≡ system.signature
    → AreLabelsFor system reduces f columns label accepting → IsTableOf sig columns label accepting table → IsTableBy sig columns label accepting table
    → IsRightBy system (AlikeWith reduces system) f (OfTable table)
made_right system reduces f columns label accepting sig table same are of by =
    IsRightBy-labels system (AlikeWith reduces system) f label accepting table are.alike
    (subst (λ k. IsTableOf system.signature k label accepting table) are.count (subst (λ s. IsTableOf s columns label accepting table) same of))
    (are.answers table (subst (λ s. IsTableBy s columns label accepting table) same by))

-- what is kept of it
pub IsDecision-labels : (system : PatternSystem) (options : Options) (f : core.Core) (columns : ℕ) (label : Labelling) (accepting : List ℕ → Bool) (sig : Signature)
    (x : Explored) (kept : Dta) (classes : Option (Vec ℕ Global)) → sig ≡ system.signature → AreLabelsFor system options.reduces f columns label accepting → IsTableOf sig columns label accepting (listed_table x.table)
    → IsTableBy sig columns label accepting (listed_table x.table) → AreListedTargets options.lists x → (HasMoreLabels sig columns label options.cap → ⊥)
    → (IsRightBy system (AlikeWith options.reduces system) f (OfTable (listed_table x.table)) → IsRight system options f (OfTable (listed_table kept)))
    → IsListed x.table → length x.table.finals ≡ length x.table.presences → IsKeptAs options.reduces x.table classes kept
    → IsDecision system options f (Ok (record { answer = Auto kept; counts = None; targets = x.targets; classes = classes }))
IsDecision-labels system options f columns label accepting sig x kept classes same are of by listed few right lawful finals as_made =
    let like = AlikeWith options.reduces system in
    let made = made_right system options.reduces f columns label accepting sig (listed_table x.table) same are of by in
    let within : IsOverCap system options f → ⊥ =
    IsOverBy-few system like f label options.cap are.alike
    (subst (λ n. HasMoreLabels system.signature n label options.cap → ⊥) are.count (subst (λ s. HasMoreLabels s columns label options.cap → ⊥) same few)) in
    record {
      plain = refl;
      made = λ asked.
          let own = listed_targets x.targets x.table.targets (listed.asked ∙ asked) listed.all in
          record {
            made = x.table;
            lawful = lawful;
            finals = finals;
            right = made;
            list = own.0;
            listed = own.1;
            targets_are = own.2;
            kept_as = as_made;
          };
      ok = right made;
      within = within;
      kept_within = λ over. within (IsOverBy-told options.reduces system f (OfTable (listed_table x.table)) options.cap made over);
      over = tt;
    }

-- atoms

abbrev pub IsOfLabels : PatternSystem → Bool → core.Core → AtomLabels → Type 0
IsOfLabels system reduces f l = AreLabelsFor system reduces f (rule_by system.signature l).columns (label_by system.signature l) (accepted_by system.signature l)

pub AreLabelsFor-Nf : (system : PatternSystem) (reduces : Bool) (index x : ℕ) (l : AtomLabels) → column_count l ≡ 1 → TellsAlike system.signature (normal_atom system index) l
    → AcceptsTrue system.signature (normal_atom system index) l → IsOfLabels system reduces (core.Leaf (core.Normal index x)) l
AreLabelsFor-Nf system reduces index x l count tells accepts =
    let one = columns_by system.signature l ∙ count in
    let label = label_by system.signature l in
    record {
      count = one ∙ sym (ap length (columns_of-Normal index x));
      alike = LabelsTell-Leaf reduces system (core.Normal index x) label (LabelsTellAlike-Nf system label index x tells);
      answers =
          λ table by.
          IsAnswerTo-Nf system label (accepted_by system.signature l) table index x (λ t is full. accepts t is)
          (subst (λ n. IsTableBy system.signature n (label_by system.signature l) (accepted_by system.signature l) table) one by);
    }

pub AreLabelsFor-Is : (system : PatternSystem) (reduces : Bool) (x : ℕ) (term : Tree) (l : AtomLabels) → column_count l ≡ 1 → TellsAlikeAtTerm system.signature term l
    → AcceptsTerm system.signature term l → IsOfLabels system reduces (core.Leaf (core.IsTerm x term)) l
AreLabelsFor-Is system reduces x term l count tells accepts =
    let one = columns_by system.signature l ∙ count in
    let label = label_by system.signature l in
    record {
      count = one ∙ sym (ap length (columns_of-IsTerm x term));
      alike = LabelsTell-Leaf reduces system (core.IsTerm x term) label (LabelsTellAlike-Is system label x term tells);
      answers =
          λ table by.
          IsAnswerTo-Is system label (accepted_by system.signature l) table x term (λ t is full. accepts t is)
          (subst (λ n. IsTableBy system.signature n (label_by system.signature l) (accepted_by system.signature l) table) one by);
    }

pub AreLabelsFor-Atom : (system : PatternSystem) (reduces : Bool) (rel : core.Rel) (index x y : ℕ) (l : AtomLabels)
    → ((columns : List ℕ) → AreColumns (core.Leaf (core.Related rel index x y)) columns → column_count l ≡ length columns)
    → ((columns : List ℕ) → AreColumns (core.Leaf (core.Related rel index x y)) columns → TellsAlike system.signature (relation_atom system rel index x y columns) l)
    → ((columns : List ℕ) → AreColumns (core.Leaf (core.Related rel index x y)) columns → AcceptsTrue system.signature (relation_atom system rel index x y columns) l)
    → IsOfLabels system reduces (core.Leaf (core.Related rel index x y)) l
AreLabelsFor-Atom system reduces rel index x y l count tells accepts =
    let f = core.Leaf (core.Related rel index x y) in
    let are = AreColumns-columns_of f in
    let same = columns_by system.signature l ∙ count (columns_of f) are in
    record {
      count = same;
      alike = LabelsTell-Leaf reduces system (core.Related rel index x y) (label_by system.signature l) (tells (columns_of f) are);
      answers =
          λ table by.
          IsAnswerTo-Atom system (label_by system.signature l) (accepted_by system.signature l) table rel index x y (λ t is full. accepts (columns_of f) are t is)
          (subst (λ n. IsTableBy system.signature n (label_by system.signature l) (accepted_by system.signature l) table) same by);
    }

pub AreLabelsFor-Expression : (system : PatternSystem) (reduces : Bool) (e : Expression) (number : HoleNumber) (place : HolePlace) (x y : ℕ) (l : AtomLabels)
    → ((columns : List ℕ) → AreColumns (core.Leaf (core.InContext e number place x y)) columns → column_count l ≡ length columns)
    → ((columns : List ℕ) → AreColumns (core.Leaf (core.InContext e number place x y)) columns → TellsAlikeAtExpression (expression_atom system e number place x y columns) l)
    → ((columns : List ℕ) → AreColumns (core.Leaf (core.InContext e number place x y)) columns → AcceptsExpression (expression_atom system e number place x y columns) l)
    → IsOfLabels system reduces (core.Leaf (core.InContext e number place x y)) l
AreLabelsFor-Expression system reduces e number place x y l count tells accepts =
    let f = core.Leaf (core.InContext e number place x y) in
    let are = AreColumns-columns_of f in
    let same = columns_by system.signature l ∙ count (columns_of f) are in
    record {
      count = same;
      alike = LabelsTell-Leaf reduces system (core.InContext e number place x y) (label_by system.signature l) (tells (columns_of f) are);
      answers =
          λ table by.
          IsAnswerTo-Expression system (label_by system.signature l) (accepted_by system.signature l) table e number place x y (λ t is full. accepts (columns_of f) are t is)
          (subst (λ n. IsTableBy system.signature n (label_by system.signature l) (accepted_by system.signature l) table) same by);
    }

-- a complement

abbrev IsNegated : PatternSystem → Options → core.Core → Decided → Type 0
IsNegated system options f d = IsRight system options (core.Not f) (as_answer d.answer)

pub IsDecidedBy-Not-truth : (system : PatternSystem) (options : Options) (f : core.Core) (body : Last) (b : Bool) (d : Decided) → body ≡ Truth b → d.answer ≡ Truth (not b)
    → IsRight system options f (as_answer body) → IsDecidedBy system options (core.Not f) (IsNegated system options f) (Ok d)
IsDecidedBy-Not-truth system options f body b d is says right =
    let own : IsRight system options f (OfValue b) = subst (λ a. IsRight system options f (as_answer a)) is right in
    record {
      ok = subst (λ a. IsRight system options (core.Not f) (as_answer a)) (sym says) (IsRightBy-Not-value options.reduces system f b own);
      within = IsOverBy-closed system (AlikeWith options.reduces system) (core.Not f) options.cap own.answers.over;
      kept_within = IsOverBy-closed system (ToldWith options.reduces system) (core.Not f) options.cap own.answers.over;
      over = tt;
    }

pub IsDecidedBy-Not-table : (system : PatternSystem) (options : Options) (f : core.Core) (body : Last) (table turned : Dta) (d : Decided) → body ≡ Auto table
    → listed_table turned ≡ complemented (listed_table table) → d.answer ≡ Auto turned → IsRight system options f (as_answer body) → (IsKeptOverCap system options f → ⊥)
    → IsDecidedBy system options (core.Not f) (IsNegated system options f) (Ok d)
IsDecidedBy-Not-table system options f body table turned d is same says right told =
    let own : IsRight system options f (OfTable (listed_table table)) = subst (λ a. IsRight system options f (as_answer a)) is right in
    let whole = subst (λ t. IsRight system options (core.Not f) (OfTable t)) (sym same) (IsRightBy-Not-table options.reduces system f (listed_table table) own) in
    record {
      ok = subst (λ a. IsRight system options (core.Not f) (as_answer a)) (sym says) whole;
      within = λ over. told (IsOverBy-Not options.reduces system f options.cap over);
      kept_within = λ over. told (IsOverBy-Not-told options.reduces system f (OfTable (listed_table table)) options.cap own.answers over);
      over = tt;
    }

-- projections

pub bound_has_column : (system : PatternSystem) (options : Options) (n : ℕ) (f : core.Core) (body : Last) (b : Bool) → body ≡ Truth b → IsRight system options f (as_answer body)
    → is_free n f ≡ true → ⊥
bound_has_column system options n f body b is right among =
    let own : IsRight system options f (OfValue b) = subst (λ a. IsRight system options f (as_answer a)) is right in
    Contains-none n (subst (λ ns. Contains ns n) own.answers.over (column-from_free f n among))

pub IsDecision-closed : (system : PatternSystem) (options : Options) (n : ℕ) (f : core.Core) (body : Last) (table : Dta) (b : Bool) (d : Decided) → body ≡ Auto table
    → IsRight system options f (as_answer body) → is_free n f ≡ true → table.columns ≡ 1
    → b ≡ some_below (length table.presences) (listed_table table).accepting → d.answer ≡ Truth b → d.counts ≡ None → IsDecision system options (core.Exists n f) (Ok d)
IsDecision-closed system options n f body table b d is right among one says has none =
    let own : IsRight system options f (OfTable (listed_table table)) = subst (λ a. IsRight system options f (as_answer a)) is right in
    let whole : IsAnswerTo (pattern_structure system) (core.Exists n f) (OfValue b) =
    subst (λ v. IsAnswerTo (pattern_structure system) (core.Exists n f) (OfValue v)) (sym says)
    (IsAnswerTo-closed system n f (listed_table table) among (sym own.answers.over.columns_are ∙ one) own.answers) in
    IsDecision-truth system options (core.Exists n f) d b has none whole

pub bound_column : (n : ℕ) (f : core.Core) (columns : List ℕ) → columns ≡ columns_of f → is_free n f ≡ true → Contains columns n
bound_column n f columns are among = subst (λ ns. Contains ns n) (sym are) (column-from_free f n among)

pub bound_within : (system : PatternSystem) (options : Options) (n : ℕ) (f : core.Core) (table : Table) (columns : List ℕ) → columns ≡ columns_of f
    → IsRight system options f (OfTable table) → is_free n f ≡ true → place_in columns n < table.columns
bound_within system options n f table columns are right among =
    let low = place_bound n f among in
    let same : place_in columns n ≡ place_in (columns_of f) n = ap (λ ns. place_in ns n) are in
    omega (arith, right.answers.over.columns_are)

pub AreLabelsFor-Exists : (system : PatternSystem) (options : Options) (n : ℕ) (f : core.Core) (table own : Table) (columns : List ℕ) (c : ℕ) → own ≡ table → columns ≡ columns_of f
    → c ≡ place_in columns n → IsRight system options f (OfTable table) → is_free n f ≡ true → 1 < table.columns
    → AreLabelsFor system options.reduces (core.Exists n f) (own.columns - 1) (label_of (project_rule own c)) (project_accepts own)
AreLabelsFor-Exists system options n f table own columns c same are at right among others =
    let place : c ≡ place_in (columns_of f) n = at ∙ ap (λ ns. place_in ns n) are in
    let count : table.columns - 1 ≡ length (columns_of (core.Exists n f)) =
    omega (arith, count_bound n f among, right.answers.over.columns_are) in
    let some : 0 < length (columns_of (core.Exists n f)) = omega arith in
    subst (λ t. AreLabelsFor system options.reduces (core.Exists n f) (t.columns - 1) (label_of (project_rule t c)) (project_accepts t)) (sym same)
    (subst (λ k. AreLabelsFor system options.reduces (core.Exists n f) (table.columns - 1) (label_of (project_rule table k)) (project_accepts table)) (sym place)
    (record {
      count = count;
      alike = LabelsTell-with options.reduces system (core.Exists n f) (label_of (project_rule table (place_in (columns_of f) n)))
          (LabelsTell-projected system n f table among (ToldWith options.reduces system) right);
      answers =
          λ t by.
          IsAnswerTo-projected system n f table among right.answers t some
          (subst (λ k. IsTableBy system.signature k (label_of (project_rule table (place_in (columns_of f) n))) (project_accepts table) t) count by);
    }))

-- infinitely many

pub IsDecision-many_closed : (system : PatternSystem) (options : Options) (n : ℕ) (f : core.Core) (table : Table) (columns : List ℕ) (c : ℕ) (many : ℕ → Bool) (b : Bool) (d : Decided)
    → columns ≡ columns_of f → c ≡ place_in columns n → IsRight system options f (OfTable table) → is_free n f ≡ true → table.columns ≡ 1 → TellsMany table c many
    → b ≡ many_value table c many → d.answer ≡ Truth b → d.counts ≡ None → IsDecision system options (core.Infinite n f) (Ok d)
IsDecision-many_closed system options n f table columns c many b d are at right among one tells says has none =
    let place : c ≡ place_in (columns_of f) n = at ∙ ap (λ ns. place_in ns n) are in
    let whole : IsAnswerTo (pattern_structure system) (core.Infinite n f) (OfValue (many_value table (place_in (columns_of f) n) many)) =
    IsAnswerTo-many_closed system n f table many among (subst (λ k. TellsMany table k many) place tells) (sym right.answers.over.columns_are ∙ one) right.answers in
    let own : IsAnswerTo (pattern_structure system) (core.Infinite n f) (OfValue b) =
    subst (λ v. IsAnswerTo (pattern_structure system) (core.Infinite n f) (OfValue v)) (sym (says ∙ ap (λ k. many_value table k many) place)) whole in
    IsDecision-truth system options (core.Infinite n f) d b has none own

pub AreLabelsFor-Infinite : (system : PatternSystem) (options : Options) (n : ℕ) (f : core.Core) (table own : Table) (columns : List ℕ) (c d : ℕ) (many few : ℕ → Bool) → own ≡ table
    → columns ≡ columns_of f → c ≡ place_in columns n → d ≡ c → few ≡ many → IsRight system options f (OfTable table) → is_free n f ≡ true → 1 < table.columns
    → TellsMany table c many
    → AreLabelsFor system options.reduces (core.Infinite n f) (own.columns - 1) (label_of (many_rule own d few)) (many_accepts own)
AreLabelsFor-Infinite system options n f table own columns c d many few same are at also alike_many right among others tells =
    let place : c ≡ place_in (columns_of f) n = at ∙ ap (λ ns. place_in ns n) are in
    let there : TellsMany table (place_in (columns_of f) n) many = subst (λ k. TellsMany table k many) place tells in
    let count : table.columns - 1 ≡ length (columns_of (core.Infinite n f)) =
    omega (arith, count_bound n f among, right.answers.over.columns_are) in
    let some : 0 < length (columns_of (core.Infinite n f)) = omega arith in
    subst (λ t. AreLabelsFor system options.reduces (core.Infinite n f) (t.columns - 1) (label_of (many_rule t d few)) (many_accepts t)) (sym same)
    (subst (λ p. AreLabelsFor system options.reduces (core.Infinite n f) (table.columns - 1) (label_of (many_rule table d p)) (many_accepts table)) (sym alike_many)
    (subst (λ k. AreLabelsFor system options.reduces (core.Infinite n f) (table.columns - 1) (label_of (many_rule table k many)) (many_accepts table)) (sym (also ∙ place))
    (record {
      count = count;
      alike = LabelsTell-with options.reduces system (core.Infinite n f) (label_of (many_rule table (place_in (columns_of f) n) many))
          (LabelsTell-many system n f table many among there (ToldWith options.reduces system) right);
      answers =
          λ t by.
          IsAnswerTo-many system n f table many among there right.answers t some
          (subst (λ k. IsTableBy system.signature k (label_of (many_rule table (place_in (columns_of f) n) many)) (many_accepts table) t) count by);
    })))
