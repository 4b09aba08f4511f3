-- The answer to a core formula tells the least terms that satisfy the formula, or that there are none.
use Rattle.std.specs.Prelude.{◌≡◌, ℕ, List, [], ◌∷◌, ◌++◌, map, length, Bool, true, false, Some, refl}
use Rattle.std.proofs.Common.{inl, sym, ap, subst, ◌∙◌, arith, append-nil}
use Rattle.std.proofs.lemmas.List.{length-map}
use Rattle.std.proofs.lemmas.List.Elements.{All-nil}
use Rattle.fort_theory.specs.Trees.{Tree}
use Rattle.fort_theory.specs.Signatures.{Signature, IsGround}
use Rattle.fort_theory.specs.Sides.{System}
use Rattle.fort_theory.specs.Patterns.{PatternSystem, pattern_system}
use Rattle.fort_logic.specs.Formulas.{Name, Formula}
use Rattle.fort_logic.specs.FreeNames.{free_names}
use Rattle.fort_tables.specs.Entries.{Entry, AreNodes}
use Rattle.fort_tables.specs.Tables.{listed_table}
use Rattle.fort_lockstep.specs.declared.dta.Dta.{Dta}
use Rattle.fort_tables.specs.TupleOrder.{NotAfter}
use Rattle.fort_tables.specs.LeastTuple.{IsLeastAccepted, AcceptsNone}
use Rattle.fort_witness.specs.Answers.{last_tuple, IsWitness}
use Rattle.fort_parts.specs.PartAnswers.{OfValue, OfTable}
use Rattle.fort_answers.specs.Lines.{positive, negative, witness_line, none_line}
use Rattle.fort_answers.specs.Requests.{Text}
use Rattle.fort_answers.specs.WitnessAnswer.{WitnessVerdict, Found, NotFound}
use Rattle.fort_answers.specs.Witnesses.{free_trees, AreWitnesses, bindings}
use Rattle.fort_engine.specs.declared.answer.Last.{Last}
use Rattle.fort_engine.specs.declared.answer.Last.TheVariants.{Truth as Value, Auto}
use Rattle.fort_engine.specs.AnswerView.{as_answer}
use Rattle.fort_run.specs.Ready.{IsLawful, IsAnsweredBy, IsDecidedBy}
use Rattle.fort_run.specs.Witnesses.{AreLastTerms}
use Rattle.fort_answer_laws.proofs.TermTuples.{terms_in, witnesses-count}
use Rattle.fort_questions.proofs.FormulaRefusals.{no_items}
use Rattle.fort_run.proofs.TableWitnesses.{columns-names, table-columns, least-satisfy, none-satisfy}
use Rattle.fort_run.proofs.WitnessTruth.{said-witnesses, witnesses-said}

no_bindings : (sig : Signature) (names : List Name) → bindings sig names [] ≡ []
no_bindings sig [] = refl
no_bindings sig (x ∷ xs) = refl

-- a last answer that is a table
pub of_table : (f : Formula) (system : PatternSystem) (terms : List Tree) (last : Last) (table : Dta) → last ≡ Auto table
    → IsDecidedBy f system terms last → IsAnsweredBy f system terms (OfTable (listed_table table))
of_table f system terms last table is decided = subst (λ a. IsAnsweredBy f system terms (as_answer a)) is decided

-- ---- without columns

module _ (p : System) (lawful : IsLawful p) (f : Formula) (terms : List Tree) (last : Last)
    (decided : IsDecidedBy f (pattern_system p) terms last) (b : Bool) (is : last ≡ Value b) (s : ℕ) (t : Text) where
  own : IsAnsweredBy f (pattern_system p) terms (OfValue b)
  own = subst (λ a. IsAnsweredBy f (pattern_system p) terms (as_answer a)) is decided

  closed : length (free_names f) ≡ 0
  closed = sym (columns-names terms f) ∙ ap length own.answers.over

  none-after : (us : List Tree) → AreWitnesses p terms f us → NotAfter [] (map Some us)
  none-after us are = inl (ap (map Some) (sym (no_items us (witnesses-count p terms f us are ∙ closed))))

  pub value-found : b ≡ true → s ≡ positive → t ≡ witness_line → WitnessVerdict p terms f s t
  value-found e status_is text_is =
      Found [] (record { are = witnesses-said p lawful f terms (OfValue b) own [] (sym closed) (All-nil (IsGround p.signature)) e; least = none-after })
      (record {
        same_status = status_is;
        same_text = text_is ∙ sym (ap (λ w. witness_line ++ w) (no_bindings p.signature (free_names f)) ∙ append-nil witness_line);
      })

  pub value-not_found : b ≡ false → s ≡ negative → t ≡ none_line → WitnessVerdict p terms f s t
  value-not_found e status_is text_is =
      NotFound
      (λ m ground given h.
      let ts = free_trees f m in
      let are : AreWitnesses p terms f ts = record { assignment = m; grounded = ground; given = given; holds = h; are = refl } in
      let absurdity : true ≡ false = sym (said-witnesses p lawful f terms (OfValue b) own ts are) ∙ e in cc)
      (record { same_status = status_is; same_text = text_is })

-- ---- a table

module _ (p : System) (lawful : IsLawful p) (f : Formula) (terms : List Tree) (last : Last)
    (decided : IsDecidedBy f (pattern_system p) terms last) (table : Dta) (is : last ≡ Auto table) (s : ℕ) (t : Text) where
  pub table-not_found : AcceptsNone (listed_table table) → s ≡ negative → t ≡ none_line → WitnessVerdict p terms f s t
  table-not_found none status_is text_is =
      NotFound (none-satisfy p lawful f terms (listed_table table) (of_table f (pattern_system p) terms last table is decided) none)
      (record { same_status = status_is; same_text = text_is })

  pub table-found : (nodes : List Entry) (ts : List Tree) → IsWitness (listed_table table) nodes → AreLastTerms p.signature (free_names f) nodes ts
      → s ≡ positive → t ≡ witness_line ++ bindings p.signature (free_names f) ts → WitnessVerdict p terms f s t
  table-found nodes ts w are status_is text_is =
      Found ts
      (least-satisfy p lawful f terms (listed_table table) (of_table f (pattern_system p) terms last table is decided) ts
      (subst (IsLeastAccepted (listed_table table)) are.terms w.least))
      (record { same_status = status_is; same_text = text_is })

-- the terms of the last node
pub last_terms_of : (f : Formula) (system : PatternSystem) (terms : List Tree) (last : Last) (table : Dta) (nodes : List Entry) → last ≡ Auto table
    → IsDecidedBy f system terms last → IsWitness (listed_table table) nodes → (ts : List Tree) × AreLastTerms system.signature (free_names f) nodes ts
last_terms_of f system terms last table nodes is decided w =
    let own = of_table f system terms last table is decided in
    let columns = table-columns f system terms (listed_table table) own in
    let one = terms_in (listed_table table).signature (last_tuple nodes) w.least.full w.least.tuple.grounded in
    let there = subst (λ (s : Signature). AreNodes s (listed_table table).columns nodes) own.answers.over.signature w.are in (
      one.0,
      record {
        are = subst (λ n. AreNodes system.signature n nodes) columns there;
        within = omega (arith, w.some);
        terms = one.2;
        count = sym (length-map one.0 Some) ∙ (sym (ap length one.2) ∙ (w.least.tuple.width ∙ columns));
      },
    )
