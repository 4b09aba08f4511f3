-- The lines of a sample, one after another, and the answer that they are.
use Rattle.std.proofs.Common.{◌≡◌, ℕ, List, [], ◌∷◌, ◌++◌, false, refl, sym, ap, subst, ◌∙◌, append-nil, append_assoc}
use Rattle.std.specs.Prelude.{codes, decimal}
use Rattle.fort_theory.specs.Sides.{System}
use Rattle.fort_theory.specs.Patterns.{PatternSystem, pattern_system}
use Rattle.fort_logic.specs.Formulas.{Property, Has}
use Rattle.fort_formula_grammar.specs.Tokens.{property_text}
use Rattle.fort_theory.specs.Cores.{Core}
use Rattle.fort_formulas.specs.KindView.{as_kind}
use Rattle.fort_words.specs.declared.request.Options.{Options}
use Rattle.fort_answers.specs.Requests as theirs
use Rattle.fort_answers.specs.Requests.{Text}
use Rattle.fort_answers.specs.Lines.{positive, limit_line}
use Rattle.fort_answers.specs.FormulaAnswer.{Closed}
use Rattle.fort_answers.specs.SystemAnswer.{PassesCap}
use Rattle.fort_answers.specs.DecideAnswer as decide
use Rattle.fort_answers.specs.MadeProblem.{made_system}
use Rattle.fort_answers.specs.SampleAnswer.{sample_cap, sample_options, sample_line, sample_properties, PropertyVerdict, Over, Yes, No, IsPropertyLine, ArePropertyLines, SampleAnswer}
use Rattle.fort_answers.specs.PossibleRequests.{IsSampleSize}
use Rattle.fort_answers.proofs.MadeLaws.{made_system-constant, made_system-separated}
use Rattle.fort_questions.specs.declared.question.Question.TheVariants.{Truth}
use Rattle.fort_run.specs.declared.reply.Reply.{Reply}
use Rattle.fort_run.specs.Posed.{IsPosed, SettlesCore}
use Rattle.fort_run.specs.Ready.{IsLawful}
use Rattle.fort_run.specs.Samples.{AddsLine, AddsLines}
use Rattle.fort_run.specs.Verdicts.{IsVerdict, Limits, Says, Stops}
use Rattle.fort_run.proofs.Deciding.{passes}

-- the options of every sample, as the program has them
abbrev own_options : Options
own_options = record { states = sample_cap; reduces = false }

-- whether a property holds is what its line says
property_says : (p : System) (q : Property) (reply : Reply) → IsVerdict (Truth own_options) p tt [] (Has q 1) reply → PropertyVerdict p q reply.text.items
property_says p q reply (Limits options asked limit is tells) =
    let same : options ≡ sample_options = cc in
    Over limit.part (as_kind limit.kind) (subst (λ o. PassesCap p [] (Has q 1) o limit.part (as_kind limit.kind)) same (passes p [] (Has q 1) options limit is))
    (tells.line_is ∙ ap (λ (o : theirs.Options). limit_line limit.part (as_kind limit.kind) o.states) same)
property_says p q reply (Says keeps (decide.Yes holds are) none) = Yes keeps holds are.same_text
property_says p q reply (Says keeps (decide.No fails are) none) = No keeps fails are.same_text
property_says p q reply (Stops options family other rules limit stops) = absurd cc

-- the name, a blank and the answer are a line
pub line_added : (system : PatternSystem) (q : Property) (c : Core) (reply : Reply) (t0 t1 t2 t3 name : Text)
    → SettlesCore (Truth own_options) system tt c (Has q 1) reply → IsPosed Closed (Has q 1) system [] c
    → name ≡ property_text q → t1 ≡ t0 ++ name → t2 ≡ t1 ++ codes " " → t3 ≡ t2 ++ reply.text.items → AddsLine system q t0 t3
line_added system q c reply t0 t1 t2 t3 name settles posed named first second third = λ p lawful same. (
  property_text q ++ (codes " " ++ reply.text.items),
  third ∙ (ap (λ t. t ++ reply.text.items) (second ∙ ap (λ t. t ++ codes " ") (first ∙ ap (λ t. t0 ++ t) named)) ∙ regroup t0 (property_text q) (codes " ") reply.text.items),
  record { verdict = reply.text.items; says = property_says p q reply (settles p [] lawful same posed); is = refl },
)
  where
    regroup : (a b c d : Text) → ((a ++ b) ++ c) ++ d ≡ a ++ (b ++ (c ++ d))
    regroup a b c d = simp append_assoc

-- ---- lines one after another

ArePropertyLines-push : (p : System) (qs : List Property) (q : Property) (lines line : Text) → ArePropertyLines p qs lines → IsPropertyLine p q line
    → ArePropertyLines p (qs ++ q ∷ []) (lines ++ line)
ArePropertyLines-push p [] q lines line are is = (line, [], is, refl, ap (λ t. t ++ line) are ∙ sym (append-nil line))
ArePropertyLines-push p (r ∷ qs) q lines line (first, rest, here, behind, split) is =
    (first, rest ++ line, here, ArePropertyLines-push p qs q rest line behind is, ap (λ t. t ++ line) split ∙ append_assoc first rest line)

pub more_lines : (system : PatternSystem) (qs : List Property) (q : Property) (t0 t1 t2 : Text) → AddsLines system qs t0 t1 → AddsLine system q t1 t2
    → AddsLines system (qs ++ q ∷ []) t0 t2
more_lines system qs q t0 t1 t2 before here = λ p lawful same.
    let b = before p lawful same in
    let h = here p lawful same in
    (b.0 ++ h.0, h.1 ∙ (ap (λ t. t ++ h.0) b.1 ∙ append_assoc t0 b.0 h.0), ArePropertyLines-push p qs q b.0 h.0 b.2 h.2)

-- ---- the answer

pub sample_answer : (n : ℕ) (system : PatternSystem) (t0 t1 t2 t3 : Text) → IsSampleSize n → system ≡ pattern_system (made_system n) → t0 ≡ codes "sample "
    → t1 ≡ t0 ++ decimal n → t2 ≡ t1 ++ 10 ∷ [] → AddsLines system sample_properties t2 t3 → SampleAnswer n positive t3
sample_answer n system t0 t1 t2 t3 size made first second third added =
    let lawful : IsLawful (made_system n) = record { constant = made_system-constant n size.low; separated = made_system-separated n } in
    let a = added (made_system n) lawful made in
    let head : t2 ≡ sample_line n = third ∙ ap (λ t. t ++ 10 ∷ []) (second ∙ ap (λ t. t ++ decimal n) first) in
    record { lines = a.0; are_lines = a.2; are = record { same_status = refl; same_text = a.1 ∙ ap (λ t. t ++ a.0) head } }
