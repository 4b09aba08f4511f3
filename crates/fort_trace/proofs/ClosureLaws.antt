-- The steps of the closures, one by one.
use Rattle.std.proofs.Common.{◌≡◌, ℕ, zero, suc, ◌+◌, ◌<◌, Bool, false, if◌then◌else◌, List, [], ◌∷◌, ◌++◌, map, take, length, get_or, true, refl, ap, sym, ◌∙◌, subst, append_assoc, append-nil}
use Rattle.std.specs.declared.alloc.Global.{Global}
use Rattle.std.specs.declared.vec.Vec.{Vec}
use Rattle.std.specs.List.{list_any}
use Rattle.std.proofs.lemmas.List.{map-append, take_more}
use Rattle.std.proofs.lemmas.Simd.{map-map}
use Rattle.fort_theory.specs.Patterns.{PatternSystem, IsSystem}
use Rattle.fort_theory.specs.Cores.{Core}
use Rattle.fort_alike.specs.Atoms.{kind_for}
use Rattle.fort_alike.specs.Alike.{is_reaching}
use Rattle.fort_certificate_theory.specs.Certificates as certificates
use Rattle.fort_alike.specs.ListedClosures.{Which, Star, Conv, Pair as Item, relation_of, asks}
use Rattle.fort_certificate_theory.specs.Dues.{DueStep, OfClosure, closure_due, closures_due}
use Rattle.fort_certificate_theory.specs.Made.{MadeSoFar, with_closure}
use Rattle.fort_certificate_theory.specs.Checked.{AreSteps, NoSteps, MoreSteps}
use Rattle.fort_certificate_theory.specs.Written.{IsWrittenClosure, IsWrittenStep}
use Rattle.fort_certificate_theory.proofs.StepLists.{steps_append}
use Rattle.fort_certificate_theory.proofs.WrittenSteps.{written_closure}
use Rattle.fort_findings.specs.declared.closure.ClosureEntry.{ClosureEntry}
use Rattle.fort_steps.specs.declared.step.Step.{Step}
use Rattle.fort_steps.specs.declared.step.Step.TheVariants.{Closure}
use Rattle.fort_findings.specs.FindingView.{as_which, as_pair}
use Rattle.fort_steps.specs.StepView.{as_step}
use Rattle.fort_trace.proofs.PassesLaws.{closure_items}
use Rattle.fort_engine.specs.declared.closures.IndexClosure.{IndexClosure}
use Rattle.fort_engine.specs.Closures.{name_of, closure_asked, closures_asked, ListsItsPasses, AreClosures}
use Rattle.fort_trace.specs.Recording.{AddsSteps, IsOneMore}

-- what the step of a closure is about
abbrev pub step_for : IndexClosure → DueStep
step_for c = OfClosure (as_which c.which) c.index

abbrev named_step : Which × ℕ → DueStep
named_step name = OfClosure name.0 name.1

one_asked : (parts : List Core) (i : ℕ) (which : Which) → map named_step (closure_asked parts i which) ≡ closure_due parts i which
one_asked parts i which = by (list_any (asks which i) parts)
  where
    by : (b : Bool) → map named_step (if b then ((which, i) ∷ []) else []) ≡ (if b then (OfClosure which i ∷ []) else [])
    by true = refl
    by false = refl

-- the closures that are asked for are those whose steps are due
asked_due : (parts : List Core) (n i : ℕ) → map named_step (closures_asked parts n i) ≡ closures_due parts n i
asked_due parts zero i = refl
asked_due parts (suc n) i =
    let rest = closures_asked parts n (suc i) in
    let conv = closure_asked parts i Conv in
    map-append named_step (closure_asked parts i Star) (conv ++ rest)
    ∙ (ap (λ ds. ds ++ map named_step (conv ++ rest)) (one_asked parts i Star)
    ∙ ap (λ ds. closure_due parts i Star ++ ds) (map-append named_step conv rest
    ∙ (ap (λ ds. ds ++ map named_step rest) (one_asked parts i Conv) ∙ ap (λ ds. closure_due parts i Conv ++ ds) (asked_due parts n (suc i)))))

pub closures_are_due : (system : PatternSystem) (parts : List Core) (cs : List IndexClosure) → AreClosures system parts cs → map step_for cs ≡ closures_due parts (length system.rules) 1
closures_are_due system parts cs are =
    sym (map-map named_step name_of cs) ∙ (ap (map named_step) are.names_are ∙ asked_due parts (length system.rules) 1)

-- a closure tells a reduction
reading : (which : Which) → is_reaching (kind_for (relation_of which)) ≡ true
reading Star = refl
reading Conv = refl

IsWrittenClosure-entries : (system : PatternSystem) → IsSystem system → (c : IndexClosure) → ListsItsPasses system c
    → IsWrittenClosure system (as_which c.which) c.index (map as_pair c.entries.items)
IsWrittenClosure-entries system is c passes =
    let own = passes (reading (as_which c.which)) in
    let passed = own.2 in
    subst (IsWrittenClosure system (as_which c.which) c.index) (sym passed.written) (closure_items system is (as_which c.which) c.index own.0 own.1 passed.found passed.passes)

-- a step at the end
pub one_more : (old new : List Step) (s : Step) → new ≡ old ++ s ∷ [] → IsOneMore old (as_step s) new
one_more old new s e = ap (map as_step) e ∙ map-append as_step old (s ∷ [])

module _ (system : PatternSystem) (parts : List Core) where
  pub AddsSteps-none : (made : MadeSoFar) (due : List DueStep) (steps : List Step) → due ≡ [] → AddsSteps system parts made due steps steps
  AddsSteps-none made due steps e = record {
    added = [];
    last = made;
    all = sym (append-nil (map as_step steps));
    done = subst (λ (ds : List DueStep). AreSteps (IsWrittenStep system parts) made ds [] made) (sym e) NoSteps;
  }

  pub AddsSteps-append : (made : MadeSoFar) (ds es : List DueStep) (old mid new : List Step) → AddsSteps system parts made ds old mid → ((m : MadeSoFar) → AddsSteps system parts m es mid new)
      → AddsSteps system parts made (ds ++ es) old new
  AddsSteps-append made ds es old mid new h k =
      let n = k h.last in
      record {
        added = h.added ++ n.added;
        last = n.last;
        all = n.all ∙ (ap (λ xs. xs ++ n.added) h.all ∙ append_assoc (map as_step old) h.added n.added);
        done = steps_append (IsWrittenStep system parts) made h.last n.last ds es h.added n.added h.done n.done;
      }

  AddsSteps-closure : (made : MadeSoFar) (which : Which) (index : ℕ) (items : List Item) (old new : List Step) → IsWrittenClosure system which index items
      → IsOneMore old (certificates.Closure which index items) new → AddsSteps system parts made (OfClosure which index ∷ []) old new
  AddsSteps-closure made which index items old new written more = record {
    added = certificates.Closure which index items ∷ [];
    last = with_closure made which index items;
    all = more;
    done = MoreSteps refl (written_closure system parts made which index items written.rules written.rules_are written.passes) NoSteps;
  }

  -- one more closure
  pub AddsSteps-more : IsSystem system → (made : MadeSoFar) (cs : List IndexClosure) (i : ℕ) (c : IndexClosure) (copied : Vec ClosureEntry Global) (old mid new : List Step)
      → i < length cs → c ≡ get_or cs i c → copied.items ≡ c.entries.items → new ≡ mid ++ Closure c.which c.index copied ∷ [] → AreClosures system parts cs
      → AddsSteps system parts made (map step_for (take i cs)) old mid → AddsSteps system parts made (map step_for (take (i + 1) cs)) old new
  AddsSteps-more is made cs i c copied old mid new low at same more are h =
      let grown : map step_for (take (i + 1) cs) ≡ map step_for (take i cs) ++ step_for c ∷ [] =
      ap (map step_for) (take_more cs i c low ∙ ap (λ x. take i cs ++ x ∷ []) (sym at)) ∙ map-append step_for (take i cs) (c ∷ []) in
      let passes : ListsItsPasses system c = subst (ListsItsPasses system) (sym at) (are.passed i c low) in
      let written : IsWrittenClosure system (as_which c.which) c.index (map as_pair copied.items) =
      subst (λ (es : List ClosureEntry). IsWrittenClosure system (as_which c.which) c.index (map as_pair es)) (sym same) (IsWrittenClosure-entries system is c passes) in
      let one : IsOneMore mid (certificates.Closure (as_which c.which) c.index (map as_pair copied.items)) new =
      one_more mid new (Closure c.which c.index copied) more in
      subst (λ (ds : List DueStep). AddsSteps system parts made ds old new) (sym grown)
      (AddsSteps-append made (map step_for (take i cs)) (step_for c ∷ []) old mid new h
      (λ m. AddsSteps-closure m (as_which c.which) c.index (map as_pair copied.items) mid new written one))
