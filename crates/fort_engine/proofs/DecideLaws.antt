-- How far deciding has come: the answers that are needed are kept, and no part so far is over the cap.
use Rattle.std.specs.Prelude.{◌≡◌, ◌<◌, ◌≤◌, ◌+◌, ℕ, List, [], ◌∷◌, ◌++◌, length, get_or, Option, None, Some, refl}
use Rattle.std.proofs.Common.{ap, sym, ◌∙◌, subst, arith, inr, ⊎_elim, length-append}
use Rattle.std.proofs.lemmas.Bool.{cases_eq}
use Rattle.std.proofs.lemmas.List.{get_or_push, get_or_append_left}
use Rattle.std.proofs.lemmas.List.Elements.{Contains-get_or}
use Rattle.fort_theory.specs.Signatures.{Signature}
use Rattle.fort_theory.specs.Patterns.{PatternSystem}
use Rattle.fort_theory.specs.Cores as core
use Rattle.fort_theory.specs.Cores.{Core}
use Rattle.fort_theory.specs.PartLists.{AreParts}
use Rattle.fort_theory.specs.Parts.{postorder}
use Rattle.fort_theory.specs.Kinds.{kind_of}
use Rattle.fort_theory.specs.PatternStructures.{pattern_structure}
use Rattle.fort_theory.proofs.EachOnceUnique.{AreEachOnce-unique}
use Rattle.fort_tables.specs.Tuples.{Tuple, IsTuple}
use Rattle.fort_tables.specs.Entries.{Entry, tuples_of}
use Rattle.fort_formulas.specs.KindView.{as_kind}
use Rattle.fort_parts.specs.PartColumns.{columns_of}
use Rattle.fort_tables.specs.Agreement.{Agreement}
use Rattle.fort_parts.specs.AlikeParts.{IsOverBy, IsFirstOverBy}
use Rattle.fort_parts.specs.PartAnswers.{IsAnswerTo}
use Rattle.fort_parts.specs.DecidedCores.{IsDecided, IsOperandOf}
use Rattle.fort_parts.specs.RightAnswers.{HasTooManyBy}
use Rattle.fort_parts.specs.ReducedParts.{AlikeWith}
use Rattle.fort_parts.proofs.PartOrder.{IsEarlier, operand_earlier}
use Rattle.fort_parts.proofs.PartFacts.{IsOverSystem-part, BindsFree-part, columns_of-few}
use Rattle.fort_outline.specs.declared.outline.Outline.{Outline}
use Rattle.fort_outline.specs.Outlines.{AreLastUses, parts_in, IsOutlineOf}
use Rattle.fort_engine.specs.declared.answer.Last.{Last}
use Rattle.fort_engine.specs.declared.answer.Limit.{Limit}
use Rattle.fort_engine.specs.declared.options.Options.{Options}
use Rattle.fort_engine.specs.AnswerView.{as_answer, KeepsCapAt, IsLimit}
use Rattle.fort_engine.specs.Kept.{IsRight, IsOverCap, IsKeptOverCap, HasRightAnswer, IsSoFar}
use Rattle.fort_engine.specs.Deciding.{IsFit, HasOperands, IsNextPart}
use Rattle.fort_outline.proofs.RootLaws.{length-cores_of}
use Rattle.fort_engine.proofs.OperandLaws.{IsRight-taken}

pub IsFit-part : (system : PatternSystem) (f : Core) (parts : List Core) (k : ℕ) → IsDecided system f → AreParts f parts → k < length parts
    → IsFit system (get_or parts k core.True)
IsFit-part system f parts k d are l =
    let h = get_or parts k core.True in
    let among = (are.same h).1 (Contains-get_or parts k core.True l) in
    record {
      over = IsOverSystem-part system f h d.over among;
      binders = BindsFree-part f h d.well_formed.binders among;
      few = columns_of-few f h d.well_formed among;
      roots = λ many. d.well_formed.narrow (record { part = h; among = among; wide = inr many });
    }

pub IsSoFar-none : (system : PatternSystem) (options : Options) (parts : List Core) (uses : List ℕ) → IsSoFar system options parts uses 0 []
IsSoFar-none system options parts uses = record {
  kept_are = record { count = refl; each = λ j l m. absurd (omega arith) };
  before = λ j l over. absurd (omega arith);
  kept_within = λ j l over. absurd (omega arith);
}

module _ (system : PatternSystem) (options : Options) (f : Core) (parts : List Core) (are : AreParts f parts) (root : ℕ) (uses : List ℕ) (last : AreLastUses parts root uses) (k : ℕ)
    (kept : List (Option Last)) (far : IsSoFar system options parts uses k kept) where
  pub HasOperands-part : k < length parts → HasOperands system options parts kept (get_or parts k core.True)
  HasOperands-part l g o =
      let early = operand_earlier f parts are k l g o in
      record {
        earlier = subst (λ n. IsEarlier parts n g) (sym far.kept_are.count) early;
        right =
            λ j m e.
            let low : j < k = omega (arith, far.kept_are.count) in
            let needed : k ≤ get_or uses j 0 = last.each j (omega arith) k l (subst (λ z. IsOperandOf z (get_or parts k core.True)) (sym e) o) in
            subst (λ z. HasRightAnswer system options z (get_or kept j None)) e (far.kept_are.each j low needed);
        kept_within = λ over. far.kept_within early.place early.before (subst (λ z. IsKeptOverCap system options z) (sym early.is) over);
      }

  pub IsSoFar-more : (answer : Last) (less : List (Option Last)) → IsRight system options (get_or parts k core.True) (as_answer answer)
      → (IsOverCap system options (get_or parts k core.True) → ⊥) → (IsKeptOverCap system options (get_or parts k core.True) → ⊥) → length less ≡ length (kept ++ Some answer ∷ [])
      → ((j : ℕ) → j < length (kept ++ Some answer ∷ []) → k < get_or uses j 0 → get_or less j None ≡ get_or (kept ++ Some answer ∷ []) j None)
      → IsSoFar system options parts uses (k + 1) less
  IsSoFar-more answer less right within told count needed =
      let long : length (kept ++ Some answer ∷ []) ≡ k + 1 = omega (arith, length-append kept (Some answer ∷ []), far.kept_are.count) in
      record {
        kept_are = record {
          count = count ∙ long;
          each =
              λ j l m.
              let same = needed j (omega arith) (omega arith) in
              subst (HasRightAnswer system options (get_or parts j core.True)) (sym same) (at j l m);
        };
        before = λ j l over. ⊎_elim (λ e. within (subst (λ i. IsOverCap system options (get_or parts i core.True)) e over)) (λ other. far.before j (omega arith) over) (cases_eq j k);
        kept_within = λ j l over. ⊎_elim (λ e. told (subst (λ i. IsKeptOverCap system options (get_or parts i core.True)) e over)) (λ other. far.kept_within j (omega arith) over) (cases_eq j k);
      }
    where
      at : (j : ℕ) → j < k + 1 → k + 1 ≤ get_or uses j 0 → HasRightAnswer system options (get_or parts j core.True) (get_or (kept ++ Some answer ∷ []) j None)
      at j l m =
          ⊎_elim
          (λ e.
          let here : get_or (kept ++ Some answer ∷ []) j None ≡ Some answer = get_or_push kept (Some answer) None j (far.kept_are.count ∙ sym e) in
          record { answer = answer; is = here; right = subst (λ i. IsRight system options (get_or parts i core.True) (as_answer answer)) (sym e) right })
          (λ other.
          let low : j < k = omega arith in
          subst (HasRightAnswer system options (get_or parts j core.True)) (sym (get_or_append_left kept (Some answer ∷ []) None j (omega (arith, far.kept_are.count))))
          (far.kept_are.each j low (omega arith)))
          (cases_eq j k)

  -- at the end

  pub HasRightAnswer-root : k ≡ length parts → root < length parts → get_or parts root core.True ≡ f → HasRightAnswer system options f (get_or kept root None)
  HasRightAnswer-root end l is =
      subst (λ z. HasRightAnswer system options z (get_or kept root None)) is (far.kept_are.each root (omega arith) (omega (arith, last.whole_is)))

  pub none_over : k ≡ length parts → KeepsCapAt system options.reduces f options.cap
  none_over end ps j also l over =
      let same : ps ≡ parts = AreEachOnce-unique (postorder f) ps parts also are in
      far.before j (subst (λ n. j < n) (ap length same ∙ sym end) l) (subst (λ xs. IsOverCap system options (get_or xs j core.True)) same over)

  -- the first part over the cap

  pub IsLimit-part : (limit : Limit) → k < length parts → limit.part ≡ k → as_kind limit.kind ≡ kind_of (get_or parts k core.True)
      → HasTooManyBy system (AlikeWith options.reduces system) (get_or parts k core.True) options.cap limit.tuples → IsLimit system options.reduces f options.cap limit
  IsLimit-part limit l place kind many =
      let over = IsOverBy-many system (AlikeWith options.reduces system) (get_or parts k core.True) options.cap limit.tuples many in
      record {
        first =
            λ ps also.
            let same : parts ≡ ps = AreEachOnce-unique (postorder f) parts ps are also in
            subst (λ xs. IsFirstOverBy system (AlikeWith options.reduces system) xs options.cap limit.part) same
            (subst (λ i. IsFirstOverBy system (AlikeWith options.reduces system) parts options.cap i) (sym place) (record { within = l; over = over; before = far.before }));
        kind =
            λ ps also.
            let same : parts ≡ ps = AreEachOnce-unique (postorder f) parts ps are also in
            subst (λ xs. as_kind limit.kind ≡ kind_of (get_or xs limit.part core.True)) same
            (subst (λ i. as_kind limit.kind ≡ kind_of (get_or parts i core.True)) (sym place) kind);
        tuples =
            λ ps also.
            let same : parts ≡ ps = AreEachOnce-unique (postorder f) parts ps are also in
            subst (λ xs. HasTooManyBy system (AlikeWith options.reduces system) (get_or xs limit.part core.True) options.cap limit.tuples) same
            (subst (λ i. HasTooManyBy system (AlikeWith options.reduces system) (get_or parts i core.True) options.cap limit.tuples) (sym place) many);
      }
    where
      has_columns : (sig : Signature) (n : ℕ) (t : Tuple) → IsTuple sig n t → 0 < n
      has_columns sig n [] is = absurd is.present
      has_columns sig n (x ∷ t) is = omega (arith, is.width)

      IsOverBy-many : (system : PatternSystem) (like : Core → Agreement) (g : Core) (cap : ℕ) (nodes : List Entry) → HasTooManyBy system like g cap nodes → IsOverBy system like g cap
      IsOverBy-many system like g cap nodes many = record {
        some = has_columns system.signature (length (columns_of g)) (get_or (tuples_of nodes) 0 []) (many.unlike.tuples 0 (omega (arith, many.unlike.many)));
        over = (tuples_of nodes, many.unlike);
      }

-- part k of an outline is next
pub IsNextPart-at : (system : PatternSystem) (f : Core) (o : Outline) → IsDecided system f → IsOutlineOf f o → (options : Options) (k : ℕ) (kept : List (Option Last))
    → IsSoFar system options (parts_in o) o.last_uses.items k kept → k < length o.roots.items → IsNextPart system options o k kept
IsNextPart-at system f o decided laid options k kept far l =
    let low : k < length (parts_in o) = omega (arith, length-cores_of o.roots.items) in
    record {
      formula = f;
      decided = decided;
      laid = laid;
      within = l;
      count = far.kept_are.count;
      fit = IsFit-part system f (parts_in o) k decided laid.parts low;
      operands = HasOperands-part system options f (parts_in o) laid.parts o.whole o.last_uses.items laid.uses k kept far low;
    }

pub IsAnswerTo-taken : (system : PatternSystem) (options : Options) (f : Core) (taken : Option Last) (answer : Last) → HasRightAnswer system options f taken → taken ≡ Some answer
    → IsAnswerTo (pattern_structure system) f (as_answer answer)
IsAnswerTo-taken system options f taken answer has is = (IsRight-taken system options f taken answer has is).answers
