use Rattle.std.proofs.Common.{◌∙◌, ◌≤◌, map, length, sym, ap, subst, arith}
use Rattle.std.specs.Prelude.{All, IfOk, Result, Ok, Err}
use Rattle.std.proofs.lemmas.List.{length-map}
use Rattle.std.proofs.lemmas.Result.{IfOk-weaker}
use Rattle.fort_theory.specs.Signatures.{Signature}
use Rattle.fort_theory.specs.Patterns.{PatternSystem}
use Rattle.fort_formulas.specs.CoreView.{as_core}
use Rattle.fort_parts.specs.DecidedCores.{IsDecided}
use Rattle.fort_parts.specs.PartColumns.{columns_of}
use Rattle.fort_answers.specs.FamilyRules.{most_family_rules}
use Rattle.fort_answers.proofs.FamilySizes.{small_arities}
use Rattle.fort_synth.specs.FamilyView.{as_family_rule}
use Rattle.fort_synth.specs.SearchAnswers.{FitsRule, picked_system}
use Rattle.fort_run.specs.StatusView.{code_of}
use Rattle.fort_run.specs.Searches.{AreAllFalse, IsFirstOver, IsFirstTrue}
use Rattle.fort_run.proofs.Deciding.{closed_columns}
use Rattle.fort_run.proofs.FamilyVerdicts.{picked_candidate, decided_over, family_fits, picked_few, picked_signature, found_settles, none_settles, over_settles}
use Rattle.fort_run.proofs.synth.search.Goals as goal

-- of three clauses on a result
if_all : {X E : Type 0} (r : Result X E) (A B C P : X → Type 0) → ((x : X) → A x → B x → C x → P x) → IfOk r A → IfOk r B → IfOk r C → IfOk r P
if_all (Ok x) A B C P f a b c = f x a b c
if_all (Err e) A B C P f a b c = tt

pub first_true-requires-clause-fits : goal.first_true-requires-clause-fits
first_true-requires-clause-fits c =
    let sig = c.args.system.now.signature in
    let lawful = rw c.signature-signature.ensures.same at c.len-symbols.ensures.lawful in
    let listed = map as_family_rule c.args.rules.now in
    subst (λ s. All (FitsRule s) listed) (sym c.signature-signature.ensures.same)
    (family_fits sig (small_arities sig lawful) c.args.family.height c.requires.range.flat listed c.requires.are)

pub first_true-requires-clause-decided : goal.first_true-requires-clause-decided
first_true-requires-clause-decided c own picked =
    let sig = c.args.system.now.signature in
    let lawful = rw c.signature-signature.ensures.same at c.len-symbols.ensures.lawful in
    let core = as_core c.args.core.now in
    let posed = c.requires.posed in
    let listed = map as_family_rule c.args.rules.now in
    let candidate = picked_candidate sig c.args.family.height c.args.family.count listed c.requires.are own picked in
    subst (λ (s : Signature). IsDecided (picked_system s own) core) (sym c.signature-signature.ensures.same)
    (decided_over posed.0 c.args.system.now posed.1 core posed.2 c.requires.single (small_arities sig lawful) c.args.family.height c.args.family.count
    c.requires.range.flat c.requires.range.few own candidate)

pub first_true-requires-clause-closed : goal.first_true-requires-clause-closed
first_true-requires-clause-closed c =
    let posed = c.requires.posed in
    ap columns_of posed.2.is ∙ closed_columns posed.1 posed.0 posed.2.taken

pub found_reply-requires : goal.found_reply-requires
found_reply-requires c =
    let sig = c.args.system.now.signature in
    let lawful = rw c.signature-signature.ensures.same at c.len-symbols.ensures.lawful in
    let listed = map as_family_rule c.args.rules.now in
    let first : IsFirstTrue c.args.options (as_core c.args.core.now) sig listed c.args.family.count c.in-Ok-Some.found =
    subst (λ (s : Signature). IsFirstTrue c.args.options (as_core c.args.core.now) s listed c.args.family.count c.in-Ok-Some.found)
    c.signature-signature.ensures.same (rw c.in-Ok-Some.field-0-is at c.in-Ok-Some.ensures.found) in
    let signature_is = ap (λ (s : PatternSystem). s.signature) first.is ∙ picked_signature sig first.rules in
    rw c.in-Ok-Some.found-is (
      first.rules,
      first.is ∙ ap (λ t. picked_system t first.rules) (sym signature_is),
      picked_few sig (small_arities sig lawful) c.args.family.height c.requires.range.flat listed c.requires.are c.args.family.count first.rules first.comes.picked,
    )

pub stopped_reply-requires : goal.stopped_reply-requires
stopped_reply-requires c =
    let sig = c.args.system.now.signature in
    let lawful = rw c.signature-signature.ensures.same at c.len-symbols.ensures.lawful in
    let listed = map as_family_rule c.args.rules.now in
    let first : IsFirstOver c.args.options (as_core c.args.core.now) sig listed c.args.family.count c.in-Err-Decide.system c.in-Err-Decide.fault =
    subst (λ (s : Signature). IsFirstOver c.args.options (as_core c.args.core.now) s listed c.args.family.count c.in-Err-Decide.system c.in-Err-Decide.fault)
    c.signature-signature.ensures.same (rw c.in-Err-Decide.field-0-is at c.in-Err-Decide.ensures.over) in
    let signature_is = ap (λ (s : PatternSystem). s.signature) first.is ∙ picked_signature sig first.rules in (
      first.rules,
      first.is ∙ ap (λ t. picked_system t first.rules) (sym signature_is),
      picked_few sig (small_arities sig lawful) c.args.family.height c.requires.range.flat listed c.requires.are c.args.family.count first.rules first.comes.picked,
    )

pub returns-in-Ok-Some : goal.returns-in-Ok-Some
returns-in-Ok-Some c =
    let sig = c.args.system.now.signature in
    let lawful = rw c.signature-signature.ensures.same at c.len-symbols.ensures.lawful in
    let listed = map as_family_rule c.args.rules.now in
    let core = as_core c.args.core.now in
    let first : IsFirstTrue c.args.options core sig listed c.args.family.count c.in-Ok-Some.found =
    subst (λ (s : Signature). IsFirstTrue c.args.options core s listed c.args.family.count c.in-Ok-Some.found) c.signature-signature.ensures.same
    (rw c.in-Ok-Some.field-0-is at c.in-Ok-Some.ensures.found) in
    let few : length listed ≤ most_family_rules = let e = length-map c.args.rules.now as_family_rule in let own = c.requires.few in omega (arith, e, own) in
    if_all c.found_reply.result _ _ _ _ (λ r status text limit. found_settles c.args.options c.args.family c.requires.range c.args.system.now core c.requires.single
    (small_arities sig lawful) listed c.requires.are few r c.in-Ok-Some.found first status text limit)
    c.found_reply.ensures.status (rw c.in-Ok-Some.found-is at c.found_reply.ensures.text) c.found_reply.ensures.limit

pub returns-in-Ok-None : goal.returns-in-Ok-None
returns-in-Ok-None c =
    let sig = c.args.system.now.signature in
    let lawful = rw c.signature-signature.ensures.same at c.len-symbols.ensures.lawful in
    let listed = map as_family_rule c.args.rules.now in
    let core = as_core c.args.core.now in
    let all : AreAllFalse c.args.options core sig listed c.args.family.count =
    subst (λ (s : Signature). AreAllFalse c.args.options core s listed c.args.family.count) c.signature-signature.ensures.same
    (rw c.in-Ok-None.field-0-is at c.in-Ok-None.ensures.none) in
    let few : length listed ≤ most_family_rules = let e = length-map c.args.rules.now as_family_rule in let own = c.requires.few in omega (arith, e, own) in
    if_all c.line.result _ _ _ _ (λ r status text limit. none_settles c.args.options c.args.family c.requires.range c.args.system.now core c.requires.single
    (small_arities sig lawful) listed c.requires.are few r all (ap code_of status) text limit)
    c.line.ensures.status c.line.ensures.text c.line.ensures.limit

pub returns-in-Err-Decide : goal.returns-in-Err-Decide
returns-in-Err-Decide c =
    let sig = c.args.system.now.signature in
    let lawful = rw c.signature-signature.ensures.same at c.len-symbols.ensures.lawful in
    let listed = map as_family_rule c.args.rules.now in
    let core = as_core c.args.core.now in
    let first : IsFirstOver c.args.options core sig listed c.args.family.count c.in-Err-Decide.system c.in-Err-Decide.fault =
    subst (λ (s : Signature). IsFirstOver c.args.options core s listed c.args.family.count c.in-Err-Decide.system c.in-Err-Decide.fault)
    c.signature-signature.ensures.same (rw c.in-Err-Decide.field-0-is at c.in-Err-Decide.ensures.over) in
    let few : length listed ≤ most_family_rules = let e = length-map c.args.rules.now as_family_rule in let own = c.requires.few in omega (arith, e, own) in
    IfOk-weaker c.stopped_reply.result _ _ (λ r tells. over_settles c.args.options c.args.family c.requires.range c.args.system.now core c.requires.single
    (small_arities sig lawful) listed c.requires.are few r c.in-Err-Decide.system c.in-Err-Decide.fault first tells)
    c.stopped_reply.ensures
