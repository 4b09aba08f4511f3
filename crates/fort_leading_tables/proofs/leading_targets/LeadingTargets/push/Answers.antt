use Rattle.std.proofs.Common.{◌≡◌, [], ◌∷◌, ◌++◌, map, ap, ◌∙◌}
use Rattle.fort_tuple_symbols.specs.Columns.{digit_of}
use Rattle.fort_leading_tables.specs.EntryNumbers.{numbers_of}
use Rattle.fort_leading_tables.specs.declared.leading_targets.LeadingTargets.{LeadingTargets}
use Rattle.fort_leading_tables.proofs.TargetLaws.{not_there, targets_push}
use Rattle.fort_leading_tables.proofs.leading_targets.LeadingTargets.push.Goals as goal

pub push-requires : goal.push-requires
push-requires c =
    λ q l h.
    let r = c.requires in
    let e = c.args.row.now in
    let is : c.in_ok-from_slice.field-0.items ≡ numbers_of e = c.in_ok-from_slice.ensures.items ∙ (c.as_slice.ensures _ c.of-key.ensures ∙ (ap (λ ds. ds ++ c.kids.result.now) c.digits.ensures.digits ∙ ap (λ ks. map digit_of e.symbol ++ ks) c.kids.ensures.states)) in
    not_there r.0 r.1 r.2 c.args.self.now e r.3 r.4 r.5 q l (h ∙ is)

pub returns : goal.returns
returns c = λ columns es qs are w missing.
    let e = c.args.row.now in
    let old = c.args.self.now in
    let new : LeadingTargets = record { entries = c.push.new.self; targets = c.push-2.new.self } in
    let is : c.in_ok-from_slice.field-0.items ≡ numbers_of e = c.in_ok-from_slice.ensures.items ∙ (c.as_slice.ensures _ c.of-key.ensures ∙ (ap (λ ds. ds ++ c.kids.result.now) c.digits.ensures.digits ∙ ap (λ ks. map digit_of e.symbol ++ ks) c.kids.ensures.states)) in
    targets_push columns es qs old e are w c.args.target new missing (c.in_ok-push.ensures.ok ∙ ap (λ ns. old.entries ++ ns ∷ []) is) c.in_ok-push-2.ensures.items
