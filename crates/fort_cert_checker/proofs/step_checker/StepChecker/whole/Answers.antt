use Rattle.std.proofs.Common.{sym, ap, subst, ◌∙◌}
use Rattle.fort_cert_checker.specs.StepCheckers.{IsWholeTable}
use Rattle.fort_cert_checker.proofs.WholeLaws.{whole_of, whole_at, whole_table}
use Rattle.fort_cert_checker.proofs.step_checker.StepChecker.whole.Goals as goal

pub table-requires : goal.table-requires
table-requires c =
    let r = c.requires in (
      whole_of r.0 r.1 r.2 r.3 c.args.self.now r.4 r.5 r.6,
      whole_at r.0 r.1 r.2 r.3 c.args.self.now r.4 r.5 r.6 _
          record {
            signature = c.signature.ensures.same ∙ ap (λ s. s.signature) r.5.checker.system_is;
            steps = r.5.checker.steps_are;
            plans_are = c.deref.ensures.value;
            rooms_are = c.deref-2.ensures.value;
          },
    )

pub returns-clause-table : goal.returns-clause-table
returns-clause-table c = λ system f first ss made d some.
    let at = whole_at system f first ss c.args.self.now made d some _
    record {
      signature = c.signature.ensures.same ∙ ap (λ s. s.signature) d.checker.system_is;
      steps = d.checker.steps_are;
      plans_are = c.deref.ensures.value;
      rooms_are = c.deref-2.ensures.value;
    } in
    subst (IsWholeTable system f d.checker.parts made) (sym (c.table.ensures.is _ at)) (whole_table system f first ss c.args.self.now made d some)

pub returns-clause-room : goal.returns-clause-room
returns-clause-room c = λ list lay fits.
    let r = c.requires in
    c.table.ensures.room (whole_of r.0 r.1 r.2 r.3 c.args.self.now r.4 r.5 r.6)
    (whole_at r.0 r.1 r.2 r.3 c.args.self.now r.4 r.5 r.6 _
    record {
      signature = c.signature.ensures.same ∙ ap (λ s. s.signature) r.5.checker.system_is;
      steps = r.5.checker.steps_are;
      plans_are = c.deref.ensures.value;
      rooms_are = c.deref-2.ensures.value;
    })
    list lay fits
