use Rattle.std.proofs.Common.{sym, ◌∙◌}
use Rattle.std.proofs.lemmas.Option.{IfSome_then}
use Rattle.fort_ari.proofs.Formats.{IfNone_then}
use Rattle.fort_ari.proofs.FormTexts.{format_at, no_format}
use Rattle.fort_ari.proofs.problem.number_in_format.Goals as goal

pub returns-then-len-eq0-clause-none : goal.returns-then-len-eq0-clause-none
returns-then-len-eq0-clause-none c = λ n h. no_format _ c.args.forms.now.forms n (sym c.len.ensures.count ∙ c.if-len-eq0.true) h

pub returns-clause-some : goal.returns-clause-some
returns-clause-some c =
    IfSome_then c.number_of_systems.result (rw c.form.ensures.bytes at c.number_of_systems.ensures.some)
    (λ n h. (format_at _ c.args.forms.now.forms c.form.result.form n c.form.ensures.form).0 h)

pub returns-clause-none : goal.returns-clause-none
returns-clause-none c =
    IfNone_then c.number_of_systems.result (rw c.form.ensures.bytes at c.number_of_systems.ensures.none)
    (λ none n h. none n ((format_at _ c.args.forms.now.forms c.form.result.form n c.form.ensures.form).1 h))
