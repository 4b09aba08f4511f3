use Rattle.std.proofs.Common.{ap, ◌∙◌, sym}
use Rattle.fort_grammar.specs.Declarations.{word_of}
use Rattle.fort_sexpr.proofs.FormLists.{headed_by_first}
use Rattle.fort_sexpr.proofs.form.Form.is_headed.Goals as goal

pub returns-then-not-is_empty : goal.returns-then-not-is_empty
returns-then-not-is_empty c =
    let both = headed_by_first c.args.self.now.bytes c.args.head.now _ c.get.result.form c.in-Some.list.forms c.in-Some.ensures.some c.get.ensures.form in
    let same = ap (λ bytes. word_of bytes c.get.result.form) (c.get.ensures.bytes ∙ c.in-Some.ensures.bytes) in
    (λ yes. both.1 (sym same ∙ c.is_word.ensures.0 yes), λ h. c.is_word.ensures.1 (same ∙ both.0 h))
