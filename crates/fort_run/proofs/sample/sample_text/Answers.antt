use Rattle.fort_run.proofs.SampleLines.{sample_answer}
use Rattle.fort_run.proofs.sample.sample_text.Goals as goal

pub returns : goal.returns
returns c =
    sample_answer c.args.n c.in_ok-system.system c.in_ok-text.text.items c.push_number.new.line.items c.push.new.self.items c.push_properties.new.text.items
    c.requires c.in_ok-system.ensures c.in_ok-text.ensures.items c.in_ok-push_number.ensures c.in_ok-push.ensures.items c.in_ok-push_properties.ensures
