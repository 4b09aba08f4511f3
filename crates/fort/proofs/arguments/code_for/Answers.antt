use Rattle.std.proofs.Common.{map, string_bytes}
use Rattle.fort.specs.Ends.{reads, writes}
use Rattle.fort.proofs.EndLaws.{EndsAsRun-at, IsSome-value}
use Rattle.fort.proofs.arguments.code_for.Goals as goal

pub returns-clause-ends : goal.returns-clause-ends
returns-clause-ends g c =
    EndsAsRun-at (map string_bytes c.args.words.now)
    (reads (g.S.Source.rest c.args.input.now) (g.S.Source.rest c.run.new.input) (g.S.Source.faults c.args.input.now) (g.S.Source.faults c.run.new.input))
    (writes (g.K.Sink.taken c.args.output.now) (g.K.Sink.taken c.run.new.output) (g.K.Sink.faults c.args.output.now) (g.K.Sink.faults c.run.new.output))
    c.run.result.status _ c.code_of.ensures (record {
      yes = c.run.ensures.yes;
      no = c.run.ensures.no;
      certified = c.run.ensures.certified;
      found = c.run.ensures.found;
      none = c.run.ensures.none;
      confirmed = c.run.ensures.confirmed;
      solved = c.run.ensures.solved;
      system = c.run.ensures.system;
      no_system = c.run.ensures.no_system;
      answered = c.run.ensures.answered;
      only = c.run.ensures.only;
      early = c.run.ensures.early;
      whole = c.run.ensures.whole;
      owed_certified = c.run.ensures.owed_certified;
      printed = c.run.ensures.printed;
      owed_confirmed = c.run.ensures.owed_confirmed;
      printed_terms = c.run.ensures.printed_terms;
      limit = λ e. IsSome-value c.run.result.limit (c.run.ensures.has_limit.1 e) c.run.ensures.limit;
      cut_short = c.run.ensures.cut_short;
      statuses = c.run.ensures.statuses;
      read_fault = c.run.ensures.read_fault;
      reported = c.run.ensures.reported;
      asked = c.run.ensures.asked;
      write_fault = c.run.ensures.write_fault;
      complete = λ faultless. c.run.ensures.complete faultless.0 faultless.1;
      decided = λ faultless. c.run.ensures.decided faultless.0 faultless.1;
      kept = λ faultless. c.run.ensures.kept faultless.0 faultless.1;
      checked = λ faultless. c.run.ensures.checked faultless.0 faultless.1;
      confirmable = λ faultless. c.run.ensures.confirmable faultless.0 faultless.1;
      searched = λ faultless. c.run.ensures.searched faultless.0 faultless.1;
      searched_within = λ faultless. c.run.ensures.searched_within faultless.0 faultless.1;
    })
