-- To believe: which request each value of the program's type is.
use Rattle.fort_answers.specs.Requests.{Options, Bounds, Family, Request, Decide, Witness, Check, Sample, Solutions, Confirm, Synth}
use Rattle.fort_words.specs.declared.request.Options.{Options as OwnOptions}
use Rattle.fort_words.specs.declared.request.Bounds.{Bounds as OwnBounds}
use Rattle.fort_words.specs.declared.request.Family.{Family as OwnFamily}
use Rattle.fort_words.specs.declared.request.Request.{Request as OwnRequest}
use Rattle.fort_words.specs.declared.request.Request.TheVariants as own

abbrev pub as_options : OwnOptions → Options
as_options o = record { states = o.states; reduces = o.reduces }

abbrev pub as_bounds : OwnBounds → Bounds
as_bounds b = record { height = b.height; most = b.most }

abbrev pub as_family : OwnFamily → Family
as_family f = record { count = f.count; height = f.height }

abbrev pub as_request : OwnRequest → Request
as_request (own.Decide options certificate formula) = Decide (as_options options) certificate formula.now
as_request (own.Witness options certificate formula) = Witness (as_options options) certificate formula.now
as_request (own.Check formula) = Check formula.now
as_request (own.Sample n) = Sample n
as_request (own.Solutions options bounds formula) = Solutions (as_options options) (as_bounds bounds) formula.now
as_request (own.Confirm formula) = Confirm formula.now
as_request (own.Synth options family formula) = Synth (as_options options) (as_family family) formula.now
