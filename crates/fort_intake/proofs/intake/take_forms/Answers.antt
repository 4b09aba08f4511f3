use Rattle.std.proofs.Common.{◌≡◌, ◌≤◌, ◌+◌, ◌++◌, length, take, sym, subst, ◌-◌, length-append, length-take, arith}
use Rattle.std.proofs.KnownBytes.{Consumes-trans}
use Rattle.fort_sexpr.specs.Faults.{IsFaultOfFrontUnlessMemory}
use Rattle.fort_intake.specs.declared.unread.Unread.TheVariants.{Text, TooLong}
use Rattle.fort_intake.proofs.Passing.{passing_past, at_fault, gives_past, past_is_long}
use Rattle.fort_intake.proofs.intake.take_forms.Goals as goal

pub returns-then-n-limit-clause-past : goal.returns-then-n-limit-clause-past
returns-then-n-limit-clause-past g c = λ _.
    let now = c.loop-reader.invariant in
    let fits : c.in_ok-n.n ≤ length c.read.new.buf = omega (arith, c.in_ok-n.ensures.bound, c.read.auto.buf) in
    passing_past c.loop-reader.count _ _ _ (record { bytes = c.loop-reader.reader.bytes; given = now.given; size = now.fed }) c.read.new.buf c.in_ok-n.n fits
    c.in_ok-n.ensures.moved c.args.limit 4096 now.within (omega (arith, c.if-n-limit.true, now.within)) (omega (arith, c.read.auto.buf))

pub returns-then-n-limit-clause-too_long : goal.returns-then-n-limit-clause-too_long
returns-then-n-limit-clause-too_long g c = λ is. past_is_long c.args.limit 4096 _ _ (returns-then-n-limit-clause-past g c is)

pub returns-then-n-limit-clause-err : goal.returns-then-n-limit-clause-err
returns-then-n-limit-clause-err g c = (_, Consumes-trans _ _ _ _ _ c.loop-reader.invariant.given c.in_ok-n.ensures.moved)

pub returns-in-Err-clause-text : goal.returns-in-Err-clause-text
returns-in-Err-clause-text g c = λ fault is.
    let now = c.loop-reader.invariant in
    let piece = take c.in_ok-n.n c.read.new.buf in
    let told : c.unread_behind.result ≡ Text fault = cc in
    let same : fault ≡ c.in-Err.fault = c.unread_behind.ensures.same fault told in
    let size : c.args.limit - (c.loop-reader.count + c.in_ok-n.n) + length (c.loop-reader.reader.bytes ++ piece) ≡ c.args.limit =
    simp (length-append, length-take) (omega (arith, c.in_ok-n.ensures.bound, c.read.auto.buf, now.fed, now.within, c.if-n-limit.false)) in
    at_fault c.args.limit _ _ _ _ (c.loop-reader.reader.bytes ++ piece) (Consumes-trans _ _ _ _ _ now.given c.in_ok-n.ensures.moved) size fault
    (c.unread_behind.ensures.not_memory fault told) (subst (IsFaultOfFrontUnlessMemory (c.loop-reader.reader.bytes ++ piece)) (sym same) (c.in-Err.ensures.fault now.faultless))
    (c.unread_behind.ensures.passed fault told)

pub returns-in-Err-clause-past : goal.returns-in-Err-clause-past
returns-in-Err-clause-past g c = λ is.
    let now = c.loop-reader.invariant in
    let piece = take c.in_ok-n.n c.read.new.buf in
    let told : c.unread_behind.result ≡ TooLong = cc in
    let size : c.args.limit - (c.loop-reader.count + c.in_ok-n.n) + length (c.loop-reader.reader.bytes ++ piece) ≡ c.args.limit =
    simp (length-append, length-take) (omega (arith, c.in_ok-n.ensures.bound, c.read.auto.buf, now.fed, now.within, c.if-n-limit.false)) in
    gives_past c.args.limit _ _ _ _ (c.loop-reader.reader.bytes ++ piece) (Consumes-trans _ _ _ _ _ now.given c.in_ok-n.ensures.moved) size _ 4096
    (omega (arith, c.read.auto.buf)) (c.unread_behind.ensures.past told)

pub returns-in-Err-clause-too_long : goal.returns-in-Err-clause-too_long
returns-in-Err-clause-too_long g c = λ is. past_is_long c.args.limit 4096 _ _ (returns-in-Err-clause-past g c is)

pub returns-in-Err-clause-err : goal.returns-in-Err-clause-err
returns-in-Err-clause-err g c =
    let rest = c.unread_behind.ensures.given in
    (_, Consumes-trans _ _ _ _ _ (Consumes-trans _ _ _ _ _ c.loop-reader.invariant.given c.in_ok-n.ensures.moved) rest.1)
