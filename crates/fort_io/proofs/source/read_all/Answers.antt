use Rattle.std.proofs.Common.{arith, ap, Ok, length-append, length-take, ◌≤◌, length, take, drop}
use Rattle.std.proofs.KnownBytes.{Consumes-nil, Consumes-trans}
use Rattle.fort_io.proofs.Given.{Consumes-nothing, Consumes-over, OnErr-given, OnErr-kept, take-filled}
use Rattle.fort_io.proofs.source.read_all.Goals as goal

pub loop-piece-init : goal.loop-piece-init
loop-piece-init g c = record {
  some = omega (arith, c.in_ok-piece.ensures.len);
  sized = omega (arith, c.in_ok-piece.ensures.len);
  within = omega (arith, c.new-bytes.ensures.len);
  given = rw c.new-bytes.ensures.items (Consumes-nil _);
  quiet = omega arith;
}

pub returns-in_err-n-clause-err : goal.returns-in_err-n-clause-err
returns-in_err-n-clause-err g c = OnErr-kept _ _ _ _ _ c.loop-piece.invariant.given c.in_err-n.ensures.kept

pub returns-then-n-eq0-clause-all : goal.returns-then-n-eq0-clause-all
returns-then-n-eq0-clause-all g c =
    Consumes-nothing _ _ _ _ _ _ c.loop-piece.invariant.given c.in_ok-n.ensures.moved c.if-n-eq0.true

pub returns-then-n-eq0-clause-end : goal.returns-then-n-eq0-clause-end
returns-then-n-eq0-clause-end g c = c.in_ok-n.ensures.end (ap Ok c.if-n-eq0.true)

pub returns-then-n-limit-clause-too_long : goal.returns-then-n-limit-clause-too_long
returns-then-n-limit-clause-too_long g c = λ _.
    Consumes-over _ _ _ c.args.limit (Consumes-trans _ _ _ _ _ c.loop-piece.invariant.given c.in_ok-n.ensures.moved)
    (simp (length-append, length-take) (omega (arith, c.in_ok-n.ensures.bound, c.read.auto.buf, c.loop-piece.bytes.ok.0)))

pub returns-then-n-limit-clause-past : goal.returns-then-n-limit-clause-past
returns-then-n-limit-clause-past g c = λ _. record {
  front = c.loop-piece.bytes.items;
  last = take c.in_ok-n.n c.read.new.buf;
  within = omega (arith, c.loop-piece.invariant.within);
  one_piece = simp length-take (omega (arith, c.in_ok-n.ensures.bound, c.read.auto.buf, c.loop-piece.invariant.sized, c.deref_mut.ensures.len));
  past = simp (length-append, length-take) (omega (arith, c.in_ok-n.ensures.bound, c.read.auto.buf, c.loop-piece.bytes.ok.0));
  given = Consumes-trans _ _ _ _ _ c.loop-piece.invariant.given c.in_ok-n.ensures.moved;
}

pub returns-then-n-limit-clause-err : goal.returns-then-n-limit-clause-err
returns-then-n-limit-clause-err g c = (_, Consumes-trans _ _ _ _ _ c.loop-piece.invariant.given c.in_ok-n.ensures.moved)

pub loop-piece-preserved : goal.loop-piece-preserved
loop-piece-preserved g c = record {
  some = c.loop-piece.invariant.some;
  sized = c.loop-piece.invariant.sized;
  within = omega (arith, c.in_ok-extend_from_slice.ensures.len, length-take c.in_ok-n.n c.deref.result.now, c.if-n-limit.false, c.len.ensures, c.loop-piece.invariant.within);
  given =
      let fits : c.in_ok-n.n ≤ length c.read.new.buf = omega (arith, c.in_ok-n.ensures.bound, c.read.auto.buf) in
      let whole : c.in_ok-n.n ≤ c.loop-piece.piece.len = omega (arith, c.in_ok-n.ensures.bound, c.deref_mut.ensures.len) in
      rw (c.in_ok-extend_from_slice.ensures.items, c.deref.ensures.value, take-filled c.in_ok-n.n _ _ (drop (length c.read.new.buf) c.loop-piece.piece.items) fits whole) (Consumes-trans _ _ _ _ _ c.loop-piece.invariant.given c.in_ok-n.ensures.moved);
  quiet = omega (arith, c.in_ok-n.ensures.quiet, c.loop-piece.invariant.quiet);
}

pub returns-in_err-extend_from_slice-clause-err : goal.returns-in_err-extend_from_slice-clause-err
returns-in_err-extend_from_slice-clause-err g c =
    OnErr-given _ _ _ _ (Consumes-trans _ _ _ _ _ c.loop-piece.invariant.given c.in_ok-n.ensures.moved)
