use Rattle.std.proofs.Common.{◌≡◌, [], replicate, ap, ◌∙◌, arith}
use Rattle.std.proofs.lemmas.List.{map-append, replicate_more}
use Rattle.fort_infinity.proofs.lists.StateLists.new.Goals as goal

pub loop-i-preserved : goal.loop-i-preserved
loop-i-preserved c = rw (c.in_ok-push.ensures.items, map-append, c.loop-i.invariant, c.new.ensures.items) (replicate_more c.loop-i.i [])

pub returns : goal.returns
returns c =
    let whole : c.loop-i.i ≡ c.args.states = omega arith in
    c.loop-i.invariant ∙ ap (λ n. replicate n []) whole
