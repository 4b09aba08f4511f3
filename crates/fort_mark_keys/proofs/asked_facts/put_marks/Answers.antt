use Rattle.std.proofs.Common.{◌++◌, [], ◌∷◌, replicate, subst, ap, ◌∙◌, append_assoc, append-nil, sym, arith}
use Rattle.std.proofs.lemmas.List.{replicate_more, length-append, length-replicate}
use Rattle.fort_label_bits.specs.RowBits.{HasBits}
use Rattle.fort_mark_keys.proofs.asked_facts.put_marks.Goals as goal

pub loop-k-init : goal.loop-k-init
loop-k-init c bits size h = subst (λ bs. HasBits bs c.args.out.now) (sym (append-nil bits)) h

pub loop-k-preserved : goal.loop-k-preserved
loop-k-preserved c bits size h =
    let k = c.loop-k.k in
    let on = c.args.on in
    subst (λ bs. HasBits bs c.put_mark.new.out) (append_assoc bits (replicate k on) (on ∷ []) ∙ ap (λ bs. bits ++ bs) (replicate_more k on))
    (c.put_mark.ensures (bits ++ replicate k on) (omega (arith, size, length-append bits (replicate k on), length-replicate k on)) (c.loop-k.invariant bits size h))
