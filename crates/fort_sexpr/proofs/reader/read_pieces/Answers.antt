use Rattle.std.proofs.Common.{◌≡◌, ℕ, List, [], Bor, Err, length, ap, length-append, arith}
use Rattle.std.proofs.lemmas.Result.{err_from_is_err_and}
use Rattle.fort_sexpr.specs.declared.fault.SFault.TheVariants.{Memory}
use Rattle.fort_sexpr.specs.Pieces.{Fed}
use Rattle.fort_sexpr.proofs.Fronts.{fault_of_all}
use Rattle.fort_sexpr.proofs.Pieces.{piece_around, faultless_all}
use Rattle.fort_sexpr.proofs.reader.read_pieces.Goals as goal

pub feed-requires : goal.feed-requires
feed-requires c =
    let none : Bor (List ℕ) = record { ref_ptr = (0, 0); now = [] } in
    let bytes = c.loop-piece.reader.bytes in
    let all = piece_around (λ (p : Bor (List ℕ)). p.now) c.args.pieces.now c.loop-piece.piece-index none bytes c.loop-piece-test.true
    (ap (λ (r : Fed). r.bytes) c.loop-piece.invariant) in
    record { few = omega (arith, c.requires.few, simp length-append at (ap (λ xs. length xs) all)) }

pub returns-in_err-feed-clause-fault : goal.returns-in_err-feed-clause-fault
returns-in_err-feed-clause-fault c =
    let p = err_from_is_err_and c.from_residual.result c.from_residual.ensures.1 in
    let none : Bor (List ℕ) = record { ref_ptr = (0, 0); now = [] } in
    let fed = c.loop-piece.invariant in
    let all = piece_around (λ (p : Bor (List ℕ)). p.now) c.args.pieces.now c.loop-piece.piece-index none c.loop-piece.reader.bytes
    c.loop-piece-test.true (ap (λ (r : Fed). r.bytes) fed) in
    rw (p.1, p.2) (fault_of_all _ _ _ c.in_err-feed.field-0.0 all (c.in_err-feed.ensures.fault (ap (λ (r : Fed). r.fault) fed)))

pub returns-in_err-feed-clause-memory : goal.returns-in_err-feed-clause-memory
returns-in_err-feed-clause-memory c = λ is.
    let p = err_from_is_err_and c.from_residual.result c.from_residual.ensures.1 in
    let fault : c.in_err-feed.field-0.0 ≡ Memory = cc (p.1, p.2) in
    let none : Bor (List ℕ) = record { ref_ptr = (0, 0); now = [] } in
    let all = piece_around (λ (p : Bor (List ℕ)). p.now) c.args.pieces.now c.loop-piece.piece-index none c.loop-piece.reader.bytes
    c.loop-piece-test.true (ap (λ (r : Fed). r.bytes) c.loop-piece.invariant) in
    let some = c.in_err-feed.ensures.some (ap Err fault) in
    faultless_all _ _ _ all (omega (arith, some, length-append {A = ℕ})) (c.in_err-feed.ensures.memory (ap Err fault))
