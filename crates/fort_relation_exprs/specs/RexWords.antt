-- Law: the labels of an atom of an expression all have one width.
use Rattle.std.specs.Prelude.{◌≡◌, ℕ, List, None, get_or, length}
use Rattle.fort_theory.specs.Signatures.{Signature}
use Rattle.fort_tables.specs.Tuples.{TupleSymbol, presence}
use Rattle.fort_alike.specs.ExpressionRules.{facts_of, left_step, right_step}
use Rattle.fort_alike.proofs.LabelBits.{length-label_row}
use Rattle.fort_relation_exprs.specs.RexSeen.{RexSeen, states_of}
use Rattle.fort_relation_exprs.specs.RexView.{rex_rule, rex_words}

pub has_rex_words : (sig : Signature) (l : RexSeen) (f : TupleSymbol) (ws : List (List ℕ)) → length ((rex_rule sig l).step f ws) ≡ rex_words l
has_rex_words sig l f ws =
    length-label_row (states_of l).left.count (states_of l).right.count (facts_of l.shape) (presence f)
    (left_step (states_of l) (get_or f l.shape.first None) ws) (right_step (states_of l) (get_or f l.shape.second None) ws) _
