use Rattle.fort_engine.specs.AnswerView.{as_answer}
use Rattle.fort_engine.proofs.joined.product_by_classes.Goals as goal

pub classed_product-requires : goal.classed_product-requires
classed_product-requires c = (
  c.requires.0,
  c.requires.1,
  c.requires.2,
  as_answer c.args.first.now,
  as_answer c.args.second.now,
  c.requires.3,
  record { first_is = c.in_ok-one.ensures c.args.places.now; second_is = c.in_ok-other.ensures c.args.others.now },
)

pub returns : goal.returns
returns c h f g join =
    c.classed_product.ensures h f g (as_answer c.args.first.now) (as_answer c.args.second.now) join
    (record { first_is = c.in_ok-one.ensures c.args.places.now; second_is = c.in_ok-other.ensures c.args.others.now })
