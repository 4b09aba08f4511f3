use Rattle.std.proofs.Common.{◌≡◌, ℕ, ◌+◌, Bool, ◌&&◌, ◌||◌, ◌==◌, map, length, refl, sym, ap, ◌∙◌, arith}
use Rattle.fort_tuple_symbols.specs.Columns.{as_column}
use Rattle.fort_mark_keys.specs.AskedTerms.{asks_number, stands_below}
use Rattle.std.specs.List.{list_any}
use Rattle.fort_mark_keys.proofs.SubtermListLaws.{told, told-more, told-none, asks-next}
use Rattle.fort_mark_keys.proofs.term_keys.set_numbers.Goals as goal

pub loop-k-init : goal.loop-k-init
loop-k-init c q = c.requires.clear q ∙ told-none (asks_number (map (λ t. t.now) c.args.listed.now) (as_column c.args.root) c.args.place) q refl

pub loop-k-preserved : goal.loop-k-preserved
loop-k-preserved c q =
    let asks : ℕ → Bool = asks_number (map (λ t. t.now) c.args.listed.now) (as_column c.args.root) c.args.place in
    let next = asks-next (λ t. t.now) c.args.listed.now (as_column c.args.root) c.args.place c.loop-k.k c.index-listed-k.result c.loop-k-test.true in
    let on : c.is_asked-on.result ≡ asks (c.loop-k.k + 1) =
    c.is_asked-on.ensures
    ∙ (ap (λ t. list_any (stands_below (as_column c.args.root) c.args.place t.now) (map (λ t. t.now) c.args.listed.now)) c.index-listed-k.is ∙ sym next) in
    c.put_bit.ensures q
    ∙ (ap (λ b. ((c.loop-k.k + 1 == q) && c.is_asked-on.result) || b) (c.loop-k.invariant q)
    ∙ told-more asks c.loop-k.k q c.is_asked-on.result on)

pub returns-clause-bits : goal.returns-clause-bits
returns-clause-bits c q =
    let end : c.loop-k.k ≡ length c.args.listed.now = omega (arith, c.loop-k-test.false, c.loop-k.auto.k-end) in
    c.loop-k.invariant q ∙ ap (λ k. told (asks_number (map (λ t. t.now) c.args.listed.now) (as_column c.args.root) c.args.place) k q) end
