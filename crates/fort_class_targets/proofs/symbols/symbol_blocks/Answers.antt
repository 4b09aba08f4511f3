use Rattle.std.proofs.Common.{◌≡◌, ◌+◌, ℕ, suc, List, take, drop, map, get_or, length, ap, sym, subst, ◌∙◌, arith}
use Rattle.fort_theory.specs.Signatures.{Signature}
use Rattle.fort_tables.specs.Tuples.{TupleSymbol, AreSymbols, IsPresent, symbol_kids}
use Rattle.fort_tuple_symbols.specs.SymbolNumbers.{columns_at}
use Rattle.fort_tuple_symbols.proofs.SymbolNumberLaws.{columns_first, columns_next, length-columns_at}
use Rattle.fort_target_lists.proofs.SymbolNumbers.{symbols_at}
use Rattle.fort_class_targets.specs.FilledBlocks.{leaders_of, MayFill, IsFilled}
use Rattle.fort_class_blocks.specs.KeptBlocks.{HasBlock}
use Rattle.fort_class_targets.specs.SymbolBlocks.{symbol_at, numbers_at, leaders_under}
use Rattle.fort_class_targets.proofs.SymbolBlockLaws.{blocks_none, blocks_more}
use Rattle.fort_class_targets.proofs.symbols.symbol_blocks.Goals as goal

pub loop-number-init : goal.loop-number-init
loop-number-init c = record {
  symbol = c.absent-symbol.ensures ∙ sym (columns_first (length c.args.sig.now + 1) c.args.columns (omega arith));
  made = λ es qs told. blocks_none c.args.sig.now c.args.columns es qs c.args.views.now c.args.places.now.starts.items c.args.places.now.numbers.items c.new-blocks.result (ap length c.new-blocks.ensures);
}

pub kid_count-requires : goal.kid_count-requires
kid_count-requires c =
    let sig = c.args.sig.now in
    let base : length sig + 1 ≡ suc (length sig) = omega arith in
    subst (λ (f : TupleSymbol). AreSymbols sig f) (sym c.loop-number.invariant.symbol) (symbols_at sig (length sig + 1) c.args.columns c.loop-number.number base)

-- the numbers that are read are the tuple symbol's own
own_numbers : (sig : Signature) (columns : ℕ) (starts numbers read : List ℕ) (n count : ℕ) (f : TupleSymbol) → read ≡ take count (drop (get_or starts n 0) numbers) → count ≡ symbol_kids sig f → f ≡ symbol_at sig columns n → read ≡ numbers_at sig columns starts numbers n
own_numbers sig columns starts numbers read n count f e k is = e ∙ ap (λ m. take m (drop (get_or starts n 0) numbers)) (k ∙ ap (symbol_kids sig) is)

pub add_block-requires-clause-told : goal.add_block-requires-clause-told
add_block-requires-clause-told c =
    let sig = c.args.sig.now in
    let n = c.args.columns in
    let places = c.args.places.now in
    let number = c.loop-number.number in
    let f = c.loop-number.symbol in
    let is = c.loop-number.invariant.symbol in
    let told = c.requires.told in
    let same = own_numbers sig n places.starts.items places.numbers.items c.of-numbers.result.now number c.kid_count.result f c.of-numbers.ensures c.kid_count.ensures.count is in (
      n,
      told.0,
      told.1,
      λ present.
          let may = told.2.listed number (omega arith) (subst (λ (g : TupleSymbol). IsPresent g) is present) in
          subst (λ (ns : List ℕ). MayFill n told.0 told.1 c.args.targets.now f (leaders_of c.args.views.now ns)) (sym same)
          (subst (λ (g : TupleSymbol). MayFill n told.0 told.1 c.args.targets.now g (leaders_under sig n c.args.views.now places.starts.items places.numbers.items number)) (sym is) may),
    )

pub loop-number-preserved : goal.loop-number-preserved
loop-number-preserved c =
    let sig = c.args.sig.now in
    let n = c.args.columns in
    let places = c.args.places.now in
    let number = c.loop-number.number in
    let f = c.loop-number.symbol in
    let is = c.loop-number.invariant.symbol in
    let old = c.loop-number.blocks in
    let new = c.add_block.new.blocks in
    let same = own_numbers sig n places.starts.items places.numbers.items c.of-numbers.result.now number c.kid_count.result f c.of-numbers.ensures c.kid_count.ensures.count is in
    let width : length f ≡ n = ap length is ∙ length-columns_at (length sig + 1) n number in
    let next = subst (λ (b : ℕ). (k : ℕ) → f ≡ columns_at (b + 1) (length f) k → c.to_next.new.self ≡ columns_at (b + 1) (length f) (k + 1)) c.len-base.ensures.count c.to_next.ensures.next in
    let lss = leaders_under sig n c.args.views.now places.starts.items places.numbers.items number in
    record {
      symbol = columns_next (length sig + 1) n number f c.to_next.new.self is next;
      made = λ es qs told.
          let added : HasBlock old new (map (length {A = ℕ}) lss) = subst (λ (ns : List ℕ). HasBlock old new (map (length {A = ℕ}) (leaders_of c.args.views.now ns))) same c.in_ok-add_block.ensures.added in
          blocks_more sig n es qs c.args.views.now places.starts.items places.numbers.items number old new (c.loop-number.invariant.made es qs told) added
          (λ present.
          let own : IsPresent f = subst (λ (g : TupleSymbol). IsPresent g) (sym is) present in
          let may = told.listed number (omega arith) present in
          let may_own : MayFill n es qs c.args.targets.now f (leaders_of c.args.views.now c.of-numbers.result.now) = subst (λ (ns : List ℕ). MayFill n es qs c.args.targets.now f (leaders_of c.args.views.now ns)) (sym same)
          (subst (λ (g : TupleSymbol). MayFill n es qs c.args.targets.now g lss) (sym is) may) in
          subst (λ (ns : List ℕ). IsFilled es qs (symbol_at sig n number) (leaders_of c.args.views.now ns) new (length old)) same
          (subst (λ (g : TupleSymbol). IsFilled es qs g (leaders_of c.args.views.now c.of-numbers.result.now) new (length old)) is (c.in_ok-add_block.ensures.filled n es qs own may_own)));
    }
