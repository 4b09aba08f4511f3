use Rattle.std.proofs.Common.{◌≡◌, ◌++◌, ◌∷◌, [], ℕ, suc, ◌+◌, length, ap, sym, subst, ◌∙◌, arith, false, true≢false}
use Rattle.std.proofs.lemmas.Result.{on_ok_weaker}
use Rattle.fort_tables.specs.Tuples.{TupleSymbol, AreSymbols, IsPresent, symbol_kids}
use Rattle.fort_tables.specs.Selections.{is_present}
use Rattle.fort_tables.proofs.SelectionLaws.{present_from_test, test_from_present}
use Rattle.fort_target_lists.specs.Places.{number_of}
use Rattle.fort_target_lists.proofs.SymbolNumbers.{symbols_at, number_below}
use Rattle.fort_tight_lists.specs.TightSymbols.{IsReadable, IsTightSymbol}
use Rattle.fort_tight_lists.proofs.TightSymbolLaws.{symbols_more, no_places, block_pushed, on_ok_both}
use Rattle.fort_tight_lists.proofs.parts.TightParts.add_symbol.Goals as goal

pub returns-then-not-is_present : goal.returns-then-not-is_present
returns-then-not-is_present c = on_ok_weaker c.add.result (λ added n placed is.
    let own = c.args.self.now in
    let f = c.args.symbol.now in
    let absent : is_present f ≡ false = sym c.is_present.ensures ∙ c.if-not-is_present.true in
    let pushed : c.push.new.self.items ≡ own.starts.items ++ length own.numbers.items ∷ [] = c.in_ok-push.ensures.items ∙ ap (λ k. own.starts.items ++ k ∷ []) (c.len.ensures ∙ own.numbers.ok.0) in
    let l = c.args.list.now in
    symbols_more c.args.sig.now (length f) n l own (record { views = own.views; starts = c.push.new.self; numbers = own.numbers; blocks = c.add.new.self }) placed pushed
    (no_places l.views.items own.views own.numbers.items own.blocks c.add.new.self placed.tight (block_pushed own.blocks c.add.new.self [] added))
    (λ present. absurd (true≢false (sym (test_from_present f (subst (λ (g : TupleSymbol). IsPresent g) (sym is) present)) ∙ absent)))) c.add.ensures.ok

pub number-requires-clause-small : goal.number-requires-clause-small
number-requires-clause-small c =
    let sig = c.args.sig.now in
    let f = c.args.symbol.now in
    let placed = c.requires.placed in
    let base : length sig + 1 ≡ suc (length sig) = omega arith in
    let are = subst (λ (k : TupleSymbol). AreSymbols sig k) (sym placed.2) (symbols_at sig (length sig + 1) (length f) placed.0 base) in
    omega (arith, number_below sig c.args.list.now.base f (c.requires.base ∙ base) are, c.requires.small)

pub kid_count-requires : goal.kid_count-requires
kid_count-requires c =
    let sig = c.args.sig.now in
    let f = c.args.symbol.now in
    let placed = c.requires.placed in
    let base : length sig + 1 ≡ suc (length sig) = omega arith in
    subst (λ (k : TupleSymbol). AreSymbols sig k) (sym placed.2) (symbols_at sig (length sig + 1) (length f) placed.0 base)

pub add_present-requires-clause-readable : goal.add_present-requires-clause-readable
add_present-requires-clause-readable c =
    let f = c.args.symbol.now in
    let l = c.args.list.now in
    let present = present_from_test f (sym c.is_present.ensures ∙ c.if-not-is_present.false) in
    subst (λ (n : ℕ). IsReadable l n c.kid_count.result) (sym c.number.ensures) (subst (λ (k : ℕ). IsReadable l (number_of l.base f) k) (sym c.kid_count.ensures.count) (c.requires.readable present))

pub returns : goal.returns
returns c = on_ok_both c.add_present.result (λ more made n placed is.
    let own = c.args.self.now in
    let new = c.add_present.new.self in
    let sig = c.args.sig.now in
    let f = c.args.symbol.now in
    let l = c.args.list.now in
    let pushed = c.add_present.ensures.starts ∙ (c.in_ok-push.ensures.items ∙ ap (λ k. own.starts.items ++ k ∷ []) (c.len.ensures ∙ own.numbers.ok.0)) in
    let Own : ℕ → ℕ → Type 0 = λ b k. IsTightSymbol l b k new.views.views.items new.numbers.items (length own.numbers.items) new.blocks (length own.blocks) in
    let here : Own (number_of l.base f) (symbol_kids sig f) = subst (λ (k : ℕ). Own (number_of l.base f) k) c.kid_count.ensures.count (subst (λ (b : ℕ). Own b c.kid_count.result) c.number.ensures made) in
    symbols_more sig (length f) n l own new placed pushed more
    (λ present. subst (λ (g : TupleSymbol). Own (number_of l.base g) (symbol_kids sig g)) is here)) c.add_present.ensures.more c.add_present.ensures.own
