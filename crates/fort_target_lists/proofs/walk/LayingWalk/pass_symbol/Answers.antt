use Rattle.std.proofs.Common.{◌≡◌, ℕ, ◌+◌, Vec, Global, vec_capacity, ap, sym, ◌∙◌, arith, subst}
use Rattle.fort_theory.specs.Signatures.{Signature}
use Rattle.fort_tables.specs.Tuples.{AreSymbols, symbol_kids}
use Rattle.fort_tables.specs.Selections.{is_present}
use Rattle.fort_tuple_symbols.specs.SymbolNumbers.{columns_at}
use Rattle.fort_target_lists.specs.Walks.{entries_before, HasPassed, IsBetween}
use Rattle.fort_target_lists.proofs.SymbolNumbers.{symbols_at}
use Rattle.fort_target_lists.proofs.WalkSymbols.{symbol_with, first_stop, stop_first, between_absent, between_present}
use Rattle.fort_target_lists.proofs.walk.LayingWalk.pass_symbol.Goals as goal

pub kid_count-count-requires : goal.kid_count-count-requires
kid_count-count-requires c =
    let r = c.requires.between in
    let t = r.1 in
    let h = r.4 in
    let walk = c.args.self.now in
    subst (λ (sig : Signature). AreSymbols sig c.args.symbol.now) (sym h.goes.signature)
    (subst (AreSymbols t.signature) (sym r.3.is) (symbols_at t.signature walk.base walk.columns r.0 h.goes.base))

pub pass-requires-clause-at : goal.pass-requires-clause-at
pass-requires-clause-at c =
    let r = c.requires.between in
    let n = r.0 in
    let t = r.1 in
    let begins = r.2 in
    let h = r.4 in
    let walk = c.args.self.now in
    let listing = c.args.listing.now in
    let f = c.args.symbol.now in
    let is : f ≡ symbol_with t walk n = r.3.is ∙ ap (λ k. columns_at walk.base k n) h.goes.columns_are in
    let present = sym (ap is_present is) ∙ (sym c.is_present.ensures ∙ c.if-not-is_present.false) in
    let count : 0 ≡ symbol_kids t.signature f = sym c.if-count-eq0.true ∙ (c.kid_count-count.ensures.count ∙ ap (λ (sig : Signature). symbol_kids sig f) h.goes.signature) in
    let passed = subst (λ (v : Vec ℕ Global). HasPassed t walk.lays begins (entries_before t n) c.args.cursors.now v.items) (sym c.begin.ensures.targets) h.passed in
    (f, first_stop t begins n, stop_first t begins walk n c.args.cursors.now listing.starts.items listing.targets.items h r.3.low present f is 0 count, passed)

pub pass-requires-clause-room : goal.pass-requires-clause-room
pass-requires-clause-room c = λ b. omega (arith, c.requires.room b, ap (λ (v : Vec ℕ Global). vec_capacity v) c.begin.ensures.targets)

pub pass_kids-requires : goal.pass_kids-requires
pass_kids-requires c =
    let r = c.requires.between in
    let n = r.0 in
    let t = r.1 in
    let begins = r.2 in
    let h = r.4 in
    let walk = c.args.self.now in
    let listing = c.args.listing.now in
    let f = c.args.symbol.now in
    let is : f ≡ symbol_with t walk n = r.3.is ∙ ap (λ k. columns_at walk.base k n) h.goes.columns_are in
    let present = sym (ap is_present is) ∙ (sym c.is_present.ensures ∙ c.if-not-is_present.false) in
    let count : c.kid_count-count.result ≡ symbol_kids t.signature f = c.kid_count-count.ensures.count ∙ ap (λ (sig : Signature). symbol_kids sig f) h.goes.signature in
    let passed = subst (λ (v : Vec ℕ Global). HasPassed t walk.lays begins (entries_before t n) c.args.cursors.now v.items) (sym c.begin.ensures.targets) h.passed in
    record {
      some = omega (arith, c.if-count-eq0.false);
      few = omega (arith, c.kid_count-count.ensures.few);
      at = (first_stop t begins n, stop_first t begins walk n c.args.cursors.now listing.starts.items listing.targets.items h r.3.low present f is c.kid_count-count.result count, passed);
      room = λ b. omega (arith, c.requires.room b, ap (λ (v : Vec ℕ Global). vec_capacity v) c.begin.ensures.targets);
    }

pub returns-then-not-is_present-clause-between : goal.returns-then-not-is_present-clause-between
returns-then-not-is_present-clause-between c = λ n t begins numbered h.
    let walk = c.args.self.now in
    let listing = c.args.listing.now in
    let new = c.begin.new.listing in
    let is : c.args.symbol.now ≡ symbol_with t walk n = numbered.is ∙ ap (λ k. columns_at walk.base k n) h.goes.columns_are in
    let absent = sym (ap is_present is) ∙ (sym c.is_present.ensures ∙ c.if-not-is_present.true) in
    subst (λ (v : Vec ℕ Global). IsBetween t begins walk (n + 1) c.args.cursors.now new.starts.items v.items) (sym c.begin.ensures.targets)
    (between_absent t begins walk n c.args.cursors.now listing.starts.items listing.targets.items new.starts.items h numbered.low absent c.begin.ensures.starts)

pub returns-then-count-eq0-clause-between : goal.returns-then-count-eq0-clause-between
returns-then-count-eq0-clause-between c = λ n t begins numbered h.
    let walk = c.args.self.now in
    let cursors = c.args.cursors.now in
    let listing = c.args.listing.now in
    let new = c.begin.new.listing in
    let f = c.args.symbol.now in
    let is : f ≡ symbol_with t walk n = numbered.is ∙ ap (λ k. columns_at walk.base k n) h.goes.columns_are in
    let present = sym (ap is_present is) ∙ (sym c.is_present.ensures ∙ c.if-not-is_present.false) in
    let count : 0 ≡ symbol_kids t.signature f = sym c.if-count-eq0.true ∙ (c.kid_count-count.ensures.count ∙ ap (λ (sig : Signature). symbol_kids sig f) h.goes.signature) in
    let passed = subst (λ (v : Vec ℕ Global). HasPassed t walk.lays begins (entries_before t n) cursors v.items) (sym c.begin.ensures.targets) h.passed in
    let stop = stop_first t begins walk n cursors listing.starts.items listing.targets.items h numbered.low present f is 0 count in
    let made = c.pass.ensures.passed f (first_stop t begins n) stop passed in
    between_present t begins walk n cursors listing.starts.items listing.targets.items c.pass.new.cursors new.starts.items c.pass.new.laid.items h numbered.low present f is 0 count
    c.begin.ensures.starts made

pub returns-else-count-eq0-clause-between : goal.returns-else-count-eq0-clause-between
returns-else-count-eq0-clause-between c = λ n t begins numbered h.
    let walk = c.args.self.now in
    let cursors = c.args.cursors.now in
    let listing = c.args.listing.now in
    let new = c.begin.new.listing in
    let f = c.args.symbol.now in
    let is : f ≡ symbol_with t walk n = numbered.is ∙ ap (λ k. columns_at walk.base k n) h.goes.columns_are in
    let present = sym (ap is_present is) ∙ (sym c.is_present.ensures ∙ c.if-not-is_present.false) in
    let count : c.kid_count-count.result ≡ symbol_kids t.signature f = c.kid_count-count.ensures.count ∙ ap (λ (sig : Signature). symbol_kids sig f) h.goes.signature in
    let passed = subst (λ (v : Vec ℕ Global). HasPassed t walk.lays begins (entries_before t n) cursors v.items) (sym c.begin.ensures.targets) h.passed in
    let stop = stop_first t begins walk n cursors listing.starts.items listing.targets.items h numbered.low present f is c.kid_count-count.result count in
    let made = c.pass_kids.ensures.passed (first_stop t begins n) stop passed in
    between_present t begins walk n cursors listing.starts.items listing.targets.items c.pass_kids.new.cursors new.starts.items c.pass_kids.new.laid.items h numbered.low present f is
    c.kid_count-count.result count c.begin.ensures.starts made
