use Rattle.std.proofs.Common.{◌≡◌, ℕ, ◌+◌, ◌^◌, ◌≤◌, [], length, replicate, None, ap, sym, ◌∙◌, subst, arith}
use Rattle.fort_tables.specs.Tuples.{AreSymbols, symbol_kids}
use Rattle.fort_tables.specs.Tables.{Listed, listed_table}
use Rattle.fort_tables.specs.Refinement.{IsRefined}
use Rattle.fort_tuple_symbols.specs.SymbolNumbers.{columns_at}
use Rattle.fort_tuple_symbols.proofs.SymbolNumberLaws.{columns_first, columns_next, length-columns_at}
use Rattle.fort_target_lists.proofs.SymbolNumbers.{symbols_at}
use Rattle.fort_reduce.specs.Walks.{IsWalked, AreWholeUnder}
use Rattle.fort_reduce.proofs.WholeLaws.{whole_below_none, whole_below_more, whole_below_all}
use Rattle.fort_reduce.proofs.FrontLaws.{walked_under}
use Rattle.fort_reduce.proofs.passes.pass.Goals as goal

pub symbols-init : goal.symbols-init
symbols-init c =
    let t = listed_table c.args.table.now in
    let base = length t.signature + 1 in
    record {
      symbol = c.absent-symbol.ensures ∙ (ap (λ n. replicate n None) c.columns.ensures.count ∙ sym (columns_first base t.columns (omega arith)));
      refined = c.requires.refined;
      walked = whole_below_none t c.args.classes.now.of.items c.args.classes.now.leaders.items base;
    }

pub of-targets-requires-clause-symbols : goal.of-targets-requires-clause-symbols
of-targets-requires-clause-symbols c =
    let t = c.args.table.now in
    let base = length t.signature + 1 in
    subst (AreSymbols t.signature) (sym c.symbols.invariant.symbol) (symbols_at t.signature base t.columns c.symbols.counter (omega arith))

pub of-targets-requires-clause-width : goal.of-targets-requires-clause-width
of-targets-requires-clause-width c =
    let t = c.args.table.now in
    ap length c.symbols.invariant.symbol ∙ length-columns_at (length t.signature + 1) t.columns c.symbols.counter

pub symbols-preserved : goal.symbols-preserved
symbols-preserved c =
    let t = listed_table c.args.table.now in
    let o = c.args.classes.now.of.items in
    let l = c.args.classes.now.leaders.items in
    let base = length t.signature + 1 in
    let v = c.symbols.invariant in
    let f = c.symbols.symbol in
    let n = c.symbols.counter in
    let b : c.len-base.result + 1 ≡ base = omega (arith, c.len-base.ensures.count, ap length c.signature.ensures) in
    let o1 = c.symbols.classes.of.items in
    let l1 = c.symbols.classes.leaders.items in
    let o2 = c.visit_symbol.new.classes.of.items in
    let l2 = c.visit_symbol.new.classes.leaders.items in
    let walked : IsWalked (AreWholeUnder t o1 l1 f [] (symbol_kids t.signature f)) o1 l1 o2 l2 =
    walked_under c.of-targets.result.table.now c.args.table.now c.of-targets.result.symbol f o1 l1 o2 l2 c.of-targets.ensures.table c.of-targets.ensures.symbol c.in_ok-visit_symbol.ensures.walked in
    record {
      symbol = columns_next base t.columns n f c.to_next.new.self v.symbol
          (subst (λ k. (m : ℕ) → f ≡ columns_at k (length f) m → c.to_next.new.self ≡ columns_at k (length f) (m + 1)) b c.to_next.ensures.next);
      refined = subst (λ (x : Listed). IsRefined (listed_table x) o2 l2) c.of-targets.ensures.table c.in_ok-visit_symbol.ensures.refined;
      walked = whole_below_more t o l o1 l1 o2 l2 base n f (omega arith) v.symbol v.walked walked;
    }

pub returns-clause-walked : goal.returns-clause-walked
returns-clause-walked c =
    let t = listed_table c.args.table.now in
    let base = length t.signature + 1 in
    let own : c.args.list.now.base ≡ base = omega (arith, c.requires.list.base_is) in
    let all : base ^ t.columns ≤ c.symbols.counter = omega (arith, c.symbols-test.false, c.len-end.ensures, c.requires.list.starts_all, ap (λ b. b ^ t.columns) own) in
    whole_below_all t c.args.classes.now.of.items c.args.classes.now.leaders.items c.symbols.classes.of.items c.symbols.classes.leaders.items base c.symbols.counter (omega arith) all c.symbols.invariant.walked

pub visit_symbol-requires-clause-presences : goal.visit_symbol-requires-clause-presences
visit_symbol-requires-clause-presences c = c.requires.presences ∙ ap (λ (x : Listed). x.presences) (sym c.of-targets.ensures.table)

pub visit_symbol-requires-clause-symbols : goal.visit_symbol-requires-clause-symbols
visit_symbol-requires-clause-symbols c =
    let t = c.args.table.now in
    let base = length t.signature + 1 in
    let own : AreSymbols t.signature c.symbols.symbol = subst (AreSymbols t.signature) (sym c.symbols.invariant.symbol) (symbols_at t.signature base t.columns c.symbols.counter (omega arith)) in
    subst (λ (x : Listed). AreSymbols x.signature c.of-targets.result.symbol) (sym c.of-targets.ensures.table)
    (subst (AreSymbols t.signature) (sym c.of-targets.ensures.symbol) own)

pub visit_symbol-requires-clause-width : goal.visit_symbol-requires-clause-width
visit_symbol-requires-clause-width c =
    let t = c.args.table.now in
    ap length (c.of-targets.ensures.symbol ∙ c.symbols.invariant.symbol)
    ∙ (length-columns_at (length t.signature + 1) t.columns c.symbols.counter ∙ ap (λ (x : Listed). x.columns) (sym c.of-targets.ensures.table))

pub visit_symbol-requires-clause-few : goal.visit_symbol-requires-clause-few
visit_symbol-requires-clause-few c = omega (arith, c.requires.few, ap (λ (x : Listed). length x.presences) c.of-targets.ensures.table)

pub visit_symbol-requires-clause-refined : goal.visit_symbol-requires-clause-refined
visit_symbol-requires-clause-refined c =
    subst (λ (x : Listed). IsRefined (listed_table x) c.symbols.classes.of.items c.symbols.classes.leaders.items) (sym c.of-targets.ensures.table) c.symbols.invariant.refined
