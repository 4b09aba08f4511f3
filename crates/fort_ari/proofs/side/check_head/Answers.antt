use Rattle.std.proofs.Common.{◌≡◌, ◌-◌, true, false, Some, refl, ap, ◌∙◌, arith}
use Rattle.fort_ari.proofs.SideLaws.{below_from_name_of}
use Rattle.fort_ari.proofs.SideHeads.{function_named, bad_short, bad_head, bad_head_name, bad_variable, bad_count, head_for}
use Rattle.fort_ari.proofs.side.check_head.Goals as goal

pub returns-then-len-lt2-clause-fault : goal.returns-then-len-lt2-clause-fault
returns-then-len-lt2-clause-fault c = bad_short _ _ _ _ _ c.requires.elements (omega (arith, c.if-len-lt2.true, c.len.ensures))

pub returns-in_default-clause-fault : goal.returns-in_default-clause-fault
returns-in_default-clause-fault c =
    bad_head _ _ _ _ _ c.requires.elements _ (omega (arith, c.if-len-lt2.false, c.len.ensures)) c.get-head.ensures.form
    (rw (c.get-head.ensures.bytes ∙ c.requires.bytes) at c.in_default.ensures.none)

pub returns-then-not-is_name-clause-fault : goal.returns-then-not-is_name-clause-fault
returns-then-not-is_name-clause-fault c =
    bad_head_name _ _ _ _ _ c.requires.elements _ (omega (arith, c.if-len-lt2.false, c.len.ensures)) c.get-head.ensures.form c.in-Some.name.now
    (rw (c.get-head.ensures.bytes ∙ c.requires.bytes) at c.in-Some.ensures.some) (λ named. let none : false ≡ true = c.if-not-is_name.ensures.1 named in cc)

pub returns-in_default-find-clause-fault : goal.returns-in_default-find-clause-fault
returns-in_default-find-clause-fault c =
    bad_variable _ _ _ _ _ c.requires.elements _ (omega (arith, c.if-len-lt2.false, c.len.ensures)) c.get-head.ensures.form c.in-Some.name.now
    (record {
      word = rw (c.get-head.ensures.bytes ∙ c.requires.bytes) at c.in-Some.ensures.some;
      named = c.if-not-is_name.ensures.0 refl;
      free = c.in_default-find.ensures.none;
    })

pub arity-requires : goal.arity-requires
arity-requires c = below_from_name_of _ _ _ c.in-Some-find.ensures.found

pub returns-then-arity-len-clause-fault : goal.returns-then-arity-len-clause-fault
returns-then-arity-len-clause-fault c =
    bad_count _ _ _ _ _ c.requires.elements _ (omega (arith, c.if-len-lt2.false, c.len.ensures)) c.get-head.ensures.form c.in-Some-find.sym.0
    (function_named _ _ _ c.len-count.ensures.lawful (rw (c.get-head.ensures.bytes ∙ c.requires.bytes) at c.in-Some.ensures.some) c.in-Some-find.ensures.found)
    (λ takes. let is = c.arity.ensures in let same : c.arity.result ≡ c.len-2.result - 1 = cc in c.if-arity-len.true same)

pub returns-clause-ok : goal.returns-clause-ok
returns-clause-ok c =
    head_for _ _ c.args.number _ _ c.requires.elements _ (omega (arith, c.if-len-lt2.false, c.len.ensures)) c.get-head.ensures.form c.in-Some-find.sym.0
    (function_named _ _ _ c.len-count.ensures.lawful (rw (c.get-head.ensures.bytes ∙ c.requires.bytes) at c.in-Some.ensures.some) c.in-Some-find.ensures.found)
    (c.arity.ensures ∙ (ap Some c.if-arity-len.false ∙ ap (λ n. Some (n - 1)) c.len-2.ensures))
