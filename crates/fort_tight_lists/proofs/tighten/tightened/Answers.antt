use Rattle.std.proofs.Common.{◌≡◌, ℕ, ◌+◌, ◌*◌, ◌^◌, ◌≤◌, length, ap, sym, subst, ◌∙◌, arith}
use Rattle.fort_theory.specs.Signatures.{Signature}
use Rattle.fort_tables.specs.Tables.{Table}
use Rattle.fort_target_lists.specs.declared.class_list.ClassList.{ClassList}
use Rattle.fort_tight_lists.specs.TightSymbols.{HasTightSymbols, AreReadable}
use Rattle.fort_tight_lists.specs.TightLists.{IsListedOver}
use Rattle.fort_tight_lists.specs.declared.parts.TightParts.{TightParts}
use Rattle.fort_tight_lists.proofs.TightListLaws.{are_readable, tight_list, tight_leaders}
use Rattle.fort_tight_lists.proofs.tighten.tightened.Goals as goal

-- how many tuple symbols there are
starts_count : (sig : Signature) (columns : ℕ) (body : Table) (l : ClassList) → IsListedOver sig columns body l → length l.starts.items ≡ (length sig + 1) ^ columns
starts_count sig columns body l h =
    let base : l.base ≡ length sig + 1 = omega (arith, h.list.base_is, ap length h.signature) in
    h.list.starts_all ∙ (ap (λ k. l.base ^ k) h.columns_are ∙ ap (λ b. b ^ columns) base)

-- the parts are those of the table's own signature and columns
parts_of : (sig : Signature) (columns : ℕ) (body : Table) (l : ClassList) (t : TightParts) → IsListedOver sig columns body l → HasTightSymbols sig columns (length l.starts.items) l t → HasTightSymbols body.signature body.columns (l.base ^ body.columns) l t
parts_of sig columns body l t h s =
    subst (λ n. HasTightSymbols body.signature body.columns n l t) h.list.starts_all
    (subst (λ k. HasTightSymbols body.signature k (length l.starts.items) l t) (sym h.columns_are) (subst (λ (g : Signature). HasTightSymbols g columns (length l.starts.items) l t) (sym h.signature) s))

pub of_all-requires-clause-count : goal.of_all-requires-clause-count
of_all-requires-clause-count c = starts_count c.args.sig.now c.args.columns c.requires.listed.0 c.args.list c.requires.listed.1

pub of_all-requires-clause-few : goal.of_all-requires-clause-few
of_all-requires-clause-few c = omega (arith, starts_count c.args.sig.now c.args.columns c.requires.listed.0 c.args.list c.requires.listed.1, c.requires.places)

pub of_all-requires-clause-readable : goal.of_all-requires-clause-readable
of_all-requires-clause-readable c =
    let body = c.requires.listed.0 in
    let h = c.requires.listed.1 in
    let l = c.args.list in
    subst (λ k. AreReadable c.args.sig.now k l) h.columns_are (subst (λ (g : Signature). AreReadable g body.columns l) h.signature (are_readable body l h.list h.leaders c.requires.few))

pub returns-clause-list : goal.returns-clause-list
returns-clause-list c = λ body h.
    let l = c.args.list in
    let few : 8 * (l.base ^ body.columns) ≤ 2 ^ 32 = omega (arith, h.list.starts_all, starts_count c.args.sig.now c.args.columns body l h, c.requires.places) in
    tight_list body l c.in_ok-made.made h.list h.leaders (parts_of c.args.sig.now c.args.columns body l c.in_ok-made.made h c.in_ok-made.ensures) few

pub returns-clause-leaders : goal.returns-clause-leaders
returns-clause-leaders c = λ body h.
    let l = c.args.list in
    tight_leaders body l c.in_ok-made.made h.list h.leaders (parts_of c.args.sig.now c.args.columns body l c.in_ok-made.made h c.in_ok-made.ensures)
