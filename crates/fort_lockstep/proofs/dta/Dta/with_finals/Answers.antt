use Rattle.std.proofs.Common.{◌≡◌, ℕ, ◌<◌, length, get_or, true, false, sym, ap, subst, ◌∙◌}
use Rattle.fort_tables.specs.Tables.{Listed, full_presence}
use Rattle.fort_lockstep.specs.DtaInside.{listed_in}
use Rattle.fort_lockstep.proofs.OtherFinalsLaws.{IsListed-with_finals, IsTargetListOf-with_finals}
use Rattle.fort_lockstep.proofs.dta.Dta.with_finals.Goals as goal

pub invariant_of-result : goal.invariant_of-result
invariant_of-result c =
    let finals = c.args.finals.items in
    let i = c.self.invariant in
    let full = subst
    (λ (t : Listed). (q : ℕ) → q < length t.presences → get_or finals q false ≡ true → get_or t.presences q 0 ≡ full_presence t.columns)
    (sym c.self.view_is) c.requires.full in
    let count = c.requires.count ∙ sym (ap (λ (t : Listed). length t.presences) c.self.view_is) in
    rw c.in_ok-clone.ensures.cases
    (record {
      listed = IsListed-with_finals (listed_in c.self.inside) finals i.listed full;
      final_count = count;
      few = i.few;
      list = IsTargetListOf-with_finals (listed_in c.self.inside) finals c.self.inside.shared.value.list i.list;
      firsts = record { spans = i.firsts.spans; count = i.firsts.count; are = i.firsts.are };
    })

pub returns-clause-lawful : goal.returns-clause-lawful
returns-clause-lawful c =
    let finals = c.args.finals.items in
    let full = subst
    (λ (t : Listed). (q : ℕ) → q < length t.presences → get_or finals q false ≡ true → get_or t.presences q 0 ≡ full_presence t.columns)
    (sym c.self.view_is) c.requires.full in
    rw c.in_ok-clone.ensures.cases (IsListed-with_finals (listed_in c.self.inside) finals c.self.invariant.listed full)
