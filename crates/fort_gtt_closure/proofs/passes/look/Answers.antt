use Rattle.std.proofs.Common.{List, [], ◌∷◌, ◌++◌, ◌∙◌, sym, refl, subst, inl, inr}
use Rattle.fort_tree_automata.proofs.Truths.{not_both}
use Rattle.fort_gtt_closure.specs.declared.entry.Entry.{Entry}
use Rattle.fort_gtt_closure.specs.Ready.{IsAwake, Wakes}
use Rattle.fort_gtt_closure.proofs.AwakeLaws.{Rests, IsAwake-rested, IsAwake-woken}
use Rattle.fort_gtt_closure.proofs.ListedLaws.{listed-from_test, test-from_listed}
use Rattle.fort_gtt_closure.proofs.FirstReasonLaws.{first_reason-is_first, first_reason-none}
use Rattle.fort_gtt_closure.proofs.passes.look.Goals as goal

pub returns-then-has-clause-visited : goal.returns-then-has-clause-visited
returns-then-has-clause-visited c =
    inl (refl, λ due. due.unlisted (listed-from_test c.args.listing.now.grid.entries.items c.args.p c.args.q (sym c.has.ensures ∙ c.if-has.true)))

pub returns-then-has-clause-ready : goal.returns-then-has-clause-ready
returns-then-has-clause-ready c =
    let ready = c.requires.ready in
    let es = c.args.listing.now.grid.entries.items in
    let old = c.args.listing.now.agenda in
    let rests : Rests c.args.p c.args.q old c.rest.new.self = record { shape = c.rest.ensures.shape; through = c.rest.ensures.through; others = c.rest.ensures.others } in
    record {
      height = ready.height;
      width = ready.width;
      awake = IsAwake-rested c.args.agtt.now es c.args.p c.args.q c.requires.left old c.rest.new.self ready.awake rests
          (λ due. due.unlisted (listed-from_test es c.args.p c.args.q (sym c.has.ensures ∙ c.if-has.true)));
    }

pub returns-in_ok-wake-clause-visited : goal.returns-in_ok-wake-clause-visited
returns-in_ok-wake-clause-visited c =
    let given = c.requires.given in
    inr (
      c.in-Some.why,
      (λ there. not_both (test-from_listed c.args.listing.now.grid.entries.items c.args.p c.args.q there) (sym c.has.ensures ∙ c.if-has.false)),
      first_reason-is_first c.args.agtt.now c.args.inhabited.now given.marked c.args.listing.now.grid.entries.items c.args.p c.args.q c.in-Some.why c.in-Some.ensures,
      c.in_ok-add.ensures.items,
    )

pub returns-in_ok-wake-clause-ready : goal.returns-in_ok-wake-clause-ready
returns-in_ok-wake-clause-ready c =
    let given = c.requires.given in
    let ready = c.requires.ready in
    let agtt = c.args.agtt.now in
    let es = c.args.listing.now.grid.entries.items in
    let old = c.args.listing.now.agenda in
    let rested = c.rest.new.self in
    let new = c.wake.new.self in
    let rests : Rests c.args.p c.args.q old rested = record { shape = c.rest.ensures.shape; through = c.rest.ensures.through; others = c.rest.ensures.others } in
    let woken : IsAwake agtt (es ++ record { p = c.args.p; q = c.args.q; why = c.in-Some.why } ∷ []) new =
    IsAwake-woken agtt es c.args.p c.args.q c.requires.left old rested ready.awake rests c.args.links.now given.named given.leads c.in-Some.why c.requires.right new
    (subst (λ (zs : List Entry). Wakes c.args.links.now zs c.args.p c.args.q rested new) c.in_ok-add.ensures.items c.in_ok-wake.ensures) in
    record {
      height = c.add.ensures.height ∙ ready.height;
      width = c.add.ensures.width ∙ ready.width;
      awake = subst (λ (zs : List Entry). IsAwake agtt zs new) (sym c.in_ok-add.ensures.items) woken;
    }

pub returns-in_default-clause-visited : goal.returns-in_default-clause-visited
returns-in_default-clause-visited c =
    inl (refl, λ due. first_reason-none c.args.agtt.now c.args.inhabited.now c.requires.given.marked c.args.listing.now.grid.entries.items c.args.p c.args.q c.in_default.ensures due.why due.follows)

pub returns-in_default-clause-ready : goal.returns-in_default-clause-ready
returns-in_default-clause-ready c =
    let ready = c.requires.ready in
    let es = c.args.listing.now.grid.entries.items in
    let old = c.args.listing.now.agenda in
    let rests : Rests c.args.p c.args.q old c.rest.new.self = record { shape = c.rest.ensures.shape; through = c.rest.ensures.through; others = c.rest.ensures.others } in
    record {
      height = ready.height;
      width = ready.width;
      awake = IsAwake-rested c.args.agtt.now es c.args.p c.args.q c.requires.left old c.rest.new.self ready.awake rests
          (λ due. first_reason-none c.args.agtt.now c.args.inhabited.now c.requires.given.marked es c.args.p c.args.q c.in_default.ensures due.why due.follows);
    }
