use Rattle.std.proofs.Common.{◌≡◌, ◌<◌, ◌^◌, drop, length, vec_len, refl, ap, sym, ◌∙◌, arith, subst}
use Rattle.fort_tables.specs.Laid.{start_of}
use Rattle.fort_target_lists.specs.Walks.{entries_of, AreStageBegins}
use Rattle.fort_target_lists.proofs.LayLaws.{counting_first, counted_all, all_targets, whole_slice}
use Rattle.fort_target_lists.proofs.states.LayRoom.begin_cursors.Goals as goal

pub pass_all-requires-clause-between : goal.pass_all-requires-clause-between
pass_all-requires-clause-between c =
    let t = c.requires.table.0 in
    let h = c.requires.table.1 in
    let blank = c.args.self.now.blank in
    let zeros = c.as_mut_slice-cursors.result.now in
    let first = counting_first t _ c.args.self.now c.len.result c.fill_given.new.elements.items zeros blank.starts.items blank.targets.items h refl refl c.len.ensures
    c.as_mut_slice-cursors.ensures.value c.fill_given.ensures.size (λ w l. c.fill_given.ensures.equal w l 0) in
    (t, zeros, first.1)

pub begin_stages-requires : goal.begin_stages-requires
begin_stages-requires c =
    let t = c.requires.table.0 in
    let h = c.requires.table.1 in
    let blank = c.args.self.now.blank in
    let passed = c.pass_all.new.listing in
    let zeros = c.as_mut_slice-cursors.result.now in
    let first = counting_first t _ c.args.self.now c.len.result c.fill_given.new.elements.items zeros blank.starts.items blank.targets.items h refl refl c.len.ensures
    c.as_mut_slice-cursors.ensures.value c.fill_given.ensures.size (λ w l. c.fill_given.ensures.equal w l 0) in
    let done = c.pass_all.ensures.between t zeros first.1 in
    let counts = counted_all t _ zeros c.pass_all.new.cursors passed.starts.items passed.targets.items c.args.count first.0 c.requires.count done in
    let short : length t.targets < 2 ^ 64 = h.listed.few in
    (entries_of t, counts, omega (arith, ap (start_of (entries_of t)) done.passed.size, all_targets t h.listed, ap length h.targets_are, short))

pub returns-clause-begins : goal.returns-clause-begins
returns-clause-begins c = λ t h.
    let blank = c.args.self.now.blank in
    let passed = c.pass_all.new.listing in
    let zeros = c.as_mut_slice-cursors.result.now in
    let first = counting_first t _ c.args.self.now c.len.result c.fill_given.new.elements.items zeros blank.starts.items blank.targets.items h refl refl c.len.ensures
    c.as_mut_slice-cursors.ensures.value c.fill_given.ensures.size (λ w l. c.fill_given.ensures.equal w l 0) in
    let done = c.pass_all.ensures.between t zeros first.1 in
    let counts = counted_all t _ zeros c.pass_all.new.cursors passed.starts.items passed.targets.items c.args.count first.0 c.requires.count done in
    let new = c.begin_stages.new.cursors in
    let numbers = c.fill_given.new.elements in
    let begun : AreStageBegins t new = record {
      size = c.begin_stages.ensures.size ∙ done.passed.size;
      begin = λ s l. c.begin_stages.ensures.begins (entries_of t) counts s (omega (arith, l, c.begin_stages.ensures.size));
    } in
    let count : vec_len numbers ≡ length new = omega (arith, numbers.ok.0, begun.size, first.0.size, ap length c.as_mut_slice-cursors.ensures.value) in
    subst (AreStageBegins t) (sym (whole_slice (vec_len numbers) new (drop (length new) numbers.items) count)) begun
