use Rattle.std.proofs.Common.{◌≡◌, ◌+◌, ◌-◌, ◌<◌, ℕ, List, [], length, get_or, ap, sym, ◌∙◌, arith}
use Rattle.std.proofs.Math.ListN.{replicate}
use Rattle.fort_tables.proofs.TupleLaws.{get_or-tabulate}
use Rattle.fort_check_steps.specs.SparseWords.{piece, scattered, label_at}
use Rattle.fort_check_steps.specs.SparseRowsView.{SparseLabels}
use Rattle.fort_check_steps.proofs.SparseLaws.{length-piece, get_or-piece, there, part_of}
use Rattle.fort_check_steps.proofs.sparse_rows.SparseRows.write.Goals as goal

pub start-from-requires : goal.start-from-requires
start-from-requires c =
    let a = c.self.inside in
    let l = there a.width a.room a.most a.space a.ends.items a.places.items a.words.items c.args.self.now c.args.q c.self.view_is c.requires.state in
    omega (arith, l, ap length c.as_slice.ensures.value)

pub index-to-requires : goal.index-to-requires
index-to-requires c =
    let a = c.self.inside in
    let l = there a.width a.room a.most a.space a.ends.items a.places.items a.words.items c.args.self.now c.args.q c.self.view_is c.requires.state in
    omega (arith, l, a.ends.ok.0)

pub slice_bounds-scatter-count : goal.slice_bounds-scatter-count
slice_bounds-scatter-count c =
    let a = c.self.inside in
    let l = there a.width a.room a.most a.space a.ends.items a.places.items a.words.items c.args.self.now c.args.q c.self.view_is c.requires.state in
    let p = part_of a.width a.ends.items c.as_slice.result.now a.places.items a.words.items c.args.q c.start-from.result c.index-to.result.now c.self.invariant.sparse l c.as_slice.ensures.value c.start-from.ensures c.index-to.ensures in
    omega (arith, p.ordered, p.inside, ap length c.as_slice-places.ensures.value, c.as_slice-places.ensures.len, c.as_slice-places.type_inv)

pub slice_bounds-scatter-start : goal.slice_bounds-scatter-start
slice_bounds-scatter-start c =
    let a = c.self.inside in
    let l = there a.width a.room a.most a.space a.ends.items a.places.items a.words.items c.args.self.now c.args.q c.self.view_is c.requires.state in
    let p = part_of a.width a.ends.items c.as_slice.result.now a.places.items a.words.items c.args.q c.start-from.result c.index-to.result.now c.self.invariant.sparse l c.as_slice.ensures.value c.start-from.ensures c.index-to.ensures in
    omega (arith, p.ordered, p.inside, ap length c.as_slice-places.ensures.value, c.as_slice-places.ensures.len, c.as_slice-places.type_inv)

pub slice_bounds-scatter-end : goal.slice_bounds-scatter-end
slice_bounds-scatter-end c =
    let a = c.self.inside in
    let l = there a.width a.room a.most a.space a.ends.items a.places.items a.words.items c.args.self.now c.args.q c.self.view_is c.requires.state in
    let p = part_of a.width a.ends.items c.as_slice.result.now a.places.items a.words.items c.args.q c.start-from.result c.index-to.result.now c.self.invariant.sparse l c.as_slice.ensures.value c.start-from.ensures c.index-to.ensures in
    omega (arith, p.ordered, p.inside, ap length c.as_slice-places.ensures.value, c.as_slice-places.ensures.len, c.as_slice-places.type_inv)

pub offset_bounds-words-from : goal.offset_bounds-words-from
offset_bounds-words-from c =
    let a = c.self.inside in
    let l = there a.width a.room a.most a.space a.ends.items a.places.items a.words.items c.args.self.now c.args.q c.self.view_is c.requires.state in
    let p = part_of a.width a.ends.items c.as_slice.result.now a.places.items a.words.items c.args.q c.start-from.result c.index-to.result.now c.self.invariant.sparse l c.as_slice.ensures.value c.start-from.ensures c.index-to.ensures in
    omega (arith, p.ordered, p.inside_words, ap length c.as_slice-words.ensures.value, c.as_slice-words.ensures.len, c.as_slice-words.type_inv)

pub slice_bounds-scatter-count-2 : goal.slice_bounds-scatter-count-2
slice_bounds-scatter-count-2 c =
    let a = c.self.inside in
    let l = there a.width a.room a.most a.space a.ends.items a.places.items a.words.items c.args.self.now c.args.q c.self.view_is c.requires.state in
    let p = part_of a.width a.ends.items c.as_slice.result.now a.places.items a.words.items c.args.q c.start-from.result c.index-to.result.now c.self.invariant.sparse l c.as_slice.ensures.value c.start-from.ensures c.index-to.ensures in
    omega (arith, p.ordered, p.inside_words, ap length c.as_slice-words.ensures.value, c.as_slice-words.ensures.len, c.as_slice-words.type_inv)

pub slice_bounds-scatter-start-2 : goal.slice_bounds-scatter-start-2
slice_bounds-scatter-start-2 c =
    let a = c.self.inside in
    let l = there a.width a.room a.most a.space a.ends.items a.places.items a.words.items c.args.self.now c.args.q c.self.view_is c.requires.state in
    let p = part_of a.width a.ends.items c.as_slice.result.now a.places.items a.words.items c.args.q c.start-from.result c.index-to.result.now c.self.invariant.sparse l c.as_slice.ensures.value c.start-from.ensures c.index-to.ensures in
    omega (arith, p.ordered, p.inside_words, ap length c.as_slice-words.ensures.value, c.as_slice-words.ensures.len, c.as_slice-words.type_inv)

pub slice_bounds-scatter-end-2 : goal.slice_bounds-scatter-end-2
slice_bounds-scatter-end-2 c =
    let a = c.self.inside in
    let l = there a.width a.room a.most a.space a.ends.items a.places.items a.words.items c.args.self.now c.args.q c.self.view_is c.requires.state in
    let p = part_of a.width a.ends.items c.as_slice.result.now a.places.items a.words.items c.args.q c.start-from.result c.index-to.result.now c.self.invariant.sparse l c.as_slice.ensures.value c.start-from.ensures c.index-to.ensures in
    omega (arith, p.ordered, p.inside_words, ap length c.as_slice-words.ensures.value, c.as_slice-words.ensures.len, c.as_slice-words.type_inv)

pub scatter-requires-clause-count : goal.scatter-requires-clause-count
scatter-requires-clause-count c =
    let a = c.self.inside in
    let l = there a.width a.room a.most a.space a.ends.items a.places.items a.words.items c.args.self.now c.args.q c.self.view_is c.requires.state in
    let p = part_of a.width a.ends.items c.as_slice.result.now a.places.items a.words.items c.args.q c.start-from.result c.index-to.result.now c.self.invariant.sparse l c.as_slice.ensures.value c.start-from.ensures c.index-to.ensures in
    let from = c.start-from.result in
    let to = c.index-to.result.now in
    omega (arith, length-piece from to a.places.items p.ordered p.inside, length-piece from to a.words.items p.ordered p.inside_words, ap (λ (xs : List ℕ). length (piece from to xs)) c.as_slice-places.ensures.value, ap (λ (xs : List ℕ). length (piece from to xs)) c.as_slice-words.ensures.value)

pub scatter-requires-clause-within : goal.scatter-requires-clause-within
scatter-requires-clause-within c k low =
    let a = c.self.inside in
    let l = there a.width a.room a.most a.space a.ends.items a.places.items a.words.items c.args.self.now c.args.q c.self.view_is c.requires.state in
    let p = part_of a.width a.ends.items c.as_slice.result.now a.places.items a.words.items c.args.q c.start-from.result c.index-to.result.now c.self.invariant.sparse l c.as_slice.ensures.value c.start-from.ensures c.index-to.ensures in
    let from = c.start-from.result in
    let to = c.index-to.result.now in
    let n = length-piece from to a.places.items p.ordered p.inside in
    let same = c.as_slice-places.ensures.value in
    let m : k < to - from = omega (arith, low, n, ap (λ (xs : List ℕ). length (piece from to xs)) same) in
    let i : from + k < length a.places.items = omega (arith, m, p.inside) in
    omega (arith, ap (λ (xs : List ℕ). get_or (piece from to xs) k 0) same, get_or-piece from to a.places.items k 0 m, c.self.invariant.sparse.placed (from + k) i, c.fill.ensures.len, c.requires.width, ap (λ (r : SparseLabels). r.width) c.self.view_is)

pub returns : goal.returns
returns c =
    let a = c.self.inside in
    let l = there a.width a.room a.most a.space a.ends.items a.places.items a.words.items c.args.self.now c.args.q c.self.view_is c.requires.state in
    let p = part_of a.width a.ends.items c.as_slice.result.now a.places.items a.words.items c.args.q c.start-from.result c.index-to.result.now c.self.invariant.sparse l c.as_slice.ensures.value c.start-from.ensures c.index-to.ensures in
    let from = c.start-from.result in
    let to = c.index-to.result.now in
    let es = a.ends.items in
    let ps = c.as_slice-places.ensures.value in
    let ws = c.as_slice-words.ensures.value in
    let width : length c.args.out.now ≡ a.width = c.requires.width ∙ sym (ap (λ (r : SparseLabels). r.width) c.self.view_is) in
    let zeros : c.fill.new.self ≡ replicate a.width 0 = c.fill.ensures.after (λ y e. e) ∙ ap (λ n. replicate n 0) width in
    c.scatter.ensures
    ∙ ((λ j. scattered (zeros j) (piece (p.first j) (p.end j) (ps j)) (piece (p.first j) (p.end j) (ws j)))
    ∙ (sym (get_or-tabulate (length es) (label_at a.width es a.places.items a.words.items) c.args.q [] l)
    ∙ ap (λ (r : SparseLabels). get_or r.labels c.args.q []) c.self.view_is))
