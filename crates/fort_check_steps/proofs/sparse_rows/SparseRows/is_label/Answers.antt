use Rattle.std.proofs.Common.{◌≡◌, ◌<◌, ℕ, List, [], length, get_or, refl, ap, sym, ◌∙◌, arith}
use Rattle.std.proofs.lemmas.Bool.{eq-eqb, eqb-true}
use Rattle.fort_tables.proofs.TupleLaws.{get_or-tabulate}
use Rattle.fort_check_steps.specs.SparseWords.{start_of, piece, label_at}
use Rattle.fort_check_steps.specs.SparseRowsView.{SparseLabels}
use Rattle.fort_check_steps.specs.SparseRowsInside.{sparse_labels}
use Rattle.fort_check_steps.proofs.SparseLaws.{length-piece, there, part_of, same_words, label_with, length-label_at}
use Rattle.fort_check_steps.proofs.sparse_rows.SparseRows.is_label.Goals as goal

pub start-from-requires : goal.start-from-requires
start-from-requires c =
    let a = c.self.inside in
    let l = there a.width a.room a.most a.space a.ends.items a.places.items a.words.items c.args.self.now c.args.q c.self.view_is c.requires in
    omega (arith, l, ap length c.as_slice.ensures.value)

pub index-to-requires : goal.index-to-requires
index-to-requires c =
    let a = c.self.inside in
    let l = there a.width a.room a.most a.space a.ends.items a.places.items a.words.items c.args.self.now c.args.q c.self.view_is c.requires in
    omega (arith, l, a.ends.ok.0)

pub offset_bounds-places-from : goal.offset_bounds-places-from
offset_bounds-places-from c =
    let a = c.self.inside in
    let l = there a.width a.room a.most a.space a.ends.items a.places.items a.words.items c.args.self.now c.args.q c.self.view_is c.requires in
    let p = part_of a.width a.ends.items c.as_slice.result.now a.places.items a.words.items c.args.q c.start-from.result c.index-to.result.now c.self.invariant.sparse l c.as_slice.ensures.value c.start-from.ensures c.index-to.ensures in
    omega (arith, p.ordered, p.inside, ap length c.as_slice-places.ensures.value, c.as_slice-places.ensures.len, c.as_slice-places.type_inv)

pub slice_bounds-are_words-count : goal.slice_bounds-are_words-count
slice_bounds-are_words-count c =
    let a = c.self.inside in
    let l = there a.width a.room a.most a.space a.ends.items a.places.items a.words.items c.args.self.now c.args.q c.self.view_is c.requires in
    let p = part_of a.width a.ends.items c.as_slice.result.now a.places.items a.words.items c.args.q c.start-from.result c.index-to.result.now c.self.invariant.sparse l c.as_slice.ensures.value c.start-from.ensures c.index-to.ensures in
    omega (arith, p.ordered, p.inside, ap length c.as_slice-places.ensures.value, c.as_slice-places.ensures.len, c.as_slice-places.type_inv)

pub slice_bounds-are_words-start : goal.slice_bounds-are_words-start
slice_bounds-are_words-start c =
    let a = c.self.inside in
    let l = there a.width a.room a.most a.space a.ends.items a.places.items a.words.items c.args.self.now c.args.q c.self.view_is c.requires in
    let p = part_of a.width a.ends.items c.as_slice.result.now a.places.items a.words.items c.args.q c.start-from.result c.index-to.result.now c.self.invariant.sparse l c.as_slice.ensures.value c.start-from.ensures c.index-to.ensures in
    omega (arith, p.ordered, p.inside, ap length c.as_slice-places.ensures.value, c.as_slice-places.ensures.len, c.as_slice-places.type_inv)

pub slice_bounds-are_words-end : goal.slice_bounds-are_words-end
slice_bounds-are_words-end c =
    let a = c.self.inside in
    let l = there a.width a.room a.most a.space a.ends.items a.places.items a.words.items c.args.self.now c.args.q c.self.view_is c.requires in
    let p = part_of a.width a.ends.items c.as_slice.result.now a.places.items a.words.items c.args.q c.start-from.result c.index-to.result.now c.self.invariant.sparse l c.as_slice.ensures.value c.start-from.ensures c.index-to.ensures in
    omega (arith, p.ordered, p.inside, ap length c.as_slice-places.ensures.value, c.as_slice-places.ensures.len, c.as_slice-places.type_inv)

pub offset_bounds-words-from : goal.offset_bounds-words-from
offset_bounds-words-from c =
    let a = c.self.inside in
    let l = there a.width a.room a.most a.space a.ends.items a.places.items a.words.items c.args.self.now c.args.q c.self.view_is c.requires in
    let p = part_of a.width a.ends.items c.as_slice.result.now a.places.items a.words.items c.args.q c.start-from.result c.index-to.result.now c.self.invariant.sparse l c.as_slice.ensures.value c.start-from.ensures c.index-to.ensures in
    omega (arith, p.ordered, p.inside_words, ap length c.as_slice-words.ensures.value, c.as_slice-words.ensures.len, c.as_slice-words.type_inv)

pub slice_bounds-are_words-count-then-label-self : goal.slice_bounds-are_words-count-then-label-self
slice_bounds-are_words-count-then-label-self c =
    let a = c.self.inside in
    let l = there a.width a.room a.most a.space a.ends.items a.places.items a.words.items c.args.self.now c.args.q c.self.view_is c.requires in
    let p = part_of a.width a.ends.items c.as_slice.result.now a.places.items a.words.items c.args.q c.start-from.result c.index-to.result.now c.self.invariant.sparse l c.as_slice.ensures.value c.start-from.ensures c.index-to.ensures in
    omega (arith, p.ordered, p.inside_words, ap length c.as_slice-words.ensures.value, c.as_slice-words.ensures.len, c.as_slice-words.type_inv)

pub slice_bounds-are_words-start-then-label-self : goal.slice_bounds-are_words-start-then-label-self
slice_bounds-are_words-start-then-label-self c =
    let a = c.self.inside in
    let l = there a.width a.room a.most a.space a.ends.items a.places.items a.words.items c.args.self.now c.args.q c.self.view_is c.requires in
    let p = part_of a.width a.ends.items c.as_slice.result.now a.places.items a.words.items c.args.q c.start-from.result c.index-to.result.now c.self.invariant.sparse l c.as_slice.ensures.value c.start-from.ensures c.index-to.ensures in
    omega (arith, p.ordered, p.inside_words, ap length c.as_slice-words.ensures.value, c.as_slice-words.ensures.len, c.as_slice-words.type_inv)

pub slice_bounds-are_words-end-then-label-self : goal.slice_bounds-are_words-end-then-label-self
slice_bounds-are_words-end-then-label-self c =
    let a = c.self.inside in
    let l = there a.width a.room a.most a.space a.ends.items a.places.items a.words.items c.args.self.now c.args.q c.self.view_is c.requires in
    let p = part_of a.width a.ends.items c.as_slice.result.now a.places.items a.words.items c.args.q c.start-from.result c.index-to.result.now c.self.invariant.sparse l c.as_slice.ensures.value c.start-from.ensures c.index-to.ensures in
    omega (arith, p.ordered, p.inside_words, ap length c.as_slice-words.ensures.value, c.as_slice-words.ensures.len, c.as_slice-words.type_inv)

pub are_words-requires : goal.are_words-requires
are_words-requires c =
    let a = c.self.inside in
    let l = there a.width a.room a.most a.space a.ends.items a.places.items a.words.items c.args.self.now c.args.q c.self.view_is c.requires in
    let p = part_of a.width a.ends.items c.as_slice.result.now a.places.items a.words.items c.args.q c.start-from.result c.index-to.result.now c.self.invariant.sparse l c.as_slice.ensures.value c.start-from.ensures c.index-to.ensures in
    let from = c.start-from.result in
    let to = c.index-to.result.now in
    omega (arith, length-piece from to a.places.items p.ordered p.inside, length-piece from to a.words.items p.ordered p.inside_words, ap (λ (xs : List ℕ). length (piece from to xs)) c.as_slice-places.ensures.value, ap (λ (xs : List ℕ). length (piece from to xs)) c.as_slice-words.ensures.value)

-- label q of a list of labels
label_is : (w room most space : ℕ) (es ps ws : List ℕ) (l : SparseLabels) (q : ℕ) → record { width = w; room = room; most = most; space = space; labels = sparse_labels w es ps ws } ≡ l → q < length es → get_or l.labels q [] ≡ label_at w es ps ws q
label_is w room most space es ps ws l q e h = sym (ap (λ (r : SparseLabels). get_or r.labels q []) e) ∙ get_or-tabulate (length es) (label_at w es ps ws) q [] h

pub returns-then-label-self : goal.returns-then-label-self
returns-then-label-self c =
    let a = c.self.inside in
    let l = there a.width a.room a.most a.space a.ends.items a.places.items a.words.items c.args.self.now c.args.q c.self.view_is c.requires in
    let p = part_of a.width a.ends.items c.as_slice.result.now a.places.items a.words.items c.args.q c.start-from.result c.index-to.result.now c.self.invariant.sparse l c.as_slice.ensures.value c.start-from.ensures c.index-to.ensures in
    let es = a.ends.items in
    let q = c.args.q in
    let label = c.args.label.now in
    let ps = c.as_slice-places.ensures.value in
    let ws = c.as_slice-words.ensures.value in
    let is = label_is a.width a.room a.most a.space es a.places.items a.words.items c.args.self.now q c.self.view_is l in
    let places : piece c.start-from.result c.index-to.result.now c.as_slice-places.result.now ≡ piece (start_of es q) (get_or es q 0) a.places.items = λ j. piece (p.first j) (p.end j) (ps j) in
    let words : piece c.start-from.result c.index-to.result.now c.as_slice-words.result.now ≡ piece (start_of es q) (get_or es q 0) a.words.items = λ j. piece (p.first j) (p.end j) (ws j) in
    (λ t. is ∙ label_with a.width es a.places.items a.words.items label q c.if-label-self.true (same_words (c.are_words.ensures.0 t) refl places words), λ e. c.are_words.ensures.1 (same_words (c.self.invariant.sparse.exact q l) (sym is ∙ e) (sym places) (sym words)))

pub returns-else-label-self : goal.returns-else-label-self
returns-else-label-self c =
    let a = c.self.inside in
    let l = there a.width a.room a.most a.space a.ends.items a.places.items a.words.items c.args.self.now c.args.q c.self.view_is c.requires in
    let es = a.ends.items in
    let q = c.args.q in
    let is = label_is a.width a.room a.most a.space es a.places.items a.words.items c.args.self.now q c.self.view_is l in
    let same : get_or c.args.self.now.labels q [] ≡ c.args.label.now → length c.args.label.now ≡ a.width = λ e. sym (ap length (sym is ∙ e)) ∙ length-label_at a.width es a.places.items a.words.items q in
    (λ t. absurd (c.if-label-self.false (eqb-true (length c.args.label.now) a.width t)), λ e. eq-eqb (length c.args.label.now) a.width (same e))
