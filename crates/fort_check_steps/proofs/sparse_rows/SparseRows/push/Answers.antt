use Rattle.std.proofs.Common.{◌≡◌, ◌+◌, ◌*◌, ◌<◌, ◌≤◌, ◌++◌, ◌∷◌, [], ℕ, List, length, vec_len, ap, sym, subst, ◌∙◌, arith, length-append}
use Rattle.fort_tables.proofs.TupleLaws.{length-tabulate}
use Rattle.fort_tables.proofs.PieceLaws.{piece_within}
use Rattle.fort_check_steps.specs.SparseWords.{places_from, label_at}
use Rattle.fort_check_steps.specs.SparseRowsView.{SparseLabels}
use Rattle.fort_check_steps.specs.SparseRowsInside.{AreSparse, sparse_labels}
use Rattle.fort_check_steps.proofs.SparseLaws.{labels_more, sparse_more}
use Rattle.fort_check_steps.proofs.sparse_rows.SparseRows.push.Goals as goal

-- as many labels as ends
count_of : (w room most space : ℕ) (es ps ws : List ℕ) (l : SparseLabels) → record { width = w; room = room; most = most; space = space; labels = sparse_labels w es ps ws } ≡ l → length es ≡ length l.labels
count_of w room most space es ps ws l e = sym (length-tabulate (length es) (label_at w es ps ws)) ∙ ap (λ (r : SparseLabels). length r.labels) e

-- where one more label is wanted, its words have room
room_left : (n room w space len : ℕ) → n < room → room * w ≤ space → len ≤ n * w → len + w ≤ space
room_left n room w space len a b c = omega (arith, piece_within n room w a, b, c)

pub put_words-requires-clause-places : goal.put_words-requires-clause-places
put_words-requires-clause-places c =
    let a = c.self.inside in
    let i = c.self.invariant in
    let count = count_of a.width a.room a.most a.space a.ends.items a.places.items a.words.items c.args.self.now c.self.view_is in
    let few : length a.ends.items < a.room = omega (arith, count, c.requires.room, ap (λ (r : SparseLabels). r.room) c.self.view_is) in
    omega (arith, room_left (length a.ends.items) a.room a.width a.space (length a.places.items) few i.fits i.sparse.few, c.requires.width, ap (λ (r : SparseLabels). r.width) c.self.view_is, i.places_room, a.places.ok.0)

pub put_words-requires-clause-words : goal.put_words-requires-clause-words
put_words-requires-clause-words c =
    let a = c.self.inside in
    let i = c.self.invariant in
    let count = count_of a.width a.room a.most a.space a.ends.items a.places.items a.words.items c.args.self.now c.self.view_is in
    let few : length a.ends.items < a.room = omega (arith, count, c.requires.room, ap (λ (r : SparseLabels). r.room) c.self.view_is) in
    omega (arith, room_left (length a.ends.items) a.room a.width a.space (length a.places.items) few i.fits i.sparse.few, c.requires.width, ap (λ (r : SparseLabels). r.width) c.self.view_is, i.words_room, i.sparse.count, a.words.ok.0)

pub push_reserved-requires : goal.push_reserved-requires
push_reserved-requires c =
    let a = c.self.inside in
    let i = c.self.invariant in
    let count = count_of a.width a.room a.most a.space a.ends.items a.places.items a.words.items c.args.self.now c.self.view_is in
    omega (arith, count, c.requires.room, ap (λ (r : SparseLabels). r.room) c.self.view_is, i.within_most, i.ends_room, a.ends.ok.0)

pub invariant_of-self : goal.invariant_of-self
invariant_of-self c =
    let a = c.self.inside in
    let i = c.self.invariant in
    let label = c.args.label.now in
    let es = c.push_reserved.ensures.items in
    let ps = c.put_words.ensures.places in
    let ws = c.put_words.ensures.words in
    let count = count_of a.width a.room a.most a.space a.ends.items a.places.items a.words.items c.args.self.now c.self.view_is in
    let width : length label ≡ a.width = c.requires.width ∙ sym (ap (λ (r : SparseLabels). r.width) c.self.view_is) in
    let own : vec_len c.put_words.new.places ≡ length c.put_words.new.places.items = omega (arith, c.put_words.new.places.ok.0) in
    let end : c.len.result ≡ length a.places.items + length (places_from 0 label) = omega (arith, c.len.ensures, own, ap length ps, length-append a.places.items (places_from 0 label)) in
    record {
      sparse =
          subst (λ (xs : List ℕ). AreSparse a.width xs c.put_words.new.places.items c.put_words.new.words.items) (sym es)
          (subst (λ (xs : List ℕ). AreSparse a.width (a.ends.items ++ c.len.result ∷ []) xs c.put_words.new.words.items) (sym ps)
          (subst (λ (xs : List ℕ). AreSparse a.width (a.ends.items ++ c.len.result ∷ []) (a.places.items ++ places_from 0 label) xs) (sym ws)
          (sparse_more a.width a.ends.items a.places.items a.words.items c.len.result label i.sparse width end)));
      within = omega (arith, ap length es, length-append a.ends.items (c.len.result ∷ []), count, c.requires.room, ap (λ (r : SparseLabels). r.room) c.self.view_is);
      fits = i.fits;
      within_most = i.within_most;
      ends_room = omega (arith, i.ends_room, c.push_reserved.ensures.capacity);
      places_room = omega (arith, i.places_room, c.put_words.ensures.places_room);
      words_room = omega (arith, i.words_room, c.put_words.ensures.words_room);
    }

pub returns-clause-labels : goal.returns-clause-labels
returns-clause-labels c =
    let a = c.self.inside in
    let i = c.self.invariant in
    let label = c.args.label.now in
    let es = c.push_reserved.ensures.items in
    let ps = c.put_words.ensures.places in
    let ws = c.put_words.ensures.words in
    let width : length label ≡ a.width = c.requires.width ∙ sym (ap (λ (r : SparseLabels). r.width) c.self.view_is) in
    let own : vec_len c.put_words.new.places ≡ length c.put_words.new.places.items = omega (arith, c.put_words.new.places.ok.0) in
    let end : c.len.result ≡ length a.places.items + length (places_from 0 label) = omega (arith, c.len.ensures, own, ap length ps, length-append a.places.items (places_from 0 label)) in
    (λ j. sparse_labels a.width (es j) (ps j) (ws j))
    ∙ (labels_more a.width a.ends.items a.places.items a.words.items c.len.result label i.sparse width end
    ∙ ap (λ (r : SparseLabels). r.labels ++ label ∷ []) c.self.view_is)
