-- The label of "infinitely many" says of each tuple what it should.
use Rattle.std.proofs.Common.{◌≡◌, ℕ, ◌+◌, ◌-◌, ◌*◌, ◌<◌, ◌↔◌, List, [], ◌∷◌, map, length, None, Bool, true, inl, inr, refl, ap, sym, ◌∙◌, arith, subst, if◌then◌else◌}
use Rattle.std.specs.List.{insert}
use Rattle.std.proofs.lemmas.Bool.{cases_Bool, lt-ltb, le-ltb}
use Rattle.std.proofs.lemmas.List.{length-map, get_or-map, ext_get_or}
use Rattle.fort_theory.specs.Logic.{HasInfinitelyMany}
use Rattle.fort_tables.specs.Tuples.{Tuple, TupleSymbol, tabulate, root, kid, kid_count, presence, IsTuple}
use Rattle.fort_tables.specs.Entries.{entry}
use Rattle.fort_tables.specs.Tables.{Table, IsTable, IsReached, state_of}
use Rattle.fort_tables.specs.LabelRules.{label_of}
use Rattle.fort_tables.specs.BitRows.{bit_row, words_for}
use Rattle.fort_tables.proofs.TupleLaws.{tuple_induction, length-tabulate, get_or-tabulate, IsTuple-kid}
use Rattle.fort_tables.proofs.TableLaws.{presence_root}
use Rattle.fort_tables.proofs.LabelRuleLaws.{label_of-step}
use Rattle.fort_tables.proofs.BitRowLaws.{length-bit_row, words_enough}
use Rattle.fort_tables.specs.Projections.{absent_state, has_state, gives}
use Rattle.fort_tables.proofs.CompletedTuples.{completed_small, state-absent}
use Rattle.fort_tables.proofs.ProjectLabels.{kid_words, length-kid_words, get_or-kid_words, has_state-below}
use Rattle.fort_tables.specs.PureStates.{CompletesTo}
use Rattle.fort_tables.specs.ManyLabels.{TellsMany, has_many, gives_many, many_bit, many_rule, IsManyLabel}
use Rattle.fort_tables.proofs.HeightLaws.{many_from_every_height, not_many_from_heights}
use Rattle.fort_tables.proofs.TellsLaws.{finds_many}
use Rattle.fort_tables.proofs.ManyChildren.{TellsGiven, TellsKids, FindsTerms, FindsKids, told_kids}
use Rattle.fort_tables.proofs.ManyExact.{gives_exact, every_exact, bound_exact}

-- the two halves of the bits
pub many_bit-first : (body : Table) (c : ℕ) (many : ℕ → Bool) (f : TupleSymbol) (ws : List (List ℕ)) (q : ℕ) → q < length body.presences → many_bit body c many f ws q ≡ gives body c f ws q
many_bit-first body c many f ws q l = rw (lt-ltb q (length body.presences) l) refl

pub many_bit-second : (body : Table) (c : ℕ) (many : ℕ → Bool) (f : TupleSymbol) (ws : List (List ℕ)) (q : ℕ) → many_bit body c many f ws (length body.presences + q) ≡ gives_many body c many f ws q
many_bit-second body c many f ws q =
    let m = length body.presences in
    let e : m + q - m ≡ q = omega arith in
    ap (λ b. if b then gives body c f ws (m + q) else gives_many body c many f ws (m + q - m)) (le-ltb (m + q) m (omega arith)) ∙ ap (gives_many body c many f ws) e

absent_exact : (body : Table) (c : ℕ) (many : ℕ → Bool) (t : Tuple) → TellsKids body c (label_of (many_rule body c many)) t
    → body.target (entry (insert (root t) c None) (map absent_state (kid_words (label_of (many_rule body c many)) t))) ≡ state_of body (insert t c None)
absent_exact body c many t known =
    let label = label_of (many_rule body c many) in
    let ws = kid_words label t in
    let lw = length-kid_words label t in
    let f : ℕ → ℕ = λ j. state_of body (insert (kid t j) c None) in
    let states : map absent_state ws ≡ tabulate (kid_count t) f =
    ext_get_or 0 (map absent_state ws) (tabulate (kid_count t) f)
    (length-map ws absent_state ∙ (lw ∙ sym (length-tabulate (kid_count t) f)))
    (λ j l. let m : j < kid_count t = omega (arith, length-map ws absent_state, lw) in
    get_or-map absent_state ws j [] 0 (omega (arith, lw)) ∙ (ap absent_state (get_or-kid_words label t j m) ∙ ((known j m).absent ∙ sym (get_or-tabulate (kid_count t) f j 0 m)))) in
    ap (λ ks. body.target (entry (insert (root t) c None) ks)) states ∙ sym (state-absent body c t)

-- the label of one tuple, from those of its children: the terms that there are
told_step : (body : Table) (c : ℕ) (many : ℕ → Bool) → IsTable body → IsReached body → c < body.columns → (t : Tuple) → IsTuple body.signature (body.columns - 1) t → TellsKids body c (label_of (many_rule body c many)) t
    → TellsGiven body c t ((many_rule body c many).step (root t) (kid_words (label_of (many_rule body c many)) t))
told_step body c many is reached low t h known =
    let label = label_of (many_rule body c many) in
    let ws = kid_words label t in
    let m = length body.presences in
    let p = many_bit body c many (root t) ws in
    let first = presence (root t) in
    let second = body.target (entry (insert (root t) c None) (map absent_state ws)) in
    let bit : (q : ℕ) → q < m → has_state (first ∷ second ∷ bit_row (2 * m) p) q ≡ gives body c (root t) ws q =
    λ q l. has_state-below first second (2 * m) p q (words_enough (2 * m) q (omega arith)) ∙ many_bit-first body c many (root t) ws q l in
    record {
      width = omega (arith, length-bit_row (2 * m) p);
      first = presence_root t;
      absent = absent_exact body c many t known;
      given = λ q l.
          let z = gives_exact body c label is reached low t h known q in
          ((λ y. z.0 (sym (bit q l) ∙ y)), (λ y. bit q l ∙ z.1 y));
    }

-- Result: whatever tells which are infinitely many, the label of each tuple says which terms there are
pub label_told : (body : Table) (c : ℕ) (many : ℕ → Bool) → IsTable body → IsReached body → c < body.columns → (t : Tuple) → IsTuple body.signature (body.columns - 1) t → TellsGiven body c t (label_of (many_rule body c many) t)
label_told body c many is reached low = tuple_induction (λ t. IsTuple body.signature (body.columns - 1) t → TellsGiven body c t (label_of (many_rule body c many) t))
    (λ t ih h.
    let known : TellsKids body c (label_of (many_rule body c many)) t = λ j l. ih j l (IsTuple-kid body.signature (body.columns - 1) t j h l) in
    subst (TellsGiven body c t) (sym (label_of-step (many_rule body c many) t)) (told_step body c many is reached low t h known))

-- the same with the terms and the bounds
finds_step : (body : Table) (c : ℕ) (many : ℕ → Bool) → IsTable body → IsReached body → c < body.columns → TellsMany body c many → (t : Tuple) → IsTuple body.signature (body.columns - 1) t → FindsKids body c (label_of (many_rule body c many)) t
    → FindsTerms body c t ((many_rule body c many).step (root t) (kid_words (label_of (many_rule body c many)) t))
finds_step body c many is reached low tells t h known =
    let label = label_of (many_rule body c many) in
    let ws = kid_words label t in
    let m = length body.presences in
    let p = many_bit body c many (root t) ws in
    let finds = finds_many body c many is reached low tells in
    let first = presence (root t) in
    let second = body.target (entry (insert (root t) c None) (map absent_state ws)) in
    let told = told_step body c many is reached low t h (told_kids body c label t known) in
    let later : (q : ℕ) → q < m → has_many m (first ∷ second ∷ bit_row (2 * m) p) q ≡ gives_many body c many (root t) ws q =
    λ q l. has_state-below first second (2 * m) p (m + q) (words_enough (2 * m) (m + q) (omega arith)) ∙ many_bit-second body c many (root t) ws q in
    record {
      width = told.width;
      first = told.first;
      absent = told.absent;
      given = told.given;
      every = λ q l y. every_exact body c many label is reached low t h known finds q (sym (later q l) ∙ y);
      bound = λ q l y. bound_exact body c many label is reached low t h known finds q (sym (later q l) ∙ y);
    }

pub finds_terms : (body : Table) (c : ℕ) (many : ℕ → Bool) → IsTable body → IsReached body → c < body.columns → TellsMany body c many → (t : Tuple) → IsTuple body.signature (body.columns - 1) t → FindsTerms body c t (label_of (many_rule body c many) t)
finds_terms body c many is reached low tells = tuple_induction (λ t. IsTuple body.signature (body.columns - 1) t → FindsTerms body c t (label_of (many_rule body c many) t))
    (λ t ih h.
    let known : FindsKids body c (label_of (many_rule body c many)) t = λ j l. ih j l (IsTuple-kid body.signature (body.columns - 1) t j h l) in
    subst (FindsTerms body c t) (sym (label_of-step (many_rule body c many) t)) (finds_step body c many is reached low tells t h known))

many_exact : (body : Table) (c : ℕ) (t : Tuple) (w : List ℕ) → FindsTerms body c t w → (q : ℕ) → q < length body.presences → (has_many (length body.presences) w q ≡ true) ↔ HasInfinitelyMany (CompletesTo body c t q)
many_exact body c t w says q small = (
  (λ e. many_from_every_height (CompletesTo body c t q) (says.every q small e)),
  (λ infinite. elim (cases_Bool (has_many (length body.presences) w q)) [
    | inl e ↦ e
    | inr e ↦ let r = says.bound q small e in absurd (not_many_from_heights body.signature (CompletesTo body c t q) r.0 (λ u z. z.0) r.1 infinite)
  ]),
)

-- Result: the label of each tuple says what it should
pub label_exact : (body : Table) (c : ℕ) (many : ℕ → Bool) → IsTable body → IsReached body → c < body.columns → TellsMany body c many → (t : Tuple) → IsTuple body.signature (body.columns - 1) t → IsManyLabel body c t (label_of (many_rule body c many) t)
label_exact body c many is reached low tells t h =
    let says = finds_terms body c many is reached low tells t h in
    record {
      width = says.width;
      first = says.first;
      absent = says.absent;
      given = says.given;
      many = many_exact body c t (label_of (many_rule body c many) t) says;
    }

-- how many words a label has
pub length-many_rule : (body : Table) (c : ℕ) (many : ℕ → Bool) (f : TupleSymbol) (ws : List (List ℕ)) → length ((many_rule body c many).step f ws) ≡ words_for (2 * length body.presences) + 2
length-many_rule body c many f ws = omega (arith, length-bit_row (2 * length body.presences) (many_bit body c many f ws))

-- a second search finds only states of the body
pub gives_many-small : (body : Table) (c : ℕ) (many : ℕ → Bool) → IsTable body → IsReached body → c < body.columns → TellsMany body c many → (t : Tuple) → IsTuple body.signature (body.columns - 1) t → (q : ℕ)
    → gives_many body c many (root t) (kid_words (label_of (many_rule body c many)) t) q ≡ true → q < length body.presences
gives_many-small body c many is reached low tells t h q e =
    let label = label_of (many_rule body c many) in
    let known : FindsKids body c label t = λ j l. finds_terms body c many is reached low tells (kid t j) (IsTuple-kid body.signature (body.columns - 1) t j h l) in
    let u = every_exact body c many label is reached low t h known (finds_many body c many is reached low tells) q e 0 in
    subst (λ (k : ℕ). k < length body.presences) u.1.1 (completed_small body c t u.0 is low u.1.0 h.width h.grounded)
