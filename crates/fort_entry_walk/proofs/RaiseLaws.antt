-- The first entry behind a digit that is one more, where neither symbol has arguments.
use Rattle.std.proofs.Common.{◌≡◌, ℕ, zero, suc, ◌+◌, ◌-◌, ◌*◌, ◌<◌, ◌≤◌, max, List, [], ◌∷◌, ◌++◌, map, length, get_or, nat_lt, if◌then◌else◌, refl, ap, sym, ◌∙◌, arith, subst}
use Rattle.std.specs.List.{flat_map, range_with_len}
use Rattle.std.proofs.lemmas.List.{length-append}
use Rattle.std.proofs.lemmas.Bool.{le-ltb}
use Rattle.fort_theory.specs.Signatures.{Signature}
use Rattle.fort_tables.specs.Tuples.{TupleSymbol, arity, symbol_kids, kid_presence}
use Rattle.fort_tables.specs.Entries.{entry, stage, IsNextEntry}
use Rattle.fort_tuple_symbols.specs.Columns.{symbol_of, column_arity}
use Rattle.fort_entry_walk.specs.WalkPlaces.{AreArities, Place, wants, wants_from, place, entry_at, IsPlace}
use Rattle.fort_tuple_symbols.specs.DigitNumbers.{AreUpTo}
use Rattle.fort_entry_walk.specs.Walks.{digit_lists, digits_after, stage_kids, stage_kids_after, stage_entries}
use Rattle.fort_entry_walk.specs.WalkFacts.{IsFound, IsAlone, IsRaised}
use Rattle.fort_entry_walk.specs.declared.walk.Walk.{Walk}
use Rattle.fort_entry_walk.proofs.KidLaws.{none_behind, none_for_one, one_list}
use Rattle.fort_entry_walk.proofs.StepLaws.{next_found}
use Rattle.fort_entry_walk.proofs.WalkLaws.{found_there}

-- a column without children counts for nothing
kids_before : (sig : Signature) (ds : List ℕ) (d : ℕ) → column_arity sig d ≡ 0 → symbol_kids sig (symbol_of (ds ++ d ∷ [])) ≡ symbol_kids sig (symbol_of ds)
kids_before sig [] zero z = refl
kids_before sig [] (suc g) z = omega (arith, z)
kids_before sig (zero ∷ ds) d z = kids_before sig ds d z
kids_before sig (suc g ∷ ds) d z = ap (max (arity sig g)) (kids_before sig ds d z)

presence_before : (sig : Signature) (ds : List ℕ) (d j : ℕ) → column_arity sig d ≡ 0 → kid_presence sig (symbol_of (ds ++ d ∷ [])) j ≡ kid_presence sig (symbol_of ds) j
presence_before sig [] zero j z = refl
presence_before sig [] (suc g) j z = ap (λ a. (if nat_lt j a then 1 else 0) + 2 * 0) z ∙ ap (λ b. (if b then 1 else 0) + 2 * 0) (le-ltb j 0 (omega arith))
presence_before sig (zero ∷ ds) d j z = ap (λ n. 2 * n) (presence_before sig ds d j z)
presence_before sig (suc g ∷ ds) d j z = ap (λ n. (if nat_lt j (arity sig g) then 1 else 0) + 2 * n) (presence_before sig ds d j z)

wants_same : (sig : Signature) (f g : TupleSymbol) (j n : ℕ) → ((i : ℕ) → kid_presence sig f i ≡ kid_presence sig g i) → wants_from sig f j n ≡ wants_from sig g j n
wants_same sig f g j zero h = refl
wants_same sig f g j (suc n) h = λ i. h j i ∷ wants_same sig f g (j + 1) n h i

wants_before : (sig : Signature) (ds : List ℕ) (d : ℕ) → column_arity sig d ≡ 0 → wants sig (symbol_of (ds ++ d ∷ [])) ≡ wants sig (symbol_of ds)
wants_before sig ds d z =
    ap (wants_from sig (symbol_of (ds ++ d ∷ [])) 0) (kids_before sig ds d z)
    ∙ wants_same sig (symbol_of (ds ++ d ∷ [])) (symbol_of ds) 0 (symbol_kids sig (symbol_of ds)) (λ j. presence_before sig ds d j z)

-- the list that comes next
next_list : (n : ℕ) (ds : List ℕ) (d : ℕ) → d < n → digits_after n (ds ++ d ∷ []) ≡ (ds ++ (d + 1) ∷ []) ∷ digits_after n (ds ++ (d + 1) ∷ [])
next_list n [] d l =
    let e : n - d ≡ suc (n - (d + 1)) = omega arith in
    ap (λ k. flat_map (λ e. map (λ es. e ∷ es) (digit_lists n 0)) (range_with_len (d + 1) k)) e
next_list n (c ∷ ds) d l =
    let others : ℕ → List (List ℕ) = λ k. flat_map (λ e. map (λ es. e ∷ es) (digit_lists n k)) (range_with_len (c + 1) (n - c)) in
    let same : length (ds ++ d ∷ []) ≡ length (ds ++ (d + 1) ∷ []) = length-append ds (d ∷ []) ∙ sym (length-append ds ((d + 1) ∷ [])) in
    ap (λ xs. map (λ es. c ∷ es) xs ++ others (length (ds ++ d ∷ []))) (next_list n ds d l)
    ∙ ap (λ k. (c ∷ (ds ++ (d + 1) ∷ [])) ∷ (map (λ es. c ∷ es) (digits_after n (ds ++ (d + 1) ∷ [])) ++ others k)) same

up_to_next : (n : ℕ) (ds : List ℕ) (d : ℕ) → d < n → AreUpTo n (ds ++ d ∷ []) → AreUpTo n (ds ++ (d + 1) ∷ [])
up_to_next n [] d l h = (omega arith, tt)
up_to_next n (c ∷ ds) d l h = (h.0, up_to_next n ds d l h.1)

pub raised_found : (sig : Signature) (ps : List ℕ) (pl : Place) (ds : List ℕ) (d : ℕ) (next ks : List ℕ) → IsPlace sig pl → pl.stage ≤ length ps → pl.digits ≡ ds ++ d ∷ [] → next ≡ ds ++ (d + 1) ∷ []
    → d < length sig → column_arity sig d ≡ 0 → column_arity sig (d + 1) ≡ 0
    → AreUpTo (pl.stage - 1) ks → stage ks ≡ pl.stage → stage_kids ps pl.stage pl.wanted ≡ ks ∷ stage_kids_after ps pl.stage pl.wanted ks
    → IsFound sig ps pl.stage pl.digits record { stage = pl.stage; digits = next; kids = ks; wanted = pl.wanted }
raised_found sig ps pl ds d next ks p within old new l z z' u s first =
    let new_place : Place = record { stage = pl.stage; digits = next; kids = ks; wanted = pl.wanted } in
    let wanted : pl.wanted ≡ wants sig (symbol_of next) = p.wanted ∙ (ap (λ xs. wants sig (symbol_of xs)) old ∙ (wants_before sig ds d z ∙ (sym (wants_before sig ds (d + 1) z') ∙ ap (λ xs. wants sig (symbol_of xs)) (sym new)))) in
    let placed : IsPlace sig new_place = record {
      stage = s;
      digits = subst (AreUpTo (length sig)) (sym new) (up_to_next (length sig) ds d l (subst (AreUpTo (length sig)) old p.digits));
      kids = u;
      wanted = wanted;
    } in
    let width : length next ≡ length pl.digits = ap length new ∙ (length-append ds ((d + 1) ∷ []) ∙ (sym (length-append ds (d ∷ [])) ∙ ap length (sym old))) in
    let lists : digits_after (length sig) pl.digits ≡ next ∷ digits_after (length sig) next = ap (digits_after (length sig)) old ∙ (next_list (length sig) ds d l ∙ ap (λ xs. xs ∷ digits_after (length sig) xs) (sym new)) in
    let there : stage_kids ps pl.stage (wants sig (symbol_of next)) ≡ ks ∷ stage_kids_after ps pl.stage (wants sig (symbol_of next)) ks = subst (λ (ws : List ℕ). stage_kids ps pl.stage ws ≡ ks ∷ stage_kids_after ps pl.stage ws ks) wanted first in
    found_there sig ps pl.stage pl.stage pl.digits pl.digits new_place within refl refl
    (record {
      placed = placed;
      at_stage = refl;
      width = width;
      first = first;
      next = ap (stage_entries sig ps pl.stage) lists ∙ ap (λ ls. map (entry (symbol_of next)) ls ++ stage_entries sig ps pl.stage (digits_after (length sig) next)) there;
    })

no_kids : (ks : List ℕ) → stage ks ≡ 0 → ks ≡ []
no_kids [] h = refl
no_kids (k ∷ ks) h = absurd (omega (arith, h))

one_kid : (m : ℕ) (ks : List ℕ) → stage ks ≡ suc m → length ks < 2 → ks ≡ m ∷ []
one_kid m [] h l = absurd (omega (arith, h))
one_kid m (k ∷ []) h l = let e : k ≡ m = omega (arith, h) in ap (λ i. i ∷ []) e
one_kid m (k ∷ q ∷ ks) h l = absurd (omega arith)

pub no_items : (ks : List ℕ) → length ks < 1 → ks ≡ []
no_items [] h = refl
no_items (k ∷ ks) h = absurd (omega arith)

-- an entry that wants no children
pub alone_without : (ps : List ℕ) (pl : Place) → stage pl.kids ≡ pl.stage → pl.wanted ≡ [] → pl.stage ≡ 0 → IsAlone ps pl
alone_without ps pl s w e =
    let none : pl.kids ≡ [] = no_kids pl.kids (s ∙ e) in
    record { within = omega (arith, e); only = rw (e, w, none) refl; last = rw e refl }

only_list : (ps : List ℕ) (s : ℕ) (ws ks : List ℕ) → stage ks ≡ s → length ks < 2 → length ws ≡ 1 → 0 < s → get_or ps (s - 1) 0 ≡ get_or ws 0 0 → stage_kids ps s ws ≡ ks ∷ []
only_list ps zero ws ks h l w p e = absurd (omega arith)
only_list ps (suc m) [] ks h l w p e = absurd (omega (arith, w))
only_list ps (suc m) (want ∷ []) ks h l w p e =
    let here : suc m - 1 ≡ m = omega arith in
    one_list ps want m (ap (λ i. get_or ps i 0) (sym here) ∙ e) ∙ λ i. sym (one_kid m ks h l) i ∷ none_behind ps m (want ∷ []) i
only_list ps (suc m) (want ∷ v ∷ ws) ks h l w p e = absurd (omega (arith, w))

-- one with the newest state as its only child, which has the presence that is wanted
pub alone_with : (ps : List ℕ) (pl : Place) → stage pl.kids ≡ pl.stage → length pl.kids < 2 → pl.stage ≤ length ps → length pl.wanted ≡ 1 → 0 < pl.stage → get_or ps (pl.stage - 1) 0 ≡ get_or pl.wanted 0 0 → IsAlone ps pl
alone_with ps pl s few within w l e = record {
  within = within;
  only = only_list ps pl.stage pl.wanted pl.kids s few w l e;
  last = none_for_one ps pl.stage pl.wanted pl.kids s few;
}

-- a walk that only raised its last digit stands at the first entry behind
pub raised_there : (sig : Signature) (ps : List ℕ) (old new : Walk) → IsPlace sig (place old) → AreArities sig old.arities → IsRaised ps old new → IsFound sig ps old.stage old.digits (place new)
raised_there sig ps old new p a r =
    let first : stage_kids ps old.stage old.wanted ≡ old.kids ∷ stage_kids_after ps old.stage old.wanted old.kids = r.alone.only ∙ ap (λ ls. old.kids ∷ ls) (sym r.alone.last) in
    rw (r.same.stage, r.same.kids, r.same.wanted)
    (raised_found sig ps (place old) r.others r.last new.digits old.kids p r.alone.within r.before r.after
    (omega (arith, r.flat, a.within)) (a.is_flat r.last (omega (arith, r.flat))) (a.is_flat (r.last + 1) r.flat)
    p.kids p.stage first)

-- which is the next one
pub raised_next : (sig : Signature) (ps : List ℕ) (old new : Walk) → IsPlace sig (place old) → AreArities sig old.arities → IsRaised ps old new → IsNextEntry sig (length old.digits) ps (entry_at (place old)) (entry_at (place new))
raised_next sig ps old new p a r =
    let none : stage_kids_after ps old.stage (wants sig (symbol_of old.digits)) old.kids ≡ [] = subst (λ (ws : List ℕ). stage_kids_after ps old.stage ws old.kids ≡ []) p.wanted r.alone.last in
    next_found sig ps (place old) (place new) p r.alone.within none (raised_there sig ps old new p a r)
