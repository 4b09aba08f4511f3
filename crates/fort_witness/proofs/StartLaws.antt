-- The search at its start, and at the start of a height.
use Rattle.std.proofs.Common.{◌≡◌, ℕ, suc, ◌+◌, ◌-◌, ◌≤◌, ◌<◌, List, [], ◌++◌, take, drop, length, false, ap, sym, ◌∙◌, arith, subst, ⊎_elim}
use Rattle.std.proofs.lemmas.Bool.{cases_lt}
use Rattle.std.proofs.lemmas.List.{take_all, drop_all, append-nil}
use Rattle.fort_tables.specs.Tuples.{Tuple}
use Rattle.fort_tables.specs.Entries.{Entry, tuples_of}
use Rattle.fort_tables.specs.Tables.{Table, IsTable}
use Rattle.fort_witness.specs.declared.head.Head.{Head}
use Rattle.fort_witness.specs.declared.kept.Kept.{Kept}
use Rattle.fort_witness.specs.Choices.{lists_of, numbers_from, AreListed}
use Rattle.fort_witness.specs.Answers.{AreSolutions}
use Rattle.fort_witness.specs.Placing.{ArePlaces, ArePlacedTo}
use Rattle.fort_witness.specs.Making.{AreOld, AreComing, AreWaiting}
use Rattle.fort_witness.specs.Solving.{same_head, AreEntries, AreKeptNodes, AreFirstRows, IsMaking}
use Rattle.fort_witness.proofs.NextLaws.{present_level}
use Rattle.fort_witness.proofs.MakingLaws.{height_done}
use Rattle.fort_witness.proofs.FirstRowsLaws.{nodes_length, rows_all}
use Rattle.fort_witness.proofs.NextRowLaws.{row_table_entry}
use Rattle.fort_witness.proofs.TurnLaws.{none_higher, making_all, making_done}
use Rattle.std.specs.List.{IsDistinct}

waiting_all : (t : Table) (keep h low : ℕ) (f : Kept) (entries heads : List Head) (d : Head) → IsTable t
    → AreEntries t entries → AreKeptNodes t keep f → AreOld t keep h low (tuples_of f.dag)
    → AreFirstRows t keep h low (tuples_of f.dag) f.states.items entries (length entries) heads
    → AreWaiting t keep low (tuples_of f.dag) [] f.states.items heads
waiting_all t keep h low f entries heads d is es n o r = rows_all t keep h low (tuples_of f.dag) f.states.items entries heads d es r (λ e m. row_table_entry t (tuples_of f.dag) f.states.items e is o.places n.states m.row)

-- the first rows are there
pub making_start : (t : Table) (most h low end : ℕ) (f : Kept) (entries heads : List Head) (d : Head) → IsTable t
    → AreEntries t entries → AreKeptNodes t (suc most) f → AreOld t (suc most) h low (tuples_of f.dag)
    → length f.accepted.items ≤ most → end ≡ length f.dag
    → AreFirstRows t (suc most) h low (tuples_of f.dag) f.states.items entries (length entries) heads
    → IsMaking t most h low end f heads
making_start t most h low end f entries heads d is es n o few size r =
    let keep = suc most in
    let ts = tuples_of f.dag in
    let qs = f.states.items in
    let old_is : take end ts ≡ ts = take_all end ts (omega (arith, nodes_length f.dag)) in
    let us_is : drop end ts ≡ [] = drop_all end ts (omega (arith, nodes_length f.dag)) in
    let qo_is : take end qs ≡ qs = take_all end qs (omega (arith, n.count)) in
    let C : List Tuple → List Tuple → List ℕ → Type 0 = λ o u q. AreComing t keep h low o u q heads in
    let W : List Tuple → List Tuple → List ℕ → Type 0 = λ o u q. AreWaiting t keep low o u q heads in
    record {
      nodes = n;
      within = omega arith;
      old = subst (AreOld t keep h low) (sym old_is) o;
      coming = subst (λ (x : List Tuple). C x (drop end ts) (take end qs)) (sym old_is) (subst (λ (u : List Tuple). C ts u (take end qs)) (sym us_is) (subst (C ts []) (sym qo_is) r.coming));
      waiting = subst (λ (x : List Tuple). W x (drop end ts) (take end qs)) (sym old_is) (subst (λ (u : List Tuple). W ts u (take end qs)) (sym us_is) (subst (W ts []) (sym qo_is) (waiting_all t keep h low f entries heads d is es n o r)));
      apart = subst (λ (q : List ℕ). IsDistinct (same_head q) heads) (sym qo_is) r.apart;
      ordered = r.ordered;
      few = few;
    }

-- no rows: all solutions are there
pub all_here : (t : Table) (most h low height : ℕ) (f : Kept) (entries heads : List Head) (d : Head) → IsTable t
    → AreEntries t entries → AreKeptNodes t (suc most) f → AreOld t (suc most) h low (tuples_of f.dag)
    → length f.accepted.items ≤ most → h ≤ height
    → AreFirstRows t (suc most) h low (tuples_of f.dag) f.states.items entries (length entries) heads → heads ≡ []
    → AreSolutions t height most f.dag f.accepted.items false
all_here t most h low height f entries heads d is es n o few up r none =
    let keep = suc most in
    let ts = tuples_of f.dag in
    let same : ts ++ [] ≡ ts = append-nil ts in
    let w : AreWaiting t keep low ts [] f.states.items [] = subst (AreWaiting t keep low ts [] f.states.items) none (waiting_all t keep h low f entries heads d is es n o r) in
    let done : ArePlacedTo t keep (suc h) ts = subst (ArePlacedTo t keep (suc h)) same (height_done t keep h low ts [] f.states.items is (omega arith) o (subst (ArePlaces t) (sym same) o.places) w) in
    let high : ArePlacedTo t keep (suc h + (height - h)) ts = none_higher t keep h ts (height - h) is (omega arith) o.places o.levels done in
    let e : suc h + (height - h) ≡ suc height = omega arith in
    making_all t most height f is n few (λ i l. omega (arith, o.levels i l)) (subst (λ m. ArePlacedTo t keep m ts) e high)

-- the last height is done
pub all_done : (t : Table) (most h low end : ℕ) (f : Kept) → IsTable t → IsMaking t most h low end f []
    → AreSolutions t h most f.dag f.accepted.items false
all_done t most h low end f is m = let o = making_done t most h low end f is m in making_all t most h f is m.nodes m.few o.levels o.placed

-- nothing is found yet
pub none_found : (t : Table) (most : ℕ) (f : Kept) → f.dag ≡ [] → f.states.items ≡ []
    → AreListed (length t.presences) [] (lists_of f.lists) → f.accepted.items ≡ []
    → AreKeptNodes t (suc most) f × AreOld t (suc most) 0 0 (tuples_of f.dag)
none_found t most f ed es l ea =
    let ts = tuples_of f.dag in
    let te : length ts ≡ 0 = nodes_length f.dag ∙ ap (λ (xs : List Entry). length xs) ed in
    let de : length f.dag ≡ 0 = ap (λ (xs : List Entry). length xs) ed in
    let se : length f.states.items ≡ 0 = ap (λ (xs : List ℕ). length xs) es in
    let ae : length f.accepted.items ≡ 0 = ap (λ (xs : List ℕ). length xs) ea in
    let places : ArePlaces t ts = record { tuples = λ i m. absurd (omega arith); rise = λ i j a b. absurd (omega arith) } in (
      record {
        are = λ k d m. absurd (omega arith);
        places = places;
        count = se ∙ sym de;
        states = record { at = λ i m. absurd (omega arith) };
        lists = subst (λ (xs : List ℕ). AreListed (length t.presences) xs (lists_of f.lists)) (sym es) l;
        few = λ q. none_few most (length (numbers_from (lists_of f.lists) q)) (λ m. let r = l.are q 0 m in absurd (omega (arith, r.0)));
        accepted = record { rise = λ i j a b. absurd (omega arith); within = λ j m. absurd (omega arith); accepted = λ j m. absurd (omega arith); all = λ i m a. absurd (omega arith) };
      },
      record {
        places = places;
        placed = λ v tuple m. absurd (omega (arith, present_level v tuple.present));
        levels = λ i m. absurd (omega arith);
        lower = λ i m a. absurd (omega arith);
        top = λ i m a. absurd (omega arith);
      },
    )
  where
    none_few : (most n : ℕ) → (0 < n → ⊥) → n ≤ suc most
    none_few most n h = ⊎_elim (λ l. absurd (h l)) (λ l. omega arith) (cases_lt 0 n)
