-- Tuple symbols' renumbered places and blocks, one tuple symbol after another.
use Rattle.std.proofs.Common.{◌≡◌, ℕ, zero, suc, ◌+◌, ◌-◌, ◌<◌, ◌≤◌, ◌^◌, List, [], ◌∷◌, ◌++◌, map, take, length, get_or, Result, Ok, Err, OnOk, refl, ap, sym, ◌∙◌, arith, subst, ⊎_elim, length-append}
use Rattle.std.proofs.lemmas.Bool.{cases_lt}
use Rattle.std.proofs.lemmas.List.{append-nil, get_or_past, length-take-le, get_or-take, ext_get_or, length_push, get_or_push, get_or_append_left, get_or-append_right}
use Rattle.fort_theory.specs.Signatures.{Signature}
use Rattle.fort_tables.specs.Tuples.{IsPresent, symbol_kids, tabulate}
use Rattle.fort_tables.proofs.TupleLaws.{length-tabulate, get_or-tabulate}
use Rattle.fort_class_blocks.specs.Blocks.{Block, AreClasses, block_at, no_block, counts_at, target_in, new_block}
use Rattle.fort_class_blocks.specs.KeptBlocks.{HasBlock}
use Rattle.fort_target_lists.specs.Places.{number_of}
use Rattle.fort_target_lists.specs.ClassLists.{view_of, view_leaders}
use Rattle.fort_target_lists.specs.declared.class_list.ClassView.{ClassView}
use Rattle.fort_target_lists.specs.declared.class_list.ClassList.{ClassList}
use Rattle.fort_tight_lists.specs.Slices.{IsRenumbering}
use Rattle.fort_tight_lists.specs.Picks.{renumbered, AreRenumberings, AreFirsts, IsPicked}
use Rattle.fort_tight_lists.specs.TightViews.{AreTightViews, IsTightAt}
use Rattle.fort_tight_lists.specs.TightPlaces.{HasTightPlaces}
use Rattle.fort_tight_lists.specs.TightSymbols.{symbol_at, IsReadable, IsTightSymbol, HasMore, HasTightSymbols}
use Rattle.fort_tight_lists.specs.declared.tight_views.TightViews.{TightViews}
use Rattle.fort_tight_lists.specs.declared.parts.TightParts.{TightParts}
use Rattle.fort_tight_lists.proofs.PlacesLaws.{at_more}
use Rattle.fort_tight_lists.proofs.PickLaws.{picked_are}

-- numbers that were written place by place
pub tabulated : (n : ℕ) (room : List ℕ) (of : ℕ → ℕ) → n ≤ length room → ((j : ℕ) → j < n → get_or room j 0 ≡ of j) → take n room ≡ tabulate n of
tabulated n room of few h =
    let m = length-take-le n room few in
    ext_get_or 0 (take n room) (tabulate n of) (m ∙ sym (length-tabulate n of))
    (λ j l. let low : j < n = omega (arith, l, m) in get_or-take n room j 0 low ∙ (h j low ∙ sym (get_or-tabulate n of j 0 low)))

-- each place has its renumbering
pub renumberings : (bs : List Block) (b : ℕ) (counts : List ℕ) (vs old new : List ClassView) (views before after : List ℕ) (firsts : List (List ℕ)) (n : ℕ) (h : HasTightPlaces bs b counts vs old new views before after firsts n) → n ≡ length counts → AreRenumberings bs b counts h.numbers firsts
renumberings bs b counts vs old new views before after firsts n h e = record {
  numbers_all = h.numbers_all ∙ e;
  firsts_all = h.firsts_all ∙ e;
  each = λ j l. h.each j (omega (arith, l, e));
}

-- first classes rise, so that there are at most as many as classes
risen : (bs : List Block) (b : ℕ) (counts : List ℕ) (j : ℕ) (ns fs : List ℕ) → IsRenumbering bs b counts j ns fs → (i : ℕ) → i < length fs → i ≤ get_or fs i 0
risen bs b counts j ns fs h zero l = omega arith
risen bs b counts j ns fs h (suc i) l = omega (arith, risen bs b counts j ns fs h i (omega (arith, l)), h.rises i (suc i) (omega arith) l)

few_firsts : (bs : List Block) (b : ℕ) (counts : List ℕ) (j : ℕ) (ns fs : List ℕ) → IsRenumbering bs b counts j ns fs → length fs ≤ get_or counts j 0
few_firsts bs b counts j ns fs h = ⊎_elim
    (λ l.
    let i = get_or counts j 0 in
    absurd (omega (arith, risen bs b counts j ns fs h i l, h.firsts_low i l, h.count)))
    (λ l. l)
    (cases_lt (get_or counts j 0) (length fs))

-- Result: the first classes can be counted, and are classes
pub are_firsts : (bs : List Block) (b : ℕ) (counts : List ℕ) (numbers firsts : List (List ℕ)) → counts_at bs b ≡ counts → ((j : ℕ) → get_or counts j 0 < 2 ^ 32) → AreRenumberings bs b counts numbers firsts → AreFirsts bs b firsts
are_firsts bs b counts numbers firsts e few r = record {
  small = λ j. ⊎_elim
      (λ l. omega (arith, few_firsts bs b counts j (get_or numbers j []) (get_or firsts j []) (r.each j l), few j))
      (λ l. omega (arith, ap (length {A = ℕ}) (get_or_past firsts j [] (omega (arith, l, r.firsts_all)))))
      (cases_lt j (length counts));
  classes = λ ds are. subst (λ ns. AreClasses ns (renumbered firsts ds)) (sym e) (picked_are bs b counts numbers firsts r ds are);
}

-- Result: a tuple symbol's places and block
pub symbol_made : (l : ClassList) (number places : ℕ) (counts : List ℕ) (old new : List ClassView) (views before after : List ℕ) (firsts : List (List ℕ)) (bs more : List Block) (h : HasTightPlaces l.blocks number counts l.views.items old new views before after firsts places)
    → counts_at l.blocks number ≡ counts → length counts ≡ places → ((j : ℕ) → j < places → get_or views j 0 ≡ view_of l number j) → HasBlock bs more (map (length {A = ℕ}) firsts) → IsPicked l.blocks number firsts more (length bs)
    → IsTightSymbol l number places new after (length before) more (length bs)
symbol_made l number places counts old new views before after firsts bs more h e long read block picked =
    let wide : length after ≡ length before + places = ap length h.after_is ∙ (length-append before h.added ∙ ap (λ k. length before + k) h.added_all) in
    record {
      numbers = h.numbers;
      firsts = firsts;
      places_all = ap length e ∙ long;
      are = subst (λ ns. AreRenumberings l.blocks number ns h.numbers firsts) (sym e) (renumberings l.blocks number counts l.views.items old new views before after firsts places h (sym long));
      within = omega (arith, wide);
      tight_at = λ j k.
          let at : get_or h.added j 0 ≡ get_or after (length before + j) 0 = sym (ap (λ xs. get_or xs (length before + j) 0) h.after_is ∙ (get_or-append_right before h.added (length before) (length before + j) 0 refl (omega arith) ∙ ap (λ k. get_or h.added k 0) (let z : length before + j - length before ≡ j = omega arith in z))) in
          subst (λ v. IsTightAt l.views.items new v (get_or h.numbers j []) (get_or firsts j []) (get_or after (length before + j) 0)) (read j k)
          (subst (λ x. IsTightAt l.views.items new (get_or views j 0) (get_or h.numbers j []) (get_or firsts j []) x) at (h.tight j k));
      counts = block.last;
      picked = picked;
    }

-- a tuple symbol's stay where more come
symbol_stays : (l : ClassList) (number places : ℕ) (old new : TightViews) (before after : List ℕ) (start : ℕ) (bs more : List Block) (d : ℕ) → HasMore l.views.items old new before after bs more → d < length bs → IsTightSymbol l number places old.views.items before start bs d
    → IsTightSymbol l number places new.views.items after start more d
symbol_stays l number places old new before after start bs more d h low s = record {
  numbers = s.numbers;
  firsts = s.firsts;
  places_all = s.places_all;
  are = s.are;
  within = omega (arith, s.within, ap length h.numbers, length-append before h.added);
  tight_at = λ j k.
      let at : get_or before (start + j) 0 ≡ get_or after (start + j) 0 = sym (ap (λ xs. get_or xs (start + j) 0) h.numbers ∙ get_or_append_left before h.added 0 (start + j) (omega (arith, k, s.within))) in
      subst (λ x. IsTightAt l.views.items new.views.items (view_of l number j) (get_or s.numbers j []) (get_or s.firsts j []) x) at
      (at_more l.views.items old.views.items new.views.items h.more (view_of l number j) (get_or s.numbers j []) (get_or s.firsts j []) (get_or before (start + j) 0) h.views (s.tight_at j k));
  counts = h.block.counts_stay d low ∙ s.counts;
  picked = record { targets_are = λ ds are. h.block.targets_stay d ds low (subst (λ ns. AreClasses ns ds) (sym s.counts) are) ∙ s.picked.targets_are ds are };
}

-- Result: one more tuple symbol
pub symbols_more : (sig : Signature) (columns n : ℕ) (l : ClassList) (old new : TightParts) → HasTightSymbols sig columns n l old → new.starts.items ≡ old.starts.items ++ length old.numbers.items ∷ [] → HasMore l.views.items old.views new.views old.numbers.items new.numbers.items old.blocks new.blocks
    → (IsPresent (symbol_at sig columns n)
    → IsTightSymbol l (number_of l.base (symbol_at sig columns n)) (symbol_kids sig (symbol_at sig columns n)) new.views.views.items new.numbers.items (length old.numbers.items) new.blocks (length old.blocks))
    → HasTightSymbols sig columns (n + 1) l new
symbols_more sig columns n l old new h pushed more own =
    let Own : ℕ → ℕ → ℕ → Type 0 = λ m start d. IsTightSymbol l (number_of l.base (symbol_at sig columns m)) (symbol_kids sig (symbol_at sig columns m)) new.views.views.items new.numbers.items start new.blocks d in
    record {
      tight = more.tight;
      few = omega (arith, h.few, more.few, ap length more.views, length-append old.views.views.items more.more);
      starts_all = ap length pushed ∙ (length_push old.starts.items (length old.numbers.items) ∙ ap (λ k. k + 1) h.starts_all);
      blocks_all = more.block.count ∙ ap (λ k. k + 1) h.blocks_all;
      symbols = λ m k present. ⊎_elim
          (λ b.
          let at : get_or old.starts.items m 0 ≡ get_or new.starts.items m 0 = sym (ap (λ xs. get_or xs m 0) pushed ∙ get_or_append_left old.starts.items (length old.numbers.items ∷ []) 0 m (omega (arith, b, h.starts_all))) in
          subst (λ s. Own m s m) at (symbol_stays l _ _ old.views new.views old.numbers.items new.numbers.items (get_or old.starts.items m 0) old.blocks new.blocks m more (omega (arith, b, h.blocks_all)) (h.symbols m b present)))
          (λ b.
          let e : n ≡ m = omega (arith, b, k) in
          let at : length old.numbers.items ≡ get_or new.starts.items m 0 = sym (ap (λ xs. get_or xs m 0) pushed ∙ get_or_push old.starts.items (length old.numbers.items) 0 m (h.starts_all ∙ e)) in
          let last : length old.blocks ≡ m = h.blocks_all ∙ e in
          let F : ℕ → Type 0 = λ i. IsPresent (symbol_at sig columns i) → Own i (length old.numbers.items) (length old.blocks) in
          subst (λ d. Own m (get_or new.starts.items m 0) d) last (subst (λ s. Own m s (length old.blocks)) at (subst F e own present)))
          (cases_lt m n);
    }

-- none yet
pub symbols_none : (sig : Signature) (columns : ℕ) (l : ClassList) (t : TightParts) → t.views.keys ≡ [] → t.views.views.items ≡ [] → t.starts.items ≡ [] → t.blocks ≡ [] → HasTightSymbols sig columns 0 l t
symbols_none sig columns l t keys views starts blocks =
    let none : length t.views.views.items ≡ 0 = ap length views in
    record {
      tight = record { count = ap length keys ∙ sym none; each = λ q v k. absurd (omega (arith, k, none)) };
      few = omega (arith, none);
      starts_all = ap length starts;
      blocks_all = ap length blocks;
      symbols = λ m k. absurd (omega (arith, k));
    }

-- the next block has no places
pub no_places : (vs : List ClassView) (views : TightViews) (numbers : List ℕ) (bs more : List Block) → AreTightViews vs views.keys views.views.items → HasBlock bs more [] → HasMore vs views views numbers numbers bs more
no_places vs views numbers bs more tight block = record {
  tight = tight;
  more = [];
  views = sym (append-nil views.views.items);
  few = omega arith;
  added = [];
  numbers = sym (append-nil numbers);
  counts = [];
  block = block;
}

-- what two facts about an answer give
pub on_ok_both : {T E P Q R : Type 0} (r : Result T E) → (P → Q → R) → OnOk r P → OnOk r Q → OnOk r R
on_ok_both (Ok x) f p q = f p q
on_ok_both (Err e) f p q = tt

-- one more block
pub block_pushed : (bs more : List Block) (counts : List ℕ) → more ≡ bs ++ new_block counts ∷ [] → HasBlock bs more counts
block_pushed bs more counts e =
    let old : (b : ℕ) → b < length bs → block_at more b ≡ block_at bs b = λ b l. ap (λ xs. get_or xs b no_block) e ∙ get_or_append_left bs (new_block counts ∷ []) no_block b l in
    record {
      count = ap length e ∙ length_push bs (new_block counts);
      last = ap (λ (k : Block). k.counts) (ap (λ xs. get_or xs (length bs) no_block) e ∙ get_or_push bs (new_block counts) no_block (length bs) refl);
      counts_stay = λ b l. ap (λ (k : Block). k.counts) (old b l);
      targets_stay = λ b cs l are. ap (λ k. target_in k cs) (old b l);
    }

-- no place has more classes than a word counts
readable_small : (l : ClassList) (number places : ℕ) → IsReadable l number places → (j : ℕ) → get_or (counts_at l.blocks number) j 0 < 2 ^ 32
readable_small l number places h j =
    let of : ℕ → ℕ = λ i. length (view_leaders l (view_of l number i)) in
    let same = ap (λ xs. get_or xs j 0) h.counts in
    ⊎_elim
    (λ k. omega (arith, same, get_or-tabulate places of j 0 k, h.leaders j k))
    (λ k. omega (arith, same, get_or_past (tabulate places of) j 0 (omega (arith, k, length-tabulate places of))))
    (cases_lt j places)

module _ (l : ClassList) (number places : ℕ) (readable : IsReadable l number places) (counts views before after : List ℕ) (vs old new : List ClassView) (firsts : List (List ℕ)) (n : ℕ) (whole : vs ≡ l.views.items) (same : counts ≡ counts_at l.blocks number) (long : n ≡ places)
    (h : HasTightPlaces l.blocks number counts vs old new views before after firsts n) where
  -- the places, by the block's own counts
  own_places : HasTightPlaces l.blocks number (counts_at l.blocks number) l.views.items old new views before after firsts places
  own_places = subst (λ k. HasTightPlaces l.blocks number (counts_at l.blocks number) l.views.items old new views before after firsts k) long (subst (λ ns. HasTightPlaces l.blocks number ns l.views.items old new views before after firsts n) same (subst (λ xs. HasTightPlaces l.blocks number counts xs old new views before after firsts n) whole h))

  own_count : length (counts_at l.blocks number) ≡ places
  own_count = ap length readable.counts ∙ length-tabulate places (λ j. length (view_leaders l (view_of l number j)))

  -- Result: the first classes are
  pub readable_firsts : AreFirsts l.blocks number firsts
  readable_firsts =
      let ns = counts_at l.blocks number in
      are_firsts l.blocks number ns own_places.numbers firsts refl (readable_small l number places readable) (renumberings l.blocks number ns l.views.items old new views before after firsts places own_places (sym own_count))

  -- Result: the tuple symbol is made
  pub readable_made : (bs more : List Block) → ((j : ℕ) → j < places → get_or views j 0 ≡ view_of l number j) → HasBlock bs more (map (length {A = ℕ}) firsts) → IsPicked l.blocks number firsts more (length bs) → IsTightSymbol l number places new after (length before) more (length bs)
  readable_made bs more read block picked = symbol_made l number places (counts_at l.blocks number) old new views before after firsts bs more own_places refl own_count read block picked
