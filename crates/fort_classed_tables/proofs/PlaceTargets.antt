-- The targets under a tuple symbol stand where its columns are, and two states with one column at a place have one target with any other children.
use Rattle.std.proofs.Common.{◌≡◌, ℕ, suc, ◌+◌, ◌-◌, ◌*◌, ◌^◌, ◌<◌, ◌≤◌, List, [], ◌∷◌, ◌++◌, length, get_or, None, Some, refl, ap, sym, ◌∙◌, arith}
use Rattle.fort_theory.specs.Signatures.{Signature}
use Rattle.fort_tables.specs.Tuples.{TupleSymbol, IsPresent, AreSymbols, IsTupleSymbol, symbol_kids, kid_presence}
use Rattle.fort_tables.specs.Entries.{entry}
use Rattle.fort_tables.specs.Tables.{Table, IsTable, IsReached, IsTableEntry}
use Rattle.fort_tables.proofs.PresenceLaws.{presence_bound}
use Rattle.fort_tables.proofs.TableLaws.{table_state}
use Rattle.fort_tables.specs.StateRanks.{count_of, rank_in}
use Rattle.fort_target_lists.specs.Places.{number_of, place_from}
use Rattle.fort_target_lists.specs.Flats.{IsFlatOf, flat_place}
use Rattle.fort_target_lists.specs.declared.flat.FlatTargets.{FlatTargets}
use Rattle.fort_target_lists.proofs.PlaceLaws.{room, rank_below, place_split, place_below}
use Rattle.fort_classed_tables.specs.declared.columns.Columns.{Columns}
use Rattle.fort_classed_tables.specs.TargetColumns.{run_start, column_at, IsWithin}
use Rattle.fort_classed_tables.specs.CountedTables.{AreColumnsAt}
use Rattle.fort_classed_tables.proofs.RunLaws.{same_targets}
use Rattle.fort_classed_tables.proofs.KidLaws.{entry_over, IsChild, child_of, entry_with, last_kids, AreFactors, factors, room_parts}

place_from-append : (ranks alike : List ℕ) (p : ℕ) (xs ys : List ℕ) → place_from ranks alike p (xs ++ ys) ≡ place_from ranks alike (place_from ranks alike p xs) ys
place_from-append ranks alike p [] ys = refl
place_from-append ranks alike p (x ∷ xs) ys = place_from-append ranks alike (p * get_or alike x 0 + get_or ranks x 0) xs ys

present_by_kids : (sig : Signature) (f : TupleSymbol) (j : ℕ) → j < symbol_kids sig f → IsPresent f
present_by_kids sig [] j l = absurd (omega (arith, l))
present_by_kids sig (None ∷ f) j l = present_by_kids sig f j l
present_by_kids sig (Some g ∷ f) j l = tt

-- Result: all targets of a tuple symbol stand in the list
pub targets_within : (body : Table) (flat : FlatTargets) (f : TupleSymbol) → IsFlatOf body flat → IsTupleSymbol body.signature body.columns f
    → 0 < room body.presences (kid_presence body.signature f) 0 (symbol_kids body.signature f)
    → get_or flat.listing.starts.items (number_of flat.base f) 0 + room body.presences (kid_presence body.signature f) 0 (symbol_kids body.signature f) ≤ length flat.listing.targets.items
targets_within body flat f h s some =
    let last = last_kids body.presences flat.spots.ranks.items flat.spots.alike.items (kid_presence body.signature f) h.spots 0 (symbol_kids body.signature f) some in
    let at = h.entries (entry f last.states) (entry_over body f last.states s last.count last.are) in
    omega (arith, at.within, last.place)

-- what a place's columns are made of is no more than there are targets
pub record AreSmall (body : Table) (f : TupleSymbol) (j n : ℕ) : Type 0 where
  pub outer : room body.presences (kid_presence body.signature f) 0 j ≤ n
  pub inner : room body.presences (kid_presence body.signature f) (suc j) (symbol_kids body.signature f - suc j) ≤ n

module _ (body : Table) (flat : FlatTargets) (f : TupleSymbol) (j : ℕ) (h : IsFlatOf body flat) (s : IsTupleSymbol body.signature body.columns f) (low : j < symbol_kids body.signature f)
    (some : 0 < room body.presences (kid_presence body.signature f) 0 (symbol_kids body.signature f)) where
  parts : AreFactors (room body.presences (kid_presence body.signature f) 0 j) (room body.presences (kid_presence body.signature f) (suc j) (symbol_kids body.signature f - suc j))
      (room body.presences (kid_presence body.signature f) 0 (symbol_kids body.signature f))
  parts =
      let ps = body.presences in
      let w = kid_presence body.signature f in
      let kids = symbol_kids body.signature f in
      factors (room ps w 0 j) (count_of (w j) ps) (room ps w (suc j) (kids - suc j)) (room ps w 0 kids) (room_parts ps w kids j low) some

  pub parts_small : AreSmall body f j (length flat.listing.targets.items)
  parts_small = record { outer = omega (arith, targets_within body flat f h s some, parts.first); inner = omega (arith, targets_within body flat f h s some, parts.last) }

  -- Result: a place's columns stand in the list
  pub columns_within : (c : Columns) → AreColumnsAt body flat f j c → IsWithin c
  columns_within c are =
      let ps = body.presences in
      let w = kid_presence body.signature f in
      let kids = symbol_kids body.signature f in
      let whole : c.outer * c.count * c.inner ≡ room ps w 0 kids = (λ i. are.outer_is i * are.count_is i * are.inner_is i) ∙ sym (room_parts ps w kids j low) in
      record {
        some = omega (arith, parts.some, are.inner_is);
        few = omega (arith, ap length are.targets_are, flat.listing.targets.ok.0, flat.listing.targets.ok.1, flat.listing.targets.small);
        all = omega (arith, whole, targets_within body flat f h s some, are.start_is, ap length are.targets_are);
      }

-- a state's rank is one of as many
pub rank_low : (body : Table) (flat : FlatTargets) (f : TupleSymbol) (j : ℕ) (c : Columns) → IsFlatOf body flat → AreColumnsAt body flat f j c
    → (q : ℕ) → q < length body.presences → get_or body.presences q 0 ≡ kid_presence body.signature f j → get_or flat.spots.ranks.items q 0 < c.count
rank_low body flat f j c h are q l e =
    let w = kid_presence body.signature f j in
    let rank : get_or flat.spots.ranks.items q 0 ≡ rank_in w body.presences q = h.spots.ranks_are.rank q l ∙ ap (λ v. rank_in v body.presences q) e in
    omega (arith, rank, rank_below w body.presences q l e, are.count_is)

module _ (body : Table) (flat : FlatTargets) (f : TupleSymbol) (before behind : List ℕ) (c : Columns) (h : IsFlatOf body flat) (are : AreColumnsAt body flat f (length before) c) where
  -- where an entry's target stands
  place_is : (q : ℕ) → IsChild body f before behind q → flat_place flat (entry f (before ++ q ∷ behind))
      ≡ run_start c (get_or flat.spots.ranks.items q 0) (place_from flat.spots.ranks.items flat.spots.alike.items 0 before) + place_from flat.spots.ranks.items flat.spots.alike.items 0 behind
  place_is q k =
      let ps = body.presences in
      let w = kid_presence body.signature f in
      let ranks = flat.spots.ranks.items in
      let alike = flat.spots.alike.items in
      let j = length before in
      let P = place_from ranks alike 0 before in
      let r = get_or ranks q 0 in
      let B = place_from ranks alike 0 behind in
      let count : get_or alike q 0 ≡ c.count = h.spots.alike_are.count q k.within ∙ (ap (λ v. count_of v ps) k.presence ∙ sym are.count_is) in
      let inner : room ps w (suc j) (length behind) ≡ c.inner = ap (room ps w (suc j)) k.others ∙ sym are.inner_is in
      let split : place_from ranks alike 0 (before ++ q ∷ behind) ≡ (P * get_or alike q 0 + r) * room ps w (suc j) (length behind) + B =
      place_from-append ranks alike 0 before (q ∷ behind) ∙ place_split ps ranks alike w h.spots (suc j) (P * get_or alike q 0 + r) behind k.later in
      let moved : (P * get_or alike q 0 + r) * room ps w (suc j) (length behind) ≡ (P * c.count + r) * c.inner = λ i. (P * count i + r) * inner i in
      omega (arith, split, moved, are.start_is)

  -- Result: states with one column have one target
  pub same_target : IsWithin c → (q p : ℕ) → IsTableEntry body (entry f (before ++ q ∷ behind)) → p < length body.presences
      → get_or body.presences p 0 ≡ kid_presence body.signature f (length before)
      → column_at c (get_or flat.spots.ranks.items p 0) ≡ column_at c (get_or flat.spots.ranks.items q 0)
      → body.target (entry f (before ++ q ∷ behind)) ≡ body.target (entry f (before ++ p ∷ behind))
  same_target within q p is l e same =
      let ps = body.presences in
      let w = kid_presence body.signature f in
      let ranks = flat.spots.ranks.items in
      let alike = flat.spots.alike.items in
      let targets = flat.listing.targets.items in
      let low = rank_low body flat f (length before) c h are in
      let own = child_of body f before behind q is in
      let there = entry_with body f before behind q p is l e in
      let other = child_of body f before behind p there in
      let P = place_from ranks alike 0 before in
      let B = place_from ranks alike 0 behind in
      let outer : P < c.outer = omega (arith, place_below ps ranks alike w h.spots 0 before own.front, are.outer_is) in
      let inner : B < c.inner = omega (arith, place_below ps ranks alike w h.spots (suc (length before)) behind own.later, ap (room ps w (suc (length before))) own.others, are.inner_is) in
      let moved = same_targets c within (get_or ranks q 0) (get_or ranks p 0) (low q own.within own.presence) (low p l e) (sym same) P B outer inner in
      sym (h.entries (entry f (before ++ q ∷ behind)) is).is
      ∙ (ap (λ n. get_or targets n 0) (place_is q own)
      ∙ (ap (λ (xs : List ℕ). get_or xs (run_start c (get_or ranks q 0) P + B) 0) (sym are.targets_are)
      ∙ (moved
      ∙ (ap (λ (xs : List ℕ). get_or xs (run_start c (get_or ranks p 0) P + B) 0) are.targets_are
      ∙ (ap (λ n. get_or targets n 0) (sym (place_is p other))
      ∙ (h.entries (entry f (before ++ p ∷ behind)) there).is)))))

-- a tuple symbol with a child is no absent one
pub kid_present : (body : Table) (f : TupleSymbol) (j : ℕ) → AreSymbols body.signature f → length f ≡ body.columns → j < symbol_kids body.signature f → IsTupleSymbol body.signature body.columns f
kid_present body f j s w l = record { width = w; present = present_by_kids body.signature f j l; symbols = s }

-- the presences of a table's states
pub presences_below : (t : Table) → IsTable t → IsReached t → (q : ℕ) → q < length t.presences → get_or t.presences q 0 < 2 ^ t.columns
presences_below t is reached q l =
    let r = reached q l in
    let s = table_state t is r.0 r.1 in
    omega (arith, ap (λ k. get_or t.presences k 0) (sym r.2) ∙ s.presence_is, presence_bound r.0, ap (λ n. 2 ^ n) r.1.width)
