-- The targets of tuple symbols, one after another: where each entry's stands.
use Rattle.std.proofs.Common.{◌≡◌, ℕ, zero, suc, ◌+◌, ◌*◌, ◌^◌, ◌<◌, ◌≤◌, List, [], ◌∷◌, ◌++◌, length, get_or, Bool, true, false, ◌==◌, if◌then◌else◌, refl, ap, sym, ◌∙◌, arith, subst, ⊎_elim, append_assoc, length-append, eq-eqb, true≢false}
use Rattle.std.proofs.Math.Nat.{mul-le-mul_right}
use Rattle.std.proofs.lemmas.Bool.{cases_lt}
use Rattle.std.proofs.lemmas.List.{append-nil, get_or_append_left, get_or-append-add}
use Rattle.fort_tables.specs.Tuples.{TupleSymbol, AreSymbols, IsTupleSymbol, symbol_kids, kid_presence}
use Rattle.fort_tables.specs.Entries.{Entry, entry}
use Rattle.fort_tables.specs.Tables.{Table, IsTableEntry}
use Rattle.fort_tables.specs.StateRanks.{rank_in}
use Rattle.fort_tables.proofs.StateRankLaws.{rank_less}
use Rattle.fort_tables.specs.Selections.{is_present}
use Rattle.fort_tables.proofs.SelectionLaws.{present_from_test, test_from_present}
use Rattle.fort_tuple_symbols.specs.SymbolNumbers.{columns_at}
use Rattle.fort_target_lists.specs.Places.{number_of, place_from, AreSpots}
use Rattle.fort_tables.specs.Laid.{joined_below}
use Rattle.fort_target_lists.specs.Flats.{laid, HasFrom, AreLaid, IsTargetAt}
use Rattle.fort_target_lists.proofs.PlaceLaws.{rank_none, rank_more, rank_whole, room, AreKidsFrom, kids_from_index, place_first, place_below}
use Rattle.fort_tuple_symbols.proofs.SymbolNumberLaws.{length-columns_at}
use Rattle.fort_target_lists.proofs.SymbolNumbers.{number_below, columns_again, symbols_at}

-- lists of one length, of the states of one presence
abbrev blocks : List ℕ → ℕ → (ℕ → List ℕ) → ℕ → List ℕ
blocks ps w h k = if get_or ps k 0 == w then h k else []

block_length : (b : Bool) (xs : List ℕ) (n : ℕ) → length xs ≡ n → length (if b then xs else []) ≡ (if b then 1 else 0) * n
block_length true xs n e = omega (arith, e)
block_length false xs n e = omega arith

pub block_there : {A : Type 0} (b : Bool) (xs : List A) → b ≡ true → (if b then xs else []) ≡ xs
block_there true xs e = refl
block_there false xs e = absurd cc

pub block_not : {A : Type 0} (b : Bool) (xs : List A) → b ≡ false → (if b then xs else []) ≡ []
block_not true xs e = absurd cc
block_not false xs e = refl

sum_blocks : (a b r n x y : ℕ) → x ≡ a * n → y ≡ b * n → r ≡ a + b → x + y ≡ r * n
sum_blocks a b r n x y e h s = let m : r * n ≡ (a + b) * n = ap (λ c. c * n) s in omega (arith, m, e, h)

length-blocks : (ps : List ℕ) (w : ℕ) (h : ℕ → List ℕ) (n m : ℕ) → ((k : ℕ) → length (h k) ≡ n) → m ≤ length ps → length (joined_below m (blocks ps w h)) ≡ rank_in w ps m * n
length-blocks ps w h n zero e l = sym (omega (arith, ap (λ r. r * n) (rank_none w ps)))
length-blocks ps w h n (suc m) e l =
    let b = get_or ps m 0 == w in
    length-append (joined_below m (blocks ps w h)) (blocks ps w h m)
    ∙ sum_blocks (rank_in w ps m) (if b then 1 else 0) (rank_in w ps (suc m)) n (length (joined_below m (blocks ps w h))) (length (blocks ps w h m)) (length-blocks ps w h n m e (omega arith)) (block_length b (h m) n (e m)) (rank_more w ps m l)

index_less : (a b n x : ℕ) → a < b → x < n → a * n + x < b * n
index_less a b n x l m = let h = mul-le-mul_right {m = suc a} {n = b} n l in omega (arith, h, m)

get_or-blocks : (ps : List ℕ) (w : ℕ) (h : ℕ → List ℕ) (n m q x : ℕ) → ((k : ℕ) → length (h k) ≡ n) → m ≤ length ps → q < m → get_or ps q 0 ≡ w → x < n → get_or (joined_below m (blocks ps w h)) (rank_in w ps q * n + x) 0 ≡ get_or (h q) x 0
get_or-blocks ps w h n zero q x e l b s y = absurd (omega arith)
get_or-blocks ps w h n (suc m) q x e l b s y =
    let front = joined_below m (blocks ps w h) in
    let long = length-blocks ps w h n m e (omega arith) in
    ⊎_elim
    (λ (o : q < m).
    get_or_append_left front (blocks ps w h m) 0 (rank_in w ps q * n + x) (omega (arith, long, index_less (rank_in w ps q) (rank_in w ps m) n x (rank_less w ps q m (omega arith) s o) y))
    ∙ get_or-blocks ps w h n m q x e (omega arith) o s y)
    (λ (o : m ≤ q).
    let same : q ≡ m = omega arith in
    let at : rank_in w ps q * n + x ≡ length front + x = ap (λ k. rank_in w ps k * n + x) same ∙ ap (λ z. z + x) (sym long) in
    ap (λ z. get_or (front ++ blocks ps w h m) z 0) at
    ∙ (get_or-append-add front (blocks ps w h m) x 0
    ∙ (ap (λ z. get_or z x 0) (block_there (get_or ps m 0 == w) (h m) (eq-eqb (get_or ps m 0) w (ap (λ k. get_or ps k 0) (sym same) ∙ s)))
    ∙ ap (λ k. get_or (h k) x 0) (sym same))))
    (cases_lt q m)

-- how many targets there are over the children that are left
pub length-laid : (body : Table) (f : TupleSymbol) (before : List ℕ) (j n : ℕ) → length (laid body f before j n) ≡ room body.presences (kid_presence body.signature f) j n
length-laid body f before j zero = refl
length-laid body f before j (suc n) =
    let ps = body.presences in
    let w = kid_presence body.signature f in
    length-blocks ps (w j) (λ k. laid body f (before ++ k ∷ []) (suc j) n) (room ps w (suc j) n) (length ps) (λ k. length-laid body f (before ++ k ∷ []) (suc j) n) (omega arith)
    ∙ ap (λ r. r * room ps w (suc j) n) (rank_whole (w j) ps)

-- the target at a place
pub laid_place : (body : Table) (f : TupleSymbol) (ranks alike : List ℕ) → AreSpots body.presences ranks alike → (before : List ℕ) (j : ℕ) (ks : List ℕ) → AreKidsFrom body.presences (kid_presence body.signature f) j ks
    → get_or (laid body f before j (length ks)) (place_from ranks alike 0 ks) 0 ≡ body.target (entry f (before ++ ks))
laid_place body f ranks alike s before j [] h = ap (λ ks. body.target (entry f ks)) (sym (append-nil before))
laid_place body f ranks alike s before j (k ∷ ks) h =
    let ps = body.presences in
    let w = kid_presence body.signature f in
    let n = length ks in
    ap (λ z. get_or (laid body f before j (suc n)) z 0) (place_first ps ranks alike w s j k ks h)
    ∙ (get_or-blocks ps (w j) (λ q. laid body f (before ++ q ∷ []) (suc j) n) (room ps w (suc j) n) (length ps) k (place_from ranks alike 0 ks) (λ q. length-laid body f (before ++ q ∷ []) (suc j) n) (omega arith) h.0 h.1 (place_below ps ranks alike w s (suc j) ks h.2)
    ∙ (laid_place body f ranks alike s (before ++ k ∷ []) (suc j) ks h.2
    ∙ ap (λ z. body.target (entry f z)) (append_assoc before (k ∷ []) ks)))

-- the child states of an entry
pub entry_kids : (body : Table) (e : Entry) → IsTableEntry body e → AreKidsFrom body.presences (kid_presence body.signature e.symbol) 0 e.kids
entry_kids body e h = kids_from_index body.presences (kid_presence body.signature e.symbol) 0 e.kids h.within (λ i l. let z : i ≡ 0 + i = omega arith in h.presence i l ∙ ap (kid_presence body.signature e.symbol) z)

-- Result: where all tuple symbols' targets stand, each entry's target stands at its place
pub laid_entries : (body : Table) (base count : ℕ) (starts targets ranks alike : List ℕ) → base ≡ suc (length body.signature) → count ≡ base ^ body.columns → AreSpots body.presences ranks alike → AreLaid body base count starts targets
    → (e : Entry) → IsTableEntry body e → IsTargetAt targets (get_or starts (number_of base e.symbol) 0 + place_from ranks alike 0 e.kids) (body.target e)
laid_entries body base count starts targets ranks alike b c s laid_all e h =
    let f = e.symbol in
    let p = place_from ranks alike 0 e.kids in
    let start = get_or starts (number_of base f) 0 in
    let low : number_of base f < count = omega (arith, number_below body.signature base f b h.symbol.symbols, ap (λ n. base ^ n) h.symbol.width, c) in
    let own = laid_all.laid_at f h.symbol low in
    let kids = entry_kids body e h in
    let all = laid body f [] 0 (symbol_kids body.signature f) in
    let long : p < length all = omega (arith, place_below body.presences ranks alike (kid_presence body.signature f) s 0 e.kids kids, length-laid body f [] 0 (symbol_kids body.signature f), ap (room body.presences (kid_presence body.signature f) 0) h.count) in
    record {
      within = omega (arith, own.within, long);
      is = own.same p long ∙ (ap (λ n. get_or (laid body f [] 0 n) p 0) (sym h.count) ∙ laid_place body f ranks alike s [] 0 e.kids kids);
    }

-- one more tuple symbol
pub has_from-append : (xs ys more : List ℕ) (start : ℕ) → HasFrom xs start ys → HasFrom (xs ++ more) start ys
has_from-append xs ys more start h = record {
  within = omega (arith, h.within, length-append xs more);
  same = λ r l. get_or_append_left xs more 0 (start + r) (omega (arith, h.within)) ∙ h.same r l;
}

pub has_from-end : (xs ys : List ℕ) → HasFrom (xs ++ ys) (length xs) ys
has_from-end xs ys = record {
  within = omega (arith, length-append xs ys);
  same = λ r l. get_or-append-add xs ys r 0;
}

-- the tuple symbol with the next number is this one, or no tuple symbol has the number
pub laid_more : (body : Table) (base n : ℕ) (starts targets more : List ℕ) → AreLaid body base n starts targets
    → ((f : TupleSymbol) → IsTupleSymbol body.signature body.columns f → number_of base f ≡ n → more ≡ laid body f [] 0 (symbol_kids body.signature f))
    → AreLaid body base (n + 1) (starts ++ length targets ∷ []) (targets ++ more)
laid_more body base n starts targets more h own = record {
  count = omega (arith, length-append starts (length targets ∷ []), h.count);
  laid_at = λ f s l.
      let m = number_of base f in
      let ys = laid body f [] 0 (symbol_kids body.signature f) in
      ⊎_elim
      (λ (o : m < n).
      subst (λ (at : ℕ). HasFrom (targets ++ more) at ys) (sym (get_or_append_left starts (length targets ∷ []) 0 m (omega (arith, h.count))))
      (has_from-append targets ys more (get_or starts m 0) (h.laid_at f s o)))
      (λ (o : n ≤ m).
      let same : m ≡ n = omega arith in
      let at : get_or (starts ++ length targets ∷ []) m 0 ≡ length targets = ap (λ z. get_or (starts ++ length targets ∷ []) z 0) (let e : m ≡ length starts + 0 = omega (arith, h.count) in e) ∙ get_or-append-add starts (length targets ∷ []) 0 0 in
      subst (λ (z : ℕ). HasFrom (targets ++ more) z ys) (sym at)
      (subst (λ (zs : List ℕ). HasFrom (targets ++ zs) (length targets) ys) (sym (own f s same)) (has_from-end targets ys)))
      (cases_lt m n);
}

-- lists between two numbers that are all empty
pub joined_over : {A : Type 0} (g : ℕ → List A) (m d : ℕ) → ((k : ℕ) → m ≤ k → k < m + d → g k ≡ []) → joined_below (m + d) g ≡ joined_below m g
joined_over g m zero h = let z : m + 0 ≡ m = omega arith in ap (λ n. joined_below n g) z
joined_over g m (suc d) h =
    let s : m + suc d ≡ suc (m + d) = omega arith in
    ap (λ n. joined_below n g) s
    ∙ (ap (λ xs. joined_below (m + d) g ++ xs) (h (m + d) (omega arith) (omega arith))
    ∙ (append-nil (joined_below (m + d) g) ∙ joined_over g m d (λ k a b. h k a (omega (arith, b)))))

-- a tuple symbol has the columns of its number
symbol_is : (body : Table) (base n : ℕ) (f : TupleSymbol) → base ≡ suc (length body.signature) → IsTupleSymbol body.signature body.columns f → number_of base f ≡ n → f ≡ columns_at base body.columns n
symbol_is body base n f b s e = sym (columns_again body.signature base f b s.symbols) ∙ (ap (λ w. columns_at base w (number_of base f)) s.width ∙ ap (columns_at base body.columns) e)

-- the tuple symbol with a number, where a column is present
pub tuple_symbol_at : (body : Table) (base n : ℕ) (f : TupleSymbol) → base ≡ suc (length body.signature) → f ≡ columns_at base body.columns n → is_present f ≡ true → IsTupleSymbol body.signature body.columns f
tuple_symbol_at body base n f b is p = record {
  width = ap length is ∙ length-columns_at base body.columns n;
  present = present_from_test f p;
  symbols = subst (AreSymbols body.signature) (sym is) (symbols_at body.signature base body.columns n b);
}

-- a number without a tuple symbol
pub laid_none : (body : Table) (base n : ℕ) (f : TupleSymbol) (starts targets new : List ℕ) → base ≡ suc (length body.signature) → f ≡ columns_at base body.columns n → AreLaid body base n starts targets → is_present f ≡ false → new ≡ starts ++ length targets ∷ []
    → AreLaid body base (n + 1) new targets
laid_none body base n f starts targets new b is h absent e =
    subst (λ (xs : List ℕ). AreLaid body base (n + 1) xs targets) (sym e)
    (subst (λ (xs : List ℕ). AreLaid body base (n + 1) (starts ++ length targets ∷ []) xs) (append-nil targets)
    (laid_more body base n starts targets [] h
    (λ g s o. absurd (true≢false (sym (test_from_present g s.present) ∙ (ap is_present (symbol_is body base n g b s o ∙ sym is) ∙ absent))))))

-- a number with one
pub laid_one : (body : Table) (base n : ℕ) (f : TupleSymbol) (starts targets new laid_new : List ℕ) → base ≡ suc (length body.signature) → f ≡ columns_at base body.columns n → is_present f ≡ true → AreLaid body base n starts targets → new ≡ starts ++ length targets ∷ []
    → laid_new ≡ targets ++ laid body f [] 0 (symbol_kids body.signature f) → AreLaid body base (n + 1) new laid_new
laid_one body base n f starts targets new laid_new b is present h e m =
    subst (λ (xs : List ℕ). AreLaid body base (n + 1) xs laid_new) (sym e)
    (subst (λ (xs : List ℕ). AreLaid body base (n + 1) (starts ++ length targets ∷ []) xs) (sym m)
    (laid_more body base n starts targets (laid body f [] 0 (symbol_kids body.signature f)) h
    (λ g s o. ap (λ x. laid body x [] 0 (symbol_kids body.signature x)) (is ∙ sym (symbol_is body base n g b s o)))))
