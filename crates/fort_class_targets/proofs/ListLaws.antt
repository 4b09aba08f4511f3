-- Lists that are written place by place: numbers that are set one after another, presences of children, leaders of a place.
use Rattle.std.proofs.Common.{◌≡◌, ℕ, zero, suc, ◌+◌, ◌<◌, ◌≤◌, List, [], ◌∷◌, take, length, get_or, ap, sym, ◌∙◌, arith, None, Some}
use Rattle.std.proofs.lemmas.List.{length-take-le, get_or-take, ext_get_or}
use Rattle.fort_theory.specs.Signatures.{Signature, IsSignature}
use Rattle.fort_tables.specs.Tuples.{TupleSymbol, AreSymbols, symbol_kids, kid_presence}
use Rattle.fort_target_lists.proofs.ColumnLaws.{arity_small}
use Rattle.fort_entry_walk.specs.WalkPlaces.{wants_from, wants}
use Rattle.fort_entry_walk.proofs.WalkLaws.{length-wants_from}

-- the presence that is wanted of a child
get_or-wants_from : (sig : Signature) (f : TupleSymbol) (i n j : ℕ) → j < n → get_or (wants_from sig f i n) j 0 ≡ kid_presence sig f (i + j)
get_or-wants_from sig f i zero j l = absurd (omega arith)
get_or-wants_from sig f i (suc n) zero l = let e : i ≡ i + 0 = omega arith in ap (kid_presence sig f) e
get_or-wants_from sig f i (suc n) (suc j) l = let e : i + 1 + j ≡ i + suc j = omega arith in get_or-wants_from sig f (i + 1) n j (omega arith) ∙ ap (kid_presence sig f) e

pub length-wants : (sig : Signature) (f : TupleSymbol) → length (wants sig f) ≡ symbol_kids sig f
length-wants sig f = length-wants_from sig f 0 (symbol_kids sig f)

pub get_or-wants : (sig : Signature) (f : TupleSymbol) (j : ℕ) → j < symbol_kids sig f → get_or (wants sig f) j 0 ≡ kid_presence sig f j
get_or-wants sig f j l = let e : 0 + j ≡ j = omega arith in get_or-wants_from sig f 0 (symbol_kids sig f) j l ∙ ap (kid_presence sig f) e

-- the presences of the children, where they were written place by place
pub wants_read : (sig : Signature) (f : TupleSymbol) (count : ℕ) (ws : List ℕ) → count ≡ symbol_kids sig f → count ≤ length ws → ((j : ℕ) → j < count → get_or ws j 0 ≡ kid_presence sig f j) → take count ws ≡ wants sig f
wants_read sig f count ws is few h =
    let m = length-take-le count ws few in
    ext_get_or 0 (take count ws) (wants sig f) (m ∙ (is ∙ sym (length-wants sig f)))
    (λ j l. let low : j < count = omega (arith, m) in
    get_or-take count ws j 0 low ∙ (h j low ∙ sym (get_or-wants sig f j (omega (arith, low, is)))))

-- a tuple symbol has few children
pub few_kids : (sig : Signature) (f : TupleSymbol) → IsSignature sig → AreSymbols sig f → symbol_kids sig f ≤ 8
few_kids sig [] is h = omega arith
few_kids sig (None ∷ f) is h = few_kids sig f is h
few_kids sig (Some g ∷ f) is h = omega (arith, arity_small sig g is h.0, few_kids sig f is h.1)
