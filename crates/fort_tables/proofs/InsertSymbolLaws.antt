-- Results for the crates above: a column inserted into a tuple symbol, what stands under it, and a symbol alone among absent columns.
use Rattle.std.proofs.Common.{◌≡◌, ℕ, zero, suc, ◌^◌, ◌<◌, ◌≤◌, max, [], ◌∷◌, length, Option, None, Some, refl, arith}
use Rattle.std.specs.List.{insert}
use Rattle.std.proofs.Math.Nat.{pow-suc}
use Rattle.std.proofs.lemmas.List.Edits.{length-insert}
use Rattle.fort_theory.specs.Trees.{Tree}
use Rattle.fort_theory.specs.Signatures.{Signature}
use Rattle.fort_tables.specs.Tuples.{Tuple, TupleSymbol, all_absent, IsTupleSymbol, AreSymbols, arity, symbol_kids, kid_presence, FitsKid}
use Rattle.fort_tables.proofs.TupleLaws.{ColumnFits, bit_below}
use Rattle.fort_tables.proofs.InsertLaws.{IsPresent-insert_some, IsPresent-insert_none}

-- how many children
pub symbol_kids-insert_some : (sig : Signature) (f : TupleSymbol) (c g : ℕ) → symbol_kids sig (insert f c (Some g)) ≡ max (arity sig g) (symbol_kids sig f)
symbol_kids-insert_some sig f zero g = refl
symbol_kids-insert_some sig [] (suc c) g = refl
symbol_kids-insert_some sig (None ∷ f) (suc c) g = symbol_kids-insert_some sig f c g
symbol_kids-insert_some sig (Some z ∷ f) (suc c) g = omega (arith, symbol_kids-insert_some sig f c g)

pub symbol_kids-insert_none : (sig : Signature) (f : TupleSymbol) (c : ℕ) → symbol_kids sig (insert f c None) ≡ symbol_kids sig f
symbol_kids-insert_none sig f zero = refl
symbol_kids-insert_none sig [] (suc c) = refl
symbol_kids-insert_none sig (None ∷ f) (suc c) = symbol_kids-insert_none sig f c
symbol_kids-insert_none sig (Some z ∷ f) (suc c) = omega (arith, symbol_kids-insert_none sig f c)

-- tuple symbols
AreSymbols-insert_some : (sig : Signature) (f : TupleSymbol) (c g : ℕ) → g < length sig → AreSymbols sig f → AreSymbols sig (insert f c (Some g))
AreSymbols-insert_some sig f zero g h k = (h, k)
AreSymbols-insert_some sig [] (suc c) g h k = (h, tt)
AreSymbols-insert_some sig (None ∷ f) (suc c) g h k = AreSymbols-insert_some sig f c g h k
AreSymbols-insert_some sig (Some z ∷ f) (suc c) g h k = (k.0, AreSymbols-insert_some sig f c g h k.1)

AreSymbols-insert_none : (sig : Signature) (f : TupleSymbol) (c : ℕ) → AreSymbols sig f → AreSymbols sig (insert f c None)
AreSymbols-insert_none sig f zero k = k
AreSymbols-insert_none sig [] (suc c) k = tt
AreSymbols-insert_none sig (None ∷ f) (suc c) k = AreSymbols-insert_none sig f c k
AreSymbols-insert_none sig (Some z ∷ f) (suc c) k = (k.0, AreSymbols-insert_none sig f c k.1)

pub IsTupleSymbol-insert_some : (sig : Signature) (n : ℕ) (f : TupleSymbol) (c g : ℕ) → c ≤ n → g < length sig → IsTupleSymbol sig n f → IsTupleSymbol sig (suc n) (insert f c (Some g))
IsTupleSymbol-insert_some sig n f c g low h s = record {
  width = omega (arith, length-insert f c (Some g) (omega (arith, s.width)), s.width);
  present = IsPresent-insert_some f c g;
  symbols = AreSymbols-insert_some sig f c g h s.symbols;
}

pub IsTupleSymbol-insert_none : (sig : Signature) (n : ℕ) (f : TupleSymbol) (c : ℕ) → c ≤ n → IsTupleSymbol sig n f → IsTupleSymbol sig (suc n) (insert f c None)
IsTupleSymbol-insert_none sig n f c low s = record {
  width = omega (arith, length-insert f c None (omega (arith, s.width)), s.width);
  present = IsPresent-insert_none f c s.present;
  symbols = AreSymbols-insert_none sig f c s.symbols;
}

-- children
fits_first : (sig : Signature) (g : ℕ) (f : TupleSymbol) (j : ℕ) (x : Option Tree) (t : Tuple) → ColumnFits (arity sig g) j x → FitsKid sig f j t → FitsKid sig (Some g ∷ f) j (x ∷ t)
fits_first sig g f j None t h k = (h, k)
fits_first sig g f j (Some x) t h k = (h, k)

pub FitsKid-insert_some : (sig : Signature) (f : TupleSymbol) (c g j : ℕ) (x : Option Tree) (t : Tuple) → ColumnFits (arity sig g) j x → FitsKid sig f j t → FitsKid sig (insert f c (Some g)) j (insert t c x)
FitsKid-insert_some sig f zero g j x t h k = fits_first sig g f j x t h k
FitsKid-insert_some sig [] (suc c) g j x [] h k = fits_first sig g [] j x [] h k
FitsKid-insert_some sig [] (suc c) g j x (y ∷ t) h k = absurd k
FitsKid-insert_some sig (y ∷ f) (suc c) g j x [] h k = absurd k
FitsKid-insert_some sig (None ∷ f) (suc c) g j x (None ∷ t) h k = FitsKid-insert_some sig f c g j x t h k
FitsKid-insert_some sig (None ∷ f) (suc c) g j x (Some y ∷ t) h k = absurd k
FitsKid-insert_some sig (Some z ∷ f) (suc c) g j x (None ∷ t) h k = (k.0, FitsKid-insert_some sig f c g j x t h k.1)
FitsKid-insert_some sig (Some z ∷ f) (suc c) g j x (Some y ∷ t) h k = (k.0, FitsKid-insert_some sig f c g j x t h k.1)

pub FitsKid-insert_none : (sig : Signature) (f : TupleSymbol) (c j : ℕ) (t : Tuple) → FitsKid sig f j t → FitsKid sig (insert f c None) j (insert t c None)
FitsKid-insert_none sig f zero j t k = k
FitsKid-insert_none sig [] (suc c) j [] k = tt
FitsKid-insert_none sig [] (suc c) j (y ∷ t) k = absurd k
FitsKid-insert_none sig (y ∷ f) (suc c) j [] k = absurd k
FitsKid-insert_none sig (None ∷ f) (suc c) j (None ∷ t) k = FitsKid-insert_none sig f c j t k
FitsKid-insert_none sig (None ∷ f) (suc c) j (Some y ∷ t) k = absurd k
FitsKid-insert_none sig (Some z ∷ f) (suc c) j (None ∷ t) k = (k.0, FitsKid-insert_none sig f c j t k.1)
FitsKid-insert_none sig (Some z ∷ f) (suc c) j (Some y ∷ t) k = (k.0, FitsKid-insert_none sig f c j t k.1)

-- past the last child
pub FitsKid-all_absent : (sig : Signature) (f : TupleSymbol) (j : ℕ) → symbol_kids sig f ≤ j → FitsKid sig f j (all_absent (length f))
FitsKid-all_absent sig [] j h = tt
FitsKid-all_absent sig (None ∷ f) j h = FitsKid-all_absent sig f j h
FitsKid-all_absent sig (Some g ∷ f) j h = (omega arith, FitsKid-all_absent sig f j (omega arith))

-- a symbol alone
symbol_kids-all_absent : (sig : Signature) (n : ℕ) → symbol_kids sig (all_absent n) ≡ 0
symbol_kids-all_absent sig zero = refl
symbol_kids-all_absent sig (suc n) = symbol_kids-all_absent sig n

kid_presence-all_absent : (sig : Signature) (n j : ℕ) → kid_presence sig (all_absent n) j ≡ 0
kid_presence-all_absent sig zero j = refl
kid_presence-all_absent sig (suc n) j = omega (arith, kid_presence-all_absent sig n j)

AreSymbols-all_absent : (sig : Signature) (n : ℕ) → AreSymbols sig (all_absent n)
AreSymbols-all_absent sig zero = tt
AreSymbols-all_absent sig (suc n) = AreSymbols-all_absent sig n

pub symbol_kids-alone : (sig : Signature) (c n g : ℕ) → symbol_kids sig (insert (all_absent n) c (Some g)) ≡ arity sig g
symbol_kids-alone sig zero n g = omega (arith, symbol_kids-all_absent sig n)
symbol_kids-alone sig (suc c) zero g = omega arith
symbol_kids-alone sig (suc c) (suc n) g = symbol_kids-alone sig c n g

pub kid_presence-alone : (sig : Signature) (c n g j : ℕ) → c ≤ n → j < arity sig g → kid_presence sig (insert (all_absent n) c (Some g)) j ≡ 2 ^ c
kid_presence-alone sig zero n g j h l = omega (arith, bit_below j (arity sig g) l, kid_presence-all_absent sig n j)
kid_presence-alone sig (suc c) zero g j h l = absurd (omega arith)
kid_presence-alone sig (suc c) (suc n) g j h l = omega (arith, kid_presence-alone sig c n g j (omega arith) l, pow-suc 2 c)

pub AreSymbols-alone : (sig : Signature) (c n g : ℕ) → g < length sig → AreSymbols sig (insert (all_absent n) c (Some g))
AreSymbols-alone sig c n g h = AreSymbols-insert_some sig (all_absent n) c g h (AreSymbols-all_absent sig n)

pub symbol_within-alone : (sig : Signature) (c n g : ℕ) → AreSymbols sig (insert (all_absent n) c (Some g)) → g < length sig
symbol_within-alone sig zero n g h = h.0
symbol_within-alone sig (suc c) zero g h = h.0
symbol_within-alone sig (suc c) (suc n) g h = symbol_within-alone sig c n g h
