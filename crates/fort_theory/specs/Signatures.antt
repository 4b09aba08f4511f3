-- To believe: what a signature, a ground term, a byte of a word and a name are, and the limits 255, 8, 255, 9 and 16.
use Rattle.std.specs.Prelude.{◌≡◌, ◌≢◌, ℕ, ◌<◌, ◌≤◌, List, length, map, All, Option, Some, option_map, slice_get, bytes_eq, Bool, IsTrue, nat_le, ◌==◌, ◌&&◌, not}
use Rattle.std.specs.List.{IsDistinct, AllByRecursion}
use Rattle.fort_theory.specs.Trees.{Tree, Trees, Node, Nil, More, tree_count}

abbrev pub most_functions : ℕ
most_functions = 255

abbrev pub most_arguments : ℕ
most_arguments = 8

abbrev pub longest_name : ℕ
longest_name = 255

abbrev pub most_indices : ℕ
most_indices = 9

-- how many trees a tuple may have; a tuple has one for each free variable of a part of a formula. What is refused and certificates
-- rest on it, and no term, rule or truth of a formula
abbrev pub most_columns : ℕ
most_columns = 16

-- a function symbol; its number is its place in the signature
pub record Symbol : Type 0 where
  pub name : List ℕ
  pub arity : ℕ

abbrev pub Signature : Type 0
Signature = List Symbol

abbrev pub symbol : List ℕ → ℕ → Symbol
symbol name arity = record { name = name; arity = arity }

abbrev pub names_of : Signature → List (List ℕ)
names_of signature = map (λ (s : Symbol). s.name) signature

-- the arity of the symbol with this number
abbrev pub arity_of : Signature → ℕ → Option ℕ
arity_of signature f = option_map (λ (s : Symbol). s.arity) (slice_get signature f)

-- the name of the symbol with this number
abbrev pub name_of : Signature → ℕ → Option (List ℕ)
name_of signature f = option_map (λ (s : Symbol). s.name) (slice_get signature f)

abbrev mutual
  pub IsGround : Signature → Tree → Type 0
  IsGround signature (Node f ts) = (arity_of signature f ≡ Some (tree_count ts)) × AreGround signature ts

  pub AreGround : Signature → Trees → Type 0
  AreGround signature Nil = Unit {0}
  AreGround signature (More t ts) = IsGround signature t × AreGround signature ts

-- some symbol has no arguments
abbrev pub HasConstant : Signature → Type 0
HasConstant signature = (f : ℕ) × (arity_of signature f ≡ Some 0)

-- a byte of a word: printable ASCII, and neither a blank nor one of ( ) ;
abbrev pub is_word_byte : ℕ → Bool
is_word_byte b = nat_le 33 b && nat_le b 126 && not (b == 40) && not (b == 41) && not (b == 59)

-- only bytes of words
abbrev pub IsWord : List ℕ → Type 0
IsWord = AllByRecursion (λ b. IsTrue (is_word_byte b))

-- a name: a word of 1 to 255 bytes that doesn't begin with a colon
pub record IsName (name : List ℕ) : Type 0 where
  pub some : 0 < length name
  pub short : length name ≤ longest_name
  pub word : IsWord name
  pub plain : slice_get name 0 ≢ Some 58

-- what every signature of a problem keeps: at most 255 symbols, their names different, arities of at most 8
pub record IsSignature (signature : Signature) : Type 0 where
  pub few : length signature ≤ most_functions
  pub distinct : IsDistinct bytes_eq (names_of signature)
  pub named : All (λ (s : Symbol). IsName s.name) signature
  pub small : All (λ (s : Symbol). s.arity ≤ most_arguments) signature
