-- Inside: a formula as a list of marks, from which it is read again.
use Rattle.std.specs.Prelude.{◌≡◌, ℕ, zero, suc, List, [], ◌∷◌, ◌++◌, drop, Some, None, slice_index_or, refl}
use Rattle.std.proofs.Common.{ap, sym, ◌∙◌, append_assoc, append-nil}
use Rattle.fort_relations.specs.ExpressionCode as expression
use Rattle.fort_relations.specs.HolesCode.{hole_number_code, hole_place_code, hole_number_at, hole_place_at, hole_number_again, hole_place_again}
use Rattle.std.specs.Coded.{Coded, code_by, coded_list, coded_ℕ, coded×}
use Rattle.fort_logic.specs.Formulas.{Name, Argument, Var, Ground, SurfaceRel, Eq, Step, Star, Plus, Reflexive, Normal, Root, Below, Par, Either, Conv, Property, Cr, Wcr, Scr, Wn, Unr, Unc, Nfp, Formula, True, False, Related, InContext, Nf, Join, Sn, Has, Com, Not, And, Or, Imp, Iff, Exists, Forall, Infinite}

abbrev pub surface_rel_place : SurfaceRel → ℕ
surface_rel_place Eq = 0
surface_rel_place Step = 1
surface_rel_place Star = 2
surface_rel_place Plus = 3
surface_rel_place Reflexive = 4
surface_rel_place Normal = 5
surface_rel_place Root = 6
surface_rel_place Below = 7
surface_rel_place Par = 8
surface_rel_place Either = 9
surface_rel_place Conv = 10

abbrev pub surface_rel_at : ℕ → SurfaceRel
surface_rel_at place =
    slice_index_or (Eq ∷ Step ∷ Star ∷ Plus ∷ Reflexive ∷ Normal ∷ Root ∷ Below ∷ Par ∷ Either ∷ Conv ∷ []) place Eq

pub surface_rel_again : (rel : SurfaceRel) → surface_rel_at (surface_rel_place rel) ≡ rel
surface_rel_again Eq = refl
surface_rel_again Step = refl
surface_rel_again Star = refl
surface_rel_again Plus = refl
surface_rel_again Reflexive = refl
surface_rel_again Normal = refl
surface_rel_again Root = refl
surface_rel_again Below = refl
surface_rel_again Par = refl
surface_rel_again Either = refl
surface_rel_again Conv = refl

abbrev pub property_place : Property → ℕ
property_place Cr = 0
property_place Wcr = 1
property_place Scr = 2
property_place Wn = 3
property_place Unr = 4
property_place Unc = 5
property_place Nfp = 6

abbrev pub property_at : ℕ → Property
property_at place = slice_index_or (Cr ∷ Wcr ∷ Scr ∷ Wn ∷ Unr ∷ Unc ∷ Nfp ∷ []) place Cr

pub property_again : (property : Property) → property_at (property_place property) ≡ property
property_again Cr = refl
property_again Wcr = refl
property_again Scr = refl
property_again Wn = refl
property_again Unr = refl
property_again Unc = refl
property_again Nfp = refl

-- an argument is a number and a name: 0 and the variable, or one more than the place of the ground term and the empty name
abbrev pub argument_number : Argument → ℕ
argument_number (Var x) = 0
argument_number (Ground k) = suc k

abbrev pub argument_name : Argument → Name
argument_name (Var x) = x
argument_name (Ground k) = []

abbrev pub argument_at : ℕ → Name → Argument
argument_at zero x = Var x
argument_at (suc k) x = Ground k

pub argument_again : (a : Argument) → argument_at (argument_number a) (argument_name a) ≡ a
argument_again (Var x) = refl
argument_again (Ground k) = refl

-- one node: the place of its connective in the list of the connectives; the place of its relation or property, its index,
-- and the numbers of its arguments, or what its context is and its expression's spelling; its names
abbrev pub Mark : Type 0
Mark = ℕ × (List ℕ × List Name)

abbrev pub mark : ℕ → List ℕ → List Name → Mark
mark place ns xs = (place, (ns, xs))

abbrev pub spelled : Formula → List Mark
spelled True = mark 0 [] [] ∷ []
spelled False = mark 1 [] [] ∷ []
spelled (Related rel a b index) =
    mark 2 (surface_rel_place rel ∷ index ∷ argument_number a ∷ argument_number b ∷ []) (argument_name a ∷ argument_name b ∷ []) ∷ []
spelled (Nf a index) = mark 3 (index ∷ argument_number a ∷ []) (argument_name a ∷ []) ∷ []
spelled (Join a b index) = mark 4 (index ∷ argument_number a ∷ argument_number b ∷ []) (argument_name a ∷ argument_name b ∷ []) ∷ []
spelled (Has property index) = mark 5 (property_place property ∷ index ∷ []) [] ∷ []
spelled Com = mark 6 [] [] ∷ []
spelled (Not f) = mark 7 [] [] ∷ spelled f
spelled (And f g) = mark 8 [] [] ∷ (spelled f ++ spelled g)
spelled (Or f g) = mark 9 [] [] ∷ (spelled f ++ spelled g)
spelled (Imp f g) = mark 10 [] [] ∷ (spelled f ++ spelled g)
spelled (Iff f g) = mark 11 [] [] ∷ (spelled f ++ spelled g)
spelled (Exists x f) = mark 12 [] (x ∷ []) ∷ spelled f
spelled (Forall x f) = mark 13 [] (x ∷ []) ∷ spelled f
spelled (Infinite x f) = mark 14 [] (x ∷ []) ∷ spelled f
spelled (Sn (Some a) index) = mark 15 (index ∷ argument_number a ∷ []) (argument_name a ∷ []) ∷ []
spelled (Sn None index) = mark 16 (index ∷ []) [] ∷ []
spelled (InContext e number place a b) =
    mark 17 (hole_number_code number ∷ hole_place_code place ∷ argument_number a ∷ argument_number b ∷ expression.spelled e)
    (argument_name a ∷ argument_name b ∷ []) ∷ []

-- ---- a spelling is read from its end to its front, over a stack

abbrev pub number_at : List ℕ → ℕ → ℕ
number_at ns k = slice_index_or ns k 0

abbrev pub name_at : List Name → ℕ → Name
name_at xs k = slice_index_or xs k []

abbrev pub one_read : (Formula → Formula) → List Formula → List Formula
one_read make [] = []
one_read make (f ∷ rest) = make f ∷ rest

abbrev pub two_read : (Formula → Formula → Formula) → List Formula → List Formula
two_read make (f ∷ g ∷ rest) = make f g ∷ rest
two_read make other = other

-- what a mark with these numbers and names makes of the formulas behind it
abbrev pub Reader : Type 0
Reader = List ℕ → List Name → List Formula → List Formula

-- by the place of the connective
abbrev pub readers : List Reader
readers =
    (λ ns xs fs. True ∷ fs)
    ∷ (λ ns xs fs. False ∷ fs)
    ∷ (λ ns xs fs.
    Related (surface_rel_at (number_at ns 0)) (argument_at (number_at ns 2) (name_at xs 0)) (argument_at (number_at ns 3) (name_at xs 1)) (number_at ns 1) ∷ fs)
    ∷ (λ ns xs fs. Nf (argument_at (number_at ns 1) (name_at xs 0)) (number_at ns 0) ∷ fs)
    ∷ (λ ns xs fs. Join (argument_at (number_at ns 1) (name_at xs 0)) (argument_at (number_at ns 2) (name_at xs 1)) (number_at ns 0) ∷ fs)
    ∷ (λ ns xs fs. Has (property_at (number_at ns 0)) (number_at ns 1) ∷ fs)
    ∷ (λ ns xs fs. Com ∷ fs)
    ∷ (λ ns xs fs. one_read Not fs)
    ∷ (λ ns xs fs. two_read And fs)
    ∷ (λ ns xs fs. two_read Or fs)
    ∷ (λ ns xs fs. two_read Imp fs)
    ∷ (λ ns xs fs. two_read Iff fs)
    ∷ (λ ns xs fs. one_read (Exists (name_at xs 0)) fs)
    ∷ (λ ns xs fs. one_read (Forall (name_at xs 0)) fs)
    ∷ (λ ns xs fs. one_read (Infinite (name_at xs 0)) fs)
    ∷ (λ ns xs fs. Sn (Some (argument_at (number_at ns 1) (name_at xs 0))) (number_at ns 0) ∷ fs)
    ∷ (λ ns xs fs. Sn None (number_at ns 0) ∷ fs)
    ∷ (λ ns xs fs.
    InContext (expression.expression_of_code (drop 4 ns)) (hole_number_at (number_at ns 0)) (hole_place_at (number_at ns 1))
    (argument_at (number_at ns 2) (name_at xs 0)) (argument_at (number_at ns 3) (name_at xs 1)) ∷ fs)
    ∷ []

abbrev pub read_back : List Mark → List Formula
read_back [] = []
read_back (m ∷ ms) = slice_index_or readers m.0 (λ ns xs fs. fs) m.1.0 m.1.1 (read_back ms)

abbrev pub first_formula : List Formula → Formula
first_formula [] = True
first_formula (f ∷ rest) = f

-- two formulas are read one after the other
pub read_back-two : (make : Formula → Formula → Formula) (f g : Formula) (ms : List Mark)
    → ((ns : List Mark) → read_back (spelled f ++ ns) ≡ f ∷ read_back ns)
    → ((ns : List Mark) → read_back (spelled g ++ ns) ≡ g ∷ read_back ns)
    → two_read make (read_back ((spelled f ++ spelled g) ++ ms)) ≡ make f g ∷ read_back ms
read_back-two make f g ms h k =
    ap (λ ns. two_read make (read_back ns)) (append_assoc (spelled f) (spelled g) ms)
    ∙ (ap (two_read make) (h (spelled g ++ ms)) ∙ ap (λ fs. two_read make (f ∷ fs)) (k ms))

pub read_back-spelled : (f : Formula) (ms : List Mark) → read_back (spelled f ++ ms) ≡ f ∷ read_back ms
read_back-spelled True ms = refl
read_back-spelled False ms = refl
read_back-spelled (Related rel a b index) ms =
    ap (λ r. Related r (argument_at (argument_number a) (argument_name a)) (argument_at (argument_number b) (argument_name b)) index ∷ read_back ms)
    (surface_rel_again rel)
    ∙ (ap (λ c. Related rel c (argument_at (argument_number b) (argument_name b)) index ∷ read_back ms) (argument_again a)
    ∙ ap (λ c. Related rel a c index ∷ read_back ms) (argument_again b))
read_back-spelled (Nf a index) ms = ap (λ c. Nf c index ∷ read_back ms) (argument_again a)
read_back-spelled (Join a b index) ms =
    ap (λ c. Join c (argument_at (argument_number b) (argument_name b)) index ∷ read_back ms) (argument_again a)
    ∙ ap (λ c. Join a c index ∷ read_back ms) (argument_again b)
read_back-spelled (Has property index) ms = ap (λ p. Has p index ∷ read_back ms) (property_again property)
read_back-spelled Com ms = refl
read_back-spelled (Not f) ms = ap (one_read Not) (read_back-spelled f ms)
read_back-spelled (And f g) ms = read_back-two And f g ms (λ ns. read_back-spelled f ns) (λ ns. read_back-spelled g ns)
read_back-spelled (Or f g) ms = read_back-two Or f g ms (λ ns. read_back-spelled f ns) (λ ns. read_back-spelled g ns)
read_back-spelled (Imp f g) ms = read_back-two Imp f g ms (λ ns. read_back-spelled f ns) (λ ns. read_back-spelled g ns)
read_back-spelled (Iff f g) ms = read_back-two Iff f g ms (λ ns. read_back-spelled f ns) (λ ns. read_back-spelled g ns)
read_back-spelled (Exists x f) ms = ap (one_read (Exists x)) (read_back-spelled f ms)
read_back-spelled (Forall x f) ms = ap (one_read (Forall x)) (read_back-spelled f ms)
read_back-spelled (Infinite x f) ms = ap (one_read (Infinite x)) (read_back-spelled f ms)
read_back-spelled (Sn (Some a) index) ms = ap (λ c. Sn (Some c) index ∷ read_back ms) (argument_again a)
read_back-spelled (Sn None index) ms = refl
read_back-spelled (InContext e number place a b) ms =
    let first = argument_at (argument_number a) (argument_name a) in
    let second = argument_at (argument_number b) (argument_name b) in
    ap (λ d. InContext d (hole_number_at (hole_number_code number)) (hole_place_at (hole_place_code place)) first second ∷ read_back ms)
    (expression.expression_again e)
    ∙ (ap (λ m. InContext e m (hole_place_at (hole_place_code place)) first second ∷ read_back ms) (hole_number_again number)
    ∙ (ap (λ p. InContext e number p first second ∷ read_back ms) (hole_place_again place)
    ∙ (ap (λ c. InContext e number place c second ∷ read_back ms) (argument_again a)
    ∙ ap (λ c. InContext e number place a c ∷ read_back ms) (argument_again b))))

pub formula_again : (f : Formula) → first_formula (read_back (spelled f)) ≡ f
formula_again f = ap (λ ns. first_formula (read_back ns)) (sym (append-nil (spelled f))) ∙ ap first_formula (read_back-spelled f [])

abbrev pub formula_code : Coded Formula
formula_code =
    code_by (List Mark) (coded_list (coded× coded_ℕ (coded× (coded_list coded_ℕ) (coded_list (coded_list coded_ℕ))))) spelled
    (λ ms. first_formula (read_back ms)) formula_again
