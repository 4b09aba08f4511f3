-- A part that is over a cap with reduced operands is over it without: tuples that are alike are alike with reduced operands, where the operands have right answers.
use Rattle.std.proofs.Common.{◌≡◌, ℕ, suc, ◌≤◌, List, [], ◌∷◌, length, get_or, None, Some, true, ap, sym, ◌∙◌, arith, subst}
use Rattle.std.specs.Prelude.{Contains}
use Rattle.std.specs.List.{insert}
use Rattle.std.proofs.lemmas.List.{length-map}
use Rattle.fort_theory.specs.Trees.{Tree}
use Rattle.fort_theory.specs.Signatures.{Signature, IsGround}
use Rattle.fort_theory.specs.Patterns.{PatternSystem}
use Rattle.fort_theory.specs.Cores as core
use Rattle.fort_theory.specs.Cores.{Core, True, Leaf, Related, Normal, IsTerm, Not, Binary, Exists, Infinite}
use Rattle.fort_theory.specs.Parts.{is_free, BindsFree}
use Rattle.fort_tables.specs.Tuples.{Tuple, presence, IsTuple, IsPresent}
use Rattle.fort_tables.specs.Tables.{Table, state_of}
use Rattle.fort_tables.proofs.TableLaws.{table_state}
use Rattle.fort_tables.proofs.InsertLaws.{IsTuple-insert_some, IsTuple-insert_none}
use Rattle.fort_tables.proofs.SameLaws.{Interchangeable-sym, Interchangeable-trans}
use Rattle.fort_tables.specs.Selections.{selected}
use Rattle.fort_tables.specs.Agreement.{AgreeOn, AgreeAtBoth, IsMatched, AgreeAtSome}
use Rattle.fort_tables.proofs.SelectionLaws.{IsTuple-selected, is_present-alike, present_from_test, test_from_present}
use Rattle.fort_tables.specs.ManyAgreement.{HasManyLike, AgreeAtMany}
use Rattle.fort_parts.specs.PartColumns.{columns_of, place_in, places_in}
use Rattle.fort_parts.specs.AlikeParts.{AlikeAt, IsOverBy, IsPartOver}
use Rattle.fort_parts.specs.PartAnswers.{Answer, OfValue, OfTable}
use Rattle.fort_parts.specs.RightAnswers.{IsRightFor}
use Rattle.fort_theory.proofs.Members.{Contains-none}
use Rattle.fort_parts.proofs.PartColumnLaws.{column-from_free}
use Rattle.fort_parts.proofs.StepAnswers.{place_bound, count_bound}
use Rattle.fort_parts.specs.ReducedParts.{InterchangeableAt, IsSatisfiedBy, AlikeReduced}
use Rattle.fort_parts.proofs.Pigeons.{some_state_has_many}
use Rattle.fort_parts.proofs.MergedAnswers.{interchangeable_from_alike}

pub record HasAnswer (system : PatternSystem) (f : Core) : Type 0 where
  pub answer : Answer
  pub right : IsRightFor system f answer

-- of each operand
abbrev pub OperandsAnswered : PatternSystem → Core → Type 0
OperandsAnswered system True = Unit {0}
OperandsAnswered system (Leaf a) = Unit {0}
OperandsAnswered system (Not f) = HasAnswer system f
OperandsAnswered system (Binary op f g) = HasAnswer system f × HasAnswer system g
OperandsAnswered system (Exists n f) = HasAnswer system f
OperandsAnswered system (Infinite n f) = HasAnswer system f

no_tuple : (sig : Signature) (columns : List ℕ) (t : Tuple) → columns ≡ [] → IsTuple sig (length columns) t → ⊥
no_tuple sig columns t none h = by t (h.width ∙ ap length none) h.present
  where
    by : (t : Tuple) → length t ≡ 0 → IsPresent t → ⊥
    by [] e p = p
    by (x ∷ t) e p = omega arith

table_of : (system : PatternSystem) (f : Core) (a : Answer) → IsRightFor system f a → (t : Tuple) → IsTuple system.signature (length (columns_of f)) t → (table : Table) × IsRightFor system f (OfTable table)
table_of system f (OfValue b) right t h = absurd (no_tuple system.signature (columns_of f) t right.answers.over h)
table_of system f (OfTable table) right t h = (table, right)

-- a body in which a number is free has columns, and so a table
pub body_of : (system : PatternSystem) (n : ℕ) (f : Core) → is_free n f ≡ true → HasAnswer system f → (table : Table) × IsRightFor system f (OfTable table)
body_of system n f among a = by a.answer a.right
  where
    by : (x : Answer) → IsRightFor system f x → (table : Table) × IsRightFor system f (OfTable table)
    by (OfValue b) right = absurd (Contains-none n (subst (λ ys. Contains ys n) right.answers.over (column-from_free f n among)))
    by (OfTable table) right = (table, right)

module _ (system : PatternSystem) where
  lift : (f : Core) → HasAnswer system f → (t u : Tuple) → IsTuple system.signature (length (columns_of f)) t → IsTuple system.signature (length (columns_of f)) u
      → AlikeAt system f t u → InterchangeableAt system f t u
  lift f a t u ht hu h = let w = table_of system f a.answer a.right t ht in interchangeable_from_alike system f w.0 w.1 t u ht hu h

  -- on an operand's columns
  lift_on : (f : Core) (zs : List ℕ) → HasAnswer system f → (t u : Tuple) → IsTuple system.signature (length zs) t → IsTuple system.signature (length zs) u → presence t ≡ presence u
      → AgreeOn (places_in zs (columns_of f)) (AlikeAt system f) t u → AgreeOn (places_in zs (columns_of f)) (InterchangeableAt system f) t u
  lift_on f zs a t u ht hu e h here =
      let ps = places_in zs (columns_of f) in
      let count : length ps ≡ length (columns_of f) = length-map (columns_of f) (place_in zs) in
      let same = is_present-alike ps t u (ht.width ∙ sym hu.width) e in
      let there = present_from_test (selected ps u) (sym same ∙ test_from_present (selected ps t) here) in
      lift f a (selected ps t) (selected ps u)
      (subst (λ k. IsTuple system.signature k (selected ps t)) count (IsTuple-selected system.signature ps t ht.grounded here))
      (subst (λ k. IsTuple system.signature k (selected ps u)) count (IsTuple-selected system.signature ps u hu.grounded there))
      (h here)

  lift_both : (f g : Core) (zs : List ℕ) → HasAnswer system f → HasAnswer system g → (t u : Tuple) → IsTuple system.signature (length zs) t → IsTuple system.signature (length zs) u
      → AgreeAtBoth (places_in zs (columns_of f)) (AlikeAt system f) (places_in zs (columns_of g)) (AlikeAt system g) t u
      → AgreeAtBoth (places_in zs (columns_of f)) (InterchangeableAt system f) (places_in zs (columns_of g)) (InterchangeableAt system g) t u
  lift_both f g zs a b t u ht hu h =
      record { present = h.present; first = lift_on f zs a t u ht hu h.present h.first; second = lift_on g zs b t u ht hu h.present h.second }

  -- with a term more
  module _ (n : ℕ) (f : Core) (body : Table) (right : IsRightFor system f (OfTable body)) (among : is_free n f ≡ true) where
    c_low : place_in (columns_of f) n ≤ length (columns_of (core.Exists n f))
    c_low = omega (arith, place_bound n f among, count_bound n f among)

    with_term : (t : Tuple) (x : Tree) → IsTuple system.signature (length (columns_of (core.Exists n f))) t → IsGround system.signature x
        → IsTuple system.signature (length (columns_of f)) (insert t (place_in (columns_of f) n) (Some x))
    with_term t x h g =
        let e : suc (length (columns_of (core.Exists n f))) ≡ length (columns_of f) = omega (arith, count_bound n f among) in
        subst (λ k. IsTuple system.signature k (insert t (place_in (columns_of f) n) (Some x))) e
        (IsTuple-insert_some system.signature (length (columns_of (core.Exists n f))) t (place_in (columns_of f) n) x c_low g h.width h.grounded)

    without_term : (t : Tuple) → IsTuple system.signature (length (columns_of (core.Exists n f))) t → IsTuple system.signature (length (columns_of f)) (insert t (place_in (columns_of f) n) None)
    without_term t h =
        let e : suc (length (columns_of (core.Exists n f))) ≡ length (columns_of f) = omega (arith, count_bound n f among) in
        subst (λ k. IsTuple system.signature k (insert t (place_in (columns_of f) n) None)) e
        (IsTuple-insert_none system.signature (length (columns_of (core.Exists n f))) t (place_in (columns_of f) n) c_low h)

    up : (t u : Tuple) → IsTuple system.signature (length (columns_of f)) t → IsTuple system.signature (length (columns_of f)) u → AlikeAt system f t u → InterchangeableAt system f t u
    up t u ht hu h = interchangeable_from_alike system f body right t u ht hu h

    lift_matched : (t u : Tuple) → IsTuple system.signature (length (columns_of (core.Exists n f))) t → IsTuple system.signature (length (columns_of (core.Exists n f))) u
        → IsMatched system.signature (place_in (columns_of f) n) (AlikeAt system f) t u → IsMatched system.signature (place_in (columns_of f) n) (InterchangeableAt system f) t u
    lift_matched t u ht hu h x g =
        let r = h x g in
        (r.0, r.1, up (insert t (place_in (columns_of f) n) (Some x)) (insert u (place_in (columns_of f) n) (Some r.0)) (with_term t x ht g) (with_term u r.0 hu r.1) r.2)

    lift_some : (t u : Tuple) → IsTuple system.signature (length (columns_of (core.Exists n f))) t → IsTuple system.signature (length (columns_of (core.Exists n f))) u
        → AgreeAtSome system.signature (place_in (columns_of f) n) (AlikeAt system f) t u → AgreeAtSome system.signature (place_in (columns_of f) n) (InterchangeableAt system f) t u
    lift_some t u ht hu h = record {
      present = h.present;
      absent = up (insert t (place_in (columns_of f) n) None) (insert u (place_in (columns_of f) n) None) (without_term t ht) (without_term u hu) h.absent;
      forth = lift_matched t u ht hu h.forth;
      back = lift_matched u t hu ht h.back;
    }

    -- a tuple of the formula is one of its table
    at : (s : Tuple) → IsTuple system.signature (length (columns_of f)) s → IsTuple body.signature body.columns s
    at s i = subst (λ (z : Signature). IsTuple z body.columns s) (sym right.answers.over.signature) (subst (λ k. IsTuple system.signature k s) (sym right.answers.over.columns_are) i)

    one_way : (t u : Tuple) → IsTuple system.signature (length (columns_of (core.Exists n f))) t → IsTuple system.signature (length (columns_of (core.Exists n f))) u
        → IsMatched system.signature (place_in (columns_of f) n) (AlikeAt system f) t u
        → ((v w : Tree) → IsGround system.signature v → IsGround system.signature w → AlikeAt system f (insert t (place_in (columns_of f) n) (Some v)) (insert u (place_in (columns_of f) n) (Some w))
        → HasManyLike system.signature (place_in (columns_of f) n) (AlikeAt system f) t v → HasManyLike system.signature (place_in (columns_of f) n) (AlikeAt system f) u w)
        → (x y : Tree) → IsGround system.signature x → IsGround system.signature y → InterchangeableAt system f (insert t (place_in (columns_of f) n) (Some x)) (insert u (place_in (columns_of f) n) (Some y))
        → HasManyLike system.signature (place_in (columns_of f) n) (InterchangeableAt system f) t x → HasManyLike system.signature (place_in (columns_of f) n) (InterchangeableAt system f) u y
    one_way t u ht hu matched step x y gx gy e many ys none =
        let c = place_in (columns_of f) n in
        let sig = system.signature in
        let R = IsSatisfiedBy system f in
        let k = length (columns_of f) in
        let t_with : Tree → Tuple = λ v. insert t c (Some v) in
        let u_with : Tree → Tuple = λ v. insert u c (Some v) in
        some_state_has_many (λ v. IsGround sig v × InterchangeableAt system f (t_with v) (t_with x)) (λ v. state_of body (t_with v)) (length body.presences)
        (λ v p. (table_state body right.answers.over.lawful (t_with v) (at (t_with v) (with_term t v ht p.0))).within)
        many
        (λ q l manyq. manyq [] (λ v h.
        let gv = h.1.0.0 in
        let m = matched v gv in
        let w = m.0 in
        let here : HasManyLike sig c (AlikeAt system f) t v =
        λ xs no. manyq xs (λ z i. no z (i.0, (i.1.0.0, (right.alike (t_with z) (t_with v) (at (t_with z) (with_term t z ht i.1.0.0)) (at (t_with v) (with_term t v ht gv))).0 (i.1.1 ∙ sym h.1.1)))) in
        let there = step v w gv m.1 m.2 here in
        let like_vw = up (t_with v) (u_with w) (with_term t v ht gv) (with_term u w hu m.1) m.2 in
        let on : InterchangeableAt system f (u_with w) (u_with y) =
        Interchangeable-trans sig k R (u_with w) (t_with v) (u_with y) (Interchangeable-sym sig k R (t_with v) (u_with w) like_vw)
        (Interchangeable-trans sig k R (t_with v) (t_with x) (u_with y) h.1.0.1 e) in
        there ys (λ z i. none z (
          i.0,
          (
            i.1.0,
            Interchangeable-trans sig k R (u_with z) (u_with w) (u_with y) (up (u_with z) (u_with w) (with_term u z hu i.1.0) (with_term u w hu m.1) i.1.1) on,
          ),
        ))))

    alike_back : (t u : Tuple) → IsTuple system.signature (length (columns_of f)) t → IsTuple system.signature (length (columns_of f)) u → AlikeAt system f t u → AlikeAt system f u t
    alike_back t u ht hu h = (right.alike u t (at u hu) (at t ht)).0 (sym ((right.alike t u (at t ht) (at u hu)).1 h))

    lift_many : (t u : Tuple) → IsTuple system.signature (length (columns_of (core.Exists n f))) t → IsTuple system.signature (length (columns_of (core.Exists n f))) u
        → AgreeAtMany system.signature (place_in (columns_of f) n) (AlikeAt system f) t u → AgreeAtMany system.signature (place_in (columns_of f) n) (InterchangeableAt system f) t u
    lift_many t u ht hu h =
        let c = place_in (columns_of f) n in
        record {
          some = lift_some t u ht hu h.some;
          many = λ x y gx gy e. (
            one_way t u ht hu h.some.forth (λ v w gv gw a. (h.many v w gv gw a).0) x y gx gy e,
            one_way u t hu ht h.some.back
                (λ v w gv gw a. (h.many w v gw gv (alike_back (insert u c (Some v)) (insert t c (Some w)) (with_term u v hu gv) (with_term t w ht gw) a)).1) y x gy gx
                (Interchangeable-sym system.signature (length (columns_of f)) (IsSatisfiedBy system f) (insert t c (Some x)) (insert u c (Some y)) e),
          );
        }

  -- Result: tuples that are alike are alike with reduced operands
  pub reduced_from_alike : (f : Core) → BindsFree f → OperandsAnswered system f → (t u : Tuple) → IsTuple system.signature (length (columns_of f)) t → IsTuple system.signature (length (columns_of f)) u
      → AlikeAt system f t u → AlikeReduced system f t u
  reduced_from_alike True binds a t u ht hu h = h
  reduced_from_alike (Leaf atom) binds a t u ht hu h = h
  reduced_from_alike (Not f) binds a t u ht hu h = lift f a t u ht hu h
  reduced_from_alike (Binary op f g) binds a t u ht hu h = lift_both f g (columns_of (core.Binary op f g)) a.0 a.1 t u ht hu h
  reduced_from_alike (Exists n f) binds a t u ht hu h =
      let w = body_of system n f binds.0 a in lift_some n f w.0 w.1 binds.0 t u ht hu h
  reduced_from_alike (Infinite n f) binds a t u ht hu h =
      let w = body_of system n f binds.0 a in lift_many n f w.0 w.1 binds.0 t u ht hu h

  -- Result: a part over a cap with reduced operands is over it without
  pub over_from_reduced : (f : Core) (cap : ℕ) → BindsFree f → OperandsAnswered system f → IsOverBy system (AlikeReduced system) f cap → IsPartOver system f cap
  over_from_reduced f cap binds a over =
      let ts = over.over.0 in
      let are = over.over.1 in
      record {
        some = over.some;
        over = (
          ts,
          record {
            many = are.many;
            tuples = are.tuples;
            unlike = λ i j l m h. are.unlike i j l m (reduced_from_alike f binds a (get_or ts i []) (get_or ts j []) (are.tuples i l) (are.tuples j m) h);
          },
        );
      }
