-- The first choice and the next one, by their first node and the rest.
use Rattle.std.proofs.Common.{◌≡◌, ℕ, zero, suc, ◌<◌, ◌≤◌, ◌⊎◌, List, [], ◌∷◌, length, get_or, true, false, refl, ap, sym, ◌∙◌, arith, subst, inl, inr, ⊎_elim, get_or-set_same, get_or-set_other}
use Rattle.std.specs.Prelude.{Bool, ◌&&◌, nat_lt, slice_set, Option, None, Some}
use Rattle.std.specs.Option.{is_some}
use Rattle.std.proofs.lemmas.Bool.{cases_lt}
use Rattle.std.proofs.lemmas.Bool.Decides.{nat_tests}
use Rattle.std.proofs.lemmas.List.{length-set}
use Rattle.fort_tables.specs.Entries.{LexBefore}
use Rattle.fort_witness.specs.Choices.{Knows, IsNodeOf, IsFirstAt, HasNewOf, HasNew, IsChoice, StartsFrom, IsFirstChoice, IsNextChoice}
use Rattle.fort_witness.proofs.NextLaws.{same_or_other}

-- what is still needed
record Needs (need : Bool) (node low : ℕ) (needs : Bool) : Type 0 where
  pub up : needs ≡ true → (need ≡ true) × (node < low)
  pub down : need ≡ true → node < low → needs ≡ true

needs_of : (need : Bool) (node low : ℕ) (needs : Bool) → needs ≡ (need && nat_lt node low) → Needs need node low needs
needs_of false node low needs e = record { up = λ t. let c : true ≡ false = sym t ∙ e in absurd cc; down = λ t. absurd cc }
needs_of true node low needs e = record {
  up = λ t. (refl, let c : nat_lt node low ≡ true = sym e ∙ t in grind (arith, nat_tests));
  down = λ t l. let c : nat_lt node low ≡ true = grind (arith, nat_tests) in e ∙ c;
}

-- a choice by its parts
record Parts (qs : List ℕ) (low end q : ℕ) (rest : List ℕ) (need : Bool) (ls : List ℕ) : Type 0 where
  pub first : ℕ
  pub others : List ℕ
  pub is : ls ≡ first ∷ others
  pub node : IsNodeOf qs q 0 end first
  pub rest_are : (needs : Bool) → Needs need first low needs → IsChoice qs low end rest needs others
  pub loose : IsChoice qs low end rest false others
  pub fresh : need ≡ true → first < low → HasNewOf qs low end rest

new_of : (qs : List ℕ) (low end : ℕ) (rest ls : List ℕ) → length ls ≡ length rest
    → ((j : ℕ) → j < length ls → IsNodeOf qs (get_or rest j 0) 0 end (get_or ls j 0)) → HasNew low ls
    → HasNewOf qs low end rest
new_of qs low end rest ls c n h =
    let a = n h.0 h.1 in
    record { place = h.0; within = omega (arith, h.1); node = get_or ls h.0 0; is = record { within = a.within; state = a.state; from = h.2; below = a.below } }

new_behind : (low l : ℕ) (ls : List ℕ) → HasNew low (l ∷ ls) → l < low → HasNew low ls
new_behind low l ls h b =
    let step : (j : ℕ) → j < length (l ∷ ls) → low ≤ get_or (l ∷ ls) j 0 → HasNew low ls = λ j. elim j as (λ j. j < length (l ∷ ls) → low ≤ get_or (l ∷ ls) j 0 → HasNew low ls) [ zero ↦ (λ m g. absurd (omega arith)) | suc i ↦ (λ m g. (i, omega arith, g)) ] in
    step h.0 h.1 h.2

parts : (qs : List ℕ) (low end q : ℕ) (rest : List ℕ) (need : Bool) (ls : List ℕ)
    → IsChoice qs low end (q ∷ rest) need ls → Parts qs low end q rest need ls
parts qs low end q rest need [] h = absurd (omega (arith, h.count))
parts qs low end q rest need (l ∷ ls) h =
    let count : length ls ≡ length rest = omega (arith, h.count) in
    let nodes : (j : ℕ) → j < length ls → IsNodeOf qs (get_or rest j 0) 0 end (get_or ls j 0) = λ j m. h.nodes (suc j) (omega arith) in
    record {
      first = l;
      others = ls;
      is = refl;
      node = h.nodes 0 (omega arith);
      rest_are = λ needs e. record { count = count; nodes = nodes; fresh = λ t. let u = e.up t in new_behind low l ls (h.fresh u.0) u.1 };
      loose = record { count = count; nodes = nodes; fresh = λ t. absurd cc };
      fresh = λ t b. new_of qs low end rest ls count nodes (new_behind low l ls (h.fresh t) b);
    }

-- and from its parts
joined : (qs : List ℕ) (low end q k : ℕ) (rest : List ℕ) (need needs : Bool) (ks : List ℕ) → IsNodeOf qs q 0 end k
    → Needs need k low needs → IsChoice qs low end rest needs ks → IsChoice qs low end (q ∷ rest) need (k ∷ ks)
joined qs low end q k rest need needs ks n e h = record {
  count = omega (arith, h.count);
  nodes = λ j. elim j as (λ j. j < length (k ∷ ks) → IsNodeOf qs (get_or (q ∷ rest) j 0) 0 end (get_or (k ∷ ks) j 0)) [ zero ↦ (λ l. n) | suc i ↦ (λ l. h.nodes i (omega arith)) ];
  fresh = λ t. ⊎_elim
      (λ b. let r = h.fresh (e.down t b) in (suc r.0, omega (arith, r.1), r.2))
      (λ b. (0, omega arith, b))
      (cases_lt k low);
}

-- a choice with a new node in place of another
renewed : (qs : List ℕ) (low end : ℕ) (states : List ℕ) (need : Bool) (ls : List ℕ)
    → IsChoice qs low end states false ls → (h : HasNewOf qs low end states)
    → IsChoice qs low end states need (slice_set ls h.place h.node)
renewed qs low end states need ls c h =
    let i = h.place in
    let k = h.node in
    let w : i < length ls = omega (arith, h.within, c.count) in
    let at = get_or-set_same ls i k 0 w in
    let own : IsNodeOf qs (get_or states i 0) 0 end k = record { within = h.is.within; state = h.is.state; from = omega arith; below = h.is.below } in
    record {
      count = length-set ls i k ∙ c.count;
      nodes = λ j l. ⊎_elim
          (λ e. subst (λ n. IsNodeOf qs (get_or states j 0) 0 end n) (sym (ap (λ n. get_or (slice_set ls i k) n 0) e ∙ at)) (subst (λ n. IsNodeOf qs (get_or states n 0) 0 end k) (sym e) own))
          (λ ne. subst (λ n. IsNodeOf qs (get_or states j 0) 0 end n) (sym (get_or-set_other ls i j k 0 ne)) (c.nodes j (omega (arith, length-set ls i k))))
          (same_or_other j i);
      fresh = λ t. (i, omega (arith, length-set ls i k), omega (arith, at, h.is.from));
    }

-- where the first node may start
pub record IsStart (qs : List ℕ) (low end : ℕ) (rest : List ℕ) (need : Bool) (from start : ℕ) : Type 0 where
  pub from_is : from ≤ start
  pub free : need ≡ true → start < low → HasNewOf qs low end rest
  pub skips : (k : ℕ) → from ≤ k → k < start → (need ≡ true) × (k < low) × (HasNewOf qs low end rest → ⊥)

-- a choice's first node isn't before the start
from_start : (qs : List ℕ) (low end q : ℕ) (rest : List ℕ) (need : Bool) (from start : ℕ) (ls : List ℕ) (p : Parts qs low end q rest need ls)
    → IsStart qs low end rest need from start → StartsFrom from ls → IsNodeOf qs q start end p.first
from_start qs low end q rest need from start ls p s f =
    let g : from ≤ p.first = subst (StartsFrom from) p.is f in
    record {
      within = p.node.within;
      state = p.node.state;
      from = ⊎_elim (λ l. let k = s.skips p.first g l in absurd (k.2 (p.fresh k.0 k.1))) (λ l. l) (cases_lt p.first start);
      below = p.node.below;
    }

-- no states
pub first_none : (qs : List ℕ) (low end from : ℕ) (need done : Bool) (ks : List ℕ) → length ks ≡ 0
    → (done ≡ true → need ≡ false) → (done ≡ false → need ≡ true) → IsFirstChoice qs low end [] need from ks done
first_none qs low end from need true [] l t f = (record { count = refl; nodes = λ j m. absurd (omega arith); fresh = λ e. let c : true ≡ false = sym e ∙ t refl in absurd cc }, tt, λ ls h g. inl (empty ls h.count))
  where
    empty : (ls : List ℕ) → length ls ≡ 0 → [] ≡ ls
    empty [] e = refl
    empty (x ∷ ls) e = absurd (omega arith)
first_none qs low end from need false [] l t f = λ ls h g. let r = h.fresh (f refl) in absurd (omega (arith, r.1, h.count))
first_none qs low end from need done (k ∷ ks) l t f = absurd (omega arith)

-- no node to start with
pub first_without : (qs : List ℕ) (low end q : ℕ) (rest : List ℕ) (need : Bool) (from start : ℕ) (ks : List ℕ)
    → IsStart qs low end rest need from start → ((k : ℕ) → IsNodeOf qs q start end k → ⊥)
    → IsFirstChoice qs low end (q ∷ rest) need from ks false
first_without qs low end q rest need from start ks s none = λ ls h f.
    let p = parts qs low end q rest need ls h in
    none p.first (from_start qs low end q rest need from start ls p s f)

-- the first node, and the first rest
pub first_with : (qs : List ℕ) (low end q : ℕ) (rest : List ℕ) (need needs : Bool) (from start node : ℕ) (ks : List ℕ) (done : Bool)
    → IsStart qs low end rest need from start → IsNodeOf qs q start end node
    → ((k : ℕ) → IsNodeOf qs q start end k → node ≤ k) → needs ≡ (need && nat_lt node low)
    → IsFirstChoice qs low end rest needs 0 ks done → IsFirstChoice qs low end (q ∷ rest) need from (node ∷ ks) done
first_with qs low end q rest need needs from start node ks true s n first e h =
    let d = needs_of need node low needs e in
    let own : IsNodeOf qs q 0 end node = record { within = n.within; state = n.state; from = omega arith; below = n.below } in (
      joined qs low end q node rest need needs ks own d h.0,
      omega (arith, s.from_is, n.from),
      λ ls c f.
          let p = parts qs low end q rest need ls c in
          let low_end = first p.first (from_start qs low end q rest need from start ls p s f) in
          let E : List ℕ → Type 0 = λ zs. ((node ∷ ks) ≡ zs) ⊎ LexBefore ◌<◌ (node ∷ ks) zs in
          subst E (sym p.is)
          (⊎_elim
          (λ l. inr (inl l))
          (λ l.
          let same : node ≡ p.first = omega arith in
          let others = p.rest_are needs (subst (λ x. Needs need x low needs) same d) in
          ⊎_elim
          (λ o. inl (ap (λ x. x ∷ ks) same ∙ ap (λ (zs : List ℕ). p.first ∷ zs) o))
          (λ o. inr (inr (same, o)))
          (h.2 p.others others (anywhere p.others)))
          (cases_lt node p.first)),
    )
  where
    anywhere : (ls : List ℕ) → StartsFrom 0 ls
    anywhere [] = tt
    anywhere (l ∷ ls) = omega arith
first_with qs low end q rest need needs from start node ks false s n first e h = λ ls c f.
    let d = needs_of need node low needs e in
    let p = parts qs low end q rest need ls c in
    none ls needs refl d p
  where
    anywhere : (ls : List ℕ) → StartsFrom 0 ls
    anywhere [] = tt
    anywhere (l ∷ ls) = omega arith

    none : (ls : List ℕ) (b : Bool) → b ≡ needs → Needs need node low needs → Parts qs low end q rest need ls → ⊥
    none ls false w d p = h p.others (subst (λ (x : Bool). IsChoice qs low end rest x p.others) w p.loose) (anywhere p.others)
    none ls true w d p =
        let u = d.up (sym w) in
        let new = s.free u.0 (omega (arith, n.from, u.1)) in
        h (slice_set p.others new.place new.node) (renewed qs low end rest needs p.others p.loose new) (anywhere (slice_set p.others new.place new.node))

-- no states come after none
pub next_none : (qs : List ℕ) (low end : ℕ) (states : List ℕ) (need : Bool) (old ks : List ℕ) → length old ≡ 0
    → IsNextChoice qs low end states need old ks false
next_none qs low end states need [] ks l = λ ls h b. absurd b
next_none qs low end states need (k ∷ old) ks l = absurd (omega arith)

-- the rest of a choice is one
pub rest_choice : (qs : List ℕ) (low end q : ℕ) (rest : List ℕ) (need needs : Bool) (node : ℕ) (ks : List ℕ)
    → IsChoice qs low end (q ∷ rest) need (node ∷ ks) → needs ≡ (need && nat_lt node low)
    → IsChoice qs low end rest needs ks
rest_choice qs low end q rest need needs node ks h e = record {
  count = omega (arith, h.count);
  nodes = λ j m. h.nodes (suc j) (omega arith);
  fresh = λ t. let u = (needs_of need node low needs e).up t in new_behind low node ks (h.fresh u.0) u.1;
}

-- the next rest
pub next_rest : (qs : List ℕ) (low end q : ℕ) (rest : List ℕ) (need needs : Bool) (node : ℕ) (old ks : List ℕ)
    → IsChoice qs low end (q ∷ rest) need (node ∷ old) → needs ≡ (need && nat_lt node low)
    → IsNextChoice qs low end rest needs old ks true
    → IsNextChoice qs low end (q ∷ rest) need (node ∷ old) (node ∷ ks) true
next_rest qs low end q rest need needs node old ks c e h =
    let d = needs_of need node low needs e in (
      joined qs low end q node rest need needs ks (c.nodes 0 (omega arith)) d h.0,
      inr (refl, h.1),
      λ ls g b.
          let p = parts qs low end q rest need ls g in
          let E : List ℕ → Type 0 = λ zs. ((node ∷ ks) ≡ zs) ⊎ LexBefore ◌<◌ (node ∷ ks) zs in
          subst E (sym p.is)
          (⊎_elim
          (λ l. inr (inl l))
          (λ same. ⊎_elim
          (λ o. inl (ap (λ x. x ∷ ks) same.0 ∙ ap (λ (zs : List ℕ). p.first ∷ zs) o))
          (λ o. inr (inr (same.0, o)))
          (h.2 p.others (p.rest_are needs (subst (λ x. Needs need x low needs) same.0 d)) same.1))
          (subst (λ (zs : List ℕ). LexBefore ◌<◌ (node ∷ old) zs) p.is b)),
    )

-- the next first node, where there is no next rest
pub next_first : (qs : List ℕ) (low end q : ℕ) (rest : List ℕ) (need needs : Bool) (node : ℕ) (old gone ks : List ℕ) (done : Bool)
    → needs ≡ (need && nat_lt node low) → IsNextChoice qs low end rest needs old gone false
    → IsFirstChoice qs low end (q ∷ rest) need (suc node) ks done
    → IsNextChoice qs low end (q ∷ rest) need (node ∷ old) ks done
next_first qs low end q rest need needs node old gone ks true e none h =
    let d = needs_of need node low needs e in
    let after : (zs : List ℕ) → StartsFrom (suc node) zs → length zs ≡ suc (length rest) → LexBefore ◌<◌ (node ∷ old) zs = λ zs. elim zs as (λ zs. StartsFrom (suc node) zs → length zs ≡ suc (length rest) → LexBefore ◌<◌ (node ∷ old) zs) [ [] ↦ (λ f l. absurd (omega arith)) | x ∷ xs ↦ (λ f l. inl (omega arith)) ] in (
      h.0,
      after ks h.1 h.0.count,
      λ ls g b.
          let p = parts qs low end q rest need ls g in
          let l : node < p.first = ⊎_elim (λ m. m) (λ m. absurd (none p.others (p.rest_are needs (subst (λ x. Needs need x low needs) m.0 d)) m.1)) (subst (λ (zs : List ℕ). LexBefore ◌<◌ (node ∷ old) zs) p.is b) in
          h.2 ls g (subst (StartsFrom (suc node)) (sym p.is) (omega arith)),
    )
next_first qs low end q rest need needs node old gone ks false e none h = λ ls g b.
    let d = needs_of need node low needs e in
    let p = parts qs low end q rest need ls g in
    let l : node < p.first = ⊎_elim (λ m. m) (λ m. absurd (none p.others (p.rest_are needs (subst (λ x. Needs need x low needs) m.0 d)) m.1)) (subst (λ (zs : List ℕ). LexBefore ◌<◌ (node ∷ old) zs) p.is b) in
    h ls g (subst (StartsFrom (suc node)) (sym p.is) (omega arith))

-- what the first of a state's nodes says
pub new_found : (qs : List ℕ) (low end : ℕ) (states : List ℕ) (j : ℕ) (found : Option ℕ) → j < length states
    → IsFirstAt qs (get_or states j 0) low end found → is_some found ≡ true → HasNewOf qs low end states
new_found qs low end states j None l h e = absurd cc
new_found qs low end states j (Some k) l h e = record { place = j; within = l; node = k; is = h.0 }

pub none_found : (qs : List ℕ) (q low end : ℕ) (found : Option ℕ) → IsFirstAt qs q low end found → is_some found ≡ false
    → (k : ℕ) → IsNodeOf qs q low end k → ⊥
none_found qs q low end None h e k n = h k n
none_found qs q low end (Some m) h e k n = absurd cc

pub knows_rest : (lists : List (List ℕ)) (states : List ℕ) (q : ℕ) (rest : List ℕ) → states ≡ q ∷ rest
    → Knows lists states → Knows lists rest
knows_rest lists states q rest e h = λ j l. let f : Knows lists (q ∷ rest) = subst (Knows lists) e h in f (suc j) (omega arith)

pub small_rest : (n : ℕ) (kids : List ℕ) (k : ℕ) (others : List ℕ) → kids ≡ k ∷ others
    → ((j : ℕ) → j < length kids → get_or kids j 0 < n) → (j : ℕ) → j < length others → get_or others j 0 < n
small_rest n kids k others e h = λ j l. let f : (j : ℕ) → j < length (k ∷ others) → get_or (k ∷ others) j 0 < n = subst (λ (xs : List ℕ). (j : ℕ) → j < length xs → get_or xs j 0 < n) e h in f (suc j) (omega arith)

-- the same, where the lists are known by their first elements
pub without_at : (qs : List ℕ) (low end q : ℕ) (states rest : List ℕ) (need : Bool) (from start : ℕ) (ks : List ℕ)
    → states ≡ q ∷ rest → IsStart qs low end rest need from start → ((k : ℕ) → IsNodeOf qs q start end k → ⊥)
    → IsFirstChoice qs low end states need from ks false
without_at qs low end q states rest need from start ks e s none = subst (λ (xs : List ℕ). IsFirstChoice qs low end xs need from ks false) (sym e) (first_without qs low end q rest need from start ks s none)

pub with_at : (qs : List ℕ) (low end q : ℕ) (states rest : List ℕ) (need needs : Bool) (from start node : ℕ) (ks : List ℕ) (done : Bool)
    → states ≡ q ∷ rest → IsStart qs low end rest need from start → IsFirstAt qs q start end (Some node)
    → needs ≡ (need && nat_lt node low) → IsFirstChoice qs low end rest needs 0 ks done
    → IsFirstChoice qs low end states need from (node ∷ ks) done
with_at qs low end q states rest need needs from start node ks done e s n t h = subst (λ (xs : List ℕ). IsFirstChoice qs low end xs need from (node ∷ ks) done) (sym e) (first_with qs low end q rest need needs from start node ks done s n.0 n.1 t h)

choice_at : (qs : List ℕ) (low end q : ℕ) (states rest : List ℕ) (need : Bool) (node : ℕ) (kids old : List ℕ)
    → states ≡ q ∷ rest → kids ≡ node ∷ old → IsChoice qs low end states need kids
    → IsChoice qs low end (q ∷ rest) need (node ∷ old)
choice_at qs low end q states rest need node kids old e f c = subst (λ (xs : List ℕ). IsChoice qs low end xs need (node ∷ old)) e (subst (λ (ks : List ℕ). IsChoice qs low end states need ks) f c)

next_at : (qs : List ℕ) (low end q : ℕ) (states rest : List ℕ) (need : Bool) (node : ℕ) (kids old ks : List ℕ) (done : Bool)
    → states ≡ q ∷ rest → kids ≡ node ∷ old → IsNextChoice qs low end (q ∷ rest) need (node ∷ old) ks done
    → IsNextChoice qs low end states need kids ks done
next_at qs low end q states rest need node kids old ks done e f c = subst (λ (xs : List ℕ). IsNextChoice qs low end xs need kids ks done) (sym e) (subst (λ (ls : List ℕ). IsNextChoice qs low end (q ∷ rest) need ls ks done) (sym f) c)

pub next_rest_at : (qs : List ℕ) (low end q : ℕ) (states rest : List ℕ) (need needs : Bool) (node : ℕ) (kids old ks : List ℕ)
    → states ≡ q ∷ rest → kids ≡ node ∷ old → IsChoice qs low end states need kids → needs ≡ (need && nat_lt node low)
    → (IsChoice qs low end rest needs old → IsNextChoice qs low end rest needs old ks true)
    → IsNextChoice qs low end states need kids (node ∷ ks) true
next_rest_at qs low end q states rest need needs node kids old ks e f c t h =
    let d = choice_at qs low end q states rest need node kids old e f c in
    next_at qs low end q states rest need node kids old (node ∷ ks) true e f (next_rest qs low end q rest need needs node old ks d t (h (rest_choice qs low end q rest need needs node old d t)))

pub next_first_at : (qs : List ℕ) (low end q : ℕ) (states rest : List ℕ) (need needs : Bool) (node : ℕ) (kids old gone ks : List ℕ) (done : Bool)
    → states ≡ q ∷ rest → kids ≡ node ∷ old → IsChoice qs low end states need kids → needs ≡ (need && nat_lt node low)
    → (IsChoice qs low end rest needs old → IsNextChoice qs low end rest needs old gone false)
    → IsFirstChoice qs low end states need (suc node) ks done → IsNextChoice qs low end states need kids ks done
next_first_at qs low end q states rest need needs node kids old gone ks done e f c t h g =
    let d = choice_at qs low end q states rest need node kids old e f c in
    next_at qs low end q states rest need node kids old ks done e f
    (next_first qs low end q rest need needs node old gone ks done t (h (rest_choice qs low end q rest need needs node old d t)) (subst (λ (xs : List ℕ). IsFirstChoice qs low end xs need (suc node) ks done) e g))
