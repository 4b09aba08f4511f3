-- An entry over its children's first states.
use Rattle.std.proofs.Common.{◌≡◌, ℕ, ◌<◌, ◌≤◌, List, [], ◌∷◌, map, cond, take, length, get_or, Bool, true, false, refl, ap, sym, ◌∙◌, arith}
use Rattle.std.proofs.lemmas.List.{length-map, get_or-map, get_or-take, length-take, ext_get_or}
use Rattle.fort_tables.specs.Tuples.{TupleSymbol}
use Rattle.fort_tables.specs.Entries.{Entry, entry}
use Rattle.fort_tables.specs.Tables.{Table, IsTableEntry}
use Rattle.fort_tables.specs.Merges.{class_of, leader, led}
use Rattle.fort_tables.specs.MergeOutcomes.{AreClassesTo}
use Rattle.fort_tables.proofs.NumberedClasses.{leader_within}
use Rattle.fort_check_merges.specs.KeptTargets.{is_led, kept_target}
use Rattle.fort_check_merges.proofs.KeptEntries.{led_kids, led_from_kids}

-- states put in front of a buffer
pub put_in_front : (buffer ks : List ℕ) (F : ℕ → ℕ) → length ks ≤ length buffer → ((j : ℕ) → j < length ks → get_or buffer j 0 ≡ F (get_or ks j 0)) → take (length ks) buffer ≡ map F ks
put_in_front buffer ks F room are =
    let len : length (take (length ks) buffer) ≡ length ks = omega (arith, length-take (length ks) buffer) in
    ext_get_or 0 (take (length ks) buffer) (map F ks) (len ∙ sym (length-map ks F))
    (λ j l. let b : j < length ks = omega (arith, len) in get_or-take (length ks) buffer j 0 b ∙ (are j b ∙ sym (get_or-map F ks j 0 0 b)))

-- the children's first states, in front of the buffer
abbrev pub IsFront : List ℕ → Entry → List ℕ → Type 0
IsFront classes e front = front ≡ map (leader classes) e.kids

pub front_of : (classes : List ℕ) (e : Entry) (ks states : List ℕ) → ks ≡ e.kids → length ks ≤ length states
    → ((j : ℕ) → j < length ks → get_or states j 0 ≡ leader classes (get_or ks j 0)) → IsFront classes e (take (length ks) states)
front_of classes e ks states same room are = put_in_front states ks (leader classes) room are ∙ ap (map (leader classes)) same

pub same_led : (classes : List ℕ) (e : Entry) (ks states : List ℕ) → ks ≡ e.kids → IsFront classes e (take (length ks) states) → take (length ks) states ≡ ks → map (leader classes) e.kids ≡ e.kids
same_led classes e ks states same front own = sym front ∙ (own ∙ same)

pub led_entry : (classes : List ℕ) (e : Entry) (f : TupleSymbol) (front : List ℕ) → f ≡ e.symbol → IsFront classes e front → entry f front ≡ led classes e
led_entry classes e f front a b = λ i. entry (a i) (b i)

-- Result: it is an entry of the table
pub led_is_entry : (table : Table) (classes : List ℕ) (e : Entry) → AreClassesTo table classes (length classes) → IsTableEntry table e → IsTableEntry table (led classes e)
led_is_entry table classes e right h =
    let count : length (led classes e).kids ≡ length e.kids = length-map e.kids (leader classes) in
    let at : (j : ℕ) → j < length e.kids → get_or (led classes e).kids j 0 ≡ leader classes (get_or e.kids j 0) = λ j l. get_or-map (leader classes) e.kids j 0 0 l in
    let low : (j : ℕ) → j < length e.kids → get_or e.kids j 0 < length classes = λ j l. omega (arith, right.count, h.within j l) in
    record {
      symbol = h.symbol;
      count = count ∙ h.count;
      within = λ j l. let b : j < length e.kids = omega (arith, count) in omega (arith, at j b, right.count, leader_within classes (get_or e.kids j 0) (low j b));
      presence = λ j l. let b : j < length e.kids = omega (arith, count) in
          ap (λ q. get_or table.presences q 0) (at j b) ∙ (sym (right.right (get_or e.kids j 0) (low j b)).columns ∙ h.presence j b);
    }

-- the target over classes, where the entry is the one over first states, and where it isn't
pub kept_led : (table : Table) (classes : List ℕ) (e : Entry) → map (leader classes) e.kids ≡ e.kids → kept_target table classes e ≡ class_of classes (table.target e) ∷ []
kept_led table classes e same = ap (λ (b : Bool). cond b (class_of classes (table.target e) ∷ []) []) (led_from_kids classes e same)

not_led : (classes : List ℕ) (e : Entry) → (map (leader classes) e.kids ≡ e.kids → ⊥) → (b : Bool) → is_led classes e ≡ b → b ≡ false
not_led classes e n true h = absurd (n (led_kids classes e h))
not_led classes e n false h = refl

pub kept_unled : (table : Table) (classes : List ℕ) (e : Entry) → (map (leader classes) e.kids ≡ e.kids → ⊥) → kept_target table classes e ≡ []
kept_unled table classes e n = ap (λ (b : Bool). cond b (class_of classes (table.target e) ∷ []) []) (not_led classes e n (is_led classes e) refl)

pub kept_short : (table : Table) (classes : List ℕ) (e : Entry) → length (kept_target table classes e) ≤ 1
kept_short table classes e = by (is_led classes e)
  where
    by : (b : Bool) → length (cond b (class_of classes (table.target e) ∷ []) []) ≤ 1
    by true = omega arith
    by false = omega arith
