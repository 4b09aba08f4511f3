use Rattle.std.proofs.Common.{◌≡◌, ℕ, ◌<◌, ◌≤◌, ◌==◌, List, [], ◌∷◌, ◌++◌, length, if◌then◌else◌, ap, sym, ◌∙◌, arith}
use Rattle.std.proofs.lemmas.List.{length_push}
use Rattle.fort_tables.proofs.EqualTests.{if_equal, if_apart}
use Rattle.fort_tables.proofs.SeparationLaws.{by_equal}
use Rattle.fort_tests_tables.proofs.small_tables.table_from.Goals as goal

-- the presences where an entry of this presence has this target
abbrev after : ℕ → ℕ → List ℕ → List ℕ
after t p ps = if t == length ps then ps ++ p ∷ [] else ps

after_few : (t p most : ℕ) (ps : List ℕ) → length ps ≤ most → (t ≡ length ps → length ps < most) → length (after t p ps) ≤ most
after_few t p most ps few new =
    by_equal (length (after t p ps) ≤ most) t (length ps)
    (λ e. omega (arith, ap (λ (qs : List ℕ). length qs) (if_equal t (length ps) (ps ++ p ∷ []) ps e), length_push ps p, new e))
    (λ n. omega (arith, ap (λ (qs : List ℕ). length qs) (if_apart t (length ps) (ps ++ p ∷ []) ps n)))

pub entries-preserved : goal.entries-preserved
entries-preserved c =
    let v = c.entries.invariant in
    let ps = c.entries.presences.items in
    let t = c.in-Some-target_from.target in
    let given = c.in_ok-give-in-Some-target_from.ensures.given c.in-Some.row c.in-Some.ensures.some in
    let made = c.in_ok-give_presence-in-Some-target_from.ensures in
    let same = ap (λ (qs : List ℕ). length qs) c.as_slice.ensures.value in
    record {
      columns = given.columns_are ∙ v.columns;
      presences = given.presences ∙ (ap (after t _) v.presences ∙ (ap (λ p. after t p ps) (sym c.presence-presence.ensures) ∙ sym made));
      few = omega (arith, ap (λ (qs : List ℕ). length qs) made, after_few t c.presence-presence.result c.args.most ps v.few (λ e. omega (arith, same, c.in-Some-target_from.ensures.new (e ∙ sym same))));
    }
