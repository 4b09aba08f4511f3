-- Laying a table's targets: before the first tuple symbol, where entries are counted and where targets are laid; where stages begin.
use Rattle.std.proofs.Common.{◌≡◌, ℕ, suc, ◌+◌, ◌^◌, ◌<◌, ◌≤◌, List, [], ◌∷◌, ◌++◌, take, set, length, get_or, get_or-set_same, get_or-set_other, false, vec_len, refl, ap, sym, ◌∙◌, arith, ⊎_elim, subst, length-append, true≢false}
use Rattle.std.proofs.Math.Seq.{take-append_seam}
use Rattle.std.proofs.lemmas.Bool.{cases_eq, cases_lt}
use Rattle.fort_tables.specs.Entries.{Entry, stage}
use Rattle.fort_tables.specs.Tables.{Listed, IsListed}
use Rattle.fort_tables.specs.Laid.{in_stage, joined_below, start_of}
use Rattle.fort_tables.proofs.AllEntries.{entries_unique}
use Rattle.fort_tables.proofs.Counts.{length-all_entries}
use Rattle.fort_tables.proofs.JoinedLists.{joined_long}
use Rattle.fort_target_lists.specs.Chains.{AreChains}
use Rattle.fort_target_lists.specs.Walks.{entries_of, IsCovered, IsWalkOf, IsTakenUp, IsBetween, AreStageCounts}
use Rattle.fort_target_lists.specs.declared.chains.Chains.{Chains}
use Rattle.fort_target_lists.specs.declared.states.LayRoom.{LayRoom}
use Rattle.fort_target_lists.specs.declared.walk.LayingWalk.{LayingWalk}
use Rattle.fort_target_lists.proofs.WalkLaws.{stage_keeps, stage_skips}
use Rattle.fort_target_lists.proofs.SymbolPlaces.{entries_all}

-- a listed table
pub covered_listed : (t : Listed) → IsListed t → length t.targets < 2 ^ 64 → IsCovered t
covered_listed t h few = record { narrow = h.table.narrow; order = h.order; all = h.all; count = h.count; few = few }

-- a walk by the chains of the room goes over the table that is taken up
pub walk_taken : (t : Listed) (walk : LayingWalk) (room : LayRoom) → IsTakenUp t walk.signature.now walk.columns walk.base walk.targets.now room → walk.chains.now ≡ room.chains → IsWalkOf t walk
walk_taken t walk room h e = record {
  listed = h.listed;
  signature = h.signature;
  columns_are = h.columns_are;
  base = h.base_is;
  chains = subst (λ (x : Chains). AreChains t.columns t.presences x.firsts.items x.nexts.items) (sym e) h.chains_are;
  targets = h.targets_are;
}

-- so many zeros as there are stages
pub record AreZeros (t : Listed) (zeros : List ℕ) : Type 0 where
  pub size : length zeros ≡ suc (length t.presences)
  pub none : (s : ℕ) → s < suc (length t.presences) → get_or zeros s 0 ≡ 0

zeros_are : (t : Listed) (count : ℕ) (numbers zeros : List ℕ) → count ≡ suc (length t.presences) → zeros ≡ numbers → length numbers ≡ count
    → ((s : ℕ) → s < count → get_or numbers s 0 ≡ 0) → AreZeros t zeros
zeros_are t count numbers zeros e is size none = record {
  size = ap length is ∙ (size ∙ e);
  none = λ s l. ap (λ ns. get_or ns s 0) is ∙ none s (omega (arith, l, e));
}

-- a stage's entries are some of all
in_stage_few : (s : ℕ) (es : List Entry) → length (in_stage s es) ≤ length es
in_stage_few s [] = omega arith
in_stage_few s (e ∷ es) =
    ⊎_elim
    (λ h. omega (arith, in_stage_few s es, ap length (stage_keeps s e es h)))
    (λ h. omega (arith, in_stage_few s es, ap length (stage_skips s e es h)))
    (cases_eq (stage e.kids) s)

pub all_targets : (t : Listed) → IsCovered t → start_of (entries_of t) (suc (length t.presences)) ≡ length t.targets
all_targets t h = ap length (sym (entries_unique t.signature t.columns t.presences t.entries h.order h.all)) ∙ sym h.count

-- entries are counted from 0 on
counted_first : (t : Listed) (walk : LayingWalk) (zeros starts laid : List ℕ) → IsWalkOf t walk → walk.lays ≡ false → AreZeros t zeros
    → IsBetween t zeros walk 0 zeros starts laid
counted_first t walk zeros starts laid h counts z = record {
  goes = h;
  begin = record {
    room = λ s l. omega (arith, z.none s (omega arith), in_stage_few s (entries_of t), all_targets t h.listed, length-all_entries t.signature t.columns t.presences);
    own = λ b. absurd (true≢false (sym b ∙ counts));
  };
  passed = record {
    size = z.size;
    cursor = λ s l. let same : get_or zeros s 0 ≡ get_or zeros s 0 + 0 = omega arith in same;
    laid_are = λ b. absurd (true≢false (sym b ∙ counts));
  };
  laid_are = λ b. absurd (true≢false (sym b ∙ counts));
}

-- the zeros that the room's cursors are
pub counting_first : (t : Listed) (walk : LayingWalk) (room : LayRoom) (states : ℕ) (numbers zeros starts laid : List ℕ) → IsTakenUp t walk.signature.now walk.columns walk.base walk.targets.now room
    → walk.chains.now ≡ room.chains → walk.lays ≡ false → states ≡ vec_len room.chains.nexts → zeros ≡ numbers → length numbers ≡ states + 1
    → ((s : ℕ) → s < states + 1 → get_or numbers s 0 ≡ 0) → AreZeros t zeros × IsBetween t zeros walk 0 zeros starts laid
counting_first t walk room states numbers zeros starts laid h e counts all is size none =
    let count : states + 1 ≡ suc (length t.presences) = omega (arith, all, room.chains.nexts.ok.0, h.chains_are.states) in
    let z = zeros_are t (states + 1) numbers zeros count is size none in
    (z, counted_first t walk zeros starts laid (walk_taken t walk room h e) counts z)

-- all are counted
pub counted_all : (t : Listed) (walk : LayingWalk) (zeros cursors starts laid : List ℕ) (count : ℕ) → AreZeros t zeros → count ≡ walk.base ^ walk.columns
    → IsBetween t zeros walk count cursors starts laid → AreStageCounts (entries_of t) cursors
counted_all t walk zeros cursors starts laid count z all h = λ s l.
    let low : s ≤ length t.presences = omega (arith, l, h.passed.size) in
    let whole : count ≡ suc (length t.signature) ^ t.columns = all ∙ (ap (λ b. b ^ walk.columns) h.goes.base ∙ ap (λ c. suc (length t.signature) ^ c) h.goes.columns_are) in
    omega (arith, h.passed.cursor s low, z.none s (omega arith), ap (λ es. length (in_stage s es)) (entries_all t count whole))

-- targets are laid from where the stages begin
pub laid_first : (t : Listed) (walk : LayingWalk) (begins : List ℕ) → IsWalkOf t walk → length begins ≡ suc (length t.presences)
    → ((s : ℕ) → s < length begins → get_or begins s 0 ≡ start_of (entries_of t) s) → IsBetween t begins walk 0 begins [] []
laid_first t walk begins h size own =
    let es = entries_of t in
    record {
      goes = h;
      begin = record {
        room = λ s l. omega (arith, own s (omega (arith, size)), joined_long (suc (length t.presences)) (λ k. in_stage k es) s (omega arith), all_targets t h.listed);
        own = λ b s l. own s (omega (arith, size));
      };
      passed = record {
        size = size;
        cursor = λ s l. let z : get_or begins s 0 ≡ get_or begins s 0 + 0 = omega arith in z;
        laid_are = λ b. refl;
      };
      laid_are = λ b. record { count = refl; laid_at = λ f s l. absurd (omega (arith, l)) };
    }

pub laid_begun : (t : Listed) (walk : LayingWalk) (begins starts laid : List ℕ) → IsWalkOf t walk → length begins ≡ suc (length t.presences)
    → ((s : ℕ) → s < length begins → get_or begins s 0 ≡ start_of (entries_of t) s) → starts ≡ [] → laid ≡ [] → IsBetween t begins walk 0 begins starts laid
laid_begun t walk begins starts laid h size own a b =
    subst (λ xs. IsBetween t begins walk 0 begins xs laid) (sym a) (subst (λ xs. IsBetween t begins walk 0 begins [] xs) (sym b) (laid_first t walk begins h size own))

-- one more stage
pub start_more : (es : List Entry) (s : ℕ) → start_of es (s + 1) ≡ start_of es s + length (in_stage s es)
start_more es s =
    let e : s + 1 ≡ suc s = omega arith in
    ap (start_of es) e ∙ length-append (joined_below s (λ k. in_stage k es)) (in_stage s es)

pub start_within : (es : List Entry) (s n : ℕ) → s < n → start_of es s + length (in_stage s es) ≤ start_of es n
start_within es s n l = joined_long n (λ k. in_stage k es) s l

pub begun_more : (es : List Entry) (cursors : List ℕ) (s before : ℕ) → s < length cursors → before ≡ start_of es s → ((r : ℕ) → r < s → get_or cursors r 0 ≡ start_of es r)
    → (r : ℕ) → r < s + 1 → get_or (set cursors s before) r 0 ≡ start_of es r
begun_more es cursors s before l e h r o =
    ⊎_elim
    (λ (b : r < s). let ne : r ≡ s → ⊥ = λ z. omega arith in get_or-set_other cursors s r before 0 ne ∙ h r b)
    (λ (b : s ≤ r).
    let same : r ≡ s = omega arith in
    ap (λ z. get_or (set cursors s before) z 0) same ∙ (get_or-set_same cursors s before 0 l ∙ (e ∙ ap (start_of es) (sym same))))
    (cases_lt r s)

pub counts_left : (cursors old : List ℕ) (s before : ℕ) → ((r : ℕ) → s ≤ r → get_or cursors r 0 ≡ get_or old r 0) → (r : ℕ) → s + 1 ≤ r → get_or (set cursors s before) r 0 ≡ get_or old r 0
counts_left cursors old s before h r l = let ne : r ≡ s → ⊥ = λ z. omega arith in get_or-set_other cursors s r before 0 ne ∙ h r (omega arith)

-- a slice that was written as a whole
pub whole_slice : (n : ℕ) (xs ys : List ℕ) → n ≡ length xs → take n (xs ++ ys) ≡ xs
whole_slice n xs ys e = ap (λ k. take k (xs ++ ys)) e ∙ take-append_seam xs ys
