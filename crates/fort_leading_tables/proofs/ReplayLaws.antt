-- A table in the making that is given the targets of led entries: each such target is allowed, and in the end it is the whole table.
use Rattle.std.proofs.Common.{◌≡◌, ℕ, ◌<◌, ◌≤◌, List, [], ◌∷◌, ◌++◌, map, length, get_or, Bool, refl, ap, sym, ◌∙◌, arith, subst, ⊎_elim}
use Rattle.std.specs.Prelude.{Contains}
use Rattle.std.proofs.lemmas.Bool.{cases_lt}
use Rattle.std.proofs.lemmas.List.{length-map, get_or-map, get_or_default, ext_get_or, length_push, get_or_push, get_or_append_left}
use Rattle.fort_theory.specs.Signatures.{Signature}
use Rattle.fort_tables.specs.Tuples.{presence}
use Rattle.fort_tables.specs.Entries.{Entry, no_entry, IsEntry, ComesBefore}
use Rattle.fort_tables.specs.Tables.{Made, target_in, finished, IsMadeDue, IsComplete, IsAllowed, IsGiven, IsListed}
use Rattle.fort_tables.specs.Laid.{all_entries}
use Rattle.fort_tables.proofs.AllEntries.{entries_unique}
use Rattle.fort_tables.proofs.EqualTests.{if_equal, if_apart}
use Rattle.fort_tables.proofs.OrderLaws.{before_trans, entry_grows}
use Rattle.fort_classes.specs.Leaders.{Leaders, led}
use Rattle.fort_classes.specs.LedTables.{HasFirstEntry, IsLeadingMade, IsLeadingComplete, led_target, whole}
use Rattle.fort_classes.proofs.LeaderLaws.{led_itself, led_first}
use Rattle.fort_classes.proofs.WholeLaws.{place_before, led_found, first_target, first_is_entry, first_is_leading}
use Rattle.fort_classes.proofs.WalkLaws.{made_with, push_each}
use Rattle.fort_leading_tables.specs.Replays.{IsReplaying}

-- Result: at the start there is nothing
pub replay_none : (lead : Leaders) (m r : Made) → r.signature ≡ m.signature → r.columns ≡ m.columns → r.presences ≡ [] → r.entries ≡ [] → r.targets ≡ [] → IsReplaying lead m r
replay_none lead m r s c p e t =
    let none : length r.presences ≡ 0 = ap length p in
    let no_entries : length r.entries ≡ 0 = ap length e in
    let no_targets : length r.targets ≡ 0 = ap length t in
    record {
      signature = s;
      columns_are = c;
      few = omega (arith, none);
      presences = λ q l. absurd (omega (arith, none));
      count = omega (arith, no_entries, no_targets);
      are = λ k d l. absurd (omega (arith, no_entries));
      targets = λ k d l. absurd (omega (arith, no_entries));
      within = λ k l. absurd (omega (arith, no_targets));
    }

-- an entry is one over other states of the same presences that have its children
is_entry_at : (s s' : Signature) (c c' : ℕ) (ps qs : List ℕ) (e : Entry) → s ≡ s' → c ≡ c' → IsEntry s c ps e → ((j : ℕ) → j < length e.kids → get_or e.kids j 0 < length qs) → ((q : ℕ) → q < length ps → q < length qs → get_or qs q 0 ≡ get_or ps q 0) → IsEntry s' c' qs e
is_entry_at s s' c c' ps qs e same_s same_c h low same =
    let t : IsEntry s' c' ps e = subst (λ (x : Signature). IsEntry x c' ps e) same_s (subst (λ x. IsEntry s x ps e) same_c h) in
    record { symbol = t.symbol; count = t.count; within = low; presence = λ j l. same (get_or e.kids j 0) (t.within j l) (low j l) ∙ t.presence j l }

module _ (lead : Leaders) (m : Made) (is : IsLeadingMade lead m) (all : IsLeadingComplete lead m) where
  -- the target of an entry is a state of its presence
  target_low : (e : Entry) → IsEntry m.signature m.columns m.presences e → led_target lead m e < length m.presences
  target_low e h = let f = led_found lead m is all e h in omega (arith, f.target, is.within f.place (omega (arith, f.within, is.count)))

  target_fits : (e : Entry) → IsEntry m.signature m.columns m.presences e → get_or m.presences (led_target lead m e) 0 ≡ presence e.symbol
  target_fits e h =
      let f = led_found lead m is all e h in
      ap (λ q. get_or m.presences q 0) f.target ∙ (is.presence_is f.place (led lead e) (omega (arith, f.within, is.count)) ∙ ap (λ (x : Entry). presence x.symbol) f.is)

  -- the target of a state's first entry is that state
  target_of_first : (q : ℕ) (h : HasFirstEntry m.entries m.targets q) → led_target lead m h.first ≡ q
  target_of_first q h = ap (target_in m.entries m.targets) (led_itself lead h.first (first_is_leading lead m is all q h.first h.is)) ∙ first_target lead m is all q h.first h.is

  -- an entry before it has an earlier target
  target_before : (q : ℕ) (h : HasFirstEntry m.entries m.targets q) (e : Entry) → IsEntry m.signature m.columns m.presences e → ComesBefore e h.first → led_target lead m e < q
  target_before q h e k b =
      let f = led_found lead m is all e k in
      let before : ComesBefore (led lead e) h.first = ⊎_elim
      (λ s. subst (λ (x : Entry). ComesBefore x h.first) (sym s) b)
      (λ c. before_trans (led lead e) e h.first c b)
      (led_first m.signature m.columns m.presences lead is.leaders e k) in
      let here : get_or m.entries f.place h.first ≡ led lead e = get_or_default m.entries f.place h.first (led lead e) f.within ∙ f.is in
      let within : h.is.place < length m.entries = omega (arith, h.is.within, is.count) in
      let less : f.place < h.is.place = place_before m.signature m.columns m.presences m.entries f.place h.is.place h.first is.order f.within within
      (subst (λ (x : Entry). ComesBefore x (get_or m.entries h.is.place h.first)) (sym here) (subst (λ (x : Entry). ComesBefore (led lead e) x) (sym (h.is.is h.first)) before)) in
      omega (arith, f.target, h.is.before f.place less)

  module _ (r : Made) (re : IsReplaying lead m r) where
    -- an entry over the states so far is one over all states
    entry_of_all : (e : Entry) → IsEntry r.signature r.columns r.presences e → IsEntry m.signature m.columns m.presences e
    entry_of_all e h = is_entry_at r.signature m.signature r.columns m.columns r.presences m.presences e re.signature re.columns_are h (λ j l. omega (arith, h.within j l, re.few)) (λ q l k. sym (re.presences q l))

    -- the first entry of the state that would be next is one over the states so far
    entry_of_next : (h : HasFirstEntry m.entries m.targets (length r.presences)) → IsEntry r.signature r.columns r.presences h.first
    entry_of_next h = is_entry_at m.signature r.signature m.columns r.columns m.presences r.presences h.first (sym re.signature) (sym re.columns_are) (first_is_entry lead m is all (length r.presences) h.first h.is) h.earlier (λ q l k. re.presences q k)

    -- and has no target so far
    next_missing : (h : HasFirstEntry m.entries m.targets (length r.presences)) → Contains r.entries h.first → ⊥
    next_missing h (k, l, here) =
        omega (arith, re.within k (omega (arith, re.count)), re.targets k h.first l, ap (led_target lead m) here, target_of_first (length r.presences) h)

    next_entry : length r.presences < length m.presences → HasFirstEntry m.entries m.targets (length r.presences)
    next_entry l = is.firsts (length r.presences) l

    -- no target passes the state that would be next
    target_known : (e : Entry) → IsMadeDue r e → led_target lead m e ≤ length r.presences
    target_known e h =
        let k = entry_of_all e h.is_entry in
        ⊎_elim
        (λ (l : length r.presences < led_target lead m e).
        let f = next_entry (omega (arith, target_low e k)) in
        ⊎_elim
        (λ s. omega (arith, ap (led_target lead m) s, target_of_first (length r.presences) f))
        (λ b. omega (arith, target_before (length r.presences) f e k b))
        (h.first f.first (entry_of_next f) (next_missing f)))
        (λ l. l)
        (cases_lt (length r.presences) (led_target lead m e))

    -- a target is one of all states
    pub replay_low : (e : Entry) → IsMadeDue r e → led_target lead m e < length m.presences
    replay_low e h = target_low e (entry_of_all e h.is_entry)

    -- Result: the target of the led entry is allowed
    pub replay_allowed : (e : Entry) → IsMadeDue r e → IsAllowed r e (led_target lead m e)
    replay_allowed e h = record {
      due = h;
      known = target_known e h;
      fits = λ l. re.presences (led_target lead m e) l ∙ target_fits e (entry_of_all e h.is_entry);
    }

    -- Result: with all entries given, all states are there
    pub replay_all : IsComplete r → length r.presences ≡ length m.presences
    replay_all complete = ⊎_elim
        (λ l. let f = next_entry l in absurd (next_missing f (complete f.first (entry_of_next f))))
        (λ l. omega (arith, re.few))
        (cases_lt (length r.presences) (length m.presences))

    -- one more entry, over states that are those so far or one more
    replay_pushed : (ps : List ℕ) (e : Entry) → length ps ≤ length m.presences → ((q : ℕ) → q < length ps → get_or ps q 0 ≡ get_or m.presences q 0) → length r.presences ≤ length ps
        → ((x : Entry) → IsEntry r.signature r.columns r.presences x → IsEntry r.signature r.columns ps x) → led_target lead m e < length ps → IsEntry r.signature r.columns r.presences e → IsReplaying lead m (made_with r ps e (led_target lead m e))
    replay_pushed ps e few same more grows low h =
        let P : Entry → ℕ → Type 0 = λ x q. IsEntry r.signature r.columns ps x × (q ≡ led_target lead m x) × (q < length ps) in
        let each = push_each P r.entries r.targets e (led_target lead m e) re.count
        (λ k d l. (grows (get_or r.entries k d) (re.are k d l), re.targets k d l, omega (arith, re.within k (omega (arith, re.count)))))
        (grows e h, refl, low) in
        let len_e = length_push r.entries e in
        let len_q = length_push r.targets (led_target lead m e) in
        record {
          signature = re.signature;
          columns_are = re.columns_are;
          few = few;
          presences = same;
          count = omega (arith, re.count);
          are = λ k d l. (each k d l).0;
          targets = λ k d l. (each k d l).1;
          within = λ k l. (each k e (omega (arith, re.count))).2;
        }

    replay_old : (e : Entry) → IsEntry r.signature r.columns r.presences e → led_target lead m e < length r.presences → IsReplaying lead m (made_with r r.presences e (led_target lead m e))
    replay_old e h low = replay_pushed r.presences e re.few re.presences (omega arith) (λ x k. k) low h

    replay_new : (e : Entry) → IsEntry r.signature r.columns r.presences e → led_target lead m e ≡ length r.presences → IsReplaying lead m (made_with r (r.presences ++ presence e.symbol ∷ []) e (led_target lead m e))
    replay_new e h new =
        let k = entry_of_all e h in
        let p = presence e.symbol in
        let long = length_push r.presences p in
        replay_pushed (r.presences ++ p ∷ []) e (omega (arith, target_low e k))
        (λ q l. ⊎_elim
        (λ b. get_or_append_left r.presences (p ∷ []) 0 q b ∙ re.presences q b)
        (λ b. let last : length r.presences ≡ q = omega arith in
        get_or_push r.presences p 0 q last ∙ (sym (target_fits e k) ∙ ap (λ i. get_or m.presences i 0) (new ∙ last)))
        (cases_lt q (length r.presences)))
        (omega arith)
        (λ x j. entry_grows r.signature r.columns r.presences p x j)
        (omega arith)
        h

    -- Result: given it, the table goes on replaying
    pub replay_given : (e : Entry) (r' : Made) → IsMadeDue r e → IsGiven r e (led_target lead m e) r' → IsReplaying lead m r'
    replay_given e r' h g =
        let with : List ℕ → Type 0 = λ ps. IsReplaying lead m (made_with r ps e (led_target lead m e)) in
        let n = length r.presences in
        let pushed : List ℕ = r.presences ++ presence e.symbol ∷ [] in
        let there : with r'.presences = ⊎_elim
        (λ l. subst with (sym (g.presences ∙ if_apart (led_target lead m e) n pushed r.presences (λ s. omega arith))) (replay_old e h.is_entry l))
        (λ l. let new : led_target lead m e ≡ n = omega (arith, target_known e h) in
        subst with (sym (g.presences ∙ if_equal (led_target lead m e) n pushed r.presences new)) (replay_new e h.is_entry new))
        (cases_lt (led_target lead m e) n) in
        let same : made_with r r'.presences e (led_target lead m e) ≡ r' =
        λ i. record { signature = sym g.signature i; columns = sym g.columns_are i; presences = r'.presences; entries = sym g.entries i; targets = sym g.targets i } in
        subst (IsReplaying lead m) same there

    same_presences : IsComplete r → r.presences ≡ m.presences
    same_presences complete = let n = replay_all complete in ext_get_or 0 r.presences m.presences n re.presences

    -- Result: in the end it is the whole table
    pub replay_whole : (finals : List Bool) → IsComplete r → IsListed (finished r finals) → finished r finals ≡ finished (whole lead m) finals
    replay_whole finals complete listed =
        let ps : r.presences ≡ m.presences = same_presences complete in
        let es : r.entries ≡ all_entries m.signature m.columns m.presences =
        entries_unique r.signature r.columns r.presences r.entries listed.order listed.all ∙ (λ i. all_entries (re.signature i) (re.columns_are i) (ps i)) in
        let own : r.targets ≡ map (led_target lead m) r.entries = ext_get_or 0 r.targets (map (led_target lead m) r.entries) (re.count ∙ sym (length-map r.entries (led_target lead m)))
        (λ k l. let low : k < length r.entries = omega (arith, re.count) in
        re.targets k (no_entry 0) low ∙ sym (get_or-map (led_target lead m) r.entries k (no_entry 0) 0 low)) in
        let qs : r.targets ≡ map (led_target lead m) (all_entries m.signature m.columns m.presences) = own ∙ ap (map (led_target lead m)) es in
        λ i. record { signature = re.signature i; columns = re.columns_are i; presences = ps i; entries = es i; targets = qs i; finals = finals }
