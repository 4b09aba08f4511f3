-- To believe: a table in the making may list leading entries alone, in order, with a target each; it stands for the whole table, in which each entry has the target of its led one.
use Rattle.std.specs.Prelude.{◌≡◌, ℕ, ◌<◌, List, map, length, get_or}
use Rattle.fort_tables.specs.Tuples.{presence}
use Rattle.fort_tables.specs.Entries.{Entry, AreInOrder}
use Rattle.fort_tables.specs.Tables.{Made, target_in, IsFirstWith}
use Rattle.fort_tables.specs.Laid.{all_entries}
use Rattle.fort_classes.specs.Leaders.{Leaders, AreLeaders, led, Leads}
use Rattle.fort_classes.specs.Firsts.{HasAllLeading}

-- the first entry with this target, over earlier states; the targets before it are smaller
pub record HasFirstEntry (entries : List Entry) (targets : List ℕ) (q : ℕ) : Type 0 where
  pub first : Entry
  pub is : IsFirstWith entries targets q first
  pub earlier : (j : ℕ) → j < length first.kids → get_or first.kids j 0 < q

-- leading entries, each once and in order, with a state of their presence
pub record IsLeadingMade (lead : Leaders) (m : Made) : Type 0 where
  pub leaders : AreLeaders m.signature m.columns m.presences lead
  pub order : AreInOrder m.signature m.columns m.presences m.entries
  pub lead_each : (k : ℕ) (d : Entry) → k < length m.entries → Leads lead (get_or m.entries k d)
  pub count : length m.targets ≡ length m.entries
  pub within : (k : ℕ) → k < length m.targets → get_or m.targets k 0 < length m.presences
  pub presence_is : (k : ℕ) (d : Entry) → k < length m.targets → get_or m.presences (get_or m.targets k 0) 0 ≡ presence (get_or m.entries k d).symbol
  pub firsts : (q : ℕ) → q < length m.presences → HasFirstEntry m.entries m.targets q

-- no leading entry is left
abbrev pub IsLeadingComplete : Leaders → Made → Type 0
IsLeadingComplete lead m = HasAllLeading m.signature m.columns m.presences lead m.entries

-- the target of an entry is that of the led one
abbrev pub led_target : Leaders → Made → Entry → ℕ
led_target lead m e = target_in m.entries m.targets (led lead e)

-- all entries, each with the target of its led one
abbrev pub whole : Leaders → Made → Made
whole lead m = record {
  signature = m.signature;
  columns = m.columns;
  presences = m.presences;
  entries = all_entries m.signature m.columns m.presences;
  targets = map (led_target lead m) (all_entries m.signature m.columns m.presences);
}
