-- The program's own level: the word that names a command, and words that name none.
use Rattle.std.proofs.Common.{◌≡◌, ◌∙◌, ℕ, List, [], ◌∷◌, ◌++◌, Bool, true, false, refl, ap, ap₂, sym, codes, append_assoc, append-nil, inl, inr}
use Rattle.std.specs.Prelude.{◌==◌, Option, Some, None, find, fold, is_some, option_map, slice_get, if◌then◌else◌}
use Rattle.std.specs.Option.{option_or}
use Rattle.std.specs.Str.{bytes_eq, chars}
use Rattle.clap.specs.Words.{App, Kinds, Rule, Shape, Text, fault_of, subcommand_of}
use Rattle.clap.specs.Walk.{Names, Walk, answers_to, bundle_met, finished, idle, nothing_held, rows_after, settled, subcommand_met, walk, walk_from, walked}
use Rattle.clap.specs.Faults.{built_fault, check_fault, defaults_fault, entered_fault, flags_fault, level_fault, settle_fault, turn_fault, walk_fault}
use Rattle.clap.specs.Kinds.{or_else}
use Rattle.clap.specs.Lexer.{has_byte}
use Rattle.clap.specs.Simple.{built, built_leaf, entered, help_shape, label_of, names_of}
use Rattle.clap.proofs.FaultLemmas.{stopped_fault}
use Rattle.clap.proofs.SimpleLemmas.{label_first}
use Rattle.fort_answers.specs.Commands.{Command}
use Rattle.fort_answers.specs.CommandGrammar.{dashes, is_plain}
use Rattle.fort_words.specs.CommandLine.{program}
use Rattle.fort_words.proofs.Turns.{found_passes, cases_of, long_word, name_of, plain_tests, some_kinds}
use Rattle.fort_words.proofs.RowRules.{names_are}
use Rattle.fort_words.proofs.RowWalk.{level, loud_first}

abbrev pub is_for : Text → Command → Bool
is_for word command = bytes_eq command.name word

-- the command of this name
abbrev pub named_in : Text → List Command → Option Command
named_in word commands = find (is_for word) commands

-- ---- the subcommands

abbrev help_level : Shape
help_level = built_leaf help_shape

abbrev subs : List Command → List Shape
subs commands = (built (program commands)).subs

abbrev help_by : Bool → Option Shape
help_by b = if b then Some help_level else None

sub_found : (commands : List Command) (word : Text)
    → find (λ s. answers_to word (label_of s)) (subs commands) ≡ option_or (option_map level (named_in word commands)) (help_by (bytes_eq (codes "help") word))
sub_found [] word = elim (cases_of (bytes_eq (codes "help") word)) [ inl e ↦ simp e refl | inr e ↦ simp e refl ]
sub_found (command ∷ rest) word = elim (cases_of (bytes_eq command.name word)) [ inl e ↦ simp e refl | inr e ↦ simp e (sub_found rest word) ]

met_is : (commands : List Command) (word : Text) → subcommand_met (names_of (built (program commands))) idle word
    ≡ option_map (λ s. s.name) (option_or (option_map level (named_in word commands)) (help_by (bytes_eq (codes "help") word)))
met_is commands word = sym (label_first word (subs commands)) ∙ ap (option_map (λ (s : Shape). s.name)) (sub_found commands word)

-- ---- the walk, behind a word that names a command

-- the words behind a subcommand's name are its own
collected : (c : List Rule) (names : Names) (w : Walk) (name : Text) (xs ws : List Text)
    → fold (walked c names) (record w { stopped = Some (name, xs) }) ws ≡ record w { stopped = Some (name, xs ++ ws) }
unfolding walked
collected c names w name xs [] = ap (λ (ys : List Text). record w { stopped = Some (name, ys) }) (sym (append-nil xs))
collected c names w name xs (v ∷ vs) = collected c names w name (xs ++ v ∷ []) vs ∙ ap (λ (ys : List Text). record w { stopped = Some (name, ys) }) (append_assoc xs (v ∷ []) vs)

or_else-none : (kinds : Kinds) → or_else kinds [] ≡ kinds
or_else-none [] = refl
or_else-none (k ∷ ks) = refl

-- a built command's faults, by where its walk ended and where its walk found none
fault_at : (a : App) (words : List Text) (end : Walk) → walk a.top.rules (names_of a) nothing_held words ≡ end
    → walk_fault a.top (names_of a) (walk_from nothing_held) words ≡ []
    → built_fault a nothing_held words ≡ or_else (entered_fault a end.stopped) (or_else (settle_fault a.top.rules a.top.args_override_self end.held)
    (or_else (defaults_fault (settled a.top.rules end.held).rows a.top.rules) (check_fault a.top (finished a.top.rules end.held) (is_some (entered a end.stopped)))))
fault_at a words end e f = rw (e, f) refl

abbrev at_stop : Text → List Text → Walk
at_stop name ws = record (walk_from nothing_held) { stopped = Some (name, ws) }

module _ (commands : List Command) (word : Text) (command : Command) (found : named_in word commands ≡ Some command) where
  abbrev top : App
  top = built (program commands)

  met : subcommand_met (names_of top) idle word ≡ Some command.name
  met = met_is commands word ∙ rw found refl

  first_walked : walked top.top.rules (names_of top) (walk_from nothing_held) word ≡ at_stop command.name []
  unfolding walked
  first_walked = rw met refl

  walk_is : (ws : List Text) → walk top.top.rules (names_of top) nothing_held (word ∷ ws) ≡ at_stop command.name ws
  walk_is ws =
      ap (λ (w : Walk). fold (walked top.top.rules (names_of top)) w ws) first_walked ∙ collected top.top.rules (names_of top) (walk_from nothing_held) command.name [] ws

  first_fault : bytes_eq command.name (codes "help") ≡ false → turn_fault top.top (names_of top) (walk_from nothing_held) word ≡ []
  first_fault other = rw (met, other) refl

  walk_fault_is : bytes_eq command.name (codes "help") ≡ false → (ws : List Text) → walk_fault top.top (names_of top) (walk_from nothing_held) (word ∷ ws) ≡ []
  unfolding walk_fault
  walk_fault_is other ws =
      ap₂ (λ (ks : Kinds) (w : Walk). or_else ks (walk_fault top.top (names_of top) w ws)) (first_fault other) first_walked
      ∙ stopped_fault top.top (names_of top) (walk_from nothing_held) (command.name, []) ws

  named_command : bytes_eq command.name word ≡ true
  named_command = found_passes (is_for word) commands command found

  pub own_name : command.name ≡ word
  own_name = names_are command.name word named_command

  own_level : find (λ s. answers_to command.name (label_of s)) (subs commands) ≡ Some (level command)
  own_level = sub_found commands command.name ∙ rw (ap (λ t. named_in t commands) own_name ∙ found) refl

  pub entered_is : (ws : List Text) → entered top (Some (command.name, ws)) ≡ Some (command.name, rows_after (level command).rules [] ws)
  entered_is ws = rw own_level refl

  pub subcommand_is : (name : Text) (ws : List Text) → subcommand_of (program commands) (name ∷ word ∷ ws) ≡ Some (command.name, rows_after (level command).rules [] ws)
  subcommand_is name ws = ap (λ (end : Walk). entered top end.stopped) (walk_is ws) ∙ entered_is ws

  pub fault_is : bytes_eq command.name (codes "help") ≡ false → (name : Text) (ws : List Text)
      → fault_of (program commands) (name ∷ word ∷ ws) ≡ level_fault (level command) [] nothing_held ws false []
  unfolding defaults_fault
  fault_is other name ws =
      let way = fault_at top (word ∷ ws) (at_stop command.name ws) (walk_is ws) (walk_fault_is other ws) in
      way ∙ rw (entered_is ws, own_level) (or_else-none (level_fault (level command) [] nothing_held ws false []))

-- ---- words that name none

module _ (commands : List Command) (word : Text) (none : named_in word commands ≡ None) where
  abbrev top_fault : Kinds
  top_fault = turn_fault (built (program commands)).top (names_of (built (program commands))) (walk_from nothing_held) word

  met_help : bytes_eq (codes "help") word ≡ true → subcommand_met (names_of (built (program commands))) idle word ≡ Some (codes "help")
  met_help h = met_is commands word ∙ rw (none, h) refl

  met_none : bytes_eq (codes "help") word ≡ false → subcommand_met (names_of (built (program commands))) idle word ≡ None
  met_none h = met_is commands word ∙ rw (none, h) refl

  pub help_fails : bytes_eq (codes "help") word ≡ true → some_kinds top_fault ≡ true
  help_fails h = let met = met_help h in rw met refl

  pub plain_fails : bytes_eq (codes "help") word ≡ false → is_plain word ≡ true → some_kinds top_fault ≡ true
  plain_fails h p =
      let met = met_none h in
      let t = plain_tests word p in
      let d = t.not_dashes in
      let l = t.not_long in
      let s = t.not_short in simp (met, d, l, s) refl

abbrev pub top_turn : List Command → Text → Kinds
top_turn commands word = turn_fault (built (program commands)).top (names_of (built (program commands))) (walk_from nothing_held) word

module _ (commands : List Command) where
  pub long_fails : (z : ℕ) (zs : Text) → named_in (long_word z zs) commands ≡ None → some_kinds (top_turn commands (long_word z zs)) ≡ true
  long_fails z zs none =
      let met = met_none commands (long_word z zs) none refl in
      elim (cases_of (bytes_eq (codes "help") (name_of z zs))) [
        | inl n ↦ elim (cases_of (has_byte 61 (z ∷ zs))) [ inl v ↦ simp (met, n, v) refl | inr v ↦ simp (met, n, v) refl ]
        | inr n ↦ simp (met, n) refl
      ]

  pub short_fails : (y c : ℕ) (rest : Text) → named_in (45 ∷ y ∷ rest) commands ≡ None → (y == 45) ≡ false → slice_get (chars (y ∷ rest)) 0 ≡ Some c
      → some_kinds (top_turn commands (45 ∷ y ∷ rest)) ≡ true
  unfolding flags_fault bundle_met
  short_fails y c rest none h e =
      let met = met_none commands (45 ∷ y ∷ rest) none refl in
      elim (cases_of (104 == c)) [ inl g ↦ simp (met, h, e, g) (refl {a = true}) | inr g ↦ simp (met, h, e, g) (refl {a = true}) ]

  -- behind `--` nothing stands
  abbrev behind_dashes : Walk
  behind_dashes = record (walk_from nothing_held) { is_trailing = true }

  dashes_walked : named_in dashes commands ≡ None → walked (built (program commands)).top.rules (names_of (built (program commands))) (walk_from nothing_held) dashes ≡ behind_dashes
  unfolding walked
  dashes_walked none = let met = met_none commands dashes none refl in simp met refl

  dashes_turn : named_in dashes commands ≡ None → top_turn commands dashes ≡ []
  dashes_turn none = let met = met_none commands dashes none refl in simp met refl

  pub no_words : some_kinds (fault_of (program commands) []) ≡ true
  unfolding walk_fault defaults_fault
  no_words = refl

  pub no_word : (name : Text) → some_kinds (fault_of (program commands) (name ∷ [])) ≡ true
  unfolding walk_fault defaults_fault
  no_word name = refl

  pub first_fails : (name w : Text) (ws : List Text) → some_kinds (top_turn commands w) ≡ true → some_kinds (fault_of (program commands) (name ∷ w ∷ ws)) ≡ true
  unfolding walk_fault
  first_fails name w ws e = loud_first _ _ (loud_first _ _ e)

  dashes_alone : (name : Text) → named_in dashes commands ≡ None → some_kinds (fault_of (program commands) (name ∷ dashes ∷ [])) ≡ true
  unfolding walk_fault defaults_fault
  dashes_alone name none = let here = dashes_turn none in let way = dashes_walked none in simp (here, way) (refl {a = true})

  dashes_walk : (w : Text) (ws : List Text) → named_in dashes commands ≡ None
      → some_kinds (walk_fault (built (program commands)).top (names_of (built (program commands))) (walk_from nothing_held) (dashes ∷ w ∷ ws)) ≡ true
  unfolding walk_fault
  dashes_walk w ws none = let here = dashes_turn none in let way = dashes_walked none in rw (here, way) (refl {a = true})

  dashes_more : (name w : Text) (ws : List Text) → named_in dashes commands ≡ None → some_kinds (fault_of (program commands) (name ∷ dashes ∷ w ∷ ws)) ≡ true
  dashes_more name w ws none = loud_first _ _ (dashes_walk w ws none)

  pub dashes_fail : (name : Text) (ws : List Text) → named_in dashes commands ≡ None → some_kinds (fault_of (program commands) (name ∷ dashes ∷ ws)) ≡ true
  dashes_fail name [] none = dashes_alone name none
  dashes_fail name (w ∷ ws) none = dashes_more name w ws none
