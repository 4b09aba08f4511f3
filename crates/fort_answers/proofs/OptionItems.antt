-- Behind options, words of which as many are among the items as stand there are these words, and no certificate is asked for.
use Rattle.std.proofs.Common.{◌≡◌, ◌∙◌, ◌<◌, ◌≤◌, Bool, true, false, List, [], ◌∷◌, ◌++◌, ◌⊎◌, inl, inr, refl, ap, map, length, arith}
use Rattle.std.specs.Prelude.{Option, Some, None, IfSome, find, if◌then◌else◌}
use Rattle.std.specs.Str.{bytes_eq}
use Rattle.std.proofs.lemmas.Option.{IfSome_then}
use Rattle.fort_answers.specs.Requests.{Text}
use Rattle.fort_answers.specs.Commands.{Number, Parameter, Flag, Setting, NumberWord, TextWord, states, most, default_states, default_most, reduce_name, certificate_name}
use Rattle.fort_answers.specs.CommandGrammar.{Item, Set, Value, Word, dashes, flag_in, flag_items, is_named, is_plain, is_under, items_of, parameter_items, with_item, words_among}
use Rattle.fort_answers.specs.Said.{AreOptions, NoOption, Reduce, States, Most}

IfSome-if : {X : Type 0} (P : X → Type 0) (b : Bool) (x y : Option X) → IfSome x P → IfSome y P → IfSome (if b then x else y) P
IfSome-if P true x y h k = h
IfSome-if P false x y h k = k

IfSome-with_item : (P : List Item → Type 0) (item : Item) (rest : Option (List Item)) → IfSome rest (λ items. P (item ∷ items)) → IfSome (with_item item rest) P
IfSome-with_item P item None h = tt
IfSome-with_item P item (Some items) h = h

-- ---- any words

abbrev AreFewer : List Text → List Item → Type 0
AreFewer ws items = length (words_among items) < length ws

-- the items are the words, or fewer words are among them
abbrev AreOrFewer : List Text → List Item → Type 0
AreOrFewer ws items = (items ≡ map Word ws) ⊎ AreFewer ws items

words_among-map : (ws : List Text) → words_among (map Word ws) ≡ ws
words_among-map [] = refl
words_among-map (w ∷ ws) = ap (λ (vs : List Text). w ∷ vs) (words_among-map ws)

few : (ws : List Text) (items : List Item) → AreOrFewer ws items → length (words_among items) ≤ length ws
few ws items (inl e) = let same = ap (λ is. length (words_among is)) e in omega (arith, same, ap length (words_among-map ws))
few ws items (inr h) = omega arith

module _ (parameters : List Parameter) where
  -- the second part where the first of the words has to be a value
  abbrev Reads : List Text → Type 0
  Reads ws = IfSome (items_of parameters None ws) (AreOrFewer ws) × ((name : Text) → IfSome (items_of parameters (Some name) ws) (AreFewer ws))

  module _ (w : Text) (ws : List Text) where
    one_more : (items : List Item) → AreOrFewer ws items → AreOrFewer (w ∷ ws) (Word w ∷ items)
    one_more items (inl e) = inl (ap (λ is. Word w ∷ is) e)
    one_more items (inr h) = inr (omega arith)

    one_fewer : (items : List Item) → AreOrFewer ws items → AreFewer (w ∷ ws) items
    one_fewer items h = let low = few ws items h in omega arith

    fewer : (next : Option (List Item)) → IfSome next (AreOrFewer ws) → IfSome next (AreFewer (w ∷ ws))
    fewer next h = IfSome_then next {P = AreOrFewer ws} {Q = AreFewer (w ∷ ws)} h one_fewer

    reads_flag : (parameter : Option Parameter) (v : Option Text) (next : Option (List Item)) (awaiting : Text → Option (List Item))
        → IfSome next (AreFewer (w ∷ ws)) → ((name : Text) → IfSome (awaiting name) (AreFewer ws)) → IfSome (parameter_items parameter v next awaiting) (AreFewer (w ∷ ws))
    reads_flag None v next awaiting h k = tt
    reads_flag (Some (Flag name)) None next awaiting h k = IfSome-with_item (AreFewer (w ∷ ws)) (Set name) next h
    reads_flag (Some (Flag name)) (Some v) next awaiting h k = tt
    reads_flag (Some (Setting number default)) None next awaiting h k =
        IfSome_then (awaiting number.name) {P = AreFewer ws} {Q = AreFewer (w ∷ ws)} (k number.name) (λ items h. omega arith)
    reads_flag (Some (Setting number default)) (Some v) next awaiting h k = IfSome-with_item (AreFewer (w ∷ ws)) (Value number.name v) next h
    reads_flag (Some (NumberWord number)) v next awaiting h k = tt
    reads_flag (Some (TextWord name)) v next awaiting h k = tt

    reads_named : (flag : Option (Text × Option Text)) → Reads ws
        → IfSome (flag_items parameters flag (items_of parameters None ws) (λ name. items_of parameters (Some name) ws)) (AreOrFewer (w ∷ ws))
    reads_named None more = tt
    reads_named (Some flag) more =
        let next = items_of parameters None ws in
        let awaiting = λ (name : Text). items_of parameters (Some name) ws in
        let found = find (is_named flag.0) parameters in
        IfSome_then (parameter_items found flag.1 next awaiting) {P = AreFewer (w ∷ ws)} {Q = AreOrFewer (w ∷ ws)}
        (reads_flag found flag.1 next awaiting (fewer next more.0) more.1) (λ items h. inr h)

    reads_more : Reads ws → Reads (w ∷ ws)
    unfolding items_of
    reads_more more =
        let next = items_of parameters None ws in
        let Q = AreOrFewer (w ∷ ws) in
        let named = flag_items parameters (flag_in w) next (λ name. items_of parameters (Some name) ws) in (
          IfSome-if Q (bytes_eq w dashes) (Some (map Word ws)) (if is_plain w then with_item (Word w) next else named)
              (inr (one_fewer (map Word ws) (inl refl)))
              (IfSome-if Q (is_plain w) (with_item (Word w) next) named
              (IfSome-with_item Q (Word w) next (IfSome_then next {P = AreOrFewer ws} {Q = λ items. Q (Word w ∷ items)} more.0 one_more))
              (reads_named (flag_in w) more)),
          λ name. IfSome-if (AreFewer (w ∷ ws)) (is_plain w) (with_item (Value name w) next) None
              (IfSome-with_item (AreFewer (w ∷ ws)) (Value name w) next (fewer next more.0)) tt,
        )

  reads_all : (ws : List Text) → Reads ws
  unfolding items_of
  reads_all [] = (inl refl, λ name. tt)
  reads_all (w ∷ ws) = reads_more w ws (reads_all ws)

-- ---- words behind options

-- if as many words are among the items, they are these, and no item is under the certificate's name
abbrev pub AreAbout : List Text → List Item → Type 0
AreAbout about items = length (words_among items) ≡ length about → (words_among items ≡ about) × (find (is_under certificate_name) items ≡ None)

-- the name of each option is that of no parameter, or of the option itself
pub record TakesOptions (parameters : List Parameter) : Type 0 where
  pub reduce : (find (is_named reduce_name) parameters ≡ None) ⊎ (find (is_named reduce_name) parameters ≡ Some (Flag reduce_name))
  pub states : (find (is_named states.name) parameters ≡ None) ⊎ (find (is_named states.name) parameters ≡ Some (Setting states default_states))
  pub most : (find (is_named most.name) parameters ≡ None) ⊎ (find (is_named most.name) parameters ≡ Some (Setting most default_most))

no_certificate : (ws : List Text) → find (is_under certificate_name) (map Word ws) ≡ None
no_certificate [] = refl
no_certificate (w ∷ ws) = no_certificate ws

about_all : (about : List Text) (items : List Item) → AreOrFewer about items → AreAbout about items
about_all about items (inl e) same = (ap words_among e ∙ words_among-map about, ap (find (is_under certificate_name)) e ∙ no_certificate about)
about_all about items (inr h) same = absurd (omega arith)

module _ (parameters : List Parameter) (takes : TakesOptions parameters) (about : List Text) where
  -- by the parameter that is found, and what the words behind the option give
  reads_reduce : (found : Option Parameter) (next : Option (List Item)) (awaiting : Text → Option (List Item)) → (found ≡ None) ⊎ (found ≡ Some (Flag reduce_name))
      → IfSome next (AreAbout about) → IfSome (parameter_items found None next awaiting) (AreAbout about)
  reads_reduce found next awaiting (inl e) h = rw e tt
  reads_reduce found next awaiting (inr e) h = rw e (IfSome-with_item (AreAbout about) (Set reduce_name) next h)

  reads_value : (name w : Text) (ws : List Text) → bytes_eq name certificate_name ≡ false → IfSome (items_of parameters None ws) (AreAbout about)
      → IfSome (items_of parameters (Some name) (w ∷ ws)) (AreAbout about)
  unfolding items_of
  reads_value name w ws other h =
      IfSome-if (AreAbout about) (is_plain w) (with_item (Value name w) (items_of parameters None ws)) None
      (IfSome-with_item (AreAbout about) (Value name w) (items_of parameters None ws)
      (rw other h)) tt

  reads_setting : (found : Option Parameter) (next : Option (List Item)) (awaiting : Text → Option (List Item)) (number : Number) (default : Text)
      → (found ≡ None) ⊎ (found ≡ Some (Setting number default)) → IfSome (awaiting number.name) (AreAbout about) → IfSome (parameter_items found None next awaiting) (AreAbout about)
  reads_setting found next awaiting number default (inl e) h = rw e tt
  reads_setting found next awaiting number default (inr e) h = rw e h

  pub options_read : (options : List Text) → AreOptions options → IfSome (items_of parameters None (options ++ about)) (AreAbout about)
  unfolding items_of
  options_read _ NoOption = IfSome_then (items_of parameters None about) {P = AreOrFewer about} {Q = AreAbout about} (reads_all parameters about).0 (about_all about)
  options_read _ (Reduce {ws = ws} are) =
      let rest = ws ++ about in
      reads_reduce (find (is_named reduce_name) parameters) (items_of parameters None rest) (λ name. items_of parameters (Some name) rest) takes.reduce (options_read ws are)
  options_read _ (States {n = n} {ws = ws} are) =
      let rest = n ∷ (ws ++ about) in
      reads_setting (find (is_named states.name) parameters) (items_of parameters None rest) (λ name. items_of parameters (Some name) rest) states default_states takes.states
      (reads_value states.name n (ws ++ about) refl (options_read ws are))
  options_read _ (Most {n = n} {ws = ws} are) =
      let rest = n ∷ (ws ++ about) in
      reads_setting (find (is_named most.name) parameters) (items_of parameters None rest) (λ name. items_of parameters (Some name) rest) most default_most takes.most
      (reads_value most.name n (ws ++ about) refl (options_read ws are))
