-- To believe: the words of the command that decides a formula.
use Rattle.std.specs.Prelude.{List, [], ◌∷◌, codes}
use Rattle.fort_answers.specs.Requests.{Text}

abbrev pub decide_words : Text → List Text
decide_words formula = codes "fort" ∷ codes "decide" ∷ formula ∷ []
