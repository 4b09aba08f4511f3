-- Each place that a formula mentions is that of a ground term that is written in its text.
use Rattle.std.proofs.Common.{◌≡◌, ℕ, suc, ◌-◌, ◌≤◌, List, [], ◌∷◌, ◌++◌, length, take, drop, ap, subst, ◌∙◌, arith}
use Rattle.std.proofs.lemmas.List.{length-append}
use Rattle.std.proofs.lemmas.Option.{slice_get_within}
use Rattle.std.proofs.Math.Seq.{split_at}
use Rattle.fort_logic.specs.Formulas.{Formula}
use Rattle.fort_logic.specs.Mentions.{HasPlacesBelow}
use Rattle.fort_formula_grammar.specs.Tokens.{Token, token_text}
use Rattle.fort_formula_grammar.specs.Tokens as token
use Rattle.fort_formula_grammar.specs.TokenText.{BeginsWithToken, HasPlace, counting, grounds_behind, Reads, Nothing, Blank, Next}
use Rattle.fort_formula_grammar.specs.FormulaText.{Ground, IsFormulaText, AreGroundsOf}
use Rattle.fort_formula_grammar.proofs.FormulaPlaces.{formula_places}

-- where the text is read up to a token
record IsReadTo (n : ℕ) (text : List ℕ) (before : List Token) (t : Token) : Type 0 where
  here : List ℕ
  after : List ℕ
  read : Reads n text before here
  begins : BeginsWithToken here t after
  numbered : HasPlace (grounds_behind n before) t
  within : length here ≤ length text

read_to : {n : ℕ} {text rest : List ℕ} {tokens : List Token} → Reads n text tokens rest → (before : List Token) (t : Token) (behind : List Token)
    → tokens ≡ before ++ t ∷ behind → IsReadTo n text before t
read_to Nothing before t behind e = absurd (omega (arith, ap length e, length-append before (t ∷ behind)))
read_to (Blank blank r) before t behind e =
    let more = read_to r before t behind e in
    record {
      here = more.here;
      after = more.after;
      read = Blank blank more.read;
      begins = more.begins;
      numbered = more.numbered;
      within = omega (arith, more.within);
    }
read_to {n = n} {text = text} (Next {after = after} {token = u} {tokens = us} begins place r) [] t behind e =
    let same : u ≡ t = cc in
    record {
      here = text;
      after = after;
      read = Nothing;
      begins = subst (λ x. BeginsWithToken text x after) same begins;
      numbered = subst (HasPlace n) same place;
      within = omega arith;
    }
read_to {n = n} {text = text} (Next {after = after} {token = u} {tokens = us} begins place r) (b ∷ before) t behind e =
    let same : u ≡ b = cc in
    let others : us ≡ before ++ t ∷ behind = cc in
    let more = read_to r before t behind others in
    record {
      here = more.here;
      after = more.after;
      read = subst (λ x. Reads n text (x ∷ before) more.here) same (Next begins place more.read);
      begins = more.begins;
      numbered = subst (λ x. HasPlace (grounds_behind (counting n x) before) t) same more.numbered;
      within = omega (arith, more.within, ap length begins.written, length-append (token_text u) after);
    }

-- Result
pub places_written : (text : List ℕ) (f : Formula) (gs : List Ground) → IsFormulaText text f → AreGroundsOf text gs → HasPlacesBelow (length gs) f
places_written text f gs is are k c =
    let found = formula_places is.formula k c in
    let i = found.among.0 in
    let t = token.Ground k found.text in
    let before = take i is.tokens in
    let behind = drop (suc i) is.tokens in
    let split : is.tokens ≡ before ++ t ∷ behind =
    split_at is.tokens i t found.among.1 ∙ ap (λ u. take i is.tokens ++ u ∷ drop (suc i) is.tokens) found.among.2 in
    let at = read_to is.read before t behind split in
    let g : Ground = record { at = length text - length at.here; text = found.text } in
    slice_get_within gs k g ((are k g).1 (record {
      before = before;
      stands = record {
        here = at.here;
        after = at.after;
        read = at.read;
        begins = at.begins;
        numbered = at.numbered;
        place = omega (arith, at.within);
      };
    }))
