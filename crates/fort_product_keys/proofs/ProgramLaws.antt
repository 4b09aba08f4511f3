-- What the laws of a program's tables say of its operands.
use Rattle.std.proofs.Common.{◌≡◌, ℕ, sym, subst}
use Rattle.fort_theory.specs.Signatures.{Signature}
use Rattle.fort_tables.specs.Tuples.{TupleSymbol}
use Rattle.fort_tables.specs.Tables.{Table}
use Rattle.fort_tables.specs.LabelRules.{label_of}
use Rattle.fort_tables.specs.Products.{IsOperand, IsLawful, product_rule}
use Rattle.fort_classes.specs.Leaders.{Leaders, MayBeKid}
use Rattle.fort_classes.specs.Keys.{GoesByEachKey}
use Rattle.fort_operand_keys.specs.TableLeaders.{IsLedBy}
use Rattle.fort_operand_keys.specs.ProductKeys.{IsLedOperand}
use Rattle.fort_label_keys.specs.ViewKeys.{keys_by}
use Rattle.fort_products.specs.Operands.{operand_of}
use Rattle.fort_products.specs.declared.operand.Operand.{Operand}
use Rattle.fort_products.specs.declared.operand.Operand.TheVariants.{Auto, Truth}
use Rattle.fort_product_keys.specs.ProductViews.{view_word, presence_word, IsSomeView}
use Rattle.fort_product_keys.specs.ProgramViews.{numbers_of, leaders_of, view_of, key_of}
use Rattle.fort_product_keys.proofs.KeyLaws.{LeadsInViews, GoesByEachKey-views}

-- the leaders of an operand's states; a truth has none
abbrev pub lead_of : {T : Type 0} → (T → Leaders) → Operand T → Leaders
lead_of lead (Auto t places) f j q = lead t.now f j q
lead_of lead (Truth b) f j q = q

module _ {T : Type 0} (table : T → Table) (lead : T → Leaders) where
  pub operand_led : ((s : T) → IsLedBy (table s) (lead s)) → (o : Operand T) → IsLedOperand (operand_of table o) (lead_of lead o)
  operand_led h (Auto t places) = h t.now
  operand_led h (Truth b) = tt

  pub operand_leads : (number : T → TupleSymbol → ℕ → ℕ) (leader : T → ℕ → ℕ → ℕ)
      → ((s : T) (f : TupleSymbol) (j q : ℕ) → MayBeKid (table s).signature (table s).columns (table s).presences f j q → lead s f j q ≡ leader s (number s f j) q)
      → (o : Operand T) → LeadsInViews (numbers_of number o) (leaders_of leader o) (lead_of lead o) (operand_of table o)
  operand_leads number leader h (Auto t places) = h t.now
  operand_leads number leader h (Truth b) = tt

  -- a lent operand is one of the product's, and its words of a view are some place's
  pub lent_operand : (a b : Operand T) (sig : Signature) (n m : ℕ) → a ≡ b → m ≡ n → IsOperand sig n (operand_of table b) → IsOperand sig m (operand_of table a)
  lent_operand a b sig n m same count h = subst (λ (k : ℕ). IsOperand sig k (operand_of table a)) (sym count) (subst (λ (o : Operand T). IsOperand sig n (operand_of table o)) (sym same) h)

  pub lent_view : (number : T → TupleSymbol → ℕ → ℕ) (a b : Operand T) (sig : Signature) (n : ℕ) (f : TupleSymbol) (j view presence : ℕ) → a ≡ b → IsOperand sig n (operand_of table b)
      → view ≡ view_word (numbers_of number b) (operand_of table b) n f j → presence ≡ presence_word (operand_of table b) n f j
      → IsSomeView (numbers_of number a) (operand_of table a) view presence
  lent_view number a b sig n f j view presence same operand v p =
      subst (λ (o : Operand T). IsSomeView (numbers_of number o) (operand_of table o) view presence) (sym same)
      (record { signature = sig; columns = n; operand = operand; symbol = f; place = j; view_is = v; presence_is = p })

  -- Result: the label of a program's product goes by its keys
  pub product_goes : (number : T → TupleSymbol → ℕ → ℕ) (leader : T → ℕ → ℕ → ℕ) → ((s : T) → IsLedBy (table s) (lead s))
      → ((s : T) (f : TupleSymbol) (j q : ℕ) → MayBeKid (table s).signature (table s).columns (table s).presences f j q → lead s f j q ≡ leader s (number s f j) q)
      → (sig : Signature) (n : ℕ) (first second a b : Operand T) → a ≡ first → b ≡ second → IsOperand sig n (operand_of table first) → IsOperand sig n (operand_of table second)
      → IsLawful (operand_of table a) → IsLawful (operand_of table b)
      → GoesByEachKey sig n (label_of (product_rule n (operand_of table first) (operand_of table second))) (keys_by (view_of table number first second n) (key_of table leader first second))
  product_goes number leader led leads sig n first second a b same1 same2 o p is1 is2 =
      GoesByEachKey-views sig n (operand_of table first) (operand_of table second) (numbers_of number first) (numbers_of number second) (leaders_of leader first) (leaders_of leader second)
      (lead_of lead first) (lead_of lead second) (record { first_is = o; second_is = p })
      (subst (λ (x : Operand T). IsLawful (operand_of table x)) same1 is1) (subst (λ (x : Operand T). IsLawful (operand_of table x)) same2 is2)
      (operand_leads number leader leads first) (operand_leads number leader leads second) (operand_led led first) (operand_led led second)
