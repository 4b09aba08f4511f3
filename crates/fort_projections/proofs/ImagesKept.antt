-- What is kept stays right: with another image in the making, with no images, and with one more.
use Rattle.std.proofs.Common.{◌≡◌, ℕ, ◌+◌, ◌-◌, ◌<◌, List, [], ◌∷◌, ◌++◌, length, get_or, set, ap, sym, ◌∙◌, arith, subst, ⊎_elim, get_or-set_same, get_or-set_other}
use Rattle.std.proofs.lemmas.Bool.{cases_eq}
use Rattle.std.proofs.lemmas.List.{get_or_append_left, get_or_push, length_push, length-set}
use Rattle.fort_tables.specs.Tuples.{TupleSymbol}
use Rattle.fort_tables.specs.Entries.{Entry}
use Rattle.fort_tables.specs.Tables.{Table}
use Rattle.fort_projections.specs.Scopes.{some_gives}
use Rattle.fort_projections.specs.ImageFacts.{with_state, IsImage, IsSlot, AreImages, IsKeyOf}
use Rattle.fort_projections.specs.declared.images.Images.{Images}

-- the images belong to the same entries
pub record HasSameKey (old new : Images) : Type 0 where
  pub key : new.key ≡ old.key
  pub labels : new.labels ≡ old.labels
  pub place : new.place ≡ old.place

-- the images are the same
pub record HasSameImages (old new : Images) : Type 0 where
  pub same : HasSameKey old new
  pub slots : new.slots.items ≡ old.slots.items
  pub images : new.images ≡ old.images
  pub room : new.room ≡ old.room
  pub image : length new.image.items ≡ length old.image.items

pub key_along : (old new : Images) (f : TupleSymbol) (ws : List (List ℕ)) → HasSameKey old new → IsKeyOf old f ws → IsKeyOf new f ws
key_along old new f ws h k = record {
  symbol = ap (λ (e : Entry). e.symbol) h.key ∙ k.symbol;
  place = omega (arith, h.place, k.place);
  count = ap (λ l. length l.labels) h.labels ∙ k.count;
  others = λ j l apart. ap (λ l. get_or l.labels j []) h.labels ∙ k.others j l (λ e. apart (e ∙ sym h.place));
}

image_along : (body : Table) (c : ℕ) (old new : Images) (s : ℕ) (w : List ℕ) → HasSameKey old new → IsImage body c old s w → IsImage body c new s w
image_along body c old new s w h is = λ q. is q ∙ (λ i. some_gives body c (sym h.key i).symbol (sym h.labels i).labels (with_state (sym h.place i) s) q)

-- Result: another image is being made
pub images_along : (body : Table) (c : ℕ) (old new : Images) → HasSameImages old new → AreImages body c old → AreImages body c new
images_along body c old new h a = record {
  slots = ap length h.slots ∙ a.slots;
  label_width = ap (λ l. l.width) h.same.labels ∙ a.label_width;
  label_room = ap (λ l. l.room) h.same.labels ∙ a.label_room;
  width = ap (λ l. l.width) h.images ∙ a.width;
  image = h.image ∙ a.image;
  room = h.room ∙ (a.room ∙ sym (ap (λ l. l.room) h.images));
  few = omega (arith, h.room, a.few);
  made = λ s l.
      let slot : get_or new.slots.items s 0 ≡ get_or old.slots.items s 0 = ap (λ (xs : List ℕ). get_or xs s 0) h.slots in
      let x = a.made s (omega (arith, slot, l)) in
      subst (IsSlot body c new s) (sym slot)
      (record {
        within = omega (arith, x.within, ap (λ l. length l.labels) h.images);
        wide = ap (λ l. length (get_or l.labels (get_or old.slots.items s 0 - 1) [])) h.images ∙ x.wide;
        is = subst (IsImage body c new s) (ap (λ l. get_or l.labels (get_or old.slots.items s 0 - 1) []) (sym h.images)) (image_along body c old new s _ h.same x.is);
      });
}

-- Result: no image is there
pub images_none : (body : Table) (c : ℕ) (old new : Images) → length new.slots.items ≡ length old.slots.items → new.labels.width ≡ old.labels.width → new.labels.room ≡ old.labels.room → new.images.width ≡ old.images.width → new.images.room ≡ old.images.room
    → new.room ≡ old.room → length new.image.items ≡ length old.image.items → ((s : ℕ) → get_or new.slots.items s 0 ≡ 0) → AreImages body c old → AreImages body c new
images_none body c old new slots label_width label_room width images_room room image none a = record {
  slots = slots ∙ a.slots;
  label_width = label_width ∙ a.label_width;
  label_room = label_room ∙ a.label_room;
  width = width ∙ a.width;
  image = image ∙ a.image;
  room = room ∙ (a.room ∙ sym images_room);
  few = omega (arith, room, a.few);
  made = λ s l. absurd (omega (arith, none s, l));
}

-- Result: one more state has its image
pub images_noted : (body : Table) (c : ℕ) (old new : Images) (state : ℕ) → HasSameKey old new → new.slots.items ≡ set old.slots.items state (length old.images.labels + 1) → new.images.labels ≡ old.images.labels ++ old.image.items ∷ [] → new.images.width ≡ old.images.width
    → new.images.room ≡ old.images.room → new.room ≡ old.room → new.image.items ≡ old.image.items → state < length old.slots.items → IsImage body c old state old.image.items → AreImages body c old → AreImages body c new
images_noted body c old new state same slots labels width images_room room image there is a =
    let n = length old.images.labels in
    let pushed = length_push old.images.labels old.image.items in
    record {
      slots = ap length slots ∙ (length-set old.slots.items state (n + 1) ∙ a.slots);
      label_width = ap (λ l. l.width) same.labels ∙ a.label_width;
      label_room = ap (λ l. l.room) same.labels ∙ a.label_room;
      width = width ∙ a.width;
      image = ap length image ∙ a.image;
      room = room ∙ (a.room ∙ sym images_room);
      few = omega (arith, room, a.few);
      made = λ s l. ⊎_elim
          (λ (e : s ≡ state).
          let slot : get_or new.slots.items s 0 ≡ n + 1 = (λ i. get_or (slots i) (e i) 0) ∙ get_or-set_same old.slots.items state (n + 1) 0 there in
          let at : old.image.items ≡ get_or new.images.labels (n + 1 - 1) [] = sym (ap (λ (ws : List (List ℕ)). get_or ws (n + 1 - 1) []) labels ∙ get_or_push old.images.labels old.image.items [] (n + 1 - 1) (let z : n ≡ n + 1 - 1 = omega arith in z)) in
          subst (IsSlot body c new s) (sym slot)
          (record {
            within = omega (arith, ap length labels, pushed);
            wide = ap length (sym at) ∙ a.image;
            is = subst (IsImage body c new s) at (subst (λ (k : ℕ). IsImage body c new k old.image.items) (sym e) (image_along body c old new state old.image.items same is));
          }))
          (λ (apart : s ≡ state → ⊥).
          let slot : get_or new.slots.items s 0 ≡ get_or old.slots.items s 0 = ap (λ (xs : List ℕ). get_or xs s 0) slots ∙ get_or-set_other old.slots.items state s (n + 1) 0 apart in
          let x = a.made s (omega (arith, slot, l)) in
          let k = get_or old.slots.items s 0 - 1 in
          let at : get_or old.images.labels k [] ≡ get_or new.images.labels k [] = sym (ap (λ (ws : List (List ℕ)). get_or ws k []) labels ∙ get_or_append_left old.images.labels (old.image.items ∷ []) [] k (omega (arith, x.within, slot, l))) in
          subst (IsSlot body c new s) (sym slot)
          (record {
            within = omega (arith, x.within, ap length labels, pushed);
            wide = ap length (sym at) ∙ x.wide;
            is = subst (IsImage body c new s) at (image_along body c old new s _ same x.is);
          }))
          (cases_eq s state);
    }
