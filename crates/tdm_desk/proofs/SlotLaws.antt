-- What stands at a place after a change there.
use Rattle.std.proofs.Common.{◌≡◌, refl}
use Rattle.tdm_desk.specs.declared.slots.Place.{Place}
use Rattle.tdm_desk.specs.declared.slots.Place.TheVariants.{First, Second, Third}
use Rattle.tdm_desk.specs.declared.slots.Slots.{Slots}
use Rattle.tdm_desk.specs.Slots.{at, put, map_slots}

module _ {A : Type 0} where
  pub at-put : (p : Place) (a : A) (s : Slots A) → at p (put p a s) ≡ a
  unfolding at put
  at-put First a s = refl
  at-put Second a s = refl
  at-put Third a s = refl

  -- a change at another place leaves it
  pub at-put_other : (p q : Place) (a : A) (s : Slots A) → (p ≡ q → ⊥) → at q (put p a s) ≡ at q s
  unfolding at put
  at-put_other First First a s apart = absurd (apart refl)
  at-put_other First Second a s apart = refl
  at-put_other First Third a s apart = refl
  at-put_other Second First a s apart = refl
  at-put_other Second Second a s apart = absurd (apart refl)
  at-put_other Second Third a s apart = refl
  at-put_other Third First a s apart = refl
  at-put_other Third Second a s apart = refl
  at-put_other Third Third a s apart = absurd (apart refl)

  pub put-put : (p : Place) (a b : A) (s : Slots A) → put p b (put p a s) ≡ put p b s
  unfolding put
  put-put First a b s = refl
  put-put Second a b s = refl
  put-put Third a b s = refl

  pub put-at : (p : Place) (s : Slots A) → put p (at p s) s ≡ s
  unfolding at put
  put-at First s = refl
  put-at Second s = refl
  put-at Third s = refl

pub at-map : {A B : Type 0} (f : A → B) (p : Place) (s : Slots A) → at p (map_slots f s) ≡ f (at p s)
unfolding at
at-map f First s = refl
at-map f Second s = refl
at-map f Third s = refl

pub map-put : {A B : Type 0} (f : A → B) (p : Place) (a : A) (s : Slots A)
    → map_slots f (put p a s) ≡ put p (f a) (map_slots f s)
unfolding put
map-put f First a s = refl
map-put f Second a s = refl
map-put f Third a s = refl
