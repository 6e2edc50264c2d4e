-- Labels with stamps, as a search of one number sees them.
use Rattle.std.proofs.Common.{◌≡◌, ℕ, ◌<◌, ◌≤◌, ◌==◌, false, cond, All, List, [], ◌∷◌, Option, Some, None, length, set, refl, ap, ◌∙◌, arith, zero, suc}
use Rattle.std.specs.Prelude.{map, replicate}
use Rattle.std.proofs.lemmas.Bool.{eq-eqb, ne_eqb}
use Rattle.std.proofs.lemmas.List.{map-set}
use Rattle.std.proofs.lemmas.List.Elements.{All-head, All-tail, All-weaker}
use Rattle.shortest_forest.specs.declared.label.Label.{Label}
use Rattle.shortest_forest.specs.declared.stamped.Stamped.{Stamped}
use Rattle.shortest_forest.specs.Stamps.{label_of, AreNotLater}

abbrev told : Stamped → Option Label
told l = Some (record { distance = l.distance; wire = l.wire })

-- a label of this search
label_here : (stamp d : ℕ) (w : Option ℕ) → label_of stamp (record { distance = d; wire = w; stamp = stamp })
    ≡ Some (record { distance = d; wire = w })
label_here stamp d w =
    let l : Stamped = record { distance = d; wire = w; stamp = stamp } in
    ap (λ t. cond t (told l) None) (eq-eqb stamp stamp refl)

-- a label of an earlier one
label_gone : (stamp : ℕ) (l : Stamped) → l.stamp < stamp → label_of stamp l ≡ None
label_gone stamp l before =
    ap (λ t. cond t (told l) None) (ne_eqb l.stamp stamp (λ same. omega (arith, same, before)))

pub labels_set : (stamp : ℕ) (ls : List Stamped) (f d : ℕ) (w : Option ℕ)
    → map (label_of stamp) (set ls f (record { distance = d; wire = w; stamp = stamp }))
    ≡ set (map (label_of stamp) ls) f (Some (record { distance = d; wire = w }))
labels_set stamp ls f d w =
    map-set (label_of stamp) ls f (record { distance = d; wire = w; stamp = stamp })
    ∙ ap (λ l. set (map (label_of stamp) ls) f l) (label_here stamp d w)

-- each value becomes the same one
all_become : {A B : Type 0} (f : A → B) (P : A → Type 0) (b : B) → ((a : A) → P a → f a ≡ b) → (xs : List A)
    → All P xs → map f xs ≡ replicate (length xs) b
all_become f P b same [] all = refl
all_become f P b same (x ∷ xs) all =
    ap (λ y. y ∷ map f xs) (same x (All-head P x xs all))
    ∙ ap (λ ys. b ∷ ys) (all_become f P b same xs (All-tail P x xs all))

pub labels_gone : (before stamp : ℕ) (ls : List Stamped) → before < stamp → AreNotLater before ls
    → map (label_of stamp) ls ≡ replicate (length ls) None
labels_gone before stamp ls later all =
    all_become (label_of stamp) (λ l. l.stamp ≤ before) None
    (λ l low. label_gone stamp l (omega (arith, low, later))) ls all

-- no FPGA has a number that is above all of them
pub marks_gone : (before present : ℕ) (numbers : List ℕ) → before < present → All (λ k. k ≤ before) numbers
    → map (λ k. k == present) numbers ≡ replicate (length numbers) false
marks_gone before present numbers later all =
    all_become (λ k. k == present) (λ k. k ≤ before) false
    (λ k low. ne_eqb k present (λ same. omega (arith, same, low, later))) numbers all

pub not_later_more : (before stamp : ℕ) (ls : List Stamped) → before ≤ stamp → AreNotLater before ls
    → AreNotLater stamp ls
not_later_more before stamp ls later all = All-weaker (λ l. l.stamp ≤ before) (λ l. l.stamp ≤ stamp)
    (λ l low. omega (arith, low, later)) ls all

pub all_same : {A B : Type 0} (f : A → B) (a : A) (b : B) → f a ≡ b → (n : ℕ)
    → map f (replicate n a) ≡ replicate n b
all_same f a b same zero = refl
all_same f a b same (suc n) = ap (λ y. y ∷ map f (replicate n a)) same
    ∙ ap (λ ys. b ∷ ys) (all_same f a b same n)
