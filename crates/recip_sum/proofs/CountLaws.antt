-- How often a ratio is counted after one item more and one item less.
use Rattle.std.proofs.Common.{◌≡◌, ℕ, ◌+◌, ◌-◌, ◌<◌, ◌==◌, if◌then◌else◌, cond, true, false, Some, None, arith, refl, sym, ap, ◌∙◌}
use Rattle.std.specs.Prelude.{unwrap_or}
use Rattle.std.specs.Ordering.{nat_cmp}
use Rattle.std.specs.Cmp.{nat_cmp_total, unsigned_tied}
use Rattle.std.specs.FinMap as map
use Rattle.std.specs.FinMap.{get-insert, get-remove}
use Rattle.std.proofs.lemmas.Bool.{eqb-true}
use Rattle.recip_sum.specs.Counts.{count_of, with_item, without_item}

-- after an insertion of a number at the ratio
count_of-insert : (counts : map.FinMap nat_cmp ℕ) (ratio number q : ℕ)
    → count_of (map.insert counts ratio number) q ≡ (if q == ratio then number else count_of counts q)
count_of-insert counts ratio number q =
    ap (λ o. unwrap_or o 0) (get-insert nat_cmp_total counts ratio number q)
    ∙ ap (λ b. unwrap_or (cond b (Some number) (map.get counts q)) 0) (unsigned_tied q ratio)
    ∙ elim (q == ratio) as (λ b. unwrap_or (cond b (Some number) (map.get counts q)) 0
    ≡ (if b then number else count_of counts q)) [ true ↦ refl | false ↦ refl ]

count_of-remove : (counts : map.FinMap nat_cmp ℕ) (ratio q : ℕ) → count_of (map.remove counts ratio) q
    ≡ (if q == ratio then 0 else count_of counts q)
count_of-remove counts ratio q =
    ap (λ o. unwrap_or o 0) (get-remove nat_cmp_total counts ratio q)
    ∙ ap (λ b. unwrap_or (cond b None (map.get counts q)) 0) (unsigned_tied q ratio)
    ∙ elim (q == ratio) as (λ b. unwrap_or (cond b None (map.get counts q)) 0
    ≡ (if b then 0 else count_of counts q)) [ true ↦ refl | false ↦ refl ]

pub count_of-with_item : (counts : map.FinMap nat_cmp ℕ) (ratio q : ℕ) → count_of (with_item counts ratio) q
    ≡ count_of counts q + (if q == ratio then 1 else 0)
count_of-with_item counts ratio q =
    count_of-insert counts ratio (count_of counts ratio + 1) q
    ∙ elim (q == ratio) as (λ b. (q == ratio) ≡ b
    → (if b then count_of counts ratio + 1 else count_of counts q) ≡ count_of counts q
    + (if b then 1 else 0)) [
      | true ↦ λ is. ap (λ r. count_of counts r + 1) (sym (eqb-true q ratio is))
      | false ↦ λ _. omega arith
    ] refl

pub count_of-without_item : (counts : map.FinMap nat_cmp ℕ) (ratio q : ℕ) → 0 < count_of counts ratio
    → count_of (without_item counts ratio) q + (if q == ratio then 1 else 0) ≡ count_of counts q
count_of-without_item counts ratio q there =
    elim (count_of counts ratio == 1) as (λ last. (count_of counts ratio == 1) ≡ last
    → count_of (if last then map.remove counts ratio else map.insert counts ratio
    (count_of counts ratio - 1)) q + (if q == ratio then 1 else 0) ≡ count_of counts q) [
      | true ↦ λ last.
          let one : count_of counts ratio ≡ 1 = eqb-true (count_of counts ratio) 1 last in
          ap (λ n. n + (if q == ratio then 1 else 0)) (count_of-remove counts ratio q)
          ∙ elim (q == ratio) as (λ b. (q == ratio) ≡ b
          → (if b then 0 else count_of counts q) + (if b then 1 else 0) ≡ count_of counts q) [
            | true ↦ λ is. sym (ap (λ r. count_of counts r) (eqb-true q ratio is) ∙ one)
            | false ↦ λ _. omega arith
          ] refl
      | false ↦ λ _.
          ap (λ n. n + (if q == ratio then 1 else 0))
          (count_of-insert counts ratio (count_of counts ratio - 1) q)
          ∙ elim (q == ratio) as (λ b. (q == ratio) ≡ b
          → (if b then count_of counts ratio - 1 else count_of counts q) + (if b then 1 else 0)
          ≡ count_of counts q) [
            | true ↦ λ is. let same = ap (λ r. count_of counts r) (eqb-true q ratio is) in omega arith
            | false ↦ λ _. omega arith
          ] refl
    ] refl
