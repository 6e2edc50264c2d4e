-- How far the loading of an input has come.
use Rattle.std.proofs.Common.{◌≡◌, ℕ, ◌+◌, ◌-◌, ◌≤◌, ◌++◌, [], length, take, drop, sym, ap, ◌∙◌, arith, refl}
use Rattle.std.specs.Prelude.{Option, Some, None, option_map}
use Rattle.std.specs.Option.{ForSome}
use Rattle.std.proofs.lemmas.List.{append-nil, drop_all, take_all}
use Rattle.tdm_desk.specs.declared.slots.InSlot.{InSlot}
use Rattle.tdm_desk.specs.Slots.{at, put, input_place}
use Rattle.tdm_desk.specs.Files.{Bytes}
use Rattle.tdm_desk.specs.Seen.{Seen, Told, taken, rest_of, SomeTaken}
use Rattle.tdm_desk.proofs.SlotLaws.{put-at}
use Rattle.tdm_desk.proofs.SeenLaws.{taken-none, taken-taken, rest-taken}
use Rattle.tdm_desk.proofs.StepLaws.{take-add}

-- an input has given this many bytes, which are these
pub record Loads (slot : InSlot) (before after : Seen) (count : ℕ) (bytes : Bytes) : Type 0 where
  pub seen_is : after ≡ taken slot count before
  pub bytes_are : ForSome (rest_of slot before) (λ rest. bytes ≡ take count rest)

pub loads_nothing : (slot : InSlot) (s : Seen) (count : ℕ) (bytes : Bytes) → count ≡ 0 → bytes ≡ []
    → Loads slot s s count bytes
loads_nothing slot s count bytes none empty = record {
  seen_is = sym (taken-none slot s) ∙ ap (λ n. taken slot n s) (sym none);
  bytes_are = λ rest is. empty ∙ ap (λ n. take n rest) (sym none);
}

pub loads_more : (slot : InSlot) (before between after : Seen) (count more total : ℕ) (bytes all : Bytes)
    → Loads slot before between count bytes
    → total ≡ count + more → after ≡ taken slot more between
    → ForSome (rest_of slot between) (λ rest. all ≡ bytes ++ take more rest)
    → Loads slot before after total all
loads_more slot before between after count more total bytes all first sum seen_is bytes_are = record {
  seen_is = seen_is ∙ ap (taken slot more) first.seen_is ∙ taken-taken slot count more before
      ∙ ap (λ n. taken slot n before) (sym sum);
  bytes_are = λ rest is.
      bytes_are (drop count rest) (ap (rest_of slot) first.seen_is ∙ rest-taken slot count before
      ∙ ap (option_map (drop count)) is)
      ∙ ap (λ front. front ++ take more (drop count rest)) (first.bytes_are rest is)
      ∙ sym (take-add count more rest)
      ∙ ap (λ n. take n rest) (sym sum);
}

drop-nothing : (n : ℕ) (xs : Bytes) → xs ≡ [] → drop n xs ≡ xs
drop-nothing n xs empty = drop_all n xs (omega (arith, ap length empty)) ∙ sym empty

-- an input at its end gives nothing more
taken-end : (slot : InSlot) (s : Seen) (more : ℕ) → ForSome (rest_of slot s) (λ rest. rest ≡ [])
    → taken slot more s ≡ s
unfolding taken rest_of
taken-end slot s more end = ap (λ o. record s { told = o }) (by s.told end)
  where
    by : (o : Option Told) → ForSome (option_map (λ (t : Told). at (input_place slot) t.rests) o)
        (λ rest. rest ≡ [])
        → option_map (λ (t : Told). record t {
          rests =
              put (input_place slot) (drop more (at (input_place slot) t.rests)) t.rests;
        }) o ≡ o
    by None end = refl
    by (Some t) end = ap (λ r. Some (record t { rests = r }))
        (ap (λ rest. put (input_place slot) rest t.rests) (drop-nothing more _ (end _ refl))
        ∙ put-at (input_place slot) t.rests)

-- at the end of the input any greater count does as well
pub loads_end : (slot : InSlot) (before after : Seen) (count limit : ℕ) (bytes : Bytes)
    → Loads slot before after count bytes → count ≤ limit
    → ForSome (rest_of slot after) (λ rest. rest ≡ []) → Loads slot before after limit bytes
loads_end slot before after count limit bytes loaded below end =
    loads_more slot before after after count (limit - count) limit bytes bytes loaded (omega arith)
    (sym (taken-end slot after (limit - count) end))
    (λ rest is. sym (ap (λ xs. bytes ++ take (limit - count) xs) (end rest is)
    ∙ ap (λ xs. bytes ++ xs) (take_all (limit - count) [] (omega arith)) ∙ append-nil bytes))

-- the same, told in other words
pub loads_same : (slot : InSlot) (before after now : Seen) (count total : ℕ) (bytes all : Bytes)
    → Loads slot before after count bytes
    → now ≡ after → total ≡ count → all ≡ bytes → Loads slot before now total all
loads_same slot before after now count total bytes all loaded seen sum same = record {
  seen_is = seen ∙ loaded.seen_is ∙ ap (λ n. taken slot n before) (sym sum);
  bytes_are = λ rest is. same ∙ loaded.bytes_are rest is ∙ ap (λ n. take n rest) (sym sum);
}

-- some more may be lost in a refusal
pub lost_more : (slot : InSlot) (before between after : Seen) (count : ℕ) (bytes : Bytes)
    → Loads slot before between count bytes
    → SomeTaken slot between after → SomeTaken slot before after
lost_more slot before between after count bytes loaded some =
    (count + some.0, some.1 ∙ ap (taken slot some.0) loaded.seen_is ∙ taken-taken slot count some.0 before)
