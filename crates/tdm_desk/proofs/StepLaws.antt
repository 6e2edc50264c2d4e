-- What one more step of a desk adds to the steps before it.
use Rattle.std.proofs.Common.{min, refl, ◌≡◌, ℕ, ◌+◌, ◌-◌, ◌≤◌, List, ◌++◌, length, take, drop, sym, ap, ◌∙◌, arith, length-drop}
use Rattle.std.proofs.lemmas.List.{take-append-le, take_at, drop_at, take_min, take_rest, drop-take, take-append-drop, take-take}
use Rattle.tdm_desk.specs.declared.slots.InSlot.{InSlot}
use Rattle.tdm_desk.specs.declared.slots.OutSlot.{OutSlot}
use Rattle.tdm_desk.specs.Files.{Bytes}
use Rattle.tdm_desk.specs.Seen.{PrefixWritten, Seen, taken, written, said, output_is_open, input_is_open}
use Rattle.tdm_desk.proofs.SeenLaws.{written-written, said-both, output_is_open-written, input_is_open-taken}

-- the first bytes, and then the first of the rest
pub take-add : {X : Type 0} (a b : ℕ) (xs : List X) → take (a + b) xs ≡ take a xs ++ take b (drop a xs)
take-add a b xs =
    sym (take-append-drop a (take (a + b) xs))
    ∙ ap (λ front. front ++ drop a (take (a + b) xs)) (take-take a (a + b) xs (omega arith))
    ∙ ap (λ rest. take a xs ++ rest) (drop-take a b xs)

-- a part of the rest ends within the whole
pub within-slice : (done count : ℕ) (xs : Bytes) → done ≤ length xs
    → count ≤ length (take (length xs - done) (drop done xs)) → done + count ≤ length xs
within-slice done count xs start end =
    omega (arith, length-drop done xs, ap length (take_rest xs done))

-- a piece of a piece, as a slice from a place on
pub take-add-slice : (done count : ℕ) (xs : Bytes)
    → take (done + count) xs ≡ take done xs ++ take count (take (length xs - done) (drop done xs))
take-add-slice done count xs = take-add done count xs ∙ ap (λ rest. take done xs ++ take count rest)
    (sym (take_rest xs done))

pub written_more : (slot : OutSlot) (piece : Bytes) (done count : ℕ) (before between after : Seen)
    → between ≡ written slot (take done piece) before
    → after ≡ written slot (take count (take (length piece - done) (drop done piece))) between
    → after ≡ written slot (take (done + count) piece) before
written_more slot piece done count before between after first second =
    second ∙ ap (written slot _) first ∙ written-written slot _ _ before
    ∙ ap (λ bytes. written slot bytes before) (sym (take-add-slice done count piece))

pub said_more : (piece : Bytes) (done count : ℕ) (before between after : Seen)
    → between ≡ said (take done piece) before
    → after ≡ said (take count (take (length piece - done) (drop done piece))) between
    → after ≡ said (take (done + count) piece) before
said_more piece done count before between after first second =
    second ∙ ap (said _) first ∙ said-both _ _ before
    ∙ ap (λ bytes. said bytes before) (sym (take-add-slice done count piece))

pub still_open_output : (slot : OutSlot) (bytes : Bytes) (before after : Seen)
    → after ≡ written slot bytes before → output_is_open slot after ≡ output_is_open slot before
still_open_output slot bytes before after is = ap (output_is_open slot) is
    ∙ output_is_open-written slot slot bytes before

pub still_open_input : (slot : InSlot) (count : ℕ) (before after : Seen) → after ≡ taken slot count before
    → input_is_open slot after ≡ input_is_open slot before
still_open_input slot count before after is = ap (input_is_open slot) is
    ∙ input_is_open-taken slot slot count before

-- ---- a text that is written or said in several pieces

-- a prefix of the first piece is one of the whole
pub take-longer : (count : ℕ) (bytes more : Bytes) → (n : ℕ) × (take count bytes ≡ take n (bytes ++ more))
take-longer count bytes more = (
  min count (length bytes),
  sym (take_min count bytes)
      ∙ sym (take-append-le (min count (length bytes)) bytes more (omega arith)),
)

-- the first piece and a prefix of the second are a prefix of the whole
pub take-further : (count : ℕ) (bytes more : Bytes)
    → bytes ++ take count more ≡ take (length bytes + count) (bytes ++ more)
take-further count bytes more = sym (take-add (length bytes) count (bytes ++ more)
    ∙ ap (λ front. front ++ take count (drop (length bytes) (bytes ++ more)))
    (take_at bytes more (length bytes) refl)
    ∙ ap (λ rest. bytes ++ take count rest) (drop_at bytes more (length bytes) refl))

pub prefix_written_longer : (slot : OutSlot) (bytes more : Bytes) (before after : Seen)
    → PrefixWritten slot bytes before after → PrefixWritten slot (bytes ++ more) before after
prefix_written_longer slot bytes more before after some =
    let n = take-longer some.0 bytes more in
    (n.0, some.1 ∙ ap (λ b. written slot b before) n.1)

pub prefix_written_further : (slot : OutSlot) (bytes more : Bytes) (before between after : Seen)
    → between ≡ written slot bytes before → PrefixWritten slot more between after
    → PrefixWritten slot (bytes ++ more) before after
prefix_written_further slot bytes more before between after first some = (
  length bytes + some.0,
  some.1 ∙ ap (written slot _) first ∙ written-written slot _ _ before
      ∙ ap (λ b. written slot b before) (take-further some.0 bytes more),
)
