-- What is known of a desk's counts over several calls.
use Rattle.std.proofs.Common.{◌≡◌, ◌≤◌, ◌<◌, ℕ, ◌+◌, ◌∙◌, ◌⊎◌, inl, inr, refl, sym, ap, subst, arith}
use Rattle.std.proofs.lemmas.Bool.{lt-ltb, le-ltb, cases_lt}
use Rattle.std.specs.Prelude.{if◌then◌else◌}
use Rattle.tdm_desk.specs.declared.calls.DeskFault.{DeskFault}
use Rattle.tdm_desk.specs.declared.calls.DeskFault.TheVariants.{Failed, NoMemory}
use Rattle.tdm_desk.specs.declared.slots.InSlot.{InSlot}
use Rattle.tdm_desk.specs.declared.slots.Place.{Place}
use Rattle.tdm_desk.specs.declared.slots.Place.TheVariants.{First, Second, Third}
use Rattle.tdm_desk.specs.declared.slots.Slots.{Slots}
use Rattle.tdm_desk.specs.Slots.{at, put, input_place}
use Rattle.tdm_desk.proofs.SlotLaws.{at-put}
use Rattle.tdm_desk.specs.Counts.{Counts, CountsFaults, CountsReadFault, CountsWriteFault, ReadingFailed, WritingFailed, Rose, one_more, last_count, read_counted, write_counted, read_faults, write_faults, with_read_faults, with_write_faults}

module _ {D : Type 0} {counts : D → Counts} {steady : D → Type 0} where
  -- of no call at all
  pub counts_nothing : (desk : D) → CountsFaults counts steady desk desk
  counts_nothing desk = record {
    reading_kept = λ slot. omega arith;
    writing_kept = omega arith;
    steady_stays = λ is. is;
    steady_counts = λ is. refl;
  }

  -- of some calls and then some more
  pub counts_both : {before between after : D} → CountsFaults counts steady before between
      → CountsFaults counts steady between after → CountsFaults counts steady before after
  counts_both {before} {between} {after} first second = record {
    reading_kept = λ slot. omega (arith, first.reading_kept slot, second.reading_kept slot);
    writing_kept = omega (arith, first.writing_kept, second.writing_kept);
    steady_stays = λ is. second.steady_stays (first.steady_stays is);
    steady_counts = λ is. second.steady_counts (first.steady_stays is) ∙ first.steady_counts is;
  }

  -- a fault after some calls
  pub reading_failed_later : {slot : InSlot} {before between after : D}
      → CountsFaults counts steady before between → ReadingFailed counts steady slot between after
      → ReadingFailed counts steady slot before after
  reading_failed_later {slot} {before} {between} {after} first failed = record {
    rose = omega (arith, first.reading_kept slot, failed.rose);
    unsteady = λ is. failed.unsteady (first.steady_stays is);
  }

  -- a fault, and then some more calls
  pub reading_failed_before : {slot : InSlot} {before between after : D}
      → ReadingFailed counts steady slot before between → CountsFaults counts steady between after
      → ReadingFailed counts steady slot before after
  reading_failed_before {slot} {before} {between} {after} failed second = record {
    rose = omega (arith, second.reading_kept slot, failed.rose);
    unsteady = failed.unsteady;
  }

  pub writing_failed_later : {before between after : D} → CountsFaults counts steady before between
      → WritingFailed counts steady between after → WritingFailed counts steady before after
  writing_failed_later {before} {between} {after} first failed = record {
    rose = omega (arith, first.writing_kept, failed.rose);
    unsteady = λ is. failed.unsteady (first.steady_stays is);
  }

  pub writing_failed_before : {before between after : D} → WritingFailed counts steady before between
      → CountsFaults counts steady between after → WritingFailed counts steady before after
  writing_failed_before {before} {between} {after} failed second = record {
    rose = omega (arith, second.writing_kept, failed.rose);
    unsteady = failed.unsteady;
  }

  pub ruleset counting_faults = (
    counts_nothing,
    counts_both,
    reading_failed_later,
    reading_failed_before,
    writing_failed_later,
    writing_failed_before,
  )

module _ {D : Type 0} (counts : D → Counts) (before between after : D) where
  -- calls that left every count, and then a fault of an input
  pub read_fault_later : (slot : InSlot) (fault : DeskFault) → counts between ≡ counts before
      → CountsReadFault counts slot fault between after → CountsReadFault counts slot fault before after
  read_fault_later slot NoMemory first own = own ∙ first
  read_fault_later slot Failed first own = own ∙ ap (read_counted slot) first

  -- calls that left every count, and then a fault of what is written or said
  pub write_fault_later : (fault : DeskFault) → counts between ≡ counts before
      → CountsWriteFault counts fault between after → CountsWriteFault counts fault before after
  write_fault_later NoMemory first own = own ∙ first
  write_fault_later Failed first own = own ∙ ap write_counted first

-- ---- a fault that was counted

-- where one number grew, none fell
other_kept : (place other : Place) (raised : ℕ) (old new : Slots ℕ) → new ≡ put place raised old
    → at place old ≤ raised → at other old ≤ at other new
unfolding at put
other_kept place other raised old new is more =
    subst (λ s. at other old ≤ at other s) (sym is) (by place other more)
  where
    by : (p q : Place) → at p old ≤ raised → at q old ≤ at q (put p raised old)
    by First First h = h
    by First Second h = omega arith
    by First Third h = omega arith
    by Second First h = omega arith
    by Second Second h = h
    by Second Third h = omega arith
    by Third First h = omega arith
    by Third Second h = omega arith
    by Third Third h = h

-- one more where there is room, or the same where a count stops
pub one-more-below : (n : ℕ) → n < last_count → one_more n ≡ n + 1
unfolding one_more
one-more-below n h = ap (λ b. if b then n + 1 else n) (lt-ltb n last_count h)

pub one-more-at-last : (n : ℕ) → last_count ≤ n → one_more n ≡ n
unfolding one_more
one-more-at-last n h = ap (λ b. if b then n + 1 else n) (le-ltb n last_count h)

one-more-kept : (n : ℕ) → n ≤ one_more n
one-more-kept n = by (cases_lt n last_count)
  where
    by : (n < last_count) ⊎ (last_count ≤ n) → n ≤ one_more n
    by (inl h) = omega (arith, one-more-below n h)
    by (inr h) = omega (arith, one-more-at-last n h)

one-more-rose : (n : ℕ) → Rose n (one_more n)
one-more-rose n = by (cases_lt n last_count)
  where
    by : (n < last_count) ⊎ (last_count ≤ n) → Rose n (one_more n)
    by (inl h) = omega (arith, one-more-below n h)
    by (inr h) = omega (arith, one-more-at-last n h, h)

-- one more in the place of an input
pub counts-read : (slot : InSlot) (place : Place) (raised : ℕ) (reading later : Slots ℕ) (writing : ℕ)
    (old : Counts) → place ≡ input_place slot
    → later ≡ put place raised reading → record { reading = reading; writing = writing } ≡ old
    → raised ≡ one_more (at place reading)
    → record { reading = later; writing = writing } ≡ read_counted slot old
unfolding read_counted read_faults with_read_faults
counts-read slot place raised reading later writing old here is was more =
    let there : later ≡ put (input_place slot) (one_more (at (input_place slot) reading)) reading =
    is ∙ ap (λ n. put place n reading) more ∙ ap (λ p. put p (one_more (at p reading)) reading) here in
    ap (λ (r : Slots ℕ). record { reading = r; writing = writing }) there
    ∙ ap (λ (c : Counts). record c {
      reading =
          put (input_place slot) (one_more (at (input_place slot) c.reading)) c.reading;
    }) was

-- one more fault of what is written or said
pub counts-write : (raised : ℕ) (reading : Slots ℕ) (writing : ℕ) (old : Counts)
    → record { reading = reading; writing = writing } ≡ old
    → raised ≡ one_more writing → record { reading = reading; writing = raised } ≡ write_counted old
unfolding write_counted write_faults with_write_faults
counts-write raised reading writing old was more =
    ap (λ n. record { reading = reading; writing = n }) more
    ∙ ap (λ (c : Counts). record c { writing = one_more c.writing }) was

-- what the counts are after a fault
read-faults-after : (slot : InSlot) (before after : Counts) → after ≡ read_counted slot before
    → read_faults slot after ≡ one_more (read_faults slot before)
unfolding read_counted read_faults with_read_faults
read-faults-after slot before after is = ap (λ (c : Counts). at (input_place slot) c.reading) is
    ∙ at-put (input_place slot) (one_more (at (input_place slot) before.reading)) before.reading

write-faults-after : (before after : Counts) → after ≡ write_counted before
    → write_faults after ≡ one_more (write_faults before)
unfolding write_counted write_faults with_write_faults
write-faults-after before after is = ap (λ (c : Counts). c.writing) is

module _ {D : Type 0} (counts : D → Counts) (steady : D → Type 0) (before after : D) (unsteady : steady before
    → ⊥) where
  pub after_read_fault : (slot : InSlot) → counts after ≡ read_counted slot (counts before)
      → CountsFaults counts steady before after
  unfolding read_counted read_faults write_faults with_read_faults
  after_read_fault slot counted = record {
    reading_kept = λ other. other_kept (input_place slot) (input_place other)
        (one_more (at (input_place slot) (counts before).reading)) (counts before).reading
        (counts after).reading
        (ap (λ (c : Counts). c.reading) counted)
        (one-more-kept (at (input_place slot) (counts before).reading));
    writing_kept = let e = ap (λ (c : Counts). c.writing) counted in omega (arith, e);
    steady_stays = λ is. absurd (unsteady is);
    steady_counts = λ is. absurd (unsteady is);
  }

  pub read_fault_failed : (slot : InSlot) → counts after ≡ read_counted slot (counts before)
      → ReadingFailed counts steady slot before after
  read_fault_failed slot counted = record {
    rose = subst (λ n. Rose (read_faults slot (counts before)) n)
        (sym (read-faults-after slot (counts before) (counts after) counted))
        (one-more-rose (read_faults slot (counts before)));
    unsteady = unsteady;
  }

  pub after_write_fault : counts after ≡ write_counted (counts before)
      → CountsFaults counts steady before after
  unfolding write_counted read_faults write_faults with_write_faults
  after_write_fault counted = record {
    reading_kept = λ slot. let e = ap (λ (c : Counts). at (input_place slot) c.reading) counted in
        omega (arith, e);
    writing_kept = let e = ap (λ (c : Counts). c.writing) counted in
        omega (arith, e, one-more-kept (counts before).writing);
    steady_stays = λ is. absurd (unsteady is);
    steady_counts = λ is. absurd (unsteady is);
  }

  pub write_fault_failed : counts after ≡ write_counted (counts before)
      → WritingFailed counts steady before after
  write_fault_failed counted = record {
    rose = subst (λ n. Rose (write_faults (counts before)) n)
        (sym (write-faults-after (counts before) (counts after) counted))
        (one-more-rose (write_faults (counts before)));
    unsteady = unsteady;
  }
