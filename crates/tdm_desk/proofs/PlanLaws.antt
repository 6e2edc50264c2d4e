-- What is known of a plan of failures from call to call.
use Rattle.std.proofs.Common.{◌≡◌, ◌≤◌, ◌-◌, min, ℕ, suc, true, false, List, [], ◌∷◌, refl, sym, ap, ◌∙◌, subst, arith}
use Rattle.std.specs.Prelude.{◌==◌, ◌||◌, Some}
use Rattle.std.proofs.lemmas.List.Elements.{All-map}
use Rattle.tdm_desk.specs.declared.plan.Plan.{Plan}
use Rattle.tdm_desk.specs.declared.memory_desk.MemoryDesk.{MemoryDesk}
use Rattle.tdm_desk.specs.declared.slots.InSlot.{InSlot}
use Rattle.tdm_desk.specs.Counts.{Counts, CountsFaults, ReadingFailed, WritingFailed, read_counted, write_counted, read_faults, write_faults}
use Rattle.tdm_desk.proofs.CountLaws.{after_read_fault, after_write_fault, read_fault_failed, write_fault_failed}
use Rattle.tdm_desk.specs.Plan.{fails_next, after_call, after_reading, after_writing, AllCame, NoneToCome}

later : (call : ℕ) (calls : List ℕ) → AllCame (call ∷ calls) → AllCame calls
later call calls came = λ k d below. came (suc k) d (omega arith)

first : (call : ℕ) (calls : List ℕ) → AllCame (call ∷ calls) → call ≡ 0
first call calls came = came 0 0 (omega arith)

-- where all have come, the next call does not fail
none_fails : (calls : List ℕ) → AllCame calls → fails_next calls ≡ false
unfolding fails_next
none_fails [] came = refl
none_fails (call ∷ calls) came = ap (λ n. (n == 1) || fails_next calls) (first call calls came)
    ∙ none_fails calls (later call calls came)

-- and all have come after it
still_came : (calls : List ℕ) → AllCame calls → AllCame (after_call calls)
unfolding after_call
still_came calls came = All-map (λ call. call ≡ 0) (λ call. call - 1) calls (λ k d below. omega (
  arith,
  came k d below,
))

module _ {D : Type 0} (counts : D → Counts) (plan : D → Plan) (before after : D) where
  -- a call on an input that was not planned to fail
  pub reading_worked : plan after ≡ after_reading (plan before) → counts after ≡ counts before
      → CountsFaults counts (λ desk. NoneToCome (plan desk)) before after
  reading_worked nearer same = record {
    reading_kept = λ slot. let e = ap (read_faults slot) same in omega (arith, e);
    writing_kept = let e = ap write_faults same in omega (arith, e);
    steady_stays = λ none. record {
      reading = subst AllCame (sym (ap (λ (p : Plan). p.reading) nearer)) (still_came _ none.reading);
      writing = subst AllCame (sym (ap (λ (p : Plan). p.writing) nearer)) none.writing;
    };
    steady_counts = λ none. same;
  }

  -- a call that writes or says and was not planned to fail
  pub writing_worked : plan after ≡ after_writing (plan before) → counts after ≡ counts before
      → CountsFaults counts (λ desk. NoneToCome (plan desk)) before after
  writing_worked nearer same = record {
    reading_kept = λ slot. let e = ap (read_faults slot) same in omega (arith, e);
    writing_kept = let e = ap write_faults same in omega (arith, e);
    steady_stays = λ none. record {
      reading = subst AllCame (sym (ap (λ (p : Plan). p.reading) nearer)) none.reading;
      writing = subst AllCame (sym (ap (λ (p : Plan). p.writing) nearer)) (still_came _ none.writing);
    };
    steady_counts = λ none. same;
  }

-- a failure that comes was still to come
pub reading_unsteady : (plan : Plan) → fails_next plan.reading ≡ true → NoneToCome plan → ⊥
reading_unsteady plan fails none = let e : true ≡ false = sym fails ∙ none_fails plan.reading none.reading in
    cc

pub writing_unsteady : (plan : Plan) → fails_next plan.writing ≡ true → NoneToCome plan → ⊥
writing_unsteady plan fails none = let e : true ≡ false = sym fails ∙ none_fails plan.writing none.writing in
    cc

-- what one call moves is within the bound that was planned
pub within_plan : (plan later known : Plan) (count bytes : ℕ) → later.most ≡ plan.most
    → count ≤ min later.most bytes → Some plan ≡ Some known → count ≤ known.most
within_plan plan later known count bytes most within is =
    let same : plan ≡ known = cc in
    let e = ap (λ (p : Plan). p.most) same in omega (arith, e, most, within)

-- ---- the calls of a desk in memory

module _ (before after : MemoryDesk) where
  pub reading_counted : (slot : InSlot) → fails_next before.plan.reading ≡ true
      → after.faults ≡ read_counted slot before.faults
      → CountsFaults (λ (d : MemoryDesk). d.faults) (λ (d : MemoryDesk). NoneToCome d.plan) before after
  reading_counted slot fails counted =
      after_read_fault (λ (d : MemoryDesk). d.faults) (λ (d : MemoryDesk). NoneToCome d.plan) before after
      (reading_unsteady before.plan fails) slot counted

  pub reading_failed : (slot : InSlot) → fails_next before.plan.reading ≡ true
      → after.faults ≡ read_counted slot before.faults
      → ReadingFailed (λ (d : MemoryDesk). d.faults) (λ (d : MemoryDesk). NoneToCome d.plan) slot before after
  reading_failed slot fails counted =
      read_fault_failed (λ (d : MemoryDesk). d.faults) (λ (d : MemoryDesk). NoneToCome d.plan) before after
      (reading_unsteady before.plan fails) slot counted

  pub writing_counted : fails_next before.plan.writing ≡ true → after.faults ≡ write_counted before.faults
      → CountsFaults (λ (d : MemoryDesk). d.faults) (λ (d : MemoryDesk). NoneToCome d.plan) before after
  writing_counted fails counted =
      after_write_fault (λ (d : MemoryDesk). d.faults) (λ (d : MemoryDesk). NoneToCome d.plan) before after
      (writing_unsteady before.plan fails) counted

  pub writing_failed : fails_next before.plan.writing ≡ true → after.faults ≡ write_counted before.faults
      → WritingFailed (λ (d : MemoryDesk). d.faults) (λ (d : MemoryDesk). NoneToCome d.plan) before after
  writing_failed fails counted =
      write_fault_failed (λ (d : MemoryDesk). d.faults) (λ (d : MemoryDesk). NoneToCome d.plan) before after
      (writing_unsteady before.plan fails) counted

  pub reading_worked_in_memory : after.plan ≡ after_reading before.plan → after.faults ≡ before.faults
      → CountsFaults (λ (d : MemoryDesk). d.faults) (λ (d : MemoryDesk). NoneToCome d.plan) before after
  reading_worked_in_memory nearer same =
      reading_worked (λ (d : MemoryDesk). d.faults) (λ (d : MemoryDesk). d.plan) before after nearer same

  pub writing_worked_in_memory : after.plan ≡ after_writing before.plan → after.faults ≡ before.faults
      → CountsFaults (λ (d : MemoryDesk). d.faults) (λ (d : MemoryDesk). NoneToCome d.plan) before after
  writing_worked_in_memory nearer same =
      writing_worked (λ (d : MemoryDesk). d.faults) (λ (d : MemoryDesk). d.plan) before after nearer same
