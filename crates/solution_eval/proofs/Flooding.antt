-- what the flood from a source keeps, and what it comes to
use Rattle.std.proofs.Common.{◌≡◌, ℕ, ◌+◌, ◌<◌, ◌≤◌, ◌⊎◌, Bool, List, [], ◌∷◌, ◌++◌, length, get_or, map, sym, ap, ◌∙◌, subst, refl, inl, inr, ⊎_elim, arith}
use Rattle.std.specs.Prelude.{All, Contains, IsTrue, filter, slice_index, ◌==◌, ◌↔◌}
use Rattle.std.proofs.lemmas.Bool.{eqb-true, eq-eqb, cases_lt}
use Rattle.std.proofs.lemmas.List.{get_or-take, get_or_default, get_or_read, get_or-map, length-map}
use Rattle.std.proofs.lemmas.List.Elements.{All-weaker, All-contains, All-filter, Contains-get_or, filter_passes}
use Rattle.std.proofs.lemmas.List.Sums.{count_by-le-length}
use Rattle.solution_eval.specs.declared.flood.Step.{Step}
use Rattle.solution_eval.specs.Flood.{IsPath, HasPath, ListsMarked, Reaches}
use Rattle.solution_eval.proofs.Filtered.{Contains-filter, Contains-from_filter}
use Rattle.solution_eval.proofs.Reaching.{queue_grew}

-- a path and one step more
path_more : (steps : List Step) (a : ℕ) (path : List ℕ) (b c : ℕ) → IsPath steps a path b
    → Contains steps (record { from = b; to = c }) → IsPath steps a (path ++ c ∷ []) c
path_more steps a [] b c path next =
    (subst (λ x. Contains steps (record { from = x; to = c })) (sym path) next, refl)
path_more steps a (x ∷ xs) b c path next = (path.0, path_more steps x xs b c path.1 next)

leads_more : (steps : List Step) (a b c : ℕ) → HasPath steps a b
    → Contains steps (record { from = b; to = c })
    → HasPath steps a c
leads_more steps a b c leads next = (leads.0 ++ c ∷ [], path_more steps a leads.0 b c leads.1 next)

-- after looking at so many of the queue: all of the queue is led to, and the steps from what was looked at
-- lead to the mark
pub record Flooding (steps : List Step) (mark source size next : ℕ) (marks queue : List ℕ) : Type 0 where
  pub lists : ListsMarked mark marks queue
  pub room : length queue ≤ size
  pub same_size : length marks ≡ size
  pub source_marked : get_or marks source 0 ≡ mark
  pub led : All (HasPath steps source) queue
  pub behind : next ≤ length queue
  pub closed : (k w : ℕ) → k < next → Contains steps (record { from = get_or queue k 0; to = w })
      → get_or marks w 0 ≡ mark

-- the queue is no longer than the marks
queue_fits : (mark : ℕ) (marks queue : List ℕ) → ListsMarked mark marks queue → length queue ≤ length marks
queue_fits mark marks queue lists = omega (arith, lists.count, count_by-le-length (λ m. m == mark) marks)

-- at first the source alone is in the queue
pub flooding_start : (steps : List Step) (mark : ℕ) (marks queue : List ℕ) → length queue ≡ 1
    → ListsMarked mark marks queue → Flooding steps mark (get_or queue 0 0) (length marks) 0 marks queue
flooding_start steps mark marks queue one lists = record {
  lists = lists;
  room = queue_fits mark marks queue lists;
  same_size = refl;
  source_marked = (lists.marked 0 0 (omega arith)).1;
  led = λ k d inside.
      let first : k ≡ 0 = omega arith in
      ([], get_or_default queue 0 0 d (omega arith) ∙ ap (λ i. get_or queue i d) (sym first));
  behind = omega arith;
  closed = λ k w before. absurd (omega arith);
}

-- a step is known by its two FPGAs
step_is : (s : Step) (a b : ℕ) → s.from ≡ a → s.to ≡ b → s ≡ record { from = a; to = b }
step_is s a b from_is to_is =
    let leaving : ℕ → Step = λ x. record { from = x; to = s.to } in
    let arriving : ℕ → Step = λ y. record { from = a; to = y } in
    ap leaving from_is ∙ ap arriving to_is

-- what the steps of one FPGA lead to is led to
led_further : (steps : List Step) (source fpga w : ℕ) → HasPath steps source fpga
    → Contains (map (λ (s : Step). s.to) (filter (λ s. s.from == fpga) steps)) w → HasPath steps source w
led_further steps source fpga w leads (k, inside, is) =
    let none : Step = record { from = 0; to = 0 } in
    let in_row : k < length (filter (λ s. s.from == fpga) steps) =
    omega (arith, length-map (filter (λ s. s.from == fpga) steps) (λ (s : Step). s.to)) in
    let to_is : (get_or (filter (λ s. s.from == fpga) steps) k none).to ≡ w =
    sym (get_or-map (λ (s : Step). s.to) (filter (λ s. s.from == fpga) steps) k none w in_row) ∙ is in
    let from_is : (get_or (filter (λ s. s.from == fpga) steps) k none).from ≡ fpga =
    eqb-true (get_or (filter (λ s. s.from == fpga) steps) k none).from fpga
    (filter_passes (λ s. s.from == fpga) steps k none in_row) in
    let there : Contains steps (get_or (filter (λ s. s.from == fpga) steps) k none) =
    Contains-from_filter (λ s. s.from == fpga) steps (get_or (filter (λ s. s.from == fpga) steps) k none)
    (Contains-get_or (filter (λ s. s.from == fpga) steps) k none in_row) in
    let same : get_or (filter (λ s. s.from == fpga) steps) k none ≡ record { from = fpga; to = w } =
    step_is (get_or (filter (λ s. s.from == fpga) steps) k none) fpga w from_is to_is in
    leads_more steps source fpga w leads (subst (λ s. Contains steps s) same there)

-- one FPGA of the queue more is looked at
pub flooding_more : (steps : List Step) (mark source size next : ℕ)
    (marks queue new_marks new_queue : List ℕ) → next < length queue
    → Flooding steps mark source size next marks queue
    → Reaches (filter (λ s. s.from == get_or queue next 0) steps) mark marks queue new_marks new_queue
    → Flooding steps mark source size (next + 1) new_marks new_queue
flooding_more steps mark source size next marks queue new_marks new_queue inside was reaches =
    let grew : length queue ≤ length new_queue =
    queue_grew (filter (λ s. s.from == get_or queue next 0) steps) mark marks queue new_marks new_queue
    reaches in
    let kept_places : (k : ℕ) → k < length queue → get_or new_queue k 0 ≡ get_or queue k 0 =
    λ k h. sym (get_or-take (length queue) new_queue k 0 h) ∙ ap (λ q. get_or q k 0) reaches.first in
    record {
      lists = reaches.lists;
      room = omega (
        arith,
        queue_fits mark new_marks new_queue reaches.lists,
        reaches.same_size,
        was.same_size,
      );
      same_size = reaches.same_size ∙ was.same_size;
      source_marked = reaches.kept source was.source_marked;
      led = All-weaker (λ w. Contains queue w
          ⊎ Contains (map (λ (s : Step). s.to) (filter (λ s. s.from == get_or queue next 0) steps)) w)
          (HasPath steps source)
          (λ w known. ⊎_elim (λ listed. All-contains (HasPath steps source) queue w was.led listed)
          (λ further. led_further steps source (get_or queue next 0) w (was.led next 0 inside) further) known)
          new_queue reaches.only;
      behind = omega arith;
      closed = λ k w before there. elim (cases_lt k next) [
        | inl earlier ↦ reaches.kept w
            (was.closed k w earlier (subst (λ v. Contains steps (record { from = v; to = w }))
            (kept_places k (omega arith)) there))
        | inr now ↦
            let same : k ≡ next = omega arith in
            let from_here : Contains steps (record { from = get_or queue next 0; to = w }) =
            subst (λ v. Contains steps (record { from = v; to = w })) (kept_places k (omega arith)
            ∙ ap (λ i. get_or queue i 0) same) there in
            All-contains (λ (s : Step). slice_index new_marks s.to ≡ mark)
            (filter (λ s. s.from == get_or queue next 0) steps) (record {
              from = get_or queue next 0;
              to = w;
            }) reaches.reached
            (Contains-filter (λ s. s.from == get_or queue next 0) steps (record {
              from = get_or queue next 0;
              to = w;
            }) (eq-eqb (get_or queue next 0) (get_or queue next 0) refl) from_here)
      ];
    }

-- after the whole queue no step leads out of the mark
pub flood_closed : (steps : List Step) (mark source size next : ℕ) (marks queue : List ℕ)
    → length queue ≤ next → Flooding steps mark source size next marks queue → (v w : ℕ) → v < size
    → get_or marks v 0 ≡ mark → Contains steps (record { from = v; to = w }) → get_or marks w 0 ≡ mark
flood_closed steps mark source size next marks queue done flood v w inside marked there =
    let listed : Contains queue v = flood.lists.listed v (omega (arith, flood.same_size)) marked in
    let at : get_or queue listed.0 0 ≡ v = get_or_default queue listed.0 0 v listed.1 ∙ listed.2 in
    flood.closed listed.0 w (omega (arith, listed.1))
    (subst (λ x. Contains steps (record { from = x; to = w })) (sym at) there)

-- the step of the loop, with what its calls say
pub flooding_next : (steps row : List Step) (mark source size next fpga : ℕ)
    (marks queue new_marks new_queue : List ℕ) → next < length queue → fpga ≡ get_or queue next fpga
    → row ≡ filter (λ s. s.from == fpga) steps → Flooding steps mark source size next marks queue
    → Reaches row mark marks queue new_marks new_queue
    → Flooding steps mark source size (next + 1) new_marks new_queue
flooding_next steps row mark source size next fpga marks queue new_marks new_queue inside is_fpga is_row was
    reaches =
    let here : fpga ≡ get_or queue next 0 = get_or_read queue next fpga inside is_fpga 0 in
    let row_here : row ≡ filter (λ s. s.from == get_or queue next 0) steps = is_row
    ∙ ap (λ (x : ℕ). filter (λ (s : Step). s.from == x) steps) here in
    flooding_more steps mark source size next marks queue new_marks new_queue inside was
    (subst (λ xs. Reaches xs mark marks queue new_marks new_queue) row_here reaches)

-- a row of the steps leads to what is there
pub row_there : (steps row : List Step) (fpga size now : ℕ) → row ≡ filter (λ s. s.from == fpga) steps
    → now ≡ size → All (λ (s : Step). s.to < size) steps → All (λ (s : Step). s.to < now) row
row_there steps row fpga size now is_row same there =
    subst (λ xs. All (λ (s : Step). s.to < now) xs) (sym is_row)
    (All-filter (λ s. s.from == fpga) (λ (s : Step). s.to < now) steps
    (subst (λ n. All (λ (s : Step). s.to < n) steps) (sym same) there))

-- a path does not leave what no step leaves
path_stays : (steps : List Step) (mark : ℕ) (marks : List ℕ) → All (λ (s : Step). s.to < length marks) steps
    → ((v w : ℕ) → v < length marks → get_or marks v 0 ≡ mark → Contains steps (record { from = v; to = w })
    → get_or marks w 0 ≡ mark) → (a : ℕ) (path : List ℕ) (b : ℕ) → a < length marks
    → get_or marks a 0 ≡ mark → IsPath steps a path b → get_or marks b 0 ≡ mark
path_stays steps mark marks there closed a [] b inside marked path =
    subst (λ v. get_or marks v 0 ≡ mark) path marked
path_stays steps mark marks there closed a (x ∷ xs) b inside marked path =
    let next_inside : x < length marks = All-contains (λ (s : Step). s.to < length marks) steps
    (record { from = a; to = x }) there path.0 in
    path_stays steps mark marks there closed x xs b next_inside (closed a x inside marked path.0) path.1

-- the marked FPGAs are those that the source leads to
pub marked_iff_led : (steps : List Step) (mark source : ℕ) (marks queue fpgas : List ℕ)
    → All (λ (s : Step). s.to < length marks) steps → All (λ f. f < length marks) fpgas
    → source < length marks → ListsMarked mark marks queue → get_or marks source 0 ≡ mark
    → All (HasPath steps source) queue → ((v w : ℕ) → v < length marks → get_or marks v 0 ≡ mark
    → Contains steps (record { from = v; to = w }) → get_or marks w 0 ≡ mark)
    → (All (λ f. slice_index marks f ≡ mark) fpgas ↔ All (HasPath steps source) fpgas)
marked_iff_led steps mark source marks queue fpgas there fpgas_there inside lists source_marked led closed = (
  λ marked. λ k d below. All-contains (HasPath steps source) queue (get_or fpgas k d) led
      (lists.listed (get_or fpgas k d) (fpgas_there k d below) (marked k d below)),
  λ leads. λ k d below. path_stays steps mark marks there closed source (leads k d below).0
      (get_or fpgas k d) inside source_marked (leads k d below).1,
)

-- the same, after the source alone stood in the queue
pub marked_iff_led_first : (r : Bool) (steps : List Step) (mark source size : ℕ)
    (started marks queue fpgas : List ℕ) → (IsTrue r ↔ All (λ f. slice_index marks f ≡ mark) fpgas)
    → started ≡ source ∷ [] → length marks ≡ size → All (λ (s : Step). s.to < size) steps
    → All (λ f. f < size) fpgas → source < size → ListsMarked mark marks queue
    → get_or marks (get_or started 0 0) 0 ≡ mark → All (HasPath steps (get_or started 0 0)) queue
    → ((v w : ℕ) → v < size → get_or marks v 0 ≡ mark → Contains steps (record { from = v; to = w })
    → get_or marks w 0 ≡ mark) → (IsTrue r ↔ All (HasPath steps source) fpgas)
marked_iff_led_first r steps mark source size started marks queue fpgas told one same there fpgas_there inside
    lists source_marked led closed =
    let at : get_or started 0 0 ≡ source = ap (λ q. get_or q 0 0) one in
    let iff : All (λ f. slice_index marks f ≡ mark) fpgas ↔ All (HasPath steps source) fpgas =
    marked_iff_led steps mark source marks queue fpgas
    (subst (λ n. All (λ (s : Step). s.to < n) steps) (sym same) there)
    (subst (λ n. All (λ f. f < n) fpgas) (sym same) fpgas_there)
    (omega arith) lists
    (subst (λ v. get_or marks v 0 ≡ mark) at source_marked)
    (subst (λ v. All (HasPath steps v) queue) at led)
    (λ v w below. closed v w (omega arith)) in
    (λ t. iff.0 (told.0 t), λ all. told.1 (iff.1 all))
