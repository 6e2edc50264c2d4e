-- one FPGA after another is reached
use Rattle.std.proofs.Common.{◌≡◌, ◌≢◌, ℕ, ◌+◌, ◌<◌, ◌≤◌, ◌⊎◌, Bool, true, false, cond, List, [], ◌∷◌, ◌++◌, length, get_or, take, map, sym, ap, ◌∙◌, subst, refl, inl, inr, ⊎_elim, arith}
use Rattle.std.specs.Prelude.{All, Contains, count_by, filter, slice_set, slice_index, ◌==◌}
use Rattle.std.proofs.lemmas.Bool.{eqb-true, eqb-false, eq-eqb, ne_eqb, cases_eq, cases_lt, cond-true, cond-false}
use Rattle.std.proofs.lemmas.List.{length-set, length-take, length_push, get_or-set_same, get_or-set_other, set-get_or, set_past, take-append-le, take_all, take_more, map_push}
use Rattle.std.proofs.lemmas.List.Elements.{All-push, All-weaker, All-set, Contains-push, Contains-append_left, Contains-get_or}
use Rattle.std.proofs.lemmas.List.Sums.{sum_by-set, length-filter}
use Rattle.solution_eval.specs.declared.flood.Step.{Step}
use Rattle.solution_eval.specs.Flood.{ListsMarked, Reaches}
use Rattle.solution_eval.proofs.Filtered.{filter_none}

-- what bears the mark keeps it when another gets it
set_keeps : (marks : List ℕ) (f v mark : ℕ) → get_or marks v 0 ≡ mark → get_or (slice_set marks f mark) v 0
    ≡ mark
set_keeps marks f v mark is = elim (cases_eq v f) [
  | inl same ↦ elim (cases_lt f (length marks)) [
    | inl inside ↦ subst (λ w. get_or (slice_set marks f mark) w 0 ≡ mark) (sym same)
        (get_or-set_same marks f mark 0 inside)
    | inr past ↦ ap (λ ms. get_or ms v 0) (set_past marks f mark past) ∙ is
  ]
  | inr other ↦ get_or-set_other marks f v mark 0 other ∙ is
]

-- what bears the mark after another got it is that one or bore it before
set_cases : (marks : List ℕ) (f v mark : ℕ) → get_or (slice_set marks f mark) v 0 ≡ mark
    → (v ≡ f) ⊎ (get_or marks v 0 ≡ mark)
set_cases marks f v mark is = elim (cases_eq v f) [
  | inl same ↦ inl same
  | inr other ↦ inr (sym (get_or-set_other marks f v mark 0 other) ∙ is)
]

-- a further FPGA gets the mark and stands last in the queue
lists_more : (mark f : ℕ) (marks queue : List ℕ) → f < length marks → get_or marks f 0 ≢ mark
    → ListsMarked mark marks queue → ListsMarked mark (slice_set marks f mark) (queue ++ f ∷ [])
lists_more mark f marks queue inside unmarked lists = record {
  highest = All-set (λ m. m ≤ mark) marks f mark (omega arith) lists.highest;
  marked = All-push (λ v. (v < length (slice_set marks f mark))
      × (slice_index (slice_set marks f mark) v ≡ mark)) queue f
      (All-weaker (λ v. (v < length marks) × (slice_index marks v ≡ mark))
      (λ v. (v < length (slice_set marks f mark)) × (slice_index (slice_set marks f mark) v ≡ mark))
      (λ v was. (omega (arith, was.0, length-set marks f mark), set_keeps marks f v mark was.1)) queue
      lists.marked)
      (omega (arith, length-set marks f mark), get_or-set_same marks f mark 0 inside);
  listed = λ v there is. ⊎_elim
      (λ same. subst (λ w. Contains (queue ++ f ∷ []) w) (sym same) (Contains-push queue f))
      (λ was. Contains-append_left queue (f ∷ []) v
      (lists.listed v (omega (arith, length-set marks f mark)) was))
      (set_cases marks f v mark is);
  count =
      let counted : count_by (λ m. m == mark) (slice_set marks f mark) + cond {A =
      ℕ} (get_or marks f 0 == mark) 1 0 ≡ count_by (λ m. m == mark) marks + cond {A =
      ℕ} (mark == mark) 1 0 =
      sum_by-set (λ m. cond (m == mark) 1 0) marks f mark 0 inside in
      let here : cond {A = ℕ} (mark == mark) 1 0 ≡ 1 = cond-true (mark == mark) 1 0 (eq-eqb mark mark refl) in
      let before : cond {A = ℕ} (get_or marks f 0 == mark) 1 0 ≡ 0 =
      cond-false (get_or marks f 0 == mark) 1 0 (ne_eqb (get_or marks f 0) mark unmarked) in
      omega (arith, length_push queue f, lists.count);
}

-- a new mark is borne by none
lists_none : (mark : ℕ) (marks : List ℕ) → All (λ m. m < mark) marks → ListsMarked mark marks []
lists_none mark marks new = record {
  highest = All-weaker (λ m. m < mark) (λ m. m ≤ mark) (λ m below. omega arith) marks new;
  marked = λ k d inside. absurd (omega arith);
  listed = λ v there is. let below : get_or marks v 0 < mark = new v 0 there in absurd (omega arith);
  count =
      let none : filter (λ m. m == mark) marks ≡ [] =
      filter_none (λ m. m == mark) marks (All-weaker (λ m. m < mark) (λ m. (m == mark) ≡ false)
      (λ m below. ne_eqb m mark (λ same. omega arith)) marks new) in
      sym (ap length none) ∙ length-filter (λ m. m == mark) marks;
}

-- the source alone bears the new mark
pub start_lists : (mark source : ℕ) (marks queue new_marks new_queue : List ℕ) → source < length marks
    → All (λ m. m < mark) marks → queue ≡ [] → new_marks ≡ slice_set marks source mark
    → new_queue ≡ cond (get_or marks source 0 == mark) queue (queue ++ source ∷ [])
    → ListsMarked mark new_marks new_queue × (new_queue ≡ source ∷ [])
start_lists mark source marks queue new_marks new_queue inside new empty is_marks is_queue =
    let unmarked : get_or marks source 0 ≢ mark = λ same. let below : get_or marks source 0 < mark =
    new source 0 inside in omega arith in
    let pushed : new_queue ≡ source ∷ [] = is_queue
    ∙ (cond-false (get_or marks source 0 == mark) queue (queue ++ source ∷ [])
    (ne_eqb (get_or marks source 0) mark unmarked) ∙ ap (λ q. q ++ source ∷ []) empty) in
    let lists : ListsMarked mark (slice_set marks source mark) (source ∷ []) =
    lists_more mark source marks [] inside unmarked (lists_none mark marks new) in (
      subst (λ ms. ListsMarked mark ms new_queue) (sym is_marks)
          (subst (λ q. ListsMarked mark (slice_set marks source mark) q) (sym pushed) lists),
      pushed,
    )

-- nothing is reached at first
pub reaches_none : (mark : ℕ) (marks queue : List ℕ) → ListsMarked mark marks queue
    → Reaches [] mark marks queue marks queue
reaches_none mark marks queue lists = record {
  lists = lists;
  same_size = refl;
  kept = λ v is. is;
  reached = λ k d inside. absurd (omega arith);
  first = take_all (length queue) queue (omega arith);
  only = λ k d inside. inl (Contains-get_or queue k d inside);
}

-- the queue only grew
pub queue_grew : (steps : List Step) (mark : ℕ) (marks queue new_marks new_queue : List ℕ)
    → Reaches steps mark marks queue new_marks new_queue → length queue ≤ length new_queue
queue_grew steps mark marks queue new_marks new_queue reaches =
    omega (arith, ap length reaches.first, length-take (length queue) new_queue)

-- what was in the queue or led to, still is with one step more
only_more : (steps : List Step) (s : Step) (queue : List ℕ) (w : ℕ) → Contains queue w
    ⊎ Contains (map (λ (x : Step). x.to) steps) w → Contains queue w
    ⊎ Contains (map (λ (x : Step). x.to) (steps ++ s ∷ [])) w
only_more steps s queue w was = ⊎_elim (λ listed. inl listed)
    (λ led. inr (subst (λ ws. Contains ws w) (sym (map_push (λ (x : Step). x.to) steps s))
    (Contains-append_left (map (λ (x : Step). x.to) steps) (s.to ∷ []) w led)))
    was

-- one step more leads to an FPGA that bears the mark already
reaches_marked : (steps : List Step) (s : Step) (mark : ℕ) (marks queue new_marks new_queue : List ℕ)
    → get_or new_marks s.to 0 ≡ mark → Reaches steps mark marks queue new_marks new_queue
    → Reaches (steps ++ s ∷ []) mark marks queue new_marks new_queue
reaches_marked steps s mark marks queue new_marks new_queue is reaches = record {
  lists = reaches.lists;
  same_size = reaches.same_size;
  kept = reaches.kept;
  reached = All-push (λ (x : Step). slice_index new_marks x.to ≡ mark) steps s reaches.reached is;
  first = reaches.first;
  only = All-weaker (λ w. Contains queue w ⊎ Contains (map (λ (x : Step). x.to) steps) w)
      (λ w. Contains queue w ⊎ Contains (map (λ (x : Step). x.to) (steps ++ s ∷ [])) w)
      (λ w was. only_more steps s queue w was) new_queue reaches.only;
}

-- one step more leads to a further FPGA
reaches_further : (steps : List Step) (s : Step) (mark : ℕ) (marks queue new_marks new_queue : List ℕ)
    → s.to < length new_marks → get_or new_marks s.to 0 ≢ mark
    → Reaches steps mark marks queue new_marks new_queue
    → Reaches (steps ++ s ∷ []) mark marks queue (slice_set new_marks s.to mark) (new_queue ++ s.to ∷ [])
reaches_further steps s mark marks queue new_marks new_queue inside unmarked reaches = record {
  lists = lists_more mark s.to new_marks new_queue inside unmarked reaches.lists;
  same_size = length-set new_marks s.to mark ∙ reaches.same_size;
  kept = λ v is. set_keeps new_marks s.to v mark (reaches.kept v is);
  reached = All-push (λ (x : Step). slice_index (slice_set new_marks s.to mark) x.to ≡ mark) steps s
      (All-weaker (λ (x : Step). slice_index new_marks x.to ≡ mark)
      (λ (x : Step). slice_index (slice_set new_marks s.to mark) x.to ≡ mark)
      (λ x was. set_keeps new_marks s.to x.to mark was) steps reaches.reached)
      (get_or-set_same new_marks s.to mark 0 inside);
  first = take-append-le (length queue) new_queue (s.to ∷ [])
      (queue_grew steps mark marks queue new_marks new_queue reaches) ∙ reaches.first;
  only = All-push (λ w. Contains queue w ⊎ Contains (map (λ (x : Step). x.to) (steps ++ s ∷ [])) w) new_queue
      s.to
      (All-weaker (λ w. Contains queue w ⊎ Contains (map (λ (x : Step). x.to) steps) w) (λ w. Contains queue w
      ⊎ Contains (map (λ (x : Step). x.to) (steps ++ s ∷ [])) w)
      (λ w was. only_more steps s queue w was) new_queue reaches.only)
      (inr (subst (λ ws. Contains ws s.to) (sym (map_push (λ (x : Step). x.to) steps s))
      (Contains-push (map (λ (x : Step). x.to) steps) s.to)));
}

reaches_by : (steps : List Step) (s : Step) (mark : ℕ) (marks queue new_marks new_queue : List ℕ) (b : Bool)
    → (get_or new_marks s.to 0 == mark) ≡ b → s.to < length new_marks
    → Reaches steps mark marks queue new_marks new_queue
    → Reaches (steps ++ s ∷ []) mark marks queue (slice_set new_marks s.to mark)
    (cond b new_queue (new_queue ++ s.to ∷ []))
reaches_by steps s mark marks queue new_marks new_queue true is inside reaches =
    let marked : get_or new_marks s.to 0 ≡ mark = eqb-true (get_or new_marks s.to 0) mark is in
    let same : slice_set new_marks s.to mark ≡ new_marks = ap (slice_set new_marks s.to) (sym marked)
    ∙ set-get_or new_marks s.to 0 in
    subst (λ ms. Reaches (steps ++ s ∷ []) mark marks queue ms new_queue) (sym same)
    (reaches_marked steps s mark marks queue new_marks new_queue marked reaches)
reaches_by steps s mark marks queue new_marks new_queue false is inside reaches =
    reaches_further steps s mark marks queue new_marks new_queue inside
    (eqb-false (get_or new_marks s.to 0) mark is) reaches

-- one step more
pub reaches_more : (steps : List Step) (s : Step) (mark : ℕ)
    (marks queue new_marks new_queue next_marks next_queue : List ℕ) → s.to < length new_marks
    → next_marks ≡ slice_set new_marks s.to mark
    → next_queue ≡ cond (get_or new_marks s.to 0 == mark) new_queue (new_queue ++ s.to ∷ [])
    → Reaches steps mark marks queue new_marks new_queue
    → Reaches (steps ++ s ∷ []) mark marks queue next_marks next_queue
reaches_more steps s mark marks queue new_marks new_queue next_marks next_queue inside is_marks is_queue
    reaches =
    subst (λ ms. Reaches (steps ++ s ∷ []) mark marks queue ms next_queue) (sym is_marks)
    (subst (λ q. Reaches (steps ++ s ∷ []) mark marks queue (slice_set new_marks s.to mark) q) (sym is_queue)
    (reaches_by steps s mark marks queue new_marks new_queue (get_or new_marks s.to 0 == mark) refl inside
    reaches))

-- the step at i more
pub reaches_next : (steps : List Step) (i : ℕ) (d : Step) (mark : ℕ)
    (marks queue new_marks new_queue next_marks next_queue : List ℕ) → i < length steps
    → All (λ (s : Step). s.to < length marks) steps
    → next_marks ≡ slice_set new_marks (get_or steps i d).to mark
    → next_queue ≡ cond (get_or new_marks (get_or steps i d).to 0 == mark) new_queue
    (new_queue ++ (get_or steps i d).to ∷ []) → Reaches (take i steps) mark marks queue new_marks new_queue
    → Reaches (take (i + 1) steps) mark marks queue next_marks next_queue
reaches_next steps i d mark marks queue new_marks new_queue next_marks next_queue inside there is_marks
    is_queue reaches =
    subst (λ xs. Reaches xs mark marks queue next_marks next_queue) (sym (take_more steps i d inside))
    (reaches_more (take i steps) (get_or steps i d) mark marks queue new_marks new_queue next_marks next_queue
    (omega (arith, there i d inside, reaches.same_size)) is_marks is_queue reaches)
