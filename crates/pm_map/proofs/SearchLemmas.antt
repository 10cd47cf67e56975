-- The search for the darts that the root reaches: the walk around a face, one step of the search, and what it ends with.
use Rattle.std.proofs.Common.{◌≡◌, ◌≢◌, ℕ, zero, suc, ◌+◌, ◌<◌, ◌≤◌, ◌%◌, ◌⊎◌, ◌&&◌, not, inl, inr, Bool, true, false, cond, eqb, nat_eq, List, [], ◌∷◌, ◌++◌, length, get_or, set, sum_by, refl, sym, ◌∙◌, ap, subst, arith, length-set, Contains}
use Rattle.std.proofs.lemmas.List.{get_or-set_same, get_or-set_other, length_push}
use Rattle.std.proofs.lemmas.List.Sums.{sum_by-set}
use Rattle.std.proofs.lemmas.Bool.{cases_eq, false≢true}
use Rattle.std.proofs.lemmas.List.Elements.{Contains-append_left, Contains-push, Contains-push_cases}
use Rattle.pm_perm.specs.Count.{count_below}
use Rattle.pm_perm.specs.Cycles.{repeated, leader, cycles, IsInCycle, IsLeastInCycle}
use Rattle.pm_perm.specs.Permutation.{IsPermutationBelow, IsPermutationList}
use Rattle.pm_perm.proofs.Counts.{count_below-same, count_below-without, count_below-bound, count_below-none}
use Rattle.pm_perm.proofs.Repeats.{repeated-inside}
use Rattle.pm_perm.proofs.LeaderMaps.{leader-map, leader_map-inside, leader_map-twice, leader-is_least}
use Rattle.pm_perm.proofs.SameCycle.{in_cycle-back, in_cycle-leader}
use Rattle.pm_map.specs.Structure.{Structure, IsStructure, IsClosedSet, face_next}
use Rattle.pm_map.specs.Rotation.{structure_of, twin}
use Rattle.pm_map.specs.steps.Marks.{IsMarked, AllMarked, NoneMarked, IsLeastUnmarked}
use Rattle.pm_map.specs.Reached.{IsReached, IsLeastUnreached}
use Rattle.pm_map.specs.steps.ReachAnswers.{IsReachedWhole}
use Rattle.pm_map.specs.steps.Search.{MarksFaces, IsSearch, work_left, WalksFace, MarksFace}
use Rattle.pm_map.specs.Rotation.{face_step}
use Rattle.pm_map.proofs.CarriedStructure.{face_permutes}
use Rattle.pm_map.proofs.TwinLemmas.{twin_stays}

-- the dart is marked, and waits, and wasn't marked before; nothing else changes
record MeetsDart (dart : ℕ) (marks : List Bool) (stack : List ℕ) (marks_after : List Bool) (stack_after : List ℕ) : Type 0 where
  marked : IsMarked marks_after dart
  kept : (e : ℕ) → IsMarked marks e → IsMarked marks_after e
  fresh : (e : ℕ) → IsMarked marks_after e → IsMarked marks e ⊎ ((e ≡ dart) × Contains stack_after e)
  stacked : (e : ℕ) → Contains stack e → Contains stack_after e
  only : (e : ℕ) → Contains stack_after e → Contains stack e ⊎ (e ≡ dart)
  work : work_left marks_after stack_after ≤ work_left marks stack

-- one dart more is marked and waits: there is less to do
work-more : (marks : List Bool) (stack : List ℕ) (dart : ℕ) → dart < length marks → get_or marks dart false ≡ false
    → work_left (set marks dart true) (stack ++ dart ∷ []) ≤ work_left marks stack
work-more marks stack dart within unmarked =
    let weight : Bool → ℕ = λ is_marked. cond is_marked 0 2 in
    let less : sum_by weight (set marks dart true) + weight (get_or marks dart false) ≡ sum_by weight marks + 0 = sum_by-set weight marks dart true false within in
    let two : weight (get_or marks dart false) ≡ 2 = ap weight unmarked in
    let more : length (stack ++ dart ∷ []) ≡ length stack + 1 = length_push stack dart in
    omega arith

-- a dart that isn't marked is met by a mark and a place on the stack
MeetsDart-new : (dart : ℕ) (marks : List Bool) (stack : List ℕ) → dart < length marks → get_or marks dart false ≡ false
    → MeetsDart dart marks stack (set marks dart true) (stack ++ dart ∷ [])
MeetsDart-new dart marks stack within unmarked =
    let here : IsMarked (set marks dart true) dart = get_or-set_same marks dart true false within in
    record {
      marked = here;
      kept = λ e h. elim (cases_eq e dart) [
        | inl same ↦ subst (λ x. IsMarked (set marks dart true) x) (sym same) here
        | inr other ↦ get_or-set_other marks dart e true false other ∙ h
      ];
      fresh = λ e h. elim (cases_eq e dart) [
        | inl same ↦ inr (same, subst (λ x. Contains (stack ++ dart ∷ []) x) (sym same) (Contains-push stack dart))
        | inr other ↦ inl (sym (get_or-set_other marks dart e true false other) ∙ h)
      ];
      stacked = λ e h. Contains-append_left stack (dart ∷ []) e h;
      only = λ e h. elim (Contains-push_cases stack dart e h) [ inl before ↦ inl before | inr last ↦ inr (sym last) ];
      work = work-more marks stack dart within unmarked;
    }

-- a walk begins
pub WalksFace-begins : (sigma : List ℕ) (start : ℕ) (marks : List Bool) (stack : List ℕ) → start < length sigma → WalksFace sigma start start marks stack marks stack
WalksFace-begins sigma start marks stack within = record {
  within = within;
  size = refl;
  around = record { steps = 0; leads = refl };
  begun = inr refl;
  kept = λ e h. h;
  fresh = λ e h. inl h;
  stacked = λ e h. h;
  only = λ e h. inl h;
  leads = λ e h. inl h;
  work = omega arith;
}

-- a walk goes on from a dart that isn't marked
pub WalksFace-step : (sigma : List ℕ) (start dart : ℕ) (marks : List Bool) (stack : List ℕ) (marks1 : List Bool) (stack1 : List ℕ)
    → length sigma % 2 ≡ 0 → IsPermutationList sigma → length marks ≡ length sigma → WalksFace sigma start dart marks stack marks1 stack1
    → get_or marks1 dart false ≡ false
    → WalksFace sigma start (face_step sigma dart) marks stack (set marks1 dart true) (stack1 ++ dart ∷ [])
WalksFace-step sigma start dart marks stack marks1 stack1 even turns same w unmarked =
    let marks2 = set marks1 dart true in
    let stack2 = stack1 ++ dart ∷ [] in
    let m : MeetsDart dart marks1 stack1 marks2 stack2 = MeetsDart-new dart marks1 stack1 (omega (arith, same, w.within, w.size)) unmarked in
    record {
      within = turns.stays (twin dart) (twin_stays (length sigma) dart even w.within);
      size = length-set marks1 dart true ∙ w.size;
      around = record { steps = suc w.around.steps; leads = ap (face_step sigma) w.around.leads };
      begun = inl (elim w.begun [ inl is ↦ m.kept start is | inr at ↦ subst (λ x. IsMarked marks2 x) (sym at) m.marked ]);
      kept = λ e is. m.kept e (w.kept e is);
      fresh = λ e is. elim (m.fresh e is) [
        | inl is1 ↦ elim (w.fresh e is1) [ inl before ↦ inl before | inr new ↦ inr (m.stacked e new.0, new.1) ]
        | inr here ↦ inr (here.1, subst (λ x. IsInCycle (face_step sigma) start x) (sym here.0) w.around)
      ];
      stacked = λ e st. m.stacked e (w.stacked e st);
      only = λ e st. elim (m.only e st) [
        | inl st1 ↦ elim (w.only e st1) [ inl before ↦ inl before | inr new ↦ inr (m.kept e new.0, new.1) ]
        | inr here ↦ inr (subst (λ x. IsMarked marks2 x) (sym here) m.marked, subst (λ x. IsInCycle (face_step sigma) start x) (sym here) w.around)
      ];
      leads = λ e is. elim (m.fresh e is) [
        | inl is1 ↦ elim (w.leads e is1) [
          | inl before ↦ inl before
          | inr onward ↦ inr (elim onward [ inl next ↦ inl (m.kept (face_step sigma e) next) | inr at ↦ inl (subst (λ x. IsMarked marks2 x) (sym at) m.marked) ])
        ]
        | inr here ↦ inr (inr (ap (face_step sigma) here.0))
      ];
      work = omega (arith, m.work, w.work);
    }

-- the first dart of a face that is marked is marked
pub MarksFace-start : (sigma : List ℕ) (start : ℕ) (marks : List Bool) (stack : List ℕ) (marks1 : List Bool) (stack1 : List ℕ)
    → MarksFace sigma start marks stack marks1 stack1 → IsMarked marks1 start
MarksFace-start sigma start marks stack marks1 stack1 m =
    elim m.walk.begun [ inl is ↦ is | inr at ↦ subst (λ x. IsMarked marks1 x) (sym at) m.ended ]

-- marks that hold with a number the next one hold with it what is met from it
marked_along : (n : ℕ) (f : ℕ → ℕ) (marks : List Bool) → IsPermutationBelow n f → ((d : ℕ) → d < n → IsMarked marks d → IsMarked marks (f d))
    → (d : ℕ) → d < n → IsMarked marks d → (steps : ℕ) → IsMarked marks (repeated f steps d)
marked_along n f marks p whole d h is zero = is
marked_along n f marks p whole d h is (suc steps) = whole (repeated f steps d) (repeated-inside f n p steps d h) (marked_along n f marks p whole d h is steps)

pub in_cycle-marked : (n : ℕ) (f : ℕ → ℕ) (marks : List Bool) → IsPermutationBelow n f → ((d : ℕ) → d < n → IsMarked marks d → IsMarked marks (f d))
    → (d e : ℕ) → d < n → IsMarked marks d → IsInCycle f d e → IsMarked marks e
in_cycle-marked n f marks p whole d e h is c = subst (λ x. IsMarked marks x) c.leads (marked_along n f marks p whole d h is c.steps)

in_cycle-below : (n : ℕ) (f : ℕ → ℕ) → IsPermutationBelow n f → (d e : ℕ) → d < n → IsInCycle f d e → e < n
in_cycle-below n f p d e h c = subst (λ x. x < n) c.leads (repeated-inside f n p c.steps d h)

-- where a dart is reached, its face is
reached_along : (s : Structure) → IsStructure s → (d : ℕ) → d < s.darts → IsReached s d → (steps : ℕ) → IsReached s (repeated (face_next s) steps d)
reached_along s structure d h is zero = is
reached_along s structure d h is (suc steps) = λ holds root closed. (
    let x : ℕ = repeated (face_next s) steps d in
    let below : x < s.darts = repeated-inside (face_next s) s.darts (face_permutes s structure) steps d h in
    closed.under_next (s.twin x) (structure.twin_stays x below) (closed.under_twin x below (reached_along s structure d h is steps holds root closed)))

-- a test that one number more passes counts one more
count_below-one_more : (P Q : ℕ → Bool) (a n : ℕ) → a < n → P a ≡ false → Q a ≡ true → ((k : ℕ) → k < n → k ≢ a → Q k ≡ P k) → count_below Q n ≡ count_below P n + 1
count_below-one_more P Q a n h before after other =
    let p : count_below P n ≡ count_below (λ k. P k && not (eqb k a)) n + cond (P a) 1 0 = count_below-without P a n h in
    let q : count_below Q n ≡ count_below (λ k. Q k && not (eqb k a)) n + cond (Q a) 1 0 = count_below-without Q a n h in
    let same : count_below (λ k. Q k && not (eqb k a)) n ≡ count_below (λ k. P k && not (eqb k a)) n =
    count_below-same (λ k. Q k && not (eqb k a)) (λ k. P k && not (eqb k a)) n (λ k hk. elim (cases_eq k a) [
      | inl e ↦ both_out (P k) (Q k) k a e
      | inr ne ↦ ap (λ b. b && not (eqb k a)) (other k hk ne)
    ]) in
    grown (count_below P n) (count_below Q n) _ _ (P a) (Q a) before after p q same where
      both_out : (b c : Bool) (k a : ℕ) → k ≡ a → (c && not (eqb k a)) ≡ (b && not (eqb k a))
      both_out b c k a e = grind arith

      grown : (p q v w : ℕ) (b c : Bool) → b ≡ false → c ≡ true → p ≡ v + cond b 1 0 → q ≡ w + cond c 1 0 → w ≡ v → q ≡ p + 1
      grown p q v w b c e e' h h' same = grind arith

-- the leaders that are marked: of a whole face that is marked in addition, one
leaders_more : (n : ℕ) (f : ℕ → ℕ) (marks marks1 : List Bool) (start : ℕ) → IsPermutationBelow n f → start < n
    → ((d : ℕ) → d < n → IsMarked marks d → IsMarked marks (f d)) → ((d : ℕ) → d < n → IsMarked marks1 d → IsMarked marks1 (f d))
    → get_or marks start false ≡ false → IsMarked marks1 start → ((d : ℕ) → IsMarked marks d → IsMarked marks1 d)
    → ((d : ℕ) → IsMarked marks1 d → IsMarked marks d ⊎ IsInCycle f start d)
    → count_below (λ d. get_or marks1 d false && eqb (leader n f d) d) n ≡ count_below (λ d. get_or marks d false && eqb (leader n f d) d) n + 1
leaders_more n f marks marks1 start p h whole whole1 unmarked is kept fresh =
    let led = leader-map n f p in
    let l : ℕ = leader n f start in
    let inside : l < n = leader_map-inside n f (leader n f) led start h in
    let own : leader n f l ≡ l = leader_map-twice n f (leader n f) led start h in
    let least : IsLeastInCycle f start l = leader-is_least n f p start h in
    let back : IsInCycle f l start = in_cycle-back n f p start l h least.met in
    let off : get_or marks l false ≡ false = not_true (get_or marks l false) (λ on. false≢true (sym unmarked ∙ in_cycle-marked n f marks p whole l start inside on back)) in
    let on : get_or marks1 l false ≡ true = in_cycle-marked n f marks1 p whole1 start l h is least.met in
    count_below-one_more (λ d. get_or marks d false && eqb (leader n f d) d) (λ d. get_or marks1 d false && eqb (leader n f d) d) l n inside
    (ap (λ b. b && eqb (leader n f l) l) off)
    (passes (get_or marks1 l false) (leader n f l) l on own)
    (λ k hk ne. elim (cases_eq (leader n f k) k) [
      | inl leads ↦ ap (λ b. b && eqb (leader n f k) k) (alike (get_or marks k false) (get_or marks1 k false) (kept k) (λ is1. elim (fresh k is1) [
        | inl before ↦ before
        | inr c ↦ absurd (ne (sym leads ∙ sym (in_cycle-leader n f p start k h c)))
      ]))
      | inr apart ↦ fails (get_or marks k false) (get_or marks1 k false) (leader n f k) k apart
    ]) where
      not_true : (b : Bool) → (b ≡ true → ⊥) → b ≡ false
      not_true true h = absurd (h refl)
      not_true false h = refl

      passes : (b : Bool) (x y : ℕ) → b ≡ true → x ≡ y → (b && eqb x y) ≡ true
      passes b x y e e' = grind arith

      fails : (b c : Bool) (x y : ℕ) → (x ≡ y → ⊥) → (c && eqb x y) ≡ (b && eqb x y)
      fails b c x y ne = grind arith

      alike : (b c : Bool) → (b ≡ true → c ≡ true) → (c ≡ true → b ≡ true) → c ≡ b
      alike true c h h' = h refl
      alike false true h h' = sym (h' refl)
      alike false false h h' = refl

-- one face more is marked
MarksFaces-more : (sigma : List ℕ) (root start : ℕ) (marks : List Bool) (stack : List ℕ) (count : ℕ) (marks1 : List Bool) (stack1 : List ℕ)
    → IsStructure (structure_of (record { sigma = sigma; root = root })) → MarksFaces (structure_of (record { sigma = sigma; root = root })) marks stack count
    → start < length sigma → IsReached (structure_of (record { sigma = sigma; root = root })) start → get_or marks start false ≡ false
    → MarksFace sigma start marks stack marks1 stack1 → MarksFaces (structure_of (record { sigma = sigma; root = root })) marks1 stack1 (count + 1)
MarksFaces-more sigma root start marks stack count marks1 stack1 structure m h reached unmarked w =
    let s : Structure = structure_of (record { sigma = sigma; root = root }) in
    let n : ℕ = length sigma in
    let f : ℕ → ℕ = face_step sigma in
    let p : IsPermutationBelow n f = face_permutes s structure in
    let whole : (d : ℕ) → d < n → IsMarked marks1 d → IsMarked marks1 (f d) = λ d hd is. elim (w.walk.leads d is) [
      | inl before ↦ w.walk.kept (f d) (m.whole d hd before)
      | inr onward ↦ elim onward [ inl next ↦ next | inr at ↦ subst (λ x. IsMarked marks1 x) (sym at) w.ended ]
    ] in
    record {
      below = λ d st. elim (w.walk.only d st) [ inl before ↦ m.below d before | inr new ↦ in_cycle-below n f p start d h new.1 ];
      waiting = λ d st. elim (w.walk.only d st) [ inl before ↦ w.walk.kept d (m.waiting d before) | inr new ↦ new.0 ];
      whole = whole;
      reached = λ d is. elim (w.walk.fresh d is) [
        | inl before ↦ m.reached d before
        | inr new ↦ subst (λ x. IsReached s x) new.1.leads (reached_along s structure start h reached new.1.steps)
      ];
      counted = ap (λ k. k + 1) m.counted ∙ sym (leaders_more n f marks marks1 start p h m.whole whole unmarked (MarksFace-start sigma start marks stack marks1 stack1 w) w.walk.kept
          (λ d is. elim (w.walk.fresh d is) [ inl before ↦ inl before | inr new ↦ inr new.1 ]));
    }

stands_nowhere : (d : ℕ) → Contains [] d → ⊥
stands_nowhere d st = let h : st.0 < 0 = st.1 in omega arith

-- no face is marked
MarksFaces-none : (s : Structure) (marks : List Bool) → NoneMarked marks → MarksFaces s marks [] 0
MarksFaces-none s marks none = record {
  below = λ d st. absurd (stands_nowhere d st);
  waiting = λ d st. absurd (stands_nowhere d st);
  whole = λ d h is. absurd (false≢true (sym (none d) ∙ is));
  reached = λ d is. absurd (false≢true (sym (none d) ∙ is));
  counted = sym (count_below-none (λ d. get_or marks d false && eqb (leader s.darts (face_next s) d) d) s.darts (λ d h. ap (λ b. b && eqb (leader s.darts (face_next s) d) d) (none d)));
}

-- the search begins with the face of the root
pub IsSearch-begins : (sigma : List ℕ) (root : ℕ) (marks marks1 : List Bool) (stack1 : List ℕ) → IsStructure (structure_of (record { sigma = sigma; root = root })) → NoneMarked marks
    → root < length sigma → MarksFace sigma root marks [] marks1 stack1 → IsSearch (structure_of (record { sigma = sigma; root = root })) marks1 stack1 1
IsSearch-begins sigma root marks marks1 stack1 structure none h w =
    let s : Structure = structure_of (record { sigma = sigma; root = root }) in
    record {
      root = MarksFace-start sigma root marks [] marks1 stack1 w;
      done = λ d hd is. elim (w.walk.fresh d is) [ inl before ↦ absurd (false≢true (sym (none d) ∙ before)) | inr new ↦ inl new.0 ];
      marked = MarksFaces-more sigma root root marks [] 0 marks1 stack1 structure (MarksFaces-none s marks none) h (λ holds is closed. is) (none root) w;
    }

-- one dart less waits
MarksFaces-pop : (s : Structure) (dart : ℕ) (marks : List Bool) (stack : List ℕ) (count : ℕ) → MarksFaces s marks (stack ++ dart ∷ []) count → MarksFaces s marks stack count
MarksFaces-pop s dart marks stack count m = record {
  below = λ d st. m.below d (Contains-append_left stack (dart ∷ []) d st);
  waiting = λ d st. m.waiting d (Contains-append_left stack (dart ∷ []) d st);
  whole = m.whole;
  reached = m.reached;
  counted = m.counted;
}

-- the dart from the top of the stack need not wait where its twin is marked
pub IsSearch-pop : (s : Structure) (dart : ℕ) (marks : List Bool) (stack : List ℕ) (count : ℕ) → IsSearch s marks (stack ++ dart ∷ []) count → IsMarked marks (s.twin dart)
    → IsSearch s marks stack count
IsSearch-pop s dart marks stack count search is_twin = record {
  root = search.root;
  done = λ d h is. elim (search.done d h is) [
    | inl st ↦ elim (Contains-push_cases stack dart d st) [ inl before ↦ inl before | inr same ↦ inr (subst (λ x. IsMarked marks (s.twin x)) same is_twin) ]
    | inr other ↦ inr other
  ];
  marked = MarksFaces-pop s dart marks stack count search.marked;
}

-- a step: the face of the twin of the dart from the top of the stack is marked, where that twin wasn't
pub IsSearch-step : (sigma : List ℕ) (root dart : ℕ) (marks : List Bool) (stack : List ℕ) (count : ℕ) (marks1 : List Bool) (stack1 : List ℕ)
    → IsStructure (structure_of (record { sigma = sigma; root = root })) → IsSearch (structure_of (record { sigma = sigma; root = root })) marks (stack ++ dart ∷ []) count
    → get_or marks (twin dart) false ≡ false → MarksFace sigma (twin dart) marks stack marks1 stack1
    → IsSearch (structure_of (record { sigma = sigma; root = root })) marks1 stack1 (count + 1)
IsSearch-step sigma root dart marks stack count marks1 stack1 structure search unmarked w =
    let s : Structure = structure_of (record { sigma = sigma; root = root }) in
    let below : dart < length sigma = search.marked.below dart (Contains-push stack dart) in
    let reached : IsReached s dart = search.marked.reached dart (search.marked.waiting dart (Contains-push stack dart)) in
    let start : IsMarked marks1 (twin dart) = MarksFace-start sigma (twin dart) marks stack marks1 stack1 w in
    record {
      root = w.walk.kept root search.root;
      done = λ d h is. elim (w.walk.fresh d is) [
        | inl before ↦ elim (search.done d h before) [
          | inl st ↦ elim (Contains-push_cases stack dart d st) [
            | inl waits ↦ inl (w.walk.stacked d waits)
            | inr same ↦ inr (subst (λ x. IsMarked marks1 (twin x)) same start)
          ]
          | inr other ↦ inr (w.walk.kept (twin d) other)
        ]
        | inr new ↦ inl new.0
      ];
      marked = MarksFaces-more sigma root (twin dart) marks stack count marks1 stack1 structure (MarksFaces-pop s dart marks stack count search.marked) (structure.twin_stays dart below)
          (λ holds is closed. closed.under_twin dart below (reached holds is closed)) unmarked w;
    }

-- where no dart waits, the marked darts are closed
pub marks_closed : (s : Structure) (marks : List Bool) (count : ℕ) → IsStructure s → IsSearch s marks [] count → IsClosedSet s (λ d. get_or marks d false)
marks_closed s marks count structure search =
    let under_twin : (d : ℕ) → d < s.darts → IsMarked marks d → IsMarked marks (s.twin d) =
    λ d h is. elim (search.done d h is) [ inl st ↦ absurd (stands_nowhere d st) | inr other ↦ other ] in
    record {
      under_next = λ d h is. subst (λ x. IsMarked marks (s.next x)) (structure.twin_back d h) (search.marked.whole (s.twin d) (structure.twin_stays d h) (under_twin d h is));
      under_twin = under_twin;
    }

-- all darts are marked: the structure is connected, and its faces are counted
pub reached_from_marks : (s : Structure) (marks : List Bool) (count : ℕ) → length marks ≡ s.darts → 0 < s.darts → IsSearch s marks [] count → AllMarked marks → IsReachedWhole s count
reached_from_marks s marks count size some search all = record {
  connected = λ holds root closed d h. search.marked.reached d (all d (omega arith)) holds root closed;
  counted = search.marked.counted
      ∙ count_below-same (λ d. get_or marks d false && eqb (leader s.darts (face_next s) d) d) (λ d. eqb (leader s.darts (face_next s) d) d) s.darts
      (λ d h. ap (λ b. b && eqb (leader s.darts (face_next s) d) d) (all d (omega arith)))
      ∙ chosen (nat_eq s.darts 0) (cycles s.darts (face_next s)) (apart s.darts some);
} where
  apart : (n : ℕ) → 0 < n → nat_eq n 0 ≡ false
  apart n h = grind arith

  chosen : (b : Bool) (x : ℕ) → b ≡ false → x ≡ cond b 1 x
  chosen b x off = rw off refl

-- the least dart that isn't marked is the least that isn't reached
pub unreached_from_marks : (s : Structure) (marks : List Bool) (count d : ℕ) → IsStructure s → length marks ≡ s.darts → IsSearch s marks [] count → IsLeastUnmarked marks d → IsLeastUnreached s d
unreached_from_marks s marks count d structure size search least = record {
  within = omega (arith, least.within);
  breaks = record { holds = λ e. get_or marks e false; root = search.root; closed = marks_closed s marks count structure search; apart = least.breaks };
  least = λ e h. search.marked.reached e (least.least e h);
}

-- what comes from the top of the stack is a dart
pub IsSearch-popped : (s : Structure) (marks : List Bool) (stack rest : List ℕ) (count dart : ℕ) → IsSearch s marks stack count → stack ≡ rest ++ dart ∷ [] → dart < s.darts
IsSearch-popped s marks stack rest count dart search is = search.marked.below dart (subst (λ x. Contains x dart) (sym is) (Contains-push rest dart))

-- there are at most as many faces as darts
pub IsSearch-bound : (s : Structure) (marks : List Bool) (stack : List ℕ) (count : ℕ) → IsSearch s marks stack count → count ≤ s.darts
IsSearch-bound s marks stack count search =
    omega (arith, search.marked.counted, count_below-bound (λ d. get_or marks d false && eqb (leader s.darts (face_next s) d) d) s.darts)

-- there is less to do after a dart is taken from the stack, and so after a face is marked then
pub work-pop : (marks : List Bool) (stack rest : List ℕ) (dart : ℕ) → stack ≡ rest ++ dart ∷ [] → work_left marks rest < work_left marks stack
work-pop marks stack rest dart is =
    let more : length stack ≡ length rest + 1 = ap length is ∙ length_push rest dart in
    omega arith

pub work-face : (sigma : List ℕ) (start : ℕ) (marks : List Bool) (stack rest : List ℕ) (dart : ℕ) (marks1 : List Bool) (stack1 : List ℕ) → stack ≡ rest ++ dart ∷ []
    → MarksFace sigma start marks rest marks1 stack1 → work_left marks1 stack1 < work_left marks stack
work-face sigma start marks stack rest dart marks1 stack1 is m =
    let less : work_left marks rest < work_left marks stack = work-pop marks stack rest dart is in
    omega (arith, less, m.walk.work)
