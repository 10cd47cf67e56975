-- The walk that opens a plane structure with even degrees leaves nested edges, and half of the darts at a vertex lead up.
use Rattle.std.proofs.Common.{◌≡◌, ℕ, zero, suc, ◌+◌, ◌-◌, ◌*◌, ◌%◌, ◌<◌, ◌⊎◌, inl, inr, false, List, length, take, take_all, slice_index, sym, ◌∙◌, ap, arith}
use Rattle.std.specs.List.{count_by}
use Rattle.std.proofs.lemmas.Bool.{cases_Bool, cond-true, cond-false, eqb-true, eqb-false}
use Rattle.std.proofs.lemmas.List.Sums.{count_by_more_yes, count_by_more_no}
use Rattle.pm_perm.specs.Pairs.{IsNestedBelow}
use Rattle.pm_map.specs.Structure.{Structure, IsStructure}
use Rattle.pm_map.specs.Plane.{HasEulerTwo}
use Rattle.pm_map.specs.CycleSize.{IsCycleSize}
use Rattle.pm_map.specs.FaceDistance.{AreFaceLevels}
use Rattle.pm_map.specs.Meeting.{IsVertexFrom}
use Rattle.pm_map.proofs.UniqueMeeting.{vertex_begins}
use Rattle.pm_map.proofs.CarriedMeeting.{AreBelow, vertex_below}
use Rattle.pm_distances.proofs.Walked.{is_up, is_cut, across, IsWalkedInOrder}
use Rattle.pm_open.proofs.Opened.{partner, IsOpened}
use Rattle.pm_walk.proofs.NestedEdges.{across-involution, partner-involution, edges_nested}
use Rattle.pm_distances.proofs.LevelsAlong.{level-next, level-along_cut, level-along_kept, cut-up}
use Rattle.pm_distances.proofs.KeptEdges.{kept-down}
use Rattle.pm_distances.proofs.OneApart.{ChangesByOne, changes-by_one}

-- one dart more at a vertex: twice the darts that lead up, and the level at the first dart, are the darts and the level at the next
up_more : (s : Structure) (level : ℕ → ℕ) (vertex : List ℕ) (first i : ℕ) → ChangesByOne s level → i < length vertex → slice_index vertex i < s.darts
    → level (s.next (slice_index vertex i)) ≡ level (s.twin (slice_index vertex i))
    → 2 * count_by (is_up s level) (take i vertex) + first ≡ i + level (slice_index vertex i)
    → 2 * count_by (is_up s level) (take (i + 1) vertex) + first ≡ suc i + level (s.next (slice_index vertex i))
up_more s level vertex first i one h inner next before = elim (cases_Bool (is_up s level (slice_index vertex i))) [
  | inl up ↦
      let more = count_by_more_yes (is_up s level) vertex i 0 h up in
      let rise = eqb-true (level (s.twin (slice_index vertex i))) (suc (level (slice_index vertex i))) up in
      plain_up (count_by (is_up s level) (take i vertex)) (count_by (is_up s level) (take (i + 1) vertex)) first i (level (slice_index vertex i)) (level (s.next (slice_index vertex i)))
      more (next ∙ rise) before
  | inr down ↦
      let more = count_by_more_no (is_up s level) vertex i 0 h down in
      let fall = falls (level (s.twin (slice_index vertex i))) (level (slice_index vertex i)) (one.changes (slice_index vertex i) inner)
      (eqb-false (level (s.twin (slice_index vertex i))) (suc (level (slice_index vertex i))) down) in
      plain_down (count_by (is_up s level) (take i vertex)) (count_by (is_up s level) (take (i + 1) vertex)) first i (level (slice_index vertex i)) (level (s.next (slice_index vertex i)))
      more (fall ∙ ap suc (sym next)) before
] where
  falls : (over here : ℕ) → (over ≡ suc here) ⊎ (here ≡ suc over) → (over ≡ suc here → ⊥) → here ≡ suc over
  falls over here (inl up) not_up = absurd (not_up up)
  falls over here (inr down) not_up = down

  plain_up : (count after first i here next : ℕ) → after ≡ count + 1 → next ≡ suc here → 2 * count + first ≡ i + here → 2 * after + first ≡ suc i + next
  plain_up count after first i here next more rise before = omega arith

  plain_down : (count after first i here next : ℕ) → after ≡ count → here ≡ suc next → 2 * count + first ≡ i + here → 2 * after + first ≡ suc i + next
  plain_down count after first i here next more fall before = omega arith

-- the same for the first darts of a vertex
up_before : (s : Structure) (level : ℕ → ℕ) (d : ℕ) (vertex : List ℕ) → IsStructure s → AreFaceLevels s level → ChangesByOne s level → d < s.darts → IsVertexFrom s d vertex
    → (i : ℕ) → i < length vertex → 2 * count_by (is_up s level) (take i vertex) + level d ≡ i + level (slice_index vertex i)
up_before s level d vertex is levels one h from zero within =
    let e = ap level (vertex_begins s d vertex from).1 in
    omega (arith, e)
up_before s level d vertex is levels one h from (suc i) within =
    let all : AreBelow s.darts vertex = vertex_below s d vertex is h from in
    let inner : slice_index vertex i < s.darts = all.below i (omega arith) in
    let step = up_more s level vertex (level d) i one (omega arith) inner (level-next s level (slice_index vertex i) is levels inner)
    (up_before s level d vertex is levels one h from i (omega arith)) in
    let e : suc i ≡ i + 1 = omega arith in
    ap (λ (j : ℕ). 2 * count_by (is_up s level) (take j vertex) + level d) e ∙ step ∙ ap (λ (x : ℕ). suc i + level x) (sym (from.goes i within))

-- half of the darts at a vertex lead up
half-up : (s : Structure) (level : ℕ → ℕ) (d : ℕ) (vertex : List ℕ) → IsStructure s → AreFaceLevels s level → ChangesByOne s level → d < s.darts → IsVertexFrom s d vertex
    → 2 * count_by (is_up s level) vertex ≡ length vertex
half-up s level d vertex is levels one h from =
    let some : 0 < length vertex = (vertex_begins s d vertex from).0 in
    let last : ℕ = length vertex - 1 in
    let all : AreBelow s.darts vertex = vertex_below s d vertex is h from in
    let inner : slice_index vertex last < s.darts = all.below last (omega arith) in
    let whole = up_more s level vertex (level d) last one (omega arith) inner (level-next s level (slice_index vertex last) is levels inner)
    (up_before s level d vertex is levels one h from last (omega arith)) in
    let e : last + 1 ≡ length vertex = omega arith in
    let long : suc last ≡ length vertex = omega arith in
    let count : count_by (is_up s level) (take (last + 1) vertex) ≡ count_by (is_up s level) vertex =
    ap (λ (j : ℕ). count_by (is_up s level) (take j vertex)) e ∙ ap (count_by (is_up s level)) (take_all (length vertex) vertex (omega arith)) in
    plain (count_by (is_up s level) (take (last + 1) vertex)) (count_by (is_up s level) vertex) (level d) (level (s.next (slice_index vertex last))) (suc last) (length vertex)
    count (ap level from.ends) long whole where
      plain : (count all first next i size : ℕ) → count ≡ all → next ≡ first → i ≡ size → 2 * count + first ≡ i + next → 2 * all ≡ size
      plain count all first next i size e back long whole = omega arith

-- the root's edge leads up
root-up : (s : Structure) (level : ℕ → ℕ) → IsStructure s → 0 < s.darts → AreFaceLevels s level → IsWalkedInOrder s level
    → ((d : ℕ) → d < s.darts → is_cut s level d ≡ false → d < s.twin d → level d ≡ suc (level (s.twin d))) → level (s.twin 0) ≡ 1
root-up s level is some levels walked down =
    let other : s.twin 0 ≡ 0 → ⊥ = is.twin_other 0 some in
    let root : level 0 ≡ 0 = ap level (sym walked.root) ∙ levels.root some in
    elim (cases_Bool (is_cut s level 0)) [
      | inl cut ↦ cut-up s level 0 cut (omega arith) ∙ ap suc root
      | inr kept ↦ absurd (let fall = down 0 some kept (omega arith) in omega (arith, root, fall))
    ]

-- what the walk leaves in a plane structure with even degrees
pub opened : (s : Structure) (level : ℕ → ℕ) → IsStructure s → 0 < s.darts → HasEulerTwo s → AreFaceLevels s level → IsWalkedInOrder s level
    → ((d degree : ℕ) → d < s.darts → IsCycleSize s.next d degree → degree % 2 ≡ 0) → IsOpened s level
opened s level is some euler levels walked even =
    let nested : IsNestedBelow s.darts (across s level) × IsNestedBelow s.darts (partner s level) = edges_nested s (is_up s level) is some euler walked in
    let down : (d : ℕ) → d < s.darts → is_cut s level d ≡ false → d < s.twin d → level d ≡ suc (level (s.twin d)) =
    λ d h kept less. kept-down s level d is levels walked nested.0 even h kept less in
    record {
      brackets = across-involution s (is_up s level) is;
      brackets_nested = nested.0;
      pairs = partner-involution s (is_up s level) is;
      pairs_nested = nested.1;
      root_up = root-up s level is some levels walked down;
      along = λ d h. elim (cases_Bool (is_cut s level d)) [
        | inl cut ↦ level-along_cut s level d is levels walked h cut ∙ sym (cond-true (is_cut s level d) (level (s.twin d)) (level d) cut)
        | inr kept ↦ level-along_kept s level d is levels walked h kept ∙ sym (cond-false (is_cut s level d) (level (s.twin d)) (level d) kept)
      ];
      cut_up = λ d h cut less. cut-up s level d cut less;
      kept_down = down;
      half_up = λ d vertex h from. half-up s level d vertex is levels (changes-by_one s level is down) h from;
    }
