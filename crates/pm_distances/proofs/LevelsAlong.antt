-- Levels of the faces along the walk and around the vertices.
use Rattle.std.proofs.Common.{◌≡◌, ℕ, zero, suc, ◌+◌, ◌%◌, ◌<◌, ◌⊎◌, inl, inr, Bool, true, false, cond, sym, ◌∙◌, ap, arith}
use Rattle.std.proofs.lemmas.Bool.{cases_Bool, cond-true, cond-false, eqb-true, eqb-false}
use Rattle.pm_perm.specs.Count.{count_below}
use Rattle.pm_perm.specs.Pairs.{IsRingBelow}
use Rattle.pm_perm.proofs.Renumbered.{ring-mod}
use Rattle.pm_map.specs.Structure.{Structure, IsStructure}
use Rattle.pm_map.specs.FaceDistance.{AreFaceLevels}
use Rattle.pm_distances.proofs.Walked.{is_up, is_cut, IsWalkedInOrder}
use Rattle.pm_walk.proofs.Edges.{lesser_or_greater, cut_is_out, cut_is_twin_out, across_cut, across_kept}

-- the next dart around a vertex has the level of the twin
pub level-next : (s : Structure) (level : ℕ → ℕ) (d : ℕ) → IsStructure s → AreFaceLevels s level → d < s.darts → level (s.next d) ≡ level (s.twin d)
level-next s level d is levels h = ap (λ e. level (s.next e)) (sym (is.twin_back d h)) ∙ levels.around (s.twin d) (is.twin_stays d h)

-- the next dart along the walk has the level of the twin where the edge is cut, and else that of the dart
pub level-along_cut : (s : Structure) (level : ℕ → ℕ) (d : ℕ) → IsStructure s → AreFaceLevels s level → IsWalkedInOrder s level → suc d < s.darts
    → is_cut s level d ≡ true → level (suc d) ≡ level (s.twin d)
level-along_cut s level d is levels walked h cut =
    let ring : IsRingBelow s.darts (λ k. suc k % s.darts) = ring-mod s.darts in
    let e : suc d ≡ s.next d = sym (ring.next d h) ∙ sym (walked.onward d (omega arith)) ∙ ap s.next (across_cut s (is_up s level) d cut) in
    ap level e ∙ level-next s level d is levels (omega arith)

pub level-along_kept : (s : Structure) (level : ℕ → ℕ) (d : ℕ) → IsStructure s → AreFaceLevels s level → IsWalkedInOrder s level → suc d < s.darts
    → is_cut s level d ≡ false → level (suc d) ≡ level d
level-along_kept s level d is levels walked h kept =
    let ring : IsRingBelow s.darts (λ k. suc k % s.darts) = ring-mod s.darts in
    let e : suc d ≡ s.next (s.twin d) = sym (ring.next d h) ∙ sym (walked.onward d (omega arith)) ∙ ap s.next (across_kept s (is_up s level) d kept) in
    ap level e ∙ levels.around d (omega arith)

-- an edge that is cut leads one level up from its lesser dart
pub cut-up : (s : Structure) (level : ℕ → ℕ) (d : ℕ) → is_cut s level d ≡ true → d < s.twin d → level (s.twin d) ≡ suc (level d)
cut-up s level d cut less = eqb-true (level (s.twin d)) (suc (level d)) (sym (cut_is_out s (is_up s level) d (omega (arith, less))) ∙ cut)

-- an edge that isn't cut doesn't lead up from its lesser dart
pub kept-not_up : (s : Structure) (level : ℕ → ℕ) (d : ℕ) → is_cut s level d ≡ false → d < s.twin d → level (s.twin d) ≡ suc (level d) → ⊥
kept-not_up s level d kept less = eqb-false (level (s.twin d)) (suc (level d)) (sym (cut_is_out s (is_up s level) d (omega (arith, less))) ∙ kept)

cut-down : (s : Structure) (level : ℕ → ℕ) (d : ℕ) → s.twin (s.twin d) ≡ d → is_cut s level d ≡ true → s.twin d < d → level d ≡ suc (level (s.twin d))
cut-down s level d back cut more =
    ap level (sym back) ∙ eqb-true (level (s.twin (s.twin d))) (suc (level (s.twin d))) (sym (cut_is_twin_out s (is_up s level) d more) ∙ cut)

-- across an edge that is cut the level changes by one
pub cut-one : (s : Structure) (level : ℕ → ℕ) (d : ℕ) → IsStructure s → d < s.darts → is_cut s level d ≡ true
    → (level (s.twin d) ≡ suc (level d)) ⊎ (level d ≡ suc (level (s.twin d)))
cut-one s level d is h cut = elim (lesser_or_greater s d is h) [
  | inl less ↦ inl (cut-up s level d cut less)
  | inr more ↦ inr (cut-down s level d (is.twin_back d h) cut more)
]

-- a level and the number of darts before on edges that are cut are both even or both odd
pub level-parity : (s : Structure) (level : ℕ → ℕ) → IsStructure s → AreFaceLevels s level → IsWalkedInOrder s level
    → (d : ℕ) → d < s.darts → (level d + count_below (is_cut s level) d) % 2 ≡ 0
level-parity s level is levels walked zero h =
    let e : level 0 ≡ 0 = ap level (sym walked.root) ∙ levels.root (omega arith) in
    omega (arith, e)
level-parity s level is levels walked (suc d) h =
    let before = level-parity s level is levels walked d (omega arith) in
    elim (cases_Bool (is_cut s level d)) [
      | inl cut ↦ changed (level d) (level (s.twin d)) (level (suc d)) (count_below (is_cut s level) d) (is_cut s level d) cut
          (level-along_cut s level d is levels walked h cut) (cut-one s level d is (omega arith) cut) before
      | inr kept ↦ same (level d) (level (suc d)) (count_below (is_cut s level) d) (is_cut s level d) kept (level-along_kept s level d is levels walked h kept) before
    ] where
      changed : (here over next count : ℕ) (test : Bool) → test ≡ true → next ≡ over → (over ≡ suc here) ⊎ (here ≡ suc over) → (here + count) % 2 ≡ 0
          → (next + (count + cond test 1 0)) % 2 ≡ 0
      changed here over next count test it_is along (inl up) before = let one = cond-true {A = ℕ} test 1 0 it_is in omega (arith, one)
      changed here over next count test it_is along (inr down) before = let one = cond-true {A = ℕ} test 1 0 it_is in omega (arith, one)

      same : (here next count : ℕ) (test : Bool) → test ≡ false → next ≡ here → (here + count) % 2 ≡ 0 → (next + (count + cond test 1 0)) % 2 ≡ 0
      same here next count test it_is_not along before = let none = cond-false {A = ℕ} test 1 0 it_is_not in omega (arith, none)
