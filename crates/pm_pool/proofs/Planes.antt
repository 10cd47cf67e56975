-- Plane regions: their counts over all darts, and regions of one dart.
use Rattle.std.proofs.Common.{◌≡◌, ℕ, ◌+◌, ◌*◌, ◌<◌, true, false, eqb, ltb, eq-eqb, get_or-set_other, IsTrue, inl, inr, slice_index, sym, ap, subst, ◌∙◌, arith}
use Rattle.std.proofs.lemmas.Bool.{cases_Bool, cases_eq, le-ltb}
use Rattle.pm_perm.specs.PartMap.{IsPartMap, part_edges, part_faces, part_vertices}
use Rattle.pm_perm.specs.Permutation.{IsPermutationBelow}
use Rattle.pm_perm.specs.Cycles.{cycles, leader}
use Rattle.pm_perm.proofs.Counts.{count_below-all, count_below-none, some_pass}
use Rattle.pm_perm.proofs.PartMaps.{part_face-permutes}
use Rattle.pm_pool.specs.Plane.{IsStarted, face_rule, live_edges, live_faces, live_vertices, part_of}
use Rattle.pm_pool.specs.Region.{IsAlone, IsLive, IsRegion, IsTaken, Region, is_live, live_darts, room}
use Rattle.pm_pool.proofs.LoneDarts.{live_cycles-all, lone-leader}
use Rattle.pm_pool.proofs.Regions.{live-within}

-- the darts of a region make a part map
pub region-part : (r : Region) → IsRegion r → IsPartMap (part_of r)
region-part r w = record { rotation = subst (λ n. IsPermutationBelow n (slice_index r.next)) w.next_length w.rotation; twins = w.twins }

-- a dart that isn't live is alone in its face
pub dead-face : (r : Region) (d : ℕ) → IsRegion r → d < room r → is_live r d ≡ false → face_rule r d ≡ d
dead-face r d w h dead = let alone = w.dead_alone d h dead in ap (slice_index r.next) alone.twin ∙ alone.next

-- vertices and faces with a live dart, and those of all darts
pub region-vertices : (r : Region) → IsRegion r → live_vertices r + room r ≡ part_vertices (part_of r) + live_darts r
region-vertices r w = live_cycles-all (room r) (is_live r) (slice_index r.next) (region-part r w).rotation (λ d h dead. (w.dead_alone d h dead).next)

pub region-faces : (r : Region) → IsRegion r → live_faces r + room r ≡ part_faces (part_of r) + live_darts r
region-faces r w = live_cycles-all (room r) (is_live r) (face_rule r) (part_face-permutes (part_of r) (region-part r w)) (λ d h dead. dead-face r d w h dead)

-- Euler's equation over all darts, of which each that isn't live is a vertex and a face
pub euler-all : (r : Region) → IsRegion r → live_vertices r + live_faces r ≡ live_edges r + 2
    → part_vertices (part_of r) + part_faces (part_of r) + 2 * live_darts r ≡ part_edges (part_of r) + 2 + 2 * room r
euler-all r w e = let v = region-vertices r w in let f = region-faces r w in omega (arith, e, v, f)

pub euler-live : (r : Region) → IsRegion r → part_vertices (part_of r) + part_faces (part_of r) + 2 * live_darts r ≡ part_edges (part_of r) + 2 + 2 * room r
    → live_vertices r + live_faces r ≡ live_edges r + 2
euler-live r w e = let v = region-vertices r w in let f = region-faces r w in omega (arith, e, v, f)

-- the number of cycles of a function that keeps every number
pub kept-cycles : (n : ℕ) (f : ℕ → ℕ) → IsPermutationBelow n f → ((d : ℕ) → d < n → f d ≡ d) → cycles n f ≡ n
kept-cycles n f p fixed = count_below-all (λ d. eqb (leader n f d) d) n (λ d h. eq-eqb (leader n f d) d (lone-leader n f d p h (fixed d h)))

-- the only live dart is the one that was taken
started-only : (before after : Region) (d : ℕ) → live_darts before ≡ 0 → IsTaken before after d → (e : ℕ) → IsLive after e → e ≡ d
started-only before after d none taken e live = elim (cases_eq e d) [
  | inl same ↦ same
  | inr other ↦
      let was : is_live before e ≡ true = sym (get_or-set_other before.live d e true false other) ∙ ap (λ (r : Region). is_live r e) (sym taken.is_now) ∙ live in
      let some = some_pass (is_live before) e (room before) (live-within before e was) was in
      absurd (omega (arith, some, none))
]

started-alone : (before after : Region) (d : ℕ) → live_darts before ≡ 0 → IsTaken before after d → (e : ℕ) → e < room after → IsAlone after e
started-alone before after d none taken e h = elim (cases_Bool (is_live after e)) [
  | inl live ↦ subst (IsAlone after) (sym (started-only before after d none taken e live)) taken.alone
  | inr dead ↦ taken.valid.dead_alone e h dead
]

-- a region of one dart, which is alone, is plane
pub started : (before after : Region) (d : ℕ) → live_darts before ≡ 0 → IsTaken before after d → IsStarted before after d
started before after d none taken =
    let w = taken.valid in
    let one = taken.one_more in
    let alone = started-alone before after d none taken in
    let vertices : part_vertices (part_of after) ≡ room after = kept-cycles (room after) (slice_index after.next) (region-part after w).rotation (λ e h. (alone e h).next) in
    let faces : part_faces (part_of after) ≡ room after = kept-cycles (room after) (face_rule after) (part_face-permutes (part_of after) (region-part after w))
    (λ e h. ap (slice_index after.next) (alone e h).twin ∙ (alone e h).next) in
    let edges : part_edges (part_of after) ≡ 0 = count_below-none (λ k. ltb (slice_index after.twin k) k) (room after)
    (λ k h. let e = (alone k h).twin in le-ltb (slice_index after.twin k) k (omega (arith, e))) in
    record {
      plane = record {
        region = w;
        some_live = omega (arith, one);
        connected = λ holds closed from e first second here.
            subst (λ k. IsTrue (holds k)) (started-only before after d none taken from first ∙ sym (started-only before after d none taken e second)) here;
        euler = euler-live after w (omega (arith, vertices, faces, edges, one, none));
      };
      taken = taken;
    }
