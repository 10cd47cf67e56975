-- The closure of a balanced stem tree with n nodes is plane, with 3n edges, n + 2 vertices and 2n faces.
use Rattle.std.proofs.Common.{◌≡◌, ℕ, zero, suc, ◌+◌, ◌*◌, ◌<◌, Bool, false, cond, eqb, if◌then◌else◌, inl, inr, List, length, slice_index, ap, ◌∙◌, sym, arith, take_all, eq-eqb, ne_eqb}
use Rattle.std.proofs.lemmas.Bool.{cases_eq}
use Rattle.pm_perm.specs.Count.{count_below}
use Rattle.pm_perm.specs.Cycles.{cycles}
use Rattle.pm_brackets.specs.Word.{count}
use Rattle.pm_brackets.proofs.LetterCounts.{seen_counts}
use Rattle.pm_brackets.proofs.Levels.{seen, seen_no, seen_none, seen_yes}
use Rattle.pm_map.specs.Plane.{faces, vertices}
use Rattle.pm_map.specs.Rotation.{IsRootedMap, RotationSystem, structure_of}
use Rattle.pm_map.specs.Structure.{Structure, face_next}
use Rattle.pm_tri.specs.declared.letters.TheConstants.{STEM}
use Rattle.pm_tri.specs.Runs.{IsBalanced}
use Rattle.pm_tri.specs.StemTree.{IsStemTree, contour, nodes}
use Rattle.pm_tri.specs.Whole.{whole}
use Rattle.pm_tri.proofs.BitTrees.{trees_have_bits}
use Rattle.pm_tri.proofs.CountReading.{length_bits}
use Rattle.pm_tri.proofs.RunStarts.{two_runs}
use Rattle.pm_tri.proofs.StemCounts.{stems_count}
use Rattle.pm_triclose.specs.ClosureLaws.{ClosuresAreMaps, ClosuresArePlane, IsPlaneOfSize}
use Rattle.pm_triclose.specs.WholeClosure.{IsWholeClosure}
use Rattle.pm_triclose.proofs.CountedDarts.{darts_many, faces_many, is_stem_place, is_stem_place_is, vertices_many}
use Rattle.pm_triclose.proofs.TreeRing.{tree_ring}
use Rattle.pm_triclose.proofs.WholeBrackets.{seen_alike}
use Rattle.pm_triclose.proofs.WholeClosures.{in_whole_closure}
use Rattle.pm_triclose.proofs.WholeOf.{IsWholeOf, second_start, whole_of}
use Rattle.pm_triclose.proofs.WholePlane.{plane, some_darts}

-- the stems, counted by place
stems_seen : (places : List ℕ) (k : ℕ) → count_below (is_stem_place places) k ≡ seen STEM places k
stems_seen places zero = sym (seen_none STEM places)
stems_seen places (suc k) = elim (cases_eq (slice_index places k) STEM) [
  | inl e ↦
      let h : count_below (is_stem_place places) (suc k) ≡ count_below (is_stem_place places) k + 1 = ap (λ (b : Bool). count_below (is_stem_place places) k + (if b then 1 else 0)) (is_stem_place_is places k ∙ eq-eqb (slice_index places k) STEM e) in
      omega (arith, h, stems_seen places k, seen_yes STEM places k (omega arith) e)
  | inr ne ↦
      let h : count_below (is_stem_place places) (suc k) ≡ count_below (is_stem_place places) k + 0 = ap (λ (b : Bool). count_below (is_stem_place places) k + (if b then 1 else 0)) (is_stem_place_is places k ∙ ne_eqb (slice_index places k) STEM ne) in
      omega (arith, h, stems_seen places k, seen_no STEM places k ne)
]

module _ (places all : List ℕ) (last start : ℕ) (w : IsWholeOf places all last start) where
  -- the whole tree has one stem less
  stems_less : suc (count_below (is_stem_place all) (length all)) ≡ count_below (is_stem_place places) (length places)
  stems_less =
      let a = stems_seen all (last + 4) in
      let b = stems_seen places (suc last) in
      let e : last + 4 ≡ suc (last + 3) = omega arith in
      let f : last + 3 ≡ suc (last + 2) = omega arith in
      let g : last + 2 ≡ suc (last + 1) = omega arith in
      let h : last + 1 ≡ suc last = omega arith in
      let fourth = seen_no STEM all (last + 3) (λ s. let o = w.fourth in omega (arith, o, s)) in
      let third = seen_no STEM all (last + 2) (λ s. let o = w.third in omega (arith, o, s)) in
      let second = seen_no STEM all (last + 1) (λ s. let o = w.second in omega (arith, o, s)) in
      let first = seen_no STEM all last (λ s. let o = w.first in omega (arith, o, s)) in
      let end = seen_yes STEM places last (omega arith) w.end in
      let same = seen_alike all places last w.kept STEM (omega arith) last (omega arith) in
      let wide = ap (count_below (is_stem_place all)) w.wide in
      let long = ap (count_below (is_stem_place places)) w.long in
      omega (arith, a, b, ap (seen STEM all) e, ap (seen STEM all) f, ap (seen STEM all) g, ap (seen STEM all) h, first, second, third, fourth, end, same, wide, long)

record HasCounts (s : Structure) (n : ℕ) : Type 0 where
  darts_are : s.darts ≡ 6 * n
  some : 0 < s.darts
  vertices_are : cycles s.darts s.next ≡ n + 2
  faces_are : cycles s.darts (face_next s) ≡ 2 * n

-- of a structure that has darts
sized : (s : Structure) (n : ℕ) → HasCounts s n → (vertices s ≡ n + 2) × (faces s ≡ 2 * n)
sized s n h =
    let some = h.some in
    let test : eqb s.darts 0 ≡ false = ne_eqb s.darts 0 (λ e. omega (arith, e, some)) in (
      ap (λ (b : Bool). cond {A = ℕ} b 1 (cycles s.darts s.next)) test ∙ h.vertices_are,
      ap (λ (b : Bool). cond {A = ℕ} b 1 (cycles s.darts (face_next s))) test ∙ h.faces_are,
    )

-- four letters for each node, but for three
letters_many : (word : List ℕ) → IsStemTree word → length word + 3 ≡ 4 * nodes word
letters_many word t = let a = (trees_have_bits word t).1 in let b = length_bits word in omega (arith, a, b)

pub whole_sized : (word : List ℕ) (s : Structure) → IsStemTree word → IsBalanced (contour word) → IsWholeClosure (contour (whole word)) s → IsPlaneOfSize s (nodes word)
whole_sized word s t b c =
    let w = whole_of word t b (two_runs word t).later (second_start (contour word) b (two_runs word t)) in
    let r = tree_ring word t b in
    let many = darts_many (contour (whole word)) r.across r.ends r.ring s c.0 c.1 in
    let f = faces_many (contour (whole word)) r.across r.ends r.ring s c.0 c.1 in
    let v = vertices_many (contour (whole word)) r.across r.ends r.ring s c.0 c.1 in
    let stems = stems_less (contour word) (contour (whole word)) (length word) (two_runs word t).later w in
    let seen_all = stems_seen (contour word) (length (contour word)) ∙ seen_counts STEM (contour word) (length (contour word)) ∙ ap (count STEM) (take_all (length (contour word)) (contour word) (omega arith)) in
    let twice = stems_count word t in
    let letters = letters_many word t in
    let wide = w.wide in
    let d : s.darts ≡ 6 * nodes word = omega (arith, many, stems, seen_all, twice, letters, wide) in
    let counts = sized s (nodes word) (record {
      darts_are = d;
      some = some_darts (contour (whole word)) r.across r.ends r.ring s c.0 c.1;
      vertices_are = omega (arith, v, stems, seen_all, twice, letters, wide);
      faces_are = omega (arith, f, stems, seen_all, twice);
    }) in
    record {
      plane = plane (contour (whole word)) r.across r.ends r.ring s c.0 c.1;
      darts_are = d;
      edges_are = omega (arith, d);
      vertices_are = counts.0;
      faces_are = counts.1;
    }

pub whole_rooted : (word : List ℕ) (map : RotationSystem) → IsStemTree word → IsBalanced (contour word) → IsWholeClosure (contour (whole word)) (structure_of map) → IsRootedMap map
whole_rooted word map t b c =
    let sizes = whole_sized word (structure_of map) t b c in
    let d = sizes.darts_are in
    let letters = letters_many word t in
    let short = t.short in
    record {
      even = omega (arith, d);
      few = omega (arith, d, letters, short);
      structure = sizes.plane.structure;
      connected = sizes.plane.connected;
      euler = sizes.plane.euler;
    }

pub closures_plane : ClosuresArePlane
closures_plane word s t b c = whole_sized word s t b (in_whole_closure word t b s c)

pub closures_maps : ClosuresAreMaps
closures_maps word map t b c = whole_rooted word map t b (in_whole_closure word t b (structure_of map) c)
