-- The classes of maps, each with its sizes: numbers, or lists of pairs of a degree and a count, in rising order of the
-- degree. Whatever is in a class is a plane structure.
use Rattle.std.specs.Prelude.{◌≡◌, ◌≢◌, ℕ, suc, ◌+◌, ◌%◌, ◌<◌, ◌&&◌, ◌==◌, List, length, slice_index_or, if◌then◌else◌}
use Rattle.pm_perm.specs.Count.{count_below}
use Rattle.pm_perm.specs.Cycles.{leader}
use Rattle.pm_map.specs.Structure.{Structure, dual}
use Rattle.pm_map.specs.Plane.{vertices, edges, IsPlane}
use Rattle.pm_map.specs.CycleSize.{IsCycleSize}
use Rattle.pm_map.specs.Simple.{IsSimple}

-- the degree of the vertex of a dart: how many darts are at it
abbrev pub degree_of : Structure → ℕ → ℕ
degree_of s d = count_below (λ e. leader s.darts s.next e == leader s.darts s.next d) s.darts

-- how many vertices have this degree, each told by its least dart; the structure without darts has one vertex, of degree 0
abbrev pub vertices_of_degree : Structure → ℕ → ℕ
vertices_of_degree s degree =
    if s.darts == 0
    then (if degree == 0 then 1 else 0)
    else count_below (λ d. (leader s.darts s.next d == d) && (degree_of s d == degree)) s.darts

-- quartic maps of size n: n vertices, each of degree 4
pub record IsQuartic (s : Structure) (n : ℕ) : Type 0 where
  pub plane : IsPlane s
  pub some : 0 < s.darts
  pub count : vertices s ≡ n
  pub degrees : (d : ℕ) → d < s.darts → IsCycleSize s.next d 4

-- general maps of size n: n edges
pub record IsGeneral (s : Structure) (n : ℕ) : Type 0 where
  pub plane : IsPlane s
  pub count : edges s ≡ n

-- Vertices of these degrees, as many of each as its pair says, and no others. The degrees are even and in rising order,
-- and there are some of each: so a structure has one such list at most.
pub record HasDegrees (s : Structure) (pairs : List (ℕ × ℕ)) : Type 0 where
  pub rising : (k : ℕ) → suc k < length pairs → (slice_index_or pairs k (0, 0)).0 < (slice_index_or pairs (suc k) (0, 0)).0
  pub some : (k : ℕ) → k < length pairs → 0 < (slice_index_or pairs k (0, 0)).1
  pub even : (k : ℕ) → k < length pairs → (slice_index_or pairs k (0, 0)).0 % 2 ≡ 0
  pub counts : (k : ℕ) → k < length pairs → vertices_of_degree s (slice_index_or pairs k (0, 0)).0 ≡ (slice_index_or pairs k (0, 0)).1
  pub others : (degree : ℕ) → ((k : ℕ) → k < length pairs → (slice_index_or pairs k (0, 0)).0 ≢ degree) → vertices_of_degree s degree ≡ 0

-- eulerian maps: the vertices have these degrees
pub record IsEulerian (s : Structure) (pairs : List (ℕ × ℕ)) : Type 0 where
  pub plane : IsPlane s
  pub degrees : HasDegrees s pairs

-- bipartite maps: the faces have these degrees
pub record IsBipartite (s : Structure) (pairs : List (ℕ × ℕ)) : Type 0 where
  pub plane : IsPlane s
  pub degrees : HasDegrees (dual s) pairs

-- triangulations of size n: n + 2 vertices, each face of degree 3, no loop and no two edges with the same ends
pub record IsTriangulation (s : Structure) (n : ℕ) : Type 0 where
  pub plane : IsPlane s
  pub some : 0 < s.darts
  pub count : vertices s ≡ n + 2
  pub degrees : (d : ℕ) → d < s.darts → IsCycleSize (dual s).next d 3
  pub simple : IsSimple s
