-- The text of a map is read again as that map.
use Rattle.std.proofs.Common.{◌≡◌, ℕ, ◌+◌, ◌*◌, ◌/◌, ◌%◌, ◌<◌, ◌≤◌, ◌^◌, List, [], ◌∷◌, ◌++◌, length, get_or, refl, sym, ap, ◌∙◌, subst, arith, Ok, inl, inr, length-append, get_or-append-add, Contains}
use Rattle.std.specs.Prelude.{All, Some}
use Rattle.std.specs.List.{concat}
use Rattle.std.proofs.lemmas.Bool.{cases_lt}
use Rattle.std.proofs.lemmas.Grind.{get_or_default_zero}
use Rattle.std.proofs.lemmas.List.{get_or_append_left}
use Rattle.std.proofs.lemmas.List.Elements.{All-nil, All-cons}
use Rattle.pm_perm.proofs.Contained.{is_at}
use Rattle.pm_perm.proofs.Permutations.{IsReached, pigeonhole}
use Rattle.pm_perm.proofs.InverseLemmas.{place_of, place_of-value}
use Rattle.pm_map.specs.Structure.{Structure, IsStructure, IsConnected}
use Rattle.pm_map.specs.Rotation.{RotationSystem, structure_of, IsRootedMap}
use Rattle.pm_map.specs.Meeting.{IsVertexFrom, darts_of, IsMeetingList}
use Rattle.pm_map.proofs.UniqueMeeting.{vertex_begins}
use Rattle.pm_map.proofs.CarriedMeeting.{AreBelow}
use Rattle.pm_map.proofs.CanonicalNames.{meeting_list_below}
use Rattle.pm_map.proofs.WholeMeeting.{meeting_list_is_whole, meeting_list_stands_once}
use Rattle.pm_mapfile.specs.MapText.{IsMapText}
use Rattle.pm_mapfile.specs.MapFile.{MapLines, IsVertexLine, AreMapLines}
use Rattle.pm_mapfile.specs.Vertices.{GoesAround}
use Rattle.pm_mapfile.specs.Answers.{TellsRotation}
use Rattle.pm_mapfile.specs.ReadAgain.{MapTextIsReadAgain, MapFileIsReadAgain, SampleFileIsReadAgain}
use Rattle.pm_canon.specs.steps.Sizing.{AreVertices, none, some}
use Rattle.pm_canon.proofs.ListLemmas.{AreVertices-list}

-- the darts of the vertices are those of the lines
darts_of-concat : (vertices : List (List ℕ)) → darts_of vertices ≡ concat vertices
darts_of-concat [] = refl
darts_of-concat (v ∷ vertices) = ap (λ l. v ++ l) (darts_of-concat vertices)

-- the meeting list has as many darts as the map
list_length : (s : Structure) (vertices : List (List ℕ)) → IsStructure s → IsConnected s → IsMeetingList s vertices → length (darts_of vertices) ≡ s.darts
list_length s vertices structure connected is =
    let darts = darts_of vertices in
    let below = meeting_list_below s vertices structure is in
    let once = meeting_list_stands_once s vertices structure is in
    let at : ℕ → ℕ = λ k. get_or darts k 0 in
    let reached : (y : ℕ) → y < s.darts → IsReached at (length darts) y =
    λ y h. (let stands = meeting_list_is_whole s vertices connected is y h in record { from = stands.0; below = stands.1; value = (is_at _ _ stands) }) in
    let place : ℕ → ℕ = place_of at (length darts) in
    let back : (y : ℕ) → y < s.darts → (place y < length darts) × (at (place y) ≡ y) = λ y h. place_of-value at (length darts) y (reached y h) in
    let few : length darts ≤ s.darts = pigeonhole at (length darts) s.darts below.below once.once in
    let many : s.darts ≤ length darts = pigeonhole place s.darts (length darts) (λ y h. (back y h).0) (λ x y hx hy e. sym ((back x hx).1) ∙ ap at e ∙ (back y hy).1) in
    omega arith

-- each vertex is a line
vertex_line_of : (s : Structure) (d : ℕ) (v : List ℕ) → IsVertexFrom s d v → s.darts < 2 ^ 64 → ((k : ℕ) → k < length v → get_or v k 0 < s.darts) → IsVertexLine s.darts v
vertex_line_of s d v is fits below = record {
  some = (vertex_begins s d v is).0;
  below = λ k x h. rw (get_or_default_zero v k x h) (below k h);
  fit = λ k x h. rw (get_or_default_zero v k x h) (let less = below k h in omega arith);
}

lines_each : (s : Structure) (vertices : List (List ℕ)) → AreVertices s vertices → s.darts < 2 ^ 64 → AreBelow s.darts (darts_of vertices) → All (IsVertexLine s.darts) vertices
lines_each s [] none fits below = All-nil (IsVertexLine s.darts)
lines_each s (v ∷ vertices) (some d _ _ is later) fits below =
    let rest = darts_of vertices in
    All-cons (IsVertexLine s.darts) v vertices
    (vertex_line_of s d v is fits (λ k h. subst (λ x. x < s.darts) (get_or_append_left v rest 0 k h) (below.below k (omega (arith, length-append v rest)))))
    (lines_each s vertices later fits (record {
      below = λ k h. subst (λ x. x < s.darts) (get_or-append-add v rest k 0) (below.below (length v + k) (omega (arith, length-append v rest)));
    }))

-- the rotation goes around each vertex
vertex_goes_around : (sigma : List ℕ) (root d : ℕ) (v : List ℕ) → IsVertexFrom (structure_of (record { sigma = sigma; root = root })) d v → GoesAround sigma v
vertex_goes_around sigma root d v is = record {
  goes = λ k h. sym (is.goes k h);
  closes = is.ends ∙ sym ((vertex_begins (structure_of (record { sigma = sigma; root = root })) d v is).1);
}

all_vertices_go_around : (sigma : List ℕ) (root : ℕ) (vertices : List (List ℕ)) → AreVertices (structure_of (record { sigma = sigma; root = root })) vertices → All (GoesAround sigma) vertices
all_vertices_go_around sigma root [] none = All-nil (GoesAround sigma)
all_vertices_go_around sigma root (v ∷ vertices) (some d _ _ is later) =
    All-cons (GoesAround sigma) v vertices (vertex_goes_around sigma root d v is) (all_vertices_go_around sigma root vertices later)

-- the lines of the text of a map
lines_of : (m : RotationSystem) (text : List ℕ) → IsMapText m text → MapLines
lines_of m text is = record { edges = length m.sigma / 2; root = m.root; vertices = is.vertices }

even_half : (n : ℕ) → n % 2 ≡ 0 → 2 * (n / 2) ≡ n
even_half n even = omega arith

are_lines_of : (m : RotationSystem) (text : List ℕ) → IsRootedMap m → (is : IsMapText m text) → AreMapLines (lines_of m text is)
unfolding lines_of
are_lines_of m text rooted is =
    let s = structure_of m in
    let half : 2 * (length m.sigma / 2) ≡ length m.sigma = even_half (length m.sigma) rooted.even in
    let few = rooted.few in
    let structure = rooted.structure in
    let root_stays : 0 < length m.sigma → m.root < length m.sigma = structure.root_stays in
    let no_root : length m.sigma ≡ 0 → m.root ≡ 0 = structure.no_root in
    let below = meeting_list_below s is.vertices structure is.is_list in
    let count : length (darts_of is.vertices) ≡ length m.sigma = list_length s is.vertices structure rooted.connected is.is_list in
    let same = ap length (darts_of-concat is.vertices) in
    let small : length m.sigma < 2 ^ 64 = omega arith in
    record {
      first = record {
        edges_fit = omega arith;
        root_fits = root_small (length m.sigma) m.root small root_stays no_root;
        within = λ some. (let h : 0 < length m.sigma = omega arith in let r = root_stays h in omega arith);
        no_edge = λ e. no_root (omega (arith, half, e));
      };
      each = subst (λ n. All (IsVertexLine n) is.vertices) (sym half) (lines_each s is.vertices (AreVertices-list s is.vertices is.is_list) small below);
      count = sym same ∙ count ∙ sym half;
    } where
      root_small : (darts root : ℕ) → darts < 2 ^ 64 → (0 < darts → root < darts) → (darts ≡ 0 → root ≡ 0) → root < 2 ^ 64
      root_small darts root small stays at_none = elim (cases_lt 0 darts) [
        | inl there ↦ omega (arith, stays there)
        | inr empty ↦ omega (arith, at_none (omega arith))
      ]

-- they are answered by the map
lines_answered : (m : RotationSystem) (limit : ℕ) (text : List ℕ) → IsRootedMap m → length m.sigma ≤ 2 * limit → (is : IsMapText m text) → TellsRotation (lines_of m text is) limit (Ok m)
unfolding lines_of
lines_answered m limit text rooted few is =
    let s = structure_of m in
    let half : 2 * (length m.sigma / 2) ≡ length m.sigma = even_half (length m.sigma) rooted.even in
    let count : length (darts_of is.vertices) ≡ length m.sigma = list_length s is.vertices rooted.structure rooted.connected is.is_list in
    record {
      few = omega arith;
      sigma = m.sigma;
      is_rotation = record {
        size = sym count ∙ ap length (darts_of-concat is.vertices);
        stand = λ d h. subst (λ l. Contains l d) (darts_of-concat is.vertices) (meeting_list_is_whole s is.vertices rooted.connected is.is_list d h);
        around = all_vertices_go_around m.sigma m.root is.vertices (AreVertices-list s is.vertices is.is_list);
      };
      answered = (refl, rooted);
    }

pub map_text_is_read_again : MapTextIsReadAgain
unfolding lines_of
map_text_is_read_again m limit text rest rooted few is = record {
  lines = lines_of m text is;
  are_lines = are_lines_of m text rooted is;
  rest = rest;
  spelled = ap (λ l. l ++ rest) is.is_text;
  place = ap length is.is_text;
  answered = lines_answered m limit text rooted few is;
}

pub map_file_is_read_again : MapFileIsReadAgain
unfolding lines_of
map_file_is_read_again m limit text rest residue rooted few is after = record {
  lines = lines_of m text is;
  are_lines = are_lines_of m text rooted is;
  rest = rest;
  is_residue = after;
  spelled = ap (λ l. l ++ rest) is.is_text;
  answered = lines_answered m limit text rooted few is;
}

pub sample_file_is_read_again : SampleFileIsReadAgain
sample_file_is_read_again m limit text rest residue rooted few is after = map_file_is_read_again m limit text rest (Some residue) rooted few is after
