-- How many bytes lines of lists and map texts have at most.
use Rattle.std.proofs.Common.{◌≡◌, ℕ, suc, ◌+◌, ◌*◌, ◌<◌, ◌≤◌, ◌^◌, List, [], ◌∷◌, ◌++◌, length, length-append, decimal, inl, inr, Ok, refl, ap, arith}
use Rattle.std.specs.Prelude.{All, Some, codes}
use Rattle.std.specs.List.{concat}
use Rattle.std.proofs.lemmas.Bool.{cases_eq}
use Rattle.std.proofs.lemmas.Fmt.{length-decimal-le}
use Rattle.std.proofs.lemmas.List.Elements.{All-head, All-tail, All-get_or, All-from_get_or}
use Rattle.pm_limits.specs.declared.TheConstants.{MAX_EDGES}
use Rattle.pm_text.specs.Broken.{newline}
use Rattle.pm_lists.specs.ListLine.{AreWords, list_line}
use Rattle.pm_lists.specs.Valid.{IsValidList}
use Rattle.pm_map.specs.Rotation.{RotationSystem}
use Rattle.pm_lists.specs.Numbers.{spaced_numbers}
use Rattle.pm_mapfile.specs.MapText.{vertex_line, vertex_lines, map_line}
use Rattle.pm_mapfile.specs.MapFile.{MapLines, AreMapLines, IsVertexLine, lines_text}
use Rattle.pm_mapfile.specs.Answers.{AnswersFile}
use Rattle.pm_lists.proofs.NumberLemmas.{words_few}
use Rattle.pm_mapfile.proofs.NumberLines.{list_line_tagged}

-- the line of a list with its newline
pub line_few : (digits : ℕ) (tag numbers : List ℕ) → 0 < digits → All (λ number. number < 10 ^ digits) numbers → All (λ number. number < 2 ^ 64) numbers
    → length (list_line tag numbers ++ newline ∷ []) ≤ length tag + length numbers * suc digits + 1
line_few digits tag numbers some low fit =
    omega (arith, ap length (list_line_tagged tag numbers), length-append tag (spaced_numbers numbers), length-append (list_line tag numbers) (newline ∷ []), words_few digits numbers some low fit)

-- numbers below a bound are below a greater one
all_below : (a b : ℕ) (numbers : List ℕ) → a ≤ b → All (λ n. n < a) numbers → All (λ n. n < b) numbers
all_below a b numbers le below = λ k d h. omega (arith, below k d h, le)

-- the lines of vertices: none is empty, so there are no more lines than darts
record AreFew (vertices : List (List ℕ)) : Type 0 where
  bytes : length (vertex_lines vertices) ≤ 2 * length vertices + 8 * length (concat vertices)
  lines : length vertices ≤ length (concat vertices)

vertices_few : (darts : ℕ) (vertices : List (List ℕ)) → darts ≤ 10000000 → All (IsVertexLine darts) vertices → AreFew vertices
vertices_few darts [] few each = record { bytes = omega arith; lines = omega arith }
vertices_few darts (vertex ∷ vertices) few each =
    let is = All-head (IsVertexLine darts) vertex vertices each in
    let rest = vertices_few darts vertices few (All-tail (IsVertexLine darts) vertex vertices each) in
    let words = words_few 7 vertex (omega arith) (all_below darts 10000000 vertex few is.below) is.fit in
    let bytes = rest.bytes in
    let lines = rest.lines in
    let some = is.some in
    record {
      bytes = omega (
        arith,
        bytes,
        words,
        length-append (vertex_line vertex) (vertex_lines vertices),
        length-append vertex (concat vertices),
        length-append (codes "v") (spaced_numbers vertex ++ 10 ∷ []),
        length-append (spaced_numbers vertex) (10 ∷ []),
      );
      lines = omega (arith, lines, some, length-append vertex (concat vertices));
    }

-- a map text with so many edges
pub lines_few : (m : MapLines) → AreMapLines m → m.edges ≤ MAX_EDGES → length (lines_text m) ≤ 20 * m.edges + 24
lines_few m are few =
    let vertices = vertices_few (2 * m.edges) m.vertices (omega (arith, few)) are.each in
    let bytes = vertices.bytes in
    let lines = vertices.lines in
    let count = are.count in
    let first = first_few m.edges m.root few are.first.within are.first.no_edge are.first.edges_fit are.first.root_fits in
    omega (arith, bytes, lines, count, first, length-append (map_line m.edges m.root ++ vertex_lines m.vertices) (codes "end\n"), length-append (map_line m.edges m.root) (vertex_lines m.vertices)) where
      below : (edges root : ℕ) → edges ≤ MAX_EDGES → (0 < edges → root < 2 * edges) → (edges ≡ 0 → root ≡ 0) → root < 10000000
      below edges root few within none = elim (cases_eq edges 0) [
        | inl zero_is ↦ omega (arith, none zero_is)
        | inr some ↦ omega (arith, within (omega (arith, some)), few)
      ]

      first_few : (edges root : ℕ) → edges ≤ MAX_EDGES → (0 < edges → root < 2 * edges) → (edges ≡ 0 → root ≡ 0) → edges < 2 ^ 64 → root < 2 ^ 64 → length (map_line edges root) ≤ 20
      first_few edges root few within none edges_fit root_fits =
          let low : root < 10000000 = below edges root few within none in
          let one = length-decimal-le 7 edges (omega arith) (omega (arith, few)) edges_fit in
          let two = length-decimal-le 7 root (omega arith) low root_fits in
          let spaced : List ℕ = decimal edges ++ 32 ∷ [] in
          let both : List ℕ = spaced ++ decimal root in
          let whole : length (map_line edges root) ≡ suc (suc (suc (suc (length (both ++ 10 ∷ []))))) = refl in
          omega (arith, one, two, whole, length-append both (10 ∷ []), length-append spaced (decimal root), length-append (decimal edges) (32 ∷ []))

-- a valid list has numbers below what the bounds are at most
pub valid_below : (numbers bounds : List ℕ) (most : ℕ) → IsValidList numbers bounds → All (λ bound. bound ≤ most) bounds → All (λ number. number < most) numbers
valid_below numbers bounds most valid low =
    All-from_get_or (λ number. number < most) numbers 0
    (λ k h. omega (arith, valid.below k h, All-get_or (λ bound. bound ≤ most) bounds k 0 (omega (arith, valid.as_long, h)) low))

-- a file of a map and a residue: so many bytes at most where the residue's bounds are at most twice the greatest number of
-- edges
pub sample_file_few : (bytes bounds residue : List ℕ) (limit : ℕ) (map : RotationSystem) → limit ≤ MAX_EDGES → AnswersFile bytes limit (Some residue) (Ok map) → IsValidList residue bounds
    → All (λ bound. bound ≤ 2 * MAX_EDGES) bounds → length bytes ≤ 20 * MAX_EDGES + 24 + (8 * length bounds + 8)
sample_file_few bytes bounds residue limit map within file valid low =
    let few = file.answered.few in
    let text = lines_few file.lines file.are_lines (omega (arith, few, within)) in
    let below = all_below (2 * MAX_EDGES) 10000000 residue (omega arith) (valid_below residue bounds (2 * MAX_EDGES) valid low) in
    let fit = all_below (2 * MAX_EDGES) (2 ^ 64) residue (omega arith) (valid_below residue bounds (2 * MAX_EDGES) valid low) in
    let line = line_few 7 (codes "residue") residue (omega arith) below fit in
    omega (arith, ap length file.spelled, length-append (lines_text file.lines) file.rest, ap length file.is_residue.spelled, text, few, within, line, valid.as_long)

-- a file of choices
pub choices_file_few : (choices : List ℕ) → length choices ≤ 2 * MAX_EDGES + 2 → AreWords choices → length (list_line (codes "choices") choices ++ newline ∷ []) ≤ 176160818
choices_file_few choices few words =
    omega (arith, few, line_few 20 (codes "choices") choices (omega arith) (all_below (2 ^ 64) (10 ^ 20) choices (omega arith) words.each) words.each)
