-- Map files: what stands after the map text.
use Rattle.std.proofs.Common.{◌≡◌, ℕ, ◌+◌, ◌≤◌, List, [], ◌++◌, length, drop, refl, sym, ap, ◌∙◌, arith, length-append}
use Rattle.std.specs.Prelude.{None, codes}
use Rattle.std.proofs.lemmas.List.{append-nil, take-append-drop, length-map}
use Rattle.pm_text.specs.Broken.{IsBrokenLine}
use Rattle.pm_mapfile.specs.MapText.{vertex_lines, map_line}
use Rattle.pm_mapfile.specs.MapFile.{lines_text, BeginsWithMapText, IsMapFile}
use Rattle.pm_mapfile.specs.steps.Lines.{IsReadMap}
use Rattle.pm_mapfile.proofs.ReadLemmas.{vertices_short}
use Rattle.pm_mapfile.proofs.FormLemmas.{HasPrefix, broken_in_narrower, whole_map_text}

-- what breaks the prefix of the bytes breaks them as a map file
file_has_prefix : (file : List ℕ) → BeginsWithMapText file → HasPrefix IsMapFile BeginsWithMapText file
file_has_prefix file b = record {
  prefix = lines_text b.lines;
  count = length b.lines.vertices + 2;
  whole = whole_map_text b.lines b.are_lines;
  rest = b.rest;
  spelled = b.spelled;
  alone = record { lines = b.lines; are_lines = b.are_lines; rest = []; after = (None, record { fit = tt; spelled = refl }); spelled = sym (append-nil (lines_text b.lines)) };
  any = λ other. record { lines = b.lines; are_lines = b.are_lines; rest = other; spelled = refl };
}

pub file_broken : (bytes : List ℕ) (line : ℕ) → IsBrokenLine BeginsWithMapText bytes line → IsBrokenLine IsMapFile bytes line
file_broken bytes line b =
    broken_in_narrower IsMapFile BeginsWithMapText bytes line
    (λ file f. record { lines = f.lines; are_lines = f.are_lines; rest = f.rest; spelled = f.spelled }) file_has_prefix b

-- the bytes from their map text on
pub cut_after : (edges root after : ℕ) (bytes darts sizes : List ℕ) → (r : IsReadMap bytes edges root darts sizes after) → bytes ≡ lines_text (record { edges = edges; root = root; vertices = r.vertices }) ++ drop after bytes
cut_after edges root after bytes darts sizes r = sym (take-append-drop after bytes) ∙ ap (λ l. l ++ drop after bytes) r.prefix

-- a map text has more bytes than lines
pub text_fits : (edges root after : ℕ) (bytes darts sizes : List ℕ) → IsReadMap bytes edges root darts sizes after → length sizes + 4 ≤ length bytes
text_fits edges root after bytes darts sizes r =
    let prefix = map_line edges root ++ vertex_lines r.vertices in
    omega (
      arith,
      ap length (cut_after edges root after bytes darts sizes r),
      length-append (prefix ++ codes "end\n") (drop after bytes),
      length-append prefix (codes "end\n"),
      length-append (map_line edges root) (vertex_lines r.vertices),
      vertices_short r.vertices,
      ap length r.sizes_are,
      length-map r.vertices length,
    )
