-- No bytes are without an answer.
use Rattle.std.proofs.Common.{◌≡◌, ℕ, suc, ◌*◌, ◌<◌, ◌≤◌, inl, inr, List, map, length, slice_index, Option, Result, Ok, Err, refl, ap, subst, arith}
use Rattle.std.specs.List.{Contains, concat, range_with_len}
use Rattle.std.proofs.lemmas.Bool.{cases_lt}
use Rattle.std.proofs.lemmas.List.FromFn.{get_or-map-range_with_len, length-map-range_with_len}
use Rattle.pm_limits.specs.declared.TheConstants.{MAX_EDGES}
use Rattle.pm_perm.proofs.InverseLemmas.{place_of, place_of-value}
use Rattle.pm_perm.proofs.Contained.{is_at}
use Rattle.pm_perm.proofs.LeastCases.{all_or_least}
use Rattle.pm_text.specs.Broken.{lines, GoesOnValid, IsBrokenLine}
use Rattle.pm_text.proofs.WholeFiles.{same_to_the_end}
use Rattle.pm_map.specs.declared.rooted_map.RootedMap.{RootedMap}
use Rattle.pm_map.specs.declared.refusal.MapRefusal.{MapRefusal}
use Rattle.pm_map.specs.declared.refusal.MapRefusal.TheVariants.{Memory as MemoryOfMap, TooMany, NotPermutation, NotConnected, Genus}
use Rattle.pm_map.proofs.SomeParts.{some_map_answer}
use Rattle.pm_mapfile.specs.declared.refusal.FileRefusal.{FileRefusal}
use Rattle.pm_mapfile.specs.declared.refusal.FileRefusal.TheVariants.{Memory, Text, Map}
use Rattle.pm_mapfile.specs.Answers.{IsLinesAnswer, AnswersFile, IsAnswerOfForm}
use Rattle.pm_mapfile.specs.MapFile.{MapLines, AreMapLines, IsResidue, IsTextBefore}
use Rattle.pm_mapfile.specs.steps.Rotation.{turned_lines, CarriesOn}
use Rattle.pm_mapfile.proofs.LinesLemmas.{sizes_of_lines, rotation_of}
use Rattle.pm_mapfile.proofs.LineCycles.{lines_permute}

-- a file is valid, or some line is broken
pub valid_or_broken : (valid : List ℕ → Type 0) (bytes : List ℕ) → (valid bytes → ⊥) → ((line : ℕ) → IsBrokenLine valid bytes line → ⊥) → ⊥
valid_or_broken valid bytes fine broken =
    all_or_least (GoesOnValid valid bytes) (suc (suc (length (lines bytes))))
    (λ all. let whole = all (suc (length (lines bytes))) (omega arith) in fine (subst valid (same_to_the_end whole.file bytes whole.same) whole.is_valid))
    (λ line is. broken line (record { broken = λ file valid_file same. is.breaks (record { file = file; is_valid = valid_file; same = same }); least = is.least }))

-- the rotation of lines on which each dart stands
rotation_exists : (m : MapLines) → ((d : ℕ) → d < length (concat m.vertices) → Contains (concat m.vertices) d)
    → (sigma : List ℕ) × CarriesOn (concat m.vertices) (turned_lines (map length m.vertices) (concat m.vertices)) sigma
rotation_exists m all =
    let darts : List ℕ = concat m.vertices in
    let after : List ℕ = turned_lines (map length m.vertices) darts in
    let place : ℕ → ℕ = place_of (slice_index darts) (length darts) in
    let next : ℕ → ℕ = λ d. slice_index after (place d) in (
      map next (range_with_len 0 (length darts)),
      record {
        size = length-map-range_with_len next 0 (length darts);
        each = λ d h.
            let stands = all d h in
            let found : (place d < length darts) × (slice_index darts (place d) ≡ d) = place_of-value (slice_index darts) (length darts) d (record { from = stands.0; below = stands.1; value = is_at darts d stands }) in
            record { place = place d; within = found.0; here = found.1; is_next = get_or-map-range_with_len next 0 (length darts) d d 0 h (omega arith) };
      },
    )

-- lines are answered
some_lines_answer : (m : MapLines) (limit : ℕ) → AreMapLines m → limit ≤ MAX_EDGES
    → ((answer : Result RootedMap MapRefusal) → IsLinesAnswer m limit answer → (answer ≡ Err MemoryOfMap → ⊥) → ⊥) → ⊥
some_lines_answer m limit are le told = elim (cases_lt limit m.edges) [
  | inl many ↦ told (Err (TooMany m.edges)) (record { many = many; counted = refl }) (λ e. cc)
  | inr few ↦
      all_or_least (Contains (concat m.vertices)) (length (concat m.vertices)) (λ all. whole few (rotation_exists m all))
      (λ dart missing. told (Err (NotPermutation dart)) (record { few = few; missing = missing }) (λ e. cc))
] where
  whole : m.edges ≤ limit → (sigma : List ℕ) × CarriesOn (concat m.vertices) (turned_lines (map length m.vertices) (concat m.vertices)) sigma → ⊥
  whole few found =
      let sigma : List ℕ = found.0 in
      let is = rotation_of m sigma are found.1 in
      let permutes = lines_permute (concat m.vertices) (map length m.vertices) sigma (sizes_of_lines m are) found.1 in
      let first = are.first in
      let long : length sigma ≡ 2 * m.edges = omega (arith, is.size, are.count) in
      some_map_answer sigma m.root (omega (arith, long)) (omega (arith, long, few, le)) permutes (λ some. omega (arith, long, first.within (omega (arith, long, some)))) (λ none. first.no_edge (omega (arith, long, none)))
      (λ rooted. told (Ok (record { sigma = sigma; root = m.root })) (record { few = few; sigma = sigma; is_rotation = is; answered = (refl, rooted) }) (λ e. cc))
      (λ dart apart. told (Err (NotConnected dart)) (record { few = few; sigma = sigma; is_rotation = is; answered = apart }) (λ e. cc))
      (λ euler genus. told (Err (Genus euler)) (record { few = few; sigma = sigma; is_rotation = is; answered = genus }) (λ e. cc))

-- bytes that should be a map text, and after it what is read: they have an answer
module _ {Read : Type 0} (of : Read → Option (List ℕ)) (bytes : List ℕ) (limit : ℕ) (le : limit ≤ MAX_EDGES) where
  abbrev Form : List ℕ → Type 0
  Form file = IsTextBefore (λ rest. (read : Read) × IsResidue (of read) rest) file

  abbrev Told : Result (RootedMap × Read) FileRefusal → Type 0
  Told answer = IsAnswerOfForm Form (λ read. AnswersFile bytes limit (of read)) bytes answer

  formed : Form bytes → ((answer : Result (RootedMap × Read) FileRefusal) → Told answer → (answer ≡ Err Memory → ⊥) → ⊥) → (answer : Result RootedMap MapRefusal)
      → (file : Form bytes) → IsLinesAnswer file.lines limit answer → (answer ≡ Err MemoryOfMap → ⊥) → ⊥
  formed _ told (Ok found) file is memory =
      told (Ok (found, file.after.0)) (record { lines = file.lines; are_lines = file.are_lines; rest = file.rest; is_residue = file.after.1; spelled = file.spelled; answered = is }) (λ e. cc)
  formed _ told (Err why) file is memory =
      told (Err (Map why))
      ((file.after.0, record { lines = file.lines; are_lines = file.are_lines; rest = file.rest; is_residue = file.after.1; spelled = file.spelled; answered = is }), λ e. memory (ap Err e)) (λ e. cc)

  pub some_answer : ((answer : Result (RootedMap × Read) FileRefusal) → Told answer → (answer ≡ Err Memory → ⊥) → ⊥) → ⊥
  some_answer told =
      valid_or_broken Form bytes (λ file. some_lines_answer file.lines limit file.are_lines le (λ answer is memory. formed file told answer file is memory))
      (λ line broken. told (Err (Text line)) broken (λ e. cc))
