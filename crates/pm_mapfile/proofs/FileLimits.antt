-- A map file within one limit of edges and within another.
use Rattle.std.proofs.Common.{◌≡◌, ℕ, ◌*◌, ◌≤◌, List, length, Ok, ap, arith}
use Rattle.std.specs.Prelude.{Option}
use Rattle.pm_map.specs.Rotation.{RotationSystem}
use Rattle.pm_mapfile.specs.Answers.{AnswersFile}

-- the limit is only compared with the edges of the map
pub within_limit : (bytes : List ℕ) (limit other : ℕ) (residue : Option (List ℕ)) (map : RotationSystem) → length map.sigma ≤ 2 * other → AnswersFile bytes limit residue (Ok map)
    → AnswersFile bytes other residue (Ok map)
within_limit bytes limit other residue map few file =
    let told = file.answered in
    let are = file.are_lines in
    let around = told.is_rotation in
    let darts : length map.sigma ≡ length told.sigma = ap (λ (m : RotationSystem). length m.sigma) told.answered.0 in
    let stand = around.size in
    let count = are.count in
    record {
      lines = file.lines;
      are_lines = are;
      rest = file.rest;
      is_residue = file.is_residue;
      spelled = file.spelled;
      answered = record { few = omega (arith, few, darts, stand, count); sigma = told.sigma; is_rotation = around; answered = told.answered };
    }
