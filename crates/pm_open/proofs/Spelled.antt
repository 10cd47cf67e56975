-- What is spelled along the walk of a structure is a balanced blossoming tree, and the structure is its closure.
use Rattle.std.proofs.Common.{◌≡◌, ℕ, zero, suc, ◌-◌, ◌*◌, ◌<◌, ◌≤◌, List, map, refl, sym, ap, ◌∙◌, arith}
use Rattle.std.specs.Prelude.{slice_index}
use Rattle.std.specs.List.{range_with_len}
use Rattle.std.proofs.lemmas.List.FromFn.{length-map-range_with_len, get_or-map-range_with_len}
use Rattle.pm_limits.specs.declared.TheConstants.{MAX_EDGES}
use Rattle.pm_trees.specs.Word.{contour}
use Rattle.pm_trees.specs.Blossoming.{IsBlossoming}
use Rattle.pm_match.specs.Pair.{IsBalanced}
use Rattle.pm_map.specs.Structure.{Structure, IsStructure}
use Rattle.pm_map.specs.FaceDistance.{AreFaceLevels}
use Rattle.pm_close.specs.Closure.{IsClosure}
use Rattle.pm_open.proofs.EvenDegrees.{HasEvenDegrees}
use Rattle.pm_distances.proofs.Walked.{IsWalkedInOrder}
use Rattle.pm_open.proofs.Letters.{letter_of, IsSpelled}
use Rattle.pm_open.proofs.Opened.{IsOpened}
use Rattle.pm_open.proofs.PlaceKinds.{root_cut}
use Rattle.pm_open.proofs.SpelledPairs.{IsReadAlong, plant_free, is_closure, in_order}
use Rattle.pm_open.proofs.SpelledNodes.{degrees, buds_are}

-- each structure with a dart spells a word
pub spells_a_word : (s : Structure) (level : ℕ → ℕ) → 0 < s.darts → (word : List ℕ) × IsSpelled s level (contour word)
spells_a_word s level some =
    let long = length-map-range_with_len (letter_of s level) 1 (s.darts - 1) in
    (map (letter_of s level) (range_with_len 1 (s.darts - 1)), record { as_long = omega (arith, long); each = letters s level }) where
      letters : (s : Structure) (level : ℕ → ℕ) (d : ℕ) → d < s.darts → slice_index (contour (map (letter_of s level) (range_with_len 1 (s.darts - 1)))) d ≡ letter_of s level d
      letters s level zero l = refl
      letters s level (suc k) l = get_or-map-range_with_len (letter_of s level) 1 (s.darts - 1) k (suc k) 0 (omega arith) (omega arith)

-- it is a balanced blossoming tree that closes to the structure
pub spells_a_tree : (s : Structure) (level : ℕ → ℕ) (word : List ℕ) → IsStructure s → 0 < s.darts → s.darts ≤ 2 * MAX_EDGES → HasEvenDegrees s
    → AreFaceLevels s level → IsWalkedInOrder s level → IsOpened s level → IsSpelled s level (contour word)
    → IsBlossoming word × IsBalanced (contour word) × IsClosure (contour word) s
spells_a_tree s level word is some few even levels walked opened spelled =
    let low : level 0 ≡ 0 = ap level (sym walked.root) ∙ levels.root some in
    let read : IsReadAlong s level (contour word) = record { structure = is; some = some; opened = opened; root_cut = root_cut s level low opened.root_up; spelled = spelled } in
    let closes = is_closure s level (contour word) read walked in
    let long = spelled.as_long in (
      record {
        in_order = in_order s level word read;
        short = omega arith;
        degrees = degrees s level word read closes even;
        buds = buds_are s level word read closes;
      },
      plant_free s level (contour word) read,
      closes,
    )
