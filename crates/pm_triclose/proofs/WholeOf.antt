-- What the whole tree has of a balanced stem tree.
use Rattle.std.proofs.Common.{◌≡◌, ◌≢◌, ℕ, suc, ◌+◌, ◌-◌, ◌<◌, inl, inr, List, [], ◌∷◌, length, slice_index, refl, ap, ◌∙◌, sym, subst, arith}
use Rattle.std.proofs.lemmas.Bool.{cases_eq, cases_lt}
use Rattle.pm_brackets.specs.PlantedAt.{AreTwo}
use Rattle.pm_brackets.specs.declared.letters.TheConstants.{OPEN, CLOSE}
use Rattle.pm_brackets.proofs.RingPlaces.{mod_under}
use Rattle.pm_tri.specs.declared.letters.TheConstants.{STEM}
use Rattle.pm_tri.specs.Runs.{IsBalanced, IsClosing, IsInRun, IsRunStart}
use Rattle.pm_tri.specs.Sides.{letter}
use Rattle.pm_tri.specs.StemTree.{IsStemTree, contour}
use Rattle.pm_tri.specs.Whole.{IsAhead, whole}
use Rattle.pm_tri.proofs.ClosingLaws.{closes_or_free, in_some_run, plant_high}
use Rattle.pm_tri.proofs.HighCorners.{high_free, high_stem, place_letter}
use Rattle.pm_tri.proofs.Meetings.{closes_ahead, meeting_side}
use Rattle.pm_tri.proofs.RunLevels.{end_level, last, level_other}
use Rattle.pm_tri.proofs.RunStarts.{two_runs}
use Rattle.pm_tri.proofs.SideCounts.{tree_falls}
use Rattle.pm_tri.proofs.WholeTree as wholes

-- what becomes of a stem of the tree
pub data IsClosed (places : List ℕ) (start x : ℕ) : Type 0 where
  at_side : (q : ℕ) → IsClosing places x q → IsClosed places start x
  in_plants : IsInRun places 0 x → IsClosed places start x
  in_other : IsInRun places start x → IsClosed places start x

-- the letters and the closings of the whole tree of a tree whose last place is a stem, and whose other run starts at `start`
pub record IsWholeOf (places all : List ℕ) (last start : ℕ) : Type 0 where
  pub some : 0 < last
  pub long : length places ≡ suc last
  pub wide : length all ≡ last + 4
  pub kept : (k : ℕ) → k < last → slice_index all k ≡ slice_index places k
  pub end : slice_index places last ≡ STEM
  pub first : slice_index all last ≡ OPEN
  pub second : slice_index all (last + 1) ≡ OPEN
  pub third : slice_index all (last + 2) ≡ CLOSE
  pub fourth : slice_index all (last + 3) ≡ CLOSE
  pub is_other : start ≢ 0
  pub starts : IsRunStart places start
  pub one_start : (r : ℕ) → r ≢ 0 → IsRunStart places r → r ≡ start
  pub old_side : (x q : ℕ) → IsClosing places x q → q < last
  pub closes_old : (x q : ℕ) → IsClosing places x q → IsAhead all x q
  pub closes_a : (x : ℕ) → IsInRun places 0 x → IsAhead all x (suc last)
  pub closes_b : (x : ℕ) → IsInRun places start x → x < last → IsAhead all x last
  pub last_in : IsInRun places start last
  pub each : (x : ℕ) → slice_index places x ≡ STEM → IsClosed places start x

-- the run start that isn't the plant
pub record IsSecondStart (places : List ℕ) (start : ℕ) : Type 0 where
  pub is_other : start ≢ 0
  pub starts : IsRunStart places start
  pub one_start : (r : ℕ) → r ≢ 0 → IsRunStart places r → r ≡ start

pub second_start : (places : List ℕ) → IsBalanced places → (two : AreTwo (IsRunStart places)) → IsSecondStart places two.later
second_start places b two =
    let order = two.in_order in
    let first : two.earlier ≡ 0 = elim (two.no_third 0 b) [ inl e ↦ sym e | inr e ↦ absurd (omega (arith, e, order)) ] in
    record {
      is_other = λ e. omega (arith, e, order);
      starts = two.later_is;
      one_start = λ r ne s. elim (two.no_third r s) [ inl e ↦ absurd (ne (e ∙ first)) | inr e ↦ e ];
    }

module _ (word : List ℕ) (t : IsStemTree word) (b : IsBalanced (contour word)) where
  end_letter : slice_index (contour word) (length word) ≡ STEM
  end_letter =
      let w = tree_falls word t in
      let e : length (contour word) - 1 ≡ length word = omega arith in
      let s = high_stem (contour word) w (length (contour word) - 1) (last (contour word) w b) in
      sym (place_letter (contour word) w (length word) (omega arith)) ∙ subst (λ (k : ℕ). letter (contour word) k ≡ STEM) e s.stem

  side_before : (x q : ℕ) → IsClosing (contour word) x q → q < length word
  side_before x q c =
      let w = tree_falls word t in
      let m = closes_ahead (contour word) w x q (plant_high (contour word) w b) c in
      let side = meeting_side (contour word) w x q m in
      let l = mod_under (x + c.steps) (length (contour word)) (omega arith) in
      let within : q < length (contour word) = omega (arith, l, c.meets) in
      elim (cases_lt q (length word)) [
        | inl fine ↦ fine
        | inr past ↦
            let e : length word ≡ q = omega arith in
            absurd (side.no_stem (place_letter (contour word) w q within ∙ subst (λ (k : ℕ). slice_index (contour word) k ≡ STEM) e end_letter))
      ]

  last_stem : (r : ℕ) → r ≢ 0 → IsRunStart (contour word) r → IsInRun (contour word) r (length word)
  last_stem r ne s =
      let w = tree_falls word t in
      let e : length (contour word) - 1 ≡ length word = omega arith in
      let high = last (contour word) w b in
      let free = high_free (contour word) w (length (contour word) - 1) (omega arith) high in
      subst (IsInRun (contour word) r) e (level_other (contour word) w b (two_runs word t) r (length (contour word) - 1) s ne free (end_level (contour word) w b))

  each_closes : (start x : ℕ) → IsSecondStart (contour word) start → slice_index (contour word) x ≡ STEM → IsClosed (contour word) start x
  each_closes start x s e = elim (closes_or_free word x t e) [
    | inl c ↦ at_side c.0 c.1
    | inr f ↦
        let run = in_some_run word x t f in
        elim (cases_eq run.0 0) [
          | inl z ↦ in_plants (subst (λ (r : ℕ). IsInRun (contour word) r x) z run.1)
          | inr ne ↦ in_other (subst (λ (r : ℕ). IsInRun (contour word) r x) (s.one_start run.0 ne run.1.starts) run.1)
        ]
  ]

  new_letter : (j x : ℕ) → j < 4 → slice_index (OPEN ∷ OPEN ∷ CLOSE ∷ CLOSE ∷ []) j ≡ x → slice_index (contour (whole word)) (length word + j) ≡ x
  new_letter j x l e = wholes.letter_new word t b j l ∙ e

  pub whole_of : (start : ℕ) → IsSecondStart (contour word) start → IsWholeOf (contour word) (contour (whole word)) (length word) start
  whole_of start s =
      let e : length word + 0 ≡ length word = omega arith in
      record {
        some = wholes.filled word t b;
        long = refl;
        wide = wholes.long word t b;
        kept = wholes.letter_kept word t b;
        end = end_letter;
        first = ap (slice_index (contour (whole word))) (sym e) ∙ new_letter 0 OPEN (omega arith) refl;
        second = new_letter 1 OPEN (omega arith) refl;
        third = new_letter 2 CLOSE (omega arith) refl;
        fourth = new_letter 3 CLOSE (omega arith) refl;
        is_other = s.is_other;
        starts = s.starts;
        one_start = s.one_start;
        old_side = side_before;
        closes_old = λ x q c. wholes.alike word t b x q c;
        closes_a = λ x i. wholes.plants word t b x i;
        closes_b = λ x i l. wholes.others word t b start x s.is_other i l;
        last_in = last_stem start s.is_other s.starts;
        each = λ x i. each_closes start x s i;
      }
