-- Each balanced stem tree has a closure, by the steps of its closing; and each stem tree is balanced where it is planted at the start of
-- a run.
use Rattle.std.proofs.Common.{◌≡◌, ℕ, zero, suc, ◌+◌, ◌<◌, ◌≤◌, Bool, true, false, not, inl, inr, List, [], ◌∷◌, ◌++◌, length, length-append, set, slice_index, Some, refl, ap, arith}
use Rattle.std.proofs.lemmas.Bool.{cases_eq}
use Rattle.pm_brackets.specs.declared.letters.TheConstants.{OPEN}
use Rattle.pm_brackets.specs.Word.{IsLetterAt, count}
use Rattle.pm_brackets.proofs.LetterTurns.{letter_few}
use Rattle.pm_brackets.proofs.PlantedAt.{plant_is_marked}
use Rattle.pm_map.specs.Rotation.{structure_of}
use Rattle.std.specs.Prelude.{take}
use Rattle.pm_tri.specs.declared.letters.TheConstants.{STEM}
use Rattle.pm_tri.specs.Runs.{IsBalanced, IsRunStart}
use Rattle.pm_tri.specs.StemTree.{IsInOrder, IsStemTree, contour}
use Rattle.pm_tri.specs.Whole.{whole}
use Rattle.pm_tri.proofs.Replants.{each_stem, replanted_alike}
use Rattle.pm_tri.proofs.RunStarts.{run_marks, two_runs}
use Rattle.pm_tri.proofs.StemLetters.{stem_is_other}
use Rattle.pm_tri.proofs.StemCounts.{stems_count}
use Rattle.pm_triclose.specs.declared.closing.OpenStem.{OpenStem}
use Rattle.pm_triclose.specs.ClosureLaws.{EachBalancedTreeCloses, EachTreeBalances}
use Rattle.pm_triclose.specs.WholeClosure.{ClosesAhead, IsWholeClosure}
use Rattle.pm_triclose.proofs.Closings.{closes_to}
use Rattle.pm_triclose.proofs.ClosingState.{IsClosing, IsClosingSide, bracket_some, closing_close, closing_end, closing_ends, closing_half, closing_more, closing_open, closing_start, closing_stem}
use Rattle.pm_triclose.proofs.WholeInOrder.{whole_ahead, whole_in_order}

-- a list that isn't empty, in front of its last entry and that entry
record HasLast {A : Type 0} (xs : List A) : Type 0 where
  front : List A
  last : A
  is : xs ≡ front ++ last ∷ []

has_last : {A : Type 0} (x : A) (xs : List A) → HasLast (x ∷ xs)
has_last x [] = record { front = []; last = x; is = refl }
has_last x (y ∷ xs) =
    let h = has_last y xs in
    record { front = x ∷ h.front; last = h.last; is = ap (λ zs. x ∷ zs) h.is }

some_last : {A : Type 0} (xs : List A) → 0 < length xs → HasLast xs
some_last [] l = absurd (omega arith)
some_last (x ∷ xs) l = has_last x xs

-- the letters before a place were read
record HasClosing (places : List ℕ) (k : ℕ) : Type 0 where
  sigma : List ℕ
  brackets : List ℕ
  stems : List OpenStem
  last : ℕ
  is : IsClosing places k sigma brackets stems last

module _ (places : List ℕ) (ahead : ClosesAhead places) (k : ℕ) where
  -- the last open stem closes at a side, or waits for another one
  side_step : (sigma brackets : List ℕ) (stems front : List OpenStem) (x : OpenStem) (last : ℕ) (half : Bool) → stems ≡ front ++ x ∷ [] → x.half ≡ half
      → (IsClosingSide places k (set sigma last (x.dart + 1)) brackets front (x.dart + 1) → HasClosing places (suc k)) → IsClosingSide places k sigma brackets stems last → HasClosing places (suc k)
  side_step sigma brackets stems front x last false popped e more h = record {
    sigma = sigma;
    brackets = brackets;
    stems = front ++ record { dart = x.dart; half = true } ∷ [];
    last = last;
    is = closing_half places k sigma brackets stems last front (front ++ record { dart = x.dart; half = true } ∷ []) (Some x) x ahead popped refl (ap not e) refl h;
  }
  side_step sigma brackets stems front x last true popped e more h = more (closing_more places k sigma brackets stems last (set sigma last (x.dart + 1)) front (Some x) x ahead popped refl (ap not e) refl h)

  -- the stems that close at a side, the last one first
  side_passes : (many : ℕ) (sigma brackets : List ℕ) (stems : List OpenStem) (last : ℕ) → length stems ≤ many → IsClosingSide places k sigma brackets stems last → HasClosing places (suc k)
  side_passes many sigma brackets [] last few h = record { sigma = sigma; brackets = brackets; stems = []; last = last; is = closing_ends places k sigma brackets [] last [] ahead refl refl h }
  side_passes zero sigma brackets (x ∷ stems) last few h = absurd (omega arith)
  side_passes (suc many) sigma brackets (x ∷ stems) last few h =
      let l = has_last x stems in
      side_step sigma brackets (x ∷ stems) l.front l.last last l.last.half l.is refl
      (side_passes many (set sigma last (l.last.dart + 1)) brackets l.front (l.last.dart + 1) (let long = length-append l.front (l.last ∷ []) in omega (arith, few, long, ap length l.is))) h

module _ (word : List ℕ) (order : IsInOrder word) (ahead : ClosesAhead (contour word)) where
  closing_step : (i : ℕ) → i < length word → HasClosing (contour word) (suc i) → HasClosing (contour word) (suc (suc i))
  closing_step i l h = elim (cases_eq (slice_index word i) STEM) [
    | inl stem ↦ record {
      sigma = set (h.sigma ++ 0 ∷ 0 ∷ []) h.last (length h.sigma);
      brackets = h.brackets;
      stems = h.stems ++ record { dart = length h.sigma; half = false } ∷ [];
      last = length h.sigma;
      is = closing_stem word order ahead i h.sigma h.brackets h.stems h.last h.is (h.sigma ++ 0 ∷ 0 ∷ []) (set (h.sigma ++ 0 ∷ 0 ∷ []) h.last (length h.sigma)) (h.stems ++ record { dart = length h.sigma; half = false } ∷ [])
          (length h.sigma) stem refl refl refl refl;
    }
    | inr no_stem ↦ elim (cases_eq (slice_index word i) OPEN) [
      | inl opens ↦
          let after : List ℕ = set (h.sigma ++ 0 ∷ 0 ∷ []) h.last (length h.sigma) in
          side_passes (contour word) ahead (suc i) (length h.stems) after (h.brackets ++ length h.sigma ∷ []) h.stems (length h.sigma + 1) (omega arith)
          (closing_open word order ahead i h.sigma h.brackets h.stems h.last h.is (h.sigma ++ 0 ∷ 0 ∷ []) after (h.brackets ++ length h.sigma ∷ []) (length h.sigma) opens refl refl refl refl)
      | inr no_open ↦
          let b = some_last h.brackets (bracket_some word order ahead i h.sigma h.brackets h.stems h.last h.is l no_stem no_open) in
          side_passes (contour word) ahead (suc i) (length h.stems) (set h.sigma h.last (b.last + 1)) b.front h.stems b.last (omega arith)
          (closing_close word order ahead i h.sigma h.brackets h.stems h.last h.is l no_stem no_open (set h.sigma h.last (b.last + 1)) b.front (Some b.last) b.last b.is refl refl)
    ]
  ]

  closing_until : (i : ℕ) → i ≤ length word → HasClosing (contour word) (suc i)
  closing_until zero l = record {
    sigma = 0 ∷ 0 ∷ [];
    brackets = [];
    stems = record { dart = 0; half = false } ∷ [];
    last = 0;
    is = closing_start word order ahead [] (0 ∷ 0 ∷ []) [] [] (record { dart = 0; half = false } ∷ []) 0 refl refl refl refl refl refl;
  }
  closing_until (suc i) l = closing_step i l (closing_until i (omega arith))

  some_closing : (sigma : List ℕ) × IsWholeClosure (contour word) (structure_of (record { sigma = sigma; root = 0 }))
  some_closing =
      let h = closing_until (length word) (omega arith) in
      (set h.sigma h.last 0, closing_end word order ahead (length word) h.sigma h.brackets h.stems h.last h.is (set h.sigma h.last 0) refl refl)

pub balanced_closes : EachBalancedTreeCloses
balanced_closes word t b =
    let closed = some_closing (whole word) (whole_in_order word t b) (whole_ahead word t b) in
    (closed.0, (closes_to word closed.0 t b closed.1).closure)

pub tree_balances : EachTreeBalances
tree_balances word t =
    let runs = two_runs word t in
    let place : ℕ = runs.earlier in
    let stem : ℕ = count STEM (take place (contour word)) in
    let numbered : IsLetterAt STEM (contour word) stem place = record { here = runs.earlier_is.is_before.is_free.stem; before = refl } in
    let few : stem < count STEM (contour word) = letter_few STEM (omega arith) (contour word) stem place numbered in
    let r = each_stem word stem t (let all = stems_count word t in omega (arith, few, all)) in
    let balanced : IsBalanced (contour r.0) = plant_is_marked STEM stem_is_other (omega arith) IsStemTree IsRunStart run_marks word stem place r.0 t runs.earlier_is numbered r.1 in
    let closed = balanced_closes r.0 (replanted_alike word stem r.0 t r.1).stem_tree balanced in
    record { stem = stem; planted = r.0; is_planted = r.1; balanced = balanced; sigma = closed.0; closure = closed.1 }
