-- The state of the closing, whatever the other brackets are.
use Rattle.std.proofs.Common.{◌≡◌, ◌≢◌, ℕ, suc, ◌+◌, ◌*◌, ◌<◌, ◌≤◌, true, false, not, ltb, List, [], ◌∷◌, ◌++◌, length, set, slice_index, Option, Some, option_to_list, refl, ap, ◌∙◌, sym, subst, arith}
use Rattle.std.proofs.lemmas.Bool.{not-false, not-true}
use Rattle.pm_brackets.specs.declared.letters.TheConstants.{OPEN}
use Rattle.pm_brackets.specs.Word.{IsBracketPair}
use Rattle.pm_brackets.proofs.Levels.{inside}
use Rattle.pm_map.specs.Rotation.{structure_of}
use Rattle.pm_map.proofs.NumberedEdges.{firsts, firsts_is}
use Rattle.pm_perm.proofs.Counts.{count_below-bound}
use Rattle.pm_tri.specs.declared.letters.TheConstants.{STEM}
use Rattle.pm_tri.specs.StemTree.{IsInOrder, contour}
use Rattle.pm_triclose.specs.declared.closing.OpenStem.{OpenStem}
use Rattle.pm_triclose.specs.WholeClosure.{ClosesAhead, IsWholeClosure}
use Rattle.pm_triclose.proofs.ClosingSteps.{IsAtSide, IsPassed, bracket_few, bracket_there, passed_end, passed_start, passed_stem, side_close, side_ends, side_half, side_more, side_open, stem_few}
use Rattle.pm_triclose.proofs.DartNumbers.{IsDrawn, IsPlace, a_closer, a_stem, an_opener, drawn}
use Rattle.pm_triclose.proofs.OpenStems.{closer_here, opener_here}

-- the letters before place k were read
pub record IsClosing (places : List ℕ) (k : ℕ) (sigma brackets : List ℕ) (stems : List OpenStem) (last : ℕ) : Type 0 where
  pub t : ℕ → ℕ
  pub drawn : IsDrawn places t
  pub passed : IsPassed places t k sigma brackets stems last

-- the side at q was read, and some of the stems that close there were closed
pub record IsClosingSide (places : List ℕ) (q : ℕ) (sigma brackets : List ℕ) (stems : List OpenStem) (last : ℕ) : Type 0 where
  pub t : ℕ → ℕ
  pub drawn : IsDrawn places t
  pub at_side : IsAtSide places t q sigma brackets stems last

-- there are at most two darts for each place
firsts_few : (t : ℕ → ℕ) (k : ℕ) → firsts t k ≤ k
firsts_few t k = omega (arith, firsts_is t k, count_below-bound (λ (p : ℕ). ltb p (t p)) k)

module _ (places : List ℕ) (k : ℕ) (sigma brackets : List ℕ) (stems : List OpenStem) (last : ℕ) where
  pub closing_few : IsClosing places k sigma brackets stems last → length sigma ≤ 2 * k
  closing_few h = omega (arith, h.passed.long, firsts_few h.t k)

  pub closing_last : IsClosing places k sigma brackets stems last → last < length sigma
  closing_last h = h.passed.links.within

  pub side_few : IsClosingSide places k sigma brackets stems last → length sigma ≤ 2 * suc k
  side_few h = omega (arith, h.at_side.long, firsts_few h.t (suc k))

  pub side_last : IsClosingSide places k sigma brackets stems last → last < length sigma
  side_last h = h.at_side.links.within

  pub side_dart : (rest : List OpenStem) (r : Option OpenStem) (stem : OpenStem) → ClosesAhead places → stems ≡ rest ++ option_to_list r → r ≡ Some stem → IsClosingSide places k sigma brackets stems last → stem.dart < length sigma
  side_dart rest r stem ahead popped some h = stem_few places h.t h.drawn ahead k sigma brackets stems rest last r stem popped some h.at_side

  -- a stem that closes at the side
  pub closing_more : (after : List ℕ) (rest : List OpenStem) (r : Option OpenStem) (stem : OpenStem) → ClosesAhead places → stems ≡ rest ++ option_to_list r → r ≡ Some stem → not stem.half ≡ false
      → after ≡ set sigma last (stem.dart + 1) → IsClosingSide places k sigma brackets stems last → IsClosingSide places k after brackets rest (stem.dart + 1)
  closing_more after rest r stem ahead popped some half written h = record {
    t = h.t;
    drawn = h.drawn;
    at_side = side_more places h.t h.drawn ahead k sigma after brackets stems rest last r stem popped some (not-false stem.half half) written h.at_side;
  }

  -- no stem is open any more
  pub closing_ends : (rest : List OpenStem) → ClosesAhead places → stems ≡ rest → rest ≡ [] → IsClosingSide places k sigma brackets stems last → IsClosing places (suc k) sigma brackets rest last
  closing_ends rest ahead same empty h =
      subst (λ (xs : List OpenStem). IsClosing places (suc k) sigma brackets xs last) same
      (record { t = h.t; drawn = h.drawn; passed = side_ends places h.t h.drawn ahead k sigma brackets stems last (same ∙ empty) h.at_side })

  -- a stem that is open still
  pub closing_half : (rest more : List OpenStem) (r : Option OpenStem) (stem : OpenStem) → ClosesAhead places → stems ≡ rest ++ option_to_list r → r ≡ Some stem → not stem.half ≡ true
      → more ≡ rest ++ record { dart = stem.dart; half = true } ∷ [] → IsClosingSide places k sigma brackets stems last → IsClosing places (suc k) sigma brackets more last
  closing_half rest more r stem ahead popped some half pushed h = record {
    t = h.t;
    drawn = h.drawn;
    passed = side_half places h.t h.drawn ahead k sigma brackets stems rest more last r stem (record { dart = stem.dart; half = true }) popped some (not-true stem.half half) pushed refl refl h.at_side;
  }

module _ (word : List ℕ) (order : IsInOrder word) (ahead : ClosesAhead (contour word)) where
  pub closing_start : (none sigma brackets : List ℕ) (open' stems : List OpenStem) (last : ℕ) → none ≡ [] → sigma ≡ none ++ 0 ∷ 0 ∷ [] → last ≡ length none → brackets ≡ [] → open' ≡ []
      → stems ≡ open' ++ record { dart = last; half = false } ∷ [] → IsClosing (contour word) 1 sigma brackets stems last
  closing_start none sigma brackets open' stems last empty is first no_bracket no_stem pushed =
      let e : last ≡ 0 = first ∙ ap length empty in
      let f = drawn word order in
      subst (IsClosing (contour word) 1 sigma brackets stems) (sym e) (record {
        t = f.0;
        drawn = f.1;
        passed = passed_start (contour word) f.0 f.1 ahead sigma brackets stems (record { dart = last; half = false }) refl (is ∙ ap (λ (xs : List ℕ). xs ++ 0 ∷ 0 ∷ []) empty) no_bracket
            (pushed ∙ ap (λ (xs : List OpenStem). xs ++ record { dart = last; half = false } ∷ []) no_stem) e refl;
      })

  module _ (i : ℕ) (sigma brackets : List ℕ) (stems : List OpenStem) (last : ℕ) (h : IsClosing (contour word) (suc i) sigma brackets stems last) where
    pub closing_stem : (wide after : List ℕ) (more : List OpenStem) (dart : ℕ) → slice_index word i ≡ STEM → dart ≡ length sigma → wide ≡ sigma ++ 0 ∷ 0 ∷ [] → after ≡ set wide last dart
        → more ≡ stems ++ record { dart = dart; half = false } ∷ [] → IsClosing (contour word) (suc (suc i)) after brackets more dart
    closing_stem wide after more dart e is grown written pushed = record {
      t = h.t;
      drawn = h.drawn;
      passed = passed_stem (contour word) h.t h.drawn ahead (suc i) sigma wide after brackets stems more last (record { dart = dart; half = false }) e is refl grown written pushed h.passed;
    }

    -- the brackets at the place
    opener : slice_index word i ≡ OPEN → (q : ℕ) × IsBracketPair (contour word) (suc i) q
    opener e = found (h.drawn.each (suc i) (inside (contour word) (suc i) OPEN (omega arith) e)) where
      found : IsPlace (contour word) (suc i) → (q : ℕ) × IsBracketPair (contour word) (suc i) q
      found (a_stem f) = absurd (omega (arith, e, f))
      found (an_opener q a) = (q, a)
      found (a_closer p a) = absurd (let c = a.closes in omega (arith, e, c))

    closer : i < length word → slice_index word i ≢ STEM → slice_index word i ≢ OPEN → (p : ℕ) × IsBracketPair (contour word) p (suc i)
    closer l no_stem no_open = found (h.drawn.each (suc i) (omega (arith, l))) where
      found : IsPlace (contour word) (suc i) → (p : ℕ) × IsBracketPair (contour word) p (suc i)
      found (a_stem f) = absurd (no_stem f)
      found (an_opener q a) = absurd (no_open a.opens)
      found (a_closer p a) = (p, a)

    pub closing_open : (wide after more : List ℕ) (dart : ℕ) → slice_index word i ≡ OPEN → dart ≡ length sigma → wide ≡ sigma ++ 0 ∷ 0 ∷ [] → after ≡ set wide last dart
        → more ≡ brackets ++ dart ∷ [] → IsClosingSide (contour word) (suc i) after more stems (dart + 1)
    closing_open wide after more dart e is grown written pushed =
        let a = opener e in
        record {
          t = h.t;
          drawn = h.drawn;
          at_side = side_open (contour word) h.t h.drawn ahead (suc i) a.0 sigma wide after brackets more stems last dart a.1 (opener_here (contour word) (suc i) e) is grown written pushed h.passed;
        }

    module _ (l : i < length word) (no_stem : slice_index word i ≢ STEM) (no_open : slice_index word i ≢ OPEN) where
      pub closing_close : (after rest : List ℕ) (r : Option ℕ) (dart : ℕ) → brackets ≡ rest ++ option_to_list r → r ≡ Some dart → after ≡ set sigma last (dart + 1)
          → IsClosingSide (contour word) (suc i) after rest stems dart
      closing_close after rest r dart popped some written =
          let a = closer l no_stem no_open in
          record {
            t = h.t;
            drawn = h.drawn;
            at_side = side_close (contour word) h.t h.drawn ahead (suc i) a.0 sigma after brackets rest stems last dart r a.1 (closer_here (contour word) (suc i) a.1.closes) popped some written h.passed;
          }

      pub bracket_some : 0 < length brackets
      bracket_some = let a = closer l no_stem no_open in bracket_there (contour word) h.t h.drawn ahead (suc i) a.0 sigma brackets stems last a.1 h.passed

      pub bracket_dart : (rest : List ℕ) (r : Option ℕ) (dart : ℕ) → brackets ≡ rest ++ option_to_list r → r ≡ Some dart → dart < length sigma
      bracket_dart rest r dart popped some = let a = closer l no_stem no_open in bracket_few (contour word) h.t h.drawn ahead (suc i) a.0 sigma brackets rest stems last dart r a.1 popped some h.passed

    pub closing_end : (after : List ℕ) → i ≡ length word → after ≡ set sigma last 0 → IsWholeClosure (contour word) (structure_of (record { sigma = after; root = 0 }))
    closing_end after e written = passed_end (contour word) h.t h.drawn ahead (suc i) sigma after brackets stems last refl (omega (arith, e)) written h.passed
