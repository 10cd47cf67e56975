-- The steps of the closing of a word all of whose stems close ahead.
use Rattle.std.proofs.Common.{◌≡◌, ◌⊎◌, ℕ, suc, ◌+◌, ◌*◌, ◌%◌, ◌<◌, ◌≤◌, true, false, inl, inr, List, [], ◌∷◌, ◌++◌, length, reverse, set, slice_index, Option, Some, option_to_list, ap, ◌∙◌, sym, subst, arith, length-set}
use Rattle.std.proofs.lemmas.Bool.{cases_eq, cases_lt}
use Rattle.std.proofs.lemmas.List.{length-reverse}
use Rattle.std.proofs.Math.Nat.{add-mod_right}
use Rattle.pm_brackets.specs.declared.letters.TheConstants.{OPEN, CLOSE}
use Rattle.pm_brackets.specs.Ring.{AreBrackets}
use Rattle.pm_brackets.specs.Word.{IsBracketPair}
use Rattle.pm_brackets.proofs.Levels.{inside}
use Rattle.pm_brackets.proofs.NodeWalk.{reverse_pop, reverse_push}
use Rattle.pm_brackets.proofs.RingPlaces.{flipped, mod_stays, one_other}
use Rattle.pm_map.specs.Rotation.{structure_of}
use Rattle.pm_map.proofs.NumberedEdges.{firsts}
use Rattle.pm_tri.specs.declared.letters.TheConstants.{STEM}
use Rattle.pm_tri.specs.Whole.{IsAhead}
use Rattle.pm_tri.proofs.SideCounts.{IsSideAt, down, up}
use Rattle.pm_triclose.specs.declared.closing.OpenStem.{OpenStem}
use Rattle.pm_triclose.specs.Closure.{Dart, IsBehind, a_to_b, at_place, b_to_a, from_bracket, from_stem, next_twin, no_more, twin_of}
use Rattle.pm_triclose.specs.WholeClosure.{ClosesAhead, FollowsWhole, IsWholeClosure, IsWholeDart}
use Rattle.pm_triclose.proofs.AheadStems.{one_ahead}
use Rattle.pm_triclose.proofs.DartNumbers.{IsDrawn, IsPlace, a_closer, a_stem, an_opener, close_number, close_same, each_number, number_of, number_within, numbers_differ, numbers_twin, no_firsts, open_less, open_more, open_number, place_number, stem_less, stem_more, stem_number, stem_twin}
use Rattle.pm_triclose.proofs.Links.{AreLinked, all_linked, linked, longer, relinked, two_longer}
use Rattle.pm_triclose.proofs.OpenStems.{AreOpen, AreWaiting, IsClosedBefore, ahead_after, ahead_rises, closed_later, none_closes, open_later, open_popped, open_wider, some_open, stem_here, top_closes, units, waiting_later}
use Rattle.pm_triclose.proofs.WholeBrackets.{no_stem}

-- the next of the dart of a place is linked when the place ahead is read, or the other bracket
pub data IsDonePlace (places : List ℕ) (k p : ℕ) : Type 0 where
  done_stem : slice_index places p ≡ STEM → p < k → IsDonePlace places k p
  done_bracket : (c : ℕ) → AreBrackets places p c → c < k → IsDonePlace places k p

-- the darts whose next is linked, or will be at once, when the letters before place k were read
abbrev pub IsDone : List ℕ → ℕ → Dart → Type 0
IsDone places k (at_place p) = IsDonePlace places k p
IsDone places k (twin_of x) = IsClosedBefore places k x
IsDone places k a_to_b = ⊥
IsDone places k b_to_a = ⊥

-- and when the side at q was read, and the stems from the bound on that close there were closed
abbrev pub IsDoneSide : List ℕ → ℕ → ℕ → Dart → Type 0
IsDoneSide places q bound (at_place p) = IsDonePlace places (suc q) p
IsDoneSide places q bound (twin_of x) = IsClosedBefore places q x ⊎ ((bound ≤ x) × IsClosedBefore places (suc q) x)
IsDoneSide places q bound a_to_b = ⊥
IsDoneSide places q bound b_to_a = ⊥

abbrev pub IsPlaceAhead : List ℕ → ℕ → Dart → Type 0
IsPlaceAhead places k y = y ≡ at_place (k % length places)

abbrev pub IsTwinAhead : List ℕ → ℕ → ℕ → Dart → Type 0
IsTwinAhead places q bound y = IsBehind (λ (x : ℕ). IsAhead places x q) (at_place (suc q % length places)) bound y

-- the letters before place k were read
pub record IsPassed (places : List ℕ) (t : ℕ → ℕ) (k : ℕ) (sigma brackets : List ℕ) (stems : List OpenStem) (last : ℕ) : Type 0 where
  pub long : length sigma ≡ 2 * firsts t k
  pub brackets_are : AreOpen places t k k (reverse brackets)
  pub stems_are : AreWaiting places t k k k (reverse stems)
  pub links : AreLinked places t (IsDone places k) (IsPlaceAhead places k) sigma last

-- the side at q was read, and some of the stems that close there were closed
pub record IsAtSide (places : List ℕ) (t : ℕ → ℕ) (q : ℕ) (sigma brackets : List ℕ) (stems : List OpenStem) (last : ℕ) : Type 0 where
  pub bound : ℕ
  pub c : ℕ
  pub below : bound ≤ q
  pub level : up places c + down places q ≡ up places q + down places c
  pub side : IsSideAt places q
  pub long : length sigma ≡ 2 * firsts t (suc q)
  pub brackets_are : AreOpen places t (suc q) (suc q) (reverse brackets)
  pub stems_are : AreWaiting places t bound q c (reverse stems)
  pub taken : (z : ℕ) → bound ≤ z → z < suc q → slice_index places z ≡ STEM → IsClosedBefore places (suc q) z
  pub links : AreLinked places t (IsDoneSide places q bound) (IsTwinAhead places q bound) sigma last

module _ (places : List ℕ) (t : ℕ → ℕ) (d : IsDrawn places t) (ahead : ClosesAhead places) where
  done_inside : (k : ℕ) (x : Dart) → IsDone places k x → IsWholeDart places x → number_of places t x < 2 * firsts t k
  done_inside k (at_place p) (done_stem e l) h = omega (arith, stem_number places t d p e, stem_less places t d p k e l)
  done_inside k (at_place p) (done_bracket c (inl a) l) h = let b = a.before in omega (arith, open_number places t d p c a, open_less places t d p c k a (omega (arith, b, l)))
  done_inside k (at_place p) (done_bracket c (inr a) l) h = omega (arith, close_number places t d c p a, open_less places t d c p k a l)
  done_inside k (twin_of x) f h = let l = f.2 in let m = ahead_after places x f.0 f.1 in omega (arith, stem_twin places t d x h, stem_less places t d x k h (omega (arith, l, m)))
  done_inside k a_to_b f h = absurd h
  done_inside k b_to_a f h = absurd h

  place_ahead : (k : ℕ) → k < length places → (y : Dart) → IsPlaceAhead places k y → y ≡ at_place k
  place_ahead k l y e = e ∙ ap at_place (mod_stays k (length places) l)

  -- two darts more
  wider : (k : ℕ) (sigma wide : List ℕ) (last : ℕ) → wide ≡ sigma ++ 0 ∷ 0 ∷ [] → length sigma ≡ 2 * firsts t k → AreLinked places t (IsDone places k) (IsPlaceAhead places k) sigma last
      → AreLinked places t (IsDone places k) (IsPlaceAhead places k) wide last
  wider k sigma wide last e long h = longer places t d (IsDone places k) (IsPlaceAhead places k) sigma last h wide e (λ x done n. omega (arith, done_inside k x done n, long))

  -- a stem
  stem_links : (k : ℕ) (sigma after : List ℕ) (last dart : ℕ) → slice_index places k ≡ STEM → after ≡ set sigma last dart → dart ≡ number_of places t (at_place k) → dart < length sigma → ((x : ℕ) → IsAhead places x k → ⊥)
      → AreLinked places t (IsDone places k) (IsPlaceAhead places k) sigma last → AreLinked places t (IsDone places (suc k)) (IsPlaceAhead places (suc k)) after dart
  stem_links k sigma after last dart e written is within none h =
      let l = inside places k STEM (omega arith) e in
      linked places t d (IsDone places k) (IsPlaceAhead places k) sigma last h (IsDone places (suc k)) (IsPlaceAhead places (suc k)) after dart dart (at_place k) (at_place k)
      written is (place_ahead k l) l is within (follows k e) (old k e none) where
        follows : (k : ℕ) → slice_index places k ≡ STEM → (y : Dart) → FollowsWhole places (at_place k) y → IsPlaceAhead places (suc k) y
        follows k e y (from_stem f g) = g
        follows k e y (from_bracket q a b) = absurd (no_stem places k q a e)

        old : (k : ℕ) → slice_index places k ≡ STEM → ((x : ℕ) → IsAhead places x k → ⊥) → (x : Dart) → IsDone places (suc k) x → IsWholeDart places x → (x ≡ at_place k) ⊎ IsDone places k x
        old k e none (at_place p) (done_stem f m) h = elim (cases_eq p k) [ inl g ↦ inl (ap at_place g) | inr ne ↦ inr (done_stem f (omega arith)) ]
        old k e none (at_place p) (done_bracket c a m) h = elim (cases_eq c k) [
          | inl g ↦ absurd (no_stem places c p (flipped places p c a) (ap (slice_index places) g ∙ e))
          | inr ne ↦ inr (done_bracket c a (omega arith))
        ]
        old k e none (twin_of x) f h = elim (cases_eq f.0 k) [
          | inl g ↦ absurd (none x (subst (IsAhead places x) g f.1))
          | inr ne ↦ inr (f.0, f.1, (let m = f.2 in omega (arith, m, ne)))
        ]
        old k e none a_to_b f h = absurd h
        old k e none b_to_a f h = absurd h

  stem_falls : (k : ℕ) → slice_index places k ≡ STEM → up places (suc k) + down places k ≤ up places k + down places (suc k)
  stem_falls k e = let s = stem_here places k e in omega (arith, s.same, s.more)

  pub passed_stem : (k : ℕ) (sigma wide after brackets : List ℕ) (stems more : List OpenStem) (last : ℕ) (stem : OpenStem) → slice_index places k ≡ STEM → stem.dart ≡ length sigma → stem.half ≡ false
      → wide ≡ sigma ++ 0 ∷ 0 ∷ [] → after ≡ set wide last stem.dart → more ≡ stems ++ stem ∷ [] → IsPassed places t k sigma brackets stems last → IsPassed places t (suc k) after brackets more stem.dart
  passed_stem k sigma wide after brackets stems more last stem e is half grown written pushed h =
      let s = stem_here places k e in
      let low = stem_falls k e in
      let number : stem.dart ≡ number_of places t (at_place k) = omega (arith, is, h.long, stem_number places t d k e) in
      let wide_is : length wide ≡ length sigma + 2 = ap length grown ∙ two_longer sigma in
      record {
        long = omega (arith, ap length written, length-set wide last stem.dart, wide_is, h.long, stem_more places t d k e);
        brackets_are = open_wider places t k (suc k) (suc k) (reverse brackets) (omega arith)
            (λ z q l m a. let f : z ≡ k = omega (arith, l, m) in let o = a.opens in absurd (omega (arith, o, e, ap (slice_index places) f)))
            (open_later places t k k (reverse brackets) (λ z l a. let c = a.closes in omega (arith, c, e)) h.brackets_are);
        stems_are = subst (AreWaiting places t (suc k) (suc k) (suc k)) (sym (ap reverse pushed ∙ reverse_push stems stem)) (
          k,
          record {
            is_stem = e;
            below = omega arith;
            level = omega (arith, ap units half, s.same, s.more);
            open' = λ r a. ahead_after places k r a;
            between = λ z l m f. absurd (omega (arith, l, m));
            dart = number ∙ place_number places t k;
          },
          waiting_later places t k k k (reverse stems) low h.stems_are,
        );
        links = stem_links k wide after last stem.dart e written number (omega (arith, is, wide_is))
            (λ x a. none_closes places t k k k (reverse stems) low h.stems_are x (ahead_after places x k a) a) (wider k sigma wide last grown h.long h.links);
      }

  -- a bracket, with the other bracket at o
  side_links : (k o : ℕ) (sigma after : List ℕ) (last dart now : ℕ) → AreBrackets places o k → o < length places → k < length places → after ≡ set sigma last dart → dart ≡ number_of places t (at_place k)
      → now ≡ number_of places t (at_place o) → now < length sigma
      → AreLinked places t (IsDone places k) (IsPlaceAhead places k) sigma last → AreLinked places t (IsDoneSide places k k) (IsTwinAhead places k k) after now
  side_links k o sigma after last dart now pair o_in k_in written is now_is within h =
      linked places t d (IsDone places k) (IsPlaceAhead places k) sigma last h (IsDoneSide places k k) (IsTwinAhead places k k) after dart now (at_place k) (at_place o)
      written is (place_ahead k k_in) o_in now_is within (follows k o pair k_in) (old k o pair) where
        lower : (k : ℕ) → k < length places → (y : Dart) → IsTwinAhead places k (length places) y → IsTwinAhead places k k y
        lower k l y (next_twin x m a none e) = next_twin x (ahead_after places x k a) a (λ z n o b. none z n (omega (arith, o, l)) b) e
        lower k l y (no_more none e) = no_more (λ z n a. none z (omega (arith, n, l)) a) e

        follows : (k o : ℕ) → AreBrackets places o k → k < length places → (y : Dart) → FollowsWhole places (at_place o) y → IsTwinAhead places k k y
        follows k o pair l y (from_stem f g) = absurd (no_stem places o k pair f)
        follows k o pair l y (from_bracket q a b) =
            lower k l y (subst (λ (r : ℕ). IsTwinAhead places r (length places) y) (one_other places o q k a pair) b)

        old : (k o : ℕ) → AreBrackets places o k → (x : Dart) → IsDoneSide places k k x → IsWholeDart places x → (x ≡ at_place o) ⊎ IsDone places k x
        old k o pair (at_place p) (done_stem f m) h = elim (cases_eq p k) [
          | inl g ↦ absurd (no_stem places k o (flipped places o k pair) (ap (slice_index places) (sym g) ∙ f))
          | inr ne ↦ inr (done_stem f (omega arith))
        ]
        old k o pair (at_place p) (done_bracket c a m) h = elim (cases_eq c k) [
          | inl g ↦ inl (ap at_place (one_other places k p o (subst (λ (r : ℕ). AreBrackets places r p) g (flipped places p c a)) (flipped places o k pair)))
          | inr ne ↦ inr (done_bracket c a (omega arith))
        ]
        old k o pair (twin_of x) (inl f) h = inr f
        old k o pair (twin_of x) (inr f) h = let g = f.1 in let m = g.2 in let n = ahead_after places x g.0 g.1 in let b = f.0 in absurd (omega (arith, m, n, b))
        old k o pair a_to_b f h = absurd h
        old k o pair b_to_a f h = absurd h

  -- a `(`
  pub side_open : (k q : ℕ) (sigma wide after brackets more : List ℕ) (stems : List OpenStem) (last dart : ℕ) → IsBracketPair places k q → IsSideAt places k → dart ≡ length sigma
      → wide ≡ sigma ++ 0 ∷ 0 ∷ [] → after ≡ set wide last dart → more ≡ brackets ++ dart ∷ [] → IsPassed places t k sigma brackets stems last → IsAtSide places t k after more stems (dart + 1)
  side_open k q sigma wide after brackets more stems last dart pair side is grown written pushed h =
      let o = pair.opens in
      let c' = pair.closes in
      let k_in = inside places k OPEN (omega arith) o in
      let q_in = inside places q CLOSE (omega arith) c' in
      let number : dart ≡ number_of places t (at_place k) = omega (arith, is, h.long, open_number places t d k q pair) in
      let wide_is : length wide ≡ length sigma + 2 = ap length grown ∙ two_longer sigma in
      record {
        bound = k;
        c = k;
        below = omega arith;
        level = omega arith;
        side = side;
        long = omega (arith, ap length written, length-set wide last dart, wide_is, h.long, open_more places t d k q pair);
        brackets_are = subst (AreOpen places t (suc k) (suc k)) (sym (ap reverse pushed ∙ reverse_push brackets dart)) (
          k,
          record {
            closer = q;
            pair = pair;
            open' = pair.before;
            below = omega arith;
            between = λ z r l m a. absurd (omega (arith, l, m));
            dart = number ∙ place_number places t k;
          },
          open_later places t k k (reverse brackets) (λ z l a. let c = a.closes in omega (arith, c, o)) h.brackets_are,
        );
        stems_are = h.stems_are;
        taken = λ z l m e. let f : z ≡ k = omega (arith, l, m) in absurd (omega (arith, o, e, ap (slice_index places) f));
        links = side_links k q wide after last dart (dart + 1) (inr pair) q_in k_in written number (omega (arith, is, h.long, close_number places t d k q pair)) (omega (arith, is, wide_is)) (wider k sigma wide last grown h.long h.links);
      }

  -- a `)`
  pub side_close : (k p : ℕ) (sigma after brackets rest : List ℕ) (stems : List OpenStem) (last dart : ℕ) (r : Option ℕ) → IsBracketPair places p k → IsSideAt places k
      → brackets ≡ rest ++ option_to_list r → r ≡ Some dart → after ≡ set sigma last (dart + 1) → IsPassed places t k sigma brackets stems last → IsAtSide places t k after rest stems dart
  side_close k p sigma after brackets rest stems last dart r pair side popped some written h =
      let o = pair.opens in
      let c' = pair.closes in
      let p_in = inside places p OPEN (omega arith) o in
      let k_in = inside places k CLOSE (omega arith) c' in
      let top = open_popped places t k p dart (reverse rest) pair (subst (AreOpen places t k k) (reverse_pop brackets rest r dart popped some) h.brackets_are) in
      let number : dart ≡ number_of places t (at_place p) = top.dart ∙ sym (place_number places t p) in
      record {
        bound = k;
        c = k;
        below = omega arith;
        level = omega arith;
        side = side;
        long = omega (arith, ap length written, length-set sigma last (dart + 1), h.long, close_same places t d p k pair);
        brackets_are = top.left;
        stems_are = h.stems_are;
        taken = λ z l m e. let f : z ≡ k = omega (arith, l, m) in absurd (omega (arith, c', e, ap (slice_index places) f));
        links = side_links k p sigma after last (dart + 1) dart (inl pair) p_in k_in written
            (omega (arith, number, open_number places t d p k pair, close_number places t d p k pair)) number
            (omega (arith, number, open_number places t d p k pair, open_less places t d p k k pair pair.before, h.long)) h.links;
      }

  -- where there is a bracket to close, and its dart
  pub bracket_there : (k p : ℕ) (sigma brackets : List ℕ) (stems : List OpenStem) (last : ℕ) → IsBracketPair places p k → IsPassed places t k sigma brackets stems last → 0 < length brackets
  bracket_there k p sigma brackets stems last pair h = omega (arith, some_open places t k p (reverse brackets) pair h.brackets_are, length-reverse brackets)

  pub bracket_few : (k p : ℕ) (sigma brackets rest : List ℕ) (stems : List OpenStem) (last dart : ℕ) (r : Option ℕ) → IsBracketPair places p k → brackets ≡ rest ++ option_to_list r → r ≡ Some dart
      → IsPassed places t k sigma brackets stems last → dart < length sigma
  bracket_few k p sigma brackets rest stems last dart r pair popped some h =
      let top = open_popped places t k p dart (reverse rest) pair (subst (AreOpen places t k k) (reverse_pop brackets rest r dart popped some) h.brackets_are) in
      omega (arith, top.dart, place_number places t p, open_number places t d p k pair, open_less places t d p k k pair pair.before, h.long)

  -- a stem that closes
  pub side_more : (q : ℕ) (sigma after brackets : List ℕ) (stems rest : List OpenStem) (last : ℕ) (r : Option OpenStem) (stem : OpenStem) → stems ≡ rest ++ option_to_list r → r ≡ Some stem → stem.half ≡ true
      → after ≡ set sigma last (stem.dart + 1) → IsAtSide places t q sigma brackets stems last → IsAtSide places t q after brackets rest (stem.dart + 1)
  side_more q sigma after brackets stems rest last r stem popped some half written h =
      found (subst (AreWaiting places t h.bound q h.c) (reverse_pop stems rest r stem popped some) h.stems_are) where
        found : AreWaiting places t h.bound q h.c (stem ∷ reverse rest) → IsAtSide places t q after brackets rest (stem.dart + 1)
        found w =
            let x = w.0 in
            let top = w.1 in
            let e = top.is_stem in
            let b = h.below in
            let l = top.below in
            let flat : up places x + down places q ≡ up places q + down places x = omega (arith, top.level, ap units half, h.level) in
            let rises : up places (suc q) + down places x ≡ up places x + down places (suc q) + 1 = omega (arith, flat, h.side.more, h.side.same) in
            let closes = top_closes places t h.bound q h.c x stem ahead b rises top in
            let less = stem_less places t d x (suc q) e (omega (arith, l, b)) in
            let number : stem.dart + 1 ≡ number_of places t (twin_of x) = omega (arith, top.dart, place_number places t x, stem_number places t d x e, stem_twin places t d x e) in
            record {
              bound = x;
              c = x;
              below = omega (arith, l, b);
              level = flat;
              side = h.side;
              long = omega (arith, ap length written, length-set sigma last (stem.dart + 1), h.long);
              brackets_are = h.brackets_are;
              stems_are = w.2;
              taken = λ z m n f. elim (cases_eq z x) [
                | inl g ↦ (q, subst (λ (y : ℕ). IsAhead places y q) (sym g) closes, (omega arith))
                | inr ne ↦ elim (cases_lt z h.bound) [
                  | inl i ↦ closed_later places q z (top.between z (omega (arith, m, ne)) i f)
                  | inr i ↦ h.taken z i n f
                ]
              ];
              links = linked places t d (IsDoneSide places q h.bound) (IsTwinAhead places q h.bound) sigma last h.links (IsDoneSide places q x) (IsTwinAhead places q x) after (stem.dart + 1) (stem.dart + 1) (twin_of x) (twin_of x)
                  written number (only x l closes top.between) e number (omega (arith, top.dart, place_number places t x, stem_number places t d x e, less, h.long)) (follows x closes) (old x top.between);
            } where
              only : (x : ℕ) → x < h.bound → IsAhead places x q → ((z : ℕ) → x < z → z < h.bound → slice_index places z ≡ STEM → IsClosedBefore places q z) → (y : Dart) → IsTwinAhead places q h.bound y → y ≡ twin_of x
              only x l closes between y (next_twin z m a none e) = elim (cases_eq z x) [
                | inl f ↦ e ∙ ap twin_of f
                | inr ne ↦ elim (cases_lt z x) [
                  | inl less ↦ absurd (none x less l closes)
                  | inr more ↦ let f = between z (omega (arith, more, ne)) m a.stem in let g = one_ahead places z f.0 q f.1 a in let n = f.2 in absurd (omega (arith, g, n))
                ]
              ]
              only x l closes between y (no_more none e) = absurd (none x l closes)

              follows : (x : ℕ) → IsAhead places x q → (y : Dart) → FollowsWhole places (twin_of x) y → IsTwinAhead places q x y
              follows x closes y f = subst (λ (r : ℕ). IsTwinAhead places r x y) (one_ahead places x f.side q f.closes closes) f.behind

              old : (x : ℕ) → ((z : ℕ) → x < z → z < h.bound → slice_index places z ≡ STEM → IsClosedBefore places q z)
                  → (y : Dart) → IsDoneSide places q x y → IsWholeDart places y → (y ≡ twin_of x) ⊎ IsDoneSide places q h.bound y
              old x between (at_place p) f i = inr f
              old x between (twin_of z) (inl f) i = inr (inl f)
              old x between (twin_of z) (inr f) i = elim (cases_eq z x) [
                | inl g ↦ inl (ap twin_of g)
                | inr ne ↦ elim (cases_lt z h.bound) [
                  | inl m ↦ let n = f.0 in inr (inl (between z (omega (arith, n, ne)) m i))
                  | inr m ↦ inr (inr (m, f.1))
                ]
              ]
              old x between a_to_b f i = absurd i
              old x between b_to_a f i = absurd i

  -- no further stem closes
  end_links : (q bound : ℕ) (sigma : List ℕ) (last : ℕ) → ((z : ℕ) → z < bound → IsAhead places z q → ⊥) → AreLinked places t (IsDoneSide places q bound) (IsTwinAhead places q bound) sigma last
      → AreLinked places t (IsDone places (suc q)) (IsPlaceAhead places (suc q)) sigma last
  end_links q bound sigma last none h = relinked places t d (IsDoneSide places q bound) (IsTwinAhead places q bound) sigma last h (IsDone places (suc q)) (IsPlaceAhead places (suc q)) (old q bound none) (next q bound none) where
    old : (q bound : ℕ) → ((z : ℕ) → z < bound → IsAhead places z q → ⊥) → (x : Dart) → IsDone places (suc q) x → IsDoneSide places q bound x
    old q bound none (at_place p) f = f
    old q bound none (twin_of x) f = elim (cases_eq f.0 q) [
      | inl e ↦ elim (cases_lt x bound) [
        | inl l ↦ absurd (none x l (subst (IsAhead places x) e f.1))
        | inr l ↦ inr (l, f)
      ]
      | inr ne ↦ inl (f.0, f.1, (let m = f.2 in omega (arith, m, ne)))
    ]
    old q bound none a_to_b f = f
    old q bound none b_to_a f = f

    next : (q bound : ℕ) → ((z : ℕ) → z < bound → IsAhead places z q → ⊥) → (y : Dart) → IsTwinAhead places q bound y → IsPlaceAhead places (suc q) y
    next q bound none y (next_twin x m a far e) = absurd (none x m a)
    next q bound none y (no_more far e) = e

  -- where none is open
  pub side_ends : (q : ℕ) (sigma brackets : List ℕ) (stems : List OpenStem) (last : ℕ) → stems ≡ [] → IsAtSide places t q sigma brackets stems last → IsPassed places t (suc q) sigma brackets stems last
  side_ends q sigma brackets stems last empty h =
      let w = subst (AreWaiting places t h.bound q h.c) (ap reverse empty) h.stems_are in
      let b = h.below in
      record {
        long = h.long;
        brackets_are = h.brackets_are;
        stems_are = subst (AreWaiting places t (suc q) (suc q) (suc q)) (sym (ap reverse empty)) (λ z l e. elim (cases_lt z h.bound) [
          | inl m ↦ closed_later places q z (w z m e)
          | inr m ↦ h.taken z m l e
        ]);
        links = end_links q h.bound sigma last (λ z l a. let f = w z l a.stem in let e = one_ahead places z f.0 q f.1 a in let m = f.2 in omega (arith, e, m)) h.links;
      }

  -- the first side more than stems behind the last one that is open
  pub side_half : (q : ℕ) (sigma brackets : List ℕ) (stems rest more : List OpenStem) (last : ℕ) (r : Option OpenStem) (stem marked : OpenStem) → stems ≡ rest ++ option_to_list r → r ≡ Some stem → stem.half ≡ false
      → more ≡ rest ++ marked ∷ [] → marked.dart ≡ stem.dart → marked.half ≡ true → IsAtSide places t q sigma brackets stems last → IsPassed places t (suc q) sigma brackets more last
  side_half q sigma brackets stems rest more last r stem marked popped some half pushed same full h =
      let w = subst (AreWaiting places t h.bound q h.c) (reverse_pop stems rest r stem popped some) h.stems_are in
      let x = w.0 in
      let top = w.1 in
      let b = h.below in
      let l = top.below in
      let flat : up places (suc q) + down places x ≡ up places x + down places (suc q) = omega (arith, top.level, ap units half, h.level, h.side.more, h.side.same) in
      let low : up places (suc q) + down places h.c ≡ up places h.c + down places (suc q) + 1 = omega (arith, h.level, h.side.more, h.side.same) in
      let none = none_left x l (omega (arith, flat)) top.between w.2 in
      record {
        long = h.long;
        brackets_are = h.brackets_are;
        stems_are = subst (AreWaiting places t (suc q) (suc q) (suc q)) (sym (ap reverse pushed ∙ reverse_push rest marked)) (
          x,
          record {
            is_stem = top.is_stem;
            below = omega (arith, l, b);
            level = omega (arith, flat, ap units full);
            open' = λ s a. elim (cases_eq s q) [
              | inl e ↦ absurd (omega (arith, ahead_rises places x q (subst (IsAhead places x) e a), flat))
              | inr ne ↦ let m = top.open' s a in omega (arith, m, ne)
            ];
            between = λ z m n e. elim (cases_lt z h.bound) [
              | inl i ↦ closed_later places q z (top.between z m i e)
              | inr i ↦ h.taken z i n e
            ];
            dart = same ∙ top.dart;
          },
          waiting_later places t x q x (reverse rest) (omega (arith, flat)) w.2,
        );
        links = end_links q h.bound sigma last none h.links;
      } where
        none_left : (x : ℕ) → x < h.bound → up places (suc q) + down places x ≤ up places x + down places (suc q) → ((z : ℕ) → x < z → z < h.bound → slice_index places z ≡ STEM → IsClosedBefore places q z)
            → AreWaiting places t x q x (reverse rest) → (z : ℕ) → z < h.bound → IsAhead places z q → ⊥
        none_left x l flat between below z m a = elim (cases_lt z x) [
          | inl less ↦ none_closes places t x q x (reverse rest) flat below z less a
          | inr other ↦ elim (cases_eq z x) [
            | inl e ↦ omega (arith, ahead_rises places x q (subst (λ (y : ℕ). IsAhead places y q) e a), flat)
            | inr ne ↦ let f = between z (omega (arith, other, ne)) m a.stem in let e = one_ahead places z f.0 q f.1 a in let n = f.2 in omega (arith, e, n)
          ]
        ]

  -- the dart of a stem that is open
  pub stem_few : (q : ℕ) (sigma brackets : List ℕ) (stems rest : List OpenStem) (last : ℕ) (r : Option OpenStem) (stem : OpenStem) → stems ≡ rest ++ option_to_list r → r ≡ Some stem
      → IsAtSide places t q sigma brackets stems last → stem.dart < length sigma
  stem_few q sigma brackets stems rest last r stem popped some h =
      let w = subst (AreWaiting places t h.bound q h.c) (reverse_pop stems rest r stem popped some) h.stems_are in
      let x = w.0 in
      let top = w.1 in
      let b = h.below in
      let l = top.below in
      omega (arith, top.dart, place_number places t x, stem_number places t d x top.is_stem, stem_less places t d x (suc q) top.is_stem (omega (arith, l, b)), h.long)

  -- the plant alone
  pub passed_start : (sigma brackets : List ℕ) (stems : List OpenStem) (stem : OpenStem) → slice_index places 0 ≡ STEM → sigma ≡ 0 ∷ 0 ∷ [] → brackets ≡ [] → stems ≡ stem ∷ [] → stem.dart ≡ 0 → stem.half ≡ false
      → IsPassed places t 1 sigma brackets stems 0
  passed_start sigma brackets stems stem e two none one dart half =
      let s = stem_here places 0 e in
      let number : 0 ≡ number_of places t (at_place 0) = omega (arith, stem_number places t d 0 e, no_firsts t) in
      record {
        long = omega (arith, ap length two, stem_more places t d 0 e, no_firsts t);
        brackets_are = subst (AreOpen places t 1 1) (sym (ap reverse none)) (λ z q l a. let o = a.opens in let f : z ≡ 0 = omega (arith, l) in absurd (omega (arith, o, e, ap (slice_index places) f)));
        stems_are = subst (AreWaiting places t 1 1 1) (sym (ap reverse one)) (
          0,
          record {
            is_stem = e;
            below = omega arith;
            level = omega (arith, ap units half, s.same, s.more);
            open' = λ r a. ahead_after places 0 r a;
            between = λ z l m f. absurd (omega (arith, l, m));
            dart = dart ∙ number ∙ place_number places t 0;
          },
          (λ z l f. absurd (omega (arith, l))),
        );
        links = record {
          name = at_place 0;
          named = inside places 0 STEM (omega arith) e;
          is = number;
          within = omega (arith, ap length two);
          ahead = follows e;
          others = λ x y done n ne f. absurd (ne (only e (sym number) x done n));
        };
      } where
        follows : slice_index places 0 ≡ STEM → (y : Dart) → FollowsWhole places (at_place 0) y → IsPlaceAhead places 1 y
        follows e y (from_stem f g) = g
        follows e y (from_bracket q a b) = absurd (no_stem places 0 q a e)

        only : slice_index places 0 ≡ STEM → number_of places t (at_place 0) ≡ 0 → (x : Dart) → IsDone places 1 x → IsWholeDart places x → number_of places t x ≡ 0
        only e number (at_place p) (done_stem f l) h = let z : p ≡ 0 = omega (arith, l) in ap (λ (k : ℕ). number_of places t (at_place k)) z ∙ number
        only e number (at_place p) (done_bracket c a l) h =
            let z : c ≡ 0 = omega (arith, l) in absurd (no_stem places c p (flipped places p c a) (ap (slice_index places) z ∙ e))
        only e number (twin_of x) f h = let l = f.2 in let m = ahead_after places x f.0 f.1 in absurd (omega (arith, l, m))
        only e number a_to_b f h = absurd h
        only e number b_to_a f h = absurd h

  -- behind the last letter
  pub passed_end : (k : ℕ) (sigma after brackets : List ℕ) (stems : List OpenStem) (last : ℕ) → slice_index places 0 ≡ STEM → k ≡ length places → after ≡ set sigma last 0 → IsPassed places t k sigma brackets stems last
      → IsWholeClosure places (structure_of (record { sigma = after; root = 0 }))
  passed_end k sigma after brackets stems last e all written h =
      let some = inside places 0 STEM (omega arith) e in
      let number : 0 ≡ number_of places t (at_place 0) = omega (arith, stem_number places t d 0 e, no_firsts t) in
      let round : k % length places ≡ 0 = (let f : k ≡ 0 + length places = omega (arith, all) in ap (λ (m : ℕ). m % length places) f) ∙ add-mod_right 0 (length places) ∙ mod_stays 0 (length places) some in
      let long : length after ≡ 2 * firsts t (length places) = ap length written ∙ length-set sigma last 0 ∙ h.long ∙ ap (λ (m : ℕ). 2 * firsts t m) all in (
        number_of places t,
        record {
          within = λ x n. omega (arith, number_within places t d x n, long);
          different = numbers_differ places t d;
          all = λ m l. each_number places t d m (omega (arith, l, long));
          root = number;
          next = λ x y n f. all_linked places t d (IsDone places k) (IsPlaceAhead places k) sigma last h.links after 0 (at_place 0) written number (λ z g. g ∙ ap at_place round) x y (done k all x n) n f;
          twin = numbers_twin places t d;
        },
      ) where
        place_done : (k p : ℕ) → k ≡ length places → p < length places → IsPlace places p → IsDonePlace places k p
        place_done k p all l (a_stem f) = done_stem f (omega (arith, l, all))
        place_done k p all l (an_opener q a) = done_bracket q (inl a) (omega (arith, inside places q CLOSE (omega arith) a.closes, all))
        place_done k p all l (a_closer q a) = done_bracket q (inr a) (omega (arith, inside places q OPEN (omega arith) a.opens, all))

        done : (k : ℕ) → k ≡ length places → (x : Dart) → IsWholeDart places x → IsDone places k x
        done k all (at_place p) n = place_done k p all n (d.each p n)
        done k all (twin_of x) n = let f = ahead x n in (f.0, f.1, (let l = f.1.within in omega (arith, l, all)))
        done k all a_to_b n = absurd n
        done k all b_to_a n = absurd n
