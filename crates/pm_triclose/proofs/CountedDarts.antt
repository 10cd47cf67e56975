-- How many darts, vertices and faces the closure of a whole tree has.
use Rattle.std.proofs.Common.{◌≡◌, ◌≢◌, ℕ, ◌+◌, ◌*◌, ◌<◌, Bool, true, false, not, cond, eqb, inl, inr, List, length, slice_index, refl, ap, ◌∙◌, sym, arith, eq-eqb}
use Rattle.std.proofs.lemmas.Bool.{cases_eq, eqb-true}
use Rattle.pm_perm.specs.Count.{count_below}
use Rattle.pm_perm.specs.Cycles.{cycles}
use Rattle.pm_perm.specs.Pairs.{pairs}
use Rattle.pm_perm.proofs.Counts.{count_below-all, count_below-into, count_below-parts}
use Rattle.pm_triclose.proofs.PairEnds.{IsOneEnd, pairs-one_end}
use Rattle.pm_map.specs.Structure.{Structure, face_next}
use Rattle.pm_tri.specs.declared.letters.TheConstants.{STEM}
use Rattle.pm_triclose.specs.Closure.{AreNumbers, AreTwins, Dart, a_to_b, at_place, b_to_a, twin_of}
use Rattle.pm_triclose.specs.WholeClosure.{FollowsWhole, IsWholeDart}
use Rattle.pm_triclose.proofs.AheadOrder.{IsStemRing}
use Rattle.pm_triclose.proofs.DartKeys.{at_bracket, at_stem, stem_pair, stem_within}
use Rattle.pm_triclose.proofs.WholePlane.{at_stems, face_cycles, name, name_back, named, number_back, pairs_half, stems_involution, stems_name, vertex_cycles}

-- the twin of a stem's, not a place
abbrev pub is_twin : Dart → Bool
is_twin (at_place p) = false
is_twin (twin_of x) = true
is_twin a_to_b = false
is_twin b_to_a = false

-- the place, or the stem
abbrev pub index : Dart → ℕ
index (at_place p) = p
index (twin_of x) = x
index a_to_b = 0
index b_to_a = 0

differ : false ≡ true → ⊥
differ f = let g = ap (λ (c : Bool). cond {A = ℕ} c 1 0) f in omega (arith, g)

module _ (places : List ℕ) where
  pub is_stem_place : ℕ → Bool
  is_stem_place x = eqb (slice_index places x) STEM

  pub is_stem_place_is : (x : ℕ) → is_stem_place x ≡ eqb (slice_index places x) STEM
  unfolding is_stem_place
  is_stem_place_is x = refl

  named_twin : (x : Dart) → IsWholeDart places x → is_twin x ≡ true → (slice_index places (index x) ≡ STEM) × (x ≡ twin_of (index x))
  named_twin (at_place p) h e = absurd (differ e)
  named_twin (twin_of x) h e = (h, refl)
  named_twin a_to_b h e = absurd h
  named_twin b_to_a h e = absurd h

  named_place : (x : Dart) → IsWholeDart places x → not (is_twin x) ≡ true → (index x < length places) × (x ≡ at_place (index x))
  named_place (at_place p) h e = (h, refl)
  named_place (twin_of x) h e = absurd (differ e)
  named_place a_to_b h e = absurd h
  named_place b_to_a h e = absurd h

module _ (places : List ℕ) (across ends : ℕ → ℕ) (w : IsStemRing places across ends) (s : Structure) (number : Dart → ℕ) (n : AreNumbers (IsWholeDart places) (FollowsWhole places) (AreTwins places) s number) where
  abbrev name_of : ℕ → Dart
  name_of d = name places across ends w s number n d

  twins_many : count_below (λ d. is_twin (name_of d)) s.darts ≡ count_below (is_stem_place places) (length places)
  unfolding is_stem_place
  twins_many =
      let most = count_below-into (λ d. is_twin (name_of d)) (is_stem_place places) (λ d. index (name_of d)) s.darts (length places)
      (λ d l e. stem_within places across ends w (index (name_of d)) (named_twin places (name_of d) (named places across ends w s number n d l) e).0)
      (λ d l e. eq-eqb (slice_index places (index (name_of d))) STEM (named_twin places (name_of d) (named places across ends w s number n d l) e).0)
      (λ j k l m e f same.
      let a = (named_twin places (name_of j) (named places across ends w s number n j l) e).1 in
      let b = (named_twin places (name_of k) (named places across ends w s number n k m) f).1 in
      sym (number_back places across ends w s number n j l) ∙ ap number (a ∙ ap twin_of same ∙ sym b) ∙ number_back places across ends w s number n k m) in
      let least = count_below-into (is_stem_place places) (λ d. is_twin (name_of d)) (λ x. number (twin_of x)) (length places) s.darts
      (λ x l e. n.within (twin_of x) (eqb-true (slice_index places x) STEM e))
      (λ x l e. ap is_twin (name_back places across ends w s number n (twin_of x) (eqb-true (slice_index places x) STEM e)))
      (λ j k l m e f same. ap index (n.different (twin_of j) (twin_of k) (eqb-true (slice_index places j) STEM e) (eqb-true (slice_index places k) STEM f) same)) in
      omega (arith, most, least)

  places_many : count_below (λ d. not (is_twin (name_of d))) s.darts ≡ length places
  places_many =
      let all = count_below-all (λ p. true) (length places) (λ p l. refl) in
      let most = count_below-into (λ d. not (is_twin (name_of d))) (λ p. true) (λ d. index (name_of d)) s.darts (length places)
      (λ d l e. (named_place places (name_of d) (named places across ends w s number n d l) e).0)
      (λ d l e. refl)
      (λ j k l m e f same.
      let a = (named_place places (name_of j) (named places across ends w s number n j l) e).1 in
      let b = (named_place places (name_of k) (named places across ends w s number n k m) f).1 in
      sym (number_back places across ends w s number n j l) ∙ ap number (a ∙ ap at_place same ∙ sym b) ∙ number_back places across ends w s number n k m) in
      let least = count_below-into (λ p. true) (λ d. not (is_twin (name_of d))) (λ p. number (at_place p)) (length places) s.darts
      (λ p l e. n.within (at_place p) l)
      (λ p l e. ap (λ (x : Dart). not (is_twin x)) (name_back places across ends w s number n (at_place p) l))
      (λ j k l m e f same. ap index (n.different (at_place j) (at_place k) l m same)) in
      omega (arith, all, most, least)

  -- a dart for each place, and one for each stem
  pub darts_many : s.darts ≡ length places + count_below (is_stem_place places) (length places)
  darts_many =
      let parts = count_below-parts (λ d. not (is_twin (name_of d))) (λ d. is_twin (name_of d)) s.darts (λ k l. refl) in
      omega (arith, parts, twins_many, places_many)

  -- a stem's dart and its twin: one of them is a twin
  twin_to : (x : Dart) → IsWholeDart places x → is_twin x ≡ true → is_twin (stem_pair places x) ≡ false
  twin_to (at_place p) h e = absurd (differ e)
  twin_to (twin_of x) h e = refl
  twin_to a_to_b h e = absurd h
  twin_to b_to_a h e = absurd h

  place_to : (x : Dart) → IsWholeDart places x → stem_pair places x ≢ x → is_twin x ≡ false → is_twin (stem_pair places x) ≡ true
  place_to (at_place p) h ne e = elim (cases_eq (slice_index places p) STEM) [
    | inl f ↦ ap is_twin (at_stem places p f)
    | inr still ↦ absurd (ne (at_bracket places p still))
  ]
  place_to (twin_of x) h ne e = absurd (differ (sym e))
  place_to a_to_b h ne e = absurd h
  place_to b_to_a h ne e = absurd h

  one_end : IsOneEnd s.darts (at_stems places across ends w s number n) (λ d. is_twin (name_of d))
  one_end = record {
    moves = λ k l e f.
        let a = ap is_twin (stems_name places across ends w s number n k l) ∙ twin_to (name_of k) (named places across ends w s number n k l) e in
        differ (sym a ∙ ap (λ (d : ℕ). is_twin (name_of d)) f ∙ e);
    other = λ k l e. ap is_twin (stems_name places across ends w s number n k l) ∙ twin_to (name_of k) (named places across ends w s number n k l) e;
    some = λ k l moves e. ap is_twin (stems_name places across ends w s number n k l) ∙ place_to (name_of k) (named places across ends w s number n k l)
        (λ f. moves (sym (number_back places across ends w s number n (at_stems places across ends w s number n k) ((stems_involution places across ends w s number n).stays k l))
        ∙ ap number (stems_name places across ends w s number n k l ∙ f) ∙ number_back places across ends w s number n k l)) e;
  }

  -- a pair for each stem
  pub stem_pairs : pairs s.darts (at_stems places across ends w s number n) ≡ count_below (is_stem_place places) (length places)
  stem_pairs = pairs-one_end s.darts (at_stems places across ends w s number n) (λ d. is_twin (name_of d)) (stems_involution places across ends w s number n) one_end ∙ twins_many

  pub faces_many : cycles s.darts (face_next s) ≡ 1 + count_below (is_stem_place places) (length places)
  faces_many = face_cycles places across ends w s number n ∙ ap (λ (k : ℕ). 1 + k) stem_pairs

  pub vertices_many : 2 * cycles s.darts s.next + count_below (is_stem_place places) (length places) ≡ length places + 2
  vertices_many =
      let half = pairs_half places across ends w s number n in
      let vertices = vertex_cycles places across ends w s number n in
      omega (arith, half, vertices, stem_pairs, darts_many)
