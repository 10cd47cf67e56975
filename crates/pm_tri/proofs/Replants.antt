-- Stem trees that are planted at another of their stems: turns go along with the ring, so nodes and their stems stay.
use Rattle.std.proofs.Common.{◌≡◌, ℕ, suc, ◌+◌, ◌-◌, ◌%◌, ◌≤◌, ◌<◌, ◌==◌, ◌&&◌, inl, inr, Bool, true, false, List, length, slice_index, refl, ap, ◌∙◌, sym, subst, arith, eqb-true, eq-eqb, zero, [], ◌∷◌, All, IsTrue, ◌*◌}
use Rattle.std.proofs.lemmas.Bool.{false≢true}
use Rattle.std.proofs.Math.Nat.{add-mod-mod, mod-add-mod}
use Rattle.pm_perm.specs.Count.{count_below}
use Rattle.pm_perm.proofs.Counts.{count_below-image, count_below-le}
use Rattle.pm_brackets.specs.declared.letters.TheConstants.{CLOSE, OPEN}
use Rattle.pm_brackets.specs.Ring.{IsTurned, place_from}
use Rattle.pm_brackets.specs.Word.{IsBracketing, IsLetterAt, IsMatched, IsOther, is_letter_of}
use Rattle.pm_brackets.proofs.Levels.{inside}
use Rattle.pm_brackets.proofs.RingPlaces.{brackets_back, letter_back, mod_under, no_other, one_other, other_of, steps_are, steps_to, steps_to_is, steps_under, turned_back}
use Rattle.pm_brackets.proofs.Bracketed.{bracketing_exists}
use Rattle.pm_brackets.proofs.LetterTurns.{letter_within}
use Rattle.pm_brackets.proofs.Replants.{numbers_turned, planted_count, planted_exists, planted_matched, planted_unique, planting_undone, same_rings}
use Rattle.pm_brackets.proofs.Rings.{letters_stay, ring_turned}
use Rattle.pm_brackets.proofs.Tally.{tally_is, tally_no}
use Rattle.std.proofs.lemmas.List.Elements.{All-tail}
use Rattle.pm_tri.specs.Replanting.{all_stems, EachStemIsReplanted, IsAlike, IsReplanted, ReplantedIsAlike, ReplantedIsUnique, ReplantingIsUndone, StemsAreTurned}
use Rattle.pm_tri.specs.declared.letters.TheConstants.{STEM}
use Rattle.pm_tri.specs.StemTree.{nodes, HasStems, IsInOrder, IsNode, IsStemTree, contour, is_stem_of, node_at, stems}
use Rattle.pm_tri.proofs.NodeTurns.{at_is_node, before_closer, same_at_node, turn_keeps}
use Rattle.pm_tri.proofs.StemCounts.{stems_count}
use Rattle.pm_tri.proofs.StemLetters.{stem_is_other}

and_left : (b c : Bool) → (b && c) ≡ true → b ≡ true
and_left true c e = refl
and_left false c e = absurd (false≢true e)

and_right : (b c : Bool) → (b && c) ≡ true → c ≡ true
and_right true c e = e
and_right false c e = absurd (false≢true e)

-- one step further from a place of the ring
step_along : (start q n : ℕ) → (start + suc q % n) % n ≡ suc ((start + q) % n) % n
step_along start q n =
    let e : start + suc q ≡ start + q + 1 = omega arith in
    let f : suc ((start + q) % n) ≡ (start + q) % n + 1 = omega arith in
    add-mod-mod start (suc q) n ∙ ap (λ (k : ℕ). k % n) e ∙ sym (mod-add-mod (start + q) n 1) ∙ sym (ap (λ (k : ℕ). k % n) f)

-- a place of each node
record HasPlace (places : List ℕ) (node : ℕ) : Type 0 where
  place : ℕ
  within : place < length places
  here : node_at places place ≡ node

place_of : (word other : List ℕ) (v : ℕ) → IsMatched word → IsBracketing (contour word) other → IsNode (contour word) v → HasPlace (contour word) v
place_of word other v m b n =
    elim n [
      | inl e ↦ record { place = 0; within = omega arith; here = sym e }
      | inr o ↦
          let pair = b.of_open v o in
          record { place = slice_index other v; within = inside (contour word) (slice_index other v) CLOSE (omega arith) pair.closes; here = before_closer word v (slice_index other v) m pair }
    ]

-- a word and the one whose places are those of its ring from a place on
module _ (word planted other other' : List ℕ) (start : ℕ) (m : IsMatched word) (m' : IsMatched planted) (b : IsBracketing (contour word) other) (b' : IsBracketing (contour planted) other')
    (l : start < length (contour word)) (t : IsTurned (contour word) start (contour planted)) where
  old_under : (p : ℕ) → place_from (contour word) start p < length (contour word)
  old_under p = mod_under (start + p) (length (contour word)) (omega arith)

  across : (p : ℕ) → p < length (contour word) → place_from (contour word) start (slice_index other' p) ≡ slice_index other (place_from (contour word) start p)
  across p k =
      let long = t.as_long in
      elim (other_of (contour planted) other' p b' (omega (arith, k, long))) [
        | inl o ↦
            let e = letter_back (contour word) other (contour planted) start p b (omega arith) t k o in
            ap (place_from (contour word) start) (b'.of_letter p (omega (arith, k, long)) o.not_open o.not_close)
            ∙ sym (b.of_letter (place_from (contour word) start p) (old_under p) (λ w. o.not_open (e ∙ w)) (λ w. o.not_close (e ∙ w)))
        | inr a ↦
            let back = brackets_back (contour word) other (contour planted) start p (slice_index other' p) b (omega arith) t k a in
            elim (other_of (contour word) other (place_from (contour word) start p) b (old_under p)) [
              | inl o ↦ absurd (no_other (contour word) (place_from (contour word) start p) (place_from (contour word) start (slice_index other' p)) o back)
              | inr h ↦ one_other (contour word) (place_from (contour word) start p) (place_from (contour word) start (slice_index other' p)) (slice_index other (place_from (contour word) start p)) back h
            ]
      ]

  turn_along : (p : ℕ) → p < length (contour planted) → node_at (contour word) (place_from (contour word) start (suc (slice_index other' p) % length (contour planted))) ≡ node_at (contour word) (place_from (contour word) start p)
  turn_along p k =
      let long = t.as_long in
      ap (λ (n : ℕ). node_at (contour word) (place_from (contour word) start (suc (slice_index other' p) % n))) long
      ∙ ap (node_at (contour word)) (step_along start (slice_index other' p) (length (contour word)) ∙ ap (λ (q : ℕ). suc q % length (contour word)) (across p (omega (arith, k, long))))
      ∙ turn_keeps word other (place_from (contour word) start p) m b (old_under p)

  -- places of one node were places of one node
  pub one_node : (p q : ℕ) → p < length (contour word) → q < length (contour word) → node_at (contour planted) p ≡ node_at (contour planted) q → node_at (contour word) (place_from (contour word) start p) ≡ node_at (contour word) (place_from (contour word) start q)
  one_node p q k n e =
      let long = t.as_long in
      same_at_node planted other' m' b' (λ p. node_at (contour word) (place_from (contour word) start p)) turn_along p q (omega (arith, k, long)) (omega (arith, n, long)) e

  stem_back : (v w p : ℕ) → ((p : ℕ) → p < length (contour word) → node_at (contour planted) p ≡ v → node_at (contour word) (place_from (contour word) start p) ≡ w) → p < length (contour word)
      → is_stem_of (contour planted) v p ≡ true → is_stem_of (contour word) w (place_from (contour word) start p) ≡ true
  stem_back v w p h k e =
      let s : slice_index (contour planted) p ≡ STEM = eqb-true _ _ (and_left (slice_index (contour planted) p == STEM) (node_at (contour planted) p == v) e) in
      let n : node_at (contour planted) p ≡ v = eqb-true _ _ (and_right (slice_index (contour planted) p == STEM) (node_at (contour planted) p == v) e) in
      let old = letter_back (contour word) other (contour planted) start p b (omega arith) t k (subst IsOther (sym s) stem_is_other) in
      rw (eq-eqb (slice_index (contour word) (place_from (contour word) start p)) STEM (sym old ∙ s), eq-eqb (node_at (contour word) (place_from (contour word) start p)) w (h p k n)) refl

  -- so a node has no more stems than the one that it was
  pub no_more_stems : (v w : ℕ) → ((p : ℕ) → p < length (contour word) → node_at (contour planted) p ≡ v → node_at (contour word) (place_from (contour word) start p) ≡ w) → stems (contour planted) v ≤ stems (contour word) w
  no_more_stems v w h =
      let a = ap (count_below (is_stem_of (contour planted) v)) t.as_long in
      let c = count_below-le (is_stem_of (contour planted) v) (λ p. is_stem_of (contour word) w (place_from (contour word) start p)) (length (contour word)) (λ p k e. stem_back v w p h k e) in
      let d = count_below-image (is_stem_of (contour word) w) (λ p. place_from (contour word) start p) (length (contour word)) (length (contour word)) (λ p k. old_under p)
      (λ p q k n e. sym (steps_are (length (contour word)) start p (omega arith) k) ∙ ap (steps_to (length (contour word)) start) e ∙ steps_are (length (contour word)) start q (omega arith) n) in
      omega (arith, a, c, d)

  -- the way back to the place
  home : (r : ℕ) → r < length (contour word) → place_from (contour planted) (steps_to (length (contour word)) start 0) (place_from (contour word) start r) ≡ r
  home r k =
      let q : ℕ = place_from (contour word) start r in
      let e : 0 + (length (contour word) - start) + q ≡ q + (length (contour word) - start) = omega arith in
      ap (λ (n : ℕ). (steps_to (length (contour word)) start 0 + q) % n) t.as_long
      ∙ ap (λ (n : ℕ). (n + q) % length (contour word)) (steps_to_is (length (contour word)) start 0)
      ∙ mod-add-mod (0 + (length (contour word) - start)) (length (contour word)) q
      ∙ ap (λ (n : ℕ). n % length (contour word)) e ∙ sym (steps_to_is (length (contour word)) start q) ∙ steps_are (length (contour word)) start r (omega arith) k

-- the stems of the nodes of the planted word
pub stems_stay : (word planted other other' : List ℕ) (start : ℕ) → IsMatched word → IsMatched planted → IsBracketing (contour word) other → IsBracketing (contour planted) other' → start < length (contour word) → IsTurned (contour word) start (contour planted) → HasStems word → HasStems planted
stems_stay word planted other other' start m m' b b' l t h v n =
    let long = t.as_long in
    let r = place_of planted other' v m' b' n in
    let within : r.place < length (contour word) = let k = r.within in omega (arith, k, long) in
    let old : ℕ = place_from (contour word) start r.place in
    let begin : ℕ = steps_to (length (contour word)) start 0 in
    let begin_under : begin < length (contour planted) = let k = steps_under (length (contour word)) start 0 (omega arith) in omega (arith, k, long) in
    let t' : IsTurned (contour planted) begin (contour word) = turned_back (contour word) other (contour planted) start b (omega arith) t in
    let old_under : old < length (contour planted) = let k = mod_under (start + r.place) (length (contour word)) (omega arith) in omega (arith, k, long) in
    let few = no_more_stems word planted other other' start m m' b b' l t v (node_at (contour word) old)
    (λ p k e. one_node word planted other other' start m m' b b' l t p r.place k within (e ∙ sym r.here)) in
    let many = no_more_stems planted word other' other begin m' m b' b begin_under t' (node_at (contour word) old) v
    (λ p k e. one_node planted word other' other begin m' m b' b begin_under t' p old k old_under e ∙ ap (node_at (contour planted)) (home word planted other other' start m m' b b' l t r.place within) ∙ r.here) in
    let two = h (node_at (contour word) old) (at_is_node word old m) in
    omega (arith, few, many, two)

pub each_stem : EachStemIsReplanted
each_stem word stem t l =
    let h = stems_count word t in
    planted_exists STEM stem_is_other (omega arith) word stem t.in_order.matched (omega (arith, h, l))

pub replanted_unique : ReplantedIsUnique
replanted_unique word stem one other t r s = planted_unique STEM stem_is_other (omega arith) word stem one other t.in_order.matched r s

pub stems_turned : StemsAreTurned
stems_turned word stem replanted t r number place l h = numbers_turned STEM stem_is_other (omega arith) word stem replanted t.in_order.matched r number place l h

pub replanting_undone : ReplantingIsUndone
replanting_undone word stem replanted t r = planting_undone STEM stem_is_other (omega arith) word stem replanted t.in_order.matched r

-- the letters stay those of a stem tree
letters_kept : (word planted : List ℕ) (start : ℕ) → IsInOrder word → start < length (contour word) → IsTurned (contour word) start (contour planted) → All (λ x. IsTrue (is_letter_of (STEM ∷ []) x)) planted
letters_kept word planted start o l t =
    let Letters : List ℕ → Type 0 = All (λ x. IsTrue (is_letter_of (STEM ∷ []) x)) in
    let h = ring_turned Letters (letters_stay (λ x. is_letter_of (STEM ∷ []) x) refl refl) STEM stem_is_other word start o.matched (ring_letters word o) in
    let same : h.ring ≡ contour planted = same_rings STEM stem_is_other word h.ring (contour planted) start o.matched l h.turned t in
    All-tail (λ x. IsTrue (is_letter_of (STEM ∷ []) x)) STEM planted (subst Letters same h.holds) where
      ring_letters : (word : List ℕ) → IsInOrder word → All (λ x. IsTrue (is_letter_of (STEM ∷ []) x)) (contour word)
      ring_letters word o zero d l = refl
      ring_letters word o (suc k) d l = o.letters k d (omega arith)

pub replanted_alike : ReplantedIsAlike
replanted_alike word stem replanted t r =
    let matched = planted_matched STEM stem_is_other (omega arith) word stem replanted t.in_order.matched r in
    let within = letter_within STEM (omega arith) (contour word) stem r.start r.is_start in
    let long = r.is_turned.as_long in
    let b = bracketing_exists STEM stem_is_other word t.in_order.matched in
    let b' = bracketing_exists STEM stem_is_other replanted matched in
    let opens = planted_count STEM stem_is_other (omega arith) word stem replanted OPEN t.in_order.matched r in
    let old = tally_no OPEN STEM word stem_is_other.not_open in
    let new = tally_no OPEN STEM replanted stem_is_other.not_open in
    let c = tally_is OPEN (contour word) in
    let d = tally_is OPEN (contour replanted) in
    let e = tally_is OPEN word in
    let f = tally_is OPEN replanted in
    record {
      stem_tree = record {
        in_order = record { letters = letters_kept word replanted r.start t.in_order within r.is_turned; matched = matched };
        short = let s = t.short in omega (arith, s, long);
        stems = stems_stay word replanted b.0 b'.0 r.start t.in_order.matched matched b.1 b'.1 within r.is_turned t.stems;
      };
      letters = omega (arith, long);
      stems_are = planted_count STEM stem_is_other (omega arith) word stem replanted STEM t.in_order.matched r;
      nodes_are = omega (arith, opens, old, new, c, d, e, f);
    }

-- the contour read from the stem of a number on
pub replanted_from : (word text : List ℕ) (stem start : ℕ) (letters : List ℕ) → text ≡ word → IsLetterAt STEM (contour text) stem start → IsTurned (contour text) start (contour letters) → IsReplanted word stem letters
replanted_from word text stem start letters e h t =
    let P : List ℕ → Type 0 = λ xs. IsReplanted xs stem letters in
    subst P e (record { start = start; is_start = h; is_turned = t })

pub alike_from : (word text : List ℕ) (stem start : ℕ) (letters : List ℕ) → text ≡ word → IsStemTree word → IsLetterAt STEM (contour text) stem start → IsTurned (contour text) start (contour letters) → IsAlike word letters
alike_from word text stem start letters e s h t = replanted_alike word stem letters s (replanted_from word text stem start letters e h t)

-- a number below twice the nodes is that of a stem
pub stem_few : (word text : List ℕ) (stem : ℕ) → text ≡ word → IsStemTree word → stem < 2 * nodes word → stem < all_stems text
stem_few word text stem e t l =
    let h = stems_count word t in
    let f = ap (λ (xs : List ℕ). all_stems xs) e in
    omega (arith, h, f, l)
