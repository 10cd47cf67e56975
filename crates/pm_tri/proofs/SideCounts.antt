-- The sides and stems before each place of a stem tree's contour, read on and on: a walk of steps up and down, which falls by two
-- in each turn.
use Rattle.std.proofs.Common.{◌≡◌, ◌⊎◌, ℕ, zero, suc, ◌+◌, ◌%◌, ◌<◌, ◌≤◌, ◌==◌, ◌||◌, inl, inr, Bool, true, false, List, length, slice_index, refl, ap, ◌∙◌, sym, arith}
use Rattle.std.proofs.lemmas.Bool.{cases_eq, eq-eqb, ne_eqb}
use Rattle.std.proofs.Math.Nat.{add-mod_left}
use Rattle.pm_perm.specs.Count.{count_below}
use Rattle.pm_perm.proofs.Counts.{count_below-add, count_below-same}
use Rattle.pm_brackets.specs.declared.letters.TheConstants.{OPEN, CLOSE}
use Rattle.pm_brackets.specs.Word.{IsOther}
use Rattle.pm_brackets.proofs.RingPlaces.{mod_stays, mod_under}
use Rattle.pm_brackets.proofs.LetterTurns.{seen_all}
use Rattle.pm_brackets.proofs.Levels.{seen, seen_no, seen_none, seen_yes}
use Rattle.pm_brackets.proofs.Tally.{tally_is, tally_no}
use Rattle.pm_tri.specs.declared.letters.TheConstants.{STEM}
use Rattle.pm_tri.specs.Sides.{is_side, is_stem_at, letter, sides, stem_steps}
use Rattle.pm_tri.specs.StemTree.{IsInOrder, IsStemTree, contour}
use Rattle.pm_tri.proofs.StemCounts.{stems_count}
use Rattle.pm_tri.proofs.StemLetters.{letter_is_stem, stem_is_other}

-- the sides before a place, and the stems
pub up : List ℕ → ℕ → ℕ
up places k = count_below (is_side places) k

pub down : List ℕ → ℕ → ℕ
down places k = count_below (is_stem_at places) k

pub up_is : (places : List ℕ) (k : ℕ) → up places k ≡ sides places 0 k
unfolding up
up_is places k = count_below-same (is_side places) (λ i. is_side places (0 + i)) k (λ i l. ap (is_side places) (omega arith))

pub down_is : (places : List ℕ) (k : ℕ) → down places k ≡ stem_steps places 0 k
unfolding down
down_is places k = count_below-same (is_stem_at places) (λ i. is_stem_at places (0 + i)) k (λ i l. ap (is_stem_at places) (omega arith))

pub up_none : (places : List ℕ) → up places 0 ≡ 0
unfolding up
up_none places = refl

pub down_none : (places : List ℕ) → down places 0 ≡ 0
unfolding down
down_none places = refl

-- of a stretch
pub up_stretch : (places : List ℕ) (from many : ℕ) → up places (from + many) ≡ up places from + sides places from many
unfolding up
up_stretch places from many = count_below-add (is_side places) from many

pub down_stretch : (places : List ℕ) (from many : ℕ) → down places (from + many) ≡ down places from + stem_steps places from many
unfolding down
down_stretch places from many = count_below-add (is_stem_at places) from many

-- a side at the place
pub record IsSideAt (places : List ℕ) (k : ℕ) : Type 0 where
  pub no_stem : letter places k ≡ STEM → ⊥
  pub more : up places (suc k) ≡ suc (up places k)
  pub same : down places (suc k) ≡ down places k

-- a stem at the place
pub record IsStemAt (places : List ℕ) (k : ℕ) : Type 0 where
  pub stem : letter places k ≡ STEM
  pub same : up places (suc k) ≡ up places k
  pub more : down places (suc k) ≡ suc (down places k)

-- the walk along the contour
pub record IsFalling (places : List ℕ) : Type 0 where
  pub some : 1 < length places
  pub step : (k : ℕ) → IsSideAt places k ⊎ IsStemAt places k
  pub turn_up : (k : ℕ) → up places (k + length places) ≡ up places k + up places (length places)
  pub turn_down : (k : ℕ) → down places (k + length places) ≡ down places k + down places (length places)
  pub falls : down places (length places) ≡ up places (length places) + 2

one_more : (P : ℕ → Bool) (k : ℕ) → P k ≡ true → count_below P (suc k) ≡ suc (count_below P k)
one_more P k e = let h : count_below P (suc k) ≡ count_below P k + 1 = rw e refl in omega (arith, h)

none_more : (P : ℕ → Bool) (k : ℕ) → P k ≡ false → count_below P (suc k) ≡ count_below P k
none_more P k e = let h : count_below P (suc k) ≡ count_below P k + 0 = rw e refl in omega (arith, h)

abbrev bracket : ℕ → Bool
bracket x = (x == OPEN) || (x == CLOSE)

-- the step at a place whose letter is known
pub side_step : (places : List ℕ) (k : ℕ) → (letter places k ≡ OPEN) ⊎ (letter places k ≡ CLOSE) → IsSideAt places k
unfolding up down
side_step places k (inl e) =
    let no : letter places k ≡ STEM → ⊥ = λ f. omega (arith, e, f) in
    record {
      no_stem = no;
      more = one_more (is_side places) k (rw (eq-eqb (letter places k) OPEN e) refl);
      same = none_more (is_stem_at places) k (ne_eqb (letter places k) STEM no);
    }
side_step places k (inr e) =
    let no : letter places k ≡ STEM → ⊥ = λ f. omega (arith, e, f) in
    let other : letter places k ≡ OPEN → ⊥ = λ f. omega (arith, e, f) in
    record {
      no_stem = no;
      more = one_more (is_side places) k (rw (ne_eqb (letter places k) OPEN other, eq-eqb (letter places k) CLOSE e) refl);
      same = none_more (is_stem_at places) k (ne_eqb (letter places k) STEM no);
    }

pub stem_step : (places : List ℕ) (k : ℕ) → letter places k ≡ STEM → IsStemAt places k
unfolding up down
stem_step places k e =
    let open' : letter places k ≡ OPEN → ⊥ = λ f. omega (arith, e, f) in
    let close : letter places k ≡ CLOSE → ⊥ = λ f. omega (arith, e, f) in
    record {
      stem = e;
      same = none_more (is_side places) k (rw (ne_eqb (letter places k) OPEN open', ne_eqb (letter places k) CLOSE close) refl);
      more = one_more (is_stem_at places) k (eq-eqb (letter places k) STEM e);
    }

-- each letter of a stem tree's contour is a bracket or a stem
three_letters : (word : List ℕ) (p : ℕ) → IsInOrder word → p < length (contour word) → (IsOther (slice_index (contour word) p) → slice_index (contour word) p ≡ STEM)
three_letters word zero order l o = refl
three_letters word (suc p) order l o = letter_is_stem word p order (omega arith) o

-- the letter at a place, also past the end
pub each_letter : (word : List ℕ) (k : ℕ) → IsInOrder word → ((letter (contour word) k ≡ OPEN) ⊎ (letter (contour word) k ≡ CLOSE)) ⊎ (letter (contour word) k ≡ STEM)
each_letter word k order = elim (cases_eq (letter (contour word) k) OPEN) [
  | inl e ↦ inl (inl e)
  | inr a ↦ elim (cases_eq (letter (contour word) k) CLOSE) [
    | inl e ↦ inl (inr e)
    | inr b ↦ inr (three_letters word (k % length (contour word)) order (mod_under k (length (contour word)) (omega arith)) (record { not_open = a; not_close = b }))
  ]
]

pub each_step : (word : List ℕ) → IsInOrder word → (k : ℕ) → IsSideAt (contour word) k ⊎ IsStemAt (contour word) k
each_step word order k = elim (each_letter word k order) [ inl e ↦ inl (side_step (contour word) k e) | inr e ↦ inr (stem_step (contour word) k e) ]

-- one turn on the letters are the same
letter_again : (places : List ℕ) (k : ℕ) → letter places (length places + k) ≡ letter places k
letter_again places k = ap (slice_index places) (add-mod_left (length places) k)

again_up : (places : List ℕ) (k : ℕ) → up places (k + length places) ≡ up places k + up places (length places)
unfolding up
again_up places k =
    let e : k + length places ≡ length places + k = omega arith in
    let a = ap (count_below (is_side places)) e in
    let b = count_below-add (is_side places) (length places) k in
    let c = count_below-same (λ i. is_side places (length places + i)) (is_side places) k (λ i l. ap bracket (letter_again places i)) in
    omega (arith, a, b, c)

again_down : (places : List ℕ) (k : ℕ) → down places (k + length places) ≡ down places k + down places (length places)
unfolding down
again_down places k =
    let e : k + length places ≡ length places + k = omega arith in
    let a = ap (count_below (is_stem_at places)) e in
    let b = count_below-add (is_stem_at places) (length places) k in
    let c = count_below-same (λ i. is_stem_at places (length places + i)) (is_stem_at places) k (λ i l. ap (λ (x : ℕ). x == STEM) (letter_again places i)) in
    omega (arith, a, b, c)

-- the letters of a prefix, by letter
record IsPrefix (places : List ℕ) (k : ℕ) : Type 0 where
  ups : up places k ≡ seen OPEN places k + seen CLOSE places k
  downs : down places k ≡ seen STEM places k

prefix_none : (places : List ℕ) → IsPrefix places 0
prefix_none places = record {
  ups = omega (arith, up_none places, seen_none OPEN places, seen_none CLOSE places);
  downs = omega (arith, down_none places, seen_none STEM places);
}

module _ (places : List ℕ) (k : ℕ) (x : ℕ) (here : slice_index places k ≡ x) (same : letter places k ≡ x) (h : IsPrefix places k) where
  not_here : (y : ℕ) → (x ≡ y → ⊥) → slice_index places k ≡ y → ⊥
  not_here y ne e = ne (sym here ∙ e)

  prefix_open : x ≡ OPEN → IsPrefix places (suc k)
  prefix_open e =
      let step = side_step places k (inl (same ∙ e)) in
      let a = seen_yes OPEN places k (omega arith) (here ∙ e) in
      let b = seen_no CLOSE places k (not_here CLOSE (λ f. omega (arith, e, f))) in
      let c = seen_no STEM places k (not_here STEM (λ f. omega (arith, e, f))) in
      record { ups = omega (arith, a, b, h.ups, step.more); downs = omega (arith, c, h.downs, step.same) }

  prefix_close : x ≡ CLOSE → IsPrefix places (suc k)
  prefix_close e =
      let step = side_step places k (inr (same ∙ e)) in
      let a = seen_yes CLOSE places k (omega arith) (here ∙ e) in
      let b = seen_no OPEN places k (not_here OPEN (λ f. omega (arith, e, f))) in
      let c = seen_no STEM places k (not_here STEM (λ f. omega (arith, e, f))) in
      record { ups = omega (arith, a, b, h.ups, step.more); downs = omega (arith, c, h.downs, step.same) }

  prefix_stem : x ≡ STEM → IsPrefix places (suc k)
  prefix_stem e =
      let step = stem_step places k (same ∙ e) in
      let a = seen_yes STEM places k (omega arith) (here ∙ e) in
      let b = seen_no OPEN places k (not_here OPEN (λ f. omega (arith, e, f))) in
      let c = seen_no CLOSE places k (not_here CLOSE (λ f. omega (arith, e, f))) in
      record { ups = omega (arith, b, c, h.ups, step.same); downs = omega (arith, a, h.downs, step.more) }

prefixes : (word : List ℕ) → IsInOrder word → (k : ℕ) → k ≤ length (contour word) → IsPrefix (contour word) k
prefixes word order zero l = prefix_none (contour word)
prefixes word order (suc k) l =
    let before = prefixes word order k (omega arith) in
    let same : letter (contour word) k ≡ slice_index (contour word) k = ap (slice_index (contour word)) (mod_stays k (length (contour word)) (omega arith)) in
    elim (cases_eq (slice_index (contour word) k) OPEN) [
      | inl e ↦ prefix_open (contour word) k (slice_index (contour word) k) refl same before e
      | inr a ↦ elim (cases_eq (slice_index (contour word) k) CLOSE) [
        | inl e ↦ prefix_close (contour word) k (slice_index (contour word) k) refl same before e
        | inr b ↦ prefix_stem (contour word) k (slice_index (contour word) k) refl same before (three_letters word k order (omega arith) (record { not_open = a; not_close = b }))
      ]
    ]

pub tree_falls : (word : List ℕ) → IsStemTree word → IsFalling (contour word)
tree_falls word t =
    let whole = prefixes word t.in_order (length (contour word)) (omega arith) in
    let stems = stems_count word t in
    let s = seen_all STEM (omega arith) (contour word) in
    let o = seen_all OPEN (omega arith) (contour word) in
    let c = seen_all CLOSE (omega arith) (contour word) in
    let opens = tally_no OPEN STEM word stem_is_other.not_open in
    let closes = tally_no CLOSE STEM word stem_is_other.not_close in
    let o1 = tally_is OPEN (contour word) in
    let o2 = tally_is OPEN word in
    let c1 = tally_is CLOSE (contour word) in
    let c2 = tally_is CLOSE word in
    let matched = t.in_order.matched.equal in
    let all : down (contour word) (length (contour word)) ≡ up (contour word) (length (contour word)) + 2 = omega (arith, whole.ups, whole.downs, stems, s, o, c, opens, closes, o1, o2, c1, c2, matched) in
    record {
      some = long_enough word t.in_order all;
      step = each_step word t.in_order;
      turn_up = again_up (contour word);
      turn_down = again_down (contour word);
      falls = all;
    } where
      -- two stems have two places
      few : (places : List ℕ) (k : ℕ) → ((k : ℕ) → IsSideAt places k ⊎ IsStemAt places k) → up places k + down places k ≡ k
      few places zero h = omega (arith, up_none places, down_none places)
      few places (suc k) h =
          let before = few places k h in
          elim (h k) [
            | inl a ↦ omega (arith, before, a.more, a.same)
            | inr a ↦ omega (arith, before, a.more, a.same)
          ]

      long_enough : (word : List ℕ) → IsInOrder word → down (contour word) (length (contour word)) ≡ up (contour word) (length (contour word)) + 2 → 1 < length (contour word)
      long_enough word order e =
          let h = few (contour word) (length (contour word)) (each_step word order) in
          omega (arith, h, e)
