-- In each stem tree exactly two stems start runs, by the cycle lemma: the good starts for 2 of its contour read backwards tell them.
use Rattle.std.proofs.Common.{◌≡◌, ◌⊎◌, ℕ, zero, suc, ◌+◌, ◌-◌, ◌%◌, ◌<◌, min, max, inl, inr, List, [], ◌∷◌, length, slice_index, get_or, refl, ap, ◌∙◌, sym, subst, arith, ℤ, pos, neg_ℤ, add-one}
use Rattle.std.proofs.lemmas.Bool.{cases_eq, cases_lt}
use Rattle.std.proofs.lemmas.Grind.{get_or_default_zero}
use Rattle.std.proofs.Math.Nat.{add-mod_right}
use Rattle.pm_words.specs.Word.{IsGoodStarts, IsWord, sum_of}
use Rattle.pm_words.proofs.Cycle.{good_starts_exist}
use Rattle.pm_words.proofs.Heights.{IsGoodStart-from_low, IsLow-from_good}
use Rattle.pm_brackets.specs.PlantedAt.{AreTwo, AreTwoMarks}
use Rattle.pm_brackets.proofs.RingPlaces.{mod_stays}
use Rattle.pm_tri.specs.declared.letters.TheConstants.{STEM}
use Rattle.pm_tri.specs.RunLaws.{TwoRuns}
use Rattle.pm_tri.specs.Runs.{AreRunStarts, IsRunStart}
use Rattle.pm_tri.specs.StemTree.{IsStemTree, contour}
use Rattle.pm_tri.specs.steps.ReadBack.{IsReadBack, count_of}
use Rattle.pm_tri.proofs.BackCounts.{back_sum, back_word, drop_low, low_drops}
use Rattle.pm_tri.proofs.HighCorners.{IsHigh, high_again, high_before}
use Rattle.pm_tri.proofs.RunCorners.{IsDrop, drop_starts, start_drops}
use Rattle.pm_tri.proofs.RunTurns.{run_starts_turned}
use Rattle.pm_tri.proofs.SideCounts.{IsFalling, tree_falls}

-- where the run starts that a good start of the contour read backwards tells
pub start_place : ℕ → ℕ → ℕ
start_place n s = suc (n - s) % n

pub start_place_is : (n s : ℕ) → start_place n s ≡ suc (n - s) % n
unfolding start_place
start_place_is n s = refl

-- the place by cases
data IsPlaced (n s p : ℕ) : Type 0 where
  behind : s ≡ 0 → p ≡ 1 → IsPlaced n s p
  at_plant : s ≡ 1 → p ≡ 0 → IsPlaced n s p
  further : 1 < s → p ≡ suc (n - s) → IsPlaced n s p

placed : (n s : ℕ) → 1 < n → s < n → IsPlaced n s (start_place n s)
placed n s some l = elim (cases_eq s 0) [
  | inl none ↦
      let e : suc (n - s) ≡ 1 + n = omega arith in
      behind none (start_place_is n s ∙ ap (λ (k : ℕ). k % n) e ∙ add-mod_right 1 n ∙ mod_stays 1 n some)
  | inr more ↦ elim (cases_eq s 1) [
    | inl one ↦
        let e : suc (n - s) ≡ 0 + n = omega arith in
        at_plant one (start_place_is n s ∙ ap (λ (k : ℕ). k % n) e ∙ add-mod_right 0 n ∙ mod_stays 0 n (omega arith))
    | inr two ↦ further (omega arith) (start_place_is n s ∙ mod_stays (suc (n - s)) n (omega arith))
  ]
]

apart : (n s t p q : ℕ) → s < t → t < n → IsPlaced n s p → IsPlaced n t q → p ≡ q → ⊥
apart n s t p q l m (behind a b) (behind c d) e = omega arith
apart n s t p q l m (behind a b) (at_plant c d) e = omega arith
apart n s t p q l m (behind a b) (further c d) e = omega arith
apart n s t p q l m (at_plant a b) (behind c d) e = omega arith
apart n s t p q l m (at_plant a b) (at_plant c d) e = omega arith
apart n s t p q l m (at_plant a b) (further c d) e = omega arith
apart n s t p q l m (further a b) (behind c d) e = omega arith
apart n s t p q l m (further a b) (at_plant c d) e = omega arith
apart n s t p q l m (further a b) (further c d) e = omega arith

-- a start of a run, by the corner that the contour read backwards begins with
record IsToldBy (places : List ℕ) (p : ℕ) : Type 0 where
  back : ℕ
  within : back < length places
  drop : IsDrop places (length places - back)
  is : start_place (length places) back ≡ p

module _ (places : List ℕ) (w : IsFalling places) where
  drop_tells : (s : ℕ) → s < length places → IsDrop places (length places - s) → IsRunStart places (start_place (length places) s)
  drop_tells s l d = elim (cases_eq s 0) [
    | inl none ↦
        let some = w.some in
        let e : length places - s ≡ 0 + length places = omega arith in
        let f : suc (length places - s) ≡ 1 + length places = omega arith in
        drop_starts places w (start_place (length places) s) (record {
          corner = 0;
          within = omega arith;
          is = sym (add-mod_right 1 (length places)) ∙ ap (λ (k : ℕ). k % length places) (sym f) ∙ sym (start_place_is (length places) s);
          drop = record { here = high_before places w 0 (subst (λ (k : ℕ). IsHigh places k) e d.here); next = high_before places w 1 (subst (λ (k : ℕ). IsHigh places k) f d.next) };
        })
    | inr more ↦ drop_starts places w (start_place (length places) s) (record {
      corner = length places - s;
      within = omega arith;
      is = sym (start_place_is (length places) s);
      drop = d;
    })
  ]

  told : (p : ℕ) → IsRunStart places p → IsToldBy places p
  told p r =
      let d = start_drops places w p r in
      let inside = d.within in
      elim (cases_eq d.corner 0) [
        | inl none ↦
            let some = w.some in
            let e : d.corner + length places ≡ length places - 0 = omega arith in
            let f : suc d.corner + length places ≡ suc (length places - 0) = omega arith in
            record {
              back = 0;
              within = omega arith;
              drop = record { here = subst (λ (k : ℕ). IsHigh places k) e (high_again places w d.corner d.drop.here); next = subst (λ (k : ℕ). IsHigh places k) f (high_again places w (suc d.corner) d.drop.next) };
              is = start_place_is (length places) 0 ∙ ap (λ (k : ℕ). k % length places) (sym f) ∙ add-mod_right (suc d.corner) (length places) ∙ d.is;
            }
        | inr more ↦
            let e : d.corner ≡ length places - (length places - d.corner) = omega arith in
            record {
              back = length places - d.corner;
              within = omega arith;
              drop = subst (IsDrop places) e d.drop;
              is = start_place_is (length places) (length places - d.corner) ∙ ap (λ (k : ℕ). suc k % length places) (sym e) ∙ d.is;
            }
      ]

  -- the two good starts of the contour read backwards tell the two that start runs
  pub told_starts : (counts : List ℤ) (starts : List ℕ) → IsReadBack places counts → IsGoodStarts 2 counts starts
      → (a b first second : ℕ) → a ≡ start_place (length places) (get_or starts 0 0) → b ≡ start_place (length places) (get_or starts 1 0)
      → first ≡ min a b → second ≡ max a b → AreRunStarts places first second
  told_starts counts starts r g a b first second a_is b_is low high =
      let two = g.as_many in
      let long = r.as_long in
      let rising : get_or starts 0 0 < get_or starts 1 0 = g.rising 0 (omega arith) in
      let sum = back_sum places w counts r in
      let l0 = IsLow-from_good 2 counts (get_or starts 0 0) sum (g.good 0 (omega arith)) in
      let l1 = IsLow-from_good 2 counts (get_or starts 1 0) sum (g.good 1 (omega arith)) in
      let in0 : get_or starts 0 0 < length places = omega (arith, l0.within, long) in
      let in1 : get_or starts 1 0 < length places = omega (arith, l1.within, long) in
      let ne : a ≡ b → ⊥ = λ e. apart (length places) (get_or starts 0 0) (get_or starts 1 0) _ _ rising in1 (placed (length places) (get_or starts 0 0) w.some in0) (placed (length places) (get_or starts 1 0) w.some in1) (sym a_is ∙ e ∙ b_is) in
      let a_starts = subst (IsRunStart places) (sym a_is) (drop_tells (get_or starts 0 0) in0 (low_drops places w counts r (get_or starts 0 0) in0 l0)) in
      let b_starts = subst (IsRunStart places) (sym b_is) (drop_tells (get_or starts 1 0) in1 (low_drops places w counts r (get_or starts 1 0) in1 l1)) in
      in_order a b first second low high ne a_starts b_starts (λ p s.
      let t = told p s in
      let found = g.all t.back (IsGoodStart-from_low 2 counts t.back (omega arith) sum (drop_low places w counts r t.back t.within t.drop)) in
      let n = found.1 in
      elim (cases_eq found.0 0) [
        | inl e ↦ inl (sym t.is ∙ ap (start_place (length places)) (sym found.2 ∙ ap (λ (k : ℕ). get_or starts k 0) e) ∙ sym a_is)
        | inr ne ↦
            let e : found.0 ≡ 1 = omega arith in
            inr (sym t.is ∙ ap (start_place (length places)) (sym found.2 ∙ ap (λ (k : ℕ). get_or starts k 0) e) ∙ sym b_is)
      ]) where
        in_order : (a b first second : ℕ) → first ≡ min a b → second ≡ max a b → (a ≡ b → ⊥) → IsRunStart places a → IsRunStart places b → ((p : ℕ) → IsRunStart places p → (p ≡ a) ⊎ (p ≡ b)) → AreRunStarts places first second
        in_order a b first second low high ne a_starts b_starts none = elim (cases_lt a b) [
          | inl less ↦
              let f : first ≡ a = omega arith in
              let s : second ≡ b = omega arith in
              record {
                in_order = omega arith;
                first_is = subst (IsRunStart places) (sym f) a_starts;
                second_is = subst (IsRunStart places) (sym s) b_starts;
                no_third = λ p r. elim (none p r) [ inl e ↦ inl (e ∙ sym f) | inr e ↦ inr (e ∙ sym s) ];
              }
          | inr more ↦
              let f : first ≡ b = omega (arith, ne) in
              let s : second ≡ a = omega (arith, ne) in
              record {
                in_order = omega (arith, ne);
                first_is = subst (IsRunStart places) (sym f) b_starts;
                second_is = subst (IsRunStart places) (sym s) a_starts;
                no_third = λ p r. elim (none p r) [ inl e ↦ inr (e ∙ sym s) | inr e ↦ inl (e ∙ sym f) ];
              }
        ]

-- the counts of a contour read backwards, for the law
counts_to : List ℕ → ℕ → List ℤ
counts_to places zero = []
counts_to places (suc n) = count_of (slice_index places n) ∷ counts_to places n

counts_none : (places : List ℕ) → counts_to places 0 ≡ []
unfolding counts_to
counts_none places = refl

counts_more : (places : List ℕ) (n : ℕ) → counts_to places (suc n) ≡ count_of (slice_index places n) ∷ counts_to places n
unfolding counts_to
counts_more places n = refl

counts_long : (places : List ℕ) (n : ℕ) → length (counts_to places n) ≡ n
counts_long places zero = ap length (counts_none places)
counts_long places (suc n) = ap length (counts_more places n) ∙ ap suc (counts_long places n)

counts_each : (places : List ℕ) (n i : ℕ) → i < n → get_or (counts_to places n) i (pos 0) ≡ count_of (slice_index places (n - suc i))
counts_each places zero i l = absurd (omega arith)
counts_each places (suc n) zero l =
    let e : n ≡ suc n - suc 0 = omega arith in
    ap (λ (xs : List ℤ). get_or xs 0 (pos 0)) (counts_more places n) ∙ ap (λ (k : ℕ). count_of (slice_index places k)) e
counts_each places (suc n) (suc i) l =
    let e : n - suc i ≡ suc n - suc (suc i) = omega arith in
    ap (λ (xs : List ℤ). get_or xs (suc i) (pos 0)) (counts_more places n) ∙ counts_each places n i (omega arith) ∙ ap (λ (k : ℕ). count_of (slice_index places k)) e

read_back : (places : List ℕ) → IsReadBack places (counts_to places (length places))
read_back places = record { as_long = counts_long places (length places); each = counts_each places (length places) }

starts_two : (places : List ℕ) (first second : ℕ) → AreRunStarts places first second → AreTwo (IsRunStart places)
starts_two places first second r = record {
  earlier = first;
  later = second;
  in_order = r.in_order;
  earlier_is = r.first_is;
  later_is = r.second_is;
  no_third = r.no_third;
}

pub two_runs : TwoRuns
two_runs word t =
    let w = tree_falls word t in
    let b = read_back (contour word) in
    let counts : List ℤ = counts_to (contour word) (length (contour word)) in
    let found = good_starts_exist 2 (counts_to (contour word) (length (contour word))) (omega arith) (back_word (contour word) w _ b) (back_sum (contour word) w _ b) in
    starts_two (contour word) _ _ (told_starts (contour word) w _ found.0 b found.1 _ _ _ _ refl refl refl refl)

-- the stems that start runs are two marks
pub run_marks : AreTwoMarks STEM IsStemTree IsRunStart
run_marks = record { two = two_runs; turned = run_starts_turned }

-- what the counts of a tree's word, read backwards, are a word of
pub record IsCountWord (counts : List ℤ) : Type 0 where
  pub is_word : IsWord counts
  pub sum : sum_of counts ≡ neg_ℤ (pos 2)

pub starts_word : (word text : List ℕ) (counts read : List ℤ) → text ≡ word → IsStemTree word → IsReadBack (contour text) counts → read ≡ counts → IsCountWord read
starts_word word text counts read e t b r =
    let w = tree_falls word t in
    let same : IsReadBack (contour word) counts = subst (λ (xs : List ℕ). IsReadBack (contour xs) counts) e b in
    subst IsCountWord (sym r) (record { is_word = back_word (contour word) w counts same; sum = back_sum (contour word) w counts same })

-- an entry of the good starts of the counts
start_low : (text : List ℕ) (counts : List ℤ) (starts : List ℕ) (i x : ℕ) → IsReadBack (contour text) counts → IsGoodStarts 2 counts starts → i < 2 → x ≡ get_or starts i x → (x ≡ get_or starts i 0) × (x < length (contour text))
start_low text counts starts i x b g l e =
    let two = g.as_many in
    let same : x ≡ get_or starts i 0 = e ∙ get_or_default_zero starts i x (omega arith) in
    (same, omega (arith, same, (g.good i (omega arith)).within, b.as_long))

pub entry_low : (text : List ℕ) (counts read : List ℤ) (starts : List ℕ) (i x : ℕ) → IsReadBack (contour text) counts → read ≡ counts → IsGoodStarts 2 read starts → i < 2 → x ≡ get_or starts i x → x < length text + 1
entry_low text counts read starts i x b r g l e =
    let low = start_low text counts starts i x b (subst (λ (xs : List ℤ). IsGoodStarts 2 xs starts) r g) l e in
    omega (arith, low.1)

pub found_starts : (word text : List ℕ) (counts read : List ℤ) (starts : List ℕ) (x y a b places first second : ℕ) → text ≡ word → IsStemTree word → IsReadBack (contour text) counts → read ≡ counts → IsGoodStarts 2 read starts
    → x ≡ get_or starts 0 x → y ≡ get_or starts 1 y → places ≡ length text + 1 → a ≡ suc (places - x) % places → b ≡ suc (places - y) % places → first ≡ min a b → second ≡ max a b → AreRunStarts (contour word) first second
found_starts word text counts read starts x y a b places first second e t back r g x_is y_is long a_is b_is low high =
    let good = subst (λ (xs : List ℤ). IsGoodStarts 2 xs starts) r g in
    let one = start_low text counts starts 0 x back good (omega arith) x_is in
    let two = start_low text counts starts 1 y back good (omega arith) y_is in
    let same : places ≡ length (contour word) = long ∙ add-one (length text) ∙ ap (λ (xs : List ℕ). length (contour xs)) e in
    told_starts (contour word) (tree_falls word t) counts starts (subst (λ (xs : List ℕ). IsReadBack (contour xs) counts) e back) good a b first second
    (a_is ∙ ap (λ (n : ℕ). suc (n - x) % n) same ∙ sym (start_place_is (length (contour word)) x) ∙ ap (start_place (length (contour word))) one.0)
    (b_is ∙ ap (λ (n : ℕ). suc (n - y) % n) same ∙ sym (start_place_is (length (contour word)) y) ∙ ap (start_place (length (contour word))) two.0)
    low high
