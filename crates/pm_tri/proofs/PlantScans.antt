-- The two scans that tell why a stem tree isn't balanced: forwards for the side at which the plant closes, backwards for the free
-- stem before it.
use Rattle.std.proofs.Common.{◌≡◌, ℕ, suc, ◌+◌, ◌-◌, ◌%◌, ◌<◌, ◌≤◌, inl, inr, List, length, slice_index, refl, ap, ◌∙◌, sym, subst, arith}
use Rattle.std.proofs.lemmas.Bool.{cases_eq, cases_lt}
use Rattle.std.proofs.Math.Nat.{add-mod_right}
use Rattle.pm_brackets.proofs.RingPlaces.{mod_stays}
use Rattle.pm_tri.specs.declared.letters.TheConstants.{STEM}
use Rattle.pm_tri.specs.Balance.{IsFollowing}
use Rattle.pm_tri.specs.Runs.{IsBalanced, IsClosing, IsFreeBefore, IsFreeStem}
use Rattle.pm_tri.specs.Sides.{letter, sides, stem_steps}
use Rattle.pm_tri.specs.StemTree.{IsStemTree, contour}
use Rattle.pm_tri.proofs.HighCorners.{IsHeld, IsHigh, free_high, held_high, high_again, high_free, high_stem, place_letter, stem_at, stem_within}
use Rattle.pm_tri.proofs.RunCorners.{drop_starts, start_corners}
use Rattle.pm_tri.proofs.SideCounts.{IsFalling, IsSideAt, IsStemAt, down, down_stretch, tree_falls, up, up_stretch}

-- a step more in a stretch
stretch_side : (places : List ℕ) (p n : ℕ) → IsSideAt places (p + n) → (sides places p (suc n) ≡ suc (sides places p n)) × (stem_steps places p (suc n) ≡ stem_steps places p n)
stretch_side places p n s =
    let e : p + suc n ≡ suc (p + n) = omega arith in
    let u = ap (up places) e in
    let d = ap (down places) e in (
      omega (arith, u, up_stretch places p n, up_stretch places p (suc n), s.more),
      omega (arith, d, down_stretch places p n, down_stretch places p (suc n), s.same),
    )

stretch_stem : (places : List ℕ) (p n : ℕ) → IsStemAt places (p + n) → (sides places p (suc n) ≡ sides places p n) × (stem_steps places p (suc n) ≡ suc (stem_steps places p n))
stretch_stem places p n s =
    let e : p + suc n ≡ suc (p + n) = omega arith in
    let u = ap (up places) e in
    let d = ap (down places) e in (
      omega (arith, u, up_stretch places p n, up_stretch places p (suc n), s.same),
      omega (arith, d, down_stretch places p n, down_stretch places p (suc n), s.more),
    )

-- after n letters of the word: so far below the plant's corner, which none of them rose above
pub record IsBelowPlant (places : List ℕ) (n below : ℕ) : Type 0 where
  pub level : below + sides places 1 n ≡ stem_steps places 1 n + 1
  pub held : IsHeld places 0 n
  pub few : below ≤ n + 1

pub below_none : (places : List ℕ) → IsBelowPlant places 0 1
below_none places = record {
  level = refl;
  held = record { held = λ k l. let e : k ≡ 0 = omega arith in let a = ap (sides places 1) e in let b : sides places 1 0 ≡ 0 = refl in omega (arith, a, b) };
  few = omega arith;
}

held_more : (places : List ℕ) (n : ℕ) → sides places 1 (suc n) ≤ stem_steps places 1 (suc n) + 1 → IsHeld places 0 n → IsHeld places 0 (suc n)
held_more places n last h = record {
  held = λ k l. elim (cases_eq k (suc n)) [
    | inl e ↦ let a = ap (sides places 1) e in let b = ap (stem_steps places 1) e in omega (arith, a, b, last)
    | inr ne ↦ h.held k (omega arith)
  ];
}

-- the walk behind a corner of the first turn: it rises so far, and no high corner stands there before the plant
pub record IsRiseBehind (places : List ℕ) (c rise : ℕ) : Type 0 where
  pub inside : c ≤ length places
  pub top : (k : ℕ) → c ≤ k → up places k + down places c ≤ up places c + down places k + rise
  pub foot : ℕ
  pub foot_behind : c ≤ foot
  pub reached : up places foot + down places c ≡ up places c + down places foot + rise
  pub none : (k : ℕ) → c ≤ k → k < length places → IsHigh places k → ⊥
  pub few : rise + c ≤ length places

-- at the letter before
pub rise_at : (places : List ℕ) (i rise : ℕ) → 0 < i → IsRiseBehind places (suc i) rise → IsRiseBehind places (suc (suc (i - 1))) rise
rise_at places i rise some h = let e : suc i ≡ suc (suc (i - 1)) = omega arith in subst (λ (c : ℕ). IsRiseBehind places c rise) e h

module _ (word : List ℕ) (t : IsStemTree word) where
  w : IsFalling (contour word)
  w = tree_falls word t

  here : (n : ℕ) → n < length word → letter (contour word) (1 + n) ≡ slice_index word n
  here n l =
      let e : 1 + n ≡ suc n = omega arith in
      ap (letter (contour word)) e ∙ place_letter (contour word) w (suc n) (omega arith)

  stem_here : (n : ℕ) → n < length word → slice_index word n ≡ STEM → IsStemAt (contour word) (1 + n)
  stem_here n l e = stem_at (contour word) w (1 + n) (here n l ∙ e)

  side_here : (n : ℕ) → n < length word → (slice_index word n ≡ STEM → ⊥) → IsSideAt (contour word) (1 + n)
  side_here n l ne = elim (w.step (1 + n)) [ inl s ↦ s | inr s ↦ absurd (ne (sym (here n l) ∙ s.stem)) ]

  pub below_stem : (n m below more : ℕ) → n < length word → slice_index word n ≡ STEM → m ≡ suc n → more ≡ below + 1 → IsBelowPlant (contour word) n below → IsBelowPlant (contour word) m more
  below_stem n m below more l e f g h =
      let s = stretch_stem (contour word) 1 n (stem_here n l e) in
      let last = h.held.held n (omega arith) in
      let few = h.few in
      let level = h.level in
      subst (λ (k : ℕ). IsBelowPlant (contour word) k more) (sym f) (record {
        level = omega (arith, s.0, s.1, level);
        held = held_more (contour word) n (omega (arith, s.0, s.1, last)) h.held;
        few = omega arith;
      })

  pub below_side : (n m below less : ℕ) → n < length word → (slice_index word n ≡ STEM → ⊥) → m ≡ suc n → (below ≡ 0 → ⊥) → less ≡ below - 1 → IsBelowPlant (contour word) n below → IsBelowPlant (contour word) m less
  below_side n m below less l e f some g h =
      let s = stretch_side (contour word) 1 n (side_here n l e) in
      let few = h.few in
      let level = h.level in
      subst (λ (k : ℕ). IsBelowPlant (contour word) k less) (sym f) (record {
        level = omega (arith, s.0, s.1, level, some);
        held = held_more (contour word) n (omega (arith, s.0, s.1, level, some)) h.held;
        few = omega arith;
      })

  -- a side that rises above the plant's corner
  pub plant_closes : (n m below : ℕ) → n < length word → (slice_index word n ≡ STEM → ⊥) → m ≡ suc n → below ≡ 0 → IsBelowPlant (contour word) n below → IsClosing (contour word) 0 m
  plant_closes n m below l e f none h =
      let s = stretch_side (contour word) 1 n (side_here n l e) in
      let level = h.level in
      let at : 0 + suc n ≡ suc n = omega arith in
      record {
        stem = refl;
        steps = suc n;
        in_turn = omega arith;
        meets = ap (λ (k : ℕ). k % length (contour word)) at ∙ mod_stays (suc n) (length (contour word)) (omega arith) ∙ sym f;
        sum = omega (arith, s.0, s.1, level);
        is_first = λ k m r. omega (arith, h.held.held k (omega arith), r);
      }

  pub plant_is_free : (n below : ℕ) → n ≡ length word → IsBelowPlant (contour word) n below → IsFreeStem (contour word) 0
  plant_is_free n below e h =
      let all : n ≡ length (contour word) - 1 = omega arith in
      let s = stem_at (contour word) w 0 (place_letter (contour word) w 0 (omega arith)) in
      high_free (contour word) w 0 (omega arith) (held_high (contour word) w 0 s (subst (IsHeld (contour word) 0) all h.held))

  pub rise_none : IsFreeStem (contour word) 0 → IsRiseBehind (contour word) (suc (length word)) 0
  rise_none free =
      let e : 0 + length (contour word) ≡ suc (length word) = omega arith in
      let high = subst (IsHigh (contour word)) e (high_again (contour word) w 0 (free_high (contour word) w 0 free)) in
      record {
        inside = omega arith;
        top = λ k l. omega (arith, high.highest k l);
        foot = suc (length word);
        foot_behind = omega arith;
        reached = omega arith;
        none = λ k l m h. omega arith;
        few = omega arith;
      }

  no_high : (c rise : ℕ) → (IsHigh (contour word) c → ⊥) → IsRiseBehind (contour word) (suc c) rise → (k : ℕ) → c ≤ k → k < length (contour word) → IsHigh (contour word) k → ⊥
  no_high c rise low h k l m high = elim (cases_eq c k) [
    | inl e ↦ low (subst (IsHigh (contour word)) (sym e) high)
    | inr ne ↦ h.none k (omega arith) m high
  ]

  top_more : (c rise more : ℕ) → IsRiseBehind (contour word) (suc c) rise → ((k : ℕ) → suc c ≤ k → up (contour word) k + down (contour word) c ≤ up (contour word) c + down (contour word) k + more)
      → (k : ℕ) → c ≤ k → up (contour word) k + down (contour word) c ≤ up (contour word) c + down (contour word) k + more
  top_more c rise more h far k l = elim (cases_eq c k) [
    | inl e ↦ let a = ap (up (contour word)) e in let b = ap (down (contour word)) e in omega (arith, a, b)
    | inr ne ↦ far k (omega arith)
  ]

  pub rise_side : (i rise more : ℕ) → i < length word → (slice_index word i ≡ STEM → ⊥) → more ≡ rise + 1 → IsRiseBehind (contour word) (suc (suc i)) rise → IsRiseBehind (contour word) (suc i) more
  rise_side i rise more l ne e h =
      let c : 1 + i ≡ suc i = omega arith in
      let s = subst (IsSideAt (contour word)) c (side_here i l ne) in
      let few = h.few in
      let behind = h.foot_behind in
      record {
        inside = omega arith;
        top = top_more (suc i) rise more h (λ k m. omega (arith, h.top k m, s.more, s.same));
        foot = h.foot;
        foot_behind = omega arith;
        reached = omega (arith, h.reached, s.more, s.same);
        none = no_high (suc i) rise (λ high. s.no_stem (high_stem (contour word) w (suc i) high).stem) h;
        few = omega arith;
      }

  pub rise_stem : (i rise less : ℕ) → i < length word → slice_index word i ≡ STEM → 2 ≤ rise → less ≡ rise - 1 → IsRiseBehind (contour word) (suc (suc i)) rise → IsRiseBehind (contour word) (suc i) less
  rise_stem i rise less l at two e h =
      let c : 1 + i ≡ suc i = omega arith in
      let s = subst (IsStemAt (contour word)) c (stem_here i l at) in
      let few = h.few in
      let behind = h.foot_behind in
      record {
        inside = omega arith;
        top = top_more (suc i) rise less h (λ k m. omega (arith, h.top k m, s.more, s.same));
        foot = h.foot;
        foot_behind = omega arith;
        reached = omega (arith, h.reached, s.more, s.same);
        none = no_high (suc i) rise (λ high. omega (arith, high.highest h.foot (omega arith), h.reached, s.more, s.same)) h;
        few = omega arith;
      }

  -- the free stem before the plant, where no high corner stands behind its own
  before_from : (p : ℕ) → p < length (contour word) → IsFreeStem (contour word) p → IsFreeStem (contour word) 0 → ((k : ℕ) → suc p ≤ k → k < length (contour word) → IsHigh (contour word) k → ⊥)
      → (apart : ℕ) × IsFreeBefore (contour word) p apart 0
  before_from p l here free none =
      let whole : suc p + (length (contour word) - suc p) ≡ 0 + length (contour word) = omega arith in (
        length (contour word) - suc p,
        record {
          is_free = free;
          before_is = here;
          in_turn = omega arith;
          meets = ap (λ (k : ℕ). k % length (contour word)) whole ∙ add-mod_right 0 (length (contour word)) ∙ mod_stays 0 (length (contour word)) (omega arith);
          none_between = λ k m f. none (suc p + k) (omega arith) (omega arith)
              (free_high (contour word) w (suc p + k) (subst (IsFreeStem (contour word)) (mod_stays (suc p + k) (length (contour word)) (omega arith)) f));
        },
      )

  pub stem_found : (i rise p : ℕ) → i < length word → slice_index word i ≡ STEM → rise < 2 → p ≡ suc i → IsFreeStem (contour word) 0 → IsRiseBehind (contour word) (suc (suc i)) rise → (apart : ℕ) × IsFreeBefore (contour word) p apart 0
  stem_found i rise p l at few e free h =
      let c : 1 + i ≡ suc i = omega arith in
      let s = subst (IsStemAt (contour word)) c (stem_here i l at) in
      let high : IsHigh (contour word) (suc i) = record { highest = λ k m. let f = top_more (suc i) rise 0 h (λ k m. omega (arith, h.top k m, s.more, s.same)) k m in omega (arith, f) } in
      subst (λ (k : ℕ). (apart : ℕ) × IsFreeBefore (contour word) k apart 0) (sym e) (before_from (suc i) (omega arith) (high_free (contour word) w (suc i) (omega arith) high) free h.none)

  pub none_found : (i rise p : ℕ) → i ≡ 0 → p ≡ 0 → IsFreeStem (contour word) 0 → IsRiseBehind (contour word) (suc i) rise → (apart : ℕ) × IsFreeBefore (contour word) p apart 0
  none_found i rise p e f free h =
      let none = subst (λ (k : ℕ). IsRiseBehind (contour word) (suc k) rise) e h in
      subst (λ (k : ℕ). (apart : ℕ) × IsFreeBefore (contour word) k apart 0) (sym f) (before_from 0 (omega arith) free free none.none)

  -- the stem before the plant stands right before it where the tree is balanced
  last_high : IsBalanced (contour word) → IsHigh (contour word) (length word)
  last_high b =
      let e : 0 + (length (contour word) - 1) ≡ length word = omega arith in
      subst (IsHigh (contour word)) e ((start_corners (contour word) w 0 (omega arith)).0 b).here

  pub balanced_from : (stem : ℕ) → stem ≡ length word → (apart : ℕ) × IsFreeBefore (contour word) stem apart 0 → IsBalanced (contour word)
  balanced_from stem e f =
      let whole : suc stem ≡ 0 + length (contour word) = omega arith in
      let high = subst (IsHigh (contour word)) (sym whole) (high_again (contour word) w 0 (free_high (contour word) w 0 f.1.is_free)) in
      drop_starts (contour word) w 0 (record {
        corner = stem;
        within = omega arith;
        is = ap (λ (k : ℕ). k % length (contour word)) whole ∙ add-mod_right 0 (length (contour word)) ∙ mod_stays 0 (length (contour word)) (omega arith);
        drop = record { here = free_high (contour word) w stem f.1.before_is; next = high };
      })

  pub following_from : (stem : ℕ) → (stem ≡ length word → ⊥) → (apart : ℕ) × IsFreeBefore (contour word) stem apart 0 → IsFollowing (contour word) stem
  following_from stem ne f = record {
    apart = f.0;
    is_before = f.1;
    not_directly = λ b.
        let inside = stem_within (contour word) w stem f.1.before_is.stem in
        let free = high_free (contour word) w (length word) (omega arith) (last_high b) in
        let e : suc stem + (length word - suc stem) ≡ length word = omega arith in
        let at : (suc stem + (length word - suc stem)) % length (contour word) ≡ length word = ap (λ (k : ℕ). k % length (contour word)) e ∙ mod_stays (length word) (length (contour word)) (omega arith) in
        let far = short stem f.0 inside f.1.meets in
        f.1.none_between (length word - suc stem) (omega arith) (subst (IsFreeStem (contour word)) (sym at) free);
  } where
    -- so many places lead on to the plant
    short : (stem apart : ℕ) → stem < length (contour word) → (suc stem + apart) % length (contour word) ≡ 0 → length (contour word) ≤ suc stem + apart
    short stem apart inside e = elim (cases_lt (suc stem + apart) (length (contour word))) [
      | inl less ↦ absurd (let same = mod_stays (suc stem + apart) (length (contour word)) less in omega (arith, same, e))
      | inr fine ↦ fine
    ]

-- what the scans of a tree's text found, of the tree
pub text_balanced : (word text : List ℕ) (stem : ℕ) → text ≡ word → IsStemTree word → stem ≡ length text → (apart : ℕ) × IsFreeBefore (contour text) stem apart 0 → IsBalanced (contour word)
text_balanced word text stem e t at f = subst (λ (xs : List ℕ). IsBalanced (contour xs)) e (balanced_from text (subst IsStemTree (sym e) t) stem at f)

pub text_following : (word text : List ℕ) (stem : ℕ) → text ≡ word → IsStemTree word → (stem ≡ length text → ⊥) → (apart : ℕ) × IsFreeBefore (contour text) stem apart 0 → IsFollowing (contour word) stem
text_following word text stem e t ne f = subst (λ (xs : List ℕ). IsFollowing (contour xs) stem) e (following_from text (subst IsStemTree (sym e) t) stem ne f)
