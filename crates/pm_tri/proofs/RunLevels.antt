-- In a balanced tree the free stems stand at two heights: those of the plant's run at that of the plant, the others one lower.
use Rattle.std.proofs.Common.{◌≡◌, ◌⊎◌, ℕ, suc, ◌+◌, ◌-◌, ◌%◌, ◌<◌, ◌≤◌, inl, inr, List, length, ap, ◌∙◌, sym, subst, arith}
use Rattle.std.proofs.lemmas.Bool.{cases_eq, cases_lt}
use Rattle.std.proofs.Math.Nat.{add-mod_right}
use Rattle.pm_brackets.specs.PlantedAt.{AreTwo}
use Rattle.pm_brackets.proofs.RingPlaces.{mod_stays}
use Rattle.pm_tri.specs.ClosingLaws.{IsInOtherRun, IsInPlantsRun}
use Rattle.pm_tri.specs.Runs.{IsBalanced, IsFreeStem, IsInRun, IsRunStart}
use Rattle.pm_tri.specs.StemTree.{contour}
use Rattle.pm_tri.proofs.ClosingLaws.{some_run}
use Rattle.pm_tri.proofs.HighCorners.{IsHigh, free_high, high_stem, stem_within}
use Rattle.pm_tri.proofs.RunCorners.{start_corners, start_drops}
use Rattle.pm_tri.proofs.RunStarts.{two_runs}
use Rattle.pm_tri.proofs.SideCounts.{IsFalling, down, down_is, down_none, tree_falls, up, up_is, up_none}

-- a start of a run behind the plant, and the corner before it
record IsSecond (places : List ℕ) (r : ℕ) : Type 0 where
  corner : ℕ
  is : suc corner ≡ r
  level : up places corner ≡ down places corner
  high : IsHigh places r
  lower : down places r ≡ up places r + 1

module _ (places : List ℕ) (w : IsFalling places) (b : IsBalanced places) where
  plant : IsHigh places 0
  plant = free_high places w 0 b.is_before.is_free

  pub last : IsHigh places (length places - 1)
  last =
      let some = w.some in
      let e : 0 + (length places - 1) ≡ length places - 1 = omega arith in
      subst (IsHigh places) e ((start_corners places w 0 (omega arith)).0 b).here

  pub end_level : down places (length places - 1) ≡ up places (length places - 1) + 1
  end_level =
      let some = w.some in
      let s = high_stem places w (length places - 1) last in
      let e : suc (length places - 1) ≡ length places = omega arith in
      omega (arith, ap (up places) e, ap (down places) e, s.same, s.more, w.falls)

  second : (r : ℕ) → IsRunStart places r → (r ≡ 0 → ⊥) → IsSecond places r
  second r s ne =
      let d = start_drops places w r s in
      let inside = d.within in
      elim (cases_lt (suc d.corner) (length places)) [
        | inl near ↦
            let is : suc d.corner ≡ r = sym (mod_stays (suc d.corner) (length places) near) ∙ d.is in
            let t = high_stem places w d.corner d.drop.here in
            let low = d.drop.next.highest (length places - 1) (omega arith) in
            let top = plant.highest d.corner (omega arith) in
            let level : up places d.corner ≡ down places d.corner = omega (arith, low, top, end_level, t.same, t.more, up_none places, down_none places) in
            let lower : down places (suc d.corner) ≡ up places (suc d.corner) + 1 = omega (arith, level, t.same, t.more) in
            record {
              corner = d.corner;
              is = is;
              level = level;
              high = subst (IsHigh places) is d.drop.next;
              lower = subst (λ (k : ℕ). down places k ≡ up places k + 1) is lower;
            }
        | inr far ↦
            let e : suc d.corner ≡ 0 + length places = omega arith in
            absurd (ne (sym d.is ∙ ap (λ (k : ℕ). k % length places) e ∙ add-mod_right 0 (length places) ∙ mod_stays 0 (length places) (omega arith)))
      ]

  -- before the second start the free stems are as high as the plant, and behind it one lower
  level_before : (r x : ℕ) → IsSecond places r → IsFreeStem places x → x < r → up places x ≡ down places x
  level_before r x s f l =
      let is = s.is in
      omega (arith, (free_high places w x f).highest s.corner (omega arith), plant.highest x (omega arith), s.level, up_none places, down_none places)

  level_behind : (r x : ℕ) → IsSecond places r → IsFreeStem places x → r ≤ x → down places x ≡ up places x + 1
  level_behind r x s f l =
      let inside = stem_within places w x f.stem in
      omega (arith, (free_high places w x f).highest (length places - 1) (omega arith), s.high.highest x l, s.lower, end_level)

  plants_run : (r x : ℕ) → IsRunStart places r → (r ≡ 0 → ⊥) → IsInRun places 0 x → x < r
  plants_run r x s ne i =
      let few = i.in_turn in
      let e : 0 + i.steps ≡ i.steps = omega arith in
      let is : i.steps ≡ x = sym (mod_stays i.steps (length places) few) ∙ ap (λ (k : ℕ). k % length places) (sym e) ∙ i.meets in
      let inside = stem_within places w r s.is_before.is_free.stem in
      elim (cases_lt x r) [
        | inl fine ↦ fine
        | inr past ↦
            let f : suc 0 + (r - 1) ≡ r = omega arith in
            let at : (suc 0 + (r - 1)) % length places ≡ r = ap (λ (k : ℕ). k % length places) f ∙ mod_stays r (length places) inside in
            absurd (i.no_other (r - 1) (omega arith) (subst (IsRunStart places) (sym at) s))
      ]

  other_run : (r x : ℕ) → IsInRun places r x → (r ≡ 0 → ⊥) → r ≤ x
  other_run r x i ne =
      let some = w.some in
      let inside = stem_within places w r i.starts.is_before.is_free.stem in
      elim (cases_lt (r + i.steps) (length places)) [
        | inl near ↦ let is = sym (mod_stays (r + i.steps) (length places) near) ∙ i.meets in omega (arith, is)
        | inr far ↦
            let f : suc r + (length places - suc r) ≡ 0 + length places = omega arith in
            let at : (suc r + (length places - suc r)) % length places ≡ 0 = ap (λ (k : ℕ). k % length places) f ∙ add-mod_right 0 (length places) ∙ mod_stays 0 (length places) (omega arith) in
            absurd (i.no_other (length places - suc r) (omega arith) (subst (IsRunStart places) (sym at) b))
      ]

  -- the start that isn't the plant
  other_start : AreTwo (IsRunStart places) → (r : ℕ) × IsRunStart places r × (r ≡ 0 → ⊥)
  other_start two = (two.later, two.later_is, λ e. let order = two.in_order in omega (arith, e))

  pub plants_level : AreTwo (IsRunStart places) → (x : ℕ) → IsInRun places 0 x → up places x ≡ down places x
  plants_level two x i = let r = other_start two in level_before r.0 x (second r.0 r.1 r.2) i.is_free (plants_run r.0 x r.1 r.2 i)

  pub other_level : (r x : ℕ) → (r ≡ 0 → ⊥) → IsInRun places r x → down places x ≡ up places x + 1
  other_level r x ne i = level_behind r x (second r i.starts ne) i.is_free (other_run r x i ne)

  pub level_plants : AreTwo (IsRunStart places) → (x : ℕ) → IsFreeStem places x → up places x ≡ down places x → IsInRun places 0 x
  level_plants two x f e =
      let s = some_run places w x two f in
      elim (cases_eq s.0 0) [
        | inl z ↦ subst (λ (k : ℕ). IsInRun places k x) z s.1
        | inr ne ↦ absurd (omega (arith, e, other_level s.0 x ne s.1))
      ]

  pub level_other : AreTwo (IsRunStart places) → (r x : ℕ) → IsRunStart places r → (r ≡ 0 → ⊥) → IsFreeStem places x → down places x ≡ up places x + 1 → IsInRun places r x
  level_other two r x s ne f e =
      let i = some_run places w x two f in
      let order = two.in_order in
      elim (cases_eq i.0 0) [
        | inl z ↦ absurd (omega (arith, e, plants_level two x (subst (λ (k : ℕ). IsInRun places k x) z i.1)))
        | inr other ↦ subst (λ (k : ℕ). IsInRun places k x) (same i.0 r two (two.no_third 0 b) (two.no_third i.0 i.1.starts) (two.no_third r s) other ne) i.1
      ] where
        same : (i r : ℕ) (two : AreTwo (IsRunStart places)) → (0 ≡ two.earlier) ⊎ (0 ≡ two.later) → (i ≡ two.earlier) ⊎ (i ≡ two.later) → (r ≡ two.earlier) ⊎ (r ≡ two.later) → (i ≡ 0 → ⊥) → (r ≡ 0 → ⊥) → i ≡ r
        same i r two (inr z) p q m n = absurd (let order = two.in_order in omega (arith, z))
        same i r two (inl z) (inl p) q m n = absurd (m (p ∙ sym z))
        same i r two (inl z) (inr p) (inl q) m n = absurd (n (q ∙ sym z))
        same i r two (inl z) (inr p) (inr q) m n = p ∙ sym q

pub in_plants_run : IsInPlantsRun
in_plants_run word x t b f =
    let w = tree_falls word t in
    let u = up_is (contour word) x in
    let d = down_is (contour word) x in
    (λ i. sym u ∙ plants_level (contour word) w b (two_runs word t) x i ∙ d, λ e. level_plants (contour word) w b (two_runs word t) x f (u ∙ e ∙ sym d))

pub in_other_run : IsInOtherRun
in_other_run word r x t b s ne f =
    let w = tree_falls word t in
    let u = up_is (contour word) x in
    let d = down_is (contour word) x in
    (λ i. omega (arith, u, d, other_level (contour word) w b r x ne i), λ e. level_other (contour word) w b (two_runs word t) r x s ne f (omega (arith, u, d, e)))
