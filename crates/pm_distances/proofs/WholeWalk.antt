-- The walk that goes by levels meets every dart.
use Rattle.std.proofs.Common.{◌≡◌, ℕ, zero, suc, ◌+◌, ◌<◌, ◌≤◌, inl, inr, max, Bool, true, refl, sym, ap, ◌∙◌, subst, eq-eqb, arith}
use Rattle.std.proofs.lemmas.Bool.{cases_eq, eqb-true}
use Rattle.pm_map.specs.Structure.{Structure, IsStructure, face_next}
use Rattle.pm_map.specs.FaceDistance.{AreInOneFace, AreFaceLevels}
use Rattle.pm_map.proofs.DistanceLemmas.{face_back, face_below, levels-around}
use Rattle.pm_distances.proofs.Walked.{is_up}
use Rattle.pm_walk.proofs.Cutting.{step_by-cut}
use Rattle.pm_walk.proofs.MetDarts.{IsDecidedWalk, IsMet, met_inside, met_next, met_decided, met_around, face_met}

-- numbers below a bound have a greatest value
greatest : (f : ℕ → ℕ) (n : ℕ) → (top : ℕ) × ((k : ℕ) → k < n → f k ≤ top)
greatest f zero = (0, λ k h. absurd (omega arith))
greatest f (suc n) =
    let before = greatest f n in
    let top : ℕ = before.0 in (
      max top (f n),
      λ k h. elim (cases_eq k n) [
        | inl same ↦ omega (arith, ap f same)
        | inr differs ↦ (let rest : f k ≤ top = before.1 k (omega (arith, h, differs)) in omega (arith, rest))
      ],
    )

-- a walk from the root that cuts the edges at which the level rises where it meets them first
pub record GoesByLevels (s : Structure) (level : ℕ → ℕ) (cut : ℕ → Bool) : Type 0 where
  pub walk : IsDecidedWalk s (is_up s level) cut
  pub levels : AreFaceLevels s level

up_next : (s : Structure) (level : ℕ → ℕ) (d : ℕ) → is_up s level d ≡ true → level (s.twin d) ≡ suc (level d)
up_next s level d up = eqb-true (level (s.twin d)) (suc (level d)) up

-- where the face beyond a dart that is met is further and the edge is cut, its other dart is met, by induction from the
-- furthest faces on
up_met : (s : Structure) (level : ℕ → ℕ) (cut : ℕ → Bool) → GoesByLevels s level cut → (top : ℕ) → ((d : ℕ) → d < s.darts → level d ≤ top)
    → (lower d : ℕ) → top < level d + lower → IsMet s cut d → cut d ≡ true → is_up s level d ≡ true → IsMet s cut (s.twin d)
up_met s level cut w top bound zero d far m cuts up = absurd (omega (arith, far, bound d (met_inside s (is_up s level) cut w.walk d m)))
up_met s level cut w top bound (suc lower) d far m cuts up =
    let is : IsStructure s = w.walk.structure in
    let h : d < s.darts = met_inside s (is_up s level) cut w.walk d m in
    let beyond : ℕ = s.twin d in
    let there : beyond < s.darts = is.twin_stays d h in
    let higher : level beyond ≡ suc (level d) = up_next s level d up in
    let first : IsMet s cut (face_next s beyond) = met_next s cut d (face_next s beyond) m (step_by-cut s cut d cuts ∙ ap s.next (sym (is.twin_back d h))) in
    let one : AreInOneFace s beyond (face_next s beyond) = record { steps = 1; leads = refl } in
    let back : AreInOneFace s (face_next s beyond) beyond = face_back s beyond (face_next s beyond) is there one in
    let inside : face_next s beyond < s.darts = face_below s beyond (face_next s beyond) is there one in
    let goes : (e : ℕ) → AreInOneFace s (face_next s beyond) e → IsMet s cut e → IsMet s cut (face_next s e) = λ e around met.
    let same : level e ≡ level beyond = levels-around s level is w.levels (face_next s beyond) e inside around ∙ w.levels.around beyond there in
    met_around s (is_up s level) cut w.walk e met
    (λ cut_there. elim (met_decided s (is_up s level) cut w.walk e met) [
      | inl as_up ↦ up_met s level cut w top bound lower e (omega (arith, far, same, higher)) met cut_there (sym as_up ∙ cut_there)
      | inr twin ↦ twin
    ]) in
    subst (IsMet s cut) back.leads (face_met s cut (face_next s beyond) first goes back.steps)

-- the next dart around the face of a dart that is met is met
around_met : (s : Structure) (level : ℕ → ℕ) (cut : ℕ → Bool) → GoesByLevels s level cut → (d : ℕ) → IsMet s cut d → IsMet s cut (face_next s d)
around_met s level cut w d m =
    let bound = greatest level s.darts in
    met_around s (is_up s level) cut w.walk d m
    (λ cuts. elim (met_decided s (is_up s level) cut w.walk d m) [
      | inl as_up ↦ up_met s level cut w bound.0 bound.1 (suc bound.0) d (omega arith) m cuts (sym as_up ∙ cuts)
      | inr twin ↦ twin
    ])

whole_face_met : (s : Structure) (level : ℕ → ℕ) (cut : ℕ → Bool) → GoesByLevels s level cut → (d e : ℕ) → IsMet s cut d → AreInOneFace s d e → IsMet s cut e
whole_face_met s level cut w d e m around =
    subst (IsMet s cut) around.leads (face_met s cut d m (λ x _ met. around_met s level cut w x met) around.steps)

-- the walk meets every dart
pub all_met : (s : Structure) (level : ℕ → ℕ) (cut : ℕ → Bool) → GoesByLevels s level cut → (height d : ℕ) → d < s.darts → level d ≡ height → IsMet s cut d
all_met s level cut w zero d h at =
    whole_face_met s level cut w s.root d (record { met = record { steps = 0; leads = refl } }) (w.levels.lowest d h at)
all_met s level cut w (suc height) d h at =
    let is : IsStructure s = w.walk.structure in
    let near = w.levels.nearer d h (omega (arith, at)) in
    let e : ℕ = near.0 in
    let inside : e < s.darts = near.1 in
    let one : AreInOneFace s d e = near.2 in
    let lower : suc (level (s.twin e)) ≡ level e = near.3 in
    let same : level e ≡ level d = levels-around s level is w.levels d e h one in
    let low : IsMet s cut (s.twin e) = all_met s level cut w height (s.twin e) (is.twin_stays e inside) (omega (arith, at, lower, same)) in
    let up : is_up s level (s.twin e) ≡ true = eq-eqb (level (s.twin (s.twin e))) (suc (level (s.twin e))) (ap level (is.twin_back e inside) ∙ sym lower) in
    let bound = greatest level s.darts in
    let twin : IsMet s cut (s.twin (s.twin e)) = elim (met_decided s (is_up s level) cut w.walk (s.twin e) low) [
      | inl as_up ↦ up_met s level cut w bound.0 bound.1 (suc bound.0) (s.twin e) (omega arith) low (as_up ∙ up) up
      | inr met ↦ met
    ] in
    whole_face_met s level cut w e d (subst (IsMet s cut) (is.twin_back e inside) twin) (face_back s d e is h one)
