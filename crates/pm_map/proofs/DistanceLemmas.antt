-- Darts that lead from face to face; levels of the faces are distances; a renumbering keeps distances.
use Rattle.std.proofs.Common.{◌≡◌, ℕ, zero, suc, ◌+◌, ◌<◌, ◌≤◌, List, [], ◌∷◌, ◌++◌, length, map, refl, sym, ap, ◌∙◌, subst, length-append, arith}
use Rattle.std.proofs.lemmas.List.{length-map}
use Rattle.pm_perm.specs.Cycles.{repeated}
use Rattle.pm_perm.proofs.InverseLemmas.{place_of, place_of-stays, place_of-of_value, value-place_of}
use Rattle.pm_perm.proofs.Repeats.{repeated-inside}
use Rattle.pm_perm.proofs.SameCycle.{in_cycle-through, in_cycle-back}
use Rattle.pm_map.specs.Structure.{Structure, IsStructure, CarriesTo, face_next}
use Rattle.pm_map.specs.FaceDistance.{AreInOneFace, LeadsOver, IsFaceDistance, AreFaceLevels}
use Rattle.pm_map.specs.DistanceLaws.{LevelsAreDistances, DistancesAreCarried}
use Rattle.pm_map.proofs.CarriedStructure.{face_permutes}
use Rattle.pm_map.proofs.SameMaps.{carries_back}

-- a dart is in its own face
pub face_itself : (s : Structure) (d : ℕ) → AreInOneFace s d d
face_itself s d = record { steps = 0; leads = refl }

pub face_below : (s : Structure) (d e : ℕ) → IsStructure s → d < s.darts → AreInOneFace s d e → e < s.darts
face_below s d e is h one = subst (λ x. x < s.darts) one.leads (repeated-inside (face_next s) s.darts (face_permutes s is) one.steps d h)

pub face_back : (s : Structure) (d e : ℕ) → IsStructure s → d < s.darts → AreInOneFace s d e → AreInOneFace s e d
face_back s d e is h one = in_cycle-back s.darts (face_next s) (face_permutes s is) d e h one

-- darts that lead to a face lead to each dart of it
pub leads-around : (s : Structure) (a d e : ℕ) (over : List ℕ) → AreInOneFace s d e → LeadsOver s a d over → LeadsOver s a e over
leads-around s a d e [] one leads = in_cycle-through (face_next s) a d e leads one
leads-around s a d e (dart ∷ over) one leads = (leads.0, leads.1, leads-around s (s.twin dart) d e over one leads.2)

-- and with one more dart of it to the face across
pub leads-on : (s : Structure) (a d : ℕ) (over : List ℕ) → d < s.darts → LeadsOver s a d over → LeadsOver s a (s.twin d) (over ++ d ∷ [])
leads-on s a d [] h leads = (h, leads, face_itself s (s.twin d))
leads-on s a d (dart ∷ over) h leads = (leads.0, leads.1, leads-on s (s.twin dart) d over h leads.2)

-- the last of the darts that lead to a face, and those before it
record IsLedLast (s : Structure) (a d : ℕ) (count : ℕ) : Type 0 where
  last : ℕ
  within : last < s.darts
  before : List ℕ
  leads : LeadsOver s a last before
  counted : length before ≡ count
  enters : AreInOneFace s (s.twin last) d

led_last : (s : Structure) (a d first : ℕ) (over : List ℕ) → LeadsOver s a d (first ∷ over) → IsLedLast s a d (length over)
led_last s a d first [] leads = record { last = first; within = leads.0; before = []; leads = leads.1; counted = refl; enters = leads.2 }
led_last s a d first (dart ∷ over) leads =
    let rest : IsLedLast s (s.twin first) d (length over) = led_last s (s.twin first) d dart over leads.2 in
    record {
      last = rest.last;
      within = rest.within;
      before = first ∷ rest.before;
      leads = (leads.0, leads.1, rest.leads);
      counted = ap suc rest.counted;
      enters = rest.enters;
    }

-- levels are the same around a face
pub levels-around : (s : Structure) (level : ℕ → ℕ) → IsStructure s → AreFaceLevels s level → (d e : ℕ) → d < s.darts → AreInOneFace s d e → level e ≡ level d
levels-around s level is levels d e h one = ap level (sym one.leads) ∙ along s level is levels d h one.steps where
  along : (s : Structure) (level : ℕ → ℕ) → IsStructure s → AreFaceLevels s level → (d : ℕ) → d < s.darts → (steps : ℕ) → level (repeated (face_next s) steps d) ≡ level d
  along s level is levels d h zero = refl
  along s level is levels d h (suc steps) =
      levels.around (repeated (face_next s) steps d) (repeated-inside (face_next s) s.darts (face_permutes s is) steps d h) ∙ along s level is levels d h steps

-- each dart that is led over rises by one at most
levels-rise : (s : Structure) (level : ℕ → ℕ) → IsStructure s → AreFaceLevels s level → (a d : ℕ) (over : List ℕ) → a < s.darts → LeadsOver s a d over → level d ≤ level a + length over
levels-rise s level is levels a d [] h leads = omega (arith, levels-around s level is levels a d h leads)
levels-rise s level is levels a d (dart ∷ over) h leads = omega (
  arith,
  levels-around s level is levels a dart h leads.1,
  levels.across dart leads.0,
  levels-rise s level is levels (s.twin dart) d over (is.twin_stays dart leads.0) leads.2,
)

-- from the root's face as many darts lead to a face as its level says
record IsLedBy (s : Structure) (d count : ℕ) : Type 0 where
  over : List ℕ
  leads : LeadsOver s s.root d over
  counted : length over ≡ count

levels-lead : (s : Structure) (level : ℕ → ℕ) → IsStructure s → AreFaceLevels s level → (count d : ℕ) → d < s.darts → level d ≡ count → IsLedBy s d count
levels-lead s level is levels zero d h here = record { over = []; leads = levels.lowest d h here; counted = refl }
levels-lead s level is levels (suc count) d h here =
    let near = levels.nearer d h (omega (arith, here)) in
    let e : ℕ = near.0 in
    let inside : e < s.darts = near.1 in
    let same : level e ≡ level d = levels-around s level is levels d e h near.2 in
    let rest : IsLedBy s (s.twin e) count = levels-lead s level is levels count (s.twin e) (is.twin_stays e inside) (omega (arith, here, same, near.3)) in
    let on : LeadsOver s s.root (s.twin (s.twin e)) (rest.over ++ s.twin e ∷ []) = leads-on s s.root (s.twin e) rest.over (is.twin_stays e inside) rest.leads in
    let to : LeadsOver s s.root e (rest.over ++ s.twin e ∷ []) = subst (λ x. LeadsOver s s.root x (rest.over ++ s.twin e ∷ [])) (is.twin_back e inside) on in
    record {
      over = rest.over ++ s.twin e ∷ [];
      leads = leads-around s s.root e d (rest.over ++ s.twin e ∷ []) (face_back s d e is h near.2) to;
      counted = omega (arith, length-append rest.over (s.twin e ∷ []), rest.counted);
    }

distance_from_levels : (s : Structure) (level : ℕ → ℕ) → IsStructure s → AreFaceLevels s level → (d : ℕ) → d < s.darts → IsFaceDistance s s.root d (level d)
distance_from_levels s level is levels d h =
    let some : 0 < s.darts = omega arith in
    let led : IsLedBy s d (level d) = levels-lead s level is levels (level d) d h refl in
    record {
      over = led.over;
      leads = led.leads;
      counted = led.counted;
      least = λ others leads. omega (arith, levels-rise s level is levels s.root d others (is.root_stays some) leads, levels.root some);
    }

-- the distances from the root's face
record AreDistances (s : Structure) (level : ℕ → ℕ) : Type 0 where
  distance : (d : ℕ) → d < s.darts → IsFaceDistance s s.root d (level d)

distances-around : (s : Structure) (level : ℕ → ℕ) → IsStructure s → AreDistances s level → (d e : ℕ) → d < s.darts → AreInOneFace s d e → level e ≤ level d
distances-around s level is all d e h one =
    let here : IsFaceDistance s s.root d (level d) = all.distance d h in
    let there : IsFaceDistance s s.root e (level e) = all.distance e (face_below s d e is h one) in
    omega (arith, here.counted, there.least here.over (leads-around s s.root d e here.over one here.leads))

distances-across : (s : Structure) (level : ℕ → ℕ) → IsStructure s → AreDistances s level → (d : ℕ) → d < s.darts → level (s.twin d) ≤ suc (level d)
distances-across s level is all d h =
    let here : IsFaceDistance s s.root d (level d) = all.distance d h in
    let there : IsFaceDistance s s.root (s.twin d) (level (s.twin d)) = all.distance (s.twin d) (is.twin_stays d h) in
    omega (arith, here.counted, length-append here.over (d ∷ []), there.least (here.over ++ d ∷ []) (leads-on s s.root d here.over h here.leads))

distances-nearer : (s : Structure) (level : ℕ → ℕ) → IsStructure s → AreDistances s level → (d : ℕ) → d < s.darts → 0 < level d
    → (over : List ℕ) → LeadsOver s s.root d over → length over ≡ level d → (e : ℕ) × (e < s.darts) × AreInOneFace s d e × (suc (level (s.twin e)) ≡ level e)
distances-nearer s level is all d h some [] leads counted = absurd (omega (arith, counted, some))
distances-nearer s level is all d h some (first ∷ over) leads counted =
    let led : IsLedLast s s.root d (length over) = led_last s s.root d first over leads in
    let last : ℕ = led.last in
    let e : ℕ = s.twin last in
    let inside : e < s.darts = is.twin_stays last led.within in
    let back : AreInOneFace s d e = face_back s e d is inside led.enters in
    let before : IsFaceDistance s s.root last (level last) = all.distance last led.within in
    let low : level last ≤ length led.before = before.least led.before led.leads in
    let up : level e ≤ suc (level last) = distances-across s level is all last led.within in
    let same : level d ≤ level e = distances-around s level is all e d inside led.enters in
    let twins : level (s.twin e) ≡ level last = ap level (is.twin_back last led.within) in
    (e, inside, back, omega (arith, low, up, same, twins, counted, led.counted))

levels_from_distances : (s : Structure) (level : ℕ → ℕ) → IsStructure s → AreDistances s level → AreFaceLevels s level
levels_from_distances s level is all = record {
  around = λ d h.
      let one : AreInOneFace s d (face_next s d) = record { steps = 1; leads = refl } in
      let inside : face_next s d < s.darts = face_below s d (face_next s d) is h one in
      omega (
        arith,
        distances-around s level is all d (face_next s d) h one,
        distances-around s level is all (face_next s d) d inside (face_back s d (face_next s d) is h one),
      );
  root = λ some.
      let here : IsFaceDistance s s.root s.root (level s.root) = all.distance s.root (is.root_stays some) in
      omega (arith, here.least [] (face_itself s s.root));
  lowest = λ d h low. (let here : IsFaceDistance s s.root d (level d) = all.distance d h in none s d here.over here.leads (here.counted ∙ low));
  across = λ d h. distances-across s level is all d h;
  nearer = λ d h some. (let here : IsFaceDistance s s.root d (level d) = all.distance d h in distances-nearer s level is all d h some here.over here.leads here.counted);
} where
  none : (s : Structure) (d : ℕ) (over : List ℕ) → LeadsOver s s.root d over → length over ≡ 0 → AreInOneFace s s.root d
  none s d [] leads counted = leads
  none s d (dart ∷ over) leads counted = absurd (omega (arith, counted))

-- levels of the faces are the distances from the root's face
pub levels_are_distances : LevelsAreDistances
levels_are_distances s level is = (λ levels. distance_from_levels s level is levels, λ all. levels_from_distances s level is (record { distance = all }))

-- a renumbering carries faces
face_carried : (f : ℕ → ℕ) (a b : Structure) → IsStructure a → CarriesTo f a b → (d e : ℕ) → d < a.darts → AreInOneFace a d e → AreInOneFace b (f d) (f e)
face_carried f a b is carries d e h one =
    record { steps = one.steps; leads = sym (along f a b is carries d h one.steps) ∙ ap f one.leads } where
      along : (f : ℕ → ℕ) (a b : Structure) → IsStructure a → CarriesTo f a b → (d : ℕ) → d < a.darts → (steps : ℕ) → f (repeated (face_next a) steps d) ≡ repeated (face_next b) steps (f d)
      along f a b is carries d h zero = refl
      along f a b is carries d h (suc steps) =
          let x : ℕ = repeated (face_next a) steps d in
          let inside : x < a.darts = repeated-inside (face_next a) a.darts (face_permutes a is) steps d h in
          carries.next (a.twin x) (is.twin_stays x inside) ∙ ap b.next (carries.twin x inside) ∙ ap (face_next b) (along f a b is carries d h steps)

-- and what leads from one to another
leads_carried : (f : ℕ → ℕ) (a b : Structure) → IsStructure a → CarriesTo f a b → (d e : ℕ) (over : List ℕ) → d < a.darts → LeadsOver a d e over → LeadsOver b (f d) (f e) (map f over)
leads_carried f a b is carries d e [] h leads = face_carried f a b is carries d e h leads
leads_carried f a b is carries d e (dart ∷ over) h leads = (
  subst (λ n. f dart < n) carries.darts (carries.renumbers.stays dart leads.0),
  face_carried f a b is carries d dart h leads.1,
  subst (λ x. LeadsOver b x (f e) (map f over)) (carries.twin dart leads.0) (leads_carried f a b is carries (a.twin dart) e over (is.twin_stays dart leads.0) leads.2),
)

-- a renumbering keeps the distances
pub distances_are_carried : DistancesAreCarried
distances_are_carried a b f isa isb carries d e distance hd he is =
    let carries_home : CarriesTo (place_of f a.darts) b a = carries_back f a b isa carries in
    let there : f d < b.darts = subst (λ n. f d < n) carries.darts (carries.renumbers.stays d hd) in
    let first : place_of f a.darts (f d) ≡ d = place_of-of_value f a.darts d carries.renumbers hd in
    let second : place_of f a.darts (f e) ≡ e = place_of-of_value f a.darts e carries.renumbers he in
    record {
      over = map f is.over;
      leads = leads_carried f a b isa carries d e is.over hd is.leads;
      counted = length-map is.over f ∙ is.counted;
      least = λ others leads.
          let home : LeadsOver a (place_of f a.darts (f d)) (place_of f a.darts (f e)) (map (place_of f a.darts) others) =
          leads_carried (place_of f a.darts) b a isb carries_home (f d) (f e) others there leads in
          let from_d : LeadsOver a d (place_of f a.darts (f e)) (map (place_of f a.darts) others) =
          subst (λ x. LeadsOver a x (place_of f a.darts (f e)) (map (place_of f a.darts) others)) first home in
          let to_e : LeadsOver a d e (map (place_of f a.darts) others) = subst (λ x. LeadsOver a d x (map (place_of f a.darts) others)) second from_d in
          omega (arith, is.least (map (place_of f a.darts) others) to_e, length-map others (place_of f a.darts));
    }

-- and the levels
pub levels_carried : (f : ℕ → ℕ) (a b : Structure) (level other : ℕ → ℕ) → IsStructure a → IsStructure b → CarriesTo f a b
    → AreFaceLevels a level → ((d : ℕ) → d < a.darts → other (f d) ≡ level d) → AreFaceLevels b other
levels_carried f a b level other isa isb carries levels same = levels_from_distances b other isb (record {
  distance = λ e h.
      let within : e < a.darts = subst (λ n. e < n) (sym carries.darts) h in
      let some : 0 < a.darts = omega (arith, within) in
      let d : ℕ = place_of f a.darts e in
      let below : d < a.darts = place_of-stays f a.darts e carries.renumbers within in
      let dart : f d ≡ e = value-place_of f a.darts e carries.renumbers within in
      let there : IsFaceDistance b (f a.root) (f d) (level d) =
      distances_are_carried a b f isa isb carries a.root d (level d) (isa.root_stays some) below (distance_from_levels a level isa levels d below) in
      subst (λ k. IsFaceDistance b b.root e k) (sym (same d below) ∙ ap other dart)
      (subst (λ x. IsFaceDistance b b.root x (level d)) dart (subst (λ x. IsFaceDistance b x (f d) (level d)) (carries.root some) there));
})
