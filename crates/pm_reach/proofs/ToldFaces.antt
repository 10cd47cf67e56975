-- The parents of the faces, told dart by dart.
use Rattle.std.proofs.Common.{◌≡◌, ◌⊎◌, ℕ, ◌+◌, ◌<◌, inl, inr, Bool, true, false, List, [], ◌∷◌, ◌++◌, length, set, length-set, slice_index, slice_index_or, get_or, append-nil, append_assoc, replicate, Contains, refl, sym, ◌∙◌, ap, subst, arith}
use Rattle.std.proofs.lemmas.Bool.{cases_eq, false≢true}
use Rattle.std.proofs.lemmas.List.{get_or-set_same, get_or-set_other, get_or-replicate, length-replicate}
use Rattle.std.proofs.lemmas.List.Elements.{Contains-push, Contains-push_cases, Contains-append_left, Contains-append_right}
use Rattle.pm_perm.specs.Permutation.{IsPermutationBelow}
use Rattle.pm_perm.specs.Cycles.{leader}
use Rattle.pm_perm.specs.Least.{IsLeast}
use Rattle.pm_perm.proofs.Contained.{contains_none, contains_first, is_at}
use Rattle.pm_perm.proofs.CycleLists.{cycle-entry_in, cycle-contains}
use Rattle.pm_perm.proofs.SameCycle.{in_cycle-leader, leader-in_cycle}
use Rattle.pm_map.specs.Structure.{Structure, IsStructure, face_next}
use Rattle.pm_map.specs.FaceDistance.{AreInOneFace}
use Rattle.pm_map.specs.FaceWalk.{IsFaceFrom}
use Rattle.pm_map.specs.steps.Marks.{IsMarked}
use Rattle.pm_reach.specs.Layers.{LeadsNearer, IsParent, AreParents, of_root, of_other}
use Rattle.pm_reach.specs.steps.Telling.{TellsDarts, TellsAround, TellsFace, IsTelling}
use Rattle.pm_reach.proofs.NearerFaces.{AreLevels, nearer_around, lower_nearer}
use Rattle.pm_map.proofs.CarriedStructure.{face_permutes}
use Rattle.pm_map.proofs.DistanceLemmas.{face_back, face_below, levels-around}

-- a mark is there or not
mark_cases : (told : List Bool) (d : ℕ) → IsMarked told d ⊎ (slice_index_or told d false ≡ false)
mark_cases told d = bool_cases (slice_index_or told d false) where
  bool_cases : (b : Bool) → (b ≡ true) ⊎ (b ≡ false)
  bool_cases true = inl refl
  bool_cases false = inr refl

-- two darts are in one face or not
face_cases : (s : Structure) → IsStructure s → (dart d : ℕ) → dart < s.darts → d < s.darts → AreInOneFace s dart d ⊎ (AreInOneFace s dart d → ⊥)
face_cases s is dart d h hd =
    let permutes : IsPermutationBelow s.darts (face_next s) = face_permutes s is in
    elim (cases_eq (leader s.darts (face_next s) dart) (leader s.darts (face_next s) d)) [
      | inl same ↦ inl (leader-in_cycle s.darts (face_next s) permutes dart d h hd same)
      | inr apart ↦ inr (λ one. apart (in_cycle-leader s.darts (face_next s) permutes dart d h one))
    ]

-- no dart is told yet
pub TellsDarts-none : (dart : ℕ) (told : List Bool) (parents : List ℕ) → TellsDarts dart [] told parents told parents
TellsDarts-none dart told parents = record {
  told_size = refl;
  parents_size = refl;
  marked = λ d held. absurd (contains_none d held);
  parent = λ d held. absurd (contains_none d held);
  mark_stays = λ d other. refl;
  parent_stays = λ d other. refl;
}

-- one dart more
pub TellsDarts-more : (dart other : ℕ) (darts : List ℕ) (told : List Bool) (parents : List ℕ) (told_after : List Bool) (parents_after : List ℕ)
    → other < length told → other < length parents → TellsDarts dart darts told parents told_after parents_after
    → TellsDarts dart (darts ++ other ∷ []) told parents (set told_after other true) (set parents_after other dart)
TellsDarts-more dart other darts told parents told_after parents_after ht hp t = record {
  told_size = length-set told_after other true ∙ t.told_size;
  parents_size = length-set parents_after other dart ∙ t.parents_size;
  marked = λ d held. elim (cases_eq d other) [
    | inl here ↦ subst (λ x. IsMarked (set told_after other true) x) (sym here) (get_or-set_same told_after other true false (omega (arith, t.told_size)))
    | inr elsewhere ↦ get_or-set_other told_after other d true false elsewhere ∙ t.marked d (before d other darts held elsewhere)
  ];
  parent = λ d held. elim (cases_eq d other) [
    | inl here ↦ subst (λ x. get_or (set parents_after other dart) x 0 ≡ dart) (sym here) (get_or-set_same parents_after other dart 0 (omega (arith, t.parents_size)))
    | inr elsewhere ↦ get_or-set_other parents_after other d dart 0 elsewhere ∙ t.parent d (before d other darts held elsewhere)
  ];
  mark_stays = λ d out. elim (cases_eq d other) [
    | inl here ↦ absurd (out (last d other darts here))
    | inr elsewhere ↦ get_or-set_other told_after other d true false elsewhere ∙ t.mark_stays d (λ held. out (Contains-append_left darts (other ∷ []) d held))
  ];
  parent_stays = λ d out. elim (cases_eq d other) [
    | inl here ↦ absurd (out (last d other darts here))
    | inr elsewhere ↦ get_or-set_other parents_after other d dart 0 elsewhere ∙ t.parent_stays d (λ held. out (Contains-append_left darts (other ∷ []) d held))
  ];
} where
  before : (d other : ℕ) (darts : List ℕ) → Contains (darts ++ other ∷ []) d → (d ≡ other → ⊥) → Contains darts d
  before d other darts held elsewhere = elim (Contains-push_cases darts other d held) [ inl earlier ↦ earlier | inr here ↦ absurd (elsewhere (sym here)) ]

  last : (d other : ℕ) (darts : List ℕ) → d ≡ other → Contains (darts ++ other ∷ []) d
  last d other darts here = subst (λ x. Contains (darts ++ other ∷ []) x) (sym here) (Contains-push darts other)

-- the walk around a face begins
pub TellsAround-begins : (s : Structure) (dart : ℕ) (face : List ℕ) (told : List Bool) (parents : List ℕ) → IsFaceFrom s dart face → TellsAround s dart face told parents told parents
TellsAround-begins s dart face told parents around = record { face = face; around = around; done = []; whole = refl; tells = TellsDarts-none dart told parents }

-- it tells the next dart, which is one of the map
pub TellsAround-within : (s : Structure) (dart other : ℕ) (rest : List ℕ) (told : List Bool) (parents : List ℕ) (told_after : List Bool) (parents_after : List ℕ)
    → IsStructure s → dart < s.darts → TellsAround s dart (other ∷ rest) told parents told_after parents_after → other < s.darts
TellsAround-within s dart other rest told parents told_after parents_after is h t =
    let held : Contains t.face other = subst (λ xs. Contains xs other) t.whole (Contains-append_right t.done (other ∷ rest) other (contains_first other other rest refl)) in
    let one : AreInOneFace s dart (slice_index t.face held.0) = cycle-entry_in (face_next s) dart t.face t.around held.0 held.1 in
    face_below s dart other is h (subst (λ x. AreInOneFace s dart x) (is_at t.face other held) one)

pub TellsAround-more : (s : Structure) (dart other : ℕ) (rest : List ℕ) (told : List Bool) (parents : List ℕ) (told_after : List Bool) (parents_after : List ℕ)
    → other < length told → other < length parents → TellsAround s dart (other ∷ rest) told parents told_after parents_after
    → TellsAround s dart rest told parents (set told_after other true) (set parents_after other dart)
TellsAround-more s dart other rest told parents told_after parents_after ht hp t = record {
  face = t.face;
  around = t.around;
  done = t.done ++ other ∷ [];
  whole = append_assoc t.done (other ∷ []) rest ∙ t.whole;
  tells = TellsDarts-more dart other t.done told parents told_after parents_after ht hp t.tells;
}

-- when no dart is left, the face is told
pub TellsAround-all : (s : Structure) (dart : ℕ) (told : List Bool) (parents : List ℕ) (told_after : List Bool) (parents_after : List ℕ)
    → TellsAround s dart [] told parents told_after parents_after → TellsFace s dart told parents told_after parents_after
TellsAround-all s dart told parents told_after parents_after t =
    let all : t.done ≡ t.face = sym (append-nil t.done) ∙ t.whole in
    record {
      face = t.face;
      held = λ d one. cycle-contains (face_next s) dart d t.face t.around one;
      only = λ d held. subst (λ x. AreInOneFace s dart x) (is_at t.face d held) (cycle-entry_in (face_next s) dart t.face t.around held.0 held.1);
      tells = subst (λ xs. TellsDarts dart xs told parents told_after parents_after) all t.tells;
    }

-- before the first dart is tried
pub IsTelling-begins : (s : Structure) (told : List Bool) (parents : List ℕ) → told ≡ replicate s.darts false → parents ≡ replicate s.darts s.root → IsTelling s told parents 0
IsTelling-begins s told parents none root = record {
  told_size = ap length none ∙ length-replicate s.darts false;
  parents_size = ap length root ∙ length-replicate s.darts s.root;
  known = λ d h is. absurd (false≢true (sym (ap (λ xs. slice_index_or xs d false) none ∙ get_or-replicate s.darts d false false h) ∙ is));
  none = λ d h not e below near. absurd (omega arith);
  root = λ d h not. ap (λ xs. slice_index xs d) root ∙ get_or-replicate s.darts d s.root 0 h;
}

-- a dart that doesn't lead nearer, or whose face is told, tells nothing
pub IsTelling-passes : (s : Structure) (level : ℕ → ℕ) (told : List Bool) (parents : List ℕ) (dart : ℕ) → AreLevels s level → dart < s.darts
    → IsMarked told dart ⊎ (LeadsNearer s dart dart → ⊥) → IsTelling s told parents dart → IsTelling s told parents (dart + 1)
IsTelling-passes s level told parents dart l h passes t = record {
  told_size = t.told_size;
  parents_size = t.parents_size;
  known = λ d hd is. (let least = t.known d hd is in record { within = omega (arith, least.within); breaks = least.breaks; least = least.least });
  none = λ d hd not e below near. elim (cases_eq e dart) [
    | inl here ↦
        let at_dart : LeadsNearer s d dart = subst (λ x. LeadsNearer s d x) here near in
        let itself : LeadsNearer s dart dart = nearer_around s level l d dart dart hd h h at_dart.one_face at_dart in
        elim passes [
          | inl is ↦
              let least = t.known dart h is in
              let parent : ℕ = slice_index parents dart in
              let back : LeadsNearer s d parent = nearer_around s level l dart d parent h hd (omega (arith, least.within)) (face_back s d dart l.structure hd at_dart.one_face) least.breaks in
              t.none d hd not parent least.within back
          | inr never ↦ never itself
        ]
    | inr other ↦ t.none d hd not e (omega (arith, below, other)) near
  ];
  root = t.root;
}

-- a dart that leads nearer tells its face, where that isn't told
pub IsTelling-tells : (s : Structure) (level : ℕ → ℕ) (told : List Bool) (parents : List ℕ) (told_after : List Bool) (parents_after : List ℕ) (dart : ℕ)
    → AreLevels s level → dart < s.darts → slice_index_or told dart false ≡ false → LeadsNearer s dart dart → TellsFace s dart told parents told_after parents_after
    → IsTelling s told parents dart → IsTelling s told_after parents_after (dart + 1)
IsTelling-tells s level told parents told_after parents_after dart l h open_mark near tells t = record {
  told_size = tells.tells.told_size ∙ t.told_size;
  parents_size = tells.tells.parents_size ∙ t.parents_size;
  known = λ d hd is. elim (face_cases s l.structure dart d h hd) [
    | inl one ↦
        subst (λ p. IsLeast (dart + 1) (λ e. LeadsNearer s d e → ⊥) (LeadsNearer s d) p) (sym (tells.tells.parent d (tells.held d one)))
        (record {
          within = omega arith;
          breaks = nearer_around s level l dart d dart h hd h one near;
          least = λ e below leads. t.none dart h open_mark e below (nearer_around s level l d dart e hd h (omega (arith, below, h)) (face_back s dart d l.structure h one) leads);
        })
    | inr other ↦
        let same : slice_index_or told_after d false ≡ slice_index_or told d false = tells.tells.mark_stays d (λ held. other (tells.only d held)) in
        let least = t.known d hd (sym same ∙ is) in
        subst (λ p. IsLeast (dart + 1) (λ e. LeadsNearer s d e → ⊥) (LeadsNearer s d) p) (sym (tells.tells.parent_stays d (λ held. other (tells.only d held))))
        (record { within = omega (arith, least.within); breaks = least.breaks; least = least.least })
  ];
  none = λ d hd not e below leads. elim (face_cases s l.structure dart d h hd) [
    | inl one ↦ false≢true (sym not ∙ tells.tells.marked d (tells.held d one))
    | inr other ↦
        let same : slice_index_or told_after d false ≡ slice_index_or told d false = tells.tells.mark_stays d (λ held. other (tells.only d held)) in
        elim (cases_eq e dart) [
          | inl here ↦ other (face_back s d dart l.structure hd (subst (λ x. LeadsNearer s d x) here leads).one_face)
          | inr less ↦ t.none d hd (sym same ∙ not) e (omega (arith, below, less)) leads
        ]
  ];
  root = λ d hd not. elim (face_cases s l.structure dart d h hd) [
    | inl one ↦ absurd (false≢true (sym not ∙ tells.tells.marked d (tells.held d one)))
    | inr other ↦
        let out : Contains tells.face d → ⊥ = λ held. other (tells.only d held) in
        tells.tells.parent_stays d out ∙ t.root d hd (sym (tells.tells.mark_stays d out) ∙ not)
  ];
}

-- when all darts were tried, the parents are those of the faces
pub IsTelling-all : (s : Structure) (level : ℕ → ℕ) (told : List Bool) (parents : List ℕ) → AreLevels s level → IsTelling s told parents s.darts → AreParents s parents
IsTelling-all s level told parents l t = record {
  as_long = t.parents_size;
  each = λ d h. elim (mark_cases told d) [
    | inl is ↦ of_other (slice_index parents d) (t.known d h is)
    | inr not ↦ elim (cases_eq (level d) 0) [
      | inl low ↦ subst (λ p. IsParent s d p) (sym (t.root d h not)) (of_root (l.levels.lowest d h low))
      | inr high ↦
          let near = l.levels.nearer d h (omega (arith, high)) in
          let same : level near.0 ≡ level d = levels-around s level l.structure l.levels d near.0 h near.2 in
          absurd (t.none d h not near.0 near.1 (lower_nearer s level l d near.0 h near.1 near.2 (omega (arith, same, near.3))))
    ]
  ];
}
