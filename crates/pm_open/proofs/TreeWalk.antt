-- The closure of a balanced tree is numbered along the walk, and the walk spells the tree.
use Rattle.std.proofs.Common.{◌≡◌, ◌≢◌, ℕ, zero, suc, ◌+◌, ◌-◌, ◌%◌, ◌<◌, ◌≤◌, ◌⊎◌, inl, inr, Bool, true, false, cond, ltb, eqb, List, length, take, refl, sym, ap, ◌∙◌, subst, arith}
use Rattle.std.specs.Prelude.{slice_index}
use Rattle.std.proofs.lemmas.Bool.{cases_eq, lt-ltb, le-ltb, eq-eqb, ne_eqb}
use Rattle.pm_perm.proofs.LeaderMaps.{repeated-kept}
use Rattle.pm_perm.proofs.SameCycle.{in_cycle-through}
use Rattle.pm_trees.specs.declared.letters.TheConstants.{LEAF, BUD}
use Rattle.pm_brackets.specs.declared.letters.TheConstants.{OPEN, CLOSE}
use Rattle.pm_brackets.specs.Word.{count}
use Rattle.pm_trees.specs.Word.{contour}
use Rattle.pm_trees.specs.Blossoming.{IsBlossoming}
use Rattle.pm_trees.proofs.Balance.{two_more_leaves}
use Rattle.pm_trees.proofs.FourLetters.{bracketing_exists}
use Rattle.pm_trees.proofs.Subtree.{subtree_balance}
use Rattle.pm_match.specs.Pair.{IsBalanced}
use Rattle.pm_match.proofs.Counts.{buds, leaves, surplus_from}
use Rattle.pm_map.specs.Structure.{Structure, IsStructure, face_next}
use Rattle.pm_map.specs.FaceDistance.{AreInOneFace, AreFaceLevels}
use Rattle.pm_map.proofs.CarriedStructure.{face_permutes}
use Rattle.pm_map.proofs.DistanceLemmas.{face_itself, face_back}
use Rattle.pm_close.specs.Closure.{IsClosure}
use Rattle.pm_close.specs.Level.{IsLevel}
use Rattle.pm_close.proofs.ClosureLemmas.{bracketing_across, succ_inside, succ_last}
use Rattle.pm_close.proofs.ClosureStructure.{closure_structure}
use Rattle.pm_close.proofs.LowWords.{low_word, leaves_of, buds_of}
use Rattle.pm_close.proofs.RootedClosure.{has_across}
use Rattle.pm_distances.proofs.Walked.{is_cut, across, IsWalkedInOrder}
use Rattle.pm_open.proofs.Letters.{letter_of, IsSpelled}
use Rattle.pm_distances.proofs.EdgeKinds.{cut_at_own, kept_at_own, cut_at_twin, kept_at_twin}
use Rattle.pm_open.proofs.TreeLevels.{IsMeasured, IsEdge, brackets, cut, edge, level_around}

-- the place behind one that isn't before p is 0 or after p
succ_on : (p q n : ℕ) → p ≤ q → q < n → (suc q % n ≡ 0) ⊎ ((p < suc q % n) × (suc q % n < n))
succ_on p q n le l = elim (cases_eq (suc q) n) [
  | inl last ↦ inl (ap (λ (k : ℕ). k % n) last ∙ succ_last n (omega arith))
  | inr ne ↦ let next : suc q % n ≡ suc q = succ_inside q n (omega arith) in inr (omega (arith, next), omega (arith, next))
]

-- a closure with the levels of its places
record IsDrawn (places other : List ℕ) (level : ℕ → ℕ) (s : Structure) : Type 0 where
  measured : IsMeasured places other s.twin level
  structure : IsStructure s
  darts : s.darts ≡ length places
  rotation : (p : ℕ) → p < length places → s.next p ≡ suc (slice_index other p) % length places
  root : s.root ≡ 0

module _ (places other : List ℕ) (level : ℕ → ℕ) (s : Structure) (h : IsDrawn places other level s) where
  dart : (p : ℕ) → p < length places → p < s.darts
  dart p l = subst (λ n. p < n) (sym h.darts) l

  place : (p : ℕ) → p < s.darts → p < length places
  place p l = subst (λ n. p < n) h.darts l

  edge_at : (p : ℕ) → p < length places → IsEdge places other level p (s.twin p) ⊎ IsEdge places other level (s.twin p) p
  edge_at p l = edge places other s.twin level h.measured p l

  twin_in : (p : ℕ) → p < length places → s.twin p < length places
  twin_in p l = place (s.twin p) (h.structure.twin_stays p (dart p l))

  face_on : (p : ℕ) → p < length places → face_next s p ≡ suc (slice_index other (s.twin p)) % length places
  face_on p l = h.rotation (s.twin p) (twin_in p l)

  around : (p : ℕ) → p < s.darts → level (face_next s p) ≡ level p
  around p l = ap level (face_on p (place p l)) ∙ level_around places other s.twin level h.measured p (place p l)

  -- around a face places rise, up to the root or to one with a lower twin
  data IsOnward (p : ℕ) : Type 0 where
    lower : suc (level (s.twin p)) ≡ level p → IsOnward p
    on : (face_next s p ≡ 0) ⊎ ((p < face_next s p) × (face_next s p < length places)) → IsOnward p

  onward : (p : ℕ) → p < length places → IsOnward p
  onward p l = elim (edge_at p l) [
    | inl forward ↦ elim forward [
      | brackets _ _ _ _ _ higher ↦ lower (sym higher)
      | cut before _ _ _ back _ ↦ on (rises (s.twin p) back (succ_on p (s.twin p) (length places) (omega arith) (twin_in p l)))
    ]
    | inr backward ↦ elim backward [
      | brackets _ _ _ at _ _ ↦ on (rises p at (succ_on p p (length places) (omega arith) l))
      | cut _ _ _ _ _ higher ↦ lower (sym higher)
    ]
  ] where
    rises : (q : ℕ) → slice_index other (s.twin p) ≡ q → (suc q % length places ≡ 0) ⊎ ((p < suc q % length places) × (suc q % length places < length places))
        → (face_next s p ≡ 0) ⊎ ((p < face_next s p) × (face_next s p < length places))
    rises q e r = subst (λ (k : ℕ). (k ≡ 0) ⊎ ((p < k) × (k < length places))) (sym (face_on p l ∙ ap (λ (k : ℕ). suc k % length places) e)) r

  data IsLed (p : ℕ) : Type 0 where
    to_root : AreInOneFace s p 0 → IsLed p
    to_lower : (e : ℕ) → e < s.darts → AreInOneFace s p e → suc (level (s.twin e)) ≡ level e → IsLed p

  one_step : (p : ℕ) → AreInOneFace s p (face_next s p)
  one_step p = record { steps = 1; leads = refl }

  led : (fuel p : ℕ) → p < length places → length places ≤ p + fuel → IsLed p
  led zero p l enough = absurd (omega arith)
  led (suc fuel) p l enough = elim (onward p l) [
    | lower e ↦ to_lower p (dart p l) (face_itself s p) e
    | on next ↦ elim next [
      | inl root ↦ to_root (subst (AreInOneFace s p) root (one_step p))
      | inr more ↦ elim (led fuel (face_next s p) more.1 (further (face_next s p) more.0)) [
        | to_root c ↦ to_root (in_cycle-through (face_next s) p (face_next s p) 0 (one_step p) c)
        | to_lower e e_in c lower_twin ↦ to_lower e e_in (in_cycle-through (face_next s) p (face_next s p) e (one_step p) c) lower_twin
      ]
    ]
  ] where
    further : (k : ℕ) → p < k → length places ≤ k + fuel
    further k more = omega arith

  led_from : (p : ℕ) → p < s.darts → IsLed p
  led_from p l = led (length places) p (place p l) (omega arith)

  -- the level is the same in all of a face
  level_in_face : (p e : ℕ) → p < s.darts → AreInOneFace s p e → level e ≡ level p
  level_in_face p e l c = ap level (sym c.leads) ∙ repeated-kept s.darts (face_next s) level (face_permutes s h.structure) (record { along = around }) c.steps p l

  lowest : (p : ℕ) → p < s.darts → level p ≡ 0 → AreInOneFace s s.root p
  lowest p l e = elim (led_from p l) [
    | to_root c ↦ subst (λ (r : ℕ). AreInOneFace s r p) (sym h.root) (face_back s p 0 h.structure l c)
    | to_lower q _ c higher ↦ absurd (omega (arith, level_in_face p q l c))
  ]

  nearer : (p : ℕ) → p < s.darts → 0 < level p → (e : ℕ) × (e < s.darts) × AreInOneFace s p e × (suc (level (s.twin e)) ≡ level e)
  nearer p l positive = elim (led_from p l) [
    | to_root c ↦ absurd (omega (arith, level_in_face p 0 l c, h.measured.plant))
    | to_lower q q_in c higher ↦ (q, q_in, c, higher)
  ]

  across_one : (p : ℕ) → p < s.darts → level (s.twin p) ≤ suc (level p)
  across_one p l = elim (edge_at p (place p l)) [
    | inl forward ↦ elim forward [ brackets _ _ _ _ _ higher ↦ omega arith | cut _ _ _ _ _ higher ↦ omega arith ]
    | inr backward ↦ elim backward [ brackets _ _ _ _ _ higher ↦ omega arith | cut _ _ _ _ _ higher ↦ omega arith ]
  ]

  face_levels : AreFaceLevels s level
  face_levels = record { around = around; root = λ some. ap level h.root ∙ h.measured.plant; lowest = lowest; across = across_one; nearer = nearer }

  -- the step of the walk at a place, and its letter
  record IsTold (p : ℕ) : Type 0 where
    next : s.next (across s level p) ≡ suc p % length places
    letter : slice_index places p ≡ letter_of s level p

  next_cut : (p : ℕ) → p < length places → is_cut s level p ≡ true → slice_index other p ≡ p → s.next (across s level p) ≡ suc p % length places
  next_cut p l e own = ap (λ (b : Bool). s.next (cond b p (s.twin p))) e ∙ h.rotation p l ∙ ap (λ (k : ℕ). suc k % length places) own

  next_kept : (p : ℕ) → p < length places → is_cut s level p ≡ false → slice_index other (s.twin p) ≡ p → s.next (across s level p) ≡ suc p % length places
  next_kept p l e back = ap (λ (b : Bool). s.next (cond b p (s.twin p))) e ∙ face_on p l ∙ ap (λ (k : ℕ). suc k % length places) back

  -- the letter by three tests
  letter_by : Bool → Bool → Bool → ℕ
  letter_by plant is_cut first = cond plant LEAF (cond is_cut (cond first BUD LEAF) (cond first OPEN CLOSE))

  letter_is : (p : ℕ) (plant is first : Bool) → eqb p 0 ≡ plant → is_cut s level p ≡ is → ltb p (s.twin p) ≡ first → letter_of s level p ≡ letter_by plant is first
  unfolding letter_by
  letter_is p plant is first e f g =
      ap (λ (b : Bool). letter_by b (is_cut s level p) (ltb p (s.twin p))) e ∙ ap (λ (b : Bool). letter_by plant b (ltb p (s.twin p))) f ∙ ap (letter_by plant is) g

  not_first : (p : ℕ) → 0 < p → eqb p 0 ≡ false
  not_first p l = ne_eqb p 0 (λ e. zero_not p l e) where
    zero_not : (p : ℕ) → 0 < p → p ≡ 0 → ⊥
    zero_not p l e = omega arith

  positive : (p x : ℕ) → slice_index places p ≡ x → x ≢ LEAF → 0 < p
  positive zero x e ne = absurd (ne (sym e ∙ h.measured.is_straight.plant.leaf))
  positive (suc p) x e ne = omega arith

  told : (p : ℕ) → p < length places → IsTold p
  unfolding letter_by
  told p l =
      let back : s.twin (s.twin p) ≡ p = h.structure.twin_back p (dart p l) in
      elim (edge_at p l) [
        | inl forward ↦ elim forward [
          | brackets before o c at there higher ↦
              let kept = kept_at_own s level p (omega arith) (omega arith) in
              record {
                next = next_kept p l kept there;
                letter = o ∙ sym (letter_is p false false true (not_first p (positive p OPEN o (λ e. absurd (omega arith)))) kept (lt-ltb p (s.twin p) before));
              }
          | cut before first leaf own there higher ↦
              let is = cut_at_own s level p (omega arith) higher in
              record {
                next = next_cut p l is own;
                letter = elim first [
                  | inl root ↦ ap (slice_index places) root ∙ h.measured.is_straight.plant.leaf ∙ sym (letter_is p true true true (eq-eqb p 0 root) is (lt-ltb p (s.twin p) before))
                  | inr bud ↦ bud ∙ sym (letter_is p false true true (not_first p (positive p BUD bud (λ e. absurd (omega arith)))) is (lt-ltb p (s.twin p) before))
                ];
              }
        ]
        | inr backward ↦ elim backward [
          | brackets before o c at there higher ↦
              let kept = kept_at_twin s level p back before (omega arith) in
              record {
                next = next_kept p l kept at;
                letter = c ∙ sym (letter_is p false false false (not_first p (omega arith)) kept (le-ltb p (s.twin p) (omega arith)));
              }
          | cut before first leaf there own higher ↦
              let is = cut_at_twin s level p back before higher in
              record {
                next = next_cut p l is own;
                letter = leaf ∙ sym (letter_is p false true false (not_first p (omega arith)) is (le-ltb p (s.twin p) (omega arith)));
              }
        ]
      ]

  walked : IsWalkedInOrder s level
  walked = record { root = h.root; onward = λ d l. (told d (place d l)).next ∙ ap (λ (n : ℕ). suc d % n) (sym h.darts) }

  spelled : IsSpelled s level places
  spelled = record { as_long = sym h.darts; each = λ d l. (told d (place d l)).letter }

-- the level of a place in the counts of two turns
level_counted : (word : List ℕ) (p level : ℕ) → 0 < p → p < length (contour word) → IsLevel (contour word) p level → level + leaves (contour word) p ≡ buds (contour word) p + 2
level_counted word zero level positive l is = absurd (omega arith)
level_counted word (suc k) level positive l is =
    let at : level + count LEAF (take k word) ≡ suc (count BUD (take k word)) = is.other positive in
    omega (arith, at, leaves_of word k (omega arith), buds_of word k (omega arith))

drawn : (word : List ℕ) (closure : Structure) (level : ℕ → ℕ) → IsBlossoming word → IsBalanced (contour word) → IsClosure (contour word) closure
    → ((p : ℕ) → p < length (contour word) → IsLevel (contour word) p (level p)) → (other : List ℕ) × IsDrawn (contour word) other level closure
drawn word closure level tree balanced is levels =
    let bracketing = bracketing_exists word tree.in_order in (
      bracketing.0,
      record {
        measured = record {
          bracketing = bracketing.1;
          one = (has_across word tree).one;
          twins = is.twins;
          is_straight = record { surplus = surplus_from (contour word) (two_more_leaves word tree); plant = balanced };
          sums = λ p q pair. subtree_balance word p q tree pair;
          plant = (levels 0 (omega arith)).plant refl;
          later = λ p positive l. level_counted word p (level p) positive l (levels p l);
        };
        structure = closure_structure word closure tree is;
        darts = is.darts;
        rotation = λ p l. is.rotation p (slice_index bracketing.0 p) l (bracketing_across (contour word) bracketing.0 bracketing.1 p l);
        root = is.root;
      },
    )

-- levels of the places are levels of the faces, the places are numbered along the walk, and their letters are as it spells
pub tree_is_walked : (word : List ℕ) (closure : Structure) (level : ℕ → ℕ) → IsBlossoming word → IsBalanced (contour word) → IsClosure (contour word) closure
    → ((p : ℕ) → p < length (contour word) → IsLevel (contour word) p (level p))
    → AreFaceLevels closure level × IsWalkedInOrder closure level × IsSpelled closure level (contour word)
tree_is_walked word closure level tree balanced is levels =
    let d = drawn word closure level tree balanced is levels in
    (face_levels (contour word) d.0 level closure d.1, walked (contour word) d.0 level closure d.1, spelled (contour word) d.0 level closure d.1)

-- the level of a place, as a number
level_of : List ℕ → ℕ → ℕ
level_of word zero = 0
level_of word (suc k) = suc (count BUD (take k word)) - count LEAF (take k word)

is_level : (word : List ℕ) → IsBlossoming word → IsBalanced (contour word) → (p : ℕ) → p < length (contour word) → IsLevel (contour word) p (level_of word p)
unfolding level_of
is_level word tree balanced zero l = record { plant = λ e. refl; other = λ positive. absurd (omega arith) }
is_level word tree balanced (suc k) l =
    let under : count LEAF (take k word) ≤ suc (count BUD (take k word)) = low_word word (two_more_leaves word tree) balanced k (omega arith) in
    let whole : suc (count BUD (take k word)) - count LEAF (take k word) + count LEAF (take k word) ≡ suc (count BUD (take k word)) = omega arith in
    record { plant = λ e. absurd (omega arith); other = λ positive. whole }

-- the places of a balanced tree have their levels
pub tree_has_levels : (word : List ℕ) → IsBlossoming word → IsBalanced (contour word) → (level : ℕ → ℕ) × ((p : ℕ) → p < length (contour word) → IsLevel (contour word) p (level p))
tree_has_levels word tree balanced = (level_of word, is_level word tree balanced)
