-- A structure whose walk meets every dart is the same as one whose darts are numbered along the walk.
use Rattle.std.proofs.Common.{◌≡◌, ℕ, suc, ◌-◌, ◌%◌, ◌<◌, inl, inr, Bool, cond, refl, sym, ap, ◌∙◌, lt-ltb, le-ltb, arith}
use Rattle.std.proofs.Math.Nat.{mod-eq_of_lt, mod_self}
use Rattle.std.specs.Prelude.{nat_lt}
use Rattle.std.proofs.lemmas.Bool.{cases_Bool, cases_eq, cases_lt, cond-true, cond-false}
use Rattle.pm_perm.specs.Permutation.{IsPermutationBelow}
use Rattle.pm_perm.proofs.InverseLemmas.{place_of, place_of-stays, place_of-of_value, value-place_of, place_of-permutes, onto_permutes}
use Rattle.pm_perm.proofs.Permutations.{IsReached, reached}
use Rattle.pm_perm.proofs.Repeats.{repeated-inside, repeated-back}
use Rattle.pm_map.specs.Structure.{Structure, IsStructure, CarriesTo}
use Rattle.pm_map.proofs.CarriedStructure.{structure_carried}
use Rattle.pm_walk.specs.Walk.{first_of, is_cut, across, IsWalkedInOrder}
use Rattle.pm_walk.proofs.Cutting.{across_by, step_by, dart_after, step_by-permutes}
use Rattle.pm_walk.proofs.MetDarts.{IsDecidedWalk}
use Rattle.pm_walk.proofs.Edges.{first_below}

-- a choice of the edges that is decided, and whose walk meets every dart
pub record IsWhole (s : Structure) (out cut : ℕ → Bool) : Type 0 where
  pub walk : IsDecidedWalk s out cut
  pub meets : (d : ℕ) → d < s.darts → IsReached (dart_after s cut) s.darts d

-- the walk that meets every dart gives each a place
dart_after-permutes : (s : Structure) (out : ℕ → Bool) (cut : ℕ → Bool) → IsWhole s out cut → IsPermutationBelow s.darts (dart_after s cut)
dart_after-permutes s out cut w =
    onto_permutes s.darts (dart_after s cut) w.meets

-- after as many steps as there are darts the walk is back at the root
dart_after-round : (s : Structure) (out : ℕ → Bool) (cut : ℕ → Bool) → IsWhole s out cut → dart_after s cut s.darts ≡ s.root
dart_after-round s out cut w =
    let n : ℕ = s.darts in
    let some : 0 < n = w.walk.some in
    let steps : IsPermutationBelow n (step_by s cut) = step_by-permutes s cut w.walk.structure w.walk.cutting in
    let walk : IsPermutationBelow n (dart_after s cut) = dart_after-permutes s out cut w in
    let root : s.root < n = w.walk.structure.root_stays w.walk.some in
    let inside : dart_after s cut n < n = repeated-inside (step_by s cut) n steps n s.root root in
    let at : IsReached (dart_after s cut) n (dart_after s cut n) = reached (dart_after s cut) n (dart_after s cut n) walk inside in
    let below : at.from < n = at.below in
    elim (cases_eq at.from 0) [
      | inl none ↦ sym at.value ∙ ap (dart_after s cut) none
      | inr more ↦
          let early : dart_after s cut (n - at.from) ≡ s.root = repeated-back n (step_by s cut) at.from n s.root steps root below at.value in
          let less : n - at.from < n = omega (arith, some, below, more) in
          absurd (omega (arith, below, walk.injective (n - at.from) 0 less some early))
    ]

-- the structure with its darts numbered by their places on the walk
numbered : Structure → (ℕ → Bool) → Structure
numbered s cut = record {
  darts = s.darts;
  next = λ k. place_of (dart_after s cut) s.darts (s.next (dart_after s cut k));
  twin = λ k. place_of (dart_after s cut) s.darts (s.twin (dart_after s cut k));
  root = 0;
}

numbered-carries : (s : Structure) (out : ℕ → Bool) (cut : ℕ → Bool) → IsWhole s out cut → CarriesTo (place_of (dart_after s cut) s.darts) s (numbered s cut)
unfolding numbered
numbered-carries s out cut w =
    let walk : IsPermutationBelow s.darts (dart_after s cut) = dart_after-permutes s out cut w in
    record {
      darts = refl;
      renumbers = place_of-permutes (dart_after s cut) s.darts walk;
      next = λ d h. ap (λ x. place_of (dart_after s cut) s.darts (s.next x)) (sym (value-place_of (dart_after s cut) s.darts d walk h));
      twin = λ d h. ap (λ x. place_of (dart_after s cut) s.darts (s.twin x)) (sym (value-place_of (dart_after s cut) s.darts d walk h));
      root = λ some. place_of-of_value (dart_after s cut) s.darts 0 walk some;
    }

-- the dart beyond the edge of a place
numbered-twin : (s : Structure) (out : ℕ → Bool) (cut : ℕ → Bool) → IsWhole s out cut → (k : ℕ) → k < s.darts
    → (dart_after s cut ((numbered s cut).twin k) ≡ s.twin (dart_after s cut k)) × ((numbered s cut).twin k < s.darts)
unfolding numbered
numbered-twin s out cut w k h =
    let walk : IsPermutationBelow s.darts (dart_after s cut) = dart_after-permutes s out cut w in
    let inside : s.twin (dart_after s cut k) < s.darts = w.walk.structure.twin_stays (dart_after s cut k) (walk.stays k h) in
    (value-place_of (dart_after s cut) s.darts (s.twin (dart_after s cut k)) walk inside, place_of-stays (dart_after s cut) s.darts (s.twin (dart_after s cut k)) walk inside)

-- the test of a place
abbrev out_after : Structure → (ℕ → Bool) → (ℕ → Bool) → ℕ → Bool
out_after s cut out k = out (dart_after s cut k)

-- of the two darts of an edge the one with the lesser place was met first
numbered-cut : (s : Structure) (out : ℕ → Bool) (cut : ℕ → Bool) → IsWhole s out cut → (k : ℕ) → k < s.darts
    → is_cut (numbered s cut) (out_after s cut out) k ≡ cut (dart_after s cut k)
numbered-cut s out cut w k h =
    let walk : IsPermutationBelow s.darts (dart_after s cut) = dart_after-permutes s out cut w in
    let is : IsStructure s = w.walk.structure in
    let other : ℕ = (numbered s cut).twin k in
    let twins = numbered-twin s out cut w k h in
    let beyond : dart_after s cut other ≡ s.twin (dart_after s cut k) = twins.0 in
    let inside : other < s.darts = twins.1 in
    let here : dart_after s cut k < s.darts = walk.stays k h in
    elim (cases_lt other k) [
      | inl second ↦
          let chosen : first_of (numbered s cut) k ≡ other = cond-true (nat_lt other k) other k (lt-ltb other k second) in
          let decided : cut (dart_after s cut other) ≡ out (dart_after s cut other) =
          w.walk.decided.decided other inside
          (λ i less e.
          let same : i ≡ k = walk.injective i k (omega (arith, less, inside)) h (e ∙ ap s.twin beyond ∙ is.twin_back (dart_after s cut k) here) in
          omega (arith, same, less, second)) in
          ap (out_after s cut out) chosen ∙ sym decided
          ∙ ap cut beyond ∙ w.walk.cutting.both (dart_after s cut k) here
      | inr first ↦
          let chosen : first_of (numbered s cut) k ≡ k = cond-false (nat_lt other k) other k (le-ltb other k first) in
          let decided : cut (dart_after s cut k) ≡ out (dart_after s cut k) =
          w.walk.decided.decided k h
          (λ i less e.
          let same : i ≡ other = walk.injective i other (omega (arith, less, h)) inside (e ∙ sym beyond) in
          omega (arith, same, less, first)) in
          ap (out_after s cut out) chosen ∙ sym decided
    ]

-- the dart across of a place
numbered-across : (s : Structure) (out : ℕ → Bool) (cut : ℕ → Bool) → IsWhole s out cut → (k : ℕ) → k < s.darts
    → dart_after s cut (across (numbered s cut) (out_after s cut out) k) ≡ across_by s cut (dart_after s cut k)
numbered-across s out cut w k h =
    let x : ℕ = dart_after s cut k in
    let other : ℕ = (numbered s cut).twin k in
    ap (λ b. dart_after s cut (cond b k ((numbered s cut).twin k))) (numbered-cut s out cut w k h)
    ∙ (elim (cases_Bool (cut x)) [
      | inl cuts ↦ ap (dart_after s cut) (cond-true (cut x) k other cuts) ∙ sym (cond-true (cut x) x (s.twin x) cuts)
      | inr kept ↦ ap (dart_after s cut) (cond-false (cut x) k other kept) ∙ (numbered-twin s out cut w k h).0 ∙ sym (cond-false (cut x) x (s.twin x) kept)
    ])

-- after each place comes the next one
numbered-onward : (s : Structure) (out : ℕ → Bool) (cut : ℕ → Bool) → IsWhole s out cut → (k : ℕ) → k < s.darts
    → (numbered s cut).next (across (numbered s cut) (out_after s cut out) k) ≡ suc k % s.darts
unfolding numbered
numbered-onward s out cut w k h =
    let n : ℕ = s.darts in
    let walk : IsPermutationBelow n (dart_after s cut) = dart_after-permutes s out cut w in
    let some : 0 < n = w.walk.some in
    ap (λ x. place_of (dart_after s cut) s.darts (s.next x)) (numbered-across s out cut w k h)
    ∙ (elim (cases_lt (suc k) n) [
      | inl more ↦ place_of-of_value (dart_after s cut) n (suc k) walk more ∙ sym (mod-eq_of_lt more)
      | inr last ↦
          let whole : suc k ≡ n = omega (arith, last, h) in
          ap (λ j. place_of (dart_after s cut) n (dart_after s cut j)) whole ∙ ap (place_of (dart_after s cut) n) (dart_after-round s out cut w)
          ∙ place_of-of_value (dart_after s cut) n 0 walk some ∙ sym (mod_self n) ∙ ap (λ j. j % n) (sym whole)
    ])

first_root : (s : Structure) (cut : ℕ → Bool) → (numbered s cut).root ≡ 0
unfolding numbered
first_root s cut = refl

in_order : (s : Structure) (out : ℕ → Bool) (cut : ℕ → Bool) → IsWhole s out cut → IsWalkedInOrder (numbered s cut) (out_after s cut out)
unfolding numbered
in_order s out cut w = record { root = refl; onward = λ d h. numbered-onward s out cut w d h }

-- a structure is the same as one whose darts are numbered along its walk: each place has its dart, and its dart's test
pub record IsNumberedAlong (s : Structure) (out : ℕ → Bool) : Type 0 where
  pub walked : Structure
  pub rename : ℕ → ℕ
  pub dart : ℕ → ℕ
  pub carries : CarriesTo rename s walked
  pub structure : IsStructure walked
  pub in_order : IsWalkedInOrder walked (λ k. out (dart k))
  pub back : (d : ℕ) → d < s.darts → dart (rename d) ≡ d
  pub twin : (k : ℕ) → k < s.darts → dart (walked.twin k) ≡ s.twin (dart k)

pub numbered_along : (s : Structure) (out cut : ℕ → Bool) → IsWhole s out cut → IsNumberedAlong s out
numbered_along s out cut w =
    let walk : IsPermutationBelow s.darts (dart_after s cut) = dart_after-permutes s out cut w in
    let carries : CarriesTo (place_of (dart_after s cut) s.darts) s (numbered s cut) = numbered-carries s out cut w in
    record {
      walked = numbered s cut;
      rename = place_of (dart_after s cut) s.darts;
      dart = dart_after s cut;
      carries = carries;
      structure = structure_carried (place_of (dart_after s cut) s.darts) s (numbered s cut) w.walk.structure carries (λ none. first_root s cut);
      in_order = in_order s out cut w;
      back = λ d h. value-place_of (dart_after s cut) s.darts d walk h;
      twin = λ k h. (numbered-twin s out cut w k h).0;
    }

-- the walk goes by what the test says of darts
pub walked_same : (s : Structure) (out other : ℕ → Bool) → ((k : ℕ) → k < s.darts → other k ≡ out k) → IsWalkedInOrder s out → IsWalkedInOrder s other
walked_same s out other same walked = record { root = walked.root; onward = λ d l. ap s.next (across_same d l) ∙ walked.onward d l } where
  across_same : (d : ℕ) → d < s.darts → across s other d ≡ across s out d
  across_same d l = ap (λ (b : Bool). cond b d (s.twin d)) (same (first_of s d) (omega (arith, first_below s d)))
