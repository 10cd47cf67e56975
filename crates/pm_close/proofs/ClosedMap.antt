-- The map that closing makes is the closure.
use Rattle.std.proofs.Common.{◌≡◌, ℕ, suc, ◌%◌, ◌<◌, List, length, sym, ◌∙◌, ap, subst, arith}
use Rattle.std.specs.Prelude.{slice_index}
use Rattle.pm_perm.specs.Permutation.{IsPermutationList}
use Rattle.pm_trees.specs.Word.{contour}
use Rattle.pm_brackets.specs.Word.{IsBracketing}
use Rattle.pm_brackets.proofs.Nesting.{other_below}
use Rattle.pm_match.specs.Pair.{IsBalanced}
use Rattle.pm_match.specs.Pairing.{Pairs, IsPairing}
use Rattle.pm_map.specs.Structure.{Structure, CarriesTo}
use Rattle.pm_map.specs.Rotation.{RotationSystem, structure_of}
use Rattle.pm_close.specs.Closing.{ClosesTo}
use Rattle.pm_close.specs.Closure.{IsClosure, IsClosed}
use Rattle.pm_map.specs.EdgeNumbers.{dart_of}
use Rattle.pm_close.specs.Level.{IsLevel, AreLevels}
use Rattle.pm_close.specs.steps.Levelling.{AreLevelsAt}
use Rattle.pm_close.specs.steps.Numbered.{IsNumbered}
use Rattle.pm_close.specs.steps.Twins.{IsTwinList}
use Rattle.pm_map.specs.EdgeNumbers.{IsTwinning}
use Rattle.pm_close.proofs.TwinLemmas.{twin_unique, twin_within, twins_apart}
use Rattle.pm_close.proofs.ClosureLemmas.{IsLaidOut, laid_out, laid_out_closes, laid_out_twins, bracketing_across}
use Rattle.pm_map.proofs.NumberedEdges.{dart_of_permutes, dart_of-twin, dart_of-root, dart_of-same}
use Rattle.pm_close.proofs.JoiningSteps.{one_partner}

-- the lists that closing has made, and how they hang together
pub record IsMade (places across twins darts sigma : List ℕ) (found : Pairs) : Type 0 where
  pub bracketing : IsBracketing places across
  pub pairing : IsPairing places found
  pub are_twins : IsTwinList places twins
  pub as_many_darts : length darts ≡ length twins
  pub darts_are : (p : ℕ) → p < length twins → slice_index darts p ≡ dart_of (slice_index twins) p
  pub as_long : length sigma ≡ length darts
  pub rotated : (p : ℕ) → p < length darts → slice_index sigma (slice_index darts p) ≡ slice_index darts (suc (slice_index across p) % length darts)

-- the places are laid out as the lists say
pub lists_lay_out : (places across twins : List ℕ) (found : Pairs) → IsBracketing places across → IsPairing places found → IsTwinList places twins
    → IsLaidOut places (slice_index across) (slice_index twins)
lists_lay_out places across twins found bracketing pairing twins_are = record {
  one = one_partner places found pairing;
  is_across = bracketing_across places across bracketing;
  are_twins = twins_are.each;
}

-- the list of twins has the places in twos
pub twin_list_twins : (places across twins : List ℕ) (found : Pairs) → IsBracketing places across → IsPairing places found → IsTwinList places twins
    → IsTwinning (length twins) (slice_index twins)
twin_list_twins places across twins found bracketing pairing twins_are =
    subst (λ (n : ℕ). IsTwinning n (slice_index twins)) (sym twins_are.as_long)
    (laid_out_twins places (slice_index across) (slice_index twins) (lists_lay_out places across twins found bracketing pairing twins_are))

-- the list of darts is a permutation
pub darts_permute : (twins darts : List ℕ) → IsTwinning (length twins) (slice_index twins) → length darts ≡ length twins
    → ((p : ℕ) → p < length twins → slice_index darts p ≡ dart_of (slice_index twins) p) → IsPermutationList darts
darts_permute twins darts tw e each =
    let perm = dart_of_permutes (length twins) (slice_index twins) tw in
    record {
      stays = λ k l. omega (arith, each k (omega arith), perm.stays k (omega arith), e);
      injective = λ j k l m same. perm.injective j k (omega arith) (omega arith) (sym (each j (omega arith)) ∙ same ∙ each k (omega arith));
    }

-- the places across are places
pub across_below : (places across darts : List ℕ) → IsBracketing places across → (p : ℕ) → p < length across → slice_index across p < length across
across_below places across darts b p l = omega (arith, other_below places across p b (omega (arith, b.as_long)), b.as_long)

-- the lists as they were lent to the steps
pub is_made : (places across lent_across twins lent_twins darts lent_darts sigma : List ℕ) (found : Pairs) → lent_across ≡ across → lent_twins ≡ twins → lent_darts ≡ darts
    → IsBracketing places across → IsPairing places found → IsTwinList places twins → length darts ≡ length lent_twins
    → ((p : ℕ) → p < length lent_twins → slice_index darts p ≡ dart_of (slice_index lent_twins) p) → length sigma ≡ length lent_darts
    → ((p : ℕ) → p < length lent_darts → slice_index sigma (slice_index lent_darts p) ≡ slice_index lent_darts (suc (slice_index lent_across p) % length lent_darts))
    → IsMade places lent_across lent_twins lent_darts sigma found
is_made places across lent_across twins lent_twins darts lent_darts sigma found e f g bracketing pairing twins_are many each long rotated = record {
  bracketing = subst (λ (xs : List ℕ). IsBracketing places xs) (sym e) bracketing;
  pairing = pairing;
  are_twins = subst (λ (xs : List ℕ). IsTwinList places xs) (sym f) twins_are;
  as_many_darts = ap length g ∙ many;
  darts_are = λ p l. ap (λ (xs : List ℕ). slice_index xs p) g ∙ each p l;
  as_long = long;
  rotated = rotated;
}

-- where the places are laid out, a list with the dart after each dart is the closure
pub rotation_closes : (places sigma : List ℕ) (across t : ℕ → ℕ) → IsLaidOut places across t → length sigma ≡ length places
    → ((p : ℕ) → p < length places → slice_index sigma (dart_of t p) ≡ dart_of t (suc (across p) % length places)) → 0 < length places
    → IsClosed places (record { sigma = sigma; root = 0 })
unfolding laid_out
rotation_closes places sigma across t layout all_places next some = record {
  closure = laid_out places across t;
  is_closure = laid_out_closes places across t layout;
  carries = carried places sigma across t layout all_places next some;
} where
  carried : (places sigma : List ℕ) (across t : ℕ → ℕ) → IsLaidOut places across t → length sigma ≡ length places
      → ((p : ℕ) → p < length places → slice_index sigma (dart_of t p) ≡ dart_of t (suc (across p) % length places)) → 0 < length places
      → CarriesTo (dart_of t) (laid_out places across t) (structure_of (record { sigma = sigma; root = 0 }))
  carried places sigma across t layout all_places next some =
      let twinning = laid_out_twins places across t layout in
      record {
        darts = sym all_places;
        renumbers = dart_of_permutes (length places) t twinning;
        next = λ p l. sym (next p l);
        twin = λ p l. dart_of-twin (length places) t twinning p l;
        root = λ l. dart_of-root t (λ e. twins_apart places 0 (t 0) (layout.are_twins 0 some) (sym e));
      }

module _ (places across twins darts sigma : List ℕ) (found : Pairs) (made : IsMade places across twins darts sigma found) where
  layout : IsLaidOut places (slice_index across) (slice_index twins)
  layout = lists_lay_out places across twins found made.bracketing made.pairing made.are_twins

  all_places : length sigma ≡ length places
  all_places = made.as_long ∙ made.as_many_darts ∙ made.are_twins.as_long

  dart_is : (p : ℕ) → p < length places → slice_index darts p ≡ dart_of (slice_index twins) p
  dart_is p l = made.darts_are p (omega (arith, made.are_twins.as_long))

  -- the map is the closure
  pub made_is_closed : 0 < length places → IsClosed places (record { sigma = sigma; root = 0 })
  made_is_closed some = rotation_closes places sigma (slice_index across) (slice_index twins) layout all_places next some where
    next : (p : ℕ) → p < length places → slice_index sigma (dart_of (slice_index twins) p) ≡ dart_of (slice_index twins) (suc (slice_index across p) % length places)
    next p l =
        let count : length darts ≡ length places = made.as_many_darts ∙ made.are_twins.as_long in
        let some : 0 < length places = omega arith in
        let after : suc (slice_index across p) % length places < length places = omega arith in
        ap (slice_index sigma) (sym (dart_is p l)) ∙ made.rotated p (omega (arith, count))
        ∙ ap (λ (n : ℕ). slice_index darts (suc (slice_index across p) % n)) count
        ∙ dart_is (suc (slice_index across p) % length places) after

  -- the darts are those of the places in any closure
  pub made_numbered : (map : RotationSystem) → map ≡ record { sigma = sigma; root = 0 } → 0 < length places → IsNumbered places map darts
  made_numbered map e some =
      let closed : IsClosed places map = subst (IsClosed places) (sym e) (made_is_closed some) in
      record {
        is_closed = closed;
        as_long = made.as_many_darts ∙ made.are_twins.as_long;
        each = λ p l. dart_is p l ∙ same_dart closed.closure closed.is_closure p l;
      } where
        same_twin : (closure : Structure) → IsClosure places closure → (p : ℕ) → p < length places → slice_index twins p ≡ closure.twin p
        same_twin closure closes p l = twin_unique places p (slice_index twins p) (closure.twin p) layout.one (made.are_twins.each p l) (closes.twins p l)

        same_dart : (closure : Structure) → IsClosure places closure → (p : ℕ) → p < length places → dart_of (slice_index twins) p ≡ dart_of closure.twin p
        same_dart closure closes p l = dart_of-same (slice_index twins) closure.twin (length places) p (same_twin closure closes) l (twin_within places p (slice_index twins p) (made.are_twins.each p l))

module _ (places : List ℕ) (map : RotationSystem) (darts : List ℕ) (numbered : IsNumbered places map darts) where
  -- each dart is that of one place
  pub numbered_permutes : IsPermutationList darts
  numbered_permutes =
      let perm = numbered.is_closed.carries.renumbers in
      let count = numbered.is_closed.is_closure.darts in
      let long = numbered.as_long in
      record {
        stays = λ k l. omega (arith, numbered.each k (omega arith), perm.stays k (omega arith));
        injective = λ j k l m same. perm.injective j k (omega arith) (omega arith) (sym (numbered.each j (omega arith)) ∙ same ∙ numbered.each k (omega arith));
      }

  -- the levels that are written at the darts of the places are those of the closure
  numbered_levels : (letters levels : List ℕ) → places ≡ contour letters → AreLevelsAt letters darts levels → AreLevels places numbered.is_closed.closure levels
  numbered_levels letters levels is written = record {
    as_long = written.as_long ∙ numbered.as_long;
    each = λ p l. subst (λ (d : ℕ). IsLevel places p (slice_index levels d)) (numbered.each p l)
        (subst (λ (xs : List ℕ). IsLevel xs p (slice_index levels (slice_index darts p))) (sym is) (written.each p (let long = numbered.as_long in omega arith)));
  }

  -- so they are what the places close to
  pub numbered_closes : (letters levels : List ℕ) → IsBalanced places → places ≡ contour letters → AreLevelsAt letters darts levels → ClosesTo places (record { map = map; levels = levels })
  numbered_closes letters levels balanced is written = record { balanced = balanced; is_closed = numbered.is_closed; levels = numbered_levels letters levels is written }
