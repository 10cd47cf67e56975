-- To be the same, up to a renumbering, is an equivalence of structures.
use Rattle.std.proofs.Common.{◌≡◌, ℕ, ◌<◌, refl, sym, ap, ◌∙◌, subst}
use Rattle.pm_perm.specs.Permutation.{IsPermutationBelow}
use Rattle.pm_map.specs.Structure.{Structure, IsStructure, CarriesTo, Same}
use Rattle.pm_perm.proofs.InverseLemmas.{place_of, place_of-stays, place_of-permutes, place_of-of_value, value-place_of}

-- a structure is the same as itself
pub same_as_itself : (a : Structure) → Same a a
same_as_itself a = (
  λ d. d,
  record {
    darts = refl;
    renumbers = record { stays = λ k h. h; injective = λ j k hj hk e. e };
    next = λ d h. refl;
    twin = λ d h. refl;
    root = λ some. refl;
  },
)

carries_on : (f g : ℕ → ℕ) (a b c : Structure) → CarriesTo f a b → CarriesTo g b c → CarriesTo (λ d. g (f d)) a c
carries_on f g a b c one two =
    let stays : (d : ℕ) → d < a.darts → f d < b.darts = λ d h. subst (λ n. f d < n) one.darts (one.renumbers.stays d h) in
    record {
      darts = one.darts ∙ two.darts;
      renumbers = record {
        stays = λ d h. subst (λ n. g (f d) < n) (sym one.darts) (two.renumbers.stays (f d) (stays d h));
        injective = λ j k hj hk e. one.renumbers.injective j k hj hk (two.renumbers.injective (f j) (f k) (stays j hj) (stays k hk) e);
      };
      next = λ d h. ap g (one.next d h) ∙ two.next (f d) (stays d h);
      twin = λ d h. ap g (one.twin d h) ∙ two.twin (f d) (stays d h);
      root = λ some. ap g (one.root some) ∙ two.root (subst (λ n. 0 < n) one.darts some);
    }

-- what is the same as the same is the same
pub same_transitive : (a b c : Structure) → Same a b → Same b c → Same a c
same_transitive a b c one two = (λ d. two.0 (one.0 d), carries_on one.0 two.0 a b c one.1 two.1)

-- the inverse renumbering carries back
pub carries_back : (f : ℕ → ℕ) (a b : Structure) → IsStructure a → CarriesTo f a b → CarriesTo (place_of f a.darts) b a
carries_back f a b structure carries =
    let p : IsPermutationBelow a.darts f = carries.renumbers in
    let within : (d : ℕ) → d < b.darts → d < a.darts = λ d h. subst (λ n. d < n) (sym carries.darts) h in
    let back : (d : ℕ) → d < a.darts → place_of f a.darts d < a.darts = λ d h. place_of-stays f a.darts d p h in
    record {
      darts = sym carries.darts;
      renumbers = subst (λ n. IsPermutationBelow n (place_of f a.darts)) carries.darts (place_of-permutes f a.darts p);
      next = λ d h.
          let there : b.next d ≡ f (a.next (place_of f a.darts d)) =
          ap b.next (sym (value-place_of f a.darts d p (within d h))) ∙ sym (carries.next (place_of f a.darts d) (back d (within d h))) in
          ap (place_of f a.darts) there ∙ place_of-of_value f a.darts (a.next (place_of f a.darts d)) p (structure.rotation.stays (place_of f a.darts d) (back d (within d h)));
      twin = λ d h.
          let there : b.twin d ≡ f (a.twin (place_of f a.darts d)) =
          ap b.twin (sym (value-place_of f a.darts d p (within d h))) ∙ sym (carries.twin (place_of f a.darts d) (back d (within d h))) in
          ap (place_of f a.darts) there ∙ place_of-of_value f a.darts (a.twin (place_of f a.darts d)) p (structure.twin_stays (place_of f a.darts d) (back d (within d h)));
      root = λ some.
          let filled : 0 < a.darts = subst (λ n. 0 < n) (sym carries.darts) some in
          ap (place_of f a.darts) (sym (carries.root filled)) ∙ place_of-of_value f a.darts a.root p (structure.root_stays filled);
    }

-- the same the other way round
pub same_symmetric : (a b : Structure) → IsStructure a → Same a b → Same b a
same_symmetric a b structure same = (place_of same.0 a.darts, carries_back same.0 a b structure same.1)
