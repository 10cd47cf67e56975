-- The laws of all classes.
use Rattle.std.proofs.Common.{◌≡◌, ℕ, zero, suc, ◌<◌, ◌≤◌, lit≤, List, [], ◌∷◌, map, refl, ap, subst, arith}
use Rattle.std.specs.Prelude.{Some, codes}
use Rattle.std.proofs.lemmas.Fmt.{decimal_injective}
use Rattle.pm_trees.specs.Pairs.{IsRightPair, IsProfile}
use Rattle.pm_limits.specs.declared.TheConstants.{MAX_EDGES}
use Rattle.pm_map.specs.ClassRules.{IsTriangulationAnswer}
use Rattle.pm_tri.proofs.Triangulations as triangulations
use Rattle.pm_cli.specs.declared.class.Checked.{Checked}
use Rattle.pm_cli.specs.declared.class.Checked.TheVariants as checked
use Rattle.pm_cli.specs.declared.class.Class.{Class}
use Rattle.pm_cli.specs.declared.class.Class.TheVariants as class
use Rattle.pm_cli.specs.declared.class.Size.{Size}
use Rattle.pm_cli.specs.declared.class.Size.TheVariants as sizes
use Rattle.pm_cli.specs.Classes.{Sampler, general_sampler, quartic_sampler, eulerian_sampler, bipartite_sampler, sampler_of, AtSize, at_size, sized, IsSize, class_of, InClass, in_class, class_at, counts_of, class_word, checked_word, size_word}
use Rattle.pm_cli.specs.steps.ClassLaws.{IsSampler, IsAtSize}
use Rattle.pm_cli.proofs.MapRelations.{IsMapRelation}
use Rattle.pm_cli.proofs.PairTexts.{one_profile}
use Rattle.pm_cli.proofs.TaskLaws.{counting_laws}
use Rattle.pm_cli.proofs.WordTables.{looked_up, one_value}

abbrev pub AreSamplers : Type 0
AreSamplers = (c : Class) → IsSampler (sampler_of c)

pub are_samplers : IsSampler general_sampler → IsSampler quartic_sampler → IsSampler eulerian_sampler → IsSampler bipartite_sampler → AreSamplers
are_samplers general quartic eulerian bipartite class.General = general
are_samplers general quartic eulerian bipartite class.Quartic = quartic
are_samplers general quartic eulerian bipartite class.Eulerian = eulerian
are_samplers general quartic eulerian bipartite class.Bipartite = bipartite

-- what holds of each class with the laws, at each admissible size, holds at every size of the program
pub by_size : (P : InClass → AtSize → Type 0) → ((S : Sampler) → IsSampler S → (size : S.Measure) → S.is_size size → P (in_class S) (at_size S size))
    → AreSamplers → (size : Size) → IsSize size → P (class_at (class_of size)) (sized size)
by_size P each laws (sizes.General size) is = each general_sampler (laws class.General) size is
by_size P each laws (sizes.Quartic size) is = each quartic_sampler (laws class.Quartic) size is
by_size P each laws (sizes.Eulerian profile) is = each eulerian_sampler (laws class.Eulerian) profile is
by_size P each laws (sizes.Bipartite profile) is = each bipartite_sampler (laws class.Bipartite) profile is

-- some size of the class at which this holds
pub record HasSize (c : Class) (P : AtSize → Type 0) : Type 0 where
  pub size : Size
  pub is_of : class_of size ≡ c
  pub holds : P (sized size)

-- what holds at a measure of a class, holds at a size of it
pub of_measure : (c : Class) (P : AtSize → Type 0) → (let S : Sampler = sampler_of c in (measure : S.Measure) → P (at_size S measure) → HasSize c P)
of_measure class.General P measure holds = record { size = sizes.General measure; is_of = refl; holds = holds }
of_measure class.Quartic P measure holds = record { size = sizes.Quartic measure; is_of = refl; holds = holds }
of_measure class.Eulerian P measure holds = record { size = sizes.Eulerian measure; is_of = refl; holds = holds }
of_measure class.Bipartite P measure holds = record { size = sizes.Bipartite measure; is_of = refl; holds = holds }

laws_at : (S : Sampler) → IsSampler S → (size : S.Measure) → S.is_size size → IsAtSize (at_size S size)
laws_at S laws size is = record { one_to_one = laws.one_to_one size is; limits = laws.limits size is }

pub sized_laws : AreSamplers → (size : Size) → IsSize size → IsAtSize (sized size)
sized_laws laws size is = by_size (λ class at. IsAtSize at) laws_at laws size is

-- no class has more edges than a map may have
pub most : (c : Class) → (let at : InClass = class_at c in at.most_edges) ≤ MAX_EDGES
most class.General = omega arith
most class.Quartic = omega arith
most class.Eulerian = omega arith
most class.Bipartite = omega arith

-- the counts of a class
pub count_laws : AreSamplers → (c : Checked) → IsMapRelation (counts_of c)
count_laws laws (checked.Sampled c) =
    let S : Sampler = sampler_of c in
    let of : IsSampler S = laws c in
    counting_laws S.most_edges S.answers (most c) of.one_answer of.some_answer
count_laws laws checked.Tri = counting_laws MAX_EDGES IsTriangulationAnswer (omega arith) triangulations.one_answer triangulations.some_answer

-- some size of each class
one_is_a_profile : IsProfile ((2, 1) ∷ [])
one_is_a_profile = record { are_pairs = record { some = omega arith; right = right }; few = lit≤ tt } where
  right : (k : ℕ) → k < 1 → IsRightPair ((2, 1) ∷ []) k
  right zero l = record { even = refl; some = omega arith; few = omega arith; rising = omega arith; counted = omega arith }
  right (suc k) l = absurd (omega arith)

pub some_size : (c : Class) → HasSize c (λ at. at.is_size)
some_size class.General = record { size = sizes.General 1; is_of = refl; holds = record { few = omega arith } }
some_size class.Quartic = record { size = sizes.Quartic 1; is_of = refl; holds = record { some = omega arith; few = omega arith } }
some_size class.Eulerian = record { size = sizes.Eulerian ((2, 1) ∷ []); is_of = refl; holds = one_is_a_profile }
some_size class.Bipartite = record { size = sizes.Bipartite ((2, 1) ∷ []); is_of = refl; holds = one_is_a_profile }

-- the words of the classes
abbrev classes : List (List ℕ × Class)
classes = (codes "general", class.General) ∷ (codes "quartic", class.Quartic) ∷ (codes "eulerian", class.Eulerian) ∷ (codes "bipartite", class.Bipartite) ∷ []

class_found : (c : Class) → looked_up classes (class_word c) ≡ Some c
class_found class.General = refl
class_found class.Quartic = refl
class_found class.Eulerian = refl
class_found class.Bipartite = refl

pub one_class : (a b : Class) → class_word a ≡ class_word b → a ≡ b
one_class = one_value classes class_word class_found

-- the words of the classes that `check` knows
abbrev checked_classes : List (List ℕ × Checked)
checked_classes = (codes "tri", checked.Tri) ∷ map (λ (row : List ℕ × Class). (row.0, checked.Sampled row.1)) classes

checked_found : (c : Checked) → looked_up checked_classes (checked_word c) ≡ Some c
checked_found checked.Tri = refl
checked_found (checked.Sampled class.General) = refl
checked_found (checked.Sampled class.Quartic) = refl
checked_found (checked.Sampled class.Eulerian) = refl
checked_found (checked.Sampled class.Bipartite) = refl

pub one_checked : (a b : Checked) → checked_word a ≡ checked_word b → a ≡ b
one_checked = one_value checked_classes checked_word checked_found

-- sizes of a class
data IsOfClass : Class → Size → Type 0 where
  general : (size : ℕ) → IsOfClass class.General (sizes.General size)
  quartic : (size : ℕ) → IsOfClass class.Quartic (sizes.Quartic size)
  eulerian : (profile : List (ℕ × ℕ)) → IsOfClass class.Eulerian (sizes.Eulerian profile)
  bipartite : (profile : List (ℕ × ℕ)) → IsOfClass class.Bipartite (sizes.Bipartite profile)

is_of_class : (size : Size) → IsOfClass (class_of size) size
is_of_class (sizes.General size) = general size
is_of_class (sizes.Quartic size) = quartic size
is_of_class (sizes.Eulerian profile) = eulerian profile
is_of_class (sizes.Bipartite profile) = bipartite profile

one_size_of : (c : Class) (s t : Size) → IsOfClass c s → IsOfClass c t → IsSize s → IsSize t → size_word s ≡ size_word t → s ≡ t
one_size_of _ _ _ (general a) (general b) x y e = let p = x.few in let q = y.few in ap sizes.General (decimal_injective a b (omega arith) (omega arith) e)
one_size_of _ _ _ (quartic a) (quartic b) x y e = let p = x.few in let q = y.few in ap sizes.Quartic (decimal_injective a b (omega arith) (omega arith) e)
one_size_of _ _ _ (eulerian a) (eulerian b) x y e = ap sizes.Eulerian (one_profile a b x y e)
one_size_of _ _ _ (bipartite a) (bipartite b) x y e = ap sizes.Bipartite (one_profile a b x y e)

-- a class and a size of it have their own words
pub one_size : (s t : Size) → IsSize s → IsSize t → class_word (class_of s) ≡ class_word (class_of t) → size_word s ≡ size_word t → s ≡ t
one_size s t x y c e =
    one_size_of (class_of t) s t (subst (λ (class : Class). IsOfClass class s) (one_class (class_of s) (class_of t) c) (is_of_class s)) (is_of_class t) x y e
