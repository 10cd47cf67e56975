-- The map without darts: the one map without edges, with its two lists.
use Rattle.std.proofs.Common.{◌≡◌, ℕ, zero, suc, ◌*◌, ◌^◌, ◌<◌, ◌≤◌, List, [], ◌∷◌, length, slice_index, refl, sym, ◌∙◌, ap, subst, arith}
use Rattle.std.specs.Prelude.{All}
use Rattle.std.proofs.lemmas.List.Elements.{All-cons, All-nil}
use Rattle.pm_limits.specs.declared.TheConstants.{MAX_EDGES}
use Rattle.pm_lists.specs.Valid.{IsValidList}
use Rattle.pm_map.specs.Rotation.{RotationSystem, structure_of, IsRootedMap}
use Rattle.pm_map.specs.Classes.{IsGeneral}
use Rattle.pm_map.specs.Canonical.{IsCanonical, IsCanonicalOf}
use Rattle.pm_map.specs.Meeting.{no_dart}
use Rattle.pm_map.proofs.CarriedStructure.{rooted_is_plane}
use Rattle.pm_map.proofs.SameMaps.{same_as_itself}
use Rattle.pm_class.specs.ClassLaws.{AreLimits}
use Rattle.pm_class.specs.OneToOne.{IsMember, AreOneToOne}
use Rattle.pm_general.specs.General.{nothing, SamplesNothing}

pub nothing_is_rooted : IsRootedMap nothing
nothing_is_rooted = record {
  even = refl;
  few = omega arith;
  structure = record {
    rotation = record { stays = λ d less. absurd (omega (arith, less)); injective = λ j k less also e. absurd (omega (arith, less)) };
    twin_stays = λ d less. absurd (omega (arith, less));
    twin_back = λ d less. absurd (omega (arith, less));
    twin_other = λ d less. absurd (omega (arith, less));
    root_stays = λ some. absurd (omega (arith, some));
    no_root = λ none. refl;
  };
  connected = λ holds root closed d less. absurd (omega (arith, less));
  euler = refl;
}

nothing_is_canonical : IsCanonical nothing
nothing_is_canonical = record { root = refl; vertices = []; met = no_dart refl; named = λ k less. absurd (omega (arith, less)) }

pub nothing_is_member : IsMember (λ m. IsGeneral (structure_of m) 0) nothing
nothing_is_member = record { rooted = nothing_is_rooted; canonical = nothing_is_canonical; in_class = record { plane = rooted_is_plane nothing nothing_is_rooted; count = refl } }

no_entry : (xs : List ℕ) → length xs ≡ 0 → xs ≡ []
no_entry [] none = refl
no_entry (x ∷ xs) none = absurd (omega (arith, none))

-- a map without edges is it
pub no_edges : (m : RotationSystem) → IsRootedMap m → IsGeneral (structure_of m) 0 → m ≡ nothing
no_edges m rooted is =
    let even = rooted.even in
    let count = is.count in
    let none : length m.sigma ≡ 0 = omega (arith, even, count) in
    ap (λ (s : List ℕ). record { sigma = s; root = m.root }) (no_entry m.sigma none) ∙ ap (λ (r : ℕ). record { sigma = []; root = r }) (rooted.structure.no_root none)

-- it is its own canonical map
pub nothing_is_canonical_of : (m : RotationSystem) → IsRootedMap m → IsGeneral (structure_of m) 0 → IsCanonicalOf m nothing
nothing_is_canonical_of m rooted is =
    subst (λ (n : RotationSystem). IsCanonicalOf n nothing) (sym (no_edges m rooted is)) (record { is_canonical = nothing_is_canonical; is_same = same_as_itself (structure_of nothing) })

pub one_entry : (x bound : ℕ) → x < bound → IsValidList (x ∷ []) (bound ∷ [])
one_entry x bound low = record { as_long = refl; below = below } where
  below : (place : ℕ) → place < 1 → slice_index (x ∷ []) place < slice_index (bound ∷ []) place
  below zero less = low
  below (suc place) less = absurd (omega (arith, less))

pub two_entries : (x bound y last : ℕ) → x < bound → y < last → IsValidList (x ∷ y ∷ []) (bound ∷ last ∷ [])
two_entries x bound y last low also = record { as_long = refl; below = below } where
  below : (place : ℕ) → place < 2 → slice_index (x ∷ y ∷ []) place < slice_index (bound ∷ last ∷ []) place
  below zero less = low
  below (suc zero) less = also
  below (suc (suc place)) less = absurd (omega (arith, less))

record IsOne (xs : List ℕ) (bound : ℕ) : Type 0 where
  entry : ℕ
  low : entry < bound
  are : xs ≡ entry ∷ []

one_of : (xs : List ℕ) (bound : ℕ) → IsValidList xs (bound ∷ []) → IsOne xs bound
one_of [] bound is = absurd (let long = is.as_long in omega (arith, long))
one_of (x ∷ []) bound is = record { entry = x; low = is.below 0 (omega arith); are = refl }
one_of (x ∷ y ∷ xs) bound is = absurd (let long = is.as_long in omega (arith, long))

-- a list that is valid for 2 and 1 has its first entry below 2, and then 0
record IsChoiceAndZero (xs : List ℕ) : Type 0 where
  entry : ℕ
  low : entry < 2
  are : xs ≡ entry ∷ 0 ∷ []

choice_and_zero : (xs : List ℕ) → IsValidList xs (2 ∷ 1 ∷ []) → IsChoiceAndZero xs
choice_and_zero [] is = absurd (let long = is.as_long in omega (arith, long))
choice_and_zero (x ∷ []) is = absurd (let long = is.as_long in omega (arith, long))
choice_and_zero (x ∷ y ∷ []) is =
    let low : y < 1 = is.below 1 (omega arith) in
    let none : y ≡ 0 = omega (arith, low) in
    record { entry = x; low = is.below 0 (omega arith); are = ap (λ (z : ℕ). x ∷ z ∷ []) none }
choice_and_zero (x ∷ y ∷ z ∷ xs) is = absurd (let long = is.as_long in omega (arith, long))

-- the map and the residue of the one choice
pub given_nothing : (choices : List ℕ) (map : RotationSystem) (residue : List ℕ) → IsValidList choices (2 ∷ []) → map ≡ nothing → residue ≡ slice_index choices 0 ∷ 0 ∷ [] → SamplesNothing choices map residue
given_nothing choices map residue valid map_is residue_is =
    let one = one_of choices 2 valid in
    let first : slice_index choices 0 ≡ one.entry = ap (λ (xs : List ℕ). slice_index xs 0) one.are in
    record { choice = one.entry; low = one.low; choices_are = one.are; map_is = map_is; residue_is = residue_is ∙ ap (λ (x : ℕ). x ∷ 0 ∷ []) first }

-- and the choice of the residue
pub taken_nothing : (choices residue : List ℕ) → IsValidList residue (2 ∷ 1 ∷ []) → choices ≡ slice_index residue 0 ∷ [] → SamplesNothing choices nothing residue
taken_nothing choices residue valid choices_are =
    let both = choice_and_zero residue valid in
    let first : slice_index residue 0 ≡ both.entry = ap (λ (xs : List ℕ). slice_index xs 0) both.are in
    record { choice = both.entry; low = both.low; choices_are = choices_are ∙ ap (λ (x : ℕ). x ∷ []) first; map_is = refl; residue_is = both.are }

same_first : (x y : ℕ) (xs ys : List ℕ) → ◌≡◌ {A = List ℕ} (x ∷ xs) (y ∷ ys) → x ≡ y
same_first x y xs ys e = cc

pub nothing_one_to_one : AreOneToOne (2 ∷ []) (2 ∷ 1 ∷ []) (λ m. IsGeneral (structure_of m) 0) SamplesNothing
nothing_one_to_one = record {
  only = λ choices map residue s. record {
    valid = subst (λ (xs : List ℕ). IsValidList xs (2 ∷ [])) (sym s.choices_are) (one_entry s.choice 2 s.low);
    member = subst (IsMember (λ m. IsGeneral (structure_of m) 0)) (sym s.map_is) nothing_is_member;
    valid_residue = subst (λ (xs : List ℕ). IsValidList xs (2 ∷ 1 ∷ [])) (sym s.residue_is) (two_entries s.choice 2 0 1 s.low (omega arith));
  };
  each_list = λ choices valid.
      let one = one_of choices 2 valid in
      record { map = nothing; residue = one.entry ∷ 0 ∷ []; given = record { choice = one.entry; low = one.low; choices_are = one.are; map_is = refl; residue_is = refl } };
  each_pair = λ map residue member valid.
      let both = choice_and_zero residue valid in
      record { choices = both.entry ∷ []; given = record { choice = both.entry; low = both.low; choices_are = refl; map_is = no_edges map member.rooted member.in_class; residue_is = both.are } };
  one_sample = λ choices map other residue rest a b.
      let same : a.choice ≡ b.choice = same_first a.choice b.choice [] [] (sym a.choices_are ∙ b.choices_are) in
      (a.map_is ∙ sym b.map_is, a.residue_is ∙ ap (λ (x : ℕ). x ∷ 0 ∷ []) same ∙ sym b.residue_is);
  one_list = λ one other map residue a b.
      let same : a.choice ≡ b.choice = same_first a.choice b.choice (0 ∷ []) (0 ∷ []) (sym a.residue_is ∙ b.residue_is) in
      a.choices_are ∙ ap (λ (x : ℕ). x ∷ []) same ∙ sym b.choices_are;
}

bounds_of_nothing : (P : ℕ → Type 0) → P 2 → P 1 → All P (2 ∷ 1 ∷ [])
bounds_of_nothing P two one = All-cons P 2 (1 ∷ []) two (All-cons P 1 [] one (All-nil P))

pub nothing_limits : AreLimits (2 ∷ []) (2 ∷ 1 ∷ [])
nothing_limits = record {
  choice_bounds = record { each = All-cons (λ (bound : ℕ). 1 ≤ bound) 2 [] (omega arith) (All-nil (λ (bound : ℕ). 1 ≤ bound)) };
  choices_fit = record { each = All-cons (λ (bound : ℕ). bound < 2 ^ 64) 2 [] (omega arith) (All-nil (λ (bound : ℕ). bound < 2 ^ 64)) };
  few_choices = omega arith;
  residue_bounds = record { each = bounds_of_nothing (λ (bound : ℕ). 1 ≤ bound) (omega arith) (omega arith) };
  few_residues = omega arith;
  low_residues = bounds_of_nothing (λ (bound : ℕ). bound ≤ 2 * MAX_EDGES) (omega arith) (omega arith);
}
