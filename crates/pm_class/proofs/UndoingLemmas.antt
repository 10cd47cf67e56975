-- What follows from the laws of a class.
use Rattle.std.proofs.Common.{◌≡◌, ℕ, List, Result, Ok, sym, subst}
use Rattle.pm_map.specs.Rotation.{RotationSystem, structure_of, IsRootedMap}
use Rattle.pm_map.specs.Canonical.{IsCanonicalOf}
use Rattle.pm_map.specs.declared.class_refusal.ClassRefusal.{ClassRefusal}
use Rattle.pm_map.proofs.SameMaps.{same_as_itself}
use Rattle.pm_map.proofs.UniqueCanonical.{canonical_map_is_rooted, canonical_map_is_unique}
use Rattle.pm_canon.proofs.ExistenceLemmas.{canonical_map_exists}
use Rattle.pm_class.specs.ClassLaws.{IsKeptByRenumbering}
use Rattle.pm_class.specs.OneToOne.{IsMember, IsGiven, AreOneToOne}
use Rattle.pm_class.specs.Sampling.{IsSizeWhereAnswered, HasOneAnswer}
use Rattle.pm_class.specs.Undoing.{UnsamplingUndoes, UnsamplingUndoesUnnamed, SamplingUndoes, EachMapIsUnsampled, ListsAreResidues}
use Rattle.pm_class.proofs.UnnamedLemmas.{unnamed_in_class}

same_size : {Size : Type 0} (a b : Size) → ◌≡◌ {A = Result Size ClassRefusal} (Ok a) (Ok b) → a ≡ b
same_size a b e = cc

module _ {Size : Type 0} (is_size : Size → Type 0) (choice_limits residue_limits : Size → List ℕ) (has : Size → RotationSystem → Type 0) (answers : RotationSystem → Result Size ClassRefusal → Type 0)
    (samples : Size → List ℕ → RotationSystem → List ℕ → Type 0) (sized : IsSizeWhereAnswered is_size has answers) (one_answer : HasOneAnswer answers)
    (law : (size : Size) → is_size size → AreOneToOne (choice_limits size) (residue_limits size) (has size) (samples size)) where
  -- a map of a size has no other
  pub one_size : (map : RotationSystem) (a b : Size) → IsRootedMap map → answers map (Ok a) → answers map (Ok b) → a ≡ b
  one_size map a b rooted x y = same_size a b (one_answer map (Ok a) (Ok b) rooted x y (λ e. cc) (λ e. cc))

  pub unsampling_undoes : UnsamplingUndoes is_size choice_limits residue_limits has answers samples
  unsampling_undoes size choices found sample is s u =
      let sizes : u.size ≡ size = one_size sample.map u.size size s.rooted u.in_class ((sized sample.map size s.rooted).1 (is, s.in_class)) in
      let own : IsCanonicalOf sample.map sample.map = record { is_canonical = s.canonical; is_same = same_as_itself (structure_of sample.map) } in
      let maps : u.canonical ≡ sample.map = canonical_map_is_unique sample.map u.canonical sample.map s.rooted u.is_canonical own in
      let given : samples size found sample.map sample.residue =
      subst (λ (m : RotationSystem). samples size found m sample.residue) maps (subst (λ (n : Size). samples n found u.canonical sample.residue) sizes u.given) in
      (law size is).one_list found choices sample.map sample.residue given s.given

  pub unsampling_undoes_unnamed : ((size : Size) → is_size size → IsKeptByRenumbering (has size)) → UnsamplingUndoesUnnamed is_size choice_limits residue_limits has answers samples
  unsampling_undoes_unnamed kept size choices found sample is s u =
      let in_class : has size sample.map = unnamed_in_class (choice_limits size) (residue_limits size) (has size) (samples size choices) choices sample (kept size is) s in
      let sizes : u.size ≡ size = one_size sample.map u.size size s.rooted u.in_class ((sized sample.map size s.rooted).1 (is, in_class)) in
      let maps : u.canonical ≡ s.canonical = canonical_map_is_unique sample.map u.canonical s.canonical s.rooted u.is_canonical s.is_canonical in
      let given : samples size found s.canonical sample.residue =
      subst (λ (m : RotationSystem). samples size found m sample.residue) maps (subst (λ (n : Size). samples n found u.canonical sample.residue) sizes u.given) in
      (law size is).one_list found choices s.canonical sample.residue given s.sampled.given

  pub sampling_undoes : SamplingUndoes is_size choice_limits residue_limits has answers samples
  sampling_undoes size map residue choices sample rooted answered u s =
      let sizes : u.size ≡ size = one_size map u.size size rooted u.in_class answered in
      let is : is_size size = ((sized map size rooted).0 answered).0 in
      let given : samples size choices u.canonical residue = subst (λ (n : Size). samples n choices u.canonical residue) sizes u.given in
      let same = (law size is).one_sample choices u.canonical sample.map residue sample.residue given s.given in
      (subst (IsCanonicalOf map) same.0 u.is_canonical, sym same.1)

  pub map_is_unsampled : ((size : Size) → is_size size → IsKeptByRenumbering (has size)) → EachMapIsUnsampled is_size choice_limits residue_limits has answers samples
  map_is_unsampled kept size map residue is rooted in_class valid =
      let named : (canonical : RotationSystem) × IsCanonicalOf map canonical = canonical_map_exists map rooted in
      let after : IsRootedMap named.0 = canonical_map_is_rooted map named.0 rooted named.1 in
      let member : IsMember (has size) named.0 = record { rooted = after; canonical = named.1.is_canonical; in_class = kept size is map named.0 rooted after named.1.is_same in_class } in
      let found : IsGiven (samples size) named.0 residue = (law size is).each_pair named.0 residue member valid in (
        found.choices,
        record {
          size = size;
          in_class = (sized map size rooted).1 (is, in_class);
          valid_residue = valid;
          canonical = named.0;
          is_canonical = named.1;
          valid = ((law size is).only found.choices named.0 residue found.given).valid;
          given = found.given;
        },
      )

  pub lists_are_residues : ListsAreResidues is_size residue_limits has samples
  lists_are_residues size map is member = record {
    only = λ choices residue given. ((law size is).only choices map residue given).valid_residue;
    each = λ residue valid. (law size is).each_pair map residue member valid;
    one_residue = λ choices one other x y. ((law size is).one_sample choices map map one other x y).1;
    one_list = λ one other residue x y. (law size is).one_list one other map residue x y;
  }
