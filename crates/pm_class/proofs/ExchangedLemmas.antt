-- The law of a class from that of the class behind it.
use Rattle.std.proofs.Common.{◌≡◌, ℕ, List, Result, Ok, subst}
use Rattle.pm_lists.specs.Valid.{IsValidList}
use Rattle.pm_map.specs.Structure.{Structure, Same}
use Rattle.pm_map.specs.Rotation.{RotationSystem, structure_of, IsRootedMap}
use Rattle.pm_map.specs.Canonical.{IsCanonicalOf}
use Rattle.pm_map.specs.declared.class_refusal.ClassRefusal.{ClassRefusal}
use Rattle.pm_map.proofs.SameMaps.{same_as_itself, same_symmetric, same_transitive}
use Rattle.pm_map.proofs.UniqueCanonical.{canonical_map_is_rooted, canonical_map_is_unique}
use Rattle.pm_canon.proofs.ExistenceLemmas.{canonical_map_exists}
use Rattle.pm_class.specs.Behind.{IsSameAsImage, HasMapWhere, AreExchanged, SamplesBehind, AreChoicesOf}
use Rattle.pm_class.specs.ClassLaws.{IsKeptByRenumbering}
use Rattle.pm_class.specs.OneToOne.{IsMember, AreOfClass, Gives, IsGiven, AreOneToOne}
use Rattle.pm_class.specs.Sampling.{IsSampled, IsSampledUnnamed, IsSizeWhereAnswered, HasOneAnswer}
use Rattle.pm_class.specs.Unsampling.{IsUnsampled}
use Rattle.pm_class.specs.declared.sample.Sample.{Sample}
use Rattle.pm_class.proofs.UndoingLemmas.{one_size}

-- two canonical maps that are the same are equal
canonical_ones : (one other : RotationSystem) (has also : RotationSystem → Type 0) → IsMember has one → IsMember also other → Same (structure_of one) (structure_of other) → one ≡ other
canonical_ones one other has also is also_is same =
    canonical_map_is_unique one one other is.rooted (record { is_canonical = is.canonical; is_same = same_as_itself (structure_of one) }) (record { is_canonical = also_is.canonical; is_same = same })

module _ (image : Structure → Structure → Type 0) (behind class : RotationSystem → Type 0) (exchange : AreExchanged image behind class) where
  -- maps before maps that are the same are the same
  same_before : (map other first second : RotationSystem) → IsRootedMap map → IsRootedMap other → IsRootedMap first → IsSameAsImage image map first → IsSameAsImage image other second
      → Same (structure_of first) (structure_of second) → Same (structure_of map) (structure_of other)
  same_before map other first second rooted also there a b same =
      (exchange.tells map other a.there b.there rooted also a.is_image b.is_image).1
      (same_transitive a.there (structure_of first) b.there (same_symmetric (structure_of first) a.there there.structure a.is_same)
      (same_transitive (structure_of first) (structure_of second) b.there same b.is_same))

  -- maps behind a map are the same
  same_behind : (map first second : RotationSystem) → IsRootedMap map → IsRootedMap second → IsSameAsImage image map first → IsSameAsImage image map second → Same (structure_of first) (structure_of second)
  same_behind map first second rooted there a b =
      same_transitive (structure_of first) a.there (structure_of second) a.is_same
      (same_transitive a.there b.there (structure_of second) ((exchange.tells map map a.there b.there rooted rooted a.is_image b.is_image).0 (same_as_itself (structure_of map)))
      (same_symmetric (structure_of second) b.there there.structure b.is_same))

  -- a map before one of the class behind is in the class
  pub in_class_before : (map other : RotationSystem) → IsRootedMap map → IsRootedMap other → behind other → IsSameAsImage image map other → class map
  in_class_before map other rooted there in_class imaged =
      let found : HasMapWhere class (λ m. IsSameAsImage image m other) = exchange.from_behind other there in_class in
      exchange.kept found.map map found.rooted rooted (same_before found.map map other other found.rooted rooted there found.is imaged (same_as_itself (structure_of other))) found.in_class

  -- a map behind one of the class is in the class behind
  pub in_class_behind : (map other : RotationSystem) → IsKeptByRenumbering behind → IsRootedMap map → IsRootedMap other → class map → IsSameAsImage image map other → behind other
  in_class_behind map other kept rooted there in_class imaged =
      let found : HasMapWhere behind (IsSameAsImage image map) = exchange.to_behind map rooted in_class in
      kept found.map other found.rooted there (same_behind map found.map other rooted there found.is imaged) found.in_class

  -- the names of darts don't matter to images
  pub image_kept : (map again other after : RotationSystem) → IsRootedMap map → IsRootedMap again → IsRootedMap other → class map → Same (structure_of map) (structure_of again)
      → Same (structure_of other) (structure_of after) → IsSameAsImage image map other → IsSameAsImage image again after
  image_kept map again other after rooted also there in_class same_map same_other imaged =
      let found : HasMapWhere behind (IsSameAsImage image again) = exchange.to_behind again also (exchange.kept map again rooted also same_map in_class) in
      let to : IsSameAsImage image again found.map = found.is in
      let images : Same imaged.there to.there = (exchange.tells map again imaged.there to.there rooted also imaged.is_image to.is_image).0 same_map in
      record {
        there = to.there;
        is_image = to.is_image;
        is_same = same_transitive (structure_of after) (structure_of other) to.there (same_symmetric (structure_of other) (structure_of after) there.structure same_other)
            (same_transitive (structure_of other) imaged.there to.there imaged.is_same images);
      }

  module _ (bounds residues : List ℕ) (samples : List ℕ → RotationSystem → List ℕ → Type 0) (law : AreOneToOne bounds residues behind samples) (kept : IsKeptByRenumbering behind) where
    of_behind : (choices : List ℕ) (map : RotationSystem) (residue : List ℕ) → SamplesBehind image samples choices map residue → AreOfClass bounds residues class choices map residue
    of_behind choices map residue s =
        let is : AreOfClass bounds residues behind choices s.behind residue = law.only choices s.behind residue s.given in
        record {
          valid = is.valid;
          member = record { rooted = s.rooted; canonical = s.canonical; in_class = in_class_before map s.behind s.rooted is.member.rooted is.member.in_class s.imaged };
          valid_residue = is.valid_residue;
        }

    -- the canonical map of a map before what the choices give
    each_behind : (choices : List ℕ) → IsValidList choices bounds → Gives (SamplesBehind image samples) choices
    each_behind choices valid =
        let given : Gives samples choices = law.each_list choices valid in
        let is : IsMember behind given.map = (law.only choices given.map given.residue given.given).member in
        let found : HasMapWhere class (λ m. IsSameAsImage image m given.map) = exchange.from_behind given.map is.rooted is.in_class in
        let named : (canonical : RotationSystem) × IsCanonicalOf found.map canonical = canonical_map_exists found.map found.rooted in
        let rooted : IsRootedMap named.0 = canonical_map_is_rooted found.map named.0 found.rooted named.1 in
        record {
          map = named.0;
          residue = given.residue;
          given = record {
            behind = given.map;
            given = given.given;
            rooted = rooted;
            canonical = named.1.is_canonical;
            imaged = image_kept found.map named.0 given.map given.map found.rooted rooted is.rooted found.in_class named.1.is_same (same_as_itself (structure_of given.map)) found.is;
          };
        }

    -- the choices that give the canonical map of a map behind, and the residue
    pair_behind : (map : RotationSystem) (residue : List ℕ) → IsMember class map → IsValidList residue residues → IsGiven (SamplesBehind image samples) map residue
    pair_behind map residue member valid =
        let found : HasMapWhere behind (IsSameAsImage image map) = exchange.to_behind map member.rooted member.in_class in
        let named : (canonical : RotationSystem) × IsCanonicalOf found.map canonical = canonical_map_exists found.map found.rooted in
        let rooted : IsRootedMap named.0 = canonical_map_is_rooted found.map named.0 found.rooted named.1 in
        let given : IsGiven samples named.0 residue =
        law.each_pair named.0 residue (record { rooted = rooted; canonical = named.1.is_canonical; in_class = kept found.map named.0 found.rooted rooted named.1.is_same found.in_class }) valid in
        record {
          choices = given.choices;
          given = record {
            behind = named.0;
            given = given.given;
            rooted = member.rooted;
            canonical = member.canonical;
            imaged = image_kept map map found.map named.0 member.rooted member.rooted found.rooted member.in_class (same_as_itself (structure_of map)) named.1.is_same found.is;
          };
        }

    pub exchanged : AreOneToOne bounds residues class (SamplesBehind image samples)
    exchanged = record {
      only = of_behind;
      each_list = each_behind;
      each_pair = pair_behind;
      one_sample = λ choices map other residue rest a b.
          let same = law.one_sample choices a.behind b.behind residue rest a.given b.given in (
            canonical_ones map other class class (of_behind choices map residue a).member (of_behind choices other rest b).member
                (same_before map other a.behind b.behind a.rooted b.rooted (law.only choices a.behind residue a.given).member.rooted a.imaged b.imaged
                (subst (λ (m : RotationSystem). Same (structure_of a.behind) (structure_of m)) same.0 (same_as_itself (structure_of a.behind)))),
            same.1,
          );
      one_list = λ one other map residue a b.
          let first : IsMember behind a.behind = (law.only one a.behind residue a.given).member in
          let second : IsMember behind b.behind = (law.only other b.behind residue b.given).member in
          let same : a.behind ≡ b.behind = canonical_ones a.behind b.behind behind behind first second (same_behind map a.behind b.behind a.rooted second.rooted a.imaged b.imaged) in
          law.one_list one other b.behind residue (subst (λ (m : RotationSystem). samples one m residue) same a.given) b.given;
    }

    -- what is sampled behind, and the canonical map of a map before it, are sampled
    pub sampled_before : (choices : List ℕ) (sample : Sample) (map canonical : RotationSystem) → IsSampled bounds residues behind (samples choices) choices sample → IsRootedMap map → IsSameAsImage image map sample.map
        → IsCanonicalOf map canonical → IsSampled bounds residues class (SamplesBehind image samples choices) choices (record { map = canonical; residue = sample.residue })
    sampled_before choices sample map canonical s rooted imaged is =
        let after : IsRootedMap canonical = canonical_map_is_rooted map canonical rooted is in
        let in_class : class map = in_class_before map sample.map rooted s.rooted s.in_class imaged in
        record {
          valid = s.valid;
          given = record {
            behind = sample.map;
            given = s.given;
            rooted = after;
            canonical = is.is_canonical;
            imaged = image_kept map canonical sample.map sample.map rooted after s.rooted in_class is.is_same (same_as_itself (structure_of sample.map)) imaged;
          };
          rooted = after;
          canonical = is.is_canonical;
          in_class = exchange.kept map canonical rooted after is.is_same in_class;
          valid_residue = s.valid_residue;
        }

    -- so are they where the darts of what is sampled behind have any names
    sampled_unnamed : (choices : List ℕ) (sample : Sample) (map canonical : RotationSystem) → IsSampledUnnamed bounds residues behind (samples choices) choices sample → IsRootedMap map → IsSameAsImage image map sample.map
        → IsCanonicalOf map canonical → IsSampled bounds residues class (SamplesBehind image samples choices) choices (record { map = canonical; residue = sample.residue })
    sampled_unnamed choices sample map canonical s rooted imaged is =
        sampled_before choices (record { map = s.canonical; residue = sample.residue }) map canonical s.sampled rooted (record {
          there = imaged.there;
          is_image = imaged.is_image;
          is_same = same_transitive (structure_of s.canonical) (structure_of sample.map) imaged.there
              (same_symmetric (structure_of sample.map) (structure_of s.canonical) s.rooted.structure s.is_canonical.is_same) imaged.is_same;
        }) is

    -- so is a map before it
    pub unnamed_before : (choices : List ℕ) (sample : Sample) (map : RotationSystem) → IsSampledUnnamed bounds residues behind (samples choices) choices sample → IsRootedMap map → IsSameAsImage image map sample.map
        → IsSampledUnnamed bounds residues class (SamplesBehind image samples choices) choices (record { map = map; residue = sample.residue })
    unnamed_before choices sample map s rooted imaged =
        let named : (canonical : RotationSystem) × IsCanonicalOf map canonical = canonical_map_exists map rooted in
        record { rooted = rooted; canonical = named.0; is_canonical = named.1; sampled = sampled_unnamed choices sample map named.0 s rooted imaged named.1 }

    -- choices that give a map behind and the residue give the map and the residue
    pub choices_before : (map other after : RotationSystem) (residue choices : List ℕ) → IsRootedMap map → IsRootedMap other → class map → IsSameAsImage image map other
        → IsCanonicalOf other after → IsValidList choices bounds → samples choices after residue → AreChoicesOf bounds (SamplesBehind image samples) map residue choices
    choices_before map other after residue choices rooted there in_class imaged is valid given =
        let named : (canonical : RotationSystem) × IsCanonicalOf map canonical = canonical_map_exists map rooted in
        let again : IsRootedMap named.0 = canonical_map_is_rooted map named.0 rooted named.1 in
        record {
          canonical = named.0;
          is_canonical = named.1;
          valid = valid;
          given = record {
            behind = after;
            given = given;
            rooted = again;
            canonical = named.1.is_canonical;
            imaged = image_kept map named.0 other after rooted again there in_class named.1.is_same is.is_same imaged;
          };
        }

-- what is unsampled behind a map are choices of the map
pub unsampled_before : {Size : Type 0} (is_size : Size → Type 0) (choice_limits residue_limits : Size → List ℕ) (has class : Size → RotationSystem → Type 0) (answers : RotationSystem → Result Size ClassRefusal → Type 0)
    (samples : Size → List ℕ → RotationSystem → List ℕ → Type 0) (image : Structure → Structure → Type 0) → IsSizeWhereAnswered is_size has answers → HasOneAnswer answers
    → ((size : Size) → is_size size → AreOneToOne (choice_limits size) (residue_limits size) (has size) (samples size)) → ((size : Size) → is_size size → IsKeptByRenumbering (has size))
    → ((size : Size) → is_size size → AreExchanged image (has size) (class size)) → (size : Size) (map other : RotationSystem) (residue : List ℕ) → is_size size → IsRootedMap map → IsRootedMap other
    → class size map → IsSameAsImage image map other → (choices : List ℕ) → IsUnsampled choice_limits residue_limits samples answers other residue choices
    → AreChoicesOf (choice_limits size) (SamplesBehind image (samples size)) map residue choices
unsampled_before {Size} is_size choice_limits residue_limits has class answers samples image sized one_answer law kept exchange size map other residue is rooted there in_class imaged choices u =
    let member : has size other = in_class_behind image (has size) (class size) (exchange size is) map other (kept size is) rooted there in_class imaged in
    let same : u.size ≡ size = one_size is_size choice_limits residue_limits has answers samples sized one_answer law other u.size size there u.in_class ((sized other size there).1 (is, member)) in
    choices_before image (has size) (class size) (exchange size is) (choice_limits size) (residue_limits size) (samples size) (law size is) (kept size is) map other u.canonical residue choices rooted there in_class imaged u.is_canonical
    (subst (λ (s : Size). IsValidList choices (choice_limits s)) same u.valid) (subst (λ (s : Size). samples s choices u.canonical residue) same u.given)

-- choices of a map of the class, told with its size, are what is unsampled
pub unsampled_by_choices : {Size : Type 0} (choice_limits residue_limits : Size → List ℕ) (samples : Size → List ℕ → RotationSystem → List ℕ → Type 0) (answers : RotationSystem → Result Size ClassRefusal → Type 0) (size : Size)
    (map : RotationSystem) (residue : List ℕ) → answers map (Ok size) → IsValidList residue (residue_limits size) → (choices : List ℕ) → AreChoicesOf (choice_limits size) (samples size) map residue choices
    → IsUnsampled choice_limits residue_limits samples answers map residue choices
unsampled_by_choices choice_limits residue_limits samples answers size map residue answered valid choices is =
    record { size = size; in_class = answered; valid_residue = valid; canonical = is.canonical; is_canonical = is.is_canonical; valid = is.valid; given = is.given }
