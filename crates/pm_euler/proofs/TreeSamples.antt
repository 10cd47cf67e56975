-- The laws of a class that is sampled by trees, from what it says of the first step.
use Rattle.std.proofs.Common.{◌-◌, take, length-append, length, ap, ◌≡◌, ℕ, suc, ◌<◌, List, [], ◌∷◌, ◌++◌, refl, ap₂, sym, ◌∙◌, subst, arith}
use Rattle.pm_trees.proofs.PlantedAt.{anew_alike}
use Rattle.std.specs.Prelude.{slice_index}
use Rattle.std.proofs.Math.Seq.{take-append_seam, get_or-append_seam}
use Rattle.pm_limits.specs.declared.TheConstants.{MAX_DEGREE}
use Rattle.pm_open.specs.Opening.{IsOpening}
use Rattle.pm_map.specs.declared.admitted.Degrees.TheVariants.{EvenUpTo}
use Rattle.pm_map.specs.ClassRules.{AllAdmitted}
use Rattle.pm_lists.specs.Valid.{IsValidList}
use Rattle.pm_trees.specs.Blossoming.{IsBlossoming, leaves}
use Rattle.pm_trees.specs.Pairs.{IsProfile}
use Rattle.pm_map.specs.Rotation.{RotationSystem, structure_of, IsRootedMap}
use Rattle.pm_map.specs.Classes.{IsEulerian}
use Rattle.pm_map.specs.Canonical.{IsCanonicalOf}
use Rattle.pm_canon.proofs.ExistenceLemmas.{canonical_map_exists}
use Rattle.pm_objects.proofs.CodeBounds.{valid_push}
use Rattle.pm_objects.proofs.RangeCodes.{valid_last}
use Rattle.pm_class.specs.Behind.{AreChoicesOf}
use Rattle.pm_class.specs.OneToOne.{AreOneToOne, Gives, IsMember, IsGiven}
use Rattle.pm_class.specs.Sampling.{HasOneSample, IsSampled, IsSampledUnnamed}
use Rattle.pm_class.specs.Unsampling.{HasOneList}
use Rattle.pm_planting.proofs.SideTexts.{same_push}
use Rattle.pm_euler.specs.Objects.{leaves_of_profile}
use Rattle.pm_euler.specs.PlantedAnew.{IsPlantedAnew}
use Rattle.pm_euler.specs.Sampled.{IsClosedAnew, IsClosedUnnamed, IsPrefixOf, IsMade, SamplesByTree}
use Rattle.pm_euler.specs.Unplanted.{IsUnplanted}
use Rattle.pm_euler.proofs.ClosedAnew.{closed_anew}
use Rattle.pm_euler.proofs.ClosedMaps.{canonical_closure_is_rooted}
use Rattle.pm_euler.proofs.OneSample.{anew_balances, closed_anew_once, old_plant_few}
use Rattle.pm_euler.proofs.OneUnplanting.{anew_is_once}
use Rattle.pm_euler.proofs.SomeUnplanting.{anew_exists, canonical_closes, unplanted_closes, unplanted_degrees}
use Rattle.pm_euler.proofs.TreeNodes.{closure_has, nodes_alike, nodes_of_map, opening_leaves, profile_darts, profile_degrees, profile_leaves}

-- a tree and a rest that a prefix makes
pub record HasMade (makes : List ℕ → List ℕ → List ℕ → Type 0) (prefix : List ℕ) : Type 0 where
  pub word : List ℕ
  pub rest : List ℕ
  pub is_made : makes prefix word rest

-- a prefix that makes a tree and a rest
pub record HasPrefix (prefixes : List ℕ) (makes : List ℕ → List ℕ → List ℕ → Type 0) (word rest : List ℕ) : Type 0 where
  pub prefix : List ℕ
  pub is : IsPrefixOf prefixes makes prefix word rest

-- the law of the first step: the valid prefixes go one to one to the pairs of a blossoming tree with these nodes and a valid rest
pub record MakesTrees (pairs : List (ℕ × ℕ)) (prefixes rests : List ℕ) (makes : List ℕ → List ℕ → List ℕ → Type 0) : Type 0 where
  pub only : (prefix word rest : List ℕ) → IsValidList prefix prefixes → makes prefix word rest → IsMade pairs rests word rest
  pub each_prefix : (prefix : List ℕ) → IsValidList prefix prefixes → HasMade makes prefix
  pub each_tree : (word rest : List ℕ) → IsMade pairs rests word rest → HasPrefix prefixes makes word rest
  pub one_tree : (prefix word other rest more : List ℕ) → IsValidList prefix prefixes → makes prefix word rest → makes prefix other more → (word ≡ other) × (rest ≡ more)
  pub one_prefix : (prefix other word rest : List ℕ) → IsValidList prefix prefixes → IsValidList other prefixes → makes prefix word rest → makes other word rest → prefix ≡ other

-- a valid residue in its two parts
pub record HasParts (rests : List ℕ) (leaves : ℕ) (joined : List ℕ → ℕ → List ℕ) (residue : List ℕ) : Type 0 where
  pub rest : List ℕ
  pub old_plant : ℕ
  pub whole : residue ≡ joined rest old_plant
  pub valid : IsValidList rest rests
  pub low : old_plant < leaves

-- the valid residues are one to one with the pairs of a valid rest and the number of a leaf
pub record JoinsRests (rests residues : List ℕ) (leaves : ℕ) (joined : List ℕ → ℕ → List ℕ) : Type 0 where
  pub whole : (rest : List ℕ) (old_plant : ℕ) → IsValidList rest rests → old_plant < leaves → IsValidList (joined rest old_plant) residues
  pub parts : (residue : List ℕ) → IsValidList residue residues → HasParts rests leaves joined residue
  pub once : (rest other : List ℕ) (old_plant plant : ℕ) → joined rest old_plant ≡ joined other plant → (rest ≡ other) × (old_plant ≡ plant)

-- a list with a number behind, in its two parts
pub parts_are : (values prefix : List ℕ) (last : ℕ) → values ≡ prefix ++ last ∷ [] → (take (length values - 1) values ≡ prefix) × (slice_index values (length values - 1) ≡ last)
parts_are values prefix last e =
    let n : length values - 1 ≡ length prefix = omega (arith, ap length e, length-append prefix (last ∷ [])) in
    (ap₂ (λ (k : ℕ) (xs : List ℕ). take k xs) n e ∙ take-append_seam prefix (last ∷ []), ap₂ (λ (xs : List ℕ) (k : ℕ). slice_index xs k) e n ∙ get_or-append_seam prefix last [] 0)

-- the maps of a class are those whose vertices have these degrees
abbrev pub AreMapsOf : List (ℕ × ℕ) → (RotationSystem → Type 0) → Type 0
AreMapsOf pairs has = (map : RotationSystem) → IsRootedMap map → (has map → IsEulerian (structure_of map) pairs) × (IsEulerian (structure_of map) pairs → has map)

-- what a class that is sampled by trees says of itself
pub record IsTreeClass (pairs : List (ℕ × ℕ)) (prefixes rests residues : List ℕ) (has : RotationSystem → Type 0) (makes : List ℕ → List ℕ → List ℕ → Type 0) (joined : List ℕ → ℕ → List ℕ) : Type 0 where
  pub profile : IsProfile pairs
  pub maps : AreMapsOf pairs has
  pub trees : MakesTrees pairs prefixes rests makes
  pub joins : JoinsRests rests residues (suc (leaves_of_profile pairs)) joined

module _ {pairs : List (ℕ × ℕ)} {prefixes rests residues : List ℕ} {has : RotationSystem → Type 0} {makes : List ℕ → List ℕ → List ℕ → Type 0} {joined : List ℕ → ℕ → List ℕ} (class : IsTreeClass pairs prefixes rests residues has makes joined) where
  -- what is sampled is a map of the class, and the residue is valid
  pub is_sampled : (choices : List ℕ) (map : RotationSystem) (residue : List ℕ) → SamplesByTree prefixes makes joined choices map residue
      → IsSampled (prefixes ++ 2 ∷ []) residues has (SamplesByTree prefixes makes joined choices) choices (record { map = map; residue = residue })
  is_sampled choices map residue s =
      let made = class.trees.only s.prefix s.word s.rest s.valid s.is_made in
      let alike = anew_alike s.word s.free s.closed.turned s.old_plant made.blossoming s.closed.is_anew in
      let balanced = anew_balances s.word s.free s.closed.turned s.old_plant made.blossoming s.closed.is_anew in
      let rooted = canonical_closure_is_rooted s.closed.turned map alike.blossoming balanced s.closed.is_closed in
      let low = subst (λ (n : ℕ). s.old_plant < n) (profile_leaves pairs class.profile s.word made.blossoming made.nodes) (old_plant_few s.word s.free s.closed.turned s.old_plant made.blossoming s.closed.is_anew) in
      record {
        valid = subst (λ (cs : List ℕ). IsValidList cs (prefixes ++ 2 ∷ [])) (sym s.choices_are) (valid_push s.prefix prefixes s.free 2 s.valid s.few);
        given = s;
        rooted = rooted;
        canonical = s.closed.is_closed.is_canonical.is_canonical;
        in_class = (class.maps map rooted).1 (closure_has pairs class.profile s.closed.turned map alike.blossoming balanced (nodes_alike s.word s.closed.turned pairs alike made.nodes) s.closed.is_closed);
        valid_residue = subst (λ (r : List ℕ). IsValidList r residues) (sym s.residue_is) (class.joins.whole s.rest s.old_plant made.valid low);
      }

  -- the prefix and the last of valid choices
  pub choices_sampled : (choices : List ℕ) (map : RotationSystem) (residue word rest : List ℕ) (old_plant : ℕ) → IsValidList choices (prefixes ++ 2 ∷ []) → makes (take (length choices - 1) choices) word rest
      → IsClosedAnew word (slice_index choices (length choices - 1)) map old_plant → residue ≡ joined rest old_plant
      → IsSampled (prefixes ++ 2 ∷ []) residues has (SamplesByTree prefixes makes joined choices) choices (record { map = map; residue = residue })
  choices_sampled choices map residue word rest old_plant valid made closed e =
      let p = valid_last choices prefixes 2 valid in
      let parts = parts_are choices p.prefix p.last p.whole in
      is_sampled choices map residue (record {
        prefix = p.prefix;
        free = p.last;
        choices_are = p.whole;
        valid = p.valid;
        few = p.low;
        word = word;
        rest = rest;
        is_made = subst (λ (prefix : List ℕ). makes prefix word rest) parts.0 made;
        old_plant = old_plant;
        closed = subst (λ (free : ℕ). IsClosedAnew word free map old_plant) parts.1 closed;
        residue_is = e;
      })

  -- and where its darts have any names
  pub unnamed_sampled : (choices : List ℕ) (map : RotationSystem) (residue word rest : List ℕ) (old_plant : ℕ) → IsValidList choices (prefixes ++ 2 ∷ []) → makes (take (length choices - 1) choices) word rest
      → IsClosedUnnamed word (slice_index choices (length choices - 1)) map old_plant → residue ≡ joined rest old_plant
      → IsSampledUnnamed (prefixes ++ 2 ∷ []) residues has (SamplesByTree prefixes makes joined choices) choices (record { map = map; residue = residue })
  unnamed_sampled choices map residue word rest old_plant valid made closed e =
      let named : (canonical : RotationSystem) × IsCanonicalOf map canonical = canonical_map_exists map closed.rooted in
      record {
        rooted = closed.rooted;
        canonical = named.0;
        is_canonical = named.1;
        sampled = choices_sampled choices named.0 residue word rest old_plant valid made (record {
          turned = closed.turned;
          is_anew = closed.is_anew;
          is_closed = record { closure = map; is_closure = closed.is_closed; is_canonical = named.1 };
        }) e;
      }

  pub map_degrees : (map : RotationSystem) → IsRootedMap map → has map → AllAdmitted (structure_of map) (EvenUpTo MAX_DEGREE)
  map_degrees map rooted member = profile_degrees pairs map class.profile rooted ((class.maps map rooted).0 member)

  -- the old plant is a leaf of the opening
  pub old_plant_low : (map : RotationSystem) (residue : List ℕ) → IsRootedMap map → has map → (r : HasParts rests (suc (leaves_of_profile pairs)) joined residue) → (opening : List ℕ) → IsOpening map opening → r.old_plant < leaves opening
  old_plant_low map residue rooted member r opening o = let low = r.low in let many = opening_leaves pairs map class.profile rooted ((class.maps map rooted).0 member) opening o in omega (arith, low, many)

  each_list : (choices : List ℕ) → IsValidList choices (prefixes ++ 2 ∷ []) → Gives (SamplesByTree prefixes makes joined) choices
  each_list choices valid =
      let p = valid_last choices prefixes 2 valid in
      let made = class.trees.each_prefix p.prefix p.valid in
      let closed = closed_anew made.word p.last (class.trees.only p.prefix made.word made.rest p.valid made.is_made).blossoming p.low in
      record {
        map = closed.map;
        residue = joined made.rest closed.old_plant;
        given = record {
          prefix = p.prefix;
          free = p.last;
          choices_are = p.whole;
          valid = p.valid;
          few = p.low;
          word = made.word;
          rest = made.rest;
          is_made = made.is_made;
          old_plant = closed.old_plant;
          closed = closed.is;
          residue_is = refl;
        };
      }

  -- a tree that gives a map, and its prefix, are choices of it
  pub choices_of_map : (map : RotationSystem) (residue rest : List ℕ) (old_plant : ℕ) (word : List ℕ) (free : ℕ) (prefix choices : List ℕ) → IsRootedMap map → residue ≡ joined rest old_plant → IsUnplanted map old_plant word free
      → IsPrefixOf prefixes makes prefix word rest → choices ≡ prefix ++ free ∷ [] → AreChoicesOf (prefixes ++ 2 ∷ []) (SamplesByTree prefixes makes joined) map residue choices
  choices_of_map map residue rest old_plant word free prefix choices rooted parts u f e =
      let named : (canonical : RotationSystem) × IsCanonicalOf map canonical = canonical_map_exists map rooted in
      record {
        canonical = named.0;
        is_canonical = named.1;
        valid = subst (λ (cs : List ℕ). IsValidList cs (prefixes ++ 2 ∷ [])) (sym e) (valid_push prefix prefixes free 2 f.valid u.few);
        given = record {
          prefix = prefix;
          free = free;
          choices_are = e;
          valid = f.valid;
          few = u.few;
          word = word;
          rest = rest;
          is_made = f.is_made;
          old_plant = old_plant;
          closed = record { turned = u.turned; is_anew = u.is_anew; is_closed = unplanted_closes map named.0 old_plant word free rooted named.1 u };
          residue_is = parts;
        };
      }

  -- what the tree that is unplanted of a map has
  pub unplanted_is_made : (map : RotationSystem) (rest : List ℕ) (old_plant : ℕ) (word : List ℕ) (free : ℕ) → IsRootedMap map → has map → IsValidList rest rests → IsUnplanted map old_plant word free → IsMade pairs rests word rest
  unplanted_is_made map rest old_plant word free rooted member valid u = record {
    blossoming = u.blossoming;
    nodes = nodes_of_map pairs (structure_of map) word ((class.maps map rooted).0 member).degrees (unplanted_degrees map old_plant word free rooted u);
    valid = valid;
  }

  -- each map of the class comes with each valid residue from some list
  each_pair : (map : RotationSystem) (residue : List ℕ) → IsMember has map → IsValidList residue residues → IsGiven (SamplesByTree prefixes makes joined) map residue
  each_pair map residue member valid =
      let r = class.joins.parts residue valid in
      let e = (class.maps map member.rooted).0 member.in_class in
      let u = anew_exists map r.old_plant member.rooted (profile_darts pairs map class.profile e) (map_degrees map member.rooted member.in_class) (old_plant_low map residue member.rooted member.in_class r) in
      let f = class.trees.each_tree u.word r.rest (unplanted_is_made map r.rest r.old_plant u.word u.free member.rooted member.in_class r.valid u.is) in
      record {
        choices = f.prefix ++ u.free ∷ [];
        given = record {
          prefix = f.prefix;
          free = u.free;
          choices_are = refl;
          valid = f.is.valid;
          few = u.is.few;
          word = u.word;
          rest = r.rest;
          is_made = f.is.is_made;
          old_plant = r.old_plant;
          closed = record { turned = u.is.turned; is_anew = u.is.is_anew; is_closed = canonical_closes map r.old_plant u.word u.free member.rooted member.canonical u.is };
          residue_is = r.whole;
        };
      }

  one_sample : HasOneSample (SamplesByTree prefixes makes joined)
  one_sample choices map other residue rest x y =
      let same = same_push x.prefix y.prefix x.free y.free (sym x.choices_are ∙ y.choices_are) in
      let made = class.trees.one_tree x.prefix x.word y.word x.rest y.rest x.valid x.is_made (subst (λ (f : List ℕ). makes f y.word y.rest) (sym same.lists) y.is_made) in
      let anew : IsPlantedAnew y.word x.free y.closed.turned y.old_plant = subst (λ (b : ℕ). IsPlantedAnew y.word b y.closed.turned y.old_plant) (sym same.last) y.closed.is_anew in
      let closed = closed_anew_once x.word y.word x.free x.closed.turned y.closed.turned x.old_plant y.old_plant map other (class.trees.only x.prefix x.word x.rest x.valid x.is_made).blossoming (sym made.0)
      x.closed.is_anew anew x.closed.is_closed y.closed.is_closed in
      (closed.0, x.residue_is ∙ ap₂ joined made.1 closed.1 ∙ sym y.residue_is)

  one_list : HasOneList (SamplesByTree prefixes makes joined)
  one_list one other map residue x y =
      let told = class.joins.once x.rest y.rest x.old_plant y.old_plant (sym x.residue_is ∙ y.residue_is) in
      let tree : IsBlossoming x.word = (class.trees.only x.prefix x.word x.rest x.valid x.is_made).blossoming in
      let other_tree : IsBlossoming y.word = (class.trees.only y.prefix y.word y.rest y.valid y.is_made).blossoming in
      let anew : IsPlantedAnew y.word y.free y.closed.turned x.old_plant = subst (IsPlantedAnew y.word y.free y.closed.turned) (sym told.1) y.closed.is_anew in
      let once = anew_is_once x.word y.word x.closed.turned y.closed.turned x.free y.free x.old_plant map tree other_tree x.closed.is_anew anew x.closed.is_closed y.closed.is_closed in
      let made : makes y.prefix x.word x.rest = subst (λ (w : List ℕ). makes y.prefix w x.rest) (sym once.0) (subst (makes y.prefix y.word) (sym told.0) y.is_made) in
      x.choices_are ∙ ap₂ (λ (f : List ℕ) (b : ℕ). f ++ b ∷ []) (class.trees.one_prefix x.prefix y.prefix x.word x.rest x.valid y.valid x.is_made made) once.1 ∙ sym y.choices_are

  pub tree_one_to_one : AreOneToOne (prefixes ++ 2 ∷ []) residues has (SamplesByTree prefixes makes joined)
  tree_one_to_one = record {
    only = λ choices map residue s.
        let i = is_sampled choices map residue s in
        record { valid = i.valid; member = record { rooted = i.rooted; canonical = i.canonical; in_class = i.in_class }; valid_residue = i.valid_residue };
    each_list = each_list;
    each_pair = each_pair;
    one_sample = one_sample;
    one_list = one_list;
  }
