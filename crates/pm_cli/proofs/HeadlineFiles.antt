-- The files of the headline: what `sample` and `unsample` answer to those of a valid list and of a pair of the class, and that
-- what has an answer is such a file.
use Rattle.std.proofs.Common.{◌≡◌, ℕ, ◌≤◌, List, ◌++◌, ◌∷◌, [], length, refl, ap, subst, arith}
use Rattle.std.specs.Prelude.{codes, Some, Result, Ok, Err, ⊤}
use Rattle.pm_limits.specs.declared.TheConstants.{MAX_EDGES}
use Rattle.pm_io.specs.declared.TheConstants.{MAX_BYTES}
use Rattle.pm_text.specs.Broken.{newline}
use Rattle.pm_lists.specs.ListLine.{AreWords, list_line}
use Rattle.pm_lists.specs.Valid.{IsValidList}
use Rattle.pm_lists.proofs.ValidWords.{valid_are_words}
use Rattle.pm_map.specs.Rotation.{RotationSystem, IsRootedMap}
use Rattle.pm_mapfile.proofs.CanonicalTexts.{canonical_has_text}
use Rattle.pm_mapfile.proofs.FileLimits.{within_limit}
use Rattle.pm_mapfile.proofs.TextLengths.{sample_file_few, choices_file_few}
use Rattle.pm_class.specs.declared.sample.UnsampleRefusal.{UnsampleRefusal}
use Rattle.pm_class.specs.declared.sample.UnsampleRefusal.TheVariants as pair
use Rattle.pm_class.specs.Unsampling.{IsUnsampling}
use Rattle.pm_cli.specs.declared.refusal.Refusal.{Refusal}
use Rattle.pm_cli.specs.Classes.{Sampler, AtSize, at_size, InClass, in_class}
use Rattle.pm_cli.specs.Headline.{IsListFile, IsPairFile, IsTextOfGiven, IsTextOfGiving}
use Rattle.pm_cli.specs.Sampling.{Samples, sampled, no_list, not_valid}
use Rattle.pm_cli.specs.Unsampling.{HasPair, HasUnsampledText, rule_of_pair, Unsamples, unsampled, no_map, refused}
use Rattle.pm_cli.specs.steps.ClassLaws.{IsSampler, IsAtSize}
use Rattle.pm_cli.proofs.MapRelations.{rooted_map, same_why, value_or_why}
use Rattle.pm_cli.proofs.OneSampling.{valid_or_refused}
use Rattle.pm_cli.proofs.OneUnsampling.{not_both, one_pair, one_size, not_wrong}

-- a class at one size
module _ (at : AtSize) (laws : IsAtSize at) where
  -- a valid list has numbers of 64 bits
  list_fits : (choices bytes : List ℕ) → IsListFile at choices bytes → AreWords choices
  list_fits choices bytes file = let limits = laws.limits in valid_are_words choices at.choice_limits file.valid limits.choices_fit

  -- so its file isn't too long
  pub list_file_few : (choices bytes : List ℕ) → IsListFile at choices bytes → length bytes ≤ MAX_BYTES
  list_file_few choices bytes file =
      let limits = laws.limits in
      let few = limits.few_choices in
      let valid = file.valid in
      omega (arith, ap length file.spelled, choices_file_few choices (omega (arith, few, valid.as_long)) (list_fits choices bytes file))

  -- nor is that of a pair
  pub pair_file_few : (map : RotationSystem) (residue bytes : List ℕ) → IsPairFile at map residue bytes → length bytes ≤ MAX_BYTES
  pair_file_few map residue bytes file =
      let limits = laws.limits in
      let few = limits.few_residues in
      omega (arith, few, sample_file_few bytes at.residue_limits residue MAX_EDGES map (omega arith) file.is_file file.valid limits.low_residues)

  -- a valid list has a text that is sampled of it
  pub record IsSampledText (choices bytes : List ℕ) : Type 0 where
    pub text : List ℕ
    pub sampled : Samples at bytes (Ok text)
    pub is : IsTextOfGiven at choices text

  pub list_sampled : (choices bytes : List ℕ) → IsListFile at choices bytes → IsSampledText choices bytes
  list_sampled choices bytes file =
      let one = laws.one_to_one in
      let given = one.each_list choices file.valid in
      let of = one.only choices given.map given.residue given.given in
      let member = of.member in
      let map_text = canonical_has_text given.map member.canonical in
      let text : List ℕ = map_text.0 ++ list_line (codes "residue") given.residue ++ newline ∷ [] in
      record {
        text = text;
        sampled = sampled text (record {
          choices = choices;
          spelled = record { fit = list_fits choices bytes file; spelled = file.spelled };
          holds = record { map = given.map; residue = given.residue; sampled = given.given; is_text = record { map_text = map_text.0; is_map_text = map_text.1; whole = refl } };
        });
        is = record {
          map = given.map;
          residue = given.residue;
          given = given.given;
          rooted = member.rooted;
          canonical = member.canonical;
          in_class = member.in_class;
          valid = of.valid_residue;
          is_text = record { map_text = map_text.0; is_map_text = map_text.1; whole = refl };
        };
      }

  -- bytes of which a text is sampled are the file of a valid list
  pub sampled_list : (bytes text : List ℕ) (answer : Result (List ℕ) Refusal) → Samples at bytes answer → answer ≡ Ok text → (choices : List ℕ) × IsListFile at choices bytes
  sampled_list bytes text _ (sampled other x) e =
      let one = laws.one_to_one in
      let given = x.holds in
      let of = one.only x.choices given.map given.residue given.sampled in
      let line = x.spelled in
      (x.choices, record { valid = of.valid; spelled = line.spelled })
  sampled_list bytes text _ (no_list line x) e = cc
  sampled_list bytes text _ (not_valid refusal x) e = cc

-- the bytes are the file of some pair
pub record HasPairFile (at : AtSize) (bytes : List ℕ) : Type 0 where
  pub map : RotationSystem
  pub residue : List ℕ
  pub is : IsPairFile at map residue bytes

-- what is answered is a text of this kind
abbrev pub IsTextWhere : (List ℕ → Type 0) → Result (List ℕ) Refusal → Type 0
IsTextWhere is_text (Ok text) = is_text text
IsTextWhere is_text (Err refusal) = ⊥

-- a class by its laws, with a map of it
module _ (S : Sampler) (laws : IsSampler S) where
  -- bytes of which a text is unsampled are the file of a pair, at some size
  pub unsampled_file : (bytes text : List ℕ) → HasPair bytes S.most_edges (λ map residue. HasUnsampledText (IsUnsampling S.choice_limits S.residue_limits S.samples S.answers map residue) text)
      → (size : S.Measure) × HasPairFile (at_size S size) bytes
  unsampled_file bytes text x =
      let given = x.holds in
      let is = given.unsampled in
      let rooted = rooted_map bytes S.most_edges (Some x.residue) x.map x.answered in
      let member = (laws.sized x.map is.size rooted).0 is.in_class in (
        is.size,
        record {
          map = x.map;
          residue = x.residue;
          is = record { admissible = member.0; is_file = within_limit bytes S.most_edges MAX_EDGES (Some x.residue) x.map rooted.few x.answered; in_class = member.1; valid = is.valid_residue };
        },
      )

  -- a pair at a size
  module _ (size : S.Measure) (map : RotationSystem) (residue bytes : List ℕ) (file : IsPairFile (at_size S size) map residue bytes) where
    rooted : IsRootedMap map
    rooted = rooted_map bytes MAX_EDGES (Some residue) map file.is_file

    answered : S.answers map (Ok size)
    answered = (laws.sized map size rooted).1 (file.admissible, file.in_class)

    -- the file, within the limit of the class
    abbrev of_class : HasPair bytes S.most_edges (λ m r. ⊤)
    of_class =
        let most = laws.most_edges in
        record { residue = residue; map = map; answered = within_limit bytes MAX_EDGES S.most_edges (Some residue) map (most.within size map file.admissible rooted file.in_class) file.is_file; holds = tt }

    -- it isn't refused for its map or its residue
    no_reason : (why : UnsampleRefusal) (refusal : Refusal) → IsUnsampling S.choice_limits S.residue_limits S.samples S.answers map residue (Err why) → rule_of_pair why ≡ Some refusal → ⊥
    no_reason (pair.Class why) told x rule = value_or_why (laws.one_answer map (Ok size) (Err why) rooted answered x.0 (λ e. value_or_why e) (λ e. x.1 (same_why e)))
    no_reason (pair.List refusal) told x rule = valid_or_refused residue (S.residue_limits size) refusal file.valid (not_wrong S laws map residue size refusal rooted answered x)
    no_reason pair.Memory told x rule = cc

    -- a text that is unsampled of it spells a valid list that gives the pair
    giving : (text : List ℕ) → HasUnsampledText (IsUnsampling S.choice_limits S.residue_limits S.samples S.answers map residue) text → IsTextOfGiving (at_size S size) map residue text
    giving text x =
        let is = x.unsampled in
        let same = one_size S laws map is.size size rooted is.in_class answered in
        let line = x.is_text in
        record {
          choices = x.choices;
          is_list = record { valid = subst (λ (s : S.Measure). IsValidList x.choices (S.choice_limits s)) same is.valid; spelled = line.spelled };
          canonical = is.canonical;
          is_canonical = is.is_canonical;
          given = subst (λ (s : S.Measure). S.samples s x.choices is.canonical residue) same is.given;
        }

    pub pair_unsampled : (answer : Result (List ℕ) Refusal) → Unsamples (in_class S) bytes answer → IsTextWhere (IsTextOfGiving (at_size S size) map residue) answer
    pair_unsampled _ (unsampled text x) =
        let at : InClass = in_class S in
        let same = one_pair S.most_edges (λ m r. HasUnsampledText (at.unsamples m r) text) (λ m r. ⊤) bytes x of_class in
        giving text same.holds
    pair_unsampled _ (no_map refusal x) = not_both S.most_edges (λ m r. ⊤) bytes refusal of_class x
    pair_unsampled _ (refused refusal why rule x) =
        let at : InClass = in_class S in
        let same = one_pair S.most_edges (λ m r. at.unsamples m r (Err why)) (λ m r. ⊤) bytes x of_class in
        no_reason why refusal same.holds rule
