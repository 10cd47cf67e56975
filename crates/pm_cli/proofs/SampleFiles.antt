-- What `sample` answers is read again: `unsample` gives back the choices, and `check` tells the numbers of the map.
use Rattle.std.proofs.Common.{◌≡◌, ℕ, ◌*◌, ◌≤◌, List, [], ◌∷◌, ◌++◌, length, refl, sym, ◌∙◌, subst, append_assoc, arith}
use Rattle.std.specs.Prelude.{codes, Some, Result, Ok}
use Rattle.pm_io.specs.declared.TheConstants.{MAX_BYTES}
use Rattle.pm_limits.specs.declared.TheConstants.{MAX_EDGES}
use Rattle.pm_text.specs.Broken.{newline}
use Rattle.pm_lists.specs.ListLine.{list_line}
use Rattle.pm_lists.proofs.ValidWords.{valid_are_words}
use Rattle.pm_map.specs.Rotation.{RotationSystem, structure_of}
use Rattle.pm_map.proofs.SameMaps.{same_as_itself}
use Rattle.pm_class.specs.OneToOne.{AreOfClass}
use Rattle.pm_mapfile.specs.Answers.{AnswersFile}
use Rattle.pm_mapfile.proofs.ReadAgainLemmas.{map_file_is_read_again}
use Rattle.pm_mapfile.proofs.TextLengths.{sample_file_few}
use Rattle.pm_cli.specs.declared.class.Size.{Size}
use Rattle.pm_cli.specs.declared.refusal.Refusal.{Refusal}
use Rattle.pm_cli.specs.Answer.{AnswersReader}
use Rattle.pm_cli.specs.Classes.{Sampler, AtSize, at_size, sized, IsSize, in_class}
use Rattle.pm_cli.specs.Laws.{IsCounted, SampledListsReturn, SampledMapsAreCounted}
use Rattle.pm_cli.specs.MapAnswers.{AnswersMap, told}
use Rattle.pm_cli.specs.Sampling.{IsChoicesLine, HasChoices, IsSampleText, Samples, sampled, no_list, not_valid}
use Rattle.pm_cli.specs.Unsampling.{Unsamples, unsampled}
use Rattle.pm_cli.specs.steps.ClassLaws.{IsSampler}
use Rattle.pm_cli.proofs.ClassLaws.{AreSamplers, by_size}
use Rattle.pm_cli.proofs.MapRelations.{same_value}

samples_text : (at : AtSize) (bytes text : List ℕ) (answer : Result (List ℕ) Refusal) → Samples at bytes answer → answer ≡ Ok text → HasChoices bytes (λ choices. IsSampleText at.samples choices text)
samples_text at bytes text _ (sampled other h) e = subst (λ (t : List ℕ). HasChoices bytes (λ choices. IsSampleText at.samples choices t)) (same_value e) h
samples_text at bytes text _ (no_list line h) e = cc
samples_text at bytes text _ (not_valid refusal h) e = cc

-- choices, and the map and the residue that they give, as the text of a sample spells them
record IsSampleOf (S : Sampler) (size : S.Measure) (bytes text : List ℕ) : Type 0 where
  choices : List ℕ
  spelled : IsChoicesLine choices bytes
  map : RotationSystem
  residue : List ℕ
  given : S.samples size choices map residue
  of_class : AreOfClass (S.choice_limits size) (S.residue_limits size) (S.has size) choices map residue
  file : (limit : ℕ) → length map.sigma ≤ 2 * limit → AnswersFile text limit (Some residue) (Ok map)

module _ (S : Sampler) (laws : IsSampler S) (size : S.Measure) (is : S.is_size size) (bytes text : List ℕ) where
  read_sample : Samples (at_size S size) bytes (Ok text) → IsSampleOf S size bytes text
  read_sample samples =
      let x = samples_text (at_size S size) bytes text (Ok text) samples refl in
      let of = x.holds in
      let only = (laws.one_to_one size is).only x.choices of.map of.residue of.sampled in
      let low = (laws.limits size is).low_residues in
      let is_text = of.is_text in
      record {
        choices = x.choices;
        spelled = x.spelled;
        map = of.map;
        residue = of.residue;
        given = of.sampled;
        of_class = only;
        file = λ limit few.
            subst (λ (file : List ℕ). AnswersFile file limit (Some of.residue) (Ok of.map)) (sym (append_assoc is_text.map_text (list_line (codes "residue") of.residue) (newline ∷ [])) ∙ sym is_text.whole)
            (map_file_is_read_again of.map limit is_text.map_text (list_line (codes "residue") of.residue ++ newline ∷ []) (Some of.residue) only.member.rooted few is_text.is_map_text (record {
              fit = valid_are_words of.residue (S.residue_limits size) only.valid_residue (record { each = λ k d h. omega (arith, low k d h) });
              spelled = refl;
            }));
      }

  -- the map has no more edges than those of the class have
  within_class : (x : IsSampleOf S size bytes text) → AnswersFile text S.most_edges (Some x.residue) (Ok x.map)
  within_class x = let member = x.of_class.member in x.file S.most_edges (laws.most_edges.within size x.map is member.rooted member.in_class)

  unsampled_again : Samples (at_size S size) bytes (Ok text) → Unsamples (in_class S) text (Ok bytes)
  unsampled_again samples =
      let x = read_sample samples in
      let member = x.of_class.member in
      unsampled bytes (record {
        residue = x.residue;
        map = x.map;
        answered = within_class x;
        holds = record {
          choices = x.choices;
          unsampled = record {
            size = size;
            in_class = (laws.sized x.map size member.rooted).1 (is, member.in_class);
            valid_residue = x.of_class.valid_residue;
            canonical = x.map;
            is_canonical = record { is_canonical = member.canonical; is_same = same_as_itself (structure_of x.map) };
            valid = x.of_class.valid;
            given = x.given;
          };
          is_text = x.spelled;
        };
      })

  counted_again : Samples (at_size S size) bytes (Ok text) → HasChoices bytes (λ choices. IsCounted (S.samples size choices) (λ line. AnswersMap (in_class S).counts text (Ok line)))
  counted_again samples =
      let x = read_sample samples in
      let member = x.of_class.member in
      record {
        choices = x.choices;
        spelled = x.spelled;
        holds = record {
          map = x.map;
          residue = x.residue;
          sampled = x.given;
          counted = told _ (record {
            residue = Some x.residue;
            map = x.map;
            answered = within_class x;
            holds = ((size, (laws.sized x.map size member.rooted).1 (is, member.in_class)), refl);
          });
        };
      }

  within : Samples (at_size S size) bytes (Ok text) → length text ≤ MAX_BYTES
  within samples =
      let x = read_sample samples in
      let limits = laws.limits size is in
      omega (
        arith,
        limits.few_residues,
        sample_file_few text (S.residue_limits size) x.residue MAX_EDGES x.map (omega arith) (x.file MAX_EDGES x.of_class.member.rooted.few) x.of_class.valid_residue limits.low_residues,
      )

pub sampled_lists_return : AreSamplers → SampledListsReturn AnswersReader
sampled_lists_return laws size bytes text is samples =
    by_size (λ class at. Samples at bytes (Ok text) → Unsamples class text (Ok bytes)) (λ S of measure fits. unsampled_again S of measure fits bytes text) laws size is samples

pub sampled_maps_are_counted : AreSamplers → SampledMapsAreCounted AnswersReader
sampled_maps_are_counted laws size bytes text is samples =
    by_size (λ class at. Samples at bytes (Ok text) → HasChoices bytes (λ choices. IsCounted (at.samples choices) (λ line. AnswersMap class.counts text (Ok line))))
    (λ S of measure fits. counted_again S of measure fits bytes text) laws size is samples

-- the text of a sample is within the limit of bytes
pub sample_within : AreSamplers → (size : Size) (bytes text : List ℕ) → IsSize size → Samples (sized size) bytes (Ok text) → length text ≤ MAX_BYTES
sample_within laws size bytes text is samples =
    by_size (λ class at. Samples at bytes (Ok text) → length text ≤ MAX_BYTES) (λ S of measure fits. within S of measure fits bytes text) laws size is samples
