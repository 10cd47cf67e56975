-- Sampling undoes unsampling up to the names of darts.
use Rattle.std.proofs.Common.{◌≡◌, ℕ, ◌*◌, ◌+◌, ◌≤◌, List, [], ◌∷◌, ◌++◌, length, refl, sym, ap, ◌∙◌, subst, append_assoc, arith}
use Rattle.std.specs.Prelude.{codes, Some, Result, Ok}
use Rattle.pm_io.specs.declared.TheConstants.{MAX_BYTES}
use Rattle.pm_limits.specs.declared.TheConstants.{MAX_EDGES}
use Rattle.pm_text.specs.Broken.{newline}
use Rattle.pm_lists.specs.ListLine.{list_line}
use Rattle.pm_map.specs.Rotation.{RotationSystem, IsRootedMap}
use Rattle.pm_map.specs.Canonical.{IsCanonicalOf}
use Rattle.pm_map.proofs.UniqueCanonical.{canonical_map_is_unique}
use Rattle.pm_class.specs.Unsampling.{IsUnsampled}
use Rattle.pm_mapfile.specs.MapFile.{lines_text}
use Rattle.pm_mapfile.specs.MapText.{IsMapText}
use Rattle.pm_mapfile.proofs.FileLimits.{within_limit}
use Rattle.pm_mapfile.proofs.TextLengths.{choices_file_few}
use Rattle.pm_cli.specs.declared.class.Class.{Class}
use Rattle.pm_cli.specs.declared.refusal.Refusal.{Refusal}
use Rattle.pm_cli.specs.Answer.{AnswersReader}
use Rattle.pm_cli.specs.Classes.{InClass, class_at, AtSize, Sampler, sampler_of}
use Rattle.pm_cli.specs.Laws.{UnsampledPairsReturn}
use Rattle.pm_cli.specs.MapAnswers.{HasMap, HasCanonicalText}
use Rattle.pm_cli.specs.Sampling.{sampled}
use Rattle.pm_cli.specs.Unsampling.{HasPair, HasUnsampledText, Unsamples, unsampled, no_map, refused}
use Rattle.pm_cli.specs.steps.ClassLaws.{IsSampler}
use Rattle.pm_cli.proofs.ClassLaws.{AreSamplers, HasSize, of_measure}
use Rattle.pm_cli.proofs.MapRelations.{one_map, rooted_map, same_value}
use Rattle.pm_cli.proofs.OpenedAgain.{canon_map}

-- a pair that was unsampled, sampled again: at the size of the map the choices give its canonical map, and the residue
record IsGivenBack (map : RotationSystem) (residue choices : List ℕ) (at : AtSize) : Type 0 where
  admissible : at.is_size
  has : at.has map
  few : length choices ≤ 2 * MAX_EDGES + 2
  canonical : RotationSystem
  is_canonical : IsCanonicalOf map canonical
  given : at.samples choices canonical residue

given_back : AreSamplers → (c : Class) (map : RotationSystem) (residue choices : List ℕ) → IsRootedMap map → (let at : InClass = class_at c in at.unsamples map residue (Ok choices))
    → HasSize c (IsGivenBack map residue choices)
given_back laws c map residue choices rooted is =
    let S : Sampler = sampler_of c in
    let of : IsSampler S = laws c in
    let unsampling : IsUnsampled S.choice_limits S.residue_limits S.samples S.answers map residue choices = is in
    let sized = (of.sized map unsampling.size rooted).0 unsampling.in_class in
    let limits = of.limits unsampling.size sized.0 in
    of_measure c (IsGivenBack map residue choices) unsampling.size (record {
      admissible = sized.0;
      has = sized.1;
      few = omega (arith, unsampling.valid.as_long, limits.few_choices);
      canonical = unsampling.canonical;
      is_canonical = unsampling.is_canonical;
      given = unsampling.given;
    })

pub unsampled_pair : (at : InClass) (bytes text : List ℕ) (answer : Result (List ℕ) Refusal) → Unsamples at bytes answer → answer ≡ Ok text
    → HasPair bytes at.most_edges (λ map residue. HasUnsampledText (at.unsamples map residue) text)
unsampled_pair at bytes text _ (unsampled other h) e = subst (λ (t : List ℕ). HasPair bytes at.most_edges (λ map residue. HasUnsampledText (at.unsamples map residue) t)) (same_value e) h
unsampled_pair at bytes text _ (no_map refusal h) e = cc
unsampled_pair at bytes text _ (refused refusal why rule h) e = cc

-- the file of the choices is within the limit of bytes
pub unsampled_within : AreSamplers → (c : Class) (bytes text : List ℕ) → Unsamples (class_at c) bytes (Ok text) → length text ≤ MAX_BYTES
unsampled_within laws c bytes text unsamples =
    let at : InClass = class_at c in
    let x = unsampled_pair at bytes text (Ok text) unsamples refl in
    let pair = x.holds in
    let is = given_back laws c x.map x.residue pair.choices (rooted_map bytes at.most_edges (Some x.residue) x.map x.answered) pair.unsampled in
    let given = is.holds in
    omega (arith, ap length pair.is_text.spelled, choices_file_few pair.choices given.few pair.is_text.fit)

pub sampled_again : AreSamplers → UnsampledPairsReturn AnswersReader
sampled_again laws c bytes text canonical unsamples canonizes =
    let at : InClass = class_at c in
    let y = canon_map bytes canonical canonizes in
    let of : RotationSystem → List ℕ → Type 0 = λ m residue. HasUnsampledText (at.unsamples m residue) text in
    let x = unsampled_pair at bytes text (Ok text) unsamples refl in
    let residue : List ℕ = x.residue in
    let few = (rooted_map bytes at.most_edges (Some residue) x.map x.answered).few in
    let wide = within_limit bytes at.most_edges MAX_EDGES (Some residue) x.map few x.answered in
    let pair_of : HasMap bytes MAX_EDGES (λ m. of m residue) = record { residue = Some residue; map = x.map; answered = wide; holds = x.holds } in
    let same = one_map MAX_EDGES (λ m. of m residue) (λ m. HasCanonicalText m canonical) bytes pair_of y in
    let rooted = subst IsRootedMap (sym same.0) same.1 in
    let has : HasCanonicalText x.map canonical = subst (λ (m : RotationSystem). HasCanonicalText m canonical) (sym same.0) y.holds in
    let pair = x.holds in
    let back = given_back laws c x.map residue pair.choices rooted pair.unsampled in
    let is = back.holds in
    let one = canonical_map_is_unique x.map has.canonical is.canonical rooted has.is_canonical is.is_canonical in
    let file = x.answered in
    record {
      size = back.size;
      is_of = back.is_of;
      admissible = is.admissible;
      of_map = record { residue = Some residue; map = x.map; answered = wide; holds = is.has };
      prefix = lines_text file.lines;
      line = file.rest;
      is_line = (residue, file.is_residue);
      ends_so = file.spelled;
      sampled = sampled (canonical ++ file.rest) (record {
        choices = pair.choices;
        spelled = pair.is_text;
        holds = record {
          map = is.canonical;
          residue = residue;
          sampled = is.given;
          is_text = record {
            map_text = canonical;
            is_map_text = subst (λ (m : RotationSystem). IsMapText m canonical) one has.is_text;
            whole = ap (λ (line : List ℕ). canonical ++ line) file.is_residue.spelled ∙ sym (append_assoc canonical (list_line (codes "residue") residue) (newline ∷ []));
          };
        };
      });
    }
