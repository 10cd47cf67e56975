-- No file of choices and no size are without an answer.
use Rattle.std.proofs.Common.{ℕ, ◌<◌, ◌≤◌, inl, inr, List, [], ◌∷◌, ◌++◌, length, refl, arith}
use Rattle.std.specs.Prelude.{codes, slice_index, Ok, Err}
use Rattle.std.proofs.lemmas.Bool.{cases_eq, cases_lt}
use Rattle.pm_perm.proofs.LeastCases.{all_or_least}
use Rattle.pm_text.specs.Broken.{newline}
use Rattle.pm_lists.specs.declared.check.ListRefusal.{ListRefusal}
use Rattle.pm_lists.specs.declared.check.ListRefusal.TheVariants as list
use Rattle.pm_lists.specs.ListLine.{list_line}
use Rattle.pm_lists.specs.Refusal.{IsRefusalOf}
use Rattle.pm_lists.specs.Valid.{IsValidList}
use Rattle.pm_class.proofs.OneToOneLemmas.{each_is_sampled}
use Rattle.pm_mapfile.proofs.CanonicalTexts.{canonical_has_text}
use Rattle.pm_mapfile.proofs.SomeAnswer.{valid_or_broken}
use Rattle.pm_draw.specs.Drawn.{generator_of, words_of}
use Rattle.pm_draw.proofs.ValidDraws.{generator_gives_words, drawn_is_valid}
use Rattle.pm_cli.specs.declared.refusal.Refusal.TheVariants.{Text, Invalid}
use Rattle.pm_cli.specs.Classes.{AtSize}
use Rattle.pm_cli.specs.Drawing.{Draws}
use Rattle.pm_cli.specs.Laws.{IsAnswered}
use Rattle.pm_cli.specs.MapAnswers.{counts_line}
use Rattle.pm_cli.specs.Records.{AreRecords}
use Rattle.pm_cli.specs.Sampling.{IsChoicesFile, IsSampleText, Samples, sampled, no_list, not_valid}
use Rattle.pm_cli.specs.Trip.{first_drawn, Trips}
use Rattle.pm_cli.specs.steps.ClassLaws.{IsAtSize}
use Rattle.pm_cli.proofs.WholeDrawings.{drawn_records_go_on}

-- a list is valid, or refused for some reason
pub valid_or_refusal : (values bounds : List ℕ) → (IsValidList values bounds → ⊥) → ((refusal : ListRefusal) → IsRefusalOf values bounds refusal → ⊥) → ⊥
valid_or_refusal values bounds valid refused = elim (cases_eq (length values) (length bounds)) [
  | inl same ↦
      all_or_least (λ place. slice_index values place < slice_index bounds place) (length values) (λ all. valid (record { as_long = same; below = all }))
      (λ place is. refused (list.Entry place (slice_index values place) (slice_index bounds place)) (record {
        as_long = same;
        first = record { within = is.within; broken = not_below place is.breaks; before = is.least };
        value_is = refl;
        bound_is = refl;
      }))
  | inr differs ↦ refused (list.Length (length bounds) (length values)) (record { differs = differs; wanted = refl; had = refl })
] where
  not_below : (place : ℕ) → (slice_index values place < slice_index bounds place → ⊥) → slice_index bounds place ≤ slice_index values place
  not_below place breaks = elim (cases_lt (slice_index values place) (slice_index bounds place)) [ inl less ↦ absurd (breaks less) | inr high ↦ high ]

module _ (at : AtSize) (laws : IsAtSize at) where
  -- valid choices give a text
  text_of : (choices : List ℕ) → IsValidList choices at.choice_limits → (text : List ℕ) × IsSampleText at.samples choices text
  text_of choices valid =
      let given = laws.one_to_one.each_list choices valid in
      let only = laws.one_to_one.only choices given.map given.residue given.given in
      let map_text = canonical_has_text given.map only.member.canonical in (
        map_text.0 ++ list_line (codes "residue") given.residue ++ newline ∷ [],
        record { map = given.map; residue = given.residue; sampled = given.given; is_text = record { map_text = map_text.0; is_map_text = map_text.1; whole = refl } },
      )

  pub samples_answered : (bytes : List ℕ) → IsAnswered (Samples at bytes)
  samples_answered bytes told =
      valid_or_broken IsChoicesFile bytes
      (λ file. valid_or_refusal file.0 at.choice_limits (λ valid. let text = text_of file.0 valid in told (Ok text.0) (sampled text.0 (record { choices = file.0; spelled = file.1; holds = text.1 })))
      (λ refusal is. told (Err (Invalid refusal)) (not_valid refusal (record { choices = file.0; spelled = file.1; holds = is }))))
      (λ line broken. told (Err (Text line)) (no_list line broken))

  pub draws_answered : (seed count : ℕ) → IsAnswered (Draws at.choice_limits at.samples seed count)
  unfolding AreRecords
  draws_answered seed count told =
      let limits = laws.limits in
      let drawing = drawn_records_go_on at.choice_limits at.residue_limits at.has at.samples (each_is_sampled at.choice_limits at.residue_limits at.has at.samples laws.one_to_one) limits.choice_bounds limits.choices_fit
      seed 0 count [] (omega arith) refl in
      told (Ok drawing.0) drawing.1

  pub trips_answered : (seed : ℕ) → IsAnswered (Trips at.choice_limits at.samples seed)
  trips_answered seed told =
      let limits = laws.limits in
      let valid : IsValidList (first_drawn at.choice_limits seed) at.choice_limits =
      (drawn_is_valid at.choice_limits (words_of (generator_of seed)) limits.choice_bounds limits.choices_fit (generator_gives_words (generator_of seed))).0 in
      let given = laws.one_to_one.each_list (first_drawn at.choice_limits seed) valid in
      told (Ok (codes "trip " ++ counts_line given.map)) (record { map = given.map; residue = given.residue; sampled = given.given; is_text = refl })
