-- The commands that sample have one answer to a file of choices.
use Rattle.std.proofs.Common.{◌≡◌, ℕ, inl, inr, List, ◌++◌, ◌∷◌, [], sym, ap, ap₂, ◌∙◌, subst, arith}
use Rattle.std.proofs.lemmas.Bool.{cases_order}
use Rattle.std.specs.Prelude.{codes, slice_index, Result, Ok, Err}
use Rattle.pm_text.specs.Broken.{newline, IsBrokenLine}
use Rattle.pm_text.proofs.BrokenLemmas.{valid_has_no_broken_line, broken_line_is_unique}
use Rattle.pm_lists.specs.declared.check.ListRefusal.{ListRefusal}
use Rattle.pm_lists.specs.declared.check.ListRefusal.TheVariants as list
use Rattle.pm_lists.specs.Valid.{IsValidList, IsFirstBroken}
use Rattle.pm_lists.specs.Refusal.{IsRefusalOf}
use Rattle.pm_lists.specs.ListLine.{list_line}
use Rattle.pm_map.specs.Rotation.{RotationSystem}
use Rattle.pm_mapfile.specs.MapText.{IsMapText}
use Rattle.pm_cli.specs.declared.refusal.Refusal.{Refusal}
use Rattle.pm_cli.specs.declared.refusal.Refusal.TheVariants.{Text, Invalid}
use Rattle.pm_draw.specs.Drawn.{generator_of, words_of, drawn}
use Rattle.pm_cli.specs.Drawing.{left_after, IsDrawnRecord, Draws}
use Rattle.pm_class.specs.Sampling.{HasOneSample}
use Rattle.pm_cli.specs.Classes.{AtSize}
use Rattle.pm_cli.specs.MapAnswers.{counts_line}
use Rattle.pm_cli.specs.Sampling.{IsChoicesFile, HasChoices, IsSampleText, Samples, sampled, no_list, not_valid}
use Rattle.pm_cli.specs.Trip.{first_drawn, Trips}
use Rattle.pm_cli.proofs.ChoicesLines.{one_choices}
use Rattle.pm_cli.proofs.OneText.{one_text}
use Rattle.pm_cli.proofs.Records.{records_once}
use Rattle.pm_cli.proofs.WholeDrawings.{one_record}

-- a list is refused for one reason, and a valid one for none
pub valid_or_refused : (values bounds : List ℕ) (refusal : ListRefusal) → IsValidList values bounds → IsRefusalOf values bounds refusal → ⊥
valid_or_refused values bounds (list.Length want have) valid h = h.differs valid.as_long
valid_or_refused values bounds (list.Entry place value bound) valid h = let b = h.first.broken in let v = valid.below place h.first.within in omega arith

pub one_list_refusal : (values bounds : List ℕ) (a b : ListRefusal) → IsRefusalOf values bounds a → IsRefusalOf values bounds b → a ≡ b
one_list_refusal values bounds (list.Length want have) (list.Length want' have') x y = ap₂ list.Length (x.wanted ∙ sym y.wanted) (x.had ∙ sym y.had)
one_list_refusal values bounds (list.Length want have) (list.Entry place value bound) x y = absurd (x.differs y.as_long)
one_list_refusal values bounds (list.Entry place value bound) (list.Length want have) x y = absurd (y.differs x.as_long)
one_list_refusal values bounds (list.Entry p v b) (list.Entry q w c) x y =
    let same : p ≡ q = one_first values bounds p q x.first y.first in
    entries p q v w b c same (x.value_is ∙ ap (slice_index values) same ∙ sym y.value_is) (x.bound_is ∙ ap (slice_index bounds) same ∙ sym y.bound_is) where
      one_first : (values bounds : List ℕ) (p q : ℕ) → IsFirstBroken values bounds p → IsFirstBroken values bounds q → p ≡ q
      one_first values bounds p q x y = elim (cases_order p q) [
        | inl same ↦ same
        | inr differs ↦ elim differs [
          | inl less ↦ absurd (let b = x.broken in let v = y.before p less in omega arith)
          | inr more ↦ absurd (let b = y.broken in let v = x.before q more in omega arith)
        ]
      ]

      entries : (p q v w b c : ℕ) → p ≡ q → v ≡ w → b ≡ c → list.Entry p v b ≡ list.Entry q w c
      entries p q v w b c e f g = cc

-- sampling has one answer, where choices give one map and one residue, and only valid ones do
module _ (at : AtSize) (one : HasOneSample at.samples)
    (valid : (choices : List ℕ) (m : RotationSystem) (r : List ℕ) → at.samples choices m r → IsValidList choices at.choice_limits) where
  one_sample_text : (choices a b : List ℕ) → IsSampleText at.samples choices a → IsSampleText at.samples choices b → a ≡ b
  one_sample_text choices a b x y =
      let same = one choices x.map y.map x.residue y.residue x.sampled y.sampled in
      let map_text = one_text y.map x.is_text.map_text y.is_text.map_text (subst (λ (m : RotationSystem). IsMapText m x.is_text.map_text) same.0 x.is_text.is_map_text) y.is_text.is_map_text in
      x.is_text.whole ∙ ap₂ (λ (t r : List ℕ). t ++ list_line (codes "residue") r ++ newline ∷ []) map_text same.1 ∙ sym y.is_text.whole

  no_line : (bytes : List ℕ) (P : List ℕ → Type 0) (line : ℕ) → HasChoices bytes P → IsBrokenLine IsChoicesFile bytes line → ⊥
  no_line bytes P line x y = valid_has_no_broken_line IsChoicesFile bytes line (x.choices, x.spelled) y

  same_choices : (bytes : List ℕ) (P Q : List ℕ → Type 0) (x : HasChoices bytes P) (y : HasChoices bytes Q) → P y.choices
  same_choices bytes P Q x y = subst P (one_choices bytes x.choices y.choices x.spelled y.spelled) x.holds

  not_refused : (bytes text : List ℕ) (refusal : ListRefusal) → HasChoices bytes (λ c. IsSampleText at.samples c text) → HasChoices bytes (λ c. IsRefusalOf c at.choice_limits refusal) → ⊥
  not_refused bytes text refusal x y =
      let h = same_choices bytes (λ c. IsSampleText at.samples c text) (λ c. IsRefusalOf c at.choice_limits refusal) x y in
      valid_or_refused y.choices at.choice_limits refusal (valid y.choices h.map h.residue h.sampled) y.holds

  pub samples_once : (bytes : List ℕ) (a b : Result (List ℕ) Refusal) → Samples at bytes a → Samples at bytes b → a ≡ b
  samples_once bytes _ _ (sampled text x) (sampled other y) =
      ap Ok (one_sample_text y.choices text other (same_choices bytes (λ c. IsSampleText at.samples c text) (λ c. IsSampleText at.samples c other) x y) y.holds)
  samples_once bytes _ _ (sampled text x) (no_list line y) = absurd (no_line bytes (λ c. IsSampleText at.samples c text) line x y)
  samples_once bytes _ _ (sampled text x) (not_valid refusal y) = absurd (not_refused bytes text refusal x y)
  samples_once bytes _ _ (no_list line x) (sampled text y) = absurd (no_line bytes (λ c. IsSampleText at.samples c text) line y x)
  samples_once bytes _ _ (no_list line x) (no_list other y) = ap (λ (l : ℕ). Err (Text l)) (broken_line_is_unique IsChoicesFile bytes line other x y)
  samples_once bytes _ _ (no_list line x) (not_valid refusal y) = absurd (no_line bytes (λ c. IsRefusalOf c at.choice_limits refusal) line y x)
  samples_once bytes _ _ (not_valid refusal x) (sampled text y) = absurd (not_refused bytes text refusal y x)
  samples_once bytes _ _ (not_valid refusal x) (no_list line y) = absurd (no_line bytes (λ c. IsRefusalOf c at.choice_limits refusal) line x y)
  samples_once bytes _ _ (not_valid refusal x) (not_valid other y) =
      ap (λ (r : ListRefusal). Err (Invalid r)) (one_list_refusal y.choices at.choice_limits refusal other
      (same_choices bytes (λ c. IsRefusalOf c at.choice_limits refusal) (λ c. IsRefusalOf c at.choice_limits other) x y) y.holds)

  -- and drawing has one
  pub draws_once : (seed count : ℕ) (a b : Result (List ℕ) Refusal) → Draws at.choice_limits at.samples seed count a → Draws at.choice_limits at.samples seed count b → a ≡ b
  draws_once seed count (Ok text) (Ok other) x y =
      ap Ok (records_once (IsDrawnRecord at.choice_limits at.samples seed)
      (λ place. one_record at.samples one_sample_text (drawn at.choice_limits (left_after at.choice_limits (words_of (generator_of seed)) place)).0) count text other x y)
  draws_once seed count (Ok text) (Err refusal) x y = absurd y
  draws_once seed count (Err refusal) b x y = absurd x

-- a trip has one answer, where choices give one map
pub trips_once : (at : AtSize) → HasOneSample at.samples → (seed : ℕ) (a b : Result (List ℕ) Refusal)
    → Trips at.choice_limits at.samples seed a → Trips at.choice_limits at.samples seed b → a ≡ b
trips_once at one seed (Ok text) (Ok other) x y =
    let same = one (first_drawn at.choice_limits seed) x.map y.map x.residue y.residue x.sampled y.sampled in
    ap Ok (x.is_text ∙ ap (λ (m : RotationSystem). codes "trip " ++ counts_line m) same.0 ∙ sym y.is_text)
trips_once at one seed (Ok text) (Err refusal) x y = absurd y
trips_once at one seed (Err refusal) b x y = absurd x
