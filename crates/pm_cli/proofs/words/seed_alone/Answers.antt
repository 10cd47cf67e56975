use Rattle.std.proofs.Common.{List, ℕ, ◌∷◌, refl, ap, ap₂, ◌∙◌, subst, map, arith}
use Rattle.std.specs.Prelude.{decimal, string_bytes}
use Rattle.pm_text.specs.Numeral.{IsNumber}
use Rattle.pm_cli.specs.steps.Words.{IsSeedWord}
use Rattle.pm_cli.proofs.Sizes.{spells_no_number, seed_of}
use Rattle.pm_cli.proofs.StoppingWords.{empty, no_words, some_words, missing_word, other_word, words_after}
use Rattle.pm_cli.proofs.words.seed_alone.Goals as goal

some_seed : IsSeedWord (decimal 0)
some_seed = (0, (omega arith, refl))

pub returns-in_default : goal.returns-in_default
returns-in_default c = (omega arith, missing_word IsSeedWord (decimal 0) some_seed _ (no_words string_bytes c.args.words.now c.in_default.ensures.cases))

pub returns-in_default-number : goal.returns-in_default-number
returns-in_default-number c = (
  omega arith,
  other_word IsSeedWord (decimal 0) some_seed _ _ _ (ap (map string_bytes) c.in-Some.ensures.cases.0)
      (λ is. spells_no_number _ (subst (λ (w : List ℕ). (value : ℕ) → IsNumber w value → ⊥) c.as_bytes.ensures.value c.in_default-number.ensures.cases) is.0 is.1.0 is.1.1),
)

pub returns-then-is_empty : goal.returns-then-is_empty
returns-then-is_empty c =
    let seed = seed_of _ _ _ c.as_bytes.ensures.value c.in-Some-number.ensures.cases in
    let none = no_words string_bytes c.in-Some.rest.now (empty _ c.if-is_empty.ensures) in
    (seed.0, ap (map string_bytes) c.in-Some.ensures.cases.0 ∙ ap₂ (λ (v : List ℕ) (w : List (List ℕ)). v ∷ w) seed.1 none)

pub returns-else-is_empty : goal.returns-else-is_empty
returns-else-is_empty c =
    let seed = seed_of _ _ _ c.as_bytes.ensures.value c.in-Some-number.ensures.cases in (
      omega arith,
      words_after IsSeedWord (decimal 0) some_seed _ _ _ (ap (map string_bytes) c.in-Some.ensures.cases.0) (c.in-Some-number.seed, seed)
          (some_words string_bytes c.in-Some.rest.now c.if-is_empty.ensures),
    )
