use Rattle.std.proofs.Common.{ℕ, List, ◌∷◌, sym, ap, ap₂, ◌∙◌, subst, map, take, arith}
use Rattle.std.specs.Prelude.{string_bytes}
use Rattle.pm_text.specs.Numeral.{IsNumber}
use Rattle.pm_cli.proofs.Sizes.{spells_no_number, seed_of}
use Rattle.pm_cli.proofs.StoppingWords.{empty, no_words, some_words, no_seed_first, no_count_behind, words_after_numbers, first_words, no_first}
use Rattle.pm_cli.proofs.words.read_numbers.Goals as goal

pub returns-in_default : goal.returns-in_default
returns-in_default c = (omega arith, no_seed_first _ (λ seed fits e. no_first (ap (take 1) (sym (no_words string_bytes c.args.words.now c.in_default.ensures.cases)) ∙ e)))

pub returns-in_default-number : goal.returns-in_default-number
returns-in_default-number c = (
  omega arith,
  no_seed_first _ (λ seed fits e. spells_no_number _ (subst (λ (w : List ℕ). (value : ℕ) → IsNumber w value → ⊥) c.as_bytes.ensures.value c.in_default-number.ensures.cases) seed fits
      (first_words (ap (take 1) (sym (ap (map string_bytes) c.in-Some.ensures.cases.0)) ∙ e))),
)

pub returns-in_default-split_first : goal.returns-in_default-split_first
returns-in_default-split_first c =
    let seed = seed_of _ _ _ c.as_bytes.ensures.value c.in-Some-number.ensures.cases in (
      omega arith,
      no_count_behind _ (map string_bytes c.in-Some.behind.now) c.in-Some-number.seed
          (ap (map string_bytes) c.in-Some.ensures.cases.0 ∙ ap (λ (w : List ℕ). w ∷ map string_bytes c.in-Some.behind.now) seed.1) seed.0
          (λ count some few e. no_first (ap (take 1) (sym (no_words string_bytes c.in-Some.behind.now c.in_default-split_first.ensures.cases)) ∙ e)),
    )

pub returns-in_default-record_count : goal.returns-in_default-record_count
returns-in_default-record_count c =
    let seed = seed_of _ _ _ c.as_bytes.ensures.value c.in-Some-number.ensures.cases in (
      omega arith,
      no_count_behind _ (map string_bytes c.in-Some.behind.now) c.in-Some-number.seed
          (ap (map string_bytes) c.in-Some.ensures.cases.0 ∙ ap (λ (w : List ℕ). w ∷ map string_bytes c.in-Some.behind.now) seed.1) seed.0
          (λ count some few e. c.in_default-record_count.ensures count some few (first_words (ap (take 1) (sym (ap (map string_bytes) c.in-Some-split_first.ensures.cases.0)) ∙ e))),
    )

pub returns-then-is_empty : goal.returns-then-is_empty
returns-then-is_empty c =
    let seed = seed_of _ _ _ c.as_bytes.ensures.value c.in-Some-number.ensures.cases in
    let count = c.in-Some-record_count.ensures in
    let none = no_words string_bytes c.in-Some-split_first.rest.now (empty _ c.if-is_empty.ensures) in (
      record { fits = seed.0; some = count.0; few = count.1 },
      ap (map string_bytes) c.in-Some.ensures.cases.0 ∙ ap₂ (λ (v : List ℕ) (w : List (List ℕ)). v ∷ w) seed.1
          (ap (map string_bytes) c.in-Some-split_first.ensures.cases.0 ∙ ap₂ (λ (v : List ℕ) (w : List (List ℕ)). v ∷ w) count.2 none),
    )

pub returns-else-is_empty : goal.returns-else-is_empty
returns-else-is_empty c =
    let seed = seed_of _ _ _ c.as_bytes.ensures.value c.in-Some-number.ensures.cases in
    let count = c.in-Some-record_count.ensures in (
      omega arith,
      words_after_numbers _ (map string_bytes c.in-Some-split_first.rest.now) c.in-Some-number.seed c.in-Some-record_count.count
          (ap (map string_bytes) c.in-Some.ensures.cases.0 ∙ ap₂ (λ (v : List ℕ) (w : List (List ℕ)). v ∷ w) seed.1
          (ap (map string_bytes) c.in-Some-split_first.ensures.cases.0 ∙ ap (λ (v : List ℕ). v ∷ map string_bytes c.in-Some-split_first.rest.now) count.2))
          (record { fits = seed.0; some = count.0; few = count.1 }) (some_words string_bytes c.in-Some-split_first.rest.now c.if-is_empty.ensures),
    )
