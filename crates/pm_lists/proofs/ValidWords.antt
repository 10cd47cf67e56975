-- Valid lists have numbers of 64 bits where their bounds do.
use Rattle.std.proofs.Common.{ℕ, ◌^◌, ◌<◌, List, length, arith}
use Rattle.std.specs.Prelude.{slice_index}
use Rattle.std.proofs.lemmas.List.Elements.{All-get_or, All-from_get_or}
use Rattle.pm_lists.specs.ListLine.{AreWords}
use Rattle.pm_lists.specs.Valid.{IsValidList}

pub valid_are_words : (values bounds : List ℕ) → IsValidList values bounds → AreWords bounds → AreWords values
valid_are_words values bounds valid fit = record { each = All-from_get_or (λ value. value < 2 ^ 64) values 0 at } where
  at : (place : ℕ) → place < length values → slice_index values place < 2 ^ 64
  at place l =
      let few : slice_index bounds place < 2 ^ 64 = All-get_or (λ bound. bound < 2 ^ 64) bounds place 0 (let same = valid.as_long in omega arith) fit.each in
      let less = valid.below place l in
      omega arith
