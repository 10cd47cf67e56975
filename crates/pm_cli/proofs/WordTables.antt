-- Words as tables with a left inverse.
use Rattle.std.proofs.Common.{◌≡◌, ℕ, List, [], ◌∷◌, sym, ap, ◌∙◌}
use Rattle.std.specs.Prelude.{Option, None, Some, if◌then◌else◌}
use Rattle.std.specs.Str.{bytes_eq}

-- what stands in the first row with this word
abbrev pub looked_up : {X : Type 0} → List (List ℕ × X) → List ℕ → Option X
looked_up [] word = None
looked_up (row ∷ rows) word = if bytes_eq word row.0 then Some row.1 else looked_up rows word

same_row : {X : Type 0} {a b : X} → Some a ≡ Some b → a ≡ b
same_row e = cc

-- a table that finds each value by its word has one value for a word
pub one_value : {X : Type 0} (rows : List (List ℕ × X)) (word_of : X → List ℕ) → ((x : X) → looked_up rows (word_of x) ≡ Some x) → (a b : X) → word_of a ≡ word_of b → a ≡ b
one_value rows word_of found a b e = same_row (sym (found a) ∙ ap (looked_up rows) e ∙ found b)
