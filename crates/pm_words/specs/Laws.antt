-- The law of the good starts of a word.
use Rattle.std.specs.Prelude.{◌≡◌, ℕ, ◌<◌, ℤ, pos, neg_ℤ, List}
use Rattle.pm_words.specs.Word.{IsWord, IsGoodStarts, sum_of}

-- the cycle lemma (Dvoretzky and Motzkin 1947): a word that sums to -goal has goal good starts
abbrev pub CycleLemma : Type 0
CycleLemma = (goal : ℕ) (word : List ℤ) → 0 < goal → IsWord word → sum_of word ≡ neg_ℤ (pos goal) → (starts : List ℕ) × IsGoodStarts goal word starts
