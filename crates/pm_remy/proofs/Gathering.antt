-- The reading of a tree's words from the right: the labels of the trees that are read so far.
use Rattle.std.proofs.Common.{◌≡◌, ℕ, ◌+◌, ◌≤◌, List, [], ◌∷◌, refl, arith}
use Rattle.pm_remy.specs.Tree.{Tree, labels_of}
use Rattle.pm_remy.proofs.Counts.{label_times}
use Rattle.pm_remy.proofs.Once.{times, times-append, times-labels}
use Rattle.pm_remy.proofs.Reading.{labels_of_all}

-- labels of several trees, each at most once and below a bound
abbrev pub label_times_all : ℕ → List Tree → ℕ
label_times_all m [] = 0
label_times_all m (t ∷ ts) = label_times m t + label_times_all m ts

pub times-labels_all : (m : ℕ) (ts : List Tree) → times m (labels_of_all ts) ≡ label_times_all m ts
times-labels_all m [] = refl
times-labels_all m (t ∷ ts) = omega (arith, times-append m (labels_of t) (labels_of_all ts), times-labels m t, times-labels_all m ts)

pub record AreApart (bound : ℕ) (ts : List Tree) : Type 0 where
  pub once : (m : ℕ) → label_times_all m ts ≤ 1
  pub none : (m : ℕ) → bound ≤ m → label_times_all m ts ≡ 0
