-- The laws of the samples of simple triangulations: a valid list of choices has one sample.
use Rattle.std.specs.Prelude.{ℕ}
use Rattle.pm_class.specs.Sampling.{EachListIsSampled, HasOneSample}
use Rattle.pm_tri.specs.Bounds.{tri_choices, tri_residues}
use Rattle.pm_tri.specs.Triangulations.{IsTriSize}
use Rattle.pm_trisample.specs.Samples.{IsTriSample}
use Rattle.pm_trisample.specs.Triangulated.{IsTriangulated}

-- each valid list gives a map and a residue: the map is canonical and a simple triangulation of the size, and the residue is valid
abbrev pub TriListsAreSampled : Type 0
TriListsAreSampled = (n : ℕ) → IsTriSize n → EachListIsSampled (tri_choices n) (tri_residues n) (IsTriangulated n) (IsTriSample n)

-- and no list gives two
abbrev pub TriListsHaveOneSample : Type 0
TriListsHaveOneSample = (n : ℕ) → IsTriSize n → HasOneSample (IsTriSample n)
