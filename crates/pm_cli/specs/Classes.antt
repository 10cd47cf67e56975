-- The classes of maps, as bundles of what each says of sizes, maps and lists.
use Rattle.std.specs.Prelude.{ℕ, List, Result, codes, decimal}
use Rattle.pm_limits.specs.declared.TheConstants.{MAX_EDGES}
use Rattle.pm_trees.specs.Pairs.{IsProfile}
use Rattle.pm_map.specs.declared.class_refusal.ClassRefusal.{ClassRefusal}
use Rattle.pm_map.specs.ClassRules.{IsQuarticAnswer, IsTriangulationAnswer}
use Rattle.pm_map.specs.Classes.{IsQuartic, IsEulerian, IsGeneral, IsBipartite}
use Rattle.pm_map.specs.Rotation.{RotationSystem, structure_of}
use Rattle.pm_class.specs.declared.sample.UnsampleRefusal.{UnsampleRefusal}
use Rattle.pm_class.specs.Unsampling.{IsUnsampling}
use Rattle.pm_euler.specs.Bounds.{quartic_choices, quartic_residues, eulerian_choices, eulerian_residues}
use Rattle.pm_euler.specs.Eulerian.{IsEulerianAnswer, SamplesEulerian}
use Rattle.pm_euler.specs.Quartic.{IsQuarticSize, SamplesQuartic}
use Rattle.pm_general.specs.Bipartite.{IsBipartiteAnswer, SamplesBipartite}
use Rattle.pm_general.specs.General.{most_general_edges, IsGeneralAnswer, IsGeneralSize, SamplesGeneral}
use Rattle.pm_cli.specs.declared.class.Checked.{Checked}
use Rattle.pm_cli.specs.declared.class.Checked.TheVariants as checked
use Rattle.pm_cli.specs.declared.class.Class.{Class}
use Rattle.pm_cli.specs.declared.class.Class.TheVariants as class
use Rattle.pm_cli.specs.declared.class.Size.{Size}
use Rattle.pm_cli.specs.declared.class.Size.TheVariants as sizes
use Rattle.pm_cli.specs.MapAnswers.{MapRelation, counting}
use Rattle.pm_cli.specs.ProfileWord.{profile_text}

-- a class: its sizes, the most edges, the bounds of choices and residues, its maps, what a map is answered, and what
-- choices give
pub record Sampler : Type 1 where
  pub Measure : Type 0
  pub most_edges : ℕ
  pub is_size : Measure → Type 0
  pub choice_limits : Measure → List ℕ
  pub residue_limits : Measure → List ℕ
  pub has : Measure → RotationSystem → Type 0
  pub answers : RotationSystem → Result Measure ClassRefusal → Type 0
  pub samples : Measure → List ℕ → RotationSystem → List ℕ → Type 0

abbrev pub quartic_sampler : Sampler
quartic_sampler = record {
  Measure = ℕ;
  most_edges = MAX_EDGES;
  is_size = IsQuarticSize;
  choice_limits = quartic_choices;
  residue_limits = quartic_residues;
  has = λ n m. IsQuartic (structure_of m) n;
  answers = IsQuarticAnswer;
  samples = SamplesQuartic;
}

abbrev pub eulerian_sampler : Sampler
eulerian_sampler = record {
  Measure = List (ℕ × ℕ);
  most_edges = MAX_EDGES;
  is_size = IsProfile;
  choice_limits = eulerian_choices;
  residue_limits = eulerian_residues;
  has = λ pairs m. IsEulerian (structure_of m) pairs;
  answers = IsEulerianAnswer;
  samples = SamplesEulerian;
}

abbrev pub general_sampler : Sampler
general_sampler = record {
  Measure = ℕ;
  most_edges = most_general_edges;
  is_size = IsGeneralSize;
  choice_limits = quartic_choices;
  residue_limits = quartic_residues;
  has = λ n m. IsGeneral (structure_of m) n;
  answers = IsGeneralAnswer;
  samples = SamplesGeneral;
}

abbrev pub bipartite_sampler : Sampler
bipartite_sampler = record {
  Measure = List (ℕ × ℕ);
  most_edges = MAX_EDGES;
  is_size = IsProfile;
  choice_limits = eulerian_choices;
  residue_limits = eulerian_residues;
  has = λ pairs m. IsBipartite (structure_of m) pairs;
  answers = IsBipartiteAnswer;
  samples = SamplesBipartite;
}

abbrev pub sampler_of : Class → Sampler
sampler_of class.General = general_sampler
sampler_of class.Quartic = quartic_sampler
sampler_of class.Eulerian = eulerian_sampler
sampler_of class.Bipartite = bipartite_sampler

-- a class at one size
pub record AtSize : Type 1 where
  pub is_size : Type 0
  pub choice_limits : List ℕ
  pub residue_limits : List ℕ
  pub has : RotationSystem → Type 0
  pub samples : List ℕ → RotationSystem → List ℕ → Type 0

abbrev pub at_size : (S : Sampler) → S.Measure → AtSize
at_size S size = record {
  is_size = S.is_size size;
  choice_limits = S.choice_limits size;
  residue_limits = S.residue_limits size;
  has = S.has size;
  samples = S.samples size;
}

abbrev pub sized : Size → AtSize
sized (sizes.General size) = at_size general_sampler size
sized (sizes.Quartic size) = at_size quartic_sampler size
sized (sizes.Eulerian profile) = at_size eulerian_sampler profile
sized (sizes.Bipartite profile) = at_size bipartite_sampler profile

-- the class has maps of the size
abbrev pub IsSize : Size → Type 0
IsSize size = (sized size).is_size

abbrev pub class_of : Size → Class
class_of (sizes.General size) = class.General
class_of (sizes.Quartic size) = class.Quartic
class_of (sizes.Eulerian profile) = class.Eulerian
class_of (sizes.Bipartite profile) = class.Bipartite

-- a class at its maps: the most edges, what a map is told of its counts, and what is unsampled of a map and a residue
pub record InClass : Type 1 where
  pub most_edges : ℕ
  pub counts : MapRelation
  pub unsamples : RotationSystem → List ℕ → Result (List ℕ) UnsampleRefusal → Type 0

abbrev pub in_class : Sampler → InClass
in_class S = record { most_edges = S.most_edges; counts = counting S.most_edges S.answers; unsamples = IsUnsampling S.choice_limits S.residue_limits S.samples S.answers }

abbrev pub class_at : Class → InClass
class_at class = in_class (sampler_of class)

-- what `check` answers to a map, by the class
abbrev pub counts_of : Checked → MapRelation
counts_of (checked.Sampled class) = let at : InClass = class_at class in at.counts
counts_of checked.Tri = counting MAX_EDGES IsTriangulationAnswer

-- the words of classes and of their sizes
abbrev pub class_word : Class → List ℕ
class_word class.General = codes "general"
class_word class.Quartic = codes "quartic"
class_word class.Eulerian = codes "eulerian"
class_word class.Bipartite = codes "bipartite"

abbrev pub checked_word : Checked → List ℕ
checked_word (checked.Sampled class) = class_word class
checked_word checked.Tri = codes "tri"

abbrev pub size_word : Size → List ℕ
size_word (sizes.General size) = decimal size
size_word (sizes.Quartic size) = decimal size
size_word (sizes.Eulerian profile) = profile_text profile
size_word (sizes.Bipartite profile) = profile_text profile
