-- The laws of a class, as a bundle.
use Rattle.pm_class.specs.ClassLaws.{IsKeptByRenumbering, AreLimits, HasMostEdges}
use Rattle.pm_class.specs.OneToOne.{AreOneToOne}
use Rattle.pm_class.specs.Sampling.{IsSizeWhereAnswered, HasOneAnswer, HasSomeAnswer}
use Rattle.pm_cli.specs.Classes.{Sampler, AtSize}

-- the laws of a class, as its sampler gives them
pub record IsSampler (S : Sampler) : Type 0 where
  pub sized : IsSizeWhereAnswered S.is_size S.has S.answers
  pub kept : (size : S.Measure) → S.is_size size → IsKeptByRenumbering (S.has size)
  pub some_answer : HasSomeAnswer S.answers
  pub one_answer : HasOneAnswer S.answers
  pub one_to_one : (size : S.Measure) → S.is_size size → AreOneToOne (S.choice_limits size) (S.residue_limits size) (S.has size) (S.samples size)
  pub limits : (size : S.Measure) → S.is_size size → AreLimits (S.choice_limits size) (S.residue_limits size)
  pub most_edges : HasMostEdges S.is_size S.has S.most_edges

-- and those at one size
pub record IsAtSize (at : AtSize) : Type 0 where
  pub one_to_one : AreOneToOne at.choice_limits at.residue_limits at.has at.samples
  pub limits : AreLimits at.choice_limits at.residue_limits
