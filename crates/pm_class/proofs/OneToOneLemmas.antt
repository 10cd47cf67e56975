-- The parts of the one law of a class at a size.
use Rattle.std.proofs.Common.{ℕ, List}
use Rattle.pm_map.specs.Rotation.{RotationSystem}
use Rattle.pm_class.specs.OneToOne.{AreOfClass, Gives, AreOneToOne}
use Rattle.pm_class.specs.Sampling.{EachListIsSampled}

module _ (bounds residues : List ℕ) (has : RotationSystem → Type 0) (samples : List ℕ → RotationSystem → List ℕ → Type 0) where
  -- each valid list is sampled
  pub each_is_sampled : AreOneToOne bounds residues has samples → EachListIsSampled bounds residues has samples
  each_is_sampled law choices valid =
      let found : Gives samples choices = law.each_list choices valid in
      let is : AreOfClass bounds residues has choices found.map found.residue = law.only choices found.map found.residue found.given in (
        record { map = found.map; residue = found.residue },
        record {
          valid = valid;
          given = found.given;
          rooted = is.member.rooted;
          canonical = is.member.canonical;
          in_class = is.member.in_class;
          valid_residue = is.valid_residue;
        },
      )
