use Rattle.std.proofs.Common.{[], ◌∷◌, refl, map, arith}
use Rattle.std.specs.Prelude.{decimal, string_bytes}
use Rattle.pm_cli.specs.steps.Words.{AreSeedWords}
use Rattle.pm_cli.proofs.StoppingWords.{no_size_before, none_after_size}
use Rattle.pm_cli.proofs.command.Command.of_trip.Goals as goal

pub returns-in-Err : goal.returns-in-Err
returns-in-Err c =
    let stops = rw c.in-Err.is at c.in_ok-size.ensures in (
      omega (arith, stops.0),
      no_size_before AreSeedWords _ (decimal 0 ∷ []) c.in-Err.matched (record { word = decimal 0; is = (0, (omega arith, refl)); alone = refl }) stops.0 stops.1,
    )

pub returns-in-Err-seed_alone : goal.returns-in-Err-seed_alone
returns-in-Err-seed_alone c =
    let read = rw c.in-Ok.is at c.in_ok-size.ensures in
    let stops = c.in-Err-seed_alone.ensures in
    (omega (arith, stops.0), none_after_size AreSeedWords _ (map string_bytes c.in-Ok.field-0.rest.now) c.in-Ok.field-0.size c.in-Err-seed_alone.matched read.1 read.0 stops.1)
